use Rattle.std.proofs.Common.{◌≡◌, ◌-◌, ◌≤◌, arith, length, get_or, ap}
use Rattle.prt_trie.specs.declared.sweep.Rest.{Rest}
use Rattle.prt_trie.proofs.Sweeps.{bits_read, from_row, to_from_top}
use Rattle.prt_trie.proofs.sweep.Sweep.close_before.Goals as goal

pub close-requires-clause-past : goal.close-requires-clause-past
close-requires-clause-past c d j e from l =
    let same : c.top.result.last ≡ (get_or c.loop-self.self.rests.items (length c.loop-self.self.rests.items - 1) d).last = ap (λ (r : Rest). r.last) (c.top.ensures d) in
    let here : c.bits-bits.result ≤ (get_or c.args.rows.now j e).prefix.bits =
    from_row c.args.rows.now c.args.at c.bits-bits.result c.requires.table c.requires.at (bits_read c.args.rows.now c.args.at c.index-rows-at.result c.bits-bits.result c.requires.at c.bits-bits.ensures.value) j e from l in
    omega arith

pub returns-clause-to : goal.returns-clause-to
returns-clause-to c d k e l =
    let bits : (get_or c.args.rows.now c.args.at d).prefix.bits ≡ c.bits-bits.result = bits_read c.args.rows.now c.args.at c.index-rows-at.result c.bits-bits.result c.requires.at c.bits-bits.ensures.value d in
    let to : c.bits-bits.result ≤ (get_or c.loop-self.self.rests.items k e).last =
    to_from_top c.args.rows.now c.args.at c.loop-self.self.rests.items c.loop-self.self.next c.bits-bits.result c.loop-self.invariant.are_rests
    (λ f. let same : c.top.result.last ≡ (get_or c.loop-self.self.rests.items (length c.loop-self.self.rests.items - 1) f).last = ap (λ (r : Rest). r.last) (c.top.ensures f) in omega arith) k e l
    in
    omega arith
