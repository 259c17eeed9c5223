use Rattle.std.proofs.Common.{◌≤◌, sym, ◌∙◌, option_map}
use Rattle.prt_addr.proofs.Octets.{five_parts, still_some, some_none}
use Rattle.prt_addr.proofs.addr.read_octets.Goals as goal
use Rattle.prt_addr.proofs.addr.read_octets.Goals.{else-loop-octet-test, then-loop-octet-test+in_default}

pub returns-then-is_some : goal.returns-then-is_some
returns-then-is_some c =
    elim c.loop-octet-test.branch [
      | else-loop-octet-test w ↦
          let past : 4 ≤ c.loop-octet.octet-index = w.loop-octet-test.false in
          let left = still_some (λ rest. rest.now) c.loop-octet.rest ∙ sym c.if-is_some.ensures in
          sym (five_parts c.args.word.now (option_map (λ rest. rest.now) c.loop-octet.rest) c.loop-octet.octet-items c.loop-octet.octet-index c.loop-octet.invariant past left)
      | then-loop-octet-test+in_default w ↦ absurd (some_none c.loop-octet.rest (sym c.if-is_some.ensures) w.in_default.is)
    ]
