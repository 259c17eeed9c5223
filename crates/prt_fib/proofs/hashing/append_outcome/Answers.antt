use Rattle.std.proofs.Common.{length, arith, ap, ◌∙◌, length-append}
use Rattle.std.proofs.lemmas.List.{get_or_default}
use Rattle.prt_fib.specs.Hashes.{hash_of}
use Rattle.prt_fib.proofs.Linked.{index_made}
use Rattle.prt_fib.proofs.hashing.append_outcome.Goals as goal

pub returns-clause-index : goal.returns-clause-index
returns-clause-index c =
    index_made hash_of c.args.outcomes.now.items c.push_outcome.new.outcomes.items c.args.outcome.now c.args.heads.now.items c.args.next.now.items c.push.new.self.items
    c.hash_of-hash.result c.len.result c.index.result.now
    c.requires.index c.hash_of-hash.ensures.value c.hash_of-hash.ensures.small c.requires.few c.requires.absent
    c.in_ok-push_outcome.ensures
    (c.index.ensures ∙ get_or_default c.args.heads.now.items c.hash_of-hash.result c.index.result.now 0 (omega (arith, c.requires.index.size, c.hash_of-hash.ensures.small)))
    c.in_ok-push.ensures.items
    (c.len.ensures ∙ c.push_outcome.new.outcomes.ok.0 ∙ ap length c.in_ok-push_outcome.ensures ∙ length-append c.args.outcomes.now.items _)
