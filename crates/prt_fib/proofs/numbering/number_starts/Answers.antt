use Rattle.std.proofs.Common.{◌≡◌, ◌⊎◌, ◌+◌, ◌^◌, ◌<◌, [], ℕ, List, take, Result, Ok, Err, sym, subst, arith, replicate, slice_index}
use Rattle.std.specs.Result.{IfErr, IsErrAnd}
use Rattle.prt_refusals.specs.declared.refusal.Refusal.{Refusal}
use Rattle.prt_refusals.specs.declared.refusal.Refusal.TheVariants.{Full, NoMemory}
use Rattle.prt_fib.specs.Fib.{HasTooMany, outcome_to}
use Rattle.prt_fib.specs.Hashes.{IsIndex, hash_of}
use Rattle.prt_fib.specs.Numbers.{AreNumbered, IsLeftOut, IsNumber}
use Rattle.prt_fib.proofs.Linked.{index_none}
use Rattle.prt_fib.proofs.Numbered.{numbered_next, numbered_none, reason_by}
use Rattle.prt_fib.proofs.numbering.number_starts.Goals as goal

pub loop-start-init : goal.loop-start-init
loop-start-init c =
    let state = c.args.version.now in
    let packet = c.args.packet.now in
    record {
      numbered = subst (λ n. AreNumbered state packet [] n c.new-outcomes.result.items) (sym c.in_ok-numbers.ensures.items) (subst (λ o. AreNumbered state packet [] [] o) (sym c.new-outcomes.ensures.items) (numbered_none state packet));
      index = subst (λ o. IsIndex hash_of o c.in_ok-heads.heads.items c.new-next.result.items) (sym c.new-outcomes.ensures.items)
          (subst (λ h. IsIndex hash_of [] h c.new-next.result.items) (sym (c.in_ok-heads.ensures.items_if_clones_equal (λ y same. same)))
          (subst (λ n. IsIndex hash_of [] (replicate 8191 0) n) (sym c.new-next.ensures.items) (index_none hash_of)));
    }

handed : {X : Type 0} (P : Refusal → Type 0) (reason : Refusal) (result : Result X Refusal) → IsErrAnd result (λ e. e ≡ reason) → P reason → IfErr result P
handed P reason (Ok x) is holds = tt
handed P reason (Err e) is holds = subst P (sym is) holds

pub returns-in_err-number-clause-reason : goal.returns-in_err-number-clause-reason
returns-in_err-number-clause-reason c =
    let state = c.args.version.now in
    let packet = c.args.packet.now in
    let starts : List ℕ = c.args.starts.now in
    let i : ℕ = c.loop-start.start-index in
    let reason = c.in_err-number.field-0.0 in
    let fits : slice_index starts i < 2 ^ 32 = let all = c.type_inv.starts i in omega arith in
    let why : ((reason ≡ Full) × IsLeftOut c.loop-start.outcomes.items (outcome_to state packet (slice_index starts i))) ⊎ (reason ≡ NoMemory) =
    subst (λ o. ((reason ≡ Full) × IsLeftOut c.loop-start.outcomes.items o) ⊎ (reason ≡ NoMemory)) c.outcome_to-outcome.ensures c.in_err-number.ensures.reason in
    handed (λ e. ((e ≡ Full) × HasTooMany state packet) ⊎ (e ≡ NoMemory)) reason c.from_residual-in_err-number.result c.from_residual-in_err-number.ensures.1
    (reason_by state packet (take i starts) c.loop-start.numbers.items (slice_index starts i) c.loop-start.outcomes.items reason c.loop-start.invariant.numbered fits why)

pub loop-start-preserved : goal.loop-start-preserved
loop-start-preserved c =
    let state = c.args.version.now in
    let packet = c.args.packet.now in
    let starts : List ℕ = c.args.starts.now in
    let i : ℕ = c.loop-start.start-index in
    let old = c.loop-start.outcomes.items in
    let new = c.number_of.new.outcomes.items in
    let number : ℕ = c.in_ok-number.number in
    let fits : slice_index starts i < 2 ^ 32 = let all = c.type_inv.starts i in omega arith in
    record {
      numbered = subst (λ n. AreNumbered state packet (take (i + 1) starts) n new) (sym c.in_ok-push.ensures.items)
          (numbered_next state packet starts c.loop-start.numbers.items i number old new c.loop-start-test.true c.loop-start.invariant.numbered fits
          (subst (λ o. IsNumber old o number new) c.outcome_to-outcome.ensures c.in_ok-number.ensures.value));
      index = c.in_ok-number.ensures.index;
    }
