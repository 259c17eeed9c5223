use Rattle.std.proofs.Common.{◌≡◌, ◌∙◌, ◌+◌, Option, Some, None, Ok, Err, refl, ap, sym, subst, Bor, List, ℕ}
use Rattle.std.specs.Option.{ok_or}
use Rattle.prt_refusals.specs.declared.refusal.Refusal.{Refusal}
use Rattle.prt_route.specs.Names.{protocol}
use Rattle.prt_args.proofs.Readings.{AreRead, one_more, one_wrong}
use Rattle.prt_args.proofs.reach.read_protocols.Goals as goal

refused : {X : Type 0} (value : Option X) (why given : Refusal) → Err given ≡ ok_or value why → value ≡ None
refused None why given is = refl
refused (Some x) why given is = absurd cc

taken : {X : Type 0} (value : Option X) (why : Refusal) (x : X) → Ok x ≡ ok_or value why → value ≡ Some x
taken None why x is = absurd cc
taken (Some y) why x is = cc

abbrev protocol_of : Bor (List ℕ) → Option ℕ
protocol_of word = protocol word.now

pub returns-in_default : goal.returns-in_default
returns-in_default c =
    let none = ap protocol (sym c.as_bytes.ensures.value) ∙ refused (protocol c.as_bytes.result.now) _ _ c.in_default.ensures in
    sym (one_wrong protocol_of c.args.words.now c.loop-word.word-index _ c.loop-word.protocols.items c.loop-word-test.true none c.loop-word.invariant)

pub loop-word-preserved : goal.loop-word-preserved
loop-word-preserved c =
    let some = ap protocol (sym c.as_bytes.ensures.value) ∙ taken (protocol c.as_bytes.result.now) _ c.in-Ok.protocol c.in-Ok.ensures in
    let more = one_more protocol_of c.args.words.now c.loop-word.word-index _ c.loop-word.protocols.items c.in-Ok.protocol c.loop-word-test.true some c.loop-word.invariant in
    subst (AreRead protocol_of c.args.words.now (c.loop-word.word-index + 1)) (sym c.in_ok-push.ensures.items) more
