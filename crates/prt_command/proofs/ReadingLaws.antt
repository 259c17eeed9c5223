-- What a verb and its words ask for.
use Rattle.std.proofs.Common.{◌≡◌, zero, List, Result, Ok, Err, refl, ◌∙◌, ap, sym, arith}
use Rattle.prt_addr.specs.Word.{Word}
use Rattle.prt_refusals.specs.declared.refusal.Refusal.{Refusal}
use Rattle.prt_command.specs.Scan.{items_of}
use Rattle.prt_command.specs.Items.{no_items}
use Rattle.prt_command.specs.Reading.{Meaning, items_request}
use Rattle.prt_command.specs.Spelling.{Spells, HasFault, of_item, of_items}
use Rattle.prt_command.specs.Then.{◌>>=◌}
use Rattle.prt_command.specs.declared.item.Items.{Items}
use Rattle.prt_command.specs.declared.request.Request.{Request}
use Rattle.prt_command.proofs.Results.{err_result, err_inj}
use Rattle.prt_command.proofs.GrammarLaws.{good_of_items, only, fault, fault_only}

spells_by : (verb : Meaning) (ws : List Word) (request : Request) (r : Result Items Refusal) → items_of verb.line no_items ws ≡ r → (r >>= verb.asks) ≡ Ok request → Spells verb ws request
spells_by verb ws request (Err e) read h = absurd cc
spells_by verb ws request (Ok items) read h =
    let d = good_of_items verb.line ws zero no_items items read (omega arith) in
    record { taken = d.taken; good = d.good; asks = ap verb.asks (sym d.is) ∙ h }

pub spells : (verb : Meaning) (ws : List Word) (request : Request) → items_request verb ws ≡ Ok request → Spells verb ws request
spells verb ws request h = spells_by verb ws request (items_of verb.line no_items ws) refl h

pub spells_back : (verb : Meaning) (ws : List Word) (request : Request) → Spells verb ws request → items_request verb ws ≡ Ok request
spells_back verb ws request d = ap (λ r. r >>= verb.asks) (only verb.line no_items ws d.taken d.good) ∙ d.asks

has_fault_by : (verb : Meaning) (ws : List Word) (e : Refusal) (r : Result Items Refusal) → items_of verb.line no_items ws ≡ r → (r >>= verb.asks) ≡ err_result e → HasFault verb ws e
has_fault_by verb ws e (Err f) read h = of_item (fault verb.line ws zero no_items e (read ∙ ap (λ x. Err x) (err_inj {X = Request} f e h)) (omega arith))
has_fault_by verb ws e (Ok items) read h =
    let d = good_of_items verb.line ws zero no_items items read (omega arith) in
    of_items d.taken d.good (ap verb.asks (sym d.is) ∙ h)

pub has_fault : (verb : Meaning) (ws : List Word) (e : Refusal) → items_request verb ws ≡ Err e → HasFault verb ws e
has_fault verb ws e h = has_fault_by verb ws e (items_of verb.line no_items ws) refl h

pub fault_back : (verb : Meaning) (ws : List Word) (e : Refusal) → HasFault verb ws e → items_request verb ws ≡ Err e
fault_back verb ws e (of_item first) = ap (λ r. r >>= verb.asks) (fault_only verb.line no_items ws e first)
fault_back verb ws e (of_items taken good asks) = ap (λ r. r >>= verb.asks) (only verb.line no_items ws taken good) ∙ asks
