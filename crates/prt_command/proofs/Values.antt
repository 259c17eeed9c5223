-- The value of an item is an item of that name.
use Rattle.std.proofs.Common.{◌≡◌, Option, Result, Ok, Err, refl, sym, ap, subst}
use Rattle.prt_addr.specs.Word.{Word}
use Rattle.prt_refusals.specs.declared.refusal.Refusal.{Refusal}
use Rattle.prt_command.specs.Items.{slot_of}
use Rattle.prt_command.specs.Then.{map_ok}
use Rattle.prt_command.specs.Values.{value}
use Rattle.prt_command.specs.declared.item.Item.{Item}
use Rattle.prt_command.specs.declared.item.Item.TheVariants as item
use Rattle.prt_command.specs.declared.item.PrefixWord.{PrefixWord}
use Rattle.prt_command.specs.declared.item.Slot.{Slot}
use Rattle.prt_command.proofs.Results.{ok_inj}
use Rattle.prt_command.specs.declared.item.Slot.TheVariants.{Destination, Via, Dev, Table, Proto, Scope, Src, Metric, Range, Tables, OfKind, Address, Source, Iif, Mark, Inverted, From, To, Fwmark, Priority, Action, Suppress}

-- what holds of all that f makes holds of what it makes of a value that was read
pub map_ok_all : {X Y : Type 0} (P : Y → Type 0) (f : X → Y) (r : Result X Refusal) (y : Y) → map_ok f r ≡ Ok y → ((x : X) → r ≡ Ok x → P (f x)) → P y
map_ok_all P f (Ok x) y h all = subst P (ok_inj (f x) y h) (all x refl)
map_ok_all P f (Err e) y h all = absurd cc

pub slot_kept : (slot : Slot) (b : Option PrefixWord) (w : Word) (x : Item) → value slot b w ≡ Ok x → slot_of x ≡ slot
slot_kept Destination b w x h = map_ok_all (λ x. slot_of x ≡ Destination) item.Destination _ x h (λ y e. refl)
slot_kept Via b w x h = map_ok_all (λ x. slot_of x ≡ Via) item.Via _ x h (λ y e. refl)
slot_kept Dev b w x h = map_ok_all (λ x. slot_of x ≡ Dev) item.Dev _ x h (λ y e. refl)
slot_kept Table b w x h = map_ok_all (λ x. slot_of x ≡ Table) item.Table _ x h (λ y e. refl)
slot_kept Proto b w x h = map_ok_all (λ x. slot_of x ≡ Proto) item.Proto _ x h (λ y e. refl)
slot_kept Scope b w x h = map_ok_all (λ x. slot_of x ≡ Scope) item.Scope _ x h (λ y e. refl)
slot_kept Src b w x h = map_ok_all (λ x. slot_of x ≡ Src) item.Src _ x h (λ y e. refl)
slot_kept Metric b w x h = map_ok_all (λ x. slot_of x ≡ Metric) item.Metric _ x h (λ y e. refl)
slot_kept Range b w x h = map_ok_all (λ x. slot_of x ≡ Range) item.Range _ x h (λ y e. refl)
slot_kept Tables b w x h = map_ok_all (λ x. slot_of x ≡ Tables) item.Tables _ x h (λ y e. refl)
slot_kept OfKind b w x h = map_ok_all (λ x. slot_of x ≡ OfKind) item.OfKind _ x h (λ y e. refl)
slot_kept Address b w x h = map_ok_all (λ x. slot_of x ≡ Address) item.Address _ x h (λ y e. refl)
slot_kept Source b w x h = map_ok_all (λ x. slot_of x ≡ Source) item.Source _ x h (λ y e. refl)
slot_kept Iif b w x h = map_ok_all (λ x. slot_of x ≡ Iif) item.Iif _ x h (λ y e. refl)
slot_kept Mark b w x h = map_ok_all (λ x. slot_of x ≡ Mark) item.Mark _ x h (λ y e. refl)
slot_kept Inverted b w x h = ap slot_of (sym (ok_inj item.Inverted x h))
slot_kept From b w x h = map_ok_all (λ x. slot_of x ≡ From) item.From _ x h (λ y e. refl)
slot_kept To b w x h = map_ok_all (λ x. slot_of x ≡ To) item.To _ x h (λ y e. refl)
slot_kept Fwmark b w x h = map_ok_all (λ x. slot_of x ≡ Fwmark) item.Fwmark _ x h (λ y e. refl)
slot_kept Priority b w x h = map_ok_all (λ x. slot_of x ≡ Priority) item.Priority _ x h (λ y e. refl)
slot_kept Action b w x h = map_ok_all (λ x. slot_of x ≡ Action) item.Action _ x h (λ y e. refl)
slot_kept Suppress b w x h = map_ok_all (λ x. slot_of x ≡ Suppress) item.Suppress _ x h (λ y e. refl)
