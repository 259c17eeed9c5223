-- What a word says among those of a line, and an item after `to`.
use Rattle.std.proofs.Common.{◌≡◌, Bool, true, false, List, [], ◌∷◌, ◌++◌, Option, Some, None, Ok, Err, map, option_map, bytes_eq, refl, ◌∙◌, ap}
use Rattle.std.specs.Prelude.{find, if◌then◌else◌}
use Rattle.prt_addr.specs.Word.{Word, is_one_of}
use Rattle.prt_command.specs.LineKinds.{Entry, LineKind, is_to, word_in}
use Rattle.prt_command.specs.Scan.{Scanned, one_more, what_follows, item_by, items_of, plain_from, plain_item, word_item}
use Rattle.prt_command.specs.Steps.{and_items}
use Rattle.prt_command.specs.Items.{has}
use Rattle.prt_command.specs.Values.{every_kind, kind_of, prefix_word, spelling}
use Rattle.prt_command.specs.declared.item.Items.{Items}
use Rattle.prt_command.specs.declared.item.ItemWord.{ItemWord}
use Rattle.prt_command.specs.declared.item.Slot.{Slot}
use Rattle.prt_command.specs.declared.item.Slot.TheVariants.{Destination}
use Rattle.prt_command.specs.declared.item.PrefixWord.TheVariants as befores

first_mapped : {A B : Type 0} (f : A → B) (p : B → Bool) (x : A) (xs : List A) (test : Bool) → find p (map f xs) ≡ option_map f (find (λ y. p (f y)) xs) → (if test then Some (f x) else find p (map f xs)) ≡ option_map f (if test then Some x else find (λ y. p (f y)) xs)
first_mapped f p x xs true rest = refl
first_mapped f p x xs false rest = rest

-- among what f makes of some, the first is what f makes of the first
find-map : {A B : Type 0} (f : A → B) (p : B → Bool) (xs : List A) → find p (map f xs) ≡ option_map f (find (λ y. p (f y)) xs)
find-map f p [] = refl
find-map f p (x ∷ xs) = first_mapped f p x xs (p (f x)) (find-map f p xs)

-- a word before a destination is the kind that it names
pub kinds_before : (w : Word) → prefix_word Destination w ≡ option_map befores.Kind (kind_of w)
kinds_before w = find-map befores.Kind (λ b. bytes_eq (spelling b) w) every_kind

-- ---- two lists of entries

-- a word of one list before another
in_first_by : (test : Bool) (item : ItemWord) (rest both : Option ItemWord) → (x : ItemWord) → (rest ≡ Some x → both ≡ Some x) → (if test then Some item else rest) ≡ Some x → (if test then Some item else both) ≡ Some x
in_first_by true item rest both x step h = h
in_first_by false item rest both x step h = step h

pub in_first : (entries others : List Entry) (w : Word) (x : ItemWord) → word_in entries w ≡ Some x → word_in (entries ++ others) w ≡ Some x
in_first [] others w x h = absurd cc
in_first (entry ∷ entries) others w x h = in_first_by (is_one_of w entry.0) entry.1 (word_in entries w) (word_in (entries ++ others) w) x (in_first entries others w x) h

-- a word of the other list
in_second_by : (test : Bool) (item : ItemWord) (rest both other : Option ItemWord) → (rest ≡ None → both ≡ other) → (if test then Some item else rest) ≡ None → (if test then Some item else both) ≡ other
in_second_by true item rest both other step h = absurd cc
in_second_by false item rest both other step h = step h

pub in_second : (entries others : List Entry) (w : Word) → word_in entries w ≡ None → word_in (entries ++ others) w ≡ word_in others w
in_second [] others w h = refl
in_second (entry ∷ entries) others w h = in_second_by (is_one_of w entry.0) entry.1 (word_in entries w) (word_in (entries ++ others) w) (word_in others w) (in_second entries others w) h

-- ---- the items from a word on

pub items_of_word : (line : LineKind) (given : Items) (w : Word) (ws : List Word) (begun : ItemWord) → word_in line.entries w ≡ Some begun → items_of line given (w ∷ ws) ≡ and_items line given (word_item begun given ws) ws
items_of_word line given w ws begun h = ap (λ o. and_items line given (item_by o line.plain given w ws) ws) h

pub items_of_plain : (line : LineKind) (given : Items) (w : Word) (ws : List Word) (slot : Slot) → word_in line.entries w ≡ None → line.plain ≡ Some slot → items_of line given (w ∷ ws) ≡ and_items line given (plain_item (Some slot) given w ws) ws
items_of_plain line given w ws slot none plain =
    ap (λ o. and_items line given (item_by o line.plain given w ws) ws) none ∙ ap (λ p. and_items line given (plain_item p given w ws) ws) plain

-- ---- after `to`

one_word_more : (line : LineKind) (given : Items) (v : Word) (vs : List Word) (scanned : Scanned) → and_items line given (one_more scanned) (v ∷ vs) ≡ and_items line given scanned vs
one_word_more line given v vs (Ok t) = refl
one_word_more line given v vs (Err e) = refl

-- `to` says nothing of its own
pub items_after_to : (line : LineKind) (slot : Slot) (given : Items) (w v : Word) (ws vs : List Word) → is_to w ≡ true → has slot given ≡ false → ws ≡ v ∷ vs → and_items line given (plain_item (Some slot) given w ws) ws ≡ and_items line given (plain_from slot given v vs) vs
items_after_to line slot given w v ws vs to new is =
    ap (λ us. and_items line given (plain_item (Some slot) given w us) us) is
    ∙ ap (λ b. and_items line given (if b then what_follows (has slot given) (plain_from slot given) (v ∷ vs) else plain_from slot given w (v ∷ vs)) (v ∷ vs)) to
    ∙ ap (λ b. and_items line given (what_follows b (plain_from slot given) (v ∷ vs)) (v ∷ vs)) new
    ∙ one_word_more line given v vs (plain_from slot given v vs)
