-- One item: what is read is what is written, and its fault is the first.
use Rattle.std.proofs.Common.{◌≡◌, ℕ, ◌≤◌, List, [], ◌∷◌, ◌++◌, Bool, true, false, Some, None, Option, Result, Ok, Err, refl, length, take, ◌∙◌, ap, sym, subst, arith}
use Rattle.std.specs.Prelude.{if◌then◌else◌}
use Rattle.prt_addr.specs.Word.{Word}
use Rattle.prt_refusals.specs.declared.refusal.Refusal.{Refusal}
use Rattle.prt_refusals.specs.declared.refusal.Refusal.TheVariants.{UnknownWord, Repeated}
use Rattle.prt_command.specs.Grammar.{ItemPlace, start, after_to, at_value, IsPlain, no_word, word_after_to, MustBeFollowed, keyword, to_word, before_prefix, IsValue, bare, any_word, IsItem, alone, valued, followed, IsFault, unknown_word, second_bare, nothing_after, given_before, alone_before, bad_value, further}
use Rattle.prt_command.specs.LineKinds.{LineKind, word_in, is_to}
use Rattle.prt_command.specs.Scan.{Scanned, item_ends, one_more, what_follows, plain_by, plain_from, plain_item, item_by, item_or_fault}
use Rattle.prt_command.specs.Items.{slot_of, has}
use Rattle.prt_command.specs.Values.{prefix_word, value}
use Rattle.prt_command.specs.declared.item.Item.{Item}
use Rattle.prt_command.specs.declared.item.Items.{Items}
use Rattle.prt_command.specs.declared.item.ItemWord.{ItemWord}
use Rattle.prt_command.specs.declared.item.ItemWord.TheVariants.{Keyword, Alone}
use Rattle.prt_command.specs.declared.item.PrefixWord.{PrefixWord}
use Rattle.prt_command.specs.declared.item.Slot.{Slot}
use Rattle.prt_command.proofs.Values.{slot_kept}

abbrev pub Read : Type 0
Read = Item × ℕ

abbrev pub ok_read : Read → Scanned
ok_read t = Ok t

-- ---- what is read at each place

abbrev pub read_at : LineKind → Items → ItemPlace → Word → List Word → Scanned
read_at line given start w ws = item_or_fault line given w ws
read_at line given (after_to slot) w ws = plain_from slot given w ws
read_at line given (at_value slot b) w ws = item_ends (value slot b w)

-- the item of a place was not given before
abbrev pub IsNew : Items → ItemPlace → Type 0
IsNew given start = Unit {0}
IsNew given (after_to slot) = has slot given ≡ false
IsNew given (at_value slot b) = has slot given ≡ false

-- an item at a place is that of the place
abbrev pub IsOf : ItemPlace → Slot → Type 0
IsOf start s = Unit {0}
IsOf (after_to slot) s = s ≡ slot
IsOf (at_value slot b) s = s ≡ slot

module _ (line : LineKind) (given : Items) where
  entry_form : (w : Word) (ws : List Word) (o : Option ItemWord) → word_in line.entries w ≡ o → item_or_fault line given w ws ≡ item_by o line.plain given w ws
  entry_form w ws o e = ap (λ o. item_by o line.plain given w ws) e

  plain_form : (slot : Slot) (w : Word) (ws : List Word) (to : Bool) → line.plain ≡ Some slot → word_in line.entries w ≡ None → is_to w ≡ to → item_or_fault line given w ws ≡ (if to then what_follows (has slot given) (plain_from slot given) ws else plain_from slot given w ws)
  plain_form slot w ws to is none t =
      entry_form w ws None none ∙ ap (λ p. plain_item p given w ws) is
      ∙ ap (λ b. if b then what_follows (has slot given) (plain_from slot given) ws else plain_from slot given w ws) t

  at_plain : (slot : Slot) (w : Word) (place : ItemPlace) (ws : List Word) → IsPlain line w slot place → read_at line given place w ws ≡ plain_from slot given w ws
  at_plain slot w place ws (no_word is none to) = plain_form slot w ws false is none to
  at_plain slot w place ws word_after_to = refl

  -- a word that something must follow
  followed_form : (slot : Slot) (w : Word) (place next : ItemPlace) (ws : List Word) → MustBeFollowed line w slot place next → read_at line given place w ws ≡ what_follows (has slot given) (λ v vs. read_at line given next v vs) ws
  followed_form slot w place next ws (keyword e) = entry_form w ws (Some (Keyword slot)) e
  followed_form slot w place next ws (to_word is none to) = plain_form slot w ws true is none to
  followed_form slot w place next ws (before_prefix p b plain e) = at_plain slot w place ws plain ∙ ap (λ o. plain_by slot o given w ws) e

  bare_form : (slot : Slot) (w : Word) (ws : List Word) (is_given : Bool) → prefix_word slot w ≡ None → has slot given ≡ is_given → plain_from slot given w ws ≡ (if is_given then Err UnknownWord else item_ends (value slot None w))
  bare_form slot w ws is_given e g = ap (λ o. plain_by slot o given w ws) e ∙ ap (λ i. if i then Err UnknownWord else item_ends (value slot None w)) g

  value_form : (slot : Slot) (b : Option PrefixWord) (w : Word) (place : ItemPlace) (ws : List Word) → IsValue line w slot place b → has slot given ≡ false → read_at line given place w ws ≡ item_ends (value slot b w)
  value_form slot b w place ws (bare p plain e) g = at_plain slot w place ws plain ∙ bare_form slot w ws false e g
  value_form slot b w place ws (any_word b2) g = refl

  second_form : (slot : Slot) (w : Word) (ws : List Word) → IsValue line w slot start None → has slot given ≡ true → item_or_fault line given w ws ≡ Err UnknownWord
  second_form slot w ws (bare p plain e) g = at_plain slot w start ws plain ∙ bare_form slot w ws true e g

  lone_form : (w : Word) (ws : List Word) (x : Item) (is_given : Bool) → word_in line.entries w ≡ Some (Alone x) → has (slot_of x) given ≡ is_given → item_or_fault line given w ws ≡ (if is_given then Err Repeated else Ok (x, 0))
  lone_form w ws x is_given e g = entry_form w ws (Some (Alone x)) e ∙ ap (λ i. if i then Err Repeated else Ok (x, 0)) g

  -- ---- what is written is read

  pub of_next : (slot s : Slot) (w : Word) (place next : ItemPlace) → MustBeFollowed line w slot place next → IsOf next s → s ≡ slot
  of_next slot s w place next (keyword e) is = is
  of_next slot s w place next (to_word p none to) is = is
  of_next slot s w place next (before_prefix p b plain e) is = is

  of_plain : (slot s : Slot) (w : Word) (place : ItemPlace) → IsPlain line w slot place → s ≡ slot → IsOf place s
  of_plain slot s w place (no_word p none to) is = tt
  of_plain slot s w place word_after_to is = is

  pub of_place : (place : ItemPlace) (w : Word) (own : List Word) (x : Item) → IsItem line place w own x → IsOf place (slot_of x)
  of_place place w own x (alone w2 x2 e) = tt
  of_place place w own x (valued p w2 slot b x2 (bare p2 plain e) v) = of_plain slot (slot_of x2) w2 p2 plain (slot_kept slot b w2 x2 v)
  of_place place w own x (valued p w2 slot b x2 (any_word b2) v) = slot_kept slot b w2 x2 v
  of_place place w own x (followed p next w2 v own2 slot x2 (keyword e) i) = tt
  of_place place w own x (followed p next w2 v own2 slot x2 (to_word is none to) i) = tt
  of_place place w own x (followed p next w2 v own2 slot x2 (before_prefix p2 b plain e) i) = of_plain slot (slot_of x2) w2 p2 plain (of_place next v own2 x2 i)

  -- an item that is written and was not given is read, whatever comes after it
  pub read_back : (place : ItemPlace) (w : Word) (own rest : List Word) (x : Item) → IsItem line place w own x → has (slot_of x) given ≡ false → read_at line given place w (own ++ rest) ≡ Ok (x, length own)
  read_back place w own rest x (alone w2 x2 e) g = lone_form w rest x false e g
  read_back place w own rest x (valued p w2 slot b x2 is e) g = value_form slot b w place rest is (ap (λ s. has s given) (sym (slot_kept slot b w x e)) ∙ g) ∙ ap item_ends e
  read_back place w own rest x (followed p next w2 v own2 slot x2 f i) g =
      let new : has slot given ≡ false = ap (λ s. has s given) (sym (of_next slot (slot_of x) w place next f (of_place next v own2 x i))) ∙ g in
      followed_form slot w place next (v ∷ (own2 ++ rest)) f
      ∙ ap (λ b. what_follows b (λ v vs. read_at line given next v vs) (v ∷ (own2 ++ rest))) new
      ∙ ap one_more (read_back next v own2 rest x i g)

  -- a fault is read
  pub fault_back : (place : ItemPlace) (w : Word) (ws : List Word) (e : Refusal) → IsFault line given place w ws e → read_at line given place w ws ≡ Err e
  fault_back place w ws e (unknown_word w2 ws2 is none) = entry_form w ws None none ∙ ap (λ p. plain_item p given w ws) is
  fault_back place w ws e (second_bare w2 ws2 slot is g) = second_form slot w ws is g
  fault_back place w ws e (nothing_after p next w2 slot f) = followed_form slot w place next [] f
  fault_back place w ws e (given_before p next w2 v vs slot f g) = followed_form slot w place next (v ∷ vs) f ∙ ap (λ b. what_follows b (λ v vs. read_at line given next v vs) (v ∷ vs)) g
  fault_back place w ws e (alone_before w2 ws2 x is g) = lone_form w ws x true is g
  fault_back place w ws e (bad_value p w2 ws2 slot b f is g v) = value_form slot b w place ws is g ∙ ap item_ends v
  fault_back place w ws e (further p next w2 v vs slot f is g more) =
      followed_form slot w place next (v ∷ vs) is ∙ ap (λ b. what_follows b (λ v vs. read_at line given next v vs) (v ∷ vs)) g ∙ ap one_more (fault_back next v vs e more)

-- ---- what is read is written

-- What a word is at a place.
data View (line : LineKind) (w : Word) : ItemPlace → Type 0 where
  opens : (slot : Slot) (place next : ItemPlace) → MustBeFollowed line w slot place next → View line w place
  ends : (slot : Slot) (b : Option PrefixWord) (place : ItemPlace) → IsValue line w slot place b → View line w place
  says : (x : Item) → word_in line.entries w ≡ Some (Alone x) → View line w start
  unknown : line.plain ≡ None → word_in line.entries w ≡ None → View line w start

module _ (line : LineKind) (w : Word) where
  view_plain : (slot : Slot) → line.plain ≡ Some slot → word_in line.entries w ≡ None → (to : Bool) → is_to w ≡ to → (o : Option PrefixWord) → prefix_word slot w ≡ o → View line w start
  view_plain slot is none true to o e = opens slot start (after_to slot) (to_word is none to)
  view_plain slot is none false to (Some b) e = opens slot start (at_value slot (Some b)) (before_prefix start b (no_word is none to) e)
  view_plain slot is none false to None e = ends slot None start (bare start (no_word is none to) e)

  view_none : word_in line.entries w ≡ None → (o : Option Slot) → line.plain ≡ o → View line w start
  view_none none None is = unknown is none
  view_none none (Some slot) is = view_plain slot is none (is_to w) refl (prefix_word slot w) refl

  view_start : (o : Option ItemWord) → word_in line.entries w ≡ o → View line w start
  view_start (Some (Keyword slot)) e = opens slot start (at_value slot None) (keyword e)
  view_start (Some (Alone x)) e = says x e
  view_start None e = view_none e line.plain refl

  view_after_to : (slot : Slot) (o : Option PrefixWord) → prefix_word slot w ≡ o → View line w (after_to slot)
  view_after_to slot (Some b) e = opens slot (after_to slot) (at_value slot (Some b)) (before_prefix (after_to slot) b word_after_to e)
  view_after_to slot None e = ends slot None (after_to slot) (bare (after_to slot) word_after_to e)

  view : (place : ItemPlace) → View line w place
  view start = view_start (word_in line.entries w) refl
  view (after_to slot) = view_after_to slot (prefix_word slot w) refl
  view (at_value slot b) = ends slot b (at_value slot b) (any_word b)

-- The words that were read are an item of the line which was not given.
pub record IsRead (line : LineKind) (given : Items) (place : ItemPlace) (w : Word) (ws : List Word) (t : Read) : Type 0 where
  pub within : t.1 ≤ length ws
  pub item : IsItem line place w (take t.1 ws) t.0
  pub fresh : has (slot_of t.0) given ≡ false

-- what was read is an item, or a fault is the first
abbrev pub Says : (line : LineKind) (given : Items) (place : ItemPlace) (w : Word) (ws : List Word) → Scanned → Type 0
Says line given place w ws (Ok t) = IsRead line given place w ws t
Says line given place w ws (Err e) = IsFault line given place w ws e

module _ (line : LineKind) (given : Items) where
  value_says : (slot : Slot) (b : Option PrefixWord) (place : ItemPlace) (w : Word) (ws : List Word) → IsValue line w slot place b → has slot given ≡ false → (r : Result Item Refusal) → value slot b w ≡ r → Says line given place w ws (item_ends r)
  value_says slot b place w ws is g (Ok x) e = record { within = omega arith; item = valued place w slot b x is e; fresh = ap (λ s. has s given) (slot_kept slot b w x e) ∙ g }
  value_says slot b place w ws is g (Err f) e = bad_value place w ws slot b f is g e

  value_read : (slot : Slot) (b : Option PrefixWord) (place : ItemPlace) (w : Word) (ws : List Word) → IsValue line w slot place b → has slot given ≡ false → Says line given place w ws (read_at line given place w ws)
  value_read slot b place w ws is g = subst (Says line given place w ws) (sym (value_form line given slot b w place ws is g)) (value_says slot b place w ws is g (value slot b w) refl)

  bare_read : (slot : Slot) (w : Word) (ws : List Word) → IsValue line w slot start None → (is_given : Bool) → has slot given ≡ is_given → Says line given start w ws (item_or_fault line given w ws)
  bare_read slot w ws is true g = subst (Says line given start w ws) (sym (second_form line given slot w ws is g)) (second_bare w ws slot is g)
  bare_read slot w ws is false g = value_read slot None start w ws is g

  plain_read : (slot : Slot) (place : ItemPlace) (w : Word) (ws : List Word) → IsPlain line w slot place → prefix_word slot w ≡ None → IsNew given place → Says line given place w ws (read_at line given place w ws)
  plain_read slot place w ws (no_word is none to) e new = bare_read slot w ws (bare start (no_word is none to) e) (has slot given) refl
  plain_read slot place w ws word_after_to e new = value_read slot None (after_to slot) w ws (bare (after_to slot) word_after_to e) new

  ends_read : (slot : Slot) (b : Option PrefixWord) (place : ItemPlace) (w : Word) (ws : List Word) → IsValue line w slot place b → IsNew given place → Says line given place w ws (read_at line given place w ws)
  ends_read slot b place w ws (bare p plain e) new = plain_read slot place w ws plain e new
  ends_read slot b place w ws (any_word b2) new = value_read slot b2 (at_value slot b2) w ws (any_word b2) new

  says_read : (w : Word) (ws : List Word) (x : Item) → word_in line.entries w ≡ Some (Alone x) → (is_given : Bool) → has (slot_of x) given ≡ is_given → Says line given start w ws (item_or_fault line given w ws)
  says_read w ws x e true g = subst (Says line given start w ws) (sym (lone_form line given w ws x true e g)) (alone_before w ws x e g)
  says_read w ws x e false g = subst (Says line given start w ws) (sym (lone_form line given w ws x false e g)) (record { within = omega arith; item = alone w x e; fresh = g })

  new_next : (slot : Slot) (w : Word) (place next : ItemPlace) → MustBeFollowed line w slot place next → has slot given ≡ false → IsNew given next
  new_next slot w place next (keyword e) g = g
  new_next slot w place next (to_word p none to) g = g
  new_next slot w place next (before_prefix p b plain e) g = g

  -- what is said of the words after a word
  abbrev Rest : List Word → Type 0
  Rest [] = Unit {0}
  Rest (v ∷ vs) = (place : ItemPlace) → IsNew given place → Says line given place v vs (read_at line given place v vs)

  one_more_says : (slot : Slot) (place next : ItemPlace) (w v : Word) (vs : List Word) → MustBeFollowed line w slot place next → has slot given ≡ false → (r : Scanned) → Says line given next v vs r → Says line given place w (v ∷ vs) (one_more r)
  one_more_says slot place next w v vs f g (Ok t) d = record { within = let l = d.within in omega (arith, l); item = followed place next w v (take t.1 vs) slot t.0 f d.item; fresh = d.fresh }
  one_more_says slot place next w v vs f g (Err e) d = further place next w v vs slot e f g d

  follows_says : (slot : Slot) (place next : ItemPlace) (w : Word) (ws : List Word) → MustBeFollowed line w slot place next → Rest ws → (is_given : Bool) → has slot given ≡ is_given → Says line given place w ws (what_follows is_given (λ v vs. read_at line given next v vs) ws)
  follows_says slot place next w [] f rest is_given g = nothing_after place next w slot f
  follows_says slot place next w (v ∷ vs) f rest true g = given_before place next w v vs slot f g
  follows_says slot place next w (v ∷ vs) f rest false g = one_more_says slot place next w v vs f g (read_at line given next v vs) (rest next (new_next slot w place next f g))

  by_view : (place : ItemPlace) (w : Word) (ws : List Word) → IsNew given place → Rest ws → View line w place → Says line given place w ws (read_at line given place w ws)
  by_view place w ws new rest (opens slot p next f) = subst (Says line given place w ws) (sym (followed_form line given slot w place next ws f)) (follows_says slot place next w ws f rest (has slot given) refl)
  by_view place w ws new rest (ends slot b p is) = ends_read slot b place w ws is new
  by_view place w ws new rest (says x e) = says_read w ws x e (has (slot_of x) given) refl
  by_view place w ws new rest (unknown is none) = subst (Says line given start w ws) (sym (fault_back line given start w ws UnknownWord (unknown_word w ws is none))) (unknown_word w ws is none)

  all_says : (ws : List Word) (place : ItemPlace) (w : Word) → IsNew given place → Says line given place w ws (read_at line given place w ws)
  all_says [] place w new = by_view place w [] new tt (view line w place)
  all_says (v ∷ vs) place w new = by_view place w (v ∷ vs) new (λ p n. all_says vs p v n) (view line w place)

  pub is_read : (w : Word) (ws : List Word) (t : Read) → item_or_fault line given w ws ≡ ok_read t → IsRead line given start w ws t
  is_read w ws t h = subst (Says line given start w ws) h (all_says ws start w tt)

  pub is_fault : (w : Word) (ws : List Word) (e : Refusal) → item_or_fault line given w ws ≡ Err e → IsFault line given start w ws e
  is_fault w ws e h = subst (Says line given start w ws) h (all_says ws start w tt)
