-- The word that the first fault is about: what the function finds is what the grammar says.
use Rattle.std.proofs.Common.{◌≡◌, zero, List, [], ◌∷◌, ◌++◌, Bool, true, false, Option, Some, None, Result, Ok, Err, refl, ◌∙◌, ap, sym, subst, arith, append_assoc}
use Rattle.std.specs.Prelude.{◌||◌, if◌then◌else◌}
use Rattle.std.proofs.lemmas.List.{append-nil}
use Rattle.prt_addr.specs.Word.{Word}
use Rattle.prt_refusals.specs.declared.refusal.Refusal.{Refusal}
use Rattle.prt_command.specs.FaultWord.{IsAbout, Step, about, bare_role, first_role, from_object, is_last, items_fault, object_fault, object_fault_by, of_item, of_object, of_verb, role_of, plain_role, prefix_role, step, stop_or, value_step, verb_fault, verb_fault_by, words_fault}
use Rattle.prt_command.specs.Grammar.{AreItems, EachOnce, FirstFault, Good, IsFault, IsItem, IsPlain, IsValue, ItemPlace, MustBeFollowed, after_to, alone, alone_before, any_word, at_value, bad_value, bare, before_prefix, followed, further, given_before, keyword, more, no_word, none, nothing_after, put_all, second_bare, start, to_word, unknown_word, valued, word_after_to}
use Rattle.prt_command.specs.Items.{has, no_items, put, slot_of}
use Rattle.prt_command.specs.LineKinds.{LineKind, is_to, word_in}
use Rattle.prt_command.specs.Reading.{meaning_of, object_of, verb_of}
use Rattle.prt_command.specs.Scan.{items_of}
use Rattle.prt_command.specs.Values.{value}
use Rattle.prt_command.specs.declared.word_at_fault.WordRole.TheVariants.{Opens, Ends}
use Rattle.prt_command.specs.declared.word_at_fault.Place.{Place}
use Rattle.prt_command.specs.declared.word_at_fault.Place.TheVariants.{Start, AfterTo, AtValue}
use Rattle.prt_command.specs.declared.item.Item.{Item}
use Rattle.prt_command.specs.declared.item.Items.{Items}
use Rattle.prt_command.specs.declared.item.ItemWord.{ItemWord}
use Rattle.prt_command.specs.declared.item.ItemWord.TheVariants.{Keyword, Alone}
use Rattle.prt_command.specs.declared.item.PrefixWord.{PrefixWord}
use Rattle.prt_command.specs.declared.item.Slot.{Slot}
use Rattle.prt_command.specs.declared.verb.Object.{Object}
use Rattle.prt_command.specs.declared.verb.ObjectVerb.{ObjectVerb}
use Rattle.prt_command.proofs.GrammarLaws.{fault, good_of_items}
use Rattle.prt_command.proofs.ItemLaws.{of_next, of_place}
use Rattle.prt_command.proofs.Values.{slot_kept}

-- ---- what a word is at each place

-- the place of the grammar, as the program has it
abbrev here : ItemPlace → Place
here start = Start
here (after_to slot) = AfterTo slot
here (at_value slot b) = AtValue slot b

module _ (line : LineKind) where
  first_form : (w : Word) (o : Option ItemWord) → word_in line.entries w ≡ o → role_of line Start w ≡ first_role o line.plain w
  first_form w o e = ap (λ o. first_role o line.plain w) e

  bare_form : (slot : Slot) (w : Word) (to : Bool) → line.plain ≡ Some slot → word_in line.entries w ≡ None → is_to w ≡ to → role_of line Start w ≡ (if to then Opens slot (AfterTo slot) else plain_role slot w)
  bare_form slot w to is other t = first_form w None other ∙ ap (λ p. bare_role p w) is ∙ ap (λ b. if b then Opens slot (AfterTo slot) else plain_role slot w) t

  at_plain : (slot : Slot) (w : Word) (place : ItemPlace) → IsPlain line w slot place → role_of line (here place) w ≡ plain_role slot w
  at_plain slot w place (no_word is other to) = bare_form slot w false is other to
  at_plain slot w place word_after_to = refl

  opens_form : (slot : Slot) (w : Word) (place next : ItemPlace) → MustBeFollowed line w slot place next → role_of line (here place) w ≡ Opens slot (here next)
  opens_form slot w place next (keyword e) = first_form w (Some (Keyword slot)) e
  opens_form slot w place next (to_word is other to) = bare_form slot w true is other to
  opens_form slot w place next (before_prefix p b plain e) = at_plain slot w place plain ∙ ap (prefix_role slot) e

  ends_form : (slot : Slot) (b : Option PrefixWord) (w : Word) (place : ItemPlace) → IsValue line w slot place b → role_of line (here place) w ≡ Ends slot b
  ends_form slot b w place (bare p plain e) = at_plain slot w place plain ∙ ap (prefix_role slot) e
  ends_form slot b w place (any_word b2) = refl

-- ---- a step

module _ (line : LineKind) (given : Items) where
  goes : (place : Place) (w : Word) (ws : List Word) (s : Step) → step given w (is_last ws) (role_of line place w) ≡ s → items_fault line place given (w ∷ ws) ≡ stop_or s (w ∷ ws) (λ next more. items_fault line next more ws)
  goes place w ws s e = ap (λ s. stop_or s (w ∷ ws) (λ next more. items_fault line next more ws)) e

  opened : (slot : Slot) (w : Word) (place next : ItemPlace) (last is_given : Bool) → MustBeFollowed line w slot place next → has slot given ≡ is_given → step given w last (role_of line (here place) w) ≡ (if last || is_given then None else Some (here next, given))
  opened slot w place next last is_given f g = ap (step given w last) (opens_form line slot w place next f) ∙ ap (λ g. if last || g then None else Some (here next, given)) g

  ended : (slot : Slot) (b : Option PrefixWord) (w : Word) (place : ItemPlace) (last is_given : Bool) → IsValue line w slot place b → has slot given ≡ is_given → step given w last (role_of line (here place) w) ≡ (if is_given then None else value_step (value slot b w) given)
  ended slot b w place last is_given is g = ap (step given w last) (ends_form line slot b w place is) ∙ ap (λ g. if g then None else value_step (value slot b w) given) g

  said : (w : Word) (x : Item) (last is_given : Bool) → word_in line.entries w ≡ Some (Alone x) → has (slot_of x) given ≡ is_given → step given w last (role_of line Start w) ≡ (if is_given then None else Some (Start, put x given))
  said w x last is_given is g = ap (step given w last) (first_form line w (Some (Alone x)) is) ∙ ap (λ g. if g then None else Some (Start, put x given)) g

  -- the walk stops at the word that the fault is about
  fault_is : (place : ItemPlace) (w : Word) (ws : List Word) (e : Refusal) → (is_fault : IsFault line given place w ws e) → items_fault line (here place) given (w ∷ ws) ≡ about w ws is_fault
  fault_is place w ws e (unknown_word w2 ws2 is other) = goes Start w ws None (ap (step given w (is_last ws)) (first_form line w None other ∙ ap (λ p. bare_role p w) is))
  fault_is place w ws e (second_bare w2 ws2 slot is g) = goes Start w ws None (ended slot None w start (is_last ws) true is g)
  fault_is place w ws e (nothing_after p next w2 slot f) = goes (here place) w [] None (opened slot w place next true (has slot given) f refl)
  fault_is place w ws e (given_before p next w2 v vs slot f g) = goes (here place) w (v ∷ vs) None (opened slot w place next false true f g)
  fault_is place w ws e (alone_before w2 ws2 x is g) = goes Start w ws None (said w x (is_last ws) true is g)
  fault_is place w ws e (bad_value p w2 ws2 slot b f is g v) = goes (here place) w ws None (ended slot b w place (is_last ws) false is g ∙ ap (λ r. value_step r given) v)
  fault_is place w ws e (further p next w2 v vs slot f is g deeper) = goes (here place) w (v ∷ vs) (Some (here next, given)) (opened slot w place next false false is g) ∙ fault_is next v vs e deeper

  -- it passes the words of an item that is written and was not given
  item_passes : (place : ItemPlace) (w : Word) (own rest : List Word) (x : Item) → IsItem line place w own x → has (slot_of x) given ≡ false → items_fault line (here place) given (w ∷ (own ++ rest)) ≡ items_fault line Start (put x given) rest
  item_passes place w own rest x (alone w2 x2 e) new = goes Start w rest (Some (Start, put x given)) (said w x (is_last rest) false e new)
  item_passes place w own rest x (valued p w2 slot b x2 is v) new =
      let fresh : has slot given ≡ false = ap (λ s. has s given) (sym (slot_kept slot b w x v)) ∙ new in
      goes (here place) w rest (Some (Start, put x given)) (ended slot b w place (is_last rest) false is fresh ∙ ap (λ r. value_step r given) v)
  item_passes place w own rest x (followed p next w2 v own2 slot x2 f i) new =
      let fresh : has slot given ≡ false = ap (λ s. has s given) (sym (of_next line given slot (slot_of x) w place next f (of_place line given next v own2 x i))) ∙ new in
      goes (here place) w (v ∷ (own2 ++ rest)) (Some (here next, given)) (opened slot w place next false false f fresh) ∙ item_passes next v own2 rest x i new

-- ---- all items of a line

items_pass : (line : LineKind) (ws xs : List Word) (taken : List Item) (given : Items) → AreItems line ws taken → EachOnce given taken → items_fault line Start given (ws ++ xs) ≡ items_fault line Start (put_all taken given) xs
items_pass line ws xs taken given none once = refl
items_pass line ws xs taken given (more w own rest item others i are) once =
    ap (λ u. items_fault line Start given (w ∷ u)) (append_assoc own rest xs)
    ∙ item_passes line given start w own (rest ++ xs) item i once.0
    ∙ items_pass line rest xs others (put item given) are once.1

first_is : (line : LineKind) (given : Items) (ws : List Word) (e : Refusal) → (found : FirstFault line given ws e) → items_fault line Start given ws ≡ about found.w found.rest found.first
first_is line given ws e found =
    ap (items_fault line Start given) found.splits
    ∙ items_pass line found.front (found.w ∷ found.rest) found.taken given found.good.spelled found.good.once
    ∙ fault_is line (put_all found.taken given) start found.w found.rest e found.first

none_is : (line : LineKind) (given : Items) (ws : List Word) (taken : List Item) → Good line given ws taken → items_fault line Start given ws ≡ []
none_is line given ws taken good = ap (items_fault line Start given) (sym (append-nil ws)) ∙ items_pass line ws [] taken given good.spelled good.once

-- ---- all words of a line

module _ (ws left : List Word) (w : Word) where
  about_item : (o v : Word) (rest : List Word) (object : Object) (verb : ObjectVerb) → from_object ws ≡ o ∷ v ∷ rest → object_of o ≡ Some object → verb_of object v ≡ Some verb → (r : Result Items Refusal) → items_of (meaning_of verb).line no_items rest ≡ r → items_fault (meaning_of verb).line Start no_items rest ≡ w ∷ left → IsAbout ws (w ∷ left)
  about_item o v rest object verb is named meant (Err e) read h =
      let found = fault (meaning_of verb).line rest zero no_items e read (omega arith) in
      subst (IsAbout ws) (sym (first_is (meaning_of verb).line no_items rest e found) ∙ h) (of_item o v rest object verb e is named meant found)
  about_item o v rest object verb is named meant (Ok items) read h =
      let found = good_of_items (meaning_of verb).line rest zero no_items items read (omega arith) in
      let e : [] ≡ w ∷ left = sym (none_is (meaning_of verb).line no_items rest found.taken found.good) ∙ h in
      absurd cc

  about_verb_by : (o v : Word) (rest : List Word) (object : Object) → from_object ws ≡ o ∷ v ∷ rest → object_of o ≡ Some object → (meant : Option ObjectVerb) → verb_of object v ≡ meant → verb_fault_by meant v rest ≡ w ∷ left → IsAbout ws (w ∷ left)
  about_verb_by o v rest object is named None e h = subst (IsAbout ws) h (of_verb o v rest object is named e)
  about_verb_by o v rest object is named (Some verb) e h = about_item o v rest object verb is named e (items_of (meaning_of verb).line no_items rest) refl h

  about_verb : (o : Word) (rest : List Word) (object : Object) → from_object ws ≡ o ∷ rest → object_of o ≡ Some object → verb_fault object rest ≡ w ∷ left → IsAbout ws (w ∷ left)
  about_verb o [] object is named h = absurd cc
  about_verb o (v ∷ rest) object is named h = about_verb_by o v rest object is named (verb_of object v) refl h

  about_object_by : (o : Word) (rest : List Word) → from_object ws ≡ o ∷ rest → (named : Option Object) → object_of o ≡ named → object_fault_by named o rest ≡ w ∷ left → IsAbout ws (w ∷ left)
  about_object_by o rest is None e h = subst (IsAbout ws) h (of_object o rest is e)
  about_object_by o rest is (Some object) e h = about_verb o rest object is e h

  about_object : (os : List Word) → from_object ws ≡ os → object_fault os ≡ w ∷ left → IsAbout ws (w ∷ left)
  about_object [] is h = absurd cc
  about_object (o ∷ rest) is h = about_object_by o rest is (object_of o) refl h

  pub is_about : words_fault ws ≡ w ∷ left → IsAbout ws (w ∷ left)
  is_about h = about_object (from_object ws) refl h

about_back_of : (ws left : List Word) → IsAbout ws left → words_fault ws ≡ left
about_back_of ws left (of_object w rest is e) = ap object_fault is ∙ ap (λ o. object_fault_by o w rest) e
about_back_of ws left (of_verb o w rest object is named e) = ap object_fault is ∙ ap (λ x. object_fault_by x o (w ∷ rest)) named ∙ ap (λ v. verb_fault_by v w rest) e
about_back_of ws left (of_item o v rest object verb e is named meant found) =
    ap object_fault is ∙ ap (λ x. object_fault_by x o (v ∷ rest)) named ∙ ap (λ m. verb_fault_by m v rest) meant ∙ first_is (meaning_of verb).line no_items rest e found

pub about_back : (ws left : List Word) (w : Word) → IsAbout ws (w ∷ left) → words_fault ws ≡ w ∷ left
about_back ws left w is = about_back_of ws (w ∷ left) is
