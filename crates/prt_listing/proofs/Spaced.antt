-- One part more.
use Rattle.std.proofs.Common.{◌≡◌, ℕ, ◌+◌, ◌<◌, List, [], ◌∷◌, ◌++◌, Option, Some, None, refl, sym, ap, ◌∙◌, append_assoc, length, take, map, get_or}
use Rattle.std.proofs.lemmas.List.{take_more, append-nil, map-append}
use Rattle.std.specs.Prelude.{codes}
use Rattle.std.specs.List.{filter_map, join_with_byte}
use Rattle.prt_listing.specs.Parts.{spaced}

-- the parts that are there
abbrev pub texts : List (Option (List ℕ)) → List (List ℕ)
texts parts = filter_map (λ text. text) parts

-- what comes between these texts and a further one
abbrev pub gap : List (List ℕ) → List ℕ
gap [] = []
gap (text ∷ others) = codes " "

texts-none : (parts : List (Option (List ℕ))) → texts (parts ++ None ∷ []) ≡ texts parts
texts-none [] = refl
texts-none (None ∷ parts) = texts-none parts
texts-none (Some text ∷ parts) = ap (λ xs. text ∷ xs) (texts-none parts)

texts-some : (parts : List (Option (List ℕ))) (text : List ℕ) → texts (parts ++ Some text ∷ []) ≡ texts parts ++ text ∷ []
texts-some [] text = refl
texts-some (None ∷ parts) text = texts-some parts text
texts-some (Some one ∷ parts) text = ap (λ xs. one ∷ xs) (texts-some parts text)

join-more : (others : List (List ℕ)) (text : List ℕ) → join_with_byte 32 (others ++ text ∷ []) ≡ (join_with_byte 32 others ++ gap others) ++ text
join-more [] text = refl
join-more (one ∷ []) text = sym (append_assoc one (codes " ") text)
join-more (one ∷ two ∷ others) text =
    ap (λ xs. one ++ (32 ∷ xs)) (join-more (two ∷ others) text)
    ∙ sym (append_assoc one (32 ∷ (join_with_byte 32 (two ∷ others) ++ codes " ")) text)
    ∙ ap (λ xs. xs ++ text) (sym (append_assoc one (32 ∷ join_with_byte 32 (two ∷ others)) (codes " ")))

gap-more : (others : List (List ℕ)) (text : List ℕ) → gap (others ++ text ∷ []) ≡ codes " "
gap-more [] text = refl
gap-more (one ∷ others) text = refl

-- a list holds these parts after what it held, and the gap is the one before a further part
pub record IsPushed (before after between : List ℕ) (parts : List (Option (List ℕ))) : Type 0 where
  pub items : after ≡ before ++ spaced parts
  pub gap : between ≡ gap (texts parts)

pub pushed_none : (before : List ℕ) → IsPushed before before [] []
pushed_none before = record { items = sym (append-nil before); gap = refl }

pub left_out : (before after between : List ℕ) (parts : List (Option (List ℕ))) → IsPushed before after between parts → IsPushed before after between (parts ++ None ∷ [])
left_out before after between parts pushed = record {
  items = pushed.items ∙ ap (λ xs. before ++ join_with_byte 32 xs) (sym (texts-none parts));
  gap = pushed.gap ∙ ap gap (sym (texts-none parts));
}

pub pushed_one : (before after between spaced_after newer text : List ℕ) (parts : List (Option (List ℕ))) → IsPushed before after between parts → spaced_after ≡ after ++ between → newer ≡ spaced_after ++ text → IsPushed before newer (codes " ") (parts ++ Some text ∷ [])
pushed_one before after between spaced_after newer text parts pushed space one = record {
  items =
      one
      ∙ ap (λ xs. xs ++ text) (space ∙ ap (λ xs. xs ++ between) pushed.items ∙ append_assoc before (spaced parts) between ∙ ap (λ xs. before ++ (spaced parts ++ xs)) pushed.gap)
      ∙ append_assoc before (spaced parts ++ gap (texts parts)) text
      ∙ ap (λ xs. before ++ xs) (sym (join-more (texts parts) text) ∙ ap (join_with_byte 32) (sym (texts-some parts text)));
  gap = sym (gap-more (texts parts) text) ∙ ap gap (sym (texts-some parts text));
}

-- the parts before the next one, and that one
pub parts-more : {X : Type 0} (f : X → Option (List ℕ)) (parts : List X) (i : ℕ) (part : X) → i < length parts → part ≡ get_or parts i part → map f (take (i + 1) parts) ≡ map f (take i parts) ++ f part ∷ []
parts-more f parts i part within is =
    ap (map f) (take_more parts i part within)
    ∙ map-append f (take i parts) (get_or parts i part ∷ [])
    ∙ ap (λ x. map f (take i parts) ++ f x ∷ []) (sym is)
