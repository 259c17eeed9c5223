-- One field or one value more, and the bracket that closes them.
use Rattle.std.proofs.Common.{◌≡◌, ℕ, ◌+◌, ◌<◌, List, [], ◌∷◌, ◌++◌, Option, Some, None, refl, sym, ap, ◌∙◌, append_assoc, length, take, map, get_or}
use Rattle.std.proofs.lemmas.List.{append-nil, take_more, map-append}
use Rattle.json.specs.Json.{Json}
use Rattle.json.specs.Token.{Token, key, begin_array, end_array, begin_object, end_object}
use Rattle.json.specs.Tree.{json_tokens, items_tokens, members_tokens}
use Rattle.prt_json.specs.Fields.{Member, array_of, items, members, object_of}
use Rattle.prt_json.specs.Steps.{fields_tokens, values_tokens}

-- the tokens of one field, if it is there
abbrev field_tokens : Option Member → List Token
field_tokens None = []
field_tokens (Some field) = key field.0 ∷ json_tokens field.1

-- ---- one more

pub fields_tokens-both : (fields others : List (Option Member)) → fields_tokens (fields ++ others) ≡ fields_tokens fields ++ fields_tokens others
fields_tokens-both [] others = refl
fields_tokens-both (None ∷ fields) others = fields_tokens-both fields others
fields_tokens-both (Some field ∷ fields) others =
    ap (λ ts. key field.0 ∷ (json_tokens field.1 ++ ts)) (fields_tokens-both fields others)
    ∙ ap (λ ts. key field.0 ∷ ts) (sym (append_assoc (json_tokens field.1) (fields_tokens fields) (fields_tokens others)))

one_field : (field : Option Member) → fields_tokens (field ∷ []) ≡ field_tokens field
one_field None = refl
one_field (Some field) = ap (λ ts. key field.0 ∷ ts) (append-nil (json_tokens field.1))

fields_tokens-append : (fields : List (Option Member)) (field : Option Member) → fields_tokens (fields ++ field ∷ []) ≡ fields_tokens fields ++ field_tokens field
fields_tokens-append fields field = fields_tokens-both fields (field ∷ []) ∙ ap (λ ts. fields_tokens fields ++ ts) (one_field field)

-- a field that is there, by its key and its value
pub one_pushed : (name : List ℕ) (value : Json) (old one new : List Token) → one ≡ old ++ key name ∷ [] → new ≡ one ++ json_tokens value → new ≡ old ++ fields_tokens (Some (name, value) ∷ [])
one_pushed name value old one new named pushed =
    pushed
    ∙ ap (λ ts. ts ++ json_tokens value) named
    ∙ append_assoc old (key name ∷ []) (json_tokens value)
    ∙ ap (λ ts. old ++ ts) (sym (one_field (Some (name, value))))

-- fields, and then others
pub then_fields : (fields others : List (Option Member)) (old one new : List Token) → one ≡ old ++ fields_tokens fields → new ≡ one ++ fields_tokens others → new ≡ old ++ fields_tokens (fields ++ others)
then_fields fields others old one new first second =
    second
    ∙ ap (λ ts. ts ++ fields_tokens others) first
    ∙ append_assoc old (fields_tokens fields) (fields_tokens others)
    ∙ ap (λ ts. old ++ ts) (sym (fields_tokens-both fields others))

pub values_tokens-append : (values : List Json) (value : Json) → values_tokens (values ++ value ∷ []) ≡ values_tokens values ++ json_tokens value
values_tokens-append [] value = append-nil (json_tokens value)
values_tokens-append (first ∷ values) value =
    ap (λ ts. json_tokens first ++ ts) (values_tokens-append values value)
    ∙ sym (append_assoc (json_tokens first) (values_tokens values) (json_tokens value))

pub one_value : (value : Json) (old new : List Token) → new ≡ old ++ json_tokens value → new ≡ old ++ values_tokens (value ∷ [])
one_value value old new pushed = pushed ∙ ap (λ ts. old ++ ts) (sym (append-nil (json_tokens value)))

-- the rows before the next one, and that one
rows-more : {X Y : Type 0} (f : X → Y) (rows : List X) (i : ℕ) (row : X) → i < length rows → row ≡ get_or rows i row → map f (take (i + 1) rows) ≡ map f (take i rows) ++ f row ∷ []
rows-more f rows i row within is =
    ap (map f) (take_more rows i row within)
    ∙ map-append f (take i rows) (get_or rows i row ∷ [])
    ∙ ap (λ x. map f (take i rows) ++ f x ∷ []) (sym is)

-- after the fields so far, the next one
pub more_fields : {X : Type 0} (f : X → Option Member) (rows : List X) (i : ℕ) (row : X) (before old new : List Token) → i < length rows → row ≡ get_or rows i row → old ≡ before ++ fields_tokens (map f (take i rows)) → new ≡ old ++ field_tokens (f row) → new ≡ before ++ fields_tokens (map f (take (i + 1) rows))
more_fields f rows i row before old new within is held pushed =
    pushed
    ∙ ap (λ ts. ts ++ field_tokens (f row)) held
    ∙ append_assoc before (fields_tokens (map f (take i rows))) (field_tokens (f row))
    ∙ ap (λ ts. before ++ ts) (sym (fields_tokens-append (map f (take i rows)) (f row)))
    ∙ ap (λ fields. before ++ fields_tokens fields) (sym (rows-more f rows i row within is))

-- after the values so far, the next one
pub more_values : {X : Type 0} (f : X → Json) (rows : List X) (i : ℕ) (row : X) (before old new : List Token) → i < length rows → row ≡ get_or rows i row → old ≡ before ++ values_tokens (map f (take i rows)) → new ≡ old ++ json_tokens (f row) → new ≡ before ++ values_tokens (map f (take (i + 1) rows))
more_values f rows i row before old new within is held pushed =
    pushed
    ∙ ap (λ ts. ts ++ json_tokens (f row)) held
    ∙ append_assoc before (values_tokens (map f (take i rows))) (json_tokens (f row))
    ∙ ap (λ ts. before ++ ts) (sym (values_tokens-append (map f (take i rows)) (f row)))
    ∙ ap (λ values. before ++ values_tokens values) (sym (rows-more f rows i row within is))

-- ---- all, between brackets

members_tokens-members : (fields : List (Option Member)) → members_tokens (members fields) ≡ fields_tokens fields ++ end_object ∷ []
members_tokens-members [] = refl
members_tokens-members (None ∷ fields) = members_tokens-members fields
members_tokens-members (Some field ∷ fields) =
    ap (λ ts. key field.0 ∷ (json_tokens field.1 ++ ts)) (members_tokens-members fields)
    ∙ ap (λ ts. key field.0 ∷ ts) (sym (append_assoc (json_tokens field.1) (fields_tokens fields) (end_object ∷ [])))

items_tokens-items : (values : List Json) → items_tokens (items values) ≡ values_tokens values ++ end_array ∷ []
items_tokens-items [] = refl
items_tokens-items (value ∷ values) =
    ap (λ ts. json_tokens value ++ ts) (items_tokens-items values)
    ∙ sym (append_assoc (json_tokens value) (values_tokens values) (end_array ∷ []))

-- an opening bracket, what is between, and the closing one
closed : (old one two new between : List Token) (opening closing : Token) → one ≡ old ++ opening ∷ [] → two ≡ one ++ between → new ≡ two ++ closing ∷ [] → new ≡ old ++ opening ∷ (between ++ closing ∷ [])
closed old one two new between opening closing opens holds closes =
    closes
    ∙ ap (λ ts. ts ++ closing ∷ []) (holds ∙ ap (λ ts. ts ++ between) opens ∙ append_assoc old (opening ∷ []) between)
    ∙ append_assoc old (opening ∷ between) (closing ∷ [])

pub whole_object : (fields : List (Option Member)) (old one two new : List Token) → one ≡ old ++ begin_object ∷ [] → two ≡ one ++ fields_tokens fields → new ≡ two ++ end_object ∷ [] → new ≡ old ++ json_tokens (object_of fields)
whole_object fields old one two new opens holds closes =
    closed old one two new (fields_tokens fields) begin_object end_object opens holds closes
    ∙ ap (λ ts. old ++ begin_object ∷ ts) (sym (members_tokens-members fields))

pub whole_array : (values : List Json) (old one two new : List Token) → one ≡ old ++ begin_array ∷ [] → two ≡ one ++ values_tokens values → new ≡ two ++ end_array ∷ [] → new ≡ old ++ json_tokens (array_of values)
whole_array values old one two new opens holds closes =
    closed old one two new (values_tokens values) begin_array end_array opens holds closes
    ∙ ap (λ ts. old ++ begin_array ∷ ts) (sym (items_tokens-items values))
