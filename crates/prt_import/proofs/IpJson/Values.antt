-- Values read one after the other, and their lines.
use Rattle.std.proofs.Common.{◌≡◌, ◌⊎◌, inl, inr, ℕ, ◌-◌, ◌<◌, ◌≤◌, Bool, Bor, codes, List, [], ◌∷◌, ◌++◌, Option, Some, None, option_map, option_and_then, unwrap_or, Result, Ok, Err, refl, sym, ap, ◌∙◌, append_assoc, length, arith}
use Rattle.std.proofs.lemmas.List.{append-nil}
use Rattle.json.specs.Json.{Json, after_end_array, array, object, if_last, item, Items, no_items, document, items, max_depth, members, Members, parse_map, value}
use Rattle.json.specs.Lex.{tokens}
use Rattle.json.specs.Token.{Token, begin_array, begin_object}
use Rattle.json.specs.Reads.{token_of}
use Rattle.json.specs.declared.token.Token.{Token as Found}
use Rattle.json.specs.declared.token.Token.TheVariants.{EndObject, EndArray, Key, String, Number, Bool as IsBool, Null, Bad}
use Rattle.json.specs.declared.error.Error.{Error}
use Rattle.json.specs.declared.error.Error.TheVariants.{Invalid, OutOfMemory, TooLong, DuplicateKey}
use Rattle.json.proofs.Grammar.{items_end, items_fail, items_more, value-begin_array, value-begin_object, value_is}
use Rattle.prt_import.specs.IpJson.Listing.{document_lines, line, lines}
use Rattle.prt_import.specs.IpJson.Steps.{Appends, reason}
use Rattle.prt_import.specs.declared.ip_json.fault.ListingError.{ListingError}
use Rattle.prt_import.specs.declared.ip_json.fault.ListingError.TheVariants.{NoJson, NoMemory}

-- of what was read, the lines after these, with the tokens that are left
abbrev pub shown : List ℕ → Option (Items × List Token) → Option (List ℕ × List Token)
shown old read = option_map (λ r. (old ++ lines r.0, r.1)) read

-- ---- one value more

pub shown-item : (old new : List ℕ) (j : Json) (read : Option (Items × List Token)) → new ≡ old ++ line j → shown old (parse_map (item j) read) ≡ shown new read
shown-item old new j None more = refl
shown-item old new j (Some r) more = ap (λ ls. Some (ls, r.1)) (sym (append_assoc old (line j) (lines r.0)) ∙ ap (λ ls. ls ++ lines r.0) (sym more))

pub shown_none : (old new : List ℕ) (read : Option (Items × List Token)) → shown old read ≡ shown new None → read ≡ None
shown_none old new None same = refl
shown_none old new (Some r) same = absurd (cc)

pub shown_end : (old new : List ℕ) (read : Option (Items × List Token)) (rest : List Token) → shown old read ≡ shown new (Some (no_items, rest)) → Appends read rest lines old new
shown_end old new None rest same = absurd (cc)
shown_end old new (Some r) rest same =
    let both = ap (λ o. unwrap_or o ([], [])) same in
    let left = ap (λ p. p.1) both in
    (r.0, ap (λ ts. Some (r.0, ts)) left, sym (append-nil new) ∙ sym (ap (λ p. p.0) both))

-- ---- documents

pub array_document : (ts rest : List Token) (old new : List ℕ) → Appends (items (value 127) (length ts) ts) rest lines old new → Appends (value max_depth (begin_array ∷ ts)) rest document_lines old new
array_document ts rest old new read = (array read.0, value-begin_array max_depth ts (omega arith) ∙ ap (parse_map array) read.1, read.2)

pub no_array : (ts : List Token) → items (value 127) (length ts) ts ≡ None → value max_depth (begin_array ∷ ts) ≡ None
no_array ts none = value-begin_array max_depth ts (omega arith) ∙ ap (parse_map array) none

pub object_document : (ts rest : List Token) (old new : List ℕ) (ms : Members) → members (value 127) (length ts) ts ≡ Some (ms, rest) → new ≡ old ++ line (object ms) → Appends (value 128 (begin_object ∷ ts)) rest document_lines old new
object_document ts rest old new ms read more = (object ms, value-begin_object 128 ts (omega arith) ∙ ap (parse_map object) read, more)

pub no_object : (ts : List Token) → members (value 127) (length ts) ts ≡ None → value 128 (begin_object ∷ ts) ≡ None
no_object ts none = value-begin_object 128 ts (omega arith) ∙ ap (parse_map object) none

-- of a first token that is known
pub begun : (first known : Found) (ts rest : List Token) (old new : List ℕ) → first ≡ known → Appends (value max_depth (token_of known ∷ ts)) rest document_lines old new → Appends (value max_depth (token_of first ∷ ts)) rest document_lines old new
begun first known ts rest old new is read = (read.0, ap (λ t. value max_depth (token_of t ∷ ts)) is ∙ read.1, read.2)

pub not_begun : (first known : Found) (ts : List Token) → first ≡ known → value max_depth (token_of known ∷ ts) ≡ None → value max_depth (token_of first ∷ ts) ≡ None
not_begun first known ts is none = ap (λ t. value max_depth (token_of t ∷ ts)) is ∙ none

abbrev BeginsNothing : Found → Type 0
BeginsNothing first = (first ≡ EndObject) ⊎ ((first ≡ EndArray) ⊎ (((name : Bor (List ℕ)) × (first ≡ Key name)) ⊎ (first ≡ Bad)))

pub no_value : (first : Found) (ts : List Token) → BeginsNothing first → value max_depth (token_of first ∷ ts) ≡ None
no_value first ts (inl is) = not_begun first EndObject ts is (value_is max_depth (token_of EndObject ∷ ts))
no_value first ts (inr (inl is)) = not_begun first EndArray ts is (value_is max_depth (token_of EndArray ∷ ts))
no_value first ts (inr (inr (inl (name, is)))) = not_begun first (Key name) ts is (value_is max_depth (token_of (Key name) ∷ ts))
no_value first ts (inr (inr (inr is))) = not_begun first Bad ts is (value_is max_depth (token_of Bad ∷ ts))

abbrev IsPlain : Found → Type 0
IsPlain first =
    ((s : Bor (List ℕ)) × (first ≡ String s)) ⊎ (((s : Bor (List ℕ)) × (first ≡ Number s)) ⊎ (((b : Bool) × (first ≡ IsBool b)) ⊎ (first ≡ Null)))

-- a text, a number, a truth value or null
pub plain_document : (first : Found) (ts : List Token) (old new : List ℕ) → IsPlain first → new ≡ old ++ codes "{} {}\n" → Appends (value max_depth (token_of first ∷ ts)) ts document_lines old new
plain_document first ts old new (inl (s, is)) more = begun first (String s) ts ts old new is (Json.string s.now, value_is max_depth (token_of (String s) ∷ ts), more)
plain_document first ts old new (inr (inl (s, is))) more = begun first (Number s) ts ts old new is (Json.number s.now, value_is max_depth (token_of (Number s) ∷ ts), more)
plain_document first ts old new (inr (inr (inl (b, is)))) more = begun first (IsBool b) ts ts old new is (Json.boolean b, value_is max_depth (token_of (IsBool b) ∷ ts), more)
plain_document first ts old new (inr (inr (inr is))) more = begun first Null ts ts old new is (Json.null, value_is max_depth (token_of Null ∷ ts), more)

-- ---- texts

abbrev last : Option (Json × List Token) → Option Json
last read = option_and_then (λ p. if_last p.0 p.1) read

pub no_document : (text : List ℕ) (ts : List Token) → tokens text ≡ ts → value max_depth ts ≡ None → document text ≡ None
no_document text ts is none = ap (λ ts. last (value max_depth ts)) is ∙ ap last none

pub no_tokens : (text : List ℕ) → tokens text ≡ [] → document text ≡ None
no_tokens text is = no_document text [] is (value_is max_depth [])

-- ---- values of an array

pub one_value_more : (n : ℕ) (ts r : List Token) (all : Option (Items × List Token)) (start old new : List ℕ) → 0 < n → shown start all ≡ shown old (items (value 127) n ts) → after_end_array ts ≡ None → Appends (value 127 ts) r line old new → shown start all ≡ shown new (items (value 127) (n - 1) r)
one_value_more n ts r all start old new some before going read =
    before ∙ ap (shown old) (items_more (value 127) n ts r read.0 some going read.1) ∙ shown-item old new read.0 _ read.2

pub values_end : (n : ℕ) (ts r : List Token) (all : Option (Items × List Token)) (start old : List ℕ) → length ts ≤ n → shown start all ≡ shown old (items (value 127) n ts) → after_end_array ts ≡ Some r → Appends all r lines start old
values_end n ts r all start old within before end = shown_end start old all r (before ∙ ap (shown old) (items_end (value 127) n ts r within end))

pub values_fail : (n : ℕ) (ts : List Token) (all : Option (Items × List Token)) (start old : List ℕ) → shown start all ≡ shown old (items (value 127) n ts) → after_end_array ts ≡ None → value 127 ts ≡ None → all ≡ None
values_fail n ts all start old before going failed = shown_none start old all (before ∙ ap (shown old) (items_fail (value 127) n ts going failed))

-- ---- reasons

abbrev reason_of : {A : Type 0} → Result A ListingError → ListingError
reason_of (Ok a) = NoMemory
reason_of (Err fault) = fault

only_invalid : (error : Error) → reason error ≡ NoJson → (error ≡ TooLong → ⊥) → (error ≡ DuplicateKey → ⊥) → error ≡ Invalid
only_invalid Invalid why long twice = refl
only_invalid OutOfMemory why long twice = absurd (cc)
only_invalid TooLong why long twice = absurd (long refl)
only_invalid DuplicateKey why long twice = absurd (twice refl)

abbrev pub Fails : Type 0 → ListingError → ListingError → Type 0
Fails A fault because = ◌≡◌ {A = Result A ListingError} (Err fault) (Err because)

abbrev pub Refuses : Type 0 → Error → Error → Type 0
Refuses A error because = ◌≡◌ {A = Result A Error} (Err error) (Err because)

-- what failed as no JSON was no value
pub invalid : {A B C : Type 0} (error : Error) (fault : ListingError) → fault ≡ reason error → Fails A fault NoJson → (Refuses B error TooLong → ⊥) → (Refuses B error DuplicateKey → ⊥) → (Refuses B error Invalid → C) → C
invalid error fault is why long twice then =
    then (ap Err (only_invalid error (sym is ∙ ap reason_of why) (λ same. long (ap Err same)) (λ same. twice (ap Err same))))

pub same_reason : {A B : Type 0} (fault : ListingError) → Fails A fault NoJson → Fails B fault NoJson
same_reason fault why = ap Err (ap reason_of why)
