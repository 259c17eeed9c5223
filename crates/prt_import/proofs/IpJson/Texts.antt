-- Texts appended one after the other, and the texts of members.
use Rattle.std.proofs.Common.{◌≡◌, ℕ, Bool, List, [], ◌++◌, Option, Some, sym, ap, ◌∙◌, append_assoc, rules}
use Rattle.std.specs.Borrow.{Bor}
use Rattle.json.specs.Json.{Json, boolean, number, string, array, object, Items, Members}
use Rattle.json.specs.Value.{value_view}
use Rattle.json.specs.declared.value.Value.{the_lemmas}
use Rattle.json.specs.declared.value.Value as values
use Rattle.prt_addr.specs.Word.{Word}
use Rattle.prt_import.specs.IpJson.Listing.{items_text, member_text, members_text}
use Rattle.prt_import.specs.IpJson.Words.{inside, item_end, item_start, label}
use Rattle.prt_import.specs.declared.ip_json.naming.Naming.{Naming}

-- ---- one after the other

pub two : (old a b mid : List ℕ) → mid ≡ old ++ a → mid ++ b ≡ old ++ (a ++ b)
two old a b mid first = ap (λ t. t ++ b) first ∙ append_assoc old a b

pub three : (old a b c one mid : List ℕ) → one ≡ old ++ a → mid ≡ one ++ b → mid ++ c ≡ old ++ ((a ++ b) ++ c)
three old a b c one mid first second = two old (a ++ b) c mid (second ∙ two old a b one first)

-- ---- members

pub array_member : (naming inner : Naming) (previous : Option Word) (name start end old one mid : List ℕ) (js : Items) (value : Json)
    → value ≡ array js → inner ≡ inside naming name → start ≡ item_start naming name → end ≡ item_end naming name
    → one ≡ old ++ label naming name → mid ≡ one ++ items_text inner start js → mid ++ end ≡ old ++ member_text naming previous name value
array_member naming inner previous name start end old one mid js value is inner_is start_is end_is first second =
    three old (label naming name) (items_text inner start js) end one mid first second
    ∙ ap (λ n. old ++ ((label naming name ++ items_text n start js) ++ end)) inner_is
    ∙ ap (λ s. old ++ ((label naming name ++ items_text (inside naming name) s js) ++ end)) start_is
    ∙ ap (λ e. old ++ ((label naming name ++ items_text (inside naming name) (item_start naming name) js) ++ e)) end_is
    ∙ ap (λ v. old ++ member_text naming previous name v) (sym is)

pub object_member : (naming inner : Naming) (previous : Option Word) (name end old one mid : List ℕ) (ms : Members) (value : Json)
    → value ≡ object ms → inner ≡ inside naming name → end ≡ item_end naming name
    → one ≡ old ++ label naming name → mid ≡ one ++ members_text inner (Some []) ms → mid ++ end ≡ old ++ member_text naming previous name value
object_member naming inner previous name end old one mid ms value is inner_is end_is first second =
    three old (label naming name) (members_text inner (Some []) ms) end one mid first second
    ∙ ap (λ n. old ++ ((label naming name ++ members_text n (Some []) ms) ++ end)) inner_is
    ∙ ap (λ e. old ++ ((label naming name ++ members_text (inside naming name) (Some []) ms) ++ e)) end_is
    ∙ ap (λ v. old ++ member_text naming previous name v) (sym is)

-- ---- a value as JSON

pub view_bool : (A : Type 0) → (b : Bool) → value_view {A = A} (values.Bool b) ≡ boolean b
view_bool A b = search (rules, the_lemmas)

pub view_number : (A : Type 0) → (s : Bor (List ℕ)) → value_view {A = A} (values.Number s) ≡ number s.now
view_number A s = search (rules, the_lemmas)

pub view_string : (A : Type 0) → (s : Bor (List ℕ)) → value_view {A = A} (values.String s) ≡ string s.now
view_string A s = search (rules, the_lemmas)
