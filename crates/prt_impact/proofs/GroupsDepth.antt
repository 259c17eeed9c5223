-- How deep the array of groups nests: no deeper than a reader goes.
use Rattle.std.proofs.Common.{◌≡◌, ℕ, ◌≤◌, List, [], ◌∷◌, Option, Some, None, map, option_and_then, sym, ap, ◌∙◌, arith, append-nil}
use Rattle.std.specs.List.{AllByRecursion as Each}
use Rattle.std.specs.Prelude.{⊤}
use Rattle.json.specs.Json.{if_last, max_depth, value}
use Rattle.json.specs.Lex.{tokens}
use Rattle.json.specs.Tree.{depth, items_depth, json_tokens, members_depth}
use Rattle.json.proofs.Printed.Trees.{value-json_tokens}
use Rattle.prt_json.specs.Fields.{Member, ReadsBack, items, json_text, members, object_of, text_field}
use Rattle.prt_impact.specs.GroupsJson.{group_fields, group_json, groups_json}
use Rattle.prt_impact.specs.declared.group.Group.{Group}

-- the value of the field, if it is there, nests at most one deep
abbrev IsFlat : Option Member → Type 0
IsFlat None = ⊤
IsFlat (Some field) = depth field.1 ≤ 1

members_flat : (fields : List (Option Member)) → Each IsFlat fields → members_depth (members fields) ≤ 1
members_flat [] flat = omega arith
members_flat (None ∷ fields) flat = members_flat fields flat.1
members_flat (Some field ∷ fields) flat = let here : depth field.1 ≤ 1 = flat.0 in let rest = members_flat fields flat.1 in omega arith

object_shallow : (fields : List (Option Member)) → Each IsFlat fields → depth (object_of fields) ≤ 2
object_shallow fields flat = let inside = members_flat fields flat in omega arith

text : (name : List ℕ) (o : Option (List ℕ)) → IsFlat (text_field name o)
text name None = tt
text name (Some s) = omega arith

there : 0 ≤ 1
there = omega arith

group_shallow : (group : Group) → depth (group_json group) ≤ 2
group_shallow group = object_shallow (group_fields group) (there, (text _ _, (text _ _, (text _ _, (text _ _, (there, (there, tt)))))))

items_shallow : (groups : List Group) → items_depth (items (map group_json groups)) ≤ 2
items_shallow [] = omega arith
items_shallow (group ∷ groups) = let here = group_shallow group in let rest = items_shallow groups in omega arith

groups_shallow : (groups : List Group) → depth (groups_json groups) ≤ max_depth
groups_shallow groups = let inside = items_shallow groups in omega arith

-- its text reads as the value, where the tokens are those of the text
pub reads_back : (groups : List Group) → tokens (json_text (groups_json groups)) ≡ json_tokens (groups_json groups) → ReadsBack (groups_json groups)
reads_back groups same =
    ap (option_and_then (λ p. if_last p.0 p.1))
    (ap (value max_depth) (same ∙ sym (append-nil (json_tokens (groups_json groups)))) ∙ value-json_tokens (groups_json groups) max_depth [] (groups_shallow groups))
