use Rattle.std.proofs.Common.{◌≡◌, ℕ, ◌<◌, suc, List, ◌++◌, OnOk, length, option_map, sym, ap, ◌∙◌, subst, arith, rules}
use Rattle.std.specs.Borrow.{Bor}
use Rattle.json.specs.Json.{array, boolean, number, object, string}
use Rattle.json.specs.Tree.{json_tokens, items_tokens, members_tokens}
use Rattle.json.specs.Value.{items_view, members_view, value_view}
use Rattle.json.proofs.Trees.{item_smaller, member_smaller, view-Array, view-Object}
use Rattle.prt_import.specs.IpJson.Listing.{member_text, opening, truth}
use Rattle.prt_import.specs.IpJson.Words.{label, word}
use Rattle.prt_import.proofs.IpJson.Texts.{array_member, object_member, two, view_bool, view_number, view_string}
use Rattle.prt_import.proofs.ip_json.member.+member.Goals as goal

-- ---- each call's value is smaller

pub push_items-push_item-requires : goal.push_items-push_item-requires
push_items-push_item-requires t c =
    let xs = c.args.items.now in
    let x = c.item-item.result in
    let smaller : length (json_tokens (value_view x)) < length (items_tokens (items_view xs)) =
    subst (λ y. length (json_tokens (value_view y)) < length (items_tokens (items_view xs))) (sym c.item-item.is) (item_smaller xs c.loop-item.item-index x (omega arith)) in
    search rules

pub push_members-push_member-requires : goal.push_members-push_member-requires
push_members-push_member-requires t c =
    let xs = c.args.members.now in
    let x = c.member-item.result in
    let smaller : length (json_tokens (value_view x.1)) < length (members_tokens (members_view xs)) =
    subst (λ y. length (json_tokens (value_view y.1)) < length (members_tokens (members_view xs))) (sym c.member-item.is) (member_smaller xs c.loop-member.member-index x (omega arith)) in
    search rules

pub push_member-push_members-requires : goal.push_member-push_members-requires
push_member-push_members-requires t c =
    let xs = c.deref-in-Object.result.now in
    let seen : value_view c.args.value.now ≡ object (members_view xs) =
    ap value_view c.in-Object.is ∙ view-Object c.in-Object.members ∙ ap (λ ms. object (members_view ms)) (sym c.deref-in-Object.ensures.value) in
    let sized : length (json_tokens (value_view c.args.value.now)) ≡ suc (length (members_tokens (members_view xs))) = ap (λ j. length (json_tokens j)) seen in
    let smaller : length (members_tokens (members_view xs)) < length (json_tokens (value_view c.args.value.now)) = omega arith in
    search rules

-- ---- what a member appends

pub push_member-returns-in_ok-push_label-in-Bool : goal.push_member-returns-in_ok-push_label-in-Bool
push_member-returns-in_ok-push_label-in-Bool t c =
    let old = c.args.out.now.items in
    let previous = option_map (λ (s : Bor (List ℕ)). s.now) c.args.previous in
    let name = c.args.name.now in
    let b = c.in-Bool.is_true in
    let seen : value_view c.args.value.now ≡ boolean b = ap value_view c.in-Bool.is ∙ view_bool _ b in
    let text = two old (label c.args.naming name) (truth b) c.push_label.new.out.items c.in_ok-push_label-in-Bool.ensures ∙ ap (λ j. old ++ member_text c.args.naming previous name j) (sym seen) in
    subst (λ ts. OnOk c.push_truth.result (c.push_truth.new.out.items ≡ ts)) text c.push_truth.ensures

pub push_member-returns-in_ok-push_opening-in-Number : goal.push_member-returns-in_ok-push_opening-in-Number
push_member-returns-in_ok-push_opening-in-Number t c =
    let old = c.args.out.now.items in
    let previous = option_map (λ (s : Bor (List ℕ)). s.now) c.args.previous in
    let name = c.args.name.now in
    let s = c.in-Number.text in
    let seen : value_view c.args.value.now ≡ number s.now = ap value_view c.in-Number.is ∙ view_number _ s in
    let text = two old (opening c.args.naming previous name) s.now c.push_opening.new.out.items c.in_ok-push_opening-in-Number.ensures ∙ ap (λ j. old ++ member_text c.args.naming previous name j) (sym seen) in
    subst (λ ts. OnOk c.push_text.result (c.push_text.new.out.items ≡ ts)) text c.push_text.ensures.ok

pub push_member-returns-in_ok-push_opening-in-String : goal.push_member-returns-in_ok-push_opening-in-String
push_member-returns-in_ok-push_opening-in-String t c =
    let old = c.args.out.now.items in
    let previous = option_map (λ (s : Bor (List ℕ)). s.now) c.args.previous in
    let name = c.args.name.now in
    let s = c.in-String.text in
    let seen : value_view c.args.value.now ≡ string s.now = ap value_view c.in-String.is ∙ view_string _ s in
    let text = two old (opening c.args.naming previous name) (word s.now) c.push_opening-in-String.new.out.items c.in_ok-push_opening-in-String.ensures
    ∙ ap (λ j. old ++ member_text c.args.naming previous name j) (sym seen) in
    subst (λ ts. OnOk c.push_word.result (c.push_word.new.out.items ≡ ts)) text c.push_word.ensures

pub push_member-returns-in_ok-push_items-in-Array : goal.push_member-returns-in_ok-push_items-in-Array
push_member-returns-in_ok-push_items-in-Array t c =
    let previous = option_map (λ (s : Bor (List ℕ)). s.now) c.args.previous in
    let js = items_view c.deref.result.now in
    let seen : value_view c.args.value.now ≡ array js = ap value_view c.in-Array.is ∙ view-Array c.in-Array.items ∙ ap (λ vs. array (items_view vs)) (sym c.deref.ensures.value) in
    let text = array_member c.args.naming c.inside.result previous c.args.name.now c.item_start.result.now c.item_end.result.now c.args.out.now.items c.push_label-in-Array.new.out.items
    c.push_items.new.out.items js (value_view c.args.value.now) seen c.inside.ensures c.item_start.ensures c.item_end.ensures c.in_ok-push_label-in-Array.ensures c.in_ok-push_items-in-Array.ensures in
    subst (λ ts. OnOk c.push_text-in-Array.result (c.push_text-in-Array.new.out.items ≡ ts)) text c.push_text-in-Array.ensures.ok

pub push_member-returns-in_ok-push_members-in-Object : goal.push_member-returns-in_ok-push_members-in-Object
push_member-returns-in_ok-push_members-in-Object t c =
    let previous = option_map (λ (s : Bor (List ℕ)). s.now) c.args.previous in
    let ms = members_view c.deref-in-Object.result.now in
    let seen : value_view c.args.value.now ≡ object ms = ap value_view c.in-Object.is ∙ view-Object c.in-Object.members ∙ ap (λ vs. object (members_view vs)) (sym c.deref-in-Object.ensures.value) in
    let text = object_member c.args.naming c.inside-in-Object.result previous c.args.name.now c.item_end-in-Object.result.now c.args.out.now.items c.push_label-in-Object.new.out.items
    c.push_members.new.out.items ms (value_view c.args.value.now) seen c.inside-in-Object.ensures c.item_end-in-Object.ensures c.in_ok-push_label-in-Object.ensures c.in_ok-push_members-in-Object.ensures in
    subst (λ ts. OnOk c.push_text-in-Object.result (c.push_text-in-Object.new.out.items ≡ ts)) text c.push_text-in-Object.ensures.ok
