use Rattle.std.proofs.Common.{◌≡◌, ◌++◌, drop, length, option_map}
use Rattle.json.specs.Tree.{json_tokens, items_tokens, members_tokens}
use Rattle.json.specs.Value.{items_view, members_view, value_view}
use Rattle.prt_import.specs.IpJson.Listing.{items_text, members_text}
use Rattle.prt_import.proofs.ip_json.member.+member.Given as goal

abbrev pub decreases-push_member : goal.decreases-push_member
decreases-push_member l = length (json_tokens (value_view l.value.now))

abbrev pub decreases-push_members : goal.decreases-push_members
decreases-push_members l = length (members_tokens (members_view l.members.now))

abbrev pub decreases-push_item : goal.decreases-push_item
decreases-push_item l = length (json_tokens (value_view l.value.now))

abbrev pub decreases-push_items : goal.decreases-push_items
decreases-push_items l = length (items_tokens (items_view l.items.now))

abbrev pub invariant-push_items-loop-item : goal.invariant-push_items-loop-item
invariant-push_items-loop-item l =
    l.fn.out.items ++ items_text l.fn.naming l.fn.start (items_view l.fn.items) ≡ l.out.items ++ items_text l.fn.naming l.fn.start (items_view (drop l.item-index l.items))

abbrev pub invariant-push_members-loop-member : goal.invariant-push_members-loop-member
invariant-push_members-loop-member l =
    l.fn.out.items ++ members_text l.fn.naming (option_map (λ s. s.now) l.fn.previous) (members_view l.fn.members)
    ≡ l.out.items ++ members_text l.fn.naming (option_map (λ s. s.now) l.last) (members_view (drop l.member-index l.members))
