-- An order of rules by all but the id, which brings equal ones together.
use Rattle.std.specs.Prelude.{ℕ, Bool}
use Rattle.std.specs.Cmp.Lexicographic.{slice_cmp}
use Rattle.std.specs.Option.{option_cmp}
use Rattle.std.specs.Ordering.{bool_cmp, is_lt, nat_cmp, ordering_then}
use Rattle.std.specs.declared.cmp.Ordering.{Ordering}
use Rattle.prt_addr.specs.Block.{Block}
use Rattle.prt_rule.specs.declared.rule.Action.{Action}
use Rattle.prt_rule.specs.declared.rule.Action.TheVariants.{Lookup, Blackhole, Unreachable, Prohibit}
use Rattle.prt_rule.specs.declared.rule.Mark.{Mark}
use Rattle.prt_rule.specs.declared.rule.Rule.{Rule}

-- numbers in pairs
abbrev pub pair_cmp : ℕ × ℕ → ℕ × ℕ → Ordering
pair_cmp a b = ordering_then (nat_cmp a.0 b.0) (nat_cmp a.1 b.1)

-- the address, then the length
abbrev pub prefix_pair : Block → ℕ × ℕ
prefix_pair prefix = (prefix.bits, prefix.len)

abbrev pub mark_pair : Mark → ℕ × ℕ
mark_pair mark = (mark.mark, mark.mask)

-- lookups first, by their tables
abbrev pub action_pair : Action → ℕ × ℕ
action_pair (Lookup table) = (0, table)
action_pair Blackhole = (1, 0)
action_pair Unreachable = (2, 0)
action_pair Prohibit = (3, 0)

abbrev pub iif_cmp : Rule → Rule → Ordering
iif_cmp a b = option_cmp (slice_cmp nat_cmp) a.iif b.iif

abbrev pub mark_cmp : Rule → Rule → Ordering
mark_cmp a b = option_cmp (λ x y. pair_cmp (mark_pair x) (mark_pair y)) a.mark b.mark

abbrev pub selector_cmp : Rule → Rule → Ordering
selector_cmp a b =
    ordering_then (ordering_then (ordering_then
    (pair_cmp (prefix_pair a.from) (prefix_pair b.from))
    (pair_cmp (prefix_pair a.to) (prefix_pair b.to)))
    (iif_cmp a b))
    (mark_cmp a b)

-- rules that suppress nothing first, then by the length
abbrev pub suppress_cmp : Rule → Rule → Ordering
suppress_cmp a b = option_cmp nat_cmp a.suppress b.suppress

-- by priority, `not`, selector, action and suppressed length
abbrev pub content_cmp : Rule → Rule → Ordering
content_cmp a b =
    ordering_then (ordering_then (ordering_then (ordering_then
    (nat_cmp a.priority b.priority)
    (bool_cmp a.inverted b.inverted))
    (selector_cmp a b))
    (pair_cmp (action_pair a.action) (action_pair b.action)))
    (suppress_cmp a b)

abbrev pub is_content_before : Rule → Rule → Bool
is_content_before a b = is_lt (content_cmp a b)
