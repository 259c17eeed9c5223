-- The test of two rules decides whether they are equal in all but their ids.
use Rattle.std.proofs.Common.{◌≡◌, ℕ, Bool, true, false, Option, Some, None, refl, sym, ap, ◌∙◌}
use Rattle.std.specs.Prelude.{◌==◌, bytes_eq}
use Rattle.std.specs.Option.{option_eq}
use Rattle.std.specs.Bool.{Decides}
use Rattle.std.proofs.lemmas.Bool.Decides.{same_from_decides, Decides-eqb, Decides-and, Decides-like}
use Rattle.std.proofs.lemmas.Slice.Eq.{bytes_eq-Decides}
use Rattle.prt_addr.specs.Block.{Block}
use Rattle.prt_addr.specs.Prefix.{is_same_prefix}
use Rattle.prt_rule.specs.declared.rule.Action.{Action}
use Rattle.prt_rule.specs.declared.rule.Action.TheVariants.{Lookup, Blackhole, Unreachable, Prohibit}
use Rattle.prt_rule.specs.declared.rule.Mark.{Mark}
use Rattle.prt_rule.specs.declared.rule.Rule.{Rule}
use Rattle.prt_rule.specs.Same.{is_same_flag, is_same_mark, is_same_action, is_same_selector, is_same_rule}

flags : (a b : Bool) → Decides (is_same_flag a b) (a ≡ b)
flags true true = (λ _. refl, λ _. refl)
flags true false = (λ e. absurd cc, λ e. absurd cc)
flags false true = (λ e. absurd cc, λ e. absurd cc)
flags false false = (λ _. refl, λ _. refl)

abbrev block_by : ℕ → ℕ → Block
block_by bits len = record { bits = bits; len = len }

prefixes : (a b : Block) → Decides (is_same_prefix a b) (a ≡ b)
prefixes a b = Decides-like (is_same_prefix a b) (λ h. ap (λ n. block_by n a.len) h.0 ∙ ap (block_by b.bits) h.1) (λ e. (ap (λ x. x.bits) e, ap (λ x. x.len) e)) (Decides-and _ _ (Decides-eqb a.bits b.bits) (Decides-eqb a.len b.len))

options : {X : Type 0} (test : X → X → Bool) → ((x y : X) → Decides (test x y) (x ≡ y)) → (a b : Option X) → Decides (option_eq test a b) (a ≡ b)
options test tells None None = (λ _. refl, λ _. refl)
options test tells None (Some y) = (λ e. absurd cc, λ e. absurd cc)
options test tells (Some x) None = (λ e. absurd cc, λ e. absurd cc)
options test tells (Some x) (Some y) = Decides-like (test x y) (λ e. ap Some e) (λ e. cc) (tells x y)

abbrev mark_by : ℕ → ℕ → Mark
mark_by mark mask = record { mark = mark; mask = mask }

marks : (a b : Mark) → Decides (is_same_mark a b) (a ≡ b)
marks a b = Decides-like (is_same_mark a b) (λ h. ap (λ n. mark_by n a.mask) h.0 ∙ ap (mark_by b.mark) h.1) (λ e. (ap (λ x. x.mark) e, ap (λ x. x.mask) e)) (Decides-and _ _ (Decides-eqb a.mark b.mark) (Decides-eqb a.mask b.mask))

actions : (a b : Action) → Decides (is_same_action a b) (a ≡ b)
actions (Lookup a) (Lookup b) = Decides-like (is_same_action (Lookup a) (Lookup b)) (λ e. ap Lookup e) (λ e. cc) (Decides-eqb a b)
actions Blackhole Blackhole = (λ _. refl, λ _. refl)
actions Unreachable Unreachable = (λ _. refl, λ _. refl)
actions Prohibit Prohibit = (λ _. refl, λ _. refl)
actions _ _ = (λ e. absurd cc, λ e. absurd cc)

selectors : (a b : Rule) → Decides (is_same_selector a b) ((((a.from ≡ b.from) × (a.to ≡ b.to)) × (a.iif ≡ b.iif)) × (a.mark ≡ b.mark))
selectors a b =
    Decides-and _ _
    (Decides-and _ _ (Decides-and _ _ (prefixes a.from b.from) (prefixes a.to b.to)) (options bytes_eq bytes_eq-Decides a.iif b.iif))
    (options is_same_mark marks a.mark b.mark)

abbrev rule_by_parts : Rule → Rule
rule_by_parts b = record { id = b.id; priority = b.priority; inverted = b.inverted; from = b.from; to = b.to; iif = b.iif; mark = b.mark; action = b.action; suppress = b.suppress }

-- equal parts make equal rules, except for the id
equal : (a b : Rule) → a.priority ≡ b.priority → a.inverted ≡ b.inverted → a.from ≡ b.from → a.to ≡ b.to → a.iif ≡ b.iif → a.mark ≡ b.mark → a.action ≡ b.action → a.suppress ≡ b.suppress → record a { id = b.id } ≡ b
equal a b priority inverted from to iif mark action suppress = let e : record a { id = b.id } ≡ rule_by_parts b = cc in e

-- the test decides it
pub rules_same : (a b : Rule) → Decides (is_same_rule a b) (record a { id = b.id } ≡ b)
rules_same a b =
    Decides-like (is_same_rule a b)
    (λ h. equal a b h.0.0.0.0 h.0.0.0.1 h.0.0.1.0.0.0 h.0.0.1.0.0.1 h.0.0.1.0.1 h.0.0.1.1 h.0.1 h.1)
    (λ e. ((((ap (λ x. x.priority) e, ap (λ x. x.inverted) e), (((ap (λ x. x.from) e, ap (λ x. x.to) e), ap (λ x. x.iif) e), ap (λ x. x.mark) e)), ap (λ x. x.action) e), ap (λ x. x.suppress) e))
    (Decides-and _ _
    (Decides-and _ _ (Decides-and _ _ (Decides-and _ _ (Decides-eqb a.priority b.priority) (flags a.inverted b.inverted)) (selectors a b)) (actions a.action b.action))
    (options (λ m n. m == n) Decides-eqb a.suppress b.suppress))

abbrev with_id : ℕ → Rule → Rule
with_id id rule = record rule { id = id }

-- one rule with the other's id, swapped
turned : (a b : Rule) → record a { id = b.id } ≡ b → record b { id = a.id } ≡ a
turned a b e = ap (with_id a.id) (sym e)

-- the test says the same, whichever of the two comes first
pub same_both_ways : (a b : Rule) → is_same_rule a b ≡ is_same_rule b a
same_both_ways a b = same_from_decides (is_same_rule a b) (is_same_rule b a) (rules_same a b) (Decides-like (is_same_rule b a) (turned b a) (turned a b) (rules_same b a))
