-- A rule that is named whole: prt takes no other rule than the kernel does.
use Rattle.std.proofs.Common.{◌≡◌, ℕ, Bool, true, false, not, ◌&&◌, ◌||◌, List, [], ◌∷◌, ◌++◌, Option, Some, None, refl, sym, ap, ◌∙◌}
use Rattle.std.specs.Prelude.{◌==◌, bytes_eq, find}
use Rattle.std.specs.List.{AllByRecursion as Each}
use Rattle.std.proofs.lemmas.Bool.{and_parts, eq-eqb}
use Rattle.std.proofs.lemmas.Slice.Eq.{bytes_eq-Decides}
use Rattle.prt_addr.specs.Block.{Block}
use Rattle.prt_addr.specs.Given.{agrees_there}
use Rattle.prt_addr.specs.Prefix.{is_same_prefix}
use Rattle.prt_addr.proofs.Each.{each_implies}
use Rattle.prt_rule.specs.RuleChoice.{is_named}
use Rattle.prt_rule.specs.Same.{is_same_action, is_same_mark, is_same_rule}
use Rattle.prt_rule.specs.declared.rule.Action.{Action}
use Rattle.prt_rule.specs.declared.rule.Action.TheVariants.{Lookup, Blackhole, Unreachable, Prohibit}
use Rattle.prt_rule.specs.declared.rule.Mark.{Mark}
use Rattle.prt_rule.specs.declared.rule.Rule.{Rule}
use Rattle.prt_rule.proofs.SameRules.{rules_same}
use Rattle.prt_version.specs.Change.{named_rule}
use Rattle.prt_diff.specs.Rules.{mark_bits, mask_bits, takes, takes_number, takes_prefix, whole_choice}
use Rattle.prt_diff.proofs.Members.{differ}

or_true : (b : Bool) → (b || true) ≡ true
or_true true = refl
or_true false = refl

-- ---- a rule is named by all that it has

itself_there : {X : Type 0} (same : X → X → Bool) → ((x : X) → same x x ≡ true) → (o : Option X) → agrees_there same o o ≡ true
itself_there same is None = refl
itself_there same is (Some x) = is x

same_number : (n : ℕ) → (n == n) ≡ true
same_number n = eq-eqb n n refl

same_prefix : (prefix : Block) → is_same_prefix prefix prefix ≡ true
same_prefix prefix = simp (same_number prefix.bits) (same_number prefix.len)

same_mark : (mark : Mark) → is_same_mark mark mark ≡ true
same_mark mark = simp (same_number mark.mark) (same_number mark.mask)

same_action : (action : Action) → is_same_action action action ≡ true
same_action (Lookup table) = same_number table
same_action Blackhole = refl
same_action Unreachable = refl
same_action Prohibit = refl

either_way : (b : Bool) → (not b || b) ≡ true
either_way true = refl
either_way false = refl

eight : (a b c d e f g h : Bool) → a ≡ true → b ≡ true → c ≡ true → d ≡ true → e ≡ true → f ≡ true → g ≡ true → h ≡ true → (a && b && c && d && e && f && g && h) ≡ true
eight a b c d e f g h a_is b_is c_is d_is e_is f_is g_is h_is = cc

named_itself : (rule : Rule) → is_named (whole_choice rule) rule ≡ true
named_itself rule =
    eight _ _ _ _ _ _ _ _ (same_number rule.priority) (either_way rule.inverted) (same_prefix rule.from) (same_prefix rule.to)
    (itself_there bytes_eq (λ x. (bytes_eq-Decides x x).1 refl) rule.iif) (itself_there is_same_mark same_mark rule.mark) (same_action rule.action)
    (itself_there (λ a b. a == b) same_number rule.suppress)

pub same_named : (rule one : Rule) → is_same_rule one rule ≡ true → is_named (whole_choice rule) one ≡ true
same_named rule one same = ap (λ r. is_named (whole_choice r) one) (sym ((rules_same one rule).0 same)) ∙ named_itself one

-- ---- and what it names agrees with its words

prefix_taken : (given prefix : Block) → is_same_prefix given prefix ≡ true → takes_prefix given prefix ≡ true
prefix_taken given prefix same = ap (λ b. given.len == 0 || b) same ∙ or_true (given.len == 0)

number_taken : (given number : ℕ) → (given == number) ≡ true → takes_number given number ≡ true
number_taken given number same = ap (λ b. given == 0 || b) same ∙ or_true (given == 0)

mark_taken : (given mark : Option Mark) → agrees_there is_same_mark given mark ≡ true → takes_number (mark_bits given) (mark_bits mark) ≡ true
mark_taken None mark same = refl
mark_taken (Some given) None same = differ (sym same)
mark_taken (Some given) (Some mark) same = number_taken given.mark mark.mark (and_parts (given.mark == mark.mark) (given.mask == mark.mask) same).0

mask_taken : (given mark : Option Mark) → agrees_there is_same_mark given mark ≡ true → takes_number (mask_bits given) (mask_bits mark) ≡ true
mask_taken None mark same = refl
mask_taken (Some given) None same = differ (sym same)
mask_taken (Some given) (Some mark) same = number_taken given.mask mark.mask (and_parts (given.mark == mark.mark) (given.mask == mark.mask) same).1

record Eight (a b c d e f g h : Bool) : Type 0 where
  one : a ≡ true
  two : b ≡ true
  three : c ≡ true
  four : d ≡ true
  five : e ≡ true
  six : f ≡ true
  seven : g ≡ true
  last : h ≡ true

parts : (a b c d e f g h : Bool) → (a && b && c && d && e && f && g && h) ≡ true → Eight a b c d e f g h
parts a b c d e f g h all =
    let p7 = and_parts (a && b && c && d && e && f && g) h all in
    let p6 = and_parts (a && b && c && d && e && f) g p7.0 in
    let p5 = and_parts (a && b && c && d && e) f p6.0 in
    let p4 = and_parts (a && b && c && d) e p5.0 in
    let p3 = and_parts (a && b && c) d p4.0 in
    let p2 = and_parts (a && b) c p3.0 in
    let p1 = and_parts a b p2.0 in
    record { one = p1.0; two = p1.1; three = p2.1; four = p3.1; five = p4.1; six = p5.1; seven = p6.1; last = p7.1 }

named_takes : (rule other : Rule) → is_named (whole_choice rule) other ≡ true → takes rule other ≡ true
named_takes rule other named =
    let p = parts _ _ _ _ _ _ _ _ named in
    eight _ _ _ _ _ _ _ _ p.one (prefix_taken rule.from other.from p.three) (prefix_taken rule.to other.to p.four) p.five
    (mark_taken rule.mark other.mark p.six) (mask_taken rule.mark other.mark p.six) p.seven p.last

not_named : (rule other : Rule) → takes rule other ≡ false → is_named (whole_choice rule) other ≡ false
not_named rule other fails = by (is_named (whole_choice rule) other) refl
  where
    by : (b : Bool) → is_named (whole_choice rule) other ≡ b → b ≡ false
    by true is = differ (sym (named_takes rule other is) ∙ fails)
    by false is = refl

pub finds : {X : Type 0} (p : X → Bool) (xs : List X) (y : X) (zs : List X) → Each (λ x. p x ≡ false) xs → p y ≡ true → find p (xs ++ y ∷ zs) ≡ Some y
finds p [] y zs h passes = simp passes refl
finds p (x ∷ xs) y zs h passes = simp h.0 (finds p xs y zs h.1 passes)

-- a rule that the kernel takes, prt takes too
pub takes_it : (rule : Rule) (front : List Rule) (one : Rule) (back : List Rule) → Each (λ other. takes rule other ≡ false) front → is_same_rule one rule ≡ true → named_rule (whole_choice rule) (front ++ one ∷ back) ≡ Some one
takes_it rule front one back none same =
    finds (is_named (whole_choice rule)) front one back
    (each_implies (λ other. takes rule other ≡ false) (λ other. is_named (whole_choice rule) other ≡ false) (λ other. not_named rule other) front none)
    (same_named rule one same)
