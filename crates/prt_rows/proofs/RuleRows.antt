-- A row encodes at most one rule.
use Rattle.std.proofs.Common.{◌≡◌, ap, Option, Some, None, refl, sym, ◌∙◌}
use Rattle.sqlite_value.specs.Order.{Row, column}
use Rattle.prt_rule.specs.declared.rule.Mark.{Mark}
use Rattle.prt_rule.specs.declared.rule.Rule.{Rule}
use Rattle.prt_rows.specs.RuleRow.{IsRule, mark_of, mask_of, rule_row}
use Rattle.prt_rows.proofs.Cells.{same_flag, same_number, same_optional_name, same_optional_number}
use Rattle.prt_rows.proofs.Codes.{same_action}

same_mark : (a b : Option Mark) → mark_of a ≡ mark_of b → mask_of a ≡ mask_of b → a ≡ b
same_mark None None marks masks = refl
same_mark None (Some b) marks masks = cc
same_mark (Some a) None marks masks = cc
same_mark (Some a) (Some b) marks masks =
    let mark : a.mark ≡ b.mark = cc in
    let mask : a.mask ≡ b.mask = cc in
    λ i. Some (record { mark = mark i; mask = mask i })

pub same_rule : (last : _) (rule other : Rule) → IsRule last rule → IsRule last other → rule_row rule ≡ rule_row other → rule ≡ other
same_rule last rule other left right is =
    let at = λ (n : _) (row : Row). column row n in
    let mark = same_optional_number (mark_of rule.mark) (mark_of other.mark) (ap (at 8) is) in
    let mask = same_optional_number (mask_of rule.mark) (mask_of other.mark) (ap (at 9) is) in
    λ i. record {
      id = same_number rule.id other.id (ap (at 0) is) i;
      priority = same_number rule.priority other.priority (ap (at 1) is) i;
      inverted = same_flag rule.inverted other.inverted (ap (at 2) is) i;
      from = record { bits = same_number rule.from.bits other.from.bits (ap (at 3) is) i; len = same_number rule.from.len other.from.len (ap (at 4) is) i };
      to = record { bits = same_number rule.to.bits other.to.bits (ap (at 5) is) i; len = same_number rule.to.len other.to.len (ap (at 6) is) i };
      iif = same_optional_name rule.iif other.iif left.iif right.iif (ap (at 7) is) i;
      mark = same_mark rule.mark other.mark mark mask i;
      action = same_action rule.action other.action (same_number _ _ (ap (at 10) is)) (same_number _ _ (ap (at 11) is)) i;
      suppress = (left.plain ∙ sym right.plain) i;
    }
