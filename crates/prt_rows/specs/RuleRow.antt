-- The table of rules.
use Rattle.std.specs.Prelude.{◌≡◌, ℕ, List, [], ◌∷◌, Option, None, IfSome, codes, option_map}
use Rattle.sqlite.specs.Kind.TheVariants.{Integer, Text}
use Rattle.sqlite_value.specs.declared.value.Value.{Value}
use Rattle.sqlite_value.specs.Order.{Row}
use Rattle.prt_addr.specs.Sound.{IsPrefix}
use Rattle.prt_rule.specs.declared.rule.Action.{Action}
use Rattle.prt_rule.specs.declared.rule.Action.TheVariants.{Lookup, Blackhole, Unreachable, Prohibit}
use Rattle.prt_rule.specs.declared.rule.Mark.{Mark}
use Rattle.prt_rule.specs.declared.rule.Rule.{Rule}
use Rattle.prt_rows.specs.Cell.{IsNumber, IsOptionalName, IsWithin, flag, number, optional_name, optional_number}
use Rattle.prt_rows.specs.Columns.{Column, row_of}

abbrev pub action_code : Action → ℕ
action_code (Lookup table) = 1
action_code Blackhole = 6
action_code Unreachable = 7
action_code Prohibit = 8

-- the table that is looked up, and 0 if none is
abbrev pub action_table : Action → ℕ
action_table (Lookup table) = table
action_table _ = 0

abbrev pub mark_of : Option Mark → Option ℕ
mark_of = option_map (λ mark. mark.mark)

abbrev pub mask_of : Option Mark → Option ℕ
mask_of = option_map (λ mark. mark.mask)

abbrev pub rule_columns : List (Column Rule)
rule_columns =
    (codes "id", Integer, λ rule. number rule.id)
    ∷ (codes "priority", Integer, λ rule. number rule.priority)
    ∷ (codes "inverted", Integer, λ rule. flag rule.inverted)
    ∷ (codes "src_net", Integer, λ rule. number rule.from.bits)
    ∷ (codes "src_len", Integer, λ rule. number rule.from.len)
    ∷ (codes "dst_net", Integer, λ rule. number rule.to.bits)
    ∷ (codes "dst_len", Integer, λ rule. number rule.to.len)
    ∷ (codes "iif", Text, λ rule. optional_name rule.iif)
    ∷ (codes "mark", Integer, λ rule. optional_number (mark_of rule.mark))
    ∷ (codes "mask", Integer, λ rule. optional_number (mask_of rule.mark))
    ∷ (codes "act", Integer, λ rule. number (action_code rule.action))
    ∷ (codes "tbl", Integer, λ rule. number (action_table rule.action))
    ∷ []

abbrev pub rule_row : Rule → Row
rule_row = row_of rule_columns

-- the two cells of a mark, and of an action
abbrev pub mark_cells : Option Mark → List Value
mark_cells mark = optional_number (mark_of mark) ∷ optional_number (mask_of mark) ∷ []

abbrev pub action_cells : Action → List Value
action_cells action = number (action_code action) ∷ number (action_table action) ∷ []

-- mark and mask of 32 bits, or neither
abbrev pub IsOptionalMark : Option Mark → Type 0
IsOptionalMark mark = IfSome (mark_of mark) IsNumber × IfSome (mask_of mark) IsNumber

-- a table of 32 bits
abbrev pub IsAction : Action → Type 0
IsAction action = IsNumber (action_table action)

-- a rule that a row may encode, where `last` is the greatest id that was given
pub record IsRule (last : ℕ) (rule : Rule) : Type 0 where
  pub id : IsWithin 1 last rule.id
  pub priority : IsNumber rule.priority
  pub from : IsPrefix rule.from
  pub to : IsPrefix rule.to
  pub iif : IsOptionalName rule.iif
  pub mark : IsOptionalMark rule.mark
  pub action : IsAction rule.action
  -- no column keeps a suppressed length
  pub plain : rule.suppress ≡ None
