-- A cell keeps its value in a column of its type.
use Rattle.std.proofs.Common.{◌≡◌, ℕ, ℤ, pos, negsuc, Bool, true, false, cond, List, Option, Some, None, [], ◌∷◌, refl}
use Rattle.sqlite.specs.Cast.{cast, cast_all, cast_row}
use Rattle.sqlite.specs.Kind.TheVariants as kind
use Rattle.sqlite.specs.Ops.{unary}
use Rattle.sqlite.specs.declared.types.Value.{Value}
use Rattle.sqlite.specs.declared.types.Value.TheVariants.{Null, Int}
use Rattle.sqlite.specs.Table.{Table}
use Rattle.sqlite_schema.specs.declared.schema.Column.{Column}
use Rattle.sqlite_value.specs.Order.{Row}
use Rattle.prt_addr.specs.Word.{Word}
use Rattle.prt_route.specs.declared.route.Route.{Route}
use Rattle.prt_rule.specs.declared.rule.Rule.{Rule}
use Rattle.prt_rows.specs.Cell.{flag, number, optional_name, optional_number}
use Rattle.prt_rows.specs.Kept.{kept_count, kept_length, kept_route, kept_rule}
use Rattle.prt_rows.specs.RouteRow.{kind_code}
use Rattle.prt_rows.specs.RuleRow.{action_code, action_table, mark_of, mask_of}
use Rattle.prt_rows.specs.Tables.{meta_table, route_table, rule_table, suppress_table}
use Rattle.prt_rows.specs.declared.suppress_row.RuleLength.{RuleLength}
use Rattle.std.specs.Prelude.{⊤, option_map}

either : (b : Bool) (x : Value) → cond b x x ≡ x
either true x = refl
either false x = refl

pub cast_null : cast kind.Integer Null ≡ Null
unfolding unary
cast_null = either _ Null

pub cast_int : (n : ℤ) → cast kind.Integer (Int n) ≡ Int n
unfolding unary
cast_int n = either _ (Int n)

cast_number : (n : ℕ) → cast kind.Integer (number n) ≡ number n
cast_number n = cast_int (pos n)

cast_flag : (b : Bool) → cast kind.Integer (flag b) ≡ flag b
cast_flag true = cast_int (pos 1)
cast_flag false = cast_int (pos 0)

cast_optional : (n : Option ℕ) → cast kind.Integer (optional_number n) ≡ optional_number n
cast_optional None = cast_int (negsuc 0)
cast_optional (Some n) = cast_int (pos n)

cast_name : (name : Option Word) → cast kind.Text (optional_name name) ≡ optional_name name
cast_name None = refl
cast_name (Some name) = refl

-- the columns keep the values as they are
abbrev Keep : List Column → Row → Type 0
Keep [] values = ⊤
Keep (column ∷ columns) [] = ⊤
Keep (column ∷ columns) (value ∷ values) = (cast column.kind value ≡ value) × Keep columns values

all_kept : (columns : List Column) (values : Row) → Keep columns values → cast_all columns values ≡ values
all_kept [] values keep = refl
all_kept (column ∷ columns) [] keep = refl
all_kept (column ∷ columns) (value ∷ values) keep = λ i. keep.0 i ∷ all_kept columns values keep.1 i

row_kept : (table : Table) (id : Value) (values : Row) → cast kind.Integer id ≡ id → Keep table.columns values → cast_row table (id ∷ values) ≡ id ∷ values
row_kept table id values given keep = λ i. given i ∷ all_kept table.columns values keep i

pub cast_rule : (rule : Rule) → cast_row rule_table (kept_rule rule) ≡ kept_rule rule
cast_rule rule = row_kept rule_table _ _ (cast_number rule.id) (cast_null, (cast_number rule.priority, (cast_flag rule.inverted, (cast_number rule.from.bits, (cast_number rule.from.len, (cast_number rule.to.bits, (cast_number rule.to.len, (cast_name rule.iif, (cast_optional (mark_of rule.mark), (cast_optional (mask_of rule.mark), (cast_number (action_code rule.action), (cast_number (action_table rule.action), tt))))))))))))

-- of a route with this rowid, also if it isn't given yet
pub cast_route : (rowid : Value) (route : Route) → cast kind.Integer rowid ≡ rowid → cast_row route_table (kept_route rowid route) ≡ kept_route rowid route
cast_route rowid route given = row_kept route_table rowid _ given (cast_number route.table, (cast_number route.prefix.bits, (cast_number route.prefix.len, (cast_number route.metric, (cast_number (kind_code route.kind), (cast_optional (option_map (λ addr. addr.0) route.via), (cast_name route.dev, (cast_optional (option_map (λ addr. addr.0) route.src), (cast_number route.proto, (cast_number route.scope, tt))))))))))

pub cast_count : (count : ℕ) → cast_row meta_table (kept_count count) ≡ kept_count count
cast_count count = row_kept meta_table _ _ (cast_number 1) (cast_null, (cast_number 2, (cast_number count, tt)))

pub cast_length : (length : RuleLength) → cast_row suppress_table (kept_length length) ≡ kept_length length
cast_length length = row_kept suppress_table _ _ (cast_number length.rule) (cast_null, (cast_number length.len, tt))
