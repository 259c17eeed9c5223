-- Tables are numbered from 1 on.
use Rattle.std.proofs.Common.{rules, ℕ, ◌≤◌, Option, Some, None, nat_le}
use Rattle.std.specs.Prelude.{IfSome}
use Rattle.prt_addr.specs.Word.{Word, keep}
use Rattle.prt_route.specs.Names.{spelled_number, table, tables}

-- a number that is kept is from 1 on
kept_from_one : (number : Option ℕ) → IfSome (keep (λ n. nat_le 1 n) number) (λ n. 1 ≤ n)
kept_from_one None = search rules
kept_from_one (Some n) = search rules

-- a table that a word expresses is from 1 on
pub table_from_one : (w : Word) → IfSome (table w) (λ n. 1 ≤ n)
table_from_one w = kept_from_one (spelled_number tables w)
