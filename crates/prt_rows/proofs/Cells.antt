-- What is in a cell determines the value.
use Rattle.std.proofs.Common.{◌≡◌, ℕ, true, false, Bool, [], ◌∷◌, Option, Some, None, refl, ap}
use Rattle.prt_addr.specs.Word.{Word}
use Rattle.prt_addr.specs.declared.addr.Addr.{Addr}
use Rattle.prt_rows.specs.Cell.{IsOptionalName, flag, number, optional_addr, optional_name, optional_number}

pub same_number : (a b : ℕ) → number a ≡ number b → a ≡ b
same_number a b is = cc

pub same_flag : (a b : Bool) → flag a ≡ flag b → a ≡ b
same_flag true true is = refl
same_flag true false is = cc
same_flag false true is = cc
same_flag false false is = refl

pub same_optional_number : (a b : Option ℕ) → optional_number a ≡ optional_number b → a ≡ b
same_optional_number None None is = refl
same_optional_number None (Some y) is = cc
same_optional_number (Some x) None is = cc
same_optional_number (Some x) (Some y) is = cc

pub same_optional_addr : (a b : Option Addr) → optional_addr a ≡ optional_addr b → a ≡ b
same_optional_addr None None is = refl
same_optional_addr None (Some y) is = cc
same_optional_addr (Some x) None is = cc
same_optional_addr (Some x) (Some y) is = let same : x.0 ≡ y.0 = cc in ap (λ n. Some (record { 0 = n })) same

pub same_optional_name : (a b : Option Word) → IsOptionalName a → IsOptionalName b → optional_name a ≡ optional_name b → a ≡ b
same_optional_name None None left right is = refl
same_optional_name None (Some []) left right is = cc
same_optional_name None (Some (y ∷ ys)) left right is = cc
same_optional_name (Some []) None left right is = cc
same_optional_name (Some (x ∷ xs)) None left right is = cc
same_optional_name (Some x) (Some y) left right is = cc
