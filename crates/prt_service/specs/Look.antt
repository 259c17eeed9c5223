-- What contracts see of a looker.
use Rattle.std.specs.Prelude.{◌≡◌, ℕ, Option, None, Some}
use Rattle.prt_published.specs.Line.{Begins, Line, line_state}

-- the list that it knows, the one that led to the version that it holds, and the number that its place has announced
pub record Look : Type 0 where
  pub known : Line
  pub held : Option Line
  pub announced : Option ℕ

-- Offline it holds nothing. Online it has announced the number of the version that it holds, whose list is a prefix of the
-- known one.
abbrev pub AgreesOn : Option Line → Option ℕ → Line → Type 0
AgreesOn None None known = Unit {0}
AgreesOn None (Some number) known = ⊥
AgreesOn (Some held) None known = ⊥
AgreesOn (Some held) (Some number) known = (number ≡ (line_state held).count) × Begins held known

abbrev pub IsSteady : Look → Type 0
IsSteady look = AgreesOn look.held look.announced look.known
