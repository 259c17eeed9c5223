-- One step after another, if each may fail.
use Rattle.std.specs.Prelude.{Result, Ok, Err}

-- the second step, of what the first yields, or why the first fails
infixl 10 ◌>>=◌
abbrev pub ◌>>=◌ : {A B E : Type 0} → Result A E → (A → Result B E) → Result B E
(Ok x) >>= f = f x
(Err e) >>= f = Err e

-- what is made of a value that a step yields
abbrev pub map_ok : {A B E : Type 0} → (A → B) → Result A E → Result B E
map_ok f (Ok x) = Ok (f x)
map_ok f (Err e) = Err e
