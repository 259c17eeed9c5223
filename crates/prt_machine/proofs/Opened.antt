-- What is known of a desk that was opened.
use Rattle.std.proofs.Common.{Ok, Err}
use Rattle.std.specs.Prelude.{IfOk, Result}

-- what holds of one state holds of some state
pub of_some : {X E State : Type 0} (Sound : State → Type 0) (Open : X → State → Type 0) (state : X → State) (r : Result X E) → IfOk r (λ x. Sound (state x) × Open x (state x)) → IfOk r (λ x. (s : State) × Sound s × Open x s)
of_some Sound Open state (Ok x) holds = (state x, holds.0, holds.1)
of_some Sound Open state (Err e) holds = tt
