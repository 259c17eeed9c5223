-- The commands that wait for a group.
use Rattle.std.specs.Prelude.{◌≡◌, ◌≤◌, List, [], ◌∷◌, ◌++◌, length}
use Rattle.prt_command.specs.declared.request.Command.{Command}
use Rattle.prt_service.specs.declared.lobby.Entered.{Entered}
use Rattle.prt_service.specs.declared.lobby.Entered.TheVariants.{First, Full, Later}

-- The first finds nobody there, a later one others, and both wait from then on. One that has no place isn't there.
abbrev pub HasEntered : List Command → Command → Entered → List Command → Type 0
HasEntered old one First new = (old ≡ []) × (new ≡ one ∷ [])
HasEntered old one Later new = (1 ≤ length old) × (new ≡ old ++ one ∷ [])
HasEntered old one Full new = new ≡ old
