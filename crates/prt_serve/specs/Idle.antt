-- What a client reads whose session ends since it sent nothing for too long.
use Rattle.std.specs.Prelude.{ℕ, ◌==◌, List, ◌++◌, codes, decimal, if◌then◌else◌}

-- a comment that says for how many seconds nothing came
abbrev pub idle_line : ℕ → List ℕ
idle_line seconds = codes "# closed: nothing came for " ++ decimal seconds ++ (if seconds == 1 then codes " second\n" else codes " seconds\n")
