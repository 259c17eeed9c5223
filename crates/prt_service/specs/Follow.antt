-- What a follower learns, and to whom commands are reported.
use Rattle.std.specs.Prelude.{◌≡◌, ◌==◌, ℕ, List, filter, not}
use Rattle.prt_published.specs.Line.{Line, grown}
use Rattle.prt_service.specs.declared.news.News.{News}
use Rattle.prt_service.specs.declared.news.News.TheVariants.{Command, Quiet, Ended}

-- by this news a follower that knew the one list knows the other
abbrev pub IsNews : Line → News → Line → Type 0
IsNews old (Command command together) new = new ≡ grown old command
IsNews old Quiet new = new ≡ old
IsNews old Ended new = new ≡ old

-- the other followers, by their numbers
abbrev pub others : ℕ → List ℕ → List ℕ
others number followers = filter (λ one. not (one == number)) followers
