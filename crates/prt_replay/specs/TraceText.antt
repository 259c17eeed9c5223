-- The text of a trace: a line for each outcome.
use Rattle.std.specs.Prelude.{ℕ, List, ◌++◌, map, codes, decimal}
use Rattle.prt_refusals.specs.Refusal.{refusal_text}
use Rattle.prt_refusals.specs.declared.refusal.StoreCall.{StoreCall}
use Rattle.prt_refusals.specs.declared.refusal.StoreCall.TheVariants.{Begin, Write, Count, Commit}
use Rattle.prt_listing.specs.AnswerText.{answer_text}
use Rattle.prt_listing.specs.QueryText.{lines_text}
use Rattle.prt_replay.specs.declared.outcome.Outcome.{Outcome}
use Rattle.prt_replay.specs.declared.outcome.Outcome.TheVariants.{Nothing, Prepared, Refused, Called, Published, Noted, Acknowledged, Online, Fetched}
use Rattle.prt_replay.specs.declared.outcome.Outcome.TheVariants.{Announced, Offline, Answered, Reclaimed, Stopped, Reopened}

-- a word and a number
abbrev pub numbered : List ℕ → ℕ → List ℕ
numbered word n = word ++ codes " " ++ decimal n

-- a word, a looker and a number
abbrev pub of_looker : List ℕ → ℕ → ℕ → List ℕ
of_looker word looker n = numbered (numbered word looker) n

abbrev pub call_name : StoreCall → List ℕ
call_name Begin = codes "begin"
call_name Write = codes "write"
call_name Count = codes "count"
call_name Commit = codes "commit"

-- the line of an outcome, without its newline
abbrev pub outcome_text : Outcome → List ℕ
outcome_text Nothing = codes "none"
outcome_text (Prepared n) = numbered (codes "prepared") n
outcome_text (Refused refusal) = refusal_text refusal
outcome_text (Called call) = call_name call
outcome_text (Published n) = numbered (codes "published") n
outcome_text (Noted n) = numbered (codes "noted") n
outcome_text (Acknowledged n) = numbered (codes "ok") n
outcome_text (Online looker n) = of_looker (codes "online") looker n
outcome_text (Fetched looker n) = of_looker (codes "fetch") looker n
outcome_text (Announced looker n) = of_looker (codes "announce") looker n
outcome_text (Offline looker) = numbered (codes "offline") looker
outcome_text (Answered answer) = answer_text answer
outcome_text (Reclaimed count) = numbered (codes "reclaim") count
outcome_text Stopped = codes "stop"
outcome_text (Reopened n) = numbered (codes "reopen") n

abbrev pub trace_text : List Outcome → List ℕ
trace_text outcomes = lines_text (map outcome_text outcomes)
