-- What a line claims, or its first fault:
--     [to PREFIX] [from PREFIX] [iif NAME] [mark MARK[/MASK]] [not mark MARK[/MASK]] : [not] OUTCOME [or OUTCOME ..]
use Rattle.std.specs.Prelude.{ℕ, ◌-◌, Bool, ◌&&◌, ◌==◌, nat_lt, if◌then◌else◌, true, false, suc, List, [], ◌∷◌, ◌++◌, length, slice_index, take}
use Rattle.std.specs.Prelude.{Option, Some, None, is_some, Result, Ok, Err, bytes_eq, codes}
use Rattle.std.specs.Option.{ok_or, option_to_list}
use Rattle.prt_addr.specs.Addr.{address}
use Rattle.prt_addr.specs.Prefix.{prefix}
use Rattle.prt_addr.specs.Word.{Word}
use Rattle.prt_command.specs.FaultWord.{words_or_none}
use Rattle.prt_command.specs.Mark.{mark}
use Rattle.prt_command.specs.Reading.{line_words}
use Rattle.prt_command.specs.Then.{◌>>=◌, map_ok}
use Rattle.prt_command.specs.Values.{kind_of}
use Rattle.prt_refusals.specs.declared.refusal.Refusal.{Refusal}
use Rattle.prt_refusals.specs.declared.refusal.Refusal.TheVariants.{BadAddress, BadName, BadTable, MissingValue, Repeated, UnknownWord}
use Rattle.prt_route.specs.Dev.{device}
use Rattle.prt_route.specs.Names.{table}
use Rattle.prt_analyses.specs.declared.claims.claim.Claim.{Claim}
use Rattle.prt_analyses.specs.declared.claims.claim.Expected.{Expected}
use Rattle.prt_analyses.specs.declared.claims.claim.Expected.TheVariants as expected
use Rattle.prt_analyses.specs.declared.claims.draft.Draft.{Draft}
use Rattle.prt_analyses.specs.declared.claims.draft.Place.{Place}
use Rattle.prt_analyses.specs.declared.claims.draft.Place.TheVariants.{Item, NotItem, ItemValue, FirstOutcome, Outcome, OutcomeValue, Joint}
use Rattle.prt_analyses.specs.declared.claims.reading.BadClaim.{BadClaim}
use Rattle.prt_analyses.specs.declared.claims.reading.ClaimFault.TheVariants.{Refused, NoOutcome}
use Rattle.prt_analyses.specs.declared.claims.selector.PacketSelector.{PacketSelector}
use Rattle.prt_analyses.specs.declared.claims.values.ItemWord.{ItemWord}
use Rattle.prt_analyses.specs.declared.claims.values.ItemWord.TheVariants as item
use Rattle.prt_analyses.specs.declared.claims.values.OutcomeWord.{OutcomeWord}
use Rattle.prt_analyses.specs.declared.claims.values.OutcomeWord.TheVariants as outcome

-- ---- items of the selector

-- the item that a word begins
abbrev pub item_word : Word → Option ItemWord
item_word w =
    if bytes_eq (codes "to") w then Some item.To else
    if bytes_eq (codes "from") w then Some item.From else
    if bytes_eq (codes "iif") w then Some item.Iif else
    if bytes_eq (codes "mark") w then Some item.Mark else
    if bytes_eq (codes "fwmark") w then Some item.Mark else
    None

abbrev pub has_item : ItemWord → PacketSelector → Bool
has_item item.To selector = is_some selector.to
has_item item.From selector = is_some selector.from
has_item item.Iif selector = is_some selector.iif
has_item item.Mark selector = is_some selector.mark
has_item item.NotMark selector = is_some selector.not_mark

-- the selector with the item whose value the word is
abbrev pub with_item : ItemWord → PacketSelector → Word → Result PacketSelector Refusal
with_item item.To selector w = map_ok (λ block. record selector { to = Some block }) (prefix w)
with_item item.From selector w = map_ok (λ block. record selector { from = Some block }) (prefix w)
with_item item.Iif selector w = map_ok (λ name. record selector { iif = Some name }) (ok_or (device w) BadName)
with_item item.Mark selector w = map_ok (λ m. record selector { mark = Some m }) (mark w)
with_item item.NotMark selector w = map_ok (λ m. record selector { not_mark = Some m }) (mark w)

-- ---- outcomes

-- the outcome that a word begins and whose value follows
abbrev pub outcome_word : Word → Option OutcomeWord
outcome_word w =
    if bytes_eq (codes "dev") w then Some outcome.Dev else
    if bytes_eq (codes "via") w then Some outcome.Via else
    if bytes_eq (codes "table") w then Some outcome.Table else
    if bytes_eq (codes "kind") w then Some outcome.Kind else
    None

-- the outcome whose value the word is
abbrev pub outcome_of : OutcomeWord → Word → Result Expected Refusal
outcome_of outcome.Dev w = map_ok expected.Dev (ok_or (device w) BadName)
outcome_of outcome.Via w = map_ok expected.Via (ok_or (address w) BadAddress)
outcome_of outcome.Table w = map_ok expected.Table (ok_or (table w) BadTable)
outcome_of outcome.Kind w = map_ok expected.Kind (ok_or (kind_of w) UnknownWord)

-- ---- word after word

-- What a word makes of a claim that is read so far, and the outcome that it ends; or what is wrong with it.
abbrev pub Step : Type 0
Step = Result (Draft × Option Expected) Refusal

-- after a word that ends no outcome
abbrev pub goes_on : Place → Draft → Step
goes_on place draft = Ok (record draft { place = place }, None)

-- after the first word of an item
abbrev pub item_step_by : Option ItemWord → Draft → Step
item_step_by None draft = Err UnknownWord
item_step_by (Some word) draft = if has_item word draft.selector then Err Repeated else goes_on (ItemValue word) draft

-- the colon, `not`, or the first word of another item
abbrev pub item_step : Draft → Word → Step
item_step draft w =
    if bytes_eq (codes ":") w then goes_on FirstOutcome draft else
    if bytes_eq (codes "not") w then goes_on NotItem draft else
    item_step_by (item_word w) draft

-- of all items only a mark can follow `not`
abbrev pub negated_word : Option ItemWord → Option ItemWord
negated_word (Some item.Mark) = Some item.NotMark
negated_word other = None

abbrev pub outcome_step_by : Option OutcomeWord → Draft → Step
outcome_step_by None draft = Err UnknownWord
outcome_step_by (Some word) draft = goes_on (OutcomeValue word) draft

-- `none`, or the first word of an outcome
abbrev pub outcome_step : Draft → Word → Step
outcome_step draft w = if bytes_eq (codes "none") w then Ok (record draft { place = Joint }, Some expected.NoRoute) else outcome_step_by (outcome_word w) draft

abbrev pub step_at : Place → Draft → Word → Step
step_at Item draft w = item_step draft w
step_at NotItem draft w = item_step_by (negated_word (item_word w)) draft
step_at (ItemValue word) draft w = map_ok (λ selector. (record draft { place = Item; selector = selector }, None)) (with_item word draft.selector w)
step_at FirstOutcome draft w = if bytes_eq (codes "not") w then Ok (record draft { place = Outcome; is_negated = true }, None) else outcome_step draft w
step_at Outcome draft w = outcome_step draft w
step_at (OutcomeValue word) draft w = map_ok (λ outcome. (record draft { place = Joint }, Some outcome)) (outcome_of word w)
step_at Joint draft w = if bytes_eq (codes "or") w then goes_on Outcome draft else Err UnknownWord

abbrev pub step : Draft → Word → Step
step draft w = step_at draft.place draft w

-- the word has a colon as its last byte, and other bytes before it
abbrev pub ends_in_colon : Word → Bool
ends_in_colon w = nat_lt 1 (length w) && slice_index w (length w - 1) == 58

-- the colon that ends a word, after the rest of that word
abbrev pub colon_step : Step → Step
colon_step before = before >>= λ t. step t.0 (codes ":") >>= λ u. Ok (u.0, t.1)

-- a word of the line: a colon that ends it counts as a word of its own
abbrev pub word_step : Draft → Word → Step
word_step draft w = if ends_in_colon w then colon_step (step draft (take (length w - 1) w)) else step draft w

-- ---- the whole line

-- What a line claims.
pub record Stated : Type 0 where
  pub selector : PacketSelector
  pub is_negated : Bool
  pub outcomes : List Expected

abbrev pub stated : Claim → Stated
stated claim = record { selector = claim.selector; is_negated = claim.is_negated; outcomes = claim.outcomes.items }

-- nothing is read so far
abbrev pub nothing_read : Draft
nothing_read = record { place = Item; selector = record { to = None; from = None; iif = None; mark = None; not_mark = None }; is_negated = false }

-- at the end of the line, before the word of this number
abbrev pub ending : ℕ → Place → Draft → List Expected → Result Stated BadClaim
ending n Joint draft outcomes = Ok (record { selector = draft.selector; is_negated = draft.is_negated; outcomes = outcomes })
ending n NotItem draft outcomes = Err (record { word = n; fault = Refused MissingValue })
ending n (ItemValue word) draft outcomes = Err (record { word = n; fault = Refused MissingValue })
ending n (OutcomeValue word) draft outcomes = Err (record { word = n; fault = Refused MissingValue })
ending n place draft outcomes = Err (record { word = n; fault = NoOutcome })

-- the words after the one of this number, if that is good
abbrev pub after_word : ℕ → Step → (Draft × Option Expected → Result Stated BadClaim) → Result Stated BadClaim
after_word n (Ok t) rest = rest t
after_word n (Err refusal) rest = Err (record { word = n; fault = Refused refusal })

-- the words from the one of this number on, after these outcomes
abbrev pub claim_from : ℕ → Draft → List Expected → List Word → Result Stated BadClaim
claim_from n draft outcomes [] = ending n draft.place draft outcomes
claim_from n draft outcomes (w ∷ ws) = after_word n (word_step draft w) (λ t. claim_from (suc n) t.0 (outcomes ++ option_to_list t.1) ws)

-- what the words of a line claim, or their first fault
abbrev pub claim_of : List Word → Result Stated BadClaim
claim_of ws = claim_from 1 nothing_read [] ws

abbrev pub some_claim : Result Stated BadClaim → Result (Option Stated) BadClaim
some_claim (Ok claim) = Ok (Some claim)
some_claim (Err bad) = Err bad

-- a line without words claims nothing
abbrev pub words_claim : List Word → Result (Option Stated) BadClaim
words_claim [] = Ok None
words_claim (w ∷ ws) = some_claim (claim_of (w ∷ ws))

-- by the words of the line; a line that is too long or no text has a fault that is about no word
abbrev pub line_claim : Result (List Word) Refusal → Result (Option Stated) BadClaim
line_claim (Ok ws) = words_claim ws
line_claim (Err refusal) = Err (record { word = 0; fault = Refused refusal })

-- what a line claims, or its first fault
abbrev pub reading : List ℕ → Result (Option Stated) BadClaim
reading line = line_claim (line_words line)

-- ---- the word that is wrong

-- the word of this number, counted from 1
abbrev pub word_of : ℕ → List Word → Option Word
word_of n [] = None
word_of n (w ∷ ws) = if n == 1 then Some w else word_of (n - 1) ws

-- the word of the line that the fault is about, if it is about one
abbrev pub bad_word : List ℕ → BadClaim → Option Word
bad_word line bad = word_of bad.word (words_or_none (line_words line))
