-- The events of a replay file, or the refusal of its first refused line.
use Rattle.std.specs.Prelude.{ℕ, ◌+◌, ◌-◌, ◌==◌, nat_lt, Bool, if◌then◌else◌, List, [], ◌∷◌, length, map, Option, Some, None, Result, Ok, Err, bytes_eq, codes}
use Rattle.std.specs.List.{slice_split}
use Rattle.std.specs.Option.{ok_or}
use Rattle.prt_addr.specs.Decimal.{at_most}
use Rattle.prt_addr.specs.Number.{number}
use Rattle.prt_addr.specs.Word.{Word}
use Rattle.prt_refusals.specs.declared.refusal.Refusal.{Refusal}
use Rattle.prt_refusals.specs.declared.refusal.Refusal.TheVariants.{BadNumber, MissingDestination, MissingValue, TooManyLines, UnknownVerb, UnknownWord}
use Rattle.prt_command.specs.Lines.{limits, lines_of}
use Rattle.prt_command.specs.Reading.{line_words, words_request}
use Rattle.prt_command.specs.Requests.{refuse_if}
use Rattle.prt_command.specs.Then.{◌>>=◌, map_ok}
use Rattle.prt_command.specs.declared.request.Command.{Command}
use Rattle.prt_command.specs.declared.request.Query.TheVariants.{Get}
use Rattle.prt_command.specs.declared.request.Request.{Request}
use Rattle.prt_command.specs.declared.request.Request.TheVariants as requests
use Rattle.prt_rule.specs.declared.packet.Packet.{Packet}
use Rattle.prt_replay.specs.EventWords.{event_word}
use Rattle.prt_replay.specs.declared.event.Event.{Event}
use Rattle.prt_replay.specs.declared.event.Event.TheVariants as events
use Rattle.prt_replay.specs.declared.event.Fate.{Fate}
use Rattle.prt_replay.specs.declared.event.Fate.TheVariants.{Kept, Lost}
use Rattle.prt_replay.specs.declared.words.EventWord.{EventWord}
use Rattle.prt_replay.specs.declared.words.EventWord.TheVariants.{Submit, SubmitAll, Call, Fail, Publish, PublishFail, Note, Ack, Online, Fetch}
use Rattle.prt_replay.specs.declared.words.EventWord.TheVariants.{Announce, Offline, Look, Reclaim, Stop, Reopen}

-- ---- the values of an event

-- this, if no word comes after it
abbrev pub at_end : {X : Type 0} → X → List Word → Result X Refusal
at_end x [] = Ok x
at_end x (w ∷ ws) = Err UnknownWord

-- the first word, which has to be there, and the words after it
abbrev pub value_word : List Word → Result (Word × List Word) Refusal
value_word [] = Err MissingValue
value_word (w ∷ ws) = Ok (w, ws)

-- a looker's number
abbrev pub looker : Word → Result ℕ Refusal
looker w = ok_or (at_most 63 (number w)) BadNumber

-- a looker's number alone
abbrev pub lone_looker : List Word → Result ℕ Refusal
lone_looker ws = value_word ws >>= λ t. looker t.0 >>= λ n. at_end n t.1

-- `kept` or `lost`
abbrev pub fate : Word → Result Fate Refusal
fate w = if bytes_eq (codes "kept") w then Ok Kept else if bytes_eq (codes "lost") w then Ok Lost else Err UnknownWord

-- `kept` or `lost` alone
abbrev pub lone_fate : List Word → Result Fate Refusal
lone_fate ws = value_word ws >>= λ t. fate t.0 >>= λ fate. at_end fate t.1

-- what the words ask for as a line of the command language
abbrev pub line_request : List Word → Result Request Refusal
line_request ws = words_request ws >>= λ asked. ok_or asked MissingDestination

abbrev pub command_of : Request → Result Command Refusal
command_of (requests.Command command) = Ok command
command_of (requests.Query query) = Err UnknownVerb

-- a command
abbrev pub command : List Word → Result Command Refusal
command ws = line_request ws >>= command_of

-- the word that separates two commands
abbrev pub is_between : Word → Bool
is_between w = bytes_eq (codes ";") w

-- a command of each of these lists of words
abbrev pub each_command : List (List Word) → Result (List Command) Refusal
each_command [] = Ok []
each_command (ws ∷ others) = command ws >>= λ first. map_ok (λ more. first ∷ more) (each_command others)

-- commands, with a word `;` between each and the next
abbrev pub commands : List Word → Result (List Command) Refusal
commands ws = each_command (slice_split is_between ws)

abbrev pub packet_of : Request → Result Packet Refusal
packet_of (requests.Query (Get packet)) = Ok packet
packet_of other = Err UnknownVerb

-- the packet of a `route get`
abbrev pub packet : List Word → Result Packet Refusal
packet ws = line_request ws >>= packet_of

-- a looker, and the packet of a `route get`
abbrev pub look : List Word → Result (ℕ × Packet) Refusal
look ws = value_word ws >>= λ t. looker t.0 >>= λ n. map_ok (λ packet. (n, packet)) (packet t.1)

-- ---- one event

-- the event of an event word and the words after it
abbrev pub event_of : EventWord → List Word → Result Event Refusal
event_of Submit ws = map_ok events.Submit (command ws)
event_of SubmitAll ws = map_ok events.SubmitAll (commands ws)
event_of Call ws = at_end events.Call ws
event_of Fail ws = map_ok events.Fail (lone_fate ws)
event_of Publish ws = at_end events.Publish ws
event_of PublishFail ws = at_end events.PublishFail ws
event_of Note ws = at_end events.Note ws
event_of Ack ws = at_end events.Ack ws
event_of Online ws = map_ok events.Online (lone_looker ws)
event_of Fetch ws = map_ok events.Fetch (lone_looker ws)
event_of Announce ws = map_ok events.Announce (lone_looker ws)
event_of Offline ws = map_ok events.Offline (lone_looker ws)
event_of Look ws = map_ok (λ t. events.Look t.0 t.1) (look ws)
event_of Reclaim ws = at_end events.Reclaim ws
event_of Stop ws = map_ok events.Stop (lone_fate ws)
event_of Reopen ws = at_end events.Reopen ws

-- the event of a line's words; a line without words has none
abbrev pub words_event : List Word → Result (Option Event) Refusal
words_event [] = Ok None
words_event (w ∷ ws) = ok_or (event_word w) UnknownWord >>= λ first. map_ok Some (event_of first ws)

-- the event of a line
unfoldable pub line_event : List ℕ → Result (Option Event) Refusal
line_event line = line_words line >>= words_event

-- ---- the events of a file

-- the most bytes of a file, and the most events
abbrev pub longest_replay : ℕ
longest_replay = 104857600

abbrev pub most_events : ℕ
most_events = 100000

-- one event more, if there is one, before those of the lines after it; so many may come
abbrev pub and_events : ℕ → Option Event → (ℕ → Result (List Event) Refusal) → Result (List Event) Refusal
and_events left None after = after left
and_events left (Some event) after = refuse_if (left == 0) TooManyLines >>= λ _. map_ok (λ others. event ∷ others) (after (left - 1))

-- the events of lines, if so many lines and so many events may come
unfoldable pub events_of_lines : ℕ → ℕ → List (List ℕ) → Result (List Event) Refusal
events_of_lines lines left [] = Ok []
events_of_lines lines left (line ∷ others) =
    refuse_if (lines == 0) TooManyLines >>= λ _.
    line_event line >>= λ event.
    and_events left event (λ left. events_of_lines (lines - 1) left others)

-- this line, if it is refused by itself, or what there is after it
abbrev pub refused_or : {X : Type 0} → ℕ → List ℕ → Result X Refusal → Option (ℕ × List ℕ) → Option (ℕ × List ℕ)
refused_or number line (Ok event) after = after
refused_or number line (Err reason) after = Some (number, line)

-- the first of these lines that is refused by itself, with its number; that of the first line is given
abbrev pub refused_from : ℕ → List (List ℕ) → Option (ℕ × List ℕ)
refused_from number [] = None
refused_from number (line ∷ others) = refused_or number line (line_event line) (refused_from (number + 1) others)

-- the lines of a file, without their newlines
abbrev pub contents : List ℕ → List (List ℕ)
contents bytes = map (λ line. line.content) (lines_of bytes)

-- the events of a file
unfoldable pub events_of : List ℕ → Result (List Event) Refusal
events_of bytes =
    refuse_if (nat_lt longest_replay (length bytes)) TooManyLines >>= λ _.
    events_of_lines limits.lines most_events (contents bytes)
