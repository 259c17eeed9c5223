-- What comes of a question.
use Rattle.std.specs.Prelude.{◌≡◌, ◌⊎◌, ◌||◌, ℕ, Bool, true, false, List, [], ◌++◌, Ok, Option, Some, None, codes, flat_map, nat_eq, option_map}
use Rattle.std.specs.List.{list_any, starts_with}
use Rattle.std.specs.Io.KnownBytes.{Appends}
use Rattle.sqlite.specs.Held.{Held}
use Rattle.sqlite.specs.Store.{Ghosts}
use Rattle.prt_addr.specs.Word.{Word}
use Rattle.prt_addr.specs.declared.addr.Addr.{Addr}
use Rattle.prt_ask.specs.Answers.{AreNotesOf, AreNotesOfReplacing, answer, is_whole_change}
use Rattle.prt_ask.specs.Mirrors.{mirror_of, steps_text}
use Rattle.prt_ask.specs.Questions.{question}
use Rattle.prt_ask.specs.declared.notes.Notes.{Notes}
use Rattle.prt_ask.specs.declared.question.Question.{Question}
use Rattle.prt_ask.specs.declared.question.Question.TheVariants as questions
use Rattle.prt_command.specs.declared.request.Command.{Command}
use Rattle.prt_command.specs.declared.request.Query.TheVariants.{Get}
use Rattle.prt_diff.specs.Text.{changes_text}
use Rattle.prt_diff.specs.declared.fence.Fence.{Fence}
use Rattle.prt_impact.specs.Groups.{AreGroups}
use Rattle.prt_impact.specs.Text.{group_text}
use Rattle.prt_impact.specs.declared.group.Group.{Group}
use Rattle.prt_import.specs.Accepted.{IsExecuted, IsExecutedOver}
use Rattle.prt_import.specs.Imported.{IsImportOf}
use Rattle.prt_import.specs.Lines.{lines_of}
use Rattle.prt_import.specs.IpJson.Documents.{documents, is_json}
use Rattle.prt_import.specs.IpJson.Listing.{listing}
use Rattle.prt_import.specs.Listed.{listing_fault}
use Rattle.prt_import.specs.Naming.{with_names}
use Rattle.prt_import.specs.TableNames.{KnownNames, TableNames, names_of}
use Rattle.prt_import.specs.declared.accepted.Accepted.{Accepted}
use Rattle.prt_import.specs.declared.imported.Imported.{Imported}
use Rattle.prt_import.specs.declared.omitted_line.OmittedLine.{OmittedLine}
use Rattle.prt_import.specs.declared.naming.Text.{Text}
use Rattle.prt_import.specs.declared.naming.Text.TheVariants as forms
use Rattle.prt_partition.specs.declared.sameness.Sameness.TheVariants.{Outcomes}
use Rattle.prt_refusals.specs.declared.refusal.Refusal.{Refusal}
use Rattle.prt_publisher.specs.Openings.{HasOpened}
use Rattle.prt_replies.specs.Written.{Written}
use Rattle.prt_version.specs.Accepted.{IsAccepted}
use Rattle.prt_version.specs.State.{State}
use Rattle.prt_args.specs.declared.asking.QueryArgs.{QueryArgs}
use Rattle.prt_args.specs.declared.asking.Form.{Form}
use Rattle.prt_args.specs.declared.asking.Form.TheVariants.{Json, Lines as InLines}
use Rattle.prt_args.specs.declared.asking.Labels.{Labels}
use Rattle.prt_args.specs.declared.asking.Labels.TheVariants.{Names, Numbers}
use Rattle.prt_args.specs.declared.asking.Shown.{Shown}
use Rattle.prt_args.specs.declared.asking.Shown.TheVariants.{Impact, Lines, Status}
use Rattle.prt_args.specs.declared.asking.Source.{Source}
use Rattle.prt_args.specs.declared.asking.Source.TheVariants.{Database, Server, Script}
use Rattle.prt_args.specs.declared.reach.Reach.{Reach}
use Rattle.prt_args.specs.declared.server_place.ServerPlace.{ServerPlace}
use Rattle.prt_questions.specs.Fencing.{IsFenceOf}
use Rattle.prt_machine.specs.declared.database_opener.DatabaseOpener.{Ghosts as Opener}
use Rattle.prt_machine.specs.Closing.{IsClosedAgain, LeavesNoneOpen}
use Rattle.prt_questions.specs.LeftOut.{AreKernels, is_kernels}
use Rattle.prt_questions.specs.Sources.{Gives, Sources, after, path_of, rest_after}
use Rattle.prt_questions.specs.declared.inquiry.Inquiry.{Inquiry}
use Rattle.prt_machine.specs.declared.database_opener.Wanted.{Wanted}
use Rattle.prt_machine.specs.declared.database_opener.Wanted.TheVariants.{Ours}

-- ---- what is said

abbrev pub text_form : Form → Text
text_form InLines = forms.Lines
text_form Json = forms.Json

-- a text in which tables have their numbers, or names
abbrev pub with_labels : Labels → Form → TableNames → List ℕ → List ℕ
with_labels Numbers form names text = text
with_labels Names form names text = with_names (text_form form) names text

abbrev pub named_answer : Inquiry → State → List ℕ
named_answer inquiry state = with_labels inquiry.labels inquiry.form (names_of inquiry.names.now) (answer inquiry.question state)

-- what a server says to an inquiry: the answer of the tables that it told, or what it replied, with the labels that it asks for
abbrev pub IsTold : (tells : State → Type 0) → (replies : List ℕ → Type 0) → Inquiry → List ℕ → Type 0
IsTold tells replies inquiry text =
    ((told : State) × tells told × (text ≡ named_answer inquiry told))
    ⊎ ((reply : List ℕ) × replies reply × (text ≡ with_labels inquiry.labels inquiry.form (names_of inquiry.names.now) reply))

-- nothing was written, or a part of this text
abbrev pub IsCutOff : List ℕ → (writer0 writer : Option (List ℕ)) → Type 0
IsCutOff text writer0 writer = (writer ≡ writer0) ⊎ Written false writer0 writer text

-- a query whose answer is wanted in lines
abbrev pub IsQuery : Question → Type 0
IsQuery (questions.Query query InLines) = Unit {0}
IsQuery question = ⊥

-- the lines that bring a found state to another within a fence leave no rule that should go, and hold nothing back
abbrev pub IsWholeChange : Fence → (found wanted : State) → Type 0
IsWholeChange fence found wanted = (notes : Notes) × AreNotesOf fence found wanted notes × (is_whole_change notes ≡ true)

-- the same of an answer that is such lines; lines that replace leave out no rule and no route
abbrev pub IsWholeAnswer : Question → State → Type 0
IsWholeAnswer (questions.Diff comparison) state = IsWholeChange comparison.fence.now comparison.found.now state
IsWholeAnswer questions.Replace state = (notes : Notes) × AreNotesOfReplacing state notes × (is_whole_change notes ≡ true)
IsWholeAnswer question state = Unit {0}

-- the destination of the packet that is asked about, if one is
abbrev pub destination_of : Question → Option Addr
destination_of (questions.Query (Get packet) form) = Some packet.dst
destination_of (questions.Explain packet form) = Some packet.dst
destination_of question = None

-- ---- what `ip` printed

-- the lines of what it printed: all of it, or those that its JSON stands for
abbrev pub AreLinesOf : (text lines : List ℕ) → Type 0
AreLinesOf text lines =
    ((is_json text ≡ true) × (option_map listing (documents text) ≡ Some lines))
    ⊎ ((is_json text ≡ false) × (lines ≡ text))

-- What a new database accepts of the script of lines, with some names of tables, and the lines that can't be kept.
pub record IsMadeOf (lines : List ℕ) (left : List OmittedLine) (accepted : Accepted) : Type 0 where
  pub names : KnownNames
  pub imported : Imported
  pub is_of : IsImportOf imported names lines
  pub are_left : left ≡ imported.left.items
  pub executed : IsExecuted accepted imported.script.items

-- a line of a script that adds a rule or a route
abbrev pub adds : List ℕ → Bool
adds line = starts_with nat_eq line (codes "rule add ") || starts_with nat_eq line (codes "route add ")

-- some line of a listing is known: a rule or a route of it is kept, or the kernel makes one itself
abbrev pub is_any_known : List OmittedLine → Accepted → Bool
is_any_known left accepted = list_any adds (lines_of accepted.script.items) || list_any is_kernels left

-- What one accepts of a text that was read, and that may be taken as a whole listing, of which some line is known; and the
-- lines that can't be kept.
pub record IsListing (reads : List ℕ → Type 0) (left : List OmittedLine) (accepted : Accepted) : Type 0 where
  pub text : List ℕ
  pub read : reads text
  pub lines : List ℕ
  pub are : AreLinesOf text lines
  pub whole : listing_fault lines ≡ None
  pub made : IsMadeOf lines left accepted
  pub known : is_any_known left accepted ≡ true

-- all lines are kept
abbrev pub AreKept : List OmittedLine → Accepted → Type 0
AreKept left accepted = AreKernels left × AreKernels accepted.left.items

-- a listing that is kept
abbrev pub IsWholeListing : (reads : List ℕ → Type 0) → Accepted → Type 0
IsWholeListing reads accepted = (left : List OmittedLine) × IsListing reads left accepted × AreKept left accepted

-- What a listing makes, and the fence that words name beside its lines that can't be kept.
pub record IsFenced (reads : List ℕ → Type 0) (reach : Reach) (found : State) (fence : Fence) : Type 0 where
  pub accepted : Accepted
  pub left : List OmittedLine
  pub listing : IsListing reads left accepted
  pub is_fence : IsFenceOf reach left fence
  pub makes : found ≡ accepted.version

-- of a listing that is kept
abbrev pub IsWholeFenced : (reads : List ℕ → Type 0) → Reach → (found : State) → Fence → Type 0
IsWholeFenced reads reach found fence = (fenced : IsFenced reads reach found fence) × AreKept fenced.left fenced.accepted

-- ---- the packets that a difference sends another way

-- a line of a script that is a comment
abbrev pub comment_of : Group → List ℕ
comment_of group = codes "# " ++ group_text group ++ codes "\n"

abbrev pub comments_of : List Group → List ℕ
comments_of groups = flat_map comment_of groups

-- Lines that are executed over a state, after comments that say which packets they send another way.
pub record IsWithImpactOf (found : State) (lines text : List ℕ) : Type 0 where
  pub made : Accepted
  pub executed : IsExecutedOver found made lines
  pub groups : List Group
  pub are : AreGroups Outcomes found made.version groups
  pub is : text ≡ comments_of groups ++ lines

-- those that bring one state to another within a fence
abbrev pub IsWithImpact : Fence → (found wanted : State) → List ℕ → Type 0
IsWithImpact fence found wanted text = IsWithImpactOf found (changes_text fence found wanted) text

-- ---- a server that is followed

-- the lines that bring a listing to the tables of a server, within a fence, and then those for commands in turn
abbrev pub follow_text : Fence → State → State → List Command → List ℕ
follow_text fence found wanted commands = changes_text fence found wanted ++ steps_text (mirror_of fence found wanted) commands

-- a listing that is kept was brought to the tables that a feed reported
abbrev pub HasFollowed : Sources → (writer0 writer : Option (List ℕ)) → Option Word → ServerPlace → Reach → Type 0
HasFollowed from writer0 writer file place reach =
    (found : State) × (fence : Fence) × IsWholeFenced (Gives from file) reach found fence × (told : State) × from.tells place told
    × Appends writer0 writer (changes_text fence found told) × IsWholeChange fence found told

-- In any case: nothing was written, or at most a part of the lines. These are for the tables that a feed reported, and for the
-- commands that it reported in turn.
abbrev pub HasFollowedAtMost : Sources → (writer0 writer : Option (List ℕ)) → Option Word → ServerPlace → Reach → Type 0
HasFollowedAtMost from writer0 writer file place reach =
    (writer ≡ writer0)
    ⊎ ((found : State) × (fence : Fence) × IsFenced (Gives from file) reach found fence × (told : State) × from.tells place told × (commands : List Command)
    × from.feeds place told commands × IsAccepted told commands × Written false writer0 writer (follow_text fence found told commands))

-- ---- what was done

module _ {M S : Type 0} (g : Ghosts S) (by : Opener M (Held S)) (old new : M) where
  -- The database at a path, which was there, was opened and closed, and this holds of its state. No other was touched, and none made.
  abbrev pub IsAskedAt : List ℕ → (State → Type 0) → Type 0
  IsAskedAt path Holds = IsClosedAgain by Ours (λ first last. (stored : State) × HasOpened g first last stored × Holds stored) old new path

  -- no database was touched, or the one at a path could not be opened as it is wanted
  abbrev pub IsNotOpened : Wanted → List ℕ → Type 0
  IsNotOpened wanted path = (new ≡ old) ⊎ ((reason : Refusal) × LeavesNoneOpen g by wanted reason old new path)

  abbrev pub IsNotAsked : Source → Type 0
  IsNotAsked (Database path) = IsNotOpened Ours path.now
  IsNotAsked source = new ≡ old

module _ {M S : Type 0} (g : Ghosts S) (by : Opener M (Held S)) (from : Sources) (old new : M) where
  -- The state at a source was asked, and this holds of it: that of a database, one that a server told, or what the script that
  -- was read makes of a new database.
  abbrev pub IsAskedOf : Source → (State → Type 0) → Type 0
  IsAskedOf (Database path) Holds = IsAskedAt g by old new path.now Holds
  IsAskedOf (Server place) Holds = (new ≡ old) × (told : State) × from.tells place told × Holds told
  IsAskedOf (Script file) Holds = (new ≡ old) × (made : Accepted) × (text : List ℕ) × Gives from (path_of file) text × IsExecuted made text × Holds made.version

module _ {M S : Type 0} (g : Ghosts S) (by : Opener M (Held S)) (from : Sources) (old new : M) (writer0 writer : Option (List ℕ)) where
  -- all that the state at a source says was written, and this is whole; no line of a script was left out, except what the kernel
  -- makes itself
  abbrev pub IsAnswered : Source → (says : State → List ℕ) → (IsWhole : State → Type 0) → Type 0
  IsAnswered (Script file) says IsWhole =
      (new ≡ old) × (made : Accepted) × (text : List ℕ) × Gives from (path_of file) text × IsExecuted made text × AreKernels made.left.items
      × Appends writer0 writer (says made.version) × IsWhole made.version
  IsAnswered source says IsWhole = IsAskedOf g by from old new source (λ state. Appends writer0 writer (says state) × IsWhole state)

  -- in any case: it was not asked, and nothing was written; or it was, and a part at most
  abbrev pub IsAnsweredAtMost : Source → (says : State → List ℕ) → Type 0
  IsAnsweredAtMost source says =
      (IsNotAsked g by old new source × (writer ≡ writer0))
      ⊎ IsAskedOf g by from old new source (λ state. IsCutOff (says state) writer0 writer)

  -- a session of a server replied to a line, and all of its reply was written, by this way of calling tables
  abbrev pub IsReplied : Source → (line : List ℕ) → (calls : List ℕ → List ℕ) → Type 0
  IsReplied (Server place) line calls = (new ≡ old) × (reply : List ℕ) × from.replies place line reply × Appends writer0 writer (calls reply)
  IsReplied source line calls = ⊥

  -- and in any case, a part of it at most
  abbrev pub IsRepliedAtMost : Source → (line : List ℕ) → (calls : List ℕ → List ℕ) → Type 0
  IsRepliedAtMost (Server place) line calls = (new ≡ old) × (reply : List ℕ) × from.replies place line reply × IsCutOff (calls reply) writer0 writer
  IsRepliedAtMost source line calls = ⊥

  -- a question was asked, and all of its answer was written; a session of a server is asked queries alone
  abbrev pub HasAnswered : QueryArgs → Type 0
  HasAnswered asking =
      (asked : Question) × (question asking.verb asking.line.items asking.form ≡ Ok asked)
      × (names : TableNames) × (IsAnswered asking.source (λ state. with_labels asking.labels asking.form names (answer asked state)) (IsWholeAnswer asked)
      ⊎ (IsQuery asked × IsReplied asking.source asking.line.items (with_labels asking.labels asking.form names)))

  -- in any case: its words ask nothing, or it was answered in part at most
  abbrev pub HasAnsweredAtMost : QueryArgs → Type 0
  HasAnsweredAtMost asking =
      (IsNotAsked g by old new asking.source × (writer ≡ writer0))
      ⊎ ((asked : Question) × (question asking.verb asking.line.items asking.form ≡ Ok asked)
      × (names : TableNames) × (IsAnsweredAtMost asking.source (λ state. with_labels asking.labels asking.form names (answer asked state))
      ⊎ (IsQuery asked × IsRepliedAtMost asking.source asking.line.items (with_labels asking.labels asking.form names))))

module _ {M S : Type 0} (g : Ghosts S) (by : Opener M (Held S)) (from : Sources) (old new : M) (writer0 writer : Option (List ℕ)) where
  -- what differs from a state that was found was written, or nothing differs
  abbrev pub IsShown : Fence → (found : State) → Shown → Source → Type 0
  IsShown fence found Lines source = IsAnswered g by from old new writer0 writer source (changes_text fence found) (IsWholeChange fence found)
  IsShown fence found Impact source =
      IsAskedOf g by from old new source
      (λ state. (text : List ℕ) × IsWithImpact fence found state text × Appends writer0 writer text × IsWholeChange fence found state)
  IsShown fence found Status source =
      (writer ≡ writer0) × IsAskedOf g by from old new source (λ state. (changes_text fence found state ≡ []) × IsWholeChange fence found state)

  -- tables were asked, or not
  abbrev pub IsAskedOrNot : Source → Type 0
  IsAskedOrNot source = IsNotAsked g by old new source ⊎ IsAskedOf g by from old new source (λ state. Unit {0})

  -- in any case: a part of it at most was written
  abbrev pub IsShownAtMost : Fence → (found : State) → Shown → Source → Type 0
  IsShownAtMost fence found Lines source = IsAnsweredAtMost g by from old new writer0 writer source (changes_text fence found)
  IsShownAtMost fence found Impact source =
      (writer ≡ writer0) × IsAskedOrNot source
      ⊎ IsAskedOf g by from old new source (λ state. (text : List ℕ) × IsWithImpact fence found state text × IsCutOff text writer0 writer)
  IsShownAtMost fence found Status source = (writer ≡ writer0) × IsAskedOrNot source

-- A listing is read first, and then the tables at a source: of the input what is left.
module _ {M S : Type 0} (g : Ghosts S) (by : Opener M (Held S)) (from : Sources) (old new : M) (writer0 writer : Option (List ℕ)) where
  -- what differs from the state of a listing was written, or nothing differs
  abbrev pub HasCompared : Option Word → Reach → Shown → Source → Type 0
  HasCompared file reach Lines source =
      (found : State) × (fence : Fence) × IsWholeFenced (Gives from file) reach found fence
      × IsAnswered g by (after (rest_after file) from) old new writer0 writer source (changes_text fence found) (IsWholeChange fence found)
  HasCompared file reach Impact source =
      (found : State) × (fence : Fence) × IsWholeFenced (Gives from file) reach found fence
      × IsAskedOf g by (after (rest_after file) from) old new source
      (λ state. (text : List ℕ) × IsWithImpact fence found state text × Appends writer0 writer text × IsWholeChange fence found state)
  HasCompared file reach Status source =
      (found : State) × (fence : Fence) × IsWholeFenced (Gives from file) reach found fence
      × (writer ≡ writer0) × IsAskedOf g by (after (rest_after file) from) old new source
      (λ state. (changes_text fence found state ≡ []) × IsWholeChange fence found state)

  -- tables were asked after a listing was read, or not
  abbrev pub IsComparedOrNot : Option Word → Source → Type 0
  IsComparedOrNot file source = IsNotAsked g by old new source ⊎ IsAskedOf g by (after (rest_after file) from) old new source (λ state. Unit {0})

  -- In any case: there was no listing, or a part at most was written of what differs from it. A status alone writes nothing.
  abbrev pub HasComparedAtMost : Option Word → Reach → Shown → Source → Type 0
  HasComparedAtMost file reach Lines source =
      (IsNotAsked g by old new source × (writer ≡ writer0))
      ⊎ ((found : State) × (fence : Fence) × IsFenced (Gives from file) reach found fence
      × IsAnsweredAtMost g by (after (rest_after file) from) old new writer0 writer source (changes_text fence found))
  HasComparedAtMost file reach Impact source =
      (writer ≡ writer0) × IsComparedOrNot file source
      ⊎ ((found : State) × (fence : Fence) × IsFenced (Gives from file) reach found fence
      × IsAskedOf g by (after (rest_after file) from) old new source
      (λ state. (text : List ℕ) × IsWithImpact fence found state text × IsCutOff text writer0 writer))
  HasComparedAtMost file reach Status source = (writer ≡ writer0) × IsComparedOrNot file source
