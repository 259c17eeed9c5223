-- What a question reads: files, the standard input, and what servers say.
use Rattle.std.specs.Prelude.{◌≡◌, ◌≢◌, ℕ, List, [], ◌++◌, IfSome, Option, None, Some, codes, option_map}
use Rattle.std.specs.Borrow.{Bor}
use Rattle.prt_addr.specs.Word.{Word}
use Rattle.prt_ask.specs.Fed.{AreRead}
use Rattle.prt_ask.specs.Mirrors.{AreNumbered, commands_of}
use Rattle.prt_command.specs.declared.request.Command.{Command}
use Rattle.prt_feed.specs.declared.change.Change.{Change}
use Rattle.prt_feed.specs.Numbered.{numbered_from}
use Rattle.prt_feed.specs.Reading.{IsOpening}
use Rattle.prt_feed.specs.declared.opening.Opening.{Opening}
use Rattle.prt_version.specs.RowsSpell.{RowsSpell}
use Rattle.prt_version.specs.State.{State}
use Rattle.prt_args.specs.declared.asking.Source.{Source}
use Rattle.prt_args.specs.declared.asking.Source.TheVariants.{Script}
use Rattle.prt_args.specs.declared.server_place.ServerPlace.{ServerPlace}
use Rattle.prt_machine.specs.declared.local.Socket.{Socket}
use Rattle.prt_machine.specs.declared.local.Socket.TheVariants.{Atomic, Status}

-- ---- files and the standard input

-- a file that was opened at a path had this text
abbrev pub IsFileOf : {F File : Type 0} → (F → List ℕ → File → Type 0) → (File → Option (List ℕ)) → F → List ℕ → List ℕ → Type 0
IsFileOf {F} {File} opens bytes files path text = (file : File) × opens files path file × IfSome (bytes file) (λ all. text ≡ all)

-- the path of a file, if words name one
abbrev pub path_of : Option (Bor (List ℕ)) → Option Word
path_of file = option_map (λ path. path.now) file

-- a text is that of a file, or all that the input had if none is named
abbrev pub IsRead : (files : List ℕ → List ℕ → Type 0) → (input : Option (List ℕ)) → Option Word → List ℕ → Type 0
IsRead files input None text = IfSome input (λ all. text ≡ all)
IsRead files input (Some path) text = files path text

-- what is left of the input once a file was read, or the input if none is named
abbrev pub rest_after : Option Word → List ℕ → List ℕ
rest_after None all = []
rest_after (Some path) all = all

-- and once the tables of a source were
abbrev pub rest_by : Source → List ℕ → List ℕ
rest_by (Script file) all = rest_after (path_of file) all
rest_by source all = all

-- the input has this left
abbrev pub HasLeft : (rest : List ℕ → List ℕ) → (input0 input : Option (List ℕ)) → Type 0
HasLeft rest input0 input = IfSome input0 (λ all. input ≡ Some (rest all))

-- ---- servers

module _ {N Stream : Type 0} (reaches : N → ServerPlace → Socket → List ℕ → Stream → Type 0) (said : Stream → Option (List ℕ)) (net : N)
    (place : ServerPlace) where
  -- What a server at a place sent over a connection began with these tables.
  pub record AreTold (told : State) : Type 0 where
    pub socket : Socket
    pub sent : List ℕ
    pub stream : Stream
    pub reached : reaches net place socket sent stream
    pub rest : Option (List ℕ)
    pub opening : Opening
    pub read : IsOpening (said stream) rest opening
    pub spelled : RowsSpell opening.number (numbered_from 1 opening.version.rules) opening.version.routes told

  -- And after these tables it reported changes in turn, each with its number: these are their commands.
  pub record AreFed (told : State) (commands : List Command) : Type 0 where
    pub tables : AreTold told
    pub changes : List Change
    pub left : Option (List ℕ)
    pub read : AreRead tables.rest left changes
    pub numbered : AreNumbered told.count changes
    pub are : commands ≡ commands_of changes

  -- all that it sent over a connection, over which it was sent a line, is this reply
  abbrev pub IsReply : (line reply : List ℕ) → Type 0
  IsReply line reply = (socket : Socket) × (stream : Stream) × reaches net place socket (line ++ codes "\n") stream × IfSome (said stream) (λ all. reply ≡ all)

  -- it sent something over a connection
  abbrev pub IsHeard : Type 0
  IsHeard = (socket : Socket) × (sent : List ℕ) × (stream : Stream) × reaches net place socket sent stream × IfSome (said stream) (λ all. all ≢ [])

-- all that a server at a place sent over a connection for atomic scripts, over which it was sent one, is this reply
abbrev pub IsAtomicReply : {N Stream : Type 0} → (N → ServerPlace → Socket → List ℕ → Stream → Type 0) → (Stream → Option (List ℕ)) → N →
    ServerPlace → (sent reply : List ℕ) → Type 0
IsAtomicReply {N} {Stream} reaches said net place sent reply =
    (stream : Stream) × reaches net place Atomic sent stream × IfSome (said stream) (λ all. reply ≡ all)

-- all that a server at a place said of itself
abbrev pub IsReport : {N Stream : Type 0} → (N → ServerPlace → Socket → List ℕ → Stream → Type 0) → (Stream → Option (List ℕ)) → N →
    ServerPlace → (text : List ℕ) → Type 0
IsReport {N} {Stream} reaches said net place text = (stream : Stream) × reaches net place Status [] stream × IfSome (said stream) (λ all. text ≡ all)

-- ---- all of them

-- What a question may read.
pub record Sources : Type 1 where
  -- a file at this path has this text
  pub files : List ℕ → List ℕ → Type 0
  -- what the input has, if that is known
  pub input : Option (List ℕ)
  -- a server at this place told these tables
  pub tells : ServerPlace → State → Type 0
  -- and then the changes of these commands
  pub feeds : ServerPlace → State → List Command → Type 0
  -- and replied this to a line
  pub replies : ServerPlace → List ℕ → List ℕ → Type 0
  -- and this to an atomic script
  pub submits : ServerPlace → List ℕ → List ℕ → Type 0
  -- and said something at all
  pub speaks : ServerPlace → Type 0
  -- and said this of itself
  pub reports : ServerPlace → List ℕ → Type 0

abbrev pub sources_of : {F File N Stream : Type 0} → (F → List ℕ → File → Type 0) → (File → Option (List ℕ)) → F →
    (N → ServerPlace → Socket → List ℕ → Stream → Type 0) → (Stream → Option (List ℕ)) → N → Option (List ℕ) → Sources
sources_of opens bytes files reaches said net input =
    record {
      files = IsFileOf opens bytes files;
      input = input;
      tells = AreTold reaches said net;
      feeds = AreFed reaches said net;
      replies =
          IsReply reaches said net;
      submits = IsAtomicReply reaches said net;
      speaks = IsHeard reaches said net;
      reports = IsReport reaches said net;
    }

-- a text of a file, or of the input
abbrev pub Gives : Sources → Option Word → List ℕ → Type 0
Gives from file text = IsRead from.files from.input file text

-- once this is left of the input
abbrev pub after : (rest : List ℕ → List ℕ) → Sources → Sources
after rest from = record from { input = option_map rest from.input }
