-- A reader of which some bytes are read again.
use Rattle.std.specs.Prelude.{ℕ, List, Option, drop}
use Rattle.std.specs.Io.KnownBytes.{prepend_known}
use Rattle.prt_serve.specs.declared.resumed.Resumed.{Resumed}

-- of the bytes before the reader's own those that were not given
abbrev pub unread_head : {R : Type 0} → Resumed R → List ℕ
unread_head resumed = drop resumed.given resumed.head.items

-- those, and then the reader's own
abbrev pub resumed_remaining : {R : Type 0} → (R → Option (List ℕ)) → Resumed R → Option (List ℕ)
resumed_remaining remaining resumed = prepend_known (unread_head resumed) (remaining resumed.reader)
