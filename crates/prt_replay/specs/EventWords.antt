-- The words that begin the lines of events.
use Rattle.std.specs.Prelude.{if◌then◌else◌, List, [], ◌∷◌, Option, Some, None, bytes_eq, codes}
use Rattle.prt_addr.specs.Word.{Word}
use Rattle.prt_replay.specs.declared.words.EventWord.{EventWord}
use Rattle.prt_replay.specs.declared.words.EventWord.TheVariants.{Submit, SubmitAll, Call, Fail, Publish, PublishFail, Note, Ack, Online, Fetch}
use Rattle.prt_replay.specs.declared.words.EventWord.TheVariants.{Announce, Offline, Look, Reclaim, Stop, Reopen}

abbrev pub event_words : List (Word × EventWord)
event_words =
    (codes "submit", Submit)
    ∷ (codes "submitall", SubmitAll)
    ∷ (codes "call", Call)
    ∷ (codes "fail", Fail)
    ∷ (codes "publish", Publish)
    ∷ (codes "publishfail", PublishFail)
    ∷ (codes "note", Note)
    ∷ (codes "ack", Ack)
    ∷ (codes "online", Online)
    ∷ (codes "fetch", Fetch)
    ∷ (codes "announce", Announce)
    ∷ (codes "offline", Offline)
    ∷ (codes "look", Look)
    ∷ (codes "reclaim", Reclaim)
    ∷ (codes "stop", Stop)
    ∷ (codes "reopen", Reopen)
    ∷ []

-- what a word means in such a list
abbrev pub word_in : List (Word × EventWord) → Word → Option EventWord
word_in [] w = None
word_in (row ∷ rows) w = if bytes_eq row.0 w then Some row.1 else word_in rows w

abbrev pub event_word : Word → Option EventWord
event_word w = word_in event_words w
