-- Which subcommand asks a question.
use Rattle.std.specs.Prelude.{codes}
use Rattle.prt_addr.specs.Word.{Word}
use Rattle.prt_args.specs.declared.asking.Asked.{Asked}
use Rattle.prt_args.specs.declared.asking.Asked.TheVariants as asked
use Rattle.prt_args.specs.declared.asking.QuestionWord.{QuestionWord}
use Rattle.prt_args.specs.declared.asking.QuestionWord.TheVariants as word
use Rattle.prt_args.specs.declared.asking.Verb.{Verb}
use Rattle.prt_args.specs.declared.asking.Verb.TheVariants.{Dump, Explain, Get, Replace, Show}

abbrev pub name_of_verb : Verb → Word
name_of_verb Get = codes "get"
name_of_verb Show = codes "show"
name_of_verb Explain = codes "explain"
name_of_verb Dump = codes "dump"
name_of_verb Replace = codes "dump"

abbrev pub name_of_word : QuestionWord → Word
name_of_word (word.Tables verb) = name_of_verb verb
name_of_word word.Diff = codes "diff"
name_of_word word.Follow = codes "follow"
name_of_word word.Wait = codes "wait"
name_of_word word.Import = codes "import"
name_of_word word.Impact = codes "impact"
name_of_word word.Assert = codes "assert"
name_of_word word.Unused = codes "unused"
name_of_word word.Apply = codes "apply"
name_of_word word.Status = codes "status"

abbrev pub name_of_asked : Asked → Word
name_of_asked (asked.Tables asking) = name_of_verb asking.verb
name_of_asked (asked.Diff diffing) = codes "diff"
name_of_asked (asked.Follow following) = codes "follow"
name_of_asked (asked.Wait waiting) = codes "wait"
name_of_asked (asked.Import importing) = codes "import"
name_of_asked (asked.Impact rehearsing) = codes "impact"
name_of_asked (asked.Assert asserting) = codes "assert"
name_of_asked (asked.Unused source) = codes "unused"
name_of_asked (asked.Apply applying) = codes "apply"
name_of_asked (asked.Status inspecting) = codes "status"

abbrev pub word_of : Asked → QuestionWord
word_of (asked.Tables asking) = word.Tables asking.verb
word_of (asked.Diff diffing) = word.Diff
word_of (asked.Follow following) = word.Follow
word_of (asked.Wait waiting) = word.Wait
word_of (asked.Import importing) = word.Import
word_of (asked.Impact rehearsing) = word.Impact
word_of (asked.Assert asserting) = word.Assert
word_of (asked.Unused source) = word.Unused
word_of (asked.Apply applying) = word.Apply
word_of (asked.Status inspecting) = word.Status
