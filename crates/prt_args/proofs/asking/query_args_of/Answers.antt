use Rattle.std.proofs.Common.{◌≡◌, ◌∙◌, true, List, [], Bor, ap, codes, refl, subst, sym, true≢false}
use Rattle.prt_addr.specs.Word.{Word}
use Rattle.prt_args.specs.NoQuestion.{needs_words}
use Rattle.prt_args.specs.Read.{IsSourceBy}
use Rattle.prt_args.specs.Reaching.{values_of}
use Rattle.prt_args.proofs.Operands.{operands_read, some_word_left, source_meant, texts_of}
use Rattle.prt_args.proofs.asking.query_args_of.Goals as goal
use Rattle.prt_args.proofs.asking.query_args_of.Goals.{else-is_empty-via-then-is_empty+else-needs_words, else-is_empty-via-else-is_empty}

pub returns-clause-reads : goal.returns-clause-reads
returns-clause-reads c =
    let matches = c.args.matches.now in
    let words = texts_of c.in_ok-source.words.now in
    let operands = ap (λ (given : Bor (List (Bor Word))). texts_of given.now) c.unwrap_or-given.ensures ∙ operands_read c.get_strs.result _ _ refl c.get_strs.ensures in
    let named = subst (λ operands. IsSourceBy matches c.args.verb operands c.in_ok-source.source words) operands c.in_ok-source.ensures.named in
    let source : IsSourceBy matches c.in_ok-verb.verb (values_of matches (codes "words")) c.in_ok-source.source words =
    source_meant matches c.args.verb c.in_ok-verb.verb _ words c.in_ok-source.source c.in_ok-verb.ensures.explains named in
    let needs : needs_words c.in_ok-verb.verb ≡ true → words ≡ [] → ⊥ =
    elim c.else-is_empty.branch [
      | else-is_empty-via-then-is_empty+else-needs_words w ↦ λ needs none. true≢false (sym needs ∙ c.in_ok-verb.ensures.words ∙ sym w.needs_words.ensures ∙ w.if-needs_words.false)
      | else-is_empty-via-else-is_empty w ↦ λ needs none. some_word_left c.in_ok-source.words.now c.is_empty.result c.is_empty.ensures w.if-is_empty.false none
    ] in
    ((words, source, c.in_ok-line.ensures, needs), c.in_ok-verb.ensures.replaces, c.form_in.ensures, c.labels_in.ensures)
