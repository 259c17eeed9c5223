use Rattle.std.proofs.Common.{sym, ◌∙◌}
use Rattle.prt_addr.specs.Word.{is_white}
use Rattle.prt_command.proofs.Splitting.{is_black, place_within, no_words, zero_of}
use Rattle.prt_command.proofs.words.next_word.Goals as goal

pub slice_bounds-rest-count : goal.slice_bounds-rest-count
slice_bounds-rest-count c = place_within is_black c.args.text.now _ c.white_len.ensures

pub slice_bounds-rest-start : goal.slice_bounds-rest-start
slice_bounds-rest-start c = place_within is_black c.args.text.now _ c.white_len.ensures

pub returns-then-is_empty : goal.returns-then-is_empty
returns-then-is_empty c = no_words c.args.text.now c.white_len.result c.white_len.ensures (zero_of _ (sym c.is_empty.ensures ∙ c.if-is_empty.true))

pub slice_bounds-result-count : goal.slice_bounds-result-count
slice_bounds-result-count c = place_within is_white _ _ c.word_len-len.ensures

pub slice_bounds-result-start : goal.slice_bounds-result-start
slice_bounds-result-start c = place_within is_white _ _ c.word_len-len.ensures
