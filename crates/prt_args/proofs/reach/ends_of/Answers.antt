use Rattle.std.proofs.Common.{◌≡◌, ◌∙◌, Bool, true, false, true≢false, None, refl, sym, length, arith, slice_index_or, lit<}
use Rattle.std.specs.List.{list_any, position_or_len}
use Rattle.std.proofs.lemmas.List.Folds.{Any-from_list_any}
use Rattle.std.proofs.lemmas.List.Sums.{fails_before_first}
use Rattle.std.proofs.lemmas.Str.Pattern.{split_once_first}
use Rattle.prt_addr.specs.Word.{Word}
use Rattle.prt_args.specs.Reaching.{is_hyphen, last_end}
use Rattle.prt_args.proofs.reach.ends_of.Goals as goal

-- a word with no hyphen ends a span itself
no_hyphen : (word : Word) → position_or_len is_hyphen word ≡ length word → word ≡ last_end word
no_hyphen word none = go (list_any is_hyphen word) refl
  where
    go : (has : Bool) → list_any is_hyphen word ≡ has → word ≡ last_end word
    go true e =
        let (k, x, within, at, is) = Any-from_list_any is_hyphen word e in
        let before : is_hyphen (slice_index_or word k x) ≡ false = fails_before_first is_hyphen word k x (omega (arith, within, none)) in
        absurd (true≢false (sym is ∙ rw (sym at) before))
    go false e = rw e refl

pub returns-in-None-clause-last : goal.returns-in-None-clause-last
returns-in-None-clause-last c = no_hyphen c.args.word.now (split_once_first 45 c.args.word.now None c.in-None.ensures.cases (lit< tt))
