use Rattle.std.proofs.Common.{◌≡◌, ◌+◌, ◌++◌, [], ◌∷◌, ap, arith, length, length-append, subst, sym, ◌∙◌}
use Rattle.std.specs.List.{Contains}
use Rattle.prt_partition.specs.Cuts.{from_cuts}
use Rattle.prt_partition.proofs.BoxList.{few_cuts, source_starts}
use Rattle.prt_partition.proofs.cuts.source_starts.Goals as goal

pub returns-clause-few : goal.returns-clause-few
returns-clause-few c =
    let rules = c.args.rules.now in
    let none : length c.new-starts.result.items ≡ 0 = ap length c.new-starts.ensures.items in
    let cuts : length c.push_from_cuts.new.cuts.items ≡ length c.new-starts.result.items + length (from_cuts rules) = ap length c.in_ok-push_from_cuts.ensures ∙ length-append c.new-starts.result.items (from_cuts rules) in
    let all : length c.push.new.self.items ≡ length c.push_from_cuts.new.cuts.items + 1 = ap length c.in_ok-push.ensures.items ∙ length-append c.push_from_cuts.new.cuts.items (0 ∷ []) in
    omega (arith, few_cuts rules, c.sort_distinct.ensures.fewer)

pub returns-clause-value : goal.returns-clause-value
returns-clause-value c =
    let rules = c.args.rules.now in
    let starts = c.sort_distinct.new.numbers.items in
    let all : c.push.new.self.items ≡ from_cuts rules ++ 0 ∷ [] =
    c.in_ok-push.ensures.items
    ∙ ap (λ cuts. cuts ++ 0 ∷ []) (c.in_ok-push_from_cuts.ensures ∙ ap (λ none. none ++ from_cuts rules) c.new-starts.ensures.items) in
    source_starts rules starts c.sort_distinct.ensures.rises c.sort_distinct.ensures.fit
    (λ n h. c.sort_distinct.ensures.keeps n (subst (λ ns. Contains ns n) (sym all) h))
    (λ n h. subst (λ ns. Contains ns n) all (c.sort_distinct.ensures.only n h))
