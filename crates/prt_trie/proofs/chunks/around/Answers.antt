use Rattle.std.proofs.Common.{◌≡◌, ◌-◌, ◌<◌, ◌≤◌, true, false, get_or, length, take, drop, map, arith, ap, subst, sym, ◌∙◌}
use Rattle.std.specs.Arc.{arc_value}
use Rattle.std.specs.List.{AllByRecursion as Each}
use Rattle.std.proofs.lemmas.List.{drop-map, drop_min, length-map, take-map}
use Rattle.prt_route.specs.declared.route.Route.{Route}
use Rattle.prt_trie.specs.Chunks.{is_key_after, is_key_before, rows_of_chunks}
use Rattle.prt_trie.proofs.KeyPlaces.{after_place, before_place, count_heads}
use Rattle.prt_trie.proofs.chunks.around.Goals as goal

pub split_at-requires : goal.split_at-requires
split_at-requires c =
    omega (arith, c.saturating_sub.ensures, c.place_of-place.ensures.within, ap length c.requires.heads, count_heads (map arc_value c.args.chunks.now) c.requires.chunks.each, length-map c.args.chunks.now arc_value)

pub returns-clause-before : goal.returns-clause-before
returns-clause-before c =
    let is : map arc_value c.split_at.result.0.now ≡ take (c.place_of-place.result - 1) (map arc_value c.args.chunks.now) =
    ap (map arc_value) c.split_at.ensures.front ∙ sym (take-map arc_value c.saturating_sub.result c.args.chunks.now) ∙ ap (λ n. take n (map arc_value c.args.chunks.now)) c.saturating_sub.ensures in
    subst (λ chunks. Each (λ row. is_key_after c.args.key.now row ≡ true) (rows_of_chunks chunks)) (sym is)
    (before_place c.args.key.now (map arc_value c.args.chunks.now) c.place_of-place.result c.requires.chunks (subst (λ rows. c.place_of-place.result ≤ length rows) c.requires.heads c.place_of-place.ensures.within)
    (subst (λ rows. (d : Route) → 0 < c.place_of-place.result → is_key_before c.args.key.now (get_or rows (c.place_of-place.result - 1) d) ≡ false) c.requires.heads c.place_of-place.ensures.before))

pub returns-clause-after : goal.returns-clause-after
returns-clause-after c =
    let rest : map arc_value c.split_at.result.1.now ≡ drop (c.place_of-place.result - 1) (map arc_value c.args.chunks.now) =
    ap (map arc_value) c.split_at.ensures.back ∙ sym (drop-map arc_value c.saturating_sub.result c.args.chunks.now) ∙ ap (λ n. drop n (map arc_value c.args.chunks.now)) c.saturating_sub.ensures in
    let two : drop c.min.result c.split_at.result.1.now ≡ drop 2 c.split_at.result.1.now =
    ap (λ n. drop n c.split_at.result.1.now) c.min.ensures ∙ drop_min 2 c.split_at.result.1.now in
    let is : map arc_value c.split_at-2.result.1.now ≡ drop 2 (drop (c.place_of-place.result - 1) (map arc_value c.args.chunks.now)) =
    ap (map arc_value) (c.split_at-2.ensures.back ∙ two) ∙ sym (drop-map arc_value 2 c.split_at.result.1.now) ∙ ap (drop 2) rest in
    subst (λ chunks. Each (λ row. is_key_before c.args.key.now row ≡ true) (rows_of_chunks chunks)) (sym is)
    (after_place c.args.key.now (map arc_value c.args.chunks.now) c.place_of-place.result c.requires.chunks
    (subst (λ rows. (d : Route) → c.place_of-place.result < length rows → is_key_before c.args.key.now (get_or rows c.place_of-place.result d) ≡ true) c.requires.heads c.place_of-place.ensures.after))
