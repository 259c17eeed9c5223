-- The line of a route to be deleted asks for that.
use Rattle.std.proofs.Common.{◌≡◌, ℕ, ◌+◌, ◌≤◌, true, List, [], ◌∷◌, ◌++◌, Option, Some, None, Ok, refl, ap, ◌∙◌, arith, nat_le}
use Rattle.std.specs.Prelude.{codes, nat_lt, ◌==◌, ◌&&◌, if◌then◌else◌}
use Rattle.std.proofs.lemmas.Bool.Decides.{nat_tests}
use Rattle.prt_addr.specs.Word.{keep}
use Rattle.prt_route.specs.declared.choice.RouteChoice.{RouteChoice}
use Rattle.prt_command.specs.Items.{no_items}
use Rattle.prt_command.specs.LineKinds.{route_edit_line}
use Rattle.prt_command.specs.Requests.{route_del_request}
use Rattle.prt_command.specs.declared.item.Items.{Items}
use Rattle.prt_command.specs.declared.request.Command.TheVariants as commands
use Rattle.prt_command.specs.declared.request.Request.TheVariants as requests
use Rattle.prt_listing.specs.Parts.{spaced}
use Rattle.prt_spelling.specs.Fits.{RouteChoiceFits}
use Rattle.prt_spelling.specs.Parts.{route_choice_parts, said}
use Rattle.prt_spelling.specs.Plain.{is_plain_name}
use Rattle.prt_spelling.specs.Spelled.{is_from_one, is_spelled_choice}
use Rattle.prt_spelling.specs.declared.form.NameForm.{NameForm}
use Rattle.prt_spelling.proofs.Reading.{IsReadAs, read_by_parts}
use Rattle.prt_spelling.proofs.Texts.{Reads, reads_none}
use Rattle.prt_spelling.proofs.RouteItems.{destination_reads, dev_reads, from_one, metric_reads, proto_reads, scope_reads, src_reads, table_by, target_by, unsaid_back, via_reads, with_dev, with_proto, with_scope, with_src, with_table, with_target, with_via}
use Rattle.prt_spelling.proofs.Words.{both_true}

-- what the line says
abbrev pub choice_items : RouteChoice → Items
choice_items choice = record no_items {
  destination = Some (target_by choice.kind choice.prefix);
  via = choice.via;
  dev = choice.dev;
  table = said 254 choice.table;
  proto = choice.proto;
  scope = choice.scope;
  src = choice.src;
  metric = choice.metric;
}

-- how long a text of all its parts may be, if others follow
abbrev pub choice_length : ℕ → ℕ
choice_length k = 11 + (1 + (18 + (1 + (19 + (1 + (19 + (1 + (16 + (1 + (16 + (1 + (16 + (1 + (19 + (1 + (17 + (1 + k)))))))))))))))))

pub choice_reads : (form : NameForm) (choice : RouteChoice) → RouteChoiceFits choice → 1 ≤ choice.table → is_plain_name choice.dev ≡ true → (k : ℕ) (last : Items) (parts : List (Option (List ℕ))) → Reads route_edit_line k (choice_items choice) last parts → Reads route_edit_line (choice_length k) no_items last (route_choice_parts form choice ++ parts)
choice_reads form choice fits some plain k last parts rest =
    let g1 : Items = with_target choice.kind choice.prefix in
    let g2 : Items = with_via g1 choice.via in
    let g3 : Items = with_dev g2 choice.dev in
    let g4 : Items = with_table g3 (said 254 choice.table) in
    let g5 : Items = with_proto g4 choice.proto in
    let g6 : Items = with_scope g5 choice.scope in
    let g7 : Items = with_src g6 choice.src in
    destination_reads choice.kind choice.prefix _ last _ fits.prefix
    ((via_reads choice.via g1 refl fits.via).more _ last _
    ((dev_reads route_edit_line refl choice.dev g2 refl plain).more _ last _
    ((table_by choice.table (choice.table == 254) g3 refl some fits.table).more _ last _
    ((proto_reads form route_edit_line refl choice.proto g4 refl fits.proto).more _ last _
    ((scope_reads form route_edit_line refl choice.scope g5 refl fits.scope).more _ last _
    ((src_reads choice.src g6 refl fits.src).more _ last _
    ((metric_reads choice.metric g7 refl fits.metric).more k last parts rest)))))))

-- ---- what it asks for

abbrev chosen : ℕ → Option ℕ → RouteChoice → RouteChoice
chosen table metric choice = record choice { table = table; metric = metric }

some_metric : (n : ℕ) → nat_le 1 n ≡ true → nat_lt 0 n ≡ true
some_metric n h = grind (arith, nat_tests, h)

metric_back : (metric : Option ℕ) → is_from_one metric ≡ true → keep (λ metric. nat_lt 0 metric) metric ≡ metric
metric_back None h = refl
metric_back (Some n) h = ap (λ b. if b then Some n else None) (some_metric n h)

choice_asks : (choice : RouteChoice) → is_from_one choice.metric ≡ true → route_del_request (choice_items choice) ≡ Ok (requests.Command (commands.RouteDel choice))
choice_asks choice some =
    ap (λ table. Ok (requests.Command (commands.RouteDel (chosen table (keep (λ metric. nat_lt 0 metric) choice.metric) choice)))) (unsaid_back 254 choice.table)
    ∙ ap (λ metric. Ok (requests.Command (commands.RouteDel (chosen choice.table metric choice)))) (metric_back choice.metric some)

-- the line of a route to be deleted
pub choice_read : (form : NameForm) (choice : RouteChoice) → RouteChoiceFits choice → is_spelled_choice choice ≡ true → IsReadAs (spaced (Some (codes "route del") ∷ route_choice_parts form choice)) (commands.RouteDel choice)
choice_read form choice fits spelled =
    let first = both_true (nat_le 1 choice.table && is_from_one choice.metric) (is_plain_name choice.dev) spelled in
    let second = both_true (nat_le 1 choice.table) (is_from_one choice.metric) first.0 in
    read_by_parts (codes "route del") (codes "route") (codes "del") route_edit_line route_del_request 9 160 (choice_items choice) (route_choice_parts form choice) (commands.RouteDel choice)
    (record { words = refl; plain = refl; short = omega arith }) (λ ws. refl)
    (choice_reads form choice fits (from_one choice.table second.0) first.1 0 (choice_items choice) [] (reads_none route_edit_line (choice_items choice)))
    (omega arith) (choice_asks choice second.1)
