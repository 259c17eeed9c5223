use Rattle.std.proofs.Common.{rules, ◌≡◌, ◌⊎◌, false, refl, inl, subst}
use Rattle.std.specs.List.{list_all}
use Rattle.prt_import.specs.Accepted.{IsExecutedOver}
use Rattle.prt_questions.specs.Analyses.{IsRehearsed, IsRehearsedAtMost}
use Rattle.prt_questions.specs.LeftOut.{AreKernels, is_kernels}
use Rattle.prt_questions.specs.Sources.{IsFileOf, IsRead, path_of}
use Rattle.prt_questions.specs.declared.asking.TheConstants.{REFUSED}
use Rattle.prt_args.specs.declared.fault.TheConstants.{DONE}
use Rattle.prt_questions.proofs.Rehearsals.{are_refused, shows, shows_at_most}
use Rattle.prt_questions.proofs.Statuses.{both_done}
use Rattle.prt_questions.proofs.impact.rehearse_over.Goals as goal

pub returns-then-is_stopped-clause-found : goal.returns-then-is_stopped-clause-found
returns-then-is_stopped-clause-found g c = λ status. inl (
  record {
    stops = (c.is_stopped.ensures.stops c.if-is_stopped.true).1;
    made = c.in-Ok-accept_over.made;
    script = c.in-Ok.script.items;
    read = c.in-Ok.ensures.read;
    executed = subst (IsExecutedOver c.args.tables.now.version c.in-Ok-accept_over.made) c.deref.ensures.value c.in-Ok-accept_over.ensures.ok;
    refused = subst (λ lines. list_all is_kernels lines ≡ false) c.deref-2.ensures.value (c.tell_left-left.ensures.others (are_refused c.tell_left-left.result c.tell_left-left.ensures.status (c.is_stopped.ensures.stops c.if-is_stopped.true).0));
  },
  c.in-Ok.ensures.unwritten,
  refl,
)

pub returns-clause-found : goal.returns-clause-found
returns-clause-found g c = λ status.
    let writer = g.H.Output.Write.contents c.write_impact-shown.new.output in
    let done = c.or_left-2.result in
    let shown : (c.write_impact-shown.result ≡ DONE) ⊎ (c.write_impact-shown.result ≡ REFUSED) = search (rules, c.or_left-2.ensures, status) in
    let w = c.write_impact-shown.ensures.whole shown in
    let kept = λ (all : c.tell_left-left.result ≡ DONE). subst AreKernels c.deref-2.ensures.value (c.tell_left-left.ensures.kernels all) in
    subst (λ writer0. IsRehearsed (IsRead (IsFileOf g.H.Files.ReadFiles.opens g.H.Files.Opened.Read.remaining c.args.files.now) (g.H.Input.Read.remaining c.args.input.now) (path_of c.args.rehearsing.now.file)) writer0 writer c.args.rehearsing.now done c.args.tables.now.version) c.in-Ok.ensures.unwritten
    (shows _ (g.H.Output.Write.contents c.read_whole.new.output) writer c.args.rehearsing.now c.args.tables.now.version c.in-Ok-accept_over.made c.in-Ok.script.items c.in-Ok.ensures.read (subst (IsExecutedOver c.args.tables.now.version c.in-Ok-accept_over.made) c.deref.ensures.value c.in-Ok-accept_over.ensures.ok) done w.0 w.1 w.2 (λ stops. kept (c.is_stopped.ensures.goes_on c.if-is_stopped.false stops))
    (λ all. (
    let both = both_done _ _ _ c.or_left-2.ensures all in
    let lines = both_done _ _ _ c.or_left.ensures both.1 in
    (w.3 both.0, kept lines.0)
    )))

pub returns-clause-at_most : goal.returns-clause-at_most
returns-clause-at_most g c =
    let writer = g.H.Output.Write.contents c.write_impact-shown.new.output in
    subst (λ writer0. IsRehearsedAtMost (IsRead (IsFileOf g.H.Files.ReadFiles.opens g.H.Files.Opened.Read.remaining c.args.files.now) (g.H.Input.Read.remaining c.args.input.now) (path_of c.args.rehearsing.now.file)) writer0 writer c.args.rehearsing.now c.args.tables.now.version) c.in-Ok.ensures.unwritten
    (shows_at_most _ (g.H.Output.Write.contents c.read_whole.new.output) writer c.args.rehearsing.now c.args.tables.now.version c.in-Ok-accept_over.made c.in-Ok.script.items c.in-Ok.ensures.read (subst (IsExecutedOver c.args.tables.now.version c.in-Ok-accept_over.made) c.deref.ensures.value c.in-Ok-accept_over.ensures.ok) c.write_impact-shown.ensures.part)
