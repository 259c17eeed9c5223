use Rattle.std.proofs.Common.{◌≡◌, ◌∙◌, None, subst, sym, true}
use Rattle.prt_import.specs.Listed.{listing_fault}
use Rattle.prt_questions.specs.Asking.{IsMadeOf, is_any_known}
use Rattle.prt_questions.proofs.importing.read_listing.Goals as goal

pub returns-clause-made : goal.returns-clause-made
returns-clause-made g c = record {
  text = c.in_ok-text.text.items;
  read = c.in_ok-text.ensures.read;
  lines = c.in-Ok.lines.items;
  are = c.in-Ok.ensures;
  whole = subst (λ lines. listing_fault lines ≡ None) c.deref-2.ensures.value c.in_default.ensures.ok;
  made = subst (λ lines. IsMadeOf lines c.in-Ok-keep_lines.read.2.items c.in-Ok-keep_lines.read.0) c.deref-3.ensures.value c.in-Ok-keep_lines.ensures.made;
  known = subst (λ left. is_any_known left c.in-Ok-keep_lines.read.0 ≡ true) c.deref-4.ensures.value (sym c.is_any_known.ensures ∙ c.if-not-is_any_known.false);
}
