-- What no request changes of a desk over a publisher.
use Rattle.std.proofs.Common.{◌≡◌, true, ap, refl, subst, sym, ◌∙◌}
use Rattle.std.specs.Prelude.{IsTrue}
use Rattle.sqlite.specs.Effect.{Database}
use Rattle.sqlite.specs.Held.{Held, state}
use Rattle.sqlite.specs.Schema.{Schema}
use Rattle.sqlite.specs.State.{HasCleanDisk}
use Rattle.sqlite.specs.Store.{Ghosts}
use Rattle.sqlite_rules.specs.Lists.{Has}
use Rattle.prt_publisher.specs.Exits.{Spares}
use Rattle.prt_publisher.specs.Standing.{Standing}
use Rattle.prt_publisher.specs.declared.phase.Phase.{Phase}
use Rattle.prt_publisher.specs.declared.phase.Phase.TheVariants.{Closed}
use Rattle.prt_session.specs.Preorder.{IsPreorder}
use Rattle.prt_store.specs.Exits.{IsKnown, SparesOthers}
use Rattle.prt_publisher.specs.StoreDesk.{is_closed_at, is_shut}

-- whether our tables are the first of the file, that its disk has failed, all of a desk that is closed, and the other
-- tables of the file, if that can be seen: while the desk is open, or at least its connection
pub record Remains {S : Type 0} (g : Ghosts S) (old new : Standing (Held S)) : Type 0 where
  pub format : new.ours_first ≡ old.ours_first
  pub clean : HasCleanDisk (state g new.tables) → HasCleanDisk (state g old.tables)
  pub closed : is_shut old ≡ true → new ≡ old
  pub others : Spares g old new

-- ---- it stays over any number of requests

spares_on : (old between last : Database) → SparesOthers old between → SparesOthers between last → SparesOthers old last
spares_on old between last first next = record {
  schema = next.schema ∙ first.schema;
  rows = λ table there other. next.rows table
      (subst (λ (schema : Schema). Has schema.tables table) (sym first.schema) there) other ∙ first.rows table there other;
}

module _ {S : Type 0} (g : Ghosts S) (desk between last : Standing (Held S)) (first : Remains g desk between) (next : Remains g between last) where
  others_through : (between.phase ≡ Closed → ⊥) → Spares g desk last
  others_through going known seen =
      spares_on (state g desk.tables).now (state g between.tables).now (state g last.tables).now
      (first.others (sym next.format ∙ known.0, next.clean known.1) (λ closed. absurd (going closed)))
      (next.others known seen)

  others_on : (phase : Phase) → between.phase ≡ phase → Spares g desk last
  others_on Closed is = λ known seen.
      let same : last ≡ between = next.closed (ap is_closed_at is) in
      let spares =
      first.others (subst (λ (d : Standing (Held S)). IsKnown g d.ours_first d.tables) same known)
      (subst (λ (d : Standing (Held S)). d.phase ≡ Closed → IsTrue (state g d.tables).is_open) same seen) in
      subst (λ (d : Standing (Held S)). SparesOthers (state g desk.tables).now (state g d.tables).now) (sym same) spares
  others_on phase is = others_through (λ closed. let both : phase ≡ Closed = sym is ∙ closed in cc)

  remains_on : Remains g desk last
  remains_on = record {
    format = next.format ∙ first.format;
    clean = λ clean. first.clean (next.clean clean);
    closed = λ closed. let same = first.closed closed in next.closed (ap (λ (d : Standing (Held S)). is_shut d) same ∙ closed) ∙ same;
    others = others_on between.phase refl;
  }

pub remains_over_all : {S : Type 0} (g : Ghosts S) → IsPreorder (Remains g)
remains_over_all {S} g = record {
  reflexive = λ desk. record {
    format = refl;
    clean = λ clean. clean;
    closed = λ _. refl;
    others = λ _ _. record { schema = refl; rows = λ _ _ _. refl };
  };
  transitive = remains_on g;
}
