use Rattle.std.proofs.Common.{◌≡◌, ◌<◌, ℕ, List, Some, length, get_or, refl, sym, ap, ◌∙◌, subst}
use Rattle.std.specs.Arc.{arc_value}
use Rattle.std.specs.List.{slice_get}
use Rattle.std.proofs.lemmas.Option.{slice_get_read, slice_get_within}
use Rattle.prt_rule.specs.declared.packet.Packet.{Packet}
use Rattle.prt_version.specs.State.{State}
use Rattle.prt_fib.specs.Fib.{Table, outcome_to}
use Rattle.prt_fib.specs.Policy.{class_of}
use Rattle.prt_fib.proofs.Classified.{same_way}
use Rattle.prt_fib.proofs.policy.PolicyFib.table.Goals as goal

-- the class is that of the tree
led : {X Y : Type 0} (f : X → Y → ℕ) (tree given : X) (packet : Y) (result : ℕ) → given ≡ tree → result ≡ f given packet → f tree packet ≡ result
led f tree given packet result is e = sym (e ∙ ap (λ t. f t packet) is)

pub index-requires : goal.index-requires
index-requires c =
    let found = c.self.invariant.finds c.bounded-copy.result c.bounded-copy.ensures.fits in
    let at : slice_get c.self.inside.tables.items c.class_of.result ≡ Some found.0 =
    ap (slice_get c.self.inside.tables.items) (sym (led class_of (arc_value c.self.inside.tree) c.deref.result.now c.bounded-copy.result c.class_of.result c.deref.ensures c.class_of.ensures)) ∙ found.1 in
    subst (λ n. c.class_of.result < n) (sym c.self.inside.tables.ok.0) (slice_get_within c.self.inside.tables.items c.class_of.result found.0 at)

-- what is found is at its place
at_place : (tables : List Table) (k : ℕ) (table found : Table) → slice_get tables k ≡ Some found → table ≡ get_or tables k table → found ≡ table
at_place tables k table found at is =
    let there : slice_get tables k ≡ Some table = slice_get_read tables (length tables) k table refl (slice_get_within tables k found at) is in
    let same : Some found ≡ Some table = sym at ∙ there in
    cc

pub returns-clause-state : goal.returns-clause-state
returns-clause-state c =
    let tables : List Table = c.self.inside.tables.items in
    let found = c.self.invariant.finds c.bounded-copy.result c.bounded-copy.ensures.fits in
    let at : slice_get tables c.class_of.result ≡ Some found.0 =
    ap (slice_get tables) (sym (led class_of (arc_value c.self.inside.tree) c.deref.result.now c.bounded-copy.result c.class_of.result c.deref.ensures c.class_of.ensures)) ∙ found.1 in
    let same : found.0 ≡ c.index.result.now = at_place tables c.class_of.result c.index.result.now found.0 at c.index.ensures in
    ap (λ (table : Table). table.state) (sym same) ∙ c.self.invariant.of c.class_of.result found.0 at ∙ c.self.view_is

pub returns-clause-alike : goal.returns-clause-alike
returns-clause-alike c = λ addr.
    let tables : List Table = c.self.inside.tables.items in
    let state : State = c.self.inside.version in
    let copy : Packet = c.bounded-copy.result in
    let found = c.self.invariant.finds copy c.bounded-copy.ensures.fits in
    let at : slice_get tables c.class_of.result ≡ Some found.0 =
    ap (slice_get tables) (sym (led class_of (arc_value c.self.inside.tree) c.deref.result.now copy c.class_of.result c.deref.ensures c.class_of.ensures)) ∙ found.1 in
    let same : found.0 ≡ c.index.result.now = at_place tables c.class_of.result c.index.result.now found.0 at c.index.ensures in
    let way : outcome_to state found.0.packet addr ≡ outcome_to state copy addr = sym (same_way state copy found.0.packet addr found.2) in
    subst (λ (s : State). outcome_to s c.index.result.now.packet addr ≡ outcome_to s c.args.packet.now addr) c.self.view_is
    (subst (λ (p : Packet). outcome_to state c.index.result.now.packet addr ≡ outcome_to state p addr) c.bounded-copy.ensures.value
    (subst (λ (t : Table). outcome_to state t.packet addr ≡ outcome_to state copy addr) same way))
