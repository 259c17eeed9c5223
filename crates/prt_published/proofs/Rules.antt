-- Each step keeps the rule of the two copies.
use Rattle.std.proofs.Common.{◌≡◌, ℕ, ◌≢◌, List, [], ◌∷◌, ◌++◌, fold, set, true, refl, ap, sym, subst, ◌∙◌, ⊎_elim}
use mathlib.Core.Option.{some}
use lib.ListN.{get_elem?}
use Rattle.left_right.specs.Register.{Admits, TurnsAt, Turns, Forks, Merges}
use Rattle.atomic_table.proofs.Lists.{at_set, at_snoc}
use Rattle.prt_published.specs.Line.{Line}
use Rattle.prt_published.specs.declared.copies.Origin.{Origin}
use Rattle.prt_published.specs.Copies.{AreOfOne, Finds, Turns as Shows, origin_of, unknown}

abbrev pub Fits : Line → Origin → Type 0
Fits x v = v.known ≡ true → v ≡ origin_of x.book

pub snoc_fits : (x : Line) (views : List Origin) (w : Origin) → AreOfOne x views → Fits x w → AreOfOne x (views ++ w ∷ [])
snoc_fits x views w h fits seat v at = ⊎_elim (h seat v) (λ (e : w ≡ v). subst (Fits x) e fits) (at_snoc views w v seat at)

pub set_fits : (x : Line) (views : List Origin) (seat : ℕ) (w : Origin) → AreOfOne x views → Fits x w → AreOfOne x (set views seat w)
set_fits x views seat w h fits j u e = ⊎_elim (λ (t : (j ≡ seat) × (w ≡ u)). subst (Fits x) t.1 fits) (λ (t : (j ≢ seat) × (get_elem? views j ≡ some u)). h j u t.1) (at_set views seat j w u e)

nowhere_fits : (x : Line) → Fits x unknown
nowhere_fits x known = absurd (cc (known))

pub admits : Admits AreOfOne unknown
admits x views h = snoc_fits x views unknown h (nowhere_fits x)

pub reads : (seat : ℕ) (v : Origin) → Turns AreOfOne seat v (λ x. x) Finds
reads seat v x views h at = (v, set_fits x views seat v h (h seat v at), (refl, h seat v at))

pub forks : (seat : ℕ) (v : Origin) → Forks AreOfOne seat v v v
forks seat v x views h at = snoc_fits x (set views seat v) v (set_fits x views seat v h (h seat v at)) (h seat v at)

pub merges : (seat : ℕ) (v : Origin) (other : ℕ) (w : Origin) → Merges AreOfOne seat v other w w unknown
merges seat v other w x views h at apart there =
    let fits : Fits x w = ⊎_elim (λ (t : (other ≡ seat) × (w ≡ w)). absurd (apart t.0)) (λ (t : (other ≢ seat) × (get_elem? views other ≡ some w)). h other w t.1) (at_set views seat other w w there) in
    set_fits x (set views seat w) other unknown (set_fits x views seat w h fits) (nowhere_fits x)

pub turns : (seat : ℕ) (v : Origin) (x y : Line) → y.book ≡ x.book → TurnsAt AreOfOne seat v x y Shows
turns seat v x y same views h at =
    let all : AreOfOne y views = λ j u e known. h j u e known ∙ ap origin_of (sym same) in
    (origin_of y.book, set_fits y views seat (origin_of y.book) all (λ known. refl), refl)

pub starts : (x : Line) → AreOfOne x (unknown ∷ [])
starts x = snoc_fits x [] unknown (λ seat v at known. absurd (cc (at))) (nowhere_fits x)

-- the last operation decides
pub fold_last : {A : Type 0} (s : A) (xs : List A) (o : A) → fold (λ (x : A) (y : A). y) s (xs ++ o ∷ []) ≡ o
fold_last s [] o = refl
fold_last s (x ∷ xs) o = fold_last x xs o
