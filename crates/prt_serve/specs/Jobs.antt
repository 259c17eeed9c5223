-- What serving jobs does, one after another.
use Rattle.std.specs.Prelude.{◌≡◌, ◌^◌, ◌-◌, ℕ, List, [], ◌∷◌, Option, length, min}
use Rattle.std.specs.Iterator.{Drains}
use Rattle.prt_published.specs.Line.{Line}
use Rattle.prt_replies.specs.declared.script_end.ScriptEnd.{ScriptEnd}
use Rattle.prt_serve.specs.Serving.{Serves}
use Rattle.prt_serve.specs.Together.{ServesTogether}
use Rattle.prt_serve.specs.declared.worker.Job.{Job}
use Rattle.prt_serve.specs.declared.worker.SessionKind.{SessionKind}
use Rattle.prt_serve.specs.declared.worker.SessionKind.TheVariants.{InTurn, Together}
use Rattle.prt_serve.specs.declared.worker.Served.{Served}

-- a session or an atomic script was served, as the kind says
abbrev pub ServesKind : SessionKind → (known0 known : Line) → (reader0 reader writer0 writer : Option (List ℕ)) → ScriptEnd → Type 0
ServesKind InTurn known0 known reader0 reader writer0 writer end = Serves known0 known reader0 reader writer0 writer end
ServesKind Together known0 known reader0 reader writer0 writer end = ServesTogether known0 known reader0 reader writer0 writer end

module _ {R W F : Type 0} (remaining : R → Option (List ℕ)) (contents : W → Option (List ℕ)) (takes : F → Served R W → F → Type 0) where
  -- A session of the job's kind served the job: its lines are what the job's reader had, and its replies came after what the
  -- job's writer had; it may end by a fault before its first line. What is called after each session then took the job as it was
  -- left, with how the session had ended.
  pub record ServesJob (known0 : Line) (after0 : F) (job : Job R W) (known : Line) (after : F) : Type 0 where
    pub left : Served R W
    pub session : left.job.session ≡ job.session
    pub kind : left.job.kind ≡ job.kind
    pub served : ServesKind job.kind known0 known (remaining job.reader) (remaining left.job.reader) (contents job.writer) (contents left.job.writer) left.end
    pub taken : takes after0 left after

  -- each of the jobs was served in its turn, by a looker that knew at first what it knew after the one before
  abbrev pub ServesEach : Line → F → List (Job R W) → Line → F → Type 0
  ServesEach known0 after0 [] known after = (known ≡ known0) × (after ≡ after0)
  ServesEach known0 after0 (job ∷ jobs) known after =
      (next : Line) × (called : F) × ServesJob known0 after0 job next called × ServesEach next called jobs known after

-- jobs came until no more did, and each was served; this is their number, as far as 64 bits count them
abbrev pub ServesCounted : {I R W F : Type 0} → (I → Option (Job R W) → I → Type 0) → (R → Option (List ℕ)) → (W → Option (List ℕ)) →
    (F → Served R W → F → Type 0) → I → Line → F → Line → ℕ → Type 0
ServesCounted {I} {R} {W} {F} steps remaining contents takes jobs known0 after0 known number =
    (served : List (Job R W)) × Drains steps jobs served × (number ≡ min (length served) (2 ^ 64 - 1))
    × ((after : F) × ServesEach remaining contents takes known0 after0 served known after)

-- the same, whatever their number is
abbrev pub ServesAll : {I R W F : Type 0} → (I → Option (Job R W) → I → Type 0) → (R → Option (List ℕ)) → (W → Option (List ℕ)) →
    (F → Served R W → F → Type 0) → I → Line → F → Line → Type 0
ServesAll {I} {R} {W} {F} steps remaining contents takes jobs known0 after0 known =
    (served : List (Job R W)) × Drains steps jobs served × ((after : F) × ServesEach remaining contents takes known0 after0 served known after)
