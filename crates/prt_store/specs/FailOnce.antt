-- What contracts see of a disk that fails once.
use Rattle.std.specs.Prelude.{◌≡◌, ℕ, Bool, false}
use Rattle.prt_store.specs.declared.faults.FailOnce.{FailOnce}

-- the disk that calls are passed on to
abbrev pub inner_of : {D : Type 0} → FailOnce D → D
inner_of f = f.inner

-- how many calls are still to come before the one that fails
abbrev pub calls_left : {D : Type 0} → FailOnce D → ℕ
calls_left f = f.calls_left

-- that call has come
abbrev pub has_failed : {D : Type 0} → FailOnce D → Bool
has_failed f = f.has_failed

-- no call has failed
abbrev pub IsFresh : {D : Type 0} → FailOnce D → Type 0
IsFresh f = (f.has_failed ≡ false) × (f.refused ≡ 0) × (f.sync_refused ≡ false)
