-- When a call of the outside may fail: by counts of faults that never fall.
use Rattle.std.specs.Prelude.{◌≡◌, ℕ, ◌+◌, ◌-◌, ◌^◌, ◌<◌, ◌≤◌, min, length, List, Ok, IfOk, OnOk, OnErr, IsErr, ◌⊎◌}
use Rattle.std.specs.declared.result.Result.{Result}

-- A count rose, or stands at the last value of a `u64`.
abbrev pub Rose : ℕ → ℕ → Type 0
Rose before now = min (before + 1) (2 ^ 64 - 1) ≤ now

-- The count never falls, an `Ok` leaves it, and an `Err` comes only where it rose.
pub record HasCause {T E : Type 0} (before now : ℕ) (result : Result T E) : Type 0 where
  pub later : before ≤ now
  pub kept : OnOk result (now ≡ before)
  pub failed : OnErr result (Rose before now)

-- The same for a call that fails also where another fact holds.
pub record HasCauseOr {T E : Type 0} (other : Type 0) (before now : ℕ) (result : Result T E) : Type 0 where
  pub later : before ≤ now
  pub kept : OnOk result (now ≡ before)
  pub failed : OnErr result (Rose before now ⊎ other)

-- The same for a write of these bytes, whose `Ok(0)` is a fault unless there are none.
pub record WriteHasCause {E : Type 0} (before now : ℕ) (bytes : List ℕ) (result : Result ℕ E) : Type 0 where
  pub later : before ≤ now
  pub took : IfOk result (λ n. 0 < n → now ≡ before)
  pub idle : length bytes ≡ 0 → OnOk result (now ≡ before)
  pub empty : IfOk result (λ n. n ≡ 0 → 0 < length bytes → Rose before now)
  pub failed : OnErr result (Rose before now)

-- A count rose by 1, or stands at the last value of a `u64`, exactly where this fact holds.
pub record RisesAt (fault : Type 0) (before now : ℕ) : Type 0 where
  pub rises : fault → now ≡ min (before + 1) (2 ^ 64 - 1)
  pub stays : ¬ fault → now ≡ before

-- A write of these bytes failed, or took none of them although there are some.
abbrev pub IsWriteFault : {E : Type 0} → List ℕ → Result ℕ E → Type 0
IsWriteFault bytes result = IsErr result ⊎ ((result ≡ Ok 0) × (0 < length bytes))
