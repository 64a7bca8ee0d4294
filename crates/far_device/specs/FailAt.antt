-- A device of which one write or read fails: what its calls are, and what may yet fail.
use Rattle.std.specs.Prelude.{◌≡◌, ℕ, zero, suc, ◌+◌, ◌-◌, ◌==◌, ◌%◌, ◌^◌, cond, Result, Err}
use Rattle.far_device.specs.declared.fault.DeviceFault.{DeviceFault}
use Rattle.far_device.specs.declared.fault.DeviceFault.TheVariants.{Device}

-- how many faults are counted in all, modulo 2^64: those of the inner device, and its own
abbrev pub in_all : ℕ → ℕ → ℕ
in_all inner own = (inner + own) % 2 ^ 64

-- what may yet fail: so much of the inner device, and one call more if one is left that is to fail
abbrev pub MayFail : ℕ → (ℕ → Type 0) → ℕ → Type 0
MayFail zero inner n = inner n
MayFail (suc left) inner zero = ⊥
MayFail (suc left) inner (suc n) = inner n

-- the write or read that fails: the inner device is as it was, one fault more is counted here, modulo 2^64, and no call is left that is to fail
abbrev pub IsFailed : {A D : Type 0} (own : ℕ) (inner : D) (answer : Result A DeviceFault) (left_after own_after : ℕ) (inner_after : D) → Type 0
IsFailed own inner answer left_after own_after inner_after = (answer ≡ Err Device) × (inner_after ≡ inner) × (left_after ≡ 0) × (own_after ≡ (own + 1) % 2 ^ 64)

-- any other: the inner device was asked, which Asked says; no fault is counted here; and the call that is to fail, if one is left, is nearer by one
abbrev pub IsPassedOn : (left own left_after own_after : ℕ) (Asked : Type 0) → Type 0
IsPassedOn left own left_after own_after Asked = Asked × (left_after ≡ left - 1) × (own_after ≡ own)

-- a write or read: it fails exactly where it is the next one that is to
abbrev pub Counts : {A D : Type 0} (left own : ℕ) (inner : D) (answer : Result A DeviceFault) (left_after own_after : ℕ) (inner_after : D) (Asked : Type 0) → Type 0
Counts left own inner answer left_after own_after inner_after Asked =
    cond (left == 1) (IsFailed own inner answer left_after own_after inner_after) (IsPassedOn left own left_after own_after Asked)
