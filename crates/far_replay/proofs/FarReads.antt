-- What one read of a heap's far side gave, and what its calls leave of the flaw that is to come.
use Rattle.std.proofs.Common.{◌≡◌, ◌≢◌, ℕ, zero, suc, ◌-◌, ◌==◌, Bool, true, false, cond, arith, sym, refl, ap, subst, ◌∙◌, Option, Some, None, List, Result, Ok, Err}
use Rattle.std.proofs.lemmas.Bool.{eqb-true}
use Rattle.far_device.specs.FailAt.{Counts, IsFailed, IsPassedOn, MayFail}
use Rattle.far_device.specs.Liar.{lied, told}
use Rattle.far_device.specs.Mem.{bytes_at, MemLetsGo, MemReads, MemWrites}
use Rattle.far_device.specs.declared.fault.DeviceFault.{DeviceFault}
use Rattle.far_device.specs.declared.fault.DeviceFault.TheVariants.{Device, Memory}
use Rattle.far_device.specs.declared.liar.Lie.{Lie}
use Rattle.far_device.specs.declared.liar.Lie.TheVariants.{Never}
use Rattle.far_device.specs.declared.mem.MemDevice.{MemDevice}
use Rattle.far_replay.specs.Moment.{FarSide}
use Rattle.far_replay.specs.Spent.{IsLeft}

-- answers of a read, and of a write
abbrev pub ReadAnswer : Type 0
ReadAnswer = Result (List ℕ) DeviceFault

abbrev pub WriteAnswer : Type 0
WriteAnswer = Result (Unit {0}) DeviceFault

abbrev pub read_fault : DeviceFault → ReadAnswer
read_fault why = Err why

abbrev pub write_fault : DeviceFault → WriteAnswer
write_fault why = Err why

abbrev pub write_done : WriteAnswer
write_done = Ok tt

abbrev pub read_bytes : List ℕ → ReadAnswer
read_bytes bytes = Ok bytes

-- ---- the calls, as a device that lies and one that fails make them
abbrev pub Passed : {A : Type 0} → FarSide → Result A DeviceFault → FarSide → Type 0 → Type 0
Passed d answer e asked = Counts d.inner.left d.inner.own d.inner.inner answer e.inner.left e.inner.own e.inner.inner asked

abbrev pub FarReads : FarSide → ℕ → Result (List ℕ) DeviceFault → FarSide → Type 0
FarReads d id answer e = (raw : Result (List ℕ) DeviceFault) × Passed d raw e (MemReads d.inner.inner id raw e.inner.inner) × (answer ≡ told (d.left == 1) d.lie raw) × (e.lie ≡ d.lie) × (e.left ≡ d.left - 1)

abbrev pub FarWrites : FarSide → ℕ → List ℕ → Result (Unit {0}) DeviceFault → FarSide → Type 0
FarWrites d id bytes answer e = Passed d answer e (MemWrites d.inner.inner id bytes answer e.inner.inner) × (e.lie ≡ d.lie) × (e.left ≡ d.left)

abbrev pub FarLetsGo : FarSide → ℕ → FarSide → Type 0
FarLetsGo d id e = (MemLetsGo d.inner.inner id e.inner.inner × (e.inner.left ≡ d.inner.left) × (e.inner.own ≡ d.inner.own)) × (e.lie ≡ d.lie) × (e.left ≡ d.left)

-- ---- what a call leaves of the flaw
-- the flaw is of the same kind, and no more is to come
pub record NoMore (d e : FarSide) : Type 0 where
  pub lie : e.lie ≡ d.lie
  pub lies : (n : ℕ) → MayFail d.left (λ k. Unit {0}) n → MayFail e.left (λ k. Unit {0}) n
  pub fails : (n : ℕ) → MayFail d.inner.left (λ k. Unit {0}) n → MayFail e.inner.left (λ k. Unit {0}) n

fewer : (left less : ℕ) → less ≡ left - 1 → (n : ℕ) → MayFail left (λ k. Unit {0}) n → MayFail less (λ k. Unit {0}) n
fewer zero (suc less) e n h = absurd (omega (arith, e))
fewer (suc left) (suc less) e zero h = absurd h
fewer _ _ e _ h = tt

counted_or : (b : Bool) (X Y : Type 0) → cond b X Y → (X → ⊥) → Y
counted_or true X Y h never = absurd (never h)
counted_or false X Y h never = h

-- what was passed on, or memory was wanted for
passed_on : {A : Type 0} (d e : FarSide) (answer : Result A DeviceFault) (asked : Type 0) → Passed d answer e asked → answer ≢ Err Device → IsPassedOn d.inner.left d.inner.own e.inner.left e.inner.own asked
passed_on d e answer asked h other = counted_or (d.inner.left == 1) _ _ h (λ failed. other failed.0)

pub read_no_more : (d e : FarSide) (id : ℕ) (answer : Result (List ℕ) DeviceFault) → FarReads d id answer e → answer ≢ Err Device → NoMore d e
read_no_more d e id answer (raw, passed, is, lie, left) other =
    let on = passed_on d e raw _ passed (raw_too raw is) in
    record {
      lie = lie;
      lies = λ n h. fewer d.left e.left left n h;
      fails = λ n h. fewer d.inner.left e.inner.left on.1 n h;
    }
  where
    raw_too : (raw : Result (List ℕ) DeviceFault) → answer ≡ told (d.left == 1) d.lie raw → raw ≢ Err Device
    raw_too (Ok bytes) is = λ odd. let no : read_bytes bytes ≡ read_fault Device = odd in absurd cc
    raw_too (Err why) is = λ same. other (is ∙ same)

pub write_no_more : (d e : FarSide) (id : ℕ) (bytes : List ℕ) (answer : Result (Unit {0}) DeviceFault) → FarWrites d id bytes answer e → answer ≢ Err Device → NoMore d e
write_no_more d e id bytes answer (passed, lie, left) other =
    let on = passed_on d e answer _ passed other in
    record {
      lie = lie;
      lies = λ n h. subst (λ k. MayFail k (λ x. Unit {0}) n) (sym left) h;
      fails = λ n h. fewer d.inner.left e.inner.left on.1 n h;
    }

pub go_no_more : (d e : FarSide) (id : ℕ) → FarLetsGo d id e → NoMore d e
go_no_more d e id (inner, lie, left) = record {
  lie = lie;
  lies = λ n h. subst (λ k. MayFail k (λ x. Unit {0}) n) (sym left) h;
  fails = λ n h. subst (λ k. MayFail k (λ x. Unit {0}) n) (sym inner.1) h;
}

pub same_no_more : (d : FarSide) → NoMore d d
same_no_more d = record { lie = refl; lies = λ n h. h; fails = λ n h. h }

pub no_more_both : (d e f : FarSide) → NoMore d e → NoMore e f → NoMore d f
no_more_both d e f a b = record { lie = b.lie ∙ a.lie; lies = λ n h. b.lies n (a.lies n h); fails = λ n h. b.fails n (a.fails n h) }

pub still_left : (d e : FarSide) (lie : Lie) (n : ℕ) → NoMore d e → IsLeft lie d n → IsLeft lie e n
still_left d e Never n x h = x.fails n h
still_left d e _ n x h = (x.fails 0 h.0, x.lies n h.1)

-- ---- a call that fails
-- it was the one that was to
failed_last : {A : Type 0} (d e : FarSide) (answer : Result A DeviceFault) (asked : Type 0) → Passed d answer e asked → answer ≡ Err Device → (asked → ⊥) → (d.inner.left ≡ 1) × (e.inner.left ≡ 0)
failed_last d e answer asked h failed never = by (d.inner.left == 1) refl h where
  by : (b : Bool) → (d.inner.left == 1) ≡ b → cond b (IsFailed d.inner.own d.inner.inner answer e.inner.left e.inner.own e.inner.inner) (IsPassedOn d.inner.left d.inner.own e.inner.left e.inner.own asked) →
      (d.inner.left ≡ 1) × (e.inner.left ≡ 0)
  by true is h = (eqb-true d.inner.left 1 is, h.2)
  by false is h = absurd (never h.0)

pub none_left : (left : ℕ) → left ≡ 1 → MayFail left (λ k. Unit {0}) 0 → ⊥
none_left left one h = subst (λ k. MayFail k (λ x. Unit {0}) 0) one h

-- so one less is to come, of a device that doesn't lie; of one that lies none was
pub failed_spends : {A : Type 0} (d e : FarSide) (answer : Result A DeviceFault) (asked : Type 0) → Passed d answer e asked → answer ≡ Err Device → (asked → ⊥) → (lie : Lie) → IsLeft lie d 0 → ⊥
failed_spends d e answer asked h failed never Never few = none_left d.inner.left (failed_last d e answer asked h failed never).0 few
failed_spends d e answer asked h failed never _ few = none_left d.inner.left (failed_last d e answer asked h failed never).0 few.0

pub failed_leaves : {A : Type 0} (d e : FarSide) (answer : Result A DeviceFault) (asked : Type 0) → Passed d answer e asked → answer ≡ Err Device → (asked → ⊥) → (lie : Lie) (n : ℕ) → IsLeft lie d (suc n) → (lie ≡ Never) × IsLeft Never e n
failed_leaves d e answer asked h failed never Never n few = (refl, subst (λ k. MayFail k (λ x. Unit {0}) n) (sym (failed_last d e answer asked h failed never).1) tt)
failed_leaves d e answer asked h failed never _ n few = absurd (none_left d.inner.left (failed_last d e answer asked h failed never).0 few.0)

-- ---- what a read of something gave
-- what is there, or the lie that it is
pub read_gives : (d e : FarSide) (id : ℕ) (held bytes : List ℕ) → bytes_at d.inner.inner id ≡ Some held → FarReads d id (Ok bytes) e → bytes ≡ cond (d.left == 1) (lied d.lie held) held
read_gives d e id held bytes there (Err why, passed, is, lie, left) = let odd : read_bytes bytes ≡ read_fault why = is in absurd cc
read_gives d e id held bytes there (Ok raw, passed, is, lie, left) =
    let on = passed_on d e (Ok raw) _ passed (λ odd. let no : read_bytes raw ≡ read_fault Device = odd in absurd cc) in
    let same : raw ≡ held = some_is raw held (sym on.0.0 ∙ there) in
    ok_is bytes _ is ∙ ap (λ x. cond (d.left == 1) (lied d.lie x) x) same
  where
    some_is : (x y : List ℕ) → Some x ≡ Some y → x ≡ y
    some_is x y e = cc

    ok_is : (x y : List ℕ) → read_bytes x ≡ read_bytes y → x ≡ y
    ok_is x y e = cc

-- ---- a write that was done
pub written_there : (d e : FarSide) (id : ℕ) (bytes : List ℕ) → FarWrites d id bytes (Ok tt) e → (bytes_at e.inner.inner id ≡ Some bytes) × ((q : ℕ) → q ≢ id → bytes_at e.inner.inner q ≡ bytes_at d.inner.inner q)
written_there d e id bytes h = let on = passed_on d e write_done _ h.0 (λ odd. let no : write_done ≡ write_fault Device = odd in absurd cc) in (on.0.0, on.0.1)

-- and one that was refused: under each key is what was there
pub refused_there : (d e : FarSide) (id : ℕ) (bytes : List ℕ) (why : DeviceFault) → FarWrites d id bytes (Err why) e → (q : ℕ) → bytes_at e.inner.inner q ≡ bytes_at d.inner.inner q
refused_there d e id bytes why h q = by (d.inner.left == 1) h.0 where
  by : (b : Bool) → cond b (IsFailed d.inner.own d.inner.inner (write_fault why) e.inner.left e.inner.own e.inner.inner) (IsPassedOn d.inner.left d.inner.own e.inner.left e.inner.own (MemWrites d.inner.inner id bytes (Err why) e.inner.inner)) →
      bytes_at e.inner.inner q ≡ bytes_at d.inner.inner q
  by true failed = ap (λ m. bytes_at m q) failed.1
  by false on = ap (λ (held : ℕ → Option (List ℕ)). held q) on.0.1

-- a read leaves what is there under each key, whatever it gave
mem_read_leaves : (d e : MemDevice) (id : ℕ) (raw : ReadAnswer) → MemReads d id raw e → bytes_at e ≡ bytes_at d
mem_read_leaves d e id (Ok bytes) h = h.1
mem_read_leaves d e id (Err Memory) h = h.1
mem_read_leaves d e id (Err Device) h = h.1

passed_read_leaves : (d e : FarSide) (id : ℕ) (raw : ReadAnswer) → Passed d raw e (MemReads d.inner.inner id raw e.inner.inner) → (q : ℕ) → bytes_at e.inner.inner q ≡ bytes_at d.inner.inner q
passed_read_leaves d e id raw h q = by (d.inner.left == 1) h where
  by : (b : Bool) → cond b (IsFailed d.inner.own d.inner.inner raw e.inner.left e.inner.own e.inner.inner) (IsPassedOn d.inner.left d.inner.own e.inner.left e.inner.own (MemReads d.inner.inner id raw e.inner.inner)) →
      bytes_at e.inner.inner q ≡ bytes_at d.inner.inner q
  by true failed = ap (λ m. bytes_at m q) failed.1
  by false on = ap (λ (held : ℕ → Option (List ℕ)). held q) (mem_read_leaves d.inner.inner e.inner.inner id raw on.0)

pub read_leaves : (d e : FarSide) (id : ℕ) (answer : Result (List ℕ) DeviceFault) → FarReads d id answer e → (q : ℕ) → bytes_at e.inner.inner q ≡ bytes_at d.inner.inner q
read_leaves d e id answer (raw, passed, is, lie, left) q = passed_read_leaves d e id raw passed q

-- a read of something fails only as the call that is to
pub read_failed : (d e : FarSide) (id : ℕ) (held : List ℕ) → bytes_at d.inner.inner id ≡ Some held → FarReads d id (Err Device) e →
    Passed d (read_fault Device) e (MemReads d.inner.inner id (Err Device) e.inner.inner) × (MemReads d.inner.inner id (Err Device) e.inner.inner → ⊥)
read_failed d e id held there (Ok raw, passed, is, lie, left) = let odd : read_fault Device ≡ read_bytes (cond (d.left == 1) (lied d.lie raw) raw) = is in absurd cc
read_failed d e id held there (Err why, passed, is, lie, left) =
    let same : why ≡ Device = err_is why is in (
      subst (λ (w : DeviceFault). Passed d (read_fault w) e (MemReads d.inner.inner id (Err w) e.inner.inner)) same passed,
      λ nothing. let odd : None ≡ Some held = sym nothing.0 ∙ there in absurd cc,
    )
  where
    err_is : (w : DeviceFault) → read_fault Device ≡ read_fault w → w ≡ Device
    err_is w e = cc
