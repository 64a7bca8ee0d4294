-- What calls leave of a device, and what faults they count.
use Rattle.std.specs.Prelude.{◌≡◌, ◌≢◌, ℕ, Bool, List, Option}
use Rattle.std.specs.List.{AllByRecursion}
use Rattle.far_device.specs.Faults.{CountsFault, SpendsFault}

-- the keys that are left alone: every one; all but one; all but these
abbrev pub any_key : ℕ → Type 0
any_key q = Unit {0}

abbrev pub other_than : ℕ → ℕ → Type 0
other_than id q = q ≢ id

abbrev pub none_of : List ℕ → ℕ → Type 0
none_of keys q = AllByRecursion (λ key. key ≢ q) keys

-- a device after calls: under the keys that are left alone is what was there, and it is as honest as it was; where one of the calls was a fault the count of faults has changed,
-- and one less is still to come; where none was the count is the same, and no more are to come
pub record Follows {D : Type 0} (contents : D → ℕ → Option (List ℕ)) (is_honest : D → Bool) (faults : D → ℕ) (fails_at_most : D → ℕ → Type 0)
    (alone : ℕ → Type 0) (fault : Bool) (old new : D) : Type 0 where
  pub others : (q : ℕ) → alone q → contents new q ≡ contents old q
  pub honest : is_honest new ≡ is_honest old
  pub counted : CountsFault fault (faults old) (faults new)
  pub spent : SpendsFault fault (fails_at_most old) (fails_at_most new)
