-- What is said of a device that is one of two.
use Rattle.std.specs.Prelude.{ℕ, ◌^◌, ◌<◌, Bool, false, List, Option, IsSome, Result}
use Rattle.far_device.specs.Faults.{is_fault}
use Rattle.far_device.specs.Following.{Follows, any_key, other_than}
use Rattle.far_device.specs.declared.fault.DeviceFault.{DeviceFault}
use Rattle.far_reserved.specs.declared.either.EitherDevice.{EitherDevice}
use Rattle.far_reserved.specs.declared.either.EitherDevice.TheVariants.{First, Second}

module _ {A B : Type 0} where
  -- what the one that it is has
  abbrev pub either : {X : Type 0} → (A → X) → (B → X) → EitherDevice A B → X
  either f g (First s) = f s
  either f g (Second s) = g s

  -- of how many faults to come it says so
  abbrev pub most : (A → ℕ → Type 0) → (B → ℕ → Type 0) → EitherDevice A B → ℕ → Type 0
  most f g (First s) n = f s n
  most f g (Second s) n = g s n

  -- what a call makes of it: it stays of its kind
  abbrev pub both : (A → A → Type 0) → (B → B → Type 0) → EitherDevice A B → EitherDevice A B → Type 0
  both p q (First s) (First t) = p s t
  both p q (Second s) (Second t) = q s t
  both p q (First s) (Second t) = ⊥
  both p q (Second s) (First t) = ⊥

  pub each_below : (f : A → ℕ) (g : B → ℕ) → ((s : A) → f s < 2 ^ 64) → ((s : B) → g s < 2 ^ 64) → (s : EitherDevice A B) → either f g s < 2 ^ 64
  each_below f g p q (First s) = p s
  each_below f g p q (Second s) = q s

  module _ (ca : A → ℕ → Option (List ℕ)) (ha : A → Bool) (fa : A → ℕ) (ma : A → ℕ → Type 0) (cb : B → ℕ → Option (List ℕ)) (hb : B → Bool) (fb : B → ℕ) (mb : B → ℕ → Type 0) where
    pub write_leaves : (id : ℕ) {R : Type 0} (answer : Result R DeviceFault) (P : A → A → Type 0) (Q : B → B → Type 0)
        → ((s t : A) → P s t → Follows ca ha fa ma (other_than id) (is_fault answer) s t) → ((s t : B) → Q s t → Follows cb hb fb mb (other_than id) (is_fault answer) s t)
        → (s t : EitherDevice A B) → both P Q s t → Follows (either ca cb) (either ha hb) (either fa fb) (most ma mb) (other_than id) (is_fault answer) s t
    write_leaves id answer P Q p q (First s) (First t) h = let was = p s t h in record { others = was.others; honest = was.honest; counted = was.counted; spent = was.spent }
    write_leaves id answer P Q p q (Second s) (Second t) h = let was = q s t h in record { others = was.others; honest = was.honest; counted = was.counted; spent = was.spent }
    write_leaves id answer P Q p q (First s) (Second t) h = absurd h
    write_leaves id answer P Q p q (Second s) (First t) h = absurd h

    pub forget_leaves : (id : ℕ) (P : A → A → Type 0) (Q : B → B → Type 0)
        → ((s t : A) → P s t → Follows ca ha fa ma (other_than id) false s t) → ((s t : B) → Q s t → Follows cb hb fb mb (other_than id) false s t)
        → (s t : EitherDevice A B) → both P Q s t → Follows (either ca cb) (either ha hb) (either fa fb) (most ma mb) (other_than id) false s t
    forget_leaves id P Q p q (First s) (First t) h = let was = p s t h in record { others = was.others; honest = was.honest; counted = was.counted; spent = was.spent }
    forget_leaves id P Q p q (Second s) (Second t) h = let was = q s t h in record { others = was.others; honest = was.honest; counted = was.counted; spent = was.spent }
    forget_leaves id P Q p q (First s) (Second t) h = absurd h
    forget_leaves id P Q p q (Second s) (First t) h = absurd h

    pub read_leaves : (id : ℕ) {R : Type 0} (answer : Result R DeviceFault) (P : A → A → Type 0) (Q : B → B → Type 0)
        → ((s t : A) → P s t → Follows ca ha fa (λ d n. IsSome (ca s id) × ma d n) any_key (is_fault answer) s t)
        → ((s t : B) → Q s t → Follows cb hb fb (λ d n. IsSome (cb s id) × mb d n) any_key (is_fault answer) s t)
        → (s t : EitherDevice A B) → both P Q s t
        → Follows (either ca cb) (either ha hb) (either fa fb) (λ d n. IsSome (either ca cb s id) × most ma mb d n) any_key (is_fault answer) s t
    read_leaves id answer P Q p q (First s) (First t) h = let was = p s t h in record { others = was.others; honest = was.honest; counted = was.counted; spent = was.spent }
    read_leaves id answer P Q p q (Second s) (Second t) h = let was = q s t h in record { others = was.others; honest = was.honest; counted = was.counted; spent = was.spent }
    read_leaves id answer P Q p q (First s) (Second t) h = absurd h
    read_leaves id answer P Q p q (Second s) (First t) h = absurd h
