-- What a row says of each key once what it says of one is set.
use Rattle.std.proofs.Common.{◌≡◌, ◌≢◌, ◌<◌, ◌≤◌, ◌⊎◌, inl, inr, ap, refl, ℕ, zero, suc, List, [], ◌∷◌, length, Some, arith}
use Rattle.std.proofs.Math.ListN.{set}
use Rattle.std.specs.List.{slice_get}
use Rattle.std.specs.Option.{option_and_then}
use Rattle.far_file.specs.Entry.{len_in}
use Rattle.far_file.specs.Row.{entry_in, known, ChangesAt}
use Rattle.far_file.specs.declared.held.Held.{Held}
use Rattle.far_file.specs.declared.place.TheConstants.{SLOT}
use Rattle.far_file.specs.declared.seal.Seal.{Ghosts}

-- a place of a list that is set is the one or another
abbrev SetAt : {A : Type 0} → List A → ℕ → ℕ → A → Type 0
SetAt xs i q y = ((q ≡ i) × (slice_get (set xs i y) q ≡ Some y)) ⊎ ((q ≢ i) × (slice_get (set xs i y) q ≡ slice_get xs q))

behind : {A : Type 0} (x : A) (xs : List A) (i q : ℕ) (y : A) → SetAt xs i q y → SetAt (x ∷ xs) (suc i) (suc q) y
behind x xs i q y (inl own) = inl (ap suc own.0, own.1)
behind x xs i q y (inr other) = inr ((λ same. other.0 (omega (arith, same))), other.1)

set_at : {A : Type 0} (xs : List A) (i q : ℕ) (y : A) → i < length xs → SetAt xs i q y
set_at [] i q y within = absurd (omega arith)
set_at (x ∷ xs) zero zero y within = inl (refl, refl)
set_at (x ∷ xs) zero (suc q) y within = inr ((λ same. omega (arith, same)), refl)
set_at (x ∷ xs) (suc i) zero y within = inr ((λ same. omega (arith, same)), refl)
set_at (x ∷ xs) (suc i) (suc q) y within = behind x xs i q y (set_at xs i q y (omega arith))

module _ {L : Type 0} {l : Ghosts L} where
  by_place : (row : List (Held L l)) (id q : ℕ) (held : Held L l) → SetAt row id q held → ((q ≡ id) × (entry_in (set row id held) q ≡ known held)) ⊎ ((q ≢ id) × (entry_in (set row id held) q ≡ entry_in row q))
  by_place row id q held (inl here) = inl (here.0, ap (λ found. option_and_then (λ it. known it) found) here.1)
  by_place row id q held (inr there) = inr (there.0, ap (λ found. option_and_then (λ it. known it) found) there.1)

  pub changed : (row : List (Held L l)) (id : ℕ) (held : Held L l) → id < length row → ChangesAt (entry_in row) (entry_in (set row id held)) id (known held)
  changed row id held below q = by_place row id q held (set_at row id q held below)

  -- an entry of few enough bytes is one, and no other is
  pub is_known : (held : Held L l) → (len_in held) ≤ SLOT → known held ≡ Some held
  is_known held few = grind arith
