-- Words that are those of another place, and what padding at the end says of all words.
use Rattle.std.proofs.Common.{◌≡◌, ◌≢◌, ℕ, ◌+◌, ◌-◌, ◌*◌, ◌^◌, ◌<◌, ◌≤◌, true, false, arith, nat_eq, zero, suc, inl, inr, sym, subst, refl}
use Rattle.std.proofs.lemmas.Bool.Decides.{nat_tests}
use Rattle.std.proofs.lemmas.Bool.{cases_eq, ne_eqb, eq-eqb, and_right, and_left}
use lib.Pow.{pow_mono}
use Rattle.far_word.specs.declared.pointer.Place.{Place}
use Rattle.far_word.specs.Sizes.{words_for}
use Rattle.far_events.specs.events.Copies.{Alike, alike, data_at, EndsPadded}
use Rattle.far_events.specs.state.Law.{Padded}
use Rattle.far_events.specs.state.State.{addr}

pub alike_not : (f g : ℕ → ℕ) (n k : ℕ) → k < n → f k ≢ g k → alike f g n ≡ false
alike_not f g zero k lt ne = absurd (omega arith)
alike_not f g (suc n) k lt ne = elim (cases_eq k n) [
  | inl e ↦ and_right _ _ (ne_eqb (f n) (g n) (λ h. ne (rw e h)))
  | inr other ↦ and_left _ _ (alike_not f g n k (omega arith) ne)
]

pub alike_fact : (f g : ℕ → ℕ) (n : ℕ) → alike f g n ≡ true → Alike f g n
alike_fact f g zero h i lt = omega arith
alike_fact f g (suc n) h i lt = elim (cases_eq i n) [
  | inl e ↦ (let here : f n ≡ g n = grind (arith, nat_tests) in rw e here)
  | inr ne ↦ alike_fact f g n (grind (arith, nat_tests)) i (omega arith)
]

pub alike_test : (f g : ℕ → ℕ) (n : ℕ) → Alike f g n → alike f g n ≡ true
alike_test f g zero h = refl
alike_test f g (suc n) h =
    let before : alike f g n ≡ true = alike_test f g n (λ i lt. h i (omega arith)) in
    let here : nat_eq (f n) (g n) ≡ true = eq-eqb (f n) (g n) (h n (omega arith)) in
    rw (before, here) refl

-- a word before the last has 64 bits, and may have
wide : (n i : ℕ) → i < words_for n - 1 → 2 ^ 64 ≤ 2 ^ (8 * (n - 8 * i))
wide n i lt = let h : 64 ≤ 8 * (n - 8 * i) = omega arith in pow_mono h

pub padded_all : (word : ℕ → ℕ) → ((a : ℕ) → word a < 2 ^ 64) → (len : ℕ) (place : Place) → 0 < len → EndsPadded word len place → Padded word (addr place) len
padded_all word fits len place some ends i lt = elim (cases_eq i (words_for len - 1)) [
  | inl e ↦ subst (λ k. data_at word place k < 2 ^ (8 * (len - 8 * k))) (sym e) ends
  | inr ne ↦ (let low : word (addr place + 1 + i) < 2 ^ 64 = fits (addr place + 1 + i) in
      let more : 2 ^ 64 ≤ 2 ^ (8 * (len - 8 * i)) = wide len i (omega arith) in omega arith)
]
