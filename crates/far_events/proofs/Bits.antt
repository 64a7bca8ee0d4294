-- Rows of bits: one is set, a part is cleared.
use Rattle.std.proofs.Common.{◌≡◌, ◌≢◌, ℕ, ◌/◌, ◌%◌, ◌*◌, ◌^◌, ◌-◌, ◌<◌, ◌≤◌, ◌∙◌, Bool, true, false, cond, nat_eq, arith, ap, sym, refl, inl, inr, List, length, get_or, set, w64}
use Rattle.std.specs.Prelude.{◌==◌, bit_and, bit_or}
use Rattle.std.specs.Int.{bit_at}
use Rattle.std.specs.Vec.{vec_len}
use Rattle.std.proofs.lemmas.Bool.{cases_eq, cases_lt, eq-eqb, false≢true, ne_eqb}
use Rattle.std.proofs.lemmas.List.{get_or_past, get_or-set_same, get_or-set_other}
use Rattle.std.proofs.lemmas.Nat.Bits.{bit_at_set_same, bit_at_set_other, bit_at-zero, shr_and_one}
use mathlib.Core.Path.{fun_ext}
use Rattle.far_events.specs.declared.memory.bits.Bits.{Bits}
use Rattle.far_events.specs.state.Bits.{bit_in, word_bit}
use Rattle.far_events.specs.state.State.{put}
use Rattle.far_events.proofs.Put.{put_same, put_other}

-- what is read of a word
pub bit_read : (words : List ℕ) (b w : ℕ) → w ≡ get_or words (b / 64) 0 → nat_eq (bit_and (w / 2 ^ (b % 64)) 1) 1 ≡ word_bit words b
bit_read words b w is = ap (λ n. nat_eq n 1) (shr_and_one w (b % 64)) ∙ ap (λ n. nat_eq (bit_at n (b % 64)) 1) is

-- no bit of 0 is set
pub zero_bit : (i : ℕ) → nat_eq (bit_at 0 i) 1 ≡ false
zero_bit i = ne_eqb (bit_at 0 i) 1 (λ h. omega (arith, h, bit_at-zero i))

pub none_set : (words : List ℕ) → ((i : ℕ) → get_or words i 0 ≡ 0) → word_bit words ≡ (λ _. false)
none_set words zeros = fun_ext (λ b. ap (λ n. nat_eq (bit_at n (b % 64)) 1) (zeros (b / 64)) ∙ zero_bit (b % 64))

pub past_unset : (words : List ℕ) (b : ℕ) → 64 * length words ≤ b → word_bit words b ≡ false
past_unset words b le = ap (λ n. nat_eq (bit_at n (b % 64)) 1) (get_or_past words (b / 64) 0 (omega (arith, le))) ∙ zero_bit (b % 64)

-- the word of bit b is another
module _ (words : List ℕ) (b v : ℕ) (inside : b / 64 < length words) where
  at_same : (q : ℕ) → q / 64 ≡ b / 64 → get_or (set words (b / 64) v) (q / 64) 0 ≡ v
  at_same q e = ap (λ i. get_or (set words (b / 64) v) i 0) e ∙ get_or-set_same words (b / 64) v 0 inside

  at_other : (q : ℕ) → q / 64 ≢ b / 64 → get_or (set words (b / 64) v) (q / 64) 0 ≡ get_or words (q / 64) 0
  at_other q ne = get_or-set_other words (b / 64) (q / 64) v 0 ne

  pub bits_put : (x : Bool) → nat_eq (bit_at v (b % 64)) 1 ≡ x → ((i : ℕ) → i < 64 → i ≢ b % 64 → bit_at v i ≡ bit_at (get_or words (b / 64) 0) i) →
      word_bit (set words (b / 64) v) ≡ put (word_bit words) b x
  bits_put x here others = fun_ext (λ q. elim (cases_eq q b) [
    | inl e ↦ ap (λ n. nat_eq (bit_at n (q % 64)) 1) (at_same q (ap (λ i. i / 64) e)) ∙ ap (λ i. nat_eq (bit_at v (i % 64)) 1) e ∙ here ∙ sym (put_same (word_bit words) b x q e)
    | inr ne ↦ elim (cases_eq (q / 64) (b / 64)) [
      | inl e ↦ ap (λ n. nat_eq (bit_at n (q % 64)) 1) (at_same q e) ∙ ap (λ y. nat_eq y 1) (others (q % 64) (omega arith) (λ f. ne (omega (arith, e, f))))
          ∙ ap (λ i. nat_eq (bit_at (get_or words i 0) (q % 64)) 1) (sym e) ∙ sym (put_other (word_bit words) b x q ne)
      | inr apart ↦ ap (λ n. nat_eq (bit_at n (q % 64)) 1) (at_other q apart) ∙ sym (put_other (word_bit words) b x q ne)
    ]
  ])

module _ (words : List ℕ) (b w : ℕ) (inside : b / 64 < length words) (is : w ≡ get_or words (b / 64) 0) where
  small : b % 64 < 64
  small = omega arith

  pub bit_set : word_bit (set words (b / 64) (bit_or w (1 * 2 ^ (b % 64) % 2 ^ 64))) ≡ put (word_bit words) b true
  bit_set = bits_put words b _ inside true (eq-eqb _ 1 (bit_at_set_same w64 w (b % 64) small)) (λ i lt ne. bit_at_set_other w64 w (b % 64) small i ne ∙ ap (λ n. bit_at n i) is)

-- the words of a part are 0
pub part_cleared : (words new : List ℕ) (n m : ℕ) → ◌≡◌ {A = ℕ → ℕ} (λ q. get_or new q 0) (λ q. cond (q / n == m) 0 (get_or words q 0)) →
    word_bit new ≡ (λ b. cond (b / 64 / n == m) false (word_bit words b))
part_cleared words new n m is = fun_ext (λ b. ap (λ (f : ℕ → ℕ). nat_eq (bit_at (f (b / 64)) (b % 64)) 1) is ∙ cleared_at b (b / 64 / n == m)) where
  cleared_at : (b : ℕ) (in_part : Bool) → nat_eq (bit_at (cond in_part 0 (get_or words (b / 64) 0)) (b % 64)) 1 ≡ cond in_part false (word_bit words b)
  cleared_at b true = zero_bit (b % 64)
  cleared_at b false = refl

-- the same by another number of the part
pub part_by : (f : ℕ → Bool) (m : ℕ) (g h : ℕ → ℕ) → ((b : ℕ) → g b ≡ h b) → ◌≡◌ {A = ℕ → Bool} (λ b. cond (g b == m) false (f b)) (λ b. cond (h b == m) false (f b))
part_by f m g h same = fun_ext (λ b. ap (λ k. cond (k == m) false (f b)) (same b))

pub past_bits : (bits : Bits) (b : ℕ) → 64 * vec_len bits.words ≤ b → bit_in bits b ≡ false
unfolding bit_in
past_bits bits b le = past_unset bits.words.items b (omega (arith, le, bits.words.ok.0))

-- what is set lies within the row
pub within_bits : (bits : Bits) (b : ℕ) → bit_in bits b ≡ true → b < 64 * vec_len bits.words
within_bits bits b on = elim (cases_lt b (64 * vec_len bits.words)) [
  | inl lt ↦ lt
  | inr le ↦ absurd (false≢true (sym (past_bits bits b le) ∙ on))
]
