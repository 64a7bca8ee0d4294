-- Words that are packed from bytes, and words that are copied.
use Rattle.std.proofs.Common.{◌≡◌, ℕ, zero, suc, ◌+◌, ◌*◌, ◌<◌, ◌≤◌, ◌^◌, arith, ap, List, take, get_or}
use Rattle.std.proofs.lemmas.List.{get_or-take}
use Rattle.far_word.specs.Bytes.{packed_word}
use Rattle.far_events.specs.events.Ranges.{with_copy}
use Rattle.far_events.specs.state.State.{put}

-- ---- bytes packed
-- the words of the first bytes are those of all
pub packs_front : (bs : List ℕ) (m i : ℕ) → 8 * i + 8 ≤ m → packed_word (take m bs) i ≡ packed_word bs i
packs_front bs m i inside =
    omega (arith, at 0 (omega arith), at 1 (omega arith), at 2 (omega arith), at 3 (omega arith), at 4 (omega arith), at 5 (omega arith), at 6 (omega arith), at 7 (omega arith), first, first_whole) where
      at : (k : ℕ) → k < 8 → get_or (take m bs) (8 * i + k) 0 ≡ get_or bs (8 * i + k) 0
      at k lt = get_or-take m bs (8 * i + k) 0 (omega arith)

      none : 8 * i + 0 ≡ 8 * i
      none = omega arith

      first : get_or (take m bs) (8 * i + 0) 0 ≡ get_or (take m bs) (8 * i) 0
      first = ap (λ k. get_or (take m bs) k 0) none

      first_whole : get_or bs (8 * i + 0) 0 ≡ get_or bs (8 * i) 0
      first_whole = ap (λ k. get_or bs k 0) none

-- eight bytes make a word
pub packed_fits : (bs : List ℕ) (i : ℕ) → ((k : ℕ) → get_or bs k 0 < 2 ^ 8) → packed_word bs i < 2 ^ 64
packed_fits bs i small = omega (arith, small (8 * i), small (8 * i + 1), small (8 * i + 2), small (8 * i + 3), small (8 * i + 4), small (8 * i + 5), small (8 * i + 6), small (8 * i + 7))

-- ---- words copied
-- the first word, and then the others
pub copy_first : (word : ℕ → ℕ) (a b n : ℕ) → with_copy (put word b (word a)) (a + 1) (b + 1) n ≡ with_copy word a b (suc n)
copy_first word a b zero = let source : a ≡ a + 0 = omega arith in let target : b ≡ b + 0 = omega arith in (λ i. put word (target i) (word (source i)))
copy_first word a b (suc n) =
    let source : a + 1 + n ≡ a + suc n = omega arith in
    let target : b + 1 + n ≡ b + suc n = omega arith in
    let rest = copy_first word a b n in (λ i. put (rest i) (target i) (rest i (source i)))
