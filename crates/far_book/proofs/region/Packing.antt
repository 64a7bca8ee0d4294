-- Words of bytes have zeros after the last byte.
use Rattle.std.proofs.Common.{◌≡◌, ℕ, zero, suc, ◌+◌, ◌-◌, ◌*◌, ◌<◌, ◌≤◌, ◌^◌, arith, List, length, get_or}
use Rattle.std.proofs.lemmas.List.{get_or_past}
use lib.Pow.{pow_mono}
use Rattle.far_word.specs.Bytes.{packed_word, word_at}
use Rattle.far_word.specs.Sizes.{words_for}

-- a word of eight bytes is 64 bits wide
pub word_wide : (byte : ℕ → ℕ) (i : ℕ) → ((k : ℕ) → byte k < 256) → word_at byte i < 2 ^ 64
word_wide byte i small = omega (arith, small (8 * i), small (8 * i + 1), small (8 * i + 2), small (8 * i + 3), small (8 * i + 4), small (8 * i + 5), small (8 * i + 6), small (8 * i + 7))

-- a word of r bytes and zeros is 8 * r bits wide
pub part_wide : (byte : ℕ → ℕ) (i r : ℕ) → ((k : ℕ) → byte k < 256) → ((k : ℕ) → 8 * i + r ≤ k → byte k ≡ 0) → 0 < r → word_at byte i < 2 ^ (8 * r)
part_wide byte i zero small none some = absurd (omega arith)
part_wide byte i (suc zero) small none some = omega (arith, small (8 * i), none (8 * i + 1) (omega arith), none (8 * i + 2) (omega arith), none (8 * i + 3) (omega arith), none (8 * i + 4) (omega arith), none (8 * i + 5) (omega arith), none (8 * i + 6) (omega arith), none (8 * i + 7) (omega arith))
part_wide byte i (suc (suc zero)) small none some = omega (arith, small (8 * i), small (8 * i + 1), none (8 * i + 2) (omega arith), none (8 * i + 3) (omega arith), none (8 * i + 4) (omega arith), none (8 * i + 5) (omega arith), none (8 * i + 6) (omega arith), none (8 * i + 7) (omega arith))
part_wide byte i (suc (suc (suc zero))) small none some = omega (arith, small (8 * i), small (8 * i + 1), small (8 * i + 2), none (8 * i + 3) (omega arith), none (8 * i + 4) (omega arith), none (8 * i + 5) (omega arith), none (8 * i + 6) (omega arith), none (8 * i + 7) (omega arith))
part_wide byte i (suc (suc (suc (suc zero)))) small none some = omega (arith, small (8 * i), small (8 * i + 1), small (8 * i + 2), small (8 * i + 3), none (8 * i + 4) (omega arith), none (8 * i + 5) (omega arith), none (8 * i + 6) (omega arith), none (8 * i + 7) (omega arith))
part_wide byte i (suc (suc (suc (suc (suc zero))))) small none some = omega (arith, small (8 * i), small (8 * i + 1), small (8 * i + 2), small (8 * i + 3), small (8 * i + 4), none (8 * i + 5) (omega arith), none (8 * i + 6) (omega arith), none (8 * i + 7) (omega arith))
part_wide byte i (suc (suc (suc (suc (suc (suc zero)))))) small none some = omega (arith, small (8 * i), small (8 * i + 1), small (8 * i + 2), small (8 * i + 3), small (8 * i + 4), small (8 * i + 5), none (8 * i + 6) (omega arith), none (8 * i + 7) (omega arith))
part_wide byte i (suc (suc (suc (suc (suc (suc (suc zero))))))) small none some = omega (arith, small (8 * i), small (8 * i + 1), small (8 * i + 2), small (8 * i + 3), small (8 * i + 4), small (8 * i + 5), small (8 * i + 6), none (8 * i + 7) (omega arith))
part_wide byte i (suc (suc (suc (suc (suc (suc (suc (suc r)))))))) small none some =
    let more : 2 ^ 64 ≤ 2 ^ (8 * suc (suc (suc (suc (suc (suc (suc (suc r)))))))) = (let h : 64 ≤ 8 * suc (suc (suc (suc (suc (suc (suc (suc r))))))) = omega arith in pow_mono h) in
    let low : word_at byte i < 2 ^ 64 = word_wide byte i small in
    omega (arith, more, low)

-- a word of bytes leaves zeros behind their end
pub packed_padded : (bytes : List ℕ) (len i : ℕ) → ((k : ℕ) → get_or bytes k 0 < 256) → length bytes ≡ len → i < words_for len → packed_word bytes i < 2 ^ (8 * (len - 8 * i))
packed_padded bytes len i small long lt =
    part_wide (λ k. get_or bytes k 0) i (len - 8 * i) small (λ k past. get_or_past bytes k 0 (omega arith)) (omega arith)

-- so is each word of bytes
pub packed_wide : (bytes : List ℕ) → ((k : ℕ) → get_or bytes k 0 < 256) → (i : ℕ) → packed_word bytes i < 2 ^ 64
packed_wide bytes small i = word_wide (λ k. get_or bytes k 0) i small
