-- What a buffer has of bytes when more are put behind them.
use Rattle.std.proofs.Common.{◌≡◌, ◌≤◌, ◌<◌, ◌+◌, ◌%◌, ◌==◌, ◌&&◌, nat_lt, nat_le, ◌∙◌, ap, sym, ℕ, zero, suc, List, [], ◌∷◌, ◌++◌, length, take, drop, false, true, None, Some, cond, Vec, arith, length-take-le}
use Rattle.std.specs.List.{list_all}
use Rattle.std.specs.Vec.{with_items}
use Rattle.std.proofs.lemmas.Bool.{and_parts, eqb-true, leb-true}
use Rattle.std.proofs.lemmas.Bool.Decides.{Decides-ltb}
use Rattle.std.proofs.lemmas.List.{length-drop, take_all, take_at, take-take, with_items_is}
use Rattle.hex.specs.Hex.{IsBytes, is_hex_digit}
use Rattle.hex.proofs.HexLemmas.{decode_of-ok}
use borrow.Rule.Slice.PartMut.{put_mid, post_of}
use Rattle.far_text.specs.Grammar.{bytes_in}
use Rattle.far_text.specs.HexWord.{hex_bytes}
use Rattle.far_text.specs.declared.hex_word.TheConstants.{LONGEST_LINE}
use Rattle.far_text.proofs.HexLemmas.{hex_is_spelled}
use Rattle.far_text.proofs.Parts.{put_length}
use Rattle.far_text.proofs.RecordLemmas.{put_in_front}

pub take_self : (xs : List ℕ) → take (length xs) xs ≡ xs
take_self xs = take_all (length xs) xs (omega arith)

-- bytes behind bytes
pub appended_bytes : (xs ys : List ℕ) → IsBytes xs → IsBytes ys → IsBytes (xs ++ ys)
appended_bytes [] ys first last i = last i
appended_bytes (x ∷ xs) ys first last zero = first zero
appended_bytes (x ∷ xs) ys first last (suc i) = appended_bytes xs ys (λ j. first (suc j)) last i

pub one_byte : (byte : ℕ) → byte < 256 → IsBytes (byte ∷ [])
one_byte byte small zero = small
one_byte byte small (suc i) = omega arith

pub spelled_bytes : (w bytes : List ℕ) → bytes_in w ≡ Some bytes → IsBytes bytes
spelled_bytes w bytes e = (decode_of-ok w bytes (hex_is_spelled w bytes e).0).3

-- what the length of a word in hex is, and that no other is one
pub hex_len : (w : List ℕ) → true ≡ (nat_lt 0 (length w) && nat_le (length w) LONGEST_LINE && (length w % 2 == 0)) → (0 < length w) × (length w ≤ LONGEST_LINE) × (length w % 2 ≡ 0)
hex_len w e =
    let all = and_parts (nat_lt 0 (length w) && nat_le (length w) LONGEST_LINE) (length w % 2 == 0) (sym e) in
    let ends = and_parts (nat_lt 0 (length w)) (nat_le (length w) LONGEST_LINE) all.0 in
    ((Decides-ltb 0 (length w)).0 ends.0, leb-true (length w) LONGEST_LINE ends.1, eqb-true (length w % 2) 0 all.1)

pub not_hex_len : (w : List ℕ) → false ≡ (nat_lt 0 (length w) && nat_le (length w) LONGEST_LINE && (length w % 2 == 0)) → bytes_in w ≡ None
not_hex_len w e = ap (λ is. cond (is && list_all is_hex_digit w) (Some (hex_bytes w)) None) (sym e)

-- the front of a buffer that was made longer
pub front_stays : (len : ℕ) (old new : List ℕ) → take (length old) new ≡ old → len ≤ length old → take len new ≡ take len old
front_stays len old new kept inside = sym (take-take len (length old) new inside) ∙ ap (take len) kept

pub part_length : (len n : ℕ) (buffer : List ℕ) → len + n ≤ length buffer → length (take n (drop len buffer)) ≡ n
part_length len n buffer fits = length-take-le n (drop len buffer) (omega (arith, length-drop len buffer))

-- a buffer into which bytes were put behind its first ones
pub record PutBehind (len n : ℕ) (old new now : List ℕ) (many : ℕ) : Type 0 where
  pub front : take len now ≡ take len old
  pub all : take (len + n) now ≡ take len old ++ new
  pub long : length now ≡ many

pub put_behind : {Z : Type 0} (len n : ℕ) (old : List ℕ) (v : Vec ℕ Z) (buffer new : List ℕ) → take (length old) v.items ≡ old → buffer ≡ v.items → len ≤ length old → len + n ≤ length v.items → length new ≡ n →
    PutBehind len n old new (with_items v (put_mid len n buffer new)).items (length v.items)
put_behind len n old v buffer new kept same inside fits long =
    let many : length buffer ≡ length v.items = ap length same in
    let room : len + n ≤ length buffer = omega arith in
    let first : len ≤ length buffer = omega arith in
    let whole : length (put_mid len n buffer new) ≡ v.len = put_length len n buffer new room long ∙ many ∙ sym v.ok.0 in
    let is = with_items_is v (put_mid len n buffer new) whole in
    let stays : take len buffer ≡ take len old = ap (take len) same ∙ front_stays len old v.items kept inside in
    record {
      front = ap (take len) is ∙ take_at (take len buffer) (new ++ post_of len n buffer) len (length-take-le len buffer first) ∙ stays;
      all = ap (take (len + n)) is ∙ put_in_front buffer new (post_of len n buffer) len n first long ∙ ap (λ front. front ++ new) stays;
      long = ap length is ∙ whole ∙ v.ok.0;
    }
