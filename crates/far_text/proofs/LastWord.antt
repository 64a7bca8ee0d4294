-- A word in hex that is the last of its line.
use Rattle.std.proofs.Common.{◌≡◌, ℕ, ◌&&◌, ◌==◌, List, [], ◌∷◌, ◌++◌, Bool, Some, None, true, false, cond, sym, ◌∙◌, ap, refl}
use Rattle.std.specs.List.{join_with_byte, list_all}
use Rattle.std.proofs.lemmas.List.Splits.{join_with_byte-slice_split}
use Rattle.hex.specs.Hex.{is_hex_digit}
use Rattle.far_text.specs.Grammar.{bytes_in, last_bytes, line_words}
use Rattle.far_text.proofs.Cuts.{split_some}

-- whatever is tested before it, a word with another byte is not in hex
not_hex : (b : Bool) (bytes : List ℕ) → cond (b && false) (Some bytes) None ≡ None
not_hex true bytes = refl
not_hex false bytes = refl

-- a space is no digit
not_all : (word rest : List ℕ) → list_all is_hex_digit (word ++ 32 ∷ rest) ≡ false
not_all [] rest = refl
not_all (b ∷ word) rest = rw (not_all word rest) (elim (is_hex_digit b) as (λ t. (t && false) ≡ false) [ true ↦ refl | false ↦ refl ])

no_words : (line : List ℕ) → line_words line ≡ [] → ⊥
no_words line e = let some = split_some (λ b. b == 32) line in cc

-- the last word, where it is the only one, is the line
one_word_of : (line : List ℕ) (words : List (List ℕ)) → line_words line ≡ words → last_bytes words ≡ bytes_in line
one_word_of line [] e = absurd (no_words line e)
one_word_of line (word ∷ []) e = ap bytes_in (ap (join_with_byte 32) (sym e) ∙ join_with_byte-slice_split 32 line)
one_word_of line (word ∷ next ∷ words) e =
    let joined : word ++ 32 ∷ join_with_byte 32 (next ∷ words) ≡ line = ap (join_with_byte 32) (sym e) ∙ join_with_byte-slice_split 32 line in
    let off : list_all is_hex_digit line ≡ false = ap (list_all is_hex_digit) (sym joined) ∙ not_all word (join_with_byte 32 (next ∷ words)) in
    sym (rw off (not_hex _ _))

pub one_word : (line : List ℕ) → last_bytes (line_words line) ≡ bytes_in line
one_word line = one_word_of line (line_words line) refl
