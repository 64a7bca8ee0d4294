-- What a word in hex decodes to.
use Rattle.std.proofs.Common.{◌≡◌, ℕ, ◌*◌, ◌%◌, ◌<◌, ◌≤◌, ◌==◌, ◌&&◌, nat_lt, nat_le, List, [], length, true, Ok, Err, Result, Some, None, cond, eq-eqb, sym, ◌∙◌, ap, refl, arith}
use Rattle.std.specs.List.{list_all}
use Rattle.std.specs.Result.{result_unwrap_or, MatchResult, is_ok}
use Rattle.hex.specs.declared.error.FromHexError.{FromHexError}
use Rattle.std.proofs.lemmas.Bool.{cond_both}
use Rattle.std.proofs.lemmas.Bool.{and_parts, eqb-true, leb-true, le-leb}
use Rattle.std.proofs.lemmas.Bool.Decides.{Decides-ltb}
use Rattle.std.proofs.lemmas.List.Sums.{AllPass-from_list_all, list_all-from_AllPass}
use Rattle.hex.specs.Hex.{decode_of, decode_sized, is_hex_digit}
use Rattle.hex.proofs.HexLemmas.{decode_of-digits, decode_of-ok, decode_sized-twice}
use Rattle.far_text.specs.declared.hex_word.TheConstants.{LONGEST_LINE}
use Rattle.far_text.specs.HexWord.{is_hex_word, hex_bytes}
use Rattle.far_text.specs.Grammar.{bytes_in}
use Rattle.far_text.specs.Says.{Spells}
use Rattle.std.proofs.lemmas.Option.{cond_some}

pub hex_decodes : (w : List ℕ) → is_hex_word w ≡ true → (decode_of w ≡ Ok (hex_bytes w)) × (length w ≡ 2 * length (hex_bytes w))
unfolding hex_bytes
hex_decodes w e =
    let most = nat_lt 0 (length w) && nat_le (length w) LONGEST_LINE && (length w % 2 == 0) in
    let parts = and_parts most (list_all is_hex_digit w) e in
    let even_parts = and_parts (nat_lt 0 (length w) && nat_le (length w) LONGEST_LINE) (length w % 2 == 0) parts.0 in
    let even : length w % 2 ≡ 0 = eqb-true (length w % 2) 0 even_parts.1 in
    let r = decode_of-digits w even (AllPass-from_list_all is_hex_digit w parts.1) in
    let is : hex_bytes w ≡ r.0 = ap (λ (o : Result (List ℕ) _). result_unwrap_or o []) r.1 in
    let ok = decode_of-ok w r.0 r.1 in
    (r.1 ∙ ap Ok (sym is), rw is ok.2)

-- what is read from a word in hex is what it spells
pub hex_is_spelled : (w bytes : List ℕ) → bytes_in w ≡ Some bytes → Spells w bytes
hex_is_spelled w bytes e =
    let parts = cond_some (is_hex_word w) (hex_bytes w) bytes e in
    let d = hex_decodes w parts.0 in
    let all = and_parts (nat_lt 0 (length w) && nat_le (length w) LONGEST_LINE && (length w % 2 == 0)) (list_all is_hex_digit w) parts.0 in
    let front = and_parts (nat_lt 0 (length w) && nat_le (length w) LONGEST_LINE) (length w % 2 == 0) all.0 in
    let ends = and_parts (nat_lt 0 (length w)) (nat_le (length w) LONGEST_LINE) front.0 in
    let some : 0 < length w = (Decides-ltb 0 (length w)).0 ends.0 in
    let most : length w ≤ LONGEST_LINE = leb-true (length w) LONGEST_LINE ends.1 in
    let len : length (hex_bytes w) ≡ length bytes = ap length parts.1 in
    (d.0 ∙ ap Ok parts.1, omega arith, most)

-- a word that spells bytes is in hex
pub spelled_is_hex : (w bytes : List ℕ) → Spells w bytes → bytes_in w ≡ Some bytes
unfolding hex_bytes
spelled_is_hex w bytes h =
    let ok = decode_of-ok w bytes h.0 in
    let some = (Decides-ltb 0 (length w)).1 (omega arith) in
    let most = le-leb (length w) LONGEST_LINE h.2 in
    let even : (length w % 2 == 0) ≡ true = eq-eqb (length w % 2) 0 ok.0 in
    let all = list_all-from_AllPass is_hex_digit w ok.1 in
    rw (some, most, even, all, h.0) refl

-- what doesn't decode is no word in hex
not_decoded : (w : List ℕ) (e : FromHexError) → decode_of w ≡ Err e → bytes_in w ≡ None
not_decoded w e h = cond_both (is_hex_word w) (Some (hex_bytes w)) None (λ o. o ≡ None) (λ is. let odd : Ok (hex_bytes w) ≡ Err e = sym (hex_decodes w is).0 ∙ h in absurd cc) (λ _. refl)

-- what decoding into a buffer for half as many bytes as there are digits gives
pub decoded_is : {U : Type 0} (u : U) (w new : List ℕ) (n : ℕ) (r : Result U FromHexError) (d : Result (List ℕ) FromHexError) → decode_sized w n ≡ d → length w ≡ 2 * n → 0 < n → length w ≤ LONGEST_LINE
    → MatchResult d (λ bytes. (r ≡ Ok u) × (new ≡ bytes)) (λ e. r ≡ Err e) → bytes_in w ≡ cond (is_ok r) (Some new) None
decoded_is u w new n r (Ok bytes) is twice some most h =
    let all : decode_of w ≡ Ok bytes = sym (decode_sized-twice w n twice) ∙ is in
    rw (h.0, h.1) (spelled_is_hex w bytes (all, omega (arith, decode_of-ok w bytes all), most))
decoded_is u w new n r (Err e) is twice some most h = rw h (not_decoded w e (sym (decode_sized-twice w n twice) ∙ is))
