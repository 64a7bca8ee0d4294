-- The logs of a script, read one by one.
use Rattle.std.proofs.Common.{◌≡◌, ℕ, ◌<◌, ◌≤◌, nat_le, true, false, cond, List, [], ◌∷◌, ◌++◌, length, Option, Some, None, sym, ◌∙◌, ap, refl, arith, append-nil}
use Rattle.std.specs.Option.{option_map}
use Rattle.std.proofs.lemmas.Bool.{le-leb}
use Rattle.far_text.specs.declared.hex_word.TheConstants.{LONGEST_BYTES}
use Rattle.far_text.specs.Grammar.{number_of, next_number, each_log, logs_of, ◌>>=◌}

-- what is read so far, in front of the logs that the other words print
abbrev pub behind : List ℕ → Option (List ℕ) → Option (List ℕ)
behind done logs = option_map (λ more. done ++ more) logs

abbrev pub both : ℕ → List (List ℕ) → ℕ × List (List ℕ)
both log words = (log, words)

abbrev pub printed : ℕ → List (List ℕ) → Option (ℕ × List (List ℕ))
printed log words = Some (both log words)

-- a word that is no number, or no log
pub no_number : (words : List (List ℕ)) → 0 < length words → None ≡ next_number words → each_log words ≡ None
no_number [] some e = absurd (omega arith)
no_number (word ∷ words) some e = elim (number_of word) as (λ o. number_of word ≡ o → None ≡ (o >>= λ n. printed n words) → each_log (word ∷ words) ≡ None) [
  | Some n ↦ λ is k. absurd (cc k)
  | None ↦ λ is k. rw is refl
] refl e

-- all of them are read, one at least, and no more than may be
pub all_read : (words : List (List ℕ)) (done : List ℕ) → 0 < length words → length words ≤ LONGEST_BYTES → behind done (Some []) ≡ each_log words → logs_of words ≡ Some done
all_read [] done some few e = absurd (omega arith)
all_read (word ∷ words) done some few e = let fits = le-leb (length (word ∷ words)) LONGEST_BYTES few in rw fits (sym e ∙ ap Some (append-nil done))

pub not_read : (words : List (List ℕ)) → each_log words ≡ None → logs_of words ≡ None
not_read [] e = refl
not_read (word ∷ words) e = rw e (elim (nat_le (length (word ∷ words)) LONGEST_BYTES) as (λ b. cond {A = Option (List ℕ)} b None None ≡ None) [ true ↦ refl | false ↦ refl ])
