-- Whose line it is, by the number behind its name.
use Rattle.std.proofs.Common.{◌≡◌, ◌≢◌, ℕ, Bool, true, not, ◌==◌, ◌||◌, ◌<◌, ◌≤◌, ◌^◌, List, [], ◌∷◌, codes, decimal, get_or, arith, sym, ap, refl, inl, inr, ◌∙◌}
use Rattle.std.proofs.lemmas.Bool.{true≢false}
use Rattle.std.proofs.lemmas.Fmt.{decimal_injective, decimal_is_IsNumeral}
use Rattle.std.proofs.lemmas.Str.Parse.{digit_at}
use Rattle.far_text.specs.Command.{Command, CommandLine, On, Writes, Log, Mutator, Book, Evacuator, Policy, Oldest, LeastLive, By, Script, Select, Mark, Evacuate, Round}
use Rattle.far_replay_laws.specs.Headline.{CountsOthers, IsSaidBy}
use Rattle.far_text.specs.Says.{Says, policy_name}

abbrev first_of : List (List ℕ) → List ℕ
first_of [] = []
first_of (word ∷ words) = word

abbrev second_of : List (List ℕ) → List ℕ
second_of [] = []
second_of (word ∷ words) = first_of words

-- the number that stands behind a name
number_behind : (words : List (List ℕ)) (head : List ℕ) (k m : ℕ) (after : List (List ℕ)) → k < 2 ^ 64 → m < 2 ^ 64 → words ≡ head ∷ decimal k ∷ after →
    (name : List ℕ) (rest : List (List ℕ)) → words ≡ name ∷ decimal m ∷ rest → m ≡ k
number_behind words head k m after below small is name rest e = decimal_injective m k small below (ap second_of (sym e ∙ is))

numbered : (words : List (List ℕ)) (head : List ℕ) (k m : ℕ) (after : List (List ℕ)) → words ≡ head ∷ decimal k ∷ after → ¬ CountsOthers head → m ≡ k →
    (name : List ℕ) × (rest : List (List ℕ)) × (words ≡ name ∷ decimal m ∷ rest) × ¬ CountsOthers name
numbered words head k m after is other e = (head, after, is ∙ ap (λ n. head ∷ decimal n ∷ after) (sym e), other)

-- names of mutators' commands are others than `log`, `mark` and `evacuate`, by their first two letters
abbrev letter_of : List ℕ → ℕ
letter_of [] = 0
letter_of (x ∷ xs) = x

abbrev letter_behind : List ℕ → ℕ
letter_behind [] = 0
letter_behind (x ∷ xs) = letter_of xs

-- a name with other letters is none of them
abbrev is_apart : List ℕ → Bool
is_apart name = not (letter_of name == 108 || letter_of name == 109 || letter_behind name == 118)

is_other : (name : List ℕ) → is_apart name ≡ true → ¬ CountsOthers name
is_other name apart (inl e) = true≢false (sym apart ∙ ap is_apart e)
is_other name apart (inr (inl e)) = true≢false (sym apart ∙ ap is_apart e)
is_other name apart (inr (inr e)) = true≢false (sym apart ∙ ap is_apart e)

no_number : {name word : List ℕ} {rest : List (List ℕ)} {head : List ℕ} → name ∷ word ∷ rest ≢ head ∷ []
no_number e = cc

-- what stands behind a name and begins with a letter is no number
word_is_no_number : (head word : List ℕ) (after : List (List ℕ)) (words : List (List ℕ)) (m : ℕ) → m < 2 ^ 64 → 58 ≤ letter_of word → words ≡ head ∷ word ∷ after →
    (name : List ℕ) (rest : List (List ℕ)) → words ≡ name ∷ decimal m ∷ rest → ⊥
word_is_no_number head word after words m small letter is name rest e =
    let same : decimal m ≡ word = ap second_of (sym e ∙ is) in
    let low = digit_at (decimal m) 0 (decimal_is_IsNumeral m small).0.1 (decimal_is_IsNumeral m small).0.0 in
    let first : get_or (decimal m) 0 0 ≡ letter_of word = ap (λ l. get_or l 0 0) same ∙ first_letter word in
    omega (arith, low.1, first, letter)
  where
    first_letter : (l : List ℕ) → get_or l 0 0 ≡ letter_of l
    first_letter [] = refl
    first_letter (x ∷ xs) = refl

policy_letter : (policy : Policy) → 58 ≤ letter_of (policy_name policy)
policy_letter Oldest = omega arith
policy_letter LeastLive = omega arith

pub lines_numbered : (words : List (List ℕ)) (c : Command) (m : ℕ) → m < 2 ^ 64 → Says words (CommandLine c) →
    (IsSaidBy m c → (name : List ℕ) × (rest : List (List ℕ)) × (words ≡ name ∷ decimal m ∷ rest) × ¬ CountsOthers name)
    × ((name : List ℕ) (rest : List (List ℕ)) → words ≡ name ∷ decimal m ∷ rest → ¬ CountsOthers name → IsSaidBy m c)
lines_numbered words (Mutator k (On p (Writes from bytes))) m small h = (numbered words _ k m _ h.1 (is_other (codes "write") refl), (λ name rest e ne. number_behind words _ k m _ h.2 small h.1 name rest e))
lines_numbered words (Mutator k request) m small h = (numbered words _ k m _ h.0 (is_other _ refl), (λ name rest e ne. number_behind words _ k m _ h.1 small h.0 name rest e))
lines_numbered words (Book (Log l)) m small h = ((λ no. absurd no), (λ name rest e ne. absurd (ne (inl (ap first_of (sym e ∙ h.0))))))
lines_numbered words (Evacuator (Select (By policy) most)) m small h = ((λ no. absurd no), (λ name rest e ne. absurd (word_is_no_number (codes "select") (policy_name policy) _ words m small (policy_letter policy) h.0 name rest e)))
lines_numbered words (Evacuator (Select (Script logs) most)) m small h = ((λ no. absurd no), (λ name rest e ne. absurd (word_is_no_number (codes "select") (codes "script") _ words m small (omega arith) h.0 name rest e)))
lines_numbered words (Evacuator (Mark count)) m small h = ((λ no. absurd no), (λ name rest e ne. absurd (ne (inr (inl (ap first_of (sym e ∙ h.0)))))))
lines_numbered words (Evacuator (Evacuate count)) m small h = ((λ no. absurd no), (λ name rest e ne. absurd (ne (inr (inr (ap first_of (sym e ∙ h.0)))))))
lines_numbered words (Evacuator (Round policy most turns)) m small h = ((λ no. absurd no), (λ name rest e ne. absurd (word_is_no_number (codes "round") (policy_name policy) _ words m small (policy_letter policy) h.0 name rest e)))
lines_numbered words _ m small h = ((λ no. absurd no), (λ name rest e ne. absurd (no_number (sym e ∙ h))))
