-- Where words and lines end.
use Rattle.std.proofs.Common.{◌≡◌, ℕ, ◌<◌, ◌≤◌, ◌+◌, suc, zero, ◌==◌, List, [], ◌∷◌, ◌++◌, length, take, drop, get_or, true, false, Bool, cond, not, add-one, take-append-drop, sym, ◌∙◌, ap, refl, arith, append-nil}
use Rattle.std.specs.List.{slice_split, onto_first, join_with_byte, list_all}
use Rattle.std.proofs.lemmas.List.Splits.{join_with_byte-slice_split}
use Rattle.std.proofs.lemmas.List.{length-append, get_or_append_left}
use Rattle.std.proofs.lemmas.Bool.{and_parts}
use Rattle.std.proofs.lemmas.Bool.Decides.{nat_tests}
use Rattle.std.proofs.Math.Seq.{drop-cons, get_or-append_seam}
use Rattle.far_text.specs.Grammar.{lines_of, line_words}
use Rattle.far_text.specs.Cursor.{is_end, front_of, rest_of, first_line, lines_after_first, words_in}

-- a list that is cut has a first part
pub split_some : (p : ℕ → Bool) (xs : List ℕ) → slice_split p xs ≡ front_of (slice_split p xs) ∷ rest_of (slice_split p xs)
split_some p [] = refl
split_some p (x ∷ xs) =
    elim (p x) as (λ b. cond b ([] ∷ slice_split p xs) (onto_first x (slice_split p xs)) ≡ front_of (cond b ([] ∷ slice_split p xs) (onto_first x (slice_split p xs))) ∷ rest_of (cond b ([] ∷ slice_split p xs) (onto_first x (slice_split p xs)))) [
      | true ↦ refl
      | false ↦ rw (split_some p xs) refl
    ]

-- a byte that does not cut stands in front of the first part
pub split_on : (p : ℕ → Bool) (x : ℕ) (xs : List ℕ) → p x ≡ false → slice_split p (x ∷ xs) ≡ (x ∷ front_of (slice_split p xs)) ∷ rest_of (slice_split p xs)
split_on p x xs e = rw e (ap (onto_first x) (split_some p xs))

not_end : (b : ℕ) → is_end b ≡ false → ((b == 32) ≡ false) × ((b == 10) ≡ false)
not_end b e = (grind (arith, nat_tests), grind (arith, nat_tests))

-- a byte within a word
pub word_on : (b : ℕ) (text : List ℕ) → is_end b ≡ false → (words_in (b ∷ text) ≡ (b ∷ front_of (words_in text)) ∷ rest_of (words_in text)) × (lines_after_first (b ∷ text) ≡ lines_after_first text)
word_on b text e =
    let k = not_end b e in
    let line = split_on (λ c. c == 10) b text k.1 in
    (ap (λ l. line_words (front_of l)) line ∙ split_on (λ c. c == 32) b (first_line text) k.0, ap rest_of line)

-- a space
pub space_on : (text : List ℕ) → (words_in (32 ∷ text) ≡ [] ∷ words_in text) × (lines_after_first (32 ∷ text) ≡ lines_after_first text)
space_on text =
    let line = split_on (λ c. c == 10) 32 text refl in
    (ap (λ l. line_words (front_of l)) line, ap rest_of line)

abbrev pub NoEnds : List ℕ → ℕ → Type 0
NoEnds text i = (k : ℕ) → k < i → is_end (get_or text k 0) ≡ false

-- the first word goes on behind bytes that do not end it
pub word_at : (text : List ℕ) (i : ℕ) → i ≤ length text → NoEnds text i
    → (words_in text ≡ (take i text ++ front_of (words_in (drop i text))) ∷ rest_of (words_in (drop i text))) × (lines_after_first text ≡ lines_after_first (drop i text))
word_at text zero h n = (split_some (λ c. c == 32) (first_line text), refl)
word_at [] (suc i) h n = absurd (omega arith)
word_at (b ∷ text) (suc i) h n =
    let on = word_on b text (n 0 (omega arith)) in
    let rest = word_at text i (omega arith) (λ k less. n (suc k) (omega arith)) in
    (on.0 ∙ ap (λ l. (b ∷ front_of l) ∷ rest_of l) rest.0, on.1 ∙ rest.1)

-- the first word and what is behind it
pub word_stops : (text : List ℕ) (i : ℕ) (rest : List (List ℕ)) → i ≤ length text → NoEnds text i → words_in (drop i text) ≡ [] ∷ rest → words_in text ≡ take i text ∷ rest
word_stops text i rest h n e =
    (word_at text i h n).0 ∙ ap (λ l. (take i text ++ front_of l) ∷ rest_of l) e ∙ ap (λ w. w ∷ rest) (append-nil (take i text))

not-true : (b : Bool) → not b ≡ true → b ≡ false
not-true true e = sym e
not-true false e = refl

-- a name and a space in front
name_on : (name rest : List ℕ) → list_all (λ b. not (is_end b)) name ≡ true
    → (words_in (name ++ 32 ∷ rest) ≡ name ∷ words_in rest) × (lines_after_first (name ++ 32 ∷ rest) ≡ lines_after_first rest)
name_on [] rest e = space_on rest
name_on (b ∷ name) rest e =
    let parts = and_parts (not (is_end b)) (list_all (λ c. not (is_end c)) name) e in
    let on = word_on b (name ++ 32 ∷ rest) (not-true (is_end b) parts.0) in
    let more = name_on name rest parts.1 in
    (on.0 ∙ ap (λ l. (b ∷ front_of l) ∷ rest_of l) more.0, on.1 ∙ more.1)

-- a front that is the same byte by byte
front_same : (text name : List ℕ) → length name ≤ length text → ((k : ℕ) → k < length name → get_or text k 0 ≡ get_or name k 0) → take (length name) text ≡ name
front_same text [] h e = refl
front_same [] (b ∷ name) h e = absurd (omega arith)
front_same (a ∷ text) (b ∷ name) h e = rw (e 0 (omega arith)) (ap (λ l. b ∷ l) (front_same text name (omega arith) (λ k less. e (suc k) (omega arith))))

pub name_at : (text name : List ℕ) → length name < length text → ((k : ℕ) → k < length name → get_or text k 0 ≡ get_or name k 0) → get_or text (length name) 0 ≡ 32 → list_all (λ b. not (is_end b)) name ≡ true
    → (words_in text ≡ name ∷ words_in (drop (length name + 1) text)) × (lines_after_first text ≡ lines_after_first (drop (length name + 1) text))
name_at text name longer same space within =
    let n = length name in
    let rest : drop n text ≡ 32 ∷ drop (n + 1) text = rw add-one (drop-cons text n 0 longer ∙ ap (λ b. b ∷ drop (suc n) text) space) in
    let whole : name ++ 32 ∷ drop (n + 1) text ≡ text = ap (λ l. l ++ 32 ∷ drop (n + 1) text) (sym (front_same text name (omega arith) same)) ∙ ap (λ l. take n text ++ l) (sym rest) ∙ take-append-drop n text in
    let on = name_on name (drop (n + 1) text) within in
    (sym (ap words_in whole) ∙ on.0, sym (ap lines_after_first whole) ∙ on.1)

-- what a text that begins with a name and a space has there
pub name_before : (text name rest : List ℕ) → text ≡ name ++ 32 ∷ rest
    → (length name < length text) × (get_or text (length name) 0 ≡ 32) × ((k : ℕ) → k < length name → get_or text k 0 ≡ get_or name k 0)
name_before text name rest e =
    let sum = length-append name (32 ∷ rest) in
    let same = ap length e in
    (omega arith, rw e (get_or-append_seam name 32 rest 0), λ k less. rw e (get_or_append_left name (32 ∷ rest) 0 k less))

-- the first line goes on behind bytes that are no newline
pub line_at : (text : List ℕ) (i : ℕ) → i ≤ length text → ((k : ℕ) → k < i → (get_or text k 0 == 10) ≡ false)
    → lines_of text ≡ (take i text ++ first_line (drop i text)) ∷ lines_after_first (drop i text)
line_at text zero h n = split_some (λ c. c == 10) text
line_at [] (suc i) h n = absurd (omega arith)
line_at (b ∷ text) (suc i) h n =
    split_on (λ c. c == 10) b text (n 0 (omega arith))
    ∙ ap (λ l. (b ∷ front_of l) ∷ rest_of l) (line_at text i (omega arith) (λ k less. n (suc k) (omega arith)))

-- the last line is all that is left
pub last_line : (text : List ℕ) → lines_after_first text ≡ [] → text ≡ first_line text
last_line text e = sym (join_with_byte-slice_split 10 text) ∙ ap (join_with_byte 10) (split_some (λ c. c == 10) text ∙ ap (λ l. first_line text ∷ l) e)

-- before the others stand the first line and a newline
pub more_lines : (text rest : List ℕ) → lines_of rest ≡ lines_after_first text → text ≡ first_line text ++ 10 ∷ rest
more_lines text rest e =
    sym (join_with_byte-slice_split 10 text)
    ∙ ap (join_with_byte 10) (split_some (λ c. c == 10) text ∙ ap (λ l. first_line text ∷ l) (sym e ∙ split_some (λ c. c == 10) rest))
    ∙ ap (λ l. first_line text ++ 10 ∷ l) (ap (join_with_byte 10) (sym (split_some (λ c. c == 10) rest)) ∙ join_with_byte-slice_split 10 rest)

pub line_length : (text rest : List ℕ) → lines_of rest ≡ lines_after_first text → length text ≡ length (first_line text) + 1 + length rest
line_length text rest e = let same = ap length (more_lines text rest e) in let sum = length-append (first_line text) (10 ∷ rest) in omega arith

pub split_nonempty : (p : ℕ → Bool) (xs : List ℕ) → 0 < length (slice_split p xs)
split_nonempty p xs = rw (split_some p xs) (omega arith)
