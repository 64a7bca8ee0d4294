-- Commands beside the numbers of their lines, and lines by their places.
use Rattle.std.proofs.Common.{◌≡◌, ℕ, zero, suc, ◌+◌, ◌<◌, List, [], ◌∷◌, ◌++◌, length, drop, get_or, map, true, false, cond, Option, Some, None, sym, ◌∙◌, ap, refl, arith, append_assoc}
use Rattle.std.specs.Prelude.{zip}
use Rattle.std.specs.Option.{option_map}
use Rattle.std.proofs.lemmas.Option.{none-some, same_Some}
use Rattle.far_text.specs.Command.{Command}
use Rattle.far_text.specs.Places.{line_at, AllBelow}
use Rattle.far_text.specs.Threads.{Thread, is_of, lines_in}
use Rattle.far_text.proofs.Reading.{map_append}

-- ---- pairs
pub length_beside : (ns : List ℕ) (cs : List Command) → length ns ≡ length cs → length (zip ns cs) ≡ length cs
length_beside [] [] e = refl
length_beside [] (c ∷ cs) e = absurd (omega arith)
length_beside (n ∷ ns) [] e = absurd (omega arith)
length_beside (n ∷ ns) (c ∷ cs) e = ap suc (length_beside ns cs (omega arith))

pub one_beside : (ns : List ℕ) (cs : List Command) (n : ℕ) (c : Command) → length ns ≡ length cs → zip (ns ++ n ∷ []) (cs ++ c ∷ []) ≡ zip ns cs ++ (n, c) ∷ []
one_beside [] [] n c e = refl
one_beside [] (d ∷ cs) n c e = absurd (omega arith)
one_beside (m ∷ ns) [] n c e = absurd (omega arith)
one_beside (m ∷ ns) (d ∷ cs) n c e = ap (λ l. (m, d) ∷ l) (one_beside ns cs n c (omega arith))

-- the pair at a place
pub beside_here : (ns : List ℕ) (cs : List Command) (place n : ℕ) (c : Command) → length ns ≡ length cs → place < length ns → n ≡ get_or ns place n
    → drop place cs ≡ c ∷ drop (place + 1) cs → drop place (zip ns cs) ≡ (n, c) ∷ drop (place + 1) (zip ns cs)
beside_here [] cs place n c same lt number command = absurd (omega arith)
beside_here (m ∷ ns) [] place n c same lt number command = absurd (omega arith)
beside_here (m ∷ ns) (d ∷ cs) zero n c same lt number command = let is : d ≡ c = cc in rw (sym number, is) refl
beside_here (m ∷ ns) (d ∷ cs) (suc place) n c same lt number command =
    let there : suc (place + 1) ≡ suc place + 1 = omega arith in
    let later : drop place cs ≡ c ∷ drop (place + 1) cs = command ∙ ap (λ k. c ∷ drop k (d ∷ cs)) (sym there) in
    beside_here ns cs place n c (omega arith) (omega arith) number later ∙ ap (λ k. (n, c) ∷ drop k ((m, d) ∷ zip ns cs)) there

-- ---- places
-- what stands in front of the rest from a place on stands at it
pub at_here : (lines : List (ℕ × Command)) (place : ℕ) (line : ℕ × Command) (rest : List (ℕ × Command)) → drop place lines ≡ line ∷ rest → line_at lines place ≡ line
at_here [] zero line rest e = absurd cc
at_here [] (suc place) line rest e = absurd cc
at_here (x ∷ lines) zero line rest e = cc
at_here (x ∷ lines) (suc place) line rest e = at_here lines place line rest e

pub below_at : (most : ℕ) (places : List ℕ) (i place : ℕ) → AllBelow most places → i < length places → place ≡ get_or places i place → place < most
below_at most [] i place all lt e = absurd (omega arith)
below_at most (x ∷ places) zero place all lt e = omega (arith, all.0)
below_at most (x ∷ places) (suc i) place all lt e = below_at most places i place all.1 (omega arith) e

pub one_below_more : (most : ℕ) (places : List ℕ) (place : ℕ) → AllBelow most places → place < most → AllBelow most (places ++ place ∷ [])
one_below_more most [] place all lt = (lt, tt)
one_below_more most (x ∷ places) place all lt = (all.0, one_below_more most places place all.1 lt)

-- ---- a thread's lines, found so far and to come
module _ (thread : Thread) (lines : List (ℕ × Command)) (places : List ℕ) (place : ℕ) (line : ℕ × Command)
    (here : drop place lines ≡ line ∷ drop (place + 1) lines)
    (so_far : map (line_at lines) places ++ lines_in thread (drop place lines) ≡ lines_in thread lines) where
  ahead : lines_in thread (drop place lines) ≡ cond (is_of thread line.1) (line ∷ lines_in thread (drop (place + 1) lines)) (lines_in thread (drop (place + 1) lines))
  ahead = ap (lines_in thread) here

  pub one_found : is_of thread line.1 ≡ true → map (line_at lines) (places ++ place ∷ []) ++ lines_in thread (drop (place + 1) lines) ≡ lines_in thread lines
  one_found own =
      ap (λ l. l ++ lines_in thread (drop (place + 1) lines)) (map_append (line_at lines) places (place ∷ []))
      ∙ append_assoc (map (line_at lines) places) (line_at lines place ∷ []) (lines_in thread (drop (place + 1) lines))
      ∙ ap (λ x. map (line_at lines) places ++ x ∷ lines_in thread (drop (place + 1) lines)) (at_here lines place line (drop (place + 1) lines) here)
      ∙ ap (λ l. map (line_at lines) places ++ l) (sym (ahead ∙ ap (λ b. cond b (line ∷ lines_in thread (drop (place + 1) lines)) (lines_in thread (drop (place + 1) lines))) own))
      ∙ so_far

  pub one_passed : is_of thread line.1 ≡ false → map (line_at lines) places ++ lines_in thread (drop (place + 1) lines) ≡ lines_in thread lines
  one_passed other =
      ap (λ l. map (line_at lines) places ++ l) (sym (ahead ∙ ap (λ b. cond b (line ∷ lines_in thread (drop (place + 1) lines)) (lines_in thread (drop (place + 1) lines))) other))
      ∙ so_far

-- a command that is kept is one more, beside the number of its line
pub kept_beside : (ns : List ℕ) (old new : List Command) (n : ℕ) (lines : List (ℕ × Command)) (command : Option Command) → zip ns old ≡ lines → length ns ≡ length old
    → option_map (λ c. old ++ c ∷ []) command ≡ Some new → option_map (λ c. lines ++ (n, c) ∷ []) command ≡ Some (zip (ns ++ n ∷ []) new)
kept_beside ns old new n lines None is same e = absurd (none-some new e)
kept_beside ns old new n lines (Some c) is same e =
    ap (λ l. Some (l ++ (n, c) ∷ [])) (sym is) ∙ ap Some (sym (one_beside ns old n c same)) ∙ ap (λ cs. Some (zip (ns ++ n ∷ []) cs)) (same_Some (old ++ c ∷ []) new e)
