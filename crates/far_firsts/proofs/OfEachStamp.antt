-- Counts by the stamps of lines, and lines that have given stamps.
use Rattle.std.proofs.Common.{◌≡◌, ℕ, zero, suc, ◌+◌, ◌<◌, ◌≤◌, ◌⊎◌, inl, inr, Bool, true, false, cond, List, [], ◌∷◌, ◌++◌, length, map, take, get_or, refl, sym, ◌∙◌, ap, subst, arith}
use Rattle.std.specs.Str.{bytes_eq}
use Rattle.std.proofs.lemmas.Slice.Eq.{bytes_eq-Decides}
use Rattle.std.proofs.lemmas.List.{map-append}
use Rattle.far_seen.specs.Tallied.{Counts, count_of, line_of, often, times, total}
use Rattle.far_firsts.specs.Firsts.{is_among}
use Rattle.far_firsts.specs.Tallies.{AreCounted, how_often, stamped}
use Rattle.far_firsts.proofs.Tallies.{often_none}

same : (q l : List ℕ) → bytes_eq q l ≡ true → q ≡ l
same q l e = (bytes_eq-Decides q l).0 e

itself : (q : List ℕ) → bytes_eq q q ≡ true
itself q = (bytes_eq-Decides q q).1 refl

-- ---- the counts alone
pub times_long : (ps : Counts) → length (times ps) ≡ length ps
times_long [] = refl
times_long (p ∷ ps) = omega (arith, times_long ps)

count_at : (ps : Counts) (k : ℕ) → count_of ps k ≡ get_or (times ps) k 0
count_at [] k = refl
count_at (p ∷ ps) zero = refl
count_at (p ∷ ps) (suc k) = count_at ps k

pub same_count : (ps qs : Counts) (k : ℕ) → times ps ≡ times qs → count_of ps k ≡ count_of qs k
same_count ps qs k e = count_at ps k ∙ ap (λ ns. get_or ns k 0) e ∙ sym (count_at qs k)

abbrev sum_of : List ℕ → ℕ
sum_of [] = 0
sum_of (n ∷ ns) = n + sum_of ns

total_is : (ps : Counts) → total ps ≡ sum_of (times ps)
total_is [] = refl
total_is (p ∷ ps) = ap (λ n. p.1 + n) (total_is ps)

pub same_total : (ps qs : Counts) → times ps ≡ times qs → total ps ≡ total qs
same_total ps qs e = total_is ps ∙ ap sum_of e ∙ sym (total_is qs)

pub times_join : (ps qs : Counts) → times (ps ++ qs) ≡ times ps ++ times qs
times_join ps qs = map-append (λ p. p.1) ps qs

pub times_stamped : (stamp : List ℕ → List ℕ) (ps : Counts) → times (stamped stamp ps) ≡ times ps
times_stamped stamp [] = refl
times_stamped stamp (p ∷ ps) = ap (λ ns. p.1 ∷ ns) (times_stamped stamp ps)

-- ---- one list after another
pub stamped_join : (stamp : List ℕ → List ℕ) (ps qs : Counts) → stamped stamp (ps ++ qs) ≡ stamped stamp ps ++ stamped stamp qs
stamped_join stamp ps qs = map-append (λ p. (stamp p.0, p.1)) ps qs

pub next_stamp : (ps : Counts) (k : ℕ) → k < length ps → take (suc k) ps ≡ take k ps ++ (line_of ps k, count_of ps k) ∷ []
next_stamp [] k h = absurd (omega (arith, h))
next_stamp (p ∷ ps) zero h = refl
next_stamp (p ∷ ps) (suc k) h = ap (λ qs. p ∷ qs) (next_stamp ps k (omega (arith, h)))

more_first : (b : Bool) (n t x y : ℕ) → t ≡ x + y → cond b (n + t) t ≡ cond b (n + x) x + y
more_first true n t x y e = omega (arith, e)
more_first false n t x y e = e

pub often_both : (q : List ℕ) (ps qs : Counts) → often q (ps ++ qs) ≡ often q ps + often q qs
often_both q [] qs = omega arith
often_both q (p ∷ ps) qs = more_first (bytes_eq q p.0) p.1 (often q (ps ++ qs)) (often q ps) (often q qs) (often_both q ps qs)

-- ---- lines of given stamps, where such came
module _ (stamp : List ℕ → List ℕ) where
  -- a line of a stamp that came
  like : (t : List ℕ) (ls : List (List ℕ)) → 0 < how_often t (map stamp ls) → (l : List ℕ) × (stamp l ≡ t)
  like t [] h = absurd (omega (arith, h))
  like t (l ∷ ls) h =
      elim (bytes_eq t (stamp l)) as (λ b. bytes_eq t (stamp l) ≡ b → 0 < cond b (how_often t (map stamp ls) + 1) (how_often t (map stamp ls)) → (l : List ℕ) × (stamp l ≡ t)) [
        | true ↦ λ is some. (l, sym (same t (stamp l) is))
        | false ↦ λ is some. like t ls some
      ] refl h

  -- any line, for none of a stamp
  like_if : (n : ℕ) (t : List ℕ) (ls : List (List ℕ)) → n ≤ how_often t (map stamp ls) → (l : List ℕ) × ((n ≡ 0) ⊎ (stamp l ≡ t))
  like_if zero t ls h = ([], inl refl)
  like_if (suc n) t ls h = let l = like t ls (omega (arith, h)) in (l.0, inr l.1)

  as_often : (n x y : ℕ) (q t l : List ℕ) → (n ≡ 0) ⊎ (stamp l ≡ t) → x ≡ y → cond (bytes_eq q (stamp l)) (n + x) x ≡ cond (bytes_eq q t) (n + y) y
  as_often n x y q t l is e = elim is [
    | inl none ↦ none_more (bytes_eq q (stamp l)) (bytes_eq q t) n x y none e
    | inr so ↦ λ i. cond (bytes_eq q (so i)) (n + e i) (e i)
  ]
    where
      none_more : (b d : Bool) (n x y : ℕ) → n ≡ 0 → x ≡ y → cond b (n + x) x ≡ cond d (n + y) y
      none_more true true n x y none e = omega (arith, none, e)
      none_more true false n x y none e = omega (arith, none, e)
      none_more false true n x y none e = omega (arith, none, e)
      none_more false false n x y none e = e

  at_most : (b : Bool) (n x h : ℕ) → cond b (n + x) x ≤ h → x ≤ h
  at_most true n x h l = omega (arith, l)
  at_most false n x h l = l

  pub lines_like : (ls : List (List ℕ)) (ss : Counts) → ((q : List ℕ) → often q ss ≤ how_often q (map stamp ls)) → (ps : Counts) × (times ps ≡ times ss) × ((q : List ℕ) → often q (stamped stamp ps) ≡ often q ss)
  lines_like ls [] few = ([], refl, λ q. refl)
  lines_like ls (s ∷ ss) few =
      let rest = lines_like ls ss (λ q. at_most (bytes_eq q s.0) s.1 (often q ss) (how_often q (map stamp ls)) (few q)) in
      let all : s.1 + often s.0 ss ≤ how_often s.0 (map stamp ls) = subst (λ b. cond b (s.1 + often s.0 ss) (often s.0 ss) ≤ how_often s.0 (map stamp ls)) (itself s.0) (few s.0) in
      let l = like_if s.1 s.0 ls (omega (arith, all)) in (
        (l.0, s.1) ∷ rest.0,
        ap (λ ns. s.1 ∷ ns) rest.1,
        λ q. as_often s.1 (often q (stamped stamp rest.0)) (often q ss) q s.0 l.0 l.1 (rest.2 q),
      )

-- ---- what it says of counts, in other words
-- what is counted has a stamp that came
at_least : (stamp : List ℕ → List ℕ) (ps : Counts) (k : ℕ) → count_of ps k ≤ often (stamp (line_of ps k)) (stamped stamp ps)
at_least stamp [] k = omega arith
at_least stamp (p ∷ ps) zero = subst (λ b. p.1 ≤ cond b (p.1 + often (stamp p.0) (stamped stamp ps)) (often (stamp p.0) (stamped stamp ps))) (sym (itself (stamp p.0))) (omega arith)
at_least stamp (p ∷ ps) (suc k) =
    let q = stamp (line_of ps k) in
    more_than (bytes_eq q (stamp p.0)) p.1 (often q (stamped stamp ps)) (count_of ps k) (at_least stamp ps k)
  where
    more_than : (b : Bool) (n x k : ℕ) → k ≤ x → k ≤ cond b (n + x) x
    more_than true n x k l = omega (arith, l)
    more_than false n x k l = l

pub stamp_came : (stamp : List ℕ → List ℕ) (lines : List (List ℕ)) (counts : Counts) (k : ℕ) → AreCounted stamp lines counts → 0 < count_of counts k → is_among (stamp (line_of counts k)) (map stamp lines) ≡ true
stamp_came stamp lines counts k so some =
    let q = stamp (line_of counts k) in
    elim (is_among q (map stamp lines)) as (λ b. is_among q (map stamp lines) ≡ b → b ≡ true) [
      | true ↦ λ is. refl
      | false ↦ λ is. absurd (omega (arith, some, at_least stamp counts k, so q, often_none q (map stamp lines) is))
    ] refl

-- stamps that are apart
module _ (stamp : List ℕ → List ℕ) (apart : (l m : List ℕ) → stamp l ≡ stamp m → l ≡ m) (q : List ℕ) where
  both_true : (x y : Bool) → (x ≡ true → y ≡ true) → (y ≡ true → x ≡ true) → x ≡ y
  both_true true y f g = sym (f refl)
  both_true false true f g = g refl
  both_true false false f g = refl

  tie : (l : List ℕ) → bytes_eq (stamp q) (stamp l) ≡ bytes_eq q l
  tie l = both_true _ _ (λ e. (bytes_eq-Decides q l).1 (apart q l (same (stamp q) (stamp l) e))) (λ e. (bytes_eq-Decides (stamp q) (stamp l)).1 (ap stamp (same q l e)))

  counts_apart : (ps : Counts) → often (stamp q) (stamped stamp ps) ≡ often q ps
  counts_apart [] = refl
  counts_apart (p ∷ ps) = λ i. cond (tie p.0 i) (p.1 + counts_apart ps i) (counts_apart ps i)

  lines_apart : (ls : List (List ℕ)) → how_often (stamp q) (map stamp ls) ≡ how_often q ls
  lines_apart [] = refl
  lines_apart (l ∷ ls) = λ i. cond (tie l i) (lines_apart ls i + 1) (lines_apart ls i)

  pub often_apart : (lines : List (List ℕ)) (counts : Counts) → AreCounted stamp lines counts → often q counts ≡ how_often q lines
  often_apart lines counts so = sym (counts_apart counts) ∙ so (stamp q) ∙ lines_apart lines

-- one stamp for all
all_counts : (ps : Counts) → often [] (stamped (λ l. []) ps) ≡ total ps
all_counts [] = refl
all_counts (p ∷ ps) = ap (λ n. p.1 + n) (all_counts ps)

all_lines : (ls : List (List ℕ)) → how_often [] (map (λ l. []) ls) ≡ length ls
all_lines [] = refl
all_lines (l ∷ ls) = omega (arith, all_lines ls)

pub one_stamp : (lines : List (List ℕ)) (counts : Counts) → AreCounted (λ l. []) lines counts → total counts ≡ length lines
one_stamp lines counts so = sym (all_counts counts) ∙ so [] ∙ all_lines lines
