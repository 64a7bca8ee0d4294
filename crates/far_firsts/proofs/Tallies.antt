-- A tally, line by line, and by what stands for lines.
use Rattle.std.proofs.Common.{◌≡◌, ℕ, ◌+◌, ◌==◌, Bool, true, false, cond, ◌||◌, List, [], ◌∷◌, ◌++◌, length, map, refl, sym, ◌∙◌, ap, subst, arith}
use Rattle.std.specs.Prelude.{⊤}
use Rattle.std.specs.Str.{bytes_eq}
use Rattle.std.proofs.lemmas.Slice.Eq.{bytes_eq-Decides}
use Rattle.std.proofs.lemmas.List.{append-nil, append_assoc}
use Rattle.far_seen.specs.Tallied.{Counts, counted, often, total}
use Rattle.far_seen.proofs.Counting.{one_here, one_more}
use Rattle.far_firsts.specs.Lines.{key_of, IsPlain, ArePlain}
use Rattle.far_firsts.specs.Firsts.{firsts, is_among, unless_among, NoneTwice}
use Rattle.far_firsts.specs.Tallies.{AreCounted, how_often, stamped, tally}
use Rattle.far_firsts.specs.Tallying.{count_all, line_for, lines_for}
use Rattle.far_firsts.proofs.Cuts.{itself}
use Rattle.far_firsts.proofs.Newness.{next, same_key}
use Rattle.far_firsts.proofs.OneOfEach.{have, none_twice}

both_true : (x y : Bool) → (x ≡ true → y ≡ true) → (y ≡ true → x ≡ true) → x ≡ y
both_true true y f g = sym (f refl)
both_true false true f g = g refl
both_true false false f g = refl

not_both : (b : Bool) → b ≡ false → b ≡ true → ⊥
not_both b e f = cc

is_false : (b : Bool) → (b ≡ true → ⊥) → b ≡ false
is_false true f = absurd (f refl)
is_false false f = refl

or_left : (a b : Bool) → (a || b) ≡ false → a ≡ false
or_left true b e = e
or_left false b e = refl

or_right : (a b : Bool) → (a || b) ≡ false → b ≡ false
or_right true b e = absurd (not_both true e refl)
or_right false b e = e

bytes_same : (xs : List ℕ) → bytes_eq xs xs ≡ true
bytes_same xs = (bytes_eq-Decides xs xs).1 refl

bytes_sym : (xs ys : List ℕ) → bytes_eq xs ys ≡ bytes_eq ys xs
bytes_sym xs ys = both_true _ _ (λ e. (bytes_eq-Decides ys xs).1 (sym ((bytes_eq-Decides xs ys).0 e))) (λ e. (bytes_eq-Decides xs ys).1 (sym ((bytes_eq-Decides ys xs).0 e)))

-- ---- how often a line is there
pub often_join : (l : List ℕ) (xs ys : List (List ℕ)) → how_often l (xs ++ ys) ≡ how_often l xs + how_often l ys
often_join l [] ys = omega arith
often_join l (x ∷ xs) ys =
    let e : how_often l (xs ++ ys) ≡ how_often l xs + how_often l ys = often_join l xs ys in
    elim (bytes_eq l x) as (λ b. cond b (how_often l (xs ++ ys) + 1) (how_often l (xs ++ ys)) ≡ cond b (how_often l xs + 1) (how_often l xs) + how_often l ys) [
      | true ↦ omega (arith, e)
      | false ↦ e
    ]

pub often_none : (l : List ℕ) (xs : List (List ℕ)) → is_among l xs ≡ false → how_often l xs ≡ 0
often_none l [] e = refl
often_none l (x ∷ xs) e =
    ap (λ b. cond b (how_often l xs + 1) (how_often l xs)) (or_left (bytes_eq l x) (is_among l xs) e) ∙ often_none l xs (or_right (bytes_eq l x) (is_among l xs) e)

often_more : (l : List ℕ) (xs : List (List ℕ)) → how_often l (xs ++ l ∷ []) ≡ how_often l xs + 1
often_more l xs = often_join l xs (l ∷ []) ∙ ap (λ b. how_often l xs + cond b (0 + 1) 0) (bytes_same l)

often_other : (l x : List ℕ) (xs : List (List ℕ)) → bytes_eq l x ≡ false → how_often x (xs ++ l ∷ []) ≡ how_often x xs
often_other l x xs e =
    let none : how_often x (l ∷ []) ≡ 0 = ap (λ b. cond b (0 + 1) 0) (bytes_sym x l ∙ e) in
    omega (arith, often_join x xs (l ∷ []), none)

-- ---- a line more
abbrev paired : (List ℕ → ℕ) → List (List ℕ) → Counts
paired f ls = map (λ l. (l, f l)) ls

paired_join : (f : List ℕ → ℕ) (xs ys : List (List ℕ)) → paired f (xs ++ ys) ≡ paired f xs ++ paired f ys
paired_join f [] ys = refl
paired_join f (x ∷ xs) ys = ap (λ ps. (x, f x) ∷ ps) (paired_join f xs ys)

module _ (f g : List ℕ → ℕ) (l : List ℕ) (more : g l ≡ f l + 1) (others : (x : List ℕ) → bytes_eq l x ≡ false → g x ≡ f x) where
  same_pairs : (xs : List (List ℕ)) → is_among l xs ≡ false → paired f xs ≡ paired g xs
  same_pairs [] e = refl
  same_pairs (x ∷ xs) e = λ i. (x, sym (others x (or_left (bytes_eq l x) (is_among l xs) e)) i) ∷ same_pairs xs (or_right (bytes_eq l x) (is_among l xs) e) i

  counted_in : (xs : List (List ℕ)) → NoneTwice xs → counted (paired f xs) l ≡ paired g xs ++ cond (is_among l xs) [] ((l, 1) ∷ [])
  counted_in [] none = refl
  counted_in (x ∷ xs) none =
      elim (bytes_eq x l) as (λ b. bytes_eq x l ≡ b → cond b ((x, f x + 1) ∷ paired f xs) ((x, f x) ∷ counted (paired f xs) l) ≡ (x, g x) ∷ (paired g xs ++ cond (bytes_eq l x || is_among l xs) [] ((l, 1) ∷ []))) [
        | true ↦ λ is.
            let same : x ≡ l = (bytes_eq-Decides x l).0 is in
            let rest : is_among l xs ≡ false = ap (λ q. is_among q xs) (sym same) ∙ none.0 in
            let n : f x + 1 ≡ g x = ap (λ q. f q + 1) same ∙ sym more ∙ ap g (sym same) in
            (λ i. (x, n i) ∷ same_pairs xs rest i)
            ∙ ap (λ ps. (x, g x) ∷ ps) (sym (append-nil (paired g xs)) ∙ ap (λ b. paired g xs ++ cond (b || is_among l xs) [] ((l, 1) ∷ [])) (sym (bytes_sym l x ∙ is)))
        | false ↦ λ is.
            let other : bytes_eq l x ≡ false = bytes_sym l x ∙ is in
            (λ i. (x, sym (others x other) i) ∷ counted_in xs none.1 i)
            ∙ ap (λ b. (x, g x) ∷ (paired g xs ++ cond (b || is_among l xs) [] ((l, 1) ∷ []))) (sym other)
      ] refl

last_one : (g : List ℕ → ℕ) (l : List ℕ) (b : Bool) → (b ≡ false → g l ≡ 1) → paired g (cond b [] (l ∷ [])) ≡ cond b [] ((l, 1) ∷ [])
last_one g l true one = refl
last_one g l false one = ap (λ n. (l, n) ∷ []) (one refl)

pub tally_next : (lines : List (List ℕ)) (l : List ℕ) → tally (lines ++ l ∷ []) ≡ counted (tally lines) l
tally_next lines l =
    let f : List ℕ → ℕ = λ x. how_often x lines in
    let g : List ℕ → ℕ = λ x. how_often x (lines ++ l ∷ []) in
    let one : is_among l lines ≡ false → g l ≡ 1 = λ e. often_more l lines ∙ ap (λ n. n + 1) (often_none l lines e) in
    ap (paired g) (next lines l)
    ∙ paired_join g (firsts lines) (unless_among lines l)
    ∙ ap (λ ps. paired g (firsts lines) ++ ps) (last_one g l (is_among l lines) one ∙ ap (λ b. cond b [] ((l, 1) ∷ [])) (sym (have l [] lines)))
    ∙ sym (counted_in f g l (often_more l lines) (λ x e. often_other l x lines e) (firsts lines) (none_twice [] lines))

-- ---- all lines
abbrev count_lines : Counts → List (List ℕ) → Counts
count_lines counts [] = counts
count_lines counts (l ∷ ls) = count_lines (counted counts l) ls

counted_then : (lines ls : List (List ℕ)) → count_lines (tally lines) ls ≡ tally (lines ++ ls)
counted_then lines [] = ap tally (sym (append-nil lines))
counted_then lines (l ∷ ls) = ap (λ ps. count_lines ps ls) (sym (tally_next lines l)) ∙ counted_then (lines ++ l ∷ []) ls ∙ ap tally (append_assoc lines (l ∷ []) ls)

total_counted : (ps : Counts) (l : List ℕ) → total (counted ps l) ≡ total ps + 1
total_counted [] l = omega arith
total_counted (p ∷ ps) l =
    let e : total (counted ps l) ≡ total ps + 1 = total_counted ps l in
    elim (bytes_eq p.0 l) as (λ b. total (cond b ((p.0, p.1 + 1) ∷ ps) (p ∷ counted ps l)) ≡ p.1 + total ps + 1) [
      | true ↦ omega arith
      | false ↦ omega (arith, e)
    ]

total_lines : (ps : Counts) (ls : List (List ℕ)) → total (count_lines ps ls) ≡ total ps + length ls
total_lines ps [] = omega arith
total_lines ps (l ∷ ls) = omega (arith, total_lines (counted ps l) ls, total_counted ps l)

pub tally_total : (lines : List (List ℕ)) → total (tally lines) ≡ length lines
tally_total lines = ap total (sym (counted_then [] lines)) ∙ total_lines [] lines ∙ omega arith

pub tally_firsts : (lines ls : List (List ℕ)) → map (λ p. p.0) (paired (λ l. how_often l lines) ls) ≡ ls
tally_firsts lines [] = refl
tally_firsts lines (l ∷ ls) = ap (λ xs. l ∷ xs) (tally_firsts lines ls)

-- ---- by stamps
module _ (stamp : List ℕ → List ℕ) (q : List ℕ) where
  often_counted : (ps : Counts) (l : List ℕ) → often q (stamped stamp (counted ps l)) ≡ often q ((stamp l, 1) ∷ stamped stamp ps)
  often_counted [] l = refl
  often_counted (p ∷ ps) l =
      elim (bytes_eq p.0 l) as (λ b. bytes_eq p.0 l ≡ b → often q (stamped stamp (cond b ((p.0, p.1 + 1) ∷ ps) (p ∷ counted ps l))) ≡ often q ((stamp l, 1) ∷ stamped stamp (p ∷ ps))) [
        | true ↦ λ is. one_here (bytes_eq q (stamp p.0)) (bytes_eq q (stamp l)) p.1 (often q (stamped stamp ps)) (ap (λ x. bytes_eq q (stamp x)) ((bytes_eq-Decides p.0 l).0 is))
        | false ↦ λ is. one_more (bytes_eq q (stamp p.0)) (bytes_eq q (stamp l)) p.1 (often q (stamped stamp ps)) (often q (stamped stamp (counted ps l))) (often_counted ps l)
      ] refl

  and_one : (b : Bool) (t x p h : ℕ) → t ≡ x + h → x ≡ cond b (1 + p) p → t ≡ p + cond b (h + 1) h
  and_one true t x p h e f = omega (arith, e, f)
  and_one false t x p h e f = omega (arith, e, f)

  often_lines : (ps : Counts) (ls : List (List ℕ)) → often q (stamped stamp (count_lines ps ls)) ≡ often q (stamped stamp ps) + how_often q (map stamp ls)
  often_lines ps [] = omega arith
  often_lines ps (l ∷ ls) =
      and_one (bytes_eq q (stamp l)) (often q (stamped stamp (count_lines (counted ps l) ls))) (often q (stamped stamp (counted ps l))) (often q (stamped stamp ps)) (how_often q (map stamp ls))
      (often_lines (counted ps l) ls) (often_counted ps l)

pub tally_stamps : (stamp : List ℕ → List ℕ) (lines : List (List ℕ)) → AreCounted stamp lines (tally lines)
tally_stamps stamp lines q = ap (λ ps. often q (stamped stamp ps)) (sym (counted_then [] lines)) ∙ often_lines stamp q [] lines ∙ omega arith

-- ---- what stands for lines
abbrev keys_for : ℕ → Counts → Counts
keys_for end counts = map (λ p. (key_of end p.0, p.1)) counts

abbrev PlainCounts : ℕ → Counts → Type 0
PlainCounts end [] = ⊤
PlainCounts end (p ∷ ps) = IsPlain end p.0 × PlainCounts end ps

key_same : (end : ℕ) (l m : List ℕ) → IsPlain end l → IsPlain end m → bytes_eq (key_of end l) (key_of end m) ≡ bytes_eq l m
key_same end l m p q =
    both_true _ _ (λ e. (bytes_eq-Decides l m).1 (same_key end l m p q ((bytes_eq-Decides (key_of end l) (key_of end m)).0 e)))
    (λ e. (bytes_eq-Decides (key_of end l) (key_of end m)).1 (ap (key_of end) ((bytes_eq-Decides l m).0 e)))

counted_plain : (end : ℕ) (ps : Counts) (l : List ℕ) → PlainCounts end ps → IsPlain end l → PlainCounts end (counted ps l)
counted_plain end [] l p q = (q, tt)
counted_plain end (x ∷ ps) l p q =
    elim (bytes_eq x.0 l) as (λ b. PlainCounts end (cond b ((x.0, x.1 + 1) ∷ ps) (x ∷ counted ps l))) [
      | true ↦ p
      | false ↦ (p.0, counted_plain end ps l p.1 q)
    ]

counted_keys : (end : ℕ) (ps : Counts) (l : List ℕ) → PlainCounts end ps → IsPlain end l → counted (keys_for end ps) (key_of end l) ≡ keys_for end (counted ps l)
counted_keys end [] l p q = refl
counted_keys end (x ∷ ps) l p q =
    ap (λ b. cond b ((key_of end x.0, x.1 + 1) ∷ keys_for end ps) ((key_of end x.0, x.1) ∷ counted (keys_for end ps) (key_of end l))) (key_same end x.0 l p.0 q)
    ∙ elim (bytes_eq x.0 l) as (λ b. cond b ((key_of end x.0, x.1 + 1) ∷ keys_for end ps) ((key_of end x.0, x.1) ∷ counted (keys_for end ps) (key_of end l)) ≡ keys_for end (cond b ((x.0, x.1 + 1) ∷ ps) (x ∷ counted ps l))) [
      | true ↦ refl
      | false ↦ ap (λ ys. (key_of end x.0, x.1) ∷ ys) (counted_keys end ps l p.1 q)
    ]

all_keys : (end : ℕ) (ps : Counts) (ls : List (List ℕ)) → PlainCounts end ps → ArePlain end ls → count_all end (keys_for end ps) ls ≡ keys_for end (count_lines ps ls)
all_keys end ps [] p q = refl
all_keys end ps (l ∷ ls) p q = ap (λ ks. count_all end ks ls) (counted_keys end ps l p q.0) ∙ all_keys end (counted ps l) ls (counted_plain end ps l p q.0) q.1

all_plain : (end : ℕ) (ps : Counts) (ls : List (List ℕ)) → PlainCounts end ps → ArePlain end ls → PlainCounts end (count_lines ps ls)
all_plain end ps [] p q = p
all_plain end ps (l ∷ ls) p q = all_plain end (counted ps l) ls (counted_plain end ps l p q.0) q.1

line_back : (end : ℕ) (l : List ℕ) → IsPlain end l → line_for end (key_of end l) ≡ l
line_back end [] p = ap (λ b. cond b [] (end ∷ [])) (bytes_same (end ∷ []))
line_back end (x ∷ xs) p =
    let other : bytes_eq (x ∷ xs) (end ∷ []) ≡ false =
    is_false (bytes_eq (x ∷ xs) (end ∷ [])) (λ e. not_both (end == end) (subst (λ ys. IsPlain end ys) ((bytes_eq-Decides (x ∷ xs) (end ∷ [])).0 e) p).0 (itself end)) in
    ap (λ b. cond b [] (x ∷ xs)) other

lines_back : (end : ℕ) (ps : Counts) → PlainCounts end ps → lines_for end (keys_for end ps) ≡ ps
lines_back end [] p = refl
lines_back end (x ∷ ps) p = λ i. (line_back end x.0 p.0 i, x.1) ∷ lines_back end ps p.1 i

-- what stands for the lines of a text was counted: the lines' tally
pub tally_of : (end : ℕ) (ls : List (List ℕ)) → ArePlain end ls → lines_for end (count_all end [] ls) ≡ tally ls
tally_of end ls q = ap (lines_for end) (all_keys end [] ls tt q) ∙ lines_back end (count_lines [] ls) (all_plain end [] ls tt q) ∙ counted_then [] ls
