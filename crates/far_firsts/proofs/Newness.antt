-- The first line of each kind, by a set of what stands for lines.
use Rattle.std.proofs.Common.{◌≡◌, ℕ, ◌==◌, Bool, true, false, cond, ◌||◌, List, [], ◌∷◌, ◌++◌, take, drop, map, refl, sym, ◌∙◌, ap, subst}
use Rattle.std.specs.List.{list_any}
use Rattle.std.specs.Cmp.Lexicographic.{nat_list_cmp_total, texts_ties}
use Rattle.std.specs.Str.{bytes_eq}
use Rattle.std.specs.FinSet as set
use Rattle.std.proofs.lemmas.Slice.Eq.{bytes_eq-Decides}
use Rattle.std.proofs.lemmas.List.{append-nil, append_assoc, take-append-drop}
use Rattle.far_seen.specs.Lines.{LineSet}
use Rattle.far_seen.proofs.Members.{tied, ties}
use Rattle.far_firsts.specs.Lines.{text_of, key_of, IsPlain, ArePlain}
use Rattle.far_firsts.specs.Firsts.{is_among, unless_among, firsts_after, firsts, firsts_by, came}
use Rattle.far_firsts.specs.Doing.{news, put_all, unless_in}
use Rattle.far_firsts.proofs.Cuts.{itself, text_join}

pub firsts_join : (before xs ys : List (List ℕ)) → firsts_after before (xs ++ ys) ≡ firsts_after before xs ++ firsts_after (came xs before) ys
firsts_join before [] ys = refl
firsts_join before (l ∷ ls) ys = ap (λ t. unless_among before l ++ t) (firsts_join (l ∷ before) ls ys) ∙ sym (append_assoc (unless_among before l) (firsts_after (l ∷ before) ls) (firsts_after (came ls (l ∷ before)) ys))

-- what is printed of the first lines is how all that is printed begins
pub prefix : (end n : ℕ) (lines : List (List ℕ)) → (rest : List ℕ) × (text_of end (firsts lines) ≡ text_of end (firsts (take n lines)) ++ rest)
prefix end n lines = (
  text_of end (firsts_after (came (take n lines) []) (drop n lines)),
  ap (λ ls. text_of end (firsts ls)) (sym (take-append-drop n lines))
      ∙ ap (text_of end) (firsts_join [] (take n lines) (drop n lines))
      ∙ text_join end (firsts (take n lines)) (firsts_after (came (take n lines) []) (drop n lines)),
)

-- ---- a line that comes next
or_moved : (a b c : Bool) → (b || (a || c)) ≡ ((a || b) || c)
or_moved true true c = refl
or_moved true false c = refl
or_moved false b c = refl

among_came : (line : List ℕ) (ls before : List (List ℕ)) → is_among line (came ls before) ≡ (is_among line ls || is_among line before)
among_came line [] before = refl
among_came line (l ∷ ls) before = among_came line ls (l ∷ before) ∙ or_moved (bytes_eq line l) (is_among line ls) (is_among line before)

or_none : (b : Bool) → (b || false) ≡ b
or_none true = refl
or_none false = refl

pub next : (lines : List (List ℕ)) (line : List ℕ) → firsts (lines ++ line ∷ []) ≡ firsts lines ++ unless_among lines line
next lines line =
    let same : is_among line (came lines []) ≡ is_among line lines = among_came line lines [] ∙ or_none (is_among line lines) in
    firsts_join [] lines (line ∷ [])
    ∙ ap (λ t. firsts lines ++ t) (append-nil (unless_among (came lines []) line) ∙ ap (λ b. cond b [] (line ∷ [])) same)

-- ---- what stands for lines
false_true : (b : Bool) → b ≡ false → b ≡ true → ⊥
false_true b e f = cc

end_is_not : (end : ℕ) (xs : List ℕ) → IsPlain end (end ∷ xs) → ⊥
end_is_not end xs p = false_true (end == end) p.0 (itself end)

pub same_key : (end : ℕ) (l m : List ℕ) → IsPlain end l → IsPlain end m → key_of end l ≡ key_of end m → l ≡ m
same_key end [] [] p q e = refl
same_key end [] (y ∷ ys) p q e = absurd (end_is_not end [] (subst (IsPlain end) (sym e) q))
same_key end (x ∷ xs) [] p q e = absurd (end_is_not end [] (subst (IsPlain end) e p))
same_key end (x ∷ xs) (y ∷ ys) p q e = e

both_true : (x y : Bool) → (x ≡ true → y ≡ true) → (y ≡ true → x ≡ true) → x ≡ y
both_true true y f g = sym (f refl)
both_true false true f g = g refl
both_true false false f g = refl

same_tie : (end : ℕ) (l m : List ℕ) → IsPlain end l → IsPlain end m → tied (key_of end l) (key_of end m) ≡ bytes_eq l m
same_tie end l m p q =
    both_true _ _ (λ e. (bytes_eq-Decides l m).1 (same_key end l m p q ((ties (key_of end l) (key_of end m)).0 e)))
    (λ e. (ties (key_of end l) (key_of end m)).1 (ap (key_of end) ((bytes_eq-Decides l m).0 e)))

among_keys : (end : ℕ) (l : List ℕ) (ms : List (List ℕ)) → IsPlain end l → ArePlain end ms → list_any (tied (key_of end l)) (map (key_of end) ms) ≡ is_among l ms
among_keys end l [] p q = refl
among_keys end l (m ∷ ms) p q = λ i. same_tie end l m p q.0 i || among_keys end l ms p q.1 i

-- whether a line came before, by the set of what stands for lines
is_known : (end : ℕ) (lines : LineSet) (l : List ℕ) (ms : List (List ℕ)) → lines ≡ set.from_list (map (key_of end) ms) → IsPlain end l → ArePlain end ms → set.contains lines (key_of end l) ≡ is_among l ms
is_known end lines l ms is p q =
    ap (λ s. set.contains s (key_of end l)) is ∙ set.contains-from_list nat_list_cmp_total (map (key_of end) ms) (key_of end l) ∙ among_keys end l ms p q

news_after : (end : ℕ) (lines : LineSet) (before ls : List (List ℕ)) → lines ≡ set.from_list (map (key_of end) before) → ArePlain end before → ArePlain end ls → news (key_of end) lines ls ≡ firsts_after before ls
news_after end lines before [] is p q = refl
news_after end lines before (l ∷ ls) is p q =
    let here : unless_in (key_of end) lines l ≡ unless_among before l = ap (λ b. cond b [] (l ∷ [])) (is_known end lines l before is q.0 p) in
    let there : news (key_of end) (set.insert lines (key_of end l)) ls ≡ firsts_after (l ∷ before) ls =
    news_after end (set.insert lines (key_of end l)) (l ∷ before) ls (ap (λ s. set.insert s (key_of end l)) is) (q.0, p) q.1 in
    λ i. here i ++ there i

-- of lines that come to an empty set the new ones are the first of each kind
pub news_are : (end : ℕ) (lines : LineSet) (ls : List (List ℕ)) → lines ≡ set.empty → ArePlain end ls → news (key_of end) lines ls ≡ firsts ls
news_are end lines ls none p = news_after end lines [] ls none tt p

-- ---- by stamps
among_tied : (q : List ℕ) (ms : List (List ℕ)) → list_any (tied q) ms ≡ is_among q ms
among_tied q [] = refl
among_tied q (m ∷ ms) = λ i. sym (texts_ties q m) i || among_tied q ms i

firsts_after_by : (stamp : List ℕ → List ℕ) (stamps : LineSet) (before ls : List (List ℕ)) → stamps ≡ set.from_list before → news stamp stamps ls ≡ firsts_by stamp before ls
firsts_after_by stamp stamps before [] is = refl
firsts_after_by stamp stamps before (l ∷ ls) is =
    let known : set.contains stamps (stamp l) ≡ is_among (stamp l) before =
    ap (λ s. set.contains s (stamp l)) is ∙ set.contains-from_list nat_list_cmp_total before (stamp l) ∙ among_tied (stamp l) before in
    let there : news stamp (set.insert stamps (stamp l)) ls ≡ firsts_by stamp (stamp l ∷ before) ls = firsts_after_by stamp (set.insert stamps (stamp l)) (stamp l ∷ before) ls (ap (λ s. set.insert s (stamp l)) is) in
    λ i. cond (known i) [] (l ∷ []) ++ there i

-- of lines that come to an empty set the new ones are the first of each stamp
pub firsts_are : (stamp : List ℕ → List ℕ) (stamps : LineSet) (ls : List (List ℕ)) → stamps ≡ set.empty → news stamp stamps ls ≡ firsts_by stamp [] ls
firsts_are stamp stamps ls none = firsts_after_by stamp stamps [] ls none

-- ---- lines after lines
pub put_join : (key : List ℕ → List ℕ) (keys : LineSet) (xs ys : List (List ℕ)) → put_all key keys (xs ++ ys) ≡ put_all key (put_all key keys xs) ys
put_join key keys [] ys = refl
put_join key keys (l ∷ ls) ys = put_join key (set.insert keys (key l)) ls ys

pub news_join : (key : List ℕ → List ℕ) (keys : LineSet) (xs ys : List (List ℕ)) → news key keys (xs ++ ys) ≡ news key keys xs ++ news key (put_all key keys xs) ys
news_join key keys [] ys = refl
news_join key keys (l ∷ ls) ys =
    ap (λ t. unless_in key keys l ++ t) (news_join key (set.insert keys (key l)) ls ys)
    ∙ sym (append_assoc (unless_in key keys l) (news key (set.insert keys (key l)) ls) (news key (put_all key (set.insert keys (key l)) ls) ys))

pub text_one : (end : ℕ) (known : Bool) (l : List ℕ) → text_of end (cond known [] (l ∷ [])) ≡ cond known [] (l ++ end ∷ [])
text_one end true l = refl
text_one end false l = append-nil (l ++ end ∷ [])
