-- A text, cut into lines.
use Rattle.std.proofs.Common.{◌≡◌, ℕ, zero, suc, ◌+◌, ◌<◌, ◌≤◌, ◌==◌, Bool, true, false, cond, List, [], ◌∷◌, ◌++◌, length, take, drop, slice_index, refl, sym, ◌∙◌, ap, subst, arith}
use Rattle.std.proofs.lemmas.Bool.Decides.{Decides-eqb}
use Rattle.std.proofs.lemmas.List.{append_assoc, length-append, take-append-drop, drop_more, take_all}
use Rattle.far_firsts.specs.Lines.{onto_first, lines_of, text_of, closed, ends_in, IsPlain, ArePlain}
use Rattle.far_firsts.specs.Doing.{last_of}

pub itself : (e : ℕ) → (e == e) ≡ true
itself e = (Decides-eqb e e).1 refl

is_false : (b : Bool) → (b ≡ true → ⊥) → b ≡ false
is_false true f = absurd (f refl)
is_false false f = refl

-- ---- plain bytes
pub plain_join : (end : ℕ) (xs ys : List ℕ) → IsPlain end xs → IsPlain end ys → IsPlain end (xs ++ ys)
plain_join end [] ys p q = q
plain_join end (x ∷ xs) ys p q = (p.0, plain_join end xs ys p.1 q)

pub all_plain_join : (end : ℕ) (ls ms : List (List ℕ)) → ArePlain end ls → ArePlain end ms → ArePlain end (ls ++ ms)
all_plain_join end [] ms p q = q
all_plain_join end (l ∷ ls) ms p q = (p.0, all_plain_join end ls ms p.1 q)

-- bytes of which none is found
pub plain_to : (end : ℕ) (xs : List ℕ) (n : ℕ) → n ≤ length xs → ((k : ℕ) → 0 ≤ k → k < n → (slice_index xs k == end) ≡ true → ⊥) → IsPlain end (take n xs)
plain_to end xs zero l none = tt
plain_to end [] (suc n) l none = tt
plain_to end (x ∷ xs) (suc n) l none = (
  is_false (x == end) (none 0 (omega arith) (omega arith)),
  plain_to end xs n (omega (arith, l)) (λ k low high. none (suc k) (omega arith) (omega (arith, high))),
)

pub all_plain : (end : ℕ) (xs : List ℕ) → ((k : ℕ) → 0 ≤ k → k < length xs → (slice_index xs k == end) ≡ true → ⊥) → IsPlain end xs
all_plain end xs none = subst (IsPlain end) (take_all (length xs) xs (omega arith)) (plain_to end xs (length xs) (omega arith) none)

-- where an end was found
pub cut_at : (end i : ℕ) (xs : List ℕ) → i < length xs → (slice_index xs i == end) ≡ true → xs ≡ (take i xs ++ end ∷ []) ++ drop (i + 1) xs
cut_at end i xs l is =
    let x : slice_index xs i ≡ end = (Decides-eqb (slice_index xs i) end).0 is in
    sym (take-append-drop i xs) ∙ ap (λ r. take i xs ++ r) (drop_more xs i 0 l ∙ ap (λ b. b ∷ drop (i + 1) xs) x) ∙ sym (append_assoc (take i xs) (end ∷ []) (drop (i + 1) xs))

-- ---- lines
pub lines_more : (end : ℕ) (l ys : List ℕ) → IsPlain end l → lines_of end ((l ++ end ∷ []) ++ ys) ≡ l ∷ lines_of end ys
lines_more end [] ys p = ap (λ b. cond b ([] ∷ lines_of end ys) (onto_first end (lines_of end ys))) (itself end)
lines_more end (x ∷ xs) ys p =
    ap (λ b. cond b ([] ∷ lines_of end ((xs ++ end ∷ []) ++ ys)) (onto_first x (lines_of end ((xs ++ end ∷ []) ++ ys)))) p.0
    ∙ ap (onto_first x) (lines_more end xs ys p.1)

pub lines_join : (end : ℕ) (ls : List (List ℕ)) (ys : List ℕ) → ArePlain end ls → lines_of end (text_of end ls ++ ys) ≡ ls ++ lines_of end ys
lines_join end [] ys p = refl
lines_join end (l ∷ ls) ys p =
    ap (lines_of end) (append_assoc (l ++ end ∷ []) (text_of end ls) ys)
    ∙ lines_more end l (text_of end ls ++ ys) p.0
    ∙ ap (λ r. l ∷ r) (lines_join end ls ys p.1)

onto_last : (x : ℕ) (xs : List ℕ) → onto_first x (last_of xs) ≡ (x ∷ xs) ∷ []
onto_last x [] = refl
onto_last x (y ∷ ys) = refl

pub lines_last : (end : ℕ) (l : List ℕ) → IsPlain end l → lines_of end l ≡ last_of l
lines_last end [] p = refl
lines_last end (x ∷ xs) p =
    ap (λ b. cond b ([] ∷ lines_of end xs) (onto_first x (lines_of end xs))) p.0
    ∙ ap (onto_first x) (lines_last end xs p.1) ∙ onto_last x xs

pub text_join : (end : ℕ) (xs ys : List (List ℕ)) → text_of end (xs ++ ys) ≡ text_of end xs ++ text_of end ys
text_join end [] ys = refl
text_join end (l ∷ ls) ys = ap (λ t. (l ++ end ∷ []) ++ t) (text_join end ls ys) ∙ sym (append_assoc (l ++ end ∷ []) (text_of end ls) (text_of end ys))

-- ---- the first line of some bytes
onto_some : (y : ℕ) (ls : List (List ℕ)) → (l : List ℕ) × (ms : List (List ℕ)) × (onto_first y ls ≡ l ∷ ms)
onto_some y [] = (y ∷ [], [], refl)
onto_some y (l ∷ ls) = (y ∷ l, ls, refl)

some_line : (end y : ℕ) (ys : List ℕ) → (l : List ℕ) × (ls : List (List ℕ)) × (lines_of end (y ∷ ys) ≡ l ∷ ls)
some_line end y ys =
    elim (y == end) as (λ b. (l : List ℕ) × (ls : List (List ℕ)) × (cond b ([] ∷ lines_of end ys) (onto_first y (lines_of end ys)) ≡ l ∷ ls)) [
      | true ↦ ([], lines_of end ys, refl)
      | false ↦ onto_some y (lines_of end ys)
    ]

onto : (end x : ℕ) (xs : List ℕ) → (x == end) ≡ false → lines_of end (x ∷ xs) ≡ onto_first x (lines_of end xs)
onto end x xs p = ap (λ b. cond b ([] ∷ lines_of end xs) (onto_first x (lines_of end xs))) p

-- plain bytes begin a line
pub first_line : (end : ℕ) (xs ys : List ℕ) → IsPlain end xs → 0 < length (xs ++ ys) → (l : List ℕ) × (ls : List (List ℕ)) × (lines_of end (xs ++ ys) ≡ (xs ++ l) ∷ ls)
first_line end [] [] p some = absurd (omega (arith, some))
first_line end [] (y ∷ ys) p some = some_line end y ys
first_line end (x ∷ []) [] p some = ([], [], onto end x [] p.0)
first_line end (x ∷ []) (y ∷ ys) p some =
    let more = some_line end y ys in
    (more.0, more.1, onto end x (y ∷ ys) p.0 ∙ ap (onto_first x) more.2)
first_line end (x ∷ z ∷ zs) ys p some =
    let more = first_line end (z ∷ zs) ys p.1 (omega arith) in
    (more.0, more.1, onto end x (z ∷ (zs ++ ys)) p.0 ∙ ap (onto_first x) more.2)

-- ---- ends
ends_join : (end : ℕ) (xs ys : List ℕ) → ends_in end (xs ++ ys) ≡ ends_in end xs + ends_in end ys
ends_join end [] ys = omega arith
ends_join end (x ∷ xs) ys =
    let e : ends_in end (xs ++ ys) ≡ ends_in end xs + ends_in end ys = ends_join end xs ys in
    elim (x == end) as (λ b. cond b (ends_in end (xs ++ ys) + 1) (ends_in end (xs ++ ys)) ≡ cond b (ends_in end xs + 1) (ends_in end xs) + ends_in end ys) [
      | true ↦ omega (arith, e)
      | false ↦ e
    ]

ends_plain : (end : ℕ) (xs : List ℕ) → IsPlain end xs → ends_in end xs ≡ 0
ends_plain end [] p = refl
ends_plain end (x ∷ xs) p = ap (λ b. cond b (ends_in end xs + 1) (ends_in end xs)) p.0 ∙ ends_plain end xs p.1

ends_one : (end : ℕ) → ends_in end (end ∷ []) ≡ 1
ends_one end = ap (λ b. cond b (0 + 1) 0) (itself end)

ends_line : (end : ℕ) (l : List ℕ) → IsPlain end l → ends_in end (l ++ end ∷ []) ≡ 1
ends_line end l p = omega (arith, ends_join end l (end ∷ []), ends_plain end l p, ends_one end)

pub ends_of : (end : ℕ) (ls : List (List ℕ)) (part : List ℕ) → ArePlain end ls → IsPlain end part → ends_in end (text_of end ls ++ part) ≡ length ls
ends_of end [] part p q = ends_plain end part q
ends_of end (l ∷ ls) part p q =
    let more : ends_in end (text_of end ls ++ part) ≡ length ls = ends_of end ls part p.1 q in
    let one : ends_in end (l ++ end ∷ []) ≡ 1 = ends_line end l p.0 in
    let both : ends_in end ((l ++ end ∷ []) ++ (text_of end ls ++ part)) ≡ ends_in end (l ++ end ∷ []) + ends_in end (text_of end ls ++ part) = ends_join end (l ++ end ∷ []) (text_of end ls ++ part) in
    ap (ends_in end) (append_assoc (l ++ end ∷ []) (text_of end ls) part) ∙ omega (arith, more, one, both)

-- each line has an end, so there are no more than bytes
pub lines_within : (end : ℕ) (ls : List (List ℕ)) → length ls ≤ length (text_of end ls)
lines_within end [] = omega arith
lines_within end (l ∷ ls) =
    omega (arith, lines_within end ls, length-append (l ++ end ∷ []) (text_of end ls), length-append l (end ∷ []))

-- ---- lines are between ends
onto_plain : (end x : ℕ) (ls : List (List ℕ)) → (x == end) ≡ false → ArePlain end ls → ArePlain end (onto_first x ls)
onto_plain end x [] p q = ((p, tt), tt)
onto_plain end x (l ∷ ls) p q = ((p, q.0), q.1)

pub lines_plain : (end : ℕ) (xs : List ℕ) → ArePlain end (lines_of end xs)
lines_plain end [] = tt
lines_plain end (x ∷ xs) =
    elim (x == end) as (λ b. (x == end) ≡ b → ArePlain end (cond b ([] ∷ lines_of end xs) (onto_first x (lines_of end xs)))) [
      | true ↦ λ is. (tt, lines_plain end xs)
      | false ↦ λ is. onto_plain end x (lines_of end xs) is (lines_plain end xs)
    ] refl

onto_text : (end x : ℕ) (xs l : List ℕ) (ls : List (List ℕ)) → lines_of end xs ≡ l ∷ ls → text_of end (onto_first x (lines_of end xs)) ≡ x ∷ text_of end (lines_of end xs)
onto_text end x xs l ls is = ap (λ k. text_of end (onto_first x k)) is ∙ sym (ap (λ k. x ∷ text_of end k) is)

pub text_lines : (end : ℕ) (xs : List ℕ) → text_of end (lines_of end xs) ≡ closed end xs
text_lines end [] = refl
text_lines end (x ∷ []) =
    elim (x == end) as (λ b. (x == end) ≡ b → text_of end (cond b ([] ∷ []) (onto_first x [])) ≡ cond b (x ∷ []) (x ∷ end ∷ [])) [
      | true ↦ λ is. ap (λ y. y ∷ []) (sym ((Decides-eqb x end).0 is))
      | false ↦ λ is. refl
    ] refl
text_lines end (x ∷ y ∷ ys) =
    let some = some_line end y ys in
    elim (x == end) as (λ b. (x == end) ≡ b → text_of end (cond b ([] ∷ lines_of end (y ∷ ys)) (onto_first x (lines_of end (y ∷ ys)))) ≡ x ∷ closed end (y ∷ ys)) [
      | true ↦ λ is. (λ i. sym ((Decides-eqb x end).0 is) i ∷ text_lines end (y ∷ ys) i)
      | false ↦ λ is. onto_text end x (y ∷ ys) some.0 some.1 some.2 ∙ ap (λ t. x ∷ t) (text_lines end (y ∷ ys))
    ] refl
