-- The first lines of each kind, in other words.
use Rattle.std.proofs.Common.{◌≡◌, ℕ, Bool, true, false, cond, not, ◌&&◌, ◌||◌, List, [], ◌∷◌, ◌++◌, inl, inr, refl, sym, ◌∙◌, ap, subst}
use Rattle.std.specs.Str.{bytes_eq}
use Rattle.std.proofs.lemmas.Slice.Eq.{bytes_eq-Decides}
use Rattle.far_firsts.specs.Firsts.{is_among, firsts_after, NoneTwice, IsPartOf}

leaves_out : (l : List ℕ) (ys xs : List (List ℕ)) → IsPartOf ys xs → IsPartOf ys (l ∷ xs)
leaves_out l [] xs p = tt
leaves_out l (y ∷ ys) xs p = inr p

leaves_all_out : (ls ys xs : List (List ℕ)) → IsPartOf ys xs → IsPartOf ys (ls ++ xs)
leaves_all_out [] ys xs p = p
leaves_all_out (l ∷ ls) ys xs p = leaves_out l ys (ls ++ xs) (leaves_all_out ls ys xs p)

pub part_join : (xs ys ls ms : List (List ℕ)) → IsPartOf xs ls → IsPartOf ys ms → IsPartOf (xs ++ ys) (ls ++ ms)
part_join [] ys ls ms p q = leaves_all_out ls ys ms q
part_join (x ∷ xs) ys [] ms p q = absurd p
part_join (x ∷ xs) ys (l ∷ ls) ms p q = elim p [
  | inl e ↦ inl (e.0, part_join xs ys ls ms e.1 q)
  | inr r ↦ inr (part_join (x ∷ xs) ys ls ms r q)
]

pub one_part : (known : Bool) (l : List ℕ) → IsPartOf (cond known [] (l ∷ [])) (l ∷ [])
one_part true l = tt
one_part false l = inl (refl, tt)

-- a line that is left out for one of its stamp
pub first_part : (known there : Bool) (l : List ℕ) → (known ≡ true → there ≡ true) → IsPartOf (cond there [] (l ∷ []) ++ []) (cond known [] (l ∷ []))
first_part true there l f = subst (λ b. IsPartOf (cond b [] (l ∷ []) ++ []) []) (sym (f refl)) tt
first_part false true l f = tt
first_part false false l f = inl (refl, tt)

pub are_part : (before xs : List (List ℕ)) → IsPartOf (firsts_after before xs) xs
are_part before [] = tt
are_part before (l ∷ ls) =
    elim (is_among l before) as (λ b. IsPartOf (cond b [] (l ∷ []) ++ firsts_after (l ∷ before) ls) (l ∷ ls)) [
      | true ↦ leaves_out l (firsts_after (l ∷ before) ls) ls (are_part (l ∷ before) ls)
      | false ↦ inl (refl, are_part (l ∷ before) ls)
    ]

same_line : (q l : List ℕ) (before : List (List ℕ)) (b : Bool) → bytes_eq q l ≡ true → is_among l before ≡ b → is_among q before ≡ b
same_line q l before b e is = ap (λ k. is_among k before) ((bytes_eq-Decides q l).0 e) ∙ is

-- the four cases of a line and another one
step : (eq here rest : Bool) → (eq ≡ true → here ≡ true) → (not (eq || here) && rest) ≡ (not here && (eq || rest))
step true here rest f = sym (ap (λ b. not b && true) (f refl))
step false here rest f = refl

step_new : (eq here rest : Bool) → (eq ≡ true → here ≡ false) → (eq || (not (eq || here) && rest)) ≡ (not here && (eq || rest))
step_new true here rest f = sym (ap (λ b. not b && true) (f refl))
step_new false here rest f = refl

pub have : (q : List ℕ) (before xs : List (List ℕ)) → is_among q (firsts_after before xs) ≡ (not (is_among q before) && is_among q xs)
have q before [] = nothing (is_among q before)
  where
    nothing : (b : Bool) → false ≡ (not b && false)
    nothing true = refl
    nothing false = refl
have q before (l ∷ ls) =
    elim (is_among l before) as (λ b. is_among l before ≡ b → is_among q (cond b [] (l ∷ []) ++ firsts_after (l ∷ before) ls) ≡ (not (is_among q before) && (bytes_eq q l || is_among q ls))) [
      | true ↦ λ is. have q (l ∷ before) ls ∙ step (bytes_eq q l) (is_among q before) (is_among q ls) (λ e. same_line q l before true e is)
      | false ↦ λ is. ap (λ b. bytes_eq q l || b) (have q (l ∷ before) ls) ∙ step_new (bytes_eq q l) (is_among q before) (is_among q ls) (λ e. same_line q l before false e is)
    ] refl

itself : (l : List ℕ) → bytes_eq l l ≡ true
itself l = (bytes_eq-Decides l l).1 refl

pub none_twice : (before xs : List (List ℕ)) → NoneTwice (firsts_after before xs)
none_twice before [] = tt
none_twice before (l ∷ ls) =
    elim (is_among l before) as (λ b. NoneTwice (cond b [] (l ∷ []) ++ firsts_after (l ∷ before) ls)) [
      | true ↦ none_twice (l ∷ before) ls
      | false ↦ (have l (l ∷ before) ls ∙ ap (λ b. not (b || is_among l before) && is_among l ls) (itself l), none_twice (l ∷ before) ls)
    ]
