-- What is printed whatever the far side gives, in other words.
use Rattle.std.proofs.Common.{◌≡◌, ℕ, Bool, true, false, cond, ◌||◌, List, [], ◌∷◌, ◌++◌, ◌⊎◌, inl, inr, map, refl, sym, ◌∙◌, ap, subst}
use Rattle.std.specs.Str.{bytes_eq}
use Rattle.std.proofs.lemmas.Slice.Eq.{bytes_eq-Decides}
use Rattle.far_firsts.specs.Firsts.{is_among, firsts, firsts_after, firsts_by, IsPartOf}

no_two : false ≡ true → ⊥
no_two e = cc

either : (a b : Bool) → (a || b) ≡ true → (a ≡ true) ⊎ (b ≡ true)
either true b e = inl refl
either false b e = inr e

left : (a b : Bool) → a ≡ true → (a || b) ≡ true
left a b e = ap (λ x. x || b) e

right : (a b : Bool) → b ≡ true → (a || b) ≡ true
right true b e = refl
right false b e = e

both_true : (x y : Bool) → (x ≡ true → y ≡ true) → (y ≡ true → x ≡ true) → x ≡ y
both_true true y f g = sym (f refl)
both_true false true f g = g refl
both_true false false f g = refl

same : (q l : List ℕ) → bytes_eq q l ≡ true → q ≡ l
same q l e = (bytes_eq-Decides q l).0 e

itself : (l : List ℕ) (ls : List (List ℕ)) → is_among l (l ∷ ls) ≡ true
itself l ls = left (bytes_eq l l) (is_among l ls) ((bytes_eq-Decides l l).1 refl)

-- ---- one of each stamp
module _ (stamp : List ℕ → List ℕ) (q : List ℕ) where
  -- a line that has q's stamp: it stands there, or one of the stamp came before
  abbrev Stamped : List (List ℕ) → List (List ℕ) → Type 0
  Stamped before ls = (is_among (stamp q) before ≡ true) ⊎ (is_among (stamp q) (map stamp (firsts_by stamp before ls)) ≡ true)

  here : (b : Bool) (l : List ℕ) (before ls : List (List ℕ)) → is_among (stamp l) before ≡ b → stamp q ≡ stamp l → Stamped before (l ∷ ls)
  here true l before ls is e = inl (ap (λ k. is_among k before) e ∙ is)
  here false l before ls is e =
      let rest = firsts_by stamp (stamp l ∷ before) ls in
      inr (ap (λ c. is_among (stamp q) (map stamp (cond c [] (l ∷ []) ++ rest))) is
      ∙ left (bytes_eq (stamp q) (stamp l)) (is_among (stamp q) (map stamp rest)) ((bytes_eq-Decides (stamp q) (stamp l)).1 e))

  later : (b : Bool) (l : List ℕ) (rest : List (List ℕ)) → is_among (stamp q) (map stamp rest) ≡ true → is_among (stamp q) (map stamp (cond b [] (l ∷ []) ++ rest)) ≡ true
  later true l rest e = e
  later false l rest e = right (bytes_eq (stamp q) (stamp l)) (is_among (stamp q) (map stamp rest)) e

  stamped : (before ls : List (List ℕ)) → is_among q ls ≡ true → Stamped before ls
  stamped before [] e = absurd (no_two e)
  stamped before (l ∷ ls) e =
      let came = is_among (stamp l) before in
      elim (either (bytes_eq q l) (is_among q ls) e) [
        | inl is ↦ here came l before ls refl (ap stamp (same q l is))
        | inr more ↦ elim (stamped (stamp l ∷ before) ls more) [
          | inl old ↦ elim (either (bytes_eq (stamp q) (stamp l)) (is_among (stamp q) before) old) [
            | inl is ↦ here came l before ls refl (same (stamp q) (stamp l) is)
            | inr was ↦ inl was
          ]
          | inr there ↦ inr (later came l (firsts_by stamp (stamp l ∷ before) ls) there)
        ]
      ]

  part_has : (ys xs : List (List ℕ)) → IsPartOf ys xs → is_among (stamp q) (map stamp ys) ≡ true → is_among (stamp q) (map stamp xs) ≡ true
  part_has [] xs p e = absurd (no_two e)
  part_has (y ∷ ys) [] p e = absurd p
  part_has (y ∷ ys) (x ∷ xs) p e =
      let first = bytes_eq (stamp q) (stamp x) in
      let others = is_among (stamp q) (map stamp xs) in
      elim p [
        | inl s ↦ elim (either (bytes_eq (stamp q) (stamp y)) (is_among (stamp q) (map stamp ys)) e) [
          | inl is ↦ left first others (ap (λ z. bytes_eq (stamp q) (stamp z)) (sym s.0) ∙ is)
          | inr more ↦ right first others (part_has ys xs s.1 more)
        ]
        | inr r ↦ right first others (part_has (y ∷ ys) xs r e)
      ]

  pub each : (lines printed : List (List ℕ)) → IsPartOf (firsts_by stamp [] lines) printed → is_among q lines ≡ true → is_among (stamp q) (map stamp printed) ≡ true
  each lines printed p e = elim (stamped [] lines e) [
    | inl none ↦ absurd (no_two none)
    | inr there ↦ part_has (firsts_by stamp [] lines) printed p there
  ]

-- ---- stamps that are apart
module _ (stamp : List ℕ → List ℕ) (P : List ℕ → Type 0) (apart : (l m : List ℕ) → P l → P m → stamp l ≡ stamp m → l ≡ m) where
  same_among : (l : List ℕ) (ms : List (List ℕ)) → P l → ((m : List ℕ) → is_among m ms ≡ true → P m) → is_among (stamp l) (map stamp ms) ≡ is_among l ms
  same_among l [] p f = refl
  same_among l (m ∷ ms) p f =
      let tie : bytes_eq (stamp l) (stamp m) ≡ bytes_eq l m =
      both_true _ _ (λ e. (bytes_eq-Decides l m).1 (apart l m p (f m (itself m ms)) (same (stamp l) (stamp m) e))) (λ e. (bytes_eq-Decides (stamp l) (stamp m)).1 (ap stamp (same l m e))) in
      let rest = same_among l ms p (λ k h. f k (right (bytes_eq k m) (is_among k ms) h)) in
      λ i. tie i || rest i

  firsts_same : (before ls : List (List ℕ)) → ((m : List ℕ) → is_among m before ≡ true → P m) → ((m : List ℕ) → is_among m ls ≡ true → P m) → firsts_by stamp (map stamp before) ls ≡ firsts_after before ls
  firsts_same before [] f g = refl
  firsts_same before (l ∷ ls) f g =
      let p : P l = g l (itself l ls) in
      let known : is_among (stamp l) (map stamp before) ≡ is_among l before = same_among l before p f in
      let rest : firsts_by stamp (map stamp (l ∷ before)) ls ≡ firsts_after (l ∷ before) ls = firsts_same (l ∷ before) ls
      (λ m h. elim (either (bytes_eq m l) (is_among m before) h) [
        | inl is ↦ subst P (sym (same m l is)) p
        | inr was ↦ f m was
      ])
      (λ m h. g m (right (bytes_eq m l) (is_among m ls) h)) in
      λ i. cond (known i) [] (l ∷ []) ++ rest i

pub all_firsts : (stamp : List ℕ → List ℕ) (lines : List (List ℕ)) → ((l m : List ℕ) → is_among l lines ≡ true → is_among m lines ≡ true → stamp l ≡ stamp m → l ≡ m) → firsts_by stamp [] lines ≡ firsts lines
all_firsts stamp lines apart = firsts_same stamp (λ m. is_among m lines ≡ true) apart [] lines (λ m h. absurd (no_two h)) (λ m h. h)

-- ---- one stamp for all
none_more : (before ls : List (List ℕ)) → firsts_by (λ l. []) ([] ∷ before) ls ≡ []
none_more before [] = refl
none_more before (l ∷ ls) = (λ i. cond (itself [] before i) [] (l ∷ []) ++ none_more ([] ∷ before) ls i)

pub one_first : (line : List ℕ) (lines : List (List ℕ)) → firsts_by (λ l. []) [] (line ∷ lines) ≡ line ∷ []
one_first line lines = ap (λ ls. line ∷ ls) (none_more [] lines)
