-- Lists in an order: the least of what passes a test is one list, and the front of all is such a list.
use Rattle.std.proofs.Common.{◌≡◌, ℕ, zero, suc, ◌<◌, List, [], ◌∷◌, length, take, get_or, refl, sym, subst, ◌∙◌, arith, inl, inr, ◌⊎◌, AllPairs, Contains}
use Rattle.std.proofs.lemmas.Bool.{cases_lt}
use Rattle.std.proofs.lemmas.List.{length-take, get_or-take, get_or_default}
use Rattle.std.proofs.lemmas.List.Elements.{Contains-get_or}
use Rattle.far_log.proofs.Members.{here, there, split}

-- a list in order, of what passes a test, and before all else that does
pub record IsLeast {X : Type 0} (R : X → X → Type 0) (P : X → Type 0) (taken : List X) : Type 0 where
  pub ordered : AllPairs R taken
  pub members : (x : X) → Contains taken x → P x
  pub least : (x : X) → P x → Contains taken x ⊎ ((y : X) → Contains taken y → R y x)

module _ {X : Type 0} (R : X → X → Type 0) where
  -- one element goes before all
  pub ordered_head : (x : X) (xs : List X) → AllPairs R (x ∷ xs) → (z : X) → Contains xs z → R x z
  ordered_head x xs ordered z (k, lt, e) = subst (R x) e (ordered zero (suc k) z (omega arith) (omega arith))

  pub ordered_tail : (x : X) (xs : List X) → AllPairs R (x ∷ xs) → AllPairs R xs
  ordered_tail x xs ordered i j d lt le = ordered (suc i) (suc j) d (omega arith) (omega arith)

  pub ordered_more : (x : X) (xs : List X) → ((z : X) → Contains xs z → R x z) → AllPairs R xs → AllPairs R (x ∷ xs)
  ordered_more x xs head tail i zero d lt le = absurd (omega arith)
  ordered_more x xs head tail zero (suc j) d lt le = head (get_or xs j d) (Contains-get_or xs j d (omega arith))
  ordered_more x xs head tail (suc i) (suc j) d lt le = tail i j d (omega arith) (omega arith)

  -- the front of an ordered list is the least of its elements
  pub front_least : (most : ℕ) (xs : List X) → AllPairs R xs → IsLeast R (Contains xs) (take most xs)
  front_least most xs ordered = record {
    ordered = λ i j d lt le.
        let long = length-take most xs in
        let lower : i < most = omega arith in
        let upper : j < most = omega arith in
        rw (get_or-take most xs i d lower, get_or-take most xs j d upper) (ordered i j d lt (omega arith));
    members = λ x (k, lt, e).
        let long = length-take most xs in
        let below : k < most = omega arith in
        (k, omega arith, sym (get_or-take most xs k x below) ∙ e);
    least = λ x (k, lt, e). let long = length-take most xs in elim (cases_lt k most) [
      | inl below ↦ inl (k, omega arith, get_or-take most xs k x below ∙ e)
      | inr past ↦ inr (λ y (i, le, f).
          let lower : i < most = omega arith in
          let reads : get_or xs i y ≡ y = sym (get_or-take most xs i y lower) ∙ f in
          let pair : R (get_or xs i y) (get_or xs k y) = ordered i k y (omega arith) lt in
          let other : get_or xs k y ≡ x = get_or_default xs k y x lt ∙ e in
          subst (λ z. R z x) reads (subst (R (get_or xs i y)) other pair))
    ];
  }

module _ {X : Type 0} (R : X → X → Type 0) (never : (x : X) → R x x → ⊥) (through : (x y z : X) → R x y → R y z → R x z) where
  -- what passes the test is the head or goes behind it
  head_low : (P : X → Type 0) (x : X) (xs : List X) → IsLeast R P (x ∷ xs) → (z : X) → P z → (x ≡ z) ⊎ R x z
  head_low P x xs least z passes = elim (least.least z passes) [
    | inl member ↦ elim (split z x xs member) [
      | inl same ↦ inl same
      | inr later ↦ inr (ordered_head R x xs least.ordered z later)
    ]
    | inr before ↦ inr (before x (here x xs))
  ]

  -- the rest is the least of what passes and isn't the head
  rest_least : (P : X → Type 0) (x : X) (xs : List X) → IsLeast R P (x ∷ xs) → IsLeast R (λ z. P z × (x ≡ z → ⊥)) xs
  rest_least P x xs least = record {
    ordered = ordered_tail R x xs least.ordered;
    members = λ z member. (least.members z (there z x xs member), λ same. never z (subst (λ w. R w z) same (ordered_head R x xs least.ordered z member)));
    least = λ z (passes, other). elim (least.least z passes) [
      | inl member ↦ elim (split z x xs member) [
        | inl same ↦ absurd (other same)
        | inr later ↦ inl later
      ]
      | inr before ↦ inr (λ y member. before y (there y x xs member))
    ];
  }

  same_head : (P : X → Type 0) (x y : X) (xs ys : List X) → IsLeast R P (x ∷ xs) → IsLeast R P (y ∷ ys) → x ≡ y
  same_head P x y xs ys one other = elim (head_low P x xs one y (other.members y (here y ys))) [
    | inl same ↦ same
    | inr below ↦ elim (head_low P y ys other x (one.members x (here x xs))) [
      | inl same ↦ sym same
      | inr above ↦ absurd (never x (through x y x below above))
    ]
  ]

  -- two such lists of one length are one
  pub least_same : (P : X → Type 0) (xs ys : List X) → length xs ≡ length ys → IsLeast R P xs → IsLeast R P ys → xs ≡ ys
  least_same P [] [] long one other = refl
  least_same P [] (y ∷ ys) long one other = absurd (omega arith)
  least_same P (x ∷ xs) [] long one other = absurd (omega arith)
  least_same P (x ∷ xs) (y ∷ ys) long one other =
      let head : x ≡ y = same_head P x y xs ys one other in
      let back : y ≡ x = sym head in
      let moved : IsLeast R (λ z. P z × (x ≡ z → ⊥)) ys = subst (λ w. IsLeast R (λ z. P z × (w ≡ z → ⊥)) ys) back (rest_least P y ys other) in
      let rest : xs ≡ ys = least_same (λ z. P z × (x ≡ z → ⊥)) xs ys (omega arith) (rest_least P x xs one) moved in
      (cc (head, rest))
