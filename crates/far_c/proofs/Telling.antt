-- What was told, by the lengths that came.
use Rattle.std.proofs.Common.{◌≡◌, ℕ, ◌<◌, ◌⊎◌, inl, inr, ◌&&◌, Bool, true, false, Option, Some, None, List, [], ◌∷◌, length, take, refl, sym, ◌∙◌, ap, subst, arith}
use Rattle.std.specs.Prelude.{nat_le}
use Rattle.std.proofs.lemmas.Bool.{and_cases, cases_lt, le-leb, true≢false}
use Rattle.far_map.specs.Entries.{Entry}
use Rattle.far_dict.specs.Tours.{Tells}
use Rattle.far_c.specs.Telling.{KeepsFirst, TellsFirst}

not_some : (x : ℕ × ℕ) → ◌≡◌ {A = Option (ℕ × ℕ)} (Some x) None → ⊥
not_some x e = cc

same_pair : (x y : ℕ × ℕ) → ◌≡◌ {A = Option (ℕ × ℕ)} (Some x) (Some y) → x ≡ y
same_pair x y e = cc

above : (a b : ℕ) → nat_le a b ≡ false → b < a
above a b less = elim (cases_lt b a) [
  | inl lt ↦ lt
  | inr le ↦ absurd (true≢false (sym (le-leb a b le) ∙ less))
]

module _ (k v : ℕ) (key value : List ℕ) (new : List Entry) where
  pub told_first : (rest : List Entry) → Tells rest (Some (k, v)) key value new → (nat_le k (length key) && nat_le v (length value)) ≡ true → TellsFirst rest k v key value new
  told_first [] told fits = absurd (not_some (k, v) told.0)
  told_first (e ∷ es) told fits =
      let is = same_pair (k, v) (length e.0, length e.1) told.0 in
      let of_key : k ≡ length e.0 = ap (λ p. p.0) is in
      let of_value : v ≡ length e.1 = ap (λ p. p.1) is in
      let so = told.1 ((λ i. nat_le (sym of_key i) (length key) && nat_le (sym of_value i) (length value)) ∙ fits) in
      (of_key, of_value, ap (λ n. take n key) of_key ∙ so.0, ap (λ n. take n value) of_value ∙ so.1, so.2)

  past : (m n : ℕ) → (nat_le k m && nat_le v n) ≡ false → (m < k) ⊎ (n < v)
  past m n less = elim (and_cases (nat_le k m) (nat_le v n) less) [
    | inl e ↦ inl (above k m e)
    | inr e ↦ inr (above v n e)
  ]

  pub told_short : (rest : List Entry) → Tells rest (Some (k, v)) key value new → (nat_le k (length key) && nat_le v (length value)) ≡ false → KeepsFirst rest k v (length key) (length value) new
  told_short [] told less = absurd (not_some (k, v) told.0)
  told_short (e ∷ es) told less =
      let is = same_pair (k, v) (length e.0, length e.1) told.0 in
      let of_key : k ≡ length e.0 = ap (λ p. p.0) is in
      let of_value : v ≡ length e.1 = ap (λ p. p.1) is in
      (of_key, of_value, past (length key) (length value) less, told.2 ((λ i. nat_le (sym of_key i) (length key) && nat_le (sym of_value i) (length value)) ∙ less))

pub told_none : (rest : List Entry) (key value : List ℕ) (new : List Entry) → Tells rest None key value new → (rest ≡ []) × (new ≡ [])
told_none [] key value new told = (refl, told.1)
told_none (e ∷ es) key value new told = absurd (not_some (length e.0, length e.1) (sym told.0))
