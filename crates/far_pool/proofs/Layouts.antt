-- A plan has one layout, or one cause why it has none.
use Rattle.std.proofs.Common.{◌≡◌, ◌<◌, ◌≤◌, ◌⊎◌, inl, inr, ℕ, ◌+◌, ◌*◌, refl, sym, ap, subst, ◌∙◌, arith}
use Rattle.std.proofs.lemmas.Bool.{cases_lt}
use Rattle.std.proofs.Math.Nat.{mul-le-mul_left}
use Rattle.far_pool.specs.declared.plan.Layout.{Layout}
use Rattle.far_pool.specs.declared.plan.Plan.{Plan}
use Rattle.far_pool.specs.declared.plan.Unplanned.{Unplanned}
use Rattle.far_pool.specs.declared.plan.Unplanned.TheVariants.{Length, Near, Objects}
use Rattle.far_pool.specs.Plans.{HasLength, IsLaid, IsUnplanned, PlansAreDecided, heaps_for}

between : (a b : ℕ) → (a < b → ⊥) → (b < a → ⊥) → a ≡ b
between a b f g = elim (cases_lt a b) [
  | inl lt ↦ absurd (f lt)
  | inr le ↦ elim (cases_lt b a) [
    | inl lt ↦ absurd (g lt)
    | inr other ↦ omega (arith, le, other)
  ]
]

module _ (p : Plan) where
  -- no layout has fewer heaps than the objects need
  least : (l : Layout) → IsLaid p l → heaps_for p.objects ≤ l.heaps
  least l laid = let o = laid.objects in let h = laid.heaps in omega (arith, o, h)

  -- one heap more, of all its logs, would be too much
  no_more : (l : Layout) → IsLaid p l → l.heaps < 2097152 → p.near < (l.heaps + 1) * 262144
  no_more l laid few = elim laid.full [
    | inl less ↦ let m : l.heaps * (l.logs + 1) ≤ l.heaps * 64 = mul-le-mul_left l.heaps (let s = less.0 in omega (arith, s)) in let n = less.1 in omega (arith, m, n)
    | inr all ↦ elim all.1 [
      | inl less ↦ omega (arith, less)
      | inr most ↦ absurd (omega (arith, most, few))
    ]
  ]

  module _ (l m : Layout) (laid : IsLaid p l) (other : IsLaid p m) where
    not_fewer : l.heaps < m.heaps → ⊥
    not_fewer less = elim other.few [
      | inl same ↦ let a = least l laid in omega (arith, a, same, less)
      | inr bytes ↦ let a = other.most_heaps in let b = no_more l laid (omega (arith, less, a)) in omega (arith, bytes, less, b)
    ]

    not_lower : l.heaps ≡ m.heaps → l.logs < m.logs → ⊥
    not_lower same less = elim laid.full [
      | inl short ↦
          let a : l.heaps * (l.logs + 1) ≤ l.heaps * m.logs = mul-le-mul_left l.heaps (omega (arith, less)) in
          let b = short.1 in
          let c : l.heaps * m.logs * 4096 ≤ p.near = subst (λ (n : ℕ). n * m.logs * 4096 ≤ p.near) (sym same) other.near in
          omega (arith, a, b, c)
      | inr all ↦ let a = all.0 in let b = other.most in omega (arith, a, b, less)
    ]

  module _ (l m : Layout) (laid : IsLaid p l) (other : IsLaid p m) where
    one : l ≡ m
    one =
        let f = not_fewer l m laid other in
        let g = not_fewer m l other laid in
        let heaps : l.heaps ≡ m.heaps = between l.heaps m.heaps f g in
        let logs : l.logs ≡ m.logs = between l.logs m.logs (not_lower l m laid other heaps) (not_lower m l other laid (sym heaps)) in
        λ i. record { heaps = heaps i; logs = logs i }

  bad : (p.typical ≡ 0) ⊎ (4088 < p.typical) → HasLength p → ⊥
  bad a b = let c = b.0 in let d = b.1 in elim a [
    | inl zero ↦ omega (arith, zero, c)
    | inr long ↦ omega (arith, long, d)
  ]

  one_cause : (v w : Unplanned) → IsUnplanned p v → IsUnplanned p w → v ≡ w
  one_cause Length Length a b = refl
  one_cause Length (Objects n) a b = absurd (bad a b.0)
  one_cause Length (Near n) a b = absurd (bad a b.0)
  one_cause (Objects n) Length a b = absurd (bad b a.0)
  one_cause (Objects n) (Objects k) a b = ap Objects (a.1 ∙ sym b.1)
  one_cause (Objects n) (Near k) a b = let c = a.2 in let d = b.1 in absurd (omega (arith, c, d))
  one_cause (Near n) Length a b = absurd (bad b a.0)
  one_cause (Near n) (Objects k) a b = let c = b.2 in let d = a.1 in absurd (omega (arith, c, d))
  one_cause (Near n) (Near k) a b = ap Near (a.2 ∙ sym b.2)

  either : (l : Layout) (why : Unplanned) → IsLaid p l → IsUnplanned p why → ⊥
  either l Length laid a = bad a laid.length
  either l (Objects n) laid a = let c = a.2 in let d = laid.range in omega (arith, c, d)
  either l (Near n) laid a = let c = a.3 in let d = laid.enough in omega (arith, c, d)

pub decided : PlansAreDecided
decided = record { one = one; one_cause = one_cause; either = either }
