-- Which heap is the worst, with one heap more.
use Rattle.std.proofs.Common.{◌≡◌, ◌<◌, ◌≤◌, ◌+◌, ℕ, Option, Some, None, max, nat_lt, if◌then◌else◌, inl, inr, sym, subst, arith}
use Rattle.std.proofs.lemmas.Bool.{cases_lt, lt-ltb, le-ltb}
use Rattle.far_pool.specs.Statistics.{IsWorst}

-- the next heap's device failed more often, or no more often
more_often : (n most faults : ℕ) (worst : Option ℕ) → most < faults → IsWorst (n + 1) (Some n) (max most faults)
more_often n most faults worst more = (omega arith, omega arith)

no_more : (n most faults : ℕ) (worst : Option ℕ) → faults ≤ most → IsWorst n worst most → IsWorst (n + 1) worst (max most faults)
no_more n most faults (Some heap) few is = (omega (arith, is.0), omega (arith, is.1))
no_more n most faults None few is = omega (arith, is)

compared_more : (n most faults : ℕ) (worst : Option ℕ) → IsWorst n worst most → IsWorst (n + 1) (if nat_lt most faults then Some n else worst) (max most faults)
compared_more n most faults worst is = elim (cases_lt most faults) [
  | inl more ↦ subst (λ b. IsWorst (n + 1) (if b then Some n else worst) (max most faults)) (sym (lt-ltb most faults more)) (more_often n most faults worst more)
  | inr few ↦ subst (λ b. IsWorst (n + 1) (if b then Some n else worst) (max most faults)) (sym (le-ltb most faults few)) (no_more n most faults worst few is)
]

pub worst_more : (n heaps most faults : ℕ) (worst : Option ℕ) (now : Option ℕ) (now_most : ℕ) → heaps ≡ n → IsWorst n worst most → now ≡ (if nat_lt most faults then Some heaps else worst) → now_most ≡ max most faults →
    IsWorst (n + 1) now now_most
worst_more n heaps most faults worst now now_most are is e f =
    let same = subst (λ x. IsWorst (n + 1) (if nat_lt most faults then Some x else worst) (max most faults)) (sym are) (compared_more n most faults worst is) in
    let there = subst (λ x. IsWorst (n + 1) x (max most faults)) (sym e) same in
    subst (λ x. IsWorst (n + 1) now x) (sym f) there

pub worst_none : (worst : Option ℕ) (most : ℕ) → worst ≡ None → most ≡ 0 → IsWorst 0 worst most
worst_none worst most e f = subst (λ x. IsWorst 0 x most) (sym e) f
