-- The slots below one that a key has, and that one.
use Rattle.std.proofs.Common.{◌+◌, ◌<◌, inl, inr, subst, sym, ℕ, List, arith}
use Rattle.std.specs.List.{slice_get}
use Rattle.far_file.specs.Free.{IsOwned}
use Rattle.far_file.proofs.Apart.{ordered}

pub one_more : (owners : List ℕ) (n : ℕ) → ((s : ℕ) → s < n → IsOwned (slice_get owners s)) → IsOwned (slice_get owners n) → (s : ℕ) → s < n + 1 → IsOwned (slice_get owners s)
one_more owners n below one s less = elim (ordered s n) [
  | inl under ↦ below s under
  | inr (inl same) ↦ subst (λ k. IsOwned (slice_get owners k)) (sym same) one
  | inr (inr over) ↦ absurd (omega (arith, over, less))
]
