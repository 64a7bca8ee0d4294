-- Keys that tie, and the values of maps at them.
use Rattle.std.proofs.Common.{◌≡◌, ◌≢◌, ℕ, ◌⊎◌, inl, inr, Bool, true, false, Option, Some, None, List, refl}
use Rattle.std.specs.Ordering.{nat_cmp, eq_by_cmp}
use Rattle.std.specs.Cmp.Lexicographic.{slice_cmp, nat_list_cmp_total}
use Rattle.std.specs.FinMap as map
use Rattle.std.proofs.lemmas.Bool.{both_ways}
use Rattle.far_map.proofs.Lookups.{ties}

abbrev pub tied : List ℕ → List ℕ → Bool
tied q k = eq_by_cmp (slice_cmp nat_cmp) q k

pub by_tie : (q k : List ℕ) (P : Bool → Type 0) → (q ≡ k → P true) → ((q ≡ k → ⊥) → P false) → P (tied q k)
by_tie q k P same other =
    elim (tied q k) as (λ t. tied q k ≡ t → P t) [
      | true ↦ λ p. same ((ties q k).0 p)
      | false ↦ λ p. other (λ e. both_ways (tied q k) p ((ties q k).1 e))
    ] refl

pub tied_itself : (k : List ℕ) → tied k k ≡ true
tied_itself k = (ties k k).1 refl

pub not_tied : (q k : List ℕ) → q ≢ k → tied q k ≡ false
not_tied q k other = by_tie q k (λ t. t ≡ false) (λ same. absurd (other same)) (λ o. refl)

pub same_or_other : (q k : List ℕ) → (q ≡ k) ⊎ (q ≢ k)
same_or_other q k = by_tie q k (λ t. (q ≡ k) ⊎ (q ≢ k)) (λ same. inl same) (λ other. inr other)

-- two maps that have the same values are one
pub same_values : {X : Type 0} (m n : map.FinMap (slice_cmp nat_cmp) X) → ((q : List ℕ) → map.get m q ≡ map.get n q) → m ≡ n
same_values m n is = map.same_map nat_list_cmp_total (map.slice_cmp-IsAntisymmetric map.nat_cmp-IsAntisymmetric) m n is

pub none_some : {X : Type 0} {x : X} {o : Option X} → o ≡ None → o ≡ Some x → ⊥
none_some e f = cc

pub same_some : {X : Type 0} {x y : X} {o : Option X} → o ≡ Some x → o ≡ Some y → x ≡ y
same_some e f = cc
