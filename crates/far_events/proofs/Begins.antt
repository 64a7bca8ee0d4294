-- What a memory has at the start.
use Rattle.std.proofs.Common.{◌≡◌, ℕ, ◌<◌, ◌≤◌, Bool, true, false, cond, refl, arith, ap, ◌∙◌, List, get_or, inl, inr, zero}
use Rattle.std.specs.Prelude.{replicate, nat_lt}
use Rattle.std.proofs.lemmas.Bool.{cond_both, cases_lt}
use Rattle.std.proofs.lemmas.Bool.Decides.{nat_tests}
use Rattle.std.proofs.lemmas.List.{get_or-replicate, get_or_past, length-replicate}
use Rattle.far_word.specs.declared.sizes.TheConstants.{EPOCH_END, LEAST_LOGS, LEAST_MUTATORS, MOST_LOGS, MOST_MUTATORS}
use Rattle.far_events.specs.declared.shape.Shape.{Shape}
use Rattle.far_events.specs.state.Shape.{is_shape}

-- a row of one value has it everywhere
pub row_of : {X : Type 0} (xs : List X) (n : ℕ) (d : X) → xs ≡ replicate n d → (q : ℕ) → get_or xs q d ≡ d
row_of xs n d e q = ap (λ ys. get_or ys q d) e ∙ elim (cases_lt q n) [ inl lt ↦ get_or-replicate n q d d lt | inr le ↦ get_or_past (replicate n d) q d (omega (arith, length-replicate n d)) ]

-- what the test of a shape says
pub record InRange (shape : Shape) : Type 0 where
  pub two_logs : LEAST_LOGS ≤ shape.logs
  pub few_logs : shape.logs ≤ MOST_LOGS
  pub some_mutators : LEAST_MUTATORS ≤ shape.mutators
  pub few_mutators : shape.mutators ≤ MOST_MUTATORS
  pub epoch : shape.epoch < EPOCH_END

pub in_range : (shape : Shape) → is_shape shape ≡ true → InRange shape
in_range shape h = record { two_logs = grind (arith, nat_tests); few_logs = grind (arith, nat_tests); some_mutators = grind (arith, nat_tests); few_mutators = grind (arith, nat_tests); epoch = grind (arith, nat_tests) }

same : (b : Bool) → cond b zero zero ≡ zero
same true = refl
same false = refl

-- the same of rows of other values
pub masked_row : {X : Type 0} (j n : ℕ) (d x : X) → x ≡ d → cond (nat_lt j n) x d ≡ d
masked_row j n d x e = cond_both (nat_lt j n) x d (λ y. y ≡ d) (λ _. e) (λ _. refl)
