-- Calls after calls are calls. Of what a function calls it is put together so: `first_call` and `then_call` of a hand's call, `then_came` of a function that says
-- itself what it came by, `no_call` where there was none.
use Rattle.std.proofs.Common.{◌≡◌, refl, sym, subst, List, [], ◌∷◌, ◌++◌}
use Rattle.far_hand.specs.Came.{Runs, Came, only}

module _ {S E R : Type 0} where
  runs_then : (makes : S → E → R → S → Type 0) (s t u : S) (xs ys : List (E × R)) → Runs makes s xs t → Runs makes t ys u → Runs makes s (xs ++ ys) u
  runs_then makes s t u [] ys a b = subst (λ z. Runs makes z ys u) (sym a) b
  runs_then makes s t u (x ∷ xs) ys a b = (a.0, a.1, runs_then makes a.0 t u xs ys a.2 b)

  -- no call, and one call
  pub no_call : {makes : S → E → R → S → Type 0} {s t : S} → s ≡ t → Came makes s t
  no_call same = record { calls = []; runs = same }

  pub first_call : {makes : S → E → R → S → Type 0} {s t : S} → (e : E) (r : R) → makes s e r t → Came makes s t
  first_call {makes} {s} {t} e r made = record { calls = (e, r) ∷ []; runs = (t, made, refl) }

  -- what came of what came
  pub then_came : {makes : S → E → R → S → Type 0} {s t u : S} → Came makes s t → Came makes t u → Came makes s u
  then_came {makes} {s} {t} {u} a b = record { calls = a.calls ++ b.calls; runs = runs_then makes s t u a.calls b.calls a.runs b.runs }

  pub then_call : {makes : S → E → R → S → Type 0} {s t u : S} → (e : E) (r : R) → Came makes s t → makes t e r u → Came makes s u
  then_call {makes} {s} {t} {u} e r a made = then_came a (first_call e r made)

  -- what each call keeps, they all keep
  keeps_along : (makes : S → E → R → S → Type 0) (P : S → Type 0) → ((s t : S) (e : E) (r : R) → makes s e r t → P s → P t) →
      (s t : S) (xs : List (E × R)) → Runs makes s xs t → P s → P t
  keeps_along makes P f s t [] a p = subst P a p
  keeps_along makes P f s t (x ∷ xs) a p = keeps_along makes P f a.0 t xs a.2 (f s a.0 x.0 x.1 a.1 p)

  pub came_keeps : (makes : S → E → R → S → Type 0) (P : S → Type 0) → ((s t : S) (e : E) (r : R) → makes s e r t → P s → P t) →
      (s t : S) → Came makes s t → P s → P t
  came_keeps makes P f s t c p = keeps_along makes P f s t c.calls c.runs p

  -- calls of some kind are calls
  more_runs : (makes makes' : S → E → R → S → Type 0) → ((s t : S) (e : E) (r : R) → makes s e r t → makes' s e r t) →
      (s t : S) (xs : List (E × R)) → Runs makes s xs t → Runs makes' s xs t
  more_runs makes makes' f s t [] a = a
  more_runs makes makes' f s t (x ∷ xs) a = (a.0, f s a.0 x.0 x.1 a.1, more_runs makes makes' f a.0 t xs a.2)

  pub came_more : (makes makes' : S → E → R → S → Type 0) → ((s t : S) (e : E) (r : R) → makes s e r t → makes' s e r t) →
      (s t : S) → Came makes s t → Came makes' s t
  came_more makes makes' f s t c = record { calls = c.calls; runs = more_runs makes makes' f s t c.calls c.runs }

  pub came_only : {makes : S → E → R → S → Type 0} {s t : S} → (P : E → Type 0) → Came (only P makes) s t → Came makes s t
  came_only {makes} {s} {t} P c = came_more (only P makes) makes (λ u v e r h. h.1) s t c
