-- Who is in a list, by its head and the rest.
use Rattle.std.proofs.Common.{◌≡◌, suc, zero, arith, List, [], ◌∷◌, refl, inl, inr}
use Rattle.std.specs.Prelude.{◌⊎◌, All, Contains}
use Rattle.std.proofs.lemmas.List.Elements.{All-weaker, All-contains_itself}

pub here : {X : Type 0} (x : X) (xs : List X) → Contains (x ∷ xs) x
here x xs = (0, omega arith, refl)

pub there : {X : Type 0} (x y : X) (xs : List X) → Contains xs x → Contains (y ∷ xs) x
there x y xs (k, lt, e) = (suc k, omega arith, e)

pub split : {X : Type 0} (x y : X) (xs : List X) → Contains (y ∷ xs) x → (y ≡ x) ⊎ Contains xs x
split x y xs (zero, lt, e) = inl e
split x y xs (suc k, lt, e) = inr (k, omega arith, e)

pub none_in : {X : Type 0} (x : X) → ¬ Contains [] x
none_in x (k, lt, e) = omega arith

-- what holds of each member holds of all
pub All-from : {X : Type 0} (P : X → Type 0) (xs : List X) → ((x : X) → Contains xs x → P x) → All P xs
All-from P xs h = All-weaker (Contains xs) P h xs (All-contains_itself xs)
