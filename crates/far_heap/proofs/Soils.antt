-- An owner's view after an object that it holds is soiled.
use Rattle.std.specs.Prelude.{◌≡◌, ◌≢◌, ℕ, true}
use Rattle.far_table.specs.View.{OwnerView}
use Rattle.far_table.specs.Views.{soiled_at}

-- the object has been soiled, all others are as they were, and nothing else has changed but what was found in cells, and how often DIRTY was set anew
pub record Soils (p : ℕ) (o o' : OwnerView) : Type 0 where
  pub rest : o' ≡ record o { soiled = o'.soiled; dirtied = o'.dirtied; found = o'.found }
  pub here : soiled_at o' p ≡ true
  pub others : (q : ℕ) → q ≢ p → soiled_at o' q ≡ soiled_at o q
