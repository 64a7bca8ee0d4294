-- A list with another item.
use Rattle.std.proofs.Common.{◌≡◌, ℕ, ◌<◌, ◌∙◌, ap, sym, inl, inr, List, length, get_or, set}
use Rattle.std.proofs.lemmas.Bool.{cases_eq}
use Rattle.std.proofs.lemmas.List.{get_or-set_same, get_or-set_other}
use mathlib.Core.Path.{fun_ext}
use Rattle.far_events.specs.state.State.{put}
use Rattle.far_events.proofs.Put.{put_same, put_other}

-- it says the same as its function with another value
pub item_put : {X : Type 0} (xs : List X) (k : ℕ) (v d : X) → k < length xs → (λ q. get_or (set xs k v) q d) ≡ put (λ q. get_or xs q d) k v
item_put xs k v d lt = fun_ext (λ q. elim (cases_eq q k) [
  | inl e ↦ ap (λ i. get_or (set xs k v) i d) e ∙ get_or-set_same xs k v d lt ∙ sym (put_same (λ i. get_or xs i d) k v q e)
  | inr ne ↦ get_or-set_other xs k q v d ne ∙ sym (put_other (λ i. get_or xs i d) k v q ne)
])
