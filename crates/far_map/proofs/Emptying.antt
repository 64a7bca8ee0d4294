-- Objects are dropped one after the other, and their slots are empty then.
use Rattle.std.proofs.Common.{◌≡◌, ℕ, ◌≤◌, Some, None, List, length, refl, sym, ◌∙◌, inl, inr, arith}
use Rattle.std.proofs.lemmas.Bool.{cases_lt}
use Rattle.std.proofs.lemmas.List.{get_or_past}
use Rattle.far_objects.specs.Far.{Far}
use Rattle.far_index.specs.declared.slot.Slot.{Slot}
use Rattle.far_index.specs.declared.slot.Slot.TheVariants.{Empty}
use Rattle.far_index.specs.Slots.{slot_at}
use Rattle.far_index.proofs.Words.{full_empty}
use Rattle.far_map.specs.Slots.{Left}

pub all_empty : (far : Far) (slots : List Slot) (i : ℕ) → length slots ≤ i → Left i far slots → (j : ℕ) → slot_at slots j ≡ Empty
all_empty far slots i whole left j = elim (cases_lt j i) [
  | inl low ↦ left.empty j low
  | inr past ↦ get_or_past slots j Empty (omega (arith, whole, past))
]

pub none_left : (far : Far) (slots : List Slot) (i : ℕ) → length slots ≤ i → Left i far slots → (h : ℕ) → far.sizes h ≡ None
none_left far slots i whole left h =
    elim (far.sizes h) as (λ o. far.sizes h ≡ o → far.sizes h ≡ None) [
      | None ↦ λ e. e
      | Some k ↦ λ e. let w = left.owned h k e in absurd (full_empty w.1 h (sym w.2 ∙ all_empty far slots i whole left w.0))
    ] refl
