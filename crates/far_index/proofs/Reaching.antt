-- One slot is written: each entry can be reached as before.
use Rattle.std.proofs.Common.{◌≡◌, ◌≢◌, ℕ, ◌<◌, ◌≤◌, List, sym, ◌∙◌, subst, inl, inr}
use Rattle.std.proofs.lemmas.Bool.{cases_eq}
use Rattle.far_index.specs.declared.slot.Slot.{Slot}
use Rattle.far_index.specs.declared.slot.Slot.TheVariants.{Empty, Full}
use Rattle.far_index.specs.Slots.{slot_at, home, Reached}
use Rattle.far_index.specs.Grown.{Placed}
use Rattle.far_index.proofs.Words.{full_empty, full_tag}

module _ (ss ts : List Slot) (place : ℕ) (slots : (j : ℕ) → j ≢ place → slot_at ts j ≡ slot_at ss j) where
  pub is_reached : (buckets : ℕ) → Reached buckets ss → slot_at ts place ≢ Empty →
      ((t h : ℕ) → slot_at ts place ≡ Full t h → (home buckets t ≤ place) × ((i : ℕ) → home buckets t ≤ i → i < place → slot_at ss i ≢ Empty)) → Reached buckets ts
  is_reached buckets reached nonempty new = record {
    later = λ j t h at_j. elim (cases_eq j place) [
      | inl e ↦ subst (λ k. home buckets t ≤ k) (sym e) (new t h (subst (λ k. slot_at ts k ≡ Full t h) e at_j)).0
      | inr ne ↦ reached.later j t h (sym (slots j ne) ∙ at_j)
    ];
    through = λ j t h i at_j low high. elim (cases_eq i place) [
      | inl e ↦ subst (λ k. slot_at ts k ≢ Empty) (sym e) nonempty
      | inr ne ↦ λ empty.
          let was : slot_at ss i ≡ Empty = sym (slots i ne) ∙ empty in
          elim (cases_eq j place) [
            | inl f ↦ (new t h (subst (λ k. slot_at ts k ≡ Full t h) f at_j)).1 i low (subst (λ k. i < k) f high) was
            | inr nf ↦ reached.through j t h i (sym (slots j nf) ∙ at_j) low high was
          ]
    ];
  }

pub placed_reached : (buckets tag number : ℕ) (ss ts : List Slot) → Placed buckets tag number ss ts → Reached buckets ss → Reached buckets ts
placed_reached buckets tag number ss ts placed reached =
    is_reached ss ts placed.place placed.others buckets reached (λ e. full_empty tag number (sym placed.slot ∙ e))
    (λ t h e. subst (λ k. (home buckets k ≤ placed.place) × ((i : ℕ) → home buckets k ≤ i → i < placed.place → slot_at ss i ≢ Empty))
    (full_tag tag number t h (sym placed.slot ∙ e)) (placed.low, placed.full))

-- slots that say the same
pub same_reached : (buckets : ℕ) (ss ts : List Slot) → ((j : ℕ) → slot_at ts j ≡ slot_at ss j) → Reached buckets ss → Reached buckets ts
same_reached buckets ss ts same reached = record {
  later = λ j t h a. reached.later j t h (sym (same j) ∙ a);
  through = λ j t h i a low high e. reached.through j t h i (sym (same j) ∙ a) low high (sym (same i) ∙ e);
}
