-- An index made anew has the same entries.
use Rattle.std.proofs.Common.{◌≡◌, ◌≢◌, ℕ, ◌+◌, List, length, sym, ◌∙◌, ap, subst, inl, inr, arith}
use Rattle.std.proofs.lemmas.Bool.{cases_eq, cases_lt}
use Rattle.std.proofs.lemmas.List.{get_or_past}
use Rattle.far_index.specs.declared.slot.Slot.{Slot}
use Rattle.far_index.specs.declared.slot.Slot.TheVariants.{Empty, Full}
use Rattle.far_index.specs.Slots.{slot_at}
use Rattle.far_index.specs.Grown.{Placed, Grown}
use Rattle.far_index.proofs.Words.{full_empty, full_number}
use Rattle.far_index.proofs.Reaching.{placed_reached}

pub grown_skip : (buckets n : ℕ) (ss fs : List Slot) → Grown buckets n ss fs → ((t h : ℕ) → slot_at ss n ≢ Full t h) → Grown buckets (n + 1) ss fs
grown_skip buckets n ss fs grown other = record {
  fits = grown.fits;
  reached = grown.reached;
  from = λ j t h e. let o = grown.from j t h e in (o.0, omega (arith, o.1), o.2);
  into = λ i t h low e. elim (cases_eq i n) [
    | inl same ↦ absurd (other t h (subst (λ k. slot_at ss k ≡ Full t h) same e))
    | inr ne ↦ grown.into i t h (omega arith) e
  ];
  apart = grown.apart;
}

module _ (buckets n : ℕ) (ss fs gs : List Slot) (grown : Grown buckets n ss fs) (tag number : ℕ) (is : slot_at ss n ≡ Full tag number) (placed : Placed buckets tag number fs gs) where
  -- the entry's number stands in no slot of the new index yet
  not_yet : ((i j t u number : ℕ) → slot_at ss i ≡ Full t number → slot_at ss j ≡ Full u number → i ≡ j) → (j u h : ℕ) → number ≡ h → slot_at fs j ≢ Full u h
  not_yet apart j u h same e =
      let o = grown.from j u h e in
      let again : o.0 ≡ n = apart o.0 n u tag h o.2 (is ∙ ap (λ k. Full tag k) same) in
      absurd (omega (arith, again, o.1))

  pub grown_more : Grown buckets (n + 1) ss gs
  grown_more = record {
    fits = omega (arith, grown.fits, placed.longer);
    reached = placed_reached buckets tag number fs gs placed grown.reached;
    from = λ j t h e. elim (cases_eq j placed.place) [
      | inl same ↦ (n, omega arith, is ∙ sym placed.slot ∙ subst (λ k. slot_at gs k ≡ Full t h) same e)
      | inr ne ↦ let o = grown.from j t h (sym (placed.others j ne) ∙ e) in (o.0, omega (arith, o.1), o.2)
    ];
    into = λ i t h low e. elim (cases_eq i n) [
      | inl same ↦ (placed.place, placed.slot ∙ sym is ∙ subst (λ k. slot_at ss k ≡ Full t h) same e)
      | inr ne ↦
          let j = grown.into i t h (omega arith) e in
          (j.0, placed.others j.0 (λ same. placed.free t h (subst (λ k. slot_at fs k ≡ Full t h) same j.1)) ∙ j.1)
    ];
    apart = λ old i j t u h at_i at_j. elim (cases_eq i placed.place) [
      | inl e ↦ elim (cases_eq j placed.place) [
        | inl f ↦ e ∙ sym f
        | inr nf ↦ absurd (not_yet old j u h (full_number tag number t h (sym placed.slot ∙ subst (λ k. slot_at gs k ≡ Full t h) e at_i)) (sym (placed.others j nf) ∙ at_j))
      ]
      | inr ne ↦ elim (cases_eq j placed.place) [
        | inl f ↦ absurd (not_yet old i t h (full_number tag number u h (sym placed.slot ∙ subst (λ k. slot_at gs k ≡ Full u h) f at_j)) (sym (placed.others i ne) ∙ at_i))
        | inr nf ↦ grown.apart old i j t u h (sym (placed.others i ne) ∙ at_i) (sym (placed.others j nf) ∙ at_j)
      ]
    ];
  }

-- an entry of the old index is one of the new one
pub moved : (buckets : ℕ) (ss gs : List Slot) → Grown buckets (length ss) ss gs → (i t h : ℕ) → slot_at ss i ≡ Full t h → (j : ℕ) × (slot_at gs j ≡ Full t h)
moved buckets ss gs grown i t h e = elim (cases_lt i (length ss)) [
  | inl low ↦ grown.into i t h low e
  | inr past ↦ absurd (full_empty t h (sym e ∙ get_or_past ss i Empty past))
]
