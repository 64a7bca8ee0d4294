-- What a look-up finds in slots, place by place.
use Rattle.std.proofs.Common.{◌≡◌, ◌≢◌, ℕ, zero, suc, true, false, cond, Option, Some, None, List, [], ◌∷◌, ◌++◌, ◌⊎◌, inl, inr, refl, sym, ◌∙◌, ap, subst, arith}
use Rattle.std.specs.Option.{option_to_list, option_map}
use Rattle.std.specs.Bool.{Decides}
use Rattle.std.specs.Ordering.{nat_cmp, eq_by_cmp}
use Rattle.std.specs.Cmp.Lexicographic.{slice_cmp, texts_ties}
use Rattle.std.specs.FinMap.{find}
use Rattle.std.proofs.lemmas.Slice.Eq.{bytes_eq-Decides}
use Rattle.far_index.specs.declared.slot.Slot.{Slot}
use Rattle.far_map.specs.Entries.{Entry}
use Rattle.far_index.specs.Slots.{slot_at}
use Rattle.far_map.specs.Slots.{Bytes, entry_in, entries_in}

-- two keys tie if they are equal
pub ties : (q k : List ℕ) → Decides (eq_by_cmp (slice_cmp nat_cmp) q k) (q ≡ k)
ties q k = subst (λ t. Decides t (q ≡ k)) (texts_ties q k) (bytes_eq-Decides q k)

-- the value of an entry with this key
abbrev pub at : List ℕ → Option Entry → Option (List ℕ)
at q None = None
at q (Some e) = cond (eq_by_cmp (slice_cmp nat_cmp) q e.0) (Some e.1) None

abbrev or_else : Option (List ℕ) → Option (List ℕ) → Option (List ℕ)
or_else None y = y
or_else (Some x) y = Some x

front : (q : List ℕ) (e : Option Entry) (es : List Entry) → find (slice_cmp nat_cmp) q (option_to_list e ++ es) ≡ or_else (at q e) (find (slice_cmp nat_cmp) q es)
front q None es = refl
front q (Some e) es =
    elim (eq_by_cmp (slice_cmp nat_cmp) q e.0) as (λ t. cond t (Some e.1) (find (slice_cmp nat_cmp) q es) ≡ or_else (cond t (Some e.1) None) (find (slice_cmp nat_cmp) q es)) [
      | true ↦ refl
      | false ↦ refl
    ]

pub none_found : (q : List ℕ) (b : Bytes) (ss : List Slot) → ((j : ℕ) → at q (entry_in b (slot_at ss j)) ≡ None) → find (slice_cmp nat_cmp) q (entries_in b ss) ≡ None
none_found q b [] h = refl
none_found q b (s ∷ ss) h =
    front q (entry_in b s) (entries_in b ss) ∙ ap (λ x. or_else x (find (slice_cmp nat_cmp) q (entries_in b ss))) (h zero) ∙ none_found q b ss (λ j. h (suc j))

pub alike : (q : List ℕ) (b c : Bytes) (ss ts : List Slot) → ((j : ℕ) → at q (entry_in b (slot_at ss j)) ≡ at q (entry_in c (slot_at ts j))) → find (slice_cmp nat_cmp) q (entries_in b ss) ≡ find (slice_cmp nat_cmp) q (entries_in c ts)
alike q b c [] ts h = sym (none_found q c ts (λ j. sym (h j)))
alike q b c (s ∷ ss) [] h = none_found q b (s ∷ ss) h
alike q b c (s ∷ ss) (t ∷ ts) h =
    let rest = alike q b c ss ts (λ j. h (suc j)) in
    front q (entry_in b s) (entries_in b ss) ∙ (λ i. or_else (h zero i) (rest i)) ∙ sym (front q (entry_in c t) (entries_in c ts))

pub one_found : (q : List ℕ) (b : Bytes) (ss : List Slot) (i : ℕ) (v : List ℕ) → at q (entry_in b (slot_at ss i)) ≡ Some v → ((j : ℕ) → j ≢ i → at q (entry_in b (slot_at ss j)) ≡ None) → find (slice_cmp nat_cmp) q (entries_in b ss) ≡ Some v
one_found q b [] i v here others = here
one_found q b (s ∷ ss) zero v here others = front q (entry_in b s) (entries_in b ss) ∙ ap (λ x. or_else x (find (slice_cmp nat_cmp) q (entries_in b ss))) here
one_found q b (s ∷ ss) (suc i) v here others =
    front q (entry_in b s) (entries_in b ss) ∙ ap (λ x. or_else x (find (slice_cmp nat_cmp) q (entries_in b ss))) (others zero (λ e. omega arith))
    ∙ one_found q b ss i v here (λ j ne. others (suc j) (λ e. ne (omega arith)))

pub at_other : (q : List ℕ) (e : Option Entry) → option_map (λ x. x.0) e ≢ Some q → at q e ≡ None
at_other q None h = refl
at_other q (Some e) h =
    elim (eq_by_cmp (slice_cmp nat_cmp) q e.0) as (λ t. eq_by_cmp (slice_cmp nat_cmp) q e.0 ≡ t → cond t (Some e.1) None ≡ None) [
      | true ↦ λ p. absurd (h (ap (λ x. Some x) (sym ((ties q e.0).0 p))))
      | false ↦ λ p. refl
    ] refl

pub at_same : (q v : List ℕ) → at q (Some (q, v)) ≡ Some v
at_same q v = ap (λ t. cond t (Some v) None) ((ties q q).1 refl)

none_some : (v : List ℕ) → ◌≡◌ {A = Option (List ℕ)} None (Some v) → ⊥
none_some v e = cc

same_value : (a b : List ℕ) → ◌≡◌ {A = Option (List ℕ)} (Some a) (Some b) → a ≡ b
same_value a b e = cc

pick : (q : List ℕ) (o : Option Entry) (r : Option (List ℕ)) (v : List ℕ) → or_else (at q o) r ≡ Some v → (o ≡ Some (q, v)) ⊎ (r ≡ Some v)
pick q None r v h = inr h
pick q (Some e) r v h =
    elim (eq_by_cmp (slice_cmp nat_cmp) q e.0) as (λ t. eq_by_cmp (slice_cmp nat_cmp) q e.0 ≡ t → or_else (cond t (Some e.1) None) r ≡ Some v → (◌≡◌ {A = Option Entry} (Some e) (Some (q, v))) ⊎ (r ≡ Some v)) [
      | true ↦ λ p g. inl (λ i. Some (sym ((ties q e.0).0 p) i, same_value e.1 v g i))
      | false ↦ λ p g. inr g
    ] refl h

-- what is found stands somewhere
pub found_somewhere : (q : List ℕ) (b : Bytes) (ss : List Slot) (v : List ℕ) → find (slice_cmp nat_cmp) q (entries_in b ss) ≡ Some v → (i : ℕ) × (entry_in b (slot_at ss i) ≡ Some (q, v))
found_somewhere q b [] v h = absurd (none_some v h)
found_somewhere q b (s ∷ ss) v h =
    elim (pick q (entry_in b s) (find (slice_cmp nat_cmp) q (entries_in b ss)) v (sym (front q (entry_in b s) (entries_in b ss)) ∙ h)) [
      | inl e ↦ (zero, e)
      | inr r ↦ let rest = found_somewhere q b ss v r in (suc rest.0, rest.1)
    ]
