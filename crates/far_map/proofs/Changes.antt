-- One slot is written, and objects of other slots stay: what that makes of the entries, and that the index stays sound.
use Rattle.std.proofs.Common.{◌≡◌, ◌≢◌, ℕ, Bool, true, false, cond, Some, None, List, refl, sym, ◌∙◌, ap, subst, ◌⊎◌, inl, inr}
use Rattle.std.specs.Option.{option_map}
use Rattle.std.specs.Ordering.{nat_cmp, eq_by_cmp}
use Rattle.std.specs.Cmp.Lexicographic.{slice_cmp, nat_list_cmp_total}
use Rattle.std.specs.FinMap.{FinMap, find, insert, remove, from_entries, get-from_entries, get-insert, get-remove, same_map, slice_cmp-IsAntisymmetric, nat_cmp-IsAntisymmetric}
use Rattle.std.proofs.lemmas.Bool.{cases_eq}
use Rattle.std.specs.declared.hash.DefaultHasher.{DefaultHasher}
use Rattle.far_index.specs.declared.slot.Slot.{Slot}
use Rattle.far_index.specs.declared.slot.Slot.TheVariants.{Empty, Gone, Full}
use Rattle.far_map.specs.Entries.{entry_of, key_in}
use Rattle.far_objects.specs.Far.{Far}
use Rattle.far_index.specs.Slots.{slot_at}
use Rattle.far_map.specs.Slots.{Bytes, entry_in, entries_in, key_at, Apart, Held, Owned, Tagged, Distinct}
use Rattle.far_index.specs.Tags.{tag_of}
use Rattle.far_map.proofs.Lookups.{ties, at, none_found, alike, one_found, at_other, at_same}

not_both : (t : Bool) → t ≡ false → t ≡ true → ⊥
not_both t p q = cc

pub record Change (b c : Bytes) (ss ts : List Slot) (place : ℕ) : Type 0 where
  pub slots : (j : ℕ) → j ≢ place → slot_at ts j ≡ slot_at ss j
  pub bytes : (j t h : ℕ) → j ≢ place → slot_at ss j ≡ Full t h → c h ≡ b h

stays : (b c : Bytes) (s : Slot) → ((t h : ℕ) → s ≡ Full t h → c h ≡ b h) → entry_in c s ≡ entry_in b s
stays b c Empty h = refl
stays b c Gone h = refl
stays b c (Full t u) h = ap entry_of (h t u refl)

module _ (b c : Bytes) (ss ts : List Slot) (place : ℕ) (change : Change b c ss ts place) where
  pub elsewhere : (j : ℕ) → j ≢ place → entry_in c (slot_at ts j) ≡ entry_in b (slot_at ss j)
  elsewhere j ne = ap (entry_in c) (change.slots j ne) ∙ stays b c (slot_at ss j) (λ t h e. change.bytes j t h ne e)

  pub key_elsewhere : (j : ℕ) → j ≢ place → key_at c ts j ≡ key_at b ss j
  key_elsewhere j ne = ap (option_map (λ e. e.0)) (elsewhere j ne)

  -- a key that the place has neither before nor after is found as before
  other_found : (q : List ℕ) → at q (entry_in b (slot_at ss place)) ≡ None → at q (entry_in c (slot_at ts place)) ≡ None → find (slice_cmp nat_cmp) q (entries_in c ts) ≡ find (slice_cmp nat_cmp) q (entries_in b ss)
  other_found q before after =
      alike q c b ts ss (λ j. elim (cases_eq j place) [
        | inl e ↦ subst (λ k. at q (entry_in c (slot_at ts k)) ≡ at q (entry_in b (slot_at ss k))) (sym e) (after ∙ sym before)
        | inr ne ↦ ap (at q) (elsewhere j ne)
      ])

  -- the place had this key or none, and no other slot has it
  module _ (key : List ℕ) (before : (q : List ℕ) → q ≢ key → key_at b ss place ≢ Some q) (others : (j : ℕ) → j ≢ place → key_at b ss j ≢ Some key) where
    others_after : (j : ℕ) → j ≢ place → at key (entry_in c (slot_at ts j)) ≡ None
    others_after j ne = at_other key (entry_in c (slot_at ts j)) (λ e. others j ne (sym (key_elsewhere j ne) ∙ e))

    pub is_inserted : (value : List ℕ) → entry_in c (slot_at ts place) ≡ Some (key, value) → ◌≡◌ {A = FinMap (slice_cmp nat_cmp) (List ℕ)} (from_entries (entries_in c ts)) (insert (from_entries (entries_in b ss)) key value)
    is_inserted value is =
        same_map nat_list_cmp_total (slice_cmp-IsAntisymmetric nat_cmp-IsAntisymmetric) _ _ (λ q.
        get-from_entries nat_list_cmp_total (entries_in c ts) q
        ∙ elim (eq_by_cmp (slice_cmp nat_cmp) q key) as (λ t. eq_by_cmp (slice_cmp nat_cmp) q key ≡ t → find (slice_cmp nat_cmp) q (entries_in c ts) ≡ cond t (Some value) (find (slice_cmp nat_cmp) q (entries_in b ss))) [
          | true ↦ λ p. subst (λ k. find (slice_cmp nat_cmp) k (entries_in c ts) ≡ Some value) (sym ((ties q key).0 p))
              (one_found key c ts place value (ap (at key) is ∙ at_same key value) others_after)
          | false ↦ λ p. other_found q (at_other q (entry_in b (slot_at ss place)) (before q (λ e. absurd (not_both _ p ((ties q key).1 e)))))
              (ap (at q) is ∙ ap (λ t. cond t (Some value) None) p)
        ] refl
        ∙ sym (get-insert nat_list_cmp_total (from_entries (entries_in b ss)) key value q ∙ ap (cond (eq_by_cmp (slice_cmp nat_cmp) q key) (Some value)) (get-from_entries nat_list_cmp_total (entries_in b ss) q)))

    pub is_removed : entry_in c (slot_at ts place) ≡ None → ◌≡◌ {A = FinMap (slice_cmp nat_cmp) (List ℕ)} (from_entries (entries_in c ts)) (remove (from_entries (entries_in b ss)) key)
    is_removed is =
        same_map nat_list_cmp_total (slice_cmp-IsAntisymmetric nat_cmp-IsAntisymmetric) _ _ (λ q.
        get-from_entries nat_list_cmp_total (entries_in c ts) q
        ∙ elim (eq_by_cmp (slice_cmp nat_cmp) q key) as (λ t. eq_by_cmp (slice_cmp nat_cmp) q key ≡ t → find (slice_cmp nat_cmp) q (entries_in c ts) ≡ cond t None (find (slice_cmp nat_cmp) q (entries_in b ss))) [
          | true ↦ λ p. subst (λ k. find (slice_cmp nat_cmp) k (entries_in c ts) ≡ None) (sym ((ties q key).0 p))
              (none_found key c ts (λ j. elim (cases_eq j place) [ inl e ↦ subst (λ k. at key (entry_in c (slot_at ts k)) ≡ None) (sym e) (ap (at key) is) | inr ne ↦ others_after j ne ]))
          | false ↦ λ p. other_found q (at_other q (entry_in b (slot_at ss place)) (before q (λ e. absurd (not_both _ p ((ties q key).1 e))))) (ap (at q) is)
        ] refl
        ∙ sym (get-remove nat_list_cmp_total (from_entries (entries_in b ss)) key q ∙ ap (cond (eq_by_cmp (slice_cmp nat_cmp) q key) None) (get-from_entries nat_list_cmp_total (entries_in b ss) q)))

  pub is_distinct : Distinct b ss → ((q : List ℕ) (j : ℕ) → j ≢ place → key_at c ts place ≡ Some q → key_at b ss j ≢ Some q) → Distinct c ts
  is_distinct distinct fresh i j key at_i at_j =
      elim (cases_eq i place) [
        | inl e ↦ elim (cases_eq j place) [
          | inl f ↦ e ∙ sym f
          | inr nf ↦ absurd (fresh key j nf (subst (λ k. key_at c ts k ≡ Some key) e at_i) (sym (key_elsewhere j nf) ∙ at_j))
        ]
        | inr ne ↦ elim (cases_eq j place) [
          | inl f ↦ absurd (fresh key i ne (subst (λ k. key_at c ts k ≡ Some key) f at_j) (sym (key_elsewhere i ne) ∙ at_i))
          | inr nf ↦ distinct i j key (sym (key_elsewhere i ne) ∙ at_i) (sym (key_elsewhere j nf) ∙ at_j)
        ]
      ]

  pub is_apart : Apart ss → ((t h : ℕ) → slot_at ts place ≡ Full t h → (j u : ℕ) → j ≢ place → slot_at ss j ≢ Full u h) → Apart ts
  is_apart apart new i j t u h at_i at_j = elim (cases_eq i place) [
    | inl e ↦ elim (cases_eq j place) [
      | inl f ↦ e ∙ sym f
      | inr nf ↦ absurd (new t h (subst (λ k. slot_at ts k ≡ Full t h) e at_i) j u nf (sym (change.slots j nf) ∙ at_j))
    ]
    | inr ne ↦ elim (cases_eq j place) [
      | inl f ↦ absurd (new u h (subst (λ k. slot_at ts k ≡ Full u h) f at_j) i t ne (sym (change.slots i ne) ∙ at_i))
      | inr nf ↦ apart i j t u h (sym (change.slots i ne) ∙ at_i) (sym (change.slots j nf) ∙ at_j)
    ]
  ]

  pub is_tagged : (seed : DefaultHasher) → Tagged seed b ss → ((t h : ℕ) → slot_at ts place ≡ Full t h → (key : List ℕ) × (key_in (c h) ≡ Some key) × (t ≡ tag_of seed key)) → Tagged seed c ts
  is_tagged seed tagged new j t h at_j = elim (cases_eq j place) [
    | inl e ↦ new t h (subst (λ k. slot_at ts k ≡ Full t h) e at_j)
    | inr ne ↦
        let was : slot_at ss j ≡ Full t h = sym (change.slots j ne) ∙ at_j in
        let old = tagged j t h was in
        (old.0, ap key_in (change.bytes j t h ne was) ∙ old.1, old.2)
  ]

  pub is_held : (f g : Far) → Held f ss → ((j t h : ℕ) → j ≢ place → slot_at ss j ≡ Full t h → g.sizes h ≡ f.sizes h) →
      ((t h : ℕ) → slot_at ts place ≡ Full t h → (n : ℕ) × (g.sizes h ≡ Some n)) → Held g ts
  is_held f g held sizes new j t h at_j = elim (cases_eq j place) [
    | inl e ↦ new t h (subst (λ k. slot_at ts k ≡ Full t h) e at_j)
    | inr ne ↦
        let was : slot_at ss j ≡ Full t h = sym (change.slots j ne) ∙ at_j in
        let old = held j t h was in
        (old.0, sizes j t h ne was ∙ old.1)
  ]

  -- each object that there is was one before, and not that of the place; or it has the place
  pub is_owned : (f g : Far) → Owned f ss → ((h k : ℕ) → g.sizes h ≡ Some k → ((t : ℕ) × (slot_at ts place ≡ Full t h)) ⊎ ((f.sizes h ≡ Some k) × ((t : ℕ) → slot_at ss place ≢ Full t h))) → Owned g ts
  is_owned f g owned new h k e = elim (new h k e) [
    | inl here ↦ (place, here.0, here.1)
    | inr w ↦
        let o = owned h k w.0 in
        (o.0, o.1, change.slots o.0 (λ same. w.1 o.1 (subst (λ j. slot_at ss j ≡ Full o.1 h) same o.2)) ∙ o.2)
  ]
