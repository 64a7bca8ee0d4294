-- What a mutator is, by its seat's view.
use Rattle.std.proofs.Common.{◌≡◌, ◌≢◌, ℕ, ◌+◌, ◌/◌, ◌%◌, Bool, true, false, Option, Some, None, is_some, refl, sym, ap, ◌∙◌, inl, inr, List, ◌∷◌}
use Rattle.std.specs.Prelude.{slice_set}
use Rattle.std.proofs.lemmas.Bool.{cases_eq, eq-eqb, ne_eqb, false≢true}
use Rattle.std.proofs.lemmas.List.{set-get_or}
use Rattle.far_word.specs.declared.pointer.Place.{Place}
use Rattle.far_word.specs.declared.sizes.TheConstants.{CELLS}
use Rattle.far_events.proofs.Put.{put_other, put_same}
use Rattle.far_table.specs.View.{ObjectView}
use Rattle.far_table.specs.Seats.{Seated}
use Rattle.far_table.specs.Views.{asked_at, closed_view, ds_of as seat_ds, held_at, held_view, len_of as seat_len, object_at, soiled_at, uses as seat_uses, warmed_view}
use Rattle.far_heap.specs.Mine.{asking, bytes_in, closing, ds_in, ds_of, known_bytes, len_in, len_of, mine_of, object_of, own_row, seen, uses, viewing, views}
use Rattle.far_heap.proofs.OwnRows.{own_row-const, own_row-get, own_row-one}

pub is_some_seen : (h : Bool) (x : Option ObjectView) → is_some (seen h x) ≡ is_some x
is_some_seen h None = refl
is_some_seen h (Some x) = refl

pub len_seen : (h : Bool) (x : Option ObjectView) → len_of (seen h x) ≡ seat_len x
len_seen h None = refl
len_seen h (Some x) = refl

pub ds_seen : (h : Bool) (x : Option ObjectView) → ds_of (seen h x) ≡ seat_ds x
ds_seen h None = refl
ds_seen h (Some x) = refl

pub none_there : {X : Type 0} (x : Option X) → is_some x ≡ false → x ≡ None
none_there None e = refl
none_there (Some y) e = absurd (false≢true (sym e))

module _ (s : Seated) (p : ℕ) where
  module _ (own : p / CELLS ≡ s.view.number) where
    pub object_own : object_of (mine_of s) p ≡ seen s.view.honest (object_at s.view p)
    object_own = rw (eq-eqb (p / CELLS) s.view.number own) (own_row-get (λ q. seen s.view.honest (object_at s.view q)) s.view.number p None own)

    pub uses_own : uses (mine_of s) p ≡ seat_uses s.view p
    uses_own = ap is_some object_own ∙ is_some_seen s.view.honest (object_at s.view p)

    pub len_own : len_in (mine_of s) p ≡ seat_len (object_at s.view p)
    len_own = ap len_of object_own ∙ len_seen s.view.honest (object_at s.view p)

    pub ds_own : ds_in (mine_of s) p ≡ seat_ds (object_at s.view p)
    ds_own = ap ds_of object_own ∙ ds_seen s.view.honest (object_at s.view p)

    pub bytes_own : bytes_in (mine_of s) p ≡ known_bytes (seen s.view.honest (object_at s.view p))
    bytes_own = ap known_bytes object_own

    pub views_own : views (mine_of s) p ≡ is_some (held_at s.view p)
    views_own = rw (eq-eqb (p / CELLS) s.view.number own) (own_row-get (λ q. is_some (held_at s.view q)) s.view.number p false own)

    -- a pin that held a place
    pub pinned_mine : (found : ℕ) (place : Place) → mine_of record { table = s.table; view = held_view p place (warmed_view p found s.view) } ≡ viewing p (mine_of s)
    pinned_mine found place =
        let f : ℕ → Bool = λ q. is_some (held_at s.view q) in
        let g : ℕ → Bool = λ q. is_some (held_at (held_view p place (warmed_view p found s.view)) q) in
        ap (λ (row : List Bool). record (mine_of s) { viewed = row }) (own_row-one f g s.view.number p true own
        (λ q ne. ap is_some (put_other (held_at s.view) p (Some place) q ne)) (ap is_some (put_same (held_at s.view) p (Some place) p refl)))

    -- MOVE was set anew so many times
    pub asked_mine : (n : ℕ) → mine_of record { table = s.table; view = record s.view { asked = (p, asked_at s.view p + n) ∷ s.view.asked } } ≡ asking p n (mine_of s)
    asked_mine n =
        let f : ℕ → ℕ = λ q. asked_at s.view q in
        let g : ℕ → ℕ = λ q. asked_at (record s.view { asked = (p, asked_at s.view p + n) ∷ s.view.asked }) q in
        ap (λ (row : List ℕ). record (mine_of s) { asked = row })
        (own_row-one f g s.view.number p (asked_at s.view p + n) own (λ q ne. put_other (asked_at s.view) p (asked_at s.view p + n) q ne) (put_same (asked_at s.view) p (asked_at s.view p + n) p refl)
        ∙ ap (λ k. slice_set (own_row f s.view.number) (p % CELLS) (k + n)) (sym (own_row-get f s.view.number p 0 own)))

    -- it is viewed already
    pub again_mine : is_some (held_at s.view p) ≡ true → mine_of s ≡ viewing p (mine_of s)
    again_mine held =
        let row : List Bool = own_row (λ q. is_some (held_at s.view q)) s.view.number in
        let here = own_row-get (λ q. is_some (held_at s.view q)) s.view.number p false own ∙ held in
        ap (λ (r : List Bool). record (mine_of s) { viewed = r }) (sym (set-get_or row (p % CELLS) false) ∙ ap (λ b. slice_set row (p % CELLS) b) here)

  pub other_views : p / CELLS ≢ s.view.number → views (mine_of s) p ≡ false
  other_views ne = rw (ne_eqb (p / CELLS) s.view.number ne) refl

  pub other_uses : p / CELLS ≢ s.view.number → uses (mine_of s) p ≡ false
  other_uses ne = rw (ne_eqb (p / CELLS) s.view.number ne) refl

  pub views_so : views (mine_of s) p ≡ true → (p / CELLS ≡ s.view.number) × (is_some (held_at s.view p) ≡ true)
  views_so h = elim (cases_eq (p / CELLS) s.view.number) [
    | inl own ↦ (own, sym (views_own own) ∙ h)
    | inr ne ↦ absurd (false≢true (sym (other_views ne) ∙ h))
  ]

  pub uses_so : uses (mine_of s) p ≡ true → (p / CELLS ≡ s.view.number) × (seat_uses s.view p ≡ true)
  uses_so h = elim (cases_eq (p / CELLS) s.view.number) [
    | inl own ↦ (own, sym (uses_own own) ∙ h)
    | inr ne ↦ absurd (false≢true (sym (other_uses ne) ∙ h))
  ]

pub closed_mine : (s : Seated) → mine_of record { table = s.table; view = closed_view s.view } ≡ closing (mine_of s)
closed_mine s =
    let f : ℕ → Bool = λ q. is_some (held_at s.view q) in
    let g : ℕ → Bool = λ q. is_some (held_at (closed_view s.view) q) in
    let views = own_row-const f g s.view.number false (λ q. refl) in
    let soils = own_row-const (λ q. soiled_at s.view q) (λ q. soiled_at (closed_view s.view) q) s.view.number false (λ q. refl) in
    λ i. record (mine_of s) { opened = false; viewed = views i; soiled = soils i }
