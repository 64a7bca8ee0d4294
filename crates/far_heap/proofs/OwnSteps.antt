-- What a mutator knows by itself after each step.
use Rattle.std.proofs.Common.{◌≡◌, ℕ, ◌/◌, ◌%◌, ◌<◌, ◌≤◌, Bool, true, false, nat_lt, Option, Some, None, is_some, List, length, get_or, refl, sym, subst, ap, ◌∙◌, inl, inr, arith}
use Rattle.std.specs.Prelude.{◌==◌, IfSome, replicate, slice_set}
use Rattle.std.proofs.lemmas.Bool.{cases_eq, cases_lt, eq-eqb, ne_eqb, lt-ltb, le-ltb, eqb-true, false≢true}
use Rattle.std.proofs.lemmas.List.{length-replicate, get_or-replicate, get_or_past}
use Rattle.atomic_table.specs.Seated.{TableId}
use Rattle.far_word.specs.declared.pointer.Place.{Place}
use Rattle.far_word.specs.declared.sizes.TheConstants.{CELLS, LONGEST, MOST_MUTATORS, POINTERS}
use Rattle.far_events.proofs.Put.{put_other, put_same}
use Rattle.far_table.specs.View.{OwnerView}
use Rattle.far_table.specs.Seats.{Seated}
use Rattle.far_table.specs.Views.{closed_view, ds_of as seat_ds, held_at, held_view, len_of as seat_len, noted_view, object_at, soiled_at, soiled_view, uses as seat_uses, warmed_view}
use Rattle.far_heap.specs.declared.rows.Row.{Row}
use Rattle.far_heap.specs.declared.rows.Rows.{Rows}
use Rattle.far_heap.specs.Rows.{EndsScope, HasRow, HasSoil, IsBlank, RowsOk, blank, row_of, soiled_of}
use Rattle.far_heap.specs.Mine.{IsNew, OwnOk, StructuresOk, ds_in, len_in, mine_of, uses, views}
use Rattle.far_heap.proofs.Mines.{ds_own, len_own, other_uses, other_views, uses_own, uses_so, views_own, views_so}
use Rattle.far_heap.proofs.OwnRows.{own_row-one}
use Rattle.far_heap.proofs.Soils.{Soils}

pub seated_is : (t : Seated) (id : TableId) (v : OwnerView) → t.table ≡ id → t.view ≡ v → t ≡ record { table = id; view = v }
seated_is t id v e f = λ i. record { table = e i; view = f i }

-- an owner's pointers are below the largest heap's
pub own_below : (p number : ℕ) → p / CELLS ≡ number → number < MOST_MUTATORS → p < POINTERS
own_below p number own few = omega arith

less_is_other : (x y : ℕ) → x < y → x ≡ y → ⊥
less_is_other x y lt e = omega arith

-- ---- the rows
-- past the last pointer nothing is known
pub past_rows : (rows : Rows) (p : ℕ) → RowsOk rows → POINTERS ≤ p → row_of rows p ≡ blank
past_rows rows p ok past = get_or_past rows.each.items p blank (omega (arith, ok.many))

-- a list of one value
pub all_in : {X : Type 0} (xs : List X) (n k : ℕ) (x : X) → xs ≡ replicate n x → get_or xs k x ≡ x
all_in {X = X} xs n k x e = ap (λ z. get_or z k x) e ∙ elim (cases_lt k n) [
  | inl lt ↦ get_or-replicate n k x x lt
  | inr past ↦ get_or_past (replicate n x) k x (omega (arith, length-replicate {A = X} n x))
]

pub all_long : {X : Type 0} (xs : List X) (n : ℕ) (x : X) → xs ≡ replicate n x → length xs ≡ n
all_long {X = X} xs n x e = ap length e ∙ length-replicate {A = X} n x

pub blank_ok : (rows : Rows) → IsBlank rows → RowsOk rows
blank_ok rows new = record {
  many = new.many;
  many_soiled = new.many_soiled;
  some = omega (arith, new.scope);
  viewed = λ p. omega (arith, ap (λ (r : Row). r.viewed) (new.each p));
  soiled = λ p. omega (arith, new.soiled p);
}

-- one row was changed
module _ (rows rows' : Rows) (p : ℕ) (r : Row) (h : HasRow rows rows' p r) where
  pub row_is : {X : Type 0} (f : Row → X) (q : ℕ) → q ≡ p → f (row_of rows' q) ≡ f r
  row_is f q e = ap (λ z. f (row_of rows' z)) e ∙ ap f h.here

  -- what it didn't change of that row stays everywhere
  pub row_kept : {X : Type 0} (f : Row → X) → f r ≡ f (row_of rows p) → (q : ℕ) → f (row_of rows' q) ≡ f (row_of rows q)
  row_kept f same q = elim (cases_eq q p) [
    | inl e ↦ row_is f q e ∙ same ∙ sym (ap (λ z. f (row_of rows z)) e)
    | inr ne ↦ ap f (h.there q ne)
  ]

  pub scope_kept : rows'.scope ≡ rows.scope
  scope_kept = ap (λ (x : Rows). x.scope) h.rest

  pub soils_kept : (q : ℕ) → soiled_of rows' q ≡ soiled_of rows q
  soils_kept q = ap (λ (x : Rows). soiled_of x q) h.rest

  pub row_ok : RowsOk rows → r.viewed ≤ rows.scope → RowsOk rows'
  row_ok ok low = record {
    many = h.many ∙ ok.many;
    many_soiled = ap (λ (x : Rows). length x.soiled.items) h.rest ∙ ok.many_soiled;
    some = omega (arith, scope_kept, ok.some);
    viewed = λ q. elim (cases_eq q p) [
      | inl e ↦ omega (arith, row_is (λ x. x.viewed) q e, scope_kept, low)
      | inr ne ↦ omega (arith, ap (λ (x : Row). x.viewed) (h.there q ne), scope_kept, ok.viewed q)
    ];
    soiled = λ q. omega (arith, soils_kept q, scope_kept, ok.soiled q);
  }

  -- whether an object is viewed stays with it, if the row's count does
  pub views_kept : r.viewed ≡ (row_of rows p).viewed → (q : ℕ) → ((row_of rows q).viewed == rows.scope) ≡ ((row_of rows' q).viewed == rows'.scope)
  views_kept same q = λ i. (sym (row_kept (λ x. x.viewed) same q) i == sym scope_kept i)

-- a seat and its mutator's rows, once the scope has soiled an object, in this step or before
pub record HasSoiled (s t : Seated) (p : ℕ) (name : TableId) (number : ℕ) (rows rows' : Rows) : Type 0 where
  pub table : t.table ≡ s.table
  pub soils : Soils p s.view t.view
  pub kept : (q : ℕ) → (row_of rows' q).structure ≡ (row_of rows q).structure
  pub ok : OwnOk t name number rows'

-- the seat's step soils an object
pub soils_so : (p found : ℕ) (o : OwnerView) → Soils p o (soiled_view p found o)
soils_so p found o = record {
  rest = refl;
  here = put_same (soiled_at o) p true p refl;
  others = put_other (soiled_at o) p true;
}

-- what a mutator is stays as it soils, but for that
pub soiled_mine : (s : Seated) (p : ℕ) (t : Seated) → p / CELLS ≡ s.view.number → t.table ≡ s.table → Soils p s.view t.view → mine_of t ≡ record (mine_of s) { soiled = slice_set (mine_of s).soiled (p % CELLS) true }
soiled_mine s p t own same soils =
    ap mine_of (seated_is t s.table (record s.view { soiled = t.view.soiled; dirtied = t.view.dirtied; found = t.view.found }) same soils.rest)
    ∙ ap (λ (row : List Bool). record (mine_of s) { soiled = row }) (own_row-one (λ q. soiled_at s.view q) (λ q. soiled_at t.view q) s.view.number p true own soils.others soils.here)

-- the rows of a new mutator
pub new_ok : (s : Seated) (name : TableId) (number : ℕ) (rows : Rows) → s.table ≡ name → IsNew number s.view → number < MOST_MUTATORS → IsBlank rows → OwnOk s name number rows
new_ok s name number rows table new few none = record {
  table = table;
  number_is = new.number_is;
  few = few;
  rows_ok = blank_ok rows none;
  lens_are = λ p own. ap (λ (r : Row). r.len) (none.each p) ∙ sym (ap seat_len (new.unused p));
  used_are = λ p own. ap is_some (new.unused p) ∙ sym (ap (λ x. nat_lt 0 (seat_len x)) (new.unused p));
  short = λ p own. omega (arith, ap seat_len (new.unused p));
  views_are = λ p own. ap is_some (new.free p) ∙ sym (ne_eqb (row_of rows p).viewed rows.scope (λ e. omega (arith, e, ap (λ (r : Row). r.viewed) (none.each p), none.scope)));
  held_used = λ p own held. absurd (false≢true (sym (ap is_some (new.free p)) ∙ held));
  held_open = λ p own held. absurd (false≢true (sym (ap is_some (new.free p)) ∙ held));
  soils_are = λ p own e. absurd (omega (arith, e, none.soiled p, none.scope));
  other_lens = λ p _. ap (λ (r : Row). r.len) (none.each p);
  other_views = λ p _. ap (λ (r : Row). r.viewed) (none.each p);
}

pub new_structures : (number : ℕ) (o : OwnerView) (rows : Rows) → IsNew number o → StructuresOk o number rows
new_structures number o rows new = record { are = λ p own used. absurd (false≢true (sym (ap is_some (new.unused p)) ∙ used)) }

-- ---- data structures
-- they stay where no object comes, and each that stays is of the data structure that it was of
pub structures_kept : (number : ℕ) (rows rows' : Rows) (o o' : OwnerView) → StructuresOk o number rows → ((p : ℕ) → (row_of rows' p).structure ≡ (row_of rows p).structure) →
    ((p : ℕ) → seat_uses o' p ≡ true → (seat_uses o p ≡ true) × (seat_ds (object_at o' p) ≡ seat_ds (object_at o p))) → StructuresOk o' number rows'
structures_kept number rows rows' o o' ok same kept = record { are = λ p own used. let k = kept p used in same p ∙ ok.are p own k.0 ∙ sym k.1 }

-- no object came or left
pub structures_move : (number : ℕ) (rows rows' : Rows) (o o' v : OwnerView) → StructuresOk o number rows → o' ≡ v → ((p : ℕ) → object_at v p ≡ object_at o p) →
    ((p : ℕ) → (row_of rows' p).structure ≡ (row_of rows p).structure) → StructuresOk o' number rows'
structures_move number rows rows' o o' v ok is same kept =
    structures_kept number rows rows' o o' ok kept (λ p used. let e = ap (λ (x : OwnerView). object_at x p) is ∙ same p in (sym (ap is_some e) ∙ used, ap seat_ds e))

pub structures_stay : (number : ℕ) (rows : Rows) (o o' v : OwnerView) → StructuresOk o number rows → o' ≡ v → ((p : ℕ) → object_at v p ≡ object_at o p) → StructuresOk o' number rows
structures_stay number rows o o' v ok is same = structures_move number rows rows o o' v ok is same (λ p. refl)

pub structure_is : (number : ℕ) (rows : Rows) (s : Seated) (p ds : ℕ) → StructuresOk s.view number rows → s.view.number ≡ number → uses (mine_of s) p ≡ true → ds ≡ (row_of rows p).structure → ds ≡ ds_in (mine_of s) p
structure_is number rows s p ds ok own used is = let so = uses_so s p used in is ∙ ok.are p (so.0 ∙ own) so.1 ∙ sym (ds_own s p so.0)

module _ (s : Seated) (name : TableId) (number : ℕ) (rows : Rows) (ok : OwnOk s name number rows) where
  -- ---- what the rows say
  pub used_below : (p : ℕ) → uses (mine_of s) p ≡ true → p < POINTERS
  used_below p used = own_below p number ((uses_so s p used).0 ∙ ok.number_is) ok.few

  -- a pointer with a length, or that the scope has viewed, is its own
  own_len : (p : ℕ) → 0 < (row_of rows p).len → p / CELLS ≡ number
  own_len p some = elim (cases_eq (p / CELLS) number) [
    | inl own ↦ own
    | inr ne ↦ absurd (omega (arith, some, ok.other_lens p ne))
  ]

  own_view : (p : ℕ) → (row_of rows p).viewed ≡ rows.scope → p / CELLS ≡ number
  own_view p e = elim (cases_eq (p / CELLS) number) [
    | inl own ↦ own
    | inr ne ↦ absurd (omega (arith, e, ok.other_views p ne, ok.rows_ok.some))
  ]

  pub len_unused : (p : ℕ) → (row_of rows p).len ≡ 0 → uses (mine_of s) p ≡ false
  len_unused p none = elim (cases_eq (p / CELLS) number) [
    | inl own ↦ uses_own s p (own ∙ sym ok.number_is) ∙ ok.used_are p own ∙ le-ltb 0 (seat_len (object_at s.view p)) (omega (arith, none, ok.lens_are p own))
    | inr ne ↦ other_uses s p (λ e. ne (e ∙ ok.number_is))
  ]

  pub len_is : (p len : ℕ) → uses (mine_of s) p ≡ true → len ≡ (row_of rows p).len → len ≡ len_in (mine_of s) p
  len_is p len used is = let own = (uses_so s p used).0 in is ∙ ok.lens_are p (own ∙ ok.number_is) ∙ sym (len_own s p own)

  pub len_used : (p len : ℕ) → (0 < len) × (len ≡ (row_of rows p).len) → (uses (mine_of s) p ≡ true) × (len ≡ len_in (mine_of s) p)
  len_used p len is =
      let own = own_len p (omega (arith, is.0, is.1)) in
      let mine : p / CELLS ≡ s.view.number = own ∙ sym ok.number_is in
      let long : len ≡ seat_len (object_at s.view p) = is.1 ∙ ok.lens_are p own in
      (uses_own s p mine ∙ ok.used_are p own ∙ lt-ltb 0 (seat_len (object_at s.view p)) (omega (arith, is.0, long)), long ∙ sym (len_own s p mine))

  pub len_viewed : (p len : ℕ) → ((row_of rows p).viewed ≡ rows.scope) × (len ≡ (row_of rows p).len) → (views (mine_of s) p ≡ true) × (len ≡ len_in (mine_of s) p) × (len ≤ LONGEST)
  len_viewed p len is =
      let own = own_view p is.0 in
      let mine : p / CELLS ≡ s.view.number = own ∙ sym ok.number_is in
      let long : len ≡ seat_len (object_at s.view p) = is.1 ∙ ok.lens_are p own in
      (views_own s p mine ∙ ok.views_are p own ∙ eq-eqb (row_of rows p).viewed rows.scope is.0, long ∙ sym (len_own s p mine), omega (arith, long, ok.short p own))

  pub if_used : (p : ℕ) (found : Option ℕ) → IfSome found (λ len. (0 < len) × (len ≡ (row_of rows p).len)) → IfSome found (λ len. (uses (mine_of s) p ≡ true) × (len ≡ len_in (mine_of s) p))
  if_used p None h = h
  if_used p (Some len) h = len_used p len h

  pub if_viewed : (p : ℕ) (found : Option ℕ) → IfSome found (λ len. ((row_of rows p).viewed ≡ rows.scope) × (len ≡ (row_of rows p).len)) →
      IfSome found (λ len. (views (mine_of s) p ≡ true) × (len ≡ len_in (mine_of s) p) × (len ≤ LONGEST))
  if_viewed p None h = h
  if_viewed p (Some len) h = len_viewed p len h

  pub view_free : (p : ℕ) → ((row_of rows p).viewed == rows.scope) ≡ false → views (mine_of s) p ≡ false
  view_free p free = elim (cases_eq (p / CELLS) number) [
    | inl own ↦ views_own s p (own ∙ sym ok.number_is) ∙ ok.views_are p own ∙ free
    | inr ne ↦ other_views s p (λ e. ne (e ∙ ok.number_is))
  ]

  -- a pointer that is viewed is used
  pub viewed_used : (p : ℕ) → views (mine_of s) p ≡ true → uses (mine_of s) p ≡ true
  viewed_used p h = let so = views_so s p h in uses_own s p so.0 ∙ ok.held_used p (so.0 ∙ ok.number_is) so.1

  -- ---- a pin that held a place
  pub pinned_ok : (p found : ℕ) (place : Place) (rows' : Rows) → p / CELLS ≡ number → seat_uses s.view p ≡ true → is_some s.view.open_at ≡ true → HasRow rows rows' p (record (row_of rows p) { viewed = rows.scope }) →
      OwnOk (record { table = s.table; view = held_view p place (warmed_view p found s.view) }) name number rows'
  pinned_ok p found place rows' own used opened h = let r : Row = record (row_of rows p) { viewed = rows.scope } in record {
    table = ok.table;
    number_is = ok.number_is;
    few = ok.few;
    rows_ok = row_ok rows rows' p r h ok.rows_ok (omega arith);
    lens_are = λ q mine. row_kept rows rows' p r h (λ x. x.len) refl q ∙ ok.lens_are q mine;
    used_are = ok.used_are;
    short = ok.short;
    views_are = λ q mine. elim (cases_eq q p) [
      | inl e ↦ ap is_some (put_same (held_at s.view) p (Some place) q e) ∙ sym (eq-eqb (row_of rows' q).viewed rows'.scope (row_is rows rows' p r h (λ x. x.viewed) q e ∙ sym (scope_kept rows rows' p r h)))
      | inr ne ↦ ap is_some (put_other (held_at s.view) p (Some place) q ne) ∙ ok.views_are q mine
          ∙ (λ i. (sym (ap (λ (x : Row). x.viewed) (h.there q ne)) i == sym (scope_kept rows rows' p r h) i))
    ];
    held_used = λ q mine held. elim (cases_eq q p) [
      | inl e ↦ ap (seat_uses s.view) e ∙ used
      | inr ne ↦ ok.held_used q mine (sym (ap is_some (put_other (held_at s.view) p (Some place) q ne)) ∙ held)
    ];
    held_open = λ _ _ _. opened;
    soils_are = λ q mine e. ok.soils_are q mine (sym (soils_kept rows rows' p r h q) ∙ e ∙ scope_kept rows rows' p r h);
    other_lens = λ q ne. row_kept rows rows' p r h (λ x. x.len) refl q ∙ ok.other_lens q ne;
    other_views = λ q ne. ap (λ (x : Row). x.viewed) (h.there q (λ e. ne (ap (λ z. z / CELLS) e ∙ own))) ∙ ok.other_views q ne;
  }

  pub pinned_structures : (p found : ℕ) (place : Place) (rows' : Rows) (o : OwnerView) → StructuresOk s.view number rows → HasRow rows rows' p (record (row_of rows p) { viewed = rows.scope }) →
      o ≡ held_view p place (warmed_view p found s.view) → StructuresOk o number rows'
  pinned_structures p found place rows' o all h is =
      structures_move number rows rows' s.view o (held_view p place (warmed_view p found s.view)) all is (λ q. refl) (row_kept rows rows' p (record (row_of rows p) { viewed = rows.scope }) h (λ x. x.structure) refl)

  -- and one that held none
  pub warmed_ok : (p found : ℕ) → OwnOk (record { table = s.table; view = warmed_view p found s.view }) name number rows
  warmed_ok p found = record {
    table = ok.table;
    number_is = ok.number_is;
    few = ok.few;
    rows_ok = ok.rows_ok;
    lens_are = ok.lens_are;
    used_are = ok.used_are;
    short = ok.short;
    views_are = ok.views_are;
    held_used = ok.held_used;
    held_open = ok.held_open;
    soils_are = ok.soils_are;
    other_lens = ok.other_lens;
    other_views = ok.other_views;
  }

  -- an adoption that was refused
  pub noted_ok : (p found : ℕ) → OwnOk (record { table = s.table; view = noted_view p found s.view }) name number rows
  noted_ok p found = record {
    table = ok.table;
    number_is = ok.number_is;
    few = ok.few;
    rows_ok = ok.rows_ok;
    lens_are = ok.lens_are;
    used_are = ok.used_are;
    short = ok.short;
    views_are = ok.views_are;
    held_used = ok.held_used;
    held_open = ok.held_open;
    soils_are = ok.soils_are;
    other_lens = ok.other_lens;
    other_views = ok.other_views;
  }

  -- ---- a soiling
  soil_ok : (p : ℕ) (rows' : Rows) → HasSoil rows rows' p → RowsOk rows'
  soil_ok p rows' h = let same = ap (λ (x : Rows). x.scope) h.rest in record {
    many = ap (λ (x : Rows). length x.each.items) h.rest ∙ ok.rows_ok.many;
    many_soiled = h.many ∙ ok.rows_ok.many_soiled;
    some = omega (arith, same, ok.rows_ok.some);
    viewed = λ q. omega (arith, ap (λ (x : Rows). (row_of x q).viewed) h.rest, same, ok.rows_ok.viewed q);
    soiled = λ q. elim (cases_eq q p) [
      | inl e ↦ omega (arith, ap (soiled_of rows') e, h.here, same)
      | inr ne ↦ omega (arith, h.there q ne, same, ok.rows_ok.soiled q)
    ];
  }

  pub soiled_ok : (p : ℕ) (t : Seated) (rows' : Rows) → t.table ≡ s.table → p / CELLS ≡ number → Soils p s.view t.view → HasSoil rows rows' p → OwnOk t name number rows'
  soiled_ok p t rows' same own soils h = let counts = ap (λ (x : Rows). x.scope) h.rest in record {
    table = same ∙ ok.table;
    number_is = ap (λ (x : OwnerView). x.number) soils.rest ∙ ok.number_is;
    few = ok.few;
    rows_ok = soil_ok p rows' h;
    lens_are = λ q mine. ap (λ (x : Rows). (row_of x q).len) h.rest ∙ ok.lens_are q mine ∙ sym (ap (λ (x : OwnerView). seat_len (object_at x q)) soils.rest);
    used_are = λ q mine. ap (λ (x : OwnerView). seat_uses x q) soils.rest ∙ ok.used_are q mine ∙ sym (ap (λ (x : OwnerView). nat_lt 0 (seat_len (object_at x q))) soils.rest);
    short = λ q mine. omega (arith, ap (λ (x : OwnerView). seat_len (object_at x q)) soils.rest, ok.short q mine);
    views_are = λ q mine. ap (λ (x : OwnerView). is_some (held_at x q)) soils.rest ∙ ok.views_are q mine ∙ sym (ap (λ (x : Rows). (row_of x q).viewed == x.scope) h.rest);
    held_used = λ q mine held. ap (λ (x : OwnerView). seat_uses x q) soils.rest ∙ ok.held_used q mine (sym (ap (λ (x : OwnerView). is_some (held_at x q)) soils.rest) ∙ held);
    held_open = λ q mine held. ap (λ (x : OwnerView). is_some x.open_at) soils.rest ∙ ok.held_open q mine (sym (ap (λ (x : OwnerView). is_some (held_at x q)) soils.rest) ∙ held);
    soils_are = λ q mine e. elim (cases_eq q p) [
      | inl e' ↦ ap (soiled_at t.view) e' ∙ soils.here
      | inr ne ↦ soils.others q ne ∙ ok.soils_are q mine (sym (h.there q ne) ∙ e ∙ counts)
    ];
    other_lens = λ q ne. ap (λ (x : Rows). (row_of x q).len) h.rest ∙ ok.other_lens q ne;
    other_views = λ q ne. ap (λ (x : Rows). (row_of x q).viewed) h.rest ∙ ok.other_views q ne;
  }

  pub first_soiled : (p found : ℕ) (t : Seated) (rows' : Rows) → t.table ≡ s.table → t.view ≡ soiled_view p found s.view → p / CELLS ≡ number → HasSoil rows rows' p → HasSoiled s t p name number rows rows'
  first_soiled p found t rows' same view own h = let soils = subst (λ (v : OwnerView). Soils p s.view v) (sym view) (soils_so p found s.view) in
      record { table = same; soils = soils; kept = λ q. ap (λ (x : Rows). (row_of x q).structure) h.rest; ok = soiled_ok p t rows' same own soils h }

  pub soiled_before : (p : ℕ) → p / CELLS ≡ number → (soiled_of rows p == rows.scope) ≡ true → HasSoiled s s p name number rows rows
  soiled_before p own is = record {
    table = refl;
    soils = record {
      rest = refl;
      here = ok.soils_are p own (eqb-true (soiled_of rows p) rows.scope is);
      others = λ q ne. refl;
    };
    kept = λ q. refl;
    ok = ok;
  }

  -- ---- a close
  pub closed_ok : (rows' : Rows) → EndsScope rows rows' → OwnOk (record { table = s.table; view = closed_view s.view }) name number rows'
  closed_ok rows' ends = record {
    table = ok.table;
    number_is = ok.number_is;
    few = ok.few;
    rows_ok = record {
      many = ends.many;
      many_soiled = ends.many_soiled;
      some = omega (arith, ends.viewed 0);
      viewed = λ q. omega (arith, ends.viewed q);
      soiled = λ q. omega (arith, ends.soiled q);
    };
    lens_are = λ q mine. ends.lens q ∙ ok.lens_are q mine;
    used_are = ok.used_are;
    short = ok.short;
    views_are = λ q mine. sym (ne_eqb (row_of rows' q).viewed rows'.scope (λ e. omega (arith, e, ends.viewed q)));
    held_used = λ q mine held. absurd (false≢true held);
    held_open = λ q mine held. absurd (false≢true held);
    soils_are = λ q mine e. absurd (less_is_other (soiled_of rows' q) rows'.scope (ends.soiled q) e);
    other_lens = λ q ne. ends.lens q ∙ ok.other_lens q ne;
    other_views = λ q ne. ends.blanks q (ok.other_views q ne);
  }
