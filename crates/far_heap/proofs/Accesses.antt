-- A mutator after bytes of an object were stored.
use Rattle.std.proofs.Common.{◌≡◌, ℕ, ◌+◌, ◌/◌, ◌%◌, ◌<◌, ◌≤◌, Bool, true, false, Option, Some, None, nat_lt, is_some, List, length, refl, sym, ap, ◌∙◌, inl, inr, arith}
use Rattle.std.specs.Prelude.{option_map, slice_set}
use Rattle.std.proofs.lemmas.Bool.{cases_eq, false≢true}
use Rattle.atomic_table.specs.Seated.{TableId}
use Rattle.far_word.specs.Bytes.{byte_at, bytes_of}
use Rattle.far_word.specs.declared.sizes.TheConstants.{CELLS}
use Rattle.far_table.specs.View.{ObjectView, OwnerView}
use Rattle.far_table.specs.Seats.{Seated}
use Rattle.far_table.specs.Views.{ds_of as seat_ds, held_at, len_of as seat_len, object_at, soiled_at, uses as seat_uses, word_in_view, word_of}
use Rattle.far_heap.specs.declared.rows.Rows.{Rows}
use Rattle.far_heap.specs.Mine.{Mine, Object, OwnOk, StructuresOk, mine_of, object_of, rewritten, seen, with_range}
use Rattle.far_table.specs.Ranges.{HasBytes, Wrote}
use Rattle.far_heap.proofs.Mines.{object_own}
use Rattle.far_heap.proofs.OwnRows.{own_row-one}
use Rattle.far_heap.proofs.OwnSteps.{seated_is, structures_kept}
use Rattle.far_heap.proofs.Spliced.{bytes_wrote}

rewrite_so : (h : Bool) (x y : Option ObjectView) (from : ℕ) (bytes : List ℕ) → is_some y ≡ is_some x → seat_len y ≡ seat_len x → seat_ds y ≡ seat_ds x → from + length bytes ≤ seat_len x →
    (h ≡ true → HasBytes (word_in_view y) from bytes) → (h ≡ true → (k : ℕ) → k < from → byte_at (word_in_view y) k ≡ byte_at (word_in_view x) k) →
    (h ≡ true → (k : ℕ) → from + length bytes ≤ k → k < seat_len x → byte_at (word_in_view y) k ≡ byte_at (word_in_view x) k) → seen h y ≡ option_map (rewritten from bytes) (seen h x)
rewrite_so h None None from bytes there len ds fits inside before after = refl
rewrite_so h None (Some y) from bytes there len ds fits inside before after = absurd (false≢true (sym there))
rewrite_so h (Some x) None from bytes there len ds fits inside before after = absurd (false≢true there)
rewrite_so false (Some x) (Some y) from bytes there len ds fits inside before after = λ i. Some record { len = len i; ds = ds i; bytes = None }
rewrite_so true (Some x) (Some y) from bytes there len ds fits inside before after =
    let all : bytes_of (word_of y) y.len ≡ with_range (bytes_of (word_of x) x.len) from bytes =
    ap (bytes_of (word_of y)) len ∙ bytes_wrote (word_of x) (word_of y) x.len from bytes fits (inside refl) (before refl) (after refl) in
    λ i. Some record { len = len i; ds = ds i; bytes = Some (all i) }

-- a mutator after a store, before which it soiled the object
abbrev pub storing : ℕ → ℕ → List ℕ → Mine → Mine
storing p from new m = record m { objects = slice_set m.objects (p % CELLS) (option_map (rewritten from new) (object_of m p)) }

pub wrote_mine : (s t : Seated) (p from : ℕ) (bytes : List ℕ) → p / CELLS ≡ s.view.number → from + length bytes ≤ seat_len (object_at s.view p) → t.table ≡ s.table →
    Wrote p from bytes s.view t.view → mine_of t ≡ storing p from bytes (mine_of s)
wrote_mine s t p from bytes own fits same w =
    let h : Bool = s.view.honest in
    let f : ℕ → Option Object = λ q. seen s.view.honest (object_at s.view q) in
    let g : ℕ → Option Object = λ q. seen s.view.honest (object_at t.view q) in
    let v : Option Object = option_map (rewritten from bytes) (object_of (mine_of s) p) in
    let here : g p ≡ v = rewrite_so s.view.honest (object_at s.view p) (object_at t.view p) from bytes w.there w.len w.ds fits w.inside w.before w.after
    ∙ ap (option_map (rewritten from bytes)) (sym (object_own s p own)) in
    ap mine_of (seated_is t s.table (record s.view { objects = t.view.objects }) same w.rest)
    ∙ ap (λ (rows : List (Option Object)). record (mine_of s) { objects = rows }) (own_row-one f g s.view.number p v own (λ q ne. ap (seen s.view.honest) (w.others q ne)) here)

-- its rows stay as they are
module _ (p from : ℕ) (bytes : List ℕ) (o o' : OwnerView) (w : Wrote p from bytes o o') where
  used_kept : (q : ℕ) → seat_uses o' q ≡ seat_uses o q
  used_kept q = elim (cases_eq q p) [
    | inl e ↦ ap (seat_uses o') e ∙ w.there ∙ sym (ap (seat_uses o) e)
    | inr ne ↦ ap is_some (w.others q ne)
  ]

  len_kept : (q : ℕ) → seat_len (object_at o' q) ≡ seat_len (object_at o q)
  len_kept q = elim (cases_eq q p) [
    | inl e ↦ ap (λ x. seat_len (object_at o' x)) e ∙ w.len ∙ sym (ap (λ x. seat_len (object_at o x)) e)
    | inr ne ↦ ap seat_len (w.others q ne)
  ]

  ds_kept : (q : ℕ) → seat_ds (object_at o' q) ≡ seat_ds (object_at o q)
  ds_kept q = elim (cases_eq q p) [
    | inl e ↦ ap (λ x. seat_ds (object_at o' x)) e ∙ w.ds ∙ sym (ap (λ x. seat_ds (object_at o x)) e)
    | inr ne ↦ ap seat_ds (w.others q ne)
  ]

  held_kept : (q : ℕ) → is_some (held_at o' q) ≡ is_some (held_at o q)
  held_kept q = ap (λ (x : OwnerView). is_some (held_at x q)) w.rest

  pub wrote_structures : (number : ℕ) (rows : Rows) → StructuresOk o number rows → StructuresOk o' number rows
  wrote_structures number rows ok = structures_kept number rows rows o o' ok (λ q. refl) (λ q used. (sym (used_kept q) ∙ used, ds_kept q))

  pub wrote_ok : (t t' : TableId) (name : TableId) (number : ℕ) (rows : Rows) → t' ≡ t → OwnOk (record { table = t; view = o }) name number rows → OwnOk (record { table = t'; view = o' }) name number rows
  wrote_ok t t' name number rows same ok = record {
    table = same ∙ ok.table;
    number_is = ap (λ (x : OwnerView). x.number) w.rest ∙ ok.number_is;
    few = ok.few;
    rows_ok = ok.rows_ok;
    lens_are = λ q own. ok.lens_are q own ∙ sym (len_kept q);
    used_are = λ q own. used_kept q ∙ ok.used_are q own ∙ sym (ap (λ n. nat_lt 0 n) (len_kept q));
    short = λ q own. omega (arith, len_kept q, ok.short q own);
    views_are = λ q own. held_kept q ∙ ok.views_are q own;
    held_used = λ q own held. used_kept q ∙ ok.held_used q own (sym (held_kept q) ∙ held);
    held_open = λ q own held. ap (λ (x : OwnerView). is_some x.open_at) w.rest ∙ ok.held_open q own (sym (held_kept q) ∙ held);
    soils_are = λ q own e. ap (λ (x : OwnerView). soiled_at x q) w.rest ∙ ok.soils_are q own e;
    other_lens = ok.other_lens;
    other_views = ok.other_views;
  }
