-- What a mutator knows by itself after it uses one object more, or one less.
use Rattle.std.proofs.Common.{◌≡◌, ℕ, ◌/◌, ◌^◌, ◌<◌, ◌≤◌, Bool, true, false, nat_lt, Option, Some, None, is_some, List, refl, sym, ap, subst, ◌∙◌, inl, inr, arith}
use Rattle.std.specs.Prelude.{replicate}
use Rattle.std.proofs.lemmas.Bool.{cases_eq, lt-ltb, le-ltb, false≢true}
use Rattle.atomic_table.specs.Seated.{TableId}
use Rattle.far_word.specs.declared.mark.Mark.TheVariants.{Dropped}
use Rattle.far_word.specs.declared.pointer.PtrWord.{PtrWord}
use Rattle.far_word.specs.declared.pointer.PtrWord.TheVariants.{Free, Near, Far}
use Rattle.far_word.specs.declared.sizes.TheConstants.{CELLS, LONGEST}
use Rattle.far_word.specs.Pointer.{read_of}
use Rattle.far_word.proofs.ByteLaws.{bytes_of-zeros}
use Rattle.far_word.proofs.PointerLaws.{read_says}
use Rattle.far_events.specs.declared.event.Event.TheVariants.{Adopt}
use Rattle.far_events.specs.declared.event.Reply.TheVariants.{Word}
use Rattle.far_events.specs.state.Law.{in_use}
use Rattle.far_events.specs.state.State.{State}
use Rattle.far_events.proofs.Put.{put_other, put_same}
use Rattle.far_table.specs.View.{OwnerView}
use Rattle.far_table.specs.Seats.{Seated}
use Rattle.far_table.specs.StateOf.{state_of}
use Rattle.far_table.specs.Tells.{OwnerMade}
use Rattle.far_table.specs.Views.{adopted_view, asked_view, ds_of as seat_ds, fresh, held_at, len_of as seat_len, object_at, said_ds, said_len}
use Rattle.far_heap.specs.declared.rows.Row.{Row}
use Rattle.far_heap.specs.declared.rows.Rows.{Rows}
use Rattle.far_heap.specs.Rows.{HasRow, row_of}
use Rattle.far_heap.specs.Mine.{Object, OwnOk, StructuresOk, adopting, dropping, mine_of, seen, zeros_known}
use Rattle.far_heap.proofs.OwnRows.{own_row-one}
use Rattle.far_heap.proofs.OwnSteps.{row_is, row_kept, row_ok, scope_kept, soils_kept, views_kept}

-- ---- the word of an object that was adopted
word_found : (w x : ℕ) → Word w ≡ Word x → w ≡ x
word_found w x says = cc

pub adopted_used : (o o' : OwnerView) (p w : ℕ) → OwnerMade (Adopt o.number p) o (Word w) o' → in_use (read_of w) ≡ true
adopted_used o o' p w made =
    let s : State = state_of made.words made.book made.others in
    ap (λ n. in_use (read_of n)) (word_found w (s.cell p) made.says) ∙ made.legal.3

pub adopted_fits : (o o' : OwnerView) (p w : ℕ) → OwnerMade (Adopt o.number p) o (Word w) o' → w < 2 ^ 64
adopted_fits o o' p w made =
    let s : State = state_of made.words made.book made.others in
    let low = (made.facts.law.cells.cell_read p).0 in
    let is = word_found w (s.cell p) made.says in
    subst (λ n. n < 2 ^ 64) (sym is) low

used_len_of : (w : ℕ) → w < 2 ^ 64 → (x : Option PtrWord) → read_of w ≡ x → in_use x ≡ true → (n : ℕ) → n ≡ said_len x → (n ≡ said_len x) × (0 < n) × (n ≤ LONGEST)
used_len_of w fits None e used n long = absurd (false≢true used)
used_len_of w fits (Some Free) e used n long = absurd (false≢true used)
used_len_of w fits (Some (Near len ds place m)) e used n long = let s = (read_says w (Near len ds place m) fits e).0 in (long, omega (arith, long, s.0), omega (arith, long, s.1))
used_len_of w fits (Some (Far len ds m)) e used n long = let s = (read_says w (Far len ds m) fits e).0 in (long, omega (arith, long, s.0), omega (arith, long, s.1))

pub adopted_len : (w n : ℕ) → w < 2 ^ 64 → in_use (read_of w) ≡ true → n ≡ said_len (read_of w) → (n ≡ said_len (read_of w)) × (0 < n) × (n ≤ LONGEST)
adopted_len w n fits used is = used_len_of w fits (read_of w) refl used n is

fresh_seen : (h : Bool) (w n t : ℕ) → n ≡ said_len (read_of w) → t ≡ said_ds (read_of w) → seen h (Some (fresh w)) ≡ Some record { len = n; ds = t; bytes = zeros_known h n }
fresh_seen true w n t e d = λ i. Some record { len = sym e i; ds = sym d i; bytes = Some ((bytes_of-zeros (λ _. 0) (said_len (read_of w)) (λ k lt. refl) ∙ ap (λ m. replicate m 0) (sym e)) i) }
fresh_seen false w n t e d = λ i. Some record { len = sym e i; ds = sym d i; bytes = None }

-- ---- data structures
module _ (o : OwnerView) (number : ℕ) (rows rows' : Rows) (ok : StructuresOk o number rows) (p : ℕ) where
  pub adopted_structures : (w n t : ℕ) → t ≡ said_ds (read_of w) → HasRow rows rows' p (record (row_of rows p) { len = n; structure = t }) → StructuresOk (adopted_view p w o) number rows'
  adopted_structures w n t kind h = record {
    are = λ q mine used. elim (cases_eq q p) [
      | inl e ↦ row_is rows rows' p (record (row_of rows p) { len = n; structure = t }) h (λ x. x.structure) q e ∙ kind ∙ sym (ap seat_ds (put_same (object_at o) p (Some (fresh w)) q e))
      | inr ne ↦ ap (λ (x : Row). x.structure) (h.there q ne)
          ∙ ok.are q mine (sym (ap is_some (put_other (object_at o) p (Some (fresh w)) q ne)) ∙ used) ∙ sym (ap seat_ds (put_other (object_at o) p (Some (fresh w)) q ne))
    ];
  }

  pub dropped_structures : (found : ℕ) → HasRow rows rows' p (record (row_of rows p) { len = 0 }) → StructuresOk (asked_view p Dropped found o) number rows'
  dropped_structures found h = record {
    are = λ q mine used. elim (cases_eq q p) [
      | inl e ↦ absurd (false≢true (sym (ap is_some (put_same (object_at o) p None q e)) ∙ used))
      | inr ne ↦ ap (λ (x : Row). x.structure) (h.there q ne)
          ∙ ok.are q mine (sym (ap is_some (put_other (object_at o) p None q ne)) ∙ used) ∙ sym (ap seat_ds (put_other (object_at o) p None q ne))
    ];
  }

module _ (s : Seated) (name : TableId) (number : ℕ) (rows : Rows) (ok : OwnOk s name number rows) (p : ℕ) (own : p / CELLS ≡ number) where
  -- ---- one object more
  pub adopted_ok : (w n t : ℕ) (rows' : Rows) → (n ≡ said_len (read_of w)) × (0 < n) × (n ≤ LONGEST) → HasRow rows rows' p (record (row_of rows p) { len = n; structure = t }) →
      OwnOk (record { table = s.table; view = adopted_view p w s.view }) name number rows'
  adopted_ok w n t rows' is h = let long = is.0 in let some = is.1 in let most = is.2 in let r : Row = record (row_of rows p) { len = n; structure = t } in record {
    table = ok.table;
    number_is = ok.number_is;
    few = ok.few;
    rows_ok = row_ok rows rows' p r h ok.rows_ok (ok.rows_ok.viewed p);
    lens_are = λ q mine. elim (cases_eq q p) [
      | inl e ↦ row_is rows rows' p r h (λ x. x.len) q e ∙ long ∙ sym (ap seat_len (put_same (object_at s.view) p (Some (fresh w)) q e))
      | inr ne ↦ ap (λ (x : Row). x.len) (h.there q ne) ∙ ok.lens_are q mine ∙ sym (ap seat_len (put_other (object_at s.view) p (Some (fresh w)) q ne))
    ];
    used_are = λ q mine. elim (cases_eq q p) [
      | inl e ↦ ap is_some (put_same (object_at s.view) p (Some (fresh w)) q e) ∙ sym (ap (λ x. nat_lt 0 (seat_len x)) (put_same (object_at s.view) p (Some (fresh w)) q e) ∙ lt-ltb 0 (said_len (read_of w)) (omega arith))
      | inr ne ↦ ap is_some (put_other (object_at s.view) p (Some (fresh w)) q ne) ∙ ok.used_are q mine ∙ sym (ap (λ x. nat_lt 0 (seat_len x)) (put_other (object_at s.view) p (Some (fresh w)) q ne))
    ];
    short = λ q mine. elim (cases_eq q p) [
      | inl e ↦ omega (arith, ap seat_len (put_same (object_at s.view) p (Some (fresh w)) q e))
      | inr ne ↦ omega (arith, ap seat_len (put_other (object_at s.view) p (Some (fresh w)) q ne), ok.short q mine)
    ];
    views_are = λ q mine. ok.views_are q mine ∙ views_kept rows rows' p r h refl q;
    held_used = λ q mine held. elim (cases_eq q p) [
      | inl e ↦ ap is_some (put_same (object_at s.view) p (Some (fresh w)) q e)
      | inr ne ↦ ap is_some (put_other (object_at s.view) p (Some (fresh w)) q ne) ∙ ok.held_used q mine held
    ];
    held_open = ok.held_open;
    soils_are = λ q mine e. ok.soils_are q mine (sym (soils_kept rows rows' p r h q) ∙ e ∙ scope_kept rows rows' p r h);
    other_lens = λ q ne. ap (λ (x : Row). x.len) (h.there q (λ e. ne (ap (λ z. z / CELLS) e ∙ own))) ∙ ok.other_lens q ne;
    other_views = λ q ne. row_kept rows rows' p r h (λ x. x.viewed) refl q ∙ ok.other_views q ne;
  }

  pub adopted_mine : (w n t : ℕ) → n ≡ said_len (read_of w) → t ≡ said_ds (read_of w) → mine_of record { table = s.table; view = adopted_view p w s.view } ≡ adopting p n t (mine_of s)
  adopted_mine w n t long kind =
      let f : ℕ → Option Object = λ q. seen s.view.honest (object_at s.view q) in
      let g : ℕ → Option Object = λ q. seen s.view.honest (object_at (adopted_view p w s.view) q) in
      ap (λ (rows : List (Option Object)). record (mine_of s) { objects = rows }) (own_row-one f g s.view.number p (Some record { len = n; ds = t; bytes = zeros_known s.view.honest n }) (own ∙ sym ok.number_is)
      (λ q ne. ap (seen s.view.honest) (put_other (object_at s.view) p (Some (fresh w)) q ne))
      (ap (seen s.view.honest) (put_same (object_at s.view) p (Some (fresh w)) p refl) ∙ fresh_seen s.view.honest w n t long kind))

  -- ---- one object less
  pub dropped_ok : (found : ℕ) (rows' : Rows) → is_some (held_at s.view p) ≡ false → HasRow rows rows' p (record (row_of rows p) { len = 0 }) →
      OwnOk (record { table = s.table; view = asked_view p Dropped found s.view }) name number rows'
  dropped_ok found rows' free h = let r : Row = record (row_of rows p) { len = 0 } in record {
    table = ok.table;
    number_is = ok.number_is;
    few = ok.few;
    rows_ok = row_ok rows rows' p r h ok.rows_ok (ok.rows_ok.viewed p);
    lens_are = λ q mine. elim (cases_eq q p) [
      | inl e ↦ row_is rows rows' p r h (λ x. x.len) q e ∙ sym (ap seat_len (put_same (object_at s.view) p None q e))
      | inr ne ↦ ap (λ (x : Row). x.len) (h.there q ne) ∙ ok.lens_are q mine ∙ sym (ap seat_len (put_other (object_at s.view) p None q ne))
    ];
    used_are = λ q mine. elim (cases_eq q p) [
      | inl e ↦ ap is_some (put_same (object_at s.view) p None q e) ∙ sym (ap (λ x. nat_lt 0 (seat_len x)) (put_same (object_at s.view) p None q e) ∙ le-ltb 0 0 (omega arith))
      | inr ne ↦ ap is_some (put_other (object_at s.view) p None q ne) ∙ ok.used_are q mine ∙ sym (ap (λ x. nat_lt 0 (seat_len x)) (put_other (object_at s.view) p None q ne))
    ];
    short = λ q mine. elim (cases_eq q p) [
      | inl e ↦ omega (arith, ap seat_len (put_same (object_at s.view) p None q e))
      | inr ne ↦ omega (arith, ap seat_len (put_other (object_at s.view) p None q ne), ok.short q mine)
    ];
    views_are = λ q mine. ok.views_are q mine ∙ views_kept rows rows' p r h refl q;
    held_used = λ q mine held. elim (cases_eq q p) [
      | inl e ↦ absurd (false≢true (sym (ap (λ z. is_some (held_at s.view z)) e ∙ free) ∙ held))
      | inr ne ↦ ap is_some (put_other (object_at s.view) p None q ne) ∙ ok.held_used q mine held
    ];
    held_open = ok.held_open;
    soils_are = λ q mine e. ok.soils_are q mine (sym (soils_kept rows rows' p r h q) ∙ e ∙ scope_kept rows rows' p r h);
    other_lens = λ q ne. ap (λ (x : Row). x.len) (h.there q (λ e. ne (ap (λ z. z / CELLS) e ∙ own))) ∙ ok.other_lens q ne;
    other_views = λ q ne. row_kept rows rows' p r h (λ x. x.viewed) refl q ∙ ok.other_views q ne;
  }

  pub dropped_mine : (found : ℕ) → mine_of record { table = s.table; view = asked_view p Dropped found s.view } ≡ dropping p (mine_of s)
  dropped_mine found =
      let f : ℕ → Option Object = λ q. seen s.view.honest (object_at s.view q) in
      let g : ℕ → Option Object = λ q. seen s.view.honest (object_at (asked_view p Dropped found s.view) q) in
      ap (λ (rows : List (Option Object)). record (mine_of s) { objects = rows }) (own_row-one f g s.view.number p None (own ∙ sym ok.number_is)
      (λ q ne. ap (seen s.view.honest) (put_other (object_at s.view) p None q ne)) (ap (seen s.view.honest) (put_same (object_at s.view) p None p refl)))
