-- What is known of an object whose place an owner holds, or may hold.
use Rattle.std.proofs.Common.{◌≡◌, ◌+◌, ◌*◌, ◌/◌, ◌<◌, ◌≤◌, ℕ, Bool, true, false, cond, length, sym, refl, ap, ◌∙◌, arith, List, Option, Some, None}
use Rattle.std.specs.Prelude.{is_some, ◌||◌}
use Rattle.std.proofs.lemmas.Bool.{false≢true}
use mathlib.Core.Option.{some}
use lib.ListN.{get_elem?}
use Rattle.far_word.specs.declared.mark.Marks.{Marks}
use Rattle.far_word.specs.declared.pointer.Place.{Place}
use Rattle.far_word.specs.declared.pointer.PtrWord.{PtrWord}
use Rattle.far_word.specs.declared.pointer.PtrWord.TheVariants.{Free, Near, Far}
use Rattle.far_word.specs.declared.sizes.TheConstants.{CELLS, LOG_WORDS, MOST_LOGS}
use Rattle.far_word.specs.Pointer.{read_of}
use Rattle.far_word.specs.Sizes.{words_for}
use Rattle.far_word.proofs.PointerLaws.{read_says}
use Rattle.far_events.specs.events.Pin.{place_to_view}
use Rattle.far_events.specs.state.Law.{held_place}
use Rattle.far_events.specs.state.State.{State, addr}
use Rattle.far_core.specs.world.World.{Object}
use Rattle.far_events.proofs.Bounds.{near_inside}
use Rattle.far_events.proofs.Cells.{held_near}
use Rattle.far_core.proofs.ObjectFacts.{object_agrees}
use Rattle.far_hand.proofs.Masking.{lies, one_owner}
use Rattle.far_table.specs.View.{BookView, ObjectView, OwnerView, OtherViews}
use Rattle.far_table.specs.Rule.{Facts, Has}
use Rattle.far_table.specs.StateOf.{state_of}
use Rattle.far_table.specs.Views.{held_at, len_of, object_at, uses}
use Rattle.far_table.proofs.Owners.{known_by}

no_evac : (e v d : Bool) (place at : Place) → cond (e || v || d) None (Some place) ≡ Some at → cond (v || d) None (Some place) ≡ Some at
no_evac true v d place at h = let odd : None ≡ Some at = h in cc
no_evac false v d place at h = h

-- where a view may come to rest, it may stay
pub may_hold : (x : Option PtrWord) (place : Place) → place_to_view x ≡ Some place → held_place x ≡ Some place
may_hold None place e = cc
may_hold (Some Free) place e = cc
may_hold (Some (Near len ds at m)) place e = no_evac m.evac m.moved m.dropped at place e
may_hold (Some (Far len ds m)) place e = cc

pub some_there : {X : Type 0} (x : Option X) → is_some x ≡ true → (y : X) × (x ≡ Some y)
some_there None h = absurd (false≢true h)
some_there (Some y) h = (y, refl)

-- its cell, its length, and that it lies within the logs, and within those of the heap
pub record HeldFacts (s : State) (o : OwnerView) (p : ℕ) (place : Place) : Type 0 where
  pub len : ℕ
  pub ds : ℕ
  pub marks : Marks
  pub near : read_of (s.cell p) ≡ Some (Near len ds place marks)
  pub kept : marks.dropped ≡ false
  pub view : ObjectView
  pub used : object_at o p ≡ Some view
  pub has : Has s p view
  pub long : view.len ≡ len
  pub kind : view.ds ≡ ds
  pub fits : addr place + 1 + words_for len ≤ MOST_LOGS * LOG_WORDS
  pub within : addr place + 1 + words_for len ≤ s.logs * LOG_WORDS

module _ (ws : List ℕ) (b : BookView) (os : OtherViews) (f : Facts ws b os) (o : OwnerView) (at : get_elem? os.owners o.number ≡ some o) where
  abbrev s : State
  s = state_of ws b os

  pub near_facts : (p : ℕ) (place : Place) → p / CELLS ≡ o.number → uses o p ≡ true → held_place (read_of (s.cell p)) ≡ Some place → HeldFacts s o p place
  near_facts p place own used held =
      let x = held_near (read_of (s.cell p)) place held in
      let y = some_there (object_at o p) used in
      let has = (f.owners o.number o at).objects p y.0 own y.1 in
      let a = (object_agrees s p).near x.len x.ds place x.marks x.near x.kept in
      let same : Some has.object ≡ Some a.0 = sym has.there ∙ a.1 in
      let one : has.object ≡ a.0 = cc in
      let says = read_says (s.cell p) (Near x.len x.ds place x.marks) (f.law.cells.cell_read p).0 x.near in
      let inside = (near_inside s f.law p x.len x.ds place x.marks x.near).1 in record {
        len = x.len;
        ds = x.ds;
        marks = x.marks;
        near = x.near;
        kept = x.kept;
        view = y.0;
        used = y.1;
        has = has;
        long = sym has.len ∙ (ap (λ (z : Object). length z.bytes) one ∙ a.4);
        kind = sym has.ds ∙ (ap (λ (z : Object). z.ds) one ∙ a.3);
        fits = omega (arith, says.0);
        within = omega (arith, inside);
      }

  pub held_so : (p : ℕ) → p / CELLS ≡ o.number → s.held p ≡ held_at o p
  held_so p own = known_by os.owners o.number o o at held_at p own

  pub held_facts : (p : ℕ) (place : Place) → p / CELLS ≡ o.number → held_at o p ≡ Some place → HeldFacts s o p place
  held_facts p place own held =
      let rests : s.held p ≡ Some place = held_so p own ∙ held in
      near_facts p place own (sym (known_by os.owners o.number o o at uses p own) ∙ f.law.views.held_used p (ap is_some rests)) (f.law.views.held_names p place rests)

  -- a word is of one object that is held
  pub one_word : (p i : ℕ) (place : Place) (q j : ℕ) (other : Place) → HeldFacts s o p place → HeldFacts s o q other →
      i < words_for (len_of (object_at o p)) → j < words_for (len_of (object_at o q)) → addr place + 1 + i ≡ addr other + 1 + j → (p ≡ q) × (i ≡ j)
  one_word p i place q j other x y li lj e =
      let lx : words_for (len_of (object_at o p)) ≡ words_for x.len = ap (λ z. words_for (len_of z)) x.used ∙ ap words_for x.long in
      let ly : words_for (len_of (object_at o q)) ≡ words_for y.len = ap (λ z. words_for (len_of z)) y.used ∙ ap words_for y.long in
      let same : p ≡ q = one_owner s f.law p x.len x.ds i q y.len y.ds j place other (lies s f.law p x.len x.ds place x.marks x.near) (lies s f.law q y.len y.ds other y.marks y.near)
      (omega (arith, lx, li)) (omega (arith, ly, lj)) e in
      let cell : Some (Near x.len x.ds place x.marks) ≡ Some (Near y.len y.ds other y.marks) = sym x.near ∙ (ap (λ z. read_of (s.cell z)) same ∙ y.near) in
      let here : place ≡ other = cc in
      let there : addr place ≡ addr other = ap addr here in
      (same, omega arith)
