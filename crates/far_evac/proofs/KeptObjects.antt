-- What steps of a round leave of what owners have.
use Rattle.std.proofs.Common.{◌≡◌, ◌≢◌, ℕ, ◌*◌, ◌^◌, ◌<◌, true, false, cond, Option, Some, None, inl, inr, ap, sym, refl, ◌∙◌, subst}
use Rattle.std.specs.Prelude.{◌↔◌}
use Rattle.std.proofs.lemmas.Bool.{cases_eq, false≢true}
use Rattle.far_word.specs.declared.mark.Marks.{Marks}
use Rattle.far_word.specs.declared.pointer.Place.{Place}
use Rattle.far_word.specs.declared.pointer.PtrWord.{PtrWord}
use Rattle.far_word.specs.declared.pointer.PtrWord.TheVariants.{Free, Near, Far}
use Rattle.far_word.specs.declared.sizes.TheConstants.{CELLS}
use Rattle.far_word.specs.Pointer.{read_of}
use Rattle.far_word.specs.Sizes.{size_of}
use Rattle.far_word.proofs.PointerLaws.{read_says}
use Rattle.far_events.specs.events.Naming.{is_dropped, no_marks, unmarked}
use Rattle.far_events.specs.state.Law.{Law, is_dirty}
use Rattle.far_core.specs.state.Room.{room}
use Rattle.far_events.specs.state.State.{State, put}
use Rattle.far_core.specs.world.Steps.{with_home}
use Rattle.far_core.specs.world.World.{FarSide, Group, Home, Object, World}
use Rattle.far_core.specs.world.WorldOf.{object_of, world_of}
use Rattle.far_events.proofs.Cells.{unused}
use Rattle.far_events.proofs.Put.{put_both}
use Rattle.far_hand.specs.Beside.{with_others}
use Rattle.far_hand.specs.Quiet.{is_quiet}
use Rattle.far_book.specs.book.Effects.{evicted, moved, with_free_cell}
use Rattle.far_book.specs.book.Releasing.{released}
use Rattle.far_book.proofs.region.EvictingLaw.{evicting}
use Rattle.far_book.proofs.region.MovesReached.{moving}
use Rattle.far_evac.specs.Laws.{but_evac}
use Rattle.far_evac.specs.Owned.{KeepsObjects, anywhere}
use Rattle.far_evac.proofs.Leading.{not_zero}
use Rattle.far_evac.proofs.Framed.{framed, so_one}
use Rattle.far_evac.specs.Walk.{Goes, Moves}

-- ---- a step that leaves what owners change
abbrev whole : State → State → State
whole s t = record (with_others t s) { mutators = s.mutators; logs = s.logs; honest = s.honest }

objects_kept : (s t u : State) → t ≡ whole s u → ((p : ℕ) → anywhere ((world_of t).object p) ≡ anywhere ((world_of s).object p)) →
    ((p : ℕ) → is_dropped (read_of (s.cell p)) ≡ false → (is_dropped (read_of (t.cell p)) ≡ false) × ((t.cell p ≡ 0) ↔ (s.cell p ≡ 0))) → KeepsObjects s t
objects_kept s t u rest object cells = record {
  mutators = ap (λ (v : State). v.mutators) rest;
  logs = ap (λ (v : State). v.logs) rest;
  honest = ap (λ (v : State). v.honest) rest;
  scope = ap (λ (v : State). v.scope) rest;
  remembered = ap (λ (v : State). v.remembered) rest;
  used = ap (λ (v : State). v.used) rest;
  held = ap (λ (v : State). v.held) rest;
  object = object;
  alive = λ p h. (cells p h).0;
  free = λ p h. (cells p h).1;
}

-- and the objects
objects_same : (s t u : State) → t ≡ record (whole s u) { cell = s.cell; word = s.word; stored = s.stored } → KeepsObjects s t
unfolding world_of
objects_same s t u rest = subst (KeepsObjects s) (sym rest) (objects_kept s (record (whole s u) { cell = s.cell; word = s.word; stored = s.stored }) (record u { cell = s.cell; word = s.word; stored = s.stored }) refl (λ p. refl) (λ p h. (h, (λ e. e, λ e. e))))

pub objects_none : (s : State) → KeepsObjects s s
objects_none s = objects_same s s s refl

-- ---- steps after each other
pub objects_more : (s t u : State) → KeepsObjects s t → KeepsObjects t u → KeepsObjects s u
objects_more s t u a b = record {
  mutators = b.mutators ∙ a.mutators;
  logs = b.logs ∙ a.logs;
  honest = b.honest ∙ a.honest;
  scope = b.scope ∙ a.scope;
  remembered = b.remembered ∙ a.remembered;
  used = b.used ∙ a.used;
  held = b.held ∙ a.held;
  object = λ p. b.object p ∙ a.object p;
  alive = λ p h. b.alive p (a.alive p h);
  free = λ p h. let first = a.free p h in let then = b.free p (a.alive p h) in (λ e. first.0 (then.0 e), λ e. then.1 (first.1 e));
}

-- ---- a log is given back
pub released_objects : (s : State) (l : ℕ) → KeepsObjects s (released s l)
released_objects s l = objects_same s (released s l) (released s l) refl

-- ---- a dropped object is retired: it was none already
no_object : (word stored : ℕ → ℕ) (p : ℕ) (o : Option PtrWord) → is_dropped o ≡ true → object_of word stored p o ≡ None
no_object word stored p (Some (Near len ds place m)) h = ap (λ b. cond b None (object_of word stored p (Some (Near len ds place no_marks)))) h
no_object word stored p (Some (Far len ds m)) h = ap (λ b. cond b None (object_of word stored p (Some (Far len ds no_marks)))) h
no_object word stored p _ h = refl

pub freed_objects : (s : State) (p : ℕ) → is_dropped (read_of (s.cell p)) ≡ true → KeepsObjects s (with_free_cell s p)
unfolding world_of
freed_objects s p dropped = objects_kept s (with_free_cell s p) (with_free_cell s p) refl
    (λ q. put_both (λ w. anywhere (object_of s.word (s.stored q) q (read_of w)) ≡ anywhere (object_of s.word (s.stored q) q (read_of (s.cell q)))) s.cell p 0 q
    (λ e. ap (λ o. anywhere (object_of s.word (s.stored q) q o)) unused ∙ sym (ap anywhere (no_object s.word (s.stored q) q (read_of (s.cell q)) (ap (λ x. is_dropped (read_of (s.cell x))) e ∙ dropped)))) (λ _. refl))
    (λ q h. put_both (λ w. (is_dropped (read_of w) ≡ false) × ((w ≡ 0) ↔ (s.cell q ≡ 0))) s.cell p 0 q
    (λ e. absurd (false≢true (sym h ∙ ap (λ x. is_dropped (read_of (s.cell x))) e ∙ dropped))) (λ _. (h, (λ e. e, λ e. e))))

-- ---- one object goes elsewhere
module _ (s t : State) (p : ℕ) (near : (q : ℕ) → q ≢ p → t.cell q ≡ s.cell q) (alive : is_dropped (read_of (t.cell p)) ≡ false) (was : s.cell p ≢ 0) (is : t.cell p ≢ 0) (o : Object) (home : Home)
    (found : (world_of s).object p ≡ Some o) (gone : (world_of t).object ≡ put (world_of s).object p (Some (with_home o home))) where
  object_gone : (q : ℕ) → anywhere ((world_of t).object q) ≡ anywhere ((world_of s).object q)
  object_gone q = ap (λ f. anywhere (f q)) gone
      ∙ put_both (λ x. anywhere x ≡ anywhere ((world_of s).object q)) (world_of s).object p (Some (with_home o home)) q (λ e. sym (ap anywhere (ap (world_of s).object e ∙ found))) (λ _. refl)

  cell_by : (q : ℕ) (P : ℕ → Type 0) → (q ≡ p → P (t.cell p)) → (q ≢ p → P (s.cell q)) → P (t.cell q)
  cell_by q P here there = elim (cases_eq q p) [
    | inl e ↦ subst (λ x. P (t.cell x)) (sym e) (here e)
    | inr ne ↦ subst P (sym (near q ne)) (there ne)
  ]

  alive_gone : (q : ℕ) → is_dropped (read_of (s.cell q)) ≡ false → is_dropped (read_of (t.cell q)) ≡ false
  alive_gone q h = cell_by q (λ w. is_dropped (read_of w) ≡ false) (λ _. alive) (λ _. h)

  free_gone : (q : ℕ) → (t.cell q ≡ 0) ↔ (s.cell q ≡ 0)
  free_gone q = cell_by q (λ w. (w ≡ 0) ↔ (s.cell q ≡ 0)) (λ e. (λ z. absurd (is z), λ z. absurd (was (ap s.cell (sym e) ∙ z)))) (λ _. (λ z. z, λ z. z))

  pub object_elsewhere : t ≡ framed s t → KeepsObjects s t
  object_elsewhere rest = objects_kept s t (framed s t) rest object_gone (λ q h. (alive_gone q h, free_gone q))

pub moved_objects : (s : State) (p len ds : ℕ) (from to : Place) (m : Marks) → Law s → read_of (s.cell p) ≡ Some (Near len ds from m) → is_quiet s.round s.clear p from m ≡ true →
    m.dropped ≡ false → m.evac ≡ true → room s (size_of len) false ≡ Some to → KeepsObjects s (moved s p to)
moved_objects s p len ds from to m law near quiet alive wanted found =
    let way = moving s p len ds from to m law near quiet alive wanted found in
    let t = moved s p to in
    let gone = way.2.moved in
    object_elsewhere s t p way.3.cells (ap is_dropped way.3.cell) (not_zero (s.cell p) len ds from m near) (not_zero (t.cell p) len ds to (unmarked (is_dirty (read_of (s.cell p)))) way.3.cell) gone.0 (Group to.log) gone.2
    (ap (λ (w : World). w.object) gone.4) (so_one s p (Moves to)).frame

far_not_zero : (w len ds : ℕ) (m : Marks) → read_of w ≡ Some (Far len ds m) → w ≢ 0
far_not_zero w len ds m far e = let odd : Some Free ≡ Some (Far len ds m) = sym unused ∙ ap read_of (sym e) ∙ far in absurd cc

pub evicted_objects : (s : State) (p len ds : ℕ) (place : Place) (m : Marks) → Law s → p < CELLS * s.mutators → read_of (s.cell p) ≡ Some (Near len ds place m) → is_quiet s.round s.clear p place m ≡ true →
    m.evac ≡ true → m.dropped ≡ false → KeepsObjects s (evicted s p)
evicted_objects s p len ds place m law pointer near quiet wanted alive =
    let way = evicting s p len ds place m law pointer near quiet wanted alive in
    let t = evicted s p in
    let gone = way.2.gone in
    object_elsewhere s t p way.3.cells (ap is_dropped way.3.cell) (not_zero (s.cell p) len ds place m near) (far_not_zero (t.cell p) len ds no_marks way.3.cell) gone.0 FarSide gone.2
    (ap (λ (w : World). w.object) gone.4) (so_one s p Goes).frame

-- ---- EVAC is set or taken
pub same_object : (word stored : ℕ → ℕ) (p : ℕ) (o : Option PtrWord) → object_of word stored p o ≡ object_of word stored p (but_evac o)
same_object word stored p (Some Free) = refl
same_object word stored p _ = refl

same_drop : (o : Option PtrWord) → is_dropped o ≡ is_dropped (but_evac o)
same_drop (Some Free) = refl
same_drop _ = refl

-- a free cell is 0
free_of : (o : Option PtrWord) → but_evac o ≡ Some Free → o ≡ Some Free
free_of (Some Free) e = refl
free_of _ e = absurd cc

zero_too : (v w : ℕ) → w < 2 ^ 64 → but_evac (read_of w) ≡ but_evac (read_of v) → v ≡ 0 → w ≡ 0
zero_too v w fits same e =
    let bare : but_evac (read_of v) ≡ Some Free = ap (λ x. but_evac (read_of x)) e ∙ ap but_evac unused in
    sym (read_says w Free fits (free_of (read_of w) (same ∙ bare))).1

-- from s to t cells have changed EVAC alone, and else the round alone has changed
pub evac_objects : (s t : State) → t ≡ record s { cell = t.cell; epoch = t.epoch; round = t.round; round_epoch = t.round_epoch; clear = t.clear } →
    ((p : ℕ) → s.cell p < 2 ^ 64) → ((p : ℕ) → t.cell p < 2 ^ 64) → ((p : ℕ) → but_evac (read_of (t.cell p)) ≡ but_evac (read_of (s.cell p))) → KeepsObjects s t
unfolding world_of
evac_objects s t rest fits then same = objects_kept s t (record s { cell = t.cell; epoch = t.epoch; round = t.round; round_epoch = t.round_epoch; clear = t.clear }) rest
    (λ p. ap anywhere (ap (λ (u : State). object_of u.word (u.stored p) p (read_of (t.cell p))) rest
    ∙ same_object s.word (s.stored p) p (read_of (t.cell p)) ∙ ap (object_of s.word (s.stored p) p) (same p) ∙ sym (same_object s.word (s.stored p) p (read_of (s.cell p)))))
    (λ p h. (same_drop (read_of (t.cell p)) ∙ ap is_dropped (same p) ∙ sym (same_drop (read_of (s.cell p))) ∙ h, (zero_too (t.cell p) (s.cell p) (fits p) (sym (same p)), zero_too (s.cell p) (t.cell p) (then p) (same p))))

-- the round alone has changed
pub round_objects : (s t : State) → t ≡ record s { epoch = t.epoch; round = t.round; round_epoch = t.round_epoch; clear = t.clear } → KeepsObjects s t
round_objects s t rest = objects_same s t (record s { epoch = t.epoch; round = t.round; round_epoch = t.round_epoch; clear = t.clear }) rest
