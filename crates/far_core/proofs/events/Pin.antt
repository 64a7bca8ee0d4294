-- What the event Pin owes.
use Rattle.std.proofs.Common.{inl, Bool, None, Option, Some, ap, arith, bit_or, cond, false, refl, subst, sym, true, ℕ, ◌+◌, ◌/◌, ◌^◌, ◌∙◌, ◌≡◌, ◌≢◌}
use Rattle.std.proofs.lemmas.Bool.{eq-eqb, false≢true, false_from_ne_true}
use Rattle.std.proofs.lemmas.Bool.Decides.{nat_tests}
use Rattle.std.specs.Prelude.{IsSome, is_some, ◌||◌}
use Rattle.far_events.proofs.Cells.{held_place-mark, held_place-place_to_view, read_hot, map_mark}
use Rattle.far_core.proofs.Cells.{object_of-mark}
use Rattle.far_core.proofs.Frames.{law_with_held}
use Rattle.far_events.proofs.Guards.{none_from, open_fact, open_test}
use Rattle.far_core.proofs.KeepOwner.{at_cell, hot_cell, hot_read, keeps_hot}
use Rattle.far_core.proofs.Touching.{by_owner, touched, one_cell}
use Rattle.far_events.specs.events.Touch.{CellAt, Rests, Touches}
use Rattle.far_core.proofs.Owed.{Owed, replies}
use Rattle.far_core.specs.laws.Worlds.{Caused}
use Rattle.far_events.specs.events.Step.{change_of, with_hold, pin_answer, after_pin, place_to_view}
use Rattle.far_events.proofs.Put.{put_both, put_other, put_same}
use Rattle.far_core.proofs.Worlds.{World-ext, opened_is}
use Rattle.far_core.specs.world.Happens.{Happens}
use Rattle.far_events.specs.state.Law.{Law, held_place}
use Rattle.far_events.specs.state.State.{State, addr, put}
use Rattle.far_events.specs.events.Reports.{SetsHot, Reports}
use Rattle.far_core.specs.world.World.{Group, Object, World}
use Rattle.far_core.specs.world.WorldOf.{is_marked, object_of, world_of}
use Rattle.far_core.specs.world.Steps.{Views}
use Rattle.far_events.specs.declared.event.Event.TheVariants.{Pin}
use Rattle.far_events.specs.declared.event.Reply.TheVariants.{Refused}
use Rattle.far_word.specs.Bytes.{bytes_of}
use Rattle.far_word.specs.Mark.{position}
use Rattle.far_word.specs.Pointer.{read_of}
use Rattle.far_word.specs.declared.mark.Mark.TheVariants.{Hot}
use Rattle.far_word.specs.declared.pointer.Place.{Place}
use Rattle.far_word.specs.declared.pointer.PtrWord.{PtrWord}
use Rattle.far_word.specs.declared.pointer.PtrWord.TheVariants.{Far, Free, Near}
use Rattle.far_word.specs.declared.sizes.TheConstants.{CELLS}
use mathlib.Core.Path.{fun_ext}

pub keeps_hold : (s : State) → Law s → (p : ℕ) (place : Place) → held_place (read_of (s.cell p)) ≡ Some place → s.used p ≡ true → s.scope (p / CELLS) ≢ 0 → s.round place.log ≡ false →
    Law record s { held = put s.held p (Some place) }
keeps_hold s law p place ok used opened out = law_with_held s (put s.held p (Some place)) law
    (λ q h. put_both IsSome s.held p (Some place) q (λ _. refl) (λ _. h))
    (λ q. put_both (λ (o : Option Place). IsSome o → (s.scope (q / CELLS) ≢ 0) × (s.used q ≡ true)) s.held p (Some place) q (λ e _. (rw e opened, rw e used)) (λ _ h. (law.views.held_open q h, law.views.held_used q h)))
    (λ q at. put_both (λ (o : Option Place). o ≡ Some at → held_place (read_of (s.cell q)) ≡ Some at) s.held p (Some place) q (λ e h. rw e (ok ∙ h)) (λ _. law.views.held_names q at))
    (record {
      clear_unviewed = λ q at h c. put_both (λ (o : Option Place). o ≡ Some at → s.round at.log ≡ false) s.held p (Some place) q
          (λ _ is. let same : place ≡ at = cc in ap (λ (x : Place). s.round x.log) (sym same) ∙ out) (λ _ is. law.clears.clear_unviewed q at is c) h;
      late_unviewed = λ q e at h is late. put_both (λ (o : Option Place). o ≡ Some at → s.round at.log ≡ false) s.held p (Some place) q
          (λ _ is. let same : place ≡ at = cc in ap (λ (x : Place). s.round x.log) (sym same) ∙ out) (λ _ h. law.clears.late_unviewed q e at h is late) h;
    })

-- what may be viewed has no EVAC, so it doesn't lie in the round
view_is_out : (s : State) → Law s → (p : ℕ) (o : Option PtrWord) (place : Place) → read_of (s.cell p) ≡ o → place_to_view o ≡ Some place → s.round place.log ≡ false
view_is_out s law p None place e view = absurd cc
view_is_out s law p (Some Free) place e view = absurd cc
view_is_out s law p (Some (Near len ds at m)) place e view =
    let same : at ≡ place = grind (arith, nat_tests) in
    let clean : m.evac ≡ false = grind (arith, nat_tests) in
    ap (λ (x : Place). s.round x.log) (sym same) ∙ false_from_ne_true (s.round at.log) (λ inside. false≢true (sym clean ∙ law.rounds.round_evac p len ds at m e inside))
view_is_out s law p (Some (Far len ds m)) place e view = absurd cc

at_view : (s : State) (p : ℕ) (o : Option Place) → Law s → s.used p ≡ true → s.scope (p / CELLS) ≢ 0 → place_to_view (read_of (s.cell p)) ≡ o → Law record (hot_cell s p) { held = with_hold s.held p o }
at_view s p None law used opened e = keeps_hot s law p used
at_view s p (Some place) law used opened e = keeps_hold (hot_cell s p) (keeps_hot s law p used) p place
    (ap (λ w. held_place (read_of w)) (put_same s.cell p _ p refl) ∙ ap held_place (hot_read s law p used) ∙ held_place-mark Hot _ (λ e. cc) (λ e. cc) ∙ held_place-place_to_view _ place e) used opened
    (view_is_out s law p (read_of (s.cell p)) place refl e)

pub keeps_pin : (s : State) (p : ℕ) → Law s → s.used p ≡ true → s.scope (p / CELLS) ≢ 0 → Law (after_pin s p)
keeps_pin s p law used opened = at_view s p _ law used opened refl

is_marked-hot : (o : Option PtrWord) → is_marked (map_mark Hot o) ≡ is_marked o
is_marked-hot None = refl
is_marked-hot (Some Free) = refl
is_marked-hot (Some (Near len ds place m)) = refl
is_marked-hot (Some (Far len ds m)) = refl

-- what may be viewed is near and unmarked
viewable_object : (f g : ℕ → ℕ) (p : ℕ) (o : Option PtrWord) (place : Place) → place_to_view o ≡ Some place →
    ((x : Object) × (l : ℕ) × (object_of f g p o ≡ Some x) × (x.owner ≡ p / CELLS) × (x.home ≡ Group l)) × (is_marked o ≡ false)
viewable_object f g p None place e = absurd cc
viewable_object f g p (Some Free) place e = absurd cc
viewable_object f g p (Some (Near len ds at m)) place e =
    let kept : m.dropped ≡ false = grind (arith, nat_tests) in
    let clean : (m.evac || m.moved) ≡ false = grind (arith, nat_tests) in
    let x : Object = record { owner = p / CELLS; ds = ds; bytes = bytes_of (λ i. f (addr at + 1 + i)) len; home = Group at.log } in
    ((x, at.log, ap (λ b. cond b None (Some x)) kept, refl, refl), rw (kept, clean) refl)
viewable_object f g p (Some (Far len ds m)) place e = absurd cc

pub hot_world : (s : State) (law : Law s) (p : ℕ) (used : s.used p ≡ true) → world_of (hot_cell s p) ≡ world_of s
unfolding world_of
hot_world s law p used = World-ext _ _
    (fun_ext (λ q. at_cell s law p used (λ o. object_of s.word (s.stored q) q o ≡ object_of s.word (s.stored q) q (read_of (s.cell q))) q (λ _. object_of-mark Hot s.word (s.stored q) q _ (λ e. cc)) refl))
    refl refl
    (fun_ext (λ q. at_cell s law p used (λ o. is_marked o ≡ is_marked (read_of (s.cell q))) q (λ _. is_marked-hot (read_of (s.cell q))) refl))
    refl refl

pub hold_world : (s : State) (p : ℕ) (place : Place) → world_of record s { held = put s.held p (Some place) } ≡ record (world_of s) { viewed = put (world_of s).viewed p true }
unfolding world_of
hold_world s p place = World-ext _ _ refl refl
    (fun_ext (λ q. put_both (λ (o : Option Place). is_some o ≡ put (λ r. is_some (s.held r)) p true q) s.held p (Some place) q
    (λ e. sym (put_same (λ r. is_some (s.held r)) p true q e)) (λ ne. sym (put_other (λ r. is_some (s.held r)) p true q ne))))
    refl refl refl

pub pin_views : (s : State) (law : Law s) (m p : ℕ) (place : Place) → s.used p ≡ true → s.scope m ≢ 0 → p / CELLS ≡ m → place_to_view (read_of (s.cell p)) ≡ Some place →
    Views (world_of s) m p (world_of record (hot_cell s p) { held = put s.held p (Some place) })
unfolding world_of
pin_views s law m p place used opened own e =
    let x = viewable_object s.word (s.stored p) p _ place e in
    record {
      open_owner = opened_is s m opened;
      own = own;
      near = λ _. (x.0.0, x.0.1, x.0.2, x.0.3 ∙ own, x.0.4);
      unmarked = λ _. x.1;
      after = hold_world (hot_cell s p) p place ∙ ap (λ (w : World). record w { viewed = put w.viewed p true }) (hot_world s law p used);
    }

do_pin : (s : State) (law : Law s) (m p : ℕ) (o : Option Place) → s.used p ≡ true → s.scope m ≢ 0 → p / CELLS ≡ m → place_to_view (read_of (s.cell p)) ≡ o →
    Happens (world_of s) (Pin m p) (pin_answer (s.cell p) o) (world_of record (hot_cell s p) { held = with_hold s.held p o })
do_pin s law m p None used opened own e = hot_world s law p used
do_pin s law m p (Some place) used opened own e = pin_views s law m p place used opened own e

kept_away : (b : Bool) (place : Place) → cond b None (Some place) ≡ None → b ≡ true
kept_away true place e = refl
kept_away false place e = absurd cc

got_hot : (s : State) → Law s → (p : ℕ) → s.used p ≡ true → SetsHot (s.cell p) (put s.cell p (bit_or (s.cell p) (2 ^ position Hot)) p)
got_hot s law p used v e =
    ap read_of (put_same s.cell p (bit_or (s.cell p) (2 ^ position Hot)) p refl) ∙ (read_hot (s.cell p) (law.cells.cell_read p).0 (law.views.used_cell p used)).0 ∙ ap (map_mark Hot) e

reports_pin : (s : State) → Law s → (m p : ℕ) (o : Option Place) → s.used p ≡ true → s.held p ≡ None → place_to_view (read_of (s.cell p)) ≡ o →
    Reports s (Pin m p) (pin_answer (s.cell p) o) record (hot_cell s p) { held = with_hold s.held p o }
reports_pin s law m p None used none e = (refl, none, got_hot s law p used, λ len ds place k is. kept_away (k.evac || k.moved || k.dropped) place (sym (ap place_to_view is) ∙ e))
reports_pin s law m p (Some place) used none e = (put_same s.held p (Some place) p refl, got_hot s law p used)

-- a pin isn't answered Refused
pin_told : (w : ℕ) (o : Option Place) → pin_answer w o ≢ Refused
pin_told w None y = cc
pin_told w (Some place) y = cc

touch_pin : (s : State) (p : ℕ) (o : Option Place) → Touches s (record { word = Some (CellAt p); part = Rests p }) record s { cell = put s.cell p (bit_or (s.cell p) (2 ^ position Hot)); held = with_hold s.held p o }
touch_pin s p None = touched (one_cell s.epoch s.scope s.cell s.word s.copying.word p _) (λ k a b. refl) (λ q a. refl) (λ q a b. refl)
touch_pin s p (Some place) = touched (one_cell s.epoch s.scope s.cell s.word s.copying.word p _) (λ k a b. refl) (λ q a. refl) (λ q a b. put_other s.held p (Some place) q (λ e. a (ap Rests (sym e))))

-- what the event owes
module _ (m p : ℕ) where
  pub pin_owed : Owed (Pin m p)
  pin_owed = record {
    fact = λ s law h. (open_fact s m (grind (arith, nat_tests)), grind (arith, nat_tests), grind (arith, nat_tests), none_from (s.held p) (grind (arith, nat_tests)));
    test = λ s h. rw (open_test s m h.0, eq-eqb _ _ h.1, h.2, h.3) refl;
    keeps = λ s law fits h. keeps_pin s p law h.2 (subst (λ k. s.scope k ≢ 0) (sym h.1) h.0.1);
    does = λ s law fits h. do_pin s law m p _ h.2 h.0.1 h.1 refl;
    within = λ s. touch_pin s p (place_to_view (read_of (s.cell p)));
    part = λ s h. by_owner Pin m p p (grind (arith, nat_tests)) refl;
    word = λ s h. inl (by_owner Pin m p p (grind (arith, nat_tests)) refl);
    reports = λ s law h. reports_pin s law m p (place_to_view (read_of (s.cell p))) h.2 h.3 refl;
    silent = λ s t h. h;
    answers = λ s x. pin_told (s.cell p) (place_to_view (read_of (s.cell p))) x;
    causes = replies (λ r. Caused (Pin m p) (change_of (Pin m p) r)) tt tt (λ n. tt) (λ x. tt) (λ place. refl);
  }
