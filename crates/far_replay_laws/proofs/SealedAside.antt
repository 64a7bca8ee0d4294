-- Each command that is told by events leaves the sealed logs: nothing comes to lie there, and what lies there has EVAC where it had it.
use Rattle.std.proofs.Common.{◌≡◌, ℕ, ◌+◌, ◌*◌, ◌/◌, ◌^◌, ◌<◌, ◌≤◌, ◌&&◌, Bool, true, false, not, cond, nat_eq, Option, Some, None, is_some, List, bit_or, arith, ap, sym, refl, ◌∙◌, subst}
use Rattle.std.proofs.lemmas.Bool.{and_parts, cond_both, false≢true, not-false}
use Rattle.far_events.proofs.Bounds.{some_of}
use Rattle.far_word.specs.declared.mark.Mark.{Mark}
use Rattle.far_word.specs.declared.mark.Mark.TheVariants.{Hot, Evac, Moved, Dirty}
use Rattle.far_word.specs.declared.mark.Marks.{Marks}
use Rattle.far_word.specs.declared.pointer.Place.{Place}
use Rattle.far_word.specs.declared.pointer.PtrWord.{PtrWord}
use Rattle.far_word.specs.declared.pointer.PtrWord.TheVariants.{Near, Far}
use Rattle.far_word.specs.declared.sizes.TheConstants.{CELLS, LOG_WORDS, LONGEST}
use Rattle.far_word.specs.Mark.{marks_with, position}
use Rattle.far_word.specs.Pointer.{read_of}
use Rattle.far_word.specs.Sizes.{size_of}
use Rattle.far_events.specs.declared.event.Kind.{Kind}
use Rattle.far_events.specs.events.Step.{after_close, after_pin, is_opened}
use Rattle.far_events.specs.state.Law.{Law, in_use}
use Rattle.far_core.specs.state.Room.{room}
use Rattle.far_events.specs.state.State.{State, put}
use Rattle.far_events.proofs.Cells.{map_mark}
use Rattle.far_core.proofs.Marking.{is_owners, read_mark}
use Rattle.far_core.proofs.events.Soil.{reads}
use Rattle.far_book.specs.book.Dealing.{goal_of, has_evac}
use Rattle.far_book.specs.book.Effects.{moved, placed, stayed, with_free_cell}
use Rattle.far_book.specs.book.SealedLogs.{KeepsSealed}
use Rattle.far_book.specs.book.Fetching.{far_len}
use Rattle.far_book.proofs.region.Owns.{own_law}
use Rattle.far_book.proofs.region.SealedKept.{one_cell, sealed_logs_kept}
use Rattle.far_text.specs.Command.{Command, On, Writes, Mutator, Use}
use Rattle.far_alone.specs.Dereference.{come, come_of, comes_to, comes_to_of, dereferenced, has_no_room, sought, sought_of}
use Rattle.far_alone.specs.Effects.{is_slow, with_data, with_epoch, with_object, with_scope, with_view, without_object}
use Rattle.far_replay.specs.Events.{IsNoStep}
use Rattle.far_alone.specs.Events.{come_events, view_events}
use Rattle.far_replay.specs.Moment.{Moment}
use Rattle.far_alone.specs.Objects.{lowest_cell, uses}
use Rattle.far_replay.specs.Turn.{effect, refusal, after_use}
use Rattle.far_replay.proofs.Brought.{MayBring, brought}
use Rattle.far_replay.proofs.Dereferences.{derefs, sought_law, sought_may, view_leads}
use Rattle.far_alone.proofs.Drops.{drop_is}
use Rattle.far_alone.proofs.Leading.{leads_law}
use Rattle.far_alone.proofs.Lowest.{lowest_cell_is}
use Rattle.far_replay.proofs.Ways.{by_way, may_reach, new_numbers}

-- ---- what leaves them
pub sealed_same : (s t : State) → t.kind ≡ s.kind → t.tail ≡ s.tail → t.starts ≡ s.starts → t.cell ≡ s.cell → t.round ≡ s.round → t.clear ≡ s.clear → t.epoch ≡ s.epoch → t.mutators ≡ s.mutators → KeepsSealed s t
sealed_same s t kind tail starts cell round clear epoch mutators = record {
  kind = λ l h. ap (λ (f : ℕ → Kind). f l) kind ∙ h;
  tail = λ l h. ap (λ (f : ℕ → ℕ). f l) tail;
  starts = λ l at h lt. ap (λ (f : ℕ → Bool). f (l * LOG_WORDS + at)) starts;
  near = λ p len ds place marks near h. (marks, subst (λ (f : ℕ → ℕ). read_of (f p) ≡ Some (Near len ds place marks)) cell near, refl);
  round = round;
  clear = clear;
  epoch = epoch;
  mutators = mutators;
}

sealed_none : (s : State) → KeepsSealed s s
sealed_none s = sealed_same s s refl refl refl refl refl refl refl refl

pub sealed_more : (s t u : State) → KeepsSealed s t → KeepsSealed t u → KeepsSealed s u
sealed_more s t u f g = record {
  kind = λ l h. g.kind l (f.kind l h);
  tail = λ l h. g.tail l (f.kind l h) ∙ f.tail l h;
  starts = λ l at h lt. g.starts l at (f.kind l h) (subst (λ n. at < n) (sym (f.tail l h)) lt) ∙ f.starts l at h lt;
  near = λ p len ds place marks near h.
      let then = g.near p len ds place marks near (f.kind place.log h) in
      let first = f.near p len ds place then.0 then.1 h in
      (first.0, first.1, then.2 ∙ first.2);
  round = g.round ∙ f.round;
  clear = g.clear ∙ f.clear;
  epoch = g.epoch ∙ f.epoch;
  mutators = g.mutators ∙ f.mutators;
}

-- ---- an owner adds a mark
evac_kept : (k : Mark) (a : Marks) → is_owners k ≡ true → (marks_with k a).evac ≡ a.evac
evac_kept Evac a h = absurd (false≢true h)
evac_kept _ a h = refl

near_marked : (k : Mark) → is_owners k ≡ true → (o : Option PtrWord) (len ds : ℕ) (place : Place) (marks : Marks) → map_mark k o ≡ Some (Near len ds place marks) →
    (old : Marks) × (o ≡ Some (Near len ds place old)) × (marks.evac ≡ old.evac)
near_marked k h (Some (Near n d at a)) len ds place marks e =
    let long : n ≡ len = cc in
    let structure : d ≡ ds = cc in
    let there : at ≡ place = cc in
    let more : marks_with k a ≡ marks = cc in
    (a, (λ i. Some (Near (long i) (structure i) (there i) a)), ap (λ (m : Marks). m.evac) (sym more) ∙ evac_kept k a h)
near_marked k h _ len ds place marks e = absurd cc

marked_on : (k : Mark) → is_owners k ≡ true → (s : State) (p : ℕ) → Law s → in_use (read_of (s.cell p)) ≡ true → KeepsSealed s (record s { cell = put s.cell p (bit_or (s.cell p) (2 ^ position k)); stored = s.stored })
marked_on k h s p law live = one_cell s p (bit_or (s.cell p) (2 ^ position k)) s.stored
    (λ len ds place marks near shut. near_marked k h (read_of (s.cell p)) len ds place marks (sym (read_mark k (s.cell p) h (law.cells.cell_read p).0 live).0 ∙ near))

-- or DIRTY
near_dirty : (o : Option PtrWord) (len ds : ℕ) (place : Place) (marks : Marks) → map_mark Dirty o ≡ Some (Near len ds place marks) → (old : Marks) × (o ≡ Some (Near len ds place old)) × (marks.evac ≡ old.evac)
near_dirty (Some (Near n d at a)) len ds place marks e =
    let long : n ≡ len = cc in
    let structure : d ≡ ds = cc in
    let there : at ≡ place = cc in
    let more : marks_with Dirty a ≡ marks = cc in
    (a, (λ i. Some (Near (long i) (structure i) (there i) a)), ap (λ (m : Marks). m.evac) (sym more))
near_dirty _ len ds place marks e = absurd cc

dirty_on : (s : State) (p : ℕ) → Law s → is_some (s.held p) ≡ true → KeepsSealed s (record s { cell = put s.cell p (bit_or (s.cell p) (2 ^ position Dirty)); stored = s.stored })
dirty_on s p law held = one_cell s p (bit_or (s.cell p) (2 ^ position Dirty)) s.stored
    (λ len ds place marks near shut. near_dirty (read_of (s.cell p)) len ds place marks (sym (reads s law p held).0 ∙ near))

-- views and askings
view_sealed : (s : State) (p : ℕ) → Law s → in_use (read_of (s.cell p)) ≡ true → KeepsSealed s (with_view s p)
view_sealed s p law live = cond_both (is_some (s.held p)) s (after_pin s p) (KeepsSealed s) (λ _. sealed_none s)
    (λ _. let hot : State = record s { cell = put s.cell p (bit_or (s.cell p) (2 ^ position Hot)); stored = s.stored } in
    sealed_more s hot (after_pin s p) (marked_on Hot refl s p law live) (sealed_same hot (after_pin s p) refl refl refl refl refl refl refl refl))

asked_sealed : (s : State) (m p : ℕ) → Law s → in_use (read_of (s.cell p)) ≡ true → (o : Option PtrWord) → KeepsSealed s (sought_of s m p o)
asked_sealed s m p law live (Some (Near len ds place marks)) = marked_on Moved refl s p law live
asked_sealed s m p law live _ = sealed_none s

module _ (s : State) (m p : ℕ) (law : Law s) (opened : is_opened s m ≡ true) (ours : uses s m p ≡ true) where
  used : s.used p ≡ true
  used = (and_parts (nat_eq (p / CELLS) m) (s.used p) ours).1

  live : in_use (read_of (s.cell p)) ≡ true
  live = law.views.used_cell p used

  pinned_law : Law (with_view s p)
  pinned_law = leads_law s (with_view s p) (view_events s m p) law (view_leads s m p law opened ours)

  pinned_used : (with_view s p).used p ≡ true
  pinned_used = cond_both (is_some (s.held p)) s (after_pin s p) (λ (t : State). t.used p ≡ true) (λ _. used) (λ _. used)

  pub sought_sealed : KeepsSealed s (sought s m p)
  sought_sealed = sealed_more s (with_view s p) (sought s m p) (view_sealed s p law live)
      (asked_sealed (with_view s p) m p pinned_law (pinned_law.views.used_cell p pinned_used) (read_of ((with_view s p).cell p)))

-- ---- an object comes to where a view may rest
near_sealed : (s : State) (law : Law s) (p len ds : ℕ) (from place : Place) (marks : Marks) → read_of (s.cell p) ≡ Some (Near len ds from marks) → marks.moved ≡ true → marks.dropped ≡ false →
    (b : Bool) → marks.evac ≡ b → cond b (room s (size_of len) false) (Some from) ≡ Some place → KeepsSealed s (cond b (moved s p place) (stayed s p))
near_sealed s law p len ds from place marks near asked alive true wanted found = (sealed_logs_kept s p len ds (own_law s law)).moves from place marks near wanted alive found
near_sealed s law p len ds from place marks near asked alive false unwanted found = (sealed_logs_kept s p len ds (own_law s law)).stays from marks near unwanted asked alive

come_sealed_of : (s : State) (law : Law s) (p : ℕ) (place : Place) (o : Option PtrWord) → read_of (s.cell p) ≡ o → MayBring o → comes_to_of s p o ≡ Some place → KeepsSealed s (come_of s p (Some place) o)
come_sealed_of s law p place (Some (Near len ds from marks)) e may found =
    let to : cond marks.evac (room s (size_of len) false) (Some from) ≡ Some place = sym (ap (goal_of s) e) ∙ found in
    subst (λ b. KeepsSealed s (cond b (moved s p place) (stayed s p))) (sym (ap has_evac e)) (near_sealed s law p len ds from place marks e may.0 may.1 marks.evac refl to)
come_sealed_of s law p place (Some (Far len ds marks)) e may found =
    let to : room s (size_of len) true ≡ Some place = sym (ap (λ o. room s (size_of (far_len o)) true) e) ∙ found in
    (sealed_logs_kept s p len ds (own_law s law)).comes place marks (s.stored p) e may to
come_sealed_of s law p place _ e may found = absurd may

come_sealed : (s : State) (law : Law s) (p : ℕ) (place : Place) → MayBring (read_of (s.cell p)) → comes_to s p ≡ Some place → KeepsSealed s (come s p)
come_sealed s law p place may found = subst (λ x. KeepsSealed s (come_of s p x (read_of (s.cell p)))) (sym found) (come_sealed_of s law p place (read_of (s.cell p)) refl may found)

-- ---- a dereference
module _ (s : State) (m p : ℕ) (law : Law s) (opened : is_opened s m ≡ true) (ours : uses s m p ≡ true) where
  slow_sealed : is_slow s p ≡ true → (place : Place) → comes_to (sought s m p) p ≡ Some place → KeepsSealed s (with_view (come (sought s m p) p) p)
  slow_sealed slow place found =
      let u : State = sought s m p in
      let v : State = come u p in
      let first : Law u = sought_law s m p law opened ours slow in
      let may = sought_may s m p law opened ours slow in
      let comes = brought u first p place may found in
      let then : Law v = leads_law u v (come_events u p) first comes.leads in
      sealed_more s u (with_view v p) (sought_sealed s m p law opened ours)
      (sealed_more u v (with_view v p) (come_sealed u first p place may found) (view_sealed v p then (ap in_use comes.near)))

  derefs_by : (b : Bool) → is_slow s p ≡ b → (b && not (is_some (comes_to (sought s m p) p))) ≡ false → KeepsSealed s (cond b (with_view (come (sought s m p) p) p) (with_view s p))
  derefs_by true slow found = let there = some_of (comes_to (sought s m p) p) (not-false (is_some (comes_to (sought s m p) p)) found) in slow_sealed slow there.0 there.1
  derefs_by false fast found = view_sealed s p law (live s m p law opened ours)

  pub derefs_sealed : has_no_room s m p ≡ false → KeepsSealed s (dereferenced s m p)
  derefs_sealed found = derefs_by (is_slow s p) refl found

  pub writes_sealed : (from : ℕ) (bytes : List ℕ) → has_no_room s m p ≡ false → KeepsSealed s (with_data (dereferenced s m p) p from bytes)
  writes_sealed from bytes found =
      let t : State = dereferenced s m p in
      let led = derefs s m p law opened ours found in
      let dirty : State = record t { cell = put t.cell p (bit_or (t.cell p) (2 ^ position Dirty)); stored = t.stored } in
      sealed_more s t (with_data t p from bytes) (derefs_sealed found)
      (sealed_more t dirty (with_data t p from bytes) (dirty_on t p led.law (ap is_some led.view.holds.rests)) (sealed_same dirty (with_data t p from bytes) refl refl refl refl refl refl refl refl))

-- ---- a new object, and one that is dropped
new_sealed : (s : State) (m len ds p : ℕ) (place : Place) → Law s → m < s.mutators → ds < 256 → 0 < len → len ≤ LONGEST → lowest_cell s m ≡ Some p → room s (size_of len) true ≡ Some place →
    KeepsSealed s (with_object s m p len ds place)
new_sealed s m len ds p place law within structure some most cell found =
    let low = lowest_cell_is s m p cell in
    let t : State = placed s p len ds place in
    let u : State = with_object s m p len ds place in
    let inside : p < CELLS * s.mutators = omega (arith, low.1, within) in
    sealed_more s t u ((sealed_logs_kept s p len ds (own_law s law)).places place low.2 inside some most structure found) (sealed_same t u refl refl refl refl refl refl refl refl)

drop_sealed : (s : State) (m p : ℕ) → Law s → m < s.mutators → uses s m p ≡ true → s.held p ≡ None → KeepsSealed s (without_object s m p)
drop_sealed s m p law within ours unheld =
    let free : State = with_free_cell s p in
    let gone : State = record s { cell = put s.cell p 0; used = put s.used p false } in
    subst (KeepsSealed s) (sym (drop_is s m p law within ours unheld))
    (sealed_more s free gone (sealed_logs_kept s p 0 0 (own_law s law)).ends (sealed_same free gone refl refl refl refl refl refl refl refl))

-- ---- each command
use_sealed : (now : Moment) (m p : ℕ) (how : Use) → Law now.core → refusal now (Mutator m (On p how)) ≡ None → KeepsSealed now.core (after_use (dereferenced now.core m p) p how)
use_sealed now m p (Writes from bytes) law e = let h = may_reach now m p (Writes from bytes) e in writes_sealed now.core m p law h.0 h.1 from bytes h.2
use_sealed now m p how law e = let h = may_reach now m p how e in derefs_sealed now.core m p law h.0 h.1 h.2

pub sealed_aside : (now : Moment) (c : Command) → IsNoStep c → Law now.core → KeepsSealed now.core (effect now c).core
sealed_aside now c told law = by_way now (λ d es (x : Moment). KeepsSealed now.core x.core)
    (λ d. sealed_none now.core)
    (λ m len ds p place e cell found. let h = new_numbers now.core m len ds e in new_sealed now.core m len ds p place law h.0 h.1 h.2 h.3 cell found)
    (λ m shut. sealed_same now.core (with_scope now.core m) refl refl refl refl refl refl refl refl)
    (λ m shut. sealed_same now.core (with_epoch now.core m) refl refl refl refl refl refl refl refl)
    (λ m opened. sealed_same now.core (after_close now.core m) refl refl refl refl refl refl refl refl)
    (λ m p opened ours. view_sealed now.core p law (live now.core m p law opened ours))
    (λ m p how opened ours full. sought_sealed now.core m p law opened ours)
    (λ m p how e. use_sealed now m p how law e)
    (λ m p within ours unheld. drop_sealed now.core m p law within ours unheld)
    c told
