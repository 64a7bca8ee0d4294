-- An object comes to where it may be read and written.
use Rattle.std.proofs.Common.{◌≡◌, ◌≢◌, ℕ, ◌*◌, ◌/◌, ◌<◌, true, false, cond, refl, sym, ap, subst, ◌∙◌, Bool, Option, Some, None, length, List, Result, Err}
use Rattle.std.specs.Prelude.{IfSome, IsSome}
use Rattle.std.proofs.lemmas.Bool.{cond_both, not-true, true≢false}
use Rattle.far_word.specs.declared.mark.Mark.TheVariants.{Moved}
use Rattle.far_word.specs.declared.pointer.Place.{Place}
use Rattle.far_word.specs.declared.pointer.PtrWord.{PtrWord}
use Rattle.far_word.specs.declared.pointer.PtrWord.TheVariants.{Near}
use Rattle.far_word.specs.declared.refused.Refused.{Refused}
use Rattle.far_word.specs.declared.refused.Refused.TheVariants.{Damaged, Device, Memory, NoRoom}
use Rattle.far_word.specs.declared.sizes.TheConstants.{CELLS}
use Rattle.far_word.specs.Mark.{marks_with}
use Rattle.far_word.specs.Pointer.{read_of}
use Rattle.far_word.specs.Sizes.{size_of, words_for}
use Rattle.far_events.specs.declared.event.Event.TheVariants.{Ask}
use Rattle.far_events.specs.events.Copies.{Alike}
use Rattle.far_events.specs.events.Naming.{unmarked}
use Rattle.far_events.specs.events.Pin.{place_to_view}
use Rattle.far_events.specs.events.Step.{after}
use Rattle.far_events.specs.state.Law.{Law, IsStored, in_use, is_dirty}
use Rattle.far_core.specs.state.Room.{room}
use Rattle.far_events.specs.state.State.{State}
use Rattle.far_core.specs.world.Steps.{Moves, ComesNear, Unmarks}
use Rattle.far_core.specs.world.World.{World, Group, Object as Thing}
use Rattle.far_core.specs.world.WorldOf.{world_of}
use Rattle.far_events.proofs.Cells.{map_mark}
use Rattle.far_core.proofs.KeepOwner.{nonzero}
use Rattle.far_core.proofs.Marking.{read_mark}
use Rattle.far_core.proofs.Owing.{keeps}
use Rattle.far_events.proofs.Put.{put_both, put_same}
use Rattle.far_device.specs.declared.fault.DeviceFault.{DeviceFault}
use Rattle.far_hand.specs.Quiet.{IsQuietNear}
use Rattle.far_book.specs.book.Asking.{AsksToFetch}
use Rattle.far_book.specs.book.Dealing.{goal, goal_of, has_evac, moved_now}
use Rattle.far_book.specs.book.Effects.{fetched, moved, stayed}
use Rattle.far_book.specs.book.Fetching.{IsFetched, RefusesFetch, far_len, room_for}
use Rattle.far_book.proofs.region.MovesReached.{moving, staying}
use Rattle.far_book.proofs.region.ReachingFar.{fetching}
use Rattle.far_alone.specs.Dereference.{says_near}
use Rattle.far_alone.proofs.Bringing.{KeepsOwners, SaysFar, SaysNear, far_is, fetched_keeps, moved_keeps, near_is, stayed_keeps}
use Rattle.far_private.specs.Causes.{IsCrowded, IsWant, StaysFar, WhyFar}
use Rattle.far_private.specs.Objects.{Settled, objects_of, seen}
use Rattle.far_private.specs.Steps.{Keeps}
use Rattle.far_private.proofs.Keeping.{honest_as, honest_by, keeps_both, keeps_none, same_objects, same_world}
use Rattle.far_private.proofs.Resting.{ask_keeps, ask_legal}
use Rattle.far_private.proofs.SameLogs.{fetched_logs, moved_logs, stayed_logs}

-- ---- a step that leaves owners, and gives one object another home
named_but : (s t : State) (p : ℕ) → s.cell p ≢ 0 → ((q : ℕ) → q ≢ p → t.cell q ≡ s.cell q) → (q : ℕ) → s.cell q ≡ 0 → t.cell q ≡ 0
named_but s t p busy cells q e = cells q (λ at. busy (ap s.cell (sym at) ∙ e)) ∙ e

keeps_by : (s t : State) (p : ℕ) → s.cell p ≢ 0 → KeepsOwners p s t → objects_of t ≡ objects_of s → Keeps s t
keeps_by s t p busy k same = record { mutators = k.mutators; used = k.used; named = named_but s t p busy k.cells; objects = same; scope = k.scope; remembered = k.remembered }

-- a word without marks but DIRTY lets a view rest where it says
rests_in : (o : Option PtrWord) (len ds : ℕ) (place : Place) (dirty : Bool) → o ≡ Some (Near len ds place (unmarked dirty)) → IsSome (place_to_view o)
rests_in o len ds place dirty e = subst (λ x. IsSome (place_to_view x)) (sym e) refl

-- ---- a near object
module _ (s : State) (p : ℕ) (law : Law s) (settled : Settled s) (used : s.used p ≡ true) (near : says_near (read_of (s.cell p)) ≡ true) where
  pub said : SaysNear (read_of (s.cell p))
  said = near_is (read_of (s.cell p)) near

  abbrev pub asks : State
  asks = after s (Ask (p / CELLS) p Moved)

  pub asks_law : Law asks
  asks_law = keeps s (Ask (p / CELLS) p Moved) law tt (ask_legal s law settled p used)

  pub asked_read : read_of (asks.cell p) ≡ Some (Near said.len said.ds said.place (marks_with Moved said.marks))
  asked_read = ap read_of (put_same s.cell p _ p refl) ∙ (read_mark Moved (s.cell p) refl (law.cells.cell_read p).0 (law.views.used_cell p used)).0 ∙ ap (map_mark Moved) said.is

  pub kept : said.marks.dropped ≡ false
  kept = not-true said.marks.dropped (sym (ap in_use said.is) ∙ law.views.used_cell p used)

  asks_busy : asks.cell p ≢ 0
  asks_busy = nonzero asks asks_law p used

  -- it goes to another log
  goes : (place : Place) → said.marks.evac ≡ true → goal asks p ≡ Some place → Keeps asks (moved asks p place)
  goes place evac found =
      let there : room asks (size_of said.len) false ≡ Some place = sym (ap (goal_of asks) asked_read ∙ ap (λ b. cond b (room asks (size_of said.len) false) (Some said.place)) evac) ∙ found in
      let way = moving asks p said.len said.ds said.place place (marks_with Moved said.marks) asks_law asked_read refl kept evac there in
      let world : Moves (world_of asks) p place.log (world_of (moved asks p place)) = way.2 in
      keeps_by asks (moved asks p place) p asks_busy (moved_keeps asks p place (read_of (asks.cell p)))
      (same_objects asks (moved asks p place) (honest_as asks (moved asks p place) (ap (λ (w : World). w.honest) world.moved.4)) (moved_logs asks p place (read_of (asks.cell p))) (λ q.
      ap (λ (w : World). seen asks.honest (w.object q)) world.moved.4
      ∙ put_both (λ x. seen asks.honest x ≡ seen asks.honest ((world_of asks).object q)) (world_of asks).object p _ q
      (λ at. sym (ap (seen asks.honest) (ap (world_of asks).object at ∙ world.moved.2))) (λ _. refl)))

  -- or stays
  rests : said.marks.evac ≡ false → Keeps asks (stayed asks p)
  rests evac =
      let way = staying asks p said.len said.ds said.place (marks_with Moved said.marks) asks_law asked_read refl kept evac in
      let world : Unmarks (world_of asks) p (world_of (stayed asks p)) = way.2 in
      keeps_by asks (stayed asks p) p asks_busy (stayed_keeps asks p (read_of (asks.cell p)))
      (same_world asks (stayed asks p) (honest_as asks (stayed asks p) (ap (λ (w : World). w.honest) world)) (stayed_logs asks p (read_of (asks.cell p))) (ap (λ (w : World). w.object) world))

  -- a view may rest there then
  goes_rests : (place : Place) → said.marks.evac ≡ true → goal asks p ≡ Some place → IsSome (place_to_view (read_of ((moved asks p place).cell p)))
  goes_rests place evac found =
      let there : room asks (size_of said.len) false ≡ Some place = sym (ap (goal_of asks) asked_read ∙ ap (λ b. cond b (room asks (size_of said.len) false) (Some said.place)) evac) ∙ found in
      let way = moving asks p said.len said.ds said.place place (marks_with Moved said.marks) asks_law asked_read refl kept evac there in
      rests_in (read_of ((moved asks p place).cell p)) said.len said.ds place (is_dirty (read_of (asks.cell p))) way.3.cell

  stays_rests : said.marks.evac ≡ false → IsSome (place_to_view (read_of ((stayed asks p).cell p)))
  stays_rests evac =
      let way = staying asks p said.len said.ds said.place (marks_with Moved said.marks) asks_law asked_read refl kept evac in
      rests_in (read_of ((stayed asks p).cell p)) said.len said.ds said.place (is_dirty (read_of (asks.cell p))) way.3.cell

  pub evac_is : has_evac (read_of (asks.cell p)) ≡ said.marks.evac
  evac_is = ap has_evac asked_read

  comes : (place : Place) → goal asks p ≡ Some place → Keeps asks (moved_now asks p place)
  comes place found = cond_both (has_evac (read_of (asks.cell p))) (moved asks p place) (stayed asks p) (Keeps asks)
      (λ e. goes place (sym evac_is ∙ e) found) (λ e. rests (sym evac_is ∙ e))

  comes_rests : (place : Place) → goal asks p ≡ Some place → IsSome (place_to_view (read_of ((moved_now asks p place).cell p)))
  comes_rests place found = cond_both (has_evac (read_of (asks.cell p))) (moved asks p place) (stayed asks p) (λ (x : State). IsSome (place_to_view (read_of (x.cell p))))
      (λ e. goes_rests place (sym evac_is ∙ e) found) (λ e. stays_rests (sym evac_is ∙ e))

  near_ends : (v t : State) (place : Place) → v ≡ asks → goal v p ≡ Some place → t ≡ moved_now v p place → IsSome (place_to_view (read_of (t.cell p)))
  near_ends v t place is found done =
      subst (λ (x : State). IsSome (place_to_view (read_of (x.cell p)))) (sym (done ∙ ap (λ (x : State). moved_now x p place) is)) (comes_rests place (ap (λ (x : State). goal x p) (sym is) ∙ found))

  pub near_rests : (v t : State) (o : Option Place) (place : Place) → o ≡ Some place → v ≡ asks → IfSome o (λ x. goal v p ≡ Some x) → IfSome o (λ x. t ≡ moved_now v p x) → IsSome (place_to_view (read_of (t.cell p)))
  near_rests v t o place e is found done = near_ends v t place is (subst (λ y. IfSome y (λ x. goal v p ≡ Some x)) e found) (subst (λ y. IfSome y (λ x. t ≡ moved_now v p x)) e done)

  -- or there is no room for it
  pub near_crowded : (v t : State) (why : Refused) → v ≡ asks → t ≡ v → why ≡ NoRoom → goal v p ≡ None → IsCrowded t p why
  near_crowded v t why is same e none = record {
    is = subst IsWant (sym e) tt;
    near = ap (λ (x : State). says_near (read_of (x.cell p))) (same ∙ is) ∙ ap says_near asked_read;
    none = ap (λ (x : State). goal x p) same ∙ none;
  }

  -- as the book answers it
  pub near_comes : (v t : State) (place : Place) → v ≡ asks → goal v p ≡ Some place → t ≡ moved_now v p place → Keeps s t
  near_comes v t place is found done =
      subst (Keeps s) (sym (done ∙ ap (λ (x : State). moved_now x p place) is))
      (keeps_both s asks (moved_now asks p place) (ask_keeps s law settled p used) (comes place (ap (λ (x : State). goal x p) (sym is) ∙ found)))

  pub near_told : (v t : State) (o : Option Place) (place : Place) → o ≡ Some place → v ≡ asks → IfSome o (λ x. goal v p ≡ Some x) → IfSome o (λ x. t ≡ moved_now v p x) → Keeps s t
  near_told v t o place e is found done = near_comes v t place is (subst (λ y. IfSome y (λ x. goal v p ≡ Some x)) e found) (subst (λ y. IfSome y (λ x. t ≡ moved_now v p x)) e done)

  pub near_quiet : (v : State) → v ≡ asks → IsQuietNear v p
  near_quiet v is = subst (λ (x : State). IsQuietNear x p) (sym is) record { len = said.len; ds = said.ds; place = said.place; marks = marks_with Moved said.marks; near = asked_read; quiet = refl }

  pub near_inside : (v : State) → v ≡ asks → p < CELLS * v.mutators
  near_inside v is = subst (λ (x : State). p < CELLS * x.mutators) (sym is) (law.cells.cell_range p (nonzero s law p used))

  pub near_stays : (v t : State) → v ≡ asks → t ≡ v → Keeps s t
  near_stays v t is same = subst (Keeps s) (sym (same ∙ is)) (ask_keeps s law settled p used)

-- ---- a far one
seen_as : (b : Bool) (o u : Thing) → u.ds ≡ o.ds → length u.bytes ≡ length o.bytes → (b ≡ true → u.bytes ≡ o.bytes) → seen b (Some u) ≡ seen b (Some o)
seen_as true o u ds long same = λ i. Some record { len = long i; ds = ds i; bytes = Some (same refl i) }
seen_as false o u ds long same = λ i. Some record { len = long i; ds = ds i; bytes = None }

module _ (s : State) (p : ℕ) (law : Law s) (used : s.used p ≡ true) (far : says_near (read_of (s.cell p)) ≡ false) where
  told : SaysFar (read_of (s.cell p))
  told = far_is (read_of (s.cell p)) far (law.views.used_cell p used)

  alive : told.marks.dropped ≡ false
  alive = not-true told.marks.dropped (sym (ap in_use told.is) ∙ law.views.used_cell p used)

  pub far_comes : (t : State) (place : Place) (row : ℕ → ℕ) → room_for s p ≡ Some place → IsStored row (far_len (read_of (s.cell p))) → (s.honest ≡ true → Alike row (s.stored p) (words_for (far_len (read_of (s.cell p))))) →
      t ≡ fetched s p place row → Keeps s t
  far_comes t place row found padded same is =
      let long : far_len (read_of (s.cell p)) ≡ told.len = ap far_len told.is in
      let way = fetching s p told.len told.ds told.marks place row law told.is alive (ap (λ n. room s (size_of n) true) (sym long) ∙ found) (subst (IsStored row) long padded)
      (λ h. subst (λ n. Alike row (s.stored p) (words_for n)) long (same h)) in
      let world : ComesNear (world_of s) p place.log (world_of (fetched s p place row)) = way.2 in
      let (o, bytes, there, home, count, small, honest, after) = world.come in
      let next : State = fetched s p place row in
      let u : Thing = record { owner = o.owner; ds = o.ds; bytes = bytes; home = Group place.log } in
      let as_seen : objects_of next ≡ objects_of s = same_objects s next (honest_as s next (ap (λ (w : World). w.honest) after)) (fetched_logs s p place row) (λ q.
      ap (λ (w : World). seen s.honest (w.object q)) after
      ∙ put_both (λ x. seen s.honest x ≡ seen s.honest ((world_of s).object q)) (world_of s).object p (Some u) q
      (λ at. seen_as s.honest o u refl count (honest_by s honest) ∙ sym (ap (seen s.honest) (ap (world_of s).object at ∙ there))) (λ _. refl)) in
      subst (Keeps s) (sym is) (keeps_by s next p (nonzero s law p used) (fetched_keeps s p place row (read_of (s.cell p))) as_seen)

  -- it says near then
  pub far_near : (t : State) (place : Place) (row : ℕ → ℕ) → room_for s p ≡ Some place → IsStored row (far_len (read_of (s.cell p))) → (s.honest ≡ true → Alike row (s.stored p) (words_for (far_len (read_of (s.cell p))))) →
      t ≡ fetched s p place row → says_near (read_of (t.cell p)) ≡ true
  far_near t place row found padded same is =
      let long : far_len (read_of (s.cell p)) ≡ told.len = ap far_len told.is in
      let way = fetching s p told.len told.ds told.marks place row law told.is alive (ap (λ n. room s (size_of n) true) (sym long) ∙ found) (subst (IsStored row) long padded)
      (λ h. subst (λ n. Alike row (s.stored p) (words_for n)) long (same h)) in
      ap (λ (x : State). says_near (read_of (x.cell p))) is ∙ ap says_near way.3.cell

  -- and a view may rest there
  far_rests : (t : State) (place : Place) (row : ℕ → ℕ) → room_for s p ≡ Some place → IsStored row (far_len (read_of (s.cell p))) → (s.honest ≡ true → Alike row (s.stored p) (words_for (far_len (read_of (s.cell p))))) →
      t ≡ fetched s p place row → IsSome (place_to_view (read_of (t.cell p)))
  far_rests t place row found padded same is =
      let long : far_len (read_of (s.cell p)) ≡ told.len = ap far_len told.is in
      let way = fetching s p told.len told.ds told.marks place row law told.is alive (ap (λ n. room s (size_of n) true) (sym long) ∙ found) (subst (IsStored row) long padded)
      (λ h. subst (λ n. Alike row (s.stored p) (words_for n)) long (same h)) in
      subst (λ (x : State). IsSome (place_to_view (read_of (x.cell p)))) (sym is) (rests_in (read_of ((fetched s p place row).cell p)) told.len told.ds place false way.3.cell)

  -- as the book answers it
  pub fetch_comes : (t : State) (place : Place) → room_for s p ≡ Some place → IsFetched (Unit {0}) s.honest s t p place → Keeps s t × (says_near (read_of (t.cell p)) ≡ true) × IsSome (place_to_view (read_of (t.cell p)))
  fetch_comes t place found f = (far_comes t place f.row found f.padded f.stored (f.exact tt), far_near t place f.row found f.padded f.stored (f.exact tt), far_rests t place f.row found f.padded f.stored (f.exact tt))

  pub fetch_told : (t : State) (o : Option Place) (place : Place) → o ≡ Some place → IfSome o (λ x. room_for s p ≡ Some x) → IfSome o (λ x. IsFetched (Unit {0}) s.honest s t p x) →
      Keeps s t × (says_near (read_of (t.cell p)) ≡ true) × IsSome (place_to_view (read_of (t.cell p)))
  fetch_told t o place e found f = fetch_comes t place (subst (λ y. IfSome y (λ x. room_for s p ≡ Some x)) e found) (subst (λ y. IfSome y (λ x. IsFetched (Unit {0}) s.honest s t p x)) e f)

-- ---- or stays away
never_honest : (a b : Bool) → (a ≡ true → b ≡ true) → b ≡ false → a ≡ false
never_honest true b h e = absurd (true≢false (sym (h refl) ∙ e))
never_honest false b h e = refl

module _ {D : Type 0} (reads : D → ℕ → Result (List ℕ) DeviceFault → D → Type 0) (lets_go : D → ℕ → D → Type 0) (still : Type 0) (s : State) (p : ℕ) (before after : D) (honest : Bool) (agrees : s.honest ≡ true → honest ≡ true) where
  why_far : (t : State) (why : Refused) → RefusesFetch why (room_for s p) honest → AsksToFetch D reads lets_go still s t p (Err why) before after → WhyFar D reads s p after why
  why_far t NoRoom none asked = none
  why_far t Memory some asked = (before, asked)
  why_far t Device some asked = (before, asked)
  why_far t Damaged some asked = (never_honest s.honest honest agrees some.1, before, asked.0, asked.1, asked.2)
  why_far t _ none asked = absurd none

  pub far_stays : (t : State) (why : Refused) → says_near (read_of (s.cell p)) ≡ false → RefusesFetch why (room_for s p) honest → AsksToFetch D reads lets_go still s t p (Err why) before after → t ≡ s → StaysFar D reads t p after why
  far_stays t why far refused asked same = subst (λ (x : State). StaysFar D reads x p after why) (sym same) record { far = far; cause = why_far t why refused asked }

pub keeps_same : (s t : State) → t ≡ s → Keeps s t
keeps_same s t e = subst (Keeps s) (sym e) (keeps_none s)
