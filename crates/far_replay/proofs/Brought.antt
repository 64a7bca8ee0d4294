-- An object that was asked for is brought to where a view may rest: by which events, and what that leaves.
use Rattle.std.proofs.Common.{◌≡◌, ℕ, ◌+◌, ◌-◌, ◌*◌, ◌^◌, ◌<◌, ◌≤◌, Bool, true, false, cond, refl, sym, ap, subst, ◌∙◌, arith, Option, Some, None, List, ◌++◌, inl, inr, if◌then◌else◌, ◌||◌}
use Rattle.std.specs.Bool.{MatchBool}
use Rattle.std.proofs.lemmas.Bool.{cases_eq}
use Rattle.far_word.specs.declared.mark.Marks.{Marks}
use Rattle.far_word.specs.declared.pointer.Place.{Place}
use Rattle.far_word.specs.declared.pointer.PtrWord.{PtrWord}
use Rattle.far_word.specs.declared.pointer.PtrWord.TheVariants.{Free, Near, Far}
use Rattle.far_word.specs.declared.sizes.TheConstants.{CELLS, LOG_WORDS}
use Rattle.far_word.specs.Bytes.{bytes_of}
use Rattle.far_word.specs.Header.{IsHead}
use Rattle.far_word.specs.Pointer.{IsPtr, read_of, word_of}
use Rattle.far_word.specs.Sizes.{size_of, words_for}
use Rattle.far_word.proofs.ByteLaws.{bytes_of-same}
use Rattle.far_word.proofs.PointerLaws.{read_back, read_says, word_fits}
use Rattle.far_events.specs.declared.event.Event.{Event}
use Rattle.far_events.specs.declared.event.Event.TheVariants.{Name as Names}
use Rattle.far_events.specs.declared.naming.Naming.TheVariants as naming
use Rattle.far_events.specs.events.Copies.{data_at}
use Rattle.far_events.specs.events.Legal.{Legal}
use Rattle.far_events.specs.events.Naming.{is_dropped, no_marks, unmarked}
use Rattle.far_events.specs.events.Step.{after}
use Rattle.far_core.specs.laws.Rooms.{IsRoom, RoomIs}
use Rattle.far_events.specs.state.Law.{Law, head_len, is_dirty}
use Rattle.far_core.specs.state.Room.{room}
use Rattle.far_events.specs.state.Spans.{names_place}
use Rattle.far_events.specs.state.State.{State, put, addr}
use Rattle.far_core.specs.world.World.{World, Object}
use Rattle.far_core.specs.world.WorldOf.{world_of, object_of}
use Rattle.far_events.proofs.Copied.{NoCopy}
use Rattle.far_events.proofs.Bounds.{span_len}
use Rattle.far_events.proofs.Cells.{unused}
use Rattle.far_events.proofs.NewSpans.{at_tail}
use Rattle.far_events.proofs.Put.{put_both, put_old, put_other}
use Rattle.far_core.proofs.RoomLaws.{room_right}
use Rattle.far_hand.specs.Quiet.{is_quiet}
use Rattle.far_book.specs.book.Dealing.{goal_of, has_evac}
use Rattle.far_book.specs.book.Fetching.{far_len}
use Rattle.far_book.specs.book.Effects.{fetched, fetched_of, moved, moved_of, near_word, stayed, stayed_of, with_written_span}
use Rattle.far_book.specs.book.Moving.{Copied, MayCopy}
use Rattle.far_book.specs.book.Renaming.{stops}
use Rattle.far_hand.proofs.Finding.{finds_same}
use Rattle.far_book.proofs.region.Coming.{may_come, stands}
use Rattle.far_book.proofs.region.Copying.{first, from_outside, head, layout_there, outside}
use Rattle.far_book.proofs.region.Fetched.{fetched_come}
use Rattle.far_book.proofs.region.Moved.{may_rename, moved_is, stayed_is, no_copy}
use Rattle.far_book.proofs.region.MovesReached.{moving, staying}
use Rattle.far_book.proofs.region.Owns.{own_law}
use Rattle.far_book.proofs.region.ReachingFar.{fetching}
use Rattle.far_alone.specs.Own.{bytes_in_world}
use Rattle.far_alone.specs.Dereference.{come, come_of, comes_to, comes_to_of}
use Rattle.far_alone.specs.Events.{come_events, come_events_of, name_events, span_events}
use Rattle.far_replay.specs.Taking.{BringTakes, TakesNone, TakesSpan}
use Rattle.far_alone.specs.Objects.{object_len, named_len}
use Rattle.far_alone.proofs.AloneRuns.{SameBytes}
use Rattle.far_alone.proofs.Bringing.{fetched_keeps, moved_keeps, stayed_keeps}
use Rattle.far_alone.proofs.Leading.{Leads, leads_append, leads_one, span_leads}
use Rattle.far_replay.proofs.LogBytes.{bytes_move, names_one, worded_takes}

-- one object of a world is another with the same bytes
pub bytes_at : (w : World) (p : ℕ) (o x : Object) → w.object p ≡ Some o → x.bytes ≡ o.bytes → (q : ℕ) → bytes_in_world (put w.object p (Some x) q) ≡ bytes_in_world (w.object q)
bytes_at w p o x is same q = put_both (λ y. bytes_in_world y ≡ bytes_in_world (w.object q)) w.object p (Some x) q
    (λ e. ap Some same ∙ sym (ap bytes_in_world (ap w.object e ∙ is))) (λ _. refl)

-- an object is brought: near it lies, without marks but DIRTY, if it had that and was near, as long as it was; all bytes and scopes are the same, and so are the views
pub record Brought (s : State) (p : ℕ) (es : List Event) (t : State) : Type 0 where
  pub leads : Leads s es t
  pub len : ℕ
  pub ds : ℕ
  pub place : Place
  pub dirty : Bool
  pub still : dirty ≡ is_dirty (read_of (s.cell p))
  pub near : read_of (t.cell p) ≡ Some (Near len ds place (unmarked dirty))
  pub long : object_len s p ≡ len
  pub bytes : SameBytes (world_of s) (world_of t)
  pub held : t.held ≡ s.held
  pub stored : t.stored ≡ s.stored
  pub takes : BringTakes s (read_of (s.cell p)) t

-- ---- an object that is moved
module _ (s : State) (law : Law s) (p len ds : ℕ) (from to : Place) (m : Marks) (near : read_of (s.cell p) ≡ Some (Near len ds from m)) (asked : m.moved ≡ true)
    (alive : m.dropped ≡ false) (wanted : m.evac ≡ true) (found : room s (size_of len) false ≡ Some to) where
  says : IsPtr (Near len ds from m) × (word_of (Near len ds from m) ≡ s.cell p)
  says = read_says (s.cell p) (Near len ds from m) (law.cells.cell_read p).0 near

  pointer : p < CELLS * s.mutators
  pointer = law.cells.cell_range p (λ z. let none : 0 ≡ s.cell p = sym z in absurd (omega (arith, says.1)))

  is_room : IsRoom s (size_of len) false to
  is_room = subst (RoomIs s (size_of len) false) found (room_right s law (size_of len) false (omega (arith, says.0)))

  quiet : is_quiet s.round s.clear p from m ≡ true
  quiet = rw asked refl

  may : MayCopy s p len ds from to
  may = record { law = own_law s law; pointer = pointer; marks = m; near = near; quiet = quiet; next = is_room.next; fits = is_room.fits }

  abbrev row : ℕ → ℕ
  row = data_at s.word from

  abbrev written : State
  written = with_written_span s p len ds to row

  written_leads : Leads s (span_events p len ds to row) written
  written_leads = span_leads s law p len ds to row is_room.next is_room.fits (head s p len ds from to may) (λ k _. law.spans.word_fits (addr from + 1 + k))

  begun : s.starts (addr from) ≡ true
  begun = (law.cells.cell_near p len ds from m near).placed

  head_long : head_len (s.word (addr from)) ≡ len
  head_long = rw (span_len s law p len ds from m near) refl

  last_padded : row (words_for len - 1) < 2 ^ (8 * (len - 8 * (words_for len - 1)))
  last_padded = subst (λ n. row (words_for len - 1) < 2 ^ (8 * (n - 8 * (words_for len - 1)))) head_long
      (law.spans.span_padding (addr from) begun (words_for len - 1) (subst (λ n. words_for len - 1 < words_for n) (sym head_long) (omega (arith, says.0))))

  copied : Copied s written p len ds from to
  copied = record {
    is = refl;
    header = first s p len ds from to may;
    same = λ i lt. stands s p len ds to row i lt ∙ sym (outside s p len ds from to may (addr from + 1 + i) (from_outside s p len ds from to may i lt));
    padded = subst (λ w. w < 2 ^ (8 * (len - 8 * (words_for len - 1)))) (sym (stands s p len ds to row (words_for len - 1) (omega (arith, says.0)))) last_padded;
    keeps = record { known = λ a k now. refl; headers = λ a start. refl };
  }

  named_legal : Legal written (Names p (s.cell p) (near_word m.dirty len ds to))
  named_legal = subst (λ b. Legal written (Names p (s.cell p) (near_word b len ds to))) (ap is_dirty near)
      (subst (λ (t : State). Legal t (Names p (s.cell p) (near_word (is_dirty (read_of (s.cell p))) len ds to))) (λ i. record written { cell = put_old s.cell p (s.cell p) refl i })
      (may_rename s written p len ds from to may copied (ap has_evac near ∙ wanted) (ap is_dropped near ∙ alive) (s.cell p) (law.cells.cell_read p).0 (finds_same (s.cell p)) (ap is_dropped near ∙ alive)).0)

  moved_leads : Leads s (span_events p len ds to row ++ name_events s p m.dirty len ds to) (moved s p to)
  moved_leads = subst (Leads s (span_events p len ds to row ++ name_events s p m.dirty len ds to)) (sym (ap (moved_of s p to) near))
      (leads_append s written (after written (Names p (s.cell p) (near_word m.dirty len ds to))) (span_events p len ds to row) (name_events s p m.dirty len ds to) written_leads
      (leads_one written (Names p (s.cell p) (near_word m.dirty len ds to)) named_legal ((law.cells.cell_read p).0, word_fits (Near len ds to (unmarked m.dirty)) (layout_there s p len ds from to may))))

  uncopied : NoCopy s.copying p from to
  uncopied = no_copy s may.law p from to is_room.next (omega (arith, is_room.fits))

  pub moved_brought : Brought s p (span_events p len ds to row ++ name_events s p m.dirty len ds to) (moved s p to)
  moved_brought =
      let done = moving s p len ds from to m law near quiet alive wanted found in
      let (o, old, there, home, is) = done.2.moved in
      record {
        leads = moved_leads;
        len = len;
        ds = ds;
        place = to;
        dirty = is_dirty (read_of (s.cell p));
        still = refl;
        near = done.3.cell;
        long = ap named_len near;
        bytes = ((λ q. ap (λ (w : World). bytes_in_world (w.object q)) is ∙ bytes_at (world_of s) p o _ there refl q), ap (λ (w : World). w.opened) is);
        held = (moved_keeps s p to (read_of (s.cell p))).held;
        stored = ap (λ (t : State). t.stored) (moved_is s p len ds from to m near alive wanted (layout_there s p len ds from to may) uncopied);
        takes = subst (λ o. BringTakes s o (moved s p to)) (sym near) (subst (λ b. MatchBool b (TakesSpan s len (Some from.log) false (moved s p to)) (TakesNone s (moved s p to))) (sym wanted) (
          to,
          found,
          ap (λ (t : State). t.tail) (moved_is s p len ds from to m near alive wanted (layout_there s p len ds from to may) uncopied),
          bytes_move s (moved s p to) law done.1 p len ds to (at_tail s law to is_room.next) done.3.cell done.3.cells done.3.header done.3.words done.3.tail done.3.tails (Some from.log) (Some (Near len ds from m)) near (λ l. refl),
        ));
      }

-- ---- an object that stays where it lies
module _ (s : State) (law : Law s) (p len ds : ℕ) (place : Place) (m : Marks) (near : read_of (s.cell p) ≡ Some (Near len ds place m)) (asked : m.moved ≡ true)
    (alive : m.dropped ≡ false) (unwanted : m.evac ≡ false) where
  here : IsPtr (Near len ds place m) × (word_of (Near len ds place m) ≡ s.cell p)
  here = read_says (s.cell p) (Near len ds place m) (law.cells.cell_read p).0 near

  bare : IsPtr (Near len ds place no_marks)
  bare = (omega (arith, here.0), omega (arith, here.0), omega (arith, here.0), omega (arith, here.0), omega (arith, here.0))

  unmark_legal : Legal s (Names p (s.cell p) (near_word m.dirty len ds place))
  unmark_legal = (
    law.cells.cell_range p (λ z. let none : 0 ≡ s.cell p = sym z in absurd (omega (arith, here.1))),
    (naming.Stays, (len, ds, place, m, near, alive, asked, unwanted, read_back (Near len ds place (unmarked m.dirty)) bare), tt),
  )

  pub stayed_brought : Brought s p (name_events s p m.dirty len ds place) (stayed s p)
  stayed_brought =
      let done = staying s p len ds place m law near asked alive unwanted in
      let is = done.2 in
      record {
        leads = subst (Leads s (name_events s p m.dirty len ds place)) (sym (ap (stayed_of s p) near))
            (leads_one s (Names p (s.cell p) (near_word m.dirty len ds place)) unmark_legal ((law.cells.cell_read p).0, word_fits (Near len ds place (unmarked m.dirty)) bare));
        len = len;
        ds = ds;
        place = place;
        dirty = is_dirty (read_of (s.cell p));
        still = refl;
        near = done.3.cell;
        long = ap named_len near;
        bytes = ((λ q. ap (λ (w : World). bytes_in_world (w.object q)) is), ap (λ (w : World). w.opened) is);
        held = (stayed_keeps s p (read_of (s.cell p))).held;
        stored = ap (λ (t : State). t.stored) (stayed_is s p len ds place m near alive asked unwanted bare);
        takes =
            let is = stayed_is s p len ds place m near alive asked unwanted bare in
            subst (λ o. BringTakes s o (stayed s p)) (sym near) (subst (λ b. MatchBool b (TakesSpan s len (Some place.log) false (stayed s p)) (TakesNone s (stayed s p))) (sym unwanted)
            (worded_takes s (stayed s p) (ap (λ (t : State). t.word) is) (ap (λ (t : State). t.tail) is) (ap (λ (t : State). t.kind) is)
            (names_one s (stayed s p) p done.3.cells (λ l at. ap (λ o. names_place o l at) done.3.cell ∙ sym (ap (λ o. names_place o l at) near)))));
      }

-- ---- an object that is fetched
-- the bytes of a far object, and of a near one
far_bytes : (s : State) (p len ds : ℕ) (m : Marks) → read_of (s.cell p) ≡ Some (Far len ds m) → m.dropped ≡ false → bytes_in_world ((world_of s).object p) ≡ Some (bytes_of (s.stored p) len)
unfolding world_of
far_bytes s p len ds m far alive = ap (λ o. bytes_in_world (object_of s.word (s.stored p) p o)) far ∙ rw alive refl

pub near_bytes : (s : State) (p len ds : ℕ) (place : Place) (m : Marks) → read_of (s.cell p) ≡ Some (Near len ds place m) → m.dropped ≡ false →
    bytes_in_world ((world_of s).object p) ≡ Some (bytes_of (data_at s.word place) len)
unfolding world_of
near_bytes s p len ds place m near alive = ap (λ o. bytes_in_world (object_of s.word (s.stored p) p o)) near ∙ rw alive refl

-- where one object alone is another, all bytes are the same if its are
bytes_but_one : (w v : World) (p : ℕ) (x : Object) → v.object ≡ put w.object p (Some x) → bytes_in_world (v.object p) ≡ bytes_in_world (w.object p) → (q : ℕ) → bytes_in_world (v.object q) ≡ bytes_in_world (w.object q)
bytes_but_one w v p x is same q = elim (cases_eq q p) [
  | inl e ↦ (ap (λ k. bytes_in_world (v.object k)) e ∙ same ∙ sym (ap (λ k. bytes_in_world (w.object k)) e))
  | inr ne ↦ (ap (λ (f : ℕ → Option Object). bytes_in_world (f q)) is ∙ ap bytes_in_world (put_other w.object p (Some x) q ne))
]

module _ (s : State) (law : Law s) (p len ds : ℕ) (m : Marks) (place : Place) (far : read_of (s.cell p) ≡ Some (Far len ds m)) (alive : m.dropped ≡ false)
    (found : room s (size_of len) true ≡ Some place) where
  lies : IsPtr (Far len ds m)
  lies = (read_says (s.cell p) (Far len ds m) (law.cells.cell_read p).0 far).0

  inside : p < CELLS * s.mutators
  inside = law.cells.cell_range p (λ z. let odd : Some Free ≡ Some (Far len ds m) = sym unused ∙ (ap read_of (sym z) ∙ far) in cc)

  fits_there : IsRoom s (size_of len) true place
  fits_there = let short : size_of len ≤ LOG_WORDS = omega (arith, lies) in subst (RoomIs s (size_of len) true) found (room_right s law (size_of len) true short)

  head_there : IsHead record { pointer = p; len = len; ds = ds }
  head_there = record { some = lies.0; most = lies.1; structure = lies.2; cell = omega (arith, inside, law.shape.few_mutators) }

  pub far_layout : IsPtr (Near len ds place no_marks)
  far_layout = (lies.0, lies.1, lies.2, omega (arith, fits_there.next.0, law.shape.few_logs), fits_there.fits)

  abbrev filled : State
  filled = with_written_span s p len ds place (s.stored p)

  filled_leads : Leads s (span_events p len ds place (s.stored p)) filled
  filled_leads = span_leads s law p len ds place (s.stored p) fits_there.next fits_there.fits head_there (λ k lt. (law.cells.cell_far p len ds m far k lt).0)

  fetch_legal : Legal filled (Names p (s.cell p) (near_word false len ds place))
  fetch_legal =
      let last : words_for len - 1 < words_for len = omega (arith, lies) in
      let may = may_come s p len ds place (s.stored p) inside (m, far, alive) lies.0 far_layout fits_there.next (law.cells.cell_far p len ds m far (words_for len - 1) last).1 (λ _ i lt. refl) (s.cell p) (law.cells.cell_read p).0 (finds_same (s.cell p)) (ap (λ o. stops o o) far ∙ ap (λ b. b || false) alive) in
      subst (λ (cell : ℕ → ℕ). Legal (record filled { cell = cell }) (Names p (s.cell p) (near_word false len ds place))) (put_old s.cell p (s.cell p) refl) may.0

  fetched_leads : Leads s (span_events p len ds place (s.stored p) ++ name_events s p false len ds place) (fetched s p place (s.stored p))
  fetched_leads = subst (Leads s (span_events p len ds place (s.stored p) ++ name_events s p false len ds place)) (sym (ap (fetched_of s p place (s.stored p)) far))
      (leads_append s filled (after filled (Names p (s.cell p) (near_word false len ds place))) (span_events p len ds place (s.stored p)) (name_events s p false len ds place) filled_leads
      (leads_one filled (Names p (s.cell p) (near_word false len ds place)) fetch_legal ((law.cells.cell_read p).0, word_fits (Near len ds place no_marks) far_layout)))

  pub fetched_brought : Brought s p (span_events p len ds place (s.stored p) ++ name_events s p false len ds place) (fetched s p place (s.stored p))
  fetched_brought =
      let done = fetching s p len ds m place (s.stored p) law far alive found (law.cells.cell_far p len ds m far) (λ _ i lt. refl) in
      let (o, bytes, was, home, long, small, same, is) = done.2.come in
      let t : State = fetched s p place (s.stored p) in
      let equal : bytes_in_world ((world_of t).object p) ≡ bytes_in_world ((world_of s).object p) =
      near_bytes t p len ds place no_marks done.3.cell refl ∙ ap Some (bytes_of-same (data_at t.word place) (s.stored p) len done.3.bytes) ∙ sym (far_bytes s p len ds m far alive) in
      record {
        leads = fetched_leads;
        len = len;
        ds = ds;
        place = place;
        dirty = false;
        still = sym (ap is_dirty far);
        near = done.3.cell;
        long = ap named_len far;
        bytes = (bytes_but_one (world_of s) (world_of t) p _ (ap (λ (w : World). w.object) is) equal, ap (λ (w : World). w.opened) is);
        held = (fetched_keeps s p place (s.stored p) (read_of (s.cell p))).held;
        stored = ap (λ (x : State). x.stored) (fetched_come s s p len ds place (s.stored p) m far alive far_layout);
        takes = subst (λ o. BringTakes s o t) (sym far) (
          place,
          found,
          ap (λ (x : State). x.tail) (fetched_come s s p len ds place (s.stored p) m far alive far_layout),
          bytes_move s t law done.1 p len ds place (at_tail s law place fits_there.next) done.3.cell done.3.cells done.3.header done.3.words done.3.tail done.3.tails None (Some (Far len ds m)) far (λ l. refl),
        );
      }

-- ---- either, where there is a place for it
-- what it says that may be brought: near it has MOVE; it isn't dropped
abbrev pub MayBring : Option PtrWord → Type 0
MayBring (Some (Near len ds place m)) = (m.moved ≡ true) × (m.dropped ≡ false)
MayBring (Some (Far len ds m)) = m.dropped ≡ false
MayBring _ = ⊥

near_brought : (s : State) (law : Law s) (p len ds : ℕ) (from place : Place) (m : Marks) (b : Bool) → read_of (s.cell p) ≡ Some (Near len ds from m) → m.moved ≡ true → m.dropped ≡ false → m.evac ≡ b →
    cond b (room s (size_of len) false) (Some from) ≡ Some place →
    Brought s p (if b then span_events p len ds place (data_at s.word from) ++ name_events s p m.dirty len ds place else name_events s p m.dirty len ds place) (cond b (moved s p place) (stayed s p))
near_brought s law p len ds from place m true near asked alive evac found = moved_brought s law p len ds from place m near asked alive evac found
near_brought s law p len ds from place m false near asked alive evac found =
    let same : from ≡ place = cc in
    subst (λ at. Brought s p (name_events s p m.dirty len ds at) (stayed s p)) same (stayed_brought s law p len ds from m near asked alive evac)

brought_of : (s : State) (law : Law s) (p : ℕ) (place : Place) (o : Option PtrWord) → read_of (s.cell p) ≡ o → MayBring o → comes_to_of s p o ≡ Some place →
    Brought s p (come_events_of s p (Some place) o) (come_of s p (Some place) o)
brought_of s law p place (Some (Near len ds from m)) e may found =
    let b : has_evac (read_of (s.cell p)) ≡ m.evac = ap has_evac e in
    let to : cond m.evac (room s (size_of len) false) (Some from) ≡ Some place = sym (ap (goal_of s) e) ∙ found in
    subst (Brought s p (come_events_of s p (Some place) (Some (Near len ds from m)))) (ap (λ x. cond x (moved s p place) (stayed s p)) (sym b))
    (near_brought s law p len ds from place m m.evac e may.0 may.1 refl to)
brought_of s law p place (Some (Far len ds m)) e may found =
    let to : room s (size_of len) true ≡ Some place = sym (ap (λ o. room s (size_of (far_len o)) true) e) ∙ found in
    fetched_brought s law p len ds m place e may to
brought_of s law p place _ e may found = absurd may

pub brought : (s : State) (law : Law s) (p : ℕ) (place : Place) → MayBring (read_of (s.cell p)) → comes_to s p ≡ Some place → Brought s p (come_events s p) (come s p)
brought s law p place may found = subst (λ x. Brought s p (come_events_of s p x (read_of (s.cell p))) (come_of s p x (read_of (s.cell p)))) (sym found)
    (brought_of s law p place (read_of (s.cell p)) refl may found)
