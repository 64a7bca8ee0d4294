-- The book's effects leave the sealed logs.
use Rattle.std.proofs.Common.{◌≡◌, ◌≢◌, ℕ, ◌+◌, ◌*◌, ◌<◌, ◌≤◌, Bool, true, false, Some, arith, ap, sym, refl, ◌∙◌, subst}
use Rattle.far_word.specs.declared.mark.Marks.{Marks}
use Rattle.far_word.specs.declared.pointer.Place.{Place}
use Rattle.far_word.specs.declared.pointer.PtrWord.TheVariants.{Near, Far}
use Rattle.far_word.specs.declared.sizes.TheConstants.{LONGEST, LOG_WORDS}
use Rattle.far_word.specs.Pointer.{IsPtr, read_of}
use Rattle.far_word.specs.Sizes.{size_of}
use Rattle.far_word.proofs.PointerLaws.{read_back, read_says}
use Rattle.far_events.specs.declared.event.Kind.{Kind}
use Rattle.far_events.specs.declared.event.Kind.TheVariants as kinds
use Rattle.far_events.specs.events.Naming.{no_marks, unmarked}
use Rattle.far_events.specs.events.NewSpans.{IsNext, with_span}
use Rattle.far_events.specs.state.Law.{Law}
use Rattle.far_core.specs.state.Room.{room}
use Rattle.far_events.specs.state.State.{State, addr, put}
use Rattle.far_events.proofs.Copied.{NoCopy}
use Rattle.far_events.proofs.Put.{put_both, put_other}
use Rattle.far_core.specs.laws.Rooms.{IsRoom, RoomIs}
use Rattle.far_core.proofs.RoomLaws.{room_right}
use Rattle.far_book.specs.book.Effects.{far_word, near_word, with_blank_span, with_free_cell}
use Rattle.far_book.specs.book.Own.{own_part}
use Rattle.far_book.specs.book.SealedLogs.{KeepsSealed, SealedLogsStay}
use Rattle.far_book.proofs.region.Evictions.{evicted_is, far_says}
use Rattle.far_book.proofs.region.Fetched.{fetched_come}
use Rattle.far_book.proofs.region.Moved.{moved_is, no_copy, stayed_is}
use Rattle.far_book.proofs.region.Places.{named_is, next_unsealed}

module _ (s : State) (p : ℕ) where
  -- a cell that says a place in no sealed log, or the place that it said before, with the same EVAC
  abbrev Elsewhere : ℕ → Type 0
  Elsewhere new = (len ds : ℕ) (place : Place) (marks : Marks) → read_of new ≡ Some (Near len ds place marks) → s.kind place.log ≡ kinds.Sealed →
      (old : Marks) × (read_of (s.cell p) ≡ Some (Near len ds place old)) × (marks.evac ≡ old.evac)

  near_kept : (new : ℕ) → Elsewhere new → (q len ds : ℕ) (place : Place) (marks : Marks) → read_of (put s.cell p new q) ≡ Some (Near len ds place marks) → s.kind place.log ≡ kinds.Sealed →
      (old : Marks) × (read_of (s.cell q) ≡ Some (Near len ds place old)) × (marks.evac ≡ old.evac)
  near_kept new away q len ds place marks =
      put_both (λ w. read_of w ≡ Some (Near len ds place marks) → s.kind place.log ≡ kinds.Sealed → (old : Marks) × (read_of (s.cell q) ≡ Some (Near len ds place old)) × (marks.evac ≡ old.evac)) s.cell p new q
      (λ here near is_sealed. subst (λ x. (old : Marks) × (read_of (s.cell x) ≡ Some (Near len ds place old)) × (marks.evac ≡ old.evac)) (sym here) (away len ds place marks near is_sealed))
      (λ _ near _. (marks, near, refl))

  -- one cell changes
  pub one_cell : (new : ℕ) (stored : ℕ → ℕ → ℕ) → Elsewhere new → KeepsSealed s (record s { cell = put s.cell p new; stored = stored })
  one_cell new stored away = record {
    kind = λ l h. h;
    tail = λ l h. refl;
    starts = λ l at h lt. refl;
    near = near_kept new away;
    round = refl;
    clear = refl;
    epoch = refl;
    mutators = refl;
  }

  nowhere : (new : ℕ) → ((len ds : ℕ) (place : Place) (marks : Marks) → read_of new ≡ Some (Near len ds place marks) → ⊥) → Elsewhere new
  nowhere new none len ds place marks near is_sealed = absurd (none len ds place marks near)

  free_place : (len ds : ℕ) (place : Place) (marks : Marks) → read_of 0 ≡ Some (Near len ds place marks) → ⊥
  unfolding read_of
  free_place len ds place marks e = absurd cc

  ended : KeepsSealed s (with_free_cell s p)
  ended = one_cell 0 s.stored (nowhere 0 free_place)

  -- ---- a span is taken that isn't in a sealed log
  module _ (dirty : Bool) (len ds : ℕ) (to : Place) (law : Law (own_part s)) (layout : IsPtr (Near len ds to no_marks)) (next : IsNext s to) (fits : to.at < LOG_WORDS) where
    near_says : read_of (near_word dirty len ds to) ≡ Some (Near len ds to (unmarked dirty))
    near_says = read_back (Near len ds to (unmarked dirty)) layout

    unsealed : s.kind to.log ≢ kinds.Sealed
    unsealed = next_unsealed s to next

    elsewhere : Elsewhere (near_word dirty len ds to)
    elsewhere n d place marks near is_sealed =
        let same : Some (Near len ds to (unmarked dirty)) ≡ Some (Near n d place marks) = sym near_says ∙ near in
        let places : to ≡ place = cc in
        absurd (unsealed (ap (λ (x : Place). s.kind x.log) places ∙ is_sealed))

    open_unsealed : (kind : Kind) → kind ≡ kinds.Open → kind ≢ kinds.Sealed
    open_unsealed kind is_open is_sealed = absurd cc

    pub taken_kept : (word : ℕ → ℕ) → KeepsSealed s (with_span (record s { word = word }) p (near_word dirty len ds to) len to)
    taken_kept word = record {
      kind = λ l is_sealed.
          put_other (put s.kind s.current kinds.Sealed) to.log kinds.Open l (λ e. unsealed (ap s.kind (sym e) ∙ is_sealed))
          ∙ put_other s.kind s.current kinds.Sealed l (λ e. open_unsealed (s.kind s.current) law.logs.is_open (ap s.kind (sym e) ∙ is_sealed)) ∙ is_sealed;
      tail = λ l is_sealed. put_other s.tail to.log (to.at + size_of len) l (λ e. unsealed (ap s.kind (sym e) ∙ is_sealed));
      starts = λ l at is_sealed lt. put_other s.starts (addr to) true (l * LOG_WORDS + at)
          (λ e. let short = law.logs.tail_end l in let same : l ≡ to.log = omega (arith, e, lt, short, fits) in unsealed (ap s.kind (sym same) ∙ is_sealed));
      near = near_kept (near_word dirty len ds to) elsewhere;
      round = refl;
      clear = refl;
      epoch = refl;
      mutators = refl;
    }

module _ (s : State) (p len ds : ℕ) (law : Law (own_part s)) where
  module _ (reserve : Bool) (place : Place) (some : 0 < len) (most : len ≤ LONGEST) (structure : ds < 256) (found : room s (size_of len) reserve ≡ Some place) where
    is_room : IsRoom (own_part s) (size_of len) reserve place
    is_room = subst (RoomIs (own_part s) (size_of len) reserve) found (room_right (own_part s) law (size_of len) reserve (omega arith))

    layout_there : IsPtr (Near len ds place no_marks)
    layout_there = (some, most, structure, omega (arith, is_room.next.0, law.shape.few_logs), is_room.fits)

    uncopied : (from : Place) → NoCopy s.copying p from place
    uncopied from = no_copy s law p from place is_room.next (omega (arith, is_room.fits))

    taken : (dirty : Bool) (word : ℕ → ℕ) → KeepsSealed s (with_span (record s { word = word }) p (near_word dirty len ds place) len place)
    taken dirty word = taken_kept s p dirty len ds place law layout_there is_room.next (omega (arith, is_room.fits)) word

  pub sealed_logs_stay : SealedLogsStay s p len ds
  sealed_logs_stay = record {
    places = λ place free range some most structure found.
        subst (KeepsSealed s) (sym (named_is (with_blank_span s p len ds place) p len ds place free (layout_there true place some most structure found))) (taken true place some most structure found true _);
    moves = λ from to marks near evac alive found.
        let layout = (read_says (s.cell p) (Near len ds from marks) (law.cells.cell_read p).0 near).0 in
        subst (KeepsSealed s) (sym (moved_is s p len ds from to marks near alive evac (layout_there false to layout.0 layout.1 layout.2 found) (uncopied false to layout.0 layout.1 layout.2 found from))) (taken false to layout.0 layout.1 layout.2 found marks.dirty _);
    stays = λ place marks near unwanted asked alive.
        let layout = (read_says (s.cell p) (Near len ds place marks) (law.cells.cell_read p).0 near).0 in
        let bare : IsPtr (Near len ds place no_marks) = (layout.0, layout.1, layout.2, layout.3, layout.4) in
        let says = read_back (Near len ds place (unmarked marks.dirty)) bare in
        subst (KeepsSealed s) (sym (stayed_is s p len ds place marks near alive asked unwanted bare))
        (one_cell s p (near_word marks.dirty len ds place) s.stored (λ n d at k e is_sealed.
        let same : Some (Near len ds place (unmarked marks.dirty)) ≡ Some (Near n d at k) = sym says ∙ e in
        let lens : len ≡ n = cc in
        let structures : ds ≡ d = cc in
        let places : place ≡ at = cc in
        let evacs : k ≡ unmarked marks.dirty = cc in
        (marks, near ∙ (λ i. Some (Near (lens i) (structures i) (places i) marks)), ap (λ (x : Marks). x.evac) evacs ∙ sym unwanted)));
    goes = λ from marks near evac alive.
        let layout = (read_says (s.cell p) (Near len ds from marks) (law.cells.cell_read p).0 near).0 in
        let away : IsPtr (Far len ds no_marks) = (layout.0, layout.1, layout.2, refl, refl) in
        subst (KeepsSealed s) (sym (evicted_is s p len ds from away marks near alive evac))
        (one_cell s p (far_word len ds) _ (nowhere s p (far_word len ds) (λ n d place k e.
        let odd : Some (Far len ds no_marks) ≡ Some (Near n d place k) = sym (far_says len ds away) ∙ e in absurd cc)));
    comes = λ place marks row far alive found.
        let layout = (read_says (s.cell p) (Far len ds marks) (law.cells.cell_read p).0 far).0 in
        subst (KeepsSealed s) (sym (fetched_come s s p len ds place row marks far alive (layout_there true place layout.0 layout.1 layout.2 found))) (taken true place layout.0 layout.1 layout.2 found false _);
    ends = ended s p;
  }

pub sealed_logs_kept : (s : State) (p len ds : ℕ) → Law (own_part s) → SealedLogsStay s p len ds
sealed_logs_kept s p len ds law = sealed_logs_stay s p len ds law
