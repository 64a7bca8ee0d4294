-- A book stays in order where an object moves to another log, or stays where it lies.
use Rattle.std.proofs.Common.{◌≡◌, ℕ, ◌*◌, ◌^◌, ◌<◌, ◌≤◌, Bool, true, false, cond, arith, sym, refl, ap, subst, ◌∙◌, Option, Some, List, [], ◌∷◌, ◌++◌, length, inl, inr}
use Rattle.std.specs.Prelude.{◌==◌, bit_or}
use Rattle.std.specs.Vec.{vec_len}
use Rattle.std.proofs.lemmas.Bool.{cases_eq}
use Rattle.far_word.specs.declared.mark.Mark.TheVariants.{Dropped}
use Rattle.far_word.specs.declared.mark.Marks.{Marks}
use Rattle.far_word.specs.declared.pointer.Place.{Place}
use Rattle.far_word.specs.declared.pointer.PtrWord.TheVariants.{Near}
use Rattle.far_word.specs.declared.sizes.TheConstants.{CELLS, LOG_WORDS, MOST_LOGS}
use Rattle.far_word.specs.Mark.{marks_with, position}
use Rattle.far_word.specs.Pointer.{IsPtr, read_of}
use Rattle.far_word.specs.Sizes.{size_of}
use Rattle.far_word.proofs.PointerLaws.{read_back, read_says, with_mark_fits, with_mark_read, word_fits}
use Rattle.far_events.specs.declared.event.Event.TheVariants as events
use Rattle.far_events.specs.declared.naming.Naming.TheVariants.{Stays}
use Rattle.far_events.specs.events.Copies.{data_at}
use Rattle.far_events.specs.events.Legal.{Legal}
use Rattle.far_events.specs.events.Naming.{is_dropped, no_marks, unmarked}
use Rattle.far_events.specs.events.NewSpans.{with_span}
use Rattle.far_core.specs.laws.Rooms.{IsRoom, RoomIs}
use Rattle.far_events.specs.state.Law.{Law}
use Rattle.far_core.specs.state.Room.{room}
use Rattle.far_events.specs.state.State.{State, put}
use Rattle.far_events.proofs.Cells.{map_mark}
use Rattle.far_core.proofs.Owing.{keeps}
use Rattle.far_events.proofs.Put.{put_same}
use Rattle.far_core.proofs.RoomLaws.{room_right}
use Rattle.far_book.specs.declared.ledger.Filled.{Filled}
use Rattle.far_book.specs.declared.ledger.Ledger.{Ledger}
use Rattle.far_hand.specs.Finds.{Finds, body_of, marks_in}
use Rattle.far_hand.specs.Quiet.{is_quiet}
use Rattle.far_book.specs.book.Dealing.{FindsDrop, Leaves, MovedBy, has_evac}
use Rattle.far_book.specs.book.Effects.{moved, near_word, order_after, stayed, with_free_cell, with_written_span}
use Rattle.far_book.specs.book.FarSide.{InOrder, kept_len}
use Rattle.far_book.specs.book.Ledger.{Notes, MayTakeAgain, MayRetire, TakesAgain, Loses, filled_of}
use Rattle.far_book.specs.book.NumberSet.{has}
use Rattle.far_book.specs.book.Moving.{MayCopy, MayStay}
use Rattle.far_book.specs.book.Own.{own_part}
use Rattle.far_book.specs.book.Placeable.{Placeable, with_object}
use Rattle.far_book.specs.book.Renaming.{seen}
use Rattle.far_hand.proofs.Finding.{IsNearTo, finds_mark, near_found}
use Rattle.far_book.proofs.region.Calls.{free_unplaced, put_put}
use Rattle.far_book.proofs.region.FarHeld.{still_named}
use Rattle.far_book.proofs.region.Founds.{near_used, notes_found, notes_seen}
use Rattle.far_book.proofs.region.InOrders.{found_keeps, headers_keep}
use Rattle.far_book.proofs.region.Leaving.{loses_live, loses_log, loses_size}
use Rattle.far_book.proofs.region.Moved.{drop_of, evac_of, is_stayed, layout_here, moved_is, named_stays, no_copy}
use Rattle.far_book.proofs.region.NotesKept.{current_taken, notes_carried, order_short}
use Rattle.far_book.proofs.region.Notings.{live_small}
use Rattle.far_book.proofs.region.Owns.{own_bare, own_headers, own_written}
use Rattle.far_book.proofs.region.Places.{at_end, law_then}
use Rattle.far_book.proofs.region.Retires as retires

-- a word with DROP was found
pub drop_keeps : (s u : State) (ledger : Ledger) (held : ℕ → Option (List ℕ)) (is_honest : Bool) → InOrder s ledger held is_honest → (p : ℕ) → FindsDrop s u p → InOrder u ledger held is_honest
drop_keeps s u ledger held is_honest h p x =
    headers_keep (seen s p (u.cell p)) ledger held is_honest (found_keeps s ledger held is_honest h p (u.cell p) x.fits x.found) u x.leaves.is x.leaves.headers

-- p's object lies near, in a book that is in order
pub record LiesIn (s : State) (ledger : Ledger) (held : ℕ → Option (List ℕ)) (is_honest : Bool) (p len ds : ℕ) (from : Place) (m : Marks) : Type 0 where
  pub order : InOrder s ledger held is_honest
  pub pointer : p < CELLS * s.mutators
  pub near : read_of (s.cell p) ≡ Some (Near len ds from m)

module _ {s : State} {ledger : Ledger} {held : ℕ → Option (List ℕ)} {is_honest : Bool} {p len ds : ℕ} {from : Place} {m : Marks} (x : LiesIn s ledger held is_honest p len ds from m) where
  fits : s.cell p < 2 ^ 64
  fits = (x.order.notes.law.cells.cell_read p).0

  layout : IsPtr (Near len ds from m)
  layout = (read_says (s.cell p) (Near len ds from m) fits x.near).0

  -- ---- the object leaves its span, as if it had been dropped
  abbrev marked : ℕ
  marked = bit_or (s.cell p) (2 ^ position Dropped)

  marked_read : read_of marked ≡ Some (Near len ds from (marks_with Dropped m))
  marked_read = with_mark_read Dropped (s.cell p) (Near len ds from m) fits x.near refl

  marked_fits : marked < 2 ^ 64
  marked_fits = with_mark_fits Dropped (s.cell p) (Near len ds from m) fits x.near refl

  marked_finds : Finds (s.cell p) marked
  marked_finds = finds_mark Dropped (s.cell p) marked refl (marked_read ∙ sym (ap (map_mark Dropped) x.near))

  cell_marked : read_of (put s.cell p marked p) ≡ Some (Near len ds from (marks_with Dropped m))
  cell_marked = ap read_of (put_same s.cell p marked p refl) ∙ marked_read

  abbrev pub dropped : State
  dropped = seen s p marked

  abbrev pub freed : State
  freed = with_free_cell dropped p

  pub notes_dropped : Notes (own_part dropped) ledger
  notes_dropped = notes_found s x.order.notes.law p marked marked_fits marked_finds ledger x.order.notes

  pub may_leave : MayRetire (own_part dropped) p (Near len ds from m)
  may_leave = record { pointer = x.pointer; dropped = ap is_dropped cell_marked; is = sym (ap body_of cell_marked) }

  law_freed : Law (own_part freed)
  law_freed = retires.law_freed (own_part dropped) notes_dropped.law p x.pointer may_leave.dropped

  pub may_lose : (from.log < vec_len ledger.filled) × (8 * size_of len ≤ (filled_of ledger from.log).live) × (size_of len ≤ LOG_WORDS)
  may_lose = (
    loses_log (own_part dropped) ledger notes_dropped p len ds from m may_leave,
    loses_live (own_part dropped) ledger notes_dropped p len ds from m may_leave,
    loses_size (own_part dropped) ledger notes_dropped p len ds from m may_leave,
  )

  -- ---- it takes another
  module _ (to : Place) (found : room s (size_of len) false ≡ Some to) where
    is_room : IsRoom (own_part s) (size_of len) false to
    is_room = subst (RoomIs (own_part s) (size_of len) false) found (room_right (own_part s) x.order.notes.law (size_of len) false (omega (arith, layout)))

    pub may_copy : is_quiet s.round s.clear p from m ≡ true → MayCopy s p len ds from to
    may_copy quiet = record { law = x.order.notes.law; pointer = x.pointer; marks = m; near = x.near; quiet = quiet; next = is_room.next; fits = is_room.fits }

    able : Placeable (own_part freed) p len ds to
    able = record {
      pointer = x.pointer;
      unplaced = free_unplaced freed p (put_same (put s.cell p marked) p 0 p refl);
      layout = (layout.0, layout.1, layout.2, omega (arith, is_room.next.0, x.order.notes.law.shape.few_logs), is_room.fits);
      next = is_room.next;
      bare = own_bare freed;
    }

    ends : s.tail to.log ≡ to.at
    ends = sym (at_end (own_part freed) law_freed p len ds to able)

    -- the old span is dead, and a new one is taken
    module _ (mid : Ledger) (loses : Loses ledger mid from.log (size_of len)) where
      less : (l : ℕ) → ((filled_of mid l).tail ≡ (filled_of ledger l).tail) × ((filled_of mid l).live ≤ (filled_of ledger l).live)
      less l = elim (cases_eq l from.log) [
        | inl same ↦ subst (λ k. ((filled_of mid k).tail ≡ (filled_of ledger k).tail) × ((filled_of mid k).live ≤ (filled_of ledger k).live)) (sym same) (loses.tail, omega (arith, loses.here))
        | inr ne ↦ (let same = loses.there l ne in (ap (λ (f : Filled). f.tail) same, omega (arith, ap (λ (f : Filled). f.live) same)))
      ]

      pub may_take_again : MayTakeAgain mid (size_of len) to
      may_take_again =
          let here = less to.log in
          record {
            few = omega (arith, is_room.next.0, x.order.notes.law.shape.few_logs);
            log = omega (arith, loses.logs, is_room.next.0, x.order.notes.logs);
            tail = omega (arith, here.0, x.order.notes.tails to.log is_room.next.0, ends, is_room.fits);
            live = omega (arith, here.0, here.1, live_small (own_part s) ledger to.log (x.order.notes, is_room.next.0));
            order = λ _. subst (λ (n : Ledger). length n.order < MOST_LOGS) (sym loses.rest) (order_short (own_part s) ledger x.order.notes);
            taken = subst (λ (n : Ledger). has n.free_logs n.current ≡ false) (sym loses.rest) (current_taken (own_part s) ledger x.order.notes);
          }

      module _ (after : Ledger) (fills : TakesAgain mid after (size_of len) to) where
        pub order_carried : after.order ≡ order_after s ledger.order to
        order_carried = fills.order ∙ ap (λ (n : Ledger). cond (to.log == n.current) n.order (n.order ++ n.current ∷ [])) loses.rest
            ∙ ap (λ k. order_after (record s { current = k }) ledger.order to) x.order.notes.current

        module _ (u : State) (alive : m.dropped ≡ false) (wanted : m.evac ≡ true) (leaves : Leaves (moved s p to) u) where
          abbrev new : ℕ
          new = near_word m.dirty len ds to

          same_cells : put s.cell p new ≡ put freed.cell p new
          same_cells = sym (ap (λ f. put f p new) (put_put s.cell p marked 0) ∙ put_put s.cell p 0 new)

          now : moved s p to ≡ with_span (with_written_span s p len ds to (data_at s.word from)) p new len to
          now = moved_is s p len ds from to m x.near alive wanted able.layout (no_copy s x.order.notes.law p from to is_room.next (omega (arith, is_room.fits)))

          own_moved : own_part u ≡ with_object (own_part freed) m.dirty p len ds to
          own_moved = own_headers (moved s p to) u leaves.0 (λ a begun. leaves.1.headers a (ap (λ (v : State). v.starts a) leaves.0 ∙ begun))
              ∙ ap own_part now ∙ (λ i. record (own_part (with_span (with_written_span s p len ds to (data_at s.word from)) p new len to)) { cell = same_cells i })
              ∙ own_written freed law_freed p len ds to able m.dirty (data_at s.word from)

          leads : u ≡ record (with_span (with_written_span s p len ds to (data_at s.word from)) p new len to) { word = u.word }
          leads = leaves.0 ∙ ap (λ (v : State). record v { word = u.word }) now

          pub carried : InOrder u after held is_honest
          carried = record {
            notes = subst (λ (v : State). Notes v after) (sym own_moved) (notes_carried (own_part dropped) ledger mid after notes_dropped p len ds from (marks_with Dropped m) cell_marked law_freed to able m.dirty
                (law_then (own_part freed) law_freed p len ds to able refl refl m.dirty ((x.order.notes.law.cleans p).back len ds from m x.near)) loses fills);
            far = still_named s u held held x.order.far p new (ap (λ (v : State). v.honest) leads) (ap (λ (v : State). v.cell) leads) (λ q _. ap (λ (v : State). v.stored q) leads) (λ q _. refl)
                (ap kept_len (read_back (Near len ds to (unmarked m.dirty)) able.layout) ∙ sym (ap kept_len x.near)) refl (ap (λ (v : State). v.stored p) leads);
            honest = λ e. x.order.honest (ap (λ (v : State). v.honest) (sym leads) ∙ e);
          }

  -- ---- it stays
  module _ (u : State) (alive : is_dropped (read_of (s.cell p)) ≡ false) (may : MayStay s p len ds from) (leaves : Leaves (stayed s p) u) where
    bare_layout : IsPtr (Near len ds from no_marks)
    bare_layout = layout_here s p len ds from may fits alive

    abbrev bare : ℕ
    bare = near_word may.marks.dirty len ds from

    bare_read : read_of bare ≡ Some (Near len ds from (unmarked may.marks.dirty))
    bare_read = read_back (Near len ds from (unmarked may.marks.dirty)) bare_layout

    is_bare : stayed s p ≡ seen s p bare
    is_bare = is_stayed s p len ds from may fits alive

    legal : Legal (own_part s) (events.Name p (s.cell p) bare)
    legal = (x.pointer, (Stays, (len, ds, from, may.marks, may.near, sym (ap is_dropped may.near) ∙ alive, may.moved, may.unwanted, bare_read), tt))

    law_bare : Law (own_part (seen s p bare))
    law_bare = subst Law (named_stays (own_part s) p (s.cell p) len ds from may.marks refl may.near (sym (ap is_dropped may.near) ∙ alive) bare_layout may.moved may.unwanted)
        (keeps (own_part s) (events.Name p (s.cell p) bare) x.order.notes.law (fits, word_fits (Near len ds from (unmarked may.marks.dirty)) bare_layout) legal)

    leads_bare : u ≡ record (seen s p bare) { word = u.word }
    leads_bare = leaves.0 ∙ ap (λ (v : State). record v { word = u.word }) is_bare

    own_stayed : own_part u ≡ own_part (seen s p bare)
    own_stayed = own_headers (stayed s p) u leaves.0 (λ a begun. leaves.1.headers a (ap (λ (v : State). v.starts a) leaves.0 ∙ begun)) ∙ ap own_part is_bare

    pub kept : InOrder u ledger held is_honest
    kept = record {
      notes = subst (λ (v : State). Notes v ledger) (sym own_stayed)
          (notes_seen s p bare (λ l at. rw (bare_read, x.near) refl) (near_used bare len ds from (unmarked may.marks.dirty) bare_read ∙ sym (near_used (s.cell p) len ds from m x.near)) ledger law_bare x.order.notes);
      far = still_named s u held held x.order.far p bare (ap (λ (v : State). v.honest) leads_bare) (ap (λ (v : State). v.cell) leads_bare) (λ q _. ap (λ (v : State). v.stored q) leads_bare) (λ q _. refl)
          (ap kept_len bare_read ∙ sym (ap kept_len may.near)) refl (ap (λ (v : State). v.stored p) leads_bare);
      honest = λ e. x.order.honest (ap (λ (v : State). v.honest) (sym leads_bare) ∙ e);
    }

-- ---- by a word that was found meanwhile
module _ {s : State} {ledger : Ledger} {held : ℕ → Option (List ℕ)} {is_honest : Bool} {p len ds : ℕ} {from : Place} {m : Marks} (x : LiesIn s ledger held is_honest p len ds from m) (u : State) (to : Place) (by : MovedBy s u p to) where
  abbrev then : State
  then = seen s p by.word

  abbrev y : IsNearTo (read_of by.word) len ds from m.evac
  y = near_found (s.cell p) by.word by.found len ds from m x.near

  says : read_of (then.cell p) ≡ Some (Near len ds from y.marks)
  says = ap read_of (put_same s.cell p by.word p refl) ∙ y.near

  abbrev lies : LiesIn then ledger held is_honest p len ds from y.marks
  lies = record { order = found_keeps s ledger held is_honest x.order p by.word by.fits by.found; pointer = x.pointer; near = says }

  alive : y.marks.dropped ≡ false
  alive = drop_of (read_of by.word) len ds from y.marks y.near by.alive

  leaves_as : (b : Bool) → m.evac ≡ b → Leaves (cond b (moved then p to) (stayed then p)) u
  leaves_as b is = subst (λ (v : State). Leaves v u) (ap (λ c. cond c (moved then p to) (stayed then p)) (ap has_evac says ∙ y.same ∙ is)) by.leaves

  pub carried_by : (found : room s (size_of len) false ≡ Some to) → m.evac ≡ true → (mid : Ledger) → Loses ledger mid from.log (size_of len) → (after : Ledger) → TakesAgain mid after (size_of len) to → InOrder u after held is_honest
  carried_by found wanted mid loses after fills = carried lies to found mid loses after fills u alive (y.same ∙ wanted) (leaves_as true wanted)

  pub kept_by : MayStay s p len ds from → InOrder u ledger held is_honest
  kept_by may =
      let unwanted : m.evac ≡ false = evac_of (read_of (s.cell p)) false len ds from m x.near (ap has_evac may.near ∙ may.unwanted) in
      kept lies u (ap is_dropped (put_same_read) ∙ by.alive) (record {
        pointer = x.pointer;
        marks = y.marks;
        near = says;
        moved = sym (ap (λ o. (marks_in o).moved) y.near) ∙ by.found.moved (ap (λ o. (marks_in o).moved) may.near ∙ may.moved);
        unwanted = y.same ∙ unwanted;
      }) (leaves_as false unwanted) where
        put_same_read : read_of (then.cell p) ≡ read_of by.word
        put_same_read = ap read_of (put_same s.cell p by.word p refl)
