-- What dealing with an object leaves where copies may be offered: the sealed logs, and all other objects.
use Rattle.std.proofs.Common.{◌≡◌, ◌≢◌, ℕ, ◌+◌, ◌*◌, ◌<◌, Bool, true, false, cond, ◌&&◌, ◌==◌, Option, Some, None, filter, inl, inr, arith, ap, sym, refl, ◌∙◌, subst}
use Rattle.std.proofs.lemmas.Bool.{cases_eq, false_from_ne_true, ne_eqb, true≢false}
use mathlib.Core.Path.{fun_ext}
use Rattle.far_word.specs.declared.mark.Marks.{Marks}
use Rattle.far_word.specs.declared.pointer.Place.{Place}
use Rattle.far_word.specs.declared.pointer.PtrWord.{PtrWord}
use Rattle.far_word.specs.declared.pointer.PtrWord.TheVariants.{Free, Near, Far}
use Rattle.far_word.specs.declared.sizes.TheConstants.{LOG_WORDS}
use Rattle.far_word.specs.Header.{head_word}
use Rattle.far_word.specs.Pointer.{IsPtr, read_of}
use Rattle.far_word.specs.Sizes.{size_of, words_for}
use Rattle.far_word.proofs.PointerLaws.{read_says}
use Rattle.far_log.specs.declared.span.Span.{Span}
use Rattle.far_log.specs.Spans.{spans_in}
use Rattle.far_events.specs.declared.event.Kind.{Kind}
use Rattle.far_events.specs.declared.event.Kind.TheVariants as kinds
use Rattle.far_events.specs.events.Copies.{data_at}
use Rattle.far_events.specs.events.Naming.{no_marks}
use Rattle.far_events.specs.events.NewSpans.{with_span}
use Rattle.far_events.specs.events.Ranges.{with_row}
use Rattle.far_events.specs.events.Quiet.{IsClearNear}
use Rattle.far_core.specs.laws.Rooms.{IsRoom, RoomIs}
use Rattle.far_events.specs.state.Law.{Law}
use Rattle.far_core.specs.state.Room.{room}
use Rattle.far_events.specs.state.Spans.{is_live, names_place, spans_of, word_in}
use Rattle.far_events.specs.state.State.{State, addr, put}
use Rattle.far_events.proofs.Put.{put_other}
use Rattle.far_core.proofs.RoomLaws.{room_right}
use Rattle.far_hand.specs.Finds.{Finds}
use Rattle.far_hand.specs.Quiet.{IsQuietNear}
use Rattle.far_hand.proofs.Finding.{IsNearTo, near_known}
use Rattle.far_book.specs.book.Dealing.{has_evac}
use Rattle.far_book.specs.book.Effects.{moved, near_word, with_written_span}
use Rattle.far_book.specs.book.NextLive.{IsBoundary, live_from}
use Rattle.far_book.specs.book.Offering.{offered}
use Rattle.far_book.specs.book.Own.{own_part}
use Rattle.far_book.specs.book.SealedLogs.{KeepsSealed}
use Rattle.far_book.proofs.region.Evictions.{evicted_is}
use Rattle.far_book.proofs.region.Moved.{moved_is, no_copy_in_room}
use Rattle.far_book.proofs.region.Places.{next_unsealed}
use Rattle.far_book.proofs.region.Written.{row_other}
use Rattle.far_evac.specs.AnyHand.{Knows}
use Rattle.far_evac.specs.Beside.{Dealing, DealsBeside, Leaves, Offers, dealing_of, dealt_by, hot_dealing, lowest_empty}
use Rattle.far_evac.specs.BookStands.{KeepsChosen, core_beside}
use Rattle.far_evac.specs.Leaving.{core_by}
use Rattle.far_evac.specs.Live.{live_in, pointers_of}
use Rattle.far_evac.specs.Walk.{Walked, Way, Drops, Goes, Moves, hot_way, way_of}
use Rattle.far_evac.proofs.BesideDealt.{evac_clear, offer_made, offered_is, quiet_clear}
use Rattle.far_evac.proofs.BesideLater.{from_dealt, in_front}
use Rattle.far_evac.proofs.Framed.{ChangesOne, so_one}
use Rattle.far_evac.proofs.LiveLists.{knows_live, same_spans}
use Rattle.far_evac.proofs.LiveOnce.{near_at}
use Rattle.far_evac.proofs.Passing.{boundary_known, from_known}
use Rattle.far_evac.proofs.SendingOff.{alive_before, found, sealed_kept, wanted}
use Rattle.far_evac.proofs.Tours.{goes_when, moves_when}
use Rattle.far_evac.proofs.WalkingOn.{names_own, so_by}

-- ---- how it is dealt with
leaves_when : (dropped hot : Bool) (j : Option ℕ) (to : Option Place) (way : Way) → cond dropped (Leaves Drops) (cond hot (hot_dealing j to) (Leaves Goes)) ≡ Leaves way → cond dropped Drops (cond hot (hot_way to) Goes) ≡ way
leaves_when true hot j to way e = cc
leaves_when false true (Some j) (Some to) way e = absurd cc
leaves_when false true None (Some to) way e = cc
leaves_when false true None None way e = cc
leaves_when false true (Some j) None way e = cc
leaves_when false false j to way e = cc

pub leaves_way : (s : State) (o : Option PtrWord) (way : Way) → dealing_of s o ≡ Leaves way → way_of s o ≡ way
leaves_way s None way e = cc
leaves_way s (Some Free) way e = cc
leaves_way s (Some (Near len ds place m)) way e = leaves_when m.dropped m.hot (lowest_empty s) (room s (size_of len) false) way e
leaves_way s (Some (Far len ds m)) way e = cc

-- an offer has room
offers_when : (dropped hot : Bool) (j : Option ℕ) (to : Option Place) (k : ℕ) (place : Place) → cond dropped (Leaves Drops) (cond hot (hot_dealing j to) (Leaves Goes)) ≡ Offers k place → to ≡ Some place
offers_when true hot j to k place e = absurd cc
offers_when false true (Some j) (Some to) k place e = cc
offers_when false true None (Some to) k place e = absurd cc
offers_when false true None None k place e = absurd cc
offers_when false true (Some j) None k place e = absurd cc
offers_when false false j to k place e = absurd cc

-- ---- what it leaves: made is the core then
pub record LeavesRest (s made : State) (p : ℕ) : Type 0 where
  pub sealed : KeepsSealed s made
  pub spans : (k : ℕ) → s.kind k ≡ kinds.Sealed → spans_of made k ≡ spans_of s k
  pub cells : (q : ℕ) → q ≢ p → made.cell q ≡ s.cell q

pub spans_kept : (s t : State) (k : ℕ) → ((i : ℕ) → i < s.tail k → t.word (k * LOG_WORDS + i) ≡ s.word (k * LOG_WORDS + i)) → t.tail k ≡ s.tail k → spans_of t k ≡ spans_of s k
unfolding spans_of spans_in
spans_kept s t k words tail = ap (λ n. spans_in (word_in t k) n) tail ∙ same_spans (word_in s k) (word_in t k) (s.tail k) 0 (s.tail k) words

open_unsealed : (kind : Kind) → kind ≡ kinds.Open → kind ≢ kinds.Sealed
open_unsealed kind is_open is_sealed = absurd cc

module _ (s : State) (p : ℕ) (q : IsQuietNear s p) (law : Law (own_part s)) (evac : has_evac (read_of (s.cell p)) ≡ true) where
  layout : IsPtr (Near q.len q.ds q.place no_marks)
  layout = (read_says (s.cell p) (Near q.len q.ds q.place q.marks) (law.cells.cell_read p).0 q.near).0

  -- ---- a span is taken where there is room
  module _ (to : Place) (there : room s (size_of q.len) false ≡ Some to) where
    is_room : IsRoom (own_part s) (size_of q.len) false to
    is_room = subst (RoomIs (own_part s) (size_of q.len) false) there (room_right (own_part s) law (size_of q.len) false (omega (arith, layout.4)))

    unsealed : s.kind to.log ≢ kinds.Sealed
    unsealed = next_unsealed s to is_room.next

    to_layout : IsPtr (Near q.len q.ds to no_marks)
    to_layout = (layout.0, layout.1, layout.2, omega (arith, is_room.next.0, law.shape.few_logs), is_room.fits)

    module _ (k : ℕ) (sealed : s.kind k ≡ kinds.Sealed) where
      other : k ≢ to.log
      other e = unsealed (ap s.kind (sym e) ∙ sealed)

      kind_kept : put (put s.kind s.current kinds.Sealed) to.log kinds.Open k ≡ kinds.Sealed
      kind_kept =
          put_other (put s.kind s.current kinds.Sealed) to.log kinds.Open k other
          ∙ put_other s.kind s.current kinds.Sealed k (λ e. open_unsealed (s.kind s.current) law.logs.is_open (ap s.kind (sym e) ∙ sealed)) ∙ sealed

      tail_kept : put s.tail to.log (to.at + size_of q.len) k ≡ s.tail k
      tail_kept = put_other s.tail to.log (to.at + size_of q.len) k other

      -- no word below the tail is the new span's
      module _ (i : ℕ) (below : i < s.tail k) where
        head_apart : k * LOG_WORDS + i ≢ addr to
        head_apart e = other (omega (arith, e, below, law.logs.tail_end k, is_room.fits))

        start_kept : put s.starts (addr to) true (k * LOG_WORDS + i) ≡ s.starts (k * LOG_WORDS + i)
        start_kept = put_other s.starts (addr to) true (k * LOG_WORDS + i) head_apart

        moved_word : (row : ℕ → ℕ) → with_row (put s.word (addr to) (head_word p q.len q.ds)) (addr to + 1) (words_for q.len) row (k * LOG_WORDS + i) ≡ s.word (k * LOG_WORDS + i)
        moved_word row =
            row_other (put s.word (addr to) (head_word p q.len q.ds)) (addr to + 1) (words_for q.len) row (k * LOG_WORDS + i)
            (λ after before. other (omega (arith, after, before, below, law.logs.tail_end k, is_room.fits)))
            ∙ put_other s.word (addr to) (head_word p q.len q.ds) (k * LOG_WORDS + i) head_apart

        offer_word : put (put s.word (addr to) (head_word p q.len q.ds)) (addr to + words_for q.len) 0 (k * LOG_WORDS + i) ≡ s.word (k * LOG_WORDS + i)
        offer_word =
            put_other (put s.word (addr to) (head_word p q.len q.ds)) (addr to + words_for q.len) 0 (k * LOG_WORDS + i) (λ e. other (omega (arith, e, below, law.logs.tail_end k, is_room.fits)))
            ∙ put_other s.word (addr to) (head_word p q.len q.ds) (k * LOG_WORDS + i) head_apart

    -- its copy is offered
    module _ (j : ℕ) where
      abbrev made : State
      made = offer_made s j p q.len q.ds q.place to

      offer_sealed : KeepsSealed s made
      offer_sealed = record {
        kind = kind_kept;
        tail = tail_kept;
        starts = λ l at sealed lt. start_kept l sealed at lt;
        near = λ o len ds place marks near sealed. (marks, near, refl);
        round = refl;
        clear = refl;
        epoch = refl;
        mutators = refl;
      }

      offer_rest : LeavesRest s made p
      offer_rest = record {
        sealed = offer_sealed;
        spans = λ k sealed. spans_kept s made k (λ i below. offer_word k sealed i below) (tail_kept k sealed);
        cells = λ o other. refl;
      }

      pub offers_rest : LeavesRest s (offered s j p to) p
      offers_rest = subst (λ (t : State). LeavesRest s t p) (sym (offered_is s j p to q.len q.ds q.place q.marks q.near)) offer_rest

    -- it moves
    moved_spans : q.marks.dropped ≡ false → (k : ℕ) → s.kind k ≡ kinds.Sealed → spans_of (moved s p to) k ≡ spans_of s k
    moved_spans alive k sealed =
        let uncopied = no_copy_in_room s law p (size_of q.len) q.place to false (omega arith) (omega (arith, layout.4)) there in
        let row = data_at s.word q.place in
        let then = with_span (with_written_span s p q.len q.ds to row) p (near_word q.marks.dirty q.len q.ds to) q.len to in
        ap (λ (t : State). spans_of t k) (moved_is s p q.len q.ds q.place to q.marks q.near alive (wanted s p q law evac) to_layout uncopied)
        ∙ spans_kept s then k (λ i below. moved_word k sealed i below row) (tail_kept k sealed)

  -- ---- it leaves its log, as a word says that was found
  module _ (w : ℕ) (finds : Finds (s.cell p) w) where
    abbrev f : IsNearTo (read_of w) q.len q.ds q.place q.marks.evac
    f = found s p q law evac w finds

    way_spans : (way : Way) → way_of s (read_of w) ≡ way → (k : ℕ) → s.kind k ≡ kinds.Sealed → spans_of (core_by s p way) k ≡ spans_of s k
    unfolding spans_of
    way_spans Drops e k sealed = refl
    way_spans (Moves to) e k sealed =
        let why = moves_when f.marks.dropped f.marks.hot (room s (size_of q.len) false) to (sym (ap (way_of s) f.near) ∙ e) in
        moved_spans to why.1 (alive_before s p q law evac w finds why.0) k sealed
    way_spans Goes e k sealed =
        let alive = goes_when f.marks.dropped f.marks.hot (room s (size_of q.len) false) (sym (ap (way_of s) f.near) ∙ e) in
        ap (λ (t : State). spans_of t k) (evicted_is s p q.len q.ds q.place (layout.0, layout.1, layout.2, refl, refl) q.marks q.near (alive_before s p q law evac w finds alive) (wanted s p q law evac))

    way_rest : (way : Way) → way_of s (read_of w) ≡ way → LeavesRest s (core_by s p way) p
    way_rest way e =
        let kept = sealed_kept s p q law evac w finds way e in
        let one = subst (ChangesOne s p) (so_by s p way) (so_one s p way) in record {
          sealed = kept;
          spans = way_spans way e;
          cells = one.cells;
        }

    pub dealing_rest : (d : Dealing) → dealing_of s (read_of w) ≡ d → LeavesRest s (core_beside s p d) p
    dealing_rest (Leaves way) e = way_rest way (leaves_way s (read_of w) way e)
    dealing_rest (Offers j to) e =
        offers_rest to (offers_when f.marks.dropped f.marks.hot (lowest_empty s) (room s (size_of q.len) false) j to (sym (ap (dealing_of s) f.near) ∙ e)) j

-- ---- and what is known of it then
module _ (s made t : State) (p len ds l at : ℕ) (marks : Marks) (near : read_of (s.cell p) ≡ Some (Near len ds (record { log = l; at = at }) marks)) (rest : LeavesRest s made p) (known : Knows made t) where
  -- where its cell named no place, it names none
  off : (k i : ℕ) → s.kind k ≡ kinds.Sealed → names_place (read_of (s.cell p)) k i ≡ false → names_place (read_of (made.cell p)) k i ≡ false
  off k i sealed none = false_from_ne_true _ (λ e.
      let n = near_at (read_of (made.cell p)) k i e in
      let was = rest.sealed.near p n.len n.ds n.place n.marks n.near (ap s.kind n.log ∙ sealed) in
      true≢false (sym (names_own n.len n.ds k n.place was.0 n.log) ∙ ap (λ x. names_place (Some (Near n.len n.ds n.place was.0)) k x) n.here ∙ ap (λ o. names_place o k i) (sym was.1) ∙ none))

  elsewhere : (k i : ℕ) → k ≢ l → names_place (read_of (s.cell p)) k i ≡ false
  elsewhere k i ne = ap (λ o. names_place o k i) near ∙ ap (λ b. b && (at == i)) (ne_eqb l k (λ e. ne (sym e)))

  -- what lives in the other sealed logs
  lives_made : (k : ℕ) → k ≢ l → s.kind k ≡ kinds.Sealed → live_in made k ≡ live_in s k
  unfolding live_in
  lives_made k ne sealed =
      ap (λ test. pointers_of (filter test (spans_of made k))) (fun_ext (λ (x : Span). elim (cases_eq x.p p) [
        | inl e ↦ (let was = elsewhere k x.at ne in
            ap (λ o. names_place (read_of (made.cell o)) k x.at) e ∙ off k x.at sealed was ∙ sym (ap (λ o. names_place (read_of (s.cell o)) k x.at) e ∙ was))
        | inr other ↦ ap (λ w. names_place (read_of w) k x.at) (rest.cells x.p other)
      ]))
      ∙ ap (λ spans. pointers_of (filter (is_live s k) spans)) (rest.spans k sealed)

  pub keeps_step : KeepsChosen s l t
  keeps_step = record {
    round = ap (λ (u : State). u.round) known.rest ∙ rest.sealed.round;
    clear = ap (λ (u : State). u.clear) known.rest ∙ rest.sealed.clear;
    mutators = ap (λ (u : State). u.mutators) known.rest ∙ rest.sealed.mutators;
    chosen = λ k h. record {
      sealed = ap (λ (u : State). u.kind k) known.rest ∙ rest.sealed.kind k h.sealed;
      round = ap (λ (u : State). u.round k) known.rest ∙ ap (λ round. round k) rest.sealed.round ∙ h.round;
      marked = λ o n d place m there is.
          let x = near_known (made.cell o) (t.cell o) (known.found o) n d place m there in
          let was = rest.sealed.near o n d place x.marks x.near (ap s.kind is ∙ h.sealed) in
          sym x.same ∙ was.2 ∙ h.marked o n d place was.0 was.1 is;
      clear = λ m lt. ap (λ (u : State). u.clear m) known.rest ∙ ap (λ clear. clear m) rest.sealed.clear
          ∙ h.clear m (subst (λ n. m < n) (ap (λ (u : State). u.mutators) known.rest ∙ rest.sealed.mutators) lt);
    };
    lives = λ k ne h. knows_live made t known k ∙ lives_made k ne h.sealed;
  }

  module _ (sealed : s.kind l ≡ kinds.Sealed) where
    -- what is left to be met behind it
    pub left_step : (past : ℕ) → at < past → live_from t l past ≡ live_from s l past
    left_step past lt =
        let was = in_front (read_of (s.cell p)) len ds (record { log = l; at = at }) marks near l past lt in
        from_known made t known l past ∙ from_dealt s made p l past (rest.spans l sealed) rest.cells was (λ k le. off l k sealed (was k le))

    pub bounded_step : (i : ℕ) → IsBoundary s l i → IsBoundary t l i
    bounded_step i bounded = boundary_known made t known l i (there bounded) where
      there : IsBoundary s l i → IsBoundary made l i
      there (inl end) = inl (end ∙ sym (rest.sealed.tail l sealed))
      there (inr span) = inr (subst (λ n. i < n) (sym (rest.sealed.tail l sealed)) span.0, rest.sealed.starts l i sealed span.0 ∙ span.1)

-- ---- marks were found alone
pub keeps_found : (s t : State) (l : ℕ) → Knows s t → KeepsChosen s l t
keeps_found s t l known = record {
  round = ap (λ (u : State). u.round) known.rest;
  clear = ap (λ (u : State). u.clear) known.rest;
  mutators = ap (λ (u : State). u.mutators) known.rest;
  chosen = λ k h. record {
    sealed = ap (λ (u : State). u.kind k) known.rest ∙ h.sealed;
    round = ap (λ (u : State). u.round k) known.rest ∙ h.round;
    marked = λ o n d place m there is. let x = near_known (s.cell o) (t.cell o) (known.found o) n d place m there in sym x.same ∙ h.marked o n d place x.marks x.near is;
    clear = λ m lt. ap (λ (u : State). u.clear m) known.rest ∙ h.clear m (subst (λ n. m < n) (ap (λ (u : State). u.mutators) known.rest) lt);
  };
  lives = λ k ne h. knows_live s t known k;
}

-- ---- one after the other
pub keeps_then : (s t u : State) (l : ℕ) → KeepsChosen s l t → KeepsChosen t l u → KeepsChosen s l u
keeps_then s t u l f g = record {
  round = g.round ∙ f.round;
  clear = g.clear ∙ f.clear;
  mutators = g.mutators ∙ f.mutators;
  chosen = λ k h. g.chosen k (f.chosen k h);
  lives = λ k ne h. g.lives k ne (f.chosen k h) ∙ f.lives k ne h;
}

-- ---- the core that is known then
pub core_dealt : (w : Walked) (p : ℕ) (d : Dealing) → (dealt_by w p d).moment.core ≡ core_beside w.moment.core p d
core_dealt w p (Leaves Drops) = refl
core_dealt w p (Leaves (Moves to)) = refl
core_dealt w p (Leaves Goes) = refl
core_dealt w p (Offers j to) = refl

module _ (D : Type 0) (Asks : State → ℕ → Dealing → D → D → Type 0) (w t : Walked) (p : ℕ) (old new : D) (deals : DealsBeside D Asks w p t old new) (law : Law (own_part w.moment.core)) (clear : IsClearNear w.moment.core p) where
  abbrev pub made_by : State
  made_by = core_beside w.moment.core p (dealing_of w.moment.core (read_of deals.word))

  pub known_by : Knows made_by t.moment.core
  known_by = subst (λ (u : State). Knows u t.moment.core) (core_dealt w p (dealing_of w.moment.core (read_of deals.word))) deals.known.moment.core

  pub rest_by : LeavesRest w.moment.core made_by p
  rest_by = dealing_rest w.moment.core p (quiet_clear w.moment.core p clear) law (evac_clear w.moment.core p clear) deals.word deals.found (dealing_of w.moment.core (read_of deals.word)) refl
