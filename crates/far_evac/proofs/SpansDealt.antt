-- What an object that is dealt with makes of the spans of the logs, by its way.
use Rattle.std.proofs.Common.{◌≡◌, ◌≢◌, ℕ, ◌+◌, ◌*◌, ◌<◌, ◌≤◌, true, false, nat_le, Option, Some, None, List, [], ◌∷◌, ◌++◌, inl, inr, arith, ap, sym, refl, ◌∙◌, subst}
use Rattle.std.specs.List.{AllByRecursion}
use Rattle.std.specs.Prelude.{◌⊎◌}
use Rattle.std.proofs.lemmas.Bool.{cases_eq, cond_both, false≢true, cases_lt}
use Rattle.far_word.specs.declared.header.HeadWord.{HeadWord}
use Rattle.far_word.specs.declared.mark.Marks.{Marks}
use Rattle.far_word.specs.declared.pointer.Place.{Place}
use Rattle.far_word.specs.declared.pointer.PtrWord.TheVariants.{Near, Far}
use Rattle.far_word.specs.declared.sizes.TheConstants.{LOG_WORDS}
use Rattle.far_word.specs.Header.{IsHead, head_of, head_word}
use Rattle.far_word.specs.Pointer.{IsPtr, read_of}
use Rattle.far_word.specs.Sizes.{size_of, words_for}
use Rattle.far_word.proofs.HeaderLaws.{head_back}
use Rattle.far_word.proofs.PointerLaws.{read_back}
use Rattle.far_log.specs.Spans.{ds_in, head_len, len_in, pointer_in, span_at, spans_from, spans_in}
use Rattle.far_events.specs.declared.event.Kind.{Kind}
use Rattle.far_events.specs.declared.event.Kind.TheVariants as kinds
use Rattle.far_events.specs.events.Copied.{copied_job}
use Rattle.far_events.specs.events.Copies.{data_at}
use Rattle.far_events.specs.events.Naming.{no_marks, unmarked}
use Rattle.far_events.specs.events.namings.Moves.{after_move}
use Rattle.far_events.specs.events.NewSpans.{with_span}
use Rattle.far_core.specs.laws.Observed.{span_for}
use Rattle.far_core.specs.state.Room.{free_logs, is_free, lowest, room}
use Rattle.far_events.specs.state.Spans.{names_place, spans_of, word_in}
use Rattle.far_events.specs.state.State.{State, addr, put}
use Rattle.far_events.proofs.Copied.{copied_same}
use Rattle.far_events.proofs.Put.{put_other, put_same}
use Rattle.far_hand.specs.Finds.{Finds, marks_in}
use Rattle.far_book.specs.book.Effects.{evicted, far_word, moved, near_word, with_free_cell, with_written_span}
use Rattle.far_hand.proofs.Finding.{IsNearTo, near_found}
use Rattle.far_book.proofs.region.Evictions.{evicted_is, far_says, sent}
use Rattle.far_book.proofs.region.Written.{row_other}
use Rattle.far_evac.specs.Live.{live_in}
use Rattle.far_evac.specs.Ready.{Ready}
use Rattle.far_evac.specs.TakesRoom.{bytes_at}
use Rattle.far_evac.specs.Walk.{Drops, Goes, Moves, Way, way_of}
use Rattle.far_evac.proofs.Bools.{neither}
use Rattle.far_evac.proofs.Dealt.{IsFreeLog, NewPlace, free_gone, free_place, frees, moved_as, room_new}
use Rattle.far_evac.proofs.LiveLists.{same_spans}
use Rattle.far_evac.proofs.LiveOnce.{NearAt, first_named, near_at}
use Rattle.far_evac.proofs.SpanBytes.{Dealt, Sound, comes, leaves, spans_more}
use Rattle.far_evac.proofs.Targets.{LieBelow, none_at_tail}
use Rattle.far_evac.proofs.Tours.{core_so, goes_when, moves_when}

-- ---- where a hot object goes: behind the last span of its log
is_free_kind : (kind : Kind) → is_free kind ≡ true → kind ≡ kinds.Free
is_free_kind kinds.Free h = refl
is_free_kind _ h = absurd (false≢true h)

module _ (s : State) (sound : Sound s) where
  lowest_end : (ls : List ℕ) → AllByRecursion (IsFreeLog s) ls → (place : Place) → lowest false ls ≡ Some place → place.at ≡ s.tail place.log
  lowest_end [] each place e = absurd cc
  lowest_end (l ∷ ls) each place e =
      let start : Place = record { log = l; at = 0 } in
      let is : start ≡ place = cc in
      subst (λ (x : Place). x.at ≡ s.tail x.log) is (sym (sound.bare l (is_free_kind (s.kind l) each.0.1)))

  room_end : (size : ℕ) (place : Place) → room s size false ≡ Some place → place.at ≡ s.tail place.log
  room_end size place =
      let end : Place = record { log = s.current; at = s.tail s.current } in
      cond_both (nat_le (s.tail s.current + size) LOG_WORDS) (Some end) (lowest false (free_logs s)) (λ (o : Option Place). o ≡ Some place → place.at ≡ s.tail place.log)
      (λ _ e. let is : end ≡ place = cc in subst (λ (x : Place). x.at ≡ s.tail x.log) is refl)
      (λ _ e. lowest_end (free_logs s) (frees s 0 s.logs (omega arith)) place e)

module _ (s : State) (sound : Sound s) (below : LieBelow s) (held : List ℕ) (ready : Ready s held) (p len ds : ℕ) (from : Place) (marks : Marks) (near : read_of (s.cell p) ≡ Some (Near len ds from marks)) where
  layout : IsPtr (Near len ds from no_marks)
  layout = ready.layout p len ds from marks near

  -- ---- it is retired
  pub drops : Dealt s (with_free_cell s p) p
  unfolding spans_of read_of
  drops = leaves s (with_free_cell s p) sound p 0 len ds from marks near free_place free_gone (λ l. refl) refl (λ l. refl) refl refl refl

  module _ (evac : marks.evac ≡ true) (alive : marks.dropped ≡ false) where
    -- ---- it goes far
    far_layout : IsPtr (Far len ds no_marks)
    far_layout = (layout.0, layout.1, layout.2, refl, refl)

    far_place : (n d : ℕ) (place : Place) (k : Marks) → read_of (far_word len ds) ≡ Some (Near n d place k) → ⊥
    far_place n d place k e = let odd : Some (Far len ds no_marks) ≡ Some (Near n d place k) = sym (far_says len ds far_layout) ∙ e in absurd cc

    goes_sent : Dealt s (sent s p len ds from) p
    unfolding spans_of
    goes_sent = leaves s (sent s p len ds from) sound p (far_word len ds) len ds from marks near far_place (λ l at. ap (λ o. names_place o l at) (far_says len ds far_layout)) (λ l. ap (bytes_at l) (far_says len ds far_layout))
        refl (λ l. refl) refl refl refl

    pub goes : Dealt s (evicted s p) p
    goes = subst (λ t. Dealt s t p) (sym (evicted_is s p len ds from far_layout marks near alive evac)) goes_sent

    -- ---- it goes to another log
    module _ (to : Place) (found : room s (size_of len) false ≡ Some to) where
      new : NewPlace s (size_of len) to
      new = room_new s ready.opens ready.current (size_of len) (omega (arith, layout.4)) to found

      at_end : to.at ≡ s.tail to.log
      at_end = room_end s sound (size_of len) to found

      near_layout : IsPtr (Near len ds to no_marks)
      near_layout = (layout.0, layout.1, layout.2, omega (arith, new.log, ready.few), new.fits)

      abbrev written : State
      written = with_written_span s p len ds to (data_at s.word from)

      abbrev then : State
      then = with_span written p (near_word marks.dirty len ds to) len to

      uncopied : copied_job written p from to ≡ None
      uncopied = copied_same s written p from to refl refl refl refl ∙ none_at_tail s below p from to at_end

      abbrev header : HeadWord
      header = record { pointer = p; len = len; ds = ds }

      head : IsHead header
      head = record { some = layout.0; most = layout.1; structure = layout.2; cell = sound.pointer p len ds from marks near }

      -- words below the tails stay
      word_still : (l i : ℕ) → i < s.tail l → then.word (l * LOG_WORDS + i) ≡ s.word (l * LOG_WORDS + i)
      word_still l i below =
          let short = sound.short l in
          let here : (l * LOG_WORDS + i < addr to) ⊎ (addr to + size_of len ≤ l * LOG_WORDS + i) = elim (cases_eq l to.log) [
            | inl e ↦ (let tails : s.tail l ≡ s.tail to.log = ap s.tail e in inl (omega (arith, e, tails, at_end, below)))
            | inr ne ↦ elim (cases_lt l to.log) [
              | inl lt ↦ inl (omega (arith, lt, below, short))
              | inr le ↦ inr (omega (arith, le, ne, new.fits))
            ]
          ] in
          row_other (put s.word (addr to) (head_word p len ds)) (addr to + 1) (words_for len) (data_at s.word from) (l * LOG_WORDS + i)
          (λ after before. elim here [ inl low ↦ omega (arith, after, low) | inr high ↦ omega (arith, before, high) ])
          ∙ put_other s.word (addr to) (head_word p len ds) (l * LOG_WORDS + i) (λ e. elim here [ inl low ↦ omega (arith, e, low) | inr high ↦ omega (arith, e, high) ])

      -- behind them stands the header
      word_new : then.word (to.log * LOG_WORDS + s.tail to.log) ≡ head_word p len ds
      word_new =
          let same : to.log * LOG_WORDS + s.tail to.log ≡ addr to = ap (λ k. to.log * LOG_WORDS + k) (sym at_end) in
          ap then.word same
          ∙ row_other (put s.word (addr to) (head_word p len ds)) (addr to + 1) (words_for len) (data_at s.word from) (addr to) (λ after before. omega (arith, after))
          ∙ put_same s.word (addr to) (head_word p len ds) (addr to) refl

      head_new : head_of (word_in then to.log (s.tail to.log)) ≡ Some header
      head_new = ap head_of word_new ∙ head_back header head

      size_new : head_len (word_in then to.log (s.tail to.log)) ≡ len
      size_new = ap len_in head_new

      span_new : span_at (word_in then to.log) (s.tail to.log) ≡ span_for p len ds to.at
      span_new = λ i. record { at = sym at_end i; p = pointer_in (head_new i); len = len_in (head_new i); ds = ds_in (head_new i) }

      spans_there : (l : ℕ) → l ≢ to.log → spans_of then l ≡ spans_of s l
      unfolding spans_of spans_in
      spans_there l ne =
          ap (λ tail. spans_in (word_in then l) tail) (put_other s.tail to.log (to.at + size_of len) l ne)
          ∙ same_spans (word_in s l) (word_in then l) (s.tail l) 0 (s.tail l) (word_still l)

      tail_new : then.tail to.log ≡ s.tail to.log + size_of len
      tail_new = put_same s.tail to.log (to.at + size_of len) to.log refl ∙ ap (λ k. k + size_of len) at_end

      spans_here : spans_of then to.log ≡ spans_of s to.log ++ span_for p len ds to.at ∷ []
      unfolding spans_of spans_in
      spans_here =
          let long : s.tail to.log + size_of len ≡ s.tail to.log + size_of (head_len (word_in then to.log (s.tail to.log))) = ap (λ n. s.tail to.log + size_of n) (sym size_new) in
          ap (λ tail. spans_from (word_in then to.log) tail 0 tail) tail_new
          ∙ ap (λ tail. spans_from (word_in then to.log) tail 0 (s.tail to.log + size_of len)) long
          ∙ spans_more (word_in s to.log) (word_in then to.log) (s.tail to.log) (word_still to.log) (s.tail to.log) (s.tail to.log + size_of len) 0 (omega arith) (sound.tile to.log)
          ∙ ap (λ x. spans_of s to.log ++ x ∷ []) span_new

      moves_then : Dealt s then p
      moves_then = comes s then sound p (near_word marks.dirty len ds to) len ds from to marks (unmarked marks.dirty) near (read_back (Near len ds to (unmarked marks.dirty)) near_layout) at_end new.fits new.log new.unsealed refl refl refl ready.opens refl spans_here spans_there

      pub moves : Dealt s (moved s p to) p
      moves = subst (λ t. Dealt s t p) (sym (moved_as s p len ds from to marks near alive evac near_layout ∙ ap (after_move written p (near_word marks.dirty len ds to) len to) uncopied)) moves_then

-- ---- the first object, as a word says that was found in its cell
module _ (s : State) (sound : Sound s) (below : LieBelow s) (l : ℕ) (ls : List ℕ) (p : ℕ) (ps : List ℕ) (ready : Ready s (l ∷ ls)) (first : live_in s l ≡ p ∷ ps) (word : ℕ) (finds : Finds (s.cell p) word) where
  at_home : NearAt (read_of (s.cell p)) l (first_named s l p ps first).0
  at_home = near_at (read_of (s.cell p)) l (first_named s l p ps first).0 (first_named s l p ps first).1

  marked : at_home.marks.evac ≡ true
  marked = ready.logs.0.1 p at_home.len at_home.ds at_home.place at_home.marks at_home.near at_home.log

  seen : IsNearTo (read_of word) at_home.len at_home.ds at_home.place at_home.marks.evac
  seen = near_found (s.cell p) word finds at_home.len at_home.ds at_home.place at_home.marks at_home.near

  alive_before : seen.marks.dropped ≡ false → at_home.marks.dropped ≡ false
  alive_before = neither seen.marks.dropped at_home.marks.dropped
      (λ h. sym (ap (λ o. (marks_in o).dropped) seen.near) ∙ finds.dropped (ap (λ o. (marks_in o).dropped) at_home.near ∙ h))

  pub way_dealt : (way : Way) → way_of s (read_of word) ≡ way → Dealt s (core_so s p way) p
  way_dealt Drops e = drops s sound below (l ∷ ls) ready p at_home.len at_home.ds at_home.place at_home.marks at_home.near
  way_dealt (Moves place) e =
      let why = moves_when seen.marks.dropped seen.marks.hot (room s (size_of at_home.len) false) place (sym (ap (way_of s) seen.near) ∙ e) in
      moves s sound below (l ∷ ls) ready p at_home.len at_home.ds at_home.place at_home.marks at_home.near marked (alive_before why.0) place why.1
  way_dealt Goes e =
      goes s sound below (l ∷ ls) ready p at_home.len at_home.ds at_home.place at_home.marks at_home.near marked
      (alive_before (goes_when seen.marks.dropped seen.marks.hot (room s (size_of at_home.len) false) (sym (ap (way_of s) seen.near) ∙ e)))
