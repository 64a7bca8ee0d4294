-- An object that is dealt with leaves its log's list of live objects, and the walk may go on.
use Rattle.std.proofs.Common.{◌≡◌, ◌≢◌, ℕ, zero, suc, ◌+◌, ◌*◌, ◌<◌, ◌≤◌, Bool, true, false, ◌&&◌, nat_eq, nat_le, Option, Some, None, List, [], ◌∷◌, filter, arith, ap, sym, refl, ◌∙◌, subst}
use Rattle.std.specs.List.{AllByRecursion, range_with_len}
use Rattle.std.proofs.lemmas.Bool.{cond_both, eq-eqb, ne_eqb, false≢true}
use Rattle.std.proofs.lemmas.Bool.Decides.{nat_tests}
use Rattle.far_word.specs.declared.mark.Marks.{Marks}
use Rattle.far_word.specs.declared.pointer.Place.{Place}
use Rattle.far_word.specs.declared.pointer.PtrWord.{PtrWord}
use Rattle.far_word.specs.declared.pointer.PtrWord.TheVariants.{Free, Near, Far}
use Rattle.far_word.specs.declared.sizes.TheConstants.{LOG_WORDS}
use Rattle.far_word.specs.Header.{head_word}
use Rattle.far_word.specs.Pointer.{IsPtr, read_of}
use Rattle.far_word.specs.Sizes.{size_of, words_for}
use Rattle.far_word.proofs.PointerLaws.{read_back}
use Rattle.far_log.specs.Spans.{spans_in}
use Rattle.far_events.specs.declared.event.Kind.{Kind}
use Rattle.far_events.specs.declared.event.Kind.TheVariants as kinds
use Rattle.far_events.specs.events.Copies.{data_at}
use Rattle.far_events.specs.declared.naming.Naming.TheVariants.{Moves}
use Rattle.far_events.specs.events.Copied.{copied_job}
use Rattle.far_events.specs.events.Name.{after_naming}
use Rattle.far_events.specs.events.Naming.{no_marks, unmarked}
use Rattle.far_events.specs.events.namings.Moves.{after_move}
use Rattle.far_core.specs.state.Room.{room, free_logs, is_free, lowest}
use Rattle.far_events.specs.state.Spans.{spans_of, is_live, names_place}
use Rattle.far_events.specs.state.State.{State, put, addr}
use Rattle.far_events.specs.events.Clear.{is_near}
use Rattle.far_events.proofs.Namings.{naming_only}
use Rattle.far_events.proofs.Put.{put_both, put_other, put_same}
use Rattle.far_book.specs.book.Effects.{moved, moved_of, evicted, near_word, far_word, with_free_cell, with_written_span}
use Rattle.far_book.proofs.region.Evictions.{evicted_is, far_says, sent}
use Rattle.far_book.proofs.region.Moved.{no_stay}
use Rattle.far_book.proofs.region.Written.{row_other}
use Rattle.far_evac.specs.Dealings.{is_away, is_nowhere}
use Rattle.far_evac.specs.Live.{live_in, pointers_of}
use Rattle.far_evac.specs.Ready.{Ready, IsOfRound, AllMarked, OnLayout}
use Rattle.far_evac.proofs.LiveLists.{live_left, same_spans}
use Rattle.far_evac.proofs.LiveOnce.{but}
use Rattle.far_evac.proofs.OfOneKind.{open_unsealed}

-- ---- an object that moves takes a span, or is named to what a job has copied
pub moved_as : (s : State) (p len ds : ℕ) (from to : Place) (m : Marks) → read_of (s.cell p) ≡ Some (Near len ds from m) → m.dropped ≡ false → m.evac ≡ true → IsPtr (Near len ds to no_marks) →
    let written = with_written_span s p len ds to (data_at s.word from) in moved s p to ≡ after_move written p (near_word m.dirty len ds to) len to (copied_job written p from to)
moved_as s p len ds from to m near alive wanted layout =
    let written = with_written_span s p len ds to (data_at s.word from) in
    let new = near_word m.dirty len ds to in
    ap (moved_of s p to) near
    ∙ rw (eq-eqb (s.cell p) (s.cell p) refl) (ap (after_naming written p new) (naming_only (Moves len ds from to) (read_of (s.cell p)) (read_of new) ((m, near, alive, no_stay from to m wanted), read_back (Near len ds to (unmarked m.dirty)) layout)))

-- ---- where a hot object goes: to no sealed log
pub record NewPlace (s : State) (size : ℕ) (place : Place) : Type 0 where
  pub log : place.log < s.logs
  pub fits : place.at + size ≤ LOG_WORDS
  pub unsealed : s.kind place.log ≢ kinds.Sealed

free_unsealed : (kind : Kind) → is_free kind ≡ true → kind ≢ kinds.Sealed
free_unsealed kinds.Free h e = absurd cc
free_unsealed _ h e = absurd (false≢true h)

module _ (s : State) where
  abbrev pub IsFreeLog : ℕ → Type 0
  IsFreeLog l = (l < s.logs) × (is_free (s.kind l) ≡ true)

  pub frees : (a n : ℕ) → a + n ≤ s.logs → AllByRecursion IsFreeLog (filter (λ l. is_free (s.kind l)) (range_with_len a n))
  frees a zero le = tt
  frees a (suc n) le = let more : a + 1 + n ≤ s.logs = omega (arith, le) in
      cond_both (is_free (s.kind a)) (a ∷ filter (λ l. is_free (s.kind l)) (range_with_len (a + 1) n)) (filter (λ l. is_free (s.kind l)) (range_with_len (a + 1) n)) (AllByRecursion IsFreeLog)
      (λ h. ((omega (arith, le), h), frees (a + 1) n more)) (λ _. frees (a + 1) n more)

  lowest_new : (size : ℕ) → size ≤ LOG_WORDS → (ls : List ℕ) → AllByRecursion IsFreeLog ls → (place : Place) → lowest false ls ≡ Some place → NewPlace s size place
  lowest_new size le [] each place e = absurd cc
  lowest_new size le (l ∷ ls) each place e =
      let start : Place = record { log = l; at = 0 } in
      let is : start ≡ place = cc in
      subst (NewPlace s size) is record { log = each.0.0; fits = omega (arith, le); unsealed = free_unsealed (s.kind l) each.0.1 }

  pub room_new : s.kind s.current ≡ kinds.Open → s.current < s.logs → (size : ℕ) → size ≤ LOG_WORDS → (place : Place) → room s size false ≡ Some place → NewPlace s size place
  room_new opens current size le place =
      let end : Place = record { log = s.current; at = s.tail s.current } in
      cond_both (nat_le (s.tail s.current + size) LOG_WORDS) (Some end) (lowest false (free_logs s)) (λ (o : Option Place). o ≡ Some place → NewPlace s size place)
      (λ h e. let is : end ≡ place = cc in subst (NewPlace s size) is record { log = current; fits = grind (arith, nat_tests, h); unsealed = open_unsealed (s.kind s.current) opens })
      (λ _ e. lowest_new size le (free_logs s) (frees 0 s.logs (omega arith)) place e)

-- ---- one object
module _ (s : State) (p : ℕ) where
  -- a state after it
  pub record Leaves (t : State) (held : List ℕ) : Type 0 where
    pub lists : AllByRecursion (λ l. live_in t l ≡ but p (live_in s l)) held
    pub ready : Ready t held

  -- its cell passes a test then, and names no place in these logs
  pub record Gone (t : State) (held : List ℕ) (test : Option PtrWord → Bool) : Type 0 where
    pub says : test (read_of (t.cell p)) ≡ true
    pub off : AllByRecursion (λ l. (at : ℕ) → names_place (read_of (t.cell p)) l at ≡ false) held

  -- its cell says no place in these logs, and kinds and tails there stay
  module _ (t : State) (new : ℕ) (cell : t.cell ≡ put s.cell p new) where
    abbrev Elsewhere : ℕ → Type 0
    Elsewhere l = (len ds : ℕ) (place : Place) (marks : Marks) → read_of new ≡ Some (Near len ds place marks) → place.log ≢ l

    marked_still : (l : ℕ) → Elsewhere l → AllMarked s l → AllMarked t l
    marked_still l away marked q len ds place marks near is =
        put_both (λ w. read_of w ≡ Some (Near len ds place marks) → marks.evac ≡ true) s.cell p new q
        (λ _ e. absurd (away len ds place marks e is)) (λ _ e. marked q len ds place marks e is)
        (ap (λ f. read_of (f q)) (sym cell) ∙ near)

    pub held_still : (held : List ℕ) → AllByRecursion (λ l. Elsewhere l × (t.kind l ≡ s.kind l) × (t.round l ≡ s.round l)) held → AllByRecursion (IsOfRound s) held → AllByRecursion (IsOfRound t) held
    held_still [] away h = tt
    held_still (l ∷ ls) away h = ((away.0.1 ∙ h.0.0, marked_still l away.0.0 h.0.1, away.0.2 ∙ h.0.2), held_still ls away.1 h.1)

    pub layout_still : OnLayout new → ((q : ℕ) → OnLayout (s.cell q)) → (q : ℕ) → OnLayout (t.cell q)
    layout_still here there q = subst (λ f. OnLayout (f q)) (sym cell) (put_both OnLayout s.cell p new q (λ _. here) (λ _. there q))

-- no word of these says a place
pub free_gone : (l at : ℕ) → names_place (read_of 0) l at ≡ false
unfolding read_of
free_gone l at = refl

pub free_place : (len ds : ℕ) (place : Place) (marks : Marks) → read_of 0 ≡ Some (Near len ds place marks) → ⊥
unfolding read_of
free_place len ds place marks e = absurd cc

module _ (s : State) (held : List ℕ) (ready : Ready s held) (p : ℕ) where
  same_logs : (P : ℕ → Type 0) → ((l : ℕ) → P l) → (ls : List ℕ) → AllByRecursion P ls
  same_logs P each [] = tt
  same_logs P each (l ∷ ls) = (each l, same_logs P each ls)

  -- its owner has dropped it
  pub leaves_dropped : Leaves s p (with_free_cell s p) held
  leaves_dropped = record {
    lists = same_logs (λ l. live_in (with_free_cell s p) l ≡ but p (live_in s l)) (λ l. live_left s p 0 l (free_gone l)) held;
    ready = record {
      layout = layout_still s p (with_free_cell s p) 0 refl (λ len ds place marks e. absurd (free_place len ds place marks e)) ready.layout;
      short = ready.short;
      opens = ready.opens;
      current = ready.current;
      few = ready.few;
      logs = held_still s p (with_free_cell s p) 0 refl held (same_logs _ (λ l. (λ len ds place marks e _. free_place len ds place marks e, refl, refl)) held) ready.logs;
      once = ready.once;
    };
  }

  here_free : read_of ((with_free_cell s p).cell p) ≡ Some Free
  unfolding read_of
  here_free = ap read_of (put_same s.cell p 0 p refl)

  pub gone_dropped : Gone s p (with_free_cell s p) held is_nowhere
  gone_dropped = record {
    says = ap is_nowhere here_free;
    off = same_logs (λ l. (at : ℕ) → names_place (read_of ((with_free_cell s p).cell p)) l at ≡ false) (λ l at. ap (λ o. names_place o l at) here_free) held;
  }

  module _ (len ds : ℕ) (from : Place) (marks : Marks) (near : read_of (s.cell p) ≡ Some (Near len ds from marks)) (evac : marks.evac ≡ true) (alive : marks.dropped ≡ false) where
    layout : IsPtr (Near len ds from no_marks)
    layout = ready.layout p len ds from marks near

    far_layout : IsPtr (Far len ds no_marks)
    far_layout = (layout.0, layout.1, layout.2, refl, refl)

    far_gone : (l at : ℕ) → names_place (read_of (far_word len ds)) l at ≡ false
    far_gone l at = ap (λ o. names_place o l at) (far_says len ds far_layout)

    far_place : (n d : ℕ) (place : Place) (k : Marks) → read_of (far_word len ds) ≡ Some (Near n d place k) → ⊥
    far_place n d place k e = let odd : Some (Far len ds no_marks) ≡ Some (Near n d place k) = sym (far_says len ds far_layout) ∙ e in absurd cc

    live_sent : (l : ℕ) → live_in (sent s p len ds from) l ≡ but p (live_in s l)
    unfolding live_in spans_of
    live_sent l = live_left s p (far_word len ds) l (far_gone l)

    leaves_sent : Leaves s p (sent s p len ds from) held
    leaves_sent = record {
      lists = same_logs (λ l. live_in (sent s p len ds from) l ≡ but p (live_in s l)) live_sent held;
      ready = record {
        layout = layout_still s p (sent s p len ds from) (far_word len ds) refl (λ n d place k e. absurd (far_place n d place k e)) ready.layout;
        short = ready.short;
        opens = ready.opens;
        current = ready.current;
        few = ready.few;
        logs = held_still s p (sent s p len ds from) (far_word len ds) refl held
            (same_logs _ (λ l. (λ n d place k e _. far_place n d place k e, refl, refl)) held) ready.logs;
        once = ready.once;
      };
    }

    -- it goes far
    pub leaves_far : Leaves s p (evicted s p) held
    leaves_far = subst (λ t. Leaves s p t held) (sym (evicted_is s p len ds from far_layout marks near alive evac)) leaves_sent

    here_far : read_of ((sent s p len ds from).cell p) ≡ Some (Far len ds no_marks)
    here_far = ap read_of (put_same s.cell p (far_word len ds) p refl) ∙ far_says len ds far_layout

    gone_sent : Gone s p (sent s p len ds from) held is_away
    gone_sent = record {
      says = ap is_away here_far;
      off = same_logs (λ l. (at : ℕ) → names_place (read_of ((sent s p len ds from).cell p)) l at ≡ false) (λ l at. ap (λ o. names_place o l at) here_far) held;
    }

    pub gone_far : Gone s p (evicted s p) held is_away
    gone_far = subst (λ t. Gone s p t held is_away) (sym (evicted_is s p len ds from far_layout marks near alive evac)) gone_sent

    pub says_far : read_of ((evicted s p).cell p) ≡ Some (Far len ds no_marks)
    says_far = ap (λ (t : State). read_of (t.cell p)) (evicted_is s p len ds from far_layout marks near alive evac) ∙ here_far

    -- it goes to another log
    module _ (to : Place) (goes : room s (size_of len) false ≡ Some to) where
      new : NewPlace s (size_of len) to
      new = room_new s ready.opens ready.current (size_of len) (omega (arith, layout.4)) to goes

      near_layout : IsPtr (Near len ds to no_marks)
      near_layout = (layout.0, layout.1, layout.2, omega (arith, new.log, ready.few), new.fits)

      abbrev written : State
      written = with_written_span s p len ds to (data_at s.word from)

      -- a span is taken there; or what a job has copied there is named
      abbrev then : Option ℕ → State
      then job = after_move written p (near_word marks.dirty len ds to) len to job

      moved_then : moved s p to ≡ then (copied_job written p from to)
      moved_then = moved_as s p len ds from to marks near alive evac near_layout

      cell_then : (job : Option ℕ) → (then job).cell ≡ put s.cell p (near_word marks.dirty len ds to)
      cell_then None = refl
      cell_then (Some j) = refl

      near_says : read_of (near_word marks.dirty len ds to) ≡ Some (Near len ds to (unmarked marks.dirty))
      near_says = read_back (Near len ds to (unmarked marks.dirty)) near_layout

      near_there : OnLayout (near_word marks.dirty len ds to)
      near_there n d place k e =
          let same : Some (Near len ds to (unmarked marks.dirty)) ≡ Some (Near n d place k) = sym near_says ∙ e in
          let lens : len ≡ n = cc in
          let structures : ds ≡ d = cc in
          let places : to ≡ place = cc in
          subst (λ x. IsPtr (Near n d x no_marks)) places (subst (λ x. IsPtr (Near n x to no_marks)) structures (subst (λ x. IsPtr (Near x ds to no_marks)) lens near_layout))

      module _ (l : ℕ) (is_sealed : s.kind l ≡ kinds.Sealed) where
        other : l ≢ to.log
        other e = new.unsealed (ap s.kind (sym e) ∙ is_sealed)

        kept : l ≢ s.current
        kept e = open_unsealed (s.kind s.current) ready.opens (ap s.kind (sym e) ∙ is_sealed)

        round_still : (job : Option ℕ) → ((then job).kind l ≡ s.kind l) × ((then job).round l ≡ s.round l)
        round_still None = (put_other (put s.kind s.current kinds.Sealed) to.log kinds.Open l other ∙ put_other s.kind s.current kinds.Sealed l kept, refl)
        round_still (Some j) = (refl, refl)

        elsewhere : (n d : ℕ) (place : Place) (k : Marks) → read_of (near_word marks.dirty len ds to) ≡ Some (Near n d place k) → place.log ≢ l
        elsewhere n d place k e is =
            let same : Some (Near len ds to (unmarked marks.dirty)) ≡ Some (Near n d place k) = sym near_says ∙ e in
            let places : to ≡ place = cc in
            other (sym is ∙ ap (λ (x : Place). x.log) (sym places))

        gone : (at : ℕ) → names_place (read_of (near_word marks.dirty len ds to)) l at ≡ false
        gone at = ap (λ o. names_place o l at) near_says ∙ ap (λ b. b && nat_eq to.at at) (ne_eqb to.log l (λ e. other (sym e)))

        word_still : (i : ℕ) → i < s.tail l → written.word (l * LOG_WORDS + i) ≡ s.word (l * LOG_WORDS + i)
        word_still i below =
            row_other (put s.word (addr to) (head_word p len ds)) (addr to + 1) (words_for len) (data_at s.word from) (l * LOG_WORDS + i)
            (λ after before. other (omega (arith, after, before, below, ready.short l, new.fits)))
            ∙ put_other s.word (addr to) (head_word p len ds) (l * LOG_WORDS + i) (λ e. other (omega (arith, e, below, ready.short l, new.fits)))

        spans_written : spans_in (λ i. written.word (l * LOG_WORDS + i)) (s.tail l) ≡ spans_of s l
        unfolding spans_of spans_in
        spans_written = same_spans (λ i. s.word (l * LOG_WORDS + i)) (λ i. written.word (l * LOG_WORDS + i)) (s.tail l) 0 (s.tail l) word_still

        spans_still : (job : Option ℕ) → spans_of (then job) l ≡ spans_of s l
        unfolding spans_of
        spans_still None = ap (spans_in (λ i. written.word (l * LOG_WORDS + i))) (put_other s.tail to.log (to.at + size_of len) l other) ∙ spans_written
        spans_still (Some j) = spans_written

        live_moved : (job : Option ℕ) → live_in (then job) l ≡ but p (live_in s l)
        unfolding live_in spans_of
        live_moved job =
            ap (λ cell. pointers_of (filter (is_live (record s { cell = cell }) l) (spans_of (then job) l))) (cell_then job)
            ∙ ap (λ spans. pointers_of (filter (is_live (record s { cell = put s.cell p (near_word marks.dirty len ds to) }) l) spans)) (spans_still job)
            ∙ live_left s p (near_word marks.dirty len ds to) l gone

      lists_moved : (job : Option ℕ) (ls : List ℕ) → AllByRecursion (IsOfRound s) ls → AllByRecursion (λ l. live_in (then job) l ≡ but p (live_in s l)) ls
      lists_moved job [] h = tt
      lists_moved job (l ∷ ls) h = (live_moved l h.0.0 job, lists_moved job ls h.1)

      logs_moved : (job : Option ℕ) (ls : List ℕ) → AllByRecursion (IsOfRound s) ls →
          AllByRecursion (λ l. ((n d : ℕ) (place : Place) (k : Marks) → read_of (near_word marks.dirty len ds to) ≡ Some (Near n d place k) → place.log ≢ l) × ((then job).kind l ≡ s.kind l) × ((then job).round l ≡ s.round l)) ls
      logs_moved job [] h = tt
      logs_moved job (l ∷ ls) h = ((elsewhere l h.0.0, (round_still l h.0.0 job).0, (round_still l h.0.0 job).1), logs_moved job ls h.1)

      leaves_then : (job : Option ℕ) → Leaves s p (then job) held
      leaves_then None = record {
        lists = lists_moved None held ready.logs;
        ready = record {
          layout = layout_still s p (then None) (near_word marks.dirty len ds to) refl near_there ready.layout;
          short = λ l. put_both (λ tail. tail ≤ LOG_WORDS) s.tail to.log (to.at + size_of len) l (λ _. new.fits) (λ _. ready.short l);
          opens = put_both (λ kind. kind ≡ kinds.Open) (put s.kind s.current kinds.Sealed) to.log kinds.Open to.log (λ _. refl) (λ other. absurd (other refl));
          current = new.log;
          few = ready.few;
          logs = held_still s p (then None) (near_word marks.dirty len ds to) refl held (logs_moved None held ready.logs) ready.logs;
          once = ready.once;
        };
      }
      leaves_then (Some j) = record {
        lists = lists_moved (Some j) held ready.logs;
        ready = record {
          layout = layout_still s p (then (Some j)) (near_word marks.dirty len ds to) refl near_there ready.layout;
          short = ready.short;
          opens = ready.opens;
          current = ready.current;
          few = ready.few;
          logs = held_still s p (then (Some j)) (near_word marks.dirty len ds to) refl held (logs_moved (Some j) held ready.logs) ready.logs;
          once = ready.once;
        };
      }

      pub leaves_moved : Leaves s p (moved s p to) held
      leaves_moved = subst (λ t. Leaves s p t held) (sym moved_then) (leaves_then (copied_job written p from to))

      pub says_moved : read_of ((moved s p to).cell p) ≡ Some (Near len ds to (unmarked marks.dirty))
      says_moved =
          ap (λ (t : State). read_of (t.cell p)) moved_then ∙ ap (λ f. read_of (f p)) (cell_then (copied_job written p from to))
          ∙ ap read_of (put_same s.cell p (near_word marks.dirty len ds to) p refl) ∙ near_says

      off_moved : (ls : List ℕ) → AllByRecursion (IsOfRound s) ls → AllByRecursion (λ l. (at : ℕ) → names_place (read_of ((moved s p to).cell p)) l at ≡ false) ls
      off_moved [] h = tt
      off_moved (l ∷ ls) h = (λ at. ap (λ o. names_place o l at) says_moved ∙ sym (ap (λ o. names_place o l at) near_says) ∙ gone l h.0.0 at, off_moved ls h.1)

      pub gone_moved : Gone s p (moved s p to) held is_near
      gone_moved = record { says = ap is_near says_moved; off = off_moved held ready.logs }
