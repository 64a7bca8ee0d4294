-- An object gets a place: the law stays where it is new, and its log has one live span more.
use Rattle.std.proofs.Common.{◌≡◌, ◌≢◌, ℕ, ◌+◌, ◌-◌, ◌*◌, ◌/◌, ◌%◌, ◌^◌, ◌<◌, ◌≤◌, Bool, true, false, cond, arith, sym, refl, ap, subst, ◌∙◌, Some, None, [], ◌∷◌, ◌++◌, inl, inr}
use Rattle.std.specs.Prelude.{Contains}
use Rattle.std.proofs.lemmas.Bool.{eq-eqb, ne_eqb, cases_eq, false_from_ne_true, false≢true}
use Rattle.std.proofs.lemmas.Nat.{pow_pos}
use Rattle.far_word.specs.declared.header.HeadWord.{HeadWord}
use Rattle.far_word.specs.declared.pointer.Place.{Place}
use Rattle.far_word.specs.declared.pointer.PtrWord.TheVariants.{Near}
use Rattle.far_word.specs.declared.sizes.TheConstants.{LOG_WORDS}
use Rattle.far_word.specs.Header.{IsHead, head_word}
use Rattle.far_word.specs.Pointer.{IsPtr, read_of}
use Rattle.far_word.specs.Sizes.{size_of, words_for, bytes_taken}
use Rattle.far_word.proofs.HeaderLaws.{head_fits}
use Rattle.far_word.proofs.PointerLaws.{read_back, word_fits}
use Rattle.far_log.specs.declared.span.Span.{Span}
use Rattle.far_log.specs.Spans.{Stands, Tile, taken_by}
use Rattle.far_log.specs.Walk.{IsWalk}
use Rattle.far_log.proofs.SpanLaws.{one_list, tile_bounds}
use Rattle.far_log.proofs.WalkLaws.{walk_more, same_walk}
use Rattle.far_events.specs.declared.event.Event.TheVariants as events
use Rattle.far_events.specs.declared.event.Kind.TheVariants as kinds
use Rattle.far_events.specs.events.Legal.{IsNext}
use Rattle.far_events.specs.events.Naming.{no_marks, unmarked}
use Rattle.far_events.specs.events.NewSpans.{IsNewSpan, with_span}
use Rattle.far_events.specs.events.Step.{after}
use Rattle.far_core.specs.laws.Observed.{live_bytes, span_for}
use Rattle.far_events.specs.state.Law.{IsStored, Law, head_len}
use Rattle.far_events.specs.state.Spans.{spans_of, word_in, is_live, names_place}
use Rattle.far_events.specs.state.State.{State, put, addr}
use Rattle.far_events.proofs.Cells.{unused}
use Rattle.far_events.proofs.NewSpans.{at_tail}
use Rattle.far_core.proofs.Observations.{walks}
use Rattle.far_core.proofs.Owing.{keeps}
use Rattle.far_events.proofs.Put.{put_both, put_same, put_other}
use Rattle.far_core.proofs.TakingSpans.{clean_at, keeps_new_span}
use Rattle.far_book.specs.book.Effects.{near_word}
use Rattle.far_book.specs.book.Placeable.{Placeable, with_object}
use Rattle.far_book.proofs.region.SpanLists.{taken_same, taken_more}

-- a free cell is named: the span is taken
pub named_is : (s : State) (p len ds : ℕ) (place : Place) → s.cell p ≡ 0 → IsPtr (Near len ds place no_marks) → after s (events.Name p 0 (near_word true len ds place)) ≡ with_span s p (near_word true len ds place) len place
named_is s p len ds place free layout = rw (eq-eqb (s.cell p) 0 free, unused, read_back (Near len ds place (unmarked true)) layout) refl

-- where the next span may stand the log isn't sealed
pub next_unsealed : (s : State) (place : Place) → IsNext s place → s.kind place.log ≢ kinds.Sealed
next_unsealed s place (log, inl end) e = let odd : kinds.Open ≡ kinds.Sealed = sym end.0 ∙ e in cc
next_unsealed s place (log, inr free) e = let odd : kinds.Free ≡ kinds.Sealed = sym free.0 ∙ e in cc

module _ (s : State) (law : Law s) (p len ds : ℕ) (place : Place) (h : Placeable s p len ds place) where
  abbrev header : HeadWord
  header = record { pointer = p; len = len; ds = ds }

  head : IsHead header
  head = record { some = omega (arith, h.layout); most = omega (arith, h.layout); structure = omega (arith, h.layout); cell = omega (arith, h.pointer, law.shape.few_mutators) }

  abbrev headed : State
  headed = record s { word = put s.word (addr place) (head_word p len ds) }

  pub at_end : place.at ≡ s.tail place.log
  at_end = at_tail s law place h.next

  -- no span begins at the tail or behind it
  pub none_past : (k : ℕ) → place.at + k < LOG_WORDS → s.starts (addr place + k) ≡ false
  none_past k lt = false_from_ne_true _ (λ start.
      let span = law.spans.span (addr place + k) start in
      let q : ((addr place + k) / LOG_WORDS ≡ place.log) × ((addr place + k) % LOG_WORDS ≡ place.at + k) = (omega arith, omega arith) in
      let fits : (addr place + k) % LOG_WORDS + size_of (head_len (s.word (addr place + k))) ≤ s.tail place.log =
      subst (λ l. (addr place + k) % LOG_WORDS + size_of (head_len (s.word (addr place + k))) ≤ s.tail l) q.0 span.fits in
      omega (arith, at_end))

  pub law_headed : Law headed
  law_headed = keeps s (events.Put place.log place.at (head_word p len ds)) law (head_fits header head)
      (h.next.0, next_unsealed s place h.next, omega (arith, at_end), omega (arith, h.layout))

  -- behind the header there are zeros
  pub blank_behind : (i : ℕ) → i < words_for len → headed.word (addr place + 1 + i) ≡ 0
  blank_behind i lt = let far : addr place + 1 + i ≢ addr place = (λ e. omega arith) in
      let here : addr place + (1 + i) ≡ addr place + 1 + i = omega arith in
      put_other s.word (addr place) (head_word p len ds) (addr place + 1 + i) far ∙ h.bare (addr place + 1 + i) (sym (ap s.starts here) ∙ none_past (1 + i) (omega (arith, h.layout)))

  span : IsNewSpan headed p len ds place
  span = record { next = h.next; head = put_same s.word (addr place) (head_word p len ds) (addr place) refl }

  -- where nobody holds a view and nothing is promised of the far side, it may be named with DIRTY, and without where words of its length are stored
  pub law_then : s.held p ≡ None → s.honest ≡ false → (dirty : Bool) → (dirty ≡ false → IsStored (s.stored p) len) → Law (with_object s dirty p len ds place)
  law_then unheld unpromised dirty back =
      let says : read_of (near_word dirty len ds place) ≡ Some (Near len ds place (unmarked dirty)) = read_back (Near len ds place (unmarked dirty)) h.layout in
      let last : words_for len - 1 < words_for len = omega (arith, h.layout) in
      let some : 0 < 2 ^ (8 * (len - 8 * (words_for len - 1))) = pow_pos (8 * (len - 8 * (words_for len - 1))) in
      keeps_new_span headed law_headed p (near_word dirty len ds place) len ds place dirty says h.pointer (word_fits (Near len ds place (unmarked dirty)) h.layout) span
      (omega (arith, blank_behind (words_for len - 1) last)) unheld (λ _ _. blank_behind)
      (clean_at headed law_headed p (near_word dirty len ds place) len ds place dirty says back (λ honest. absurd (false≢true (sym unpromised ∙ honest))))

  module _ (dirty : Bool) (kept : Law (with_object s dirty p len ds place)) where
    abbrev then : State
    then = with_object s dirty p len ds place

    -- ---- the lists of spans
    tail_here : then.tail place.log ≡ s.tail place.log + size_of len
    tail_here = put_same s.tail place.log (place.at + size_of len) place.log refl ∙ ap (λ k. k + size_of len) at_end

    tail_there : (l : ℕ) → l ≢ place.log → then.tail l ≡ s.tail l
    tail_there l ne = put_other s.tail place.log (place.at + size_of len) l ne

    old_words : (l i : ℕ) → i < s.tail l → word_in then l i ≡ word_in s l i
    old_words l i lt = put_other s.word (addr place) (head_word p len ds) (l * LOG_WORDS + i) (λ e. apart e) where
      apart : l * LOG_WORDS + i ≡ addr place → ⊥
      apart e = let same : l ≡ place.log = omega (arith, law.logs.tail_end l, h.layout) in
          let tails : s.tail l ≡ s.tail place.log = ap s.tail same in
          omega (arith, at_end)

    old_walk : (l : ℕ) → IsWalk (word_in then l) (s.tail l) (spans_of s l)
    old_walk l = same_walk (word_in s l) (word_in then l) (s.tail l) (old_words l) (s.tail l) (spans_of s l) (omega arith) (walks s law l)

    new_stands : Stands (word_in then place.log) (span_for p len ds place.at)
    new_stands = record {
      header = record { layout = head; header = put_same s.word (addr place) (head_word p len ds) (addr place) refl };
      padding = λ i lt. let zero : word_in then place.log (place.at + 1 + i) ≡ 0 = blank i lt in
          let some : 0 < 2 ^ (8 * (len - 8 * i)) = pow_pos (8 * (len - 8 * i)) in omega arith;
    } where
      blank : (i : ℕ) → i < words_for len → put s.word (addr place) (head_word p len ds) (place.log * LOG_WORDS + (place.at + 1 + i)) ≡ 0
      blank i lt = let far : place.log * LOG_WORDS + (place.at + 1 + i) ≢ addr place = (λ e. omega arith) in
          let here : addr place + (1 + i) ≡ place.log * LOG_WORDS + (place.at + 1 + i) = omega arith in
          put_other s.word (addr place) (head_word p len ds) (place.log * LOG_WORDS + (place.at + 1 + i)) far ∙ h.bare (place.log * LOG_WORDS + (place.at + 1 + i)) (sym (ap s.starts here) ∙ none_past (1 + i) (omega (arith, h.layout)))

    pub spans_here : spans_of then place.log ≡ spans_of s place.log ++ span_for p len ds place.at ∷ []
    spans_here =
        let now = walks then kept place.log in
        let inside : s.tail place.log + size_of len ≤ LOG_WORDS = omega (arith, at_end, h.layout) in
        let more = walk_more (word_in then place.log) (s.tail place.log) (spans_of s place.log) (span_for p len ds place.at) (old_walk place.log) at_end new_stands inside in
        one_list (word_in then place.log) _ _ 0 (then.tail place.log) now.tile (subst (Tile 0 (spans_of s place.log ++ span_for p len ds place.at ∷ [])) (sym tail_here) more.tile) now.stand more.stand

    pub spans_there : (l : ℕ) → l ≢ place.log → spans_of then l ≡ spans_of s l
    spans_there l ne =
        let now = walks then kept l in
        let old = old_walk l in
        one_list (word_in then l) _ _ 0 (then.tail l) now.tile (subst (Tile 0 (spans_of s l)) (sym (tail_there l ne)) old.tile) now.stand old.stand

    -- ---- the live bytes
    -- no span that was there is live by the new name
    names_none : (l : ℕ) (x : Span) → Contains (spans_of s l) x → names_place (Some (Near len ds place (unmarked dirty))) l x.at ≡ false
    names_none l x member = elim (cases_eq place.log l) [
      | inl e ↦ (let below = (tile_bounds (spans_of s l) 0 (s.tail l) x (walks s law l).tile member).1 in
          let tails : s.tail place.log ≡ s.tail l = ap s.tail e in
          rw (eq-eqb place.log l e) (ne_eqb place.at x.at (λ is. omega (arith, at_end))))
      | inr ne ↦ rw (ne_eqb place.log l ne) refl
    ]

    as_live : (l : ℕ) (x : Span) → Contains (spans_of s l) x → is_live then l x ≡ is_live s l x
    as_live l x member = put_both (λ c. names_place (read_of c) l x.at ≡ names_place (read_of (s.cell x.p)) l x.at) s.cell p (near_word dirty len ds place) x.p
        (λ e. rw (read_back (Near len ds place (unmarked dirty)) h.layout) (names_none l x member ∙ sym (ap (λ q. names_place (read_of (s.cell q)) l x.at) e ∙ h.unplaced l x.at)))
        (λ _. refl)

    new_live : is_live then place.log (span_for p len ds place.at) ≡ true
    new_live = rw (put_same s.cell p (near_word dirty len ds place) p refl, read_back (Near len ds place (unmarked dirty)) h.layout, eq-eqb place.log place.log refl, eq-eqb place.at place.at refl) refl

    pub live_here : live_bytes then place.log ≡ live_bytes s place.log + bytes_taken len
    live_here =
        let list : live_bytes then place.log ≡ taken_by (is_live then place.log) (spans_of s place.log ++ span_for p len ds place.at ∷ []) = ap (taken_by (is_live then place.log)) spans_here in
        let same : taken_by (is_live then place.log) (spans_of s place.log) ≡ live_bytes s place.log = taken_same (is_live then place.log) (is_live s place.log) (spans_of s place.log) (as_live place.log) in
        let counted : cond (is_live then place.log (span_for p len ds place.at)) (bytes_taken len) 0 ≡ bytes_taken len = ap (λ b. cond b (bytes_taken len) 0) new_live in
        list ∙ taken_more (is_live then place.log) (spans_of s place.log) (span_for p len ds place.at) ∙ ap (λ n. n + cond (is_live then place.log (span_for p len ds place.at)) (bytes_taken len) 0) same ∙ ap (λ n. live_bytes s place.log + n) counted

    pub live_there : (l : ℕ) → l ≢ place.log → live_bytes then l ≡ live_bytes s l
    live_there l ne = ap (taken_by (is_live then l)) (spans_there l ne) ∙ taken_same (is_live then l) (is_live s l) (spans_of s l) (as_live l)
