-- A new place is named, and the law stays.
use Rattle.std.proofs.Common.{◌≡◌, ◌≢◌, ℕ, ◌+◌, ◌*◌, ◌/◌, ◌%◌, ◌<◌, ◌≤◌, ◌^◌, Bool, true, false, arith, sym, refl, ap, subst, ◌∙◌, Option, Some, None, inl, inr}
use Rattle.std.specs.Prelude.{IsSome, is_some}
use Rattle.std.proofs.lemmas.Bool.{cases_lt, cases_eq, false≢true, false_from_ne_true}
use Rattle.far_word.specs.declared.header.HeadWord.{HeadWord}
use Rattle.far_word.specs.declared.mark.Marks.{Marks}
use Rattle.far_word.specs.declared.pointer.Place.{Place}
use Rattle.far_word.specs.declared.pointer.PtrWord.{PtrWord}
use Rattle.far_word.specs.declared.pointer.PtrWord.TheVariants.{Near, Far}
use Rattle.far_word.specs.declared.sizes.TheConstants.{CELLS, LOG_WORDS, LONGEST}
use Rattle.far_word.specs.Header.{head_of, head_word}
use Rattle.far_word.specs.Pointer.{read_of}
use Rattle.far_word.specs.Sizes.{size_of}
use Rattle.far_events.specs.declared.event.Kind.TheVariants.{Free, Open, Sealed}
use Rattle.far_events.specs.state.Law.{Heads, Law, SpanAt, Padded, HasEvac, NamesBack, StoresBack, IsBlank, IsClean, Blank, held_place, in_use, head_len, is_dirty}
use Rattle.far_events.specs.state.State.{Copying, State, put, addr}
use Rattle.far_events.specs.events.NewSpans.{with_begun, with_span}
use Rattle.far_events.specs.state.Jobs.{near_place, CopyLaw}
use Rattle.far_events.proofs.Cells.{Heads-same}
use Rattle.far_core.proofs.KeepJobs.{copies_with_begun, copies_with_span}
use Rattle.far_events.proofs.Put.{put_both, put_same, put_other}
use Rattle.far_events.proofs.Bounds.{header}

-- ---- the spans with one more at the tail of its log
module _ (s : State) (law : Law s) (len : ℕ) (place : Place)
    (some : 0 < len) (most : len ≤ LONGEST) (room : place.at + size_of len ≤ LOG_WORDS) (here : place.at ≡ s.tail place.log) where
  abbrev tail : ℕ → ℕ
  tail = put s.tail place.log (place.at + size_of len)

  abbrev starts : ℕ → Bool
  starts = put s.starts (addr place) true

  in_log : (k : ℕ) → k < size_of len → ((addr place + k) / LOG_WORDS ≡ place.log) × ((addr place + k) % LOG_WORDS ≡ place.at + k)
  in_log k lt = (omega arith, omega arith)

  -- no span begins at the tail or behind it
  none_past : (k : ℕ) → k < size_of len → s.starts (addr place + k) ≡ false
  none_past k lt = false_from_ne_true _ (λ h.
      let span = law.spans.span (addr place + k) h in
      let q = in_log k lt in
      let fits : (addr place + k) % LOG_WORDS + size_of (head_len (s.word (addr place + k))) ≤ s.tail place.log =
      subst (λ l. (addr place + k) % LOG_WORDS + size_of (head_len (s.word (addr place + k))) ≤ s.tail l) q.0 span.fits in
      omega arith)

  pub new_span : SpanAt tail starts (addr place) len
  new_span =
      let l : addr place / LOG_WORDS ≡ place.log = omega arith in
      record {
        some = some;
        most = most;
        fits = rw (put_same s.tail place.log (place.at + size_of len) (addr place / LOG_WORDS) l) (omega arith);
        alone = λ k low high. put_other s.starts (addr place) true (addr place + k) (λ e. omega arith) ∙ none_past k high;
        next = λ more. absurd (omega (arith, put_same s.tail place.log (place.at + size_of len) (addr place / LOG_WORDS) l));
      }

  -- an old span ends before the new one
  below_new : (a n k : ℕ) → SpanAt s.tail s.starts a n → k < size_of n → a + k ≢ addr place
  below_new a n k span lt e =
      let l : a / LOG_WORDS ≡ place.log = omega (arith, span.fits, law.logs.tail_end (a / LOG_WORDS)) in
      let fits : a % LOG_WORDS + size_of n ≤ s.tail place.log = subst (λ l. a % LOG_WORDS + size_of n ≤ s.tail l) l span.fits in
      omega arith

  next_after : (a n : ℕ) → a % LOG_WORDS + size_of n ≤ s.tail (a / LOG_WORDS) → (a % LOG_WORDS + size_of n < s.tail (a / LOG_WORDS) → s.starts (a + size_of n) ≡ true) →
      a % LOG_WORDS + size_of n < tail (a / LOG_WORDS) → starts (a + size_of n) ≡ true
  next_after a n fits next more = put_both (λ b. b ≡ true) s.starts (addr place) true (a + size_of n) (λ _. refl) (λ other. next
      (put_both (λ t. a % LOG_WORDS + size_of n < t → a % LOG_WORDS + size_of n < s.tail (a / LOG_WORDS)) s.tail place.log _ (a / LOG_WORDS)
      (λ e lt. let old : s.tail (a / LOG_WORDS) ≡ s.tail place.log = ap s.tail e in let apart : a + size_of n ≢ addr place = other in omega arith)
      (λ _ lt. lt) more))

  pub old_span : (a n : ℕ) → SpanAt s.tail s.starts a n → SpanAt tail starts a n
  old_span a n span = record {
    some = span.some;
    most = span.most;
    fits = put_both (λ t. a % LOG_WORDS + size_of n ≤ t) s.tail place.log _ (a / LOG_WORDS)
        (λ e. let old : s.tail (a / LOG_WORDS) ≡ s.tail place.log = ap s.tail e in omega (arith, span.fits)) (λ _. span.fits);
    alone = λ k low high. put_other s.starts (addr place) true (a + k) (below_new a n k span high) ∙ span.alone k low high;
    next = next_after a n span.fits span.next;
  }

-- with more spans begun, each pointer is named back as it was
NamesBack-more : (word : ℕ → ℕ) (old new : ℕ → Bool) → ((a : ℕ) → old a ≡ true → new a ≡ true) → (p : ℕ) (o : Option PtrWord) → NamesBack word old p o → NamesBack word new p o
NamesBack-more word old new more p o h = λ len ds place m e. record { placed = more _ (h len ds place m e).placed; head = (h len ds place m e).head }

-- ---- a span is begun, and no pointer names it
module _ (s : State) (law : Law s) (p len ds : ℕ) (place : Place) (cell : p < CELLS * s.mutators)
    (some : 0 < len) (most : len ≤ LONGEST) (room : place.at + size_of len ≤ LOG_WORDS) (log : place.log < s.logs) (unsealed : s.kind place.log ≢ Sealed)
    (here : place.at ≡ s.tail place.log) (head : head_of (s.word (addr place)) ≡ Some (header p len ds)) (pads : Padded s.word (addr place) len) where
  size : head_len (s.word (addr place)) ≡ len
  size = rw head refl

  more : (a : ℕ) → s.starts a ≡ true → put s.starts (addr place) true a ≡ true
  more a h = put_both (λ b. b ≡ true) s.starts (addr place) true a (λ _. refl) (λ _. h)

  -- the log isn't sealed, so it isn't in the round
  pub out : s.round place.log ≡ false
  out = false_from_ne_true (s.round place.log) (λ inside. unsealed (law.rounds.round_sealed place.log inside))

  -- no span began there
  pub none_here : s.starts (addr place) ≡ false
  none_here = ap s.starts (omega arith) ∙ none_past s law len place some most room here 0 (omega arith)

  pub law_with_begun : Law (with_begun s len place)
  law_with_begun = record {
    shape = law.shape;
    cells = record {
      cell_read = law.cells.cell_read;
      cell_range = law.cells.cell_range;
      cell_near = λ q. NamesBack-more s.word s.starts _ more q _ (law.cells.cell_near q);
      cell_far = law.cells.cell_far;
    };
    spans = record {
      word_fits = law.spans.word_fits;
      first_span = λ l some. elim (cases_eq l place.log) [
        | inl e ↦ elim (cases_lt 0 (s.tail l)) [
          | inl old ↦ more (l * LOG_WORDS) (law.spans.first_span l old)
          | inr none ↦ put_same s.starts (addr place) true (l * LOG_WORDS) (let old : s.tail l ≡ s.tail place.log = ap s.tail e in omega arith)
        ]
        | inr ne ↦ more (l * LOG_WORDS) (law.spans.first_span l (rw (put_other s.tail place.log (place.at + size_of len) l ne) at some))
      ];
      span = λ a. put_both (λ b. b ≡ true → SpanAt (put s.tail place.log (place.at + size_of len)) (put s.starts (addr place) true) a (head_len (s.word a))) s.starts (addr place) true a
          (λ e _. rw (e, size) (new_span s law len place some most room here))
          (λ _ h. old_span s law len place some most room here a _ (law.spans.span a h));
      span_header = λ a h. put_both (λ b. b ≡ true → head_of (s.word a) ≡ Some h → h.pointer < CELLS * s.mutators) s.starts (addr place) true a
          (λ e _ is. let is2 : Some (header p len ds) ≡ Some h = sym head ∙ ap (λ x. head_of (s.word x)) (sym e) ∙ is in let same : header p len ds ≡ h = cc in subst (λ (x : HeadWord). x.pointer < CELLS * s.mutators) same cell)
          (λ _. law.spans.span_header a h);
      span_padding = λ a. put_both (λ b. b ≡ true → Padded s.word a (head_len (s.word a))) s.starts (addr place) true a
          (λ e _. rw (e, size) pads)
          (λ _. law.spans.span_padding a);
    };
    logs = record {
      tail_end = λ l. put_both (λ t. t ≤ LOG_WORDS) s.tail place.log _ l (λ _. room) (λ _. law.logs.tail_end l);
      free_tail = λ l. put_both (λ k. k ≡ Free → put s.tail place.log (place.at + size_of len) l ≡ 0) (put s.kind s.current Sealed) place.log Open l (λ _ is. absurd cc)
          (λ ne. put_both (λ k. k ≡ Free → put s.tail place.log (place.at + size_of len) l ≡ 0) s.kind s.current Sealed l (λ _ is. absurd cc) (λ _ is. put_other s.tail place.log _ l ne ∙ law.logs.free_tail l is));
      log_range = λ l. put_both (λ k. k ≢ Free → l < s.logs) (put s.kind s.current Sealed) place.log Open l (λ e _. rw e log)
          (λ _. put_both (λ k. k ≢ Free → l < s.logs) s.kind s.current Sealed l
          (λ e _. rw e (law.logs.log_range s.current (λ f. let odd : Open ≡ Free = sym law.logs.is_open ∙ f in cc))) (λ _. law.logs.log_range l));
      is_open = put_same (put s.kind s.current Sealed) place.log Open place.log refl;
      one_open = λ l. put_both (λ k. k ≡ Open → l ≡ place.log) (put s.kind s.current Sealed) place.log Open l (λ e _. e)
          (λ _. put_both (λ k. k ≡ Open → l ≡ place.log) s.kind s.current Sealed l (λ _ is. absurd cc) (λ ne is. absurd (ne (law.logs.one_open l is))));
    };
    scopes = law.scopes;
    views = law.views;
    rounds = record {
      round_sealed = λ l inside. put_both (λ k. k ≡ Sealed) (put s.kind s.current Sealed) place.log Open l (λ e. absurd (false≢true (sym (ap s.round e ∙ out) ∙ inside)))
          (λ _. put_both (λ k. k ≡ Sealed) s.kind s.current Sealed l (λ _. refl) (λ _. law.rounds.round_sealed l inside));
      round_evac = law.rounds.round_evac;
      own_epoch = law.rounds.own_epoch;
    };
    clears = law.clears;
    unadopted = law.unadopted;
    copies = copies_with_begun s (put s.starts (addr place) true) law more;
    soils = law.soils;
    cleans = law.cleans;
  }

-- ---- a span that is placed is named, outside the round
module _ (s : State) (law : Law s) (p len ds : ℕ) (place : Place) (m : Marks) (new : ℕ)
    (says : read_of new ≡ Some (Near len ds place m)) (fits : new < 2 ^ 64) (cell : p < CELLS * s.mutators) (unheld : s.held p ≡ None) (live : s.used p ≡ true → in_use (read_of new) ≡ true)
    (heads : Heads s.word s.starts p len ds place) (out : s.round place.log ≡ false) (blank : s.honest ≡ true → s.used p ≡ false → Blank s.word len place)
    (clean : IsClean s.honest s.word (s.stored p) (read_of new)) (k : Copying) (copies : CopyLaw (put s.cell p new) s.word s.starts s.round s.round_epoch s.clear k) where
  pub law_with_named : Law record s { cell = put s.cell p new; copying = k }
  law_with_named = record {
    shape = law.shape;
    cells = record {
      cell_read = λ q. put_both (λ w. (w < 2 ^ 64) × IsSome (read_of w)) s.cell p new q (λ _. (fits, rw says refl)) (λ _. law.cells.cell_read q);
      cell_range = λ q. put_both (λ w. w ≢ 0 → q < CELLS * s.mutators) s.cell p new q (λ e _. rw e cell) (λ _. law.cells.cell_range q);
      cell_near = λ q. put_both (λ w. NamesBack s.word s.starts q (read_of w)) s.cell p new q
          (λ e n d at k is. let is2 : Some (Near len ds place m) ≡ Some (Near n d at k) = sym says ∙ is in
          Heads-same s.word s.starts q len ds n d place at (cc) (cc) (cc) (rw e heads))
          (λ _. law.cells.cell_near q);
      cell_far = λ q. put_both (λ w. StoresBack (s.stored q) (read_of w)) s.cell p new q
          (λ _ n d k is. let odd : Some (Near len ds place m) ≡ Some (Far n d k) = sym says ∙ is in absurd cc) (λ _. law.cells.cell_far q);
    };
    spans = law.spans;
    logs = law.logs;
    scopes = law.scopes;
    views = record {
      held_open = law.views.held_open;
      held_names = λ q at h. put_both (λ w. held_place (read_of w) ≡ Some at) s.cell p new q
          (λ e. let odd : None ≡ Some at = sym unheld ∙ ap s.held (sym e) ∙ h in absurd cc) (λ _. law.views.held_names q at h);
      held_used = law.views.held_used;
      used_cell = λ q h. put_both (λ w. in_use (read_of w) ≡ true) s.cell p new q (λ e. live (ap s.used (sym e) ∙ h)) (λ _. law.views.used_cell q h);
    };
    rounds = record {
      round_sealed = law.rounds.round_sealed;
      round_evac = λ q. put_both (λ w. HasEvac s.round (read_of w)) s.cell p new q
          (λ _ n d at k is inside. let is2 : Some (Near len ds place m) ≡ Some (Near n d at k) = sym says ∙ is in let there : place ≡ at = cc in
          absurd (false≢true (sym out ∙ ap (λ (x : Place). s.round x.log) there ∙ inside)))
          (λ _. law.rounds.round_evac q);
      own_epoch = law.rounds.own_epoch;
    };
    clears = law.clears;
    unadopted = λ honest q free. put_both (λ w. IsBlank s.word (s.stored q) (read_of w)) s.cell p new q
        (λ e. record {
          near = λ n d at k is _ i lt. let is2 : Some (Near len ds place m) ≡ Some (Near n d at k) = sym says ∙ is in
              let there : place ≡ at = cc in let long : len ≡ n = cc in
              ap (λ x. s.word (addr x + 1 + i)) (sym there) ∙ blank honest (ap s.used (sym e) ∙ free) i (omega arith);
          far = λ n d k is. let odd : Some (Near len ds place m) ≡ Some (Far n d k) = sym says ∙ is in absurd cc;
        })
        (λ _. law.unadopted honest q free);
    copies = copies;
    soils = record {
      soiled_held = law.soils.soiled_held;
      soiled_dirty = λ q h. put_both (λ w. is_dirty (read_of w) ≡ true) s.cell p new q
          (λ e. absurd (false≢true (sym (ap is_some (ap s.held e ∙ unheld)) ∙ law.soils.soiled_held q h))) (λ _. law.soils.soiled_dirty q h);
    };
    cleans = λ q. put_both (λ w. IsClean s.honest s.word (s.stored q) (read_of w)) s.cell p new q
        (λ e. subst (λ x. IsClean s.honest s.word (s.stored x) (read_of new)) (sym e) clean) (λ _. law.cleans q);
  }

-- ---- a new span is named
module _ (s : State) (law : Law s) (p len ds : ℕ) (place : Place) (m : Marks) (new : ℕ)
    (says : read_of new ≡ Some (Near len ds place m)) (fits : new < 2 ^ 64) (cell : p < CELLS * s.mutators) (unheld : s.held p ≡ None) (live : s.used p ≡ true → in_use (read_of new) ≡ true)
    (some : 0 < len) (most : len ≤ LONGEST) (room : place.at + size_of len ≤ LOG_WORDS) (log : place.log < s.logs) (unsealed : s.kind place.log ≢ Sealed)
    (here : place.at ≡ s.tail place.log) (named : s.word (addr place) ≡ head_word p len ds) (head : head_of (s.word (addr place)) ≡ Some (header p len ds))
    (pads : Padded s.word (addr place) len) (blank : s.honest ≡ true → s.used p ≡ false → Blank s.word len place) (clean : IsClean s.honest s.word (s.stored p) (read_of new)) where
  pub law_with_span : Law (with_span s p new len place)
  law_with_span =
      let begun = law_with_begun s law p len ds place cell some most room log unsealed here head pads in
      law_with_named (with_begun s len place) begun p len ds place m new says fits cell unheld live
      (record { placed = put_same s.starts (addr place) true (addr place) refl; head = named })
      (out s law p len ds place cell some most room log unsealed here head pads) blank clean s.copying
      (copies_with_span s p new (put s.starts (addr place) true) law (more s law p len ds place cell some most room log unsealed here head pads)
      (λ at is. let there : Some place ≡ Some at = sym (ap near_place says) ∙ is in let same : place ≡ at = cc in
      ap (λ (x : Place). s.starts (addr x)) (sym same) ∙ none_here s law p len ds place cell some most room log unsealed here head pads))
