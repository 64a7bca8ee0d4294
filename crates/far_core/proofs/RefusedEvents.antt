-- Why events are refused: each cause speaks against what a legal event is.
use Rattle.std.proofs.Common.{◌≡◌, ◌≢◌, ℕ, ◌+◌, ◌-◌, ◌*◌, ◌/◌, ◌%◌, ◌^◌, ◌<◌, ◌≤◌, ◌∙◌, true, cond, arith, ap, inl, inr, refl, sym, subst, Some, None}
use Rattle.std.proofs.lemmas.Bool.{false_from_ne_true, false≢true, true≢false, lt-ltb}
use Rattle.std.proofs.Math.Nat.{div-eq_of_lt}
use Rattle.std.specs.Prelude.{is_some}
use lib.Pow.{pow_mono}
use Rattle.far_word.specs.declared.mark.Mark.TheVariants.{Hot, Evac, Dirty}
use Rattle.far_word.specs.declared.mark.Marks.{Marks}
use Rattle.far_word.specs.declared.pointer.Place.{Place}
use Rattle.far_word.specs.declared.pointer.PtrWord.TheVariants as pointer
use Rattle.far_word.specs.declared.pointer.PtrWord.TheVariants.{Near, Far}
use Rattle.far_word.specs.declared.sizes.TheConstants.{LOG_WORDS}
use Rattle.far_word.specs.Pointer.{read_of}
use Rattle.far_word.specs.Sizes.{size_of, words_for}
use Rattle.far_word.proofs.PointerLaws.{read_says}
use Rattle.far_events.specs.declared.event.Event.{Event}
use Rattle.far_events.specs.declared.event.Event.TheVariants as event
use Rattle.far_events.specs.declared.event.Reply.TheVariants.{Refused}
use Rattle.far_events.specs.events.Advance.{is_among}
use Rattle.far_events.specs.events.Legal.{Legal, HoldsWord}
use Rattle.far_events.specs.events.Offer.{MayOffer}
use Rattle.far_events.specs.events.Step.{is_legal, after, answer}
use Rattle.far_core.specs.laws.Refusals.{IsRefused, ScopesAreRefused, PointersAreRefused, WordsAreRefused, LogsAreRefused, OffersAreRefused, RoundsAreRefused, TargetsAreRefused, CopiesAreRefused}
use Rattle.far_events.specs.state.Law.{Law, in_use}
use Rattle.far_events.specs.state.State.{State, addr}
use Rattle.far_events.proofs.Cells.{held_near, unused}
use Rattle.far_events.proofs.NewSpans.{at_tail, unsealed}
use Rattle.far_core.proofs.NamingFacts.{use_bit}
use Rattle.far_core.proofs.Owing.{is_fact}
use Rattle.far_events.proofs.Quieting.{quiet_unheld}

-- an event that isn't legal is refused
pub refused : (s : State) → Law s → (e : Event) → ¬ Legal s e → IsRefused s e
refused s law e never = ap (λ b. cond b (after s e, answer s e) (s, Refused)) (false_from_ne_true (is_legal s e) (λ yes. never (is_fact s e law yes)))

-- a word in which byte n or a later one isn't 0 has more than the bytes up to an end before that
pub over : (i w n len : ℕ) → len ≤ 8 * i + n → w / 2 ^ (8 * n) ≢ 0 → ¬ (w < 2 ^ (8 * (len - 8 * i)))
over i w n len le ne lt =
    let h : 8 * (len - 8 * i) ≤ 8 * n = omega (arith, le) in
    let more : 2 ^ (8 * (len - 8 * i)) ≤ 2 ^ (8 * n) = pow_mono h in
    ne (div-eq_of_lt (omega (arith, lt, more)))

module _ (s : State) (law : Law s) where
  pub scopes_refused : ScopesAreRefused s
  scopes_refused = record {
    read_past = λ m le. refused s law (event.ReadEpoch m) (λ h. omega (arith, h.0, le));
    read_open = λ m ne. refused s law (event.ReadEpoch m) (λ h. ne h.1);
    open_past = λ m le. refused s law (event.Open m) (λ h. omega (arith, h.0.0, le));
    open_twice = λ m ne. refused s law (event.Open m) (λ h. ne h.0.1);
    open_unread = λ m none. refused s law (event.Open m) (λ h. false≢true (sym (ap is_some none) ∙ h.1));
    close_past = λ m le. refused s law (event.Close m) (λ h. omega (arith, h.0, le));
    close_closed = λ m is. refused s law (event.Close m) (λ h. h.1 is);
  }

  held_not : (p : ℕ) (place : Place) → s.held p ≡ Some place → s.held p ≢ None
  held_not p place is none = let odd : Some place ≡ None = sym is ∙ none in cc

  pub pointers_refused : PointersAreRefused s
  pointers_refused = record {
    pin_closed = λ m p is. refused s law (event.Pin m p) (λ h. h.0.1 is);
    pin_others = λ m p ne. refused s law (event.Pin m p) (λ h. ne h.1);
    pin_unused = λ m p is. refused s law (event.Pin m p) (λ h. false≢true (sym is ∙ h.2));
    pin_held = λ m p place is. refused s law (event.Pin m p) (λ h. held_not p place is h.3);
    adopt_past = λ m p le. refused s law (event.Adopt m p) (λ h. omega (arith, h.0, le));
    adopt_others = λ m p ne. refused s law (event.Adopt m p) (λ h. ne h.1);
    adopt_used = λ m p is. refused s law (event.Adopt m p) (λ h. true≢false (sym is ∙ h.2));
    adopt_free = λ m p is. refused s law (event.Adopt m p) (λ h. false≢true (sym (ap (λ w. in_use (read_of w)) is ∙ ap in_use unused) ∙ h.3));
    adopt_dropped = λ m p is. refused s law (event.Adopt m p)
        (λ h. let odd : 1 ≡ 0 = sym is ∙ use_bit (s.cell p) (law.cells.cell_read p).0 _ refl h.3 in omega (arith, odd));
    ask_past = λ m p k le. refused s law (event.Ask m p k) (λ h. omega (arith, h.1, le));
    ask_others = λ m p k ne. refused s law (event.Ask m p k) (λ h. ne h.2);
    ask_unused = λ m p k is. refused s law (event.Ask m p k) (λ h. false≢true (sym is ∙ h.3));
    ask_held = λ m p k place is. refused s law (event.Ask m p k) (λ h. held_not p place is h.4);
    ask_hot = λ m p. refused s law (event.Ask m p Hot) (λ h. false≢true h.0);
    ask_evac = λ m p. refused s law (event.Ask m p Evac) (λ h. false≢true h.0);
    ask_dirty = λ m p. refused s law (event.Ask m p Dirty) (λ h. false≢true h.0);
  }

  -- what is held is held under an open scope, and is near with its own length
  not_closed : (m p i len : ℕ) → HoldsWord s m p i len → s.scope m ≢ 0
  not_closed m p i len h = subst (λ n. s.scope n ≢ 0) h.1.own (law.views.held_open p (ap is_some h.1.rests))

  not_past : (m p i n len ds : ℕ) (place : Place) (k : Marks) → read_of (s.cell p) ≡ Some (Near len ds place k) → HoldsWord s m p i n → n ≡ len
  not_past m p i n len ds place k is h = let same : Some (Near n h.1.near.0 h.0 h.1.near.1) ≡ Some (Near len ds place k) = sym h.1.near.2 ∙ is in cc

  pub words_refused : WordsAreRefused s
  words_refused = record {
    load_closed = λ m p i is. refused s law (event.Load m p i) (λ h. not_closed m p i h.0 h.1 is);
    load_others = λ m p i ne. refused s law (event.Load m p i) (λ h. ne h.1.1.own);
    load_unheld = λ m p i none. refused s law (event.Load m p i) (λ h. held_not p h.1.0 h.1.1.rests none);
    load_past = λ m p i len ds place k is le. refused s law (event.Load m p i) (λ h. let long : h.0 ≡ len = not_past m p i h.0 len ds place k is h.1 in omega (arith, h.1.2, long, le));
    store_closed = λ m p i w is. refused s law (event.Store m p i w) (λ h. not_closed m p i h.0 h.1 is);
    store_others = λ m p i w ne. refused s law (event.Store m p i w) (λ h. ne h.1.1.own);
    store_unheld = λ m p i w none. refused s law (event.Store m p i w) (λ h. held_not p h.1.0 h.1.1.rests none);
    store_unsoiled = λ m p i w is. refused s law (event.Store m p i w) (λ h. false≢true (sym is ∙ h.3));
    soil_closed = λ m p is. refused s law (event.Soil m p) (λ h. law.views.held_open p h.1 (ap s.scope h.0 ∙ is));
    soil_others = λ m p ne. refused s law (event.Soil m p) (λ h. ne h.0);
    soil_unheld = λ m p none. refused s law (event.Soil m p) (λ h. false≢true (sym (ap is_some none) ∙ h.1));
    soil_quiet = λ m p quiet. refused s law (event.Soil m p) (λ h. false≢true (sym (ap is_some (quiet_unheld s law p quiet)) ∙ h.1));
    store_past = λ m p i w len ds place k is le. refused s law (event.Store m p i w) (λ h. let long : h.0 ≡ len = not_past m p i h.0 len ds place k is h.1 in omega (arith, h.1.2, long, le));
    store_over = λ m p i w n len ds place k is le ne. refused s law (event.Store m p i w)
        (λ h. let long : h.0 ≡ len = not_past m p i h.0 len ds place k is h.1 in over i w n h.0 (omega (arith, long, le)) ne h.2);
  }

  pub logs_refused : LogsAreRefused s
  logs_refused = record {
    get_past = λ l at free le. refused s law (event.Get l at free) (λ h. omega (arith, h.0, le));
    get_over = λ l at free le. refused s law (event.Get l at free) (λ h. omega (arith, h.1, le));
    free_unsealed = λ l at ne. refused s law (event.Get l at true) (λ h. ne h.2.0);
    free_occupied = λ l at p len ds place k is there. refused s law (event.Get l at true) (λ h. h.2.1 p len ds place k is there);
    free_viewed = λ l at p place is there. refused s law (event.Get l at true)
        (λ h. let x = held_near _ place (law.views.held_names p place is) in h.2.1 p x.len x.ds place x.marks x.near there);
    free_copied = λ l at j job is there. refused s law (event.Get l at true) (λ h. elim there [ inl from ↦ (h.2.2 j job is).0 from | inr to ↦ (h.2.2 j job is).1 to ]);
    put_past = λ l at w le. refused s law (event.Put l at w) (λ h. omega (arith, h.0, le));
    put_over = λ l at w le. refused s law (event.Put l at w) (λ h. omega (arith, h.3, le));
    put_sealed = λ l at w is. refused s law (event.Put l at w) (λ h. h.1 is);
    put_below = λ l at w lt. refused s law (event.Put l at w) (λ h. omega (arith, h.2, lt));
  }

  -- what a near cell isn't
  near_not_free : (p len ds : ℕ) (place : Place) (k : Marks) → s.cell p ≡ 0 → read_of (s.cell p) ≢ Some (Near len ds place k)
  near_not_free p len ds place k is near = let odd : Some pointer.Free ≡ Some (Near len ds place k) = sym unused ∙ sym (ap read_of is) ∙ near in cc

  near_not_far : (p n d len ds : ℕ) (place : Place) (j k : Marks) → read_of (s.cell p) ≡ Some (Far n d j) → read_of (s.cell p) ≢ Some (Near len ds place k)
  near_not_far p n d len ds place j k is near = let odd : Some (Far n d j) ≡ Some (Near len ds place k) = sym is ∙ near in cc

  same_place : (p n d len ds : ℕ) (at place : Place) (j k : Marks) → read_of (s.cell p) ≡ Some (Near n d at j) → read_of (s.cell p) ≡ Some (Near len ds place k) → at ≡ place
  same_place p n d len ds at place j k is near = let same : Some (Near n d at j) ≡ Some (Near len ds place k) = sym is ∙ near in cc

  among : (logs l : ℕ) → l < 64 → logs / 2 ^ l % 2 ≡ 1 → is_among logs l ≡ true
  among logs l lt is = rw (lt-ltb l 64 lt, is) refl

  near_log : (p len ds : ℕ) (place : Place) (k : Marks) → read_of (s.cell p) ≡ Some (Near len ds place k) → place.log < 64
  near_log p len ds place k is = (read_says (s.cell p) (Near len ds place k) (law.cells.cell_read p).0 is).0.3

  pub rounds_refused : RoundsAreRefused s
  rounds_refused = record {
    see_past = λ p le. refused s law (event.See p) (λ h. omega (arith, h, le));
    mark_past = λ p le. refused s law (event.Mark p) (λ h. omega (arith, h.0, le));
    mark_free = λ p is. refused s law (event.Mark p) (λ h. near_not_free p h.1.0 h.1.1 h.1.2 h.1.3 is h.1.4);
    mark_far = λ p len ds k is. refused s law (event.Mark p) (λ h. near_not_far p len ds h.1.0 h.1.1 h.1.2 k h.1.3 is h.1.4);
    mark_unsealed = λ p len ds place k is ne. refused s law (event.Mark p)
        (λ h. ne (ap (λ (x : Place). s.kind x.log) (same_place p len ds h.1.0 h.1.1 place h.1.2 k h.1.3 is h.1.4) ∙ h.1.6));
    clear_past = λ p le. refused s law (event.Clear p) (λ h. omega (arith, h.0, le));
    clear_free = λ p is. refused s law (event.Clear p) (λ h. near_not_free p h.1.0 h.1.1 h.1.2 h.1.3 is h.1.4);
    clear_far = λ p len ds k is. refused s law (event.Clear p) (λ h. near_not_far p len ds h.1.0 h.1.1 h.1.2 k h.1.3 is h.1.4);
    look_past = λ m le. refused s law (event.Look m) (λ h. omega (arith, h, le));
    see_job_past = λ j le. refused s law (event.SeeJob j) (λ h. omega (arith, h, le));
    peek_job_past = λ c j le. refused s law (event.PeekJob c j) (λ h. omega (arith, h.1, le));
    peek_job_none = λ c j le. refused s law (event.PeekJob c j) (λ h. omega (arith, h.0, le));
    advance_last = λ logs is. refused s law (event.Advance logs) (λ h. omega (arith, h.below, is));
    advance_unsealed = λ logs l lt is ne. refused s law (event.Advance logs) (λ h. ne (h.shut l (among logs l lt is)).1);
    advance_past = λ logs l lt is le. refused s law (event.Advance logs) (λ h. let low : l < s.logs = (h.shut l (among logs l lt is)).0 in omega (arith, low, le));
    advance_unmarked = λ logs p len ds place k near is none. refused s law (event.Advance logs)
        (λ h. false≢true (sym none ∙ h.marked p len ds place k near (among logs place.log (near_log p len ds place k near) is)));
  }

  -- what is offered is near, with its own length and data structure, at its own place
  offers_near : (j p len ds : ℕ) (to from : Place) (k : Marks) → read_of (s.cell p) ≡ Some (Near len ds from k) → Legal s (event.Offer j p to) → MayOffer s p len ds from to k
  offers_near j p len ds to from k is h =
      let same : Some (Near h.3.0 h.3.1 h.3.2 h.3.3) ≡ Some (Near len ds from k) = sym h.3.4.near ∙ is in
      let long : h.3.0 ≡ len = cc in
      let of : h.3.1 ≡ ds = cc in
      let there : h.3.2 ≡ from = cc in
      let marks : h.3.3 ≡ k = cc in
      subst (λ (n : ℕ). MayOffer s p n ds from to k) long (subst (λ (d : ℕ). MayOffer s p h.3.0 d from to k) of
      (subst (λ (x : Place). MayOffer s p h.3.0 h.3.1 x to k) there (subst (λ (m : Marks). MayOffer s p h.3.0 h.3.1 h.3.2 to m) marks h.3.4)))

  offers_refused : (j p : ℕ) (to : Place) → OffersAreRefused s j p to
  offers_refused j p to = record {
    past_jobs = λ le. refused s law (event.Offer j p to) (λ h. omega (arith, h.0, le));
    past = λ le. refused s law (event.Offer j p to) (λ h. omega (arith, h.1, le));
    twice = λ ne. refused s law (event.Offer j p to) (λ h. ne h.2);
    free = λ is. refused s law (event.Offer j p to) (λ h. near_not_free p h.3.0 h.3.1 h.3.2 h.3.3 is h.3.4.near);
    far = λ len ds k is. refused s law (event.Offer j p to) (λ h. near_not_far p len ds h.3.0 h.3.1 h.3.2 k h.3.3 is h.3.4.near);
    unmarked = λ len ds from k is none. refused s law (event.Offer j p to) (λ h. false≢true (sym none ∙ (offers_near j p len ds to from k is h).marked));
    outside = λ len ds from k is none. refused s law (event.Offer j p to) (λ h. false≢true (sym none ∙ (offers_near j p len ds to from k is h).chosen));
    unseen = λ none. refused s law (event.Offer j p to) (λ h. false≢true (sym none ∙ h.3.4.seen));
  }

  targets_refused : (j p len ds : ℕ) (to from : Place) (k : Marks) → read_of (s.cell p) ≡ Some (Near len ds from k) → TargetsAreRefused s j p len ds to
  targets_refused j p len ds to from k is = record {
    past_logs = λ le. refused s law (event.Offer j p to) (λ h. omega (arith, h.3.4.span.next.0, le));
    shut = λ shut. refused s law (event.Offer j p to) (λ h. unsealed s to h.3.4.span.next shut);
    off_tail = λ open_log ne. refused s law (event.Offer j p to) (λ h. ne (at_tail s law to h.3.4.span.next));
    off_start = λ free ne. refused s law (event.Offer j p to) (λ h. ne (at_tail s law to h.3.4.span.next ∙ law.logs.free_tail to.log free));
    over = λ lt. refused s law (event.Offer j p to) (λ h. let fits : to.at + size_of len ≤ LOG_WORDS = (offers_near j p len ds to from k is h).fits in omega (arith, fits, lt));
    headless = λ ne. refused s law (event.Offer j p to) (λ h. ne (offers_near j p len ds to from k is h).span.head);
    not_blank = λ i low last ne. refused s law (event.Offer j p to)
        (λ h. let at : words_for len - 1 ≡ i = omega arith in ne (ap (λ n. s.word (addr to + 1 + n)) (sym at) ∙ (offers_near j p len ds to from k is h).ends));
  }

  pub copies_refused : CopiesAreRefused s
  copies_refused = (offers_refused, targets_refused)
