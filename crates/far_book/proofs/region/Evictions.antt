-- A quiet near object goes far: what may be named, what is left of its log, and that a book stays in order.
use Rattle.std.proofs.Common.{◌≡◌, ◌≢◌, ℕ, ◌+◌, ◌-◌, ◌*◌, ◌/◌, ◌^◌, ◌<◌, ◌≤◌, Bool, true, false, cond, arith, sym, refl, ap, subst, ◌∙◌, Option, Some, None, List, Result, Ok, Err, inl, inr}
use Rattle.std.specs.Prelude.{◌==◌, ◌||◌, ◌&&◌, ◌⊎◌, eqb, not}
use Rattle.std.specs.List.{IsDistinct, list_any}
use Rattle.std.specs.Vec.{vec_len}
use Rattle.std.proofs.lemmas.Bool.{cases_eq, eq-eqb, ne_eqb, false≢true}
use Rattle.far_word.specs.declared.mark.Marks.{Marks}
use Rattle.far_word.specs.declared.pointer.Place.{Place}
use Rattle.far_word.specs.declared.pointer.PtrWord.TheVariants.{Near, Far}
use Rattle.far_word.specs.declared.refused.Refused.{Refused}
use Rattle.far_word.specs.declared.refused.Refused.TheVariants.{Device}
use Rattle.far_word.specs.declared.sizes.TheConstants.{CELLS, LOG_WORDS}
use Rattle.far_word.specs.Bytes.{bytes_of}
use Rattle.far_word.specs.Pointer.{IsPtr, read_of}
use Rattle.far_word.specs.Sizes.{bytes_taken, size_of, words_for}
use Rattle.far_word.proofs.ByteLaws.{bytes_of-same}
use Rattle.far_word.proofs.PointerLaws.{read_back, read_says, word_fits}
use Rattle.far_log.specs.Spans.{taken_by}
use Rattle.far_events.specs.declared.event.Event.TheVariants as events
use Rattle.far_events.specs.declared.naming.Naming.TheVariants as naming
use Rattle.far_events.specs.events.Copies.{data_at}
use Rattle.far_events.specs.events.Legal.{Legal}
use Rattle.far_events.specs.events.Naming.{IsNaming, is_dropped, naming_of, no_marks}
use Rattle.far_events.specs.events.namings.Evicts.{with_kept}
use Rattle.far_events.specs.events.Quiet.{IsQuiet, is_quiet_cell}
use Rattle.far_events.specs.events.Step.{after}
use Rattle.far_core.specs.laws.Observed.{live_bytes}
use Rattle.far_events.specs.state.Law.{Heads, IsStored, Law, StoresBack, head_len, is_dirty}
use Rattle.far_events.specs.state.Spans.{is_live, names_place, spans_of}
use Rattle.far_events.specs.state.State.{State, put, addr}
use Rattle.far_events.proofs.Bounds.{near_inside, span_len}
use Rattle.far_events.proofs.Cells.{unused}
use Rattle.far_core.proofs.Owing.{keeps}
use Rattle.far_events.proofs.Put.{put_both, put_old, put_same, put_two}
use Rattle.far_events.proofs.Quieting.{quiet_fact}
use Rattle.far_device.specs.Contents.{KeepsOthers}
use Rattle.far_device.specs.Faults.{is_fault}
use Rattle.far_book.specs.declared.ledger.Filled.{Filled}
use Rattle.far_book.specs.declared.ledger.Ledger.{Ledger}
use Rattle.far_hand.specs.Finds.{Finds, marks_in}
use Rattle.far_hand.specs.Known.{KnowsLeaving, StoresLeaving}
use Rattle.far_book.specs.book.Asking.{answer_of}
use Rattle.far_book.specs.book.Dealing.{Leaves, has_evac, is_failure}
use Rattle.far_book.specs.book.Effects.{evicted, evicted_of, far_word, with_free_cell}
use Rattle.far_book.specs.book.Evicting.{IsQuietData, IsQuietIn, Learns}
use Rattle.far_book.specs.book.FarSide.{HoldsFar, InOrder, kept_len}
use Rattle.far_book.specs.book.Ledger.{Loses, Notes, filled_of, is_noted_free}
use Rattle.far_book.specs.book.Jobs.{NotesJobs}
use Rattle.far_book.specs.book.NumberSet.{has}
use Rattle.far_book.specs.book.Own.{own_part}
use Rattle.far_book.specs.book.Renaming.{MayRename, Renamed, seen, stops}
use Rattle.far_book.proofs.region.FarHeld.{evicted_clean, evicted_dirty}
use Rattle.far_book.proofs.region.FarSide.{far_found}
use Rattle.far_hand.proofs.Finding.{IsNearTo, finds_same, near_found}
use Rattle.far_book.proofs.region.Calls.{put_put}
use Rattle.far_book.proofs.region.Founds.{near_used}
use Rattle.far_book.proofs.region.InOrders.{headers_keep}
use Rattle.far_book.proofs.region.Moved.{quiet_grows}
use Rattle.far_book.proofs.region.Owns.{own_forgets, own_header}
use Rattle.far_book.proofs.region.Retires as retires
use Rattle.far_book.proofs.region.SpanLists.{taken_same}

bool_cases : (b : Bool) → (b ≡ true) ⊎ (b ≡ false)
bool_cases true = inl refl
bool_cases false = inr refl

-- ---- the words of a quiet object
module _ (s : State) (law : Law (own_part s)) (p len ds : ℕ) (place : Place) (h : IsQuietIn s p len ds place) where
  pub layout : IsPtr (Near len ds place h.marks)
  layout = (read_says (s.cell p) (Near len ds place h.marks) (law.cells.cell_read p).0 h.near).0

  heads : Heads (own_part s).word s.starts p len ds place
  heads = law.cells.cell_near p len ds place h.marks h.near

  long : head_len ((own_part s).word (addr place)) ≡ len
  long = rw (span_len (own_part s) law p len ds place h.marks h.near) refl

  long_here : head_len (s.word (addr place)) ≡ len
  long_here = ap head_len (sym (own_header s (addr place) heads.placed)) ∙ long

  pub quiet_object : p < CELLS * s.mutators → IsQuietData s len place
  quiet_object pointer = record {
    most = omega (arith, layout);
    log = (near_inside (own_part s) law p len ds place h.marks h.near).0;
    inside = omega (arith, layout);
    quiet = λ i lt. record { p = p; len = len; ds = ds; place = place; marks = h.marks; index = i; pointer = pointer; near = h.near; quiet = h.quiet; inside = lt; here = refl };
    bare = λ i lt. (let e : addr place + (1 + i) ≡ addr place + 1 + i = omega arith in
        sym (ap s.starts e) ∙ (law.spans.span (addr place) heads.placed).alone (1 + i) (omega arith) (omega (arith, long)));
  }

  pub learned_stored : (word : ℕ → ℕ) → Learns s word place (words_for len) → IsStored (data_at word place) len
  learned_stored word l i lt = (
    l.known i lt,
    subst (λ n. word (addr place + 1 + i) < 2 ^ (8 * (n - 8 * i))) long_here (l.padded i lt (addr place) i heads.placed (subst (λ n. i < words_for n) (sym long_here) lt) refl),
  )

-- ---- its bytes are held
-- what is held under the key of a near object says nothing of far ones
far_beside : (s : State) (held now : ℕ → Option (List ℕ)) → HoldsFar s held → (p len ds : ℕ) (place : Place) (m : Marks) → read_of (s.cell p) ≡ Some (Near len ds place m) → m.dirty ≡ true → KeepsOthers held now p → HoldsFar s now
far_beside s held now far p len ds place m near dirty others = record {
  long = λ q k e. elim (cases_eq q p) [
    | inl same ↦ absurd (never q k same e)
    | inr ne ↦ (let x = far.long q k e in (x.0, others q ne ∙ x.1, x.2))
  ];
  same = λ honest q k e. elim (cases_eq q p) [
    | inl same ↦ absurd (never q k same e)
    | inr ne ↦ others q ne ∙ far.same honest q k e
  ];
} where
  never : (q k : ℕ) → q ≡ p → kept_len (read_of (s.cell q)) ≡ Some k → ⊥
  never q k same e =
      let odd : None ≡ Some k = sym (ap kept_len (ap (λ x. read_of (s.cell x)) same ∙ near) ∙ ap (λ b. cond b None (Some len)) dirty) ∙ e in cc

module _ (s t : State) (ledger : Ledger) (held now : ℕ → Option (List ℕ)) (is_honest honest_now : Bool) (h : InOrder s ledger held is_honest) where
  pub sent_order : Leaves s t → (p len ds : ℕ) (place : Place) (x : IsQuietIn s p len ds place) → x.marks.dirty ≡ true → KeepsOthers held now p → honest_now ≡ is_honest → InOrder t ledger now honest_now
  sent_order leaves p len ds place quiet dirty others same =
      let old = headers_keep s ledger held is_honest h t leaves.0 (λ a begun. leaves.1.headers a (ap (λ (u : State). u.starts a) leaves.0 ∙ begun)) in
      let near : read_of (t.cell p) ≡ Some (Near len ds place quiet.marks) = ap (λ (u : State). read_of (u.cell p)) leaves.0 ∙ quiet.near in
      record {
        notes = old.notes;
        far = far_beside t held now old.far p len ds place quiet.marks near dirty others;
        honest = λ e. same ∙ old.honest e;
      }

-- ---- the naming
-- the object is far, its words stored
abbrev pub sent : State → ℕ → ℕ → ℕ → Place → State
sent s p len ds place = record s { cell = put s.cell p (far_word len ds); stored = put s.stored p (with_kept s.word s.stored p (addr place + 1) (words_for len)) }

pub evicts_form : (len ds : ℕ) (place : Place) (m : Marks) → m.dropped ≡ false → m.evac ≡ true → naming_of (Some (Near len ds place m)) (Some (Far len ds no_marks)) ≡ Some (naming.Evicts len place)
evicts_form len ds place m alive evac = rw (eq-eqb len len refl, eq-eqb ds ds refl, alive, evac) refl

pub far_says : (len ds : ℕ) → IsPtr (Far len ds no_marks) → read_of (far_word len ds) ≡ Some (Far len ds no_marks)
far_says len ds layout = read_back (Far len ds no_marks) layout

module _ (s : State) (p len ds : ℕ) (place : Place) (layout : IsPtr (Far len ds no_marks)) where
  pub named_far : (w : ℕ) (m : Marks) → s.cell p ≡ w → read_of w ≡ Some (Near len ds place m) → m.dropped ≡ false → m.evac ≡ true → after s (events.Name p w (far_word len ds)) ≡ sent s p len ds place
  named_far w m is near alive evac = rw (eq-eqb (s.cell p) w is, near, far_says len ds layout, evicts_form len ds place m alive evac) refl

  pub evicted_is : (m : Marks) → read_of (s.cell p) ≡ Some (Near len ds place m) → m.dropped ≡ false → m.evac ≡ true → evicted s p ≡ sent s p len ds place
  evicted_is m near alive evac = ap (evicted_of s p) near ∙ named_far (s.cell p) m refl near alive evac

had : (d a k : Bool) → (d || (a && not k)) ≡ false → a ≡ true → k ≡ true
had true a k h e = absurd (false≢true (sym h))
had false true true h e = refl
had false true false h e = absurd (false≢true (sym h))
had false false k h e = absurd (false≢true e)

lives : (d x : Bool) → (d || x) ≡ false → d ≡ false
lives true x h = absurd (false≢true (sym h))
lives false x h = refl

module _ (s : State) (p len ds : ℕ) (place : Place) (h : IsQuietIn s p len ds place) (evac : h.marks.evac ≡ true) (layout : IsPtr (Far len ds no_marks)) where
  module _ (w : ℕ) (f : Finds (s.cell p) w) (alive : is_dropped (read_of w) ≡ false) where
    now : IsNearTo (read_of w) len ds place h.marks.evac
    now = near_found (s.cell p) w f len ds place h.marks h.near

    alive_now : now.marks.dropped ≡ false
    alive_now = sym (ap is_dropped now.near) ∙ alive

    pub form : IsNaming (naming.Evicts len place) (read_of w) (read_of (far_word len ds))
    form = (ds, now.marks, now.near, alive_now, now.same ∙ evac, far_says len ds layout)

    cell_now : read_of ((seen s p w).cell p) ≡ Some (Near len ds place now.marks)
    cell_now = ap read_of (put_same s.cell p w p refl) ∙ now.near

    quiet_now : IsQuiet (seen s p w) p
    quiet_now =
        let up : h.marks.moved ≡ true → now.marks.moved ≡ true = (λ e. sym (ap (λ o. (marks_in o).moved) now.near) ∙ f.moved (ap (λ o. (marks_in o).moved) h.near ∙ e)) in
        let more = quiet_grows h.marks.moved now.marks.moved h.marks.evac (s.round place.log) (s.clear (p / CELLS)) up h.quiet in
        quiet_fact (seen s p w) p (ap (is_quiet_cell (seen s p w) p) cell_now ∙ (ap (λ e. now.marks.moved || (e && s.round place.log && s.clear (p / CELLS))) now.same ∙ more))

    -- it has DIRTY only where it had
    pub dirt : stops (read_of (s.cell p)) (read_of w) ≡ false → is_dirty (read_of w) ≡ true → h.marks.dirty ≡ true
    dirt on dirty = had (is_dropped (read_of w)) (is_dirty (read_of w)) h.marks.dirty (subst (λ o. stops o (read_of w) ≡ false) h.near on) dirty

    knows : stops (read_of (s.cell p)) (read_of w) ≡ false → (h.marks.dirty ≡ true → IsStored (data_at s.word place) len) → KnowsLeaving (seen s p w) w (far_word len ds)
    knows on all n at other dirty i lt =
        let words = all (dirt on dirty) in
        let both : Some (Near len ds place now.marks) ≡ Some (Near n other.0 at other.1) = sym now.near ∙ other.2 in
        let lens : len ≡ n = cc in
        let ats : place ≡ at = cc in
        subst (λ (q : Place). s.word (addr q + 1 + i) < 2 ^ 64) ats (words i (omega arith)).0

    pub after_far : after (seen s p w) (events.Name p w (far_word len ds)) ≡ sent s p len ds place
    after_far = named_far (seen s p w) p len ds place layout w now.marks (put_same s.cell p w p refl) now.near alive_now (now.same ∙ evac)
        ∙ (λ i. record (sent s p len ds place) { cell = put_put s.cell p w (far_word len ds) i })

  may_go : p < CELLS * s.mutators → (h.marks.dirty ≡ true → IsStored (data_at s.word place) len) → MayRename s p (far_word len ds)
  may_go pointer words w fits f on = let alive = lives (is_dropped (read_of w)) _ on in ((pointer, (naming.Evicts len place, form w f alive, quiet_now w f alive)), knows w f alive on words)

  -- by the word that is known
  pub may_name_far : is_dropped (read_of (s.cell p)) ≡ false → p < CELLS * s.mutators → Legal s (events.Name p (s.cell p) (far_word len ds))
  may_name_far alive pointer =
      let same : seen s p (s.cell p) ≡ s = (λ i. record s { cell = put_old s.cell p (s.cell p) refl i }) in
      (pointer, (naming.Evicts len place, form (s.cell p) (finds_same (s.cell p)) alive, subst (λ (u : State). IsQuiet u p) same (quiet_now (s.cell p) (finds_same (s.cell p)) alive)))

  renamed_far : (t : State) → Renamed s t p (far_word len ds) → t ≡ record (sent s p len ds place) { word = t.word; stored = t.stored }
  renamed_far t r = r.leads ∙ ap (λ (u : State). record u { word = t.word; stored = t.stored }) (after_far r.word r.found (lives (is_dropped (read_of r.word)) _ r.alive))

-- what the word that was found says of its marks
module _ (s : State) (p len ds : ℕ) (place : Place) (h : IsQuietIn s p len ds place) (w : ℕ) (is : w ≡ s.cell p) where
  pub evac_here : has_evac (read_of w) ≡ true → h.marks.evac ≡ true
  evac_here e = sym (ap has_evac (ap read_of is ∙ h.near)) ∙ e

  pub alive_here : is_dropped (read_of w) ≡ false → h.marks.dropped ≡ false
  alive_here e = sym (ap is_dropped (ap read_of is ∙ h.near)) ∙ e

-- ---- the law, and what is live
-- p's object is quiet, has EVAC, and wasn't dropped; its words are known, if it has DIRTY
pub record MayLeave (s : State) (p len ds : ℕ) (place : Place) : Type 0 where
  pub law : Law (own_part s)
  pub quiet : IsQuietIn s p len ds place
  pub evac : quiet.marks.evac ≡ true
  pub alive : quiet.marks.dropped ≡ false
  pub pointer : p < CELLS * s.mutators
  pub words : quiet.marks.dirty ≡ true → IsStored (data_at s.word place) len

module _ {s : State} {p len ds : ℕ} {place : Place} (x : MayLeave s p len ds place) where
  pub far_layout : IsPtr (Far len ds no_marks)
  far_layout = let l = layout s x.law p len ds place x.quiet in (l.0, l.1, l.2, refl, refl)

  abbrev o : State
  o = own_part s

  abbrev own_quiet : IsQuietIn o p len ds place
  own_quiet = record { marks = x.quiet.marks; near = x.quiet.near; quiet = x.quiet.quiet }

  law_named : Law (sent o p len ds place)
  law_named =
      let dropped : is_dropped (read_of (s.cell p)) ≡ false = ap is_dropped x.quiet.near ∙ x.alive in
      let legal = may_name_far o p len ds place own_quiet x.evac far_layout dropped x.pointer in
      subst Law (named_far o p len ds place far_layout (s.cell p) x.quiet.marks refl x.quiet.near x.alive x.evac)
      (keeps o (events.Name p (s.cell p) (far_word len ds)) x.law ((x.law.cells.cell_read p).0, word_fits (Far len ds no_marks) far_layout) legal)

  -- with other words stored of it
  abbrev gone : (ℕ → ℕ → ℕ) → State
  gone rows = record s { cell = put s.cell p (far_word len ds); stored = rows }

  module _ (rows : ℕ → ℕ → ℕ) (fits : IsStored (rows p) len) (others : (q : ℕ) → q ≢ p → rows q ≡ s.stored q) where
    stores : StoresBack (rows p) (read_of (far_word len ds))
    stores n d k is =
        let both : Some (Far len ds no_marks) ≡ Some (Far n d k) = sym (far_says len ds far_layout) ∙ is in
        let lens : len ≡ n = cc in
        subst (IsStored (rows p)) lens fits

    law_sent : Law (own_part (gone rows))
    law_sent = record {
      shape = law_named.shape;
      cells = record {
        cell_read = law_named.cells.cell_read;
        cell_range = law_named.cells.cell_range;
        cell_near = law_named.cells.cell_near;
        cell_far = λ q. put_both (λ w. StoresBack (rows q) (read_of w)) s.cell p (far_word len ds) q (λ e. subst (λ k. StoresBack (rows k) (read_of (far_word len ds))) (sym e) stores)
            (λ ne. subst (λ (r : ℕ → ℕ). StoresBack r (read_of (s.cell q))) (sym (others q ne)) (x.law.cells.cell_far q));
      };
      spans = law_named.spans;
      logs = law_named.logs;
      scopes = law_named.scopes;
      views = law_named.views;
      rounds = law_named.rounds;
      clears = law_named.clears;
      unadopted = λ e. absurd (false≢true e);
      copies = law_named.copies;
      soils = law_named.soils;
      cleans = λ q. record {
        back = put_both (λ w. (n d : ℕ) (at : Place) (k : Marks) → read_of w ≡ Some (Near n d at k) → k.dirty ≡ false → IsStored (rows q) n) s.cell p (far_word len ds) q
            (λ _ n d at k is. let odd : Some (Far len ds no_marks) ≡ Some (Near n d at k) = sym (far_says len ds far_layout) ∙ is in absurd cc)
            (λ ne n d at k is none. subst (λ (r : ℕ → ℕ). IsStored r n) (sym (others q ne)) ((x.law.cleans q).back n d at k is none));
        same = λ e. absurd (false≢true e);
      };
    }

  spans_sent : (rows : ℕ → ℕ → ℕ) (l : ℕ) → spans_of (own_part (gone rows)) l ≡ spans_of (with_free_cell o p) l
  unfolding spans_of
  spans_sent rows l = refl

  live_sent : (rows : ℕ → ℕ → ℕ) (l : ℕ) → live_bytes (own_part (gone rows)) l ≡ live_bytes (with_free_cell o p) l
  live_sent rows l = ap (taken_by (is_live (own_part (gone rows)) l)) (spans_sent rows l)
      ∙ taken_same (is_live (own_part (gone rows)) l) (is_live (with_free_cell o p) l) (spans_of (with_free_cell o p) l)
      (λ x member. put_two (λ v w. names_place (read_of v) l x.at ≡ names_place (read_of w) l x.at) s.cell s.cell p (far_word len ds) 0 x.p
      (λ _. rw (far_says len ds far_layout, unused) refl) (λ _. refl))

  live_here : (rows : ℕ → ℕ → ℕ) → live_bytes (own_part (gone rows)) place.log + bytes_taken len ≡ live_bytes o place.log
  live_here rows = ap (λ n. n + bytes_taken len) (live_sent rows place.log) ∙ retires.live_here o x.law p len ds place x.quiet.marks x.quiet.near

  live_there : (rows : ℕ → ℕ → ℕ) (l : ℕ) → l ≢ place.log → live_bytes (own_part (gone rows)) l ≡ live_bytes o l
  live_there rows l ne = live_sent rows l ∙ retires.live_there o x.law p len ds place x.quiet.marks x.quiet.near l ne

  -- ---- the ledger
  module _ (ledger : Ledger) (notes : Notes o ledger) where
    inside : place.log < s.logs
    inside = (near_inside o x.law p len ds place x.quiet.marks x.quiet.near).0

    pub loses_log : place.log < vec_len ledger.filled
    loses_log = omega (arith, inside, notes.logs)

    pub loses_size : size_of len ≤ LOG_WORDS
    loses_size = omega (arith, layout s x.law p len ds place x.quiet)

    pub loses_live : 8 * size_of len ≤ (filled_of ledger place.log).live
    loses_live = omega (arith, retires.live_here o x.law p len ds place x.quiet.marks x.quiet.near, notes.lives place.log inside)

    is_used : (far_word len ds == 0) ≡ false
    is_used = ne_eqb (far_word len ds) 0 (λ z. omega arith)

    notes_sent : (rows : ℕ → ℕ → ℕ) → IsStored (rows p) len → ((q : ℕ) → q ≢ p → rows q ≡ s.stored q) → (new : Ledger) → Loses ledger new place.log (size_of len) → Notes (own_part (gone rows)) new
    notes_sent rows fits others new loses = record {
      law = law_sent rows fits others;
      current = ap (λ (l : Ledger). l.current) loses.rest ∙ notes.current;
      free = λ l few. ap (λ (n : Ledger). has n.free_logs l) loses.rest ∙ notes.free l few;
      logs = loses.logs ∙ notes.logs;
      tails = λ l lt. elim (cases_eq l place.log) [
        | inl same ↦ ap (λ k. (filled_of new k).tail) same ∙ loses.tail ∙ sym (ap (λ k. (filled_of ledger k).tail) same) ∙ notes.tails l lt
        | inr ne ↦ ap (λ (f : Filled). f.tail) (loses.there l ne) ∙ notes.tails l lt
      ];
      lives = λ l lt. elim (cases_eq l place.log) [
        | inl same ↦ (let mine : (filled_of ledger place.log).live ≡ live_bytes o place.log = notes.lives place.log inside in
            let less : (filled_of new place.log).live ≡ live_bytes (own_part (gone rows)) place.log = omega (arith, loses.here, live_here rows, mine) in
            subst (λ k. (filled_of new k).live ≡ live_bytes (own_part (gone rows)) k) (sym same) less)
        | inr ne ↦ ap (λ (f : Filled). f.live) (loses.there l ne) ∙ notes.lives l lt ∙ sym (live_there rows l ne)
      ];
      sealed = λ l. ap (λ (n : Ledger). list_any (eqb l) n.order) loses.rest ∙ notes.sealed l;
      once = subst (λ (n : Ledger). IsDistinct eqb n.order) (sym loses.rest) notes.once;
      cells = ap (λ (n : Ledger). vec_len n.free_cells) loses.rest ∙ notes.cells;
      jobs = subst (λ (n : Ledger). NotesJobs s.round_epoch s.round (own_part s).copying n.jobs) (sym loses.rest) notes.jobs;
      cell = λ q lt. ap (λ (n : Ledger). is_noted_free n q) loses.rest ∙ notes.cell q lt ∙ put_both (λ c. (s.cell q == 0) ≡ (c == 0)) s.cell p (far_word len ds) q
          (λ e. ap (λ k. s.cell k == 0) e ∙ near_used (s.cell p) len ds place x.quiet.marks x.quiet.near ∙ sym is_used) (λ _. refl);
    }

  -- ---- the naming
  pub may_go_far : MayRename s p (far_word len ds)
  may_go_far = may_go s p len ds place x.quiet x.evac far_layout x.pointer x.words

  pub evicted_by : (t : State) → Renamed s t p (far_word len ds) → t ≡ record (evicted s p) { word = t.word; stored = t.stored }
  evicted_by t renamed = renamed_far s p len ds place x.quiet x.evac far_layout t renamed
      ∙ ap (λ (u : State). record u { word = t.word; stored = t.stored }) (sym (evicted_is s p len ds place far_layout x.quiet.marks x.quiet.near x.alive x.evac))

  -- ---- the far side
  module _ (t : State) (renamed : Renamed s t p (far_word len ds)) where
    abbrev w : ℕ
    w = renamed.word

    alive_w : is_dropped (read_of w) ≡ false
    alive_w = lives (is_dropped (read_of w)) _ renamed.alive

    goes : IsNaming (naming.Evicts len place) (read_of w) (read_of (far_word len ds))
    goes = form s p len ds place x.quiet x.evac far_layout w renamed.found alive_w

    is : t ≡ record (gone t.stored) { word = t.word }
    is = renamed_far s p len ds place x.quiet x.evac far_layout t renamed

    held_sent : (held : ℕ → Option (List ℕ)) → HoldsFar s held → (x.quiet.marks.dirty ≡ true → held p ≡ Some (bytes_of (data_at s.word place) len)) → HoldsFar t held
    held_sent held far here =
        let u : State = seen s p w in
        let holds : HoldsFar u held = far_found s held far p w renamed.found in
        let cell : u.cell p ≡ w = put_same s.cell p w p refl in
        let honesty : t.honest ≡ u.honest = ap (λ (v : State). v.honest) is in
        let cells : t.cell ≡ put u.cell p (far_word len ds) = ap (λ (v : State). v.cell) is ∙ sym (put_put s.cell p w (far_word len ds)) in
        let n : IsNaming (naming.Evicts len place) (read_of (u.cell p)) (read_of (far_word len ds)) = subst (λ c. IsNaming (naming.Evicts len place) (read_of c) (read_of (far_word len ds))) (sym cell) goes in
        let left : StoresLeaving u t p (u.cell p) (far_word len ds) = subst (λ c. StoresLeaving u t p c (far_word len ds)) (sym cell) renamed.stored in
        elim (bool_cases n.1.dirty) [
          | inl dirty ↦ (let was : x.quiet.marks.dirty ≡ true = dirt s p len ds place x.quiet x.evac far_layout w renamed.found alive_w renamed.alive (sym (ap (λ c. is_dirty (read_of c)) cell) ∙ ap is_dirty n.2 ∙ dirty) in
              evicted_dirty u t held held holds p (far_word len ds) len place n honesty cells left
              (here was ∙ ap (λ (bs : List ℕ). Some bs) (bytes_of-same (data_at s.word place) (t.stored p) len (λ i lt. sym (left.own len place n i lt (x.words was i lt).0)))) (λ q ne. refl))
          | inr clean ↦ evicted_clean u t held held holds p (far_word len ds) len place n honesty cells left clean (λ q. refl)
        ]

    pub far_order : (ledger new : Ledger) (held : ℕ → Option (List ℕ)) (is_honest : Bool) → InOrder s ledger held is_honest →
        (x.quiet.marks.dirty ≡ true → held p ≡ Some (bytes_of (data_at s.word place) len)) → Loses ledger new place.log (size_of len) → InOrder t new held is_honest
    far_order ledger new held is_honest order here loses =
        let own = own_forgets (gone t.stored) t is (record { known = renamed.forgot.known; headers = renamed.forgot.headers }) in
        record {
          notes = subst (λ (u : State). Notes u new) (sym own) (notes_sent ledger order.notes t.stored (renamed.stored.fits len place goes) renamed.stored.others new loses);
          far = held_sent held order.far here;
          honest = λ e. order.honest (ap (λ (u : State). u.honest) (sym is) ∙ e);
        }

-- a refusal is a failure exactly where the device's answer, by which it was refused, is a fault
pub fault_told : (r : Result (Unit {0}) Refused) → is_fault (answer_of r) ≡ is_failure r
fault_told (Ok x) = refl
fault_told (Err Device) = refl
fault_told (Err why) = refl
