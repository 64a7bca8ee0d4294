-- The book's own part of a state: it keeps the law, has the same spans, and changes by the book's calls alone.
use Rattle.std.proofs.Common.{◌≡◌, ℕ, ◌+◌, ◌-◌, ◌*◌, ◌^◌, ◌<◌, ◌≤◌, Bool, true, false, cond, zero, suc, arith, sym, refl, ap, subst, ◌∙◌, Some, List, [], ◌∷◌, inl, inr, nat_lt}
use Rattle.std.specs.Prelude.{Contains, not}
use Rattle.std.proofs.lemmas.Bool.{cond_both, cases_eq, false≢true, ltb-true, ltb-false}
use Rattle.std.proofs.lemmas.Nat.{pow_pos}
use mathlib.Core.Path.{fun_ext}
use Rattle.far_word.specs.declared.pointer.Place.{Place}
use Rattle.far_word.specs.declared.scope.ScopeWord.TheVariants as scoped
use Rattle.far_word.specs.declared.sizes.TheConstants.{LOG_WORDS}
use Rattle.far_word.specs.Header.{head_of, head_word}
use Rattle.far_word.specs.Sizes.{size_of, words_for}
use Rattle.far_log.specs.declared.span.Span.{Span}
use Rattle.far_log.specs.Spans.{Tile, span_at, spans_from, spans_in, taken_by, pointer_in, ds_in}
use Rattle.far_log.proofs.Members.{here, there}
use Rattle.far_log.proofs.SpanLaws.{tile_low}
use Rattle.far_word.specs.Pointer.{read_of}
use Rattle.far_events.specs.events.Naming.{is_dropped}
use Rattle.far_events.specs.events.NewSpans.{with_span}
use Rattle.far_events.specs.events.Ranges.{with_row}
use Rattle.far_core.specs.laws.Observed.{live_bytes, dead_bytes}
use Rattle.far_events.specs.state.Jobs.{CopyLaw}
use Rattle.far_events.specs.state.Law.{Law, head_len}
use Rattle.far_events.specs.state.Spans.{spans_of, word_in, is_live}
use Rattle.far_events.specs.state.State.{State, put, addr}
use Rattle.far_core.proofs.KeepJobs.{keeps_jobs, stand_still}
use Rattle.far_core.proofs.KeepOwner.{closed_word}
use Rattle.far_core.proofs.Observations.{found, walks}
use Rattle.far_events.proofs.Put.{put_same, put_other}
use Rattle.far_hand.specs.Known.{Forgets}
use Rattle.far_book.specs.book.Effects.{near_word, placed, retired, with_blank_span, with_free_cell, with_written_span}
use Rattle.far_book.specs.book.Own.{own_part, unread}
use Rattle.far_book.specs.book.Placeable.{Placeable, with_object}
use Rattle.far_book.proofs.region.Places.{named_is, none_past}
use Rattle.far_book.proofs.region.Retires.{retired_is}
use Rattle.far_book.proofs.region.Untaken.{finished_known, none_taken, untaken_aims, untaken_good, untaken_jobs}
use Rattle.far_book.proofs.region.Written.{row_other}

-- a header is the word itself, and no other word is there
pub own_header : (s : State) (a : ℕ) → s.starts a ≡ true → (own_part s).word a ≡ s.word a
own_header s a start = ap (λ b. cond b (s.word a) 0) start

pub own_bare : (s : State) (a : ℕ) → s.starts a ≡ false → (own_part s).word a ≡ 0
own_bare s a none = ap (λ b. cond b (s.word a) 0) none

-- ---- what is copied
-- no data word is there
own_data : (s : State) → Law s → (a i : ℕ) → s.starts a ≡ true → i < words_for (head_len (s.word a)) → (own_part s).word (a + 1 + i) ≡ 0
own_data s law a i start lt =
    let long : size_of (head_len (s.word a)) ≡ 1 + words_for (head_len (s.word a)) = refl in
    let at : a + (1 + i) ≡ a + 1 + i = omega arith in
    own_bare s (a + 1 + i) (sym (ap s.starts at) ∙ (law.spans.span a start).alone (1 + i) (omega arith) (omega arith))

own_copies : (s : State) → Law s → CopyLaw s.cell (own_part s).word s.starts s.round s.round_epoch s.clear (unread s.copying)
own_copies s law =
    let k = s.copying in
    let jobs = law.copies.jobs in
    record {
      jobs = keeps_jobs s.word s.starts (own_part s).word s.starts (unread k) (untaken_jobs k s.word s.starts jobs)
          (stand_still s.word s.starts (own_part s).word s.starts (unread k) (untaken_jobs k s.word s.starts jobs) (λ a h. (h, own_header s a h)));
      taken = none_taken k (own_part s).word;
      aims = untaken_aims k s.cell law.copies.aims;
      good = untaken_good k s.round_epoch s.round s.clear law.copies.good;
      same = record {
        read = λ c i w t e g r. absurd cc;
        written = λ c i t e g r. absurd (false≢true r);
        finished = λ j c job e g none i lt.
            let spans = jobs.job_spans j job (rw (finished_known (k.word j) job c e) refl) in
            let here : i < words_for (head_len (s.word (addr job.from))) = subst (λ w. i < words_for (head_len w)) (own_header s (addr job.from) spans.from) lt in
            let there : i < words_for (head_len (s.word (addr job.to))) = subst (λ w. i < words_for (head_len w)) (sym spans.alike) here in
            own_data s law (addr job.to) i spans.to there ∙ sym (own_data s law (addr job.from) i spans.from here);
      };
    }

-- ---- the law
pub own_law : (s : State) → Law s → Law (own_part s)
own_law s law = record {
  shape = law.shape;
  cells = record {
    cell_read = law.cells.cell_read;
    cell_range = law.cells.cell_range;
    cell_near = λ p len ds place m e. let h = law.cells.cell_near p len ds place m e in record { placed = h.placed; head = own_header s (addr place) h.placed ∙ h.head };
    cell_far = law.cells.cell_far;
  };
  spans = record {
    word_fits = λ a. cond_both (s.starts a) (s.word a) 0 (λ w. w < 2 ^ 64) (λ _. law.spans.word_fits a) (λ _. omega arith);
    first_span = law.spans.first_span;
    span = λ a start. rw (own_header s a start) (law.spans.span a start);
    span_header = λ a h start e. law.spans.span_header a h start (ap head_of (sym (own_header s a start)) ∙ e);
    span_padding = λ a start. rw (own_header s a start) (λ i lt.
        let long : size_of (head_len (s.word a)) ≡ 1 + words_for (head_len (s.word a)) = refl in
        let at : a + (1 + i) ≡ a + 1 + i = omega arith in
        let none : s.starts (a + 1 + i) ≡ false = sym (ap s.starts at) ∙ (law.spans.span a start).alone (1 + i) (omega arith) (omega arith) in
        let blank : (own_part s).word (a + 1 + i) ≡ 0 = own_bare s (a + 1 + i) none in
        let some : 0 < 2 ^ (8 * (head_len (s.word a) - 8 * i)) = pow_pos (8 * (head_len (s.word a) - 8 * i)) in
        omega arith);
  };
  logs = law.logs;
  scopes = record {
    scope_read = λ m. rw closed_word refl;
    scope_range = λ m ne. absurd (ne refl);
    epoch_below = law.scopes.epoch_below;
    open_bound = λ m e is. let odd : Some scoped.Closed ≡ Some (scoped.Open e) = sym closed_word ∙ is in absurd cc;
    remembered_bound = λ m e is. absurd cc;
    remembered_range = λ m e is. absurd cc;
  };
  views = record {
    held_open = λ p h. absurd (false≢true h);
    held_names = λ p place h. absurd cc;
    held_used = λ p h. absurd (false≢true h);
    used_cell = λ p h. absurd (false≢true h);
  };
  rounds = law.rounds;
  clears = record { clear_unviewed = λ p place h. absurd cc; late_unviewed = λ p e place h. absurd cc };
  unadopted = λ h. absurd (false≢true h);
  copies = own_copies s law;
  soils = record { soiled_held = λ p h. absurd (false≢true h); soiled_dirty = λ p h. absurd (false≢true h) };
  cleans = λ p. record { back = (law.cleans p).back; same = λ e. absurd (false≢true e) };
}

-- ---- the spans
-- headers spell a list of spans that follow each other
spelt : (word : ℕ → ℕ) (spans : List Span) (fuel at tail : ℕ) → Tile at spans tail → ((x : Span) → Contains spans x → span_at word x.at ≡ x) → tail ≤ at + fuel → spans_from word tail at fuel ≡ spans
spelt word [] zero at tail tile says enough = refl
spelt word [] (suc fuel) at tail tile says enough = cond_both (nat_lt at tail) _ _ (λ (xs : List Span). xs ≡ []) (λ t. absurd (omega (arith, ltb-true at tail t))) (λ _. refl)
spelt word (x ∷ spans) zero at tail tile says enough = absurd (omega (arith, tile_low spans (at + size_of x.len) tail tile.1))
spelt word (x ∷ spans) (suc fuel) at tail tile says enough = cond_both (nat_lt at tail) _ _ (λ (xs : List Span). xs ≡ x ∷ spans)
    (λ _. let first : span_at word at ≡ x = ap (span_at word) (sym tile.0) ∙ says x (here x spans) in
    let size : at + size_of (head_len (word at)) ≡ at + size_of x.len = ap (λ (z : Span). at + size_of z.len) first in
    let rest : spans_from word tail (at + size_of (head_len (word at))) fuel ≡ spans = ap (λ k. spans_from word tail k fuel) size
    ∙ spelt word spans fuel (at + size_of x.len) tail tile.1 (λ y h. says y (there y x spans h)) (omega arith) in
    λ i. first i ∷ rest i)
    (λ f. absurd (omega (arith, ltb-false at tail f, tile_low spans (at + size_of x.len) tail tile.1)))

pub own_spans : (s : State) → Law (own_part s) → (l : ℕ) → spans_of s l ≡ spans_of (own_part s) l
unfolding spans_of spans_in
own_spans s law l = spelt (word_in s l) (spans_of (own_part s) l) (s.tail l) 0 (s.tail l) (walks (own_part s) law l).tile
    (λ x member. let h = found (own_part s) law l x member in
    let same : word_in s l x.at ≡ word_in (own_part s) l x.at = sym (own_header s (l * LOG_WORDS + x.at) h.1) in
    (λ i. record { at = x.at; p = pointer_in (head_of (same i)); len = head_len (same i); ds = ds_in (head_of (same i)) }) ∙ sym h.2) (omega arith)

pub own_live : (s : State) → Law (own_part s) → (l : ℕ) → live_bytes s l ≡ live_bytes (own_part s) l
own_live s law l = ap (taken_by (is_live s l)) (own_spans s law l)

pub own_dead : (s : State) → Law (own_part s) → (l : ℕ) → dead_bytes s l ≡ dead_bytes (own_part s) l
own_dead s law l = ap (taken_by (λ x. not (is_live s l x))) (own_spans s law l)

-- ---- what changes it
-- words that are no headers
pub own_headers : (s t : State) → t ≡ record s { word = t.word } → ((a : ℕ) → s.starts a ≡ true → t.word a ≡ s.word a) → own_part t ≡ own_part s
own_headers s t is same =
    let words : (λ a. cond (s.starts a) (t.word a) 0) ≡ (λ a. cond (s.starts a) (s.word a) 0) = fun_ext (λ a. cond_both (s.starts a) (t.word a) 0 (λ w. w ≡ cond (s.starts a) (s.word a) 0)
    (λ begun. same a begun ∙ sym (ap (λ b. cond b (s.word a) 0) begun)) (λ none. sym (ap (λ b. cond b (s.word a) 0) none))) in
    ap own_part is ∙ (λ i. record (own_part s) { word = words i })

-- words that were forgotten
pub own_forgets : (s t : State) → t ≡ record s { word = t.word } → Forgets s t → own_part t ≡ own_part s
own_forgets s t is h = own_headers s t is (λ a begun. h.headers a (ap (λ (u : State). u.starts a) is ∙ begun))

-- an object that gets a place, where a row of words is written
module _ (s : State) (law : Law (own_part s)) (p len ds : ℕ) (place : Place) (h : Placeable (own_part s) p len ds place) where
  own_word : (row : ℕ → ℕ) (a : ℕ) → cond (put s.starts (addr place) true a) (with_row (put s.word (addr place) (head_word p len ds)) (addr place + 1) (words_for len) row a) 0
      ≡ put (own_part s).word (addr place) (head_word p len ds) a
  own_word row a = elim (cases_eq a (addr place)) [
    | inl e ↦ rw (put_same s.starts (addr place) true a e, put_same (own_part s).word (addr place) (head_word p len ds) a e)
        (row_other (put s.word (addr place) (head_word p len ds)) (addr place + 1) (words_for len) row a (λ low high. omega arith) ∙ put_same s.word (addr place) (head_word p len ds) a e)
    | inr ne ↦ rw (put_other s.starts (addr place) true a ne, put_other (own_part s).word (addr place) (head_word p len ds) a ne)
        (cond_both (s.starts a) (with_row (put s.word (addr place) (head_word p len ds)) (addr place + 1) (words_for len) row a) 0 (λ w. w ≡ cond (s.starts a) (s.word a) 0)
        (λ begun. row_other (put s.word (addr place) (head_word p len ds)) (addr place + 1) (words_for len) row a (λ low high. inside a begun low high)
        ∙ put_other s.word (addr place) (head_word p len ds) a ne ∙ sym (ap (λ b. cond b (s.word a) 0) begun))
        (λ not_begun. sym (ap (λ b. cond b (s.word a) 0) not_begun)))
  ] where
    inside : (b : ℕ) → s.starts b ≡ true → addr place + 1 ≤ b → b < addr place + 1 + words_for len → ⊥
    inside b begun low high =
        let at : addr place + (b - addr place) ≡ b = omega arith in
        false≢true (sym (none_past (own_part s) law p len ds place h (b - addr place) (omega (arith, h.layout))) ∙ ap s.starts at ∙ begun)

  -- whatever data words are written, its header alone is the book's
  pub own_written : (dirty : Bool) (row : ℕ → ℕ) → own_part (with_span (with_written_span s p len ds place row) p (near_word dirty len ds place) len place) ≡ with_object (own_part s) dirty p len ds place
  own_written dirty row = λ i. record (with_object (own_part s) dirty p len ds place) { word = fun_ext (own_word row) i }

-- a retired object
pub own_retired : (s t : State) (p : ℕ) → is_dropped (read_of (s.cell p)) ≡ true → t ≡ record (retired s p) { word = t.word } → Forgets s t → own_part t ≡ with_free_cell (own_part s) p
own_retired s t p dropped is h =
    let free : retired s p ≡ with_free_cell s p = retired_is s p dropped in
    own_forgets (with_free_cell s p) t (is ∙ (λ i. record (free i) { word = t.word })) (record { known = h.known; headers = h.headers })

-- a new one, over a hand that may have forgotten words
module _ (s t : State) (law : Law (own_part s)) (p len ds : ℕ) (place : Place) (h : Placeable (own_part s) p len ds place) where
  pub own_named : s.cell p ≡ 0 → t ≡ record (placed s p len ds place) { word = t.word } → Forgets (placed s p len ds place) t → own_part t ≡ with_object (own_part s) true p len ds place
  own_named free is forgot = own_forgets (placed s p len ds place) t is forgot ∙ ap own_part (named_is (with_blank_span s p len ds place) p len ds place free h.layout)
      ∙ own_written s law p len ds place h true (λ _. 0)
