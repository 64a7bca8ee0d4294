-- An object's words are copied one by one while owners are at work.
use Rattle.std.proofs.Common.{◌≡◌, ◌≢◌, ℕ, ◌+◌, ◌-◌, ◌*◌, ◌/◌, ◌%◌, ◌^◌, ◌<◌, ◌≤◌, true, arith, sym, refl, ap, subst, ◌∙◌, inl, inr, Some}
use Rattle.std.proofs.lemmas.Bool.{cases_eq, cases_lt}
use Rattle.far_word.specs.declared.pointer.Place.{Place}
use Rattle.far_word.specs.declared.pointer.PtrWord.TheVariants.{Near}
use Rattle.far_word.specs.declared.sizes.TheConstants.{CELLS, LOG_WORDS}
use Rattle.far_word.specs.Header.{IsHead, head_of, head_word}
use Rattle.far_word.specs.Pointer.{IsPtr, read_of}
use Rattle.far_word.specs.Sizes.{size_of, words_for}
use Rattle.far_word.proofs.PointerLaws.{read_says}
use Rattle.far_events.specs.events.Copies.{data_at}
use Rattle.far_events.specs.declared.event.Event.TheVariants as events
use Rattle.far_events.specs.events.Legal.{Legal}
use Rattle.far_events.specs.events.Naming.{no_marks}
use Rattle.far_events.specs.events.Ranges.{with_row}
use Rattle.far_events.specs.state.Law.{head_len}
use Rattle.far_events.specs.state.State.{State, put, addr}
use Rattle.far_events.proofs.Bounds.{near_inside, span_len}
use Rattle.far_events.proofs.NewSpans.{at_tail}
use Rattle.far_core.proofs.Observations.{in_range}
use Rattle.far_events.proofs.Put.{put_both, put_same, put_other}
use Rattle.far_events.proofs.Rows.{row_in, row_last}
use Rattle.far_hand.specs.Known.{IsKnown, IsPaddedAt}
use Rattle.far_hand.specs.Quiet.{IsQuietAt, is_quiet}
use Rattle.far_book.specs.book.Moving.{MayCopy, Copied, Copying}
use Rattle.far_book.specs.book.Own.{own_part}
use Rattle.far_book.proofs.region.Owns.{own_header}
use Rattle.far_book.proofs.region.Places.{next_unsealed}
use Rattle.far_book.proofs.region.Readings.{headers_known}
use Rattle.far_book.proofs.region.Written.{row_other}

module _ (s : State) (p len ds : ℕ) (from to : Place) (h : MayCopy s p len ds from to) where
  layout : IsPtr (Near len ds from h.marks)
  layout = (read_says (s.cell p) (Near len ds from h.marks) (h.law.cells.cell_read p).0 h.near).0

  pub head : IsHead record { pointer = p; len = len; ds = ds }
  head = record { some = omega (arith, layout); most = omega (arith, layout); structure = omega (arith, layout); cell = omega (arith, h.pointer, h.law.shape.few_mutators) }

  pub layout_there : IsPtr (Near len ds to no_marks)
  layout_there = (omega (arith, layout), omega (arith, layout), omega (arith, layout), omega (arith, h.next.0, h.law.shape.few_logs), h.fits)

  pub from_inside : from.log < s.logs
  from_inside = (near_inside (own_part s) h.law p len ds from h.marks h.near).0

  pub from_fits : from.at + size_of len ≤ LOG_WORDS
  from_fits = omega (arith, layout)

  below : (from.at + size_of len ≤ s.tail from.log) × (s.starts (addr from) ≡ true)
  below = in_range (own_part s) h.law p len ds from h.marks h.near

  pub at_end : to.at ≡ s.tail to.log
  at_end = at_tail (own_part s) h.law to h.next

  long : head_len (s.word (addr from)) ≡ len
  long = let is : head_of (s.word (addr from)) ≡ Some record { pointer = p; len = len; ds = ds } =
      ap head_of (sym (own_header s (addr from) below.1)) ∙ span_len (own_part s) h.law p len ds from h.marks h.near in rw is refl

  -- the two spans have no word in common
  apart : (j k : ℕ) → j < size_of len → k < size_of len → addr from + j ≢ addr to + k
  apart j k low high e =
      let log : from.log ≡ to.log = omega (arith, from_fits, h.fits) in
      let tails : s.tail from.log ≡ s.tail to.log = ap s.tail log in
      let same : from.log * LOG_WORDS ≡ to.log * LOG_WORDS = ap (λ l. l * LOG_WORDS) log in
      omega (arith, at_end, below.0)

  -- no span begins in the new one
  pub start_outside : (a : ℕ) → s.starts a ≡ true → addr to ≤ a → a < addr to + size_of len → ⊥
  start_outside a begun low high =
      let span = h.law.spans.span a begun in
      let log : a / LOG_WORDS ≡ to.log = omega (arith, h.fits) in
      let tails : s.tail (a / LOG_WORDS) ≡ s.tail to.log = ap s.tail log in
      omega (arith, span.fits, at_end, h.fits)

  pub from_outside : (j : ℕ) → j < words_for len → addr to ≤ addr from + 1 + j → addr from + 1 + j < addr to + size_of len → ⊥
  from_outside j lt low high = apart (1 + j) (addr from + 1 + j - addr to) (omega arith) (omega arith) (omega arith)

  -- the words with the header alone
  abbrev headed : ℕ → ℕ
  headed = put s.word (addr to) (head_word p len ds)

  -- outside the new span the words that are written are the old ones
  pub outside : (a : ℕ) → (addr to ≤ a → a < addr to + size_of len → ⊥) → with_row headed (addr to + 1) (words_for len) (data_at s.word from) a ≡ s.word a
  outside a out = row_other headed (addr to + 1) (words_for len) (data_at s.word from) a (λ low high. out (omega arith) (omega arith))
      ∙ put_other s.word (addr to) (head_word p len ds) a (λ e. out (omega arith) (omega arith))

  pub first : with_row headed (addr to + 1) (words_for len) (data_at s.word from) (addr to) ≡ head_word p len ds
  first = row_other headed (addr to + 1) (words_for len) (data_at s.word from) (addr to) (λ low high. omega arith) ∙ put_same s.word (addr to) (head_word p len ds) (addr to) refl

  -- the new span lies past the tail of its log
  pub below_outside : (a : ℕ) → a % LOG_WORDS < s.tail (a / LOG_WORDS) → addr to ≤ a → a < addr to + size_of len → ⊥
  below_outside a inside low high =
      let log : a / LOG_WORDS ≡ to.log = omega (arith, h.fits) in
      let tails : s.tail (a / LOG_WORDS) ≡ s.tail to.log = ap s.tail log in
      omega (arith, at_end, h.fits)

  -- what is asked of the hand
  pub put_legal : (t : State) → t ≡ record s { word = t.word } → (at w : ℕ) → to.at ≤ at → at < LOG_WORDS → Legal t (events.Put to.log at w)
  put_legal t is at w low high =
      let tails : t.tail to.log ≡ s.tail to.log = ap (λ (x : State). x.tail to.log) is in
      (subst (λ (x : State). to.log < x.logs) (sym is) h.next.0, λ e. next_unsealed s to h.next (ap (λ (x : State). x.kind to.log) (sym is) ∙ e), omega (arith, at_end), high)

  -- ---- the header is put
  module _ (t : State) (is : t ≡ record s { word = put s.word (to.log * LOG_WORDS + to.at) (head_word p len ds) }) where
    word_is : t.word ≡ put s.word (addr to) (head_word p len ds)
    word_is = ap (λ (u : State). u.word) is

    pub copying_none : Copying s t p len ds from to 0
    copying_none = record {
      is = is ∙ (λ i. record s { word = sym word_is i });
      header = ap (λ f. f (addr to)) word_is ∙ put_same s.word (addr to) (head_word p len ds) (addr to) refl;
      same = λ j lt. absurd (omega arith);
      padded = λ j lt. absurd (omega arith);
      keeps = λ a known out. ap (λ f. f a) word_is ∙ put_other s.word (addr to) (head_word p len ds) a (λ e. out (omega arith) (omega arith));
    }

  -- ---- one word more
  module _ (t v u : State) (n w : ℕ) (lt : n < words_for len) (c : Copying s t p len ds from to n) where
    abbrev source : ℕ
    source = from.log * LOG_WORDS + (from.at + 1 + n)

    abbrev target : ℕ
    target = to.log * LOG_WORDS + (to.at + 1 + n)

    -- the word that is read is one of a quiet object
    pub quiet_word : IsQuietAt t source
    quiet_word = record {
      p = p;
      len = len;
      ds = ds;
      place = from;
      marks = h.marks;
      index = n;
      pointer = subst (λ (x : State). p < CELLS * x.mutators) (sym c.is) h.pointer;
      near = ap (λ (x : State). read_of (x.cell p)) c.is ∙ h.near;
      quiet = ap (λ (x : State). is_quiet x.round x.clear p from h.marks) c.is ∙ h.quiet;
      inside = lt;
      here = omega arith;
    }

    module _ (read : v ≡ record t { word = put t.word source w }) (padding : IsPaddedAt t source w) (known : IsKnown (t.word source) → w ≡ t.word source)
        (wrote : u ≡ record v { word = put v.word target w }) where
      word_now : u.word ≡ put (put t.word source w) target w
      word_now = ap (λ (x : State). x.word) wrote ∙ ap (λ (x : State). put x.word target w) read

      by_word : (P : ℕ → Type 0) (q : ℕ) → (q ≡ target → P w) → (q ≢ target → q ≡ source → P w) → (q ≢ target → q ≢ source → P (t.word q)) → P (u.word q)
      by_word P q x y z = subst (λ f. P (f q)) (sym word_now) (put_both P (put t.word source w) target w q x (λ ne. put_both P t.word source w q (y ne) (z ne)))

      to_new : (j : ℕ) → j ≡ n → u.word (addr to + 1 + j) ≡ w
      to_new j e = by_word (λ x. x ≡ w) (addr to + 1 + j) (λ _. refl) (λ _ _. refl) (λ ne _. absurd (ne (omega arith)))

      from_new : (j : ℕ) → j ≡ n → u.word (addr from + 1 + j) ≡ w
      from_new j e = by_word (λ x. x ≡ w) (addr from + 1 + j) (λ _. refl) (λ _ _. refl) (λ _ ne. absurd (ne (omega arith)))

      to_old : (j : ℕ) → j < n → u.word (addr to + 1 + j) ≡ t.word (addr to + 1 + j)
      to_old j low = by_word (λ x. x ≡ t.word (addr to + 1 + j)) (addr to + 1 + j) (λ e. absurd (omega arith)) (λ _ e. absurd (apart (1 + n) (1 + j) (omega arith) (omega arith) (omega arith))) (λ _ _. refl)

      from_old : (j : ℕ) → j < n → u.word (addr from + 1 + j) ≡ t.word (addr from + 1 + j)
      from_old j low = by_word (λ x. x ≡ t.word (addr from + 1 + j)) (addr from + 1 + j) (λ e. absurd (apart (1 + j) (1 + n) (omega arith) (omega arith) (omega arith))) (λ _ e. absurd (omega arith)) (λ _ _. refl)

      -- the word has the padding of its object
      word_padded : w < 2 ^ (8 * (len - 8 * n))
      word_padded =
          let begun : t.starts (addr from) ≡ true = ap (λ (x : State). x.starts (addr from)) c.is ∙ below.1 in
          let known_head : IsKnown (s.word (addr from)) = headers_known s h.law (addr from) below.1 in
          let there : t.word (addr from) ≡ s.word (addr from) = c.keeps (addr from) known_head (start_outside (addr from) below.1) in
          let size : head_len (t.word (addr from)) ≡ len = ap head_len there ∙ long in
          subst (λ k. w < 2 ^ (8 * (k - 8 * n))) size (padding (addr from) n begun (subst (λ k. n < words_for k) (sym size) lt) (omega arith))

      pub copying_more : Copying s u p len ds from to (n + 1)
      copying_more = record {
        is = wrote ∙ ap (λ (x : State). record x { word = put x.word target w }) read ∙ ap (λ (x : State). record x { word = put (put t.word source w) target w }) c.is ∙ (λ i. record s { word = sym word_now i });
        header = by_word (λ x. x ≡ head_word p len ds) (addr to) (λ e. absurd (omega arith)) (λ _ e. absurd (apart (1 + n) 0 (omega arith) (omega arith) (omega arith))) (λ _ _. c.header);
        same = λ j less. elim (cases_eq j n) [
          | inl e ↦ to_new j e ∙ sym (from_new j e)
          | inr ne ↦ to_old j (omega arith) ∙ c.same j (omega arith) ∙ sym (from_old j (omega arith))
        ];
        padded = λ j less. elim (cases_eq j n) [
          | inl e ↦ subst (λ x. x < 2 ^ (8 * (len - 8 * j))) (sym (to_new j e)) (subst (λ k. w < 2 ^ (8 * (len - 8 * k))) (sym e) word_padded)
          | inr ne ↦ subst (λ x. x < 2 ^ (8 * (len - 8 * j))) (sym (to_old j (omega arith))) (c.padded j (omega arith))
        ];
        keeps = λ a is_known out. by_word (λ x. x ≡ s.word a) a (λ e. absurd (out (omega arith) (omega arith)))
            (λ _ e. let old : t.word a ≡ s.word a = c.keeps a is_known out in
            let here : t.word source ≡ s.word a = ap t.word (sym e) ∙ old in
            known (subst IsKnown (sym here) is_known) ∙ here)
            (λ _ _. c.keeps a is_known out);
      }

  -- ---- all words are copied
  pub copied : (t : State) → Copying s t p len ds from to (words_for len) → Copied s t p len ds from to
  copied t c = record {
    is = c.is;
    header = c.header;
    same = c.same;
    padded = c.padded (words_for len - 1) (omega (arith, layout));
    keeps = record { known = known; headers = headers };
  } where
    inside : (a i : ℕ) → i < words_for len → a ≡ addr to + 1 + i → with_row headed (addr to + 1) (words_for len) (data_at s.word from) a ≡ data_at s.word from i
    inside a i lt e = row_in headed (addr to + 1) (words_for len) (data_at s.word from) a (omega arith) (omega arith) ∙ (let same : a - (addr to + 1) ≡ i = omega arith in ap (data_at s.word from) same)

    known_in : (a i : ℕ) → i < words_for len → a ≡ addr to + 1 + i → IsKnown (with_row headed (addr to + 1) (words_for len) (data_at s.word from) a) →
        t.word a ≡ with_row headed (addr to + 1) (words_for len) (data_at s.word from) a
    known_in a i lt e k = ap t.word e ∙ c.same i lt ∙ c.keeps (addr from + 1 + i) (subst IsKnown (inside a i lt e) k) (from_outside i lt) ∙ sym (inside a i lt e)

    known : (a : ℕ) → IsKnown (with_row headed (addr to + 1) (words_for len) (data_at s.word from) a) → IsKnown (t.word a) → t.word a ≡ with_row headed (addr to + 1) (words_for len) (data_at s.word from) a
    known a k now = elim (cases_lt a (addr to)) [
      | inl low ↦ (let out : addr to ≤ a → a < addr to + size_of len → ⊥ = (λ le lt. omega arith) in c.keeps a (subst IsKnown (outside a out) k) out ∙ sym (outside a out))
      | inr le ↦ elim (cases_lt a (addr to + size_of len)) [
        | inl lt ↦ elim (cases_eq a (addr to)) [
          | inl e ↦ ap t.word e ∙ c.header ∙ sym first ∙ ap (with_row headed (addr to + 1) (words_for len) (data_at s.word from)) (sym e)
          | inr ne ↦ known_in a (a - (addr to + 1)) (omega arith) (omega arith) k
        ]
        | inr high ↦ (let out : addr to ≤ a → a < addr to + size_of len → ⊥ = (λ _ lt. omega arith) in c.keeps a (subst IsKnown (outside a out) k) out ∙ sym (outside a out))
      ]
    ]

    headers : (a : ℕ) → t.starts a ≡ true → t.word a ≡ with_row headed (addr to + 1) (words_for len) (data_at s.word from) a
    headers a begun =
        let old : s.starts a ≡ true = ap (λ (x : State). x.starts a) (sym c.is) ∙ begun in
        let out = start_outside a old in
        c.keeps a (headers_known s h.law a old) out ∙ sym (outside a out)

  -- ---- exactly, where no word changes
  pub exact_more : (n at x : ℕ) → n < words_for len → at ≡ addr to + 1 + n → x ≡ with_row headed (addr to + 1) n (data_at s.word from) (from.log * LOG_WORDS + (from.at + 1 + n)) →
      put (with_row headed (addr to + 1) n (data_at s.word from)) at x ≡ with_row headed (addr to + 1) (n + 1) (data_at s.word from)
  exact_more n at x lt here is =
      let source : from.log * LOG_WORDS + (from.at + 1 + n) ≡ addr from + 1 + n = omega arith in
      row_last headed (addr to + 1) n (data_at s.word from) at x here
      (is ∙ row_other headed (addr to + 1) n (data_at s.word from) (from.log * LOG_WORDS + (from.at + 1 + n)) (λ low high. from_outside n lt (omega arith) (omega arith))
      ∙ put_other s.word (addr to) (head_word p len ds) (from.log * LOG_WORDS + (from.at + 1 + n)) (λ e. from_outside n lt (omega arith) (omega arith)) ∙ ap s.word source)
