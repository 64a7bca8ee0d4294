-- Spans of one memory: none begins inside another, and a word outside a span leaves it as it was.
use Rattle.std.proofs.Common.{◌≡◌, ◌≢◌, ℕ, ◌+◌, ◌-◌, ◌*◌, ◌/◌, ◌<◌, ◌≤◌, Bool, true, arith, sym, ap, ◌∙◌, inl, inr}
use Rattle.std.proofs.lemmas.Bool.{false≢true, cases_order, cases_lt}
use Rattle.far_word.specs.declared.sizes.TheConstants.{LOG_WORDS}
use Rattle.far_word.specs.Sizes.{size_of}
use Rattle.far_events.specs.state.Law.{Law, SpanAt, head_len}
use Rattle.far_events.specs.state.State.{State}

module _ (tail : ℕ → ℕ) (starts : ℕ → Bool) where
  -- no span begins inside another
  pub no_start_inside : (a len b : ℕ) → SpanAt tail starts a len → a < b → b < a + size_of len → starts b ≢ true
  no_start_inside a len b span low high h =
      let e : a + (b - a) ≡ b = omega arith in
      false≢true (sym (span.alone (b - a) (omega arith) (omega arith)) ∙ ap starts e ∙ h)

  -- the next span begins where this one ends, or later
  pub apart : (a len b : ℕ) → SpanAt tail starts a len → a < b → starts b ≡ true → a + size_of len ≤ b
  apart a len b span low h = elim (cases_lt b (a + size_of len)) [ inl lt ↦ absurd (no_start_inside a len b span low lt h) | inr le ↦ le ]

module _ (s : State) (law : Law s) where
  -- a word of one span is no word of another
  pub spans_apart : (a b j k : ℕ) → s.starts a ≡ true → s.starts b ≡ true → j < size_of (head_len (s.word a)) → k < size_of (head_len (s.word b)) → a + j ≡ b + k → a ≡ b
  spans_apart a b j k ha hb lj lk e = elim (cases_order a b) [
    | inl same ↦ same
    | inr order ↦ elim order [
      | inl below ↦ (let far : a + size_of (head_len (s.word a)) ≤ b = apart s.tail s.starts a _ b (law.spans.span a ha) below hb in absurd (omega arith))
      | inr above ↦ (let far : b + size_of (head_len (s.word b)) ≤ a = apart s.tail s.starts b _ a (law.spans.span b hb) above ha in absurd (omega arith))
    ]
  ]

  -- a word past a tail is no word of a span
  pub past_tail : (l at b j : ℕ) → s.tail l ≤ at → at < LOG_WORDS → s.starts b ≡ true → j < size_of (head_len (s.word b)) → b + j ≢ l * LOG_WORDS + at
  past_tail l at b j past inside h lt e =
      let span = law.spans.span b h in
      let log : b / LOG_WORDS ≡ l = omega (arith, span.fits, law.logs.tail_end (b / LOG_WORDS)) in
      let same : s.tail (b / LOG_WORDS) ≡ s.tail l = ap s.tail log in
      omega (arith, span.fits)
