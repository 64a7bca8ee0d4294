-- A word that is no header changes, and the law stays.
use Rattle.std.proofs.Common.{◌≡◌, ◌≢◌, ℕ, ◌+◌, ◌-◌, ◌*◌, ◌<◌, ◌≤◌, ◌^◌, Bool, true, arith, sym, ap, subst, ◌∙◌, Option}
use Rattle.far_word.specs.declared.pointer.PtrWord.{PtrWord}
use Rattle.far_word.specs.declared.sizes.TheConstants.{LOG_WORDS}
use Rattle.far_word.specs.Header.{head_of}
use Rattle.far_word.specs.Sizes.{words_for}
use Rattle.far_events.specs.state.Law.{Law, SpanAt, Padded, NamesBack, BlankLaw, CleanLaw, head_len}
use Rattle.far_events.specs.state.Jobs.{SameAs}
use Rattle.far_events.specs.state.State.{State, put}
use Rattle.far_core.proofs.KeepJobs.{copies_with_words, keeps_same, task_unnamed}
use Rattle.far_events.proofs.Put.{put_both, put_other}
use Rattle.far_core.proofs.SpanFrames.{spans_apart, past_tail}

module _ (word : ℕ → ℕ) (starts : ℕ → Bool) (new : ℕ → ℕ) (same : (a : ℕ) → starts a ≡ true → new a ≡ word a) where
  -- where no header changes, each pointer is named back as it was
  pub NamesBack-same_heads : (p : ℕ) (o : Option PtrWord) → NamesBack word starts p o → NamesBack new starts p o
  NamesBack-same_heads p o h = λ len ds place m e. record { placed = (h len ds place m e).placed; head = same _ (h len ds place m e).placed ∙ (h len ds place m e).head }

module _ (s : State) (law : Law s) (new : ℕ → ℕ)
    (fits : (a : ℕ) → new a < 2 ^ 64)
    (heads : (a : ℕ) → s.starts a ≡ true → new a ≡ s.word a)
    (pads : (a : ℕ) → s.starts a ≡ true → Padded new a (head_len (s.word a)))
    (blanks : BlankLaw s.honest s.cell new s.stored s.used) (cleans : CleanLaw s.honest s.cell new s.stored)
    (same : SameAs s.round_epoch s.round new s.copying) where
  pub keeps_words : Law record s { word = new }
  keeps_words = record {
    shape = law.shape;
    cells = record {
      cell_read = law.cells.cell_read;
      cell_range = law.cells.cell_range;
      cell_near = λ p. NamesBack-same_heads s.word s.starts new heads p _ (law.cells.cell_near p);
      cell_far = law.cells.cell_far;
    };
    spans = record {
      word_fits = fits;
      first_span = law.spans.first_span;
      span = λ a h. subst (SpanAt s.tail s.starts a) (ap head_len (sym (heads a h))) (law.spans.span a h);
      span_header = λ a h st e. law.spans.span_header a h st (ap head_of (sym (heads a st)) ∙ e);
      span_padding = λ a h. subst (Padded new a) (ap head_len (sym (heads a h))) (pads a h);
    };
    logs = law.logs;
    scopes = law.scopes;
    views = law.views;
    rounds = law.rounds;
    clears = law.clears;
    unadopted = blanks;
    copies = copies_with_words s new law heads same;
    soils = law.soils;
    cleans = cleans;
  }

-- ---- a data word of a span
module _ (s : State) (law : Law s) (a : ℕ) (placed : s.starts a ≡ true) (i : ℕ) (inside : i < words_for (head_len (s.word a)))
    (w : ℕ) (wide : w < 2 ^ 64) (pad : w < 2 ^ (8 * (head_len (s.word a) - 8 * i))) where
  abbrev replaced : ℕ → ℕ
  replaced = put s.word (a + 1 + i) w

  pub head_stays : (b : ℕ) → s.starts b ≡ true → replaced b ≡ s.word b
  head_stays b h = put_other s.word (a + 1 + i) w b (λ e.
      let same : a ≡ b = spans_apart s law a b (1 + i) 0 placed h (omega arith) (omega arith) (omega arith) in omega arith)

  -- a data word of another span stays
  pub data_stays : (b : ℕ) → s.starts b ≡ true → b ≢ a → (j : ℕ) → j < words_for (head_len (s.word b)) → replaced (b + 1 + j) ≡ s.word (b + 1 + j)
  data_stays b h other j lt = put_other s.word (a + 1 + i) w (b + 1 + j) (λ e.
      other (spans_apart s law b a (1 + j) (1 + i) h placed (omega arith) (omega arith) (omega arith)))

  padded_at : (b : ℕ) → s.starts b ≡ true → Padded replaced b (head_len (s.word b))
  padded_at b h j lt = put_both (λ x. x < 2 ^ (8 * (head_len (s.word b) - 8 * j))) s.word (a + 1 + i) w (b + 1 + j)
      (λ e. let same : b ≡ a = spans_apart s law b a (1 + j) (1 + i) h placed (omega arith) (omega arith) (omega arith) in
      let at : j ≡ i = omega arith in rw (same, at) pad)
      (λ _. law.spans.span_padding b h j lt)

  pub keeps_store : BlankLaw s.honest s.cell replaced s.stored s.used → CleanLaw s.honest s.cell replaced s.stored → SameAs s.round_epoch s.round replaced s.copying → Law record s { word = replaced }
  keeps_store blanks cleans same = keeps_words s law replaced
      (λ b. put_both (λ x. x < 2 ^ 64) s.word (a + 1 + i) w b (λ _. wide) (λ _. law.spans.word_fits b)) head_stays padded_at blanks cleans same

-- ---- a word past a tail
module _ (s : State) (law : Law s) (l at w : ℕ) (past : s.tail l ≤ at) (inside : at < LOG_WORDS) (wide : w < 2 ^ 64) where
  abbrev written : ℕ → ℕ
  written = put s.word (l * LOG_WORDS + at) w

  pub head_kept : (b : ℕ) → s.starts b ≡ true → written b ≡ s.word b
  head_kept b h = put_other s.word (l * LOG_WORDS + at) w b (λ e. past_tail s law l at b 0 past inside h (omega arith) (omega arith))

  pub data_kept : (b j : ℕ) → s.starts b ≡ true → j < words_for (head_len (s.word b)) → written (b + 1 + j) ≡ s.word (b + 1 + j)
  data_kept b j h lt = put_other s.word (l * LOG_WORDS + at) w (b + 1 + j) (λ e. past_tail s law l at b (1 + j) past inside h (omega arith) (omega arith))

  -- the words of jobs' spans stay
  pub same_kept : SameAs s.round_epoch s.round written s.copying
  same_kept =
      let jobs = law.copies.jobs in
      keeps_same s.round_epoch s.round s.word written s.copying law.copies.taken law.copies.same
      (λ j job e. head_kept _ (jobs.job_spans j job e).from)
      (λ j job e good i lt. data_kept _ i (jobs.job_spans j job e).from lt)
      (λ j job e unnamed i lt. data_kept _ i (jobs.job_spans j job e).to (rw (jobs.job_spans j job e).alike lt))
      (task_unnamed s.word s.starts s.copying jobs law.copies.taken)
