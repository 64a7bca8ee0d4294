-- What the book is told to tell is whole, and short.
use Rattle.std.proofs.Common.{◌≡◌, ℕ, zero, suc, ◌+◌, ◌*◌, ◌/◌, ◌<◌, ◌≤◌, Bool, true, false, cond, not, refl, Option, Some, None, List, [], ◌∷◌, length, length-append, ap, arith, ◌-◌, ◌++◌, ◌∙◌, append_assoc, drop, subst, sym}
use Rattle.std.specs.Prelude.{map}
use Rattle.std.specs.List.{AllByRecursion, flat_map, range_with_len}
use Rattle.std.proofs.lemmas.List.FromFn.{length-map-range_with_len, map-range_with_len_more}
use Rattle.far_word.specs.declared.sizes.TheConstants.{CELLS, LOG_BYTES}
use Rattle.far_word.specs.Pointer.{read_of}
use Rattle.far_word.specs.Sizes.{bytes_taken, size_of}
use Rattle.far_log.specs.Spans.{taken_by}
use Rattle.far_log.specs.declared.span.Span.{Span}
use Rattle.far_core.specs.laws.Observed.{dead_bytes, live_bytes, unused_bytes}
use Rattle.far_events.specs.state.Spans.{is_live, spans_of}
use Rattle.far_events.specs.events.Naming.{is_dropped}
use Rattle.far_events.specs.state.Law.{Law}
use Rattle.far_events.specs.state.State.{State}
use Rattle.far_book.specs.book.Home.{home_of}
use Rattle.far_book.specs.book.Own.{own_part}
use Rattle.far_book.specs.book.Rows.{row_of}
use Rattle.far_book.specs.declared.home.Home.{Home}
use Rattle.far_book.proofs.region.Whole.{bytes_make_log}
use Rattle.far_evac.specs.declared.census.Housed.{Housed}
use Rattle.far_evac.specs.declared.census.LogState.{LogState}
use Rattle.far_evac.specs.Census.{homes_of, housed_at, housed_in, kind_in, logs_of}
use Rattle.far_evac.specs.Moment.{Moment}
use Rattle.far_reply.specs.declared.reply.LogLine.{LogLine}
use Rattle.far_replay.specs.Turn.{log_line}
use Rattle.far_heap.specs.HeapId.{HeapId}
use Rattle.far_text.specs.Command.{Command}
use Rattle.far_reply.specs.Reply.{Reply}
use Rattle.far_split.specs.BookTold.{BookTold, MakesLog, TellsLine}
use Rattle.far_split.specs.Here.{commands_of}
use Rattle.far_split.specs.Kept.{line_told, lines_told}
use Rattle.far_split.specs.declared.told.LogWords.{LogWords}
use Rattle.far_split.proofs.Keeping.{logs_more as lines_more_told}

-- ---- logs
pub lines_whole : (now : Moment) → Law (own_part now.core) → (logs : List ℕ) → AllByRecursion MakesLog (map (log_line now) logs)
lines_whole now law [] = tt
lines_whole now law (log ∷ logs) = (bytes_make_log now.core law log, lines_whole now law logs)

-- one line more
pub lines_more : (now : Moment) (first log : ℕ) (lines new : List LogLine) (line : LogLine) → first ≤ log → lines ≡ map (log_line now) (range_with_len first (log - first)) → new ≡ lines ++ line ∷ [] → line ≡ log_line now log
    → new ≡ map (log_line now) (range_with_len first (log + 1 - first))
lines_more now first log lines new line begins so_far is told =
    is
    ∙ (λ i. so_far i ++ told i ∷ [])
    ∙ sym (map-range_with_len_more (log_line now) first (log - first) log (omega (arith, begins)))
    ∙ ap (λ n. map (log_line now) (range_with_len first n)) (omega (arith, begins))

-- one log's words more
pub rows_more : (now : Moment) (first log : ℕ) (rows new : List LogWords) (row : LogWords) → first ≤ log → length rows + first ≡ log → lines_told first rows ≡ map (log_line now) (range_with_len first (log - first)) → new ≡ rows ++ row ∷ []
    → line_told log row ≡ log_line now log → lines_told first new ≡ map (log_line now) (range_with_len first (log + 1 - first))
rows_more now first log rows new row begins many so_far is told =
    lines_more now first log (lines_told first rows) (lines_told first new) (line_told log row) begins so_far
    (ap (lines_told first) is ∙ lines_more_told first rows row ∙ ap (λ n. lines_told first rows ++ line_told n row ∷ []) (omega (arith, many))) told

-- what spans take is whole words
words_more : (counts : Bool) (k n : ℕ) → cond counts (8 * k) 0 + 8 * n ≡ 8 * (cond counts k 0 + n)
words_more true k n = omega arith
words_more false k n = omega arith

taken_words : (test : Span → Bool) (spans : List Span) → (n : ℕ) × (taken_by test spans ≡ 8 * n)
taken_words test [] = (0, refl)
taken_words test (span ∷ spans) =
    let later = taken_words test spans in
    (cond (test span) (size_of span.len) 0 + later.0, ap (λ n. cond (test span) (bytes_taken span.len) 0 + n) later.1 ∙ words_more (test span) (size_of span.len) later.0)

-- a log's words tell its bytes
pub words_told : (now : Moment) → Law (own_part now.core) → (log : ℕ) (words : LogWords) → words.kind ≡ kind_in now log → words.live ≡ live_bytes now.core log / 8 → words.dead ≡ dead_bytes now.core log / 8
    → line_told log words ≡ log_line now log
words_told now law log words kind lives dies =
    let (n, live) = taken_words (is_live now.core log) (spans_of now.core log) in
    let (k, dead) = taken_words (λ span. not (is_live now.core log span)) (spans_of now.core log) in
    let whole : live_bytes now.core log + dead_bytes now.core log + unused_bytes now.core log ≡ LOG_BYTES = bytes_make_log now.core law log in
    let live_is : 8 * words.live ≡ live_bytes now.core log = omega (arith, lives, live) in
    let dead_is : 8 * words.dead ≡ dead_bytes now.core log = omega (arith, dies, dead) in
    let unused_is : LOG_BYTES - (8 * words.live + 8 * words.dead) ≡ unused_bytes now.core log = omega (arith, live_is, dead_is, whole) in
    λ i. record { log = log; kind = kind i; live = live_is i; dead = dead_is i; unused = unused_is i }

-- ---- a census is short
at_most : (p : ℕ) (home : Option Home) → length (housed_at p home) ≤ 1
at_most p None = omega arith
at_most p (Some home) = omega arith

in_most : (p : ℕ) (dropped : Bool) (home : Option Home) → length (cond dropped [] (housed_at p home)) ≤ 1
in_most p true home = omega arith
in_most p false home = at_most p home

few_from : (s : State) (first many : ℕ) → length (flat_map (λ p. housed_in p (read_of (s.cell p))) (range_with_len first many)) ≤ many
few_from s first zero = omega arith
few_from s first (suc many) =
    let here = housed_in first (read_of (s.cell first)) in
    let later = flat_map (λ p. housed_in p (read_of (s.cell p))) (range_with_len (first + 1) many) in
    omega (arith, length-append here later, in_most first (is_dropped (read_of (s.cell first))) (home_of (read_of (s.cell first))), few_from s (first + 1) many)

pub homes_few : (s : State) → Law (own_part s) → (homes : List Housed) → homes ≡ homes_of s → length homes < 65536
homes_few s law homes are = omega (arith, ap length are, few_from s 0 (CELLS * s.mutators), law.shape.few_mutators)

pub logs_few : (m : Moment) → Law (own_part m.core) → (logs : List LogState) → logs ≡ logs_of m → length logs < 65536
logs_few m law logs are = omega (arith, ap length are, length-map-range_with_len {X = LogState} (λ l. record { kind = kind_in m l; row = row_of m.core l }) 0 m.core.logs, law.shape.few_logs)

-- ---- one line of the book's more
pub one_told : (heap : HeapId) (lines : List (ℕ × Command)) (at : ℕ) (line : ℕ × Command) (told all more : List Reply) (r : Reply) → drop at lines ≡ line ∷ drop (at + 1) lines → all ≡ told ++ r ∷ [] → TellsLine heap line.1 r
    → ((rest : List Reply) → BookTold heap (commands_of (drop at lines)) rest → BookTold heap (commands_of lines) (told ++ rest))
    → BookTold heap (commands_of (drop (at + 1) lines)) more → BookTold heap (commands_of lines) (all ++ more)
one_told heap lines at line told all more r here are tells so_far later =
    subst (λ (xs : List Reply). BookTold heap (commands_of lines) (xs ++ more)) (sym are)
    (subst (BookTold heap (commands_of lines)) (sym (append_assoc told (r ∷ []) more))
    (so_far (r ∷ more) (subst (λ (ls : List (ℕ × Command)). BookTold heap (commands_of ls) (r ∷ more)) (sym here) (tells, later))))
