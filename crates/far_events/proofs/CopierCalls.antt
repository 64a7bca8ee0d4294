-- What the test of a copier's reading says, and where the words lie that it reads and writes.
use Rattle.std.proofs.Common.{◌≡◌, ℕ, ◌+◌, ◌*◌, ◌/◌, ◌<◌, ◌∙◌, true, arith, refl, sym, subst, Some, Option, None}
use Rattle.far_word.specs.declared.sizes.TheConstants.{LOG_WORDS, MOST_COPIERS}
use Rattle.far_word.specs.Sizes.{words_for}
use Rattle.far_events.specs.declared.event.Event.TheVariants.{Read}
use Rattle.far_events.specs.declared.event.Task.{Task}
use Rattle.far_events.specs.events.Step.{is_legal}
use Rattle.far_events.specs.state.Jobs.{job_words}
use Rattle.far_events.specs.state.Law.{Law, head_len}
use Rattle.far_events.specs.state.State.{State, addr}
use Rattle.far_events.proofs.Bounds.{log_inside}
use Rattle.far_events.proofs.JobPlaces.{task_lies, task_at}
use Rattle.std.proofs.lemmas.Bool.{false≢true}
use Rattle.std.proofs.lemmas.Bool.Decides.{nat_tests}
use Rattle.far_events.specs.events.Tasks.{HasTask, is_task_word}

pub read_fact : (s : State) (c i : ℕ) (o : Option Task) → s.copying.task c ≡ o → is_task_word s o i ≡ true → (t : Task) × HasTask s c t × (i < job_words s.word t.job)
read_fact s c i None e h = absurd (false≢true h)
read_fact s c i (Some t) e h = (t, e, grind (arith, nat_tests))

-- a data word of a placed span lies in the heap
word_lies : (s : State) → Law s → (a i : ℕ) → s.starts a ≡ true → i < words_for (head_len (s.word a)) → (a + 1 + i < LOG_WORDS * s.logs) × (i < LOG_WORDS)
word_lies s law a i begun low =
    let span = law.spans.span a begun in
    let inside : a / LOG_WORDS < s.logs = log_inside s law (a / LOG_WORDS) (omega (arith, span.fits)) in
    (omega (arith, inside, span.fits, law.logs.tail_end (a / LOG_WORDS)), omega (arith, span.fits, law.logs.tail_end (a / LOG_WORDS)))

pub read_lies : (s : State) → Law s → (c i : ℕ) → is_legal s (Read c i) ≡ true → (t : Task) → s.copying.task c ≡ Some t → (addr t.job.from + 1 + i < LOG_WORDS * s.logs) × (i < LOG_WORDS) × (c < MOST_COPIERS)
read_lies s law c i legal t has =
    let h = read_fact s c i (s.copying.task c) refl legal in
    let both : Some h.0 ≡ Some t = sym h.1 ∙ has in
    let one : h.0 ≡ t = cc in
    let spans = law.copies.jobs.job_spans t.number t.job (task_at s.word s.copying law.copies.taken c t has) in
    let low : i < job_words s.word t.job = subst (λ (x : Task). i < job_words s.word x.job) one h.2 in
    let x = word_lies s law (addr t.job.from) i spans.from low in
    (x.0, x.1, (task_lies s law c t has).1.1)

pub write_lies : (s : State) → Law s → (c i w : ℕ) (t : Task) → s.copying.task c ≡ Some t → s.copying.read c i ≡ Some w → (addr t.job.to + 1 + i < LOG_WORDS * s.logs) × (i < LOG_WORDS) × (c < MOST_COPIERS)
write_lies s law c i w t has knows =
    let spans = law.copies.jobs.job_spans t.number t.job (task_at s.word s.copying law.copies.taken c t has) in
    let x = word_lies s law (addr t.job.to) i spans.to (rw spans.alike (law.copies.taken.fits c i w t has knows).0) in
    (x.0, x.1, (task_lies s law c t has).1.1)
