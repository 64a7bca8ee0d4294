use Rattle.far_book.proofs.book.Book.end_void.Goals as goal
use Rattle.std.proofs.Common.{◌∙◌, ap, refl, subst, sym, true, false}
use Rattle.far_word.specs.Job.{job_of}
use Rattle.far_word.specs.Pointer.{read_of}
use Rattle.far_events.specs.events.Collect.{collected, is_loose}
use Rattle.far_events.specs.events.Naming.{is_dropped}
use Rattle.far_events.specs.state.State.{State}
use Rattle.far_events.proofs.Put.{put_same}
use Rattle.far_book.specs.book.Collecting.{GoesAsFound, fate_in, fate_of}
use Rattle.far_hand.proofs.Closure.{then_came}
use Rattle.far_hand.specs.FindsJob.{FindsJob}
use Rattle.far_book.proofs.region.Going.{fate_ended, fate_going, fate_offered, goes_empty, goes_empty_found, goes_found, offered_lost}

pub empty_job-requires-clause-range : goal.empty_job-requires-clause-range
empty_job-requires-clause-range g c = c.requires.range

pub empty_job-requires-clause-seen : goal.empty_job-requires-clause-seen
empty_job-requires-clause-seen g c = c.requires.seen

pub empty_job-requires-clause-loose : goal.empty_job-requires-clause-loose
empty_job-requires-clause-loose g c = ap is_loose c.requires.offered

pub returns-in_default-clause-exact : goal.returns-in_default-clause-exact
returns-in_default-clause-exact g c _ = c.in_default.ensures.done

pub returns-in_default-clause-came : goal.returns-in_default-clause-came
returns-in_default-clause-came g c = c.empty_job.ensures.came

pub returns-in_default-clause-order : goal.returns-in_default-clause-order
returns-in_default-clause-order g c = c.empty_job.ensures.order

pub returns-in_default-clause-device : goal.returns-in_default-clause-device
returns-in_default-clause-device g c = c.empty_job.ensures.device

pub returns-in_default-clause-goes : goal.returns-in_default-clause-goes
returns-in_default-clause-goes g c =
    let s = g.N.Near.view c.args.self.now.near in
    let what = c.args.what in
    let dropped = is_dropped (read_of (s.cell what.pointer)) in
    subst (λ (t : State). GoesAsFound s t c.args.job what false) (sym c.in_default.ensures.done)
    (goes_empty s c.args.job what (ap (λ w. fate_in s c.args.job what w (s.cell what.pointer)) (sym c.requires.seen)
    ∙ ap (λ b. fate_of (job_of c.args.word) b dropped) c.requires.void ∙ fate_offered (job_of c.args.word) what true dropped c.requires.offered))

pub returns-then-is_finished-clause-goes : goal.returns-then-is_finished-clause-goes
returns-then-is_finished-clause-goes g c =
    let s = g.N.Near.view c.args.self.now.near in
    let what = c.args.what in
    let dropped = is_dropped (read_of (s.cell what.pointer)) in
    let finds = subst (λ w. FindsJob w c.in-Err.found) c.requires.seen c.in-Err.ensures.found in
    subst (λ (t : State). GoesAsFound s t c.args.job what false) (sym (c.empty_finished.ensures.done ∙ ap (λ (x : State). collected x c.args.job) c.in-Err.ensures.kept))
    (goes_empty_found s c.args.job what c.in-Err.found finds
    (ap (λ b. fate_of (job_of c.in-Err.found) b dropped) c.requires.void ∙ fate_ended (job_of c.in-Err.found) dropped (sym c.is_finished.ensures ∙ c.if-is_finished.true)))

pub returns-then-is_finished-clause-came : goal.returns-then-is_finished-clause-came
returns-then-is_finished-clause-came g c = then_came c.in-Err.ensures.came c.empty_finished.ensures.came

pub returns-else-is_finished-clause-goes : goal.returns-else-is_finished-clause-goes
returns-else-is_finished-clause-goes g c =
    let s = g.N.Near.view c.args.self.now.near in
    let what = c.args.what in
    let dropped = is_dropped (read_of (s.cell what.pointer)) in
    let finds = subst (λ w. FindsJob w c.in-Err.found) c.requires.seen c.in-Err.ensures.found in
    subst (λ (t : State). GoesAsFound s t c.args.job what false) (sym c.in-Err.ensures.kept)
    (goes_found s c.args.job what c.in-Err.found finds
    (ap (λ b. fate_of (job_of c.in-Err.found) b dropped) c.requires.void
    ∙ fate_going (job_of c.in-Err.found) true dropped (sym c.is_finished.ensures ∙ c.if-is_finished.false) (offered_lost c.args.word c.in-Err.found what c.requires.offered c.in-Err.ensures.found c.in-Err.ensures.other)))

pub empty_finished-requires-clause-range : goal.empty_finished-requires-clause-range
empty_finished-requires-clause-range g c = c.requires.range

pub empty_finished-requires-clause-seen : goal.empty_finished-requires-clause-seen
empty_finished-requires-clause-seen g c =
    sym (ap (λ (x : State). x.copying.word c.args.job) c.in-Err.ensures.kept ∙ put_same (g.N.Near.view c.args.self.now.near).copying.word c.args.job c.in-Err.found c.args.job refl)

pub empty_finished-requires-clause-finished : goal.empty_finished-requires-clause-finished
empty_finished-requires-clause-finished g c = sym c.is_finished.ensures ∙ c.if-is_finished.true

pub returns-then-is_finished-clause-exact : goal.returns-then-is_finished-clause-exact
returns-then-is_finished-clause-exact g c still = absurd (c.in-Err.ensures.won still)

pub returns-then-is_finished-clause-order : goal.returns-then-is_finished-clause-order
returns-then-is_finished-clause-order g c = c.empty_finished.ensures.order ∙ c.empty_job.ensures.order

pub returns-then-is_finished-clause-device : goal.returns-then-is_finished-clause-device
returns-then-is_finished-clause-device g c = c.empty_finished.ensures.device ∙ c.empty_job.ensures.device

pub returns-else-is_finished-clause-exact : goal.returns-else-is_finished-clause-exact
returns-else-is_finished-clause-exact g c still = absurd (c.in-Err.ensures.won still)

pub returns-else-is_finished-clause-came : goal.returns-else-is_finished-clause-came
returns-else-is_finished-clause-came g c = c.empty_job.ensures.came

pub returns-else-is_finished-clause-order : goal.returns-else-is_finished-clause-order
returns-else-is_finished-clause-order g c = c.empty_job.ensures.order

pub returns-else-is_finished-clause-device : goal.returns-else-is_finished-clause-device
returns-else-is_finished-clause-device g c = c.empty_job.ensures.device
