use Rattle.far_book.proofs.book.Book.end_job.Goals.{else-void-via-then-void+else-is_offered, else-void-via-else-void}
use Rattle.far_book.proofs.book.Book.end_job.Goals as goal
use Rattle.std.proofs.Common.{◌≡◌, ◌∙◌, ap, sym}
use Rattle.std.specs.Prelude.{◌||◌, not}
use Rattle.far_word.specs.Job.{job_of}
use Rattle.far_word.specs.Pointer.{read_of}
use Rattle.far_events.specs.events.Naming.{is_dropped}
use Rattle.far_events.specs.state.Spans.{names_place}
use Rattle.far_book.specs.book.Collecting.{Stays, fate_in, fate_of, is_void}
use Rattle.far_book.proofs.region.Going.{fate_going, goes_stays, not_offered}

pub returns-else-void-clause-goes : goal.returns-else-void-clause-goes
returns-else-void-clause-goes g c =
    let s = g.N.Near.view c.args.self.now.near in
    let job = c.args.noted.job in
    let dropped = is_dropped (read_of (s.cell job.pointer)) in
    let void = is_void s c.args.job job (read_of (s.cell job.pointer)) in
    let told : c.is_void-void.result ≡ void = c.is_void-void.ensures ∙ ap (λ b. not b || not (names_place (read_of c.args.cell) job.from.log job.from.at)) c.requires.good
    ∙ ap (λ v. is_void s c.args.job job (read_of v)) c.requires.found in
    let undone = sym c.is_finished.ensures ∙ c.if-is_finished.false in
    let stays : fate_of (job_of c.args.word) void dropped ≡ Stays = elim c.else-void.branch [
      | else-void-via-then-void+else-is_offered w ↦ fate_going (job_of c.args.word) void dropped undone (w.is_offered.ensures.not_so w.if-is_offered.false)
      | else-void-via-else-void w ↦ ap (λ b. fate_of (job_of c.args.word) b dropped) (sym told ∙ w.if-void.false) ∙ not_offered (job_of c.args.word) dropped undone
    ] in
    goes_stays s c.args.job job (ap (λ w. fate_in s c.args.job job w (s.cell job.pointer)) (sym c.requires.seen) ∙ stays)
