use Rattle.far_book.proofs.book.Book.has_job.Goals as goal
use Rattle.std.proofs.Common.{◌≡◌, ◌∙◌, ap, subst, true}
use Rattle.far_word.specs.Pointer.{read_of}
use Rattle.far_events.specs.state.Jobs.{near_place}
use Rattle.far_events.specs.state.State.{State}
use Rattle.far_book.specs.book.BookOf.{BookOf}
use Rattle.far_book.specs.book.Jobs.{HasJob, has_job}
use Rattle.far_book.proofs.region.HavingJobs.{answers, has_means}
use Rattle.far_book.proofs.region.JobNotes.{idle}

pub copies_from-requires : goal.copies_from-requires
copies_from-requires g c =
    let s = g.N.Near.view c.self.inside.near in
    let notes = c.self.invariant.0.notes.jobs in
    record { sized = notes.sized; waiting = idle s.round_epoch s.round _ c.self.inside.ledger.jobs notes }

pub returns-clause-is : goal.returns-clause-is
returns-clause-is g c =
    let s = g.N.Near.view c.self.inside.near in
    let same = ap (λ (b : BookOf g.row.N.Denot g.row.D.Denot). g.N.Near.view b.near) c.self.view_is in
    let lies = ap (λ (x : State). near_place (read_of (x.cell c.args.pointer))) same ∙ c.requires.lies in
    subst (λ (x : State). c.copies_from.result ≡ has_job x c.args.pointer) same
    (answers s c.args.pointer c.args.at lies c.self.inside.ledger c.self.invariant.0.notes c.copies_from.result c.copies_from.ensures.some c.copies_from.ensures.none)

pub returns-clause-has : goal.returns-clause-has
returns-clause-has g c =
    let s = g.N.Near.view c.self.inside.near in
    let same = ap (λ (b : BookOf g.row.N.Denot g.row.D.Denot). g.N.Near.view b.near) c.self.view_is in
    let lies = ap (λ (x : State). near_place (read_of (x.cell c.args.pointer))) same ∙ c.requires.lies in
    subst (λ (x : State). (c.copies_from.result ≡ true → HasJob x c.args.pointer) × (HasJob x c.args.pointer → c.copies_from.result ≡ true)) same
    (has_means s c.args.pointer c.args.at lies c.self.inside.ledger c.self.invariant.0.notes c.copies_from.result c.copies_from.ensures.some c.copies_from.ensures.none)
