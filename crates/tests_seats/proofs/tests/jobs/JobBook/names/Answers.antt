use Rattle.std.proofs.Common.{◌≡◌, sym, ap, subst, ◌∙◌, refl, Some}
use Rattle.far_word.specs.declared.job.JobWord.TheVariants.{Finished}
use Rattle.far_word.specs.Job.{job_of}
use Rattle.far_events.specs.state.State.{State}
use Rattle.far_events.proofs.Put.{put_same}
use Rattle.tests_seats.specs.Offers.{HasRound, KnowsJobs, KnowsRoom}
use Rattle.tests_seats.proofs.Offering.{may_name, named_then}
use Rattle.tests_seats.proofs.tests.jobs.JobBook.names.Goals as goal

pub name-requires-clause-legal : goal.name-requires-clause-legal
name-requires-clause-legal g c =
    let b = c.args.self.now in
    let u : State = g.N.Near.view c.see-cell.new.self in
    let s : State = g.N.Near.view b.near in
    let x = c.in-Some-Finished in
    let kept = sym c.see-cell.ensures.kept in
    let said : job_of b.word ≡ Some (Finished x.job x.field-0-1) = sym c.read.ensures.exact ∙ (x.is ∙ ap Some x.field-0-is) in
    let round = subst HasRound kept b.round in
    let room = subst (λ (z : State). KnowsRoom z b.next b.spare) kept b.room in
    let jobs = subst (λ (z : State). KnowsJobs z b.offered b.job b.word) kept b.jobs in
    let at : u.cell x.job.pointer ≡ c.see-cell.result = ap (λ (z : State). z.cell x.job.pointer) c.see-cell.ensures.kept ∙ put_same s.cell x.job.pointer c.see-cell.result x.job.pointer refl in
    may_name u b.next b.spare b.offered b.job b.word x.field-0-1 c.see-cell.result c.in-Some.new x.job round room jobs c.if-self.false c.if-job-ge-CHOSEN.false said at c.in-Some.ensures c.if-job-ge-CELLS.false

pub invariant_of-self-2 : goal.invariant_of-self-2
invariant_of-self-2 g c =
    let b = c.args.self.now in
    let u : State = g.N.Near.view c.see-cell.new.self in
    let s : State = g.N.Near.view b.near in
    let x = c.in-Some-Finished in
    let kept = sym c.see-cell.ensures.kept in
    let said : job_of b.word ≡ Some (Finished x.job x.field-0-1) = sym c.read.ensures.exact ∙ (x.is ∙ ap Some x.field-0-is) in
    let round = subst HasRound kept b.round in
    let room = subst (λ (z : State). KnowsRoom z b.next b.spare) kept b.room in
    let jobs = subst (λ (z : State). KnowsJobs z b.offered b.job b.word) kept b.jobs in
    let at : u.cell x.job.pointer ≡ c.see-cell.result = ap (λ (z : State). z.cell x.job.pointer) c.see-cell.ensures.kept ∙ put_same s.cell x.job.pointer c.see-cell.result x.job.pointer refl in
    let both = named_then u b.next b.spare b.offered b.job b.word x.field-0-1 c.see-cell.result c.in-Some.new x.job round room jobs c.if-self.false c.if-job-ge-CHOSEN.false said at c.in-Some.ensures
    c.name.result (g.N.Near.view c.name.new.self) c.name.ensures.done c.name.ensures.kept in
    record { round = both.0; room = both.1; jobs = both.2 }
