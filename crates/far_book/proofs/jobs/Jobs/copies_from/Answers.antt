use Rattle.far_book.proofs.jobs.Jobs.copies_from.Goals.{in-Some+else-copies_from, in_default}
use Rattle.far_book.proofs.jobs.Jobs.copies_from.Goals as goal
use Rattle.std.proofs.Common.{◌≡◌, ◌∙◌, arith, ap, false, sym}
use borrow.Author.Count.{below_more}
use Rattle.far_book.specs.book.Jobs.{copies_from, noted_at}

pub returns-then-copies_from-clause-some : goal.returns-then-copies_from-clause-some
returns-then-copies_from-clause-some c _ = (c.loop-job.job, omega arith, ap (copies_from c.args.pointer c.args.at) (sym c.noted.ensures ∙ c.in-Some.is) ∙ sym c.copies_from.ensures ∙ c.if-copies_from.true)

pub loop-job-preserved : goal.loop-job-preserved
loop-job-preserved c =
    let of = copies_from c.args.pointer c.args.at in
    let here : of (noted_at c.args.self.now c.loop-job.job) ≡ false = elim c.match-noted.branch [
      | in-Some+else-copies_from w ↦ ap of (sym c.noted.ensures ∙ w.in-Some.is) ∙ sym w.copies_from.ensures ∙ w.if-copies_from.false
      | in_default w ↦ ap of (sym c.noted.ensures ∙ w.in_default.is)
    ] in
    below_more (λ k. of (noted_at c.args.self.now k) ≡ false) c.loop-job.job c.loop-job.invariant here
