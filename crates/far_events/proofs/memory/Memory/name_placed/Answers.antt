use Rattle.std.proofs.Common.{◌≡◌, ◌≢◌, ◌∙◌, ℕ, true, sym, ap, refl, subst, Option, Some, None}
use Rattle.std.specs.Prelude.{IsSome}
use Rattle.far_word.specs.Pointer.{read_of}
use Rattle.far_events.specs.state.Memory.{state_of}
use Rattle.far_events.specs.state.State.{State, put}
use Rattle.far_events.proofs.Copied.{copied_fact}
use Rattle.far_events.proofs.NamingTests.{name_fact}
use Rattle.far_events.proofs.MadeNamings.{placed_is, placed_near, with_job}
use Rattle.far_events.proofs.memory.Memory.name_placed.Goals as goal

none_else : (o : Option ℕ) → ((j : ℕ) → o ≢ Some j) → o ≡ None
none_else None h = refl
none_else (Some j) h = absurd (h j refl)

pub known-requires : goal.known-requires
known-requires c = subst (λ (w : ℕ). IsSome (read_of w)) c.requires.cell (c.requires.law.cells.cell_read c.args.pointer).1

pub copied_job-job-requires-clause-pointer : goal.copied_job-job-requires-clause-pointer
copied_job-job-requires-clause-pointer c = (name_fact (state_of c.args.self.now) c.args.pointer c.args.old c.args.new c.requires.legal).0

pub set_cell-requires : goal.set_cell-requires
set_cell-requires c = (name_fact (state_of c.args.self.now) c.args.pointer c.args.old c.args.new c.requires.legal).0

pub unreachable-requires : goal.unreachable-requires
unreachable-requires c =
    let near = placed_near (state_of c.args.self.now) c.requires.law c.args.pointer c.args.old c.args.new c.ranges.new.fits c.requires.cell c.requires.legal c.args.place c.requires.near c.requires.begun c.known.result c.known.ensures in
    c.in_default.not-Near _ _ _ _ near.is

pub set_job_named-requires : goal.set_job_named-requires
set_job_named-requires c =
    let x = copied_fact (state_of c.args.self.now) c.args.pointer c.in-Near.from c.args.place c.in-Some.job (sym c.copied_job-job.ensures ∙ c.in-Some.is) in
    x.1.low

pub returns-in-Some : goal.returns-in-Some
returns-in-Some c =
    let s = state_of c.args.self.now in
    c.set_job_named.ensures ∙ ap (λ (t : State). record t { copying = record t.copying { named = put t.copying.named c.in-Some.job true } }) c.set_cell.ensures
    ∙ ap (with_job s c.args.pointer c.args.new) (sym (sym c.copied_job-job.ensures ∙ c.in-Some.is))
    ∙ placed_is s c.requires.law c.args.pointer c.args.old c.args.new c.ranges.new.fits c.requires.cell c.requires.legal c.args.place c.requires.near c.requires.begun
    c.in-Near.len c.in-Near.ds c.in-Near.from c.in-Near.marks (c.known.ensures ∙ ap Some c.in-Near.is)

pub returns-in_default-job : goal.returns-in_default-job
returns-in_default-job c =
    let s = state_of c.args.self.now in
    c.set_cell.ensures ∙ ap (with_job s c.args.pointer c.args.new) (sym (sym c.copied_job-job.ensures ∙ none_else c.copied_job-job.result (λ j e. c.in_default-job.not-Some j e)))
    ∙ placed_is s c.requires.law c.args.pointer c.args.old c.args.new c.ranges.new.fits c.requires.cell c.requires.legal c.args.place c.requires.near c.requires.begun
    c.in-Near.len c.in-Near.ds c.in-Near.from c.in-Near.marks (c.known.ensures ∙ ap Some c.in-Near.is)
