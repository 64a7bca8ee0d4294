use Rattle.std.proofs.Common.{◌+◌, ◌*◌, ◌∙◌, ℕ, Bool, true, false, ap, arith, get_or}
use Rattle.far_word.specs.declared.sizes.TheConstants.{LOG_WORDS}
use Rattle.far_events.specs.state.Memory.{copying_of}
use Rattle.far_events.specs.state.State.{Copying, put}
use Rattle.far_events.proofs.CopierRows.{empty_written, row_item, rows_of}
use Rattle.far_events.proofs.Items.{item_put}
use Rattle.far_events.proofs.memory.jobs.Jobs.set_written.Goals as goal

pub invariant_of-self-clause-written_behind : goal.invariant_of-self-clause-written_behind
invariant_of-self-clause-written_behind c =
    let jobs = c.touch.new.self in
    empty_written false true jobs.touched jobs.written.items c.args.copier c.args.index c.requires.index c.touch.ensures.touched jobs.written_behind

pub returns : goal.returns
unfolding copying_of
returns c =
    let jobs = c.touch.new.self in
    ap (λ (f : ℕ → Bool). record (copying_of jobs) { written = rows_of f false })
    (item_put jobs.written.items (c.args.copier * LOG_WORDS + c.args.index) true false (omega (arith, c.requires.reached, c.requires.index, jobs.written.ok.0, c.touch.ensures.written)))
    ∙ ap (λ (f : ℕ → ℕ → Bool). record (copying_of jobs) { written = f })
    (row_item (λ a. get_or jobs.written.items a false) c.args.copier c.args.index true false c.requires.index)
    ∙ ap (λ (s : Copying). record s { written = put s.written c.args.copier (put (s.written c.args.copier) c.args.index true) }) c.touch.ensures.state
