use Rattle.std.proofs.Common.{◌+◌, ◌*◌, ◌∙◌, ℕ, ap, arith, get_or, Option, None}
use Rattle.far_word.specs.declared.sizes.TheConstants.{LOG_WORDS}
use Rattle.far_events.specs.state.Memory.{copying_of}
use Rattle.far_events.specs.state.State.{Copying, put}
use Rattle.far_events.proofs.CopierRows.{empty_written, row_item, rows_of}
use Rattle.far_events.proofs.Items.{item_put}
use Rattle.far_events.proofs.memory.jobs.Jobs.set_read.Goals as goal

pub invariant_of-self-clause-read_behind : goal.invariant_of-self-clause-read_behind
invariant_of-self-clause-read_behind c =
    let jobs = c.touch.new.self in
    empty_written None c.args.word jobs.touched jobs.read.items c.args.copier c.args.index c.requires.index c.touch.ensures.touched jobs.read_behind

pub returns : goal.returns
unfolding copying_of
returns c =
    let jobs = c.touch.new.self in
    ap (λ (f : ℕ → Option ℕ). record (copying_of jobs) { read = rows_of f None })
    (item_put jobs.read.items (c.args.copier * LOG_WORDS + c.args.index) c.args.word None (omega (arith, c.requires.reached, c.requires.index, jobs.read.ok.0, c.touch.ensures.read)))
    ∙ ap (λ (f : ℕ → ℕ → Option ℕ). record (copying_of jobs) { read = f })
    (row_item (λ a. get_or jobs.read.items a None) c.args.copier c.args.index c.args.word None c.requires.index)
    ∙ ap (λ (s : Copying). record s { read = put s.read c.args.copier (put (s.read c.args.copier) c.args.index c.args.word) }) c.touch.ensures.state
