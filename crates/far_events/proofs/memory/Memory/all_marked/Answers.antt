use Rattle.std.proofs.Common.{ap, sym, ◌∙◌}
use Rattle.far_word.specs.Pointer.{read_of}
use Rattle.far_events.specs.events.Advance.{is_marked_among}
use Rattle.far_events.specs.state.Memory.{state_of}
use Rattle.far_events.proofs.events.Advance.{unmarked_at}
use Rattle.far_events.proofs.memory.Memory.all_marked.Goals as goal

pub returns-then-not-is_marked_among : goal.returns-then-not-is_marked_among
returns-then-not-is_marked_among c = sym (unmarked_at (state_of c.args.self.now) c.args.logs c.args.cells c.loop-pointer.pointer c.loop-pointer-test.true
    (sym (c.is_marked_among.ensures ∙ ap (λ w. is_marked_among c.args.logs (read_of w)) c.cell.ensures) ∙ c.if-not-is_marked_among.true))
