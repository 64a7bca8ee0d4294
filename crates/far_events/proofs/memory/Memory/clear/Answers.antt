use Rattle.std.proofs.Common.{◌≡◌, ◌∙◌, ap, arith, sym, Some}
use Rattle.far_word.specs.Pointer.{read_of}
use Rattle.far_word.specs.declared.pointer.PtrWord.TheVariants.{Near}
use Rattle.far_events.specs.state.Memory.{state_of}
use Rattle.far_events.specs.state.State.{State}
use Rattle.far_events.proofs.Bounds.{near_inside}
use Rattle.far_events.proofs.memory.Memory.clear.Goals as goal

pub leave_round-requires : goal.leave_round-requires
leave_round-requires c =
    let s = state_of c.args.self.now in let it = c.in-Near in
    let near : read_of (s.cell c.args.pointer) ≡ Some (Near it.len it.ds it.place it.marks) = ap read_of (sym c.cell_at-old.ensures) ∙ c.known.ensures ∙ ap Some it.is in
    omega (arith, ap (λ (t : State). t.logs) c.set_cell.ensures, (near_inside s c.requires.law c.args.pointer it.len it.ds it.place it.marks near).0)
