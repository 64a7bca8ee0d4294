use Rattle.std.proofs.Common.{ap, sym, ◌∙◌, ◌≡◌, Some}
use Rattle.far_word.specs.declared.pointer.PtrWord.TheVariants.{Near}
use Rattle.far_word.specs.Pointer.{read_of}
use Rattle.far_word.proofs.PointerLaws.{read_says}
use Rattle.far_events.specs.state.Memory.{state_of}
use Rattle.far_events.proofs.memory.Memory.may_copy.Goals as goal

pub takes_copy-requires-clause-some : goal.takes_copy-requires-clause-some
takes_copy-requires-clause-some c =
    let s = state_of c.args.self.now in
    let near : read_of (s.cell c.args.pointer) ≡ Some (Near c.in-Near.len c.in-Near.ds c.in-Near.place c.in-Near.marks) = ap read_of (sym c.cell.ensures) ∙ c.known.ensures ∙ ap (λ v. Some v) c.in-Near.is in
    (read_says _ _ (c.requires.law.cells.cell_read c.args.pointer).0 near).0.0

pub takes_copy-requires-clause-most : goal.takes_copy-requires-clause-most
takes_copy-requires-clause-most c =
    let s = state_of c.args.self.now in
    let near : read_of (s.cell c.args.pointer) ≡ Some (Near c.in-Near.len c.in-Near.ds c.in-Near.place c.in-Near.marks) = ap read_of (sym c.cell.ensures) ∙ c.known.ensures ∙ ap (λ v. Some v) c.in-Near.is in
    (read_says _ _ (c.requires.law.cells.cell_read c.args.pointer).0 near).0.1
