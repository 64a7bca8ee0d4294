use Rattle.std.proofs.Common.{ap, sym, ◌∙◌}
use Rattle.far_word.specs.Pointer.{read_of}
use Rattle.far_events.specs.events.Pin.{place_to_view}
use Rattle.far_events.specs.state.Memory.{state_of}
use Rattle.far_core.proofs.Accesses.{cold_end, cold_keep, cold_legal, cold_same, cold_state}
use Rattle.far_events.proofs.Bounds.{some_of}
use Rattle.far_core.proofs.Kept.{rows_same}
use Rattle.far_core.proofs.machine.Core.cool.Goals as goal

pub invariant_of-self : goal.invariant_of-self
invariant_of-self c =
    let s = state_of c.args.self.now.memory in
    let at = some_of (place_to_view (read_of (s.cell c.args.pointer))) c.requires.rests in
    let t = state_of c.cool.new.self in
    let same = cold_same s c.args.self.now.law c.args.owner c.args.pointer c.requires.rest at.0 at.1 t c.cool.ensures in
    record {
      law = cold_keep s c.args.self.now.law c.args.owner c.args.pointer c.requires.rest at.0 at.1 t c.cool.ensures;
      rows_are = rows_same c.args.self.now.rows s t same.0 same.1 c.args.self.now.rows_are;
    }

pub returns-clause-state : goal.returns-clause-state
returns-clause-state c =
    let s = state_of c.args.self.now.memory in
    let at = some_of (place_to_view (read_of (s.cell c.args.pointer))) c.requires.rests in
    cold_state s c.args.self.now.law c.args.owner c.args.pointer c.requires.rest at.0 at.1 (state_of c.cool.new.self) c.cool.ensures

pub returns-clause-events : goal.returns-clause-events
returns-clause-events c =
    let s = state_of c.args.self.now.memory in
    let at = some_of (place_to_view (read_of (s.cell c.args.pointer))) c.requires.rests in
    cold_end s c.args.self.now.law c.args.owner c.args.pointer c.requires.rest at.0 at.1 (state_of c.cool.new.self) c.cool.ensures

pub returns-clause-legal : goal.returns-clause-legal
returns-clause-legal c =
    let s = state_of c.args.self.now.memory in
    let at = some_of (place_to_view (read_of (s.cell c.args.pointer))) c.requires.rests in
    cold_legal s c.args.self.now.law c.args.owner c.args.pointer c.requires.rest at.0 at.1 (state_of c.cool.new.self) c.cool.ensures
