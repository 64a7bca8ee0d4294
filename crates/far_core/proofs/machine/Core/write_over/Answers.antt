use Rattle.std.proofs.Common.{◌∙◌, ap, refl, sym}
use Rattle.far_word.specs.Pointer.{read_of}
use Rattle.far_events.specs.events.Accesses.{written_word}
use Rattle.far_events.specs.events.Pin.{place_to_view}
use Rattle.far_events.specs.state.Memory.{state_of}
use Rattle.far_events.specs.state.State.{State}
use Rattle.far_core.proofs.Accesses.{over_bytes, over_end, over_keep, over_legal, still_rests}
use Rattle.far_events.proofs.Bounds.{some_of}
use Rattle.far_core.proofs.Kept.{rows_same}
use Rattle.far_events.proofs.Put.{put_same}
use Rattle.far_core.proofs.machine.Core.write_over.Goals as goal

pub invariant_of-self : goal.invariant_of-self
invariant_of-self c =
    let s = state_of c.args.self.now.memory in
    let at = some_of (place_to_view (read_of (s.cell c.args.pointer))) c.requires.rests in
    record {
      law = rw c.write_over.ensures (over_keep s c.args.self.now.law c.args.owner c.args.pointer c.requires.rest at.0 at.1 c.args.from c.args.bytes.now c.requires.inside (λ k. (c.type_inv.bytes k).fits));
      rows_are = rows_same c.args.self.now.rows s (state_of c.write_over.new.self) (ap (λ (u : State). u.stored) c.write_over.ensures) (ap (λ (u : State). u.mutators) c.write_over.ensures) c.args.self.now.rows_are;
    }

pub returns-clause-events : goal.returns-clause-events
returns-clause-events c =
    let s = state_of c.args.self.now.memory in
    let at = some_of (place_to_view (read_of (s.cell c.args.pointer))) c.requires.rests in
    c.write_over.ensures ∙ sym (over_end s c.args.self.now.law c.args.owner c.args.pointer c.requires.rest at.0 at.1 c.args.from c.args.bytes.now c.requires.inside (λ k. (c.type_inv.bytes k).fits))

pub returns-clause-legal : goal.returns-clause-legal
returns-clause-legal c =
    let s = state_of c.args.self.now.memory in
    let at = some_of (place_to_view (read_of (s.cell c.args.pointer))) c.requires.rests in
    over_legal s c.args.self.now.law c.args.owner c.args.pointer c.requires.rest at.0 at.1 c.args.from c.args.bytes.now c.requires.inside (λ k. (c.type_inv.bytes k).fits)

pub returns-clause-bytes : goal.returns-clause-bytes
returns-clause-bytes c =
    let s = state_of c.args.self.now.memory in
    let at = some_of (place_to_view (read_of (s.cell c.args.pointer))) c.requires.rests in
    over_bytes s c.args.self.now.law c.args.owner c.args.pointer c.requires.rest at.0 at.1 c.args.from c.args.bytes.now c.requires.inside (λ k. (c.type_inv.bytes k).fits) (state_of c.write_over.new.self) c.write_over.ensures

pub returns-clause-rests : goal.returns-clause-rests
returns-clause-rests c =
    let s = state_of c.args.self.now.memory in
    let at = some_of (place_to_view (read_of (s.cell c.args.pointer))) c.requires.rests in
    still_rests s c.args.self.now.law c.args.owner c.args.pointer c.requires.rest at.0 at.1 ((state_of c.write_over.new.self).cell c.args.pointer)
    (ap (λ (u : State). u.cell c.args.pointer) c.write_over.ensures ∙ put_same s.cell c.args.pointer (written_word (s.cell c.args.pointer)) c.args.pointer refl)
