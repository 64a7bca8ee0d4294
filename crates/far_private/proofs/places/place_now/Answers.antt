use Rattle.std.proofs.Common.{◌∙◌, ap, true}
use Rattle.std.proofs.lemmas.Bool.{false≢true, true≢false}
use Rattle.far_word.specs.Sizes.{size_of}
use Rattle.far_core.specs.state.CoreState.{core_state}
use Rattle.far_core.specs.state.Room.{room}
use Rattle.far_private.specs.Objects.{state_in}
use Rattle.far_private.proofs.BytesPlaced.{closed_so, filled_objects, filled_settled}
use Rattle.far_private.proofs.places.place_now.Goals as goal

pub place_with-requires-clause-closed : goal.place_with-requires-clause-closed
place_with-requires-clause-closed g c = closed_so (state_in c.args.evac.now) c.requires.settled c.args.pointer c.requires.pointer

pub place_with-requires-clause-fresh : goal.place_with-requires-clause-fresh
place_with-requires-clause-fresh g c = c.requires.settled.fresh _

pub returns-in-Ok : goal.returns-in-Ok
returns-in-Ok g c = record {
  settled = λ _. filled_settled (state_in c.args.evac.now) (state_in c.place_with.new.self) c.args.pointer c.args.len c.args.structure c.in-Ok.field-0 c.args.bytes.now c.args.evac.now.book.near.core.law c.requires.settled c.requires.free c.requires.pointer
      c.requires.some c.requires.most c.ranges.structure.fits c.requires.front (λ k. (c.type_inv.bytes k).fits) c.in-Ok.ensures.placed.room c.in-Ok.ensures.placed.made;
  made = λ _. filled_objects (state_in c.args.evac.now) (state_in c.place_with.new.self) c.args.pointer c.args.len c.args.structure c.in-Ok.field-0 c.args.bytes.now c.args.evac.now.book.near.core.law c.requires.settled c.requires.free c.requires.pointer
      c.requires.some c.requires.most c.ranges.structure.fits c.requires.front (λ k. (c.type_inv.bytes k).fits) c.in-Ok.ensures.placed.room c.in-Ok.ensures.placed.made;
  refused = λ e. absurd (true≢false e);
  none = λ e. absurd (true≢false e);
  idle = λ e. c.place_with.ensures.round.0 ∙ e;
}

pub returns-in-Err : goal.returns-in-Err
returns-in-Err g c = record {
  settled = λ e. absurd (false≢true e);
  made = λ e. absurd (false≢true e);
  refused = λ _. ap (λ b. core_state b.near.core) c.in-Err.ensures.placed.unchanged;
  none = λ _. ap (λ b. room (core_state b.near.core) (size_of c.args.len) true) c.in-Err.ensures.placed.unchanged ∙ c.in-Err.ensures.placed.none;
  idle = λ e. c.place_with.ensures.round.0 ∙ e;
}
