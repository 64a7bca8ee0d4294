use Rattle.std.proofs.Common.{◌∙◌, ap, sym, Some}
use Rattle.far_word.specs.declared.pointer.Place.{Place}
use Rattle.far_events.proofs.HeldRows.{held_is, held_within}
use Rattle.far_events.proofs.memory.Memory.held_place.Goals as goal

pub index-number-requires : goal.index-number-requires
index-number-requires c = held_within c.args.self.now c.args.pointer c.requires

pub returns : goal.returns
returns c = held_is c.args.self.now c.args.pointer c.requires c.index-number.result.now c.index-number.ensures ∙ ap (λ (place : Place). Some place) (sym c.place_in.ensures)
