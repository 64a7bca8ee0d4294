use Rattle.std.proofs.Common.{sym, ◌∙◌}
use Rattle.far_index.specs.Slots.{slot_at}
use Rattle.far_map.proofs.Listing.{read_entry}
use Rattle.far_map.proofs.Outcomes.{no_entry}
use Rattle.far_map.proofs.each.read_slot.Goals as goal

pub returns-in-Full-clause-read : goal.returns-in-Full-clause-read
returns-in-Full-clause-read g c = λ o.
    read_entry (g.O.Objects.far c.args.parts.now.worker).bytes (slot_at c.args.parts.now.near.slots c.args.place) c.in-Full._tag c.in-Full.number c.read_object.new.parts.buffer c.read_object.result
    (sym c.at.ensures.is ∙ c.in-Full.is) (c.read_object.ensures.read o)

pub returns-in_default-clause-read : goal.returns-in_default-clause-read
returns-in_default-clause-read g c = λ o.
    no_entry (g.O.Objects.far c.args.parts.now.worker).bytes (slot_at c.args.parts.now.near.slots c.args.place) (λ t h e. c.in_default.not-Full t h (c.at.ensures.is ∙ e))
