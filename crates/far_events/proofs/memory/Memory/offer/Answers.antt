use Rattle.std.proofs.Common.{ℕ, ap, subst, sym, ◌∙◌, Some}
use Rattle.std.specs.Prelude.{IsSome}
use Rattle.far_word.specs.Pointer.{read_of}
use Rattle.far_events.specs.state.Memory.{state_of}
use Rattle.far_events.proofs.events.Offer.{legal_offer, offer_layout}
use Rattle.far_events.proofs.memory.Memory.offer.Goals as goal

pub set_offer-requires-clause-layout : goal.set_offer-requires-clause-layout
set_offer-requires-clause-layout c =
    let s = state_of c.args.self.now in
    offer_layout s c.requires.law c.args.job c.args.pointer c.args.to (legal_offer s c.args.job c.args.pointer c.args.to c.requires.legal)
    c.in-Near.len c.in-Near.ds c.in-Near.place c.in-Near.marks (ap read_of (sym c.cell.ensures) ∙ c.known.ensures ∙ ap (λ v. Some v) c.in-Near.is)

pub known-requires : goal.known-requires
known-requires c = subst (λ (w : ℕ). IsSome (read_of w)) (sym c.cell.ensures) (c.requires.law.cells.cell_read c.args.pointer).1

pub set_offer-requires-clause-job : goal.set_offer-requires-clause-job
set_offer-requires-clause-job c = (legal_offer (state_of c.args.self.now) c.args.job c.args.pointer c.args.to c.requires.legal).0
