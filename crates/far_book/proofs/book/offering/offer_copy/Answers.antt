use Rattle.far_book.proofs.book.offering.offer_copy.Goals as goal
use Rattle.std.proofs.Common.{subst, sym}
use Rattle.far_events.specs.declared.event.Event.TheVariants as events
use Rattle.far_events.specs.events.Legal.{Legal}
use Rattle.far_events.specs.state.State.{State}
use Rattle.far_hand.proofs.Closure.{first_call, then_call}
use Rattle.far_book.proofs.region.OfferingCopies.{ends_second, offer_legal}

pub offer-requires-clause-legal : goal.offer-requires-clause-legal
offer-requires-clause-legal g c =
    let s = g.N.Near.view c.args.near.now in
    subst (λ (u : State). Legal u (events.Offer c.args.job c.args.pointer c.args.to))
    (sym (ends_second s c.args.job c.args.pointer c.args.len c.args.ds c.args.from c.args.to c.requires (g.N.Near.view c.put.new.self) (g.N.Near.view c.put-2.new.self) c.pack.result c.words_for.result c.pack.ensures c.words_for.ensures c.put.ensures.set c.put-2.ensures.set))
    (offer_legal s c.args.job c.args.pointer c.args.len c.args.ds c.args.from c.args.to c.requires)

pub returns-clause-came : goal.returns-clause-came
returns-clause-came g c = then_call _ _ (then_call _ _ (first_call _ _ c.put.ensures.made) c.put-2.ensures.made) c.offer.ensures.made
