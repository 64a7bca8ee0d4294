use Rattle.std.proofs.Common.{◌≡◌, ap, subst, sym}
use Rattle.std.specs.Prelude.{None}
use Rattle.far_events.specs.events.Legal.{IsClosed}
use Rattle.far_core.specs.state.CoreState.{core_state}
use Rattle.far_events.specs.state.State.{State}
use Rattle.far_hand.specs.declared.plain.Plain.{Plain}
use Rattle.far_book.specs.book.BookOf.{BookOf}
use Rattle.far_book.specs.book.Placing.{PlacesWith}
use Rattle.far_evac.specs.EvacOf.{EvacOf}
use Rattle.far_evac.proofs.Handing.{none_then}
use Rattle.far_evac.proofs.MadeObjects.{sound_with}
use Rattle.far_evac.proofs.evac.over_plain.Evac+Plain+D.place_with.Goals as goal

pub invariant_of-self : goal.invariant_of-self
invariant_of-self g c =
    let core = c.self.inside.book.near.core in
    let s : State = core_state core in
    sound_with c.self.inside.round s (core_state c.place_with.new.self.near.core) c.args.owner c.args.pointer c.args.len c.args.ds c.args.bytes.now core.law
    (subst (λ (e : EvacOf Plain g.row.D.Denot). IsClosed (core_state e.book.near.core) c.args.owner) (sym c.self.view_is) c.requires.closed)
    (subst (λ (e : EvacOf Plain g.row.D.Denot). (core_state e.book.near.core).remembered c.args.owner ≡ None) (sym c.self.view_is) c.requires.fresh)
    c.requires.own
    (subst (λ (e : EvacOf Plain g.row.D.Denot). (core_state e.book.near.core).cell c.args.pointer ≡ 0) (sym c.self.view_is) c.requires.free)
    c.requires.some c.requires.most c.ranges.ds.fits c.requires.front (λ k. (c.type_inv.bytes k).fits) c.place_with.result c.place_with.ensures.room c.place_with.ensures.made
    (none_then c.place_with.result (λ (b : BookOf Plain g.row.D.Denot). core_state b.near.core) c.self.inside.book c.place_with.new.self c.place_with.ensures.unchanged) c.self.invariant

pub returns-clause-placed : goal.returns-clause-placed
returns-clause-placed g c = subst (λ (e : EvacOf Plain g.row.D.Denot). PlacesWith e.book c.place_with.new.self c.args.owner c.args.pointer c.args.len c.args.ds c.args.bytes.now c.place_with.result) c.self.view_is c.place_with.ensures
