use Rattle.std.proofs.Common.{◌≡◌, true, sym, subst, ap, ◌*◌, ◌<◌}
use Rattle.far_word.specs.Pointer.{read_of}
use Rattle.far_events.specs.events.Naming.{is_dropped}
use Rattle.far_evac.specs.EvacOf.{EvacOf}
use Rattle.far_evac.proofs.Handing.{object_ended}
use Rattle.far_word.specs.declared.sizes.TheConstants.{CELLS}
use Rattle.far_book.specs.book.Calls.{RetiresObject}
use Rattle.far_evac.proofs.evac.Evac.retire.Goals as goal

pub invariant_of-self : goal.invariant_of-self
invariant_of-self g c =
    let dropped = subst (λ (e : EvacOf g.row.N.Denot g.row.D.Denot). is_dropped (read_of ((g.N.Near.view e.book.near).cell c.args.pointer)) ≡ true) (sym c.self.view_is) c.requires.dropped in
    object_ended (g.N.Near.view c.self.inside.book.near) (g.N.Near.view c.retire.new.self.near) c.self.inside.round c.self.invariant c.keeps_law-2.ensures.law c.args.pointer dropped
    c.retire.ensures.kept c.retire.ensures.forgot c.keeps_law.ensures.law

pub retire-requires-clause-pointer : goal.retire-requires-clause-pointer
retire-requires-clause-pointer g c = subst (λ (e : EvacOf g.row.N.Denot g.row.D.Denot). c.args.pointer < CELLS * (g.N.Near.view e.book.near).mutators) (sym c.self.view_is) c.requires.pointer

pub retire-requires-clause-dropped : goal.retire-requires-clause-dropped
retire-requires-clause-dropped g c = subst (λ (e : EvacOf g.row.N.Denot g.row.D.Denot). is_dropped (read_of ((g.N.Near.view e.book.near).cell c.args.pointer)) ≡ true) (sym c.self.view_is) c.requires.dropped

pub returns-clause-retired : goal.returns-clause-retired
returns-clause-retired g c = subst (λ (e : EvacOf g.row.N.Denot g.row.D.Denot). RetiresObject g.N.Near.still g.N.Near.view g.N.Near.makes g.D.Device.contents g.D.Device.honest g.D.Device.faults g.D.Device.fails_at_most g.D.Device.lets_go g.D.Device.forgets e.book c.retire.new.self c.args.pointer) c.self.view_is c.retire.ensures

pub returns-clause-round : goal.returns-clause-round
returns-clause-round g c = (ap (λ (e : EvacOf g.row.N.Denot g.row.D.Denot). e.phase) c.self.view_is, ap (λ (e : EvacOf g.row.N.Denot g.row.D.Denot). e.collection) c.self.view_is, ap (λ (e : EvacOf g.row.N.Denot g.row.D.Denot). e.copying) c.self.view_is)
