use Rattle.std.proofs.Common.{sym, subst, ap, ◌*◌, ◌<◌}
use Rattle.far_hand.specs.Quiet.{IsQuietNear}
use Rattle.far_evac.specs.EvacOf.{EvacOf}
use Rattle.far_evac.proofs.Handing.{object_moved}
use Rattle.far_word.specs.declared.sizes.TheConstants.{CELLS}
use Rattle.far_book.specs.book.Calls.{MovesObject}
use Rattle.far_evac.proofs.evac.Evac.move_now.Goals as goal

pub invariant_of-self : goal.invariant_of-self
invariant_of-self g c =
    let quiet = subst (λ (e : EvacOf g.row.N.Denot g.row.D.Denot). IsQuietNear (g.N.Near.view e.book.near) c.args.pointer) (sym c.self.view_is) c.requires.quiet in
    let done = c.move_now-answer.ensures in
    object_moved (g.N.Near.view c.self.inside.book.near) (g.N.Near.view c.move_now-answer.new.self.near) c.self.inside.round c.self.invariant c.keeps_law-2.ensures.law c.args.pointer quiet c.keeps_law.ensures.law g.N.Near.still
    c.move_now-answer.result done.place done.moved done.gone done.seen

pub move_now-answer-requires-clause-pointer : goal.move_now-answer-requires-clause-pointer
move_now-answer-requires-clause-pointer g c = subst (λ (e : EvacOf g.row.N.Denot g.row.D.Denot). c.args.pointer < CELLS * (g.N.Near.view e.book.near).mutators) (sym c.self.view_is) c.requires.pointer

pub move_now-answer-requires-clause-quiet : goal.move_now-answer-requires-clause-quiet
move_now-answer-requires-clause-quiet g c = subst (λ (e : EvacOf g.row.N.Denot g.row.D.Denot). IsQuietNear (g.N.Near.view e.book.near) c.args.pointer) (sym c.self.view_is) c.requires.quiet

pub returns-clause-moved : goal.returns-clause-moved
returns-clause-moved g c = subst (λ (e : EvacOf g.row.N.Denot g.row.D.Denot). MovesObject g.N.Near.still g.N.Near.view g.N.Near.makes g.D.Device.contents g.D.Device.honest g.D.Device.faults g.D.Device.fails_at_most g.D.Device.lets_go g.D.Device.forgets e.book c.move_now-answer.new.self c.args.pointer c.move_now-answer.result) c.self.view_is c.move_now-answer.ensures

pub returns-clause-round : goal.returns-clause-round
returns-clause-round g c = (ap (λ (e : EvacOf g.row.N.Denot g.row.D.Denot). e.phase) c.self.view_is, ap (λ (e : EvacOf g.row.N.Denot g.row.D.Denot). e.collection) c.self.view_is, ap (λ (e : EvacOf g.row.N.Denot g.row.D.Denot). e.copying) c.self.view_is)
