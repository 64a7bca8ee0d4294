use Rattle.std.proofs.Common.{sym, subst, ap, ◌*◌, ◌<◌}
use Rattle.far_book.specs.book.Fetching.{IsFar}
use Rattle.far_evac.specs.EvacOf.{EvacOf}
use Rattle.far_evac.proofs.Handing.{object_fetched}
use Rattle.far_word.specs.declared.sizes.TheConstants.{CELLS}
use Rattle.far_book.specs.book.Calls.{FetchesObject}
use Rattle.far_evac.proofs.evac.Evac.fetch.Goals as goal

pub invariant_of-self : goal.invariant_of-self
invariant_of-self g c =
    let far = subst (λ (e : EvacOf g.row.N.Denot g.row.D.Denot). IsFar (g.N.Near.view e.book.near) c.args.pointer) (sym c.self.view_is) c.requires.far in
    let done = c.fetch-answer.ensures in
    object_fetched (g.N.Near.view c.self.inside.book.near) (g.N.Near.view c.fetch-answer.new.self.near) c.self.inside.round c.self.invariant c.keeps_law-2.ensures.law c.args.pointer far c.keeps_law.ensures.law g.N.Near.still
    (g.N.Near.view c.self.inside.book.near).honest c.fetch-answer.result done.asked done.place done.near done.gone done.seen

pub fetch-answer-requires-clause-pointer : goal.fetch-answer-requires-clause-pointer
fetch-answer-requires-clause-pointer g c = subst (λ (e : EvacOf g.row.N.Denot g.row.D.Denot). c.args.pointer < CELLS * (g.N.Near.view e.book.near).mutators) (sym c.self.view_is) c.requires.pointer

pub fetch-answer-requires-clause-far : goal.fetch-answer-requires-clause-far
fetch-answer-requires-clause-far g c = subst (λ (e : EvacOf g.row.N.Denot g.row.D.Denot). IsFar (g.N.Near.view e.book.near) c.args.pointer) (sym c.self.view_is) c.requires.far

pub returns-clause-fetched : goal.returns-clause-fetched
returns-clause-fetched g c = subst (λ (e : EvacOf g.row.N.Denot g.row.D.Denot). FetchesObject g.N.Near.still g.N.Near.view g.N.Near.makes g.D.Device.contents g.D.Device.honest g.D.Device.faults g.D.Device.fails_at_most g.D.Device.lets_go g.D.Device.forgets g.D.Device.reads g.D.Device.reads_in_place e.book c.fetch-answer.new.self c.args.pointer c.fetch-answer.result) c.self.view_is c.fetch-answer.ensures

pub returns-clause-round : goal.returns-clause-round
returns-clause-round g c = (ap (λ (e : EvacOf g.row.N.Denot g.row.D.Denot). e.phase) c.self.view_is, ap (λ (e : EvacOf g.row.N.Denot g.row.D.Denot). e.collection) c.self.view_is, ap (λ (e : EvacOf g.row.N.Denot g.row.D.Denot). e.copying) c.self.view_is)
