use Rattle.std.proofs.Common.{◌≡◌, ◌*◌, ◌<◌, sym, subst, ap}
use Rattle.far_word.specs.declared.sizes.TheConstants.{CELLS}
use Rattle.far_book.specs.book.BookOf.{BookOf}
use Rattle.far_evac.specs.EvacOf.{EvacOf}
use Rattle.far_evac.proofs.Handing.{object_placed, none_then}
use Rattle.far_book.specs.book.Calls.{PlacesObject}
use Rattle.far_evac.proofs.evac.Evac.place.Goals as goal

pub invariant_of-self : goal.invariant_of-self
invariant_of-self g c =
    let s = g.N.Near.view c.self.inside.book.near in
    let pointer = subst (λ (e : EvacOf g.row.N.Denot g.row.D.Denot). c.args.pointer < CELLS * (g.N.Near.view e.book.near).mutators) (sym c.self.view_is) c.requires.pointer in
    let free = subst (λ (e : EvacOf g.row.N.Denot g.row.D.Denot). (g.N.Near.view e.book.near).cell c.args.pointer ≡ 0) (sym c.self.view_is) c.requires.free in
    let none = none_then c.place-answer.result (λ (b : BookOf g.row.N.Denot g.row.D.Denot). g.N.Near.view b.near) c.self.inside.book c.place-answer.new.self c.place-answer.ensures.unchanged in
    object_placed s (g.N.Near.view c.place-answer.new.self.near) c.self.inside.round c.self.invariant c.keeps_law-2.ensures.law c.args.pointer c.args.len c.args.ds c.keeps_law.ensures.law pointer free
    c.requires.some c.requires.most c.ranges.ds.fits c.place-answer.result c.place-answer.ensures.room c.place-answer.ensures.kept c.place-answer.ensures.forgot none

pub place-answer-requires-clause-pointer : goal.place-answer-requires-clause-pointer
place-answer-requires-clause-pointer g c = subst (λ (e : EvacOf g.row.N.Denot g.row.D.Denot). c.args.pointer < CELLS * (g.N.Near.view e.book.near).mutators) (sym c.self.view_is) c.requires.pointer

pub place-answer-requires-clause-free : goal.place-answer-requires-clause-free
place-answer-requires-clause-free g c = subst (λ (e : EvacOf g.row.N.Denot g.row.D.Denot). (g.N.Near.view e.book.near).cell c.args.pointer ≡ 0) (sym c.self.view_is) c.requires.free

pub returns-clause-placed : goal.returns-clause-placed
returns-clause-placed g c = subst (λ (e : EvacOf g.row.N.Denot g.row.D.Denot). PlacesObject g.N.Near.still g.N.Near.view g.N.Near.makes e.book c.place-answer.new.self c.args.pointer c.args.len c.args.ds c.place-answer.result) c.self.view_is c.place-answer.ensures

pub returns-clause-round : goal.returns-clause-round
returns-clause-round g c = (ap (λ (e : EvacOf g.row.N.Denot g.row.D.Denot). e.phase) c.self.view_is, ap (λ (e : EvacOf g.row.N.Denot g.row.D.Denot). e.collection) c.self.view_is, ap (λ (e : EvacOf g.row.N.Denot g.row.D.Denot). e.copying) c.self.view_is)
