use Rattle.std.proofs.Common.{ap, subst, sym, ◌*◌, ◌<◌}
use Rattle.far_evac.proofs.Handing.{cell_found}
use Rattle.far_word.specs.declared.sizes.TheConstants.{CELLS}
use Rattle.far_book.specs.book.Calls.{FindsHome}
use Rattle.far_evac.specs.EvacOf.{EvacOf}
use Rattle.far_evac.proofs.evac.Evac.locate.Goals as goal

pub invariant_of-self : goal.invariant_of-self
invariant_of-self g c =
    cell_found (g.N.Near.view c.self.inside.book.near) (g.N.Near.view c.locate-answer.new.self.near) c.self.inside.round c.self.invariant c.args.pointer
    ((g.N.Near.view c.locate-answer.new.self.near).cell c.args.pointer) c.locate-answer.ensures.found c.locate-answer.ensures.kept

pub locate-answer-requires : goal.locate-answer-requires
locate-answer-requires g c = record { pointer = subst (λ (e : EvacOf g.row.N.Denot g.row.D.Denot). c.args.pointer < CELLS * (g.N.Near.view e.book.near).mutators) (sym c.self.view_is) c.requires.pointer }

pub returns-clause-found : goal.returns-clause-found
returns-clause-found g c = subst (λ (e : EvacOf g.row.N.Denot g.row.D.Denot). FindsHome g.N.Near.still g.N.Near.view g.N.Near.makes g.N.Near.may_be e.book c.locate-answer.new.self c.args.pointer c.locate-answer.result) c.self.view_is c.locate-answer.ensures

pub returns-clause-round : goal.returns-clause-round
returns-clause-round g c = (ap (λ (e : EvacOf g.row.N.Denot g.row.D.Denot). e.phase) c.self.view_is, ap (λ (e : EvacOf g.row.N.Denot g.row.D.Denot). e.collection) c.self.view_is, ap (λ (e : EvacOf g.row.N.Denot g.row.D.Denot). e.copying) c.self.view_is)
