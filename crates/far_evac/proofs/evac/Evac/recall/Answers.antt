use Rattle.std.proofs.Common.{◌∙◌, ap, subst, sym}
use Rattle.std.proofs.lemmas.Bool.{true≢false}
use Rattle.far_word.specs.declared.sizes.TheConstants.{JOBS}
use Rattle.far_hand.specs.Came.{Came}
use Rattle.far_book.specs.book.Collecting.{TakesBack}
use Rattle.far_evac.specs.EvacOf.{EvacOf}
use Rattle.far_evac.proofs.TakenBack.{sound_taken}
use Rattle.far_evac.proofs.evac.Evac.recall.Goals as goal

pub invariant_of-self : goal.invariant_of-self
invariant_of-self g c =
    sound_taken (g.N.Near.view c.self.inside.book.near) (g.N.Near.view c.take_back.new.self.near) c.self.inside.round c.self.invariant c.if-self.true c.take_back.ensures.takes

pub returns-then-self-clause-beside : goal.returns-then-self-clause-beside
returns-then-self-clause-beside g c = λ copies.
    subst (λ (e : EvacOf g.row.N.Denot g.row.D.Denot). TakesBack (g.N.Near.view e.book.near) JOBS (g.N.Near.view c.take_back.new.self.near)) c.self.view_is c.take_back.ensures.takes

pub returns-then-self-clause-came : goal.returns-then-self-clause-came
returns-then-self-clause-came g c =
    subst (λ (e : EvacOf g.row.N.Denot g.row.D.Denot). Came g.N.Near.makes e.book.near c.take_back.new.self.near) c.self.view_is c.take_back.ensures.came

pub returns-then-self-clause-alone : goal.returns-then-self-clause-alone
returns-then-self-clause-alone g c none =
    absurd (true≢false (sym c.if-self.true ∙ ap (λ (e : EvacOf g.row.N.Denot g.row.D.Denot). e.copying) c.self.view_is ∙ none))

pub returns-then-self-clause-round : goal.returns-then-self-clause-round
returns-then-self-clause-round g c = (
  ap (λ (e : EvacOf g.row.N.Denot g.row.D.Denot). e.phase) c.self.view_is,
  ap (λ (e : EvacOf g.row.N.Denot g.row.D.Denot). e.collection) c.self.view_is,
  ap (λ (e : EvacOf g.row.N.Denot g.row.D.Denot). e.copying) c.self.view_is,
)

pub returns-then-self-clause-order : goal.returns-then-self-clause-order
returns-then-self-clause-order g c = c.take_back.ensures.order ∙ ap (λ (e : EvacOf g.row.N.Denot g.row.D.Denot). e.book.order) c.self.view_is

pub returns-then-self-clause-device : goal.returns-then-self-clause-device
returns-then-self-clause-device g c = c.take_back.ensures.device ∙ ap (λ (e : EvacOf g.row.N.Denot g.row.D.Denot). e.book.device) c.self.view_is
