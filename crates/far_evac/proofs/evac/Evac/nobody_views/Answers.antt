use Rattle.std.proofs.Common.{ap, ◌∙◌}
use Rattle.far_events.specs.state.State.{State}
use Rattle.far_evac.specs.EvacOf.{moment}
use Rattle.far_evac.specs.MomentLaw.{has_risen}
use Rattle.far_evac.proofs.Unviewed.{clear_views_nothing}
use Rattle.far_evac.proofs.evac.Evac.nobody_views.Goals as goal

pub returns-clause-leaving : goal.returns-clause-leaving
returns-clause-leaving g c = λ leaves x may p place views.
    let near = c.args.self.now.book.near in
    let rest = (g.met.N.Near.shown near x may).rest in
    (clear_views_nothing (moment g.N.Near.view c.args.self.now) x (g.met.N.Near.lawful near x may) (ap (λ (u : State). u.round) rest) (ap (λ (u : State). u.clear) rest)
    (ap (λ (u : State). u.mutators) rest) c.keeps_law.ensures.moment (ap has_risen leaves) p place views).1 leaves

pub returns-clause-waiting : goal.returns-clause-waiting
returns-clause-waiting g c = λ risen x may m seen p place own views.
    let near = c.args.self.now.book.near in
    let rest = (g.met.N.Near.shown near x may).rest in
    (clear_views_nothing (moment g.N.Near.view c.args.self.now) x (g.met.N.Near.lawful near x may) (ap (λ (u : State). u.round) rest) (ap (λ (u : State). u.clear) rest)
    (ap (λ (u : State). u.mutators) rest) c.keeps_law.ensures.moment risen p place views).0 (ap (g.N.Near.view near).clear own ∙ seen)
