use Rattle.std.proofs.Common.{◌∙◌, ap, sym, rules}
use Rattle.far_hand.proofs.Closure.{then_came}
use Rattle.far_evac.specs.EvacOf.{moment}
use Rattle.far_evac.specs.Moment.{Moment}
use Rattle.far_evac.proofs.MarkRuns.{marks_every, marks_every_exactly, marks_some, marks_some_exactly, none_then}
use Rattle.far_evac.proofs.evac.Evac.mark_some.Goals as goal

pub wait-epoch-requires-clause-none : goal.wait-epoch-requires-clause-none
wait-epoch-requires-clause-none g c =
    let n = c.mark_up_to-count.ensures in
    none_then (moment g.N.Near.view c.args.self.now) c.keeps_law.ensures.moment.collection_once (λ q. (c.keeps_law.ensures.law.cells.cell_read q).0) c.args.n
    n.known c.lacks_some.ensures.known (sym c.if-lacks_some.false ∙ c.lacks_some.ensures.found)

pub returns-then-lacks_some : goal.returns-then-lacks_some
returns-then-lacks_some g c = record {
  came = then_came c.mark_up_to-count.ensures.came c.lacks_some.ensures.came;
  copying = ap (λ (m : Moment). m.copying) c.lacks_some.ensures.known.rest ∙ ap (λ (m : Moment). m.copying) c.mark_up_to-count.ensures.known.rest;
  marks = let n = c.mark_up_to-count.ensures in
      marks_some (moment g.N.Near.view c.args.self.now) c.keeps_law.ensures.moment.collection_once (λ q. (c.keeps_law.ensures.law.cells.cell_read q).0) c.args.n
      n.known c.lacks_some.ensures.known (sym c.if-lacks_some.true ∙ c.lacks_some.ensures.found) c.mark_up_to-count.result n.count;
  exact = λ still. let n = c.mark_up_to-count.ensures in
      marks_some_exactly (moment g.N.Near.view c.args.self.now) c.keeps_law.ensures.moment.collection_once (λ q. (c.keeps_law.ensures.law.cells.cell_read q).0) c.args.n
      n.known c.lacks_some.ensures.known (sym c.if-lacks_some.true ∙ c.lacks_some.ensures.found) (n.exact still) (c.lacks_some.ensures.exact still);
  device = c.lacks_some.ensures.device ∙ c.mark_up_to-count.ensures.device;
  marking = search rules;
  refused = tt;
  unchanged = tt;
}

pub returns : goal.returns
returns g c = record {
  came = then_came (then_came c.mark_up_to-count.ensures.came c.lacks_some.ensures.came) c.wait-epoch.ensures.came;
  copying = ap (λ (m : Moment). m.copying) c.wait-epoch.ensures.known.rest ∙ ap (λ (m : Moment). m.copying) c.lacks_some.ensures.known.rest ∙ ap (λ (m : Moment). m.copying) c.mark_up_to-count.ensures.known.rest;
  marks = let n = c.mark_up_to-count.ensures in
      marks_every (moment g.N.Near.view c.args.self.now) c.keeps_law.ensures.moment.collection_once (λ q. (c.keeps_law.ensures.law.cells.cell_read q).0) c.args.n
      n.known c.lacks_some.ensures.known (sym c.if-lacks_some.false ∙ c.lacks_some.ensures.found) (moment g.N.Near.view c.wait-epoch.new.self) c.wait-epoch.ensures.known c.mark_up_to-count.result c.wait-epoch.result n.count
      c.wait-epoch.ensures.epoch;
  exact = λ still. let n = c.mark_up_to-count.ensures in
      marks_every_exactly (moment g.N.Near.view c.args.self.now) c.keeps_law.ensures.moment.collection_once (λ q. (c.keeps_law.ensures.law.cells.cell_read q).0) c.args.n
      n.known c.lacks_some.ensures.known (sym c.if-lacks_some.false ∙ c.lacks_some.ensures.found) (moment g.N.Near.view c.wait-epoch.new.self) (n.exact still) (c.lacks_some.ensures.exact still) (c.wait-epoch.ensures.exact still);
  device = c.wait-epoch.ensures.device ∙ c.lacks_some.ensures.device ∙ c.mark_up_to-count.ensures.device;
  marking = search rules;
  refused = tt;
  unchanged = tt;
}
