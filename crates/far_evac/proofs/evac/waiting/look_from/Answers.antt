use Rattle.far_hand.proofs.Closure.{came_only, then_call}
use Rattle.far_evac.proofs.evac.waiting.look_from.Goals as goal
use Rattle.std.proofs.Common.{◌≡◌, ◌∙◌, ap, sym, arith, refl, subst}
use Rattle.far_word.specs.Scope.{scope_of}
use Rattle.far_events.specs.declared.shape.Shape.{Shape}
use Rattle.far_events.specs.events.Look.{shows_clear}
use Rattle.far_events.specs.state.State.{State}
use Rattle.far_hand.specs.Rounds.{looked_at}
use Rattle.far_evac.proofs.Looks.{found_clear, found_open, none_more, one_looked}

pub returns-in-Some-clause-exact : goal.returns-in-Some-clause-exact
returns-in-Some-clause-exact g c still =
    let s = g.N.Near.view c.args.book.now.near in
    let h = c.loop-owner.invariant in
    let epoch : c.shape-shape.result.epoch ≡ s.round_epoch = ap (λ (shape : Shape). shape.epoch) c.shape-shape.ensures.is ∙ sym c.keeps_law.ensures.law.rounds.own_epoch in
    let most : c.shape-shape.result.mutators ≡ s.mutators = ap (λ (shape : Shape). shape.mutators) c.shape-shape.ensures.is in
    let word = c.look-word.ensures.exact still ∙ ap (λ (t : State). t.scope c.loop-owner.owner) h.is in
    let shows = ap (λ e. shows_clear e (scope_of c.look-word.result)) (sym epoch) ∙ c.in-Some.ensures.open.2 in
    found_open s c.loop-owner.owner c.look-word.result c.in-Some.epoch (omega (arith, most, c.loop-owner-test.true)) (c.requires.unseen c.loop-owner.owner h.from) word c.look-word.ensures.scope.layout shows
    c.in-Some.ensures.open.0 (h.exact still)

pub loop-owner-preserved : goal.loop-owner-preserved
loop-owner-preserved g c =
    let s = g.N.Near.view c.args.book.now.near in
    let h = c.loop-owner.invariant in
    let epoch : c.shape-shape.result.epoch ≡ s.round_epoch = ap (λ (shape : Shape). shape.epoch) c.shape-shape.ensures.is ∙ sym c.keeps_law.ensures.law.rounds.own_epoch in
    let shows = ap (λ e. shows_clear e (scope_of c.look-word.result)) (sym epoch) ∙ c.in_default.ensures.clear in
    record {
      is = c.look-word.ensures.kept ∙ ap (λ (t : State). looked_at t c.loop-owner.owner c.look-word.result) h.is ∙ one_looked s c.loop-owner.owner c.look-word.result shows;
      exact = λ still. none_more s c.loop-owner.owner c.look-word.result (c.look-word.ensures.exact still ∙ ap (λ (t : State). t.scope c.loop-owner.owner) h.is) c.look-word.ensures.scope.layout shows (h.exact still);
      past = λ k le lt. absurd (omega (arith, le, lt, c.loop-owner-test.true));
      from = omega (arith, h.from);
      order = c.look-word.ensures.order ∙ h.order;
      device = c.look-word.ensures.device ∙ h.device;
      looks = then_call _ _ h.looks ((c.loop-owner.owner, refl), c.look-word.ensures.made);
    }

pub returns-clause-exact : goal.returns-clause-exact
returns-clause-exact g c still =
    let s = g.N.Near.view c.args.book.now.near in
    let most : c.shape-shape.result.mutators ≡ s.mutators = ap (λ (shape : Shape). shape.mutators) c.shape-shape.ensures.is in
    found_clear s c.loop-owner.owner (omega (arith, most, c.loop-owner-test.false)) (c.loop-owner.invariant.exact still)

pub returns-in-Some-clause-saw : goal.returns-in-Some-clause-saw
returns-in-Some-clause-saw g c =
    subst (λ w. ∥ ((x : State) × g.N.Near.may_be c.look-word.new.self.near x × (x.scope c.loop-owner.owner ≡ w)) ∥₁) c.in-Some.ensures.odd c.look-word.ensures.saw

pub returns-in-Some-clause-looks : goal.returns-in-Some-clause-looks
returns-in-Some-clause-looks g c = then_call _ _ c.loop-owner.invariant.looks ((c.loop-owner.owner, refl), c.look-word.ensures.made)

pub returns-in-Some-clause-came : goal.returns-in-Some-clause-came
returns-in-Some-clause-came g c = came_only _ (returns-in-Some-clause-looks g c)

pub returns-clause-came : goal.returns-clause-came
returns-clause-came g c = came_only _ c.loop-owner.invariant.looks
