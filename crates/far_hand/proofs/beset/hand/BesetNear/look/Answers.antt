use Rattle.std.proofs.Common.{refl, sym, subst, ap, ◌∙◌, ◌≡◌, ◌*◌}
use Rattle.far_word.specs.declared.sizes.TheConstants.{CELLS, LOG_WORDS}
use Rattle.far_word.specs.Scope.{scope_of}
use Rattle.far_events.specs.events.Look.{shows_clear}
use Rattle.far_core.specs.state.CoreState.{core_state}
use Rattle.far_events.specs.state.State.{State}
use Rattle.far_hand.specs.BesetView.{beset_view}
use Rattle.far_hand.specs.Masked.{masked, word_at, is_counted, AllFind, AllFindJobs, CountsOnRest}
use Rattle.far_hand.specs.Rounds.{IsScopeAt, looked_at}
use Rattle.far_hand.proofs.RoundSteps.{counts_looked, scope_at}
use Rattle.far_events.specs.declared.event.Event.TheVariants.{Look}
use Rattle.far_events.specs.declared.event.Reply.TheVariants.{Word}
use Rattle.far_events.specs.events.Legal.{Legal}
use Rattle.far_hand.specs.MayBe.{beside_itself}
use Rattle.far_hand.proofs.Making.{turn_then}
use Rattle.far_hand.proofs.beset.hand.BesetNear.look.Goals as goal

pub invariant_of-self : goal.invariant_of-self
invariant_of-self c =
    let hand = c.turn.new.self in
    let s = core_state hand.core in
    let found = word_at hand.found.items in
    let counted = is_counted hand.counted.items in
    record {
      found_sized = hand.found_sized ∙ ap (λ (u : State). CELLS * u.mutators) (sym c.look.ensures.state);
      counted_sized = hand.counted_sized ∙ ap (λ (u : State). LOG_WORDS * u.logs) (sym c.look.ensures.state);
      finds = subst (λ (u : State). AllFind found u.cell) (sym c.look.ensures.state) hand.finds;
      finds_jobs = subst (λ (u : State). AllFindJobs (word_at hand.jobs) u.copying.word) (sym c.look.ensures.state) hand.finds_jobs;
      counts = subst (λ (u : State). CountsOnRest u found counted) (sym c.look.ensures.state)
          (counts_looked s found counted c.args.owner (shows_clear s.round_epoch (scope_of (s.scope c.args.owner))) hand.counts);
    }

pub returns : goal.returns
returns c =
    let hand = c.turn.new.self in
    let s = core_state hand.core in
    let found = word_at hand.found.items in
    let counted = is_counted hand.counted.items in
    let jobs = word_at hand.jobs in
    let is : s.scope c.args.owner ≡ c.look.result = cc in
    let legal : Legal (beset_view hand) (Look c.args.owner) = subst (λ (u : State). Legal u (Look c.args.owner)) (sym c.turn.ensures.view) c.requires.legal in
    record {
      scope = subst (λ (u : State). IsScopeAt u.epoch c.look.result) c.turn.ensures.view (scope_at s hand.core.law c.args.owner c.look.result is);
      kept = ap (λ (u : State). masked u found counted jobs) c.look.ensures.state
          ∙ (ap (looked_at (beset_view hand) c.args.owner) is
          ∙ ap (λ (u : State). looked_at u c.args.owner c.look.result) c.turn.ensures.view);
      exact = λ x. absurd x;
      set = λ x. absurd x;
      made = turn_then c.args.self.now hand (Look c.args.owner) (Word c.look.result) c.turn.ensures.view c.turn.ensures.made c.turn.ensures.change c.turn.ensures.events c.turn.ensures.next legal c.look.ensures.state c.look.ensures.word refl refl;
      saw = ∣ (core_state c.look.new.self, beside_itself (core_state c.look.new.self) found counted jobs c.look.new.self.law (subst (λ (u : State). AllFind found u.cell) (sym c.look.ensures.state) hand.finds) (subst (λ (u : State). AllFindJobs jobs u.copying.word) (sym c.look.ensures.state) hand.finds_jobs), ap (λ (u : State). u.scope c.args.owner) c.look.ensures.state ∙ is) ∣₁;
    }
