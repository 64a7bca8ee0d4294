use Rattle.std.proofs.Common.{sym, subst, ap, ◌∙◌, ◌*◌, ◌+◌, ℕ, Bool, refl}
use Rattle.far_word.specs.declared.sizes.TheConstants.{CELLS, LOG_WORDS}
use Rattle.far_events.specs.declared.event.Event.TheVariants.{Put}
use Rattle.far_events.specs.events.Legal.{Legal}
use Rattle.far_events.specs.events.Step.{after}
use Rattle.far_core.specs.state.CoreState.{core_state}
use Rattle.far_events.specs.state.State.{State, put}
use Rattle.far_hand.specs.BesetView.{beset_view}
use Rattle.far_hand.specs.Masked.{masked, word_at, is_counted, AllFind, AllFindJobs, CountsOnRest}
use Rattle.far_hand.proofs.Counting.{counts_past}
use Rattle.far_hand.proofs.Reading.{put_view}
use Rattle.far_events.specs.declared.event.Reply.TheVariants.{Done}
use Rattle.far_hand.proofs.Making.{turn_then}
use Rattle.far_hand.proofs.beset.hand.BesetNear.put.Goals as goal

pub invariant_of-self : goal.invariant_of-self
invariant_of-self c =
    let hand = c.turn.new.self in
    let s = core_state hand.core in
    let found = word_at hand.found.items in
    let legal : Legal (beset_view hand) (Put c.args.log c.args.at c.args.word) = subst (λ (u : State). Legal u (Put c.args.log c.args.at c.args.word)) (sym c.turn.ensures.view) c.requires.legal in
    let counts = counts_past s found (is_counted hand.counted.items) c.args.log c.args.at legal.2 legal.3 hand.counts in
    let counted = subst (λ (k : ℕ → Bool). CountsOnRest s found k) (sym c.count.ensures.words) counts in
    record {
      found_sized = hand.found_sized ∙ ap (λ (u : State). CELLS * u.mutators) (sym c.put.ensures.state);
      counted_sized = c.count.ensures.len ∙ (hand.counted_sized ∙ ap (λ (u : State). LOG_WORDS * u.logs) (sym c.put.ensures.state));
      finds = subst (λ (u : State). AllFind found u.cell) (sym c.put.ensures.state) hand.finds;
      finds_jobs = subst (λ (u : State). AllFindJobs (word_at hand.jobs) u.copying.word) (sym c.put.ensures.state) hand.finds_jobs;
      counts = subst (λ (u : State). CountsOnRest u found (is_counted c.count.new.counted.items)) (sym c.put.ensures.state) counted;
    }

pub returns : goal.returns
returns c =
    let hand = c.turn.new.self in
    let s = core_state hand.core in
    let found = word_at hand.found.items in
    let jobs = word_at hand.jobs in
    let a = c.args.log * LOG_WORDS + c.args.at in
    let legal : Legal (beset_view hand) (Put c.args.log c.args.at c.args.word) = subst (λ (u : State). Legal u (Put c.args.log c.args.at c.args.word)) (sym c.turn.ensures.view) c.requires.legal in
    record {
      set = ap (λ (u : State). masked u found (is_counted c.count.new.counted.items) jobs) c.put.ensures.state
          ∙ (ap (λ (k : ℕ → Bool). masked (record s { word = put s.word a c.args.word }) found k jobs) c.count.ensures.words
          ∙ (put_view s found (is_counted hand.counted.items) jobs a c.args.word
          ∙ ap (λ (u : State). after u (Put c.args.log c.args.at c.args.word)) c.turn.ensures.view));
      made = turn_then c.args.self.now hand (Put c.args.log c.args.at c.args.word) Done c.turn.ensures.view c.turn.ensures.made c.turn.ensures.change c.turn.ensures.events c.turn.ensures.next legal c.put.ensures.state refl refl refl;
    }
