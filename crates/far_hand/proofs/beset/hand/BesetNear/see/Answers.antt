use Rattle.std.proofs.Common.{sym, subst, ◌∙◌, ◌≡◌, ℕ, refl}
use Rattle.far_core.specs.state.CoreState.{core_state}
use Rattle.far_hand.specs.Masked.{word_at, is_counted, AllFind, CountsOnRest}
use Rattle.far_hand.proofs.Counting.{counts_found, finds_put}
use Rattle.far_hand.proofs.Finding.{finds_seen}
use Rattle.far_events.specs.declared.event.Event.TheVariants.{See}
use Rattle.far_events.specs.declared.event.Reply.TheVariants.{Word}
use Rattle.far_events.specs.events.Legal.{Legal}
use Rattle.far_events.specs.state.State.{State}
use Rattle.far_hand.specs.BesetView.{beset_view}
use Rattle.far_hand.proofs.Making.{turn_then}
use Rattle.far_hand.proofs.beset.hand.BesetNear.see.Goals as goal

pub invariant_of-self : goal.invariant_of-self
invariant_of-self c =
    let hand = c.turn.new.self in
    let s = core_state hand.core in
    let p = c.args.pointer in
    let w = c.see-cell.result in
    let is : s.cell p ≡ w = cc in
    record {
      found_sized = c.find.ensures.len ∙ hand.found_sized;
      counted_sized = hand.counted_sized;
      finds = subst (λ (f : ℕ → ℕ). AllFind f s.cell) (sym c.find.ensures.words) (finds_put (word_at hand.found.items) s.cell p w hand.finds is);
      finds_jobs = hand.finds_jobs;
      counts = subst (λ (f : ℕ → ℕ). CountsOnRest s f (is_counted hand.counted.items)) (sym c.find.ensures.words)
          (counts_found s (word_at hand.found.items) (is_counted hand.counted.items) p w hand.counts (finds_seen (word_at hand.found.items) s.cell p w hand.finds is));
    }

pub returns-clause-made : goal.returns-clause-made
returns-clause-made c =
    let hand = c.turn.new.self in
    let s = core_state hand.core in
    let legal : Legal (beset_view hand) (See c.args.pointer) = subst (λ (u : State). Legal u (See c.args.pointer)) (sym c.turn.ensures.view) c.requires.legal in
    turn_then c.args.self.now hand (See c.args.pointer) (Word c.see-cell.result) c.turn.ensures.view c.turn.ensures.made c.turn.ensures.change c.turn.ensures.events c.turn.ensures.next legal refl c.see-cell.ensures.word refl refl

pub returns-clause-exact : goal.returns-clause-exact
returns-clause-exact c = λ still. absurd still

pub returns-clause-set : goal.returns-clause-set
returns-clause-set c = λ still. absurd still
