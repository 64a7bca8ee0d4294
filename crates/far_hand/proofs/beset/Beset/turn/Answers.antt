use Rattle.std.proofs.Common.{◌≡◌, ◌≢◌, Option, Some, None, ap, cond, false, refl, true, sym, ◌∙◌}
use Rattle.std.specs.Prelude.{◌*◌}
use Rattle.far_word.specs.declared.sizes.TheConstants.{CELLS, LOG_WORDS}
use Rattle.far_events.specs.declared.event.Event.{Event}
use Rattle.far_events.specs.events.Step.{step_of}
use Rattle.far_core.specs.state.CoreState.{core_state}
use Rattle.far_events.specs.state.State.{State}
use Rattle.far_hand.specs.BesetView.{next_event, passed}
use Rattle.far_hand.specs.Makers.{is_others}
use Rattle.far_hand.specs.Masked.{word_at, is_counted}
use Rattle.far_hand.specs.Others.{OthersChange, after_turn}
use Rattle.far_hand.proofs.Finding.{finds_is}
use Rattle.far_hand.proofs.JobsFound.{job_is}
use Rattle.far_hand.proofs.Masking.{same_view, same_finds, same_jobs, same_counts, same_mutators, same_logs}
use Rattle.far_hand.proofs.beset.Beset.turn.Goals as goal

-- nobody did anything
unchanged : (s : State) → OthersChange s s
unchanged s = record { cells = λ p. finds_is _ _ refl; clean = λ p near. refl; words = λ a still. refl; jobs = λ j. job_is _ _ refl; rest = refl }

-- the state after a turn, by whose the next event is
none_next : (found next : Option Event) → found ≡ next → ((e : Event) → found ≢ Some e) → next ≡ None
none_next None next is none = sym is
none_next (Some e) next is none = absurd (none e refl)

after_other : (s t : State) (e : Event) (next : Option Event) → Some e ≡ next → is_others e ≡ true → t ≡ (step_of s e).0 → t ≡ after_turn s next
after_other s t e next is other made = made ∙ sym (ap (λ b. cond b (step_of s e).0 s) other) ∙ ap (after_turn s) is

after_books : (s : State) (e : Event) (next : Option Event) → Some e ≡ next → is_others e ≡ false → s ≡ after_turn s next
after_books s e next is own = sym (ap (λ b. cond b (step_of s e).0 s) own) ∙ ap (after_turn s) is

pub invariant_of-self : goal.invariant_of-self
invariant_of-self c =
    let hand = c.args.self.now in
    let s = core_state hand.core in
    let t = core_state c.step_other.new.core in
    let found = word_at hand.found.items in
    let counted = is_counted hand.counted.items in
    let jobs = word_at hand.jobs in
    let turn = c.step_other.ensures.change in
    record {
      found_sized = hand.found_sized ∙ ap (λ n. CELLS * n) (sym (same_mutators s hand.core.law found counted jobs hand.finds hand.finds_jobs hand.counts t turn));
      counted_sized = hand.counted_sized ∙ ap (λ n. LOG_WORDS * n) (sym (same_logs s hand.core.law found counted jobs hand.finds hand.finds_jobs hand.counts t turn));
      finds = same_finds s hand.core.law found counted jobs hand.finds hand.finds_jobs hand.counts t turn;
      finds_jobs = same_jobs s hand.core.law found counted jobs hand.finds hand.finds_jobs hand.counts t turn;
      counts = same_counts s hand.core.law found counted jobs hand.finds hand.finds_jobs hand.counts t turn;
    }

pub returns-then-is_others-clause-view : goal.returns-then-is_others-clause-view
returns-then-is_others-clause-view c =
    let hand = c.args.self.now in
    let found = word_at hand.found.items in
    let counted = is_counted hand.counted.items in
    let jobs = word_at hand.jobs in
    same_view (core_state hand.core) hand.core.law found counted jobs hand.finds hand.finds_jobs hand.counts (core_state c.step_other.new.core) c.step_other.ensures.change

pub step_other-requires : goal.step_other-requires
step_other-requires c = sym c.is_others.ensures ∙ c.if-is_others.true

pub invariant_of-self-else-is_others : goal.invariant_of-self-else-is_others
invariant_of-self-else-is_others c =
    let hand = c.args.self.now in
    record { found_sized = hand.found_sized; counted_sized = hand.counted_sized; finds = hand.finds; finds_jobs = hand.finds_jobs; counts = hand.counts }

pub returns-in_default-clause-made : goal.returns-in_default-clause-made
returns-in_default-clause-made c = ap (after_turn (core_state c.args.self.now.core)) (sym (none_next c.next_event.result (next_event c.args.self.now) c.next_event.ensures (λ e is. c.in_default.not-Some e is)))

pub returns-in_default-clause-next : goal.returns-in_default-clause-next
returns-in_default-clause-next c = ap (λ x. passed x c.args.self.now.made) (sym (none_next c.next_event.result (next_event c.args.self.now) c.next_event.ensures (λ e is. c.in_default.not-Some e is)))

pub returns-in_default-clause-change : goal.returns-in_default-clause-change
returns-in_default-clause-change c = unchanged (core_state c.args.self.now.core)

pub returns-then-is_others-clause-made : goal.returns-then-is_others-clause-made
returns-then-is_others-clause-made c = after_other (core_state c.args.self.now.core) _ c.in-Some.event _ (sym c.in-Some.is ∙ c.next_event.ensures) (sym c.is_others.ensures ∙ c.if-is_others.true) c.step_other.ensures.made

pub returns-then-is_others-clause-next : goal.returns-then-is_others-clause-next
returns-then-is_others-clause-next c = ap (λ x. passed x c.args.self.now.made) (sym c.in-Some.is ∙ c.next_event.ensures)

pub returns-then-is_others-clause-change : goal.returns-then-is_others-clause-change
returns-then-is_others-clause-change c = c.step_other.ensures.change

pub returns-else-is_others-clause-view : goal.returns-else-is_others-clause-view
returns-else-is_others-clause-view c = refl

pub returns-else-is_others-clause-made : goal.returns-else-is_others-clause-made
returns-else-is_others-clause-made c = after_books (core_state c.args.self.now.core) c.in-Some.event _ (sym c.in-Some.is ∙ c.next_event.ensures) (sym c.is_others.ensures ∙ c.if-is_others.false)

pub returns-else-is_others-clause-next : goal.returns-else-is_others-clause-next
returns-else-is_others-clause-next c = ap (λ x. passed x c.args.self.now.made) (sym c.in-Some.is ∙ c.next_event.ensures)

pub returns-else-is_others-clause-change : goal.returns-else-is_others-clause-change
returns-else-is_others-clause-change c = unchanged (core_state c.args.self.now.core)
