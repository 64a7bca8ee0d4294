use Rattle.std.proofs.Common.{sym, subst, ap, refl, ◌∙◌, ◌≡◌, ◌+◌, ◌*◌, ◌<◌, ℕ, Bool, false}
use Rattle.far_word.specs.declared.sizes.TheConstants.{CELLS, EPOCH_END, LOG_WORDS}
use Rattle.far_events.specs.declared.event.Event.TheVariants.{Advance}
use Rattle.far_events.specs.events.Advance.{advanced}
use Rattle.far_events.specs.events.Step.{after}
use Rattle.far_core.specs.state.CoreState.{core_state}
use Rattle.far_events.specs.state.State.{State}
use Rattle.far_hand.specs.BesetView.{beset_view}
use Rattle.far_hand.specs.Known.{Forgets}
use Rattle.far_hand.specs.Masked.{masked, word_at, is_counted, AllFind, AllFindJobs}
use Rattle.far_hand.specs.Rounds.{MayChoose}
use Rattle.far_hand.proofs.Reading.{forgets, header_known}
use Rattle.far_hand.proofs.RoundSteps.{may_advance}
use Rattle.far_events.specs.declared.event.Reply.TheVariants.{Epoch, Refused}
use Rattle.far_hand.specs.MayBe.{Made}
use Rattle.far_hand.proofs.Making.{none_rest, spent_made, turn_may_be, turn_then}
use Rattle.far_hand.proofs.beset.hand.BesetNear.advance.Goals as goal

pub advance-epoch-requires : goal.advance-epoch-requires
advance-epoch-requires c =
    let hand = c.turn.new.self in
    let chosen : MayChoose (beset_view hand) c.args.logs = subst (λ (u : State). MayChoose u c.args.logs) (sym c.turn.ensures.view) c.requires.chosen in
    record { legal = may_advance (core_state hand.core) (word_at hand.found.items) (is_counted hand.counted.items) (word_at hand.jobs) c.args.logs hand.finds (c.may_rise.ensures.rises c.if-not-may_rise.false) chosen }

pub invariant_of-self : goal.invariant_of-self
invariant_of-self c =
    let hand = c.turn.new.self in
    let t = core_state c.advance-epoch.new.self in
    let found = word_at hand.found.items in
    record {
      found_sized = hand.found_sized ∙ ap (λ (u : State). CELLS * u.mutators) (sym c.advance-epoch.ensures.state);
      counted_sized = c.forget.ensures.len ∙ (hand.counted_sized ∙ ap (λ (u : State). LOG_WORDS * u.logs) (sym c.advance-epoch.ensures.state));
      finds = subst (λ (u : State). AllFind found u.cell) (sym c.advance-epoch.ensures.state) hand.finds;
      finds_jobs = subst (λ (u : State). AllFindJobs (word_at hand.jobs) u.copying.word) (sym c.advance-epoch.ensures.state) hand.finds_jobs;
      counts = none_rest t found (is_counted c.forget.new.counted.items) c.forget.ensures.none;
    }

pub returns-then-not-may_rise : goal.returns-then-not-may_rise
returns-then-not-may_rise c = record {
  epoch = tt;
  kept = tt;
  forgot = tt;
  refused = (refl, ap (λ (u : State). u.epoch + 1) (sym c.turn.ensures.view) ∙ c.may_rise.ensures.spent c.if-not-may_rise.true);
  unchanged = c.turn.ensures.view;
  set = λ x. absurd x;
  made = tt;
  spent = let hand = c.turn.new.self in record {
    turn = turn_may_be c.args.self.now hand c.turn.ensures.view c.turn.ensures.made c.turn.ensures.change;
    call = subst (λ (u : State). Made u (Advance c.args.logs) Refused (core_state hand.core)) c.turn.ensures.made
        (spent_made (core_state hand.core) (core_state hand.core) c.args.logs hand.core.law refl (c.may_rise.ensures.spent c.if-not-may_rise.true));
    list = c.turn.ensures.events;
    past = c.turn.ensures.next;
  };
}

pub returns : goal.returns
returns c =
    let hand = c.turn.new.self in
    let s = core_state hand.core in
    let found = word_at hand.found.items in
    let counted = is_counted hand.counted.items in
    let jobs = word_at hand.jobs in
    let logs = c.args.logs in
    let later = is_counted c.forget.new.counted.items in
    let view : State = masked (advanced s logs) found later jobs in
    let is : s.epoch + 1 ≡ c.advance-epoch.result = cc in
    let kept : view ≡ record (after (beset_view c.args.self.now) (Advance logs)) { word = view.word } =
    subst (λ (o : State). view ≡ record (after o (Advance logs)) { word = view.word }) c.turn.ensures.view refl in
    let bare = forgets (masked s found counted jobs) (masked (advanced s logs) found (λ _. false) jobs) s.starts refl s.word refl (λ a st. sym (header_known s.word s.starts counted a st)) in
    let old = subst (λ (o : State). Forgets o (masked (advanced s logs) found (λ _. false) jobs)) c.turn.ensures.view bare in
    let forgot = subst (λ (k : ℕ → Bool). Forgets (beset_view c.args.self.now) (masked (advanced s logs) found k jobs)) (sym c.forget.ensures.none) old in
    let chosen : MayChoose (beset_view hand) logs = subst (λ (u : State). MayChoose u logs) (sym c.turn.ensures.view) c.requires.chosen in
    let own = may_advance s found counted jobs logs hand.finds (c.may_rise.ensures.rises c.if-not-may_rise.false) chosen in
    record {
      epoch = (sym is ∙ ap (λ (u : State). u.epoch + 1) c.turn.ensures.view, subst (λ n. n < EPOCH_END) is (c.may_rise.ensures.rises c.if-not-may_rise.false));
      kept = subst (λ (u : State). masked u found later jobs ≡ record (after (beset_view c.args.self.now) (Advance logs)) { word = (masked u found later jobs).word }) (sym c.advance-epoch.ensures.state) kept;
      forgot = subst (λ (u : State). Forgets (beset_view c.args.self.now) (masked u found later jobs)) (sym c.advance-epoch.ensures.state) forgot;
      refused = tt;
      unchanged = tt;
      set = λ x. absurd x;
      made = turn_then c.args.self.now hand (Advance logs) (Epoch c.advance-epoch.result) c.turn.ensures.view c.turn.ensures.made c.turn.ensures.change c.turn.ensures.events c.turn.ensures.next own c.advance-epoch.ensures.state c.advance-epoch.ensures.epoch refl refl;
      spent = tt;
    }
