use Rattle.std.proofs.Common.{◌≡◌, ℕ, inl, inr, true, Some, None, is_some, refl, sym, ap, ◌∙◌}
use Rattle.far_word.specs.Pointer.{read_of}
use Rattle.far_core.specs.declared.machine.Core.{Core}
use Rattle.far_events.specs.events.Naming.{is_dropped}
use Rattle.far_core.specs.state.CoreState.{core_state}
use Rattle.far_events.specs.state.State.{State}
use Rattle.far_book.specs.book.Effects.{retired, with_free_cell}
use Rattle.far_text.specs.Command.{Mutator, Drop}
use Rattle.far_events.specs.events.Ranges.{after_events}
use Rattle.far_replay.specs.Events.{events_for}
use Rattle.far_replay.specs.Moment.{FarSide, moment_in, state_in}
use Rattle.far_alone.specs.Objects.{uses}
use Rattle.far_alone.proofs.Drops.{ask_fact, asked_is_dropped, unheld_is}
use Rattle.far_replay.proofs.Drops.{dropped_by_events}
use Rattle.far_replay.specs.Commanded.{Serves}
use Rattle.std.proofs.lemmas.Bool.{cases_eq}
use Rattle.far_book.specs.book.FarSide.{kept_len}
use Rattle.far_book.proofs.region.Retires.{retired_is}
use Rattle.far_events.proofs.Cells.{unused}
use Rattle.far_events.proofs.Put.{put_same}
use Rattle.far_replay.specs.Far.{far_of}
use Rattle.far_replay.proofs.FarReads.{go_no_more}
use Rattle.far_alone.proofs.Storing.{uses_own}
use Rattle.far_replay.proofs.Spending.{spent_first, spent_none, spent_same}
use Rattle.far_replay.proofs.dropping.drop_object.Goals as goal

pub retire-requires-clause-dropped : goal.retire-requires-clause-dropped
retire-requires-clause-dropped c =
    let s : State = state_in c.args.evac.now in
    let p : ℕ = c.in-Some.pointer in
    let own = c.in-Some.ensures.own in
    let ours : uses s c.args.owner p ≡ true = ap (uses s c.args.owner) own.0 ∙ uses_own s c.args.owner c.args.pointer own.1 own.2 in
    let unheld : s.held p ≡ None = unheld_is (s.held p) (sym (ap (λ (x : Core). is_some ((core_state x).held p)) c.core_of.ensures) ∙ sym c.is_held.ensures ∙ c.if-is_held.false) in
    let asked = (c.make_event.ensures.legal refl (ask_fact s c.args.owner p c.requires.law c.requires.known ours unheld)).0 in
    ap (λ (t : State). is_dropped (read_of (t.cell p))) asked ∙ asked_is_dropped s c.args.owner p c.requires.law c.requires.known ours unheld

pub returns-clause-state : goal.returns-clause-state
returns-clause-state c =
    let s : State = state_in c.args.evac.now in
    let p : ℕ = c.in-Some.pointer in
    let own = c.in-Some.ensures.own in
    let ours : uses s c.args.owner p ≡ true = ap (uses s c.args.owner) own.0 ∙ uses_own s c.args.owner c.args.pointer own.1 own.2 in
    let unheld : s.held p ≡ None = unheld_is (s.held p) (sym (ap (λ (x : Core). is_some ((core_state x).held p)) c.core_of.ensures) ∙ sym c.is_held.ensures ∙ c.if-is_held.false) in
    let asked = (c.make_event.ensures.legal refl (ask_fact s c.args.owner p c.requires.law c.requires.known ours unheld)).0 in
    dropped_by_events (moment_in c.args.evac.now) (state_in c.retire.new.self) c.args.owner p c.requires.law c.requires.known ours unheld (c.retire.ensures.retired.exact tt ∙ ap (λ (t : State). retired t p) asked)
    ∙ ap (λ q. after_events s (events_for (moment_in c.args.evac.now) (Mutator c.args.owner (Drop q)))) own.0

pub returns-clause-spent : goal.returns-clause-spent
returns-clause-spent c =
    spent_first Serves c.args.evac.now c.make_event.new.evac c.retire.new.self (spent_same c.args.evac.now c.make_event.new.evac c.make_event.ensures.device)
    (spent_none c.make_event.new.evac c.retire.new.self (go_no_more c.make_event.new.evac.book.device c.retire.new.self.book.device c.in-Some.pointer c.retire.ensures.retired.called))

pub returns-clause-holds : goal.returns-clause-holds
returns-clause-holds c q len kept =
    let t : State = state_in c.make_event.new.evac in
    let p : ℕ = c.in-Some.pointer in
    let free : state_in c.retire.new.self ≡ with_free_cell t p = c.retire.ensures.retired.exact tt ∙ retired_is t p (retire-requires-clause-dropped c.before) in
    elim (cases_eq q p) [
      | inl at ↦ (let none : kept_len (read_of ((state_in c.retire.new.self).cell q)) ≡ None = ap (λ (s : State). kept_len (read_of (s.cell q))) free ∙ ap (λ w. kept_len (read_of w)) (put_same t.cell p 0 q at) ∙ ap kept_len unused in
          let odd : None ≡ Some len = sym none ∙ kept in absurd cc)
      | inr away ↦ c.retire.ensures.retired.called.0.0.1 q away ∙ ap (λ (d : FarSide). far_of d q) c.make_event.ensures.device
    ]
