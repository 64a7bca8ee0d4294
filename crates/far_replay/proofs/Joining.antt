-- What a command makes of a moment, from what its events make of the core.
use Rattle.std.proofs.Common.{◌≡◌, ℕ, true, Option, Some, None, ap, refl, sym, ◌∙◌}
use Rattle.far_word.specs.declared.mark.Mark.TheVariants.{Dropped}
use Rattle.far_word.specs.declared.refused.Refused.{Refused as Refusal}
use Rattle.far_events.specs.declared.event.Event.TheVariants.{Ask}
use Rattle.far_events.specs.events.Step.{after, after_close}
use Rattle.far_events.specs.state.Law.{Law}
use Rattle.far_events.specs.state.State.{State}
use Rattle.far_core.specs.state.Room.{room}
use Rattle.far_word.specs.Sizes.{size_of}
use Rattle.far_book.specs.book.Fetching.{order_fetched}
use Rattle.far_text.specs.Command.{Command, New, Open, Close, Where, Drop, Epoch, Mutator}
use Rattle.far_text.specs.Written.{WritesBytes}
use Rattle.far_alone.specs.Between.{Between}
use Rattle.far_alone.specs.Effects.{with_epoch, with_scope, without_object}
use Rattle.far_events.specs.events.Ranges.{after_events}
use Rattle.far_replay.specs.Events.{events_for, IsNoStep}
use Rattle.far_replay.specs.Moment.{Moment, with_core}
use Rattle.far_alone.specs.Objects.{lowest_cell}
use Rattle.far_replay.specs.Turn.{effect, refusal, refused_effect, turn_effect, unless, with_new}
use Rattle.far_events.proofs.Bounds.{some_of}
use Rattle.far_replay.proofs.Asides.{order_new}
use Rattle.far_alone.proofs.Drops.{retired_either}
use Rattle.far_replay.proofs.ToldRounds.{told_effect}
use Rattle.far_replay.proofs.Turns.{events_make, new_parts}
use Rattle.far_replay.proofs.Ways.{new_tests}
use Rattle.far_replay.proofs.WithCore.{moment_joined, same_order}

-- its core by its events, and the rest by its parts
pub made_whole : (now next : Moment) (c : Command) → IsNoStep c → Law now.core → Between now.core → WritesBytes c → next.core ≡ after_events now.core (events_for now c) →
    next.order ≡ (effect now c).order → next.phase ≡ now.phase → next.collection ≡ now.collection → next.copying ≡ now.copying → next ≡ effect now c
made_whole now next c told law between small core order phase held copying =
    let aside = told_effect now c told in
    moment_joined now next (effect now c).core (events_make now next.core c told law between small core) (order ∙ ap (λ (m : Moment). m.order) aside) phase held copying ∙ sym aside

-- ---- commands that open no other log
kept_by : (now : Moment) (o : Option Refusal) (t : State) → t.current ≡ now.core.current → (unless o (λ _. now) (with_core now t)).order ≡ now.order
kept_by now None t e = same_order now t e
kept_by now (Some why) t e = refl

pub open_keeps : (now : Moment) (m : ℕ) → (effect now (Mutator m Open)).order ≡ now.order
open_keeps now m = kept_by now (refusal now (Mutator m Open)) (with_scope now.core m) refl

pub close_keeps : (now : Moment) (m : ℕ) → (effect now (Mutator m Close)).order ≡ now.order
close_keeps now m = kept_by now (refusal now (Mutator m Close)) (after_close now.core m) refl

pub epoch_keeps : (now : Moment) (m : ℕ) → (effect now (Mutator m Epoch)).order ≡ now.order
epoch_keeps now m = kept_by now (refusal now (Mutator m Epoch)) (with_epoch now.core m) refl

pub drop_keeps : (now : Moment) (m p : ℕ) → (effect now (Mutator m (Drop p))).order ≡ now.order
drop_keeps now m p = kept_by now (refusal now (Mutator m (Drop p))) (without_object now.core m p) (retired_either (λ (t : State). t.current ≡ now.core.current) (after now.core (Ask m p Dropped)) p refl refl)

none_kept : (now : Moment) (o : Option Refusal) → (unless o (λ _. now) now).order ≡ now.order
none_kept now None = refl
none_kept now (Some why) = refl

pub where_keeps : (now : Moment) (m p : ℕ) → (effect now (Mutator m (Where p))).order ≡ now.order
where_keeps now m p = none_kept now (refusal now (Mutator m (Where p)))

-- ---- a new object may open another
pub new_order : (now : Moment) (m len ds : ℕ) → Law now.core → refusal now (Mutator m (New len ds)) ≡ None →
    (effect now (Mutator m (New len ds))).order ≡ order_fetched now.core now.order (room now.core (size_of len) true)
new_order now m len ds law none =
    let s : State = now.core in
    let tests = new_tests s m len ds none in
    let cell = some_of (lowest_cell s m) tests.2 in
    let found = some_of (room s (size_of len) true) tests.3 in
    let parts = new_parts s m len ds cell.0 found.0 law none cell.1 found.1 in
    ap (λ o. (unless o (refused_effect now (Mutator m (New len ds))) (turn_effect now (Mutator m (New len ds)))).order) none
    ∙ (λ i. (with_core now (with_new s m len ds (cell.1 i) (found.1 i))).order)
    ∙ order_new now m len ds cell.0 found.0 law parts.some parts.most parts.structure cell.1 found.1
    ∙ ap (order_fetched s now.order) (sym found.1)
