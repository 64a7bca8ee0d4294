-- What a mutator is told of the epoch, and at which its scope opens.
use Rattle.std.proofs.Common.{◌≡◌, ℕ, ◌<◌, Bool, true, false, nat_lt, refl, ap, ◌∙◌, Option, Some, None, [], ◌∷◌}
use Rattle.std.specs.Prelude.{not}
use Rattle.std.proofs.lemmas.Bool.{lt-ltb}
use Rattle.far_word.specs.declared.refused.Refused.{Refused as Refusal}
use Rattle.far_word.specs.declared.refused.Refused.TheVariants.{AlreadyOpen, Range}
use Rattle.far_events.specs.events.Step.{is_opened, scope_word_of}
use Rattle.far_events.specs.state.State.{State}
use Rattle.far_events.proofs.Put.{put_same}
use Rattle.far_text.specs.Command.{Open, Close, Epoch, Mutator}
use Rattle.far_alone.specs.Effects.{epoch_for}
use Rattle.far_replay_laws.specs.Headline.{EpochsAreTold, ScopesOpenAtEpochs, ClosesForget}
use Rattle.far_replay.specs.Moment.{Moment}
use Rattle.far_reply.specs.Reply.{Done, Refused}
use Rattle.far_replay.proofs.Outcomes.{is_served}
use Rattle.far_replay.specs.Turn.{refusal, unless, first_cause, turn_reply, turn_effect, refused_effect}

-- what is refused of a scope of a mutator of the heap
scope_cause : (s : State) (m : ℕ) (b : Bool) → m < s.mutators → is_opened s m ≡ b → first_cause ((not (nat_lt m s.mutators), Range) ∷ (is_opened s m, AlreadyOpen) ∷ []) ≡ first_cause ((b, AlreadyOpen) ∷ [])
scope_cause s m b within e =
    ap (λ a. first_cause ((not a, Range) ∷ (is_opened s m, AlreadyOpen) ∷ [])) (lt-ltb m s.mutators within) ∙ ap (λ a. first_cause ((a, AlreadyOpen) ∷ [])) e

pub epochs_told : EpochsAreTold
epochs_told now m r next within k = let h = is_served now (Mutator m Epoch) r next tt k in (
  (λ opened. h.reply ∙ ap (λ o. unless o Refused (turn_reply now (Mutator m Epoch))) (scope_cause now.core m true within opened)),
  λ shut. let none = scope_cause now.core m false within shut in (
    h.reply ∙ ap (λ o. unless o Refused (turn_reply now (Mutator m Epoch))) none,
    ap (λ (x : Moment). x.core) (h.moment ∙ ap (λ o. unless o (refused_effect now (Mutator m Epoch)) (turn_effect now (Mutator m Epoch))) none),
  ),
)

pub scopes_open : ScopesOpenAtEpochs
scopes_open now m r next within shut k =
    let h = is_served now (Mutator m Open) r next tt k in
    let none = scope_cause now.core m false within shut in
    let begun : next ≡ turn_effect now (Mutator m Open) = h.moment ∙ ap (λ o. unless o (refused_effect now (Mutator m Open)) (turn_effect now (Mutator m Open))) none in
    let word : next.core.scope m ≡ scope_word_of (Some (epoch_for (now.core.remembered m) now.core.epoch)) = ap (λ (x : Moment). x.core.scope m) begun ∙ put_same now.core.scope m (scope_word_of (Some (epoch_for (now.core.remembered m) now.core.epoch))) m refl in (
      h.reply ∙ ap (λ o. unless o Refused (turn_reply now (Mutator m Open))) none,
      (λ e is. word ∙ ap (λ o. scope_word_of (Some (epoch_for o now.core.epoch))) is),
      λ is. word ∙ ap (λ o. scope_word_of (Some (epoch_for o now.core.epoch))) is,
    )

-- a close that is done wasn't refused
done_at : (now : Moment) (o : Option Refusal) (m : ℕ) (next : Moment) → Done ≡ unless o Refused Done → next ≡ unless o (refused_effect now (Mutator m Close)) (turn_effect now (Mutator m Close)) → next.core.remembered m ≡ None
done_at now None m next e is = ap (λ (x : Moment). x.core.remembered m) is ∙ put_same now.core.remembered m None m refl
done_at now (Some why) m next e is = absurd cc

pub closes_forget : ClosesForget
closes_forget now m next k = let h = is_served now (Mutator m Close) Done next tt k in done_at now (refusal now (Mutator m Close)) m next h.reply h.moment
