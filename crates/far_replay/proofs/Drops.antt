-- A drop as a command: what it answers, and what it leaves.
use Rattle.std.proofs.Common.{◌≡◌, ◌≢◌, ℕ, ◌<◌, Bool, true, false, not, nat_lt, sym, refl, ap, subst, ◌∙◌, is_some, None, [], ◌∷◌}
use Rattle.std.proofs.lemmas.Bool.{lt-ltb, false≢true}
use Rattle.far_word.specs.declared.refused.Refused.TheVariants.{NotHeld, Range, Held}
use Rattle.far_events.specs.events.Step.{after}
use Rattle.far_events.specs.state.Law.{Law}
use Rattle.far_events.specs.state.State.{State}
use Rattle.far_core.specs.world.World.{World}
use Rattle.far_core.specs.world.WorldOf.{world_of}
use Rattle.far_replay.specs.Answers.{Served}
use Rattle.far_text.specs.Command.{Drop, Mutator}
use Rattle.far_alone.specs.Effects.{without_object}
use Rattle.far_events.specs.events.Ranges.{after_events}
use Rattle.far_alone.specs.Events.{drop_events}
use Rattle.far_replay.specs.Events.{events_for}
use Rattle.far_replay.specs.Changes.{EndsObject}
use Rattle.far_replay.specs.Moment.{Moment, with_core}
use Rattle.far_alone.specs.Objects.{uses}
use Rattle.far_alone.proofs.Drops.{dead_rises, dead_stays, drop_ends, drop_is, drop_world, live_falls, live_stays, unheld_is}
use Rattle.far_reply.specs.Reply.{Reply, Done, Refused}
use Rattle.far_replay.specs.Turn.{first_cause, refusal, unless}

-- ---- the answer
-- by whether the mutator uses the pointer, and whether it views its object
drop_answer : (a b c : Bool) → a ≡ true →
    (b ≢ true → unless (first_cause ((not a, Range) ∷ (not b, NotHeld) ∷ (c, Held) ∷ [])) Refused Done ≡ Refused NotHeld)
    × (b ≡ true → c ≡ true → unless (first_cause ((not a, Range) ∷ (not b, NotHeld) ∷ (c, Held) ∷ [])) Refused Done ≡ Refused Held)
    × (b ≡ true → c ≡ false → first_cause ((not a, Range) ∷ (not b, NotHeld) ∷ (c, Held) ∷ []) ≡ None)
drop_answer false b c e = absurd (false≢true e)
drop_answer true false c e = ((λ _. refl), (λ h _. absurd (false≢true h)), (λ h _. absurd (false≢true h)))
drop_answer true true false e = ((λ ne. absurd (ne refl)), (λ _ h. absurd (false≢true h)), (λ _ _. refl))
drop_answer true true true e = ((λ ne. absurd (ne refl)), (λ _ _. refl), (λ _ h. absurd (false≢true (sym h))))

pub viewed_is : (s : State) (p : ℕ) (b : Bool) → (world_of s).viewed p ≡ b → is_some (s.held p) ≡ b
unfolding world_of
viewed_is s p b e = e

-- what a book makes by its owner's asking and its own retiring, the events make
pub dropped_by_events : (now : Moment) (t : State) (m p : ℕ) → Law now.core → m < now.core.mutators → uses now.core m p ≡ true → now.core.held p ≡ None → t ≡ without_object now.core m p → t ≡ after_events now.core (events_for now (Mutator m (Drop p)))
dropped_by_events now t m p law within ours unheld is =
    let none : refusal now (Mutator m (Drop p)) ≡ None = (drop_answer (nat_lt m now.core.mutators) (uses now.core m p) (is_some (now.core.held p)) (lt-ltb m now.core.mutators within)).2 ours (ap is_some unheld) in
    is ∙ sym (drop_ends now.core m p law within ours unheld) ∙ ap (λ o. after_events now.core (unless o (λ _. []) (drop_events now.core m p))) (sym none)

ends_object : (s : State) (m p : ℕ) (law : Law s) → m < s.mutators → uses s m p ≡ true → s.held p ≡ None → EndsObject s (without_object s m p) p
ends_object s m p law within ours unheld = record {
  object = ap (λ (w : World). w.object) (drop_world s m p law within ours unheld);
  rest = drop_is s m p law within ours unheld;
  live = λ len ds place marks e. live_falls s m p law within ours unheld len ds place marks e;
  dead = λ len ds place marks e. dead_rises s m p law within ours unheld len ds place marks e;
  others = λ len ds place marks e l ne. (live_stays s m p law within ours unheld len ds place marks e l ne, dead_stays s m p law within ours unheld len ds place marks e l ne);
}

pub drop_ends_object : (now : Moment) (m p : ℕ) (r : Reply) (after : Moment) → Law now.core → m < now.core.mutators → Served now (Mutator m (Drop p)) r after →
    (uses now.core m p ≢ true → r ≡ Refused NotHeld)
    × (uses now.core m p ≡ true → (world_of now.core).viewed p ≡ true → r ≡ Refused Held)
    × (uses now.core m p ≡ true → (world_of now.core).viewed p ≡ false → (r ≡ Done) × EndsObject now.core after.core p)
drop_ends_object now m p r later law within h =
    let s : State = now.core in
    let told = drop_answer (nat_lt m s.mutators) (uses s m p) (is_some (s.held p)) (lt-ltb m s.mutators within) in (
      (λ ne. h.reply ∙ told.0 ne),
      (λ ours viewed. h.reply ∙ told.1 ours (viewed_is s p true viewed)),
      (λ ours free.
          let none = told.2 ours (viewed_is s p false free) in
          let unheld : s.held p ≡ None = unheld_is (s.held p) (viewed_is s p false free) in
          let moved : later.core ≡ without_object s m p = ap (λ (x : Moment). x.core) h.moment ∙ ap (λ o. (unless o (λ _. now) (with_core now (without_object s m p))).core) none in
          (h.reply ∙ ap (λ o. unless o Refused Done) none, subst (λ (t : State). EndsObject s t p) (sym moved) (ends_object s m p law within ours unheld))),
    )
