-- What a try is answered, in the words of cells and views.
use Rattle.std.proofs.Common.{◌≡◌, ℕ, ◌<◌, Bool, true, false, cond, not, ◌||◌, nat_lt, refl, sym, ap, subst, ◌∙◌, is_some, Option, Some, None, []}
use Rattle.std.specs.Prelude.{◌∷◌}
use Rattle.std.proofs.lemmas.Bool.{false≢true, lt-ltb}
use Rattle.far_word.specs.declared.mark.Mark.TheVariants.{Hot}
use Rattle.far_word.specs.declared.mark.Marks.{Marks}
use Rattle.far_word.specs.declared.pointer.Place.{Place}
use Rattle.far_word.specs.declared.pointer.PtrWord.{PtrWord}
use Rattle.far_word.specs.declared.pointer.PtrWord.TheVariants.{Near}
use Rattle.far_word.specs.declared.refused.Refused.TheVariants.{Closed, NotHeld, Range, Marked}
use Rattle.far_word.specs.Pointer.{read_of}
use Rattle.far_events.specs.events.Step.{after_pin, is_opened, place_to_view}
use Rattle.far_events.specs.state.Law.{Law}
use Rattle.far_events.specs.state.State.{State}
use Rattle.far_core.specs.world.WorldOf.{world_of}
use Rattle.far_events.proofs.Cells.{map_mark}
use Rattle.far_replay.specs.Answers.{Served}
use Rattle.far_text.specs.Command.{Mutator, Try}
use Rattle.far_alone.specs.Effects.{is_slow, with_view}
use Rattle.far_replay_laws.specs.Headline.{IsHotAfter}
use Rattle.far_replay.specs.Moment.{Moment, with_core}
use Rattle.far_alone.specs.Objects.{uses}
use Rattle.far_reply.specs.Reply.{Reply, Done, Refused}
use Rattle.far_replay.specs.Turn.{first_cause, unless, refused_effect, turn_effect}
use Rattle.far_replay.proofs.Drops.{viewed_is}
use Rattle.far_alone.proofs.Views.{pin_read}
use Rattle.far_replay.proofs.WithCore.{same_core}

-- of an object that its mutator uses in its open scope, the refusal hangs on the pin alone
by_pin : (a b c d : Bool) (word : ℕ) → a ≡ true → b ≡ true → c ≡ true →
    first_cause ((not a, Range) ∷ (not b, Closed) ∷ (not c, NotHeld) ∷ (d, Marked word) ∷ []) ≡ cond d (Some (Marked word)) None
by_pin true true true d word x y z = refl
by_pin true true false d word x y z = absurd (false≢true z)
by_pin true false c d word x y z = absurd (false≢true y)
by_pin false b c d word x y z = absurd (false≢true x)

-- what a try answers, and where it leads, by whether the pin gives a view
answered : (now : Moment) (m p : ℕ) (r : Reply) (after : Moment) (b : Bool) → m < now.core.mutators → is_opened now.core m ≡ true → uses now.core m p ≡ true → is_slow now.core p ≡ b → Served now (Mutator m (Try p)) r after →
    (r ≡ cond b (Refused (Marked (now.core.cell p))) Done) × (after ≡ with_core now (with_view now.core p))
answered now m p r after b within opened ours is h =
    let s : State = now.core in
    let o = by_pin (nat_lt m s.mutators) (is_opened s m) (uses s m p) (is_slow s p) (s.cell p) (lt-ltb m s.mutators within) opened ours in
    let found = o ∙ ap (λ x. cond x (Some (Marked (s.cell p))) None) is in
    (h.reply ∙ ap (λ x. unless x Refused Done) found ∙ told b, h.moment ∙ ap (λ x. unless x (refused_effect now (Mutator m (Try p))) (turn_effect now (Mutator m (Try p)))) found ∙ led b) where
      told : (b : Bool) → unless (cond b (Some (Marked (now.core.cell p))) None) Refused Done ≡ cond b (Refused (Marked (now.core.cell p))) Done
      told true = refl
      told false = refl

      led : (b : Bool) → unless (cond b (Some (Marked (now.core.cell p))) None) (refused_effect now (Mutator m (Try p))) (turn_effect now (Mutator m (Try p))) ≡ with_core now (with_view now.core p)
      led true = refl
      led false = refl

-- a pin gives a view of a near object without marks, and of no other
gives : (o : Option PtrWord) (len ds : ℕ) (place : Place) (marks : Marks) → o ≡ Some (Near len ds place marks) → (marks.evac || marks.moved || marks.dropped) ≡ false → is_some (place_to_view o) ≡ true
gives o len ds place marks is e = ap (λ x. is_some (place_to_view x)) is ∙ ap (λ b. is_some (cond b None (Some place))) e

none_given : (b : Bool) (place : Place) → b ≡ true → is_some (cond b None (Some place)) ≡ false
none_given true place e = refl
none_given false place e = absurd (false≢true e)

gives_none : (o : Option PtrWord) → ((len ds : ℕ) (place : Place) (marks : Marks) → o ≡ Some (Near len ds place marks) → (marks.evac || marks.moved || marks.dropped) ≡ true) → is_some (place_to_view o) ≡ false
gives_none (Some (Near len ds place marks)) h = none_given (marks.evac || marks.moved || marks.dropped) place (h len ds place marks refl)
gives_none _ h = refl

held_is_fast : (s : State) (p : ℕ) → is_some (s.held p) ≡ true → is_slow s p ≡ false
held_is_fast s p e = ap (λ b. not (b || is_some (place_to_view (read_of (s.cell p))))) e

unheld_by : (s : State) (p : ℕ) (b : Bool) → is_some (s.held p) ≡ false → is_some (place_to_view (read_of (s.cell p))) ≡ b → is_slow s p ≡ not b
unheld_by s p b e f = ap (λ x. not (x || is_some (place_to_view (read_of (s.cell p))))) e ∙ ap not f

hot_after : (s : State) (m p : ℕ) → Law s → is_opened s m ≡ true → uses s m p ≡ true → is_some (s.held p) ≡ false → IsHotAfter s (with_view s p) p
hot_after s m p law opened ours e =
    subst (λ (t : State). IsHotAfter s t p) (sym (ap (λ b. cond b s (after_pin s p)) e)) (λ v is. pin_read s m p law opened ours ∙ ap (map_mark Hot) is)

pub tries_answered : (now : Moment) (m p : ℕ) (r : Reply) (after : Moment) → Law now.core → m < now.core.mutators → is_opened now.core m ≡ true → uses now.core m p ≡ true →
    Served now (Mutator m (Try p)) r after → ((world_of now.core).viewed p ≡ true → (r ≡ Done) × (after ≡ now))
    × ((world_of now.core).viewed p ≡ false → IsHotAfter now.core after.core p
    × (((len ds : ℕ) (place : Place) (marks : Marks) → read_of (now.core.cell p) ≡ Some (Near len ds place marks) → (marks.evac || marks.moved || marks.dropped) ≡ false → r ≡ Done)
    × (((len ds : ℕ) (place : Place) (marks : Marks) → read_of (now.core.cell p) ≡ Some (Near len ds place marks) → (marks.evac || marks.moved || marks.dropped) ≡ true) →
    r ≡ Refused (Marked (now.core.cell p)))))
tries_answered now m p r after law within opened ours h =
    let s : State = now.core in
    let o : Option PtrWord = read_of (s.cell p) in (
      (λ viewed.
          let e = viewed_is s p true viewed in
          let x = answered now m p r after false within opened ours (held_is_fast s p e) h in
          (x.0, x.1 ∙ ap (λ b. with_core now (cond b s (after_pin s p))) e ∙ same_core now)),
      (λ free.
          let e = viewed_is s p false free in
          let moved = (answered now m p r after (is_slow s p) within opened ours refl h).1 in (
            subst (λ (x : Moment). IsHotAfter s x.core p) (sym moved) (hot_after s m p law opened ours e),
            (
              (λ len ds place marks is bare. (answered now m p r after false within opened ours (unheld_by s p true e (gives o len ds place marks is bare)) h).0),
              (λ none. (answered now m p r after true within opened ours (unheld_by s p false e (gives_none o none)) h).0),
            ),
          )),
    )
