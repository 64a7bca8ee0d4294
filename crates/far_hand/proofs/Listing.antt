-- A beset hand goes through its list, an event at each call.
use Rattle.std.proofs.Common.{◌≡◌, ◌+◌, ℕ, zero, suc, Bool, true, false, List, [], ◌∷◌, drop, length, Option, Some, None, inl, inr, refl, sym, ap, ◌∙◌, subst, arith}
use Rattle.std.specs.Prelude.{◌⊎◌, slice_get}
use Rattle.std.proofs.Math.Seq.{drop-nil}
use Rattle.std.proofs.lemmas.Bool.{false≢true}
use Rattle.far_events.specs.declared.event.Event.{Event}
use Rattle.far_events.specs.declared.event.Event.TheVariants.{ReadEpoch, Open, Pin, Load, Store, Soil, Close, Adopt, Put, Name, See, Mark, Ask, Get, Clear, Advance, Look, Offer, PeekJob, SeeJob, Claim, ReadLength, Read, Write, Finish, Collect}
use Rattle.far_events.specs.declared.event.Reply.{Reply}
use Rattle.far_events.specs.events.Step.{after, is_legal}
use Rattle.far_core.specs.state.CoreState.{core_state}
use Rattle.far_events.specs.state.Law.{Law}
use Rattle.far_events.specs.state.State.{State}
use Rattle.far_core.proofs.Owing.{is_fact, is_test}
use Rattle.far_hand.specs.declared.beset.Beset.{Beset}
use Rattle.far_hand.specs.BesetView.{TurnThen, next_event, passed}
use Rattle.far_hand.specs.Came.{Runs}
use Rattle.far_hand.specs.Listed.{ActOut, IsOfCopier, IsOfOwner, TakesTurn, events_left}
use Rattle.far_hand.specs.Makers.{is_others}
use Rattle.far_hand.specs.MayBe.{Made}
use Rattle.far_hand.specs.Others.{after_turn}

-- ---- whose an event is
other_so : (e : Event) → IsOfOwner e ⊎ IsOfCopier e → is_others e ≡ true
other_so e of = elim of [
  | inl (inl x) ↦ ap is_others x.1
  | inl (inr (inl x)) ↦ ap is_others x.1
  | inl (inr (inr (inl x))) ↦ ap is_others x.1
  | inl (inr (inr (inr (inl x)))) ↦ ap is_others x.2
  | inl (inr (inr (inr (inr (inl x))))) ↦ ap is_others x.3
  | inl (inr (inr (inr (inr (inr (inl x)))))) ↦ ap is_others x.4
  | inl (inr (inr (inr (inr (inr (inr (inl x))))))) ↦ ap is_others x.2
  | inl (inr (inr (inr (inr (inr (inr (inr (inl x)))))))) ↦ ap is_others x.3
  | inl (inr (inr (inr (inr (inr (inr (inr (inr x)))))))) ↦ ap is_others x.2
  | inr (inl x) ↦ ap is_others x.2
  | inr (inr (inl x)) ↦ ap is_others x.3
  | inr (inr (inr (inl x))) ↦ ap is_others x.1
  | inr (inr (inr (inr (inl x)))) ↦ ap is_others x.2
  | inr (inr (inr (inr (inr (inl x))))) ↦ ap is_others x.2
  | inr (inr (inr (inr (inr (inr x))))) ↦ ap is_others x.1
]

so_other : (e : Event) → is_others e ≡ true → IsOfOwner e ⊎ IsOfCopier e
so_other (ReadEpoch m) h = inl (inl (m, refl))
so_other (Open m) h = inl (inr (inl (m, refl)))
so_other (Close m) h = inl (inr (inr (inl (m, refl))))
so_other (Pin m p) h = inl (inr (inr (inr (inl (m, p, refl)))))
so_other (Load m p i) h = inl (inr (inr (inr (inr (inl (m, p, i, refl))))))
so_other (Store m p i w) h = inl (inr (inr (inr (inr (inr (inl (m, p, i, w, refl)))))))
so_other (Adopt m p) h = inl (inr (inr (inr (inr (inr (inr (inl (m, p, refl))))))))
so_other (Ask m p k) h = inl (inr (inr (inr (inr (inr (inr (inr (inl (m, p, k, refl)))))))))
so_other (Soil m p) h = inl (inr (inr (inr (inr (inr (inr (inr (inr (m, p, refl)))))))))
so_other (PeekJob c j) h = inr (inl (c, j, refl))
so_other (Claim c j old) h = inr (inr (inl (c, j, old, refl)))
so_other (ReadLength c) h = inr (inr (inr (inl (c, refl))))
so_other (Read c i) h = inr (inr (inr (inr (inl (c, i, refl)))))
so_other (Write c i) h = inr (inr (inr (inr (inr (inl (c, i, refl))))))
so_other (Finish c) h = inr (inr (inr (inr (inr (inr (c, refl))))))
so_other (Put l at w) h = absurd (false≢true h)
so_other (Name p old new) h = absurd (false≢true h)
so_other (See p) h = absurd (false≢true h)
so_other (Mark p) h = absurd (false≢true h)
so_other (Clear p) h = absurd (false≢true h)
so_other (Get l at free) h = absurd (false≢true h)
so_other (Advance logs) h = absurd (false≢true h)
so_other (Look m) h = absurd (false≢true h)
so_other (Offer j p to) h = absurd (false≢true h)
so_other (SeeJob j) h = absurd (false≢true h)
so_other (Collect j old) h = absurd (false≢true h)

-- ---- a turn
made_turn : (s : State) (e : Event) → is_others e ≡ true → is_legal s e ≡ true → after_turn s (Some e) ≡ after s e
made_turn s e own legal = rw (own, legal) refl

passed_turn : (s : State) (e : Event) (own legal : Bool) → is_others e ≡ own → is_legal s e ≡ legal → ¬ ((own ≡ true) × (legal ≡ true)) → after_turn s (Some e) ≡ s
passed_turn s e false legal o l never = rw o refl
passed_turn s e true false o l never = rw (o, l) refl
passed_turn s e true true o l never = absurd (never (refl, refl))

takes_turn : (s : State) (e : Event) → Law s → TakesTurn s e (after_turn s (Some e))
takes_turn s e law = record {
  made = λ of legal. made_turn s e (other_so e of) (is_test s e legal);
  passed = λ never. passed_turn s e (is_others e) (is_legal s e) refl refl (λ h. never (so_other e h.0, is_fact s e law h.1));
}

-- ---- the list
left_some : (xs : List Event) (i : ℕ) (e : Event) → slice_get xs i ≡ Some e → drop i xs ≡ e ∷ drop (i + 1) xs
left_some [] i e h = absurd (cc)
left_some (x ∷ xs) zero e h = let is : x ≡ e = cc in ap (λ z. z ∷ xs) is
left_some (x ∷ xs) (suc i) e h = let next : suc (i + 1) ≡ suc i + 1 = omega arith in left_some xs i e h ∙ ap (λ n. e ∷ drop n (x ∷ xs)) next

left_none : (xs : List Event) (i : ℕ) → slice_get xs i ≡ None → drop i xs ≡ []
left_none [] i h = drop-nil i
left_none (x ∷ xs) zero h = absurd (cc)
left_none (x ∷ xs) (suc i) h = left_none xs i h

module _ (hand u : Beset) (c : Event × Reply) (told : TurnThen hand c.0 c.1 u) where
  left_by : (x : Option Event) → next_event hand ≡ x → events_left u ≡ drop (passed x hand.made) hand.events.items
  left_by x is = ap (λ n. drop n u.events.items) told.past ∙ ap (λ es. drop (passed (next_event hand) hand.made) es.items) told.list ∙ ap (λ y. drop (passed y hand.made) hand.events.items) is

  call_by : (x : Option Event) → next_event hand ≡ x → Made (after_turn (core_state hand.core) x) c.0 c.1 (core_state u.core)
  call_by x is = subst (λ y. Made (after_turn (core_state hand.core) y) c.0 c.1 (core_state u.core)) is told.call

  then_acts : (calls : List (Event × Reply)) (t : State) → ActOut calls (events_left u) (core_state u.core) t → (x : Option Event) → next_event hand ≡ x →
      ActOut (c ∷ calls) (events_left hand) (core_state hand.core) t
  then_acts calls t rest None is =
      subst (λ l. ActOut (c ∷ calls) l (core_state hand.core) t) (sym (left_none hand.events.items hand.made is))
      (core_state u.core, call_by None is, subst (λ l. ActOut calls l (core_state u.core) t) (left_by None is ∙ left_none hand.events.items hand.made is) rest)
  then_acts calls t rest (Some e) is =
      let s = core_state hand.core in
      subst (λ l. ActOut (c ∷ calls) l s t) (sym (left_some hand.events.items hand.made e is))
      (after_turn s (Some e), takes_turn s e hand.core.law, (core_state u.core, call_by (Some e) is, subst (λ l. ActOut calls l (core_state u.core) t) (left_by (Some e) is) rest))

  then_left : (n : ℕ) (l : List Event) → l ≡ drop n (events_left u) → (x : Option Event) → next_event hand ≡ x → l ≡ drop (suc n) (events_left hand)
  then_left n l rest None is =
      let none = left_none hand.events.items hand.made is in
      rest ∙ ap (drop n) (left_by None is ∙ none) ∙ drop-nil n ∙ sym (ap (drop (suc n)) none)
  then_left n l rest (Some e) is = rest ∙ ap (drop n) (left_by (Some e) is) ∙ sym (ap (drop (suc n)) (left_some hand.events.items hand.made e is))

pub acts_out : (calls : List (Event × Reply)) (hand later : Beset) → Runs TurnThen hand calls later → ActOut calls (events_left hand) (core_state hand.core) (core_state later.core)
acts_out [] hand later same = ap (λ (h : Beset). core_state h.core) (sym same)
acts_out (c ∷ calls) hand later runs = then_acts hand runs.0 c runs.1 calls (core_state later.core) (acts_out calls runs.0 later runs.2) (next_event hand) refl

pub goes_on : (calls : List (Event × Reply)) (hand later : Beset) → Runs TurnThen hand calls later → events_left later ≡ drop (length calls) (events_left hand)
goes_on [] hand later same = ap events_left (sym same)
goes_on (c ∷ calls) hand later runs = then_left hand runs.0 c runs.1 (length calls) (events_left later) (goes_on calls runs.0 later runs.2) (next_event hand) refl
