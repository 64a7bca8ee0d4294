-- The device refuses what is far, which stays so, and has room to come to.
use Rattle.std.proofs.Common.{◌≡◌, ℕ, Bool, true, false, not, nat_lt, is_some, refl, sym, ap, ◌∙◌, subst, Option, Some, None, List, [], ◌∷◌, length}
use Rattle.std.specs.Prelude.{◌&&◌}
use Rattle.std.specs.List.{find, range_with_len}
use Rattle.std.proofs.lemmas.Bool.{and_parts, cond_both, false≢true, not-false}
use Rattle.far_word.specs.declared.mark.Marks.{Marks}
use Rattle.far_word.specs.declared.pointer.PtrWord.{PtrWord}
use Rattle.far_word.specs.declared.pointer.PtrWord.TheVariants.{Near, Far}
use Rattle.far_word.specs.declared.refused.Refused.{Refused as Refusal}
use Rattle.far_word.specs.declared.refused.Refused.TheVariants.{Damaged, Device, Marked, Memory}
use Rattle.far_word.specs.Pointer.{read_of}
use Rattle.far_word.specs.Sizes.{size_of}
use Rattle.far_events.specs.events.Step.{after_pin, is_opened}
use Rattle.far_events.specs.state.Law.{Law}
use Rattle.far_core.specs.state.Room.{room}
use Rattle.far_events.specs.state.State.{State}
use Rattle.far_events.proofs.Bounds.{some_of}
use Rattle.far_evac.specs.declared.answers.Polled.{Polled}
use Rattle.far_evac.specs.declared.answers.Polled.TheVariants as polls
use Rattle.far_evac.specs.Waiting.{polled}
use Rattle.far_policy.specs.Scripted.{is_bad, judged}
use Rattle.far_text.specs.Command.{Command, On, Writes, Log, Mutator, Book, Evacuator, Step, By, Script, Select, Wait, Round}
use Rattle.far_replay.specs.Answers.{IsMoment, Served, Unbrought}
use Rattle.far_replay.specs.Commanded.{LiesFar}
use Rattle.far_alone.specs.Dereference.{comes_to, has_no_room, sought, sought_of}
use Rattle.far_alone.specs.Effects.{is_slow, with_view}
use Rattle.far_replay.specs.Moment.{Moment}
use Rattle.far_alone.specs.Objects.{uses}
use Rattle.far_reply.specs.Reply.{Reply, Refused}
use Rattle.far_replay.specs.Events.{IsNoStep}
use Rattle.far_replay.specs.Rounds.{choice_causes, rows_in, step_causes, wait_causes}
use Rattle.far_replay.specs.Turn.{causes}
use Rattle.far_replay.proofs.Dereferences.{sought_word}
use Rattle.far_replay.proofs.Lasting.{moment_lasts}
use Rattle.far_replay.proofs.Outcomes.{by_outcome}
use Rattle.far_replay.proofs.TakingView.{asked_word, comes_place, place_by}
use Rattle.far_replay.proofs.Ways.{marked_last, may_reach}
use Rattle.far_replay_laws.specs.FromOutside.{ComesSomewhere, DeviceRefusesFar, HasRoomFor, IsFarFor}
use Rattle.far_replay_laws.specs.LeftMarks.{GainsHot}
use Rattle.far_replay_laws.proofs.LeavingMarks.{served_leaves}
use Rattle.far_replay_laws.proofs.Refusals.{cause_of, not_halted, EachFirst, IsFromOutside, among, keeps_outside}

-- ---- a command that is served is never refused so
abbrev NeverFar : Refusal → Type 0
NeverFar why = ¬ IsFromOutside why

wait_never : (o : Polled) → EachFirst NeverFar (wait_causes o)
wait_never polls.Clear = tt
wait_never (polls.StillOpen mutator epoch) = ((λ _ k. k), λ _. tt)

judged_never : (logs : List ℕ) (o : Option ℕ) → EachFirst NeverFar (choice_causes (judged logs o))
judged_never logs None = tt
judged_never logs (Some log) = ((λ _ k. k), λ _. tt)

step_never : (now : Moment) (step : Step) → EachFirst NeverFar (step_causes now step)
step_never now (Select (By policy) most) = ((λ _ k. k), λ _. ((λ _ k. k), λ _. tt))
step_never now (Select (Script logs) most) = ((λ _ k. k), λ _. ((λ _ k. k), λ _. judged_never logs (find (is_bad (rows_in now) most logs) (range_with_len 0 (length logs)))))
step_never now Wait = ((λ _ k. k), λ _. wait_never (polled now.core))
step_never now (Round policy most turns) = ((λ _ k. k), λ _. ((λ _ k. k), λ _. tt))
step_never now _ = ((λ _ k. k), λ _. tt)

-- a refusal that isn't from outside
abbrev is_inside : Refusal → Bool
is_inside Device = false
is_inside Damaged = false
is_inside Memory = false
is_inside why = true

inside_never : (why : Refusal) → is_inside why ≡ true → NeverFar why
inside_never Device e = absurd (false≢true e)
inside_never Damaged e = absurd (false≢true e)
inside_never Memory e = absurd (false≢true e)
inside_never why e = λ k. k

abbrev all_inside : List (Bool × Refusal) → Bool
all_inside [] = true
all_inside (cause ∷ others) = is_inside cause.1 && all_inside others

inside_first : (cs : List (Bool × Refusal)) → all_inside cs ≡ true → EachFirst NeverFar cs
inside_first [] e = tt
inside_first (c ∷ cs) e = let both = and_parts (is_inside c.1) (all_inside cs) e in ((λ _. inside_never c.1 both.0), (λ _. inside_first cs both.1))

told_inside : (now : Moment) (c : Command) → IsNoStep c → all_inside (causes now c) ≡ true
told_inside now (Mutator m (On p (Writes from bytes))) told = refl
told_inside now (Book (Log l)) told = refl
told_inside now (Evacuator step) told = absurd told
told_inside now c told = refl

command_never : (now : Moment) (c : Command) → EachFirst NeverFar (causes now c)
command_never now (Mutator m request) = inside_first (causes now (Mutator m request)) (told_inside now (Mutator m request) tt)
command_never now (Book inquiry) = inside_first (causes now (Book inquiry)) (told_inside now (Book inquiry) tt)
command_never now (Evacuator step) = step_never now step

pub served_never : (now : Moment) (c : Command) (r : Reply) (next : Moment) (why : Refusal) → Served now c r next → r ≡ Refused why → ¬ IsFromOutside why
served_never now c r next why h e = among NeverFar (causes now c) why (command_never now c) (cause_of now c r next why h e)

-- ---- and what is far stays so, with HOT
still_far : (o n : Option PtrWord) (len ds : ℕ) (marks : Marks) → o ≡ Some (Far len ds marks) → GainsHot o n → (k d : ℕ) × (m : Marks) × (n ≡ Some (Far k d m))
still_far o n len ds marks is gains = (len, ds, _, subst (λ x. GainsHot x n) is gains)

-- ---- and there is room for it
-- a pin, and the asking, leave room where it was
pinned_room : (s : State) (p n : ℕ) (reserve : Bool) → room (with_view s p) n reserve ≡ room s n reserve
pinned_room s p n reserve = cond_both (is_some (s.held p)) s (after_pin s p) (λ (t : State). room t n reserve ≡ room s n reserve) (λ _. refl) (λ _. refl)

asked_room : (s : State) (m p n : ℕ) (reserve : Bool) (o : Option PtrWord) → room (sought_of s m p o) n reserve ≡ room s n reserve
asked_room s m p n reserve (Some (Near len ds place marks)) = refl
asked_room s m p n reserve _ = refl

sought_room : (s : State) (m p n : ℕ) (reserve : Bool) → room (sought s m p) n reserve ≡ room s n reserve
sought_room s m p n reserve = asked_room (with_view s p) m p n reserve (read_of ((with_view s p).cell p)) ∙ pinned_room s p n reserve

comes_somewhere : (s : State) (m p : ℕ) → Law s → is_opened s m ≡ true → uses s m p ≡ true → is_slow s p ≡ true → has_no_room s m p ≡ false → ComesSomewhere s p
comes_somewhere s m p law opened ours slow some len ds marks far =
    let t : State = sought s m p in
    let full : not (is_some (comes_to t p)) ≡ false = ap (λ (b : Bool). b && not (is_some (comes_to t p))) (sym slow) ∙ some in
    let at = some_of (comes_to t p) (not-false (is_some (comes_to t p)) full) in
    let there : comes_to t p ≡ room t (size_of len) true =
    comes_place t p (asked_word (read_of (s.cell p))) (sought_word s m p law opened ours slow) ∙ ap (λ (o : Option PtrWord). place_by t (asked_word o)) far in
    (at.0, sym (sought_room s m p (size_of len) true) ∙ sym there ∙ at.1)

-- a pin of it gave no view, and want of room was no cause
far_both : (why : Refusal) (now : Moment) (c : Command) (m p : ℕ) (r : Reply) (next : Moment) → IsMoment now → Unbrought why now c m p r next → has_no_room now.core m p ≡ false →
    LiesFar now.core p × LiesFar next.core p × ComesSomewhere now.core p
far_both why now c m p r next is h some =
    let s : State = now.core in
    let left = served_leaves now _ _ next is h.tried in
    let found = marked_last (nat_lt m s.mutators) (is_opened s m) (uses s m p) (is_slow s p) (s.cell p) (s.cell p)
    (cause_of now _ _ next (Marked (s.cell p)) h.tried refl) in
    let (len, ds, marks, far) = h.far in (
      h.far,
      still_far (read_of (s.cell p)) (read_of (next.core.cell p)) len ds marks far left.1,
      comes_somewhere s m p (moment_lasts now is).law found.1 found.2 found.3 some,
    )

pub device_refuses_far : DeviceRefusesFar
device_refuses_far now c r next why is h e keeps = by_outcome now r next (λ d. IsFarFor now.core d × IsFarFor next.core d × HasRoomFor now.core d)
    (λ d h. absurd (served_never now d r next why h e (keeps_outside why keeps)))
    (λ cause m p how h. far_both cause now (Mutator m (On p how)) m p r next is h (may_reach now m p how h.allowed).2)
    (λ cause objects count h. absurd (not_halted why cause h.progress r h.reply e))
    (λ cause turns objects policy most count h. absurd (not_halted why cause _ r h.reply e))
    (λ row m p d asks h. absurd (h.answered why e))
    c h
