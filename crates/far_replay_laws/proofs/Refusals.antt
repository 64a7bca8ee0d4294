-- Which refusals a command may have.
use Rattle.std.proofs.Common.{◌≢◌, ◌≡◌, ℕ, ◌/◌, Bool, true, false, not, nat_eq, sym, ap, ◌∙◌, subst, Option, Some, None, List, [], ◌∷◌, length}
use Rattle.std.proofs.lemmas.Bool.{and_parts, cond_both, not-false, true≢false}
use Rattle.std.specs.List.{find, range_with_len, AllByRecursion as Each}
use Rattle.far_word.specs.declared.refused.Refused.{Refused as Refusal}
use Rattle.far_word.specs.declared.sizes.TheConstants.{CELLS}
use Rattle.far_events.proofs.Cells.{unused}
use Rattle.far_core.proofs.KeepOwner.{nonzero}
use Rattle.far_events.specs.state.Law.{Law}
use Rattle.far_events.specs.state.State.{State}
use Rattle.far_word.specs.Pointer.{read_of}
use Rattle.far_word.specs.declared.pointer.PtrWord.TheVariants.{Free, Near, Far}
use Rattle.far_evac.specs.declared.answers.Progress.{Progress}
use Rattle.far_book.specs.book.Home.{home_of}
use Rattle.far_book.specs.declared.home.Home.{Home}
use Rattle.far_replay.specs.Moment.{Moment}
use Rattle.far_word.specs.declared.refused.Refused.TheVariants.{Damaged, Device, Memory}
use Rattle.far_replay.specs.Answers.{Commanded, Served}
use Rattle.far_replay.specs.Commanded.{KeepsFar, LiesFar}
use Rattle.far_replay.proofs.Outcomes.{by_outcome}
use Rattle.far_text.specs.Command.{Command, New, On, Reads, Views, Where, Drop, Try, Logs, Log, Audit, Mutator, Book, Evacuator, Step, By, Script, Select, Wait, Round}
use Rattle.far_replay_laws.specs.Headline.{IsAtHandFor, MayRefuse}
use Rattle.far_reply.specs.Reply.{Reply, Refused, Halted}
use Rattle.far_alone.specs.Dereference.{has_no_room}
use Rattle.far_alone.specs.Effects.{is_slow}
use Rattle.far_alone.specs.EventRows.{AtHand}
use Rattle.far_alone.specs.Objects.{uses, lowest_cell}
use Rattle.far_evac.specs.declared.answers.Polled.{Polled}
use Rattle.far_evac.specs.declared.answers.Polled.TheVariants as polls
use Rattle.far_policy.specs.Scripted.{is_bad, judged}
use Rattle.far_evac.specs.Waiting.{polled}
use Rattle.far_replay.specs.Rounds.{choice_causes, rows_in, step_causes, wait_causes}
use Rattle.far_replay.specs.Turn.{causes, first_cause, refusal, unless, turn_reply, pointer_reply, home_reply}
use Rattle.far_alone.proofs.Views.{hand_has_room, hand_is_fast}

-- P holds of the refusal of each cause
abbrev pub EachCause : (Refusal → Type 0) → List (Bool × Refusal) → Type 0
EachCause P = Each (λ (c : Bool × Refusal). P c.1)

-- so it does of each that holds where none before it does
abbrev pub EachFirst : (Refusal → Type 0) → List (Bool × Refusal) → Type 0
EachFirst P [] = Unit {0}
EachFirst P (c ∷ cs) = (c.0 ≡ true → P c.1) × (c.0 ≡ false → EachFirst P cs)

pub each_first : (P : Refusal → Type 0) (cs : List (Bool × Refusal)) → EachCause P cs → EachFirst P cs
each_first P [] h = tt
each_first P (c ∷ cs) h = ((λ _. h.0), (λ _. each_first P cs h.1))

-- the first cause that holds is one of the causes
pub among : (P : Refusal → Type 0) (cs : List (Bool × Refusal)) (why : Refusal) → EachFirst P cs → first_cause cs ≡ Some why → P why
among P [] why h = λ e. absurd cc
among P (c ∷ cs) why h = cond_both c.0 (Some c.1) (first_cause cs) (λ (x : Option Refusal). x ≡ Some why → P why)
    (λ holds e. let same : c.1 ≡ why = cc in subst P same (h.0 holds))
    (λ no e. among P cs why (h.1 no) e)

-- what is so where the device failed, and where it gave another number of bytes, is so of each refusal that leaves an object far
pub of_far : (P : Refusal → Type 0) (why : Refusal) → KeepsFar why → P Device → P Damaged → P why
of_far P Device h failed short = failed
of_far P Damaged h failed short = short
of_far P why h failed short = absurd h

-- what only the outside refuses: that, and memory
abbrev pub IsFromOutside : Refusal → Type 0
IsFromOutside Memory = Unit {0}
IsFromOutside why = KeepsFar why

pub keeps_outside : (why : Refusal) → KeepsFar why → IsFromOutside why
keeps_outside why h = of_far IsFromOutside why h tt tt

-- an object at hand needs no mark taken away before it is viewed
fast_at : (s : State) (m p : ℕ) → Law s → (s.cell p ≢ 0 → AtHand s p) → not (uses s m p) ≡ false → is_slow s p ≡ false
fast_at s m p law hand used = hand_is_fast s p (hand (nonzero s law p (and_parts (nat_eq (p / CELLS) m) (s.used p) (not-false (uses s m p) used)).1))

room_at : (s : State) (m p : ℕ) → Law s → (s.cell p ≢ 0 → AtHand s p) → not (uses s m p) ≡ false → has_no_room s m p ≡ false
room_at s m p law hand used = hand_has_room s m p (hand (nonzero s law p (and_parts (nat_eq (p / CELLS) m) (s.used p) (not-false (uses s m p) used)).1))

-- so it is of the evacuator's
polled_listed : (o : Polled) → EachFirst (MayRefuse (Evacuator Wait)) (wait_causes o)
polled_listed polls.Clear = tt
polled_listed (polls.StillOpen mutator epoch) = ((λ _. tt), λ _. tt)

judged_listed : (logs : List ℕ) (most : ℕ) (o : Option ℕ) → EachFirst (MayRefuse (Evacuator (Select (Script logs) most))) (choice_causes (judged logs o))
judged_listed logs most None = tt
judged_listed logs most (Some k) = ((λ _. tt), λ _. tt)

step_listed : (now : Moment) (step : Step) → EachFirst (MayRefuse (Evacuator step)) (step_causes now step)
step_listed now (Select (By policy) most) = ((λ _. tt), λ _. ((λ _. tt), λ _. tt))
step_listed now (Select (Script logs) most) =
    ((λ _. tt), λ _. ((λ _. tt), λ _. judged_listed logs most (find (is_bad (rows_in now) most logs) (range_with_len 0 (length logs)))))
step_listed now Wait = ((λ _. tt), λ _. polled_listed (polled now.core))
step_listed now (Round policy most turns) = ((λ _. tt), λ _. ((λ _. tt), λ _. tt))
step_listed now _ = ((λ _. tt), λ _. tt)

-- the causes of each command are those that it may be refused for, where its object is at hand
causes_listed : (now : Moment) (c : Command) → Law now.core → IsAtHandFor now c → EachFirst (MayRefuse c) (causes now c)
causes_listed now (Mutator m (New len ds)) law hand = ((λ _. tt), λ _. ((λ _. tt), λ _. ((λ _. tt), λ _. ((λ _. tt), λ _. tt))))
causes_listed now (Mutator m (On p Views)) law hand = ((λ _. tt), λ _. ((λ _. tt), λ _. ((λ _. tt), λ used. ((λ full. absurd (true≢false (sym full ∙ room_at now.core m p law hand used))), λ _. tt))))
causes_listed now (Mutator m (On p how)) law hand = ((λ _. tt), λ _. ((λ _. tt), λ _. ((λ _. tt), λ used. ((λ _. tt), λ _. ((λ full. absurd (true≢false (sym full ∙ room_at now.core m p law hand used))), λ _. tt)))))
causes_listed now (Mutator m (Drop p)) law hand = ((λ _. tt), λ _. ((λ _. tt), λ _. ((λ _. tt), λ _. tt)))
causes_listed now (Mutator m (Try p)) law hand = ((λ _. tt), λ _. ((λ _. tt), λ _. ((λ _. tt), λ used. ((λ slow. absurd (true≢false (sym slow ∙ fast_at now.core m p law hand used))), λ _. tt))))
causes_listed now (Book Logs) law hand = tt
causes_listed now (Book (Log l)) law hand = ((λ _. tt), λ _. tt)
causes_listed now (Book Audit) law hand = tt
causes_listed now (Evacuator step) law hand = step_listed now step
causes_listed now _ law hand = ((λ _. tt), λ _. ((λ _. tt), λ _. tt))

-- what isn't refused is no refusal
pointer_is_no_refusal : (o : Option ℕ) (why : Refusal) → pointer_reply o ≢ Refused why
pointer_is_no_refusal None why e = cc
pointer_is_no_refusal (Some p) why e = cc

home_is_no_refusal : (o : Option Home) (why : Refusal) → home_reply o ≢ Refused why
home_is_no_refusal None why e = cc
home_is_no_refusal (Some home) why e = cc

pub turn_is_no_refusal : (now : Moment) (c : Command) (why : Refusal) → turn_reply now c ≢ Refused why
turn_is_no_refusal now (Mutator m (New len ds)) why e = pointer_is_no_refusal (lowest_cell now.core m) why e
turn_is_no_refusal now (Mutator m (Where p)) why e = home_is_no_refusal (home_of (read_of (now.core.cell p))) why e
turn_is_no_refusal now (Mutator m (On p (Reads from len))) why e = cc
turn_is_no_refusal now (Book Logs) why e = cc
turn_is_no_refusal now (Evacuator (Select choice most)) why e = cc
turn_is_no_refusal now _ why e = cc

pub from_cause : (o : Option Refusal) (r : Reply) (why : Refusal) → (r ≢ Refused why) → unless o Refused r ≡ Refused why → o ≡ Some why
from_cause None r why none e = absurd (none e)
from_cause (Some cause) r why none e = let same : cause ≡ why = cc in ap Some same

-- why a command that was served is refused
pub cause_of : (now : Moment) (c : Command) (r : Reply) (next : Moment) (why : Refusal) → Served now c r next → r ≡ Refused why → refusal now c ≡ Some why
cause_of now c r next why h e = from_cause (refusal now c) (turn_reply now c) why (turn_is_no_refusal now c why) (sym h.reply ∙ e)

served_near : (now : Moment) (c : Command) (r : Reply) (next : Moment) (why : Refusal) → Law now.core → IsAtHandFor now c → Served now c r next → r ≡ Refused why → MayRefuse c why
served_near now c r next why law hand h e =
    among (MayRefuse c) (causes now c) why (causes_listed now c law hand) (cause_of now c r next why h e)

-- what is far isn't at hand
far_named : (s : State) (p : ℕ) → LiesFar s p → s.cell p ≢ 0
far_named s p far none = let free : Some Free ≡ Some (Far far.0 far.1 far.2) = sym unused ∙ sym (ap read_of none) ∙ far.3 in cc

pub far_away : (s : State) (p : ℕ) → LiesFar s p → ¬ (s.cell p ≢ 0 → AtHand s p)
far_away s p far hand = let at = hand (far_named s p far) in let odd : Some (Near at.len at.ds at.place at.marks) ≡ Some (Far far.0 far.1 far.2) = sym at.near ∙ far.3 in cc

pub not_halted : (why cause : Refusal) (progress : Progress) (r : Reply) → r ≡ Halted cause progress → r ≢ Refused why
not_halted why cause progress r h e = let odd : Halted cause progress ≡ Refused why = sym h ∙ e in cc

pub near_refusals : (now : Moment) (c : Command) (r : Reply) (next : Moment) (why : Refusal) → Law now.core → IsAtHandFor now c → Commanded now c r next → r ≡ Refused why → MayRefuse c why
near_refusals now c r next why law hand h e = by_outcome now r next (λ d. IsAtHandFor now d → MayRefuse d why)
    (λ d h hand. served_near now d r next why law hand h e)
    (λ cause m p how h hand. absurd (far_away now.core p h.far hand))
    (λ cause objects count h hand. absurd (not_halted why cause h.progress r h.reply e))
    (λ cause turns objects policy most count h hand. absurd (not_halted why cause _ r h.reply e))
    (λ row m p d asks h hand. absurd (h.answered why e))
    c h hand
