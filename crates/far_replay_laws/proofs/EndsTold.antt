-- An output begins as its text ends; and what it is, or what stands before its replies.
use Rattle.std.proofs.Common.{◌≡◌, ℕ, suc, Bool, true, false, sym, ap, refl, subst, ◌∙◌, List, [], ◌∷◌, ◌++◌, length, Option, Some, None, inl, inr, Ok, Err, Result}
use Rattle.std.specs.Prelude.{◌⊎◌, codes, decimal, if◌then◌else◌}
use Rattle.std.specs.Bool.{MatchBool}
use Rattle.std.specs.Fmt.{digits}
use Rattle.std.specs.List.{flat_map}
use Rattle.std.proofs.lemmas.Bool.{MatchBool-at_false, MatchBool-at_true}
use Rattle.far_word.specs.declared.refused.Refused.TheVariants.{Shape, Syntax}
use Rattle.far_events.specs.state.Shape.{is_shape}
use Rattle.far_text.specs.Command.{Command, Device, Trace, Nothing, Heap}
use Rattle.far_text.specs.Grammar.{trace_of}
use Rattle.far_replay.specs.Answers.{AnsweredBy, ByDevice, opened, flaws, is_true, lie_of, Outside, IsOutput, end_of, first_moment, shape_of}
use Rattle.far_replay.specs.Moment.{Moment}
use Rattle.far_reply.specs.Reply.{Reply, Done, Refused, detail, reply_text}
use Rattle.far_replay.specs.declared.running.End.{End}
use Rattle.far_replay.specs.declared.running.End.TheVariants.{Ran, Refused as Turned}
use Rattle.far_replay_laws.specs.Ends.{BeginsWith, EndsAreSaid, EndsAreTold, IsInRange, said}
use Rattle.far_replay_laws.proofs.TakingRoom.{shapes_are}

abbrev IsRan : End → Type 0
IsRan Ran = Unit {0}
IsRan Turned = ⊥

abbrev Told : End → List ℕ → Type 0
Told end output = (end ≡ Turned → BeginsWith (codes "refused ") output) × (end ≡ Ran → (output ≡ []) ⊎ BeginsWith (codes "ok\n") output)

heap_told : (logs mutators epoch : ℕ) (device : Option Device) (cs : List Command) (output : List ℕ) (b : Bool) →
    MatchBool b ((os : List Outside) × (rs : List Reply) × (moments : List Moment) × ByDevice (lie_of device) (flaws device) os (first_moment logs mutators epoch (is_true device)) cs moments × AnsweredBy os (first_moment logs mutators epoch (is_true device)) cs rs moments × (output ≡ flat_map reply_text (opened device ++ rs))) (output ≡ reply_text (Refused Shape)) →
    Told (if b then Ran else Turned) output
heap_told logs mutators epoch None cs output true h = (λ e. absurd (subst IsRan e tt), λ _. inr (flat_map reply_text h.1, h.5))
heap_told logs mutators epoch (Some device) cs output true h = (λ e. absurd (subst IsRan e tt), λ _. inr (flat_map reply_text (Done ∷ h.1), h.5))
heap_told logs mutators epoch device cs output false h = (λ _. (_, h), λ e. absurd (subst IsRan (sym e) tt))

read_told : (read : Result Trace ℕ) (output : List ℕ) → IsOutput read output → Told (end_of read) output
read_told (Err line) output is = (λ _. (_, is), λ e. absurd (subst IsRan (sym e) tt))
read_told (Ok Nothing) output is = let ran : end_of (Ok Nothing) ≡ Ran = refl in (λ e. absurd (subst IsRan (sym ran ∙ e) tt), λ _. inl is)
read_told (Ok (Heap logs mutators epoch device cs)) output is = heap_told logs mutators epoch device cs output (is_shape (shape_of logs mutators epoch)) is

pub ends_told : EndsAreTold
ends_told text output is = read_told (trace_of text) output is

-- ---- and what it is
sixteen : decimal 16 ≡ codes "16"
unfolding digits
sixteen = refl

syntax_said : (line : ℕ) → reply_text (Refused (Syntax line)) ≡ codes "refused 16 " ++ decimal line ++ codes "\n"
syntax_said line = ap (λ (number : List ℕ). codes "refused " ++ number ++ detail (Syntax line) ++ codes "\n") sixteen

shape_said : reply_text (Refused Shape) ≡ codes "refused 15\n"
unfolding digits
shape_said = refl

-- numbers that no heap may have are found so
beyond : (logs mutators epoch : ℕ) (b : Bool) → is_shape (shape_of logs mutators epoch) ≡ b → ¬ IsInRange logs mutators epoch → b ≡ false
beyond logs mutators epoch true fits out = absurd (out ((shapes_are logs mutators epoch).0 fits))
beyond logs mutators epoch false fits out = refl

-- one reply for each command, behind what is said of the heap
as_many : (os : List Outside) (now : Moment) (cs : List Command) (rs : List Reply) (moments : List Moment) → AnsweredBy os now cs rs moments → length rs ≡ length cs
as_many [] now [] [] [] h = refl
as_many (o ∷ os) now (c ∷ cs) (r ∷ rs) (m ∷ moments) h = ap suc (as_many os m cs rs moments h.1)
as_many _ now _ _ _ h = absurd h

said_first : (device : Option Device) (rs : List Reply) → flat_map reply_text (opened device ++ rs) ≡ said device ++ flat_map reply_text rs
said_first None rs = refl
said_first (Some device) rs = refl

pub ends_said : EndsAreSaid
ends_said text output answers = (
  (λ line e. let told : output ≡ reply_text (Refused (Syntax line)) = read_as (Err line) e in told ∙ syntax_said line),
  (λ e. read_as (Ok Nothing) e),
  (λ logs mutators epoch device cs e. (
    (λ out.
        let none : is_shape (shape_of logs mutators epoch) ≡ false = beyond logs mutators epoch (is_shape (shape_of logs mutators epoch)) refl out in
        let told : output ≡ reply_text (Refused Shape) = MatchBool-at_false _ _ none (read_as (Ok (Heap logs mutators epoch device cs)) e) in
        told ∙ shape_said),
    (λ within.
        let (os, rs, moments, by, made, printed) = MatchBool-at_true _ _ ((shapes_are logs mutators epoch).1 within) (read_as (Ok (Heap logs mutators epoch device cs)) e) in
        (rs, as_many os (first_moment logs mutators epoch (is_true device)) cs rs moments made, printed ∙ said_first device rs)),
  )),
) where
  read_as : (read : Result Trace ℕ) → trace_of text ≡ read → IsOutput read output
  read_as read e = subst (λ (x : Result Trace ℕ). IsOutput x output) e answers
