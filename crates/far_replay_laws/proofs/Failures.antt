-- The device fails no more often than it is said to, and gives other bytes only where it is said to lie.
use Rattle.std.proofs.Common.{◌≡◌, ◌≢◌, ℕ, zero, suc, ◌≤◌, Bool, true, false, List, [], ◌∷◌, ◌++◌, Option, Some, None, Result, refl, sym, ap, subst, ◌∙◌, arith, inl, inr}
use Rattle.std.specs.Prelude.{◌⊎◌}
use Rattle.std.specs.Bool.{MatchBool}
use Rattle.std.specs.List.{flat_map}
use Rattle.far_word.specs.declared.refused.Refused.{Refused as Refusal}
use Rattle.far_word.specs.declared.refused.Refused.TheVariants.{Damaged, Device as Failed, Memory, Shape}
use Rattle.far_events.specs.state.Shape.{is_shape}
use Rattle.far_book.specs.declared.home.Home.{Home}
use Rattle.far_word.specs.Pointer.{read_of}
use Rattle.far_book.specs.book.Home.{home_of}
use Rattle.far_device.specs.declared.liar.Lie.{Lie}
use Rattle.far_device.specs.declared.liar.Lie.TheVariants.{Never, Short as Shortens, Flip as Inverts}
use Rattle.far_evac.specs.declared.answers.Progress.{Progress}
use Rattle.far_text.specs.Command.{Command, Device, Flawed, Fail, Short, Flip, Trace, New, On, Reads, Where, Logs, Mutator, Book, Evacuator, Select}
use Rattle.far_replay.specs.Answers.{AnsweredBy, ByDevice, FlawedAtMost, IsOutput, Outside, Serves, Refuses, Gives, Lacks, Served, Stopped, MisledBy, first_moment, flaws, is_true, lie_of, opened, shape_of}
use Rattle.far_replay.specs.Moment.{Moment, as_if_stored}
use Rattle.far_alone.specs.Objects.{lowest_cell}
use Rattle.far_reply.specs.Reply.{Reply, Refused, Halted, reply_text}
use Rattle.far_replay.specs.Turn.{home_reply, pointer_reply, refusal, turn_reply, unless}
use Rattle.far_text.specs.Written.{AllWriteBytes}
use Rattle.far_text.proofs.TextLaws.{texts_write}
use Rattle.std.proofs.lemmas.Bool.{true≢false}
use Rattle.far_replay.specs.Commanded.{CommandedBy}
use Rattle.far_replay.proofs.Lasting.{Lasts, first_lasts, still_lasts}
use Rattle.far_replay_laws.proofs.AloneLaw.{next_honest}
use Rattle.far_replay.proofs.Outcomes.{by_lie, by_stop}
use Rattle.far_replay_laws.specs.FromOutside.{FailsAsSaid, FlawsAreSaid, damages, failures, lies, one_if, says_damaged, says_failed, says_lacking}
use Rattle.far_replay_laws.proofs.FarRefusals.{served_never}
use Rattle.far_replay_laws.proofs.Refusals.{IsFromOutside}
use Rattle.far_replay_laws.proofs.LyingOnce.{lies_few, lies_once}

-- ---- a reply that says none of it
abbrev pub Silent : Reply → Type 0
Silent r = (says_failed r ≡ false) × (says_damaged r ≡ false) × (says_lacking r ≡ false)

-- ---- a command that is served
pointer_unhalted : (o : Option ℕ) (why : Refusal) (progress : Progress) → pointer_reply o ≢ Halted why progress
pointer_unhalted None why progress e = cc
pointer_unhalted (Some p) why progress e = cc

home_unhalted : (o : Option Home) (why : Refusal) (progress : Progress) → home_reply o ≢ Halted why progress
home_unhalted None why progress e = cc
home_unhalted (Some home) why progress e = cc

turn_unhalted : (now : Moment) (c : Command) (why : Refusal) (progress : Progress) → turn_reply now c ≢ Halted why progress
turn_unhalted now (Mutator m (New len ds)) why progress e = pointer_unhalted (lowest_cell now.core m) why progress e
turn_unhalted now (Mutator m (Where p)) why progress e = home_unhalted (home_of (read_of (now.core.cell p))) why progress e
turn_unhalted now (Mutator m (On p (Reads from len))) why progress e = cc
turn_unhalted now (Book Logs) why progress e = cc
turn_unhalted now (Evacuator (Select choice most)) why progress e = cc
turn_unhalted now _ why progress e = cc

unless_unhalted : (o : Option Refusal) (r : Reply) (why : Refusal) (progress : Progress) → r ≢ Halted why progress → unless o Refused r ≢ Halted why progress
unless_unhalted None r why progress other e = other e
unless_unhalted (Some cause) r why progress other e = cc

refused_silent : (why : Refusal) → ¬ IsFromOutside why → Silent (Refused why)
refused_silent Failed other = absurd (other tt)
refused_silent Damaged other = absurd (other tt)
refused_silent Memory other = absurd (other tt)
refused_silent why other = (refl, refl, refl)

silent_of : (r : Reply) → ((why : Refusal) → r ≡ Refused why → ¬ IsFromOutside why) → ((why : Refusal) (progress : Progress) → r ≢ Halted why progress) → Silent r
silent_of (Refused why) refused halted = refused_silent why (refused why refl)
silent_of (Halted why progress) refused halted = absurd (halted why progress refl)
silent_of _ refused halted = (refl, refl, refl)

pub served_unhalted : (now : Moment) (c : Command) (r : Reply) (next : Moment) (why : Refusal) (progress : Progress) → Served now c r next → r ≢ Halted why progress
served_unhalted now c r next why progress h e = unless_unhalted (refusal now c) (turn_reply now c) why progress (turn_unhalted now c why progress) (sym h.reply ∙ e)

pub served_silent : (now : Moment) (c : Command) (r : Reply) (next : Moment) → Served now c r next → Silent r
served_silent now c r next h = silent_of r (λ why e. served_never now c r next why h e) (λ why progress e. served_unhalted now c r next why progress h e)

-- ---- one that is given other words
given_silent : (row : ℕ → ℕ) (now : Moment) (c : Command) (r : Reply) (next : Moment) → MisledBy row now c r next → Silent r
given_silent row now c r next h = by_lie row now r next (λ d. Silent r) (λ m p d asks k. served_silent (as_if_stored now p row) d r (as_if_stored next p row) k.served) c h

-- ---- one that is refused in its midst
abbrev pub Says : Refusal → Reply → Type 0
Says why r = (r ≡ Refused why) ⊎ ((progress : Progress) × (r ≡ Halted why progress))

pub stopped_says : (why : Refusal) (turns objects : ℕ) (now : Moment) (c : Command) (r : Reply) (next : Moment) → Stopped why turns objects now c r next → Says why r
stopped_says why turns objects now c r next h = by_stop why turns objects now r next (λ d. Says why r)
    (λ m p how k. inl k.reply)
    (λ count k. inr (k.progress, k.reply)) (λ policy most count k. inr (_, k.reply)) c h

undamaged : (why : Refusal) (r : Reply) → why ≡ Failed → Says why r → says_damaged r ≡ false
undamaged why r failed (inl e) = ap says_damaged (e ∙ ap Refused failed)
undamaged why r failed (inr (progress, e)) = ap says_damaged (e ∙ ap (λ w. Halted w progress) failed)

unfailed : (why : Refusal) (r : Reply) → why ≡ Damaged → Says why r → says_failed r ≡ false
unfailed why r damaged (inl e) = ap says_failed (e ∙ ap Refused damaged)
unfailed why r damaged (inr (progress, e)) = ap says_failed (e ∙ ap (λ w. Halted w progress) damaged)

lacks_neither : (r : Reply) → Says Memory r → (says_failed r ≡ false) × (says_damaged r ≡ false)
lacks_neither r (inl e) = (ap says_failed e, ap says_damaged e)
lacks_neither r (inr (progress, e)) = (ap says_failed e, ap says_damaged e)

pub says_so : (r : Reply) → Says Memory r → says_lacking r ≡ true
says_so r (inl e) = ap says_lacking e
says_so r (inr (progress, e)) = ap says_lacking e

-- ---- commands one after the other
one_less : (b : Bool) → one_if b ≤ 1
one_less true = omega arith
one_less false = omega arith

-- so often each comes, by what the device does
abbrev fails_of : Lie → ℕ → ℕ
fails_of Never n = n
fails_of Shortens n = 0
fails_of Inverts n = 0

abbrev damages_of : Lie → ℕ → ℕ
damages_of Never n = 0
damages_of Shortens n = n
damages_of Inverts n = 0

abbrev AreFew : Lie → ℕ → List Reply → List Outside → Type 0
AreFew lie n rs os = (failures rs ≤ fails_of lie n) × (damages rs ≤ damages_of lie n)

neither_more : (lie : Lie) (n : ℕ) (r : Reply) (rs : List Reply) (os : List Outside) → says_failed r ≡ false → says_damaged r ≡ false → AreFew lie n rs os → AreFew lie n (r ∷ rs) os
neither_more lie n r rs os a b rest =
    let failed : one_if (says_failed r) ≡ 0 = ap one_if a in
    let damaged : one_if (says_damaged r) ≡ 0 = ap one_if b in
    (omega (arith, failed, rest.0), omega (arith, damaged, rest.1))

silent_more : (lie : Lie) (n : ℕ) (r : Reply) (rs : List Reply) (os : List Outside) → Silent r → AreFew lie n rs os → AreFew lie n (r ∷ rs) os
silent_more lie n r rs os none rest = neither_more lie n r rs os none.0 none.1 rest

none_few : (lie : Lie) (n : ℕ) → AreFew lie n [] []
none_few lie n = (omega arith, omega arith)

-- where one more may be inverted
more_few : (n : ℕ) (rs : List Reply) (os : List Outside) → AreFew Inverts n rs os → AreFew Inverts (suc n) rs os
more_few n rs os h = h

few : (lie : Lie) (n : ℕ) (os : List Outside) (now : Moment) (cs : List Command) (rs : List Reply) (ms : List Moment) → FlawedAtMost lie n os → AnsweredBy os now cs rs ms → AreFew lie n rs os
few lie n [] now [] [] [] a h = none_few lie n
few lie n [] now [] [] (m ∷ ms) a h = absurd h
few lie n [] now [] (r ∷ rs) ms a h = absurd h
few lie n [] now (c ∷ cs) rs ms a h = absurd h
few lie n (o ∷ os) now [] rs ms a h = absurd h
few lie n (o ∷ os) now (c ∷ cs) [] ms a h = absurd h
few lie n (o ∷ os) now (c ∷ cs) (r ∷ rs) [] a h = absurd h
few lie n (Serves ∷ os) now (c ∷ cs) (r ∷ rs) (m ∷ ms) a h = silent_more lie n r rs os (served_silent now c r m h.0) (few lie n os m cs rs ms a h.1)
few lie n (Lacks turns objects ∷ os) now (c ∷ cs) (r ∷ rs) (m ∷ ms) a h =
    let rest = few lie n os m cs rs ms a h.1 in
    let none = lacks_neither r (stopped_says Memory turns objects now c r m h.0) in
    neither_more lie n r rs os none.0 none.1 rest
few lie zero (Refuses why turns objects ∷ os) now (c ∷ cs) (r ∷ rs) (m ∷ ms) a h = absurd a
few lie n (Gives row false ∷ os) now (c ∷ cs) (r ∷ rs) (m ∷ ms) a h = silent_more lie n r rs os (given_silent row now c r m h.0) (few lie n os m cs rs ms a h.1)
few lie zero (Gives row true ∷ os) now (c ∷ cs) (r ∷ rs) (m ∷ ms) a h = absurd a
few Inverts (suc n) (Gives row true ∷ os) now (c ∷ cs) (r ∷ rs) (m ∷ ms) a h = silent_more Inverts (suc n) r rs os (given_silent row now c r m h.0) (more_few n rs os (few Inverts n os m cs rs ms a.1 h.1))
few Shortens (suc n) (Gives row true ∷ os) now (c ∷ cs) (r ∷ rs) (m ∷ ms) a h = absurd a.0
few Never (suc n) (Gives row true ∷ os) now (c ∷ cs) (r ∷ rs) (m ∷ ms) a h = absurd a.0
few Never (suc n) (Refuses why turns objects ∷ os) now (c ∷ cs) (r ∷ rs) (m ∷ ms) a h =
    let rest = few Never n os m cs rs ms a.1 h.1 in
    let one = one_less (says_failed r) in
    let none : one_if (says_damaged r) ≡ 0 = ap one_if (undamaged why r a.0 (stopped_says why turns objects now c r m h.0)) in
    (omega (arith, one, rest.0), omega (arith, none, rest.1))
few Shortens (suc n) (Refuses why turns objects ∷ os) now (c ∷ cs) (r ∷ rs) (m ∷ ms) a h =
    let rest = few Shortens n os m cs rs ms a.1 h.1 in
    let one = one_less (says_damaged r) in
    let none : one_if (says_failed r) ≡ 0 = ap one_if (unfailed why r a.0 (stopped_says why turns objects now c r m h.0)) in
    (omega (arith, none, rest.0), omega (arith, one, rest.1))
few Inverts (suc n) (Refuses why turns objects ∷ os) now (c ∷ cs) (r ∷ rs) (m ∷ ms) a h = absurd a.0

-- of an honest device nobody is given other bytes
pub no_lies : (os : List Outside) (now : Moment) (cs : List Command) (rs : List Reply) (ms : List Moment) → Lasts now → AllWriteBytes cs → now.core.honest ≡ true → AnsweredBy os now cs rs ms → lies os ≡ 0
no_lies [] now cs rs ms lasts small honest h = refl
no_lies (o ∷ os) now [] rs ms lasts small honest h = absurd h
no_lies (o ∷ os) now (c ∷ cs) [] ms lasts small honest h = absurd h
no_lies (o ∷ os) now (c ∷ cs) (r ∷ rs) [] lasts small honest h = absurd h
no_lies (o ∷ os) now (c ∷ cs) (r ∷ rs) (m ∷ ms) lasts small honest h =
    let rest : lies os ≡ 0 = no_lies os m cs rs ms (still_lasts now c r m lasts small.0 (o, h.0)) small.1 (next_honest now c r m lasts small.0 (o, h.0) ∙ honest) h.1 in
    by o h.0 rest where
      by : (o : Outside) → CommandedBy o now c r m → lies os ≡ 0 → lies (o ∷ os) ≡ 0
      by Serves k rest = rest
      by (Refuses why turns objects) k rest = rest
      by (Lacks turns objects) k rest = rest
      by (Gives row inverts) k rest = absurd (by_lie row now r m (λ d. ⊥) (λ x p d asks given. true≢false (sym honest ∙ given.lies)) c k)

-- ---- by what the text says of the device
as_said : (device : Option Device) (rs : List Reply) (os : List Outside) → AreFew (lie_of device) (flaws device) rs os → FailsAsSaid device rs
as_said None rs os h = record { failed = h.0; damaged = h.1; once = omega arith }
as_said (Some (Flawed Fail zero)) rs os h = record { failed = h.0; damaged = h.1; once = omega arith }
as_said (Some (Flawed Fail (suc call))) rs os h = record { failed = h.0; damaged = h.1; once = omega arith }
as_said (Some (Flawed Short zero)) rs os h = record { failed = h.0; damaged = h.1; once = omega arith }
as_said (Some (Flawed Short (suc call))) rs os h = record { failed = h.0; damaged = h.1; once = omega arith }
as_said (Some (Flawed Flip zero)) rs os h = record { failed = h.0; damaged = h.1; once = omega arith }
as_said (Some (Flawed Flip (suc call))) rs os h = record { failed = h.0; damaged = h.1; once = omega arith }

in_range : (s : Moment) (device : Option Device) (cs : List Command) (output : List ℕ) (b : Bool) → b ≡ true →
    MatchBool b ((os : List Outside) × (rs : List Reply) × (ms : List Moment) × ByDevice (lie_of device) (flaws device) os s cs ms × AnsweredBy os s cs rs ms × (output ≡ flat_map reply_text (opened device ++ rs))) (output ≡ reply_text (Refused Shape)) →
    (os : List Outside) × (rs : List Reply) × (ms : List Moment) × ByDevice (lie_of device) (flaws device) os s cs ms × AnsweredBy os s cs rs ms × (output ≡ flat_map reply_text (opened device ++ rs))
in_range s device cs output true e h = h
in_range s device cs output false e h = absurd cc

pub flaws_are_said : FlawsAreSaid
flaws_are_said text output logs mutators epoch device cs answers reads fits =
    let first = first_moment logs mutators epoch (is_true device) in
    let (os, rs, ms, a, h, is) = in_range first device cs output (is_shape (shape_of logs mutators epoch)) fits (subst (λ (x : Result Trace ℕ). IsOutput x output) reads answers) in
    let said = as_said device rs os (few (lie_of device) (flaws device) os first cs rs ms a.few h) in
    let bytes = texts_write text logs mutators epoch device cs reads in (
      os,
      rs,
      ms,
      h,
      is,
      said,
      record {
        lied = λ honest. no_lies os first cs rs ms (first_lasts logs mutators epoch (is_true device) fits) bytes honest h;
        once = lies_once logs mutators epoch device os cs rs ms fits bytes a h;
        few = lies_few device;
      },
    )
