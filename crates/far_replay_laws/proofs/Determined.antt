-- A text has one output in which no reply says that memory was refused; and what the outside makes of its commands decides their replies.
use Rattle.std.proofs.Common.{◌≡◌, ℕ, Bool, true, false, zero, suc, arith, sym, ◌∙◌, ap, refl, subst, Result, Ok, Err, List, map, [], ◌∷◌, ◌++◌, Option, Some, None}
use Rattle.std.specs.Bool.{MatchBool}
use Rattle.std.proofs.lemmas.Bool.{false≢true}
use Rattle.std.specs.List.{flat_map}
use Rattle.far_word.specs.declared.refused.Refused.{Refused as Refusal}
use Rattle.far_word.specs.declared.refused.Refused.TheVariants.{Memory, Shape}
use Rattle.far_events.specs.state.Shape.{is_shape}
use Rattle.far_evac.specs.declared.answers.Progress.{Progress}
use Rattle.far_evac.specs.Choosing.{after_selecting}
use Rattle.far_evac.specs.Moment.{Tally, plus, progress_of, tally_of}
use Rattle.far_evac.specs.Turns.{turns_made}
use Rattle.far_device.specs.declared.liar.Lie.{Lie}
use Rattle.far_replay.specs.Answers.{AnsweredBy, ByDevice, FlawedAtMost, opened, flaws, is_true, lie_of, CommandedBy, Outside, Serves, Refuses, Gives, Lacks, Served, Stopped, Unbrought, StopsLeaving, StopsRound, Misled, MisledBy, shape_of, first_moment}
use Rattle.far_replay.specs.Rounds.{chosen_by, rows_in}
use Rattle.far_replay.proofs.AsIfStored.{stored_again}
use Rattle.far_replay.proofs.Outcomes.{by_lie, by_stop}
use Rattle.far_replay_laws.specs.Headline.{HasNoFlaw, IsAmple, OneOutput, OutsideDecides, OutsideDecidesOutput}
use Rattle.far_text.proofs.TextLaws.{texts_write}
use Rattle.far_text.specs.Written.{AllWriteBytes}
use Rattle.far_replay.proofs.Lasting.{Lasts, first_lasts}
use Rattle.far_text.specs.Command.{Flawed, Fail, Short, Flip, Command, Device, Trace, Nothing, Heap, Mutator, Evacuator, On, Evacuate, Policy}
use Rattle.far_text.specs.Grammar.{trace_of}
use Rattle.far_replay.specs.Moment.{Moment, as_if_stored}
use Rattle.far_reply.specs.Reply.{Reply, Evacuated, Halted, Refused, reply_text}
use Rattle.far_replay_laws.specs.FromOutside.{NoneLacks, lies}
use Rattle.far_replay_laws.proofs.Failures.{no_lies, says_so, stopped_says}
use Rattle.far_replay_laws.proofs.Misleading.{asked_so}
use Rattle.far_replay_laws.proofs.Stops.{same_progress}

-- one command that is served has one reply and one moment after it
one_reply : (s : Moment) (c : Command) (r q : Reply) (t u : Moment) → Served s c r t → Served s c q u → (r ≡ q) × (t ≡ u)
one_reply s c r q t u h k = (h.reply ∙ sym k.reply, h.moment ∙ sym k.moment)

-- and so has one that is refused in its midst, by what the outside made of it
tried_once : (why : Refusal) (s : Moment) (c : Command) (m p : ℕ) (r q : Reply) (t u : Moment) → Unbrought why s c m p r t → Unbrought why s c m p q u → (r ≡ q) × (t ≡ u)
tried_once why s c m p r q t u h k = (h.reply ∙ sym k.reply, h.tried.moment ∙ sym k.tried.moment)

left_once : (why : Refusal) (objects : ℕ) (s : Moment) (count : ℕ) (r q : Reply) (t u : Moment) → StopsLeaving why objects s count r t → StopsLeaving why objects s count q u → (r ≡ q) × (t ≡ u)
left_once why objects s count r q t u h k =
    let one = one_reply s (Evacuator (Evacuate objects)) (Evacuated h.progress) (Evacuated k.progress) t u h.left k.left in
    (h.reply ∙ ap (Halted why) (same_progress h.progress k.progress one.0) ∙ sym k.reply, one.1)

round_once : (why : Refusal) (turns objects : ℕ) (s : Moment) (policy : Policy) (most count : ℕ) (r q : Reply) (t u : Moment) →
    StopsRound why turns objects s policy most count r t → StopsRound why turns objects s policy most count q u → (r ≡ q) × (t ≡ u)
round_once why turns objects s policy most count r q t u h k =
    let stood : k.stood ≡ h.stood = k.turned.moment ∙ sym h.turned.moment in
    let one = one_reply h.stood (Evacuator (Evacuate objects)) (Evacuated h.progress) (Evacuated k.progress) t u h.left (subst (λ x. Served x (Evacuator (Evacuate objects)) (Evacuated k.progress) u) stood k.left) in
    let before : Tally = (turns_made (after_selecting s (chosen_by policy (rows_in s) most)) turns).tally in
    (h.reply ∙ ap (λ (p : Progress). Halted why (progress_of (plus before (tally_of p)) false)) (same_progress h.progress k.progress one.0) ∙ sym k.reply, one.1)

-- and one that is given other words: its moment is that of these words, with what was stored
given_once : (row : ℕ → ℕ) (s : Moment) (c : Command) (p : ℕ) (r q : Reply) (t u : Moment) → Misled row s c p r t → Misled row s c p q u → (r ≡ q) × (t ≡ u)
given_once row s c p r q t u h k =
    let one = one_reply (as_if_stored s p row) c r q (as_if_stored t p row) (as_if_stored u p row) h.served k.served in
    let words : ℕ → ℕ = s.core.stored p in
    (one.0, stored_again t p row words (sym h.kept) ∙ ap (λ (x : Moment). as_if_stored x p words) one.1 ∙ sym (stored_again u p row words (sym k.kept)))

stopped_once : (why : Refusal) (turns objects : ℕ) (s : Moment) (c : Command) (r q : Reply) (t u : Moment) → Stopped why turns objects s c r t → Stopped why turns objects s c q u → (r ≡ q) × (t ≡ u)
stopped_once why turns objects s c r q t u h k =
    by_stop why turns objects s r t (λ d. Stopped why turns objects s d q u → (r ≡ q) × (t ≡ u))
    (λ m p how h k. tried_once why s (Mutator m (On p how)) m p r q t u h k)
    (λ count h k. left_once why objects s count r q t u h k)
    (λ policy most count h k. round_once why turns objects s policy most count r q t u h k) c h k

one_outcome : (o : Outside) (s : Moment) (c : Command) (r q : Reply) (t u : Moment) → CommandedBy o s c r t → CommandedBy o s c q u → (r ≡ q) × (t ≡ u)
one_outcome Serves s c r q t u h k = one_reply s c r q t u h k
one_outcome (Refuses why turns objects) s c r q t u h k = stopped_once why turns objects s c r q t u h k
one_outcome (Lacks turns objects) s c r q t u h k = stopped_once Memory turns objects s c r q t u h k
one_outcome (Gives row inverts) s c r q t u h k =
    by_lie row s r t (λ d. MisledBy row s d q u → (r ≡ q) × (t ≡ u)) (λ m p d asks h k. given_once row s d p r q t u h (asked_so row s q u m p d asks k)) c h k

-- the replies and the moments of a list of commands are determined by the first moment, and by what the outside made of each
pub answers_are_one : OutsideDecides
answers_are_one [] s [] [] [] [] [] h k = (refl, refl)
answers_are_one [] s [] [] [] [] (u ∷ us) h k = absurd k
answers_are_one [] s [] [] (q ∷ qs) [] us h k = absurd k
answers_are_one (o ∷ os) s (c ∷ cs) (r ∷ rs) [] (t ∷ ts) us h k = absurd k
answers_are_one (o ∷ os) s (c ∷ cs) (r ∷ rs) (q ∷ qs) (t ∷ ts) [] h k = absurd k
answers_are_one (o ∷ os) s (c ∷ cs) (r ∷ rs) (q ∷ qs) (t ∷ ts) (u ∷ us) h k =
    let one = one_outcome o s c r q t u h.0 k.0 in
    let rest = answers_are_one os t cs rs qs ts us h.1 (subst (λ x. AnsweredBy os x cs qs us) (sym one.1) k.1) in
    (λ i. one.0 i ∷ rest.0 i, λ i. one.1 i ∷ rest.1 i)
answers_are_one _ s _ _ qs _ us h k = absurd h

-- where no call of the device has a flaw, and no reply says that memory was refused, each command was served
all_served : (lie : Lie) (os : List Outside) (s : Moment) (cs : List Command) (rs : List Reply) (ts : List Moment) → FlawedAtMost lie 0 os → lies os ≡ 0 → NoneLacks rs → AnsweredBy os s cs rs ts → os ≡ map (λ (c : Command). Serves) cs
all_served lie [] s [] [] [] few truly none h = refl
all_served lie (Serves ∷ os) s (c ∷ cs) (r ∷ rs) (t ∷ ts) few truly none h = ap (λ xs. Serves ∷ xs) (all_served lie os t cs rs ts few truly none.1 h.1)
all_served lie (Lacks turns objects ∷ os) s (c ∷ cs) (r ∷ rs) (t ∷ ts) few truly none h = absurd (false≢true (sym none.0 ∙ says_so r (stopped_says Memory turns objects s c r t h.0)))
all_served lie (Refuses why turns objects ∷ os) s cs rs ts few truly none h = absurd few
all_served lie (Gives row inverts ∷ os) s cs rs ts few truly none h = absurd (omega (arith, truly))
all_served lie _ s _ _ _ few truly none h = absurd h

-- what is written for a shape, with a heap or refused
heap_once : (s : Moment) (device : Option Device) (cs : List Command) (b : Bool) (x y : List ℕ) → flaws device ≡ 0 → (b ≡ true → Lasts s) → AllWriteBytes cs → s.core.honest ≡ true →
    MatchBool b ((os : List Outside) × (rs : List Reply) × (ts : List Moment) × ByDevice (lie_of device) (flaws device) os s cs ts × AnsweredBy os s cs rs ts × (x ≡ flat_map reply_text (opened device ++ rs)) × NoneLacks rs) (x ≡ reply_text (Refused Shape)) →
    MatchBool b ((os : List Outside) × (rs : List Reply) × (ts : List Moment) × ByDevice (lie_of device) (flaws device) os s cs ts × AnsweredBy os s cs rs ts × (y ≡ flat_map reply_text (opened device ++ rs)) × NoneLacks rs) (y ≡ reply_text (Refused Shape)) → x ≡ y
heap_once s device cs true x y never begun bytes honest (os, rs, ts, a, h, e, m) (ws, qs, us, b, k, f, n) =
    let same : ws ≡ os =
    all_served (lie_of device) ws s cs qs us (subst (λ n. FlawedAtMost (lie_of device) n ws) never b.few) (no_lies ws s cs qs us (begun refl) bytes honest k) n k
    ∙ sym (all_served (lie_of device) os s cs rs ts (subst (λ n. FlawedAtMost (lie_of device) n os) never a.few) (no_lies os s cs rs ts (begun refl) bytes honest h) m h) in
    e ∙ ap (λ l. flat_map reply_text (opened device ++ l)) (answers_are_one os s cs rs qs ts us h (subst (λ xs. AnsweredBy xs s cs qs us) same k)).0 ∙ sym f
heap_once s device cs false x y never begun bytes honest e f = e ∙ sym f

-- what is written for what was read
-- of a device without a flaw what is read is always what was written
flawless : (device : Option Device) → flaws device ≡ 0 → is_true device ≡ true
flawless None never = refl
flawless (Some (Flawed Fail zero)) never = refl
flawless (Some (Flawed Short zero)) never = refl
flawless (Some (Flawed Flip zero)) never = refl
flawless (Some (Flawed flaw (suc call))) never = absurd (omega (arith, never))

abbrev WritesAll : Result Trace ℕ → Type 0
WritesAll (Ok (Heap logs mutators epoch device cs)) = AllWriteBytes cs
WritesAll read = Unit {0}

text_writes : (text : List ℕ) (read : Result Trace ℕ) → trace_of text ≡ read → WritesAll read
text_writes text (Ok (Heap logs mutators epoch device cs)) is = texts_write text logs mutators epoch device cs is
text_writes text _ is = tt

output_once : (read : Result Trace ℕ) (x y : List ℕ) → WritesAll read → HasNoFlaw read → IsAmple read x → IsAmple read y → x ≡ y
output_once (Ok (Heap logs mutators epoch device cs)) x y bytes never h k = heap_once (first_moment logs mutators epoch (is_true device)) device cs (is_shape (shape_of logs mutators epoch)) x y never
    (first_lasts logs mutators epoch (is_true device)) bytes (flawless device never) h k
output_once (Ok Nothing) x y bytes never h k = h ∙ sym k
output_once (Err line) x y bytes never h k = h ∙ sym k

-- two outputs of one text are equal
pub answers_once : OneOutput
answers_once text a b never h k = output_once (trace_of text) a b (text_writes text (trace_of text) refl) never h k

-- and two that the same outside made
pub outside_decides_output : OutsideDecidesOutput
outside_decides_output outside logs mutators epoch device cs a b (rs, ts, h, e) (qs, us, k, f) =
    e ∙ ap (λ l. flat_map reply_text (opened device ++ l)) (answers_are_one outside (first_moment logs mutators epoch (is_true device)) cs rs qs ts us h k).0 ∙ sym f
