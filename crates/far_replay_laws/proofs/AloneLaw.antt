-- The replies to one mutator's lines are what its own lines alone say.
use Rattle.std.proofs.Common.{◌≡◌, ℕ, ◌+◌, ◌<◌, ◌≤◌, Bool, true, false, nat_eq, arith, length, sym, refl, ap, subst, ◌∙◌, Option, Some, None, List, [], ◌∷◌, inl}
use Rattle.std.specs.Bool.{MatchBool}
use Rattle.std.proofs.lemmas.Bool.{eqb-true, eqb-false}
use Rattle.far_word.specs.declared.refused.Refused.{Refused as Refusal}
use Rattle.far_events.specs.declared.event.Event.{Event}
use Rattle.far_events.specs.state.Law.{Law}
use Rattle.far_events.specs.state.State.{State}
use Rattle.far_events.specs.events.Step.{step_of}
use Rattle.far_core.specs.world.WorldOf.{world_of}
use Rattle.far_core.proofs.Leaving.{events_leave}
use Rattle.far_replay.specs.Moment.{Moment, moment_of, as_if_stored}
use Rattle.far_replay.specs.Alone.{FitsIn, IsIn, Knows, Alone, Learns, is_by, speaker, KnowsBy}
use Rattle.far_alone.specs.Own.{Own, own_of}
use Rattle.far_replay.specs.Answers.{Answered, Commanded, Served, Stopped, Unbrought, IsMoment, CommandedBy, Outside, Serves, Refuses, Gives, Lacks}
use Rattle.far_replay.specs.Commanded.{KeepsFar, AsksFor, Misled}
use Rattle.far_alone.specs.Objects.{object_len}
use Rattle.far_evac.specs.declared.answers.RoundEnd.TheVariants.{Limit}
use Rattle.far_evac.specs.declared.phase.Phase.TheVariants.{Evacuating}
use Rattle.far_word.specs.declared.refused.Refused.TheVariants.{Marked, Memory}
use Rattle.far_alone.proofs.AloneStates.{own_used}
use Rattle.far_replay.proofs.Outcomes.{by_outcome, by_lie, by_stop}
use Rattle.far_replay.proofs.Ways.{access_fact, may_reach}
use Rattle.far_alone.specs.Between.{Between}
use Rattle.far_text.specs.Command.{Command, Request, New, Open, On, Use, Reads, Writes, Views, Close, Where, Drop, Try, Epoch, Mutator, Book, Evacuator, Evacuate, Round}
use Rattle.far_text.specs.Written.{WritesBytes, AllWriteBytes}
use Rattle.far_events.specs.events.Ranges.{after_events}
use Rattle.far_alone.specs.EventRows.{AllSucceed}
use Rattle.far_reply.specs.Reply.{Reply, Ended, Evacuated, Refused}
use Rattle.far_replay.specs.Events.{events_for, IsNoStep}
use Rattle.far_replay.specs.Turn.{effect, refusal, reply_to, unless}
use Rattle.far_replay.proofs.Lasting.{Lasts, IsCarriedOut, after_step, command_carried, moment_lasts, served_honest, still_lasts, misled_before, misled_lasts}
use Rattle.far_replay_laws.proofs.AloneNew.{turns_new}
use Rattle.far_replay.proofs.RoundLeads.{owned_same, step_keeps}
use Rattle.far_replay_laws.proofs.AloneTurns.{Teaches, Turns, turns_open, turns_epoch, turns_close, turns_use, turns_where, turns_drop, turns_try}
use Rattle.far_replay_laws.proofs.Refusals.{of_far}
use Rattle.far_replay_laws.proofs.AloneLies.{misled_tells}
use Rattle.far_replay_laws.proofs.Misleading.{by_asked, misled_allowed, misled_uses}

-- ---- no event changes how many mutators there are
step_mutators : (s : State) (e : Event) → (step_of s e).0.mutators ≡ s.mutators
step_mutators s e = (events_leave s e).within.rest.0

pub made_mutators : (s : State) (es : List Event) → (after_events s es).mutators ≡ s.mutators
made_mutators s [] = refl
made_mutators s (e ∷ es) = made_mutators (step_of s e).0 es ∙ step_mutators s e

-- ---- one command
-- a command that was made, by what its turn tells
teaches : (s : State) (k : ℕ) (c : Command) (r : Reply) (t : State) → r ≡ reply_to (moment_of s) c → t ≡ after_events s (events_for (moment_of s) c) → AllSucceed s (events_for (moment_of s) c) →
    Turns s k c (refusal (moment_of s) c) → Teaches s k c r t
teaches s k c r t reply state made turns = subst (λ (x : Reply × State). Teaches s k c x.0 x.1) (λ i. (sym reply i, sym state i)) (turns made)

-- by the mutator itself, or by another
at_speaker : (s : State) (k m : ℕ) (c : Command) (r : Reply) (t : State) (b : Bool) → nat_eq k m ≡ b → m < s.mutators → Teaches s k c r t →
    MatchBool b (Knows m (own_of (world_of s) m) c r (own_of (world_of t) m)) (own_of (world_of t) m ≡ own_of (world_of s) m)
at_speaker s k m c r t true e within tells = subst (λ x. x < s.mutators → Knows x (own_of (world_of s) x) c r (own_of (world_of t) x)) (eqb-true k m e) tells.0 within
at_speaker s k m c r t false e within tells = tells.1 m (eqb-false k m e)

-- a command that makes no event leaves the state
none_made : (s : State) (o : Option Refusal) → after_events s (unless o (λ _. []) []) ≡ s
none_made s None = refl
none_made s (Some why) = refl

abbrev pub Taught : State → ℕ → Command → Reply → State → Type 0
Taught s m c r t = MatchBool (is_by m (speaker c)) (Knows m (own_of (world_of s) m) c r (own_of (world_of t) m)) (own_of (world_of t) m ≡ own_of (world_of s) m)

-- by each request
turns_each : (s : State) (k : ℕ) (request : Request) → Law s → Between s → WritesBytes (Mutator k request) → Turns s k (Mutator k request) (refusal (moment_of s) (Mutator k request))
turns_each s k (New len ds) law between small = turns_new s k len ds law between
turns_each s k Open law between small = turns_open s k law
turns_each s k (On p how) law between small = turns_use s k p how law between small
turns_each s k Close law between small = turns_close s k law
turns_each s k (Where p) law between small = turns_where s k p law between
turns_each s k (Drop p) law between small = turns_drop s k p law between
turns_each s k (Try p) law between small = turns_try s k p law between
turns_each s k Epoch law between small = turns_epoch s k law

taught : (now : Moment) (m : ℕ) (c : Command) (r : Reply) (t : State) → IsNoStep c → Law now.core → Between now.core → m < now.core.mutators → WritesBytes c → IsCarriedOut now c r t → Taught now.core m c r t
taught now m (Mutator k request) r t told law between within small h =
    at_speaker now.core k m (Mutator k request) r t (nat_eq k m) refl within (teaches now.core k (Mutator k request) r t h.reply h.state h.made (turns_each now.core k request law between small))
taught now m (Book inquiry) r t told law between within small h = ap (λ x. own_of (world_of x) m) (h.state ∙ none_made now.core (refusal now (Book inquiry)))
taught now m (Evacuator step) r t told law between within small h = absurd told

-- one that asks for its object teaches its own mutator alone
pub asked_teaches : (now : Moment) (m p : ℕ) (r : Reply) (next : Moment) → Lasts now → (c : Command) → AsksFor m p c → WritesBytes c → Served now c r next → Teaches now.core m c r next.core
asked_teaches now m p r next lasts = by_asked m p (λ d. WritesBytes d → Served now d r next → Teaches now.core m d r next.core)
    (λ how small h. let x = command_carried now (Mutator m (On p how)) r next tt lasts small h in
    teaches now.core m (Mutator m (On p how)) r next.core x.reply x.state x.made (turns_use now.core m p how lasts.law lasts.between small))

-- a command leaves as many mutators
served_mutators : (now : Moment) (c : Command) (r : Reply) (next : Moment) → Lasts now → WritesBytes c → Served now c r next → next.core.mutators ≡ now.core.mutators
served_mutators now (Mutator k request) r next lasts small h =
    ap (λ (t : State). t.mutators) (command_carried now (Mutator k request) r next tt lasts small h).state ∙ made_mutators now.core (events_for now (Mutator k request))
served_mutators now (Book inquiry) r next lasts small h =
    ap (λ (t : State). t.mutators) (command_carried now (Book inquiry) r next tt lasts small h).state ∙ made_mutators now.core (events_for now (Book inquiry))
served_mutators now (Evacuator step) r next lasts small h = ap (λ (m : Moment). m.core.mutators) h.moment ∙ (step_keeps now step lasts.law lasts.round lasts.alone).mutators

-- each command tells a mutator what its reply says, or nothing
pub served_taught : (now : Moment) (m : ℕ) (c : Command) (r : Reply) (next : Moment) → Lasts now → m < now.core.mutators → WritesBytes c → Served now c r next → Taught now.core m c r next.core
served_taught now m (Mutator k request) r next lasts within small h =
    taught now m (Mutator k request) r next.core tt lasts.law lasts.between within small (command_carried now (Mutator k request) r next tt lasts small h)
served_taught now m (Book inquiry) r next lasts within small h =
    taught now m (Book inquiry) r next.core tt lasts.law lasts.between within small (command_carried now (Book inquiry) r next tt lasts small h)
served_taught now m (Evacuator step) r next lasts within small h =
    ap (λ (x : Moment). own_of (world_of x.core) m) h.moment ∙ owned_same now.core (effect now (Evacuator step)).core m (step_keeps now step lasts.law lasts.round lasts.alone)

-- whether the device tells what was written or may not
known_by : (b honest : Bool) (m : ℕ) (o q : Own) (c : Command) (r : Reply) (E : Type 0) → MatchBool b (Knows m o c r q) E → MatchBool b (KnowsBy honest m o c r q) E
known_by true true m o q c r E h = h
known_by true false m o q c r E h = inl h
known_by false honest m o q c r E h = h

known : (s : State) (m : ℕ) (c : Command) (r : Reply) (t : State) → Taught s m c r t → Learns s m c r t
known s m c r t h = known_by (is_by m (speaker c)) s.honest m (own_of (world_of s) m) (own_of (world_of t) m) c r (own_of (world_of t) m ≡ own_of (world_of s) m) h

-- one that the device refuses tells what a try would, and that nothing else refuses it
known_use : (k : ℕ) (o q : Own) (p : ℕ) (how : Use) (all : List ℕ) (why : Refusal) → KeepsFar why → o.opened ≡ true → o.viewed p ≡ false → q ≡ o → o.object p ≡ Some all → FitsIn all how → Knows k o (Mutator k (On p how)) (Refused why) q
known_use k o q p how all why h opened free same is fits = of_far (λ x. Knows k o (Mutator k (On p how)) (Refused x) q) why h (opened, free, same, (all, is, fits)) (opened, free, same, (all, is, fits))

try_teaches : (why : Refusal) (now : Moment) (c : Command) (k p : ℕ) (r : Reply) (next : Moment) → Lasts now → Unbrought why now c k p r next → Teaches now.core k (Mutator k (Try p)) (Refused (Marked (now.core.cell p))) next.core
try_teaches why now c k p r next lasts h =
    let x = command_carried now (Mutator k (Try p)) (Refused (Marked (now.core.cell p))) next tt lasts tt h.tried in
    teaches now.core k (Mutator k (Try p)) (Refused (Marked (now.core.cell p))) next.core x.reply x.state x.made (turns_try now.core k p lasts.law lasts.between)

inside_all : (all : List ℕ) (len from count : ℕ) → length all ≡ len → 0 < count → from + count ≤ len → IsIn all from count
inside_all all len from count long some within = (some, omega (arith, long, within))

fits_use : (now : Moment) (k p : ℕ) (how : Use) (all : List ℕ) → length all ≡ object_len now.core p → refusal now (Mutator k (On p how)) ≡ None → FitsIn all how
fits_use now k p (Writes from new) all long e = let access = access_fact now.core k p from (length new) e in inside_all all (object_len now.core p) from (length new) long access.some access.within
fits_use now k p (Reads from len) all long e = let access = access_fact now.core k p from len e in inside_all all (object_len now.core p) from len long access.some access.within
fits_use now k p Views all long e = tt

use_teaches : (why : Refusal) (now : Moment) (k p : ℕ) (how : Use) (r : Reply) (next : Moment) → Lasts now → Unbrought why now (Mutator k (On p how)) k p r next → Teaches now.core k (Mutator k (On p how)) r next.core
use_teaches why now k p how r next lasts h =
    let x = try_teaches why now (Mutator k (On p how)) k p r next lasts h in
    let own = own_used now.core lasts.law k p (may_reach now k p how h.allowed).1 in
    subst (λ y. Teaches now.core k (Mutator k (On p how)) y next.core) (sym h.reply) (
      (λ within. let (opened, free, same, has) = x.0 within in
          known_use k (own_of (world_of now.core) k) (own_of (world_of next.core) k) p how own.0 why h.cause opened free same own.1 (fits_use now k p how own.0 own.2 h.allowed)),
      x.1,
    )

pub next_mutators : (now : Moment) (c : Command) (r : Reply) (next : Moment) → Lasts now → WritesBytes c → Commanded now c r next → next.core.mutators ≡ now.core.mutators
next_mutators now c r next lasts small h = by_outcome now r next (λ d. WritesBytes d → next.core.mutators ≡ now.core.mutators)
    (λ d h small. served_mutators now d r next lasts small h)
    (λ why m p how h _. served_mutators now _ _ next lasts tt h.tried)
    (λ why objects count h _. served_mutators now (Evacuator (Evacuate objects)) (Evacuated h.progress) next lasts tt h.left)
    (λ why turns objects policy most count h small.
    served_mutators h.stood (Evacuator (Evacuate objects)) (Evacuated h.progress) next (after_step now (Round policy most turns) (Ended (Limit Evacuating)) h.stood lasts h.turned) tt h.left
    ∙ served_mutators now (Evacuator (Round policy most turns)) (Ended (Limit Evacuating)) h.stood lasts small h.turned)
    (λ row m p d asks h small. served_mutators (as_if_stored now p row) d r (as_if_stored next p row) (misled_before row now d p r next lasts h) small h.served)
    c h small

pub next_honest : (now : Moment) (c : Command) (r : Reply) (next : Moment) → Lasts now → WritesBytes c → Commanded now c r next → next.core.honest ≡ now.core.honest
next_honest now c r next lasts small h = by_outcome now r next (λ d. WritesBytes d → next.core.honest ≡ now.core.honest)
    (λ d h small. served_honest now d r next lasts small h)
    (λ why m p how h _. served_honest now _ _ next lasts tt h.tried)
    (λ why objects count h _. served_honest now (Evacuator (Evacuate objects)) (Evacuated h.progress) next lasts tt h.left)
    (λ why turns objects policy most count h small.
    served_honest h.stood (Evacuator (Evacuate objects)) (Evacuated h.progress) next (after_step now (Round policy most turns) (Ended (Limit Evacuating)) h.stood lasts h.turned) tt h.left
    ∙ served_honest now (Evacuator (Round policy most turns)) (Ended (Limit Evacuating)) h.stood lasts small h.turned)
    (λ row m p d asks h small. served_honest (as_if_stored now p row) d r (as_if_stored next p row) (misled_before row now d p r next lasts h) small h.served)
    c h small

-- one that is given other words tells what these are
module _ (row : ℕ → ℕ) (now : Moment) (k : ℕ) (r : Reply) (next : Moment) (m p : ℕ) (lasts : Lasts now) (within : k < now.core.mutators) where
  served_there : (c : Command) → WritesBytes c → Misled row now c p r next → Taught (as_if_stored now p row).core k c r (as_if_stored next p row).core
  served_there c small h = served_taught (as_if_stored now p row) k c r (as_if_stored next p row) (misled_before row now c p r next lasts h) within small h.served

  given_tells : (c : Command) → AsksFor m p c → WritesBytes c → Misled row now c p r next →
      MatchBool (nat_eq m k) (Knows k (own_of (world_of (as_if_stored now p row).core) k) c r (own_of (world_of (as_if_stored next p row).core) k)) (own_of (world_of (as_if_stored next p row).core) k ≡ own_of (world_of (as_if_stored now p row).core) k) →
      MatchBool (nat_eq m k) (KnowsBy now.core.honest k (own_of (world_of now.core) k) c r (own_of (world_of next.core) k)) (own_of (world_of next.core) k ≡ own_of (world_of now.core) k)
  given_tells c asks small h =
      misled_tells row now c m p r next lasts.law (misled_lasts row now c m p r next lasts small asks h).law asks (misled_uses row now m p c asks (misled_allowed row now c p r next h)).1 h k

  given_learns : (c : Command) → AsksFor m p c → WritesBytes c → Misled row now c p r next → Learns now.core k c r next.core
  given_learns = by_asked m p (λ d. WritesBytes d → Misled row now d p r next → Learns now.core k d r next.core)
      (λ how small h. given_tells (Mutator m (On p how)) (refl, refl) small h (served_there (Mutator m (On p how)) small h))

-- what the outside made of a command, unless it gave other words
abbrev pub GivesNone : Outside → Type 0
GivesNone Serves = Unit {0}
GivesNone (Refuses why turns objects) = Unit {0}
GivesNone (Lacks turns objects) = Unit {0}
GivesNone (Gives row inverts) = ⊥

module _ (why : Refusal) (turns objects : ℕ) (now : Moment) (m : ℕ) (r : Reply) (next : Moment) (lasts : Lasts now) (within : m < now.core.mutators) where
  stopped_taught : (c : Command) → WritesBytes c → Stopped why turns objects now c r next → Taught now.core m c r next.core
  stopped_taught c small h = by_stop why turns objects now r next (λ d. WritesBytes d → Taught now.core m d r next.core)
      (λ k p how h _. at_speaker now.core k m (Mutator k (On p how)) r next.core (nat_eq k m) refl within (use_teaches why now k p how r next lasts h))
      (λ count h _. served_taught now m (Evacuator (Evacuate objects)) (Evacuated h.progress) next lasts within tt h.left)
      (λ policy most count h small.
      let later = after_step now (Round policy most turns) (Ended (Limit Evacuating)) h.stood lasts h.turned in
      let same = served_mutators now (Evacuator (Round policy most turns)) (Ended (Limit Evacuating)) h.stood lasts small h.turned in
      served_taught h.stood m (Evacuator (Evacuate objects)) (Evacuated h.progress) next later (subst (λ n. m < n) (sym same) within) tt h.left
      ∙ served_taught now m (Evacuator (Round policy most turns)) (Ended (Limit Evacuating)) h.stood lasts within small h.turned)
      c h small

pub taught_by : (o : Outside) → GivesNone o → (now : Moment) (m : ℕ) (c : Command) (r : Reply) (next : Moment) → Lasts now → m < now.core.mutators → WritesBytes c → CommandedBy o now c r next → Taught now.core m c r next.core
taught_by Serves none now m c r next lasts within small h = served_taught now m c r next lasts within small h
taught_by (Refuses why turns objects) none now m c r next lasts within small h = stopped_taught why turns objects now m r next lasts within c small h
taught_by (Lacks turns objects) none now m c r next lasts within small h = stopped_taught Memory turns objects now m r next lasts within c small h
taught_by (Gives row inverts) none now m c r next lasts within small h = absurd none

each_learns : (now : Moment) (m : ℕ) (c : Command) (r : Reply) (next : Moment) → Lasts now → m < now.core.mutators → WritesBytes c → Commanded now c r next → Learns now.core m c r next.core
each_learns now m c r next lasts within small (Serves, h) = known now.core m c r next.core (taught_by Serves tt now m c r next lasts within small h)
each_learns now m c r next lasts within small (Refuses why turns objects, h) = known now.core m c r next.core (taught_by (Refuses why turns objects) tt now m c r next lasts within small h)
each_learns now m c r next lasts within small (Lacks turns objects, h) = known now.core m c r next.core (taught_by (Lacks turns objects) tt now m c r next lasts within small h)
each_learns now m c r next lasts within small (Gives row inverts, h) =
    by_lie row now r next (λ d. WritesBytes d → Learns now.core m d r next.core) (λ k p d asks h small. given_learns row now m r next k p lasts within d asks small h) c h small

pub mutators_learn : (now : Moment) (c : Command) (r : Reply) (next : Moment) (m : ℕ) → IsMoment now → WritesBytes c → m < now.core.mutators → Commanded now c r next → Learns now.core m c r next.core
mutators_learn now c r next m is bytes within h =
    each_learns now m c r next (moment_lasts now is) within bytes h

-- ---- all commands
-- one line before others
pub one_more : (honest : Bool) (m : ℕ) (o q : Own) (c : Command) (r : Reply) (cs : List Command) (rs : List Reply) (b : Bool) → MatchBool b (KnowsBy honest m o c r q) (q ≡ o) → Alone honest m q cs rs →
    MatchBool b ((x : Own) × KnowsBy honest m o c r x × Alone honest m x cs rs) (Alone honest m o cs rs)
one_more honest m o q c r cs rs true h rest = (q, h, rest)
one_more honest m o q c r cs rs false h rest = subst (λ x. Alone honest m x cs rs) h rest

-- the replies to a mutator's own lines are what they say by themselves
pub alone : (now : Moment) (cs : List Command) (rs : List Reply) (moments : List Moment) (m : ℕ) → Lasts now → m < now.core.mutators → AllWriteBytes cs → Answered now cs rs moments →
    Alone now.core.honest m (own_of (world_of now.core) m) cs rs
alone now [] [] [] m lasts within small h = tt
alone now (c ∷ cs) (r ∷ rs) (next ∷ xs) m lasts within small h =
    let same : next.core.mutators ≡ now.core.mutators = next_mutators now c r next lasts small.0 h.0 in
    one_more now.core.honest m (own_of (world_of now.core) m) (own_of (world_of next.core) m) c r cs rs (is_by m (speaker c)) (each_learns now m c r next lasts within small.0 h.0)
    (subst (λ honest. Alone honest m (own_of (world_of next.core) m) cs rs) (next_honest now c r next lasts small.0 h.0)
    (alone next cs rs xs m (still_lasts now c r next lasts small.0 h.0) (subst (λ n. m < n) (sym same) within) small.1 h.1))
alone now _ _ _ m lasts within small h = absurd h
