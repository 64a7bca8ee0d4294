-- What the device of a heap holds after turns and after whole rounds.
use Rattle.std.proofs.Common.{◌≡◌, ◌≢◌, ◌⊎◌, ℕ, Bool, true, false, Option, Some, None, Result, Ok, Err, List, [], ◌∷◌, inl, inr, ap, sym, refl, ◌∙◌, subst}
use Rattle.std.specs.Prelude.{IfErr, IfOk}
use Rattle.std.proofs.lemmas.Bool.{cond_both}
use Rattle.far_word.specs.declared.mark.Marks.{Marks}
use Rattle.far_word.specs.declared.pointer.PtrWord.{PtrWord}
use Rattle.far_word.specs.declared.pointer.PtrWord.TheVariants.{Free, Near, Far}
use Rattle.far_word.specs.declared.refused.Refused.{Refused as Refusal}
use Rattle.far_word.specs.declared.refused.Refused.TheVariants.{Device, Memory, Phase as WrongPhase}
use Rattle.far_word.specs.Bytes.{bytes_of}
use Rattle.far_word.specs.Pointer.{read_of}
use Rattle.far_events.specs.state.Law.{Law, is_dirty}
use Rattle.far_events.specs.state.State.{State}
use Rattle.far_book.specs.book.FarSide.{kept_len}
use Rattle.far_hand.specs.declared.plain.Plain.{Plain}
use Rattle.far_policy.specs.Choice.{IsBadChoice}
use Rattle.far_evac.specs.declared.answers.EvacFault.{EvacFault}
use Rattle.far_evac.specs.declared.answers.Progress.{Progress}
use Rattle.far_evac.specs.declared.answers.RoundEnd.{RoundEnd}
use Rattle.far_evac.specs.declared.phase.Phase.{Phase}
use Rattle.far_evac.specs.declared.phase.Phase.TheVariants.{Evacuating, Idle, Marking, Waiting}
use Rattle.far_evac.specs.AnyTurns.{AsksInTurn}
use Rattle.far_evac.specs.ByCopying.{AsksBy, RefusesBy}
use Rattle.far_evac.specs.Choosing.{after_selecting}
use Rattle.far_evac.specs.EvacOf.{EvacOf}
use Rattle.far_evac.specs.Laws.{but_evac}
use Rattle.far_evac.specs.Marking.{leaves_some, marked_core}
use Rattle.far_evac.specs.Moment.{Moment, Tally, tally_of}
use Rattle.far_evac.specs.MomentLaw.{MomentLaw}
use Rattle.far_evac.specs.Refusals.{unselectable}
use Rattle.far_evac.specs.RoundAsked.{RoundAsking, StopsAsking, TurnsAsking}
use Rattle.far_evac.specs.RoundSteps.{advanced}
use Rattle.far_evac.specs.Turns.{begun_turns, turn_size, turned}
use Rattle.far_evac.specs.Waiting.{after_polling, first_open, polled_to}
use Rattle.far_evac.proofs.LeadingTurns.{turn_leads}
use Rattle.far_evac.proofs.Marks.{marking_frame, marking_like}
use Rattle.far_replay.specs.Far.{FarBytes, HoldsAs, far_in, far_of}
use Rattle.far_replay.specs.Moment.{FarSide, moment_in, state_in}
use Rattle.far_replay.proofs.FarReads.{FarLetsGo, FarWrites}
use Rattle.far_replay.proofs.Holding.{HoldsStill, holds_beside, holds_on, stop_holds, way_holds}
use Rattle.far_replay.proofs.Stopping.{evacuating_or}

-- ---- EVAC aside, a cell says what it said
kept_but : (o : Option PtrWord) → kept_len (but_evac o) ≡ kept_len o
kept_but None = refl
kept_but (Some Free) = refl
kept_but (Some (Near len ds place marks)) = refl
kept_but (Some (Far len ds marks)) = refl

far_but : (o : Option PtrWord) (len ds : ℕ) (m : Marks) → but_evac o ≡ but_evac (Some (Far len ds m)) → (k : Marks) × (o ≡ Some (Far len ds k))
far_but (Some (Far n d k)) len ds m e =
    let lens : n ≡ len = cc in
    let structures : d ≡ ds = cc in
    (k, rw (lens, structures) refl)
far_but _ len ds m e = absurd cc

dirty_but : (o : Option PtrWord) → is_dirty (but_evac o) ≡ is_dirty o
dirty_but None = refl
dirty_but (Some Free) = refl
dirty_but (Some (Near len ds place marks)) = refl
dirty_but (Some (Far len ds marks)) = refl

marks_hold : (s0 s t : State) (held c now : FarBytes) (q : ℕ) → but_evac (read_of (t.cell q)) ≡ but_evac (read_of (s.cell q)) → t.stored q ≡ s.stored q → now q ≡ c q → HoldsStill s0 s held c q → HoldsStill s0 t held now q
marks_hold s0 s t held c now q but stored same h =
    let kept : kept_len (read_of (t.cell q)) ≡ kept_len (read_of (s.cell q)) = sym (kept_but (read_of (t.cell q))) ∙ ap kept_len but ∙ kept_but (read_of (s.cell q)) in
    holds_on s0 s held c t now q (λ dirty. sym (dirty_but (read_of (s.cell q))) ∙ ap is_dirty (sym but) ∙ dirty_but (read_of (t.cell q)) ∙ dirty) (λ len k. sym kept ∙ k)
    (λ len ds m far. let x = far_but (read_of (t.cell q)) len ds m (but ∙ ap but_evac far) in (x.0, x.1, ap (λ (f : ℕ → ℕ). bytes_of f len) stored)) same h

-- looks leave cells, and what is stored
polled_same : (m : Moment) (o : Option ℕ) → ((polled_to m o).core.cell ≡ m.core.cell) × ((polled_to m o).core.stored ≡ m.core.stored)
polled_same m None = (refl, refl)
polled_same m (Some k) = (refl, refl)

abbrev far_bytes : FarSide → ℕ → Option (List ℕ)
far_bytes = far_of

-- ---- of what was so from a state on
module _ (s0 : State) (held : FarBytes) where
  abbrev pub HoldsIn : Moment → FarSide → Type 0
  HoldsIn m d = (q : ℕ) → HoldsStill s0 m.core held (far_of d) q

  marked_hold : (u : Moment) → Law u.core → (d e : FarSide) → e ≡ d → HoldsIn u d → HoldsIn (turned (begun_turns u) Marking).moment e
  marked_hold u law d e same h q =
      let cell : (turned (begun_turns u) Marking).moment.core.cell ≡ (marked_core u turn_size).cell =
      cond_both (leaves_some u turn_size) (record u { core = marked_core u turn_size }) (record u { core = advanced (marked_core u turn_size) u.collection; phase = Waiting })
      (λ (t : Moment). t.core.cell ≡ (marked_core u turn_size).cell) (λ _. refl) (λ _. refl) in
      let like = marking_like u turn_size (λ p. (law.cells.cell_read p).0) q in
      marks_hold s0 u.core (turned (begun_turns u) Marking).moment.core held (far_of d) (far_of e) q
      (ap (λ (f : ℕ → ℕ). but_evac (read_of (f q))) cell ∙ like.same) (ap (λ (t : Moment). t.core.stored q) (marking_frame u turn_size)) (ap (λ (f : FarSide). far_of f q) same) (h q)

  polled_hold : (u : Moment) (d e : FarSide) → e ≡ d → HoldsIn u d → HoldsIn (after_polling u) e
  polled_hold u d e same h q =
      let x = polled_same u (first_open u.core) in
      holds_beside s0 u.core held (far_of d) (after_polling u).core (far_of e) q (ap (λ (f : ℕ → ℕ). f q) x.0) (ap (λ (f : ℕ → ℕ → ℕ). f q) x.1) (ap (λ (f : FarSide). far_of f q) same) (h q)

  -- a turn
  turn_holds : (u : Moment) → Law u.core → MomentLaw u → u.copying ≡ false → (phase : Phase) → u.phase ≡ phase → (v : Moment) (tally : Tally) (d e : FarSide) →
      AsksInTurn (Unit {0}) FarSide FarWrites FarLetsGo far_bytes u phase v tally d e → v ≡ (turned (begun_turns u) phase).moment → HoldsIn u d → HoldsIn v e
  turn_holds u law moment alone Idle is v tally d e asks to h = absurd asks
  turn_holds u law moment alone Marking is v tally d e asks to h = subst (λ (x : Moment). HoldsIn x e) (sym to) (marked_hold u law d e asks h)
  turn_holds u law moment alone Waiting is v tally d e asks to h = subst (λ (x : Moment). HoldsIn x e) (sym to) (polled_hold u d e asks h)
  turn_holds u law moment alone Evacuating is v tally d e asks to h = way_holds s0 held u law moment alone is d h v tally e (asks.alone alone)

  -- where turns have led
  pub record Stands (t : Moment) (e : FarSide) : Type 0 where
    pub law : Law t.core
    pub alone : t.copying ≡ false
    pub holds : HoldsIn t e

  turns_hold : (m : Moment) → (d : FarSide) → Stands m d → (tallies : List Tally) (over : Bool) (t : Moment) (e : FarSide) → TurnsAsking (Unit {0}) FarSide FarWrites FarLetsGo far_bytes m tallies over t d e → Stands t e
  turns_hold m d h [] over t e (is, done, same) = subst (λ (x : Moment). Stands x e) (sym is) (subst (Stands m) (sym same) h)
  turns_hold m d h (tally ∷ tallies) over t e (u, between, turns, to, asks, lawful) =
      let x = turns_hold m d h tallies false u between turns in
      let leads = turn_leads (begun_turns u) x.law lawful.1 x.alone u.phase refl in
      let is : t ≡ (turned (begun_turns u) u.phase).moment = asks.1 tt in
      record {
        law = subst (λ (y : Moment). Law y.core) (sym is) leads.law;
        alone = ap (λ (y : Moment). y.copying) is ∙ leads.copying ∙ x.alone;
        holds = turn_holds u x.law lawful.1 x.alone u.phase refl t tally between e asks.0 is x.holds;
      }

  -- a round of these logs begins as it was
  begun_stands : (m : Moment) (d : FarSide) (logs : List ℕ) → Stands m d → Stands (after_selecting m logs) d
  begun_stands m d [] h = h
  begun_stands m d (l ∷ ls) h = record { law = h.law; alone = h.alone; holds = h.holds }

  pub round_holds : (m : Moment) (d : FarSide) → Stands m d → (logs : List ℕ) (turns : ℕ) (alone : Bool) (end : RoundEnd) (t : Moment) (e : FarSide) →
      RoundAsking (Unit {0}) FarSide FarWrites FarLetsGo far_bytes m logs turns alone end t d e → HoldsIn t e
  round_holds m d h [] turns alone end t e (none, is, same) = subst (λ (x : Moment). HoldsIn x e) (sym is) (subst (HoldsIn m) (sym same) h.holds)
  round_holds m d h (l ∷ ls) turns alone end t e (tallies, over, made, asking, few, tells, ends, keys) = (turns_hold (after_selecting m (l ∷ ls)) d (begun_stands m d (l ∷ ls) h) tallies over t e asking).holds

  -- one that stopped at an object
  pub broken_holds : (m : Moment) (d : FarSide) → Stands m d → (logs : List ℕ) (turns : ℕ) (so_far : Progress) (why : Refusal) (t : Moment) (e : FarSide) →
      StopsAsking (Unit {0}) FarSide FarWrites FarLetsGo far_bytes (after_selecting m logs) turns so_far why t d e → HoldsIn t e
  broken_holds m d h logs turns so_far why t e (tallies, u, between, tally, made, asking, fewer, phase, stops, refuses, sum, lawful, keys) =
      let x = turns_hold (after_selecting m logs) d (begun_stands m d logs h) tallies false u between asking in
      stop_holds s0 held u x.law lawful.1 x.alone phase between x.holds t tally why e (refuses.alone x.alone)

-- ---- from where a call began
abbrev pub HoldsCall : EvacOf Plain FarSide → EvacOf Plain FarSide → Type 0
HoldsCall old new = (q : ℕ) → HoldsAs (state_in old) (state_in new) (far_in old) (far_in new) q

begun_held : (old : EvacOf Plain FarSide) → HoldsCall old old
begun_held old q len k = inl (refl, k)

begun_still : (old : EvacOf Plain FarSide) (q : ℕ) → HoldsStill (state_in old) (state_in old) (far_in old) (far_in old) q
begun_still old q = (λ dirty. dirty, begun_held old q)

-- nothing has changed
same_held : (old new : EvacOf Plain FarSide) → new ≡ old → HoldsCall old new
same_held old new same = subst (HoldsCall old) (sym same) (begun_held old)

-- an evacuation
pub evacuated_holds : (old new : EvacOf Plain FarSide) → Law (state_in old) → MomentLaw (moment_in old) → (moment_in old).copying ≡ false → (moment_in old).phase ≡ Evacuating → (n : ℕ) (tally : Tally) →
    AsksBy (Unit {0}) FarSide FarWrites FarLetsGo far_bytes (moment_in old) n (moment_in new) tally old.book.device new.book.device → HoldsCall old new
evacuated_holds old new law moment alone phase n tally asks q =
    (way_holds (state_in old) (far_in old) (moment_in old) law moment alone phase old.book.device (begun_still old) (moment_in new) tally new.book.device (asks.alone alone) q).1

-- one that was refused
pub halted_holds : {X : Type 0} (old new : EvacOf Plain FarSide) → Law (state_in old) → MomentLaw (moment_in old) → (moment_in old).copying ≡ false → (n : ℕ) (fault : EvacFault) →
    ((moment_in old).phase ≢ Evacuating → (fault.why ≡ WrongPhase) × X × (new ≡ old)) →
    ((moment_in old).phase ≡ Evacuating → RefusesBy (Unit {0}) FarSide FarWrites FarLetsGo far_bytes (moment_in old) n (moment_in new) (tally_of fault.so_far) fault.why old.book.device new.book.device) → HoldsCall old new
halted_holds old new law moment alone n fault barred refused = elim (evacuating_or (moment_in old).phase) [
  | inl phase ↦ λ q. (stop_holds (state_in old) (far_in old) (moment_in old) law moment alone phase old.book.device (begun_still old) (moment_in new) (tally_of fault.so_far) fault.why new.book.device ((refused phase).alone alone) q).1
  | inr other ↦ same_held old new (barred other).2
]

-- a whole round
module _ (old new : EvacOf Plain FarSide) (law : Law (state_in old)) (single : (moment_in old).copying ≡ false) (turns : ℕ) where
  begun : Stands (state_in old) (far_in old) (moment_in old) old.book.device
  begun = record { law = law; alone = single; holds = begun_still old }

  abbrev First : (EvacFault → Type 0) → (EvacFault → Type 0) → EvacFault → Type 0
  First Counts X fault = Counts fault × (new ≡ old) × IsBadChoice fault.why × X fault

  abbrev Broken : (List ℕ → Type 0) → (List ℕ → EvacFault → Type 0) → EvacFault → Type 0
  Broken Gives Halts fault = (logs : List ℕ) × Gives logs × ((fault.why ≡ Memory) ⊎ (fault.why ≡ Device)) × Halts logs fault
      × StopsAsking (Unit {0}) FarSide FarWrites FarLetsGo far_bytes (after_selecting (moment_in old) logs) turns fault.so_far fault.why (moment_in new) old.book.device new.book.device

  module _ (Gives : List ℕ → Type 0) (Ended : List ℕ → RoundEnd → Type 0) (Counts X : EvacFault → Type 0) (Halts : List ℕ → EvacFault → Type 0) (K : Type 0) (so_far : Progress) where
    refused_keeps : (fault : EvacFault) → First Counts X fault ⊎ Broken Gives Halts fault → HoldsCall old new
    refused_keeps fault (inl (counts, same, bad, gave)) = same_held old new same
    refused_keeps fault (inr (logs, gives, why, halts, asked)) = λ q.
        (broken_holds (state_in old) (far_in old) (moment_in old) old.book.device begun logs turns fault.so_far fault.why (moment_in new) new.book.device asked q).1

    pub round_keeps : (r : Result RoundEnd EvacFault) →
        IfOk r (λ end. (logs : List ℕ) × Gives logs × Ended logs end × RoundAsking (Unit {0}) FarSide FarWrites FarLetsGo far_bytes (moment_in old) logs turns true end (moment_in new) old.book.device new.book.device) →
        ((why : Refusal) → unselectable (moment_in old) ≡ Some why → (r ≡ Err (record { so_far = so_far; why = why })) × (new ≡ old) × K) →
        (unselectable (moment_in old) ≡ None → IfErr r (λ fault. First Counts X fault ⊎ Broken Gives Halts fault)) → HoldsCall old new
    round_keeps (Ok end) (logs, gives, ended, asks) bars refused = λ q. (round_holds (state_in old) (far_in old) (moment_in old) old.book.device begun logs turns true end (moment_in new) new.book.device asks q).1
    round_keeps (Err fault) asked bars refused = elim (unselectable (moment_in old)) as (λ o. unselectable (moment_in old) ≡ o → HoldsCall old new) [
      | Some why ↦ λ is. same_held old new (bars why is).1
      | None ↦ λ free. refused_keeps fault (refused free)
    ] refl
