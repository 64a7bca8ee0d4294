-- What walks and rounds spend of the flaw of a heap's device: nothing, but where a write of theirs failed, at which they stopped.
use Rattle.std.proofs.Common.{◌≡◌, ◌≢◌, ◌⊎◌, inl, inr, ℕ, zero, suc, Bool, true, false, List, [], ◌∷◌, Option, Some, None, Result, Ok, Err, refl, sym, ap, subst, ◌∙◌}
use Rattle.std.specs.Prelude.{IfErr, IfOk}
use Rattle.far_word.specs.declared.refused.Refused.{Refused as Refusal}
use Rattle.far_word.specs.declared.refused.Refused.TheVariants.{Device, Memory, Phase as WrongPhase}
use Rattle.far_events.specs.state.State.{State}
use Rattle.far_device.specs.Mem.{bytes_at}
use Rattle.far_device.specs.declared.fault.DeviceFault.TheVariants as fault
use Rattle.far_hand.specs.declared.plain.Plain.{Plain}
use Rattle.far_book.specs.book.Asking.{AsksToEvict}
use Rattle.far_policy.specs.Choice.{IsBadChoice}
use Rattle.far_evac.specs.AnyTurns.{AsksInTurn}
use Rattle.far_evac.specs.Asked.{AsksFirst, AsksOnItsWay, AsksSo, IsRefusedWrite, WalksAsking}
use Rattle.far_evac.specs.ByCopying.{AsksBy, RefusesBy}
use Rattle.far_evac.specs.Choosing.{after_selecting}
use Rattle.far_evac.specs.EvacOf.{EvacOf}
use Rattle.far_evac.specs.Moment.{Moment, Tally, tally_of}
use Rattle.far_evac.specs.Refusals.{unselectable}
use Rattle.far_evac.specs.RoundAsked.{RoundAsking, StopsAsking, TurnsAsking}
use Rattle.far_evac.proofs.TurnSteps.{turn_alone}
use Rattle.far_evac.specs.Walk.{Walked, Way, Drops, Goes, Moves, left, way_of}
use Rattle.far_evac.specs.declared.answers.EvacFault.{EvacFault}
use Rattle.far_evac.specs.declared.answers.Progress.{Progress}
use Rattle.far_evac.specs.declared.answers.RoundEnd.{RoundEnd}
use Rattle.far_evac.specs.declared.phase.Phase.{Phase}
use Rattle.far_evac.specs.declared.phase.Phase.TheVariants.{Idle, Evacuating}
use Rattle.far_word.specs.Pointer.{read_of}
use Rattle.far_replay.specs.Commanded.{Serves, Refuses}
use Rattle.far_replay.specs.Interpreter.{stopper, stopper_of}
use Rattle.far_replay.specs.Moment.{FarSide}
use Rattle.far_replay.specs.Outcome.{IsOutside}
use Rattle.far_replay.specs.Spent.{SpentBy}
use Rattle.far_replay.proofs.FarReads.{FarLetsGo, FarWrites, NoMore, go_no_more, no_more_both, same_no_more, write_done, write_fault, write_no_more}
use Rattle.far_replay.proofs.Spending.{spent_failed, spent_none, spent_same}
use Rattle.far_replay.proofs.Stopping.{evacuating_or, never_barred, never_first, why_same}

same_is : (d e : FarSide) → e ≡ d → NoMore d e
same_is d e same = subst (NoMore d) (sym same) (same_no_more d)

-- ---- an object
written : (d e : FarSide) (id : ℕ) (bytes : List ℕ) → FarWrites d id bytes (Ok tt) e → NoMore d e
written d e id bytes h = write_no_more d e id bytes (Ok tt) h (λ odd. let no : write_done ≡ write_fault fault.Device = odd in absurd cc)

object_no_more : (s : State) (p : ℕ) (way : Way) (d e : FarSide) → AsksSo FarSide FarWrites FarLetsGo s p way d e → NoMore d e
object_no_more s p Drops d e (inl goes) = go_no_more d e p goes
object_no_more s p Drops d e (inr (between, (bytes, has, writes), goes, alive)) = no_more_both d between e (written d between p bytes writes) (go_no_more between e p goes)
object_no_more s p (Moves place) d e same = same_is d e same
object_no_more s p Goes d e (inl (bytes, has, writes)) = written d e p bytes writes
object_no_more s p Goes d e (inr clean) = same_is d e clean.0

first_no_more : (w : Walked) (word : ℕ) (objects : List ℕ) (d e : FarSide) → AsksFirst FarSide FarWrites FarLetsGo w word objects d e → NoMore d e
first_no_more w word [] d e h = absurd h
first_no_more w word (p ∷ ps) d e h = object_no_more w.moment.core p (way_of w.moment.core (read_of word)) d e h

-- ---- walks and turns
walk_no_more : (m : Moment) (k : ℕ) (t : Walked) (d e : FarSide) → WalksAsking (Unit {0}) FarSide FarWrites FarLetsGo m k t d e → NoMore d e
walk_no_more m zero t d e h = same_is d e h.1
walk_no_more m (suc k) t d e (u, word, between, walks, deals, asks) = no_more_both d between e (walk_no_more m k u d between walks) (first_no_more u word (left u) between e asks.0)

way_no_more : (m t : Moment) (tally : Tally) (d e : FarSide) → AsksOnItsWay (Unit {0}) FarSide FarWrites FarLetsGo m t tally d e → NoMore d e
way_no_more m t tally d e (w, walks, ends, counts) = walk_no_more m _ w d e walks

abbrev far_bytes : FarSide → ℕ → Option (List ℕ)
far_bytes x q = bytes_at x.inner.inner q

turn_no_more : (m : Moment) → m.copying ≡ false → (phase : Phase) (t : Moment) (tally : Tally) (d e : FarSide) → AsksInTurn (Unit {0}) FarSide FarWrites FarLetsGo far_bytes m phase t tally d e → NoMore d e
turn_no_more m alone Idle t tally d e h = absurd h
turn_no_more m alone Evacuating t tally d e h = way_no_more m t tally d e (h.alone alone)
turn_no_more m alone _ t tally d e same = same_is d e same

-- no copy may be offered after them
turns_no_more : (m : Moment) → m.copying ≡ false → (tallies : List Tally) (over : Bool) (t : Moment) (d e : FarSide) → TurnsAsking (Unit {0}) FarSide FarWrites FarLetsGo far_bytes m tallies over t d e → NoMore d e × (t.copying ≡ false)
turns_no_more m alone [] over t d e h = (same_is d e h.2, ap (λ (x : Moment). x.copying) h.0 ∙ alone)
turns_no_more m alone (tally ∷ tallies) over t d e (u, between, turns, to, asks, lawful) =
    let (before, still) = turns_no_more m alone tallies false u d between turns in
    (no_more_both d between e before (turn_no_more u still u.phase t tally between e asks.0), turn_alone u t lawful still tally over to)

pub begun_alone : (m : Moment) (logs : List ℕ) → m.copying ≡ false → (after_selecting m logs).copying ≡ false
begun_alone m [] alone = alone
begun_alone m (l ∷ ls) alone = alone

round_no_more : (m : Moment) → m.copying ≡ false → (logs : List ℕ) (turns : ℕ) (alone : Bool) (end : RoundEnd) (t : Moment) (d e : FarSide) → RoundAsking (Unit {0}) FarSide FarWrites FarLetsGo far_bytes m logs turns alone end t d e → NoMore d e
round_no_more m single [] turns alone end t d e h = same_is d e h.2
round_no_more m single (l ∷ ls) turns alone end t d e (tallies, over, made, asking, few, tells, ends, keys) = (turns_no_more (after_selecting m (l ∷ ls)) single tallies over t d e asking).0

-- ---- a write that was refused
module _ (old new : EvacOf Plain FarSide) (d : FarSide) (x : NoMore old.book.device d) where
  failed_write : (s : State) (p : ℕ) → AsksToEvict FarSide FarWrites FarLetsGo s p (Err Device) d new.book.device → SpentBy (Refuses Device 0 0) old new
  failed_write s p (bytes, has, writes) =
      spent_failed old new d x (write_fault fault.Device) _ writes.0 refl (λ mem. let odd : fault.Device ≡ fault.Memory = mem.0 in absurd cc) writes.1

  wanting_write : (s : State) (p : ℕ) → AsksToEvict FarSide FarWrites FarLetsGo s p (Err Memory) d new.book.device → SpentBy Serves old new
  wanting_write s p (bytes, has, writes) =
      spent_none old new (no_more_both old.book.device d new.book.device x (write_no_more d new.book.device p bytes (Err fault.Memory) writes (λ odd. let no : fault.Memory ≡ fault.Device = err_is odd in absurd cc)))
    where
      err_is : write_fault fault.Memory ≡ write_fault fault.Device → fault.Memory ≡ fault.Device
      err_is e = cc

  stopped_spends : (s : State) (p : ℕ) (why : Refusal) → (why ≡ Memory) ⊎ (why ≡ Device) → AsksToEvict FarSide FarWrites FarLetsGo s p (Err why) d new.book.device → SpentBy (stopper_of why) old new
  stopped_spends s p why (inl memory) h =
      subst (λ w. SpentBy (stopper_of w) old new) (sym memory) (wanting_write s p (subst (λ w. AsksToEvict FarSide FarWrites FarLetsGo s p (Err w) d new.book.device) memory h))
  stopped_spends s p why (inr failed) h =
      subst (λ w. SpentBy (stopper_of w) old new) (sym failed) (failed_write s p (subst (λ w. AsksToEvict FarSide FarWrites FarLetsGo s p (Err w) d new.book.device) failed h))

refused_write : (old new : EvacOf Plain FarSide) (d : FarSide) (m t : Moment) (tally : Tally) (why : Refusal) → NoMore old.book.device d → (why ≡ Memory) ⊎ (why ≡ Device) →
    IsRefusedWrite (Unit {0}) FarSide FarWrites FarLetsGo m t tally why d new.book.device → SpentBy (stopper_of why) old new
refused_write old new d m t tally why x either h =
    stopped_spends old new h.between (no_more_both old.book.device d h.between x (walk_no_more m _ h.stood d h.between h.walks)) h.stood.moment.core h.next why either h.write

-- ---- an evacuation
pub evacuated_spends : (old new : EvacOf Plain FarSide) (m : Moment) → m.copying ≡ false → (n : ℕ) (t : Moment) (tally : Tally) → AsksBy (Unit {0}) FarSide FarWrites FarLetsGo far_bytes m n t tally old.book.device new.book.device → SpentBy Serves old new
evacuated_spends old new m alone n t tally h = spent_none old new (way_no_more m t tally old.book.device new.book.device (h.alone alone))

pub halted_spends : {X : Type 0} (old new : EvacOf Plain FarSide) (m : Moment) → m.copying ≡ false → (n : ℕ) (t : Moment) (fault : EvacFault) → (m.phase ≢ Evacuating → (fault.why ≡ WrongPhase) × X × (new ≡ old)) → (m.phase ≡ Evacuating → (fault.why ≡ Memory) ⊎ (fault.why ≡ Device)) →
    (m.phase ≡ Evacuating → RefusesBy (Unit {0}) FarSide FarWrites FarLetsGo far_bytes m n t (tally_of fault.so_far) fault.why old.book.device new.book.device) → SpentBy (stopper_of fault.why) old new
halted_spends old new m alone n t fault barred why refused = elim (evacuating_or m.phase) [
  | inl phase ↦ refused_write old new old.book.device m t (tally_of fault.so_far) fault.why (same_no_more old.book.device) (why phase) ((refused phase).alone alone)
  | inr other ↦ (let h = barred other in subst (λ w. SpentBy (stopper_of w) old new) (sym h.0) (spent_same old new (ap (λ (x : EvacOf Plain FarSide). x.book.device) h.2)))
]

-- ---- a round
module _ (old new : EvacOf Plain FarSide) (m : Moment) (single : m.copying ≡ false) (t : Moment) (turns : ℕ) where
  pub ended_spends : (Gives : List ℕ → Type 0) (Ended : List ℕ → RoundEnd → Type 0) (end : RoundEnd) →
      (logs : List ℕ) × Gives logs × Ended logs end × RoundAsking (Unit {0}) FarSide FarWrites FarLetsGo far_bytes m logs turns true end t old.book.device new.book.device → SpentBy Serves old new
  ended_spends Gives Ended end (logs, gives, round, asks) = spent_none old new (round_no_more m single logs turns true end t old.book.device new.book.device asks)

  -- one that is refused before it began
  first_spends : (why : Refusal) → new ≡ old → ¬ IsOutside why → SpentBy (stopper_of why) old new
  first_spends Device same never = absurd (never (inr refl))
  first_spends Memory same never = absurd (never (inl refl))
  first_spends why same never = spent_same old new (ap (λ (x : EvacOf Plain FarSide). x.book.device) same)

  -- or in its midst
  broken_spends : (logs : List ℕ) (fault : EvacFault) → (fault.why ≡ Memory) ⊎ (fault.why ≡ Device) →
      StopsAsking (Unit {0}) FarSide FarWrites FarLetsGo far_bytes (after_selecting m logs) turns fault.so_far fault.why t old.book.device new.book.device → SpentBy (stopper_of fault.why) old new
  broken_spends logs fault either (tallies, u, between, tally, made, asking, fewer, phase, stops, refuses, sum, lawful, keys) =
      let (before, still) = turns_no_more (after_selecting m logs) (begun_alone m logs single) tallies false u old.book.device between asking in
      refused_write old new between u t tally fault.why before either (refuses.alone still)

  abbrev First : (EvacFault → Type 0) → (EvacFault → Type 0) → EvacFault → Type 0
  First Counts X fault = Counts fault × (new ≡ old) × IsBadChoice fault.why × X fault

  abbrev Broken : (List ℕ → Type 0) → (List ℕ → EvacFault → Type 0) → EvacFault → Type 0
  Broken Gives Halts fault = (logs : List ℕ) × Gives logs × ((fault.why ≡ Memory) ⊎ (fault.why ≡ Device)) × Halts logs fault
      × StopsAsking (Unit {0}) FarSide FarWrites FarLetsGo far_bytes (after_selecting m logs) turns fault.so_far fault.why t old.book.device new.book.device

  module _ (Gives : List ℕ → Type 0) (Ended : List ℕ → RoundEnd → Type 0) (Counts X : EvacFault → Type 0) (Halts : List ℕ → EvacFault → Type 0) (K : Type 0) (so_far : Progress) where
    refused_spends : (fault : EvacFault) → First Counts X fault ⊎ Broken Gives Halts fault → SpentBy (stopper_of fault.why) old new
    refused_spends fault (inl (counts, same, bad, gave)) = first_spends fault.why same (never_first fault bad)
    refused_spends fault (inr (logs, gives, either, halts, asked)) = broken_spends logs fault either asked

    pub round_spends : (r : Result RoundEnd EvacFault) →
        IfOk r (λ end. (logs : List ℕ) × Gives logs × Ended logs end × RoundAsking (Unit {0}) FarSide FarWrites FarLetsGo far_bytes m logs turns true end t old.book.device new.book.device) →
        ((why : Refusal) → unselectable m ≡ Some why → (r ≡ Err (record { so_far = so_far; why = why })) × (new ≡ old) × K) →
        (unselectable m ≡ None → IfErr r (λ fault. First Counts X fault ⊎ Broken Gives Halts fault)) → SpentBy (stopper r) old new
    round_spends (Ok end) asked bars refused = ended_spends Gives Ended end asked
    round_spends (Err fault) asked bars refused = elim (unselectable m) as (λ o. unselectable m ≡ o → SpentBy (stopper_of fault.why) old new) [
      | Some why ↦ λ is.
          let h = bars why is in
          let same : fault.why ≡ why = why_same fault (record { so_far = so_far; why = why }) h.0 in
          first_spends fault.why h.1 (never_barred m fault.why (is ∙ ap Some (sym same)))
      | None ↦ λ free. refused_spends fault (refused free)
    ] refl
