-- The calls of a call's last round, one after the other.
use Rattle.std.proofs.Common.{◌≡◌, ℕ, ◌≤◌, arith, refl, sym, ap, subst, ◌∙◌, true, false, Some, List, [], ◌∷◌, map, take, length, Result, Ok, Err, inl, inr}
use Rattle.std.specs.Prelude.{IfErr, IfOk, OnOk, ◌⊎◌, ◌==◌}
use Rattle.std.proofs.lemmas.Bool.{eqb-true, false≢true, true≢false}
use Rattle.far_word.specs.declared.refused.Refused.{Refused}
use Rattle.far_word.specs.declared.refused.Refused.TheVariants as refusals
use Rattle.far_word.specs.Pointer.{read_of}
use Rattle.far_events.specs.state.Law.{Law}
use Rattle.far_core.specs.state.Room.{free_logs}
use Rattle.far_events.specs.state.State.{State}
use Rattle.far_book.specs.book.Rows.{row_of}
use Rattle.far_hand.specs.declared.plain.Plain.{Plain}
use Rattle.far_policy.specs.Choice.{IsBadChoice}
use Rattle.far_policy.specs.Logs.{logs_of}
use Rattle.far_evac.specs.declared.phase.Phase.TheVariants.{Idle, Marking}
use Rattle.far_evac.specs.Choosing.{after_aborting, after_selecting}
use Rattle.far_evac.specs.EvacOf.{EvacOf, moment_alone}
use Rattle.far_evac.specs.Moment.{Moment}
use Rattle.far_evac.specs.MomentLaw.{MomentLaw}
use Rattle.far_evac.specs.Refusals.{unselectable}
use Rattle.far_evac.specs.RoundSteps.{among}
use Rattle.far_device.specs.declared.fault.DeviceFault.{DeviceFault}
use Rattle.far_private.specs.Causes.{IsStuck, IsWant}
use Rattle.far_private.specs.LastRound.{AreEmptied, IsBare, IsCold, SameLogs}
use Rattle.far_private.specs.Objects.{Objects, state_in}
use Rattle.far_private.specs.Steps.{Keeps}
use Rattle.far_private.proofs.Keeping.{keeps_both}
use Rattle.far_private.proofs.LastRounds.{aborted_bare, aborted_logs, same_more, same_none}
use Rattle.far_private.proofs.Rounds.{ends, selects}
use Rattle.far_private.proofs.RoundsAsked.{spent_is}
use Rattle.far_private.proofs.TwoFree.{emptied_room}

-- ---- which logs are chosen
rows_logs : (s : State) (order : List ℕ) → logs_of (map (row_of s) order) ≡ order
rows_logs s [] = refl
rows_logs s (l ∷ ls) = ap (λ xs. l ∷ xs) (rows_logs s ls)

abbrev pub Gives : Result (List ℕ) Refused → Result (List ℕ) Refused → Type 0
Gives outcome chosen = outcome ≡ chosen

pub oldest_are : (s : State) (order chosen : List ℕ) → Gives (Ok chosen) (Ok (take 2 (logs_of (map (row_of s) order)))) → chosen ≡ take 2 order
oldest_are s order chosen e = let same : chosen ≡ take 2 (logs_of (map (row_of s) order)) = cc in same ∙ ap (take 2) (rows_logs s order)

-- none only where no epoch is left
pub oldest_spent : (m : Moment) (why : Refused) (logs : List ℕ) → m.phase ≡ Idle → (unselectable m ≡ Some why) ⊎ (IsBadChoice why × Gives (Err why) (Ok logs)) → why ≡ refusals.EpochsSpent
oldest_spent m why logs idle (inl e) = spent_is m why idle e
oldest_spent m why logs idle (inr h) = let odd = h.1 in absurd cc

-- ---- what was marked before is unmarked
module _ {D : Type 0} (old mid : EvacOf Plain D) (chosen : List ℕ) (begun : moment_alone mid ≡ after_selecting (moment_alone old) chosen) where
  begun_order : (logs : List ℕ) → moment_alone mid ≡ after_selecting (moment_alone old) logs → mid.book.order ≡ old.book.order
  begun_order [] e = ap (λ (m : Moment). m.order) e
  begun_order (l ∷ ls) e = ap (λ (m : Moment). m.order) e

  pub chosen_order : mid.book.order ≡ old.book.order
  chosen_order = begun_order chosen begun

  begun_core : (logs : List ℕ) → moment_alone mid ≡ after_selecting (moment_alone old) logs → state_in mid ≡ state_in old
  begun_core [] e = ap (λ (m : Moment). m.core) e
  begun_core (l ∷ ls) e = ap (λ (m : Moment). m.core) e

  pub chosen_core : state_in mid ≡ state_in old
  chosen_core = begun_core chosen begun

  pub chosen_logs : SameLogs (state_in old) (state_in mid)
  chosen_logs = subst (SameLogs (state_in old)) (sym chosen_core) (same_none (state_in old))

  -- a round that was chosen is marking
  pub chosen_marks : (l : ℕ) (ls : List ℕ) → chosen ≡ l ∷ ls → (mid.phase ≡ Marking) × (mid.collection ≡ chosen)
  chosen_marks l ls e =
      let is = begun ∙ ap (after_selecting (moment_alone old)) e in (ap (λ (m : Moment). m.phase) is, ap (λ (m : Moment). m.collection) is ∙ sym e)

  module _ (law : Law (state_in mid)) (moment : MomentLaw (moment_alone mid)) (alone : mid.copying ≡ false) where
    module _ (new : EvacOf Plain D) (result : Result (Unit {0}) Refused) (done : IfOk result (λ _. moment_alone new ≡ after_aborting (moment_alone mid))) (idle : IfErr result (λ why. (why ≡ refusals.Phase) × (mid.phase ≡ Idle))) (same : IfErr result (λ _. new ≡ mid)) where
      pub unmarked_keeps : Keeps (state_in old) (state_in new)
      unmarked_keeps = keeps_both (state_in old) (state_in mid) (state_in new) (selects old mid chosen begun) (ends mid new law moment alone result done same)

      ended_order : (r : Result (Unit {0}) Refused) → IfOk r (λ _. moment_alone new ≡ after_aborting (moment_alone mid)) → IfErr r (λ _. new ≡ mid) → new.book.order ≡ mid.book.order
      ended_order (Ok x) e f = ap (λ (m : Moment). m.order) e
      ended_order (Err why) e f = ap (λ (x : EvacOf Plain D). x.book.order) f

      pub unmarked_order : new.book.order ≡ old.book.order
      unmarked_order = ended_order result done same ∙ chosen_order

      ended_logs : (r : Result (Unit {0}) Refused) → IfOk r (λ _. moment_alone new ≡ after_aborting (moment_alone mid)) → IfErr r (λ _. new ≡ mid) → SameLogs (state_in mid) (state_in new)
      ended_logs (Ok x) e f = subst (SameLogs (state_in mid)) (sym (ap (λ (m : Moment). m.core) e)) (aborted_logs (moment_alone mid))
      ended_logs (Err why) e f = subst (λ (x : EvacOf Plain D). SameLogs (state_in mid) (state_in x)) (sym f) (same_none (state_in mid))

      pub unmarked_logs : SameLogs (state_in old) (state_in new)
      unmarked_logs = same_more (state_in old) (state_in mid) (state_in new) chosen_logs (ended_logs result done same)

      bare_by : (logs : List ℕ) → chosen ≡ logs → (r : Result (Unit {0}) Refused) → IfOk r (λ _. moment_alone new ≡ after_aborting (moment_alone mid)) → IfErr r (λ why. (why ≡ refusals.Phase) × (mid.phase ≡ Idle)) → IsBare (state_in new) logs
      bare_by [] e r d i = λ p len ds place marks near here. absurd (false≢true here)
      bare_by (l ∷ ls) e (Ok x) d i =
          let is : mid.collection ≡ l ∷ ls = (chosen_marks l ls e).1 ∙ e in
          subst (IsBare (state_in new)) is (subst (λ (s : State). IsBare s mid.collection) (sym (ap (λ (m : Moment). m.core) d)) (aborted_bare (moment_alone mid) law moment.collection_once))
      bare_by (l ∷ ls) e (Err why) d i = let odd : Marking ≡ Idle = sym (chosen_marks l ls e).0 ∙ i.1 in absurd cc

      pub unmarked_bare : chosen ≡ take 2 old.book.order → IsBare (state_in new) (take 2 new.book.order)
      unmarked_bare are = subst (IsBare (state_in new)) (are ∙ ap (take 2) (sym unmarked_order)) (bare_by chosen refl result done idle)

-- ---- the round
-- none is sealed
pub none_room : {D : Type 0} (old mid : EvacOf Plain D) → Law (state_in old) → MomentLaw (moment_alone old) → 3 ≤ (state_in old).logs → (chosen : List ℕ) → moment_alone mid ≡ after_selecting (moment_alone old) chosen →
    chosen ≡ take 2 old.book.order → chosen ≡ [] → 2 ≤ length (free_logs (state_in mid))
none_room old mid law moment many chosen begun are none =
    emptied_room (moment_alone old) law moment (state_in mid) many
    (subst (λ ls. AreEmptied (state_in old) ls (state_in mid)) (sym none ∙ are)
    (subst (AreEmptied (state_in old) []) (sym (chosen_core old mid chosen begun)) record { many = refl; free = λ l like. absurd (false≢true like); others = λ l unlike. refl }))

-- from an old state to one whose logs are the same, and from there to one where some are emptied
pub emptied_after : (s t u : State) (logs : List ℕ) → SameLogs s t → AreEmptied t logs u → AreEmptied s logs u
emptied_after s t u logs same x = record { many = x.many ∙ same.logs; free = x.free; others = λ l unlike. x.others l unlike ∙ same.kinds l }

pub some_room : {D : Type 0} (old mid : EvacOf Plain D) (t u : State) → Law (state_in old) → MomentLaw (moment_alone old) → 3 ≤ (state_in old).logs → (chosen held : List ℕ) → moment_alone mid ≡ after_selecting (moment_alone old) chosen →
    chosen ≡ take 2 old.book.order → held ≡ chosen → SameLogs (state_in mid) t → AreEmptied t held u → 2 ≤ length (free_logs u)
some_room old mid t u law moment many chosen held begun are is same x =
    emptied_room (moment_alone old) law moment u many
    (subst (λ ls. AreEmptied (state_in old) ls u) (is ∙ are) (emptied_after (state_in old) t u held (same_more (state_in old) (state_in mid) t (chosen_logs old mid chosen begun) same) x))

pub cold_on : (s t : State) (logs held : List ℕ) → t ≡ s → held ≡ logs → IsCold s logs → IsCold t held
cold_on s t logs held same is cold = subst (IsCold t) (sym is) (subst (λ (x : State). IsCold x logs) (sym same) cold)

pub cold_cells : (s t : State) (logs held : List ℕ) → t.cell ≡ s.cell → held ≡ logs → IsCold s logs → IsCold t held
cold_cells s t logs held same is cold p len ds place marks near here =
    cold p len ds place marks (ap (λ (f : ℕ → ℕ). read_of (f p)) (sym same) ∙ near) (ap (λ ls. among ls place.log) (sym is) ∙ here)

pub chosen_cold : {D : Type 0} (old mid : EvacOf Plain D) (chosen : List ℕ) → moment_alone mid ≡ after_selecting (moment_alone old) chosen → chosen ≡ take 2 old.book.order → mid.collection ≡ chosen → IsCold (state_in old) (take 2 old.book.order) →
    IsCold (state_in mid) mid.collection
chosen_cold old mid chosen begun are held cold = cold_on (state_in old) (state_in mid) (take 2 old.book.order) mid.collection (chosen_core old mid chosen begun) (held ∙ are) cold

pub none_chosen : (logs : List ℕ) → (length logs == 0) ≡ true → logs ≡ []
none_chosen [] e = refl
none_chosen (l ∷ ls) e = let none : length (l ∷ ls) ≡ 0 = eqb-true (length (l ∷ ls)) 0 e in absurd (omega (arith, none))

pub some_chosen : (logs : List ℕ) → (length logs == 0) ≡ false → (l : ℕ) × (ls : List ℕ) × (logs ≡ l ∷ ls)
some_chosen [] e = absurd (true≢false e)
some_chosen (l ∷ ls) e = (l, ls, refl)

-- ---- where none began
module _ {D : Type 0} (old new : EvacOf Plain D) (same : new ≡ old) where
  pub stays_idle : old.phase ≡ Idle → new.phase ≡ Idle
  stays_idle idle = ap (λ (x : EvacOf Plain D). x.phase) same ∙ idle

  pub stays_order : new.book.order ≡ old.book.order
  stays_order = ap (λ (x : EvacOf Plain D). x.book.order) same

  pub stays_logs : SameLogs (state_in old) (state_in new)
  stays_logs = subst (λ (x : EvacOf Plain D). SameLogs (state_in old) (state_in x)) (sym same) (same_none (state_in old))

pub spent_want : (why : Refused) → why ≡ refusals.EpochsSpent → IsWant why
spent_want why e = subst IsWant (sym e) tt

pub spent_stuck : {D : Type 0} (writes : D → ℕ → List ℕ → Result (Unit {0}) DeviceFault → D → Type 0) (s : State) (why : Refused) → why ≡ refusals.EpochsSpent → IsStuck D writes s why
spent_stuck {D} writes s why e = subst (IsStuck D writes s) (sym e) tt

pub many_on : (s t : State) → Keeps s t → 3 ≤ s.logs → 3 ≤ t.logs
many_on s t keeps many = subst (λ n. 3 ≤ n) (sym (ap (λ (o : Objects). o.logs) keeps.objects)) many

pub ok_map : {A P Q : Type 0} (r : Result A Refused) → (P → Q) → OnOk r P → OnOk r Q
ok_map (Ok x) f p = f p
ok_map (Err why) f p = tt
