-- What the test of the event Advance says.
use Rattle.std.proofs.Common.{◌≡◌, ◌≢◌, ℕ, ◌+◌, ◌*◌, ◌<◌, ◌≤◌, ◌∙◌, Bool, true, false, cond, nat_lt, zero, suc, arith, ap, refl, sym, inl, inr, Option, Some, None}
use Rattle.std.specs.Prelude.{not, ◌||◌, ◌&&◌}
use Rattle.std.proofs.lemmas.Bool.{cases_eq, cases_lt, cond_both, false≢true, false_from_ne_true, ltb-false}
use Rattle.std.proofs.lemmas.Bool.Decides.{nat_tests}
use mathlib.Core.Path.{fun_ext}
use Rattle.far_word.specs.declared.mark.Marks.{Marks}
use Rattle.far_word.specs.declared.pointer.Place.{Place}
use Rattle.far_word.specs.declared.pointer.PtrWord.{PtrWord}
use Rattle.far_word.specs.declared.pointer.PtrWord.TheVariants as pointer
use Rattle.far_word.specs.declared.pointer.PtrWord.TheVariants.{Near, Far}
use Rattle.far_word.specs.declared.sizes.TheConstants.{CELLS, EPOCH_END, MOST_LOGS}
use Rattle.far_word.specs.Pointer.{read_of}
use Rattle.far_events.specs.declared.event.Event.TheVariants.{Advance}
use Rattle.far_events.specs.declared.event.Kind.TheVariants.{Free, Sealed}
use Rattle.far_events.specs.events.Advance.{is_among, is_marked_among, is_sealed_among, all_marked, all_sealed}
use Rattle.far_events.specs.events.Mark.{is_sealed}
use Rattle.far_events.specs.events.Step.{is_legal}
use Rattle.far_events.specs.state.Law.{Law, HasEvac}
use Rattle.far_events.specs.state.State.{State}
use Rattle.far_events.proofs.Cells.{unused}
use Rattle.far_events.proofs.Guards.{parts, sealed_fact}

-- ---- the guard: the logs
-- a log that is sealed, if it is in the set
sealed_here : (s : State) (logs l : ℕ) → is_sealed_among s logs l ≡ true → is_among logs l ≡ true → (l < s.logs) × (s.kind l ≡ Sealed)
sealed_here s logs l h among =
    let both : (nat_lt l s.logs && is_sealed (s.kind l)) ≡ true = ap (λ b. not b || (nat_lt l s.logs && is_sealed (s.kind l))) (sym among) ∙ h in
    (inside both, sealed_fact (s.kind l) (shut both)) where
      inside : (nat_lt l s.logs && is_sealed (s.kind l)) ≡ true → l < s.logs
      inside b = grind (arith, nat_tests)

      shut : (nat_lt l s.logs && is_sealed (s.kind l)) ≡ true → is_sealed (s.kind l) ≡ true
      shut b = grind (arith, nat_tests)

pub sealed_below : (s : State) (logs n l : ℕ) → all_sealed s logs n ≡ true → l < n → is_among logs l ≡ true → (l < s.logs) × (s.kind l ≡ Sealed)
sealed_below s logs zero l h lt among = absurd (omega arith)
sealed_below s logs (suc n) l h lt among = elim (cases_eq l n) [
  | inl e ↦ sealed_here s logs l (ap (is_sealed_among s logs) e ∙ (parts _ _ h).1) among
  | inr ne ↦ sealed_below s logs n l (parts _ _ h).0 (omega arith) among
]

-- one that isn't sealed shows
pub unsealed_at : (s : State) (logs n l : ℕ) → l < n → is_sealed_among s logs l ≡ false → all_sealed s logs n ≡ false
unsealed_at s logs zero l lt h = absurd (omega arith)
unsealed_at s logs (suc n) l lt h = elim (cases_eq l n) [
  | inl e ↦ false_from_ne_true _ (λ all. false≢true (sym (ap (is_sealed_among s logs) (sym e) ∙ h) ∙ (parts _ _ all).1))
  | inr ne ↦ false_from_ne_true _ (λ all. false≢true (sym (unsealed_at s logs n l (omega arith) h) ∙ (parts _ _ all).0))
]

either : (b x : Bool) → (b ≡ true → x ≡ true) → (not b || x) ≡ true
either true x h = h refl
either false x h = refl

pub sealed_all : (s : State) (logs n : ℕ) → ((l : ℕ) → is_among logs l ≡ true → (l < s.logs) × (s.kind l ≡ Sealed)) → all_sealed s logs n ≡ true
sealed_all s logs zero h = refl
sealed_all s logs (suc n) h = rw (sealed_all s logs n h) (either (is_among logs n) _ (λ among.
    let low : n < s.logs = (h n among).0 in
    let a : nat_lt n s.logs ≡ true = grind (arith, nat_tests) in
    rw (a, (h n among).1) refl))

-- a set of logs has none past the last
pub among_low : (logs l : ℕ) → is_among logs l ≡ true → l < MOST_LOGS
among_low logs l h = grind (arith, nat_tests)

-- the logs of a set in place of those of the last round
pub chosen_is : (s : State) → Law s → (logs : ℕ) → all_sealed s logs MOST_LOGS ≡ true → (λ l. cond (nat_lt l s.logs) (is_among logs l) (s.round l)) ≡ is_among logs
chosen_is s law logs h = fun_ext (λ l. cond_both (nat_lt l s.logs) (is_among logs l) (s.round l) (λ b. b ≡ is_among logs l) (λ _. refl)
    (λ past.
    let high : s.logs ≤ l = ltb-false l s.logs past in
    let out : s.round l ≡ false = false_from_ne_true _ (λ inside. absurd (let low : l < s.logs = law.logs.log_range l (λ f. let odd : Sealed ≡ Free = sym (law.rounds.round_sealed l inside) ∙ f in cc) in omega arith)) in
    let none : is_among logs l ≡ false = false_from_ne_true _ (λ among. absurd (let low : l < s.logs = (sealed_below s logs MOST_LOGS l h (among_low logs l among) among).0 in omega arith)) in
    out ∙ sym none))

-- ---- the guard: the cells
marked_fact : (logs : ℕ) (o : Option PtrWord) → is_marked_among logs o ≡ true → HasEvac (is_among logs) o
marked_fact logs None h len ds place m e inside = absurd cc
marked_fact logs (Some pointer.Free) h len ds place m e inside = absurd cc
marked_fact logs (Some (Near n d at k)) h len ds place m e inside =
    let there : at ≡ place = cc in
    let same : k ≡ m = cc in
    let chosen : is_among logs at.log ≡ true = ap (λ (x : Place). is_among logs x.log) there ∙ inside in
    sym (ap (λ (x : Marks). x.evac) same) ∙ ap (λ b. not b || k.evac) (sym chosen) ∙ h
marked_fact logs (Some (Far n d k)) h len ds place m e inside = absurd cc

marked_test : (logs : ℕ) (o : Option PtrWord) → HasEvac (is_among logs) o → is_marked_among logs o ≡ true
marked_test logs None h = refl
marked_test logs (Some pointer.Free) h = refl
marked_test logs (Some (Near n d at k)) h = either (is_among logs at.log) k.evac (h n d at k refl)
marked_test logs (Some (Far n d k)) h = refl

marked_below : (s : State) (logs n p : ℕ) → all_marked s logs n ≡ true → p < n → is_marked_among logs (read_of (s.cell p)) ≡ true
marked_below s logs zero p h lt = absurd (omega arith)
marked_below s logs (suc n) p h lt = elim (cases_eq p n) [
  | inl e ↦ ap (λ q. is_marked_among logs (read_of (s.cell q))) e ∙ (parts _ _ h).1
  | inr ne ↦ marked_below s logs n p (parts _ _ h).0 (omega arith)
]

-- one without EVAC shows
pub unmarked_at : (s : State) (logs n p : ℕ) → p < n → is_marked_among logs (read_of (s.cell p)) ≡ false → all_marked s logs n ≡ false
unmarked_at s logs n p lt h = false_from_ne_true _ (λ all. false≢true (sym h ∙ marked_below s logs n p all lt))

pub marked_all : (s : State) (logs n : ℕ) → ((p : ℕ) → HasEvac (is_among logs) (read_of (s.cell p))) → all_marked s logs n ≡ true
marked_all s logs zero h = refl
marked_all s logs (suc n) h = rw (marked_all s logs n h, marked_test logs (read_of (s.cell n)) (h n)) refl

-- a cell past the last is free
pub marked_fact_all : (s : State) → Law s → (logs : ℕ) → all_marked s logs (CELLS * s.mutators) ≡ true → (p : ℕ) → HasEvac (is_among logs) (read_of (s.cell p))
marked_fact_all s law logs h p len ds place m e inside = elim (cases_lt p (CELLS * s.mutators)) [
  | inl lt ↦ marked_fact logs _ (marked_below s logs (CELLS * s.mutators) p h lt) len ds place m e inside
  | inr le ↦ absurd (let low : p < CELLS * s.mutators = law.cells.cell_range p (λ z. let odd : Some pointer.Free ≡ Some (Near len ds place m) = sym unused ∙ ap read_of (sym z) ∙ e in cc) in omega arith)
]

-- what the test of the event says
pub advance_parts : (s : State) (logs : ℕ) → is_legal s (Advance logs) ≡ true →
    (nat_lt (s.epoch + 1) EPOCH_END ≡ true) × (all_sealed s logs MOST_LOGS ≡ true) × (all_marked s logs (CELLS * s.mutators) ≡ true)
advance_parts s logs h =
    let x = parts (nat_lt (s.epoch + 1) EPOCH_END && all_sealed s logs MOST_LOGS) (all_marked s logs (CELLS * s.mutators)) h in
    let y = parts (nat_lt (s.epoch + 1) EPOCH_END) (all_sealed s logs MOST_LOGS) x.0 in
    (y.0, y.1, x.1)
