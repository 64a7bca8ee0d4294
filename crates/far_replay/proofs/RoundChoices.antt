-- Which logs a step of the evacuator chooses: sealed ones, each once.
use Rattle.std.proofs.Common.{◌≡◌, ℕ, zero, suc, ◌+◌, ◌<◌, ◌≤◌, ◌||◌, not, nat_le, Bool, true, false, List, [], ◌∷◌, ◌++◌, length, eqb, map, take, Ok, ap, sym, refl, ◌∙◌, subst, arith, IsPermutation}
use Rattle.std.specs.List.{IsDistinct}
use Rattle.std.specs.Prelude.{slice_index}
use Rattle.std.proofs.lemmas.Bool.{cond_both}
use Rattle.std.proofs.lemmas.Bool.Decides.{nat_tests}
use Rattle.std.proofs.lemmas.Cmp.{nat_eq_equiv}
use Rattle.std.proofs.lemmas.List.{length-take-le, take_all, take_more, take-map}
use Rattle.std.proofs.lemmas.List.Sorted.{IsPermutation-cons, IsPermutation-map, IsPermutation-middle, IsPermutation-refl, IsPermutation-sym, IsPermutation-trans, list_any-IsPermutation}
use Rattle.std.proofs.lemmas.Map.Keys.{IsDistinct-IsPermutation}
use Rattle.far_log.specs.declared.row.LogRow.{LogRow}
use Rattle.far_policy.specs.Choice.{IsChoice}
use Rattle.far_policy.specs.LeastLive.{goes_before, ranked, with_row}
use Rattle.far_policy.specs.Logs.{is_among, logs_of}
use Rattle.far_policy.specs.Scripted.{FollowsScript, is_bad}
use Rattle.far_policy.proofs.Choices.{among_first, first_once, more_chosen, none_chosen}
use Rattle.far_policy.proofs.Scripts.{follows_script}
use Rattle.far_book.specs.book.Rows.{row_of}
use Rattle.far_events.specs.state.State.{State}
use Rattle.far_evac.specs.Moment.{Moment}
use Rattle.far_evac.specs.MomentLaw.{MomentLaw}
use Rattle.far_evac.specs.RoundSteps.{among}
use Rattle.far_text.specs.Command.{Choice, By, Script, Policy, Oldest, LeastLive}
use Rattle.far_replay.specs.Rounds.{chosen_by, given_by, rows_in}

-- different logs, each of them sealed
pub record Chooses (now : Moment) (logs : List ℕ) : Type 0 where
  pub once : IsDistinct eqb logs
  pub of_order : (l : ℕ) → among logs l ≡ true → among now.order l ≡ true

-- the logs of the rows are the sealed ones, in their order
pub rows_are : (s : State) (ls : List ℕ) → logs_of (map (row_of s) ls) ≡ ls
rows_are s [] = refl
rows_are s (l ∷ ls) = ap (λ (rest : List ℕ). l ∷ rest) (rows_are s ls)

-- ---- a policy
-- rows in order are the same rows
more_ranked : (row : LogRow) (rows : List LogRow) → IsPermutation (row ∷ rows) (with_row row rows)
more_ranked row [] = IsPermutation-refl (row ∷ [])
more_ranked row (other ∷ rows) = cond_both (goes_before row other) (row ∷ other ∷ rows) (other ∷ with_row row rows) (IsPermutation (row ∷ other ∷ rows))
    (λ _. IsPermutation-refl (row ∷ other ∷ rows))
    (λ _. IsPermutation-trans (row ∷ other ∷ rows) (other ∷ row ∷ rows) (other ∷ with_row row rows)
    (IsPermutation-sym (other ∷ row ∷ rows) (row ∷ other ∷ rows) (IsPermutation-middle (other ∷ []) row rows)) (IsPermutation-cons other (row ∷ rows) (with_row row rows) (more_ranked row rows)))

all_ranked : (rows : List LogRow) → IsPermutation rows (ranked rows)
all_ranked [] = IsPermutation-refl []
all_ranked (row ∷ rows) = IsPermutation-trans (row ∷ rows) (row ∷ ranked rows) (with_row row (ranked rows)) (IsPermutation-cons row rows (ranked rows) (all_ranked rows)) (more_ranked row (ranked rows))

-- the first of rows that are the sealed ones, in another order
first_of : (now : Moment) → MomentLaw now → (rows : List LogRow) → IsPermutation (rows_in now) rows → (most : ℕ) → Chooses now (take most (logs_of rows))
first_of now moment rows moved most =
    let log = λ (row : LogRow). row.log in
    let logs : IsPermutation now.order (logs_of rows) = subst (λ (xs : List ℕ). IsPermutation xs (logs_of rows)) (rows_are now.core now.order) (IsPermutation-map log (rows_in now) rows moved) in
    record {
      once = first_once most (logs_of rows) (IsDistinct-IsPermutation eqb nat_eq_equiv.symm now.order (logs_of rows) logs moment.order_once);
      of_order = λ l h. list_any-IsPermutation (eqb l) now.order (logs_of rows) logs ∙ among_first most (logs_of rows) l h;
    }

-- what a policy chooses
pub policy_chooses : (now : Moment) (policy : Policy) (most : ℕ) → MomentLaw now → Chooses now (chosen_by policy (rows_in now) most)
policy_chooses now Oldest most moment = first_of now moment (rows_in now) (IsPermutation-refl (rows_in now)) most
policy_chooses now LeastLive most moment = subst (Chooses now) (take-map (λ (row : LogRow). row.log) most (ranked (rows_in now))) (first_of now moment (ranked (rows_in now)) (all_ranked (rows_in now)) most)

-- ---- a script
none_bad : (here before full : Bool) → (not here || before || full) ≡ false → (here ≡ true) × (before ≡ false) × (full ≡ false)
none_bad here before full h = grind (arith, nat_tests)

module _ (rows : List LogRow) (most : ℕ) (named : List ℕ) (good : (k : ℕ) → k < length named → is_bad rows most named k ≡ false) where
  front_chosen : (k : ℕ) → k ≤ length named → IsChoice rows most (take k named)
  front_chosen zero le = none_chosen rows most
  front_chosen (suc k) le =
      let l : ℕ = slice_index named k in
      let lt : k < length named = omega (arith, le) in
      let parts = none_bad (is_among (logs_of rows) l) (is_among (take k named) l) (nat_le most k) (good k lt) in
      let long : length (take k named) ≡ k = length-take-le k named (omega (arith, lt)) in
      let same : k + 1 ≡ suc k = omega arith in
      let next : take (suc k) named ≡ take k named ++ l ∷ [] = sym (ap (λ n. take n named) same) ∙ take_more named k 0 lt in
      subst (IsChoice rows most) (sym next) (more_chosen rows most (take k named) l (front_chosen k (omega (arith, lt))) (grind (arith, nat_tests, parts.2, long)) parts.1 parts.0)

script_chosen : (rows : List LogRow) (most : ℕ) (named logs : List ℕ) → FollowsScript rows most named (Ok logs) → IsChoice rows most logs
script_chosen rows most named logs (same, good) =
    subst (IsChoice rows most) (take_all (length named) named (omega arith) ∙ sym same) (front_chosen rows most named good (length named) (omega arith))

-- ---- a choice
pub choice_is : (now : Moment) (choice : Choice) (most : ℕ) (logs : List ℕ) → MomentLaw now → given_by choice (rows_in now) most ≡ Ok logs → Chooses now logs
choice_is now (By policy) most logs moment is = let same : chosen_by policy (rows_in now) most ≡ logs = cc in subst (Chooses now) same (policy_chooses now policy most moment)
choice_is now (Script named) most logs moment is =
    let choice = script_chosen (rows_in now) most named logs (subst (FollowsScript (rows_in now) most named) is (follows_script (rows_in now) most named)) in
    record { once = choice.once; of_order = λ l h. subst (λ (xs : List ℕ). is_among xs l ≡ true) (rows_are now.core now.order) (choice.of_rows l h) }
