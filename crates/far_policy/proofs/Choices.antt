-- What the first logs of a list are, and one log more.
use Rattle.std.proofs.Common.{◌≡◌, ℕ, zero, suc, ◌+◌, ◌<◌, ◌≤◌, Bool, true, false, ◌&&◌, not, nat_lt, eqb, min, List, [], ◌∷◌, ◌++◌, length, take, map, get_or, refl, ap, sym, subst, ◌∙◌, arith, IsPermutation, ⊎_elim}
use Rattle.std.specs.List.{IsDistinct}
use Rattle.std.proofs.lemmas.Bool.{eqb-true, eq-eqb, ltb-true, not-true, and_parts, or_left, or_right, or_cases}
use Rattle.std.proofs.lemmas.Cmp.{nat_eq_equiv}
use Rattle.std.proofs.lemmas.Grind.{common_steps}
use Rattle.std.proofs.lemmas.List.{length-map, length-take, length-take-le, get_or-take, take_more, take_all, take_min, take-map, map-append}
use Rattle.std.proofs.lemmas.List.Folds.{list_any-append}
use Rattle.std.proofs.lemmas.List.Recursion.{or_at}
use Rattle.std.proofs.lemmas.List.Sorted.{IsPermutation-map, list_any-IsPermutation}
use Rattle.std.proofs.lemmas.Map.Keys.{apart_from_distinct, IsDistinct-from_apart, IsDistinct-IsPermutation, IsDistinct-push}
use Rattle.std.proofs.lemmas.Map.Steps.{length-le_from_distinct_below}
use Rattle.far_word.specs.declared.sizes.TheConstants.{MOST_LOGS}
use Rattle.far_log.specs.declared.row.LogRow.{LogRow}
use Rattle.far_policy.specs.Choice.{IsChoice}
use Rattle.far_policy.specs.Logs.{is_among, logs_of, AreRows}

-- there are no more rows than logs
pub few_rows : (rows : List LogRow) → AreRows rows → length rows ≤ MOST_LOGS
few_rows rows are =
    let few : length (logs_of rows) ≤ MOST_LOGS = length-le_from_distinct_below (logs_of rows) MOST_LOGS are.once are.range in
    omega (arith, few, length-map rows (λ (row : LogRow). row.log))

-- who is among the first is among all
pub among_first : (n : ℕ) (logs : List ℕ) (l : ℕ) → is_among (take n logs) l ≡ true → is_among logs l ≡ true
among_first zero logs l h = absurd (cc)
among_first (suc n) [] l h = absurd (cc)
among_first (suc n) (x ∷ logs) l h = ⊎_elim (λ e. or_left (eqb l x) (is_among logs l) e) (λ e. or_right (eqb l x) (is_among logs l) (among_first n logs l e)) (or_cases (eqb l x) (is_among (take n logs) l) h)

-- the first of different logs are different
pub first_once : (n : ℕ) (logs : List ℕ) → IsDistinct eqb logs → IsDistinct eqb (take n logs)
first_once n logs once = IsDistinct-from_apart eqb (take n logs) (λ i j d lt le.
    let long = length-take n logs in
    let lower : i < n = omega arith in
    let upper : j < n = omega arith in
    rw (get_or-take n logs i d lower, get_or-take n logs j d upper) (apart_from_distinct eqb logs i j d once lt (omega arith)))

-- the logs of the first rows, in any order of the rows
pub first_chosen : (rows ranked : List LogRow) (most : ℕ) → AreRows rows → IsPermutation rows ranked → IsChoice rows most (take most (logs_of ranked))
first_chosen rows ranked most are moved =
    let logs : IsPermutation (logs_of rows) (logs_of ranked) = IsPermutation-map (λ (row : LogRow). row.log) rows ranked moved in
    record {
      once = first_once most (logs_of ranked) (IsDistinct-IsPermutation eqb nat_eq_equiv.symm (logs_of rows) (logs_of ranked) logs are.once);
      of_rows = λ l h. list_any-IsPermutation (eqb l) (logs_of rows) (logs_of ranked) logs ∙ among_first most (logs_of ranked) l h;
      few = omega (arith, length-take most (logs_of ranked));
    }

-- no log
pub none_chosen : (rows : List LogRow) (most : ℕ) → IsChoice rows most []
none_chosen rows most = record {
  once = IsDistinct-from_apart eqb [] (λ i j d lt le. absurd (omega arith));
  of_rows = λ l h. absurd (cc);
  few = omega arith;
}

-- one log more
pub more_chosen : (rows : List LogRow) (most : ℕ) (logs : List ℕ) (l : ℕ) → IsChoice rows most logs → length logs < most → is_among logs l ≡ false → is_among (logs_of rows) l ≡ true → IsChoice rows most (logs ++ l ∷ [])
more_chosen rows most logs l choice room new here = record {
  once = IsDistinct-push nat_eq_equiv logs l choice.once new;
  of_rows = λ k h. ⊎_elim (λ old. choice.of_rows k old)
      (λ last. ⊎_elim (λ same. subst (λ q. is_among (logs_of rows) q ≡ true) (sym (eqb-true k l same)) here) (λ none. absurd (cc)) (or_cases (eqb k l) false last))
      (or_cases (is_among logs k) (is_among (l ∷ []) k) (sym (list_any-append (eqb k) logs (l ∷ [])) ∙ h));
  few = grind (arith, common_steps);
}

-- a choice leaves room for one of the rows that isn't in it
pub room_for : (rows : List LogRow) (most : ℕ) (logs : List ℕ) (l : ℕ) → AreRows rows → IsChoice rows most (logs ++ l ∷ []) → length logs < MOST_LOGS
room_for rows most logs l are choice =
    let few : length (logs ++ l ∷ []) ≤ MOST_LOGS = length-le_from_distinct_below (logs ++ l ∷ []) MOST_LOGS choice.once (λ q h. are.range q (choice.of_rows q h)) in
    grind (arith, common_steps)

-- the logs of one row more
pub first_more : (rows : List LogRow) (i : ℕ) (d : LogRow) → i < length rows → logs_of (take (i + 1) rows) ≡ logs_of (take i rows) ++ (get_or rows i d).log ∷ []
first_more rows i d lt = ap logs_of (take_more rows i d lt) ∙ map-append (λ (row : LogRow). row.log) (take i rows) (get_or rows i d ∷ [])

-- a row has the log
pub among_rows : (rows : List LogRow) (l i : ℕ) (d : LogRow) → i < length rows → eqb l (get_or rows i d).log ≡ true → is_among (logs_of rows) l ≡ true
among_rows rows l = or_at (λ (xs : List LogRow). is_among (logs_of xs) l) (λ (row : LogRow). eqb l row.log) refl (λ _ _. refl) rows

-- no row, and one row more
pub no_rows : AreRows []
no_rows = record {
  once = IsDistinct-from_apart eqb [] (λ i j d lt le. absurd (omega arith));
  range = λ l h. absurd (cc);
}

pub more_rows : (rows : List LogRow) (i : ℕ) (d : LogRow) → i < length rows → AreRows (take i rows) → (get_or rows i d).log < MOST_LOGS → is_among (logs_of (take i rows)) (get_or rows i d).log ≡ false → AreRows (take (i + 1) rows)
more_rows rows i d lt are below new =
    let log : ℕ = (get_or rows i d).log in
    let logs : List ℕ = logs_of (take i rows) in
    let more : logs_of (take (i + 1) rows) ≡ logs ++ log ∷ [] = first_more rows i d lt in
    record {
      once = subst (IsDistinct eqb) (sym more) (IsDistinct-push nat_eq_equiv logs log are.once new);
      range = λ l h. ⊎_elim (λ old. are.range l old)
          (λ last. ⊎_elim (λ same. subst (λ k. k < MOST_LOGS) (sym (eqb-true l log same)) below) (λ none. absurd (cc)) (or_cases (eqb l log) false last))
          (or_cases (is_among logs l) (is_among (log ∷ []) l) (sym (list_any-append (eqb l) logs (log ∷ [])) ∙ ap (λ (xs : List ℕ). is_among xs l) (sym more) ∙ h));
    }

-- a row whose log wasn't seen in those before it: one row more, and there is room for its log
module _ (rows : List LogRow) (i : ℕ) (d : LogRow) (seen : List ℕ) (lt : i < length rows) (are : AreRows (take i rows) × (seen ≡ logs_of (take i rows))) (below : (get_or rows i d).log < MOST_LOGS) (new : is_among seen (get_or rows i d).log ≡ false) where
  pub seen_more : AreRows (take (i + 1) rows)
  seen_more = more_rows rows i d lt are.0 below (sym (ap (λ (xs : List ℕ). is_among xs (get_or rows i d).log) are.1) ∙ new)

  pub room_behind : length seen < MOST_LOGS
  room_behind =
      let few : length (take (i + 1) rows) ≤ MOST_LOGS = few_rows (take (i + 1) rows) seen_more in
      let long : length seen ≡ i = ap length are.1 ∙ length-map (take i rows) (λ (row : LogRow). row.log) ∙ length-take-le i rows (omega arith) in
      omega (arith, few, long, length-take-le (i + 1) rows (omega arith))

-- the logs of the rows seen, and the next
pub seen_logs : (rows : List LogRow) (i : ℕ) (d : LogRow) (old new : List ℕ) → new ≡ old ++ (get_or rows i d).log ∷ [] → old ≡ logs_of (take i rows) → i < length rows → new ≡ logs_of (take (i + 1) rows)
seen_logs rows i d old new is front lt = is ∙ ap (λ (xs : List ℕ). xs ++ (get_or rows i d).log ∷ []) front ∙ sym (first_more rows i d lt)

-- the log of one row
pub one_chosen : (rows : List LogRow) (most i : ℕ) (d : LogRow) (old new : List ℕ) → old ≡ [] → new ≡ old ++ (get_or rows i d).log ∷ [] → i < length rows → 0 < most → IsChoice rows most new
one_chosen rows most i d old new empty is lt room =
    let log : ℕ = (get_or rows i d).log in
    subst (IsChoice rows most) (sym (is ∙ ap (λ (xs : List ℕ). xs ++ log ∷ []) empty)) (more_chosen rows most [] log (none_chosen rows most) room refl (among_rows rows log i d lt (eq-eqb log log refl)))

-- the front of named logs and the next
pub front_more : (named : List ℕ) (i l : ℕ) (old new : List ℕ) → new ≡ old ++ l ∷ [] → old ≡ take i named → i < length named → l ≡ get_or named i 0 → new ≡ take (i + 1) named
front_more named i l old new is front lt next = is ∙ ap (λ (xs : List ℕ). xs ++ l ∷ []) front ∙ ap (λ k. take i named ++ k ∷ []) next ∙ sym (take_more named i 0 lt)

-- the front of the front is the front
pub front_of_front : (rows : List LogRow) (most n i : ℕ) (logs : List ℕ) → n ≡ min most (length rows) → logs ≡ logs_of (take i (take n rows)) → length (take n rows) ≤ i → logs ≡ take most (logs_of rows)
front_of_front rows most n i logs least says past =
    says ∙ ap logs_of (take_all i (take n rows) past ∙ ap (λ k. take k rows) least ∙ take_min most rows) ∙ sym (take-map (λ (row : LogRow). row.log) most rows)

-- one log more, where this is what was asked of it
pub may_more : (rows : List LogRow) (most : ℕ) (logs : List ℕ) (l : ℕ) (answer : Bool) → IsChoice rows most logs → answer ≡ (nat_lt (length logs) most && not (is_among logs l) && is_among (logs_of rows) l) → answer ≡ true → IsChoice rows most (logs ++ l ∷ [])
may_more rows most logs l answer choice asked says =
    let both = and_parts (nat_lt (length logs) most && not (is_among logs l)) (is_among (logs_of rows) l) (sym asked ∙ says) in
    let front = and_parts (nat_lt (length logs) most) (not (is_among logs l)) both.0 in
    more_chosen rows most logs l choice (ltb-true (length logs) most front.0) (not-true (is_among logs l) front.1) both.1

-- rows that tell of logs have these logs
logs_told : (logs : List ℕ) (row : ℕ → LogRow) → ((l : ℕ) → (row l).log ≡ l) → logs_of (map row logs) ≡ logs
logs_told [] row tells = refl
logs_told (l ∷ logs) row tells = let head = tells l in let rest = logs_told logs row tells in (cc)

pub rows_told : (logs : List ℕ) (row : ℕ → LogRow) → ((l : ℕ) → (row l).log ≡ l) → IsDistinct eqb logs → ((l : ℕ) → is_among logs l ≡ true → l < MOST_LOGS) → AreRows (map row logs) × (logs_of (map row logs) ≡ logs)
rows_told logs row tells once range =
    let same : logs_of (map row logs) ≡ logs = logs_told logs row tells in
    (record { once = subst (IsDistinct eqb) (sym same) once; range = λ l h. range l (sym (ap (λ (xs : List ℕ). is_among xs l) same) ∙ h) }, same)
