-- A script: its first bad log, and its one outcome.
use Rattle.std.proofs.Common.{◌≡◌, ℕ, zero, suc, ◌+◌, ◌<◌, ◌≤◌, ◌&&◌, ◌||◌, Bool, true, false, not, nat_lt, nat_le, Option, Some, None, MatchOption, Result, Ok, Err, List, length, take, get_or, refl, ap, sym, subst, ◌∙◌, arith, inl, inr, find}
use Rattle.std.specs.List.{range_with_len}
use Rattle.std.proofs.lemmas.Bool.{cond_both, cases_order, both_ways}
use Rattle.std.proofs.lemmas.Bool.Decides.{nat_tests}
use Rattle.std.proofs.lemmas.List.{length-take-le}
use Rattle.far_word.specs.declared.refused.Refused.{Refused}
use Rattle.far_word.specs.declared.refused.Refused.TheVariants.{BadChoice}
use Rattle.far_log.specs.declared.row.LogRow.{LogRow}
use Rattle.far_policy.specs.Logs.{is_among, logs_of}
use Rattle.far_policy.specs.Scripted.{is_bad, FollowsScript, judged, scripted}

-- ---- what is tested of a log that is named
turned : (few new here : Bool) → not (few && not new && here) ≡ (not here || new || not few)
turned true true true = refl
turned true true false = refl
turned true false true = refl
turned true false false = refl
turned false true true = refl
turned false true false = refl
turned false false true = refl
turned false false false = refl

at_most : (i most : ℕ) → not (nat_lt i most) ≡ nat_le most i
at_most i most = grind (arith, nat_tests)

-- a log may follow those before it exactly where it isn't bad
pub may_follow_says : (rows : List LogRow) (most : ℕ) (named logs : List ℕ) (i log : ℕ) (answer : Bool) → answer ≡ (nat_lt (length logs) most && not (is_among logs log) && is_among (logs_of rows) log) →
    logs ≡ take i named → i < length named → log ≡ get_or named i 0 → not answer ≡ is_bad rows most named i
may_follow_says rows most named logs i log answer says front below is =
    let long : length logs ≡ i = ap length front ∙ length-take-le i named (omega arith) in
    ap not says ∙ turned (nat_lt (length logs) most) (is_among logs log) (is_among (logs_of rows) log)
    ∙ ap (λ b. not (is_among (logs_of rows) log) || is_among logs log || b) (at_most (length logs) most)
    ∙ ap (λ n. not (is_among (logs_of rows) log) || is_among logs log || nat_le most n) long
    ∙ ap (λ (xs : List ℕ). not (is_among (logs_of rows) log) || is_among xs log || nat_le most i) front
    ∙ ap (λ l. not (is_among (logs_of rows) l) || is_among (take i named) l || nat_le most i) is

-- a search among numbers finds the first that passes
abbrev FindsFirst : (ℕ → Bool) → ℕ → ℕ → Option ℕ → Type 0
FindsFirst test a n found = MatchOption found ((k : ℕ) → a ≤ k → k < a + n → test k ≡ false)
    (λ k. (a ≤ k) × (k < a + n) × (test k ≡ true) × ((i : ℕ) → a ≤ i → i < k → test i ≡ false))

-- the number in front passes not
finds_later : (test : ℕ → Bool) (a n : ℕ) (found : Option ℕ) → test a ≡ false → FindsFirst test (a + 1) n found → FindsFirst test a (suc n) found
finds_later test a n None fails none = λ k le lt. elim (cases_order a k) [
  | inl same ↦ subst (λ i. test i ≡ false) same fails
  | inr order ↦ none k (omega arith) (omega arith)
]
finds_later test a n (Some k) fails (le, lt, passes, first) = (
  omega arith,
  omega arith,
  passes,
  λ i low high. elim (cases_order a i) [
    | inl same ↦ subst (λ i. test i ≡ false) same fails
    | inr order ↦ first i (omega arith) high
  ],
)

finds_first : (test : ℕ → Bool) (a n : ℕ) → FindsFirst test a n (find test (range_with_len a n))
finds_first test a zero = λ k le lt. absurd (omega arith)
finds_first test a (suc n) = cond_both (test a) (Some a) (find test (range_with_len (a + 1) n)) (FindsFirst test a (suc n))
    (λ passes. (omega arith, omega arith, passes, λ i low high. absurd (omega arith)))
    (λ fails. finds_later test a n (find test (range_with_len (a + 1) n)) fails (finds_first test (a + 1) n))

follows_judged : (rows : List LogRow) (most : ℕ) (named : List ℕ) (found : Option ℕ) → FindsFirst (is_bad rows most named) 0 (length named) found → FollowsScript rows most named (judged named found)
follows_judged rows most named None none = (refl, λ k lt. none k (omega arith) (omega arith))
follows_judged rows most named (Some k) (le, lt, bad, first) = (k, omega arith, bad, (λ i high. first i (omega arith) high), refl)

pub follows_script : (rows : List LogRow) (most : ℕ) (named : List ℕ) → FollowsScript rows most named (scripted rows most named)
follows_script rows most named = follows_judged rows most named (find (is_bad rows most named) (range_with_len 0 (length named))) (finds_first (is_bad rows most named) 0 (length named))

-- two places that are first are one
one_first : (test : ℕ → Bool) (k j : ℕ) → test k ≡ true → ((i : ℕ) → i < k → test i ≡ false) → test j ≡ true → ((i : ℕ) → i < j → test i ≡ false) → k ≡ j
one_first test k j here first there other = elim (cases_order k j) [
  | inl same ↦ same
  | inr order ↦ elim order [ inl below ↦ absurd (both_ways (test k) (other k below) here) | inr above ↦ absurd (both_ways (test j) (first j above) there) ]
]

pub script_is_one_lem : (rows : List LogRow) (most : ℕ) (named : List ℕ) (one other : Result (List ℕ) Refused) → FollowsScript rows most named one → FollowsScript rows most named other → one ≡ other
script_is_one_lem rows most named (Ok logs) (Ok others) (same, none) (also, never) = ap Ok (same ∙ sym also)
script_is_one_lem rows most named (Ok logs) (Err why) (same, none) (k, lt, bad, first, is) = absurd (both_ways (is_bad rows most named k) (none k lt) bad)
script_is_one_lem rows most named (Err why) (Ok logs) (k, lt, bad, first, is) (same, none) = absurd (both_ways (is_bad rows most named k) (none k lt) bad)
script_is_one_lem rows most named (Err why) (Err reason) (k, lt, bad, first, is) (j, le, ill, leads, says) =
    let same : k ≡ j = one_first (is_bad rows most named) k j bad first ill leads in
    ap Err (is ∙ ap (λ i. BadChoice (get_or named i 0)) same ∙ sym says)
