-- Two free logs, and room.
use Rattle.std.proofs.Common.{◌≡◌, ◌≢◌, ℕ, zero, suc, ◌+◌, ◌<◌, ◌≤◌, nat_le, arith, refl, sym, ap, subst, ◌∙◌, Bool, true, false, eqb, Option, Some, None, List, [], ◌∷◌, length, take, inl, inr}
use Rattle.std.specs.Prelude.{Contains, ◌||◌}
use Rattle.std.specs.List.{IsDistinct, range_with_len}
use Rattle.std.proofs.lemmas.Bool.{cases_eq, cond_both, eq-eqb, eqb-false, false≢true, true≢false}
use Rattle.far_word.specs.declared.pointer.Place.{Place}
use Rattle.far_word.specs.declared.pointer.PtrWord.{PtrWord}
use Rattle.far_word.specs.declared.sizes.TheConstants.{LOG_WORDS}
use Rattle.far_word.specs.Pointer.{read_of}
use Rattle.far_word.specs.Sizes.{size_of}
use Rattle.far_log.proofs.Members.{here, none_in, split, there}
use Rattle.far_events.specs.declared.event.Kind.{Kind}
use Rattle.far_events.specs.declared.event.Kind.TheVariants as kinds
use Rattle.far_events.specs.events.Mark.{is_sealed}
use Rattle.far_events.specs.state.Law.{Law}
use Rattle.far_core.specs.state.Room.{free_logs, is_free, lowest, room}
use Rattle.far_events.specs.state.State.{State}
use Rattle.far_book.specs.book.Dealing.{goal, goal_of}
use Rattle.far_evac.specs.Moment.{Moment}
use Rattle.far_evac.specs.MomentLaw.{MomentLaw}
use Rattle.far_evac.specs.RoundSteps.{among}
use Rattle.far_evac.proofs.Fronts.{kept_in}
use Rattle.far_alone.specs.Dereference.{says_near}
use Rattle.far_alone.proofs.Bringing.{near_is}
use Rattle.far_private.specs.LastRound.{AreEmptied}

-- ---- where two logs are free there is room
lowest_some : (reserve : Bool) (logs : List ℕ) → 2 ≤ length logs → lowest reserve logs ≢ None
lowest_some reserve [] two e = omega (arith, two)
lowest_some reserve (l ∷ []) two e = omega (arith, two)
lowest_some true (l ∷ k ∷ ls) two e = absurd cc
lowest_some false (l ∷ k ∷ ls) two e = absurd cc

some_not : {X : Type 0} (x : X) → Some x ≢ None
some_not x e = absurd cc

pub roomy : (s : State) (size : ℕ) (reserve : Bool) → 2 ≤ length (free_logs s) → room s size reserve ≢ None
roomy s size reserve two = cond_both (nat_le (s.tail s.current + size) LOG_WORDS) (Some record { log = s.current; at = s.tail s.current }) (lowest reserve (free_logs s)) (λ (o : Option Place). o ≢ None)
    (λ _. some_not record { log = s.current; at = s.tail s.current }) (λ _. lowest_some reserve (free_logs s) two)

-- a near object has where to go, or stays
near_goal : (s : State) (o : Option PtrWord) → says_near o ≡ true → 2 ≤ length (free_logs s) → goal_of s o ≢ None
near_goal s o near two =
    let said = near_is o near in
    subst (λ x. goal_of s x ≢ None) (sym said.is)
    (cond_both said.marks.evac (room s (size_of said.len) false) (Some said.place) (λ (x : Option Place). x ≢ None) (λ _. roomy s (size_of said.len) false two) (λ _. some_not said.place))

pub roomy_goal : (s : State) (p : ℕ) → says_near (read_of (s.cell p)) ≡ true → 2 ≤ length (free_logs s) → goal s p ≢ None
roomy_goal s p near two = near_goal s (read_of (s.cell p)) near two

-- ---- two of a list
two_in : (xs : List ℕ) (a b : ℕ) → a ≢ b → Contains xs a → Contains xs b → 2 ≤ length xs
two_in [] a b ne there_a there_b = absurd (none_in a there_a)
two_in (x ∷ []) a b ne there_a there_b = elim (split a x [] there_a) [
  | inl e ↦ elim (split b x [] there_b) [
    | inl f ↦ absurd (ne (sym e ∙ f))
    | inr more ↦ absurd (none_in b more)
  ]
  | inr more ↦ absurd (none_in a more)
]
two_in (x ∷ y ∷ ys) a b ne there_a there_b = omega arith

in_range : (n from k : ℕ) → from ≤ k → k < from + n → Contains (range_with_len from n) k
in_range zero from k low high = absurd (omega (arith, low, high))
in_range (suc n) from k low high = elim (cases_eq from k) [
  | inl e ↦ subst (λ x. Contains (range_with_len from (suc n)) x) e (here from (range_with_len (from + 1) n))
  | inr ne ↦ there k from (range_with_len (from + 1) n) (in_range n (from + 1) k (omega (arith, low, ne)) (omega (arith, high)))
]

pub two_free : (t : State) (a b : ℕ) → a ≢ b → a < t.logs → b < t.logs → t.kind a ≡ kinds.Free → t.kind b ≡ kinds.Free → 2 ≤ length (free_logs t)
two_free t a b ne low_a low_b free_a free_b =
    let all : List ℕ = range_with_len 0 t.logs in
    two_in (free_logs t) a b ne
    (kept_in (λ l. is_free (t.kind l)) a all (ap is_free free_a) (in_range t.logs 0 a (omega arith) (omega (arith, low_a))))
    (kept_in (λ l. is_free (t.kind l)) b all (ap is_free free_b) (in_range t.logs 0 b (omega arith) (omega (arith, low_b))))

-- of three logs two aren't the open one
all_but_one : (t : State) (c : ℕ) → 3 ≤ t.logs → ((l : ℕ) → l ≢ c → t.kind l ≡ kinds.Free) → 2 ≤ length (free_logs t)
all_but_one t c many free = elim (cases_eq c 0) [
  | inl e ↦ two_free t 1 2 (λ x. omega (arith, x)) (omega (arith, many)) (omega (arith, many)) (free 1 (λ x. omega (arith, e, x))) (free 2 (λ x. omega (arith, e, x)))
  | inr unlike ↦ elim (cases_eq c 1) [
    | inl e ↦ two_free t 0 2 (λ x. omega (arith, x)) (omega (arith, many)) (omega (arith, many)) (free 0 (λ x. omega (arith, e, x))) (free 2 (λ x. omega (arith, e, x)))
    | inr nor ↦ two_free t 0 1 (λ x. omega (arith, x)) (omega (arith, many)) (omega (arith, many)) (free 0 (λ x. unlike (sym x))) (free 1 (λ x. nor (sym x)))
  ]
]

-- ---- once the two oldest logs were given back two are free
unsealed : (k : Kind) → is_sealed k ≡ false → k ≢ kinds.Open → k ≡ kinds.Free
unsealed kinds.Free unlike not = refl
unsealed kinds.Open unlike not = absurd (not refl)
unsealed kinds.Sealed unlike not = absurd (true≢false unlike)

sealed_some : (k : Kind) → is_sealed k ≡ true → k ≢ kinds.Free
sealed_some k like e = false≢true (sym (ap is_sealed e) ∙ like)

pub by_either : {X : Type 0} (b : Bool) → (b ≡ true → X) → (b ≡ false → X) → X
by_either true f g = f refl
by_either false f g = g refl

module _ (m : Moment) (law : Law m.core) (moment : MomentLaw m) (t : State) (many : 3 ≤ m.core.logs) where
  -- where all sealed ones were, each is free but the open one
  few_sealed : (logs : List ℕ) → m.order ≡ logs → AreEmptied m.core logs t → 2 ≤ length (free_logs t)
  few_sealed logs is x = all_but_one t m.core.current (omega (arith, many, x.many)) (λ l other. by_either (among logs l) (x.free l)
      (λ unlike. x.others l unlike ∙ unsealed (m.core.kind l) (sym (moment.order l) ∙ ap (λ ls. among ls l) is ∙ unlike) (λ opens. other (law.logs.one_open l opens))))

  first_among : (a : ℕ) (ls : List ℕ) → among (a ∷ ls) a ≡ true
  first_among a ls = ap (λ b. b || among ls a) (eq-eqb a a refl)

  then_among : (a b : ℕ) (ls : List ℕ) → among (a ∷ b ∷ ls) b ≡ true
  then_among a b ls = by_either (eqb b a) (λ e. ap (λ x. x || among (b ∷ ls) b) e) (λ e. ap (λ x. x || among (b ∷ ls) b) e ∙ first_among b ls)

  in_heap : (l : ℕ) → among m.order l ≡ true → t.logs ≡ m.core.logs → l < t.logs
  in_heap l member same = subst (λ n. l < n) (sym same) (law.logs.log_range l (sealed_some (m.core.kind l) (sym (moment.order l) ∙ member)))

  two_sealed : (a b : ℕ) (ls : List ℕ) → m.order ≡ a ∷ b ∷ ls → AreEmptied m.core (a ∷ b ∷ []) t → 2 ≤ length (free_logs t)
  unfolding IsDistinct
  two_sealed a b ls is x =
      let once : IsDistinct eqb (a ∷ b ∷ ls) = subst (IsDistinct eqb) is moment.order_once in
      two_free t a b (eqb-false a b once.0.0) (in_heap a (ap (λ l. among l a) is ∙ first_among a (b ∷ ls)) x.many) (in_heap b (ap (λ l. among l b) is ∙ then_among a b ls) x.many)
      (x.free a (first_among a (b ∷ []))) (x.free b (then_among a b []))

  pub emptied_room : AreEmptied m.core (take 2 m.order) t → 2 ≤ length (free_logs t)
  emptied_room = by m.order refl where
    by : (logs : List ℕ) → m.order ≡ logs → AreEmptied m.core (take 2 logs) t → 2 ≤ length (free_logs t)
    by [] is x = few_sealed [] is x
    by (a ∷ []) is x = few_sealed (a ∷ []) is x
    by (a ∷ b ∷ ls) is x = two_sealed a b ls is x
