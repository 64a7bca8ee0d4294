-- A round that marks goes on: past an object that has EVAC, and to the next log.
use Rattle.std.proofs.Common.{◌≡◌, ◌≢◌, ℕ, suc, ◌+◌, ◌<◌, ◌≤◌, ◌||◌, true, false, List, [], ◌∷◌, ◌++◌, length, slice_index_or, take, drop, eqb, inl, inr, arith, ap, sym, ◌∙◌, subst}
use Rattle.std.specs.Prelude.{◌⊎◌}
pub use Rattle.std.proofs.lemmas.Bool.{or_cases as or_split}
use Rattle.std.proofs.lemmas.Bool.{eqb-true, false≢true}
use Rattle.std.proofs.lemmas.List.{drop_more, take_all}
use Rattle.far_events.specs.declared.event.Kind.TheVariants as kinds
use Rattle.far_events.specs.state.Law.{Law}
use Rattle.far_events.specs.state.State.{State}
use Rattle.far_book.specs.book.Own.{own_part}
use Rattle.far_book.specs.book.NextLive.{IsBoundary}
use Rattle.far_evac.specs.declared.phase.Phase.{Phase}
use Rattle.far_evac.specs.declared.phase.Phase.TheVariants.{Marking, Waiting, Evacuating}
use Rattle.far_evac.specs.declared.round.Round.{Round}
use Rattle.far_evac.specs.MomentLaw.{is_idle}
use Rattle.far_evac.specs.Ready.{AllMarked}
use Rattle.far_evac.specs.RoundSteps.{among}
use Rattle.far_evac.specs.Standing.{Holds, InRound, MarkedAmong, MarkedBefore, collection_of}
use Rattle.far_evac.proofs.SmallSteps.{drop_next}
use Rattle.far_evac.proofs.Keeping.{dropped_among}
use Rattle.far_evac.proofs.Bools.{or_right}
use Rattle.far_evac.proofs.OfOneKind.{sealed_used}

-- ---- phases, lists
pub not_leaving : Marking ≢ Evacuating
not_leaving e = absurd cc

pub not_waiting : Marking ≢ Waiting
not_waiting e = absurd cc

pub held_marking : (phase : Phase) (chosen : List ℕ) (i : ℕ) → phase ≡ Marking → collection_of phase chosen i ≡ chosen
held_marking phase chosen i e = ap (λ (ph : Phase). collection_of ph chosen i) e

head_of : (l k : ℕ) (ls ks xs : List ℕ) → xs ≡ l ∷ ls → xs ≡ k ∷ ks → l ≡ k
head_of l k ls ks xs e f = let both : l ∷ ls ≡ k ∷ ks = sym e ∙ f in cc

pub last_among : (xs : List ℕ) (l k : ℕ) → among (xs ++ l ∷ []) k ≡ true → (among xs k ≡ true) ⊎ (k ≡ l)
last_among [] l k h = elim (or_split (eqb k l) false h) [
  | inl e ↦ inr (eqb-true k l e)
  | inr e ↦ absurd (false≢true e)
]
last_among (x ∷ xs) l k h = elim (or_split (eqb k x) (among (xs ++ l ∷ []) k) h) [
  | inl e ↦ inl (ap (λ b. b || among xs k) e)
  | inr more ↦ elim (last_among xs l k more) [
    | inl e ↦ inl (or_right (eqb k x) (among xs k) e)
    | inr e ↦ inr e
  ]
]

pub front_is : (xs ys : List ℕ) (i n : ℕ) → ys ≡ xs → n ≡ length xs → i < n → drop i xs ≡ slice_index_or ys i 0 ∷ drop (i + 1) xs
front_is xs ys i n same len lt = drop_more xs i 0 (subst (λ k. i < k) len lt) ∙ ap (λ zs. slice_index_or zs i 0 ∷ drop (i + 1) xs) (sym same)

-- ---- a log of the collection set is one of the heap's
pub sealed_inside : (s : State) → Law (own_part s) → (l : ℕ) → s.kind l ≡ kinds.Sealed → l < s.logs
sealed_inside s law l sealed = law.logs.log_range l (sealed_used (s.kind l) sealed)

-- ---- a round that marks
module _ (s : State) (r : Round) (in_round : InRound s r) (marks : r.phase ≡ Marking) where
  pub chosen_sealed : (l : ℕ) → among r.chosen l ≡ true → s.kind l ≡ kinds.Sealed
  chosen_sealed l member = in_round.holds.sealed l (ap (λ xs. among xs l) (held_marking r.phase r.chosen r.index marks) ∙ member)

  pub all_marked : r.index ≡ length r.chosen → MarkedAmong s r.chosen
  all_marked e =
      let few : length r.chosen ≤ r.index = omega (arith, e) in
      subst (MarkedAmong s) (take_all r.index r.chosen few) (in_round.stands.marked marks)

  module _ (l : ℕ) (ls : List ℕ) (front : drop r.index r.chosen ≡ l ∷ ls) where
    pub front_inside : Law (own_part s) → l < s.logs
    front_inside law = sealed_inside s law l (chosen_sealed l (dropped_among r.chosen r.index l ls front))

    pub front_begins : IsBoundary s l r.at
    front_begins = in_round.stands.begins (ap is_idle marks) l ls front

    pub front_marked : MarkedBefore s l r.at
    front_marked = in_round.stands.marked_here marks l ls front

    -- within the log
    pub moved_on : (at : ℕ) → IsBoundary s l at → MarkedBefore s l at → InRound s record r { at = at }
    moved_on at boundary before = record {
      holds = in_round.holds;
      stands = record {
        index = in_round.stands.index;
        begins = λ running k ks e. subst (λ x. IsBoundary s x at) (head_of l k ls ks (drop r.index r.chosen) front e) boundary;
        marked = in_round.stands.marked;
        marked_here = λ marking k ks e. subst (λ x. MarkedBefore s x at) (head_of l k ls ks (drop r.index r.chosen) front e) before;
        left = λ leaves. absurd (not_leaving (sym marks ∙ leaves));
        seen = λ waits. absurd (not_waiting (sym marks ∙ waits));
        unseen = λ waits. absurd (not_waiting (sym marks ∙ waits));
      };
    }

    -- to the next log
    next_taken : take (r.index + 1) r.chosen ≡ take r.index r.chosen ++ l ∷ []
    next_taken =
        let one : r.index + 1 ≡ suc r.index = omega arith in
        ap (λ i. take i r.chosen) one ∙ (drop_next r.index r.chosen l ls front).2

    pub next_log : ((k : ℕ) → IsBoundary s k 0) → AllMarked s l → InRound s record r { index = r.index + 1; at = 0 }
    next_log start each = record {
      holds = subst (Holds s r.phase) (held_marking r.phase r.chosen r.index marks ∙ sym (held_marking r.phase r.chosen (r.index + 1) marks)) in_round.holds;
      stands = record {
        index = let more = (drop_next r.index r.chosen l ls front).1 in omega (arith, more);
        begins = λ running k ks e. start k;
        marked = λ marking p len ds place m near member.
            elim (last_among (take r.index r.chosen) l place.log (ap (λ xs. among xs place.log) (sym next_taken) ∙ member)) [
              | inl before ↦ in_round.stands.marked marks p len ds place m near before
              | inr e ↦ each p len ds place m near e
            ];
        marked_here = λ marking k ks e p len ds place m near log lt. absurd (omega (arith, lt));
        left = λ leaves. absurd (not_leaving (sym marks ∙ leaves));
        seen = λ waits. absurd (not_waiting (sym marks ∙ waits));
        unseen = λ waits. absurd (not_waiting (sym marks ∙ waits));
      };
    }
