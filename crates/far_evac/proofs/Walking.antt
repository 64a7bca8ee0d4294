-- Where a walk stands: the log in front of it, and the round once it stands elsewhere.
use Rattle.std.proofs.Common.{◌≡◌, ℕ, ◌+◌, ◌<◌, true, List, [], ◌∷◌, drop, ap, sym, ◌∙◌, subst}
use Rattle.far_word.specs.Sizes.{size_of}
use Rattle.far_log.specs.declared.span.Span.{Span}
use Rattle.far_events.specs.declared.event.Kind.TheVariants as kinds
use Rattle.far_events.specs.events.Get.{IsVacant}
use Rattle.far_events.specs.state.Law.{Law}
use Rattle.far_events.specs.state.State.{State}
use Rattle.far_book.specs.book.NextLive.{IsBoundary, live_from}
use Rattle.far_book.specs.book.Own.{own_part}
use Rattle.far_evac.specs.declared.phase.Phase.TheVariants.{Evacuating, Marking}
use Rattle.far_evac.specs.declared.round.Round.{Round}
use Rattle.far_evac.specs.AnyHand.{Knows, KnowsMoment}
use Rattle.far_evac.specs.Live.{live_in}
use Rattle.far_evac.specs.Moment.{Moment}
use Rattle.far_evac.specs.MomentLaw.{is_idle}
use Rattle.far_evac.specs.RoundSteps.{among}
use Rattle.far_evac.specs.Standing.{InRound, LiesFrom, collection_in, collection_of}
use Rattle.far_evac.proofs.Fronts.{first_begins, first_lies, vacant_in}
use Rattle.far_evac.proofs.Keeping.{dropped_among}
use Rattle.far_evac.proofs.OfOneKind.{sealed_used}

same_front : (k l : ℕ) (ks ls : List ℕ) → k ∷ ks ≡ l ∷ ls → k ≡ l
same_front k l ks ls e = cc

pub among_front : (held : List ℕ) (l : ℕ) (ls : List ℕ) → held ≡ l ∷ ls → among held l ≡ true
among_front held l ls e = dropped_among held 0 l ls e

-- ---- marks were found, and nothing else was done
pub found_moment : (m n : Moment) (t : State) (order : List ℕ) → n ≡ m → Knows n.core t → order ≡ n.order → KnowsMoment m (record n { core = t; order = order })
found_moment m n t order is knows same = subst (λ x. KnowsMoment x (record n { core = t; order = order })) is record { core = knows; rest = λ i. record n { core = t; order = same i } }

pub found_exactly : (m n : Moment) (t : State) (order : List ℕ) → n ≡ m → t ≡ n.core → order ≡ n.order → record n { core = t; order = order } ≡ m
found_exactly m n t order is core same = (λ i. record n { core = core i; order = same i }) ∙ is

-- ---- the log in front
pub drops_front : (r : Round) → r.phase ≡ Evacuating → (l : ℕ) (ls : List ℕ) → collection_in r ≡ l ∷ ls → drop r.index r.chosen ≡ l ∷ ls
drops_front r walks l ls front = sym (ap (λ phase. collection_of phase r.chosen r.index) walks) ∙ front

module _ (s : State) (r : Round) (in_round : InRound s r) (law : Law (own_part s)) (walks : r.phase ≡ Evacuating) (l : ℕ) (ls : List ℕ) (front : collection_in r ≡ l ∷ ls) where
  fronts : drop r.index r.chosen ≡ l ∷ ls
  fronts = drops_front r walks l ls front

  pub front_sealed : s.kind l ≡ kinds.Sealed
  front_sealed = in_round.holds.sealed l (among_front (collection_in r) l ls front)

  pub front_range : l < s.logs
  front_range = law.logs.log_range l (sealed_used (s.kind l) front_sealed)

  pub front_begins : IsBoundary s l r.at
  front_begins = in_round.stands.begins (ap is_idle walks) l ls fronts

  pub front_lies : LiesFrom s l r.at
  front_lies = in_round.stands.left walks l ls fronts

  pub front_vacant : live_in s l ≡ [] → IsVacant s l
  front_vacant none = vacant_in s law l r.at front_lies none

  -- the walk stands at another word of it
  pub stands_at : (at : ℕ) → IsBoundary s l at → LiesFrom s l at → InRound s (record r { at = at })
  stands_at at begins lies = let h = in_round.stands in record {
    holds = in_round.holds;
    stands = record {
      index = h.index;
      begins = λ running k ks e. subst (λ x. IsBoundary s x at) (same_front l k ls ks (sym fronts ∙ e)) begins;
      marked = h.marked;
      marked_here = λ marks k ks e. let odd : Evacuating ≡ Marking = sym walks ∙ marks in absurd cc;
      left = λ _ k ks e. subst (λ x. LiesFrom s x at) (same_front l k ls ks (sym fronts ∙ e)) lies;
      seen = h.seen;
      unseen = h.unseen;
    };
  }

  pub stands_first : (span : Span) → live_from s l r.at ≡ span ∷ live_from s l (span.at + size_of span.len) → InRound s (record r { at = span.at })
  stands_first span first = stands_at span.at (first_begins s law l r.at front_lies span first) (first_lies s law l r.at front_lies span first)
