-- Which logs a walk gives back: those in front, which leave the round.
use Rattle.std.proofs.Common.{◌≡◌, ℕ, ◌≤◌, false, List, [], ◌∷◌, length, take, drop, arith, ap, sym, refl, ◌∙◌, subst}
use Rattle.std.specs.List.{AllByRecursion}
use Rattle.far_events.specs.state.State.{State}
use Rattle.far_events.proofs.Put.{put_both, put_same}
use Rattle.far_evac.specs.AnyHand.{KnowsWalked, WalksTo}
use Rattle.far_evac.specs.Dealings.{GivesBack}
use Rattle.far_evac.specs.Moment.{Moment}
use Rattle.far_evac.specs.Ready.{Ready}
use Rattle.far_evac.specs.Walk.{Walked, freed}
use Rattle.far_evac.proofs.Framed.{so_one}
use Rattle.far_evac.proofs.LiveOnce.{all_append, each_map, one_more}
use Rattle.far_evac.proofs.SmallSteps.{Keeps, drop_next, holding, lifted_walks}

record Given (all : List ℕ) (w : Walked) : Type 0 where
  held : w.moment.collection ≡ drop w.tally.freed all
  most : w.tally.freed ≤ length all
  gone : AllByRecursion (λ l. w.moment.core.round l ≡ false) (take w.tally.freed all)

next_given : (all : List ℕ) (w : Walked) (l : ℕ) (ls : List ℕ) → Given all (holding w (l ∷ ls)) → Given all (holding (freed w l) ls)
next_given all w l ls g =
    let next = drop_next w.tally.freed all l ls (sym g.held) in
    let more = one_more w.tally.freed in record {
      held = sym next.0 ∙ ap (λ n. drop n all) more;
      most = subst (λ n. n ≤ length all) more next.1;
      gone = subst (λ n. AllByRecursion (λ k. (freed w l).moment.core.round k ≡ false) (take n all)) more
          (subst (AllByRecursion (λ k. (freed w l).moment.core.round k ≡ false)) (sym next.2)
          (all_append (λ k. (freed w l).moment.core.round k ≡ false) (take w.tally.freed all) (l ∷ [])
          (each_map (λ k h. put_both (λ b. b ≡ false) w.moment.core.round l false k (λ _. refl) (λ _. h)) (take w.tally.freed all) g.gone)
          (put_same w.moment.core.round l false l refl, tt)));
    }

known_given : (all : List ℕ) (w t : Walked) → KnowsWalked w t → Given all w → Given all t
known_given all w t known g =
    let sums : t.tally.freed ≡ w.tally.freed = ap (λ tally. tally.freed) known.tally in
    record {
      held = ap (λ (m : Moment). m.collection) known.moment.rest ∙ g.held ∙ sym (ap (λ n. drop n all) sums);
      most = subst (λ n. n ≤ length all) (sym sums) g.most;
      gone = subst (λ n. AllByRecursion (λ l. t.moment.core.round l ≡ false) (take n all)) (sym sums)
          (each_map (λ l h. ap (λ (u : State). u.round l) known.moment.core.rest ∙ h) (take w.tally.freed all) g.gone);
    }

keeps_given : (m : Moment) → Keeps false m (λ k. Given m.collection)
keeps_given m = record {
  learns = λ k. known_given m.collection;
  gives = λ k w l ls ready none. next_given m.collection w l ls;
  deals = λ k w l ls p ps way first g. record {
    held = g.held;
    most = g.most;
    gone = each_map (λ j h. ap (λ (u : State). u.round j) (so_one w.moment.core p way).frame ∙ h) (take w.tally.freed m.collection) g.gone;
  };
}

pub gives_back : (m : Moment) (k : ℕ) (t : Walked) → Ready m.core m.collection → WalksTo m k t → GivesBack m t.moment t.tally.freed
gives_back m k t ready walks =
    let h = lifted_walks m (λ k. Given m.collection) (keeps_given m) ready record { held = refl; most = omega arith; gone = tt } k t walks in record {
      collection = h.keeps.held;
      most = h.keeps.most;
      gone = h.keeps.gone;
      stay = each_map (λ l h. (h.2, h.0)) t.moment.collection h.ready.logs;
    }
