-- Which logs an evacuation gives back where copies may be offered, and how many it counts.
use Rattle.std.proofs.Common.{◌≡◌, ◌+◌, ℕ, suc, Bool, true, false, cond, List, [], ◌∷◌, length, inl, inr, ap, arith, sym, refl, ◌∙◌, subst}
use Rattle.std.proofs.lemmas.Bool.{cond_both, false≢true}
use Rattle.far_word.specs.declared.refused.Refused.{Refused}
use Rattle.far_events.specs.state.State.{State}
use Rattle.far_evac.specs.declared.phase.Phase.TheVariants.{Idle}
use Rattle.far_evac.specs.Beside.{At, Dealing, End, Leaves, Offers, OverLogs, WalksOver, dealt_by, freed_if, may_free}
use Rattle.far_evac.specs.CopiedBack.{AreSome, CopiedComesBack, CountsBack}
use Rattle.far_evac.specs.Live.{live_in}
use Rattle.far_evac.specs.Moment.{Moment, Tally}
use Rattle.far_evac.specs.RoundSteps.{among}
use Rattle.far_evac.specs.Walk.{Drops, Goes, Moves, Walked, ended, freed, is_done}
use Rattle.far_evac.proofs.BesideKept.{by_ended, objects_kept}
use Rattle.far_evac.proofs.BesideRounds.{logs_rest}

-- nothing is said of a device
abbrev Asks : State → ℕ → Dealing → Unit {0} → Unit {0} → Type 0
Asks s p dealing old new = Unit {0}

abbrev Fails : State → ℕ → Refused → Unit {0} → Unit {0} → Type 0
Fails s p why old new = Unit {0}

-- ---- no object that is dealt with counts as a log
freed_dealt : (w : Walked) (p : ℕ) (d : Dealing) → (dealt_by w p d).tally.freed ≡ w.tally.freed
freed_dealt w p (Leaves Drops) = refl
freed_dealt w p (Leaves (Moves place)) = refl
freed_dealt w p (Leaves Goes) = refl
freed_dealt w p (Offers j place) = refl

-- ---- the logs that are kept are some of those that were walked over
all_some : (ls : List ℕ) → AreSome ls ls
all_some [] = tt
all_some (l ∷ ls) = inl (refl, all_some ls)

more_some : (l : ℕ) (ks ls : List ℕ) → AreSome ks ls → AreSome ks (l ∷ ls)
more_some l [] ls h = tt
more_some l (k ∷ ks) ls h = inr h

kept_some : (b : Bool) (l : ℕ) (rest ls : List ℕ) → AreSome rest ls → AreSome (cond b rest (l ∷ rest)) (l ∷ ls)
kept_some true l rest ls h = more_some l rest ls h
kept_some false l rest ls h = inl (refl, h)

some_of : (ls : List ℕ) (n : ℕ) (w t : Walked) (kept : List ℕ) (end : End) → OverLogs (Unit {0}) Asks Fails ls n w t kept end tt tt → AreSome kept ls
some_of [] n w t kept end (knows, none, _, _) = subst (λ ks. AreSome ks []) (sym none) tt
some_of (l ∷ ls) n w t kept end (v, u, more, at, between, knows, over, then) =
    by_ended at
    (λ (rest, on, is). subst (λ ks. AreSome ks (l ∷ ls)) (sym is) (kept_some (may_free u.moment.core l) l rest ls (some_of ls more (freed_if u l) t rest end on)))
    (λ (same, all, _, _). subst (λ ks. AreSome ks (l ∷ ls)) (sym all) (all_some (l ∷ ls)))
    then

-- ---- the others are counted
next_counts : (b : Bool) (u : Walked) (l : ℕ) (rest ls : List ℕ) (f : ℕ) → f + length rest ≡ (cond b (freed u l) u).tally.freed + length ls → f + length (cond b rest (l ∷ rest)) ≡ u.tally.freed + suc (length ls)
next_counts true u l rest ls f h = omega (arith, h)
next_counts false u l rest ls f h = omega (arith, h)

counts : (ls : List ℕ) (n : ℕ) (w t : Walked) (kept : List ℕ) (end : End) → OverLogs (Unit {0}) Asks Fails ls n w t kept end tt tt → t.tally.freed + length kept ≡ w.tally.freed + length ls
counts [] n w t kept end (knows, none, _, _) = ap (λ ks. t.tally.freed + length ks) none ∙ ap (λ (x : Tally). x.freed + 0) knows.tally
counts (l ∷ ls) n w t kept end (v, u, more, at, between, knows, over, then) =
    let here : u.tally.freed ≡ w.tally.freed =
    objects_kept (λ x. x.tally.freed ≡ w.tally.freed) (λ x y known h. ap (λ (c : Tally). c.freed) known.tally ∙ h) (λ x p d h. freed_dealt x p d ∙ h) (Unit {0}) Asks Fails (live_in v.moment.core l) n v u more at tt between over
    (ap (λ (c : Tally). c.freed) knows.tally) in
    by_ended at
    (λ (rest, on, is). ap (λ ks. t.tally.freed + length ks) is ∙ next_counts (may_free u.moment.core l) u l rest ls t.tally.freed (counts ls more (freed_if u l) t rest end on) ∙ ap (λ f. f + suc (length ls)) here)
    (λ (same, all, _, _). ap (λ ks. t.tally.freed + length ks) all ∙ ap (λ (x : Walked). x.tally.freed + suc (length ls)) same ∙ ap (λ f. f + suc (length ls)) here)
    then

-- ---- a call
out_of : (b : Bool) → (b ≡ true → ⊥) → b ≡ false
out_of true h = absurd (h refl)
out_of false h = refl

walk_counts : (m : Moment) (n : ℕ) (w : Walked) (end : End) → WalksOver m n w end → CountsBack m w.moment w.tally.freed
walk_counts m n w end (u, t, kept, (count, collects, first), over, is) =
    let some : AreSome kept m.collection = some_of m.collection n u t kept end over in
    let all : t.tally.freed + length kept ≡ 0 + length m.collection = counts m.collection n u t kept end over ∙ ap (λ (x : Walked). x.tally.freed + length m.collection) first in
    let sum : t.tally.freed + length kept ≡ length m.collection = omega (arith, all) in
    record {
      kept = subst (λ ks. AreSome ks m.collection) (sym (ap (λ (x : Walked). x.moment.collection) is)) some;
      counted = ap (λ (x : Walked). x.tally.freed + length x.moment.collection) is ∙ sum;
      gone = λ l was left. ap (λ (x : Walked). x.moment.core.round l) is ∙ out_of (t.moment.core.round l)
          (λ stays. false≢true (sym (sym (ap (λ (x : Walked). among x.moment.collection l) is) ∙ left) ∙ (logs_rest (Unit {0}) Asks Fails m.collection n u t kept end tt tt over l stays).1 was));
    }

ended_counts : (m : Moment) (w : Walked) → CountsBack m w.moment w.tally.freed → CountsBack m (ended w) w.tally.freed
ended_counts m w h = cond_both (is_done w) (record w.moment { phase = Idle }) w.moment (λ (t : Moment). CountsBack m t w.tally.freed) (λ _. record { kept = h.kept; counted = h.counted; gone = h.gone }) (λ _. h)

pub copied_comes_back : CopiedComesBack
copied_comes_back m t n tally = (
  λ done h. subst (λ (x : Moment × Tally). CountsBack m x.0 x.1.freed) (ap (λ c. (ended h.stood, c)) (sym h.counts) ∙ ap (λ x. (x, tally)) (sym h.ends)) (ended_counts m h.stood (walk_counts m n h.stood h.end h.walks)),
  λ h. subst (λ (x : Moment × Tally). CountsBack m x.0 x.1.freed) (ap (λ c. (h.stood.moment, c)) (sym h.counts) ∙ ap (λ x. (x, tally)) (sym h.stops)) (walk_counts m n h.stood (At h.next h.why) h.walks),
)
