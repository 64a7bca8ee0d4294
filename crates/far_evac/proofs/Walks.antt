-- One object more of a walk; walks that are over; and that the walk where no word changes is one over any hand.
use Rattle.std.proofs.Common.{◌≡◌, ℕ, zero, suc, ◌+◌, ◌-◌, ◌≤◌, true, false, List, [], ◌∷◌, arith, ap, sym, refl, ◌∙◌, subst}
use Rattle.std.proofs.lemmas.Bool.{true≢false}
use Rattle.far_events.specs.state.State.{State}
use Rattle.far_hand.specs.Finds.{Finds}
use Rattle.far_hand.proofs.Finding.{finds_same}
use Rattle.far_evac.specs.AnyHand.{Knows, KnowsMoment, KnowsWalked, FindsFirst, DealsFirst, WalksBy, WalksSo, WalksTo, Walks, found_first}
use Rattle.far_evac.specs.Live.{live_among, is_empty}
use Rattle.far_evac.specs.Moment.{Moment}
use Rattle.far_evac.proofs.SmallSteps.{begun_live, walk_exact, walked_front}
use Rattle.far_evac.proofs.LiveOnce.{one_more}
use Rattle.far_evac.specs.Walk.{Walked, begun, dealt_first, is_done, left, settled, walked}

-- ---- what is known of a state is known of the state itself
pub knows_same : (s : State) → Knows s s
knows_same s = record { found = λ p. finds_same (s.cell p); spans = λ l. refl; stored = λ p len ds i marks far lt known. refl; rest = refl }

pub moment_same : (m : Moment) → KnowsMoment m m
moment_same m = record { core = knows_same m.core; rest = refl }

pub walked_same : (w : Walked) → KnowsWalked w w
walked_same w = record { moment = moment_same w.moment; tally = refl }

-- ---- walks that are over
done_left : (s : State) (ls : List ℕ) → is_empty ls ≡ true → live_among s ls ≡ []
done_left s [] done = refl
done_left s (l ∷ ls) done = absurd (true≢false (sym done))

-- nothing is left where each log was given back
pub none_left : (w : Walked) → is_done w ≡ true → left w ≡ []
none_left w done = done_left w.moment.core w.moment.collection done

-- ---- one more
pub walked_more : (m : Moment) (n : ℕ) (w : Walked) → w ≡ walked m n → walked m (n + 1) ≡ dealt_first w (left w)
walked_more m n w e = ap (walked m) (sym (one_more n)) ∙ ap (λ v. dealt_first v (left v)) (sym e)

pub walks_more : {D : Type 0} (Asks : Walked → ℕ → D → D → Type 0) (m : Moment) (k : ℕ) (u : Walked) (word : ℕ) (t : Walked) (a b c : D) → WalksBy false D Asks m k u a b → DealsFirst false u word t → Asks u word b c →
    WalksBy false D Asks m (k + 1) t a c
walks_more {D} Asks m k u word t a b c walks deals asks = subst (λ n. WalksBy false D Asks m n t a c) (one_more k) (u, word, b, walks, deals, asks)

-- ---- a walk that is over stays so
stays : (m : Moment) (i d : ℕ) → is_done (walked m i) ≡ true → walked m (d + i) ≡ walked m i
stays m i zero done = let e : 0 + i ≡ i = omega arith in ap (walked m) e
stays m i (suc d) done =
    let e : suc d + i ≡ suc (d + i) = omega arith in
    ap (walked m) e ∙ ap (λ w. dealt_first w (left w)) (stays m i d done) ∙ ap (dealt_first (walked m i)) (none_left (walked m i) done)

pub walked_done : (m : Moment) (i n : ℕ) → i ≤ n → is_done (walked m i) ≡ true → walked m n ≡ walked m i
walked_done m i n within done = let e : (n - i) + i ≡ n = omega (arith, within) in ap (walked m) (sym e) ∙ stays m i (n - i) done

-- ---- the walk where no word changes is one of those that are allowed over any hand
finds_any : (w : Walked) (word : ℕ) (xs : List ℕ) → FindsFirst true w word xs → FindsFirst false w word xs
finds_any w word [] finds = finds
finds_any w word (p ∷ ps) finds = subst (Finds (w.moment.core.cell p)) (sym finds) (finds_same (w.moment.core.cell p))

any_hand : (m : Moment) (k : ℕ) (t : Walked) → WalksSo true m k t → WalksTo m k t
any_hand m zero t (same, still) = (subst (KnowsWalked (settled (begun m))) (sym same) (walked_same (settled (begun m))), still)
any_hand m (suc k) t (u, word, between, walks, deals, asks) =
    let w = found_first u word (left u) in
    let leaves = subst (KnowsWalked w) (sym deals.leaves) (walked_same w) in (u, word, between, any_hand m k u walks, record { finds = finds_any u word (left u) deals.finds; leaves = leaves }, asks)

pub walk_is : (m : Moment) (n : ℕ) → (k : ℕ) × Walks m n k (walked m n)
walk_is m n =
    let (k, h) = walk_exact m n in
    let w = walked m n in
    (k, record { walks = any_hand m k w h.2; most = h.0; enough = λ more. h.1 (λ none. true≢false (sym (begun_live w.moment.core w.moment.collection (walked_front m n) none) ∙ more)) })
