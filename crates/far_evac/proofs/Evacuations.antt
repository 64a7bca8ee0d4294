-- Object after object, a walk does what its definition says.
use Rattle.std.proofs.Common.{◌≡◌, ℕ, ◌+◌, ◌≤◌, true, false, List, [], ◌∷◌, ap, sym, ◌∙◌, subst}
use Rattle.far_word.specs.Pointer.{read_of}
use Rattle.far_hand.specs.Finds.{Finds}
use Rattle.far_evac.specs.AnyHand.{DealsFirst, KnowsWalked, FindsFirst, WalksTo, found_first}
use Rattle.far_evac.specs.Live.{is_empty}
use Rattle.far_evac.specs.Moment.{Moment}
use Rattle.far_evac.specs.Walk.{Walked, dealt_as, dealt_first, is_done, left, settled, walked}
use Rattle.far_evac.proofs.Settling.{settled_known, walked_known_more}
use Rattle.far_evac.proofs.Walks.{walked_done, walked_more, walks_more}

-- ---- one object more
deals_by : (w v t : Walked) (p : ℕ) (rest : List ℕ) (word : ℕ) (ps : List ℕ) → ps ≡ p ∷ rest → Finds (w.moment.core.cell p) word → KnowsWalked (dealt_as w p (read_of word)) v → KnowsWalked (settled v) t →
    FindsFirst false w word ps × KnowsWalked (found_first w word ps) t
deals_by w v t p rest word ps e finds dealt then =
    subst (λ qs. FindsFirst false w word qs × KnowsWalked (found_first w word qs) t) (sym e)
    (finds, walked_known_more (settled (dealt_as w p (read_of word))) (settled v) t (settled_known (dealt_as w p (read_of word)) v dealt) then)

pub deals_more : (w v t : Walked) (p : ℕ) (rest : List ℕ) (word : ℕ) → left w ≡ p ∷ rest → Finds (w.moment.core.cell p) word → KnowsWalked (dealt_as w p (read_of word)) v → KnowsWalked (settled v) t → DealsFirst false w word t
deals_more w v t p rest word e finds dealt then = let deals = deals_by w v t p rest word (left w) e finds dealt then in record { finds = deals.0; leaves = deals.1 }

pub one_more : (m : Moment) (k : ℕ) (w v t : Walked) (p : ℕ) (rest : List ℕ) (word : ℕ) → left w ≡ p ∷ rest → Finds (w.moment.core.cell p) word → KnowsWalked (dealt_as w p (read_of word)) v → KnowsWalked (settled v) t →
    WalksTo m k w → WalksTo m (k + 1) t
one_more m k w v t p rest word e finds dealt then walks = walks_more (λ _ _ _ _. Unit {0}) m k w word t tt tt tt walks (deals_more w v t p rest word e finds dealt then) tt

pub one_exact : (m : Moment) (k : ℕ) (w v t : Walked) (p : ℕ) (rest : List ℕ) → left w ≡ p ∷ rest → v ≡ dealt_as w p (read_of (w.moment.core.cell p)) → t ≡ settled v → w ≡ walked m k → t ≡ walked m (k + 1)
one_exact m k w v t p rest e dealt then is = then ∙ ap settled dealt ∙ sym (walked_more m k w is ∙ ap (dealt_first w) e)

-- ---- a walk that is over
done_of : (held : List ℕ) → held ≡ [] → is_empty held ≡ true
done_of held none = ap is_empty none

pub exact_over : (m : Moment) (n k : ℕ) (w : Walked) → k ≤ n → w.moment.collection ≡ [] → w ≡ walked m k → w ≡ walked m n
exact_over m n k w most none is = is ∙ sym (walked_done m k n most (sym (ap is_done is) ∙ done_of w.moment.collection none))
