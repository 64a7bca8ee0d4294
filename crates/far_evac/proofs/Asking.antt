-- What a walk asks of the device, one object more; and which keys it leaves.
use Rattle.far_events.specs.state.Law.{is_dirty}
use Rattle.far_book.proofs.region.Dirt.{up_by}
use Rattle.std.proofs.Common.{◌≡◌, ◌≢◌, ◌∙◌, ℕ, Bool, ◌+◌, List, [], ◌∷◌, ◌++◌, Option, Some, None, ap, sym, refl, subst, inl, inr, take, arith}
use Rattle.std.specs.Prelude.{false, Result, Ok, Err, IfNone, IfSome}
use Rattle.std.specs.List.{AllByRecursion}
use Rattle.far_word.specs.declared.pointer.Place.{Place}
use Rattle.far_word.specs.declared.refused.Refused.{Refused}
use Rattle.far_word.specs.Pointer.{read_of}
use Rattle.far_device.specs.Following.{Follows, none_of, other_than}
use Rattle.far_device.proofs.Following.{follows_on, follows_still}
use Rattle.far_device.specs.declared.fault.DeviceFault.{DeviceFault}
use Rattle.far_events.specs.events.Naming.{is_dropped}
use Rattle.far_events.specs.state.State.{State, addr}
use Rattle.far_events.proofs.Put.{put_same}
use Rattle.far_hand.specs.Finds.{Finds}
use Rattle.far_hand.specs.Known.{IsKnown}
use Rattle.far_book.specs.book.Asking.{AsksToEvict, HasBytes, WritesIt, fault_of}
use Rattle.far_book.specs.book.Dealing.{IsSeen}
use Rattle.far_book.specs.book.Renaming.{seen}
use Rattle.far_hand.proofs.Finding.{finds_more, near_known}
use Rattle.far_book.proofs.region.Founds.{drop_found}
use Rattle.far_evac.specs.declared.evac.evacuating.Fate.{Fate}
use Rattle.far_evac.specs.declared.evac.evacuating.Fate.TheVariants as fates
use Rattle.far_evac.specs.AnyHand.{KnowsWalked, WalksTo}
use Rattle.far_evac.specs.Asked.{AsksAsKnown, AsksExactly, AsksFirst, AsksSo, SparesClean, WalksAsking, first_live}
use Rattle.far_evac.specs.Leaving.{AsksAs, fate_by, near_fate}
use Rattle.far_evac.specs.Live.{live_among}
use Rattle.far_evac.specs.Moment.{Moment, Tally}
use Rattle.far_evac.specs.Ready.{Ready}
use Rattle.far_evac.specs.Walk.{Drops, Goes, Moves, Walked, Way, dealt_as, dealt_first, dealt_so, left, settled, way_of}
use Rattle.far_evac.proofs.Bools.{neither}
use Rattle.far_evac.proofs.Evacuations.{deals_more}
use Rattle.far_evac.proofs.SmallSteps.{drop_next, walks_left}
use Rattle.far_evac.proofs.LiveOnce.{all_front, one_more}

one_is_more : (n : ℕ) → n + 1 ≡ n → ⊥
one_is_more n e = omega arith

-- ---- one object more
-- the object that a walk deals with next is the one behind those that it has dealt with
pub first_more : (m : Moment) (k : ℕ) (w : Walked) (p : ℕ) (rest : List ℕ) → Ready m.core m.collection → WalksTo m k w → left w ≡ p ∷ rest → first_live m (k + 1) ≡ first_live m k ++ (p ∷ [])
first_more m k w p rest ready walks is =
    let next = drop_next k (live_among m.core m.collection) p rest (sym (walks_left m k w ready walks).0.left ∙ is) in
    ap (λ n. take n (live_among m.core m.collection)) (sym (one_more k)) ∙ next.2

-- ---- keys
left_alone : (m : Moment) (k : ℕ) (w : Walked) (p : ℕ) (rest : List ℕ) → Ready m.core m.collection → WalksTo m k w → left w ≡ p ∷ rest →
    (q : ℕ) → none_of (first_live m (k + 1)) q → none_of (first_live m k) q × other_than p q
left_alone m k w p rest ready walks is q none =
    let parts = all_front (λ x. x ≢ q) (first_live m k) p (subst (AllByRecursion (λ x. x ≢ q)) (first_more m k w p rest ready walks is) none) in
    (parts.0, λ e. parts.1 (sym e))

-- one object more, and what its own call of the device leaves alone
pub follows_more : {D : Type 0} (contents : D → ℕ → Option (List ℕ)) (is_honest : D → Bool) (faults : D → ℕ) (few : D → ℕ → Type 0)
    (m : Moment) (k : ℕ) (w : Walked) (p : ℕ) (rest : List ℕ) (fault : Bool) (a b c : D) → Ready m.core m.collection → WalksTo m k w → left w ≡ p ∷ rest →
    Follows contents is_honest faults few (none_of (first_live m k)) false a b → Follows contents is_honest faults few (other_than p) fault b c →
    Follows contents is_honest faults few (none_of (first_live m (k + 1))) fault a c
follows_more contents is_honest faults few m k w p rest fault a b c ready walks is first then =
    let alone = left_alone m k w p rest ready walks is in
    follows_on contents is_honest faults few (none_of (first_live m (k + 1))) fault a b c
    (follows_still contents is_honest faults few (none_of (first_live m k)) (none_of (first_live m (k + 1))) false a b (λ q none. (alone q none).0) first)
    (follows_still contents is_honest faults few (other_than p) (none_of (first_live m (k + 1))) fault b c (λ q none. (alone q none).1) then)

-- ---- calls of the device
-- ways that count alike have one fate
fate_counted : (w : Walked) (p : ℕ) (a b : Way) → (dealt_so w p a).tally ≡ (dealt_so w p b).tally → fate_by a ≡ fate_by b
fate_counted w p Drops Drops e = refl
fate_counted w p (Moves place) (Moves other) e = refl
fate_counted w p Goes Goes e = refl
fate_counted w p Drops (Moves other) e = absurd (one_is_more w.tally.dropped (ap (λ (t : Tally). t.dropped) e))
fate_counted w p Drops Goes e = absurd (one_is_more w.tally.dropped (ap (λ (t : Tally). t.dropped) e))
fate_counted w p (Moves place) Drops e = absurd (one_is_more w.tally.moved (ap (λ (t : Tally). t.moved) e))
fate_counted w p (Moves place) Goes e = absurd (one_is_more w.tally.moved (ap (λ (t : Tally). t.moved) e))
fate_counted w p Goes Drops e = absurd (one_is_more w.tally.far (ap (λ (t : Tally). t.far) e))
fate_counted w p Goes (Moves other) e = absurd (one_is_more w.tally.far (ap (λ (t : Tally). t.far) e))

-- one that was to move isn't far
pub near_not_far : (o : Option Place) → near_fate o ≢ fates.Far
near_not_far None e = cc
near_not_far (Some place) e = cc

module _ (D : Type 0) (writes : D → ℕ → List ℕ → Result (Unit {0}) DeviceFault → D → Type 0) (lets_go : D → ℕ → D → Type 0) where
  -- one object more
  asks_by : (w : Walked) (p : ℕ) (rest : List ℕ) (word : ℕ) (ps : List ℕ) (old new : D) → ps ≡ p ∷ rest → AsksSo D writes lets_go w.moment.core p (way_of w.moment.core (read_of word)) old new → AsksFirst D writes lets_go w word ps old new
  asks_by w p rest word ps old new e asks = subst (λ qs. AsksFirst D writes lets_go w word qs old new) (sym e) asks

  -- two ways that are counted alike
  pub asks_alike : (s : State) (p : ℕ) (a b : Way) (old new : D) → fate_by a ≡ fate_by b → AsksSo D writes lets_go s p a old new → AsksSo D writes lets_go s p b old new
  asks_alike s p Drops Drops old new e asks = asks
  asks_alike s p (Moves place) (Moves other) old new e asks = asks
  asks_alike s p Goes Goes old new e asks = asks
  asks_alike s p _ _ old new e asks = absurd cc

  -- the same where no word changes but by it: two ways that are counted alike are one
  asks_known : (w : Walked) (p : ℕ) (rest ps : List ℕ) (old new : D) → ps ≡ p ∷ rest → AsksExactly D writes lets_go w.moment.core p old new → AsksAsKnown D writes lets_go w ps old new
  asks_known w p rest ps old new e asks = subst (λ qs. AsksAsKnown D writes lets_go w qs old new) (sym e) asks

  pub asks_more : (still : Type 0) (m : Moment) (k : ℕ) (w v t : Walked) (p : ℕ) (rest : List ℕ) (word : ℕ) (a b c : D) → left w ≡ p ∷ rest → Finds (w.moment.core.cell p) word → KnowsWalked (dealt_as w p (read_of word)) v → KnowsWalked (settled v) t →
      AsksSo D writes lets_go w.moment.core p (way_of w.moment.core (read_of word)) b c →
      (still → (v ≡ dealt_as w p (read_of (w.moment.core.cell p))) × (t ≡ settled v) × (way_of w.moment.core (read_of (w.moment.core.cell p)) ≡ Goes → SparesClean D w.moment.core p b c)) →
      WalksAsking still D writes lets_go m k w a b → WalksAsking still D writes lets_go m (k + 1) t a c
  asks_more still m k w v t p rest word a b c e finds dealt then asks exact walks = subst (λ n. WalksAsking still D writes lets_go m n t a c) (one_more k) (
    w,
    word,
    b,
    walks,
    deals_more w v t p rest word e finds dealt then,
    (
      asks_by w p rest word (left w) b c e asks,
      λ h. let same = exact h in (
        same.1 ∙ ap settled same.0 ∙ sym (ap (dealt_first w) e),
        asks_known w p rest (left w) b c e (
          asks_alike w.moment.core p (way_of w.moment.core (read_of word)) (way_of w.moment.core (read_of (w.moment.core.cell p))) b c
              (fate_counted w p (way_of w.moment.core (read_of word)) (way_of w.moment.core (read_of (w.moment.core.cell p))) (sym dealt.tally ∙ ap (λ (x : Walked). x.tally) same.0)) asks,
          same.2,
        ),
      ),
    ),
  )

  -- one that was to move
  pub asked_there : (s : State) (p : ℕ) (o : Option Place) (old new : D) → IfSome o (λ _. new ≡ old) → IfNone o (lets_go old p new) → AsksAs D writes lets_go s p (near_fate o) old new
  asked_there s p None old new same gone = (Drops, refl, inl gone)
  asked_there s p (Some place) old new same gone = (Moves place, refl, same)

-- an object's bytes, as they were before marks were found
pub has_before : (s u : State) (p : ℕ) (bytes : List ℕ) → Finds (s.cell p) (u.cell p) → u.word ≡ s.word → HasBytes u p bytes → HasBytes s p bytes
has_before s u p bytes finds same h =
    let x = near_known (s.cell p) (u.cell p) finds h.len h.ds h.place h.marks h.near in
    let word : (i : ℕ) → u.word (addr h.place + 1 + i) ≡ s.word (addr h.place + 1 + i) = λ i. ap (λ (f : ℕ → ℕ). f (addr h.place + 1 + i)) same in record {
      len = h.len;
      ds = h.ds;
      place = h.place;
      marks = x.marks;
      near = x.near;
      row = h.row;
      stored = h.stored;
      own = λ i lt known. h.own i lt (subst IsKnown (sym (word i)) known) ∙ word i;
      are = h.are;
    }

-- what was found in its cell since
pub finds_seen : (s u : State) (p w : ℕ) → Finds (s.cell p) w → u ≡ seen s p w → Finds (s.cell p) (u.cell p)
finds_seen s u p w finds is = subst (Finds (s.cell p)) (sym (ap (λ (x : State). x.cell p) is ∙ put_same s.cell p w p refl)) finds

pub finds_then : (s u v : State) (p w : ℕ) → Finds (s.cell p) w → u ≡ seen s p w → IsSeen u v p → Finds (s.cell p) (v.cell p)
finds_then s u v p w finds is then =
    finds_more (s.cell p) (u.cell p) (v.cell p) (finds_seen s u p w finds is)
    (subst (Finds (u.cell p)) (sym (ap (λ (x : State). x.cell p) then.leads ∙ put_same u.cell p then.word p refl)) then.found)

-- what was asked where more marks were known
module _ (D : Type 0) (writes : D → ℕ → List ℕ → Result (Unit {0}) DeviceFault → D → Type 0) (lets_go : D → ℕ → D → Type 0) (s u : State) (p : ℕ) (finds : Finds (s.cell p) (u.cell p)) (words : u.word ≡ s.word) (old between : D) (is : between ≡ old) where
  wrote_before : (answer : Result (Unit {0}) DeviceFault) (new : D) → WritesIt D writes lets_go u p between answer new → WritesIt D writes lets_go s p old answer new
  wrote_before answer new (bytes, own, wrote) = (bytes, has_before s u p bytes finds words own, subst (λ (d : D). writes d p bytes answer new) is wrote)

  alive_before : is_dropped (read_of (u.cell p)) ≡ false → is_dropped (read_of (s.cell p)) ≡ false
  alive_before alive = neither (is_dropped (read_of (u.cell p))) (is_dropped (read_of (s.cell p))) (drop_found (s.cell p) (u.cell p) finds) alive

  clean_before : is_dirty (read_of (u.cell p)) ≡ false → is_dirty (read_of (s.cell p)) ≡ false
  clean_before clean = neither (is_dirty (read_of (u.cell p))) (is_dirty (read_of (s.cell p))) (up_by (read_of (s.cell p)) (read_of (u.cell p)) finds.body finds.dirty) clean

  asked_so : (way : Way) (new : D) → AsksSo D writes lets_go u p way between new → AsksSo D writes lets_go s p way old new
  asked_so Drops new (inl gone) = inl (subst (λ (d : D). lets_go d p new) is gone)
  asked_so Drops new (inr (after, wrote, gone, alive)) = inr (after, wrote_before (Ok tt) after wrote, gone, alive_before alive)
  asked_so (Moves place) new same = same ∙ is
  asked_so Goes new (inl wrote) = inl (wrote_before (Ok tt) new wrote)
  asked_so Goes new (inr (same, clean)) = inr (same ∙ is, clean_before clean)

  pub asked_before : (fate : Fate) (new : D) → AsksAs D writes lets_go u p fate between new → AsksAs D writes lets_go s p fate old new
  asked_before fate new (way, counted, asks) = (way, counted, asked_so way new asks)

  pub refused_before : (why : Refused) (new : D) → AsksToEvict D writes lets_go u p (Err why) between new → AsksToEvict D writes lets_go s p (Err why) old new
  refused_before why new wrote = wrote_before (Err (fault_of why)) new wrote
