-- What leaves a round as it was: steps that leave the logs it holds.
use Rattle.std.proofs.Common.{◌≡◌, ℕ, zero, suc, ◌+◌, ◌*◌, ◌<◌, ◌||◌, Bool, true, false, Some, List, [], ◌∷◌, take, drop, eqb, inl, inr, length, map, ap, sym, refl, ◌∙◌, subst}
use Rattle.std.specs.List.{range_with_len}
use Rattle.std.specs.Prelude.{slice_index}
use Rattle.std.proofs.lemmas.Bool.{cond_both, eq-eqb, false≢true, true≢false}
use Rattle.far_word.specs.declared.mark.Marks.{Marks}
use Rattle.far_word.specs.declared.pointer.Place.{Place}
use Rattle.far_word.specs.declared.pointer.PtrWord.TheVariants.{Near}
use Rattle.far_word.specs.declared.sizes.TheConstants.{EPOCH_END, LOG_WORDS}
use Rattle.far_word.specs.Pointer.{read_of}
use Rattle.far_events.specs.declared.event.Kind.TheVariants.{Sealed}
use Rattle.far_events.specs.declared.event.Event.TheVariants.{Store}
use Rattle.far_events.specs.declared.event.Reply.{Reply}
use Rattle.far_events.specs.declared.event.Reply.TheVariants.{Refused}
use Rattle.far_events.specs.events.Ranges.{after_events, stores}
use Rattle.far_events.specs.events.Step.{after, answer, is_legal, step_of}
use Rattle.far_events.specs.state.State.{State}
use Rattle.far_hand.specs.Beside.{hidden}
use Rattle.far_hand.specs.Others.{OthersChange}
use Rattle.far_book.specs.book.NextLive.{IsBoundary}
use Rattle.far_book.specs.book.SealedLogs.{KeepsSealed}
use Rattle.far_hand.specs.Finds.{Finds}
use Rattle.far_hand.proofs.Finding.{finds_same, near_known}
use Rattle.far_evac.specs.AnyHand.{Knows}
use Rattle.far_evac.specs.declared.phase.Phase.{Phase}
use Rattle.far_evac.specs.declared.phase.Phase.TheVariants.{Idle, Marking, Evacuating}
use Rattle.far_evac.specs.declared.round.Round.{Round}
use Rattle.far_evac.specs.MomentLaw.{is_idle}
use Rattle.far_evac.specs.RoundSteps.{among}
use Rattle.far_evac.specs.Standing.{Holds, InRound, Stands, collection_in, collection_of}
use Rattle.far_evac.proofs.Bools.{or_left, or_right}

-- from s to t these logs stay as they were, but that objects may have left them; those that lie there lay there before, and have EVAC where they had it.
-- No log has come into the round
pub record KeepsLogs (s t : State) (logs : List ℕ) : Type 0 where
  pub kind : (l : ℕ) → among logs l ≡ true → t.kind l ≡ s.kind l
  pub tail : (l : ℕ) → among logs l ≡ true → t.tail l ≡ s.tail l
  pub starts : (l at : ℕ) → among logs l ≡ true → at < s.tail l → t.starts (l * LOG_WORDS + at) ≡ s.starts (l * LOG_WORDS + at)
  pub round : (l : ℕ) → among logs l ≡ true → t.round l ≡ s.round l
  pub only : (l : ℕ) → t.round l ≡ true → s.round l ≡ true
  pub near : (p len ds : ℕ) (place : Place) (marks : Marks) → read_of (t.cell p) ≡ Some (Near len ds place marks) → among logs place.log ≡ true →
      (old : Marks) × (read_of (s.cell p) ≡ Some (Near len ds place old)) × (marks.evac ≡ old.evac)
  pub clear : (k : ℕ) → t.clear k ≡ s.clear k
  pub mutators : t.mutators ≡ s.mutators
  pub epoch : t.epoch ≡ s.epoch

-- ---- the front log is in the collection set, and so are those that marking has passed
or_more : (a b c : Bool) → (b ≡ true → c ≡ true) → (a || b) ≡ true → (a || c) ≡ true
or_more true b c more h = refl
or_more false b c more h = more h

pub dropped_among : (xs : List ℕ) (i l : ℕ) (ls : List ℕ) → drop i xs ≡ l ∷ ls → among xs l ≡ true
dropped_among [] zero l ls e = absurd cc
dropped_among [] (suc i) l ls e = absurd cc
dropped_among (x ∷ xs) zero l ls e = let same : x ≡ l = cc in or_left (eqb l x) (among xs l) (eq-eqb l x (sym same))
dropped_among (x ∷ xs) (suc i) l ls e = or_right (eqb l x) (among xs l) (dropped_among xs i l ls e)

pub taken_among : (xs : List ℕ) (i l : ℕ) → among (take i xs) l ≡ true → among xs l ≡ true
taken_among [] zero l h = absurd (false≢true h)
taken_among (x ∷ xs) (suc i) l h = or_more (eqb l x) (among (take i xs) l) (among xs l) (taken_among xs i l) h
taken_among _ _ l h = absurd (false≢true h)

front_held : (phase : Phase) (chosen : List ℕ) (index l : ℕ) (ls : List ℕ) → is_idle phase ≡ false → drop index chosen ≡ l ∷ ls → among (collection_of phase chosen index) l ≡ true
front_held Idle chosen index l ls running e = absurd (true≢false running)
front_held Evacuating chosen index l ls running e = ap (λ xs. among xs l) e ∙ or_left (eqb l l) (among ls l) (eq-eqb l l refl)
front_held _ chosen index l ls running e = dropped_among chosen index l ls e

-- ---- a round is as it was
module _ (s t : State) (r : Round) (keeps : KeepsLogs s t (collection_in r)) (in_round : InRound s r) where
  holds_kept : Holds t r.phase (collection_in r)
  holds_kept = let h = in_round.holds in record {
    sealed = λ l held. keeps.kind l held ∙ h.sealed l held;
    once = h.once;
    runs = h.runs;
    round = λ risen l held. keeps.round l held ∙ h.round risen l held;
    only = λ risen l is. h.only risen l (keeps.only l is);
    clear = λ leaves k lt. keeps.clear k ∙ h.clear leaves k (subst (λ n. k < n) keeps.mutators lt);
    later = λ marks. subst (λ e. e + 1 < EPOCH_END) (sym keeps.epoch) (h.later marks);
  }

  abbrev Fronts : ℕ → List ℕ → Type 0
  Fronts l ls = drop r.index r.chosen ≡ l ∷ ls

  held_front : is_idle r.phase ≡ false → (l : ℕ) (ls : List ℕ) → Fronts l ls → among (collection_in r) l ≡ true
  held_front running l ls e = front_held r.phase r.chosen r.index l ls running e

  held_marked : r.phase ≡ Marking → (l : ℕ) → among r.chosen l ≡ true → among (collection_in r) l ≡ true
  held_marked marks l h = ap (λ phase. among (collection_of phase r.chosen r.index) l) marks ∙ h

  pub bounded_kept : (l at : ℕ) → among (collection_in r) l ≡ true → IsBoundary s l at → IsBoundary t l at
  bounded_kept l at held (inl end) = inl (end ∙ sym (keeps.tail l held))
  bounded_kept l at held (inr span) = inr (subst (λ n. at < n) (sym (keeps.tail l held)) span.0, keeps.starts l at held span.0 ∙ span.1)

  stands_kept : Stands t r
  stands_kept = let h = in_round.stands in record {
    index = h.index;
    begins = λ running l ls e. bounded_kept l r.at (held_front running l ls e) (h.begins running l ls e);
    marked = λ marks p len ds place more near among_front.
        let was = keeps.near p len ds place more near (held_marked marks place.log (taken_among r.chosen r.index place.log among_front)) in
        was.2 ∙ h.marked marks p len ds place was.0 was.1 among_front;
    marked_here = λ marks l ls e p len ds place more near here lt.
        let held = subst (λ k. among (collection_in r) k ≡ true) (sym here) (held_front (ap is_idle marks) l ls e) in
        let was = keeps.near p len ds place more near held in
        was.2 ∙ h.marked_here marks l ls e p len ds place was.0 was.1 here lt;
    left = λ leaves l ls e p len ds place more near here.
        let held = subst (λ k. among (collection_in r) k ≡ true) (sym here) (held_front (ap is_idle leaves) l ls e) in
        let was = keeps.near p len ds place more near held in
        h.left leaves l ls e p len ds place was.0 was.1 here;
    seen = λ waits k lt. keeps.clear k ∙ h.seen waits k lt;
    unseen = λ waits k le. keeps.clear k ∙ h.unseen waits k le;
  }

  pub round_kept : InRound t r
  round_kept = record { holds = holds_kept; stands = stands_kept }

-- ---- what keeps the logs
pub keeps_more : (s t u : State) (logs : List ℕ) → KeepsLogs s t logs → KeepsLogs t u logs → KeepsLogs s u logs
keeps_more s t u logs f g = record {
  kind = λ l h. g.kind l h ∙ f.kind l h;
  tail = λ l h. g.tail l h ∙ f.tail l h;
  starts = λ l at h lt. g.starts l at h (subst (λ n. at < n) (sym (f.tail l h)) lt) ∙ f.starts l at h lt;
  round = λ l h. g.round l h ∙ f.round l h;
  only = λ l is. f.only l (g.only l is);
  near = λ p len ds place marks near h.
      let then = g.near p len ds place marks near h in
      let first = f.near p len ds place then.0 then.1 h in
      (first.0, first.1, then.2 ∙ first.2);
  clear = λ k. g.clear k ∙ f.clear k;
  mutators = g.mutators ∙ f.mutators;
  epoch = g.epoch ∙ f.epoch;
}

-- marks were found, and words read or forgotten; or others had a turn
abbrev framed : State → State
framed s = record (hidden s (λ _. 0) (λ _. 0) (λ _. 0)) { stored = λ _ _. 0 }

keeps_found : (s t : State) (logs : List ℕ) → framed t ≡ framed s → ((p : ℕ) → Finds (s.cell p) (t.cell p)) → KeepsLogs s t logs
keeps_found s t logs rest found = record {
  kind = λ l h. ap (λ (u : State). u.kind l) rest;
  tail = λ l h. ap (λ (u : State). u.tail l) rest;
  starts = λ l at h lt. ap (λ (u : State). u.starts (l * LOG_WORDS + at)) rest;
  round = λ l h. ap (λ (u : State). u.round l) rest;
  only = λ l is. sym (ap (λ (u : State). u.round l) rest) ∙ is;
  near = λ p len ds place marks near h. let x = near_known (s.cell p) (t.cell p) (found p) len ds place marks near in (x.marks, x.near, sym x.same);
  clear = λ k. ap (λ (u : State). u.clear k) rest;
  mutators = ap (λ (u : State). u.mutators) rest;
  epoch = ap (λ (u : State). u.epoch) rest;
}

-- jobs went alone
pub round_jobs : (s t : State) (r : Round) → InRound s r → t ≡ record s { copying = record s.copying { word = t.copying.word } } → InRound t r
round_jobs s t r in_round rest =
    round_kept s t r (keeps_found s t (collection_in r) (ap framed rest) (λ p. subst (Finds (s.cell p)) (sym (ap (λ (u : State). u.cell p) rest)) (finds_same (s.cell p)))) in_round

pub keeps_known : (s t : State) (logs : List ℕ) → Knows s t → KeepsLogs s t logs
keeps_known s t logs known = keeps_found s t logs (ap framed known.rest) known.found

pub keeps_owners : (s t : State) (logs : List ℕ) → OthersChange s t → KeepsLogs s t logs
keeps_owners s t logs change = keeps_found s t logs (ap framed change.rest) change.cells

-- an effect of the book leaves the sealed logs, which these are
pub keeps_sealed : (s t : State) (logs : List ℕ) → ((l : ℕ) → among logs l ≡ true → s.kind l ≡ Sealed) → KeepsSealed s t → KeepsLogs s t logs
keeps_sealed s t logs sealed keeps = record {
  kind = λ l h. keeps.kind l (sealed l h) ∙ sym (sealed l h);
  tail = λ l h. keeps.tail l (sealed l h);
  starts = λ l at h lt. keeps.starts l at (sealed l h) lt;
  round = λ l h. ap (λ round. round l) keeps.round;
  only = λ l is. sym (ap (λ (round : ℕ → Bool). round l) keeps.round) ∙ is;
  near = λ p len ds place marks near h. keeps.near p len ds place marks near (sealed place.log h);
  clear = λ k. ap (λ clear. clear k) keeps.clear;
  mutators = keeps.mutators;
  epoch = keeps.epoch;
}

-- one call of the book that makes this of a state, as far as it is known
pub round_called : (s made t : State) (r : Round) → InRound s r → KeepsSealed s made → Knows made t → InRound t r
round_called s made t r in_round keeps known =
    round_kept s t r (keeps_more s made t (collection_in r) (keeps_sealed s made (collection_in r) in_round.holds.sealed keeps) (keeps_known made t (collection_in r) known)) in_round

-- marks were found alone
pub round_found : (s t : State) (r : Round) → InRound s r → Knows s t → InRound t r
round_found s t r in_round known = round_kept s t r (keeps_known s t (collection_in r) known) in_round

-- owners had a turn
pub round_of_owners : (s t : State) (r : Round) → InRound s r → OthersChange s t → InRound t r
round_of_owners s t r in_round change = round_kept s t r (keeps_owners s t (collection_in r) change) in_round

-- words were stored
module _ (logs : List ℕ) (m p first : ℕ) (words : List ℕ) where
  pub keeps_word : (s : State) (word : ℕ → ℕ) → KeepsLogs s (record s { word = word }) logs
  keeps_word s word = keeps_found s (record s { word = word }) logs refl (λ q. finds_same (s.cell q))

  one_store : (s : State) (i w : ℕ) → KeepsLogs s (step_of s (Store m p i w)).0 logs
  one_store s i w = cond_both (is_legal s (Store m p i w)) (after s (Store m p i w), answer s (Store m p i w)) (s, Refused) (λ (x : State × Reply). KeepsLogs s x.0 logs)
      (λ _. keeps_word s _) (λ _. keeps_word s s.word)

  pub keeps_stores : (s : State) (is : List ℕ) → KeepsLogs s (after_events s (map (λ i. Store m p (first + i) (slice_index words i)) is)) logs
  keeps_stores s [] = keeps_word s s.word
  keeps_stores s (i ∷ is) =
      let next = (step_of s (Store m p (first + i) (slice_index words i))).0 in
      keeps_more s next (after_events next (map (λ k. Store m p (first + k) (slice_index words k)) is)) logs (one_store s (first + i) (slice_index words i)) (keeps_stores next is)

pub round_stored : (s t : State) (r : Round) (m p first : ℕ) (words : List ℕ) → InRound s r → t ≡ after_events s (stores m p first words) → InRound t r
round_stored s t r m p first words in_round is =
    round_kept s t r (subst (λ (u : State). KeepsLogs s u (collection_in r)) (sym is) (keeps_stores (collection_in r) m p first words s (range_with_len 0 (length words)))) in_round
