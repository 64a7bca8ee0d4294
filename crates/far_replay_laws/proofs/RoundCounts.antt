-- What a round counts is what has changed so from its first moment to its last.
use Rattle.std.proofs.Common.{◌≡◌, ℕ, ◌+◌, true, false, cond, Option, Some, None, List, length, ap, sym, refl, ◌∙◌, subst, arith, inl, inr}
use Rattle.std.specs.Prelude.{◌⊎◌}
use Rattle.std.proofs.lemmas.Bool.{cond_both, false≢true, true≢false}
use Rattle.far_word.specs.declared.mark.Marks.{Marks}
use Rattle.far_word.specs.declared.pointer.Place.{Place}
use Rattle.far_word.specs.declared.pointer.PtrWord.{PtrWord}
use Rattle.far_word.specs.declared.pointer.PtrWord.TheVariants.{Near}
use Rattle.far_word.specs.Pointer.{read_of}
use Rattle.far_events.specs.events.Clear.{is_near}
use Rattle.far_events.specs.state.Law.{Law}
use Rattle.far_events.specs.state.State.{State}
use Rattle.far_evac.specs.Dealings.{says}
use Rattle.far_evac.specs.Laws.{but_evac}
use Rattle.far_evac.specs.Marking.{leaves_some, marked_core}
use Rattle.far_evac.specs.Moment.{Moment, Tally, nothing, plus, progress_of}
use Rattle.far_evac.specs.MomentLaw.{MomentLaw, is_idle}
use Rattle.far_evac.specs.RoundSteps.{advanced}
use Rattle.far_evac.specs.Turns.{Turned, turn_size, turned, turns_made}
use Rattle.far_evac.specs.Waiting.{first_open, polled_to}
use Rattle.far_evac.specs.Walk.{Walked, ended, is_done, walked}
use Rattle.far_evac.specs.declared.phase.Phase.{Phase}
use Rattle.far_evac.specs.declared.phase.Phase.TheVariants.{Idle, Marking, Waiting, Evacuating}
use Rattle.far_evac.proofs.Joined.{walks_join}
use Rattle.far_evac.proofs.LeadingTurns.{through_turns}
use Rattle.far_evac.proofs.Marks.{is_marked}
use Rattle.far_replay_laws.specs.HowMany.{IsHowMany}
use Rattle.far_replay_laws.specs.Steps.{CountsRound, IsMoved, IsRetired, IsSentFar, LiesIn}
use Rattle.far_replay_laws.proofs.StepsTell.{all_freed, ended_phase, place_or, tells_leaving}

-- ---- where the cells say the same but for EVAC, the same lies in each log
module _ (s u : State) (p : ℕ) (same : but_evac (read_of (u.cell p)) ≡ but_evac (read_of (s.cell p))) where
  lies_by : (l len ds : ℕ) (place : Place) (marks : Marks) (o : Option PtrWord) → read_of (s.cell p) ≡ o → but_evac (Some (Near len ds place marks)) ≡ but_evac o → place.log ≡ l → LiesIn s p l
  lies_by l len ds place marks (Some (Near n d at old)) was e log = (n, d, at, old, was, sym (ap (λ (x : Place). x.log) (ap (place_or place) e)) ∙ log)
  lies_by l len ds place marks _ was e log = absurd (true≢false (ap is_near e))

  lay : (l : ℕ) → LiesIn u p l → LiesIn s p l
  lay l (len, ds, place, marks, near, log) = lies_by l len ds place marks (read_of (s.cell p)) refl (ap but_evac (sym near) ∙ same) log

how_many_same : (P Q : ℕ → Type 0) (n : ℕ) → ((k : ℕ) → P k → Q k) → ((k : ℕ) → Q k → P k) → IsHowMany P n → IsHowMany Q n
how_many_same P Q n to from (ks, long, once, which) = (ks, long, once, λ k. ((λ c. to k ((which k).0 c)), (λ h. (which k).1 (from k h))))

abbrev pub Alike : Moment → Moment → Type 0
Alike m u = (p : ℕ) → but_evac (says u p) ≡ but_evac (says m p)

moved_alike : (m u : Moment) (t : State) → Alike m u → (p : ℕ) → IsMoved u.core t p → IsMoved m.core t p
moved_alike m u t alike p (l, k, from, to, apart) = (l, k, lay m.core u.core p (alike p) l from, to, apart)

far_alike : (m u : Moment) (t : State) → Alike m u → (p : ℕ) → IsSentFar u.core t p → IsSentFar m.core t p
far_alike m u t alike p (from, to) = ((from.0, lay m.core u.core p (alike p) from.0 from.1), to)

retired_alike : (m u : Moment) (t : State) → Alike m u → (p : ℕ) → IsRetired u.core t p → IsRetired m.core t p
retired_alike m u t alike p (from, to) = ((from.0, lay m.core u.core p (alike p) from.0 from.1), to)

after_none : (n : ℕ) → 0 + n ≡ n
after_none n = omega arith

after_nothing : (t : Tally) → plus nothing t ≡ t
after_nothing t = λ i. record { moved = after_none t.moved i; far = after_none t.far i; dropped = after_none t.dropped i; freed = after_none t.freed i }

-- ---- no object has left yet; or a walk was begun at some moment, and goes on from there
pub record Early (m : Moment) (r : Turned) : Type 0 where
  pub alike : Alike m r.moment
  pub held : r.moment.collection ≡ m.collection
  pub tally : r.tally ≡ nothing
  pub goes : r.over ≡ false

pub record Late (m : Moment) (r : Turned) : Type 0 where
  pub at : Moment
  pub many : ℕ
  pub law : Law at.core
  pub moment : MomentLaw at
  pub alone : at.copying ≡ false
  pub leaves : at.phase ≡ Evacuating
  pub alike : Alike m at
  pub held : at.collection ≡ m.collection
  pub is : r.moment ≡ ended (walked at many)
  pub tally : r.tally ≡ (walked at many).tally
  pub over : r.over ≡ is_done (walked at many)

-- a walk that isn't done is still evacuating
late_phase : (m : Moment) (r : Turned) → Late m r → r.over ≡ false → r.moment.phase ≡ Evacuating
late_phase m r h goes = ap (λ (x : Moment). x.phase) h.is ∙ ended_phase h.at h.many ∙ ap (λ b. cond b Idle h.at.phase) (sym h.over ∙ goes) ∙ h.leaves

module _ (m : Moment) (r : Turned) (law : Law r.moment.core) (moment : MomentLaw r.moment) (alone : r.moment.copying ≡ false) where
  marked_early : Early m r → Early m (turned r Marking)
  marked_early h =
      let x = is_marked r.moment turn_size (λ p. (law.cells.cell_read p).0) in
      record {
        alike = λ p. x.same p ∙ h.alike p;
        held = cond_both (leaves_some r.moment turn_size) (record r.moment { core = marked_core r.moment turn_size }) (record r.moment { core = advanced (marked_core r.moment turn_size) r.moment.collection; phase = Waiting })
            (λ (t : Moment). t.collection ≡ m.collection) (λ _. h.held) (λ _. h.held);
        tally = h.tally;
        goes = h.goes;
      }

  polled_early : (o : Option ℕ) → Early m r → Early m (record r { moment = polled_to r.moment o })
  polled_early None h = record { alike = h.alike; held = h.held; tally = h.tally; goes = h.goes }
  polled_early (Some k) h = record { alike = h.alike; held = h.held; tally = h.tally; goes = h.goes }

  begins_late : r.moment.phase ≡ Evacuating → Early m r → Late m (turned r Evacuating)
  begins_late e h = record {
    at = r.moment;
    many = turn_size;
    law = law;
    moment = moment;
    alone = alone;
    leaves = e;
    alike = h.alike;
    held = h.held;
    is = refl;
    tally = ap (λ (t : Tally). plus t (walked r.moment turn_size).tally) h.tally ∙ after_nothing (walked r.moment turn_size).tally;
    over = refl;
  }

  goes_late : r.over ≡ false → Late m r → Late m (turned r Evacuating)
  goes_late goes h =
      let w : Walked = walked h.at h.many in
      let more : is_done w ≡ false = sym h.over ∙ goes in
      let stands : r.moment ≡ w.moment = h.is ∙ ap (λ b. cond b (record w.moment { phase = Idle }) w.moment) more in
      let joined = walks_join h.at h.many turn_size in
      record {
        at = h.at;
        many = h.many + turn_size;
        law = h.law;
        moment = h.moment;
        alone = h.alone;
        leaves = h.leaves;
        alike = h.alike;
        held = h.held;
        is = ap (λ (x : Moment). ended (walked x turn_size)) stands ∙ sym (ap ended joined);
        tally = (λ i. plus (h.tally i) (walked (stands i) turn_size).tally) ∙ sym (ap (λ (x : Walked). x.tally) joined);
        over = ap (λ (x : Moment). is_done (walked x turn_size)) stands ∙ sym (ap is_done joined);
      }

  turn_spans : r.over ≡ false → (phase : Phase) → r.moment.phase ≡ phase → Early m r ⊎ Late m r → Early m (turned r phase) ⊎ Late m (turned r phase)
  turn_spans goes Idle e h = h
  turn_spans goes Marking e (inl h) = inl (marked_early h)
  turn_spans goes Marking e (inr h) = let odd : Marking ≡ Evacuating = sym e ∙ late_phase m r h goes in absurd cc
  turn_spans goes Waiting e (inl h) = inl (polled_early (first_open r.moment.core) h)
  turn_spans goes Waiting e (inr h) = let odd : Waiting ≡ Evacuating = sym e ∙ late_phase m r h goes in absurd cc
  turn_spans goes Evacuating e (inl h) = inr (begins_late e h)
  turn_spans goes Evacuating e (inr h) = inr (goes_late goes h)

pub spans : (m : Moment) → Law m.core → MomentLaw m → m.copying ≡ false → is_idle m.phase ≡ false → (n : ℕ) → Early m (turns_made m n) ⊎ Late m (turns_made m n)
spans m law moment alone runs = through_turns (λ n t. Early m t ⊎ Late m t) m law moment alone runs (inl record { alike = λ p. refl; held = refl; tally = refl; goes = refl }) (λ n r over h. h)
    (λ n r own stands alone goes h. turn_spans m r own stands alone goes r.moment.phase refl h)

late_counts : (m : Moment) (r : Turned) → Late m r → r.over ≡ true → CountsRound m m.collection (progress_of r.tally true) r.moment
late_counts m r h over =
    let w : Walked = walked h.at h.many in
    let t : State = (ended w).core in
    let x = tells_leaving h.at h.many h.law h.moment h.alone h.leaves in
    let back : Alike h.at m = λ p. sym (h.alike p) in
    let counts : CountsRound m m.collection (progress_of w.tally true) (ended w) = record {
      moved = how_many_same (IsMoved h.at.core t) (IsMoved m.core t) w.tally.moved (moved_alike m h.at t h.alike) (moved_alike h.at m t back) x.moved;
      far = how_many_same (IsSentFar h.at.core t) (IsSentFar m.core t) w.tally.far (far_alike m h.at t h.alike) (far_alike h.at m t back) x.far;
      dropped = how_many_same (IsRetired h.at.core t) (IsRetired m.core t) w.tally.dropped (retired_alike m h.at t h.alike) (retired_alike h.at m t back) x.dropped;
      freed = all_freed h.at h.many h.law h.moment h.alone h.leaves (sym h.over ∙ over) ∙ ap (λ (xs : List ℕ). length xs) h.held;
    } in
    subst (λ (y : Moment). CountsRound m m.collection (progress_of r.tally true) y) (sym h.is) (subst (λ (y : Tally). CountsRound m m.collection (progress_of y true) (ended w)) (sym h.tally) counts)

pub counts_round : (m : Moment) → Law m.core → MomentLaw m → m.copying ≡ false → is_idle m.phase ≡ false → (n : ℕ) → (turns_made m n).over ≡ true → CountsRound m m.collection (progress_of (turns_made m n).tally true) (turns_made m n).moment
counts_round m law moment alone runs n over = elim (spans m law moment alone runs n) [
  | inl h ↦ absurd (false≢true (sym h.goes ∙ over))
  | inr h ↦ late_counts m (turns_made m n) h over
]
