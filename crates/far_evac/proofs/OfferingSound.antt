-- What an evacuator's round is once its jobs were collected and its logs were walked over.
use Rattle.std.proofs.Common.{◌≡◌, ℕ, ◌<◌, ◌≤◌, ◌==◌, Bool, true, false, cond, eqb, Some, None, Option, List, [], ◌∷◌, length, zero, suc, ap, sym, refl, ◌∙◌, subst, arith}
use Rattle.std.specs.List.{IsDistinct}
use Rattle.std.proofs.lemmas.Bool.{false≢true, ne_eqb, true≢false}
use Rattle.std.proofs.lemmas.Map.Steps.{length-le_from_distinct_below}
use Rattle.far_word.specs.declared.job.Job.{Job}
use Rattle.far_word.specs.declared.pointer.Place.{Place}
use Rattle.far_word.specs.declared.pointer.PtrWord.{PtrWord}
use Rattle.far_word.specs.declared.pointer.PtrWord.TheVariants.{Near}
use Rattle.far_word.specs.declared.sizes.TheConstants.{MOST_LOGS}
use Rattle.far_word.specs.Pointer.{read_of}
use Rattle.far_events.specs.declared.event.Kind.TheVariants.{Sealed}
use Rattle.far_events.specs.state.Jobs.{job_at}
use Rattle.far_events.specs.state.Law.{Law}
use Rattle.far_events.specs.state.State.{State}
use Rattle.far_book.specs.book.BookOf.{BookOf}
use Rattle.far_book.specs.book.Collecting.{Collects, CollectsKnown, Empties, Fate, GoesAsFound, Names, Stays, fate_in, found_so, made_of, named_of}
use Rattle.far_book.specs.book.Effects.{near_word}
use Rattle.far_book.specs.book.Own.{own_part}
use Rattle.far_evac.specs.declared.answers.Progress.{Progress}
use Rattle.far_evac.specs.declared.phase.Phase.TheVariants.{Evacuating, Idle}
use Rattle.far_evac.specs.BookStands.{IsChosen, stands}
use Rattle.far_evac.specs.Live.{is_empty}
use Rattle.far_evac.specs.MomentLaw.{is_idle}
use Rattle.far_evac.specs.RoundSteps.{among}
use Rattle.far_evac.specs.Standing.{Holds, InRound, IsSound, collection_in}
use Rattle.far_evac.specs.StillCopies.{StillCopies}
use Rattle.far_evac.specs.Walk.{ended}
use Rattle.far_evac.specs.WalkedLogs.{KeepsRound, round_of}
use Rattle.far_evac.proofs.Framed.{name_one}
use Rattle.far_evac.proofs.OfOneKind.{sealed_used}
use Rattle.far_evac.proofs.Standings.{at_start, idle_round}

-- ---- jobs that are collected leave the round
pub record LeavesRound (s t : State) : Type 0 where
  pub round : t.round ≡ s.round
  pub clear : t.clear ≡ s.clear
  pub mutators : t.mutators ≡ s.mutators
  pub epoch : t.round_epoch ≡ s.round_epoch
  pub since : t.copying.since ≡ s.copying.since

pub leaves_itself : (s : State) → LeavesRound s s
leaves_itself s = record { round = refl; clear = refl; mutators = refl; epoch = refl; since = refl }

pub leaves_more : (s t u : State) → LeavesRound s t → LeavesRound t u → LeavesRound s u
leaves_more s t u f g = record {
  round = g.round ∙ f.round;
  clear = g.clear ∙ f.clear;
  mutators = g.mutators ∙ f.mutators;
  epoch = g.epoch ∙ f.epoch;
  since = g.since ∙ f.since;
}

leaves_named : (s : State) (p : ℕ) (to : Place) (cell : Option PtrWord) → LeavesRound s (named_of s p to cell)
leaves_named s p to (Some (Near len ds from marks)) =
    let h = (name_one s p (near_word marks.dirty len ds to) (s.cell p)).frame in record {
      round = ap (λ (u : State). u.round) h;
      clear = ap (λ (u : State). u.clear) h;
      mutators = ap (λ (u : State). u.mutators) h;
      epoch = ap (λ (u : State). u.round_epoch) h;
      since = ap (λ (u : State). u.copying.since) h;
    }
leaves_named s p to _ = leaves_itself s

leaves_made : (s : State) (j : ℕ) (job : Job) (fate : Fate) → LeavesRound s (made_of s j job fate)
leaves_made s j job Stays = leaves_itself s
leaves_made s j job Empties = record { round = refl; clear = refl; mutators = refl; epoch = refl; since = refl }
leaves_made s j job Names =
    let h = leaves_named s job.pointer job.to (read_of (s.cell job.pointer)) in
    record { round = h.round; clear = h.clear; mutators = h.mutators; epoch = h.epoch; since = h.since }

pub leaves_gone : (s t : State) (j : ℕ) (job : Job) (names : Bool) → GoesAsFound s t j job names → LeavesRound s t
leaves_gone s t j job names g =
    let h = leaves_made (found_so s j job g.word g.cell) j job (fate_in s j job g.word g.cell) in record {
      round = ap (λ (u : State). u.round) g.leads ∙ h.round;
      clear = ap (λ (u : State). u.clear) g.leads ∙ h.clear;
      mutators = ap (λ (u : State). u.mutators) g.leads ∙ h.mutators;
      epoch = ap (λ (u : State). u.round_epoch) g.leads ∙ h.epoch;
      since = ap (λ (u : State). u.copying.since) g.leads ∙ h.since;
    }

leaves_known : (s t : State) (j : ℕ) (o : Option Job) (names : Bool) → CollectsKnown s t j o names → LeavesRound s t
leaves_known s t j None names h = subst (LeavesRound s) (sym h.0) (leaves_itself s)
leaves_known s t j (Some job) names h = leaves_gone s t j job names h

pub collects_leaves : (s t : State) (n count : ℕ) → Collects s n t count → LeavesRound s t
collects_leaves s t zero count h = subst (LeavesRound s) (sym h.0) (leaves_itself s)
collects_leaves s t (suc n) count (u, before, names, rest, here, counted) =
    leaves_more s u t (collects_leaves s u n before rest) (leaves_known u t n (job_at u.copying.word n) names here)

-- ---- so the logs may be walked over
pub chosen_then : (s t : State) (held : List ℕ) → Holds s Evacuating held → LeavesRound s t → Law (own_part t) → (l : ℕ) → among held l ≡ true → IsChosen t l
chosen_then s t held h leaves law l is =
    let round : t.round l ≡ true = ap (λ (r : ℕ → Bool). r l) leaves.round ∙ h.round refl l is in record {
      sealed = law.rounds.round_sealed l round;
      round = round;
      marked = λ p len ds place marks near log. law.rounds.round_evac p len ds place marks near (ap t.round log ∙ round);
      clear = λ k lt. ap (λ (c : ℕ → Bool). c k) leaves.clear ∙ h.clear refl k (subst (λ n. k < n) leaves.mutators lt);
    }

-- ---- and the round is as its record says
module _ (s u t : State) (held kept : List ℕ) (holds : Holds s Evacuating held) (leaves : LeavesRound s u) (keeps : KeepsRound u held kept t) (law : Law (own_part t)) where
  only : (l : ℕ) → t.round l ≡ true → among kept l ≡ true
  only l is =
      let was = keeps.round l is in
      was.1 (holds.only refl l (sym (ap (λ (r : ℕ → Bool). r l) leaves.round) ∙ was.0))

  clear_then : (k : ℕ) → k < t.mutators → t.clear k ≡ true
  clear_then k lt =
      ap (λ (c : ℕ → Bool). c k) (keeps.clear ∙ leaves.clear) ∙ holds.clear refl k (subst (λ n. k < n) (keeps.mutators ∙ leaves.mutators) lt)

pub round_then : (s u t : State) (held kept : List ℕ) → Holds s Evacuating held → LeavesRound s u → KeepsRound u held kept t → Law (own_part t) → InRound t (round_of kept)
round_then s u t held [] holds leaves keeps law = idle_round t (round_of []) refl (omega arith)
round_then s u t held (k ∷ ks) holds leaves keeps law = record {
  holds = record {
    sealed = λ l is. (keeps.again l is).1.sealed;
    once = keeps.once;
    runs = refl;
    round = λ _ l is. (keeps.again l is).1.round;
    only = λ _ l is. only s u t held (k ∷ ks) holds leaves keeps law l is;
    clear = λ _ m lt. clear_then s u t held (k ∷ ks) holds leaves keeps law m lt;
    later = λ odd. absurd cc;
  };
  stands = record {
    index = omega arith;
    begins = λ _ l ls e. at_start t law l;
    marked = λ odd. absurd cc;
    marked_here = λ odd. absurd cc;
    left = λ _ l ls e p len ds place marks near log. omega arith;
    seen = λ odd. absurd cc;
    unseen = λ odd. absurd cc;
  };
}

jobs_then : (s u t : State) (held kept : List ℕ) → Holds s Evacuating held → LeavesRound s u → KeepsRound u held kept t → Law (own_part t) → (j : ℕ) (job : Job) → StillCopies t j job →
    ((round_of kept).phase ≡ Evacuating) × (among (collection_in (round_of kept)) job.from.log ≡ true)
jobs_then s u t held [] holds leaves keeps law j job h = absurd (false≢true (only s u t held [] holds leaves keeps law job.from.log h.good.1))
jobs_then s u t held (k ∷ ks) holds leaves keeps law j job h = (refl, only s u t held (k ∷ ks) holds leaves keeps law job.from.log h.good.1)

pub sound_then : (still : Type 0) (s u t : State) (copying : Bool) (held kept : List ℕ) → copying ≡ true → (still → copying ≡ false) → Holds s Evacuating held → LeavesRound s u → KeepsRound u held kept t → Law (own_part t) → IsSound still t copying (round_of kept)
sound_then still s u t copying held kept is exact holds leaves keeps law = record {
  round = round_then s u t held kept holds leaves keeps law;
  jobs = record { alone = λ e. absurd (true≢false (sym is ∙ e)); held = jobs_then s u t held kept holds leaves keeps law };
  exact = exact;
}

-- ---- the moment is where the walk has ended
pub moment_then : {N D : Type 0} (view : N → State) (book : BookOf N D) (progress : Progress) (held kept : List ℕ) →
    record { core = view book.near; order = book.order; phase = (round_of kept).phase; collection = collection_in (round_of kept); copying = true } ≡ ended (record (stands view book progress held) { moment = record (stands view book progress held).moment { collection = kept } })
moment_then view book progress held [] = refl
moment_then view book progress held (k ∷ ks) = refl

-- ---- and there are no more of them than a heap has
pub few_chosen : (t : State) (held : List ℕ) → Law (own_part t) → IsDistinct eqb held → ((l : ℕ) → among held l ≡ true → t.kind l ≡ Sealed) → length held ≤ MOST_LOGS
few_chosen t held law once sealed =
    length-le_from_distinct_below held MOST_LOGS once (λ l is. omega (arith, law.logs.log_range l (sealed_used (t.kind l) (sealed l is)), law.shape.few_logs))

-- ---- where a walk has stopped the phase is what it was
pub still_leaves : (kept : List ℕ) → is_empty kept ≡ false → (round_of kept).phase ≡ Evacuating
still_leaves kept some = ap (λ b. cond b Idle Evacuating) some

-- ---- the answer says whether the round is over
pub over_kept : (kept : List ℕ) → ((length kept == 0) ≡ is_empty (collection_in (round_of kept))) × (is_idle (round_of kept).phase ≡ (length kept == 0))
over_kept [] = (refl, refl)
over_kept (k ∷ ks) = let some = ne_eqb (suc (length ks)) 0 (λ e. omega (arith, e)) in (some, sym some)
