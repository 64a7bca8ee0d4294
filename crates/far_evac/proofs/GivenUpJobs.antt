-- Once a round is given up each job is void.
use Rattle.std.proofs.Common.{◌≡◌, ℕ, ◌<◌, ◌≤◌, ◌^◌, ◌&&◌, Bool, true, false, cond, List, [], length, arith, ap, sym, refl, ◌∙◌, subst}
use Rattle.std.specs.Prelude.{fold}
use Rattle.std.proofs.lemmas.Bool.{and_parts}
use Rattle.far_word.specs.declared.job.Job.{Job}
use Rattle.far_word.specs.Pointer.{read_of}
use Rattle.far_events.specs.state.Jobs.{near_place}
use Rattle.far_events.specs.state.Law.{Law}
use Rattle.far_events.specs.state.State.{State}
use Rattle.far_hand.specs.Masked.{AllFindJobs}
use Rattle.far_hand.proofs.JobsFound.{job_is}
use Rattle.far_book.specs.book.Own.{HasNoJob, own_part}
use Rattle.far_evac.specs.declared.phase.Phase.TheVariants.{Evacuating, Idle}
use Rattle.far_evac.specs.declared.round.Round.{Round}
use Rattle.far_evac.specs.AnyHand.{Knows}
use Rattle.far_evac.specs.Choosing.{after_aborting}
use Rattle.far_evac.specs.Live.{is_empty, live_among, live_in}
use Rattle.far_evac.specs.Moment.{Moment}
use Rattle.far_evac.specs.RoundSteps.{among, unmarked}
use Rattle.far_evac.specs.Standing.{IsSound, collection_in}
use Rattle.far_evac.specs.StillCopies.{StillCopies}
use Rattle.far_evac.proofs.Fronts.{vacant_in}
use Rattle.far_evac.proofs.HeldJobs.{knows_jobs, lies_near, still_before}
use Rattle.far_evac.proofs.Marks.{clears_cells, is_given_up}
use Rattle.far_evac.proofs.NearBut.{still_near}
use Rattle.far_evac.proofs.SmallSteps.{none_there}
use Rattle.far_evac.proofs.Standings.{idle_round}

module _ (m : Moment) (law : Law (own_part m.core)) (held : (j : ℕ) (job : Job) → StillCopies m.core j job → (m.phase ≡ Evacuating) × (among m.collection job.from.log ≡ true)) where
  abbrev t : State
  t = (after_aborting m).core

  fits : (p : ℕ) → m.core.cell p < 2 ^ 64
  fits p = (law.cells.cell_read p).0

  is : t ≡ record m.core { cell = t.cell; round = t.round }
  is = clears_cells (live_among m.core m.collection) m.core

  words : AllFindJobs m.core.copying.word t.copying.word
  words j = job_is (m.core.copying.word j) (t.copying.word j) (ap (λ (u : State). u.copying.word j) is)

  -- no log comes into the round
  stays : (b inside empty : Bool) → cond b (inside && empty) inside ≡ true → inside ≡ true
  stays true inside empty e = (and_parts inside empty e).0
  stays false inside empty e = e

  module _ (j : ℕ) (job : Job) (still : StillCopies t j job) where
    abbrev l : ℕ
    l = job.from.log

    round : cond (among m.collection l) (m.core.round l && is_empty (live_in m.core l)) (m.core.round l) ≡ true
    round = sym ((is_given_up m fits).round l) ∙ still.good.1

    was : StillCopies m.core j job
    was = still_before m.core t words (ap (λ (u : State). u.copying.since) is) (ap (λ (u : State). u.round_epoch) is) j job
        (λ _. stays (among m.collection l) (m.core.round l) (is_empty (live_in m.core l)) round)
        (λ lies _. (let x = lies_near (read_of (t.cell job.pointer)) job.from lies in ap near_place (still_near m (after_aborting m) (is_given_up m fits).same job.pointer x.len x.ds job.from x.marks x.near).1))
        still

    -- the log has no live object
    empty : is_empty (live_in m.core l) ≡ true
    empty = (and_parts (m.core.round l) (is_empty (live_in m.core l)) (sym (ap (λ b. cond b (m.core.round l && is_empty (live_in m.core l)) (m.core.round l)) (held j job was).1) ∙ round)).1

    pub none_after_aborting : ⊥
    none_after_aborting =
        let x = lies_near (read_of (m.core.cell job.pointer)) job.from was.lies in
        vacant_in m.core law l 0 (λ q n d at k there log. omega arith) (none_there (live_in m.core l) empty) job.pointer x.len x.ds job.from x.marks x.near refl

-- a round was given up: marks may have been found meanwhile, and words forgotten
module _ {still : Type 0} (s t : State) {copying : Bool} (r : Round) (sound : IsSound still s copying r) (law : Law (own_part s)) (logs : List ℕ) (same : logs ≡ collection_in r)
    (known : Knows (fold unmarked s (live_among s logs)) t) where
  abbrev begun : Moment
  begun = record { core = s; order = []; phase = r.phase; collection = collection_in r; copying = copying }

  abbrev left : State
  left = (after_aborting begun).core

  is_known : Knows left t
  is_known = subst (λ ls. Knows (fold unmarked s (live_among s ls)) t) same known

  alone_then : copying ≡ false → HasNoJob t
  alone_then e j = ap (λ (u : State). u.copying.word j) is_known.rest ∙ ap (λ (u : State). u.copying.word j) (clears_cells (live_among s (collection_in r)) s) ∙ sound.jobs.alone e j

  pub sound_given_up : (next : Round) → next.phase ≡ Idle → next.index ≤ length next.chosen → IsSound still t copying next
  sound_given_up next idle index = record {
    round = idle_round t next idle index;
    jobs = record { alone = alone_then; held = λ j job h. absurd (none_after_aborting begun law sound.jobs.held j job ((knows_jobs left t is_known).still j job h)) };
    exact = sound.exact;
  }
