-- What lies in a log of the core's round lies in one that the evacuator holds.
use Rattle.std.proofs.Common.{◌≡◌, ℕ, ◌^◌, ◌<◌, ◌&&◌, Bool, true, false, cond, Option, Some, None, [], ◌∷◌, arith, ap, sym, refl, ◌∙◌, ◌||◌, inl, inr, subst}
use Rattle.std.proofs.lemmas.Bool.{and_parts, cond_both, false≢true, cases_eq, ne_eqb}
use Rattle.far_word.specs.declared.mark.Marks.{Marks}
use Rattle.far_word.specs.declared.pointer.Place.{Place}
use Rattle.far_word.specs.declared.pointer.PtrWord.TheVariants.{Near}
use Rattle.far_word.specs.declared.sizes.TheConstants.{JOBS}
use Rattle.far_word.specs.Pointer.{read_of}
use Rattle.far_events.specs.state.Law.{Law}
use Rattle.far_events.specs.state.Spans.{spans_of}
use Rattle.far_events.specs.state.State.{Copying, State}
use Rattle.far_book.specs.book.Own.{own_part}
use Rattle.far_book.proofs.region.Owns.{own_law}
use Rattle.far_evac.specs.declared.phase.Phase.TheVariants.{Idle, Waiting, Evacuating}
use Rattle.far_evac.specs.ByCopying.{GivesUpBeside}
use Rattle.far_evac.specs.Choosing.{after_aborting}
use Rattle.far_evac.specs.Dealings.{says}
use Rattle.far_evac.specs.Laws.{but_evac}
use Rattle.far_evac.specs.Live.{is_empty, live_in}
use Rattle.far_evac.specs.Marking.{after_marking, leaves_some, marked_core, newly_marked}
use Rattle.far_evac.specs.Moment.{Moment, Tally, nothing}
use Rattle.far_evac.specs.MomentLaw.{has_risen, IsLawful}
use Rattle.far_evac.specs.RoundSteps.{advanced, among, with_clear_below}
use Rattle.far_evac.specs.Strays.{AbortingStraysNone, CallersStrayNone, MarkingStraysNone, NoRoundStraysNone, NoneStrays, PollingStraysNone, RisenStraysNone, RoundStraysNone, SelectingStraysNone, TurnsStrayNone, WalkingStraysNone, CallsStrayNone, FoundStrayNone, RoundsStrayNone, RowsStrayNone}
use Rattle.far_evac.specs.Turns.{turns_made}
use Rattle.far_evac.specs.Waiting.{first_open, polled_to}
use Rattle.far_evac.specs.Walk.{is_done, walked, Walked}
use Rattle.far_evac.proofs.BesideRounds.{walks_only}
use Rattle.far_evac.proofs.Bools.{by_copying}
use Rattle.far_evac.proofs.Fronts.{vacant_in}
use Rattle.far_evac.proofs.Marks.{marks_cells, is_given_up, is_marked}
use Rattle.far_evac.proofs.LeadingWalks.{walking_only}
use Rattle.far_evac.proofs.SmallSteps.{none_there, Keeps, lifted_walks}
use Rattle.far_events.proofs.Put.{put_other, put_same}
use Rattle.far_hand.proofs.Finding.{near_known}
use Rattle.far_evac.specs.declared.answers.Polled.{Polled}
use Rattle.far_evac.specs.declared.answers.Polled.TheVariants.{Clear, StillOpen}
use Rattle.far_evac.specs.AnyHand.{Polls, WalksTo}
use Rattle.far_evac.proofs.Framed.{so_one}
use Rattle.far_evac.proofs.NearBut.{still_near}
use Rattle.far_evac.proofs.TakenBack.{taken_rest}
use Rattle.far_evac.proofs.Readiness.{risen_is_ready}
use Rattle.far_evac.proofs.Rounds.{turns_are}
use Rattle.far_evac.proofs.TurnSteps.{KeepsTurns, round_kept, round_kept_exactly, stop_kept, stopped_kept, turn_kept, turns_kept, walk_kept}

-- ---- where it is so
pub no_round : NoRoundStraysNone
no_round m none p len ds place marks near is = absurd (false≢true (sym (none place.log) ∙ is))

pub risen : RisenStraysNone
risen m moment is_risen p len ds place marks near is = moment.only is_risen place.log is

fits : (s : State) → Law (own_part s) → (p : ℕ) → s.cell p < 2 ^ 64
fits s law p = (law.cells.cell_read p).0

-- ---- selecting
pub selecting_none : SelectingStraysNone
selecting_none m [] moment idle none = none
selecting_none m (l ∷ ls) moment idle none = λ p len ds place marks near is.
    absurd (false≢true (sym (ap (λ held. among held place.log) (none_there m.collection (moment.runs ∙ idle))) ∙ none p len ds place marks near is))

-- ---- marking
same_round : (m : Moment) (n l : ℕ) → (marked_core m n).round l ≡ m.core.round l
same_round m n l = ap (λ (s : State). s.round l) (marks_cells (newly_marked m n) m.core)

pub marking_own : (m : Moment) (n : ℕ) → Law (own_part m.core) → NoneStrays m → NoneStrays (after_marking m n)
marking_own m n law none =
    cond_both (leaves_some m n) (record m { core = marked_core m n }) (record m { core = advanced (marked_core m n) m.collection; phase = Waiting })
    (λ (t : Moment). ((p : ℕ) → but_evac (says t p) ≡ but_evac (says m p)) → NoneStrays t)
    (λ _ same p len ds place marks near is. let x = still_near m (record m { core = marked_core m n }) same p len ds place marks near in none p len ds place x.0 x.1 (sym (same_round m n place.log) ∙ is))
    (λ _ same p len ds place marks near is. is)
    (is_marked m n (fits m.core law)).same

pub marking_none : MarkingStraysNone
marking_none m n law none = marking_own m n (own_law m.core law) none

-- ---- polling
polled_none : (m : Moment) (o : Option ℕ) → NoneStrays m → NoneStrays (polled_to m o)
polled_none m None none = none
polled_none m (Some k) none = none

pub polling_none : PollingStraysNone
polling_none m none = polled_none m (first_open m.core) none

-- ---- objects leave
pub walking_none : WalkingStraysNone
walking_none m n law moment alone leaves =
    let w = walked m n in
    let only = walking_only m n law moment alone leaves in
    cond_both (is_done w) (record w.moment { phase = Idle }) w.moment NoneStrays (λ _ p len ds place marks near is. only place.log is) (λ _ p len ds place marks near is. only place.log is)

-- ---- giving up, once jobs may have gone
module _ (m : Moment) (law : Law (own_part m.core)) (none : NoneStrays m) (u : State) (jobs : u ≡ record m.core { copying = u.copying }) where
  abbrev v : Moment
  v = record m { core = u }

  fits_then : (p : ℕ) → u.cell p < 2 ^ 64
  fits_then p = subst (λ w. w < 2 ^ 64) (sym (ap (λ (s : State). s.cell p) jobs)) (fits m.core law p)

  same_lives : (k : Copying) (l : ℕ) → live_in (record m.core { copying = k }) l ≡ live_in m.core l
  unfolding live_in spans_of
  same_lives k l = refl

  lives : (l : ℕ) → live_in u l ≡ live_in m.core l
  lives l = ap (λ s. live_in s l) jobs ∙ same_lives u.copying l

  module _ (p len ds : ℕ) (place : Place) (marks : Marks) (near : read_of (u.cell p) ≡ Some (Near len ds place marks)) where
    near_before : read_of (m.core.cell p) ≡ Some (Near len ds place marks)
    near_before = sym (ap (λ (s : State). read_of (s.cell p)) jobs) ∙ near

    out_of_round : (held : Bool) → among m.collection place.log ≡ held → cond held (u.round place.log && is_empty (live_in u place.log)) (u.round place.log) ≡ true → ⊥
    out_of_round true e is =
        let empty = (and_parts (u.round place.log) (is_empty (live_in u place.log)) is).1 in
        vacant_in m.core law place.log 0 (λ q n d at k there log. omega arith) (none_there (live_in m.core place.log) (sym (ap is_empty (lives place.log)) ∙ empty)) p len ds place marks near_before refl
    out_of_round false e is = false≢true (sym e ∙ none p len ds place marks near_before (sym (ap (λ (s : State). s.round place.log) jobs) ∙ is))

  aborting_jobs : NoneStrays (after_aborting v)
  aborting_jobs p len ds place marks near is =
      let given = is_given_up v fits_then in
      let x = still_near v (after_aborting v) given.same p len ds place marks near in
      absurd (out_of_round p len ds place x.0 x.1 (among m.collection place.log) refl (sym (given.round place.log) ∙ is))

pub aborting_own : (m : Moment) → Law (own_part m.core) → NoneStrays m → NoneStrays (after_aborting m)
aborting_own m law none = aborting_jobs m law none m.core refl

pub aborting_none : AbortingStraysNone
aborting_none m law none = aborting_own m (own_law m.core law) none

-- ---- marks that are found
pub found_none : FoundStrayNone
found_none m t known none p len ds place marks near is =
    let x = near_known (m.core.cell p) (t.core.cell p) (known.core.found p) len ds place marks near in
    ap (λ (n : Moment). among n.collection place.log) known.rest
    ∙ none p len ds place x.marks x.near (sym (ap (λ (s : State). s.round place.log) known.core.rest) ∙ is)

-- ---- while objects leave, no log outside the collection set is in the round
abbrev IsOnly : Walked → Type 0
IsOnly w = (l : ℕ) → w.moment.core.round l ≡ true → among w.moment.collection l ≡ true

keeps_only : (m : Moment) → Keeps false m (λ k. IsOnly)
keeps_only m = record {
  learns = λ k w t known only l is. ap (λ (n : Moment). among n.collection l) known.moment.rest ∙ only l (sym (ap (λ (s : State). s.round l) known.moment.core.rest) ∙ is);
  gives = λ k w l ls ready none only j is. elim (cases_eq j l) [
    | inl e ↦ absurd (false≢true (sym (put_same w.moment.core.round l false j e) ∙ is))
    | inr ne ↦ sym (ap (λ b. b || among ls j) (ne_eqb j l ne)) ∙ only j (sym (put_other w.moment.core.round l false j ne) ∙ is)
  ];
  deals = λ k w l ls p ps way first only j is. only j (sym (ap (λ (s : State). s.round j) (so_one w.moment.core p way).frame) ∙ is);
}

-- ---- each call, turns, and whole rounds
walk_only : (m : Moment) → IsLawful m → m.phase ≡ Evacuating → (k : ℕ) (w : Walked) → WalksTo m k w → IsOnly w
walk_only m lawful leaves k w walks = (lifted_walks m (λ k. IsOnly) (keeps_only m) (risen_is_ready m lawful.0 lawful.1 (ap has_risen leaves)) (lawful.1.only (ap has_risen leaves)) k w walks).keeps

keeps_none : KeepsTurns false (λ m tally. NoneStrays m)
keeps_none = record {
  learns = λ m t tally. found_none m t;
  marks = λ m n tally lawful is. marking_own m n lawful.0;
  looks = λ m k phase tally lawful is none. none;
  walks = λ m k w tally lawful leaves walks none p len ds place marks near. walk_only m lawful leaves k w walks place.log;
  beside = λ m n w end tally lawful copying leaves walks none p len ds place marks near. walks_only m n w end walks (lawful.1.only (ap has_risen leaves)) place.log;
  ends = λ m tally none. none;
}

abbrev Of : Moment → Tally → Type 0
Of m tally = NoneStrays m

pub calls_none : CallsStrayNone
calls_none m t law moment none = (
  λ n count waiting marks. found_none (after_marking m n) t marks.leaves (marking_own m n law none),
  polls_none,
  λ n tally done leaves. walk_kept Of keeps_none m t (law, moment) nothing none n tally done leaves,
  λ n tally leaves. stop_kept Of keeps_none m t (law, moment) nothing none n tally leaves,
  λ gives. by_copying m.copying (λ alone. found_none (after_aborting m) t (gives.alone alone) (aborting_own m law none)) (λ copies. given_up (gives.beside copies)),
  turn_kept Of keeps_none m t (law, moment) nothing none,
) where
  polls_none : (answer : Polled) → Polls m t answer → NoneStrays t
  polls_none Clear polls = found_none (record m { core = with_clear_below m.core m.core.mutators; phase = Evacuating }) t polls none
  polls_none (StillOpen k epoch) polls = found_none (record m { core = with_clear_below m.core k }) t polls.leaves none

  given_up : GivesUpBeside m t → NoneStrays t
  given_up (u, takes, gives) = found_none (after_aborting (record m { core = u })) t gives (aborting_jobs m law none u (taken_rest m.core JOBS u takes))

pub rows_none : RowsStrayNone
rows_none m t tallies over made none = turns_kept Of keeps_none m none tallies over t made

pub rounds_none : RoundsStrayNone
rounds_none m t logs turns moment idle none =
    let begun = selecting_none m logs moment idle none in (λ end ran. (round_kept Of keeps_none m t logs turns end begun ran).1, λ so_far stopped. (stopped_kept Of keeps_none m t logs turns so_far begun stopped).1)

-- ---- where no word changes but by this
pub turns_none : TurnsStrayNone
turns_none m n law moment alone runs none = let h = turns_are m law moment alone runs n in rows_none m (turns_made m n).moment h.tallies (turns_made m n).over h.made none

pub round_none : RoundStraysNone
round_none m logs turns end t law moment alone idle left once of_order is none = round_kept_exactly NoneStrays turns_none m logs turns end t law moment alone idle left once of_order is (selecting_none m logs moment idle none)

-- ---- what callers do
pub callers_none : CallersStrayNone
callers_none m t comes none p len ds place marks near is =
    let x = comes.near p len ds place marks near is in
    none p len ds place x.0 x.1 (comes.round place.log is)
