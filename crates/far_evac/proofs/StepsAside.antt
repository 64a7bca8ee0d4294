-- Steps of callers that leave a round alone, and that such steps keep what is true between two calls of it.
use Rattle.std.proofs.Common.{◌≡◌, ◌≢◌, ℕ, ◌+◌, ◌<◌, ◌≤◌, ◌==◌, ◌||◌, ◌⊎◌, Bool, true, false, cond, eqb, Some, List, [], ◌∷◌, ◌++◌, inl, inr, arith, ap, sym, refl, ◌∙◌, subst}
use Rattle.std.specs.Cmp.{nat_eq_equiv}
use Rattle.std.specs.List.{IsDistinct}
use Rattle.std.proofs.Math.Bool.{or-false}
use Rattle.std.proofs.lemmas.Bool.{cases_eq, cond_both, eq-eqb, eqb-false, eqb-true, ne_eqb}
use Rattle.std.proofs.lemmas.List.Folds.{list_any-append}
use Rattle.std.proofs.lemmas.Map.Keys.{IsDistinct-push}
use Rattle.far_word.specs.declared.job.Job.{Job}
use Rattle.far_word.specs.declared.pointer.Place.{Place}
use Rattle.far_word.specs.declared.pointer.PtrWord.TheVariants.{Near, Far}
use Rattle.far_word.specs.declared.sizes.TheConstants.{EPOCH_END, LONGEST}
use Rattle.far_word.specs.Pointer.{IsPtr, read_of}
use Rattle.far_word.specs.Sizes.{size_of}
use Rattle.far_word.proofs.PointerLaws.{read_says}
use Rattle.far_events.specs.declared.event.Kind.{Kind}
use Rattle.far_events.specs.declared.event.Kind.TheVariants as kinds
use Rattle.far_events.specs.events.Copies.{data_at}
use Rattle.far_events.specs.events.Mark.{is_sealed}
use Rattle.far_events.specs.events.Naming.{is_dropped, no_marks}
use Rattle.far_events.specs.events.NewSpans.{IsNext, with_span}
use Rattle.far_core.specs.laws.Rooms.{IsRoom, RoomIs}
use Rattle.far_events.specs.state.Law.{Law}
use Rattle.far_core.specs.state.Room.{room}
use Rattle.far_events.specs.state.Jobs.{near_place}
use Rattle.far_events.specs.state.State.{Copying, State, put}
use Rattle.far_events.proofs.Put.{put_other, put_same}
use Rattle.far_core.proofs.RoomLaws.{room_right}
use Rattle.far_book.specs.book.Dealing.{goal, has_evac}
use Rattle.far_hand.specs.Quiet.{IsQuietNear}
use Rattle.far_book.specs.book.Effects.{fetched, moved, near_word, order_after, placed, retired, stayed, with_blank_span, with_written_span}
use Rattle.far_book.specs.book.Fetching.{IsFar, far_len, room_for}
use Rattle.far_book.specs.book.Own.{HasNoJob}
use Rattle.far_book.proofs.region.Fetched.{fetched_come}
use Rattle.far_hand.proofs.JobsFound.{empty_found, job_is, job_more}
use Rattle.far_book.proofs.region.Moved.{drop_of, evac_of, goal_there, has_moved, moved_is, no_copy_in_room, stayed_is}
use Rattle.far_book.proofs.region.Owns.{own_law}
use Rattle.far_book.proofs.region.Places.{named_is, next_unsealed}
use Rattle.far_book.proofs.region.Retires.{retired_is}
use Rattle.far_evac.specs.Callers.{CoresJoin, FetchingOrder, FetchingStepsAside, MovingOrder, MovingStepsAside, OwnersStepAside, PlacingOrder, PlacingStepsAside, RetiringOrder, RetiringStepsAside, StepsAside, StepsJoin, StepsKeep, StillOrder, StillStepsAside}
use Rattle.far_evac.specs.Moment.{Moment, with_core}
use Rattle.far_evac.specs.MomentLaw.{MomentLaw}
use Rattle.far_evac.specs.RoundSteps.{among}
use Rattle.far_evac.specs.StillCopies.{StillCopies}
use Rattle.far_evac.specs.Strays.{NoneComes}
use Rattle.far_evac.specs.declared.phase.Phase.TheVariants.{Evacuating}
use Rattle.far_evac.proofs.Bools.{or_right}
use Rattle.far_evac.proofs.HeldJobs.{KeepsJobs, lies_near, none_held, still_before}
use Rattle.far_evac.proofs.OfOneKind.{open_unsealed}

either : (b : Bool) → (b ≡ true) ⊎ (b ≡ false)
either true = inl refl
either false = inr refl

-- ---- what is true between two calls
unsealed : (kind : Kind) → kind ≢ kinds.Sealed → is_sealed kind ≡ false
unsealed kinds.Sealed ne = absurd (ne refl)
unsealed _ ne = refl

-- the sealed logs in order, where another log may have been opened
module _ (s t : State) (law : Law s) (then : Law t) (stay : (l : ℕ) → s.kind l ≡ kinds.Sealed → t.kind l ≡ kinds.Sealed) (others : (l : ℕ) → l ≢ s.current → l ≢ t.current → t.kind l ≡ s.kind l)
    (shut : t.current ≢ s.current → t.kind s.current ≡ kinds.Sealed) (order : List ℕ) (has_sealed : (l : ℕ) → among order l ≡ is_sealed (s.kind l)) where
  abbrev was : ℕ
  was = s.current

  -- a log that wasn't open is sealed exactly where it was
  same_elsewhere : (l : ℕ) → l ≢ was → is_sealed (s.kind l) ≡ is_sealed (t.kind l)
  same_elsewhere l ne = elim (cases_eq l t.current) [
    | inl e ↦ unsealed (s.kind l) (λ shut. open_unsealed (t.kind l) (ap t.kind e ∙ then.logs.is_open) (stay l shut)) ∙ sym (ap is_sealed (ap t.kind e ∙ then.logs.is_open))
    | inr other ↦ ap is_sealed (sym (others l ne other))
  ]

  -- where the open log is the same, so are the sealed ones
  same_sealed : t.current ≡ was → (l : ℕ) → is_sealed (s.kind l) ≡ is_sealed (t.kind l)
  same_sealed same l = elim (cases_eq l was) [
    | inl e ↦ ap is_sealed (ap s.kind e ∙ law.logs.is_open) ∙ sym (ap is_sealed (ap t.kind (e ∙ sym same) ∙ then.logs.is_open))
    | inr ne ↦ same_elsewhere l ne
  ]

  -- else the one that was open is sealed too
  more_sealed : t.current ≢ was → (l : ℕ) → (is_sealed (s.kind l) || (eqb l was || false)) ≡ is_sealed (t.kind l)
  more_sealed other l = elim (cases_eq l was) [
    | inl e ↦ or_right (is_sealed (s.kind l)) (eqb l was || false) (ap (λ b. b || false) (eq-eqb l was e)) ∙ ap is_sealed (sym (ap t.kind e ∙ shut other))
    | inr ne ↦ ap (λ b. is_sealed (s.kind l) || (b || false)) (ne_eqb l was ne) ∙ or-false (is_sealed (s.kind l)) ∙ same_elsewhere l ne
  ]

  abbrev order_now : List ℕ
  order_now = cond (t.current == was) order (order ++ was ∷ [])

  pub order_then : (l : ℕ) → among order_now l ≡ is_sealed (t.kind l)
  order_then l = cond_both (t.current == was) order (order ++ was ∷ []) (λ (xs : List ℕ). among xs l ≡ is_sealed (t.kind l))
      (λ e. has_sealed l ∙ same_sealed (eqb-true t.current was e) l)
      (λ e. list_any-append (eqb l) order (was ∷ []) ∙ ap (λ b. b || (eqb l was || false)) (has_sealed l) ∙ more_sealed (eqb-false t.current was e) l)

  pub once_then : IsDistinct eqb order → IsDistinct eqb order_now
  once_then once = cond_both (t.current == was) order (order ++ was ∷ []) (IsDistinct eqb)
      (λ _. once) (λ _. IsDistinct-push nat_eq_equiv order was once (has_sealed was ∙ ap is_sealed law.logs.is_open))

module _ (m : Moment) (t : State) (law : Law m.core) (moment : MomentLaw m) (then : Law t) (aside : StepsAside m.core t) (none : m.copying ≡ true → NoneComes m.core t) where
  -- a job that isn't void wasn't before
  jobs_aside : m.copying ≡ true → KeepsJobs m.core t
  jobs_aside copies = let comes = none copies in record {
    words = aside.jobs;
    still = λ j job. still_before m.core t aside.jobs aside.since aside.round_epoch j job (comes.round job.from.log)
        (λ lies in_round.
        let x = lies_near (read_of (t.cell job.pointer)) job.from lies in
        ap near_place (comes.near job.pointer x.len x.ds job.from x.marks x.near in_round).1);
  }

  alone_aside : m.copying ≡ false → HasNoJob t
  alone_aside e j = empty_found (m.core.copying.word j) (t.copying.word j) (aside.jobs j) (moment.alone e j)

  held_aside : (j : ℕ) (job : Job) → StillCopies t j job → (m.phase ≡ Evacuating) × (among m.collection job.from.log ≡ true)
  held_aside j job still = elim (either m.copying) [
    | inl copies ↦ moment.held j job ((jobs_aside copies).still j job still)
    | inr alone ↦ none_held t m.phase m.collection (alone_aside alone) j job still
  ]

  pub law_kept : MomentLaw (with_core m t)
  law_kept = record {
    order = order_then m.core t law then aside.stay aside.others aside.shut m.order moment.order;
    order_once = once_then m.core t law then aside.stay aside.others aside.shut m.order moment.order moment.order_once;
    sealed = λ l held. aside.stay l (moment.sealed l held);
    collection_once = moment.collection_once;
    runs = moment.runs;
    round = λ risen l held. ap (λ (round : ℕ → Bool). round l) aside.round ∙ moment.round risen l held;
    only = λ risen l is. moment.only risen l (sym (ap (λ (round : ℕ → Bool). round l) aside.round) ∙ is);
    clear = λ leaves k lt. ap (λ (clear : ℕ → Bool). clear k) aside.clear ∙ moment.clear leaves k (subst (λ n. k < n) aside.mutators lt);
    later = λ marks. subst (λ e. e + 1 < EPOCH_END) (sym aside.epoch) (moment.later marks);
    alone = alone_aside;
    held = held_aside;
  }

pub steps_keep : StepsKeep
steps_keep m t law moment then aside none = law_kept m t law moment then aside none

-- ---- two steps
pub steps_join : StepsJoin
steps_join s t u a b one = record {
  mutators = b.mutators ∙ a.mutators;
  logs = b.logs ∙ a.logs;
  epoch = b.epoch ∙ a.epoch;
  round = b.round ∙ a.round;
  round_epoch = b.round_epoch ∙ a.round_epoch;
  clear = b.clear ∙ a.clear;
  jobs = λ j. job_more (s.copying.word j) (t.copying.word j) (u.copying.word j) (a.jobs j) (b.jobs j);
  since = b.since ∙ a.since;
  stay = λ l shut. b.stay l (a.stay l shut);
  others = λ l ne other. elim one [
    | inl same ↦ b.others l (λ e. ne (e ∙ same)) other ∙ a.others l ne (λ e. ne (e ∙ same))
    | inr same ↦ b.others l (λ e. other (e ∙ sym same)) other ∙ a.others l ne (λ e. other (e ∙ sym same))
  ];
  shut = λ other. elim one [
    | inl same ↦ ap u.kind (sym same) ∙ b.shut (λ e. other (e ∙ same))
    | inr same ↦ b.stay s.current (a.shut (λ e. other (same ∙ e)))
  ];
}

-- ---- which steps are such
pub still_aside : StillStepsAside
still_aside s t mutators logs epoch round round_epoch clear copying kind current = record {
  mutators = mutators;
  logs = logs;
  epoch = epoch;
  round = round;
  round_epoch = round_epoch;
  clear = clear;
  jobs = λ j. job_is (s.copying.word j) (t.copying.word j) (ap (λ (k : Copying). k.word j) copying);
  since = ap (λ (k : Copying). k.since) copying;
  stay = λ l shut. ap (λ (kind : ℕ → Kind). kind l) kind ∙ shut;
  others = λ l ne other. ap (λ (kind : ℕ → Kind). kind l) kind;
  shut = λ other. absurd (other current);
}

pub owners_aside : OwnersStepAside
owners_aside s t change = record {
  mutators = ap (λ (u : State). u.mutators) change.rest;
  logs = ap (λ (u : State). u.logs) change.rest;
  epoch = ap (λ (u : State). u.epoch) change.rest;
  round = ap (λ (u : State). u.round) change.rest;
  round_epoch = ap (λ (u : State). u.round_epoch) change.rest;
  clear = ap (λ (u : State). u.clear) change.rest;
  jobs = change.jobs;
  since = ap (λ (u : State). u.copying.since) change.rest;
  stay = λ l shut. ap (λ (u : State). u.kind l) change.rest ∙ shut;
  others = λ l ne other. ap (λ (u : State). u.kind l) change.rest;
  shut = λ other. absurd (other (ap (λ (u : State). u.current) change.rest));
}

-- a span is taken where the next may stand
taken_aside : (s : State) → Law s → (word : ℕ → ℕ) (p new len : ℕ) (to : Place) → IsNext s to → StepsAside s (with_span (record s { word = word }) p new len to)
taken_aside s law word p new len to next = record {
  mutators = refl;
  logs = refl;
  epoch = refl;
  round = refl;
  round_epoch = refl;
  clear = refl;
  jobs = λ j. job_is (s.copying.word j) (s.copying.word j) refl;
  since = refl;
  stay = λ l shut.
      put_other (put s.kind s.current kinds.Sealed) to.log kinds.Open l (λ e. next_unsealed s to next (ap s.kind (sym e) ∙ shut))
      ∙ put_other s.kind s.current kinds.Sealed l (λ e. open_unsealed (s.kind s.current) law.logs.is_open (ap s.kind (sym e) ∙ shut)) ∙ shut;
  others = λ l ne other. put_other (put s.kind s.current kinds.Sealed) to.log kinds.Open l other ∙ put_other s.kind s.current kinds.Sealed l ne;
  shut = λ other. put_other (put s.kind s.current kinds.Sealed) to.log kinds.Open s.current (λ e. other (sym e)) ∙ put_same s.kind s.current kinds.Sealed s.current refl;
}

module _ (s : State) (law : Law s) (len ds : ℕ) (to : Place) (reserve : Bool) (some : 0 < len) (most : len ≤ LONGEST) (structure : ds < 256) (found : room s (size_of len) reserve ≡ Some to) where
  is_room : IsRoom s (size_of len) reserve to
  is_room = subst (RoomIs s (size_of len) reserve) found (room_right s law (size_of len) reserve (omega arith))

  pub layout : IsPtr (Near len ds to no_marks)
  layout = (some, most, structure, omega (arith, is_room.next.0, law.shape.few_logs), is_room.fits)

module _ (s : State) (p len ds : ℕ) (to : Place) (reserve : Bool) (law : Law s) (free : s.cell p ≡ 0) (some : 0 < len) (most : len ≤ LONGEST) (structure : ds < 256) (found : room s (size_of len) reserve ≡ Some to) where
  placed_taken : placed s p len ds to ≡ with_span (with_blank_span s p len ds to) p (near_word true len ds to) len to
  placed_taken = named_is (with_blank_span s p len ds to) p len ds to free (layout s law len ds to reserve some most structure found)

  placed_aside : StepsAside s (placed s p len ds to)
  placed_aside = subst (StepsAside s) (sym placed_taken) (taken_aside s law _ p (near_word true len ds to) len to (is_room s law len ds to reserve some most structure found).next)

pub placing_aside : PlacingStepsAside
placing_aside s p len ds place reserve law free some most structure found = placed_aside s p len ds place reserve law free some most structure found

module _ (s : State) (p : ℕ) (to : Place) (law : Law s) (q : IsQuietNear s p) (alive : is_dropped (read_of (s.cell p)) ≡ false) (found : goal s p ≡ Some to) where
  says : IsPtr (Near q.len q.ds q.place q.marks)
  says = (read_says (s.cell p) (Near q.len q.ds q.place q.marks) (law.cells.cell_read p).0 q.near).0

  undropped : q.marks.dropped ≡ false
  undropped = drop_of (read_of (s.cell p)) q.len q.ds q.place q.marks q.near alive

  module _ (wanted : has_evac (read_of (s.cell p)) ≡ true) where
    evac : q.marks.evac ≡ true
    evac = evac_of (read_of (s.cell p)) true q.len q.ds q.place q.marks q.near wanted

    there : room s (size_of q.len) false ≡ Some to
    there = sym (goal_there s p q q.len q.ds q.place q.marks q.near evac) ∙ found

    moved_taken : moved s p to ≡ with_span (with_written_span s p q.len q.ds to (data_at s.word q.place)) p (near_word q.marks.dirty q.len q.ds to) q.len to
    moved_taken = moved_is s p q.len q.ds q.place to q.marks q.near undropped evac (layout s law q.len q.ds to false says.0 says.1 says.2 there)
        (no_copy_in_room s (own_law s law) p (size_of q.len) q.place to false (omega arith) (omega (arith, says.1)) there)

    moved_aside : StepsAside s (moved s p to)
    moved_aside = subst (StepsAside s) (sym moved_taken) (taken_aside s law _ p (near_word q.marks.dirty q.len q.ds to) q.len to (is_room s law q.len q.ds to false says.0 says.1 says.2 there).next)

  module _ (unwanted : has_evac (read_of (s.cell p)) ≡ false) where
    stayed_cell : stayed s p ≡ record s { cell = put s.cell p (near_word q.marks.dirty q.len q.ds q.place) }
    stayed_cell =
        let bare = evac_of (read_of (s.cell p)) false q.len q.ds q.place q.marks q.near unwanted in
        stayed_is s p q.len q.ds q.place q.marks q.near undropped (has_moved s p q q.len q.ds q.place q.marks q.near bare) bare (says.0, says.1, says.2, says.3, says.4)

    stayed_aside : StepsAside s (stayed s p)
    stayed_aside = subst (StepsAside s) (sym stayed_cell) (still_aside s _ refl refl refl refl refl refl refl refl refl)

pub moving_aside : MovingStepsAside
moving_aside s p to law q alive found = cond_both (has_evac (read_of (s.cell p))) (moved s p to) (stayed s p) (StepsAside s) (moved_aside s p to law q alive found) (stayed_aside s p to law q alive found)

module _ (s : State) (p : ℕ) (to : Place) (row : ℕ → ℕ) (law : Law s) (far : IsFar s p) (alive : is_dropped (read_of (s.cell p)) ≡ false) (found : room_for s p ≡ Some to) where
  far_says : IsPtr (Far far.len far.ds far.marks)
  far_says = (read_says (s.cell p) (Far far.len far.ds far.marks) (law.cells.cell_read p).0 far.far).0

  near_room : room s (size_of far.len) true ≡ Some to
  near_room = sym (ap (λ o. room s (size_of (far_len o)) true) far.far) ∙ found

  fetched_taken : fetched s p to row ≡ with_span (with_written_span s p far.len far.ds to row) p (near_word false far.len far.ds to) far.len to
  fetched_taken = fetched_come s s p far.len far.ds to row far.marks far.far (sym (ap is_dropped far.far) ∙ alive) (layout s law far.len far.ds to true far_says.0 far_says.1 far_says.2 near_room)

  fetched_aside : StepsAside s (fetched s p to row)
  fetched_aside = subst (StepsAside s) (sym fetched_taken) (taken_aside s law _ p (near_word false far.len far.ds to) far.len to (is_room s law far.len far.ds to true far_says.0 far_says.1 far_says.2 near_room).next)

pub fetching_aside : FetchingStepsAside
fetching_aside s p place row law far alive found = fetched_aside s p place row law far alive found

pub retiring_aside : RetiringStepsAside
retiring_aside s p dropped = subst (StepsAside s) (sym (retired_is s p dropped)) (still_aside s _ refl refl refl refl refl refl refl refl refl)

-- ---- the order of the sealed logs
abbrev order_then_by : ℕ → ℕ → List ℕ → List ℕ
order_then_by now was order = cond (now == was) order (order ++ was ∷ [])

order_same : (now was : ℕ) (order : List ℕ) → now ≡ was → order_then_by now was order ≡ order
order_same now was order same = ap (λ b. cond b order (order ++ was ∷ [])) (eq-eqb now was same)

pub still_order : StillOrder
still_order m t same = ap (λ order. record m { core = t; order = order }) (order_same t.current m.core.current m.order same)

pub cores_join : CoresJoin
cores_join m t u (inl same) = ap (λ order. record m { core = u; order = order })
    (ap (order_then_by u.current t.current) (order_same t.current m.core.current m.order same) ∙ ap (λ was. order_then_by u.current was m.order) same)
cores_join m t u (inr same) = ap (λ order. record m { core = u; order = order })
    (order_same u.current t.current (order_then_by t.current m.core.current m.order) same ∙ ap (λ now. order_then_by now m.core.current m.order) (sym same))

pub placing_order : PlacingOrder
placing_order m p len ds place reserve law free some most structure found =
    ap (λ (t : State). order_then_by t.current m.core.current m.order) (placed_taken m.core p len ds place reserve law free some most structure found)

pub moving_order : MovingOrder
moving_order m p to law q alive found = cond_both_is (has_evac (read_of (m.core.cell p))) refl where
  cond_both_is : (b : Bool) → has_evac (read_of (m.core.cell p)) ≡ b → order_then_by (cond b (moved m.core p to) (stayed m.core p)).current m.core.current m.order ≡ cond b (order_after m.core m.order to) m.order
  cond_both_is true e = ap (λ (t : State). order_then_by t.current m.core.current m.order) (moved_taken m.core p to law q alive found e)
  cond_both_is false e = order_same (stayed m.core p).current m.core.current m.order (ap (λ (t : State). t.current) (stayed_cell m.core p to law q alive found e))

pub fetching_order : FetchingOrder
fetching_order m p place row law far alive found = ap (λ (t : State). order_then_by t.current m.core.current m.order) (fetched_taken m.core p place row law far alive found)

pub retiring_order : RetiringOrder
retiring_order m p dropped = order_same (retired m.core p).current m.core.current m.order (ap (λ (t : State). t.current) (retired_is m.core p dropped))
