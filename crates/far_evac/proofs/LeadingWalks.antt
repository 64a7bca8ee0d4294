-- A walk leads by legal events: each object that it deals with is moved, sent far or retired by one call's, and each log that it gives back by one.
use Rattle.std.proofs.Common.{◌≡◌, ◌≢◌, ℕ, ◌*◌, ◌/◌, ◌<◌, ◌≤◌, ◌==◌, ◌||◌, ◌&&◌, Bool, true, false, cond, not, eqb, Option, Some, None, List, [], ◌∷◌, ◌++◌, length, inl, inr, arith, ap, sym, refl, ◌∙◌, subst}
use Rattle.far_evac.proofs.StepsAside.{once_then, order_then}
use Rattle.std.specs.List.{IsDistinct}
use Rattle.std.proofs.lemmas.Bool.{cases_eq, cond_both, eq-eqb, eqb-true, false≢true, ne_eqb}
use Rattle.std.proofs.lemmas.Map.Views.{any-filter_same}
use Rattle.far_word.specs.declared.mark.Marks.{Marks}
use Rattle.far_word.specs.declared.pointer.Place.{Place}
use Rattle.far_word.specs.declared.pointer.PtrWord.TheVariants.{Near}
use Rattle.far_word.specs.declared.sizes.TheConstants.{CELLS}
use Rattle.far_word.specs.Pointer.{read_of}
use Rattle.far_word.specs.Sizes.{size_of}
use Rattle.far_events.specs.declared.event.Event.TheVariants.{Get}
use Rattle.far_events.specs.declared.event.Kind.TheVariants as kinds
use Rattle.far_events.specs.events.Get.{IsVacant}
use Rattle.far_events.specs.events.Mark.{is_sealed}
use Rattle.far_events.specs.events.Naming.{is_dropped}
use Rattle.far_events.specs.state.Law.{Law}
use Rattle.far_core.specs.state.Room.{room}
use Rattle.far_events.specs.state.State.{State}
use Rattle.far_events.proofs.Put.{put_other, put_same}
use Rattle.far_hand.specs.Quiet.{is_quiet}
use Rattle.far_book.specs.book.Effects.{moved, order_after}
use Rattle.far_book.specs.book.Laws.{IsMoved}
use Rattle.far_book.specs.book.Own.{HasNoJob}
use Rattle.far_book.specs.book.Reached.{Reached}
use Rattle.far_book.specs.book.Releasing.{order_without, released}
use Rattle.far_book.specs.book.SealedLogs.{KeepsSealed}
use Rattle.far_book.proofs.region.EvictingLaw.{evicting}
use Rattle.far_book.proofs.region.MovesReached.{moving}
use Rattle.far_book.proofs.region.Owns.{own_law}
use Rattle.far_book.proofs.region.Reaching.{reached_law, reached_more, reached_one, retiring}
use Rattle.far_book.proofs.region.Retires.{retired_is}
use Rattle.far_book.proofs.region.SealedKept.{sealed_logs_stay}
use Rattle.far_evac.specs.declared.phase.Phase.{Phase}
use Rattle.far_evac.specs.declared.phase.Phase.TheVariants.{Evacuating, Idle, Marking}
use Rattle.far_evac.specs.Dealings.{BeginsLive}
use Rattle.far_evac.specs.Leaving.{order_by}
use Rattle.far_evac.specs.Leading.{Leads, WalkingLeads}
use Rattle.far_evac.specs.Live.{is_empty, live_among, live_in}
use Rattle.far_evac.specs.Moment.{Moment}
use Rattle.far_evac.specs.MomentLaw.{MomentLaw, has_risen, is_idle}
use Rattle.far_evac.specs.Owned.{KeepsObjects, WalkingKeepsObjects}
use Rattle.far_evac.specs.Ready.{IsOfRound, Ready}
use Rattle.far_evac.specs.RoundSteps.{among}
use Rattle.far_evac.specs.Walk.{Drops, Goes, Moves, Walked, Way, begun, ended, freed, hot_way, is_done, left, walked, way_of}
use Rattle.far_evac.proofs.Framed.{so_one}
use Rattle.far_evac.proofs.Fronts.{vacant_in}
use Rattle.far_evac.proofs.HeldJobs.{none_copied, none_held}
use Rattle.far_evac.proofs.KeptObjects.{evicted_objects, freed_objects, moved_objects, objects_more, objects_none, released_objects}
use Rattle.far_evac.proofs.Leading.{in_heap, reached_none}
use Rattle.far_evac.proofs.LiveOnce.{NearAt, first_named, member_each, near_at}
use Rattle.far_evac.proofs.Marks.{all_filter}
use Rattle.far_evac.proofs.Onward.{sealed_inside}
use Rattle.far_evac.proofs.Readiness.{risen_is_ready}
use Rattle.far_evac.proofs.SmallSteps.{GoesFirst, Keeps, Stands, first_way, gone_so, holding, lifted_walked, none_there, walked_front}
use Rattle.far_evac.proofs.Tours.{core_so, goes_when, moves_when}
use Rattle.far_evac.proofs.Bools.{or_right}

-- ---- lists
once_without : (l : ℕ) (xs : List ℕ) → IsDistinct eqb xs → IsDistinct eqb (order_without l xs)
unfolding IsDistinct
once_without l [] once = tt
once_without l (x ∷ xs) once = cond_both (not (x == l)) (x ∷ order_without l xs) (order_without l xs) (IsDistinct eqb)
    (λ _. (all_filter (λ y. eqb x y ≡ false) (λ y. not (y == l)) xs once.0, once_without l xs once.1)) (λ _. once_without l xs once.1)

-- ---- where a walk stands that began at a moment
pub record GoesOn (m : Moment) (s : State) (order : List ℕ) (phase : Phase) (held : List ℕ) : Type 0 where
  reached : Reached m.core s
  law : Law s
  has_sealed : (l : ℕ) → among order l ≡ is_sealed (s.kind l)
  once : IsDistinct eqb order
  only : (l : ℕ) → s.round l ≡ true → among held l ≡ true
  clear : (k : ℕ) → k < s.mutators → s.clear k ≡ true
  leaves : phase ≡ Evacuating
  objects : KeepsObjects m.core s
  alone : HasNoJob s

abbrev pub GoesOf : Moment → Walked → Type 0
GoesOf m w = GoesOn m w.moment.core w.moment.order w.moment.phase w.moment.collection

-- ---- the log in front is given back
module _ (m : Moment) (s : State) (order : List ℕ) (phase : Phase) (l : ℕ) (ls : List ℕ) (ready : Ready s (l ∷ ls)) (h : GoesOn m s order phase (l ∷ ls)) (none : is_empty (live_in s l) ≡ true) where
  vacant : IsVacant s l
  vacant = vacant_in s (own_law s h.law) l 0 (λ p len ds place marks near log. omega arith) (none_there (live_in s l) none)

  shut : s.kind l ≡ kinds.Sealed
  shut = ready.logs.0.0

  way_back : Reached s (released s l)
  way_back = reached_one s (Get l 0 true) (sealed_inside s (own_law s h.law) l shut, omega arith, (shut, vacant, none_copied s h.alone l)) tt tt

  released_on : GoesOn m (released s l) (order_without l order) phase ls
  released_on = record {
    reached = reached_more m.core s (released s l) h.reached way_back;
    law = reached_law s (released s l) h.law way_back;
    has_sealed = λ k. elim (cases_eq k l) [
      | inl e ↦ any-filter_same (eqb k) (λ j. not (j == l)) false (λ j g. ap not (eq-eqb j l (sym (eqb-true k j g) ∙ e))) order ∙ ap is_sealed (sym (put_same s.kind l kinds.Free k e))
      | inr ne ↦ any-filter_same (eqb k) (λ j. not (j == l)) true (λ j g. ap not (ne_eqb j l (λ is. ne (eqb-true k j g ∙ is)))) order ∙ h.has_sealed k ∙ ap is_sealed (sym (put_other s.kind l kinds.Free k ne))
    ];
    once = once_without l order h.once;
    only = λ k is. elim (cases_eq k l) [
      | inl e ↦ absurd (false≢true (sym (put_same s.round l false k e) ∙ is))
      | inr ne ↦ sym (ap (λ b. b || among ls k) (ne_eqb k l ne)) ∙ h.only k (sym (put_other s.round l false k ne) ∙ is)
    ];
    clear = h.clear;
    leaves = h.leaves;
    objects = objects_more m.core s (released s l) h.objects (released_objects s l);
    alone = h.alone;
  }

-- ---- an object is dealt with
drops_when : (dropped hot : Bool) (o : Option Place) → cond dropped Drops (cond hot (hot_way o) Goes) ≡ Drops → dropped ≡ true
drops_when true hot o e = refl
drops_when false true None e = absurd cc
drops_when false _ _ e = absurd cc

-- the sealed logs, once an object came to a place
module _ (s t : State) (law : Law s) (then : Law t) (stay : KeepsSealed s t) (order : List ℕ) (has_sealed : (l : ℕ) → among order l ≡ is_sealed (s.kind l)) (p len ds : ℕ) (from to : Place) (is : IsMoved s t p len ds from to) where
  opened : to.log ≡ t.current
  opened = then.logs.one_open to.log is.opens

  others : (l : ℕ) → l ≢ s.current → l ≢ t.current → t.kind l ≡ s.kind l
  others l ne other = is.kinds l (λ e. other (e ∙ opened)) (λ opens. ne (law.logs.one_open l opens))

  shuts : t.current ≢ s.current → t.kind s.current ≡ kinds.Sealed
  shuts other = is.seals s.current (λ e. other (sym (e ∙ opened))) law.logs.is_open

  order_is : cond (t.current == s.current) order (order ++ s.current ∷ []) ≡ order_after s order to
  order_is = ap (λ n. cond (n == s.current) order (order ++ s.current ∷ [])) (sym opened)

  sealed_after : (l : ℕ) → among (order_after s order to) l ≡ is_sealed (t.kind l)
  sealed_after l = ap (λ xs. among xs l) (sym order_is) ∙ order_then s t law then stay.kind others shuts order has_sealed l

  once_after : IsDistinct eqb order → IsDistinct eqb (order_after s order to)
  once_after once = subst (IsDistinct eqb) order_is (once_then s t law then stay.kind others shuts order has_sealed once)

-- what its cell says of an object that goes its way; the round lets it go
pub record GoesLawfully (s : State) (l p : ℕ) (way : Way) : Type 0 where
  pub law : Law s
  pub len : ℕ
  pub ds : ℕ
  pub place : Place
  pub marks : Marks
  pub near : read_of (s.cell p) ≡ Some (Near len ds place marks)
  pub log : place.log ≡ l
  pub evac : marks.evac ≡ true
  pub pointer : p < CELLS * s.mutators
  pub quiet : is_quiet s.round s.clear p place marks ≡ true
  pub rest : List ℕ
  pub live : live_in s l ≡ p ∷ rest
  pub goes : way_of s (read_of (s.cell p)) ≡ way
  pub is : cond marks.dropped Drops (cond marks.hot (hot_way (room s (size_of len) false)) Goes) ≡ way

module _ {m : Moment} {k : ℕ} {s : State} {l : ℕ} {ls : List ℕ} {p : ℕ} {ps : List ℕ} {way : Way} (first : GoesFirst true m k s l ls p ps way) (order : List ℕ) (phase : Phase) (h : GoesOn m s order phase (l ∷ ls)) where
  at_home : NearAt (read_of (s.cell p)) l (first_named s l p ps first.live).0
  at_home = near_at (read_of (s.cell p)) l (first_named s l p ps first.live).0 (first_named s l p ps first.live).1

  marked : at_home.marks.evac ≡ true
  marked = first.ready.logs.0.1 p at_home.len at_home.ds at_home.place at_home.marks at_home.near at_home.log

  in_round : s.round at_home.place.log ≡ true
  in_round = ap s.round at_home.log ∙ first.ready.logs.0.2

  pointer : p < CELLS * s.mutators
  pointer = in_heap s h.law p at_home.len at_home.ds at_home.place at_home.marks at_home.near

  seen : s.clear (p / CELLS) ≡ true
  seen = h.clear (p / CELLS) (omega (arith, pointer))

  pub goes_lawfully : GoesLawfully s l p way
  goes_lawfully = record {
    law = h.law;
    len = at_home.len;
    ds = at_home.ds;
    place = at_home.place;
    marks = at_home.marks;
    near = at_home.near;
    log = at_home.log;
    evac = marked;
    pointer = pointer;
    quiet = or_right at_home.marks.moved (at_home.marks.evac && s.round at_home.place.log && s.clear (p / CELLS)) (rw (marked, in_round, seen) refl);
    rest = ps;
    live = first.live;
    goes = first_way first;
    is = sym (ap (way_of s) at_home.near) ∙ first_way first;
  }

module _ (m : Moment) (s : State) (order : List ℕ) (phase : Phase) (l : ℕ) (ls : List ℕ) (h : GoesOn m s order phase (l ∷ ls)) (ready : Ready s (l ∷ ls)) (p : ℕ) where
  next_on : (way : Way) → (now : List ℕ) → GoesLawfully s l p way → Reached s (core_so s p way) → ((k : ℕ) → among now k ≡ is_sealed ((core_so s p way).kind k)) → IsDistinct eqb now → KeepsSealed s (core_so s p way) → KeepsObjects s (core_so s p way) →
      GoesOn m (core_so s p way) now phase (l ∷ ls)
  next_on way now x reached has_sealed once keeps objects = record {
    reached = reached_more m.core s (core_so s p way) h.reached reached;
    law = reached_law s (core_so s p way) h.law reached;
    has_sealed = has_sealed;
    once = once;
    only = λ k in_it. h.only k (sym (ap (λ (round : ℕ → Bool). round k) keeps.round) ∙ in_it);
    clear = λ k lt. ap (λ clear. clear k) keeps.clear ∙ h.clear k (subst (λ n. k < n) keeps.mutators lt);
    leaves = h.leaves;
    objects = objects_more m.core s (core_so s p way) h.objects objects;
    alone = λ j. ap (λ (u : State). u.copying.word j) (so_one s p way).frame ∙ h.alone j;
  }

  goes_on : (way : Way) → GoesLawfully s l p way → GoesOn m (core_so s p way) (order_by s order way) phase (l ∷ ls)
  goes_on Drops x =
      let dropped : is_dropped (read_of (s.cell p)) ≡ true = ap is_dropped x.near ∙ drops_when x.marks.dropped x.marks.hot (room s (size_of x.len) false) x.is in
      next_on Drops order x (subst (Reached s) (retired_is s p dropped) (retiring s p h.law x.pointer dropped).0) h.has_sealed h.once (sealed_logs_stay s p x.len x.ds (own_law s h.law)).ends (freed_objects s p dropped)
  goes_on (Moves to) x =
      let why = moves_when x.marks.dropped x.marks.hot (room s (size_of x.len) false) to x.is in
      let way = moving s p x.len x.ds x.place to x.marks h.law x.near x.quiet why.0 x.evac why.1 in
      let then = reached_law s (moved s p to) h.law way.0 in
      let stay = (sealed_logs_stay s p x.len x.ds (own_law s h.law)).moves x.place to x.marks x.near x.evac why.0 why.1 in
      next_on (Moves to) (order_after s order to) x way.0
      (sealed_after s (moved s p to) h.law then stay order h.has_sealed p x.len x.ds x.place to way.3)
      (once_after s (moved s p to) h.law then stay order h.has_sealed p x.len x.ds x.place to way.3 h.once)
      stay
      (moved_objects s p x.len x.ds x.place to x.marks h.law x.near x.quiet why.0 x.evac why.1)
  goes_on Goes x =
      let alive = goes_when x.marks.dropped x.marks.hot (room s (size_of x.len) false) x.is in
      let way = evicting s p x.len x.ds x.place x.marks h.law x.pointer x.near x.quiet x.evac alive in
      next_on Goes order x way.0 (λ k. h.has_sealed k ∙ ap is_sealed (sym (way.3.kinds k))) h.once ((sealed_logs_stay s p x.len x.ds (own_law s h.law)).goes x.place x.marks x.near x.evac alive)
      (evicted_objects s p x.len x.ds x.place x.marks h.law x.pointer x.near x.quiet x.evac alive)

-- ---- what each small step keeps, where the law holds, a walk keeps
pub record KeepsLawfully (P : Walked → Type 0) : Type 0 where
  pub gives : (w : Walked) (l : ℕ) (ls : List ℕ) → P (holding w (l ∷ ls)) → P (holding (freed w l) ls)
  pub deals : (w : Walked) (l : ℕ) (ls : List ℕ) (p : ℕ) (way : Way) → Ready w.moment.core (l ∷ ls) → GoesLawfully w.moment.core l p way → P (holding w (l ∷ ls)) → P (gone_so w (l ∷ ls) p way)

module _ (m : Moment) (P : Walked → Type 0) (keeps : KeepsLawfully P) where
  keeps_on : Keeps true m (λ k w. GoesOf m w × P w)
  keeps_on = record {
    learns = tt;
    gives = λ k w l ls ready none h. (released_on m w.moment.core w.moment.order w.moment.phase l ls ready h.0 none, keeps.gives w l ls h.1);
    deals = λ k w l ls p ps way first h. let x = goes_lawfully first w.moment.order w.moment.phase h.0 in
        (goes_on m w.moment.core w.moment.order w.moment.phase l ls h.0 first.ready p way x, keeps.deals w l ls p way first.ready x h.1);
  }

  pub lifted_lawfully : Law m.core → MomentLaw m → m.copying ≡ false → m.phase ≡ Evacuating → P (begun m) → (n : ℕ) → (k : ℕ) × (n ≤ length (live_among m.core m.collection) → k ≡ n) × Stands m (λ k w. GoesOf m w × P w) k (walked m n)
  lifted_lawfully law moment alone leaves h = lifted_walked m (λ k w. GoesOf m w × P w) keeps_on (risen_is_ready m (own_law m.core law) moment (ap has_risen leaves)) (begun_on, h) where
    begun_on : GoesOn m m.core m.order m.phase m.collection
    begun_on = record {
      reached = reached_none m.core;
      law = law;
      has_sealed = moment.order;
      once = moment.order_once;
      only = moment.only (ap has_risen leaves);
      clear = moment.clear leaves;
      leaves = leaves;
      objects = objects_none m.core;
      alone = moment.alone alone;
    }

pub walks_on : (m : Moment) (n : ℕ) → Law m.core → MomentLaw m → m.copying ≡ false → m.phase ≡ Evacuating →
    Ready (walked m n).moment.core (walked m n).moment.collection × GoesOf m (walked m n) × ((walked m n).moment.copying ≡ m.copying)
walks_on m n law moment alone leaves =
    let h = (lifted_lawfully m (λ w. w.moment.copying ≡ m.copying) record { gives = λ w l ls h. h; deals = λ w l ls p way ready x h. h } law moment alone leaves refl n).2 in (h.ready, h.keeps.0, h.keeps.1)

-- what the cell says of the object with which the walk deals next
module _ (m : Moment) (s : State) (order : List ℕ) (phase : Phase) (l : ℕ) (ls : List ℕ) (ready : Ready s (l ∷ ls)) (h : GoesOn m s order phase (l ∷ ls)) (p : ℕ) (rest : List ℕ) (live : live_in s l ≡ p ∷ rest) where
  lies_at : NearAt (read_of (s.cell p)) l (first_named s l p rest live).0
  lies_at = near_at (read_of (s.cell p)) l (first_named s l p rest live).0 (first_named s l p rest live).1

  has_mark : lies_at.marks.evac ≡ true
  has_mark = ready.logs.0.1 p lies_at.len lies_at.ds lies_at.place lies_at.marks lies_at.near lies_at.log

  chosen : s.round lies_at.place.log ≡ true
  chosen = ap s.round lies_at.log ∙ ready.logs.0.2

  is_pointer : p < CELLS * s.mutators
  is_pointer = in_heap s h.law p lies_at.len lies_at.ds lies_at.place lies_at.marks lies_at.near

  is_seen : s.clear (p / CELLS) ≡ true
  is_seen = h.clear (p / CELLS) (omega (arith, is_pointer))

  goes_next : GoesLawfully s l p (way_of s (read_of (s.cell p)))
  goes_next = record {
    law = h.law;
    len = lies_at.len;
    ds = lies_at.ds;
    place = lies_at.place;
    marks = lies_at.marks;
    near = lies_at.near;
    log = lies_at.log;
    evac = has_mark;
    pointer = is_pointer;
    quiet = or_right lies_at.marks.moved (lies_at.marks.evac && s.round lies_at.place.log && s.clear (p / CELLS)) (rw (has_mark, chosen, is_seen) refl);
    rest = rest;
    live = live;
    goes = refl;
    is = sym (ap (way_of s) lies_at.near);
  }

first_lies : (m : Moment) (s : State) (order : List ℕ) (phase : Phase) (held : List ℕ) → Ready s held → GoesOn m s order phase held → BeginsLive s held → (p : ℕ) (ps : List ℕ) → live_among s held ≡ p ∷ ps → (l : ℕ) × GoesLawfully s l p (way_of s (read_of (s.cell p)))
first_lies m s order phase [] ready h front p ps is = absurd cc
first_lies m s order phase (l ∷ ls) ready h front p ps is = by (live_in s l) refl where
  by : (live : List ℕ) → live_in s l ≡ live → (j : ℕ) × GoesLawfully s j p (way_of s (read_of (s.cell p)))
  by [] e = absurd (false≢true (sym front ∙ ap is_empty e))
  by (q ∷ qs) e =
      let both : q ∷ (qs ++ live_among s ls) ≡ p ∷ ps = sym (ap (λ live. live ++ live_among s ls) e) ∙ is in
      let same : q ≡ p = cc in (l, goes_next m s order phase l ls ready h p qs (e ∙ ap (λ x. x ∷ qs) same))

pub first_goes : (m : Moment) (n : ℕ) → Law m.core → MomentLaw m → m.copying ≡ false → m.phase ≡ Evacuating → (p : ℕ) (ps : List ℕ) → left (walked m n) ≡ p ∷ ps →
    (l : ℕ) × GoesLawfully (walked m n).moment.core l p (way_of (walked m n).moment.core (read_of ((walked m n).moment.core.cell p)))
first_goes m n law moment alone leaves p ps is =
    let (ready, h, same) = walks_on m n law moment alone leaves in
    first_lies m (walked m n).moment.core (walked m n).moment.order (walked m n).moment.phase (walked m n).moment.collection ready h (walked_front m n) p ps is

-- ---- what a call leaves
module _ (m : Moment) (w : Walked) (ready : Ready w.moment.core w.moment.collection) (h : GoesOf m w) (same : w.moment.copying ≡ m.copying) where
  held_sealed : (l : ℕ) → among w.moment.collection l ≡ true → w.moment.core.kind l ≡ kinds.Sealed
  held_sealed l member = (member_each (IsOfRound w.moment.core) w.moment.collection ready.logs l member).0

  -- in its midst, and at its end, where it is done
  leads_so : (phase : Phase) → is_done w ≡ is_idle phase → (phase ≡ Marking → ⊥) → Leads m (record w.moment { phase = phase })
  leads_so phase done other = record {
    reached = h.reached;
    law = h.law;
    moment = record {
      order = h.has_sealed;
      order_once = h.once;
      sealed = held_sealed;
      collection_once = ready.once;
      runs = done;
      round = λ _ l member. (member_each (IsOfRound w.moment.core) w.moment.collection ready.logs l member).2;
      only = λ _. h.only;
      clear = λ _. h.clear;
      later = λ marks. absurd (other marks);
      alone = λ _. h.alone;
      held = none_held w.moment.core phase w.moment.collection h.alone;
    };
    copying = same;
  }

  midst_leads : is_done w ≡ false → Leads m w.moment
  midst_leads some = leads_so w.moment.phase (some ∙ sym (ap is_idle h.leaves)) (λ marks. false≢true (sym (ap has_risen marks) ∙ ap has_risen h.leaves))

  answer_leads : Leads m (ended w)
  answer_leads = cond_both (is_done w) (record w.moment { phase = Idle }) w.moment (Leads m) (λ done. leads_so Idle done (λ marks. cc)) midst_leads

pub walking : WalkingLeads
walking m n law moment alone leaves =
    let (ready, h, same) = walks_on m n law moment alone leaves in record { midst = midst_leads m (walked m n) ready h same; answer = answer_leads m (walked m n) ready h same }

-- the law stays in its midst too
pub walking_law : (m : Moment) (n : ℕ) → Law m.core → MomentLaw m → m.copying ≡ false → m.phase ≡ Evacuating → Law (walked m n).moment.core
walking_law m n law moment alone leaves = (walks_on m n law moment alone leaves).1.law

-- once the epoch has risen no log outside the collection set is in the round; so it is to the end
pub walking_only : (m : Moment) (n : ℕ) → Law m.core → MomentLaw m → m.copying ≡ false → m.phase ≡ Evacuating → (l : ℕ) → (walked m n).moment.core.round l ≡ true → among (walked m n).moment.collection l ≡ true
walking_only m n law moment alone leaves = (walks_on m n law moment alone leaves).1.only

-- ---- what owners have
ended_core : (w : Walked) → (ended w).core ≡ w.moment.core
ended_core w = cond_both (is_done w) (record w.moment { phase = Idle }) w.moment (λ (t : Moment). t.core ≡ w.moment.core) (λ _. refl) (λ _. refl)

pub walking_objects : WalkingKeepsObjects
walking_objects m n law moment alone leaves =
    let h = (walks_on m n law moment alone leaves).1 in
    record { midst = h.objects; answer = subst (KeepsObjects m.core) (sym (ended_core (walked m n))) h.objects }
