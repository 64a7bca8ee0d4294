-- What the steps of a call's last round leave.
use Rattle.std.proofs.Common.{◌≡◌, ◌≢◌, ℕ, ◌<◌, ◌≤◌, ◌^◌, ◌/◌, nat_le, arith, refl, sym, ap, subst, ◌∙◌, Bool, true, false, cond, not, ◌||◌, eqb, find, Option, Some, None, List, [], ◌∷◌, length, filter, inl, inr}
use Rattle.std.specs.Prelude.{Contains}
use Rattle.std.specs.List.{IsDistinct, range_with_len}
use Rattle.std.proofs.lemmas.Bool.{cases_eq, cond_both, eq-eqb, false≢true, ne_eqb, true≢false}
use Rattle.std.proofs.lemmas.Bool.Decides.{nat_tests}
use Rattle.far_word.specs.declared.mark.Marks.{Marks}
use Rattle.far_word.specs.declared.pointer.Place.{Place}
use Rattle.far_word.specs.declared.pointer.PtrWord.{PtrWord}
use Rattle.far_word.specs.declared.pointer.PtrWord.TheVariants.{Free, Near, Far}
use Rattle.far_word.specs.Pointer.{read_of}
use Rattle.far_word.specs.Sizes.{size_of}
use Rattle.far_events.specs.declared.event.Kind.TheVariants as kinds
use Rattle.far_events.specs.events.Naming.{no_marks}
use Rattle.far_events.specs.state.Law.{Law}
use Rattle.far_core.specs.state.Room.{room}
use Rattle.far_events.specs.state.State.{State}
use Rattle.far_events.proofs.Cells.{unused}
use Rattle.far_events.proofs.Put.{put_other, put_same}
use Rattle.far_book.specs.book.Dealing.{has_evac}
use Rattle.far_book.proofs.region.EvictingLaw.{evicting}
use Rattle.far_book.proofs.region.Owns.{own_law}
use Rattle.far_evac.specs.declared.phase.Phase.TheVariants.{Evacuating, Idle, Waiting}
use Rattle.far_evac.specs.Choosing.{after_aborting}
use Rattle.far_evac.specs.Dealings.{says}
use Rattle.far_evac.specs.Laws.{IsGivenUp, but_evac}
use Rattle.far_evac.specs.Live.{is_empty, lacking, live_among}
use Rattle.far_evac.specs.Marking.{after_marking, leaves_some, marked_core}
use Rattle.far_evac.specs.Moment.{Moment}
use Rattle.far_evac.specs.MomentLaw.{MomentLaw, has_risen}
use Rattle.far_evac.specs.RoundSteps.{advanced, among, with_clear_below}
use Rattle.far_evac.specs.Waiting.{after_polling, holds_up, polled_to}
use Rattle.far_evac.specs.Walk.{Drops, Goes, Moves, Walked, Way, begun, ended, freed, hot_way, is_done, walked}
use Rattle.far_evac.proofs.Bounds.{starts_within}
use Rattle.far_evac.proofs.Framed.{so_one}
use Rattle.far_evac.proofs.InOrder.{in_order}
use Rattle.far_evac.proofs.Lacking.{all_at}
use Rattle.far_evac.proofs.LeadingWalks.{GoesLawfully, KeepsLawfully, lifted_lawfully}
use Rattle.far_evac.proofs.LiveOrder.{live_in_order}
use Rattle.far_evac.proofs.Marks.{clears_cells, is_given_up, is_marked, marking_frame}
use Rattle.far_evac.proofs.NearBut.{still_near}
use Rattle.far_evac.proofs.Readiness.{risen_is_ready}
use Rattle.far_evac.proofs.SmallSteps.{gone_so, holding}
use Rattle.far_evac.proofs.Tours.{core_so, goes_when}
use Rattle.far_evac.proofs.Walks.{walk_is}
use Rattle.far_private.specs.LastRound.{AreEmptied, IsBare, IsCold, SameLogs}
use Rattle.far_private.proofs.TwoFree.{by_either}

pub same_none : (s : State) → SameLogs s s
same_none s = record { logs = refl; kinds = λ l. refl }

pub same_more : (s t u : State) → SameLogs s t → SameLogs t u → SameLogs s u
same_more s t u a b = record { logs = b.logs ∙ a.logs; kinds = λ l. b.kinds l ∙ a.kinds l }

pub cells_fit : (s : State) → Law s → (p : ℕ) → s.cell p < 2 ^ 64
cells_fit s law p = (law.cells.cell_read p).0

-- ---- a round was given up before anything left
module _ (m : Moment) (law : Law m.core) (once : IsDistinct eqb m.collection) where
  given : IsGivenUp m (after_aborting m)
  given = is_given_up m (cells_fit m.core law)

  pub aborted_bare : IsBare (after_aborting m).core m.collection
  aborted_bare p len ds place marks near here =
      let (old, was) = still_near m (after_aborting m) given.same p len ds place marks near in
      let member : Contains (live_among m.core m.collection) p = ((live_in_order m.core m.collection (own_law m.core law) once).each p).1 record { len = len; ds = ds; place = place; marks = old; near = was; log = here } in
      sym (ap has_evac near) ∙ all_at (λ q. has_evac (says (after_aborting m) q) ≡ false) p (live_among m.core m.collection) given.bare member

pub aborted_logs : (m : Moment) → SameLogs m.core (after_aborting m).core
aborted_logs m =
    let is = clears_cells (live_among m.core m.collection) m.core in record { logs = ap (λ (s : State). s.logs) is; kinds = λ l. ap (λ (s : State). s.kind l) is }

-- ---- all were marked
abbrev hot_of : Option PtrWord → Bool
hot_of None = false
hot_of (Some Free) = false
hot_of (Some (Near len ds place marks)) = marks.hot
hot_of (Some (Far len ds marks)) = false

but_hot : (o : Option PtrWord) (len ds : ℕ) (place : Place) (marks : Marks) → but_evac (Some (Near len ds place marks)) ≡ but_evac o → (old : Marks) × (o ≡ Some (Near len ds place old)) × (old.hot ≡ marks.hot)
but_hot (Some (Near n d at old)) len ds place marks e =
    let lens : n ≡ len = cc in
    let structures : d ≡ ds = cc in
    let places : at ≡ place = cc in
    (old, rw (lens, structures, places) refl, sym (ap hot_of e))
but_hot _ len ds place marks e = absurd cc

pub cold_but : (s t : State) (logs : List ℕ) → ((p : ℕ) → but_evac (read_of (t.cell p)) ≡ but_evac (read_of (s.cell p))) → IsCold s logs → IsCold t logs
cold_but s t logs same cold p len ds place marks near here =
    let (old, was, hot) = but_hot (read_of (s.cell p)) len ds place marks (ap but_evac (sym near) ∙ same p) in sym hot ∙ cold p len ds place old was here

fewer_kept : (f : ℕ → Bool) (xs : List ℕ) → length (filter f xs) ≤ length xs
fewer_kept f [] = omega arith
fewer_kept f (x ∷ xs) = cond_both (f x) (x ∷ filter f xs) (filter f xs) (λ (ys : List ℕ). length ys ≤ length (x ∷ xs))
    (λ _. let rest = fewer_kept f xs in omega (arith, rest)) (λ _. let rest = fewer_kept f xs in omega (arith, rest))

module _ (m : Moment) (law : Law m.core) (moment : MomentLaw m) (n : ℕ) (many : 32768 ≤ n) where
  pub few_live : length (live_among m.core m.collection) ≤ 32768
  few_live = let h = (starts_within m (own_law m.core law) moment).objects in omega (arith, h)

  none_lacks : leaves_some m n ≡ false
  none_lacks =
      let few : length (lacking m.core m.collection) ≤ length (live_among m.core m.collection) = fewer_kept (λ p. not (has_evac (read_of (m.core.cell p)))) (live_among m.core m.collection) in
      let low : length (lacking m.core m.collection) ≤ n = omega (arith, few, few_live, many) in grind (arith, nat_tests, low)

  pub marking_ends : after_marking m n ≡ record m { core = advanced (marked_core m n) m.collection; phase = Waiting }
  marking_ends = ap (λ b. cond b (record m { core = marked_core m n }) (record m { core = advanced (marked_core m n) m.collection; phase = Waiting })) none_lacks

pub marked_logs : (m : Moment) (n : ℕ) → SameLogs m.core (after_marking m n).core
marked_logs m n = let is = marking_frame m n in record { logs = ap (λ (t : Moment). t.core.logs) is; kinds = λ l. ap (λ (t : Moment). t.core.kind l) is }

pub marked_cold : (m : Moment) (n : ℕ) (logs : List ℕ) → Law m.core → IsCold m.core logs → IsCold (after_marking m n).core logs
marked_cold m n logs law = cold_but m.core (after_marking m n).core logs (is_marked m n (cells_fit m.core law)).same

-- ---- no scope is open
none_found : (f : ℕ → Bool) (xs : List ℕ) → ((x : ℕ) → f x ≡ false) → find f xs ≡ None
none_found f [] none = refl
none_found f (x ∷ xs) none = ap (λ b. cond b (Some x) (find f xs)) (none x) ∙ none_found f xs none

none_up : (s : State) → ((k : ℕ) → s.scope k ≡ 0) → (k : ℕ) → holds_up s k ≡ false
none_up s closed k = ap (λ b. not (s.clear k || (b || nat_le s.round_epoch (s.scope k / 2)))) (eq-eqb (s.scope k) 0 (closed k)) ∙ either (s.clear k) where
  either : (c : Bool) → not (c || true) ≡ false
  either true = refl
  either false = refl

pub polling_ends : (m : Moment) → ((k : ℕ) → m.core.scope k ≡ 0) → after_polling m ≡ record m { core = with_clear_below m.core m.core.mutators; phase = Evacuating }
polling_ends m closed = ap (polled_to m) (none_found (holds_up m.core) (range_with_len 0 m.core.mutators) (none_up m.core closed))

-- ---- a walk in which nothing is hot
way_cold : (dropped hot : Bool) (o : Option Place) (to : Place) → hot ≡ false → cond dropped Drops (cond hot (hot_way o) Goes) ≡ Moves to → ⊥
way_cold true hot o to cold e = absurd cc
way_cold false true o to cold e = true≢false cold
way_cold false false o to cold e = absurd cc

pub free_not_near : (len ds : ℕ) (place : Place) (marks : Marks) → read_of 0 ≡ Some (Near len ds place marks) → ⊥
free_not_near len ds place marks e = let odd : Some Free ≡ Some (Near len ds place marks) = sym unused ∙ e in cc

record Emptying (m : Moment) (w : Walked) : Type 0 where
  many : w.moment.core.logs ≡ m.core.logs
  cold : IsCold w.moment.core m.collection
  within : (l : ℕ) → among w.moment.collection l ≡ true → among m.collection l ≡ true
  free : (l : ℕ) → among m.collection l ≡ true → among w.moment.collection l ≡ false → w.moment.core.kind l ≡ kinds.Free
  others : (l : ℕ) → among m.collection l ≡ false → w.moment.core.kind l ≡ m.core.kind l

begins_emptying : (m : Moment) → IsCold m.core m.collection → Emptying m (begun m)
begins_emptying m cold = record { many = refl; cold = cold; within = λ l h. h; free = λ l like unlike. absurd (true≢false (sym like ∙ unlike)); others = λ l unlike. refl }

among_first : (l : ℕ) (ls : List ℕ) → among (l ∷ ls) l ≡ true
among_first l ls = ap (λ b. b || among ls l) (eq-eqb l l refl)

among_rest : (k l : ℕ) (ls : List ℕ) → among ls k ≡ true → among (l ∷ ls) k ≡ true
among_rest k l ls h = by_either (eqb k l) (λ e. ap (λ b. b || among ls k) e) (λ e. ap (λ b. b || among ls k) e ∙ h)

among_other : (k l : ℕ) (ls : List ℕ) → k ≢ l → among (l ∷ ls) k ≡ among ls k
among_other k l ls ne = ap (λ b. b || among ls k) (ne_eqb k l ne)

gives_on : (m : Moment) (w : Walked) (l : ℕ) (ls : List ℕ) → Emptying m (holding w (l ∷ ls)) → Emptying m (holding (freed w l) ls)
gives_on m w l ls h = record {
  many = h.many;
  cold = h.cold;
  within = λ k member. h.within k (among_rest k l ls member);
  free = λ k like unlike. elim (cases_eq k l) [
    | inl e ↦ put_same w.moment.core.kind l kinds.Free k e
    | inr ne ↦ put_other w.moment.core.kind l kinds.Free k ne ∙ h.free k like (among_other k l ls ne ∙ unlike)
  ];
  others = λ k unlike. put_other w.moment.core.kind l kinds.Free k (λ e. true≢false (sym (h.within k (ap (among (l ∷ ls)) e ∙ among_first l ls)) ∙ unlike)) ∙ h.others k unlike;
}

module _ (m : Moment) (w : Walked) (l : ℕ) (ls : List ℕ) (p : ℕ) (h : Emptying m (holding w (l ∷ ls))) where
  goes_on : (way : Way) → ((k : ℕ) → (core_so w.moment.core p way).kind k ≡ w.moment.core.kind k) → ((len ds : ℕ) (place : Place) (marks : Marks) → read_of ((core_so w.moment.core p way).cell p) ≡ Some (Near len ds place marks) → ⊥) →
      Emptying m (gone_so w (l ∷ ls) p way)
  goes_on way same away = record {
    many = ap (λ (s : State). s.logs) (so_one w.moment.core p way).frame ∙ h.many;
    cold = λ q len ds place marks near. elim (cases_eq q p) [
      | inl e ↦ absurd (away len ds place marks (ap (λ x. read_of ((core_so w.moment.core p way).cell x)) (sym e) ∙ near))
      | inr ne ↦ h.cold q len ds place marks (ap read_of (sym ((so_one w.moment.core p way).cells q ne)) ∙ near)
    ];
    within = h.within;
    free = λ k like unlike. same k ∙ h.free k like unlike;
    others = λ k unlike. same k ∙ h.others k unlike;
  }

  deals_on : (way : Way) → GoesLawfully w.moment.core l p way → Emptying m (gone_so w (l ∷ ls) p way)
  deals_on Drops x = goes_on Drops (λ k. refl) (λ len ds place marks near. free_not_near len ds place marks (ap read_of (sym (put_same w.moment.core.cell p 0 p refl)) ∙ near))
  deals_on (Moves to) x =
      absurd (way_cold x.marks.dropped x.marks.hot (room w.moment.core (size_of x.len) false) to
      (h.cold p x.len x.ds x.place x.marks x.near (h.within x.place.log (ap (among (l ∷ ls)) x.log ∙ among_first l ls))) x.is)
  deals_on Goes x =
      let alive = goes_when x.marks.dropped x.marks.hot (room w.moment.core (size_of x.len) false) x.is in
      let way = evicting w.moment.core p x.len x.ds x.place x.marks x.law x.pointer x.near x.quiet x.evac alive in
      goes_on Goes way.3.kinds (λ len ds place marks near. (let odd : Some (Far x.len x.ds no_marks) ≡ Some (Near len ds place marks) = sym way.3.cell ∙ near in cc))

empties_lawfully : (m : Moment) → KeepsLawfully (Emptying m)
empties_lawfully m = record { gives = gives_on m; deals = λ w l ls p way ready x h. deals_on m w l ls p h way x }

none_among : (ls : List ℕ) → is_empty ls ≡ true → (l : ℕ) → among ls l ≡ false
none_among [] h l = refl
none_among (k ∷ ks) h l = absurd (false≢true h)

module _ (m : Moment) (law : Law m.core) (moment : MomentLaw m) (alone : m.copying ≡ false) (leaves : m.phase ≡ Evacuating) (n : ℕ) (many : 32768 < n) where
  all_walked : is_done (walked m n) ≡ true
  all_walked =
      let (k, walk) = walk_is m n in
      let order = in_order m k (walked m n) (risen_is_ready m (own_law m.core law) moment (ap has_risen leaves)) walk.walks in
      let few = few_live m law moment n (omega (arith, many)) in
      by_either (is_done (walked m n)) (λ like. like) (λ unlike. absurd (omega (arith, walk.enough unlike, order.enough, few, many)))

  ended_core : (ended (walked m n)).core ≡ (walked m n).moment.core
  ended_core = cond_both (is_done (walked m n)) (record (walked m n).moment { phase = Idle }) (walked m n).moment (λ (t : Moment). t.core ≡ (walked m n).moment.core) (λ _. refl) (λ _. refl)

  pub walk_empties : IsCold m.core m.collection → AreEmptied m.core m.collection (ended (walked m n)).core
  walk_empties cold =
      let h = (lifted_lawfully m (Emptying m) (empties_lawfully m) law moment alone leaves (begins_emptying m cold) n).2.keeps.1 in
      subst (AreEmptied m.core m.collection) (sym ended_core)
      record { many = h.many; free = λ l like. h.free l like (none_among (walked m n).moment.collection all_walked l); others = h.others }

  -- the round is over then
  pub walk_ends : (ended (walked m n)).phase ≡ Idle
  walk_ends = ap (λ (b : Bool). (cond b (record (walked m n).moment { phase = Idle }) (walked m n).moment).phase) all_walked
