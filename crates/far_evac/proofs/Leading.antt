-- Each call of a round leads by legal events, and keeps the laws.
use Rattle.std.proofs.Common.{◌≡◌, ◌≢◌, ℕ, zero, suc, ◌+◌, ◌*◌, ◌<◌, ◌≤◌, ◌||◌, Bool, true, false, nat_lt, eqb, Option, Some, None, List, [], ◌∷◌, arith, ap, sym, refl, ◌∙◌, subst}
use Rattle.std.specs.Prelude.{fold}
use Rattle.std.specs.List.{AllByRecursion}
use Rattle.std.proofs.lemmas.Bool.{eq-eqb, false≢true, true≢false}
use Rattle.std.proofs.lemmas.Bool.Decides.{nat_tests}
use Rattle.std.proofs.lemmas.List.Elements.{All-nil}
use Rattle.far_word.specs.declared.mark.Marks.{Marks}
use Rattle.far_word.specs.declared.pointer.Place.{Place}
use Rattle.far_word.specs.declared.pointer.PtrWord.TheVariants.{Near}
use Rattle.far_word.specs.declared.sizes.TheConstants.{CELLS, EPOCH_END, MOST_LOGS}
use Rattle.far_word.specs.Pointer.{read_of}
use Rattle.far_word.proofs.PointerLaws.{without_evac_read}
use Rattle.far_events.specs.declared.event.Event.{Event}
use Rattle.far_events.specs.declared.event.Event.TheVariants.{Clear, Look}
use Rattle.far_events.specs.declared.event.Kind.TheVariants.{Sealed}
use Rattle.far_events.specs.events.Mark.{is_sealed}
use Rattle.far_events.specs.events.Clear.{IsNear, evac_cleared}
use Rattle.far_events.specs.events.Legal.{Legal}
use Rattle.far_events.specs.events.Step.{Fits, after}
use Rattle.far_events.specs.state.Law.{Law}
use Rattle.far_events.specs.state.State.{Copying, State}
use Rattle.far_events.proofs.Put.{put_both}
use Rattle.far_events.proofs.Guards.{sealed_fact}
use Rattle.far_book.specs.book.Reached.{IsOfBook, Reached}
use Rattle.far_policy.proofs.Choices.{rows_told}
use Rattle.far_book.specs.book.Rows.{row_of}
use Rattle.far_book.proofs.region.Owns.{own_law}
use Rattle.far_evac.proofs.Onward.{sealed_inside}
use Rattle.far_book.proofs.region.Reaching.{reached_law, reached_more, reached_one}
use Rattle.far_evac.specs.declared.phase.Phase.{Phase}
use Rattle.far_evac.specs.declared.phase.Phase.TheVariants.{Waiting, Evacuating}
use Rattle.far_evac.specs.Choosing.{is_spent}
use Rattle.far_evac.specs.Laws.{looks}
use Rattle.far_evac.specs.Leading.{AbortingLeads, ChoiceIsOfSealed, Leads, PollingLeads, SelectingLeads}
use Rattle.far_evac.specs.Live.{live_among, live_in}
use Rattle.far_evac.specs.Moment.{Moment}
use Rattle.far_evac.specs.MomentLaw.{MomentLaw, has_risen, is_idle}
use Rattle.far_evac.specs.RoundSteps.{among, unmarked, with_clear_below}
use Rattle.far_evac.specs.Waiting.{first_open, holds_up, polled_to}
use Rattle.far_evac.proofs.GivenUpJobs.{none_after_aborting}
use Rattle.far_evac.proofs.LiveOnce.{LivesIn, all_append, each_map, live_named, near_at}
use Rattle.far_evac.proofs.Readiness.{looks_see}
use Rattle.far_evac.proofs.Standings.{none_once}
use Rattle.far_evac.proofs.Unviewed.{found_in, none_found}
use Rattle.far_evac.proofs.Bools.{or_left, or_right}
use Rattle.far_evac.proofs.Dealt.{free_place}

-- nothing was done
pub reached_none : (s : State) → Reached s s
reached_none s = record { made = []; legal = tt; fits = All-nil Fits; of_book = All-nil IsOfBook; leads = refl }

-- ---- selecting
-- a log is sealed where the order has it
sealed_of : (m : Moment) → MomentLaw m → (l : ℕ) → among m.order l ≡ true → m.core.kind l ≡ Sealed
sealed_of m law l h = sealed_fact (m.core.kind l) (sym (law.order l) ∙ h)

pub choice_of_sealed : ChoiceIsOfSealed
choice_of_sealed m most logs law moment choice =
    let in_range : (l : ℕ) → among m.order l ≡ true → l < MOST_LOGS = λ l h. omega (arith, sealed_inside m.core (own_law m.core law) l (sealed_of m moment l h), law.shape.few_logs) in
    let told = rows_told m.order (row_of m.core) (λ l. refl) moment.order_once in_range in
    (choice.once, λ l h. ap (λ ls. among ls l) (sym told.1) ∙ choice.of_rows l h)

-- a later epoch is left
epoch_left : (s : State) → Law s → is_spent s ≡ false → s.epoch + 1 < EPOCH_END
epoch_left s law left = let not_last : s.epoch + 1 ≢ EPOCH_END = λ e. true≢false (sym (eq-eqb (s.epoch + 1) EPOCH_END e) ∙ left) in omega (arith, not_last, law.scopes.epoch_below)

pub selecting : SelectingLeads
selecting m [] law moment idle left once of_order = record { reached = reached_none m.core; law = law; moment = moment; copying = refl }
selecting m (l ∷ ls) law moment idle left once of_order = record {
  reached = reached_none m.core;
  law = law;
  moment = record {
    order = moment.order;
    order_once = moment.order_once;
    sealed = λ k h. sealed_of m moment k (of_order k h);
    collection_once = once;
    runs = refl;
    round = λ risen. absurd (false≢true risen);
    only = λ risen. absurd (false≢true risen);
    clear = λ leaves. absurd cc;
    later = λ _. epoch_left m.core law left;
    alone = moment.alone;
    held = λ j job still. absurd (false≢true (sym (ap is_idle (moment.held j job still).0) ∙ idle));
  };
  copying = refl;
}

-- ---- polling
module _ (s : State) (law : Law s) where
  looks_mutators : (k : ℕ) → (looks s k).mutators ≡ s.mutators
  looks_mutators zero = refl
  looks_mutators (suc k) = looks_mutators k

  pub reached_looks : (k : ℕ) → k ≤ s.mutators → Reached s (looks s k)
  reached_looks zero le = reached_none s
  reached_looks (suc k) le =
      reached_more s (looks s k) (looks s (suc k)) (reached_looks k (omega (arith, le))) (reached_one (looks s k) (Look k) (subst (λ n. k < n) (sym (looks_mutators k)) (omega (arith, le))) tt tt)

module _ (m : Moment) (law : Law m.core) (moment : MomentLaw m) (waits : m.phase ≡ Waiting) where
  reached_clear : (k : ℕ) → k ≤ m.core.mutators → ((j : ℕ) → j < k → holds_up m.core j ≡ false) → Reached m.core (with_clear_below m.core k)
  reached_clear k le each = subst (Reached m.core) (looks_see m.core law.scopes.scope_read k each) (reached_looks m.core law k le)

  below : (clear : Bool) (k n : ℕ) → k < n → (clear || nat_lt k n) ≡ true
  below true k n lt = refl
  below false k n lt = grind (arith, nat_tests, lt)

  moment_clear : (k : ℕ) (phase : Phase) → has_risen phase ≡ true → is_idle phase ≡ false → (phase ≡ Evacuating → k ≡ m.core.mutators) → MomentLaw (record m { core = with_clear_below m.core k; phase = phase })
  moment_clear k phase risen running all = record {
    order = moment.order;
    order_once = moment.order_once;
    sealed = moment.sealed;
    collection_once = moment.collection_once;
    runs = moment.runs ∙ ap is_idle waits ∙ sym running;
    round = λ _. moment.round (ap has_risen waits);
    only = λ _. moment.only (ap has_risen waits);
    clear = λ leaves j lt. below (m.core.clear j) j k (subst (λ n. j < n) (sym (all leaves)) lt);
    later = λ marks. absurd (false≢true (sym (ap has_risen marks) ∙ risen));
    alone = moment.alone;
    held = λ j job still. let odd : Waiting ≡ Evacuating = sym waits ∙ (moment.held j job record { says = still.says; good = still.good; lies = still.lies }).0 in absurd cc;
  }

  leads_by : (k : ℕ) (phase : Phase) → k ≤ m.core.mutators → ((j : ℕ) → j < k → holds_up m.core j ≡ false) → has_risen phase ≡ true → is_idle phase ≡ false → (phase ≡ Evacuating → k ≡ m.core.mutators) →
      Leads m (record m { core = with_clear_below m.core k; phase = phase })
  leads_by k phase le each risen running all =
      let way = reached_clear k le each in record { reached = way; law = reached_law m.core (with_clear_below m.core k) law way; moment = moment_clear k phase risen running all; copying = refl }

  polled_leads : (o : Option ℕ) → first_open m.core ≡ o → Leads m (polled_to m o)
  polled_leads None e =
      leads_by m.core.mutators Evacuating (omega arith) (λ j lt. none_found (holds_up m.core) j 0 m.core.mutators e (omega arith) (omega (arith, lt))) refl refl (λ _. refl)
  polled_leads (Some k) e =
      let x = found_in (holds_up m.core) k 0 m.core.mutators e in
      let there = leads_by k Waiting (omega (arith, x.1)) (λ j lt. x.2 j (omega arith) lt) refl refl (λ odd. absurd cc) in
      subst (Leads m) (λ i. record m { core = with_clear_below m.core k; phase = (sym waits) i }) there

pub polling : PollingLeads
polling m law moment waits = polled_leads m law moment waits (first_open m.core) refl

-- ---- one event after the other, each at a pointer
module _ (event : ℕ → Event) (fits : (p : ℕ) → Fits (event p)) (book : (p : ℕ) → IsOfBook (event p)) (May : State → ℕ → Type 0) (legal : (s : State) (p : ℕ) → May s p → Legal s (event p))
    (still : (s : State) → Law s → (p q : ℕ) → May s p → May s q → May (after s (event p)) q) where
  pub reached_each : (ps : List ℕ) (s : State) → Law s → AllByRecursion (May s) ps → Reached s (fold (λ t p. after t (event p)) s ps)
  reached_each [] s law each = reached_none s
  reached_each (p ∷ ps) s law each =
      let one = reached_one s (event p) (legal s p each.0) (fits p) (book p) in
      let then = reached_law s (after s (event p)) law one in
      reached_more s (after s (event p)) (fold (λ t q. after t (event q)) (after s (event p)) ps) one
      (reached_each ps (after s (event p)) then (each_map (λ q h. still s law p q each.0 h) ps each.1))

-- ---- near pointers of the heap
abbrev pub IsNearOf : State → ℕ → Type 0
IsNearOf s p = (p < CELLS * s.mutators) × IsNear s p

pub not_zero : (w len ds : ℕ) (place : Place) (marks : Marks) → read_of w ≡ Some (Near len ds place marks) → w ≢ 0
not_zero w len ds place marks near e = free_place len ds place marks (subst (λ x. read_of x ≡ Some (Near len ds place marks)) e near)

-- a near pointer is one of the heap's
pub in_heap : (s : State) → Law s → (p len ds : ℕ) (place : Place) (marks : Marks) → read_of (s.cell p) ≡ Some (Near len ds place marks) → p < CELLS * s.mutators
in_heap s law p len ds place marks near = law.cells.cell_range p (not_zero (s.cell p) len ds place marks near)

-- and so is a live object of a log
near_of : (s : State) → Law s → (l p : ℕ) → LivesIn s l p → IsNearOf s p
near_of s law l p h = let x = near_at (read_of (s.cell p)) l h.0 h.1 in (in_heap s law p x.len x.ds x.place x.marks x.near, (x.len, x.ds, x.place, x.marks, x.near))

-- what holds of each pointer that lives in one of some logs holds of their live objects
pub all_lives : (P : ℕ → Type 0) (s : State) (ls : List ℕ) → ((l p : ℕ) → among ls l ≡ true → LivesIn s l p → P p) → AllByRecursion P (live_among s ls)
all_lives P s [] each = tt
all_lives P s (l ∷ ls) each =
    all_append P (live_in s l) (live_among s ls) (each_map (λ p h. each l p (or_left (eqb l l) (among ls l) (eq-eqb l l refl)) h) (live_in s l) (live_named s l))
    (all_lives P s ls (λ k p member h. each k p (or_right (eqb k l) (among ls k) member) h))

-- ---- giving up
still_near : (s : State) → Law s → (p q : ℕ) → IsNearOf s p → IsNearOf s q → IsNearOf (unmarked s p) q
still_near s law p q (range, (len, ds, place, marks, near)) (inside, (n, d, at, k, is)) = (
  inside,
  put_both (λ w. (n d : ℕ) × (at : Place) × (k : Marks) × (read_of w ≡ Some (Near n d at k))) s.cell p (evac_cleared (s.cell p)) q
      (λ _. (len, ds, place, _, without_evac_read (s.cell p) (Near len ds place marks) (law.cells.cell_read p).0 near)) (λ _. (n, d, at, k, is)),
)

kinds_unmarked : (ps : List ℕ) (s : State) → (fold unmarked s ps).kind ≡ s.kind
kinds_unmarked [] s = refl
kinds_unmarked (p ∷ ps) s = kinds_unmarked ps (unmarked s p)

jobs_unmarked : (ps : List ℕ) (s : State) → (fold unmarked s ps).copying ≡ s.copying
jobs_unmarked [] s = refl
jobs_unmarked (p ∷ ps) s = jobs_unmarked ps (unmarked s p)

pub aborting : AbortingLeads
aborting m law moment =
    let ps = live_among m.core m.collection in
    let way : Reached m.core (fold unmarked m.core ps) =
    reached_each (λ p. Clear p) (λ p. tt) (λ p. tt) IsNearOf (λ s p h. h) still_near ps m.core law (all_lives (IsNearOf m.core) m.core m.collection (λ l p _ h. near_of m.core law l p h)) in
    record {
      reached = way;
      law = reached_law m.core (fold unmarked m.core ps) law way;
      moment = record {
        order = λ l. moment.order l ∙ ap (λ kind. is_sealed (kind l)) (sym (kinds_unmarked ps m.core));
        order_once = moment.order_once;
        sealed = λ l h. absurd (false≢true h);
        collection_once = none_once;
        runs = refl;
        round = λ risen l h. absurd (false≢true h);
        only = λ risen. absurd (false≢true risen);
        clear = λ leaves. absurd cc;
        later = λ marks. absurd cc;
        alone = λ e j. ap (λ (k : Copying). k.word j) (jobs_unmarked ps m.core) ∙ moment.alone e j;
        held = λ j job still. absurd (none_after_aborting m (own_law m.core law) moment.held j job still);
      };
      copying = refl;
    }
