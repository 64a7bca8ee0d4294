use Rattle.std.proofs.Common.{◌≡◌, ◌≢◌, ◌+◌, ◌-◌, ◌≤◌, ◌∙◌, ℕ, Bool, List, true, false, length, take, drop, arith, ap, sym, refl, subst}
use Rattle.std.specs.Prelude.{Err}
use Rattle.far_word.specs.declared.refused.Refused.{Refused}
use Rattle.far_word.specs.declared.sizes.TheConstants.{JOBS, MOST_LOGS}
use Rattle.far_device.specs.Following.{Follows, none_of}
use Rattle.far_device.proofs.Following.{follows_still}
use Rattle.far_events.specs.state.State.{State}
use Rattle.far_hand.proofs.Closure.{then_came}
use Rattle.far_book.specs.book.Dealing.{is_failure}
use Rattle.far_evac.specs.declared.answers.Progress.{Progress}
use Rattle.far_evac.specs.declared.phase.Phase.{Phase}
use Rattle.far_evac.specs.declared.phase.Phase.TheVariants.{Evacuating}
use Rattle.far_evac.specs.declared.round.Round.{Round}
use Rattle.far_evac.specs.Beside.{AsksOnly, At, Behind, Dealing, End, OverLogs, RefusedOnly}
use Rattle.far_evac.specs.BookStands.{end_of, is_failed, stands}
use Rattle.far_evac.specs.ByCopying.{EvacuatesAsking, StopsRefused}
use Rattle.far_evac.specs.EvacOf.{EvacOf, moment}
use Rattle.far_evac.specs.Live.{is_empty, live_among}
use Rattle.far_evac.specs.Moment.{Moment, Tally, nothing, objects_in, tally_of}
use Rattle.far_evac.specs.MomentLaw.{is_idle}
use Rattle.far_evac.specs.RoundSteps.{among}
use Rattle.far_evac.specs.Standing.{Holds, IsSound, collection_in, collection_of}
use Rattle.far_evac.specs.Turning.{IsBoundedBy}
use Rattle.far_evac.specs.Walk.{Walked, ended}
use Rattle.far_evac.specs.WalkedLogs.{KeepsRound, round_of}
use Rattle.far_evac.proofs.Failures.{failure_alike}
use Rattle.far_evac.proofs.HandKept.{since_evac}
use Rattle.far_evac.proofs.OfferingCall.{asks_all, asks_refused}
use Rattle.far_evac.proofs.OfferingCells.{keys_before, reaches}
use Rattle.far_evac.proofs.OfferingFree.{none_failed, not_refused}
use Rattle.far_evac.proofs.OfferingOver.{not_behind_at, some_kept}
use Rattle.far_evac.proofs.OfferingSound.{LeavesRound, chosen_then, collects_leaves, few_chosen, moment_then, over_kept, sound_then, still_leaves}
use Rattle.far_evac.proofs.Unmarking.{slice_rest}
use Rattle.far_evac.proofs.evac.Evac.evacuate_beside.Given.{Over}
use Rattle.far_evac.proofs.evac.Evac.evacuate_beside.Goals.{After-keeps_law-3}
use Rattle.far_evac.proofs.evac.Evac.evacuate_beside.Goals as goal

pub walk_logs-end-requires-clause-chosen : goal.walk_logs-end-requires-clause-chosen
walk_logs-end-requires-clause-chosen g c l is =
    let s = g.N.Near.view c.self.inside.book.near in
    let r = c.self.inside.round in
    let walks = ap (λ (e : EvacOf g.row.N.Denot g.row.D.Denot). e.phase) c.self.view_is ∙ c.requires.phase in
    let holds = subst (λ (phase : Phase). Holds s phase (collection_in r)) walks c.self.invariant.round.holds in
    let same = slice_rest r.chosen c.as_slice.result.now r.index c.as_slice.ensures ∙ sym (ap (λ (phase : Phase). collection_of phase r.chosen r.index) walks) in
    chosen_then s (g.N.Near.view c.collect.new.self.near) (collection_in r) holds (collects_leaves s (g.N.Near.view c.collect.new.self.near) JOBS c.collect.result c.collect.ensures.collects)
    c.keeps_law-2.ensures.law l (sym (ap (λ ls. among ls l) same) ∙ is)

-- ---- the jobs were collected, and the logs walked over
module _ (g : Over) (c : After-keeps_law-3 g) where
  abbrev s : State
  s = g.N.Near.view c.self.inside.book.near

  abbrev u : State
  u = g.N.Near.view c.collect.new.self.near

  abbrev t : State
  t = g.N.Near.view c.walk_logs-end.new.book.near

  abbrev held : List ℕ
  held = collection_in c.self.inside.round

  abbrev kept : List ℕ
  kept = c.walk_logs-end.new.kept

  abbrev end : End
  end = end_of c.walk_logs-end.result

  abbrev Asks : State → ℕ → Dealing → g.row.D.Denot → g.row.D.Denot → Type 0
  Asks = AsksOnly g.row.D.Denot g.D.Device.writes g.D.Device.lets_go g.D.Device.contents

  abbrev Refuses : State → ℕ → Refused → g.row.D.Denot → g.row.D.Denot → Type 0
  Refuses = RefusedOnly g.row.D.Denot g.D.Device.writes g.D.Device.lets_go g.D.Device.contents

  walks : c.self.inside.round.phase ≡ Evacuating
  walks = ap (λ (e : EvacOf g.row.N.Denot g.row.D.Denot). e.phase) c.self.view_is ∙ c.requires.phase

  copies : c.self.inside.copying ≡ true
  copies = ap (λ (e : EvacOf g.row.N.Denot g.row.D.Denot). e.copying) c.self.view_is ∙ c.requires.copying

  holds : Holds s Evacuating held
  holds = subst (λ (phase : Phase). Holds s phase held) walks c.self.invariant.round.holds

  leaves : LeavesRound s u
  leaves = collects_leaves s u JOBS c.collect.result c.collect.ensures.collects

  -- the logs that were walked over
  logs_are : take (length c.as_slice.result.now - c.self.inside.round.index) (drop c.self.inside.round.index c.as_slice.result.now) ≡ held
  logs_are =
      slice_rest c.self.inside.round.chosen c.as_slice.result.now c.self.inside.round.index c.as_slice.ensures
      ∙ sym (ap (λ (phase : Phase). collection_of phase c.self.inside.round.chosen c.self.inside.round.index) walks)

  few : length held ≤ MOST_LOGS
  few = few_chosen u held c.keeps_law-2.ensures.law holds.once (λ l is. (chosen_then s u held holds leaves c.keeps_law-2.ensures.law l is).sealed)

  keeps : KeepsRound u held kept t
  keeps = subst (λ ls. KeepsRound u ls kept t) logs_are c.walk_logs-end.ensures.keeps

  sound : IsSound g.N.Near.still t c.self.inside.copying (round_of kept)
  sound = sound_then g.N.Near.still s u t c.self.inside.copying held kept copies c.self.invariant.exact holds leaves keeps c.keeps_law-3.ensures.law

  -- ---- what was counted
  abbrev counted : Progress
  counted = record c.args.progress.now { moved = c.args.progress.now.moved + c.from.result }

  tally : tally_of counted ≡ record nothing { moved = nothing.moved + c.collect.result }
  tally = ap (λ (p : Progress). tally_of (record p { moved = p.moved + c.from.result })) c.requires.begun ∙ ap (λ k. record nothing { moved = nothing.moved + k }) c.from.ensures

  bounded : IsBoundedBy true (tally_of c.walk_logs-end.new.progress)
  bounded =
      let long = ap length logs_are in
      let first = ap objects_in tally in
      let none = ap (λ (x : Tally). x.freed) tally in
      record { objects = omega (arith, c.walk_logs-end.ensures.counted, long, few, first, c.collect.ensures.most); logs = omega (arith, c.walk_logs-end.ensures.freed, long, few, none) }

  -- ---- the walk
  abbrev m : Moment
  m = record { core = s; order = c.self.inside.book.order; phase = c.self.inside.round.phase; collection = held; copying = c.self.inside.copying }

  over : OverLogs g.row.D.Denot Asks Refuses held c.args.n (stands g.N.Near.view c.collect.new.self counted held) (stands g.N.Near.view c.walk_logs-end.new.book c.walk_logs-end.new.progress held) kept end
      c.collect.new.self.device c.walk_logs-end.new.book.device
  over = subst (λ ls. OverLogs g.row.D.Denot Asks Refuses ls c.args.n (stands g.N.Near.view c.collect.new.self counted held) (stands g.N.Near.view c.walk_logs-end.new.book c.walk_logs-end.new.progress held) kept end
      c.collect.new.self.device c.walk_logs-end.new.book.device) logs_are (c.walk_logs-end.ensures.over held)

  some : end ≢ Behind → is_empty kept ≡ false
  some other = some_kept g.row.D.Denot Asks Refuses held c.args.n (stands g.N.Near.view c.collect.new.self counted held) (stands g.N.Near.view c.walk_logs-end.new.book c.walk_logs-end.new.progress held) kept end
      c.collect.new.self.device c.walk_logs-end.new.book.device over other

  abbrev stood : Walked
  stood = record { moment = record (stands g.N.Near.view c.walk_logs-end.new.book c.walk_logs-end.new.progress held).moment { collection = kept }; tally = tally_of c.walk_logs-end.new.progress }

  -- the moment then
  abbrev after : Round → Moment
  after r = record { core = t; order = c.walk_logs-end.new.book.order; phase = r.phase; collection = collection_in r; copying = c.self.inside.copying }

  after_is : (r : Round) → r ≡ round_of kept → after r ≡ ended stood
  after_is r is =
      ap after is ∙ (λ i. record (after (round_of kept)) { copying = copies i }) ∙ moment_then g.N.Near.view c.walk_logs-end.new.book c.walk_logs-end.new.progress held kept

  asked : ((p : ℕ) (why : Refused) → end ≡ At p why → ⊥) → (r : Round) → r ≡ round_of kept →
      EvacuatesAsking g.row.D.Denot g.D.Device.writes g.D.Device.lets_go g.D.Device.contents (moment g.N.Near.view c.args.self.now) c.args.n (after r) (tally_of c.walk_logs-end.new.progress) c.args.self.now.book.device c.walk_logs-end.new.book.device
  asked whole r is =
      subst (λ (e : EvacOf g.row.N.Denot g.row.D.Denot). EvacuatesAsking g.row.D.Denot g.D.Device.writes g.D.Device.lets_go g.D.Device.contents (moment g.N.Near.view e) c.args.n (after r)
      (tally_of c.walk_logs-end.new.progress) e.book.device c.walk_logs-end.new.book.device) c.self.view_is
      (asks_all g.N.Near.view g.D.Device.writes g.D.Device.lets_go g.D.Device.contents m c.args.n c.collect.result c.collect.new.self counted c.walk_logs-end.new.book c.walk_logs-end.new.progress kept end
      c.self.inside.book.device c.collect.ensures.collects c.collect.ensures.order walks copies tally c.collect.ensures.device over whole (after r) (after_is r is))

  refused : (p : ℕ) (why : Refused) → end ≡ At p why → (r : Round) → r ≡ round_of kept →
      StopsRefused g.row.D.Denot g.D.Device.writes g.D.Device.lets_go g.D.Device.contents (moment g.N.Near.view c.args.self.now) c.args.n (after r) (tally_of c.walk_logs-end.new.progress) why c.args.self.now.book.device c.walk_logs-end.new.book.device
  refused p why at r is =
      subst (λ (e : EvacOf g.row.N.Denot g.row.D.Denot). StopsRefused g.row.D.Denot g.D.Device.writes g.D.Device.lets_go g.D.Device.contents (moment g.N.Near.view e) c.args.n (after r)
      (tally_of c.walk_logs-end.new.progress) why e.book.device c.walk_logs-end.new.book.device) c.self.view_is
      (asks_refused g.N.Near.view g.D.Device.writes g.D.Device.lets_go g.D.Device.contents m c.args.n c.collect.result c.collect.new.self counted c.walk_logs-end.new.book c.walk_logs-end.new.progress kept end
      c.self.inside.book.device c.collect.ensures.collects c.collect.ensures.order walks copies tally c.collect.ensures.device over p why at
      (some (λ e. not_behind_at p why (sym at ∙ e))) (after r) (after_is r is))

  -- ---- keys
  followed : (fault : Bool) → is_failed end ≡ fault →
      Follows g.D.Device.contents g.D.Device.honest g.D.Device.faults g.D.Device.fails_at_most (none_of (live_among (g.N.Near.view c.args.self.now.book.near) c.args.self.now.collection)) fault c.args.self.now.book.device c.walk_logs-end.new.book.device
  followed fault is =
      let e = c.walk_logs-end.ensures.follows in
      let last = c.walk_logs-end.new.book.device in
      let walked = subst (λ (b : Bool). Follows g.D.Device.contents g.D.Device.honest g.D.Device.faults g.D.Device.fails_at_most (none_of (live_among u held)) b c.collect.new.self.device last) is
      (subst (λ ls. Follows g.D.Device.contents g.D.Device.honest g.D.Device.faults g.D.Device.fails_at_most (none_of (live_among u ls)) (is_failed end) c.collect.new.self.device last) logs_are e) in
      let law = c.keeps_law.ensures.law in
      let all = follows_still g.D.Device.contents g.D.Device.honest g.D.Device.faults g.D.Device.fails_at_most (none_of (live_among u held)) (none_of (live_among s held)) fault c.collect.new.self.device last
      (λ q none. keys_before s law u JOBS (reaches s law u JOBS c.collect.result c.collect.ensures.collects) held (holds.round refl) q none) walked in
      subst (λ (e : EvacOf g.row.N.Denot g.row.D.Denot). Follows g.D.Device.contents g.D.Device.honest g.D.Device.faults g.D.Device.fails_at_most (none_of (live_among (g.N.Near.view e.book.near) e.collection)) fault
      e.book.device last) c.self.view_is
      (subst (λ (d : g.row.D.Denot). Follows g.D.Device.contents g.D.Device.honest g.D.Device.faults g.D.Device.fails_at_most (none_of (live_among s held)) fault d last) c.collect.ensures.device all)

-- ---- one was refused
pub invariant_of-self : goal.invariant_of-self
invariant_of-self g c =
    subst (λ (r : Round). IsSound g.N.Near.still (g.N.Near.view c.walk_logs-end.new.book.near) c.self.inside.copying r) (sym c.round_of-self-inside.ensures)
    (sound g (goal.at.invariant_of-self g c).After-keeps_law-3)

pub returns-in-Fails-clause-came : goal.returns-in-Fails-clause-came
returns-in-Fails-clause-came g c = since_evac c.self.view_is (then_came c.collect.ensures.came c.walk_logs-end.ensures.came)

pub returns-in-Fails-clause-refused : goal.returns-in-Fails-clause-refused
returns-in-Fails-clause-refused g c =
    refused g (goal.at.returns-in-Fails-clause-refused g c).After-keeps_law-3 c.in-Fails.field-0 c.in-Fails.why (ap end_of c.in-Fails.is) c.round_of-self-inside.result c.round_of-self-inside.ensures

pub returns-in-Fails-clause-stays : goal.returns-in-Fails-clause-stays
returns-in-Fails-clause-stays g c =
    let at = ap end_of c.in-Fails.is in
    ap (λ (r : Round). r.phase) c.round_of-self-inside.ensures
    ∙ still_leaves c.walk_logs-end.new.kept (some g (goal.at.returns-in-Fails-clause-stays g c).After-keeps_law-3 (λ e. not_behind_at c.in-Fails.field-0 c.in-Fails.why (sym at ∙ e)))
    ∙ sym c.requires.phase

pub returns-in-Fails-clause-follows : goal.returns-in-Fails-clause-follows
returns-in-Fails-clause-follows g c =
    let at = ap end_of c.in-Fails.is in
    followed g (goal.at.returns-in-Fails-clause-follows g c).After-keeps_law-3 (is_failure {A = Bool} (Err c.in-Fails.why))
    (ap is_failed at ∙ failure_alike (Unit {0}) Bool c.in-Fails.why (c.walk_logs-end.ensures.why c.in-Fails.field-0 c.in-Fails.why at))

pub returns-in-Fails-clause-why : goal.returns-in-Fails-clause-why
returns-in-Fails-clause-why g c = c.walk_logs-end.ensures.why c.in-Fails.field-0 c.in-Fails.why (ap end_of c.in-Fails.is)

pub returns-in-Fails-clause-done : goal.returns-in-Fails-clause-done
returns-in-Fails-clause-done g c = c.walk_logs-end.ensures.done ∙ ap (λ (p : Progress). p.done) c.requires.begun

pub returns-in-Fails-clause-copying : goal.returns-in-Fails-clause-copying
returns-in-Fails-clause-copying g c = copies g (goal.at.returns-in-Fails-clause-copying g c).After-keeps_law-3

pub returns-in-Fails-clause-bounded : goal.returns-in-Fails-clause-bounded
returns-in-Fails-clause-bounded g c = bounded g (goal.at.returns-in-Fails-clause-bounded g c).After-keeps_law-3

-- ---- none was
pub invariant_of-self-2 : goal.invariant_of-self-2
invariant_of-self-2 g c =
    subst (λ (r : Round). IsSound g.N.Near.still (g.N.Near.view c.walk_logs-end.new.book.near) c.self.inside.copying r) (sym c.round_of-self-inside.ensures)
    (sound g (goal.at.invariant_of-self-2 g c).After-keeps_law-3)

pub returns : goal.returns
returns g c =
    let h = (goal.at.returns g c).After-keeps_law-3 in
    let over = over_kept c.walk_logs-end.new.kept in
    let is = c.round_of-self-inside.ensures in
    record {
      came = since_evac c.self.view_is (then_came c.collect.ensures.came c.walk_logs-end.ensures.came);
      asked = asked g h (not_refused c.walk_logs-end.result c.in_default.not-Fails) c.round_of-self-inside.result is;
      refused = tt;
      over = (c.is_empty.ensures ∙ over.0 ∙ sym (ap (λ (r : Round). is_empty (collection_in r)) is), ap (λ (r : Round). is_idle r.phase) is ∙ over.1 ∙ sym c.is_empty.ensures);
      stays = tt;
      why = tt;
      done = c.walk_logs-end.ensures.done ∙ ap (λ (p : Progress). p.done) c.requires.begun;
      copying = copies g h;
      bounded = bounded g h;
      follows = followed g h false (none_failed c.walk_logs-end.result c.in_default.not-Fails);
    }
