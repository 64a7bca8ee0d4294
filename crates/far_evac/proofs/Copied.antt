-- The walk that goes by the words that are there, where copies may be offered, is one of those that are allowed.
use Rattle.std.proofs.Common.{◌≡◌, ℕ, zero, suc, Bool, true, false, cond, List, [], ◌∷◌, ◌⊎◌, Option, Some, None, ap, inl, refl, subst, sym, ◌∙◌}
use mathlib.Core.Path.{fun_ext}
use Rattle.far_word.specs.declared.job.Job.{Job}
use Rattle.far_word.specs.declared.refused.Refused.{Refused}
use Rattle.far_word.specs.declared.sizes.TheConstants.{JOBS}
use Rattle.far_events.specs.state.Jobs.{job_at}
use Rattle.far_events.specs.state.State.{State, put}
use Rattle.far_events.proofs.Put.{put_both}
use Rattle.far_hand.specs.Known.{Forgets}
use Rattle.far_hand.proofs.Finding.{finds_same}
use Rattle.far_hand.proofs.JobsFound.{job_is}
use Rattle.far_book.specs.book.Collecting.{BackKnown, Collects, CollectsKnown, TakesBack, all_back, all_collected, back_known, fate_in, found_so, goes, goes_known, made_of}
use Rattle.far_book.specs.book.Jobs.{has_job}
use Rattle.far_evac.specs.AnyHand.{KnowsWalked}
use Rattle.far_evac.specs.Beside.{At, Before, Behind, CollectsFirst, Dealing, DealsBeside, End, EvacuatesBeside, OverLogs, OverObjects, by_end, freed_if, kept_if}
use Rattle.far_evac.specs.Copied.{CopiedIsAllowed, OverAll, OverSome, after_recalling, collected_first, dealt_beside, over_logs, over_objects, walked_from, with_log}
use Rattle.far_evac.specs.Live.{live_in}
use Rattle.far_evac.specs.Moment.{Moment}
use Rattle.far_evac.specs.Walk.{Walked, begun, ended, is_done}
use Rattle.far_evac.specs.WayLaws.{JobsArePassedOver}
use Rattle.far_evac.proofs.Walks.{moment_same, walked_same}

-- nothing is said of a device
abbrev Asks : State → ℕ → Dealing → Unit {0} → Unit {0} → Type 0
Asks s p dealing old new = Unit {0}

abbrev Fails : State → ℕ → Refused → Unit {0} → Unit {0} → Type 0
Fails s p why old new = Unit {0}

abbrev Objects : List ℕ → ℕ → Walked → OverSome → Type 0
Objects ps n w x = OverObjects (Unit {0}) Asks Fails ps n w x.at x.more x.end tt tt

abbrev Logs : List ℕ → ℕ → Walked → OverAll → Type 0
Logs ls n w x = OverLogs (Unit {0}) Asks Fails ls n w x.at x.kept x.end tt tt

-- ---- one object
dealt_so_far : (w : Walked) (p : ℕ) → DealsBeside (Unit {0}) Asks w p (dealt_beside w p) tt tt
dealt_so_far w p = record { word = w.moment.core.cell p; found = finds_same (w.moment.core.cell p); known = walked_same (dealt_beside w p); asks = tt }

abbrev before : Walked → OverSome
before w = record { at = w; more = 0; end = Before }

none_goes : (b : Bool) (ps : List ℕ) (w : Walked) (x : OverSome) → Objects ps zero w x →
    let y = cond b x (before w) in cond b (Objects ps zero w y) (KnowsWalked w y.at × (y.more ≡ 0) × (y.end ≡ Before) × (tt {0} ≡ tt {0}))
none_goes true ps w x h = h
none_goes false ps w x h = (walked_same w, refl, refl, refl)

abbrev Deals : ℕ → List ℕ → ℕ → Walked → OverSome → Type 0
Deals p ps n w y = ((v u : Walked) × (between : Unit {0}) × KnowsWalked w v × DealsBeside (Unit {0}) Asks v p u tt between × OverObjects (Unit {0}) Asks Fails ps n u y.at y.more y.end between tt)
    ⊎ ((v : Walked) × (why : Refused) × KnowsWalked w v × KnowsWalked v y.at × Fails v.moment.core p why tt tt × (y.more ≡ suc n) × (y.end ≡ At p why))

some_goes : (b : Bool) (p : ℕ) (ps : List ℕ) (n : ℕ) (w : Walked) (x z : OverSome) → Objects ps (suc n) w x → Objects ps n (dealt_beside w p) z →
    let y = cond b x z in cond b (Objects ps (suc n) w y) (Deals p ps n w y)
some_goes true p ps n w x z passed dealt = passed
some_goes false p ps n w x z passed dealt = inl (w, dealt_beside w p, tt, walked_same w, dealt_so_far w p, dealt)

-- ---- one log, and all
objects_go : (ps : List ℕ) (n : ℕ) (w : Walked) → Objects ps n w (over_objects ps n w)
objects_go [] n w = (walked_same w, refl, refl, refl)
objects_go (p ∷ ps) zero w = none_goes (has_job w.moment.core p) ps w (over_objects ps zero w) (objects_go ps zero w)
objects_go (p ∷ ps) (suc n) w =
    some_goes (has_job w.moment.core p) p ps n w (over_objects ps (suc n) w) (over_objects ps n (dealt_beside w p)) (objects_go ps (suc n) w) (objects_go ps n (dealt_beside w p))

log_goes : (end : End) (u : Walked) (l : ℕ) (ls : List ℕ) (more : ℕ) (then : OverAll) → Logs ls more (freed_if u l) then →
    let y = with_log u l ls then end in
    by_end end ((rest : List ℕ) × OverLogs (Unit {0}) Asks Fails ls more (freed_if u l) y.at rest y.end tt tt × (y.kept ≡ kept_if u l rest)) ((y.at ≡ u) × (y.kept ≡ l ∷ ls) × (y.end ≡ end) × (tt {0} ≡ tt {0}))
log_goes Behind u l ls more then h = (then.kept, h, refl)
log_goes Before u l ls more then h = (refl, refl, refl, refl)
log_goes (At p why) u l ls more then h = (refl, refl, refl, refl)

logs_go : (ls : List ℕ) (n : ℕ) (w : Walked) → Logs ls n w (over_logs ls n w)
logs_go [] n w = (walked_same w, refl, refl, refl)
logs_go (l ∷ ls) n w =
    let x = over_objects (live_in w.moment.core l) n w in
    (w, x.at, x.more, x.end, tt, walked_same w, objects_go (live_in w.moment.core l) n w, log_goes x.end x.at l ls x.more (over_logs ls x.more (freed_if x.at l)) (logs_go ls x.more (freed_if x.at l)))

-- ---- an object that has a job is passed over
passes : (b : Bool) (A B : Type 0) → b ≡ true → cond b A B → A
passes b A B e h = subst (λ x. cond x A B) e h

pub jobs_are_passed_over : JobsArePassedOver
jobs_are_passed_over w t p ps zero more end has h =
    passes (has_job w.moment.core p) (Objects ps zero w (record { at = t; more = more; end = end })) (KnowsWalked w t × (more ≡ 0) × (end ≡ Before) × (tt {0} ≡ tt {0})) has h
jobs_are_passed_over w t p ps (suc n) more end has h =
    passes (has_job w.moment.core p) (Objects ps (suc n) w (record { at = t; more = more; end = end })) (Deals p ps n w (record { at = t; more = more; end = end })) has h

-- ---- no object is refused
either_end : (b : Bool) (x y : OverSome) (p : ℕ) (why : Refused) → (x.end ≡ At p why → ⊥) → (y.end ≡ At p why → ⊥) → (cond b x y).end ≡ At p why → ⊥
either_end true x y p why here there = here
either_end false x y p why here there = there

objects_end : (ps : List ℕ) (n : ℕ) (w : Walked) (p : ℕ) (why : Refused) → (over_objects ps n w).end ≡ At p why → ⊥
objects_end [] n w p why = λ e. absurd cc
objects_end (q ∷ ps) zero w p why = either_end (has_job w.moment.core q) (over_objects ps zero w) (before w) p why (objects_end ps zero w p why) (λ e. absurd cc)
objects_end (q ∷ ps) (suc n) w p why =
    either_end (has_job w.moment.core q) (over_objects ps (suc n) w) (over_objects ps n (dealt_beside w q)) p why (objects_end ps (suc n) w p why) (objects_end ps n (dealt_beside w q) p why)

log_end : (end : End) (u : Walked) (l : ℕ) (ls : List ℕ) (then : OverAll) (p : ℕ) (why : Refused) → (end ≡ At p why → ⊥) → (then.end ≡ At p why → ⊥) → (with_log u l ls then end).end ≡ At p why → ⊥
log_end Behind u l ls then p why here there = there
log_end Before u l ls then p why here there = here
log_end (At q cause) u l ls then p why here there = here

logs_end : (ls : List ℕ) (n : ℕ) (w : Walked) (p : ℕ) (why : Refused) → (over_logs ls n w).end ≡ At p why → ⊥
logs_end [] n w p why = λ e. absurd cc
logs_end (l ∷ ls) n w p why =
    let x = over_objects (live_in w.moment.core l) n w in
    let then = over_logs ls x.more (freed_if x.at l) in log_end x.end x.at l ls then p why (objects_end (live_in w.moment.core l) n w p why) (logs_end ls x.more (freed_if x.at l) p why)

walk_is_allowed : (m : Moment) (n : ℕ) (u : Walked) → CollectsFirst (begun m) u → let w = walked_from m n u in EvacuatesBeside m n (ended w) w.tally (is_done w)
walk_is_allowed m n u collects =
    let x = over_logs m.collection n u in
    record {
      stood = record x.at { moment = record x.at.moment { collection = x.kept } };
      end = x.end;
      walks = (u, x.at, x.kept, collects, logs_go m.collection n u, refl);
      whole = logs_end m.collection n u;
      ends = refl;
      counts = refl;
      over = refl;
    }

-- ---- the jobs, as their words and the cells of their objects say
put_known : (f : ℕ → ℕ) (k : ℕ) → put f k (f k) ≡ f
put_known f k = fun_ext (λ q. put_both (λ x. x ≡ f q) f k (f k) q (λ e. ap f (sym e)) (λ _. refl))

found_known : (s : State) (j : ℕ) (job : Job) → found_so s j job (s.copying.word j) (s.cell job.pointer) ≡ s
found_known s j job =
    ap (λ (f : ℕ → ℕ). record s { cell = put s.cell job.pointer (s.cell job.pointer); copying = record s.copying { word = f } }) (put_known s.copying.word j)
    ∙ ap (λ (f : ℕ → ℕ). record s { cell = f }) (put_known s.cell job.pointer)

job_goes : (s : State) (j : ℕ) (o : Option Job) → CollectsKnown s (goes_known s j o).0 j o (goes_known s j o).1
job_goes s j None = (refl, refl)
job_goes s j (Some job) =
    let fate = fate_in s j job (s.copying.word j) (s.cell job.pointer) in
    let t = made_of s j job fate in
    let same : made_of (found_so s j job (s.copying.word j) (s.cell job.pointer)) j job fate ≡ t = ap (λ (x : State). made_of x j job fate) (found_known s j job) in
    record {
      word = s.copying.word j;
      finds = job_is (s.copying.word j) (s.copying.word j) refl;
      cell = s.cell job.pointer;
      sees = finds_same (s.cell job.pointer);
      leads = sym (ap (λ (x : State). record x { word = t.word }) same);
      forgot = subst (λ (x : State). Forgets x t) (sym same) (record { known = λ a _. refl; headers = λ a _. refl });
      counted = refl;
    }

jobs_go : (s : State) (n : ℕ) → Collects s n (all_collected s n).0 (all_collected s n).1
jobs_go s zero = (refl, refl)
jobs_go s (suc n) = let x = all_collected s n in (x.0, x.1, (goes x.0 n).1, jobs_go s n, job_goes x.0 n (job_at x.0.copying.word n), refl)

back_goes : (s : State) (j : ℕ) (o : Option Job) → BackKnown s (back_known s j o) j o
back_goes s j None = refl
back_goes s j (Some job) = record { word = s.copying.word j; finds = job_is (s.copying.word j) (s.copying.word j) refl; is = refl }

all_go_back : (s : State) (n : ℕ) → TakesBack s n (all_back s n)
all_go_back s zero = refl
all_go_back s (suc n) = let u = all_back s n in (u, all_go_back s n, back_goes u n (job_at u.copying.word n))

pub copied_is_allowed : CopiedIsAllowed
copied_is_allowed m n = record {
  walk = walk_is_allowed m n;
  whole = walk_is_allowed m n (collected_first (begun m)) ((all_collected m.core JOBS).1, jobs_go m.core JOBS, refl);
  gives_up = (all_back m.core JOBS, all_go_back m.core JOBS, moment_same (after_recalling m));
}
