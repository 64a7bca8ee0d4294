-- What the event Advance owes.
use Rattle.std.proofs.Common.{◌≡◌, ◌≢◌, ℕ, ◌+◌, ◌*◌, ◌/◌, ◌<◌, ◌≤◌, true, false, nat_lt, arith, refl, inl, inr, Some}
use Rattle.std.proofs.lemmas.Bool.{false≢true}
use Rattle.std.proofs.lemmas.Bool.Decides.{nat_tests}
use Rattle.far_word.specs.declared.sizes.TheConstants.{CELLS, EPOCH_END, MOST_LOGS}
use Rattle.far_events.specs.declared.event.Event.TheVariants.{Advance}
use Rattle.far_events.specs.events.Advance.{all_marked, all_sealed, MayAdvance, advanced}
use Rattle.far_events.specs.events.Step.{change_of}
use Rattle.far_events.specs.events.Touch.{Spot, EpochAt, ScopeAt, CellAt, WordAt, JobAt, spot_word}
use Rattle.far_core.specs.laws.Worlds.{Caused}
use Rattle.far_events.specs.state.Law.{Law}
use Rattle.far_events.specs.state.State.{State}
use Rattle.far_core.specs.world.WorldOf.{world_of}
use Rattle.far_core.proofs.Owed.{Owed, replies}
use Rattle.far_core.proofs.Touching.{same_copier}
use Rattle.far_events.proofs.events.Advance.{sealed_below, sealed_all, among_low, marked_all, marked_fact_all, advance_parts}

module _ (logs : ℕ) where
  may_advance : (s : State) → Law s → nat_lt (s.epoch + 1) EPOCH_END ≡ true → all_sealed s logs MOST_LOGS ≡ true → all_marked s logs (CELLS * s.mutators) ≡ true → MayAdvance s logs
  may_advance s law a b c = record {
    below = grind (arith, nat_tests);
    shut = λ l among. sealed_below s logs MOST_LOGS l b (among_low logs l among) among;
    marked = marked_fact_all s law logs c;
  }

  -- no job is of a round that comes only now
  past : (s : State) → Law s → (j : ℕ) → s.copying.since j ≢ s.epoch + 1
  past s law j e = let old : s.copying.since j ≤ s.round_epoch = law.copies.good.begun j in omega (arith, law.rounds.own_epoch)

  -- no owner is open at an epoch that comes only now
  keeps_advance : (s : State) → Law s → MayAdvance s logs → Law (advanced s logs)
  keeps_advance s law h = record {
    shape = law.shape;
    cells = law.cells;
    spans = law.spans;
    logs = law.logs;
    scopes = record {
      scope_read = law.scopes.scope_read;
      scope_range = law.scopes.scope_range;
      epoch_below = h.below;
      open_bound = λ m e is. let old : e ≤ s.epoch = law.scopes.open_bound m e is in omega arith;
      remembered_bound = λ m e is. let old : e ≤ s.epoch = law.scopes.remembered_bound m e is in omega arith;
      remembered_range = law.scopes.remembered_range;
    };
    views = law.views;
    rounds = record { round_sealed = λ l among. (h.shut l among).1; round_evac = h.marked; own_epoch = refl };
    clears = record {
      clear_unviewed = λ p place held c. absurd (false≢true c);
      late_unviewed = λ p e place held is late. absurd (let old : e ≤ s.epoch = law.scopes.open_bound (p / CELLS) e is in omega arith);
    };
    unadopted = law.unadopted;
    copies = record {
      jobs = law.copies.jobs;
      taken = law.copies.taken;
      aims = law.copies.aims;
      good = record {
        begun = λ j. let old : s.copying.since j ≤ s.round_epoch = law.copies.good.begun j in omega (arith, law.rounds.own_epoch);
        seen = λ j job e good. absurd (past s law j good.0);
        outside = λ j job e good. absurd (past s law j good.0);
      };
      same = record {
        read = λ c i w t e good. absurd (past s law t.number good.0);
        written = λ c i t e good. absurd (past s law t.number good.0);
        finished = λ j c job e good. absurd (past s law j good.0);
      };
    };
    soils = law.soils;
    cleans = law.cleans;
  }

  one_epoch : (e f : ℕ) (scope cell word job : ℕ → ℕ) (a : Spot) → Some EpochAt ≢ Some a → spot_word e scope cell word job a ≡ spot_word f scope cell word job a
  one_epoch e f scope cell word job EpochAt ne = absurd (ne refl)
  one_epoch e f scope cell word job (ScopeAt m) ne = refl
  one_epoch e f scope cell word job (CellAt p) ne = refl
  one_epoch e f scope cell word job (WordAt a) ne = refl
  one_epoch e f scope cell word job (JobAt j) ne = refl

  stays : (s : State) → world_of (advanced s logs) ≡ world_of s
  unfolding world_of
  stays s = refl

  pub advance_owed : Owed (Advance logs)
  advance_owed = record {
    fact = λ s law h. let x = advance_parts s logs h in may_advance s law x.0 x.1 x.2;
    test = λ s h.
        let low : s.epoch + 1 < EPOCH_END = h.below in
        let a : nat_lt (s.epoch + 1) EPOCH_END ≡ true = grind (arith, nat_tests) in
        rw (a, sealed_all s logs MOST_LOGS h.shut, marked_all s logs (CELLS * s.mutators) h.marked) refl;
    keeps = λ s law fits h. keeps_advance s law h;
    does = λ s law fits h. stays s;
    within = λ s. record {
      words = one_epoch (s.epoch + 1) s.epoch s.scope s.cell s.word s.copying.word;
      remembered = λ k a b. refl;
      used = λ q a. refl;
      held = λ q a b. refl;
      soiled = λ q a b. refl;
      book = λ ne. absurd (ne refl);
      copiers = λ c ne. same_copier;
      rest = (refl, refl, refl, refl);
    };
    part = λ s h. inr (inr (inr (inl (logs, refl))));
    word = λ s h. (logs, refl);
    reports = λ s law h. record { risen = (refl, refl, refl); chosen = λ l. refl; unseen = λ m. refl; rest = refl };
    silent = λ s t h. h;
    answers = λ s x. cc;
    causes = replies (λ r. Caused (Advance logs) (change_of (Advance logs) r)) tt tt (λ n. tt) (λ x. tt) (λ place. tt);
  }
