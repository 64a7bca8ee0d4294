-- What the event ReadEpoch owes.
use Rattle.std.proofs.Common.{Option, Some, ap, arith, refl, sym, ℕ, ◌≡◌, ◌≤◌, ◌<◌}
use Rattle.far_core.proofs.Frames.{law_with_remembered}
use Rattle.far_events.proofs.Guards.{closed_fact, closed_test}
use Rattle.far_core.proofs.Touching.{touched}
use Rattle.far_events.specs.events.Touch.{Remembers}
use Rattle.far_core.proofs.Owed.{Owed, replies}
use Rattle.far_core.specs.laws.Worlds.{Caused}
use Rattle.far_events.specs.events.Step.{change_of}
use Rattle.far_events.proofs.Put.{put_both, put_other, put_same}
use Rattle.far_events.specs.state.Law.{Law}
use Rattle.far_events.specs.state.State.{State, put}
use Rattle.far_core.specs.world.WorldOf.{world_of}
use Rattle.far_events.specs.declared.event.Event.TheVariants.{ReadEpoch}

pub keeps_read_epoch : (s : State) (m : ℕ) → Law s → m < s.mutators → Law record s { remembered = put s.remembered m (Some s.epoch) }
keeps_read_epoch s m law own = law_with_remembered s (put s.remembered m (Some s.epoch)) law (λ k e h.
    put_both (λ (o : Option ℕ). o ≡ Some e → (e ≤ s.epoch) × (k < s.mutators)) s.remembered m (Some s.epoch) k
    (λ at is. let same : s.epoch ≡ e = cc in (omega arith, omega arith)) (λ _ is. (law.scopes.remembered_bound k e is, law.scopes.remembered_range k e is)) h)

pub read_stays : (s : State) (m : ℕ) → world_of record s { remembered = put s.remembered m (Some s.epoch) } ≡ world_of s
unfolding world_of
read_stays s m = refl

-- what the event owes
module _ (m : ℕ) where
  pub read_epoch_owed : Owed (ReadEpoch m)
  read_epoch_owed = record {
    fact = λ s law h. closed_fact s m h;
    test = λ s h. closed_test s m h;
    keeps = λ s law fits h. keeps_read_epoch s m law h.0;
    does = λ s law fits h. read_stays s m;
    within = λ s. touched (λ a ne. refl) (λ k a b. put_other s.remembered m _ k (λ e. a (ap Remembers (sym e)))) (λ q a. refl) (λ q a b. refl);
    part = λ s h. refl;
    word = λ s h. tt;
    reports = λ s law h. (refl, put_same s.remembered m (Some s.epoch) m refl);
    silent = λ s t h. h;
    answers = λ s x. cc;
    causes = replies (λ r. Caused (ReadEpoch m) (change_of (ReadEpoch m) r)) tt tt (λ n. tt) (λ x. tt) (λ place. tt);
  }
