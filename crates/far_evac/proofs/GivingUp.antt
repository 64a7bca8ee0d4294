-- A round is given up: what of its jobs is taken back first, and then the live objects of the collection set lose EVAC.
use Rattle.std.proofs.Common.{◌≡◌, true, false, List, [], ℕ, ap, ◌∙◌, subst}
use Rattle.std.specs.Prelude.{fold}
use Rattle.far_word.specs.declared.sizes.TheConstants.{JOBS}
use Rattle.far_events.specs.state.State.{State}
use Rattle.far_book.specs.book.Collecting.{TakesBack}
use Rattle.far_evac.specs.declared.phase.Phase.TheVariants.{Idle}
use Rattle.far_evac.specs.AnyHand.{GivesUp, Knows}
use Rattle.far_evac.specs.ByCopying.{GivesUpBy}
use Rattle.far_evac.specs.Choosing.{after_aborting}
use Rattle.far_evac.specs.EvacOf.{EvacOf, SameRound, moment}
use Rattle.far_evac.specs.Live.{live_among}
use Rattle.far_evac.specs.Moment.{Moment}
use Rattle.far_evac.specs.RoundSteps.{unmarked}

-- from m on, where no round is running then
module _ (m t : Moment) (logs : List ℕ) (held : logs ≡ m.collection) (order : t.order ≡ m.order) (idle : t.phase ≡ Idle) (none : t.collection ≡ []) (copies : t.copying ≡ m.copying) where
  knows_given : Knows (fold unmarked m.core (live_among m.core logs)) t.core → GivesUp m t
  knows_given known = record {
    core = subst (λ ls. Knows (fold unmarked m.core (live_among m.core ls)) t.core) held known;
    rest = λ i. record { core = t.core; order = order i; phase = idle i; collection = none i; copying = copies i };
  }

  is_given : t.core ≡ fold unmarked m.core (live_among m.core logs) → t ≡ after_aborting m
  is_given is =
      let core = is ∙ ap (λ ls. fold unmarked m.core (live_among m.core ls)) held in
      λ i. record { core = core i; order = order i; phase = idle i; collection = none i; copying = copies i }

-- an evacuator, once its jobs were recalled, seen from inside, and in the end
module _ {N D : Type 0} (view : N → State) (old mid inside new : EvacOf N D) (is : inside ≡ mid) (logs : List ℕ) (held : logs ≡ inside.collection) (order : new.book.order ≡ inside.book.order) (idle : new.phase ≡ Idle)
    (none : new.collection ≡ []) (copies : new.copying ≡ inside.copying) where
  pub gives_by : Knows (fold unmarked (view inside.book.near) (live_among (view inside.book.near) logs)) (view new.book.near) → SameRound old mid → mid.book.order ≡ old.book.order →
      (old.copying ≡ false → mid ≡ old) → (old.copying ≡ true → TakesBack (view old.book.near) JOBS (view mid.book.near)) → GivesUpBy (moment view old) (moment view new)
  gives_by known round sealed alone takes =
      let gives : GivesUp (moment view mid) (moment view new) =
      subst (λ (e : EvacOf N D). GivesUp (moment view e) (moment view new)) is (knows_given (moment view inside) (moment view new) logs held order idle none copies known) in record {
        alone = λ e. subst (λ (e : EvacOf N D). GivesUp (moment view e) (moment view new)) (alone e) gives;
        beside = λ e. (view mid.book.near, takes e, subst (λ (x : Moment). GivesUp x (moment view new)) (same_mid round sealed) gives);
      }
    where
      same_mid : SameRound old mid → mid.book.order ≡ old.book.order → moment view mid ≡ record (moment view old) { core = view mid.book.near }
      same_mid (phase, collection, copying) sealed = λ i. record { core = view mid.book.near; order = sealed i; phase = phase i; collection = collection i; copying = copying i }

  pub gives_exactly : view new.book.near ≡ fold unmarked (view inside.book.near) (live_among (view inside.book.near) logs) → mid ≡ old → moment view new ≡ after_aborting (moment view old)
  gives_exactly core same = is_given (moment view inside) (moment view new) logs held order idle none copies core ∙ ap (λ (e : EvacOf N D). after_aborting (moment view e)) (is ∙ same)
