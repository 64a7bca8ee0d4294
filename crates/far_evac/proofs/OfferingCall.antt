-- What a call of the evacuator leaves and asks where copies may be offered: the jobs were collected, and then the logs were walked over.
use Rattle.std.proofs.Common.{◌≡◌, ◌+◌, ℕ, true, false, List, Option, Result, ap, sym, refl, ◌∙◌, subst}
use Rattle.std.specs.Prelude.{if◌then◌else◌}
use Rattle.far_word.specs.declared.refused.Refused.{Refused}
use Rattle.far_word.specs.declared.sizes.TheConstants.{JOBS}
use Rattle.far_device.specs.declared.fault.DeviceFault.{DeviceFault}
use Rattle.far_events.specs.state.State.{State}
use Rattle.far_book.specs.book.BookOf.{BookOf}
use Rattle.far_book.specs.book.Collecting.{Collects}
use Rattle.far_evac.specs.declared.answers.Progress.{Progress}
use Rattle.far_evac.specs.declared.phase.Phase.TheVariants.{Evacuating, Idle}
use Rattle.far_evac.specs.Beside.{AsksOnly, At, CollectsFirst, End, OverLogs, RefusedOnly}
use Rattle.far_evac.specs.BookStands.{stands}
use Rattle.far_evac.specs.ByCopying.{EvacuatesAsking, StopsRefused}
use Rattle.far_evac.specs.Live.{is_empty}
use Rattle.far_evac.specs.Moment.{Moment, nothing, tally_of}
use Rattle.far_evac.specs.Walk.{Walked, begun, ended}
use Rattle.far_evac.proofs.OfferingOver.{logs_to}

module _ {N D : Type 0} (view : N → State) (writes : D → ℕ → List ℕ → Result (Unit {0}) DeviceFault → D → Type 0) (lets_go : D → ℕ → D → Type 0) (contents : D → ℕ → Option (List ℕ))
    (m : Moment) (n count : ℕ) (first : BookOf N D) (counted : Progress) (last : BookOf N D) (progress : Progress) (kept : List ℕ) (end : End) (old : D)
    (collects : Collects m.core JOBS (view first.near) count) (order : first.order ≡ m.order) (phase : m.phase ≡ Evacuating) (copies : m.copying ≡ true)
    (tally : tally_of counted ≡ record nothing { moved = nothing.moved + count }) (device : first.device ≡ old)
    (over : OverLogs D (AsksOnly D writes lets_go contents) (RefusedOnly D writes lets_go contents) m.collection n (stands view first counted m.collection) (stands view last progress m.collection) kept end first.device last.device) where
  abbrev u : Walked
  u = stands view first counted m.collection

  abbrev t : Walked
  t = stands view last progress m.collection

  abbrev pub stood : Walked
  stood = record t { moment = record t.moment { collection = kept } }

  first_is : CollectsFirst (begun m) u
  first_is = (
    count,
    collects,
    λ i. record { moment = record { core = view first.near; order = order i; phase = sym phase i; collection = m.collection; copying = sym copies i }; tally = tally i },
  )

  over_from : OverLogs D (AsksOnly D writes lets_go contents) (RefusedOnly D writes lets_go contents) m.collection n u t kept end old last.device
  over_from = subst (λ (d : D). OverLogs D (AsksOnly D writes lets_go contents) (RefusedOnly D writes lets_go contents) m.collection n u t kept end d last.device) device over

  -- none was refused
  pub asks_all : ((p : ℕ) (why : Refused) → end ≡ At p why → ⊥) → (after : Moment) → after ≡ ended stood → EvacuatesAsking D writes lets_go contents m n after (tally_of progress) old last.device
  asks_all whole after is = record {
    stood = stood;
    end = end;
    walks = (
      u,
      t,
      kept,
      first_is,
      logs_to D (AsksOnly D writes lets_go contents) (RefusedOnly D writes lets_go contents) D (AsksOnly D writes lets_go contents) (λ s p why a b. ⊥) (λ d. d) (λ s p d a b asks. asks) end
          (λ s p why a b at _. absurd (whole p why at)) m.collection n u t kept old last.device over_from,
      refl,
    );
    ends = is;
    counts = refl;
  }

  ended_some : is_empty kept ≡ false → ended stood ≡ stood.moment
  ended_some some = ap (λ b. if b then record stood.moment { phase = Idle } else stood.moment) some

  -- one was
  pub asks_refused : (p : ℕ) (why : Refused) → end ≡ At p why → is_empty kept ≡ false → (after : Moment) → after ≡ ended stood → StopsRefused D writes lets_go contents m n after (tally_of progress) why old last.device
  asks_refused p why at some after is = record {
    stood = stood;
    next = p;
    walks = (
      u,
      t,
      kept,
      first_is,
      subst (λ (e : End). OverLogs D (AsksOnly D writes lets_go contents) (RefusedOnly D writes lets_go contents) m.collection n u t kept e old last.device) at over_from,
      refl,
    );
    stops = is ∙ ended_some some;
    counts = refl;
  }
