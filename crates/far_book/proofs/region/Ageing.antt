-- The book's calls seal logs behind those that were sealed before.
use Rattle.std.proofs.Common.{◌≡◌, ◌∙◌, ℕ, ap, refl}
use Rattle.far_events.specs.declared.event.Kind.{Kind}
use Rattle.far_events.specs.declared.event.Kind.TheVariants.{Open, Sealed}
use Rattle.far_events.specs.events.Offer.{after_offer}
use Rattle.far_events.specs.state.State.{put}
use Rattle.far_events.proofs.Put.{put_other, put_same}
use Rattle.far_book.specs.book.Ages.{FetchingSealsBehind, MovingSealsBehind, OfferingSealsBehind, PlacingSealsBehind}
use Rattle.far_book.specs.book.Effects.{fetched, moved, placed}
use Rattle.far_book.specs.book.Offering.{offered, offered_of, with_ends}
use Rattle.far_book.proofs.region.ByAge.{seals_behind}
use Rattle.far_book.proofs.region.MovesReached.{moving}
use Rattle.far_book.proofs.region.Reaching.{placing_legal}
use Rattle.far_book.proofs.region.ReachingFar.{fetching}

pub placing_seals : PlacingSealsBehind
placing_seals s p len ds place order law mine free some most structure found =
    let is = (placing_legal s p len ds place law mine free some most structure found).3 in
    seals_behind s (placed s p len ds place) law place is.opens is.seals is.kinds order

pub fetching_seals : FetchingSealsBehind
fetching_seals s p len ds marks place row order law far alive found stored same =
    let is = (fetching s p len ds marks place row law far alive found stored same).3 in
    seals_behind s (fetched s p place row) law place is.opens is.seals is.kinds order

pub moving_seals : MovingSealsBehind
moving_seals s p len ds from to marks order law near quiet alive wanted found =
    let is = (moving s p len ds from to marks law near quiet alive wanted found).3 in
    seals_behind s (moved s p to) law to is.opens is.seals is.kinds order

pub offering_seals : OfferingSealsBehind
offering_seals s j p len ds from to marks order law near =
    let kinds : (offered s j p to).kind ≡ put (put s.kind s.current Sealed) to.log Open = ap (λ o. (offered_of s j p to o).kind) near ∙ ap (λ o. (after_offer (with_ends s p len ds to) j p to o).kind) near in
    seals_behind s (offered s j p to) law to (ap (λ (f : ℕ → Kind). f to.log) kinds ∙ put_same (put s.kind s.current Sealed) to.log Open to.log refl)
    (λ l ne is. ap (λ (f : ℕ → Kind). f l) kinds ∙ put_other (put s.kind s.current Sealed) to.log Open l ne ∙ put_same s.kind s.current Sealed l (law.logs.one_open l is))
    (λ l ne shut. ap (λ (f : ℕ → Kind). f l) kinds ∙ put_other (put s.kind s.current Sealed) to.log Open l ne ∙ put_other s.kind s.current Sealed l (λ e. shut (ap s.kind e ∙ law.logs.is_open))) order
