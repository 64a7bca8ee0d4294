-- The sealed logs stand in the order in which they were sealed, oldest first.
use Rattle.std.specs.Prelude.{◌≡◌, ◌≢◌, ◌↔◌, ℕ, ◌*◌, ◌<◌, ◌≤◌, true, false, eqb, Some, List, ◌∷◌, ◌++◌, Contains}
use Rattle.std.specs.List.{IsDistinct}
use Rattle.far_word.specs.declared.mark.Marks.{Marks}
use Rattle.far_word.specs.declared.pointer.Place.{Place}
use Rattle.far_word.specs.declared.pointer.PtrWord.TheVariants.{Near, Far}
use Rattle.far_word.specs.declared.sizes.TheConstants.{CELLS, LONGEST}
use Rattle.far_word.specs.Pointer.{read_of}
use Rattle.far_word.specs.Sizes.{size_of, words_for}
use Rattle.far_events.specs.declared.event.Kind.TheVariants.{Sealed}
use Rattle.far_events.specs.events.Copies.{Alike}
use Rattle.far_events.specs.events.Quiet.{is_quiet}
use Rattle.far_events.specs.state.Law.{Law, IsStored}
use Rattle.far_core.specs.state.Room.{room}
use Rattle.far_events.specs.state.State.{State}
use Rattle.far_book.specs.book.Effects.{fetched, moved, order_after, placed}
use Rattle.far_book.specs.book.Offering.{offered}
use Rattle.far_book.specs.book.Releasing.{order_without}

-- from s to t a list of logs stays in front as it was, and behind it stand those that were sealed meanwhile, and no other
pub record SealsBehind (s t : State) (before after : List ℕ) : Type 0 where
  pub newly : List ℕ
  pub behind : after ≡ before ++ newly
  pub sealed : (l : ℕ) → Contains newly l ↔ ((s.kind l ≢ Sealed) × (t.kind l ≡ Sealed))

abbrev pub PlacingSealsBehind : Type 0
PlacingSealsBehind = (s : State) (p len ds : ℕ) (place : Place) (order : List ℕ) → Law s → p < CELLS * s.mutators → s.cell p ≡ 0 → 0 < len → len ≤ LONGEST → ds < 256 →
    room s (size_of len) true ≡ Some place → SealsBehind s (placed s p len ds place) order (order_after s order place)

abbrev pub FetchingSealsBehind : Type 0
FetchingSealsBehind = (s : State) (p len ds : ℕ) (marks : Marks) (place : Place) (row : ℕ → ℕ) (order : List ℕ) → Law s → read_of (s.cell p) ≡ Some (Far len ds marks) → marks.dropped ≡ false →
    room s (size_of len) true ≡ Some place → IsStored row len → (s.honest ≡ true → Alike row (s.stored p) (words_for len)) → SealsBehind s (fetched s p place row) order (order_after s order place)

abbrev pub MovingSealsBehind : Type 0
MovingSealsBehind = (s : State) (p len ds : ℕ) (from to : Place) (marks : Marks) (order : List ℕ) → Law s → read_of (s.cell p) ≡ Some (Near len ds from marks) → is_quiet s.round s.clear p from marks ≡ true →
    marks.dropped ≡ false → marks.evac ≡ true → room s (size_of len) false ≡ Some to → SealsBehind s (moved s p to) order (order_after s order to)

abbrev pub OfferingSealsBehind : Type 0
OfferingSealsBehind = (s : State) (j p len ds : ℕ) (from to : Place) (marks : Marks) (order : List ℕ) → Law s → read_of (s.cell p) ≡ Some (Near len ds from marks) →
    SealsBehind s (offered s j p to) order (order_after s order to)

-- without a log, the older and the younger ones stand as they stood
abbrev pub WithoutKeepsAges : Type 0
WithoutKeepsAges = (l : ℕ) (older younger : List ℕ) → IsDistinct eqb (older ++ l ∷ younger) → order_without l (older ++ l ∷ younger) ≡ older ++ younger
