-- What owners and copiers do can be told by any core.
use Rattle.std.proofs.Common.{◌≡◌, ◌∙◌, Bool, true, false, ap, refl}
use Rattle.std.specs.Prelude.{◌||◌, not, is_some}
use Rattle.far_events.specs.declared.event.Event.{Event}
use Rattle.far_events.specs.declared.event.Event.TheVariants.{ReadEpoch, Open, Pin, Load, Store, Soil, Close, Adopt, Put, Name, See, Mark, Ask, Get, Clear, Advance, Look, Offer, PeekJob, SeeJob, Claim, ReadLength, Read, Write, Finish, Collect}
use Rattle.far_core.specs.declared.machine.Core.{Core}
use Rattle.far_events.specs.events.Name.{is_naming}
use Rattle.far_core.specs.state.Kept.{keeps_stored, tells}
use Rattle.far_hand.specs.Makers.{is_others}

or_true : (b : Bool) → (b || true) ≡ true
or_true true = refl
or_true false = refl

no_naming : (e : Event) → is_others e ≡ true → is_naming e ≡ false
no_naming (ReadEpoch m) h = refl
no_naming (Open m) h = refl
no_naming (Pin m p) h = refl
no_naming (Load m p i) h = refl
no_naming (Store m p i w) h = refl
no_naming (Soil m p) h = refl
no_naming (Close m) h = refl
no_naming (Adopt m p) h = refl
no_naming (Put l at w) h = refl
no_naming (Name p old new) h = absurd cc
no_naming (See p) h = refl
no_naming (Mark p) h = refl
no_naming (Ask m p k) h = refl
no_naming (Get l at free) h = refl
no_naming (Clear p) h = refl
no_naming (Advance logs) h = refl
no_naming (Look m) h = refl
no_naming (Offer j p to) h = refl
no_naming (PeekJob c j) h = refl
no_naming (SeeJob j) h = refl
no_naming (Claim c j old) h = refl
no_naming (ReadLength c) h = refl
no_naming (Read c i) h = refl
no_naming (Write c i) h = refl
no_naming (Finish c) h = refl
no_naming (Collect j old) h = refl

pub others_told : (core : Core) (e : Event) → is_others e ≡ true → tells core e ≡ true
others_told core e h = ap (λ b. keeps_stored core || not b) (no_naming e h) ∙ or_true (keeps_stored core)
