-- A book that places an object makes what the definition of a new object says.
use Rattle.std.proofs.Common.{◌≡◌, ℕ, ◌<◌, ◌≤◌, ◌∷◌, [], true, not, ◌&&◌, nat_lt, nat_le, Option, Some, is_some, arith, refl, sym, ap, ◌∙◌}
use Rattle.std.proofs.lemmas.Bool.Decides.{nat_tests}
use Rattle.far_word.specs.declared.pointer.Place.{Place}
use Rattle.far_word.specs.declared.pointer.PtrWord.TheVariants.{Near}
use Rattle.far_word.specs.declared.refused.Refused.TheVariants.{NoPointer, NoRoom}
use Rattle.far_word.specs.declared.sizes.TheConstants.{LONGEST}
use Rattle.far_word.specs.Sizes.{size_of}
use Rattle.far_word.proofs.PointerLaws.{read_back}
use Rattle.far_events.specs.declared.event.Event.TheVariants.{Adopt}
use Rattle.far_events.specs.declared.event.Reply.{Reply}
use Rattle.far_events.specs.events.Naming.{unmarked}
use Rattle.far_events.specs.events.Step.{step_of}
use Rattle.far_events.specs.state.Law.{Law}
use Rattle.far_core.specs.state.Room.{room}
use Rattle.far_events.specs.state.State.{State}
use Rattle.far_book.specs.book.Effects.{placed, near_word}
use Rattle.far_book.specs.book.Ledger.{IsLowestFree}
use Rattle.far_text.specs.Command.{Mutator, New}
use Rattle.far_replay.specs.Moment.{moment_of}
use Rattle.far_alone.specs.Objects.{lowest_cell}
use Rattle.far_replay.specs.Turn.{with_new, refusal, first_cause}
use Rattle.far_replay.proofs.NewTurns.{object_is, placed_end}
use Rattle.far_replay.proofs.Turns.{room_next}

-- a new object in range is refused for want of a cell or of room alone
pub new_refusal : (s : State) (m len ds : ℕ) (o : Option ℕ) (r : Option Place) → m < s.mutators → ds < 256 → 0 < len → len ≤ LONGEST → lowest_cell s m ≡ o → room s (size_of len) true ≡ r →
    refusal (moment_of s) (Mutator m (New len ds)) ≡ first_cause ((not (is_some o), NoPointer) ∷ (not (is_some r), NoRoom) ∷ [])
new_refusal s m len ds o r within structure some most cell space =
    let known : (nat_lt m s.mutators && nat_lt ds 256) ≡ true = grind (arith, nat_tests) in
    let long : (nat_lt 0 len && nat_le len LONGEST) ≡ true = grind (arith, nat_tests) in
    rw (known, long, cell, space) refl

-- an object that is placed and then adopted is a new object
pub object_made : (s t u : State) (r : Reply) (m p len ds : ℕ) (place : Place) → Law s → m < s.mutators → IsLowestFree s m (Some p) → 0 < len → len ≤ LONGEST → ds < 256 →
    room s (size_of len) true ≡ Some place → t ≡ placed s p len ds place → (u, r) ≡ step_of t (Adopt m p) →
    u ≡ with_new s m len ds (Some p) (room s (size_of len) true)
object_made s t u r m p len ds place law within lowest some most structure found is adopted =
    let there = room_next s (size_of len) place law (omega arith) found in
    let reads = read_back (Near len ds place (unmarked true)) (some, most, structure, omega (arith, there.next.0, law.shape.few_logs), there.fits) in
    ap (λ (x : State × Reply). x.0) adopted ∙ ap (λ x. (step_of x (Adopt m p)).0) is
    ∙ placed_end s law m p len ds (near_word true len ds place) place within (omega (arith, lowest.0)) (omega (arith, lowest.0)) lowest.1 some most structure there.next there.fits there.here reads refl
    ∙ sym (object_is s law m p len ds (near_word true len ds place) place within (omega (arith, lowest.0)) (omega (arith, lowest.0)) lowest.1 some most structure there.next there.fits there.here reads refl)
    ∙ sym (ap (with_new s m len ds (Some p)) found)
