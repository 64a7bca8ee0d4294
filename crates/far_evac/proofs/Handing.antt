-- The calls of the book that are handed on leave the round as it stands.
use Rattle.std.proofs.Common.{◌≡◌, ℕ, ◌*◌, ◌<◌, ◌≤◌, Bool, true, false, cond, Option, Some, None, Result, Ok, Err, IfOk, IfErr, IfSome, IfNone, ap, sym, refl, ◌∙◌, subst}
use Rattle.std.proofs.lemmas.Bool.{false_from_ne_true}
use Rattle.far_word.specs.declared.pointer.Place.{Place}
use Rattle.far_word.specs.declared.refused.Refused.{Refused}
use Rattle.far_word.specs.declared.sizes.TheConstants.{CELLS, LONGEST}
use Rattle.far_word.specs.Pointer.{read_of}
use Rattle.far_word.specs.Sizes.{size_of}
use Rattle.far_events.specs.events.Naming.{is_dropped}
use Rattle.far_events.specs.state.Law.{Law}
use Rattle.far_core.specs.state.Room.{room}
use Rattle.far_events.specs.state.State.{State, put}
use Rattle.far_hand.specs.Finds.{Finds}
use Rattle.far_hand.specs.Known.{Forgets}
use Rattle.far_book.specs.book.Dealing.{IsRetired, IsSeen, MovedBy, goal, has_evac, moved_now}
use Rattle.far_hand.specs.Quiet.{IsQuietNear}
use Rattle.far_book.specs.book.Effects.{fetched, moved, placed, retired, stayed, with_free_cell}
use Rattle.far_book.specs.book.Fetching.{IsFar, IsFetched, far_len, room_for}
use Rattle.far_book.specs.book.Own.{own_part}
use Rattle.far_book.specs.book.Renaming.{seen}
use Rattle.far_book.specs.book.SealedLogs.{KeepsSealed}
use Rattle.far_hand.proofs.RoundSteps.{quiet_seen}
use Rattle.far_events.proofs.Put.{put_same}
use Rattle.far_book.proofs.region.Founds.{law_found}
use Rattle.far_book.proofs.region.Moved.{goal_there, has_moved}
use Rattle.far_book.proofs.region.Settled.{goal_seen}
use Rattle.far_book.proofs.region.Retires.{retired_is}
use Rattle.far_book.proofs.region.SealedKept.{sealed_logs_kept}
use Rattle.far_evac.specs.declared.round.Round.{Round}
use Rattle.far_evac.specs.AnyHand.{Knows}
use Rattle.far_evac.specs.Standing.{IsSound}
use Rattle.far_evac.proofs.Framed.{fetched_one, moved_now_one, placed_one}
use Rattle.far_evac.proofs.Hands.{knows_forgotten, knows_left, knows_more, knows_seen, knows_spans, knows_words}
use Rattle.far_evac.proofs.Sound.{sound_called, sound_found}

-- where nothing was done, the state is the same
pub none_then : {A B : Type 0} → (result : Result A Refused) (view : B → State) (old new : B) → IfErr result (λ _. new ≡ old) → IfErr result (λ _. view new ≡ view old)
none_then (Ok x) view old new h = tt
none_then (Err why) view old new h = ap view h

-- a word was found in a cell
pub cell_found : {still : Type 0} (s t : State) {copying : Bool} (r : Round) → IsSound still s copying r → (p word : ℕ) → Finds (s.cell p) word → t ≡ record s { cell = put s.cell p word } → IsSound still t copying r
cell_found s t r sound p word finds is = sound_found s t r sound (subst (Knows s) (sym is) (knows_seen s p word finds))

-- a quiet near object moves, or stays
module _ (s : State) (p : ℕ) (q : IsQuietNear s p) (old : Law (own_part s)) where
  moves_to : (place : Place) → (wanted : Bool) → q.marks.evac ≡ wanted → q.marks.dropped ≡ false → goal s p ≡ Some place → KeepsSealed s (moved_now s p place)
  moves_to place true evac alive found =
      let is : moved_now s p place ≡ moved s p place = ap (λ b. cond b (moved s p place) (stayed s p)) (ap has_evac q.near ∙ evac) in
      subst (KeepsSealed s) (sym is)
      ((sealed_logs_kept s p q.len q.ds old).moves q.place place q.marks q.near evac alive (sym (goal_there s p q q.len q.ds q.place q.marks q.near evac) ∙ found))
  moves_to place false evac alive found =
      let is : moved_now s p place ≡ stayed s p = ap (λ b. cond b (moved s p place) (stayed s p)) (ap has_evac q.near ∙ evac) in
      subst (KeepsSealed s) (sym is)
      ((sealed_logs_kept s p q.len q.ds old).stays q.place q.marks q.near evac (has_moved s p q q.len q.ds q.place q.marks q.near evac) alive)

module _ {steady : Type 0} (s t : State) {copying : Bool} (r : Round) (sound : IsSound steady s copying r) (law : Law (own_part t)) where
  -- words were read
  pub spans_read : t ≡ record s { word = t.word } → ((a : ℕ) → s.starts a ≡ true → t.word a ≡ s.word a) → IsSound steady t copying r
  spans_read is headers = sound_found s t r sound (knows_words s t is headers law)

  -- a word was found in a cell, and words were read
  pub cell_seen : (p : ℕ) → IsSeen s t p → IsSound steady t copying r
  cell_seen p h =
      let first = knows_seen s p h.word h.found in
      let then = knows_words (seen s p h.word) t h.leads (λ a begun. h.keeps.headers a (ap (λ (u : State). u.starts a) h.leads ∙ begun)) law in
      sound_found s t r sound (knows_more s (seen s p h.word) t first then)

  -- a dropped object was retired, at once or where a DROP was found
  pub object_ended : (p : ℕ) → is_dropped (read_of (s.cell p)) ≡ true → t ≡ record (retired s p) { word = t.word } → Forgets s t → Law (own_part s) → IsSound steady t copying r
  object_ended p dropped is forgot old =
      let made = with_free_cell s p in
      let leads : t ≡ record made { word = t.word } = is ∙ ap (λ (u : State). record u { word = t.word }) (retired_is s p dropped) in
      sound_called s t r sound made old (sealed_logs_kept s p 0 0 old).ends refl (knows_forgotten made t leads record { known = forgot.known; headers = forgot.headers } law)

  pub object_retired : (still : Type 0) (p : ℕ) → IsRetired still s t p → Law (own_part s) → IsSound steady t copying r
  object_retired still p h old = sound_called s t r sound (with_free_cell s p) old (sealed_logs_kept s p 0 0 old).ends refl (knows_spans (with_free_cell s p) t h.leaves law)

  -- a new object was placed, or none
  pub object_placed : (p len ds : ℕ) → Law (own_part s) → p < CELLS * s.mutators → s.cell p ≡ 0 → 0 < len → len ≤ LONGEST → ds < 256 → (result : Result Place Refused) →
      IfOk result (λ place. room s (size_of len) true ≡ Some place) → IfOk result (λ place. t ≡ record (placed s p len ds place) { word = t.word }) →
      IfOk result (λ place. Forgets (placed s p len ds place) t) → IfErr result (λ _. t ≡ s) → IsSound steady t copying r
  object_placed p len ds old pointer free some most structure (Ok place) found kept forgot none =
      sound_called s t r sound (placed s p len ds place) old ((sealed_logs_kept s p len ds old).places place free pointer some most structure found) (placed_one s p len ds place).frame (knows_forgotten (placed s p len ds place) t kept forgot law)
  object_placed p len ds old pointer free some most structure (Err why) found kept forgot none = subst (λ (u : State). IsSound steady u copying r) (sym none) sound

  -- a quiet near object has moved, or stayed, by a word that was found; or it was retired; or nothing was done
  pub object_moved : (p : ℕ) → IsQuietNear s p → Law (own_part s) → (still : Type 0) (result : Result (Option Place) Refused) →
      IfOk result (λ o. IfSome o (λ place. goal s p ≡ Some place)) → IfOk result (λ o. IfSome o (λ place. MovedBy s t p place)) →
      IfOk result (λ o. IfNone o (IsRetired still s t p)) → IfErr result (λ _. IsSeen s t p) → IsSound steady t copying r
  object_moved p q old still (Ok (Some place)) found moved gone looked =
      let w = moved.word in
      let then = seen s p w in
      let quiet = quiet_seen s p w moved.found q in
      let law' = law_found s old p w moved.fits moved.found in
      let sound' = sound_found s then r sound (knows_seen s p w moved.found) in
      let alive : quiet.marks.dropped ≡ false = sym (ap is_dropped quiet.near) ∙ ap (λ v. is_dropped (read_of v)) (put_same s.cell p w p refl) ∙ moved.alive in
      sound_called then t r sound' (moved_now then p place) law' (moves_to then p quiet law' place quiet.marks.evac refl alive (goal_seen s p w moved.found ∙ found))
      (moved_now_one then p place).frame (knows_left (moved_now then p place) t moved.leaves law)
  object_moved p q old still (Ok None) found moved gone looked = object_retired still p gone old
  object_moved p q old still (Err why) found moved gone looked = cell_seen p looked

  -- a far object has come near; or it was retired; or nothing was done
  pub object_fetched : (p : ℕ) → (far : IsFar s p) → Law (own_part s) → (still : Type 0) (is_honest : Bool) (result : Result (Option Place) Refused) →
      (is_dropped (read_of (s.cell p)) ≡ true → result ≡ Ok None) → IfOk result (λ o. IfSome o (λ place. room_for s p ≡ Some place)) →
      IfOk result (λ o. IfSome o (λ place. IsFetched still is_honest s t p place)) → IfOk result (λ o. IfNone o (IsRetired still s t p)) → IfErr result (λ _. IsSeen s t p) → IsSound steady t copying r
  object_fetched p far old still is_honest (Ok (Some place)) asked found comes gone seen =
      let alive : far.marks.dropped ≡ false = false_from_ne_true far.marks.dropped (λ dropped. let odd : Ok (Some place) ≡ Ok None = asked (ap is_dropped far.far ∙ dropped) in absurd cc) in
      let there : room s (size_of far.len) true ≡ Some place = sym (room_far far) ∙ found in
      let made = fetched s p place comes.row in
      sound_called s t r sound made old ((sealed_logs_kept s p far.len far.ds old).comes place far.marks comes.row far.far alive there) (fetched_one s p place comes.row).frame (knows_forgotten made t comes.kept comes.forgot law) where
        room_far : (h : IsFar s p) → room_for s p ≡ room s (size_of h.len) true
        room_far h = ap (λ o. room s (size_of (far_len o)) true) h.far
  object_fetched p far old still is_honest (Ok None) asked found comes gone seen = object_retired still p gone old
  object_fetched p far old still is_honest (Err why) asked found comes gone seen = cell_seen p seen
