-- Why a call has no room once its last round was made.
use Rattle.std.proofs.Common.{◌≡◌, ◌≢◌, ℕ, ◌+◌, ◌≤◌, ◌/◌, refl, sym, ap, subst, ◌∙◌, Bool, true, false, cond, Option, Some, None, List, length, Result, Ok, Err, inl, inr}
use Rattle.std.specs.Prelude.{IfErr, IfSome, OnOk}
use Rattle.far_word.specs.declared.pointer.Place.{Place}
use Rattle.far_word.specs.declared.sizes.TheConstants.{CELLS}
use Rattle.far_word.specs.declared.refused.Refused.{Refused}
use Rattle.far_word.specs.declared.refused.Refused.TheVariants.{Damaged, Device, EpochsSpent, Memory, NoRoom}
use Rattle.far_word.specs.Bytes.{bytes_of}
use Rattle.far_word.specs.Pointer.{read_of}
use Rattle.far_word.specs.Sizes.{size_of}
use Rattle.far_word.proofs.ByteLaws.{bytes_of-same}
use Rattle.far_events.specs.state.Law.{Law}
use Rattle.far_events.specs.state.State.{State, addr}
use Rattle.far_core.specs.world.World.{Group}
use Rattle.far_core.specs.world.WorldOf.{object_of, world_of}
use Rattle.far_device.specs.declared.fault.DeviceFault.{DeviceFault}
use Rattle.far_book.specs.book.Asking.{HasBytes, fault_of}
use Rattle.far_evac.specs.Asked.{IsRefusedWrite}
use Rattle.far_evac.specs.Moment.{Moment, Tally}
use Rattle.far_evac.specs.Walk.{Goes, way_of}
use Rattle.far_evac.proofs.Tours.{goes_when}
use Rattle.far_core.specs.state.Room.{free_logs, room}
use Rattle.far_book.specs.book.Dealing.{goal}
use Rattle.far_book.specs.book.Fetching.{RefusesFetch, far_len, room_for}
use Rattle.far_alone.specs.Dereference.{says_near}
use Rattle.far_private.proofs.Coming.{asked_read, asks}
use Rattle.far_private.proofs.TwoFree.{roomy, roomy_goal}
use Rattle.far_private.specs.Causes.{IsNotTaken, IsStuck, IsWant, StaysAway, StaysFar, WhyFar, told}
use Rattle.far_private.specs.Objects.{Object, Objects, Settled, objects_of, known, seen}
use Rattle.far_private.specs.Steps.{Keeps}

-- ---- what is told of a call that was refused before and after its last round
module _ {D : Type 0} (writes : D → ℕ → List ℕ → Result (Unit {0}) DeviceFault → D → Type 0) (s : State) where
  pub told_stuck : (found : Refused) (made : Result (Unit {0}) Refused) → (OnOk made (found ≢ NoRoom)) → IfErr made (λ why. IsStuck D writes s why) → IsStuck D writes s (told found made)
  told_stuck NoRoom (Ok done) room stuck = absurd (room refl)
  told_stuck NoRoom (Err why) room stuck = stuck
  told_stuck _ made room stuck = tt

  pub stuck_before : (t : State) → Keeps s t → (why : Refused) → IsStuck D writes t why → IsStuck D writes s why
  stuck_before t keeps NoRoom stuck = λ many.
      subst (λ (o : Objects). IsNotTaken D writes o.object) keeps.objects (stuck (subst (λ n. 3 ≤ n) (sym (ap (λ (o : Objects). o.logs) keeps.objects)) many))
  stuck_before t keeps _ stuck = tt

pub stuck_err : {D A : Type 0} (writes : D → ℕ → List ℕ → Result (Unit {0}) DeviceFault → D → Type 0) (s t : State) → Keeps s t → (r : Result A Refused) → IfErr r (λ why. IsStuck D writes t why) → IfErr r (λ why. IsStuck D writes s why)
stuck_err writes s t keeps (Ok x) h = tt
stuck_err writes s t keeps (Err why) h = stuck_before writes s t keeps why h

pub told_want : (made : Result (Unit {0}) Refused) → OnOk made ⊥ → IfErr made (λ why. IsWant why) → IsWant (told NoRoom made)
told_want (Ok done) never want = absurd never
told_want (Err why) never want = want

module _ {D : Type 0} (reads : D → ℕ → Result (List ℕ) DeviceFault → D → Type 0) (s : State) (p : ℕ) (device : D) where
  want_far : (why : Refused) → IsWant why → WhyFar D reads s p device NoRoom → WhyFar D reads s p device why
  want_far NoRoom want none = none
  want_far EpochsSpent want none = none
  want_far _ want none = absurd want

  pub told_far : (found : Refused) (made : Result (Unit {0}) Refused) → IfErr made (λ why. IsWant why) → StaysFar D reads s p device found → StaysFar D reads s p device (told found made)
  told_far NoRoom (Err why) want far = record { far = far.far; cause = want_far why want far.cause }
  told_far NoRoom (Ok done) want far = far
  told_far _ made want far = far

  pub told_away : (found : Refused) (made : Result (Unit {0}) Refused) → IfErr made (λ why. IsWant why) → StaysAway D reads s p device found → StaysAway D reads s p device (told found made)
  told_away found made want (inl far) = inl (told_far found made want far)
  told_away NoRoom (Err why) want (inr crowded) = inr record { is = want; near = crowded.near; none = crowded.none }
  told_away NoRoom (Ok done) want (inr crowded) = inr crowded
  told_away _ made want (inr crowded) = inr crowded

-- ---- a write that was refused is of an object's bytes
module _ (s : State) (law : Law s) (p : ℕ) (bytes : List ℕ) (h : HasBytes s p bytes) (goes : way_of s (read_of (s.cell p)) ≡ Goes) where
  alive : h.marks.dropped ≡ false
  alive = goes_when h.marks.dropped h.marks.hot (room s (size_of h.len) false) (sym (ap (way_of s) h.near) ∙ goes)

  abbrev all : List ℕ
  all = bytes_of (λ i. s.word (addr h.place + 1 + i)) h.len

  bytes_are : bytes ≡ all
  bytes_are = h.are ∙ bytes_of-same h.row (λ i. s.word (addr h.place + 1 + i)) h.len (λ i lt. h.own i lt (law.spans.word_fits (addr h.place + 1 + i)))

  abbrev its : Object
  its = record { len = length all; ds = h.ds; bytes = known s.honest all }

  found : (objects_of s).object p ≡ Some its
  unfolding world_of
  found = ap (λ o. seen s.honest (object_of s.word (s.stored p) p o)) h.near ∙ ap (λ b. seen s.honest (cond b None (Some record { owner = p / CELLS; ds = h.ds; bytes = all; home = Group h.place.log }))) alive

  known_own : (b : Bool) → IfSome (known b all) (λ xs. bytes ≡ xs)
  known_own true = bytes_are
  known_own false = tt

  pub not_taken : {D : Type 0} (writes : D → ℕ → List ℕ → Result (Unit {0}) DeviceFault → D → Type 0) (before after : D) (fault : DeviceFault) → writes before p bytes (Err fault) after → IsNotTaken D writes (objects_of s).object
  not_taken writes before after fault asked = record { pointer = p; is = its; found = found; bytes = bytes; long = ap length bytes_are; own = known_own s.honest; before = before; fault = fault; after = after; refused = asked }

-- as a walk tells it that was refused
pub write_refused : {D : Type 0} (writes : D → ℕ → List ℕ → Result (Unit {0}) DeviceFault → D → Type 0) (lets_go : D → ℕ → D → Type 0) (m t : Moment) (tally : Tally) (why : Refused) (old new : D) → Law t.core →
    IsRefusedWrite (Unit {0}) D writes lets_go m t tally why old new → IsNotTaken D writes (objects_of t.core).object
write_refused {D} writes lets_go m t tally why old new law r =
    let same : t.core ≡ r.stood.moment.core = ap (λ (x : Moment). x.core) (r.exact tt) in
    let s : State = r.stood.moment.core in
    let goes : way_of s (read_of (s.cell r.next)) ≡ Goes = ap (λ w. way_of s (read_of w)) (sym (r.owed.exact tt)) ∙ r.owed.goes in
    subst (λ (x : State). IsNotTaken D writes (objects_of x).object) (sym same)
    (not_taken s (subst Law same law) r.next r.write.0 r.write.1 goes writes r.between new (fault_of why) r.write.2)

-- ---- where two logs are free neither a fetch nor a move wants room
room_wanted : (honest : Bool) (why : Refused) (o : Option Place) → RefusesFetch why o honest → why ≡ NoRoom → o ≡ None
room_wanted honest NoRoom o h e = h
room_wanted honest Memory o h e = absurd cc
room_wanted honest Device o h e = absurd cc
room_wanted honest Damaged o h e = absurd cc
room_wanted honest _ o h e = absurd h

pub fetch_roomy : (s : State) (p : ℕ) (why : Refused) (honest : Bool) → RefusesFetch why (room_for s p) honest → 2 ≤ length (free_logs s) → why ≢ NoRoom
fetch_roomy s p why honest h two e = roomy s (size_of (far_len (read_of (s.cell p)))) true two (room_wanted honest why (room_for s p) h e)

pub move_roomy : (s : State) (p : ℕ) (law : Law s) (settled : Settled s) (used : s.used p ≡ true) (near : says_near (read_of (s.cell p)) ≡ true) (v : State) (why : Refused) → v ≡ asks s p law settled used near → goal v p ≡ None →
    2 ≤ length (free_logs s) → why ≢ NoRoom
move_roomy s p law settled used near v why is none two e =
    roomy_goal (asks s p law settled used near) p (ap says_near (asked_read s p law settled used near)) two (ap (λ (x : State). goal x p) (sym is) ∙ none)
