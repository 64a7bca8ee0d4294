-- What a refused call leaves of the book.
use Rattle.std.proofs.Common.{◌≡◌, ℕ, Bool, true, Option, Some, None, List, Result, Ok, Err, ap, refl, subst, sym, ◌∙◌}
use Rattle.std.specs.Prelude.{IfErr}
use Rattle.far_word.specs.declared.pointer.Place.{Place}
use Rattle.far_word.specs.declared.pointer.PtrWord.{PtrWord}
use Rattle.far_word.specs.declared.pointer.PtrWord.TheVariants.{Free, Near, Far}
use Rattle.far_word.specs.declared.refused.Refused.{Refused}
use Rattle.far_word.specs.declared.refused.Refused.TheVariants.{Damaged, Device, Memory, NoRoom}
use Rattle.far_word.specs.Pointer.{read_of}
use Rattle.far_device.specs.declared.fault.DeviceFault.{DeviceFault}
use Rattle.far_device.specs.declared.fault.DeviceFault.TheVariants as fault
use Rattle.far_events.specs.declared.event.Event.TheVariants.{See}
use Rattle.far_events.specs.declared.event.Reply.TheVariants.{Word}
use Rattle.far_events.specs.state.State.{State, put}
use Rattle.far_events.proofs.Put.{put_same}
use Rattle.far_hand.specs.Came.{Came}
use Rattle.far_hand.specs.Finds.{Finds, body_of}
use Rattle.far_hand.proofs.Closure.{first_call, then_came}
use Rattle.far_hand.proofs.Finding.{finds_more}
use Rattle.far_table.specs.declared.book.BookSeat.{BookSeat}
use Rattle.far_table.specs.BookSeats.{seat_makes}
use Rattle.far_book.specs.book.Asking.{AsksToFetch}
use Rattle.far_book.specs.book.BookOf.{BookOf}
use Rattle.far_book.specs.book.Dealing.{IsSeen}
use Rattle.far_book.specs.book.Fetching.{far_len}
use Rattle.far_book.proofs.region.Calls.{put_put}
use Rattle.far_evac.specs.EvacOf.{EvacOf, SameRound}
use Rattle.far_heap.specs.BookHad.{AsksInVain, LeavesIt}
use Rattle.far_heap.specs.Helping.{FetchesIt, Looks, MovesIt, OnlyFinds, cell_in, core_of, says_far}

-- ---- one cell
-- a word that was found says far where the one known did, and the same length
far_of_body : (o : Option PtrWord) → says_far (body_of o) ≡ says_far o
far_of_body None = refl
far_of_body (Some Free) = refl
far_of_body (Some (Near n d at m)) = refl
far_of_body (Some (Far n d m)) = refl

len_of_body : (o : Option PtrWord) → far_len (body_of o) ≡ far_len o
len_of_body None = refl
len_of_body (Some Free) = refl
len_of_body (Some (Near n d at m)) = refl
len_of_body (Some (Far n d m)) = refl

far_found : (v w : ℕ) → Finds v w → says_far (read_of w) ≡ says_far (read_of v)
far_found v w finds = sym (far_of_body (read_of w)) ∙ ap (λ (o : Option PtrWord). says_far o) finds.body ∙ far_of_body (read_of v)

len_found : (v w : ℕ) → Finds v w → far_len (read_of w) ≡ far_len (read_of v)
len_found v w finds = sym (len_of_body (read_of w)) ∙ ap (λ (o : Option PtrWord). far_len o) finds.body ∙ len_of_body (read_of v)

-- a state with one cell as it was found, and then found again
kept_more : (s t u : State) (p : ℕ) → t ≡ record s { cell = put s.cell p (t.cell p) } → u ≡ record t { cell = put t.cell p (u.cell p) } → u ≡ record s { cell = put s.cell p (u.cell p) }
kept_more s t u p first since =
    since ∙ ap (λ (x : State). record x { cell = put x.cell p (u.cell p) }) first ∙ ap (λ (f : ℕ → ℕ). record s { cell = f }) (put_put s.cell p (t.cell p) (u.cell p))

module _ (s t : State) (p : ℕ) (seen : IsSeen s t p) where
  cell_seen : t.cell p ≡ seen.word
  cell_seen = ap (λ (x : State). x.cell p) seen.leads ∙ put_same s.cell p seen.word p refl

  found_seen : Finds (s.cell p) (t.cell p)
  found_seen = subst (Finds (s.cell p)) (sym cell_seen) seen.found

  kept_seen : t.word ≡ s.word → t ≡ record s { cell = put s.cell p (t.cell p) }
  kept_seen words =
      seen.leads ∙ ap (λ (x : ℕ). record s { cell = put s.cell p x; word = t.word }) (sym cell_seen) ∙ ap (λ (f : ℕ → ℕ). record s { cell = put s.cell p (t.cell p); word = f }) words

-- ---- the book
module _ {D : Type 0} where
  look_finds : (e f : EvacOf (BookSeat D) D) (p : ℕ) → Looks e f p → OnlyFinds e f p
  look_finds e f p l = record {
    came = first_call (See p) (Word ((core_of f).cell p)) l.made;
    found = l.found;
    kept = l.kept;
    order = l.order;
    round = l.round;
  }

  seen_finds : (e f : EvacOf (BookSeat D) D) (p : ℕ) → Came seat_makes e.book.near f.book.near → IsSeen (core_of e) (core_of f) p → (core_of f).word ≡ (core_of e).word → f.book.order ≡ e.book.order → SameRound e f → OnlyFinds e f p
  seen_finds e f p came seen words order round = record {
    came = came;
    found = found_seen (core_of e) (core_of f) p seen;
    kept = kept_seen (core_of e) (core_of f) p seen words;
    order = order;
    round = round;
  }

  finds_since : (e f g : EvacOf (BookSeat D) D) (p : ℕ) → OnlyFinds e f p → OnlyFinds f g p → OnlyFinds e g p
  finds_since e f g p a b = record {
    came = then_came a.came b.came;
    found = finds_more ((core_of e).cell p) ((core_of f).cell p) ((core_of g).cell p) a.found b.found;
    kept = kept_more (core_of e) (core_of f) (core_of g) p a.kept b.kept;
    order = b.order ∙ a.order;
    round = (b.round.0 ∙ a.round.0, b.round.1 ∙ a.round.1, b.round.2 ∙ a.round.2);
  }

-- ---- after a look
module _ {D : Type 0} (reads : D → ℕ → Result (List ℕ) DeviceFault → D → Type 0) (e a : EvacOf (BookSeat D) D) (p : ℕ) (looks : Looks e a p) where
  -- the device was asked for an object that the look found far
  module _ (lets_go : D → ℕ → D → Type 0) (f : EvacOf (BookSeat D) D) (far : says_far (cell_in a p) ≡ true) (since : OnlyFinds a f p) where
    far_before : says_far (cell_in e p) ≡ true
    far_before = sym (far_found ((core_of e).cell p) ((core_of a).cell p) looks.found) ∙ far

    far_still : says_far (cell_in f p) ≡ true
    far_still = far_found ((core_of a).cell p) ((core_of f).cell p) since.found ∙ far

    in_vain : (why : Refused) → AsksToFetch D reads lets_go ⊥ (core_of a) (core_of f) p (Err why) a.book.device f.book.device → AsksInVain reads p why e f
    in_vain NoRoom asked = asked ∙ looks.device
    in_vain Memory asked = (far_before, far_still, subst (λ (d : D). reads d p (Err fault.Memory) f.book.device) looks.device asked)
    in_vain Device asked = (far_before, far_still, subst (λ (d : D). reads d p (Err fault.Device) f.book.device) looks.device asked)
    in_vain Damaged (bytes, gave, other) = (
      far_before,
      far_still,
      (
        bytes,
        subst (λ (d : D). reads d p (Ok bytes) f.book.device) looks.device gave,
        λ is. other (is ∙ sym (len_found ((core_of e).cell p) ((core_of a).cell p) looks.found)),
      ),
    )
    in_vain why asked = absurd asked

  module _ (contents : D → ℕ → Option (List ℕ)) (is_honest : D → Bool) (faults : D → ℕ) (fails_at_most : D → ℕ → Type 0) (lets_go : D → ℕ → D → Type 0) (forgets : Type 0) (f : EvacOf (BookSeat D) D) where
    -- a fetch was refused
    pub fetch_leaves : says_far (cell_in a p) ≡ true → (reads_in_place : Type 0) (answer : Result (Option Place) Refused) →
        FetchesIt contents is_honest faults fails_at_most lets_go forgets reads reads_in_place a f p answer → IfErr answer (λ why. LeavesIt reads p why e f)
    fetch_leaves far in_place (Ok place) did = tt
    fetch_leaves far in_place (Err why) did =
        let x = did.fetched in
        let since = seen_finds a f p x.came x.seen x.kept x.shut did.round in
        record { book = finds_since e a f p (look_finds e a p looks) since; asked = in_vain lets_go f far since why x.called }

    -- or, after another look, a move
    move_left : (b : EvacOf (BookSeat D) D) → Looks a b p → (answer : Result (Option Place) Refused) →
        MovesIt contents is_honest faults fails_at_most lets_go forgets b f p answer → IfErr answer (λ why. LeavesIt reads p why e f)
    move_left b again (Ok place) did = tt
    move_left b again (Err why) did =
        let x = did.moved in
        let room : why ≡ NoRoom = x.refused in
        let order : f.book.order ≡ b.book.order = ap (λ (k : BookOf (BookSeat D) D). k.order) x.kept in
        let device : f.book.device ≡ b.book.device = ap (λ (k : BookOf (BookSeat D) D). k.device) x.kept in
        let since = seen_finds b f p x.came x.seen x.words order did.round in
        let here : LeavesIt reads p NoRoom e f =
        record { book = finds_since e a f p (look_finds e a p looks) (finds_since a b f p (look_finds a b p again) since); asked = device ∙ again.device ∙ looks.device } in
        subst (λ (w : Refused). LeavesIt reads p w e f) (sym room) here

    pub move_leaves : (q : ℕ) → q ≡ p → (b : EvacOf (BookSeat D) D) → Looks a b q → (answer : Result (Option Place) Refused) →
        MovesIt contents is_honest faults fails_at_most lets_go forgets b f q answer → IfErr answer (λ why. LeavesIt reads p why e f)
    move_leaves q is b again answer did =
        move_left b (subst (λ (n : ℕ). Looks a b n) is again) answer (subst (λ (n : ℕ). MovesIt contents is_honest faults fails_at_most lets_go forgets b f n answer) is did)
