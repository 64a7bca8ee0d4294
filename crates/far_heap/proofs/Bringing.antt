-- What the book brought, and that it did so by calls of its hand.
use Rattle.std.proofs.Common.{◌≡◌, ◌⊎◌, ℕ, Bool, true, false, Option, Some, None, is_some, List, Result, Ok, inl, inr, refl, sym, subst, ◌∙◌}
use Rattle.std.proofs.lemmas.Bool.{false≢true}
use Rattle.far_word.specs.declared.pointer.Place.{Place}
use Rattle.far_word.specs.declared.refused.Refused.{Refused}
use Rattle.far_device.specs.declared.fault.DeviceFault.{DeviceFault}
use Rattle.far_events.specs.declared.event.Event.TheVariants.{See}
use Rattle.far_events.specs.declared.event.Reply.TheVariants.{Word}
use Rattle.far_events.specs.events.Naming.{is_dropped}
use Rattle.far_hand.specs.Came.{Came}
use Rattle.far_hand.proofs.Closure.{first_call, then_came}
use Rattle.far_table.specs.declared.book.BookSeat.{BookSeat}
use Rattle.far_table.specs.BookSeats.{seat_makes}
use Rattle.far_evac.specs.EvacOf.{EvacOf}
use Rattle.far_heap.specs.Helping.{Brings, BringsSo, FetchesIt, IsBrought, Looks, LooksAndRetires, MovesIt, asks_move, cell_in, core_of, says_far}

ok_is : (r b : Bool) (x : Result Bool Refused) → x ≡ Ok r → x ≡ Ok b → r ≡ b
ok_is r b x e f = cc

module _ {D : Type 0} (contents : D → ℕ → Option (List ℕ)) (is_honest : D → Bool) (faults : D → ℕ) (fails_at_most : D → ℕ → Type 0) (lets_go : D → ℕ → D → Type 0) (forgets : Type 0)
    (reads : D → ℕ → Result (List ℕ) DeviceFault → D → Type 0) (reads_in_place : Type 0) (e f : EvacOf (BookSeat D) D) (p : ℕ) where
  abbrev Did : Result (Option Place) Refused → Type 0
  Did answer = FetchesIt contents is_honest faults fails_at_most lets_go forgets reads reads_in_place e f p answer ⊎ MovesIt contents is_honest faults fails_at_most lets_go forgets e f p answer

  pub brought : (found : Option Place) (r : Bool) → Did (Ok found) → r ≡ is_some found → r ≡ true → IsBrought contents is_honest faults fails_at_most lets_go forgets reads reads_in_place f p
  brought None r did is h = absurd (false≢true (sym is ∙ h))
  brought (Some place) r did is h = (e, place, did)

  pub brought_by : (answer : Result (Option Place) Refused) (found : Option Place) (r : Bool) → Did answer → answer ≡ Ok found → r ≡ is_some found → ◌≡◌ {A = Result Bool Refused} (Ok r) (Ok true) →
      IsBrought contents is_honest faults fails_at_most lets_go forgets reads reads_in_place f p
  brought_by answer found r did is says h = brought found r (subst Did is did) says (ok_is r true (Ok r) refl h)

-- ---- by calls of its hand
look_came : {D : Type 0} (e f : EvacOf (BookSeat D) D) (p : ℕ) → Looks e f p → Came seat_makes e.book.near f.book.near
look_came e f p l = first_call (See p) (Word ((core_of f).cell p)) l.made

module _ {D : Type 0} (contents : D → ℕ → Option (List ℕ)) (is_honest : D → Bool) (faults : D → ℕ) (fails_at_most : D → ℕ → Type 0) (lets_go : D → ℕ → D → Type 0) (forgets : Type 0) (e f : EvacOf (BookSeat D) D) (p : ℕ) where
  retires_by : (l : LooksAndRetires contents is_honest faults fails_at_most lets_go forgets p e f) (b : Bool) → is_dropped (cell_in l.found p) ≡ b → Came seat_makes e.book.near f.book.near
  retires_by l true is = then_came (look_came e l.found p l.looked) (l.dropped is).retired.came
  retires_by l false is = subst (λ (x : EvacOf (BookSeat D) D). Came seat_makes e.book.near x.book.near) (sym (l.alive is)) (look_came e l.found p l.looked)

  pub retires_came : LooksAndRetires contents is_honest faults fails_at_most lets_go forgets p e f → Came seat_makes e.book.near f.book.near
  retires_came l = retires_by l (is_dropped (cell_in l.found p)) refl

  module _ (reads : D → ℕ → Result (List ℕ) DeviceFault → D → Type 0) (reads_in_place : Type 0) where
    by_way : (found : Option Place) → Brings contents is_honest faults fails_at_most lets_go forgets reads reads_in_place e f p found → Came seat_makes e.book.near f.book.near
    by_way found (inl x) = then_came (look_came e x.found p x.looked) x.fetched.fetched.came
    by_way found (inr (inl x)) = then_came (then_came (look_came e x.first p x.looked) (look_came x.first x.found p x.again)) x.moved.moved.came
    by_way found (inr (inr (none, x))) = then_came (look_came e x.first p x.looked) (look_came x.first f p x.again)

    pub brings_came : (so : Bool) → BringsSo contents is_honest faults fails_at_most lets_go forgets reads reads_in_place p so e f → Came seat_makes e.book.near f.book.near
    brings_came so b = by_way b.0 b.2

    -- a far object was fetched
    pub fetched_so : (a : EvacOf (BookSeat D) D) (answer : Result (Option Place) Refused) (found : Option Place) (r : Bool) → Looks e a p → says_far (cell_in a p) ≡ true →
        FetchesIt contents is_honest faults fails_at_most lets_go forgets reads reads_in_place a f p answer → answer ≡ Ok found → r ≡ is_some found →
        BringsSo contents is_honest faults fails_at_most lets_go forgets reads reads_in_place p r e f
    fetched_so a answer found r looks far did is says =
        let fetched = subst (λ (x : Result (Option Place) Refused). FetchesIt contents is_honest faults fails_at_most lets_go forgets reads reads_in_place a f p x) is did in
        (found, says, inl record { found = a; looked = looks; far = far; fetched = fetched })

    -- a near one, of which that was asked, was moved
    pub moved_so : (a b : EvacOf (BookSeat D) D) (q : ℕ) (answer : Result (Option Place) Refused) (found : Option Place) (r : Bool) → q ≡ p → Looks e a p → says_far (cell_in a p) ≡ false → Looks a b q →
        asks_move (cell_in b q) ≡ true → MovesIt contents is_honest faults fails_at_most lets_go forgets b f q answer → answer ≡ Ok found → r ≡ is_some found →
        BringsSo contents is_honest faults fails_at_most lets_go forgets reads reads_in_place p r e f
    moved_so a b q answer found r same looks near again asked did is says =
        let moved = subst (λ (x : Result (Option Place) Refused). MovesIt contents is_honest faults fails_at_most lets_go forgets b f p x) is
        (subst (λ (n : ℕ). MovesIt contents is_honest faults fails_at_most lets_go forgets b f n answer) same did) in (
          found,
          says,
          inr (inl record {
            first = a;
            looked = looks;
            near = near;
            found = b;
            again = subst (λ (n : ℕ). Looks a b n) same again;
            asked = subst (λ (n : ℕ). asks_move (cell_in b n) ≡ true) same asked;
            moved = moved;
          }),
        )

    -- a near one, of which that wasn't asked, stayed
    pub stayed_so : (a : EvacOf (BookSeat D) D) (q : ℕ) → q ≡ p → Looks e a p → says_far (cell_in a p) ≡ false → Looks a f q → asks_move (cell_in f q) ≡ false →
        BringsSo contents is_honest faults fails_at_most lets_go forgets reads reads_in_place p false e f
    stayed_so a q same looks near again unasked = (
      None,
      refl,
      inr (inr (
        refl,
        record {
          first = a;
          looked = looks;
          near = near;
          again = subst (λ (n : ℕ). Looks a f n) same again;
          unasked = subst (λ (n : ℕ). asks_move (cell_in f n) ≡ false) same unasked;
        },
      )),
    )
