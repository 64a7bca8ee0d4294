-- What the book knows of free cells, of room and of what it can't bring is so in each state that the words may be in.
use Rattle.std.proofs.Common.{◌≡◌, ◌⊎◌, inl, inr, ℕ, Bool, true, false, cond, refl, ap, subst, sym, ◌∙◌, Option, Some, None, is_some, Result, Ok, Err}
use Rattle.std.specs.Prelude.{IfOk, IfErr, IsSome}
use Rattle.std.proofs.lemmas.Bool.{false≢true, true≢false}
use Rattle.far_word.specs.declared.pointer.Place.{Place}
use Rattle.far_word.specs.declared.pointer.PtrWord.{PtrWord}
use Rattle.far_word.specs.declared.pointer.PtrWord.TheVariants.{Free, Near, Far}
use Rattle.far_word.specs.declared.refused.Refused.{Refused}
use Rattle.far_word.specs.declared.refused.Refused.TheVariants.{Damaged, Device, Memory, NoPointer, NoRoom}
use Rattle.far_word.specs.Pointer.{read_of}
use Rattle.far_word.specs.Sizes.{size_of}
use Rattle.far_core.specs.state.Room.{room}
use Rattle.far_events.specs.state.State.{State}
use Rattle.far_hand.specs.Finds.{body_of, marks_in}
use Rattle.far_hand.specs.MayBe.{Shows}
use Rattle.far_table.specs.declared.book.BookSeat.{BookSeat}
use Rattle.far_table.specs.BookSeats.{seat_shown, seat_there, seat_view}
use Rattle.far_book.specs.book.Dealing.{goal, goal_of}
use Rattle.far_book.specs.book.Fetching.{RefusesFetch, far_len, room_for}
use Rattle.far_book.specs.book.Ledger.{IsLowestFree}
use Rattle.far_book.proofs.region.Founds.{free_found, free_known}
use Rattle.far_book.proofs.region.Retires.{retired_is}
use Rattle.far_book.specs.book.Effects.{retired}
use Rattle.far_events.proofs.Put.{put_same}
use Rattle.far_events.specs.events.Naming.{is_dropped}
use Rattle.far_evac.specs.EvacOf.{EvacOf}
use Rattle.far_heap.specs.BookHad.{BookHad, HasNowhere, HasRoom, IsCause, IsFreed, LacksRoom, MayCome, NoneFree, Places, Unbrought}
use Rattle.far_heap.specs.Helping.{PlacesNew, asks_move, core_of, says_far}
use Rattle.far_heap.specs.HeapId.{HeapId, heap_of}
use Rattle.far_heap.proofs.Named.{named_alone}

-- ---- an object that can't be brought, by one word of it, and by another that was found since
nowhere_so : (o x : State) (v w : Option PtrWord) → body_of w ≡ body_of v → ((marks_in v).moved ≡ true → (marks_in w).moved ≡ true) →
    ((n : ℕ) (b : Bool) → room x n b ≡ room o n b) → HasNowhere o v → HasNowhere x w
nowhere_so o x None w body moved rooms says = absurd says
nowhere_so o x (Some Free) w body moved rooms says = absurd says
nowhere_so o x (Some (Near n d at m)) None body moved rooms says = absurd cc
nowhere_so o x (Some (Near n d at m)) (Some Free) body moved rooms says = absurd cc
nowhere_so o x (Some (Near n d at m)) (Some (Near k c to q)) body moved rooms says = let lens : k ≡ n = cc in
    (moved says.0, ap (λ u. (marks_in u).evac) body ∙ says.1, rooms (size_of k) false ∙ ap (λ l. room o (size_of l) false) lens ∙ says.2)
nowhere_so o x (Some (Near n d at m)) (Some (Far k c q)) body moved rooms says = absurd cc
nowhere_so o x (Some (Far n d m)) None body moved rooms says = absurd cc
nowhere_so o x (Some (Far n d m)) (Some Free) body moved rooms says = absurd cc
nowhere_so o x (Some (Far n d m)) (Some (Near k c to q)) body moved rooms says = absurd cc
nowhere_so o x (Some (Far n d m)) (Some (Far k c q)) body moved rooms says = let lens : k ≡ n = cc in rooms (size_of k) true ∙ ap (λ l. room o (size_of l) true) lens ∙ says

may_so : (o x : State) (v w : Option PtrWord) → body_of w ≡ body_of v → ((n : ℕ) (b : Bool) → room x n b ≡ room o n b) → MayCome o v → MayCome x w
may_so o x None w body rooms may = absurd may
may_so o x (Some Free) w body rooms may = absurd may
may_so o x (Some (Near n d at m)) w body rooms may = absurd may
may_so o x (Some (Far n d m)) None body rooms may = absurd cc
may_so o x (Some (Far n d m)) (Some Free) body rooms may = absurd cc
may_so o x (Some (Far n d m)) (Some (Near k c to q)) body rooms may = absurd cc
may_so o x (Some (Far n d m)) (Some (Far k c q)) body rooms may = let lens : k ≡ n = cc in ap is_some (rooms (size_of k) true ∙ ap (λ l. room o (size_of l) true) lens) ∙ may

-- what a refused fetch says of the word that the book found
not_so : (b c : Bool) → (b ≡ true → c ≡ true) → c ≡ false → b ≡ false
not_so true c h e = absurd (true≢false (sym (h refl) ∙ e))
not_so false c h e = refl

far_cause : (s : State) (o : Option PtrWord) (sound : Bool) → says_far o ≡ true → (s.honest ≡ true → sound ≡ true) → (why : Refused) →
    RefusesFetch why (room s (size_of (far_len o)) true) sound → IsCause why s o
far_cause s None sound is honest why says = absurd (false≢true is)
far_cause s (Some Free) sound is honest why says = absurd (false≢true is)
far_cause s (Some (Near n d at m)) sound is honest why says = absurd (false≢true is)
far_cause s (Some (Far n d m)) sound is honest NoRoom says = says
far_cause s (Some (Far n d m)) sound is honest Memory says = says
far_cause s (Some (Far n d m)) sound is honest Device says = says
far_cause s (Some (Far n d m)) sound is honest Damaged says = (says.0, not_so s.honest sound honest says.1)
far_cause s (Some (Far n d m)) sound is honest why says = absurd says

-- and a refused move
wanted : (b : Bool) (r : Option Place) (at : Place) → cond b r (Some at) ≡ None → (b ≡ true) × (r ≡ None)
wanted true r at e = (refl, e)
wanted false r at e = absurd cc

near_cause : (s : State) (o : Option PtrWord) → asks_move o ≡ true → goal_of s o ≡ None → HasNowhere s o
near_cause s None is none = absurd (false≢true is)
near_cause s (Some Free) is none = absurd (false≢true is)
near_cause s (Some (Near n d at m)) is none = let x = wanted m.evac (room s (size_of n) false) at none in (is, x.0, x.1)
near_cause s (Some (Far n d m)) is none = absurd (false≢true is)

-- the cell of what was retired
pub retired_free : (s t : State) (p : ℕ) → is_dropped (read_of (s.cell p)) ≡ true → t ≡ record (retired s p) { word = t.word } → t.cell p ≡ 0
retired_free s t p dropped is = ap (λ (u : State). u.cell p) is ∙ ap (λ (u : State). u.cell p) (retired_is s p dropped) ∙ put_same s.cell p 0 p refl

module _ (o x : State) (shows : Shows o x) where
  lowest_shown : (m : ℕ) (cell : Option ℕ) → IsLowestFree o m cell → IsLowestFree x m cell
  lowest_shown m None none = λ p own zero. none p own (free_known (o.cell p) (x.cell p) (shows.cells p) zero)
  lowest_shown m (Some p) lowest = (
    lowest.0,
    free_found (o.cell p) (x.cell p) (shows.cells p) lowest.1,
    λ q own lt zero. lowest.2 q own lt (free_known (o.cell q) (x.cell q) (shows.cells q) zero),
  )

  has_shown : (m len p : ℕ) → HasRoom m len p o → HasRoom m len p x
  has_shown m len p has = record {
    free = lowest_shown m (Some p) has.free;
    room = subst (λ (s : State). IsSome (room s (size_of len) true)) (sym shows.rest) has.room;
  }

  room_shown : (m len : ℕ) → LacksRoom m len o → LacksRoom m len x
  room_shown m len lacks = record {
    pointer = lacks.pointer;
    free = lowest_shown m (Some lacks.pointer) lacks.free;
    full = ap (λ (s : State). room s (size_of len) true) shows.rest ∙ lacks.full;
  }

  rooms : (n : ℕ) (b : Bool) → room x n b ≡ room o n b
  rooms n b = ap (λ (s : State). room s n b) shows.rest

  may_shown : (p : ℕ) → MayCome o (read_of (o.cell p)) → MayCome x (read_of (x.cell p))
  may_shown p may = may_so o x (read_of (o.cell p)) (read_of (x.cell p)) (shows.cells p).body rooms may

  cause_shown : (p : ℕ) (why : Refused) → Unbrought p why o → Unbrought p why x
  cause_shown p NoRoom says = let finds = shows.cells p in nowhere_so o x (read_of (o.cell p)) (read_of (x.cell p)) finds.body finds.moved rooms says
  cause_shown p Memory may = may_shown p may
  cause_shown p Device may = may_shown p may
  cause_shown p Damaged may = (may_shown p may.0, ap (λ (s : State). s.honest) shows.rest ∙ may.1)
  cause_shown p why says = absurd says

module _ {D : Type 0} (heap : HeapId) (e : EvacOf (BookSeat D) D) (of : heap_of e.copying e.book.near ≡ heap) where
  abbrev seat : BookSeat D
  seat = e.book.near

  named : heap_of heap.copying seat ≡ heap
  named = named_alone heap e of

  has_room : (m len p : ℕ) → HasRoom m len p (seat_view seat) → BookHad D heap (HasRoom m len p)
  has_room m len p has = record {
    seat = seat;
    named = named;
    known = has;
    is = λ x may. has_shown (seat_view seat) x (seat_shown seat x may) m len p has;
    there = seat_there seat;
  }

  pub if_room : (m len : ℕ) (r : Result ℕ Refused) → IfOk r (λ p. IsLowestFree (seat_view seat) m (Some p)) → IfOk r (λ p. IsSome (room (seat_view seat) (size_of len) true)) →
      IfOk r (λ p. BookHad D heap (HasRoom m len p))
  if_room m len (Ok p) free room = has_room m len p record { free = free; room = room }
  if_room m len (Err why) free room = tt

  pub none_free : (m : ℕ) → NoneFree m (seat_view seat) → BookHad D heap (NoneFree m)
  none_free m none = record {
    seat = seat;
    named = named;
    known = none;
    is = λ x may. lowest_shown (seat_view seat) x (seat_shown seat x may) m None none;
    there = seat_there seat;
  }

  pub lacks_room : (m len : ℕ) → LacksRoom m len (seat_view seat) → BookHad D heap (LacksRoom m len)
  lacks_room m len lacks = record {
    seat = seat;
    named = named;
    known = lacks;
    is = λ x may. room_shown (seat_view seat) x (seat_shown seat x may) m len lacks;
    there = seat_there seat;
  }

  pub freed : (p : ℕ) → (seat_view seat).cell p ≡ 0 → BookHad D heap (IsFreed p)
  freed p zero = record {
    seat = seat;
    named = named;
    known = zero;
    is = λ x may. free_found ((seat_view seat).cell p) (x.cell p) ((seat_shown seat x may).cells p) zero;
    there = seat_there seat;
  }

  unbrought : (p : ℕ) (why : Refused) → Unbrought p why (seat_view seat) → BookHad D heap (Unbrought p why)
  unbrought p why cause = record {
    seat = seat;
    named = named;
    known = cause;
    is = λ x may. cause_shown (seat_view seat) x (seat_shown seat x may) p why cause;
    there = seat_there seat;
  }

  -- a fetch was refused, and a move
  pub fetch_cause : (p : ℕ) (sound : Bool) (answer : Result (Option Place) Refused) → says_far (read_of ((seat_view seat).cell p)) ≡ true →
      ((seat_view seat).honest ≡ true → sound ≡ true) → IfErr answer (λ why. RefusesFetch why (room_for (seat_view seat) p) sound) →
      IfErr answer (λ why. BookHad D heap (Unbrought p why))
  fetch_cause p sound (Ok found) is honest says = tt
  fetch_cause p sound (Err why) is honest says = unbrought p why (far_cause (seat_view seat) (read_of ((seat_view seat).cell p)) sound is honest why says)

  pub move_cause : (p : ℕ) (answer : Result (Option Place) Refused) → asks_move (read_of ((seat_view seat).cell p)) ≡ true → IfErr answer (λ why. why ≡ NoRoom) →
      IfErr answer (λ _. goal (seat_view seat) p ≡ None) → IfErr answer (λ why. BookHad D heap (Unbrought p why))
  move_cause p (Ok found) is why none = tt
  move_cause p (Err r) is why none = subst (λ w. BookHad D heap (Unbrought p w)) (sym why) (unbrought p NoRoom (near_cause (seat_view seat) (read_of ((seat_view seat).cell p)) is none))

-- ---- what a placing did
module _ {D : Type 0} (m len ds : ℕ) (e f : EvacOf (BookSeat D) D) where
  no_place : (r : Result ℕ Refused) (why : Refused) → r ≡ Err why → (why ≡ NoPointer) ⊎ (why ≡ NoRoom) → (r ≡ Err NoPointer → NoneFree m (core_of e)) → (r ≡ Err NoRoom → LacksRoom m len (core_of e)) → f ≡ e →
      Places m len ds (Err why) e f
  no_place r why so (inl is) none full same = subst (λ w. Places m len ds (Err w) e f) (sym is) (none (so ∙ (λ i. Err (is i))), same)
  no_place r why so (inr is) none full same = subst (λ w. Places m len ds (Err w) e f) (sym is) (full (so ∙ (λ i. Err (is i))), same)

  pub places : (r : Result ℕ Refused) → IfOk r (λ p. IsLowestFree (core_of e) m (Some p)) → IfOk r (λ p. IsSome (room (core_of e) (size_of len) true)) → IfOk r (λ p. PlacesNew e f p len ds) →
      IfErr r (λ why. (why ≡ NoPointer) ⊎ (why ≡ NoRoom)) → (r ≡ Err NoPointer → NoneFree m (core_of e)) → (r ≡ Err NoRoom → LacksRoom m len (core_of e)) → IfErr r (λ _. f ≡ e) → Places m len ds r e f
  places (Ok p) free room made why none full same = (record { free = free; room = room }, made)
  places (Err r) free room made why none full same = no_place (Err r) r refl why none full same
