-- What a mutator's lines are told of cells, by the numbers of refusals.
use Rattle.std.proofs.Common.{◌≡◌, ◌≢◌, inl, inr, ℕ, zero, suc, ◌+◌, ◌<◌, ◌≤◌, nat_le, Bool, true, false, Option, Some, None, IsSome, List, [], ◌∷◌, filter, length, refl, sym, ap, subst, ◌∙◌, arith}
use Rattle.std.specs.Prelude.{Contains}
use Rattle.std.specs.List.{AllByRecursion, range_with_len}
use Rattle.std.proofs.lemmas.Bool.{cases_lt, cond_both, false≢true, or_cases}
use Rattle.std.proofs.lemmas.Bool.Decides.{nat_tests}
use Rattle.std.proofs.lemmas.Option.{none-some}
use Rattle.far_word.specs.declared.pointer.Place.{Place}
use Rattle.far_word.specs.declared.pointer.PtrWord.{PtrWord}
use Rattle.far_word.specs.declared.pointer.PtrWord.TheVariants.{Free, Near, Far}
use Rattle.far_word.specs.declared.refused.Refused.{Refused as Refusal}
use Rattle.far_word.specs.declared.refused.Refused.TheVariants.{Damaged, Device, Marked, Memory, NoPointer, NoRoom}
use Rattle.far_word.specs.declared.sizes.TheConstants.{LOG_WORDS}
use Rattle.far_word.specs.Pointer.{read_of}
use Rattle.far_word.specs.Refused.{refusal_number}
use Rattle.far_word.specs.Sizes.{size_of}
use Rattle.far_log.proofs.Members.{here, none_in, split, there}
use Rattle.far_events.specs.declared.event.Kind.{Kind}
use Rattle.far_events.specs.declared.event.Kind.TheVariants as kinds
use Rattle.far_core.specs.state.Room.{free_logs, is_free, lowest, room}
use Rattle.far_events.specs.state.State.{State}
use Rattle.far_table.specs.declared.book.BookSeat.{BookSeat}
use Rattle.far_table.specs.BookSeats.{seat_view}
use Rattle.far_book.specs.book.Fetching.{far_len}
use Rattle.far_evac.specs.EvacOf.{EvacOf}
use Rattle.far_evac.specs.LiveLaws.{IsInTurn}
use Rattle.far_evac.proofs.Fronts.{kept_in, was_kept}
use Rattle.far_evac.proofs.Marks.{all_filter}
use Rattle.far_heap.specs.BookHad.{BookDid, BookHad, HasNowhere, HasRoom, LacksRoom, MayCome, NoneFree, LeavesIt, RefusesRead, Unbrought}
use Rattle.far_heap.specs.Helping.{cell_in, says_far}
use Rattle.far_heap.specs.HeapId.{HeapId}
use Rattle.far_heap.specs.Mine.{IsSlow}
use Rattle.far_text.specs.Command.{Command, Mutator, New, Open, On, Try}
use Rattle.far_replay.specs.Alone.{Knows}
use Rattle.far_alone.specs.Own.{Own}
use Rattle.far_reply.specs.Reply.{Pointer, Refused, Reply}
use Rattle.far_split.specs.FarSides.{FarReads, FarSide}
use Rattle.far_split.specs.Here.{IsToldOf, KnowsHere, TellsOfHeap}
use Rattle.far_split.specs.CellsSaid.{FailsToRead, HasCellAlone, HasFar, HasFarAndRoom, HasNoCell, HasNoTwoFree, HasNoneFree, HasNowhereFor, HasPlace, HasRoomFor, IsFarOrMarked, IsToldOfCells, MutatorsAreToldSo, NoneLacksMemory, PassesOpen, ReadsOthers, SaysWhy, WordsAreOfObjects}

-- ---- what was so of a book, in other words
had_so : {heap : HeapId} (P Q : State → Type 0) → ((s : State) → P s → Q s) → BookHad FarSide heap P → BookHad FarSide heap Q
had_so P Q says had = record { seat = had.seat; named = had.named; known = says (seat_view had.seat) had.known; is = λ x may. says x (had.is x may); there = had.there }

did_so : {heap : HeapId} (R S : EvacOf (BookSeat FarSide) FarSide → EvacOf (BookSeat FarSide) FarSide → Type 0) → ((e f : EvacOf (BookSeat FarSide) FarSide) → R e f → S e f)
    → BookDid FarSide heap R → BookDid FarSide heap S
did_so R S says was = record {
  before = was.before;
  later = was.later;
  named = was.named;
  lawful = was.lawful;
  came = was.came;
  there = was.there;
  did = says was.before was.later was.did;
}

-- ---- room
in_range : (a n k : ℕ) → a ≤ k → k < a + n → Contains (range_with_len a n) k
in_range a zero k from to = absurd (omega (arith, from, to))
in_range a (suc n) k from to = elim (cases_lt a k) [
  | inl past ↦ there k a (range_with_len (a + 1) n) (in_range (a + 1) n k (omega (arith, past)) (omega (arith, to)))
  | inr le ↦ (let same : k ≡ a = omega (arith, from, le) in subst (λ (z : ℕ). Contains (z ∷ range_with_len (a + 1) n) k) same (here k (range_with_len (a + 1) n)))
]

only_one : (x k : ℕ) → Contains (x ∷ []) k → x ≡ k
only_one x k member = elim (split k x [] member) [
  | inl e ↦ e
  | inr more ↦ absurd (none_in k more)
]

at_most_one : (ls : List ℕ) → lowest true ls ≡ None → (k l : ℕ) → Contains ls k → Contains ls l → k ≡ l
at_most_one [] none k l first second = absurd (none_in k first)
at_most_one (x ∷ []) none k l first second = sym (only_one x k first) ∙ only_one x l second
at_most_one (x ∷ y ∷ ls) none k l first second = absurd (none-some _ (sym none))

not_one : (ls : List ℕ) → lowest false ls ≡ None → (l : ℕ) → Contains ls l → ⊥
not_one [] none l member = none_in l member
not_one (x ∷ ls) none l member = absurd (none-some _ (sym none))

-- the first two of those that rise are two
two_apart : (ls : List ℕ) → IsSome (lowest true ls) → IsInTurn (λ p q. p < q) ls → ((k l : ℕ) → Contains ls k → Contains ls l → k ≡ l) → ⊥
two_apart [] some rises one = false≢true some
two_apart (x ∷ []) some rises one = false≢true some
two_apart (x ∷ y ∷ ls) some rises one = let same : x ≡ y = one x y (here x (y ∷ ls)) (there y x (y ∷ ls) (here y ls)) in omega (arith, rises.0.0, same)

all_above : (b a n : ℕ) → b < a → AllByRecursion (λ p. b < p) (range_with_len a n)
all_above b a zero lt = tt
all_above b a (suc n) lt = (lt, all_above b (a + 1) n (omega (arith, lt)))

rises_from : (f : ℕ → Bool) (a n : ℕ) → IsInTurn (λ p q. p < q) (filter f (range_with_len a n))
rises_from f a zero = tt
rises_from f a (suc n) =
    let more = rises_from f (a + 1) n in
    cond_both (f a) (a ∷ filter f (range_with_len (a + 1) n)) (filter f (range_with_len (a + 1) n)) (IsInTurn (λ p q. p < q))
    (λ _. (all_filter (λ p. a < p) f (range_with_len (a + 1) n) (all_above a (a + 1) n (omega arith)), more)) (λ _. more)

range_below : (a n k : ℕ) → Contains (range_with_len a n) k → k < a + n
range_below a zero k member = absurd (none_in k member)
range_below a (suc n) k member = elim (split k a (range_with_len (a + 1) n) member) [
  | inl e ↦ omega (arith, e)
  | inr more ↦ (let below = range_below (a + 1) n k more in omega (arith, below))
]

kind_free : (kind : Kind) → is_free kind ≡ true → kind ≡ kinds.Free
kind_free kinds.Free is = refl
kind_free kinds.Open is = absurd (false≢true is)
kind_free kinds.Sealed is = absurd (false≢true is)

fits_it : (a b : ℕ) → nat_le a b ≡ true → a ≤ b
fits_it a b fits = grind (arith, nat_tests)

past_it : (a b : ℕ) → nat_le a b ≡ false → b < a
past_it a b past = grind (arith, nat_tests)

module _ (s : State) where
  free_in : (l : ℕ) → l < s.logs → s.kind l ≡ kinds.Free → Contains (free_logs s) l
  free_in l below free = kept_in (λ k. is_free (s.kind k)) l (range_with_len 0 s.logs) (ap is_free free) (in_range 0 s.logs l (omega arith) (omega (arith, below)))

  -- where there is no room, an object passes the end of the open log, and a free one isn't to be had
  no_room : (size : ℕ) (reserve : Bool) → room s size reserve ≡ None → (LOG_WORDS < s.tail s.current + size) × (lowest reserve (free_logs s) ≡ None)
  no_room size reserve = cond_both (nat_le (s.tail s.current + size) LOG_WORDS) (Some record { log = s.current; at = s.tail s.current }) (lowest reserve (free_logs s))
      (λ (o : Option Place). o ≡ None → (LOG_WORDS < s.tail s.current + size) × (lowest reserve (free_logs s) ≡ None))
      (λ fits none. absurd (none-some _ (sym none)))
      (λ past none. (past_it (s.tail s.current + size) LOG_WORDS past, none))

  with_reserve : (len : ℕ) → room s (size_of len) true ≡ None → PassesOpen s len × HasNoTwoFree s
  with_reserve len none =
      let full = no_room (size_of len) true none in
      (full.0, λ k l below short free other. at_most_one (free_logs s) full.1 k l (free_in k below free) (free_in l short other))

  without_any : (len : ℕ) → room s (size_of len) false ≡ None → PassesOpen s len × HasNoneFree s
  without_any len none =
      let full = no_room (size_of len) false none in
      (full.0, λ l below free. not_one (free_logs s) full.1 l (free_in l below free))

  -- a free one is such a log
  is_in_free : (l : ℕ) → Contains (free_logs s) l → (l < s.logs) × (s.kind l ≡ kinds.Free)
  is_in_free l member =
      let kept = was_kept (λ k. is_free (s.kind k)) l (range_with_len 0 s.logs) member in
      let below = range_below 0 s.logs l kept.1 in
      (omega (arith, below), kind_free (s.kind l) kept.0)

  -- where there is room, an object fits into the open log, or two are free
  room_left : (size : ℕ) → IsSome (room s size true) → LOG_WORDS < s.tail s.current + size → HasNoTwoFree s → ⊥
  room_left size = cond_both (nat_le (s.tail s.current + size) LOG_WORDS) (Some record { log = s.current; at = s.tail s.current }) (lowest true (free_logs s))
      (λ (o : Option Place). IsSome o → LOG_WORDS < s.tail s.current + size → HasNoTwoFree s → ⊥)
      (λ fits some past one. let within = fits_it (s.tail s.current + size) LOG_WORDS fits in omega (arith, within, past))
      (λ _ some past one. two_apart (free_logs s) some (rises_from (λ k. is_free (s.kind k)) 0 s.logs) (λ k l first second.
      let a = is_in_free k first in
      let b = is_in_free l second in
      one k l a.0 b.0 a.1 b.1))

  has_room_for : (len : ℕ) → IsSome (room s (size_of len) true) → HasRoomFor len s
  has_room_for len some full = room_left (size_of len) some full.0 full.1

  -- ---- what a cell's word says
  nowhere_for : (p : ℕ) (o : Option PtrWord) → read_of (s.cell p) ≡ o → HasNowhere s o → HasNowhereFor p s
  nowhere_for p None is had = absurd had
  nowhere_for p (Some Free) is had = absurd had
  nowhere_for p (Some (Near len structure place marks)) is (moved, evac, none) = let full = without_any len none in inr (len, structure, place, marks, is, evac, moved, full.0, full.1)
  nowhere_for p (Some (Far len structure marks)) is none = let full = with_reserve len none in inl (len, structure, marks, is, full.0, full.1)

  may_come : (p : ℕ) (o : Option PtrWord) → read_of (s.cell p) ≡ o → MayCome s o → HasFarAndRoom p s
  may_come p None is had = absurd had
  may_come p (Some Free) is had = absurd had
  may_come p (Some (Near len structure place marks)) is had = absurd had
  may_come p (Some (Far len structure marks)) is had = (len, structure, marks, is, has_room_for len had)

  far_says : (p : ℕ) (o : Option PtrWord) → read_of (s.cell p) ≡ o → says_far o ≡ true → HasFar p s
  far_says p None is far = absurd (false≢true far)
  far_says p (Some Free) is far = absurd (false≢true far)
  far_says p (Some (Near len structure place marks)) is far = absurd (false≢true far)
  far_says p (Some (Far len structure marks)) is far = (len, structure, marks, is)

-- ---- an object that wasn't brought
is_two : (why : Refusal) → refusal_number why ≡ 2 → why ≡ NoRoom
is_two NoRoom e = refl
is_two why e = absurd (omega (arith, e))

is_three : (why : Refusal) → refusal_number why ≡ 3 → why ≡ NoPointer
is_three NoPointer e = refl
is_three why e = absurd (omega (arith, e))

is_ten : (why : Refusal) → refusal_number why ≡ 10 → why ≡ Device
is_ten Device e = refl
is_ten why e = absurd (omega (arith, e))

is_eleven : (why : Refusal) → refusal_number why ≡ 11 → why ≡ Damaged
is_eleven Damaged e = refl
is_eleven why e = absurd (omega (arith, e))

is_one : (why : Refusal) → refusal_number why ≡ 1 → why ≡ Memory
is_one Memory e = refl
is_one why e = absurd (omega (arith, e))

module _ (heap : HeapId) (p : ℕ) where
  fails_so : IsToldOf heap p Device → BookHad FarSide heap (HasFarAndRoom p) × BookDid FarSide heap (FailsToRead p)
  fails_so (had, did) = (
    had_so (Unbrought p Device) (HasFarAndRoom p) (λ s is. may_come s p (read_of (s.cell p)) refl is) had,
    did_so (LeavesIt FarReads p Device) (FailsToRead p) (λ e f is. (far_says (seat_view e.book.near) p (cell_in e p) refl is.asked.0, is.asked.2)) did,
  )

  reads_others : (e f : EvacOf (BookSeat FarSide) FarSide) → RefusesRead FarReads p Damaged e f → ReadsOthers p e f
  reads_others e f (far, still, (bytes, read, differs)) = by (cell_in e p) refl far differs
    where
      by : (o : Option PtrWord) → cell_in e p ≡ o → says_far o ≡ true → length bytes ≢ far_len o → ReadsOthers p e f
      by None is none odd = absurd (false≢true none)
      by (Some Free) is none odd = absurd (false≢true none)
      by (Some (Near len structure place marks)) is none odd = absurd (false≢true none)
      by (Some (Far len structure marks)) is some odd = (len, structure, marks, bytes, is, read, odd)

  others_so : IsToldOf heap p Damaged → BookHad FarSide heap (λ s. HasFarAndRoom p s × (s.honest ≡ false)) × BookDid FarSide heap (ReadsOthers p)
  others_so (had, did) = (
    had_so (Unbrought p Damaged) (λ s. HasFarAndRoom p s × (s.honest ≡ false)) (λ s is. (may_come s p (read_of (s.cell p)) refl is.0, is.1)) had,
    did_so (LeavesIt FarReads p Damaged) (ReadsOthers p) (λ e f is. reads_others e f is.asked) did,
  )

  nowhere_so : IsToldOf heap p NoRoom → BookHad FarSide heap (HasNowhereFor p)
  nowhere_so (had, did) = had_so (Unbrought p NoRoom) (HasNowhereFor p) (λ s is. nowhere_for s p (read_of (s.cell p)) refl is) had

  -- of any line that names it
  says_why : (T : Refusal → Type 0) → (T NoRoom → IsToldOf heap p NoRoom) → (T Device → IsToldOf heap p Device) → (T Damaged → IsToldOf heap p Damaged) → (why : Refusal) → T why → SaysWhy heap p why
  says_why T nowhere failed damaged why told = record {
    two = λ e. nowhere_so (nowhere (subst T (is_two why e) told));
    ten = λ e. fails_so (failed (subst T (is_ten why e) told));
    eleven = λ e. others_so (damaged (subst T (is_eleven why e) told));
  }

-- ---- a word that was told
far_or_marked : (len structure word : ℕ) (o : Option PtrWord) → read_of word ≡ o → IsSlow len structure o → IsFarOrMarked len word
far_or_marked len structure word None is slow = absurd slow
far_or_marked len structure word (Some Free) is slow = absurd slow
far_or_marked len structure word (Some (Near n t place marks)) is (long, same, marked, alive) =
    inr (t, place, marks, subst (λ (k : ℕ). read_of word ≡ Some (Near k t place marks)) long is, or_cases marks.evac marks.moved marked, alive)
far_or_marked len structure word (Some (Far n t marks)) is (long, same, alive) = inl (t, marks, subst (λ (k : ℕ). read_of word ≡ Some (Far k t marks)) long is, alive)

pub words_of_objects : WordsAreOfObjects
words_of_objects heap m o k p word (all, known, (structure, slow)) = (all, known, far_or_marked (length all) structure word (read_of word) refl slow)

-- ---- all lines
cells_so : (heap : HeapId) (m : ℕ) (o : Own) (c : Command) (r : Reply) → TellsOfHeap heap m o c r → IsToldOfCells heap m c r
cells_so heap m o (Mutator k (New len structure)) (Pointer p) told = had_so (HasRoom m len p) (HasPlace m len p) (λ s is. (is.free.0, is.free.1, is.free.2, has_room_for s len is.room)) told
cells_so heap m o (Mutator k (New len structure)) (Refused why) told = (
  λ e. had_so (LacksRoom m len) (HasCellAlone m len) (λ s is. (let full = with_reserve s len is.full in ((is.pointer, is.free.0, is.free.1), full.0, full.1)))
      (subst (λ (w : Refusal). TellsOfHeap heap m o (Mutator k (New len structure)) (Refused w)) (is_two why e) told),
  λ e. had_so (NoneFree m) (HasNoCell m) (λ s is. is) (subst (λ (w : Refusal). TellsOfHeap heap m o (Mutator k (New len structure)) (Refused w)) (is_three why e) told),
)
cells_so heap m o (Mutator k (On p how)) (Refused why) told = says_why heap p (λ (w : Refusal). TellsOfHeap heap m o (Mutator k (On p how)) (Refused w)) (λ t. t) (λ t. t) (λ t. t) why told
cells_so heap m o (Mutator k (Try p)) (Refused (Marked word)) told = let x = words_of_objects heap m o k p word told in (length x.0, x.2)
cells_so heap m o c r told = tt

pub mutators_told_so : MutatorsAreToldSo
mutators_told_so heap m o [] [] alone = tt
mutators_told_so heap m o [] (r ∷ rs) alone = absurd alone
mutators_told_so heap m o (c ∷ cs) [] alone = absurd alone
mutators_told_so heap m o (c ∷ cs) (r ∷ rs) (q, knows, tells, later) = (cells_so heap m o c r tells, mutators_told_so heap m q cs rs later)

-- ---- memory
knows_none : (m : ℕ) (o : Own) (c : Command) (q : Own) → Knows m o c (Refused Memory) q → ⊥
knows_none m o (Mutator k (On p how)) q knows = knows
knows_none m o c q knows = knows

none_told : (honest : Bool) (m : ℕ) (o : Own) (c : Command) (q : Own) → KnowsHere honest m o c (Refused Memory) q → ⊥
none_told true m o c q (knows, whole) = knows_none m o c q knows
none_told false m o c q (inl knows) = knows_none m o c q knows
none_told false m o c q (inr given) = knows_none m _ c q given.knows

pub none_lacks_memory : NoneLacksMemory
none_lacks_memory honest m o c why q knows e = none_told honest m o c q (subst (λ (w : Refusal). KnowsHere honest m o c (Refused w) q) (is_one why e) knows)
