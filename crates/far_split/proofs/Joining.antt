-- What all threads were answered, from how each ended.
use Rattle.std.proofs.Common.{◌≡◌, inl, inr, ℕ, suc, ◌+◌, ◌<◌, Bool, true, false, Option, None, Result, Ok, Err, List, [], ◌∷◌, ◌++◌, length, length-append, get_or, ap, sym, subst, ◌∙◌, refl, arith, append_assoc}
use Rattle.std.specs.Prelude.{IfErr, IfOk, IsErrAnd, map, ◌==◌, if◌then◌else◌}
use Rattle.std.specs.List.{AllByRecursion, remove}
use Rattle.std.proofs.lemmas.Bool.{eqb-false, eqb-true}
use Rattle.std.proofs.lemmas.List.{get_or-append-add, get_or-map, get_or_append_left, get_or_default, get_or_push, length-map, map-append}
use Rattle.far_text.specs.Command.{Command, Device}
use Rattle.far_text.specs.Threads.{OfMutator}
use Rattle.far_hand.specs.ShapeOf.{shape_of as shape_in}
use Rattle.far_table.specs.BookSeats.{seat_view}
use Rattle.far_heap.specs.Blanks.{BlankOf, IsUnused}
use Rattle.far_heap.specs.HeapId.{HeapId}
use Rattle.far_alone.specs.Own.{nothing}
use Rattle.far_replay.specs.Answers.{is_true}
use Rattle.far_reply.specs.Reply.{IsShort, Reply}
use Rattle.far_replay.specs.Flawed.{IsFlawed}
use Rattle.far_split.specs.FarSides.{FarSide}
use Rattle.far_split.specs.Here.{AloneOn}
use Rattle.far_split.specs.Jobs.{AreEnds, AreStops, EndsSo, IsPart, IsStop, Joins, StopsSo}
use Rattle.far_split.specs.Joined.{AllRan, AreShort, IsFault, IsFaultAfter, MayStop, RanSo, as_joined, commands_in, who_at}
use Rattle.far_split.specs.declared.gate.TheConstants.{THE_BOOK}
use Rattle.far_split.specs.declared.mutators.Stop.{Stop}
use Rattle.far_split.specs.declared.mutators.Stop.TheVariants as stops
use Rattle.far_split.specs.declared.split_out.SplitOut.{SplitOut}
use Rattle.far_split.specs.declared.split_out.SplitOut.TheVariants.{Refused as OutRefused, Ran as OutRan}
use Rattle.far_split.specs.declared.run.SplitFault.{SplitFault}
use Rattle.far_split.specs.declared.run.SplitFault.TheVariants as faults
use Rattle.far_split.proofs.OwnLines.{are_by}

-- the heap is that of these parts, which nobody had used
pub record IsBegun (heap : HeapId) (blank : BlankOf FarSide) : Type 0 where
  pub named : blank.heap ≡ heap
  pub size : (heap.logs ≡ (shape_in (seat_view blank.book.near)).logs) × (heap.mutators ≡ (shape_in (seat_view blank.book.near)).mutators)
  pub unused : IsUnused (seat_view blank.book.near)
  pub order : blank.book.order ≡ []
  pub alone : heap.copying ≡ false

abbrev pub End : Type 0
End = Result (List Reply) Stop

abbrev pub answered : List Reply → End
answered told = Ok told

-- what holds at each place holds of all
all_from : {X : Type 0} (P : X → Type 0) (other : X) (xs : List X) → ((at : ℕ) → at < length xs → P (get_or xs at other)) → AllByRecursion P xs
all_from P other [] each = tt
all_from P other (x ∷ xs) each = (each 0 (omega arith), all_from P other xs (λ at lt. each (suc at) (omega arith)))

module _ (heap : HeapId) (lines : List (ℕ × Command)) (ends : List End) (are : AreEnds heap lines ends) (parts : List (List Reply)) (book : List Reply) (joins : ends ≡ map answered (parts ++ book ∷ [])) where
  count : length parts ≡ heap.mutators
  count = omega (arith, are.many, ap length joins, length-map (parts ++ book ∷ []) answered, length-append parts (book ∷ []))

  -- the replies of a thread
  part_at : (at : ℕ) → at < length ends → IsPart heap lines at (get_or (parts ++ book ∷ []) at book)
  part_at at lt =
      let long : at < length (parts ++ book ∷ []) = omega (arith, ap length joins, length-map (parts ++ book ∷ []) answered) in
      let is : get_or ends at (answered book) ≡ answered (get_or (parts ++ book ∷ []) at book) =
      ap (λ xs. get_or xs at (answered book)) joins ∙ get_or-map answered (parts ++ book ∷ []) at book (answered book) long in
      subst (EndsSo heap lines at) is (are.each at (answered book) lt)

  mutators_part : (at : ℕ) → at < length parts → IsPart heap lines at (get_or parts at book)
  mutators_part at lt =
      subst (IsPart heap lines at) (get_or_append_left parts (book ∷ []) book at lt) (part_at at (omega (arith, are.many, count)))

  books_part : IsPart heap lines heap.mutators book
  books_part = subst (IsPart heap lines heap.mutators) (get_or_push parts book book heap.mutators count) (part_at heap.mutators (omega (arith, are.many)))

  read_at : (at : ℕ) (other : List Reply) → at < length parts → get_or parts at other ≡ get_or parts at book
  read_at at other lt = get_or_default parts at other book lt

  pub all_ran : (blank : BlankOf FarSide) (device : Option Device) → IsBegun heap blank → IsFlawed device blank.book.device → heap.honest ≡ is_true device
      → AllRan (shape_in (seat_view blank.book.near)) device lines parts book
  all_ran blank device begun flawed honest = record {
    heap = heap;
    began = record { blank = blank; named = begun.named; alone = begun.alone; shaped = refl; unused = begun.unused; order = begun.order; flawed = flawed };
    size = begun.size;
    honest = honest;
    many = count ∙ begun.size.1;
    own = λ m lt. are_by m lines;
    alone = λ m lt.
        let ours : m < heap.mutators = omega (arith, lt, begun.size.1) in
        let below : m < length parts = omega (arith, count, ours) in
        subst (AloneOn heap m nothing (commands_in (OfMutator m) lines)) (sym (read_at m [] below)) ((mutators_part m below).alone ours);
    told = books_part.told refl;
  }

  pub all_short : AllByRecursion (AllByRecursion IsShort) parts × AllByRecursion IsShort book
  all_short = (
    all_from (AllByRecursion IsShort) [] parts (λ at lt. subst (AllByRecursion IsShort) (sym (read_at at [] lt)) (mutators_part at lt).short),
    books_part.short,
  )

pub ran_so : (heap : HeapId) (blank : BlankOf FarSide) (device : Option Device) (lines : List (ℕ × Command)) (ends : List End) (out : SplitOut) → IsBegun heap blank → IsFlawed device blank.book.device → heap.honest ≡ is_true device
    → AreEnds heap lines ends → Joins ends out → RanSo (shape_in (seat_view blank.book.near)) device lines (as_joined out)
ran_so heap blank device lines ends (OutRefused why) begun flawed honest are joins = joins
ran_so heap blank device lines ends (OutRan mutators book) begun flawed honest are joins = all_ran heap lines ends are mutators.items book joins blank device begun flawed honest

pub are_short : (heap : HeapId) (lines : List (ℕ × Command)) (ends : List End) (out : SplitOut) → AreEnds heap lines ends → Joins ends out → AreShort (as_joined out)
are_short heap lines ends (OutRefused why) are joins = absurd joins
are_short heap lines ends (OutRan mutators book) are joins = all_short heap lines ends are mutators.items book joins

-- ---- faults
-- none was stopped, and the call itself was refused memory
pub unstopped : (ends : List End) (result : Result SplitOut SplitFault) → IsErrAnd result (λ e. e ≡ faults.Memory) → IsFault ends None → IfErr result (IsFaultAfter ends)
unstopped ends (Ok out) is none = tt
unstopped ends (Err fault) is none = inr (is, none)

module _ (refuses : ℕ → ℕ → Type 0) (heap : HeapId) (lines : List (ℕ × Command)) where
  -- who stands at a place, and was stopped there
  named_at : (at : ℕ) → at < heap.mutators + 1 → IsStop refuses heap lines at stops.Gate → MayStop refuses heap.mutators lines (faults.Gate (who_at (heap.mutators + 1) at))
  named_at at lt stop = by (at + 1 == heap.mutators + 1) refl where
    by : (last : Bool) → (at + 1 == heap.mutators + 1) ≡ last → MayStop refuses heap.mutators lines (faults.Gate (if last then THE_BOOK else at))
    by true is = inr (refl, stop.told (omega (arith, eqb-true (at + 1) (heap.mutators + 1) is)))
    by false is = let below : at < heap.mutators = omega (arith, lt, eqb-false (at + 1) (heap.mutators + 1) is) in inl (below, stop.alone below)

  pub may_stop : (ends : List End) (fault : SplitFault) → AreEnds heap lines ends → AreStops refuses heap lines ends → IsFaultAfter ends fault
      → MayStop refuses heap.mutators lines fault
  may_stop ends faults.Memory are stop is = tt
  may_stop ends (faults.Gate who) are stop (inr (memory, none)) = absurd cc
  may_stop ends (faults.Gate who) are stop (inl (at, stopped, none, named)) =
      let same : who ≡ who_at (heap.mutators + 1) at = named ∙ ap (λ many. who_at many at) are.many in
      let here = subst (StopsSo refuses heap lines at) (stopped.1 (Err stops.Gate)) (stop at (Err stops.Gate) stopped.0) in
      subst (λ (k : ℕ). MayStop refuses heap.mutators lines (faults.Gate k)) (sym same) (named_at at (omega (arith, stopped.0, are.many)) here)

-- ---- the same of a result
pub all_ran_so : (heap : HeapId) (blank : BlankOf FarSide) (device : Option Device) (lines : List (ℕ × Command)) (ends : List End) (result : Result SplitOut SplitFault) → IsBegun heap blank
    → IsFlawed device blank.book.device → heap.honest ≡ is_true device → AreEnds heap lines ends → IfOk result (Joins ends) → IfOk result (λ out. RanSo (shape_in (seat_view blank.book.near)) device lines (as_joined out))
all_ran_so heap blank device lines ends (Ok out) begun flawed honest are joins = ran_so heap blank device lines ends out begun flawed honest are joins
all_ran_so heap blank device lines ends (Err fault) begun flawed honest are joins = tt

pub all_are_short : (heap : HeapId) (lines : List (ℕ × Command)) (ends : List End) (result : Result SplitOut SplitFault) → AreEnds heap lines ends → IfOk result (Joins ends) → IfOk result (λ out. AreShort (as_joined out))
all_are_short heap lines ends (Ok out) are joins = are_short heap lines ends out are joins
all_are_short heap lines ends (Err fault) are joins = tt

pub all_may_stop : (refuses : ℕ → ℕ → Type 0) (heap : HeapId) (lines : List (ℕ × Command)) (ends : List End) (result : Result SplitOut SplitFault) → AreEnds heap lines ends → AreStops refuses heap lines ends
    → IfErr result (IsFaultAfter ends) → IfErr result (MayStop refuses heap.mutators lines)
all_may_stop refuses heap lines ends (Ok out) are stop is = tt
all_may_stop refuses heap lines ends (Err fault) are stop is = may_stop refuses heap lines ends fault are stop is

-- ---- one thread's replies after the other
pub took_first : (rest left : List End) (end : End) → 0 < length rest → end ≡ get_or rest 0 end → left ≡ remove rest 0 → rest ≡ end ∷ left
took_first [] left end some first others = absurd (omega (arith, some))
took_first (x ∷ xs) left end some first others = λ i. sym first i ∷ sym others i

-- where none was stopped, this one wasn't
pub never_stopped : (ends rest : List End) (parts : List (List Reply)) (end : End) (why : Stop) → IsFault ends None → ends ≡ map answered parts ++ rest → 0 < length rest → end ≡ get_or rest 0 end → end ≡ Err why → ⊥
never_stopped ends rest parts end why none so_far some first is =
    let front = map answered parts in
    let at : ℕ = length front + 0 in
    let below : at < length ends = omega (arith, ap length so_far, length-append front rest, some) in
    let found : (other : End) → get_or ends at other ≡ Err why =
    λ other. ap (λ xs. get_or xs at other) so_far ∙ get_or-append-add front rest 0 other ∙ get_or_default rest 0 other end some ∙ sym first ∙ is in
    none at why (below, found)

pub parts_more : (ends rest left : List End) (parts more : List (List Reply)) (end : End) (told : List Reply) → ends ≡ map answered parts ++ rest → rest ≡ end ∷ left → end ≡ answered told → more ≡ parts ++ told ∷ []
    → ends ≡ map answered more ++ left
parts_more ends rest left parts more end told so_far first is pushed =
    so_far ∙ ap (λ xs. map answered parts ++ xs) (first ∙ ap (λ x. x ∷ left) is) ∙ sym (append_assoc (map answered parts) (answered told ∷ []) left) ∙ ap (λ xs. xs ++ left) (sym (map-append answered parts (told ∷ [])))
    ∙ ap (λ xs. map answered xs ++ left) (sym pushed)
