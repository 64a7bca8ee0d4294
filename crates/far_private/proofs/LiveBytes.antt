-- The live bytes of all logs are those that near objects take.
use Rattle.std.proofs.Common.{◌≡◌, ◌≢◌, ℕ, zero, suc, ◌+◌, ◌/◌, ◌<◌, ◌≤◌, Bool, true, false, cond, not, Option, Some, None, List, [], ◌∷◌, inl, inr, arith, ap, sym, refl, ◌∙◌, subst, length}
use Rattle.std.specs.Prelude.{◌==◌, Contains, map, sum}
use Rattle.std.specs.List.{range_with_len}
use Rattle.std.proofs.lemmas.Bool.{cases_eq, cases_lt, eq-eqb, false≢true, ne_eqb}
use mathlib.Core.Path.{fun_ext}
use Rattle.far_word.specs.Bytes.{bytes_of}
use Rattle.far_word.specs.declared.mark.Marks.{Marks}
use Rattle.far_word.specs.declared.pointer.Place.{Place}
use Rattle.far_word.specs.declared.pointer.PtrWord.{PtrWord}
use Rattle.far_word.specs.declared.pointer.PtrWord.TheVariants.{Free, Near, Far}
use Rattle.far_word.specs.declared.sizes.TheConstants.{CELLS, POINTERS}
use Rattle.far_word.specs.Pointer.{read_of}
use Rattle.far_word.specs.Sizes.{bytes_taken}
use Rattle.far_word.proofs.ByteLaws.{length-bytes_of}
use Rattle.far_log.specs.declared.span.Span.{Span}
use Rattle.far_log.specs.Spans.{taken_by}
use Rattle.far_core.specs.laws.Observed.{live_bytes, span_for}
use Rattle.far_events.specs.state.Law.{Law, in_use}
use Rattle.far_events.specs.state.Spans.{names_place, spans_of}
use Rattle.far_events.specs.state.State.{State, addr, put}
use Rattle.far_core.specs.world.World.{FarSide, Group, Object as Thing}
use Rattle.far_core.specs.world.WorldOf.{object_of, world_of}
use Rattle.far_events.proofs.Cells.{unused}
use Rattle.far_events.proofs.Put.{put_both, put_other, put_same}
use Rattle.far_book.proofs.region.Owns.{own_law}
use Rattle.far_book.proofs.region.SpanLists.{taken_same}
use Rattle.far_evac.specs.TakesRoom.{bytes_at, bytes_near}
use Rattle.far_evac.proofs.RoomLaw.{sound_of}
use Rattle.far_evac.proofs.SpanBytes.{Sound, falls}
use Rattle.far_alone.proofs.Counted.{summed_more}
use Rattle.far_private.specs.FarBytes.{lies_far, room_of, says_far}
use Rattle.far_private.specs.Heap.{Heap, object}
use Rattle.far_private.specs.HeapOf.{heap_of}
use Rattle.far_private.specs.Objects.{Object, Settled, objects_of, seen}
use Rattle.far_private.proofs.HeapTies.{EndsThere, object_so}

-- ---- sums over the first so many numbers
abbrev total : (ℕ → ℕ) → ℕ → ℕ
total f n = sum (map f (range_with_len 0 n))

more : (f : ℕ → ℕ) (n : ℕ) → total f (suc n) ≡ total f n + f n
more f n = let e : n + 1 ≡ suc n = omega arith in subst (λ k. total f k ≡ total f n + f n) e (summed_more f n)

sum_same : (f g : ℕ → ℕ) (n : ℕ) → ((x : ℕ) → x < n → f x ≡ g x) → total f n ≡ total g n
sum_same f g zero same = refl
sum_same f g (suc n) same = (let rest = sum_same f g n (λ x lt. same x (omega (arith, lt))) in let last = same n (omega arith) in omega (arith, more f n, more g n, rest, last))

sum_none : (f : ℕ → ℕ) (n : ℕ) → ((x : ℕ) → x < n → f x ≡ 0) → total f n ≡ 0
sum_none f zero none = refl
sum_none f (suc n) none = (let rest = sum_none f n (λ x lt. none x (omega (arith, lt))) in let last = none n (omega arith) in omega (arith, more f n, rest, last))

sum_two : (f g h : ℕ → ℕ) (n : ℕ) → ((x : ℕ) → f x ≡ g x + h x) → total f n ≡ total g n + total h n
sum_two f g h zero each = refl
sum_two f g h (suc n) each = (let rest = sum_two f g h n each in let last = each n in omega (arith, more f n, more g n, more h n, rest, last))

swap : (f : ℕ → ℕ → ℕ) (m n : ℕ) → total (λ l. total (f l) n) m ≡ total (λ p. total (λ l. f l p) m) n
swap f m zero = sum_none (λ l. total (f l) zero) m (λ l lt. refl)
swap f m (suc n) =
    let two = sum_two (λ l. total (f l) (suc n)) (λ l. total (f l) n) (λ l. f l n) m (λ l. more (f l) n) in
    let rest = swap f m n in
    omega (arith, two, rest, more (λ p. total (λ l. f l p) m) n)

one : (k b n : ℕ) → k < n → total (λ l. cond (k == l) b 0) n ≡ b
one k b zero lt = absurd (omega (arith, lt))
one k b (suc n) lt = elim (cases_eq k n) [
  | inl e ↦
      let rest = sum_none (λ l. cond (k == l) b 0) n (λ l less. ap (λ x. cond x b 0) (ne_eqb k l (λ same. omega (arith, less, e, same)))) in
      let last : cond (k == n) b 0 ≡ b = ap (λ x. cond x b 0) (eq-eqb k n e) in
      omega (arith, more (λ l. cond (k == l) b 0) n, rest, last)
  | inr ne ↦
      let rest = one k b n (omega (arith, lt, ne)) in
      let last : cond (k == n) b 0 ≡ 0 = ap (λ x. cond x b 0) (ne_eqb k n ne) in
      omega (arith, more (λ l. cond (k == l) b 0) n, rest, last)
]

-- ---- a log, whose pointers are freed one after the other
cleared : (ℕ → ℕ) → ℕ → ℕ → ℕ
cleared cell zero = cell
cleared cell (suc k) = put (cleared cell k) k 0

uncleared : (cell : ℕ → ℕ) (k j : ℕ) → k ≤ j → cleared cell k j ≡ cell j
unfolding cleared
uncleared cell zero j le = refl
uncleared cell (suc k) j le = put_other (cleared cell k) k 0 j (λ e. omega (arith, le, e)) ∙ uncleared cell k j (omega (arith, le))

is_cleared : (cell : ℕ → ℕ) (k j : ℕ) → j < k → cleared cell k j ≡ 0
unfolding cleared
is_cleared cell zero j lt = absurd (omega (arith, lt))
is_cleared cell (suc k) j lt = elim (cases_eq j k) [
  | inl e ↦ put_same (cleared cell k) k 0 j e
  | inr ne ↦ put_other (cleared cell k) k 0 j ne ∙ is_cleared cell k j (omega (arith, lt, ne))
]

none_taken : (f : Span → Bool) (xs : List Span) → ((x : Span) → f x ≡ false) → taken_by f xs ≡ 0
none_taken f [] none = refl
none_taken f (x ∷ xs) none =
    let first : cond (f x) (bytes_taken x.len) 0 ≡ 0 = ap (λ b. cond b (bytes_taken x.len) 0) (none x) in
    let rest = none_taken f xs none in
    omega (arith, first, rest)

module _ (s : State) (sound : Sound s) (l : ℕ) where
  abbrev named : (ℕ → ℕ) → Span → Bool
  named cell x = names_place (read_of (cell x.p)) l x.at

  abbrev at_log : ℕ → ℕ
  at_log p = bytes_at l (read_of (s.cell p))

  freed : (at : ℕ) → names_place (read_of 0) l at ≡ false
  freed at = ap (λ o. names_place o l at) unused

  abbrev Steps : ℕ → Type 0
  Steps k = taken_by (named (put (cleared s.cell k) k 0)) (spans_of s l) + at_log k ≡ taken_by (named (cleared s.cell k)) (spans_of s l)

  -- one that isn't near
  quiet : (k : ℕ) (o : Option PtrWord) → read_of (s.cell k) ≡ o → ((at : ℕ) → names_place o l at ≡ false) → bytes_at l o ≡ 0 → Steps k
  quiet k o e off none =
      let was : (at : ℕ) → names_place (read_of (cleared s.cell k k)) l at ≡ false = λ at. ap (λ w. names_place (read_of w) l at) (uncleared s.cell k k (omega arith)) ∙ ap (λ v. names_place v l at) e ∙ off at in
      let same : taken_by (named (put (cleared s.cell k) k 0)) (spans_of s l) ≡ taken_by (named (cleared s.cell k)) (spans_of s l) =
      taken_same (named (put (cleared s.cell k) k 0)) (named (cleared s.cell k)) (spans_of s l) (λ x h. put_both (λ w. names_place (read_of w) l x.at ≡ names_place (read_of (cleared s.cell k x.p)) l x.at) (cleared s.cell k) k 0 x.p
      (λ here. freed x.at ∙ sym (ap (λ q. names_place (read_of (cleared s.cell k q)) l x.at) here ∙ was x.at)) (λ _. refl)) in
      let zeros : at_log k ≡ 0 = ap (bytes_at l) e ∙ none in
      omega (arith, same, zeros)

  step : (k : ℕ) → Steps k
  step k = by (read_of (s.cell k)) refl where
    by : (o : Option PtrWord) → read_of (s.cell k) ≡ o → Steps k
    by (Some (Near len ds place marks)) e =
        let was = uncleared s.cell k k (omega arith) in
        ap (λ w. taken_by (named (put (cleared s.cell k) k 0)) (spans_of s l) + bytes_at l (read_of w)) (sym was)
        ∙ falls (cleared s.cell k) k 0 len ds place marks (ap read_of was ∙ e) l (spans_of s l) (s.tail l) (sound.tile l) (λ here. subst (λ j. Contains (spans_of s j) (span_for k len ds place.at)) (sym here) (sound.placed k len ds place marks e)) (λ x h. freed x.at)
    by (Some (Far len ds marks)) e = quiet k (Some (Far len ds marks)) e (λ at. refl) refl
    by (Some Free) e = quiet k (Some Free) e (λ at. refl) refl
    by None e = quiet k None e (λ at. refl) refl

  all_steps : (k : ℕ) → taken_by (named (cleared s.cell k)) (spans_of s l) + total at_log k ≡ live_bytes s l
  unfolding cleared
  all_steps zero = (let same : taken_by (named s.cell) (spans_of s l) ≡ live_bytes s l = refl in let none : total at_log zero ≡ 0 = refl in omega (arith, same, none))
  all_steps (suc k) = (let first = step k in let rest = all_steps k in omega (arith, first, rest, more at_log k))

  module _ (n : ℕ) (ends : (p len ds : ℕ) (place : Place) (marks : Marks) → read_of (s.cell p) ≡ Some (Near len ds place marks) → p < n) where
    behind : (p at : ℕ) → n ≤ p → names_place (read_of (s.cell p)) l at ≡ false
    behind p at le = by (read_of (s.cell p)) refl where
      by : (o : Option PtrWord) → read_of (s.cell p) ≡ o → names_place o l at ≡ false
      by (Some (Near len ds place marks)) e = (let lt = ends p len ds place marks e in absurd (omega (arith, lt, le)))
      by (Some (Far len ds marks)) e = refl
      by (Some Free) e = refl
      by None e = refl

    none_named : (x : Span) → named (cleared s.cell n) x ≡ false
    none_named x = elim (cases_lt x.p n) [
      | inl lt ↦ ap (λ w. names_place (read_of w) l x.at) (is_cleared s.cell n x.p lt) ∙ freed x.at
      | inr le ↦ ap (λ w. names_place (read_of w) l x.at) (uncleared s.cell n x.p le) ∙ behind x.p x.at le
    ]

    live_sum : live_bytes s l ≡ total at_log n
    live_sum = (let none = none_taken (named (cleared s.cell n)) (spans_of s l) none_named in let all = all_steps n in omega (arith, none, all))

-- ---- all logs
at_one : (n : ℕ) (o : Option PtrWord) → ((len ds : ℕ) (place : Place) (marks : Marks) → o ≡ Some (Near len ds place marks) → place.log < n) → total (λ l. bytes_at l o) n ≡ bytes_near o
at_one n (Some (Near len ds place marks)) inside = one place.log (bytes_taken len) n (inside len ds place marks refl)
at_one n (Some (Far len ds marks)) inside = sum_none (λ l. 0) n (λ l lt. refl)
at_one n (Some Free) inside = sum_none (λ l. 0) n (λ l lt. refl)
at_one n None inside = sum_none (λ l. 0) n (λ l lt. refl)

all_live : (s : State) → Sound s → (n : ℕ) → ((p len ds : ℕ) (place : Place) (marks : Marks) → read_of (s.cell p) ≡ Some (Near len ds place marks) → p < n) →
    total (live_bytes s) s.logs ≡ total (λ p. bytes_near (read_of (s.cell p))) n
all_live s sound n ends =
    sum_same (live_bytes s) (λ l. total (λ p. bytes_at l (read_of (s.cell p))) n) s.logs (λ l lt. live_sum s sound l n ends)
    ∙ swap (λ l p. bytes_at l (read_of (s.cell p))) s.logs n
    ∙ sum_same (λ p. total (λ l. bytes_at l (read_of (s.cell p))) s.logs) (λ p. bytes_near (read_of (s.cell p))) n (λ p lt. at_one s.logs (read_of (s.cell p)) (sound.inside p))

-- ---- as users see it
near_room : (h : Bool) (word stored : ℕ → ℕ) (p : ℕ) (o : Option PtrWord) → ((len ds : ℕ) (place : Place) (marks : Marks) → o ≡ Some (Near len ds place marks) → not marks.dropped ≡ true) →
    bytes_near o ≡ cond (says_far o) 0 (room_of (seen h (object_of word stored p o)))
near_room h word stored p (Some (Near len ds place m)) alive = by m.dropped (alive len ds place m refl) where
  by : (d : Bool) → not d ≡ true → bytes_taken len ≡ room_of (seen h (cond d None (Some record { owner = p / CELLS; ds = ds; bytes = bytes_of (λ i. word (addr place + 1 + i)) len; home = Group place.log })))
  by false e = ap bytes_taken (sym (length-bytes_of (λ i. word (addr place + 1 + i)) len))
  by true e = absurd (false≢true e)
near_room h word stored p (Some (Far len ds m)) alive = by m.dropped where
  by : (d : Bool) → 0 ≡ cond (not d) 0 (room_of (seen h (cond d None (Some record { owner = p / CELLS; ds = ds; bytes = bytes_of stored len; home = FarSide }))))
  by false = refl
  by true = refl
near_room h word stored p (Some Free) alive = refl
near_room h word stored p None alive = refl

module _ (s : State) (law : Law s) (settled : Settled s) where
  near_alive : (p len ds : ℕ) (place : Place) (marks : Marks) → read_of (s.cell p) ≡ Some (Near len ds place marks) → not marks.dropped ≡ true
  near_alive p len ds place marks e =
      let busy : s.cell p ≢ 0 = λ z. (let odd : Some Free ≡ Some (Near len ds place marks) = sym unused ∙ ap read_of (sym z) ∙ e in cc) in
      sym (ap in_use e) ∙ law.views.used_cell p (settled.named p busy)

  module _ (v : Heap) (is : heap_of (objects_of s) ≡ v) (ends : EndsThere (objects_of s)) where
    room_so : (p : ℕ) → bytes_near (read_of (s.cell p)) ≡ cond (lies_far s p) 0 (room_of (object v p))
    unfolding lies_far world_of
    room_so p = near_room s.honest s.word (s.stored p) p (read_of (s.cell p)) (near_alive p) ∙ ap (λ (x : Option Object). cond (says_far (read_of (s.cell p))) 0 (room_of x)) (sym (object_so (objects_of s) v is ends p))

    pub live_so : (live : ℕ) → live ≡ sum (map (live_bytes s) (range_with_len 0 s.logs)) → live ≡ sum (map (λ p. cond (lies_far s p) 0 (room_of (object v p))) (range_with_len 0 2048))
    live_so live sums =
        let sound = sound_of s (own_law s law) in
        sums ∙ all_live s sound 2048 sound.pointer ∙ ap (λ (f : ℕ → ℕ). sum (map f (range_with_len 0 2048))) (fun_ext room_so)
