-- The effects of the book's calls are reached by legal events.
use Rattle.std.proofs.Common.{◌≡◌, ℕ, ◌+◌, ◌*◌, ◌^◌, ◌<◌, ◌≤◌, true, cond, arith, sym, refl, ap, subst, ◌∙◌, Some, List, [], ◌∷◌, ◌++◌, map}
use Rattle.std.specs.Prelude.{◌≢◌, All}
use Rattle.std.specs.List.{range_with_len}
use Rattle.std.proofs.lemmas.Bool.{eq-eqb}
use Rattle.std.proofs.lemmas.List.Elements.{All-append, All-cons, All-head, All-map, All-nil, All-tail}
use Rattle.std.proofs.lemmas.List.FromFn.{get_or-range_with_len, length-range_with_len}
use Rattle.far_word.specs.declared.pointer.Place.{Place}
use Rattle.far_word.specs.declared.pointer.PtrWord.TheVariants.{Near}
use Rattle.far_word.specs.declared.sizes.TheConstants.{LOG_WORDS}
use Rattle.far_word.specs.Header.{IsHead, head_word}
use Rattle.far_word.specs.Pointer.{IsPtr, read_of}
use Rattle.far_word.specs.Sizes.{size_of, words_for}
use Rattle.far_word.proofs.HeaderLaws.{head_fits}
use Rattle.far_word.proofs.PointerLaws.{word_fits, read_back}
use Rattle.far_events.specs.declared.event.Event.{Event}
use Rattle.far_events.specs.declared.event.Event.TheVariants as events
use Rattle.far_events.specs.declared.event.Kind.TheVariants.{Sealed}
use Rattle.far_events.specs.declared.event.Reply.{Reply}
use Rattle.far_events.specs.declared.event.Reply.TheVariants.{Done, Refused, Word}
use Rattle.far_events.specs.declared.naming.Naming.{Naming}
use Rattle.far_events.specs.declared.naming.Naming.TheVariants as naming
use Rattle.far_events.specs.events.Legal.{IsNext, Legal}
use Rattle.far_events.specs.events.Name.{change_by}
use Rattle.far_events.specs.events.Naming.{no_marks, naming_of, unmarked}
use Rattle.far_events.specs.events.Ranges.{AllLegal, after_events, with_row}
use Rattle.far_events.specs.events.Step.{Fits, after, answer, step_of}
use Rattle.far_core.specs.laws.Rooms.{IsRoom, RoomIs}
use Rattle.far_events.specs.state.Law.{Law}
use Rattle.far_events.specs.state.State.{State, addr, put}
use Rattle.far_core.specs.world.Changes.{StepOf}
use Rattle.far_core.specs.world.Happens.{Happens}
use Rattle.far_core.specs.world.WorldOf.{world_of}
use Rattle.far_events.proofs.Cells.{unused}
use Rattle.far_core.proofs.Keeps.{step_keeps}
use Rattle.far_events.proofs.NewSpans.{at_tail}
use Rattle.far_core.proofs.Owing.{keeps, does, is_test}
use Rattle.far_core.proofs.Ranges.{row_made}
use Rattle.far_core.proofs.RoomLaws.{room_right}
use Rattle.far_book.specs.book.Effects.{near_word, with_written_span}
use Rattle.far_book.specs.book.Laws.{PlacingIsLegal, RetiringIsLegal}
use Rattle.far_book.specs.book.Reached.{IsOfBook, Reached}
use Rattle.far_book.proofs.region.Calls.{may_name}
use Rattle.far_book.proofs.region.Effects.{is_placed, is_freed}
use Rattle.far_book.proofs.region.Places.{next_unsealed}
use Rattle.far_book.proofs.region.Retires.{may_retire, retires_form}

-- ---- what is reached
-- a legal event is made
pub made_by : (s : State) (e : Event) → Legal s e → (step_of s e).0 ≡ after s e
made_by s e legal = ap (λ (x : State × Reply). x.0) (ap (λ b. cond b (after s e, answer s e) (s, Refused)) (is_test s e legal))

-- one event leads to the state after it
pub reached_one : (s : State) (e : Event) → Legal s e → Fits e → IsOfBook e → Reached s (after s e)
reached_one s e legal fits book = record { made = e ∷ []; legal = (legal, tt); fits = All-cons Fits e [] fits (All-nil Fits); of_book = All-cons IsOfBook e [] book (All-nil IsOfBook); leads = sym (made_by s e legal) }

-- events after others
after_more : (s : State) (es ds : List Event) → after_events s (es ++ ds) ≡ after_events (after_events s es) ds
after_more s [] ds = refl
after_more s (e ∷ es) ds = after_more (step_of s e).0 es ds

legal_more : (s : State) (es ds : List Event) → AllLegal s es → AllLegal (after_events s es) ds → AllLegal s (es ++ ds)
legal_more s [] ds first then = then
legal_more s (e ∷ es) ds first then = (first.0, legal_more (step_of s e).0 es ds first.1 then)

pub reached_more : (s t u : State) → Reached s t → Reached t u → Reached s u
reached_more s t u a b = record {
  made = a.made ++ b.made;
  legal = legal_more s a.made b.made a.legal (subst (λ v. AllLegal v b.made) a.leads b.legal);
  fits = All-append Fits a.made b.made a.fits b.fits;
  of_book = All-append IsOfBook a.made b.made a.of_book b.of_book;
  leads = b.leads ∙ (ap (λ v. after_events v b.made) a.leads ∙ sym (after_more s a.made b.made));
}

-- the law stays
law_after : (s : State) (es : List Event) → Law s → All Fits es → Law (after_events s es)
law_after s [] law fits = law
law_after s (e ∷ es) law fits = law_after (step_of s e).0 es (step_keeps s e law (All-head Fits e es fits)) (All-tail Fits e es fits)

pub reached_law : (s t : State) → Law s → Reached s t → Law t
reached_law s t law way = subst Law (sym way.leads) (law_after s way.made law way.fits)

-- ---- a row of words is put past a tail: the world doesn't see them
module _ (s : State) (law : Law s) (l at count : ℕ) (row : ℕ → ℕ) (log : l < s.logs) (unsealed : s.kind l ≢ Sealed) (past : s.tail l ≤ at) (inside : at + count ≤ LOG_WORDS)
    (wide : (k : ℕ) → k < count → row k < 2 ^ 64) where
  abbrev put_word : ℕ → Event
  put_word k = events.Put l (at + k) (row k)

  abbrev Lies : State → Type 0
  Lies u = Law u × (l < u.logs) × (u.kind l ≢ Sealed) × (u.tail l ≤ at) × (world_of u ≡ world_of s)

  word_legal : (u : State) → Lies u → (k : ℕ) → k < count → Legal u (put_word k)
  word_legal u good k lt = (good.1, good.2, omega (arith, good.3), omega arith)

  word_made : (u : State) → Lies u → (k : ℕ) → k < count → after u (put_word k) ≡ record u { word = put u.word (l * LOG_WORDS + at + k) (row k) }
  word_made u good k lt = let same : l * LOG_WORDS + (at + k) ≡ l * LOG_WORDS + at + k = omega arith in ap (λ a. record u { word = put u.word a (row k) }) same

  word_stays : (u : State) → Lies u → (k : ℕ) → k < count → Lies (after u (put_word k))
  word_stays u good k lt = (keeps u (put_word k) good.0 (wide k lt) (word_legal u good k lt), good.1, good.2, good.3, does u (put_word k) good.0 (wide k lt) (word_legal u good k lt) ∙ good.4)

  abbrev rowed : State
  rowed = record s { word = with_row s.word (l * LOG_WORDS + at) count row }

  all : AllLegal s (map put_word (range_with_len 0 count)) × Lies (after_events s (map put_word (range_with_len 0 count))) × (after_events s (map put_word (range_with_len 0 count)) ≡ rowed)
  all = row_made put_word (l * LOG_WORDS + at) count row Lies word_legal word_made word_stays s (law, log, unsealed, past, refl)

  pub reached_row : Reached s rowed
  reached_row = record {
    made = map put_word (range_with_len 0 count);
    legal = all.0;
    fits = All-map Fits put_word (range_with_len 0 count) (λ k d lt.
        let below : k < count = omega (arith, length-range_with_len 0 count) in
        let one : 0 + k ≡ k = omega arith in
        subst (λ i. row i < 2 ^ 64) (sym (get_or-range_with_len 0 count k d below ∙ one)) (wide k below));
    of_book = All-map IsOfBook put_word (range_with_len 0 count) (λ k d lt. tt);
    leads = sym all.2;
  }

  pub row_unseen : world_of rowed ≡ world_of s
  row_unseen = ap world_of (sym all.2) ∙ all.1.4

-- ---- a cell is named, in a form that is known
module _ (s : State) (law : Law s) (p old new : ℕ) (form : Naming) (is : s.cell p ≡ old) (known : naming_of (read_of old) (read_of new) ≡ Some form)
    (fits : (old < 2 ^ 64) × (new < 2 ^ 64)) (legal : Legal s (events.Name p old new)) where
  abbrev name : Event
  name = events.Name p old new

  pub named : Reached s (after s name) × Law (after s name) × StepOf (change_by p (Some form)) (world_of s) (world_of (after s name))
  named =
      let done : answer s name ≡ Done = ap (λ b. cond b Done (Word (s.cell p))) (eq-eqb (s.cell p) old is) in
      let happens = subst (λ r. Happens (world_of s) name r (world_of (after s name))) done (does s name law fits legal) in
      (reached_one s name legal fits tt, keeps s name law fits legal, subst (λ o. StepOf (change_by p o) (world_of s) (world_of (after s name))) known happens)

-- ---- a span is written at the end of a log: its header is put, and a row of words behind it
module _ (s : State) (law : Law s) (p len ds : ℕ) (place : Place) (row : ℕ → ℕ) (head : IsHead record { pointer = p; len = len; ds = ds }) (next : IsNext s place)
    (inside : place.at + size_of len ≤ LOG_WORDS) (wide : (k : ℕ) → k < words_for len → row k < 2 ^ 64) where
  at_end : place.at ≡ s.tail place.log
  at_end = at_tail s law place next

  abbrev put_header : Event
  put_header = events.Put place.log place.at (head_word p len ds)

  abbrev headed : State
  headed = after s put_header

  header_legal : Legal s put_header
  header_legal = (next.0, next_unsealed s place next, omega (arith, at_end), omega (arith, inside))

  law_headed : Law headed
  law_headed = keeps s put_header law (head_fits _ head) header_legal

  abbrev written : State
  written = with_written_span s p len ds place row

  written_is : record headed { word = with_row headed.word (place.log * LOG_WORDS + (place.at + 1)) (words_for len) row } ≡ written
  written_is = let behind : place.log * LOG_WORDS + (place.at + 1) ≡ addr place + 1 = omega arith in ap (λ a. record headed { word = with_row headed.word a (words_for len) row }) behind

  past : headed.tail place.log ≤ place.at + 1
  past = omega (arith, at_end)

  room_behind : place.at + 1 + words_for len ≤ LOG_WORDS
  room_behind = omega (arith, inside)

  reached_written : Reached s written
  reached_written = reached_more s headed written (reached_one s put_header header_legal (head_fits _ head) tt)
      (subst (Reached headed) written_is (reached_row headed law_headed place.log (place.at + 1) (words_for len) row next.0 (next_unsealed s place next) past room_behind wide))

  unseen : world_of written ≡ world_of s
  unseen = ap world_of (sym written_is)
      ∙ (row_unseen headed law_headed place.log (place.at + 1) (words_for len) row next.0 (next_unsealed s place next) past room_behind wide ∙ does s put_header law (head_fits _ head) header_legal)

  -- and a cell is named then: the world sees that alone
  pub written_named : (old new : ℕ) (form : Naming) → s.cell p ≡ old → naming_of (read_of old) (read_of new) ≡ Some form → (old < 2 ^ 64) × (new < 2 ^ 64) → Legal written (events.Name p old new) →
      let t = after written (events.Name p old new) in Reached s t × Law t × StepOf (change_by p (Some form)) (world_of s) (world_of t)
  written_named old new form is known fits legal =
      let t = after written (events.Name p old new) in
      let all = named written (reached_law s written law reached_written) p old new form is known fits legal in
      (reached_more s written t reached_written all.0, all.1, subst (λ w. StepOf (change_by p (Some form)) w (world_of t)) unseen all.2)

-- ---- retiring
pub retiring : RetiringIsLegal
retiring s p law cell dropped =
    let form : naming_of (read_of (s.cell p)) (read_of 0) ≡ Some naming.Retires = ap (naming_of (read_of (s.cell p))) unused ∙ retires_form (read_of (s.cell p)) dropped in
    let all = named s law p (s.cell p) 0 naming.Retires refl form ((law.cells.cell_read p).0, omega arith) (may_retire s p (s.cell p) cell dropped) in
    (all.0, all.1, all.2, is_freed s p dropped)

-- ---- placing
pub placing_legal : PlacingIsLegal
placing_legal s p len ds place law pointer free some most structure found =
    let short : size_of len ≤ LOG_WORDS = omega arith in
    let is_room : IsRoom s (size_of len) true place = subst (RoomIs s (size_of len) true) found (room_right s law (size_of len) true short) in
    let head : IsHead record { pointer = p; len = len; ds = ds } = record { some = some; most = most; structure = structure; cell = omega (arith, law.shape.few_mutators) } in
    let layout : IsPtr (Near len ds place no_marks) = (some, most, structure, omega (arith, is_room.next.0, law.shape.few_logs), is_room.fits) in
    let form : naming_of (read_of 0) (read_of (near_word true len ds place)) ≡ Some (naming.Places len ds place) = rw (unused, read_back (Near len ds place (unmarked true)) layout) refl in
    let fits : (0 < 2 ^ 64) × (near_word true len ds place < 2 ^ 64) = (omega arith, word_fits (Near len ds place (unmarked true)) layout) in
    let legal = may_name s p len ds place pointer layout is_room.next in
    let all = written_named s law p len ds place (λ _. 0) head is_room.next is_room.fits (λ k lt. omega arith) 0 (near_word true len ds place) (naming.Places len ds place) free form fits legal in
    (all.0, all.1, all.2, is_placed s p len ds place law free layout (at_tail s law place is_room.next))
