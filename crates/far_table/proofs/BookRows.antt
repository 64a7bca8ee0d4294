-- Steps of the book's seat in a row: what each asks and tells by the address of its word, and that rows of them are rows of its struct's calls.
use Rattle.std.proofs.Common.{◌≡◌, ◌≢◌, ◌∙◌, ℕ, zero, suc, ◌+◌, ◌*◌, ◌<◌, ◌≤◌, ◌^◌, arith, refl, sym, ap, subst, List}
use Rattle.std.specs.Arc.{arc_value}
use mathlib.Core.Option.{none}
use Rattle.atomic_table.specs.declared.shared.Seat.{Seat}
use Rattle.atomic_table.specs.Seated.{TableId}
use Rattle.atomic_table.specs.Table.{Allows, Me, step}
use Rattle.far_word.specs.declared.pointer.Place.{Place}
use Rattle.far_word.specs.declared.sizes.TheConstants.{LOG_WORDS}
use Rattle.far_events.specs.declared.event.Event.{Event}
use Rattle.far_events.specs.declared.event.Event.TheVariants.{Put}
use Rattle.far_events.specs.declared.event.Reply.{Reply}
use Rattle.far_events.specs.events.Legal.{Legal}
use Rattle.far_events.specs.state.State.{State}
use Rattle.far_hand.specs.Ranges.{CopiesRow, CopiesWord, HasRead, InTurn, IsPast, IsWithin, ReadsRow, ReadsWord, WritesRow, WritesWord}
use Rattle.far_hand.proofs.Ranges.{copies_rest, one_read_rest, turns_keep, writes_rest}
use Rattle.far_table.specs.declared.book.BookSeat.{BookSeat}
use Rattle.far_table.specs.BookPlays.{Got, Putted}
use Rattle.far_table.specs.BookRows.{InPart, IsPart, Leads, PartOk, part_makes, part_view}
use Rattle.far_table.specs.BookSeats.{seat_makes, seat_view}
use Rattle.far_table.specs.Layout.{LOGS_AT, data_at}
use Rattle.far_table.specs.Rule.{Running}
use Rattle.far_table.specs.StateOf.{book_state}
use Rattle.far_table.specs.Stands.{BookOk, IsPlain, book_of}
use Rattle.far_table.specs.View.{Book, View}
use Rattle.far_table.proofs.BookWords.{reads_word, writes_word}

-- ---- one step, by the address of its word
module _ {S : Type 0} (slots id : ℕ) (me : Me S View) (is : me.0 ≡ Book (book_of me.0)) (plain : IsPlain (book_of me.0)) (l at a : ℕ) (inside : at < LOG_WORDS) (address : a ≡ l * LOG_WORDS + at) where
  word_at : data_at (l * LOG_WORDS + at) ≡ a + LOGS_AT
  word_at = ap data_at (sym address)

  pub gets_at : l < (book_of me.0).logs → Allows Running slots id me (a + LOGS_AT) (λ n. n) (Got (step slots (a + LOGS_AT) 0 0 none) me)
  gets_at low = subst (λ z. Allows Running slots id me z (λ n. n) (Got (step slots z 0 0 none) me)) word_at (reads_word slots id me is plain l at inside low)

  pub puts_at : (w : ℕ) → w < 2 ^ 64 → Legal (book_state (book_of me.0)) (Put l at w) → Allows Running slots id me (a + LOGS_AT) (λ _. w) (λ _. Putted (step slots (a + LOGS_AT) w 0 none) me w)
  puts_at w fits legal = subst (λ z. Allows Running slots id me z (λ _. w) (λ _. Putted (step slots z w 0 none) me w)) word_at (writes_word slots id me is plain l at inside w fits legal)

-- ---- what rows of steps leave
-- so many words of a log, of those that lie there or past its tail in a state of which this one has other words
pub within_on : (s t : State) → t ≡ record s { word = t.word } → (l at n b m : ℕ) → IsWithin s l at n → b + m ≤ at + n → IsWithin t l b m
within_on s t is l at n b m h last = (subst (λ (x : State). l < x.logs) (sym is) h.0, omega (arith, h.1, last))

pub past_on : (s t : State) → t ≡ record s { word = t.word } → (l at n b m : ℕ) → IsPast s l at n → at ≤ b → b + m ≤ at + n → IsPast t l b m
past_on s t is l at n b m h first last =
    let tails : t.tail l ≡ s.tail l = ap (λ (x : State). x.tail l) is in
    (subst (λ (x : State). l < x.logs) (sym is) h.0, λ e. h.1 (ap (λ (x : State). x.kind l) (sym is) ∙ e), omega (arith, h.2, tails, first), omega (arith, h.3, last))

module _ (here : TableId) where
  module _ (logs mutators epoch : ℕ) where
    abbrev made : Seat ℕ View → Event → Reply → Seat ℕ View → Type 0
    made = part_makes here logs mutators epoch

    pub reads_ok : (l at : ℕ) (row : ℕ → ℕ) (i n : ℕ) (s t : Seat ℕ View) → ReadsRow ⊥ part_view made l at row i n s t → PartOk here logs mutators epoch s → PartOk here logs mutators epoch t
    reads_ok l at row i n s t = turns_keep (λ j. ReadsWord ⊥ part_view made l (at + j) (row j)) (PartOk here logs mutators epoch) (λ j u v h _. h.made.2) i n s t

    pub writes_ok : (l at : ℕ) (row : ℕ → ℕ) (i n : ℕ) (s t : Seat ℕ View) → WritesRow ⊥ part_view made l at row i n s t → PartOk here logs mutators epoch s → PartOk here logs mutators epoch t
    writes_ok l at row i n s t = turns_keep (λ j. WritesWord ⊥ part_view made l (at + j) (row j)) (PartOk here logs mutators epoch) (λ j u v h _. h.made.2) i n s t

    pub copies_ok : (from to : Place) (i n : ℕ) (s t : Seat ℕ View) → CopiesRow ⊥ part_view made from to i n s t → PartOk here logs mutators epoch s → PartOk here logs mutators epoch t
    copies_ok from to i n s t = turns_keep (CopiesWord ⊥ part_view made from to) (PartOk here logs mutators epoch) (λ j u v h _. h.wrote.made.2) i n s t

  -- none, and some after some
  pub leads_none : (s : Seat ℕ View) → Leads here s s
  leads_none s = record { ok = λ logs mutators epoch ok. ok; rest = refl }

  pub leads_then : (s t u : Seat ℕ View) → Leads here s t → Leads here t u → Leads here s u
  leads_then s t u a b = record {
    ok = λ logs mutators epoch ok. b.ok logs mutators epoch (a.ok logs mutators epoch ok);
    rest = b.rest ∙ ap (λ (x : State). record x { word = (part_view u).word }) a.rest;
  }

  pub part_on : (s t : Seat ℕ View) → Leads here s t → IsPart here s → IsPart here t
  part_on s t a part = (part.0, part.1, part.2, a.ok part.0 part.1 part.2 part.3)

  module _ (s t : Seat ℕ View) (part : IsPart here s) where
    pub reads_lead : (l at w : ℕ) → InPart here s (λ makes. ReadsWord ⊥ part_view makes l at w s t) → Leads here s t
    reads_lead l at w h = record {
      ok = λ logs mutators epoch ok. (h logs mutators epoch ok).made.2;
      rest = one_read_rest ⊥ part_view (part_makes here part.0 part.1 part.2) l at w s t (h part.0 part.1 part.2 part.3);
    }

    pub writes_lead : (l at : ℕ) (row : ℕ → ℕ) (i n : ℕ) → InPart here s (λ makes. WritesRow ⊥ part_view makes l at row i n s t) → Leads here s t
    writes_lead l at row i n h = record {
      ok = λ logs mutators epoch ok. writes_ok logs mutators epoch l at row i n s t (h logs mutators epoch ok) ok;
      rest = writes_rest ⊥ part_view (part_makes here part.0 part.1 part.2) l at row i n s t (h part.0 part.1 part.2 part.3);
    }

    pub copies_lead : (from to : Place) (i n : ℕ) → InPart here s (λ makes. CopiesRow ⊥ part_view makes from to i n s t) → Leads here s t
    copies_lead from to i n h = record {
      ok = λ logs mutators epoch ok. copies_ok logs mutators epoch from to i n s t (h logs mutators epoch ok) ok;
      rest = copies_rest ⊥ part_view (part_makes here part.0 part.1 part.2) from to i n s t (h part.0 part.1 part.2 part.3);
    }

-- ---- rows of the struct's calls
module _ {D : Type 0} (s : BookSeat D) where
  abbrev table : TableId
  table = (arc_value s.table).shared.table_id

  abbrev makes : Seat ℕ View → Event → Reply → Seat ℕ View → Type 0
  makes = part_makes table s.logs s.mutators s.epoch

  -- its own part, of a table that is the same
  pub own_part : (there : TableId) → there ≡ table → PartOk there s.logs s.mutators s.epoch s.seat
  own_part there same = record { fits = subst (λ h. BookOk s.seat.table_id h s.seat.me.0 s.logs s.mutators s.epoch) (sym same) s.fits; stands = s.stands }

  -- the struct with another part
  abbrev seated : (u : Seat ℕ View) → PartOk table s.logs s.mutators s.epoch u → BookSeat D
  seated u ok = record s { seat = u; fits = ok.fits; stands = ok.stands }

  module _ (other : ℕ → Seat ℕ View → Seat ℕ View → Type 0) (call : ℕ → BookSeat D → BookSeat D → Type 0) (ok : (i : ℕ) (u v : Seat ℕ View) → other i u v → PartOk table s.logs s.mutators s.epoch v)
      (same : (i : ℕ) (x y : BookSeat D) → other i x.seat y.seat → call i x y) where
    lift_row : (i n : ℕ) (t : BookSeat D) → InTurn other i (suc n) s.seat t.seat → InTurn call i (suc n) s t
    lift_row i zero t (v, before, last) = (s, refl, same (i + 0) s t (subst (λ z. other (i + 0) z t.seat) before last))
    lift_row i (suc n) t (v, before, last) = let mid : BookSeat D = seated v (ok (i + n) before.0 v before.2) in (mid, lift_row i n mid before, same (i + suc n) mid t last)

    lift_some : (i n : ℕ) (t : BookSeat D) → n ≢ 0 → InTurn other i n s.seat t.seat → InTurn call i n s t
    lift_some i zero t some h = absurd (some refl)
    lift_some i (suc n) t some h = lift_row i n t h

  read_same : (l at w : ℕ) (x y : BookSeat D) → ReadsWord ⊥ part_view makes l at w x.seat y.seat → ReadsWord ⊥ (seat_view {D = D}) seat_makes l at w x y
  read_same l at w x y h = record { fits = h.fits; gets = h.gets; exact = h.exact; same = h.same; made = (h.made.0, h.made.1) }

  write_same : (l at w : ℕ) (x y : BookSeat D) → WritesWord ⊥ part_view makes l at w x.seat y.seat → WritesWord ⊥ (seat_view {D = D}) seat_makes l at w x y
  write_same l at w x y h = record { set = h.set; made = (h.made.0, h.made.1) }

  module _ (t : BookSeat D) (n : ℕ) (some : n ≢ 0) where
    pub reads_lift : (l at : ℕ) (row : List ℕ) → HasRead ⊥ part_view makes l at s.seat t.seat n row → HasRead ⊥ (seat_view {D = D}) seat_makes l at s t n row
    reads_lift l at row (word, turns, front) = (
      word,
      lift_some (λ i. ReadsWord ⊥ part_view makes l (at + i) (word i)) (λ i. ReadsWord ⊥ (seat_view {D = D}) seat_makes l (at + i) (word i)) (λ i u v h. h.made.2) (λ i x y h. read_same l (at + i) (word i) x y h) 0 n t some turns,
      front,
    )

    pub writes_lift : (l at : ℕ) (row : ℕ → ℕ) → WritesRow ⊥ part_view makes l at row 0 n s.seat t.seat → WritesRow ⊥ (seat_view {D = D}) seat_makes l at row 0 n s t
    writes_lift l at row = lift_some (λ i. WritesWord ⊥ part_view makes l (at + i) (row i)) (λ i. WritesWord ⊥ (seat_view {D = D}) seat_makes l (at + i) (row i)) (λ i u v h. h.made.2)
        (λ i x y h. write_same l (at + i) (row i) x y h) 0 n t some

    pub copies_lift : (from to : Place) → CopiesRow ⊥ part_view makes from to 0 n s.seat t.seat → CopiesRow ⊥ (seat_view {D = D}) seat_makes from to 0 n s t
    copies_lift from to = lift_some (CopiesWord ⊥ part_view makes from to) (CopiesWord ⊥ (seat_view {D = D}) seat_makes from to) (λ i u v h. h.wrote.made.2)
        (λ i x y h. let mid : BookSeat D = seated h.middle h.read.made.2 in record {
          middle = mid;
          word = h.word;
          read = read_same from.log (from.at + 1 + i) h.word x mid h.read;
          wrote = write_same to.log (to.at + 1 + i) h.word mid y h.wrote;
        }) 0 n t some
