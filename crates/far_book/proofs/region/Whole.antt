-- What the book's part of the law means for its logs and objects.
use Rattle.std.proofs.Common.{◌≡◌, ◌∙◌, ℕ, ◌+◌, ◌*◌, arith, sym, subst, Option, Some, None, List, inl, inr}
use Rattle.std.specs.Prelude.{All, Contains}
use Rattle.far_word.specs.declared.pointer.Place.{Place}
use Rattle.far_word.specs.declared.sizes.TheConstants.{LOG_WORDS}
use Rattle.far_log.specs.declared.span.Span.{Span}
use Rattle.far_log.specs.Walk.{IsWalk}
use Rattle.far_core.specs.laws.Observed.{live_bytes, dead_bytes, unused_bytes, OneLive, HasOnePlace, NamesOnce, LogsStand, NearHasOneLive, PlacedExactly}
use Rattle.far_core.specs.laws.Rooms.{RoomIs, RoomIsRight}
use Rattle.far_events.specs.state.Law.{Law}
use Rattle.far_core.specs.state.Room.{room}
use Rattle.far_events.specs.state.Spans.{IsOfHeap, spans_of, word_in}
use Rattle.far_events.specs.state.State.{State}
use Rattle.far_core.proofs.Observations as core
use Rattle.far_core.proofs.RoomLaws.{room_right}
use Rattle.far_book.specs.book.Own.{own_part}
use Rattle.far_book.proofs.region.Owns.{own_live, own_dead, own_spans}

module _ (s : State) (law : Law (own_part s)) where
  abbrev o : State
  o = own_part s

  front : (l : ℕ) (x : Span) → Contains (spans_of o l) x → Contains (spans_of s l) x
  front l x = subst (λ (xs : List Span). Contains xs x) (sym (own_spans s law l))

  back : (l : ℕ) (x : Span) → Contains (spans_of s l) x → Contains (spans_of o l) x
  back l x = subst (λ (xs : List Span). Contains xs x) (own_spans s law l)

  pub bytes_make_log : (l : ℕ) → live_bytes s l + dead_bytes s l + unused_bytes s l ≡ 8 * LOG_WORDS
  bytes_make_log l = omega (arith, own_live s law l, own_dead s law l, core.bytes_make_log o law l)

  one_live : (p len ds : ℕ) (place : Place) → OneLive o p len ds place → OneLive s p len ds place
  one_live p len ds place h = record {
    placed = front place.log _ h.placed;
    live = h.live;
    only = λ l span member live is. h.only l span (back l span member) live is;
  }

  pub near_has_one_live : (p : ℕ) → NearHasOneLive s p
  near_has_one_live p len ds place m e = one_live p len ds place (core.near_has_one_live o law p len ds place m e)

  pub has_one_place : (p : ℕ) → HasOnePlace s p
  has_one_place p used = elim (core.has_one_place o law p used) [
    | inl near ↦ inl (near.0, near.1, near.2, near.3, near.4, one_live p near.0 near.1 near.2 near.5)
    | inr far ↦ inr (far.0, far.1, far.2, far.3, far.4, λ l span member. far.5 l span (back l span member))
  ]

  pub names_once : NamesOnce s
  names_once = core.names_once o law

  pub walks : (l : ℕ) → IsWalk (word_in o l) (s.tail l) (spans_of s l)
  walks l = subst (IsWalk (word_in o l) (s.tail l)) (sym (own_spans s law l)) (core.walks o law l)

  pub of_heap : (l : ℕ) → All (IsOfHeap s) (spans_of s l)
  of_heap l = subst (All (IsOfHeap o)) (sym (own_spans s law l)) (core.of_heap o law l)

  pub placed_exactly : (l at : ℕ) → PlacedExactly s l at
  placed_exactly l at lt =
      let h = core.placed_exactly o law l at lt in (
        λ start. (let x = h.0 start in (x.0, front l x.0 x.1, x.2)),
        λ x. h.1 (x.0, back l x.0 x.1, x.2),
      )

  pub logs_stand : LogsStand s
  logs_stand = let h = core.logs_stand o law in record {
    free_empty = λ l free. (let none = h.free_empty l free in (none.0, own_spans s law l ∙ none.1));
    one_open = h.one_open;
  }

  pub room_is_right : RoomIsRight s
  room_is_right size reserve short = at (room s size reserve) (room_right o law size reserve short) where
    at : (found : Option Place) → RoomIs o size reserve found → RoomIs s size reserve found
    at None h = record { full = h.full; one = h.one; none = h.none }
    at (Some place) h = record { next = h.next; fits = h.fits; full = h.full; lowest = h.lowest; left = h.left }
