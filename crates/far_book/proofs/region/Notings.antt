-- What a right ledger says of its state.
use Rattle.std.proofs.Common.{◌≡◌, ◌≢◌, ℕ, ◌+◌, ◌-◌, ◌*◌, ◌<◌, ◌≤◌, Bool, true, false, arith, sym, refl, ap, ◌∙◌, Option, Some, None, inl, inr, nat_lt}
use Rattle.std.specs.Prelude.{◌⊎◌, ◌&&◌}
use Rattle.std.proofs.lemmas.Bool.{cases_order, lt-ltb, false≢true}
use Rattle.std.proofs.lemmas.Bool.Decides.{nat_tests}
use Rattle.far_word.specs.declared.pointer.Place.{Place}
use Rattle.far_word.specs.declared.sizes.TheConstants.{LOG_WORDS}
use Rattle.far_events.specs.declared.event.Kind.{Kind}
use Rattle.far_events.specs.declared.event.Kind.TheVariants as kinds
use Rattle.far_core.specs.laws.Observed.{live_bytes, dead_bytes}
use Rattle.far_core.specs.laws.Rooms.{IsFree, IsFull, IsRoom, IsNoRoom, RoomIs}
use Rattle.far_events.specs.state.Law.{Law}
use Rattle.far_core.specs.state.Room.{room, is_free}
use Rattle.far_events.specs.state.State.{State}
use Rattle.far_core.proofs.Observations.{bytes_make_log}
use Rattle.far_core.proofs.RoomLaws.{room_right}
use Rattle.far_book.specs.declared.ledger.Ledger.{Ledger}
use Rattle.far_book.specs.book.Ledger.{Notes, KnowsLog, filled_of}
use Rattle.far_book.specs.book.NumberSet.{has, IsLowestLeft, HasNoneLeft}
use Rattle.far_book.specs.book.Rows.{row_of}

-- ---- the row of a log
pub tail_small : (s : State) (ledger : Ledger) (l : ℕ) → KnowsLog s ledger l → (filled_of ledger l).tail ≤ LOG_WORDS
tail_small s ledger l (notes, lt) = omega (arith, notes.tails l lt, notes.law.logs.tail_end l)

pub live_small : (s : State) (ledger : Ledger) (l : ℕ) → KnowsLog s ledger l → (filled_of ledger l).live ≤ 8 * (filled_of ledger l).tail
live_small s ledger l (notes, lt) = omega (arith, notes.tails l lt, notes.lives l lt, notes.law.logs.tail_end l, bytes_make_log s notes.law l)

pub row_is : (s : State) (ledger : Ledger) (l : ℕ) → KnowsLog s ledger l →
    record { log = l; live = (filled_of ledger l).live; dead = 8 * (filled_of ledger l).tail - (filled_of ledger l).live; unused = 8 * (LOG_WORDS - (filled_of ledger l).tail) } ≡ row_of s l
row_is s ledger l (notes, lt) =
    let live : (filled_of ledger l).live ≡ live_bytes s l = notes.lives l lt in
    let dead : 8 * (filled_of ledger l).tail - (filled_of ledger l).live ≡ dead_bytes s l = omega (arith, notes.tails l lt, notes.lives l lt, notes.law.logs.tail_end l, bytes_make_log s notes.law l) in
    let unused : 8 * (LOG_WORDS - (filled_of ledger l).tail) ≡ 8 * LOG_WORDS - 8 * s.tail l = omega (arith, notes.tails l lt) in
    λ i. record { log = l; live = live i; dead = dead i; unused = unused i }

-- ---- room
same_place : (a b : Place) → a.log ≡ b.log → a.at ≡ b.at → a ≡ b
same_place a b log at = λ i. record { log = log i; at = at i }

-- two places that are room are one
one_room : (s : State) → Law s → (size : ℕ) (reserve : Bool) (a b : Place) → IsRoom s size reserve a → IsRoom s size reserve b → a ≡ b
one_room s law size reserve a b x y = by_kinds x.next.1 y.next.1 where
  fits_none : (p q : Place) → (s.kind p.log ≡ kinds.Open) × (p.at ≡ s.tail p.log) → p.at + size ≤ LOG_WORDS → IsFull s size → ⊥
  fits_none p q end fits full = full (let log : s.tail p.log ≡ s.tail s.current = ap s.tail (law.logs.one_open p.log end.0) in omega (arith, end.1))

  by_kinds : ((s.kind a.log ≡ kinds.Open) × (a.at ≡ s.tail a.log)) ⊎ ((s.kind a.log ≡ kinds.Free) × (a.at ≡ 0)) →
      ((s.kind b.log ≡ kinds.Open) × (b.at ≡ s.tail b.log)) ⊎ ((s.kind b.log ≡ kinds.Free) × (b.at ≡ 0)) → a ≡ b
  by_kinds (inl h) (inl k) = let logs : a.log ≡ b.log = law.logs.one_open a.log h.0 ∙ sym (law.logs.one_open b.log k.0) in same_place a b logs (h.1 ∙ ap s.tail logs ∙ sym k.1)
  by_kinds (inl h) (inr k) = absurd (fits_none a b h x.fits (y.full k.0))
  by_kinds (inr h) (inl k) = absurd (fits_none b a k y.fits (x.full h.0))
  by_kinds (inr h) (inr k) = elim (cases_order a.log b.log) [
    | inl e ↦ same_place a b e (h.1 ∙ sym k.1)
    | inr order ↦ elim order [
      | inl below ↦ absurd (y.lowest k.0 a.log below h.0)
      | inr above ↦ absurd (x.lowest h.0 b.log above k.0)
    ]
  ]

-- room and no room are never together
never_both : (s : State) → Law s → (size : ℕ) (reserve : Bool) (place : Place) → IsRoom s size reserve place → IsNoRoom s size reserve → ⊥
never_both s law size reserve place x none = by_kind x.next.1 where
  by_free : s.kind place.log ≡ kinds.Free → (b : Bool) → reserve ≡ b → ⊥
  by_free free true e = let left = x.left free e in none.one place.log left.0 left.1 (x.next.0, free) left.2
  by_free free false e = none.none e place.log (x.next.0, free)

  by_kind : ((s.kind place.log ≡ kinds.Open) × (place.at ≡ s.tail place.log)) ⊎ ((s.kind place.log ≡ kinds.Free) × (place.at ≡ 0)) → ⊥
  by_kind (inl h) = none.full (let log : s.tail place.log ≡ s.tail s.current = ap s.tail (law.logs.one_open place.log h.0) in omega (arith, h.1, x.fits))
  by_kind (inr h) = by_free h.0 reserve refl

pub is_room : (s : State) → Law s → (size : ℕ) (reserve : Bool) (place : Place) → size ≤ LOG_WORDS → IsRoom s size reserve place → Some place ≡ room s size reserve
is_room s law size reserve place short x = at_room (room s size reserve) (room_right s law size reserve short) where
  at_room : (o : Option Place) → RoomIs s size reserve o → Some place ≡ o
  at_room None none = absurd (never_both s law size reserve place x none)
  at_room (Some other) y = ap (λ (q : Place). Some q) (one_room s law size reserve place other x y)

pub is_no_room : (s : State) → Law s → (size : ℕ) (reserve : Bool) → size ≤ LOG_WORDS → IsNoRoom s size reserve → None ≡ room s size reserve
is_no_room s law size reserve short none = at_room (room s size reserve) (room_right s law size reserve short) where
  at_room : (o : Option Place) → RoomIs s size reserve o → None ≡ o
  at_room None _ = refl
  at_room (Some place) y = absurd (never_both s law size reserve place y none)

-- ---- the free logs
free_kind : (k : Kind) → is_free k ≡ true → k ≡ kinds.Free
free_kind kinds.Free h = refl
free_kind kinds.Open h = absurd (false≢true h)
free_kind kinds.Sealed h = absurd (false≢true h)

module _ (s : State) (ledger : Ledger) (notes : Notes s ledger) where
  free_is : (l : ℕ) → l < 64 → has ledger.free_logs l ≡ true → IsFree s l
  free_is l few h =
      let both : (nat_lt l s.logs && is_free (s.kind l)) ≡ true = sym (notes.free l few) ∙ h in
      let free : is_free (s.kind l) ≡ true = grind (arith, nat_tests) in
      (grind (arith, nat_tests), free_kind (s.kind l) free)

  has_free : (l : ℕ) → IsFree s l → has ledger.free_logs l ≡ true
  has_free l (within, free) = let few : l < 64 = omega (arith, notes.law.shape.few_logs) in notes.free l few ∙ rw (lt-ltb l s.logs within, free) refl

  not_free : (l : ℕ) → l < 64 → has ledger.free_logs l ≡ false → ¬ IsFree s l
  not_free l few h free = false≢true (sym h ∙ has_free l free)

  -- the open log is full
  full : (size : ℕ) → LOG_WORDS < (filled_of ledger ledger.current).tail + size → IsFull s size
  full size over fit =
      let inside : s.current < s.logs = notes.law.logs.log_range s.current (λ f. let odd : kinds.Open ≡ kinds.Free = sym notes.law.logs.is_open ∙ f in cc) in
      let tail : (filled_of ledger ledger.current).tail ≡ s.tail s.current = ap (λ l. (filled_of ledger l).tail) notes.current ∙ notes.tails s.current inside in
      omega arith

  pub room_here : (size : ℕ) (reserve : Bool) → size ≤ LOG_WORDS → (filled_of ledger ledger.current).tail + size ≤ LOG_WORDS → Some record { log = ledger.current; at = (filled_of ledger ledger.current).tail } ≡ room s size reserve
  room_here size reserve short fit =
      let inside : s.current < s.logs = notes.law.logs.log_range s.current (λ f. let odd : kinds.Open ≡ kinds.Free = sym notes.law.logs.is_open ∙ f in cc) in
      let tail : (filled_of ledger ledger.current).tail ≡ s.tail ledger.current = ap (λ l. (filled_of ledger l).tail) notes.current ∙ notes.tails s.current inside ∙ ap s.tail (sym notes.current) in
      let is_open : s.kind ledger.current ≡ kinds.Open = ap s.kind notes.current ∙ notes.law.logs.is_open in
      let shut : s.kind ledger.current ≢ kinds.Free = (λ f. let odd : kinds.Open ≡ kinds.Free = sym is_open ∙ f in cc) in
      is_room s notes.law size reserve _ short record {
        next = (omega (arith, notes.current), inl (is_open, tail));
        fits = fit;
        full = λ f. absurd (shut f);
        lowest = λ f. absurd (shut f);
        left = λ f. absurd (shut f);
      }

  pub room_free : (size : ℕ) (reserve : Bool) (l : ℕ) → size ≤ LOG_WORDS → LOG_WORDS < (filled_of ledger ledger.current).tail + size → IsLowestLeft ledger.free_logs reserve l → Some record { log = l; at = 0 } ≡ room s size reserve
  room_free size reserve l short over (lowest, other) =
      let free = free_is l lowest.0 lowest.1 in
      is_room s notes.law size reserve _ short record {
        next = (free.0, inr (free.1, refl));
        fits = omega arith;
        full = λ _. full size over;
        lowest = λ _ k below f. not_free k (omega (arith, lowest.0)) (lowest.2 k below) (omega (arith, free.0), f);
        left = λ _ kept. let left = other kept in (left.0, left.1, free_is left.0 left.2 left.3);
      }

  pub room_none : (size : ℕ) (reserve : Bool) → size ≤ LOG_WORDS → LOG_WORDS < (filled_of ledger ledger.current).tail + size → HasNoneLeft ledger.free_logs reserve → None ≡ room s size reserve
  room_none size reserve short over (alone, none) = is_no_room s notes.law size reserve short record {
    full = full size over;
    one = λ k l lt a b. not_free l (omega (arith, b.0, notes.law.shape.few_logs)) (alone k l lt (omega (arith, b.0, notes.law.shape.few_logs)) (has_free k a)) b;
    none = λ e l free. not_free l (omega (arith, free.0, notes.law.shape.few_logs)) (none e l (omega (arith, free.0, notes.law.shape.few_logs))) free;
  }
