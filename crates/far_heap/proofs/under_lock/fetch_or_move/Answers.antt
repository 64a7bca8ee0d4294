use Rattle.std.proofs.Common.{◌≡◌, ℕ, ◌<◌, ◌*◌, ◌/◌, ◌%◌, Bool, Option, Some, None, true, false, Err, ap, arith, inl, inr, is_some, refl, subst, sym, ◌∙◌}
use Rattle.std.specs.Prelude.{IfErr, if◌then◌else◌, slice_index_or}
use Rattle.std.proofs.lemmas.Bool.{eqb-true, false≢true}
use Rattle.far_word.specs.declared.refused.Refused.TheVariants.{Memory, NoRoom}
use Rattle.far_word.specs.declared.sizes.TheConstants.{CELLS}
use Rattle.far_table.specs.declared.book.BookSeat.{BookSeat}
use Rattle.far_evac.specs.EvacOf.{EvacOf}
use Rattle.far_heap.specs.BookHad.{BookHad, LeavesIt, Unbrought}
use Rattle.far_heap.specs.Helping.{IsBrought, Looks, asks_move, cell_in, says_far}
use Rattle.far_heap.specs.Mine.{IsUnbrought, Mine, Object, owns, uses}
use Rattle.far_heap.proofs.Asking.{asks_none}
use Rattle.far_heap.proofs.Bringing.{brought_by, fetched_so, moved_so, stayed_so}
use Rattle.far_heap.proofs.Leaving.{fetch_leaves, move_leaves}
use Rattle.far_heap.proofs.under_lock.fetch_or_move.Goals as goal

-- a used pointer is one of the heap's
if_used : (b : Bool) (o : Option Object) → is_some (if b then o else None) ≡ true → b ≡ true
if_used true o e = refl
if_used false o e = absurd (false≢true e)

own_low : (p number n : ℕ) → p / CELLS ≡ number → number < n → p < CELLS * n
own_low p number n own low = omega arith

used_low : (m : Mine) (p n : ℕ) → uses m p ≡ true → m.number < n → p < CELLS * n
used_low m p n used low = own_low p m.number n (eqb-true (p / CELLS) m.number (if_used (owns m p) (slice_index_or m.objects (p % CELLS) None) used)) low

-- ---- what is asked of what is called
pub fetch_far-requires : goal.fetch_far-requires
fetch_far-requires g c = record { pointer = used_low c.args.own.now c.args.p g.K.HeapName.heap.mutators c.requires.used c.requires.one }

pub ask_move-asked-requires-clause-used : goal.ask_move-asked-requires-clause-used
ask_move-asked-requires-clause-used g c = c.requires.used

pub ask_move-asked-requires-clause-free : goal.ask_move-asked-requires-clause-free
ask_move-asked-requires-clause-free g c = c.requires.unviewed

pub move_asked-requires : goal.move_asked-requires
move_asked-requires g c =
    let low = used_low c.args.own.now c.args.p g.K.HeapName.heap.mutators c.requires.used c.requires.one in
    record { pointer = subst (λ (q : ℕ). q < CELLS * g.K.HeapName.heap.mutators) (sym c.ask_move-asked.ensures.pointer) low }

-- ---- what it answers
pub returns-in-Ok-clause-round : goal.returns-in-Ok-clause-round
returns-in-Ok-clause-round g c = c.fetch_far.ensures.round

pub returns-in-Err-clause-round : goal.returns-in-Err-clause-round
returns-in-Err-clause-round g c = c.fetch_far.ensures.round

pub returns-in-Some-Ok-clause-round : goal.returns-in-Some-Ok-clause-round
returns-in-Some-Ok-clause-round g c =
    let f = c.fetch_far.ensures.round in
    let m = c.move_asked.ensures.round in
    (m.0 ∙ f.0, m.1 ∙ f.1, m.2 ∙ f.2)

pub returns-in-Some-Err-clause-round : goal.returns-in-Some-Err-clause-round
returns-in-Some-Err-clause-round g c =
    let f = c.fetch_far.ensures.round in
    let m = c.move_asked.ensures.round in
    (m.0 ∙ f.0, m.1 ∙ f.1, m.2 ∙ f.2)

pub returns-in-Err-clause-cause : goal.returns-in-Err-clause-cause
returns-in-Err-clause-cause g c = subst (λ a. IfErr a (λ why. BookHad g.row.D.Denot g.K.HeapName.heap (Unbrought c.args.p why))) c.in-Err.is c.in-Some.ensures.cause

pub returns-in-Some-Err-clause-refused : goal.returns-in-Some-Err-clause-refused
returns-in-Some-Err-clause-refused g c =
    let none = subst (λ a. IfErr a (λ why. why ≡ NoRoom)) c.in-Some-Err.field-0-is c.in-Some-Err.ensures.refused in
    (inl none, inl none)

pub returns-in-Some-Err-clause-cause : goal.returns-in-Some-Err-clause-cause
returns-in-Some-Err-clause-cause g c =
    subst (λ (q : ℕ). BookHad g.row.D.Denot g.K.HeapName.heap (Unbrought q c.in-Some-Err.why)) c.ask_move-asked.ensures.pointer
    (subst (λ a. IfErr a (λ why. BookHad g.row.D.Denot g.K.HeapName.heap (Unbrought c.ask_move-asked.result.pointer why))) c.in-Some-Err.field-0-is c.in-Some-Err.ensures.cause)

pub returns-in-Ok-clause-asks : goal.returns-in-Ok-clause-asks
returns-in-Ok-clause-asks g c = asks_none c.args.p c.args.own.now

pub returns-in-Err-clause-asks : goal.returns-in-Err-clause-asks
returns-in-Err-clause-asks g c = asks_none c.args.p c.args.own.now

pub returns-in-Err-clause-refused : goal.returns-in-Err-clause-refused
returns-in-Err-clause-refused g c = (subst (λ a. IfErr a IsUnbrought) c.in-Err.is c.in-Some.ensures.refused, inr refl)

pub returns-in-Err-clause-left : goal.returns-in-Err-clause-left
returns-in-Err-clause-left g c =
    let d = g.D.Device in
    let f = c.in-Some.ensures.fetched in
    subst (λ a. IfErr a (λ why. LeavesIt d.reads c.args.p why c.args.book.now c.fetch_far.new.self)) c.in-Err.is
    (fetch_leaves d.reads c.args.book.now f.0 c.args.p f.1 d.contents d.honest d.faults d.fails_at_most d.lets_go d.forgets c.fetch_far.new.self f.2.0 d.reads_in_place c.in-Some.fetched f.2.1)

pub returns-in-Some-Err-clause-left : goal.returns-in-Some-Err-clause-left
returns-in-Some-Err-clause-left g c =
    let d = g.D.Device in
    let p : ℕ = c.args.p in
    let other = c.in_default.ensures.fetched in
    let looks = subst (λ (e : EvacOf (BookSeat g.row.D.Denot) g.row.D.Denot). Looks c.args.book.now e p) (sym other.2.1) other.1 in
    let m = c.in-Some-Err.ensures.moved in
    subst (λ a. IfErr a (λ why. LeavesIt d.reads p why c.args.book.now c.move_asked.new.self)) c.in-Some-Err.field-0-is
    (move_leaves d.reads c.args.book.now c.fetch_far.new.self p looks d.contents d.honest d.faults d.fails_at_most d.lets_go d.forgets c.move_asked.new.self _ c.ask_move-asked.ensures.pointer m.0 m.1 c.in-Some-Err.field-0 m.2.1)

pub returns-in-Err-clause-in_place : goal.returns-in-Err-clause-in_place
returns-in-Err-clause-in_place g c = λ kind is.
    let same : c.in-Err.why ≡ Memory = cc in
    c.fetch_far.ensures.in_place kind (c.in-Some.is ∙ ap Some (c.in-Err.is ∙ ap Err same))

pub returns-in-Some-Err-clause-in_place : goal.returns-in-Some-Err-clause-in_place
returns-in-Some-Err-clause-in_place g c = λ kind is.
    let none : c.in-Some-Err.why ≡ NoRoom = subst (λ a. IfErr a (λ why. why ≡ NoRoom)) c.in-Some-Err.field-0-is c.in-Some-Err.ensures.refused in
    absurd cc

pub returns-in-Ok-clause-brought : goal.returns-in-Ok-clause-brought
returns-in-Ok-clause-brought g c = λ h.
    let f = c.in-Some.ensures.fetched in
    brought_by _ _ _ _ _ _ _ _ f.0 c.fetch_far.new.self c.args.p c.in-Some.fetched c.in-Ok.place c.is_some.result (inl f.2.1) c.in-Ok.is c.is_some.ensures h

pub returns-in-Some-Ok-clause-brought : goal.returns-in-Some-Ok-clause-brought
returns-in-Some-Ok-clause-brought g c = λ h.
    let d = g.D.Device in
    let f = c.move_asked.new.self in
    let m = c.in-Some-Ok.ensures.moved in
    subst (λ (q : ℕ). IsBrought d.contents d.honest d.faults d.fails_at_most d.lets_go d.forgets d.reads d.reads_in_place f q) c.ask_move-asked.ensures.pointer
    (brought_by _ _ _ _ _ _ _ _ m.0 f _ c.in-Some-Ok.field-0 c.in-Some-Ok.place c.is_some-in-Some-Ok.result (inr m.2.1) c.in-Some-Ok.field-0-is c.is_some-in-Some-Ok.ensures h)

pub returns-in-Some-Ok-clause-asks : goal.returns-in-Some-Ok-clause-asks
returns-in-Some-Ok-clause-asks g c = (_, c.ask_move-asked.ensures.asked)

pub returns-in-Some-Err-clause-asks : goal.returns-in-Some-Err-clause-asks
returns-in-Some-Err-clause-asks g c = (_, c.ask_move-asked.ensures.asked)

pub returns-in-Ok-clause-did : goal.returns-in-Ok-clause-did
returns-in-Ok-clause-did g c =
    let f = c.in-Some.ensures.fetched in
    fetched_so _ _ _ _ _ _ c.args.book.now c.fetch_far.new.self c.args.p _ _ f.0 c.in-Some.fetched c.in-Ok.place c.is_some.result f.1 f.2.0 f.2.1 c.in-Ok.is c.is_some.ensures

pub returns-in-Some-Ok-clause-did : goal.returns-in-Some-Ok-clause-did
returns-in-Some-Ok-clause-did g c =
    let p : ℕ = c.args.p in
    let other = c.in_default.ensures.fetched in
    let looks = subst (λ (e : EvacOf (BookSeat g.row.D.Denot) g.row.D.Denot). Looks c.args.book.now e p) (sym other.2.1) other.1 in
    let near = subst (λ (e : EvacOf (BookSeat g.row.D.Denot) g.row.D.Denot). says_far (cell_in e p) ≡ false) (sym other.2.1) other.2.0 in
    let m = c.in-Some-Ok.ensures.moved in
    moved_so _ _ _ _ _ _ c.args.book.now c.move_asked.new.self p _ _ c.fetch_far.new.self m.0 c.ask_move-asked.result.pointer c.in-Some-Ok.field-0 c.in-Some-Ok.place c.is_some-in-Some-Ok.result
    c.ask_move-asked.ensures.pointer looks near m.1 m.2.0 m.2.1 c.in-Some-Ok.field-0-is c.is_some-in-Some-Ok.ensures

pub returns-in-None-clause-did : goal.returns-in-None-clause-did
returns-in-None-clause-did g c =
    let p : ℕ = c.args.p in
    let other = c.in_default.ensures.fetched in
    let looks = subst (λ (e : EvacOf (BookSeat g.row.D.Denot) g.row.D.Denot). Looks c.args.book.now e p) (sym other.2.1) other.1 in
    let near = subst (λ (e : EvacOf (BookSeat g.row.D.Denot) g.row.D.Denot). says_far (cell_in e p) ≡ false) (sym other.2.1) other.2.0 in
    let m = c.in-None.ensures.moved in
    let same = sym m.2.1 in
    stayed_so _ _ _ _ _ _ c.args.book.now c.move_asked.new.self p _ _ c.fetch_far.new.self c.ask_move-asked.result.pointer c.ask_move-asked.ensures.pointer looks near
    (subst (λ (e : EvacOf (BookSeat g.row.D.Denot) g.row.D.Denot). Looks c.fetch_far.new.self e c.ask_move-asked.result.pointer) same m.1)
    (subst (λ (e : EvacOf (BookSeat g.row.D.Denot) g.row.D.Denot). asks_move (cell_in e c.ask_move-asked.result.pointer) ≡ false) same m.2.0)
