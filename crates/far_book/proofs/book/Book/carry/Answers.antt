use Rattle.far_book.proofs.book.Book.carry.Given.{Over}
use Rattle.far_book.proofs.book.Book.carry.Goals.{After-lose, After-move_object, After-room}
use Rattle.far_book.proofs.book.Book.carry.Goals as goal
use Rattle.std.proofs.Common.{◌≡◌, ◌∙◌, ◌*◌, ◌<◌, ◌≤◌, ap, arith, refl, sym, subst, Some, true, false}
use Rattle.std.specs.Prelude.{is_some}
use Rattle.std.proofs.lemmas.Bool.{true≢false}
use Rattle.far_word.specs.declared.pointer.PtrWord.{PtrWord}
use Rattle.far_word.specs.declared.pointer.PtrWord.TheVariants.{Near}
use Rattle.far_word.specs.declared.sizes.TheConstants.{CELLS}
use Rattle.far_word.specs.Pointer.{read_of}
use Rattle.far_word.specs.Sizes.{size_of}
use Rattle.far_word.proofs.PointerLaws.{read_says}
use Rattle.far_core.specs.state.Room.{room}
use Rattle.far_events.specs.state.State.{State}
use Rattle.far_book.specs.book.BookOf.{BookOf}
use Rattle.far_hand.specs.Quiet.{IsQuietNear}
use Rattle.far_hand.specs.Came.{Came}
use Rattle.far_hand.proofs.Closure.{no_call}
use Rattle.far_book.specs.book.Dealing as dealing
use Rattle.far_book.specs.book.Dealing.{FindsDrop, MovedBy}
use Rattle.far_book.specs.book.Effects.{moved, order_after}
use Rattle.far_book.specs.book.Ledger.{TakesAgain, Loses, MayTakeAgain, filled_of}
use Rattle.far_book.specs.book.Own.{own_part}
use Rattle.far_book.proofs.region.Carrying.{LiesIn, carried_by, drop_keeps, may_copy, may_take_again, may_lose, order_carried}
use Rattle.far_book.proofs.region.Handed.{since_book}
use Rattle.far_book.proofs.region.Moved.{evac_of, goal_there, quiet_here}

-- ---- once the book was opened
module _ (g : Over) (c : After-room g) where
  same : g.N.Near.view c.self.inside.near ≡ g.N.Near.view c.args.self.now.near
  same = ap (λ (b : BookOf g.row.N.Denot g.row.D.Denot). g.N.Near.view b.near) c.self.view_is

  says : read_of c.args.found ≡ Some (Near c.in-Near.len c.in-Near.ds c.in-Near.place c.in-Near.marks)
  says = c.known.ensures ∙ ap (λ v. Some v) c.in-Near.is

  -- the object lies there
  lies : LiesIn (g.N.Near.view c.self.inside.near) c.self.inside.ledger (g.D.Device.contents c.self.inside.device) (g.D.Device.honest c.self.inside.device) c.args.pointer c.in-Near.len c.in-Near.ds c.in-Near.place c.in-Near.marks
  lies = record {
    order = c.self.invariant.0;
    pointer = subst (λ (x : State). c.args.pointer < CELLS * x.mutators) (sym same) c.requires.pointer;
    near = ap read_of (sym (c.requires.found ∙ ap (λ (x : State). x.cell c.args.pointer) (sym same))) ∙ says;
  }

  quiet : IsQuietNear (g.N.Near.view c.self.inside.near) c.args.pointer
  quiet = subst (λ (x : State). IsQuietNear x c.args.pointer) (sym same) c.requires.quiet

  wanted : c.in-Near.marks.evac ≡ true
  wanted = evac_of (read_of c.args.found) true c.in-Near.len c.in-Near.ds c.in-Near.place c.in-Near.marks says c.requires.wanted

  -- there is room, or none
  told : room (g.N.Near.view c.self.inside.near) (size_of c.in-Near.len) false ≡ c.room.result
  told = ap (λ n. room (g.N.Near.view c.self.inside.near) n false) (sym c.size_of-size.ensures) ∙ sym (c.room.ensures (own_part (g.N.Near.view c.self.inside.near)) c.self.invariant.0.notes)

  goes : dealing.goal (g.N.Near.view c.args.self.now.near) c.args.pointer ≡ c.room.result
  goes = ap (λ (x : State). dealing.goal x c.args.pointer) (sym same)
      ∙ goal_there (g.N.Near.view c.self.inside.near) c.args.pointer quiet c.in-Near.len c.in-Near.ds c.in-Near.place c.in-Near.marks lies.near wanted ∙ told

-- ---- what is asked of what is called
same_word : (a b : PtrWord) → Some a ≡ Some b → a ≡ b
same_word a b e = cc

pub known-requires : goal.known-requires
known-requires g c = ap is_some (ap read_of c.requires.found ∙ c.requires.quiet.near)

pub unreachable-requires : goal.unreachable-requires
unreachable-requires g c =
    let q = c.requires.quiet in
    c.in_default.not-Near q.len q.ds q.place q.marks (same_word _ _ (sym c.known.ensures ∙ ap read_of c.requires.found ∙ q.near))

pub room-requires-clause-known : goal.room-requires-clause-known
room-requires-clause-known g c = (own_part (g.N.Near.view c.self.inside.near), c.self.invariant.0.notes)

pub move_object-requires-clause-found : goal.move_object-requires-clause-found
move_object-requires-clause-found g c = c.requires.found ∙ ap (λ (x : State). x.cell c.args.pointer) (sym (same g (goal.at.move_object-requires-clause-found g c).After-room))

pub move_object-requires-clause-wanted : goal.move_object-requires-clause-wanted
move_object-requires-clause-wanted g c = c.requires.wanted

pub move_object-requires-clause-alive : goal.move_object-requires-clause-alive
move_object-requires-clause-alive g c = c.requires.alive

pub room-requires-clause-size : goal.room-requires-clause-size
room-requires-clause-size g c =
    let n = c.in-Near in
    let layout = (read_says c.args.found (Near n.len n.ds n.place n.marks) (omega arith) (c.known.ensures ∙ ap (λ v. Some v) n.is)).0 in
    omega (arith, c.size_of-size.ensures, layout.1)

pub returns-in_default-room-clause-none : goal.returns-in_default-room-clause-none
returns-in_default-room-clause-none g c = goes g (goal.at.returns-in_default-room-clause-none g c).After-room ∙ c.in_default-room.is

pub returns-in_default-room-clause-came : goal.returns-in_default-room-clause-came
returns-in_default-room-clause-came g c = no_call refl

pub returns-in_default-room-clause-device : goal.returns-in_default-room-clause-device
returns-in_default-room-clause-device g c = refl

pub returns-in_default-room-clause-unchanged : goal.returns-in_default-room-clause-unchanged
returns-in_default-room-clause-unchanged g c = refl

pub returns-in_default-room-clause-refused : goal.returns-in_default-room-clause-refused
returns-in_default-room-clause-refused g c = refl

pub move_object-requires-clause-may : goal.move_object-requires-clause-may
move_object-requires-clause-may g c =
    let h = (goal.at.move_object-requires-clause-may g c).After-room in
    let n = c.in-Near in
    may_copy (lies g h) c.in-Some.to (told g h ∙ c.in-Some.is) (quiet_here (g.N.Near.view c.self.inside.near) c.args.pointer (quiet g h) n.len n.ds n.place n.marks (lies g h).near)

pub invariant_of-self : goal.invariant_of-self
invariant_of-self g c = (
  drop_keeps (g.N.Near.view c.self.inside.near) (g.N.Near.view c.move_object.new.near) c.self.inside.ledger (g.D.Device.contents c.self.inside.device) (g.D.Device.honest c.self.inside.device) c.self.invariant.0 c.args.pointer
      (c.move_object.ensures.dropped c.if-not-move_object.true),
  c.self.invariant.1,
)

-- ---- its owner has dropped it, or it has moved
came : (g : Over) (c : After-move_object g) → Came g.N.Near.makes c.args.self.now.near c.move_object.new.near
came g c = since_book c.self.view_is c.move_object.ensures.came

pub returns-then-not-move_object-clause-order : goal.returns-then-not-move_object-clause-order
returns-then-not-move_object-clause-order g c = ap (λ (b : BookOf g.row.N.Denot g.row.D.Denot). b.order) c.self.view_is

pub returns-then-not-move_object-clause-dropped : goal.returns-then-not-move_object-clause-dropped
returns-then-not-move_object-clause-dropped g c =
    subst (λ (x : State). FindsDrop x (g.N.Near.view c.move_object.new.near) c.args.pointer) (same g (goal.at.returns-then-not-move_object-clause-dropped g c).After-room) (c.move_object.ensures.dropped c.if-not-move_object.true)

pub returns-then-not-move_object-clause-exact : goal.returns-then-not-move_object-clause-exact
returns-then-not-move_object-clause-exact g c still = true≢false (sym (c.move_object.ensures.won still) ∙ c.if-not-move_object.true)

pub returns-then-not-move_object-clause-came : goal.returns-then-not-move_object-clause-came
returns-then-not-move_object-clause-came g c = came g (goal.at.returns-then-not-move_object-clause-came g c).After-move_object

pub returns-then-not-move_object-clause-device : goal.returns-then-not-move_object-clause-device
returns-then-not-move_object-clause-device g c = ap (λ (b : BookOf g.row.N.Denot g.row.D.Denot). b.device) c.self.view_is

-- the old span is dead, and a new one is taken
lost : (g : Over) (c : After-lose g) → Loses c.self.inside.ledger c.lose.new.self c.in-Near.place.log (size_of c.in-Near.len)
lost g c = subst (Loses c.self.inside.ledger c.lose.new.self c.in-Near.place.log) c.size_of-size.ensures c.lose.ensures

pub lose-requires : goal.lose-requires
lose-requires g c =
    let may = may_lose (lies g (goal.at.lose-requires g c).After-room) in
    record { log = may.0; live = subst (λ n. 8 * n ≤ (filled_of c.self.inside.ledger c.in-Near.place.log).live) (sym c.size_of-size.ensures) may.1; size = omega (arith, c.size_of-size.ensures, may.2) }

pub take_again-requires : goal.take_again-requires
take_again-requires g c =
    let h = goal.at.take_again-requires g c in
    subst (λ n. MayTakeAgain c.lose.new.self n c.in-Some.to) (sym c.size_of-size.ensures) (may_take_again (lies g h.After-room) c.in-Some.to (told g h.After-room ∙ c.in-Some.is) c.lose.new.self (lost g h.After-lose))

pub invariant_of-self-2 : goal.invariant_of-self-2
invariant_of-self-2 g c =
    let h = goal.at.invariant_of-self-2 g c in (
      carried_by (lies g h.After-room) (g.N.Near.view c.move_object.new.near) c.in-Some.to (c.move_object.ensures.moved c.if-not-move_object.false) (told g h.After-room ∙ c.in-Some.is) (wanted g h.After-room)
          c.lose.new.self (lost g h.After-lose) c.take_again.new.self (subst (λ n. TakesAgain c.lose.new.self c.take_again.new.self n c.in-Some.to) c.size_of-size.ensures c.take_again.ensures),
      c.self.invariant.1,
    )

pub returns-clause-place : goal.returns-clause-place
returns-clause-place g c = goes g (goal.at.returns-clause-place g c).After-room ∙ c.in-Some.is

pub returns-clause-order : goal.returns-clause-order
returns-clause-order g c =
    let h = goal.at.returns-clause-order g c in
    order_carried (lies g h.After-room) c.in-Some.to (told g h.After-room ∙ c.in-Some.is) c.lose.new.self (lost g h.After-lose) c.take_again.new.self
    (subst (λ n. TakesAgain c.lose.new.self c.take_again.new.self n c.in-Some.to) c.size_of-size.ensures c.take_again.ensures)
    ∙ ap (λ (b : BookOf g.row.N.Denot g.row.D.Denot). order_after (g.N.Near.view b.near) b.order c.in-Some.to) c.self.view_is

pub returns-clause-moved : goal.returns-clause-moved
returns-clause-moved g c =
    subst (λ (x : State). MovedBy x (g.N.Near.view c.move_object.new.near) c.args.pointer c.in-Some.to) (same g (goal.at.returns-clause-moved g c).After-room) (c.move_object.ensures.moved c.if-not-move_object.false)

pub returns-clause-exact : goal.returns-clause-exact
returns-clause-exact g c still =
    c.move_object.ensures.exact still ∙ ap (λ (x : State). moved x c.args.pointer c.in-Some.to) (same g (goal.at.returns-clause-exact g c).After-room)

pub returns-clause-came : goal.returns-clause-came
returns-clause-came g c = came g (goal.at.returns-clause-came g c).After-move_object

pub returns-clause-device : goal.returns-clause-device
returns-clause-device g c = ap (λ (b : BookOf g.row.N.Denot g.row.D.Denot). b.device) c.self.view_is

-- ---- clauses that say nothing of this answer
pub returns-in_default-room-clause-place : goal.returns-in_default-room-clause-place
returns-in_default-room-clause-place g c = tt

pub returns-in_default-room-clause-moved : goal.returns-in_default-room-clause-moved
returns-in_default-room-clause-moved g c = tt

pub returns-in_default-room-clause-order : goal.returns-in_default-room-clause-order
returns-in_default-room-clause-order g c = tt

pub returns-in_default-room-clause-dropped : goal.returns-in_default-room-clause-dropped
returns-in_default-room-clause-dropped g c = tt

pub returns-in_default-room-clause-exact : goal.returns-in_default-room-clause-exact
returns-in_default-room-clause-exact g c still = tt

pub returns-then-not-move_object-clause-place : goal.returns-then-not-move_object-clause-place
returns-then-not-move_object-clause-place g c = tt

pub returns-then-not-move_object-clause-moved : goal.returns-then-not-move_object-clause-moved
returns-then-not-move_object-clause-moved g c = tt

pub returns-then-not-move_object-clause-refused : goal.returns-then-not-move_object-clause-refused
returns-then-not-move_object-clause-refused g c = tt

pub returns-then-not-move_object-clause-none : goal.returns-then-not-move_object-clause-none
returns-then-not-move_object-clause-none g c = tt

pub returns-then-not-move_object-clause-unchanged : goal.returns-then-not-move_object-clause-unchanged
returns-then-not-move_object-clause-unchanged g c = tt

pub returns-clause-dropped : goal.returns-clause-dropped
returns-clause-dropped g c = tt

pub returns-clause-refused : goal.returns-clause-refused
returns-clause-refused g c = tt

pub returns-clause-none : goal.returns-clause-none
returns-clause-none g c = tt

pub returns-clause-unchanged : goal.returns-clause-unchanged
returns-clause-unchanged g c = tt
