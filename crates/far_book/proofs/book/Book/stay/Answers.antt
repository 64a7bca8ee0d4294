use Rattle.far_book.proofs.book.Book.stay.Given.{Over}
use Rattle.far_book.proofs.book.Book.stay.Goals as goal
use Rattle.far_book.proofs.book.Book.stay.Goals.{After-self, then-unmark_object, else-unmark_object}
use Rattle.std.proofs.Common.{◌≡◌, ◌∙◌, ◌*◌, ◌<◌, ap, cond, sym, subst, Option, Some, false}
use Rattle.std.specs.Prelude.{IfNone, IfSome, MatchOption, is_some}
use Rattle.std.proofs.lemmas.Bool.{true≢false}
use Rattle.far_word.specs.declared.pointer.Place.{Place}
use Rattle.far_word.specs.declared.pointer.PtrWord.{PtrWord}
use Rattle.far_word.specs.declared.pointer.PtrWord.TheVariants.{Near}
use Rattle.far_word.specs.declared.sizes.TheConstants.{CELLS}
use Rattle.far_word.specs.Pointer.{read_of}
use Rattle.far_word.specs.Sizes.{size_of}
use Rattle.far_core.specs.state.Room.{room}
use Rattle.far_events.specs.state.State.{State}
use Rattle.far_book.specs.book.BookOf.{BookOf}
use Rattle.far_book.specs.book.Dealing as dealing
use Rattle.far_book.specs.book.Dealing.{FindsDrop, MovedBy}
use Rattle.far_book.specs.book.Effects.{stayed}
use Rattle.far_book.specs.book.Moving.{MayStay}
use Rattle.far_hand.specs.Quiet.{IsQuietNear}
use Rattle.far_book.proofs.region.Carrying.{LiesIn, drop_keeps, kept_by}
use Rattle.far_book.proofs.region.Moved.{evac_of, may_stay}
use Rattle.far_hand.proofs.Closure.{came_only}
use Rattle.far_book.proofs.region.Handed.{since_book}

-- ---- once the book was opened
module _ (g : Over) (c : After-self g) where
  same : g.N.Near.view c.self.inside.near ≡ g.N.Near.view c.args.self.now.near
  same = ap (λ (b : BookOf g.row.N.Denot g.row.D.Denot). g.N.Near.view b.near) c.self.view_is

  word : c.args.found ≡ (g.N.Near.view c.self.inside.near).cell c.args.pointer
  word = c.requires.found ∙ ap (λ (x : State). x.cell c.args.pointer) (sym same)

  says : read_of c.args.found ≡ Some (Near c.in-Near.len c.in-Near.ds c.in-Near.place c.in-Near.marks)
  says = c.known.ensures ∙ ap (λ v. Some v) c.in-Near.is

  near : read_of ((g.N.Near.view c.self.inside.near).cell c.args.pointer) ≡ Some (Near c.in-Near.len c.in-Near.ds c.in-Near.place c.in-Near.marks)
  near = ap read_of (sym word) ∙ says

  pointer : c.args.pointer < CELLS * (g.N.Near.view c.self.inside.near).mutators
  pointer = subst (λ (x : State). c.args.pointer < CELLS * x.mutators) (sym same) c.requires.pointer

  may : MayStay (g.N.Near.view c.self.inside.near) c.args.pointer c.in-Near.len c.in-Near.ds c.in-Near.place
  may =
      let n = c.in-Near in
      let quiet : IsQuietNear (g.N.Near.view c.self.inside.near) c.args.pointer = subst (λ (x : State). IsQuietNear x c.args.pointer) (sym same) c.requires.quiet in
      may_stay (g.N.Near.view c.self.inside.near) c.args.pointer quiet n.len n.ds n.place n.marks near pointer (evac_of (read_of c.args.found) false n.len n.ds n.place n.marks says c.requires.unwanted)

same_word : (a b : PtrWord) → Some a ≡ Some b → a ≡ b
same_word a b e = cc

pub known-requires : goal.known-requires
known-requires g c = ap is_some (ap read_of c.requires.found ∙ c.requires.quiet.near)

pub unreachable-requires : goal.unreachable-requires
unreachable-requires g c =
    let q = c.requires.quiet in
    c.in_default.not-Near q.len q.ds q.place q.marks (same_word _ _ (sym c.known.ensures ∙ ap read_of c.requires.found ∙ q.near))

pub unmark_object-requires-clause-may : goal.unmark_object-requires-clause-may
unmark_object-requires-clause-may g c = may g (goal.at.unmark_object-requires-clause-may g c).After-self

pub unmark_object-requires-clause-found : goal.unmark_object-requires-clause-found
unmark_object-requires-clause-found g c = word g (goal.at.unmark_object-requires-clause-found g c).After-self

pub unmark_object-requires-clause-alive : goal.unmark_object-requires-clause-alive
unmark_object-requires-clause-alive g c = c.requires.alive

pub invariant_of-self : goal.invariant_of-self
invariant_of-self g c =
    let h = (goal.at.invariant_of-self g c).After-self in
    let s = g.N.Near.view c.self.inside.near in
    let u = g.N.Near.view c.unmark_object.new.near in
    let held = g.D.Device.contents c.self.inside.device in
    let is_honest = g.D.Device.honest c.self.inside.device in
    let lies : LiesIn s c.self.inside.ledger held is_honest c.args.pointer c.in-Near.len c.in-Near.ds c.in-Near.place c.in-Near.marks = record { order = c.self.invariant.0; pointer = pointer g h; near = near g h } in (
      elim c.if-unmark_object.branch [
        | then-unmark_object w ↦ kept_by lies u c.in-Near.place (c.unmark_object.ensures.stayed w.if-unmark_object.true) (may g h)
        | else-unmark_object w ↦ drop_keeps s u c.self.inside.ledger held is_honest c.self.invariant.0 c.args.pointer (c.unmark_object.ensures.dropped w.if-unmark_object.false)
      ],
      c.self.invariant.1,
    )

pub returns-clause-place : goal.returns-clause-place
returns-clause-place g c =
    let h = (goal.at.returns-clause-place g c).After-self in
    let s = g.N.Near.view c.args.self.now.near in
    let p = c.args.pointer in
    let n = c.in-Near in
    let unwanted = evac_of (read_of c.args.found) false n.len n.ds n.place n.marks (says g h) c.requires.unwanted in
    let place = ap (dealing.goal_of s) (ap read_of (sym c.requires.found) ∙ says g h) ∙ ap (λ b. cond b (room s (size_of n.len) false) (Some n.place)) unwanted in
    elim c.if-unmark_object.branch [
      | then-unmark_object w ↦ subst (λ o. IfSome o (λ place. dealing.goal s p ≡ Some place)) (sym w.result-is) place
      | else-unmark_object w ↦ subst (λ o. IfSome o (λ place. dealing.goal s p ≡ Some place)) (sym w.result-is) tt
    ]

pub returns-clause-stayed : goal.returns-clause-stayed
returns-clause-stayed g c =
    let h = (goal.at.returns-clause-stayed g c).After-self in
    elim c.if-unmark_object.branch [
      | then-unmark_object w ↦ subst (λ o. IfSome o (λ place. MovedBy (g.N.Near.view c.args.self.now.near) (g.N.Near.view c.unmark_object.new.near) c.args.pointer place)) (sym w.result-is)
          (subst (λ (x : State). MovedBy x (g.N.Near.view c.unmark_object.new.near) c.args.pointer c.in-Near.place) (same g h) (c.unmark_object.ensures.stayed w.if-unmark_object.true))
      | else-unmark_object w ↦ subst (λ o. IfSome o (λ place. MovedBy (g.N.Near.view c.args.self.now.near) (g.N.Near.view c.unmark_object.new.near) c.args.pointer place)) (sym w.result-is) tt
    ]

pub returns-clause-dropped : goal.returns-clause-dropped
returns-clause-dropped g c =
    let h = (goal.at.returns-clause-dropped g c).After-self in
    elim c.if-unmark_object.branch [
      | then-unmark_object w ↦ subst (λ (o : Option Place). IfNone o (FindsDrop (g.N.Near.view c.args.self.now.near) (g.N.Near.view c.unmark_object.new.near) c.args.pointer)) (sym w.result-is) tt
      | else-unmark_object w ↦ subst (λ (o : Option Place). IfNone o (FindsDrop (g.N.Near.view c.args.self.now.near) (g.N.Near.view c.unmark_object.new.near) c.args.pointer)) (sym w.result-is)
          (subst (λ (x : State). FindsDrop x (g.N.Near.view c.unmark_object.new.near) c.args.pointer) (same g h) (c.unmark_object.ensures.dropped w.if-unmark_object.false))
    ]

pub returns-clause-exact : goal.returns-clause-exact
returns-clause-exact g c still =
    let h = (goal.at.returns-clause-exact g c).After-self in
    elim c.if-unmark_object.branch [
      | then-unmark_object w ↦ subst (λ (o : Option Place). MatchOption o ⊥ (λ _. g.N.Near.view c.unmark_object.new.near ≡ stayed (g.N.Near.view c.args.self.now.near) c.args.pointer)) (sym w.result-is)
          (c.unmark_object.ensures.exact still ∙ ap (λ (x : State). stayed x c.args.pointer) (same g h))
      | else-unmark_object w ↦ absurd (true≢false (sym (c.unmark_object.ensures.won still) ∙ w.if-unmark_object.false))
    ]

pub returns-clause-order : goal.returns-clause-order
returns-clause-order g c = ap (λ (b : BookOf g.row.N.Denot g.row.D.Denot). b.order) c.self.view_is

pub returns-clause-device : goal.returns-clause-device
returns-clause-device g c = ap (λ (b : BookOf g.row.N.Denot g.row.D.Denot). b.device) c.self.view_is

pub returns-clause-came : goal.returns-clause-came
returns-clause-came g c = since_book c.self.view_is (came_only _ c.unmark_object.ensures.names)
