use Rattle.far_book.proofs.book.Book.name_copy.Given.{Over}
use Rattle.far_book.proofs.book.Book.name_copy.Goals.{After-self}
use Rattle.far_book.proofs.book.Book.name_copy.Goals as goal
use Rattle.std.proofs.Common.{◌≡◌, ◌∙◌, ℕ, ap, arith, refl, subst, sym, true, Option, Some, None}
use Rattle.std.specs.Prelude.{IsSome}
use Rattle.std.proofs.lemmas.Bool.{false≢true, true≢false}
use Rattle.far_word.specs.declared.mark.Marks.{Marks}
use Rattle.far_word.specs.declared.pointer.Place.{Place}
use Rattle.far_word.specs.declared.pointer.PtrWord.{PtrWord}
use Rattle.far_word.specs.declared.pointer.PtrWord.TheVariants.{Free, Near, Far}
use Rattle.far_word.specs.Pointer.{read_of}
use Rattle.far_events.specs.state.Spans.{names_place}
use Rattle.far_events.specs.state.State.{State}
use Rattle.far_book.specs.declared.ledger.Ledger.{Ledger}
use Rattle.far_book.specs.book.BookOf.{BookOf}
use Rattle.far_book.specs.book.Collecting.{IsNamed, MayBeNamed, named}
use Rattle.far_book.specs.book.FarSide.{InOrder}
use Rattle.far_book.specs.book.Ledger.{Passes}
use Rattle.far_book.specs.book.Renaming.{seen}
use Rattle.far_hand.specs.Finds.{Finds}
use Rattle.far_hand.proofs.Closure.{came_only}
use Rattle.far_book.proofs.region.Handed.{since_book}
use Rattle.far_book.proofs.region.InOrders.{found_keeps}
use Rattle.far_book.proofs.region.NamingCopies.{apart, is_named_by, jobs_stay_by, layout, layout_from, may_rename, named_exactly, named_keeps_by, passes_from, passes_live, passes_room, passes_to, pointer}

-- a word that names a place can be read, and says that its object is near
read_so : (o : Option PtrWord) (log at : ℕ) → names_place o log at ≡ true → IsSome o
read_so None log at h = absurd (false≢true h)
read_so (Some r) log at h = refl

is_near : (r : PtrWord) (log at : ℕ) → names_place (Some r) log at ≡ true → ((len ds : ℕ) (place : Place) (m : Marks) → r ≡ Near len ds place m → ⊥) → ⊥
is_near Free log at h never = absurd (false≢true h)
is_near (Near len ds place m) log at h never = never len ds place m refl
is_near (Far len ds m) log at h never = absurd (false≢true h)

pub known-requires : goal.known-requires
known-requires g c = read_so (read_of c.args.cell) c.args.what.from.log c.args.what.from.at c.requires.lies

pub unreachable-requires : goal.unreachable-requires
unreachable-requires g c =
    let from = c.args.what.from in
    is_near c.known.result from.log from.at (subst (λ o. names_place o from.log from.at ≡ true) c.known.ensures c.requires.lies) c.in_default.not-Near

-- ---- the object's length and data structure are known
module _ (g : Over) (c : After-self g) where
  same : g.N.Near.view c.self.inside.near ≡ g.N.Near.view c.args.self.now.near
  same = ap (λ (b : BookOf g.row.N.Denot g.row.D.Denot). g.N.Near.view b.near) c.self.view_is

  may : MayBeNamed (g.N.Near.view c.self.inside.near) c.args.job c.args.what c.args.cell
  may = subst (λ (x : State). MayBeNamed x c.args.job c.args.what c.args.cell) (sym same) c.requires

  says : read_of c.args.cell ≡ Some (Near c.in-Near.len c.in-Near.ds c.in-Near.place c.in-Near.marks)
  says = c.known.ensures ∙ ap (λ v. Some v) c.in-Near.is

pub rename_near-requires-clause-layout : goal.rename_near-requires-clause-layout
rename_near-requires-clause-layout g c =
    let h = (goal.at.rename_near-requires-clause-layout g c).After-self in
    let n = c.in-Near in
    layout (g.N.Near.view c.self.inside.near) c.self.invariant.0.notes.law c.args.job c.args.what c.args.cell n.len n.ds n.place n.marks (may g h) (says g h)

pub rename_near-requires-clause-pointer : goal.rename_near-requires-clause-pointer
rename_near-requires-clause-pointer g c =
    let h = (goal.at.rename_near-requires-clause-pointer g c).After-self in
    let n = c.in-Near in
    pointer (g.N.Near.view c.self.inside.near) c.self.invariant.0.notes.law c.args.job c.args.what c.args.cell n.len n.ds n.place n.marks (may g h) (says g h)

pub rename_near-requires-clause-may : goal.rename_near-requires-clause-may
rename_near-requires-clause-may g c =
    let h = (goal.at.rename_near-requires-clause-may g c).After-self in
    let s = g.N.Near.view c.self.inside.near in
    let n = c.in-Near in
    may_rename s c.self.invariant.0.notes.law c.args.job c.args.what c.args.cell n.len n.ds n.place n.marks (may g h) (says g h)

pub rename_near-requires-clause-found : goal.rename_near-requires-clause-found
rename_near-requires-clause-found g c = (may g (goal.at.rename_near-requires-clause-found g c).After-self).found

pub rename_near-requires-clause-readable : goal.rename_near-requires-clause-readable
rename_near-requires-clause-readable g c = read_so (read_of c.args.cell) c.args.what.from.log c.args.what.from.at c.requires.lies

pub rename_near-requires-clause-alive : goal.rename_near-requires-clause-alive
rename_near-requires-clause-alive g c = c.requires.alive

-- ---- its owner has dropped it
pub invariant_of-self : goal.invariant_of-self
invariant_of-self g c =
    let h = (goal.at.invariant_of-self g c).After-self in
    let s = g.N.Near.view c.self.inside.near in
    let e = c.in_default-rename_near in
    let found = subst (λ v. Finds v e.field-0) (may g h).found e.ensures.found in (
      subst (λ (u : State). InOrder u c.self.inside.ledger (g.D.Device.contents c.self.inside.device) (g.D.Device.honest c.self.inside.device)) (sym e.ensures.kept)
          (found_keeps s c.self.inside.ledger (g.D.Device.contents c.self.inside.device) (g.D.Device.honest c.self.inside.device) c.self.invariant.0 c.args.what.pointer e.field-0 e.ensures.fits found),
      c.self.invariant.1,
    )

pub returns-in_default-rename_near-clause-named : goal.returns-in_default-rename_near-clause-named
returns-in_default-rename_near-clause-named g c odd = absurd (false≢true odd)

pub returns-in_default-rename_near-clause-dropped : goal.returns-in_default-rename_near-clause-dropped
returns-in_default-rename_near-clause-dropped g c _ =
    let h = (goal.at.returns-in_default-rename_near-clause-dropped g c).After-self in
    let e = c.in_default-rename_near in
    record {
      cell = e.field-0;
      sees = subst (λ v. Finds v e.field-0) c.requires.found e.ensures.found;
      dropped = e.ensures.dropped;
      is = e.ensures.kept ∙ ap (λ (x : State). seen x c.args.what.pointer e.field-0) (same g h);
    }

pub returns-in_default-rename_near-clause-jobs : goal.returns-in_default-rename_near-clause-jobs
returns-in_default-rename_near-clause-jobs g c =
    ap (λ (x : State). x.copying.word) (c.in_default-rename_near.ensures.kept ∙ ap (λ (x : State). seen x c.args.what.pointer c.in_default-rename_near.field-0) (same g (goal.at.returns-in_default-rename_near-clause-jobs g c).After-self))

pub returns-in_default-rename_near-clause-order : goal.returns-in_default-rename_near-clause-order
returns-in_default-rename_near-clause-order g c = ap (λ (b : BookOf g.row.N.Denot g.row.D.Denot). b.order) c.self.view_is

pub returns-in_default-rename_near-clause-device : goal.returns-in_default-rename_near-clause-device
returns-in_default-rename_near-clause-device g c = ap (λ (b : BookOf g.row.N.Denot g.row.D.Denot). b.device) c.self.view_is

pub returns-in_default-rename_near-clause-came : goal.returns-in_default-rename_near-clause-came
returns-in_default-rename_near-clause-came g c = since_book c.self.view_is (came_only _ c.in_default-rename_near.ensures.names)

pub pass-requires-clause-from : goal.pass-requires-clause-from
pass-requires-clause-from g c =
    let h = (goal.at.pass-requires-clause-from g c).After-self in
    let n = c.in-Near in
    passes_from (g.N.Near.view c.self.inside.near) c.self.invariant.0.notes.law c.args.job c.args.what c.args.cell n.len n.ds n.place n.marks (may g h) (says g h) c.self.inside.ledger c.self.invariant.0.notes

pub pass-requires-clause-other : goal.pass-requires-clause-other
pass-requires-clause-other g c =
    let h = (goal.at.pass-requires-clause-other g c).After-self in
    let n = c.in-Near in
    apart (g.N.Near.view c.self.inside.near) c.self.invariant.0.notes.law c.args.job c.args.what c.args.cell n.len n.ds n.place n.marks (may g h) (says g h)

pub pass-requires-clause-to : goal.pass-requires-clause-to
pass-requires-clause-to g c =
    let h = (goal.at.pass-requires-clause-to g c).After-self in
    let n = c.in-Near in
    passes_to (g.N.Near.view c.self.inside.near) c.self.invariant.0.notes.law c.args.job c.args.what c.args.cell n.len n.ds n.place n.marks (may g h) (says g h) c.self.inside.ledger c.self.invariant.0.notes

pub pass-requires-clause-live : goal.pass-requires-clause-live
pass-requires-clause-live g c =
    let h = (goal.at.pass-requires-clause-live g c).After-self in
    let n = c.in-Near in
    let live = passes_live (g.N.Near.view c.self.inside.near) c.self.invariant.0.notes.law c.args.job c.args.what c.args.cell n.len n.ds n.place n.marks (may g h) (says g h) c.self.inside.ledger c.self.invariant.0.notes in
    omega (arith, live, c.size_of.ensures)

pub pass-requires-clause-size : goal.pass-requires-clause-size
pass-requires-clause-size g c =
    let h = (goal.at.pass-requires-clause-size g c).After-self in
    let n = c.in-Near in
    let fits = layout_from (g.N.Near.view c.self.inside.near) c.self.invariant.0.notes.law c.args.job c.args.what c.args.cell n.len n.ds n.place n.marks (may g h) (says g h) in
    omega (arith, c.size_of.ensures, fits)

pub pass-requires-clause-room : goal.pass-requires-clause-room
pass-requires-clause-room g c =
    let h = (goal.at.pass-requires-clause-room g c).After-self in
    let n = c.in-Near in
    passes_room (g.N.Near.view c.self.inside.near) c.self.invariant.0.notes.law c.args.job c.args.what c.args.cell n.len n.ds n.place n.marks (may g h) (says g h) c.self.inside.ledger c.self.invariant.0.notes

-- ---- it was named
pub invariant_of-self-2 : goal.invariant_of-self-2
invariant_of-self-2 g c =
    let h = (goal.at.invariant_of-self-2 g c).After-self in
    let s = g.N.Near.view c.self.inside.near in
    let n = c.in-Near in
    let passes = subst (Passes c.self.inside.ledger c.pass.new.self c.args.what.from.log c.args.what.to.log) c.size_of.ensures c.pass.ensures in (
      named_keeps_by s c.self.inside.ledger (g.D.Device.contents c.self.inside.device) (g.D.Device.honest c.self.inside.device) c.self.invariant.0 c.args.job c.args.what c.args.cell n.len n.ds n.place n.marks (may g h) (says g h)
          (g.N.Near.view c.rename_near.new.near) c.in-Ok.ensures.done c.pass.new.self passes,
      c.self.invariant.1,
    )

pub returns-clause-named : goal.returns-clause-named
returns-clause-named g c _ =
    let h = (goal.at.returns-clause-named g c).After-self in
    let s = g.N.Near.view c.self.inside.near in
    let n = c.in-Near in
    subst (λ (x : State). IsNamed x (g.N.Near.view c.rename_near.new.near) c.args.what) (same g h)
    (is_named_by s c.self.inside.ledger (g.D.Device.contents c.self.inside.device) (g.D.Device.honest c.self.inside.device) c.self.invariant.0 c.args.job c.args.what c.args.cell n.len n.ds n.place n.marks (may g h) (says g h)
    (g.N.Near.view c.rename_near.new.near) c.in-Ok.ensures.done)

pub returns-clause-dropped : goal.returns-clause-dropped
returns-clause-dropped g c odd = absurd (true≢false odd)

pub returns-clause-jobs : goal.returns-clause-jobs
returns-clause-jobs g c =
    let h = (goal.at.returns-clause-jobs g c).After-self in
    let s = g.N.Near.view c.self.inside.near in
    let n = c.in-Near in
    jobs_stay_by s c.self.inside.ledger (g.D.Device.contents c.self.inside.device) (g.D.Device.honest c.self.inside.device) c.self.invariant.0 c.args.job c.args.what c.args.cell n.len n.ds n.place n.marks (may g h) (says g h)
    (g.N.Near.view c.rename_near.new.near) c.in-Ok.ensures.done ∙ ap (λ (x : State). x.copying.word) (same g h)

pub returns-clause-came : goal.returns-clause-came
returns-clause-came g c = since_book c.self.view_is (came_only _ c.rename_near.ensures.names)

pub returns-clause-order : goal.returns-clause-order
returns-clause-order g c = ap (λ (n : Ledger). n.order) c.pass.ensures.rest ∙ ap (λ (b : BookOf g.row.N.Denot g.row.D.Denot). b.order) c.self.view_is

pub returns-clause-device : goal.returns-clause-device
returns-clause-device g c = ap (λ (b : BookOf g.row.N.Denot g.row.D.Denot). b.device) c.self.view_is

pub returns-clause-exact : goal.returns-clause-exact
returns-clause-exact g c still =
    let h = (goal.at.returns-clause-exact g c).After-self in
    let s = g.N.Near.view c.self.inside.near in
    let n = c.in-Near in (
      refl,
      subst (λ (x : State). g.N.Near.view c.rename_near.new.near ≡ named x c.args.what.pointer c.args.what.to) (same g h)
          (named_exactly s (g.N.Near.view c.rename_near.new.near) c.args.what.pointer c.args.cell n.len n.ds c.args.what.to n.place n.marks (may g h).found (says g h) (c.in-Ok.ensures.set still)),
    )

pub returns-in_default-rename_near-clause-exact : goal.returns-in_default-rename_near-clause-exact
returns-in_default-rename_near-clause-exact g c still = absurd (c.in_default-rename_near.ensures.won still)
