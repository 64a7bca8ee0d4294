use Rattle.far_book.proofs.book.moving.move_object.Given.{Over}
use Rattle.far_book.proofs.book.moving.move_object.Goals.{After-rename_near}
use Rattle.far_book.proofs.book.moving.move_object.Goals as goal
use Rattle.std.proofs.Common.{◌≡◌, ◌*◌, ◌<◌, ap, refl, sym, subst, ◌∙◌, true, false}
use Rattle.std.specs.Prelude.{is_some}
use Rattle.std.proofs.lemmas.Bool.{false≢true, true≢false}
use Rattle.far_word.specs.declared.sizes.TheConstants.{CELLS}
use Rattle.far_word.specs.Pointer.{read_of}
use Rattle.far_events.specs.declared.event.Event.TheVariants.{Name}
use Rattle.far_events.specs.events.Copies.{data_at}
use Rattle.far_events.specs.events.Naming.{is_dropped}
use Rattle.far_events.specs.events.Step.{after}
use Rattle.far_events.specs.state.Law.{is_dirty}
use Rattle.far_events.specs.state.State.{State}
use Rattle.far_hand.specs.Finds.{Finds}
use Rattle.far_book.specs.book.Dealing.{has_evac}
use Rattle.far_book.specs.book.Effects.{moved, moved_of, near_word, with_written_span}
use Rattle.far_book.proofs.region.Copying.{layout_there}
use Rattle.far_book.proofs.region.Moved.{may_rename, moved_by, moved_dropped}
use Rattle.far_hand.proofs.Closure.{then_came, came_only}

-- a naming of the copy by the word that the cell has is the move
exactly : (g : Over) (c : After-rename_near g) → g.N.Near.still →
    g.N.Near.view c.rename_near.new.near ≡ after (g.N.Near.view c.copy_object.new.near) (Name c.args.pointer c.args.found (near_word (is_dirty (read_of c.args.found)) c.args.len c.args.ds c.args.to)) →
    g.N.Near.view c.rename_near.new.near ≡ moved (g.N.Near.view c.args.near.now) c.args.pointer c.args.to
exactly g c still named =
    let s = g.N.Near.view c.args.near.now in
    let p = c.args.pointer in
    let x = c.args in
    let near = c.requires.may.near in
    let there = with_written_span s p x.len x.ds x.to (data_at s.word x.from) in
    named ∙ ap (λ (y : State). after y (Name p x.found (near_word (is_dirty (read_of x.found)) x.len x.ds x.to))) (c.copy_object.ensures.exact still)
    ∙ ap (λ w. after there (Name p w (near_word (is_dirty (read_of w)) x.len x.ds x.to))) c.requires.found
    ∙ ap (λ o. after there (Name p (s.cell p) (near_word (is_dirty o) x.len x.ds x.to))) near ∙ sym (ap (moved_of s p x.to) near)

pub rename_near-requires-clause-pointer : goal.rename_near-requires-clause-pointer
rename_near-requires-clause-pointer g c = subst (λ (x : State). c.args.pointer < CELLS * x.mutators) (sym c.copy_object.ensures.copied.is) c.requires.may.pointer

pub rename_near-requires-clause-found : goal.rename_near-requires-clause-found
rename_near-requires-clause-found g c = c.requires.found ∙ sym (ap (λ (x : State). x.cell c.args.pointer) c.copy_object.ensures.copied.is)

pub rename_near-requires-clause-readable : goal.rename_near-requires-clause-readable
rename_near-requires-clause-readable g c = ap is_some (ap read_of c.requires.found ∙ c.requires.may.near)

pub rename_near-requires-clause-alive : goal.rename_near-requires-clause-alive
rename_near-requires-clause-alive g c = c.requires.alive

pub rename_near-requires-clause-layout : goal.rename_near-requires-clause-layout
rename_near-requires-clause-layout g c = layout_there (g.N.Near.view c.args.near.now) c.args.pointer c.args.len c.args.ds c.args.from c.args.to c.requires.may

pub rename_near-requires-clause-may : goal.rename_near-requires-clause-may
rename_near-requires-clause-may g c =
    let s = g.N.Near.view c.args.near.now in
    let t = g.N.Near.view c.copy_object.new.near in
    let wanted : has_evac (read_of (s.cell c.args.pointer)) ≡ true = ap (λ w. has_evac (read_of w)) (sym c.requires.found) ∙ c.requires.wanted in
    let alive : is_dropped (read_of (s.cell c.args.pointer)) ≡ false = ap (λ w. is_dropped (read_of w)) (sym c.requires.found) ∙ c.requires.alive in
    may_rename s t c.args.pointer c.args.len c.args.ds c.args.from c.args.to c.requires.may c.copy_object.ensures.copied wanted alive

pub returns-in-Ok-clause-moved : goal.returns-in-Ok-clause-moved
returns-in-Ok-clause-moved g c _ =
    let s = g.N.Near.view c.args.near.now in
    let t = g.N.Near.view c.copy_object.new.near in
    let u = g.N.Near.view c.rename_near.new.near in
    let wanted : has_evac (read_of (s.cell c.args.pointer)) ≡ true = ap (λ w. has_evac (read_of w)) (sym c.requires.found) ∙ c.requires.wanted in
    let alive : is_dropped (read_of (s.cell c.args.pointer)) ≡ false = ap (λ w. is_dropped (read_of w)) (sym c.requires.found) ∙ c.requires.alive in
    moved_by s t c.args.pointer c.args.len c.args.ds c.args.from c.args.to c.requires.may c.copy_object.ensures.copied wanted alive u c.in-Ok.ensures.done

pub returns-in-Err-clause-dropped : goal.returns-in-Err-clause-dropped
returns-in-Err-clause-dropped g c _ =
    let s = g.N.Near.view c.args.near.now in
    let t = g.N.Near.view c.copy_object.new.near in
    let u = g.N.Near.view c.rename_near.new.near in
    let wanted : has_evac (read_of (s.cell c.args.pointer)) ≡ true = ap (λ w. has_evac (read_of w)) (sym c.requires.found) ∙ c.requires.wanted in
    let alive : is_dropped (read_of (s.cell c.args.pointer)) ≡ false = ap (λ w. is_dropped (read_of w)) (sym c.requires.found) ∙ c.requires.alive in
    let old : t.cell c.args.pointer ≡ s.cell c.args.pointer = ap (λ (x : State). x.cell c.args.pointer) c.copy_object.ensures.copied.is in
    moved_dropped s t c.args.pointer c.args.len c.args.ds c.args.from c.args.to c.requires.may c.copy_object.ensures.copied wanted alive u c.in-Err.field-0 c.in-Err.ensures.fits
    (subst (λ v. Finds v c.in-Err.field-0) (c.requires.found ∙ sym old) c.in-Err.ensures.found) c.in-Err.ensures.dropped c.in-Err.ensures.kept

pub returns-in-Ok-clause-came : goal.returns-in-Ok-clause-came
returns-in-Ok-clause-came g c = then_came c.copy_object.ensures.came (came_only _ c.rename_near.ensures.names)

pub returns-in-Err-clause-came : goal.returns-in-Err-clause-came
returns-in-Err-clause-came g c = then_came c.copy_object.ensures.came (came_only _ c.rename_near.ensures.names)

pub returns-in-Ok-clause-dropped : goal.returns-in-Ok-clause-dropped
returns-in-Ok-clause-dropped g c odd = absurd (true≢false odd)

pub returns-in-Ok-clause-won : goal.returns-in-Ok-clause-won
returns-in-Ok-clause-won g c still = refl

pub returns-in-Ok-clause-exact : goal.returns-in-Ok-clause-exact
returns-in-Ok-clause-exact g c still = exactly g (goal.at.returns-in-Ok-clause-exact g c).After-rename_near still (c.in-Ok.ensures.set still)

pub returns-in-Err-clause-moved : goal.returns-in-Err-clause-moved
returns-in-Err-clause-moved g c odd = absurd (false≢true odd)

pub returns-in-Err-clause-won : goal.returns-in-Err-clause-won
returns-in-Err-clause-won g c still = absurd (c.in-Err.ensures.won still)

pub returns-in-Err-clause-exact : goal.returns-in-Err-clause-exact
returns-in-Err-clause-exact g c still = absurd (c.in-Err.ensures.won still)
