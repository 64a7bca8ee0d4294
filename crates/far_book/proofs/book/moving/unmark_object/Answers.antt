use Rattle.far_book.proofs.book.moving.unmark_object.Goals as goal
use Rattle.std.proofs.Common.{◌≡◌, ◌<◌, ◌^◌, ap, refl, sym, subst, ◌∙◌, false, arith}
use Rattle.std.specs.Prelude.{is_some}
use Rattle.std.proofs.lemmas.Bool.{false≢true, true≢false}
use Rattle.far_word.specs.Pointer.{read_of}
use Rattle.far_events.specs.declared.event.Event.TheVariants.{Name}
use Rattle.far_events.specs.events.Naming.{is_dropped}
use Rattle.far_events.specs.events.Step.{after}
use Rattle.far_events.specs.state.Law.{is_dirty}
use Rattle.far_hand.specs.Finds.{Finds}
use Rattle.far_book.specs.book.Effects.{near_word, stayed_of}
use Rattle.far_book.proofs.region.Moved.{layout_here, may_unmark, stayed_by}
use Rattle.far_book.proofs.region.Settled.{drop_here}

pub rename_near-requires-clause-pointer : goal.rename_near-requires-clause-pointer
rename_near-requires-clause-pointer g c = c.requires.may.pointer

pub rename_near-requires-clause-found : goal.rename_near-requires-clause-found
rename_near-requires-clause-found g c = c.requires.found

pub rename_near-requires-clause-readable : goal.rename_near-requires-clause-readable
rename_near-requires-clause-readable g c = ap is_some (ap read_of c.requires.found ∙ c.requires.may.near)

pub rename_near-requires-clause-alive : goal.rename_near-requires-clause-alive
rename_near-requires-clause-alive g c = c.requires.alive

pub rename_near-requires-clause-layout : goal.rename_near-requires-clause-layout
rename_near-requires-clause-layout g c =
    let s = g.N.Near.view c.args.near.now in
    let fits : s.cell c.args.pointer < 2 ^ 64 = omega (arith, c.requires.found) in
    let alive : is_dropped (read_of (s.cell c.args.pointer)) ≡ false = ap (λ w. is_dropped (read_of w)) (sym c.requires.found) ∙ c.requires.alive in
    layout_here s c.args.pointer c.args.len c.args.ds c.args.place c.requires.may fits alive

pub rename_near-requires-clause-may : goal.rename_near-requires-clause-may
rename_near-requires-clause-may g c =
    let s = g.N.Near.view c.args.near.now in
    let fits : s.cell c.args.pointer < 2 ^ 64 = omega (arith, c.requires.found) in
    let alive : is_dropped (read_of (s.cell c.args.pointer)) ≡ false = ap (λ w. is_dropped (read_of w)) (sym c.requires.found) ∙ c.requires.alive in
    may_unmark s c.args.pointer c.args.len c.args.ds c.args.place c.requires.may fits alive

pub returns-in-Ok-clause-stayed : goal.returns-in-Ok-clause-stayed
returns-in-Ok-clause-stayed g c _ =
    let s = g.N.Near.view c.args.near.now in
    let u = g.N.Near.view c.rename_near.new.near in
    let fits : s.cell c.args.pointer < 2 ^ 64 = omega (arith, c.requires.found) in
    let alive : is_dropped (read_of (s.cell c.args.pointer)) ≡ false = ap (λ w. is_dropped (read_of w)) (sym c.requires.found) ∙ c.requires.alive in
    stayed_by s c.args.pointer c.args.len c.args.ds c.args.place c.requires.may fits alive u c.in-Ok.ensures.done

pub returns-in-Ok-clause-dropped : goal.returns-in-Ok-clause-dropped
returns-in-Ok-clause-dropped g c odd = absurd (true≢false odd)

pub returns-in-Ok-clause-won : goal.returns-in-Ok-clause-won
returns-in-Ok-clause-won g c still = refl

pub returns-in-Ok-clause-exact : goal.returns-in-Ok-clause-exact
returns-in-Ok-clause-exact g c still =
    let s = g.N.Near.view c.args.near.now in
    let x = c.args in
    let near = c.requires.may.near in
    c.in-Ok.ensures.set still ∙ ap (λ w. after s (Name x.pointer w (near_word (is_dirty (read_of w)) x.len x.ds x.place))) c.requires.found
    ∙ ap (λ o. after s (Name x.pointer (s.cell x.pointer) (near_word (is_dirty o) x.len x.ds x.place))) near ∙ sym (ap (stayed_of s x.pointer) near)

pub returns-in-Ok-clause-names : goal.returns-in-Ok-clause-names
returns-in-Ok-clause-names g c = c.rename_near.ensures.names

-- ---- its owner has dropped it
pub returns-in-Err-clause-stayed : goal.returns-in-Err-clause-stayed
returns-in-Err-clause-stayed g c odd = absurd (false≢true odd)

pub returns-in-Err-clause-dropped : goal.returns-in-Err-clause-dropped
returns-in-Err-clause-dropped g c _ =
    let e = c.in-Err in
    drop_here (g.N.Near.view c.args.near.now) (g.N.Near.view c.rename_near.new.near) c.args.pointer e.field-0 (subst (λ v. Finds v e.field-0) c.requires.found e.ensures.found) e.ensures.kept e.ensures.fits e.ensures.dropped

pub returns-in-Err-clause-won : goal.returns-in-Err-clause-won
returns-in-Err-clause-won g c still = absurd (c.in-Err.ensures.won still)

pub returns-in-Err-clause-exact : goal.returns-in-Err-clause-exact
returns-in-Err-clause-exact g c still = absurd (c.in-Err.ensures.won still)

pub returns-in-Err-clause-names : goal.returns-in-Err-clause-names
returns-in-Err-clause-names g c = c.rename_near.ensures.names
