use Rattle.far_book.proofs.book.fetching.come_near.Goals as goal
use Rattle.std.proofs.Common.{false, ◌≡◌, ◌∙◌, ◌*◌, ◌<◌, ◌-◌, ℕ, ap, arith, sym, subst}
use Rattle.std.specs.Prelude.{IfErr, IfOk, is_some}
use Rattle.far_word.specs.declared.sizes.TheConstants.{CELLS}
use Rattle.far_word.specs.Bytes.{packed_word}
use Rattle.far_word.specs.Pointer.{read_of}
use Rattle.far_word.specs.Sizes.{words_for}
use Rattle.far_events.specs.declared.event.Event.TheVariants.{Name}
use Rattle.far_events.specs.events.Naming.{is_dropped}
use Rattle.far_events.specs.events.Step.{after}
use Rattle.far_events.specs.state.State.{State}
use Rattle.far_book.specs.book.Effects.{fetched_of, near_word, with_written_span}
use Rattle.far_book.specs.book.Placeable.{IsAbsent}
use Rattle.far_book.specs.book.Renaming.{MayRename, Renamed, seen}
use Rattle.far_book.proofs.region.Coming.{far_stopped, may_come}
use Rattle.far_book.proofs.region.Packing.{packed_padded, packed_wide}
use Rattle.far_hand.proofs.Closure.{then_came, came_only}

pub put_object-requires-clause-head : goal.put_object-requires-clause-head
put_object-requires-clause-head g c = c.requires.head

pub put_object-requires-clause-layout : goal.put_object-requires-clause-layout
put_object-requires-clause-layout g c = c.requires.layout

pub put_object-requires-clause-next : goal.put_object-requires-clause-next
put_object-requires-clause-next g c = c.requires.next

pub put_object-requires-clause-tail : goal.put_object-requires-clause-tail
put_object-requires-clause-tail g c = c.requires.tail

pub put_object-requires-clause-long : goal.put_object-requires-clause-long
put_object-requires-clause-long g c = c.requires.long

pub near_word-requires : goal.near_word-requires
near_word-requires g c = c.requires.layout

pub rename-requires-clause-pointer : goal.rename-requires-clause-pointer
rename-requires-clause-pointer g c = subst (λ (x : State). c.args.pointer < CELLS * x.mutators) (sym c.put_object.ensures.set) c.requires.pointer

pub rename-requires-clause-found : goal.rename-requires-clause-found
rename-requires-clause-found g c = c.requires.found ∙ sym (ap (λ (x : State). x.cell c.args.pointer) c.put_object.ensures.set)

pub rename-requires-clause-readable : goal.rename-requires-clause-readable
rename-requires-clause-readable g c = ap is_some c.requires.absent.1

pub rename-requires-clause-alive : goal.rename-requires-clause-alive
rename-requires-clause-alive g c = ap is_dropped c.requires.absent.1 ∙ c.requires.absent.2

pub rename-requires-clause-may : goal.rename-requires-clause-may
rename-requires-clause-may g c =
    let s = g.N.Near.view c.args.near.now in
    let row = packed_word c.args.bytes.now in
    let absent = subst (λ v. IsAbsent (read_of v) c.args.len c.args.ds) c.requires.found c.requires.absent in
    let last : words_for c.args.len - 1 < words_for c.args.len = omega (arith, c.requires.head.some) in
    let pack : c.near_word.result ≡ near_word false c.args.len c.args.ds c.args.place = c.near_word.ensures in
    let may = may_come s c.args.pointer c.args.len c.args.ds c.args.place row c.requires.pointer absent c.requires.head.some c.requires.layout c.requires.next
    (packed_padded c.args.bytes.now c.args.len (words_for c.args.len - 1) (λ k. (c.type_inv.bytes k).fits) c.requires.long last) c.requires.stored in
    subst (λ (t : State). MayRename t c.args.pointer c.near_word.result) (sym c.put_object.ensures.set)
    (subst (λ (x : ℕ). MayRename (with_written_span s c.args.pointer c.args.len c.args.ds c.args.place row) c.args.pointer x) (sym pack) may)

pub returns-clause-padded : goal.returns-clause-padded
returns-clause-padded g c i lt = (packed_wide c.args.bytes.now (λ k. (c.type_inv.bytes k).fits) i, packed_padded c.args.bytes.now c.args.len i (λ k. (c.type_inv.bytes k).fits) c.requires.long lt)

pub returns-clause-dropped : goal.returns-clause-dropped
returns-clause-dropped g c = far_stopped c.rename.result c.args.found c.args.len c.args.ds c.requires.absent.0 c.requires.absent.1 c.rename.ensures.found c.rename.ensures.stopped

pub returns-clause-came : goal.returns-clause-came
returns-clause-came g c = then_came (came_only _ c.put_object.ensures.puts) (came_only _ c.rename.ensures.names)

pub returns-clause-done : goal.returns-clause-done
returns-clause-done g c =
    let p = c.args.pointer in
    let u = g.N.Near.view c.rename.new.near in
    subst (λ (x : State). IfOk c.rename.result (λ _. Renamed x u p (near_word false c.args.len c.args.ds c.args.place))) c.put_object.ensures.set
    (subst (λ w. IfOk c.rename.result (λ _. Renamed (g.N.Near.view c.put_object.new.near) u p w)) c.near_word.ensures c.rename.ensures.done)

pub returns-clause-set : goal.returns-clause-set
returns-clause-set g c still =
    let s = g.N.Near.view c.args.near.now in
    let x = c.args in
    let p = x.pointer in
    let row = packed_word x.bytes.now in
    let there = with_written_span s p x.len x.ds x.place row in
    let same = ap (λ (y : State). after y (Name p x.found c.near_word.result)) c.put_object.ensures.set ∙ ap (λ w. after there (Name p x.found w)) c.near_word.ensures
    ∙ ap (λ w. after there (Name p w (near_word false x.len x.ds x.place))) c.requires.found ∙ sym (ap (fetched_of s p x.place row) (ap read_of (sym c.requires.found) ∙ c.requires.absent.1)) in
    subst (λ (y : State). IfOk c.rename.result (λ _. g.N.Near.view c.rename.new.near ≡ y)) same (c.rename.ensures.set still)

pub returns-clause-won : goal.returns-clause-won
returns-clause-won g c = c.rename.ensures.won

pub returns-clause-fits : goal.returns-clause-fits
returns-clause-fits g c = c.rename.ensures.fits

pub returns-clause-found : goal.returns-clause-found
returns-clause-found g c = c.rename.ensures.found

pub returns-clause-kept : goal.returns-clause-kept
returns-clause-kept g c = subst (λ (x : State). IfErr c.rename.result (λ word. g.N.Near.view c.rename.new.near ≡ seen x c.args.pointer word)) c.put_object.ensures.set c.rename.ensures.kept
