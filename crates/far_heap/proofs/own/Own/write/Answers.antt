use Rattle.std.proofs.Common.{◌≡◌, ◌<◌, ℕ, true, length, is_some, refl, ap, sym, subst, ◌∙◌, arith}
use Rattle.atomic_table.specs.Seated.{TableId}
use Rattle.far_word.specs.declared.sizes.TheConstants.{CELLS}
use Rattle.far_table.specs.Seats.{Seated}
use Rattle.far_heap.specs.declared.rows.Rows.{Rows}
use Rattle.far_table.specs.View.{OwnerView}
use Rattle.far_table.specs.Views.{held_at, len_of, object_at, soiled_at}
use Rattle.far_heap.specs.Mine.{Mine, OwnOk, SoilsOne, StructuresOk, len_in, mine_of, views, writing}
use Rattle.far_heap.proofs.Accesses.{storing, wrote_mine, wrote_ok, wrote_structures}
use Rattle.far_heap.proofs.Mines.{len_own, views_so}
use Rattle.far_heap.proofs.OwnRows.{length-own_row}
use Rattle.far_heap.proofs.OwnSteps.{HasSoiled, first_soiled, soiled_before, soiled_mine, structures_move, used_below, viewed_used}
use Rattle.far_heap.proofs.Soiling.{viewed_own, writing_soils}
use Rattle.far_heap.proofs.own.Own.write.Goals as goal
use Rattle.far_heap.proofs.own.Own.write.Given.{Over}
use Rattle.far_heap.proofs.own.Own.write.Goals.{then-not-has_soiled, else-not-has_soiled}

-- once the scope has soiled the object, before the store and after it
soiled : (g : Over) (c : goal.After-store_range-arg-1 g) → let t = c.if-not-has_soiled.self-inside in
    HasSoiled c.self.inside.seat t.seat c.args.view.pointer g.K.HeapName.heap.table t.number c.self.inside.rows t.rows × (t.number ≡ c.self.inside.number)
soiled g c =
    let s = c.self.inside in
    let p : ℕ = c.args.view.pointer in
    let ok = c.self.invariant.0 in
    let own = (views_so s.seat p (subst (λ (m : Mine). views m p ≡ true) (sym c.self.view_is) c.in-Ok.ensures.done.1)).0 ∙ ok.number_is in
    elim c.if-not-has_soiled.branch [
      | then-not-has_soiled w ↦ subst (λ t. HasSoiled s.seat t.seat p g.K.HeapName.heap.table t.number s.rows t.rows × (t.number ≡ s.number)) (sym w.self-inside-is)
          (first_soiled s.seat g.K.HeapName.heap.table s.number s.rows ok p w.soil.result w.soil.new.self w.note_soiled.new.self w.soil.ensures.table w.soil.ensures.view own w.note_soiled.ensures, refl)
      | else-not-has_soiled w ↦ subst (λ t. HasSoiled s.seat t.seat p g.K.HeapName.heap.table t.number s.rows t.rows × (t.number ≡ s.number)) (sym w.self-inside-is)
          (soiled_before s.seat g.K.HeapName.heap.table s.number s.rows ok p own (sym c.has_soiled.ensures ∙ w.if-not-has_soiled.false), refl)
    ]

soiled_then : (g : Over) (c : goal.After-store_range g) → let t = c.if-not-has_soiled.self-inside in
    HasSoiled c.self.inside.seat t.seat c.args.view.pointer g.K.HeapName.heap.table t.number c.self.inside.rows t.rows × (t.number ≡ c.self.inside.number)
soiled_then g c =
    let s = c.self.inside in
    let p : ℕ = c.args.view.pointer in
    let ok = c.self.invariant.0 in
    let own = (views_so s.seat p (subst (λ (m : Mine). views m p ≡ true) (sym c.self.view_is) c.in-Ok.ensures.done.1)).0 ∙ ok.number_is in
    elim c.if-not-has_soiled.branch [
      | then-not-has_soiled w ↦ subst (λ t. HasSoiled s.seat t.seat p g.K.HeapName.heap.table t.number s.rows t.rows × (t.number ≡ s.number)) (sym w.self-inside-is)
          (first_soiled s.seat g.K.HeapName.heap.table s.number s.rows ok p w.soil.result w.soil.new.self w.note_soiled.new.self w.soil.ensures.table w.soil.ensures.view own w.note_soiled.ensures, refl)
      | else-not-has_soiled w ↦ subst (λ t. HasSoiled s.seat t.seat p g.K.HeapName.heap.table t.number s.rows t.rows × (t.number ≡ s.number)) (sym w.self-inside-is)
          (soiled_before s.seat g.K.HeapName.heap.table s.number s.rows ok p own (sym c.has_soiled.ensures ∙ w.if-not-has_soiled.false), refl)
    ]

-- its row is there
below : (s : Seated) (name : TableId) (number : ℕ) (rows : Rows) → OwnOk s name number rows → (p : ℕ) → views (mine_of s) p ≡ true → p < length rows.soiled.items
below s name number rows ok p viewed = omega (arith, used_below s name number rows ok p (viewed_used s name number rows ok p viewed), ok.rows_ok.many_soiled)

pub has_soiled-requires : goal.has_soiled-requires
has_soiled-requires g c =
    let s = c.self.inside in
    below s.seat _ s.number s.rows c.self.invariant.0 c.args.view.pointer (subst (λ (m : Mine). views m c.args.view.pointer ≡ true) (sym c.self.view_is) c.in-Ok.ensures.done.1)

pub note_soiled-requires : goal.note_soiled-requires
note_soiled-requires g c =
    let s = c.self.inside in
    below s.seat _ s.number s.rows c.self.invariant.0 c.args.view.pointer (subst (λ (m : Mine). views m c.args.view.pointer ≡ true) (sym c.self.view_is) c.in-Ok.ensures.done.1)

pub soil-requires : goal.soil-requires
soil-requires g c =
    let p : ℕ = c.args.view.pointer in
    record { held = (views_so c.self.inside.seat p (subst (λ (m : Mine). views m p ≡ true) (sym c.self.view_is) c.in-Ok.ensures.done.1)).1 }

pub store_range-requires-clause-held : goal.store_range-requires-clause-held
store_range-requires-clause-held g c =
    let p : ℕ = c.args.view.pointer in
    subst (λ (o : OwnerView). is_some (held_at o p) ≡ true) (sym (soiled g c).0.soils.rest) (views_so c.self.inside.seat p (subst (λ (m : Mine). views m p ≡ true) (sym c.self.view_is) c.in-Ok.ensures.done.1)).1

pub store_range-requires-clause-soiled : goal.store_range-requires-clause-soiled
store_range-requires-clause-soiled g c = (soiled g c).0.soils.here

pub store_range-requires-clause-len : goal.store_range-requires-clause-len
store_range-requires-clause-len g c =
    let p : ℕ = c.args.view.pointer in
    let own = (views_so c.self.inside.seat p (subst (λ (m : Mine). views m p ≡ true) (sym c.self.view_is) c.in-Ok.ensures.done.1)).0 in
    ap (λ (o : OwnerView). len_of (object_at o p)) (soiled g c).0.soils.rest ∙ sym (len_own c.self.inside.seat p own) ∙ ap (λ (m : Mine). len_in m p) c.self.view_is ∙ sym c.in-Ok.ensures.done.2

pub invariant_of-self : goal.invariant_of-self
invariant_of-self g c =
    let t = c.if-not-has_soiled.self-inside in
    let p : ℕ = c.args.view.pointer in
    let so = soiled_then g c in
    let wrote = c.store_range.ensures.wrote in
    let s = c.self.inside in (
      wrote_ok p c.args.from c.args.bytes.now t.seat.view c.store_range.new.seat.view wrote t.seat.table c.store_range.new.seat.table _ t.number t.rows c.store_range.ensures.table so.0.ok,
      wrote_structures p c.args.from c.args.bytes.now t.seat.view c.store_range.new.seat.view wrote t.number t.rows
          (subst (λ n. StructuresOk t.seat.view n t.rows) (sym so.1) (structures_move s.number s.rows t.rows s.seat.view t.seat.view _ c.self.invariant.1 so.0.soils.rest (λ q. refl) so.0.kept)),
    )

pub returns-clause-done : goal.returns-clause-done
returns-clause-done g c =
    let p : ℕ = c.args.view.pointer in
    let s = c.self.inside.seat in
    let t = c.if-not-has_soiled.self-inside.seat in
    let done = c.in-Ok.ensures.done in
    let so = (soiled_then g c).0 in
    let own = (views_so s p (subst (λ (m : Mine). views m p ≡ true) (sym c.self.view_is) done.1)).0 in
    let own' = own ∙ sym (ap (λ (o : OwnerView). o.number) so.soils.rest) in
    let len = ap (λ (o : OwnerView). len_of (object_at o p)) so.soils.rest ∙ sym (len_own s p own) ∙ ap (λ (m : Mine). len_in m p) c.self.view_is ∙ sym done.2 in (
      done.0,
      wrote_mine t c.store_range.new.seat p c.args.from c.args.bytes.now own' (omega (arith, len, done.4)) c.store_range.ensures.table c.store_range.ensures.wrote
          ∙ ap (storing p c.args.from c.args.bytes.now) (soiled_mine s p t own so.table so.soils) ∙ ap (writing p c.args.from c.args.bytes.now) c.self.view_is,
    )

pub returns-clause-soiled : goal.returns-clause-soiled
returns-clause-soiled g c =
    let p : ℕ = c.args.view.pointer in
    let m : Mine = c.args.self.now in
    let o : OwnerView = c.self.inside.seat.view in
    let many : length m.soiled ≡ CELLS = ap (λ (x : Mine). length x.soiled) (sym c.self.view_is) ∙ length-own_row (λ q. soiled_at o q) o.number in
    subst (SoilsOne p m) (sym (returns-clause-done g c).1) (writing_soils m many p c.args.from c.args.bytes.now (viewed_own m p c.in-Ok.ensures.done.1))
