-- A pointer is named to a new span: the law stays, and the world has its object there.
use Rattle.std.proofs.Common.{◌≡◌, ℕ, ◌+◌, ◌*◌, ◌<◌, ◌^◌, Bool, true, false, arith, refl, sym, ap, subst, ◌∙◌, Some, None}
use mathlib.Core.Path.{fun_ext}
use Rattle.far_word.specs.declared.mark.Marks.{Marks}
use Rattle.far_word.specs.declared.pointer.Place.{Place}
use Rattle.far_word.specs.declared.pointer.PtrWord.TheVariants.{Near}
use Rattle.far_word.specs.declared.sizes.TheConstants.{CELLS}
use Rattle.far_word.specs.Header.{head_of}
use Rattle.far_word.specs.Pointer.{read_of}
use Rattle.far_word.specs.Sizes.{words_for}
use Rattle.far_word.proofs.HeaderLaws.{head_back}
use Rattle.far_word.proofs.PointerLaws.{read_says}
use Rattle.far_events.specs.events.Copies.{EndsPadded}
use Rattle.far_events.specs.events.Copied.{with_named}
use Rattle.far_events.specs.events.Naming.{unmarked}
use Rattle.far_events.specs.events.NewSpans.{IsNewSpan, with_span}
use Rattle.far_events.specs.state.Law.{Law, Blank, IsClean, IsStored, in_use}
use Rattle.far_events.specs.state.State.{State, put, addr}
use Rattle.far_core.specs.world.World.{Object}
use Rattle.far_core.specs.world.WorldOf.{world_of, object_of, is_group, is_marked}
use Rattle.far_events.proofs.Copies.{padded_all}
use Rattle.far_events.proofs.Bounds.{header}
use Rattle.far_core.proofs.KeepPlace.{law_with_span}
use Rattle.far_events.proofs.NewSpans.{at_tail, unsealed}
use Rattle.far_core.proofs.NewSpans.{groups_then}
use Rattle.far_events.proofs.Put.{put_both, put_old, put_same, put_other}
use Rattle.far_core.proofs.Worlds.{World-ext}

module _ (s : State) (law : Law s) (p new len ds : ℕ) (place : Place) (dirty : Bool) (says : read_of new ≡ Some (Near len ds place (unmarked dirty))) where
  -- the new word without DIRTY: the words that stand there are stored
  pub clean_at : (dirty ≡ false → IsStored (s.stored p) len) → (s.honest ≡ true → dirty ≡ false → (i : ℕ) → i < words_for len → s.stored p i ≡ s.word (addr place + 1 + i)) →
      IsClean s.honest s.word (s.stored p) (read_of new)
  clean_at back same = record {
    back = λ n d at k is none.
        let is2 : Some (Near len ds place (unmarked dirty)) ≡ Some (Near n d at k) = sym says ∙ is in
        let long : len ≡ n = cc in
        let marks : unmarked dirty ≡ k = cc in
        subst (IsStored (s.stored p)) long (back (ap (λ (x : Marks). x.dirty) marks ∙ none));
    same = λ honest n d at k is none i lt.
        let is2 : Some (Near len ds place (unmarked dirty)) ≡ Some (Near n d at k) = sym says ∙ is in
        let long : len ≡ n = cc in
        let there : place ≡ at = cc in
        let marks : unmarked dirty ≡ k = cc in
        same honest (ap (λ (x : Marks). x.dirty) marks ∙ none) i (omega arith) ∙ ap (λ x. s.word (addr x + 1 + i)) there;
  }

  pub keeps_new_span : p < CELLS * s.mutators → new < 2 ^ 64 → IsNewSpan s p len ds place → EndsPadded s.word len place → s.held p ≡ None →
      (s.honest ≡ true → s.used p ≡ false → Blank s.word len place) → IsClean s.honest s.word (s.stored p) (read_of new) → Law (with_span s p new len place)
  keeps_new_span cell fits span padded unheld blank clean =
      let x = read_says new (Near len ds place (unmarked dirty)) fits says in
      let back : head_of (s.word (addr place)) ≡ Some (header p len ds) =
      ap head_of span.head ∙ head_back (header p len ds) (record { some = omega (arith, x.0); most = omega (arith, x.0); structure = omega (arith, x.0); cell = omega (arith, cell, law.shape.few_mutators) }) in
      law_with_span s law p len ds place (unmarked dirty) new says fits cell unheld (λ _. ap in_use says)
      (omega (arith, x.0)) (omega (arith, x.0)) (omega (arith, x.0)) span.next.0 (unsealed s place span.next) (at_tail s law place span.next) span.head back
      (padded_all s.word law.spans.word_fits len place (omega (arith, x.0)) padded) blank clean

  -- what objects and marks are, where the cell names the place
  objects_then : (x : Object) → object_of s.word (s.stored p) p (read_of new) ≡ Some x →
      (λ q. object_of s.word (s.stored q) q (read_of (put s.cell p new q))) ≡ put (λ q. object_of s.word (s.stored q) q (read_of (s.cell q))) p (Some x)
  objects_then x is = fun_ext (λ q. put_both (λ w. object_of s.word (s.stored q) q (read_of w) ≡ put (λ r. object_of s.word (s.stored r) r (read_of (s.cell r))) p (Some x) q) s.cell p new q
      (λ e. ap (λ r. object_of s.word (s.stored r) r (read_of new)) e ∙ is ∙ sym (put_same (λ r. object_of s.word (s.stored r) r (read_of (s.cell r))) p _ q e))
      (λ ne. sym (put_other (λ r. object_of s.word (s.stored r) r (read_of (s.cell r))) p _ q ne)))

  marks_then : (λ q. is_marked (read_of (put s.cell p new q))) ≡ put (λ q. is_marked (read_of (s.cell q))) p false
  marks_then = fun_ext (λ q. put_both (λ w. is_marked (read_of w) ≡ put (λ r. is_marked (read_of (s.cell r))) p false q) s.cell p new q
      (λ e. ap is_marked says ∙ sym (put_same (λ r. is_marked (read_of (s.cell r))) p false q e))
      (λ ne. sym (put_other (λ r. is_marked (read_of (s.cell r))) p false q ne)))

  -- the object that is meant from then on, unmarked, in a group that is held
  pub span_world : (x : Object) → object_of s.word (s.stored p) p (read_of new) ≡ Some x →
      world_of (with_span s p new len place) ≡ record (world_of s) {
        object = put (world_of s).object p (Some x);
        marked = put (world_of s).marked p false;
        group = put (world_of s).group place.log true;
      }
  unfolding world_of
  span_world x is = World-ext _ _ (objects_then x is) refl refl marks_then (fun_ext (groups_then s.kind s.current place.log law.logs.is_open)) refl

  -- the same of a copy, whose group is held already
  pub named_world : (j : ℕ) (x : Object) → object_of s.word (s.stored p) p (read_of new) ≡ Some x → is_group (s.kind place.log) ≡ true →
      world_of (with_named s p new j) ≡ record (world_of s) {
        object = put (world_of s).object p (Some x);
        marked = put (world_of s).marked p false;
        group = put (world_of s).group place.log true;
      }
  unfolding world_of
  named_world j x is held = World-ext _ _ (objects_then x is) refl refl marks_then (sym (put_old (λ l. is_group (s.kind l)) place.log true held)) refl
