-- What the form of naming Retires owes.
use Rattle.std.proofs.Common.{◌≡◌, ◌≢◌, ℕ, ◌*◌, ◌<◌, ◌^◌, true, false, refl, sym, ap, ◌∙◌, Option, Some, None}
use Rattle.std.specs.Prelude.{IsSome}
use Rattle.std.proofs.lemmas.Bool.{false≢true}
use mathlib.Core.Path.{fun_ext}
use Rattle.far_word.specs.declared.pointer.PtrWord.{PtrWord}
use Rattle.far_word.specs.declared.pointer.PtrWord.TheVariants.{Free, Near, Far}
use Rattle.far_word.specs.declared.sizes.TheConstants.{CELLS}
use Rattle.far_word.specs.Pointer.{read_of}
use Rattle.far_events.specs.declared.naming.Naming.TheVariants.{Retires}
use Rattle.far_events.specs.events.Naming.{is_dropped}
use Rattle.far_events.specs.state.Law.{Law, NamesBack, StoresBack, IsBlank, IsClean, held_place, in_use, is_dirty}
use Rattle.far_events.specs.state.State.{State, put}
use Rattle.far_core.specs.world.WorldOf.{world_of, object_of, is_marked}
use Rattle.far_core.proofs.Frames.{rounds_with_cell}
use Rattle.far_events.specs.state.Jobs.{near_place}
use Rattle.far_core.proofs.KeepJobs.{copies_with_cell}
use Rattle.far_core.proofs.NamingOwed.{NamingOwed}
use Rattle.far_events.proofs.Put.{put_both, put_same}
use Rattle.far_core.proofs.Touching.{one_cell, touched}
use Rattle.far_core.proofs.Worlds.{World-ext}

-- what is dropped isn't in use, is no object and isn't marked
dropped_unused : (o : Option PtrWord) → is_dropped o ≡ true → in_use o ≡ false
dropped_unused None d = absurd (false≢true d)
dropped_unused (Some Free) d = absurd (false≢true d)
dropped_unused (Some (Near len ds place m)) d = rw d refl
dropped_unused (Some (Far len ds m)) d = rw d refl

dropped_object : (f g : ℕ → ℕ) (p : ℕ) (o : Option PtrWord) → is_dropped o ≡ true → object_of f g p o ≡ None
dropped_object f g p None d = absurd (false≢true d)
dropped_object f g p (Some Free) d = absurd (false≢true d)
dropped_object f g p (Some (Near len ds place m)) d = rw d refl
dropped_object f g p (Some (Far len ds m)) d = rw d refl

dropped_unmarked : (o : Option PtrWord) → is_dropped o ≡ true → is_marked o ≡ false
dropped_unmarked None d = absurd (false≢true d)
dropped_unmarked (Some Free) d = absurd (false≢true d)
dropped_unmarked (Some (Near len ds place m)) d = rw d refl
dropped_unmarked (Some (Far len ds m)) d = rw d refl

module _ (s : State) (law : Law s) (p new : ℕ) (fits : new < 2 ^ 64) (cell : p < CELLS * s.mutators)
    (dropped : is_dropped (read_of (s.cell p)) ≡ true) (free : read_of new ≡ Some Free) where
  unused : (q : ℕ) → q ≡ p → s.used q ≢ true
  unused q e u = false≢true (sym (dropped_unused _ dropped) ∙ sym (ap (λ x. in_use (read_of (s.cell x))) e) ∙ law.views.used_cell q u)

  pub keeps_retire : Law record s { cell = put s.cell p new }
  keeps_retire = record {
    shape = law.shape;
    cells = record {
      cell_read = λ q. put_both (λ w. (w < 2 ^ 64) × IsSome (read_of w)) s.cell p new q (λ _. (fits, rw free refl)) (λ _. law.cells.cell_read q);
      cell_range = λ q. put_both (λ w. w ≢ 0 → q < CELLS * s.mutators) s.cell p new q (λ e _. rw e cell) (λ _. law.cells.cell_range q);
      cell_near = λ q. put_both (λ w. NamesBack s.word s.starts q (read_of w)) s.cell p new q
          (λ _ n d at k is. let odd : Some Free ≡ Some (Near n d at k) = sym free ∙ is in absurd cc) (λ _. law.cells.cell_near q);
      cell_far = λ q. put_both (λ w. StoresBack (s.stored q) (read_of w)) s.cell p new q
          (λ _ n d k is. let odd : Some Free ≡ Some (Far n d k) = sym free ∙ is in absurd cc) (λ _. law.cells.cell_far q);
    };
    spans = law.spans;
    logs = law.logs;
    scopes = law.scopes;
    views = record {
      held_open = law.views.held_open;
      held_names = λ q at h. put_both (λ w. held_place (read_of w) ≡ Some at) s.cell p new q
          (λ e. absurd (unused q e (law.views.held_used q (rw h refl)))) (λ _. law.views.held_names q at h);
      held_used = law.views.held_used;
      used_cell = λ q u. put_both (λ w. in_use (read_of w) ≡ true) s.cell p new q (λ e. absurd (unused q e u)) (λ _. law.views.used_cell q u);
    };
    rounds = rounds_with_cell s.epoch s.kind s.cell s.round s.round_epoch p new law.rounds (λ n d at k is. let odd : Some Free ≡ Some (Near n d at k) = sym free ∙ is in absurd cc);
    clears = law.clears;
    unadopted = λ honest q unadopted. put_both (λ w. IsBlank s.word (s.stored q) (read_of w)) s.cell p new q
        (λ _. record {
          near = λ n d at k is. let odd : Some Free ≡ Some (Near n d at k) = sym free ∙ is in absurd cc;
          far = λ n d k is. let odd : Some Free ≡ Some (Far n d k) = sym free ∙ is in absurd cc;
        })
        (λ _. law.unadopted honest q unadopted);
    copies = copies_with_cell s p new law (λ place is. let odd : None ≡ Some place = sym (ap near_place free) ∙ is in absurd cc);
    soils = record {
      soiled_held = law.soils.soiled_held;
      soiled_dirty = λ q h. put_both (λ w. is_dirty (read_of w) ≡ true) s.cell p new q (λ e. absurd (unused q e (law.views.held_used q (law.soils.soiled_held q h)))) (λ _. law.soils.soiled_dirty q h);
    };
    cleans = λ q. put_both (λ w. IsClean s.honest s.word (s.stored q) (read_of w)) s.cell p new q
        (λ _. record {
          back = λ n d at k is. let odd : Some Free ≡ Some (Near n d at k) = sym free ∙ is in absurd cc;
          same = λ _ n d at k is. let odd : Some Free ≡ Some (Near n d at k) = sym free ∙ is in absurd cc;
        })
        (λ _. law.cleans q);
  }

  pub retire_stays : world_of record s { cell = put s.cell p new } ≡ world_of s
  unfolding world_of
  retire_stays = World-ext _ _
      (fun_ext (λ q. put_both (λ w. object_of s.word (s.stored q) q (read_of w) ≡ object_of s.word (s.stored q) q (read_of (s.cell q))) s.cell p new q
      (λ e. ap (object_of s.word (s.stored q) q) free ∙ sym (dropped_object s.word (s.stored q) q (read_of (s.cell q)) (ap (λ x. is_dropped (read_of (s.cell x))) e ∙ dropped))) (λ _. refl)))
      refl refl
      (fun_ext (λ q. put_both (λ w. is_marked (read_of w) ≡ is_marked (read_of (s.cell q))) s.cell p new q
      (λ e. ap is_marked free ∙ sym (dropped_unmarked (read_of (s.cell q)) (ap (λ x. is_dropped (read_of (s.cell x))) e ∙ dropped))) (λ _. refl)))
      refl refl

module _ (p new : ℕ) where
  pub retires_owed : NamingOwed p new Retires
  retires_owed = record {
    keeps = λ s made. keeps_retire s made.law p new made.fits made.cell made.naming.0 made.naming.1;
    does = λ s made. retire_stays s made.law p new made.fits made.cell made.naming.0 made.naming.1;
    within = λ s. touched (one_cell s.epoch s.scope s.cell s.word s.copying.word p new) (λ k a b. refl) (λ q a. refl) (λ q a b. refl);
    names = λ s. put_same s.cell p new p refl;
    reports = λ s law. refl;
    causes = λ old says. tt;
  }
