-- What the form of naming Evicts owes.
use Rattle.std.proofs.Common.{◌≡◌, ◌≢◌, ℕ, ◌+◌, ◌*◌, ◌/◌, ◌<◌, ◌^◌, ◌-◌, true, false, cond, refl, sym, ap, arith, ◌∙◌, Some, None}
use Rattle.std.specs.Prelude.{IsSome, is_some}
use Rattle.std.proofs.lemmas.Bool.{lt-ltb, false≢true}
use mathlib.Core.Path.{fun_ext}
use Rattle.far_word.specs.declared.mark.Marks.{Marks}
use Rattle.far_word.specs.declared.pointer.Place.{Place}
use Rattle.far_word.specs.declared.pointer.PtrWord.TheVariants.{Near, Far}
use Rattle.far_word.specs.declared.sizes.TheConstants.{CELLS}
use Rattle.far_word.specs.Bytes.{bytes_of}
use Rattle.far_word.specs.Pointer.{read_of}
use Rattle.far_word.specs.Sizes.{words_for}
use Rattle.far_word.proofs.ByteLaws.{bytes_of-same}
use Rattle.far_events.specs.declared.naming.Naming.TheVariants.{Evicts}
use Rattle.far_events.specs.events.Naming.{no_marks}
use Rattle.far_events.specs.events.namings.Evicts.{with_kept, evicts_row}
use Rattle.far_events.specs.events.Touch.{CellAt, BookView, Touches}
use Rattle.far_events.specs.state.Law.{Law, NamesBack, StoresBack, IsBlank, IsClean, held_place, in_use, head_len, is_dirty}
use Rattle.far_events.specs.state.State.{State, put, addr}
use Rattle.far_core.specs.world.Steps.{GoesFar}
use Rattle.far_core.specs.world.World.{Object, Group, FarSide}
use Rattle.far_core.specs.world.WorldOf.{world_of, object_of, is_marked}
use Rattle.far_events.proofs.Bounds.{span_len}
use Rattle.far_core.proofs.Frames.{rounds_with_cell}
use Rattle.far_events.specs.state.Jobs.{near_place}
use Rattle.far_core.proofs.KeepJobs.{copies_with_cell}
use Rattle.far_core.proofs.NamingOwed.{NamingOwed}
use Rattle.far_events.proofs.Put.{put_both, put_two, put_same, put_other}
use Rattle.far_events.proofs.Quieting.{quiet_unheld}
use Rattle.far_core.proofs.Touching.{same_copier, one_cell}
use Rattle.far_core.proofs.Worlds.{World-ext}

-- a word that is stored
stored_word : (word : ℕ → ℕ) (stored : ℕ → ℕ → ℕ) (p a n i : ℕ) → i < n → with_kept word stored p a n i ≡ word (a + i)
stored_word word stored p a n i lt = ap (λ b. cond b (word (a + i)) (stored p i)) (lt-ltb i n lt)

module _ (s : State) (law : Law s) (p new len ds : ℕ) (place : Place) (m : Marks) (fits : new < 2 ^ 64) (cell : p < CELLS * s.mutators)
    (near : read_of (s.cell p) ≡ Some (Near len ds place m)) (kept : m.dropped ≡ false) (says : read_of new ≡ Some (Far len ds no_marks)) (unheld : s.held p ≡ None) where
  abbrev away : ℕ → ℕ
  away = with_kept s.word s.stored p (addr place + 1) (words_for len)

  abbrev later : State
  later = record s { cell = put s.cell p new; stored = put s.stored p away }

  padded : (i : ℕ) → i < words_for len → (away i < 2 ^ 64) × (away i < 2 ^ (8 * (len - 8 * i)))
  padded i lt =
      let there = law.cells.cell_near p len ds place m near in
      let long : head_len (s.word (addr place)) ≡ len = rw (span_len s law p len ds place m near) refl in
      let same : away i ≡ s.word (addr place + 1 + i) = stored_word s.word s.stored p (addr place + 1) (words_for len) i lt in
      rw same (law.spans.word_fits (addr place + 1 + i), rw (← long) (law.spans.span_padding (addr place) there.placed i (omega (arith, long))))

  stores : (q : ℕ) → StoresBack away (read_of new)
  stores q n d k is =
      let both : Some (Far len ds no_marks) ≡ Some (Far n d k) = sym says ∙ is in
      let long : n ≡ len = cc in
      λ i lt. rw long (padded i (omega arith))

  no_zeros : s.honest ≡ true → s.used p ≡ false → IsBlank s.word away (read_of new)
  no_zeros honest free = record {
    near = λ n d at k is. let odd : Some (Far len ds no_marks) ≡ Some (Near n d at k) = sym says ∙ is in absurd cc;
    far = λ n d k is _ i lt.
        let both : Some (Far len ds no_marks) ≡ Some (Far n d k) = sym says ∙ is in
        let long : n ≡ len = cc in
        let low : i < words_for len = omega arith in
        stored_word s.word s.stored p (addr place + 1) (words_for len) i low ∙ (law.unadopted honest p free).near len ds place m near kept i low;
  }

  pub keeps_evict : Law later
  keeps_evict = record {
    shape = law.shape;
    cells = record {
      cell_read = λ q. put_both (λ w. (w < 2 ^ 64) × IsSome (read_of w)) s.cell p new q (λ _. (fits, rw says refl)) (λ _. law.cells.cell_read q);
      cell_range = λ q. put_both (λ w. w ≢ 0 → q < CELLS * s.mutators) s.cell p new q (λ e _. rw e cell) (λ _. law.cells.cell_range q);
      cell_near = λ q. put_both (λ w. NamesBack s.word s.starts q (read_of w)) s.cell p new q
          (λ _ n d at k is. let odd : Some (Far len ds no_marks) ≡ Some (Near n d at k) = sym says ∙ is in absurd cc) (λ _. law.cells.cell_near q);
      cell_far = λ q. put_two (λ w (r : ℕ → ℕ). StoresBack r (read_of w)) s.cell s.stored p new away q (λ _. stores q) (λ _. law.cells.cell_far q);
    };
    spans = law.spans;
    logs = law.logs;
    scopes = law.scopes;
    views = record {
      held_open = law.views.held_open;
      held_names = λ q at h. put_both (λ w. held_place (read_of w) ≡ Some at) s.cell p new q
          (λ e. let odd : None ≡ Some at = sym unheld ∙ ap s.held (sym e) ∙ h in absurd cc) (λ _. law.views.held_names q at h);
      held_used = law.views.held_used;
      used_cell = λ q u. put_both (λ w. in_use (read_of w) ≡ true) s.cell p new q (λ _. ap in_use says) (λ _. law.views.used_cell q u);
    };
    rounds = rounds_with_cell s.epoch s.kind s.cell s.round s.round_epoch p new law.rounds (λ n d at k is. let odd : Some (Far len ds no_marks) ≡ Some (Near n d at k) = sym says ∙ is in absurd cc);
    clears = law.clears;
    unadopted = λ honest q free. put_two (λ w (r : ℕ → ℕ). IsBlank s.word r (read_of w)) s.cell s.stored p new away q
        (λ e. no_zeros honest (ap s.used (sym e) ∙ free)) (λ _. law.unadopted honest q free);
    copies = copies_with_cell s p new law (λ place is. let odd : None ≡ Some place = sym (ap near_place says) ∙ is in absurd cc);
    soils = record {
      soiled_held = law.soils.soiled_held;
      soiled_dirty = λ q h. put_both (λ w. is_dirty (read_of w) ≡ true) s.cell p new q
          (λ e. absurd (false≢true (sym (ap is_some (ap s.held e ∙ unheld)) ∙ law.soils.soiled_held q h))) (λ _. law.soils.soiled_dirty q h);
    };
    cleans = λ q. put_two (λ w (r : ℕ → ℕ). IsClean s.honest s.word r (read_of w)) s.cell s.stored p new away q
        (λ _. record {
          back = λ n d at k is. let odd : Some (Far len ds no_marks) ≡ Some (Near n d at k) = sym says ∙ is in absurd cc;
          same = λ _ n d at k is. let odd : Some (Far len ds no_marks) ≡ Some (Near n d at k) = sym says ∙ is in absurd cc;
        })
        (λ _. law.cleans q);
  }

  -- ---- the world
  abbrev object : Object
  object = record { owner = p / CELLS; ds = ds; bytes = bytes_of (λ i. s.word (addr place + 1 + i)) len; home = Group place.log }

  abbrev far_object : Object
  far_object = record { owner = p / CELLS; ds = ds; bytes = bytes_of (λ i. s.word (addr place + 1 + i)) len; home = FarSide }

  here_now : object_of s.word (s.stored p) p (read_of (s.cell p)) ≡ Some object
  here_now = rw near (rw kept refl)

  far_then : object_of s.word away p (read_of new) ≡ Some far_object
  far_then = ap (object_of s.word away p) says
      ∙ ap (λ bs. Some record { owner = p / CELLS; ds = ds; bytes = bs; home = FarSide })
      (bytes_of-same away (λ i. s.word (addr place + 1 + i)) len (λ i lt. stored_word s.word s.stored p (addr place + 1) (words_for len) i lt))

  pub evict_goes : GoesFar (world_of s) p (world_of later)
  unfolding world_of
  evict_goes = record {
    unviewed = ap is_some unheld;
    gone = (
      object,
      place.log,
      here_now,
      refl,
      World-ext _ _
          (fun_ext (λ q. put_two (λ w (r : ℕ → ℕ). object_of s.word r q (read_of w) ≡ put (λ r. object_of s.word (s.stored r) r (read_of (s.cell r))) p (Some far_object) q) s.cell s.stored p new away q
          (λ e. ap (λ r. object_of s.word away r (read_of new)) e ∙ far_then ∙ sym (put_same (λ r. object_of s.word (s.stored r) r (read_of (s.cell r))) p _ q e))
          (λ ne. sym (put_other (λ r. object_of s.word (s.stored r) r (read_of (s.cell r))) p _ q ne))))
          refl refl
          (fun_ext (λ q. put_both (λ w. is_marked (read_of w) ≡ put (λ r. is_marked (read_of (s.cell r))) p false q) s.cell p new q
          (λ e. ap is_marked says ∙ sym (put_same (λ r. is_marked (read_of (s.cell r))) p false q e))
          (λ ne. sym (put_other (λ r. is_marked (read_of (s.cell r))) p false q ne))))
          refl refl,
    );
  }

module _ (p new len : ℕ) (place : Place) where
  touch_evict : (s : State) → Touches s (record { word = Some (CellAt p); part = BookView }) (evicts_row s p new len place).after
  touch_evict s = record {
    words = one_cell s.epoch s.scope s.cell s.word s.copying.word p new;
    remembered = λ k a b. refl;
    used = λ q a. refl;
    held = λ q a b. refl;
    soiled = λ q a b. refl;
    book = λ ne. absurd (ne refl);
    copiers = λ c ne. same_copier;
    rest = (refl, refl, refl, refl);
  }

  pub evicts_owed : NamingOwed p new (Evicts len place)
  evicts_owed = record {
    keeps = λ s made. let n = made.naming in keeps_evict s made.law p new len n.0 place n.1 made.fits made.cell n.2 n.3 n.5 (quiet_unheld s made.law p made.legal);
    does = λ s made. let n = made.naming in evict_goes s made.law p new len n.0 place n.1 made.fits made.cell n.2 n.3 n.5 (quiet_unheld s made.law p made.legal);
    within = touch_evict;
    names = λ s. put_same s.cell p new p refl;
    reports = λ s law. record {
      words = λ i lt. ap (λ (r : ℕ → ℕ). r i) (put_same s.stored p _ p refl) ∙ stored_word s.word s.stored p (addr place + 1) (words_for len) i lt;
      others = λ q ne. put_other s.stored p _ q ne;
      logs = (refl, refl, refl, refl);
      round = refl;
      clear = refl;
    };
    causes = λ old says. (old, new, refl);
  }
