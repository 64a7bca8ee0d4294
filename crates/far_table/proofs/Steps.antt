-- Each kind of step of an owner's seat is its event of the core.
use Rattle.std.proofs.Common.{◌≡◌, ◌≢◌, ℕ, ◌/◌, ◌<◌, false, cond, List, set, sym, refl, ap, ◌∙◌, subst, arith, Option, Some, None}
use Rattle.std.specs.Prelude.{IsSome, ◌==◌}
use Rattle.std.proofs.lemmas.Bool.{eq-eqb, false≢true, ne_eqb}
use mathlib.Core.Option.{some, none}
use lib.ListN.{get_elem?}
use Rattle.atomic_table.specs.Table.{Me, step, Allows}
use Rattle.far_word.specs.declared.sizes.TheConstants.{CELLS, MOST_MUTATORS}
use Rattle.far_events.specs.declared.event.Event.TheVariants.{ReadEpoch, Open, Close}
use Rattle.far_events.specs.declared.event.Reply.TheVariants.{Done, Epoch}
use Rattle.far_events.specs.events.Legal.{Legal, IsClosed, IsOpen}
use Rattle.far_events.specs.events.Open.{scope_word_of}
use Rattle.far_events.specs.events.Step.{after}
use Rattle.far_events.specs.state.State.{put}
use Rattle.far_core.specs.world.World.{World}
use Rattle.far_core.proofs.Owing.{does}
use Rattle.far_events.proofs.Put.{put_same}
use Rattle.far_table.specs.View.{BookView, OwnerView, View, Owner, OtherViews, with_owner}
use Rattle.far_table.specs.Layout.{EPOCH_AT, scope_at, epoch_in, scope_in, cell_in, job_in, word_in}
use Rattle.far_table.specs.Plays.{EpochRead, Opened, Closed}
use Rattle.far_table.specs.Rule.{Facts, Running}
use Rattle.far_table.specs.StateOf.{held_by, remembered_by, soiled_by, state_of}
use Rattle.far_table.specs.Tells.{owner_of}
use Rattle.far_table.specs.Views.{closed_view, held_at, opened_view, read_view, soiled_at, uses}
use Rattle.far_table.proofs.Lift.{owner_makes, owner_reads}
use Rattle.far_table.proofs.Owners.{own_is, pointers_same, pointers_set, remembered_same, remembered_set}
use Rattle.far_table.proofs.OwnSteps.{OwnStep, is_mutator, mine_on, state_is}
use Rattle.far_table.proofs.Words.{WordsAre, no_word, scope_word_set}

open_word : (x : Option ℕ) → IsSome x → scope_word_of x ≢ 0
open_word None there e = cc
open_word (Some epoch) there e = omega arith

module _ (ws : List ℕ) (b : BookView) (os : OtherViews) (f : Facts ws b os) (o : OwnerView) (at : get_elem? os.owners o.number ≡ some o) where
  abbrev m : ℕ
  m = o.number

  pub few : m < MOST_MUTATORS
  few = let low = is_mutator ws b os f m o at in let most = f.law.shape.few_mutators in omega arith

  pub closed_so : o.open_at ≡ None → IsClosed (state_of ws b os) m
  closed_so shut = (is_mutator ws b os f m o at, (f.owners m o at).scope ∙ ap scope_word_of shut)

  pub open_so : IsSome o.open_at → IsOpen (state_of ws b os) m
  open_so opened = (is_mutator ws b os f m o at, λ z. open_word o.open_at opened (sym (f.owners m o at).scope ∙ z))

  pub read_epoch_step : o.open_at ≡ None → OwnStep ws b os o (ReadEpoch m) (Epoch (epoch_in ws)) ws (read_view (epoch_in ws) o)
  read_epoch_step shut = let w : OwnerView = read_view (epoch_in ws) o in let legal = closed_so shut in record {
    legal = legal;
    says = refl;
    becomes = state_is ws b (with_owner os m w) (no_word b.logs ws f.wide) (remembered_set os.owners m o w at) (pointers_same os.owners m o w at uses refl) (pointers_same os.owners m o w at held_at refl) (pointers_same os.owners m o w at soiled_at refl);
    mine = mine_on b (state_of ws b os) (after (state_of ws b os) (ReadEpoch m)) m o w (f.owners m o at) refl refl refl refl (f.owners m o at).scope refl refl refl
        (ap (λ (z : World). z.object) (does (state_of ws b os) (ReadEpoch m) f.law tt legal)) (λ _. (refl, refl)) (f.owners m o at).hots (f.owners m o at).soils (f.owners m o at).warm;
  }

  pub open_step : (x : ℕ) → o.open_at ≡ None → IsSome o.epoch → x ≡ scope_word_of o.epoch → OwnStep ws b os o (Open m) Done (set ws (scope_at m) x) (opened_view o)
  open_step x shut read new =
      let w : OwnerView = opened_view o in
      let known : remembered_by os.owners m ≡ o.epoch = ap (λ (y : OwnerView). y.epoch) (own_is os.owners m o w at) in
      let word : x ≡ scope_word_of (remembered_by os.owners m) = new ∙ ap scope_word_of (sym known) in
      let legal : Legal (state_of ws b os) (Open m) = (closed_so shut, subst IsSome (sym known) read) in record {
        legal = legal;
        says = refl;
        becomes = state_is (set ws (scope_at m) x) b (with_owner os m w) (subst (λ v. WordsAre b.logs (set ws (scope_at m) x) (epoch_in ws) (put (scope_in ws) m v) (cell_in ws) (word_in ws) (job_in ws)) word (scope_word_set b.logs ws f.wide m x few))
            (remembered_same os.owners m o w at refl) (pointers_same os.owners m o w at uses refl) (pointers_same os.owners m o w at held_at refl) (pointers_same os.owners m o w at soiled_at refl);
        mine = mine_on b (state_of ws b os) (after (state_of ws b os) (Open m)) m o w (f.owners m o at) refl refl refl refl
            (put_same (scope_in ws) m (scope_word_of (remembered_by os.owners m)) m refl ∙ ap scope_word_of known) refl refl refl
            (ap (λ (z : World). z.object) (does (state_of ws b os) (Open m) f.law tt legal).after) (λ _. (refl, refl)) (f.owners m o at).hots (f.owners m o at).soils (f.owners m o at).warm;
      }

  pub close_step : IsSome o.open_at → OwnStep ws b os o (Close m) Done (set ws (scope_at m) 0) (closed_view o)
  close_step opened = let w : OwnerView = closed_view o in let legal = open_so opened in record {
    legal = legal;
    says = refl;
    becomes = state_is (set ws (scope_at m) 0) b (with_owner os m w) (scope_word_set b.logs ws f.wide m 0 few) (remembered_set os.owners m o w at) (pointers_same os.owners m o w at uses refl)
        (pointers_set os.owners m o w at held_at (λ p. cond (p / CELLS == m) None (held_by os.owners p))
        (λ p e. sym (ap (λ t. cond t None (held_by os.owners p)) (eq-eqb (p / CELLS) m e))) (λ p ne. sym (ap (λ t. cond t None (held_by os.owners p)) (ne_eqb (p / CELLS) m ne))))
        (pointers_set os.owners m o w at soiled_at (λ p. cond (p / CELLS == m) false (soiled_by os.owners p))
        (λ p e. sym (ap (λ t. cond t false (soiled_by os.owners p)) (eq-eqb (p / CELLS) m e))) (λ p ne. sym (ap (λ t. cond t false (soiled_by os.owners p)) (ne_eqb (p / CELLS) m ne))));
    mine = mine_on b (state_of ws b os) (after (state_of ws b os) (Close m)) m o w (f.owners m o at) refl refl refl refl (put_same (scope_in ws) m 0 m refl) refl refl refl
        (ap (λ (z : World). z.object) (does (state_of ws b os) (Close m) f.law tt legal).after) (λ _. (refl, refl)) (f.owners m o at).hots (f.owners m o at).soils
        (λ p own pinned. absurd (false≢true pinned));
  }

module _ {S : Type 0} (slots id : ℕ) (me : Me S View) (is : me.0 ≡ Owner (owner_of me.0)) where
  abbrev own : OwnerView
  own = owner_of me.0

  pub reads_epoch : own.open_at ≡ None → Allows Running slots id me EPOCH_AT (λ n. n) (EpochRead (step slots EPOCH_AT 0 0 none) me)
  reads_epoch shut = owner_reads slots id EPOCH_AT me is (ReadEpoch own.number) refl tt Epoch (λ n. read_view n own) (EpochRead (step slots EPOCH_AT 0 0 none) me)
      (λ ws b os f at. read_epoch_step ws b os f own at shut) (λ ws b os f at t. (f.law.scopes.epoch_below, t))

  pub opens : (m x : ℕ) → own.number ≡ m → own.open_at ≡ None → IsSome own.epoch → x ≡ scope_word_of own.epoch →
      Allows Running slots id me (scope_at m) (λ _. x) (λ _. Opened (step slots (scope_at m) x 0 none) me x)
  opens m x same shut read new = subst (λ z. Allows Running slots id me (scope_at z) (λ _. x) (λ _. Opened (step slots (scope_at z) x 0 none) me x)) same
      (owner_makes slots id (scope_at own.number) me is (Open own.number) refl tt (λ _. Done) (λ _. opened_view own) (λ _. Opened (step slots (scope_at own.number) x 0 none) me x) (λ _. x)
      (λ ws b os f at. open_step ws b os f own at x shut read new) (λ ws b os f at t. t))

  pub closes : (m : ℕ) → own.number ≡ m → IsSome own.open_at → Allows Running slots id me (scope_at m) (λ _. 0) (λ _. Closed (step slots (scope_at m) 0 0 none) me 0)
  closes m same opened = subst (λ z. Allows Running slots id me (scope_at z) (λ _. 0) (λ _. Closed (step slots (scope_at z) 0 0 none) me 0)) same
      (owner_makes slots id (scope_at own.number) me is (Close own.number) refl tt (λ _. Done) (λ _. closed_view own) (λ _. Closed (step slots (scope_at own.number) 0 0 none) me 0) (λ _. 0)
      (λ ws b os f at. close_step ws b os f own at opened) (λ ws b os f at t. t))
