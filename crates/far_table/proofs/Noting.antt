-- A word that was found and left as it was changes nothing but that it is noted.
use Rattle.std.proofs.Common.{◌≡◌, ◌≢◌, ℕ, List, set, sym, refl, ◌∙◌, subst, ⊎_elim}
use Rattle.std.proofs.Math.Logic.{∥∥₁_map}
use mathlib.Core.Option.{some}
use lib.ListN.{get_elem?, length-set}
use Rattle.atomic_table.proofs.Lists.{at_set, set_here}
use Rattle.far_core.specs.state.Agrees.{Agrees}
use Rattle.far_events.specs.state.Law.{Law}
use Rattle.far_events.specs.state.State.{State}
use Rattle.far_table.specs.View.{BookView, OtherViews, OwnerView, with_owner}
use Rattle.far_table.specs.Rule.{BookTies, Facts, OwnerTies}
use Rattle.far_table.specs.StateOf.{state_of}
use Rattle.far_table.specs.Tells.{HasState, OwnerMayBe}
use Rattle.far_table.specs.Views.{held_at, noted_view, uses, soiled_at}
use Rattle.far_table.proofs.Owners.{pointers_same, remembered_same}
use Rattle.far_table.proofs.OwnSteps.{state_is}
use Rattle.far_table.proofs.Places.{below}
use Rattle.far_table.proofs.Words.{no_word}

module _ (ws : List ℕ) (b : BookView) (os : OtherViews) (f : Facts ws b os) (o : OwnerView) (at : get_elem? os.owners o.number ≡ some o) (p n : ℕ) where
  abbrev w : OwnerView
  w = noted_view p n o

  same : state_of ws b os ≡ state_of ws b (with_owner os o.number w)
  same = (state_is ws b (with_owner os o.number w) (no_word b.logs ws f.wide) (remembered_same os.owners o.number o w at refl) (pointers_same os.owners o.number o w at uses refl) (pointers_same os.owners o.number o w at held_at refl) (pointers_same os.owners o.number o w at soiled_at refl)).is

  mine : OwnerTies b (state_of ws b os) o.number w
  mine = let ties = f.owners o.number o at in record {
    number = ties.number;
    honest = ties.honest;
    logs = ties.logs;
    scope = ties.scope;
    objects = ties.objects;
    asks = ties.asks;
    drops = ties.drops;
    warm = ties.warm;
    hots = ties.hots;
    soils = ties.soils;
  }

  each : (j : ℕ) (y : OwnerView) → get_elem? (set os.owners o.number w) j ≡ some y → OwnerTies b (state_of ws b os) j y
  each j y h = ⊎_elim
      (λ (x : (j ≡ o.number) × (w ≡ y)). subst (λ (z : ℕ × OwnerView). OwnerTies b (state_of ws b os) z.0 z.1) (λ i. (sym x.0 i, x.1 i)) mine)
      (λ (x : (j ≢ o.number) × (get_elem? os.owners j ≡ some y)). f.owners j y x.1)
      (at_set os.owners o.number j w y h)

  pub noted_facts : Facts ws b (with_owner os o.number w)
  noted_facts = record {
    law = subst Law same f.law;
    agrees = subst Agrees same f.agrees;
    book = subst (BookTies b) same f.book;
    owners = λ j y h. subst (λ (z : State). OwnerTies b z j y) same (each j y h);
    copiers = f.copiers;
    copier_logs = f.copier_logs;
    many = length-set os.owners o.number w ∙ f.many;
    eight = f.eight;
    wide = f.wide;
  }

  pub noted_may_be : OwnerMayBe w (state_of ws b (with_owner os o.number w))
  noted_may_be = record { words = ws; book = b; others = with_owner os o.number w; facts = noted_facts; stands = set_here os.owners o.number w (below os.owners o.number o at); is = refl }

-- there is a state beside the view still
pub noted_there : (o : OwnerView) (p n : ℕ) → HasState o → HasState (noted_view p n o)
noted_there o p n there = ∥∥₁_map there (λ (x : (s : State) × OwnerMayBe o s). let may = x.1 in
    (state_of may.words may.book (with_owner may.others o.number (noted_view p n o)), noted_may_be may.words may.book may.others may.facts o may.stands p n))
