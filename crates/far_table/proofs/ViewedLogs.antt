-- A log in which a place is held isn't given out.
use Rattle.std.proofs.Common.{◌≡◌, ◌/◌, ℕ, zero, suc, Some, refl, sym, ap, ◌∙◌, subst, arith}
use mathlib.Core.Option.{some}
use lib.ListN.{get_elem?}
use Rattle.atomic_table.proofs.Lists.{set_here}
use Rattle.far_word.specs.declared.pointer.Place.{Place}
use Rattle.far_events.specs.events.Step.{after, answer}
use Rattle.far_events.specs.state.Law.{Law}
use Rattle.far_events.specs.state.State.{State}
use Rattle.far_core.specs.world.WorldOf.{world_of}
use Rattle.far_core.proofs.ObjectFacts.{object_agrees}
use Rattle.far_core.proofs.Owing.{does}
use Rattle.far_core.proofs.Steps.{agrees}
use Rattle.far_core.proofs.WorldLaws.{objects_stand, steps_keep}
use Rattle.far_events.specs.declared.event.Event.{Event}
use Rattle.far_events.specs.declared.event.Reply.{Reply}
use Rattle.far_word.specs.declared.sizes.TheConstants.{CELLS}
use Rattle.far_table.specs.RowTells.{StoredEach}
use Rattle.far_table.specs.StateOf.{state_of}
use Rattle.far_table.specs.Tells.{HasState, OwnerMade, OwnerMayBe}
use Rattle.far_table.specs.View.{OtherViews, OwnerView, with_owner}
use Rattle.far_table.specs.Viewed.{NoneIsGivenOut, StaysGiven}
use Rattle.far_table.specs.Views.{held_at}
use Rattle.far_table.proofs.Owners.{known_by}
use Rattle.far_table.proofs.Places.{below}

module _ (s : State) (law : Law s) (p : ℕ) (place : Place) (held : s.held p ≡ Some place) where
  stays_given : StaysGiven s p place
  stays_given =
      let views = agrees s law in
      let near = views.names p place held in
      let object = (object_agrees s p).near near.0 near.1 place near.2 near.3 near.5 in
      let group = ((objects_stand s law) p object.0 object.1).held place.log object.5 in record {
        opened = (views.opened p place held).1;
        taken = ((object_agrees s p).group place.log).0 group;
        given = λ at legal. legal.2.1 p near.0 near.1 place near.2 near.3 refl;
        later = λ e fits legal.
            let keeps = steps_keep (world_of s) (world_of (after s e)) e (answer s e) (does s e law fits legal) in
            ((object_agrees (after s e) p).group place.log).0 (keeps.groups p place.log object.0 object.1 object.5 group);
      }

pub none_is_given_out : (s : State) → Law s → NoneIsGivenOut s
none_is_given_out s law p place held = stays_given s law p place held

-- ---- beside an owner's seat
pub held_stays : (o : OwnerView) (x : State) (p : ℕ) (place : Place) → OwnerMayBe o x → p / CELLS ≡ o.number → held_at o p ≡ Some place → (x.held p ≡ Some place) × StaysGiven x p place
held_stays o x p place may own at =
    let here : x.held p ≡ Some place = ap (λ (s : State). s.held p) may.is ∙ (known_by may.others.owners o.number o o may.stands held_at p own ∙ at) in
    (here, none_is_given_out x (subst Law (sym may.is) may.facts.law) p place here)

-- a call of it left such a state
pub left_there : (e : Event) (o : OwnerView) (r : Reply) (w : OwnerView) → OwnerMade e o r w → HasState w
left_there e o r w made =
    let others : OtherViews = with_owner made.others o.number w in
    let here : get_elem? others.owners o.number ≡ some w = set_here made.others.owners o.number w (below made.others.owners o.number o made.stands) in
    let number : w.number ≡ o.number = (made.keeps.owners o.number w here).number in
    ∣ (state_of made.later made.book others, record { words = made.later; book = made.book; others = others; facts = made.keeps; stands = ap (get_elem? others.owners) number ∙ here; is = refl }) ∣₁

-- and as many logs
pub logs_kept : (e : Event) (o : OwnerView) (r : Reply) (w : OwnerView) → OwnerMade e o r w → o.logs ≡ w.logs
logs_kept e o r w made = (made.facts.owners o.number o made.stands).logs
    ∙ sym (made.keeps.owners o.number w (set_here made.others.owners o.number w (below made.others.owners o.number o made.stands))).logs

-- and so did a call that stored a row
pub row_there : (p first : ℕ) (row : ℕ → ℕ) (n : ℕ) (o w : OwnerView) → StoredEach p first row n o w → HasState o → HasState w
row_there p first row zero o w stored there = subst HasState (sym stored.last) there
row_there p first row (suc n) o w stored there = subst HasState (sym stored.last) (left_there _ _ _ _ (stored.each n (omega arith)))
