-- What the event Name owes, by the form of the naming.
use Rattle.std.proofs.Common.{◌≢◌, ◌≡◌, ◌<◌, ◌^◌, ℕ, Bool, true, false, cond, nat_eq, inl, inr, refl, Option, Some, None}
use Rattle.std.proofs.lemmas.Bool.{cond_both, eqb-false, eqb-true}
use Rattle.far_word.specs.Pointer.{read_of}
use Rattle.far_events.specs.declared.event.Event.TheVariants.{Name}
use Rattle.far_events.specs.declared.event.Reply.{Reply}
use Rattle.far_events.specs.declared.event.Reply.TheVariants.{Done, Refused, Word}
use Rattle.far_events.specs.declared.naming.Naming.{Naming}
use Rattle.far_events.specs.declared.naming.Naming.TheVariants.{Places, Retires, Evicts, Stays, Moves, Fetches}
use Rattle.far_events.specs.events.Legal.{Legal}
use Rattle.far_events.specs.events.Name.{after_naming, change_by}
use Rattle.far_events.specs.events.Naming.{naming_of}
use Rattle.far_events.specs.events.Step.{change_of, touches}
use Rattle.far_events.specs.events.Reports.{Reports}
use Rattle.far_events.specs.events.Touch.{CellAt, BookView, Touches}
use Rattle.far_core.specs.laws.Worlds.{Caused}
use Rattle.far_events.specs.state.Law.{Law}
use Rattle.far_events.specs.state.State.{State}
use Rattle.far_core.specs.world.Changes.{StepOf}
use Rattle.far_core.specs.world.Happens.{Happens}
use Rattle.far_core.specs.world.WorldOf.{world_of}
use Rattle.far_core.proofs.NamingOwed.{IsMade, NamingOwed}
use Rattle.far_events.proofs.Namings.{naming_says, naming_only}
use Rattle.far_core.proofs.Owed.{Owed, replies}
use Rattle.far_core.proofs.Touching.{untouched}
use Rattle.far_events.proofs.NamingTests.{name_fact, name_test}
use Rattle.far_core.proofs.events.namings.Evicts.{evicts_owed}
use Rattle.far_core.proofs.events.namings.Fetches.{fetches_owed}
use Rattle.far_core.proofs.events.namings.Moves.{moves_owed}
use Rattle.far_core.proofs.events.namings.Places.{places_owed}
use Rattle.far_core.proofs.events.namings.Retires.{retires_owed}
use Rattle.far_core.proofs.events.namings.Stays.{stays_owed}

pub naming_owed : (p new : ℕ) (form : Naming) → NamingOwed p new form
naming_owed p new (Places len ds place) = places_owed p new len ds place
naming_owed p new Retires = retires_owed p new
naming_owed p new (Evicts len place) = evicts_owed p new len place
naming_owed p new Stays = stays_owed p new
naming_owed p new (Moves len ds from to) = moves_owed p new len ds from to
naming_owed p new (Fetches len ds place) = fetches_owed p new len ds place

module _ (p old new : ℕ) where
  abbrev form : Option Naming
  form = naming_of (read_of old) (read_of new)

  -- the form is made where the cell is the old word
  made : (s : State) (law : Law s) → new < 2 ^ 64 → (h : Legal s (Name p old new)) → s.cell p ≡ old → IsMade s p new h.1.0
  made s law fits (cell, (f, says, legal)) is = record { law = law; fits = fits; cell = cell; naming = rw is says; legal = legal }

  keeps_name : (s : State) → Law s → new < 2 ^ 64 → Legal s (Name p old new) → s.cell p ≡ old → Law (after_naming s p new form)
  keeps_name s law fits h is = rw (naming_only h.1.0 _ _ h.1.1) ((naming_owed p new h.1.0).keeps s (made s law fits h is))

  do_name : (s : State) → Law s → new < 2 ^ 64 → Legal s (Name p old new) → s.cell p ≡ old → StepOf (change_by p form) (world_of s) (world_of (after_naming s p new form))
  do_name s law fits h is = rw (naming_only h.1.0 _ _ h.1.1) ((naming_owed p new h.1.0).does s (made s law fits h is))

  do_exchange : (s : State) → Law s → new < 2 ^ 64 → Legal s (Name p old new) → (b : Bool) → nat_eq (s.cell p) old ≡ b →
      Happens (world_of s) (Name p old new) (cond b Done (Word (s.cell p))) (world_of (cond b (after_naming s p new form) s))
  do_exchange s law fits h true e = do_name s law fits h (eqb-true (s.cell p) old e)
  do_exchange s law fits h false e = refl

  reports_name : (s : State) → Law s → Legal s (Name p old new) → (b : Bool) → nat_eq (s.cell p) old ≡ b →
      Reports s (Name p old new) (cond b Done (Word (s.cell p))) (cond b (after_naming s p new form) s)
  reports_name s law h true is =
      let owed = naming_owed p new h.1.0 in
      (eqb-true (s.cell p) old is, rw (naming_only h.1.0 _ _ h.1.1) (owed.names s), rw (naming_only h.1.0 _ _ h.1.1) (owed.reports s law))
  reports_name s law h false is = (refl, eqb-false (s.cell p) old is, refl)

  touch_name : (s : State) (o : Option Naming) → Touches s (record { word = Some (CellAt p); part = BookView }) (after_naming s p new o)
  touch_name s None = untouched s _
  touch_name s (Some f) = (naming_owed p new f).within s

  name_causes : (o : Option Naming) → naming_of (read_of old) (read_of new) ≡ o → Caused (Name p old new) (change_by p o)
  name_causes None e = tt
  name_causes (Some f) e = (naming_owed p new f).causes old (naming_says (read_of old) (read_of new) f e)

  pub name_owed : Owed (Name p old new)
  name_owed = record {
    fact = λ s law h. name_fact s p old new h;
    test = λ s h. name_test s p old new h;
    keeps = λ s law fits h. cond_both (nat_eq (s.cell p) old) (after_naming s p new form) s Law (λ e. keeps_name s law fits.1 h (eqb-true (s.cell p) old e)) (λ _. law);
    does = λ s law fits h. do_exchange s law fits.1 h (nat_eq (s.cell p) old) refl;
    within = λ s. cond_both (nat_eq (s.cell p) old) (after_naming s p new form) s (Touches s (touches s (Name p old new))) (λ _. touch_name s form) (λ _. untouched s _);
    part = λ s h. inl (p, old, new, refl);
    word = λ s h. inr (inr (inl (old, new, refl)));
    reports = λ s law h. reports_name s law h (nat_eq (s.cell p) old) refl;
    silent = λ s t h. h;
    answers = λ s x. cond_both (nat_eq (s.cell p) old) Done (Word (s.cell p)) (λ (r : Reply). r ≢ Refused) (λ _ y. cc) (λ _ y. cc) x;
    causes = replies (λ r. Caused (Name p old new) (change_of (Name p old new) r)) tt (name_causes form refl) (λ n. tt) (λ x. tt) (λ place. tt);
  }
