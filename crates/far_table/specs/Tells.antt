-- What a step of the seat of an owner or of a copier tells.
use Rattle.std.specs.Prelude.{◌≡◌, ℕ, List, ◌∷◌}
use mathlib.Core.Option.{some}
use lib.ListN.{get_elem?}
use Rattle.far_events.specs.declared.event.Event.{Event}
use Rattle.far_events.specs.declared.event.Reply.{Reply}
use Rattle.far_events.specs.events.Legal.{Legal}
use Rattle.far_events.specs.events.Step.{after, answer}
use Rattle.far_events.specs.state.State.{State}
use Rattle.far_table.specs.View.{BookView, CopierView, OtherViews, OwnerView, Role, View, Book, Owner, Copier, AsOwner, AsCopier, idle, with_copier, with_owner}
use Rattle.far_table.specs.Rule.{Facts}
use Rattle.far_table.specs.StateOf.{state_of}
use Rattle.far_table.specs.Views.{nobody}

abbrev pub owner_of : View → OwnerView
owner_of (Owner o) = o
owner_of (Book b) = nobody
owner_of (Copier v) = nobody

abbrev pub copier_of : View → CopierView
copier_of (Copier v) = v
copier_of (Book b) = idle 0
copier_of (Owner o) = idle 0

-- ---- of any of them
-- its number among those of its kind
abbrev pub number_in : Role → ℕ
number_in (AsOwner o) = o.number
number_in (AsCopier v) = v.number

-- the view stands at its number
abbrev pub IsAmong : OtherViews → Role → Type 0
IsAmong os (AsOwner o) = get_elem? os.owners o.number ≡ some o
IsAmong os (AsCopier v) = get_elem? os.copiers v.number ≡ some v

-- all views, with another at this number
abbrev pub with_role : OtherViews → ℕ → Role → OtherViews
with_role os n (AsOwner o) = with_owner os n o
with_role os n (AsCopier v) = with_copier os n v

-- the event was made: in some state that met the rule, in which the seat's view was v, it was legal, and this was its answer; the words and views
-- after are the state that the core's step makes, with v' for the seat's view, and meet the rule
pub record RoleMade (e : Event) (v : Role) (r : Reply) (v' : Role) : Type 0 where
  pub words : List ℕ
  pub book : BookView
  pub others : OtherViews
  pub facts : Facts words book others
  pub stands : IsAmong others v
  pub legal : Legal (state_of words book others) e
  pub says : r ≡ answer (state_of words book others) e
  pub later : List ℕ
  pub becomes : after (state_of words book others) e ≡ state_of later book (with_role others (number_in v) v')
  pub keeps : Facts later book (with_role others (number_in v) v')

-- a state that words and views make for which the rule holds, and in which the seat's view is v
pub record RoleMayBe (v : Role) (x : State) : Type 0 where
  pub words : List ℕ
  pub book : BookView
  pub others : OtherViews
  pub facts : Facts words book others
  pub stands : IsAmong others v
  pub is : x ≡ state_of words book others

-- there is such a state
abbrev pub RoleStands : Role → Type 0
RoleStands v = ∥ ((x : State) × RoleMayBe v x) ∥₁

-- ---- of an owner
abbrev pub OwnerMade : Event → OwnerView → Reply → OwnerView → Type 0
OwnerMade e o r o' = RoleMade e (AsOwner o) r (AsOwner o')

abbrev pub OwnerMayBe : OwnerView → State → Type 0
OwnerMayBe o x = RoleMayBe (AsOwner o) x

abbrev pub HasState : OwnerView → Type 0
HasState o = RoleStands (AsOwner o)

-- the seat's view before and after the step: the event was made
pub record Tells (before now : View) (e : Event) (r : Reply) (o' : OwnerView) : Type 0 where
  pub after_is : now ≡ Owner o'
  pub number : o'.number ≡ (owner_of before).number
  pub made : OwnerMade e (owner_of before) r o'

-- the event was refused: in some state that met the rule, in which the owner's view was o, it wasn't legal
pub record OwnerRefused (e : Event) (o : OwnerView) : Type 0 where
  pub words : List ℕ
  pub book : BookView
  pub others : OtherViews
  pub facts : Facts words book others
  pub stands : get_elem? others.owners o.number ≡ some o
  pub refused : ¬ Legal (state_of words book others) e

-- a call found this word in a pointer's cell: it is the word on which its step was made, since nothing but a step adds a row
abbrev pub Found : ℕ → ℕ → OwnerView → OwnerView → Type 0
Found p word before now = now.found ≡ (p, word) ∷ before.found

-- ---- of a copier
abbrev pub CopierMade : Event → CopierView → Reply → CopierView → Type 0
CopierMade e v r v' = RoleMade e (AsCopier v) r (AsCopier v')

abbrev pub CopierMayBe : CopierView → State → Type 0
CopierMayBe v x = RoleMayBe (AsCopier v) x

abbrev pub CopierStands : CopierView → Type 0
CopierStands v = RoleStands (AsCopier v)

-- the seat's view before and after the step: the event was made
pub record CopierTells (before now : View) (e : Event) (r : Reply) (v' : CopierView) : Type 0 where
  pub after_is : now ≡ Copier v'
  pub number : v'.number ≡ (copier_of before).number
  pub made : CopierMade e (copier_of before) r v'
