-- The logs in which views rest stay: a view lasts until its owner's close, where it rests is held, and no step gives back a group in which an object lies.
use Rattle.std.proofs.Common.{◌≡◌, ◌≢◌, ℕ, ◌+◌, ◌/◌, true, cond, is_some, None, refl, sym, ap, subst, ◌∙◌, Some, List, [], ◌∷◌, ◌++◌}
use Rattle.std.proofs.lemmas.Bool.{true≢false}
use Rattle.far_word.specs.declared.pointer.Place.{Place}
use Rattle.far_word.specs.declared.sizes.TheConstants.{CELLS}
use Rattle.far_events.specs.declared.event.Event.{Event}
use Rattle.far_events.specs.declared.event.Event.TheVariants.{Close}
use Rattle.far_events.specs.declared.event.Kind.TheVariants as kinds
use Rattle.far_events.specs.state.Law.{Law}
use Rattle.far_word.specs.Bytes.{bytes_of}
use Rattle.far_events.specs.state.State.{State, addr}
use Rattle.far_events.specs.events.Step.{step_of, Fits}
use Rattle.far_core.specs.world.World.{World, Object, Group}
use Rattle.far_core.specs.world.WorldOf.{world_of, object_of, is_group}
use Rattle.far_core.specs.laws.Worlds.{StepKeeps}
use Rattle.far_core.proofs.Keeps.{step_keeps}
use Rattle.far_core.proofs.Steps.{agrees, step_does}
use Rattle.far_core.proofs.WorldFacts.{view_rests}
use Rattle.far_core.proofs.WorldLaws.{steps_keep}
use Rattle.far_events.specs.events.Ranges.{after_events}
use Rattle.std.specs.List.{AllByRecursion as Each}
use Rattle.far_alone.proofs.MadeLemmas.{made-append, made_law}

-- ---- rows of events in which a close comes last
abbrev pub NoClose : Event → Type 0
NoClose e = (m : ℕ) → e ≢ Close m

abbrev pub ClosesLast : List Event → Type 0
ClosesLast (e ∷ f ∷ es) = NoClose e × ClosesLast (f ∷ es)
ClosesLast _ = Unit {0}

pub none_closes : (es : List Event) → Each NoClose es → ClosesLast es
none_closes (e ∷ f ∷ es) h = (h.0, none_closes (f ∷ es) h.1)
none_closes _ h = tt

-- so it is in each part of such a row
closes_front : (es fs : List Event) → ClosesLast (es ++ fs) → ClosesLast es
closes_front (e ∷ f ∷ es) fs h = (h.0, closes_front (f ∷ es) fs h.1)
closes_front _ fs h = tt

closes_rest : (e : Event) (es : List Event) → ClosesLast (e ∷ es) → ClosesLast es
closes_rest e [] h = tt
closes_rest e (f ∷ es) h = h.1

closes_back : (es fs : List Event) → ClosesLast (es ++ fs) → ClosesLast fs
closes_back [] fs h = h
closes_back (e ∷ es) fs h = closes_back es fs (closes_rest e (es ++ fs) h)

fits_front : (es fs : List Event) → Each Fits (es ++ fs) → Each Fits es
fits_front [] fs h = tt
fits_front (e ∷ es) fs h = (h.0, fits_front es fs h.1)

fits_back : (es fs : List Event) → Each Fits (es ++ fs) → Each Fits fs
fits_back [] fs h = h
fits_back (e ∷ es) fs h = fits_back es fs h.1

-- ---- a view rests in a group
pub record RestsIn (w : World) (p g : ℕ) : Type 0 where
  pub viewed : w.viewed p ≡ true
  pub object : Object
  pub there : w.object p ≡ Some object
  pub home : object.home ≡ Group g

-- the group in which a view rests is held
rests_held : (s : State) → Law s → (p g : ℕ) → RestsIn (world_of s) p g → (world_of s).group g ≡ true
rests_held s law p g h =
    let (o, k, there, owner, home, held) = (view_rests s law p h.viewed).near in
    let same : Some o ≡ Some h.object = sym there ∙ h.there in
    let one : o ≡ h.object = cc in
    let groups : Group k ≡ Group g = sym home ∙ ap (λ (x : Object). x.home) one ∙ h.home in
    let numbers : k ≡ g = cc in
    subst (λ n. (world_of s).group n ≡ true) numbers held

-- what a step of a core keeps
kept : (s : State) (e : Event) → Law s → Fits e → StepKeeps (world_of s) e (world_of (step_of s e).0)
kept s e law fit = steps_keep (world_of s) (world_of (step_of s e).0) e (step_of s e).1 (step_does s e law fit)

-- a view still rests there after an event that is no close
rests_on : (s : State) (e : Event) → Law s → Fits e → NoClose e → (p g : ℕ) → RestsIn (world_of s) p g → RestsIn (world_of (step_of s e).0) p g
rests_on s e law fit none p g h =
    let k = kept s e law fit in
    let u = k.rests p h.object h.viewed h.there in
    record { viewed = k.views p h.viewed (none (p / CELLS)); object = u.0; there = u.1; home = u.4 ∙ h.home }

-- its group is held after a row in which a close comes last
row_held : (s : State) (es : List Event) → Law s → Each Fits es → ClosesLast es → (p g : ℕ) → RestsIn (world_of s) p g → (world_of (after_events s es)).group g ≡ true
row_held s [] law fit last p g h = rests_held s law p g h
row_held s (e ∷ []) law fit last p g h = (kept s e law fit.0).groups p g h.object h.there h.home (rests_held s law p g h)
row_held s (e ∷ f ∷ es) law fit last p g h =
    row_held (step_of s e).0 (f ∷ es) (step_keeps s e law fit.0) fit.1 last.1 p g (rests_on s e law fit.0 last.0 p g h)

-- ---- in a state
-- a held place is where a view rests
held_rests : (s : State) → Law s → (p : ℕ) (place : Place) → s.held p ≡ Some place → RestsIn (world_of s) p place.log
unfolding world_of
held_rests s law p place e =
    let (len, ds, marks, near, moved, dropped) = (agrees s law).names p place e in
    let o : Object = record { owner = p / CELLS; ds = ds; bytes = bytes_of (λ i. s.word (addr place + 1 + i)) len; home = Group place.log } in
    record {
      viewed = ap is_some e;
      object = o;
      there = ap (object_of s.word (s.stored p) p) near ∙ ap (λ b. cond b None (Some o)) dropped;
      home = refl;
    }

-- a group that is held is a log that isn't free
not_free : (s : State) (l : ℕ) → (world_of s).group l ≡ true → s.kind l ≢ kinds.Free
unfolding world_of
not_free s l h e = true≢false (sym h ∙ ap is_group e)

-- a log in which a view rests isn't free after a row in which a close comes last
held_stays_on : (s : State) (es : List Event) → Law s → Each Fits es → ClosesLast es → (p : ℕ) (place : Place) → s.held p ≡ Some place → (after_events s es).kind place.log ≢ kinds.Free
held_stays_on s es law fit last p place e = not_free (after_events s es) place.log (row_held s es law fit last p place.log (held_rests s law p place e))

-- so it is between any two fronts of such a row
pub fronts_stay : (s : State) (es mid rest : List Event) → Law s → Each Fits ((es ++ mid) ++ rest) → ClosesLast ((es ++ mid) ++ rest) →
    (p : ℕ) (place : Place) → (after_events s es).held p ≡ Some place → (after_events s (es ++ mid)).kind place.log ≢ kinds.Free
fronts_stay s es mid rest law fit last p place e free =
    let fits = fits_front (es ++ mid) rest fit in
    held_stays_on (after_events s es) mid (made_law s es law (fits_front es mid fits)) (fits_back es mid fits) (closes_back es mid (closes_front (es ++ mid) rest last)) p place e
    (sym (ap (λ (t : State). t.kind place.log) (made-append s es mid)) ∙ free)

pub held_now : (s : State) → Law s → (p : ℕ) (place : Place) → s.held p ≡ Some place → s.kind place.log ≢ kinds.Free
held_now s law p place e = held_stays_on s [] law tt tt p place e
