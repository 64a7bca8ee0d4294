-- Steps that leave what callers see.
use Rattle.std.proofs.Common.{◌≡◌, ℕ, true, refl, sym, ap, ◌∙◌, Bool, Option, Some, None}
use mathlib.Core.Path.{fun_ext}
use Rattle.far_events.specs.state.State.{State}
use Rattle.far_core.specs.world.World.{Object as Thing}
use Rattle.far_core.specs.world.WorldOf.{world_of}
use Rattle.far_evac.specs.Owned.{KeepsObjects, anywhere}
use Rattle.far_private.specs.Objects.{Object, Settled, objects_of, seen}
use Rattle.far_private.specs.Steps.{Keeps}

-- the world is honest where the state says so
pub honest_as : (s t : State) → (world_of t).honest ≡ (world_of s).honest → t.honest ≡ s.honest
unfolding world_of
honest_as s t e = e

pub honest_by : {X : Type 0} (s : State) → ((world_of s).honest ≡ true → X) → s.honest ≡ true → X
unfolding world_of
honest_by s f h = f h

-- ---- what is seen of two states is one
pub same_objects : (s t : State) → t.honest ≡ s.honest → t.logs ≡ s.logs → ((p : ℕ) → seen s.honest ((world_of t).object p) ≡ seen s.honest ((world_of s).object p)) → objects_of t ≡ objects_of s
same_objects s t h n e =
    ap (λ (b : Bool). record { honest = b; logs = t.logs; object = λ p. seen b ((world_of t).object p) }) h
    ∙ ap (λ (k : ℕ). record { honest = s.honest; logs = k; object = λ p. seen s.honest ((world_of t).object p) }) n
    ∙ ap (λ (f : ℕ → Option Object). record { honest = s.honest; logs = s.logs; object = f }) (fun_ext e)

pub same_world : (s t : State) → t.honest ≡ s.honest → t.logs ≡ s.logs → (world_of t).object ≡ (world_of s).object → objects_of t ≡ objects_of s
same_world s t h n e = same_objects s t h n (λ p. ap (λ (f : ℕ → Option Thing). seen s.honest (f p)) e)

pub keeps_none : (s : State) → Keeps s s
keeps_none s = record { mutators = refl; used = refl; named = λ p e. e; objects = refl; scope = refl; remembered = refl }

pub keeps_both : (s t u : State) → Keeps s t → Keeps t u → Keeps s u
keeps_both s t u a b = record {
  mutators = b.mutators ∙ a.mutators;
  used = b.used ∙ a.used;
  named = λ p e. b.named p (a.named p e);
  objects = b.objects ∙ a.objects;
  scope = b.scope ∙ a.scope;
  remembered = b.remembered ∙ a.remembered;
}

pub settled_on : (s t : State) → Settled s → Keeps s t → Settled t
settled_on s t h k = record {
  mutators = k.mutators ∙ h.mutators;
  named = λ p busy. ap (λ (f : ℕ → Bool). f p) k.used ∙ h.named p (λ e. busy (k.named p e));
  closed = λ m. ap (λ (f : ℕ → ℕ). f m) k.scope ∙ h.closed m;
  fresh = λ m. ap (λ (f : ℕ → Option ℕ). f m) k.remembered ∙ h.fresh m;
}

pub used_on : (s t : State) (p : ℕ) → Keeps s t → s.used p ≡ true → t.used p ≡ true
used_on s t p k h = ap (λ (f : ℕ → Bool). f p) k.used ∙ h

-- ---- a round, and its parts
seen_anywhere : (b : Bool) (x y : Option Thing) → anywhere x ≡ anywhere y → seen b x ≡ seen b y
seen_anywhere b x y e = seen_as b x ∙ ap (seen b) e ∙ sym (seen_as b y) where
  seen_as : (b : Bool) (x : Option Thing) → seen b x ≡ seen b (anywhere x)
  seen_as b None = refl
  seen_as b (Some o) = refl

-- where nothing is dropped
pub round_keeps : (s t : State) → ((p : ℕ) → s.cell p ≡ 0 → t.cell p ≡ 0) → KeepsObjects s t → Keeps s t
round_keeps s t named k = record {
  mutators = k.mutators;
  used = k.used;
  named = named;
  scope = k.scope;
  remembered = k.remembered;
  objects = same_objects s t k.honest k.logs (λ p. seen_anywhere s.honest ((world_of t).object p) ((world_of s).object p) (k.object p));
}
