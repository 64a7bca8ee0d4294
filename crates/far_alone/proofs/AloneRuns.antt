-- What the world does at a list of events.
use Rattle.std.proofs.Common.{◌≡◌, ◌≢◌, ℕ, zero, suc, ◌+◌, ◌/◌, ◌<◌, ◌^◌, Bool, true, false, cond, nat_eq, sym, refl, ap, ◌∙◌, Option, Some, None, List, [], ◌∷◌, inl, inr}
use Rattle.std.specs.Prelude.{is_some, replicate}
use Rattle.std.proofs.lemmas.Bool.{cases_eq, cond_both, eq-eqb, false≢true, ne_eqb}
use mathlib.Core.Path.{fun_ext}
use Rattle.far_word.specs.Bytes.{packed_word, with_word}
use Rattle.far_word.specs.Pointer.{read_of}
use Rattle.far_word.specs.declared.mark.Marks.{Marks}
use Rattle.far_word.specs.declared.pointer.Place.{Place}
use Rattle.far_word.specs.declared.pointer.PtrWord.{PtrWord}
use Rattle.far_word.specs.declared.pointer.PtrWord.TheVariants.{Free, Near, Far}
use Rattle.far_word.specs.declared.sizes.TheConstants.{CELLS}
use Rattle.far_events.specs.declared.event.Event.{Event}
use Rattle.far_events.specs.declared.event.Event.TheVariants.{ReadEpoch, Open, Pin, Load, Store, Soil, Close, Adopt, Put, Name, See, Mark, Ask, Get, Clear, Advance, Look, Offer, PeekJob, SeeJob, Claim, ReadLength, Read, Write, Finish, Collect}
use Rattle.far_events.specs.declared.event.Reply.{Reply as Answer}
use Rattle.far_events.specs.declared.event.Reply.TheVariants.{Refused, Done, Epoch, Word, Held}
use Rattle.far_events.specs.declared.naming.Naming.{Naming}
use Rattle.far_events.specs.declared.naming.Naming.TheVariants.{Places, Retires, Evicts, Stays, Moves, Fetches}
use Rattle.far_events.specs.events.Name.{change_by}
use Rattle.far_events.specs.events.Naming.{is_dropped, naming_of, unmarked}
use Rattle.far_core.specs.world.Changes.{StepOf}
use Rattle.far_core.specs.world.Happens.{Happens}
use Rattle.far_events.proofs.Namings.{naming_says}
use Rattle.far_events.specs.state.Law.{Law}
use Rattle.far_events.specs.events.Legal.{Legal}
use Rattle.far_events.specs.state.State.{State, put}
use Rattle.far_events.specs.events.Step.{step_of, Fits, is_legal, after, answer}
use Rattle.far_core.specs.world.World.{World, Object, Group}
use Rattle.far_core.specs.world.WorldOf.{world_of}
use Rattle.far_core.specs.world.Steps.{Makes, Writes, with_bytes}
use Rattle.far_core.proofs.Keeps.{step_keeps}
use Rattle.far_core.proofs.Owing.{is_fact}
use Rattle.far_events.proofs.Put.{put_same, put_other, put_old}
use Rattle.far_core.proofs.Steps.{step_does}
use Rattle.far_alone.specs.Own.{Own, own_of, bytes_in_world}
use Rattle.far_events.specs.events.Ranges.{after_events}
use Rattle.far_alone.specs.EventRows.{Succeeds, AllSucceed, ComesToPass}
use Rattle.far_alone.specs.Events.{store_events, view_events}
use Rattle.std.specs.List.{AllByRecursion as Each}

-- ---- what a mutator knows of a world
pub Own-ext : (a b : Own) → a.opened ≡ b.opened → a.object ≡ b.object → a.viewed ≡ b.viewed → a ≡ b
Own-ext a b h k l = λ i. record { opened = h i; object = k i; viewed = l i }

-- which objects of a mutator a world says are viewed
abbrev pub views_of : World → ℕ → ℕ → Bool
views_of w m = (own_of w m).viewed

-- the objects and the open scopes of two worlds are the same
abbrev pub Same : World → World → Type 0
Same w v = (v.object ≡ w.object) × (v.opened ≡ w.opened)

-- the bytes of each object, and the open scopes, are
abbrev pub SameBytes : World → World → Type 0
SameBytes w v = ((q : ℕ) → bytes_in_world (v.object q) ≡ bytes_in_world (w.object q)) × (v.opened ≡ w.opened)

pub bytes_same : (w v : World) → Same w v → SameBytes w v
bytes_same w v h = ((λ q. ap (λ (f : ℕ → Option Object). bytes_in_world (f q)) h.0), h.1)

pub bytes_both : (w v z : World) → SameBytes w v → SameBytes v z → SameBytes w z
bytes_both w v z a b = ((λ q. b.0 q ∙ a.0 q), b.1 ∙ a.1)

pub own_same : (w v : World) (m : ℕ) (views : ℕ → Bool) → SameBytes w v → views_of v m ≡ views → own_of v m ≡ record (own_of w m) { viewed = views }
own_same w v m views h e = Own-ext (own_of v m) (record (own_of w m) { viewed = views }) (ap (λ (f : ℕ → Bool). f m) h.1)
    (fun_ext (λ q. ap (λ (o : Option (List ℕ)). cond (nat_eq (q / CELLS) m) o None) (h.0 q))) e

-- an object of another mutator is changed
pub own_other : (w v : World) (m p : ℕ) (x : Object) → v.object ≡ put w.object p (Some x) → v.opened ≡ w.opened → p / CELLS ≢ m → views_of v m ≡ views_of w m → own_of v m ≡ own_of w m
own_other w v m p x h k ne seen = Own-ext (own_of v m) (own_of w m) (ap (λ (f : ℕ → Bool). f m) k) (fun_ext (λ q.
    ap (λ (f : ℕ → Option Object). cond (nat_eq (q / CELLS) m) (bytes_in_world (f q)) None) h ∙ elim (cases_eq q p) [
      | inl e ↦ (let off : nat_eq (q / CELLS) m ≡ false = ne_eqb (q / CELLS) m (λ same. ne (ap (λ y. y / CELLS) (sym e) ∙ same)) in
          ap (λ b. cond b (bytes_in_world (put w.object p (Some x) q)) None) off ∙ sym (ap (λ b. cond b (bytes_in_world (w.object q)) None) off))
      | inr apart ↦ ap (λ o. cond (nat_eq (q / CELLS) m) (bytes_in_world o) None) (put_other w.object p (Some x) q apart)
    ])) seen

-- an object of the mutator is changed
pub own_here : (w v : World) (m p : ℕ) (x : Object) (views : ℕ → Bool) → v.object ≡ put w.object p (Some x) → v.opened ≡ w.opened → p / CELLS ≡ m → views_of v m ≡ views →
    own_of v m ≡ record (own_of w m) { object = put (own_of w m).object p (Some x.bytes); viewed = views }
own_here w v m p x views h k own seen = Own-ext (own_of v m) (record (own_of w m) { object = put (own_of w m).object p (Some x.bytes); viewed = views }) (ap (λ (f : ℕ → Bool). f m) k) (fun_ext (λ q.
    ap (λ (f : ℕ → Option Object). cond (nat_eq (q / CELLS) m) (bytes_in_world (f q)) None) h ∙ elim (cases_eq q p) [
      | inl e ↦ (let here : nat_eq (q / CELLS) m ≡ true = eq-eqb (q / CELLS) m (ap (λ y. y / CELLS) e ∙ own) in
          ap (λ b. cond b (bytes_in_world (put w.object p (Some x) q)) None) here ∙ ap bytes_in_world (put_same w.object p (Some x) q e)
          ∙ sym (put_same (own_of w m).object p (Some x.bytes) q e))
      | inr apart ↦ (ap (λ o. cond (nat_eq (q / CELLS) m) (bytes_in_world o) None) (put_other w.object p (Some x) q apart)
          ∙ sym (put_other (own_of w m).object p (Some x.bytes) q apart))
    ])) seen

-- a scope of another mutator is changed
pub own_scope_other : (w v : World) (m k : ℕ) (b : Bool) → v.object ≡ w.object → v.opened ≡ put w.opened k b → k ≢ m → views_of v m ≡ views_of w m → own_of v m ≡ own_of w m
own_scope_other w v m k b h e ne seen = Own-ext (own_of v m) (own_of w m) (ap (λ (f : ℕ → Bool). f m) e ∙ put_other w.opened k b m (λ x. ne (sym x)))
    (ap {B = ℕ → Option (List ℕ)} (λ (f : ℕ → Option Object) p. cond (nat_eq (p / CELLS) m) (bytes_in_world (f p)) None) h) seen

-- the scope of the mutator is changed
pub own_scope : (w v : World) (m : ℕ) (b : Bool) (views : ℕ → Bool) → v.object ≡ w.object → v.opened ≡ put w.opened m b → views_of v m ≡ views →
    own_of v m ≡ record (own_of w m) { opened = b; viewed = views }
own_scope w v m b views h e seen = Own-ext (own_of v m) (record (own_of w m) { opened = b; viewed = views }) (ap (λ (f : ℕ → Bool). f m) e ∙ put_same w.opened m b m refl)
    (ap {B = ℕ → Option (List ℕ)} (λ (f : ℕ → Option Object) p. cond (nat_eq (p / CELLS) m) (bytes_in_world (f p)) None) h) seen

-- ---- events that leave the objects and the scopes as they are
abbrev pub IsQuiet : Event → Type 0
IsQuiet (ReadEpoch m) = Unit {0}
IsQuiet (Pin m p) = Unit {0}
IsQuiet (Load m p i) = Unit {0}
IsQuiet (Soil m p) = Unit {0}
IsQuiet (Adopt m p) = Unit {0}
IsQuiet (Put l at w) = w < 2 ^ 64
IsQuiet (See p) = Unit {0}
IsQuiet _ = ⊥

quiet_fits : (e : Event) → IsQuiet e → Fits e
quiet_fits (ReadEpoch m) q = tt
quiet_fits (Pin m p) q = tt
quiet_fits (Load m p i) q = tt
quiet_fits (Soil m p) q = tt
quiet_fits (Adopt m p) q = tt
quiet_fits (Put l at w) q = q
quiet_fits (See p) q = tt
quiet_fits _ q = absurd q

pub stays_same : (w v : World) → v ≡ w → Same w v
stays_same w v e = (ap (λ (x : World). x.object) e, ap (λ (x : World). x.opened) e)

-- what happens at a quiet event
quiet_happens : (w v : World) (e : Event) (r : Answer) → IsQuiet e → Happens w e r v → Same w v
quiet_happens w v (ReadEpoch m) Refused q h = stays_same w v h
quiet_happens w v (ReadEpoch m) (Epoch e) q h = stays_same w v h
quiet_happens w v (ReadEpoch m) r q h = absurd h
quiet_happens w v (Pin m p) Refused q h = stays_same w v h
quiet_happens w v (Pin m p) (Held place) q h = (ap (λ (x : World). x.object) h.after, ap (λ (x : World). x.opened) h.after)
quiet_happens w v (Pin m p) (Word x) q h = stays_same w v h
quiet_happens w v (Pin m p) r q h = absurd h
quiet_happens w v (Load m p i) Refused q h = stays_same w v h
quiet_happens w v (Load m p i) (Word x) q h = stays_same w v h.after
quiet_happens w v (Load m p i) r q h = absurd h
quiet_happens w v (Soil m p) Refused q h = stays_same w v h
quiet_happens w v (Soil m p) (Word x) q h = stays_same w v h
quiet_happens w v (Soil m p) r q h = absurd h
quiet_happens w v (Adopt m p) Refused q h = stays_same w v h
quiet_happens w v (Adopt m p) (Word x) q h = stays_same w v h
quiet_happens w v (Adopt m p) r q h = absurd h
quiet_happens w v (Put l at x) Refused q h = stays_same w v h
quiet_happens w v (Put l at x) Done q h = stays_same w v h
quiet_happens w v (Put l at x) r q h = absurd h
quiet_happens w v (See p) Refused q h = stays_same w v h
quiet_happens w v (See p) (Word x) q h = stays_same w v h
quiet_happens w v (See p) r q h = absurd h
quiet_happens w v _ r q h = absurd q

abbrev pub Quiet : List Event → Type 0
Quiet = Each IsQuiet

-- quiet events keep the law, the objects and the scopes
pub quiet_run : (s : State) (es : List Event) → Law s → Quiet es → Same (world_of s) (world_of (after_events s es)) × Law (after_events s es)
quiet_run s [] law q = ((refl, refl), law)
quiet_run s (e ∷ es) law q =
    let one : Same (world_of s) (world_of (step_of s e).0) = quiet_happens (world_of s) (world_of (step_of s e).0) e (step_of s e).1 q.0 (step_does s e law (quiet_fits e q.0)) in
    let rest = quiet_run (step_of s e).0 es (step_keeps s e law (quiet_fits e q.0)) q.1 in
    ((rest.0.0 ∙ one.0, rest.0.1 ∙ one.1), rest.1)

-- a view is quiet
pub quiet_view : (s : State) (k p : ℕ) → Quiet (view_events s k p)
quiet_view s k p = cond_both (is_some (s.held p)) [] (Pin k p ∷ []) Quiet (λ _. tt) (λ _. (tt, tt))

-- ---- stores
-- words from first on of some bytes in the place of those of others
abbrev pub over_all : List ℕ → ℕ → ℕ → List ℕ → List ℕ
over_all bytes first zero new = bytes
over_all bytes first (suc n) new = over_all (with_word bytes first (packed_word new first)) (first + 1) n new

-- a store that succeeds
store_writes : (w v : World) (m p i x : ℕ) (r : Answer) → Succeeds (Store m p i x) r → Happens w (Store m p i x) r v → Writes w m p i x v
store_writes w v m p i x Refused ok h = absurd ok
store_writes w v m p i x Done ok h = h
store_writes w v m p i x _ ok h = absurd h

pub put_twice : {X : Type 0} (f : ℕ → X) (p : ℕ) (x y : X) → put (put f p x) p y ≡ put f p y
put_twice {X = X} f p x y = fun_ext (λ q. elim (cases_eq q p) [
  | inl e ↦ (put_same (put f p x) p y q e ∙ sym (put_same f p y q e))
  | inr ne ↦ (put_other (put f p x) p y q ne ∙ put_other f p x q ne ∙ sym (put_other f p y q ne))
])

-- the bytes of one object after a write
wrote : (w v : World) (m p i x : ℕ) (o : Object) → w.object p ≡ Some o → Writes w m p i x v →
    (v.object ≡ put w.object p (Some (with_bytes o (with_word o.bytes i x)))) × (v.opened ≡ w.opened)
wrote w v m p i x o e h =
    let same : Some h.changed.0 ≡ Some o = sym h.changed.1 ∙ e in
    let is : h.changed.0 ≡ o = cc in
    (ap (λ (y : World). y.object) h.changed.3 ∙ ap (λ (y : Object). put w.object p (Some (with_bytes y (with_word y.bytes i x)))) is, ap (λ (y : World). y.opened) h.changed.3)

-- stores into one object that all succeed write its bytes over, and nothing else
pub stores_run : (s : State) (m p first n : ℕ) (new : List ℕ) (o : Object) → Law s → ((i : ℕ) → packed_word new i < 2 ^ 64) → (world_of s).object p ≡ Some o →
    AllSucceed s (store_events m p first n new) →
    ((world_of (after_events s (store_events m p first n new))).object ≡ put (world_of s).object p (Some (with_bytes o (over_all o.bytes first n new))))
    × ((world_of (after_events s (store_events m p first n new))).opened ≡ (world_of s).opened)
stores_run s m p first zero new o law wide at ok = (sym (put_old (world_of s).object p (Some o) at), refl)
stores_run s m p first (suc n) new o law wide at ok =
    let x : ℕ = packed_word new first in
    let t : State = (step_of s (Store m p first x)).0 in
    let h : Happens (world_of s) (Store m p first x) (step_of s (Store m p first x)).1 (world_of t) = step_does s (Store m p first x) law (wide first) in
    let one = wrote (world_of s) (world_of t) m p first x o at (store_writes (world_of s) (world_of t) m p first x _ ok.0 h) in
    let then : Object = with_bytes o (with_word o.bytes first x) in
    let there : (world_of t).object p ≡ Some then = ap (λ (f : ℕ → Option Object). f p) one.0 ∙ put_same (world_of s).object p (Some then) p refl in
    let rest = stores_run t m p (first + 1) n new then (step_keeps s (Store m p first x) law (wide first)) wide there ok.1 in
    (rest.0 ∙ ap (λ (f : ℕ → Option Object). put f p (Some (with_bytes o (over_all then.bytes (first + 1) n new)))) one.0 ∙ put_twice (world_of s).object p (Some then) _, rest.1 ∙ one.1)

-- ---- scopes and new objects
-- one scope is changed, and no object
abbrev pub Scoped : World → World → ℕ → Bool → Type 0
Scoped w v m b = (v.object ≡ w.object) × (v.opened ≡ put w.opened m b)

-- an opening that succeeds
opens_scope : (w v : World) (m : ℕ) (r : Answer) → Succeeds (Open m) r → Happens w (Open m) r v → Scoped w v m true
opens_scope w v m Refused ok h = absurd ok
opens_scope w v m Done ok h = (ap (λ (x : World). x.object) h.after, ap (λ (x : World). x.opened) h.after)
opens_scope w v m _ ok h = absurd h

pub open_step : (s : State) (m : ℕ) → Law s → Succeeds (Open m) (step_of s (Open m)).1 → Scoped (world_of s) (world_of (step_of s (Open m)).0) m true
open_step s m law ok = opens_scope (world_of s) (world_of (step_of s (Open m)).0) m _ ok (step_does s (Open m) law tt)

-- a close that succeeds
closes_scope : (w v : World) (m : ℕ) (r : Answer) → Succeeds (Close m) r → Happens w (Close m) r v → Scoped w v m false
closes_scope w v m Refused ok h = absurd ok
closes_scope w v m Done ok h = (ap (λ (x : World). x.object) h.after, ap (λ (x : World). x.opened) h.after)
closes_scope w v m _ ok h = absurd h

pub close_step : (s : State) (m : ℕ) → Law s → Succeeds (Close m) (step_of s (Close m)).1 → Scoped (world_of s) (world_of (step_of s (Close m)).0) m false
close_step s m law ok = closes_scope (world_of s) (world_of (step_of s (Close m)).0) m _ ok (step_does s (Close m) law tt)

-- a naming that wins names a place for a new object
makes_new : (w v : World) (p : ℕ) (a b : Option PtrWord) (form : Option Naming) → a ≡ Some Free → naming_of a b ≡ form → StepOf (change_by p form) w v →
    (len ds : ℕ) × (place : Place) × (marks : Marks) × (b ≡ Some (Near len ds place marks)) × Makes w p len ds place.log v
makes_new w v p a b None free e h = absurd h
makes_new w v p a b (Some Retires) free e h = absurd (false≢true (sym (ap is_dropped free) ∙ (naming_says a b Retires e).0))
makes_new w v p a b (Some (Evicts len place)) free e h =
    let says = naming_says a b (Evicts len place) e in
    let odd : Some Free ≡ Some (Near len says.0 place says.1) = sym free ∙ says.2 in absurd cc
makes_new w v p a b (Some Stays) free e h =
    let says = naming_says a b Stays e in
    let odd : Some Free ≡ Some (Near says.0 says.1 says.2 says.3) = sym free ∙ says.4 in absurd cc
makes_new w v p a b (Some (Moves len ds from to)) free e h =
    let says = (naming_says a b (Moves len ds from to) e).0 in
    let odd : Some Free ≡ Some (Near len ds from says.0) = sym free ∙ says.1 in absurd cc
makes_new w v p a b (Some (Fetches len ds place)) free e h =
    let says = (naming_says a b (Fetches len ds place) e).0 in
    let odd : Some Free ≡ Some (Far len ds says.0) = sym free ∙ says.1 in absurd cc
makes_new w v p a b (Some (Places len ds place)) free e h = (len, ds, place, unmarked true, (naming_says a b (Places len ds place) e).1, h)

names_place : (w v : World) (p old new : ℕ) (r : Answer) → Succeeds (Name p old new) r → ComesToPass (Name p old new) r → Happens w (Name p old new) r v → StepOf (change_by p (naming_of (read_of old) (read_of new))) w v
names_place w v p old new Refused ok come h = absurd ok
names_place w v p old new Done ok come h = h
names_place w v p old new (Word y) ok come h = absurd come
names_place w v p old new _ ok come h = absurd h

pub name_step : (s : State) (p old new : ℕ) → Law s → read_of old ≡ Some Free → old < 2 ^ 64 → new < 2 ^ 64 → Succeeds (Name p old new) (step_of s (Name p old new)).1 → ComesToPass (Name p old new) (step_of s (Name p old new)).1 →
    (len ds : ℕ) × (place : Place) × (marks : Marks) × (read_of new ≡ Some (Near len ds place marks)) × Makes (world_of s) p len ds place.log (world_of (step_of s (Name p old new)).0)
name_step s p old new law free before after ok come =
    let v : World = world_of (step_of s (Name p old new)).0 in
    makes_new (world_of s) v p (read_of old) (read_of new) _ free refl (names_place (world_of s) v p old new (step_of s (Name p old new)).1 ok come (step_does s (Name p old new) law (before, after)))

-- the object that is new
abbrev pub new_object : ℕ → ℕ → ℕ → ℕ → Object
new_object p len ds group = record { owner = p / CELLS; ds = ds; bytes = replicate len 0; home = Group group }

pub makes_object : (w v : World) (p len ds group : ℕ) → Makes w p len ds group v → (v.object ≡ put w.object p (Some (new_object p len ds group))) × (v.opened ≡ w.opened)
makes_object w v p len ds group h = (ap (λ (x : World). x.object) h.after, ap (λ (x : World). x.opened) h.after)

-- what succeeds was legal
pub was_legal : (s : State) (e : Event) → Law s → Succeeds e (step_of s e).1 → Legal s e
was_legal s e law = cond_both (is_legal s e) (after s e, answer s e) (s, Refused) (λ (x : State × Answer). Succeeds e x.1 → Legal s e) (λ h _. is_fact s e law h) (λ _ ok. absurd (no_refusal e ok)) where
  no_refusal : (e : Event) → Succeeds e Refused → ⊥
  no_refusal (ReadEpoch m) h = h
  no_refusal (Open m) h = h
  no_refusal (Pin m p) h = h
  no_refusal (Load m p i) h = h
  no_refusal (Store m p i w) h = h
  no_refusal (Soil m p) h = h
  no_refusal (Close m) h = h
  no_refusal (Adopt m p) h = h
  no_refusal (Put l at w) h = h
  no_refusal (Name p old new) h = h
  no_refusal (See p) h = h
  no_refusal (Mark p) h = h
  no_refusal (Ask m p k) h = h
  no_refusal (Get l at free) h = h
  no_refusal (Clear p) h = h
  no_refusal (Advance logs) h = h
  no_refusal (Look m) h = h
  no_refusal (Offer j p to) h = h
  no_refusal (PeekJob c j) h = h
  no_refusal (SeeJob j) h = h
  no_refusal (Claim c j old) h = h
  no_refusal (ReadLength c) h = h
  no_refusal (Read c i) h = h
  no_refusal (Write c i) h = h
  no_refusal (Finish c) h = h
  no_refusal (Collect j old) h = h
