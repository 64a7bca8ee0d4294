-- Objects come and go.
use Rattle.std.proofs.Common.{◌≡◌, ◌≢◌, ℕ, ◌*◌, ◌/◌, ◌<◌, ◌≤◌, ◌==◌, Bool, true, false, refl, sym, ap, subst, ◌∙◌, arith, Option, Some, None, inl, inr, replicate, length, List}
use Rattle.std.proofs.lemmas.Bool.{cond_both, cases_eq, false_from_ne_true, true≢false, eq-eqb, false≢true, ne_eqb, not-false}
use Rattle.std.proofs.lemmas.List.{length-replicate}
use mathlib.Core.Path.{fun_ext}
use Rattle.far_word.specs.declared.mark.Mark.TheVariants.{Dropped}
use Rattle.far_word.specs.declared.pointer.Place.{Place}
use Rattle.far_word.specs.declared.pointer.PtrWord.{PtrWord}
use Rattle.far_word.specs.declared.refused.Refused.{Refused}
use Rattle.far_word.specs.declared.sizes.TheConstants.{CELLS, LONGEST}
use Rattle.far_word.specs.Pointer.{read_of}
use Rattle.far_word.specs.Sizes.{size_of}
use Rattle.far_events.specs.declared.event.Event.TheVariants.{Adopt, Ask, Name}
use Rattle.far_events.specs.declared.naming.Naming.{Naming}
use Rattle.far_events.specs.declared.naming.Naming.TheVariants.{Stays, Moves}
use Rattle.far_events.specs.events.Copied.{copied_job}
use Rattle.far_events.specs.events.Legal.{Legal}
use Rattle.far_events.specs.events.Name.{after_naming}
use Rattle.far_events.specs.events.namings.Moves.{after_move}
use Rattle.far_events.specs.events.Naming.{is_dropped, naming_of, naming_row}
use Rattle.far_events.specs.events.Pin.{place_to_view}
use Rattle.far_events.specs.events.Step.{after}
use Rattle.far_events.specs.declared.shape.Shape.{Shape}
use Rattle.far_events.specs.state.Law.{Law}
use Rattle.far_events.specs.state.Opening.{opening, without_copiers}
use Rattle.far_core.specs.state.Room.{room}
use Rattle.far_events.specs.state.State.{State, put}
use Rattle.far_core.specs.world.Steps.{Drops, Makes}
use Rattle.far_core.specs.world.World.{World, start}
use Rattle.far_core.specs.world.WorldOf.{world_of}
use Rattle.far_core.proofs.KeepOwner.{nonzero}
use Rattle.far_core.proofs.Owing.{does, keeps}
use Rattle.far_events.proofs.Put.{put_both, put_other, put_same}
use Rattle.far_book.specs.book.Effects.{near_word, placed, retired, with_blank_span, with_free_cell}
use Rattle.far_book.proofs.region.Reaching.{placing_legal, retiring}
use Rattle.far_book.proofs.region.Retires.{retired_is}
use Rattle.far_alone.proofs.AloneStates.{object_unused, object_used}
use Rattle.far_alone.proofs.Drops.{asked_is_dropped}
use Rattle.std.specs.Prelude.{IsSome, MatchOption, is_some, ◌&&◌, ◌||◌, Err, Ok, OnErr, OnOk, Result, not}
use Rattle.far_private.specs.Looks.{IsFresh}
use Rattle.far_private.specs.Objects.{IsFree, IsFull, Object, Settled, known, objects_of, seen, with_new, without, Objects, rewritten, with_written}
use Rattle.far_private.proofs.Keeping.{honest_as, settled_on}
use Rattle.far_alone.proofs.Storing.{uses_own}
use Rattle.std.specs.Option.{option_map}
use Rattle.far_private.specs.Changes.{Changes}
use Rattle.far_private.specs.FreePointers.{HasFree, IsKept, IsLowest, has}
use Rattle.far_private.specs.Steps.{Keeps}
use Rattle.far_private.specs.declared.free_pointers.FreePointers.{FreePointers}
use Rattle.far_private.proofs.Beginning.{begins_none, begins_settled}
use Rattle.far_private.proofs.Resting.{unheld_now}
use Rattle.far_private.proofs.SameLogs.{placed_logs}

-- ---- what a naming leaves of owners
record Owns (s t : State) : Type 0 where
  mutators : t.mutators ≡ s.mutators
  used : t.used ≡ s.used
  scope : t.scope ≡ s.scope
  remembered : t.remembered ≡ s.remembered

owns_none : (s : State) → Owns s s
owns_none s = record { mutators = refl; used = refl; scope = refl; remembered = refl }

move_owns : (s : State) (p new len : ℕ) (to : Place) (j : Option ℕ) → Owns s (after_move s p new len to j)
move_owns s p new len to None = record { mutators = refl; used = refl; scope = refl; remembered = refl }
move_owns s p new len to (Some j) = record { mutators = refl; used = refl; scope = refl; remembered = refl }

form_owns : (s : State) (p new : ℕ) (form : Naming) → Owns s (naming_row s p new form).after
form_owns s p new Stays = record { mutators = refl; used = refl; scope = refl; remembered = refl }
form_owns s p new (Moves len ds from to) = move_owns s p new len to (copied_job s p from to)
form_owns s p new _ = record { mutators = refl; used = refl; scope = refl; remembered = refl }

naming_owns : (s : State) (p new : ℕ) (o : Option Naming) → Owns s (after_naming s p new o)
naming_owns s p new None = owns_none s
naming_owns s p new (Some form) = form_owns s p new form

name_owns : (s : State) (p old new : ℕ) → Owns s (after s (Name p old new))
name_owns s p old new = cond_both (s.cell p == old) (after_naming s p new (naming_of (read_of old) (read_of new))) s (Owns s) (λ _. naming_owns s p new (naming_of (read_of old) (read_of new))) (λ _. owns_none s)

placed_owns : (s : State) (p len ds : ℕ) (place : Place) → Owns s (placed s p len ds place)
placed_owns s p len ds place = let h = name_owns (with_blank_span s p len ds place) p 0 (near_word true len ds place) in record { mutators = h.mutators; used = h.used; scope = h.scope; remembered = h.remembered }

unheld_by : (o : Option Place) → (is_some o ≡ true → ⊥) → o ≡ None
unheld_by None f = refl
unheld_by (Some x) f = absurd (f refl)

-- ---- a new object
module _ (s : State) (p len ds : ℕ) (place : Place) (law : Law s) (settled : Settled s) (free : s.cell p ≡ 0) (within : p < 2048) (some : 0 < len) (most : len ≤ LONGEST) (structure : ds < 256)
    (found : room s (size_of len) true ≡ Some place) where
  inside : p < CELLS * s.mutators
  inside = omega (arith, settled.mutators)

  abbrev t : State
  t = placed s p len ds place

  unused_so : s.used p ≡ false
  unused_so = false_from_ne_true (s.used p) (λ h. nonzero s law p h free)

  way_law : Law t
  way_law = (placing_legal s p len ds place law inside free some most structure found).1

  world : Makes (world_of s) p len ds place.log (world_of t)
  world = (placing_legal s p len ds place law inside free some most structure found).2

  abbrev new_object : Object
  new_object = record { len = len; ds = ds; bytes = known s.honest (replicate len 0) }

  new_seen : (q : ℕ) → seen s.honest ((world_of t).object q) ≡ put (objects_of s).object p (Some new_object) q
  new_seen q = ap (λ (w : World). seen s.honest (w.object q)) world.after
      ∙ put_both (λ x. seen s.honest x ≡ put (objects_of s).object p (Some new_object) q) (world_of s).object p _ q
      (λ at. ap (λ n. Some record { len = n; ds = ds; bytes = known s.honest (replicate len 0) }) (length-replicate len 0) ∙ sym (put_same (objects_of s).object p (Some new_object) q at))
      (λ ne. sym (put_other (objects_of s).object p (Some new_object) q ne))

  placed_objects : objects_of t ≡ with_new p len ds (objects_of s)
  placed_objects =
      ap (λ (b : Bool). record { honest = b; logs = t.logs; object = λ q. seen b ((world_of t).object q) }) (honest_as s t (ap (λ (w : World). w.honest) world.after))
      ∙ ap (λ (n : ℕ). record { honest = s.honest; logs = n; object = λ q. seen s.honest ((world_of t).object q) }) (placed_logs s p len ds place)
      ∙ ap (λ (f : ℕ → Option Object). record { honest = s.honest; logs = s.logs; object = f }) (fun_ext new_seen)

  adopted_same : (x : State) → objects_of (after x (Adopt (p / CELLS) p)) ≡ objects_of x
  unfolding world_of
  adopted_same x = refl

  pub new_objects : (u v : State) → v ≡ t → u ≡ after v (Adopt (p / CELLS) p) → objects_of u ≡ with_new p len ds (objects_of s)
  new_objects u v e is = ap objects_of is ∙ adopted_same v ∙ ap objects_of e ∙ placed_objects

  named_then : (q : ℕ) → t.cell q ≢ 0 → put t.used p true q ≡ true
  named_then q busy = put_both (λ b. b ≡ true) t.used p true q (λ _. refl)
      (λ ne. ap (λ (f : ℕ → Bool). f q) (placed_owns s p len ds place).used ∙ settled.named q (λ z. busy ((placing_legal s p len ds place law inside free some most structure found).3.cells q ne ∙ z)))

  pub new_settled : (u v : State) → v ≡ t → u ≡ after v (Adopt (p / CELLS) p) → Settled u
  new_settled u v e is = subst Settled (sym (is ∙ ap (λ (x : State). after x (Adopt (p / CELLS) p)) e))
      (let owns = placed_owns s p len ds place in
      record {
        mutators = owns.mutators ∙ settled.mutators;
        named = named_then;
        closed = λ k. ap (λ (f : ℕ → ℕ). f k) owns.scope ∙ settled.closed k;
        fresh = λ k. ap (λ (f : ℕ → Option ℕ). f k) owns.remembered ∙ settled.fresh k;
      })

  -- there was none before
  pub was_none : (objects_of s).object p ≡ None
  was_none = ap (seen s.honest) (object_unused s settled.named p unused_so)

  -- its owner uses it, and a view may rest on it
  pub new_fresh : (u v : State) → v ≡ t → u ≡ after v (Adopt (p / CELLS) p) → IsFresh u p
  new_fresh u v e is = subst (λ (x : State). IsFresh x p) (sym (is ∙ ap (λ (x : State). after x (Adopt (p / CELLS) p)) e)) record {
    used = put_same t.used p true p refl;
    unheld = unheld_by (t.held p) (λ h. true≢false (sym (way_law.views.held_used p h) ∙ ap (λ (f : ℕ → Bool). f p) (placed_owns s p len ds place).used ∙ unused_so));
    rests = ap (λ (o : Option PtrWord). is_some (place_to_view o)) (placing_legal s p len ds place law inside free some most structure found).3.cell;
  }

-- ---- an object is dropped
module _ (s : State) (p : ℕ) (law : Law s) (settled : Settled s) (used : s.used p ≡ true) where
  abbrev m : ℕ
  m = p / CELLS

  unheld : s.held p ≡ None
  unheld = unheld_now s law settled p used

  below : p < CELLS * s.mutators
  below = law.cells.cell_range p (nonzero s law p used)

  owner_within : m < s.mutators
  owner_within = omega (arith, below)

  pub drop_legal : Legal s (Ask m p Dropped)
  drop_legal = (refl, owner_within, refl, used, unheld)

  abbrev asked : State
  asked = after s (Ask m p Dropped)

  asked_law : Law asked
  asked_law = keeps s (Ask m p Dropped) law tt drop_legal

  drops : Drops (world_of s) m p (world_of asked)
  drops = does s (Ask m p Dropped) law tt drop_legal

  asked_dropped : is_dropped (read_of (asked.cell p)) ≡ true
  asked_dropped = asked_is_dropped s m p law owner_within (uses_own s m p refl used) unheld

  pub dropped_so : (v : State) → v ≡ asked → is_dropped (read_of (v.cell p)) ≡ true
  dropped_so v e = ap (λ (x : State). is_dropped (read_of (x.cell p))) e ∙ asked_dropped

  pub dropped_inside : (v : State) → v ≡ asked → p < CELLS * v.mutators
  dropped_inside v e = subst (λ (x : State). p < CELLS * x.mutators) (sym e) below

  gone_is : retired asked p ≡ with_free_cell asked p
  gone_is = retired_is asked p asked_dropped

  gone_seen : (q : ℕ) → seen s.honest ((world_of (retired asked p)).object q) ≡ put (objects_of s).object p None q
  gone_seen q = ap (λ (w : World). seen s.honest (w.object q)) ((retiring asked p asked_law below asked_dropped).2 ∙ drops.after)
      ∙ put_both (λ x. seen s.honest x ≡ put (objects_of s).object p None q) (world_of s).object p None q
      (λ at. sym (put_same (objects_of s).object p None q at)) (λ ne. sym (put_other (objects_of s).object p None q ne))

  gone_honest : (retired asked p).honest ≡ s.honest
  gone_honest = ap (λ (x : State). x.honest) gone_is

  gone_objects : objects_of (retired asked p) ≡ without p (objects_of s)
  gone_objects =
      ap (λ (b : Bool). record { honest = b; logs = (retired asked p).logs; object = λ q. seen b ((world_of (retired asked p)).object q) }) gone_honest
      ∙ ap (λ (n : ℕ). record { honest = s.honest; logs = n; object = λ q. seen s.honest ((world_of (retired asked p)).object q) }) (ap (λ (x : State). x.logs) gone_is)
      ∙ ap (λ (f : ℕ → Option Object). record { honest = s.honest; logs = s.logs; object = f }) (fun_ext gone_seen)

  gone_settled : Settled (with_free_cell asked p)
  gone_settled = record {
    mutators = settled.mutators;
    named = λ q busy. elim (cases_eq q p) [
      | inl at ↦ absurd (busy (put_same asked.cell p 0 q at))
      | inr ne ↦ (put_other s.used p false q ne ∙ settled.named q (λ z. busy (put_other asked.cell p 0 q ne ∙ put_other s.cell p _ q ne ∙ z)))
    ];
    closed = settled.closed;
    fresh = settled.fresh;
  }

  pub drop_objects : (u v : State) → v ≡ asked → u ≡ retired v p → objects_of u ≡ without p (objects_of s)
  drop_objects u v e is = ap objects_of (is ∙ ap (λ (x : State). retired x p) e) ∙ gone_objects

  pub drop_settled : (u v : State) → v ≡ asked → u ≡ retired v p → Settled u
  drop_settled u v e is = subst Settled (sym (is ∙ ap (λ (x : State). retired x p) e ∙ gone_is)) gone_settled

-- ---- which pointers have an object
pub used_some : (s : State) (p : ℕ) → Law s → s.used p ≡ true → (o : Object) × ((objects_of s).object p ≡ Some o)
used_some s p law used = let h = object_used s law p used in (record { len = length h.object.bytes; ds = h.object.ds; bytes = known s.honest h.object.bytes }, ap (seen s.honest) h.there)

pub unused_none : (s : State) (p : ℕ) → Settled s → s.used p ≡ false → (objects_of s).object p ≡ None
unused_none s p settled free = ap (seen s.honest) (object_unused s settled.named p free)

pub free_none : (s : State) → Law s → Settled s → (p : ℕ) → s.cell p ≡ 0 → (objects_of s).object p ≡ None
free_none s law settled p free = unused_none s p settled (false_from_ne_true (s.used p) (λ h. nonzero s law p h free))

-- ---- which pointers are free
none_by : (o : Option Object) → not (is_some o) ≡ true → o ≡ None
none_by None e = refl
none_by (Some x) e = absurd (false≢true e)

module _ (s : State) (set : FreePointers) (law : Law s) (kept : IsKept s set) where
  unnamed : (p : ℕ) → (objects_of s).object p ≡ None → s.cell p ≡ 0
  unnamed p none = elim (cases_eq (s.cell p) 0) [
    | inl e ↦ e
    | inr busy ↦ absurd (false≢true (ap is_some (sym none ∙ (used_some s p law (kept.settled.named p busy)).1)))
  ]

  named : ((p : ℕ) → p < 2048 → has set p ≡ false) → IsFull s
  named none p lt z = absurd (false≢true (sym (ap is_some (free_none s law kept.settled p z)) ∙ not-false (is_some ((objects_of s).object p)) (sym (kept.free p lt) ∙ none p lt)))

  pub free_told : (o : Option ℕ) → MatchOption o ((p : ℕ) → p < 2048 → has set p ≡ false) (λ p. IsLowest set p) → MatchOption o (IsFull s) (λ p. IsFree s p)
  free_told None none = named none
  free_told (Some p) low = record { inside = low.0; free = unnamed p (none_by ((objects_of s).object p) (sym (kept.free p low.0) ∙ low.1)) }

  pub used_inside : (p : ℕ) → s.used p ≡ true → p < 2048
  used_inside p used = omega (arith, law.cells.cell_range p (nonzero s law p used), kept.settled.mutators)

-- the set has the free pointers of what a call leaves
pub has_all : (set : FreePointers) (o : Objects) → ((p : ℕ) → p < 2048 → has set p ≡ true) → ((p : ℕ) → o.object p ≡ None) → HasFree set o
has_all set o all none p lt = all p lt ∙ ap (λ x. not (is_some x)) (sym (none p))

pub begins_kept : (s : State) (set : FreePointers) (shape : Shape) (honest : Bool) → s ≡ without_copiers (opening shape honest) → world_of s ≡ start honest → shape.mutators ≡ 8 →
    ((p : ℕ) → p < 2048 → has set p ≡ true) → IsKept s set
begins_kept s set shape honest is begun eight all = record { settled = begins_settled s shape honest is eight; free = has_all set (objects_of s) all (begins_none s honest begun) }

module _ (set new : FreePointers) (o : Objects) (free : HasFree set o) where
  pub has_same : (t : Objects) → t ≡ o → HasFree set t
  has_same t e = subst (HasFree set) (sym e) free

  -- a pointer of the set gets an object
  pub has_taken : (t : Objects) (p : ℕ) (x : Object) → t ≡ record o { object = put o.object p (Some x) } → ((q : ℕ) → has new q ≡ (not (q == p) && has set q)) → HasFree new t
  has_taken t p x e is = subst (HasFree new) (sym e) (λ q lt. is q ∙ put_both (λ y. (not (q == p) && has set q) ≡ not (is_some y)) o.object p (Some x) q
      (λ at. ap (λ b. not b && has set q) (eq-eqb q p at)) (λ ne. ap (λ b. not b && has set q) (ne_eqb q p ne) ∙ free q lt))

  pub has_more : (t : Objects) (p : ℕ) → t ≡ without p o → ((q : ℕ) → has new q ≡ ((q == p) || has set q)) → HasFree new t
  has_more t p e is = subst (HasFree new) (sym e) (λ q lt. is q ∙ put_both (λ x. ((q == p) || has set q) ≡ not (is_some x)) o.object p None q
      (λ at. ap (λ b. b || has set q) (eq-eqb q p at)) (λ ne. ap (λ b. b || has set q) (ne_eqb q p ne) ∙ free q lt))

  still_some : (f : Object → Object) (x : Option Object) → is_some x ≡ is_some (option_map f x)
  still_some f None = refl
  still_some f (Some x) = refl

  pub has_written : (t : Objects) (p from : ℕ) (bytes : List ℕ) → t ≡ with_written p from bytes o → HasFree set t
  has_written t p from bytes e = subst (HasFree set) (sym e) (λ q lt. put_both (λ x. has set q ≡ not (is_some x)) o.object p (option_map (rewritten from bytes) (o.object p)) q
      (λ at. free q lt ∙ ap (λ k. not (is_some (o.object k))) at ∙ ap not (still_some (rewritten from bytes) (o.object p))) (λ ne. free q lt))

-- a call of which this is known leaves it so
module _ (s t : State) (set : FreePointers) (kept : IsKept s set) where
  pub keeps_kept : Keeps s t → IsKept t set
  keeps_kept k = record { settled = settled_on s t kept.settled k; free = has_same set set (objects_of s) kept.free (objects_of t) k.objects }

  pub written_kept : (r : Result Unit Refused) (p from : ℕ) (bytes : List ℕ) → Settled t → OnOk r (objects_of t ≡ with_written p from bytes (objects_of s)) → OnErr r (objects_of t ≡ objects_of s) → IsKept t set
  written_kept (Ok x) p from bytes settled ok err = record { settled = settled; free = has_written set set (objects_of s) kept.free (objects_of t) p from bytes ok }
  written_kept (Err why) p from bytes settled ok err = record { settled = settled; free = has_same set set (objects_of s) kept.free (objects_of t) err }

pub full_some : (s : State) → Law s → Settled s → IsFull s → (q : ℕ) → q < 2048 → IsSome ((objects_of s).object q)
full_some s law settled full q lt = ap is_some (used_some s q law (settled.named q (full q lt))).1

-- of a range that a call changed
pub changed_kept : (s t : State) (set : FreePointers) → IsKept s set → (outcome : List ℕ → Unit {0} → List ℕ → Type 0) (r : Result Unit Refused) (p from count : ℕ) (bytes : List ℕ) → Settled t →
    OnOk r (Changes outcome p from count bytes (objects_of s) (objects_of t)) → OnErr r (objects_of t ≡ objects_of s) → IsKept t set
changed_kept s t set kept outcome (Ok x) p from count bytes settled ok err = record { settled = settled; free = has_written set set (objects_of s) kept.free (objects_of t) p from bytes ok.written }
changed_kept s t set kept outcome (Err why) p from count bytes settled ok err = record { settled = settled; free = has_same set set (objects_of s) kept.free (objects_of t) err }
