-- What every step of a world keeps, and what the objects of a core's world are.
use Rattle.std.proofs.Common.{◌≡◌, ◌≢◌, ◌<◌, ℕ, ◌+◌, ◌/◌, Bool, true, false, cond, nat_eq, arith, inl, inr, sym, refl, ap, subst, ◌∙◌, Option, Some, None, List, [], ◌∷◌, length, zero, suc}
use Rattle.std.specs.Prelude.{◌⊎◌, slice_index}
use Rattle.std.proofs.lemmas.Bool.{cond_both, eqb-true, false≢true}
use Rattle.far_word.specs.declared.pointer.PtrWord.{PtrWord}
use Rattle.far_word.specs.declared.pointer.PtrWord.TheVariants.{Free, Near, Far}
use Rattle.far_word.specs.declared.sizes.TheConstants.{CELLS, POINTERS}
use Rattle.far_word.specs.Bytes.{bytes_of, with_word}
use Rattle.far_word.specs.Pointer.{read_of}
use Rattle.far_word.proofs.ByteLaws.{length-bytes_of, bytes_of-small, length-with_word}
use Rattle.far_word.proofs.PointerLaws.{read_says}
use Rattle.far_events.specs.declared.event.Event.{Event}
use Rattle.far_events.specs.events.Changes.{Change}
use Rattle.far_core.specs.world.Changes.{Step, StepOf}
use Rattle.far_events.specs.events.Changes as change
use Rattle.far_events.specs.events.Step.{change_of}
use Rattle.far_core.proofs.Owing.{owed}
use Rattle.far_events.specs.state.Law.{Law}
use Rattle.far_events.specs.state.State.{State, put, addr}
use Rattle.far_core.specs.world.World.{World, Object, Group, FarSide, start}
use Rattle.far_core.specs.laws.Worlds.{HasSameBytes, HasSameLength, ChangeKeeps, ChangesKeep, ChangesAreOne, Causes, Caused, EventsCause, SureOf, ObjectStands, ObjectsStand, StepKeeps, StepsKeep, LoadsRead, StepsAreOne, LyingIsOpen}
use Rattle.far_core.specs.world.WorldOf.{world_of, object_of, is_group}
use Rattle.far_core.specs.world.Steps.{Views, Writes, ComesNear, with_bytes, with_home}
use Rattle.far_events.proofs.Cells.{unused}
use Rattle.far_core.proofs.Observations.{in_range}
use Rattle.far_events.proofs.Put.{put_both}
use Rattle.far_core.proofs.WorldFacts.{held_group}

-- ---- what each change keeps
-- objects and views stay
still : (w : World) (c : Change) (opened marked group : ℕ → Bool) → ((p g : ℕ) (o : Object) → w.object p ≡ Some o → o.home ≡ Group g → w.group g ≡ true → group g ≡ true) →
    ChangeKeeps w c record w { opened = opened; marked = marked; group = group }
still w c opened marked group held = record {
  honesty = refl;
  groups = held;
  bytes = λ p o seen there out. there;
  rests = λ p o seen there. (o, there, refl, refl, refl, refl);
  unchanged = λ p o honest there out kept. (o, there, refl, refl, refl);
  unfetched = λ p o there out kept still. (o, there, refl, refl, refl);
  near = λ p g o there home out kept. (o, there, refl, refl, refl);
  lengths = λ p o there kept. (o, there, refl, refl, refl);
  views = λ p seen out. seen;
  new_views = λ p seen out. seen;
  begins = λ p out seen. absurd (false≢true (sym out ∙ seen));
}

-- what becomes of an object that isn't dropped: it keeps its bytes, or it was far and is fetched, with as many bytes, and with its own where the world is honest
abbrev Fares : World → Change → ℕ → Object → Option Object → Type 0
Fares w c p o x = HasSameBytes o x ⊎ ((w.honest ≡ true → HasSameBytes o x) × (o.home ≡ FarSide) × ((g : ℕ) × (c ≡ change.ComesNear p g)) × HasSameLength o x)

same_length : (o : Object) (x : Option Object) → HasSameBytes o x → HasSameLength o x
same_length o x (u, there, owner, ds, bytes) = (u, there, owner, ds, ap length bytes)

-- one object changes, which nobody views, and fares so, unless it is dropped
unseen : (w : World) (c : Change) (p : ℕ) (x : Option Object) (marked group : ℕ → Bool) → ((o : Object) → w.viewed p ≡ true → w.object p ≢ Some o) →
    ((o : Object) → w.object p ≡ Some o → c ≢ change.Drops (p / CELLS) p → Fares w c p o x) →
    ((q g : ℕ) (o : Object) → w.object q ≡ Some o → o.home ≡ Group g → w.group g ≡ true → group g ≡ true) → ChangeKeeps w c record w { object = put w.object p x; marked = marked; group = group }
unseen w c p x marked group away fares held = record {
  honesty = refl;
  groups = held;
  bytes = λ q o seen there out. put_both (λ (z : Option Object). z ≡ Some o) w.object p x q (λ e. absurd (away o (ap w.viewed (sym e) ∙ seen) (ap w.object (sym e) ∙ there))) (λ _. there);
  rests = λ q o seen there. put_both (λ (z : Option Object). (u : Object) × (z ≡ Some u) × (u.owner ≡ o.owner) × (u.ds ≡ o.ds) × (u.home ≡ o.home) × (length u.bytes ≡ length o.bytes))
      w.object p x q (λ e. absurd (away o (ap w.viewed (sym e) ∙ seen) (ap w.object (sym e) ∙ there))) (λ _. (o, there, refl, refl, refl, refl));
  unchanged = λ q o honest there out kept. elim (each q o there kept) [ inl same ↦ same | inr (same, far, fetched, long) ↦ same honest ];
  unfetched = λ q o there out kept still. elim (each q o there kept) [ inl same ↦ same | inr (lying, far, fetched, long) ↦ absurd (still fetched) ];
  near = λ q g o there home out kept. elim (each q o there kept) [ inl same ↦ same | inr (lying, far, fetched, long) ↦ (let odd : Group g ≡ FarSide = sym home ∙ far in absurd cc) ];
  lengths = λ q o there kept. elim (each q o there kept) [ inl same ↦ same_length o _ same | inr (lying, far, fetched, long) ↦ long ];
  views = λ q seen out. seen;
  new_views = λ q seen out. seen;
  begins = λ q out seen. absurd (false≢true (sym out ∙ seen));
} where
  each : (q : ℕ) (o : Object) → w.object q ≡ Some o → c ≢ change.Drops (q / CELLS) q → Fares w c q o (put w.object p x q)
  each q o there kept = put_both (λ (z : Option Object). Fares w c q o z) w.object p x q
      (λ e. subst (λ k. Fares w c k o x) (sym e) (fares o (ap w.object (sym e) ∙ there) (λ d. kept (d ∙ ap (λ k. change.Drops (k / CELLS) k) (sym e)))))
      (λ _. inl (o, there, refl, refl, refl))

one_of : {X : Type 0} (x y : X) (o : Option X) → o ≡ Some x → o ≡ Some y → x ≡ y
one_of x y o a b = let both : Some x ≡ Some y = sym a ∙ b in cc

-- a group more
module _ (w : World) (g : ℕ) where
  more : (q k : ℕ) (o : Object) → w.object q ≡ Some o → o.home ≡ Group k → w.group k ≡ true → put w.group g true k ≡ true
  more q k o there home held = put_both (λ (b : Bool). b ≡ true) w.group g true k (λ _. refl) (λ _. held)

nobody : (w : World) (p : ℕ) → w.viewed p ≡ false → (o : Object) → w.viewed p ≡ true → w.object p ≢ Some o
nobody w p out o seen there = false≢true (sym out ∙ seen)

-- the object that was there, elsewhere
elsewhere : (w : World) (p : ℕ) (x u o : Object) → w.object p ≡ Some x → w.object p ≡ Some o → u.owner ≡ x.owner → u.ds ≡ x.ds → u.bytes ≡ x.bytes → HasSameBytes o (Some u)
elsewhere w p x u o found there a b c =
    let is : x ≡ o = one_of x o (w.object p) found there in
    (u, refl, a ∙ ap (λ (z : Object). z.owner) is, b ∙ ap (λ (z : Object). z.ds) is, c ∙ ap (λ (z : Object). z.bytes) is)

abbrev near_again : Object → List ℕ → ℕ → Object
near_again o bytes g = record { owner = o.owner; ds = o.ds; bytes = bytes; home = Group g }

-- the object stays where it is, with as many bytes
abbrev Rests : Object → Option Object → Type 0
Rests o z = (u : Object) × (z ≡ Some u) × (u.owner ≡ o.owner) × (u.ds ≡ o.ds) × (u.home ≡ o.home) × (length u.bytes ≡ length o.bytes)

keeps_writes : (w : World) (m p i x : ℕ) (v : World) → Writes w m p i x v → ChangeKeeps w (change.Writes m p i x) v
keeps_writes w m p i x v h =
    let old : Object = h.changed.0 in
    let now : Object = with_bytes old (with_word old.bytes i x) in
    let written : (q : ℕ) → q ≡ p → (j : ℕ) × (y : ℕ) × (change.Writes m p i x ≡ change.Writes (q / CELLS) q j y) =
    λ q e. (i, x, ap (λ k. change.Writes k p i x) (sym h.own ∙ ap (λ k. k / CELLS) (sym e)) ∙ ap (λ k. change.Writes (q / CELLS) k i x) (sym e)) in
    let rests : (q : ℕ) (o : Object) → w.object q ≡ Some o → Rests o (put w.object p (Some now) q) = λ q o there. put_both (Rests o) w.object p (Some now) q
    (λ e. let is : old ≡ o = one_of old o (w.object p) h.changed.1 (ap w.object (sym e) ∙ there) in (
      now,
      refl,
      ap (λ (z : Object). z.owner) is,
      ap (λ (z : Object). z.ds) is,
      ap (λ (z : Object). z.home) is,
      length-with_word old.bytes i x ∙ ap (λ (z : Object). length z.bytes) is,
    ))
    (λ _. (o, there, refl, refl, refl, refl)) in
    let same : (q : ℕ) (o : Object) → w.object q ≡ Some o → ¬ ((j : ℕ) × (y : ℕ) × (change.Writes m p i x ≡ change.Writes (q / CELLS) q j y)) → HasSameBytes o (put w.object p (Some now) q) =
    λ q o there out. put_both (λ (z : Option Object). HasSameBytes o z) w.object p (Some now) q (λ e. absurd (out (written q e))) (λ _. (o, there, refl, refl, refl)) in
    subst (λ (z : World). ChangeKeeps w (change.Writes m p i x) z) (sym h.changed.3) record {
      honesty = refl;
      groups = λ q g o there home held. held;
      bytes = λ q o seen there out. put_both (λ (z : Option Object). z ≡ Some o) w.object p (Some now) q
          (λ e. absurd (out (written q e)))
          (λ _. there);
      rests = λ q o seen there. rests q o there;
      unchanged = λ q o honest there out kept. same q o there out;
      unfetched = λ q o there out kept still. same q o there out;
      near = λ q g o there home out kept. same q o there out;
      lengths = λ q o there kept. let (u, is, owner, ds, home, long) = rests q o there in (u, is, owner, ds, long);
      views = λ q seen out. seen;
      new_views = λ q seen out. seen;
      begins = λ q out seen. absurd (false≢true (sym out ∙ seen));
    }

keeps_closes : (w : World) (m : ℕ) → ChangeKeeps w (change.Closes m) record w { opened = put w.opened m false; viewed = λ p. cond (nat_eq (p / CELLS) m) false (w.viewed p) }
keeps_closes w m = record {
  honesty = refl;
  groups = λ p g o there home held. held;
  bytes = λ p o seen there out. there;
  rests = λ p o seen there. (o, there, refl, refl, refl, refl);
  unchanged = λ p o honest there out kept. (o, there, refl, refl, refl);
  unfetched = λ p o there out kept still. (o, there, refl, refl, refl);
  near = λ p g o there home out kept. (o, there, refl, refl, refl);
  lengths = λ p o there kept. (o, there, refl, refl, refl);
  views = λ p seen out. cond_both (nat_eq (p / CELLS) m) false (w.viewed p) (λ (b : Bool). b ≡ true) (λ t. absurd (out (ap (λ k. change.Closes k) (sym (eqb-true (p / CELLS) m t))))) (λ _. seen);
  new_views = λ p seen out. cond_both (nat_eq (p / CELLS) m) false (w.viewed p) (λ (b : Bool). b ≡ true → w.viewed p ≡ true) (λ _ odd. absurd (false≢true odd)) (λ _ held. held) seen;
  begins = λ p out seen. absurd (cond_both (nat_eq (p / CELLS) m) false (w.viewed p) (λ (b : Bool). b ≢ true) (λ _. false≢true) (λ _ held. false≢true (sym out ∙ held)) seen);
}

-- where a view begins
abbrev BeginsAt : World → ℕ → Type 0
BeginsAt w p = (w.opened (p / CELLS) ≡ true) × (w.marked p ≡ false) × ((o : Object) × (g : ℕ) × (w.object p ≡ Some o) × (o.home ≡ Group g))

begins_there : (w : World) (m p : ℕ) (v : World) → Views w m p v → w.viewed p ≡ false → BeginsAt w p
begins_there w m p v h out = let (o, g, there, owner, home) = h.near out in (ap w.opened h.own ∙ h.open_owner, h.unmarked out, (o, g, there, home))

keeps_views : (w : World) (m p : ℕ) (v : World) → Views w m p v → ChangeKeeps w (change.Views m p) record w { viewed = put w.viewed p true }
keeps_views w m p v h = record {
  honesty = refl;
  groups = λ q g o there home held. held;
  bytes = λ q o seen there out. there;
  rests = λ q o seen there. (o, there, refl, refl, refl, refl);
  unchanged = λ q o honest there out kept. (o, there, refl, refl, refl);
  unfetched = λ q o there out kept still. (o, there, refl, refl, refl);
  near = λ q g o there home out kept. (o, there, refl, refl, refl);
  lengths = λ q o there kept. (o, there, refl, refl, refl);
  views = λ q seen out. put_both (λ (b : Bool). b ≡ true) w.viewed p true q (λ _. refl) (λ _. seen);
  new_views = λ q seen out. put_both (λ (b : Bool). b ≡ true → w.viewed q ≡ true) w.viewed p true q
      (λ e _. absurd (out (ap (λ k. change.Views k p) (sym h.own ∙ ap (λ k. k / CELLS) (sym e)) ∙ ap (λ k. change.Views (q / CELLS) k) (sym e))))
      (λ _ held. held) seen;
  begins = λ q out seen. put_both (λ (b : Bool). b ≡ true → BeginsAt w q) w.viewed p true q
      (λ e _. subst (λ k. BeginsAt w k) (sym e) (begins_there w m p v h (ap w.viewed (sym e) ∙ out)))
      (λ _ held. absurd (false≢true (sym out ∙ held))) seen;
}

-- a far object that comes near
comes_again : (w : World) (p g : ℕ) (v : World) (k : ComesNear w p g v) (o : Object) → w.object p ≡ Some o → Fares w (change.ComesNear p g) p o (Some (near_again k.come.0 k.come.1 g))
comes_again w p g v k o there =
    let is : k.come.0 ≡ o = one_of k.come.0 o (w.object p) k.come.2 there in
    inr (
      λ honest. elsewhere w p k.come.0 _ o k.come.2 there refl refl (k.come.6 honest),
      ap (λ (z : Object). z.home) (sym is) ∙ k.come.3,
      (g, refl),
      (near_again k.come.0 k.come.1 g, refl, ap (λ (z : Object). z.owner) is, ap (λ (z : Object). z.ds) is, k.come.4 ∙ ap (λ (z : Object). length z.bytes) is),
    )

pub changes_keep : ChangesKeep
changes_keep w v c h = at c h where
  from : (d : Change) (x : World) → v ≡ x → ChangeKeeps w d x → ChangeKeeps w d v
  from d x e k = subst (λ (z : World). ChangeKeeps w d z) (sym e) k

  old : (p g : ℕ) (o : Object) → w.object p ≡ Some o → o.home ≡ Group g → w.group g ≡ true → w.group g ≡ true
  old p g o there home held = held

  at : (d : Change) → Step d w v → ChangeKeeps w d v
  at change.Stays k = from _ w k (still w _ w.opened w.marked w.group old)
  at (change.Opens m) k = from _ _ k.after (still w _ _ w.marked w.group old)
  at (change.Closes m) k = from _ _ k.after (keeps_closes w m)
  at (change.Views m p) k = from _ _ k.after (keeps_views w m p v k)
  at (change.Reads m p i x) k = from _ w k.after (still w _ w.opened w.marked w.group old)
  at (change.Writes m p i x) k = keeps_writes w m p i x v k
  at (change.Makes p len ds g) k = from _ _ k.after (unseen w _ p _ _ _ (λ o seen there. let odd : None ≡ Some o = sym k.fresh ∙ there in cc)
      (λ o there kept. let odd : None ≡ Some o = sym k.fresh ∙ there in absurd cc) (more w g))
  at (change.Marks p) k = from _ _ k (still w _ w.opened _ w.group old)
  at (change.Unmarks p) k = from _ _ k (still w _ w.opened _ w.group old)
  at (change.Moves p g) k = from _ _ k.moved.4 (unseen w _ p _ _ _ (nobody w p k.unviewed)
      (λ o there kept. inl (elsewhere w p k.moved.0 _ o k.moved.2 there refl refl refl)) (more w g))
  at (change.GoesFar p) k = from _ _ k.gone.4 (unseen w _ p _ _ _ (nobody w p k.unviewed)
      (λ o there kept. inl (elsewhere w p k.gone.0 _ o k.gone.2 there refl refl refl)) old)
  at (change.ComesNear p g) k = from _ _ k.come.7 (unseen w _ p _ _ _ (nobody w p k.unviewed)
      (λ o there kept. comes_again w p g v k o there) (more w g))
  at (change.Drops m p) k = from _ _ k.after (unseen w _ p _ _ _ (nobody w p k.unviewed)
      (λ o there kept. absurd (kept (ap (λ n. change.Drops n p) (sym k.own)))) old)
  at (change.Releases g) k = from _ _ k.after (still w _ w.opened w.marked _
      (λ q j o there home held. put_both (λ (b : Bool). b ≡ true) w.group g false j (λ e. absurd (k.empty q o there (home ∙ ap Group e))) (λ _. held)))
  at (change.Holds g) k = from _ _ k (still w _ w.opened w.marked _ (more w g))

-- ---- which event makes a change
pub events_cause : EventsCause
events_cause e = (owed e).causes

keeps_event : (w v : World) (e : Event) (o : Option Change) → Caused e o → StepOf o w v → StepKeeps w e v
keeps_event w v e None is h = absurd h
keeps_event w v e (Some c) is h =
    let k = changes_keep w v c h in
    record {
      honesty = k.honesty;
      groups = k.groups;
      bytes = λ p o seen there out. k.bytes p o seen there (λ (i, x, same). out (i, x, subst (λ d. Causes e d) same is));
      rests = k.rests;
      unchanged = λ p o honest there out kept. k.unchanged p o honest there
          (λ (i, x, same). out (i, x, subst (λ d. Causes e d) same is)) (λ same. kept (subst (λ d. Causes e d) same is));
      unfetched = λ p o there out kept still. k.unfetched p o there
          (λ (i, x, same). out (i, x, subst (λ d. Causes e d) same is)) (λ same. kept (subst (λ d. Causes e d) same is)) (λ (g, same). still (subst (λ d. Causes e d) same is));
      near = λ p g o there home out kept. k.near p g o there home
          (λ (i, x, same). out (i, x, subst (λ d. Causes e d) same is)) (λ same. kept (subst (λ d. Causes e d) same is));
      lengths = λ p o there kept. k.lengths p o there (λ same. kept (subst (λ d. Causes e d) same is));
      views = λ p seen out. k.views p seen (λ same. out (subst (λ d. Causes e d) same is));
      new_views = λ p seen out. k.new_views p seen (λ same. out (subst (λ d. Causes e d) same is));
      begins = k.begins;
    }

pub steps_keep : StepsKeep
steps_keep w v e r h = keeps_event w v e (change_of e r) (events_cause e r) h

pub loads_read : LoadsRead
loads_read w v m p i x h = (h.viewed, h.own, h.found)

-- ---- one step
pub changes_are_one : ChangesAreOne
changes_are_one w v u change.Stays sure h k = h ∙ sym k
changes_are_one w v u (change.Opens m) sure h k = h.after ∙ sym k.after
changes_are_one w v u (change.Closes m) sure h k = h.after ∙ sym k.after
changes_are_one w v u (change.Views m p) sure h k = h.after ∙ sym k.after
changes_are_one w v u (change.Reads m p i x) sure h k = h.after ∙ sym k.after
changes_are_one w v u (change.Writes m p i x) sure h k =
    let is : h.changed.0 ≡ k.changed.0 = one_of h.changed.0 k.changed.0 (w.object p) h.changed.1 k.changed.1 in
    h.changed.3 ∙ ap (λ (o : Object). record w { object = put w.object p (Some (with_bytes o (with_word o.bytes i x))) }) is ∙ sym k.changed.3
changes_are_one w v u (change.Makes p len ds g) sure h k = h.after ∙ sym k.after
changes_are_one w v u (change.Marks p) sure h k = h ∙ sym k
changes_are_one w v u (change.Unmarks p) sure h k = h ∙ sym k
changes_are_one w v u (change.Moves p g) sure h k =
    let is : h.moved.0 ≡ k.moved.0 = one_of h.moved.0 k.moved.0 (w.object p) h.moved.2 k.moved.2 in
    h.moved.4 ∙ ap (λ (o : Object). record w { object = put w.object p (Some (with_home o (Group g))); marked = put w.marked p false; group = put w.group g true }) is ∙ sym k.moved.4
changes_are_one w v u (change.GoesFar p) sure h k =
    let is : h.gone.0 ≡ k.gone.0 = one_of h.gone.0 k.gone.0 (w.object p) h.gone.2 k.gone.2 in
    h.gone.4 ∙ ap (λ (o : Object). record w { object = put w.object p (Some (with_home o FarSide)); marked = put w.marked p false }) is ∙ sym k.gone.4
changes_are_one w v u (change.ComesNear p g) sure h k =
    let is : h.come.0 ≡ k.come.0 = one_of h.come.0 k.come.0 (w.object p) h.come.2 k.come.2 in
    let bytes : h.come.1 ≡ k.come.1 = h.come.6 sure ∙ ap (λ (o : Object). o.bytes) is ∙ sym (k.come.6 sure) in
    h.come.7 ∙ ap (λ (o : Object). record w { object = put w.object p (Some (near_again o h.come.1 g)); marked = put w.marked p false; group = put w.group g true }) is
    ∙ ap (λ b. record w { object = put w.object p (Some (near_again k.come.0 b g)); marked = put w.marked p false; group = put w.group g true }) bytes ∙ sym k.come.7
changes_are_one w v u (change.Drops m p) sure h k = h.after ∙ sym k.after
changes_are_one w v u (change.Releases g) sure h k = h.after ∙ sym k.after
changes_are_one w v u (change.Holds g) sure h k = h ∙ sym k

one_event : (w v u : World) (o : Option Change) → SureOf w o → StepOf o w v → StepOf o w u → v ≡ u
one_event w v u None sure h k = absurd h
one_event w v u (Some c) sure h k = changes_are_one w v u c sure h k

pub steps_are_one : StepsAreOne
steps_are_one w v u e r sure h k = one_event w v u (change_of e r) sure h k

-- ---- a far side that isn't honest
one_byte : (b : ℕ) → b < 256 → (k : ℕ) → slice_index (b ∷ []) k < 256
one_byte b small zero = small
one_byte b small (suc k) = omega arith

-- a world whose one object, of one byte, is far
abbrev far_world : World
far_world = record (start false) { object = put (λ _. None) 0 (Some record { owner = 0; ds = 0; bytes = 0 ∷ []; home = FarSide }) }

-- the same with the object near, and this byte in it
abbrev near_world : ℕ → World
near_world b = record far_world {
  object = put far_world.object 0 (Some record { owner = 0; ds = 0; bytes = b ∷ []; home = Group 0 });
  marked = put far_world.marked 0 false;
  group = put far_world.group 0 true;
}

comes : (b : ℕ) → b < 256 → ComesNear far_world 0 0 (near_world b)
comes b small = record {
  unviewed = refl;
  come = (record { owner = 0; ds = 0; bytes = 0 ∷ []; home = FarSide }, b ∷ [], refl, refl, refl, one_byte b small, λ odd. absurd (false≢true odd), refl);
}

abbrev first_byte : Option Object → ℕ
first_byte None = 0
first_byte (Some o) = slice_index o.bytes 0

pub lying_is_open : LyingIsOpen
lying_is_open = (
  far_world,
  near_world 0,
  near_world 255,
  0,
  0,
  refl,
  comes 0 (omega arith),
  comes 255 (omega arith),
  λ same.
      let bytes : 0 ≡ 255 = ap (λ (x : World). first_byte (x.object 0)) same in
      omega arith,
)

-- ---- the objects of a core
kept_object : (b : Bool) (x o : Object) → cond b None (Some x) ≡ Some o → x ≡ o
kept_object true x o e = absurd cc
kept_object false x o e = cc

-- a cell that isn't 0 has a number of the largest heap's
object_number : (s : State) → Law s → (p : ℕ) → s.cell p ≢ 0 → p < POINTERS
object_number s law p some = omega (arith, law.cells.cell_range p some, law.shape.few_mutators)

object_stands : (s : State) → Law s → (p : ℕ) (c : Option PtrWord) → read_of (s.cell p) ≡ c → (o : Object) → object_of s.word (s.stored p) p c ≡ Some o → ObjectStands (world_of s) p o
unfolding world_of
object_stands s law p None e o h = absurd cc
object_stands s law p (Some Free) e o h = absurd cc
object_stands s law p (Some (Far len ds m)) e o h =
    let says = read_says (s.cell p) (Far len ds m) (law.cells.cell_read p).0 e in
    let x : Object = record { owner = p / CELLS; ds = ds; bytes = bytes_of (s.stored p) len; home = FarSide } in
    let long : length (bytes_of (s.stored p) len) ≡ len = length-bytes_of (s.stored p) len in
    subst (λ (z : Object). ObjectStands (world_of s) p z) (kept_object m.dropped x o h) record {
      number = object_number s law p (λ z. let odd : Some Free ≡ Some (Far len ds m) = sym unused ∙ ap read_of (sym z) ∙ e in cc);
      owner = refl;
      structure = says.0.2;
      some = omega (arith, long, says.0.0);
      most = omega (arith, long, says.0.1);
      small = λ k. bytes_of-small (s.stored p) len k;
      held = λ g home. absurd cc;
    }
object_stands s law p (Some (Near len ds place m)) e o h =
    let says = read_says (s.cell p) (Near len ds place m) (law.cells.cell_read p).0 e in
    let span = in_range s law p len ds place m e in
    let f : ℕ → ℕ = λ i. s.word (addr place + 1 + i) in
    let x : Object = record { owner = p / CELLS; ds = ds; bytes = bytes_of f len; home = Group place.log } in
    let long : length (bytes_of f len) ≡ len = length-bytes_of f len in
    let there : is_group (s.kind place.log) ≡ true = held_group (s.kind place.log) (λ free. let none : s.tail place.log ≡ 0 = law.logs.free_tail place.log free in omega (arith, span.0)) in
    subst (λ (z : Object). ObjectStands (world_of s) p z) (kept_object m.dropped x o h) record {
      number = object_number s law p (λ z. let odd : Some Free ≡ Some (Near len ds place m) = sym unused ∙ ap read_of (sym z) ∙ e in cc);
      owner = refl;
      structure = says.0.2;
      some = omega (arith, long, says.0.0);
      most = omega (arith, long, says.0.1);
      small = λ k. bytes_of-small f len k;
      held = λ g home. let is : place.log ≡ g = cc in subst (λ (l : ℕ). is_group (s.kind l) ≡ true) is there;
    }

pub objects_stand : (s : State) → Law s → ObjectsStand (world_of s)
unfolding world_of
objects_stand s law p o h = object_stands s law p (read_of (s.cell p)) refl o h
