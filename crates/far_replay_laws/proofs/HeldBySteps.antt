-- Steps of the evacuator keep what the device is to hold.
use Rattle.std.proofs.Common.{◌≡◌, ◌≢◌, ◌⊎◌, ℕ, true, false, cond, Option, Some, None, List, length, inl, inr, ap, sym, refl, ◌∙◌, subst}
use Rattle.std.proofs.lemmas.Bool.{false≢true, not-true}
use Rattle.far_word.specs.declared.mark.Marks.{Marks}
use Rattle.far_word.specs.declared.pointer.PtrWord.{PtrWord}
use Rattle.far_word.specs.declared.pointer.PtrWord.TheVariants.{Free, Near, Far}
use Rattle.far_word.specs.Bytes.{bytes_of}
use Rattle.far_word.specs.Pointer.{read_of}
use Rattle.far_word.proofs.ByteLaws.{length-bytes_of}
use Rattle.far_book.specs.book.FarSide.{kept_len}
use Rattle.far_events.specs.state.Law.{in_use, is_dirty}
use Rattle.far_events.specs.state.State.{State}
use Rattle.far_core.specs.world.World.{Object}
use Rattle.far_core.specs.world.WorldOf.{world_of}
use Rattle.far_events.proofs.Cells.{unused}
use Rattle.far_text.specs.Command.{Evacuator, Step, Mark, Evacuate, Abort, Round}
use Rattle.far_alone.specs.Own.{bytes_in_world}
use Rattle.far_replay.specs.Answers.{Commanded, IsMoment}
use Rattle.far_replay.specs.Commanded.{LiesFar}
use Rattle.far_replay.specs.Far.{FarBytes, HoldsBy, WentFar}
use Rattle.far_replay.specs.Moment.{Moment}
use Rattle.far_reply.specs.Reply.{Reply, Done, Marked}
use Rattle.far_replay.proofs.Lasting.{Lasts}
use Rattle.far_replay_laws.specs.Left.{AllStayPut, CellBy, IsAnywhere, MarksBy}
use Rattle.far_replay_laws.specs.Lying.{KeepsHeld, bytes_in}
use Rattle.far_replay_laws.proofs.GivenBytes.{same_bytes}
use Rattle.far_replay_laws.proofs.LeftBySteps.{steps_left}

anywhere_bytes : (o x : Option Object) → IsAnywhere o x → bytes_in_world x ≡ bytes_in_world o
anywhere_bytes None None h = refl
anywhere_bytes (Some o) (Some x) h = ap (λ bs. Some bs) h.2
anywhere_bytes _ _ h = absurd h

-- ---- an object that is far has what is stored of it
pub far_bytes : (s : State) (p len ds : ℕ) (m : Marks) → read_of (s.cell p) ≡ Some (Far len ds m) → m.dropped ≡ false → bytes_in_world ((world_of s).object p) ≡ Some (bytes_of (s.stored p) len)
unfolding world_of
far_bytes s p len ds m far alive = rw (far, alive) refl

-- a pointer that is named is in use
pub used_in : (now : Moment) → Lasts now → (p : ℕ) → now.core.cell p ≢ 0 → in_use (read_of (now.core.cell p)) ≡ true
used_in now lasts p named = lasts.law.views.used_cell p (lasts.between.named p named)

-- so its bytes are those, as many as its cell says
pub far_own : (now : Moment) → Lasts now → (p : ℕ) (far : LiesFar now.core p) (own : List ℕ) → bytes_in now p ≡ Some own → own ≡ bytes_of (now.core.stored p) far.0
far_own now lasts p far own had =
    let used : in_use (read_of (now.core.cell p)) ≡ true = used_in now lasts p (λ none. let odd : Some (Far far.0 far.1 far.2) ≡ Some Free = sym far.3 ∙ ap read_of none ∙ unused in cc) in
    same_bytes own (bytes_of (now.core.stored p) far.0) (sym had ∙ far_bytes now.core p far.0 far.1 far.2 far.3 (not-true far.2.dropped (subst (λ o. in_use o ≡ true) far.3 used)))

pub far_long : (now : Moment) → Lasts now → (p : ℕ) (far : LiesFar now.core p) (own : List ℕ) → bytes_in now p ≡ Some own → length own ≡ far.0
far_long now lasts p far own had = ap length (far_own now lasts p far own had) ∙ length-bytes_of (now.core.stored p) far.0

-- ---- a step in which no object leaves
marks_kept : (step : Step) (r : Reply) (a b : Marks) → MarksBy step r a b → b.dirty ≡ a.dirty
marks_kept (Mark count) (Marked marked waiting) a b h = elim h [
  | inl same ↦ ap (λ (m : Marks). m.dirty) same
  | inr more ↦ ap (λ (m : Marks). m.dirty) more
]
marks_kept Abort Done a b h = elim h [
  | inl same ↦ ap (λ (m : Marks). m.dirty) same
  | inr less ↦ ap (λ (m : Marks). m.dirty) less
]
marks_kept _ _ a b h = ap (λ (m : Marks). m.dirty) h

cell_kept : (step : Step) (r : Reply) (old new : Option PtrWord) → CellBy (MarksBy step r) old new → kept_len new ≡ kept_len old
cell_kept step r None None h = refl
cell_kept step r (Some Free) (Some Free) h = refl
cell_kept step r (Some (Near len ds place a)) (Some (Near n d at b)) (lens, structures, places, marks) = ap (λ x. cond b.dirty None (Some x)) lens ∙ ap (λ x. cond x None (Some len)) (marks_kept step r a b marks)
cell_kept step r (Some (Far len ds a)) (Some (Far n d b)) h = ap (λ x. Some x) h.0
cell_kept step r _ _ h = absurd h

put_kept : (now : Moment) (step : Step) (r : Reply) (after : Moment) (held later : FarBytes) → ((p : ℕ) → later p ≡ held p) → ((p : ℕ) → bytes_in after p ≡ bytes_in now p) → AllStayPut now.core step r after.core → KeepsHeld now held after later
put_kept now step r after held later same bytes stays p (len, kept) = inl (same p, (len, sym (cell_kept step r (read_of (now.core.cell p)) (read_of (after.core.cell p)) (stays.cells p)) ∙ kept), bytes p)

-- of what has DIRTY nothing is kept
dirty_unkept : (o : Option PtrWord) → is_dirty o ≡ true → (len : ℕ) → kept_len o ≡ Some len → ⊥
dirty_unkept (Some (Near n ds place m)) dirty len kept = let odd : None ≡ Some len = ap (λ b. cond b None (Some n)) (sym dirty) ∙ kept in cc
dirty_unkept (Some (Far n ds m)) dirty len kept = false≢true dirty
dirty_unkept (Some Free) dirty len kept = false≢true dirty
dirty_unkept None dirty len kept = false≢true dirty

-- ---- each step
module _ (now : Moment) (r : Reply) (after : Moment) (held later : FarBytes) (is : IsMoment now) where
  bytes_stay : (step : Step) → Commanded now (Evacuator step) r after → (p : ℕ) → bytes_in after p ≡ bytes_in now p
  bytes_stay step made p = anywhere_bytes ((world_of now.core).object p) ((world_of after.core).object p) ((steps_left now step r after is made).objects p)

  went_far : Lasts after → (p : ℕ) → WentFar now.core after.core later p → later p ≡ bytes_in after p
  went_far lasts p (dirty, len, ds, m, far, there) =
      let used : in_use (read_of (after.core.cell p)) ≡ true = used_in after lasts p (λ none. let odd : Some (Far len ds m) ≡ Some Free = sym far ∙ ap read_of none ∙ unused in cc) in
      there ∙ sym (far_bytes after.core p len ds m far (not-true m.dropped (subst (λ o. in_use o ≡ true) far used)))

  module _ (step : Step) (made : Commanded now (Evacuator step) r after) (lasts : Lasts after) where
    pub leaving_kept : ((p : ℕ) → (len : ℕ) → kept_len (read_of (after.core.cell p)) ≡ Some len → ((later p ≡ held p) × (kept_len (read_of (now.core.cell p)) ≡ Some len)) ⊎ WentFar now.core after.core later p) → KeepsHeld now held after later
    leaving_kept holds p (len, kept) = elim (holds p len kept) [
      | inl (same, before) ↦ inl (same, (len, before), bytes_stay step made p)
      | inr went ↦ inr ((λ before. dirty_unkept (read_of (now.core.cell p)) went.0 before.0 before.1), went_far lasts p went)
    ]

  pub kept_by_step : (step : Step) → Commanded now (Evacuator step) r after → Lasts after → HoldsBy (Evacuator step) now.core after.core held later → KeepsHeld now held after later
  kept_by_step (Evacuate count) made lasts holds = leaving_kept (Evacuate count) made lasts holds
  kept_by_step (Round policy most turns) made lasts holds = leaving_kept (Round policy most turns) made lasts holds
  kept_by_step step made lasts holds = put_kept now step r after held later holds (bytes_stay step made) (steps_left now step r after is made).rest
