-- A mark that an owner or the book sets in a cell: what it leaves as it is, and what the world makes of it.
use Rattle.std.proofs.Common.{◌≡◌, ◌≢◌, ℕ, ◌<◌, ◌^◌, ◌∙◌, Bool, true, false, cond, ap, refl, sym, bit_or, Option, Some, None}
use Rattle.std.specs.Prelude.{◌||◌, ◌&&◌, not, is_some}
use Rattle.std.proofs.lemmas.Bool.{false≢true}
use mathlib.Core.Path.{fun_ext}
use Rattle.far_word.specs.declared.mark.Mark.{Mark}
use Rattle.far_word.specs.declared.mark.Mark.TheVariants.{Hot, Evac, Moved, Dropped, Dirty}
use Rattle.far_word.specs.declared.pointer.PtrWord.{PtrWord}
use Rattle.far_word.specs.declared.pointer.PtrWord.TheVariants.{Free, Near, Far}
use Rattle.far_word.specs.Mark.{position}
use Rattle.far_word.specs.Pointer.{read_of, takes_mark}
use Rattle.far_word.proofs.PointerLaws.{with_mark_read, with_mark_fits}
use Rattle.far_events.specs.state.Law.{in_use}
use Rattle.far_events.specs.state.State.{State, put}
use Rattle.far_core.specs.world.World.{Object}
use Rattle.far_core.specs.world.WorldOf.{world_of, object_of, is_marked}
use Rattle.far_core.specs.world.Steps as world
use Rattle.far_events.proofs.Cells.{map_mark}
use Rattle.far_events.proofs.Put.{put_both}
use Rattle.far_core.proofs.Worlds.{World-ext}

-- the marks that an owner sets
abbrev pub is_owners : Mark → Bool
is_owners Hot = true
is_owners Evac = false
is_owners Moved = true
is_owners Dropped = true
is_owners Dirty = false

takes_owners : (k : Mark) (v : PtrWord) → is_owners k ≡ true → in_use (Some v) ≡ true → takes_mark k v ≡ true
takes_owners k Free h u = absurd (false≢true u)
takes_owners Hot (Near len ds place m) h u = refl
takes_owners Evac (Near len ds place m) h u = refl
takes_owners Moved (Near len ds place m) h u = refl
takes_owners Dropped (Near len ds place m) h u = refl
takes_owners Dirty (Near len ds place m) h u = refl
takes_owners Hot (Far len ds m) h u = refl
takes_owners Evac (Far len ds m) h u = absurd (false≢true h)
takes_owners Moved (Far len ds m) h u = refl
takes_owners Dropped (Far len ds m) h u = refl
takes_owners Dirty (Far len ds m) h u = absurd (false≢true h)

at_mark : (k : Mark) (w : ℕ) (o : Option PtrWord) → is_owners k ≡ true → w < 2 ^ 64 → read_of w ≡ o → in_use o ≡ true →
    (read_of (bit_or w (2 ^ position k)) ≡ map_mark k o) × (bit_or w (2 ^ position k) < 2 ^ 64)
at_mark k w None h fits e u = absurd (false≢true u)
at_mark k w (Some v) h fits e u = (with_mark_read k w v fits e (takes_owners k v h u), with_mark_fits k w v fits e (takes_owners k v h u))

-- a word in use reads, with an owner's mark or-ed in, as it did, with that mark
pub read_mark : (k : Mark) (w : ℕ) → is_owners k ≡ true → w < 2 ^ 64 → in_use (read_of w) ≡ true →
    (read_of (bit_or w (2 ^ position k)) ≡ map_mark k (read_of w)) × (bit_or w (2 ^ position k) < 2 ^ 64)
read_mark k w h fits u = at_mark k w (read_of w) h fits refl u

at_moved : (d e v : Bool) (x : Object) → (not d && (e || true)) ≡ (is_some (cond d None (Some x)) || (not d && (e || v)))
at_moved true e v x = refl
at_moved false true v x = refl
at_moved false false v x = refl

-- an object with MOVE is marked
pub is_marked-moved : (f g : ℕ → ℕ) (p : ℕ) (o : Option PtrWord) → is_marked (map_mark Moved o) ≡ (is_some (object_of f g p o) || is_marked o)
is_marked-moved f g p None = refl
is_marked-moved f g p (Some Free) = refl
is_marked-moved f g p (Some (Near len ds place m)) = at_moved m.dropped m.evac m.moved _
is_marked-moved f g p (Some (Far len ds m)) = at_moved m.dropped m.evac m.moved _

-- what has DROP is no object, is unmarked and isn't in use
pub object_of-dropped : (f g : ℕ → ℕ) (p : ℕ) (o : Option PtrWord) → object_of f g p (map_mark Dropped o) ≡ None
object_of-dropped f g p None = refl
object_of-dropped f g p (Some Free) = refl
object_of-dropped f g p (Some (Near len ds place m)) = refl
object_of-dropped f g p (Some (Far len ds m)) = refl

pub is_marked-dropped : (o : Option PtrWord) → is_marked (map_mark Dropped o) ≡ false
is_marked-dropped None = refl
is_marked-dropped (Some Free) = refl
is_marked-dropped (Some (Near len ds place m)) = refl
is_marked-dropped (Some (Far len ds m)) = refl

-- what is in use is an object
pub in_use_object : (f g : ℕ → ℕ) (p : ℕ) (o : Option PtrWord) → in_use o ≡ true → is_some (object_of f g p o) ≡ true
in_use_object f g p None u = absurd (false≢true u)
in_use_object f g p (Some Free) u = absurd (false≢true u)
in_use_object f g p (Some (Near len ds place m)) u = kept m.dropped _ u where
  kept : (d : Bool) (x : Object) → not d ≡ true → is_some (cond d None (Some x)) ≡ true
  kept true x h = absurd (false≢true h)
  kept false x h = refl
in_use_object f g p (Some (Far len ds m)) u = kept m.dropped _ u where
  kept : (d : Bool) (x : Object) → not d ≡ true → is_some (cond d None (Some x)) ≡ true
  kept true x h = absurd (false≢true h)
  kept false x h = refl

chosen : (b : Bool) (new old : ℕ) (x : Bool) → is_marked (read_of new) ≡ x → is_marked (read_of (cond b new old)) ≡ cond b x (is_marked (read_of old))
chosen true new old x e = e
chosen false new old x e = refl

-- a cell whose object stays and is marked no longer unmarks it in the world
pub unmarks_world : (s : State) (p new : ℕ) → ((f g : ℕ → ℕ) (q : ℕ) → object_of f g q (read_of new) ≡ object_of f g q (read_of (s.cell p))) →
    is_marked (read_of new) ≡ cond (is_some (object_of s.word (s.stored p) p (read_of (s.cell p)))) false (is_marked (read_of (s.cell p))) →
    world.Unmarks (world_of s) p (world_of record s { cell = put s.cell p new })
unfolding world_of
unmarks_world s p new objects marks = World-ext _ _
    (fun_ext (λ q. put_both (λ w. object_of s.word (s.stored q) q (read_of w) ≡ object_of s.word (s.stored q) q (read_of (s.cell q))) s.cell p new q
    (λ e. objects s.word (s.stored q) q ∙ ap (λ r. object_of s.word (s.stored q) q (read_of (s.cell r))) (sym e)) (λ _. refl)))
    refl refl
    (fun_ext (λ q. chosen _ new (s.cell q) _ marks))
    refl refl

-- a cell whose object stays, marked or not, leaves the world as it is
pub same_world : (s : State) (p new : ℕ) → ((f g : ℕ → ℕ) (q : ℕ) → object_of f g q (read_of new) ≡ object_of f g q (read_of (s.cell p))) →
    is_marked (read_of new) ≡ is_marked (read_of (s.cell p)) → world_of record s { cell = put s.cell p new } ≡ world_of s
unfolding world_of
same_world s p new objects marks = World-ext _ _
    (fun_ext (λ q. put_both (λ w. object_of s.word (s.stored q) q (read_of w) ≡ object_of s.word (s.stored q) q (read_of (s.cell q))) s.cell p new q
    (λ e. objects s.word (s.stored q) q ∙ ap (λ r. object_of s.word (s.stored q) q (read_of (s.cell r))) (sym e)) (λ _. refl)))
    refl refl
    (fun_ext (λ q. put_both (λ w. is_marked (read_of w) ≡ is_marked (read_of (s.cell q))) s.cell p new q
    (λ e. marks ∙ ap (λ r. is_marked (read_of (s.cell r))) (sym e)) (λ _. refl)))
    refl refl

-- a cell whose object stays and is marked from now on marks it in the world
pub marks_world : (s : State) (p new : ℕ) → ((f g : ℕ → ℕ) (q : ℕ) → object_of f g q (read_of new) ≡ object_of f g q (read_of (s.cell p))) →
    is_marked (read_of new) ≡ (is_some (object_of s.word (s.stored p) p (read_of (s.cell p))) || is_marked (read_of (s.cell p))) →
    world.Marks (world_of s) p (world_of record s { cell = put s.cell p new })
unfolding world_of
marks_world s p new objects marks = World-ext _ _
    (fun_ext (λ q. put_both (λ w. object_of s.word (s.stored q) q (read_of w) ≡ object_of s.word (s.stored q) q (read_of (s.cell q))) s.cell p new q
    (λ e. objects s.word (s.stored q) q ∙ ap (λ r. object_of s.word (s.stored q) q (read_of (s.cell r))) (sym e)) (λ _. refl)))
    refl refl
    (fun_ext (λ q. chosen _ new (s.cell q) _ marks))
    refl refl
