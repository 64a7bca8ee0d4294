-- What each event does to the world that the state means.
use Rattle.std.proofs.Common.{None, Option, Some, ap, arith, cond, false, inl, inr, length, nat_eq, refl, sym, true, ℕ, ◌*◌, ◌+◌, ◌-◌, ◌/◌, ◌<◌, ◌^◌, ◌∙◌, ◌≡◌, ◌≢◌}
use Rattle.std.proofs.lemmas.Bool.{cases_eq, eq-eqb, ne_eqb}
use Rattle.std.proofs.lemmas.Bool.Decides.{nat_tests}
use Rattle.std.specs.Prelude.{is_some}
use Rattle.far_events.proofs.Bounds.{one_name, span_len}
use Rattle.far_events.proofs.Cells.{held_near}
use Rattle.far_core.proofs.KeepWords.{data_stays}
use Rattle.far_events.proofs.Put.{put_other, put_same}
use Rattle.far_events.specs.state.Law.{Heads, Law, head_len}
use Rattle.far_events.specs.state.State.{State, addr, put}
use Rattle.far_core.specs.world.World.{Group, Object, World}
use Rattle.far_core.specs.world.WorldOf.{object_of, world_of}
use Rattle.far_core.specs.world.Steps.{Reads, Writes, with_bytes}
use Rattle.far_word.proofs.ByteLaws.{bytes_of-put, bytes_of-same, length-bytes_of, packs_back}
use Rattle.far_word.proofs.PointerLaws.{read_says}
use Rattle.far_word.specs.Bytes.{bytes_of, with_word}
use Rattle.far_word.specs.Pointer.{read_of}
use Rattle.far_word.specs.Sizes.{words_for}
use Rattle.far_word.specs.declared.mark.Marks.{Marks}
use Rattle.far_word.specs.declared.pointer.Place.{Place}
use Rattle.far_word.specs.declared.pointer.PtrWord.{PtrWord}
use Rattle.far_word.specs.declared.pointer.PtrWord.TheVariants.{Far, Free, Near}
use Rattle.far_word.specs.declared.sizes.TheConstants.{CELLS}
use mathlib.Core.Path.{fun_ext}

pub World-ext : (a b : World) → a.object ≡ b.object → a.opened ≡ b.opened → a.viewed ≡ b.viewed → a.marked ≡ b.marked → a.group ≡ b.group → a.honest ≡ b.honest → a ≡ b
World-ext a b h k l m n o = λ i. record { object = h i; opened = k i; viewed = l i; marked = m i; group = n i; honest = o i }

pub opened_is : (s : State) (m : ℕ) → s.scope m ≢ 0 → (world_of s).opened m ≡ true
unfolding world_of
opened_is s m h = grind (arith, nat_tests)

pub closed_is : (s : State) (m : ℕ) → s.scope m ≡ 0 → (world_of s).opened m ≡ false
unfolding world_of
closed_is s m h = grind (arith, nat_tests)

-- ---- words
-- an object is the same where its data words are
pub object_same : (f g h : ℕ → ℕ) (p : ℕ) (o : Option PtrWord) →
    ((len ds : ℕ) (place : Place) (m : Marks) → o ≡ Some (Near len ds place m) → (j : ℕ) → j < words_for len → f (addr place + 1 + j) ≡ g (addr place + 1 + j)) →
    object_of f h p o ≡ object_of g h p o
object_same f g h p None k = refl
object_same f g h p (Some Free) k = refl
object_same f g h p (Some (Near len ds place m)) k =
    ap (λ bs. cond m.dropped None (Some record { owner = p / CELLS; ds = ds; bytes = bs; home = Group place.log }))
    (bytes_of-same (λ i. f (addr place + 1 + i)) (λ i. g (addr place + 1 + i)) len (k len ds place m refl))
object_same f g h p (Some (Far len ds m)) k = refl

-- the object that an owner holds
module _ (s : State) (law : Law s) (m p i len ds : ℕ) (place : Place) (marks : Marks) (own : p / CELLS ≡ m) (rests : s.held p ≡ Some place)
    (near : read_of (s.cell p) ≡ Some (Near len ds place marks)) (word_in : i < words_for len) where
  kept : marks.dropped ≡ false
  kept = let x = held_near _ place (law.views.held_names p place rests) in
      let same : Some (Near len ds place marks) ≡ Some (Near x.len x.ds place x.marks) = sym near ∙ x.near in
      let eq : marks.dropped ≡ x.marks.dropped = cc in eq ∙ x.kept

  heads : Heads s.word s.starts p len ds place
  heads = law.cells.cell_near p len ds place marks near

  long : head_len (s.word (addr place)) ≡ len
  long = rw (span_len s law p len ds place marks near) refl

  abbrev pub object : Object
  object = record { owner = p / CELLS; ds = ds; bytes = bytes_of (λ k. s.word (addr place + 1 + k)) len; home = Group place.log }

  pub here_now : object_of s.word (s.stored p) p (read_of (s.cell p)) ≡ Some object
  here_now = rw near (rw kept refl)

  inside : 8 * i < length (bytes_of (λ k. s.word (addr place + 1 + k)) len)
  inside = omega (arith, word_in, length-bytes_of (λ k. s.word (addr place + 1 + k)) len)

  pub load_reads : Reads (world_of s) m p i (s.word (addr place + 1 + i)) (world_of s)
  unfolding world_of
  load_reads =
      let pads = law.spans.span_padding (addr place) heads.placed i (omega (arith, word_in, long)) in
      record {
        own = own;
        viewed = ap is_some rests;
        found = (object, here_now, inside, sym (packs_back (λ k. s.word (addr place + 1 + k)) len i (law.spans.word_fits _) (rw (← long) pads)));
        after = refl;
      }

  module _ (w : ℕ) (wide : w < 2 ^ 64) (pad : w < 2 ^ (8 * (len - 8 * i))) where
    abbrev new : ℕ → ℕ
    new = put s.word (addr place + 1 + i) w

    bytes_then : bytes_of (λ k. new (addr place + 1 + k)) len ≡ with_word (bytes_of (λ k. s.word (addr place + 1 + k)) len) i w
    bytes_then = bytes_of-same (λ k. new (addr place + 1 + k)) (λ k. cond (nat_eq k i) w (s.word (addr place + 1 + k))) len
        (λ k lt. elim (cases_eq k i) [
          | inl e ↦ put_same s.word (addr place + 1 + i) w (addr place + 1 + k) (omega arith) ∙ sym (ap (λ b. cond b w (s.word (addr place + 1 + k))) (eq-eqb k i e))
          | inr ne ↦ put_other s.word (addr place + 1 + i) w (addr place + 1 + k) (λ e. ne (omega arith)) ∙ sym (ap (λ b. cond b w (s.word (addr place + 1 + k))) (ne_eqb k i ne))
        ]) ∙ bytes_of-put (λ k. s.word (addr place + 1 + k)) len i w

    here_then : object_of new (s.stored p) p (read_of (s.cell p)) ≡ Some (with_bytes object (with_word (bytes_of (λ k. s.word (addr place + 1 + k)) len) i w))
    here_then = rw near (rw (kept, bytes_then) refl)

    other_stays : (q : ℕ) → q ≢ p → object_of new (s.stored q) q (read_of (s.cell q)) ≡ object_of s.word (s.stored q) q (read_of (s.cell q))
    other_stays q ne = object_same new s.word (s.stored q) q _ (λ n d at k e j lt.
        let there = law.cells.cell_near q n d at k e in
        let x = read_says (s.cell q) (Near n d at k) (law.cells.cell_read q).0 e in
        let y = read_says (s.cell p) (Near len ds place marks) (law.cells.cell_read p).0 near in
        let size : head_len (s.word (addr at)) ≡ n = rw (span_len s law q n d at k e) refl in
        let apart : addr at ≢ addr place = (λ same. ne (one_name s.word q p n len d ds (addr place) (ap s.word (sym same) ∙ there.head) heads.head (omega (arith, x.0)) (omega (arith, y.0)) (omega (arith, x.0)) (omega (arith, y.0)))) in
        data_stays s law (addr place) heads.placed i (omega (arith, word_in, long)) w wide (rw long pad) (addr at) there.placed apart j (omega (arith, size)))

    pub store_writes : Writes (world_of s) m p i w (world_of record s { word = new })
    unfolding world_of
    store_writes = record {
      own = own;
      viewed = ap is_some rests;
      changed = (
        object,
        here_now,
        inside,
        World-ext _ _
            (fun_ext (λ q. elim (cases_eq q p) [
              | inl same ↦ (ap (λ r. object_of new (s.stored r) r (read_of (s.cell r))) same ∙ here_then ∙ sym (put_same (λ r. object_of s.word (s.stored r) r (read_of (s.cell r))) p _ q same))
              | inr ne ↦ other_stays q ne ∙ sym (put_other (λ r. object_of s.word (s.stored r) r (read_of (s.cell r))) p _ q ne)
            ]))
            refl refl refl refl refl,
      );
    }
