-- The bytes of a near object, by its place.
use Rattle.std.proofs.Common.{◌≡◌, ℕ, ◌+◌, ◌*◌, ◌≤◌, true, false, refl, sym, ap, subst, ◌∙◌, arith, Option, Some, None, List}
use Rattle.std.specs.Prelude.{IfSome, slice_range, Result, Ok, Err, OnErr, OnOk, nat_lt, nat_le, is_some, ◌&&◌, if◌then◌else◌}
use Rattle.far_word.specs.declared.refused.Refused.TheVariants.{NotHeld, Range}
use Rattle.std.proofs.lemmas.Bool.{false≢true, not-true}
use mathlib.Core.Path.{fun_ext}
use Rattle.far_word.specs.declared.pointer.Place.{Place}
use Rattle.far_word.specs.declared.pointer.PtrWord.{PtrWord}
use Rattle.far_word.specs.declared.pointer.PtrWord.TheVariants.{Near}
use Rattle.far_word.specs.declared.refused.Refused.{Refused}
use Rattle.far_word.specs.declared.sizes.TheConstants.{LOG_WORDS, LONGEST}
use Rattle.far_word.specs.Bytes.{bytes_of}
use Rattle.far_word.specs.Pointer.{pointer_len, read_of}
use Rattle.far_word.specs.Sizes.{words_for}
use Rattle.far_word.proofs.PointerLaws.{read_says}
use Rattle.far_events.specs.state.Law.{Law, in_use}
use Rattle.far_events.specs.state.State.{State, addr}
use Rattle.far_events.specs.events.Step.{near_len, near_data, data_len}
use Rattle.far_core.specs.world.World.{Object as Thing}
use Rattle.far_core.specs.world.WorldOf.{world_of}
use Rattle.far_alone.specs.Dereference.{says_near}
use Rattle.far_alone.specs.Objects.{data_of, named_len}
use Rattle.far_alone.proofs.AloneStates.{object_near}
use Rattle.far_alone.proofs.Bringing.{SaysNear, near_is}
use Rattle.far_alone.proofs.Lengths.{len_named, named_most}
use Rattle.far_private.specs.Objects.{IsRead, Objects, Settled, access_refusal, bytes_in, bytes_of as known_bytes, known, len_in, objects_of, seen}
use Rattle.far_private.specs.Steps.{Keeps, SaysAt}
use Rattle.far_private.proofs.Bytes.{by_known, used_len}
use Rattle.far_private.proofs.Placing.{unused_none, used_some}

-- where an object's bytes begin, behind its header
abbrev pub behind : Place → Place
behind place = record { log = place.log; at = place.at + 1 }

-- ---- a near object
pub named_near : (o : Option PtrWord) → says_near o ≡ true → named_len o ≡ near_len o
named_near (Some (Near len ds place marks)) e = refl
named_near _ e = absurd (false≢true e)

pub words_inside : (s : State) → Law s → (p n : ℕ) (place : Place) → SaysAt (read_of (s.cell p)) place → n ≤ data_len s p → place.at + 1 + words_for n ≤ LOG_WORDS
words_inside s law p n place (len, ds, marks, e) fits =
    let x = read_says (s.cell p) (Near len ds place marks) (law.cells.cell_read p).0 e in
    let long : data_len s p ≡ len = ap near_len e in
    omega (arith, x.0, long)

-- a range of it lies in its log
pub bytes_inside : (s : State) → Law s → (p from count : ℕ) (place : Place) → SaysAt (read_of (s.cell p)) place → from + count ≤ data_len s p → 8 * (place.at + 1) + from + count ≤ 8 * LOG_WORDS
bytes_inside s law p from count place at fits = omega (arith, words_inside s law p (from + count) place at fits)

-- its bytes are those behind its header
pub range_of : (s : State) (p from count : ℕ) (place : Place) (out : List ℕ) → SaysAt (read_of (s.cell p)) place → from + count ≤ data_len s p →
    ((len : ℕ) → from + count ≤ len → out ≡ slice_range (bytes_of (λ i. s.word (addr (behind place) + i)) len) from (from + count)) →
    out ≡ slice_range (data_of s p) from (from + count)
range_of s p from count place out (len, ds, marks, e) fits told =
    told len (subst (λ o. from + count ≤ near_len o) e fits)
    ∙ ap (λ (f : ℕ → ℕ). slice_range (bytes_of f len) from (from + count)) (fun_ext there)
    ∙ sym (ap (λ o. slice_range (bytes_of (λ i. s.word (near_data o + i)) (near_len o)) from (from + count)) e) where
      there : (i : ℕ) → s.word (addr (behind place) + i) ≡ s.word (addr place + 1 + i)
      there i = let same : addr (behind place) + i ≡ addr place + 1 + i = omega arith in ap s.word same

module _ (s : State) (law : Law s) (p : ℕ) (used : s.used p ≡ true) (near : says_near (read_of (s.cell p)) ≡ true) where
  said : SaysNear (read_of (s.cell p))
  said = near_is (read_of (s.cell p)) near

  alive : said.marks.dropped ≡ false
  alive = not-true said.marks.dropped (sym (ap in_use said.is) ∙ law.views.used_cell p used)

  near_thing : (o : Thing) × ((world_of s).object p ≡ Some o) × (o.bytes ≡ data_of s p)
  near_thing = object_near s p said.len said.ds said.place said.marks said.is alive

  near_bytes : bytes_in (objects_of s) p ≡ known s.honest (data_of s p)
  near_bytes = ap (λ x. known_bytes (seen s.honest x)) near_thing.1 ∙ ap (known s.honest) near_thing.2

  pub near_long : len_in (objects_of s) p ≡ data_len s p
  near_long = used_len s law p used ∙ named_near (read_of (s.cell p)) near

  pub near_read : (from count : ℕ) (out : List ℕ) → out ≡ slice_range (data_of s p) from (from + count) → IsRead (objects_of s) p from count out
  near_read from count out e = subst (λ x. IfSome x (λ bytes. out ≡ slice_range bytes from (from + count))) (sym near_bytes) (by_known s.honest (data_of s p) out from (from + count) e)

-- ---- what is told of the objects as they are now is told of those before
pub read_before : (s t : State) → Keeps s t → (p from count : ℕ) (out : List ℕ) → IsRead (objects_of t) p from count out → IsRead (objects_of s) p from count out
read_before s t k p from count out h = subst (λ (o : Objects). IsRead o p from count out) k.objects h

pub read_on : (s t : State) → Keeps s t → (p from count : ℕ) (out : List ℕ) (r : Result (Unit {0}) Refused) → OnOk r (IsRead (objects_of t) p from count out) → OnOk r (IsRead (objects_of s) p from count out)
read_on s t k p from count out r h = subst (λ (o : Objects). OnOk r (IsRead o p from count out)) k.objects h

pub inside_on : (s t : State) → Keeps s t → (p n : ℕ) → n ≤ len_in (objects_of s) p → n ≤ len_in (objects_of t) p
inside_on s t k p n h = subst (λ (o : Objects). n ≤ len_in o p) (sym k.objects) h

-- ---- how long an object is, and which ranges lie in it
pub len_told : (s : State) → Law s → (p n : ℕ) → s.used p ≡ true → ((v : PtrWord) → read_of (s.cell p) ≡ Some v → n ≡ pointer_len v) → n ≡ len_in (objects_of s) p
len_told s law p n used told = len_named (read_of (s.cell p)) n (law.cells.cell_read p).1 told ∙ sym (used_len s law p used)

pub len_below : (s : State) → Law s → (p n : ℕ) → s.used p ≡ true → n ≡ len_in (objects_of s) p → n ≤ LONGEST
len_below s law p n used e = subst (λ k. k ≤ LONGEST) (sym (e ∙ used_len s law p used)) (named_most (s.cell p) (read_of (s.cell p)) (law.cells.cell_read p).0 refl)

pub refuses_free : (s : State) → Settled s → (p from count : ℕ) → s.used p ≡ false → access_refusal (objects_of s) p from count ≡ Some NotHeld
refuses_free s settled p from count free = ap (λ b. if b then (if nat_lt 0 count && nat_le (from + count) (len_in (objects_of s) p) then None else Some Range) else Some NotHeld) (ap is_some (unused_none s p settled free))

module _ (s : State) (law : Law s) (p from count n : ℕ) (used : s.used p ≡ true) (long : n ≡ len_in (objects_of s) p) where
  refusal_is : access_refusal (objects_of s) p from count ≡ (if nat_lt 0 count && nat_le (from + count) n then None else Some Range)
  refusal_is =
      let x = used_some s p law used in
      ap (λ b. if b then (if nat_lt 0 count && nat_le (from + count) (len_in (objects_of s) p) then None else Some Range) else Some NotHeld) (ap is_some x.1)
      ∙ ap (λ k. if nat_lt 0 count && nat_le (from + count) k then None else Some Range) (sym long)

  pub refuses_range : (nat_lt 0 count && nat_le (from + count) n) ≡ false → access_refusal (objects_of s) p from count ≡ Some Range
  refuses_range e = refusal_is ∙ ap (λ b. if b then None else Some Range) e

-- ---- what a refusal leaves
pub kept_on : (r : Result (Unit {0}) Refused) (x y z : List ℕ) → y ≡ z → OnErr r (x ≡ y) → OnErr r (x ≡ z)
kept_on (Ok done) x y z same kept = tt
kept_on (Err why) x y z same kept = kept ∙ same
