-- What a cell says, what its marks leave as it is, and what a header says.
use Rattle.std.proofs.Common.{◌≡◌, ◌≢◌, ℕ, ◌<◌, ◌^◌, Bool, true, false, cond, arith, sym, refl, ap, ◌∙◌, Option, Some, None, bit_or}
use Rattle.std.specs.Prelude.{IsSome, not, ◌||◌}
use Rattle.std.proofs.lemmas.Bool.{false≢true}
use Rattle.std.proofs.lemmas.Bool.Decides.{nat_tests}
use Rattle.far_word.specs.declared.mark.Mark.{Mark}
use Rattle.far_word.specs.declared.mark.Mark.TheVariants.{Hot, Evac, Moved, Dropped, Dirty}
use Rattle.far_word.specs.declared.mark.Marks.{Marks}
use Rattle.far_word.specs.declared.pointer.Place.{Place}
use Rattle.far_word.specs.declared.pointer.PtrWord.{PtrWord}
use Rattle.far_word.specs.declared.pointer.PtrWord.TheVariants.{Free, Near, Far}
use Rattle.far_word.specs.Header.{head_word}
use Rattle.far_word.specs.Mark.{position, marks_with}
use Rattle.far_word.specs.Pointer.{read_of, takes_mark, with_mark}
use Rattle.far_word.proofs.PointerLaws.{with_mark_read, with_mark_fits}
use Rattle.far_events.specs.state.Law.{HasEvac, Heads, held_place, in_use, is_dirty}
use Rattle.far_events.specs.state.Spans.{names_place}
use Rattle.far_events.specs.state.State.{addr}
use Rattle.far_events.specs.events.Step.{place_to_view}
pub use Rattle.far_events.specs.events.Naming.{is_dropped}

pub unused : read_of 0 ≡ Some Free
unfolding read_of
unused = refl

-- ---- a cell with one mark more
abbrev pub map_mark : Mark → Option PtrWord → Option PtrWord
map_mark k None = None
map_mark k (Some v) = Some (with_mark k v)

takes_hot : (v : PtrWord) → in_use (Some v) ≡ true → takes_mark Hot v ≡ true
takes_hot Free u = absurd (false≢true u)
takes_hot (Near len ds place m) u = refl
takes_hot (Far len ds m) u = refl

at_hot : (w : ℕ) (o : Option PtrWord) → w < 2 ^ 64 → read_of w ≡ o → in_use o ≡ true →
    (read_of (bit_or w (2 ^ position Hot)) ≡ map_mark Hot o) × (bit_or w (2 ^ position Hot) < 2 ^ 64)
at_hot w None fits e u = absurd (false≢true u)
at_hot w (Some v) fits e u = (with_mark_read Hot w v fits e (takes_hot v u), with_mark_fits Hot w v fits e (takes_hot v u))

pub read_hot : (w : ℕ) → w < 2 ^ 64 → in_use (read_of w) ≡ true →
    (read_of (bit_or w (2 ^ position Hot)) ≡ map_mark Hot (read_of w)) × (bit_or w (2 ^ position Hot) < 2 ^ 64)
read_hot w fits u = at_hot w (read_of w) fits refl u

-- ---- what a cell says but for its marks
pub data Body : Type 0 where
  NoBody : Body
  FreeBody : Body
  NearBody : ℕ → ℕ → Place → Body
  FarBody : ℕ → ℕ → Body

abbrev pub body : Option PtrWord → Body
body None = NoBody
body (Some Free) = FreeBody
body (Some (Near len ds place m)) = NearBody len ds place
body (Some (Far len ds m)) = FarBody len ds

-- a cell with other marks: DROP and DIRTY may come, and don't go
pub record Remarked (o n : Option PtrWord) : Type 0 where
  pub same : body n ≡ body o
  pub kept : is_dropped n ≡ false → is_dropped o ≡ false
  pub clean : is_dirty n ≡ false → is_dirty o ≡ false

pub near_of : (o : Option PtrWord) (len ds : ℕ) (place : Place) → body o ≡ NearBody len ds place → (m : Marks) × (o ≡ Some (Near len ds place m))
near_of None len ds place e = absurd cc
near_of (Some Free) len ds place e = absurd cc
near_of (Some (Near n d at m)) len ds place e = (m, cc)
near_of (Some (Far n d m)) len ds place e = absurd cc

pub far_of : (o : Option PtrWord) (len ds : ℕ) → body o ≡ FarBody len ds → (m : Marks) × (o ≡ Some (Far len ds m))
far_of None len ds e = absurd cc
far_of (Some Free) len ds e = absurd cc
far_of (Some (Near n d at m)) len ds e = absurd cc
far_of (Some (Far n d m)) len ds e = (m, cc)

abbrev no_pointer : Option PtrWord
no_pointer = None

none_body : (o : Option PtrWord) → NoBody ≡ body o → IsSome o → IsSome no_pointer
none_body None e h = h
none_body (Some Free) e h = absurd cc
none_body (Some (Near len ds place m)) e h = absurd cc
none_body (Some (Far len ds m)) e h = absurd cc

pub is_some-remarked : (o n : Option PtrWord) → Remarked o n → IsSome o → IsSome n
is_some-remarked o None r h = none_body o r.same h
is_some-remarked o (Some v) r h = refl

with_kept : (k : Mark) (m : Marks) → (marks_with k m).dropped ≡ false → m.dropped ≡ false
with_kept Hot m e = e
with_kept Evac m e = e
with_kept Moved m e = e
with_kept Dropped m e = absurd (false≢true (sym e))
with_kept Dirty m e = e

with_clean : (k : Mark) (m : Marks) → (marks_with k m).dirty ≡ false → m.dirty ≡ false
with_clean Hot m e = e
with_clean Evac m e = e
with_clean Moved m e = e
with_clean Dropped m e = e
with_clean Dirty m e = absurd (false≢true (sym e))

-- a mark more
pub Remarked-map_mark : (k : Mark) (o : Option PtrWord) → Remarked o (map_mark k o)
Remarked-map_mark k None = record { same = refl; kept = λ e. e; clean = λ e. e }
Remarked-map_mark k (Some Free) = record { same = refl; kept = λ e. e; clean = λ e. e }
Remarked-map_mark k (Some (Near len ds place m)) = record { same = refl; kept = with_kept k m; clean = with_clean k m }
Remarked-map_mark k (Some (Far len ds m)) = record { same = refl; kept = with_kept k m; clean = λ e. e }

evac_stays : (k : Mark) (m : Marks) → m.evac ≡ true → (marks_with k m).evac ≡ true
evac_stays Hot m e = e
evac_stays Evac m e = refl
evac_stays Moved m e = e
evac_stays Dropped m e = e
evac_stays Dirty m e = e

-- EVAC stays with a mark more
pub HasEvac-mark : (k : Mark) (logs : ℕ → Bool) (o : Option PtrWord) → HasEvac logs o → HasEvac logs (map_mark k o)
HasEvac-mark k logs None h len ds place m e inside = absurd cc
HasEvac-mark k logs (Some Free) h len ds place m e inside = absurd cc
HasEvac-mark k logs (Some (Near n d at q)) h len ds place m e inside =
    let both : Some (Near n d at (marks_with k q)) ≡ Some (Near len ds place m) = e in
    let there : at ≡ place = cc in
    let marks : marks_with k q ≡ m = cc in
    sym (ap (λ (x : Marks). x.evac) marks) ∙ evac_stays k q (h n d at q refl (ap (λ (x : Place). logs x.log) there ∙ inside))
HasEvac-mark k logs (Some (Far n d q)) h len ds place m e inside = absurd cc

-- ---- what a mark leaves as it is
pub same_dropped : (k : Mark) (m : Marks) → k ≢ Dropped → (marks_with k m).dropped ≡ m.dropped
same_dropped Hot m ne = refl
same_dropped Evac m ne = refl
same_dropped Moved m ne = refl
same_dropped Dropped m ne = absurd (ne refl)
same_dropped Dirty m ne = refl

same_moved : (k : Mark) (m : Marks) → k ≢ Moved → (marks_with k m).moved ≡ m.moved
same_moved Hot m ne = refl
same_moved Evac m ne = refl
same_moved Moved m ne = absurd (ne refl)
same_moved Dropped m ne = refl
same_moved Dirty m ne = refl

pub held_place-mark : (k : Mark) (o : Option PtrWord) → k ≢ Moved → k ≢ Dropped → held_place (map_mark k o) ≡ held_place o
held_place-mark k None a b = refl
held_place-mark k (Some Free) a b = refl
held_place-mark k (Some (Near len ds place m)) a b = ap (λ x. cond (x || (marks_with k m).dropped) None (Some place)) (same_moved k m a) ∙ ap (λ x. cond (m.moved || x) None (Some place)) (same_dropped k m b)
held_place-mark k (Some (Far len ds m)) a b = refl

pub in_use-mark : (k : Mark) (o : Option PtrWord) → k ≢ Dropped → in_use (map_mark k o) ≡ in_use o
in_use-mark k None ne = refl
in_use-mark k (Some Free) ne = refl
in_use-mark k (Some (Near len ds place m)) ne = ap not (same_dropped k m ne)
in_use-mark k (Some (Far len ds m)) ne = ap not (same_dropped k m ne)

-- two spans of one pointer, length, data structure and place are one
pub Heads-same : (word : ℕ → ℕ) (starts : ℕ → Bool) (p len ds n d : ℕ) (place other : Place) → len ≡ n → ds ≡ d → place ≡ other →
    Heads word starts p len ds place → Heads word starts p n d other
Heads-same word starts p len ds n d place other a b c h = record {
  placed = ap (λ x. starts (addr x)) (sym c) ∙ h.placed;
  head = ap (λ x. word (addr x)) (sym c) ∙ h.head ∙ ap (λ x. head_word p x ds) a ∙ ap (λ x. head_word p n x) b;
}

-- ---- what a look-up implies
pub held_place-place_to_view : (o : Option PtrWord) (place : Place) → place_to_view o ≡ Some place → held_place o ≡ Some place
held_place-place_to_view None place e = e
held_place-place_to_view (Some Free) place e = e
held_place-place_to_view (Some (Near len ds at m)) place e = grind (arith, nat_tests)
held_place-place_to_view (Some (Far len ds m)) place e = e

-- what is held is near, with neither MOVE nor DROP
pub record IsHeld (o : Option PtrWord) (place : Place) : Type 0 where
  pub len : ℕ
  pub ds : ℕ
  pub marks : Marks
  pub near : o ≡ Some (Near len ds place marks)
  pub unmoved : marks.moved ≡ false
  pub kept : marks.dropped ≡ false

pub held_near : (o : Option PtrWord) (place : Place) → held_place o ≡ Some place → IsHeld o place
held_near None place e = absurd cc
held_near (Some Free) place e = absurd cc
held_near (Some (Near len ds at m)) place e =
    record { len = len; ds = ds; marks = m; near = (let same : at ≡ place = grind (arith, nat_tests) in ap (λ x. Some (Near len ds x m)) same); unmoved = grind (arith, nat_tests); kept = grind (arith, nat_tests) }
held_near (Some (Far len ds m)) place e = absurd cc

-- what a live span says: its pointer's cell names it
pub live_names : (o : Option PtrWord) (l at : ℕ) → names_place o l at ≡ true → (len ds : ℕ) × (place : Place) × (m : Marks) × (o ≡ Some (Near len ds place m)) × (place.log ≡ l) × (place.at ≡ at)
live_names None l at h = absurd (false≢true h)
live_names (Some Free) l at h = absurd (false≢true h)
live_names (Some (Near len ds place m)) l at h = (len, ds, place, m, refl, grind (arith, nat_tests), grind (arith, nat_tests))
live_names (Some (Far len ds m)) l at h = absurd (false≢true h)

-- a cell in use isn't 0
pub in_use_nonzero : (w : ℕ) → in_use (read_of w) ≡ true → w ≢ 0
in_use_nonzero w u z = false≢true (sym (ap in_use (ap read_of z ∙ unused)) ∙ u)
