-- Where the words of an object lie that is held, and the state after a call.
use Rattle.std.proofs.Common.{◌≡◌, ℕ, ◌+◌, ◌-◌, ◌*◌, ◌^◌, ◌/◌, ◌<◌, ◌≤◌, Bool, Option, None, Some, cond, ap, arith, refl, false, true}
use Rattle.std.proofs.lemmas.Bool.Decides.{nat_tests}
use Rattle.std.specs.Prelude.{is_some, IsSome, ◌==◌, ◌||◌}
use Rattle.far_word.specs.declared.mark.Marks.{Marks}
use Rattle.far_word.specs.declared.pointer.PtrWord.{PtrWord}
use Rattle.far_word.specs.declared.sizes.TheConstants.{CELLS, LOG_WORDS, MOST_LOGS}
use Rattle.far_word.specs.Pointer.{IsPtr, read_of}
use Rattle.far_word.specs.Sizes.{words_for}
use Rattle.far_word.proofs.PointerLaws.{read_says}
use Rattle.far_word.specs.declared.pointer.Place.{Place}
use Rattle.far_word.specs.declared.pointer.PtrWord.TheVariants.{Far, Free, Near}
use Rattle.far_events.specs.declared.event.Event.{Event}
use Rattle.far_events.specs.events.Next.{next_state}
use Rattle.far_events.specs.events.Pin.{place_to_view}
use Rattle.far_events.specs.events.Step.{after, data_len, data_word, holds, near_data, near_len}
use Rattle.far_events.specs.state.Law.{Law}
use Rattle.far_events.specs.state.State.{State, addr}
use Rattle.far_events.proofs.Cells.{held_near, in_use_nonzero}
use Rattle.far_events.proofs.Bounds.{in_memory}

pub next_is_after : (s : State) (e : Event) → next_state s e ≡ after s e
unfolding next_state
next_is_after s e = refl

-- a data word of an object that is held stands behind its place's header, and is a word of the heap
pub word_behind : (s : State) → Law s → (p i : ℕ) (place : Place) → s.held p ≡ Some place → data_word s p i ≡ addr place + 1 + i
word_behind s law p i place held = ap (λ o. near_data o + i) (held_near _ place (law.views.held_names p place held)).near

pub behind_header : (s : State) → Law s → (p : ℕ) (place : Place) → s.held p ≡ Some place → near_data (read_of (s.cell p)) ≡ addr place + 1
behind_header s law p place held = ap near_data (held_near _ place (law.views.held_names p place held)).near

pub word_inside : (s : State) → Law s → (p i : ℕ) (place : Place) → s.held p ≡ Some place → i < words_for (data_len s p) → addr place + 1 + i < LOG_WORDS * s.logs
word_inside s law p i place held inside =
    let some : is_some (s.held p) ≡ true = ap is_some held in
    let own : (p / CELLS == p / CELLS) ≡ true = grind (arith, nat_tests) in
    let holds_it : holds s (p / CELLS) p ≡ true = rw (own, some) refl in
    omega (arith, word_behind s law p i place held, in_memory s law (p / CELLS) p i holds_it inside)

-- all its data words are words of the heap
pub data_inside : (s : State) → Law s → (p : ℕ) (place : Place) → s.held p ≡ Some place → addr place + 1 + words_for (data_len s p) ≤ LOG_WORDS * s.logs
data_inside s law p place held =
    let near = held_near _ place (law.views.held_names p place held) in
    let len : data_len s p ≡ near.len = ap near_len near.near in
    let says = read_says (s.cell p) (Near near.len near.ds place near.marks) (law.cells.cell_read p).0 near.near in
    omega (arith, word_inside s law p (words_for (data_len s p) - 1) place held (omega (arith, says.0, len)))

-- where a view of a word may rest is a word of a log
rests_near : (w len ds : ℕ) (m : Marks) (at place : Place) → IsPtr (Near len ds at m) → (b : Bool) → cond b None (Some at) ≡ Some place → (place.log < MOST_LOGS) × (place.at < LOG_WORDS)
rests_near w len ds m at place ptr true is = absurd cc
rests_near w len ds m at place ptr false is =
    let same : at ≡ place = cc in
    (omega (arith, ptr, ap (λ (x : Place). x.log) same), omega (arith, ptr, ap (λ (x : Place). x.at) same))

rests_by : (w : ℕ) → w < 2 ^ 64 → (place : Place) (o : Option PtrWord) → read_of w ≡ o → place_to_view o ≡ Some place → (place.log < MOST_LOGS) × (place.at < LOG_WORDS)
rests_by w fits place None e is = absurd cc
rests_by w fits place (Some Free) e is = absurd cc
rests_by w fits place (Some (Near len ds at m)) e is = rests_near w len ds m at place (read_says w (Near len ds at m) fits e).0 (m.evac || m.moved || m.dropped) is
rests_by w fits place (Some (Far len ds m)) e is = absurd cc

pub rests_inside : (w : ℕ) → w < 2 ^ 64 → (place : Place) → place_to_view (read_of w) ≡ Some place → (place.log < MOST_LOGS) × (place.at < LOG_WORDS)
rests_inside w fits place is = rests_by w fits place (read_of w) refl is

-- what is soiled is held
pub soiled_held : (s : State) → Law s → (p : ℕ) → s.soiled p ≡ true → IsSome (s.held p)
soiled_held s law p h = law.soils.soiled_held p h

-- what is held is one of the heap's pointers
pub held_range : (s : State) → Law s → (p : ℕ) → IsSome (s.held p) → p < CELLS * s.mutators
held_range s law p h = law.cells.cell_range p (in_use_nonzero (s.cell p) (law.views.used_cell p (law.views.held_used p h)))
