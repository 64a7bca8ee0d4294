-- The effect of an eviction is reached by one legal event, and is one step of the world.
use Rattle.std.proofs.Common.{◌≡◌, ℕ, ◌+◌, ◌^◌, ◌<◌, cond, sym, refl, ap, subst, ◌∙◌, Some}
use Rattle.std.proofs.lemmas.Bool.{lt-ltb}
use Rattle.far_word.specs.declared.pointer.Place.{Place}
use Rattle.far_word.specs.declared.pointer.PtrWord.TheVariants.{Near, Far}
use Rattle.far_word.specs.Pointer.{IsPtr, read_of}
use Rattle.far_word.specs.Sizes.{words_for}
use Rattle.far_word.proofs.PointerLaws.{read_says, word_fits}
use Rattle.far_events.specs.declared.naming.Naming.TheVariants as naming
use Rattle.far_events.specs.events.Naming.{naming_of, no_marks, is_dropped}
use Rattle.far_events.specs.state.Law.{Law}
use Rattle.far_events.specs.state.State.{State, addr}
use Rattle.far_events.specs.events.Changes.{GoesFar}
use Rattle.far_core.specs.world.Changes.{Step}
use Rattle.far_core.specs.world.WorldOf.{world_of}
use Rattle.far_events.proofs.Put.{put_other, put_same}
use Rattle.far_book.specs.book.Effects.{evicted_of, far_word}
use Rattle.far_book.specs.book.Evicting.{IsQuietIn}
use Rattle.far_book.specs.book.Laws.{EvictingIsLegal, IsEvicted}
use Rattle.far_book.specs.book.Reached.{Reached}
use Rattle.far_book.proofs.region.Evictions.{evicted_is, evicts_form, far_says, may_name_far, sent}
use Rattle.far_book.proofs.region.Reaching.{named}

is_evicted : (s : State) (p len ds : ℕ) (place : Place) → IsPtr (Far len ds no_marks) → IsEvicted s (sent s p len ds place) p len ds place
is_evicted s p len ds place layout = record {
  cell = ap read_of (put_same s.cell p (far_word len ds) p refl) ∙ far_says len ds layout;
  cells = λ q ne. put_other s.cell p (far_word len ds) q ne;
  stored = λ i lt. ap (λ (r : ℕ → ℕ). r i) (put_same s.stored p _ p refl) ∙ ap (λ b. cond b (s.word (addr place + 1 + i)) (s.stored p i)) (lt-ltb i (words_for len) lt);
  others = λ q ne. put_other s.stored p _ q ne;
  words = λ a. refl;
  tails = λ l. refl;
  kinds = λ l. refl;
}

pub evicting : EvictingIsLegal
evicting s p len ds place m law pointer near quiet evac alive =
    let h : IsQuietIn s p len ds place = record { marks = m; near = near; quiet = quiet } in
    let says = (read_says (s.cell p) (Near len ds place m) (law.cells.cell_read p).0 near).0 in
    let layout : IsPtr (Far len ds no_marks) = (says.0, says.1, says.2, refl, refl) in
    let legal = may_name_far s p len ds place h evac layout (ap is_dropped near ∙ alive) pointer in
    let fits : (s.cell p < 2 ^ 64) × (far_word len ds < 2 ^ 64) = ((law.cells.cell_read p).0, word_fits (Far len ds no_marks) layout) in
    let form : naming_of (read_of (s.cell p)) (read_of (far_word len ds)) ≡ Some (naming.Evicts len place) = rw (near, far_says len ds layout) (evicts_form len ds place m alive evac) in
    let all = named s law p (s.cell p) (far_word len ds) (naming.Evicts len place) refl form fits legal in
    let is = sym (ap (evicted_of s p) near) in (
      subst (Reached s) is all.0,
      subst Law is all.1,
      subst (λ (t : State). Step (GoesFar p) (world_of s) (world_of t)) is all.2,
      subst (λ (t : State). IsEvicted s t p len ds place) (sym (evicted_is s p len ds place layout m near alive evac)) (is_evicted s p len ds place layout),
    )
