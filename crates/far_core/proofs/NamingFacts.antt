-- What a naming's new word has of the old one, by the bits of both.
use Rattle.std.proofs.Common.{◌≡◌, ℕ, ◌^◌, ◌<◌, Bool, true, false, arith, sym, refl, ap, ◌∙◌, Option, Some, None, inl, inr}
use Rattle.std.proofs.lemmas.Bool.{false≢true}
use Rattle.std.specs.Prelude.{not}
use Rattle.far_word.specs.declared.mark.Marks.{Marks}
use Rattle.far_word.specs.declared.pointer.Place.{Place}
use Rattle.far_word.specs.declared.pointer.PtrWord.{PtrWord}
use Rattle.far_word.specs.declared.pointer.PtrWord.TheVariants.{Free, Near, Far}
use Rattle.far_word.specs.Mark.{field, bit_of, marks_number}
use Rattle.far_word.specs.Pointer.{read_of}
use Rattle.far_word.proofs.PointerLaws.{far_fields, marks_small, near_fields, read_says}
use Rattle.far_events.specs.declared.naming.Naming.{Naming}
use Rattle.far_events.specs.declared.naming.Naming.TheVariants.{Places, Retires, Evicts, Stays, Moves, Fetches}
use Rattle.far_events.specs.events.Naming.{IsNaming, is_dropped, no_marks, unmarked}
use Rattle.far_core.specs.laws.Namings.{IsPlain, NamingsArePlain}
use Rattle.far_events.specs.state.Law.{in_use}

bit_small : (b : Bool) → bit_of b < 2
bit_small true = omega arith
bit_small false = omega arith

-- the bits of a word, by what it says
near_bits : (w len ds : ℕ) (place : Place) (m : Marks) → w < 2 ^ 64 → read_of w ≡ Some (Near len ds place m) →
    (field w 0 16 ≡ len) × (field w 16 8 ≡ ds) × (field w 59 4 ≡ marks_number m) × (field w 59 1 ≡ bit_of m.dropped)
near_bits w len ds place m fits e =
    let x = read_says w (Near len ds place m) fits e in
    let f = near_fields len ds place.at place.log m (omega (arith, x.0)) (omega (arith, x.0)) (omega (arith, x.0)) (omega (arith, x.0)) w (sym x.1) in
    let all : marks_number m < 2 ^ 4 = marks_small m in
    let a : bit_of m.dropped < 2 = bit_small m.dropped in
    let b : bit_of m.moved < 2 = bit_small m.moved in
    let c : bit_of m.evac < 2 = bit_small m.evac in
    let d : bit_of m.hot < 2 = bit_small m.hot in
    let g : bit_of m.dirty < 2 = bit_small m.dirty in
    (f.0, f.1, omega (arith, x.0, x.1), omega (arith, x.0, x.1))

far_bits : (w len ds : ℕ) (m : Marks) → w < 2 ^ 64 → read_of w ≡ Some (Far len ds m) →
    (field w 0 16 ≡ len) × (field w 16 8 ≡ ds) × (field w 59 4 ≡ marks_number m) × (field w 59 1 ≡ bit_of m.dropped)
far_bits w len ds m fits e =
    let x = read_says w (Far len ds m) fits e in
    let f = far_fields len ds m (omega (arith, x.0)) (omega (arith, x.0)) w (sym x.1) in
    let all : marks_number m < 2 ^ 4 = marks_small m in
    let a : bit_of m.dropped < 2 = bit_small m.dropped in
    let b : bit_of m.moved < 2 = bit_small m.moved in
    let c : bit_of m.evac < 2 = bit_small m.evac in
    let d : bit_of m.hot < 2 = bit_small m.hot in
    (f.0, f.1, omega (arith, x.0, x.1), omega (arith, x.0, x.1))

pub drop_bit : (w : ℕ) → w < 2 ^ 64 → (o : Option PtrWord) → read_of w ≡ o → is_dropped o ≡ true → field w 59 1 ≡ 1
drop_bit w fits None e h = absurd (false≢true h)
drop_bit w fits (Some Free) e h = absurd (false≢true h)
drop_bit w fits (Some (Near len ds place m)) e h = (near_bits w len ds place m fits e).3 ∙ ap bit_of h
drop_bit w fits (Some (Far len ds m)) e h = (far_bits w len ds m fits e).3 ∙ ap bit_of h

not_is : (b : Bool) → not b ≡ true → b ≡ false
not_is true h = absurd (false≢true h)
not_is false h = refl

-- a word in use has no DROP
pub use_bit : (w : ℕ) → w < 2 ^ 64 → (o : Option PtrWord) → read_of w ≡ o → in_use o ≡ true → field w 59 1 ≡ 0
use_bit w fits None e h = absurd (false≢true h)
use_bit w fits (Some Free) e h = absurd (false≢true h)
use_bit w fits (Some (Near len ds place m)) e h = (near_bits w len ds place m fits e).3 ∙ ap bit_of (not_is m.dropped h)
use_bit w fits (Some (Far len ds m)) e h = (far_bits w len ds m fits e).3 ∙ ap bit_of (not_is m.dropped h)

free_word : (w : ℕ) → w < 2 ^ 64 → read_of w ≡ Some Free → w ≡ 0
free_word w fits e = sym (read_says w Free fits e).1

plain : (form : Naming) (old new : ℕ) → old < 2 ^ 64 → new < 2 ^ 64 → IsNaming form (read_of old) (read_of new) → IsPlain old new
plain (Places len ds place) old new a b h =
    let none : old ≡ 0 = free_word old a h.0 in
    inr (ap (λ w. field w 59 1) none, (near_bits new len ds place (unmarked true) b h.1).2, inl none)
plain Retires old new a b h = inl (free_word new b h.1, drop_bit old a (read_of old) refl h.0)
plain (Evicts len place) old new a b (ds, m, was, alive, evac, is) =
    let x = near_bits old len ds place m a was in
    let y = far_bits new len ds no_marks b is in
    inr (x.3 ∙ ap bit_of alive, y.2, inr (y.0 ∙ sym x.0, y.1 ∙ sym x.1))
plain Stays old new a b (len, ds, place, m, was, alive, moved, evac, is) =
    let x = near_bits old len ds place m a was in
    let y = near_bits new len ds place (unmarked m.dirty) b is in
    inr (x.3 ∙ ap bit_of alive, y.2, inr (y.0 ∙ sym x.0, y.1 ∙ sym x.1))
plain (Moves len ds from to) old new a b ((m, was, alive, other), is) =
    let x = near_bits old len ds from m a was in
    let y = near_bits new len ds to (unmarked m.dirty) b is in
    inr (x.3 ∙ ap bit_of alive, y.2, inr (y.0 ∙ sym x.0, y.1 ∙ sym x.1))
plain (Fetches len ds place) old new a b ((m, was, alive), is) =
    let x = far_bits old len ds m a was in
    let y = near_bits new len ds place no_marks b is in
    inr (x.3 ∙ ap bit_of alive, y.2, inr (y.0 ∙ sym x.0, y.1 ∙ sym x.1))

pub namings_are_plain : NamingsArePlain
namings_are_plain s p old new a b legal = plain legal.1.0 old new a b legal.1.1
