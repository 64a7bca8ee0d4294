-- The form of an old and a new word is the one that they say.
use Rattle.std.proofs.Common.{◌≡◌, ℕ, Bool, true, false, cond, arith, inl, inr, refl, ap, subst, ◌∙◌, Option, Some, None}
use Rattle.std.specs.Prelude.{◌⊎◌, IfSome, ◌&&◌, not}
use Rattle.std.proofs.lemmas.Bool.{eq-eqb, false≢true}
use Rattle.std.proofs.lemmas.Bool.Decides.{nat_tests}
use Rattle.far_word.specs.declared.mark.Marks.{Marks}
use Rattle.far_word.specs.declared.pointer.Place.{Place}
use Rattle.far_word.specs.declared.pointer.PtrWord.{PtrWord}
use Rattle.far_word.specs.declared.pointer.PtrWord.TheVariants.{Free, Near, Far}
use Rattle.far_events.specs.declared.naming.Naming.{Naming}
use Rattle.far_events.specs.declared.naming.Naming.TheVariants.{Places, Retires, Evicts, Stays, Moves, Fetches}
use Rattle.far_events.specs.events.Naming.{naming_of, near_form, IsNaming, unmarked, is_dropped, is_unmarked, is_kept, is_stay}

at_test : (b : Bool) (f g : Naming) → cond b (Some f) None ≡ Some g → (b ≡ true) × (f ≡ g)
at_test true f g e = (refl, cc)
at_test false f g e = absurd cc

dirt_is : (dirty d : Bool) → cond dirty d (not d) ≡ true → d ≡ dirty
dirt_is true d h = h
dirt_is false true h = absurd (false≢true h)
dirt_is false false h = refl

dirt_test : (dirty : Bool) → cond dirty dirty (not dirty) ≡ true
dirt_test true = refl
dirt_test false = refl

unmarked_is : (dirty : Bool) (m : Marks) → is_unmarked dirty m ≡ true → m ≡ unmarked dirty
unmarked_is dirty m h =
    let a : m.hot ≡ false = grind (arith, nat_tests) in
    let b : m.evac ≡ false = grind (arith, nat_tests) in
    let c : m.moved ≡ false = grind (arith, nat_tests) in
    let d : m.dropped ≡ false = grind (arith, nat_tests) in
    let e : m.dirty ≡ dirty = dirt_is dirty m.dirty (grind (arith, nat_tests)) in
    λ i. record { hot = a i; evac = b i; moved = c i; dropped = d i; dirty = e i }

-- what two words of one object say
record Kept (dirty : Bool) (m k : Marks) (len n ds d : ℕ) : Type 0 where
  pub long : n ≡ len
  pub structure : d ≡ ds
  pub kept : m.dropped ≡ false
  pub plain : k ≡ unmarked dirty

kept_is : (dirty : Bool) (m k : Marks) (len n ds d : ℕ) → is_kept dirty m k len n ds d ≡ true → Kept dirty m k len n ds d
kept_is dirty m k len n ds d h =
    record { long = grind (arith, nat_tests); structure = grind (arith, nat_tests); kept = grind (arith, nat_tests); plain = unmarked_is dirty k (grind (arith, nat_tests)) }

kept_test : (dirty : Bool) (m : Marks) (len ds : ℕ) → m.dropped ≡ false → is_kept dirty m (unmarked dirty) len len ds ds ≡ true
kept_test dirty m len ds kept = rw (eq-eqb len len refl, eq-eqb ds ds refl, kept) (dirt_test dirty)

at_form : (b : Bool) (o : Option Naming) (g : Naming) → cond b o None ≡ Some g → (b ≡ true) × (o ≡ Some g)
at_form true o g e = (refl, e)
at_form false o g e = absurd cc

either_form : (b : Bool) (f g h : Naming) → cond b (Some f) (Some g) ≡ Some h → ((b ≡ true) × (f ≡ h)) ⊎ ((b ≡ false) × (g ≡ h))
either_form true f g h e = inl (refl, cc)
either_form false f g h e = inr (refl, cc)

-- what the test of staying says
record Staying (from to : Place) (m : Marks) : Type 0 where
  pub here : to ≡ from
  pub moved : m.moved ≡ true
  pub unwanted : m.evac ≡ false

same_place : (from to : Place) → to.log ≡ from.log → to.at ≡ from.at → to ≡ from
same_place from to a b = λ i. record { log = a i; at = b i }

stay_is : (from to : Place) (m : Marks) → is_stay from to m ≡ true → Staying from to m
stay_is from to m h = record { here = same_place from to (grind (arith, nat_tests)) (grind (arith, nat_tests)); moved = grind (arith, nat_tests); unwanted = grind (arith, nat_tests) }

stay_test : (place : Place) (m : Marks) → m.moved ≡ true → m.evac ≡ false → is_stay place place m ≡ true
stay_test place m moved out = rw (eq-eqb place.log place.log refl, eq-eqb place.at place.at refl, moved, out) refl

-- the new word of one object
same_object : (len n ds d : ℕ) (place : Place) (j k : Marks) → n ≡ len → d ≡ ds → k ≡ j → Some (Near n d place k) ≡ Some (Near len ds place j)
same_object len n ds d place j k a b c = ap (λ x. Some (Near x d place k)) a ∙ ap (λ x. Some (Near len x place k)) b ∙ ap (λ x. Some (Near len ds place x)) c

near_says : (len ds : ℕ) (place : Place) (m : Marks) (n d : ℕ) (at : Place) (k : Marks) (form : Naming) →
    naming_of (Some (Near len ds place m)) (Some (Near n d at k)) ≡ Some form → IsNaming form (Some (Near len ds place m)) (Some (Near n d at k))
near_says len ds place m n d at k form e =
    let x = at_form (is_kept m.dirty m k len n ds d) (near_form len ds place at m) form e in
    let is = kept_is m.dirty m k len n ds d x.0 in
    elim (either_form (is_stay place at m) Stays (Moves len ds place at) form x.1) [
      | inl y ↦ (let there = stay_is place at m y.0 in
          subst (λ f. IsNaming f (Some (Near len ds place m)) (Some (Near n d at k))) y.1
          (len, ds, place, m, refl, is.kept, there.moved, there.unwanted, λ i. Some (Near (is.long i) (is.structure i) (there.here i) (is.plain i))))
      | inr y ↦ subst (λ f. IsNaming f (Some (Near len ds place m)) (Some (Near n d at k))) y.1 ((m, refl, is.kept, y.0), same_object len n ds d at (unmarked m.dirty) k is.long is.structure is.plain)
    ]

evicts_says : (len ds : ℕ) (place : Place) (m : Marks) (n d : ℕ) (k : Marks) (form : Naming) →
    naming_of (Some (Near len ds place m)) (Some (Far n d k)) ≡ Some form → IsNaming form (Some (Near len ds place m)) (Some (Far n d k))
evicts_says len ds place m n d k form e =
    let x = at_test (is_kept false m k len n ds d && m.evac) (Evicts len place) form e in
    let is = kept_is false m k len n ds d (grind (arith, nat_tests)) in
    let wanted : m.evac ≡ true = grind (arith, nat_tests) in
    subst (λ f. IsNaming f (Some (Near len ds place m)) (Some (Far n d k))) x.1 (ds, m, refl, is.kept, wanted, λ i. Some (Far (is.long i) (is.structure i) (is.plain i)))

fetches_says : (len ds : ℕ) (m : Marks) (n d : ℕ) (at : Place) (k : Marks) (form : Naming) →
    naming_of (Some (Far len ds m)) (Some (Near n d at k)) ≡ Some form → IsNaming form (Some (Far len ds m)) (Some (Near n d at k))
fetches_says len ds m n d at k form e =
    let x = at_test (is_kept false m k len n ds d) (Fetches len ds at) form e in
    let is = kept_is false m k len n ds d x.0 in
    subst (λ f. IsNaming f (Some (Far len ds m)) (Some (Near n d at k))) x.1 ((m, refl, is.kept), same_object len n ds d at (unmarked false) k is.long is.structure is.plain)

pub naming_says : (a b : Option PtrWord) (form : Naming) → naming_of a b ≡ Some form → IsNaming form a b
naming_says None b form e = absurd cc
naming_says (Some (Near len ds place m)) None form e = absurd cc
naming_says (Some (Near len ds place m)) (Some (Near n d at k)) form e = near_says len ds place m n d at k form e
naming_says (Some (Near len ds place m)) (Some (Far n d k)) form e = evicts_says len ds place m n d k form e
naming_says (Some (Near len ds place m)) (Some Free) form e =
    let x = at_test m.dropped Retires form e in
    subst (λ f. IsNaming f (Some (Near len ds place m)) (Some Free)) x.1 (x.0, refl)
naming_says (Some (Far len ds m)) None form e = absurd cc
naming_says (Some (Far len ds m)) (Some (Near n d at k)) form e = fetches_says len ds m n d at k form e
naming_says (Some (Far len ds m)) (Some (Far n d k)) form e = absurd cc
naming_says (Some (Far len ds m)) (Some Free) form e =
    let x = at_test m.dropped Retires form e in
    subst (λ f. IsNaming f (Some (Far len ds m)) (Some Free)) x.1 (x.0, refl)
naming_says (Some Free) None form e = absurd cc
naming_says (Some Free) (Some Free) form e = absurd cc
naming_says (Some Free) (Some (Far len ds m)) form e = absurd cc
naming_says (Some Free) (Some (Near len ds place m)) form e =
    let x = at_test (is_unmarked true m) (Places len ds place) form e in
    subst (λ f. IsNaming f (Some Free) (Some (Near len ds place m))) x.1 (refl, ap (λ k. Some (Near len ds place k)) (unmarked_is true m x.0))

retires_only : (a : Option PtrWord) → is_dropped a ≡ true → naming_of a (Some Free) ≡ Some Retires
retires_only None d = absurd (false≢true d)
retires_only (Some Free) d = absurd (false≢true d)
retires_only (Some (Near len ds place m)) d = rw d refl
retires_only (Some (Far len ds m)) d = rw d refl

pub naming_only : (form : Naming) (a b : Option PtrWord) → IsNaming form a b → naming_of a b ≡ Some form
naming_only (Places len ds place) a b (free, near) = rw (free, near) refl
naming_only Retires a b (dropped, free) = rw free (retires_only a dropped)
naming_only (Evicts len place) a b (ds, m, near, kept, wanted, far) =
    rw (near, far) (ap (λ t. cond (t && m.evac) (Some (Evicts len place)) None) (kept_test false m len ds kept) ∙ ap (λ t. cond t (Some (Evicts len place)) None) wanted)
naming_only Stays a b (len, ds, place, m, near, kept, moved, out, new) =
    rw (near, new) (ap (λ t. cond t (near_form len ds place place m) None) (kept_test m.dirty m len ds kept) ∙ ap (λ t. cond t (Some Stays) (Some (Moves len ds place place))) (stay_test place m moved out))
naming_only (Moves len ds from to) a b ((m, near, kept, moved), new) = rw (near, new) (ap (λ t. cond t (near_form len ds from to m) None) (kept_test m.dirty m len ds kept) ∙ ap (λ t. cond t (Some Stays) (Some (Moves len ds from to))) moved)
naming_only (Fetches len ds place) a b ((m, far, kept), new) = rw (far, new) (ap (λ t. cond t (Some (Fetches len ds place)) None) (kept_test false m len ds kept))

-- the same where there may be no form
pub naming_found : (a b : Option PtrWord) → IfSome (naming_of a b) (λ form. IsNaming form a b)
naming_found a b = at (naming_of a b) refl where
  at : (o : Option Naming) → naming_of a b ≡ o → IfSome o (λ form. IsNaming form a b)
  at None e = tt
  at (Some form) e = naming_says a b form e
