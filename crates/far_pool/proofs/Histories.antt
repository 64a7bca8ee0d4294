-- What a worker's calls say of its objects' bytes.
use Rattle.std.proofs.Common.{◌≡◌, ◌≢◌, ◌⊎◌, ℕ, ◌+◌, ◌-◌, ◌<◌, ◌≤◌, Bool, true, false, Option, Some, None, List, [], ◌∷◌, ◌++◌, length, refl, sym, ap, subst, ◌∙◌, inl, inr, arith}
use Rattle.std.specs.Prelude.{slice_index}
use Rattle.std.specs.Option.{option_map}
use Rattle.far_private.specs.Heap.{object_with}
use Rattle.far_alone.specs.Objects.{with_range}
use Rattle.std.proofs.lemmas.Bool.{false≢true}
use Rattle.far_private.specs.Objects.{Object, bytes_of, len_of, rewritten}
use Rattle.far_alone.proofs.Spliced.{length-with_range, with_range_after, with_range_before, with_range_inside}
use Rattle.far_pool.specs.declared.handle.Handle.{Handle}
use Rattle.far_pool.specs.History.{Call, Called, Calls, Drops, LeaveByte, LeavesByte, Makes, OthersStay, ReadsGiveLastWrites, SaysByte, Writes, handle_of}
use Rattle.far_pool.specs.Pool.{Changes, Pool, at}
use Rattle.far_pool.proofs.Shelves.{same_or_not}

-- ---- what is known of objects, where the far side is honest: all their bytes
abbrev IsKnown : Option Object → Type 0
IsKnown None = Unit {0}
IsKnown (Some x) = (bytes : List ℕ) × (x.bytes ≡ Some bytes) × (length bytes ≡ x.len)

record Well (w : Pool) : Type 0 where
  honest : w.honest ≡ true
  all : (g : Handle) → IsKnown (at w g)

well_with : (w v : Pool) (h : Handle) (o : Option Object) → Well w → Changes h o w v → IsKnown o → Well v
well_with w v h o well c is = record {
  honest = c.honest ∙ well.honest;
  all = λ g. elim (same_or_not g h) [
    | inl e ↦ subst (λ k. IsKnown (at v k)) (sym e) (subst IsKnown (sym c.here) is)
    | inr ne ↦ subst IsKnown (sym (c.others g ne)) (well.all g)
  ];
}

made_known : (h : Bool) (bytes : List ℕ) (ds : ℕ) → h ≡ true → IsKnown (Some (object_with h ds bytes))
made_known true bytes ds e = (bytes, refl, refl)
made_known false bytes ds e = absurd (false≢true e)

rewritten_known : (x : Option Object) (from : ℕ) (bytes : List ℕ) → IsKnown x → from + length bytes ≤ len_of x → IsKnown (option_map (rewritten from bytes) x)
rewritten_known None from bytes w fits = tt
rewritten_known (Some x) from bytes w fits = (with_range w.0 from bytes, ap (option_map (λ b. with_range b from bytes)) w.1, length-with_range w.0 from bytes (omega (arith, w.2)) ∙ w.2)

stays_well : (c : Call) (w v : Pool) → Calls c w v → Well w → Well v
stays_well (Makes h bytes ds) w v did well = well_with w v h (Some (object_with w.honest ds bytes)) well did.changes (made_known w.honest bytes ds well.honest)
stays_well (Drops h) w v did well = well_with w v h None well did.1 tt
stays_well (Writes h from bytes) w v did well = well_with w v h (option_map (rewritten from bytes) (at w h)) well did.1.0 (rewritten_known (at w h) from bytes (well.all h) did.0)

-- ---- byte k of an object is b
abbrev HasIn : Option Object → ℕ → ℕ → Type 0
HasIn None k b = ⊥
HasIn (Some x) k b = (bytes : List ℕ) × (x.bytes ≡ Some bytes) × (slice_index bytes k ≡ b) × (k < length bytes)

made_has : (h : Bool) (bytes : List ℕ) (ds k b : ℕ) → h ≡ true → k < length bytes → slice_index bytes k ≡ b → HasIn (Some (object_with h ds bytes)) k b
made_has true bytes ds k b e lt is = (bytes, refl, is, lt)
made_has false bytes ds k b e lt is = absurd (false≢true e)

rewritten_has : (x : Option Object) (from : ℕ) (bytes : List ℕ) (k b : ℕ) → IsKnown x → from + length bytes ≤ len_of x → from ≤ k → k < from + length bytes → slice_index bytes (k - from) ≡ b →
    HasIn (option_map (rewritten from bytes) x) k b
rewritten_has None from bytes k b w fits le lt is = absurd (omega arith)
rewritten_has (Some x) from bytes k b w fits le lt is =
    let inside : from + length bytes ≤ length w.0 = omega (arith, w.2) in
    (with_range w.0 from bytes, ap (option_map (λ y. with_range y from bytes)) w.1, with_range_inside w.0 from bytes inside k le lt ∙ is, omega (arith, length-with_range w.0 from bytes inside))

rewritten_leaves : (x : Option Object) (from : ℕ) (bytes : List ℕ) (k b : ℕ) → IsKnown x → from + length bytes ≤ len_of x → (k < from) ⊎ (from + length bytes ≤ k) → HasIn x k b →
    HasIn (option_map (rewritten from bytes) x) k b
rewritten_leaves None from bytes k b w fits beside has = has
rewritten_leaves (Some x) from bytes k b w fits beside has =
    let some : Some w.0 ≡ Some has.0 = sym w.1 ∙ has.1 in
    let same : w.0 ≡ has.0 = cc in
    let inside : from + length bytes ≤ length has.0 = omega (arith, w.2, ap length same) in (
      with_range has.0 from bytes,
      ap (option_map (λ y. with_range y from bytes)) has.1,
      elim beside [
        | inl lt ↦ with_range_before has.0 from bytes inside k lt ∙ has.2
        | inr le ↦ with_range_after has.0 from bytes inside k le ∙ has.2
      ],
      (let far = has.3 in omega (arith, length-with_range has.0 from bytes inside)),
    )

-- a call says it
says_so : (c : Call) (w v : Pool) (h : Handle) (k b : ℕ) → Well w → Calls c w v → SaysByte c h k b → HasIn (at v h) k b
says_so (Makes g bytes ds) w v h k b well did says =
    subst (λ z. HasIn (at v z) k b) says.0 (subst (λ o. HasIn o k b) (sym did.changes.here) (made_has w.honest bytes ds k b well.honest says.1 says.2))
says_so (Drops g) w v h k b well did says = absurd says
says_so (Writes g from bytes) w v h k b well did says =
    subst (λ z. HasIn (at v z) k b) says.0 (subst (λ o. HasIn o k b) (sym did.1.0.here) (rewritten_has (at w g) from bytes k b (well.all g) did.0 says.1 says.2 says.3))

-- or leaves it
leaves_so : (c : Call) (w v : Pool) (h : Handle) (k b : ℕ) → Well w → Calls c w v → LeavesByte c h k → HasIn (at w h) k b → HasIn (at v h) k b
leaves_so (Makes g bytes ds) w v h k b well did leaves has = subst (λ o. HasIn o k b) (sym (did.changes.others h (λ e. leaves (sym e)))) has
leaves_so (Drops g) w v h k b well did leaves has = subst (λ o. HasIn o k b) (sym (did.1.others h (λ e. leaves (sym e)))) has
leaves_so (Writes g from bytes) w v h k b well did leaves has = elim leaves [
  | inl ne ↦ subst (λ o. HasIn o k b) (sym (did.1.0.others h (λ e. ne (sym e)))) has
  | inr same ↦ subst (λ z. HasIn (at v z) k b) same.0 (subst (λ o. HasIn o k b) (sym did.1.0.here)
      (rewritten_leaves (at w g) from bytes k b (well.all g) did.0 same.1 (subst (λ z. HasIn (at w z) k b) (sym same.0) has)))
]

-- ---- all calls
after_later : (later : List Call) (w v : Pool) (h : Handle) (k b : ℕ) → Well w → Called w later v → LeaveByte later h k → HasIn (at w h) k b → HasIn (at v h) k b
after_later [] w v h k b well run leave has = subst (λ (z : Pool). HasIn (at z h) k b) run has
after_later (c ∷ cs) w v h k b well run leave has = after_later cs run.0 v h k b (stays_well c w run.0 run.1 well) run.2 leave.1 (leaves_so c w run.0 h k b well run.1 leave.0 has)

from_start : (before : List Call) (c : Call) (later : List Call) (w v : Pool) (h : Handle) (k b : ℕ) → Well w → Called w (before ++ c ∷ later) v → SaysByte c h k b → LeaveByte later h k → HasIn (at v h) k b
from_start [] c later w v h k b well run says leave = after_later later run.0 v h k b (stays_well c w run.0 run.1 well) run.2 leave (says_so c w run.0 h k b well run.1 says)
from_start (x ∷ xs) c later w v h k b well run says leave = from_start xs c later run.0 v h k b (stays_well x w run.0 run.1 well) run.2 says leave

told : (o : Option Object) (k b : ℕ) → HasIn o k b → (bytes : List ℕ) × (bytes_of o ≡ Some bytes) × (slice_index bytes k ≡ b) × (k < length bytes)
told None k b has = absurd has
told (Some x) k b has = has

pub reads_last : ReadsGiveLastWrites
reads_last calls w v h k b none honest run last =
    told (at v h) k b (from_start last.before last.call last.later w v h k b record { honest = honest; all = λ g. subst IsKnown (sym (none g)) tt }
    (subst (λ (cs : List Call). Called w cs v) last.are run) last.says last.leave)

-- ---- objects apart
other_stays : (c : Call) (w v : Pool) (h : Handle) → Calls c w v → handle_of c ≢ h → at v h ≡ at w h
other_stays (Makes g bytes ds) w v h did ne = did.changes.others h (λ e. ne (sym e))
other_stays (Drops g) w v h did ne = did.1.others h (λ e. ne (sym e))
other_stays (Writes g from bytes) w v h did ne = did.1.0.others h (λ e. ne (sym e))

pub others_stay : OthersStay
others_stay [] w v h run apart = ap (λ (x : Pool). at x h) (sym run)
others_stay (c ∷ cs) w v h run apart = others_stay cs run.0 v h run.2 apart.1 ∙ other_stays c w run.0 h run.1 apart.0
