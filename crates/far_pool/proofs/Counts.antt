-- A handle whose object was dropped stays refused: its pointer's generation comes again after 65,536 steps, and each step takes an object that was made there.
use Rattle.std.proofs.Common.{◌≡◌, ◌⊎◌, ℕ, ◌+◌, ◌%◌, ◌<◌, ◌≤◌, ◌==◌, Bool, true, false, ◌&&◌, Option, Some, None, is_some, List, [], ◌∷◌, ◌++◌, refl, sym, ap, subst, ◌∙◌, inl, inr, arith}
use Rattle.std.specs.Prelude.{if◌then◌else◌}
use Rattle.std.specs.Option.{option_map}
use Rattle.far_private.specs.Heap.{object_with}
use Rattle.std.proofs.lemmas.Bool.{cases_eq, eq-eqb}
use Rattle.far_private.specs.Objects.{Object, rewritten}
use Rattle.far_pool.specs.declared.handle.Handle.{Handle}
use Rattle.far_pool.specs.Generations.{DroppedStaysRefused, made_at, made_by}
use Rattle.far_pool.specs.History.{Call, Called, Calls, Drops, Makes, Writes}
use Rattle.far_pool.specs.Pool.{Changes, NextGeneration, OnePointer, Pool, at, generation_in, next_generation, shelf_in}
use Rattle.far_pool.specs.Pool.{Makes as Makes_of}
use Rattle.far_pool.proofs.Shelves.{at_stale, found_stale, same_or_not}

-- no handle of the pointer has an object
abbrev Free : Pool → Handle → Type 0
Free w h = (k : Handle) → OnePointer h k → at w k ≡ None

one_or_not : (h k : Handle) → OnePointer h k ⊎ (OnePointer h k → ⊥)
one_or_not h k = elim (cases_eq k.heap h.heap) [
  | inr ne ↦ inr (λ e. ne e.0)
  | inl a ↦ elim (cases_eq k.pointer h.pointer) [
    | inr ne ↦ inr (λ e. ne e.1)
    | inl b ↦ inl (a, b)
  ]
]

by_one : (a b : Bool) → a ≡ true → b ≡ true → ◌≡◌ {A = ℕ} (if a && b then 1 else 0) 1
by_one true true d e = refl
by_one true false d e = absurd cc
by_one false b d e = absurd cc

-- since the drop the generation has gone on so many times, and so many objects were made: one more than that, if there is one now
record Since (h : Handle) (n : ℕ) (w : Pool) : Type 0 where
  steps : ℕ
  now : generation_in w h ≡ (h.generation + 1 + steps) % 65536
  few : steps ≤ n
  free : Free w h ⊎ (steps + 1 ≤ n)

same_generation : (w : Pool) (h k : Handle) → OnePointer h k → generation_in w k ≡ generation_in w h
same_generation w h k one = λ i. generation_in w record { heap = one.0 i; pointer = one.1 i; generation = 0 }

-- a change at another pointer leaves this one free
free_beside : (g h : Handle) (o : Option Object) (w v : Pool) → (OnePointer h g → ⊥) → Changes g o w v → Free w h → Free v h
free_beside g h o w v apart c free = λ k one. c.others k (λ e. apart (subst (λ x. OnePointer h x) e one)) ∙ free k one

-- no handle of the pointer of what was dropped has one
pub free_dropped : (g : Handle) (w v : Pool) → Changes g None w v → generation_in w g ≡ g.generation → Free v g
free_dropped g w v c was = λ k one. elim (same_or_not k g) [
  | inl e ↦ ap (at v) e ∙ c.here
  | inr ne ↦ c.others k ne ∙ at_stale w g k was ne one.0 one.1
]

step_more : (g s : ℕ) → next_generation ((g + 1 + s) % 65536) ≡ (g + 1 + (s + 1)) % 65536
step_more g s = omega arith

next_is : (g : ℕ) → next_generation g ≡ (g + 1 + 0) % 65536
next_is g = omega arith

come_again : (g s : ℕ) → g < 65536 → s + 1 < 65536 → (g + 1 + s) % 65536 ≡ g → ⊥
come_again g s lt few e = omega (arith, e)

some_not_none : (o : Option Object) → is_some o ≡ true → o ≡ None → ⊥
some_not_none None e f = absurd cc
some_not_none (Some x) e f = absurd cc

module _ (h : Handle) where
  -- a call at another pointer
  beside : (g : Handle) (o : Option Object) (n m : ℕ) (w v : Pool) → (OnePointer h g → ⊥) → Changes g o w v → generation_in v h ≡ generation_in w h → n ≤ m → Since h n w → Since h m v
  beside g o n m w v apart c same le s = record {
    steps = s.steps;
    now = same ∙ s.now;
    few = (let f = s.few in omega (arith, le));
    free = elim s.free [
      | inl free ↦ inl (free_beside g h o w v apart c free)
      | inr f ↦ inr (omega (arith, le))
    ];
  }

  makes : (g : Handle) (o : Object) (n : ℕ) (w v : Pool) → Makes_of g o w v → Since h n w → Since h (n + made_by (Makes g [] 0) h) v
  makes g o n w v did s = elim (one_or_not h g) [
    | inr apart ↦ beside g (Some o) n (n + made_by (Makes g [] 0) h) w v apart did.changes (did.generations h) (omega arith) s
    | inl one ↦
        (let more : made_by (Makes g [] 0) h ≡ 1 = by_one (g.heap == h.heap) (g.pointer == h.pointer) (eq-eqb g.heap h.heap one.0) (eq-eqb g.pointer h.pointer one.1) in
        let f = s.few in
        record {
          steps = s.steps;
          now = did.generations h ∙ s.now;
          few = omega (arith, more);
          free = inr (omega (arith, more));
        })
  ]

  -- what was dropped was there
  went : (g : Handle) (n : ℕ) (w v : Pool) → OnePointer h g → is_some (at w g) ≡ true → Changes g None w v → NextGeneration g w v → Since h n w → Since h n v
  went g n w v one has c next s = elim s.free [
    | inl free ↦ absurd (some_not_none (at w g) has (free g one))
    | inr le ↦ record {
      steps = s.steps + 1;
      now = sym (same_generation v h g one) ∙ next.here ∙ ap next_generation (sym next.was ∙ same_generation w h g one ∙ s.now) ∙ step_more h.generation s.steps;
      few = le;
      free = inl (λ k same. free_dropped g w v c next.was k (same.0 ∙ sym one.0, same.1 ∙ sym one.1));
    }
  ]

  drops : (g : Handle) (n : ℕ) (w v : Pool) → is_some (at w g) ≡ true → Changes g None w v → NextGeneration g w v → Since h n w → Since h n v
  drops g n w v has c next s = elim (one_or_not h g) [
    | inl one ↦ went g n w v one has c next s
    | inr apart ↦ beside g None n n w v apart c (next.others h (λ e. apart (sym e.0, sym e.1))) (omega arith) s
  ]

  -- what is written was there
  kept_free : (g : Handle) (f : Object → Object) (w v : Pool) → OnePointer h g → Changes g (option_map f (at w g)) w v → Free w h → Free v h
  kept_free g f w v one c free = λ k same. elim (same_or_not k g) [
    | inl e ↦ ap (at v) e ∙ c.here ∙ ap (option_map f) (free g one)
    | inr ne ↦ c.others k ne ∙ free k same
  ]

  writes : (g : Handle) (f : Object → Object) (n : ℕ) (w v : Pool) → Changes g (option_map f (at w g)) w v → generation_in v h ≡ generation_in w h → Since h n w → Since h n v
  writes g f n w v c same s = elim (one_or_not h g) [
    | inr apart ↦ beside g (option_map f (at w g)) n n w v apart c same (omega arith) s
    | inl one ↦ record {
      steps = s.steps;
      now = same ∙ s.now;
      few = s.few;
      free = elim s.free [
        | inl free ↦ inl (kept_free g f w v one c free)
        | inr le ↦ inr le
      ];
    }
  ]

  since : (c : Call) (n : ℕ) (w v : Pool) → Calls c w v → Since h n w → Since h (n + made_by c h) v
  since (Makes g bytes ds) n w v did s = makes g (object_with w.honest ds bytes) n w v did s
  since (Drops g) n w v did s = subst (λ m. Since h m v) (omega arith) (drops g n w v did.0 did.1 did.2 s)
  since (Writes g from bytes) n w v did s = subst (λ m. Since h m v) (omega arith) (writes g (rewritten from bytes) n w v did.1.0 (did.1.1 h) s)

  since_all : (cs : List Call) (n : ℕ) (w v : Pool) → Called w cs v → Since h n w → Since h (n + made_at cs h) v
  since_all [] n w v run s = subst (λ (z : Pool). Since h (n + 0) z) run (subst (λ m. Since h m w) (omega arith) s)
  since_all (c ∷ cs) n w v run s = subst (λ m. Since h m v) (omega arith) (since_all cs (n + made_by c h) run.0 v run.2 (since c n w run.0 run.1 s))

  ends : (n : ℕ) (v : Pool) → h.generation < 65536 → n < 65536 → Since h n v → at v h ≡ None
  ends n v lt few s = elim s.free [
    | inl free ↦ free h (refl, refl)
    | inr le ↦ found_stale (shelf_in v h.heap) h.pointer h.generation (λ e. come_again h.generation s.steps lt (omega (arith, le, few)) (sym s.now ∙ e))
  ]

  from_start : (before later : List Call) (w v : Pool) → h.generation < 65536 → Called w (before ++ Drops h ∷ later) v → made_at later h < 65536 → at v h ≡ None
  from_start [] later w v lt run few = ends (0 + made_at later h) v lt (omega (arith, few)) (since_all later 0 run.0 v run.2 record {
    steps = 0;
    now = run.1.2.here ∙ next_is h.generation;
    few = omega arith;
    free = inl (free_dropped h w run.0 run.1.1 run.1.2.was);
  })
  from_start (c ∷ before) later w v lt run few = from_start before later run.0 v lt run.2 few

pub stays_refused : DroppedStaysRefused
stays_refused before later w v h lt run few = from_start h before later w v lt run few
