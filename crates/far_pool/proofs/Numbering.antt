-- What a worker's calls leave of its objects by number.
use Rattle.std.proofs.Common.{◌≡◌, ◌≢◌, ℕ, IfErr, OnOk, Result, ◌+◌, ◌*◌, ◌/◌, ◌%◌, ◌<◌, true, Option, Some, None, is_some, List, length, replicate, refl, sym, ap, subst, ◌∙◌, arith}
use Rattle.std.specs.Option.{option_map}
use Rattle.far_word.specs.declared.sizes.TheConstants.{POINTERS}
use Rattle.far_word.specs.declared.refused.Refused.{Refused}
use Rattle.far_word.specs.declared.refused.Refused.TheVariants.{NotHeld}
use Rattle.far_objects.specs.Far.{Drops, Makes, Writes, barred}
use Rattle.far_private.specs.Heap.{IsWell, new_object, object_with, size_of}
use Rattle.far_private.specs.Numbered.{fitted}
use Rattle.far_private.specs.Objects.{Object, rewritten}
use Rattle.far_private.proofs.ByNumber as number
use Rattle.far_pool.specs.declared.handle.Handle.{Handle}
use Rattle.far_pool.specs.Numbers.{far_of, handle_at, held}
use Rattle.far_pool.specs.Pool.{Changes, NextGeneration, OnePointer, Pool, SameGenerations, at, generation_in, generation_on, has, place_of, refusal_of, shelf_in}
use Rattle.far_pool.specs.Pool.{Makes as MakesOf, Writes as WritesOf}
use Rattle.far_pool.proofs.Counts.{free_dropped}
use Rattle.far_pool.proofs.Shelves.{found_now, same_handle}

-- ---- numbers
over : (a p : ℕ) → p < POINTERS → (a * POINTERS + p) / POINTERS ≡ a
over a p lt = omega (arith, lt)

rest : (a p : ℕ) → p < POINTERS → (a * POINTERS + p) % POINTERS ≡ p
rest a p lt = omega (arith, lt)

whole : (n : ℕ) → n / POINTERS * POINTERS + n % POINTERS ≡ n
whole n = omega arith

same_number : (m n : ℕ) → m / POINTERS ≡ n / POINTERS → m % POINTERS ≡ n % POINTERS → m ≡ n
same_number m n d r = omega (arith, d, r)

pub at_number : (w : Pool) (n : ℕ) → at w (handle_at w n) ≡ held w n
at_number w n = found_now (shelf_in w (n / POINTERS)) (n % POINTERS) (generation_on (shelf_in w (n / POINTERS)) (n % POINTERS)) refl

number_handle : (w : Pool) (h : Handle) → h.pointer < POINTERS → generation_in w h ≡ h.generation → handle_at w (place_of h) ≡ h
number_handle w h lt now =
    let a = over h.heap h.pointer lt in
    let b = rest h.heap h.pointer lt in
    same_handle (handle_at w (place_of h)) h a b ((λ i. generation_on (shelf_in w (a i)) (b i)) ∙ now)

held_at : (w : Pool) (h : Handle) → h.pointer < POINTERS → generation_in w h ≡ h.generation → held w (place_of h) ≡ at w h
held_at w h lt now = sym (at_number w (place_of h)) ∙ ap (at w) (number_handle w h lt now)

apart : (w : Pool) (h : Handle) (n : ℕ) → n ≢ place_of h → handle_at w n ≢ h
apart w h n ne e = ne (sym (whole n) ∙ (λ i. (e i).heap * POINTERS + (e i).pointer))

same_at : (w v : Pool) (n : ℕ) → generation_in v (handle_at w n) ≡ generation_in w (handle_at w n) → handle_at v n ≡ handle_at w n
same_at w v n e = λ i. record { heap = n / POINTERS; pointer = n % POINTERS; generation = e i }

kept_at : (w v : Pool) (n : ℕ) → generation_in v (handle_at w n) ≡ generation_in w (handle_at w n) → at v (handle_at w n) ≡ at w (handle_at w n) → held v n ≡ held w n
kept_at w v n e f = sym (at_number v n) ∙ ap (at v) (same_at w v n e) ∙ f ∙ at_number w n

-- ---- one object changes
module _ (w v : Pool) (h : Handle) (o : Option Object) (changes : Changes h o w v) where
  kept_others : ((n : ℕ) → n ≢ place_of h → generation_in v (handle_at w n) ≡ generation_in w (handle_at w n)) → (n : ℕ) → n ≢ place_of h → held v n ≡ held w n
  kept_others same n ne = kept_at w v n (same n ne) (changes.others (handle_at w n) (apart w h n ne))

module _ (w v : Pool) (h : Handle) (lt : h.pointer < POINTERS) where
  made_here : (x : Object) → MakesOf h x w v → held v (place_of h) ≡ Some x
  made_here x made = held_at v h lt (made.generations h ∙ made.now) ∙ made.changes.here

  made_fresh : (x : Object) → MakesOf h x w v → held w (place_of h) ≡ None
  made_fresh x made = held_at w h lt made.now ∙ made.fresh

  made_others : (x : Object) → MakesOf h x w v → (n : ℕ) → n ≢ place_of h → held v n ≡ held w n
  made_others x made = kept_others w v h (Some x) made.changes (λ n ne. made.generations (handle_at w n))

  pub makes_far : (ds : ℕ) (xs : List ℕ) → MakesOf h (object_with w.honest ds xs) w v → IsWell v.honest (held v (place_of h)) → Makes (place_of h) xs (far_of w) (far_of v)
  makes_far ds xs made well = number.makes_far w.honest v.honest (held w) (held v) made.changes.honest (place_of h) (made_others (object_with w.honest ds xs) made) xs ds
      (made_fresh (object_with w.honest ds xs) made) (made_here (object_with w.honest ds xs) made) well

  pub zeros_far : (len ds : ℕ) → MakesOf h (new_object w.honest len ds) w v → IsWell v.honest (held v (place_of h)) → Makes (place_of h) (replicate len 0) (far_of w) (far_of v)
  zeros_far len ds made well = number.zeros_far w.honest v.honest (held w) (held v) made.changes.honest (place_of h) (made_others (new_object w.honest len ds) made) len ds
      (made_fresh (new_object w.honest len ds) made) (made_here (new_object w.honest len ds) made) well

module _ (w v : Pool) (n : ℕ) where
  number_is : place_of (handle_at w n) ≡ n
  number_is = whole n

  pub writes_far : (from : ℕ) (xs : List ℕ) → Changes (handle_at w n) (option_map (rewritten from xs) (at w (handle_at w n))) w v → SameGenerations w v → IsWell w.honest (held w n) → IsWell v.honest (held v n) →
      Writes n from xs (far_of w) (far_of v)
  writes_far from xs changes same was now =
      let x = option_map (rewritten from xs) (at w (handle_at w n)) in
      number.writes_far w.honest v.honest (held w) (held v) changes.honest n
      (λ m ne. kept_others w v (handle_at w n) x changes (λ k _. same (handle_at w k)) m (λ e. ne (e ∙ number_is))) from xs
      (sym (at_number v n) ∙ ap (at v) (same_at w v n (same (handle_at w n))) ∙ changes.here ∙ ap (option_map (rewritten from xs)) (at_number w n)) was now

  pub drops_far : has w (handle_at w n) ≡ true → Changes (handle_at w n) None w v → NextGeneration (handle_at w n) w v → IsWell w.honest (held w n) → Drops n (far_of w) (far_of v)
  drops_far there changes next was =
      number.drops_far w.honest v.honest (held w) (held v) changes.honest n
      (λ m ne. kept_others w v (handle_at w n) None changes (λ k other. next.others (handle_at w k) (λ same. other (same_number k n same.0 same.1 ∙ sym number_is))) m (λ e. ne (e ∙ number_is)))
      (sym (ap (λ (o : Option Object). is_some o) (at_number w n)) ∙ there)
      (sym (at_number v n) ∙ free_dropped (handle_at w n) w v changes next.was (handle_at v n) (refl, refl)) was

-- ---- outcomes of a call
module _ (w : Pool) (n : ℕ) (k : Handle) (e : k ≡ handle_at w n) (was : IsWell w.honest (held w n)) where
  at_held : at w k ≡ held w n
  at_held = ap (at w) e ∙ at_number w n

  pub refusal_at : (from count : ℕ) → refusal_of (at w k) from count ≡ barred ((far_of w).sizes n) from count
  refusal_at from count = ap (λ o. refusal_of o from count) at_held ∙ number.barred_is w.honest (held w n) from count was

  pub wrote_far : (v : Pool) (from : ℕ) (xs : List ℕ) → WritesOf k from xs w v → IsWell v.honest (held v n) → Writes n from xs (far_of w) (far_of v)
  wrote_far v from xs done now = writes_far w v n from xs (subst (λ (x : Handle). Changes x (option_map (rewritten from xs) (at w x)) w v) e done.0) done.1 was now

  pub dropped_far : (v : Pool) (r : Result (Unit {0}) Refused) → OnOk r ((has w k ≡ true) × Changes k None w v × NextGeneration k w v) → OnOk r (Drops n (far_of w) (far_of v))
  dropped_far v r h = number.on_ok r ((has w k ≡ true) × Changes k None w v × NextGeneration k w v) (Drops n (far_of w) (far_of v))
      (λ d. drops_far w v n (subst (λ (x : Handle). has w x ≡ true) e d.0) (subst (λ (x : Handle). Changes x None w v) e d.1) (subst (λ (x : Handle). NextGeneration x w v) e d.2) was) h

  pub not_dropped : (v : Pool) (r : Result (Unit {0}) Refused) → IfErr r (λ why. (why ≡ NotHeld) × (at w k ≡ None) × (v ≡ w)) → IfErr r (λ why. (why ≡ NotHeld) × ((far_of w).sizes n ≡ None) × (far_of v ≡ far_of w))
  not_dropped v r h = number.if_err r (λ why. (why ≡ NotHeld) × (at w k ≡ None) × (v ≡ w)) (λ why. (why ≡ NotHeld) × ((far_of w).sizes n ≡ None) × (far_of v ≡ far_of w))
      (λ why d. (d.0, ap (λ o. size_of (fitted w.honest o)) (sym at_held ∙ d.1), ap far_of d.2)) h
