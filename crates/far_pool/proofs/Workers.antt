-- A worker's objects by its heaps: what a call of one heap leaves of all.
use Rattle.std.proofs.Common.{◌≡◌, ◌<◌, ◌+◌, ℕ, zero, suc, Bool, true, false, Option, Some, None, Result, Ok, Err, is_some, List, [], length, replicate, refl, ap, sym, subst, ◌∙◌}
use Rattle.std.specs.Prelude.{◌==◌, if◌then◌else◌, IfSome, slice_range, slice_set, slice_index_or, OnOk}
use Rattle.std.specs.Option.{option_map}
use Rattle.std.proofs.lemmas.List.{get_or_read}
use Rattle.far_word.specs.declared.refused.Refused.{Refused}
use Rattle.far_private.specs.Objects.{Object, bytes_of, rewritten}
use Rattle.far_pool.specs.declared.handle.Handle.{Handle}
use Rattle.far_pool.specs.Pool.{AreAlike, Changes, Makes, NextGeneration, Pool, SameGenerations, Shelf, at, dropping, found, generation_in, generation_on, has, no_shelf, object_on, putting, Updates, UpdatesOn, shelf_in}
use Rattle.far_pool.proofs.Shelves.{drops, drops_next, found_free, puts, puts_same}

abbrev pub pool : Bool → ℕ → List Shelf → Pool
pool b l shelves = record { honest = b; logs = l; shelves = shelves }

neither : (b : Bool) → ◌≡◌ {A = Option Object} (if b then None else None) None
neither true = refl
neither false = refl

-- a worker that has no heap has no object
pub none_at : (b : Bool) (l : ℕ) (h : Handle) → at (pool b l []) h ≡ None
none_at b l h = neither (0 == h.generation)

zeros_from : (n p : ℕ) → ◌≡◌ {A = ℕ} (slice_index_or (replicate n 0) p 0) 0
zeros_from zero p = refl
zeros_from (suc n) zero = refl
zeros_from (suc n) (suc p) = zeros_from n p

pub all_zero : (gs : List ℕ) (n : ℕ) → gs ≡ replicate n 0 → (p : ℕ) → ◌≡◌ {A = ℕ} (slice_index_or gs p 0) 0
all_zero gs n e p = ap (λ xs. slice_index_or xs p 0) e ∙ zeros_from n p

pub shelf_at : (b : Bool) (l : ℕ) (shelves : List Shelf) (s : Pool) (k : ℕ) (m : Shelf) → pool b l shelves ≡ s → k < length shelves → m ≡ slice_index_or shelves k m → slice_index_or s.shelves k no_shelf ≡ m
shelf_at b l shelves s k m e lt is = subst (λ (x : Pool). slice_index_or x.shelves k no_shelf ≡ m) e (sym (get_or_read shelves k m lt is no_shelf))

module _ (b : Bool) (l : ℕ) (shelves : List Shelf) (s : Pool) (e : pool b l shelves ≡ s) (k : ℕ) (m : Shelf) (lt : k < length shelves) (is : m ≡ slice_index_or shelves k m) where
  pub shelf_is_in : shelf_in s k ≡ m
  shelf_is_in = shelf_at b l shelves s k m e lt is

  pub logs_is : AreAlike b l shelves → m.logs ≡ s.logs
  logs_is alike = ap (λ (x : Shelf). x.logs) (get_or_read shelves k m lt is no_shelf) ∙ (alike k lt).logs ∙ ap (λ (x : Pool). x.logs) e

module _ (b : Bool) (l : ℕ) (shelves : List Shelf) (s : Pool) (e : pool b l shelves ≡ s) (h : Handle) (m n : Shelf) (lt : h.heap < length shelves) (is : m ≡ slice_index_or shelves h.heap m) where
  pub shelf_is : shelf_in (pool b l shelves) h.heap ≡ m
  shelf_is = sym (get_or_read shelves h.heap m lt is no_shelf)

  pub at_is : at s h ≡ found m h.pointer h.generation
  at_is = subst (λ (x : Pool). at x h ≡ found m h.pointer h.generation) e (ap (λ x. found x h.pointer h.generation) shelf_is)

  pub honest_is : AreAlike b l shelves → m.honest ≡ s.honest
  honest_is alike = ap (λ (x : Shelf). x.honest) (sym shelf_is) ∙ (alike h.heap lt).honest ∙ ap (λ (x : Pool). x.honest) e

  -- one is put
  pub put_at : (o : Option Object) → generation_on m h.pointer ≡ h.generation → h.pointer < length m.objects → n ≡ putting h.pointer o m →
      Changes h o s (pool b l (slice_set shelves h.heap n)) × SameGenerations s (pool b l (slice_set shelves h.heap n))
  put_at o now within put = subst (λ (x : Pool). Changes h o x (pool b l (slice_set shelves h.heap n)) × SameGenerations x (pool b l (slice_set shelves h.heap n))) e (
    puts b l shelves h.heap n lt h refl m shelf_is now o within put,
    puts_same b l shelves h.heap n lt h refl m shelf_is now o within put,
  )

  pub made_at : (o : Object) → generation_on m h.pointer ≡ h.generation → h.pointer < length m.objects → object_on m h.pointer ≡ None → n ≡ putting h.pointer (Some o) m →
      Makes h o s (pool b l (slice_set shelves h.heap n))
  made_at o now within free put = record {
    fresh = at_is ∙ found_free m h.pointer h.generation free;
    now = subst (λ (x : Pool). generation_in x h ≡ h.generation) e (ap (λ x. generation_on x h.pointer) shelf_is ∙ now);
    changes = (put_at (Some o) now within put).0;
    generations = (put_at (Some o) now within put).1;
  }

  pub wrote : (f : Object → Object) → n ≡ putting h.pointer (option_map f (found m h.pointer h.generation)) m → generation_on m h.pointer ≡ h.generation → h.pointer < length m.objects →
      Changes h (option_map f (at s h)) s (pool b l (slice_set shelves h.heap n)) × SameGenerations s (pool b l (slice_set shelves h.heap n))
  wrote f put now within = subst (λ (o : Option Object). Changes h (option_map f o) s (pool b l (slice_set shelves h.heap n)) × SameGenerations s (pool b l (slice_set shelves h.heap n))) (sym at_is)
      (put_at (option_map f (found m h.pointer h.generation)) now within put)

  pub wrote_at : (r : Result (Unit {0}) Refused) (f : Object → Object) → OnOk r (n ≡ putting h.pointer (option_map f (found m h.pointer h.generation)) m) →
      OnOk r ((generation_on m h.pointer ≡ h.generation) × (h.pointer < length m.objects) × (h.pointer < length m.generations)) →
      OnOk r (Changes h (option_map f (at s h)) s (pool b l (slice_set shelves h.heap n)) × SameGenerations s (pool b l (slice_set shelves h.heap n)))
  wrote_at (Ok x) f put known = wrote f put known.0 known.1
  wrote_at (Err why) f put known = tt

  pub updated_at : (r : Result (Unit {0}) Refused) (outcome : List ℕ → Unit {0} → List ℕ → Type 0) (from count : ℕ) (bytes : List ℕ) →
      OnOk r (UpdatesOn outcome h.pointer h.generation from count bytes m n) →
      OnOk r ((generation_on m h.pointer ≡ h.generation) × (h.pointer < length m.objects) × (h.pointer < length m.generations)) →
      OnOk r (Updates outcome h from count bytes s (pool b l (slice_set shelves h.heap n)))
  updated_at (Ok x) outcome from count bytes did known = record {
    read = did.read;
    told = subst (λ (o : Option Object). IfSome (bytes_of o) (λ all. did.read ≡ slice_range all from (from + count))) (sym at_is) did.told;
    called = did.called;
    written = wrote (rewritten from bytes) did.written known.0 known.1;
  }
  updated_at (Err why) outcome from count bytes did known = tt

  -- one is dropped
  pub dropped_at : generation_on m h.pointer ≡ h.generation → h.pointer < length m.objects → h.pointer < length m.generations → is_some (found m h.pointer h.generation) ≡ true → n ≡ dropping h.pointer h.generation m →
      (has s h ≡ true) × Changes h None s (pool b l (slice_set shelves h.heap n)) × NextGeneration h s (pool b l (slice_set shelves h.heap n))
  dropped_at now within too there drop = (
    ap (λ (o : Option Object). is_some o) at_is ∙ there,
    subst (λ (x : Pool). Changes h None x (pool b l (slice_set shelves h.heap n))) e (drops b l shelves h.heap n lt h refl m shelf_is now within too drop),
    subst (λ (x : Pool). NextGeneration h x (pool b l (slice_set shelves h.heap n))) e (drops_next b l shelves h.heap n lt h refl m shelf_is now within too drop),
  )
