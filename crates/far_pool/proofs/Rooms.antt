-- That a heap has no room is told of its worker, by handle.
use Rattle.std.proofs.Common.{◌≡◌, ◌≤◌, ◌<◌, ℕ, Bool, List, Result, Err, length, refl, ap, sym, subst, ◌∙◌}
use Rattle.std.specs.Prelude.{slice_index_or}
use Rattle.far_device.specs.declared.fault.DeviceFault.{DeviceFault}
use Rattle.far_word.specs.declared.refused.Refused.{Refused}
use Rattle.far_word.specs.declared.refused.Refused.TheVariants.{NoRoom}
use Rattle.far_private.specs.Causes.{IsNotTaken as IsRefused}
use Rattle.far_private.specs.Heap.{Heap}
use Rattle.far_pool.specs.Pool.{AreAlike, Pool, Shelf, found, generation_on, object_on, shelf_in}
use Rattle.far_pool.specs.Rooms.{HasRoom, IsNotTaken, IsStuck}
use Rattle.far_pool.proofs.Shelves.{found_now}
use Rattle.far_pool.proofs.Workers.{logs_is, pool, shelf_is_in}

pub same_err : {A B : Type 0} (why : Refused) → ◌≡◌ {A = Result B Refused} (Err why) (Err NoRoom) → ◌≡◌ {A = Result A Refused} (Err why) (Err NoRoom)
same_err why none = let e : why ≡ NoRoom = cc in ap (λ (w : Refused). Err w) e

abbrev pub shelf : Heap → List ℕ → Shelf
shelf h gs = record { honest = h.honest; logs = h.logs; objects = h.objects; generations = gs }

module _ {D : Type 0} (writes : D → ℕ → List ℕ → Result (Unit {0}) DeviceFault → D → Type 0) where
  told_of : (w : Pool) (heap : ℕ) (m : Shelf) → shelf_in w heap ≡ m → IsRefused D writes (object_on m) → IsNotTaken D writes w heap
  told_of w heap m is t = record {
    handle = record { heap = heap; pointer = t.pointer; generation = generation_on m t.pointer };
    beside = refl;
    is = t.is;
    found = ap (λ s. found s t.pointer (generation_on m t.pointer)) is ∙ found_now m t.pointer (generation_on m t.pointer) refl ∙ t.found;
    bytes = t.bytes;
    long = t.long;
    own = t.own;
    before = t.before;
    fault = t.fault;
    after = t.after;
    refused = t.refused;
  }

  module _ (b : Bool) (l : ℕ) (shelves : List Shelf) (s : Pool) (e : pool b l shelves ≡ s) (heap : ℕ) (m : Shelf) (lt : heap < length shelves) (is : m ≡ slice_index_or shelves heap m) (alike : AreAlike b l shelves) where
    pub stuck_at : {A : Type 0} (r : Result A Refused) → (r ≡ Err NoRoom → 3 ≤ m.logs → IsRefused D writes (object_on m)) → r ≡ Err NoRoom → 3 ≤ s.logs → IsNotTaken D writes s heap
    stuck_at r room none three = told_of s heap m (shelf_is_in b l shelves s e heap m lt is) (room none (subst (λ n. 3 ≤ n) (sym (logs_is b l shelves s e heap m lt is alike)) three))

    -- where no object is made
    pub unmade_at : {A B : Type 0} (why : Refused) → (◌≡◌ {A = Result A Refused} (Err why) (Err NoRoom) → 3 ≤ m.logs → IsRefused D writes (object_on m)) → ◌≡◌ {A = Result B Refused} (Err why) (Err NoRoom) →
        3 ≤ s.logs → IsNotTaken D writes s heap
    unmade_at why room none three = told_of s heap m (shelf_is_in b l shelves s e heap m lt is) (room (same_err why none) (subst (λ n. 3 ≤ n) (sym (logs_is b l shelves s e heap m lt is alike)) three))

  -- of the heap whose turn it was
  pub stuck_some : {A : Type 0} (r : Result A Refused) (w v : Pool) (heap : ℕ) → v ≡ w → (r ≡ Err NoRoom → 3 ≤ v.logs → IsNotTaken D writes v heap) → r ≡ Err NoRoom → 3 ≤ w.logs → IsStuck D writes w
  stuck_some r w v heap e room = subst (λ (x : Pool). r ≡ Err NoRoom → 3 ≤ x.logs → IsStuck D writes x) e (λ none three. (heap, room none three))

  pub takers : HasRoom D writes
  takers takes w stuck = takes stuck.1.before stuck.1.handle.pointer stuck.1.bytes stuck.1.fault stuck.1.after stuck.1.refused
