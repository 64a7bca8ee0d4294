-- What is known of the seats of a core whose one owner is at rest, and whose copiers have no jobs.
use Rattle.std.proofs.Common.{◌≡◌, ◌≢◌, ◌+◌, ◌/◌, ◌%◌, ◌<◌, ℕ, Bool, true, false, cond, List, length, sym, refl, ap, ◌∙◌, subst, arith, Option, Some, None, replicate, take}
use Rattle.std.specs.Prelude.{is_some, not, map, slice_index_or}
use Rattle.std.specs.List.{range_with_len}
use Rattle.std.proofs.lemmas.Bool.{false≢true}
use Rattle.std.proofs.lemmas.List.{get_or-replicate}
use Rattle.std.proofs.Math.ListN.{length-replicate}
use Rattle.std.proofs.lemmas.List.FromFn.{get_or-map-range_with_len, length-map-range_with_len, take-map-range_with_len}
use Rattle.atomic_table.specs.Seated.{TableId}
use Rattle.far_word.specs.declared.job.JobWord.TheVariants.{Empty, Taken}
use Rattle.far_word.specs.declared.pointer.PtrWord.{PtrWord}
use Rattle.far_word.specs.declared.pointer.PtrWord.TheVariants.{Free, Near, Far}
use Rattle.far_word.specs.declared.sizes.TheConstants.{CELLS, JOBS, MOST_COPIERS}
use Rattle.far_word.specs.Job.{job_of}
use Rattle.far_word.specs.Pointer.{read_of}
use Rattle.far_word.specs.Scope.{scope_of}
use Rattle.far_events.specs.state.Law.{Law, in_use}
use Rattle.far_events.specs.state.State.{State}
use Rattle.far_core.specs.world.WorldOf.{world_of}
use Rattle.far_events.proofs.JobPlaces.{unworded}
use Rattle.far_core.proofs.KeepOwner.{closed_word}
use Rattle.far_core.proofs.ObjectFacts.{object_agrees}
use Rattle.far_table.specs.First.{first_copier, first_owner, open_epoch, seen_object}
use Rattle.far_table.specs.Seats.{CopierSeated, Seated}
use Rattle.far_table.specs.Stands.{CopierSeats, Seats}
use Rattle.far_table.specs.Views.{said_len}
use Rattle.far_table.proofs.FirstViews.{first_held, first_object}
use Rattle.tests_owner.specs.Fits.{Fits, len_in}
use Rattle.tests_owner.specs.Used.{is_taken, used_len}
use Rattle.tests_owner.specs.Works.{AllIdle}

none_of : {X : Type 0} (o : Option X) → ((x : X) → o ≢ Some x) → o ≡ None
none_of None none = refl
none_of (Some x) none = absurd (none x refl)

-- ---- copiers
-- no copier has a job, if no job's word says that it is taken
pub all_rest : (s : State) → Law s → ((j : ℕ) → j < JOBS → is_taken (job_of (s.copying.word j)) ≡ false) → (c : ℕ) → s.copying.task c ≡ None
all_rest s law none c = none_of (s.copying.task c) (λ t e.
    let says = law.copies.taken.takes c t e in
    let used : s.copying.word t.number ≢ 0 = λ z. (let odd : Some Empty ≡ Some (Taken t.job c) = sym unworded ∙ (ap job_of (sym z) ∙ says) in absurd cc) in
    false≢true (sym (none t.number (law.copies.jobs.job_range t.number used)) ∙ ap is_taken says))

pub all_idle : (s : State) (table : TableId) (xs : List CopierSeated) → xs ≡ CopierSeats table (first_copier s) MOST_COPIERS → ((c : ℕ) → s.copying.task c ≡ None) → AllIdle xs
all_idle s table xs are idle =
    let one : ℕ → CopierSeated = λ c. record { table = table; view = first_copier s c } in
    let long : length xs ≡ MOST_COPIERS = ap length are ∙ length-map-range_with_len one 0 MOST_COPIERS in
    record { core = s; table = table; seats_are = are ∙ ap (CopierSeats table (first_copier s)) (sym long); idle = idle }

module _ (xs : List CopierSeated) (r : AllIdle xs) (k : ℕ) (one : k + 1 ≡ length xs) where
  abbrev f : ℕ → CopierSeated
  f c = record { table = r.table; view = first_copier r.core c }

  last_is : (d : CopierSeated) → slice_index_or xs k d ≡ f k
  last_is d = ap (λ (z : List CopierSeated). slice_index_or z k d) r.seats_are ∙ get_or-map-range_with_len f 0 (length xs) k k d (omega arith) (omega arith)

  pub idle_last : (x d : CopierSeated) → Some x ≡ Some (slice_index_or xs k d) → x.view.task ≡ None
  idle_last x d e = let same : f k ≡ x = sym (last_is d) ∙ cc in subst (λ (z : CopierSeated). z.view.task ≡ None) same (r.idle k)

  pub idle_left : (ys : List CopierSeated) → ys ≡ take k xs → AllIdle ys
  idle_left ys is =
      let fewer : ys ≡ map f (range_with_len 0 k) = is ∙ (ap (take k) r.seats_are ∙ take-map-range_with_len f 0 (length xs) k (omega arith)) in
      let long : length ys ≡ k = ap length fewer ∙ length-map-range_with_len f 0 k in
      record { core = r.core; table = r.table; seats_are = fewer ∙ ap (λ n. map f (range_with_len 0 n)) (sym long); idle = r.idle }

-- ---- the owner
kept : (b : Bool) → not b ≡ true → b ≡ false
kept true z = sym z
kept false z = refl

seen_len : (s : State) (p : ℕ) (x : Option PtrWord) → read_of (s.cell p) ≡ x → in_use x ≡ true → len_in (seen_object ((world_of s).object p)) ≡ Some (said_len x)
seen_len s p None e h = absurd (false≢true h)
seen_len s p (Some Free) e h = absurd (false≢true h)
seen_len s p (Some (Near len ds place m)) e h = let a = (object_agrees s p).near len ds place m e (kept m.dropped h) in ap (λ z. len_in (seen_object z)) a.1 ∙ ap Some a.4
seen_len s p (Some (Far len ds m)) e h = let a = (object_agrees s p).far len ds m e (kept m.dropped h) in ap (λ z. len_in (seen_object z)) a.1 ∙ ap Some a.4

long_as_said : (s : State) → Law s → (p : ℕ) (b : Bool) → s.used p ≡ b →
    len_in (cond b (seen_object ((world_of s).object p)) None) ≡ cond b (Some (said_len (read_of (s.cell p)))) None
long_as_said s law p true used = seen_len s p (read_of (s.cell p)) refl (law.views.used_cell p used)
long_as_said s law p false used = refl

module _ (s : State) (honest : Bool) (law : Law s) (closed : s.scope 0 ≡ 0) (forgot : s.remembered 0 ≡ None) where
  none_held : (p : ℕ) → p / CELLS ≡ 0 → s.held p ≡ None
  none_held p own = none_of (s.held p) (λ place e. law.views.held_open p (ap is_some e) (ap s.scope own ∙ closed))

  pub at_rest : (lens : List (Option ℕ)) → lens ≡ map (used_len s) (range_with_len 0 CELLS) → (held : List Bool) → held ≡ replicate CELLS false →
      Fits (first_owner s honest 0) 0 false false lens held
  at_rest lens are held none = record {
    number_is = refl;
    few = omega arith;
    scope = ap (λ w. is_some (open_epoch (scope_of w))) closed ∙ ap (λ x. is_some (open_epoch x)) closed_word;
    epoch = ap is_some forgot;
    objects = λ p own. ap len_in (first_object s honest 0 p own) ∙ (long_as_said s law p (s.used p) refl
        ∙ sym (ap (λ (z : List (Option ℕ)). slice_index_or z (p % CELLS) None) are ∙ get_or-map-range_with_len (used_len s) 0 CELLS (p % CELLS) p None (omega arith) (omega arith)));
    places = λ p own. ap is_some (first_held s honest 0 p own ∙ none_held p own) ∙ sym (ap (λ (z : List Bool). slice_index_or z (p % CELLS) false) none ∙ get_or-replicate CELLS (p % CELLS) false false (omega arith));
    all_lens = ap length are ∙ length-map-range_with_len (used_len s) 0 CELLS;
    all_held = ap length none ∙ length-replicate CELLS false;
  }

-- the last of one is the first
pub only_owner : (s : State) (honest : Bool) (table : TableId) (xs : List Seated) → xs ≡ Seats table (first_owner s honest) s.mutators → s.mutators ≡ 1 → (k : ℕ) → k + 1 ≡ length xs →
    (x d : Seated) → Some x ≡ Some (slice_index_or xs k d) → x.view ≡ first_owner s honest 0
only_owner s honest table xs are one k end x d is =
    let single : xs ≡ Seats table (first_owner s honest) 1 = are ∙ ap (Seats table (first_owner s honest)) one in
    let low : k ≡ 0 = omega (arith, end, ap length single) in
    let here : slice_index_or xs k d ≡ record { table = table; view = first_owner s honest 0 } = ap (λ (z : List Seated). slice_index_or z k d) single ∙ ap (λ n. slice_index_or (Seats table (first_owner s honest) 1) n d) low in
    let same : x ≡ slice_index_or xs k d = cc in
    ap (λ (z : Seated). z.view) (same ∙ here)
