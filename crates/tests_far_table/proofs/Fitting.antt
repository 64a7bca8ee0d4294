-- What is known of the seats of a core that was shared.
use Rattle.std.proofs.Common.{◌≡◌, ◌+◌, ◌*◌, ◌/◌, ◌<◌, ℕ, Bool, true, false, cond, List, [], ◌∷◌, ◌++◌, length, sym, refl, ap, ◌∙◌, subst, arith, Option, Some, None, take}
use Rattle.std.specs.Prelude.{is_some, not, map, slice_index_or}
use Rattle.std.specs.List.{range_with_len}
use Rattle.std.proofs.lemmas.Bool.{false≢true}
use Rattle.std.proofs.lemmas.List.FromFn.{get_or-map-range_with_len, length-map-range_with_len, map-range_with_len_more, take-map-range_with_len}
use Rattle.atomic_table.specs.Seated.{TableId}
use Rattle.far_word.specs.declared.pointer.PtrWord.{PtrWord}
use Rattle.far_word.specs.declared.pointer.PtrWord.TheVariants.{Free, Near, Far}
use Rattle.far_word.specs.declared.sizes.TheConstants.{CELLS}
use Rattle.far_word.specs.Pointer.{read_of}
use Rattle.far_events.specs.state.Law.{Law, in_use}
use Rattle.far_events.specs.state.State.{State}
use Rattle.far_core.specs.world.WorldOf.{world_of}
use Rattle.far_core.proofs.ObjectFacts.{object_agrees}
use Rattle.far_table.specs.First.{first_owner, seen_object}
use Rattle.far_table.specs.Seats.{Seated}
use Rattle.far_table.specs.Stands.{Seats}
use Rattle.far_table.specs.Views.{len_of, said_len}
use Rattle.far_table.proofs.FirstViews.{first_held, first_object, first_soiled, first_uses}
use Rattle.tests_far_table.specs.declared.known.Known.{Known}
use Rattle.tests_far_table.specs.Fits.{Fits, Ready, known_of}

kept : (b : Bool) → not b ≡ true → b ≡ false
kept true z = sym z
kept false z = refl

-- ---- one owner
seen_len : (s : State) (p : ℕ) (x : Option PtrWord) → read_of (s.cell p) ≡ x → in_use x ≡ true → len_of (seen_object ((world_of s).object p)) ≡ said_len x
seen_len s p None e h = absurd (false≢true h)
seen_len s p (Some Free) e h = absurd (false≢true h)
seen_len s p (Some (Near len ds place m)) e h = let a = (object_agrees s p).near len ds place m e (kept m.dropped h) in ap (λ z. len_of (seen_object z)) a.1 ∙ a.4
seen_len s p (Some (Far len ds m)) e h = let a = (object_agrees s p).far len ds m e (kept m.dropped h) in ap (λ z. len_of (seen_object z)) a.1 ∙ a.4

long_as_said : (s : State) → Law s → (p : ℕ) (b : Bool) → s.used p ≡ b →
    len_of (cond b (seen_object ((world_of s).object p)) None) ≡ cond b (said_len (read_of (s.cell p))) 0
long_as_said s law p true used = seen_len s p (read_of (s.cell p)) refl (law.views.used_cell p used)
long_as_said s law p false used = refl

pub begins : (s : State) (honest : Bool) → Law s → (m : ℕ) → Fits (first_owner s honest m) (CELLS * m) (known_of s m)
begins s honest law m = let own : CELLS * m / CELLS ≡ m = omega arith in record {
  own = own;
  opened = refl;
  read = refl;
  used = first_uses s honest m (CELLS * m) own law;
  held = ap is_some (first_held s honest m (CELLS * m) own);
  soiled = first_soiled s honest m (CELLS * m) own;
  len = ap len_of (first_object s honest m (CELLS * m) own) ∙ long_as_said s law (CELLS * m) (s.used (CELLS * m)) refl;
}

-- ---- what all owners know
pub known_more : (s : State) (i : ℕ) (xs : List Known) (x : Known) → xs ≡ map (known_of s) (range_with_len 0 i) → x ≡ known_of s i → xs ++ x ∷ [] ≡ map (known_of s) (range_with_len 0 (i + 1))
known_more s i xs x e is = ap (λ (l : List Known). l ++ x ∷ []) e
    ∙ (ap (λ (z : Known). map (known_of s) (range_with_len 0 i) ++ z ∷ []) is ∙ sym (map-range_with_len_more (known_of s) 0 i i (omega arith)))

-- ---- the seats of a core as it was shared
pub are_ready : (core : State) (honest : Bool) (table : TableId) (seats : List Seated) (all : List Known) → Law core →
    seats ≡ Seats table (first_owner core honest) core.mutators → all ≡ map (known_of core) (range_with_len 0 core.mutators) → Ready seats all
are_ready core honest table seats all law seated known = let long : length seats ≡ core.mutators = ap length seated ∙ length-map-range_with_len _ 0 core.mutators in record {
  core = core;
  honest = honest;
  table = table;
  law = law;
  few = omega arith;
  seats_are = seated ∙ ap (Seats table (first_owner core honest)) (sym long);
  all_are = known;
}

-- ---- the last of the seats that are left
module _ (xs : List Seated) (all : List Known) (r : Ready xs all) (k : ℕ) (one : k + 1 ≡ length xs) where
  abbrev f : ℕ → Seated
  f m = record { table = r.table; view = first_owner r.core r.honest m }

  pub below_all : k < length all
  below_all = let few = r.few in let long = ap length r.all_are ∙ length-map-range_with_len (known_of r.core) 0 r.core.mutators in omega arith

  last_is : (d : Seated) → slice_index_or xs k d ≡ f k
  last_is d = ap (λ (z : List Seated). slice_index_or z k d) r.seats_are ∙ get_or-map-range_with_len f 0 (length xs) k k d (omega arith) (omega arith)

  known_is : (d : Known) → slice_index_or all k d ≡ known_of r.core k
  known_is d = let few = r.few in ap (λ (z : List Known). slice_index_or z k d) r.all_are ∙ get_or-map-range_with_len (known_of r.core) 0 r.core.mutators k k d (omega arith) (omega arith)

  pub fits_last : (n : ℕ) → n ≡ k → (x d : Seated) (e : Known) → Some x ≡ Some (slice_index_or xs k d) → Fits x.view (CELLS * n) (slice_index_or all n e)
  fits_last n at x d e is = let same : f k ≡ x = sym (last_is d) ∙ cc in
      let here : Fits x.view (CELLS * k) (slice_index_or all k e) = subst (λ z. Fits x.view (CELLS * k) z) (sym (known_is e)) (subst (λ (z : Seated). Fits z.view (CELLS * k) (known_of r.core k)) same (begins r.core r.honest r.law k)) in
      subst (λ n'. Fits x.view (CELLS * n') (slice_index_or all n' e)) (sym at) here

  pub left : (ys : List Seated) → ys ≡ take k xs → Ready ys all
  left ys is =
      let fewer : ys ≡ map f (range_with_len 0 k) = is ∙ (ap (take k) r.seats_are ∙ take-map-range_with_len f 0 (length xs) k (omega arith)) in
      let long : length ys ≡ k = ap length fewer ∙ length-map-range_with_len f 0 k in
      let few = r.few in record {
        core = r.core;
        honest = r.honest;
        table = r.table;
        law = r.law;
        few = omega arith;
        seats_are = fewer ∙ ap (λ n. map f (range_with_len 0 n)) (sym long);
        all_are = r.all_are;
      }
