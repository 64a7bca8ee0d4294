-- A change at one key.
use Rattle.std.proofs.Common.{◌≡◌, ◌≢◌, ℕ, ◌⊎◌, inl, inr, true, false, cond, Option, Some, None, List, [], ◌∷◌, ◌&&◌, T, length, map as each, refl, sym, ◌∙◌, ap, subst, option_map, is_lt}
use Rattle.std.specs.Prelude.{is_some}
use Rattle.std.specs.Ordering.{nat_cmp}
use Rattle.std.specs.Cmp.Lexicographic.{slice_cmp, nat_list_cmp_total}
use Rattle.std.specs.FinMap as map
use Rattle.std.specs.FinMap.Entries.{below_all, is_sorted}
use Rattle.std.proofs.lemmas.List.{length-map}
use Rattle.far_objects.specs.Far.{Far}
use Rattle.far_large.specs.Parts.{AreOthers, IsNoPart, Parts}
use Rattle.far_map.specs.Table.{Entries}
use Rattle.far_dict.specs.Longs.{IsPart, IsWhole, Sound, entries_of, table_of, value_of}
use Rattle.far_dict.specs.Names.{Names}
use Rattle.far_dict.proofs.Keys.{by_tie, not_tied, same_or_other, same_values, tied, tied_itself}
use Rattle.far_dict.proofs.Rows.{listed}
use Rattle.far_dict.proofs.Keeping.{Keeps, flip, no_part}

-- ---- entries and names
module _ (f : Parts → List ℕ) where
  find_each : (q : List ℕ) (es : List (List ℕ × Parts)) → map.find (slice_cmp nat_cmp) q (each (λ e. (e.0, f e.1)) es) ≡ option_map f (map.find (slice_cmp nat_cmp) q es)
  find_each q [] = refl
  find_each q (e ∷ es) =
      elim (tied q e.0) as (λ t. cond t (Some (f e.1)) (map.find (slice_cmp nat_cmp) q (each (λ e. (e.0, f e.1)) es)) ≡ option_map f (cond t (Some e.1) (map.find (slice_cmp nat_cmp) q es))) [
        | true ↦ refl
        | false ↦ find_each q es
      ]

  below_each : (x : List ℕ) (es : List (List ℕ × Parts)) → below_all (slice_cmp nat_cmp) x (each (λ e. (e.0, f e.1)) es) ≡ below_all (slice_cmp nat_cmp) x es
  below_each x [] = refl
  below_each x (e ∷ es) = ap (λ b. is_lt (slice_cmp nat_cmp x e.0) && b) (below_each x es)

  sorted_each : (es : List (List ℕ × Parts)) → is_sorted (slice_cmp nat_cmp) (each (λ e. (e.0, f e.1)) es) ≡ is_sorted (slice_cmp nat_cmp) es
  sorted_each [] = refl
  sorted_each (e ∷ es) = λ i. below_each e.0 es i && sorted_each es i

pub entries_get : (far : Far) (names : Names) (q : List ℕ) → map.get (entries_of far names) q ≡ option_map (value_of far) (map.get names q)
entries_get far names q =
    map.get-from_entries nat_list_cmp_total (each (λ e. (e.0, value_of far e.1)) (map.entries names)) q ∙ find_each (value_of far) q (map.entries names)
    ∙ ap (option_map (value_of far)) (sym (map.get-entries names q))

pub entries_listed : (far : Far) (names : Names) → map.entries (entries_of far names) ≡ each (λ e. (e.0, value_of far e.1)) (map.entries names)
entries_listed far names = listed _ (subst T (sym (sorted_each (value_of far) (map.entries names))) (map.entries_sorted names))

pub entries_count : (far : Far) (names : Names) → map.len (entries_of far names) ≡ map.len names
entries_count far names =
    map.len-entries (entries_of far names) ∙ ap length (entries_listed far names) ∙ length-map (map.entries names) (λ e. (e.0, value_of far e.1)) ∙ sym (map.len-entries names)

some_mapped : (f : Parts → List ℕ) (o : Option Parts) → is_some (option_map f o) ≡ is_some o
some_mapped f None = refl
some_mapped f (Some l) = refl

pub entries_has : (far : Far) (names : Names) (q : List ℕ) → map.contains_key (entries_of far names) q ≡ map.contains_key names q
entries_has far names q = ap is_some (entries_get far names q) ∙ some_mapped (value_of far) (map.get names q)

pub entries_none : (far : Far) (names : Names) → names ≡ map.empty → entries_of far names ≡ map.empty
entries_none far names none =
    same_values _ _ (λ q. entries_get far names q ∙ ap (λ m. option_map (value_of far) (map.get m q)) none ∙ ap (option_map (value_of far)) (map.get-empty (slice_cmp nat_cmp) q) ∙ sym (map.get-empty (slice_cmp nat_cmp) q))

-- ---- a key has another value, or none, and the other keys have theirs
pub record Moved (far far' : Far) (names names' : Names) (key : List ℕ) (w : Option Parts) : Type 0 where
  pub get : (q : List ℕ) → map.get names' q ≡ cond (tied q key) w (map.get names q)
  pub stays : (q : List ℕ) (l : Parts) → q ≢ key → map.get names q ≡ Some l → Keeps l far far'
  pub here : (l : Parts) → w ≡ Some l → IsWhole far' l
  pub apart : (l : Parts) → w ≡ Some l → (q : List ℕ) (m : Parts) → q ≢ key → map.get names q ≡ Some m → AreOthers m l
  pub owned : (n size : ℕ) → far'.sizes n ≡ Some size → ((l : Parts) × (w ≡ Some l) × IsPart l n) ⊎ ((far.sizes n ≡ Some size) × ((l : Parts) → map.get names key ≡ Some l → IsNoPart l n))

module _ (far far' : Far) (names names' : Names) (key : List ℕ) (w : Option Parts) (sound : Sound far names) (m : Moved far far' names names' key w) where
  at_key : (q : List ℕ) → q ≡ key → map.get names' q ≡ w
  at_key q same = m.get q ∙ ap (λ t. cond t w (map.get names q)) (ap (λ k. tied k key) same ∙ tied_itself key)

  at_other : (q : List ℕ) → q ≢ key → map.get names' q ≡ map.get names q
  at_other q other = m.get q ∙ ap (λ t. cond t w (map.get names q)) (not_tied q key other)

  moved_apart : (j k : List ℕ) (a b : Parts) → j ≢ k → map.get names' j ≡ Some a → map.get names' k ≡ Some b → AreOthers a b
  moved_apart j k a b ne p q =
      elim (same_or_other j key) [
        | inl same ↦
            let other : k ≢ key = λ e. ne (same ∙ sym e) in
            flip b a (m.apart a (sym (at_key j same) ∙ p) k b other (sym (at_other k other) ∙ q))
        | inr other ↦ elim (same_or_other k key) [
          | inl same ↦ m.apart b (sym (at_key k same) ∙ q) j a other (sym (at_other j other) ∙ p)
          | inr too ↦ sound.apart j k a b ne (sym (at_other j other) ∙ p) (sym (at_other k too) ∙ q)
        ]
      ]

  pub moved_sound : Sound far' names'
  moved_sound = record {
    whole = λ k l e. elim (same_or_other k key) [
      | inl same ↦ m.here l (sym (at_key k same) ∙ e)
      | inr other ↦ (m.stays k l other (sym (at_other k other) ∙ e)).whole
    ];
    apart = moved_apart;
    owned = λ n size e. elim (m.owned n size e) [
      | inl part ↦ (key, part.0, at_key key refl ∙ part.1, part.2)
      | inr old ↦
          let was = sound.owned n size old.0 in
          let other : was.0 ≢ key = λ same. no_part was.1 n was.3 (old.1 was.1 (ap (map.get names) (sym same) ∙ was.2)) in
          (was.0, was.1, at_other was.0 other ∙ was.2, was.3)
    ];
  }

  value_stays : (q : List ℕ) → q ≢ key → (o : Option Parts) → map.get names q ≡ o → option_map (value_of far') o ≡ option_map (value_of far) o
  value_stays q other None e = refl
  value_stays q other (Some l) e = ap (λ v. Some v) (m.stays q l other e).value

  moved_get : (q : List ℕ) → map.get (entries_of far' names') q ≡ cond (tied q key) (option_map (value_of far') w) (map.get (entries_of far names) q)
  moved_get q =
      entries_get far' names' q ∙ ap (option_map (value_of far')) (m.get q)
      ∙ by_tie q key (λ t. option_map (value_of far') (cond t w (map.get names q)) ≡ cond t (option_map (value_of far') w) (map.get (entries_of far names) q))
      (λ same. refl) (λ other. value_stays q other (map.get names q) refl ∙ sym (entries_get far names q))

  pub moved_inserted : (l : Parts) → w ≡ Some l → ◌≡◌ {A = Entries} (entries_of far' names') (map.insert (entries_of far names) key (value_of far' l))
  moved_inserted l is =
      same_values _ _ (λ q. moved_get q ∙ ap (λ o. cond (tied q key) (option_map (value_of far') o) (map.get (entries_of far names) q)) is ∙ sym (map.get-insert nat_list_cmp_total (entries_of far names) key (value_of far' l) q))

  pub moved_removed : w ≡ None → ◌≡◌ {A = Entries} (entries_of far' names') (map.remove (entries_of far names) key)
  moved_removed is =
      same_values _ _ (λ q. moved_get q ∙ ap (λ o. cond (tied q key) (option_map (value_of far') o) (map.get (entries_of far names) q)) is ∙ sym (map.get-remove nat_list_cmp_total (entries_of far names) key q))

-- ---- nothing has changed
pub record Rests (far far' : Far) (names : Names) : Type 0 where
  pub honest : far'.honest ≡ far.honest
  pub stays : (q : List ℕ) (l : Parts) → map.get names q ≡ Some l → Keeps l far far'
  pub owned : (n size : ℕ) → far'.sizes n ≡ Some size → far.sizes n ≡ Some size

module _ (far far' : Far) (names : Names) (sound : Sound far names) (r : Rests far far' names) where
  pub rests_sound : Sound far' names
  rests_sound = record { whole = λ k l e. (r.stays k l e).whole; apart = sound.apart; owned = λ n size e. sound.owned n size (r.owned n size e) }

  value_rests : (q : List ℕ) (o : Option Parts) → map.get names q ≡ o → option_map (value_of far') o ≡ option_map (value_of far) o
  value_rests q None e = refl
  value_rests q (Some l) e = ap (λ v. Some v) (r.stays q l e).value

  rests_entries : ◌≡◌ {A = Entries} (entries_of far' names) (entries_of far names)
  rests_entries = same_values _ _ (λ q. entries_get far' names q ∙ value_rests q (map.get names q) refl ∙ sym (entries_get far names q))

  pub rests_table : table_of far' names ≡ table_of far names
  rests_table = λ i. record { honest = r.honest i; entries = rests_entries i }
