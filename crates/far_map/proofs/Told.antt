-- What a look-up tells of the map.
use Rattle.std.proofs.Common.{◌≡◌, ◌≢◌, ℕ, zero, suc, ◌<◌, ◌≤◌, true, false, cond, Option, Some, None, List, length, take, get_or, replicate, refl, sym, ◌∙◌, ap, subst}
use Rattle.std.specs.Prelude.{IfSome, IfNone, MatchOption, Bool}
use Rattle.std.proofs.lemmas.Bool.{both_ways}
use Rattle.std.specs.Option.{option_map}
use Rattle.std.specs.Cmp.Lexicographic.{nat_list_cmp_total, slice_cmp}
use Rattle.std.specs.Ordering.{nat_cmp, eq_by_cmp}
use Rattle.std.specs.FinMap as map
use Rattle.far_index.specs.declared.slot.Slot.{Slot}
use Rattle.far_index.specs.declared.slot.Slot.TheVariants.{Empty, Full}
use Rattle.far_map.specs.declared.lookup.Found.{Found}
use Rattle.far_map.specs.Entries.{entry_of, decoded, key_in}
use Rattle.far_map.specs.Finding.{Stands}
use Rattle.far_index.specs.Slots.{slot_at}
use Rattle.far_index.proofs.Words.{full_empty}
use Rattle.far_map.specs.Slots.{entry_in, key_at}
use Rattle.far_map.specs.Table.{Table, Entries}
use Rattle.far_map.specs.Plain.{Plain, Sound, table_of}
use Rattle.far_map.proofs.Lookups.{ties}
use Rattle.far_map.proofs.Outcomes.{is_absent, is_at, keyed, none_key, none_size}

pub isnt_there : (p : Plain) (t : Table) (key : List ℕ) (r : Option Found) → table_of p ≡ t → r ≡ None →
    (p.far.honest ≡ true → IfNone r ((i : ℕ) → key_at p.far.bytes p.slots i ≢ Some key)) → t.honest ≡ true → map.get t.entries key ≡ None
isnt_there p t key r v is none h =
    ap (λ (u : Table). map.get u.entries key) (sym v)
    ∙ is_absent p key (subst (λ x. IfNone x ((i : ℕ) → key_at p.far.bytes p.slots i ≢ Some key)) is (none (ap (λ (u : Table). u.honest) v ∙ h)))

pub is_found : (p : Plain) (t : Table) (key : List ℕ) (r : Option Found) (at : Found) (tag : ℕ) → table_of p ≡ t → Sound p → r ≡ Some at →
    IfSome r (Stands tag p.slots) → (p.far.honest ≡ true → IfSome r (λ q. key_in (p.far.bytes q.number) ≡ Some key)) → t.honest ≡ true →
    (value : List ℕ) × (map.get t.entries key ≡ Some value) × (entry_of (p.far.bytes at.number) ≡ Some (key, value))
is_found p t key r at tag v sound some stands is h =
    let o : p.far.honest ≡ true = ap (λ (u : Table). u.honest) v ∙ h in
    let here = subst (λ x. IfSome x (Stands tag p.slots)) some stands in
    let e = keyed (entry_of (p.far.bytes at.number)) key (subst (λ x. IfSome x (λ q. key_in (p.far.bytes q.number) ≡ Some key)) some (is o)) in
    (e.0, ap (λ (u : Table). map.get u.entries key) (sym v) ∙ is_at p at.place key e.0 (sound.distinct o) (ap (entry_in p.far.bytes) here.slot ∙ e.1), e.1)

pub has_value : (p : Plain) (t : Table) (key buffer : List ℕ) (r : Option Found) (at : Found) (tag : ℕ) → table_of p ≡ t → Sound p → r ≡ Some at →
    IfSome r (Stands tag p.slots) → (p.far.honest ≡ true → IfSome r (λ q. key_in (p.far.bytes q.number) ≡ Some key)) →
    (p.far.honest ≡ true → IfSome r (λ q. p.far.bytes q.number ≡ Some (take q.len buffer))) → t.honest ≡ true →
    (value : List ℕ) × (map.get t.entries key ≡ Some value) × (decoded (take at.len buffer) ≡ Some (key, value))
has_value p t key buffer r at tag v sound some stands is read h =
    let o : p.far.honest ≡ true = ap (λ (u : Table). u.honest) v ∙ h in
    let e = is_found p t key r at tag v sound some stands is h in
    let told : p.far.bytes at.number ≡ Some (take at.len buffer) = subst (λ x. IfSome x (λ q. p.far.bytes q.number ≡ Some (take q.len buffer))) some (read o) in
    (e.0, e.1, ap entry_of (sym told) ∙ e.2)

-- to take out what isn't there changes nothing
pub remove_absent : (m : Entries) (key : List ℕ) → map.get m key ≡ None → m ≡ map.remove m key
remove_absent m key none =
    map.same_map nat_list_cmp_total (map.slice_cmp-IsAntisymmetric map.nat_cmp-IsAntisymmetric) _ _ (λ q.
    elim (eq_by_cmp (slice_cmp nat_cmp) q key) as (λ t. eq_by_cmp (slice_cmp nat_cmp) q key ≡ t → map.get m q ≡ cond t None (map.get m q)) [
      | true ↦ λ p. ap (map.get m) ((ties q key).0 p) ∙ none
      | false ↦ λ p. refl
    ] refl
    ∙ sym (map.get-remove nat_list_cmp_total m key q))

-- ---- a new map
empties : (n j : ℕ) → get_or (replicate n Empty) j Empty ≡ Empty
empties zero j = refl
empties (suc n) zero = refl
empties (suc n) (suc j) = empties n j

pub all_replicated : (n : ℕ) (slots : List Slot) → slots ≡ replicate n Empty → (j : ℕ) → slot_at slots j ≡ Empty
all_replicated n slots is j = ap (λ ss. get_or ss j Empty) is ∙ empties n j

module _ (p : Plain) (some : 0 < p.buckets) (fits : p.buckets ≤ length p.slots) (all : (j : ℕ) → slot_at p.slots j ≡ Empty) (none : p.count ≡ 0) (alone : (h : ℕ) → p.far.sizes h ≡ None) where
  no_key : (q : List ℕ) (j : ℕ) → key_at p.far.bytes p.slots j ≢ Some q
  no_key q j e = none_key q (sym (ap (λ s. option_map (λ x. x.0) (entry_in p.far.bytes s)) (all j)) ∙ e)

  not_full : (j t h : ℕ) → slot_at p.slots j ≡ Full t h → ⊥
  not_full j t h e = full_empty t h (sym e ∙ all j)

  pub begins_empty : ◌≡◌ {A = Entries} (table_of p).entries map.empty
  begins_empty =
      map.same_map nat_list_cmp_total (map.slice_cmp-IsAntisymmetric map.nat_cmp-IsAntisymmetric) _ _
      (λ q. is_absent p q (no_key q) ∙ sym (map.get-empty (slice_cmp nat_cmp) q))

  pub begins_sound : Sound p
  begins_sound = record {
    some = some;
    fits = fits;
    reached = record {
      later = λ j t h e. absurd (not_full j t h e);
      through = λ j t h i e low high. absurd (not_full j t h e);
    };
    apart = λ i j t u h a b. absurd (not_full i t h a);
    held = λ j t h e. absurd (not_full j t h e);
    owned = λ h k e. absurd (none_size k (p.far.sizes h) (alone h) e);
    tagged = λ o j t h e. absurd (not_full j t h e);
    distinct = λ h i j key a b. absurd (no_key key i a);
    counted = λ h. none ∙ sym (map.len-empty (slice_cmp nat_cmp) (List ℕ)) ∙ ap map.len (sym begins_empty);
  }

-- ---- what was there is changed
pub by_value : (o : Option (List ℕ)) (there : Bool) (P : Type 0) (read : List ℕ) (Q : List ℕ → Type 0) → there ≡ true →
    MatchOption o (there ≡ false) (λ v. (there ≡ true) × (read ≡ v)) → ((v : List ℕ) → read ≡ v → Q v) → MatchOption o P Q
by_value None there P read Q is got f = absurd (both_ways there got is)
by_value (Some v) there P read Q is got f = f v got.1
