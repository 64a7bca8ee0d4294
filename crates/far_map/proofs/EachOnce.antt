-- A list with a map's entries, as many as there are, has each of them once.
use Rattle.std.proofs.Common.{◌≡◌, ℕ, zero, suc, ◌+◌, ◌≤◌, Bool, true, false, cond, Option, Some, None, List, [], ◌∷◌, length, refl, sym, ◌∙◌, ap, subst, arith}
use Rattle.std.specs.Prelude.{slice_get, is_some}
use Rattle.std.specs.Ordering.{nat_cmp, eq_by_cmp}
use Rattle.std.specs.Cmp.Lexicographic.{slice_cmp, nat_list_cmp_total}
use Rattle.std.specs.FinMap as map
use Rattle.std.proofs.lemmas.Bool.{both_ways}
use Rattle.far_map.specs.Entries.{Entry}
use Rattle.far_map.specs.Laws.{EntriesAreTold}
use Rattle.far_map.specs.Listed.{AreAllOf}
use Rattle.far_map.specs.Table.{Entries}
use Rattle.far_map.proofs.Lookups.{ties}

abbrev of_list : List Entry → Entries
of_list es = map.from_entries es

abbrev value_in : List ℕ → List Entry → Option (List ℕ)
value_in q es = map.find (slice_cmp nat_cmp) q es

-- no key comes again behind an entry that has it
abbrev KeysApart : List Entry → Type 0
KeysApart [] = Unit {0}
KeysApart (e ∷ es) = (value_in e.0 es ≡ None) × KeysApart es

few_more : (o : Option (List ℕ)) (n l : ℕ) → n ≤ l → cond (is_some o) n (n + 1) ≤ suc l
few_more None n l le = omega (arith, le)
few_more (Some v) n l le = omega (arith, le)

few : (es : List Entry) → map.len (of_list es) ≤ length es
few [] = let none : map.len (of_list []) ≡ 0 = map.len-empty (slice_cmp nat_cmp) (List ℕ) in omega (arith, none)
few (e ∷ es) =
    subst (λ k. k ≤ suc (length es)) (sym (map.len-insert nat_list_cmp_total (of_list es) e.0 e.1))
    (few_more (map.get (of_list es) e.0) (map.len (of_list es)) (length es) (few es))

is_new : (o : Option (List ℕ)) (n l : ℕ) → n ≤ l → suc l ≡ cond (is_some o) n (n + 1) → (o ≡ None) × (l ≡ n)
is_new None n l le e = (refl, omega (arith, e))
is_new (Some v) n l le e = absurd (omega (arith, le, e))

keys_apart : (es : List Entry) → length es ≡ map.len (of_list es) → KeysApart es
keys_apart [] is = tt
keys_apart (e ∷ es) is =
    let new = is_new (map.get (of_list es) e.0) (map.len (of_list es)) (length es) (few es) (is ∙ map.len-insert nat_list_cmp_total (of_list es) e.0 e.1) in
    (sym (map.get-from_entries nat_list_cmp_total es e.0) ∙ new.0, keys_apart es new.1)

by_tie : (q k : List ℕ) (P : Bool → Type 0) → (q ≡ k → P true) → ((q ≡ k → ⊥) → P false) → P (eq_by_cmp (slice_cmp nat_cmp) q k)
by_tie q k P same other =
    elim (eq_by_cmp (slice_cmp nat_cmp) q k) as (λ t. eq_by_cmp (slice_cmp nat_cmp) q k ≡ t → P t) [
      | true ↦ λ p. same ((ties q k).0 p)
      | false ↦ λ p. other (λ e. both_ways (eq_by_cmp (slice_cmp nat_cmp) q k) p ((ties q k).1 e))
    ] refl

none_entry : (x : Entry) → ◌≡◌ {A = Option Entry} None (Some x) → ⊥
none_entry x e = cc

none_value : (v : List ℕ) → ◌≡◌ {A = Option (List ℕ)} None (Some v) → ⊥
none_value v e = cc

same_entry : (x y : Entry) → ◌≡◌ {A = Option Entry} (Some x) (Some y) → x ≡ y
same_entry x y e = cc

same_value : (v w : List ℕ) → ◌≡◌ {A = Option (List ℕ)} (Some v) (Some w) → v ≡ w
same_value v w e = cc

at_place : (es : List Entry) (i : ℕ) (key v : List ℕ) → KeysApart es → slice_get es i ≡ Some (key, v) → value_in key es ≡ Some v
at_place [] i key v apart e = absurd (none_entry (key, v) e)
at_place (x ∷ es) zero key v apart e =
    subst (λ (y : Entry). value_in key (y ∷ es) ≡ Some v) (sym (same_entry x (key, v) e))
    (by_tie key key (λ t. cond t (Some v) (value_in key es) ≡ Some v) (λ same. refl) (λ other. absurd (other refl)))
at_place (x ∷ es) (suc i) key v apart e =
    let there = at_place es i key v apart.1 e in
    by_tie key x.0 (λ t. cond t (Some x.1) (value_in key es) ≡ Some v)
    (λ same. absurd (none_value v (sym (subst (λ k. value_in k es ≡ None) (sym same) apart.0) ∙ there))) (λ other. there)

-- an entry's key comes at no place behind it
not_behind : (x : Entry) (es : List Entry) (j : ℕ) (key v w : List ℕ) → KeysApart (x ∷ es) → ◌≡◌ {A = Option Entry} (Some x) (Some (key, v)) → slice_get es j ≡ Some (key, w) → ⊥
not_behind x es j key v w apart here there =
    none_value w (sym (subst (λ (y : Entry). value_in y.0 es ≡ None) (same_entry x (key, v) here) apart.0) ∙ at_place es j key w apart.1 there)

one_place : (es : List Entry) (i j : ℕ) (key v w : List ℕ) → KeysApart es → slice_get es i ≡ Some (key, v) → slice_get es j ≡ Some (key, w) → i ≡ j
one_place [] i j key v w apart p q = absurd (none_entry (key, v) p)
one_place (x ∷ es) zero zero key v w apart p q = refl
one_place (x ∷ es) zero (suc j) key v w apart p q = absurd (not_behind x es j key v w apart p q)
one_place (x ∷ es) (suc i) zero key v w apart p q = absurd (not_behind x es i key w v apart q p)
one_place (x ∷ es) (suc i) (suc j) key v w apart p q = ap suc (one_place es i j key v w apart.1 p q)

some_place : (es : List Entry) (key v : List ℕ) → value_in key es ≡ Some v → (i : ℕ) × (slice_get es i ≡ Some (key, v))
some_place [] key v e = absurd (none_value v e)
some_place (x ∷ es) key v e =
    by_tie key x.0 (λ t. cond t (Some x.1) (value_in key es) ≡ Some v → (i : ℕ) × (slice_get (x ∷ es) i ≡ Some (key, v)))
    (λ same h. (zero, λ k. Some (sym same k, same_value x.1 v h k)))
    (λ other h. let rest = some_place es key v h in (suc rest.0, rest.1)) e

got : (told : List Entry) (entries : Entries) (key : List ℕ) → AreAllOf told entries → map.get entries key ≡ value_in key told
got told entries key all = ap (λ (m : Entries). map.get m key) (sym all.are) ∙ map.get-from_entries nat_list_cmp_total told key

told_apart : (told : List Entry) (entries : Entries) → AreAllOf told entries → KeysApart told
told_apart told entries all = keys_apart told (all.once ∙ ap (λ (m : Entries). map.len m) (sym all.are))

pub entries_told : EntriesAreTold
entries_told = record {
  there = λ told entries i key v all e. got told entries key all ∙ at_place told i key v (told_apart told entries all) e;
  once = λ told entries i j key v w all p q. one_place told i j key v w (told_apart told entries all) p q;
  each = λ told entries key v all e. some_place told key v (sym (got told entries key all) ∙ e);
}
