-- Entries told one by one.
use Rattle.std.proofs.Common.{◌≡◌, ℕ, zero, suc, ◌+◌, ◌<◌, Bool, true, false, Option, Some, None, List, [], ◌∷◌, ◌++◌, ◌&&◌, length, drop, map as each, refl, sym, ◌∙◌, ap, subst, arith}
use Rattle.std.specs.Prelude.{MatchOption, nat_le, slice_get, slice_index_or, if◌then◌else◌}
use Rattle.std.specs.Ordering.{nat_cmp}
use Rattle.std.specs.Cmp.Lexicographic.{slice_cmp}
use Rattle.std.specs.FinMap as map
use Rattle.std.specs.List.Sorted.{IsStrictlySortedBy}
use Rattle.std.specs.Map.{keys_of}
use Rattle.std.proofs.lemmas.Bool.{both_ways}
use Rattle.far_objects.specs.Far.{Far}
use Rattle.far_large.specs.Parts.{Parts}
use Rattle.far_map.specs.Entries.{Entry}
use Rattle.far_map.specs.Table.{Table}
use Rattle.far_map.specs.Walks.{TellsNext, Walked as ShortWalked}
use Rattle.far_map.proofs.EachOnce.{entries_told}
use Rattle.far_dict.specs.Longs.{entries_of, valued}
use Rattle.far_dict.specs.Names.{Names, names_in, rows}
use Rattle.far_dict.specs.Walks.{AreNames, Walked, walked}
use Rattle.far_dict.proofs.Rows.{row_entries}
use Rattle.far_dict.proofs.Tables.{entries_listed}
use Rattle.far_dict.proofs.Told.{listed_all}

-- ---- the keys of a table, as they are copied
module _ {K : Type 0} (key : K → List ℕ) where
  abbrev pub heads : List (K × Parts) → List (List ℕ)
  heads es = each (λ e. e.0) (rows key es)

  pub begun : (all iter : List (K × Parts)) (ns : List K) → ns ≡ [] → iter ≡ all → IsStrictlySortedBy (λ x y. slice_cmp nat_cmp (key x) (key y)) (keys_of all) → each key ns ++ heads iter ≡ map.keys (names_in key all)
  begun all iter ns none same ordered = (λ i. each key (none i) ++ heads (same i)) ∙ ap (each (λ e. e.0)) (sym (row_entries key all ordered))

heads_valued : (far : Far) (es : List (List ℕ × Parts)) → each (λ (e : Entry). e.0) (valued far es) ≡ each (λ (e : List ℕ × Parts). e.0) es
heads_valued far [] = refl
heads_valued far (e ∷ es) = ap (λ xs. e.0 ∷ xs) (heads_valued far es)

pub keys_listed : (far : Far) (names : Names) → map.keys (entries_of far names) ≡ map.keys names
keys_listed far names = ap (each (λ (e : Entry). e.0)) (entries_listed far names) ∙ heads_valued far (map.entries names)

-- ---- the next one
first : List (List ℕ) → List ℕ
first [] = []
first (x ∷ xs) = x

others : List (List ℕ) → List (List ℕ)
others [] = []
others (x ∷ xs) = xs

module _ {K : Type 0} (key : K → List ℕ) where
  at_name : (ks : List K) (es : List Entry) (n : ℕ) (x : K) → each key ks ≡ each (λ e. e.0) es → n < length ks → x ≡ slice_index_or ks n x → (e : Entry) × (drop n es ≡ e ∷ drop (suc n) es) × (key x ≡ e.0) × (slice_get es n ≡ Some e)
  unfolding first others
  at_name [] es n x same low is = absurd (omega (arith, low))
  at_name (k ∷ ks) [] n x same low is = let none : suc (length (each key ks)) ≡ 0 = ap length same in absurd (omega (arith, none))
  at_name (k ∷ ks) (e ∷ es) zero x same low is = (e, refl, ap key is ∙ ap first same, refl)
  at_name (k ∷ ks) (e ∷ es) (suc n) x same low is = at_name ks es n x (ap others same) (omega (arith, low)) is

  pub next_long : (ks : List K) (long : Table) (n : ℕ) (x : K) (q : List ℕ) → AreNames (each key ks) long → n < length ks → x ≡ slice_index_or ks n x → q ≡ key x →
      (e : Entry) × (drop n (map.entries long.entries) ≡ e ∷ drop (n + 1) (map.entries long.entries)) × (q ≡ e.0) × (map.get long.entries q ≡ Some e.1)
  next_long ks long n x q names low is same =
      let here = at_name ks (map.entries long.entries) n x names low is in
      let next : suc n ≡ n + 1 = omega arith in
      let e = here.0 in
      let at : q ≡ e.0 = same ∙ here.2 in (
        e,
        here.1 ∙ ap (λ k. e ∷ drop k (map.entries long.entries)) next,
        at,
        ap (map.get long.entries) at ∙ entries_told.there (map.entries long.entries) long.entries n e.0 e.1 (listed_all long.entries) here.3,
      )

pub no_short : (m n : ℕ) (es rest : List Entry) (there : Bool) (key value : List ℕ) → there ≡ false → TellsNext m n es there key value rest → (es ≡ []) × (rest ≡ [])
no_short m n [] rest there key value none told = (refl, told.1)
no_short m n (e ∷ es) rest there key value none told = absurd (both_ways there none told.0)

-- none of the short ones is left
pub rest_long : (short : ShortWalked) (long : Table) (n : ℕ) (w : Walked) → walked short long n ≡ w → short.rest ≡ [] → w.rest ≡ drop n (map.entries long.entries)
rest_long short long n w view none = sym (ap (λ (x : Walked). x.rest) view) ∙ ap (λ es. es ++ drop n (map.entries long.entries)) none

none_some : (v : List ℕ) → ◌≡◌ {A = Option (List ℕ)} None (Some v) → ⊥
none_some v e = cc

same_some : (v w : List ℕ) → ◌≡◌ {A = Option (List ℕ)} (Some v) (Some w) → v ≡ w
same_some v w e = cc

pub value_is : (o : Option (List ℕ)) (there : Bool) (v out : List ℕ) → o ≡ Some v → MatchOption o (there ≡ false) (λ value. (there ≡ true) × (out ≡ value)) → (there ≡ true) × (out ≡ v)
value_is None there v out is got = absurd (none_some v is)
value_is (Some x) there v out is got = (got.0, got.1 ∙ same_some x v is)

module _ (m n : ℕ) (old new : List Entry) (e : Entry) (rest : List Entry) (key value : List ℕ) (is : old ≡ e ∷ rest) (same_key : key ≡ e.0) (same_value : value ≡ e.1) where
  pub told_next : (b : Bool) → b ≡ (nat_le (length key) m && nat_le (length value) n) → new ≡ (if b then rest else (e ∷ rest)) → TellsNext m n old true key value new
  told_next b fits after =
      subst (λ es. TellsNext m n es true key value new) (sym is)
      (refl, same_key, same_value, after ∙ (λ i. if (fits ∙ (λ j. nat_le (length (same_key j)) m && nat_le (length (same_value j)) n)) i then rest else (e ∷ rest)))
