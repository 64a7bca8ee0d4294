-- A table whose keys are given as bytes, as a finite map.
use Rattle.std.proofs.Common.{◌≡◌, ◌≢◌, ℕ, ◌<◌, ◌-◌, Bool, true, false, cond, Option, Some, None, List, [], ◌∷◌, ◌&&◌, T, length, refl, sym, ◌∙◌, ap, subst, Less, is_lt, arith}
use Rattle.std.specs.Prelude.{is_some}
use Rattle.std.specs.Ordering.{nat_cmp, eq_by_cmp}
use Rattle.std.specs.Cmp.{eq_by_cmp_equiv}
use Rattle.std.specs.Cmp.Lexicographic.{slice_cmp, nat_list_cmp_total}
use Rattle.std.specs.FinMap as map
use Rattle.std.specs.FinMap.Entries.{below_all, is_sorted}
use Rattle.std.specs.List.{AllByRecursion}
use Rattle.std.specs.List.Sorted.{IsStrictlySortedBy}
use Rattle.std.specs.Map.{KeepsOthers, keys_of, lookup}
use Rattle.std.proofs.lemmas.List.{length-map}
use Rattle.far_map.proofs.Lookups.{ties}
use Rattle.far_dict.specs.Names.{rows}
use Rattle.far_dict.proofs.Keys.{by_tie, none_some, not_tied, same_values, tied}

both_hold : (a b : Bool) → T a → T b → T (a && b)
both_hold true b p q = q
both_hold false b p q = p

-- a map of rows that stand in order has them as they stand
pub listed : {X : Type 0} (es : List (List ℕ × X)) → T (is_sorted (slice_cmp nat_cmp) es) → map.entries (map.from_entries {R = slice_cmp nat_cmp} es) ≡ es
listed es sorted =
    ap map.entries (same_values (map.from_entries es) (map.from_sorted es) (λ q. map.get-from_entries nat_list_cmp_total es q ∙ sym (map.get-from_sorted (slice_cmp nat_cmp) es q sorted)))
    ∙ map.entries-from_sorted (slice_cmp nat_cmp) es sorted

-- a map that has a key has one more than without it
pub fewer : {X : Type 0} (m : map.FinMap (slice_cmp nat_cmp) X) (key : List ℕ) (x : X) → map.get m key ≡ Some x → map.len (map.remove m key) < map.len m
fewer m key x there =
    let less : map.len (map.remove m key) ≡ map.len m - 1 = map.len-remove nat_list_cmp_total m key ∙ ap (λ o. cond (is_some o) (map.len m - 1) (map.len m)) there in
    let some : map.len m ≢ 0 = λ none. none_some (ap (λ n. map.get n key) (map.empty_of_len m none) ∙ map.get-empty (slice_cmp nat_cmp) key) there in
    omega (arith, less, some)

apart : (q bs k : List ℕ) → q ≢ bs → tied bs k ≡ true → tied q k ≡ false
apart q bs k other here = not_tied q k (λ same. other (same ∙ sym ((ties bs k).0 here)))

module _ {K : Type 0} (key : K → List ℕ) where
  abbrev pub at : List ℕ → K → Bool
  at q k = tied q (key k)

  module _ {X : Type 0} where
    find_rows : (q : List ℕ) (es : List (K × X)) → map.find (slice_cmp nat_cmp) q (rows key es) ≡ lookup (at q) es
    find_rows q [] = refl
    find_rows q (e ∷ es) = ap (cond (tied q (key e.0)) (Some e.1)) (find_rows q es)

    pub row_value : (es : List (K × X)) (q : List ℕ) → map.get (map.from_entries {R = slice_cmp nat_cmp} (rows key es)) q ≡ lookup (at q) es
    row_value es q = map.get-from_entries nat_list_cmp_total (rows key es) q ∙ find_rows q es

    below_rows : (x : K) (es : List (K × X)) → AllByRecursion (λ y. slice_cmp nat_cmp (key x) (key y) ≡ Less) (keys_of es) → T (below_all (slice_cmp nat_cmp) (key x) (rows key es))
    below_rows x [] h = tt
    below_rows x (e ∷ es) h = both_hold _ _ (subst (λ r. T (is_lt r)) (sym h.0) tt) (below_rows x es h.1)

    sorted_rows : (es : List (K × X)) → IsStrictlySortedBy (λ x y. slice_cmp nat_cmp (key x) (key y)) (keys_of es) → T (is_sorted (slice_cmp nat_cmp) (rows key es))
    unfolding IsStrictlySortedBy
    sorted_rows [] h = tt
    sorted_rows (e ∷ es) h = both_hold _ _ (below_rows e.0 es h.0) (sorted_rows es h.1)

    pub row_entries : (es : List (K × X)) → IsStrictlySortedBy (λ x y. slice_cmp nat_cmp (key x) (key y)) (keys_of es) → map.entries (map.from_entries {R = slice_cmp nat_cmp} (rows key es)) ≡ rows key es
    row_entries es ordered = listed (rows key es) (sorted_rows es ordered)

    pub row_count : (es : List (K × X)) → IsStrictlySortedBy (λ x y. slice_cmp nat_cmp (key x) (key y)) (keys_of es) → map.len (map.from_entries {R = slice_cmp nat_cmp} (rows key es)) ≡ length es
    row_count es ordered = map.len-entries (map.from_entries (rows key es)) ∙ ap length (row_entries es ordered) ∙ length-map es (λ e. (key e.0, e.1))

    -- ---- a change at the key whose bytes are bs
    kept : (bs : List ℕ) (old new : List (K × X)) → KeepsOthers (eq_by_cmp (λ x y. slice_cmp nat_cmp (key x) (key y))) (at bs) old new → (q : List ℕ) → q ≢ bs → lookup (at q) new ≡ lookup (at q) old
    unfolding KeepsOthers
    kept bs old new keeps q other = keeps (at q) (λ x y. (eq_by_cmp_equiv nat_list_cmp_total).congr q (key x) (key y)) (λ k. apart q bs (key k) other)

    changed : (bs : List ℕ) (old new : List (K × X)) (w : Option X) → lookup (at bs) new ≡ w → KeepsOthers (eq_by_cmp (λ x y. slice_cmp nat_cmp (key x) (key y))) (at bs) old new →
        (q : List ℕ) → map.get (map.from_entries {R = slice_cmp nat_cmp} (rows key new)) q ≡ cond (tied q bs) w (map.get (map.from_entries {R = slice_cmp nat_cmp} (rows key old)) q)
    changed bs old new w here keeps q =
        row_value new q
        ∙ by_tie q bs (λ t. lookup (at q) new ≡ cond t w (map.get (map.from_entries {R = slice_cmp nat_cmp} (rows key old)) q))
        (λ same. subst (λ b. lookup (at b) new ≡ w) (sym same) here)
        (λ other. kept bs old new keeps q other ∙ sym (row_value old q))

    pub row_inserted : (bs : List ℕ) (old new : List (K × X)) (x : X) → lookup (at bs) new ≡ Some x → KeepsOthers (eq_by_cmp (λ x y. slice_cmp nat_cmp (key x) (key y))) (at bs) old new →
        map.from_entries {R = slice_cmp nat_cmp} (rows key new) ≡ map.insert (map.from_entries (rows key old)) bs x
    row_inserted bs old new x here keeps = same_values _ _ (λ q. changed bs old new (Some x) here keeps q ∙ sym (map.get-insert nat_list_cmp_total (map.from_entries (rows key old)) bs x q))

    pub row_removed : (bs : List ℕ) (old new : List (K × X)) → lookup (at bs) new ≡ None → KeepsOthers (eq_by_cmp (λ x y. slice_cmp nat_cmp (key x) (key y))) (at bs) old new →
        map.from_entries {R = slice_cmp nat_cmp} (rows key new) ≡ map.remove (map.from_entries (rows key old)) bs
    row_removed bs old new here keeps = same_values _ _ (λ q. changed bs old new None here keeps q ∙ sym (map.get-remove nat_list_cmp_total (map.from_entries (rows key old)) bs q))
