-- All entries, the short ones and then the long ones.
use Rattle.std.proofs.Common.{◌≡◌, ℕ, ◌+◌, true, Some, Result, Ok, Err, IfOk, OnOk, List, [], ◌∷◌, ◌++◌, length-append, append_assoc, refl, sym, ◌∙◌, ap, subst}
use Rattle.std.specs.Prelude.{slice_index_or}
use Rattle.std.specs.Ordering.{nat_cmp}
use Rattle.std.specs.Cmp.Lexicographic.{slice_cmp, nat_list_cmp_total}
use Rattle.std.specs.FinMap as map
use Rattle.std.specs.List.{All, FoldsTo}
use Rattle.std.specs.Map.{lookup}
use Rattle.std.proofs.lemmas.List.{length-map}
use Rattle.std.proofs.lemmas.List.Elements.{recursion_from_All}
use Rattle.far_word.specs.declared.refused.Refused.{Refused}
use Rattle.far_objects.specs.Far.{Far}
use Rattle.far_large.specs.Parts.{Parts}
use Rattle.far_map.specs.Entries.{Entry}
use Rattle.far_map.specs.Listed.{AreAllOf, FoldsAll, FoldsUntil, StepsAtEach, Stops}
use Rattle.far_map.specs.Table.{Entries, Table}
use Rattle.far_dict.specs.Dictionaries.{AreApart, Dictionary, IsHonest, both, dictionary_of}
use Rattle.far_dict.specs.Longs.{AreWhole, IsWhole, entries_of, table_of, value_of, valued}
use Rattle.far_dict.specs.Names.{Names, names_in}
use Rattle.far_dict.proofs.Keys.{same_values}
use Rattle.far_dict.proofs.Rows.{at, row_value}
use Rattle.far_dict.proofs.Tables.{entries_count}
use Rattle.far_dict.proofs.Union.{both_count, both_get, find_append, or_else}

-- each row of a table that finds its own rows is whole
pub rows_whole : {K : Type 0} (key : K → List ℕ) (far : Far) (es : List (K × Parts)) → All (λ (e : K × Parts). lookup (at key (key e.0)) es ≡ Some e.1) es →
    ((k : List ℕ) (l : Parts) → map.get (names_in key es) k ≡ Some l → IsWhole far l) → AreWhole far es
rows_whole {K} key far es found whole =
    recursion_from_All (λ (e : K × Parts). IsWhole far e.1) es (λ k d h.
    (let e : K × Parts = slice_index_or es k d in
    whole (key e.0) e.1 (row_value key es (key e.0) ∙ found k d h)))

-- ---- lists of all entries
pub valued_all : (far : Far) (names : Names) → AreAllOf (valued far (map.entries names)) (entries_of far names)
valued_all far names = record {
  are = refl;
  once = length-map (map.entries names) (λ e. (e.0, value_of far e.1)) ∙ sym (map.len-entries names) ∙ sym (entries_count far names);
}

find_in : (told : List Entry) (m : Entries) (q : List ℕ) → AreAllOf told m → map.find (slice_cmp nat_cmp) q told ≡ map.get m q
find_in told m q all = sym (map.get-from_entries nat_list_cmp_total told q) ∙ ap (λ (n : Entries). map.get n q) all.are

pub listed_all : (m : Entries) → AreAllOf (map.entries m) m
listed_all m = record {
  are = same_values _ _ (λ q. map.get-from_entries nat_list_cmp_total (map.entries m) q ∙ sym (map.get-entries m q));
  once = sym (map.len-entries m);
}

pub all_of_both : (a b : Table) (s t : List Entry) → AreApart a b → a.honest ≡ true → AreAllOf s a.entries → AreAllOf t b.entries → AreAllOf (s ++ t) (both a.entries b.entries)
all_of_both a b s t apart honest of_a of_b = record {
  are =
      same_values _ _ (λ q. map.get-from_entries nat_list_cmp_total (s ++ t) q ∙ find_append q s t
      ∙ (λ i. or_else (find_in s a.entries q of_a i) (find_in t b.entries q of_b i)) ∙ sym (both_get a.entries b.entries q));
  once = length-append s t ∙ (λ i. of_a.once i + of_b.once i) ∙ sym (both_count a b apart honest);
}

module _ (a b : Table) (d : Dictionary) (view : dictionary_of a b ≡ d) (apart : AreApart a b) (h : IsHonest d) where
  pub all_of_dict : (s t : List Entry) → AreAllOf s a.entries → AreAllOf t b.entries → AreAllOf (s ++ t) d.entries
  all_of_dict s t of_a of_b =
      subst (λ (x : Dictionary). AreAllOf (s ++ t) x.entries) view (all_of_both a b s t apart (ap (λ (x : Dictionary). x.honest) view ∙ h.short) of_a of_b)

-- ---- steps, one after the other
folds_append : {P X : Type 0} (R : P → X → P → Type 0) (xs ys : List X) (p q r : P) → FoldsTo R p xs q → FoldsTo R q ys r → FoldsTo R p (xs ++ ys) r
folds_append R [] ys p q r e then = subst (λ k. FoldsTo R k ys r) (sym e) then
folds_append R (x ∷ xs) ys p q r first then = (first.0, first.1, folds_append R xs ys first.0 q r first.2 then)

module _ {F : Type 0} (step : F → List ℕ → List ℕ → F → Type 0) where
  pub long_told : (r : Result (Unit {0}) Refused) (far : Far) (names : Names) (t : Table) (f last : F) → table_of far names ≡ t → t.honest ≡ true →
      (far.honest ≡ true → OnOk r (StepsAtEach step f (valued far (map.entries names)) last)) → OnOk r ((told : List Entry) × AreAllOf told t.entries × StepsAtEach step f told last)
  long_told (Ok u) far names t f last view h called =
      (valued far (map.entries names), subst (λ (x : Table). AreAllOf (valued far (map.entries names)) x.entries) view (valued_all far names), called (ap (λ (x : Table). x.honest) view ∙ h))
  long_told (Err e) far names t f last view h called = called (ap (λ (x : Table). x.honest) view ∙ h)

  pub both_told : (r : Result (Unit {0}) Refused) (a b : Table) (d : Dictionary) (f mid last : F) → dictionary_of a b ≡ d → AreApart a b → IsHonest d → ((told : List Entry) × AreAllOf told a.entries × StepsAtEach step f told mid) →
      OnOk r ((told : List Entry) × AreAllOf told b.entries × StepsAtEach step mid told last) → OnOk r ((told : List Entry) × AreAllOf told d.entries × StepsAtEach step f told last)
  both_told (Ok u) a b d f mid last view apart h first then =
      (first.0 ++ then.0, all_of_dict a b d view apart h first.0 then.0 first.1 then.1, folds_append (λ p (e : Entry) q. step p e.0 e.1 q) first.0 then.0 f mid last first.2 then.2)
  both_told (Err e) a b d f mid last view apart h first then = then

  pub to_last : (r : Result (Unit {0}) Refused) (d : Dictionary) (f last : F) → OnOk r ((told : List Entry) × AreAllOf told d.entries × StepsAtEach step f told last) →
      OnOk r ((told : List Entry) × AreAllOf told d.entries × (last : F) × StepsAtEach step f told last)
  to_last (Ok u) d f last so = (so.0, so.1, last, so.2)
  to_last (Err e) d f last so = so

-- ---- the same until a step is refused
module _ {A E : Type 0} (step : A → List ℕ → List ℕ → Result A E → Type 0) where
  pub long_folded : (r : Result (Result A E) Refused) (far : Far) (names : Names) (t : Table) (a : A) → table_of far names ≡ t → t.honest ≡ true →
      (far.honest ≡ true → IfOk r (FoldsUntil step a (valued far (map.entries names)))) → IfOk r (λ x. (told : List Entry) × AreAllOf told t.entries × FoldsUntil step a told x)
  long_folded (Ok x) far names t a view h folded =
      (valued far (map.entries names), subst (λ (x : Table). AreAllOf (valued far (map.entries names)) x.entries) view (valued_all far names), folded (ap (λ (x : Table). x.honest) view ∙ h))
  long_folded (Err e) far names t a view h folded = folded (ap (λ (x : Table). x.honest) view ∙ h)

  until_then : (s t : List Entry) (a b : A) (x : Result A E) → FoldsAll step a s b → FoldsUntil step b t x → FoldsUntil step a (s ++ t) x
  until_then s t a b (Ok c) first then = folds_append (λ p (e : Entry) q. step p e.0 e.1 (Ok q)) s t a b c first then
  until_then s t a b (Err why) first then = record {
    done = s ++ then.done;
    entry = then.entry;
    rest = then.rest;
    is = ap (λ (xs : List Entry). s ++ xs) then.is ∙ sym (append_assoc s then.done (then.entry ∷ then.rest));
    made = then.made;
    steps = folds_append (λ p (e : Entry) q. step p e.0 e.1 (Ok q)) s then.done a b then.made first then.steps;
    stop = then.stop;
  }

  until_stopped : (s t : List Entry) (a : A) (why : E) → Stops step a s why → Stops step a (s ++ t) why
  until_stopped s t a why so = record {
    done = so.done;
    entry = so.entry;
    rest = so.rest ++ t;
    is = ap (λ (xs : List Entry). xs ++ t) so.is ∙ append_assoc so.done (so.entry ∷ so.rest) t;
    made = so.made;
    steps = so.steps;
    stop = so.stop;
  }

  module _ (a b : Table) (d : Dictionary) (view : dictionary_of a b ≡ d) (apart : AreApart a b) (h : IsHonest d) where
    pub both_folded : (r : Result (Result A E) Refused) (s : Result A E) (x y : A) → s ≡ Ok y → ((told : List Entry) × AreAllOf told a.entries × FoldsUntil step x told s) →
        IfOk r (λ z. (told : List Entry) × AreAllOf told b.entries × FoldsUntil step y told z) → IfOk r (λ z. (told : List Entry) × AreAllOf told d.entries × FoldsUntil step x told z)
    both_folded (Ok z) s x y is first then =
        (first.0 ++ then.0, all_of_dict a b d view apart h first.0 then.0 first.1 then.1, until_then first.0 then.0 x y z (subst (FoldsUntil step x first.0) is first.2) then.2)
    both_folded (Err e) s x y is first then = then

    pub short_stopped : (s : Result A E) (x : A) (why : E) → s ≡ Err why → ((told : List Entry) × AreAllOf told a.entries × FoldsUntil step x told s) → (told : List Entry) × AreAllOf told d.entries × FoldsUntil step x told (Err why)
    short_stopped s x why is first = (
      first.0 ++ map.entries b.entries,
      all_of_dict a b d view apart h first.0 (map.entries b.entries) first.1 (listed_all b.entries),
      until_stopped first.0 (map.entries b.entries) x why (subst (FoldsUntil step x first.0) is first.2),
    )
