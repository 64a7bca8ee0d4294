-- The entries of two maps together.
use Rattle.std.proofs.Common.{◌≡◌, ℕ, suc, ◌+◌, Bool, true, false, cond, not, Option, Some, None, List, [], ◌∷◌, ◌++◌, ◌&&◌, T, length, refl, sym, ◌∙◌, ap, Less, Equal, Greater, Ordering, is_eq, is_lt, arith}
use Rattle.std.specs.Prelude.{MatchOption, is_some}
use Rattle.std.specs.Ordering.{nat_cmp}
use Rattle.std.specs.Cmp.Lexicographic.{slice_cmp, nat_list_cmp_total}
use Rattle.std.specs.FinMap as map
use Rattle.std.specs.FinMap.Entries.{below_all, is_sorted}
use Rattle.std.proofs.lemmas.Bool.{both_ways}
use Rattle.far_map.specs.Entries.{Entry}
use Rattle.far_map.specs.Table.{Entries, Table}
use Rattle.far_dict.specs.Dictionaries.{AreApart, both}
use Rattle.far_dict.proofs.Keys.{by_tie, same_values, tied, tied_itself}

-- the first, or else the second
abbrev pub or_else : Option (List ℕ) → Option (List ℕ) → Option (List ℕ)
or_else None y = y
or_else (Some x) y = Some x

pub else_none : (o : Option (List ℕ)) → or_else o None ≡ o
else_none None = refl
else_none (Some x) = refl

pub find_append : (q : List ℕ) (es fs : List Entry) → map.find (slice_cmp nat_cmp) q (es ++ fs) ≡ or_else (map.find (slice_cmp nat_cmp) q es) (map.find (slice_cmp nat_cmp) q fs)
find_append q [] fs = refl
find_append q (e ∷ es) fs =
    elim (tied q e.0) as (λ t. cond t (Some e.1) (map.find (slice_cmp nat_cmp) q (es ++ fs)) ≡ or_else (cond t (Some e.1) (map.find (slice_cmp nat_cmp) q es)) (map.find (slice_cmp nat_cmp) q fs)) [
      | true ↦ refl
      | false ↦ find_append q es fs
    ]

pub both_get : (a b : Entries) (q : List ℕ) → map.get (both a b) q ≡ or_else (map.get a q) (map.get b q)
both_get a b q =
    map.get-from_entries nat_list_cmp_total (map.entries a ++ map.entries b) q ∙ find_append q (map.entries a) (map.entries b)
    ∙ (λ i. or_else (sym (map.get-entries a q) i) (sym (map.get-entries b q) i))

-- ---- a change of one, of the other or of both
module _ (a b a' b' : Entries) (key : List ℕ) where
  both_at : (u v : Option (List ℕ)) → ((q : List ℕ) → map.get a' q ≡ cond (tied q key) u (map.get a q)) → ((q : List ℕ) → map.get b' q ≡ cond (tied q key) v (map.get b q)) →
      (q : List ℕ) → map.get (both a' b') q ≡ cond (tied q key) (or_else u v) (map.get (both a b) q)
  both_at u v p r q =
      both_get a' b' q ∙ (λ i. or_else (p q i) (r q i))
      ∙ elim (tied q key) as (λ t. or_else (cond t u (map.get a q)) (cond t v (map.get b q)) ≡ cond t (or_else u v) (or_else (map.get a q) (map.get b q))) [ true ↦ refl | false ↦ refl ]
      ∙ ap (cond (tied q key) (or_else u v)) (sym (both_get a b q))

  pub both_inserted : (u v : Option (List ℕ)) (value : List ℕ) → or_else u v ≡ Some value → ((q : List ℕ) → map.get a' q ≡ cond (tied q key) u (map.get a q)) → ((q : List ℕ) → map.get b' q ≡ cond (tied q key) v (map.get b q)) →
      both a' b' ≡ map.insert (both a b) key value
  both_inserted u v value is p r = same_values _ _ (λ q. both_at u v p r q ∙ ap (λ o. cond (tied q key) o (map.get (both a b) q)) is ∙ sym (map.get-insert nat_list_cmp_total (both a b) key value q))

  pub both_removed : (u v : Option (List ℕ)) → or_else u v ≡ None → ((q : List ℕ) → map.get a' q ≡ cond (tied q key) u (map.get a q)) → ((q : List ℕ) → map.get b' q ≡ cond (tied q key) v (map.get b q)) →
      both a' b' ≡ map.remove (both a b) key
  both_removed u v is p r = same_values _ _ (λ q. both_at u v p r q ∙ ap (λ o. cond (tied q key) o (map.get (both a b) q)) is ∙ sym (map.get-remove nat_list_cmp_total (both a b) key q))

-- how a map that is the same, that got a value, or that lost one stands to the old one
pub as_it_was : (m : Entries) (key : List ℕ) (o : Option (List ℕ)) → map.get m key ≡ o → (q : List ℕ) → map.get m q ≡ cond (tied q key) o (map.get m q)
as_it_was m key o is q = by_tie q key (λ t. map.get m q ≡ cond t o (map.get m q)) (λ same. ap (map.get m) same ∙ is) (λ other. refl)

pub as_inserted : (m n : Entries) (key value : List ℕ) → n ≡ map.insert m key value → (q : List ℕ) → map.get n q ≡ cond (tied q key) (Some value) (map.get m q)
as_inserted m n key value is q = ap (λ (x : Entries). map.get x q) is ∙ map.get-insert nat_list_cmp_total m key value q

pub as_removed : (m n : Entries) (key : List ℕ) → n ≡ map.remove m key → (q : List ℕ) → map.get n q ≡ cond (tied q key) None (map.get m q)
as_removed m n key is q = ap (λ (x : Entries). map.get x q) is ∙ map.get-remove nat_list_cmp_total m key q

-- a key that had none has none again
pub put_back : (m now new : Entries) (key value : List ℕ) → map.get m key ≡ None → now ≡ map.insert m key value → new ≡ map.remove now key → new ≡ m
put_back m now new key value none put taken =
    same_values _ _ (λ q. as_removed now new key taken q ∙ by_tie q key (λ t. cond t None (map.get now q) ≡ map.get m q)
    (λ same. sym (ap (map.get m) same ∙ none))
    (λ other. as_inserted m now key value put q ∙ by_tie q key (λ t. cond t (Some value) (map.get m q) ≡ map.get m q) (λ same. absurd (other same)) (λ o. refl)))

-- ---- no key is in both
no_key : (o : Option (List ℕ)) → is_some o ≡ true → o ≡ None → ⊥
no_key o h e = both_ways false refl (sym (ap is_some e) ∙ h)

-- the long one lost a key; the short one changed at that key alone
pub apart_short : (a b a' b' : Table) (key : List ℕ) (u : Option (List ℕ)) → a'.honest ≡ a.honest → AreApart a b → (a.honest ≡ true → (q : List ℕ) → map.get a'.entries q ≡ cond (tied q key) u (map.get a.entries q)) →
    b'.entries ≡ map.remove b.entries key → AreApart a' b'
apart_short a b a' b' key u same apart short long = λ honest q there.
    let was = sym same ∙ honest in
    let now = ap is_some (sym (as_removed b.entries b'.entries key long q)) ∙ there in
    short was q
    ∙ by_tie q key (λ t. is_some (cond t None (map.get b.entries q)) ≡ true → cond t u (map.get a.entries q) ≡ None)
    (λ e no. absurd (no_key None no refl)) (λ e so. apart was q so) now

-- the long one changed at a key that the short one has no more
pub apart_long : (a b a' b' : Table) (key v : List ℕ) → a'.honest ≡ a.honest → AreApart a b → (a.honest ≡ true → (q : List ℕ) → map.get a'.entries q ≡ cond (tied q key) None (map.get a.entries q)) →
    b'.entries ≡ map.insert b.entries key v → AreApart a' b'
apart_long a b a' b' key v same apart short long = λ honest q there.
    let was = sym same ∙ honest in
    let now = ap is_some (sym (as_inserted b.entries b'.entries key v long q)) ∙ there in
    short was q
    ∙ by_tie q key (λ t. is_some (cond t (Some v) (map.get b.entries q)) ≡ true → cond t None (map.get a.entries q) ≡ None)
    (λ e so. refl) (λ e so. apart was q so) now

-- ---- how many they are
less_other : (o : Ordering) → T (is_lt o) → is_eq o ≡ false
less_other Less p = refl
less_other Equal p = absurd p
less_other Greater p = absurd p

pub front : (a b : Bool) → T (a && b) → T a
front true b p = tt
front false b p = p

pub back : (a b : Bool) → T (a && b) → T b
back true b p = p
back false b p = absurd p

pub below_none : {X : Type 0} (x : List ℕ) (es : List (List ℕ × X)) → T (below_all (slice_cmp nat_cmp) x es) → map.find (slice_cmp nat_cmp) x es ≡ None
below_none x [] h = refl
below_none x (e ∷ es) h = ap (λ t. cond t (Some e.1) (map.find (slice_cmp nat_cmp) x es)) (less_other _ (front _ _ h)) ∙ below_none x es (back _ _ h)

-- a map has none of the keys of a list
abbrev HasNone : Entries → List Entry → Type 0
HasNone b es = (q : List ℕ) → is_some (map.find (slice_cmp nat_cmp) q es) ≡ true → map.get b q ≡ None

some_front : (e : Entry) (es : List Entry) → is_some (map.find (slice_cmp nat_cmp) e.0 (e ∷ es)) ≡ true
some_front e es = ap (λ t. is_some (cond t (Some e.1) (map.find (slice_cmp nat_cmp) e.0 es))) (tied_itself e.0)

some_behind : (e : Entry) (es : List Entry) (q : List ℕ) → is_some (map.find (slice_cmp nat_cmp) q es) ≡ true → is_some (map.find (slice_cmp nat_cmp) q (e ∷ es)) ≡ true
some_behind e es q h = elim (tied q e.0) as (λ t. is_some (cond t (Some e.1) (map.find (slice_cmp nat_cmp) q es)) ≡ true) [ true ↦ refl | false ↦ h ]

all_of : (b : Entries) → ◌≡◌ {A = Entries} (map.from_entries (map.entries b)) b
all_of b = same_values _ _ (λ q. map.get-from_entries nat_list_cmp_total (map.entries b) q ∙ sym (map.get-entries b q))

pub appended_count : (b : Entries) (es : List Entry) → T (is_sorted (slice_cmp nat_cmp) es) → HasNone b es → map.len (map.from_entries {R = slice_cmp nat_cmp} (es ++ map.entries b)) ≡ length es + map.len b
appended_count b [] sorted none = let sum : 0 + map.len b ≡ map.len b = omega arith in ap map.len (all_of b) ∙ sym sum
appended_count b (e ∷ es) sorted none =
    let m : Entries = map.from_entries (es ++ map.entries b) in
    let rest : map.len m ≡ length es + map.len b = appended_count b es (back _ _ sorted) (λ q h. none q (some_behind e es q h)) in
    let new : map.get m e.0 ≡ None =
    map.get-from_entries nat_list_cmp_total (es ++ map.entries b) e.0 ∙ find_append e.0 es (map.entries b)
    ∙ ap (λ o. or_else o (map.find (slice_cmp nat_cmp) e.0 (map.entries b))) (below_none e.0 es (front _ _ sorted)) ∙ sym (map.get-entries b e.0) ∙ none e.0 (some_front e es) in
    let more : map.len (map.insert m e.0 e.1) ≡ map.len m + 1 = map.len-insert nat_list_cmp_total m e.0 e.1 ∙ ap (λ o. cond (is_some o) (map.len m) (map.len m + 1)) new in
    let sum : map.len m + 1 ≡ suc (length es) + map.len b = omega (arith, rest) in
    more ∙ sum

-- what is in the one isn't in the other
turned : (a b : Option (List ℕ)) → (is_some b ≡ true → a ≡ None) → is_some a ≡ true → b ≡ None
turned a None h p = refl
turned a (Some v) h p = absurd (no_key a p (h refl))

pub both_count : (a b : Table) → AreApart a b → a.honest ≡ true → map.len (both a.entries b.entries) ≡ map.len a.entries + map.len b.entries
both_count a b apart honest =
    appended_count b.entries (map.entries a.entries) (map.entries_sorted a.entries)
    (λ q h. turned (map.get a.entries q) (map.get b.entries q) (apart honest q) (ap is_some (map.get-entries a.entries q) ∙ h))
    ∙ ap (λ n. n + map.len b.entries) (sym (map.len-entries a.entries))

-- ---- what calls tell
no_other : (s l : Option (List ℕ)) → (not (is_some s) && not (is_some l)) ≡ not (is_some (or_else s l))
no_other None l = refl
no_other (Some v) l = refl

pub new_to_both : (a b : Entries) (key : List ℕ) (new had : Bool) → new ≡ not (map.contains_key a key) → had ≡ map.contains_key b key → (new && not had) ≡ not (map.contains_key (both a b) key)
new_to_both a b key new had p q =
    (λ i. p i && not (q i)) ∙ no_other (map.get a key) (map.get b key) ∙ ap (λ o. not (is_some o)) (sym (both_get a b key))

some_long : (s l : Option (List ℕ)) → is_some l ≡ true → is_some (or_else s l) ≡ true
some_long None l h = h
some_long (Some v) l h = refl

pub in_long : (a b : Entries) (key : List ℕ) → map.contains_key b key ≡ true → map.contains_key (both a b) key ≡ true
in_long a b key h = ap is_some (both_get a b key) ∙ some_long (map.get a key) (map.get b key) h

some_short : (s l : Option (List ℕ)) → is_some l ≡ false → is_some (or_else s l) ≡ is_some s
some_short None l h = h
some_short (Some v) l h = refl

pub in_short : (a b : Entries) (key : List ℕ) → map.contains_key b key ≡ false → map.contains_key (both a b) key ≡ map.contains_key a key
in_short a b key h = ap is_some (both_get a b key) ∙ some_short (map.get a key) (map.get b key) h

pub none_there : (o : Option (List ℕ)) → is_some o ≡ false → o ≡ None
none_there None h = refl
none_there (Some v) h = absurd (both_ways true h refl)

pub not_true : (b : Bool) → true ≡ not b → b ≡ false
not_true true h = h
not_true false h = refl

pub not_false : (b : Bool) → false ≡ not b → b ≡ true
not_false true h = refl
not_false false h = h

-- what a look-up in the short ones told, and then one in the long ones
pub got_short : (s l : Option (List ℕ)) (there : Bool) (out : List ℕ) → there ≡ true → MatchOption s (there ≡ false) (λ v. (there ≡ true) × (out ≡ v)) → MatchOption (or_else s l) (true ≡ false) (λ v. (true ≡ true) × (out ≡ v))
got_short None l there out is got = absurd (both_ways there got is)
got_short (Some v) l there out is got = (refl, got.1)

pub got_none : (s : Option (List ℕ)) (there : Bool) (out : List ℕ) → there ≡ false → MatchOption s (there ≡ false) (λ v. (there ≡ true) × (out ≡ v)) → s ≡ None
got_none None there out is got = refl
got_none (Some v) there out is got = absurd (both_ways there is got.0)

-- ---- of tables without entries
pub apart_empty : (a b : Table) → b.entries ≡ map.empty → AreApart a b
apart_empty a b none = λ honest key there.
    absurd (no_key (map.get b.entries key) there (ap (λ (m : Entries). map.get m key) none ∙ map.get-empty (slice_cmp nat_cmp) key))

pub both_empty : (a b : Entries) → a ≡ map.empty → b ≡ map.empty → both a b ≡ map.empty
both_empty a b p q =
    same_values _ _ (λ k. both_get a b k
    ∙ (λ i. or_else ((ap (λ (m : Entries). map.get m k) p ∙ map.get-empty (slice_cmp nat_cmp) k) i) ((ap (λ (m : Entries). map.get m k) q ∙ map.get-empty (slice_cmp nat_cmp) k) i))
    ∙ sym (map.get-empty (slice_cmp nat_cmp) k))
