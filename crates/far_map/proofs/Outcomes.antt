-- What the steps make of the parts.
use Rattle.std.proofs.Common.{◌≡◌, ◌≢◌, ℕ, ◌+◌, ◌-◌, ◌<◌, ◌≤◌, true, cond, Option, Some, None, List, length, refl, sym, ◌∙◌, ap, subst, inl, inr, arith}
use Rattle.std.specs.Prelude.{is_some}
use Rattle.std.specs.Option.{option_map}
use Rattle.std.specs.Cmp.Lexicographic.{nat_list_cmp_total}
use Rattle.std.specs.FinMap as map
use Rattle.far_objects.specs.Far.{Far}
use Rattle.std.proofs.lemmas.Bool.{cases_eq}
use Rattle.far_index.specs.declared.slot.Slot.{Slot}
use Rattle.far_index.specs.declared.slot.Slot.TheVariants.{Empty, Gone, Full}
use Rattle.far_map.specs.Entries.{Entry, entry_of, encoded, key_in}
use Rattle.far_index.specs.Slots.{slot_at, home, Reached}
use Rattle.far_index.proofs.Words.{full_empty, full_tag, full_number}
use Rattle.far_index.proofs.Reaching.{is_reached, same_reached}
use Rattle.far_map.specs.Slots.{Bytes, entry_in, entries_in, key_at, Held, Tagged, Distinct}
use Rattle.far_index.specs.Tags.{tag_of}
use Rattle.far_map.specs.Finding.{AreEntries}
use Rattle.far_map.specs.Plain.{Plain, Sound, table_of}
use Rattle.far_map.proofs.Lookups.{at, none_found, alike, one_found, at_other, at_same}
use Rattle.far_map.proofs.Encodings.{decoded-encoded}
use Rattle.far_map.proofs.Changes.{Change, is_inserted, is_removed, is_distinct, is_apart, is_tagged, is_held, is_owned}

-- ---- slots that say the same, and the same objects
pub record Same (p n : Plain) : Type 0 where
  pub far : n.far ≡ p.far
  pub seed : n.seed ≡ p.seed
  pub slots : (j : ℕ) → slot_at n.slots j ≡ slot_at p.slots j
  pub longer : length p.slots ≤ length n.slots
  pub buckets : n.buckets ≡ p.buckets
  pub count : n.count ≡ p.count

module _ (p n : Plain) (sound : Sound p) (same : Same p n) where
  same_entry : (j : ℕ) → entry_in n.far.bytes (slot_at n.slots j) ≡ entry_in p.far.bytes (slot_at p.slots j)
  same_entry j = λ i. entry_in (same.far i).bytes (same.slots j i)

  same_entries : (table_of n).entries ≡ (table_of p).entries
  same_entries =
      map.same_map nat_list_cmp_total (map.slice_cmp-IsAntisymmetric map.nat_cmp-IsAntisymmetric) _ _ (λ q.
      map.get-from_entries nat_list_cmp_total (entries_in n.far.bytes n.slots) q
      ∙ alike q n.far.bytes p.far.bytes n.slots p.slots (λ j. ap (at q) (same_entry j))
      ∙ sym (map.get-from_entries nat_list_cmp_total (entries_in p.far.bytes p.slots) q))

  same_honest : n.far.honest ≡ p.far.honest
  same_honest = ap (λ (f : Far). f.honest) same.far

  pub same_table : table_of n ≡ table_of p
  same_table = λ i. record { honest = same_honest i; entries = same_entries i }

  pub same_sound : Sound n
  same_sound = record {
    some = subst (λ k. 0 < k) (sym same.buckets) sound.some;
    fits = omega (arith, sound.fits, same.longer, same.buckets);
    reached = subst (λ k. Reached k n.slots) (sym same.buckets) (same_reached p.buckets p.slots n.slots same.slots sound.reached);
    apart = λ i j t u h a b. sound.apart i j t u h (sym (same.slots i) ∙ a) (sym (same.slots j) ∙ b);
    held = λ j t h a. let m = sound.held j t h (sym (same.slots j) ∙ a) in (m.0, ap (λ (f : Far). f.sizes h) same.far ∙ m.1);
    owned = λ h k e. let o = sound.owned h k (ap (λ (f : Far). f.sizes h) (sym same.far) ∙ e) in (o.0, o.1, same.slots o.0 ∙ o.2);
    tagged = λ o j t h a.
        let old = sound.tagged (sym same_honest ∙ o) j t h (sym (same.slots j) ∙ a) in
        (old.0, ap (λ (f : Far). key_in (f.bytes h)) same.far ∙ old.1, old.2 ∙ ap (λ s. tag_of s old.0) (sym same.seed));
    distinct = λ h i j key a b. sound.distinct (sym same_honest ∙ h) i j key
        (sym (ap (option_map (λ e. e.0)) (same_entry i)) ∙ a) (sym (ap (option_map (λ e. e.0)) (same_entry j)) ∙ b);
    counted = λ h. same.count ∙ sound.counted (sym same_honest ∙ h) ∙ ap map.len (sym same_entries);
  }

-- ---- whether a key is there
pub keyed : (e : Option Entry) (key : List ℕ) → option_map (λ x. x.0) e ≡ Some key → (value : List ℕ) × (e ≡ Some (key, value))
keyed None key h = absurd (cc)
keyed (Some e) key h = let same : e.0 ≡ key = cc in (e.1, λ i. Some (same i, e.1))

pub is_absent : (p : Plain) (key : List ℕ) → ((j : ℕ) → key_at p.far.bytes p.slots j ≢ Some key) → map.get (table_of p).entries key ≡ None
is_absent p key absent =
    map.get-from_entries nat_list_cmp_total (entries_in p.far.bytes p.slots) key
    ∙ none_found key p.far.bytes p.slots (λ j. at_other key (entry_in p.far.bytes (slot_at p.slots j)) (absent j))

pub is_at : (p : Plain) (place : ℕ) (key value : List ℕ) → Distinct p.far.bytes p.slots → entry_in p.far.bytes (slot_at p.slots place) ≡ Some (key, value) → map.get (table_of p).entries key ≡ Some value
is_at p place key value distinct is =
    map.get-from_entries nat_list_cmp_total (entries_in p.far.bytes p.slots) key
    ∙ one_found key p.far.bytes p.slots place value (ap (at key) is ∙ at_same key value)
    (λ j ne. at_other key (entry_in p.far.bytes (slot_at p.slots j)) (λ e. ne (distinct j place key e (ap (option_map (λ x. x.0)) is))))

pub is_there : (p : Plain) (place : ℕ) (key : List ℕ) → Distinct p.far.bytes p.slots → key_at p.far.bytes p.slots place ≡ Some key → map.contains_key (table_of p).entries key ≡ true
is_there p place key distinct is =
    let e = keyed (entry_in p.far.bytes (slot_at p.slots place)) key is in
    ap is_some (is_at p place key e.0 distinct e.1)

-- ---- an entry is put
pub record Put (p n : Plain) (place tag number : ℕ) (key value : List ℕ) : Type 0 where
  pub buckets : n.buckets ≡ p.buckets
  pub seed : n.seed ≡ p.seed
  pub longer : length p.slots ≤ length n.slots
  pub honest : n.far.honest ≡ p.far.honest
  pub fresh : p.far.sizes number ≡ None
  pub held : (k : ℕ) × (n.far.sizes number ≡ Some k)
  pub there : p.far.honest ≡ true → n.far.bytes number ≡ Some (encoded key value)
  pub sizes : (j t h : ℕ) → j ≢ place → slot_at p.slots j ≡ Full t h → n.far.sizes h ≡ p.far.sizes h
  pub bytes : (j t h : ℕ) → j ≢ place → slot_at p.slots j ≡ Full t h → n.far.bytes h ≡ p.far.bytes h
  pub slots : (j : ℕ) → j ≢ place → slot_at n.slots j ≡ slot_at p.slots j
  pub slot : slot_at n.slots place ≡ Full tag number
  pub tagged : tag ≡ tag_of p.seed key
  pub owned : (h k : ℕ) → h ≢ number → n.far.sizes h ≡ Some k → (p.far.sizes h ≡ Some k) × ((t : ℕ) → slot_at p.slots place ≢ Full t h)
  pub low : home p.buckets tag ≤ place
  pub full : (i : ℕ) → home p.buckets tag ≤ i → i < place → slot_at p.slots i ≢ Empty
  pub before : p.far.honest ≡ true → (q : List ℕ) → q ≢ key → key_at p.far.bytes p.slots place ≢ Some q
  pub others : p.far.honest ≡ true → (j : ℕ) → j ≢ place → key_at p.far.bytes p.slots j ≢ Some key
  pub count : p.far.honest ≡ true → n.count ≡ cond (map.contains_key (table_of p).entries key) p.count (p.count + 1)

pub none_is : (key : List ℕ) (o : Option (List ℕ)) → o ≡ None → o ≡ Some key → ⊥
none_is key o e f = cc

pub none_size : (n : ℕ) (o : Option ℕ) → o ≡ None → o ≡ Some n → ⊥
none_size n o e f = cc

-- a number that no object has stands in no slot
pub unheld : (f : Far) (ss : List Slot) (number j u : ℕ) → Held f ss → f.sizes number ≡ None → slot_at ss j ≢ Full u number
unheld f ss number j u held fresh e = let n = held j u number e in none_size n.0 (f.sizes number) fresh n.1

module _ (p n : Plain) (place tag number : ℕ) (key value : List ℕ) (sound : Sound p) (put : Put p n place tag number key value) where
  put_change : Change p.far.bytes n.far.bytes p.slots n.slots place
  put_change = record { slots = put.slots; bytes = put.bytes }

  put_entry : p.far.honest ≡ true → entry_in n.far.bytes (slot_at n.slots place) ≡ Some (key, value)
  put_entry o = ap (entry_in n.far.bytes) put.slot ∙ ap entry_of (put.there o) ∙ decoded-encoded key value

  pub put_entries : p.far.honest ≡ true → (table_of n).entries ≡ map.insert (table_of p).entries key value
  put_entries h = is_inserted p.far.bytes n.far.bytes p.slots n.slots place put_change key (put.before h) (put.others h) value (put_entry h)

  pub put_sound : Sound n
  put_sound = record {
    some = subst (λ k. 0 < k) (sym put.buckets) sound.some;
    fits = omega (arith, sound.fits, put.longer, put.buckets);
    reached = subst (λ k. Reached k n.slots) (sym put.buckets)
        (is_reached p.slots n.slots place put.slots p.buckets sound.reached
        (λ e. full_empty tag number (sym put.slot ∙ e))
        (λ t h e. subst (λ k. (home p.buckets k ≤ place) × ((i : ℕ) → home p.buckets k ≤ i → i < place → slot_at p.slots i ≢ Empty)) (full_tag tag number t h (sym put.slot ∙ e)) (put.low, put.full)));
    apart = is_apart p.far.bytes n.far.bytes p.slots n.slots place put_change sound.apart (λ t h e j u ne at_j.
        unheld p.far p.slots number j u sound.held put.fresh (at_j ∙ ap (λ k. Full u k) (sym (full_number tag number t h (sym put.slot ∙ e)))));
    held = is_held p.far.bytes n.far.bytes p.slots n.slots place put_change p.far n.far sound.held put.sizes (λ t h e.
        (put.held.0, ap n.far.sizes (sym (full_number tag number t h (sym put.slot ∙ e))) ∙ put.held.1));
    owned = is_owned p.far.bytes n.far.bytes p.slots n.slots place put_change p.far n.far sound.owned (λ h k e. elim (cases_eq h number) [
      | inl same ↦ inl (tag, put.slot ∙ ap (λ x. Full tag x) (sym same))
      | inr ne ↦ inr (put.owned h k ne e)
    ]);
    tagged = λ o. subst (λ s. Tagged s n.far.bytes n.slots) (sym put.seed) (is_tagged p.far.bytes n.far.bytes p.slots n.slots place put_change p.seed (sound.tagged (sym put.honest ∙ o)) (λ t h e.
        let f = full_number tag number t h (sym put.slot ∙ e) in
        (key, ap (λ k. key_in (n.far.bytes k)) (sym f) ∙ ap key_in (put.there (sym put.honest ∙ o)) ∙ ap (option_map (λ x. x.0)) (decoded-encoded key value), sym (full_tag tag number t h (sym put.slot ∙ e)) ∙ put.tagged)));
    distinct = λ h.
        let o : p.far.honest ≡ true = sym put.honest ∙ h in
        is_distinct p.far.bytes n.far.bytes p.slots n.slots place put_change (sound.distinct o)
        (λ q j ne at_place at_j. put.others o j ne (at_j ∙ sym at_place ∙ ap (option_map (λ x. x.0)) (put_entry o)));
    counted = λ h.
        let o : p.far.honest ≡ true = sym put.honest ∙ h in
        put.count o ∙ ap (λ k. cond (map.contains_key (table_of p).entries key) k (k + 1)) (sound.counted o)
        ∙ sym (map.len-insert nat_list_cmp_total (table_of p).entries key value) ∙ ap map.len (sym (put_entries o));
  }

-- ---- an entry is taken
pub record Taken (p n : Plain) (place : ℕ) (key : List ℕ) : Type 0 where
  pub buckets : n.buckets ≡ p.buckets
  pub seed : n.seed ≡ p.seed
  pub longer : length p.slots ≤ length n.slots
  pub honest : n.far.honest ≡ p.far.honest
  pub bytes : (j t h : ℕ) → j ≢ place → slot_at p.slots j ≡ Full t h → n.far.bytes h ≡ p.far.bytes h
  pub slots : (j : ℕ) → j ≢ place → slot_at n.slots j ≡ slot_at p.slots j
  pub sizes : (j t h : ℕ) → j ≢ place → slot_at p.slots j ≡ Full t h → n.far.sizes h ≡ p.far.sizes h
  pub slot : slot_at n.slots place ≡ Gone
  pub owned : (h k : ℕ) → n.far.sizes h ≡ Some k → (p.far.sizes h ≡ Some k) × ((t : ℕ) → slot_at p.slots place ≢ Full t h)
  pub here : p.far.honest ≡ true → key_at p.far.bytes p.slots place ≡ Some key
  pub count : n.count ≡ p.count - 1

gone_empty : Gone ≡ Empty → ⊥
gone_empty e = cc

gone_full : (t h : ℕ) → Gone ≡ Full t h → ⊥
gone_full t h e = cc

pub none_key : (key : List ℕ) → ◌≡◌ {A = Option (List ℕ)} None (Some key) → ⊥
none_key key e = cc

pub other_key : (q key : List ℕ) (o : Option (List ℕ)) → o ≡ Some key → o ≡ Some q → q ≡ key
other_key q key o e f = cc

module _ (p n : Plain) (place : ℕ) (key : List ℕ) (sound : Sound p) (taken : Taken p n place key) where
  taken_change : Change p.far.bytes n.far.bytes p.slots n.slots place
  taken_change = record { slots = taken.slots; bytes = taken.bytes }

  taken_entry : entry_in n.far.bytes (slot_at n.slots place) ≡ None
  taken_entry = ap (entry_in n.far.bytes) taken.slot

  pub taken_entries : p.far.honest ≡ true → (table_of n).entries ≡ map.remove (table_of p).entries key
  taken_entries h =
      is_removed p.far.bytes n.far.bytes p.slots n.slots place taken_change key
      (λ q ne e. ne (other_key q key (key_at p.far.bytes p.slots place) (taken.here h) e))
      (λ j ne e. ne (sound.distinct h j place key e (taken.here h))) taken_entry

  pub taken_sound : Sound n
  taken_sound = record {
    some = subst (λ k. 0 < k) (sym taken.buckets) sound.some;
    fits = omega (arith, sound.fits, taken.longer, taken.buckets);
    reached = subst (λ k. Reached k n.slots) (sym taken.buckets)
        (is_reached p.slots n.slots place taken.slots p.buckets sound.reached
        (λ e. gone_empty (sym taken.slot ∙ e)) (λ t h e. absurd (gone_full t h (sym taken.slot ∙ e))));
    apart = is_apart p.far.bytes n.far.bytes p.slots n.slots place taken_change sound.apart (λ t h e. absurd (gone_full t h (sym taken.slot ∙ e)));
    held = is_held p.far.bytes n.far.bytes p.slots n.slots place taken_change p.far n.far sound.held taken.sizes (λ t h e. absurd (gone_full t h (sym taken.slot ∙ e)));
    owned = is_owned p.far.bytes n.far.bytes p.slots n.slots place taken_change p.far n.far sound.owned (λ h k e. inr (taken.owned h k e));
    tagged = λ o. subst (λ s. Tagged s n.far.bytes n.slots) (sym taken.seed) (is_tagged p.far.bytes n.far.bytes p.slots n.slots place taken_change p.seed (sound.tagged (sym taken.honest ∙ o)) (λ t h e. absurd (gone_full t h (sym taken.slot ∙ e))));
    distinct = λ h.
        is_distinct p.far.bytes n.far.bytes p.slots n.slots place taken_change (sound.distinct (sym taken.honest ∙ h))
        (λ q j ne at_place at_j. none_key q (sym (ap (option_map (λ x. x.0)) taken_entry) ∙ at_place));
    counted = λ h.
        let o : p.far.honest ≡ true = sym taken.honest ∙ h in
        taken.count ∙ ap (λ k. k - 1) (sound.counted o)
        ∙ sym (map.len-remove nat_list_cmp_total (table_of p).entries key
        ∙ ap (λ t. cond t (map.len (table_of p).entries - 1) (map.len (table_of p).entries)) (is_there p place key (sound.distinct o) (taken.here o)))
        ∙ ap map.len (sym (taken_entries o));
  }

-- a slot without an entry has no key
pub no_entry : (b : Bytes) (s : Slot) → ((t h : ℕ) → s ≢ Full t h) → entry_in b s ≡ None
no_entry b Empty free = refl
no_entry b Gone free = refl
no_entry b (Full t h) free = absurd (free t h refl)

-- ---- the objects are the entries
pub are_entries : (p : Plain) → Sound p → p.far.honest ≡ true → AreEntries p.far (table_of p).entries
are_entries p sound o = record {
  each = λ number n e.
      let s = sound.owned number n e in
      let k = sound.tagged o s.0 s.1 number s.2 in
      let v = keyed (entry_of (p.far.bytes number)) k.0 k.1 in
      (k.0, v.0, v.1, is_at p s.0 k.0 v.0 (sound.distinct o) (ap (entry_in p.far.bytes) s.2 ∙ v.1));
  once = λ h k m n key v w hm kn eh ek.
      let s = sound.owned h m hm in
      let r = sound.owned k n kn in
      let same : s.0 ≡ r.0 = sound.distinct o s.0 r.0 key
      (ap (λ x. option_map (λ y. y.0) (entry_in p.far.bytes x)) s.2 ∙ ap (option_map (λ y. y.0)) eh)
      (ap (λ x. option_map (λ y. y.0) (entry_in p.far.bytes x)) r.2 ∙ ap (option_map (λ y. y.0)) ek) in
      full_number s.1 h r.1 k (sym s.2 ∙ ap (slot_at p.slots) same ∙ r.2);
}
