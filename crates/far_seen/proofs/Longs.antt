-- What stands for lines, when an object is made, or the parts of a long line.
use Rattle.std.proofs.Common.{◌≡◌, ◌≢◌, ℕ, zero, suc, ◌+◌, ◌-◌, ◌*◌, ◌<◌, ◌≤◌, min, ◌⊎◌, inl, inr, Bool, true, false, cond, Option, Some, None, List, [], ◌∷◌, ◌++◌, Result, Ok, Err, OnOk, IfErr, length, take, drop, refl, sym, ◌∙◌, ap, subst, arith}
use Rattle.std.specs.Prelude.{nat_lt}
use Rattle.std.specs.List.{slice_get}
use Rattle.std.proofs.lemmas.Bool.{cases_eq, le-ltb, lt-ltb}
use Rattle.std.proofs.lemmas.List.{drop-drop, length-drop, length-take, nil_from_length, take-append-drop}
use Rattle.std.proofs.lemmas.Option.{slice_get_past}
use Rattle.far_objects.specs.declared.objects.TheConstants.{MOST}
use Rattle.far_objects.specs.Far.{Drops, Far, Known, Makes}
use Rattle.far_word.specs.declared.refused.Refused.{Refused as Refusal}
use Rattle.far_word.specs.declared.refused.Refused.TheVariants.{NotHeld}
use Rattle.far_large.specs.Parts.{AsBefore, Holds, IsCount, Parts, Puts, Stands, number_of, part_len, part_of}
use Rattle.far_seen.specs.declared.read.TheConstants.{LONG}
use Rattle.far_seen.specs.Stored.{Keeps, Put, Stored, both, joined, long_bytes, long_size, with_longs}

none_some : (n : ℕ) (o : Option ℕ) → o ≡ None → o ≡ Some n → ⊥
none_some n o e f = cc

same_some : (m n : ℕ) → ◌≡◌ {A = Option ℕ} (Some m) (Some n) → m ≡ n
same_some m n e = cc

-- ---- numbers below LONG, and from there on
module _ (far : Far) (longs : List Parts) (k : ℕ) where
  pub low_size : k < LONG → (with_longs far longs).sizes k ≡ far.sizes k
  low_size h = ap (λ b. cond b (far.sizes k) (long_size (slice_get longs (k - LONG)))) (lt-ltb k LONG h)

  pub low_bytes : k < LONG → (with_longs far longs).bytes k ≡ far.bytes k
  low_bytes h = ap (λ b. cond b (far.bytes k) (long_bytes far.bytes (slice_get longs (k - LONG)))) (lt-ltb k LONG h)

  pub high_size : LONG ≤ k → (with_longs far longs).sizes k ≡ long_size (slice_get longs (k - LONG))
  high_size h = ap (λ b. cond b (far.sizes k) (long_size (slice_get longs (k - LONG)))) (le-ltb k LONG h)

  pub high_bytes : LONG ≤ k → (with_longs far longs).bytes k ≡ long_bytes far.bytes (slice_get longs (k - LONG))
  high_bytes h = ap (λ b. cond b (far.bytes k) (long_bytes far.bytes (slice_get longs (k - LONG)))) (le-ltb k LONG h)

-- ---- parts one after the other
pub joined_same : (b c : ℕ → Option (List ℕ)) (ns : List ℕ) → ((j : ℕ) → j < length ns → c (number_of ns j) ≡ b (number_of ns j)) → joined c ns ≡ joined b ns
joined_same b c [] f = refl
joined_same b c (n ∷ ns) f = λ i. both (f 0 (omega arith) i) (joined_same b c ns (λ j l. f (suc j) (omega arith)) i)

next_part : (xs : List ℕ) (i : ℕ) → part_of xs (suc i) ≡ part_of (drop MOST xs) i
unfolding part_of
next_part xs i = let e : MOST + i * MOST ≡ suc i * MOST = omega arith in ap (take MOST) (sym (drop-drop (i * MOST) MOST xs ∙ ap (λ n. drop n xs) e))

first_part : (xs : List ℕ) → part_of xs 0 ≡ take MOST xs
unfolding part_of
first_part xs = refl

pub joined_whole : (b : ℕ → Option (List ℕ)) (ns xs : List ℕ) → length xs ≤ MOST * length ns → ((j : ℕ) → j < length ns → b (number_of ns j) ≡ Some (part_of xs j)) → joined b ns ≡ Some xs
joined_whole b [] xs few f = ap (λ t. Some t) (sym (nil_from_length xs (omega (arith, few))))
joined_whole b (n ∷ ns) xs few f =
    let first : b n ≡ Some (take MOST xs) = f 0 (omega arith) ∙ ap (λ t. Some t) (first_part xs) in
    let rest : joined b ns ≡ Some (drop MOST xs) =
    joined_whole b ns (drop MOST xs) (omega (arith, few, length-drop MOST xs)) (λ j l. f (suc j) (omega arith) ∙ ap (λ t. Some t) (next_part xs j)) in
    (λ i. both (first i) (rest i)) ∙ ap (λ t. Some t) (take-append-drop MOST xs)

part_long : (xs : List ℕ) (i : ℕ) → length (part_of xs i) ≡ part_len (length xs) i
unfolding part_of part_len
part_long xs i = length-take MOST (drop (i * MOST) xs) ∙ ap (λ n. min MOST n) (length-drop (i * MOST) xs)

-- ---- lists of long lines
pub get_left : (ls ms : List Parts) (i : ℕ) (l : Parts) → slice_get ls i ≡ Some l → slice_get (ls ++ ms) i ≡ Some l
get_left [] ms i l e = absurd (cc)
get_left (x ∷ xs) ms zero l e = e
get_left (x ∷ xs) ms (suc i) l e = get_left xs ms i l e

pub get_last : (ls : List Parts) (x : Parts) → slice_get (ls ++ x ∷ []) (length ls) ≡ Some x
get_last [] x = refl
get_last (l ∷ ls) x = get_last ls x

some_parts : (x l : Parts) → ◌≡◌ {A = Option Parts} (Some x) (Some l) → x ≡ l
some_parts x l e = cc

get_either : (ls : List Parts) (x : Parts) (i : ℕ) (l : Parts) → slice_get (ls ++ x ∷ []) i ≡ Some l → (slice_get ls i ≡ Some l) ⊎ (x ≡ l)
get_either [] x zero l e = inr (some_parts x l e)
get_either [] x (suc i) l e = absurd (cc)
get_either (y ∷ ys) x zero l e = inl e
get_either (y ∷ ys) x (suc i) l e = get_either ys x i l e

pub none_stored : (far : Far) (longs : List Parts) → longs ≡ [] → Stored far longs
none_stored far longs e = subst (Stored far) (sym e) (record { some = λ i large f. absurd (none_at i large f); stands = λ i large f. absurd (none_at i large f); known = λ o i large f. absurd (none_at i large f) })
  where
    none_at : (i : ℕ) (large : Parts) → slice_get {X = Parts} [] i ≡ Some large → ⊥
    none_at i large f = cc

-- ---- what is kept
pub keeps_made : (h : ℕ) (xs : List ℕ) (old new : Far) → Makes h xs old new → Keeps old new
keeps_made h xs old new m =
    let other : (k n : ℕ) → old.sizes k ≡ Some n → k ≢ h = λ k n e same. none_some n (old.sizes h) m.fresh (ap old.sizes (sym same) ∙ e) in
    record {
      honest = m.others.honest;
      sizes = λ k n e. m.others.sizes k (other k n e) ∙ e;
      bytes = λ k n e. m.others.bytes k (other k n e);
    }

pub keeps_put : (large : Parts) (xs : List ℕ) (old new : Far) → Puts large xs old new → Keeps old new
keeps_put large xs old new p =
    let other : (k n : ℕ) → old.sizes k ≡ Some n → (j : ℕ) → j < length large.numbers → number_of large.numbers j ≢ k =
    λ k n e j l same. none_some n (old.sizes (number_of large.numbers j)) (p.fresh j l) (ap old.sizes same ∙ e) in
    record {
      honest = p.others.honest;
      sizes = λ k n e. p.others.sizes k (other k n e) ∙ e;
      bytes = λ k n e. p.others.bytes k (other k n e);
    }

pub keeps_before : (old new : Far) → AsBefore old new → Keeps old new
keeps_before old new b = record { honest = b.honest; sizes = λ k n e. b.sizes k ∙ e; bytes = b.bytes }

pub as_was : (old new : Far) → new ≡ old → AsBefore old new
as_was old new e = record {
  honest = ap (λ (f : Far). f.honest) e;
  sizes = λ k. ap (λ (f : Far). f.sizes k) e;
  bytes = λ k n there. ap (λ (f : Far). f.bytes k) e;
}

-- what was made is dropped again
pub undone : (h : ℕ) (xs : List ℕ) (old now new : Far) → Makes h xs old now → Drops h now new → AsBefore old new
undone h xs old now new m d = record {
  honest = d.others.honest ∙ m.others.honest;
  sizes = λ k. elim (cases_eq k h) [
    | inl e ↦ ap new.sizes e ∙ d.gone ∙ sym m.fresh ∙ ap old.sizes (sym e)
    | inr ne ↦ d.others.sizes k ne ∙ m.others.sizes k ne
  ];
  bytes = λ k n there. elim (cases_eq k h) [
    | inl e ↦ absurd (none_some n (old.sizes h) m.fresh (ap old.sizes (sym e) ∙ there))
    | inr ne ↦ d.others.bytes k ne ∙ m.others.bytes k ne
  ];
}

module _ (old new : Far) (longs : List Parts) (s : Stored old longs) (keeps : Keeps old new) where
  joined_kept : (i : ℕ) (large : Parts) → slice_get longs i ≡ Some large → joined new.bytes large.numbers ≡ joined old.bytes large.numbers
  joined_kept i large e = joined_same old.bytes new.bytes large.numbers (λ j l. keeps.bytes (number_of large.numbers j) (part_len large.len j) (s.stands i large e j l))

  pub stored_kept : Stored new longs
  stored_kept = record {
    some = s.some;
    stands = λ i large e j l. keeps.sizes (number_of large.numbers j) (part_len large.len j) (s.stands i large e j l);
    known = λ o i large e.
        let was = s.known (sym keeps.honest ∙ o) i large e in (
          was.0,
          record {
            len = was.1.len;
            parts = λ j l. record {
              size = keeps.sizes (number_of large.numbers j) (length (part_of was.0 j)) (was.1.parts j l).size;
              bytes = λ o. keeps.bytes (number_of large.numbers j) (length (part_of was.0 j)) (was.1.parts j l).size ∙ (was.1.parts j l).bytes (sym keeps.honest ∙ o);
            };
          },
          joined_kept i large e ∙ was.2,
        );
  }

  module _ (more : List Parts) (has : (i : ℕ) (l : Parts) → slice_get longs i ≡ Some l → slice_get more i ≡ Some l) where
    size_kept : (i n : ℕ) (o : Option Parts) → slice_get longs i ≡ o → long_size o ≡ Some n → long_size (slice_get more i) ≡ Some n
    size_kept i n None e f = absurd (none_some n None refl f)
    size_kept i n (Some large) e f = ap long_size (has i large e) ∙ f

    bytes_kept : (i n : ℕ) (o : Option Parts) → slice_get longs i ≡ o → long_size o ≡ Some n → long_bytes new.bytes (slice_get more i) ≡ long_bytes old.bytes o
    bytes_kept i n None e f = absurd (none_some n None refl f)
    bytes_kept i n (Some large) e f = ap (long_bytes new.bytes) (has i large e) ∙ joined_kept i large e

    all_sizes : (k n i : ℕ) (b : Bool) → cond b (old.sizes k) (long_size (slice_get longs i)) ≡ Some n → cond b (new.sizes k) (long_size (slice_get more i)) ≡ Some n
    all_sizes k n i true e = keeps.sizes k n e
    all_sizes k n i false e = size_kept i n (slice_get longs i) refl e

    all_bytes : (k n i : ℕ) (b : Bool) → cond b (old.sizes k) (long_size (slice_get longs i)) ≡ Some n →
        cond b (new.bytes k) (long_bytes new.bytes (slice_get more i)) ≡ cond b (old.bytes k) (long_bytes old.bytes (slice_get longs i))
    all_bytes k n i true e = keeps.bytes k n e
    all_bytes k n i false e = bytes_kept i n (slice_get longs i) refl e

    pub all_kept : Keeps (with_longs old longs) (with_longs new more)
    all_kept = record {
      honest = keeps.honest;
      sizes = λ k n e. all_sizes k n (k - LONG) (nat_lt k LONG) e;
      bytes = λ k n e. all_bytes k n (k - LONG) (nat_lt k LONG) e;
    }

-- nothing was put
pub all_before : (old new : Far) (longs more : List Parts) → Stored old longs → AsBefore old new → more ≡ longs → Keeps (with_longs old longs) (with_longs new more)
all_before old new longs more s b e = all_kept old new longs s (keeps_before old new b) more (λ i l there. ap (λ ls. slice_get ls i) e ∙ there)

pub stored_before : (old new : Far) (longs more : List Parts) → Stored old longs → AsBefore old new → more ≡ longs → Stored new more
stored_before old new longs more s b e = subst (Stored new) (sym e) (stored_kept old new longs s (keeps_before old new b))

-- ---- a line is put
pub short_put : (old new : Far) (longs : List Parts) (h : ℕ) (xs : List ℕ) → Stored old longs → Makes h xs old new → h < LONG → Put h xs (with_longs old longs) (with_longs new longs)
short_put old new longs h xs s m low = record {
  fresh = low_size old longs h low ∙ m.fresh;
  size = low_size new longs h low ∙ m.size;
  bytes = λ o. low_bytes new longs h low ∙ m.bytes o;
  keeps = all_kept old new longs s (keeps_made h xs old new m) longs (λ i l e. e);
}

module _ (old new : Far) (longs : List Parts) (large : Parts) (xs : List ℕ) (s : Stored old longs) (p : Puts large xs old new) (count : IsCount large.len (length large.numbers)) where
  whole_line : new.honest ≡ true → joined new.bytes large.numbers ≡ Some xs
  whole_line o = joined_whole new.bytes large.numbers xs (omega (arith, count.enough, p.holds.len)) (λ j l. (p.holds.parts j l).bytes o)

  large_stands : Stands new large
  large_stands j l = (p.holds.parts j l).size ∙ ap (λ n. Some n) (part_long xs j ∙ ap (λ n. part_len n j) (sym p.holds.len))

  kept : Stored new longs
  kept = stored_kept old new longs s (keeps_put large xs old new p)

  pub long_stored : Stored new (longs ++ large ∷ [])
  long_stored = record {
    some = λ i l e. elim (get_either longs large i l e) [
      | inl was ↦ s.some i l was
      | inr same ↦ subst (λ (t : Parts). 0 < t.len) same count.some
    ];
    stands = λ i l e. elim (get_either longs large i l e) [
      | inl was ↦ kept.stands i l was
      | inr same ↦ subst (Stands new) same large_stands
    ];
    known = λ o i l e. elim (get_either longs large i l e) [
      | inl was ↦ kept.known o i l was
      | inr same ↦ subst (λ t. (ys : List ℕ) × Holds new t ys × (joined new.bytes t.numbers ≡ Some ys)) same (xs, p.holds, whole_line o)
    ];
  }

  pub long_put : (h : ℕ) → h ≡ LONG + length longs → Put h xs (with_longs old longs) (with_longs new (longs ++ large ∷ []))
  long_put h is =
      let high : LONG ≤ h = omega (arith, is) in
      let place : h - LONG ≡ length longs = omega (arith, is) in
      let here : slice_get (longs ++ large ∷ []) (h - LONG) ≡ Some large = ap (slice_get (longs ++ large ∷ [])) place ∙ get_last longs large in
      record {
        fresh = high_size old longs h high ∙ ap long_size (slice_get_past longs (h - LONG) (omega (arith, place)));
        size = high_size new (longs ++ large ∷ []) h high ∙ ap long_size here ∙ ap (λ n. Some n) p.holds.len;
        bytes = λ o. high_bytes new (longs ++ large ∷ []) h high ∙ ap (long_bytes new.bytes) here ∙ whole_line (p.others.honest ∙ o);
        keeps = all_kept old new longs s (keeps_put large xs old new p) (longs ++ large ∷ []) (get_left longs (large ∷ []));
      }

pub undone_so : {A : Type 0} (h : ℕ) (xs : List ℕ) (old now new : Far) (r : Result A Refusal) → Makes h xs old now → OnOk r (Drops h now new) → IfErr r (λ why. (why ≡ NotHeld) × (now.sizes h ≡ None) × (new ≡ now)) → AsBefore old new
undone_so h xs old now new (Ok x) m d e = undone h xs old now new m d
undone_so h xs old now new (Err why) m d e = absurd (none_some (length xs) (now.sizes h) e.1 m.size)

-- ---- what stands for a line has a byte
module _ (far : Far) (longs : List Parts) (known : Known far) (s : Stored far longs) where
  some_long : (i n : ℕ) (o : Option Parts) → slice_get longs i ≡ o → long_size o ≡ Some n → 0 < n
  some_long i n None is e = absurd (none_some n None refl e)
  some_long i n (Some large) is e = subst (λ m. 0 < m) (same_some large.len n e) (s.some i large is)

  some_of : (k n i : ℕ) (b : Bool) → cond b (far.sizes k) (long_size (slice_get longs i)) ≡ Some n → 0 < n
  some_of k n i true e = (known k n e).some
  some_of k n i false e = some_long i n (slice_get longs i) refl e

  pub has_byte : (k n : ℕ) → (with_longs far longs).sizes k ≡ Some n → 0 < n
  has_byte k n e = some_of k n (k - LONG) (nat_lt k LONG) e
