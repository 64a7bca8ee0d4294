-- A value is written over the one that there is.
use Rattle.std.proofs.Common.{◌≡◌, ◌≢◌, ℕ, suc, ◌+◌, ◌*◌, ◌<◌, true, cond, Some, None, Result, Ok, Err, OnErr, OnOk, List, [], ◌∷◌, ◌++◌, length, take, drop, refl, sym, ◌∙◌, ap, subst, inl, inr, arith}
use Rattle.std.specs.Option.{option_map}
use Rattle.std.specs.Cmp.Lexicographic.{nat_list_cmp_total}
use Rattle.std.specs.FinMap as map
use Rattle.std.proofs.lemmas.Bool.{cases_eq, cases_lt}
use Rattle.std.proofs.lemmas.List.{append-nil, drop_all, drop_at, length-take-le, take_all, take_at}
use Rattle.far_word.specs.declared.refused.Refused.{Refused}
use Rattle.far_objects.specs.Far.{Far, Known, Writes, with_range}
use Rattle.far_index.specs.declared.slot.Slot.TheVariants.{Full}
use Rattle.far_index.specs.Slots.{slot_at}
use Rattle.far_index.specs.Tags.{tag_of}
use Rattle.far_index.proofs.Words.{full_number}
use Rattle.far_map.specs.Entries.{decoded, entry_of, key_in}
use Rattle.far_map.specs.Plain.{Plain, Sound, table_of}
use Rattle.far_map.specs.Slots.{entry_in, key_at}
use Rattle.far_map.proofs.Changes.{Change, is_distinct, is_inserted, is_tagged}
use Rattle.far_map.proofs.Outcomes.{is_there, none_is, other_key}

-- ---- the bytes
same_key : (xs ys : List ℕ) → Some xs ≡ Some ys → xs ≡ ys
same_key xs ys e = cc

-- a key that is shorter than what follows its length is as long as that says
as_said : (n : ℕ) (rest key : List ℕ) → take n rest ≡ key → length key < length rest → n ≡ length key
as_said n rest key e less = elim (cases_lt n (length rest)) [
  | inl lt ↦ sym (length-take-le n rest (omega (arith, lt))) ∙ ap (λ xs. length xs) e
  | inr le ↦ let same : length rest ≡ length key = ap (λ xs. length xs) (sym (take_all n rest le) ∙ e) in absurd (omega (arith, same, less))
]

entry_over : (was key value : List ℕ) → key_in (Some was) ≡ Some key → length was ≡ 2 + length key + length value → 0 < length value → decoded (with_range was (2 + length key) value) ≡ Some (key, value)
unfolding decoded
entry_over [] key value is long more = absurd (none_is key None refl is)
entry_over (low ∷ []) key value is long more = absurd (none_is key None refl is)
entry_over (low ∷ high ∷ rest) key value is long more =
    let n = low + 256 * high in
    let front : take n rest ≡ key = same_key (take n rest) key is in
    let e : n ≡ length key = as_said n rest key front (omega (arith, long, more)) in
    let first : take (length key) rest ≡ key = ap (λ k. take k rest) (sym e) ∙ front in
    let last : drop (length key + length value) rest ≡ [] = drop_all (length key + length value) rest (omega (arith, long)) in
    let all : take (length key) rest ++ value ++ drop (length key + length value) rest ≡ key ++ value = (λ i. first i ++ value ++ last i) ∙ append-nil (key ++ value) in
    let from : 2 + length key ≡ suc (suc (length key)) = omega arith in
    let to : 2 + length key + length value ≡ suc (suc (length key + length value)) = omega arith in
    let spread : with_range (low ∷ high ∷ rest) (2 + length key) value ≡ low ∷ high ∷ (key ++ value) = (λ i. take (from i) (low ∷ high ∷ rest) ++ value ++ drop (to i) (low ∷ high ∷ rest)) ∙ (λ i. low ∷ high ∷ all i) in
    ap decoded spread ∙ (λ i. Some (take_at key value n (sym e) i, drop_at key value n (sym e) i))

-- ---- the parts
abbrev pub after : Plain → Far → Plain
after p far = record p { far = far }

pub record Rewrites (p : Plain) (far : Far) (place tag number : ℕ) (key value : List ℕ) : Type 0 where
  pub slot : slot_at p.slots place ≡ Full tag number
  pub honest : far.honest ≡ p.far.honest
  pub sizes : (h : ℕ) → far.sizes h ≡ p.far.sizes h
  pub bytes : (h : ℕ) → h ≢ number → far.bytes h ≡ p.far.bytes h
  pub there : p.far.honest ≡ true → entry_of (far.bytes number) ≡ Some (key, value)
  pub here : p.far.honest ≡ true → key_at p.far.bytes p.slots place ≡ Some key

module _ (p : Plain) (far : Far) (place tag number : ℕ) (key value : List ℕ) where
  rewrites : Known p.far → slot_at p.slots place ≡ Full tag number → p.far.sizes number ≡ Some (2 + length key + length value) → 0 < length value →
      (p.far.honest ≡ true → key_in (p.far.bytes number) ≡ Some key) → Writes number (2 + length key) value p.far far → Rewrites p far place tag number key value
  rewrites known slot size more has w = record {
    slot = slot;
    honest = w.others.honest;
    sizes = λ h. elim (cases_eq h number) [
      | inl e ↦ subst (λ k. far.sizes k ≡ p.far.sizes k) (sym e) w.size
      | inr ne ↦ w.others.sizes h ne
    ];
    bytes = w.others.bytes;
    there = λ o. let was = (known number _ size).known o in ap entry_of (w.bytes o was.0 was.1) ∙ entry_over was.0 key value (ap key_in (sym was.1) ∙ has o) was.2 more;
    here = λ o. ap (λ s. option_map (λ x. x.0) (entry_in p.far.bytes s)) slot ∙ has o;
  }

  module _ (sound : Sound p) (w : Rewrites p far place tag number key value) where
    change : Change p.far.bytes far.bytes p.slots p.slots place
    change = record { slots = λ j ne. refl; bytes = λ j t h ne e. w.bytes h (λ same. ne (sound.apart j place t tag number (e ∙ ap (λ k. Full t k) same) w.slot)) }

    entry : p.far.honest ≡ true → entry_in far.bytes (slot_at p.slots place) ≡ Some (key, value)
    entry o = ap (entry_in far.bytes) w.slot ∙ w.there o

    over_entries : p.far.honest ≡ true → (table_of (after p far)).entries ≡ map.insert (table_of p).entries key value
    over_entries o = is_inserted p.far.bytes far.bytes p.slots p.slots place change key
        (λ q ne e. ne (other_key q key (key_at p.far.bytes p.slots place) (w.here o) e))
        (λ j ne e. ne (sound.distinct o j place key e (w.here o))) value (entry o)

    over_sound : Sound (after p far)
    over_sound = record {
      some = sound.some;
      fits = sound.fits;
      reached = sound.reached;
      apart = sound.apart;
      held = λ j t h e. let old = sound.held j t h e in (old.0, w.sizes h ∙ old.1);
      owned = λ h k e. sound.owned h k (sym (w.sizes h) ∙ e);
      tagged = λ h. let o : p.far.honest ≡ true = sym w.honest ∙ h in
          is_tagged p.far.bytes far.bytes p.slots p.slots place change p.seed (sound.tagged o) (λ t k e.
          let f = full_number tag number t k (sym w.slot ∙ e) in
          let old = sound.tagged o place t k e in
          let here : key_in (p.far.bytes k) ≡ Some key = ap (λ s. option_map (λ x. x.0) (entry_in p.far.bytes s)) (sym e) ∙ w.here o in
          let same : old.0 ≡ key = other_key old.0 key (key_in (p.far.bytes k)) here old.1 in
          (key, ap (λ x. key_in (far.bytes x)) (sym f) ∙ ap (option_map (λ x. x.0)) (w.there o), old.2 ∙ ap (tag_of p.seed) same));
      distinct = λ h. let o : p.far.honest ≡ true = sym w.honest ∙ h in
          is_distinct p.far.bytes far.bytes p.slots p.slots place change (sound.distinct o) (λ q j ne at_place at_j.
          let same : q ≡ key = other_key q key (key_at far.bytes p.slots place) (ap (option_map (λ x. x.0)) (entry o)) at_place in
          ne (sound.distinct o j place key (at_j ∙ ap (λ k. Some k) same) (w.here o)));
      counted = λ h. let o : p.far.honest ≡ true = sym w.honest ∙ h in
          sound.counted o ∙ sym (map.len-insert nat_list_cmp_total (table_of p).entries key value
          ∙ ap (λ t. cond t (map.len (table_of p).entries) (map.len (table_of p).entries + 1)) (is_there p place key (sound.distinct o) (w.here o)))
          ∙ ap map.len (sym (over_entries o));
    }

  -- ---- as the worker answered
  module _ (sound : Sound p) (known : Known p.far) (slot : slot_at p.slots place ≡ Full tag number) (size : p.far.sizes number ≡ Some (2 + length key + length value)) (more : 0 < length value)
      (has : p.far.honest ≡ true → key_in (p.far.bytes number) ≡ Some key) where
    pub sound_over : (r : Result (Unit {0}) Refused) → OnOk r (Writes number (2 + length key) value p.far far) → OnErr r (far ≡ p.far) → Sound (after p far)
    sound_over (Ok x) w same = over_sound sound (rewrites known slot size more has w)
    sound_over (Err why) w same = subst (λ f. Sound (after p f)) (sym same) sound

    pub honest_over : (r : Result (Unit {0}) Refused) → OnOk r (Writes number (2 + length key) value p.far far) → OnErr r (far ≡ p.far) → far.honest ≡ p.far.honest
    honest_over (Ok x) w same = w.others.honest
    honest_over (Err why) w same = ap (λ (f : Far). f.honest) same

    pub entries_over : (r : Result (Unit {0}) Refused) → OnOk r (Writes number (2 + length key) value p.far far) → p.far.honest ≡ true → OnOk r ((table_of (after p far)).entries ≡ map.insert (table_of p).entries key value)
    entries_over (Ok x) w o = over_entries sound (rewrites known slot size more has w) o
    entries_over (Err why) w o = tt

  pub table_over : (r : Result (Unit {0}) Refused) → OnErr r (far ≡ p.far) → OnErr r (table_of (after p far) ≡ table_of p)
  table_over (Ok x) same = tt
  table_over (Err why) same = ap (λ f. table_of (after p f)) same
