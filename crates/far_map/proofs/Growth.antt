-- An index made anew has the same entries.
use Rattle.std.proofs.Common.{◌≡◌, ℕ, ◌<◌, true, Option, Some, None, List, length, refl, sym, ◌∙◌, ap}
use Rattle.std.specs.Option.{option_map}
use Rattle.std.specs.Cmp.Lexicographic.{nat_list_cmp_total}
use Rattle.std.specs.FinMap as map
use Rattle.far_index.specs.declared.slot.Slot.{Slot}
use Rattle.far_index.specs.declared.slot.Slot.TheVariants.{Empty, Gone, Full}
use Rattle.far_index.specs.Slots.{slot_at}
use Rattle.far_index.specs.Grown.{Grown}
use Rattle.far_index.proofs.Words.{full_number}
use Rattle.far_index.proofs.Growth.{moved}
use Rattle.far_map.specs.Slots.{Bytes, entry_in, entries_in, Distinct}
use Rattle.far_map.specs.Plain.{Plain, Sound, table_of}
use Rattle.far_map.proofs.Lookups.{found_somewhere}
use Rattle.far_map.proofs.Outcomes.{none_key, is_at}

full_of : (b : Bytes) (s : Slot) (key : List ℕ) → option_map (λ e. e.0) (entry_in b s) ≡ Some key → (t : ℕ) × (h : ℕ) × (s ≡ Full t h)
full_of b Empty key e = absurd (none_key key e)
full_of b Gone key e = absurd (none_key key e)
full_of b (Full t h) key e = (t, h, refl)

both_found : (x y : Option (List ℕ)) → ((v : List ℕ) → x ≡ Some v → y ≡ Some v) → ((v : List ℕ) → y ≡ Some v → x ≡ Some v) → x ≡ y
both_found None None f g = refl
both_found None (Some w) f g = g w refl
both_found (Some v) y f g = sym (f v refl)

module _ (p : Plain) (slots : List Slot) (buckets : ℕ) (sound : Sound p) (some : 0 < buckets) (grown : Grown buckets (length p.slots) p.slots slots) where
  n : Plain
  n = record { far = p.far; seed = p.seed; slots = slots; buckets = buckets; count = p.count }

  grown_distinct : p.far.honest ≡ true → Distinct p.far.bytes slots
  grown_distinct o i j key at_i at_j =
      let b = p.far.bytes in
      let f = full_of b (slot_at slots i) key at_i in
      let g = full_of b (slot_at slots j) key at_j in
      let u = grown.from i f.0 f.1 f.2 in
      let w = grown.from j g.0 g.1 g.2 in
      let same : u.0 ≡ w.0 = sound.distinct o u.0 w.0 key (ap (λ s. option_map (λ e. e.0) (entry_in b s)) (u.2 ∙ sym f.2) ∙ at_i) (ap (λ s. option_map (λ e. e.0) (entry_in b s)) (w.2 ∙ sym g.2) ∙ at_j) in
      let full : Full f.0 f.1 ≡ Full g.0 g.1 = sym u.2 ∙ ap (slot_at p.slots) same ∙ w.2 in
      grown.apart sound.apart i j f.0 g.0 g.1 (f.2 ∙ ap (λ h. Full f.0 h) (full_number f.0 f.1 g.0 g.1 full)) g.2

  forth : p.far.honest ≡ true → (q v : List ℕ) → map.get (table_of p).entries q ≡ Some v → map.get (table_of n).entries q ≡ Some v
  unfolding n
  forth o q v e =
      let b = p.far.bytes in
      let i = found_somewhere q b p.slots v (sym (map.get-from_entries nat_list_cmp_total (entries_in b p.slots) q) ∙ e) in
      let f = full_of b (slot_at p.slots i.0) q (ap (option_map (λ e. e.0)) i.1) in
      let j = moved buckets p.slots slots grown i.0 f.0 f.1 f.2 in
      is_at n j.0 q v (grown_distinct o) (ap (entry_in b) (j.1 ∙ sym f.2) ∙ i.1)

  back : p.far.honest ≡ true → (q v : List ℕ) → map.get (table_of n).entries q ≡ Some v → map.get (table_of p).entries q ≡ Some v
  unfolding n
  back o q v e =
      let b = p.far.bytes in
      let j = found_somewhere q b slots v (sym (map.get-from_entries nat_list_cmp_total (entries_in b slots) q) ∙ e) in
      let f = full_of b (slot_at slots j.0) q (ap (option_map (λ e. e.0)) j.1) in
      let i = grown.from j.0 f.0 f.1 f.2 in
      is_at p i.0 q v (sound.distinct o) (ap (entry_in b) (i.2 ∙ sym f.2) ∙ j.1)

  grown_entries : p.far.honest ≡ true → (table_of n).entries ≡ (table_of p).entries
  unfolding n
  grown_entries o =
      map.same_map nat_list_cmp_total (map.slice_cmp-IsAntisymmetric map.nat_cmp-IsAntisymmetric) (table_of n).entries (table_of p).entries
      (λ q. both_found _ _ (back o q) (forth o q))

  pub grown_table : p.far.honest ≡ true → table_of record { far = p.far; seed = p.seed; slots = slots; buckets = buckets; count = p.count } ≡ table_of p
  unfolding n
  grown_table o = λ i. record { honest = p.far.honest; entries = grown_entries o i }

  pub grown_sound : Sound record { far = p.far; seed = p.seed; slots = slots; buckets = buckets; count = p.count }
  unfolding n
  grown_sound = record {
    some = some;
    fits = grown.fits;
    reached = grown.reached;
    apart = grown.apart sound.apart;
    held = λ j t h e. let o = grown.from j t h e in sound.held o.0 t h o.2;
    owned = λ h k e. let o = sound.owned h k e in let m = moved buckets p.slots slots grown o.0 o.1 h o.2 in (m.0, o.1, m.1);
    tagged = λ o j t h e. let i = grown.from j t h e in sound.tagged o i.0 t h i.2;
    distinct = grown_distinct;
    counted = λ h. sound.counted h ∙ ap map.len (sym (grown_entries h));
  }
