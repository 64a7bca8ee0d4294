-- Entries told one by one.
use Rattle.std.proofs.Common.{◌≡◌, ℕ, zero, suc, ◌+◌, ◌<◌, ◌≤◌, true, cond, Option, Some, None, Result, Ok, Err, OnOk, List, [], ◌∷◌, ◌++◌, length, take, refl, sym, ◌∙◌, ap, subst, arith}
use Rattle.std.specs.Prelude.{IfOk, MatchOption, is_some}
use Rattle.std.specs.Option.{option_to_list, option_map}
use Rattle.std.specs.List.{FoldsTo}
use Rattle.std.specs.Ordering.{nat_cmp}
use Rattle.std.specs.Cmp.Lexicographic.{slice_cmp, nat_list_cmp_total}
use Rattle.std.specs.FinMap as map
use Rattle.std.proofs.lemmas.List.{take_all}
use Rattle.far_word.specs.declared.refused.Refused.{Refused}
use Rattle.far_index.specs.declared.slot.Slot.{Slot}
use Rattle.far_index.specs.declared.slot.Slot.TheVariants.{Full}
use Rattle.far_index.specs.Slots.{slot_at}
use Rattle.far_map.specs.Entries.{Entry, decoded, entry_of}
use Rattle.far_map.specs.Listed.{AreAllOf}
use Rattle.far_map.specs.Plain.{Plain, Sound, table_of}
use Rattle.far_map.specs.Slots.{Bytes, entry_in, entries_in, Distinct}
use Rattle.far_map.specs.Table.{Table}
use Rattle.far_map.proofs.Lookups.{at_other, none_found}

-- the entry of a slot, as it was read
pub read_entry : (b : Bytes) (s : Slot) (t h : ℕ) (buffer : List ℕ) (r : Result (Option ℕ) Refused) → s ≡ Full t h → IfOk r (λ o. MatchOption o ⊥ (λ len. b h ≡ Some (take len buffer))) →
    IfOk r (λ o. MatchOption o (entry_in b s ≡ None) (λ len. entry_in b s ≡ decoded (take len buffer)))
read_entry b s t h buffer (Ok None) is read = absurd read
read_entry b s t h buffer (Ok (Some len)) is read = ap (entry_in b) is ∙ ap entry_of read
read_entry b s t h buffer (Err why) is read = read

-- ---- each of them once
one_more : (o : Option Entry) (es : List Entry) → length es ≡ map.len (map.from_entries {R = slice_cmp nat_cmp} es) → ((e : Entry) → o ≡ Some e → map.find (slice_cmp nat_cmp) e.0 es ≡ None) →
    length (option_to_list o ++ es) ≡ map.len (map.from_entries {R = slice_cmp nat_cmp} (option_to_list o ++ es))
one_more None es same fresh = same
one_more (Some e) es same fresh =
    let m = map.from_entries {R = slice_cmp nat_cmp} es in
    let none : map.get m e.0 ≡ None = map.get-from_entries nat_list_cmp_total es e.0 ∙ fresh e refl in
    let more : map.len (map.insert m e.0 e.1) ≡ map.len m + 1 = map.len-insert nat_list_cmp_total m e.0 e.1 ∙ ap (λ v. cond (is_some v) (map.len m) (map.len m + 1)) none in
    let next : suc (map.len m) ≡ map.len m + 1 = omega arith in
    ap suc same ∙ next ∙ sym more

pub each_once : (b : Bytes) (ss : List Slot) → Distinct b ss → length (entries_in b ss) ≡ map.len (map.from_entries {R = slice_cmp nat_cmp} (entries_in b ss))
each_once b [] distinct = sym (map.len-empty (slice_cmp nat_cmp) (List ℕ))
each_once b (s ∷ ss) distinct =
    one_more (entry_in b s) (entries_in b ss) (each_once b ss (λ i j key p q. omega (arith, distinct (suc i) (suc j) key p q))) (λ e is.
    none_found e.0 b ss (λ j. at_other e.0 (entry_in b (slot_at ss j)) (λ there. absurd (omega (arith, distinct zero (suc j) e.0 (ap (option_map (λ x. x.0)) is) there)))))

pub all_of : (p : Plain) (t : Table) → table_of p ≡ t → Sound p → p.far.honest ≡ true → AreAllOf (entries_in p.far.bytes p.slots) t.entries
all_of p t v sound o = record {
  are = ap (λ (u : Table). u.entries) v;
  once = each_once p.far.bytes p.slots (sound.distinct o) ∙ ap (λ (u : Table). map.len u.entries) v;
}

-- ---- a call at each of them
module _ {F : Type 0} (R : F → Entry → F → Type 0) where
  at_last : (o : Option Entry) (f p q : F) → f ≡ p → MatchOption o (q ≡ p) (λ e. R p e q) → FoldsTo R f (option_to_list o ++ []) q
  at_last None f p q e m = e ∙ sym m
  at_last (Some x) f p q e m = (q, subst (λ k. R k x q) (sym e) m, refl)

  at_first : (o : Option Entry) (xs ys : List Entry) (f p q : F) → ((g : F) → FoldsTo R g xs p → FoldsTo R g ys q) → FoldsTo R f (option_to_list o ++ xs) p → FoldsTo R f (option_to_list o ++ ys) q
  at_first None xs ys f p q more told = more f told
  at_first (Some x) xs ys f p q more told = (told.0, told.1, more told.0 told.2)

  called_more : (b : Bytes) (ss : List Slot) (n : ℕ) (f p q : F) → n < length ss → FoldsTo R f (entries_in b (take n ss)) p → MatchOption (entry_in b (slot_at ss n)) (q ≡ p) (λ e. R p e q) → FoldsTo R f (entries_in b (take (suc n) ss)) q
  called_more b [] n f p q low told m = absurd (omega (arith, low))
  called_more b (s ∷ ss) zero f p q low told m = at_last (entry_in b s) f p q told m
  called_more b (s ∷ ss) (suc n) f p q low told m =
      at_first (entry_in b s) (entries_in b (take n ss)) (entries_in b (take (suc n) ss)) f p q (λ g so. called_more b ss n g p q (omega (arith, low)) so m) told

  pub called_next : (b : Bytes) (ss : List Slot) (n : ℕ) (f p q : F) → n < length ss → FoldsTo R f (entries_in b (take n ss)) p → MatchOption (entry_in b (slot_at ss n)) (q ≡ p) (λ e. R p e q) → FoldsTo R f (entries_in b (take (n + 1) ss)) q
  called_next b ss n f p q low told m =
      let next : suc n ≡ n + 1 = omega arith in
      subst (λ k. FoldsTo R f (entries_in b (take k ss)) q) next (called_more b ss n f p q low told m)

  pub called_whole : (b : Bytes) (ss : List Slot) (n : ℕ) (f p : F) → length ss ≤ n → FoldsTo R f (entries_in b (take n ss)) p → FoldsTo R f (entries_in b ss) p
  called_whole b ss n f p whole told = subst (λ xs. FoldsTo R f (entries_in b xs) p) (take_all n ss whole) told

  pub all_called : (r : Result (Unit {0}) Refused) (p : Plain) (t : Table) (f last : F) → table_of p ≡ t → Sound p → t.honest ≡ true →
      (p.far.honest ≡ true → OnOk r (FoldsTo R f (entries_in p.far.bytes p.slots) last)) → OnOk r ((told : List Entry) × AreAllOf told t.entries × FoldsTo R f told last)
  all_called (Ok u) p t f last v sound h called =
      let o : p.far.honest ≡ true = ap (λ (x : Table). x.honest) v ∙ h in
      (entries_in p.far.bytes p.slots, all_of p t v sound o, called o)
  all_called (Err e) p t f last v sound h called = called (ap (λ (x : Table). x.honest) v ∙ h)

  pub to_last : (r : Result (Unit {0}) Refused) (t : Table) (f last : F) → OnOk r ((told : List Entry) × AreAllOf told t.entries × FoldsTo R f told last) →
      OnOk r ((told : List Entry) × AreAllOf told t.entries × (last : F) × FoldsTo R f told last)
  to_last (Ok u) t f last so = (so.0, so.1, last, so.2)
  to_last (Err e) t f last so = so
