-- What keys were given stays where it is while one key's slot changes, or other bytes are put beside.
use Rattle.std.proofs.Common.{◌≡◌, ◌∙◌, ◌+◌, ◌*◌, ◌<◌, ◌≤◌, inl, inr, ap, sym, subst, ℕ, Bool, true, List, length, Option, Some, IfSome, arith}
use Rattle.far_file.specs.Entry.{len_in, slot_in}
use Rattle.far_file.specs.Free.{KeepsOwned, KeepsOwnedBut}
use Rattle.far_file.specs.Positions.{HoldsAt, KeepsOutside}
use Rattle.far_file.specs.Row.{AreKept, IsKept, IsUnused, ChangesAt}
use Rattle.far_file.specs.Where.{class_in, page_in, scale, slot_at, within_page, AreApart, HasExtent, KeepsExtents}
use Rattle.far_file.specs.declared.held.Held.{Held}
use Rattle.far_file.specs.declared.place.TheConstants.{CLASSES, SLOT, SLOTS}
use Rattle.far_file.specs.declared.seal.Seal.{Ghosts}
use Rattle.far_file.proofs.Apart.{slots_apart, stand_beside}

-- what an Option holds
pub same_some : {A : Type 0} (x y : A) → Some x ≡ Some y → x ≡ y
same_some x y is = cc

pub of_some : {A : Type 0} (found : Option A) (x : A) (P : A → Type 0) → found ≡ Some x → IfSome found P → P x
of_some found x P is so = subst (λ o. IfSome o P) is so

-- the slot that is freed isn't this key's
still : (owner freed : ℕ → ℕ → Option ℕ) (those one class slot id : ℕ) → KeepsOwnedBut owner freed those one → (class ≡ those → slot ≡ one → ⊥) → owner class slot ≡ Some id → freed class slot ≡ Some id
still owner freed those one class slot id keeps other owned = elim (keeps class slot) [ inl this ↦ absurd (other this.0 this.1) | inr same ↦ same ∙ owned ]

module _ {L : Type 0} {l : Ghosts L} where
  -- where a slot names a key that it named, all else is as before
  renamed : (seen : ℕ → ℕ) (honest : Bool) (old new : ℕ → ℕ → Option ℕ) (extents : List ℕ) (id : ℕ) (held : Held L l) → IsKept seen honest old extents id held → new (class_in (len_in held)) (slot_in held) ≡ Some id → IsKept seen honest new extents id held
  renamed seen honest old new extents id held kept owned = record { owned = owned; key = kept.key; few = kept.few; low = kept.low; there = kept.there; stands = kept.stands }

  -- one key's entry is set that had no slot
  pub set_free : (seen : ℕ → ℕ) (honest : Bool) (owner : ℕ → ℕ → Option ℕ) (extents : List ℕ) (old new : ℕ → Option (Held L l)) (id : ℕ) (entry : Option (Held L l)) →
      AreKept seen honest owner extents old → IfSome entry (IsKept seen honest owner extents id) → ChangesAt old new id entry → AreKept seen honest owner extents new
  set_free seen honest owner extents old new id entry kept own changes q held is = elim (changes q) [
    | inl here ↦ subst (λ k. IsKept seen honest owner extents k held) (sym here.0) (of_some entry held (IsKept seen honest owner extents id) (sym here.1 ∙ is) own)
    | inr there ↦ kept q held (sym there.1 ∙ is)
  ]

  -- and one that had a slot, which is freed
  pub set_freed : (seen : ℕ → ℕ) (honest : Bool) (owner freed : ℕ → ℕ → Option ℕ) (extents : List ℕ) (old new : ℕ → Option (Held L l)) (id : ℕ) (entry : Option (Held L l)) (was : Held L l) →
      AreKept seen honest owner extents old → IfSome entry (IsKept seen honest owner extents id) → IfSome entry (λ held. IsUnused old (class_in (len_in held)) (slot_in held)) → ChangesAt old new id entry → old id ≡ Some was →
      KeepsOwnedBut owner freed (class_in (len_in was)) (slot_in was) → AreKept seen honest freed extents new
  set_freed seen honest owner freed extents old new id entry was kept own unused changes before keeps q held is = elim (changes q) [
    | inl here ↦
        let set : entry ≡ Some held = sym here.1 ∙ is in
        let mine = of_some entry held (IsKept seen honest owner extents id) set own in
        let new = of_some entry held (λ h. IsUnused old (class_in (len_in h)) (slot_in h)) set unused in
        let named = still owner freed (class_in (len_in was)) (slot_in was) (class_in (len_in held)) (slot_in held) id keeps (λ class slot. new id was before (sym class) (sym slot)) mine.owned in
        subst (λ k. IsKept seen honest freed extents k held) (sym here.0) (renamed seen honest owner freed extents id held mine named)
    | inr there ↦
        let theirs = kept q held (sym there.1 ∙ is) in
        let mine = kept id was before in
        let apart : class_in (len_in held) ≡ class_in (len_in was) → (slot_in held) ≡ (slot_in was) → ⊥ =
        λ class slot. there.0 (same_some q id (sym theirs.owned ∙ ap (λ c. owner c (slot_in held)) class ∙ ap (λ s. owner (class_in (len_in was)) s) slot ∙ mine.owned)) in
        renamed seen honest owner freed extents q held theirs (still owner freed (class_in (len_in was)) (slot_in was) (class_in (len_in held)) (slot_in held) q keeps apart theirs.owned)
  ]

  -- a slot that no key uses is freed
  pub released : (seen : ℕ → ℕ) (honest : Bool) (owner freed : ℕ → ℕ → Option ℕ) (extents : List ℕ) (entry : ℕ → Option (Held L l)) (class slot : ℕ) → AreKept seen honest owner extents entry → IsUnused entry class slot →
      KeepsOwnedBut owner freed class slot → AreKept seen honest freed extents entry
  released seen honest owner freed extents entry class slot kept unused keeps q held is =
      let theirs = kept q held is in
      renamed seen honest owner freed extents q held theirs (still owner freed class slot (class_in (len_in held)) (slot_in held) q keeps (λ c s. unused q held is c s) theirs.owned)

  -- keys keep their slots, and pages their extents
  pub taken : (seen : ℕ → ℕ) (honest : Bool) (owner new : ℕ → ℕ → Option ℕ) (extents more : List ℕ) (entry : ℕ → Option (Held L l)) → AreKept seen honest owner extents entry → KeepsOwned owner new → KeepsExtents extents more →
      AreKept seen honest new more entry
  taken seen honest owner new extents more entry kept keeps pages q held is =
      let theirs = kept q held is in
      let same = pages (page_in (class_in (len_in held)) (slot_in held)) theirs.there in
      record {
        owned = keeps (class_in (len_in held)) (slot_in held) q theirs.key theirs.owned;
        key = theirs.key;
        few = theirs.few;
        low = theirs.low;
        there = subst (λ e. 0 < e) (sym same) theirs.there;
        stands = λ is_so. subst (λ e. HoldsAt seen (16384 * e + 64 * within_page (class_in (len_in held)) (slot_in held)) held.was.value.items) (sym same) (theirs.stands is_so);
      }

  -- bytes are put into a slot that no key uses
  pub put_apart : (old new : ℕ → ℕ) (honest now : Bool) (owner : ℕ → ℕ → Option ℕ) (extents : List ℕ) (below : ℕ) (entry : ℕ → Option (Held L l)) (class slot count : ℕ) → AreApart extents below → ((n : ℕ) → class_in n < CLASSES) → ((n : ℕ) → n ≤ SLOT → n ≤ 64 * scale (class_in n)) →
      ((held : Held L l) → (len_in held) ≤ SLOT → length held.was.value.items ≡ (len_in held)) → class < CLASSES → slot < SLOTS → count ≤ 64 * scale class → HasExtent extents (page_in class slot) →
      now ≡ honest → (honest ≡ true → KeepsOutside old new (slot_at extents class slot) count) → IsUnused entry class slot → AreKept old honest owner extents entry → AreKept new now owner extents entry
  put_apart old new honest now owner extents below entry class slot count law classes rooms fits c_below s_low few there same keeps unused kept q held is =
      let theirs = kept q held is in
      let rooms_of = rooms (len_in held) theirs.few in
      let long = fits held theirs.few in
      let enough : length held.was.value.items ≤ 64 * scale (class_in (len_in held)) = omega (arith, rooms_of, long) in
      let apart = slots_apart extents below (class_in (len_in held)) class (slot_in held) slot law theirs.there (classes (len_in held)) c_below theirs.low s_low (λ c s. unused q held is c s) in
      record {
        owned = theirs.owned;
        key = theirs.key;
        few = theirs.few;
        low = theirs.low;
        there = theirs.there;
        stands = λ is_so. let so : honest ≡ true = sym same ∙ is_so in
            stand_beside old new (slot_at extents (class_in (len_in held)) (slot_in held)) (64 * scale (class_in (len_in held))) (slot_at extents class slot) count (64 * scale class) held.was.value.items
            (keeps so) (theirs.stands so) enough few apart;
      }

  -- where of each key as much is known
  pub entries_kept : (seen : ℕ → ℕ) (honest : Bool) (owner : ℕ → ℕ → Option ℕ) (extents : List ℕ) (old new : ℕ → Option (Held L l)) → AreKept seen honest owner extents old → ((k : ℕ) → new k ≡ old k) → AreKept seen honest owner extents new
  entries_kept seen honest owner extents old new kept same q held is = kept q held (sym (same q) ∙ is)
