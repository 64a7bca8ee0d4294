-- Entries folded until a step is refused.
use Rattle.std.proofs.Common.{◌≡◌, ℕ, zero, suc, ◌+◌, ◌<◌, ◌≤◌, true, Option, Some, None, Result, Ok, Err, List, [], ◌∷◌, ◌++◌, length, drop, refl, sym, ◌∙◌, ap, subst, arith}
use Rattle.std.specs.Prelude.{IfOk, MatchOption}
use Rattle.std.specs.Option.{option_to_list}
use Rattle.std.proofs.lemmas.List.{drop_all}
use Rattle.far_word.specs.declared.refused.Refused.{Refused}
use Rattle.far_index.specs.declared.slot.Slot.{Slot}
use Rattle.far_index.specs.Slots.{slot_at}
use Rattle.far_map.specs.Entries.{Entry}
use Rattle.far_map.specs.Listed.{AreAllOf, FoldsUntil}
use Rattle.far_map.specs.Plain.{Plain, Sound, table_of}
use Rattle.far_map.specs.Slots.{Bytes, entry_in, entries_in}
use Rattle.far_map.specs.Table.{Table}
use Rattle.far_map.proofs.Listing.{all_of}

-- the entries from slot n on
pub from_slot : (b : Bytes) (ss : List Slot) (n : ℕ) → n < length ss → entries_in b (drop n ss) ≡ option_to_list (entry_in b (slot_at ss n)) ++ entries_in b (drop (suc n) ss)
from_slot b [] n low = absurd (omega (arith, low))
from_slot b (s ∷ ss) zero low = refl
from_slot b (s ∷ ss) (suc n) low = from_slot b ss n (omega (arith, low))

module _ {A E : Type 0} (step : A → List ℕ → List ℕ → Result A E → Type 0) where
  same_made : (a b : A) → ◌≡◌ {A = Result A E} (Ok b) (Ok a) → b ≡ a
  same_made a b e = cc

  not_made : (a : A) (why : E) → ◌≡◌ {A = Result A E} (Err why) (Ok a) → ⊥
  not_made a why e = cc

  -- a step that was made at the first entry
  pub until_cons : (e : Entry) (es : List Entry) (a b : A) (r : Result A E) → step a e.0 e.1 (Ok b) → FoldsUntil step b es r → FoldsUntil step a (e ∷ es) r
  until_cons e es a b (Ok c) made rest = (b, made, rest)
  until_cons e es a b (Err why) made rest =
      record { done = e ∷ rest.done; entry = rest.entry; rest = rest.rest; is = ap (λ (xs : List Entry). e ∷ xs) rest.is; made = rest.made; steps = (b, made, rest.steps); stop = rest.stop }

  -- one that was refused
  pub until_stop : (e : Entry) (es : List Entry) (a : A) (why : E) → step a e.0 e.1 (Err why) → FoldsUntil step a (e ∷ es) (Err why)
  until_stop e es a why stop = record { done = []; entry = e; rest = es; is = refl; made = a; steps = refl; stop = stop }

  -- the same of a slot that may have no entry
  next_slot : (o : Option Entry) (es : List Entry) (a b : A) (r : Result A E) → MatchOption o (◌≡◌ {A = Result A E} (Ok b) (Ok a)) (λ e. step a e.0 e.1 (Ok b)) → FoldsUntil step b es r → FoldsUntil step a (option_to_list o ++ es) r
  next_slot None es a b r m rest = subst (λ c. FoldsUntil step c es r) (same_made a b m) rest
  next_slot (Some e) es a b r m rest = until_cons e es a b r m rest

  stop_slot : (o : Option Entry) (es : List Entry) (a : A) (why : E) → MatchOption o (◌≡◌ {A = Result A E} (Err why) (Ok a)) (λ e. step a e.0 e.1 (Err why)) → FoldsUntil step a (option_to_list o ++ es) (Err why)
  stop_slot None es a why m = absurd (not_made a why m)
  stop_slot (Some e) es a why m = until_stop e es a why m

  module _ (b : Bytes) (ss : List Slot) (n : ℕ) (low : n < length ss) (a : A) (s : Result A E) (m : MatchOption (entry_in b (slot_at ss n)) (s ≡ Ok a) (λ e. step a e.0 e.1 s)) where
    pub slot_made : (next : A) (r : Result A E) → s ≡ Ok next → FoldsUntil step next (entries_in b (drop (n + 1) ss)) r → FoldsUntil step a (entries_in b (drop n ss)) r
    slot_made next r is rest =
        let one : n + 1 ≡ suc n = omega arith in
        subst (λ es. FoldsUntil step a es r) (sym (from_slot b ss n low))
        (next_slot (entry_in b (slot_at ss n)) (entries_in b (drop (suc n) ss)) a next r
        (subst (λ x. MatchOption (entry_in b (slot_at ss n)) (x ≡ Ok a) (λ e. step a e.0 e.1 x)) is m) (subst (λ k. FoldsUntil step next (entries_in b (drop k ss)) r) one rest))

    pub slot_stops : (why : E) → s ≡ Err why → FoldsUntil step a (entries_in b (drop n ss)) (Err why)
    slot_stops why is =
        subst (λ es. FoldsUntil step a es (Err why)) (sym (from_slot b ss n low))
        (stop_slot (entry_in b (slot_at ss n)) (entries_in b (drop (suc n) ss)) a why (subst (λ x. MatchOption (entry_in b (slot_at ss n)) (x ≡ Ok a) (λ e. step a e.0 e.1 x)) is m))

  -- no slot is left
  pub none_left : (b : Bytes) (ss : List Slot) (n : ℕ) (a : A) → length ss ≤ n → FoldsUntil step a (entries_in b (drop n ss)) (Ok a)
  none_left b ss n a whole = subst (λ xs. FoldsUntil step a (entries_in b xs) (Ok a)) (sym (drop_all n ss whole)) refl

  pub all_folded : (r : Result (Result A E) Refused) (p : Plain) (t : Table) (a : A) → table_of p ≡ t → Sound p → t.honest ≡ true →
      (p.far.honest ≡ true → IfOk r (FoldsUntil step a (entries_in p.far.bytes p.slots))) → IfOk r (λ x. (told : List Entry) × AreAllOf told t.entries × FoldsUntil step a told x)
  all_folded (Ok x) p t a v sound h folded =
      let o : p.far.honest ≡ true = ap (λ (u : Table). u.honest) v ∙ h in
      (entries_in p.far.bytes p.slots, all_of p t v sound o, folded o)
  all_folded (Err e) p t a v sound h folded = folded (ap (λ (u : Table). u.honest) v ∙ h)
