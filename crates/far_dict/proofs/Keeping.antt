-- What keeps a value, and what others have.
use Rattle.std.proofs.Common.{◌≡◌, ℕ, ◌*◌, ◌-◌, min, ◌⊎◌, inl, inr, Some, List, length, drop, refl, sym, ◌∙◌, ap}
use Rattle.std.proofs.lemmas.List.{length-take, length-drop}
use Rattle.far_objects.specs.declared.objects.TheConstants.{MOST}
use Rattle.far_objects.specs.Far.{Far}
use Rattle.far_large.specs.Parts.{AreOthers, AsBefore, IsCount, IsNoPart, Parts, Puts, Stands, Takes, number_of, part_len, part_of}
use Rattle.far_large.proofs.Placing.{among}
use Rattle.far_large.proofs.Staying.{by_put, by_refused, by_taken}
use Rattle.far_dict.specs.Longs.{IsPart, IsWhole, value_of}
use Rattle.far_dict.proofs.Joining.{joined_same}
use Rattle.far_dict.proofs.Keys.{none_some}

pub record Keeps (large : Parts) (old new : Far) : Type 0 where
  pub whole : IsWhole new large
  pub value : value_of new large ≡ value_of old large

pub flip : (a b : Parts) → AreOthers a b → AreOthers b a
flip a b apart = λ j l i h e. apart i h j l (sym e)

pub keeps_itself : (a : Parts) (far : Far) → IsWhole far a → Keeps a far far
keeps_itself a far whole = record { whole = whole; value = refl }

pub keeps_then : (a : Parts) (old now new : Far) → Keeps a old now → Keeps a now new → Keeps a old new
keeps_then a old now new first then = record { whole = then.whole; value = then.value ∙ first.value }

part_long : (xs : List ℕ) (n i : ℕ) → n ≡ length xs → length (part_of xs i) ≡ part_len n i
unfolding part_of part_len
part_long xs n i e = length-take MOST (drop (i * MOST) xs) ∙ ap (λ k. min MOST k) (length-drop (i * MOST) xs) ∙ ap (λ k. min MOST (k - i * MOST)) (sym e)

pub stands : (far : Far) (large : Parts) → IsWhole far large → Stands far large
stands far large whole = λ i h. (whole.holds.parts i h).size ∙ ap (λ n. Some n) (part_long whole.bytes large.len i whole.holds.len)

module _ (a : Parts) (old new : Far) (whole : IsWhole old a) where
  pub put_apart : (b : Parts) (xs : List ℕ) → Puts b xs old new → AreOthers a b
  put_apart b xs p = (by_put a whole.bytes old new whole.holds b xs p).0

  pub keeps_put : (b : Parts) (xs : List ℕ) → Puts b xs old new → Keeps a old new
  keeps_put b xs p =
      let both = by_put a whole.bytes old new whole.holds b xs p in
      record {
        whole = record { bytes = whole.bytes; holds = both.1; count = whole.count };
        value = joined_same old.bytes new.bytes a.numbers (λ i h. p.others.bytes (number_of a.numbers i) (λ j l e. both.0 j l i h (sym e)));
      }

  pub keeps_taken : (b : Parts) → AreOthers a b → Takes b old new → Keeps a old new
  keeps_taken b apart t = record {
    whole = record { bytes = whole.bytes; holds = by_taken a whole.bytes old new whole.holds b apart t; count = whole.count };
    value = joined_same old.bytes new.bytes a.numbers (λ i h. t.dropped.others.bytes (number_of a.numbers i) (λ j l e. apart j l i h (sym e)));
  }

  pub keeps_refused : AsBefore old new → Keeps a old new
  keeps_refused was = record {
    whole = record { bytes = whole.bytes; holds = by_refused a whole.bytes old new whole.holds was; count = whole.count };
    value = joined_same old.bytes new.bytes a.numbers (λ i h. was.bytes (number_of a.numbers i) (length (part_of whole.bytes i)) (whole.holds.parts i h).size);
  }

pub whole_put : (b : Parts) (xs : List ℕ) (old new : Far) → Puts b xs old new → IsCount b.len (length b.numbers) → IsWhole new b
whole_put b xs old new p count = record { bytes = xs; holds = p.holds; count = count }

pub owned_put : (b : Parts) (xs : List ℕ) (old new : Far) (n size : ℕ) → Puts b xs old new → new.sizes n ≡ Some size → IsPart b n ⊎ (old.sizes n ≡ Some size)
owned_put b xs old new n size p there = elim (among b.numbers (length b.numbers) n) [
  | inl one ↦ inl (record { place = one.place; within = one.within; is = one.is })
  | inr none ↦ inr (sym (p.others.sizes n none) ∙ there)
]

pub owned_taken : (b : Parts) (old new : Far) (n size : ℕ) → Takes b old new → new.sizes n ≡ Some size → IsNoPart b n × (old.sizes n ≡ Some size)
owned_taken b old new n size t there = elim (among b.numbers (length b.numbers) n) [
  | inl one ↦ absurd (none_some (sym (ap new.sizes one.is) ∙ t.dropped.gone one.place one.within) there)
  | inr none ↦ (none, sym (t.dropped.others.sizes n none) ∙ there)
]

pub no_part : (large : Parts) (n : ℕ) → IsPart large n → IsNoPart large n → ⊥
no_part large n part none = none part.place part.within part.is
