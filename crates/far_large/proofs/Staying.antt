-- What keeps a value.
use Rattle.std.proofs.Common.{◌≡◌, ◌≢◌, ℕ, ◌<◌, Some, None, Option, List, length, sym, ◌∙◌, ap}
use Rattle.far_objects.specs.Far.{Far, Makes, Others}
use Rattle.far_large.specs.Parts.{AreOthers, AsBefore, Holds, IsNoPart, OthersThan, Parts, Puts, Takes, number_of, part_of}
use Rattle.far_large.proofs.Placing.{kept_by}

none_some : {n : ℕ} {o : Option ℕ} → o ≡ None → o ≡ Some n → ⊥
none_some e f = cc

module _ (large : Parts) (xs : List ℕ) (old new : Far) (was : Holds old large xs) where
  pub by_others : (k : ℕ) → Others k old new → IsNoPart large k → Holds new large xs
  by_others k others none = record { len = was.len; parts = λ i h. kept_by k (number_of large.numbers i) (part_of xs i) old new others (none i h) (was.parts i h) }

  fresh_other : (k : ℕ) → old.sizes k ≡ None → IsNoPart large k
  fresh_other k fresh i h e = none_some fresh (ap old.sizes (sym e) ∙ (was.parts i h).size)

  pub by_made : (k : ℕ) (ys : List ℕ) → Makes k ys old new → IsNoPart large k × Holds new large xs
  by_made k ys m = (fresh_other k m.fresh, by_others k m.others (fresh_other k m.fresh))

  by_others_than : (numbers : List ℕ) (count : ℕ) → OthersThan numbers count old new → ((i j : ℕ) → i < length large.numbers → j < count → number_of numbers j ≢ number_of large.numbers i) → Holds new large xs
  by_others_than numbers count others apart = record {
    len = was.len;
    parts = λ i h. record {
      size = others.sizes (number_of large.numbers i) (λ j l. apart i j h l) ∙ (was.parts i h).size;
      bytes = λ honest. others.bytes (number_of large.numbers i) (λ j l. apart i j h l) ∙ (was.parts i h).bytes (sym others.honest ∙ honest);
    };
  }

  pub by_put : (b : Parts) (more : List ℕ) → Puts b more old new → AreOthers large b × Holds new large xs
  by_put b more p = let apart : AreOthers large b = λ j l. fresh_other (number_of b.numbers j) (p.fresh j l) in
      (apart, by_others_than b.numbers (length b.numbers) p.others (λ i j h l e. apart j l i h (sym e)))

  pub by_taken : (b : Parts) → AreOthers large b → Takes b old new → Holds new large xs
  by_taken b apart t = by_others_than b.numbers (length b.numbers) t.dropped.others (λ i j h l e. apart j l i h (sym e))

  pub by_refused : AsBefore old new → Holds new large xs
  by_refused b = record {
    len = was.len;
    parts = λ i h. record {
      size = b.sizes (number_of large.numbers i) ∙ (was.parts i h).size;
      bytes = λ honest. b.bytes (number_of large.numbers i) (length (part_of xs i)) (was.parts i h).size ∙ (was.parts i h).bytes (sym b.honest ∙ honest);
    };
  }
