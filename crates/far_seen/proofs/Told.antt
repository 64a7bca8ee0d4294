-- What a look-up tells of the set, and a new set.
use Rattle.std.proofs.Common.{◌≡◌, ◌≢◌, ℕ, zero, suc, ◌<◌, ◌≤◌, Bool, true, false, Option, Some, None, List, length, get_or, replicate, refl, sym, ◌∙◌, ap, arith}
use Rattle.std.specs.Cmp.Lexicographic.{slice_cmp}
use Rattle.std.specs.Ordering.{nat_cmp}
use Rattle.std.specs.Bool.{Decides}
use Rattle.std.specs.FinSet as set
use Rattle.std.proofs.lemmas.List.{length-replicate}
use Rattle.far_index.specs.declared.slot.Slot.{Slot}
use Rattle.far_index.specs.declared.slot.Slot.TheVariants.{Empty, Full}
use Rattle.far_index.specs.Slots.{slot_at}
use Rattle.far_index.specs.Tags.{tag_of}
use Rattle.far_index.proofs.Words.{full_empty}
use Rattle.far_seen.specs.Parts.{Plain, Sound, stamp_in, line_in, line_at, set_in}
use Rattle.far_seen.proofs.Members.{no_member}
use Rattle.far_seen.proofs.Outcomes.{full_of}

empties : (n j : ℕ) → get_or (replicate n Empty) j Empty ≡ Empty
empties zero j = refl
empties (suc n) zero = refl
empties (suc n) (suc j) = empties n j

none_line : (q : List ℕ) → ◌≡◌ {A = Option (List ℕ)} None (Some q) → ⊥
none_line q e = cc

module _ (p : Plain) (n : ℕ) (some : 0 < p.buckets) (most : p.buckets ≤ n) (all : p.slots ≡ replicate n Empty) (none : p.count ≡ 0) where
  all_empty : (j : ℕ) → slot_at p.slots j ≡ Empty
  all_empty j = ap (λ ss. get_or ss j Empty) all ∙ empties n j

  not_full : (j t h : ℕ) → slot_at p.slots j ≡ Full t h → ⊥
  not_full j t h e = full_empty t h (sym e ∙ all_empty j)

  pub begins_empty : set_in (line_in p.far.bytes) p.slots ≡ set.empty
  begins_empty = no_member (line_in p.far.bytes) p.slots refl all_empty

  pub begins_stamps : set_in (stamp_in p.far.sizes) p.slots ≡ set.empty
  begins_stamps = no_member (stamp_in p.far.sizes) p.slots refl all_empty

  pub begins_sound : Sound p
  begins_sound = record {
    some = some;
    fits = omega (arith, most, ap (length {A = Slot}) all, length-replicate n Empty);
    reached = record {
      later = λ j t h e. absurd (not_full j t h e);
      through = λ j t h i e low high. absurd (not_full j t h e);
    };
    apart = λ i j t u h a b. absurd (not_full i t h a);
    held = λ j t h e. absurd (not_full j t h e);
    tagged = λ o j t h q e has. absurd (not_full j t h e);
    distinct = λ o i j q a b. absurd (none_line q (sym (ap (line_in p.far.bytes) (all_empty i)) ∙ a));
    counted = λ o. none ∙ sym (set.len-empty (slice_cmp nat_cmp)) ∙ ap set.len (sym begins_empty);
  }

-- ---- a slot that a search passes
none_there : (b : Bool) (P : Type 0) → Decides b P → b ≡ false → P → ⊥
none_there b P d e p = absurd (not_both b e (d.1 p))
  where
    not_both : (b : Bool) → b ≡ false → b ≡ true → ⊥
    not_both b e f = cc

-- it has another tag
pub other_here : (p : Plain) → Sound p → (place tag : ℕ) (line : List ℕ) → tag ≡ tag_of p.seed line → p.far.honest ≡ true → (slot_at p.slots place ≢ Empty) × ((h : ℕ) → slot_at p.slots place ≢ Full tag h) →
    (slot_at p.slots place ≢ Empty) × (line_at p.far.bytes p.slots place ≢ Some line)
other_here p sound place tag line is o met = (
  met.0,
  λ e.
      let full = full_of p.far.bytes (slot_at p.slots place) line e in
      let bytes : p.far.bytes full.1 ≡ Some line = sym (ap (line_in p.far.bytes) full.2) ∙ e in
      met.1 full.1 (full.2 ∙ ap (λ t. Full t full.1) (sound.tagged o place full.0 full.1 line full.2 bytes ∙ sym is)),
)

-- it has the tag, and another line
pub tag_here : (p : Plain) (place tag number : ℕ) (line : List ℕ) (there : Bool) → slot_at p.slots place ≡ Full tag number → Decides there (p.far.bytes number ≡ Some line) → there ≡ false →
    (slot_at p.slots place ≢ Empty) × (line_at p.far.bytes p.slots place ≢ Some line)
tag_here p place tag number line there slot decides none = (
  (λ e. full_empty tag number (sym slot ∙ e)),
  (λ e. none_there there (p.far.bytes number ≡ Some line) decides none (sym (ap (line_in p.far.bytes) slot) ∙ e)),
)
