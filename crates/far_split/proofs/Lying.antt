-- Over a far side that may lie refusals and lengths are by the plain program's law.
use Rattle.std.proofs.Common.{◌≡◌, inl, inr, ℕ, ◌+◌, Some, None, Option, List, length, refl, sym, ap, ◌∙◌, arith}
use Rattle.std.specs.Prelude.{slice_range}
use Rattle.std.proofs.lemmas.Option.{none-some}
use Rattle.far_word.specs.declared.refused.Refused.TheVariants.{Closed, Damaged, Device, NoRoom, NotHeld, Range}
use Rattle.far_events.specs.state.State.{put}
use Rattle.far_events.proofs.Put.{put_same}
use Rattle.far_text.specs.Command.{Mutator, On, Use, Reads, Writes, Views}
use Rattle.far_replay.specs.Alone.{FitsIn, IsIn, IsOut, PassesEnd}
use Rattle.far_alone.specs.Own.{Own}
use Rattle.far_replay.proofs.Fronts.{range_length}
use Rattle.far_split.specs.Served.{ReadsAreAsLong, RefusalsAreLawful}

-- of an object for which others were given as many bytes are had
module _ (o : Own) (p k : ℕ) (same : k ≡ p) (old new : List ℕ) (had : o.object p ≡ Some old) (long : length new ≡ length old) where
  abbrev with_others : ℕ → Option (List ℕ)
  with_others = put o.object p (Some new)

  was : o.object k ≡ Some old
  was = ap o.object same ∙ had

  never_none : with_others k ≡ None → ⊥
  never_none none = none-some new (sym none ∙ put_same o.object p (Some new) k same)

  as_long : (all : List ℕ) → with_others k ≡ Some all → length old ≡ length all
  as_long all is = sym long ∙ ap length (some_is (sym (put_same o.object p (Some new) k same) ∙ is))
    where
      some_is : Some new ≡ Some all → new ≡ all
      some_is e = cc

  still_out : (from count : ℕ) → (all : List ℕ) × (with_others k ≡ Some all) × IsOut all from count → (all : List ℕ) × (o.object k ≡ Some all) × IsOut all from count
  still_out from count (all, is, inl none) = (old, was, inl none)
  still_out from count (all, is, inr past) = (old, was, inr (omega (arith, past, as_long all is)))

  still_in : (from count : ℕ) → (all : List ℕ) × (with_others k ≡ Some all) × IsIn all from count → (all : List ℕ) × (o.object k ≡ Some all) × IsIn all from count
  still_in from count (all, is, (some, fits)) = (old, was, (some, omega (arith, fits, as_long all is)))

  still_past : (how : Use) → (all : List ℕ) × (with_others k ≡ Some all) × PassesEnd all how → (all : List ℕ) × (o.object k ≡ Some all) × PassesEnd all how
  still_past (Reads from len) has = still_out from len has
  still_past (Writes from bytes) has = still_out from (length bytes) has
  still_past Views has = absurd has.2

  still_fits : (how : Use) → (all : List ℕ) × (with_others k ≡ Some all) × FitsIn all how → (all : List ℕ) × (o.object k ≡ Some all) × FitsIn all how
  still_fits (Reads from len) has = still_in from len has
  still_fits (Writes from bytes) has = still_in from (length bytes) has
  still_fits Views has = (old, was, tt)

pub refusals_lawful : RefusalsAreLawful
refusals_lawful m o c why q (inl knows) = (q, knows)
refusals_lawful m o (Mutator j (On k how)) Closed q (inr g) = (o, (g.knows.0, refl))
refusals_lawful m o (Mutator j (On k how)) NotHeld q (inr g) = absurd (never_none o g.p k g.asks.1 g.old g.new g.had g.long g.knows.1)
refusals_lawful m o (Mutator j (On k how)) Range q (inr g) = (o, (g.knows.0, refl, still_past o g.p k g.asks.1 g.old g.new g.had g.long how g.knows.2))
refusals_lawful m o (Mutator j (On k how)) NoRoom q (inr g) = (o, (g.knows.0, g.knows.1, refl, still_fits o g.p k g.asks.1 g.old g.new g.had g.long how g.knows.3))
refusals_lawful m o (Mutator j (On k how)) Device q (inr g) = (o, (g.knows.0, g.knows.1, refl, still_fits o g.p k g.asks.1 g.old g.new g.had g.long how g.knows.3))
refusals_lawful m o (Mutator j (On k how)) Damaged q (inr g) = (o, (g.knows.0, g.knows.1, refl, still_fits o g.p k g.asks.1 g.old g.new g.had g.long how g.knows.3))
refusals_lawful m o (Mutator j (On k how)) why q (inr g) = absurd g.knows
refusals_lawful m o c why q (inr g) = absurd g.asks

part_long : (all bytes : List ℕ) (from len : ℕ) → IsIn all from len → bytes ≡ slice_range all from (from + len) → length bytes ≡ len
part_long all bytes from len (some, fits) is = ap length is ∙ range_length all from len fits

pub reads_as_long : ReadsAreAsLong
reads_as_long m o k p from len bytes q (inl (opened, viewed, (all, had, within, is))) = part_long all bytes from len within is
reads_as_long m o k p from len bytes q (inr g) = let (all, had, within, is) = g.knows.2 in part_long all bytes from len within is
