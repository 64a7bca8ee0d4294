-- Cells that have changed EVAC alone name the places that they named.
use Rattle.std.proofs.Common.{◌≡◌, ℕ, Option, Some, ap, sym, refl, ◌∙◌}
use Rattle.far_word.specs.declared.mark.Marks.{Marks}
use Rattle.far_word.specs.declared.pointer.Place.{Place}
use Rattle.far_word.specs.declared.pointer.PtrWord.{PtrWord}
use Rattle.far_word.specs.declared.pointer.PtrWord.TheVariants.{Near}
use Rattle.far_word.specs.Pointer.{read_of}
use Rattle.far_evac.specs.Dealings.{says}
use Rattle.far_evac.specs.Laws.{but_evac}
use Rattle.far_evac.specs.Moment.{Moment}

pub near_but : (cell : Option PtrWord) (len ds : ℕ) (place : Place) (marks : Marks) → but_evac (Some (Near len ds place marks)) ≡ but_evac cell → (old : Marks) × (cell ≡ Some (Near len ds place old))
near_but (Some (Near n d at old)) len ds place marks e =
    let lens : n ≡ len = cc in
    let structures : d ≡ ds = cc in
    let places : at ≡ place = cc in
    (old, rw (lens, structures, places) refl)
near_but _ len ds place marks e = absurd cc

module _ (m t : Moment) (same : (p : ℕ) → but_evac (says t p) ≡ but_evac (says m p)) where
  pub still_near : (p len ds : ℕ) (place : Place) (marks : Marks) → read_of (t.core.cell p) ≡ Some (Near len ds place marks) → (old : Marks) × (read_of (m.core.cell p) ≡ Some (Near len ds place old))
  still_near p len ds place marks near = near_but (read_of (m.core.cell p)) len ds place marks (ap but_evac (sym near) ∙ same p)
