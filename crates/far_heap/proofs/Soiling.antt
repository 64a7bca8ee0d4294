-- What a scope has soiled: after a write and after a close; and in each state beside its mutator's seat.
use Rattle.std.proofs.Common.{◌≡◌, ◌≢◌, ℕ, ◌/◌, ◌%◌, Bool, true, false, is_some, List, length, map, refl, sym, ap, ◌∙◌, inl, inr, arith}
use Rattle.std.specs.Prelude.{if◌then◌else◌, slice_index_or}
use Rattle.std.proofs.Math.Logic.{∥∥₁_elim}
use Rattle.std.proofs.Props.{props}
use Rattle.std.proofs.lemmas.Bool.{cases_eq, cases_lt, eq-eqb, eqb-true, ne_eqb, false≢true}
use Rattle.std.proofs.lemmas.List.{get_or-map, get_or_past, length-map}
use Rattle.far_word.specs.declared.sizes.TheConstants.{CELLS}
use Rattle.far_word.specs.Pointer.{read_of}
use Rattle.far_events.specs.state.Law.{is_dirty}
use Rattle.far_events.specs.state.State.{State}
use Rattle.far_table.specs.View.{OwnerView}
use Rattle.far_table.specs.Seats.{Seated}
use Rattle.far_table.specs.Tells.{HasState, OwnerMayBe}
use Rattle.far_table.specs.Views.{held_at, soiled_at}
use Rattle.far_table.proofs.Owners.{known_by}
use Rattle.far_heap.specs.HeapId.{HeapId}
use Rattle.far_heap.specs.Mine.{Mine, SoilsOne, closing, mine_of, owns, soils, views, writing}
use Rattle.far_heap.specs.SoiledIsDirty.{SoiledIsDirty}
use Rattle.far_heap.proofs.Known.{row_here, row_other}
use Rattle.far_heap.proofs.Mines.{views_own}
use Rattle.far_heap.proofs.OwnRows.{own_row-get}

-- ---- after a call
own_if : (b v : Bool) → (if b then v else false) ≡ true → b ≡ true
own_if true v h = refl
own_if false v h = absurd (false≢true h)

-- a scope views what is its mutator's
pub viewed_own : (m : Mine) (p : ℕ) → views m p ≡ true → owns m p ≡ true
viewed_own m p h = own_if (owns m p) (slice_index_or m.viewed (p % CELLS) false) h

pub writing_soils : (m : Mine) → length m.soiled ≡ CELLS → (p from : ℕ) (new : List ℕ) → owns m p ≡ true → SoilsOne p m (writing p from new m)
writing_soils m many p from new own = (row_here m.number m.soiled many p own true false, row_other m.number m.soiled many p own true false)

none_in : (row : List Bool) (k : ℕ) → slice_index_or (map (λ _. false) row) k false ≡ false
none_in row k = elim (cases_lt k (length row)) [
  | inl lt ↦ get_or-map (λ (b : Bool). false) row k false false lt
  | inr past ↦ get_or_past (map (λ (b : Bool). false) row) k false (omega (arith, past, length-map row (λ (b : Bool). false)))
]

none_if : (b v : Bool) → v ≡ false → (if b then v else false) ≡ false
none_if true v e = e
none_if false v e = refl

pub closing_soils : (m : Mine) (p : ℕ) → soils (closing m) p ≡ false
closing_soils m p = none_if (owns m p) (slice_index_or (map (λ _. false) m.soiled) (p % CELLS) false) (none_in m.soiled (p % CELLS))

-- ---- by its seat's view
module _ (s : Seated) (p : ℕ) where
  soils_own : p / CELLS ≡ s.view.number → soils (mine_of s) p ≡ soiled_at s.view p
  soils_own own = rw (eq-eqb (p / CELLS) s.view.number own) (own_row-get (λ q. soiled_at s.view q) s.view.number p false own)

  other_soils : p / CELLS ≢ s.view.number → soils (mine_of s) p ≡ false
  other_soils ne = rw (ne_eqb (p / CELLS) s.view.number ne) refl

  soiled_so : soils (mine_of s) p ≡ true → (p / CELLS ≡ s.view.number) × (soiled_at s.view p ≡ true)
  soiled_so h = elim (cases_eq (p / CELLS) s.view.number) [
    | inl own ↦ (own, sym (soils_own own) ∙ h)
    | inr ne ↦ absurd (false≢true (sym (other_soils ne) ∙ h))
  ]

-- ---- in each state beside it
soiled_there : (o : OwnerView) (x : State) → OwnerMayBe o x → (p : ℕ) → p / CELLS ≡ o.number → x.soiled p ≡ soiled_at o p
soiled_there o x may p own = ap (λ (s : State). s.soiled p) may.is ∙ known_by may.others.owners o.number o o may.stands soiled_at p own

soiled_held : (o : OwnerView) → HasState o → (p : ℕ) → p / CELLS ≡ o.number → soiled_at o p ≡ true → is_some (held_at o p) ≡ true
soiled_held o there p own soiled = ∥∥₁_elim there (hlevel props) (λ (x : (s : State) × OwnerMayBe o s).
    let may = x.1 in
    sym (ap is_some (known_by may.others.owners o.number o o may.stands held_at p own))
    ∙ may.facts.law.soils.soiled_held p (known_by may.others.owners o.number o o may.stands soiled_at p own ∙ soiled))

-- what is soiled is viewed
pub soiled_viewed : (s : Seated) → HasState s.view → (p : ℕ) → soils (mine_of s) p ≡ true → views (mine_of s) p ≡ true
soiled_viewed s there p h = let so = soiled_so s p h in views_own s p so.0 ∙ soiled_held s.view there p so.0 so.1

-- and has DIRTY
pub soiled_is_dirty : (heap : HeapId) (seat : Seated) → seat.table ≡ heap.table → HasState seat.view
    → ((x : State) → OwnerMayBe seat.view x → (p : ℕ) → p / CELLS ≡ seat.view.number → soiled_at seat.view p ≡ true → is_dirty (read_of (x.cell p)) ≡ true)
    → SoiledIsDirty heap (mine_of seat)
soiled_is_dirty heap seat named exists all = record {
  seat = seat;
  mine = refl;
  named = named;
  there = exists;
  same = λ p owned x may. let own = eqb-true (p / CELLS) seat.view.number owned in soiled_there seat.view x may p own ∙ sym (soils_own seat p own);
  dirty = λ p soiled x may. let so = soiled_so seat p soiled in all x may p so.0 so.1;
}
