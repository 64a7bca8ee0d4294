-- An owner soils an object that it holds: what that leaves as it is, and that it changes nothing where the object was soiled before.
use Rattle.std.proofs.Common.{◌≡◌, ℕ, ◌+◌, ◌^◌, ◌<◌, Bool, true, false, refl, sym, ap, subst, ◌∙◌, [], ◌∷◌, Option, Some, None, bit_or, is_some, if◌then◌else◌}
use Rattle.far_word.specs.declared.mark.Mark.TheVariants.{Dirty}
use Rattle.far_word.specs.declared.mark.Marks.{Marks}
use Rattle.far_word.specs.declared.pointer.Place.{Place}
use Rattle.far_word.specs.declared.pointer.PtrWord.{PtrWord}
use Rattle.far_word.specs.declared.pointer.PtrWord.TheVariants.{Free, Near, Far}
use Rattle.far_word.specs.Bytes.{bytes_of}
use Rattle.far_word.specs.Mark.{marks_with, position}
use Rattle.far_word.specs.Pointer.{read_of, word_of}
use Rattle.far_word.proofs.PointerLaws.{read_says, with_mark_word}
use Rattle.far_events.specs.declared.event.Event.TheVariants.{Soil as Soils}
use Rattle.far_events.specs.events.Legal.{HoldsObject, Legal}
use Rattle.far_events.specs.events.Soil.{after_soil}
use Rattle.far_events.specs.events.Step.{data_len, near_data, near_len}
use Rattle.far_events.specs.state.Law.{Law, is_dirty}
use Rattle.far_events.specs.state.State.{State, put}
use Rattle.far_events.proofs.Cells.{map_mark}
use Rattle.far_events.proofs.Put.{put_old, put_same}
use Rattle.far_core.proofs.events.Soil.{keeps_soil, reads}
use Rattle.far_alone.specs.Events.{soil_events}
use Rattle.far_alone.specs.Objects.{data_of}
use Rattle.far_alone.proofs.Leading.{Leads, leads_nowhere, leads_one}

-- ---- what DIRTY leaves as it is
near_data-dirty : (o : Option PtrWord) → near_data (map_mark Dirty o) ≡ near_data o
near_data-dirty (Some Free) = refl
near_data-dirty _ = refl

near_len-dirty : (o : Option PtrWord) → near_len (map_mark Dirty o) ≡ near_len o
near_len-dirty (Some Free) = refl
near_len-dirty _ = refl

-- ---- where a word has DIRTY, it is the same with DIRTY
marked_so : (m : Marks) → m.dirty ≡ true → marks_with Dirty m ≡ m
marked_so m h = λ i. record { hot = m.hot; evac = m.evac; moved = m.moved; dropped = m.dropped; dirty = sym h i }

dirty_word : (w : ℕ) (o : Option PtrWord) → w < 2 ^ 64 → read_of w ≡ o → is_dirty o ≡ true → bit_or w (2 ^ position Dirty) ≡ w
dirty_word w None fits e h = absurd cc
dirty_word w (Some Free) fits e h = absurd cc
dirty_word w (Some (Near len ds place m)) fits e h =
    let v : PtrWord = Near len ds place m in
    let says = read_says w v fits e in
    ap (λ x. bit_or x (2 ^ position Dirty)) (sym says.1) ∙ with_mark_word Dirty v says.0 refl ∙ ap (λ k. word_of (Near len ds place k)) (marked_so m h) ∙ says.1
dirty_word w (Some (Far len ds m)) fits e h = absurd cc

-- so soiling changes nothing where it was done before
pub soiled_before : (t : State) → Law t → (p : ℕ) → t.soiled p ≡ true → after_soil t p ≡ t
soiled_before t law p h =
    let same : bit_or (t.cell p) (2 ^ position Dirty) ≡ t.cell p = dirty_word (t.cell p) (read_of (t.cell p)) (law.cells.cell_read p).0 refl (law.soils.soiled_dirty p h) in
    ap (λ (f : ℕ → ℕ). record t { cell = f; soiled = put t.soiled p true }) (put_old t.cell p (bit_or (t.cell p) (2 ^ position Dirty)) (sym same))
    ∙ ap (λ (f : ℕ → Bool). record t { soiled = f }) (put_old t.soiled p true h)

-- ---- an object that is held
module _ (t : State) (law : Law t) (m p len : ℕ) (place : Place) (h : HoldsObject t m p len place) where
  pub soiled_reads : read_of ((after_soil t p).cell p) ≡ map_mark Dirty (read_of (t.cell p))
  soiled_reads = ap read_of (put_same t.cell p (bit_or (t.cell p) (2 ^ position Dirty)) p refl) ∙ (reads t law p (ap is_some h.rests)).0

  pub soil_holds : HoldsObject (after_soil t p) m p len place
  soil_holds = record { own = h.own; rests = h.rests; near = (h.near.0, marks_with Dirty h.near.1, soiled_reads ∙ ap (map_mark Dirty) h.near.2) }

  pub soil_data : near_data (read_of ((after_soil t p).cell p)) ≡ near_data (read_of (t.cell p))
  soil_data = ap near_data soiled_reads ∙ near_data-dirty (read_of (t.cell p))

  pub soil_len : data_len (after_soil t p) p ≡ data_len t p
  soil_len = ap near_len soiled_reads ∙ near_len-dirty (read_of (t.cell p))

  pub soil_bytes : data_of (after_soil t p) p ≡ data_of t p
  soil_bytes = λ i. bytes_of (λ k. t.word (soil_data i + k)) (soil_len i)

  pub soil_law : Law (after_soil t p)
  soil_law = keeps_soil t law p (ap is_some h.rests)

  pub soil_legal : Legal t (Soils m p)
  soil_legal = (h.own, ap is_some h.rests)

  pub soil_leads : Leads t (soil_events t m p) (after_soil t p)
  soil_leads = by (t.soiled p) refl where
    by : (b : Bool) → t.soiled p ≡ b → Leads t (if b then [] else Soils m p ∷ []) (after_soil t p)
    by true e = subst (Leads t []) (sym (soiled_before t law p e)) (leads_nowhere t)
    by false e = leads_one t (Soils m p) soil_legal tt
