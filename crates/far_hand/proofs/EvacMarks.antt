-- EVAC, set by the book in a cell beside owners.
use Rattle.std.proofs.Common.{◌≡◌, ℕ, ◌/◌, ◌^◌, Bool, true, false, Some, refl, sym, ap, ◌∙◌, bit_or}
use Rattle.std.specs.Prelude.{◌||◌, ◌&&◌}
use Rattle.std.proofs.lemmas.Bool.{false≢true, true≢false, true_from_ne_false}
use Rattle.far_word.specs.declared.mark.Mark.TheVariants.{Evac}
use Rattle.far_word.specs.declared.mark.Marks.{Marks}
use Rattle.far_word.specs.declared.pointer.PtrWord.TheVariants.{Near}
use Rattle.far_word.specs.declared.sizes.TheConstants.{CELLS}
use Rattle.far_word.specs.Mark.{position, marks_with}
use Rattle.far_word.specs.Pointer.{read_of}
use Rattle.far_word.proofs.PointerLaws.{with_mark_read}
use Rattle.far_events.specs.declared.event.Event.TheVariants.{Mark}
use Rattle.far_events.specs.events.Legal.{Legal}
use Rattle.far_events.specs.state.Law.{Law}
use Rattle.far_events.specs.state.State.{State, put}
use Rattle.far_events.proofs.Put.{put_both}
use Rattle.far_hand.specs.Masked.{AllFind, CountsOnRest}
use Rattle.far_hand.specs.Quiet.{IsQuietBy, is_quiet}
use Rattle.far_hand.proofs.Counting.{rests_more}
use Rattle.far_hand.proofs.Finding.{near_found}
use Rattle.far_hand.proofs.Masking.{moved_known}

abbrev pub with_evac : ℕ → ℕ
with_evac w = bit_or w (2 ^ position Evac)

-- what isn't quiet with EVAC wasn't quiet where MOVE was known at most
loud_before : (known evac moved in_round is_clear : Bool) → (known ≡ true → moved ≡ true) → (moved || (true && in_round && is_clear)) ≡ false →
    (known || (evac && in_round && is_clear)) ≡ false
loud_before true evac true r c h e = absurd (true≢false e)
loud_before true evac false r c h e = absurd (false≢true (h refl))
loud_before false false moved r c h e = refl
loud_before false true true r c h e = absurd (true≢false e)
loud_before false true false r c h e = e

module _ (s : State) (law : Law s) (found : ℕ → ℕ) (counted : ℕ → Bool) (finds : AllFind found s.cell) (p : ℕ) (legal : Legal (record s { cell = found }) (Mark p)) where
  -- what may be marked as it is known may be marked as it is
  pub legal_mark : Legal s (Mark p)
  legal_mark =
      let near = legal.1 in
      let x = near_found (found p) (s.cell p) (finds p) near.0 near.1 near.2 near.3 near.4 in
      (legal.0, (near.0, near.1, near.2, x.marks, x.near, near.5, near.6))

  -- what is known quiet stays so
  quiet_marked : (a : ℕ) → IsQuietBy s.mutators s.round s.clear found a → IsQuietBy s.mutators s.round s.clear (put found p (with_evac (s.cell p))) a
  quiet_marked a x =
      let now = put_both (λ v. (k : Marks) × (read_of v ≡ Some (Near x.len x.ds x.place k)) × (is_quiet s.round s.clear x.p x.place k ≡ true)) found p (with_evac (s.cell p)) x.p
      (λ e. let here : read_of (found p) ≡ Some (Near x.len x.ds x.place x.marks) = ap (λ q. read_of (found q)) (sym e) ∙ x.near in
      let y = near_found (found p) (s.cell p) (finds p) x.len x.ds x.place x.marks here in (
        marks_with Evac y.marks,
        with_mark_read Evac (s.cell p) (Near x.len x.ds x.place y.marks) (law.cells.cell_read p).0 y.near refl,
        true_from_ne_false _ (λ loud. true≢false (sym x.quiet ∙ loud_before x.marks.moved x.marks.evac y.marks.moved (s.round x.place.log) (s.clear (x.p / CELLS))
            (moved_known (found p) (s.cell p) x.len x.ds x.place x.marks y.marks (finds p) here y.near) loud)),
      ))
      (λ _. (x.marks, x.near, x.quiet)) in record {
        p = x.p;
        len = x.len;
        ds = x.ds;
        place = x.place;
        marks = now.0;
        index = x.index;
        pointer = x.pointer;
        near = now.1;
        quiet = now.2;
        inside = x.inside;
        here = x.here;
      }

  pub counts_marked : CountsOnRest s found counted → CountsOnRest s (put found p (with_evac (s.cell p))) counted
  counts_marked counts a known plain = rests_more (quiet_marked a) (counts a known plain)
