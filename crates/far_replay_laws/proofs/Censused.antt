-- What an audit counts is what the evacuator's census lists.
use Rattle.std.proofs.Common.{◌≡◌, ℕ, ◌+◌, ◌*◌, Bool, true, false, cond, not, filter, Option, Some, List, [], ◌∷◌, length, map, refl, ap, sym, ◌∙◌}
use Rattle.std.specs.Prelude.{sum}
use Rattle.std.specs.List.{flat_map, range_with_len}
use Rattle.std.proofs.lemmas.List.{length-append}
use Rattle.std.proofs.lemmas.List.Concat.{flat_map-cons}
use Rattle.std.proofs.lemmas.List.Elements.{filter-append}
use Rattle.far_word.specs.declared.pointer.PtrWord.{PtrWord}
use Rattle.far_word.specs.declared.pointer.PtrWord.TheVariants.{Near, Far}
use Rattle.far_word.specs.declared.sizes.TheConstants.{CELLS}
use Rattle.far_word.specs.Pointer.{read_of}
use Rattle.far_book.specs.declared.home.Home.TheVariants as homes
use Rattle.far_book.specs.book.Rows.{row_of}
use Rattle.far_core.specs.laws.Observed.{live_bytes}
use Rattle.far_events.specs.state.State.{State}
use Rattle.far_evac.specs.declared.census.Housed.{Housed}
use Rattle.far_evac.specs.declared.census.LogState.{LogState}
use Rattle.far_evac.specs.Census.{homes_of, housed_in, kind_in, logs_of}
use Rattle.far_replay.proofs.Outcomes.{is_served}
use Rattle.far_text.specs.Command.{Audit, Book}
use Rattle.far_replay.specs.Audit.{counts_of, lies_far, lies_near}
use Rattle.far_replay_laws.specs.Census.{AuditsByCensus, counted_in, is_near}
use Rattle.far_replay.specs.Moment.{Moment}
use Rattle.far_reply.specs.Reply.{Audited}

abbrev near_listed : Housed → Bool
near_listed housed = is_near housed.home

abbrev far_listed : Housed → Bool
far_listed housed = not (is_near housed.home)

abbrev state_of_log : Moment → ℕ → LogState
state_of_log now l = record { kind = kind_in now l; row = row_of now.core l }

-- ---- one pointer
kept : (lists : Housed → Bool) (housed : Housed) (p : ℕ) (dropped : Bool) → lists housed ≡ true → length (filter lists (cond dropped [] (housed ∷ []))) ≡ length (cond (not dropped) (p ∷ []) [])
kept lists housed p true e = refl
kept lists housed p false e = ap (λ b. length (cond b (housed ∷ []) [])) e

left_out : (lists : Housed → Bool) (housed : Housed) (dropped : Bool) → lists housed ≡ false → length (filter lists (cond dropped [] (housed ∷ []))) ≡ 0
left_out lists housed true e = refl
left_out lists housed false e = ap (λ b. length (cond b (housed ∷ []) [])) e

one_near : (p : ℕ) (cell : Option PtrWord) → length (filter near_listed (housed_in p cell)) ≡ length (cond (lies_near cell) (p ∷ []) [])
one_near p (Some (Near len ds place marks)) = kept near_listed (record { pointer = p; home = homes.Near place marks }) p marks.dropped refl
one_near p (Some (Far len ds marks)) = left_out near_listed (record { pointer = p; home = homes.Far marks }) marks.dropped refl
one_near p _ = refl

one_far : (p : ℕ) (cell : Option PtrWord) → length (filter far_listed (housed_in p cell)) ≡ length (cond (lies_far cell) (p ∷ []) [])
one_far p (Some (Near len ds place marks)) = left_out far_listed (record { pointer = p; home = homes.Near place marks }) marks.dropped refl
one_far p (Some (Far len ds marks)) = kept far_listed (record { pointer = p; home = homes.Far marks }) p marks.dropped refl
one_far p _ = refl

-- ---- all pointers
module _ (says : Option PtrWord → Bool) (lists : Housed → Bool) (one : (p : ℕ) (cell : Option PtrWord) → length (filter lists (housed_in p cell)) ≡ length (cond (says cell) (p ∷ []) [])) (s : State) where
  abbrev passes : ℕ → Bool
  passes p = says (read_of (s.cell p))

  abbrev housed : ℕ → List Housed
  housed p = housed_in p (read_of (s.cell p))

  many_listed : (ps : List ℕ) → length (filter passes ps) ≡ length (filter lists (flat_map housed ps))
  many_listed [] = refl
  many_listed (p ∷ ps) =
      ap length (filter-append passes (p ∷ []) ps) ∙ length-append (filter passes (p ∷ [])) (filter passes ps)
      ∙ ap (λ n. n + length (filter passes ps)) (sym (one p (read_of (s.cell p)))) ∙ ap (λ n. length (filter lists (housed p)) + n) (many_listed ps)
      ∙ sym (ap (λ xs. length (filter lists xs)) (flat_map-cons housed p ps) ∙ ap length (filter-append lists (housed p) (flat_map housed ps)) ∙ length-append (filter lists (housed p)) (filter lists (flat_map housed ps)))

-- ---- the live bytes of all logs
same_bytes : (now : Moment) (ls : List ℕ) → map (live_bytes now.core) ls ≡ map (λ (log : LogState). log.row.live) (map (λ l. state_of_log now l) ls)
same_bytes now [] = refl
same_bytes now (l ∷ ls) = ap (λ xs. live_bytes now.core l ∷ xs) (same_bytes now ls)

counts_listed : (now : Moment) → counts_of now.core ≡ counted_in (homes_of now.core) (logs_of now)
unfolding counts_of
counts_listed now = λ i. record {
  near = many_listed lies_near near_listed one_near now.core (range_with_len 0 (CELLS * now.core.mutators)) i;
  far = many_listed lies_far far_listed one_far now.core (range_with_len 0 (CELLS * now.core.mutators)) i;
  live = ap sum (same_bytes now (range_with_len 0 now.core.logs)) i;
}

pub audits_by_census : AuditsByCensus
audits_by_census now r after h = (is_served now (Book Audit) r after tt h).reply ∙ ap Audited (counts_listed now)
