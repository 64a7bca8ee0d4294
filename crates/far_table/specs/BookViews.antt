-- How the steps of the book's seat change its view.
use Rattle.std.specs.Prelude.{ℕ, zero, suc, ◌+◌, ◌*◌, ◌/◌, ◌^◌, ◌==◌, ◌||◌, Bool, true, false, cond, bit_or, Option, Some, None, List, [], ◌∷◌}
use Rattle.far_word.specs.declared.mark.Mark.TheVariants.{Evac}
use Rattle.far_word.specs.declared.pointer.PtrWord.{PtrWord}
use Rattle.far_word.specs.declared.pointer.PtrWord.TheVariants.{Free, Near, Far}
use Rattle.far_word.specs.declared.sizes.TheConstants.{CELLS, LOG_WORDS}
use Rattle.far_word.specs.Mark.{position}
use Rattle.far_word.specs.Pointer.{read_of}
use Rattle.far_word.specs.Scope.{scope_of}
use Rattle.far_events.specs.declared.event.Kind.TheVariants as kinds
use Rattle.far_events.specs.events.Advance.{is_among}
use Rattle.far_events.specs.events.Clear.{evac_cleared}
use Rattle.far_events.specs.events.Look.{shows_clear}
use Rattle.far_hand.specs.Quiet.{is_quiet_word}
use Rattle.far_table.specs.View.{BookView}
use Rattle.far_table.specs.Rows.{over}

-- the word was found in a pointer's cell, or left there
abbrev pub saw_view : ℕ → ℕ → BookView → BookView
saw_view p found b = record b { cells = (p, found) ∷ b.cells }

abbrev pub marked_view : ℕ → ℕ → BookView → BookView
marked_view p found b = saw_view p (bit_or found (2 ^ position Evac)) b

-- the rows of a round that the log of a cell's object leaves
abbrev pub rows_left : List (ℕ × Bool) → Option PtrWord → List (ℕ × Bool)
rows_left rows None = rows
rows_left rows (Some Free) = rows
rows_left rows (Some (Near len ds place m)) = (place.log, false) ∷ rows
rows_left rows (Some (Far len ds m)) = rows

abbrev pub cleared_view : ℕ → ℕ → BookView → BookView
cleared_view p found b = record b { cells = (p, evac_cleared found) ∷ b.cells; round = rows_left b.round (read_of found); known = [] }

-- a word of a log is a data word of an object that the view shows quiet, of one of the first n pointers
abbrev pub is_quiet_below : BookView → ℕ → ℕ → ℕ → Bool
is_quiet_below b l at zero = false
is_quiet_below b l at (suc p) = is_quiet_word (over b.round (is_among b.chosen)) (over b.clear (λ _. false)) p (read_of (over b.cells (λ _. 0) p)) l at || is_quiet_below b l at p

-- of any
abbrev pub is_quiet_at : BookView → ℕ → ℕ → Bool
is_quiet_at b l at = is_quiet_below b l at (CELLS * b.mutators)

-- a word is known, where it is to be
abbrev pub got_view : Bool → ℕ → ℕ → BookView → BookView
got_view true a found b = record b { known = (a, found) ∷ b.known }
got_view false a found b = b

-- rows but for those of a log's words
abbrev pub rows_elsewhere : {X : Type 0} → ℕ → List (ℕ × X) → List (ℕ × X)
rows_elsewhere l [] = []
rows_elsewhere l (row ∷ rows) = cond (row.0 / LOG_WORDS == l) (rows_elsewhere l rows) (row ∷ rows_elsewhere l rows)

-- a log is given back
abbrev pub freed_view : ℕ → BookView → BookView
freed_view l b = record b {
  kinds = (l, kinds.Free) ∷ b.kinds;
  tails = (l, 0) ∷ b.tails;
  heads = rows_elsewhere l b.heads;
  round = (l, false) ∷ b.round;
  known = [];
}

abbrev pub put_view : ℕ → ℕ → BookView → BookView
put_view a word b = record b { known = (a, word) ∷ b.known }

-- a round of these logs begins
abbrev pub raised_view : ℕ → BookView → BookView
raised_view logs b = record b { epoch = b.epoch + 1; chosen = logs; round = []; clear = []; known = [] }

abbrev pub looked_view : ℕ → ℕ → BookView → BookView
looked_view m found b = record b { clear = (m, over b.clear (λ _. false) m || shows_clear b.epoch (scope_of found)) ∷ b.clear }

-- the word was found in a job, or left there
abbrev pub saw_job_view : ℕ → ℕ → BookView → BookView
saw_job_view j found b = record b { jobs = (j, found) ∷ b.jobs }

-- the view after an exchange of a job's word by 0, by the word found: it won, or that word is what is seen now
abbrev pub collected_view : ℕ → ℕ → ℕ → BookView → BookView
collected_view j old found b = saw_job_view j (cond (found == old) 0 found) b
