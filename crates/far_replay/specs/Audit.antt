-- What an audit counts.
use Rattle.std.specs.Prelude.{ℕ, ◌*◌, Bool, false, not, Option, Some, None, List, length, map, filter, sum}
use Rattle.std.specs.List.{range_with_len}
use Rattle.far_word.specs.declared.pointer.PtrWord.{PtrWord}
use Rattle.far_word.specs.declared.pointer.PtrWord.TheVariants.{Free, Near, Far}
use Rattle.far_word.specs.declared.sizes.TheConstants.{CELLS}
use Rattle.far_word.specs.Pointer.{read_of}
use Rattle.far_core.specs.laws.Observed.{live_bytes}
use Rattle.far_events.specs.state.State.{State}
use Rattle.far_reply.specs.declared.reply.Counts.{Counts}

-- a cell says near, and its object isn't dropped
abbrev pub lies_near : Option PtrWord → Bool
lies_near None = false
lies_near (Some Free) = false
lies_near (Some (Near len ds place m)) = not m.dropped
lies_near (Some (Far len ds m)) = false

-- a cell says far, and its object isn't dropped
abbrev pub lies_far : Option PtrWord → Bool
lies_far None = false
lies_far (Some Free) = false
lies_far (Some (Near len ds place m)) = false
lies_far (Some (Far len ds m)) = not m.dropped

-- all pointers of a heap whose cell says so
abbrev pub pointers_by : (Option PtrWord → Bool) → State → List ℕ
pointers_by says s = filter (λ p. says (read_of (s.cell p))) (range_with_len 0 (CELLS * s.mutators))

-- the live bytes of each log, by number
abbrev pub bytes_by_log : State → List ℕ
bytes_by_log s = map (live_bytes s) (range_with_len 0 s.logs)

-- how many objects are near, how many far, and the live bytes of all logs
unfoldable pub counts_of : State → Counts
counts_of s = record { near = length (pointers_by lies_near s); far = length (pointers_by lies_far s); live = sum (bytes_by_log s) }
