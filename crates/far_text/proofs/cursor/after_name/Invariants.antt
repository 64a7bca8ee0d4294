use Rattle.std.proofs.Common.{◌≡◌, ℕ, ◌<◌, ◌≤◌, ◌-◌, get_or, length}
use Rattle.far_text.proofs.cursor.after_name.Given as goal

-- so many bytes are those of the name
abbrev pub invariant-loop-at : goal.invariant-loop-at
invariant-loop-at l = record {
  inside : l.at ≤ length l.name;
  same : (k : ℕ) → k < l.at → get_or l.text k 0 ≡ get_or l.name k 0;
}

abbrev pub decreases-loop-at : goal.decreases-loop-at
decreases-loop-at l = length l.name - l.at
