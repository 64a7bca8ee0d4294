use Rattle.std.proofs.Common.{◌≡◌, ◌++◌, length, drop, map}
use Rattle.far_text.specs.Places.{line_at, AllBelow}
use Rattle.far_text.specs.Threads.{as_thread, lines_in}
use Rattle.far_text.proofs.split_text.SplitText.lines_of.Given as goal

-- the places so far are those of the thread's lines, in front of those to come
abbrev pub invariant-loop-place : goal.invariant-loop-place
invariant-loop-place l = record {
  found : map (line_at l.self) l.places.items ++ lines_in (as_thread l.thread) (drop l.place l.self) ≡ lines_in (as_thread l.thread) l.self;
  inside : AllBelow (length l.self) l.places.items;
}
