use Rattle.std.proofs.Common.{◌≡◌, length, take}
use Rattle.far_array.specs.Places.{Kept}
use Rattle.far_array.proofs.blocks.shrink.Given as goal

abbrev pub invariant-loop-parts : goal.invariant-loop-parts
invariant-loop-parts g l = record {
  per : l.parts.per ≡ l.fn.parts.per;
  size : l.parts.size ≡ l.fn.parts.size;
  len : l.parts.len ≡ l.fn.parts.len;
  front : take l.n l.parts.blocks.items ≡ take l.n l.fn.parts.blocks.items;
  kept : Kept (g.O.Objects.far l.fn.parts.worker) (g.O.Objects.far l.parts.worker) l.fn.parts.blocks.items l.parts.blocks.items l.fn.parts.per l.fn.parts.size;
}

abbrev pub decreases-loop-parts : goal.decreases-loop-parts
decreases-loop-parts g l = length l.parts.blocks.items
