use Rattle.std.proofs.Common.{◌≡◌, ◌+◌, filter, length, take}
use Rattle.far_evac.specs.declared.census.Housed.{Housed}
use Rattle.far_split.specs.BookTold.{lies_far, lies_near}
use Rattle.far_split.proofs.inquiries.count_homes.Given as goal

abbrev pub invariant-loop-housed : goal.invariant-loop-housed
invariant-loop-housed l = record {
  near : l.near ≡ length (filter (λ (housed : Housed). lies_near housed.home) (take l.housed-index l.homes));
  far : l.far ≡ length (filter (λ (housed : Housed). lies_far housed.home) (take l.housed-index l.homes));
  most : l.near + l.far ≡ l.housed-index;
}
