use Rattle.std.proofs.Common.{◌≡◌, ◌*◌, ◌≤◌, vec_len, vec_capacity}
use Rattle.far_word.specs.declared.sizes.TheConstants.{CELLS}
use Rattle.far_hand.specs.Came.{Came, only}
use Rattle.far_evac.specs.AnyHand.{Knows}
use Rattle.far_evac.specs.Census.{Sees}
use Rattle.far_evac.proofs.Auditing.{listed}
use Rattle.far_evac.proofs.evac.Evac.list_homes.Given as goal

abbrev pub invariant-loop-pointer : goal.invariant-loop-pointer
invariant-loop-pointer g l = record {
  homes : l.homes.items ≡ listed (g.N.Near.view l.self.book.near).cell l.pointer;
  count : vec_len l.homes ≤ l.pointer;
  room : vec_capacity l.homes ≡ vec_capacity l.fn.homes;
  end : l.cells ≡ CELLS * (g.N.Near.view l.fn.self.book.near).mutators;
  known : Knows (g.N.Near.view l.fn.self.book.near) (g.N.Near.view l.self.book.near);
  rest : l.self ≡ record l.fn.self { book = record l.fn.self.book { near = l.self.book.near } };
  exact : g.N.Near.still → g.N.Near.view l.self.book.near ≡ g.N.Near.view l.fn.self.book.near;
  sees : Came (only Sees g.N.Near.makes) l.fn.self.book.near l.self.book.near;
}
