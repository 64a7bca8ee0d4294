use Rattle.std.proofs.Common.{◌≡◌, ℕ, map, vec_len, vec_capacity}
use Rattle.std.specs.List.{range_with_len}
use Rattle.far_book.specs.book.Rows.{row_of}
use Rattle.far_evac.specs.Census.{kind_in}
use Rattle.far_evac.specs.EvacOf.{moment}
use Rattle.far_evac.proofs.evac.Evac.list_logs.Given as goal

abbrev pub invariant-loop-log : goal.invariant-loop-log
invariant-loop-log g l = record {
  logs : l.logs.items ≡ map (λ (k : ℕ). record { kind = kind_in (moment g.N.Near.view l.fn.self) k; row = row_of (g.N.Near.view l.fn.self.book.near) k }) (range_with_len 0 l.log);
  count : vec_len l.logs ≡ l.log;
  room : vec_capacity l.logs ≡ vec_capacity l.fn.logs;
}
