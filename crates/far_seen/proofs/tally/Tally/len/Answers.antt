use Rattle.std.proofs.Common.{sym, ◌∙◌, ap, length, arith}
use Rattle.far_seen.specs.Listed.{all_of, stamp_for}
use Rattle.far_seen.specs.Tallied.{Tallied, times}
use Rattle.far_seen.proofs.Counting.{counts_long, times_are}
use Rattle.far_seen.proofs.tally.Tally.len.Goals as goal

pub returns : goal.returns
returns g c =
    let r = c.self.inside.roll in
    let f = all_of (g.O.Objects.far r.store.worker) r.store.longs.items r.numbers.items in
    record {
      lines = omega (arith, c.len.ensures, r.counts.ok.0, counts_long f.bytes 0 r.counts.items, ap (λ (t : Tallied). length t.lines) c.self.view_is);
      even = ap (λ (t : Tallied). times t.stamps) (sym c.self.view_is) ∙ times_are (stamp_for f.sizes r.near.slots) 0 r.counts.items ∙ sym (times_are f.bytes 0 r.counts.items) ∙ ap (λ (t : Tallied). times t.lines) c.self.view_is;
    }
