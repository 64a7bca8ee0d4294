use Rattle.std.proofs.Common.{◌∙◌, ap}
use Rattle.far_hand.proofs.Closure.{came_only}
use Rattle.far_evac.specs.EvacOf.{EvacOf, moment}
use Rattle.far_evac.proofs.Listing.{lists_each}
use Rattle.far_evac.proofs.evac.Evac.audit.Goals as goal

pub returns : goal.returns
returns g c =
    let e = c.list_homes.ensures in
    let view = g.N.Near.view in
    record {
      came = came_only _ e.sees;
      sees = e.sees;
      copying = ap (λ (f : EvacOf g.row.N.Denot g.row.D.Denot). f.copying) e.rest;
      lists = record { leaves = record { core = e.known; rest = ap (λ (f : EvacOf g.row.N.Denot g.row.D.Denot). moment view f) e.rest }; lives = e.homes; has = c.list_logs.ensures };
      each = lists_each _ _ _ c.keeps_law.ensures.law e.homes c.list_logs.ensures;
      exact = λ still. ap (λ (f : EvacOf g.row.N.Denot g.row.D.Denot). moment view f) e.rest ∙ ap (λ core. record (moment view c.args.self.now) { core = core }) (e.exact still);
      device = ap (λ (f : EvacOf g.row.N.Denot g.row.D.Denot). f.book.device) e.rest;
      refused = tt;
      unchanged = tt;
    }
