use Rattle.std.proofs.Common.{◌∙◌, ap, arith, filter, length}
use Rattle.far_table.specs.BookSeats.{seat_view}
use Rattle.far_evac.specs.declared.census.Housed.{Housed}
use Rattle.far_evac.specs.EvacOf.{moment}
use Rattle.far_split.specs.BookTold.{lies_far, lies_near, live_in}
use Rattle.far_split.proofs.Telling.{homes_few, logs_few}
use Rattle.far_split.proofs.inquiries.audit_told.Goals as goal

pub count_homes-near-requires : goal.count_homes-near-requires
count_homes-near-requires g c = record {
  few = omega (arith, ap length c.deref.ensures.value, homes_few (seat_view c.audit.new.self.book.near) c.keeps_law.ensures.law c.in-Ok.census.homes.items c.in-Ok.ensures.lists.lives);
}

pub count_bytes-live-requires : goal.count_bytes-live-requires
count_bytes-live-requires g c = record {
  few = omega (arith, ap length c.deref-in-Ok.ensures.value, logs_few (moment seat_view c.audit.new.self) c.keeps_law.ensures.law c.in-Ok.census.logs.items c.in-Ok.ensures.lists.has);
}

pub returns-in-Ok-clause-told : goal.returns-in-Ok-clause-told
returns-in-Ok-clause-told g c = record {
  book = c.audit.new.self;
  named = c.keeps_law.ensures.named;
  lawful = (c.keeps_law.ensures.law, c.keeps_law.ensures.moment);
  is = (
    c.in-Ok.census.homes.items,
    c.in-Ok.census.logs.items,
    c.in-Ok.ensures.each,
    (λ i. record {
      near = (c.count_homes-near.ensures.near ∙ ap (λ xs. length (filter (λ (housed : Housed). lies_near housed.home) xs)) c.deref.ensures.value) i;
      far = (c.count_homes-near.ensures.far ∙ ap (λ xs. length (filter (λ (housed : Housed). lies_far housed.home) xs)) c.deref.ensures.value) i;
      live = (c.count_bytes-live.ensures ∙ ap live_in c.deref-in-Ok.ensures.value) i;
    }),
  );
}
