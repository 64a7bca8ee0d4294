use Rattle.std.proofs.Common.{refl}
use Rattle.far_private.proofs.Rounds.{refused_turn, turns}
use Rattle.far_private.proofs.rooms.turn.Goals as goal

pub returns-in-Ok : goal.returns-in-Ok
returns-in-Ok g c = turns c.args.evac.now c.turn.new.self c.args.evac.now.book.near.core.law c.keeps_law.ensures.moment (c.keeps_law.ensures.exact tt) _ (c.in-Ok.ensures.exact tt) refl

pub returns-in-Err : goal.returns-in-Err
returns-in-Err g c = refused_turn c.args.evac.now c.turn.new.self c.args.evac.now.book.near.core.law c.keeps_law.ensures.moment (c.keeps_law.ensures.exact tt)
    (λ e. (c.in-Err.ensures.barred e).2) (λ ne. (c.in-Err.ensures.stops ne).0) (λ ne. let x = c.in-Err.ensures.halts tt ne in (x.0, x.1))
