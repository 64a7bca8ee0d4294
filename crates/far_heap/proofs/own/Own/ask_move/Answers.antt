use Rattle.std.proofs.Common.{◌≡◌, ℕ, true, false, cond, ap, subst, sym, ◌∙◌}
use Rattle.far_word.specs.Pointer.{read_of}
use Rattle.far_events.specs.events.Quiet.{has_move}
use Rattle.far_table.specs.Views.{held_at}
use Rattle.far_heap.specs.Mine.{Mine, asking, mine_of, uses, views}
use Rattle.far_heap.proofs.Mines.{asked_mine, none_there, uses_so, views_own}
use Rattle.far_heap.proofs.OwnSteps.{seated_is}
use Rattle.far_heap.proofs.own.Own.ask_move.Goals as goal

pub ask-requires-clause-used : goal.ask-requires-clause-used
ask-requires-clause-used g c = (uses_so c.self.inside.seat c.args.p (subst (λ (m : Mine). uses m c.args.p ≡ true) (sym c.self.view_is) c.requires.used)).1

pub ask-requires-clause-free : goal.ask-requires-clause-free
ask-requires-clause-free g c =
    let s = c.self.inside.seat in
    let p : ℕ = c.args.p in
    let own = (uses_so s p (subst (λ (m : Mine). uses m p ≡ true) (sym c.self.view_is) c.requires.used)).0 in
    none_there (held_at s.view p) (sym (views_own s p own) ∙ subst (λ (m : Mine). views m p ≡ false) (sym c.self.view_is) c.requires.free)

pub returns-clause-asked : goal.returns-clause-asked
returns-clause-asked g c =
    let s = c.self.inside in
    let p : ℕ = c.args.p in
    let own = (uses_so s.seat p (subst (λ (m : Mine). uses m p ≡ true) (sym c.self.view_is) c.requires.used)).0 in
    let n : ℕ = cond (has_move (read_of c.ask.result)) 0 1 in
    ap mine_of (seated_is c.ask.new.self s.seat.table _ c.ask.ensures.table c.ask.ensures.view) ∙ asked_mine s.seat p own n ∙ ap (asking p n) c.self.view_is
