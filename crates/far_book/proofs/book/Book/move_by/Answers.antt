use Rattle.far_book.proofs.book.Book.move_by.Given.{Over}
use Rattle.far_book.proofs.book.Book.move_by.Goals.{After-settle}
use Rattle.far_book.proofs.book.Book.move_by.Goals as goal
use Rattle.std.proofs.Common.{◌≡◌, ◌*◌, ◌<◌, ◌∙◌, true, false, ap, refl, subst, sym, Option, Some, None}
use Rattle.std.specs.Prelude.{Result, Ok, IfNone, IfSome, MatchOption}
use Rattle.std.proofs.lemmas.Bool.{false_from_ne_true}
use Rattle.far_device.specs.Following.{Follows, other_than}
use Rattle.far_device.proofs.Following.{follows_itself}
use Rattle.far_word.specs.declared.pointer.Place.{Place}
use Rattle.far_word.specs.declared.refused.Refused.{Refused}
use Rattle.far_word.specs.declared.sizes.TheConstants.{CELLS}
use Rattle.far_word.specs.Pointer.{read_of}
use Rattle.far_events.specs.events.Naming.{is_dropped}
use Rattle.far_events.specs.state.State.{State}
use Rattle.far_book.specs.book.Dealing as dealing
use Rattle.far_book.specs.book.Dealing.{FindsDrop, MovedBy, moved_now, order_moved}
use Rattle.far_book.specs.book.Effects.{retired}
use Rattle.far_book.proofs.region.Dropping.{gone}
use Rattle.far_hand.proofs.Closure.{then_came}

-- one answer isn't another
placed_isnt : (place : Place) (r : Result (Option Place) Refused) → r ≡ Ok (Some place) → r ≡ Ok None → ⊥
placed_isnt place r is e = cc

-- the device of the book that was settled is the one of the call
follows_same : (g : Over) (c : After-settle g) → Follows g.D.Device.contents g.D.Device.honest g.D.Device.faults g.D.Device.fails_at_most (other_than c.args.pointer) false c.args.self.now.device c.settle.new.self.device
follows_same g c =
    subst (Follows g.D.Device.contents g.D.Device.honest g.D.Device.faults g.D.Device.fails_at_most (other_than c.args.pointer) false c.args.self.now.device) (sym c.settle.ensures.device)
    (follows_itself g.D.Device.contents g.D.Device.honest g.D.Device.faults g.D.Device.fails_at_most (other_than c.args.pointer) c.args.self.now.device)

-- ---- what is asked of what is called
pub settle-requires-clause-pointer : goal.settle-requires-clause-pointer
settle-requires-clause-pointer g c = c.requires.pointer

pub settle-requires-clause-quiet : goal.settle-requires-clause-quiet
settle-requires-clause-quiet g c = c.requires.quiet

pub settle-requires-clause-known : goal.settle-requires-clause-known
settle-requires-clause-known g c = c.requires.known

pub retire-requires-clause-pointer : goal.retire-requires-clause-pointer
retire-requires-clause-pointer g c =
    let drop = subst (λ o. IfNone o (FindsDrop (g.N.Near.view c.args.self.now.near) (g.N.Near.view c.settle.new.self.near) c.args.pointer)) c.in-Ok-None.field-0-is c.in-Ok-None.ensures.found in
    subst (λ (x : State). c.args.pointer < CELLS * x.mutators) (sym drop.leaves.is) c.requires.pointer

pub retire-requires-clause-dropped : goal.retire-requires-clause-dropped
retire-requires-clause-dropped g c =
    let drop = subst (λ o. IfNone o (FindsDrop (g.N.Near.view c.args.self.now.near) (g.N.Near.view c.settle.new.self.near) c.args.pointer)) c.in-Ok-None.field-0-is c.in-Ok-None.ensures.found in
    drop.dropped

pub returns-in-Ok-Some : goal.returns-in-Ok-Some
returns-in-Ok-Some g c =
    let s = g.N.Near.view c.args.self.now.near in
    let t = g.N.Near.view c.settle.new.self.near in
    let p = c.args.pointer in
    let told = c.in-Ok-Some.ensures in
    let some = c.in-Ok-Some.field-0-is in
    let place = subst (λ o. IfSome o (λ place. dealing.goal s p ≡ Some place)) some told.place in
    let exact = λ (still : g.N.Near.still). subst (λ o. MatchOption o (t ≡ s) (λ place. t ≡ moved_now s p place)) some (told.exact still) in
    let asked : is_dropped (read_of (s.cell p)) ≡ true → Ok (Some c.in-Ok-Some.place) ≡ Ok None = λ e. ap (λ o. Ok o) (sym some) ∙ told.asked e in
    record {
      came = c.settle.ensures.came;
      place = place;
      moved = subst (λ o. IfSome o (λ place. MovedBy s t p place)) some told.moved;
      exact = exact;
      order = subst (λ o. MatchOption o (c.settle.new.self.order ≡ c.args.self.now.order) (λ place. c.settle.new.self.order ≡ order_moved s p c.args.self.now.order place)) some told.order;
      device = c.settle.ensures.device;
      asked = asked;
      gone = tt;
      called = tt;
      forgotten = tt;
      follows = follows_same g (goal.at.returns-in-Ok-Some g c).After-settle;
      refused = tt;
      none = tt;
      seen = tt;
      words = tt;
      kept = tt;
      unchanged = λ _. tt;
      ran = λ still. record {
        quiet = c.requires.quiet;
        alive = false_from_ne_true (is_dropped (read_of (s.cell p))) (λ e. placed_isnt c.in-Ok-Some.place (Ok (Some c.in-Ok-Some.place)) refl (asked e));
        found = place;
        after = exact still;
      };
    }

pub returns-in-Ok-None : goal.returns-in-Ok-None
returns-in-Ok-None g c = record {
  came = then_came c.settle.ensures.came c.retire.ensures.came;
  place = tt;
  moved = tt;
  exact = λ _. tt;
  order = c.retire.ensures.order
      ∙ subst (λ o. MatchOption o (c.settle.new.self.order ≡ c.args.self.now.order) (λ place. c.settle.new.self.order ≡ order_moved (g.N.Near.view c.args.self.now.near) c.args.pointer c.args.self.now.order place))
      c.in-Ok-None.field-0-is c.in-Ok-None.ensures.order;
  device = tt;
  asked = λ _. refl;
  gone = let s = g.N.Near.view c.args.self.now.near in
      let t = g.N.Near.view c.settle.new.self.near in
      let none = c.in-Ok-None.field-0-is in
      gone g.N.Near.still s t (g.N.Near.view c.retire.new.self.near) c.args.pointer (subst (λ o. IfNone o (FindsDrop s t c.args.pointer)) none c.in-Ok-None.ensures.found) c.retire.ensures.kept c.retire.ensures.forgot
      (λ still. subst (λ o. IfNone o (is_dropped (read_of (s.cell c.args.pointer)) ≡ true)) none (c.in-Ok-None.ensures.dropped still))
      (λ still. c.retire.ensures.exact still ∙ ap (λ (x : State). retired x c.args.pointer) (subst (λ o. MatchOption o (t ≡ s) (λ place. t ≡ moved_now s c.args.pointer place)) none (c.in-Ok-None.ensures.exact still)));
  called = subst (λ (d : g.row.D.Denot). g.D.Device.lets_go d c.args.pointer c.retire.new.self.device) c.settle.ensures.device c.retire.ensures.called;
  forgotten = c.retire.ensures.gone;
  follows = subst (λ (d : g.row.D.Denot). Follows g.D.Device.contents g.D.Device.honest g.D.Device.faults g.D.Device.fails_at_most (other_than c.args.pointer) false d c.retire.new.self.device) c.settle.ensures.device c.retire.ensures.follows;
  refused = tt;
  none = tt;
  seen = tt;
  words = tt;
  kept = tt;
  unchanged = λ _. tt;
  ran = λ still. let s = g.N.Near.view c.args.self.now.near in
      let t = g.N.Near.view c.settle.new.self.near in
      let none = c.in-Ok-None.field-0-is in
      record {
        pointer = c.requires.pointer;
        dropped = subst (λ o. IfNone o (is_dropped (read_of (s.cell c.args.pointer)) ≡ true)) none (c.in-Ok-None.ensures.dropped still);
        after = c.retire.ensures.exact still ∙ ap (λ (x : State). retired x c.args.pointer) (subst (λ o. MatchOption o (t ≡ s) (λ place. t ≡ moved_now s c.args.pointer place)) none (c.in-Ok-None.ensures.exact still));
      };
}

pub returns-in-Err : goal.returns-in-Err
returns-in-Err g c =
    let told = c.in-Err.ensures in
    record {
      came = c.settle.ensures.came;
      place = tt;
      moved = tt;
      exact = λ _. tt;
      order = tt;
      device = tt;
      asked = told.asked;
      gone = tt;
      called = tt;
      forgotten = tt;
      follows = follows_same g (goal.at.returns-in-Err g c).After-settle;
      refused = told.refused;
      none = told.none;
      seen = told.seen;
      words = told.words;
      kept = λ i. record c.args.self.now { near = c.settle.new.self.near; device = c.settle.ensures.device i; order = told.kept i };
      unchanged = told.unchanged;
      ran = told.unchanged;
    }
