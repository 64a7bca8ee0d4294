use Rattle.far_book.proofs.book.Book.name_far.Given.{Over}
use Rattle.far_book.proofs.book.Book.name_far.Goals.{After-rename, After-self, In_default}
use Rattle.far_book.proofs.book.Book.name_far.Goals as goal
use Rattle.std.proofs.Common.{◌≡◌, ◌∙◌, ◌<◌, ◌≤◌, ◌*◌, ap, sym, subst, Some, true}
use Rattle.std.specs.Prelude.{is_some}
use Rattle.far_word.specs.declared.sizes.TheConstants.{CELLS, LOG_WORDS}
use Rattle.far_word.specs.Bytes.{bytes_of}
use Rattle.far_events.specs.events.Copies.{data_at}
use Rattle.far_word.specs.Pointer.{read_of}
use Rattle.far_events.specs.declared.event.Event.TheVariants.{Name}
use Rattle.far_events.specs.events.Step.{after}
use Rattle.far_events.specs.state.Law.{IsStored, is_dirty}
use Rattle.far_events.specs.state.State.{State}
use Rattle.far_hand.specs.Came.{Came, only}
use Rattle.far_hand.specs.Finds.{Finds}
use Rattle.far_hand.specs.Known.{Forgets}
use Rattle.far_book.specs.declared.ledger.Ledger.{Ledger}
use Rattle.far_book.specs.book.BookOf.{BookOf}
use Rattle.far_book.specs.book.Effects.{evicted, evicted_of, far_word}
use Rattle.far_book.specs.book.FarSide.{InOrder}
use Rattle.far_book.specs.book.Evicting.{IsQuietIn}
use Rattle.far_book.specs.book.Ledger.{Loses, filled_of}
use Rattle.far_book.specs.book.Only.{Names}
use Rattle.far_book.specs.book.Renaming.{IsWonBy, MayRename, Renamed, seen}
use Rattle.far_book.proofs.region.Handed.{since_book}
use Rattle.far_book.proofs.region.Evictions.{MayLeave, alive_here, evac_here, evicted_by, far_layout, far_order, loses_live, loses_log, loses_size, may_go_far}
use Rattle.far_book.proofs.region.InOrders.{found_keeps}

-- ---- once the book was opened
module _ (g : Over) (c : After-self g) where
  same : g.N.Near.view c.self.inside.near ≡ g.N.Near.view c.args.self.now.near
  same = ap (λ (b : BookOf g.row.N.Denot g.row.D.Denot). g.N.Near.view b.near) c.self.view_is

  found : c.args.found ≡ (g.N.Near.view c.self.inside.near).cell c.args.pointer
  found = c.requires.found ∙ sym (ap (λ (t : State). t.cell c.args.pointer) same)

  dirty_here : (near : IsQuietIn (g.N.Near.view c.self.inside.near) c.args.pointer c.args.len c.args.ds c.args.place) → near.marks.dirty ≡ true → is_dirty (read_of c.args.found) ≡ true
  dirty_here near dirty = ap (λ w. is_dirty (read_of w)) found ∙ ap is_dirty near.near ∙ dirty

  leaves : MayLeave (g.N.Near.view c.self.inside.near) c.args.pointer c.args.len c.args.ds c.args.place
  leaves =
      let near = subst (λ (t : State). IsQuietIn t c.args.pointer c.args.len c.args.ds c.args.place) (sym same) c.requires.near in
      record {
        law = c.self.invariant.0.notes.law;
        quiet = near;
        evac = evac_here _ c.args.pointer c.args.len c.args.ds c.args.place near c.args.found found c.requires.evac;
        alive = alive_here _ c.args.pointer c.args.len c.args.ds c.args.place near c.args.found found c.requires.alive;
        pointer = subst (λ (t : State). c.args.pointer < CELLS * t.mutators) (sym same) c.requires.pointer;
        words = λ dirty. subst (λ (t : State). IsStored (data_at t.word c.args.place) c.args.len) (sym same) (c.requires.words (dirty_here near dirty));
      }

-- the cell has the new word
renamed : (g : Over) (c : In_default g) → Renamed (g.N.Near.view c.self.inside.near) (g.N.Near.view c.rename.new.near) c.args.pointer (far_word c.args.len c.args.ds)
renamed g c = subst (Renamed (g.N.Near.view c.self.inside.near) (g.N.Near.view c.rename.new.near) c.args.pointer) c.far_word.ensures c.in_default.ensures.done

pub far_word-requires : goal.far_word-requires
far_word-requires g c = far_layout (leaves g (goal.at.far_word-requires g c).After-self)

pub rename-requires-clause-pointer : goal.rename-requires-clause-pointer
rename-requires-clause-pointer g c = (leaves g (goal.at.rename-requires-clause-pointer g c).After-self).pointer

pub rename-requires-clause-found : goal.rename-requires-clause-found
rename-requires-clause-found g c = found g (goal.at.rename-requires-clause-found g c).After-self

pub rename-requires-clause-readable : goal.rename-requires-clause-readable
rename-requires-clause-readable g c = ap is_some (ap read_of c.requires.found ∙ c.requires.near.near)

pub rename-requires-clause-alive : goal.rename-requires-clause-alive
rename-requires-clause-alive g c = c.requires.alive

pub rename-requires-clause-may : goal.rename-requires-clause-may
rename-requires-clause-may g c = subst (MayRename (g.N.Near.view c.self.inside.near) c.args.pointer) (sym c.far_word.ensures) (may_go_far (leaves g (goal.at.rename-requires-clause-may g c).After-self))

-- the hand named the cell, and did nothing else
names : (g : Over) (c : After-rename g) → Came (only (Names c.args.pointer (far_word c.args.len c.args.ds)) g.N.Near.makes) c.args.self.now.near c.rename.new.near
names g c = since_book c.self.view_is (subst (λ w. Came (only (Names c.args.pointer w) g.N.Near.makes) c.self.inside.near c.rename.new.near) c.far_word.ensures c.rename.ensures.names)

-- ---- another word was found
pub returns-in-Err-clause-won : goal.returns-in-Err-clause-won
returns-in-Err-clause-won g c = c.in-Err.ensures.won

pub returns-in-Err-clause-found : goal.returns-in-Err-clause-found
returns-in-Err-clause-found g c = c.in-Err.ensures.found

pub returns-in-Err-clause-stopped : goal.returns-in-Err-clause-stopped
returns-in-Err-clause-stopped g c = c.in-Err.ensures.stopped

pub returns-in-Err-clause-kept : goal.returns-in-Err-clause-kept
returns-in-Err-clause-kept g c = c.in-Err.ensures.kept ∙ ap (λ (x : State). seen x c.args.pointer c.in-Err.word) (same g (goal.at.returns-in-Err-clause-kept g c).After-self)

pub returns-in-Err-clause-names : goal.returns-in-Err-clause-names
returns-in-Err-clause-names g c = names g (goal.at.returns-in-Err-clause-names g c).After-rename

pub returns-in-Err-clause-order : goal.returns-in-Err-clause-order
returns-in-Err-clause-order g c = ap (λ (b : BookOf g.row.N.Denot g.row.D.Denot). b.order) c.self.view_is

pub returns-in-Err-clause-device : goal.returns-in-Err-clause-device
returns-in-Err-clause-device g c = ap (λ (b : BookOf g.row.N.Denot g.row.D.Denot). b.device) c.self.view_is

pub invariant_of-self : goal.invariant_of-self
invariant_of-self g c =
    let s = g.N.Near.view c.self.inside.near in
    let held = g.D.Device.contents c.self.inside.device in
    let is_honest = g.D.Device.honest c.self.inside.device in
    let finds = subst (λ w. Finds w c.in-Err.word) (found g (goal.at.invariant_of-self g c).After-self) c.in-Err.ensures.found in (
      subst (λ (u : State). InOrder u c.self.inside.ledger held is_honest) (sym c.in-Err.ensures.kept)
          (found_keeps s c.self.inside.ledger held is_honest c.self.invariant.0 c.args.pointer c.in-Err.word c.in-Err.ensures.fits finds),
      c.self.invariant.1,
    )

pub lose-requires-clause-log : goal.lose-requires-clause-log
lose-requires-clause-log g c = loses_log (leaves g (goal.at.lose-requires-clause-log g c).After-self) c.self.inside.ledger c.self.invariant.0.notes

pub lose-requires-clause-live : goal.lose-requires-clause-live
lose-requires-clause-live g c =
    subst (λ n. 8 * n ≤ (filled_of c.self.inside.ledger c.args.place.log).live) (sym c.size_of.ensures)
    (loses_live (leaves g (goal.at.lose-requires-clause-live g c).After-self) c.self.inside.ledger c.self.invariant.0.notes)

pub lose-requires-clause-size : goal.lose-requires-clause-size
lose-requires-clause-size g c = subst (λ n. n ≤ LOG_WORDS) (sym c.size_of.ensures) (loses_size (leaves g (goal.at.lose-requires-clause-size g c).After-self) c.self.inside.ledger c.self.invariant.0.notes)

pub invariant_of-self-2 : goal.invariant_of-self-2
invariant_of-self-2 g c =
    let k = (goal.at.invariant_of-self-2 g c).After-self in
    let here : (leaves g k).quiet.marks.dirty ≡ true → g.D.Device.contents c.self.inside.device c.args.pointer ≡ Some (bytes_of (data_at (g.N.Near.view c.self.inside.near).word c.args.place) c.args.len) = λ dirty. subst (λ (b : BookOf g.row.N.Denot g.row.D.Denot). g.D.Device.contents b.device c.args.pointer ≡ Some (bytes_of (data_at (g.N.Near.view b.near).word c.args.place) c.args.len)) (sym c.self.view_is) (c.requires.held (dirty_here g k (leaves g k).quiet dirty)) in (
      far_order (leaves g k) (g.N.Near.view c.rename.new.near) (renamed g (goal.at.invariant_of-self-2 g c).In_default) c.self.inside.ledger c.lose.new.self (g.D.Device.contents c.self.inside.device) (g.D.Device.honest c.self.inside.device)
          c.self.invariant.0 here (subst (Loses c.self.inside.ledger c.lose.new.self c.args.place.log) c.size_of.ensures c.lose.ensures),
      c.self.invariant.1,
    )

pub returns-clause-far : goal.returns-clause-far
returns-clause-far g c =
    let h = (goal.at.returns-clause-far g c).After-self in
    let t = g.N.Near.view c.rename.new.near in
    subst (λ (u : State). t ≡ record (evicted u c.args.pointer) { word = t.word; stored = t.stored }) (same g h) (evicted_by (leaves g h) t (renamed g (goal.at.returns-clause-far g c).In_default))

pub returns-clause-renamed : goal.returns-clause-renamed
returns-clause-renamed g c =
    subst (λ (u : State). Renamed u (g.N.Near.view c.rename.new.near) c.args.pointer (far_word c.args.len c.args.ds)) (same g (goal.at.returns-clause-renamed g c).After-self)
    (renamed g (goal.at.returns-clause-renamed g c).In_default)

pub returns-clause-won_by : goal.returns-clause-won_by
returns-clause-won_by g c = subst (IsWonBy g.N.Near.makes c.rename.new.near c.args.pointer c.args.found) c.far_word.ensures c.in_default.ensures.won_by

pub returns-clause-forgot : goal.returns-clause-forgot
returns-clause-forgot g c =
    let by = (renamed g (goal.at.returns-clause-forgot g c).In_default).forgot in
    subst (λ (u : State). Forgets u (g.N.Near.view c.rename.new.near)) (same g (goal.at.returns-clause-forgot g c).After-self) (record { known = by.known; headers = by.headers })

pub returns-clause-set : goal.returns-clause-set
returns-clause-set g c still =
    let s = g.N.Near.view c.args.self.now.near in
    let p = c.args.pointer in
    c.in_default.ensures.set still ∙ ap (λ (x : State). after x (Name p c.args.found c.far_word.result)) (same g (goal.at.returns-clause-set g c).After-self)
    ∙ ap (λ w. after s (Name p w c.far_word.result)) c.requires.found ∙ ap (λ w. after s (Name p (s.cell p) w)) c.far_word.ensures ∙ sym (ap (evicted_of s p) c.requires.near.near)

pub returns-clause-names : goal.returns-clause-names
returns-clause-names g c = names g (goal.at.returns-clause-names g c).After-rename

pub returns-clause-order : goal.returns-clause-order
returns-clause-order g c = ap (λ (n : Ledger). n.order) c.lose.ensures.rest ∙ ap (λ (b : BookOf g.row.N.Denot g.row.D.Denot). b.order) c.self.view_is

pub returns-clause-device : goal.returns-clause-device
returns-clause-device g c = ap (λ (b : BookOf g.row.N.Denot g.row.D.Denot). b.device) c.self.view_is

-- ---- clauses that say nothing of this answer
pub returns-in-Err-clause-far : goal.returns-in-Err-clause-far
returns-in-Err-clause-far g c = tt

pub returns-in-Err-clause-renamed : goal.returns-in-Err-clause-renamed
returns-in-Err-clause-renamed g c = tt

pub returns-in-Err-clause-won_by : goal.returns-in-Err-clause-won_by
returns-in-Err-clause-won_by g c = tt

pub returns-in-Err-clause-forgot : goal.returns-in-Err-clause-forgot
returns-in-Err-clause-forgot g c = tt

pub returns-in-Err-clause-set : goal.returns-in-Err-clause-set
returns-in-Err-clause-set g c still = tt

pub returns-clause-won : goal.returns-clause-won
returns-clause-won g c still = tt

pub returns-clause-found : goal.returns-clause-found
returns-clause-found g c = tt

pub returns-clause-stopped : goal.returns-clause-stopped
returns-clause-stopped g c = tt

pub returns-clause-kept : goal.returns-clause-kept
returns-clause-kept g c = tt
