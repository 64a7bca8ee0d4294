use Rattle.far_book.proofs.book.Book.offer.Given.{Over}
use Rattle.far_book.proofs.book.Book.offer.Goals.{After-room, In-Near, In-Some-room}
use Rattle.far_book.proofs.book.Book.offer.Goals as goal
use Rattle.std.proofs.Common.{◌≡◌, ◌∙◌, ◌*◌, ◌/◌, ◌<◌, false, inl, inr, arith, ap, refl, sym, subst, Some, None}
use Rattle.std.specs.Prelude.{is_some}
use Rattle.std.proofs.lemmas.Bool.{true≢false, false≢true}
use Rattle.far_word.specs.declared.pointer.PtrWord.TheVariants.{Near}
use Rattle.far_word.specs.declared.sizes.TheConstants.{CELLS}
use Rattle.far_word.specs.Pointer.{IsPtr, read_of}
use Rattle.far_word.specs.Sizes.{size_of}
use Rattle.far_word.proofs.PointerLaws.{read_says}
use Rattle.far_core.specs.state.Room.{room}
use Rattle.far_events.specs.state.State.{State}
use Rattle.far_events.proofs.Put.{put_same}
use Rattle.far_book.specs.book.BookOf.{BookOf}
use Rattle.far_book.specs.book.Dealing.{goal as goes_to}
use Rattle.far_book.specs.book.Effects.{order_after}
use Rattle.far_book.specs.book.Fetching.{order_fetched}
use Rattle.far_book.specs.book.Ledger.{Begins, MayBegin}
use Rattle.far_book.specs.book.Offering.{IsCopyable, IsLowestEmpty, NoneEmpty}
use Rattle.far_book.specs.book.Own.{own_part}
use Rattle.far_book.specs.book.Renaming.{seen}
use Rattle.far_hand.specs.Came.{Came}
use Rattle.far_hand.proofs.Closure.{no_call, then_came}
use Rattle.far_hand.proofs.Finding.{some_found}
use Rattle.far_book.proofs.region.JobNotes.{empty_word, waiting_word}
use Rattle.far_book.proofs.region.OfferingCopies.{may_begin, offered_keeps}
use Rattle.far_book.proofs.region.Offers.{chosen, copyable, goal_is, looked_same, offers, offers_only, seen_clear, wanted}

-- ---- the cell was looked at
module _ (g : Over) (c : In-Near g) where
  abbrev s : State
  s = g.N.Near.view c.args.self.now.near

  same : g.N.Near.view c.self.inside.near ≡ s
  same = ap (λ (b : BookOf g.row.N.Denot g.row.D.Denot). g.N.Near.view b.near) c.self.view_is

  lowest : IsLowestEmpty s c.in-Some.job
  lowest =
      let x = c.in-Some.ensures in
      let u = g.N.Near.view c.self.inside.near in
      let notes = c.self.invariant.0.notes in
      subst (λ (y : State). IsLowestEmpty y c.in-Some.job) same (x.0, empty_word u c.self.inside.ledger notes c.in-Some.job x.0 x.1, λ i lt. waiting_word u c.self.inside.ledger notes i (omega (arith, x.0, lt)) (x.2 i lt))

  says : read_of c.see-found.result ≡ Some (Near c.in-Near.len c.in-Near.ds c.in-Near.from c.in-Near.marks)
  says = c.known.ensures ∙ ap (λ v. Some v) c.in-Near.is

  goes : goes_to s c.args.pointer ≡ room s (size_of c.in-Near.len) false
  goes = goal_is s c.args.pointer c.requires.clear c.see-found.result c.in-Near.len c.in-Near.ds c.in-Near.from c.in-Near.marks c.see-found.ensures.found says

-- ---- the book was opened once more
opened : (g : Over) (c : After-room g) → g.N.Near.view c.self-2.inside.near ≡ seen (g.N.Near.view c.args.self.now.near) c.args.pointer c.see-found.result
opened g c = ap (λ (b : BookOf g.row.N.Denot g.row.D.Denot). g.N.Near.view b.near) c.self-2.view_is ∙ c.see-found.ensures.kept

-- what room is there is there in the state before
told : (g : Over) (c : After-room g) → room (g.N.Near.view c.args.self.now.near) (size_of c.in-Near.len) false ≡ c.room.result
told g c =
    ap (λ (x : State). room x (size_of c.in-Near.len) false) (sym (opened g c))
    ∙ ap (λ n. room (g.N.Near.view c.self-2.inside.near) n false) (sym c.size_of-size.ensures) ∙ sym (c.room.ensures (own_part (g.N.Near.view c.self-2.inside.near)) c.self-2.invariant.0.notes)

pub known-requires : goal.known-requires
known-requires g c = some_found ((g.N.Near.view c.args.self.now.near).cell c.args.pointer) c.see-found.result c.see-found.ensures.found (ap is_some c.requires.clear.4)

pub room-requires-clause-known : goal.room-requires-clause-known
room-requires-clause-known g c = (own_part (g.N.Near.view c.self-2.inside.near), c.self-2.invariant.0.notes)

pub room-requires-clause-size : goal.room-requires-clause-size
room-requires-clause-size g c =
    let w = c.see-found.result in
    let layout : IsPtr (Near c.in-Near.len c.in-Near.ds c.in-Near.from c.in-Near.marks) = (read_says w _ c.see-found.type_inv (says g (goal.at.room-requires-clause-size g c).In-Near)).0 in
    omega (arith, c.size_of-size.ensures, layout)

able : (g : Over) (c : In-Some-room g) → IsCopyable (g.N.Near.view c.self-2.inside.near) c.in-Some.job c.args.pointer c.in-Near.len c.in-Near.ds c.in-Near.from c.in-Some-room.to
able g c =
    let h = goal.at.In-Some-room g c in
    let s = g.N.Near.view c.args.self.now.near in
    let p = c.args.pointer in
    let w = c.see-found.result in
    let n = c.in-Near in
    let at = opened g h.After-room in
    let finds = c.see-found.ensures.found in
    let clear = c.requires.clear in
    let says = says g h.In-Near in
    copyable (g.N.Near.view c.self-2.inside.near) c.self-2.inside.ledger c.self-2.invariant.0.notes c.in-Some.job p n.len n.ds n.from c.in-Some-room.to n.marks (lowest g h.In-Near).0
    (ap (λ (x : State). x.copying.word c.in-Some.job) at ∙ (lowest g h.In-Near).1) (subst (λ (x : State). p < CELLS * x.mutators) (sym at) c.requires.pointer)
    (ap (λ (x : State). read_of (x.cell p)) at ∙ ap read_of (put_same s.cell p w p refl) ∙ says) (wanted s p clear w n.len n.ds n.from n.marks finds says)
    (ap (λ (x : State). x.round n.from.log) at ∙ chosen s p clear w n.len n.ds n.from n.marks finds says) (ap (λ (x : State). x.clear (p / CELLS)) at ∙ seen_clear s p clear w n.len n.ds n.from n.marks finds says)
    (ap (λ (x : State). room x (size_of n.len) false) at ∙ told g h.After-room ∙ c.in-Some-room.is)

pub offer_copy-requires : goal.offer_copy-requires
offer_copy-requires g c = able g (goal.at.offer_copy-requires g c).In-Some-room

pub begin-requires : goal.begin-requires
begin-requires g c =
    let n = c.in-Near in
    subst (λ k. MayBegin c.self-2.inside.ledger k c.in-Some-room.to) (sym c.size_of-size.ensures)
    (may_begin (g.N.Near.view c.self-2.inside.near) c.self-2.inside.ledger (g.D.Device.contents c.self-2.inside.device) (g.D.Device.honest c.self-2.inside.device) c.self-2.invariant.0
    c.in-Some.job c.args.pointer n.len n.ds n.from c.in-Some-room.to (able g (goal.at.begin-requires g c).In-Some-room))

pub invariant_of-self : goal.invariant_of-self
invariant_of-self g c =
    let n = c.in-Near in
    let begins = subst (λ k. Begins c.self-2.inside.ledger c.begin.new.self k c.in-Some-room.to) c.size_of-size.ensures c.begin.ensures in (
      offered_keeps (g.N.Near.view c.self-2.inside.near) c.self-2.inside.ledger (g.D.Device.contents c.self-2.inside.device) (g.D.Device.honest c.self-2.inside.device) c.self-2.invariant.0
          c.in-Some.job c.args.pointer n.len n.ds n.from c.in-Some-room.to (able g (goal.at.invariant_of-self g c).In-Some-room) c.begin.new.self begins c.offer.new.self c.offer.ensures
          (g.N.Near.view c.offer_copy.new.near) c.offer_copy.ensures.kept c.offer_copy.ensures.forgot,
      c.self-2.invariant.1,
    )

-- ---- what it answers
pub returns-in_default : goal.returns-in_default
returns-in_default g c =
    let u = g.N.Near.view c.self.inside.near in
    let same = ap (λ (b : BookOf g.row.N.Denot g.row.D.Denot). g.N.Near.view b.near) c.self.view_is in
    let none : NoneEmpty (g.N.Near.view c.args.self.now.near) = subst NoneEmpty same (λ j lt. waiting_word u c.self.inside.ledger c.self.invariant.0.notes j lt (c.in_default.ensures j lt)) in
    record {
      came = no_call refl;
      offers = λ e. absurd (false≢true e);
      exact = λ still e. absurd (false≢true e);
      order = λ e. absurd (false≢true e);
      none = (λ _. inl none, λ _. refl);
      looked = λ _. looked_same (g.N.Near.view c.args.self.now.near) c.args.pointer;
      same = λ still _. refl;
      shut = λ _. refl;
      device = refl;
    }

pub returns-in_default-room : goal.returns-in_default-room
returns-in_default-room g c =
    let h = goal.at.returns-in_default-room g c in
    record {
      came = c.see-found.ensures.came;
      offers = λ e. absurd (false≢true e);
      exact = λ still e. absurd (false≢true e);
      order = λ e. absurd (false≢true e);
      none = (λ _. inr (goes g h.In-Near ∙ told g h.After-room ∙ c.in_default-room.is), λ _. refl);
      looked = λ _. record { word = c.see-found.result; found = c.see-found.ensures.found; is = c.see-found.ensures.kept };
      same = λ still _. c.see-found.ensures.set still;
      shut = λ _. c.see-found.ensures.order;
      device = c.see-found.ensures.device;
    }

pub returns : goal.returns
returns g c =
    let h = goal.at.returns g c in
    let s = g.N.Near.view c.args.self.now.near in
    let n = c.in-Near in
    let place : goes_to s c.args.pointer ≡ Some c.in-Some-room.to = goes g h.In-Near ∙ told g h.After-room ∙ c.in-Some-room.is in
    let low = lowest g h.In-Near in
    let at = opened g h.After-room in
    let says = says g h.In-Near in
    record {
      came = then_came c.see-found.ensures.came (subst (λ (b : BookOf g.row.N.Denot g.row.D.Denot). Came g.N.Near.makes b.near c.offer_copy.new.near) c.self-2.view_is c.offer_copy.ensures.came);
      offers = λ _. offers s (g.N.Near.view c.self-2.inside.near) (g.N.Near.view c.offer_copy.new.near) c.args.pointer c.see-found.result at c.see-found.ensures.found c.in-Some.job n.len n.ds n.from c.in-Some-room.to n.marks says low place
          c.offer_copy.ensures.kept c.offer_copy.ensures.forgot;
      exact = λ still _. offers_only s (g.N.Near.view c.self-2.inside.near) (g.N.Near.view c.offer_copy.new.near) c.args.pointer c.see-found.result at c.see-found.ensures.found c.in-Some.job n.len n.ds n.from c.in-Some-room.to n.marks says low place
          (c.see-found.ensures.exact still) (c.offer_copy.ensures.exact still);
      order = λ _. c.begin.ensures.opens.order
          ∙ ap (λ k. order_after (record (g.N.Near.view c.self-2.inside.near) { current = k }) c.self-2.inside.ledger.order c.in-Some-room.to) c.self-2.invariant.0.notes.current
          ∙ ap (λ (b : BookOf g.row.N.Denot g.row.D.Denot). order_after (g.N.Near.view b.near) b.order c.in-Some-room.to) c.self-2.view_is
          ∙ ap (λ (x : State). order_after x c.see-found.new.self.order c.in-Some-room.to) c.see-found.ensures.kept ∙ ap (λ o. order_after s o c.in-Some-room.to) c.see-found.ensures.order
          ∙ sym (ap (order_fetched s c.args.self.now.order) place);
      none = (λ e. absurd (true≢false e), λ e. elim e [ inl none ↦ absurd (none c.in-Some.job low.0 low.1) | inr none ↦ (let odd : None ≡ Some c.in-Some-room.to = sym none ∙ place in absurd cc) ]);
      looked = λ e. absurd (true≢false e);
      same = λ still e. absurd (true≢false e);
      shut = λ e. absurd (true≢false e);
      device = ap (λ (b : BookOf g.row.N.Denot g.row.D.Denot). b.device) c.self-2.view_is ∙ c.see-found.ensures.device;
    }
