use Rattle.far_book.proofs.book.Book.span_at.Given.{Over}
use Rattle.far_book.proofs.book.Book.span_at.Goals.{After-get, After-known-head}
use Rattle.far_book.proofs.book.Book.span_at.Goals as goal
use Rattle.std.proofs.Common.{◌≡◌, ◌+◌, ◌*◌, ◌<◌, ◌∙◌, true, ap, refl, sym, subst}
use Rattle.far_word.specs.declared.sizes.TheConstants.{CELLS, LOG_WORDS}
use Rattle.far_word.specs.Sizes.{size_of}
use Rattle.far_log.specs.Spans.{span_at}
use Rattle.far_events.specs.state.Spans.{word_in}
use Rattle.far_events.specs.state.State.{State}
use Rattle.far_hand.specs.Known.{IsKnown}
use Rattle.far_book.specs.book.BookOf.{BookOf}
use Rattle.far_book.specs.book.FarSide.{InOrder}
use Rattle.far_book.specs.book.NextLive.{IsBoundary}
use Rattle.far_book.proofs.region.NextLives.{Reads, reads, some_header}
use Rattle.far_book.proofs.region.Readings.{headers_known}
use Rattle.far_hand.proofs.Closure.{first_call}
use Rattle.far_book.proofs.region.Handed.{since_book}

-- ---- once the book was opened, and its word read
module _ (g : Over) (c : After-get g) where
  same : g.N.Near.view c.self.inside.near ≡ g.N.Near.view c.args.self.now.near
  same = ap (λ (b : BookOf g.row.N.Denot g.row.D.Denot). g.N.Near.view b.near) c.self.view_is

  below : c.args.at < (g.N.Near.view c.self.inside.near).tail c.args.log
  below = subst (λ (t : State). c.args.at < t.tail c.args.log) (sym same) c.requires.below

  begins : (g.N.Near.view c.self.inside.near).starts (c.args.log * LOG_WORDS + c.args.at) ≡ true
  begins = ap (λ (t : State). t.starts (c.args.log * LOG_WORDS + c.args.at)) same ∙ c.requires.begins

  known : IsKnown ((g.N.Near.view c.self.inside.near).word (c.args.log * LOG_WORDS + c.args.at))
  known = headers_known (g.N.Near.view c.self.inside.near) c.self.invariant.0.notes.law (c.args.log * LOG_WORDS + c.args.at) begins

header : (g : Over) (c : After-known-head g) →
    let h = (goal.at.After-known-head g c).After-get in Reads (g.N.Near.view c.self.inside.near) c.self.invariant.0.notes.law c.args.log c.args.at (below g h) (begins g h) c.known-head.result
header g c =
    let h = (goal.at.After-known-head g c).After-get in
    reads (g.N.Near.view c.self.inside.near) c.self.invariant.0.notes.law c.args.log c.args.at (below g h) (begins g h) c.get.result c.known-head.result (c.get.ensures.known (known g h)) c.known-head.ensures

pub known-head-requires : goal.known-head-requires
known-head-requires g c =
    let h = (goal.at.known-head-requires g c).After-get in
    some_header (g.N.Near.view c.self.inside.near) c.self.invariant.0.notes.law c.args.log c.args.at (below g h) (begins g h) c.get.result (c.get.ensures.known (known g h))

pub invariant_of-self : goal.invariant_of-self
invariant_of-self g c = (
  subst (λ (t : State). InOrder t c.self.inside.ledger (g.D.Device.contents c.self.inside.device) (g.D.Device.honest c.self.inside.device))
      (sym (c.get.ensures.kept refl (known g (goal.at.invariant_of-self g c).After-get))) c.self.invariant.0,
  c.self.invariant.1,
)

pub returns-clause-is : goal.returns-clause-is
returns-clause-is g c =
    (header g (goal.at.returns-clause-is g c).After-known-head).is ∙ ap (λ (t : State). span_at (word_in t c.args.log) c.args.at) (same g (goal.at.returns-clause-is g c).After-get)

pub returns-clause-pointer : goal.returns-clause-pointer
returns-clause-pointer g c =
    subst (λ (t : State). c.known-head.result.pointer < CELLS * t.mutators) (same g (goal.at.returns-clause-pointer g c).After-get) (header g (goal.at.returns-clause-pointer g c).After-known-head).pointer

pub returns-clause-short : goal.returns-clause-short
returns-clause-short g c = (header g (goal.at.returns-clause-short g c).After-known-head).short

pub returns-clause-next : goal.returns-clause-next
returns-clause-next g c =
    subst (λ (t : State). IsBoundary t c.args.log (c.args.at + size_of c.known-head.result.len)) (same g (goal.at.returns-clause-next g c).After-get) (header g (goal.at.returns-clause-next g c).After-known-head).next

pub returns-clause-same : goal.returns-clause-same
returns-clause-same g c = let h = (goal.at.returns-clause-same g c).After-get in c.get.ensures.kept refl (known g h) ∙ same g h

pub returns-clause-reads : goal.returns-clause-reads
returns-clause-reads g c = since_book c.self.view_is (first_call _ _ ((c.args.at, refl), c.get.ensures.made))
