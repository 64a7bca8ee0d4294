use Rattle.far_book.proofs.book.Book.spans.Goals as goal
use Rattle.std.proofs.Common.{◌≡◌, ◌∙◌, ◌<◌, ap, sym, subst, ℕ, true}
use Rattle.std.specs.Prelude.{slice_index, IfOk}
use Rattle.far_log.specs.Walk.{IsWalk}
use Rattle.far_events.specs.state.Spans.{spans_of}
use Rattle.far_events.specs.state.State.{State}
use Rattle.far_book.specs.book.BookOf.{BookOf}
use Rattle.far_book.specs.book.Own.{own_part}
use Rattle.far_book.proofs.region.InOrders.{headers_keep}
use Rattle.far_book.proofs.region.Readings.{headers_known, row_walks}
use Rattle.far_hand.proofs.Closure.{came_only}
use Rattle.far_book.proofs.region.Handed.{since_book}

pub read_words-words-requires-clause-known : goal.read_words-words-requires-clause-known
read_words-words-requires-clause-known g c = headers_known (g.N.Near.view c.self.inside.near) c.self.invariant.0.notes.law

pub listed-requires-clause-walks : goal.listed-requires-clause-walks
listed-requires-clause-walks g c =
    let s = g.N.Near.view c.self.inside.near in
    let same = ap (λ (b : BookOf g.row.N.Denot g.row.D.Denot). g.N.Near.view b.near) c.self.view_is in
    let within : c.args.log < s.logs = subst (λ (t : State). c.args.log < t.logs) (sym same) c.requires.log in
    let tail : c.tail-tail.result ≡ s.tail c.args.log = c.tail-tail.ensures.is (own_part s) (c.self.invariant.0.notes, within) in
    let walk : IsWalk (λ i. slice_index c.read_words-words.result i) c.tail-tail.result (spans_of s c.args.log) =
    subst (λ n. IsWalk (λ i. slice_index c.read_words-words.result i) n (spans_of s c.args.log)) (sym tail)
    (row_walks s c.self.invariant.0.notes.law c.args.log (λ i. slice_index c.read_words-words.result i) (λ i lt. c.read_words-words.ensures.words i (subst (λ n. i < n) (sym tail) lt))) in
    (spans_of s c.args.log, walk)

pub invariant_of-self : goal.invariant_of-self
invariant_of-self g c = (
  headers_keep (g.N.Near.view c.self.inside.near) c.self.inside.ledger (g.D.Device.contents c.self.inside.device) (g.D.Device.honest c.self.inside.device)
      c.self.invariant.0 (g.N.Near.view c.read_words-words.new.near) c.read_words-words.ensures.kept c.read_words-words.ensures.headers,
  c.self.invariant.1,
)

pub returns : goal.returns
returns g c = record {
  reads = since_book c.self.view_is c.read_words-words.ensures.reads;
  came = came_only _ (since_book c.self.view_is c.read_words-words.ensures.reads);
  spans = let s = g.N.Near.view c.self.inside.near in
      let same = ap (λ (b : BookOf g.row.N.Denot g.row.D.Denot). g.N.Near.view b.near) c.self.view_is in
      let within : c.args.log < s.logs = subst (λ (t : State). c.args.log < t.logs) (sym same) c.requires.log in
      let tail : c.tail-tail.result ≡ s.tail c.args.log = c.tail-tail.ensures.is (own_part s) (c.self.invariant.0.notes, within) in
      let walk : IsWalk (λ i. slice_index c.read_words-words.result i) c.tail-tail.result (spans_of s c.args.log) =
      subst (λ n. IsWalk (λ i. slice_index c.read_words-words.result i) n (spans_of s c.args.log)) (sym tail)
      (row_walks s c.self.invariant.0.notes.law c.args.log (λ i. slice_index c.read_words-words.result i) (λ i lt. c.read_words-words.ensures.words i (subst (λ n. i < n) (sym tail) lt))) in
      subst (λ (t : State). IfOk c.listed.result (λ spans. spans.items ≡ spans_of t c.args.log)) same (c.listed.ensures.spans (spans_of s c.args.log) walk);
  refused = c.listed.ensures.refused;
  kept = c.read_words-words.ensures.kept
      ∙ ap (λ (b : BookOf g.row.N.Denot g.row.D.Denot). record (g.N.Near.view b.near) { word = (g.N.Near.view c.read_words-words.new.near).word }) c.self.view_is;
  headers = subst (λ (s : State). (a : ℕ) → s.starts a ≡ true → (g.N.Near.view c.read_words-words.new.near).word a ≡ s.word a) (ap (λ (b : BookOf g.row.N.Denot g.row.D.Denot). g.N.Near.view b.near) c.self.view_is)
      c.read_words-words.ensures.headers;
  exact = λ still. c.read_words-words.ensures.exact still ∙ ap (λ (b : BookOf g.row.N.Denot g.row.D.Denot). g.N.Near.view b.near) c.self.view_is;
  order = ap (λ (b : BookOf g.row.N.Denot g.row.D.Denot). b.order) c.self.view_is;
  device = ap (λ (b : BookOf g.row.N.Denot g.row.D.Denot). b.device) c.self.view_is;
}
