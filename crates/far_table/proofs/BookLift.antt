-- From the facts after a step of the book's seat to the rule of the table, once for all kinds of step.
use Rattle.std.proofs.Common.{◌≡◌, ◌<◌, ◌^◌, ℕ, List, ◌∷◌, ◌++◌, map, set, sym, refl, ap, ◌∙◌, subst}
use Rattle.std.specs.Prelude.{slice_index}
use mathlib.Core.Option.{some}
use lib.ListN.{get_elem?}
use lib.Seq.{set-get_or}
use Rattle.atomic_table.specs.Table.{Me, keeps, Allows}
use Rattle.far_events.specs.declared.event.Event.{Event}
use Rattle.far_events.specs.declared.event.Reply.{Reply}
use Rattle.far_events.specs.events.Step.{Fits}
use Rattle.far_hand.specs.Makers.{ByBook, maker}
use Rattle.far_table.specs.View.{BookView, OtherViews, View, Book, seat_of}
use Rattle.far_table.specs.BookTells.{BookTells}
use Rattle.far_table.specs.Rule.{Facts, Running}
use Rattle.far_table.specs.Stands.{book_of}
use Rattle.far_table.proofs.Roles.{book_place}
use Rattle.far_table.proofs.BookFrames.{BookStep, book_facts, book_made}

module _ {S : Type 0} where
  -- a step of the book's seat owes the facts after it, of any words and others' views that meet them
  pub book_allows : (slots id i : ℕ) (me : Me S View) (b : BookView) (f : ℕ → ℕ) (then : ℕ → Me S View → Type 0) → me.0 ≡ Book b →
      ((ws : List ℕ) (os : OtherViews) → Facts ws b os → slice_index ws i < 2 ^ 64 →
      (w : BookView) × (w.rest ≡ b.rest) × Facts (set ws i (f (slice_index ws i))) w os × then (slice_index ws i) (Book w, me.1)) →
      Allows Running slots id me i f then
  book_allows slots id i me b f then is asked s r wide at small =
      let p = book_place r.book r.dealt id b (subst (λ l. get_elem? l id ≡ some (Book b)) r.views (at ∙ ap some is)) in
      let t = asked s.words r.others (subst (λ z. Facts s.words z r.others) p.1 r.facts) small in
      let w : BookView = t.0 in
      let x : ℕ = f (slice_index s.words i) in (
        Book w,
        keeps,
        tt,
        record {
          book = w;
          others = r.others;
          dealt = r.dealt;
          views = ap (λ l. set l id (Book w)) r.views ∙ ap (λ j. set (Book r.book ∷ map seat_of r.dealt) j (Book w)) p.0;
          all = ap (λ l. r.dealt ++ l) (t.1 ∙ ap (λ (z : BookView). z.rest) (sym p.1)) ∙ r.all;
          facts = t.2;
        },
        t.3,
      )

  module _ (slots id i : ℕ) (me : Me S View) (is : me.0 ≡ Book (book_of me.0)) (e : Event) (by : maker e ≡ ByBook)
      (r : ℕ → Reply) (w : ℕ → BookView) (then : ℕ → Me S View → Type 0) where
    abbrev b : BookView
    b = book_of me.0

    -- a step that writes: it is this event, the reply and the view after go by the word found
    pub book_makes : (f : ℕ → ℕ) → Fits e →
        ((ws : List ℕ) (os : OtherViews) → Facts ws b os → slice_index ws i < 2 ^ 64 →
        BookStep ws b os e (r (slice_index ws i)) (set ws i (f (slice_index ws i))) (w (slice_index ws i))) →
        ((ws : List ℕ) (os : OtherViews) → Facts ws b os → slice_index ws i < 2 ^ 64 →
        BookTells me.0 (Book (w (slice_index ws i))) e (r (slice_index ws i)) (w (slice_index ws i)) → then (slice_index ws i) (Book (w (slice_index ws i)), me.1)) →
        Allows Running slots id me i f then
    book_makes f fits steps tells = book_allows slots id i me b f then is (λ ws os facts small.
        let n : ℕ = slice_index ws i in
        let k = steps ws os facts small in (
          w n,
          k.leaves.rest,
          book_facts ws b os facts e by fits (r n) (set ws i (f n)) (w n) k,
          tells ws os facts small record { after_is = refl; made = book_made ws b os facts e by fits (r n) (set ws i (f n)) (w n) k },
        ))

    -- a step that reads
    pub book_reads : Fits e →
        ((ws : List ℕ) (os : OtherViews) → Facts ws b os → slice_index ws i < 2 ^ 64 →
        BookStep ws b os e (r (slice_index ws i)) ws (w (slice_index ws i))) →
        ((ws : List ℕ) (os : OtherViews) → Facts ws b os → slice_index ws i < 2 ^ 64 →
        BookTells me.0 (Book (w (slice_index ws i))) e (r (slice_index ws i)) (w (slice_index ws i)) → then (slice_index ws i) (Book (w (slice_index ws i)), me.1)) →
        Allows Running slots id me i (λ n. n) then
    book_reads fits steps = book_makes (λ n. n) fits (λ ws os facts small.
        subst (λ l. BookStep ws b os e (r (slice_index ws i)) l (w (slice_index ws i))) (sym (set-get_or ws i 0)) (steps ws os facts small))
