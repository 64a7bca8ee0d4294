-- A step of a copier's seat that is an event of the core keeps the rule: once for all kinds of step.
use Rattle.std.proofs.Common.{◌≡◌, ◌≢◌, ◌<◌, ℕ, Bool, List, set, sym, ap, ◌∙◌, subst, ⊎_elim, Option, get_or-set_other, get_or-set_same}
use mathlib.Core.Logic.{dite}
use mathlib.Core.Option.{some}
use mathlib.Core.Path.{fun_ext}
use native.Mathlib.Decide.{ℕ_discrete}
use lib.ListN.{get_elem?, length-set}
use Rattle.atomic_table.proofs.Lists.{at_set}
use Rattle.far_word.specs.declared.sizes.TheConstants.{MOST_COPIERS}
use Rattle.far_events.specs.declared.event.Event.{Event}
use Rattle.far_events.specs.declared.event.Reply.{Reply}
use Rattle.far_events.specs.declared.event.Task.{Task}
use Rattle.far_events.specs.events.Legal.{Legal}
use Rattle.far_events.specs.events.Step.{Fits, after, answer}
use Rattle.far_events.specs.state.Law.{Law}
use Rattle.far_events.specs.state.State.{State, put}
use Rattle.far_core.proofs.Owing.{keeps}
use Rattle.far_events.proofs.Put.{put_both}
use Rattle.far_core.proofs.Steps.{agrees}
use Rattle.far_hand.specs.Makers.{ByCopier, is_other, maker}
use Rattle.far_hand.proofs.OthersWork.{change}
use Rattle.far_table.specs.View.{BookView, CopierView, OtherViews, OwnerView, idle, with_copier}
use Rattle.far_table.specs.CopierViews.{copier_at, words_read, words_written}
use Rattle.far_table.specs.Layout.{cell_in, epoch_in, scope_in}
use Rattle.far_table.specs.Rule.{BookTies, Facts, OwnerTies}
use Rattle.far_table.specs.StateOf.{copying_of, state_of}
use Rattle.far_table.specs.Tells.{CopierMade}
use Rattle.far_table.proofs.BookKept.{book_on}
use Rattle.far_table.proofs.Others.{KeepsBy, KeepsOwner, keeps_others}
use Rattle.far_table.proofs.OwnSteps.{Leads, owner_on}
use Rattle.far_table.proofs.Places.{below, get_is}
use Rattle.far_table.proofs.Words.{WordsAre}

-- ---- what copiers know, once one's view is another
module _ (cs : List CopierView) (c : ℕ) (v w : CopierView) (at : get_elem? cs c ≡ some v) where
  pub copier_is : copier_at cs c ≡ v
  copier_is = get_is cs c v (idle 0) at

  module _ {X : Type 0} (g : CopierView → X) where
    abbrev pub known : List CopierView → ℕ → X
    known l d = g (copier_at l d)

    pub known_set : known (set cs c w) ≡ put (known cs) c (g w)
    known_set = fun_ext (λ d. put_both (λ x. g (copier_at (set cs c w) d) ≡ x) (λ i. g (copier_at cs i)) c (g w) d
        (λ e. ap (λ i. g (copier_at (set cs c w) i)) e ∙ ap g (get_or-set_same cs c w (idle 0) (below cs c v at)))
        (λ ne. ap g (get_or-set_other cs c d w (idle 0) ne)))

    pub known_same : g w ≡ g v → known (set cs c w) ≡ known cs
    known_same same = fun_ext (λ d. dite (ℕ_discrete d c)
        (λ e. ap (λ i. g (copier_at (set cs c w) i)) e ∙ (ap g (get_or-set_same cs c w (idle 0) (below cs c v at)) ∙ (same ∙ (sym (ap g copier_is) ∙ ap (λ i. g (copier_at cs i)) (sym e)))))
        (λ ne. ap g (get_or-set_other cs c d w (idle 0) ne)))

-- the state that words and views are then, by its parts
pub copied_is : (ws later : List ℕ) (b : BookView) (os : OtherViews) (c : ℕ) (w : CopierView) {word job : ℕ → ℕ} {task : ℕ → Option Task} {long : ℕ → Option ℕ} {read : ℕ → ℕ → Option ℕ} {written : ℕ → ℕ → Bool} →
    WordsAre b.logs later (epoch_in ws) (scope_in ws) (cell_in ws) word job → (λ d. (copier_at (set os.copiers c w) d).task) ≡ task → (λ d. (copier_at (set os.copiers c w) d).length) ≡ long →
    (λ d. words_read (copier_at (set os.copiers c w) d)) ≡ read → (λ d. words_written (copier_at (set os.copiers c w) d)) ≡ written →
    Leads (record (state_of ws b os) { word = word; copying = record (copying_of ws b os.copiers) { word = job; task = task; length = long; read = read; written = written } }) later b (with_copier os c w)
copied_is ws later b os c w words t l r x = record {
  is = λ i. record (state_of ws b os) {
    epoch = sym words.epoch_is i;
    scope = sym words.scope_is i;
    cell = sym words.cell_is i;
    word = sym words.word_is i;
    copying = record (copying_of ws b os.copiers) { word = sym words.job_is i; task = sym t i; length = sym l i; read = sym r i; written = sym x i };
  };
  wide = words.wide;
}

-- ---- a step
-- what a kind of step owes: its event is legal, with this answer; the words and views after are the core's state; and what the copier's view says of itself
pub record CopyStep (ws : List ℕ) (b : BookView) (os : OtherViews) (v : CopierView) (e : Event) (r : Reply) (later : List ℕ) (w : CopierView) : Type 0 where
  pub legal : Legal (state_of ws b os) e
  pub says : r ≡ answer (state_of ws b os) e
  pub becomes : Leads (after (state_of ws b os) e) later b (with_copier os v.number w)
  pub number : w.number ≡ v.number
  pub logs : w.logs ≡ v.logs

module _ (ws : List ℕ) (b : BookView) (os : OtherViews) (f : Facts ws b os) (v : CopierView) (at : get_elem? os.copiers v.number ≡ some v) where
  pub is_copier : v.number < MOST_COPIERS
  is_copier = subst (λ n. v.number < n) f.eight (below os.copiers v.number v at)

  module _ (e : Event) (by : maker e ≡ ByCopier v.number) (fits : Fits e) (r : Reply) (later : List ℕ) (w : CopierView) (k : CopyStep ws b os v e r later w) where
    abbrev s : State
    s = state_of ws b os

    abbrev t : State
    t = after s e

    others : (j : ℕ) → KeepsOwner s t j
    others = subst (λ k. KeepsBy k s t) by (keeps_others s e f.law fits k.legal)

    numbers : (c : ℕ) (y : CopierView) → get_elem? (set os.copiers v.number w) c ≡ some y → y.number ≡ c
    numbers c y h = ⊎_elim
        (λ (x : (c ≡ v.number) × (w ≡ y)). ap (λ (z : CopierView). z.number) (sym x.1) ∙ (k.number ∙ sym x.0))
        (λ (x : (c ≢ v.number) × (get_elem? os.copiers c ≡ some y)). f.copiers c y x.1)
        (at_set os.copiers v.number c w y h)

    sizes : (c : ℕ) (y : CopierView) → get_elem? (set os.copiers v.number w) c ≡ some y → y.logs ≡ b.logs
    sizes c y h = ⊎_elim
        (λ (x : (c ≡ v.number) × (w ≡ y)). ap (λ (z : CopierView). z.logs) (sym x.1) ∙ (k.logs ∙ f.copier_logs v.number v at))
        (λ (x : (c ≢ v.number) × (get_elem? os.copiers c ≡ some y)). f.copier_logs c y x.1)
        (at_set os.copiers v.number c w y h)

    law : Law (state_of later b (with_copier os v.number w))
    law = subst Law k.becomes.is (keeps s e f.law fits k.legal)

    pub copy_facts : Facts later b (with_copier os v.number w)
    copy_facts = record {
      law = law;
      agrees = agrees _ law;
      book = subst (BookTies b) k.becomes.is (book_on b s t f.law f.book (change s e f.law (ap is_other by) k.legal));
      owners = λ j (y : OwnerView) h. subst (λ (z : State). OwnerTies b z j y) k.becomes.is (owner_on b s t j y (others j) (f.owners j y h));
      copiers = numbers;
      copier_logs = sizes;
      many = f.many;
      eight = length-set os.copiers v.number w ∙ f.eight;
      wide = k.becomes.wide;
    }

    pub copy_made : CopierMade e v r w
    copy_made = record {
      words = ws;
      book = b;
      others = os;
      facts = f;
      stands = at;
      legal = k.legal;
      says = k.says;
      later = later;
      becomes = k.becomes.is;
      keeps = copy_facts;
    }
