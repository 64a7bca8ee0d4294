-- A step of the book's seat that is an event of the core keeps the rule: once for all kinds of step.
use Rattle.std.proofs.Common.{◌≡◌, ◌+◌, ℕ, Bool, List, sym, ap, ◌∙◌, subst, arith}
use Rattle.std.specs.Prelude.{IsSome}
use mathlib.Core.Option.{some}
use lib.ListN.{get_elem?}
use Rattle.far_events.specs.declared.event.Event.{Event}
use Rattle.far_events.specs.declared.event.Reply.{Reply}
use Rattle.far_events.specs.events.Legal.{Legal}
use Rattle.far_events.specs.events.Step.{Fits, after, answer}
use Rattle.far_events.specs.state.Law.{Law}
use Rattle.far_events.specs.state.State.{State}
use Rattle.far_core.proofs.Owing.{keeps}
use Rattle.far_core.proofs.Steps.{agrees}
use Rattle.far_hand.specs.Makers.{ByBook, maker}
use Rattle.far_hand.proofs.Making.{legal_made}
use Rattle.far_table.specs.View.{BookView, OwnerView, Role, OtherViews}
use Rattle.far_table.specs.Layout.{cell_in, scope_in}
use Rattle.far_table.specs.Rows.{over}
use Rattle.far_table.specs.Rule.{BookTies, Facts, OwnerTies}
use Rattle.far_table.specs.StateOf.{cleaned_at, cooled_at, held_by, retired_at, stained_at, state_of, taken_at}
use Rattle.far_table.specs.BookTells.{BookMade, cleaned_by, cooled_by, retired_by, stained_by, taken_by}
use Rattle.far_table.specs.Views.{dirtied_at, dirts, drops, held_at, hots, moves}
use Rattle.far_table.proofs.BookObjects.{has_after}
use Rattle.far_table.proofs.Owners.{known_by}
use Rattle.far_table.proofs.OwnSteps.{Leads}

-- what a step leaves of the owners' ties: their scope words stay, MOVE, DROP, HOT and DIRTY are counted, and HOT stays where a place is held
pub record LeavesOwners (ws : List ℕ) (b : BookView) (os : OtherViews) (e : Event) (r : Reply) (later : List ℕ) (b' : BookView) : Type 0 where
  pub mutators : b'.mutators ≡ b.mutators
  pub logs : b'.logs ≡ b.logs
  pub honest : b'.honest ≡ b.honest
  pub rest : b'.rest ≡ b.rest
  pub scopes : scope_in later ≡ scope_in ws
  pub counts : (p : ℕ) → (taken_at b p + moves (cell_in ws p) ≡ taken_at b' p + moves (cell_in later p)) × (retired_at b p + drops (cell_in ws p) ≡ retired_at b' p + drops (cell_in later p))
      × (cooled_at b p + hots (cell_in ws p) ≡ cooled_at b' p + hots (cell_in later p))
      × (stained_at b' p + (cleaned_at b p + dirts (cell_in ws p)) ≡ stained_at b p + (cleaned_at b' p + dirts (cell_in later p)))
  pub warm : (p : ℕ) → IsSome (held_by os.owners p) → hots (cell_in later p) ≡ hots (cell_in ws p)
  pub told : (p : ℕ) → (taken_at b' p ≡ taken_by e r p (taken_at b p)) × (retired_at b' p ≡ retired_by e r p (retired_at b p)) × (cooled_at b' p ≡ cooled_by e r p (cooled_at b p))
      × (stained_at b' p ≡ stained_by e r p (stained_at b p)) × (cleaned_at b' p ≡ cleaned_by e r p (cleaned_at b p))

-- what owners' ties read of the book's view, and who has no seat yet
abbrev pub Counted : Type 0
Counted = ℕ × Bool × List Role × List (ℕ × ℕ) × List (ℕ × ℕ) × List (ℕ × ℕ) × List (ℕ × ℕ) × List (ℕ × ℕ) × ℕ

abbrev pub counts_of : BookView → Counted
counts_of b = (b.mutators, b.honest, b.rest, b.taken, b.retired, b.cooled, b.stained, b.cleaned, b.logs)

-- an event with this answer counts no mark
abbrev pub CountsNone : Event → Reply → Type 0
CountsNone e r = (p n : ℕ) → (taken_by e r p n ≡ n) × (retired_by e r p n ≡ n) × (cooled_by e r p n ≡ n) × (stained_by e r p n ≡ n) × (cleaned_by e r p n ≡ n)

-- the same marks stand in two words
abbrev pub MarksAs : ℕ → ℕ → Type 0
MarksAs w n = (moves w ≡ moves n) × (drops w ≡ drops n) × (hots w ≡ hots n) × (dirts w ≡ dirts n)

-- how often DIRTY was set anew and left is still how often it was found, and once more where it stands
dirt_on : (set left later found met : ℕ) (was is : ℕ) → set + left ≡ found + was → later + (found + was) ≡ left + (met + is) → set + later ≡ met + is
dirt_on set left later found met was is tie step = omega arith

-- a step that leaves MOVE, DROP, HOT and DIRTY of all cells, and all scope words
pub marks_stay : {ws later : List ℕ} {b b' : BookView} {os : OtherViews} {e : Event} {r : Reply} →
    ((p : ℕ) → MarksAs (cell_in later p) (cell_in ws p)) → scope_in later ≡ scope_in ws → counts_of b' ≡ counts_of b → CountsNone e r → LeavesOwners ws b os e r later b'
marks_stay {ws} {later} {b} {b'} marks scopes same none =
    let taken : taken_at b' ≡ taken_at b = ap (λ (z : Counted). over z.3 (λ _. 0)) same in
    let retired : retired_at b' ≡ retired_at b = ap (λ (z : Counted). over z.4 (λ _. 0)) same in
    let cooled : cooled_at b' ≡ cooled_at b = ap (λ (z : Counted). over z.5 (λ _. 0)) same in
    let stained : stained_at b' ≡ stained_at b = ap (λ (z : Counted). over z.6 (λ _. 0)) same in
    let cleaned : cleaned_at b' ≡ cleaned_at b = ap (λ (z : Counted). over z.7 (λ _. 0)) same in record {
      mutators = ap (λ (z : Counted). z.0) same;
      logs = ap (λ (z : Counted). z.8) same;
      honest = ap (λ (z : Counted). z.1) same;
      rest = ap (λ (z : Counted). z.2) same;
      scopes = scopes;
      counts = λ p. (
        ap (λ f. f p + moves (cell_in ws p)) (sym taken) ∙ ap (λ n. taken_at b' p + n) (sym (marks p).0),
        ap (λ f. f p + drops (cell_in ws p)) (sym retired) ∙ ap (λ n. retired_at b' p + n) (sym (marks p).1),
        ap (λ f. f p + hots (cell_in ws p)) (sym cooled) ∙ ap (λ n. cooled_at b' p + n) (sym (marks p).2),
        ap (λ f. f p + (cleaned_at b p + dirts (cell_in ws p))) stained
            ∙ (ap (λ f. stained_at b p + (f p + dirts (cell_in ws p))) (sym cleaned) ∙ ap (λ n. stained_at b p + (cleaned_at b' p + n)) (sym (marks p).3)),
      );
      warm = λ p _. (marks p).2;
      told = λ p. (
        ap (λ f. f p) taken ∙ sym (none p (taken_at b p)).0,
        ap (λ f. f p) retired ∙ sym (none p (retired_at b p)).1,
        ap (λ f. f p) cooled ∙ sym (none p (cooled_at b p)).2,
        ap (λ f. f p) stained ∙ sym (none p (stained_at b p)).3,
        ap (λ f. f p) cleaned ∙ sym (none p (cleaned_at b p)).4,
      );
    }

-- a step that leaves all cells and scope words
pub cells_stay : {ws later : List ℕ} {b b' : BookView} {os : OtherViews} {e : Event} {r : Reply} → cell_in later ≡ cell_in ws → scope_in later ≡ scope_in ws → counts_of b' ≡ counts_of b → CountsNone e r →
    LeavesOwners ws b os e r later b'
cells_stay cells scopes same none = marks_stay (λ p. (ap (λ c. moves (c p)) cells, ap (λ c. drops (c p)) cells, ap (λ c. hots (c p)) cells, ap (λ c. dirts (c p)) cells)) scopes same none

-- what a kind of step owes: its event is legal, with this answer; the words and the view after are the core's state; the book's own ties, of a state under the law; and what it leaves of the owners'
pub record BookStep (ws : List ℕ) (b : BookView) (os : OtherViews) (e : Event) (r : Reply) (later : List ℕ) (b' : BookView) : Type 0 where
  pub legal : Legal (state_of ws b os) e
  pub says : r ≡ answer (state_of ws b os) e
  pub becomes : Leads (after (state_of ws b os) e) later b' os
  pub book : Law (state_of later b' os) → BookTies b' (state_of later b' os)
  pub leaves : LeavesOwners ws b os e r later b'

module _ (ws : List ℕ) (b : BookView) (os : OtherViews) (f : Facts ws b os) (e : Event) (by : maker e ≡ ByBook) (fits : Fits e) (r : Reply) (later : List ℕ) (b' : BookView)
    (k : BookStep ws b os e r later b') where
  abbrev s : State
  s = state_of ws b os

  abbrev t : State
  t = state_of later b' os

  law : Law t
  law = subst Law k.becomes.is (keeps s e f.law fits k.legal)

  owner : (m : ℕ) (o : OwnerView) → get_elem? os.owners m ≡ some o → OwnerTies b s m o → OwnerTies b' t m o
  owner m o at ties = record {
    number = ties.number;
    honest = ties.honest ∙ sym k.leaves.honest;
    logs = ties.logs ∙ sym k.leaves.logs;
    scope = ap (λ f. f m) k.leaves.scopes ∙ ties.scope;
    objects = λ p x mine h. has_after s e by f.law fits k.legal t k.becomes.is k.leaves.honest p x (ties.objects p x mine h);
    asks = λ p mine. ties.asks p mine ∙ (k.leaves.counts p).0;
    drops = λ p mine. ties.drops p mine ∙ (k.leaves.counts p).1;
    hots = λ p mine. ties.hots p mine ∙ (k.leaves.counts p).2;
    soils = λ p mine. dirt_on (dirtied_at o p) (stained_at b p) (stained_at b' p) (cleaned_at b p) (cleaned_at b' p) (dirts (cell_in ws p)) (dirts (cell_in later p)) (ties.soils p mine) (k.leaves.counts p).3;
    warm = λ p mine pinned. let x = ties.warm p mine pinned in (x.0, k.leaves.warm p (subst IsSome (sym (known_by os.owners m o o at held_at p mine)) x.0) ∙ x.1);
  }

  pub book_facts : Facts later b' os
  book_facts = record {
    law = law;
    agrees = agrees t law;
    book = k.book law;
    owners = λ m o at. owner m o at (f.owners m o at);
    copiers = f.copiers;
    copier_logs = λ c v at. f.copier_logs c v at ∙ sym k.leaves.logs;
    many = f.many ∙ sym k.leaves.mutators;
    eight = f.eight;
    wide = k.becomes.wide;
  }

  pub book_made : BookMade e b r b'
  book_made = record {
    words = ws;
    others = os;
    facts = f;
    legal = k.legal;
    says = k.says;
    later = later;
    becomes = k.becomes.is;
    keeps = book_facts;
    taken = λ p. (k.leaves.told p).0;
    retired = λ p. (k.leaves.told p).1;
    cooled = λ p. (k.leaves.told p).2;
    stained = λ p. (k.leaves.told p).3;
    cleaned = λ p. (k.leaves.told p).4;
    call = legal_made s t e r k.legal (sym k.becomes.is) (sym k.says);
  }
