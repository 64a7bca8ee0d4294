-- A step of an owner's seat that is an event of the core keeps the rule: once for all kinds of step.
use Rattle.std.specs.Prelude.{IsSome}
use Rattle.std.proofs.Common.{◌≡◌, ◌≢◌, ◌+◌, ◌/◌, ◌<◌, ℕ, Bool, true, List, length, set, sym, ap, ◌∙◌, subst, ⊎_elim, Option}
use mathlib.Core.Option.{some}
use lib.ListN.{get_elem?, length-set}
use Rattle.atomic_table.proofs.Lists.{at_set}
use Rattle.far_word.specs.declared.pointer.Place.{Place}
use Rattle.far_word.specs.declared.sizes.TheConstants.{CELLS}
use Rattle.far_word.specs.Pointer.{read_of}
use Rattle.far_events.specs.declared.event.Event.{Event}
use Rattle.far_events.specs.declared.event.Reply.{Reply}
use Rattle.far_events.specs.events.Legal.{Legal}
use Rattle.far_events.specs.events.Open.{scope_word_of}
use Rattle.far_events.specs.events.Step.{Fits, after, answer}
use Rattle.far_events.specs.state.Law.{Law, is_dirty}
use Rattle.far_events.specs.state.State.{State}
use Rattle.far_core.specs.world.WorldOf.{world_of}
use Rattle.far_core.proofs.Owing.{keeps}
use Rattle.far_core.proofs.Steps.{agrees}
use Rattle.far_hand.specs.Makers.{ByOwner, is_other, maker}
use Rattle.far_hand.proofs.OthersWork.{change}
use Rattle.far_table.specs.View.{BookView, ObjectView, OtherViews, OwnerView, with_owner}
use Rattle.far_table.specs.Layout.{table_words}
use Rattle.far_table.specs.Rule.{BookTies, Facts, Has, OwnerTies}
use Rattle.far_table.specs.StateOf.{cleaned_at, cooled_at, copying_of, held_by, remembered_by, retired_at, soiled_by, stained_at, state_of, taken_at, used_by}
use Rattle.far_table.specs.Tells.{OwnerMade, OwnerMayBe}
use Rattle.far_table.specs.Views.{asked_at, dirtied_at, dirts, dropped_at, drops, heated_at, held_at, hots, moves, object_at, pinned_at, soiled_at}
use Rattle.far_table.proofs.BookKept.{book_on}
use Rattle.far_table.proofs.Owners.{known_by}
use Rattle.far_table.proofs.Others.{KeepsBy, KeepsOwner, keeps_others}
use Rattle.far_table.proofs.Places.{below}
use Rattle.far_table.proofs.Words.{WordsAre}

-- ---- the state that words and views are, by its parts
-- words and views are this state
pub record Leads (s : State) (ws : List ℕ) (b : BookView) (os : OtherViews) : Type 0 where
  pub is : s ≡ state_of ws b os
  pub wide : length ws ≡ table_words b.logs

pub state_is : (ws : List ℕ) (b : BookView) (os : OtherViews) {epoch : ℕ} {scope cell word job : ℕ → ℕ} {remembered : ℕ → Option ℕ} {used : ℕ → Bool} {held : ℕ → Option Place} {soiled : ℕ → Bool} →
    WordsAre b.logs ws epoch scope cell word job → remembered_by os.owners ≡ remembered → used_by os.owners ≡ used → held_by os.owners ≡ held → soiled_by os.owners ≡ soiled →
    Leads (record (state_of ws b os) { epoch = epoch; scope = scope; cell = cell; word = word; remembered = remembered; used = used; held = held; soiled = soiled; copying = record (copying_of ws b os.copiers) { word = job } }) ws b os
state_is ws b os words r u h d = record {
  is = λ i. record (state_of ws b os) {
    epoch = sym words.epoch_is i;
    scope = sym words.scope_is i;
    cell = sym words.cell_is i;
    word = sym words.word_is i;
    remembered = sym r i;
    used = sym u i;
    held = sym h i;
    soiled = sym d i;
    copying = record (copying_of ws b os.copiers) { word = sym words.job_is i };
  };
  wide = words.wide;
}

-- the same of a state that is this one
pub led_by : {s t : State} {ws : List ℕ} {b : BookView} {os : OtherViews} → s ≡ t → Leads t ws b os → Leads s ws b os
led_by same leads = record { is = same ∙ leads.is; wide = leads.wide }

-- no word changes
pub reads : {ws : List ℕ} {b : BookView} {os : OtherViews} → Facts ws b os → (s : State) (b' : BookView) (later : OtherViews) → s ≡ state_of ws b' later → b'.logs ≡ b.logs → Leads s ws b' later
reads f s b' later is same = record { is = is; wide = f.wide ∙ ap (λ n. table_words n) (sym same) }

-- ---- ties of an owner that go on
pub has_on : (s t : State) (p : ℕ) (x : ObjectView) → (world_of t).object p ≡ (world_of s).object p → t.honest ≡ s.honest → Has s p x → Has t p x
has_on s t p x same honest h = record { object = h.object; there = same ∙ h.there; len = h.len; ds = h.ds; words = λ is. h.words (sym honest ∙ is) }

pub owner_on : (b : BookView) (s t : State) (j : ℕ) (y : OwnerView) → KeepsOwner s t j → OwnerTies b s j y → OwnerTies b t j y
owner_on b s t j y keep ties = record {
  number = ties.number;
  honest = ties.honest ∙ sym keep.honest;
  logs = ties.logs;
  scope = keep.scope ∙ ties.scope;
  objects = λ p x own h. has_on s t p x (keep.object p own) keep.honest (ties.objects p x own h);
  asks = λ p own. ties.asks p own ∙ ap (λ w. taken_at b p + moves w) (sym (keep.cell p own));
  drops = λ p own. ties.drops p own ∙ ap (λ w. retired_at b p + drops w) (sym (keep.cell p own));
  hots = λ p own. ties.hots p own ∙ ap (λ w. cooled_at b p + hots w) (sym (keep.cell p own));
  soils = λ p own. ties.soils p own ∙ ap (λ w. cleaned_at b p + dirts w) (sym (keep.cell p own));
  warm = λ p own pinned. let x = ties.warm p own pinned in (x.0, ap hots (keep.cell p own) ∙ x.1);
}

-- the ties of the owner itself, where no object of it changes, and no count but of HOT and DIRTY
pub mine_on : (b : BookView) (s t : State) (m : ℕ) (o w : OwnerView) → OwnerTies b s m o → w.number ≡ o.number → w.honest ≡ o.honest → w.logs ≡ o.logs → t.honest ≡ s.honest →
    t.scope m ≡ scope_word_of w.open_at → object_at w ≡ object_at o → asked_at w ≡ asked_at o → dropped_at w ≡ dropped_at o → (world_of t).object ≡ (world_of s).object →
    ((p : ℕ) → (moves (t.cell p) ≡ moves (s.cell p)) × (drops (t.cell p) ≡ drops (s.cell p))) → ((p : ℕ) → p / CELLS ≡ m → heated_at w p ≡ cooled_at b p + hots (t.cell p)) →
    ((p : ℕ) → p / CELLS ≡ m → dirtied_at w p + stained_at b p ≡ cleaned_at b p + dirts (t.cell p)) →
    ((p : ℕ) → p / CELLS ≡ m → pinned_at w p ≡ true → IsSome (held_at w p) × (hots (t.cell p) ≡ 1)) → OwnerTies b t m w
mine_on b s t m o w ties number honest logs same scope objects asked dropped world marks heats soils warm = record {
  number = number ∙ ties.number;
  honest = honest ∙ (ties.honest ∙ sym same);
  logs = logs ∙ ties.logs;
  scope = scope;
  objects = λ p x own h. has_on s t p x (ap (λ f. f p) world) same (ties.objects p x own (sym (ap (λ f. f p) objects) ∙ h));
  asks = λ p own. ap (λ f. f p) asked ∙ (ties.asks p own ∙ ap (λ n. taken_at b p + n) (sym (marks p).0));
  drops = λ p own. ap (λ f. f p) dropped ∙ (ties.drops p own ∙ ap (λ n. retired_at b p + n) (sym (marks p).1));
  hots = heats;
  soils = soils;
  warm = warm;
}

-- what is held by a pin has HOT, in each state beside the view
pub pinned_hot : (o : OwnerView) (x : State) (p : ℕ) → OwnerMayBe o x → p / CELLS ≡ o.number → pinned_at o p ≡ true → hots (x.cell p) ≡ 1
pinned_hot o x p may own pinned = ap (λ (s : State). hots (s.cell p)) may.is ∙ ((may.facts.owners o.number o may.stands).warm p own pinned).1

-- what is soiled has DIRTY there
pub soiled_dirty : (o : OwnerView) (x : State) (p : ℕ) → OwnerMayBe o x → p / CELLS ≡ o.number → soiled_at o p ≡ true → is_dirty (read_of (x.cell p)) ≡ true
soiled_dirty o x p may own soiled = ap (λ (s : State). is_dirty (read_of (s.cell p))) may.is
    ∙ may.facts.law.soils.soiled_dirty p (known_by may.others.owners o.number o o may.stands soiled_at p own ∙ soiled)

module _ (ws : List ℕ) (b : BookView) (os : OtherViews) (f : Facts ws b os) where
  pub is_mutator : (m : ℕ) (o : OwnerView) → get_elem? os.owners m ≡ some o → m < b.mutators
  is_mutator m o at = subst (λ n. m < n) f.many (below os.owners m o at)

-- what a kind of step owes: its event is legal, with this answer; the words and views after are the core's state; and the owner's own ties
pub record OwnStep (ws : List ℕ) (b : BookView) (os : OtherViews) (o : OwnerView) (e : Event) (r : Reply) (later : List ℕ) (w : OwnerView) : Type 0 where
  pub legal : Legal (state_of ws b os) e
  pub says : r ≡ answer (state_of ws b os) e
  pub becomes : Leads (after (state_of ws b os) e) later b (with_owner os o.number w)
  pub mine : OwnerTies b (after (state_of ws b os) e) o.number w

module _ (ws : List ℕ) (b : BookView) (os : OtherViews) (f : Facts ws b os) (o : OwnerView) (at : get_elem? os.owners o.number ≡ some o)
    (e : Event) (by : maker e ≡ ByOwner o.number) (fits : Fits e) (r : Reply) (later : List ℕ) (w : OwnerView) (k : OwnStep ws b os o e r later w) where
  abbrev s : State
  s = state_of ws b os

  abbrev t : State
  t = after s e

  others : (j : ℕ) → j ≢ o.number → KeepsOwner s t j
  others = subst (λ k. KeepsBy k s t) by (keeps_others s e f.law fits k.legal)

  each : (j : ℕ) (y : OwnerView) → get_elem? (set os.owners o.number w) j ≡ some y → OwnerTies b t j y
  each j y h = ⊎_elim
      (λ (x : (j ≡ o.number) × (w ≡ y)). subst (λ (z : ℕ × OwnerView). OwnerTies b t z.0 z.1) (λ i. (sym x.0 i, x.1 i)) k.mine)
      (λ (x : (j ≢ o.number) × (get_elem? os.owners j ≡ some y)). owner_on b s t j y (others j x.0) (f.owners j y x.1))
      (at_set os.owners o.number j w y h)

  law : Law (state_of later b (with_owner os o.number w))
  law = subst Law k.becomes.is (keeps s e f.law fits k.legal)

  pub own_facts : Facts later b (with_owner os o.number w)
  own_facts = record {
    law = law;
    agrees = agrees _ law;
    book = subst (BookTies b) k.becomes.is (book_on b s t f.law f.book (change s e f.law (ap is_other by) k.legal));
    owners = λ j y h. subst (λ (z : State). OwnerTies b z j y) k.becomes.is (each j y h);
    copiers = f.copiers;
    copier_logs = f.copier_logs;
    many = length-set os.owners o.number w ∙ f.many;
    eight = f.eight;
    wide = k.becomes.wide;
  }

  pub own_made : OwnerMade e o r w
  own_made = record {
    words = ws;
    book = b;
    others = os;
    facts = f;
    stands = at;
    legal = k.legal;
    says = k.says;
    later = later;
    becomes = k.becomes.is;
    keeps = own_facts;
  }
