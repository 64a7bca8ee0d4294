-- That the laws of a core and of a moment make a walk ready, and that the steps of a round are far_core's events.
use Rattle.std.proofs.Common.{◌≡◌, ◌≢◌, ℕ, zero, suc, ◌*◌, ◌/◌, ◌%◌, ◌<◌, Bool, true, false, cond, not, ◌||◌, ◌&&◌, ◌==◌, eqb, nat_lt, nat_le, Option, Some, None, List, [], ◌∷◌, arith, ap, sym, refl, ◌∙◌}
use Rattle.std.specs.Prelude.{IsSome}
use Rattle.std.specs.List.{AllByRecursion, list_any}
use Rattle.std.proofs.lemmas.Bool.{cond_both, eq-eqb, true≢false, false≢true}
use Rattle.std.proofs.lemmas.Bool.Decides.{nat_tests}
use mathlib.Core.Path.{fun_ext}
use Rattle.far_word.specs.declared.pointer.PtrWord.TheVariants.{Near}
use Rattle.far_word.specs.declared.scope.ScopeWord.TheVariants as scoped
use Rattle.far_word.specs.declared.sizes.TheConstants.{EPOCH_END}
use Rattle.far_word.specs.Scope.{scope_of}
use Rattle.far_word.proofs.PointerLaws.{read_says}
use Rattle.far_events.specs.declared.event.Event.TheVariants.{Advance, Look}
use Rattle.far_events.specs.declared.event.Kind.{Kind}
use Rattle.far_events.specs.declared.event.Kind.TheVariants as kinds
use Rattle.far_events.specs.events.Advance.{is_among}
use Rattle.far_events.specs.events.Look.{shows_clear}
use Rattle.far_events.specs.events.Step.{after}
use Rattle.far_events.specs.state.Law.{Law}
use Rattle.far_events.specs.state.State.{State}
use Rattle.far_events.proofs.Put.{put_both}
use Rattle.far_book.specs.book.Own.{own_part}
use Rattle.far_evac.specs.Laws.{looks}
use Rattle.far_evac.specs.Moment.{Moment}
use Rattle.far_evac.specs.MomentLaw.{MomentLaw, has_risen}
use Rattle.far_evac.specs.Ready.{IsOfRound, Ready}
use Rattle.far_evac.specs.RoundSteps.{advanced, among, is_clear_now, with_clear_below}
use Rattle.far_evac.specs.Waiting.{holds_up}
use Rattle.far_evac.proofs.Bools.{or_left, or_right}

-- ---- ready
each_among : (P : ℕ → Type 0) (ls : List ℕ) → ((l : ℕ) → among ls l ≡ true → P l) → AllByRecursion P ls
each_among P [] h = tt
each_among P (l ∷ ls) h =
    (h l (or_left (eqb l l) (list_any (eqb l) ls) (eq-eqb l l refl)), each_among P ls (λ k member. h k (or_right (eqb k l) (list_any (eqb k) ls) member)))

not_free : (kind : Kind) → kind ≡ kinds.Open → kind ≢ kinds.Free
not_free kind open_log free = absurd cc

pub risen_is_ready : (m : Moment) → Law (own_part m.core) → MomentLaw m → has_risen m.phase ≡ true → Ready m.core m.collection
risen_is_ready m law moment risen = record {
  layout = λ p len ds place marks near. (read_says (m.core.cell p) (Near len ds place marks) (law.cells.cell_read p).0 near).0;
  short = law.logs.tail_end;
  opens = law.logs.is_open;
  current = law.logs.log_range m.core.current (not_free (m.core.kind m.core.current) law.logs.is_open);
  few = law.shape.few_logs;
  logs = each_among (IsOfRound m.core) m.collection (λ l member. (
    moment.sealed l member,
    λ p len ds place marks near is. law.rounds.round_evac p len ds place marks near (ap m.core.round is ∙ moment.round risen l member),
    moment.round risen l member,
  ));
  once = moment.collection_once;
}

-- ---- the steps of a round are events
pub round_is_event : (s : State) (logs : List ℕ) (bits : ℕ) → ((l : ℕ) → is_among bits l ≡ among logs l) → advanced s logs ≡ after s (Advance bits)
round_is_event s logs bits same = λ i. record (advanced s logs) { round = (fun_ext (λ l. sym (same l))) i }

-- what a scope word says, and what is read of it as a number
module _ (epoch w : ℕ) where
  abbrev as_number : Bool
  as_number = (w == 0) || nat_le epoch (w / 2)

  pub shown : IsSome (scope_of w) → as_number ≡ shows_clear epoch (scope_of w)
  unfolding scope_of
  shown = cond_both (w == 0) (Some scoped.Closed) (cond ((w % 2 == 1) && nat_lt w (2 * EPOCH_END)) (Some (scoped.Open (w / 2))) None)
      (λ (o : Option _). IsSome o → as_number ≡ shows_clear epoch o)
      (λ zero_word _. ap (λ b. b || nat_le epoch (w / 2)) zero_word)
      (λ other. cond_both ((w % 2 == 1) && nat_lt w (2 * EPOCH_END)) (Some (scoped.Open (w / 2))) None (λ (o : Option _). IsSome o → as_number ≡ shows_clear epoch o)
      (λ _ _. ap (λ b. b || nat_le epoch (w / 2)) other)
      (λ _ none. absurd (false≢true none)))

pub clear_is_shown : (s : State) (m : ℕ) → IsSome (scope_of (s.scope m)) → is_clear_now s m ≡ shows_clear s.round_epoch (scope_of (s.scope m))
clear_is_shown s m layout = shown s.round_epoch (s.scope m) layout

pub clear_one : (clear now : Bool) → not (clear || now) ≡ false → (clear || now) ≡ true
clear_one false false h = absurd (true≢false h)
clear_one _ _ h = refl

or_lt : (clear : Bool) (q k : ℕ) → q ≢ k → (clear || nat_lt q k) ≡ (clear || nat_lt q (suc k))
or_lt true q k other = refl
or_lt false q k other = grind (arith, nat_tests, other)

none_below : (clear : Bool) (q : ℕ) → clear ≡ (clear || nat_lt q 0)
none_below true q = refl
none_below false q = grind (arith, nat_tests)

last_below : (clear : Bool) (k : ℕ) → (clear || nat_lt k (suc k)) ≡ true
last_below true k = refl
last_below false k = grind (arith, nat_tests)

all_or : (a b now : Bool) → (a || now) ≡ true → ((a || b) || now) ≡ true
all_or false false now h = h
all_or _ _ now h = refl

module _ (s : State) (layout : (m : ℕ) → IsSome (scope_of (s.scope m))) where
  pub looks_see : (k : ℕ) → ((m : ℕ) → m < k → holds_up s m ≡ false) → looks s k ≡ with_clear_below s k
  looks_see zero each = λ i. record s { clear = (fun_ext (λ q. none_below (s.clear q) q)) i }
  looks_see (suc k) each =
      let before = looks_see k (λ m lt. each m (omega (arith, lt))) in
      let now : (s.clear k || is_clear_now s k) ≡ true = clear_one (s.clear k) (is_clear_now s k) (each k (omega arith)) in
      let seen : ((s.clear k || nat_lt k k) || shows_clear s.round_epoch (scope_of (s.scope k))) ≡ true =
      ap (λ b. (s.clear k || nat_lt k k) || b) (sym (clear_is_shown s k (layout k))) ∙ all_or (s.clear k) (nat_lt k k) (is_clear_now s k) now in
      ap (λ t. after t (Look k)) before
      ∙ (λ i. record s {
        clear = (fun_ext (λ q.
            put_both (λ b. b ≡ (s.clear q || nat_lt q (suc k))) (λ m. s.clear m || nat_lt m k) k ((s.clear k || nat_lt k k) || shows_clear s.round_epoch (scope_of (s.scope k))) q
            (λ e. seen ∙ sym (ap (λ x. s.clear x || nat_lt x (suc k)) e ∙ last_below (s.clear k) k)) (λ ne. or_lt (s.clear q) q k ne))) i;
      })

pub looks_see_clear : (s : State) → ((m : ℕ) → IsSome (scope_of (s.scope m))) → (k : ℕ) → ((m : ℕ) → m < k → holds_up s m ≡ false) → looks s k ≡ with_clear_below s k
looks_see_clear s layout k each = looks_see s layout k each
