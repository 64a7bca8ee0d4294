-- One turn more: its chain over any hand with what was asked, and the function where no word changes.
use Rattle.std.proofs.Common.{◌≡◌, ◌≢◌, ℕ, zero, suc, ◌+◌, ◌-◌, ◌<◌, ◌≤◌, Bool, true, false, cond, Option, List, [], ◌∷◌, length, arith, ap, sym, refl, ◌∙◌, subst}
use Rattle.far_evac.proofs.LiveOnce.{one_more}
use Rattle.std.proofs.lemmas.Bool.{false≢true, true≢false}
use Rattle.std.specs.Prelude.{Result}
use Rattle.far_word.specs.declared.refused.Refused.{Refused}
use Rattle.far_device.specs.declared.fault.DeviceFault.{DeviceFault}
use Rattle.far_evac.specs.declared.answers.Progress.{Progress}
use Rattle.far_evac.specs.declared.answers.RoundEnd.TheVariants.{Done, Limit}
use Rattle.far_evac.specs.declared.phase.Phase.{Phase}
use Rattle.far_evac.specs.declared.phase.Phase.TheVariants.{Evacuating, Idle, Marking, Waiting}
use Rattle.far_evac.specs.AnyTurns.{AsksInTurn, TurnsMade, TurnsTo, sum_of}
use Rattle.far_evac.specs.Asked.{KeepsKeys, first_live}
use Rattle.far_evac.specs.ByCopying.{RefusesBy, StopsBy}
use Rattle.far_evac.specs.Moment.{Moment, Tally, nothing, objects_in, plus, progress_of}
use Rattle.far_evac.specs.MomentLaw.{IsLawful, is_idle}
use Rattle.far_evac.specs.RoundAsked.{EndsAsking, StopsAsking, TurnsAsking}
use Rattle.far_evac.specs.Turning.{turned_at}
use Rattle.far_evac.specs.Turns.{Turned, begun_turns, turn_size, turned, turns_made}
use Rattle.far_evac.proofs.RoundKeys.{LeftOf, keeps_left, keys_on, keys_stop}
use Rattle.far_evac.proofs.TurnSteps.{Alone, turn_kept}

pub not_idle : (phase : Phase) → is_idle phase ≡ false → phase ≢ Idle
not_idle phase runs e = true≢false (sym (ap is_idle e) ∙ runs)

-- ---- exactly
none_before : (n : ℕ) → 0 + n ≡ n
none_before n = omega arith

-- where a turn leads doesn't hang on what was done before
turned_moment : (u : Moment) (total : Tally) (phase : Phase) → (turned (turned_at u total false) phase).moment ≡ (turned (begun_turns u) phase).moment
turned_moment u total Idle = refl
turned_moment u total Marking = refl
turned_moment u total Waiting = refl
turned_moment u total Evacuating = refl

pub leads_exactly : (u v : Moment) (total after : Tally) (over : Bool) → turned (turned_at u total false) u.phase ≡ turned_at v after over → v ≡ (turned (begun_turns u) u.phase).moment
leads_exactly u v total after over e = sym (ap (λ (r : Turned). r.moment) e) ∙ turned_moment u total u.phase

abbrev next_turn : Turned → Turned
next_turn r = cond r.over r (turned r r.moment.phase)

module _ (m : Moment) (n : ℕ) where
  pub turns_more : (u : Moment) (total : Tally) (r : Turned) → turns_made m n ≡ turned_at u total false → turned (turned_at u total false) u.phase ≡ r → turns_made m (n + 1) ≡ r
  turns_more u total r before e = ap (turns_made m) (sym (one_more n)) ∙ ap next_turn before ∙ e

  stays_over : (d : ℕ) → (turns_made m n).over ≡ true → turns_made m (d + n) ≡ turns_made m n
  stays_over zero over = ap (turns_made m) (none_before n)
  stays_over (suc d) over =
      let more : suc d + n ≡ suc (d + n) = omega arith in
      ap (turns_made m) more ∙ ap next_turn (stays_over d over) ∙ ap (λ b. cond b (turns_made m n) (turned (turns_made m n) (turns_made m n).moment.phase)) over

  pub turns_over : (turns : ℕ) (t : Moment) (total : Tally) → n ≤ turns → turns_made m n ≡ turned_at t total true → turns_made m turns ≡ turned_at t total true
  turns_over turns t total within e =
      let all : (turns - n) + n ≡ turns = omega (arith, within) in
      ap (turns_made m) (sym all) ∙ stays_over (turns - n) (ap (λ (r : Turned). r.over) e) ∙ e

-- ---- over any hand, and any device
pub record Made (still : Type 0) (D : Type 0) (writes : D → ℕ → List ℕ → Result (Unit {0}) DeviceFault → D → Type 0) (lets_go : D → ℕ → D → Type 0) (contents : D → ℕ → Option (List ℕ)) (m t : Moment) (n : ℕ) (total : Tally) (old new : D) : Type 0 where
  pub tallies : List Tally
  pub made : TurnsMade m tallies false t
  pub asked : TurnsAsking still D writes lets_go contents m tallies false t old new
  pub many : length tallies ≡ n
  pub sum : sum_of tallies ≡ total
  -- where no copy may be offered
  pub left : m.copying ≡ false → Alone (LeftOf m) t total
  pub keys : m.copying ≡ false → KeepsKeys (first_live m (objects_in total)) (contents old) (contents new)

module _ {still : Type 0} {D : Type 0} {writes : D → ℕ → List ℕ → Result (Unit {0}) DeviceFault → D → Type 0} {lets_go : D → ℕ → D → Type 0} {contents : D → ℕ → Option (List ℕ)} {m : Moment} where
  pub none_made : (device : D) → Made still D writes lets_go contents m m 0 nothing device device
  none_made device = record { tallies = []; made = (refl, refl, refl); asked = (refl, refl, refl); many = refl; sum = refl; left = λ alone. (alone, refl); keys = λ alone p none. refl }

  module _ {u : Moment} {n : ℕ} {before : Tally} {old between : D} (h : Made still D writes lets_go contents m u n before old between) where
    -- no turn more
    pub asked_limit : (turns : ℕ) (alone : Bool) (phase : Phase) → n ≤ turns → (alone ≡ false → n ≡ turns) → phase ≡ u.phase → EndsAsking still D writes lets_go contents m turns alone (Limit phase) u old between
    asked_limit turns alone phase within all is = (
      h.tallies,
      false,
      h.made,
      h.asked,
      omega (arith, h.many, within),
      ap Limit is,
      λ e. (h.many ∙ all e, ap Limit is),
      λ single. subst (λ (a : Tally). KeepsKeys (first_live m (objects_in a)) (contents old) (contents between)) (sym h.sum) (h.keys single),
    )

    -- one turn more
    module _ (lawful : IsLawful u) (t : Moment) (tally total : Tally) (new : D) (is : total ≡ plus before tally) (asks : AsksInTurn still D writes lets_go contents u u.phase t tally between new)
        (keys : u.copying ≡ false → KeepsKeys (first_live u (objects_in tally)) (contents between) (contents new)) (exact : still → t ≡ (turned (begun_turns u) u.phase).moment) where
      keys_then : m.copying ≡ false → KeepsKeys (first_live m (objects_in (plus before tally))) (contents old) (contents new)
      keys_then single = let (alone, left) = h.left single in keys_on m u before left (contents old) (contents between) (contents new) (h.keys single) tally (keys alone)

      pub made_more : (over : Bool) → over ≡ false → TurnsTo u u.phase tally over t → Made still D writes lets_go contents m t (n + 1) total old new
      made_more true odd turns = absurd (true≢false odd)
      made_more false is_not turns = record {
        tallies = tally ∷ h.tallies;
        made = (u, tt, h.made, turns, tt, lawful);
        asked = (u, between, h.asked, turns, (asks, exact), lawful);
        many = omega (arith, h.many);
        sum = ap (λ a. plus a tally) h.sum ∙ sym is;
        left = λ single. subst (Alone (LeftOf m) t) (sym is) (turn_kept (Alone (LeftOf m)) (keeps_left m) u t lawful before (h.left single) tally false turns);
        keys = λ single. subst (λ (a : Tally). KeepsKeys (first_live m (objects_in a)) (contents old) (contents new)) (sym is) (keys_then single);
      }

      -- the last one
      pub asked_done : (turns : ℕ) (alone over : Bool) → over ≡ true → n < turns → TurnsTo u u.phase tally over t → EndsAsking still D writes lets_go contents m turns alone (Done (progress_of total over)) t old new
      asked_done turns alone false odd within last = absurd (false≢true odd)
      asked_done turns alone true done within last =
          let sums : total ≡ plus (sum_of h.tallies) tally = is ∙ ap (λ a. plus a tally) (sym h.sum) in
          let tells = ap (λ a. Done (progress_of a true)) sums in (
            tally ∷ h.tallies,
            true,
            (u, tt, h.made, last, tt, lawful),
            (u, between, h.asked, last, (asks, exact), lawful),
            omega (arith, h.many, within),
            tells,
            λ _. tells,
            λ single. subst (λ (a : Tally). KeepsKeys (first_live m (objects_in (plus a tally))) (contents old) (contents new)) (sym h.sum) (keys_then single),
          )

    -- one that stopped
    pub asked_stop : IsLawful u → (t : Moment) (tally : Tally) (turns : ℕ) (so_far : Progress) (why : Refused) (new : D) → n < turns → u.phase ≡ Evacuating → StopsBy u turn_size t tally →
        RefusesBy still D writes lets_go contents u turn_size t tally why between new → so_far ≡ progress_of (plus before tally) false →
        (u.copying ≡ false → KeepsKeys (first_live u (objects_in tally + 1)) (contents between) (contents new)) → StopsAsking still D writes lets_go contents m turns so_far why t old new
    asked_stop lawful t tally turns so_far why new within leaves stops refused is keys = (
      h.tallies,
      u,
      between,
      tally,
      h.made,
      h.asked,
      omega (arith, h.many, within),
      leaves,
      stops,
      refused,
      is ∙ ap (λ a. progress_of (plus a tally) false) (sym h.sum),
      lawful,
      λ single. subst (λ (a : Tally). KeepsKeys (first_live m (objects_in (plus a tally) + 1)) (contents old) (contents new)) (sym h.sum)
          (let (alone, left) = h.left single in keys_stop m u before left (contents old) (contents between) (contents new) (h.keys single) tally (keys alone)),
    )
