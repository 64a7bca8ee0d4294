-- A round that a turn found waiting, and left waiting, stays so.
use Rattle.std.proofs.Common.{◌≡◌, ℕ, zero, suc, ◌+◌, ◌-◌, ◌<◌, Bool, true, false, cond, Option, Some, None, arith, ap, sym, refl, ◌∙◌}
use Rattle.std.proofs.lemmas.Bool.{cond_both, false≢true, true≢false}
use Rattle.far_evac.specs.declared.answers.RoundEnd.TheVariants.{Limit}
use Rattle.far_evac.specs.declared.phase.Phase.{Phase}
use Rattle.far_evac.specs.declared.phase.Phase.TheVariants.{Idle, Waiting, Evacuating}
use Rattle.far_evac.specs.Laws.{WaitingStays}
use Rattle.far_evac.specs.Moment.{Moment, Tally}
use Rattle.far_evac.specs.MomentLaw.{is_idle, is_waiting}
use Rattle.far_evac.specs.Turning.{turned_at}
use Rattle.far_evac.specs.Turns.{Turned, round_end, turn_size, turned, turns_made}
use Rattle.far_evac.specs.Waiting.{after_polling, first_open, polled_to}
use Rattle.far_evac.specs.Walk.{walked}
use Rattle.far_evac.proofs.Polls.{poll_again}

-- where the round is over none is running
turned_idle : (r : Turned) → r.over ≡ false → (phase : Phase) → (turned r phase).over ≡ true → is_idle (turned r phase).moment.phase ≡ true
turned_idle r goes Evacuating over = let w = walked r.moment turn_size in ap (λ b. is_idle (cond b (record w.moment { phase = Idle }) w.moment).phase) over
turned_idle r goes _ over = absurd (false≢true (sym goes ∙ over))

over_idle : (m : Moment) (n : ℕ) → (turns_made m n).over ≡ true → is_idle (turns_made m n).moment.phase ≡ true
over_idle m zero = λ over. absurd (false≢true over)
over_idle m (suc n) = let r = turns_made m n in
    cond_both r.over r (turned r r.moment.phase) (λ (x : Turned). x.over ≡ true → is_idle x.moment.phase ≡ true) (λ _. over_idle m n) (λ goes. turned_idle r goes r.moment.phase)

not_over : (over : Bool) (phase : Phase) → phase ≡ Waiting → (over ≡ true → is_idle phase ≡ true) → over ≡ false
not_over false phase e idle = refl
not_over true phase e idle = absurd (true≢false (sym (idle refl) ∙ ap is_idle e))

-- a poll that leaves the round waiting is made once
same_poll : (m : Moment) (o : Option ℕ) → first_open m.core ≡ o → (polled_to m o).phase ≡ Waiting → after_polling (after_polling m) ≡ after_polling m
same_poll m None e waits = absurd cc
same_poll m (Some k) e waits = (poll_again m k e).1

module _ (m : Moment) (n : ℕ) (before : (turns_made m n).moment.phase ≡ Waiting) (after : (turns_made m (n + 1)).moment.phase ≡ Waiting) where
  abbrev r : Turned
  r = turns_made m n

  abbrev next : Turned → Turned
  next x = cond x.over x (turned x x.moment.phase)

  abbrev polls : Turned → Turned
  polls x = record x { moment = after_polling x.moment }

  waits_on : (x : Turned) → x.over ≡ false → x.moment.phase ≡ Waiting → next x ≡ polls x
  waits_on x goes e = ap (λ b. cond b x (turned x x.moment.phase)) goes ∙ ap (turned x) e

  one_more : turns_made m (n + 1) ≡ polls r
  one_more = let more : n + 1 ≡ suc n = omega arith in ap (turns_made m) more ∙ waits_on r (not_over r.over r.moment.phase before (over_idle m n)) before

  again : polls (turns_made m (n + 1)) ≡ turns_made m (n + 1)
  again = ap polls one_more ∙ ap (λ t. record r { moment = t }) (same_poll r.moment (first_open r.moment.core) refl (sym (ap (λ (x : Turned). x.moment.phase) one_more) ∙ after)) ∙ sym one_more

  goes_on : (turns_made m (n + 1)).over ≡ false
  goes_on = not_over (turns_made m (n + 1)).over (turns_made m (n + 1)).moment.phase after (over_idle m (n + 1))

  stays : (k : ℕ) → turns_made m (n + 1 + k) ≡ turns_made m (n + 1)
  stays zero = let none : n + 1 + 0 ≡ n + 1 = omega arith in ap (turns_made m) none
  stays (suc k) = let more : n + 1 + suc k ≡ suc (n + 1 + k) = omega arith in
      ap (turns_made m) more ∙ ap next (stays k) ∙ waits_on (turns_made m (n + 1)) goes_on after ∙ again

pub waiting_stays : WaitingStays
waiting_stays m n k before after = (stays m n before after k, goes_on m n before after)

pub waiting_of : (phase : Phase) → is_waiting phase ≡ true → phase ≡ Waiting
waiting_of Waiting h = refl
waiting_of _ h = absurd (false≢true h)

-- so it stands after as many turns as one likes
pub turns_wait : (m : Moment) (n turns : ℕ) (u t : Moment) (before total : Tally) → n < turns → turns_made m n ≡ turned_at u before false → turns_made m (n + 1) ≡ turned_at t total false → is_waiting u.phase ≡ true → is_waiting t.phase ≡ true →
    (Limit Waiting ≡ round_end (turns_made m turns)) × (t ≡ (turns_made m turns).moment)
turns_wait m n turns u t before total within then now waited waits =
    let all : n + 1 + (turns - (n + 1)) ≡ turns = omega (arith, within) in
    let stays = waiting_stays m n (turns - (n + 1)) (ap (λ (r : Turned). r.moment.phase) then ∙ waiting_of u.phase waited) (ap (λ (r : Turned). r.moment.phase) now ∙ waiting_of t.phase waits) in
    let is : turns_made m turns ≡ turned_at t total false = ap (turns_made m) (sym all) ∙ stays.0 ∙ now in
    (sym (ap round_end is ∙ ap Limit (waiting_of t.phase waits)), sym (ap (λ (r : Turned). r.moment) is))
