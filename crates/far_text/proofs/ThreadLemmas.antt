-- Which commands have threads, as they are spelled and as they are kept.
use Rattle.std.proofs.Common.{◌≡◌, ℕ, Bool, true, false, cond, Option, Some, None, sym, ◌∙◌, ap, refl, nat_lt, nat_le, ◌&&◌}
use Rattle.std.proofs.lemmas.Bool.{cond_both}
use Rattle.std.specs.Option.{option_map, option_and_then}
use Rattle.std.proofs.lemmas.Option.{none-some, same_Some}
use Rattle.far_text.specs.Command.{Command, Mutator, Book, Evacuator, Request, On, Writes, Step, Select, Round, as_command, as_request, as_inquiry, as_step, as_policy}
use Rattle.far_text.specs.Spelled.{command_spelled, request_spelled, step_spelled, choice_spelled}
use Rattle.far_text.specs.Grammar.{bytes_in, limited}
use Rattle.far_text.specs.Split.{threaded}
use Rattle.far_text.specs.Threads.{has_thread, is_own, is_round}
use Rattle.far_text.specs.declared.command.TheConstants.{MOST_CHOSEN}
use Rattle.far_text.specs.declared.command.Command.{Command as SpelledCommand}
use Rattle.far_text.specs.declared.command.Command.TheVariants.{Mutator as SpelledMutator, Book as SpelledBook, Evacuator as SpelledEvacuator}
use Rattle.far_text.specs.declared.command.Request.{Request as SpelledRequest}
use Rattle.far_text.specs.declared.command.Request.TheVariants.{Write as SpelledWrite}
use Rattle.far_text.specs.declared.command.Step.{Step as SpelledStep}
use Rattle.far_text.specs.declared.command.Step.TheVariants.{Select as SpelledSelect, Round as SpelledRound}

-- what is made of a value is made of one
mapped : {A B : Type 0} (f : A → B) (o : Option A) (y : B) → option_map f o ≡ Some y → (x : A) × (o ≡ Some x) × (f x ≡ y)
mapped f None y e = absurd (none-some y e)
mapped f (Some x) y e = (x, refl, same_Some (f x) y e)

limited_some : (most : ℕ) (o : Option Step) (step : Step) → limited most o ≡ Some step → o ≡ Some step
limited_some most o step = cond_both (nat_le most MOST_CHOSEN) o None (λ (x : Option Step). x ≡ Some step → o ≡ Some step) (λ _ e. e) (λ _ e. absurd (none-some step e))

-- what is kept of a request is as much a mutator's own
request_kept : (s : SpelledRequest) (request : Request) → request_spelled s ≡ Some request → is_own request ≡ is_own (as_request s)
request_kept (SpelledWrite pointer from word) request e = ap is_own (sym (mapped (λ bytes. On pointer (Writes from bytes)) (bytes_in word.now) request e).2)
request_kept s request e = ap is_own (sym (same_Some (as_request s) request e))

-- and of a step as much a round
step_kept : (s : SpelledStep) (step : Step) → step_spelled s ≡ Some step → is_round step ≡ is_round (as_step s)
step_kept (SpelledSelect choice most) step e =
    ap is_round (sym (mapped (λ choice. Select choice most) (choice_spelled choice) step (limited_some most (option_map (λ choice. Select choice most) (choice_spelled choice)) step e)).2)
step_kept (SpelledRound policy most turns) step e =
    let round = Round (as_policy policy) most turns in
    ap is_round (sym (same_Some round step (limited_some most (Some round) step e)))
step_kept s step e = ap is_round (sym (same_Some (as_step s) step e))

command_kept : (mutators : ℕ) (s : SpelledCommand) (c : Command) → command_spelled s ≡ Some c → has_thread mutators c ≡ has_thread mutators (as_command s)
command_kept mutators (SpelledMutator m request) c e =
    let x = mapped (Mutator m) (request_spelled request) c e in
    ap (has_thread mutators) (sym x.2) ∙ ap (λ b. b && nat_lt m mutators) (request_kept request x.0 x.1)
command_kept mutators (SpelledBook inquiry) c e = ap (has_thread mutators) (sym (same_Some (Book (as_inquiry inquiry)) c e))
command_kept mutators (SpelledEvacuator step) c e =
    let x = mapped Evacuator (step_spelled step) c e in
    ap (has_thread mutators) (sym x.2) ∙ step_kept step x.0 x.1

-- a command that is kept, if it is, and has a thread
alike : (mutators : ℕ) (b : Bool) (o : Option Command) → ((c : Command) → o ≡ Some c → has_thread mutators c ≡ b) → option_and_then (threaded mutators) o ≡ cond b o None
alike mutators true None same = refl
alike mutators false None same = refl
alike mutators b (Some c) same = ap (λ t. cond t (Some c) None) (same c refl)

pub threaded_spelled : (mutators : ℕ) (s : SpelledCommand) → option_and_then (threaded mutators) (command_spelled s) ≡ cond (has_thread mutators (as_command s)) (command_spelled s) None
threaded_spelled mutators s = alike mutators (has_thread mutators (as_command s)) (command_spelled s) (command_kept mutators s)
