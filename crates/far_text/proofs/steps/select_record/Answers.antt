use Rattle.std.proofs.Common.{◌≡◌, ◌∙◌, ℕ, List, Option, Some, None, IfOk, if◌then◌else◌, nat_le, true, sym, ap, subst}
use Rattle.std.specs.Option.{option_map}
use Rattle.far_text.specs.Command.{Script, Select}
use Rattle.far_text.specs.Cursor.{words_in}
use Rattle.far_text.specs.Grammar.{limited, logs_of}
use Rattle.far_text.specs.Records.{step_in}
use Rattle.far_text.specs.Spelled.{choice_spelled}
use Rattle.far_text.specs.declared.command.TheConstants.{MOST_CHOSEN}
use Rattle.far_text.proofs.steps.select_record.Goals as goal

-- a script of few logs isn't too long
few_chosen : (most : ℕ) (logs : Option (List ℕ)) → nat_le most MOST_CHOSEN ≡ true → option_map (λ logs. Select (Script logs) most) logs ≡ limited most (option_map (λ choice. Select choice most) (option_map Script logs))
few_chosen most None few = ap (λ b. if b then None else None) (sym few)
few_chosen most (Some logs) few = ap (λ b. if b then Some (Select (Script logs) most) else None) (sym few)

pub returns-in-Script-clause-value : goal.returns-in-Script-clause-value
returns-in-Script-clause-value c =
    let most = c.args.most in
    let few = few_chosen most (logs_of (words_in c.in-Script.words.now)) (sym c.may_choose.ensures ∙ c.if-not-may_choose.false) in
    let spelled = ap (λ choice. limited most (option_map (λ logs. Select logs most) (choice_spelled choice))) c.in-Script.is in
    subst (λ z. IfOk c.script_record.result (λ found. option_map (step_in c.script_record.new.bytes) found ≡ z)) (few ∙ sym spelled) c.script_record.ensures.value
