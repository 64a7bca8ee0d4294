use Rattle.std.proofs.Common.{◌≡◌, ◌∙◌, Bool, ap, sym}
use Rattle.far_events.specs.declared.event.Event.{Event}
use Rattle.far_events.specs.declared.event.Event.TheVariants.{Open, Load, Store, Adopt, Ask, Get, Put, Mark, Clear, Advance, Offer, Claim, ReadLength, Read, Write, Finish, Collect}
use Rattle.far_events.specs.events.Step.{is_legal}
use Rattle.far_events.specs.state.State.{State}
use Rattle.far_events.proofs.memory.Memory.allows.Goals as goal

-- A row an event. `search` finds each in a tenth of a second: a new event needs none, nor do those whose tests wrong edits change or call.

-- what a test ensures of the event that it is of, of the event that is given
legal_by : (s : State) (b : Bool) (e made : Event) → e ≡ made → b ≡ is_legal s made → b ≡ is_legal s e
legal_by s b e made is test = test ∙ ap (is_legal s) (sym is)

pub returns-in-Open-clause-legal : goal.returns-in-Open-clause-legal
returns-in-Open-clause-legal c = legal_by _ _ _ (Open c.in-Open.owner) c.in-Open.is c.may_open.ensures

pub returns-in-Load-clause-legal : goal.returns-in-Load-clause-legal
returns-in-Load-clause-legal c = legal_by _ _ _ (Load c.in-Load.owner c.in-Load.pointer c.in-Load.index) c.in-Load.is c.may_load.ensures

pub returns-in-Store-clause-legal : goal.returns-in-Store-clause-legal
returns-in-Store-clause-legal c = legal_by _ _ _ (Store c.in-Store.owner c.in-Store.pointer c.in-Store.index c.in-Store.word) c.in-Store.is c.may_store.ensures

pub returns-in-Adopt-clause-legal : goal.returns-in-Adopt-clause-legal
returns-in-Adopt-clause-legal c = legal_by _ _ _ (Adopt c.in-Adopt.owner c.in-Adopt.pointer) c.in-Adopt.is c.may_adopt.ensures

pub returns-in-Ask-clause-legal : goal.returns-in-Ask-clause-legal
returns-in-Ask-clause-legal c = legal_by _ _ _ (Ask c.in-Ask.owner c.in-Ask.pointer c.in-Ask.mark) c.in-Ask.is c.may_ask.ensures

pub returns-in-Get-clause-legal : goal.returns-in-Get-clause-legal
returns-in-Get-clause-legal c = legal_by _ _ _ (Get c.in-Get.log c.in-Get.at c.in-Get.free) c.in-Get.is c.may_get.ensures

pub returns-in-Put-clause-legal : goal.returns-in-Put-clause-legal
returns-in-Put-clause-legal c = legal_by _ _ _ (Put c.in-Put.log c.in-Put.at c.in-Put.word) c.in-Put.is c.may_put.ensures

pub returns-in-Mark-clause-legal : goal.returns-in-Mark-clause-legal
returns-in-Mark-clause-legal c = legal_by _ _ _ (Mark c.in-Mark.pointer) c.in-Mark.is c.may_mark.ensures

pub returns-in-Clear-clause-legal : goal.returns-in-Clear-clause-legal
returns-in-Clear-clause-legal c = legal_by _ _ _ (Clear c.in-Clear.pointer) c.in-Clear.is c.may_clear.ensures

pub returns-in-Advance-clause-legal : goal.returns-in-Advance-clause-legal
returns-in-Advance-clause-legal c = legal_by _ _ _ (Advance c.in-Advance.logs) c.in-Advance.is c.may_advance.ensures

pub returns-in-Offer-clause-legal : goal.returns-in-Offer-clause-legal
returns-in-Offer-clause-legal c = legal_by _ _ _ (Offer c.in-Offer.job c.in-Offer.pointer c.in-Offer.to) c.in-Offer.is c.may_offer.ensures

pub returns-in-Claim-clause-legal : goal.returns-in-Claim-clause-legal
returns-in-Claim-clause-legal c = legal_by _ _ _ (Claim c.in-Claim.copier c.in-Claim.job c.in-Claim.old) c.in-Claim.is c.may_claim.ensures

pub returns-in-ReadLength-clause-legal : goal.returns-in-ReadLength-clause-legal
returns-in-ReadLength-clause-legal c = legal_by _ _ _ (ReadLength c.in-ReadLength.copier) c.in-ReadLength.is c.may_read_length.ensures

pub returns-in-Read-clause-legal : goal.returns-in-Read-clause-legal
returns-in-Read-clause-legal c = legal_by _ _ _ (Read c.in-Read.copier c.in-Read.index) c.in-Read.is c.may_read.ensures

pub returns-in-Write-clause-legal : goal.returns-in-Write-clause-legal
returns-in-Write-clause-legal c = legal_by _ _ _ (Write c.in-Write.copier c.in-Write.index) c.in-Write.is c.may_write.ensures

pub returns-in-Finish-clause-legal : goal.returns-in-Finish-clause-legal
returns-in-Finish-clause-legal c = legal_by _ _ _ (Finish c.in-Finish.copier) c.in-Finish.is c.may_finish.ensures

pub returns-in-Collect-clause-legal : goal.returns-in-Collect-clause-legal
returns-in-Collect-clause-legal c = legal_by _ _ _ (Collect c.in-Collect.job c.in-Collect.old) c.in-Collect.is c.may_collect.ensures
