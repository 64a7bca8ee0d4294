use Rattle.std.proofs.Common.{◌≡◌, ◌∙◌, ap, refl, sym}
use Rattle.far_events.specs.declared.event.Event.{Event}
use Rattle.far_events.specs.declared.event.Event.TheVariants.{ReadEpoch, Open, Store, Soil, Close, Adopt, Ask, Get, Put, Load, See, Mark, Clear, Advance, Look, Offer, ReadLength, Read, Write, Finish, Claim, Collect, Pin}
use Rattle.far_events.specs.declared.event.Reply.{Reply}
use Rattle.far_events.specs.declared.event.Reply.TheVariants.{Word}
use Rattle.far_events.specs.events.Next.{next_state}
use Rattle.far_events.specs.events.Step.{answer}
use Rattle.far_events.specs.state.State.{State}
use Rattle.far_events.proofs.Calls.{next_is_after}
use Rattle.far_events.proofs.memory.Memory.make.Goals as goal

-- Two rows an event. `search` finds each in some tenths of a second: a new event needs none.

-- what a call ensures of the event that it makes, of the event that is given
state_by : (s t : State) (e made : Event) → e ≡ made → t ≡ next_state s made → t ≡ next_state s e
state_by s t e made is next = next ∙ ap (next_state s) (sym is)

reply_by : (s : State) (r : Reply) (e made : Event) → e ≡ made → answer s made ≡ r → r ≡ answer s e
reply_by s r e made is says = sym says ∙ ap (answer s) (sym is)

pub returns-in-ReadEpoch-clause-state : goal.returns-in-ReadEpoch-clause-state
returns-in-ReadEpoch-clause-state c = state_by _ _ _ (ReadEpoch c.in-ReadEpoch.owner) c.in-ReadEpoch.is c.read_epoch.ensures.state

pub returns-in-ReadEpoch-clause-reply : goal.returns-in-ReadEpoch-clause-reply
returns-in-ReadEpoch-clause-reply c = reply_by _ _ _ (ReadEpoch c.in-ReadEpoch.owner) c.in-ReadEpoch.is c.read_epoch.ensures.epoch

pub returns-in-Open-clause-state : goal.returns-in-Open-clause-state
returns-in-Open-clause-state c = state_by _ _ _ (Open c.in-Open.owner) c.in-Open.is c.open.ensures

pub returns-in-Open-clause-reply : goal.returns-in-Open-clause-reply
returns-in-Open-clause-reply c = reply_by _ _ _ (Open c.in-Open.owner) c.in-Open.is refl

pub returns-in-Store-clause-state : goal.returns-in-Store-clause-state
returns-in-Store-clause-state c = state_by _ _ _ (Store c.in-Store.owner c.in-Store.pointer c.in-Store.index c.in-Store.word) c.in-Store.is c.store.ensures

pub returns-in-Store-clause-reply : goal.returns-in-Store-clause-reply
returns-in-Store-clause-reply c = reply_by _ _ _ (Store c.in-Store.owner c.in-Store.pointer c.in-Store.index c.in-Store.word) c.in-Store.is refl

pub returns-in-Soil-clause-state : goal.returns-in-Soil-clause-state
returns-in-Soil-clause-state c = state_by _ _ _ (Soil c.in-Soil.owner c.in-Soil.pointer) c.in-Soil.is c.soil.ensures.state

pub returns-in-Soil-clause-reply : goal.returns-in-Soil-clause-reply
returns-in-Soil-clause-reply c = reply_by _ _ _ (Soil c.in-Soil.owner c.in-Soil.pointer) c.in-Soil.is c.soil.ensures.word

pub returns-in-Close-clause-state : goal.returns-in-Close-clause-state
returns-in-Close-clause-state c = state_by _ _ _ (Close c.in-Close.owner) c.in-Close.is c.close.ensures

pub returns-in-Close-clause-reply : goal.returns-in-Close-clause-reply
returns-in-Close-clause-reply c = reply_by _ _ _ (Close c.in-Close.owner) c.in-Close.is refl

pub returns-in-Adopt-clause-state : goal.returns-in-Adopt-clause-state
returns-in-Adopt-clause-state c = state_by _ _ _ (Adopt c.in-Adopt.owner c.in-Adopt.pointer) c.in-Adopt.is c.adopt.ensures.state

pub returns-in-Adopt-clause-reply : goal.returns-in-Adopt-clause-reply
returns-in-Adopt-clause-reply c = reply_by _ _ _ (Adopt c.in-Adopt.owner c.in-Adopt.pointer) c.in-Adopt.is c.adopt.ensures.word

pub returns-in-Ask-clause-state : goal.returns-in-Ask-clause-state
returns-in-Ask-clause-state c = state_by _ _ _ (Ask c.in-Ask.owner c.in-Ask.pointer c.in-Ask.mark) c.in-Ask.is c.ask.ensures.state

pub returns-in-Ask-clause-reply : goal.returns-in-Ask-clause-reply
returns-in-Ask-clause-reply c = reply_by _ _ _ (Ask c.in-Ask.owner c.in-Ask.pointer c.in-Ask.mark) c.in-Ask.is c.ask.ensures.word

pub returns-in-Get-clause-state : goal.returns-in-Get-clause-state
returns-in-Get-clause-state c = state_by _ _ _ (Get c.in-Get.log c.in-Get.at c.in-Get.free) c.in-Get.is c.get.ensures.state

pub returns-in-Get-clause-reply : goal.returns-in-Get-clause-reply
returns-in-Get-clause-reply c = reply_by _ _ _ (Get c.in-Get.log c.in-Get.at c.in-Get.free) c.in-Get.is c.get.ensures.word

pub returns-in-Put-clause-state : goal.returns-in-Put-clause-state
returns-in-Put-clause-state c = state_by _ _ _ (Put c.in-Put.log c.in-Put.at c.in-Put.word) c.in-Put.is c.put.ensures

pub returns-in-Put-clause-reply : goal.returns-in-Put-clause-reply
returns-in-Put-clause-reply c = reply_by _ _ _ (Put c.in-Put.log c.in-Put.at c.in-Put.word) c.in-Put.is refl

pub returns-in-Load-clause-state : goal.returns-in-Load-clause-state
returns-in-Load-clause-state c = state_by _ _ _ (Load c.in-Load.owner c.in-Load.pointer c.in-Load.index) c.in-Load.is (sym (next_is_after _ _))

pub returns-in-Load-clause-reply : goal.returns-in-Load-clause-reply
returns-in-Load-clause-reply c = reply_by _ _ _ (Load c.in-Load.owner c.in-Load.pointer c.in-Load.index) c.in-Load.is (ap Word (sym c.load.ensures))

pub returns-in-See-clause-state : goal.returns-in-See-clause-state
returns-in-See-clause-state c = state_by _ _ _ (See c.in-See.pointer) c.in-See.is (sym (next_is_after _ _))

pub returns-in-See-clause-reply : goal.returns-in-See-clause-reply
returns-in-See-clause-reply c = reply_by _ _ _ (See c.in-See.pointer) c.in-See.is (ap Word (sym c.cell_at.ensures))

pub returns-in-Mark-clause-state : goal.returns-in-Mark-clause-state
returns-in-Mark-clause-state c = state_by _ _ _ (Mark c.in-Mark.pointer) c.in-Mark.is c.mark.ensures.state

pub returns-in-Mark-clause-reply : goal.returns-in-Mark-clause-reply
returns-in-Mark-clause-reply c = reply_by _ _ _ (Mark c.in-Mark.pointer) c.in-Mark.is c.mark.ensures.word

pub returns-in-Clear-clause-state : goal.returns-in-Clear-clause-state
returns-in-Clear-clause-state c = state_by _ _ _ (Clear c.in-Clear.pointer) c.in-Clear.is c.clear.ensures.state

pub returns-in-Clear-clause-reply : goal.returns-in-Clear-clause-reply
returns-in-Clear-clause-reply c = reply_by _ _ _ (Clear c.in-Clear.pointer) c.in-Clear.is c.clear.ensures.word

pub returns-in-Advance-clause-state : goal.returns-in-Advance-clause-state
returns-in-Advance-clause-state c = state_by _ _ _ (Advance c.in-Advance.logs) c.in-Advance.is c.advance.ensures.state

pub returns-in-Advance-clause-reply : goal.returns-in-Advance-clause-reply
returns-in-Advance-clause-reply c = reply_by _ _ _ (Advance c.in-Advance.logs) c.in-Advance.is c.advance.ensures.epoch

pub returns-in-Look-clause-state : goal.returns-in-Look-clause-state
returns-in-Look-clause-state c = state_by _ _ _ (Look c.in-Look.owner) c.in-Look.is c.look.ensures.state

pub returns-in-Look-clause-reply : goal.returns-in-Look-clause-reply
returns-in-Look-clause-reply c = reply_by _ _ _ (Look c.in-Look.owner) c.in-Look.is c.look.ensures.word

pub returns-in-Offer-clause-state : goal.returns-in-Offer-clause-state
returns-in-Offer-clause-state c = state_by _ _ _ (Offer c.in-Offer.job c.in-Offer.pointer c.in-Offer.to) c.in-Offer.is c.offer.ensures

pub returns-in-Offer-clause-reply : goal.returns-in-Offer-clause-reply
returns-in-Offer-clause-reply c = reply_by _ _ _ (Offer c.in-Offer.job c.in-Offer.pointer c.in-Offer.to) c.in-Offer.is refl

pub returns-in-ReadLength-clause-state : goal.returns-in-ReadLength-clause-state
returns-in-ReadLength-clause-state c = state_by _ _ _ (ReadLength c.in-ReadLength.copier) c.in-ReadLength.is c.read_length.ensures.state

pub returns-in-ReadLength-clause-reply : goal.returns-in-ReadLength-clause-reply
returns-in-ReadLength-clause-reply c = reply_by _ _ _ (ReadLength c.in-ReadLength.copier) c.in-ReadLength.is c.read_length.ensures.word

pub returns-in-Read-clause-state : goal.returns-in-Read-clause-state
returns-in-Read-clause-state c = state_by _ _ _ (Read c.in-Read.copier c.in-Read.index) c.in-Read.is c.read.ensures.state

pub returns-in-Read-clause-reply : goal.returns-in-Read-clause-reply
returns-in-Read-clause-reply c = reply_by _ _ _ (Read c.in-Read.copier c.in-Read.index) c.in-Read.is c.read.ensures.word

pub returns-in-Write-clause-state : goal.returns-in-Write-clause-state
returns-in-Write-clause-state c = state_by _ _ _ (Write c.in-Write.copier c.in-Write.index) c.in-Write.is c.write.ensures

pub returns-in-Write-clause-reply : goal.returns-in-Write-clause-reply
returns-in-Write-clause-reply c = reply_by _ _ _ (Write c.in-Write.copier c.in-Write.index) c.in-Write.is refl

pub returns-in-Finish-clause-state : goal.returns-in-Finish-clause-state
returns-in-Finish-clause-state c = state_by _ _ _ (Finish c.in-Finish.copier) c.in-Finish.is c.finish.ensures

pub returns-in-Finish-clause-reply : goal.returns-in-Finish-clause-reply
returns-in-Finish-clause-reply c = reply_by _ _ _ (Finish c.in-Finish.copier) c.in-Finish.is refl

pub returns-in-Claim-clause-state : goal.returns-in-Claim-clause-state
returns-in-Claim-clause-state c = state_by _ _ _ (Claim c.in-Claim.copier c.in-Claim.job c.in-Claim.old) c.in-Claim.is c.claim.ensures.state

pub returns-in-Collect-clause-state : goal.returns-in-Collect-clause-state
returns-in-Collect-clause-state c = state_by _ _ _ (Collect c.in-Collect.job c.in-Collect.old) c.in-Collect.is c.collect.ensures.state

pub returns-in-Pin-clause-state : goal.returns-in-Pin-clause-state
returns-in-Pin-clause-state c = state_by _ _ _ (Pin c.in-Pin.owner c.in-Pin.pointer) c.in-Pin.is c.pin.ensures.state
