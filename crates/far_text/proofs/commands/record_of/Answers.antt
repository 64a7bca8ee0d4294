use Rattle.far_text.proofs.commands.record_of.Goals as goal

pub returns-in-Book-clause-within : goal.returns-in-Book-clause-within
returns-in-Book-clause-within c = c.inquiry_record.ensures.within _
