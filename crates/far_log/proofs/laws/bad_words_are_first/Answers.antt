use Rattle.far_log.proofs.BadLaws.{only_first, first_only, first_read, read_first}
use Rattle.far_log.proofs.laws.bad_words_are_first.Goals as goal

pub returns-clause-first : goal.returns-clause-first
returns-clause-first c word tail at w fits = (only_first word fits tail at w, λ r. first_only word fits tail at w r.0 r.1 r.2 r.3)

pub returns-clause-read : goal.returns-clause-read
returns-clause-read c word tail at w fits = (first_read word fits tail at w, λ r. read_first word fits tail at w r.0 r.1.0 r.1.1 r.1.2 r.1.3)
