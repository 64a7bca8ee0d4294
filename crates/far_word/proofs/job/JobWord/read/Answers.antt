use Rattle.std.proofs.Common.{◌∙◌}
use Rattle.far_word.proofs.JobLaws.{job_found, job_only}
use Rattle.far_word.proofs.job.JobWord.read.Goals as goal

pub returns-clause-found : goal.returns-clause-found
returns-clause-found c = rw c.decode.ensures (job_found c.args.word)

pub returns-clause-only : goal.returns-clause-only
returns-clause-only c = λ v ok e. c.decode.ensures ∙ job_only c.args.word v ok e
