use Rattle.far_word.proofs.JobLaws.{job_back, job_fits, job_found}
use Rattle.far_word.proofs.laws.job_words.Goals as goal

pub returns-clause-back : goal.returns-clause-back
returns-clause-back c = λ v ok. (job_back v ok, job_fits v ok)

pub returns-clause-found : goal.returns-clause-found
returns-clause-found c = job_found
