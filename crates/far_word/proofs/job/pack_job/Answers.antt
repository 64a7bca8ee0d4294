use Rattle.std.proofs.Common.{◌^◌, arith}
use Rattle.far_word.proofs.JobLaws.{job_packs}
use Rattle.far_word.proofs.Words.{no_wrap}
use Rattle.far_word.proofs.job.pack_job.Goals as goal

pub returns : goal.returns
returns c =
    let ok = c.requires.job in
    let cell = ok.cell in let from = ok.from in let to = ok.to in
    let few = c.requires.copier in let low = c.requires.stage in
    rw (no_wrap c.args.job.from.at (2 ^ 16) (omega arith), no_wrap c.args.job.from.log (2 ^ 26) (omega arith), no_wrap c.args.job.to.at (2 ^ 34) (omega arith), no_wrap c.args.job.to.log (2 ^ 44) (omega arith), no_wrap c.args.copier (2 ^ 58) (omega arith), no_wrap c.args.stage (2 ^ 62) (omega arith))
    (job_packs c.args.job.pointer c.args.job.from.at c.args.job.from.log c.args.job.to.at c.args.job.to.log c.args.copier c.args.stage (omega arith) (omega arith) (omega arith) (omega arith) (omega arith) (omega arith))
