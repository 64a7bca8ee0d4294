use Rattle.far_replay.proofs.Outcomes.{is_served}
use Rattle.far_text.specs.Command.{Audit, Book, Log, Mutator, Where}
use Rattle.far_replay_laws.proofs.InquiryLaws.{where_tells, log_tells, audit_counts}
use Rattle.far_replay_laws.proofs.Censused.{audits_by_census}
use Rattle.far_replay_laws.proofs.Listed.{audit_counts_list}
use Rattle.far_replay_laws.proofs.headline.inquiries_tell.Goals as goal

pub returns : goal.returns
returns c = record {
  place = λ now m p r after law own h. where_tells now m p r after law own (is_served now (Mutator m (Where p)) r after tt h);
  line = λ now l r after h. log_tells now l r after (is_served now (Book (Log l)) r after tt h);
  counts = λ now r after is h. audit_counts now r after is (is_served now (Book Audit) r after tt h);
  census = audits_by_census;
  listed = audit_counts_list;
}
