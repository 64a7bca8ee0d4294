-- `audit` counts the census, which lists each object and each log once.
use Rattle.far_book.proofs.region.Owns.{own_law}
use Rattle.far_events.specs.state.Law.{Law}
use Rattle.far_evac.specs.Census.{homes_of, logs_of}
use Rattle.far_evac.proofs.Listing.{census_lists}
use Rattle.far_text.specs.Command.{Audit, Book, Command}
use Rattle.far_replay.specs.Answers.{Commanded, Served, Serves}
use Rattle.far_replay.proofs.Outcomes.{is_served}
use Rattle.far_replay_laws.specs.Listed.{AuditCountsList, Counted, CountsList}
use Rattle.far_replay.specs.Moment.{Moment}
use Rattle.far_reply.specs.Reply.{Reply}
use Rattle.far_replay_laws.proofs.Censused.{audits_by_census}
use Rattle.far_replay.proofs.Lasting.{moment_lasts}

counts_list : (now : Moment) (r : Reply) (after : Moment) → Law now.core → Served now (Book Audit) r after → CountsList now r
counts_list now r after law h = (homes_of now.core, logs_of now, census_lists now (own_law now.core law), audits_by_census now r after (Serves, h))

pub audit_counts_list : AuditCountsList
audit_counts_list now r after is h = counts_list now r after (moment_lasts now is).law (is_served now (Book Audit) r after tt h)

pub counted : (now : Moment) (c : Command) (r : Reply) (after : Moment) → Law now.core → Commanded now c r after → Counted now c r
counted now (Book Audit) r after law h = counts_list now r after law (is_served now (Book Audit) r after tt h)
counted now c r after law h = tt
