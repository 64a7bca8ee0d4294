-- An audit's counts, by the evacuator's census.
use Rattle.std.specs.Prelude.{◌≡◌, Bool, true, false, not, List, length, filter, map, sum}
use Rattle.far_book.specs.declared.home.Home.{Home}
use Rattle.far_book.specs.declared.home.Home.TheVariants.{Near, Far}
use Rattle.far_evac.specs.declared.census.Housed.{Housed}
use Rattle.far_evac.specs.declared.census.LogState.{LogState}
use Rattle.far_evac.specs.Census.{homes_of, logs_of}
use Rattle.far_text.specs.Command.{Book, Audit}
use Rattle.far_replay.specs.Answers.{Commanded}
use Rattle.far_replay.specs.Moment.{Moment}
use Rattle.far_reply.specs.declared.reply.Counts.{Counts}
use Rattle.far_reply.specs.Reply.{Reply, Audited}

abbrev pub is_near : Home → Bool
is_near (Near place marks) = true
is_near (Far marks) = false

-- how many of these objects are near, how many far, and the live bytes of these logs
abbrev pub counted_in : List Housed → List LogState → Counts
counted_in homes logs = record {
  near = length (filter (λ (housed : Housed). is_near housed.home) homes);
  far = length (filter (λ (housed : Housed). not (is_near housed.home)) homes);
  live = sum (map (λ (log : LogState). log.row.live) logs);
}

-- `audit` counts what the census lists: the objects that are near, those that are far, and the live bytes of all logs
abbrev pub AuditsByCensus : Type 0
AuditsByCensus = (now : Moment) (r : Reply) (after : Moment) → Commanded now (Book Audit) r after → r ≡ Audited (counted_in (homes_of now.core) (logs_of now))
