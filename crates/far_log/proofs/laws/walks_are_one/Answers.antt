use Rattle.std.proofs.Common.{arith}
use Rattle.far_log.proofs.SpanLaws.{one_list, listed_from}
use Rattle.far_log.proofs.ConvertLaws.{image_short}
use Rattle.far_log.proofs.WalkLaws.{never_both, first_is_one, bad_below, end_low, is_image, walk_version, walks_or_bad}
use Rattle.far_word.specs.Header.{version_of}
use Rattle.far_log.specs.Walk.{end_for}
use Rattle.far_log.proofs.laws.walks_are_one.Goals as goal

pub returns-clause-one : goal.returns-clause-one
returns-clause-one c word tail spans others walk other = one_list word spans others 0 tail walk.tile other.tile walk.stand other.stand

pub returns-clause-either : goal.returns-clause-either
returns-clause-either c word tail fits = walks_or_bad (version_of (word 0)) word fits tail

pub returns-clause-never : goal.returns-clause-never
returns-clause-never c word tail at w spans walk first = never_both word tail at w spans walk first

pub returns-clause-first : goal.returns-clause-first
returns-clause-first c word tail at w first = let u = version_of (word 0) in (bad_below word (end_for u tail) first.from at tail first.bad first.below (end_low u tail).0, first.is, λ a v other. first_is_one word tail at w a v first other)

pub returns-clause-listed : goal.returns-clause-listed
returns-clause-listed c word tail spans walk = listed_from word spans tail 0 tail walk.tile walk.stand (omega arith)

pub returns-clause-version : goal.returns-clause-version
returns-clause-version c v word tail spans walk = (is_image word tail spans walk, walk_version word tail spans walk)

pub returns-clause-short : goal.returns-clause-short
returns-clause-short c = image_short
