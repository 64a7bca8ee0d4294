use Rattle.std.proofs.Common.{ap, ◌∙◌, refl}
use Rattle.far_core.specs.state.CoreState.{core_state}
use Rattle.far_events.specs.state.State.{put}
use Rattle.far_hand.proofs.Making.{job_set_rows, none_rest, rows_forget, turn_then}
use Rattle.far_hand.proofs.Offering.{hand_offers}
use Rattle.far_hand.proofs.beset.hand.BesetNear.offer.Goals as goal

pub offer-requires : goal.offer-requires
offer-requires c = record { legal = (hand_offers c.args.self.now c.turn.new.self c.turn.ensures.view c.args.job c.args.pointer c.args.from c.args.to c.requires.legal c.requires.lies).own }

pub offered-requires : goal.offered-requires
offered-requires c = (hand_offers c.args.self.now c.turn.new.self c.turn.ensures.view c.args.job c.args.pointer c.args.from c.args.to c.requires.legal c.requires.lies).layout

pub invariant_of-self : goal.invariant_of-self
invariant_of-self c =
    let hand = c.turn.new.self in
    let told = hand_offers c.args.self.now hand c.turn.ensures.view c.args.job c.args.pointer c.args.from c.args.to c.requires.legal c.requires.lies in
    job_set_rows hand _ c.args.job _ _ (c.find_job.ensures ∙ ap (put _ c.args.job) c.offered.ensures) _ _ _ (c.offer.ensures.state ∙ told.is) refl refl refl refl c.forget.ensures.len (none_rest (core_state c.offer.new.self) _ _ c.forget.ensures.none)

pub returns : goal.returns
returns c =
    let hand = c.turn.new.self in
    let turn = c.turn.ensures in
    let told = hand_offers c.args.self.now hand turn.view c.args.job c.args.pointer c.args.from c.args.to c.requires.legal c.requires.lies in
    let left = rows_forget _ _ _ _ _ _ _ _ _ _ (c.offer.ensures.state ∙ told.is) refl c.forget.ensures.none (c.find_job.ensures ∙ ap (put _ c.args.job) c.offered.ensures) told.view in
    record {
      kept = left.kept;
      forgot = left.forgot;
      set = λ x. absurd x;
      made = turn_then c.args.self.now hand _ _ turn.view turn.made turn.change turn.events turn.next told.own c.offer.ensures.state refl refl refl;
    }
