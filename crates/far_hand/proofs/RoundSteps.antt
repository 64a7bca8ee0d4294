-- What a hand knows once a round has begun, and once it has looked at a scope.
use Rattle.std.proofs.Common.{◌≡◌, ℕ, ◌+◌, ◌/◌, ◌<◌, Bool, true, false, refl, sym, ap, ◌∙◌, subst}
use Rattle.std.specs.Prelude.{◌||◌, ◌&&◌, IsSome}
use Rattle.std.proofs.lemmas.Bool.{true≢false, true_from_ne_false}
use Rattle.far_word.specs.declared.sizes.TheConstants.{CELLS, EPOCH_END}
use Rattle.far_word.specs.Pointer.{read_of}
use Rattle.far_word.specs.Scope.{scope_of}
use Rattle.far_events.specs.events.Advance.{MayAdvance}
use Rattle.far_events.specs.state.Law.{Law}
use Rattle.far_events.specs.state.State.{State, put}
use Rattle.far_events.proofs.Put.{put_both, put_same}
use Rattle.far_hand.specs.Finds.{Finds}
use Rattle.far_hand.specs.Masked.{masked, AllFind, CountsOnRest}
use Rattle.far_hand.specs.Quiet.{IsQuietBy, is_quiet, IsQuietNear}
use Rattle.far_hand.specs.Rounds.{IsScopeAt, MayChoose}
use Rattle.far_hand.proofs.Counting.{rests_more}
use Rattle.far_hand.proofs.Finding.{near_found, near_known}
use Rattle.far_hand.proofs.Masking.{moved_known, quiet_found}

-- logs that may be the round's as they are known may be so
pub may_advance : (s : State) (found : ℕ → ℕ) (counted : ℕ → Bool) (jobs : ℕ → ℕ) (logs : ℕ) → AllFind found s.cell → s.epoch + 1 < EPOCH_END → MayChoose (masked s found counted jobs) logs → MayAdvance s logs
may_advance s found counted jobs logs finds below h = record {
  below = below;
  shut = h.shut;
  marked = λ p len ds place m e inside. let x = near_known (found p) (s.cell p) (finds p) len ds place m e in sym x.same ∙ h.marked p len ds place x.marks x.near inside;
}

-- what is quiet as it is known is quiet as it is found
pub quiet_seen : (s : State) (p w : ℕ) → Finds (s.cell p) w → IsQuietNear s p → IsQuietNear record s { cell = put s.cell p w } p
quiet_seen s p w f q =
    let x = near_found (s.cell p) w f q.len q.ds q.place q.marks q.near in
    record {
      len = q.len;
      ds = q.ds;
      place = q.place;
      marks = x.marks;
      near = ap read_of (put_same s.cell p w p refl) ∙ x.near;
      quiet = quiet_found s.round s.clear p q.place q.marks x.marks (sym x.same) (moved_known (s.cell p) w q.len q.ds q.place q.marks x.marks f q.near x.near) q.quiet;
    }

-- a scope word of a core
pub scope_at : (s : State) → Law s → (m w : ℕ) → s.scope m ≡ w → IsScopeAt s.epoch w
scope_at s law m w is = record {
  layout = subst (λ x. IsSome (scope_of x)) is (law.scopes.scope_read m);
  bound = λ e opened. law.scopes.open_bound m e (ap scope_of is ∙ opened);
}

-- who is clear besides makes no object less quiet
louder : (a e r c b : Bool) → (a || (e && r && (c || b))) ≡ false → (a || (e && r && c)) ≡ false
louder true e r c b h = absurd (true≢false h)
louder false false r c b h = refl
louder false true false c b h = refl
louder false true true true b h = absurd (true≢false h)
louder false true true false b h = refl

pub counts_looked : (s : State) (found : ℕ → ℕ) (counted : ℕ → Bool) (m : ℕ) (b : Bool) → CountsOnRest s found counted →
    CountsOnRest (record s { clear = put s.clear m (s.clear m || b) }) found counted
counts_looked s found counted m b counts a known plain = rests_more quiet (counts a known plain) where
  quiet : IsQuietBy s.mutators s.round s.clear found a → IsQuietBy s.mutators s.round (put s.clear m (s.clear m || b)) found a
  quiet x = let k = x.marks in record {
    p = x.p;
    len = x.len;
    ds = x.ds;
    place = x.place;
    marks = k;
    index = x.index;
    pointer = x.pointer;
    near = x.near;
    quiet = true_from_ne_false _ (λ loud. true≢false (sym x.quiet
        ∙ put_both (λ y. (k.moved || (k.evac && s.round x.place.log && y)) ≡ false → is_quiet s.round s.clear x.p x.place k ≡ false) s.clear m (s.clear m || b) (x.p / CELLS)
        (λ own h. ap (λ y. k.moved || (k.evac && s.round x.place.log && y)) (ap s.clear own) ∙ louder k.moved k.evac (s.round x.place.log) (s.clear m) b h)
        (λ _ h. h) loud));
    inside = x.inside;
    here = x.here;
  }
