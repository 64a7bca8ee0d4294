-- What is done by the word found in a cell is what the word known of it says.
use Rattle.std.proofs.Common.{◌≡◌, ◌^◌, ◌<◌, ℕ, true, sym, refl, ap, subst, ◌∙◌, Option, Some, None, Ok, Err}
use Rattle.std.specs.Prelude.{IfOk, IfSome, IfNone}
use Rattle.std.specs.declared.result.Result.{Result}
use Rattle.far_word.specs.declared.pointer.Place.{Place}
use Rattle.far_word.specs.declared.pointer.PtrWord.{PtrWord}
use Rattle.far_word.specs.declared.pointer.PtrWord.TheVariants.{Free}
use Rattle.far_word.specs.declared.refused.Refused.{Refused}
use Rattle.far_word.specs.Pointer.{read_of}
use Rattle.far_events.specs.events.Naming.{is_dropped}
use Rattle.far_events.specs.state.State.{State}
use Rattle.far_events.proofs.Put.{put_same}
use Rattle.far_hand.specs.Finds.{Finds, body_of}
use Rattle.far_book.specs.book.Dealing.{FindsDrop, Leaves, LeavesSpans, MovedBy, goal, goal_of, moved_now}
use Rattle.far_book.specs.book.Renaming.{seen}
use Rattle.far_hand.proofs.Finding.{finds_more}
use Rattle.far_book.proofs.region.Calls.{put_put}

-- what follows of a place that is answered, from two facts of it
pub both_of : (r : Result (Option Place) Refused) (A B C : Place → Type 0) → ((x : Place) → A x → B x → C x) → IfOk r (λ o. IfSome o A) → IfOk r (λ o. IfSome o B) → IfOk r (λ o. IfSome o C)
both_of (Ok (Some x)) A B C f a b = f x a b
both_of (Ok None) A B C f a b = tt
both_of (Err why) A B C f a b = tt

pub none_of : (r : Result (Option Place) Refused) (A B : Type 0) → (A → B) → IfOk r (λ o. IfNone o A) → IfOk r (λ o. IfNone o B)
none_of (Ok (Some x)) A B f a = tt
none_of (Ok None) A B f a = f a
none_of (Err why) A B f a = tt

pub some_of : (o : Option Place) (A B : Place → Type 0) → ((x : Place) → A x → B x) → IfSome o A → IfSome o B
some_of (Some x) A B f a = f x a
some_of None A B f a = tt

goal_body : (s : State) (o : Option PtrWord) → goal_of s (body_of o) ≡ goal_of s o
goal_body s (Some Free) = refl
goal_body s o = refl

module _ (s : State) (p w : ℕ) (f : Finds (s.cell p) w) where
  abbrev then : State
  then = seen s p w

  here : then.cell p ≡ w
  here = put_same s.cell p w p refl

  same_goal : (o : Option PtrWord) → goal_of then o ≡ goal_of s o
  same_goal (Some Free) = refl
  same_goal o = refl

  pub goal_seen : goal then p ≡ goal s p
  goal_seen = ap (λ v. goal_of then (read_of v)) here ∙ same_goal (read_of w) ∙ sym (goal_body s (read_of w)) ∙ ap (goal_of s) f.body ∙ goal_body s (read_of (s.cell p))

  drop_seen : (u : State) → FindsDrop then u p → FindsDrop s u p
  drop_seen u x = record {
    fits = x.fits;
    found = finds_more (s.cell p) w (u.cell p) f (subst (λ v. Finds v (u.cell p)) here x.found);
    dropped = x.dropped;
    leaves = record {
      is = x.leaves.is ∙ (λ i. record s { cell = put_put s.cell p w (u.cell p) i; word = u.word });
      known = x.leaves.known;
      headers = x.leaves.headers;
    };
  }

  pub drop_by : (t u : State) → t ≡ then → FindsDrop t u p → FindsDrop s u p
  drop_by t u is x = drop_seen u (subst (λ (y : State). FindsDrop y u p) is x)

  -- it has moved, or stayed, by a word found after
  moved_seen : (u : State) (place : Place) → MovedBy then u p place → MovedBy s u p place
  moved_seen u place by = record {
    word = by.word;
    fits = by.fits;
    found = finds_more (s.cell p) w by.word f (subst (λ v. Finds v by.word) here by.found);
    alive = by.alive;
    leaves = subst (λ (c : ℕ → ℕ). Leaves (moved_now (record s { cell = c }) p place) u) (put_put s.cell p w by.word) by.leaves;
  }

  pub moved_by_found : (t u : State) (place : Place) → t ≡ then → MovedBy t u p place → MovedBy s u p place
  moved_by_found t u place is x = moved_seen u place (subst (λ (y : State). MovedBy y u p place) is x)

-- a word with DROP was found, and nothing else has changed
module _ (s t : State) (p w : ℕ) (f : Finds (s.cell p) w) (is : t ≡ seen s p w) where
  spans_left : LeavesSpans (seen s p w) t
  spans_left =
      let word = ap (λ (x : State). x.word) is in
      record { is = is ∙ ap (λ v. record (seen s p w) { word = v }) (sym word); known = λ a _ _ _. ap (λ (v : ℕ → ℕ). v a) word; headers = λ a _. ap (λ (v : ℕ → ℕ). v a) word }

  pub drop_here : w < 2 ^ 64 → is_dropped (read_of w) ≡ true → FindsDrop s t p
  drop_here fits dropped =
      let now : w ≡ t.cell p = sym (ap (λ (x : State). x.cell p) is ∙ put_same s.cell p w p refl) in
      record {
        fits = subst (λ v. v < 2 ^ 64) now fits;
        found = subst (Finds (s.cell p)) now f;
        dropped = ap (λ v. is_dropped (read_of v)) (sym now) ∙ dropped;
        leaves = subst (λ v. LeavesSpans (seen s p v) t) now spans_left;
      }
