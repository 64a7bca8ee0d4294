-- A new object of bytes that are given.
use Rattle.std.proofs.Common.{◌≡◌, ℕ, ◌+◌, ◌-◌, ◌≤◌, Bool, true, false, refl, sym, ap, ◌∙◌, arith, Option, Some, List, [], length, replicate, get_or}
use Rattle.std.specs.Option.{option_map}
use Rattle.std.proofs.lemmas.List.{ext_get_or, length-replicate}
use mathlib.Core.Path.{fun_ext}
use Rattle.far_events.specs.state.State.{put}
use Rattle.far_events.proofs.Put.{put_both, put_other, put_same}
use Rattle.far_alone.specs.Objects.{with_range}
use Rattle.far_alone.proofs.Spliced.{length-with_range, with_range_after, with_range_inside}
use Rattle.far_private.specs.Heap.{object_with}
use Rattle.far_private.specs.Looks.{with_made}
use Rattle.far_private.specs.Objects.{Object, Objects, known, len_in, len_of, rewritten, with_filled, with_new}

-- ---- zeros with the bytes in their place
over_zeros : (bytes : List ℕ) → with_range (replicate (length bytes) 0) 0 bytes ≡ bytes
over_zeros bytes =
    let many : length (replicate (length bytes) 0) ≡ length bytes = length-replicate (length bytes) 0 in
    let fits : 0 + length bytes ≤ length (replicate (length bytes) 0) = omega (arith, many) in
    let long : length (with_range (replicate (length bytes) 0) 0 bytes) ≡ length bytes = length-with_range (replicate (length bytes) 0) 0 bytes fits ∙ many in
    ext_get_or 0 _ _ long (λ k lt.
    let same : k - 0 ≡ k = omega arith in
    with_range_inside (replicate (length bytes) 0) 0 bytes fits k (omega arith) (omega (arith, lt, long)) ∙ ap (λ i. get_or bytes i 0) same)

made_seen : (honest : Bool) (ds : ℕ) (bytes : List ℕ) → rewritten 0 bytes record { len = length bytes; ds = ds; bytes = known honest (replicate (length bytes) 0) } ≡ object_with honest ds bytes
made_seen true ds bytes = λ i. record { len = length bytes; ds = ds; bytes = Some (over_zeros bytes i) }
made_seen false ds bytes = refl

put_put : {X : Type 0} (f : ℕ → X) (p : ℕ) (a b : X) → put (put f p a) p b ≡ put f p b
put_put f p a b = fun_ext (λ q. put_both (λ x. x ≡ put f p b q) (put f p a) p b q (λ at. sym (put_same f p b q at)) (λ ne. put_other f p a q ne ∙ sym (put_other f p b q ne)))

pub made_is : (o : Objects) (p ds : ℕ) (bytes : List ℕ) → with_filled p (length bytes) ds bytes o ≡ with_made p ds bytes o
made_is o p ds bytes =
    let zeros : Object = record { len = length bytes; ds = ds; bytes = known o.honest (replicate (length bytes) 0) } in
    let f : ℕ → Option Object = put o.object p (Some zeros) in
    ap (λ (x : ℕ → Option Object). record { honest = o.honest; logs = o.logs; object = x })
    (put_put o.object p (Some zeros) (option_map (rewritten 0 bytes) (f p))
    ∙ ap (λ (x : Option Object). put o.object p (option_map (rewritten 0 bytes) x)) (put_same o.object p (Some zeros) p refl)
    ∙ ap (λ (x : Object). put o.object p (Some x)) (made_seen o.honest ds bytes))

-- ---- an object that was just placed has its length
pub new_long : (o t : Objects) (p len ds : ℕ) → t ≡ with_new p len ds o → len_in t p ≡ len
new_long o t p len ds new = ap (λ (x : Objects). len_in x p) new ∙ ap len_of (put_same o.object p (Some record { len = len; ds = ds; bytes = known o.honest (replicate len 0) }) p refl)

-- ---- no bytes change nothing
no_range : (all bytes : List ℕ) → length bytes ≡ 0 → with_range all 0 bytes ≡ all
no_range all bytes none =
    let fits : 0 + length bytes ≤ length all = omega (arith, none) in
    ext_get_or 0 _ _ (length-with_range all 0 bytes fits) (λ k lt. with_range_after all 0 bytes fits k (omega (arith, none)))

zeros_seen : (honest : Bool) (len ds : ℕ) (bytes : List ℕ) → length bytes ≡ 0 →
    rewritten 0 bytes record { len = len; ds = ds; bytes = known honest (replicate len 0) } ≡ record { len = len; ds = ds; bytes = known honest (replicate len 0) }
zeros_seen true len ds bytes none = λ i. record { len = len; ds = ds; bytes = Some (no_range (replicate len 0) bytes none i) }
zeros_seen false len ds bytes none = refl

pub filled_empty : (o : Objects) (p len ds : ℕ) (bytes : List ℕ) → length bytes ≡ 0 → with_filled p len ds bytes o ≡ with_new p len ds o
filled_empty o p len ds bytes none =
    let zeros : Object = record { len = len; ds = ds; bytes = known o.honest (replicate len 0) } in
    let f : ℕ → Option Object = put o.object p (Some zeros) in
    ap (λ (x : ℕ → Option Object). record { honest = o.honest; logs = o.logs; object = x })
    (put_put o.object p (Some zeros) (option_map (rewritten 0 bytes) (f p))
    ∙ ap (λ (x : Option Object). put o.object p (option_map (rewritten 0 bytes) x)) (put_same o.object p (Some zeros) p refl)
    ∙ ap (λ (x : Object). put o.object p (Some x)) (zeros_seen o.honest len ds bytes none))

pub filled_none : (o : Objects) (p len ds : ℕ) → with_filled p len ds [] o ≡ with_new p len ds o
filled_none o p len ds = filled_empty o p len ds [] refl
