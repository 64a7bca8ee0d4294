-- How many records and blocks there are.
use Rattle.std.proofs.Common.{◌≡◌, ℕ, ◌+◌, ◌-◌, ◌*◌, ◌/◌, ◌%◌, ◌<◌, ◌≤◌, min, List, length, take, sym, ◌∙◌, ap, subst, inl, inr, arith}
use Rattle.std.proofs.lemmas.Bool.{cases_lt}
use Rattle.std.proofs.lemmas.List.{length-take}
use Rattle.std.proofs.lemmas.Nat.{le-div}
use Rattle.std.proofs.Math.Nat.{mul-le-mul_left, mul-le-mul_right, mul-add, div-mul-le_self, mod-lt}
use Rattle.far_objects.specs.Far.{Far}
use Rattle.far_objects.specs.declared.objects.TheConstants.{MOST}
use Rattle.far_array.specs.declared.parts.TheConstants.{MOST_BLOCKS}
use Rattle.far_array.specs.Places.{Kept, Placed, Sound, Wrote}

pub size_low : (f : Far) (hs : List ℕ) (per size : ℕ) → Placed f hs per size → size ≤ MOST
size_low f hs per size placed =
    let m : 1 * size ≤ per * size = mul-le-mul_right {m = 1} {n = per} size (omega (arith, placed.some)) in omega (arith, m, placed.fits)

pub block_some : (f : Far) (hs : List ℕ) (per size : ℕ) → Placed f hs per size → 0 < per * size
block_some f hs per size placed =
    let m : 1 * size ≤ per * size = mul-le-mul_right {m = 1} {n = per} size (omega (arith, placed.some)) in omega (arith, m, placed.sized)

-- one record more
module _ (bytes : List ℕ) (f g : Far) (hs gs : List ℕ) (per per2 size size2 len len2 : ℕ) (ep : per2 ≡ per) (es : size2 ≡ size) (el : len2 ≡ len) (sound : Sound f hs per size len) where
  moved : (n : ℕ) → Sound g gs per size (len + n) → Sound g gs per2 size2 (len2 + n)
  moved n s = subst (λ (q : ℕ × ℕ × ℕ). Sound g gs q.0 q.1 (q.2 + n)) (λ k. (sym ep k, sym es k, sym el k)) s

  pub put_above_sound : length gs ≡ length hs + 1 → length gs ≤ MOST_BLOCKS → len ≡ per * length hs → Wrote (per * length hs) bytes f g hs gs per size → Sound g gs per2 size2 (len2 + 1)
  put_above_sound long count full wrote =
      let e : per * length gs ≡ per * length hs + per * 1 = ap (λ k. per * k) long ∙ mul-add per (length hs) 1 in
      let some = sound.placed.some in
      moved 1 (record { placed = wrote.placed; room = omega (arith, e, full, some); few = omega (arith, e, full, some); count = count })

-- fewer records
module _ (f g : Far) (hs gs : List ℕ) (per size len n m spare : ℕ) (sound : Sound f hs per size len) (kept : Kept f g hs gs per size) (is : gs ≡ take (m + spare) hs)
    (low : n ≤ len) (room : n ≤ per * m) (few : per * m < n + per) (one : spare ≤ 1) where
  long : length gs ≡ min (m + spare) (length hs)
  long = ap (λ (xs : List ℕ). length xs) is ∙ length-take (m + spare) hs

  spared : per * (m + spare) ≡ per * m + per * spare
  spared = mul-add per m spare

  spare_low : per * spare ≤ per * 1
  spare_low = mul-le-mul_left per one

  pub less : length gs ≤ length hs
  less = omega (arith, long)

  less_rooms : per * length gs ≤ per * (m + spare)
  less_rooms = mul-le-mul_left per (let l : length gs ≤ m + spare = omega (arith, long) in l)

  pub tight : per * length gs < n + per + per * spare
  tight = omega (arith, less_rooms, spared, few)

  pub has : n ≤ per * length gs
  has = elim (cases_lt (length hs) (m + spare)) [
    | inl all ↦ let e : per * length gs ≡ per * length hs = ap (λ k. per * k) (let e : length gs ≡ length hs = omega (arith, long, all) in e) in omega (arith, e, sound.room, low)
    | inr cut ↦ let e : per * length gs ≡ per * (m + spare) = ap (λ k. per * k) (let e : length gs ≡ m + spare = omega (arith, long, cut) in e) in omega (arith, e, spared, room)
  ]

  pub cut_sound : Sound g gs per size n
  cut_sound = record { placed = kept.placed; room = has; few = omega (arith, tight, spare_low); count = omega (arith, less, sound.count) }

-- how many records are read at once
pub many_low : (m size len i per n : ℕ) → 0 < size → 0 < per → i < len → size ≤ m → n ≡ min (min (m / size) (len - i)) (per - i % per) → (0 < n) × (i + n ≤ len) × (i % per + n ≤ per) × (n * size ≤ m)
many_low m size len i per n some places low fits e =
    let one : 1 ≤ m / size = le-div 1 m size some (omega arith) in
    let rest : i % per < per = mod-lt i (omega arith) in
    let least : n ≤ m / size = omega (arith, e) in
    let times : n * size ≤ (m / size) * size = mul-le-mul_right size least in
    (omega (arith, e, one, rest, low), omega (arith, e, low), omega (arith, e, rest), omega (arith, times, div-mul-le_self m size))
