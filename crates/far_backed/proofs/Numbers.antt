-- A handle is its number's, and a number its handle's.
use Rattle.std.proofs.Common.{◌≡◌, ℕ, ◌<◌, sym, arith}
use Rattle.far_pool.specs.declared.handle.Handle.{Handle}
use Rattle.far_pool.specs.Bits.{IsHandle, bits_of}
use Rattle.far_backed.specs.Named.{handle_of}

same_handle : (k h : Handle) → k.heap ≡ h.heap → k.pointer ≡ h.pointer → k.generation ≡ h.generation → k ≡ h
same_handle k h a b c = λ i. record { heap = a i; pointer = b i; generation = c i }

bits_of_handle : (n : ℕ) → bits_of (handle_of n) ≡ n
bits_of_handle n = omega arith

is_handle : (n : ℕ) → n < 18446744073709551616 → IsHandle (handle_of n)
is_handle n lt = record { heap = omega (arith, lt); pointer = omega arith; generation = omega arith }

-- the one handle that has a number's bits is the number's
pub named_is : (n : ℕ) (r : Handle) → n < 18446744073709551616 → ((h : Handle) → IsHandle h → bits_of h ≡ n → h ≡ r) → r ≡ handle_of n
named_is n r lt only = sym (only (handle_of n) (is_handle n lt) (bits_of_handle n))

pub handle_is : (h : Handle) (n : ℕ) → IsHandle h → n ≡ bits_of h → handle_of n ≡ h
handle_is h n is e = same_handle (handle_of n) h (omega (arith, is.heap, is.pointer, is.generation, e)) (omega (arith, is.heap, is.pointer, is.generation, e)) (omega (arith, is.heap, is.pointer, is.generation, e))
