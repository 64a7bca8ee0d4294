-- A word tells one fault alone; want of room is told as Full.
use Rattle.std.proofs.Common.{◌≡◌, ℕ, zero, suc, Option, Some, None, refl, ap, sym, ◌∙◌, inl, inr, arith}
use Rattle.far_file.specs.Faults.{RoomIsToldFull, Tells, fault_number}
use Rattle.far_file.specs.declared.fault.FileFault.{FileFault}
use Rattle.far_file.specs.declared.fault.FileFault.TheVariants.{NoSlot, Nothing, Misfit, Storage}
use Rattle.far_file.specs.declared.fault.StorageFault.TheVariants.{Memory, Short, Full, Medium, Interrupted, Failed}
use Rattle.far_file.specs.declared.last_fault.KeyFault.{KeyFault}

-- the fault of a number
abbrev numbered : ℕ → Option FileFault
numbered (suc zero) = Some NoSlot
numbered (suc (suc zero)) = Some Nothing
numbered (suc (suc (suc zero))) = Some Misfit
numbered (suc (suc (suc (suc zero)))) = Some (Storage Memory)
numbered (suc (suc (suc (suc (suc zero))))) = Some (Storage Short)
numbered (suc (suc (suc (suc (suc (suc zero)))))) = Some (Storage Full)
numbered (suc (suc (suc (suc (suc (suc (suc zero))))))) = Some (Storage Medium)
numbered (suc (suc (suc (suc (suc (suc (suc (suc zero)))))))) = Some (Storage Interrupted)
numbered (suc (suc (suc (suc (suc (suc (suc (suc (suc zero))))))))) = Some (Storage Failed)
numbered n = None

back : (fault : FileFault) → numbered (fault_number fault) ≡ Some fault
back NoSlot = refl
back Nothing = refl
back Misfit = refl
back (Storage Memory) = refl
back (Storage Short) = refl
back (Storage Full) = refl
back (Storage Medium) = refl
back (Storage Interrupted) = refl
back (Storage Failed) = refl

-- the same number is of the same fault, and none has 0
same : (a b : FileFault) → fault_number a ≡ fault_number b → Some a ≡ Some b
same a b h = sym (back a) ∙ ap numbered h ∙ back b

none : (a : FileFault) → fault_number a ≡ 0 → Some a ≡ None
none a h = sym (back a) ∙ ap numbered h

pub tell_one : (word : ℕ) (told : KeyFault) (other : Option KeyFault) → Tells word (Some told) → Tells word other → other ≡ Some told
tell_one word told None h e = let n = none told.why (sym h.0 ∙ e) in grind arith
tell_one word told (Some other) h e = let s = same other.why told.why (sym e.0 ∙ h.0) in let k : other.key ≡ told.key = sym e.1 ∙ h.1 in grind arith

pub room_told_full : RoomIsToldFull
room_told_full fault = (λ told. told.full (inl refl), λ told. told.full (inr (inl refl)), λ told. told.full (inr (inr (inl refl))), λ told. told.full (inr (inr (inr refl))))
