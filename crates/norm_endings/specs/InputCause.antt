use Rattle.std.specs.Prelude.{◌≡◌, ℕ, Result, Ok, Err}
use Rattle.norm_base.specs.Faults.{one_more}
use Rattle.norm_endings.specs.declared.input.InputFault.{InputFault}
use Rattle.norm_endings.specs.declared.input.InputFault.TheVariants.{Read, Memory}

-- one read failed, or none did
abbrev pub ReadCause : {T : Type 0} → Result T InputFault → (before now : ℕ) → Type 0
ReadCause (Ok x) before now = now ≡ before
ReadCause (Err Read) before now = now ≡ one_more before
ReadCause (Err Memory) before now = now ≡ before
