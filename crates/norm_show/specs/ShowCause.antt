-- Which call of the outside failed.
use Rattle.std.specs.Prelude.{◌≡◌, ℕ, Result, Ok, Err}
use Rattle.norm_base.specs.Faults.{one_more}
use Rattle.norm_show.specs.declared.fault.ShowFault.{ShowFault}
use Rattle.norm_show.specs.declared.fault.ShowFault.TheVariants as fault

-- how often writes failed, where this fault was answered
abbrev pub writes_counted : ShowFault → ℕ → ℕ
writes_counted fault.Write writes = one_more writes
writes_counted _ writes = writes

-- how often reads failed
abbrev pub reads_counted : ShowFault → ℕ → ℕ
reads_counted fault.Read reads = one_more reads
reads_counted _ reads = reads

-- a failed write raised the count by one, and any other answer left it
abbrev pub WriteCause : {T : Type 0} → Result T ShowFault → (before now : ℕ) → Type 0
WriteCause (Ok x) before now = now ≡ before
WriteCause (Err why) before now = now ≡ writes_counted why before

abbrev pub ReadCause : {T : Type 0} → Result T ShowFault → (before now : ℕ) → Type 0
ReadCause (Ok x) before now = now ≡ before
ReadCause (Err why) before now = now ≡ reads_counted why before
