use Rattle.std.specs.Prelude.{◌≡◌, ℕ, ◌+◌, ◌≤◌, min, Bool, true, false, Result, Ok, Err, if◌then◌else◌}
use Rattle.norm_base.specs.declared.fault.FileFault.{FileFault}
use Rattle.norm_base.specs.declared.fault.FabricFault.{FabricFault}
use Rattle.norm_base.specs.declared.fault.FileFault.TheVariants as file
use Rattle.norm_base.specs.declared.fault.FabricFault.TheVariants as network

-- How often an object of the outside failed is a number of 64 bits.

-- one more, up to the last number of 64 bits
abbrev pub one_more : ℕ → ℕ
one_more n = min (n + 1) 18446744073709551615

-- the count of faults after a call: one more where the call failed, and else the same
abbrev pub counted : ℕ → Bool → ℕ
counted before failed = if failed then one_more before else before

-- a call that failed raised the count of faults by one, and any other left it; it never falls
pub record Counts (before now : ℕ) (failed : Bool) : Type 0 where
  pub later : before ≤ now
  pub exact : now ≡ counted before failed

-- a call of files failed; an absent name is no fault
abbrev pub file_failed : {T : Type 0} → Result T FileFault → Bool
file_failed (Ok x) = false
file_failed (Err file.Absent) = false
file_failed (Err file.Failed) = true

-- a call of a network failed; want of memory is no fault
abbrev pub network_failed : {T : Type 0} → Result T FabricFault → Bool
network_failed (Ok x) = false
network_failed (Err network.Failed) = true
network_failed (Err network.Memory) = false
