-- What a fault of the outside is to a run, and its cause: which call failed, as the counts of faults say.
use Rattle.std.specs.Prelude.{◌≡◌, ℕ, Result, Ok, Err}
use Rattle.norm_base.specs.Faults.{one_more}
use Rattle.norm_base.specs.declared.fault.FabricFault.{FabricFault}
use Rattle.norm_base.specs.declared.fault.FabricFault.TheVariants as network
use Rattle.norm_turns.specs.declared.fault.SessionFault.{SessionFault}
use Rattle.norm_turns.specs.declared.fault.SessionFault.TheVariants.{Write, Fabric, Files, Absent, Memory}

-- a call of the network failed, or wanted memory
abbrev pub session_fault : FabricFault → SessionFault
session_fault network.Failed = Fabric
session_fault network.Memory = Memory

-- How often each of the outside failed: the output, the network, and the files.
pub record Counted : Type 0 where
  pub output : ℕ
  pub network : ℕ
  pub files : ℕ

abbrev pub counted : (output network files : ℕ) → Counted
counted output network files = record { output = output; network = network; files = files }

-- the counts after this fault: that of the call that failed rose by one, and no other
abbrev pub counts_after : SessionFault → Counted → Counted
counts_after Write c = record c { output = one_more c.output }
counts_after Fabric c = record c { network = one_more c.network }
counts_after Files c = record c { files = one_more c.files }
counts_after (Absent name) c = c
counts_after Memory c = c

-- A fault has its cause. Where all went well no call failed, nor where a file is absent or memory was wanted.
abbrev pub HasCause : {T : Type 0} → Result T SessionFault → (before now : Counted) → Type 0
HasCause (Ok x) before now = now ≡ before
HasCause (Err fault) before now = now ≡ counts_after fault before

-- a part that only writes
abbrev pub WriteCause : {T : Type 0} → Result T SessionFault → (before now : ℕ) → Type 0
WriteCause result before now = (network files : ℕ) → HasCause result (counted before network files) (counted now network files)

-- a part that only calls the network
abbrev pub NetworkCause : {T : Type 0} → Result T SessionFault → (before now : ℕ) → Type 0
NetworkCause result before now = (output files : ℕ) → HasCause result (counted output before files) (counted output now files)

-- a part that only calls the files
abbrev pub FilesCause : {T : Type 0} → Result T SessionFault → (before now : ℕ) → Type 0
FilesCause result before now = (output network : ℕ) → HasCause result (counted output network before) (counted output network now)

-- a part that calls nothing of the outside
abbrev pub NeedsMemory : {T : Type 0} → Result T SessionFault → Type 0
NeedsMemory (Ok x) = Unit {0}
NeedsMemory (Err fault) = fault ≡ Memory
