-- How one node of a session over a network ends, and what each ending says. Its profile is loaded first.
use Rattle.std.specs.Prelude.{◌≡◌, ℕ, ◌+◌, List, ◌⊎◌, true, false, codes, Option, Ok}
use Rattle.norm_base.specs.Faults.{one_more}
use Rattle.norm_base.specs.Members.{is_receiver}
use Rattle.norm_base.specs.Settings.{Settings}
use Rattle.norm_base.specs.Told.{Pieces}
use Rattle.norm_node.specs.Hub.{Around, RunsHub, StopsHub, around}
use Rattle.norm_node.specs.Runs.{RunsReceiver, StopsReceiver}
use Rattle.norm_node.specs.Shown as shown
use Rattle.norm_profile.specs.Loading.{IsAbsent, IsOfFile, IsUnloaded}
use Rattle.norm_profile.specs.declared.loading.LoadFault.TheVariants as load
use Rattle.norm_profile.specs.declared.refusal.ProfileRefusal.{ProfileRefusal}
use Rattle.norm_turns.specs.declared.fault.SessionFault.{SessionFault}
use Rattle.norm_turns.specs.declared.fault.SessionFault.TheVariants as fault
use Rattle.norm_endings.specs.Outside.{Outside, Says, Undisturbed, absent_line}
use Rattle.norm_endings.specs.declared.status.Ending.{Ending}
use Rattle.norm_endings.specs.declared.status.Ending.TheVariants.{Done, Memory, Profile, Write, Fabric, Files, Absent}
use Rattle.norm_endings.specs.declared.status.ProfileFault.{ProfileFault}
use Rattle.norm_endings.specs.declared.status.ProfileFault.TheVariants.{Document, Node}
use Rattle.norm_program.specs.Asked.{Sender, with_instance}
use Rattle.norm_program.specs.Ends.{EndsScript}

-- ---- the profile

-- nothing was read, and no network and no clock were called; the files have what they had
pub record Unbegun (before after : Outside) : Type 0 where
  pub input : after.input ≡ before.input
  pub reads : after.read_faults ≡ before.read_faults
  pub files : after.called ≡ record before.called { file_faults = after.called.file_faults }

-- The profile's file is no document of a profile, or too long to be read. A last line says that the profile is refused.
pub record RefusedProfile (path : List ℕ) (why : ProfileRefusal) (before after : Outside) : Type 0 where
  pub cause : IsUnloaded before.called.files path (load.Refused why)
  pub output : Says before.written after.written before.write_faults after.write_faults (codes "refused profile\n")
  pub unbegun : Unbegun before after
  pub undisturbed : Undisturbed before after

-- The profile's file is not there. A last line has its path.
pub record AbsentProfile (path : List ℕ) (before after : Outside) : Type 0 where
  pub cause : IsAbsent before.called.files path
  pub output : Says before.written after.written before.write_faults after.write_faults (absent_line path)
  pub unbegun : Unbegun before after
  pub undisturbed : Undisturbed before after

-- One call of the files failed as the profile was read, and a last line says so.
pub record UnreadProfile (before after : Outside) : Type 0 where
  pub cause : after.called.file_faults ≡ one_more before.called.file_faults
  pub output : Says before.written after.written before.write_faults after.write_faults (codes "fault files\n")
  pub unbegun : Unbegun before after

-- There was no memory for the profile, and nothing was done.
pub record WantedForProfile (before after : Outside) : Type 0 where
  pub output : after.written ≡ before.written
  pub writes : after.write_faults ≡ before.write_faults
  pub unbegun : Unbegun before after
  pub undisturbed : Undisturbed before after

-- how the file at a path gives no profile
abbrev pub EndsUnloaded : List ℕ → Ending → Outside → Outside → Type 0
EndsUnloaded path (Profile (Document why)) before after = RefusedProfile path why before after
EndsUnloaded path (Absent name) before after = (name ≡ path) × AbsentProfile path before after
EndsUnloaded path Files before after = UnreadProfile before after
EndsUnloaded path Memory before after = WantedForProfile before after
EndsUnloaded path _ before after = ⊥

-- what a node did under the profile that the file at a path is; or how that gives none
abbrev pub EndsUnder : List ℕ → (Settings → Ending → Outside → Outside → Type 0) → Ending → Outside → Outside → Type 0
EndsUnder path Ends ending before after =
    EndsUnloaded path ending before after ⊎ ((p : Settings) × IsOfFile before.called.files path (Ok p) × Ends p ending before after)

-- ---- a run that a fault broke off

-- as it was when this was written
abbrev pub unsaid_as : Outside → Pieces → Outside
unsaid_as o unsaid = record o { written = unsaid }

-- no call failed, beside writes
abbrev pub NoFault : Outside → Outside → Type 0
NoFault before after = Undisturbed before after × (after.write_faults ≡ before.write_faults)

-- One write failed, and that broke the run off.
pub record BrokenWrite (Stops : SessionFault → Outside → Type 0) (before after : Outside) : Type 0 where
  pub cause : after.write_faults ≡ one_more before.write_faults
  pub run : Stops fault.Write after
  pub undisturbed : Undisturbed before after

-- One call of the network failed. That broke the run off, and a last line says so.
pub record BrokenNetwork (Stops : SessionFault → Outside → Type 0) (before after : Outside) : Type 0 where
  pub cause : after.called.network_faults ≡ one_more before.called.network_faults
  pub unsaid : Pieces
  pub run : Stops fault.Fabric (unsaid_as after unsaid)
  pub output : Says unsaid after.written before.write_faults after.write_faults (codes "fault fabric\n")
  pub reads : after.read_faults ≡ before.read_faults
  pub files : after.called.file_faults ≡ before.called.file_faults

-- One call of the files failed. That broke the run off, and a last line says so.
pub record BrokenFiles (Stops : SessionFault → Outside → Type 0) (before after : Outside) : Type 0 where
  pub cause : after.called.file_faults ≡ one_more before.called.file_faults
  pub unsaid : Pieces
  pub run : Stops fault.Files (unsaid_as after unsaid)
  pub output : Says unsaid after.written before.write_faults after.write_faults (codes "fault files\n")
  pub reads : after.read_faults ≡ before.read_faults
  pub calls : after.called.network_faults ≡ before.called.network_faults

-- what each ending says of a run that a fault broke off, by what the fault left
abbrev pub EndsBroken : (SessionFault → Outside → Type 0) → Ending → Outside → Outside → Type 0
EndsBroken Stops Memory before after = Stops fault.Memory after × NoFault before after
EndsBroken Stops Write before after = BrokenWrite Stops before after
EndsBroken Stops Fabric before after = BrokenNetwork Stops before after
EndsBroken Stops Files before after = BrokenFiles Stops before after
EndsBroken Stops _ before after = ⊥

-- ---- a receiver

-- what a receiver's run is told
abbrev pub seen : Outside → shown.Outside
seen o = shown.outside o.called.network o.written o.called.files o.called.moments

-- why a node is no receiver: the profile's are those from the first to the last
abbrev pub no_receiver : Settings → ℕ → ProfileFault
no_receiver p node = Node node (p.sender + 1) (p.sender + p.receivers)

-- The node is none of the profile's receivers. A last line says that the profile is refused.
pub record NoReceiver (p : Settings) (node : ℕ) (why : ProfileFault) (before after : Outside) : Type 0 where
  pub is_none : is_receiver p node ≡ false
  pub why_is : why ≡ no_receiver p node
  pub output : Says before.written after.written before.write_faults after.write_faults (codes "refused profile\n")
  pub unbegun : after ≡ record before { written = after.written; write_faults = after.write_faults }

-- A receiver's run was made.
pub record Received (p : Settings) (node : ℕ) (before after : Outside) : Type 0 where
  pub is_one : is_receiver p node ≡ true
  pub run : RunsReceiver p node (seen before) (seen after)
  pub input : after.input ≡ before.input
  pub no_fault : NoFault before after

-- What a fault left of a receiver's run.
pub record BrokenReceiver (p : Settings) (node : ℕ) (before : Outside) (failed : SessionFault) (after : Outside) : Type 0 where
  pub is_one : is_receiver p node ≡ true
  pub run : StopsReceiver failed p node (seen before) (seen after)
  pub input : after.input ≡ before.input

-- how the receiver of a node ends, under a profile
abbrev pub EndsReceiver : ℕ → Settings → Ending → Outside → Outside → Type 0
EndsReceiver node p Done before after = Received p node before after
EndsReceiver node p (Profile why) before after = NoReceiver p node why before after
EndsReceiver node p ending before after = EndsBroken (BrokenReceiver p node before) ending before after

-- ---- the hub

-- what a hub's run is told
abbrev pub heard : Outside → Around
heard o = around o.called.network o.called.moments

-- all that a hub does not call is as it was
pub record Uncalled (before after : Outside) : Type 0 where
  pub input : after.input ≡ before.input
  pub output : after.written ≡ before.written
  pub files : after.called.files ≡ before.called.files

-- A hub's run was made, and nothing was printed.
pub record Passed (p : Settings) (before after : Outside) : Type 0 where
  pub run : RunsHub p (heard before) (heard after)
  pub uncalled : Uncalled before after
  pub no_fault : NoFault before after

-- What a fault left of a hub's run.
pub record BrokenHub (p : Settings) (before : Outside) (failed : SessionFault) (after : Outside) : Type 0 where
  pub run : StopsHub failed p (heard before) (heard after)
  pub uncalled : Uncalled before after

-- how a hub ends, under a profile
abbrev pub EndsHub : Settings → Ending → Outside → Outside → Type 0
EndsHub p Done before after = Passed p before after
EndsHub p ending before after = EndsBroken (BrokenHub p before) ending before after

-- ---- the sender

-- how a sender that is alone ends, under a profile with the instance that is given in place of its own
abbrev pub EndsSender : Option ℕ → Settings → Ending → Outside → Outside → Type 0
EndsSender instance p ending before after = EndsScript (Sender (with_instance instance p)) ending before after
