-- How `gather` ends.
use Rattle.std.specs.Prelude.{◌≡◌, ◌⊎◌, ⊤, ℕ, List, [], ◌∷◌, ◌++◌, codes, None, Some, Ok}
use Rattle.norm_base.specs.Faults.{one_more}
use Rattle.norm_base.specs.Settings.{Settings}
use Rattle.norm_base.specs.Told.{gained}
use Rattle.norm_journal.specs.Jobs.{Told}
use Rattle.norm_multi.specs.Beginning.{fault_of}
use Rattle.norm_multi.specs.declared.multi.MultiFault.{MultiFault}
use Rattle.norm_profile.specs.Loading.{IsOfFile}
use Rattle.norm_show.specs.declared.fault.NoDatagram.{NoDatagram}
use Rattle.norm_turns.specs.declared.fault.SessionFault.{SessionFault}
use Rattle.norm_turns.specs.declared.fault.SessionFault.TheVariants as fault
use Rattle.driven_nodes.specs.Writing.{LeavesLines}
use Rattle.driven_nodes.specs.Gathered.{gathered}
use Rattle.norm_endings.specs.Outside.{Outside, Says, Undisturbed, Untouched, IsInput, FailedRead, refused_line}
use Rattle.norm_endings.specs.declared.status.Ending.{Ending}
use Rattle.norm_endings.specs.declared.status.Ending.TheVariants.{Done, Memory, Line, Profile, Read, Write}
use Rattle.norm_endings.specs.declared.status.ProfileFault.{ProfileFault}
use Rattle.norm_endings.specs.declared.status.ProfileFault.TheVariants.{Members}
use Rattle.norm_program.specs.NodeEnds.{EndsUnloaded, NoFault}

-- these profiles, with these nodes, are at the paths
abbrev pub AreLoaded : Told → List (List ℕ × ℕ) → List (Settings × ℕ) → Type 0
AreLoaded files [] [] = ⊤
AreLoaded files (pair ∷ pairs) (x ∷ list) = IsOfFile files pair.0 (Ok x.0) × (x.1 ≡ pair.1) × AreLoaded files pairs list
AreLoaded files _ _ = ⊥

-- A profile is the first that cannot be loaded.
pub record UnloadedPair (pairs : List (List ℕ × ℕ)) (ending : Ending) (before after : Outside) : Type 0 where
  pub front : List (List ℕ × ℕ)
  pub list : List (Settings × ℕ)
  pub pair : List ℕ × ℕ
  pub rest : List (List ℕ × ℕ)
  pub all : pairs ≡ front ++ pair ∷ rest
  pub loaded : AreLoaded before.called.files front list
  pub unloaded : EndsUnloaded pair.0 ending before after

-- All lines were taken, and what was written is what is printed of them.
pub record GatheredAll (list : List (Settings × ℕ)) (before after : Outside) : Type 0 where
  pub text : List ℕ
  pub input : IsInput text before.input after.input
  pub whole : (gathered list text).stop ≡ None
  pub output : after.written ≡ gained before.written (gathered list text).lines
  pub called : after.called ≡ before.called
  pub no_fault : NoFault before after

-- A line spells no datagram: what is printed of those before it was written, and a last line says which it is.
pub record GatheredToLine (list : List (Settings × ℕ)) (n : ℕ) (why : NoDatagram) (before after : Outside) : Type 0 where
  pub text : List ℕ
  pub input : IsInput text before.input after.input
  pub stop : (gathered list text).stop ≡ Some (n, why)
  pub output : Says (gained before.written (gathered list text).lines) after.written before.write_faults after.write_faults (refused_line n)
  pub called : after.called ≡ before.called
  pub undisturbed : Undisturbed before after

-- A fault left whole lines of what is printed; and if a write failed, a front of the next.
pub record GatheredLess (failed : SessionFault) (list : List (Settings × ℕ)) (before after : Outside) : Type 0 where
  pub text : List ℕ
  pub input : IsInput text before.input after.input
  pub output : LeavesLines failed before.written after.written (gathered list text).lines
  pub called : after.called ≡ before.called

-- One write failed.
pub record GatheredWrite (list : List (Settings × ℕ)) (before after : Outside) : Type 0 where
  pub cause : after.write_faults ≡ one_more before.write_faults
  pub less : GatheredLess fault.Write list before after
  pub undisturbed : Undisturbed before after

-- There was no memory, before anything was written or after whole lines. No call failed.
pub record GatheredSome (list : List (Settings × ℕ)) (before after : Outside) : Type 0 where
  pub some : Untouched before after ⊎ GatheredLess fault.Memory list before after
  pub no_fault : NoFault before after

-- The profiles and nodes are refused. A last line says so, and the input is not read.
pub record RefusedMembers (list : List (Settings × ℕ)) (why : ProfileFault) (before after : Outside) : Type 0 where
  pub refusal : MultiFault
  pub is : fault_of list ≡ Some refusal
  pub why_is : why ≡ Members refusal
  pub output : Says before.written after.written before.write_faults after.write_faults (codes "refused profile\n")
  pub unbegun : after ≡ record before { written = after.written; write_faults = after.write_faults }

-- what each ending says, under these profiles and nodes
abbrev pub EndsAmong : List (Settings × ℕ) → Ending → Outside → Outside → Type 0
EndsAmong list Done before after = GatheredAll list before after
EndsAmong list (Line n why) before after = GatheredToLine list n why before after
EndsAmong list (Profile why) before after = RefusedMembers list why before after
EndsAmong list Read before after = FailedRead before after
EndsAmong list Write before after = GatheredWrite list before after
EndsAmong list Memory before after = GatheredSome list before after
EndsAmong list _ before after = ⊥

-- what each ending of a gathering says, for these paths and nodes
abbrev pub EndsGather : List (List ℕ × ℕ) → Ending → Outside → Outside → Type 0
EndsGather pairs ending before after =
    UnloadedPair pairs ending before after
    ⊎ ((list : List (Settings × ℕ)) × AreLoaded before.called.files pairs list × EndsAmong list ending before after)
