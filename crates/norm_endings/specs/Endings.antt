-- How the parts of a command end the program.
use Rattle.std.specs.Prelude.{◌≡◌, ℕ, List, [], ◌∷◌, Bool, true, false, codes, Err}
use Rattle.norm_base.specs.Faults.{one_more, counted}
use Rattle.norm_base.specs.Told.{Pieces, gained, GainsFront}
use Rattle.norm_journal.specs.Jobs.{Told}
use Rattle.norm_turns.specs.declared.fault.SessionFault.{SessionFault}
use Rattle.norm_turns.specs.declared.fault.SessionFault.TheVariants as fault
use Rattle.norm_profile.specs.Loading.{IsUnloaded, has_failed}
use Rattle.norm_profile.specs.declared.loading.LoadFault.{LoadFault}
use Rattle.norm_profile.specs.declared.loading.LoadFault.TheVariants as load
use Rattle.norm_endings.specs.declared.status.Ending.{Ending}
use Rattle.norm_endings.specs.declared.status.Ending.TheVariants.{Done, Memory, Read, Write, Fabric, Files, Absent, Spent, Profile}
use Rattle.norm_endings.specs.Outside.{Says, absent_line}
use Rattle.norm_endings.specs.declared.status.ProfileFault.{ProfileFault}
use Rattle.norm_endings.specs.declared.status.ProfileFault.TheVariants.{Document}

-- how a read of the whole input failed
abbrev pub IsReadEnding : Ending → (before after : ℕ) → (unwritten written : Pieces) → (old new : ℕ) → Type 0
IsReadEnding Memory before after unwritten written old new = (after ≡ before) × (written ≡ unwritten) × (new ≡ old)
IsReadEnding Read before after unwritten written old new =
    (after ≡ one_more before) × Says unwritten written old new (codes "fault read\n")
IsReadEnding _ before after unwritten written old new = ⊥

-- how a session that ran ends the program
abbrev pub IsLastEnding : Ending → Bool → (unwritten written : Pieces) → (before after : ℕ) → Type 0
IsLastEnding Done whole unwritten written before after = (whole ≡ true) × (written ≡ unwritten) × (after ≡ before)
IsLastEnding Spent whole unwritten written before after =
    (whole ≡ false) × (written ≡ gained unwritten (codes "turns spent\n" ∷ [])) × (after ≡ before)
IsLastEnding Write whole unwritten written before after =
    (whole ≡ false) × GainsFront unwritten written (codes "turns spent\n") × (after ≡ one_more before)
IsLastEnding _ whole unwritten written before after = ⊥

-- how an absent file ends the program: its name is said, or there was no memory for that
abbrev pub IsAbsentEnding : Ending → List ℕ → (unwritten written : Pieces) → (before after : ℕ) → Type 0
IsAbsentEnding (Absent said) name unwritten written before after = (said ≡ name) × Says unwritten written before after (absent_line name)
IsAbsentEnding Memory name unwritten written before after = (written ≡ unwritten) × (after ≡ before)
IsAbsentEnding _ name unwritten written before after = ⊥

-- how a session that a fault stopped ends the program
abbrev pub IsStoppedEnding : SessionFault → Ending → (unwritten written : Pieces) → (before after : ℕ) → Type 0
IsStoppedEnding fault.Memory ending unwritten written before after = (ending ≡ Memory) × (written ≡ unwritten) × (after ≡ before)
IsStoppedEnding fault.Write ending unwritten written before after = (ending ≡ Write) × (written ≡ unwritten) × (after ≡ before)
IsStoppedEnding fault.Fabric ending unwritten written before after =
    (ending ≡ Fabric) × Says unwritten written before after (codes "fault fabric\n")
IsStoppedEnding fault.Files ending unwritten written before after =
    (ending ≡ Files) × Says unwritten written before after (codes "fault files\n")
IsStoppedEnding (fault.Absent name) ending unwritten written before after = IsAbsentEnding ending name unwritten written before after

-- how a profile that is refused ends the program
abbrev pub IsRefusing : Ending → ProfileFault → (unwritten written : Pieces) → (before after : ℕ) → Type 0
IsRefusing ending why unwritten written before after =
    (ending ≡ Profile why) × Says unwritten written before after (codes "refused profile\n")

-- how a file that gives no profile ends the program
abbrev pub IsUnloadedEnding : LoadFault → Ending → List ℕ → (unwritten written : Pieces) → (before after : ℕ) → Type 0
IsUnloadedEnding (load.Refused why) ending path unwritten written before after = IsRefusing ending (Document why) unwritten written before after
IsUnloadedEnding load.Absent ending path unwritten written before after = IsAbsentEnding ending path unwritten written before after
IsUnloadedEnding load.Failed ending path unwritten written before after =
    (ending ≡ Files) × Says unwritten written before after (codes "fault files\n")
IsUnloadedEnding load.Memory ending path unwritten written before after = (ending ≡ Memory) × (written ≡ unwritten) × (after ≡ before)

-- What a load left that gave no profile: why, what the count of the files' faults is then, and how that ends the program.
pub record IsLoading (path : List ℕ) (ending : Ending) (files : Told) (unwritten written : Pieces) (before after faults now : ℕ) : Type 0 where
  pub failed : LoadFault
  pub cause : IsUnloaded files path failed
  pub count : now ≡ counted faults (has_failed {T = ℕ} (Err failed))
  pub said : IsUnloadedEnding failed ending path unwritten written before after
