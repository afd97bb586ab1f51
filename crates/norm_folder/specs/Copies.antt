-- The copies that are put of what receivers handed up.
use Rattle.std.specs.Prelude.{ℕ, ◌≡◌, List, [], ◌∷◌, ◌++◌, codes, Some, IfSome, if◌then◌else◌}
use Rattle.std.specs.Fmt.{decimal}
use Rattle.std.specs.List.{flat_map}
use Rattle.norm_base.specs.Contents.{content_of, ChangesOnly}
use Rattle.norm_base.specs.declared.kinds.Kind.TheVariants as kind
use Rattle.norm_journal.specs.Jobs.{Told}
use Rattle.norm_order.specs.declared.up.Up.{Up}
use Rattle.norm_order.specs.declared.up.Up.TheVariants as up
use Rattle.norm_script.specs.Words.{is_file_name}
use Rattle.norm_turns.specs.declared.fault.SessionFault.{SessionFault}
use Rattle.norm_turns.specs.declared.fault.SessionFault.TheVariants as fault
use Rattle.norm_arrival.specs.HandedBy.{ups_of}

-- ---- which copies

-- the name of a receiver's copy of a file
unfoldable pub copy_name : ℕ → List ℕ → List ℕ
copy_name node name = codes "n" ++ (decimal node ++ (codes "-" ++ name))

-- a file that was handed up, under the name of its copy; a name that no folder has makes none
abbrev pub copy_of : ℕ → Up → List (List ℕ × List ℕ)
copy_of node (up.Object index kind.File (Some name) octets) = if is_file_name name then (copy_name node name, octets) ∷ [] else []
copy_of node hand_up = []

-- the copies of one receiver, in the order of its hand-ups
abbrev pub copies_by : List (ℕ × Up) → ℕ → List (List ℕ × List ℕ)
copies_by handed node = flat_map (copy_of node) (ups_of node handed)

-- the copies of these receivers, one receiver after the other
abbrev pub copies : List (ℕ × Up) → List ℕ → List (List ℕ × List ℕ)
copies handed nodes = flat_map (copies_by handed) nodes

-- ---- what the files have then

-- A file was put: its name has these octets, and all others have what they had.
pub record IsPut (file : List ℕ × List ℕ) (before after : Told) : Type 0 where
  pub content : IfSome after (λ files. content_of files file.0 ≡ Some file.1)
  pub others : ChangesOnly before after file.0

-- files were put one after the other
abbrev pub ArePut : List (List ℕ × List ℕ) → (before after : Told) → Type 0
ArePut [] before after = after ≡ before
ArePut (file ∷ files) before after = (between : Told) × IsPut file before between × ArePut files between after

-- Those before one were put, and the put of that one failed: what it has is open, and all others have what they had.
pub record FailedPut (files : List (List ℕ × List ℕ)) (before after : Told) : Type 0 where
  pub front : List (List ℕ × List ℕ)
  pub file : List ℕ × List ℕ
  pub rest : List (List ℕ × List ℕ)
  pub are : files ≡ front ++ file ∷ rest
  pub between : Told
  pub put : ArePut front before between
  pub others : ChangesOnly between after file.0

-- There was no memory for one: those before it were put.
pub record LackedPut (files : List (List ℕ × List ℕ)) (before after : Told) : Type 0 where
  pub front : List (List ℕ × List ℕ)
  pub rest : List (List ℕ × List ℕ)
  pub are : files ≡ front ++ rest
  pub put : ArePut front before after

-- what a fault leaves of puts
abbrev pub StopsPuts : SessionFault → List (List ℕ × List ℕ) → (before after : Told) → Type 0
StopsPuts fault.Files files before after = FailedPut files before after
StopsPuts fault.Memory files before after = LackedPut files before after
StopsPuts _ files before after = ⊥
