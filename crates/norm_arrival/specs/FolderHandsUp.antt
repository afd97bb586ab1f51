-- What each receiver hands up in a whole run of a folder's script, octet for octet.
use Rattle.std.specs.Prelude.{◌≡◌, ℕ, ◌+◌, List, [], ◌∷◌, Contains, None, Some, unwrap_or}
use Rattle.norm_base.specs.Contents.{content_of}
use Rattle.norm_base.specs.Members.{receivers_of}
use Rattle.norm_base.specs.Settings.{Settings, InRange}
use Rattle.norm_base.specs.declared.kinds.Kind.TheVariants as kind
use Rattle.norm_order.specs.declared.up.Up.{Up}
use Rattle.norm_order.specs.declared.up.Up.TheVariants as up
use Rattle.norm_safety.specs.Safe.{Safe}
use Rattle.norm_journal.specs.Judged.{judged_opening}
use Rattle.norm_journal.specs.SessionRun.{SessionRun, Whole}
use Rattle.norm_journal.specs.WorldEvents.{world_events}
use Rattle.norm_journal.specs.declared.event.Event.{Event}
use Rattle.norm_record.specs.HandedUp.{handed_up}
use Rattle.norm_mirror.specs.Manifest.{manifest_text}
use Rattle.norm_mirror.specs.declared.entry.Entry.{Entry}
use Rattle.norm_arrival.specs.FolderArrives.{IsClean}
use Rattle.norm_arrival.specs.FolderScript.{folder_script}
use Rattle.norm_arrival.specs.HandedBy.{ups_of}

-- the files of these entries with the octets that they have, from this index on
abbrev pub file_ups : List (List ℕ × List ℕ) → ℕ → List Entry → List Up
file_ups files n [] = []
file_ups files n (e ∷ entries) = up.Object n kind.File (Some e.name) (unwrap_or (content_of files e.name) []) ∷ file_ups files (n + 1) entries

-- a folder: its manifest, and then its files
abbrev pub folder_ups : List (List ℕ × List ℕ) → List Entry → List Up
folder_ups files entries = up.Object 0 kind.Data None (manifest_text entries) ∷ file_ups files 1 entries

-- A whole run of a folder's script that is safe hands up exactly this at each receiver, if nothing was refused or expired.
abbrev pub FolderHandsUp : Type 0
FolderHandsUp = (p : Settings) → InRange p → (entries : List Entry) (files : List (List ℕ × List ℕ))
    → let script = folder_script p entries in let nodes = receivers_of p p.receivers in
    (journal : List Event) → SessionRun script (Some files) journal Whole
    → Safe p (world_events (judged_opening script (Some files) nodes) journal) → IsClean journal
    → (node : ℕ) → Contains nodes node → ups_of node (handed_up journal) ≡ folder_ups files entries
