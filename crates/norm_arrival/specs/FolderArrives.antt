-- A folder arrives: a whole run of its script hands it up at each receiver.
use Rattle.std.specs.Prelude.{◌≡◌, ℕ, List, length, Contains, count_by, Some}
use Rattle.std.specs.List.{AllByRecursion}
use Rattle.sha2.specs.Sha256.{sha256}
use Rattle.norm_base.specs.Contents.{content_of}
use Rattle.norm_base.specs.Members.{receivers_of}
use Rattle.norm_base.specs.Settings.{Settings, InRange}
use Rattle.norm_safety.specs.Safe.{Safe}
use Rattle.norm_journal.specs.Counts.{is_expired}
use Rattle.norm_journal.specs.Judged.{judged_opening}
use Rattle.norm_journal.specs.SessionRun.{SessionRun, Whole}
use Rattle.norm_journal.specs.WorldEvents.{world_events}
use Rattle.norm_journal.specs.declared.event.Event.{Event}
use Rattle.norm_record.specs.Counted.{is_refused}
use Rattle.norm_record.specs.HandedUp.{handed_up}
use Rattle.norm_mirror.specs.Folder.{IsFolder}
use Rattle.norm_mirror.specs.Manifest.{IsManifest}
use Rattle.norm_mirror.specs.declared.entry.Entry.{Entry}
use Rattle.norm_arrival.specs.FolderScript.{folder_script}
use Rattle.norm_arrival.specs.HandedBy.{ups_of}

-- an entry is that of the file of its name, which has these octets
pub record IsEntryOf (files : List (List ℕ × List ℕ)) (e : Entry) : Type 0 where
  pub octets : List ℕ
  pub there : content_of files e.name ≡ Some octets
  pub len : length octets ≡ e.len
  pub digest : sha256 octets ≡ e.digest

-- entries are a folder's, in order of name
pub record AreEntriesOf (files : List (List ℕ × List ℕ)) (entries : List Entry) : Type 0 where
  pub manifest : IsManifest entries
  pub each : AllByRecursion (IsEntryOf files) entries

-- nothing was refused for good, and no request expired
pub record IsClean (journal : List Event) : Type 0 where
  pub refused : count_by is_refused journal ≡ 0
  pub expired : count_by is_expired journal ≡ 0

-- A whole run of a folder's script that is safe, as each is over an honest network, hands the folder up at each receiver, if nothing was
-- refused or expired and the files were what the manifest says.
abbrev pub FolderArrives : Type 0
FolderArrives = (p : Settings) → InRange p → (entries : List Entry) (files : List (List ℕ × List ℕ)) → AreEntriesOf files entries
    → let script = folder_script p entries in let nodes = receivers_of p p.receivers in
    (journal : List Event) → SessionRun script (Some files) journal Whole
    → Safe p (world_events (judged_opening script (Some files) nodes) journal) → IsClean journal
    → (node : ℕ) → Contains nodes node → IsFolder entries (ups_of node (handed_up journal))
