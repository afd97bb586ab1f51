-- A file that was sent with other octets than its manifest says is refused by whoever hands it up.
use Rattle.std.specs.Prelude.{◌≡◌, ◌≢◌, ℕ, List, None, Some, slice_get}
use Rattle.norm_base.specs.Members.{receivers_of}
use Rattle.norm_base.specs.Settings.{Settings}
use Rattle.norm_order.specs.declared.up.Up.{Up}
use Rattle.norm_safety.specs.Safe.{Safe}
use Rattle.norm_journal.specs.Jobs.{Told}
use Rattle.norm_journal.specs.Judged.{Judged, judged_opening}
use Rattle.norm_journal.specs.SessionRun.{judged}
use Rattle.norm_journal.specs.WorldEvents.{world_events}
use Rattle.norm_journal.specs.declared.event.Event.{Event}
use Rattle.norm_record.specs.HandedUp.{handed_up}
use Rattle.norm_mirror.specs.Checking.{checked}
use Rattle.norm_mirror.specs.Folder.{IsOtherThan}
use Rattle.norm_mirror.specs.Manifest.{IsManifest}
use Rattle.norm_mirror.specs.declared.entry.Entry.{Entry}
use Rattle.norm_arrival.specs.FolderScript.{folder_script}
use Rattle.norm_arrival.specs.HandedBy.{ups_of}

-- Of the beginning of a run of a folder's script that is safe, as each is over an honest network, whether its files are told or not: if a
-- node handed up a file that has another length or digest than the entry of its name, then the check of its hand-ups refused.
abbrev pub FolderDiffers : Type 0
FolderDiffers = (p : Settings) (entries : List Entry) (files : Told) → IsManifest entries
    → let script = folder_script p entries in let nodes = receivers_of p p.receivers in
    (journal : List Event) (last : Judged) → judged script files nodes journal ≡ Some last
    → Safe p (world_events (judged_opening script files nodes) journal)
    → (node i n : ℕ) (e : Entry) (hand_up : Up) → slice_get entries i ≡ Some e
    → slice_get (ups_of node (handed_up journal)) n ≡ Some hand_up → IsOtherThan e hand_up
    → (checked (ups_of node (handed_up journal))).refused ≢ None
