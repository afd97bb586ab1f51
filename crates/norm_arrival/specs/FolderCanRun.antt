-- The script of a folder is one that a session can run.
use Rattle.std.specs.Prelude.{List}
use Rattle.norm_base.specs.Settings.{Settings, InRange}
use Rattle.norm_script.specs.Scripts.{CanRun}
use Rattle.norm_mirror.specs.Manifest.{IsManifest}
use Rattle.norm_mirror.specs.declared.entry.Entry.{Entry}
use Rattle.norm_arrival.specs.FolderScript.{folder_script}

-- of each folder, under a profile within its ranges
abbrev pub FolderCanRun : Type 0
FolderCanRun = (p : Settings) → InRange p → (entries : List Entry) → IsManifest entries → CanRun (folder_script p entries)
