-- The script that sends the folder which a text names.
use Rattle.std.specs.Prelude.{ℕ, ◌≡◌, List, Ok}
use Rattle.norm_journal.specs.Jobs.{Told}
use Rattle.norm_mirror.specs.declared.entry.Entry.{Entry}
use Rattle.norm_script.specs.Commands.{Commands}
use Rattle.norm_script.specs.Folder.{Folder, folder_of}
use Rattle.norm_folder.specs.Entries.{AreEntries, ordered}
use Rattle.norm_arrival.specs.FolderScript.{folder_script}

-- A script is that of the folder which a text names.
pub record IsFolderScript (files : Told) (text : List ℕ) (script : Commands) : Type 0 where
  pub folder : Folder
  pub entries : List Entry
  pub read : folder_of text ≡ Ok folder
  pub are : AreEntries files (ordered folder) entries
  pub script_is : script ≡ folder_script folder.profile entries
