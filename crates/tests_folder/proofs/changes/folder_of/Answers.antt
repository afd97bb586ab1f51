use Rattle.std.proofs.Common.{◌∙◌, sym}
use Rattle.norm_folder.proofs.FolderLemmas.{folder_is}
use Rattle.tests_folder.proofs.changes.folder_of.Goals as goal

-- a folder that is read is one
pub returns-in-Ok-Ok : goal.returns-in-Ok-Ok
returns-in-Ok-Ok c = folder_is c.args.text.now c.in-Ok-Ok.folder (sym c.in-Ok-Ok.ensures ∙ c.in-Ok-Ok.field-0-is)
