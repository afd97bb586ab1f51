use Rattle.std.proofs.Common.{◌≡◌, ◌∙◌, Ok, sym}
use Rattle.norm_script.specs.Folder.{folder_of}
use Rattle.norm_folder.proofs.FolderLemmas.{folder_is}
use Rattle.norm_program.proofs.mirror.read_names.Goals as goal

-- what is read is a folder
pub returns-in-Ok-Ok-clause-folder : goal.returns-in-Ok-Ok-clause-folder
returns-in-Ok-Ok-clause-folder g c =
    let is : folder_of c.args.text.now ≡ Ok c.in-Ok-Ok.folder = sym c.in-Ok-Ok.ensures ∙ c.in-Ok-Ok.field-0-is in
    (is, folder_is c.args.text.now c.in-Ok-Ok.folder is)
