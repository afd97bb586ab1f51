use Rattle.std.proofs.Common.{◌≡◌, ◌≤◌, length}
use Rattle.norm_script.specs.Folder.{folder_head_from}
use Rattle.norm_script.specs.Head.{nothing_set}
use Rattle.norm_script.specs.Text.{text_lines}
use Rattle.norm_script.proofs.folder.read_folder_head.Given as goal

-- the head goes on from here
abbrev pub invariant-lines : goal.invariant-lines
invariant-lines l =
    (folder_head_from nothing_set 1 (text_lines l.text) ≡ folder_head_from l.head l.n (text_lines l.rest)) × (l.n ≤ 8193)

abbrev pub decreases-lines : goal.decreases-lines
decreases-lines l = length l.rest
