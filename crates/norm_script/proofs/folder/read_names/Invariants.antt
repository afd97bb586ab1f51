use Rattle.std.proofs.Common.{◌≡◌, ◌≤◌, [], length}
use Rattle.norm_script.specs.Folder.{take_name_lines}
use Rattle.norm_script.specs.Text.{text_lines}
use Rattle.norm_script.proofs.folder.read_names.Given as goal

-- the reading goes on from here
abbrev pub invariant-lines : goal.invariant-lines
invariant-lines l =
    (take_name_lines [] l.fn.n (text_lines l.text) ≡ take_name_lines l.names.items l.n (text_lines l.rest)) × (l.n ≤ 8193)

abbrev pub decreases-lines : goal.decreases-lines
decreases-lines l = length l.rest
