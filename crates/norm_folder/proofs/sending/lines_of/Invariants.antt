use Rattle.std.proofs.Common.{◌≡◌, take}
use Rattle.norm_mirror.specs.Manifest.{manifest_text}
use Rattle.norm_folder.proofs.SendingLemmas.{lines_at}
use Rattle.norm_folder.proofs.sending.lines_of.Given as goal

-- the commands of the files so far
abbrev pub invariant-loop-entry : goal.invariant-loop-entry
invariant-loop-entry l = l.lines.items ≡ lines_at (manifest_text l.entries) (take l.entry-index l.entries)
