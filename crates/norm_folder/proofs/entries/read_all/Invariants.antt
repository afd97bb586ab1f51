use Rattle.std.proofs.Common.{◌≡◌, ◌<◌, length, take}
use Rattle.norm_folder.specs.Entries.{AreRead}
use Rattle.norm_folder.proofs.entries.read_all.Given as goal

-- the entries of the files so far
abbrev pub invariant-loop-file : goal.invariant-loop-file
invariant-loop-file g l = record {
  read : AreRead (g.D.Files.contents l.initial.files) (take l.file-index l.measured) l.entries.items;
  same : g.D.Files.contents l.files ≡ g.D.Files.contents l.initial.files;
  faults : g.D.Files.fault_count l.files ≡ g.D.Files.fault_count l.initial.files;
  room : 0 < length l.buf;
}
