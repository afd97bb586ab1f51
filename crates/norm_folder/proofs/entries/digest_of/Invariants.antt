use Rattle.std.proofs.Common.{◌≡◌, ◌-◌, ◌<◌, length}
use Rattle.norm_folder.specs.Reading.{HasRead}
use Rattle.norm_folder.proofs.entries.digest_of.Given as goal

abbrev pub invariant-pieces : goal.invariant-pieces
invariant-pieces g l = record {
  read : HasRead (g.D.Files.contents l.fn.files) l.fn.name l.len l.done l.hasher;
  same : g.D.Files.contents l.files ≡ g.D.Files.contents l.fn.files;
  faults : g.D.Files.fault_count l.files ≡ g.D.Files.fault_count l.fn.files;
  room : 0 < length l.buf;
}

abbrev pub decreases-pieces : goal.decreases-pieces
decreases-pieces g l = l.len - l.done
