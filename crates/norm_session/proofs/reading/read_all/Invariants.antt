use Rattle.std.proofs.Common.{◌≡◌, ◌-◌, ◌<◌, length}
use Rattle.norm_session.specs.Reading.{HasPart, IsReading, octets_at, octets_there}
use Rattle.norm_session.proofs.reading.read_all.Given as goal

abbrev pub invariant-pieces : goal.invariant-pieces
invariant-pieces g l = record {
  reading : IsReading l.fn.world l.world (g.D.Files.contents l.fn.files) l.fn.name l.len (octets_there l.world);
  part : HasPart l.world l.fn.name l.len l.done;
  copy : l.copied ≡ octets_at l.keeps (octets_there l.world);
  same : g.D.Files.contents l.files ≡ g.D.Files.contents l.fn.files;
  count : g.D.Files.fault_count l.files ≡ g.D.Files.fault_count l.fn.files;
  room : 0 < length l.buf;
}

abbrev pub decreases-pieces : goal.decreases-pieces
decreases-pieces g l = l.len - l.done
