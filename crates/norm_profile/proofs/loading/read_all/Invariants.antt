use Rattle.std.proofs.Common.{◌≡◌, ◌-◌, ◌<◌, length}
use Rattle.norm_profile.specs.Loading.{IsReading}
use Rattle.norm_profile.proofs.loading.read_all.Given as goal

abbrev pub invariant-loop-files : goal.invariant-loop-files
invariant-loop-files g l = record {
  reading : IsReading (g.D.Files.contents l.fn.files) l.fn.name l.len l.octets.items;
  same : g.D.Files.contents l.files ≡ g.D.Files.contents l.fn.files;
  count : g.D.Files.fault_count l.files ≡ g.D.Files.fault_count l.fn.files;
  room : 0 < length l.buf.items;
}

abbrev pub decreases-loop-files : goal.decreases-loop-files
decreases-loop-files g l = l.len - length l.octets.items
