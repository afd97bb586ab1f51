use Rattle.std.proofs.Common.{◌≡◌, take}
use Rattle.norm_program.specs.GatherEnds.{AreLoaded}
use Rattle.norm_program.proofs.gather.load_all.Given as goal

abbrev pub invariant-loop-pair : goal.invariant-loop-pair
invariant-loop-pair g l = record {
  loaded : AreLoaded (g.D.Files.contents l.initial.files) (take l.pair-index l.pairs) l.members.items;
  same : g.D.Files.contents l.files ≡ g.D.Files.contents l.initial.files;
  written : g.K.Sink.pieces l.output ≡ g.K.Sink.pieces l.initial.output;
  writes : g.K.Sink.fault_count l.output ≡ g.K.Sink.fault_count l.initial.output;
  faults : g.D.Files.fault_count l.files ≡ g.D.Files.fault_count l.initial.files;
}
