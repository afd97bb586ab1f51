use Rattle.std.proofs.Common.{◌≡◌, ◌≤◌}
use Rattle.norm_session.specs.Lending.{failures, names, spanned}
use Rattle.norm_session.proofs.TurnsLemmas.{HasTurned}
use Rattle.norm_session.proofs.run.Run.turns.Given as goal

abbrev pub invariant-loop : goal.invariant-loop
invariant-loop g l = record {
  turned : HasTurned l.script (g.D.Files.contents l.initial.lent.files.now) l.initial.self l.self
      (spanned g.K.Sink g.F.Fabric g.C.Clock l.initial.lent l.lent l.initial.board l.board) l.counter;
  same_parts : names l.lent ≡ names l.initial.lent;
  within : l.counter ≤ l.end;
  same : g.D.Files.contents l.lent.files.now ≡ g.D.Files.contents l.initial.lent.files.now;
  counts : failures g.K.Sink g.F.Fabric g.D.Files l.lent ≡ failures g.K.Sink g.F.Fabric g.D.Files l.initial.lent;
}
