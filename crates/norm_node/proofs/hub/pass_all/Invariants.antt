use Rattle.std.proofs.Common.{◌≡◌, ℕ, List, Option}
use Rattle.norm_base.specs.Settings.{Settings}
use Rattle.norm_node.specs.Hub.{Around, around, HubAt, HubKept, Listening}
use Rattle.norm_node.proofs.HubLemmas.{listens_from}
use Rattle.norm_node.proofs.hub.pass_all.Given as goal

abbrev pub invariant-loop : goal.invariant-loop
invariant-loop g l = record {
  passes : (p : Settings) (o : Around) (k : HubKept) (moments : Option (List ℕ)) → HubAt p o k (Listening 0) (around (g.F.Fabric.told l.initial.fabric) moments)
      → HubAt p o k (listens_from l.counter) (around (g.F.Fabric.told l.fabric) moments);
  calls : g.F.Fabric.fault_count l.fabric ≡ g.F.Fabric.fault_count l.initial.fabric;
}
