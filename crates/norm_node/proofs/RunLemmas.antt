-- Whole runs, of their turns.
use Rattle.std.proofs.Common.{◌≡◌, ℕ, refl, ap, ◌∙◌, inr}
use Rattle.norm_base.specs.Network.{Network, Starts}
use Rattle.norm_base.specs.Settings.{Settings}
use Rattle.norm_base.specs.declared.kinds.Local.TheVariants as local
use Rattle.norm_turns.specs.declared.fault.SessionFault.{SessionFault}
use Rattle.norm_node.specs.Lone.{Between}
use Rattle.norm_node.specs.Shown.{Outside}
use Rattle.norm_node.specs.RunKept.{RunKept, At, over, lone_of}
use Rattle.norm_node.specs.Runs.{begun, RunsReceiver, StopsReceiver}
use Rattle.norm_node.specs.Turning.{TakesTurns, StopsTurns}
use Rattle.norm_node.specs.Hub.{Around, around, HubKept, hub_of, Idle, RunsHub, StopsHub}
use Rattle.norm_node.specs.Passing.{HubTakesTurns, HubStopsTurn}
use Rattle.norm_node.proofs.HubLemmas.{hub_begins}

pub receiver_runs : (p : Settings) (node : ℕ) (k new : RunKept) (before after : Outside) (started : Network) → Starts before.network started p (local.One node)
    → ((o : Outside) → At (begun p node o) k Between o) → k.p ≡ p → TakesTurns k new (over before started) after → RunsReceiver p node before after
receiver_runs p node k new before after started starts begins same turned =
    let o = over before started in
    let at = turned.1 (begun p node o) (begins o) in
    record {
      started = started;
      starts = starts;
      events = at.events;
      last = lone_of new at.receiver Between;
      goes = at.goes;
      between = refl;
      turns = turned.0 ∙ ap (λ (q : Settings). q.turns) same;
    }

pub receiver_stops : (p : Settings) (node : ℕ) (k : RunKept) (why : SessionFault) (before after : Outside) (started : Network)
    → Starts before.network started p (local.One node) → ((o : Outside) → At (begun p node o) k Between o)
    → StopsTurns k why (over before started) after → StopsReceiver why p node before after
receiver_stops p node k why before after started starts begins stops =
    let o = over before started in
    inr (record { started = started; starts = starts; stopped = stops (begun p node o) (begins o) })

pub hub_runs : (p : Settings) (new : HubKept) (before after : Around) (started : Network) → Starts before.network started p local.Hub
    → HubTakesTurns (record { p = p; turn = 0; now = 0 }) new (around started before.moments) after → RunsHub p before after
hub_runs p new before after started starts turned =
    let o = around started before.moments in
    let at = turned.1 p o (hub_begins p o) in
    record {
      started = started;
      starts = starts;
      events = at.events;
      last = hub_of new Idle;
      goes = at.goes;
      idle = refl;
      turns = turned.0;
    }

pub hub_stops_run : (p : Settings) (why : SessionFault) (before after : Around) (started : Network) → Starts before.network started p local.Hub
    → HubStopsTurn (record { p = p; turn = 0; now = 0 }) why (around started before.moments) after → StopsHub why p before after
hub_stops_run p why before after started starts stops =
    let o = around started before.moments in
    inr (record { started = started; starts = starts; stopped = stops p o (hub_begins p o) })
