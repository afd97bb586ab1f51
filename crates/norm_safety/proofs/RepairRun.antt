-- Coded repair suffices in each lawful run.
use Rattle.std.proofs.Common.{◌≡◌, ℕ, ◌<◌, List, Option, None, Some, subst}
use Rattle.norm_base.specs.Settings.{Settings, InRange}
use Rattle.norm_base.specs.declared.node.Origin.{Origin}
use Rattle.norm_ext.specs.Message.{Nack, NackMessage}
use Rattle.norm_ext.specs.Written.{Written}
use Rattle.norm_receive_rules.specs.ReceiverState.{ReceiverState}
use Rattle.norm_receive_rules.specs.Ticking.{ticked as receiver_ticked}
use Rattle.norm_safety.specs.Hands.{hands}
use Rattle.norm_safety.specs.History.{Happening}
use Rattle.norm_safety.specs.InOrder.{came_to}
use Rattle.norm_safety.specs.Laws.{OfLawfulRuns}
use Rattle.norm_safety.specs.RepairSuffices.{RepairSuffices}
use Rattle.norm_safety.specs.World.{World, receiver_at}
use Rattle.norm_safety.proofs.SenderHolds.{orders_hold}
use Rattle.norm_safety.proofs.WorldHolds.{AtNode, AtReceiver, CameTo, WorldHolds}
use Rattle.norm_safety.proofs.PleaDefs.{GivesPlea}
use Rattle.norm_safety.proofs.PleaRead.{plea_gives}
use Rattle.norm_safety.proofs.PleaRun.{repairs_suffice}
use Rattle.norm_safety.proofs.SeenPasses.{SeenWorld, SeenAt, Seen, event_seen, opening_seen}

gives : (p : Settings) → InRange p → (past : List Happening) (accepted : List Origin) (w : World) → WorldHolds p past accepted w → SeenWorld p w
    → (node : ℕ) (r : ReceiverState) (now : ℕ) (o : Written) (m : NackMessage) → receiver_at w node ≡ Some r → (receiver_ticked p r now).1 ≡ Some o
    → o.message ≡ Nack m → GivesPlea p w.sender (record { receiver = r; octets = o.octets; indices = o.indices; nack = m })
gives p range past accepted w holds all node r now o m found sent is =
    plea_gives p range w.sender (hands past node) r now o m (orders_hold p w.sender holds.sender) here.member here.sequence few here.stands seen sent is
  where
    here : AtReceiver p w.sender past node r
    here = let A : Option ReceiverState → Type 0 = λ found. AtNode p w.sender past node found in subst A found (holds.nodes node)

    seen : Seen p w.sender r
    seen = let S : Option ReceiverState → Type 0 = λ found. SeenAt p w.sender found in subst S found (all node)

    few : (id : ℕ) → r.instance ≡ Some id → id < 65536
    few id inside = let C : Option ℕ → Type 0 = λ instance. CameTo p (came_to node None past) instance in (subst C inside here.came).begun.small

pub repair_run : OfLawfulRuns RepairSuffices
repair_run p range = repairs_suffice p range (SeenWorld p) (record {
  steps = λ past accepted w e may is holds seen. event_seen p range past accepted w e may is holds seen;
  gives = λ past accepted w holds seen. gives p range past accepted w holds seen;
}) (opening_seen p)
