use Rattle.std.proofs.Common.{◌≡◌, sym, subst, List, ℕ, Result, Ok, Err}
use Rattle.std.specs.Prelude.{IfErr}
use Rattle.norm_turns.specs.declared.fault.SessionFault.{SessionFault}
use Rattle.norm_node.specs.Lone.{Handing, Offering}
use Rattle.norm_node.specs.RunKept.{Begun, At, over}
use Rattle.norm_node.specs.Shown.{Outside}
use Rattle.norm_node.specs.Stopping.{Stopped}
use Rattle.norm_node.proofs.run.ReceiverRun.answer.Goals as goal

-- what a fault leaves, from what it left of the offer
stops_by : {T E : Type 0} (r : Result T E) (P Q : E → Type 0) → ((e : E) → P e → Q e) → IfErr r P → IfErr r Q
stops_by (Ok v) P Q f h = tt
stops_by (Err e) P Q f h = f e h

pub returns-in-Datagram-clause-stops : goal.returns-in-Datagram-clause-stops
returns-in-Datagram-clause-stops g c =
    let told = g.F.Fabric.told in
    stops_by c.offer.result
    (λ (fault : SessionFault). (x : Begun) (o : Outside) → At x c.tick.new.self (Offering c.bytes.result.now) (over o (told c.args.fabric.now))
    → Stopped x fault (over o (told c.offer.new.fabric)))
    (λ (fault : SessionFault). (x : Begun) (o : Outside) → At x c.args.self.now Handing (over o (told c.args.fabric.now))
    → Stopped x fault (over o (told c.offer.new.fabric)))
    (λ fault stops x o here. stops x o
    (subst (λ (bytes : List ℕ). At x c.tick.new.self (Offering bytes) (over o (told c.args.fabric.now))) (sym c.bytes.ensures.octets)
    (c.in-Datagram.ensures.goes x (over o (told c.args.fabric.now)) here)))
    c.offer.ensures.stops
