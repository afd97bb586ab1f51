-- Events of a world's sender.
use Rattle.std.proofs.Common.{◌≡◌, ℕ, List, [], ◌∷◌, ◌++◌, true, Option, None, Some, refl, sym, ap, ◌∙◌, subst, length}
use Rattle.std.specs.Prelude.{◌==◌, ◌≢◌, Result, Ok, Err, IfOk, IfErr, IsErr}
use Rattle.std.proofs.lemmas.Bool.Decides.{Decides-eqb}
use Rattle.norm_base.specs.Settings.{Settings}
use Rattle.norm_base.specs.declared.kinds.Sent.{Sent as Said}
use Rattle.norm_base.specs.declared.node.Origin.{Origin}
use Rattle.norm_ext.specs.Written.{Written}
use Rattle.norm_receiver.specs.ReceiverKept.{ReceiverKept}
use Rattle.norm_safety.specs.Events.{Answer, Commanded, Delivered, Ticked, NewsAsked, Gave, Sent, Told, Silent}
use Rattle.norm_safety.specs.World.{World, receiver_at, with_given}
use Rattle.norm_safety.specs.WorldStep.{node_move, moved, world_step, run}
use Rattle.norm_send_rules.specs.SenderState.{SenderState}
use Rattle.norm_send_rules.specs.SenderStep as sender
use Rattle.norm_receive_rules.specs.ReceiverStep as receiver
use Rattle.norm_send_rules.specs.Commanding.{commanded}
use Rattle.norm_send_rules.specs.Hearing.{heard}
use Rattle.norm_send_rules.specs.Telling.{told}
use Rattle.norm_send_rules.specs.Ticking.{ticked}
use Rattle.norm_send_rules.specs.declared.fault.SendFault.{SendFault}
use Rattle.norm_send_rules.specs.declared.fault.SendFault.TheVariants.{Memory}
use Rattle.norm_send_rules.specs.declared.job.Job.{Job}
use Rattle.norm_send_rules.specs.declared.job.Job.TheVariants.{File}
use Rattle.norm_send_rules.specs.declared.job.Receipt.{Receipt}
use Rattle.norm_send_rules.specs.declared.news.News.{News}
use Rattle.norm_sender.specs.Filling.{HasBegun as SenderBegan}
use Rattle.norm_sender.specs.SenderKept.{SenderKept, Stands}
use Rattle.norm_sender.specs.SenderMoves.{IsTick}
use Rattle.tx_window.specs.Taking.{room_made}
use Rattle.norm_world.specs.WorldKept.{WorldKept, StandsFor, HasBegun}
use Rattle.norm_world.specs.WorldMoves.{IsEvent, IsRefused, IsEnded, IsLeft, IsSent}
use Rattle.norm_world.proofs.WorldLemmas.{kept, is_event, run_more}

-- the sender is another, and its world's too
moved_to : (p : Settings) (s new : SenderKept) (rs : List ReceiverKept) (w : World) (t : SenderState) → new.p ≡ s.p → StandsFor (kept p s rs) w
    → Stands new t → StandsFor (kept p new rs) (record w { sender = t })
moved_to p s new rs w t same st after = record { profile = same ∙ st.profile; sender = after; receivers = st.receivers }

pub commands : (p : Settings) (s new : SenderKept) (rs : List ReceiverKept) (by : Origin) (job : Job) (now : ℕ) (result : Result Receipt SendFault)
    → new.p ≡ s.p → ((x : SenderState) → Stands s x → Stands new (commanded s.p x by job).0 × (result ≡ (commanded s.p x by job).1))
    → IsEvent (kept p s rs) (kept p new rs) (Commanded by job now) (λ answer. answer ≡ Gave result)
commands p s new rs by job now result same h =
    is_event (kept p s rs) (kept p new rs) (Commanded by job now) (λ answer. answer ≡ Gave result) refl
    (λ w st.
    let after = subst (λ (q : Settings). Stands new (commanded q w.sender by job).0 × (result ≡ (commanded q w.sender by job).1)) st.profile (h w.sender st.sender) in
    (moved_to p s new rs w (commanded p w.sender by job).0 same st after.0, ap (λ r. Gave r) (sym after.1)))

pub tells : (p : Settings) (s new : SenderKept) (rs : List ReceiverKept) (result : Option News)
    → new.p ≡ s.p → ((x : SenderState) → Stands s x → Stands new (told x).0 × (result ≡ (told x).1))
    → IsEvent (kept p s rs) (kept p new rs) NewsAsked (λ answer. answer ≡ Told result)
tells p s new rs result same h =
    is_event (kept p s rs) (kept p new rs) NewsAsked (λ answer. answer ≡ Told result) refl
    (λ w st.
    let after = h w.sender st.sender in
    (moved_to p s new rs w (told w.sender).0 same st after.0, ap (λ r. Told r) (sym after.1)))

-- what comes to the sender's node

at_sender : (p : Settings) → (p.sender == p.sender) ≡ true
at_sender p = (Decides-eqb p.sender p.sender).1 refl

pub hears : (p : Settings) (s new : SenderKept) (rs : List ReceiverKept) (bytes : List ℕ) (now draw : ℕ) → new.p ≡ s.p
    → ((x : SenderState) → Stands s x → Stands new (heard s.p x bytes now))
    → IsEvent (kept p s rs) (kept p new rs) (Delivered p.sender bytes now draw) (λ answer. answer ≡ Silent)
hears p s new rs bytes now draw same h =
    is_event (kept p s rs) (kept p new rs) (Delivered p.sender bytes now draw) (λ answer. answer ≡ Silent) refl
    (λ w st.
    let event = Delivered p.sender bytes now draw in
    let is : world_step p w event ≡ (record w { sender = heard p w.sender bytes now }, Silent) =
    ap (λ b. moved p w (node_move b (receiver_at w p.sender) (sender.Delivered bytes now) (receiver.Delivered bytes now draw))) (at_sender p) in
    let after = subst (λ (q : Settings). Stands new (heard q w.sender bytes now)) st.profile (h w.sender st.sender) in
    subst (λ (step : World × Answer). StandsFor (kept p new rs) step.0 × (step.1 ≡ Silent)) (sym is)
    (moved_to p s new rs w (heard p w.sender bytes now) same st after, refl))

given_stands : (k : WorldKept) (node : ℕ) (datagram : Option Written) (w : World) → StandsFor k w → StandsFor k (with_given node datagram w)
given_stands k node None w st = record { profile = st.profile; sender = st.sender; receivers = st.receivers }
given_stands k node (Some datagram) w st = record { profile = st.profile; sender = st.sender; receivers = st.receivers }

pub ticks : (p : Settings) (s new : SenderKept) (rs : List ReceiverKept) (now : ℕ) (out : List ℕ) (said : Said) → new.p ≡ s.p
    → ((x : SenderState) → Stands s x → IsTick new out said (ticked s.p x now))
    → IsEvent (kept p s rs) (kept p new rs) (Ticked p.sender now) (IsSent said out)
ticks p s new rs now out said same h =
    is_event (kept p s rs) (kept p new rs) (Ticked p.sender now) (IsSent said out) refl
    (λ w st.
    let event = Ticked p.sender now in
    let step = ticked p w.sender now in
    let is : world_step p w event ≡ (with_given p.sender step.1 (record w { sender = step.0 }), Sent step.1) =
    ap (λ b. moved p w (node_move b (receiver_at w p.sender) (sender.Ticked now) (receiver.Ticked now))) (at_sender p) in
    let after = subst (λ (q : Settings). IsTick new out said (ticked q w.sender now)) st.profile (h w.sender st.sender) in
    subst (λ (step : World × Answer). StandsFor (kept p new rs) step.0 × IsSent said out step.1) (sym is) (
      given_stands (kept p new rs) p.sender step.1 (record w { sender = step.0 }) (moved_to p s new rs w step.0 same st after.stands),
      record { datagram = step.1; answer_is = refl; octets = after.octets },
    ))

-- ---- a file by its pieces

-- the sender began a file, and so its world did
pub begins_file : (p : Settings) (s new : SenderKept) (rs : List ReceiverKept) (v : WorldKept) (name octets : List ℕ) (len : ℕ) → new.p ≡ s.p
    → kept p s rs ≡ v → ((x : SenderState) → Stands s x → SenderBegan new x name len octets)
    → (w : World) → StandsFor v w → HasBegun (kept p new rs) w name len octets
begins_file p s new rs v name octets len same is h w there =
    let st = subst (λ (u : WorldKept). StandsFor u w) (sym is) there in
    record { profile = same ∙ st.profile; sender = h w.sender st.sender; receivers = st.receivers }

pub if_begun : (result : Result (Unit {0}) (Option (List ℕ) × SendFault)) (p : Settings) (s new : SenderKept) (rs : List ReceiverKept) (v : WorldKept)
    (name : List ℕ) (len : ℕ) → new.p ≡ s.p → kept p s rs ≡ v → IfOk result (λ _. (x : SenderState) → Stands s x → SenderBegan new x name len [])
    → IfOk result (λ _. (w : World) → StandsFor v w → HasBegun (kept p new rs) w name len [])
if_begun (Ok unit) p s new rs v name len same is h = begins_file p s new rs v name [] len same is h
if_begun (Err refusal) p s new rs v name len same is h = h

-- a file that the sender refused
refuses_file : (p : Settings) (s : SenderKept) (rs : List ReceiverKept) (name : List ℕ) (len : ℕ) (fault : SendFault)
    → ((x : SenderState) (by : Origin) (octets : List ℕ) → Stands s x → length octets ≡ len → fault ≢ Memory
    → commanded s.p x by (File name octets) ≡ (x, Err fault)) → IsRefused (kept p s rs) (kept p s rs) name len fault
refuses_file p s rs name len fault h by octets now long other =
    commands p s s rs by (File name octets) now (Err fault) refl
    (λ x st.
    let is = h x by octets st long other in (
      subst (λ (y : SenderState). Stands s y) (sym (ap (λ (r : SenderState × Result Receipt SendFault). r.0) is)) st,
      sym (ap (λ (r : SenderState × Result Receipt SendFault). r.1) is),
    ))

pub if_refused : (result : Result (Unit {0}) (Option (List ℕ) × SendFault)) (p : Settings) (s new : SenderKept) (rs : List ReceiverKept) (v : WorldKept)
    (name : List ℕ) (len : ℕ) → kept p s rs ≡ v → (IsErr result → new ≡ s)
    → IfErr result (λ refusal. (x : SenderState) (by : Origin) (octets : List ℕ) → Stands s x → length octets ≡ len → refusal.1 ≢ Memory
    → commanded s.p x by (File name octets) ≡ (x, Err refusal.1))
    → IfErr result (λ refusal. IsRefused v (kept p new rs) name len refusal.1)
if_refused (Ok unit) p s new rs v name len is same h = h
if_refused (Err refusal) p s new rs v name len is same h =
    subst (λ (u : WorldKept). IsRefused u (kept p new rs) name len refusal.1) is
    (subst (λ (t : SenderKept). IsRefused (kept p s rs) (kept p t rs) name len refusal.1) (sym (same refl)) (refuses_file p s rs name len refusal.1 h))

pub takes_piece : (p : Settings) (s new : SenderKept) (rs : List ReceiverKept) (v : WorldKept) (piece : List ℕ) → new.p ≡ s.p → kept p s rs ≡ v
    → ((x : SenderState) (name octets : List ℕ) (len : ℕ) → SenderBegan s x name len octets → SenderBegan new x name len (octets ++ piece))
    → (w : World) (name octets : List ℕ) (len : ℕ) → HasBegun v w name len octets → HasBegun (kept p new rs) w name len (octets ++ piece)
takes_piece p s new rs v piece same is h w name octets len there =
    let b = subst (λ (u : WorldKept). HasBegun u w name len octets) (sym is) there in
    record { profile = same ∙ b.profile; sender = h w.sender name octets len b.sender; receivers = b.receivers }

-- the file that was begun joined the sender's order
ends_step : (p : Settings) (s new : SenderKept) (rs : List ReceiverKept) (by : Origin) (now : ℕ) (receipt : Receipt) → new.p ≡ s.p
    → ((x : SenderState) (name octets : List ℕ) (len : ℕ) → SenderBegan s x name len octets
    → Stands new (commanded s.p x by (File name octets)).0 × (Ok receipt ≡ (commanded s.p x by (File name octets)).1))
    → (w : World) (name octets : List ℕ) (len : ℕ) → HasBegun (kept p s rs) w name len octets
    → StandsFor (kept p new rs) (world_step p w (Commanded by (File name octets) now)).0
    × ((world_step p w (Commanded by (File name octets) now)).1 ≡ Gave (Ok receipt))
ends_step p s new rs by now receipt same h w name octets len b =
    let after = subst (λ (q : Settings). Stands new (commanded q w.sender by (File name octets)).0
    × (Ok receipt ≡ (commanded q w.sender by (File name octets)).1)) b.profile (h w.sender name octets len b.sender) in
    (record { profile = same ∙ b.profile; sender = after.0; receivers = b.receivers }, ap (λ r. Gave r) (sym after.1))

ends_here : (p : Settings) (s new : SenderKept) (rs : List ReceiverKept) (by : Origin) (now : ℕ) (receipt : Receipt) → new.p ≡ s.p
    → ((x : SenderState) (name octets : List ℕ) (len : ℕ) → SenderBegan s x name len octets
    → Stands new (commanded s.p x by (File name octets)).0 × (Ok receipt ≡ (commanded s.p x by (File name octets)).1))
    → IsEnded (kept p s rs) (kept p new rs) by now receipt
ends_here p s new rs by now receipt same h = record {
  steps = λ w name octets len b. ends_step p s new rs by now receipt same h w name octets len b;
  runs = λ events name octets len b.
      let after = ends_step p s new rs by now receipt same h (run p events) name octets len b in
      (subst (λ (v : World). StandsFor (kept p new rs) v) (sym (run_more p events (Commanded by (File name octets) now))) after.0, after.1);
}

pub ends_file : (p : Settings) (s new : SenderKept) (rs : List ReceiverKept) (v : WorldKept) (by : Origin) (now : ℕ) (receipt : Receipt) → new.p ≡ s.p
    → kept p s rs ≡ v
    → ((x : SenderState) (name octets : List ℕ) (len : ℕ) → SenderBegan s x name len octets
    → Stands new (commanded s.p x by (File name octets)).0 × (Ok receipt ≡ (commanded s.p x by (File name octets)).1))
    → IsEnded v (kept p new rs) by now receipt
ends_file p s new rs v by now receipt same is h =
    subst (λ (u : WorldKept). IsEnded u (kept p new rs) by now receipt) is (ends_here p s new rs by now receipt same h)

-- the sender gave up the file
leaves_here : (p : Settings) (s new : SenderKept) (rs : List ReceiverKept) → new.p ≡ s.p
    → ((x : SenderState) (name octets : List ℕ) (len : ℕ) → SenderBegan s x name len octets → Stands new (room_made s.p len x))
    → IsLeft (kept p s rs) (kept p new rs)
leaves_here p s new rs same h w name octets len b = record {
  profile = same ∙ b.profile;
  sender = subst (λ (q : Settings). Stands new (room_made q len w.sender)) b.profile (h w.sender name octets len b.sender);
  receivers = b.receivers;
}

pub leaves_file : (p : Settings) (s new : SenderKept) (rs : List ReceiverKept) (v : WorldKept) → new.p ≡ s.p → kept p s rs ≡ v
    → ((x : SenderState) (name octets : List ℕ) (len : ℕ) → SenderBegan s x name len octets → Stands new (room_made s.p len x))
    → IsLeft v (kept p new rs)
leaves_file p s new rs v same is h = subst (λ (u : WorldKept). IsLeft u (kept p new rs)) is (leaves_here p s new rs same h)
