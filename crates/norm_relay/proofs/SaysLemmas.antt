-- The octets that a tick above wrote are an acknowledgement only of what every member below handed up.
use Rattle.std.proofs.Common.{◌≡◌, ℕ, List, [], ◌∷◌, Bool, true, false, Option, None, Some, Ok, refl, sym, ap, ◌∙◌, subst}
use Rattle.std.specs.Prelude.{IfSome}
use Rattle.norm_base.specs.declared.kinds.Sent.{Sent as Said}
use Rattle.norm_ext.specs.Message.{Message, Ack, AckMessage}
use Rattle.norm_ext.specs.Reading.{decoded}
use Rattle.norm_ext.specs.Written.{Written}
use Rattle.norm_receive_rules.specs.ReceiverState.{ReceiverState}
use Rattle.norm_receive_rules.specs.Ticking.{ticked}
use Rattle.norm_safety.proofs.Acknowledged.{SentAck}
use Rattle.norm_safety.proofs.EntryLemmas.{clash}
use Rattle.norm_safety.specs.Events.{Ticked}
use Rattle.norm_safety.specs.Events as world
use Rattle.norm_safety.specs.Hands.{hands}
use Rattle.norm_safety.specs.Said.{about}
use Rattle.norm_safety.specs.World.{receiver_at}
use Rattle.norm_relay.specs.Handing.{history_of, AreLawful}
use Rattle.norm_relay.specs.Pumping.{is_met}
use Rattle.norm_relay.specs.RelayKept.{RelayKept}
use Rattle.norm_relay.specs.RelayMoves.{IsCall, IsSent}
use Rattle.norm_relay.specs.RelayState.{Relaying, Pledge}
use Rattle.norm_relay.specs.RelayStep.{UpTicked, RelayAnswer, Took, Counted, Sent, Other, relay_step, is_ack, says_up, given_by, receiver_ticks, relay_run}
use Rattle.norm_relay.specs.SaysHanded.{ConfirmsHanded, SaysHanded}
use Rattle.norm_relay.specs.Sides.{happens_in}
use Rattle.norm_relay.proofs.ConfirmLemmas.{Pledged, says, names, tick_told}
use Rattle.norm_relay.proofs.PromiseLemmas.{Good}
use Rattle.norm_relay.proofs.RelayLemmas.{met_handed, good_run}
use Rattle.norm_relay.proofs.UpperLemmas.{found_in, ticked_says}

-- what is sent as the receiver gives it is no acknowledgement
record Passed (given : Option Written) (datagram : Written) : Type 0 where
  same : given ≡ Some datagram
  other : is_ack datagram.message ≡ false

says_passed : (given : Option Written) (y : Relaying) (datagram : Written) → (says_up given y).1 ≡ Sent (Some datagram) → Passed given datagram
says_passed None y datagram e = absurd (nothing e)
  where
    nothing : Sent None ≡ Sent (Some datagram) → ⊥
    nothing e = cc
says_passed (Some given) y datagram e = go (is_ack given.message) refl e
  where
    nothing : Sent None ≡ Sent (Some datagram) → ⊥
    nothing e = cc

    same : Sent (Some given) ≡ Sent (Some datagram) → given ≡ datagram
    same e = cc

    answer_of : Relaying × RelayAnswer → RelayAnswer
    answer_of step = step.1

    go : (b : Bool) → is_ack given.message ≡ b → answer_of (elim b [
      | true ↦ (record y { upper = (happens_in y.upper (world.Offered y.node given.octets)).0; unmarked = Some given }, Sent None)
      | false ↦ (y, Sent (Some given))
    ]) ≡ Sent (Some datagram) → Passed (Some given) datagram
    go true a e = absurd (nothing e)
    go false a e = record { same = ap Some (same e); other = sym (ap (λ (w : Written). is_ack w.message) (same e)) ∙ a }

same_ack : (a b : AckMessage) → Ack a ≡ Ack b → a ≡ b
same_ack a b e = cc

met_confirms : (x : Relaying) (now : ℕ) → Good x → AreLawful x → (held : Pledge)
    → Pledged x.upper x.node x.lower.p x.lower.world.sender.current.order held.datagram held.at → is_met x held ≡ true
    → (relay_step x (UpTicked now)).1 ≡ Sent (Some held.datagram) → (m : AckMessage) → decoded held.datagram.octets ≡ Ok (Ack m)
    → ConfirmsHanded x now held.datagram.octets m
met_confirms x now g l held h met sent m read =
    let c = h.confirmed in
    let written : Message → List ℕ → Written = λ message indices. record { message = message; octets = held.datagram.octets; indices = indices } in
    let own : ConfirmsHanded x now held.datagram.octets c.ack = record {
      at = c.at;
      sent = sent ∙ ap (λ (w : Written). Sent (Some w)) (ap (λ (n : Message). written n held.datagram.indices) c.message ∙ ap (written (Ack c.ack)) c.alone);
      names = names x.upper x.node held.datagram c;
      handed = λ node member.
          met_handed x g l held h met (about (c.at.index ∷ []) c.ack) c.at (says x.upper x.node held.datagram c) (names x.upper x.node held.datagram c) node member;
    } in
    subst (ConfirmsHanded x now held.datagram.octets) (same_ack c.ack m (sym c.message ∙ c.read m read)) own

tick_confirms : (x : Relaying) (now : ℕ) → Good x → AreLawful x → (r : ReceiverState) → receiver_at x.upper.world x.node ≡ Some r → r.holding.ups ≡ []
    → (datagram : Written) → (relay_step x (UpTicked now)).1 ≡ Sent (Some datagram) → (m : AckMessage) → decoded datagram.octets ≡ Ok (Ack m)
    → ConfirmsHanded x now datagram.octets m
tick_confirms x now g l r found none datagram sent m read = go x.pledge g.promises.pledged sent
  where
    answer_of : Relaying × RelayAnswer → RelayAnswer
    answer_of step = step.1

    receiver : (receiver_ticks now x).1 ≡ Sent (Some datagram) → ConfirmsHanded x now datagram.octets m
    receiver e =
        let step = happens_in x.upper (Ticked x.node now) in
        let passed = says_passed (given_by step.1) (record x { upper = step.0 }) datagram e in
        let gave : (ticked x.upper.p r now).1 ≡ Some datagram = sym (ticked_says x.upper x.node now r g.handed.member found) ∙ passed.same in
        let told = subst (λ (o : Option Written). SentAck x.upper.p x.upper.world.sender (hands (history_of x.upper).happened) o) gave
        (tick_told x.upper x.node now r g.handed.run l.upper found none) in
        absurd (clash (sym passed.other ∙ ap is_ack (told.read m read)))

    same : (a b : Written) → Sent (Some a) ≡ Sent (Some b) → a ≡ b
    same a b e = cc

    met : (held : Pledge) → Pledged x.upper x.node x.lower.p x.lower.world.sender.current.order held.datagram held.at → (b : Bool) → is_met x held ≡ b
        → answer_of (elim b [ true ↦ (record x { pledge = None }, Sent (Some held.datagram)) | false ↦ receiver_ticks now x ]) ≡ Sent (Some datagram)
        → ConfirmsHanded x now datagram.octets m
    met held h true past e =
        let is : held.datagram ≡ datagram = same held.datagram datagram e in
        subst (λ (w : Written). ConfirmsHanded x now w.octets m) is
        (met_confirms x now g l held h past (sent ∙ ap (λ (w : Written). Sent (Some w)) (sym is)) m (ap (λ (w : Written). decoded w.octets) is ∙ read))
    met held h false past e = receiver e

    go : (o : Option Pledge) → IfSome o (λ held. Pledged x.upper x.node x.lower.p x.lower.world.sender.current.order held.datagram held.at)
        → answer_of (elim o [
          | Some held ↦ elim (is_met x held) [ true ↦ (record x { pledge = None }, Sent (Some held.datagram)) | false ↦ receiver_ticks now x ]
          | None ↦ receiver_ticks now x
        ]) ≡ Sent (Some datagram) → ConfirmsHanded x now datagram.octets m
    go None h e = receiver e
    go (Some held) h e = met held h (is_met x held) refl e

pub no_octets : (octets : List ℕ) → None ≡ Some octets → ⊥
no_octets octets e = cc

-- It follows from what a tick answers.
pub says_handed : (old new : RelayKept) (now : ℕ) (said : Said) (out : List ℕ) → IsCall old new (UpTicked now) (IsSent said out) → SaysHanded old now said out
says_handed old new now said out call up node down events fits lawful stands octets m wrote read =
    go (relay_step x (UpTicked now)).1 refl (call x stands).1
  where
    x : Relaying
    x = relay_run up node down events

    same : (a : List ℕ) → Some a ≡ Some octets → a ≡ octets
    same a e = cc

    go : (answer : RelayAnswer) → (relay_step x (UpTicked now)).1 ≡ answer → IsSent said out answer → ConfirmsHanded x now octets m
    go (Sent None) e sent = absurd (no_octets octets (sym sent ∙ wrote))
    go (Sent (Some datagram)) e sent =
        let f = found_in old.receiver (receiver_at x.upper.world x.node) stands.agrees.upper.receiver in
        let is : datagram.octets ≡ octets = same datagram.octets (sym sent ∙ wrote) in
        subst (λ (os : List ℕ). ConfirmsHanded x now os m) is
        (tick_confirms x now (good_run up node down events fits lawful) lawful f.state f.is f.taken datagram e m (ap decoded is ∙ read))
    go (Took taken) e sent = absurd sent
    go (Counted count) e sent = absurd sent
    go (Other answer) e sent = absurd sent
