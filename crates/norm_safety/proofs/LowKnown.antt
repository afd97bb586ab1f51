-- What a receiver knows and says stays at indices that are at most so great, where what it hears does.
use Rattle.std.proofs.Common.{◌≡◌, ℕ, ◌≤◌, List, [], ◌∷◌, Bool, true, false, Option, None, Some, Result, Ok, Err, sym, ap, ◌∙◌, subst, arith, ◌⊎◌, inl, inr}
use Rattle.std.specs.Prelude.{◌==◌, ◌&&◌, not, nat_le, flat_map, unwrap_or, option_and_then, if◌then◌else◌, IfSome, ⊤}
use Rattle.norm_base.specs.Settings.{Settings}
use Rattle.fec_plan.specs.Points.{Point, position, point_of, point_before, position_before, further, further_point}
use Rattle.fec_plan.specs.declared.position.Position.{Position}
use Rattle.norm_ext.specs.Message.{Message, Info, Data, Flush, Eot, Squelch, RepairAdv, AckReq, Opaque, Nack, Ack, Report}
use Rattle.norm_ext.specs.ObjectIds.{object_id}
use Rattle.norm_ext.specs.Reading.{decoded}
use Rattle.norm_ext.specs.Requests.{Request}
use Rattle.norm_ext.specs.Written.{Written, writes}
use Rattle.norm_ext.specs.declared.refusal.Refusal.{Refusal}
use Rattle.norm_receive_rules.specs.Acknowledging.{flushed, acknowledges}
use Rattle.norm_receive_rules.specs.AllNeeds.{needs, needs_nothing}
use Rattle.norm_receive_rules.specs.BackingOff.{may_back_off, backs_off, may_need}
use Rattle.norm_receive_rules.specs.Leaving.{is_in, goes_to, enters, entered}
use Rattle.norm_receive_rules.specs.Nack.{indices_of, fitting, nack_message, ack_message}
use Rattle.norm_receive_rules.specs.Needs.{Need}
use Rattle.norm_receive_rules.specs.Overhearing.{overheard, adv_overheard}
use Rattle.norm_receive_rules.specs.Receiving.{info_received, data_received, flush_received, squelch_received, takes_in, in_instance, message_received, received}
use Rattle.norm_receive_rules.specs.ReceiverState.{ReceiverState, Knowledge, knowing_nothing}
use Rattle.norm_receive_rules.specs.Ticking.{sends, holds_off, are_heard, asks, asks_where_needed, ends_back_off, ticked}
use Rattle.norm_send_rules.specs.SenderState.{SenderState}
use Rattle.norm_safety.specs.Lawful.{receiver_knows, are_near}
use Rattle.norm_safety.proofs.Feedback.{SaysNothing}
use Rattle.norm_safety.proofs.LowNeeds.{AreUpTo, asked_up_to}
use Rattle.norm_safety.proofs.ReceiverMoves.{knowing, known_in, near_named}
use Rattle.norm_safety.proofs.Spoken.{IsTrueOf, SaysTrue}

-- all that a receiver knows has indices that are at most so great
pub record IsLow (n : ℕ) (k : Knowledge) : Type 0 where
  pub known : k.known ≤ n
  pub farthest : IfSome k.farthest (λ at. at.index ≤ n)
  pub flush : IfSome k.flush (λ at. at.index ≤ n)
  pub due : IfSome k.due (λ at. at.index ≤ n)

pub low_nothing : (n : ℕ) → IsLow n knowing_nothing
low_nothing n = record { known = omega arith; farthest = tt; flush = tt; due = tt }

-- ---- what a datagram does

need_low : (n : ℕ) (p : Settings) (now draw : ℕ) (r : ReceiverState) → IsLow n r.knows → IsLow n (may_need p now draw r).knows
need_low n p now draw r h = go (may_back_off now r.knows) (needs_nothing p r)
  where
    backs : (none : Bool) → ReceiverState
    backs none = elim none [ true ↦ r | false ↦ record r { knows = backs_off p now draw r.knows } ]

    go : (may none : Bool) → IsLow n (elim may as (λ _. ReceiverState) [ true ↦ backs none | false ↦ r ]).knows
    go true true = h
    go true false = record { known = h.known; farthest = h.farthest; flush = h.flush; due = h.due }
    go false none = h

overheard_low : (n : ℕ) (p : Settings) (requests : List Request) (r : ReceiverState) → IsLow n r.knows → IsLow n (overheard p requests r).knows
overheard_low n p requests r h = go r.knows.backoff _ h.known h.farthest h.flush h.due
  where
    go : (backoff : Option ℕ) (k : Knowledge) → k.known ≤ n → IfSome k.farthest (λ at. at.index ≤ n) → IfSome k.flush (λ at. at.index ≤ n)
        → IfSome k.due (λ at. at.index ≤ n) → IsLow n (elim backoff [ Some ends ↦ k | None ↦ r.knows ])
    go (Some ends) k known farthest flush due = record { known = known; farthest = farthest; flush = flush; due = due }
    go None k known farthest flush due = h

where_low : (n : ℕ) (b : Bool) (r s : ReceiverState) → IsLow n r.knows → IsLow n s.knows → IsLow n (elim b as (λ _. ReceiverState) [ true ↦ s | false ↦ r ]).knows
where_low n true r s h g = g
where_low n false r s h g = h

further_low : (n : ℕ) (at : Position) (due : Option Position) → at.index ≤ n → IfSome due (λ x. x.index ≤ n) → IfSome (further at due) (λ x. x.index ≤ n)
further_low n at None le h = le
further_low n at (Some other) le h = go (position_before other at)
  where
    go : (b : Bool) → IfSome (if b then Some at else Some other) (λ x. x.index ≤ n)
    go true = le
    go false = h

point_low : (n : ℕ) (at : Point) (far : Option Point) → at.index ≤ n → IfSome far (λ x. x.index ≤ n) → IfSome (further_point at far) (λ x. x.index ≤ n)
point_low n at None le h = le
point_low n at (Some other) le h = go (point_before other at)
  where
    go : (b : Bool) → IfSome (if b then Some at else Some other) (λ x. x.index ≤ n)
    go true = le
    go false = h

knowing_low : (n index : ℕ) (r : ReceiverState) → index ≤ n → IsLow n r.knows → IsLow n (knowing index r).knows
knowing_low n index r le h = let known = h.known in record { known = omega arith; farthest = h.farthest; flush = h.flush; due = h.due }

-- a message of the sender, whose id names the index that it was written for
instance_low : (n : ℕ) (p : Settings) (now draw source id object index : ℕ) (brings : ℕ → ReceiverState → ReceiverState) (r : ReceiverState)
    → object ≡ object_id p index → index ≤ 4294967294 → index ≤ n → are_near (known_in (entered r id)) (index ∷ []) ≡ true
    → ((t : ReceiverState) → IsLow n t.knows → IsLow n (brings index t).knows) → IsLow n r.knows
    → IsLow n (in_instance p now draw source id object brings r).knows
instance_low n p now draw source id object index brings r named most le near keeps h = go (source == p.sender) (is_in r id) (goes_to r id) near
  where
    in_state : (t : ReceiverState) → are_near (Some t.knows.known) (index ∷ []) ≡ true → IsLow n t.knows
        → IsLow n (unwrap_or (takes_in p now draw object brings t) r).knows
    in_state t close low =
        let M : Option ℕ → Type 0 = λ found. IsLow n (unwrap_or (elim found as (λ _. Option ReceiverState) [
          | Some i ↦ Some (may_need p now draw (brings i (knowing i t)))
          | None ↦ None
        ]) r).knows in
        subst M (sym (near_named p t.knows.known object index named most close))
        (need_low n p now draw (brings index (knowing index t)) (keeps (knowing index t) (knowing_low n index t le low)))

    go : (own inside above : Bool)
        → are_near (known_in (elim inside as (λ _. Option ReceiverState) [ true ↦ Some r | false ↦ elim above [ true ↦ Some (enters id r) | false ↦ None ] ])) (index ∷ []) ≡ true
        → IsLow n (elim own as (λ _. ReceiverState) [
          | true ↦ unwrap_or (option_and_then (takes_in p now draw object brings)
              (elim inside as (λ _. Option ReceiverState) [ true ↦ Some r | false ↦ elim above [ true ↦ Some (enters id r) | false ↦ None ] ])) r
          | false ↦ r
        ]).knows
    go false inside above close = h
    go true true above close = in_state r close h
    go true false false close = h
    go true false true close = in_state (enters id r) close (low_nothing n)

-- what is said of nothing that names an index of its own
quiet_low : (n : ℕ) (p : Settings) (r : ReceiverState) (now draw : ℕ) (said : Result Message Refusal) → SaysNothing said → IsLow n r.knows
    → IsLow n (message_received p now draw said r).knows
quiet_low n p r now draw (Ok (Info m)) says h = absurd says
quiet_low n p r now draw (Ok (Data m)) says h = absurd says
quiet_low n p r now draw (Ok (Flush m)) says h = absurd says
quiet_low n p r now draw (Ok (Squelch m)) says h = absurd says
quiet_low n p r now draw (Ok (RepairAdv m)) says h =
    where_low n (m.head.source == p.sender) r (adv_overheard p m r) h
    (where_low n (is_in r m.head.instance) r (overheard p m.requests r) h (overheard_low n p m.requests r h))
quiet_low n p r now draw (Ok (Nack m)) says h =
    where_low n (not (m.source == r.node) && m.sender == p.sender && is_in r m.instance) r (overheard p m.requests r) h (overheard_low n p m.requests r h)
quiet_low n p r now draw (Ok (Eot m)) says h = h
quiet_low n p r now draw (Ok (AckReq m)) says h = h
quiet_low n p r now draw (Ok (Opaque m)) says h = h
quiet_low n p r now draw (Ok (Ack m)) says h = h
quiet_low n p r now draw (Ok (Report m)) says h = h
quiet_low n p r now draw (Err refusal) says h = h

-- a message that says nothing false, of indices that are at most so great
message_low : (n : ℕ) (p : Settings) (s : SenderState) (r : ReceiverState) (indices : List ℕ) (now draw : ℕ) → AreUpTo n indices → IsLow n r.knows
    → (m : Message) → IsTrueOf p s indices m → are_near (receiver_knows r m) indices ≡ true → IsLow n (message_received {E = Refusal} p now draw (Ok m) r).knows
message_low n p s r indices now draw few h = go
  where
    least : (index : ℕ) → indices ≡ index ∷ [] → index ≤ n
    least index alone = let F : List ℕ → Type 0 = λ xs. AreUpTo n xs in let one = subst F alone few in one.0

    near_of : (known : Option ℕ) (index : ℕ) → indices ≡ index ∷ [] → are_near known indices ≡ true → are_near known (index ∷ []) ≡ true
    near_of known index alone near = ap (are_near known) (sym alone) ∙ near

    seen : (at : Point) (t : ReceiverState) → at.index ≤ n → IsLow n t.knows → IsLow n (record (t.knows) { farthest = further_point at t.knows.farthest })
    seen at t le low = record { known = low.known; farthest = point_low n at t.knows.farthest le low.farthest; flush = low.flush; due = low.due }

    by_flush : (at : Position) (b : Bool) (t : ReceiverState) → at.index ≤ n → IsLow n t.knows → IsLow n (flushed at b t.knows)
    by_flush at true t le low = record {
      known = low.known;
      farthest = low.farthest;
      flush = further_low n at t.knows.flush le low.flush;
      due = further_low n at t.knows.due le low.due;
    }
    by_flush at false t le low = record {
      known = low.known;
      farthest = low.farthest;
      flush = further_low n at t.knows.flush le low.flush;
      due = low.due;
    }

    go : (m : Message) → IsTrueOf p s indices m → are_near (receiver_knows r m) indices ≡ true → IsLow n (message_received {E = Refusal} p now draw (Ok m) r).knows
    go (Info m) (speaks, says) near =
        let le = least speaks.index speaks.alone in
        instance_low n p now draw m.head.source m.head.instance m.head.object speaks.index (info_received p m) r speaks.named speaks.most le
        (near_of (known_in (entered r m.head.instance)) speaks.index speaks.alone near)
        (λ t low. seen (point_of (position speaks.index 0 0)) t le low) h
    go (Data m) (speaks, says) near =
        let le = least speaks.index speaks.alone in
        instance_low n p now draw m.head.source m.head.instance m.head.object speaks.index (data_received p m) r speaks.named speaks.most le
        (near_of (known_in (entered r m.head.instance)) speaks.index speaks.alone near)
        (λ t low. seen (point_of (position speaks.index m.id.block m.id.symbol)) t le low) h
    go (Flush m) (speaks, says) near =
        let le = least speaks.index speaks.alone in
        let at : Position = position speaks.index m.id.block m.id.symbol in
        instance_low n p now draw m.head.source m.head.instance m.object speaks.index (flush_received m) r speaks.named speaks.most le
        (near_of (known_in (entered r m.head.instance)) speaks.index speaks.alone near)
        (λ t low. by_flush at (acknowledges t at m.nodes) t le low) h
    go (Squelch m) (speaks, says) near =
        let le = least speaks.index speaks.alone in
        instance_low n p now draw m.head.source m.head.instance m.object speaks.index (squelch_received p m) r speaks.named speaks.most le
        (near_of (known_in (entered r m.head.instance)) speaks.index speaks.alone near) (λ t low. low) h
    go (RepairAdv m) says near = quiet_low n p r now draw (Ok (RepairAdv m)) tt h
    go (Nack m) says near = quiet_low n p r now draw (Ok (Nack m)) tt h
    go (Eot m) says near = quiet_low n p r now draw (Ok (Eot m)) tt h
    go (AckReq m) says near = quiet_low n p r now draw (Ok (AckReq m)) tt h
    go (Opaque m) says near = quiet_low n p r now draw (Ok (Opaque m)) tt h
    go (Ack m) says near = quiet_low n p r now draw (Ok (Ack m)) tt h
    go (Report m) says near = quiet_low n p r now draw (Ok (Report m)) tt h

-- a datagram that says nothing false, of indices that are at most so great
pub received_low : (n : ℕ) (p : Settings) (s : SenderState) (r : ReceiverState) (o : Written) (bytes : List ℕ) (now draw : ℕ) → SaysTrue p s o → o.octets ≡ bytes
    → AreUpTo n o.indices → are_near (receiver_knows r o.message) o.indices ≡ true → IsLow n r.knows → IsLow n (received p r bytes now draw).knows
received_low n p s r o bytes now draw says same few near h =
    let B : List ℕ → Type 0 = λ octets. IsLow n (received p r octets now draw).knows in subst B same (go says.0)
  where
    M : Result Message Refusal → Type 0
    M said = IsLow n (message_received p now draw said r).knows

    go : (decoded o.octets ≡ Ok o.message) ⊎ SaysNothing (decoded o.octets) → M (decoded o.octets)
    go (inl read) = subst M (sym read) (message_low n p s r o.indices now draw few h o.message says.1 near)
    go (inr quiet) = quiet_low n p r now draw (decoded o.octets) quiet h

-- ---- what a tick does

-- what a step sends has such indices
abbrev pub SentLow : ℕ → Option Written → Type 0
SentLow n (Some datagram) = AreUpTo n datagram.indices
SentLow n None = ⊤

-- and so has what is known after it
abbrev StepsLow : ℕ → ReceiverState × Option Written → Type 0
StepsLow n step = IsLow n step.0.knows × SentLow n step.1

pub tick_low : (n : ℕ) (p : Settings) (s : ReceiverState) (now : ℕ) → IsLow n s.knows → StepsLow n (ticked p s now)
tick_low n p s now h = due s.knows.due h.due
  where
    asked : (wanted : List Need) (r : ReceiverState) → IsLow n r.knows → AreUpTo n (flat_map indices_of wanted) → (all : Bool) → StepsLow n (elim all [
      | true ↦ (record r { knows = holds_off p now r.knows }, None)
      | false ↦ sends (writes (nack_message p r wanted) (flat_map indices_of wanted)) (record r { knows = holds_off p now r.knows })
    ])
    asked wanted r low few true = (record { known = low.known; farthest = low.farthest; flush = low.flush; due = low.due }, tt)
    asked wanted r low few false = (record { known = low.known; farthest = low.farthest; flush = low.flush; due = low.due }, few)

    needed : (r : ReceiverState) → IsLow n r.knows → (none : Bool) → StepsLow n (elim none [
      | true ↦ (r, None)
      | false ↦ asks p now (fitting p (needs p r) None p.e) r
    ])
    needed r low true = (low, tt)
    needed r low false =
        asked (fitting p (needs p r) None p.e) r low (asked_up_to n p r low.farthest low.flush) (are_heard r (fitting p (needs p r) None p.e))

    ended : (r : ReceiverState) → IsLow n r.knows → (reached : Bool) → StepsLow n (elim reached [ true ↦ asks_where_needed p now r | false ↦ (s, None) ])
    ended r low true = needed r low (needs_nothing p r)
    ended r low false = (h, tt)

    backed : (backoff : Option ℕ) → StepsLow n (elim backoff [
      | Some ends ↦ elim (nat_le ends now) [ true ↦ asks_where_needed p now (record s { knows = record (s.knows) { backoff = None } }) | false ↦ (s, None) ]
      | None ↦ (s, None)
    ])
    backed None = (h, tt)
    backed (Some ends) = ended (record s { knows = record (s.knows) { backoff = None } })
        (record { known = h.known; farthest = h.farthest; flush = h.flush; due = h.due }) (nat_le ends now)

    due : (at : Option Position) → IfSome at (λ x. x.index ≤ n) → StepsLow n (elim at [
      | Some at ↦ sends (writes (ack_message p s at) (at.index ∷ [])) (record s { knows = record (s.knows) { due = None } })
      | None ↦ ends_back_off p now s
    ])
    due None le = backed s.knows.backoff
    due (Some at) le = (record { known = h.known; farthest = h.farthest; flush = h.flush; due = tt }, (le, tt))
