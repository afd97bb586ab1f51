-- What a receiver acknowledges it handed up, everything before included.
use Rattle.std.proofs.Common.{◌≡◌, ℕ, ◌*◌, ◌<◌, List, [], ◌∷◌, ◌++◌, Bool, true, false, Option, None, Some, Result, Ok, refl, sym, ap, ◌∙◌, subst, arith}
use Rattle.std.specs.Prelude.{⊤, nat_le, nat_lt, flat_map, unwrap_or, IfSome}
use Rattle.std.proofs.lemmas.List.{append-nil}
use Rattle.norm_base.specs.Member.{IsMember}
use Rattle.norm_base.specs.Settings.{Settings, InRange}
use Rattle.fec_plan.specs.declared.position.Position.{Position}
use Rattle.norm_ext.specs.Message.{Message, Info, Data, Flush, Eot, Squelch, RepairAdv, AckReq, Opaque, Nack, Ack, Report, NackMessage, AckMessage, Mark}
use Rattle.norm_ext.specs.Octets.{octets_of}
use Rattle.norm_ext.specs.Reading.{decoded, words_of, content_of, source_of, header_checked, header_extensions_checked, member_checked, nack_read}
use Rattle.norm_ext.specs.Requests.{requests_checked}
use Rattle.norm_ext.specs.Numbers.{number}
use Rattle.norm_ext.specs.Written.{Written, writes}
use Rattle.norm_ext.specs.declared.kinds.MessageType.TheVariants as types
use Rattle.norm_ext.specs.declared.refusal.Refusal.{Refusal}
use Rattle.norm_ext.proofs.LawsHold.{read_again_law}
use Rattle.norm_ext.proofs.MessageLemmas.{pass_ok}
use Rattle.norm_order.specs.Entries.{Entry}
use Rattle.norm_order.specs.Shapes.{closed_in}
use Rattle.norm_order.specs.declared.up.Up.{Up}
use Rattle.norm_receive_rules.specs.AllNeeds.{needs, needs_nothing}
use Rattle.norm_receive_rules.specs.Nack.{indices_of, fitting, item_of, instance_id, nack_message, ack_message}
use Rattle.norm_receive_rules.specs.Needs.{Need}
use Rattle.norm_receive_rules.specs.ReceiverState.{ReceiverState}
use Rattle.norm_receive_rules.specs.Ticking.{are_heard, sends, holds_off, asks, asks_where_needed, ends_back_off, ticked}
use Rattle.norm_send_rules.specs.SenderState.{SenderState}
use Rattle.norm_safety.specs.OnceEach.{order_of}
use Rattle.norm_safety.proofs.Feedback.{nack_of, ack_of, by_type}
use Rattle.norm_safety.proofs.Onward.{Onward}
use Rattle.norm_safety.proofs.ReceiverMoves.{StandingIn, Standing}
use Rattle.norm_safety.proofs.SenderHolds.{OrdersHold, order_later, some_octets}
use Rattle.norm_safety.proofs.Spoken.{IsNoAck, SpeaksTrue, sized_at, entry_with, source_named}
use Rattle.norm_safety.proofs.Stood.{Stood, Due, due_more, due_grown}

-- An acknowledgement with an id of one index names a source symbol of its instance's order, and its node handed up everything
-- before in that instance.
pub record AckIs (p : Settings) (s : SenderState) (handed : ℕ → ℕ → List Up) (indices : List ℕ) (m : AckMessage) : Type 0 where
  pub at : Position
  pub alone : indices ≡ at.index ∷ []
  pub content : m.content ≡ Mark (item_of p at)
  pub stood : Stood p (order_of s m.instance) (handed m.source m.instance) at

-- of a message, where it is an acknowledgement
abbrev pub AckTold : Settings → SenderState → (ℕ → ℕ → List Up) → List ℕ → Message → Type 0
AckTold p s handed indices (Ack m) = AckIs p s handed indices m
AckTold p s handed indices _ = ⊤

-- What a datagram acknowledges was handed up; and it is read as an acknowledgement only where it was written as that one.
pub record AckTrue (p : Settings) (s : SenderState) (handed : ℕ → ℕ → List Up) (o : Written) : Type 0 where
  pub read : (m : AckMessage) → decoded o.octets ≡ Ok (Ack m) → o.message ≡ Ack m
  pub told : AckTold p s handed o.indices o.message

-- ---- later

-- orders go on, and more is handed up
pub due_later : (p : Settings) → InRange p → (s t : SenderState) (id : ℕ) (ups more : List Up) (due : Option Position) → Onward s t
    → Due p (order_of s id) ups due → Due p (order_of t id) (ups ++ more) due
due_later p range s t id ups more due onward h =
    due_grown p (some_octets p range) (order_of s id) (order_of t id) (ups ++ more) due (order_later s t onward id).order (due_more p (order_of s id) ups more due h)

-- hand-ups go on
pub record HandsOn (was now : ℕ → ℕ → List Up) : Type 0 where
  pub more : ℕ → ℕ → List Up
  pub is : (node id : ℕ) → now node id ≡ was node id ++ more node id

pub due_on : (p : Settings) → InRange p → (s t : SenderState) (was now : ℕ → ℕ → List Up) (node id : ℕ) (due : Option Position) → Onward s t → HandsOn was now
    → Due p (order_of s id) (was node id) due → Due p (order_of t id) (now node id) due
due_on p range s t was now node id due onward hands h =
    let D : List Up → Type 0 = λ ups. Due p (order_of t id) ups due in
    subst D (sym (hands.is node id)) (due_later p range s t id (was node id) (hands.more node id) due onward h)

told_later : (p : Settings) → InRange p → (s t : SenderState) (was now : ℕ → ℕ → List Up) (indices : List ℕ) (m : Message) → Onward s t → HandsOn was now
    → AckTold p s was indices m → AckTold p t now indices m
told_later p range s t was now indices (Ack m) onward hands h = record {
  at = h.at;
  alone = h.alone;
  content = h.content;
  stood = due_on p range s t was now m.source m.instance (Some h.at) onward hands h.stood;
}
told_later p range s t was now indices (Info m) onward hands h = tt
told_later p range s t was now indices (Data m) onward hands h = tt
told_later p range s t was now indices (Flush m) onward hands h = tt
told_later p range s t was now indices (Eot m) onward hands h = tt
told_later p range s t was now indices (Squelch m) onward hands h = tt
told_later p range s t was now indices (RepairAdv m) onward hands h = tt
told_later p range s t was now indices (AckReq m) onward hands h = tt
told_later p range s t was now indices (Opaque m) onward hands h = tt
told_later p range s t was now indices (Nack m) onward hands h = tt
told_later p range s t was now indices (Report m) onward hands h = tt

pub ack_later : (p : Settings) → InRange p → (s t : SenderState) (was now : ℕ → ℕ → List Up) (o : Written) → Onward s t → HandsOn was now
    → AckTrue p s was o → AckTrue p t now o
ack_later p range s t was now o onward hands h = record { read = h.read; told = told_later p range s t was now o.indices o.message onward hands h.told }

-- ---- what is no acknowledgement

abbrev as_ok : Message → Result Message Refusal
as_ok m = Ok m

same_message : (m n : Message) → as_ok m ≡ as_ok n → m ≡ n
same_message m n e = cc

told_nothing : (p : Settings) (s : SenderState) (handed : ℕ → ℕ → List Up) (indices : List ℕ) (m : Message) → IsNoAck m → AckTold p s handed indices m
told_nothing p s handed indices (Ack m) h = absurd h
told_nothing p s handed indices (Info m) h = tt
told_nothing p s handed indices (Data m) h = tt
told_nothing p s handed indices (Flush m) h = tt
told_nothing p s handed indices (Eot m) h = tt
told_nothing p s handed indices (Squelch m) h = tt
told_nothing p s handed indices (RepairAdv m) h = tt
told_nothing p s handed indices (AckReq m) h = tt
told_nothing p s handed indices (Opaque m) h = tt
told_nothing p s handed indices (Nack m) h = tt
told_nothing p s handed indices (Report m) h = tt

-- the sender acknowledges nothing
pub sender_acks : (p : Settings) (s : SenderState) (handed : ℕ → ℕ → List Up) (o : Written) → SpeaksTrue p s o → AckTrue p s handed o
sender_acks p s handed o h = record {
  read = λ m e. same_message o.message (Ack m) (sym h.read ∙ e);
  told = told_nothing p s handed o.indices o.message h.no_ack;
}

-- octets of a NACK are read as a NACK or as nothing
nack_is_read : (octets : List ℕ) (m : Message) → nack_read octets ≡ Ok m → IsNoAck m
unfolding nack_read
nack_is_read octets m e =
    let a = pass_ok (header_checked types.Nack octets) _ m e in
    let b = pass_ok (header_extensions_checked 24 octets) _ m a.1 in
    let c = pass_ok (requests_checked (4 * words_of octets) (content_of octets)) _ m b.1 in
    let d = pass_ok (member_checked (source_of octets)) _ m c.1 in
    let f = pass_ok (member_checked (number 4 8 octets)) _ m d.1 in
    no_ack _ m tt f.1
  where
    no_ack : (m n : Message) → IsNoAck m → as_ok m ≡ as_ok n → IsNoAck n
    no_ack m n h e = let N : Message → Type 0 = λ x. IsNoAck x in subst N (same_message m n e) h

nack_acks : (p : Settings) (s : SenderState) (handed : ℕ → ℕ → List Up) (m : NackMessage) (indices : List ℕ) → AckTrue p s handed (writes (Nack m) indices)
nack_acks p s handed m indices = record {
  read = λ k e. absurd (nack_is_read (octets_of (Nack m)) (Ack k) (by_type (octets_of (Nack m)) types.Nack (Ack k) refl e));
  told = tt;
}

-- ---- a receiver's tick

-- what a step sends, where it sends
abbrev pub SentAck : Settings → SenderState → (ℕ → ℕ → List Up) → Option Written → Type 0
SentAck p s handed None = ⊤
SentAck p s handed (Some o) = AckTrue p s handed o

-- what is due is read again as it was written, and is a source symbol before which everything was handed up
due_acks : (p : Settings) → InRange p → (s : SenderState) (handed : ℕ → ℕ → List Up) (r : ReceiverState) (at : Position) → OrdersHold p s → IsMember r.node
    → r.sequence < 65536 → instance_id r < 65536 → Stood p (order_of s (instance_id r)) (handed r.node (instance_id r)) at
    → AckTrue p s handed (writes (ack_message p r at) (at.index ∷ []))
due_acks p range s handed r at orders member sequence id stood =
    let m : AckMessage = ack_of p r at in
    let order : List Entry = order_of s (instance_id r) in
    let found = entry_with p order at.index (λ x. nat_lt at.symbol (closed_in x at.block)) stood.0 in
    let sized = sized_at p order at.index found.0 (orders.sized (instance_id r)) found.1 in
    let again : decoded (octets_of (Ack m)) ≡ Ok (Ack m) = read_again_law (Ack m) (record {
      source = member;
      sequence = sequence;
      sender = (omega (arith, range.sender.0), omega (arith, range.sender.1));
      instance = id;
      ack_type = omega arith;
      ack_id = omega arith;
      extensions = record { each = tt; most = omega arith };
      content = (refl, record { object = omega arith; id = source_named p range found.0.object at.block at.symbol sized found.2 });
    }) in
    record {
      read = λ k e. same_message (Ack m) (Ack k) (sym again ∙ e);
      told = record { at = at; alone = refl; content = refl; stood = stood };
    }

-- A receiver's tick acknowledges only what was taken of it with everything before, where all hand-ups were taken.
pub tick_acks : (p : Settings) → InRange p → (s : SenderState) (handed : ℕ → ℕ → List Up) (r : ReceiverState) (now : ℕ) → OrdersHold p s → IsMember r.node
    → r.sequence < 65536 → ((id : ℕ) → r.instance ≡ Some id → id < 65536) → r.holding.ups ≡ [] → Standing p s (handed r.node) r
    → SentAck p s handed (ticked p r now).1
tick_acks p range s handed r now orders member sequence few none stands = due r.knows.due refl
  where
    sent : ReceiverState × Option Written → Option Written
    sent step = step.1

    asked : (wanted : List Need) (t : ReceiverState) (all : Bool) → SentAck p s handed (sent (elim all [
      | true ↦ (record t { knows = holds_off p now t.knows }, None)
      | false ↦ sends (writes (nack_message p t wanted) (flat_map indices_of wanted)) (record t { knows = holds_off p now t.knows })
    ]))
    asked wanted t true = tt
    asked wanted t false = nack_acks p s handed (nack_of p t wanted) (flat_map indices_of wanted)

    needed : (t : ReceiverState) (nothing : Bool) → SentAck p s handed (sent (elim nothing [
      | true ↦ (t, None)
      | false ↦ asks p now (fitting p (needs p t) None p.e) t
    ]))
    needed t true = tt
    needed t false = asked (fitting p (needs p t) None p.e) t (are_heard t (fitting p (needs p t) None p.e))

    ended : (t : ReceiverState) (reached : Bool) → SentAck p s handed (sent (elim reached [ true ↦ asks_where_needed p now t | false ↦ (r, None) ]))
    ended t true = needed t (needs_nothing p t)
    ended t false = tt

    backed : (backoff : Option ℕ) → SentAck p s handed (sent (elim backoff [
      | Some ends ↦ elim (nat_le ends now) [ true ↦ asks_where_needed p now (record r { knows = record (r.knows) { backoff = None } }) | false ↦ (r, None) ]
      | None ↦ (r, None)
    ]))
    backed None = tt
    backed (Some ends) = ended (record r { knows = record (r.knows) { backoff = None } }) (nat_le ends now)

    in_one : (at : Position) → r.knows.due ≡ Some at → (instance : Option ℕ) → r.instance ≡ instance → StandingIn p s (handed r.node) r instance
        → AckTrue p s handed (writes (ack_message p r at) (at.index ∷ []))
    in_one at e None is h = absurd (let D : Option Position → Type 0 = λ due. IfSome due (λ other. ⊥) in subst D e h.1)
    in_one at e (Some id) is h =
        let D : Option Position → Type 0 = λ due. Due p (order_of s id) (handed r.node id ++ r.holding.ups) due in
        let U : List Up → Type 0 = λ ups. Stood p (order_of s id) (handed r.node id ++ ups) at in
        let V : List Up → Type 0 = λ ups. Stood p (order_of s id) ups at in
        let I : ℕ → Type 0 = λ n. Stood p (order_of s n) (handed r.node n) at in
        let same : instance_id r ≡ id = ap (λ (o : Option ℕ). unwrap_or o 0) is in
        let F : ℕ → Type 0 = λ n. n < 65536 in
        due_acks p range s handed r at orders member sequence (subst F (sym same) (few id is))
        (subst I (sym same) (subst V (append-nil (handed r.node id)) (subst U none (subst D e h.confirms))))

    due : (at : Option Position) → r.knows.due ≡ at → SentAck p s handed (sent (elim at [
      | Some at ↦ sends (writes (ack_message p r at) (at.index ∷ [])) (record r { knows = record (r.knows) { due = None } })
      | None ↦ ends_back_off p now r
    ]))
    due None e = backed r.knows.backoff
    due (Some at) e = in_one at e r.instance refl stands
