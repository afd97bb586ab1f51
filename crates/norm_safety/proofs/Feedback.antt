-- What receivers say says nothing of objects and of the sender's points, whatever is read of it.
use Rattle.std.proofs.Common.{◌≡◌, ℕ, ◌*◌, List, [], ◌∷◌, Bool, true, false, Option, None, Some, Result, Ok, Err, refl, sym, ◌∙◌, subst}
use Rattle.std.specs.Prelude.{⊤, nat_le, map, flat_map}
use Rattle.norm_base.specs.Settings.{Settings}
use Rattle.fec_plan.specs.declared.position.Position.{Position}
use Rattle.norm_ext.specs.Message.{Message, Info, Data, Flush, Eot, Squelch, RepairAdv, AckReq, Opaque, Nack, Ack, Report, NackMessage, AckMessage, Mark}
use Rattle.norm_ext.specs.Asked.{requests_asked}
use Rattle.norm_ext.specs.Octets.{octets_of}
use Rattle.norm_ext.specs.Written.{Written, writes}
use Rattle.norm_ext.specs.Reading.{decoded, words_of, content_of, source_of, version_checked, header_checked, header_extensions_checked, member_checked, ack_encoding_checked, ack_length_checked, known_type, read_as, nack_read, ack_read}
use Rattle.norm_ext.specs.declared.kinds.MessageType.{MessageType}
use Rattle.norm_ext.specs.declared.kinds.MessageType.TheVariants as types
use Rattle.norm_ext.specs.Numbers.{octet, number, flush_ack}
use Rattle.norm_ext.specs.Requests.{requests_checked}
use Rattle.norm_ext.proofs.MessageLemmas.{bind_ok, pass_ok}
use Rattle.norm_ext.specs.declared.refusal.Refusal.{Refusal}
use Rattle.norm_receive_rules.specs.ReceiverState.{ReceiverState}
use Rattle.norm_receive_rules.specs.Needs.{Need}
use Rattle.norm_receive_rules.specs.AllNeeds.{needs, needs_nothing}
use Rattle.norm_receive_rules.specs.Nack.{asked_of, indices_of, fitting, item_of, instance_id, nack_message, ack_message}
use Rattle.norm_receive_rules.specs.Ticking.{are_heard, sends, holds_off, asks, asks_where_needed, ends_back_off, ticked}

-- it says nothing of objects and of positions: a refusal, or a message of another kind
abbrev pub SaysNothing : Result Message Refusal → Type 0
SaysNothing (Ok (Info m)) = ⊥
SaysNothing (Ok (Data m)) = ⊥
SaysNothing (Ok (Squelch m)) = ⊥
SaysNothing (Ok (Flush m)) = ⊥
SaysNothing _ = ⊤

-- a message that says nothing of objects and of positions
abbrev pub IsOther : Message → Type 0
IsOther (Info m) = ⊥
IsOther (Data m) = ⊥
IsOther (Squelch m) = ⊥
IsOther (Flush m) = ⊥
IsOther _ = ⊤

nothing_of : (r : Result Message Refusal) → ((m : Message) → r ≡ Ok m → IsOther m) → SaysNothing r
nothing_of (Ok (Info m)) h = h (Info m) refl
nothing_of (Ok (Data m)) h = h (Data m) refl
nothing_of (Ok (Squelch m)) h = h (Squelch m) refl
nothing_of (Ok (Flush m)) h = h (Flush m) refl
nothing_of (Ok (Eot m)) h = tt
nothing_of (Ok (RepairAdv m)) h = tt
nothing_of (Ok (AckReq m)) h = tt
nothing_of (Ok (Opaque m)) h = tt
nothing_of (Ok (Nack m)) h = tt
nothing_of (Ok (Ack m)) h = tt
nothing_of (Ok (Report m)) h = tt
nothing_of (Err refusal) h = tt

abbrev as_ok : Message → Result Message Refusal
as_ok m = Ok m

other_is : (m n : Message) → IsOther m → as_ok m ≡ as_ok n → IsOther n
other_is m n h e = let O : Message → Type 0 = λ x. IsOther x in subst O (same m n e) h
  where
    same : (m n : Message) → as_ok m ≡ as_ok n → m ≡ n
    same m n e = cc

nack_other : (octets : List ℕ) (m : Message) → nack_read octets ≡ Ok m → IsOther m
unfolding nack_read
nack_other octets m e =
    let a = pass_ok (header_checked types.Nack octets) _ m e in
    let b = pass_ok (header_extensions_checked 24 octets) _ m a.1 in
    let c = pass_ok (requests_checked (4 * words_of octets) (content_of octets)) _ m b.1 in
    let d = pass_ok (member_checked (source_of octets)) _ m c.1 in
    let f = pass_ok (member_checked (number 4 8 octets)) _ m d.1 in
    other_is _ m tt f.1

ack_other : (octets : List ℕ) (m : Message) → ack_read octets ≡ Ok m → IsOther m
unfolding ack_read
ack_other octets m e =
    let a = pass_ok (header_checked types.Ack octets) _ m e in
    let b = pass_ok (header_extensions_checked 24 octets) _ m a.1 in
    let c = pass_ok (ack_encoding_checked (octet 14 octets) (4 * words_of octets) (content_of octets)) _ m b.1 in
    let d = pass_ok (member_checked (source_of octets)) _ m c.1 in
    let f = pass_ok (member_checked (number 4 8 octets)) _ m d.1 in
    let g = pass_ok (ack_length_checked (octet 14 octets) (content_of octets)) _ m f.1 in
    other_is _ m tt g.1

abbrev as_type : MessageType → Result MessageType Refusal
as_type kind = Ok kind

-- the type that octets name decides which reading is taken
pub by_type : (octets : List ℕ) (kind : MessageType) (m : Message) → known_type octets ≡ Ok kind → decoded octets ≡ Ok m → read_as kind octets ≡ Ok m
unfolding decoded
by_type octets kind m is e =
    let a = pass_ok (version_checked octets) _ m e in
    let b = bind_ok (known_type octets) _ m a.1 in
    let R : MessageType → Type 0 = λ k. read_as k octets ≡ Ok m in
    subst R (same b.0 kind (sym b.1 ∙ is)) b.2
  where
    same : (a b : MessageType) → as_type a ≡ as_type b → a ≡ b
    same a b e = cc

pub nack_said : (m : NackMessage) → SaysNothing (decoded (octets_of (Nack m)))
nack_said m = nothing_of (decoded (octets_of (Nack m))) (λ n e. nack_other (octets_of (Nack m)) n (by_type (octets_of (Nack m)) types.Nack n refl e))

pub ack_said : (m : AckMessage) → SaysNothing (decoded (octets_of (Ack m)))
ack_said m = nothing_of (decoded (octets_of (Ack m))) (λ n e. ack_other (octets_of (Ack m)) n (by_type (octets_of (Ack m)) types.Ack n refl e))

-- what a receiver's NACK and its acknowledgement say
abbrev pub nack_of : Settings → ReceiverState → List Need → NackMessage
nack_of p s wanted = record {
  source = s.node;
  sequence = s.sequence;
  sender = p.sender;
  instance = instance_id s;
  extensions = [];
  requests = requests_asked (map (asked_of p) wanted);
}

abbrev pub ack_of : Settings → ReceiverState → Position → AckMessage
ack_of p s at = record {
  source = s.node;
  sequence = s.sequence;
  sender = p.sender;
  instance = instance_id s;
  ack_type = flush_ack;
  ack_id = 0;
  extensions = [];
  content = Mark (item_of p at);
}

-- what a tick sends, if anything
abbrev pub SendsNothingOf : Option Written → Type 0
SendsNothingOf (Some datagram) = SaysNothing (decoded datagram.octets) × IsOther datagram.message
SendsNothingOf None = ⊤

-- A receiver's tick says nothing of objects.
pub receiver_says_nothing : (p : Settings) (s : ReceiverState) (now : ℕ) → SendsNothingOf (ticked p s now).1
receiver_says_nothing p s now = due s.knows.due
  where
    sent : ReceiverState × Option Written → Option Written
    sent step = step.1

    asked : (wanted : List Need) (r : ReceiverState) (all : Bool) → SendsNothingOf (sent (elim all [
      | true ↦ (record r { knows = holds_off p now r.knows }, None)
      | false ↦ sends (writes (nack_message p r wanted) (flat_map indices_of wanted)) (record r { knows = holds_off p now r.knows })
    ]))
    asked wanted r true = tt
    asked wanted r false = (nack_said (nack_of p r wanted), tt)

    needed : (r : ReceiverState) (none : Bool) → SendsNothingOf (sent (elim none [
      | true ↦ (r, None)
      | false ↦ asks p now (fitting p (needs p r) None p.e) r
    ]))
    needed r true = tt
    needed r false = asked (fitting p (needs p r) None p.e) r (are_heard r (fitting p (needs p r) None p.e))

    ended : (r : ReceiverState) (reached : Bool) → SendsNothingOf (sent (elim reached [ true ↦ asks_where_needed p now r | false ↦ (s, None) ]))
    ended r true = needed r (needs_nothing p r)
    ended r false = tt

    backed : (backoff : Option ℕ) → SendsNothingOf (sent (elim backoff [
      | Some ends ↦ elim (nat_le ends now) [ true ↦ asks_where_needed p now (record s { knows = record (s.knows) { backoff = None } }) | false ↦ (s, None) ]
      | None ↦ (s, None)
    ]))
    backed None = tt
    backed (Some ends) = ended (record s { knows = record (s.knows) { backoff = None } }) (nat_le ends now)

    due : (at : Option Position) → SendsNothingOf (sent (elim at [
      | Some at ↦ sends (writes (ack_message p s at) (at.index ∷ [])) (record s { knows = record (s.knows) { due = None } })
      | None ↦ ends_back_off p now s
    ]))
    due None = backed s.knows.backoff
    due (Some at) = (ack_said (ack_of p s at), tt)
