-- What a receiver's tick gives is read again: an acknowledgement, or a NACK of low indices; and the sender's round asks for what that asks for.
use Rattle.std.proofs.Common.{◌≡◌, ℕ, ◌*◌, List, [], ◌∷◌, map, Bool, true, false, Option, None, Some, refl, sym, ap, subst, flat_map}
use Rattle.std.specs.Prelude.{◌==◌, nat_le, Result, Ok, Err, ⊤}
use Rattle.norm_base.specs.Settings.{Settings, InRange}
use Rattle.fec_plan.specs.declared.position.Position.{Position}
use Rattle.norm_ext.specs.Asked.{requests_asked}
use Rattle.norm_ext.specs.Asking.{named}
use Rattle.norm_ext.specs.Message.{Message, Info, Data, Flush, Eot, Squelch, RepairAdv, AckReq, Opaque, Nack, Ack, Report, NackMessage, AckMessage}
use Rattle.norm_ext.specs.Numbers.{octet, number}
use Rattle.norm_ext.specs.Octets.{octets_of}
use Rattle.norm_ext.specs.Reading.{decoded, words_of, content_of, source_of, header_checked, header_extensions_checked, member_checked, ack_encoding_checked, ack_length_checked, ack_read}
use Rattle.norm_ext.specs.Written.{Written, writes}
use Rattle.norm_ext.specs.declared.kinds.MessageType.TheVariants as types
use Rattle.norm_ext.specs.declared.refusal.Refusal.{Refusal}
use Rattle.norm_ext.proofs.MessageLemmas.{pass_ok}
use Rattle.norm_receive_rules.specs.AllNeeds.{needs, needs_nothing}
use Rattle.norm_receive_rules.specs.Nack.{asked_of, indices_of, fitting, nack_message, ack_message}
use Rattle.norm_receive_rules.specs.Needs.{Need}
use Rattle.norm_receive_rules.specs.ReceiverState.{ReceiverState}
use Rattle.norm_receive_rules.specs.Ticking.{sends, holds_off, are_heard, asks, asks_where_needed, ends_back_off, ticked}
use Rattle.norm_send_rules.specs.Hearing.{joined_round, heard}
use Rattle.norm_send_rules.specs.InWindow.{last_index, current_shapes}
use Rattle.norm_send_rules.specs.Reached.{IsReached}
use Rattle.norm_send_rules.specs.SenderState.{SenderState, Instance}
use Rattle.norm_send_rules.specs.declared.want.Want.{Want}
use Rattle.norm_safety.specs.Events.{Event}
use Rattle.norm_safety.specs.World.{receiver_at}
use Rattle.norm_safety.specs.WorldStep.{run}
use Rattle.norm_safety.proofs.Feedback.{by_type, nack_of, ack_of}
use Rattle.norm_safety.proofs.LowNeeds.{AreUpTo, asked_up_to}
use Rattle.norm_recovery.specs.Left.{in_window}
use Rattle.norm_recovery.specs.RoundAsks.{asks_open, is_info_or_source}
use Rattle.norm_recovery.specs.TailLawful.{MayGoOn}
use Rattle.norm_recovery.proofs.AsksOn.{AsksOn, message_on}
use Rattle.norm_recovery.proofs.ClosingHelps.{of_window}
use Rattle.norm_recovery.proofs.ClosingLists.{In}
use Rattle.norm_recovery.proofs.HeardAsks.{asked_by}
use Rattle.norm_recovery.proofs.LowRun.{low_known}
use Rattle.norm_recovery.proofs.NackAsks.{wanted_of, fields, read_again, joins}
use Rattle.norm_recovery.proofs.RoundAsks.{requests_join}

-- ---- an acknowledgement

-- octets are read as an acknowledgement, or refused
abbrev pub IsAckOnly : Result Message Refusal → Type 0
IsAckOnly (Ok (Ack m)) = ⊤
IsAckOnly (Err refusal) = ⊤
IsAckOnly _ = ⊥

abbrev IsAck : Message → Type 0
IsAck (Ack m) = ⊤
IsAck _ = ⊥

abbrev as_ok : Message → Result Message Refusal
as_ok m = Ok m

ack_is : (octets : List ℕ) (m : Message) → ack_read octets ≡ Ok m → IsAck m
unfolding ack_read
ack_is octets m e =
    let a = pass_ok (header_checked types.Ack octets) _ m e in
    let b = pass_ok (header_extensions_checked 24 octets) _ m a.1 in
    let c = pass_ok (ack_encoding_checked (octet 14 octets) (4 * words_of octets) (content_of octets)) _ m b.1 in
    let d = pass_ok (member_checked (source_of octets)) _ m c.1 in
    let f = pass_ok (member_checked (number 4 8 octets)) _ m d.1 in
    let g = pass_ok (ack_length_checked (octet 14 octets) (content_of octets)) _ m f.1 in
    is _ m tt g.1
  where
    is : (m n : Message) → IsAck m → as_ok m ≡ as_ok n → IsAck n
    is m n h e = subst IsAck (same m n e) h
      where
        same : (m n : Message) → as_ok m ≡ as_ok n → m ≡ n
        same m n e = cc

only_ack : (read : Result Message Refusal) → ((m : Message) → read ≡ Ok m → IsAck m) → IsAckOnly read
only_ack (Ok (Info m)) h = h (Info m) refl
only_ack (Ok (Data m)) h = h (Data m) refl
only_ack (Ok (Squelch m)) h = h (Squelch m) refl
only_ack (Ok (Flush m)) h = h (Flush m) refl
only_ack (Ok (Eot m)) h = h (Eot m) refl
only_ack (Ok (RepairAdv m)) h = h (RepairAdv m) refl
only_ack (Ok (AckReq m)) h = h (AckReq m) refl
only_ack (Ok (Opaque m)) h = h (Opaque m) refl
only_ack (Ok (Nack m)) h = h (Nack m) refl
only_ack (Ok (Ack m)) h = tt
only_ack (Ok (Report m)) h = h (Report m) refl
only_ack (Err refusal) h = tt

ack_again : (m : AckMessage) → IsAckOnly (decoded (octets_of (Ack m)))
ack_again m = only_ack (decoded (octets_of (Ack m))) (λ n e. ack_is (octets_of (Ack m)) n (by_type (octets_of (Ack m)) types.Ack n refl e))

-- ---- what a tick gives

-- an acknowledgement as it was written, or a NACK
data Gives (d : Written) : Type 0 where
  GivesAck : (m : AckMessage) → d.octets ≡ octets_of (Ack m) → Gives d
  GivesNack : (m : NackMessage) → d.message ≡ Nack m → Gives d

-- if anything
abbrev GivesSo : Option Written → Type 0
GivesSo sent = (d : Written) → sent ≡ Some d → Gives d

abbrev sent_is : ReceiverState × Option Written → Option Written
sent_is step = step.1

same_sent : (a b : Written) → Some a ≡ Some b → a ≡ b
same_sent a b e = cc

gives_so : (p : Settings) (r : ReceiverState) (now : ℕ) → GivesSo (ticked p r now).1
gives_so p r now = due r.knows.due
  where
    nothing : GivesSo None
    nothing d e = absurd (cc e)

    t : ReceiverState
    t = record r { knows = record (r.knows) { backoff = None } }

    asked : (wanted : List Need) (all : Bool) → GivesSo (sent_is (elim all [
      | true ↦ (record t { knows = holds_off p now t.knows }, None)
      | false ↦ sends (writes (nack_message p t wanted) (flat_map indices_of wanted)) (record t { knows = holds_off p now t.knows })
    ]))
    asked wanted true = nothing
    asked wanted false = λ d e. GivesNack (nack_of p t wanted) (sym (ap (λ (x : Written). x.message) (same_sent (writes (nack_message p t wanted) (flat_map indices_of wanted)) d e)))

    needed : (none : Bool) → GivesSo (sent_is (elim none [ true ↦ (t, None) | false ↦ asks p now (fitting p (needs p t) None p.e) t ]))
    needed true = nothing
    needed false = asked (fitting p (needs p t) None p.e) (are_heard t (fitting p (needs p t) None p.e))

    ended : (reached : Bool) → GivesSo (sent_is (elim reached [ true ↦ asks_where_needed p now t | false ↦ (r, None) ]))
    ended true = needed (needs_nothing p t)
    ended false = nothing

    backed : (backoff : Option ℕ) → GivesSo (sent_is (elim backoff [
      | Some ends ↦ elim (nat_le ends now) [ true ↦ asks_where_needed p now t | false ↦ (r, None) ]
      | None ↦ (r, None)
    ]))
    backed None = nothing
    backed (Some ends) = ended (nat_le ends now)

    due : (at : Option Position) → GivesSo (sent_is (elim at [
      | Some at ↦ sends (writes (ack_message p r at) (at.index ∷ [])) (record r { knows = record (r.knows) { due = None } })
      | None ↦ ends_back_off p now r
    ]))
    due None = backed r.knows.backoff
    due (Some at) = λ d e. GivesAck (ack_of p r at) (sym (ap (λ (x : Written). x.octets) (same_sent (writes (ack_message p r at) (at.index ∷ [])) d e)))

-- ---- it is read again

-- a NACK for needs of low indices
pub record Nacks (p : Settings) (d : Written) : Type 0 where
  pub m : NackMessage
  pub wanted : List Need
  pub read : decoded d.octets ≡ Ok (Nack m)
  pub requests : m.requests ≡ requests_asked (map (asked_of p) wanted)
  pub low : AreUpTo 32767 (flat_map indices_of wanted)
  pub joins : (s : SenderState) (later : ℕ) → (m.instance == s.current.id) ≡ true → heard p s d.octets later ≡ joined_round p s later m.requests

pub data Feed (p : Settings) (d : Written) : Type 0 where
  Acks : IsAckOnly (decoded d.octets) → Feed p d
  Asks : Nacks p d → Feed p d

-- A round asks for what the requests of such a NACK ask for, as the sender takes them, if that is of its instance.
abbrev pub asked_in_round : Settings → NackMessage → SenderState → (Want → Bool) → Type 0
asked_in_round p m s asked = (m.instance == s.current.id) ≡ true → (y : Want) → In y (in_window p s) → is_info_or_source (current_shapes p s) y ≡ true
    → asked_by (map (named p (last_index s)) m.requests) y ≡ true → asked y ≡ true

abbrev pub Joined : (p : Settings) (d : Written) → Feed p d → SenderState → Type 0
Joined p d (Acks is) s = ⊤
Joined p d (Asks n) s = asked_in_round p n.m s (asks_open p s)

pub joined_stays : (p : Settings) (d : Written) (f : Feed p d) (s t : SenderState) → AsksOn p s t → Joined p d f s → Joined p d f t
joined_stays p d (Acks is) s t on h = tt
joined_stays p d (Asks n) s t on h =
    subst (λ (i : Instance). asked_in_round p n.m (record t { current = i }) (asks_open p t)) (sym on.current)
    (λ same y there source asked. on.asks y (h same y there source asked))

-- so it is once the sender heard it
pub sender_joins : (p : Settings) → InRange p → (d : Written) (f : Feed p d) (s : SenderState) → IsReached p s → (later : ℕ) → Joined p d f (heard p s d.octets later)
sender_joins p range d (Acks is) s reach later = tt
sender_joins p range d (Asks n) s reach later =
    subst (λ (i : Instance). asked_in_round p n.m (record t { current = i }) (asks_open p t)) (sym on.current)
    (λ same y there source asked. subst (λ (x : SenderState). asks_open p x y ≡ true) (sym (n.joins s later same))
    (requests_join p range s reach later n.m.requests y asked source (of_window p s y there).1))
  where
    t : SenderState
    t = heard p s d.octets later

    on : AsksOn p s (heard p s d.octets later)
    on = message_on p s later (decoded d.octets)

-- what a tick gives after a run that may go on
pub feed_of : (p : Settings) → InRange p → (events : List Event) → MayGoOn p events → (node : ℕ) → (node == p.sender) ≡ false → (r : ReceiverState)
    → receiver_at (run p events) node ≡ Some r → (now : ℕ) (d : Written) → (ticked p r now).1 ≡ Some d → Feed p d
feed_of p range events may node other r found now d gave = go (gives_so p r now d gave)
  where
    go : Gives d → Feed p d
    go (GivesAck m is) = Acks (subst (λ (octets : List ℕ). IsAckOnly (decoded octets)) (sym is) (ack_again m))
    go (GivesNack m is) =
        let low = low_known p range events may node r other found in
        Asks (record {
          m = fields p range events may node r found;
          wanted = wanted_of p r;
          read = read_again p range events may node r found now d m gave is;
          requests = refl;
          low = asked_up_to 32767 p r low.farthest low.flush;
          joins = λ s later same. joins p range events may node r found now d m gave is s later same;
        })
