-- A back-off runs until its receiver ticks; and what that tick comes to.
use Rattle.std.proofs.Common.{◌≡◌, ℕ, List, [], ◌∷◌, map, Bool, true, false, Option, None, Some, refl, sym, ap, ◌∙◌, subst, flat_map}
use Rattle.std.specs.Prelude.{◌==◌, nat_le, is_some, unwrap_or, option_and_then, Result, Ok, Err}
use Rattle.std.proofs.lemmas.Bool.Decides.{Decides-eqb}
use Rattle.norm_base.specs.Settings.{Settings}
use Rattle.fec_plan.specs.declared.position.Position.{Position}
use Rattle.norm_ext.specs.Asking.{named}
use Rattle.norm_ext.specs.Message.{Message, Info, Data, Flush, Squelch, Eot, RepairAdv, AckReq, Opaque, Nack, Ack, Report, NackMessage}
use Rattle.norm_ext.specs.ObjectIds.{index_named}
use Rattle.norm_ext.specs.Reading.{decoded}
use Rattle.norm_ext.specs.Requests.{Request}
use Rattle.norm_ext.specs.Written.{Written, writes}
use Rattle.norm_ext.specs.declared.refusal.Refusal.{Refusal}
use Rattle.norm_receive_rules.specs.AllNeeds.{needs, needs_nothing}
use Rattle.norm_receive_rules.specs.BackingOff.{may_back_off, backs_off, backs_off_for_needs, may_need}
use Rattle.norm_receive_rules.specs.Heard.{Heard}
use Rattle.norm_receive_rules.specs.Holding.{Holding, holding_nothing}
use Rattle.norm_receive_rules.specs.Leaving.{is_in, enters, goes_to, entered}
use Rattle.norm_receive_rules.specs.Nack.{indices_of, fitting, nack_message, ack_message}
use Rattle.norm_receive_rules.specs.Overhearing.{asked_all, heard_whole, overheard, nack_counts}
use Rattle.norm_receive_rules.specs.ReceiverState.{ReceiverState, Knowledge}
use Rattle.norm_receive_rules.specs.Receiving.{info_received, data_received, flush_received, squelch_received, learns, takes_in, in_instance, message_received, received}
use Rattle.norm_receive_rules.specs.Ticking.{sends, holds_off, are_heard, asks, asks_where_needed, ends_back_off, ticked}
use Rattle.norm_send_rules.specs.SenderState.{SenderState}
use Rattle.norm_send_rules.specs.declared.want.Want.{Want}
use Rattle.norm_safety.proofs.EntryLemmas.{clash}
use Rattle.norm_recovery.specs.Left.{is_had, has}
use Rattle.norm_recovery.proofs.FeedRead.{IsAckOnly, Feed, Acks, Asks}
use Rattle.norm_recovery.proofs.NackAsks.{wanted_of}

-- ---- it runs, whatever is heard in the instance

abbrev runs : ReceiverState → Bool
runs r = is_some r.knows.backoff

may_need_runs : (p : Settings) (now draw : ℕ) (t : ReceiverState) → runs t ≡ true → runs (may_need p now draw t) ≡ true
may_need_runs p now draw t e = go (may_back_off now t.knows)
  where
    needed : (none : Bool) → runs (elim none [ true ↦ t | false ↦ record t { knows = backs_off p now draw t.knows } ]) ≡ true
    needed true = e
    needed false = refl

    go : (b : Bool) → runs (elim b [ true ↦ backs_off_for_needs p now draw t | false ↦ t ]) ≡ true
    go true = needed (needs_nothing p t)
    go false = e

may_need_instance : (p : Settings) (now draw : ℕ) (t : ReceiverState) → (may_need p now draw t).instance ≡ t.instance
may_need_instance p now draw t = go (may_back_off now t.knows)
  where
    needed : (none : Bool) → (elim none as (λ _. ReceiverState) [ true ↦ t | false ↦ record t { knows = backs_off p now draw t.knows } ]).instance ≡ t.instance
    needed true = refl
    needed false = refl

    go : (b : Bool) → (elim b as (λ _. ReceiverState) [ true ↦ backs_off_for_needs p now draw t | false ↦ t ]).instance ≡ t.instance
    go true = needed (needs_nothing p t)
    go false = refl

-- what a message does leaves back-off and instance
record Leaves (r t : ReceiverState) : Type 0 where
  instance : t.instance ≡ r.instance
  backoff : t.knows.backoff ≡ r.knows.backoff

in_runs : (p : Settings) (now draw source id object : ℕ) (does : ℕ → ReceiverState → ReceiverState) → ((index : ℕ) (t : ReceiverState) → Leaves t (does index t))
    → (r : ReceiverState) → runs r ≡ true → (in_instance p now draw source id object does r).instance ≡ r.instance
    → runs (in_instance p now draw source id object does r) ≡ true
in_runs p now draw source id object does leaves r e same = go (source == p.sender) same
  where
    learnt : ReceiverState → ℕ → ReceiverState
    learnt t index = record t { knows = learns index t.knows }

    of : ReceiverState → Option ℕ → ReceiverState
    of t found = unwrap_or (elim found as (λ _. Option ReceiverState) [ Some index ↦ Some (may_need p now draw (does index (learnt t index))) | None ↦ None ]) r

    names : (found : Option ℕ) → runs (of r found) ≡ true
    names (Some index) = may_need_runs p now draw (does index (learnt r index)) (ap (λ (o : Option ℕ). is_some o) (leaves index (learnt r index)).backoff ∙ e)
    names None = e

    -- an instance that is entered is another
    enters_other : is_in r id ≡ false → (found : Option ℕ) → (of (enters id r) found).instance ≡ r.instance → runs (of (enters id r) found) ≡ true
    enters_other out None is = e
    enters_other out (Some index) is =
        absurd (clash (sym out ∙ ap (λ (o : Option ℕ). elim o as (λ _. Bool) [ Some current ↦ current == id | None ↦ false ])
        (sym is ∙ may_need_instance p now draw (does index (learnt (enters id r) index)) ∙ (leaves index (learnt (enters id r) index)).instance)
        ∙ (Decides-eqb id id).1 refl))

    above : is_in r id ≡ false → (b : Bool)
        → (unwrap_or (option_and_then (takes_in p now draw object does) (elim b [ true ↦ Some (enters id r) | false ↦ None ])) r).instance ≡ r.instance
        → runs (unwrap_or (option_and_then (takes_in p now draw object does) (elim b [ true ↦ Some (enters id r) | false ↦ None ])) r) ≡ true
    above out true is = enters_other out (index_named p (enters id r).knows.known object) is
    above out false is = e

    within : (b : Bool) → is_in r id ≡ b → (unwrap_or (option_and_then (takes_in p now draw object does) (elim b [
      | true ↦ Some r
      | false ↦ elim (goes_to r id) [ true ↦ Some (enters id r) | false ↦ None ]
    ])) r).instance ≡ r.instance → runs (unwrap_or (option_and_then (takes_in p now draw object does) (elim b [
      | true ↦ Some r
      | false ↦ elim (goes_to r id) [ true ↦ Some (enters id r) | false ↦ None ]
    ])) r) ≡ true
    within true is f = names (index_named p r.knows.known object)
    within false is f = above is (goes_to r id) f

    go : (b : Bool) → (elim b as (λ _. ReceiverState) [ true ↦ unwrap_or (option_and_then (takes_in p now draw object does) (entered r id)) r | false ↦ r ]).instance ≡ r.instance
        → runs (elim b [ true ↦ unwrap_or (option_and_then (takes_in p now draw object does) (entered r id)) r | false ↦ r ]) ≡ true
    go true f = within (is_in r id) refl f
    go false f = e

overheard_runs : (p : Settings) (requests : List Request) (r : ReceiverState) → runs r ≡ true → runs (overheard p requests r) ≡ true
overheard_runs p requests r e = go r.knows.backoff e
  where
    backoff_of : Knowledge → Option ℕ
    backoff_of k = k.backoff

    go : (found : Option ℕ) → is_some found ≡ true → is_some (backoff_of (elim found [
      | Some ends ↦ record (r.knows) { heard = heard_whole r.knows.heard (asked_all (map (named p r.knows.known) requests)) }
      | None ↦ r.knows
    ])) ≡ true
    go (Some ends) f = e
    go None f = absurd (clash f)

pub runs_on : (p : Settings) (r : ReceiverState) (octets : List ℕ) (now draw : ℕ) → is_some r.knows.backoff ≡ true
    → (received p r octets now draw).instance ≡ r.instance → is_some (received p r octets now draw).knows.backoff ≡ true
runs_on p r octets now draw e same = go (decoded octets) same
  where
    if_so : (b : Bool) (requests : List Request) → runs (elim b as (λ _. ReceiverState) [ true ↦ overheard p requests r | false ↦ r ]) ≡ true
    if_so true requests = overheard_runs p requests r e
    if_so false requests = e

    both_so : (b c : Bool) (requests : List Request)
        → runs (elim b as (λ _. ReceiverState) [ true ↦ elim c as (λ _. ReceiverState) [ true ↦ overheard p requests r | false ↦ r ] | false ↦ r ]) ≡ true
    both_so true c requests = if_so c requests
    both_so false c requests = e

    go : (read : Result Message Refusal) → (message_received p now draw read r).instance ≡ r.instance → runs (message_received p now draw read r) ≡ true
    go (Ok (Info m)) is = in_runs p now draw m.head.source m.head.instance m.head.object (info_received p m) (λ index t. record { instance = refl; backoff = refl }) r e is
    go (Ok (Data m)) is = in_runs p now draw m.head.source m.head.instance m.head.object (data_received p m) (λ index t. record { instance = refl; backoff = refl }) r e is
    go (Ok (Flush m)) is = in_runs p now draw m.head.source m.head.instance m.object (flush_received m) (λ index t. record { instance = refl; backoff = refl }) r e is
    go (Ok (Squelch m)) is = in_runs p now draw m.head.source m.head.instance m.object (squelch_received p m) (λ index t. record { instance = refl; backoff = refl }) r e is
    go (Ok (Nack m)) is = if_so (nack_counts p m r) m.requests
    go (Ok (RepairAdv m)) is = both_so (m.head.source == p.sender) (is_in r m.head.instance) m.requests
    go (Ok (Eot m)) is = e
    go (Ok (AckReq m)) is = e
    go (Ok (Opaque m)) is = e
    go (Ok (Ack m)) is = e
    go (Ok (Report m)) is = e
    go (Err refusal) is = e

-- ---- what another one's tick gave changes nothing but what was heard

pub feed_leaves : (p : Settings) (r : ReceiverState) (d : Written) (f : Feed p d) (now draw : ℕ) (P : ReceiverState → Type 0)
    → ((heard : Heard) → P (record r { knows = record (r.knows) { heard = heard } })) → P (received p r d.octets now draw)
feed_leaves p r d (Acks is) now draw P all = go (decoded d.octets) is
  where
    go : (read : Result Message Refusal) → IsAckOnly read → P (message_received p now draw read r)
    go (Ok (Ack m)) is = all r.knows.heard
    go (Err refusal) is = all r.knows.heard
    go (Ok (Info m)) is = absurd is
    go (Ok (Data m)) is = absurd is
    go (Ok (Flush m)) is = absurd is
    go (Ok (Squelch m)) is = absurd is
    go (Ok (Eot m)) is = absurd is
    go (Ok (RepairAdv m)) is = absurd is
    go (Ok (AckReq m)) is = absurd is
    go (Ok (Opaque m)) is = absurd is
    go (Ok (Nack m)) is = absurd is
    go (Ok (Report m)) is = absurd is
feed_leaves p r d (Asks n) now draw P all =
    subst (λ (read : Result Message Refusal). P (message_received p now draw read r)) (sym n.read) (go (nack_counts p n.m r) r.knows.backoff)
  where
    more : Heard
    more = heard_whole r.knows.heard (asked_all (map (named p r.knows.known) n.m.requests))

    then : Option ℕ → ReceiverState
    then found = record r { knows = elim found as (λ _. Knowledge) [ Some ends ↦ record (r.knows) { heard = more } | None ↦ r.knows ] }

    go : (b : Bool) (found : Option ℕ) → P (elim b as (λ _. ReceiverState) [ true ↦ then found | false ↦ r ])
    go true (Some ends) = all more
    go true None = all r.knows.heard
    go false found = all r.knows.heard

-- what is had depends on the instance and on what is held
pub same_has : (p : Settings) (s : SenderState) (r t : ReceiverState) (y : Want) → t.holding ≡ r.holding → t.instance ≡ r.instance → has p s t y ≡ has p s r y
same_has p s r t y held inside = ap (λ (o : Option ℕ). in_it o t.holding) inside ∙ ap (in_it r.instance) held
  where
    in_it : Option ℕ → Holding → Bool
    in_it o h = is_had [] p s (elim (elim o as (λ _. Bool) [ Some current ↦ current == s.current.id | None ↦ false ]) [ true ↦ h | false ↦ holding_nothing ]) y

-- ---- what a tick comes to, as a back-off runs

-- it holds as much, in its instance
pub record Holds (r t : ReceiverState) : Type 0 where
  pub holding : t.holding ≡ r.holding
  pub instance : t.instance ≡ r.instance

-- The back-off runs on; or nothing is needed; or all that would be asked for was heard; or a NACK goes.
pub data Comes (p : Settings) (r t : ReceiverState) (sent : Option Written) : Type 0 where
  RunsOn : is_some t.knows.backoff ≡ true → Comes p r t sent
  Needless : needs_nothing p t ≡ true → Comes p r t sent
  WasHeard : needs_nothing p r ≡ false → are_heard r (wanted_of p r) ≡ true → sent ≡ None → Comes p r t sent
  Nacked : (d : Written) (m : NackMessage) → sent ≡ Some d → d.message ≡ Nack m → Comes p r t sent

-- of a step
abbrev ComesSo : Settings → ReceiverState → ReceiverState × Option Written → Type 0
ComesSo p r step = Holds r step.0 × Comes p r step.0 step.1

pub tick_comes : (p : Settings) (r : ReceiverState) (now : ℕ) → is_some r.knows.backoff ≡ true → ComesSo p r (ticked p r now)
tick_comes p r now e = due r.knows.due
  where
    t : ReceiverState
    t = record r { knows = record (r.knows) { backoff = None } }

    held : Holds r r
    held = record { holding = refl; instance = refl }

    asked : needs_nothing p r ≡ false → (all : Bool) → are_heard r (wanted_of p r) ≡ all → ComesSo p r (elim all [
      | true ↦ (record t { knows = holds_off p now t.knows }, None)
      | false ↦ sends (writes (nack_message p t (wanted_of p r)) (flat_map indices_of (wanted_of p r))) (record t { knows = holds_off p now t.knows })
    ])
    asked some true is = (record { holding = refl; instance = refl }, WasHeard some is refl)
    asked some false is =
        (record { holding = refl; instance = refl }, Nacked (writes (nack_message p t (wanted_of p r)) (flat_map indices_of (wanted_of p r))) _ refl refl)

    needed : (none : Bool) → needs_nothing p r ≡ none → ComesSo p r (elim none [
      | true ↦ (t, None)
      | false ↦ asks p now (fitting p (needs p t) None p.e) t
    ])
    needed true is = (record { holding = refl; instance = refl }, Needless is)
    needed false is = asked is (are_heard r (wanted_of p r)) refl

    ended : (reached : Bool) → ComesSo p r (elim reached [ true ↦ asks_where_needed p now t | false ↦ (r, None) ])
    ended true = needed (needs_nothing p r) refl
    ended false = (held, RunsOn e)

    backed : (backoff : Option ℕ) → ComesSo p r (elim backoff [ Some ends ↦ elim (nat_le ends now) [ true ↦ asks_where_needed p now t | false ↦ (r, None) ] | None ↦ (r, None) ])
    backed None = (held, RunsOn e)
    backed (Some ends) = ended (nat_le ends now)

    due : (at : Option Position) → ComesSo p r (elim at [
      | Some at ↦ sends (writes (ack_message p r at) (at.index ∷ [])) (record r { knows = record (r.knows) { due = None } })
      | None ↦ ends_back_off p now r
    ])
    due None = backed r.knows.backoff
    due (Some at) = (record { holding = refl; instance = refl }, RunsOn e)
