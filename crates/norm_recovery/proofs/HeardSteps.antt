-- What happens to a receiver leaves what it heard and its back-off, or ends that, or begins anew; and what it heard is that of some requests.
use Rattle.std.proofs.Common.{◌≡◌, ℕ, List, [], ◌∷◌, map, Bool, true, false, Option, None, Some, refl, sym, ap, ◌∙◌, subst, ◌⊎◌, inl, inr, flat_map}
use Rattle.std.specs.Prelude.{◌==◌, nat_le, unwrap_or, option_and_then, Result, Ok, Err, ⊤}
use Rattle.std.specs.List.{AllByRecursion}
use Rattle.norm_base.specs.Members.{receivers_of}
use Rattle.norm_base.specs.Settings.{Settings}
use Rattle.fec_plan.specs.declared.position.Position.{Position}
use Rattle.norm_ext.specs.Asking.{Named, named}
use Rattle.norm_ext.specs.Message.{Message, Info, Data, Flush, Squelch, Eot, RepairAdv, AckReq, Opaque, Nack, Ack, Report}
use Rattle.norm_ext.specs.ObjectIds.{index_named}
use Rattle.norm_ext.specs.Reading.{decoded}
use Rattle.norm_ext.specs.Requests.{Request}
use Rattle.norm_ext.specs.Written.{Written, writes}
use Rattle.norm_ext.specs.declared.refusal.Refusal.{Refusal}
use Rattle.norm_receive_rules.specs.AllNeeds.{needs, needs_nothing}
use Rattle.norm_receive_rules.specs.BackingOff.{may_back_off, backs_off, backs_off_for_needs, may_need}
use Rattle.norm_receive_rules.specs.Heard.{Heard, heard_nothing, heard_all}
use Rattle.norm_receive_rules.specs.Leaving.{is_in, enters, goes_to, entered}
use Rattle.norm_receive_rules.specs.Nack.{indices_of, fitting, nack_message, ack_message}
use Rattle.norm_receive_rules.specs.NackLaws.{requests_heard}
use Rattle.norm_receive_rules.specs.Needs.{Need}
use Rattle.norm_receive_rules.specs.Overhearing.{asked_all, heard_whole, overheard, nack_counts}
use Rattle.norm_receive_rules.specs.ReceiverState.{ReceiverState, Knowledge, receiver_opening}
use Rattle.norm_receive_rules.specs.ReceiverStep.{ReceiverEvent, Delivered, Ticked, UpTaken, receiver_step}
use Rattle.norm_receive_rules.specs.Receiving.{info_received, data_received, flush_received, squelch_received, learns, takes_in, in_instance, message_received}
use Rattle.norm_receive_rules.specs.Ticking.{sends, holds_off, are_heard, asks, asks_where_needed, ends_back_off, ticked}
use Rattle.norm_receive_rules.proofs.NackLemmas.{nack_laws}
use Rattle.norm_safety.specs.Events.{Event}
use Rattle.norm_safety.specs.World.{World, world_opening, receiver_at}
use Rattle.norm_safety.specs.WorldStep.{world_step, run_from, run}
use Rattle.norm_safety.proofs.OrderRun.{found_holds}
use Rattle.norm_recovery.proofs.PassTurn.{After, Still, Steps, Before, before}

-- ---- what an event leaves

-- what was heard stays, in the instance; and a back-off goes on or ends
pub record Keeps (r t : ReceiverState) : Type 0 where
  pub heard : t.knows.heard ≡ r.knows.heard
  pub instance : t.instance ≡ r.instance
  pub backoff : (t.knows.backoff ≡ r.knows.backoff) ⊎ (t.knows.backoff ≡ None)

-- so it is, or all that was heard is forgotten
pub data Next (r t : ReceiverState) : Type 0 where
  Goes : Keeps r t → Next r t
  Anew : t.knows.heard ≡ heard_nothing → Next r t

pub keeps_itself : (r : ReceiverState) → Keeps r r
keeps_itself r = record { heard = refl; instance = refl; backoff = inl refl }

-- it is no NACK, and nothing that repeats one
abbrev pub IsPlain : Result Message Refusal → Type 0
IsPlain (Ok (Nack m)) = ⊥
IsPlain (Ok (RepairAdv m)) = ⊥
IsPlain _ = ⊤

may_need_next : (p : Settings) (now draw : ℕ) (r t : ReceiverState) → Next r t → Next r (may_need p now draw t)
may_need_next p now draw r t next = go (may_back_off now t.knows)
  where
    needed : (none : Bool) → Next r (elim none [ true ↦ t | false ↦ record t { knows = backs_off p now draw t.knows } ])
    needed true = next
    needed false = Anew refl

    go : (b : Bool) → Next r (elim b [ true ↦ backs_off_for_needs p now draw t | false ↦ t ])
    go true = needed (needs_nothing p t)
    go false = next

-- what a message does leaves what was heard, the back-off and the instance
record Same (r t : ReceiverState) : Type 0 where
  heard : t.knows.heard ≡ r.knows.heard
  instance : t.instance ≡ r.instance
  backoff : t.knows.backoff ≡ r.knows.backoff

in_next : (p : Settings) (now draw source id object : ℕ) (does : ℕ → ReceiverState → ReceiverState) → ((index : ℕ) (t : ReceiverState) → Same t (does index t))
    → (r : ReceiverState) → Next r (in_instance p now draw source id object does r)
in_next p now draw source id object does same r = go (source == p.sender)
  where
    learnt : (t : ReceiverState) → Next r t → (index : ℕ) → Next r (does index (record t { knows = learns index t.knows }))
    learnt t (Goes k) index =
        let s : Same (record t { knows = learns index t.knows }) (does index (record t { knows = learns index t.knows })) = same index (record t { knows = learns index t.knows }) in
        Goes (record { heard = s.heard ∙ k.heard; instance = s.instance ∙ k.instance; backoff = on s.backoff k.backoff })
      where
        on : {a b c : Option ℕ} → c ≡ b → (b ≡ a) ⊎ (b ≡ None) → (c ≡ a) ⊎ (c ≡ None)
        on e (inl f) = inl (e ∙ f)
        on e (inr f) = inr (e ∙ f)
    learnt t (Anew e) index = Anew ((same index (record t { knows = learns index t.knows })).heard ∙ e)

    names : (t : ReceiverState) → Next r t → (index : Option ℕ) → Next r (unwrap_or (elim index as (λ _. Option ReceiverState) [
      | Some index ↦ Some (may_need p now draw (does index (record t { knows = learns index t.knows })))
      | None ↦ None
    ]) r)
    names t next (Some index) = may_need_next p now draw r (does index (record t { knows = learns index t.knows })) (learnt t next index)
    names t next None = Goes (keeps_itself r)

    above : (b : Bool) → Next r (unwrap_or (option_and_then (takes_in p now draw object does) (elim b [ true ↦ Some (enters id r) | false ↦ None ])) r)
    above true = names (enters id r) (Anew refl) (index_named p (enters id r).knows.known object)
    above false = Goes (keeps_itself r)

    within : (b : Bool) → Next r (unwrap_or (option_and_then (takes_in p now draw object does) (elim b [
      | true ↦ Some r
      | false ↦ elim (goes_to r id) [ true ↦ Some (enters id r) | false ↦ None ]
    ])) r)
    within true = names r (Goes (keeps_itself r)) (index_named p r.knows.known object)
    within false = above (goes_to r id)

    go : (b : Bool) → Next r (elim b [ true ↦ unwrap_or (option_and_then (takes_in p now draw object does) (entered r id)) r | false ↦ r ])
    go true = within (is_in r id)
    go false = Goes (keeps_itself r)

pub next_hears : (p : Settings) (now draw : ℕ) (said : Result Message Refusal) → IsPlain said → (r : ReceiverState) → Next r (message_received p now draw said r)
next_hears p now draw (Ok (Info m)) plain r =
    in_next p now draw m.head.source m.head.instance m.head.object (info_received p m) (λ index t. record { heard = refl; instance = refl; backoff = refl }) r
next_hears p now draw (Ok (Data m)) plain r =
    in_next p now draw m.head.source m.head.instance m.head.object (data_received p m) (λ index t. record { heard = refl; instance = refl; backoff = refl }) r
next_hears p now draw (Ok (Flush m)) plain r =
    in_next p now draw m.head.source m.head.instance m.object (flush_received m) (λ index t. record { heard = refl; instance = refl; backoff = refl }) r
next_hears p now draw (Ok (Squelch m)) plain r =
    in_next p now draw m.head.source m.head.instance m.object (squelch_received p m) (λ index t. record { heard = refl; instance = refl; backoff = refl }) r
next_hears p now draw (Ok (Nack m)) plain r = absurd plain
next_hears p now draw (Ok (RepairAdv m)) plain r = absurd plain
next_hears p now draw (Ok (Eot m)) plain r = Goes (keeps_itself r)
next_hears p now draw (Ok (AckReq m)) plain r = Goes (keeps_itself r)
next_hears p now draw (Ok (Opaque m)) plain r = Goes (keeps_itself r)
next_hears p now draw (Ok (Ack m)) plain r = Goes (keeps_itself r)
next_hears p now draw (Ok (Report m)) plain r = Goes (keeps_itself r)
next_hears p now draw (Err refusal) plain r = Goes (keeps_itself r)

-- a state and what it gave
abbrev state_of : ReceiverState × Option Written → ReceiverState
state_of step = step.0

pub tick_keeps : (p : Settings) (r : ReceiverState) (now : ℕ) → Keeps r (ticked p r now).0
tick_keeps p r now = due r.knows.due
  where
    asked : (wanted : List Need) (t : ReceiverState) → Keeps r t → (all : Bool) → Keeps r (state_of (elim all [
      | true ↦ (record t { knows = holds_off p now t.knows }, None)
      | false ↦ sends (writes (nack_message p t wanted) (flat_map indices_of wanted)) (record t { knows = holds_off p now t.knows })
    ]))
    asked wanted t k true = record { heard = k.heard; instance = k.instance; backoff = k.backoff }
    asked wanted t k false = record { heard = k.heard; instance = k.instance; backoff = k.backoff }

    needed : (t : ReceiverState) → Keeps r t → (none : Bool) → Keeps r (state_of (elim none [
      | true ↦ (t, None)
      | false ↦ asks p now (fitting p (needs p t) None p.e) t
    ]))
    needed t k true = k
    needed t k false = asked (fitting p (needs p t) None p.e) t k (are_heard t (fitting p (needs p t) None p.e))

    ended : (t : ReceiverState) → Keeps r t → (reached : Bool) → Keeps r (state_of (elim reached [ true ↦ asks_where_needed p now t | false ↦ (r, None) ]))
    ended t k true = needed t k (needs_nothing p t)
    ended t k false = keeps_itself r

    backed : (backoff : Option ℕ) → Keeps r (state_of (elim backoff [
      | Some ends ↦ elim (nat_le ends now) [ true ↦ asks_where_needed p now (record r { knows = record (r.knows) { backoff = None } }) | false ↦ (r, None) ]
      | None ↦ (r, None)
    ]))
    backed None = keeps_itself r
    backed (Some ends) =
        ended (record r { knows = record (r.knows) { backoff = None } }) (record { heard = refl; instance = refl; backoff = inr refl }) (nat_le ends now)

    due : (at : Option Position) → Keeps r (state_of (elim at [
      | Some at ↦ sends (writes (ack_message p r at) (at.index ∷ [])) (record r { knows = record (r.knows) { due = None } })
      | None ↦ ends_back_off p now r
    ]))
    due None = backed r.knows.backoff
    due (Some at) = record { heard = refl; instance = refl; backoff = inl refl }

-- ---- what was heard is that of some requests

abbrev pub HasHeard : Heard → Type 0
HasHeard heard = (rs : List Named) × (heard ≡ heard_all rs)

has_next : (r t : ReceiverState) → Next r t → HasHeard r.knows.heard → HasHeard t.knows.heard
has_next r t (Goes k) h = (h.0, k.heard ∙ h.1)
has_next r t (Anew e) h = ([], e)

has_overheard : (p : Settings) (requests : List Request) (r : ReceiverState) → HasHeard r.knows.heard → HasHeard (overheard p requests r).knows.heard
has_overheard p requests r h = go r.knows.backoff
  where
    message : List Named
    message = map (named p r.knows.known) requests

    heard_of : Knowledge → Heard
    heard_of k = k.heard

    go : (backoff : Option ℕ) → HasHeard (heard_of (elim backoff [
      | Some ends ↦ record (r.knows) { heard = heard_whole r.knows.heard (asked_all (map (named p r.knows.known) requests)) }
      | None ↦ r.knows
    ]))
    go (Some ends) = (requests_heard h.0 message, ap (λ (heard : Heard). heard_whole heard (asked_all message)) h.1 ∙ nack_laws.more h.0 message)
    go None = h

has_hears : (p : Settings) (now draw : ℕ) (said : Result Message Refusal) (r : ReceiverState) → HasHeard r.knows.heard → HasHeard (message_received p now draw said r).knows.heard
has_hears p now draw said r h = go said
  where
    plainly : (said : Result Message Refusal) → IsPlain said → HasHeard (message_received p now draw said r).knows.heard
    plainly said plain = has_next r (message_received p now draw said r) (next_hears p now draw said plain r) h

    if_so : (b : Bool) (requests : List Request) → HasHeard (elim b as (λ _. ReceiverState) [ true ↦ overheard p requests r | false ↦ r ]).knows.heard
    if_so true requests = has_overheard p requests r h
    if_so false requests = h

    both_so : (b c : Bool) (requests : List Request)
        → HasHeard (elim b as (λ _. ReceiverState) [ true ↦ elim c as (λ _. ReceiverState) [ true ↦ overheard p requests r | false ↦ r ] | false ↦ r ]).knows.heard
    both_so true c requests = if_so c requests
    both_so false c requests = h

    go : (said : Result Message Refusal) → HasHeard (message_received p now draw said r).knows.heard
    go (Ok (Nack m)) = if_so (nack_counts p m r) m.requests
    go (Ok (RepairAdv m)) = both_so (m.head.source == p.sender) (is_in r m.head.instance) m.requests
    go (Ok (Info m)) = plainly (Ok (Info m)) tt
    go (Ok (Data m)) = plainly (Ok (Data m)) tt
    go (Ok (Flush m)) = plainly (Ok (Flush m)) tt
    go (Ok (Squelch m)) = plainly (Ok (Squelch m)) tt
    go (Ok (Eot m)) = h
    go (Ok (AckReq m)) = h
    go (Ok (Opaque m)) = h
    go (Ok (Ack m)) = h
    go (Ok (Report m)) = h
    go (Err refusal) = h

has_step : (p : Settings) (r : ReceiverState) (event : ReceiverEvent) → HasHeard r.knows.heard → HasHeard (receiver_step p r event).0.knows.heard
has_step p r (Delivered datagram now draw) h = has_hears p now draw (decoded datagram) r h
has_step p r (Ticked now) h = let k = tick_keeps p r now in (h.0, k.heard ∙ h.1)
has_step p r UpTaken h = h

-- so it is of each receiver
abbrev AllHeard : Settings → World → Type 0
AllHeard p w = (node : ℕ) (r : ReceiverState) → (node == p.sender) ≡ false → receiver_at w node ≡ Some r → HasHeard r.knows.heard

heard_from : (p : Settings) (w : World) (events : List Event) → AllHeard p w → AllHeard p (run_from p w events)
heard_from p w [] h = h
heard_from p w (e ∷ events) h = heard_from p (world_step p w e).0 events next
  where
    next : AllHeard p (world_step p w e).0
    next node t other found = go (before p w e node other t found)
      where
        go : Before p w node t → HasHeard t.knows.heard
        go b = by b.after
          where
            by : After p b.r t → HasHeard t.knows.heard
            by (Still same) = subst (λ (x : ReceiverState). HasHeard x.knows.heard) (sym same) (h node b.r other b.found)
            by (Steps own is) = subst (λ (x : ReceiverState). HasHeard x.knows.heard) (sym is) (has_step p b.r own (h node b.r other b.found))

opening_heard : (p : Settings) → AllHeard p (world_opening p)
opening_heard p node r other found =
    found_holds (λ (x : ReceiverState). HasHeard x.knows.heard) (λ (x : ReceiverState). x.node == node) (world_opening p).receivers r (each (receivers_of p p.receivers)) found
  where
    each : (nodes : List ℕ) → AllByRecursion (λ (x : ReceiverState). HasHeard x.knows.heard) (map receiver_opening nodes)
    each [] = tt
    each (n ∷ nodes) = (([], refl), each nodes)

-- after each run
pub has_heard : (p : Settings) (events : List Event) (node : ℕ) (r : ReceiverState) → (node == p.sender) ≡ false → receiver_at (run p events) node ≡ Some r
    → HasHeard r.knows.heard
has_heard p events node r other found = heard_from p (world_opening p) events (opening_heard p) node r other found
