-- Each step of a receiver leaves it timely.
use Rattle.std.proofs.Math.Nat.{mod-lt}
use Rattle.std.proofs.Common.{◌≡◌, ℕ, ◌+◌, ◌*◌, ◌%◌, ◌<◌, ◌≤◌, List, [], ◌∷◌, Bool, true, false, Option, None, Some, Result, Ok, refl, sym, subst, arith}
use Rattle.std.specs.Prelude.{nat_le, ◌==◌, ◌&&◌, not, IfSome, map, unwrap_or, option_and_then, flat_map, ⊤}
use Rattle.norm_base.specs.Settings.{Settings}
use Rattle.fec_plan.specs.declared.position.Position.{Position}
use Rattle.norm_ext.specs.Asking.{named}
use Rattle.norm_ext.specs.Message.{Message, Info, Data, Flush, Squelch, RepairAdv, Nack}
use Rattle.norm_ext.specs.ObjectIds.{index_named}
use Rattle.norm_ext.specs.Reading.{decoded}
use Rattle.norm_ext.specs.Requests.{Request}
use Rattle.norm_ext.specs.Written.{Written, writes}
use Rattle.norm_order.specs.Moments.{moment_after}
use Rattle.norm_receive_rules.specs.AllNeeds.{needs, needs_nothing}
use Rattle.norm_receive_rules.specs.BackingOff.{may_back_off, backs_off, backs_off_for_needs, may_need}
use Rattle.norm_receive_rules.specs.Leaving.{is_in, enters, goes_to, entered}
use Rattle.norm_receive_rules.specs.Nack.{fitting, indices_of, nack_message, ack_message}
use Rattle.norm_receive_rules.specs.Needs.{Need}
use Rattle.norm_receive_rules.specs.Overhearing.{asked_all, heard_whole, overheard, adv_overheard}
use Rattle.norm_receive_rules.specs.ReceiverState.{ReceiverState, Knowledge}
use Rattle.norm_receive_rules.specs.ReceiverStep as receiver
use Rattle.norm_receive_rules.specs.ReceiverStep.{ReceiverEvent, receiver_step}
use Rattle.norm_receive_rules.specs.Receiving.{info_received, data_received, flush_received, squelch_received, learns, takes_in, in_instance, message_received}
use Rattle.norm_receive_rules.specs.Ticking.{sends, holds_off, are_heard, asks, asks_where_needed, ends_back_off, ticked}
use Rattle.norm_recovery.specs.Timely.{AsksTimely, ReceiverTimely}
use Rattle.norm_recovery.proofs.TimelySender.{put_off}

-- the event comes at this moment or before, if it has a moment
abbrev pub ReceiverComesBy : ℕ → ReceiverEvent → Type 0
ReceiverComesBy last (receiver.Delivered datagram now draw) = now ≤ last
ReceiverComesBy last (receiver.Ticked now) = now ≤ last
ReceiverComesBy last receiver.UpTaken = ⊤

abbrev R : Settings → ℕ → ReceiverState → Type 0
R p last r = ReceiverTimely p last r

-- a step of a receiver leaves its moments
record Keeps (r t : ReceiverState) : Type 0 where
  backoff : t.knows.backoff ≡ r.knows.backoff
  holdoff : t.knows.holdoff ≡ r.knows.holdoff

kept : (p : Settings) (last : ℕ) (r t : ReceiverState) → Keeps r t → R p last r → R p last t
kept p last r t k h =
    let B : Option ℕ → Type 0 = λ o. IfSome o (λ m. m ≤ last + p.k * p.grtt) in
    record { backoff = subst B (sym k.backoff) h.backoff; holdoff = (let le = h.holdoff in let same = k.holdoff in omega (arith, le, same)) }

-- as an instance begins
fresh : (p : Settings) (last instance : ℕ) (r : ReceiverState) → R p last (enters instance r)
fresh p last instance r = record { backoff = tt; holdoff = omega arith }

-- a back-off begins within its span
needs_timely : (p : Settings) (now last draw : ℕ) (r : ReceiverState) → now ≤ last → R p last r → R p last (may_need p now draw r)
needs_timely p now last draw r le h = go (may_back_off now r.knows)
  where
    drawn : draw % (p.k * p.grtt + 1) ≤ p.k * p.grtt
    drawn = (let less : draw % (p.k * p.grtt + 1) < p.k * p.grtt + 1 = mod-lt draw (omega arith) in omega (arith, less))

    within : (m d most : ℕ) → m ≤ last + d → d ≤ most → m ≤ last + most
    within m d most a b = omega (arith, a, b)

    begins : (b : Bool) → R p last (elim b as (λ _. ReceiverState) [ true ↦ r | false ↦ record r { knows = backs_off p now draw r.knows } ])
    begins true = h
    begins false = record {
      backoff = within (moment_after now (draw % (p.k * p.grtt + 1))) (draw % (p.k * p.grtt + 1)) (p.k * p.grtt)
          (put_off now (draw % (p.k * p.grtt + 1)) last le) drawn;
      holdoff = h.holdoff;
    }

    go : (b : Bool) → R p last (elim b as (λ _. ReceiverState) [ true ↦ backs_off_for_needs p now draw r | false ↦ r ])
    go true = begins (needs_nothing p r)
    go false = h

-- a message of the sender, which says something of what is held and known, but of no moment
abbrev SaysNoMoment : (ℕ → ReceiverState → ReceiverState) → Type 0
SaysNoMoment received = (index : ℕ) (r : ReceiverState) → Keeps r (received index r)

instance_timely : (p : Settings) (now last draw source instance object : ℕ) (received : ℕ → ReceiverState → ReceiverState) (r : ReceiverState)
    → SaysNoMoment received → now ≤ last → R p last r → R p last (in_instance p now draw source instance object received r)
instance_timely p now last draw source instance object received r says le h = go (source == p.sender)
  where
    taken : (t : ReceiverState) → R p last t → (index : Option ℕ)
        → R p last (unwrap_or (elim index as (λ _. Option ReceiverState) [
          | Some index ↦ Some (may_need p now draw (received index (record t { knows = learns index t.knows })))
          | None ↦ None
        ]) r)
    taken t k (Some index) =
        let u : ReceiverState = record t { knows = learns index t.knows } in
        needs_timely p now last draw (received index u) le (kept p last u (received index u) (says index u) (record { backoff = k.backoff; holdoff = k.holdoff }))
    taken t k None = h

    begun : (o : Option ReceiverState) → ((t : ReceiverState) → o ≡ Some t → R p last t)
        → R p last (unwrap_or (option_and_then (takes_in p now draw object received) o) r)
    begun (Some t) is = taken t (is t refl) (index_named p t.knows.known object)
    begun None is = h

    enters_timely : (b : Bool) (t : ReceiverState) → (elim b as (λ _. Option ReceiverState) [ true ↦ Some (enters instance r) | false ↦ None ]) ≡ Some t → R p last t
    enters_timely true t e = subst (λ (o : Option ReceiverState). IfSome o (λ (x : ReceiverState). R p last x)) e (fresh p last instance r)
    enters_timely false t e = absurd (none t e)
      where
        none : (t : ReceiverState) → None ≡ Some t → ⊥
        none t e = cc

    in_or_on : (b : Bool) (t : ReceiverState)
        → (elim b as (λ _. Option ReceiverState) [ true ↦ Some r | false ↦ elim (goes_to r instance) [ true ↦ Some (enters instance r) | false ↦ None ] ]) ≡ Some t → R p last t
    in_or_on true t e = subst (λ (o : Option ReceiverState). IfSome o (λ (x : ReceiverState). R p last x)) e h
    in_or_on false t e = enters_timely (goes_to r instance) t e

    go : (b : Bool) → R p last (elim b as (λ _. ReceiverState) [
      | true ↦ unwrap_or (option_and_then (takes_in p now draw object received) (entered r instance)) r
      | false ↦ r
    ])
    go true = begun (entered r instance) (in_or_on (is_in r instance))
    go false = h

-- what is overheard sets no moment
overheard_timely : (p : Settings) (last : ℕ) (requests : List Request) (r : ReceiverState) → R p last r → R p last (overheard p requests r)
overheard_timely p last requests r h = go r.knows.backoff h.backoff
  where
    go : (o : Option ℕ) → IfSome o (λ m. m ≤ last + p.k * p.grtt) → AsksTimely p last (elim o as (λ _. Knowledge) [
      | Some ends ↦ record (r.knows) { heard = heard_whole r.knows.heard (asked_all (map (named p r.knows.known) requests)) }
      | None ↦ r.knows
    ])
    go (Some ends) k = record { backoff = h.backoff; holdoff = h.holdoff }
    go None k = h

message_timely : {E : Type 0} (p : Settings) (now last draw : ℕ) (read : Result Message E) (r : ReceiverState) → now ≤ last → R p last r
    → R p last (message_received p now draw read r)
message_timely p now last draw (Ok (Info m)) r le h =
    instance_timely p now last draw m.head.source m.head.instance m.head.object (info_received p m) r (λ index t. record { backoff = refl; holdoff = refl }) le h
message_timely p now last draw (Ok (Data m)) r le h =
    instance_timely p now last draw m.head.source m.head.instance m.head.object (data_received p m) r (λ index t. record { backoff = refl; holdoff = refl }) le h
message_timely p now last draw (Ok (Flush m)) r le h =
    instance_timely p now last draw m.head.source m.head.instance m.object (flush_received m) r (λ index t. record { backoff = refl; holdoff = refl }) le h
message_timely p now last draw (Ok (Squelch m)) r le h =
    instance_timely p now last draw m.head.source m.head.instance m.object (squelch_received p m) r (λ index t. record { backoff = refl; holdoff = refl }) le h
message_timely p now last draw (Ok (RepairAdv m)) r le h = go (m.head.source == p.sender)
  where
    inside : (b : Bool) → R p last (elim b as (λ _. ReceiverState) [ true ↦ overheard p m.requests r | false ↦ r ])
    inside true = overheard_timely p last m.requests r h
    inside false = h

    go : (b : Bool) → R p last (elim b as (λ _. ReceiverState) [ true ↦ adv_overheard p m r | false ↦ r ])
    go true = inside (is_in r m.head.instance)
    go false = h
message_timely p now last draw (Ok (Nack m)) r le h = go (not (m.source == r.node) && m.sender == p.sender && is_in r m.instance)
  where
    go : (b : Bool) → R p last (elim b as (λ _. ReceiverState) [ true ↦ overheard p m.requests r | false ↦ r ])
    go true = overheard_timely p last m.requests r h
    go false = h
message_timely p now last draw _ r le h = h

tick_timely : (p : Settings) (now last : ℕ) (r : ReceiverState) → now ≤ last → R p last r → R p last (ticked p r now).0
tick_timely p now last r le h = go r.knows.due
  where
    -- a back-off that ended, in silence, with a NACK, or with a hold-off
    asked : (wanted : List Need) (t : ReceiverState) → R p last t → R p last (asks p now wanted t).0
    asked wanted t k = by (are_heard t wanted)
      where
        off : ReceiverState
        off = record t { knows = holds_off p now t.knows }

        by : (c : Bool) → R p last (elim c as (λ _. ReceiverState × Option Written) [
          | true ↦ (off, None)
          | false ↦ sends (writes (nack_message p t wanted) (flat_map indices_of wanted)) off
        ]).0
        by true = record { backoff = k.backoff; holdoff = put_off now ((p.k + 2) * p.grtt) last le }
        by false = record { backoff = k.backoff; holdoff = put_off now ((p.k + 2) * p.grtt) last le }

    ended : (b : Bool) → R p last (elim b as (λ _. ReceiverState × Option Written) [
      | true ↦ asks_where_needed p now (record r { knows = record (r.knows) { backoff = None } })
      | false ↦ (r, None)
    ]).0
    ended true =
        let t : ReceiverState = record r { knows = record (r.knows) { backoff = None } } in
        where_needed t (record { backoff = tt; holdoff = h.holdoff }) (needs_nothing p t)
      where
        where_needed : (t : ReceiverState) → R p last t → (b : Bool)
            → R p last (elim b as (λ _. ReceiverState × Option Written) [ true ↦ (t, None) | false ↦ asks p now (fitting p (needs p t) None p.e) t ]).0
        where_needed t k true = k
        where_needed t k false = asked (fitting p (needs p t) None p.e) t k
    ended false = h

    back : (o : Option ℕ) → R p last (elim o as (λ _. ReceiverState × Option Written) [
      | Some ends ↦ elim (nat_le ends now) [
        | true ↦ asks_where_needed p now (record r { knows = record (r.knows) { backoff = None } })
        | false ↦ (r, None)
      ]
      | None ↦ (r, None)
    ]).0
    back (Some ends) = ended (nat_le ends now)
    back None = h

    go : (o : Option Position) → R p last (elim o as (λ _. ReceiverState × Option Written) [
      | Some at ↦ sends (writes (ack_message p r at) (at.index ∷ [])) (record r { knows = record (r.knows) { due = None } })
      | None ↦ ends_back_off p now r
    ]).0
    go (Some at) = record { backoff = h.backoff; holdoff = h.holdoff }
    go None = back r.knows.backoff

pub receiver_timely : (p : Settings) (last : ℕ) (r : ReceiverState) (event : ReceiverEvent) → ReceiverComesBy last event → ReceiverTimely p last r
    → ReceiverTimely p last (receiver_step p r event).0
receiver_timely p last r (receiver.Delivered datagram now draw) le h = message_timely p now last draw (decoded datagram) r le h
receiver_timely p last r (receiver.Ticked now) le h = tick_timely p now last r le h
receiver_timely p last r receiver.UpTaken le h = record { backoff = h.backoff; holdoff = h.holdoff }
