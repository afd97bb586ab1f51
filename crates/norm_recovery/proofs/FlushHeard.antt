-- Who hears a flush is in its instance, and knows its position from then on.
use Rattle.std.proofs.Common.{◌≡◌, ℕ, List, [], ◌∷◌, Bool, true, false, Option, None, Some, Result, Ok, Err, refl, sym, ap, ◌∙◌, subst, arith}
use Rattle.std.specs.Prelude.{◌==◌, ◌&&◌, not, nat_le, flat_map, unwrap_or, option_and_then, if◌then◌else◌}
use Rattle.std.proofs.lemmas.Bool.Decides.{Decides-eqb}
use Rattle.norm_base.specs.Settings.{Settings}
use Rattle.fec_plan.specs.Points.{position, position_before, reaches, reached_by, further}
use Rattle.fec_plan.specs.declared.position.Position.{Position}
use Rattle.fec_plan.proofs.PositionLemmas.{Before, before_decides, behind, reached, behind_both, positions_are_ordered}
use Rattle.norm_ext.specs.Message.{Message, Info, Data, Flush, Eot, Squelch, RepairAdv, AckReq, Opaque, Nack, Ack, Report, FlushCommand}
use Rattle.norm_ext.specs.ObjectIds.{index_named}
use Rattle.norm_ext.specs.Reading.{decoded}
use Rattle.norm_ext.specs.Requests.{Request}
use Rattle.norm_ext.specs.Written.{Written, writes}
use Rattle.norm_ext.specs.declared.refusal.Refusal.{Refusal}
use Rattle.norm_receive_rules.specs.Acknowledging.{acknowledges}
use Rattle.norm_receive_rules.specs.AllNeeds.{needs, needs_nothing}
use Rattle.norm_receive_rules.specs.BackingOff.{may_back_off, backs_off, may_need}
use Rattle.norm_receive_rules.specs.Leaving.{is_in, goes_to, enters, entered}
use Rattle.norm_receive_rules.specs.Nack.{indices_of, fitting, nack_message, ack_message}
use Rattle.norm_receive_rules.specs.Needs.{Need}
use Rattle.norm_receive_rules.specs.Overhearing.{overheard, adv_overheard}
use Rattle.norm_receive_rules.specs.ReceiverState.{ReceiverState, Knowledge}
use Rattle.norm_receive_rules.specs.Receiving.{info_received, data_received, flush_received, squelch_received, learns, takes_in, in_instance, message_received, received}
use Rattle.norm_receive_rules.specs.Taking.{took}
use Rattle.norm_receive_rules.specs.Ticking.{sends, holds_off, are_heard, asks, asks_where_needed, ends_back_off, ticked}
use Rattle.norm_safety.specs.Acknowledges.{owes}
use Rattle.norm_laws.proofs.NewOrder.{clash}
use Rattle.norm_recovery.specs.Flush.{KnowsFlush, FlushHeard}

-- no position comes before itself
not_itself : (at : Position) → position_before at at ≡ false
not_itself at = go (position_before at at) refl
  where
    never : Before at at → ⊥
    never h = omega (arith, h)

    go : (b : Bool) → position_before at at ≡ b → b ≡ false
    go true e = absurd (never ((before_decides at at).0 e))
    go false e = refl

-- the further of two positions reaches this one
further_reaches : (at : Position) (known : Option Position) → reached_by (further at known) at ≡ true
further_reaches at None = ap not (not_itself at)
further_reaches at (Some other) = go (position_before other at) refl
  where
    go : (b : Bool) → position_before other at ≡ b → reached_by (if b then Some at else Some other) at ≡ true
    go true e = ap not (not_itself at)
    go false e = ap not e

-- the receiver in which a message is received is in its instance
enters_it : (r t : ReceiverState) (id : ℕ) → entered r id ≡ Some t → t.instance ≡ Some id
enters_it r t id e = go r.instance refl e
  where
    same : (x y : ReceiverState) → Some x ≡ Some y → x ≡ y
    same x y e = cc

    none_some : None ≡ Some t → ⊥
    none_some e = cc

    new : (b : Bool) → (elim b as (λ _. Option ReceiverState) [ true ↦ Some (enters id r) | false ↦ None ]) ≡ Some t → t.instance ≡ Some id
    new true e = ap (λ (x : ReceiverState). x.instance) (sym (same (enters id r) t e))
    new false e = absurd (none_some e)

    in_it : (current : ℕ) → r.instance ≡ Some current → (b : Bool) → (current == id) ≡ b
        → (elim b as (λ _. Option ReceiverState) [ true ↦ Some r | false ↦ elim (goes_to r id) [ true ↦ Some (enters id r) | false ↦ None ] ]) ≡ Some t
        → t.instance ≡ Some id
    in_it current is true own e =
        ap (λ (x : ReceiverState). x.instance) (sym (same r t e)) ∙ is ∙ ap (λ (n : ℕ). Some n) ((Decides-eqb current id).0 own)
    in_it current is false other e = new (goes_to r id) e

    entered_by : Option ℕ → Option ReceiverState
    entered_by o = elim (elim o as (λ _. Bool) [ Some current ↦ current == id | None ↦ false ]) as (λ _. Option ReceiverState) [
      | true ↦ Some r
      | false ↦ elim (goes_to r id) [ true ↦ Some (enters id r) | false ↦ None ]
    ]

    go : (o : Option ℕ) → r.instance ≡ o → entered r id ≡ Some t → t.instance ≡ Some id
    go None is e = new (goes_to r id) (sym (ap entered_by is) ∙ e)
    go (Some current) is e = in_it current is (current == id) refl (sym (ap entered_by is) ∙ e)

need_instance : (p : Settings) (now draw : ℕ) (r : ReceiverState) → (may_need p now draw r).instance ≡ r.instance
need_instance p now draw r = go (may_back_off now r.knows) (needs_nothing p r)
  where
    left : Bool → Bool → ReceiverState
    left b c = elim b [ true ↦ elim c [ true ↦ r | false ↦ record r { knows = backs_off p now draw r.knows } ] | false ↦ r ]

    go : (b c : Bool) → (left b c).instance ≡ r.instance
    go true true = refl
    go true false = refl
    go false c = refl

-- a back-off that begins leaves both
need_knows : (p : Settings) (now draw : ℕ) (r : ReceiverState) (id : ℕ) (at : Position) → KnowsFlush r id at → KnowsFlush (may_need p now draw r) id at
need_knows p now draw r id at h = go (may_back_off now r.knows) (needs_nothing p r)
  where
    go : (b c : Bool) → KnowsFlush (elim b [ true ↦ elim c [ true ↦ r | false ↦ record r { knows = backs_off p now draw r.knows } ] | false ↦ r ]) id at
    go true true = h
    go true false = record { inside = h.inside; flush = h.flush }
    go false c = h

-- what becomes of a receiver that hears a flush
pub heard_is : (p : Settings) (r t : ReceiverState) (octets : List ℕ) (now draw index : ℕ) (m : FlushCommand) → decoded octets ≡ Ok (Flush m)
    → m.head.source ≡ p.sender → entered r m.head.instance ≡ Some t → index_named p t.knows.known m.object ≡ Some index
    → received p r octets now draw ≡ may_need p now draw (flush_received m index (record t { knows = learns index t.knows }))
heard_is p r t octets now draw index m read source enters named =
    ap (λ said. message_received p now draw said r) read
    ∙ ap by_sender ((Decides-eqb m.head.source p.sender).1 source)
    ∙ ap (λ (o : Option ReceiverState). unwrap_or (option_and_then (takes_in p now draw m.object (flush_received m)) o) r) enters
    ∙ ap by_name named
  where
    by_sender : Bool → ReceiverState
    by_sender b = elim b [ true ↦ unwrap_or (option_and_then (takes_in p now draw m.object (flush_received m)) (entered r m.head.instance)) r | false ↦ r ]

    by_name : Option ℕ → ReceiverState
    by_name o = unwrap_or (elim o as (λ _. Option ReceiverState) [
      | Some i ↦ Some (may_need p now draw (flush_received m i (record t { knows = learns i t.knows })))
      | None ↦ None
    ]) r

knows : (p : Settings) (r t : ReceiverState) (octets : List ℕ) (now draw index : ℕ) (m : FlushCommand) → decoded octets ≡ Ok (Flush m)
    → m.head.source ≡ p.sender → entered r m.head.instance ≡ Some t → index_named p t.knows.known m.object ≡ Some index
    → KnowsFlush (received p r octets now draw) m.head.instance (position index m.id.block m.id.symbol)
knows p r t octets now draw index m read source enters named =
    let at = position index m.id.block m.id.symbol in
    subst (λ (x : ReceiverState). KnowsFlush x m.head.instance at) (sym (heard_is p r t octets now draw index m read source enters named))
    (need_knows p now draw (flush_received m index (record t { knows = learns index t.knows })) m.head.instance at (record {
      inside = enters_it r t m.head.instance enters;
      flush = further_reaches at t.knows.flush;
    }))

-- ---- and what it owes

-- by what is due
abbrev due_reaches : Option Position → Position → Bool
due_reaches due at = elim due [ Some own ↦ reaches own at | None ↦ false ]

need_owes : (p : Settings) (now draw : ℕ) (r : ReceiverState) (at : Position) → owes r at ≡ true → owes (may_need p now draw r) at ≡ true
need_owes p now draw r at h = go (may_back_off now r.knows) (needs_nothing p r)
  where
    go : (b c : Bool) → owes (elim b [ true ↦ elim c [ true ↦ r | false ↦ record r { knows = backs_off p now draw r.knows } ] | false ↦ r ]) at ≡ true
    go true true = h
    go true false = h
    go false c = h

now_owes : (at : Position) (due : Option Position) → due_reaches (further at due) at ≡ true
now_owes at due = go (further at due) (further_reaches at due)
  where
    go : (o : Option Position) → reached_by o at ≡ true → due_reaches o at ≡ true
    go None e = e
    go (Some own) e = e

owed : (p : Settings) (r t : ReceiverState) (octets : List ℕ) (now draw index : ℕ) (m : FlushCommand) → decoded octets ≡ Ok (Flush m)
    → m.head.source ≡ p.sender → entered r m.head.instance ≡ Some t → index_named p t.knows.known m.object ≡ Some index
    → acknowledges t (position index m.id.block m.id.symbol) m.nodes ≡ true
    → owes (received p r octets now draw) (position index m.id.block m.id.symbol) ≡ true
owed p r t octets now draw index m read source enters named asked =
    let at = position index m.id.block m.id.symbol in
    subst (λ (x : ReceiverState). owes x at ≡ true) (sym (heard_is p r t octets now draw index m read source enters named))
    (need_owes p now draw (flush_received m index (record t { knows = learns index t.knows })) at
    (ap (λ (b : Bool). due_reaches (elim b [ true ↦ further at t.knows.due | false ↦ t.knows.due ]) at) asked ∙ now_owes at t.knows.due))

-- ---- what is known stays so

-- the further of a position and one that reaches this one
still_reaches : (other at : Position) (known : Option Position) → reached_by known at ≡ true → reached_by (further other known) at ≡ true
still_reaches other at None h = absurd (clash h)
still_reaches other at (Some own) h = go (position_before own other) refl
  where
    go : (b : Bool) → position_before own other ≡ b → reached_by (if b then Some other else Some own) at ≡ true
    go false e = h
    go true e =
        let over : reaches other own ≡ true = ap not (positions_are_ordered.one_way own other e) in
        reached other at (behind_both other own at (behind other own over) (behind own at h))

-- a message of the sender
instance_knows : (p : Settings) (now draw source id object : ℕ) (brings : ℕ → ReceiverState → ReceiverState) (r : ReceiverState) (own : ℕ) (at : Position)
    → ((index : ℕ) (t : ReceiverState) → (brings index t).instance ≡ t.instance)
    → ((index : ℕ) (t : ReceiverState) → KnowsFlush t own at → KnowsFlush (brings index t) own at)
    → (in_instance p now draw source id object brings r).instance ≡ r.instance → KnowsFlush r own at
    → KnowsFlush (in_instance p now draw source id object brings r) own at
instance_knows p now draw source id object brings r own at same kept = go (source == p.sender) (is_in r id) refl (goes_to r id)
  where
    knowing : ℕ → ReceiverState → ReceiverState
    knowing index t = record t { knows = learns index t.knows }

    taken : (t : ReceiverState) → Option ℕ → ReceiverState
    taken t found = unwrap_or (elim found [ Some index ↦ Some (may_need p now draw (brings index (knowing index t))) | None ↦ None ]) r

    inside : (found : Option ℕ) → KnowsFlush r own at → KnowsFlush (taken r found) own at
    inside None h = h
    inside (Some index) h =
        need_knows p now draw (brings index (knowing index r)) own at (kept index (knowing index r) (record { inside = h.inside; flush = h.flush }))

    out : is_in r id ≡ false → r.instance ≡ Some id → ⊥
    out e is = clash (sym e ∙ ap (λ (o : Option ℕ). elim o [ Some current ↦ current == id | None ↦ false ]) is ∙ (Decides-eqb id id).1 refl)

    outside : (found : Option ℕ) → is_in r id ≡ false → (taken (enters id r) found).instance ≡ r.instance → KnowsFlush r own at
        → KnowsFlush (taken (enters id r) found) own at
    outside None e stays h = h
    outside (Some index) e stays h =
        let inner : (may_need p now draw (brings index (knowing index (enters id r)))).instance ≡ Some id =
        need_instance p now draw (brings index (knowing index (enters id r))) ∙ same index (knowing index (enters id r)) in
        absurd (out e (sym stays ∙ inner))

    left : Bool → Bool → Bool → ReceiverState
    left sent inner above = elim sent [
      | true ↦ unwrap_or (option_and_then (takes_in p now draw object brings)
          (elim inner [ true ↦ Some r | false ↦ elim above [ true ↦ Some (enters id r) | false ↦ None ] ])) r
      | false ↦ r
    ]

    go : (sent inner : Bool) → is_in r id ≡ inner → (above : Bool) → (left sent inner above).instance ≡ r.instance → KnowsFlush r own at
        → KnowsFlush (left sent inner above) own at
    go false inner e above stays h = h
    go true true e above stays h = inside (index_named p r.knows.known object) h
    go true false e true stays h = outside (index_named p (enters id r).knows.known object) e stays h
    go true false e false stays h = h

-- what others ask for
overheard_knows : (p : Settings) (requests : List Request) (r : ReceiverState) (id : ℕ) (at : Position) → KnowsFlush r id at → KnowsFlush (overheard p requests r) id at
overheard_knows p requests r id at h = record { inside = h.inside; flush = go r.knows.backoff _ h.flush }
  where
    known : Option ℕ → Knowledge → Knowledge
    known backoff k = elim backoff [ Some ends ↦ k | None ↦ r.knows ]

    go : (backoff : Option ℕ) (k : Knowledge) → reached_by k.flush at ≡ true → reached_by (known backoff k).flush at ≡ true
    go (Some ends) k e = e
    go None k e = h.flush

where_knows : (b : Bool) (r t : ReceiverState) (id : ℕ) (at : Position) → KnowsFlush t id at → KnowsFlush r id at
    → KnowsFlush (elim b as (λ _. ReceiverState) [ true ↦ t | false ↦ r ]) id at
where_knows true r t id at own h = own
where_knows false r t id at own h = h

hears : (p : Settings) (r : ReceiverState) (octets : List ℕ) (now draw id : ℕ) (at : Position) → (received p r octets now draw).instance ≡ r.instance
    → KnowsFlush r id at → KnowsFlush (received p r octets now draw) id at
hears p r octets now draw id at = go (decoded octets)
  where
    flushes_on : (m : FlushCommand) (index : ℕ) (t : ReceiverState) → KnowsFlush t id at → KnowsFlush (flush_received m index t) id at
    flushes_on m index t h = record { inside = h.inside; flush = still_reaches (position index m.id.block m.id.symbol) at t.knows.flush h.flush }

    go : (read : Result Message Refusal) → (message_received p now draw read r).instance ≡ r.instance → KnowsFlush r id at
        → KnowsFlush (message_received p now draw read r) id at
    go (Ok (Info m)) = instance_knows p now draw m.head.source m.head.instance m.head.object (info_received p m) r id at (λ index t. refl)
        (λ index t h. record { inside = h.inside; flush = h.flush })
    go (Ok (Data m)) = instance_knows p now draw m.head.source m.head.instance m.head.object (data_received p m) r id at (λ index t. refl)
        (λ index t h. record { inside = h.inside; flush = h.flush })
    go (Ok (Flush m)) = instance_knows p now draw m.head.source m.head.instance m.object (flush_received m) r id at (λ index t. refl) (flushes_on m)
    go (Ok (Squelch m)) = instance_knows p now draw m.head.source m.head.instance m.object (squelch_received p m) r id at (λ index t. refl)
        (λ index t h. record { inside = h.inside; flush = h.flush })
    go (Ok (RepairAdv m)) = λ stays h. where_knows (m.head.source == p.sender) r (adv_overheard p m r) id at
        (where_knows (is_in r m.head.instance) r (overheard p m.requests r) id at (overheard_knows p m.requests r id at h) h) h
    go (Ok (Nack m)) = λ stays h. where_knows (not (m.source == r.node) && m.sender == p.sender && is_in r m.instance) r (overheard p m.requests r) id at
        (overheard_knows p m.requests r id at h) h
    go (Ok (Eot m)) = λ stays h. h
    go (Ok (AckReq m)) = λ stays h. h
    go (Ok (Opaque m)) = λ stays h. h
    go (Ok (Ack m)) = λ stays h. h
    go (Ok (Report m)) = λ stays h. h
    go (Err refusal) = λ stays h. h

ticks : (p : Settings) (r : ReceiverState) (now id : ℕ) (at : Position) → KnowsFlush r id at → KnowsFlush (ticked p r now).0 id at
ticks p r now id at h = due r.knows.due
  where
    state_of : ReceiverState × Option Written → ReceiverState
    state_of step = step.0

    asked : (wanted : List Need) (t : ReceiverState) → KnowsFlush t id at → (all : Bool) → KnowsFlush (state_of (elim all [
      | true ↦ (record t { knows = holds_off p now t.knows }, None)
      | false ↦ sends (writes (nack_message p t wanted) (flat_map indices_of wanted)) (record t { knows = holds_off p now t.knows })
    ])) id at
    asked wanted t k true = record { inside = k.inside; flush = k.flush }
    asked wanted t k false = record { inside = k.inside; flush = k.flush }

    needed : (t : ReceiverState) → KnowsFlush t id at → (none : Bool) → KnowsFlush (state_of (elim none [
      | true ↦ (t, None)
      | false ↦ asks p now (fitting p (needs p t) None p.e) t
    ])) id at
    needed t k true = k
    needed t k false = asked (fitting p (needs p t) None p.e) t k (are_heard t (fitting p (needs p t) None p.e))

    ended : (t : ReceiverState) → KnowsFlush t id at → (reached : Bool)
        → KnowsFlush (state_of (elim reached [ true ↦ asks_where_needed p now t | false ↦ (r, None) ])) id at
    ended t k true = needed t k (needs_nothing p t)
    ended t k false = h

    backed : (backoff : Option ℕ) → KnowsFlush (state_of (elim backoff [
      | Some ends ↦ elim (nat_le ends now) [
        | true ↦ asks_where_needed p now (record r { knows = record (r.knows) { backoff = None } })
        | false ↦ (r, None)
      ]
      | None ↦ (r, None)
    ])) id at
    backed None = h
    backed (Some ends) = ended (record r { knows = record (r.knows) { backoff = None } }) (record { inside = h.inside; flush = h.flush }) (nat_le ends now)

    due : (found : Option Position) → KnowsFlush (state_of (elim found [
      | Some own ↦ sends (writes (ack_message p r own) (own.index ∷ [])) (record r { knows = record (r.knows) { due = None } })
      | None ↦ ends_back_off p now r
    ])) id at
    due None = backed r.knows.backoff
    due (Some own) = record { inside = h.inside; flush = h.flush }

takes : (r : ReceiverState) (id : ℕ) (at : Position) → KnowsFlush r id at → KnowsFlush (took r).0 id at
takes r id at h = record { inside = h.inside; flush = h.flush }

pub flush_heard : FlushHeard
flush_heard = record { knows = knows; owed = owed; hears = hears; ticks = ticks; takes = takes }
