-- After its tick no receiver owes an acknowledgement, and a back-off ends later, if none was owed before; and only a flush makes one be owed.
use Rattle.std.proofs.Common.{◌≡◌, ℕ, ◌+◌, ◌<◌, ◌≤◌, List, [], ◌∷◌, Bool, true, false, Option, None, Some, refl, sym, ◌∙◌, subst, arith, ◌⊎◌, inl, inr, flat_map}
use Rattle.std.specs.Prelude.{⊤, ◌==◌, ◌%◌, ◌*◌, nat_le, unwrap_or, option_and_then, Result, Ok, Err, IfSome}
use Rattle.std.proofs.lemmas.Bool.Decides.{leb_tells}
use Rattle.norm_base.specs.Settings.{Settings}
use Rattle.fec_plan.specs.declared.position.Position.{Position}
use Rattle.norm_ext.specs.Message.{Message, Info, Data, Flush, Squelch, Eot, RepairAdv, AckReq, Opaque, Nack, Ack, Report}
use Rattle.norm_ext.specs.ObjectIds.{index_named}
use Rattle.norm_ext.specs.Written.{Written, writes}
use Rattle.norm_ext.specs.declared.refusal.Refusal.{Refusal}
use Rattle.norm_order.specs.Moments.{moment_after}
use Rattle.norm_receive_rules.specs.AllNeeds.{needs, needs_nothing}
use Rattle.norm_receive_rules.specs.BackingOff.{may_back_off, backs_off, backs_off_for_needs, may_need}
use Rattle.norm_receive_rules.specs.Leaving.{is_in, enters, goes_to, entered}
use Rattle.norm_receive_rules.specs.Nack.{indices_of, fitting, nack_message, ack_message}
use Rattle.norm_receive_rules.specs.Needs.{Need}
use Rattle.norm_receive_rules.specs.ReceiverState.{ReceiverState}
use Rattle.norm_receive_rules.specs.Receiving.{info_received, data_received, flush_received, squelch_received, learns, takes_in, in_instance, message_received}
use Rattle.norm_receive_rules.specs.Ticking.{sends, holds_off, are_heard, asks, asks_where_needed, ends_back_off, ticked}
use Rattle.norm_safety.proofs.EntryLemmas.{clash}
use Rattle.norm_recovery.proofs.HeardSteps.{IsPlain}

-- ---- what a message of the sender keeps

-- what is kept as an instance begins, by what a message does, and as a back-off may begin, it keeps
in_keeps : (p : Settings) (now draw source id object : ℕ) (does : ℕ → ReceiverState → ReceiverState) (Q : ReceiverState → Type 0) (r : ReceiverState) → Q r → Q (enters id r)
    → ((index : ℕ) (t : ReceiverState) → Q t → Q (does index (record t { knows = learns index t.knows }))) → ((t : ReceiverState) → Q t → Q (may_need p now draw t))
    → Q (in_instance p now draw source id object does r)
in_keeps p now draw source id object does Q r q new message needs = go (source == p.sender)
  where
    names : (t : ReceiverState) → Q t → (found : Option ℕ) → Q (unwrap_or (elim found as (λ _. Option ReceiverState) [
      | Some index ↦ Some (may_need p now draw (does index (record t { knows = learns index t.knows })))
      | None ↦ None
    ]) r)
    names t h (Some index) = needs (does index (record t { knows = learns index t.knows })) (message index t h)
    names t h None = q

    above : (b : Bool) → Q (unwrap_or (option_and_then (takes_in p now draw object does) (elim b [ true ↦ Some (enters id r) | false ↦ None ])) r)
    above true = names (enters id r) new (index_named p (enters id r).knows.known object)
    above false = q

    within : (b : Bool) → Q (unwrap_or (option_and_then (takes_in p now draw object does) (elim b [
      | true ↦ Some r
      | false ↦ elim (goes_to r id) [ true ↦ Some (enters id r) | false ↦ None ]
    ])) r)
    within true = names r q (index_named p r.knows.known object)
    within false = above (goes_to r id)

    go : (b : Bool) → Q (elim b [ true ↦ unwrap_or (option_and_then (takes_in p now draw object does) (entered r id)) r | false ↦ r ])
    go true = within (is_in r id)
    go false = q

-- a back-off that begins does not end before its moment
need_begins : (p : Settings) (now draw : ℕ) (B : ℕ → Type 0) → now ≤ 18446744073709551615 → ((ends : ℕ) → now ≤ ends → B ends) → (t : ReceiverState)
    → IfSome t.knows.backoff B → IfSome (may_need p now draw t).knows.backoff B
need_begins p now draw B fits fresh t h = go (may_back_off now t.knows)
  where
    needed : (none : Bool) → IfSome (elim none as (λ _. ReceiverState) [ true ↦ t | false ↦ record t { knows = backs_off p now draw t.knows } ]).knows.backoff B
    needed true = h
    needed false = fresh (moment_after now (draw % (p.k * p.grtt + 1))) (omega (arith, fits))

    go : (b : Bool) → IfSome (elim b as (λ _. ReceiverState) [ true ↦ backs_off_for_needs p now draw t | false ↦ t ]).knows.backoff B
    go true = needed (needs_nothing p t)
    go false = h

pub hears_backoff : (p : Settings) (now draw : ℕ) (B : ℕ → Type 0) → now ≤ 18446744073709551615 → ((ends : ℕ) → now ≤ ends → B ends) → (said : Result Message Refusal)
    → IsPlain said → (r : ReceiverState) → IfSome r.knows.backoff B → IfSome (message_received p now draw said r).knows.backoff B
hears_backoff p now draw B fits fresh said plain r h = go said plain
  where
    Q : ReceiverState → Type 0
    Q t = IfSome t.knows.backoff B

    go : (said : Result Message Refusal) → IsPlain said → IfSome (message_received p now draw said r).knows.backoff B
    go (Ok (Info m)) plain =
        in_keeps p now draw m.head.source m.head.instance m.head.object (info_received p m) Q r h tt (λ index t q. q) (λ t q. need_begins p now draw B fits fresh t q)
    go (Ok (Data m)) plain =
        in_keeps p now draw m.head.source m.head.instance m.head.object (data_received p m) Q r h tt (λ index t q. q) (λ t q. need_begins p now draw B fits fresh t q)
    go (Ok (Flush m)) plain =
        in_keeps p now draw m.head.source m.head.instance m.object (flush_received m) Q r h tt (λ index t q. q) (λ t q. need_begins p now draw B fits fresh t q)
    go (Ok (Squelch m)) plain =
        in_keeps p now draw m.head.source m.head.instance m.object (squelch_received p m) Q r h tt (λ index t q. q) (λ t q. need_begins p now draw B fits fresh t q)
    go (Ok (Nack m)) plain = absurd plain
    go (Ok (RepairAdv m)) plain = absurd plain
    go (Ok (Eot m)) plain = h
    go (Ok (AckReq m)) plain = h
    go (Ok (Opaque m)) plain = h
    go (Ok (Ack m)) plain = h
    go (Ok (Report m)) plain = h
    go (Err refusal) plain = h

-- ---- an acknowledgement is owed for a flush alone

abbrev pub IsNoFlush : Message → Type 0
IsNoFlush (Flush m) = ⊥
IsNoFlush _ = ⊤

need_owes : (p : Settings) (now draw : ℕ) (t : ReceiverState) → t.knows.due ≡ None → (may_need p now draw t).knows.due ≡ None
need_owes p now draw t h = go (may_back_off now t.knows)
  where
    needed : (none : Bool) → (elim none as (λ _. ReceiverState) [ true ↦ t | false ↦ record t { knows = backs_off p now draw t.knows } ]).knows.due ≡ None
    needed true = h
    needed false = h

    go : (b : Bool) → (elim b as (λ _. ReceiverState) [ true ↦ backs_off_for_needs p now draw t | false ↦ t ]).knows.due ≡ None
    go true = needed (needs_nothing p t)
    go false = h

pub hears_owes : (p : Settings) (now draw : ℕ) (m : Message) → IsNoFlush m → IsPlain (Ok m) → (r : ReceiverState) → r.knows.due ≡ None
    → (message_received {E = Refusal} p now draw (Ok m) r).knows.due ≡ None
hears_owes p now draw m none plain r h = go m none plain
  where
    Q : ReceiverState → Type 0
    Q t = t.knows.due ≡ None

    go : (m : Message) → IsNoFlush m → IsPlain (Ok m) → (message_received {E = Refusal} p now draw (Ok m) r).knows.due ≡ None
    go (Info m) none plain =
        in_keeps p now draw m.head.source m.head.instance m.head.object (info_received p m) Q r h refl (λ index t q. q) (λ t q. need_owes p now draw t q)
    go (Data m) none plain =
        in_keeps p now draw m.head.source m.head.instance m.head.object (data_received p m) Q r h refl (λ index t q. q) (λ t q. need_owes p now draw t q)
    go (Squelch m) none plain =
        in_keeps p now draw m.head.source m.head.instance m.object (squelch_received p m) Q r h refl (λ index t q. q) (λ t q. need_owes p now draw t q)
    go (Flush m) none plain = absurd none
    go (Nack m) none plain = absurd plain
    go (RepairAdv m) none plain = absurd plain
    go (Eot m) none plain = h
    go (AckReq m) none plain = h
    go (Opaque m) none plain = h
    go (Ack m) none plain = h
    go (Report m) none plain = h

-- ---- a tick

-- What a tick leaves: nothing is owed; a back-off is as before or over; and if nothing was owed, it ends later.
pub record Done (B : ℕ → Type 0) (now : ℕ) (r t : ReceiverState) : Type 0 where
  pub owes : t.knows.due ≡ None
  pub keeps : IfSome r.knows.backoff B → IfSome t.knows.backoff B
  pub later : r.knows.due ≡ None → IfSome t.knows.backoff (λ ends. now < ends)

abbrev state_of : ReceiverState × Option Written → ReceiverState
state_of step = step.0

pub tick_done : (p : Settings) (B : ℕ → Type 0) (r : ReceiverState) (now : ℕ) → Done B now r (ticked p r now).0
tick_done p B r now = due r.knows.due refl
  where
    t : ReceiverState
    t = record r { knows = record (r.knows) { backoff = None } }

    -- nothing is owed, and no back-off runs
    idle : (u : ReceiverState) → u.knows.due ≡ None → u.knows.backoff ≡ None → Done B now r u
    idle u owes none = record {
      owes = owes;
      keeps = λ h. subst (λ (o : Option ℕ). IfSome o B) (sym none) tt;
      later = λ e. subst (λ (o : Option ℕ). IfSome o (λ ends. now < ends)) (sym none) tt;
    }

    asked : r.knows.due ≡ None → (wanted : List Need) (all : Bool) → Done B now r (state_of (elim all [
      | true ↦ (record t { knows = holds_off p now t.knows }, None)
      | false ↦ sends (writes (nack_message p t wanted) (flat_map indices_of wanted)) (record t { knows = holds_off p now t.knows })
    ]))
    asked e wanted true = idle (record t { knows = holds_off p now t.knows }) e refl
    asked e wanted false = idle (sends (writes (nack_message p t wanted) (flat_map indices_of wanted)) (record t { knows = holds_off p now t.knows })).0 e refl

    needed : r.knows.due ≡ None → (none : Bool) → Done B now r (state_of (elim none [ true ↦ (t, None) | false ↦ asks p now (fitting p (needs p t) None p.e) t ]))
    needed e true = idle t e refl
    needed e false = asked e (fitting p (needs p t) None p.e) (are_heard t (fitting p (needs p t) None p.e))

    still : r.knows.due ≡ None → IfSome r.knows.backoff (λ ends. now < ends) → Done B now r r
    still e runs = record { owes = e; keeps = λ h. h; later = λ f. runs }

    lt_of : (a b : ℕ) → nat_le a b ≡ false → b < a
    lt_of a b e = go (leb_tells a b)
      where
        go : ((nat_le a b ≡ true) × (a ≤ b)) ⊎ ((nat_le a b ≡ false) × (b < a)) → b < a
        go (inl tells) = absurd (clash (sym e ∙ tells.0))
        go (inr tells) = tells.1

    ended : r.knows.due ≡ None → (ends : ℕ) → r.knows.backoff ≡ Some ends → (reached : Bool) → nat_le ends now ≡ reached
        → Done B now r (state_of (elim reached [ true ↦ asks_where_needed p now t | false ↦ (r, None) ]))
    ended e ends is true le = needed e (needs_nothing p t)
    ended e ends is false le = still e (subst (λ (o : Option ℕ). IfSome o (λ x. now < x)) (sym is) (lt_of ends now le))

    backed : r.knows.due ≡ None → (found : Option ℕ) → r.knows.backoff ≡ found
        → Done B now r (state_of (elim found [ Some ends ↦ elim (nat_le ends now) [ true ↦ asks_where_needed p now t | false ↦ (r, None) ] | None ↦ (r, None) ]))
    backed e None is = idle r e is
    backed e (Some ends) is = ended e ends is (nat_le ends now) refl

    none_some : {X : Type 0} (x : X) → None ≡ Some x → ⊥
    none_some x e = cc

    due : (at : Option Position) → r.knows.due ≡ at → Done B now r (state_of (elim at [
      | Some at ↦ sends (writes (ack_message p r at) (at.index ∷ [])) (record r { knows = record (r.knows) { due = None } })
      | None ↦ ends_back_off p now r
    ]))
    due None is = backed is r.knows.backoff refl
    due (Some at) is = record { owes = refl; keeps = λ h. h; later = λ e. absurd (none_some at (sym e ∙ is)) }
