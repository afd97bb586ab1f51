-- What every step of a receiver keeps.
use Rattle.std.proofs.Common.{◌≡◌, ℕ, inl, inr, List, [], ◌∷◌, Bool, true, false, Option, None, Some, Result, Ok, Err, refl, sym, ap, subst, ◌∙◌}
use Rattle.std.specs.Prelude.{◌==◌, ◌&&◌, not, nat_le, flat_map, unwrap_or, option_and_then}
use Rattle.std.proofs.lemmas.Bool.Decides.{Decides-eqb}
use Rattle.norm_base.specs.Settings.{Settings}
use Rattle.fec_plan.specs.declared.position.Position.{Position}
use Rattle.norm_ext.specs.InstanceIds.{is_above}
use Rattle.norm_ext.specs.Message.{Message, Info, Data, Flush, Eot, Squelch, RepairAdv, AckReq, Opaque, Nack, Ack, Report}
use Rattle.norm_ext.specs.ObjectIds.{index_named}
use Rattle.norm_ext.specs.Reading.{decoded}
use Rattle.norm_ext.specs.Written.{Written, writes}
use Rattle.norm_receive_rules.specs.AllNeeds.{needs, needs_nothing}
use Rattle.norm_receive_rules.specs.BackingOff.{may_back_off, backs_off, may_need}
use Rattle.norm_receive_rules.specs.Holding.{Holding, holding_nothing}
use Rattle.norm_receive_rules.specs.Laws.{HoldsNothingOutside, GoesOnTo, StepLaws}
use Rattle.norm_receive_rules.specs.Leaving.{is_in, goes_to, enters}
use Rattle.norm_receive_rules.specs.Nack.{indices_of, fitting, nack_message, ack_message}
use Rattle.norm_receive_rules.specs.Needs.{Need}
use Rattle.norm_receive_rules.specs.Overhearing.{overheard, adv_overheard}
use Rattle.norm_receive_rules.specs.ReceiverState.{ReceiverState}
use Rattle.norm_receive_rules.specs.ReceiverStep.{ReceiverEvent, Delivered, Ticked, UpTaken, receiver_step}
use Rattle.norm_receive_rules.specs.Receiving.{info_received, data_received, flush_received, squelch_received, learns, takes_in, in_instance, message_received}
use Rattle.norm_receive_rules.specs.Taking.{up_taken, took}
use Rattle.norm_receive_rules.specs.Ticking.{sends, holds_off, are_heard, asks, asks_where_needed, ends_back_off, ticked}

-- the same node, in its instance or in one that it goes on to; and where nothing was held outside of instances, nothing is
pub record Stays (s t : ReceiverState) : Type 0 where
  pub node : t.node ≡ s.node
  pub instance : GoesOnTo s.instance t.instance
  pub outside : HoldsNothingOutside s → HoldsNothingOutside t

-- the same node in the same instance, where the same is held
same_held : (s t : ReceiverState) → t.node ≡ s.node → t.instance ≡ s.instance → t.holding ≡ s.holding → Stays s t
same_held s t node instance holding = record { node = node; instance = inl instance; outside = λ h out. holding ∙ h (sym instance ∙ out) }

unchanged : (s : ReceiverState) → Stays s s
unchanged s = same_held s s refl refl refl

never : (id : ℕ) → Some id ≡ None → ⊥
never id e = cc

-- the same node in an instance
in_one : (s t : ReceiverState) (id : ℕ) → GoesOnTo s.instance (Some id) → t.node ≡ s.node → t.instance ≡ Some id → Stays s t
in_one s t id goes node is = record { node = node; instance = subst (λ (o : Option ℕ). GoesOnTo s.instance o) (sym is) goes; outside = λ h out. absurd (never id (sym is ∙ out)) }

-- ---- a tick

-- the state of a tick
abbrev state_of : ReceiverState × Option Written → ReceiverState
state_of step = step.0

tick_stays : (p : Settings) (s : ReceiverState) (now : ℕ) → Stays s (ticked p s now).0
tick_stays p s now = due s.knows.due
  where
    asked : (wanted : List Need) (t : ReceiverState) → Stays s t → (all : Bool) → Stays s (state_of (elim all [
      | true ↦ (record t { knows = holds_off p now t.knows }, None)
      | false ↦ sends (writes (nack_message p t wanted) (flat_map indices_of wanted)) (record t { knows = holds_off p now t.knows })
    ]))
    asked wanted t h true = record { node = h.node; instance = h.instance; outside = h.outside }
    asked wanted t h false = record { node = h.node; instance = h.instance; outside = h.outside }

    needed : (t : ReceiverState) → Stays s t → (none : Bool) → Stays s (state_of (elim none [
      | true ↦ (t, None)
      | false ↦ asks p now (fitting p (needs p t) None p.e) t
    ]))
    needed t h true = h
    needed t h false = asked (fitting p (needs p t) None p.e) t h (are_heard t (fitting p (needs p t) None p.e))

    ended : (t : ReceiverState) → Stays s t → (reached : Bool)
        → Stays s (state_of (elim reached [ true ↦ asks_where_needed p now t | false ↦ (s, None) ]))
    ended t h true = needed t h (needs_nothing p t)
    ended t h false = unchanged s

    backed : (backoff : Option ℕ) → Stays s (state_of (elim backoff [
      | Some ends ↦ elim (nat_le ends now) [
        | true ↦ asks_where_needed p now (record s { knows = record (s.knows) { backoff = None } })
        | false ↦ (s, None)
      ]
      | None ↦ (s, None)
    ]))
    backed None = unchanged s
    backed (Some ends) = ended (record s { knows = record (s.knows) { backoff = None } }) (same_held s _ refl refl refl) (nat_le ends now)

    due : (at : Option Position) → Stays s (state_of (elim at [
      | Some at ↦ sends (writes (ack_message p s at) (at.index ∷ [])) (record s { knows = record (s.knows) { due = None } })
      | None ↦ ends_back_off p now s
    ]))
    due None = backed s.knows.backoff
    due (Some at) = same_held s _ refl refl refl

-- ---- a delivery

-- what keeps node and instance
pub record KeepsIds (s t : ReceiverState) : Type 0 where
  pub node : t.node ≡ s.node
  pub instance : t.instance ≡ s.instance

need_keeps : (p : Settings) (now draw : ℕ) (s : ReceiverState) → KeepsIds s (may_need p now draw s)
need_keeps p now draw s = go (may_back_off now s.knows) (needs_nothing p s)
  where
    go : (b c : Bool) → KeepsIds s (elim b [ true ↦ elim c [ true ↦ s | false ↦ record s { knows = backs_off p now draw s.knows } ] | false ↦ s ])
    go true true = record { node = refl; instance = refl }
    go true false = record { node = refl; instance = refl }
    go false c = record { node = refl; instance = refl }

in_it : (s : ReceiverState) (id : ℕ) → is_in s id ≡ true → s.instance ≡ Some id
in_it s id e = go s.instance e
  where
    clash : false ≡ true → ⊥
    clash h = cc

    go : (instance : Option ℕ) → (elim instance [ Some current ↦ current == id | None ↦ false ]) ≡ true → instance ≡ Some id
    go None h = absurd (clash h)
    go (Some current) h = ap (λ (n : ℕ). Some n) ((Decides-eqb current id).0 h)

instance_stays : (p : Settings) (now draw source id object : ℕ) (brings : ℕ → ReceiverState → ReceiverState) (s : ReceiverState)
    → ((index : ℕ) (t : ReceiverState) → KeepsIds t (brings index t)) → Stays s (in_instance p now draw source id object brings s)
instance_stays p now draw source id object brings s keeps = go (source == p.sender) (is_in s id) refl (goes_to s id) refl
  where
    taken : (t : ReceiverState) → GoesOnTo s.instance (Some id) → t.node ≡ s.node → t.instance ≡ Some id → Stays s (unwrap_or (takes_in p now draw object brings t) s)
    taken t goes node instance = by (index_named p t.knows.known object)
      where
        by : (named : Option ℕ) → Stays s (unwrap_or (elim named [
          | Some index ↦ Some (may_need p now draw (brings index (record t { knows = learns index t.knows })))
          | None ↦ None
        ]) s)
        by None = unchanged s
        by (Some index) =
            let k = keeps index (record t { knows = learns index t.knows }) in
            let n = need_keeps p now draw (brings index (record t { knows = learns index t.knows })) in
            in_one s (may_need p now draw (brings index (record t { knows = learns index t.knows }))) id goes
            (n.node ∙ k.node ∙ node) (n.instance ∙ k.instance ∙ instance)

    entering : (found : Option ℕ) → elim found [ Some current ↦ is_above current id | None ↦ true ] ≡ true → GoesOnTo found (Some id)
    entering None e = inr (id, refl, tt)
    entering (Some current) e = inr (id, refl, e)

    go : (own inside : Bool) → is_in s id ≡ inside → (above : Bool) → goes_to s id ≡ above → Stays s (elim own [
      | true ↦ unwrap_or (option_and_then (takes_in p now draw object brings)
          (elim inside [ true ↦ Some s | false ↦ elim above [ true ↦ Some (enters id s) | false ↦ None ] ])) s
      | false ↦ s
    ])
    go false inside e above f = unchanged s
    go true true e above f = taken s (inl (sym (in_it s id e))) refl (in_it s id e)
    go true false e true f = taken (enters id s) (entering s.instance f) refl refl
    go true false e false f = unchanged s

where_stays : (b : Bool) (s t : ReceiverState) → Stays s t → Stays s (elim b [ true ↦ t | false ↦ s ])
where_stays true s t h = h
where_stays false s t h = unchanged s

message_stays : {E : Type 0} (p : Settings) (s : ReceiverState) (now draw : ℕ) (said : Result Message E) → Stays s (message_received p now draw said s)
message_stays p s now draw (Ok (Info m)) =
    instance_stays p now draw m.head.source m.head.instance m.head.object (info_received p m) s (λ index t. record { node = refl; instance = refl })
message_stays p s now draw (Ok (Data m)) =
    instance_stays p now draw m.head.source m.head.instance m.head.object (data_received p m) s (λ index t. record { node = refl; instance = refl })
message_stays p s now draw (Ok (Flush m)) =
    instance_stays p now draw m.head.source m.head.instance m.object (flush_received m) s (λ index t. record { node = refl; instance = refl })
message_stays p s now draw (Ok (Squelch m)) =
    instance_stays p now draw m.head.source m.head.instance m.object (squelch_received p m) s (λ index t. record { node = refl; instance = refl })
message_stays p s now draw (Ok (RepairAdv m)) =
    where_stays (m.head.source == p.sender) s (adv_overheard p m s)
    (where_stays (is_in s m.head.instance) s (overheard p m.requests s) (same_held s _ refl refl refl))
message_stays p s now draw (Ok (Nack m)) =
    where_stays (not (m.source == s.node) && m.sender == p.sender && is_in s m.instance) s (overheard p m.requests s) (same_held s _ refl refl refl)
message_stays p s now draw (Ok (Eot m)) = unchanged s
message_stays p s now draw (Ok (AckReq m)) = unchanged s
message_stays p s now draw (Ok (Opaque m)) = unchanged s
message_stays p s now draw (Ok (Ack m)) = unchanged s
message_stays p s now draw (Ok (Report m)) = unchanged s
message_stays p s now draw (Err refusal) = unchanged s

-- ---- a hand-up that is taken

took_stays : (s : ReceiverState) → Stays s (took s).0
took_stays s = record {
  node = refl;
  instance = inl refl;
  outside = λ h out. (let T : Holding → Type 0 = λ holding. (up_taken holding).0 ≡ holding_nothing in subst T (sym (h out)) refl);
}

steps_stay : (p : Settings) (s : ReceiverState) (event : ReceiverEvent) → Stays s (receiver_step p s event).0
steps_stay p s (Delivered datagram now draw) = message_stays p s now draw (decoded datagram)
steps_stay p s (Ticked now) = tick_stays p s now
steps_stay p s UpTaken = took_stays s

pub step_laws : StepLaws
step_laws = record {
  node = λ p s event. (steps_stay p s event).node;
  instance = λ p s event. (steps_stay p s event).instance;
  begins = λ node out. refl;
  goes_on = λ p s event. (steps_stay p s event).outside;
}
