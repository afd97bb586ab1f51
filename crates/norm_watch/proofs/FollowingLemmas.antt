-- The instance that is followed is the receiver's, message by message.
use Rattle.std.proofs.Common.{◌≡◌, ℕ, List, Bool, true, false, Option, None, Some, Result, Ok, Err, refl, ap, ◌∙◌}
use Rattle.std.specs.Prelude.{◌==◌, ◌&&◌, not, unwrap_or, option_and_then, is_some, if◌then◌else◌}
use Rattle.std.proofs.lemmas.Bool.Decides.{Decides-eqb}
use Rattle.norm_base.specs.Settings.{Settings}
use Rattle.norm_ext.specs.Message.{Message, Info, Data, Flush, Eot, Squelch, RepairAdv, AckReq, Opaque, Nack, Ack, Report}
use Rattle.norm_ext.specs.ObjectIds.{index_named}
use Rattle.norm_ext.specs.Reading.{decoded}
use Rattle.norm_receive_rules.specs.AllNeeds.{needs_nothing}
use Rattle.norm_receive_rules.specs.BackingOff.{may_back_off, backs_off, may_need}
use Rattle.norm_receive_rules.specs.Leaving.{is_in, enters}
use Rattle.norm_receive_rules.specs.Overhearing.{overheard, adv_overheard}
use Rattle.norm_receive_rules.specs.ReceiverState.{ReceiverState}
use Rattle.norm_receive_rules.specs.Receiving.{info_received, data_received, flush_received, squelch_received, learns, takes_in, in_instance, message_received}
use Rattle.udp_rules.specs.Hearing.{reading_heard}
use Rattle.norm_watch.specs.Following.{goes_to, followed_by}
use Rattle.norm_watch.specs.FollowingLaws.{FollowingLaws}

-- a receiver is in this instance, or in none
record IsIn (t : ReceiverState) (o : Option ℕ) : Type 0 where
  is : t.instance ≡ o

need_keeps : (p : Settings) (now draw : ℕ) (s : ReceiverState) → IsIn (may_need p now draw s) s.instance
need_keeps p now draw s = go (may_back_off now s.knows) (needs_nothing p s)
  where
    go : (b c : Bool) → IsIn (elim b [ true ↦ elim c [ true ↦ s | false ↦ record s { knows = backs_off p now draw s.knows } ] | false ↦ s ]) s.instance
    go true true = record { is = refl }
    go true false = record { is = refl }
    go false c = record { is = refl }

in_it : (s : ReceiverState) (id : ℕ) → is_in s id ≡ true → s.instance ≡ Some id
in_it s id e = go s.instance e
  where
    clash : false ≡ true → ⊥
    clash h = cc

    go : (instance : Option ℕ) → (elim instance [ Some current ↦ current == id | None ↦ false ]) ≡ true → instance ≡ Some id
    go None h = absurd (clash h)
    go (Some current) h = ap (λ (n : ℕ). Some n) ((Decides-eqb current id).0 h)

-- a message that names an object
naming_follows : (p : Settings) (now draw source id object : ℕ) (brings : ℕ → ReceiverState → ReceiverState) (s : ReceiverState)
    → ((index : ℕ) (t : ReceiverState) → IsIn (brings index t) t.instance)
    → IsIn (in_instance p now draw source id object brings s)
    (if source == p.sender then (if goes_to s.instance id && is_some (index_named p 0 object) then Some id else s.instance) else s.instance)
naming_follows p now draw source id object brings s keeps = go (source == p.sender) (is_in s id) refl (goes_to s.instance id)
  where
    brought : (t : ReceiverState) (index : ℕ) → IsIn (may_need p now draw (brings index (record t { knows = learns index t.knows }))) t.instance
    brought t index =
        let k = keeps index (record t { knows = learns index t.knows }) in
        let n = need_keeps p now draw (brings index (record t { knows = learns index t.knows })) in
        record { is = n.is ∙ k.is }

    here : IsIn (unwrap_or (takes_in p now draw object brings s) s) s.instance
    here = by (index_named p s.knows.known object)
      where
        by : (named : Option ℕ) → IsIn (unwrap_or (elim named [
          | Some index ↦ Some (may_need p now draw (brings index (record s { knows = learns index s.knows })))
          | None ↦ None
        ]) s) s.instance
        by None = record { is = refl }
        by (Some index) = brought s index

    anew : IsIn (unwrap_or (takes_in p now draw object brings (enters id s)) s) (if is_some (index_named p 0 object) then Some id else s.instance)
    anew = by (index_named p 0 object)
      where
        by : (named : Option ℕ) → IsIn (unwrap_or (elim named [
          | Some index ↦ Some (may_need p now draw (brings index (record (enters id s) { knows = learns index (enters id s).knows })))
          | None ↦ None
        ]) s) (if is_some named then Some id else s.instance)
        by None = record { is = refl }
        by (Some index) = brought (enters id s) index

    either : (b : Bool) → is_in s id ≡ true → IsIn (unwrap_or (takes_in p now draw object brings s) s) (if b then Some id else s.instance)
    either true e = record { is = here.is ∙ in_it s id e }
    either false e = here

    go : (own inside : Bool) → is_in s id ≡ inside → (above : Bool) → IsIn (elim own [
      | true ↦ unwrap_or (option_and_then (takes_in p now draw object brings)
          (elim inside [ true ↦ Some s | false ↦ elim above [ true ↦ Some (enters id s) | false ↦ None ] ])) s
      | false ↦ s
    ]) (if own then (if above && is_some (index_named p 0 object) then Some id else s.instance) else s.instance)
    go false inside e above = record { is = refl }
    go true true e above = either (above && is_some (index_named p 0 object)) e
    go true false e true = anew
    go true false e false = record { is = refl }

-- a command that names none
nothing_follows : (s t : ReceiverState) (own above : Bool) (id : ℕ) → IsIn t s.instance
    → IsIn t (if own then (if above && false then Some id else s.instance) else s.instance)
nothing_follows s t false above id h = h
nothing_follows s t true true id h = h
nothing_follows s t true false id h = h

where_kept : (b : Bool) (s t : ReceiverState) → IsIn t s.instance → IsIn (elim b [ true ↦ t | false ↦ s ]) s.instance
where_kept true s t h = h
where_kept false s t h = record { is = refl }

message_follows : {E : Type 0} (p : Settings) (s : ReceiverState) (now draw : ℕ) (said : Result Message E)
    → IsIn (message_received p now draw said s) (followed_by p s.instance (reading_heard said))
message_follows p s now draw (Ok (Info m)) =
    naming_follows p now draw m.head.source m.head.instance m.head.object (info_received p m) s (λ index t. record { is = refl })
message_follows p s now draw (Ok (Data m)) =
    naming_follows p now draw m.head.source m.head.instance m.head.object (data_received p m) s (λ index t. record { is = refl })
message_follows p s now draw (Ok (Flush m)) =
    naming_follows p now draw m.head.source m.head.instance m.object (flush_received m) s (λ index t. record { is = refl })
message_follows p s now draw (Ok (Squelch m)) =
    naming_follows p now draw m.head.source m.head.instance m.object (squelch_received p m) s (λ index t. record { is = refl })
message_follows p s now draw (Ok (RepairAdv m)) =
    nothing_follows s (elim (m.head.source == p.sender) [ true ↦ adv_overheard p m s | false ↦ s ])
    (m.head.source == p.sender) (goes_to s.instance m.head.instance) m.head.instance
    (where_kept (m.head.source == p.sender) s (adv_overheard p m s)
    (where_kept (is_in s m.head.instance) s (overheard p m.requests s) (record { is = refl })))
message_follows p s now draw (Ok (Eot m)) =
    nothing_follows s s (m.head.source == p.sender) (goes_to s.instance m.head.instance) m.head.instance (record { is = refl })
message_follows p s now draw (Ok (AckReq m)) =
    nothing_follows s s (m.head.source == p.sender) (goes_to s.instance m.head.instance) m.head.instance (record { is = refl })
message_follows p s now draw (Ok (Opaque m)) =
    nothing_follows s s (m.head.source == p.sender) (goes_to s.instance m.head.instance) m.head.instance (record { is = refl })
message_follows p s now draw (Ok (Nack m)) =
    where_kept (not (m.source == s.node) && m.sender == p.sender && is_in s m.instance) s (overheard p m.requests s) (record { is = refl })
message_follows p s now draw (Ok (Ack m)) = record { is = refl }
message_follows p s now draw (Ok (Report m)) = record { is = refl }
message_follows p s now draw (Err refusal) = record { is = refl }

pub following_laws : FollowingLaws
following_laws = record { instance = λ p s octets now draw. (message_follows p s now draw (decoded octets)).is }
