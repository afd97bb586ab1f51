-- A datagram of another sender changes nothing of a receiver.
use Rattle.std.proofs.Common.{◌≡◌, ℕ, Bool, true, false, Some, Result, Ok, Err, refl, ap}
use Rattle.std.specs.Prelude.{◌==◌, ◌&&◌, not, unwrap_or, option_and_then}
use Rattle.norm_base.specs.Settings.{Settings}
use Rattle.norm_ext.specs.Message.{Message, Info, Data, Flush, Eot, Squelch, RepairAdv, AckReq, Opaque, Nack, Ack, Report}
use Rattle.norm_ext.specs.Reading.{decoded}
use Rattle.norm_receive_rules.specs.Leaving.{is_in, entered}
use Rattle.norm_receive_rules.specs.Overhearing.{overheard, adv_overheard}
use Rattle.norm_receive_rules.specs.ReceiverState.{ReceiverState}
use Rattle.norm_receive_rules.specs.Receiving.{message_received, in_instance, takes_in, info_received, data_received, flush_received, squelch_received}
use Rattle.norm_multi.specs.Laws.{OwnLaws}
use Rattle.norm_multi.specs.Owner.{owner_of_message}
use Rattle.norm_multi.proofs.MemberLemmas.{not_same}

-- a message of another source
elsewhere : (p : Settings) (now draw source instance object : ℕ) (what : ℕ → ReceiverState → ReceiverState) (r : ReceiverState) → (Some source ≡ Some p.sender → ⊥)
    → in_instance p now draw source instance object what r ≡ r
elsewhere p now draw source instance object what r differs =
    ap (λ b. elim b [ true ↦ unwrap_or (option_and_then (takes_in p now draw object what) (entered r instance)) r | false ↦ r ])
    (not_same source p.sender (λ is. differs (ap Some is)))

unheard : (a b c : Bool) (here there : ReceiverState) → b ≡ false → elim (a && b && c) [ true ↦ here | false ↦ there ] ≡ there
unheard true true c here there e = absurd (no e)
  where
    no : true ≡ false → ⊥
    no e = cc
unheard true false c here there e = refl
unheard false b c here there e = refl

pub no_message : {E : Type 0} (p : Settings) (r : ReceiverState) (now draw : ℕ) (m : Result Message E) → (owner_of_message m ≡ Some p.sender → ⊥)
    → message_received p now draw m r ≡ r
no_message p r now draw (Ok (Info m)) differs = elsewhere p now draw m.head.source m.head.instance m.head.object (info_received p m) r differs
no_message p r now draw (Ok (Data m)) differs = elsewhere p now draw m.head.source m.head.instance m.head.object (data_received p m) r differs
no_message p r now draw (Ok (Flush m)) differs = elsewhere p now draw m.head.source m.head.instance m.object (flush_received m) r differs
no_message p r now draw (Ok (Squelch m)) differs = elsewhere p now draw m.head.source m.head.instance m.object (squelch_received p m) r differs
no_message p r now draw (Ok (RepairAdv m)) differs =
    ap (λ b. elim b [ true ↦ adv_overheard p m r | false ↦ r ]) (not_same m.head.source p.sender (λ is. differs (ap Some is)))
no_message p r now draw (Ok (Nack m)) differs =
    unheard (not (m.source == r.node)) (m.sender == p.sender) (is_in r m.instance) (overheard p m.requests r) r (not_same m.sender p.sender (λ is. differs (ap Some is)))
no_message p r now draw (Ok (Eot m)) differs = refl
no_message p r now draw (Ok (AckReq m)) differs = refl
no_message p r now draw (Ok (Opaque m)) differs = refl
no_message p r now draw (Ok (Ack m)) differs = refl
no_message p r now draw (Ok (Report m)) differs = refl
no_message p r now draw (Err e) differs = refl

pub own_laws : OwnLaws
own_laws = record { others = λ p r datagram now draw differs. no_message p r now draw (decoded datagram) differs }
