-- Over a direct network what has the octets of the sender's last datagram comes in time as that does, since a session has few objects.
use Rattle.std.proofs.Common.{◌≡◌, ℕ, ◌+◌, ◌≤◌, List, [], ◌∷◌, length, map, Bool, true, false, cond, None, Some, Ok, sym, ap, subst, ◌∙◌, arith, inl, inr}
use Rattle.std.specs.Prelude.{◌==◌, ◌&&◌, flat_map, Contains, Result}
use Rattle.std.proofs.lemmas.List.{length-append}
use Rattle.std.proofs.lemmas.Option.{same_Some}
use Rattle.norm_base.specs.Settings.{Settings}
use Rattle.norm_base.specs.declared.node.Origin.{Origin}
use Rattle.norm_ext.specs.Message.{Message, Info, Data, Flush, Squelch, Eot, RepairAdv, AckReq, Opaque, Nack, Ack, Report}
use Rattle.norm_ext.specs.ObjectIds.{object_id}
use Rattle.norm_ext.specs.Reading.{decoded}
use Rattle.norm_ext.specs.declared.refusal.Refusal.{Refusal}
use Rattle.norm_ext.specs.Written.{Written}
use Rattle.norm_order.specs.Entries.{Entry}
use Rattle.norm_send_rules.specs.SenderState.{SenderState, Instance, Watermark}
use Rattle.norm_send_rules.specs.Restarting.{instances}
use Rattle.norm_safety.specs.Events.{Event as WorldEvent, Commanded, Answer, Gave}
use Rattle.norm_safety.specs.History.{Happening}
use Rattle.norm_safety.specs.InTime.{FewObjects, most_objects, accepted_from}
use Rattle.norm_safety.specs.Lawful.{accepted_with, most_apart, are_near, node_knows, comes_in_time, LawfulDelivery}
use Rattle.norm_safety.specs.OnceEach.{origins_of}
use Rattle.norm_safety.specs.World.{World, same_octets}
use Rattle.norm_safety.specs.WorldStep.{world_step}
use Rattle.norm_safety.proofs.EntryLemmas.{clash}
use Rattle.norm_safety.proofs.Feedback.{SaysNothing}
use Rattle.norm_safety.proofs.FrontLemmas.{list_itself}
use Rattle.norm_safety.proofs.InTime.{true_low}
use Rattle.norm_safety.proofs.LowNeeds.{AreUpTo}
use Rattle.norm_safety.proofs.OnceLemmas.{OnceSoFar}
use Rattle.norm_safety.proofs.Onward.{instance_in}
use Rattle.norm_safety.proofs.ReceiverMoves.{near_named}
use Rattle.norm_safety.proofs.SenderHolds.{OrdersHold, orders_hold}
use Rattle.norm_safety.proofs.Spoken.{Speaks, IsTrueOf, Reads, SaysTrue, IsSpoken}
use Rattle.norm_safety.proofs.WorldHolds.{WorldHolds, all_contains}
use Rattle.norm_laws.specs.HandedUp.{is_delivery_of}
use Rattle.norm_recovery.proofs.FlushKnown.{near_small}

-- ---- what has the octets of the sender's last datagram comes in time as that does

abbrev ok_of : Message → Result Message Refusal
ok_of m = Ok m

same_ok : {a b : Message} → ok_of a ≡ ok_of b → a ≡ b
same_ok e = cc

says_something : (m : Message) → IsSpoken m → SaysNothing (ok_of m) → ⊥
says_something (Info m) spoken nothing = nothing
says_something (Data m) spoken nothing = nothing
says_something (Flush m) spoken nothing = nothing
says_something (Squelch m) spoken nothing = nothing
says_something (Eot m) spoken nothing = spoken
says_something (RepairAdv m) spoken nothing = spoken
says_something (AckReq m) spoken nothing = spoken
says_something (Opaque m) spoken nothing = spoken
says_something (Nack m) spoken nothing = spoken
says_something (Ack m) spoken nothing = spoken
says_something (Report m) spoken nothing = spoken

same_message : (d o : Written) → d.octets ≡ o.octets → decoded d.octets ≡ Ok d.message → IsSpoken d.message → Reads o → o.message ≡ d.message
same_message d o same read spoken (inl own) = same_ok (sym own ∙ ap decoded (sym same) ∙ read)
same_message d o same read spoken (inr nothing) =
    absurd (says_something d.message spoken (subst SaysNothing (ap decoded (sym same) ∙ read) nothing))

-- two small indices of one id are the same
same_index : (p : Settings) (object a b : ℕ) → a ≤ 32767 → b ≤ 32767 → object ≡ object_id p a → object ≡ object_id p b → a ≡ b
same_index p object a b la lb ea eb =
    same_Some a b (sym (near_named p a object a ea (omega (arith, la)) (near_small a a la la)) ∙ near_named p a object b eb (omega (arith, lb)) (near_small a b la lb))

same_speaks : (p : Settings) (id object : ℕ) (xs ys : List ℕ) → Speaks p id object xs → Speaks p id object ys → AreUpTo most_apart xs → AreUpTo most_apart ys → xs ≡ ys
same_speaks p id object xs ys a b low high =
    let la = (subst (AreUpTo most_apart) a.alone low).0 in
    let lb = (subst (AreUpTo most_apart) b.alone high).0 in
    a.alone ∙ ap (λ (n : ℕ). n ∷ []) (same_index p object a.index b.index la lb a.named b.named) ∙ sym b.alone

same_indices : (p : Settings) (s : SenderState) (m : Message) (xs ys : List ℕ) → OrdersHold p s → FewObjects s → IsSpoken m → IsTrueOf p s xs m → IsTrueOf p s ys m → xs ≡ ys
same_indices p s (Info m) xs ys orders few spoken a b =
    same_speaks p m.head.instance m.head.object xs ys a.0 b.0 (true_low p s xs (Info m) orders few spoken a) (true_low p s ys (Info m) orders few spoken b)
same_indices p s (Data m) xs ys orders few spoken a b =
    same_speaks p m.head.instance m.head.object xs ys a.0 b.0 (true_low p s xs (Data m) orders few spoken a) (true_low p s ys (Data m) orders few spoken b)
same_indices p s (Flush m) xs ys orders few spoken a b =
    same_speaks p m.head.instance m.object xs ys a.0 b.0 (true_low p s xs (Flush m) orders few spoken a) (true_low p s ys (Flush m) orders few spoken b)
same_indices p s (Squelch m) xs ys orders few spoken a b =
    same_speaks p m.head.instance m.object xs ys a.0 b.0 (true_low p s xs (Squelch m) orders few spoken a) (true_low p s ys (Squelch m) orders few spoken b)
same_indices p s (Eot m) xs ys orders few spoken a b = absurd spoken
same_indices p s (RepairAdv m) xs ys orders few spoken a b = absurd spoken
same_indices p s (AckReq m) xs ys orders few spoken a b = absurd spoken
same_indices p s (Opaque m) xs ys orders few spoken a b = absurd spoken
same_indices p s (Nack m) xs ys orders few spoken a b = absurd spoken
same_indices p s (Ack m) xs ys orders few spoken a b = absurd spoken
same_indices p s (Report m) xs ys orders few spoken a b = absurd spoken

pub both_true : (a b : Bool) → a ≡ true → b ≡ true → (a && b) ≡ true
both_true true b e f = f
both_true false b e f = absurd (clash e)

-- a delivery of the sender's last datagram is one
pub delivers : (p : Settings) (past : List Happening) (accepted : List Origin) (w : World) (node : ℕ) (octets : List ℕ) (d : Written) → WorldHolds p past accepted w
    → FewObjects w.sender → Contains w.offered (p.sender, d) → decoded d.octets ≡ Ok d.message → IsSpoken d.message → d.octets ≡ octets
    → LawfulDelivery p w node octets → is_delivery_of p w node octets (Some d) ≡ true
delivers p past accepted w node octets d holds few there read spoken same may =
    let o : Written = may.datagram in
    let S : ℕ × Written → Type 0 = λ x. SaysTrue p w.sender x.1 in
    let own : SaysTrue p w.sender d = all_contains S w.offered (p.sender, d) holds.offered there in
    let other : SaysTrue p w.sender o = all_contains S w.offered (may.from, o) holds.offered may.offered in
    let is : o.message ≡ d.message = same_message d o (same ∙ sym may.same) read spoken other.0 in
    let indices : o.indices ≡ d.indices =
    same_indices p w.sender d.message o.indices d.indices (orders_hold p w.sender holds.sender) few spoken (subst (IsTrueOf p w.sender o.indices) is other.1) own.1 in
    let near : are_near (node_knows p w node d.message) d.indices ≡ true =
    ap (are_near (node_knows p w node d.message)) (sym indices) ∙ ap (λ (m : Message). are_near (node_knows p w node m) o.indices) (sym is) ∙ may.near in
    both_true (same_octets d.octets octets) (comes_in_time p w node d) (ap (λ (xs : List ℕ). same_octets xs octets) same ∙ list_itself octets) near

-- ---- no more objects than commands

order_few : (order : List Entry) → length order ≤ length (flat_map origins_of order)
order_few [] = omega arith
order_few (entry ∷ order) =
    let more = order_few order in
    let both = length-append (origins_of entry) (flat_map origins_of order) in
    omega (arith, more, both)

instance_few : (all : List Instance) (id : ℕ) → length (elim (instance_in all id) as (λ _. List Entry) [ Some i ↦ i.order | None ↦ [] ])
    ≤ length (flat_map (λ (i : Instance). flat_map origins_of i.order) all)
instance_few [] id = omega arith
instance_few (x ∷ all) id = go (x.id == id) (instance_few all id)
  where
    whole : length (flat_map (λ (i : Instance). flat_map origins_of i.order) (x ∷ all))
        ≡ length (flat_map origins_of x.order) + length (flat_map (λ (i : Instance). flat_map origins_of i.order) all)
    whole = length-append (flat_map origins_of x.order) (flat_map (λ (i : Instance). flat_map origins_of i.order) all)

    go : (b : Bool) → length (elim (instance_in all id) as (λ _. List Entry) [ Some i ↦ i.order | None ↦ [] ])
        ≤ length (flat_map (λ (i : Instance). flat_map origins_of i.order) all)
        → length (elim (cond b (Some x) (instance_in all id)) as (λ _. List Entry) [ Some i ↦ i.order | None ↦ [] ])
        ≤ length (flat_map (λ (i : Instance). flat_map origins_of i.order) (x ∷ all))
    go true more = let own = order_few x.order in let w = whole in omega (arith, own, w)
    go false more = let w = whole in omega (arith, more, w)

pub few_of : (s : SenderState) (accepted : List Origin) → OnceSoFar s accepted → length accepted ≤ most_objects → FewObjects s
few_of s accepted once most id =
    let own = instance_few (instances s) id in
    let whole = length-append (flat_map (λ (i : Instance). flat_map origins_of i.order) (instances s)) (map (λ (w : Watermark). w.by) s.watermarks) in
    let few = once.few in
    omega (arith, own, whole, few, most)

-- what was accepted stays so
pub accepted_one : (accepted : List Origin) (e : WorldEvent) (answer : Answer) → length accepted ≤ length (accepted_with accepted e answer)
accepted_one accepted (Commanded by job now) (Gave (Ok receipt)) = let more = length-append accepted (by ∷ []) in omega (arith, more)
accepted_one accepted _ _ = omega arith

pub accepted_more : (p : Settings) (w : World) (accepted : List Origin) (events : List WorldEvent) → length accepted ≤ length (accepted_from p w accepted events)
accepted_more p w accepted [] = omega arith
accepted_more p w accepted (e ∷ events) =
    let step = world_step p w e in
    let one = accepted_one accepted e step.1 in
    let more = accepted_more p step.0 (accepted_with accepted e step.1) events in
    omega (arith, one, more)
