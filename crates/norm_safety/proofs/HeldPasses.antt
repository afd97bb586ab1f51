-- What a receiver holds passes a test of positions, where what it hears does.
use Rattle.std.proofs.Common.{◌≡◌, ℕ, List, [], ◌∷◌, Bool, true, false, Option, None, Some, Result, Ok, Err, refl, sym, ap, ◌∙◌, subst, ◌⊎◌, inl, inr}
use Rattle.std.specs.Prelude.{◌==◌, ◌&&◌, not, option_and_then, unwrap_or, ⊤}
use Rattle.std.specs.List.{AllByRecursion}
use Rattle.std.proofs.lemmas.Bool.Decides.{Decides-eqb}
use Rattle.norm_base.specs.Settings.{Settings}
use Rattle.fec_plan.specs.Points.{point, point_of, position}
use Rattle.fec_plan.specs.declared.position.Position.{Position}
use Rattle.norm_ext.specs.Extensions.{Extension, fti_of}
use Rattle.norm_ext.specs.Message.{Message, Info, Data, Flush, Eot, Squelch, RepairAdv, AckReq, Opaque, Nack, Ack, Report}
use Rattle.norm_ext.specs.ObjectIds.{index_named}
use Rattle.norm_ext.specs.Reading.{decoded}
use Rattle.norm_ext.specs.Written.{Written}
use Rattle.norm_ext.specs.declared.fti.Fti.{Fti}
use Rattle.norm_ext.specs.declared.refusal.Refusal.{Refusal}
use Rattle.norm_receive_rules.specs.BackingOff.{may_need}
use Rattle.norm_receive_rules.specs.Fitting.{fit_of, fitted, lets_put}
use Rattle.norm_receive_rules.specs.HandingUp.{handed_up}
use Rattle.norm_receive_rules.specs.Holding.{Holding, Held}
use Rattle.norm_receive_rules.specs.Leaving.{is_in, goes_to, enters, entered}
use Rattle.norm_receive_rules.specs.Losing.{squelched}
use Rattle.norm_receive_rules.specs.Overhearing.{overheard, adv_overheard}
use Rattle.norm_receive_rules.specs.Putting.{put_of, put_symbol, with_symbol, held_before, put_info_of, put_info, with_info}
use Rattle.norm_receive_rules.specs.ReceiverState.{ReceiverState}
use Rattle.norm_receive_rules.specs.Receiving.{object_held, info_received, data_received, flush_received, squelch_received, takes_in, in_instance, message_received, received}
use Rattle.norm_receive_rules.specs.Seeing.{sees_block}
use Rattle.norm_receive_rules.specs.declared.words.Fit.{Fit}
use Rattle.norm_receive_rules.specs.declared.words.Fit.TheVariants as fit
use Rattle.norm_receive_rules.specs.declared.words.Put.{Put}
use Rattle.norm_receive_rules.specs.declared.words.Put.TheVariants as put
use Rattle.norm_receive_rules.proofs.BesideLemmas.{handing_up, losing}
use Rattle.norm_send_rules.specs.SenderState.{SenderState}
use Rattle.norm_safety.specs.Lawful.{receiver_knows, are_near}
use Rattle.norm_safety.specs.Said.{first_index}
use Rattle.norm_safety.proofs.EntryLemmas.{clash}
use Rattle.norm_safety.proofs.Feedback.{SaysNothing}
use Rattle.norm_safety.proofs.Holding.{all_with}
use Rattle.norm_safety.proofs.ReceiverMoves.{knowing, known_in, near_named, need_same}
use Rattle.norm_safety.proofs.Spoken.{IsTrueOf, SaysTrue}

-- each symbol that is held passes a test
abbrev pub HeldPass : (Position → Bool) → Holding → Type 0
HeldPass test h = AllByRecursion (λ (x : Held). test x.at ≡ true) h.held

-- so it is of a receiver that is in an instance
abbrev pub InPass : (Position → Bool) → ℕ → ReceiverState → Type 0
InPass test id r = r.instance ≡ Some id → HeldPass test r.holding

same_pass : (test : Position → Bool) (h after : Holding) → after.held ≡ h.held → HeldPass test h → HeldPass test after
same_pass test h after e all = let A : List Held → Type 0 = λ held. AllByRecursion (λ (x : Held). test x.at ≡ true) held in subst A (sym e) all

fitted_pass : (test : Position → Bool) (word : Fit) (index : ℕ) (f : Fti) (flags : ℕ) (h : Holding) → HeldPass test h → HeldPass test (fitted word index f flags h)
fitted_pass test fit.Known index f flags h all = all
fitted_pass test fit.Away index f flags h all = all
fitted_pass test fit.Unfit index f flags h all = all
fitted_pass test fit.Taken index f flags h all = all

symbol_passes : (test : Position → Bool) (word : Put) (at : Position) (payload : List ℕ) (h : Holding) → test at ≡ true → HeldPass test h
    → HeldPass test (with_symbol word at payload h)
symbol_passes test put.Had at payload h is all = all
symbol_passes test put.Away at payload h is all = all
symbol_passes test put.Unfit at payload h is all = all
symbol_passes test put.Kept at payload h is all =
    all_with (λ (x : Held). test x.at ≡ true) held_before (record { at = at; octets = payload }) h.held is all

info_passes : (test : Position → Bool) (word : Put) (index : ℕ) (info : List ℕ) (h : Holding) → HeldPass test h → HeldPass test (with_info word index info h)
info_passes test put.Had index info h all = all
info_passes test put.Away index info h all = all
info_passes test put.Unfit index info h all = all
info_passes test put.Kept index info h all = all

up_passes : (test : Position → Bool) (p : Settings) (h : Holding) → HeldPass test h → HeldPass test (handed_up p h)
up_passes test p h all = same_pass test h (handed_up p h) (handing_up p h).holds.held all

object_passes : (test : Position → Bool) (p : Settings) (at : Position) (extensions : List Extension) (flags : ℕ) (brings : Holding → Holding) (h : Holding)
    → ((s : Holding) → HeldPass test s → HeldPass test (brings s)) → HeldPass test h → HeldPass test (object_held p at extensions flags brings h)
object_passes test p at extensions flags brings h kept all = go (fti_of extensions)
  where
    left : Fti → Bool → Holding
    left f b = (
        let s' = sees_block (point_of at) (fitted (fit_of p h at.index f flags) at.index f flags h) in
        elim b [ true ↦ handed_up p (brings s') | false ↦ s' ]
        )

    fits : (f : Fti) (b : Bool) → HeldPass test (left f b)
    fits f true = up_passes test p _ (kept _ (fitted_pass test (fit_of p h at.index f flags) at.index f flags h all))
    fits f false = fitted_pass test (fit_of p h at.index f flags) at.index f flags h all

    go : (found : Option Fti) → HeldPass test (elim found [
      | Some f ↦ (
          let word = fit_of p h at.index f flags in
          let s' = sees_block (point_of at) (fitted word at.index f flags h) in
          elim (lets_put word) [ true ↦ handed_up p (brings s') | false ↦ s' ]
          )
      | None ↦ handed_up p (brings (sees_block (point_of at) h))
    ])
    go None = up_passes test p _ (kept _ all)
    go (Some f) = fits f (lets_put (fit_of p h at.index f flags))

-- a message of the sender, in the instance that a receiver is in or goes on to
instance_passes : (test : Position → Bool) (c : ℕ) (p : Settings) (now draw source id object : ℕ) (brings : ℕ → ReceiverState → ReceiverState) (r : ReceiverState)
    → ((index : ℕ) (t : ReceiverState) → (brings index t).instance ≡ t.instance)
    → ((known index : ℕ) → known_in (entered r id) ≡ Some known → index_named p known object ≡ Some index → id ≡ c → (t : ReceiverState) → HeldPass test t.holding
    → HeldPass test (brings index t).holding)
    → InPass test c r → InPass test c (in_instance p now draw source id object brings r)
instance_passes test c p now draw source id object brings r same kept h = go (source == p.sender) (is_in r id) refl (goes_to r id) (kept)
  where
    taken : (t : ReceiverState) → Option ℕ → ReceiverState
    taken t found = unwrap_or (elim found [ Some index ↦ Some (may_need p now draw (brings index (knowing index t))) | None ↦ None ]) r

    same_id : (a b : ℕ) → Some a ≡ Some b → a ≡ b
    same_id a b e = cc

    in_state : (t : ReceiverState) → t.instance ≡ Some id → InPass test c t
        → ((index : ℕ) → index_named p t.knows.known object ≡ Some index → id ≡ c → (u : ReceiverState) → HeldPass test u.holding → HeldPass test (brings index u).holding)
        → (found : Option ℕ) → index_named p t.knows.known object ≡ found → InPass test c (taken t found)
    in_state t at all keeps None e = h
    in_state t at all keeps (Some index) e = λ is. (
        let b : ReceiverState = brings index (knowing index t) in
        let need = need_same p now draw b in
        let inner : t.instance ≡ Some c = sym (same index (knowing index t)) ∙ sym need.instance ∙ is in
        let current : id ≡ c = same_id id c (sym at ∙ inner) in
        same_pass test b.holding (may_need p now draw b).holding (ap (λ (g : Holding). g.held) need.holding)
        (keeps index e current (knowing index t) (all inner))
        )

    in_it : (inner : Bool) → is_in r id ≡ inner → inner ≡ true → r.instance ≡ Some id
    in_it inner e f = by r.instance (e ∙ f)
      where
        by : (o : Option ℕ) → (elim o [ Some current ↦ current == id | None ↦ false ]) ≡ true → o ≡ Some id
        by None e = absurd (clash e)
        by (Some current) e = ap (λ (n : ℕ). Some n) ((Decides-eqb current id).0 e)

    go : (own inner : Bool) → is_in r id ≡ inner → (above : Bool)
        → ((known index : ℕ) → known_in (elim inner [ true ↦ Some r | false ↦ elim above [ true ↦ Some (enters id r) | false ↦ None ] ]) ≡ Some known
        → index_named p known object ≡ Some index → id ≡ c → (t : ReceiverState) → HeldPass test t.holding → HeldPass test (brings index t).holding)
        → InPass test c (elim own [
          | true ↦ unwrap_or (option_and_then (takes_in p now draw object brings)
              (elim inner [ true ↦ Some r | false ↦ elim above [ true ↦ Some (enters id r) | false ↦ None ] ])) r
          | false ↦ r
        ])
    go false inner e above keeps = h
    go true true e above keeps =
        in_state r (in_it true e refl) h (λ index named current u all. keeps r.knows.known index refl named current u all) (index_named p r.knows.known object) refl
    go true false e true keeps =
        in_state (enters id r) refl (λ is. tt) (λ index named current u all. keeps 0 index refl named current u all) (index_named p (enters id r).knows.known object) refl
    go true false e false keeps = h

-- what a message says of a symbol, where it is of an instance
abbrev pub DataPasses : (Position → Bool) → ℕ → List ℕ → Message → Type 0
DataPasses test c indices (Data m) = m.head.instance ≡ c → test (position (first_index indices) m.id.block m.id.symbol) ≡ true
DataPasses test c indices _ = ⊤

where_passes : (test : Position → Bool) (c : ℕ) (b : Bool) (r t : ReceiverState) → InPass test c r → InPass test c t → InPass test c (elim b [ true ↦ t | false ↦ r ])
where_passes test c true r t h k = k
where_passes test c false r t h k = h

quiet_passes : (test : Position → Bool) (c : ℕ) (p : Settings) (r : ReceiverState) (now draw : ℕ) (said : Result Message Refusal) → SaysNothing said → InPass test c r
    → InPass test c (message_received p now draw said r)
quiet_passes test c p r now draw (Ok (Info m)) says h = absurd says
quiet_passes test c p r now draw (Ok (Data m)) says h = absurd says
quiet_passes test c p r now draw (Ok (Flush m)) says h = absurd says
quiet_passes test c p r now draw (Ok (Squelch m)) says h = absurd says
quiet_passes test c p r now draw (Ok (RepairAdv m)) says h =
    where_passes test c (m.head.source == p.sender) r (adv_overheard p m r) h (where_passes test c (is_in r m.head.instance) r (overheard p m.requests r) h h)
quiet_passes test c p r now draw (Ok (Nack m)) says h =
    where_passes test c (not (m.source == r.node) && m.sender == p.sender && is_in r m.instance) r (overheard p m.requests r) h h
quiet_passes test c p r now draw (Ok (Eot m)) says h = h
quiet_passes test c p r now draw (Ok (AckReq m)) says h = h
quiet_passes test c p r now draw (Ok (Opaque m)) says h = h
quiet_passes test c p r now draw (Ok (Ack m)) says h = h
quiet_passes test c p r now draw (Ok (Report m)) says h = h
quiet_passes test c p r now draw (Err refusal) says h = h

message_passes : (test : Position → Bool) (c : ℕ) (p : Settings) (s : SenderState) (r : ReceiverState) (indices : List ℕ) (now draw : ℕ) (m : Message)
    → IsTrueOf p s indices m → DataPasses test c indices m → are_near (receiver_knows r m) indices ≡ true → InPass test c r
    → InPass test c (message_received {E = Refusal} p now draw (Ok m) r)
message_passes test c p s r indices now draw (Info m) says passes near h =
    instance_passes test c p now draw m.head.source m.head.instance m.head.object (info_received p m) r (λ index t. refl)
    (λ known index is named current t all. object_passes test p (position index 0 0) m.extensions m.head.flags (put_info p index m.info) t.holding
    (λ g held. info_passes test (put_info_of p g index m.info) index m.info g held) all) h
message_passes test c p s r indices now draw (Data m) (speaks, says) passes near h =
    instance_passes test c p now draw m.head.source m.head.instance m.head.object (data_received p m) r (λ index t. refl)
    (λ known index is named current t all. object_passes test p (position index m.id.block m.id.symbol) m.extensions m.head.flags
    (put_symbol p (position index m.id.block m.id.symbol) m.payload) t.holding
    (λ g held. symbol_passes test (put_of p g (position index m.id.block m.id.symbol) m.payload) (position index m.id.block m.id.symbol) m.payload g
    (right known index is named current) held) all) h
  where
    same_index : (a b : ℕ) → Some a ≡ Some b → a ≡ b
    same_index a b e = cc

    right : (known index : ℕ) → known_in (entered r m.head.instance) ≡ Some known → index_named p known m.head.object ≡ Some index → m.head.instance ≡ c
        → test (position index m.id.block m.id.symbol) ≡ true
    right known index is named current =
        let close : are_near (Some known) (speaks.index ∷ []) ≡ true =
        ap (λ (o : Option ℕ). are_near o (speaks.index ∷ [])) (sym is) ∙ ap (are_near (known_in (entered r m.head.instance))) (sym speaks.alone) ∙ near in
        let written = near_named p known m.head.object speaks.index speaks.named speaks.most close in
        let equal : speaks.index ≡ index = same_index speaks.index index (sym written ∙ named) in
        let T : ℕ → Type 0 = λ i. test (position i m.id.block m.id.symbol) ≡ true in
        subst T (ap first_index speaks.alone ∙ equal) (passes current)
message_passes test c p s r indices now draw (Flush m) says passes near h =
    instance_passes test c p now draw m.head.source m.head.instance m.object (flush_received m) r (λ index t. refl) (λ known index is named current t all. all) h
message_passes test c p s r indices now draw (Squelch m) says passes near h =
    instance_passes test c p now draw m.head.source m.head.instance m.object (squelch_received p m) r (λ index t. refl)
    (λ known index is named current t all. same_pass test t.holding (squelched p (point index m.id.block) t.holding) (losing p (point index m.id.block) t.holding).holds.held all) h
message_passes test c p s r indices now draw (RepairAdv m) says passes near h = quiet_passes test c p r now draw (Ok (RepairAdv m)) tt h
message_passes test c p s r indices now draw (Nack m) says passes near h = quiet_passes test c p r now draw (Ok (Nack m)) tt h
message_passes test c p s r indices now draw (Eot m) says passes near h = h
message_passes test c p s r indices now draw (AckReq m) says passes near h = h
message_passes test c p s r indices now draw (Opaque m) says passes near h = h
message_passes test c p s r indices now draw (Ack m) says passes near h = h
message_passes test c p s r indices now draw (Report m) says passes near h = h

pub received_passes : (test : Position → Bool) (c : ℕ) (p : Settings) (s : SenderState) (r : ReceiverState) (o : Written) (bytes : List ℕ) (now draw : ℕ)
    → SaysTrue p s o → DataPasses test c o.indices o.message → o.octets ≡ bytes → are_near (receiver_knows r o.message) o.indices ≡ true → InPass test c r
    → InPass test c (received p r bytes now draw)
received_passes test c p s r o bytes now draw says passes same near h =
    let B : List ℕ → Type 0 = λ octets. InPass test c (received p r octets now draw) in subst B same (go says.0)
  where
    M : Result Message Refusal → Type 0
    M said = InPass test c (message_received p now draw said r)

    go : (decoded o.octets ≡ Ok o.message) ⊎ SaysNothing (decoded o.octets) → InPass test c (message_received p now draw (decoded o.octets) r)
    go (inl read) = subst M (sym read) (message_passes test c p s r o.indices now draw o.message says.1 passes near h)
    go (inr quiet) = quiet_passes test c p r now draw (decoded o.octets) quiet h
