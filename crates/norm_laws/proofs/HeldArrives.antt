-- A receiver that hears a true DATA or INFO of its instance's window, or enters the instance with it, is in the instance then, and has the symbol or the info.
use Rattle.std.proofs.Common.{◌≡◌, ℕ, ◌≤◌, List, [], ◌∷◌, Bool, true, false, Option, None, Some, Ok, refl, sym, ap, ◌∙◌, subst}
use Rattle.std.specs.Prelude.{unwrap_or, option_and_then, ◌==◌, ◌||◌}
use Rattle.std.proofs.lemmas.Bool.Decides.{Decides-eqb}
use Rattle.norm_base.specs.Settings.{Settings, InRange}
use Rattle.fec_plan.specs.Points.{Point, point, point_before, position}
use Rattle.norm_ext.specs.Message.{Info, Data, InfoMessage, DataMessage}
use Rattle.norm_ext.specs.ObjectIds.{object_id}
use Rattle.norm_ext.specs.declared.refusal.Refusal.{Refusal}
use Rattle.norm_order.specs.Entries.{Entry}
use Rattle.norm_receive_rules.specs.BackingOff.{may_need}
use Rattle.norm_receive_rules.specs.Holding.{Holding}
use Rattle.norm_receive_rules.specs.Leaving.{is_in, goes_to, enters, entered}
use Rattle.norm_receive_rules.specs.ReceiverState.{ReceiverState}
use Rattle.norm_receive_rules.specs.Receiving.{info_received, data_received, takes_in, in_instance, message_received}
use Rattle.norm_send_rules.specs.SenderState.{SenderState}
use Rattle.norm_safety.specs.Lawful.{receiver_knows, are_near}
use Rattle.norm_safety.specs.OnceEach.{order_of}
use Rattle.norm_safety.specs.Said.{about, first_index}
use Rattle.norm_safety.specs.SaysSymbols.{SaysSymbol, SaysInfo}
use Rattle.norm_safety.proofs.ReceiverMoves.{knowing, known_in, near_named, need_same, in_instance_is}
use Rattle.norm_safety.proofs.SizedOrders.{AreSized}
use Rattle.norm_safety.proofs.Spoken.{IsTrueOf}
use Rattle.norm_laws.proofs.HeldComes.{data_held, info_held}
use Rattle.norm_laws.proofs.HeldFits.{Ready}
use Rattle.norm_laws.proofs.HeldRoom.{Fits}
use Rattle.norm_laws.proofs.HeldWords.{HasSymbol, HasInfo}

clash : false ≡ true → ⊥
clash e = cc

-- The receiver is in the instance, or goes on to it; there it is ready for what comes of the window, which in an instance that it enters begins
-- with the first object.
pub record Awaits (p : Settings) (order : List Entry) (d : Point) (id : ℕ) (r : ReceiverState) : Type 0 where
  pub comes : (is_in r id || goes_to r id) ≡ true
  pub inside : r.instance ≡ Some id → Ready p order d r.holding
  pub outside : is_in r id ≡ false → point_before (point 0 0) d ≡ false

-- It is in the instance, and of what it holds this is so.
pub record Arrived (P : Holding → Type 0) (id : ℕ) (t : ReceiverState) : Type 0 where
  pub inside : t.instance ≡ Some id
  pub has : P t.holding

same_has : (P : Holding → Type 0) (g h : Holding) → h ≡ g → P g → P h
same_has P g h e k = subst P (sym e) k

instance_arrives : (P : Holding → Type 0) (p : Settings) (order : List Entry) (d : Point) (now draw source id object index : ℕ) (brings : ℕ → ReceiverState → ReceiverState)
    (r : ReceiverState) → source ≡ p.sender → object ≡ object_id p index → index ≤ 4294967294 → are_near (known_in (entered r id)) (index ∷ []) ≡ true
    → ((t : ReceiverState) → (brings index t).instance ≡ t.instance) → ((t : ReceiverState) → Ready p order d t.holding → P (brings index t).holding)
    → Awaits p order d id r → Arrived P id (in_instance p now draw source id object brings r)
instance_arrives P p order d now draw source id object index brings r own named most near same has awaits =
    go (source == p.sender) ((Decides-eqb source p.sender).1 own) (is_in r id) (goes_to r id) refl awaits.comes near
  where
    after : ReceiverState → ReceiverState
    after t = may_need p now draw (brings index (knowing index t))

    in_state : (t : ReceiverState) → t.instance ≡ Some id → Ready p order d t.holding → are_near (Some t.knows.known) (index ∷ []) ≡ true
        → Arrived P id (unwrap_or (takes_in p now draw object brings t) r)
    in_state t inside ready close =
        let M : Option ℕ → Type 0 = λ found. Arrived P id (unwrap_or (elim found as (λ _. Option ReceiverState) [
          | Some i ↦ Some (may_need p now draw (brings i (knowing i t)))
          | None ↦ None
        ]) r) in
        let b : ReceiverState = brings index (knowing index t) in
        let need = need_same p now draw b in
        let a : Arrived P id (after t) = record {
          inside = need.instance ∙ same (knowing index t) ∙ inside;
          has = same_has P b.holding (after t).holding need.holding (has (knowing index t) ready);
        } in
        subst M (sym (near_named p t.knows.known object index named most close)) a

    begins : is_in r id ≡ false → Ready p order d (enters id r).holding
    begins e = record { plans = tt; apart = tt; front = awaits.outside e }

    go : (own : Bool) → own ≡ true → (inner above : Bool) → is_in r id ≡ inner → (inner || above) ≡ true
        → are_near (known_in (elim inner as (λ _. Option ReceiverState) [ true ↦ Some r | false ↦ elim above as (λ _. Option ReceiverState) [ true ↦ Some (enters id r) | false ↦ None ] ])) (index ∷ []) ≡ true
        → Arrived P id (elim own as (λ _. ReceiverState) [
          | true ↦ unwrap_or (option_and_then (takes_in p now draw object brings)
              (elim inner as (λ _. Option ReceiverState) [ true ↦ Some r | false ↦ elim above as (λ _. Option ReceiverState) [ true ↦ Some (enters id r) | false ↦ None ] ])) r
          | false ↦ r
        ])
    go false e inner above f comes close = absurd (clash e)
    go true e true above f comes close = let inside = in_instance_is r id f in in_state r inside (awaits.inside inside) close
    go true e false true f comes close = in_state (enters id r) refl (begins f) close
    go true e false false f comes close = absurd (clash comes)

-- a DATA as it is read
pub data_arrives : (p : Settings) → InRange p → (s : SenderState) (d : Point) (r : ReceiverState) (indices : List ℕ) (now draw : ℕ) (m : DataMessage)
    → AreSized p (order_of s m.head.instance) → Fits p (order_of s m.head.instance) d → m.head.source ≡ p.sender → IsTrueOf p s indices (Data m)
    → are_near (receiver_knows r (Data m)) indices ≡ true → Awaits p (order_of s m.head.instance) d m.head.instance r
    → Arrived (λ h. HasSymbol h (position (first_index indices) m.id.block m.id.symbol)) m.head.instance (message_received {E = Refusal} p now draw (Ok (Data m)) r)
data_arrives p range s d r indices now draw m sized fits own (speaks, says) near awaits =
    let id : ℕ = m.head.instance in
    let index : ℕ = speaks.index in
    let order : List Entry = order_of s id in
    let S : List ℕ → Type 0 = λ xs. SaysSymbol p s (about xs m) in
    let is = subst S speaks.alone says in
    let first : index ≡ first_index indices = sym (ap first_index speaks.alone) in
    let A : ℕ → Type 0 = λ i. Arrived (λ h. HasSymbol h (position i m.id.block m.id.symbol)) id (message_received {E = Refusal} p now draw (Ok (Data m)) r) in
    subst A first (instance_arrives (λ h. HasSymbol h (position index m.id.block m.id.symbol)) p order d now draw m.head.source id m.head.object index (data_received p m) r own
    speaks.named speaks.most (ap (are_near (known_in (entered r id))) (sym speaks.alone) ∙ near) (λ t. refl)
    (λ t ready. data_held p range order d m index t.holding sized fits ready is) awaits)

-- an INFO as it is read
pub info_arrives : (p : Settings) → InRange p → (s : SenderState) (d : Point) (r : ReceiverState) (indices : List ℕ) (now draw : ℕ) (m : InfoMessage)
    → AreSized p (order_of s m.head.instance) → Fits p (order_of s m.head.instance) d → m.head.source ≡ p.sender → IsTrueOf p s indices (Info m)
    → are_near (receiver_knows r (Info m)) indices ≡ true → Awaits p (order_of s m.head.instance) d m.head.instance r
    → Arrived (λ h. HasInfo h (first_index indices)) m.head.instance (message_received {E = Refusal} p now draw (Ok (Info m)) r)
info_arrives p range s d r indices now draw m sized fits own (speaks, says) near awaits =
    let id : ℕ = m.head.instance in
    let index : ℕ = speaks.index in
    let order : List Entry = order_of s id in
    let S : List ℕ → Type 0 = λ xs. SaysInfo p s (about xs m) in
    let is = subst S speaks.alone says in
    let first : index ≡ first_index indices = sym (ap first_index speaks.alone) in
    let A : ℕ → Type 0 = λ i. Arrived (λ h. HasInfo h i) id (message_received {E = Refusal} p now draw (Ok (Info m)) r) in
    subst A first (instance_arrives (λ h. HasInfo h index) p order d now draw m.head.source id m.head.object index (info_received p m) r own
    speaks.named speaks.most (ap (are_near (known_in (entered r id))) (sym speaks.alone) ∙ near) (λ t. refl)
    (λ t ready. info_held p range order d m index t.holding sized fits ready is) awaits)
