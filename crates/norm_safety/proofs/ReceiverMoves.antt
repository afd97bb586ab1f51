-- What an event does to a receiver: it keeps what is held, or leaves its instance for one that it never was in.
use Rattle.std.proofs.Common.{◌≡◌, ℕ, ◌+◌, ◌*◌, ◌<◌, ◌≤◌, List, [], ◌∷◌, Bool, true, false, Option, None, Some, Result, Ok, Err, refl, sym, ap, ◌∙◌, subst, arith, ◌⊎◌, inl, inr}
use Rattle.std.specs.Prelude.{slice_get, ◌==◌, ◌&&◌, not, nat_le, flat_map, unwrap_or, option_and_then, ◌++◌, IfSome, if◌then◌else◌, IsTrue}
use Rattle.std.specs.Option.{option_map}
use Rattle.std.proofs.lemmas.Bool.Decides.{Decides-eqb, leb_tells}
use Rattle.std.proofs.Math.Nat.{mod-lt}
use Rattle.norm_base.specs.Settings.{Settings, InRange}
use Rattle.fec_plan.specs.Points.{Point, point, point_before, position, position_before, further}
use Rattle.fec_plan.specs.declared.position.Position.{Position}
use Rattle.norm_ext.specs.ObjectIds.{object_id, index_named}
use Rattle.norm_ext.specs.Written.{Written, writes}
use Rattle.norm_ext.proofs.IdLemmas.{named_again_law}
use Rattle.norm_ext.specs.Message.{Message, Info, Data, Flush, Eot, Squelch, RepairAdv, AckReq, Opaque, Nack, Ack, Report, SquelchCommand, RepairAdvCommand}
use Rattle.norm_ext.specs.Reading.{decoded}
use Rattle.norm_ext.specs.Requests.{Request}
use Rattle.norm_ext.specs.declared.refusal.Refusal.{Refusal}
use Rattle.norm_order.specs.Entries.{Entry}
use Rattle.norm_order.specs.Shapes.{shapes_of, is_source}
use Rattle.norm_order.specs.declared.up.Up.{Up}
use Rattle.norm_receive_rules.specs.Holding.{Holding}
use Rattle.norm_receive_rules.specs.Acknowledging.{lost_nothing, has_handed_up, names_this, flushed, acknowledges}
use Rattle.norm_receive_rules.specs.ReceiverState.{ReceiverState, Knowledge}
use Rattle.norm_receive_rules.specs.Needs.{Need}
use Rattle.norm_receive_rules.specs.AllNeeds.{needs, needs_nothing}
use Rattle.norm_receive_rules.specs.Leaving.{is_in, goes_to, enters, entered}
use Rattle.norm_receive_rules.specs.BackingOff.{may_back_off, backs_off, may_need}
use Rattle.norm_receive_rules.specs.Overhearing.{overheard, nack_overheard, adv_overheard}
use Rattle.norm_receive_rules.specs.Receiving.{info_received, data_received, flush_received, squelch_received, learns, takes_in, in_instance, message_received, received}
use Rattle.norm_receive_rules.specs.Nack.{indices_of, fitting, nack_message, ack_message}
use Rattle.norm_receive_rules.specs.Ticking.{sends, holds_off, are_heard, asks, asks_where_needed, ends_back_off, ticked}
use Rattle.norm_send_rules.specs.SenderState.{SenderState, Instance}
use Rattle.norm_safety.specs.OnceEach.{order_of}
use Rattle.norm_safety.specs.InOrder.{drop_of}
use Rattle.norm_safety.proofs.EntryLemmas.{clash}
use Rattle.norm_safety.proofs.SenderHolds.{OrdersHold, point_in}
use Rattle.norm_safety.proofs.Spoken.{IsBegun, IsTrueOf, SaysTrue, SquelchesDropped}
use Rattle.norm_safety.proofs.Feedback.{SaysNothing}
use Rattle.norm_safety.specs.Lawful.{receiver_knows, most_apart, is_near, are_near}
use Rattle.norm_safety.specs.Said.{about}
use Rattle.norm_safety.specs.SaysSymbols.{SaysSymbol, SaysInfo}
use Rattle.norm_safety.specs.SaysPositions.{flushes_source}
use Rattle.norm_safety.proofs.Passed.{begun}
use Rattle.norm_safety.proofs.HandedMoves.{handed_nothing}
use Rattle.norm_safety.proofs.Stood.{Stood, Due, stood_behind}
use Rattle.norm_safety.proofs.Holding.{HoldsOf, ReceiverHolds, asks_due}
use Rattle.norm_safety.proofs.ReceiverHolds.{data_holding, info_is_holding, squelch_holding}

-- ---- what leaves what is held

-- the same node in the same instance holds and handed up the same; the acknowledgement that is due is the same, or none; and the
-- sequence number has 16 bits where it had
pub record SameHeld (r s : ReceiverState) : Type 1 where
  pub node : s.node ≡ r.node
  pub instance : s.instance ≡ r.instance
  pub holding : s.holding ≡ r.holding
  pub due : (Claim : Position → Type 0) → IfSome r.knows.due Claim → IfSome s.knows.due Claim
  pub sequence : r.sequence < 65536 → s.sequence < 65536

pub held_same : (r : ReceiverState) → SameHeld r r
held_same r = record { node = refl; instance = refl; holding = refl; due = λ Claim h. h; sequence = λ n. n }

pub same_holding : (p : Settings) (order : List Entry) (d : Point) (taken : List Up) (r s : ReceiverState) → SameHeld r s
    → ReceiverHolds p order d taken r → ReceiverHolds p order d taken s
same_holding p order d taken r s same h =
    let H : Holding → Type 0 = λ holding. HoldsOf p order d taken s.knows.due holding in
    subst H (sym same.holding)
    (asks_due p order d taken r.knows.due s.knows.due r.holding (same.due (Stood p order (taken ++ r.holding.ups)) h.confirms) h)

pub need_same : (p : Settings) (now draw : ℕ) (r : ReceiverState) → SameHeld r (may_need p now draw r)
need_same p now draw r = go (may_back_off now r.knows) (needs_nothing p r)
  where
    go : (b c : Bool) → SameHeld r (elim b [ true ↦ elim c [ true ↦ r | false ↦ record r { knows = backs_off p now draw r.knows } ] | false ↦ r ])
    go true true = held_same r
    go true false = record { node = refl; instance = refl; holding = refl; due = λ Claim h. h; sequence = λ n. n }
    go false c = held_same r

overhears_same : (p : Settings) (requests : List Request) (r : ReceiverState) → SameHeld r (overheard p requests r)
overhears_same p requests r = go r.knows.backoff _ refl
  where
    go : (backoff : Option ℕ) (k : Knowledge) → k.due ≡ r.knows.due → SameHeld r (record r { knows = elim backoff [ Some ends ↦ k | None ↦ r.knows ] })
    go (Some ends) k e = record {
      node = refl;
      instance = refl;
      holding = refl;
      due = λ Claim h. (let C : Option Position → Type 0 = λ due. IfSome due Claim in subst C (sym e) h);
      sequence = λ n. n;
    }
    go None k e = held_same r

where_same : (b : Bool) (r s : ReceiverState) → SameHeld r s → SameHeld r (elim b [ true ↦ s | false ↦ r ])
where_same true r s h = h
where_same false r s h = held_same r

-- the state of a tick
abbrev state_of : ReceiverState × Option Written → ReceiverState
state_of step = step.0

pub tick_same : (p : Settings) (r : ReceiverState) (now : ℕ) → SameHeld r (ticked p r now).0
tick_same p r now = due r.knows.due
  where
    asked : (wanted : List Need) (s : ReceiverState) → SameHeld r s → (all : Bool) → SameHeld r (state_of (elim all [
      | true ↦ (record s { knows = holds_off p now s.knows }, None)
      | false ↦ sends (writes (nack_message p s wanted) (flat_map indices_of wanted)) (record s { knows = holds_off p now s.knows })
    ]))
    asked wanted s h true = record { node = h.node; instance = h.instance; holding = h.holding; due = h.due; sequence = h.sequence }
    asked wanted s h false = record { node = h.node; instance = h.instance; holding = h.holding; due = h.due; sequence = λ n. mod-lt (s.sequence + 1) (omega arith) }

    needed : (s : ReceiverState) → SameHeld r s → (none : Bool) → SameHeld r (state_of (elim none [
      | true ↦ (s, None)
      | false ↦ asks p now (fitting p (needs p s) None p.e) s
    ]))
    needed s h true = h
    needed s h false = asked (fitting p (needs p s) None p.e) s h (are_heard s (fitting p (needs p s) None p.e))

    ended : (s : ReceiverState) → SameHeld r s → (reached : Bool) → SameHeld r (state_of (elim reached [ true ↦ asks_where_needed p now s | false ↦ (r, None) ]))
    ended s h true = needed s h (needs_nothing p s)
    ended s h false = held_same r

    backed : (backoff : Option ℕ) → SameHeld r (state_of (elim backoff [
      | Some ends ↦ elim (nat_le ends now) [ true ↦ asks_where_needed p now (record r { knows = record (r.knows) { backoff = None } }) | false ↦ (r, None) ]
      | None ↦ (r, None)
    ]))
    backed None = held_same r
    backed (Some ends) = ended (record r { knows = record (r.knows) { backoff = None } })
        (record { node = refl; instance = refl; holding = refl; due = λ Claim h. h; sequence = λ n. n }) (nat_le ends now)

    due : (at : Option Position) → SameHeld r (state_of (elim at [
      | Some at ↦ sends (writes (ack_message p r at) (at.index ∷ [])) (record r { knows = record (r.knows) { due = None } })
      | None ↦ ends_back_off p now r
    ]))
    due None = backed r.knows.backoff
    due (Some at) = record { node = refl; instance = refl; holding = refl; due = λ Claim h. tt; sequence = λ n. mod-lt (r.sequence + 1) (omega arith) }

-- ---- what keeps node and instance

pub record SameIds (r s : ReceiverState) : Type 0 where
  pub node : s.node ≡ r.node
  pub instance : s.instance ≡ r.instance
  pub sequence : r.sequence < 65536 → s.sequence < 65536

ids_both : (a b c : ReceiverState) → SameIds a b → SameIds b c → SameIds a c
ids_both a b c h g = record { node = g.node ∙ h.node; instance = g.instance ∙ h.instance; sequence = λ n. g.sequence (h.sequence n) }

held_ids : (r s : ReceiverState) → SameHeld r s → SameIds r s
held_ids r s h = record { node = h.node; instance = h.instance; sequence = h.sequence }

-- ---- what a datagram does

-- What holds of a receiver, with what it handed up before in each instance: where it is in one, what it holds is of that
-- instance's order; where it is in none, nothing waits to be handed up or is to be acknowledged.
abbrev pub StandingIn : Settings → SenderState → (ℕ → List Up) → ReceiverState → Option ℕ → Type 0
StandingIn p s taken r (Some id) = ReceiverHolds p (order_of s id) (drop_of s id) (taken id) r
StandingIn p s taken r None = (r.holding.ups ≡ []) × IfSome r.knows.due (λ at. ⊥)

-- by the instance that it is in
abbrev pub Standing : Settings → SenderState → (ℕ → List Up) → ReceiverState → Type 0
Standing p s taken r = StandingIn p s taken r r.instance

-- A receiver stays in its instance, and holds what it should; or it goes on to another, which the sender began.
pub data Moved (p : Settings) (s : SenderState) (r : ReceiverState) : ReceiverState → Type 0 where
  Remains : {t : ReceiverState} → SameIds r t → ((taken : ℕ → List Up) → Standing p s taken r → Standing p s taken t) → Moved p s r t
  Enters : {t : ReceiverState} (id : ℕ) → is_in r id ≡ false → goes_to r id ≡ true → IsBegun p id → SameIds (enters id r) t
      → ReceiverHolds p (order_of s id) (drop_of s id) [] t → Moved p s r t

same_stands : (p : Settings) (s : SenderState) (taken : ℕ → List Up) (r t : ReceiverState) → SameHeld r t → Standing p s taken r → Standing p s taken t
same_stands p s taken r t same h =
    let S : Option ℕ → Type 0 = λ instance. StandingIn p s taken t instance in subst S (sym same.instance) (go r.instance h)
  where
    go : (instance : Option ℕ) → StandingIn p s taken r instance → StandingIn p s taken t instance
    go None h = (ap (λ (holding : Holding). holding.ups) same.holding ∙ h.0, same.due (λ at. ⊥) h.1)
    go (Some id) h = same_holding p (order_of s id) (drop_of s id) (taken id) r t same h

pub same_moves : (p : Settings) (s : SenderState) (r t : ReceiverState) → SameHeld r t → Moved p s r t
same_moves p s r t same = Remains (held_ids r t same) (λ taken h. same_stands p s taken r t same h)

-- the instance that a receiver is in
pub in_instance_is : (r : ReceiverState) (id : ℕ) → is_in r id ≡ true → r.instance ≡ Some id
in_instance_is r id e = go r.instance e
  where
    go : (instance : Option ℕ) → (elim instance [ Some current ↦ current == id | None ↦ false ]) ≡ true → instance ≡ Some id
    go None e = absurd (clash e)
    go (Some current) e = ap (λ (n : ℕ). Some n) ((Decides-eqb current id).0 e)

-- a receiver that enters an instance holds nothing of it
entering_holds : (p : Settings) → 1 ≤ p.b → (order : List Entry) (d : Point) (id : ℕ) (r : ReceiverState) → ReceiverHolds p order d [] (enters id r)
entering_holds p some order d id r = record {
  plans = tt;
  symbols = tt;
  rising = tt;
  infos = tt;
  planned = λ none. (refl, refl);
  gone = handed_nothing p order d [] some;
  confirms = tt;
}

-- What a flush of a source symbol makes due was handed up with everything before it: all objects before the hand-up point were, and
-- all segments of the stream in which that lies.
flush_holding : (p : Settings) (order : List Entry) (d : Point) (taken : List Up) (at : Position) (nodes : List ℕ) (r : ReceiverState)
    → is_source (shapes_of p order) at ≡ true → ReceiverHolds p order d taken r
    → ReceiverHolds p order d taken (record r { knows = flushed at (acknowledges r at nodes) r.knows })
flush_holding p order d taken at nodes r source h =
    asks_due p order d taken r.knows.due _ r.holding (go (acknowledges r at nodes) refl) h
  where
    both : (a b : Bool) → (a && b) ≡ true → (a ≡ true) × (b ≡ true)
    both true b e = (refl, e)
    both false b e = absurd (clash e)

    nothing : (lost : List ℕ) → (elim lost [ [] ↦ true | index ∷ more ↦ false ]) ≡ true → lost ≡ []
    nothing [] e = refl
    nothing (index ∷ more) e = absurd (clash e)

    stood : acknowledges r at nodes ≡ true → Stood p order (taken ++ r.holding.ups) at
    stood e =
        let handed = both (position_before at r.holding.point) (lost_nothing r.holding) (both (names_this r nodes) (has_handed_up r.holding at) e).1 in
        let gone = h.gone in
        stood_behind p order r.holding.point (taken ++ r.holding.ups) at source handed.0 gone.stands
        (gone.all ∙ ap (λ (us : List Up). us ++ begun p r.holding.point.index (r.holding.point.block * p.b + r.holding.point.symbol) (slice_get order r.holding.point.index))
        (gone.clean (nothing r.holding.lost handed.1)).1)

    further_due : (due : Option Position) → Stood p order (taken ++ r.holding.ups) at → Due p order (taken ++ r.holding.ups) due
        → Due p order (taken ++ r.holding.ups) (further at due)
    further_due None now was = now
    further_due (Some other) now was = by_order (position_before other at)
      where
        by_order : (b : Bool) → Due p order (taken ++ r.holding.ups) (if b then Some at else Some other)
        by_order true = now
        by_order false = was

    go : (b : Bool) → acknowledges r at nodes ≡ b
        → Due p order (taken ++ r.holding.ups) (elim b [ true ↦ further at r.knows.due | false ↦ r.knows.due ])
    go true e = further_due r.knows.due (stood e) h.confirms
    go false e = h.confirms

-- the state in which an index is known
abbrev pub knowing : ℕ → ReceiverState → ReceiverState
knowing index r = record r { knows = learns index r.knows }

pub le_true : (a b : ℕ) → nat_le a b ≡ true → a ≤ b
le_true a b e = go (leb_tells a b)
  where
    go : ((nat_le a b ≡ true) × (a ≤ b)) ⊎ ((nat_le a b ≡ false) × (b < a)) → a ≤ b
    go (inl tells) = tells.1
    go (inr tells) = absurd (clash (sym tells.0 ∙ e))

-- the id of an index near what is known names that index
pub near_named : (p : Settings) (known object index : ℕ) → object ≡ object_id p index → index ≤ 4294967294 → are_near (Some known) (index ∷ []) ≡ true
    → index_named p known object ≡ Some index
near_named p known object index id most near =
    let one = both (is_near known index) true near in
    let two = both (nat_le index (known + most_apart)) (nat_le known (index + most_apart)) one.0 in
    ap (index_named p known) id
    ∙ named_again_law p known index (le_true known (index + most_apart) two.1) (le_true index (known + most_apart) two.0) most
  where
    both : (a b : Bool) → (a && b) ≡ true → (a ≡ true) × (b ≡ true)
    both true b e = (refl, e)
    both false b e = absurd (clash e)

-- what is known of an instance that is entered
abbrev pub known_in : Option ReceiverState → Option ℕ
known_in found = option_map (λ (s : ReceiverState). s.knows.known) found

-- a message of the sender in an instance whose order it is true of, where its id names the index that it was written for
instance_moves : (p : Settings) → 1 ≤ p.b → (s : SenderState) (now draw source id object index : ℕ) (brings : ℕ → ReceiverState → ReceiverState) (r : ReceiverState)
    → IsBegun p id → object ≡ object_id p index → index ≤ 4294967294 → are_near (known_in (entered r id)) (index ∷ []) ≡ true
    → ((t : ReceiverState) → SameIds t (brings index t))
    → ((taken : List Up) (t : ReceiverState) → ReceiverHolds p (order_of s id) (drop_of s id) taken t → ReceiverHolds p (order_of s id) (drop_of s id) taken (brings index t))
    → Moved p s r (in_instance p now draw source id object brings r)
instance_moves p some s now draw source id object index brings r begun named most near same kept =
    go (source == p.sender) (is_in r id) (goes_to r id) refl refl near
  where
    after : ReceiverState → ReceiverState
    after t = may_need p now draw (brings index (knowing index t))

    after_ids : (t : ReceiverState) → SameIds t (may_need p now draw (brings index (knowing index t)))
    after_ids t =
        let k : SameIds t (knowing index t) = record { node = refl; instance = refl; sequence = λ n. n } in
        ids_both t (knowing index t) _ k (ids_both (knowing index t) (brings index (knowing index t)) _ (same (knowing index t))
        (held_ids (brings index (knowing index t)) _ (need_same p now draw (brings index (knowing index t)))))

    after_holds : (taken : List Up) (t : ReceiverState) → ReceiverHolds p (order_of s id) (drop_of s id) taken t
        → ReceiverHolds p (order_of s id) (drop_of s id) taken (may_need p now draw (brings index (knowing index t)))
    after_holds taken t h = same_holding p (order_of s id) (drop_of s id) taken (brings index (knowing index t)) _
        (need_same p now draw (brings index (knowing index t))) (kept taken (knowing index t) h)

    entering : Bool → Bool → Option ReceiverState
    entering inside above = elim inside [ true ↦ Some r | false ↦ elim above [ true ↦ Some (enters id r) | false ↦ None ] ]

    -- the state in which the message is received, with what it names
    in_state : (t : ReceiverState) → are_near (Some t.knows.known) (index ∷ []) ≡ true → Moved p s r (may_need p now draw (brings index (knowing index t)))
        → Moved p s r (unwrap_or (takes_in p now draw object brings t) r)
    in_state t close moves =
        let M : Option ℕ → Type 0 = λ found. Moved p s r (unwrap_or (elim found [
          | Some i ↦ Some (may_need p now draw (brings i (knowing i t)))
          | None ↦ None
        ]) r) in
        subst M (sym (near_named p t.knows.known object index named most close)) moves

    go : (own inside above : Bool) → is_in r id ≡ inside → goes_to r id ≡ above
        → are_near (known_in (elim inside [ true ↦ Some r | false ↦ elim above [ true ↦ Some (enters id r) | false ↦ None ] ])) (index ∷ []) ≡ true
        → Moved p s r (elim own [
          | true ↦ unwrap_or (option_and_then (takes_in p now draw object brings)
              (elim inside [ true ↦ Some r | false ↦ elim above [ true ↦ Some (enters id r) | false ↦ None ] ])) r
          | false ↦ r
        ])
    go false inside above e f close = same_moves p s r r (held_same r)
    go true true above e f close =
        let is = in_instance_is r id e in
        let later = (after_ids r).instance ∙ is in
        in_state r close (Remains (after_ids r) (λ taken h. (
        let S : Option ℕ → Type 0 = λ instance. StandingIn p s taken r instance in
        let T : Option ℕ → Type 0 = λ instance. StandingIn p s taken (may_need p now draw (brings index (knowing index r))) instance in
        subst T (sym later) (after_holds (taken id) r (subst S is h))
        )))
    go true false false e f close = same_moves p s r r (held_same r)
    go true false true e f close =
        let ids = after_ids (enters id r) in
        in_state (enters id r) close
        (Enters id e f begun ids (after_holds [] (enters id r) (entering_holds p some (order_of s id) (drop_of s id) id r)))

-- what is said of nothing that is held
quiet_moves : (p : Settings) (s : SenderState) (r : ReceiverState) (now draw : ℕ) (said : Result Message Refusal) → SaysNothing said
    → Moved p s r (message_received p now draw said r)
quiet_moves p s r now draw = go
  where
    adv_same : (m : RepairAdvCommand) (own : Bool) → SameHeld r (elim own [ true ↦ adv_overheard p m r | false ↦ r ])
    adv_same m true = where_same (is_in r m.head.instance) r (overheard p m.requests r) (overhears_same p m.requests r)
    adv_same m false = held_same r

    go : (said : Result Message Refusal) → SaysNothing said → Moved p s r (message_received p now draw said r)
    go (Ok (Info m)) says = absurd says
    go (Ok (Data m)) says = absurd says
    go (Ok (Flush m)) says = absurd says
    go (Ok (Squelch m)) says = absurd says
    go (Ok (RepairAdv m)) says = same_moves p s r (elim (m.head.source == p.sender) [ true ↦ adv_overheard p m r | false ↦ r ]) (adv_same m (m.head.source == p.sender))
    go (Ok (Nack m)) says = same_moves p s r (nack_overheard p m r)
        (where_same (not (m.source == r.node) && m.sender == p.sender && is_in r m.instance) r (overheard p m.requests r) (overhears_same p m.requests r))
    go (Ok (Eot m)) says = same_moves p s r r (held_same r)
    go (Ok (AckReq m)) says = same_moves p s r r (held_same r)
    go (Ok (Opaque m)) says = same_moves p s r r (held_same r)
    go (Ok (Ack m)) says = same_moves p s r r (held_same r)
    go (Ok (Report m)) says = same_moves p s r r (held_same r)
    go (Err refusal) says = same_moves p s r r (held_same r)

-- a message that says nothing false of the sender's orders, with ids near what the receiver knows
message_moves : (p : Settings) → InRange p → (s : SenderState) (r : ReceiverState) (indices : List ℕ) (now draw : ℕ) → OrdersHold p s
    → (m : Message) → IsTrueOf p s indices m → are_near (receiver_knows r m) indices ≡ true → Moved p s r (message_received {E = Refusal} p now draw (Ok m) r)
message_moves p range s r indices now draw orders = go
  where
    some : 1 ≤ p.b
    some = let least = range.b.0 in least

    dropped_to : (m : SquelchCommand) (index : ℕ) → SquelchesDropped s (about (index ∷ []) m)
        → point_before (drop_of s m.head.instance) (point index m.id.block) ≡ false
    dropped_to m index (i, found, before, of) =
        ap (λ (found : Option Instance). point_before (point_in found) (point index m.id.block)) found ∙ before

    near_of : (known : Option ℕ) (index : ℕ) → indices ≡ index ∷ [] → are_near known indices ≡ true → are_near known (index ∷ []) ≡ true
    near_of known index alone near = ap (are_near known) (sym alone) ∙ near

    go : (m : Message) → IsTrueOf p s indices m → are_near (receiver_knows r m) indices ≡ true → Moved p s r (message_received {E = Refusal} p now draw (Ok m) r)
    go (Info m) (speaks, says) near =
        let id : ℕ = m.head.instance in
        let index : ℕ = speaks.index in
        let S : List ℕ → Type 0 = λ xs. SaysInfo p s (about xs m) in
        let is = subst S speaks.alone says in
        instance_moves p some s now draw m.head.source id m.head.object index (info_received p m) r speaks.begun speaks.named speaks.most
        (near_of (known_in (entered r id)) index speaks.alone near)
        (λ t. record { node = refl; instance = refl; sequence = λ n. n })
        (λ taken t h. info_is_holding p range (order_of s id) (drop_of s id) taken t.knows.due m index t.holding (orders.sized id) is h)
    go (Data m) (speaks, says) near =
        let id : ℕ = m.head.instance in
        let index : ℕ = speaks.index in
        let S : List ℕ → Type 0 = λ xs. SaysSymbol p s (about xs m) in
        let is = subst S speaks.alone says in
        instance_moves p some s now draw m.head.source id m.head.object index (data_received p m) r speaks.begun speaks.named speaks.most
        (near_of (known_in (entered r id)) index speaks.alone near)
        (λ t. record { node = refl; instance = refl; sequence = λ n. n })
        (λ taken t h. data_holding p range (order_of s id) (drop_of s id) taken t.knows.due m index t.holding (orders.sized id) is h)
    go (Flush m) (speaks, says) near =
        let id : ℕ = m.head.instance in
        let index : ℕ = speaks.index in
        let S : List ℕ → Type 0 = λ xs. IsTrue (flushes_source p s (about xs m)) in
        let source = subst S speaks.alone says in
        instance_moves p some s now draw m.head.source id m.object index (flush_received m) r speaks.begun speaks.named speaks.most
        (near_of (known_in (entered r id)) index speaks.alone near) (λ t. record { node = refl; instance = refl; sequence = λ n. n })
        (λ taken t h. flush_holding p (order_of s id) (drop_of s id) taken (position index m.id.block m.id.symbol) m.nodes t source h)
    go (Squelch m) (speaks, says) near =
        let id : ℕ = m.head.instance in
        let index : ℕ = speaks.index in
        let S : List ℕ → Type 0 = λ xs. SquelchesDropped s (about xs m) in
        let is = subst S speaks.alone says in
        instance_moves p some s now draw m.head.source id m.object index (squelch_received p m) r speaks.begun speaks.named speaks.most
        (near_of (known_in (entered r id)) index speaks.alone near) (λ t. record { node = refl; instance = refl; sequence = λ n. n })
        (λ taken t h. squelch_holding p range (order_of s id) (drop_of s id) taken t.knows.due m index t.holding (orders.sized id) (orders.within id)
        (dropped_to m index is) h)
    go (RepairAdv m) says near = quiet_moves p s r now draw (Ok (RepairAdv m)) tt
    go (Nack m) says near = quiet_moves p s r now draw (Ok (Nack m)) tt
    go (Eot m) says near = quiet_moves p s r now draw (Ok (Eot m)) tt
    go (AckReq m) says near = quiet_moves p s r now draw (Ok (AckReq m)) tt
    go (Opaque m) says near = quiet_moves p s r now draw (Ok (Opaque m)) tt
    go (Ack m) says near = quiet_moves p s r now draw (Ok (Ack m)) tt
    go (Report m) says near = quiet_moves p s r now draw (Ok (Report m)) tt

-- a datagram that says nothing false of the sender's orders, delivered in time
pub received_moves : (p : Settings) → InRange p → (s : SenderState) (r : ReceiverState) (o : Written) (bytes : List ℕ) (now draw : ℕ) → OrdersHold p s
    → SaysTrue p s o → o.octets ≡ bytes → are_near (receiver_knows r o.message) o.indices ≡ true → Moved p s r (received p r bytes now draw)
received_moves p range s r o bytes now draw orders says same near =
    let B : List ℕ → Type 0 = λ octets. Moved p s r (received p r octets now draw) in subst B same (go says.0)
  where
    M : Result Message Refusal → Type 0
    M said = Moved p s r (message_received p now draw said r)

    go : (decoded o.octets ≡ Ok o.message) ⊎ SaysNothing (decoded o.octets) → Moved p s r (message_received p now draw (decoded o.octets) r)
    go (inl read) = subst M (sym read) (message_moves p range s r o.indices now draw orders o.message says.1 near)
    go (inr quiet) = quiet_moves p s r now draw (decoded o.octets) quiet
