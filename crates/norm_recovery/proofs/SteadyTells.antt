-- What a tick gives of a sender that repairs nothing: what is new, or a flush once nothing is. Each receiver has all before that, as it is given.
use Rattle.std.proofs.Common.{◌≡◌, ℕ, ◌+◌, ◌<◌, ◌≤◌, List, [], ◌∷◌, length, Bool, true, false, Option, None, Some, refl, sym, ap, ◌∙◌, subst, arith, ◌⊎◌, inl, inr}
use Rattle.std.specs.Prelude.{◌==◌, slice_get, nat_eq, nat_lt, nat_le, IsSomeAnd, ⊤}
use Rattle.std.specs.List.{IsDistinct}
use Rattle.std.proofs.lemmas.Bool.Decides.{leb_tells}
use Rattle.std.proofs.lemmas.Option.{slice_get_within}
use Rattle.norm_base.specs.Settings.{Settings}
use Rattle.fec_plan.specs.Points.{position, position_before}
use Rattle.fec_plan.specs.declared.position.Position.{Position}
use Rattle.fec_plan.proofs.PositionLemmas.{Before as ComesBefore, before_decides}
use Rattle.norm_ext.specs.Message.{Message, Info, Data, Flush, Eot, Squelch, RepairAdv, AckReq, Opaque, Nack, Ack, Report, InfoMessage, DataMessage, FlushCommand}
use Rattle.norm_ext.specs.Written.{Written, writes}
use Rattle.norm_order.specs.Entries.{Object, Whole, Stream, Entry}
use Rattle.norm_order.specs.Later.{OrderLater}
use Rattle.norm_order.specs.Sets.{is_member}
use Rattle.norm_order.specs.Shapes.{Shape, shapes_of, is_source, closed_in}
use Rattle.norm_receive_rules.specs.Holding.{Holding}
use Rattle.norm_receive_rules.specs.ReceiverState.{ReceiverState}
use Rattle.norm_receive_rules.specs.ReceiverStep.{ReceiverEvent, receiver_step}
use Rattle.norm_send_rules.specs.Closing.{round_closed}
use Rattle.norm_send_rules.specs.Flushing.{most_flushes, flushes_for, expired, flushes_oldest, flushes_no_more, flushed, flushes_in_turn, flushes, may_flush}
use Rattle.norm_send_rules.specs.Messages.{squelch_message}
use Rattle.norm_send_rules.specs.SenderState.{SenderState, Instance, Watermark, Round}
use Rattle.norm_send_rules.specs.Sending.{next_new, behind, sends, noted, object_of, message_of, sends_new, repairs_next}
use Rattle.norm_send_rules.specs.Ticking.{closed_where_due, sends_further, sends_wanted, sends_first, sends_in_time, ticked, is_idle}
use Rattle.norm_send_rules.specs.Wants.{want_before}
use Rattle.norm_send_rules.specs.Watermarks.{oldest, pending, keeps_oldest, counted_anew, end_where}
use Rattle.norm_send_rules.specs.declared.news.Outcome.TheVariants.{Expired}
use Rattle.norm_send_rules.specs.declared.want.Want.{Want}
use Rattle.norm_send_rules.specs.declared.want.Want.TheVariants.{Info as WantedInfo, Symbol}
use Rattle.norm_safety.specs.OnceEach.{order_of, instance_ids}
use Rattle.norm_safety.specs.Said.{first_index, entry_at}
use Rattle.norm_safety.proofs.Holding.{some_and}
use Rattle.norm_safety.proofs.Spoken.{IsTrueOf, SaysTrue, current_order, entry_with}
use Rattle.norm_laws.specs.HandedUp.{Passing}
use Rattle.norm_laws.specs.SentOnce.{SourcesSent}
use Rattle.norm_laws.proofs.GivenTicks.{BringsSymbol, BringsInfo}
use Rattle.norm_laws.proofs.HeldWords.{HasSymbol, HasInfo}
use Rattle.norm_laws.proofs.PassingWords.{Got}
use Rattle.norm_laws.proofs.WholeOrders.{AreWhole}
use Rattle.norm_recovery.specs.SteadyNothing.{AsksNothing}
use Rattle.norm_recovery.specs.SteadySent.{SentBeforeNext}
use Rattle.norm_recovery.proofs.SteadyBefore.{IsBefore, Before, before_later, before_moves}

-- ---- what a tick gives

-- a datagram of an instance names what is new
abbrev pub NamesWant : ℕ → List ℕ → Message → Want → Type 0
NamesWant id indices (Data m) (Symbol at) = (m.head.instance ≡ id) × (m.id.block ≡ at.block) × (indices ≡ at.index ∷ [])
NamesWant id indices (Info m) (WantedInfo index) = (m.head.instance ≡ id) × (indices ≡ index ∷ [])
NamesWant id indices _ _ = ⊥

-- a datagram is a flush of an instance
abbrev pub IsFlushOf : ℕ → Message → Type 0
IsFlushOf id (Flush m) = m.head.instance ≡ id
IsFlushOf id _ = ⊥

-- A tick gives nothing; or what is new, and what comes behind that is next; or, where nothing is new, a flush.
pub data TickSays (p : Settings) (s : SenderState) : SenderState → Option Written → Type 0 where
  SaysNone : {t : SenderState} → TickSays p s t None
  SaysNew : {t : SenderState} {o : Written} (w : Want) → t.next ≡ behind w → NamesWant s.current.id o.indices o.message w → TickSays p s t (Some o)
  SaysFlush : {t : SenderState} {o : Written} → next_new p s ≡ None → t.sent ≡ s.sent → t.sent_infos ≡ s.sent_infos → IsFlushOf s.current.id o.message
      → TickSays p s t (Some o)

-- the same instance, in which the same counts as sent, and which repairs nothing
record Rests (s t : SenderState) : Type 0 where
  id : t.current.id ≡ s.current.id
  sent : t.sent ≡ s.sent
  infos : t.sent_infos ≡ s.sent_infos
  asks : AsksNothing t

module _ (p : Settings) (now : ℕ) (s : SenderState) (h : AsksNothing s) where
  -- of a step
  abbrev pub StepSays : SenderState × Option Written → Type 0
  StepSays step = TickSays p s step.0 step.1 × AsksNothing step.0

  rests_itself : Rests s s
  rests_itself = record { id = refl; sent = refl; infos = refl; asks = h }

  flush_says : next_new p s ≡ None → (w : Watermark) (t : SenderState) → Rests s t → StepSays (flushes_for p now w t)
  flush_says none w t k = (SaysFlush none k.sent k.infos k.id, record { round = k.asks.round; wants = k.asks.wants; squelch = k.asks.squelch })

  oldest_says : next_new p s ≡ None → (t : SenderState) → Rests s t → StepSays (flushes_oldest p now t)
  oldest_says none t k = go (oldest t)
    where
      go : (found : Option Watermark) → StepSays (elim found [ Some w ↦ flushes_for p now w t | None ↦ (t, None) ])
      go None = (SaysNone, k.asks)
      go (Some w) = flush_says none w t k

  anew_rests : (before t : SenderState) → Rests s t → Rests s (counted_anew before t)
  anew_rests before t k = go (keeps_oldest before t)
    where
      go : (b : Bool) → Rests s (elim b as (λ _. SenderState) [ true ↦ t | false ↦ record t { flushes = 0 } ])
      go true = k
      go false = record {
        id = k.id;
        sent = k.sent;
        infos = k.infos;
        asks = record { round = k.asks.round; wants = k.asks.wants; squelch = k.asks.squelch };
      }

  no_more_says : next_new p s ≡ None → (w : Watermark) → StepSays (flushes_no_more p now w s)
  no_more_says none w = go s.round
    where
      go : (round : Option Round) → StepSays (elim round [ Some r ↦ (s, None) | None ↦ flushes_oldest p now (expired w.mark s) ])
      go (Some r) = (SaysNone, h)
      go None = oldest_says none (expired w.mark s)
          (anew_rests s (end_where (λ (v : Watermark). v.mark == w.mark) (λ (v : Watermark). Expired (length (pending s v.at))) s)
          (record { id = refl; sent = refl; infos = refl; asks = record { round = h.round; wants = h.wants; squelch = h.squelch } }))

  flushed_says : next_new p s ≡ None → (w : Watermark) → StepSays (flushed p now w s)
  flushed_says none w = go (nat_lt s.flushes most_flushes)
    where
      go : (b : Bool) → StepSays (elim b [ true ↦ flushes_for p now w s | false ↦ flushes_no_more p now w s ])
      go true = flush_says none w s rests_itself
      go false = no_more_says none w

  in_turn_says : next_new p s ≡ None → StepSays (flushes_in_turn p now s)
  in_turn_says none = go (oldest s)
    where
      go : (found : Option Watermark) → StepSays (elim found [ Some w ↦ flushed p now w s | None ↦ (s, None) ])
      go None = (SaysNone, h)
      go (Some w) = flushed_says none w

  flushes_says : next_new p s ≡ None → StepSays (flushes p now s)
  flushes_says none = go (may_flush p s now)
    where
      go : (b : Bool) → StepSays (elim b [ true ↦ flushes_in_turn p now s | false ↦ (s, None) ])
      go true = in_turn_says none
      go false = (SaysNone, h)

  new_says : (w : Want) → StepSays (sends_new p now w s)
  new_says (Symbol at) = (SaysNew (Symbol at) refl (refl, refl, refl), record { round = h.round; wants = h.wants; squelch = h.squelch })
  new_says (WantedInfo index) = go (object_of (record s { next = behind (WantedInfo index) }) (WantedInfo index))
    where
      t : SenderState
      t = record s { next = behind (WantedInfo index) }

      asks : AsksNothing (sends p now (writes (message_of p t (WantedInfo index) (Stream []) 0) (index ∷ [])) (noted (WantedInfo index) t)).0
      asks = record { round = h.round; wants = h.wants; squelch = h.squelch }

      go : (object : Object) → StepSays (sends p now (writes (message_of p t (WantedInfo index) object 0) (index ∷ [])) (noted (WantedInfo index) t))
      go (Whole kind None octets) = (SaysNew (WantedInfo index) refl (refl, refl), asks)
      go (Whole kind (Some info) octets) = (SaysNew (WantedInfo index) refl (refl, refl), asks)
      go (Stream parts) = (SaysNew (WantedInfo index) refl (refl, refl), asks)

  further_says : StepSays (sends_further p now s)
  further_says = go (next_new p s) refl
    where
      go : (found : Option Want) → next_new p s ≡ found → StepSays (elim found [ Some w ↦ sends_new p now w s | None ↦ flushes p now s ])
      go None e = flushes_says e
      go (Some w) e = new_says w

  first_says : StepSays (sends_first p now s)
  first_says =
      let W : List Want → Type 0 = λ wants. StepSays (elim wants [ [] ↦ sends_further p now s | w ∷ wants ↦ repairs_next p now w wants s ]) in
      let F : Bool → Type 0 = λ due. StepSays (elim due [
        | true ↦ sends p now (writes (squelch_message p s s.current.drop) (s.current.drop.index ∷ [])) (record s { squelch_due = false })
        | false ↦ sends_wanted p now s
      ]) in
      subst F (sym h.squelch) (subst W (sym h.wants) further_says)

  pub tick_says : StepSays (ticked p s now)
  tick_says =
      let C : SenderState → Type 0 = λ t. StepSays (sends_in_time p now t) in
      let closed : closed_where_due p now s ≡ s = ap (λ (o : Option Round). elim o as (λ _. SenderState) [
        | Some r ↦ elim (nat_le r.closes now) [ true ↦ round_closed p r s | false ↦ s ]
        | None ↦ s
      ]) h.round in
      subst C (sym closed) (go (nat_lt now s.next_send))
    where
      go : (early : Bool) → StepSays (elim early [ true ↦ (s, None) | false ↦ sends_first p now s ])
      go true = (SaysNone, h)
      go false = first_says

  -- with nothing new it is idle
  pub none_idle : next_new p s ≡ None → is_idle p s ≡ true
  none_idle none =
      ap (λ (due : Bool). elim due as (λ _. Bool) [
        | true ↦ false
        | false ↦ elim s.wants [
          | w ∷ wants ↦ false
          | [] ↦ elim (next_new p s) [ Some w ↦ false | None ↦ elim s.round [ Some r ↦ false | None ↦ true ] ]
        ]
      ]) h.squelch
      ∙ ap (λ (wants : List Want). elim wants as (λ _. Bool) [
        | w ∷ wants ↦ false
        | [] ↦ elim (next_new p s) [ Some w ↦ false | None ↦ elim s.round [ Some r ↦ false | None ↦ true ] ]
      ]) h.wants
      ∙ ap (λ (found : Option Want). elim found as (λ _. Bool) [ Some w ↦ false | None ↦ elim s.round [ Some r ↦ false | None ↦ true ] ]) none
      ∙ ap (λ (round : Option Round). elim round as (λ _. Bool) [ Some r ↦ false | None ↦ true ]) h.round

-- ---- what a datagram leads to

-- A datagram is of the instance, and the receiver has all before what it names; of a flush, all up to its object. It is no squelch.
abbrev pub Leads : Settings → Instance → ReceiverState → List ℕ → Message → Type 0
Leads p i r indices (Info m) = (m.head.instance ≡ i.id) × Before p i r (first_index indices) 0
Leads p i r indices (Data m) = (m.head.instance ≡ i.id) × Before p i r (first_index indices) m.id.block
Leads p i r indices (Flush m) = (m.head.instance ≡ i.id) × Before p i r (first_index indices + 1) 0
Leads p i r indices (Squelch m) = ⊥
Leads p i r indices _ = ⊤

pub leads_later : (p : Settings) (i j : Instance) (r : ReceiverState) (indices : List ℕ) (m : Message) → AreWhole i.order → OrderLater i.order j.order → j.id ≡ i.id
    → Leads p i r indices m → Leads p j r indices m
leads_later p i j r indices (Info m) whole on same (is, h) = (is ∙ sym same, before_later p i j r (first_index indices) 0 whole on same h)
leads_later p i j r indices (Data m) whole on same (is, h) = (is ∙ sym same, before_later p i j r (first_index indices) m.id.block whole on same h)
leads_later p i j r indices (Flush m) whole on same (is, h) = (is ∙ sym same, before_later p i j r (first_index indices + 1) 0 whole on same h)
leads_later p i j r indices (Squelch m) whole on same h = absurd h
leads_later p i j r indices (Eot m) whole on same h = tt
leads_later p i j r indices (RepairAdv m) whole on same h = tt
leads_later p i j r indices (AckReq m) whole on same h = tt
leads_later p i j r indices (Opaque m) whole on same h = tt
leads_later p i j r indices (Nack m) whole on same h = tt
leads_later p i j r indices (Ack m) whole on same h = tt
leads_later p i j r indices (Report m) whole on same h = tt

pub leads_moves : (p : Settings) (i : Instance) (r : ReceiverState) (event : ReceiverEvent) (indices : List ℕ) (m : Message)
    → (r.instance ≡ Some i.id → (receiver_step p r event).0.instance ≡ Some i.id) → Leads p i r indices m → Leads p i (receiver_step p r event).0 indices m
leads_moves p i r event indices (Info m) still (is, h) = (is, before_moves p i r event (first_index indices) 0 still h)
leads_moves p i r event indices (Data m) still (is, h) = (is, before_moves p i r event (first_index indices) m.id.block still h)
leads_moves p i r event indices (Flush m) still (is, h) = (is, before_moves p i r event (first_index indices + 1) 0 still h)
leads_moves p i r event indices (Squelch m) still h = absurd h
leads_moves p i r event indices (Eot m) still h = tt
leads_moves p i r event indices (RepairAdv m) still h = tt
leads_moves p i r event indices (AckReq m) still h = tt
leads_moves p i r event indices (Opaque m) still h = tt
leads_moves p i r event indices (Nack m) still h = tt
leads_moves p i r event indices (Ack m) still h = tt
leads_moves p i r event indices (Report m) still h = tt

-- ---- a datagram as it is given

abbrev as_data : DataMessage → Message
as_data m = Data m

abbrev as_info : InfoMessage → Message
as_info m = Info m

abbrev as_flush : FlushCommand → Message
as_flush m = Flush m

same_data : (m n : DataMessage) → as_data m ≡ as_data n → m ≡ n
same_data m n e = cc

data_info : (m : DataMessage) (n : InfoMessage) → as_data m ≡ as_info n → ⊥
data_info m n e = cc

flush_data : (m : FlushCommand) (n : DataMessage) → as_flush m ≡ as_data n → ⊥
flush_data m n e = cc

flush_info : (m : FlushCommand) (n : InfoMessage) → as_flush m ≡ as_info n → ⊥
flush_info m n e = cc

le_is : (a b : ℕ) → a ≤ b → nat_le a b ≡ true
le_is a b le = go (leb_tells a b)
  where
    go : ((nat_le a b ≡ true) × (a ≤ b)) ⊎ ((nat_le a b ≡ false) × (b < a)) → nat_le a b ≡ true
    go (inl tells) = tells.0
    go (inr tells) = absurd (let lt = tells.1 in omega (arith, lt, le))

-- A sender after its tick, which gave this datagram, and a receiver that has or awaits all that counts as sent then.
module _ (p : Settings) (t : SenderState) (x : Passing) (o : Written) (last : x.last ≡ Some o) (node : ℕ) (r : ReceiverState) (ids : IsDistinct nat_eq (instance_ids t))
    (says : SaysTrue p t o)
    (symbols : (at : Position) → is_member position_before at t.sent ≡ true
    → Got x node r t.current.id (λ (g : Holding). HasSymbol g at) (BringsSymbol p t.current.id at))
    (infos : (n : ℕ) → is_member nat_lt n t.sent_infos ≡ true → Got x node r t.current.id (λ (g : Holding). HasInfo g n) (BringsInfo p t.current.id n)) where
  abbrev id : ℕ
  id = t.current.id

  abbrev order : List Entry
  order = t.current.order

  one : {a b : Written} → Some a ≡ Some b → a ≡ b
  one e = cc

  -- what the datagram does not bring itself is had
  symbol_had : (at : Position) → is_member position_before at t.sent ≡ true → (BringsSymbol p id at o → ⊥) → (r.instance ≡ Some id) × HasSymbol r.holding at
  symbol_had at e never = go (symbols at e)
    where
      go : Got x node r id (λ (g : Holding). HasSymbol g at) (BringsSymbol p id at) → (r.instance ≡ Some id) × HasSymbol r.holding at
      go (inl has) = has
      go (inr awaited) = absurd (never (subst (BringsSymbol p id at) (one (sym awaited.last ∙ last)) awaited.brings))

  info_had : (n : ℕ) → is_member nat_lt n t.sent_infos ≡ true → (BringsInfo p id n o → ⊥) → (r.instance ≡ Some id) × HasInfo r.holding n
  info_had n e never = go (infos n e)
    where
      go : Got x node r id (λ (g : Holding). HasInfo g n) (BringsInfo p id n) → (r.instance ≡ Some id) × HasInfo r.holding n
      go (inl has) = has
      go (inr awaited) = absurd (never (subst (BringsInfo p id n) (one (sym awaited.last ∙ last)) awaited.brings))

  -- an entry that is spoken of is in the order
  in_order : (P : Entry → Type 0) (named index : ℕ) → named ≡ id → IsSomeAnd (entry_at t named index) P → index < length order
  in_order P named index is some =
      let found = some_and P (entry_at t named index) some in
      let here : slice_get order index ≡ Some found.0 =
      ap (λ (xs : List Entry). slice_get xs index) (sym (ap (order_of t) is ∙ current_order t ids)) ∙ found.1 in
      slice_get_within order index found.0 here

  true_of : (m : Message) → o.message ≡ m → IsTrueOf p t o.indices m
  true_of m is = let T : Message → Type 0 = λ n. IsTrueOf p t o.indices n in subst T is says.1

  data_leads : (sent : SentBeforeNext p t) (m : DataMessage) → o.message ≡ Data m → (at : Position) → t.next ≡ behind (Symbol at) → m.head.instance ≡ id
      → m.id.block ≡ at.block → o.indices ≡ at.index ∷ [] → Before p t.current r (first_index o.indices) m.id.block
  data_leads sent m is at next instance block indices = record {
    there = inl (in_order _ m.head.instance (first_index o.indices) instance (true_of (Data m) is).1);
    symbols = λ q e before. symbol_had q (sent.symbols q e (earlier q before)) (λ brings. not_own q before brings);
    infos = λ n e lt. info_had n (sent.infos n e (earlier_info n lt)) (λ brings. data_info m brings.message (sym is ∙ brings.is));
  }
    where
      first : first_index o.indices ≡ at.index
      first = ap first_index indices

      earlier : (q : Position) → IsBefore q (first_index o.indices) m.id.block → want_before (Symbol q) t.next ≡ true
      earlier q before = ap (want_before (Symbol q)) next ∙ (before_decides q (position at.index at.block (at.symbol + 1))).1 (lies before)
        where
          lies : IsBefore q (first_index o.indices) m.id.block → ComesBefore q (position at.index at.block (at.symbol + 1))
          lies (inl lt) = inl (inl (let f = first in omega (arith, lt, f)))
          lies (inr (same, lt)) = inl (inr ((let f = first in omega (arith, same, f)), omega (arith, lt, block)))

      earlier_info : (n : ℕ) → n < first_index o.indices → want_before (WantedInfo n) t.next ≡ true
      earlier_info n lt = ap (want_before (WantedInfo n)) next ∙ le_is n at.index (let f = first in omega (arith, lt, f))

      not_own : (q : Position) → IsBefore q (first_index o.indices) m.id.block → BringsSymbol p id q o → ⊥
      not_own q before brings = go before
        where
          same : m ≡ brings.message
          same = same_data m brings.message (sym is ∙ brings.is)

          its_block : m.id.block ≡ q.block
          its_block = ap (λ (n : DataMessage). n.id.block) same ∙ brings.block

          its_index : first_index o.indices ≡ q.index
          its_index = ap first_index brings.indices

          go : IsBefore q (first_index o.indices) m.id.block → ⊥
          go (inl lt) = let f = its_index in omega (arith, lt, f)
          go (inr (same, lt)) = let f = its_block in omega (arith, lt, f)

  info_leads : (sent : SentBeforeNext p t) (m : InfoMessage) → o.message ≡ Info m → (index : ℕ) → t.next ≡ behind (WantedInfo index) → m.head.instance ≡ id
      → o.indices ≡ index ∷ [] → Before p t.current r (first_index o.indices) 0
  info_leads sent m is index next instance indices = record {
    there = inl (in_order _ m.head.instance (first_index o.indices) instance (true_of (Info m) is).1);
    symbols = λ q e before. symbol_had q (sent.symbols q e (earlier q before)) (λ brings. data_info brings.message m (sym brings.is ∙ is));
    infos = λ n e lt. info_had n (sent.infos n e (earlier_info n lt)) (λ brings. not_own n lt brings);
  }
    where
      first : first_index o.indices ≡ index
      first = ap first_index indices

      earlier : (q : Position) → IsBefore q (first_index o.indices) 0 → want_before (Symbol q) t.next ≡ true
      earlier q before = ap (want_before (Symbol q)) next ∙ (before_decides q (position index 0 0)).1 (lies before)
        where
          lies : IsBefore q (first_index o.indices) 0 → ComesBefore q (position index 0 0)
          lies (inl lt) = inl (inl (let f = first in omega (arith, lt, f)))
          lies (inr (same, lt)) = absurd (omega (arith, lt))

      earlier_info : (n : ℕ) → n < first_index o.indices → want_before (WantedInfo n) t.next ≡ true
      earlier_info n lt = ap (want_before (WantedInfo n)) next ∙ le_is n index (let f = first in omega (arith, lt, f))

      not_own : (n : ℕ) → n < first_index o.indices → BringsInfo p id n o → ⊥
      not_own n lt brings = let f = ap first_index brings.indices in omega (arith, lt, f)

  -- Of what is new, each receiver has all before it.
  pub new_leads : SentBeforeNext p t → (w : Want) → t.next ≡ behind w → NamesWant id o.indices o.message w → Leads p t.current r o.indices o.message
  new_leads sent w next names = go o.message refl w next names
    where
      go : (m : Message) → o.message ≡ m → (w : Want) → t.next ≡ behind w → NamesWant id o.indices m w → Leads p t.current r o.indices m
      go (Data m) is (Symbol at) next (instance, block, indices) = (instance, data_leads sent m is at next instance block indices)
      go (Data m) is (WantedInfo index) next names = absurd names
      go (Info m) is (Symbol at) next names = absurd names
      go (Info m) is (WantedInfo index) next (instance, indices) = (instance, info_leads sent m is index next instance indices)
      go (Flush m) is w next names = absurd names
      go (Squelch m) is w next names = absurd names
      go (Eot m) is w next names = absurd names
      go (RepairAdv m) is w next names = absurd names
      go (AckReq m) is w next names = absurd names
      go (Opaque m) is w next names = absurd names
      go (Nack m) is w next names = absurd names
      go (Ack m) is w next names = absurd names
      go (Report m) is w next names = absurd names

  -- Before a flush each receiver has all.
  pub flush_leads : SourcesSent p t → IsFlushOf id o.message → Leads p t.current r o.indices o.message
  flush_leads sources flushes = go o.message refl flushes
    where
      flush : (m : FlushCommand) → o.message ≡ Flush m → m.head.instance ≡ id → Before p t.current r (first_index o.indices + 1) 0
      flush m is instance =
          let at : Position = position (first_index o.indices) m.id.block m.id.symbol in
          let source : is_source (shapes_of p (order_of t m.head.instance)) at ≡ true = (true_of (Flush m) is).1 in
          let same : order_of t m.head.instance ≡ order = ap (order_of t) instance ∙ current_order t ids in
          let there = entry_with p order (first_index o.indices) (λ (s : Shape). nat_lt at.symbol (closed_in s at.block))
          (ap (λ (xs : List Entry). is_source (shapes_of p xs) at) (sym same) ∙ source) in
          let lt = slice_get_within order (first_index o.indices) there.0 there.1 in
          record {
            there = inr (omega (arith, lt), refl);
            symbols = λ q e before. symbol_had q (sources.symbols q e) (λ brings. flush_data m brings.message (sym is ∙ brings.is));
            infos = λ n e less. info_had n (sources.infos n e) (λ brings. flush_info m brings.message (sym is ∙ brings.is));
          }

      go : (m : Message) → o.message ≡ m → IsFlushOf id m → Leads p t.current r o.indices m
      go (Flush m) is instance = (instance, flush m is instance)
      go (Data m) is none = absurd none
      go (Info m) is none = absurd none
      go (Squelch m) is none = absurd none
      go (Eot m) is none = absurd none
      go (RepairAdv m) is none = absurd none
      go (AckReq m) is none = absurd none
      go (Opaque m) is none = absurd none
      go (Nack m) is none = absurd none
      go (Ack m) is none = absurd none
      go (Report m) is none = absurd none
