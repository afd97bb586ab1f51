-- A tick of the sender while each datagram is passed on: what counted as sent before is had by each receiver, so that nothing is dropped
-- that was not handed up.
use Rattle.std.proofs.Common.{◌≡◌, ℕ, ◌+◌, ◌-◌, ◌*◌, ◌<◌, ◌≤◌, List, [], length, Bool, true, false, Option, None, Some, refl, sym, ap, ◌∙◌, subst, arith, ◌⊎◌, inl, inr}
use Rattle.std.specs.Prelude.{slice_get, ◌==◌, ◌||◌, nat_eq, nat_le, nat_lt, min}
use Rattle.std.specs.List.{AllByRecursion, IsDistinct}
use Rattle.std.proofs.lemmas.Bool.Decides.{Decides-eqb, Decides-ltb, leb_tells}
use Rattle.norm_base.specs.Settings.{Settings, InRange}
use Rattle.fec_plan.specs.Partition.{cut_of, symbols_in, blocks_in, block_size, symbols_before}
use Rattle.fec_plan.specs.Points.{Point, point, point_of, point_before, position, position_before, same_position}
use Rattle.fec_plan.specs.declared.position.Position.{Position}
use Rattle.fec_plan.proofs.CoverLemmas.{none_before}
use Rattle.fec_plan.proofs.PartitionLemmas.{some_sources}
use Rattle.fec_plan.proofs.PointLemmas.{point_before_is}
use Rattle.fec_plan.proofs.PositionLemmas.{positions_same, position_itself}
use Rattle.norm_ext.specs.InstanceIds.{rise}
use Rattle.norm_ext.specs.Message.{Message, Info, Data, Flush, Eot, Squelch, RepairAdv, AckReq, Opaque, Nack, Ack, Report}
use Rattle.norm_ext.specs.Written.{Written}
use Rattle.norm_order.specs.Entries.{Object, Whole, Stream, Entry}
use Rattle.norm_order.specs.Sets.{is_member, with_member}
use Rattle.norm_order.specs.Shapes.{shape_of, closed_in}
use Rattle.norm_order.proofs.SetLemmas.{others_in, numbers, positions}
use Rattle.norm_receive_rules.specs.FarLaws.{IsFar}
use Rattle.norm_receive_rules.specs.ReceiverState.{ReceiverState}
use Rattle.norm_send_rules.proofs.CutNames.{cut_range, is_sound}
use Rattle.norm_send_rules.specs.Restarting.{first_id, is_used, begun_anew}
use Rattle.norm_send_rules.specs.SenderState.{SenderState, Instance}
use Rattle.norm_safety.specs.Hands.{hands}
use Rattle.norm_safety.specs.History.{Happening}
use Rattle.norm_safety.specs.OnceEach.{instance_ids}
use Rattle.norm_safety.specs.Said.{first_index}
use Rattle.norm_safety.proofs.EntryLemmas.{clash}
use Rattle.norm_safety.proofs.Holding.{IsPlanOf}
use Rattle.norm_safety.proofs.Passed.{StandsIn, StandsAt}
use Rattle.norm_safety.proofs.ReceiverHolds.{there}
use Rattle.norm_safety.proofs.ReceiverMoves.{StandingIn}
use Rattle.norm_safety.proofs.SenderHolds.{SenderHolds, current_sized, current_within}
use Rattle.norm_safety.proofs.SizedOrders.{IsSized}
use Rattle.norm_safety.proofs.Spoken.{sized_at, current_order}
use Rattle.norm_safety.proofs.WorldHolds.{AtReceiver}
use Rattle.norm_laws.specs.HandedUp.{Passing, has_heard}
use Rattle.norm_laws.proofs.Everything.{EntryHad, finished_closed, not_finished}
use Rattle.norm_laws.proofs.GivenTicks.{Gives, Nothing, ASymbol, AnInfo, BringsSymbol, BringsInfo, SquelchesAt}
use Rattle.norm_laws.proofs.GoneSent.{GoneSent, block_there}
use Rattle.norm_laws.proofs.HeldWhole.{stream_goes}
use Rattle.norm_laws.proofs.HeldWords.{HasSymbol, HasInfo}
use Rattle.norm_laws.proofs.PassingWords.{Got, IsPast, IsBelow, Has, SparedBy}
use Rattle.norm_laws.proofs.SentRests.{Rests}

-- ---- all that was sent is had

-- all that counts as sent in the sender's instance a receiver has, which is there where anything was
pub record HasAll (s : SenderState) (r : ReceiverState) : Type 0 where
  pub symbols : (at : Position) → is_member position_before at s.sent ≡ true → (r.instance ≡ Some s.current.id) × HasSymbol r.holding at
  pub infos : (index : ℕ) → is_member nat_lt index s.sent_infos ≡ true → (r.instance ≡ Some s.current.id) × HasInfo r.holding index

pub all_passed : (p : Settings) (s : SenderState) (x : Passing) (node : ℕ) (r : ReceiverState) → has_heard x node ≡ true → Has p s x node r → HasAll s r
all_passed p s x node r heard h = record { symbols = λ at e. symbol at (h.symbols at e); infos = λ index e. info index (h.infos index e) }
  where
    symbol : (at : Position) → Got x node r s.current.id (λ g. HasSymbol g at) (BringsSymbol p s.current.id at) → (r.instance ≡ Some s.current.id) × HasSymbol r.holding at
    symbol at (inl has) = has
    symbol at (inr awaited) = absurd (clash (sym awaited.unheard ∙ heard))

    info : (index : ℕ) → Got x node r s.current.id (λ g. HasInfo g index) (BringsInfo p s.current.id index) → (r.instance ≡ Some s.current.id) × HasInfo r.holding index
    info index (inl has) = has
    info index (inr awaited) = absurd (clash (sym awaited.unheard ∙ heard))

-- ---- a sender between its ticks

-- A sender after its last tick, and later before its next: the same counts as sent, or a new instance began, of which nothing does.
pub data Sits (p : Settings) (s t : SenderState) : Type 0 where
  Same : Rests s t → Sits p s t
  Newer : rise p.instance s.current.id < rise p.instance t.current.id → t.sent ≡ [] → t.sent_infos ≡ [] → Sits p s t

pub sits_still : (p : Settings) (s t u : SenderState) → Rests t u → Sits p s t → Sits p s u
sits_still p s t u same (Same h) = Same (record { id = same.id ∙ h.id; sent = same.sent ∙ h.sent; infos = same.infos ∙ h.infos })
sits_still p s t u same (Newer lt sent infos) =
    let L : ℕ → Type 0 = λ id. rise p.instance s.current.id < rise p.instance id in Newer (subst L (sym same.id) lt) (same.sent ∙ sent) (same.infos ∙ infos)

-- an id that is not used lies higher
unused_higher : (s : SenderState) (id : ℕ) → is_used s id ≡ false → rise (first_id s) s.current.id < rise (first_id s) id
unused_higher s id e = go (leb_tells (rise (first_id s) id) (rise (first_id s) s.current.id))
  where
    first_false : (a b : Bool) → (a || b) ≡ false → a ≡ false
    first_false true b e = absurd (clash (sym e))
    first_false false b e = refl

    go : ((nat_le (rise (first_id s) id) (rise (first_id s) s.current.id) ≡ true) × (rise (first_id s) id ≤ rise (first_id s) s.current.id))
        ⊎ ((nat_le (rise (first_id s) id) (rise (first_id s) s.current.id) ≡ false) × (rise (first_id s) s.current.id < rise (first_id s) id))
        → rise (first_id s) s.current.id < rise (first_id s) id
    go (inl tells) = absurd (clash (sym (first_false (nat_le (rise (first_id s) id) (rise (first_id s) s.current.id)) _ e) ∙ tells.0))
    go (inr tells) = tells.1

pub sits_anew : (p : Settings) (s t : SenderState) (id : ℕ) → first_id t ≡ p.instance → is_used t id ≡ false → Sits p s t → Sits p s (begun_anew id t)
sits_anew p s t id first unused h = Newer (go h) refl refl
  where
    higher : rise p.instance t.current.id < rise p.instance id
    higher = let F : ℕ → Type 0 = λ f. rise f t.current.id < rise f id in subst F first (unused_higher t id unused)

    go : Sits p s t → rise p.instance s.current.id < rise p.instance id
    go (Same h) = let L : ℕ → Type 0 = λ i. rise p.instance i < rise p.instance id in subst L h.id higher
    go (Newer lt sent infos) = (let up = higher in omega (arith, lt, up))

-- the id lies no lower
pub sits_below : (p : Settings) (s t : SenderState) (instance : Option ℕ) → Sits p s t → IsBelow p instance s.current.id → IsBelow p instance t.current.id
sits_below p s t None h below = tt
sits_below p s t (Some current) (Same h) below = let L : ℕ → Type 0 = λ i. rise p.instance current ≤ rise p.instance i in subst L (sym h.id) below
sits_below p s t (Some current) (Newer lt sent infos) below = omega (arith, lt, below)

pub has_all_later : (p : Settings) (s t : SenderState) (r : ReceiverState) → Sits p s t → HasAll s r → HasAll t r
unfolding is_member
has_all_later p s t r (Same h) all = record {
  symbols = λ at e. (
      let has = all.symbols at (ap (is_member position_before at) (sym h.sent) ∙ e) in (has.0 ∙ ap (λ (n : ℕ). Some n) (sym h.id), has.1)
      );
  infos = λ index e. (
      let has = all.infos index (ap (is_member nat_lt index) (sym h.infos) ∙ e) in (has.0 ∙ ap (λ (n : ℕ). Some n) (sym h.id), has.1)
      );
}
has_all_later p s t r (Newer lt sent infos) all = record {
  symbols = λ at e. absurd (clash (sym (ap (is_member position_before at) sent) ∙ e));
  infos = λ index e. absurd (clash (sym (ap (is_member nat_lt index) infos) ∙ e));
}

-- ---- what was dropped was handed up

-- the first source symbol of an object of which one is closed
pub first_closed : (p : Settings) → InRange p → (object : Object) → IsSized p object → 0 < (shape_of p object).closed → 0 < closed_in (shape_of p object) 0
first_closed p range (Stream parts) sized some =
    let b_pos : 0 < p.b = (let least = range.b.0 in omega (arith, least)) in
    let c : ℕ = (shape_of p (Stream parts)).closed in
    let here : 0 < min p.b (c - (0 * p.b + 0)) = (let z : 0 * p.b + 0 ≡ 0 = omega arith in omega (arith, some, b_pos, z)) in
    here
first_closed p range (Whole kind info octets) sized some =
    let t : ℕ = symbols_in (length octets) p.e in
    let n : ℕ = blocks_in t p.b in
    let size : 1 ≤ block_size t n 0 = some_sources (cut_of (length octets) p.e p.b p.max_n) 0 (is_sound p (cut_range p range) (length octets) sized.0 sized.1) in
    let none = none_before t n in
    let pos : 0 < t = some in
    let here : 0 < min (block_size t n 0) (t - (symbols_before t n 0 + 0)) = omega (arith, none, size, pos) in
    here

module _ (p : Settings) (range : InRange p) (s : SenderState) (past : List Happening) (node : ℕ) (r : ReceiverState)
    (sender : SenderHolds p s) (ids : IsDistinct nat_eq (instance_ids s)) (gone : GoneSent p s.current.order s.current.drop s.sent s.sent_infos)
    (here : AtReceiver p s past node r) (all : HasAll s r) (far : IsFar p r.holding) where
  abbrev d : Point
  d = s.current.drop

  abbrev order : List Entry
  order = s.current.order

  -- an object before the drop point is had
  before_had : (index : ℕ) (x : Entry) → slice_get order index ≡ Some x → index < d.index → EntryHad p r.holding index x.object
  before_had index x found lt =
      let sent = gone.objects index x found lt in
      record {
        symbols = λ block symbol e. (
            let less : symbol < closed_in (shape_of p x.object) block = (Decides-ltb symbol (closed_in (shape_of p x.object) block)).0 e in
            let block_lt = block_there p range x.object block (omega (arith, less)) in
            (all.symbols (position index block symbol) (sent.symbols block symbol block_lt less)).1
            );
        info = λ e. (all.infos index (sent.info e)).1;
      }

  -- where anything was dropped the receiver is in the instance
  inside : (0 < d.index) ⊎ (0 < d.block) → r.instance ≡ Some s.current.id
  inside (inr some) = (all.symbols (position d.index 0 0) (gone.blocks 0 0 some (let least = range.b.0 in omega (arith, least)))).0
  inside (inl some) =
      let x = there order 0 (let le = sender.within in omega (arith, some, le)) in
      let sized = sized_at p order 0 x.0 (current_sized p s sender) x.1 in
      let done = (current_within p s sender).finished 0 x.0 x.1 some in
      let first = first_closed p range x.0.object sized (finished_closed p range x.0.object sized done) in
      let block = block_there p range x.0.object 0 first in
      (all.symbols (position 0 0 0) ((gone.objects 0 x.0 x.1 some).symbols 0 0 block first)).0

  -- what the receiver holds is of the order, and its hand-up point stands within it
  holds : r.instance ≡ Some s.current.id
      → AllByRecursion (IsPlanOf p order) r.holding.plans × StandsAt p (slice_get order r.holding.point.index) r.holding.point.block r.holding.point.symbol
  holds is =
      let S : Option ℕ → Type 0 = λ instance. StandingIn p s (hands past node) r instance in
      let H : List Entry → Type 0 = λ xs. AllByRecursion (IsPlanOf p xs) r.holding.plans × StandsAt p (slice_get xs r.holding.point.index) r.holding.point.block r.holding.point.symbol in
      let held = subst S is here.stands in
      subst H (current_order s ids) (held.plans, held.gone.stands)

  -- the hand-up point does not lie before the drop point
  not_behind : r.instance ≡ Some s.current.id → point_before (point_of r.holding.point) d ≡ true → ⊥
  not_behind is before = go (point_before_is (point_of r.holding.point) d before)
    where
      at : Position
      at = r.holding.point

      standing : (x : Entry) → slice_get order at.index ≡ Some x → StandsIn p x.object at.block at.symbol
      standing x found = let T : Option Entry → Type 0 = λ o. StandsAt p o at.block at.symbol in subst T found (holds is).1

      go : (at.index < d.index) ⊎ ((at.index ≡ d.index) × (at.block < d.block)) → ⊥
      go (inl lt) =
          let x = there order at.index (let le = sender.within in omega (arith, lt, le)) in
          not_finished p range order r.holding x.0 (holds is).0 x.1 (sized_at p order at.index x.0 (current_sized p s sender) x.1) (standing x.0 x.1)
          (before_had at.index x.0 x.1 lt) far.stuck ((current_within p s sender).finished at.index x.0 x.1 lt)
      go (inr (same, lt)) =
          let stream = gone.stream (omega (arith, lt)) in
          let found : slice_get order at.index ≡ Some stream.0 = ap (slice_get order) same ∙ stream.2 in
          let T : Object → Type 0 = λ o. StandsIn p o at.block at.symbol in
          let stands : StandsIn p (Stream stream.1) at.block at.symbol = subst T stream.3 (standing stream.0 found) in
          let H : ℕ → Type 0 = λ n. HasSymbol r.holding (position n at.block at.symbol) in
          let has : HasSymbol r.holding at = subst H (sym same) (all.symbols (position d.index at.block at.symbol) (gone.blocks at.block at.symbol lt stands.0)).1 in
          stream_goes p order r.holding stream.0 stream.1 (holds is).0 found stream.3 has far.stuck

  pub past_dropped : IsPast s.current.id s.current.drop r
  past_dropped = go (point_before (point 0 0) d) refl
    where
      some_gone : (0 < d.index) ⊎ ((0 ≡ d.index) × (0 < d.block)) → (0 < d.index) ⊎ (0 < d.block)
      some_gone (inl lt) = inl lt
      some_gone (inr (same, lt)) = inr lt

      behind : r.instance ≡ Some s.current.id → (b : Bool) → point_before (point_of r.holding.point) d ≡ b → point_before (point_of r.holding.point) d ≡ false
      behind is true e = absurd (not_behind is e)
      behind is false e = e

      go : (b : Bool) → point_before (point 0 0) d ≡ b → IsPast s.current.id s.current.drop r
      go false e = inl e
      go true e =
          let is = inside (some_gone (point_before_is (point 0 0) d e)) in
          inr (is, behind is (point_before (point_of r.holding.point) d) refl)

-- ---- a tick

-- the same instance, and what a tick gave is awaited
pub tick_has : (p : Settings) (s u t : SenderState) (sent : Option Written) (x : Passing) (node : ℕ) (r : ReceiverState) → Has p s x node r → Sits p s u → HasAll u r
    → IsPast u.current.id u.current.drop r → Gives p u t sent → Has p t (record { last = sent; heard = [] }) node r
unfolding is_member
tick_has p s u t sent x node r h sits all past gives = go gives
  where
    B : Instance → Type 0
    B i = IsBelow p r.instance i.id

    P : Instance → Type 0
    P i = IsPast i.id i.drop r

    with_current : (y : Passing) → t.current ≡ u.current
        → ((at : Position) → is_member position_before at t.sent ≡ true → Got y node r t.current.id (λ g. HasSymbol g at) (BringsSymbol p t.current.id at))
        → ((index : ℕ) → is_member nat_lt index t.sent_infos ≡ true → Got y node r t.current.id (λ g. HasInfo g index) (BringsInfo p t.current.id index)) → Has p t y node r
    with_current y current symbols infos = record {
      symbols = symbols;
      infos = infos;
      past = subst P (sym current) past;
      lost = h.lost;
      apart = h.apart;
      far = h.far;
      below = subst B (sym current) (sits_below p s u r.instance sits h.below);
    }

    still : t.current ≡ u.current → r.instance ≡ Some u.current.id → r.instance ≡ Some t.current.id
    still current is = is ∙ ap (λ (i : Instance). Some i.id) (sym current)

    symbol_had : (y : Passing) → t.current ≡ u.current → (at : Position) → is_member position_before at u.sent ≡ true
        → Got y node r t.current.id (λ g. HasSymbol g at) (BringsSymbol p t.current.id at)
    symbol_had y current at e = (let has = all.symbols at e in inl (still current has.0, has.1))

    info_had : (y : Passing) → t.current ≡ u.current → (index : ℕ) → is_member nat_lt index u.sent_infos ≡ true
        → Got y node r t.current.id (λ g. HasInfo g index) (BringsInfo p t.current.id index)
    info_had y current index e = (let has = all.infos index e in inl (still current has.0, has.1))

    go : {o : Option Written} → Gives p u t o → Has p t (record { last = o; heard = [] }) node r
    go (Nothing same says) = with_current _ same.current
        (λ at e. symbol_had _ same.current at (ap (is_member position_before at) (sym same.sent) ∙ e))
        (λ index e. info_had _ same.current index (ap (is_member nat_lt index) (sym same.infos) ∙ e))
    go (ASymbol {o = o} own current sent infos brings) = with_current _ current
        (λ at e. by at (same_position at own) refl (ap (is_member position_before at) (sym sent) ∙ e))
        (λ index e. info_had _ current index (ap (is_member nat_lt index) (sym infos) ∙ e))
      where
        by : (at : Position) (b : Bool) → same_position at own ≡ b → is_member position_before at (with_member position_before own u.sent) ≡ true
            → Got (record { last = Some o; heard = [] }) node r t.current.id (λ g. HasSymbol g at) (BringsSymbol p t.current.id at)
        by at true e f =
            let A : Position → Type 0 = λ q. BringsSymbol p u.current.id q o in
            let I : Instance → Type 0 = λ i. BringsSymbol p i.id at o in
            inr (record { datagram = o; last = refl; brings = subst I (sym current) (subst A (sym (positions_same at own e)) brings); unheard = refl })
        by at false e f = symbol_had _ current at (sym (others_in position_before at own u.sent positions (λ same.
            clash (sym e ∙ ap (λ (q : Position). same_position q own) same ∙ position_itself own))) ∙ f)
    go (AnInfo {o = o} own current sent infos brings) = with_current _ current
        (λ at e. symbol_had _ current at (ap (is_member position_before at) (sym sent) ∙ e))
        (λ index e. by index (index == own) refl (ap (is_member nat_lt index) (sym infos) ∙ e))
      where
        by : (index : ℕ) (b : Bool) → (index == own) ≡ b → is_member nat_lt index (with_member nat_lt own u.sent_infos) ≡ true
            → Got (record { last = Some o; heard = [] }) node r t.current.id (λ g. HasInfo g index) (BringsInfo p t.current.id index)
        by index true e f =
            let A : ℕ → Type 0 = λ n. BringsInfo p u.current.id n o in
            let I : Instance → Type 0 = λ i. BringsInfo p i.id index o in
            inr (record { datagram = o; last = refl; brings = subst I (sym current) (subst A (sym ((Decides-eqb index own).0 e)) brings); unheard = refl })
        by index false e f = info_had _ current index (sym (others_in nat_lt index own u.sent_infos numbers (λ same. clash (sym e ∙ (Decides-eqb index own).1 same))) ∙ f)

-- what a tick gives spares a receiver that is past what was dropped
pub tick_spares : (p : Settings) (u t : SenderState) (o : Written) (r : ReceiverState) → IsPast u.current.id u.current.drop r → Gives p u t (Some o) → SparedBy p r o.indices o.message
tick_spares p u t o r past (Nothing same says) = go o.message says
  where
    go : (m : Message) → SquelchesAt u.current.id u.current.drop o.indices m → SparedBy p r o.indices m
    go (Squelch m) (instance, block, indices) =
        let A : ℕ → Type 0 = λ id. IsPast id u.current.drop r in
        let same : u.current.drop ≡ point (first_index o.indices) m.id.block =
        ap (λ (n : ℕ). point u.current.drop.index n) (sym block) ∙ ap (λ (n : ℕ). point n m.id.block) (sym (ap first_index indices)) in
        let D : Point → Type 0 = λ d. IsPast m.head.instance d r in
        inl (subst D same (subst A (sym instance) past))
    go (Info m) says = tt
    go (Data m) says = tt
    go (Flush m) says = tt
    go (Eot m) says = tt
    go (RepairAdv m) says = tt
    go (AckReq m) says = tt
    go (Opaque m) says = tt
    go (Nack m) says = tt
    go (Ack m) says = tt
    go (Report m) says = tt
tick_spares p u t o r past (ASymbol own current sent infos brings) = let S : Message → Type 0 = λ m. SparedBy p r o.indices m in subst S (sym brings.is) tt
tick_spares p u t o r past (AnInfo own current sent infos brings) = let S : Message → Type 0 = λ m. SparedBy p r o.indices m in subst S (sym brings.is) tt
