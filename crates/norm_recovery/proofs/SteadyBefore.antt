-- A receiver that has all before what it saw: how that stays, and that it needs nothing then.
use Rattle.std.proofs.Common.{◌≡◌, ℕ, zero, suc, ◌+◌, ◌<◌, ◌≤◌, List, [], ◌∷◌, length, Bool, true, false, Option, None, Some, refl, sym, ap, ◌∙◌, subst, arith, ◌⊎◌, inl, inr}
use Rattle.std.specs.Prelude.{slice_get, nat_eq, nat_lt, IfSome, if◌then◌else◌}
use Rattle.std.specs.List.{AllByRecursion, IsDistinct}
use Rattle.std.proofs.lemmas.Bool.Decides.{Decides-ltb}
use Rattle.norm_base.specs.Settings.{Settings, InRange}
use Rattle.fec_plan.specs.Points.{Point, point_before, position_before, further, further_point}
use Rattle.fec_plan.specs.declared.position.Position.{Position}
use Rattle.fec_plan.proofs.PositionLemmas.{Before as ComesBefore, before_decides}
use Rattle.norm_order.specs.Entries.{Object, Whole, Stream, Entry}
use Rattle.norm_order.specs.Shapes.{Shape, shape_of, shapes_of, at_index, is_source, has_info, closed_in}
use Rattle.norm_receive_rules.specs.AllNeeds.{needs_from, needs_nothing}
use Rattle.norm_receive_rules.specs.Holding.{Holding, holding_nothing}
use Rattle.norm_receive_rules.specs.Lazy.{followed_by, lazily}
use Rattle.norm_receive_rules.specs.ReceiverState.{ReceiverState}
use Rattle.norm_receive_rules.specs.ReceiverStep.{ReceiverEvent, receiver_step}
use Rattle.norm_send_rules.specs.SenderState.{SenderState, Instance}
use Rattle.norm_safety.specs.Hands.{hands}
use Rattle.norm_safety.specs.History.{Happening}
use Rattle.norm_safety.specs.InOrder.{drop_of, is_stream_object}
use Rattle.norm_safety.specs.OnceEach.{order_of, instance_ids}
use Rattle.norm_safety.proofs.GoesOn.{ObjectLater, OrderLater, later_entry, later_long}
use Rattle.norm_safety.proofs.Holding.{HoldsOf}
use Rattle.norm_safety.proofs.Onward.{Onward}
use Rattle.norm_safety.proofs.Passed.{StandsIn, StandsAt}
use Rattle.norm_safety.proofs.ReceiverMoves.{StandingIn}
use Rattle.norm_safety.proofs.SenderHolds.{SenderHolds, order_later}
use Rattle.norm_safety.proofs.Spoken.{current_order, entry_with}
use Rattle.norm_safety.proofs.WorldHolds.{AtReceiver}
use Rattle.norm_laws.proofs.HeldStays.{symbol_stays, info_stays}
use Rattle.norm_laws.proofs.HeldWords.{HasSymbol, HasInfo}
use Rattle.norm_laws.proofs.WholeOrders.{IsWhole, AreWhole}
use Rattle.norm_recovery.specs.SteadyNeeds.{IsHad, HadBefore}
use Rattle.norm_recovery.proofs.SteadyNeeds.{entry_within, shape_at, needs_none}

-- ---- words

-- a position lies before a block of an object
abbrev pub IsBefore : Position → ℕ → ℕ → Type 0
IsBefore at index block = (at.index < index) ⊎ ((at.index ≡ index) × (at.block < block))

-- Of an instance's order a receiver that is in the instance has each source symbol before a block of an object, and each info of the objects before
-- that one. The object is there if the block is not its first.
pub record Before (p : Settings) (i : Instance) (r : ReceiverState) (index block : ℕ) : Type 0 where
  pub there : (index < length i.order) ⊎ ((index ≤ length i.order) × (block ≡ 0))
  pub symbols : (at : Position) → is_source (shapes_of p i.order) at ≡ true → IsBefore at index block → (r.instance ≡ Some i.id) × HasSymbol r.holding at
  pub infos : (n : ℕ) → has_info (shapes_of p i.order) n ≡ true → n < index → (r.instance ≡ Some i.id) × HasInfo r.holding n

-- the same of the farthest point and of the flush that it knows
abbrev pub FarHad : Settings → Instance → ReceiverState → Option Point → Type 0
FarHad p i r farthest = IfSome farthest (λ (at : Point). Before p i r at.index at.block)

abbrev pub FlushHad : Settings → Instance → ReceiverState → Option Position → Type 0
FlushHad p i r flush = IfSome flush (λ (at : Position). Before p i r (at.index + 1) 0)

-- so it is of what it saw
pub record SawHad (p : Settings) (i : Instance) (r : ReceiverState) : Type 0 where
  pub farthest : FarHad p i r r.knows.farthest
  pub flush : FlushHad p i r r.knows.flush

-- ---- as the order goes on

within_order : {index block : ℕ} (order : List Entry) → (index < length order) ⊎ ((index ≤ length order) × (block ≡ 0)) → index ≤ length order
within_order order (inl lt) = omega (arith, lt)
within_order order (inr (le, is)) = le

before_within : (at : Position) (order : List Entry) (index block : ℕ) → (index < length order) ⊎ ((index ≤ length order) × (block ≡ 0)) → IsBefore at index block
    → at.index < length order
before_within at order index block (inl lt) (inl less) = omega (arith, lt, less)
before_within at order index block (inl lt) (inr (same, less)) = omega (arith, lt, same)
before_within at order index block (inr (le, is)) (inl less) = omega (arith, le, less)
before_within at order index block (inr (le, is)) (inr (same, less)) = absurd (omega (arith, is, less))

pub whole_entry : (order : List Entry) (i : ℕ) (x : Entry) → AreWhole order → slice_get order i ≡ Some x → IsWhole x.object
whole_entry [] i x all e = absurd (none e)
  where
    none : None ≡ Some x → ⊥
    none e = cc
whole_entry (y ∷ order) zero x all e = subst (λ (z : Entry). IsWhole z.object) (same e) all.0
  where
    same : Some y ≡ Some x → y ≡ x
    same e = cc
whole_entry (y ∷ order) (suc i) x all e = whole_entry order i x all.1 e

-- a test of an entry of a later order is one of the entry that was there
test_before : (p : Settings) (order later : List Entry) (i : ℕ) (test : Shape → Bool) → AreWhole order → OrderLater order later → i < length order
    → at_index (shapes_of p later) i false test ≡ true → at_index (shapes_of p order) i false test ≡ true
test_before p order later i test whole on lt e =
    let was = entry_within order i lt in
    let now = later_entry order later i was.0 on was.1 in
    let own = entry_with p later i test e in
    let same : own.0 ≡ now.0 = one (sym own.1 ∙ now.1) in
    let object : now.0.object ≡ was.0.object = stays was.0.object now.0.object (whole_entry order i was.0 whole was.1) now.3 in
    shape_at p order i was.0 test was.1
    (ap (λ (o : Object). test (shape_of p o)) (sym object) ∙ ap (λ (x : Entry). test (shape_of p x.object)) (sym same) ∙ own.2)
  where
    one : {a b : Entry} → Some a ≡ Some b → a ≡ b
    one e = cc

    stays : (o later : Object) → IsWhole o → ObjectLater o later → later ≡ o
    stays (Whole kind info octets) later is on = on
    stays (Stream parts) later is on = absurd is

pub before_later : (p : Settings) (i j : Instance) (r : ReceiverState) (index block : ℕ) → AreWhole i.order → OrderLater i.order j.order → j.id ≡ i.id
    → Before p i r index block → Before p j r index block
before_later p i j r index block whole on same h = record {
  there = there h.there;
  symbols = λ at e before. (
      let has = h.symbols at (test_before p i.order j.order at.index (λ (s : Shape). nat_lt at.symbol (closed_in s at.block)) whole on
      (before_within at i.order index block h.there before) e) before in
      (has.0 ∙ ap (λ (n : ℕ). Some n) (sym same), has.1)
      );
  infos = λ n e lt. (
      let within = within_order i.order h.there in
      let has = h.infos n (test_before p i.order j.order n (λ (s : Shape). s.info) whole on (omega (arith, within, lt)) e) lt in
      (has.0 ∙ ap (λ (n : ℕ). Some n) (sym same), has.1)
      );
}
  where
    long : length i.order ≤ length j.order
    long = later_long i.order j.order on

    there : (index < length i.order) ⊎ ((index ≤ length i.order) × (block ≡ 0)) → (index < length j.order) ⊎ ((index ≤ length j.order) × (block ≡ 0))
    there (inl lt) = inl (let more = long in omega (arith, lt, more))
    there (inr (le, is)) = inr ((let more = long in omega (arith, le, more)), is)

far_later : (p : Settings) (i j : Instance) (r : ReceiverState) (farthest : Option Point) → AreWhole i.order → OrderLater i.order j.order → j.id ≡ i.id
    → FarHad p i r farthest → FarHad p j r farthest
far_later p i j r None whole on same h = tt
far_later p i j r (Some at) whole on same h = before_later p i j r at.index at.block whole on same h

flush_later : (p : Settings) (i j : Instance) (r : ReceiverState) (flush : Option Position) → AreWhole i.order → OrderLater i.order j.order → j.id ≡ i.id
    → FlushHad p i r flush → FlushHad p j r flush
flush_later p i j r None whole on same h = tt
flush_later p i j r (Some at) whole on same h = before_later p i j r (at.index + 1) 0 whole on same h

pub saw_later : (p : Settings) (i j : Instance) (r : ReceiverState) → AreWhole i.order → OrderLater i.order j.order → j.id ≡ i.id → SawHad p i r → SawHad p j r
saw_later p i j r whole on same h = record {
  farthest = far_later p i j r r.knows.farthest whole on same h.farthest;
  flush = flush_later p i j r r.knows.flush whole on same h.flush;
}

-- a sender's current order goes on in its instance
pub order_on : (s t : SenderState) → IsDistinct nat_eq (instance_ids s) → IsDistinct nat_eq (instance_ids t) → Onward s t → t.current.id ≡ s.current.id
    → OrderLater s.current.order t.current.order
order_on s t was now onward same =
    let L : List Entry → Type 0 = λ order. OrderLater order t.current.order in
    let M : List Entry → Type 0 = λ order. OrderLater (order_of s s.current.id) order in
    subst L (current_order s was)
    (subst M (ap (order_of t) (sym same) ∙ current_order t now) (order_later s t onward s.current.id).order)

-- ---- as the receiver moves

module _ (p : Settings) (i : Instance) (r : ReceiverState) (event : ReceiverEvent) where
  abbrev After : ReceiverState
  After = (receiver_step p r event).0

  pub before_moves : (index block : ℕ) → (r.instance ≡ Some i.id → After.instance ≡ Some i.id) → Before p i r index block → Before p i After index block
  before_moves index block still h = record {
    there = h.there;
    symbols = λ at e before. (
        let has = h.symbols at e before in let is = still has.0 in (is, symbol_stays p at i.id r event has.0 has.1 is)
        );
    infos = λ n e lt. (let has = h.infos n e lt in let is = still has.0 in (is, info_stays p n i.id r event has.0 has.1 is));
  }

  pub far_moves : (farthest : Option Point) → (r.instance ≡ Some i.id → After.instance ≡ Some i.id) → FarHad p i r farthest → FarHad p i After farthest
  far_moves None still h = tt
  far_moves (Some at) still h = before_moves at.index at.block still h

  pub flush_moves : (flush : Option Position) → (r.instance ≡ Some i.id → After.instance ≡ Some i.id) → FlushHad p i r flush → FlushHad p i After flush
  flush_moves None still h = tt
  flush_moves (Some at) still h = before_moves (at.index + 1) 0 still h

-- of the farther of two points
pub further_had : (p : Settings) (i : Instance) (r : ReceiverState) (at : Point) (farthest : Option Point) → Before p i r at.index at.block → FarHad p i r farthest
    → FarHad p i r (further_point at farthest)
further_had p i r at None own h = own
further_had p i r at (Some other) own h = go (point_before other at)
  where
    go : (b : Bool) → FarHad p i r (if b then Some at else Some other)
    go true = own
    go false = h

pub flush_had : (p : Settings) (i : Instance) (r : ReceiverState) (at : Position) (flush : Option Position) → Before p i r (at.index + 1) 0 → FlushHad p i r flush
    → FlushHad p i r (further at flush)
flush_had p i r at None own h = own
flush_had p i r at (Some other) own h = go (position_before other at)
  where
    go : (b : Bool) → FlushHad p i r (if b then Some at else Some other)
    go true = own
    go false = h

-- ---- nothing is needed

module _ (p : Settings) (range : InRange p) (s : SenderState) (past : List Happening) (node : ℕ) (r : ReceiverState) (sender : SenderHolds p s)
    (ids : IsDistinct nat_eq (instance_ids s)) (whole : AreWhole s.current.order) (here : AtReceiver p s past node r) (inside : r.instance ≡ Some s.current.id) where
  holds : HoldsOf p s.current.order (drop_of s s.current.id) (hands past node s.current.id) r.knows.due r.holding
  holds =
      let S : Option ℕ → Type 0 = λ instance. StandingIn p s (hands past node) r instance in
      let H : List Entry → Type 0 = λ order. HoldsOf p order (drop_of s s.current.id) (hands past node s.current.id) r.knows.due r.holding in
      subst H (current_order s ids) (subst S inside here.stands)

  -- the hand-up point lies at the beginning of an object
  point_first : (r.holding.point.block ≡ 0) × (r.holding.point.symbol ≡ 0)
  point_first = go (slice_get s.current.order r.holding.point.index) refl holds.gone.stands
    where
      first : (o : Object) → IsWhole o → StandsIn p o r.holding.point.block r.holding.point.symbol → (r.holding.point.block ≡ 0) × (r.holding.point.symbol ≡ 0)
      first (Whole kind info octets) is stands = stands
      first (Stream parts) is stands = absurd is

      go : (found : Option Entry) → slice_get s.current.order r.holding.point.index ≡ found → StandsAt p found r.holding.point.block r.holding.point.symbol
          → (r.holding.point.block ≡ 0) × (r.holding.point.symbol ≡ 0)
      go None e stands = stands
      go (Some x) e stands = first x.object (whole_entry s.current.order r.holding.point.index x whole e) stands

  had : (at : Position) → HasSymbol r.holding at → IsHad r.holding at
  had at (inr known) = inr known
  had at (inl before) = inl (over ((before_decides at r.holding.point).0 before))
    where
      over : ComesBefore at r.holding.point → nat_lt at.index r.holding.point.index ≡ true
      over (inl (inl lt)) = (Decides-ltb at.index r.holding.point.index).1 lt
      over (inl (inr (same, lt))) = absurd (let first = point_first.0 in omega (arith, lt, first))
      over (inr (same, lt)) = absurd (let first = point_first.1 in omega (arith, lt, first))

  had_before : (index block : ℕ) → Before p s.current r index block → HadBefore p s.current.order r.holding index block
  had_before index block h = record {
    there = within_order s.current.order h.there;
    symbols = λ at e before. had at (h.symbols at e before).1;
    infos = λ n e lt. (h.infos n e lt).1;
  }

  far_had : (farthest : Option Point) → FarHad p s.current r farthest → IfSome farthest (λ (at : Point). HadBefore p s.current.order r.holding at.index at.block)
  far_had None h = tt
  far_had (Some at) h = had_before at.index at.block h

  near_had : (flush : Option Position) → FlushHad p s.current r flush → IfSome flush (λ (at : Position). HadBefore p s.current.order r.holding (at.index + 1) 0)
  near_had None h = tt
  near_had (Some at) h = had_before (at.index + 1) 0 h

  none_streams : (order : List Entry) → AreWhole order → AllByRecursion (λ (x : Entry). is_stream_object x.object ≡ false) order
  none_streams [] all = tt
  none_streams (x ∷ order) all = (one x.object all.0, none_streams order all.1)
    where
      one : (o : Object) → IsWhole o → is_stream_object o ≡ false
      one (Whole kind info octets) is = refl
      one (Stream parts) is = absurd is

  -- A receiver of the sender's instance that has all before what it saw needs nothing.
  pub saw_needs_none : SawHad p s.current r → needs_nothing p r ≡ true
  saw_needs_none h =
      needs_none p range s past node r sender ids (none_streams s.current.order whole) here inside
      (record { farthest = far_had r.knows.farthest h.farthest; flush = near_had r.knows.flush h.flush })

-- one that is in no instance, and saw nothing, needs nothing
pub none_needed : (p : Settings) (r : ReceiverState) → r.holding ≡ holding_nothing → r.knows.farthest ≡ None → r.knows.flush ≡ None → needs_nothing p r ≡ true
unfolding needs_from followed_by lazily
none_needed p r holding farthest flush =
    go r.holding r.knows.farthest r.knows.flush holding farthest flush
  where
    go : (h : Holding) (f : Option Point) (q : Option Position) → h ≡ holding_nothing → f ≡ None → q ≡ None
        → needs_nothing p (record r { holding = h; knows = record (r.knows) { farthest = f; flush = q } }) ≡ true
    go h f q a b c =
        let H : Holding → Type 0 = λ h. needs_nothing p (record r { holding = h; knows = record (r.knows) { farthest = f; flush = q } }) ≡ true in
        let F : Option Point → Type 0 = λ f. needs_nothing p (record r { holding = holding_nothing; knows = record (r.knows) { farthest = f; flush = q } }) ≡ true in
        let Q : Option Position → Type 0 = λ q. needs_nothing p (record r { holding = holding_nothing; knows = record (r.knows) { farthest = None; flush = q } }) ≡ true in
        subst H (sym a) (subst F (sym b) (subst Q (sym c) refl))
