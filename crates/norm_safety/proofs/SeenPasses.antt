-- What a receiver saw of its instance's order: a stream's greatest block that was seen has a closed segment, or is the first one; the
-- greatest flush position is a source symbol; and what it knows has no index above the order's length. So it stays along a run.
use Rattle.std.proofs.Common.{◌≡◌, ℕ, ◌*◌, ◌<◌, ◌≤◌, cond, List, [], ◌∷◌, ◌++◌, length, Bool, true, false, Option, None, Some, Result, Ok, Err, refl, sym, ap, ◌∙◌, subst, arith, ◌⊎◌, inl, inr}
use Rattle.std.specs.Prelude.{map, flat_map, find, max, not, slice_get, nat_lt, nat_le, ◌==◌, ◌&&◌, option_and_then, unwrap_or, IfSome, IsSomeAnd, IsTrue, if◌then◌else◌, ⊤}
use Rattle.std.specs.List.{AllByRecursion}
use Rattle.std.proofs.lemmas.Bool.Decides.{Decides-eqb}
use Rattle.std.proofs.lemmas.List.{length-append}
use Rattle.std.proofs.lemmas.Option.{slice_get_within}
use Rattle.norm_base.specs.Settings.{Settings, InRange}
use Rattle.norm_base.specs.Members.{receivers_of}
use Rattle.norm_base.specs.declared.node.Origin.{Origin}
use Rattle.fec_plan.specs.Points.{Point, point, position, point_of, point_before, position_before, further, further_point}
use Rattle.fec_plan.specs.declared.position.Position.{Position}
use Rattle.fec_plan.proofs.PointLemmas.{behind_point}
use Rattle.norm_ext.specs.Extensions.{Extension, fti_of}
use Rattle.norm_ext.specs.declared.fti.Fti.{Fti}
use Rattle.norm_ext.specs.Message.{Message, Info, Data, Flush, Eot, Squelch, RepairAdv, AckReq, Opaque, Nack, Ack, Report, InfoMessage, DataMessage, FlushCommand, SquelchCommand}
use Rattle.norm_ext.specs.ObjectIds.{object_id}
use Rattle.norm_ext.specs.Reading.{decoded}
use Rattle.norm_ext.specs.Requests.{Request}
use Rattle.norm_ext.specs.Written.{Written, writes}
use Rattle.norm_ext.specs.declared.refusal.Refusal.{Refusal}
use Rattle.norm_order.specs.Entries.{Object, Whole, Stream, Entry}
use Rattle.norm_order.specs.Segments.{closed_from}
use Rattle.norm_order.specs.Shapes.{shape_of, shapes_of, closed_in, encoded_in, is_source}
use Rattle.norm_order.specs.declared.up.Up.{Up}
use Rattle.norm_receive_rules.specs.AllNeeds.{needs, needs_nothing}
use Rattle.norm_receive_rules.specs.BackingOff.{may_back_off, backs_off, may_need}
use Rattle.norm_receive_rules.specs.Fitting.{fit_of, fitted, lets_put, plan_before}
use Rattle.norm_receive_rules.specs.HandingUp.{handed_up}
use Rattle.norm_receive_rules.specs.Holding.{Holding, Plan, new_plan}
use Rattle.norm_receive_rules.specs.Leaving.{is_in, goes_to, enters, entered}
use Rattle.norm_receive_rules.specs.Nack.{indices_of, fitting, nack_message, ack_message}
use Rattle.norm_receive_rules.specs.Needs.{Need}
use Rattle.norm_receive_rules.specs.Overhearing.{overheard, adv_overheard}
use Rattle.norm_receive_rules.specs.Plans.{says_stream}
use Rattle.norm_receive_rules.specs.Putting.{put_of, put_symbol, with_symbol, put_info_of, put_info, with_info}
use Rattle.norm_receive_rules.specs.ReceiverState.{ReceiverState, Knowledge, receiver_opening}
use Rattle.norm_receive_rules.specs.ReceiverStep as receiver
use Rattle.norm_receive_rules.specs.Receiving.{object_held, info_received, data_received, flush_received, squelch_received, takes_in, in_instance, message_received, received}
use Rattle.norm_receive_rules.specs.Seeing.{plan_seen, sees_block, sees}
use Rattle.norm_receive_rules.specs.Ticking.{sends, holds_off, are_heard, asks, asks_where_needed, ends_back_off, ticked as receiver_ticked}
use Rattle.norm_receive_rules.specs.declared.words.Fit.{Fit}
use Rattle.norm_receive_rules.specs.declared.words.Fit.TheVariants as fit
use Rattle.norm_receive_rules.specs.declared.words.Put.{Put}
use Rattle.norm_receive_rules.specs.declared.words.Put.TheVariants as put
use Rattle.norm_receive_rules.proofs.BesideLemmas.{handing_up, losing}
use Rattle.norm_send_rules.specs.Commanding.{commanded}
use Rattle.norm_send_rules.specs.Hearing.{heard}
use Rattle.norm_send_rules.specs.SenderState.{SenderState, Instance}
use Rattle.norm_send_rules.specs.SenderStep as sender
use Rattle.norm_send_rules.specs.Telling.{told}
use Rattle.norm_send_rules.specs.Ticking.{ticked as sender_ticked}
use Rattle.norm_send_rules.proofs.CutNames.{CutRange, cut_range}
use Rattle.norm_safety.specs.Events.{Event, Commanded, Delivered, Ticked, Offered, UpTaken, NewsAsked}
use Rattle.norm_safety.specs.History.{Happening}
use Rattle.norm_safety.specs.Jobs.{IsEvent}
use Rattle.norm_safety.specs.Lawful.{sender_knows, receiver_knows, are_near, MayCome}
use Rattle.norm_safety.specs.InOrder.{drop_of}
use Rattle.norm_safety.specs.OnceEach.{order_of}
use Rattle.norm_safety.specs.Said.{about}
use Rattle.norm_safety.specs.SaysPositions.{flushes_source}
use Rattle.norm_safety.specs.SaysSymbols.{SaysSymbol, SaysInfo}
use Rattle.norm_safety.specs.World.{World, world_opening, receiver_at, with_receiver, with_given, is_of, offers}
use Rattle.norm_safety.specs.WorldStep.{world_step, moved, node_move, receiver_move}
use Rattle.norm_safety.proofs.ClosedLemmas.{split_at}
use Rattle.norm_safety.proofs.CommandSteps.{same_instances}
use Rattle.norm_safety.proofs.EntryLemmas.{clash}
use Rattle.norm_safety.proofs.Feedback.{SaysNothing}
use Rattle.norm_safety.proofs.GoesOn.{ObjectLater, OrderLater, closed_later, later_entry, later_long, source_later}
use Rattle.norm_safety.proofs.Holding.{all_with, some_and}
use Rattle.norm_safety.proofs.ListRun.{given_leaves}
use Rattle.norm_safety.proofs.Onward.{Onward}
use Rattle.norm_safety.proofs.OrderRun.{moved_node_is, taken_by}
use Rattle.norm_safety.proofs.ReceiverMoves.{knowing, known_in, near_named, in_instance_is, received_moves, tick_same as tick_held}
use Rattle.norm_safety.proofs.SenderHolds.{OrdersHold, orders_hold, order_later, point_in, some_octets, command_steps}
use Rattle.norm_safety.proofs.SenderKeeps.{Keeps, heard_keeps, ticked_keeps, told_keeps}
use Rattle.norm_safety.proofs.Spoken.{IsTrueOf, SaysTrue, SquelchesDropped, entry_with}
use Rattle.norm_safety.proofs.SymbolLater.{is_encoded_of}
use Rattle.norm_safety.proofs.WorldHolds.{WorldHolds, all_contains, all_later}
use Rattle.norm_safety.proofs.WorldLemmas.{world_laws}
use Rattle.norm_safety.proofs.WorldMoves.{at_node, put_in, found_put, found_other}

-- ---- what was seen

-- a block of a stream is the first one, or has a closed segment
abbrev pub IsSeen : Settings → Object → ℕ → Type 0
IsSeen p (Whole kind info octets) seen = ⊤
IsSeen p (Stream parts) seen = (seen ≡ 0) ⊎ (seen * p.b < length (closed_from p.e [] parts))

-- so it is of a plan
abbrev pub PlanSeen : Settings → List Entry → Plan → Type 0
PlanSeen p order plan = IsSomeAnd (slice_get order plan.index) (λ (x : Entry). IsSeen p x.object plan.seen)

-- a flush position, where one is known, is a source symbol
abbrev pub FlushSeen : Settings → List Entry → Option Position → Type 0
FlushSeen p order flush = IfSome flush (λ at. is_source (shapes_of p order) at ≡ true)

-- The greatest index that is known is one of the order, or the one after its last, which a squelch may name; an object can have it; and
-- what was seen or flushed has no greater one.
pub record KnowsOf (order : List Entry) (k : Knowledge) : Type 0 where
  pub within : k.known ≤ length order
  pub most : k.known ≤ 4294967294
  pub farthest : IfSome k.farthest (λ at. at.index ≤ k.known)
  pub flush : IfSome k.flush (λ at. at.index ≤ k.known)

-- what is known of an order
pub record SeenIn (p : Settings) (order : List Entry) (r : ReceiverState) : Type 0 where
  pub plans : AllByRecursion (PlanSeen p order) r.holding.plans
  pub flush : FlushSeen p order r.knows.flush
  pub knows : KnowsOf order r.knows

-- by the instance that a receiver is in; in none it does not back off
abbrev pub SeenBy : Settings → SenderState → ReceiverState → Option ℕ → Type 0
SeenBy p s r None = r.knows.backoff ≡ None
SeenBy p s r (Some id) = SeenIn p (order_of s id) r

-- what a receiver knows of the order of the instance that it is in
abbrev pub Seen : Settings → SenderState → ReceiverState → Type 0
Seen p s r = SeenBy p s r r.instance

-- ---- later

seen_object : (p : Settings) (o later : Object) (seen : ℕ) → 0 < p.e → ObjectLater o later → IsSeen p o seen → IsSeen p later seen
seen_object p (Whole kind info octets) later seen some is h = let S : Object → Type 0 = λ o. IsSeen p o seen in subst S (sym is) h
seen_object p (Stream parts) later seen some (more, is, none) h =
    let S : Object → Type 0 = λ o. IsSeen p o seen in subst S (sym is) (go h)
  where
    go : (seen ≡ 0) ⊎ (seen * p.b < length (closed_from p.e [] parts)) → (seen ≡ 0) ⊎ (seen * p.b < length (closed_from p.e [] (parts ++ more)))
    go (inl e) = inl e
    go (inr lt) =
        let grows = closed_later p.e parts more some none in
        let long = ap (λ (xs : List (List ℕ)). length xs) grows.1 in
        let sum = length-append (closed_from p.e [] parts) grows.0 in
        inr (omega (arith, long, sum, lt))

plan_later : (p : Settings) (order later : List Entry) (plan : Plan) → 0 < p.e → OrderLater order later → PlanSeen p order plan → PlanSeen p later plan
plan_later p order later plan some goes h =
    let found = some_and (λ (x : Entry). IsSeen p x.object plan.seen) (slice_get order plan.index) h in
    let next = later_entry order later plan.index found.0 goes found.1 in
    let S : Option Entry → Type 0 = λ o. IsSomeAnd o (λ (x : Entry). IsSeen p x.object plan.seen) in
    subst S (sym next.1) (seen_object p found.0.object next.0.object plan.seen some next.3 found.2)

flush_later : (p : Settings) (order later : List Entry) (flush : Option Position) → 0 < p.e → OrderLater order later → FlushSeen p order flush → FlushSeen p later flush
flush_later p order later None some goes h = h
flush_later p order later (Some at) some goes h = source_later p order later at some goes h

in_later : (p : Settings) (order later : List Entry) (r : ReceiverState) → 0 < p.e → OrderLater order later → SeenIn p order r → SeenIn p later r
in_later p order later r some goes h = record {
  plans = all_later (PlanSeen p order) (PlanSeen p later) r.holding.plans (λ plan seen. plan_later p order later plan some goes seen) h.plans;
  flush = flush_later p order later r.knows.flush some goes h.flush;
  knows = (
      let le = h.knows.within in
      let long = later_long order later goes in
      record { within = omega (arith, le, long); most = h.knows.most; farthest = h.knows.farthest; flush = h.knows.flush }
      );
}

pub seen_later : (p : Settings) → InRange p → (s t : SenderState) (r : ReceiverState) → Onward s t → Seen p s r → Seen p t r
seen_later p range s t r onward h = go r.instance h
  where
    go : (instance : Option ℕ) → SeenBy p s r instance → SeenBy p t r instance
    go None h = h
    go (Some id) h = in_later p (order_of s id) (order_of t id) r (some_octets p range) (order_later s t onward id).order h

-- ---- what a message brings

-- the same is known: the greatest index, the farthest point and the flush position
pub record SameKnown (k l : Knowledge) : Type 0 where
  pub known : l.known ≡ k.known
  pub farthest : l.farthest ≡ k.farthest
  pub flush : l.flush ≡ k.flush

known_itself : (k : Knowledge) → SameKnown k k
known_itself k = record { known = refl; farthest = refl; flush = refl }

-- by its parts
abbrev FarUpTo : ℕ → Option Point → Type 0
FarUpTo n far = IfSome far (λ at. at.index ≤ n)

abbrev FlushUpTo : ℕ → Option Position → Type 0
FlushUpTo n flush = IfSome flush (λ at. at.index ≤ n)

knows_same : (order : List Entry) (k l : Knowledge) → SameKnown k l → KnowsOf order k → KnowsOf order l
knows_same order k l same h =
    let W : ℕ → Type 0 = λ n. n ≤ length order in
    let M : ℕ → Type 0 = λ n. n ≤ 4294967294 in
    let A : Option Point → Type 0 = λ far. FarUpTo k.known far in
    let B : Option Position → Type 0 = λ flush. FlushUpTo k.known flush in
    let C : ℕ → Type 0 = λ n. FarUpTo n l.farthest in
    let D : ℕ → Type 0 = λ n. FlushUpTo n l.flush in
    record {
      within = subst W (sym same.known) h.within;
      most = subst M (sym same.known) h.most;
      farthest = subst C (sym same.known) (subst A (sym same.farthest) h.farthest);
      flush = subst D (sym same.known) (subst B (sym same.flush) h.flush);
    }

-- what is kept of plans and of what is known
same_in : (p : Settings) (order : List Entry) (r t : ReceiverState) → t.holding.plans ≡ r.holding.plans → SameKnown r.knows t.knows → SeenIn p order r → SeenIn p order t
same_in p order r t plans known h =
    let P : List Plan → Type 0 = λ xs. AllByRecursion (PlanSeen p order) xs in
    let F : Option Position → Type 0 = λ o. FlushSeen p order o in
    record { plans = subst P (sym plans) h.plans; flush = subst F (sym known.flush) h.flush; knows = knows_same order r.knows t.knows known h.knows }

-- an index of the order is known, and no less than before
far_up : (far : Option Point) (m n : ℕ) → m ≤ n → FarUpTo m far → FarUpTo n far
far_up None m n le h = tt
far_up (Some at) m n le h = let is : at.index ≤ m = h in omega (arith, le, is)

flush_up : (flush : Option Position) (m n : ℕ) → m ≤ n → FlushUpTo m flush → FlushUpTo n flush
flush_up None m n le h = tt
flush_up (Some at) m n le h = let is : at.index ≤ m = h in omega (arith, le, is)

knowing_seen : (p : Settings) (order : List Entry) (index : ℕ) (r : ReceiverState) → index ≤ length order → index ≤ 4294967294 → SeenIn p order r → SeenIn p order (knowing index r)
knowing_seen p order index r within most h =
    let le = h.knows.within in
    let few = h.knows.most in
    let more : r.knows.known ≤ max r.knows.known index = omega arith in
    record {
      plans = h.plans;
      flush = h.flush;
      knows = record {
        within = omega (arith, le, within);
        most = omega (arith, few, most);
        farthest = far_up r.knows.farthest r.knows.known (max r.knows.known index) more h.knows.farthest;
        flush = flush_up r.knows.flush r.knows.known (max r.knows.known index) more h.knows.flush;
      };
    }

-- a point is seen whose index is known
far_seen : (n : ℕ) (at : Point) (far : Option Point) → at.index ≤ n → FarUpTo n far → FarUpTo n (further_point at far)
far_seen n at None le h = le
far_seen n at (Some other) le h = go (point_before other at)
  where
    go : (b : Bool) → FarUpTo n (if b then Some at else Some other)
    go true = le
    go false = h

sees_of : (order : List Entry) (at : Point) (k : Knowledge) → at.index ≤ k.known → KnowsOf order k → KnowsOf order (sees at k)
sees_of order at k le h = record { within = h.within; most = h.most; farthest = far_seen k.known at k.farthest le h.farthest; flush = h.flush }

-- of two blocks that are seen the greater is
greater_seen : (p : Settings) (o : Object) (a b : ℕ) → IsSeen p o a → IsSeen p o b → IsSeen p o (max a b)
greater_seen p o a b h g = go (split_at b a)
  where
    S : ℕ → Type 0
    S n = IsSeen p o n

    go : (a < b) ⊎ (b ≤ a) → IsSeen p o (max a b)
    go (inl lt) = subst S (let z : b ≡ max a b = omega (arith, lt) in z) g
    go (inr le) = subst S (let z : a ≡ max a b = omega (arith, le) in z) h

-- a block of an entry is seen
block_seen : (p : Settings) (order : List Entry) (at : Point) (x : Entry) (plan : Plan) → slice_get order at.index ≡ Some x → IsSeen p x.object at.block
    → PlanSeen p order plan → PlanSeen p order (plan_seen at plan)
block_seen p order at x plan found seen h = go (plan.index == at.index) refl (says_stream plan.flags)
  where
    one : (a b : Entry) → Some a ≡ Some b → a ≡ b
    one a b e = cc

    here : plan.index ≡ at.index → IsSomeAnd (slice_get order plan.index) (λ (y : Entry). IsSeen p y.object (max plan.seen at.block))
    here same =
        let is : slice_get order plan.index ≡ Some x = ap (slice_get order) same ∙ found in
        let own = some_and (λ (y : Entry). IsSeen p y.object plan.seen) (slice_get order plan.index) h in
        let S : Option Entry → Type 0 = λ o. IsSomeAnd o (λ (y : Entry). IsSeen p y.object (max plan.seen at.block)) in
        let Y : Entry → Type 0 = λ y. IsSeen p y.object plan.seen in
        subst S (sym is) (greater_seen p x.object plan.seen at.block (subst Y (one own.0 x (sym own.1 ∙ is)) own.2) seen)

    go : (a : Bool) → (plan.index == at.index) ≡ a → (b : Bool) → PlanSeen p order (elim (a && b) [ true ↦ record plan { seen = max plan.seen at.block } | false ↦ plan ])
    go true e true = here ((Decides-eqb plan.index at.index).0 e)
    go true e false = h
    go false e b = h

blocks_seen : (p : Settings) (order : List Entry) (at : Point) (x : Entry) (plans : List Plan) → slice_get order at.index ≡ Some x → IsSeen p x.object at.block
    → AllByRecursion (PlanSeen p order) plans → AllByRecursion (PlanSeen p order) (map (plan_seen at) plans)
blocks_seen p order at x [] found seen all = tt
blocks_seen p order at x (plan ∷ plans) found seen all = (block_seen p order at x plan found seen all.0, blocks_seen p order at x plans found seen all.1)

-- a plan begins with the first block
first_seen : (p : Settings) (o : Object) → IsSeen p o 0
first_seen p (Whole kind info octets) = tt
first_seen p (Stream parts) = inl refl

fitted_seen : (p : Settings) (order : List Entry) (word : Fit) (index : ℕ) (f : Fti) (flags : ℕ) (h : Holding) (x : Entry) → slice_get order index ≡ Some x
    → AllByRecursion (PlanSeen p order) h.plans → AllByRecursion (PlanSeen p order) (fitted word index f flags h).plans
fitted_seen p order fit.Known index f flags h x found all = all
fitted_seen p order fit.Away index f flags h x found all = all
fitted_seen p order fit.Unfit index f flags h x found all = all
fitted_seen p order fit.Taken index f flags h x found all =
    let S : Option Entry → Type 0 = λ o. IsSomeAnd o (λ (y : Entry). IsSeen p y.object 0) in
    all_with (PlanSeen p order) plan_before (new_plan index f flags) h.plans (subst S (sym found) (first_seen p x.object)) all

object_seen : (p : Settings) (order : List Entry) (at : Position) (extensions : List Extension) (flags : ℕ) (x : Entry) (brings : Holding → Holding) (h : Holding)
    → slice_get order at.index ≡ Some x → IsSeen p x.object at.block → ((s : Holding) → (brings s).plans ≡ s.plans)
    → AllByRecursion (PlanSeen p order) h.plans → AllByRecursion (PlanSeen p order) (object_held p at extensions flags brings h).plans
object_seen p order at extensions flags x brings h found seen same all = go (fti_of extensions)
  where
    A : List Plan → Type 0
    A plans = AllByRecursion (PlanSeen p order) plans

    up : (s : Holding) → A s.plans → A (handed_up p (brings s)).plans
    up s k = subst A (sym ((handing_up p (brings s)).holds.plans ∙ same s)) k

    left : Fti → Bool → Holding
    left f b = (
        let s' = sees_block (point_of at) (fitted (fit_of p h at.index f flags) at.index f flags h) in
        elim b [ true ↦ handed_up p (brings s') | false ↦ s' ]
        )

    after : (f : Fti) → A (sees_block (point_of at) (fitted (fit_of p h at.index f flags) at.index f flags h)).plans
    after f = blocks_seen p order (point_of at) x _ found seen (fitted_seen p order (fit_of p h at.index f flags) at.index f flags h x found all)

    fits : (f : Fti) (b : Bool) → A (left f b).plans
    fits f true = up _ (after f)
    fits f false = after f

    go : (o : Option Fti) → AllByRecursion (PlanSeen p order) (elim o as (λ _. Holding) [
      | Some f ↦ (
          let word = fit_of p h at.index f flags in
          let s' = sees_block (point_of at) (fitted word at.index f flags h) in
          elim (lets_put word) [ true ↦ handed_up p (brings s') | false ↦ s' ]
          )
      | None ↦ handed_up p (brings (sees_block (point_of at) h))
    ]).plans
    go None = up (sees_block (point_of at) h) (blocks_seen p order (point_of at) x h.plans found seen all)
    go (Some f) = fits f (lets_put (fit_of p h at.index f flags))

put_plans : (p : Settings) (at : Position) (payload : List ℕ) (s : Holding) → (put_symbol p at payload s).plans ≡ s.plans
put_plans p at payload s = go (put_of p s at payload)
  where
    go : (word : Put) → (with_symbol word at payload s).plans ≡ s.plans
    go put.Had = refl
    go put.Away = refl
    go put.Unfit = refl
    go put.Kept = refl

info_plans : (p : Settings) (index : ℕ) (info : List ℕ) (s : Holding) → (put_info p index info s).plans ≡ s.plans
info_plans p index info s = go (put_info_of p s index info)
  where
    go : (word : Put) → (with_info word index info s).plans ≡ s.plans
    go put.Had = refl
    go put.Away = refl
    go put.Unfit = refl
    go put.Kept = refl

-- an encoded symbol's block is seen
encoded_seen : (p : Settings) → CutRange p → (o : Object) (block symbol : ℕ) → nat_lt symbol (encoded_in (shape_of p o) block) ≡ true → IsSeen p o block
encoded_seen p range (Whole kind info octets) block symbol e = tt
encoded_seen p range (Stream parts) block symbol e = go (split_at p.b symbol)
  where
    go : (symbol < p.b) ⊎ (p.b ≤ symbol) → (block ≡ 0) ⊎ (block * p.b < length (closed_from p.e [] parts))
    go (inl lt) = let at = (is_encoded_of p range parts block symbol e).source lt in inr (omega (arith, at))
    go (inr le) = let all = (is_encoded_of p range parts block symbol e).full le in let some = range.least_b in inr (omega (arith, all, some))

data_seen : (p : Settings) → InRange p → (order : List Entry) (m : DataMessage) (index : ℕ) (r : ReceiverState)
    → IsSomeAnd (slice_get order index) (λ (x : Entry). nat_lt m.id.symbol (encoded_in (shape_of p x.object) m.id.block) ≡ true)
    → index ≤ r.knows.known → SeenIn p order r → SeenIn p order (data_received p m index r)
data_seen p range order m index r says known h =
    let at : Position = position index m.id.block m.id.symbol in
    let entry = some_and (λ (x : Entry). nat_lt m.id.symbol (encoded_in (shape_of p x.object) m.id.block) ≡ true) (slice_get order index) says in
    record {
      plans = object_seen p order at m.extensions m.head.flags entry.0 (put_symbol p at m.payload) r.holding entry.1
          (encoded_seen p (cut_range p range) entry.0.object m.id.block m.id.symbol entry.2) (put_plans p at m.payload) h.plans;
      flush = h.flush;
      knows = sees_of order (point_of at) r.knows known h.knows;
    }

info_seen : (p : Settings) (order : List Entry) (m : InfoMessage) (index : ℕ) (r : ReceiverState) (x : Entry) → slice_get order index ≡ Some x
    → index ≤ r.knows.known → SeenIn p order r → SeenIn p order (info_received p m index r)
info_seen p order m index r x found known h = record {
  plans = object_seen p order (position index 0 0) m.extensions m.head.flags x (put_info p index m.info) r.holding found (first_seen p x.object) (info_plans p index m.info) h.plans;
  flush = h.flush;
  knows = sees_of order (point_of (position index 0 0)) r.knows known h.knows;
}

flush_seen : (p : Settings) (order : List Entry) (m : FlushCommand) (index : ℕ) (r : ReceiverState)
    → is_source (shapes_of p order) (position index m.id.block m.id.symbol) ≡ true → index ≤ r.knows.known → SeenIn p order r → SeenIn p order (flush_received m index r)
flush_seen p order m index r source known h = record {
  plans = h.plans;
  flush = go r.knows.flush h.flush;
  knows = record { within = h.knows.within; most = h.knows.most; farthest = h.knows.farthest; flush = known_too r.knows.flush h.knows.flush };
}
  where
    at : Position
    at = position index m.id.block m.id.symbol

    go : (flush : Option Position) → FlushSeen p order flush → FlushSeen p order (further at flush)
    go None was = source
    go (Some other) was = by_order (position_before other at)
      where
        by_order : (b : Bool) → FlushSeen p order (if b then Some at else Some other)
        by_order true = source
        by_order false = was

    known_too : (flush : Option Position) → FlushUpTo r.knows.known flush → FlushUpTo r.knows.known (further at flush)
    known_too None was = known
    known_too (Some other) was = by_order (position_before other at)
      where
        by_order : (b : Bool) → FlushUpTo r.knows.known (if b then Some at else Some other)
        by_order true = known
        by_order false = was

need_seen : (p : Settings) (order : List Entry) (now draw : ℕ) (r : ReceiverState) → SeenIn p order r → SeenIn p order (may_need p now draw r)
need_seen p order now draw r h = go (may_back_off now r.knows) (needs_nothing p r)
  where
    go : (b c : Bool) → SeenIn p order (elim b [ true ↦ elim c [ true ↦ r | false ↦ record r { knows = backs_off p now draw r.knows } ] | false ↦ r ])
    go true true = h
    go true false = record { plans = h.plans; flush = h.flush; knows = knows_same order r.knows (backs_off p now draw r.knows) (record { known = refl; farthest = refl; flush = refl }) h.knows }
    go false c = h

need_instance : (p : Settings) (now draw : ℕ) (r : ReceiverState) → (may_need p now draw r).instance ≡ r.instance
need_instance p now draw r = go (may_back_off now r.knows) (needs_nothing p r)
  where
    left : Bool → Bool → ReceiverState
    left b c = elim b [ true ↦ elim c [ true ↦ r | false ↦ record r { knows = backs_off p now draw r.knows } ] | false ↦ r ]

    go : (b c : Bool) → (left b c).instance ≡ r.instance
    go true true = refl
    go true false = refl
    go false c = refl

-- a message of the sender, in the instance that a receiver is in or goes on to
instance_seen : (p : Settings) (s : SenderState) (now draw source id object index : ℕ) (brings : ℕ → ReceiverState → ReceiverState) (r : ReceiverState)
    → object ≡ object_id p index → index ≤ 4294967294 → index ≤ length (order_of s id) → are_near (known_in (entered r id)) (index ∷ []) ≡ true
    → ((t : ReceiverState) → (brings index t).instance ≡ t.instance)
    → ((t : ReceiverState) → index ≤ t.knows.known → SeenIn p (order_of s id) t → SeenIn p (order_of s id) (brings index t)) → Seen p s r
    → Seen p s (in_instance p now draw source id object brings r)
instance_seen p s now draw source id object index brings r named most within near same kept h =
    go (source == p.sender) (is_in r id) (goes_to r id) refl near
  where
    after : ReceiverState → ReceiverState
    after t = may_need p now draw (brings index (knowing index t))

    after_seen : (t : ReceiverState) → t.instance ≡ Some id → SeenIn p (order_of s id) t → Seen p s (may_need p now draw (brings index (knowing index t)))
    after_seen t is k =
        let inner : (may_need p now draw (brings index (knowing index t))).instance ≡ Some id =
        need_instance p now draw (brings index (knowing index t)) ∙ same (knowing index t) ∙ is in
        let S : Option ℕ → Type 0 = λ instance. SeenBy p s (may_need p now draw (brings index (knowing index t))) instance in
        let known : index ≤ max t.knows.known index = omega arith in
        subst S (sym inner) (need_seen p (order_of s id) now draw (brings index (knowing index t))
        (kept (knowing index t) known (knowing_seen p (order_of s id) index t within most k)))

    in_state : (t : ReceiverState) → are_near (Some t.knows.known) (index ∷ []) ≡ true → Seen p s (may_need p now draw (brings index (knowing index t)))
        → Seen p s (unwrap_or (takes_in p now draw object brings t) r)
    in_state t close k =
        let M : Option ℕ → Type 0 = λ found. Seen p s (unwrap_or (elim found [
          | Some i ↦ Some (may_need p now draw (brings i (knowing i t)))
          | None ↦ None
        ]) r) in
        subst M (sym (near_named p t.knows.known object index named most close)) k

    go : (own inside above : Bool) → is_in r id ≡ inside
        → are_near (known_in (elim inside [ true ↦ Some r | false ↦ elim above [ true ↦ Some (enters id r) | false ↦ None ] ])) (index ∷ []) ≡ true
        → Seen p s (elim own [
          | true ↦ unwrap_or (option_and_then (takes_in p now draw object brings)
              (elim inside [ true ↦ Some r | false ↦ elim above [ true ↦ Some (enters id r) | false ↦ None ] ])) r
          | false ↦ r
        ])
    go false inside above e close = h
    go true true above e close =
        let is = in_instance_is r id e in
        let S : Option ℕ → Type 0 = λ instance. SeenBy p s r instance in
        in_state r close (after_seen r is (subst S is h))
    go true false false e close = h
    go true false true e close = in_state (enters id r) close (after_seen (enters id r) refl (record {
      plans = tt;
      flush = tt;
      knows = record { within = omega arith; most = omega arith; farthest = tt; flush = tt };
    }))

where_seen : (p : Settings) (s : SenderState) (b : Bool) (r t : ReceiverState) → Seen p s r → Seen p s t → Seen p s (elim b [ true ↦ t | false ↦ r ])
where_seen p s true r t h k = k
where_seen p s false r t h k = h

over_seen : (p : Settings) (s : SenderState) (requests : List Request) (r : ReceiverState) → Seen p s r → Seen p s (overheard p requests r)
over_seen p s requests r h = go r.knows.backoff refl _ (record { known = refl; farthest = refl; flush = refl }) r.instance h
  where
    some_none : (ends : ℕ) → Some ends ≡ None → ⊥
    some_none ends e = cc

    go : (backoff : Option ℕ) → r.knows.backoff ≡ backoff → (k : Knowledge) → SameKnown r.knows k → (instance : Option ℕ) → SeenBy p s r instance
        → SeenBy p s (record r { knows = elim backoff [ Some ends ↦ k | None ↦ r.knows ] }) instance
    go (Some ends) is k e None h = absurd (some_none ends (sym is ∙ h))
    go None is k e None h = h
    go (Some ends) is k e (Some id) h = same_in p (order_of s id) r (record r { knows = k }) refl e h
    go None is k e (Some id) h = record { plans = h.plans; flush = h.flush; knows = h.knows }

quiet_seen : (p : Settings) (s : SenderState) (r : ReceiverState) (now draw : ℕ) (said : Result Message Refusal) → SaysNothing said → Seen p s r
    → Seen p s (message_received p now draw said r)
quiet_seen p s r now draw (Ok (Info m)) says h = absurd says
quiet_seen p s r now draw (Ok (Data m)) says h = absurd says
quiet_seen p s r now draw (Ok (Flush m)) says h = absurd says
quiet_seen p s r now draw (Ok (Squelch m)) says h = absurd says
quiet_seen p s r now draw (Ok (RepairAdv m)) says h =
    where_seen p s (m.head.source == p.sender) r (adv_overheard p m r) h (where_seen p s (is_in r m.head.instance) r (overheard p m.requests r) h (over_seen p s m.requests r h))
quiet_seen p s r now draw (Ok (Nack m)) says h =
    where_seen p s (not (m.source == r.node) && m.sender == p.sender && is_in r m.instance) r (overheard p m.requests r) h (over_seen p s m.requests r h)
quiet_seen p s r now draw (Ok (Eot m)) says h = h
quiet_seen p s r now draw (Ok (AckReq m)) says h = h
quiet_seen p s r now draw (Ok (Opaque m)) says h = h
quiet_seen p s r now draw (Ok (Ack m)) says h = h
quiet_seen p s r now draw (Ok (Report m)) says h = h
quiet_seen p s r now draw (Err refusal) says h = h

-- a squelch names no index after the one behind the order's last
squelch_within : (p : Settings) (s : SenderState) (m : SquelchCommand) (index : ℕ) → OrdersHold p s → SquelchesDropped s (about (index ∷ []) m)
    → index ≤ length (order_of s m.head.instance)
squelch_within p s m index orders (i, found, before, of) =
    let is : (drop_of s m.head.instance).index ≡ i.drop.index = ap (λ (found : Option Instance). (point_in found).index) found in
    let le = below (behind_point i.drop (point index m.id.block) before) in
    let within = (orders.within m.head.instance).within in
    omega (arith, is, le, within)
  where
    below : (index < i.drop.index) ⊎ ((index ≡ i.drop.index) × (m.id.block ≤ i.drop.block)) → index ≤ i.drop.index
    below (inl lt) = omega (arith, lt)
    below (inr same) = (let e = same.0 in omega (arith, e))

message_seen : (p : Settings) → InRange p → (s : SenderState) (r : ReceiverState) (indices : List ℕ) (now draw : ℕ) (m : Message) → OrdersHold p s
    → IsTrueOf p s indices m → are_near (receiver_knows r m) indices ≡ true → Seen p s r → Seen p s (message_received {E = Refusal} p now draw (Ok m) r)
message_seen p range s r indices now draw m orders = go m
  where
    near_of : (known : Option ℕ) (index : ℕ) → indices ≡ index ∷ [] → are_near known indices ≡ true → are_near known (index ∷ []) ≡ true
    near_of known index alone near = ap (are_near known) (sym alone) ∙ near

    go : (m : Message) → IsTrueOf p s indices m → are_near (receiver_knows r m) indices ≡ true → Seen p s r
        → Seen p s (message_received {E = Refusal} p now draw (Ok m) r)
    go (Info m) (speaks, says) near h =
        let S : List ℕ → Type 0 = λ xs. SaysInfo p s (about xs m) in
        let is = subst S speaks.alone says in
        let entry = some_and _ (slice_get (order_of s m.head.instance) speaks.index) is in
        let lt = slice_get_within (order_of s m.head.instance) speaks.index entry.0 entry.1 in
        instance_seen p s now draw m.head.source m.head.instance m.head.object speaks.index (info_received p m) r speaks.named speaks.most
        (omega (arith, lt)) (near_of (known_in (entered r m.head.instance)) speaks.index speaks.alone near) (λ t. refl)
        (λ t known k. info_seen p (order_of s m.head.instance) m speaks.index t entry.0 entry.1 known k) h
    go (Data m) (speaks, says) near h =
        let S : List ℕ → Type 0 = λ xs. SaysSymbol p s (about xs m) in
        let is = subst S speaks.alone says in
        let entry = some_and _ (slice_get (order_of s m.head.instance) speaks.index) is in
        let E : Option Entry → Type 0 = λ o. IsSomeAnd o (λ (x : Entry). nat_lt m.id.symbol (encoded_in (shape_of p x.object) m.id.block) ≡ true) in
        let lt = slice_get_within (order_of s m.head.instance) speaks.index entry.0 entry.1 in
        instance_seen p s now draw m.head.source m.head.instance m.head.object speaks.index (data_received p m) r speaks.named speaks.most
        (omega (arith, lt)) (near_of (known_in (entered r m.head.instance)) speaks.index speaks.alone near) (λ t. refl)
        (λ t known k. data_seen p range (order_of s m.head.instance) m speaks.index t (subst E (sym entry.1) entry.2.0) known k) h
    go (Flush m) (speaks, says) near h =
        let S : List ℕ → Type 0 = λ xs. IsTrue (flushes_source p s (about xs m)) in
        let source = subst S speaks.alone says in
        let found = entry_with p (order_of s m.head.instance) speaks.index (λ x. nat_lt m.id.symbol (closed_in x m.id.block)) source in
        let lt = slice_get_within (order_of s m.head.instance) speaks.index found.0 found.1 in
        instance_seen p s now draw m.head.source m.head.instance m.object speaks.index (flush_received m) r speaks.named speaks.most
        (omega (arith, lt)) (near_of (known_in (entered r m.head.instance)) speaks.index speaks.alone near) (λ t. refl)
        (λ t known k. flush_seen p (order_of s m.head.instance) m speaks.index t source known k) h
    go (Squelch m) (speaks, says) near h =
        let S : List ℕ → Type 0 = λ xs. SquelchesDropped s (about xs m) in
        instance_seen p s now draw m.head.source m.head.instance m.object speaks.index (squelch_received p m) r speaks.named speaks.most
        (squelch_within p s m speaks.index orders (subst S speaks.alone says))
        (near_of (known_in (entered r m.head.instance)) speaks.index speaks.alone near) (λ t. refl)
        (λ t known k. same_in p (order_of s m.head.instance) t (squelch_received p m speaks.index t) (losing p (point speaks.index m.id.block) t.holding).holds.plans
        (known_itself t.knows) k) h
    go (RepairAdv m) says near h = quiet_seen p s r now draw (Ok (RepairAdv m)) tt h
    go (Nack m) says near h = quiet_seen p s r now draw (Ok (Nack m)) tt h
    go (Eot m) says near h = h
    go (AckReq m) says near h = h
    go (Opaque m) says near h = h
    go (Ack m) says near h = h
    go (Report m) says near h = h

pub received_seen : (p : Settings) → InRange p → (s : SenderState) (r : ReceiverState) (o : Written) (bytes : List ℕ) (now draw : ℕ) → OrdersHold p s → SaysTrue p s o
    → o.octets ≡ bytes → are_near (receiver_knows r o.message) o.indices ≡ true → Seen p s r → Seen p s (received p r bytes now draw)
received_seen p range s r o bytes now draw orders says same near h =
    let B : List ℕ → Type 0 = λ octets. Seen p s (received p r octets now draw) in subst B same (go says.0)
  where
    M : Result Message Refusal → Type 0
    M said = Seen p s (message_received p now draw said r)

    go : (decoded o.octets ≡ Ok o.message) ⊎ SaysNothing (decoded o.octets) → Seen p s (message_received p now draw (decoded o.octets) r)
    go (inl read) = subst M (sym read) (message_seen p range s r o.indices now draw o.message orders says.1 near h)
    go (inr quiet) = quiet_seen p s r now draw (decoded o.octets) quiet h

-- ---- a tick

-- what leaves plans, what is known and the instance, and begins no back-off
record SameSeen (r t : ReceiverState) : Type 0 where
  idle : r.knows.backoff ≡ None → t.knows.backoff ≡ None
  instance : t.instance ≡ r.instance
  plans : t.holding.plans ≡ r.holding.plans
  known : SameKnown r.knows t.knows

seen_same : (p : Settings) (s : SenderState) (r t : ReceiverState) → SameSeen r t → Seen p s r → Seen p s t
seen_same p s r t same h =
    let S : Option ℕ → Type 0 = λ instance. SeenBy p s t instance in subst S (sym same.instance) (go r.instance h)
  where
    go : (instance : Option ℕ) → SeenBy p s r instance → SeenBy p s t instance
    go None h = same.idle h
    go (Some id) h = same_in p (order_of s id) r t same.plans same.known h

itself_same : (r : ReceiverState) → SameSeen r r
itself_same r = record { idle = λ e. e; instance = refl; plans = refl; known = known_itself r.knows }

-- what is known after a step that leaves it
known_on : (k l m : Knowledge) → m.known ≡ l.known → m.farthest ≡ l.farthest → m.flush ≡ l.flush → SameKnown k l → SameKnown k m
known_on k l m known farthest flush h = record { known = known ∙ h.known; farthest = farthest ∙ h.farthest; flush = flush ∙ h.flush }

abbrev state_of : ReceiverState × Option Written → ReceiverState
state_of step = step.0

tick_same : (p : Settings) (r : ReceiverState) (now : ℕ) → SameSeen r (receiver_ticked p r now).0
tick_same p r now = due r.knows.due
  where
    asked : (wanted : List Need) (t : ReceiverState) → SameSeen r t → (all : Bool) → SameSeen r (state_of (elim all [
      | true ↦ (record t { knows = holds_off p now t.knows }, None)
      | false ↦ sends (writes (nack_message p t wanted) (flat_map indices_of wanted)) (record t { knows = holds_off p now t.knows })
    ]))
    asked wanted t h true = record {
      idle = h.idle;
      instance = h.instance;
      plans = h.plans;
      known = known_on r.knows t.knows (holds_off p now t.knows) refl refl refl h.known;
    }
    asked wanted t h false = record {
      idle = h.idle;
      instance = h.instance;
      plans = h.plans;
      known = known_on r.knows t.knows (holds_off p now t.knows) refl refl refl h.known;
    }

    needed : (t : ReceiverState) → SameSeen r t → (none : Bool) → SameSeen r (state_of (elim none [
      | true ↦ (t, None)
      | false ↦ asks p now (fitting p (needs p t) None p.e) t
    ]))
    needed t h true = h
    needed t h false = asked (fitting p (needs p t) None p.e) t h (are_heard t (fitting p (needs p t) None p.e))

    ended : (t : ReceiverState) → SameSeen r t → (reached : Bool) → SameSeen r (state_of (elim reached [ true ↦ asks_where_needed p now t | false ↦ (r, None) ]))
    ended t h true = needed t h (needs_nothing p t)
    ended t h false = itself_same r

    backed : (backoff : Option ℕ) → SameSeen r (state_of (elim backoff [
      | Some ends ↦ elim (nat_le ends now) [ true ↦ asks_where_needed p now (record r { knows = record (r.knows) { backoff = None } }) | false ↦ (r, None) ]
      | None ↦ (r, None)
    ]))
    backed None = itself_same r
    backed (Some ends) = ended (record r { knows = record (r.knows) { backoff = None } })
        (record { idle = λ e. refl; instance = refl; plans = refl; known = record { known = refl; farthest = refl; flush = refl } }) (nat_le ends now)

    due : (at : Option Position) → SameSeen r (state_of (elim at [
      | Some at ↦ sends (writes (ack_message p r at) (at.index ∷ [])) (record r { knows = record (r.knows) { due = None } })
      | None ↦ ends_back_off p now r
    ]))
    due None = backed r.knows.backoff
    due (Some at) = record { idle = λ e. e; instance = refl; plans = refl; known = record { known = refl; farthest = refl; flush = refl } }

-- ---- a world

-- what holds at a node, where it has a receiver
abbrev pub SeenAt : Settings → SenderState → Option ReceiverState → Type 0
SeenAt p s None = ⊤
SeenAt p s (Some r) = Seen p s r

-- each receiver saw what is of its instance's order
abbrev pub SeenWorld : Settings → World → Type 0
SeenWorld p w = (node : ℕ) → SeenAt p w.sender (receiver_at w node)

at_later : (p : Settings) → InRange p → (s t : SenderState) (found : Option ReceiverState) → Onward s t → SeenAt p s found → SeenAt p t found
at_later p range s t None onward h = h
at_later p range s t (Some r) onward h = seen_later p range s t r onward h

-- a world whose sender goes on, and whose receivers stay
world_on : (p : Settings) → InRange p → (w v : World) → v.receivers ≡ w.receivers → Onward w.sender v.sender → SeenWorld p w → SeenWorld p v
world_on p range w v same onward h node =
    let H : List ReceiverState → Type 0 = λ rs. SeenAt p v.sender (at_node rs node) in
    subst H (sym same) (at_later p range w.sender v.sender (receiver_at w node) onward (h node))

-- orders that are equal
abbrev found_order : List Instance → ℕ → List Entry
found_order all id = elim (find (λ (i : Instance). i.id == id) all) [ Some i ↦ i.order | None ↦ [] ]

keeps_seen : (p : Settings) (s t : SenderState) (found : Option ReceiverState) → Keeps s t → SeenAt p s found → SeenAt p t found
keeps_seen p s t None keeps h = h
keeps_seen p s t (Some r) keeps h = go r.instance h
  where
    go : (instance : Option ℕ) → SeenBy p s r instance → SeenBy p t r instance
    go None h = h
    go (Some id) h =
        let S : List Entry → Type 0 = λ order. SeenIn p order r in
        subst S (ap (λ (all : List Instance). found_order all id) (sym (same_instances s t keeps))) h

world_keeps : (p : Settings) (w v : World) → v.receivers ≡ w.receivers → Keeps w.sender v.sender → SeenWorld p w → SeenWorld p v
world_keeps p w v same keeps h node =
    let H : List ReceiverState → Type 0 = λ rs. SeenAt p v.sender (at_node rs node) in
    subst H (sym same) (keeps_seen p w.sender v.sender (receiver_at w node) keeps (h node))

-- a receiver that moved
world_put : (p : Settings) (w v : World) (node : ℕ) (r t : ReceiverState) → receiver_at w node ≡ Some r → t.node ≡ r.node → v.sender ≡ w.sender
    → v.receivers ≡ (with_receiver t w).receivers → Seen p w.sender t → SeenWorld p w → SeenWorld p v
world_put p w v node r t found same sender receivers now h other =
    let S : SenderState → Type 0 = λ s. SeenAt p s (receiver_at v other) in subst S (sym sender) (go (t.node == other) refl)
  where
    here : r.node ≡ node
    here = world_laws.found w node r found

    at_v : receiver_at v other ≡ at_node (map (put_in t) w.receivers) other
    at_v = ap (λ (rs : List ReceiverState). at_node rs other) receivers

    go : (b : Bool) → (t.node == other) ≡ b → SeenAt p w.sender (receiver_at v other)
    go true e =
        let t_is : t.node ≡ other = (Decides-eqb t.node other).0 e in
        let there : at_node w.receivers t.node ≡ Some r = ap (at_node w.receivers) (same ∙ here) ∙ found in
        let at : receiver_at v other ≡ Some t = at_v ∙ ap (at_node (map (put_in t) w.receivers)) (sym t_is) ∙ found_put t r w.receivers there in
        let H : Option ReceiverState → Type 0 = λ o. SeenAt p w.sender o in subst H (sym at) now
    go false e =
        let not_t : t.node ≡ other → ⊥ = λ is. clash (sym e ∙ (Decides-eqb t.node other).1 is) in
        let at : receiver_at v other ≡ receiver_at w other = at_v ∙ found_other t w.receivers other not_t in
        let H : Option ReceiverState → Type 0 = λ o. SeenAt p w.sender o in subst H (sym at) (h other)

given_receivers : (node : ℕ) (sent : Option Written) (w : World) → (with_given node sent w).receivers ≡ w.receivers
given_receivers node None w = refl
given_receivers node (Some datagram) w = refl

at_found : (p : Settings) (w : World) (node : ℕ) (r : ReceiverState) → receiver_at w node ≡ Some r → SeenWorld p w → Seen p w.sender r
at_found p w node r e h = let H : Option ReceiverState → Type 0 = λ found. SeenAt p w.sender found in subst H e (h node)

pub event_seen : (p : Settings) → InRange p → (past : List Happening) (accepted : List Origin) (w : World) (e : Event) → MayCome p w accepted e → IsEvent e
    → WorldHolds p past accepted w → SeenWorld p w → SeenWorld p (world_step p w e).0
event_seen p range past accepted w (Commanded by job now) may is holds h =
    world_on p range w (record w { sender = (commanded p w.sender by job).0 }) refl (command_steps p range w.sender by job now is holds.sender).onward h
event_seen p range past accepted w (Delivered node octets now draw) may is holds h = go (node == p.sender) (receiver_at w node) refl may.near
  where
    says : SaysTrue p w.sender may.datagram
    says = all_contains (λ (o : ℕ × Written). SaysTrue p w.sender o.1) w.offered (may.from, may.datagram) holds.offered may.offered

    go : (own : Bool) (found : Option ReceiverState) → receiver_at w node ≡ found
        → are_near (elim own [ true ↦ sender_knows w.sender may.datagram.message | false ↦ option_and_then (λ r. receiver_knows r may.datagram.message) found ]) may.datagram.indices ≡ true
        → SeenWorld p (moved p w (node_move own found (sender.Delivered octets now) (receiver.Delivered octets now draw))).0
    go true found e close = world_keeps p w (record w { sender = heard p w.sender octets now }) refl (heard_keeps p w.sender octets now) h
    go false None e close = h
    go false (Some r) e close =
        let t : ReceiverState = received p r octets now draw in
        world_put p w (with_receiver t w) node r t e
        (moved_node_is p w.sender r t (received_moves p range w.sender r may.datagram octets now draw (orders_hold p w.sender holds.sender) says may.same close)) refl refl
        (received_seen p range w.sender r may.datagram octets now draw (orders_hold p w.sender holds.sender) says may.same close (at_found p w node r e h)) h
event_seen p range past accepted w (Ticked node now) may is holds h = go (node == p.sender) (receiver_at w node) refl
  where
    go : (own : Bool) (found : Option ReceiverState) → receiver_at w node ≡ found
        → SeenWorld p (moved p w (node_move own found (sender.Ticked now) (receiver.Ticked now))).0
    go true found e =
        let t : SenderState = (sender_ticked p w.sender now).0 in
        let sent : Option Written = (sender_ticked p w.sender now).1 in
        let v : World = record w { sender = t } in
        let K : SenderState → Type 0 = λ s. Keeps w.sender s in
        world_keeps p w (with_given p.sender sent v) (given_receivers p.sender sent v) (subst K (sym (given_leaves p.sender sent v).0) (ticked_keeps p w.sender now)) h
    go false None e = h
    go false (Some r) e =
        let t : ReceiverState = (receiver_ticked p r now).0 in
        let sent : Option Written = (receiver_ticked p r now).1 in
        let v : World = with_receiver t w in
        world_put p w (with_given r.node sent v) node r t e (tick_held p r now).node (given_leaves r.node sent v).0 (given_receivers r.node sent v)
        (seen_same p w.sender r t (tick_same p r now) (at_found p w node r e h)) h
event_seen p range past accepted w (Offered node octets) may is holds h = go (find (is_of node octets) w.given)
  where
    go : (found : Option (ℕ × Written)) → SeenWorld p (offers found node w)
    go None = h
    go (Some o) = h
event_seen p range past accepted w (UpTaken node) may is holds h = go (receiver_at w node) refl
  where
    ups : (r : ReceiverState) → receiver_at w node ≡ Some r → (waiting : List Up)
        → SeenWorld p (taken_by w r (elim waiting [ up ∷ more ↦ (record (r.holding) { ups = more }, Some up) | [] ↦ (r.holding, None) ])).0
    ups r e [] = world_put p w (with_receiver r w) node r r e refl refl refl (at_found p w node r e h) h
    ups r e (up ∷ more) =
        let t : ReceiverState = record r { holding = record (r.holding) { ups = more } } in
        world_put p w (with_receiver t w) node r t e refl refl refl (seen_same p w.sender r t (record { idle = λ e. e; instance = refl; plans = refl; known = known_itself r.knows }) (at_found p w node r e h)) h

    go : (found : Option ReceiverState) → receiver_at w node ≡ found → SeenWorld p (moved p w (receiver_move found receiver.UpTaken)).0
    go None e = h
    go (Some r) e = ups r e r.holding.ups
event_seen p range past accepted w NewsAsked may is holds h =
    world_keeps p w (record w { sender = (told w.sender).0 }) refl (told_keeps w.sender) h

-- as a world begins nothing was seen
pub opening_seen : (p : Settings) → SeenWorld p (world_opening p)
opening_seen p node = go (receivers_of p p.receivers)
  where
    go : (nodes : List ℕ) → SeenAt p (world_opening p).sender (at_node (map receiver_opening nodes) node)
    go [] = tt
    go (n ∷ nodes) = by (n == node) (go nodes)
      where
        by : (b : Bool) → SeenAt p (world_opening p).sender (at_node (map receiver_opening nodes) node)
            → SeenAt p (world_opening p).sender (cond b (Some (receiver_opening n)) (at_node (map receiver_opening nodes) node))
        by true rest = refl
        by false rest = rest
