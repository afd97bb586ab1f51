-- What holds of a world after every lawful event.
use Rattle.std.proofs.Common.{◌≡◌, ℕ, zero, suc, ◌*◌, ◌/◌, ◌<◌, cond, List, [], ◌∷◌, ◌++◌, Bool, true, false, Option, None, Some, refl, sym, ap, ◌∙◌, subst, append_assoc, arith}
use Rattle.std.specs.Prelude.{nat_lt, filter, find, ◌==◌, nat_eq, Contains}
use Rattle.std.specs.List.{AllByRecursion, IsDistinct}
use Rattle.std.proofs.lemmas.Bool.Decides.{Decides-eqb}
use Rattle.std.proofs.lemmas.List.{append-nil}
use Rattle.std.proofs.lemmas.Grind.{flat_map-append}
use Rattle.norm_base.specs.Settings.{Settings, InRange}
use Rattle.fec_plan.specs.Points.{Point, point_before}
use Rattle.norm_base.specs.Member.{IsMember}
use Rattle.norm_base.specs.declared.node.Origin.{Origin}
use Rattle.norm_ext.specs.InstanceIds.{rise}
use Rattle.norm_ext.specs.Written.{Written}
use Rattle.norm_order.specs.Entries.{Entry}
use Rattle.norm_order.specs.Shapes.{shape_of, encoded_in}
use Rattle.norm_order.specs.Symbols.{symbol_octets}
use Rattle.norm_order.specs.declared.up.Up.{Up}
use Rattle.norm_receive_rules.specs.Holding.{Plan, Held, HeldInfo}
use Rattle.norm_receive_rules.specs.ReceiverState.{ReceiverState}
use Rattle.norm_send_rules.specs.Messages.{fti_of_object, object_flags}
use Rattle.norm_send_rules.proofs.CutNames.{cut_range}
use Rattle.norm_send_rules.specs.SenderState.{SenderState}
use Rattle.norm_safety.specs.Events.{Event, Answer}
use Rattle.norm_safety.specs.World.{World, receiver_at}
use Rattle.norm_safety.specs.History.{Happening}
use Rattle.norm_safety.specs.Hands.{hands, taken_in, is_at, instance_at}
use Rattle.norm_safety.specs.InOrder.{GoesThrough, came_to, newly, drop_of}
use Rattle.norm_safety.specs.OnceEach.{order_of}
use Rattle.norm_safety.specs.SaysSymbols.{info_of_object}
use Rattle.norm_safety.proofs.EntryLemmas.{clash}
use Rattle.norm_safety.proofs.Onward.{Onward}
use Rattle.norm_safety.proofs.SenderHolds.{SenderHolds, some_octets, order_later}
use Rattle.norm_safety.proofs.OnceLemmas.{OnceSoFar}
use Rattle.norm_safety.proofs.Spoken.{IsBegun, SaysTrue}
use Rattle.norm_safety.proofs.GoesOn.{OrderLater}
use Rattle.norm_safety.proofs.SymbolLater.{symbol_later}
use Rattle.norm_safety.proofs.TickTrue.{Stable, told_same, order_entry_later, true_later}
use Rattle.norm_safety.proofs.ThroughLater.{through_on}
use Rattle.norm_safety.proofs.HandedMoves.{handed_later}
use Rattle.norm_safety.proofs.Stood.{due_grown}
use Rattle.norm_safety.proofs.Holding.{ReceiverHolds, IsPlanOf, IsSymbolOf, IsInfoOf}
use Rattle.norm_safety.proofs.ReceiverMoves.{Standing, StandingIn}

-- hand-ups went through an instance's order
abbrev pub Through : Settings → SenderState → ℕ → List Up → Type 0
Through p s id ups = GoesThrough p (drop_of s id) 0 (order_of s id) ups

-- an id lies higher above the profile's than all these
abbrev pub IsAbove : Settings → List ℕ → ℕ → Type 0
IsAbove p ids id = AllByRecursion (λ x. rise p.instance x < rise p.instance id) ids

-- the instance that a node came to last, and those before it, which lie lower
pub record CameLast (p : Settings) (ids : List ℕ) (current : ℕ) : Type 0 where
  pub before : List ℕ
  pub is : ids ≡ before ++ current ∷ []
  pub lower : IsAbove p before current
  pub begun : IsBegun p current

-- the instances that a node came to, by the one that it is in
abbrev pub CameTo : Settings → List ℕ → Option ℕ → Type 0
CameTo p ids None = ids ≡ []
CameTo p ids (Some current) = CameLast p ids current

-- What holds at a node, by its receiver: it is a member, with a sequence number of 16 bits; it came from instance to higher instance, and is in the last of them; it holds what
-- it should; and nothing was handed up in an instance that lies above those.
pub record AtReceiver (p : Settings) (s : SenderState) (past : List Happening) (node : ℕ) (r : ReceiverState) : Type 0 where
  pub here : r.node ≡ node
  pub member : IsMember r.node
  pub sequence : r.sequence < 65536
  pub came : CameTo p (came_to node None past) r.instance
  pub once : IsDistinct nat_eq (came_to node None past)
  pub stands : Standing p s (hands past node) r
  pub never : (id : ℕ) → IsAbove p (came_to node None past) id → hands past node id ≡ []

pub record AtNone (past : List Happening) (node : ℕ) : Type 0 where
  pub came : came_to node None past ≡ []

-- at a node, where it has a receiver
abbrev pub AtNode : Settings → SenderState → List Happening → ℕ → Option ReceiverState → Type 0
AtNode p s past node (Some r) = AtReceiver p s past node r
AtNode p s past node None = AtNone past node

-- the instance that a node was in last
abbrev pub last_in : ℕ → Option ℕ → List Happening → Option ℕ
last_in node was [] = was
last_in node was (h ∷ past) = last_in node (instance_at h.after node) past

-- What holds of a world, with what happened: of the sender; each datagram that was given to the network, or waits to be, says
-- what is true; at each node; and hand-ups went through the orders.
pub record WorldHolds (p : Settings) (past : List Happening) (accepted : List Origin) (w : World) : Type 0 where
  pub sender : SenderHolds p w.sender
  pub once : OnceSoFar w.sender accepted
  pub offered : AllByRecursion (λ (o : ℕ × Written). SaysTrue p w.sender o.1) w.offered
  pub given : AllByRecursion (λ (o : ℕ × Written). SaysTrue p w.sender o.1) w.given
  pub nodes : (node : ℕ) → AtNode p w.sender past node (receiver_at w node)
  pub through : (node id : ℕ) → Through p w.sender id (hands past node id)
  pub latest : (node : ℕ) → last_in node None past ≡ instance_at w node

-- ---- what happened, with one event more

pub hands_more : (past : List Happening) (x : Happening) (node id : ℕ)
    → hands (past ++ x ∷ []) node id ≡ hands past node id ++ elim (is_at x.before node id) [ true ↦ taken_in node x.event x.answer | false ↦ [] ]
hands_more past x node id =
    let of : Happening → List Up = λ h. elim (is_at h.before node id) [ true ↦ taken_in node h.event h.answer | false ↦ [] ] in
    flat_map-append of past (x ∷ []) ∙ ap (λ (ups : List Up). hands past node id ++ ups) (append-nil (of x))

pub came_more : (node : ℕ) (was : Option ℕ) (past : List Happening) (x : Happening)
    → came_to node was (past ++ x ∷ []) ≡ came_to node was past ++ newly (last_in node was past) (instance_at x.after node)
unfolding came_to
came_more node was [] x = append-nil (newly was (instance_at x.after node))
came_more node was (h ∷ past) x =
    ap (λ (ids : List ℕ). newly was (instance_at h.after node) ++ ids) (came_more node (instance_at h.after node) past x)
    ∙ sym (append_assoc (newly was (instance_at h.after node)) (came_to node (instance_at h.after node) past) _)

pub last_more : (node : ℕ) (was : Option ℕ) (past : List Happening) (x : Happening) → last_in node was (past ++ x ∷ []) ≡ instance_at x.after node
last_more node was [] x = refl
last_more node was (h ∷ past) x = last_more node (instance_at h.after node) past x

same_self : (n : ℕ) → (n == n) ≡ true
same_self n = (Decides-eqb n n).1 refl

-- an instance, where a node came to it now
abbrev pub new_id : Bool → ℕ → List ℕ
new_id same id = elim same [ true ↦ [] | false ↦ id ∷ [] ]

pub newly_none : (was : Option ℕ) → newly was was ≡ []
newly_none None = refl
newly_none (Some id) = go (id == id) (same_self id)
  where
    go : (b : Bool) → b ≡ true → new_id b id ≡ []
    go true e = refl
    go false e = absurd (clash e)

-- ---- as the orders go on

pub through_later : (p : Settings) → InRange p → (s t : SenderState) (id : ℕ) (ups : List Up) → Onward s t → Through p s id ups → Through p t id ups
through_later p range s t id ups onward h =
    let later = order_later s t onward id in
    through_on p (drop_of s id) (drop_of t id) 0 (order_of s id) (order_of t id) ups (some_octets p range) later.drop later.order h

pub all_later : {X : Type 0} (P Q : X → Type 0) (xs : List X) → ((x : X) → P x → Q x) → AllByRecursion P xs → AllByRecursion Q xs
all_later P Q [] f all = tt
all_later P Q (x ∷ xs) f all = (f x all.0, all_later P Q xs f all.1)

-- a plan, a symbol and an info of an entry are such as its object goes on
plan_stable : (p : Settings) (plan : Plan) → Stable (λ (x : Entry). (plan.fti ≡ fti_of_object p x.object) × (4 * (plan.flags / 4) ≡ object_flags x.object))
plan_stable p plan x y on is = let same = told_same p x.object y.object on in (is.0 ∙ same.fti, is.1 ∙ same.flags)

symbol_stable : (p : Settings) → InRange p → (h : Held) → Stable (λ (x : Entry).
    (nat_lt h.at.symbol (encoded_in (shape_of p x.object) h.at.block) ≡ true) × (h.octets ≡ symbol_octets p x.object h.at.block h.at.symbol))
symbol_stable p range h x y on is =
    let stays = symbol_later p (cut_range p range) x.object y.object h.at.block h.at.symbol on is.0 in (stays.0, is.1 ∙ sym stays.1)

info_stable : (p : Settings) (h : HeldInfo) → Stable (λ (x : Entry). info_of_object x.object ≡ Some h.info)
info_stable p h x y on is = sym (told_same p x.object y.object on).info ∙ is

holding_on : (p : Settings) → InRange p → (order later : List Entry) (d e : Point) (taken : List Up) (r : ReceiverState) → OrderLater order later
    → point_before e d ≡ false → ReceiverHolds p order d taken r → ReceiverHolds p later e taken r
holding_on p range order later d e taken r on drop h = record {
  plans = all_later (IsPlanOf p order) (IsPlanOf p later) r.holding.plans (λ plan is. order_entry_later _ (plan_stable p plan) order later plan.index on is) h.plans;
  symbols = all_later (IsSymbolOf p order) (IsSymbolOf p later) r.holding.held
      (λ x is. order_entry_later _ (symbol_stable p range x) order later x.at.index on is) h.symbols;
  rising = h.rising;
  infos = all_later (IsInfoOf order) (IsInfoOf later) r.holding.infos (λ x is. order_entry_later _ (info_stable p x) order later x.index on is) h.infos;
  planned = h.planned;
  gone = handed_later p order later d e r.holding.lost (taken ++ r.holding.ups) r.holding.point (omega (arith, range.b.0)) (some_octets p range) on drop h.gone;
  confirms = due_grown p (some_octets p range) order later (taken ++ r.holding.ups) r.knows.due on h.confirms;
}

pub holding_later : (p : Settings) → InRange p → (s t : SenderState) (id : ℕ) (taken : List Up) (r : ReceiverState) → Onward s t
    → ReceiverHolds p (order_of s id) (drop_of s id) taken r → ReceiverHolds p (order_of t id) (drop_of t id) taken r
holding_later p range s t id taken r onward h =
    let later = order_later s t onward id in
    holding_on p range (order_of s id) (order_of t id) (drop_of s id) (drop_of t id) taken r later.order later.drop h

standing_later : (p : Settings) → InRange p → (s t : SenderState) (taken : ℕ → List Up) (r : ReceiverState) → Onward s t → Standing p s taken r → Standing p t taken r
standing_later p range s t taken r onward h = go r.instance h
  where
    go : (instance : Option ℕ) → StandingIn p s taken r instance → StandingIn p t taken r instance
    go None h = h
    go (Some id) h = holding_later p range s t id (taken id) r onward h

-- hand-ups that are equal in each instance
pub same_taken : (p : Settings) (s : SenderState) (taken other : ℕ → List Up) (r : ReceiverState) → ((id : ℕ) → other id ≡ taken id) → Standing p s taken r → Standing p s other r
same_taken p s taken other r same h = go r.instance h
  where
    go : (instance : Option ℕ) → StandingIn p s taken r instance → StandingIn p s other r instance
    go None h = h
    go (Some id) h = let H : List Up → Type 0 = λ ups. ReceiverHolds p (order_of s id) (drop_of s id) ups r in subst H (sym (same id)) h

-- ---- an event that leaves the receivers

pub hands_same : (past : List Happening) (x : Happening) (node id : ℕ) → taken_in node x.event x.answer ≡ [] → hands (past ++ x ∷ []) node id ≡ hands past node id
hands_same past x node id none =
    hands_more past x node id ∙ ap (λ (ups : List Up). hands past node id ++ ups) (go (is_at x.before node id)) ∙ append-nil (hands past node id)
  where
    taken_where : Bool → List Up
    taken_where b = elim b [ true ↦ taken_in node x.event x.answer | false ↦ [] ]

    go : (b : Bool) → taken_where b ≡ []
    go true = none
    go false = refl

-- a node that stays where it was came to nothing more
pub same_came : (p : Settings) (past : List Happening) (x : Happening) (node : ℕ) → last_in node None past ≡ instance_at x.after node
    → came_to node None (past ++ x ∷ []) ≡ came_to node None past
same_came p past x node same =
    came_more node None past x ∙ ap (λ (was : Option ℕ). came_to node None past ++ newly was (instance_at x.after node)) same
    ∙ ap (λ (ids : List ℕ). came_to node None past ++ ids) (newly_none (instance_at x.after node)) ∙ append-nil (came_to node None past)

-- a node whose receiver stays as it was, while the orders go on
pub node_later : (p : Settings) → InRange p → (s t : SenderState) (past : List Happening) (x : Happening) (node : ℕ) (found : Option ReceiverState) → Onward s t
    → taken_in node x.event x.answer ≡ [] → last_in node None past ≡ instance_at x.after node
    → AtNode p s past node found → AtNode p t (past ++ x ∷ []) node found
node_later p range s t past x node None onward none same h = record { came = same_came p past x node same ∙ h.came }
node_later p range s t past x node (Some r) onward none same h =
    let still : came_to node None (past ++ x ∷ []) ≡ came_to node None past = same_came p past x node same in
    let C : List ℕ → Type 0 = λ ids. CameTo p ids r.instance in
    let D : List ℕ → Type 0 = λ ids. IsDistinct nat_eq ids in
    record {
      here = h.here;
      member = h.member;
      sequence = h.sequence;
      came = subst C (sym still) h.came;
      once = subst D (sym still) h.once;
      stands = same_taken p t (hands past node) (hands (past ++ x ∷ []) node) r (λ id. hands_same past x node id none)
          (standing_later p range s t (hands past node) r onward h.stands);
      never = λ id above. (let A : List ℕ → Type 0 = λ ids. IsAbove p ids id in hands_same past x node id none ∙ h.never id (subst A still above));
    }

-- ---- what was said

pub said_later : (p : Settings) → InRange p → (s t : SenderState) (said : List (ℕ × Written)) → Onward s t → AllByRecursion (λ (o : ℕ × Written). SaysTrue p s o.1) said
    → AllByRecursion (λ (o : ℕ × Written). SaysTrue p t o.1) said
said_later p range s t said onward all =
    all_later (λ (o : ℕ × Written). SaysTrue p s o.1) (λ (o : ℕ × Written). SaysTrue p t o.1) said (λ o h. true_later p range s t o.1 onward h) all

pub all_filter : {X : Type 0} (P : X → Type 0) (test : X → Bool) (xs : List X) → AllByRecursion P xs → AllByRecursion P (filter test xs)
all_filter P test [] all = tt
all_filter {X} P test (x ∷ xs) all = go (test x) (all_filter P test xs all.1)
  where
    go : (b : Bool) → AllByRecursion P (filter test xs) → AllByRecursion P (cond b (x ∷ filter test xs) (filter test xs))
    go true more = (all.0, more)
    go false more = more

pub all_end : {X : Type 0} (P : X → Type 0) (xs : List X) (x : X) → AllByRecursion P xs → P x → AllByRecursion P (xs ++ x ∷ [])
all_end P [] x all h = (h, tt)
all_end P (y ∷ xs) x all h = (all.0, all_end P xs x all.1 h)

pub all_contains : {X : Type 0} (P : X → Type 0) (xs : List X) (x : X) → AllByRecursion P xs → Contains xs x → P x
all_contains P [] x all has = absurd (omega (arith, has.1))
all_contains P (y ∷ xs) x all (zero, lt, is) = subst P is all.0
all_contains P (y ∷ xs) x all (suc k, lt, is) = all_contains P xs x all.1 (k, omega (arith, lt), is)

-- ---- an event that leaves the receivers

-- the instance of a receiver that is there
abbrev pub instance_of : Option ReceiverState → Option ℕ
instance_of found = elim found [ Some r ↦ r.instance | None ↦ None ]

-- the world after an event that leaves the receivers, where the sender goes on and what was said is true
pub quiet_world : (p : Settings) → InRange p → (past : List Happening) (accepted after : List Origin) (w v : World) (e : Event) (answer : Answer)
    → v.receivers ≡ w.receivers → SenderHolds p v.sender → OnceSoFar v.sender after → Onward w.sender v.sender
    → AllByRecursion (λ (o : ℕ × Written). SaysTrue p v.sender o.1) v.offered → AllByRecursion (λ (o : ℕ × Written). SaysTrue p v.sender o.1) v.given
    → ((node : ℕ) → taken_in node e answer ≡ []) → WorldHolds p past accepted w
    → WorldHolds p (past ++ record { before = w; event = e; answer = answer; after = v } ∷ []) after v
quiet_world p range past accepted after w v e answer same holds once onward offered given none h =
    let x : Happening = record { before = w; event = e; answer = answer; after = v } in
    let at : (node : ℕ) → receiver_at v node ≡ receiver_at w node =
    λ node. ap (λ (rs : List ReceiverState). find (λ (r : ReceiverState). r.node == node) rs) same in
    let instance : (node : ℕ) → last_in node None past ≡ instance_at v node =
    λ node. h.latest node ∙ sym (ap instance_of (at node)) in
    record {
      sender = holds;
      once = once;
      offered = offered;
      given = given;
      nodes = λ node. (
          let A : Option ReceiverState → Type 0 = λ found. AtNode p v.sender (past ++ x ∷ []) node found in
          subst A (sym (at node)) (node_later p range w.sender v.sender past x node (receiver_at w node) onward (none node) (instance node) (h.nodes node))
          );
      through = λ node id. (
          let T : List Up → Type 0 = λ ups. Through p v.sender id ups in
          subst T (sym (hands_same past x node id (none node))) (through_later p range w.sender v.sender id (hands past node id) onward (h.through node id))
          );
      latest = λ node. last_more node None past x;
    }
