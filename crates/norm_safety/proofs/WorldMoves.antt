-- What holds of a world after a receiver moved.
use Rattle.std.proofs.Common.{◌≡◌, ◌<◌, ◌≤◌, ℕ, cond, List, [], ◌∷◌, ◌++◌, Bool, true, false, Option, None, Some, refl, sym, ap, ◌∙◌, subst, arith}
use Rattle.std.specs.Prelude.{map, find, ◌==◌, ◌&&◌, nat_eq, nat_le}
use Rattle.std.specs.List.{AllByRecursion, IsDistinct}
use Rattle.std.proofs.lemmas.Bool.Decides.{Decides-eqb}
use Rattle.std.proofs.lemmas.List.{append-nil}
use Rattle.norm_base.specs.Settings.{Settings, InRange}
use Rattle.norm_base.specs.Member.{IsMember}
use Rattle.norm_base.specs.declared.node.Origin.{Origin}
use Rattle.norm_ext.specs.InstanceIds.{rise, most_rise, is_above}
use Rattle.norm_ext.specs.Written.{Written}
use Rattle.norm_order.specs.declared.up.Up.{Up}
use Rattle.norm_receive_rules.specs.ReceiverState.{ReceiverState}
use Rattle.norm_send_rules.specs.SenderState.{SenderState}
use Rattle.norm_send_rules.specs.Restarting.{instances}
use Rattle.norm_safety.proofs.SenderHolds.{SenderHolds}
use Rattle.norm_safety.proofs.OnceLemmas.{OnceSoFar, higher_differs}
use Rattle.norm_safety.specs.Events.{Event, Answer}
use Rattle.norm_safety.specs.World.{World, receiver_at, with_receiver}
use Rattle.norm_safety.specs.History.{Happening}
use Rattle.norm_safety.specs.Hands.{hands, taken_in, instance_at}
use Rattle.norm_safety.specs.InOrder.{came_to, newly, drop_of}
use Rattle.norm_safety.specs.OnceEach.{order_of}
use Rattle.norm_safety.proofs.EntryLemmas.{clash}
use Rattle.norm_safety.proofs.Onward.{goes_on_itself}
use Rattle.norm_safety.proofs.Spoken.{IsBegun, SaysTrue}
use Rattle.norm_safety.proofs.Holding.{ReceiverHolds}
use Rattle.norm_safety.proofs.ReceiverMoves.{StandingIn, Moved, Remains, Enters, le_true}
use Rattle.norm_safety.proofs.WorldHolds.{Through, IsAbove, CameLast, CameTo, AtReceiver, AtNode, WorldHolds, last_in, last_more, came_more, hands_same, newly_none, new_id, same_taken, node_later, instance_of}

-- ---- a world where one receiver is another

-- a receiver in place of its node's
abbrev pub put_in : ReceiverState → ReceiverState → ReceiverState
put_in t x = elim (x.node == t.node) [ true ↦ t | false ↦ x ]

-- the receiver of a node among others
abbrev pub at_node : List ReceiverState → ℕ → Option ReceiverState
at_node rs node = find (λ (r : ReceiverState). r.node == node) rs

pub same_self : (n : ℕ) → (n == n) ≡ true
same_self n = (Decides-eqb n n).1 refl

pub not_same : (a b : ℕ) → (a ≡ b → ⊥) → (a == b) ≡ false
not_same a b h = go (a == b) refl
  where
    go : (t : Bool) → (a == b) ≡ t → t ≡ false
    go true e = absurd (h ((Decides-eqb a b).0 e))
    go false e = refl

pub found_put : (t r : ReceiverState) (rs : List ReceiverState) → at_node rs t.node ≡ Some r → at_node (map (put_in t) rs) t.node ≡ Some t
found_put t r [] e = absurd (nothing r e)
  where
    nothing : (x : ReceiverState) → None ≡ Some x → ⊥
    nothing x e = cc
found_put t r (x ∷ rs) e = go (x.node == t.node) refl (λ more. found_put t r rs more) e
  where
    own : cond (t.node == t.node) (Some t) (at_node (map (put_in t) rs) t.node) ≡ Some t
    own = ap (λ (b : Bool). cond b (Some t) (at_node (map (put_in t) rs) t.node)) (same_self t.node)

    go : (b : Bool) → (x.node == t.node) ≡ b → (at_node rs t.node ≡ Some r → at_node (map (put_in t) rs) t.node ≡ Some t)
        → cond b (Some x) (at_node rs t.node) ≡ Some r
        → at_node ((elim b [ true ↦ t | false ↦ x ]) ∷ map (put_in t) rs) t.node ≡ Some t
    go true is more e = own
    go false is more e = ap (λ (b : Bool). cond b (Some x) (at_node (map (put_in t) rs) t.node)) is ∙ more e

pub found_other : (t : ReceiverState) (rs : List ReceiverState) (node : ℕ) → (t.node ≡ node → ⊥) → at_node (map (put_in t) rs) node ≡ at_node rs node
found_other t [] node other = refl
found_other t (x ∷ rs) node other = go (x.node == t.node) refl (found_other t rs node other)
  where
    go : (b : Bool) → (x.node == t.node) ≡ b → at_node (map (put_in t) rs) node ≡ at_node rs node
        → at_node ((elim b [ true ↦ t | false ↦ x ]) ∷ map (put_in t) rs) node ≡ cond (x.node == node) (Some x) (at_node rs node)
    go true is more =
        let same : x.node ≡ t.node = (Decides-eqb x.node t.node).0 is in
        let not_x : (x.node == node) ≡ false = not_same x.node node (λ e. other (sym same ∙ e)) in
        ap (λ (c : Bool). cond c (Some t) (at_node (map (put_in t) rs) node)) (not_same t.node node other)
        ∙ more ∙ sym (ap (λ (c : Bool). cond c (Some x) (at_node rs node)) not_x)
    go false is more = ap (λ (found : Option ReceiverState). cond (x.node == node) (Some x) found) more

-- ---- instances that a node came to

-- an instance that lies above the one before it lies higher above the profile's
goes_higher : (p : Settings) (current id : ℕ) → IsBegun p current → IsBegun p id → is_above current id ≡ true → rise p.instance current < rise p.instance id
goes_higher p current id was now above =
    let two = both (nat_le 1 (rise current id)) (nat_le (rise current id) most_rise) above in
    higher p.instance current id was.first was.small now.small was.few now.few (le_true 1 (rise current id) two.0) (le_true (rise current id) most_rise two.1)
  where
    both : (a b : Bool) → (a && b) ≡ true → (a ≡ true) × (b ≡ true)
    both true b e = (refl, e)
    both false b e = absurd (clash e)

    higher : (f c i : ℕ) → f < 65536 → c < 65536 → i < 65536 → rise f c ≤ 32767 → rise f i ≤ 32767 → 1 ≤ rise c i → rise c i ≤ 32767 → rise f c < rise f i
    higher f c i hf hc hi fc fi least most = omega (arith, hf, hc, hi, fc, fi, least, most)

all_end : {X : Type 0} (P : X → Type 0) (xs : List X) (x : X) → AllByRecursion P xs → P x → AllByRecursion P (xs ++ x ∷ [])
all_end P [] x all h = (h, tt)
all_end P (y ∷ xs) x all h = (all.0, all_end P xs x all.1 h)

pub all_front : {X : Type 0} (P : X → Type 0) (xs more : List X) → AllByRecursion P (xs ++ more) → AllByRecursion P xs
all_front P [] more all = tt
all_front P (y ∷ xs) more all = (all.0, all_front P xs more all.1)

pub all_behind : {X : Type 0} (P : X → Type 0) (xs more : List X) → AllByRecursion P (xs ++ more) → AllByRecursion P more
all_behind P [] more all = all
all_behind P (y ∷ xs) more all = all_behind P xs more all.1

lower_still : (p : Settings) (ids : List ℕ) (current id : ℕ) → rise p.instance current < rise p.instance id → IsAbove p ids current → IsAbove p ids id
lower_still p [] current id lt all = tt
lower_still p (x ∷ ids) current id lt all = ((let below = all.0 in omega arith), lower_still p ids current id lt all.1)

-- an instance that a receiver goes on to lies above all that it came to
lies_above : (p : Settings) (ids : List ℕ) (instance : Option ℕ) (id : ℕ) → CameTo p ids instance → IsBegun p id
    → (elim instance [ Some current ↦ is_above current id | None ↦ true ]) ≡ true → IsAbove p ids id
lies_above p ids None id came begun above = let A : List ℕ → Type 0 = λ xs. IsAbove p xs id in subst A (sym came) tt
lies_above p ids (Some current) id came begun above =
    let A : List ℕ → Type 0 = λ xs. IsAbove p xs id in
    let lt = goes_higher p current id came.begun begun above in
    subst A (sym came.is) (all_end (λ x. rise p.instance x < rise p.instance id) came.before current (lower_still p came.before current id lt came.lower) lt)

-- a receiver is in no instance that lies above all that it came to
pub above_is_out : (p : Settings) (ids : List ℕ) (instance : Option ℕ) (id : ℕ) → CameTo p ids instance → IsAbove p ids id
    → (elim instance [ Some current ↦ current == id | None ↦ false ]) ≡ false
above_is_out p ids None id came above = refl
above_is_out p ids (Some current) id came above =
    let A : List ℕ → Type 0 = λ xs. IsAbove p xs id in
    let last = all_behind (λ x. rise p.instance x < rise p.instance id) came.before (current ∷ []) (subst A came.is above) in
    not_same current id (λ e. (let lt = last.0 in let is = ap (rise p.instance) e in omega (arith, lt, is)))

-- ---- at the node of a receiver that moved

-- A receiver that moved, while nothing was handed up: what holds at its node.
pub moved_node : (p : Settings) (s : SenderState) (past : List Happening) (x : Happening) (node : ℕ) (r t : ReceiverState) → Moved p s r t
    → taken_in node x.event x.answer ≡ [] → last_in node None past ≡ r.instance → instance_at x.after node ≡ t.instance
    → AtReceiver p s past node r → AtReceiver p s (past ++ x ∷ []) node t
moved_node p s past x node r t moved none latest now h = go moved
  where
    came : came_to node None (past ++ x ∷ []) ≡ came_to node None past ++ newly r.instance t.instance
    came =
        came_more node None past x
        ∙ ap (λ (was : Option ℕ). came_to node None past ++ newly was (instance_at x.after node)) latest
        ∙ ap (λ (is : Option ℕ). came_to node None past ++ newly r.instance is) now

    same : (id : ℕ) → hands (past ++ x ∷ []) node id ≡ hands past node id
    same id = hands_same past x node id none

    go : Moved p s r t → AtReceiver p s (past ++ x ∷ []) node t
    go (Remains ids stands) =
        let still : came_to node None (past ++ x ∷ []) ≡ came_to node None past =
        came ∙ ap (λ (is : Option ℕ). came_to node None past ++ newly r.instance is) ids.instance
        ∙ ap (λ (more : List ℕ). came_to node None past ++ more) (newly_none r.instance) ∙ append-nil (came_to node None past) in
        let C : List ℕ → Type 0 = λ xs. CameTo p xs t.instance in
        let I : Option ℕ → Type 0 = λ is. CameTo p (came_to node None past) is in
        let D : List ℕ → Type 0 = λ xs. IsDistinct nat_eq xs in
        record {
          here = ids.node ∙ h.here;
          member = subst IsMember (sym ids.node) h.member;
          sequence = ids.sequence h.sequence;
          came = subst C (sym still) (subst I (sym ids.instance) h.came);
          once = subst D (sym still) h.once;
          stands = same_taken p s (hands past node) (hands (past ++ x ∷ []) node) t same (stands (hands past node) h.stands);
          never = λ id above. (let A : List ℕ → Type 0 = λ xs. IsAbove p xs id in same id ∙ h.never id (subst A still above));
        }
    go (Enters id out goes begun ids holds) =
        let new : newly r.instance t.instance ≡ id ∷ [] =
        ap (λ (is : Option ℕ). newly r.instance is) ids.instance ∙ ap (λ (b : Bool). new_id b id) out in
        let joined : came_to node None (past ++ x ∷ []) ≡ came_to node None past ++ id ∷ [] =
        came ∙ ap (λ (more : List ℕ). came_to node None past ++ more) new in
        let above : IsAbove p (came_to node None past) id = lies_above p (came_to node None past) r.instance id h.came begun goes in
        let C : Option ℕ → Type 0 = λ is. CameTo p (came_to node None (past ++ x ∷ [])) is in
        let D : List ℕ → Type 0 = λ xs. IsDistinct nat_eq xs in
        let S : Option ℕ → Type 0 = λ is. StandingIn p s (hands (past ++ x ∷ []) node) t is in
        let H : List Up → Type 0 = λ ups. ReceiverHolds p (order_of s id) (drop_of s id) ups t in
        let last : CameLast p (came_to node None (past ++ x ∷ [])) id =
        record { before = came_to node None past; is = joined; lower = above; begun = begun } in
        record {
          here = ids.node ∙ h.here;
          member = subst IsMember (sym ids.node) h.member;
          sequence = ids.sequence h.sequence;
          came = subst C (sym ids.instance) last;
          once = subst D (sym joined) (higher_differs p.instance id (came_to node None past) above h.once);
          stands = subst S (sym ids.instance) (subst H (sym (same id ∙ h.never id above)) holds);
          never = λ other over. (
              let A : List ℕ → Type 0 = λ xs. IsAbove p xs other in
              same other ∙ h.never other (all_front (λ y. rise p.instance y < rise p.instance other) (came_to node None past) (id ∷ []) (subst A joined over))
              );
        }

-- ---- the world of a receiver that moved

pub moved_world : (p : Settings) → InRange p → (past : List Happening) (accepted : List Origin) (w v : World) (e : Event) (answer : Answer) (node : ℕ) (r t : ReceiverState)
    → receiver_at w node ≡ Some r → t.node ≡ r.node → v.sender ≡ w.sender → v.receivers ≡ (with_receiver t w).receivers → v.offered ≡ w.offered
    → Moved p w.sender r t → ((other : ℕ) → taken_in other e answer ≡ []) → AllByRecursion (λ (o : ℕ × Written). SaysTrue p w.sender o.1) v.given
    → WorldHolds p past accepted w
    → WorldHolds p (past ++ record { before = w; event = e; answer = answer; after = v } ∷ []) accepted v
moved_world p range past accepted w v e answer node r t found same sender receivers offered moved none given h = record {
  sender = subst HoldsOf (sym sender) h.sender;
  once = subst OnceOf (sym sender) h.once;
  offered = subst SaidOf (sym sender) (subst Said (sym offered) h.offered);
  given = subst GivenOf (sym sender) given;
  nodes = λ other. subst (NodeOf other) (sym sender) (nodes other (t.node == other) refl);
  through = λ other id. subst (ThroughOf other id) (sym sender) (
      let T : List Up → Type 0 = λ ups. Through p w.sender id ups in
      subst T (sym (hands_same past x other id (none other))) (h.through other id)
      );
  latest = λ other. last_more other None past x;
}
  where
    x : Happening
    x = record { before = w; event = e; answer = answer; after = v }

    HoldsOf : SenderState → Type 0
    HoldsOf s = SenderHolds p s

    OnceOf : SenderState → Type 0
    OnceOf s = OnceSoFar s accepted

    Said : List (ℕ × Written) → Type 0
    Said said = AllByRecursion (λ (o : ℕ × Written). SaysTrue p w.sender o.1) said

    SaidOf : SenderState → Type 0
    SaidOf s = AllByRecursion (λ (o : ℕ × Written). SaysTrue p s o.1) v.offered

    GivenOf : SenderState → Type 0
    GivenOf s = AllByRecursion (λ (o : ℕ × Written). SaysTrue p s o.1) v.given

    NodeOf : ℕ → SenderState → Type 0
    NodeOf other s = AtNode p s (past ++ record { before = w; event = e; answer = answer; after = v } ∷ []) other (receiver_at v other)

    ThroughOf : ℕ → ℕ → SenderState → Type 0
    ThroughOf other id s = Through p s id (hands (past ++ record { before = w; event = e; answer = answer; after = v } ∷ []) other id)

    here : AtReceiver p w.sender past node r
    here = let A : Option ReceiverState → Type 0 = λ o. AtNode p w.sender past node o in subst A found (h.nodes node)

    at_v : (other : ℕ) → receiver_at v other ≡ at_node (map (put_in t) w.receivers) other
    at_v other = ap (λ (rs : List ReceiverState). at_node rs other) receivers

    nodes : (other : ℕ) (b : Bool) → (t.node == other) ≡ b
        → AtNode p w.sender (past ++ record { before = w; event = e; answer = answer; after = v } ∷ []) other (receiver_at v other)
    nodes other true is =
        let t_is : t.node ≡ other = (Decides-eqb t.node other).0 is in
        let is_node : node ≡ other = sym here.here ∙ sym same ∙ t_is in
        let there : at_node w.receivers t.node ≡ Some r = ap (at_node w.receivers) (t_is ∙ sym is_node) ∙ found in
        let at : receiver_at v other ≡ Some t = at_v other ∙ ap (at_node (map (put_in t) w.receivers)) (sym t_is) ∙ found_put t r w.receivers there in
        let A : Option ReceiverState → Type 0 = λ o. AtNode p w.sender (past ++ record { before = w; event = e; answer = answer; after = v } ∷ []) other o in
        let R : ℕ → Type 0 = λ n. AtReceiver p w.sender past n r in
        let L : ℕ → Type 0 = λ n. last_in n None past ≡ r.instance in
        subst A (sym at) (moved_node p w.sender past x other r t moved (none other)
        (subst L is_node (h.latest node ∙ ap instance_of found)) (ap instance_of at) (subst R is_node here))
    nodes other false is =
        let not_t : t.node ≡ other → ⊥ = λ e. clash (sym is ∙ (Decides-eqb t.node other).1 e) in
        let at : receiver_at v other ≡ receiver_at w other = at_v other ∙ found_other t w.receivers other not_t in
        let A : Option ReceiverState → Type 0 = λ o. AtNode p w.sender (past ++ record { before = w; event = e; answer = answer; after = v } ∷ []) other o in
        subst A (sym at) (node_later p range w.sender w.sender past x other (receiver_at w other) (goes_on_itself (instances w.sender)) (none other)
        (h.latest other ∙ sym (ap instance_of at)) (h.nodes other))
