-- Events of a world's receivers: what stands at a place, and what does where that one changes.
use Rattle.std.proofs.Common.{◌≡◌, ℕ, ◌+◌, ◌<◌, ◌⊎◌, inl, inr, zero, suc, List, [], ◌∷◌, Bool, true, false, Option, None, Some, refl, sym, ap, ◌∙◌, subst, set, length, get_or, arith}
use Rattle.std.specs.Prelude.{◌==◌, ◌&&◌, ◌||◌, slice_get, nat_lt, nat_le, IsSome, IfSome, MatchOption}
use Rattle.std.proofs.lemmas.Bool.Decides.{Decides-eqb, Decides-ltb}
use Rattle.std.proofs.lemmas.List.{set-get_or}
use Rattle.std.proofs.lemmas.Option.{slice_get_read}
use Rattle.norm_base.specs.Members.{is_receiver, is_node}
use Rattle.norm_base.specs.Settings.{Settings}
use Rattle.norm_order.specs.declared.up.Up.{Up}
use Rattle.norm_receive_rules.specs.ReceiverState.{ReceiverState}
use Rattle.norm_receive_rules.specs.ReceiverStep.{ReceiverEvent, receiver_step}
use Rattle.norm_receive_rules.specs.ReceiverStep as receiver
use Rattle.norm_send_rules.specs.SenderStep as sender
use Rattle.norm_receive_rules.specs.Receiving.{received}
use Rattle.norm_receive_rules.specs.Taking.{took}
use Rattle.norm_receive_rules.specs.Ticking.{ticked}
use Rattle.norm_receive_rules.specs.Wanting.{may_want}
use Rattle.norm_base.specs.declared.kinds.Sent.{Sent as Said}
use Rattle.norm_receiver.specs.ReceiverKept.{ReceiverKept}
use Rattle.norm_receiver.specs.ReceiverSound.{StandsFor as ReceiverStands, IsTick}
use Rattle.norm_safety.proofs.WorldLemmas.{world_laws}
use Rattle.norm_safety.specs.Events.{Event, Answer, Delivered, Ticked, UpTaken, Sent, Took, Silent}
use Rattle.norm_safety.specs.Hands.{instance_at}
use Rattle.norm_safety.specs.World.{World, receiver_at}
use Rattle.norm_safety.specs.WorldLaws.{is_senders, to_receiver, comes_to}
use Rattle.norm_safety.specs.WorldStep.{receiver_move, node_move, moved, world_step}
use Rattle.norm_sender.specs.SenderKept.{SenderKept, Stands as SenderStands}
use Rattle.norm_world.specs.WorldKept.{WorldKept, StandsFor, IsReceiver, node_at, place_of}
use Rattle.norm_world.specs.WorldMoves.{IsEvent, IsNoEvent, MayWant, IsSent, AreTaken, receiver_of}
use Rattle.norm_world.proofs.WorldLemmas.{kept, is_event}

-- ---- a receiver's node and its place

first_of : (a b : Bool) → (a && b) ≡ true → a ≡ true
first_of true b e = refl
first_of false b e = absurd (no e)
  where
    no : false ≡ true → ⊥
    no e = cc

second_of : (a b : Bool) → (a && b) ≡ true → b ≡ true
second_of true b e = e
second_of false b e = absurd (no e)
  where
    no : false ≡ true → ⊥
    no e = cc

pub behind_sender : (p : Settings) (node : ℕ) → is_receiver p node ≡ true → p.sender < node
behind_sender p node e = (Decides-ltb p.sender node).0 (first_of (nat_lt p.sender node) (nat_le node (p.sender + p.receivers)) e)

at_its_place : (p : Settings) (node : ℕ) → is_receiver p node ≡ true → node_at p (place_of p node) ≡ node
at_its_place p node e = let lt = behind_sender p node e in omega (arith, lt)

pub not_same : (a b : ℕ) → (a ≡ b → ⊥) → (a == b) ≡ false
not_same a b h = go (a == b) refl
  where
    go : (t : Bool) → (a == b) ≡ t → t ≡ false
    go true e = absurd (h ((Decides-eqb a b).0 e))
    go false e = refl

pub no_sender : (p : Settings) (node : ℕ) → is_receiver p node ≡ true → (node == p.sender) ≡ false
no_sender p node e = let lt = behind_sender p node e in not_same node p.sender (λ same. omega (arith, lt, same))

-- ---- what stands at a place

-- the rules' receiver of a node, for which this one stands
record Found (p : Settings) (k : ReceiverKept) (found : Option ReceiverState) : Type 0 where
  r : ReceiverState
  is : found ≡ Some r
  profile : k.p ≡ p
  stands : ReceiverStands k r

found_at : (p : Settings) (k : ReceiverKept) (found : Option ReceiverState) → IsReceiver p k found → Found p k found
found_at p k None h = absurd h
found_at p k (Some r) h = record { r = r; is = refl; profile = h.0; stands = h.1 }

found_in : (p : Settings) (s : SenderKept) (rs : List ReceiverKept) (k : ReceiverKept) (w : World) (node : ℕ) → is_receiver p node ≡ true
    → slice_get rs (place_of p node) ≡ Some k → StandsFor (kept p s rs) w → Found p k (receiver_at w node)
found_in p s rs k w node e there st =
    found_at p k (receiver_at w node) (subst (λ n. IsReceiver p k (receiver_at w n)) (at_its_place p node e) (st.receivers (place_of p node) k there))

-- ---- a place that changed

set_get : {X : Type 0} (xs : List X) (i n : ℕ) (v o : X) → slice_get (set xs i v) n ≡ Some o → (n ≡ i × v ≡ o) ⊎ ((n ≡ i → ⊥) × (slice_get xs n ≡ Some o))
set_get [] i n v o e = absurd (cc)
set_get (x ∷ xs) zero zero v o e = inl (refl, cc)
set_get (x ∷ xs) zero (suc n) v o e = inr (λ same. omega arith, e)
set_get (x ∷ xs) (suc i) zero v o e = inr (λ same. omega arith, e)
set_get (x ∷ xs) (suc i) (suc n) v o e = go (set_get xs i n v o e)
  where
    go : (n ≡ i × v ≡ o) ⊎ ((n ≡ i → ⊥) × (slice_get xs n ≡ Some o)) → (suc n ≡ suc i × v ≡ o) ⊎ ((suc n ≡ suc i → ⊥) × (slice_get xs n ≡ Some o))
    go (inl same) = inl (ap suc same.0, same.1)
    go (inr other) = inr (λ same. other.0 (omega (arith, same)), other.1)

-- an event comes to its own node alone
comes_alone : (node other : ℕ) (event : Event) (own : ReceiverEvent) → to_receiver event ≡ Some (node, own) → (node ≡ other → ⊥) → comes_to other event ≡ false
comes_alone node other event own to differs =
    ap (λ (o : Option (ℕ × ReceiverEvent)). elim o [ Some x ↦ x.0 == other | None ↦ false ]) to ∙ not_same node other differs

-- a receiver's event: its state moves, and all others stay
moved_at : (p : Settings) (s : SenderKept) (rs : List ReceiverKept) (node : ℕ) (k new : ReceiverKept) (event : Event) (own : ReceiverEvent) (w : World)
    → is_receiver p node ≡ true → slice_get rs (place_of p node) ≡ Some k → is_senders p event ≡ false → to_receiver event ≡ Some (node, own)
    → new.p ≡ k.p → ((r : ReceiverState) → ReceiverStands k r → ReceiverStands new (receiver_step k.p r own).0)
    → StandsFor (kept p s rs) w → StandsFor (kept p s (set rs (place_of p node) new)) (world_step p w event).0
moved_at p s rs node k new event own w e there none to same steps st =
    let found = found_in p s rs k w node e there st in
    let after = (world_step p w event).0 in
    let now_there : receiver_at after node ≡ Some (receiver_step p found.r own).0 = world_laws.moves p w event node own found.r none to found.is in
    let stands : ReceiverStands new (receiver_step p found.r own).0 =
    subst (λ (q : Settings). ReceiverStands new (receiver_step q found.r own).0) found.profile (steps found.r found.stands) in
    record {
      profile = st.profile;
      sender = subst (λ t. SenderStands s t) (sym (world_laws.sender p w event none)) st.sender;
      receivers = λ place o is. go place o now_there (same ∙ found.profile) stands (set_get rs (place_of p node) place new o is);
    }
  where
    after : World
    after = (world_step p w event).0

    go : (place : ℕ) (o : ReceiverKept) {r : ReceiverState} → receiver_at (world_step p w event).0 node ≡ Some r → new.p ≡ p → ReceiverStands new r
        → (place ≡ place_of p node × new ≡ o) ⊎ ((place ≡ place_of p node → ⊥) × (slice_get rs place ≡ Some o))
        → IsReceiver p o (receiver_at (world_step p w event).0 (node_at p place))
    go place o now_there under stands (inl own_place) =
        let here : node_at p place ≡ node = ap (node_at p) own_place.0 ∙ at_its_place p node e in
        subst (λ (k : ReceiverKept). IsReceiver p k (receiver_at (world_step p w event).0 (node_at p place))) own_place.1
        (subst (IsReceiver p new) (sym (ap (receiver_at (world_step p w event).0) here ∙ now_there)) (under, stands))
    go place o now_there under stands (inr other) =
        let lt = behind_sender p node e in
        let still = world_laws.others p w event (node_at p place) (comes_alone node (node_at p place) event own to (λ is. other.0 (omega (arith, lt, is)))) in
        subst (IsReceiver p o) (sym still) (st.receivers place o other.1)

-- an event of the receiver at a node's place
at_node : (p : Settings) (s : SenderKept) (rs : List ReceiverKept) (node : ℕ) (k new : ReceiverKept) (event : Event) (own : ReceiverEvent) (Fits : Answer → Type 0)
    → is_receiver p node ≡ true → slice_get rs (place_of p node) ≡ Some k → is_senders p event ≡ false → to_receiver event ≡ Some (node, own)
    → new.p ≡ k.p → ((r : ReceiverState) → ReceiverStands k r → ReceiverStands new (receiver_step k.p r own).0)
    → ((w : World) (r : ReceiverState) → receiver_at w node ≡ Some r → k.p ≡ p → ReceiverStands k r → Fits (world_step p w event).1)
    → IsEvent (kept p s rs) (kept p s (set rs (place_of p node) new)) event Fits
at_node p s rs node k new event own Fits e there none to same steps fits =
    is_event (kept p s rs) (kept p s (set rs (place_of p node) new)) event Fits refl
    (λ w st.
    let found = found_in p s rs k w node e there st in
    (moved_at p s rs node k new event own w e there none to same steps st, fits w found.r found.is found.profile found.stands))

-- ---- the events

-- this receiver stands at a node's place
pub record IsPlace (p : Settings) (rs : List ReceiverKept) (node place : ℕ) (k : ReceiverKept) : Type 0 where
  pub receiver : is_receiver p node ≡ true
  pub is : place ≡ place_of p node
  pub there : slice_get rs (place_of p node) ≡ Some k

pub is_place : (p : Settings) (rs : List ReceiverKept) (node place : ℕ) (k : ReceiverKept) → is_receiver p node ≡ true → place ≡ place_of p node
    → place < p.receivers → length rs ≡ p.receivers → k ≡ get_or rs place k → IsPlace p rs node place k
is_place p rs node place k receiver is lt many read = record {
  receiver = receiver;
  is = is;
  there = subst (λ i. slice_get rs i ≡ Some k) is (slice_get_read rs p.receivers place k (sym many) lt read);
}

pub hears : (p : Settings) (s : SenderKept) (rs : List ReceiverKept) (node : ℕ) (k new : ReceiverKept) (bytes : List ℕ) (now draw place : ℕ)
    → IsPlace p rs node place k → new.p ≡ k.p
    → ((r : ReceiverState) → ReceiverStands k r → ReceiverStands new (received k.p r bytes now draw))
    → IsEvent (kept p s rs) (kept p s (set rs place new)) (Delivered node bytes now draw) (λ answer. answer ≡ Silent)
hears p s rs node k new bytes now draw place at same h =
    let e = at.receiver in
    subst (λ i. IsEvent (kept p s rs) (kept p s (set rs i new)) (Delivered node bytes now draw) (λ answer. answer ≡ Silent)) (sym at.is)
    (at_node p s rs node k new (Delivered node bytes now draw) (receiver.Delivered bytes now draw) (λ answer. answer ≡ Silent)
    e at.there (no_sender p node e) refl same h
    (λ w r found under stands.
    ap (λ b. (moved p w (node_move b (receiver_at w node) (sender.Delivered bytes now) (receiver.Delivered bytes now draw))).1) (no_sender p node e)
    ∙ ap (λ o. (moved p w (receiver_move o (receiver.Delivered bytes now draw))).1) found))

pub takes : (p : Settings) (s : SenderKept) (rs : List ReceiverKept) (node : ℕ) (k new : ReceiverKept) (result : Option Up) (place : ℕ)
    → IsPlace p rs node place k → new.p ≡ k.p
    → ((r : ReceiverState) → ReceiverStands k r → ReceiverStands new (took r).0 × (result ≡ (took r).1))
    → IsEvent (kept p s rs) (kept p s (set rs place new)) (UpTaken node) (λ answer. answer ≡ Took result)
takes p s rs node k new result place at same h =
    subst (λ i. IsEvent (kept p s rs) (kept p s (set rs i new)) (UpTaken node) (λ answer. answer ≡ Took result)) (sym at.is)
    (at_node p s rs node k new (UpTaken node) receiver.UpTaken (λ answer. answer ≡ Took result)
    at.receiver at.there refl refl same (λ r st. (h r st).0)
    (λ w r found under stands. world_laws.takes p w node r found ∙ ap Took (sym (h r stands).1)))

pub ticks : (p : Settings) (s : SenderKept) (rs : List ReceiverKept) (node : ℕ) (k new : ReceiverKept) (now : ℕ) (out : List ℕ) (said : Said) (place : ℕ)
    → IsPlace p rs node place k → new.p ≡ k.p → ((r : ReceiverState) → ReceiverStands k r → IsTick new out said (ticked k.p r now))
    → IsEvent (kept p s rs) (kept p s (set rs place new)) (Ticked node now) (IsSent said out)
ticks p s rs node k new now out said place at same h =
    let e = at.receiver in
    subst (λ i. IsEvent (kept p s rs) (kept p s (set rs i new)) (Ticked node now) (IsSent said out)) (sym at.is)
    (at_node p s rs node k new (Ticked node now) (receiver.Ticked now) (IsSent said out)
    e at.there (no_sender p node e) refl same (λ r st. (h r st).stands)
    (λ w r found under stands.
    let step = subst (λ (q : Settings). IsTick new out said (ticked q r now)) under (h r stands) in
    let is : (world_step p w (Ticked node now)).1 ≡ Sent (ticked p r now).1 =
    ap (λ b. (moved p w (node_move b (receiver_at w node) (sender.Ticked now) (receiver.Ticked now))).1) (no_sender p node e)
    ∙ ap (λ o. (moved p w (receiver_move o (receiver.Ticked now))).1) found in
    record { datagram = (ticked p r now).1; answer_is = is; octets = step.octets }))

-- the hand-ups of the receiver at a place
pub taken_there : (p : Settings) (s : SenderKept) (rs : List ReceiverKept) (node : ℕ) (k : ReceiverKept) (place : ℕ) (v : WorldKept) → IsPlace p rs node place k
    → kept p s rs ≡ v → AreTaken (receiver_of v node) → k.hold.ups ≡ []
taken_there p s rs node k place v at same taken =
    subst AreTaken at.there (subst (λ (u : WorldKept). AreTaken (receiver_of u node)) (sym same) taken)

-- a receiver that is another, for the same states
pub rests : (p : Settings) (s : SenderKept) (rs : List ReceiverKept) (node : ℕ) (k new : ReceiverKept) (place : ℕ) → IsPlace p rs node place k
    → new.p ≡ k.p → ((r : ReceiverState) → ReceiverStands k r → ReceiverStands new r) → IsNoEvent (kept p s rs) (kept p s (set rs place new))
rests p s rs node k new place at same h w st =
    record { profile = st.profile; sender = st.sender; receivers = λ n o is. go n o (set_get rs place n new o is) }
  where
    put : (found : Option ReceiverState) → IsReceiver p k found → IsReceiver p new found
    put None h = h
    put (Some r) is = (same ∙ is.0, h r is.1)

    go : (n : ℕ) (o : ReceiverKept) → (n ≡ place × new ≡ o) ⊎ ((n ≡ place → ⊥) × (slice_get rs n ≡ Some o)) → IsReceiver p o (receiver_at w (node_at p n))
    go n o (inl own) =
        subst (λ (x : ReceiverKept). IsReceiver p x (receiver_at w (node_at p n))) own.1
        (put (receiver_at w (node_at p n)) (st.receivers n k (ap (slice_get rs) (own.0 ∙ at.is) ∙ at.there)))
    go n o (inr other) = st.receivers n o other.1

-- the octets for which a node's receiver may want memory
pub may_want_there : (p : Settings) (s : SenderKept) (rs : List ReceiverKept) (node : ℕ) (k : ReceiverKept) (bytes : List ℕ) (place : ℕ) → IsPlace p rs node place k
    → ((r : ReceiverState) → ReceiverStands k r → may_want k.p r bytes ≡ true) → MayWant (kept p s rs) node bytes
may_want_there p s rs node k bytes place at h w st =
    let found = found_in p s rs k w node at.receiver at.there st in
    subst (λ (o : Option ReceiverState). MatchOption o ⊥ (λ r. may_want p r bytes ≡ true)) (sym found.is)
    (subst (λ (q : Settings). may_want q found.r bytes ≡ true) found.profile (h found.r found.stands))

-- what holds of each state that a node's receiver stands for holds in each world
pub of_node : (p : Settings) (s : SenderKept) (rs : List ReceiverKept) (node : ℕ) (k : ReceiverKept) (P : Option ℕ → Type 0) (place : ℕ)
    → IsPlace p rs node place k → ((r : ReceiverState) → ReceiverStands k r → P r.instance)
    → (w : World) → StandsFor (kept p s rs) w → P (instance_at w node)
of_node p s rs node k P place at h w st =
    let found = found_in p s rs k w node at.receiver at.there st in
    subst (λ (o : Option ReceiverState). P (elim o [ Some r ↦ r.instance | None ↦ None ])) (sym found.is) (h found.r found.stands)

pub some_in : {X : Type 0} (result : Option X) (p : Settings) (s : SenderKept) (rs : List ReceiverKept) (node : ℕ) (k : ReceiverKept) (place : ℕ)
    (v : WorldKept) → IsPlace p rs node place k → kept p s rs ≡ v → IfSome result (λ _. (r : ReceiverState) → ReceiverStands k r → IsSome r.instance)
    → IfSome result (λ _. (w : World) → StandsFor v w → IsSome (instance_at w node))
some_in None p s rs node k place v at same h = h
some_in (Some up) p s rs node k place v at same h =
    subst (λ (u : WorldKept). (w : World) → StandsFor u w → IsSome (instance_at w node)) same
    (of_node p s rs node k (λ (o : Option ℕ). IsSome o) place at h)

-- a receiver of which all was taken, and that is as it was
pub none_left : (p : Settings) (s : SenderKept) (rs : List ReceiverKept) (node : ℕ) (k new : ReceiverKept) (place : ℕ) (v : WorldKept)
    → IsPlace p rs node place k → k ≡ get_or rs place k → kept p s rs ≡ v → (k.hold.ups ≡ []) × (new ≡ k)
    → AreTaken (receiver_of (kept p s (set rs place new)) node) × (kept p s (set rs place new) ≡ v)
none_left p s rs node k new place v at read same h =
    let still : set rs place new ≡ rs = ap (set rs place) (h.1 ∙ read) ∙ set-get_or rs place k in (
      subst (λ (xs : List ReceiverKept). AreTaken (slice_get xs (place_of p node))) (sym still) (subst AreTaken (sym at.there) h.0),
      ap (λ (xs : List ReceiverKept). kept p s xs) still ∙ same,
    )

-- ---- a member that is no receiver

pub is_sender : (p : Settings) (node : ℕ) → is_node p node ≡ true → is_receiver p node ≡ false → node ≡ p.sender
is_sender p node e other = (Decides-eqb node p.sender).0 (go (node == p.sender) (is_receiver p node) e other)
  where
    go : (a b : Bool) → (a || b) ≡ true → b ≡ false → a ≡ true
    go true b e other = refl
    go false true e other = absurd (cc)
    go false false e other = absurd (cc)
