-- The receivers of a gathering: by their senders, and what each call makes of them.
use Rattle.std.proofs.Common.{◌≡◌, ◌∙◌, sym, ap, subst, refl, ℕ, List, [], ◌∷◌, ◌++◌, map, Bool, true, false, Option, None, Some, is_some, cond, ◌⊎◌, inl, inr}
use Rattle.std.specs.Prelude.{◌==◌, ◌||◌, option_and_then, IsSome}
use Rattle.std.specs.Option.{option_map, option_or}
use Rattle.norm_base.specs.Settings.{Settings}
use Rattle.norm_multi.specs.Beginning.{AreBegun, IsBegun, ids_of, is_among, first_no_receiver, first_repeated, fault_of}
use Rattle.norm_multi.specs.Calls.{Call, Delivered, own_event, if_own, member_of, owner_in}
use Rattle.norm_multi.specs.MultiMoves.{role_of, after_own, Moves, IsCall, Answers, AnswersOf, AreTaken}
use Rattle.norm_multi.specs.Owner.{owner_of}
use Rattle.norm_multi.specs.declared.member.Member.{Member}
use Rattle.norm_multi.specs.declared.multi.MultiFault.TheVariants.{NotReceiver, SameId}
use Rattle.norm_multi.proofs.MemberLemmas.{is_same, same_self, not_same}
use Rattle.norm_multi.proofs.OwnLemmas.{own_laws}
use Rattle.norm_receive_rules.specs.ReceiverStep.{ReceiverEvent, ReceiverAnswer, receiver_step}
use Rattle.norm_receive_rules.specs.ReceiverStep as receiver
use Rattle.norm_receive_rules.specs.Receiving.{received}
use Rattle.norm_receiver.specs.ReceiverKept.{ReceiverKept}
use Rattle.norm_receiver.specs.ReceiverSound.{StandsFor as ReceiverStands}
use Rattle.driven_nodes.specs.Gathered.{Hearer, hearer_at, hears, hearer_of, uses_draw}
use Rattle.driven_nodes.specs.Hearing.{IsMemberOf, IsAt, IsApart, AreApart, AreHeard, role}

-- ---- one value or another

abbrev inner : {X : Type 0} → X → Option X → X
inner x None = x
inner x (Some y) = y

pub same_inside : {X : Type 0} → (x y : X) → Some x ≡ Some y → x ≡ y
same_inside x y e = ap (inner x) e

pub nothing_inside : {X : Type 0} → (x : X) → None ≡ Some x → ⊥
nothing_inside x e = cc

pub decide : (a b : ℕ) → (a ≡ b) ⊎ (a ≡ b → ⊥)
decide a b = go (a == b) refl
  where
    no : false ≡ true → ⊥
    no e = cc

    go : (t : Bool) → (a == b) ≡ t → (a ≡ b) ⊎ (a ≡ b → ⊥)
    go true e = inl (is_same a b e)
    go false e = inr (λ is. no (sym e ∙ ap (λ i. a == i) (sym is) ∙ same_self a))

-- ---- receivers by their senders

abbrev hearer_by : Bool → Hearer → Option Hearer → Option Hearer
hearer_by here h others = cond here (Some h) others

pub found_here : (done : List Hearer) (h : Hearer) (todo : List Hearer) (s : ℕ) → h.p.sender ≡ s → IsApart s done → hearer_of (done ++ h ∷ todo) s ≡ Some h
found_here [] h todo s is apart = ap (λ b. hearer_by b h (hearer_of todo s)) (ap (λ t. t == s) is ∙ same_self s)
found_here (k ∷ done) h todo s is apart =
    ap (λ b. hearer_by b k (hearer_of (done ++ h ∷ todo) s)) (not_same k.p.sender s apart.0) ∙ found_here done h todo s is apart.1

-- another receiver in the place of one of the same sender
pub found_other : (done : List Hearer) (h k : Hearer) (todo : List Hearer) (s t : ℕ) → h.p.sender ≡ s → k.p.sender ≡ s → (s ≡ t → ⊥)
    → hearer_of (done ++ k ∷ todo) t ≡ hearer_of (done ++ h ∷ todo) t
found_other [] h k todo s t hs ks differs =
    ap (λ b. hearer_by b k (hearer_of todo t)) (not_same k.p.sender t (λ e. differs (sym ks ∙ e)))
    ∙ sym (ap (λ b. hearer_by b h (hearer_of todo t)) (not_same h.p.sender t (λ e. differs (sym hs ∙ e))))
found_other (x ∷ done) h k todo s t hs ks differs = ap (λ o. hearer_by (x.p.sender == t) x o) (found_other done h k todo s t hs ks differs)

-- what is found is the sender's
pub found_is : (hearers : List Hearer) (s : ℕ) (h : Hearer) → hearer_of hearers s ≡ Some h → h.p.sender ≡ s
found_is [] s h e = absurd (nothing_inside h e)
found_is (x ∷ hearers) s h e = go (x.p.sender == s) refl e (found_is hearers s h)
  where
    go : (b : Bool) → (x.p.sender == s) ≡ b → hearer_by b x (hearer_of hearers s) ≡ Some h → (hearer_of hearers s ≡ Some h → h.p.sender ≡ s) → h.p.sender ≡ s
    go true is e more = ap (λ (k : Hearer). k.p.sender) (sym (same_inside x h e)) ∙ is_same x.p.sender s is
    go false is e more = more e

-- ---- senders that differ

apart_from : (s : ℕ) (done : List Hearer) (h : Hearer) (todo : List Hearer) → IsApart s (done ++ h ∷ todo) → h.p.sender ≡ s → ⊥
apart_from s [] h todo apart = apart.0
apart_from s (k ∷ done) h todo apart = apart_from s done h todo apart.1

pub apart_before : (done : List Hearer) (h : Hearer) (todo : List Hearer) → AreApart (done ++ h ∷ todo) → IsApart h.p.sender done
apart_before [] h todo apart = tt
apart_before (k ∷ done) h todo apart = (λ e. apart_from k.p.sender done h todo apart.0 (sym e), apart_before done h todo apart.1)

apart_same : (s : ℕ) (done : List Hearer) (h k : Hearer) (todo : List Hearer) → h.p.sender ≡ k.p.sender → IsApart s (done ++ h ∷ todo)
    → IsApart s (done ++ k ∷ todo)
apart_same s [] h k todo is apart = (λ e. apart.0 (is ∙ e), apart.1)
apart_same s (x ∷ done) h k todo is apart = (apart.0, apart_same s done h k todo is apart.1)

pub are_apart_same : (done : List Hearer) (h k : Hearer) (todo : List Hearer) → h.p.sender ≡ k.p.sender → AreApart (done ++ h ∷ todo)
    → AreApart (done ++ k ∷ todo)
are_apart_same [] h k todo is apart = (subst (λ s. IsApart s todo) is apart.0, apart.1)
are_apart_same (x ∷ done) h k todo is apart = (apart_same x.p.sender done h k todo is apart.0, are_apart_same done h k todo is apart.1)

-- ---- members

record SameRole (m k : Member) : Type 0 where
  p : k.receiver.p ≡ m.receiver.p
  node : k.node ≡ m.node

same_role : (m k : Member) → Some (role_of k) ≡ Some (role_of m) → SameRole m k
same_role m k e = record {
  p = ap (λ (o : Option (ℕ × Settings × ℕ)). elim o [ Some x ↦ x.1 | None ↦ m.receiver.p ]) e;
  node = ap (λ (o : Option (ℕ × Settings × ℕ)). elim o [ Some x ↦ x.2 | None ↦ m.node ]) e;
}

-- a receiver that no event came to
stays : (old new : Option Member) (o : Option Hearer) → option_map role_of new ≡ option_map role_of old → Moves None old new → IsMemberOf old o → IsMemberOf new o
stays None None o same moves is = is
stays None (Some k) o same moves is = absurd (cc)
stays (Some m) None o same moves is = absurd moves
stays (Some m) (Some k) None same moves is = absurd is
stays (Some m) (Some k) (Some h) same moves is =
    let r = same_role m k same in (r.p ∙ is.0, r.node ∙ is.1, moves h.r is.2)

-- one that an event came to
moves_to : (event : ReceiverEvent) (old new : Option Member) (h k : Hearer) → option_map role_of new ≡ option_map role_of old → Moves (Some event) old new
    → IsMemberOf old (Some h) → k.p ≡ h.p → k.node ≡ h.node → k.r ≡ (receiver_step h.p h.r event).0 → IsMemberOf new (Some k)
moves_to event None new h k same moves is p node state = absurd is
moves_to event (Some m) None h k same moves is p node state = absurd moves
moves_to event (Some m) (Some n) h k same moves is p node state =
    let r = same_role m n same in (
      r.p ∙ is.0 ∙ sym p,
      r.node ∙ is.1 ∙ sym node,
      subst (λ s. ReceiverStands n.receiver s) (ap (λ (q : Settings). (receiver_step q h.r event).0) is.0 ∙ sym state) (moves h.r is.2),
    )

-- what is said of another sender's receiver, and of the sender's own
own_event_of : (s : ℕ) (event : ReceiverEvent) → if_own s event (Some s) ≡ Some event
own_event_of s event = ap (λ b. elim b [ true ↦ Some event | false ↦ None ]) (same_self s)

no_event_of : (s t : ℕ) (event : ReceiverEvent) → (s ≡ t → ⊥) → if_own t event (Some s) ≡ None
no_event_of s t event differs = ap (λ b. elim b [ true ↦ Some event | false ↦ None ]) (not_same s t differs)

-- a call of a sender's receiver leaves the others
pub others_stay : (old new : List Member) (call : Call) (s : ℕ) (event : ReceiverEvent) → IsCall old new call → ((t : ℕ) → own_event t call ≡ if_own t event (Some s))
    → (t : ℕ) → (s ≡ t → ⊥) → (o : Option Hearer) → IsMemberOf (member_of old t) o → IsMemberOf (member_of new t) o
others_stay old new call s event is owns t differs o st =
    stays (member_of old t) (member_of new t) o (is.roles t)
    (subst (λ e. Moves e (member_of old t) (member_of new t)) (owns t ∙ no_event_of s t event differs) (is.moves t)) st

pub own_moves : (old new : List Member) (call : Call) (s : ℕ) (event : ReceiverEvent) (h k : Hearer) → IsCall old new call
    → ((t : ℕ) → own_event t call ≡ if_own t event (Some s)) → IsMemberOf (member_of old s) (Some h) → k.p ≡ h.p → k.node ≡ h.node
    → k.r ≡ (receiver_step h.p h.r event).0 → IsMemberOf (member_of new s) (Some k)
own_moves old new call s event h k is owns st p node state =
    moves_to event (member_of old s) (member_of new s) h k (is.roles s)
    (subst (λ e. Moves e (member_of old s) (member_of new s)) (owns s ∙ own_event_of s event) (is.moves s)) st p node state

-- a member is there still
there_by : (old new : Option Member) → option_map role_of new ≡ option_map role_of old → IsSome old → IsSome new
there_by None new same some = absurd (cc)
there_by (Some m) None same some = absurd (cc)
there_by (Some m) (Some k) same some = refl

pub there_still : (old new : List Member) (call : Call) (s : ℕ) → IsCall old new call → IsSome (member_of old s) → IsSome (member_of new s)
there_still old new call s is some = there_by (member_of old s) (member_of new s) (is.roles s) some

pub is_there : (o : Option Member) (h : Hearer) → IsMemberOf o (Some h) → IsSome o
is_there None h is = absurd is
is_there (Some m) h is = refl

-- what a call answers is what the rules say of the receiver
pub answers_it : (members : List Member) (s : ℕ) (h : Hearer) (event : ReceiverEvent) (Fits : ReceiverAnswer → Type 0)
    → IsMemberOf (member_of members s) (Some h) → Answers members s event Fits → Fits (receiver_step h.p h.r event).1
answers_it members s h event Fits is answers = go (member_of members s) is answers
  where
    go : (o : Option Member) → IsMemberOf o (Some h) → AnswersOf event Fits members s o → Fits (receiver_step h.p h.r event).1
    go None is answers = absurd is
    go (Some m) is answers = subst (λ (q : Settings). Fits (receiver_step q h.r event).1) is.0 (answers.0 h.r is.2)

-- the receiver that a member lends
pub lends : (o : Option Member) (k : ReceiverKept) (h : Hearer) → IsMemberOf o (Some h) → option_map (λ (m : Member). m.receiver) o ≡ Some k → ReceiverStands k h.r
lends None k h is e = absurd is
lends (Some m) k h is e = subst (λ x. ReceiverStands x h.r) (same_inside m.receiver k e) is.2

pub taken_all : (o : Option Member) (k : ReceiverKept) → option_map (λ (m : Member). m.receiver) o ≡ Some k → k.hold.ups ≡ [] → AreTaken o
taken_all None k e none = tt
taken_all (Some m) k e none = ap (λ (x : ReceiverKept). x.hold.ups) (same_inside m.receiver k e) ∙ none

-- ---- a datagram

abbrev hears_in : ℕ → List ℕ → (now draw : ℕ) → Option ℕ → Option ReceiverEvent
hears_in s datagram now draw owner = if_own s (receiver.Delivered datagram now draw) owner

-- a receiver that hears all does what the one does that hears only what is its sender's
hears_own : (h : Hearer) (s : ℕ) (datagram : List ℕ) (now draw : ℕ) → h.p.sender ≡ s
    → after_own h.p h.r (hears_in s datagram now draw (owner_of datagram)) ≡ received h.p h.r datagram now draw
hears_own h s datagram now draw mine = go (owner_of datagram) refl
  where
    others : (owner_of datagram ≡ Some h.p.sender → ⊥) → h.r ≡ received h.p h.r datagram now draw
    others differs = sym (own_laws.others h.p h.r datagram now draw differs)

    no : false ≡ true → ⊥
    no e = cc

    at : (t : ℕ) (b : Bool) → owner_of datagram ≡ Some t → (t == s) ≡ b
        → after_own h.p h.r (elim b [ true ↦ Some (receiver.Delivered datagram now draw) | false ↦ None ]) ≡ received h.p h.r datagram now draw
    at t true some is = refl
    at t false some is =
        others (λ e. no (sym is ∙ ap (λ i. i == s) (same_inside t h.p.sender (sym some ∙ e) ∙ mine) ∙ same_self s))

    go : (o : Option ℕ) → owner_of datagram ≡ o → after_own h.p h.r (hears_in s datagram now draw o) ≡ received h.p h.r datagram now draw
    go None none = others (λ e. nothing_inside h.p.sender (sym none ∙ e))
    go (Some t) some = at t (t == s) some refl

heard_by : (event : Option ReceiverEvent) (datagram : List ℕ) (now draw : ℕ) (old new : Option Member) (o : Option Hearer)
    → option_map role_of new ≡ option_map role_of old → Moves event old new
    → ((h : Hearer) → o ≡ Some h → after_own h.p h.r event ≡ received h.p h.r datagram now draw)
    → IsMemberOf old o → IsMemberOf new (option_map (hears datagram now draw) o)
heard_by event datagram now draw None None None same moves own is = tt
heard_by event datagram now draw None (Some k) None same moves own is = absurd (cc)
heard_by event datagram now draw None new (Some h) same moves own is = absurd is
heard_by event datagram now draw (Some m) new None same moves own is = absurd is
heard_by event datagram now draw (Some m) None (Some h) same moves own is = absurd moves
heard_by event datagram now draw (Some m) (Some k) (Some h) same moves own is =
    let r = same_role m k same in (
      r.p ∙ is.0,
      r.node ∙ is.1,
      subst (λ s. ReceiverStands k.receiver s) (ap (λ (q : Settings). after_own q h.r event) is.0 ∙ own h refl) (moves h.r is.2),
    )

found_heard : (datagram : List ℕ) (now draw : ℕ) (hearers : List Hearer) (s : ℕ)
    → hearer_of (map (hears datagram now draw) hearers) s ≡ option_map (hears datagram now draw) (hearer_of hearers s)
found_heard datagram now draw [] s = refl
found_heard datagram now draw (h ∷ hearers) s =
    ap (λ o. hearer_by (h.p.sender == s) (hears datagram now draw h) o) (found_heard datagram now draw hearers s) ∙ go (h.p.sender == s)
  where
    go : (b : Bool) → hearer_by b (hears datagram now draw h) (option_map (hears datagram now draw) (hearer_of hearers s))
        ≡ option_map (hears datagram now draw) (hearer_by b h (hearer_of hearers s))
    go true = refl
    go false = refl

roles_heard : (datagram : List ℕ) (now draw : ℕ) (hearers : List Hearer) → map role (map (hears datagram now draw) hearers) ≡ map role hearers
roles_heard datagram now draw [] = refl
roles_heard datagram now draw (h ∷ hearers) = ap (λ xs. role h ∷ xs) (roles_heard datagram now draw hearers)

apart_heard : (datagram : List ℕ) (now draw s : ℕ) (hearers : List Hearer) → IsApart s hearers → IsApart s (map (hears datagram now draw) hearers)
apart_heard datagram now draw s [] apart = tt
apart_heard datagram now draw s (h ∷ hearers) apart = (apart.0, apart_heard datagram now draw s hearers apart.1)

are_apart_heard : (datagram : List ℕ) (now draw : ℕ) (hearers : List Hearer) → AreApart hearers → AreApart (map (hears datagram now draw) hearers)
are_apart_heard datagram now draw [] apart = tt
are_apart_heard datagram now draw (h ∷ hearers) apart = (apart_heard datagram now draw h.p.sender hearers apart.0, are_apart_heard datagram now draw hearers apart.1)

-- all receivers hear a datagram
pub all_heard : (list : List (Settings × ℕ)) (old new : List Member) (hearers : List Hearer) (datagram : List ℕ) (now draw : ℕ) → AreHeard list old hearers
    → IsCall old new (Delivered datagram now draw) → AreHeard list new (map (hears datagram now draw) hearers)
all_heard list old new hearers datagram now draw heard call = record {
  roles = roles_heard datagram now draw hearers ∙ heard.roles;
  apart = are_apart_heard datagram now draw hearers heard.apart;
  stand = λ s. subst (λ o. IsMemberOf (member_of new s) o) (sym (found_heard datagram now draw hearers s))
      (heard_by (own_event s (Delivered datagram now draw)) datagram now draw (member_of old s) (member_of new s) (hearer_of hearers s) (call.roles s) (call.moves s)
      (λ h is. hears_own h s datagram now draw (found_is hearers s h is)) (heard.stand s));
}

-- whether a datagram belongs to one of them
there_both : (o : Option Member) (h : Option Hearer) (s : ℕ) → IsMemberOf o h → is_some (option_map (λ (m : Member). s) o) ≡ is_some h
there_both None None s is = refl
there_both None (Some h) s is = absurd is
there_both (Some m) None s is = absurd is
there_both (Some m) (Some h) s is = refl

pub draws_it : (members : List Member) (hearers : List Hearer) (datagram : List ℕ) → ((s : ℕ) → IsMemberOf (member_of members s) (hearer_of hearers s))
    → is_some (owner_in members datagram) ≡ uses_draw hearers (owner_of datagram)
draws_it members hearers datagram stand = go (owner_of datagram)
  where
    go : (o : Option ℕ) → is_some (option_and_then (λ s. option_map (λ (m : Member). s) (member_of members s)) o) ≡ uses_draw hearers o
    go None = refl
    go (Some s) = there_both (member_of members s) (hearer_of hearers s) s (stand s)

-- ---- one receiver of the list

-- it is the member of its sender
pub at_one : (list : List (Settings × ℕ)) (members : List Member) (done : List Hearer) (h : Hearer) (todo : List Hearer) (s node : ℕ)
    → AreHeard list members (done ++ h ∷ todo) → h.p.sender ≡ s → h.node ≡ node → IsAt s node members h
at_one list members done h todo s node heard sender at = record {
  member = subst (λ o. IsMemberOf (member_of members s) o)
      (found_here done h todo s sender (subst (λ t. IsApart t done) sender (apart_before done h todo heard.apart))) (heard.stand s);
  sender = sender;
  at = at;
}

roles_same : (done : List Hearer) (h k : Hearer) (todo : List Hearer) → role k ≡ role h → map role (done ++ k ∷ todo) ≡ map role (done ++ h ∷ todo)
roles_same [] h k todo is = ap (λ x. x ∷ map role todo) is
roles_same (x ∷ done) h k todo is = ap (λ xs. role x ∷ xs) (roles_same done h k todo is)

-- it changed, and the others stayed
pub one_changed : (list : List (Settings × ℕ)) (old new : List Member) (done : List Hearer) (h k : Hearer) (todo : List Hearer) (s : ℕ)
    → AreHeard list old (done ++ h ∷ todo) → h.p.sender ≡ s → k.p ≡ h.p → k.node ≡ h.node → IsMemberOf (member_of new s) (Some k)
    → ((t : ℕ) → (s ≡ t → ⊥) → (o : Option Hearer) → IsMemberOf (member_of old t) o → IsMemberOf (member_of new t) o)
    → AreHeard list new (done ++ k ∷ todo)
one_changed list old new done h k todo s heard sender p node is others =
    let ks : k.p.sender ≡ s = ap (λ (q : Settings). q.sender) p ∙ sender in
    let same : h.p.sender ≡ k.p.sender = sender ∙ sym ks in
    let apart = are_apart_same done h k todo same heard.apart in
    let here : hearer_of (done ++ k ∷ todo) s ≡ Some k = found_here done k todo s ks (subst (λ t. IsApart t done) ks (apart_before done k todo apart)) in
    record {
      roles = roles_same done h k todo (ap (λ (q : Settings). (q, k.node)) p ∙ ap (λ n. (h.p, n)) node) ∙ heard.roles;
      apart = apart;
      stand = λ t. go t (decide s t) here ks;
    }
  where
    go : (t : ℕ) → (s ≡ t) ⊎ (s ≡ t → ⊥) → hearer_of (done ++ k ∷ todo) s ≡ Some k → k.p.sender ≡ s → IsMemberOf (member_of new t) (hearer_of (done ++ k ∷ todo) t)
    go t (inl e) here ks = subst (λ i. IsMemberOf (member_of new i) (hearer_of (done ++ k ∷ todo) i)) e (subst (λ o. IsMemberOf (member_of new s) o) (sym here) is)
    go t (inr differs) here ks =
        subst (λ o. IsMemberOf (member_of new t) o) (sym (found_other done h k todo s t sender ks differs))
        (others t differs (hearer_of (done ++ h ∷ todo) t) (heard.stand t))

-- ---- as they begin

begun_by : (b : Bool) (x : Settings × ℕ) (m : Member) (o : Option Member) (others : Option Hearer) → IsBegun x m → IsMemberOf o others
    → IsMemberOf (cond b (Some m) o) (hearer_by b (hearer_at x) others)
begun_by true x m o others is more =
    (is.profile, is.node, is.stands)
begun_by false x m o others is more = more

begun_stand : (list : List (Settings × ℕ)) (members : List Member) (s : ℕ) → AreBegun list members → IsMemberOf (member_of members s) (hearer_of (map hearer_at list) s)
begun_stand [] [] s is = tt
begun_stand [] (m ∷ members) s is = absurd is
begun_stand (x ∷ list) [] s is = absurd is
begun_stand (x ∷ list) (m ∷ members) s is =
    subst (λ t. IsMemberOf (cond (t == s) (Some m) (member_of members s)) (hearer_by (x.0.sender == s) (hearer_at x) (hearer_of (map hearer_at list) s)))
    (sym is.0.sender)
    (begun_by (x.0.sender == s) x m (member_of members s) (hearer_of (map hearer_at list) s) is.0 (begun_stand list members s is.1))

roles_begun : (list : List (Settings × ℕ)) → map role (map hearer_at list) ≡ list
roles_begun [] = refl
roles_begun (x ∷ list) = ap (λ xs. x ∷ xs) (roles_begun list)

-- an id that stood before
among_more : (before more : List ℕ) (s : ℕ) → is_among before s ≡ true → is_among (before ++ more) s ≡ true
among_more [] more s is = absurd (cc)
among_more (x ∷ before) more s is = go (x == s) is (among_more before more s)
  where
    go : (b : Bool) → (b || is_among before s) ≡ true → (is_among before s ≡ true → is_among (before ++ more) s ≡ true)
        → (b || is_among (before ++ more) s) ≡ true
    go true is rest = refl
    go false is rest = rest is

among_last : (before : List ℕ) (s : ℕ) → is_among (before ++ s ∷ []) s ≡ true
among_last [] s = ap (λ b. b || false) (same_self s)
among_last (x ∷ before) s = go (x == s) (among_last before s)
  where
    go : (b : Bool) → is_among (before ++ s ∷ []) s ≡ true → (b || is_among (before ++ s ∷ []) s) ≡ true
    go true is = refl
    go false is = is

-- the first of these was not there, and the rest goes on
record Goes (before : List ℕ) (id : ℕ) (ids : List ℕ) : Type 0 where
  fresh : is_among before id ≡ false
  rest : first_repeated (before ++ id ∷ []) ids ≡ None

goes_on : (before : List ℕ) (id : ℕ) (ids : List ℕ) → first_repeated before (id ∷ ids) ≡ None → Goes before id ids
goes_on before id ids none = go (is_among before id) refl none
  where
    go : (b : Bool) → is_among before id ≡ b → cond b (Some id) (first_repeated (before ++ id ∷ []) ids) ≡ None → Goes before id ids
    go true is e = absurd (nothing_inside id (sym e))
    go false is e = record { fresh = is; rest = e }

apart_begun : (s : ℕ) (before : List ℕ) (list : List (Settings × ℕ)) → is_among before s ≡ true → first_repeated before (ids_of list) ≡ None
    → IsApart s (map hearer_at list)
apart_begun s before [] there none = tt
apart_begun s before (x ∷ list) there none =
    let a = goes_on before x.0.sender (x.1 ∷ ids_of list) none in
    let b = goes_on (before ++ x.0.sender ∷ []) x.1 (ids_of list) a.rest in (
      λ e. differ (sym a.fresh ∙ ap (is_among before) e ∙ there),
      apart_begun s ((before ++ x.0.sender ∷ []) ++ x.1 ∷ []) list
          (among_more (before ++ x.0.sender ∷ []) (x.1 ∷ []) s (among_more before (x.0.sender ∷ []) s there)) b.rest,
    )
  where
    differ : false ≡ true → ⊥
    differ e = cc

are_apart_begun : (before : List ℕ) (list : List (Settings × ℕ)) → first_repeated before (ids_of list) ≡ None → AreApart (map hearer_at list)
are_apart_begun before [] none = tt
are_apart_begun before (x ∷ list) none =
    let a = goes_on before x.0.sender (x.1 ∷ ids_of list) none in
    let b = goes_on (before ++ x.0.sender ∷ []) x.1 (ids_of list) a.rest in
    let later = (before ++ x.0.sender ∷ []) ++ x.1 ∷ [] in (
      apart_begun x.0.sender later list (among_more (before ++ x.0.sender ∷ []) (x.1 ∷ []) x.0.sender (among_last before x.0.sender)) b.rest,
      are_apart_begun later list b.rest,
    )

-- no fault: no id stands twice
none_repeated : (list : List (Settings × ℕ)) → fault_of list ≡ None → first_repeated [] (ids_of list) ≡ None
none_repeated list none = go (first_no_receiver list) (first_repeated [] (ids_of list)) none
  where
    go : (i n : Option ℕ) → option_or (option_map NotReceiver i) (option_map SameId n) ≡ None → n ≡ None
    go None None e = refl
    go None (Some x) e = absurd (cc)
    go (Some i) n e = absurd (cc)

pub begun_heard : (list : List (Settings × ℕ)) (members : List Member) → AreBegun list members → fault_of list ≡ None → AreHeard list members (map hearer_at list)
begun_heard list members is none = record {
  roles = roles_begun list;
  apart = are_apart_begun [] list (none_repeated list none);
  stand = λ s. begun_stand list members s is;
}
