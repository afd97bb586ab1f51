-- Calls of a receiver of several senders, by what each does to one member.
use Rattle.std.proofs.Common.{◌≡◌, ℕ, ◌⊎◌, inl, inr, List, [], ◌∷◌, ◌++◌, Bool, true, false, Option, None, Some, Result, Ok, Err, refl, sym, ap, ◌∙◌, subst, set, get_or, length}
use Rattle.std.specs.Prelude.{◌==◌, slice_get, option_and_then, IfNone, IfSome, OnErr}
use Rattle.std.specs.Option.{option_map}
use Rattle.norm_base.specs.Settings.{Settings}
use Rattle.norm_receive_rules.specs.InstanceLaws.{after}
use Rattle.norm_receive_rules.specs.ReceiverState.{ReceiverState, receiver_opening}
use Rattle.norm_receive_rules.specs.ReceiverStep.{ReceiverEvent, ReceiverAnswer, receiver_step}
use Rattle.norm_receive_rules.specs.ReceiverStep as receiver
use Rattle.norm_receiver.specs.ReceiverKept.{ReceiverKept}
use Rattle.norm_receiver.specs.ReceiverSound.{StandsFor as ReceiverStands}
use Rattle.std.proofs.lemmas.Option.{slice_get_read}
use Rattle.std.proofs.lemmas.List.{set-get_or}
use Rattle.norm_multi.specs.Calls.{Call, Delivered, Taken, Ticked, own_event, if_own, onto, only, alone, index_in, member_of, owner_in, IsAlone}
use Rattle.norm_multi.specs.MultiMoves.{role_of, HaveSameRoles, after_own, Moves, IsCall, IsNoCall, AnswersOf, Answers, AreTaken, IsInInstance, MayWant, MayLackMemory}
use Rattle.norm_multi.specs.Owner.{owner_of}
use Rattle.norm_multi.specs.declared.member.Member.{Member}
use Rattle.norm_multi.proofs.MemberLemmas.{not_same, is_same, same_self, member_at, member_none, member_set, member_stays, member_in, index_within}

-- ---- lists of calls

only_more : (s : ℕ) (calls : List Call) (call : Call) → only s (calls ++ call ∷ []) ≡ only s calls ++ onto (own_event s call) []
only_more s [] call = refl
only_more s (first ∷ calls) call = ap (onto (own_event s first)) (only_more s calls call) ∙ go (own_event s first)
  where
    go : (o : Option ReceiverEvent) → onto o (only s calls ++ onto (own_event s call) []) ≡ onto o (only s calls) ++ onto (own_event s call) []
    go None = refl
    go (Some event) = refl

after_more : (p : Settings) (r : ReceiverState) (events more : List ReceiverEvent) → after p r (events ++ more) ≡ after p (after p r events) more
after_more p r [] more = refl
after_more p r (event ∷ events) more = after_more p (receiver_step p r event).0 events more

after_onto : (p : Settings) (r : ReceiverState) (o : Option ReceiverEvent) → after p r (onto o []) ≡ after_own p r o
after_onto p r None = refl
after_onto p r (Some event) = refl

alone_more : (p : Settings) (node s : ℕ) (calls : List Call) (call : Call)
    → alone p node s (calls ++ call ∷ []) ≡ after_own p (alone p node s calls) (own_event s call)
alone_more p node s calls call =
    ap (after p (receiver_opening node)) (only_more s calls call)
    ∙ after_more p (receiver_opening node) (only s calls) (onto (own_event s call) [])
    ∙ after_onto p (alone p node s calls) (own_event s call)

-- ---- what each receiver did makes what all did

-- the same roles
record Same (m k : Member) : Type 0 where
  p : k.receiver.p ≡ m.receiver.p
  node : k.node ≡ m.node

same_roles : (m k : Member) → Some (role_of k) ≡ Some (role_of m) → Same m k
same_roles m k e = record {
  p = ap (λ (o : Option (ℕ × Settings × ℕ)). elim o [ Some x ↦ x.1 | None ↦ m.receiver.p ]) e;
  node = ap (λ (o : Option (ℕ × Settings × ℕ)). elim o [ Some x ↦ x.2 | None ↦ m.node ]) e;
}

stand_on : (s : ℕ) (calls : List Call) (call : Call) (old new : Option Member) → option_map role_of new ≡ option_map role_of old
    → Moves (own_event s call) old new → IsAlone s calls old → IsAlone s (calls ++ call ∷ []) new
stand_on s calls call None None same moves st = tt
stand_on s calls call None (Some k) same moves st = absurd (cc)
stand_on s calls call (Some m) None same moves st = absurd moves
stand_on s calls call (Some m) (Some k) same moves st =
    let is = same_roles m k same in
    subst (λ (x : ReceiverState). ReceiverStands k.receiver x)
    (sym (alone_more m.receiver.p m.node s calls call) ∙ ap (λ (q : Settings). alone q m.node s (calls ++ call ∷ [])) (sym is.p)
    ∙ ap (λ i. alone k.receiver.p i s (calls ++ call ∷ [])) (sym is.node))
    (moves (alone m.receiver.p m.node s calls) st)

pub is_call : (old new : List Member) (call : Call) → HaveSameRoles old new → ((s : ℕ) → Moves (own_event s call) (member_of old s) (member_of new s))
    → IsCall old new call
is_call old new call roles moves = record {
  roles = roles;
  moves = moves;
  runs = λ calls st s. stand_on s calls call (member_of old s) (member_of new s) (roles s) (moves s) (st s);
}

still : (s : ℕ) (calls : List Call) (old new : Option Member) → option_map role_of new ≡ option_map role_of old
    → ((m k : Member) → old ≡ Some m → new ≡ Some k → (r : ReceiverState) → ReceiverStands m.receiver r → ReceiverStands k.receiver r)
    → IsAlone s calls old → IsAlone s calls new
still s calls None None same h st = tt
still s calls None (Some k) same h st = absurd (cc)
still s calls (Some m) None same h st = tt
still s calls (Some m) (Some k) same h st =
    let is = same_roles m k same in
    subst (λ (x : ReceiverState). ReceiverStands k.receiver x)
    (ap (λ (q : Settings). alone q m.node s calls) (sym is.p) ∙ ap (λ i. alone k.receiver.p i s calls) (sym is.node))
    (h m k refl refl (alone m.receiver.p m.node s calls) st)

-- ---- one member changed

-- a sender's member, which replaced the one before
pub record Changed (old : List Member) (s n : ℕ) (m k : Member) : Type 0 where
  pub found : index_in s old ≡ Some n
  pub there : slice_get old n ≡ Some m
  pub role : role_of k ≡ role_of m

own_of : (old : List Member) (s n : ℕ) (m k : Member) → Changed old s n m k → member_of old s ≡ Some m
own_of old s n m k at = member_at s old n m at.found at.there

new_of : (old : List Member) (s n : ℕ) (m k : Member) → Changed old s n m k → member_of (set old n k) s ≡ Some k
new_of old s n m k at = member_set s old n m k at.found at.there (ap (λ (x : ℕ × Settings × ℕ). x.0) at.role)

others_of : (old : List Member) (s n other : ℕ) (m k : Member) → Changed old s n m k → (s ≡ other → ⊥) → member_of (set old n k) other ≡ member_of old other
others_of old s n other m k at differs = member_stays s other old n m k at.found at.there (ap (λ (x : ℕ × Settings × ℕ). x.0) at.role) differs

-- one sender, or another
no_bool : false ≡ true → ⊥
no_bool e = cc

decide : (a b : ℕ) → (a ≡ b) ⊎ (a ≡ b → ⊥)
decide a b = go (a == b) refl
  where
    go : (t : Bool) → (a == b) ≡ t → (a ≡ b) ⊎ (a ≡ b → ⊥)
    go true e = inl (is_same a b e)
    go false e = inr (λ is. no_bool (sym e ∙ ap (λ i. a == i) (sym is) ∙ same_self a))

roles_kept : (old : List Member) (s n : ℕ) (m k : Member) → Changed old s n m k → HaveSameRoles old (set old n k)
roles_kept old s n m k at other = go (decide s other)
  where
    go : (s ≡ other) ⊎ (s ≡ other → ⊥) → option_map role_of (member_of (set old n k) other) ≡ option_map role_of (member_of old other)
    go (inl is) = subst (λ i. option_map role_of (member_of (set old n k) i) ≡ option_map role_of (member_of old i)) is
        (ap (option_map role_of) (new_of old s n m k at) ∙ ap Some at.role ∙ sym (ap (option_map role_of) (own_of old s n m k at)))
    go (inr differs) = ap (option_map role_of) (others_of old s n other m k at differs)

-- a receiver that no event came to
stays : (o : Option Member) → Moves None o o
stays None = refl
stays (Some m) = λ r st. st

-- an event of a sender's own
moved : (event : ReceiverEvent) (old new : Option Member) (m k : Member) → old ≡ Some m → new ≡ Some k
    → ((r : ReceiverState) → ReceiverStands m.receiver r → ReceiverStands k.receiver (receiver_step m.receiver.p r event).0) → Moves (Some event) old new
moved event old new m k is now h =
    subst (λ (o : Option Member). Moves (Some event) o new) (sym is) (subst (λ (o : Option Member). Moves (Some event) (Some m) o) (sym now) h)

pub own_call : (old : List Member) (s n : ℕ) (m k : Member) (call : Call) (event : ReceiverEvent) → Changed old s n m k
    → own_event s call ≡ Some event → ((other : ℕ) → (s ≡ other → ⊥) → own_event other call ≡ None)
    → ((r : ReceiverState) → ReceiverStands m.receiver r → ReceiverStands k.receiver (receiver_step m.receiver.p r event).0)
    → IsCall old (set old n k) call
own_call old s n m k call event at own others steps = is_call old (set old n k) call (roles_kept old s n m k at) (λ other. go other (decide s other))
  where
    go : (other : ℕ) → (s ≡ other) ⊎ (s ≡ other → ⊥) → Moves (own_event other call) (member_of old other) (member_of (set old n k) other)
    go other (inl is) = subst (λ i. Moves (own_event i call) (member_of old i) (member_of (set old n k) i)) is
        (subst (λ (o : Option ReceiverEvent). Moves o (member_of old s) (member_of (set old n k) s)) (sym own)
        (moved event (member_of old s) (member_of (set old n k) s) m k (own_of old s n m k at) (new_of old s n m k at) steps))
    go other (inr differs) =
        subst (λ (o : Option ReceiverEvent). Moves o (member_of old other) (member_of (set old n k) other)) (sym (others other differs))
        (subst (λ (o : Option Member). Moves None (member_of old other) o) (sym (others_of old s n other m k at differs)) (stays (member_of old other)))

-- ---- the calls

-- an owner's own event, and nobody else's
own_here : (s : ℕ) (event : ReceiverEvent) → if_own s event (Some s) ≡ Some event
own_here s event = ap (λ b. elim b [ true ↦ Some event | false ↦ None ]) (same_self s)

own_nowhere : (s other : ℕ) (event : ReceiverEvent) → (s ≡ other → ⊥) → if_own other event (Some s) ≡ None
own_nowhere s other event differs = ap (λ b. elim b [ true ↦ Some event | false ↦ None ]) (not_same s other differs)

pub delivers : (old : List Member) (s n : ℕ) (m k : Member) (bytes : List ℕ) (now draw : ℕ) → owner_of bytes ≡ Some s → Changed old s n m k
    → ((r : ReceiverState) → ReceiverStands m.receiver r → ReceiverStands k.receiver (receiver_step m.receiver.p r (receiver.Delivered bytes now draw)).0)
    → IsCall old (set old n k) (Delivered bytes now draw)
delivers old s n m k bytes now draw owner at h =
    own_call old s n m k (Delivered bytes now draw) (receiver.Delivered bytes now draw) at
    (ap (if_own s (receiver.Delivered bytes now draw)) owner ∙ own_here s (receiver.Delivered bytes now draw))
    (λ other differs. ap (if_own other (receiver.Delivered bytes now draw)) owner ∙ own_nowhere s other (receiver.Delivered bytes now draw) differs) h

pub takes : (old : List Member) (s n : ℕ) (m k : Member) → Changed old s n m k
    → ((r : ReceiverState) → ReceiverStands m.receiver r → ReceiverStands k.receiver (receiver_step m.receiver.p r receiver.UpTaken).0)
    → IsCall old (set old n k) (Taken s)
takes old s n m k at h =
    own_call old s n m k (Taken s) receiver.UpTaken at (own_here s receiver.UpTaken) (λ other differs. own_nowhere s other receiver.UpTaken differs) h

pub ticks : (old : List Member) (s n : ℕ) (m k : Member) (now : ℕ) → Changed old s n m k
    → ((r : ReceiverState) → ReceiverStands m.receiver r → ReceiverStands k.receiver (receiver_step m.receiver.p r (receiver.Ticked now)).0)
    → IsCall old (set old n k) (Ticked s now)
ticks old s n m k now at h =
    own_call old s n m k (Ticked s now) (receiver.Ticked now) at (own_here s (receiver.Ticked now))
    (λ other differs. own_nowhere s other (receiver.Ticked now) differs) h

-- nothing happened to a sender's receiver
pub keeps : (old : List Member) (s n : ℕ) (m k : Member) → Changed old s n m k
    → ((r : ReceiverState) → ReceiverStands m.receiver r → ReceiverStands k.receiver r) → IsNoCall old (set old n k)
keeps old s n m k at h = record {
  roles = roles_kept old s n m k at;
  same = λ other a b is now. go other a b is now (decide s other);
  runs = λ calls st other. still other calls (member_of old other) (member_of (set old n k) other) (roles_kept old s n m k at other)
      (λ a b is now. go other a b is now (decide s other)) (st other);
}
  where
    inside : (a b : Member) → Some a ≡ Some b → a ≡ b
    inside a b e = member_in a b e

    go : (other : ℕ) (a b : Member) → member_of old other ≡ Some a → member_of (set old n k) other ≡ Some b
        → (s ≡ other) ⊎ (s ≡ other → ⊥) → (r : ReceiverState) → ReceiverStands a.receiver r → ReceiverStands b.receiver r
    go other a b is now (inl same) r st =
        let a_is : m ≡ a = inside m a (sym (own_of old s n m k at) ∙ ap (member_of old) same ∙ is) in
        let b_is : k ≡ b = inside k b (sym (new_of old s n m k at) ∙ ap (member_of (set old n k)) same ∙ now) in
        subst (λ (x : Member). ReceiverStands x.receiver r) b_is (h r (subst (λ (x : Member). ReceiverStands x.receiver r) (sym a_is) st))
    go other a b is now (inr differs) r st =
        let ab : a ≡ b = inside a b (sym is ∙ sym (others_of old s n other m k at differs) ∙ now) in
        subst (λ (x : Member). ReceiverStands x.receiver r) ab st

-- a datagram that belongs to none of them
unmapped : (o : ℕ) (x : Option Member) → option_map (λ (m : Member). o) x ≡ None → x ≡ None
unmapped o None e = refl
unmapped o (Some m) e = absurd (cc)

abbrev if_true : Bool → ReceiverEvent → Option ReceiverEvent
if_true t event = elim t [ true ↦ Some event | false ↦ None ]

passes_by : (old : List Member) (s o : ℕ) (event : ReceiverEvent) (t : Bool) → (o == s) ≡ t → option_map (λ (m : Member). o) (member_of old o) ≡ None
    → Moves (if_true t event) (member_of old s) (member_of old s)
passes_by old s o event false is none = stays (member_of old s)
passes_by old s o event true is none =
    let nobody : member_of old s ≡ None = ap (member_of old) (sym (is_same o s is)) ∙ unmapped o (member_of old o) none in
    subst (λ (x : Option Member). Moves (Some event) x x) (sym nobody) refl

pub passes : (old : List Member) (bytes : List ℕ) (now draw : ℕ) → owner_in old bytes ≡ None → IsCall old old (Delivered bytes now draw)
passes old bytes now draw none =
    is_call old old (Delivered bytes now draw) (λ s. refl) (λ s. go s (owner_of bytes) none)
  where
    go : (s : ℕ) (owner : Option ℕ) → option_and_then (λ o. option_map (λ (m : Member). o) (member_of old o)) owner ≡ None
        → Moves (if_own s (receiver.Delivered bytes now draw) owner) (member_of old s) (member_of old s)
    go s None none = stays (member_of old s)
    go s (Some o) none = passes_by old s o (receiver.Delivered bytes now draw) (o == s) refl none

-- ---- answers

pub answers : (old : List Member) (s n : ℕ) (m : Member) (event : ReceiverEvent) (Fits : ReceiverAnswer → Type 0) → index_in s old ≡ Some n
    → slice_get old n ≡ Some m → ((r : ReceiverState) → ReceiverStands m.receiver r → Fits (receiver_step m.receiver.p r event).1)
    → Answers old s event Fits
answers old s n m event Fits found there h =
    let is = member_at s old n m found there in
    subst (λ (o : Option Member). AnswersOf event Fits old s o) (sym is)
    (h, λ calls st. h (alone m.receiver.p m.node s calls) (subst (IsAlone s calls) is (st s)))

-- the owner of a datagram, if it is a sender of the list, and if not
pub owner_found : (old : List Member) (s n : ℕ) (m : Member) (bytes : List ℕ) → owner_of bytes ≡ Some s → index_in s old ≡ Some n
    → slice_get old n ≡ Some m → owner_in old bytes ≡ Some s
owner_found old s n m bytes owner found there =
    ap (option_and_then (λ o. option_map (λ (m : Member). o) (member_of old o))) owner
    ∙ ap (option_map (λ (m : Member). s)) (member_at s old n m found there)

pub owner_lost : (old : List Member) (s : ℕ) (bytes : List ℕ) → owner_of bytes ≡ Some s → index_in s old ≡ None → owner_in old bytes ≡ None
owner_lost old s bytes owner found =
    ap (option_and_then (λ o. option_map (λ (m : Member). o) (member_of old o))) owner
    ∙ ap (option_map (λ (m : Member). s)) (member_none s old found)

-- memory may run out only for a sender of the list, whose receiver may want it
pub may_lack : (old : List Member) (s n : ℕ) (m : Member) (bytes : List ℕ) → owner_of bytes ≡ Some s → index_in s old ≡ Some n
    → slice_get old n ≡ Some m → MayWant bytes (Some m) → MayLackMemory old bytes
may_lack old s n m bytes owner found there wants = record {
  sender = s;
  owner = owner_found old s n m bytes owner found there;
  wanted = subst (MayWant bytes) (sym (member_at s old n m found there)) wants;
}

-- ---- a receiver that replaced a member's

pub changed : (members : List Member) (s n : ℕ) (m : Member) (k : ReceiverKept) → index_in s members ≡ Some n → m ≡ get_or members n m → k.p ≡ m.receiver.p
    → Changed members s n m (record m { receiver = k })
changed members s n m k found read under = record {
  found = found;
  there = slice_get_read members (length members) n m refl (index_within s members n found) read;
  role = ap (λ (p : Settings). (m.sender, p, m.node)) under;
}

-- ---- what the answers of the code cite

pub nobody : (old : List Member) (bytes : List ℕ) → owner_of bytes ≡ None → owner_in old bytes ≡ None
nobody old bytes none = ap (option_and_then (λ o. option_map (λ (m : Member). o) (member_of old o))) none

-- what is said of an answer that is an error
pub on_err : {X E P : Type 0} (r : Result X E) → P → OnErr r P
on_err (Ok x) p = tt
on_err (Err e) p = p

-- all was taken of the member that stands at a sender's index
pub taken_there : (members : List Member) (s n : ℕ) (m : Member) → index_in s members ≡ Some n → m ≡ get_or members n m → AreTaken (member_of members s)
    → m.receiver.hold.ups ≡ []
taken_there members s n m found read taken =
    subst AreTaken (member_at s members n m found (slice_get_read members (length members) n m refl (index_within s members n found) read)) taken

-- a receiver of which all was taken, and that did not change
pub none_left : (members : List Member) (s n : ℕ) (m : Member) (k : ReceiverKept) → index_in s members ≡ Some n → m ≡ get_or members n m
    → (m.receiver.hold.ups ≡ []) × (k ≡ m.receiver)
    → AreTaken (member_of (set members n (record m { receiver = k })) s) × (set members n (record m { receiver = k }) ≡ members)
none_left members s n m k found read same =
    let still : set members n (record m { receiver = k }) ≡ members =
    ap (λ (r : ReceiverKept). set members n (record m { receiver = r })) same.1 ∙ ap (set members n) read ∙ set-get_or members n m in (
      subst (λ (xs : List Member). AreTaken (member_of xs s)) (sym still)
          (subst AreTaken (sym (member_at s members n m found (slice_get_read members (length members) n m refl (index_within s members n found) read))) same.0),
      still,
    )

pub where_none : {X : Type 0} {P Q : Type 0} (o : Option X) → IfNone o P → (P → Q) → IfNone o Q
where_none None p f = f p
where_none (Some x) p f = tt

-- the receiver of the member that stands at a sender's index is in an instance, if it handed something up
pub in_instance_there : {X : Type 0} (members : List Member) (s n : ℕ) (m : Member) (o : Option X) → index_in s members ≡ Some n → m ≡ get_or members n m
    → IfSome o (λ (x : X). IsInInstance (Some m)) → IfSome o (λ (x : X). IsInInstance (member_of members s))
in_instance_there members s n m None found read is = tt
in_instance_there members s n m (Some x) found read is =
    subst IsInInstance (sym (member_at s members n m found (slice_get_read members (length members) n m refl (index_within s members n found) read))) is

-- the same of a list that is the one that was lent
pub call_of : (old new v : List Member) (call : Call) → old ≡ v → IsCall old new call → IsCall v new call
call_of old new v call same is = subst (λ (xs : List Member). IsCall xs new call) same is
