-- What a receiver makes of a flush that comes to it after a lawful run.
use Rattle.std.proofs.Common.{◌≡◌, ℕ, ◌+◌, ◌≤◌, List, [], ◌∷◌, ◌++◌, Bool, true, false, Option, None, Some, Result, Ok, refl, sym, ap, ◌∙◌, subst, arith, ◌⊎◌, inl, inr}
use Rattle.std.specs.Prelude.{◌==◌, ◌&&◌, nat_le, nat_lt, IsTrue, option_and_then}
use Rattle.std.specs.Option.{option_map}
use Rattle.std.proofs.lemmas.Bool.Decides.{Decides-eqb, leb_tells}
use Rattle.std.proofs.lemmas.Option.{slice_get_within}
use Rattle.norm_base.specs.Settings.{Settings, InRange}
use Rattle.norm_base.specs.declared.node.Origin.{Origin}
use Rattle.fec_plan.specs.Points.{position}
use Rattle.fec_plan.specs.declared.position.Position.{Position}
use Rattle.norm_ext.specs.InstanceIds.{rise, is_above}
use Rattle.norm_ext.specs.Message.{Message, Flush, FlushCommand}
use Rattle.norm_ext.specs.ObjectIds.{object_id, index_named}
use Rattle.norm_ext.specs.Reading.{decoded}
use Rattle.norm_ext.specs.Written.{Written, writes}
use Rattle.norm_ext.specs.declared.refusal.Refusal.{Refusal}
use Rattle.norm_order.specs.Shapes.{closed_in}
use Rattle.norm_receive_rules.specs.Leaving.{is_in, goes_to, enters, entered}
use Rattle.norm_receive_rules.specs.ReceiverState.{ReceiverState}
use Rattle.norm_receive_rules.specs.Receiving.{received}
use Rattle.norm_send_rules.specs.Messages.{command_head, flush_message}
use Rattle.norm_send_rules.specs.Restarting.{instances, first_id}
use Rattle.norm_send_rules.specs.SenderState.{SenderState, Watermark}
use Rattle.norm_send_rules.specs.Ticking.{ticked}
use Rattle.norm_send_rules.specs.Watermarks.{oldest, pending}
use Rattle.norm_safety.specs.Events.{Event}
use Rattle.norm_safety.specs.History.{Happening, happens}
use Rattle.norm_safety.specs.InTime.{FewObjects}
use Rattle.norm_safety.specs.InOrder.{came_to}
use Rattle.norm_safety.specs.Jobs.{AreEvents}
use Rattle.norm_safety.specs.Lawful.{most_apart, is_near, are_near, sender_knows, receiver_knows, comes_in_time, accepted_with, MayCome, LawfulDelivery, LawfulFrom, Lawful}
use Rattle.norm_safety.specs.OnceEach.{order_of}
use Rattle.norm_safety.specs.Said.{first_index}
use Rattle.norm_safety.specs.World.{World, world_opening, receiver_at}
use Rattle.norm_safety.specs.WorldStep.{world_step, run_from, run}
use Rattle.norm_safety.proofs.Feedback.{SaysNothing}
use Rattle.norm_safety.proofs.OrderRun.{happening, event_holds, opening_world}
use Rattle.norm_safety.proofs.ReceiverMoves.{near_named}
use Rattle.norm_safety.proofs.Spoken.{IsBegun, current_begun, IsTrueOf, SaysTrue, SpeaksTrue, entry_with}
use Rattle.norm_safety.proofs.TickTrue.{SentTrue, tick_true}
use Rattle.norm_safety.proofs.WorldHolds.{CameTo, AtReceiver, AtNode, WorldHolds, all_contains}
use Rattle.norm_laws.proofs.NewOrder.{clash}
use Rattle.norm_laws.proofs.PassingWords.{same_or_above}
use Rattle.norm_recovery.specs.Flush.{MayFlush, KnowsFlush}
use Rattle.norm_recovery.specs.TailLawful.{MayGoOn}
use Rattle.norm_recovery.proofs.FlushGoes.{flush_goes}
use Rattle.norm_recovery.proofs.FlushHeard.{flush_heard}
use Rattle.norm_recovery.proofs.MembersRun.{IsOfSender, FollowsAt, follows_in_run}
use Rattle.norm_recovery.proofs.MembersTail.{found_holds}

-- ---- after a lawful run

-- what holds of a world, with what happened
pub record HoldsIn (p : Settings) (w : World) : Type 0 where
  pub past : List Happening
  pub accepted : List Origin
  pub holds : WorldHolds p past accepted w

run_holds : (p : Settings) → InRange p → (past : List Happening) (accepted : List Origin) (w : World) (events : List Event) → LawfulFrom p w accepted events
    → AreEvents events → WorldHolds p past accepted w → HoldsIn p (run_from p w events)
run_holds p range past accepted w [] lawful are holds = record { past = past; accepted = accepted; holds = holds }
run_holds p range past accepted w (e ∷ events) lawful are holds =
    let step = world_step p w e in
    run_holds p range (past ++ happening w e step ∷ []) (accepted_with accepted e step.1) step.0 events lawful.1 are.1
    (event_holds p range past accepted w e lawful.0 are.0 holds)

pub after_run : (p : Settings) → InRange p → (events : List Event) → Lawful p events → AreEvents events → HoldsIn p (run p events)
after_run p range events lawful are = run_holds p range [] [] (world_opening p) events lawful are (opening_world p range)

-- the last of some events came lawfully
pub last_came : (p : Settings) (w : World) (accepted : List Origin) (events : List Event) (e : Event) → LawfulFrom p w accepted (events ++ e ∷ [])
    → (known : List Origin) × MayCome p (run_from p w events) known e
last_came p w accepted [] e lawful = (accepted, lawful.0)
last_came p w accepted (x ∷ events) e lawful =
    let step = world_step p w x in last_came p step.0 (accepted_with accepted x step.1) events e lawful.1

-- the instance of a receiver lies no higher than that of the sender
pub record IsNoHigher (p : Settings) (s : SenderState) (current : ℕ) : Type 0 where
  pub rises : rise p.instance current ≤ rise p.instance s.current.id
  pub begun : IsBegun p current

pub no_higher : (p : Settings) → InRange p → (events : List Event) → Lawful p events → AreEvents events → (node : ℕ) (r : ReceiverState)
    → receiver_at (run p events) node ≡ Some r → (current : ℕ) → r.instance ≡ Some current → IsNoHigher p (run p events).sender current
no_higher p range events lawful are node r found current is =
    let s : SenderState = (run p events).sender in
    let k = after_run p range events lawful are in
    let follows = subst (FollowsAt s (happens p (world_opening p) events) node) found (follows_in_run p range events lawful are node) in
    let known : IsOfSender s (Some current) = subst (IsOfSender s) is follows.known in
    let here : AtReceiver p s k.past node r = subst (AtNode p s k.past node) found (k.holds.nodes node) in
    let came = subst (CameTo p (came_to node None k.past)) is here.came in
    let F : ℕ → Type 0 = λ first. rise first current ≤ rise first s.current.id in
    record {
      rises = subst F k.holds.sender.first
          (found_holds (λ (n : ℕ). rise (first_id s) n ≤ rise (first_id s) s.current.id) (instances s) current k.holds.once.low known);
      begun = came.begun;
    }

-- so it is in the sender's current instance, or goes on to it
pub may_enter : (p : Settings) → InRange p → (events : List Event) → Lawful p events → AreEvents events → (node : ℕ) (r : ReceiverState)
    → receiver_at (run p events) node ≡ Some r → (t : ReceiverState) × (entered r (run p events).sender.current.id ≡ Some t)
may_enter p range events lawful are node r found = by (is_in r id) (goes_to r id) refl refl (one r.instance refl)
  where
    id : ℕ
    id = (run p events).sender.current.id

    inside : Option ℕ → Bool
    inside o = elim o [ Some current ↦ current == id | None ↦ false ]

    above : Option ℕ → Bool
    above o = elim o [ Some current ↦ is_above current id | None ↦ true ]

    one : (o : Option ℕ) → r.instance ≡ o → (is_in r id ≡ true) ⊎ (goes_to r id ≡ true)
    one None is = inr (ap above is)
    one (Some current) is = go (same_or_above p current id low.begun begun low.rises)
      where
        low : IsNoHigher p (run p events).sender current
        low = no_higher p range events lawful are node r found current is

        begun : IsBegun p id
        begun = current_begun p range (run p events).sender (after_run p range events lawful are).holds.sender

        go : (current ≡ id) ⊎ (is_above current id ≡ true) → (is_in r id ≡ true) ⊎ (goes_to r id ≡ true)
        go (inl same) = inl (ap inside is ∙ (Decides-eqb current id).1 same)
        go (inr lies) = inr (ap above is ∙ lies)

    left : Bool → Bool → Option ReceiverState
    left a b = elim a [ true ↦ Some r | false ↦ elim b [ true ↦ Some (enters id r) | false ↦ None ] ]

    by : (a b : Bool) → is_in r id ≡ a → goes_to r id ≡ b → (is_in r id ≡ true) ⊎ (goes_to r id ≡ true) → (t : ReceiverState) × (left (is_in r id) (goes_to r id) ≡ Some t)
    by true b e f either = (r, ap (λ (x : Bool). left x (goes_to r id)) e)
    by false true e f either = (enters id r, ap (λ (x : Bool). left x (goes_to r id)) e ∙ ap (left false) f)
    by false false e f (inl is) = absurd (clash (sym e ∙ is))
    by false false e f (inr is) = absurd (clash (sym f ∙ is))

-- ---- what a flush says

abbrev pub flush_of : Settings → SenderState → Watermark → Written
flush_of p s w = writes (flush_message p s w.at (pending s w.at)) (w.at.index ∷ [])

-- A tick gives a flush for the oldest watermark, whatever round it closes.
pub record GivesFlush (p : Settings) (now : ℕ) (s : SenderState) (w : Watermark) : Type 0 where
  pub is_oldest : oldest s ≡ Some w
  pub gives : (ticked p s now).1 ≡ Some (flush_of p s w)

pub gives_of : (p : Settings) (now : ℕ) (s : SenderState) (w : Watermark) → MayFlush p now s w → GivesFlush p now s w
gives_of p now s w may = record { is_oldest = may.is_oldest; gives = ap (λ (step : SenderState × Option Written). step.1) (flush_goes p now s w may) }

flush_true : (p : Settings) → InRange p → (past : List Happening) (accepted : List Origin) (v : World) (now : ℕ) (w : Watermark) → WorldHolds p past accepted v
    → GivesFlush p now v.sender w → SpeaksTrue p v.sender (flush_of p v.sender w)
flush_true p range past accepted v now w holds flush =
    subst (SentTrue p v.sender) flush.gives (tick_true p range v.sender now holds.sender holds.once.ids)

-- the command of a watermark's flush
abbrev pub flush_command : Settings → SenderState → Watermark → FlushCommand
flush_command p s w = record {
  head = command_head p s;
  object = object_id p w.at.index;
  id = record { block = w.at.block; symbol = w.at.symbol };
  extensions = [];
  nodes = pending s w.at;
}

-- a flush that is true of orders of few objects has a small index
pub small_index : (p : Settings) (s : SenderState) (indices : List ℕ) (m : FlushCommand) → FewObjects s → IsTrueOf p s indices (Flush m) → first_index indices ≤ 32767
small_index p s indices m few says =
    let there = entry_with p (order_of s m.head.instance) (first_index indices) (λ x. nat_lt m.id.symbol (closed_in x m.id.block)) says.1 in
    let lt = slice_get_within (order_of s m.head.instance) (first_index indices) there.0 there.1 in
    let le = few m.head.instance in
    omega (arith, lt, le)

le_test : (a b : ℕ) → a ≤ b → nat_le a b ≡ true
le_test a b le = grind (arith, leb_tells a b)

both_true : (a b : Bool) → a ≡ true → b ≡ true → (a && b) ≡ true
both_true true b e f = f
both_true false b e f = absurd (clash e)

pub near_small : (known index : ℕ) → known ≤ 32767 → index ≤ 32767 → are_near (Some known) (index ∷ []) ≡ true
near_small known index k i =
    both_true (is_near known index) true
    (both_true (nat_le index (known + most_apart)) (nat_le known (index + most_apart)) (le_test index (known + most_apart) (omega (arith, i)))
    (le_test known (index + most_apart) (omega (arith, k)))) refl

-- two small indices of one id are the same
same_index : (p : Settings) (object a b : ℕ) → a ≤ 32767 → b ≤ 32767 → object ≡ object_id p a → object ≡ object_id p b → a ≡ b
same_index p object a b la lb ea eb =
    same_some (sym (near_named p a object a ea (omega (arith, la)) (near_small a a la la)) ∙ near_named p a object b eb (omega (arith, lb)) (near_small a b la lb))
  where
    same_some : Some a ≡ Some b → a ≡ b
    same_some e = cc

-- what octets spell: a flush of the sender's current instance, up to a position
pub record FlushSays (p : Settings) (s : SenderState) (octets : List ℕ) (m : FlushCommand) (at : Position) : Type 0 where
  pub read : decoded octets ≡ Ok (Flush m)
  pub source : m.head.source ≡ p.sender
  pub instance : m.head.instance ≡ s.current.id
  pub object : m.object ≡ object_id p at.index
  pub small : at.index ≤ 32767
  pub place : position at.index m.id.block m.id.symbol ≡ at

pub flush_says : (p : Settings) → InRange p → (events : List Event) → MayGoOn p events → (now : ℕ) (w : Watermark) → GivesFlush p now (run p events).sender w
    → FlushSays p (run p events).sender (flush_of p (run p events).sender w).octets (flush_command p (run p events).sender w) w.at
flush_says p range events may now w flush =
    let k = after_run p range events may.lawful may.jobs in
    let says = flush_true p range k.past k.accepted (run p events) now w k.holds flush in
    record {
      read = says.read;
      source = refl;
      instance = refl;
      object = refl;
      small = small_index p (run p events).sender (w.at.index ∷ []) (flush_command p (run p events).sender w) may.few says.says.1;
      place = refl;
    }

-- ---- a receiver hears it

abbrev ok_of : Message → Result Message Refusal
ok_of m = Ok m

-- a datagram that is read as a flush is a flush
flush_message_is : (o : Written) (m : FlushCommand) → decoded o.octets ≡ Ok (Flush m) → (decoded o.octets ≡ Ok o.message) ⊎ SaysNothing (decoded o.octets)
    → o.message ≡ Flush m
flush_message_is o m read (inl own) = same (sym own ∙ read)
  where
    same : {a b : Message} → ok_of a ≡ ok_of b → a ≡ b
    same e = cc
flush_message_is o m read (inr nothing) = absurd (subst SaysNothing read nothing)

-- all of a datagram is near what a receiver knows
pub near_by : (p : Settings) (v : World) (node : ℕ) → (node == p.sender) ≡ false → (r : ReceiverState) → receiver_at v node ≡ Some r → (o : Written) (x : Message)
    → o.message ≡ x → (indices : List ℕ) → o.indices ≡ indices → IsTrue (comes_in_time p v node o) → are_near (receiver_knows r x) indices ≡ true
near_by p v node other r found o x is indices alone near =
    ap (are_near (receiver_knows r x)) (sym alone)
    ∙ ap (λ (m : Message). are_near (receiver_knows r m) o.indices) (sym is)
    ∙ ap (λ (ks : Option ℕ). are_near ks o.indices) (sym (ap (by_found o.message) found))
    ∙ ap (λ (ks : Option ℕ). are_near ks o.indices) (sym (ap by_own other))
    ∙ near
  where
    by_found : Message → Option ReceiverState → Option ℕ
    by_found m e = option_and_then (λ (y : ReceiverState). receiver_knows y m) e

    by_own : Bool → Option ℕ
    by_own b = elim b [ true ↦ sender_knows v.sender o.message | false ↦ option_and_then (λ (y : ReceiverState). receiver_knows y o.message) (receiver_at v node) ]

-- a receiver hears it in this state, and its id names the position's index there
pub record HearsIt (p : Settings) (r : ReceiverState) (m : FlushCommand) (at : Position) : Type 0 where
  pub t : ReceiverState
  pub enters : entered r m.head.instance ≡ Some t
  pub named : index_named p t.knows.known m.object ≡ Some at.index

pub hears_it : (p : Settings) → InRange p → (events : List Event) → Lawful p events → AreEvents events → FewObjects (run p events).sender → (node : ℕ)
    → (node == p.sender) ≡ false → (r : ReceiverState) → receiver_at (run p events) node ≡ Some r → (octets : List ℕ) (m : FlushCommand) (at : Position)
    → decoded octets ≡ Ok (Flush m) → m.head.instance ≡ (run p events).sender.current.id → m.object ≡ object_id p at.index → at.index ≤ 32767
    → LawfulDelivery p (run p events) node octets → HearsIt p r m at
hears_it p range events lawful are few node other r found octets m at read instance object small delivery =
    let v : World = run p events in
    let k = after_run p range events lawful are in
    let o : Written = delivery.datagram in
    let says : SaysTrue p v.sender o = all_contains (λ (x : ℕ × Written). SaysTrue p v.sender x.1) v.offered (delivery.from, o) k.holds.offered delivery.offered in
    let is : o.message ≡ Flush m = flush_message_is o m (ap decoded delivery.same ∙ read) says.0 in
    let true_of : IsTrueOf p v.sender o.indices (Flush m) = subst (IsTrueOf p v.sender o.indices) is says.1 in
    let index : ℕ = true_of.0.index in
    let alone : o.indices ≡ index ∷ [] = true_of.0.alone in
    let enter = may_enter p range events lawful are node r found in
    let t : ReceiverState = enter.0 in
    let goes : entered r m.head.instance ≡ Some t = ap (entered r) instance ∙ enter.1 in
    let near : are_near (Some t.knows.known) (index ∷ []) ≡ true =
    ap (λ (ks : Option ℕ). are_near ks (index ∷ [])) (sym (ap (λ (e : Option ReceiverState). option_map (λ (y : ReceiverState). y.knows.known) e) goes))
    ∙ near_by p v node other r found o (Flush m) is (index ∷ []) alone delivery.near in
    let few_index : index ≤ 32767 = (let le = small_index p v.sender o.indices m few true_of in let first = ap first_index alone in omega (arith, le, first)) in
    let named : index_named p t.knows.known m.object ≡ Some index = near_named p t.knows.known m.object index true_of.0.named true_of.0.most near in
    let same : index ≡ at.index = same_index p m.object index at.index few_index small true_of.0.named object in
    record { t = t; enters = goes; named = named ∙ ap (λ (n : ℕ). Some n) same }

pub hears_flush : (p : Settings) → InRange p → (events : List Event) → Lawful p events → AreEvents events → FewObjects (run p events).sender → (node : ℕ)
    → (node == p.sender) ≡ false → (r : ReceiverState) → receiver_at (run p events) node ≡ Some r → (octets : List ℕ) (now draw : ℕ) (m : FlushCommand)
    → (at : Position) → decoded octets ≡ Ok (Flush m) → m.head.source ≡ p.sender → m.head.instance ≡ (run p events).sender.current.id
    → m.object ≡ object_id p at.index → at.index ≤ 32767 → position at.index m.id.block m.id.symbol ≡ at
    → LawfulDelivery p (run p events) node octets → KnowsFlush (received p r octets now draw) (run p events).sender.current.id at
hears_flush p range events lawful are few node other r found octets now draw m at read source instance object small place delivery =
    let h = hears_it p range events lawful are few node other r found octets m at read instance object small delivery in
    let K : ℕ → Position → Type 0 = λ id x. KnowsFlush (received p r octets now draw) id x in
    subst (λ (id : ℕ). K id at) instance
    (subst (K m.head.instance) place (flush_heard.knows p r h.t octets now draw at.index m read source h.enters h.named))
