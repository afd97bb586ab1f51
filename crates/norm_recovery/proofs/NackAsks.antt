-- A NACK that a member's tick gives makes the sender's round ask for something that the member lacks.
use Rattle.std.proofs.Common.{◌≡◌, ℕ, zero, suc, ◌+◌, ◌-◌, ◌<◌, ◌≤◌, cond, List, [], ◌∷◌, ◌++◌, length, map, Bool, true, false, Option, None, Some, Ok, refl, sym, ap, ◌∙◌, subst, arith, ◌⊎◌, inl, inr, flat_map}
use Rattle.std.specs.Prelude.{Contains, ◌==◌, ◌&&◌, find, nat_lt, nat_le, slice_get, unwrap_or, ⊤}
use Rattle.std.specs.List.{AllByRecursion}
use Rattle.std.proofs.lemmas.Bool.Decides.{Decides-eqb, Decides-ltb, leb_tells}
use Rattle.std.proofs.lemmas.List.{length-map}
use Rattle.std.proofs.lemmas.Option.{slice_get_within}
use Rattle.norm_base.specs.Members.{receivers_of, is_receiver}
use Rattle.norm_base.specs.Settings.{Settings, InRange}
use Rattle.norm_base.specs.declared.kinds.Mode.TheVariants.{Hold}
use Rattle.fec_plan.specs.Points.{Point}
use Rattle.fec_plan.specs.declared.position.Position.{Position}
use Rattle.norm_ext.specs.Asked.{octets_behind, requests_asked}
use Rattle.norm_ext.specs.Message.{Nack, Ack, NackMessage, AckMessage}
use Rattle.norm_ext.specs.Reading.{decoded}
use Rattle.norm_ext.specs.Written.{Written, writes}
use Rattle.norm_order.specs.Entries.{Entry}
use Rattle.norm_order.specs.Shapes.{Shape, shape_of, closed_in, is_source}
use Rattle.norm_receive_rules.specs.AllNeeds.{needs, needs_nothing}
use Rattle.norm_receive_rules.specs.Holding.{holding_nothing}
use Rattle.norm_receive_rules.specs.Lazy.{Lazy, Nil, Next, all_of}
use Rattle.norm_receive_rules.specs.Leaving.{is_in}
use Rattle.norm_receive_rules.specs.Nack.{asked_of, indices_of, fitting, instance_id, nack_message, ack_message}
use Rattle.norm_receive_rules.specs.NackLaws.{width_at, NamesBlocks}
use Rattle.norm_receive_rules.specs.Needs.{Need, Object, ObjectInfo, Symbols, Source, Rest}
use Rattle.norm_receive_rules.specs.ReceiverState.{ReceiverState}
use Rattle.norm_receive_rules.specs.Ticking.{sends, holds_off, are_heard, asks, asks_where_needed, ends_back_off, ticked}
use Rattle.norm_send_rules.specs.Hearing.{nack_counts, joined_round, message_heard, heard}
use Rattle.norm_send_rules.specs.InWindow.{last_index, current_shapes}
use Rattle.norm_send_rules.specs.Reached.{HasName, IsReached}
use Rattle.norm_send_rules.specs.Repairable.{streams}
use Rattle.norm_send_rules.specs.SenderState.{SenderState}
use Rattle.norm_send_rules.specs.SenderStep as sender
use Rattle.norm_send_rules.specs.SenderStep.{SenderEvent, sender_step}
use Rattle.norm_send_rules.specs.Wants.{want_index}
use Rattle.norm_send_rules.specs.Watermarks.{has_member}
use Rattle.norm_send_rules.specs.declared.want.Want.{Want}
use Rattle.norm_send_rules.specs.declared.want.Want.TheVariants as want
use Rattle.norm_send_rules.proofs.ReachedLemmas.{reached_laws}
use Rattle.norm_safety.specs.Events.{Event, Commanded, Delivered, Ticked, Offered, UpTaken, NewsAsked}
use Rattle.norm_safety.specs.Hands.{hands}
use Rattle.norm_safety.specs.InOrder.{came_to}
use Rattle.norm_safety.specs.World.{World, world_opening, receiver_at}
use Rattle.norm_safety.specs.WorldLaws.{nodes_of}
use Rattle.norm_safety.specs.WorldStep.{world_step, run_from, run}
use Rattle.norm_safety.proofs.EntryLemmas.{clash}
use Rattle.norm_safety.proofs.OrderRun.{opening_world}
use Rattle.norm_safety.proofs.PleaDefs.{GivesPlea}
use Rattle.norm_safety.proofs.PleaRead.{plea_gives}
use Rattle.norm_safety.proofs.RunLemmas.{step_nodes, opening_nodes}
use Rattle.norm_safety.proofs.SeenPasses.{Seen, SeenAt, SeenWorld, opening_seen}
use Rattle.norm_safety.proofs.SenderHolds.{orders_hold}
use Rattle.norm_safety.proofs.Spoken.{current_order}
use Rattle.norm_safety.proofs.WorldHolds.{AtNode, AtReceiver, CameTo}
use Rattle.norm_laws.proofs.CountSender.{sender_after, sender_is}
use Rattle.norm_recovery.specs.Left.{in_window}
use Rattle.norm_recovery.specs.NackAsks.{AskedOf, NackAsks}
use Rattle.norm_recovery.specs.NeedLacks.{LacksOf}
use Rattle.norm_recovery.specs.NeedsRead.{IsNear}
use Rattle.norm_recovery.specs.RoundAsks.{asks_open, IsOfNeed, is_info_or_source, IsNarrow}
use Rattle.norm_recovery.specs.TailLawful.{MayGoOn}
use Rattle.norm_recovery.proofs.ClosingHelps.{of_window}
use Rattle.norm_recovery.proofs.ClosingLists.{in_contained}
use Rattle.norm_recovery.proofs.FlushKnown.{HoldsIn, after_run}
use Rattle.norm_recovery.proofs.NeedLacks.{seen_from, need_lacks}
use Rattle.norm_recovery.proofs.NeedsRead.{needs_are_read}
use Rattle.norm_recovery.proofs.RoundAsks.{round_asks}
use Rattle.norm_recovery.proofs.TailWalk.{no_receiver}

-- ---- a tick

-- what a receiver asks for, where it asks
abbrev pub wanted_of : Settings → ReceiverState → List Need
wanted_of p r = fitting p (needs p r) None p.e

-- a NACK that a tick gives has these requests, and something is needed
abbrev AsksAs : Settings → ReceiverState → Option Written → Type 0
AsksAs p r sent = (o : Written) (m : NackMessage) → sent ≡ Some o → o.message ≡ Nack m
    → (needs_nothing p r ≡ false) × (o.message ≡ nack_message p r (wanted_of p r))

abbrev sent_is : ReceiverState × Option Written → Option Written
sent_is step = step.1

same_sent : (a b : Written) → Some a ≡ Some b → a ≡ b
same_sent a b e = cc

no_sent : (b : Written) → None ≡ Some b → ⊥
no_sent b e = cc

nack_is : (p : Settings) (r : ReceiverState) (now : ℕ) → AsksAs p r (ticked p r now).1
nack_is p r now = due r.knows.due
  where
    nothing : AsksAs p r None
    nothing o m e is = absurd (no_sent o e)

    t : ReceiverState
    t = record r { knows = record (r.knows) { backoff = None } }

    asked : needs_nothing p r ≡ false → (all : Bool) → AsksAs p r (sent_is (elim all [
      | true ↦ (record t { knows = holds_off p now t.knows }, None)
      | false ↦ sends (writes (nack_message p t (wanted_of p t)) (flat_map indices_of (wanted_of p t))) (record t { knows = holds_off p now t.knows })
    ]))
    asked some true = nothing
    asked some false = λ o m e is. (some, sym (ap (λ (x : Written). x.message) (same_sent _ o e)))

    needed : (none : Bool) → needs_nothing p r ≡ none → AsksAs p r (sent_is (elim none [
      | true ↦ (t, None)
      | false ↦ asks p now (fitting p (needs p t) None p.e) t
    ]))
    needed true some = nothing
    needed false some = asked some (are_heard t (wanted_of p t))

    ended : (reached : Bool) → AsksAs p r (sent_is (elim reached [ true ↦ asks_where_needed p now t | false ↦ (r, None) ]))
    ended true = needed (needs_nothing p t) refl
    ended false = nothing

    backed : (backoff : Option ℕ) → AsksAs p r (sent_is (elim backoff [
      | Some ends ↦ elim (nat_le ends now) [ true ↦ asks_where_needed p now t | false ↦ (r, None) ]
      | None ↦ (r, None)
    ]))
    backed None = nothing
    backed (Some ends) = ended (nat_le ends now)

    acks : (at : Position) → AsksAs p r (Some (writes (ack_message p r at) (at.index ∷ [])))
    acks at o m e is = absurd (differ (ap (λ (x : Written). x.message) (same_sent (writes (ack_message p r at) (at.index ∷ [])) o e) ∙ is))
      where
        differ : {a : AckMessage} → Ack a ≡ Nack m → ⊥
        differ e = cc

    due : (at : Option Position) → AsksAs p r (sent_is (elim at [
      | Some at ↦ sends (writes (ack_message p r at) (at.index ∷ [])) (record r { knows = record (r.knows) { due = None } })
      | None ↦ ends_back_off p now r
    ]))
    due None = backed r.knows.backoff
    due (Some at) = acks at

-- ---- the first need

-- whatever is needed takes no more than 20 octets
takes_few : (p : Settings) (need : Need) → octets_behind None (asked_of p need) ≤ 20
takes_few p (Object index) = omega arith
takes_few p (ObjectInfo index) = omega arith
takes_few p (Symbols index block wanted) = omega arith
takes_few p (Source at) = omega arith
takes_few p (Rest index block) = omega arith

fits_first : (p : Settings) (need : Need) (rest : ⊤ → Lazy Need) (room : ℕ) → 20 ≤ room → (more : List Need) × (fitting p (Next need rest) None room ≡ need ∷ more)
unfolding fitting
fits_first p need rest room le = go (leb_tells (octets_behind None (asked_of p need)) room)
  where
    more : List Need
    more = fitting p (rest tt) (Some (asked_of p need)) (room - octets_behind None (asked_of p need))

    go : ((nat_le (octets_behind None (asked_of p need)) room ≡ true) × (octets_behind None (asked_of p need) ≤ room))
        ⊎ ((nat_le (octets_behind None (asked_of p need)) room ≡ false) × (room < octets_behind None (asked_of p need)))
        → (more : List Need) × (fitting p (Next need rest) None room ≡ need ∷ more)
    go (inl fits) = (more, ap (λ (b : Bool). elim b as (λ _. List Need) [ true ↦ need ∷ more | false ↦ [] ]) fits.0)
    go (inr not_fits) = absurd (let few = takes_few p need in let lt = not_fits.1 in omega (arith, few, lt, le))

-- the first need is one of all, and is asked for
pub record First (p : Settings) (r : ReceiverState) : Type 0 where
  pub need : Need
  pub one : Contains (all_of (needs p r)) need
  pub asked : Contains (wanted_of p r) need

head_there : {X : Type 0} (x : X) (xs ys : List X) → ys ≡ x ∷ xs → Contains ys x
head_there {X} x xs ys e = subst (λ (zs : List X). Contains zs x) (sym e) (zero, omega arith, refl)

all_next : (need : Need) (rest : ⊤ → Lazy Need) → all_of (Next need rest) ≡ need ∷ all_of (rest tt)
unfolding all_of
all_next need rest = refl

pub first_of : (p : Settings) → InRange p → (r : ReceiverState) → needs_nothing p r ≡ false → First p r
first_of p range r some = go (needs p r) refl some
  where
    go : (l : Lazy Need) → needs p r ≡ l → (elim l as (λ _. Bool) [ Nil ↦ true | Next need rest ↦ false ]) ≡ false → First p r
    go Nil e f = absurd (clash (sym f))
    go (Next need rest) e f =
        let fits = fits_first p need rest p.e (let least = range.e.0 in omega (arith, least)) in
        record {
          need = need;
          one = head_there need (all_of (rest tt)) (all_of (needs p r)) (ap (λ (l : Lazy Need). all_of l) e ∙ all_next need rest);
          asked = head_there need fits.0 (wanted_of p r) (ap (λ (l : Lazy Need). fitting p l None p.e) e ∙ fits.1);
        }

-- ---- after a run

event_reached : (p : Settings) → InRange p → (w : World) (e : Event) → IsReached p w.sender → IsReached p (world_step p w e).0.sender
event_reached p range w e h = subst (IsReached p) (sym (sender_is p w e)) (after e)
  where
    either : (b : Bool) (t : SenderState) → IsReached p t → IsReached p (elim b [ true ↦ t | false ↦ w.sender ])
    either true t fit = fit
    either false t fit = h

    step : (event : SenderEvent) → IsReached p (sender_step p w.sender event).0
    step event = reached_laws.always p w.sender event range h

    after : (e : Event) → IsReached p (sender_after p w.sender e)
    after (Commanded by job now) = step (sender.Commanded by job now)
    after (Delivered node octets now draw) = either (node == p.sender) (sender_step p w.sender (sender.Delivered octets now)).0 (step (sender.Delivered octets now))
    after (Ticked node now) = either (node == p.sender) (sender_step p w.sender (sender.Ticked now)).0 (step (sender.Ticked now))
    after (Offered node octets) = h
    after (UpTaken node) = h
    after NewsAsked = step sender.NewsAsked

pub run_reached : (p : Settings) → InRange p → (w : World) (events : List Event) → IsReached p w.sender → IsReached p (run_from p w events).sender
run_reached p range w [] h = h
run_reached p range w (e ∷ events) h = run_reached p range (world_step p w e).0 events (event_reached p range w e h)

run_nodes : (p : Settings) (w : World) (events : List Event) → nodes_of (run_from p w events) ≡ nodes_of w
run_nodes p w [] = refl
run_nodes p w (e ∷ events) = run_nodes p (world_step p w e).0 events ∙ step_nodes p w e

-- who is found among the receivers' ids is a receiver
among_receivers : (p : Settings) (n node : ℕ) → (find (λ (to : ℕ). to == node) (receivers_of p n) ≡ None → ⊥)
    → (nat_lt p.sender node && nat_le node (p.sender + n)) ≡ true
among_receivers p zero node has = absurd (has refl)
among_receivers p (suc n) node has = go (p.sender + 1 + n == node) refl (among_receivers p n node)
  where
    F : List ℕ → Option ℕ
    F xs = find (λ (to : ℕ). to == node) xs

    behind : (xs : List ℕ) (x : ℕ) → (x == node) ≡ false → F xs ≡ None → F (xs ++ x ∷ []) ≡ None
    behind [] x e f = ap (λ (b : Bool). cond b (Some x) None) e
    behind (y ∷ xs) x e f = by (y == node) f (behind xs x e)
      where
        by : (b : Bool) → cond b (Some y) (F xs) ≡ None → (F xs ≡ None → F (xs ++ x ∷ []) ≡ None) → cond b (Some y) (F (xs ++ x ∷ [])) ≡ None
        by true g more = absurd (some_none g)
          where
            some_none : Some y ≡ None → ⊥
            some_none e = cc
        by false g more = more g

    both : (a b : Bool) → a ≡ true → b ≡ true → (a && b) ≡ true
    both true b e f = f
    both false b e f = absurd (clash e)

    up : (a b : ℕ) → a < b → nat_lt a b ≡ true
    up a b lt = (Decides-ltb a b).1 lt

    most : (a b : ℕ) → a ≤ b → nat_le a b ≡ true
    most a b le = by (leb_tells a b)
      where
        by : ((nat_le a b ≡ true) × (a ≤ b)) ⊎ ((nat_le a b ≡ false) × (b < a)) → nat_le a b ≡ true
        by (inl tells) = tells.0
        by (inr tells) = absurd (let gt = tells.1 in omega (arith, gt, le))

    parts : (nat_lt p.sender node && nat_le node (p.sender + n)) ≡ true → (nat_lt p.sender node && nat_le node (p.sender + suc n)) ≡ true
    parts e = by (nat_lt p.sender node) (leb_tells node (p.sender + n)) e
      where
        by : (a : Bool) → ((nat_le node (p.sender + n) ≡ true) × (node ≤ p.sender + n)) ⊎ ((nat_le node (p.sender + n) ≡ false) × (p.sender + n < node))
            → (a && nat_le node (p.sender + n)) ≡ true → (a && nat_le node (p.sender + suc n)) ≡ true
        by true (inl tells) f = most node (p.sender + suc n) (let le = tells.1 in omega (arith, le))
        by true (inr tells) f = absurd (clash (sym tells.0 ∙ f))
        by false tells f = f

    go : (b : Bool) → (p.sender + 1 + n == node) ≡ b → ((F (receivers_of p n) ≡ None → ⊥) → (nat_lt p.sender node && nat_le node (p.sender + n)) ≡ true)
        → (nat_lt p.sender node && nat_le node (p.sender + suc n)) ≡ true
    go true e more =
        let same = (Decides-eqb (p.sender + 1 + n) node).0 e in
        both (nat_lt p.sender node) (nat_le node (p.sender + suc n)) (up p.sender node (omega (arith, same))) (most node (p.sender + suc n) (omega (arith, same)))
    go false e more = parts (more (λ none. has (behind (receivers_of p n) (p.sender + 1 + n) e none)))

pub receiver_is : (p : Settings) (events : List Event) (node : ℕ) (r : ReceiverState) → receiver_at (run p events) node ≡ Some r → is_receiver p node ≡ true
receiver_is p events node r found = among_receivers p p.receivers node missing
  where
    nodes : nodes_of (run p events) ≡ receivers_of p p.receivers
    nodes = run_nodes p (world_opening p) events ∙ opening_nodes (receivers_of p p.receivers)

    missing : find (λ (to : ℕ). to == node) (receivers_of p p.receivers) ≡ None → ⊥
    missing none = none_some (sym (no_receiver node (run p events).receivers (ap (find (λ (n : ℕ). n == node)) nodes ∙ none)) ∙ found)
      where
        none_some : None ≡ Some r → ⊥
        none_some e = cc

-- ---- a NACK is read again

module _ (p : Settings) (range : InRange p) (events : List Event) (may : MayGoOn p events) (node : ℕ) (r : ReceiverState)
    (found : receiver_at (run p events) node ≡ Some r) where
  abbrev u : SenderState
  u = (run p events).sender

  world : HoldsIn p (run p events)
  world = after_run p range events may.lawful may.jobs

  here : AtReceiver p u world.past node r
  here = subst (AtNode p u world.past node) found (world.holds.nodes node)

  pub reach : IsReached p u
  reach = run_reached p range (world_opening p) events (reached_laws.at_first p p.instance range)

  pub few_here : length u.current.order ≤ 32768
  few_here = let low = may.few u.current.id in let same = ap (λ (xs : List Entry). length xs) (current_order u world.holds.once.ids) in omega (arith, low, same)

  seen : Seen p u r
  seen =
      let A : Option ReceiverState → Type 0 = λ o. SeenAt p u o in
      let all : SeenWorld p (run p events) = seen_from p range [] [] (world_opening p) events may.lawful may.jobs (opening_world p range) (opening_seen p) in
      subst A found (all node)

  abbrev pub fields : NackMessage
  fields = record {
    source = r.node;
    sequence = r.sequence;
    sender = p.sender;
    instance = instance_id r;
    extensions = [];
    requests = requests_asked (map (asked_of p) (wanted_of p r));
  }

  -- what its tick gives
  module _ (now : ℕ) (d : Written) (m : NackMessage) (gave : (ticked p r now).1 ≡ Some d) (is : d.message ≡ Nack m) where
    pub tick : (needs_nothing p r ≡ false) × (d.message ≡ nack_message p r (wanted_of p r))
    tick = nack_is p r now d m gave is

    plea : GivesPlea p u (record { receiver = r; octets = d.octets; indices = d.indices; nack = m })
    plea =
        plea_gives p range u (hands world.past node) r now d m (orders_hold p u world.holds.sender) here.member here.sequence few_ids here.stands seen gave is
      where
        few_ids : (id : ℕ) → r.instance ≡ Some id → id < 65536
        few_ids id e = let C : Option ℕ → Type 0 = λ instance. CameTo p (came_to node None world.past) instance in (subst C e here.came).begun.small

    m_is : m ≡ fields
    m_is = same (sym is ∙ tick.1)
      where
        same : {a b : NackMessage} → Nack a ≡ Nack b → a ≡ b
        same e = cc

    pub read_again : decoded d.octets ≡ Ok (Nack fields)
    read_again = plea.read ∙ ap (λ (x : NackMessage). Ok (Nack x)) m_is

    -- a sender of that instance takes it
    pub joins : (t : SenderState) (later : ℕ) → (instance_id r == t.current.id) ≡ true
        → heard p t d.octets later ≡ joined_round p t later (requests_asked (map (asked_of p) (wanted_of p r)))
    joins t later same =
        ap (message_heard p t later) read_again
        ∙ ap (λ (b : Bool). elim b as (λ _. SenderState) [ true ↦ joined_round p t later fields.requests | false ↦ t ]) counts
      where
        counts : nack_counts p t fields ≡ true
        counts =
            ap (λ (n : ℕ). is_receiver p n && (p.sender == p.sender && instance_id r == t.current.id)) here.here
            ∙ ap (λ (b : Bool). b && (p.sender == p.sender && instance_id r == t.current.id)) (receiver_is p events node r found)
            ∙ ap (λ (b : Bool). b && instance_id r == t.current.id) ((Decides-eqb p.sender p.sender).1 refl) ∙ same

-- ---- a NACK comes

module _ (p : Settings) (range : InRange p) (hold : p.mode ≡ Hold) (events : List Event) (may : MayGoOn p events) (none : streams (run p events).sender ≡ 0)
    (node : ℕ) (other : (node == p.sender) ≡ false) (r : ReceiverState) (found : receiver_at (run p events) node ≡ Some r)
    (member : has_member node (run p events).sender ≡ true) (inside : is_in r (run p events).sender.current.id ≡ true) (now later : ℕ) (d : Written)
    (m : NackMessage) (gave : (ticked p r now).1 ≡ Some d) (is : d.message ≡ Nack m) where
  abbrev s : SenderState
  s = (run p events).sender

  first : First p r
  first = first_of p range r (tick p range events may node r found now d m gave is).0

  lack : LacksOf p s r first.need
  lack = need_lacks p range hold events may.lawful may.jobs none node other r found member inside first.need first.one

  -- ---- what is asked for has near indices, and blocks of 24 bits

  within : want_index lack.y < length s.current.order
  within = go lack.y lack.source
    where
      long : length (current_shapes p s) ≡ length s.current.order
      long = length-map s.current.order (λ (e : Entry). shape_of p e.object)

      there : (i : ℕ) (o : Option Shape) (test : Shape → Bool) → slice_get (current_shapes p s) i ≡ o → (elim o as (λ _. Bool) [ Some x ↦ test x | None ↦ false ]) ≡ true
          → i < length s.current.order
      there i None test e f = absurd (clash f)
      there i (Some x) test e f = let lt = slice_get_within (current_shapes p s) i x e in let same = long in omega (arith, lt, same)

      go : (y : Want) → is_info_or_source (current_shapes p s) y ≡ true → want_index y < length s.current.order
      go (want.Info i) e = there i (slice_get (current_shapes p s) i) (λ x. x.info) refl e
      go (want.Symbol at) e = there at.index (slice_get (current_shapes p s) at.index) (λ x. nat_lt at.symbol (closed_in x at.block)) refl e

  near : (index : ℕ) → index < length s.current.order → IsNear (last_index s) index
  near index lt = let most = few_here p range events may node r found in (omega (arith, lt, most), omega (arith, lt, most), omega (arith, lt, most))

  name : (at : Position) → is_source (current_shapes p s) at ≡ true → HasName at
  name at e = reached_laws.sources p s at range (reach p range events may node r found) e

  facts : (need : Need) (y : Want) → IsOfNeed need y → is_info_or_source (current_shapes p s) y ≡ true → want_index y < length s.current.order
      → AllByRecursion (IsNear (last_index s)) (indices_of need) × NamesBlocks need × IsNarrow (width_at holding_nothing need) y × (width_at holding_nothing need ≤ 256)
  facts (Object index) (want.Info other) of source lt = ((near index (omega (arith, of, lt)), tt), omega arith, tt, omega arith)
  facts (Object index) (want.Symbol at) of source lt = let low = (name at source).2 in ((near index (omega (arith, of, lt)), tt), omega arith, low, omega arith)
  facts (ObjectInfo index) (want.Info other) of source lt = ((near index (omega (arith, of, lt)), tt), omega arith, tt, omega arith)
  facts (ObjectInfo index) (want.Symbol at) of source lt = absurd of
  facts (Symbols index block wanted) (want.Info other) of source lt = absurd of
  facts (Symbols index block wanted) (want.Symbol at) of source lt =
      let same = ap (λ (x : Point). x.index) of.0 in
      let same_block = ap (λ (x : Point). x.block) of.0 in
      let low = (name at source).2 in
      let few_blocks = (name at source).1 in
      ((near index (omega (arith, same, lt)), tt), omega (arith, same_block, few_blocks), low, omega arith)
  facts (Source own) (want.Info other) of source lt = absurd of
  facts (Source own) (want.Symbol at) of source lt =
      let same = ap (λ (x : Position). x.index) of in
      let same_block = ap (λ (x : Position). x.block) of in
      let low = (name at source).2 in
      let few_blocks = (name at source).1 in
      ((near own.index (omega (arith, same, lt)), tt), omega (arith, same_block, few_blocks), low, omega arith)
  facts (Rest index block) (want.Info other) of source lt = absurd of
  facts (Rest index block) (want.Symbol at) of source lt =
      let same = of.0 in
      let le = of.1 in
      let low = (name at source).2 in
      let few_blocks = (name at source).1 in
      ((near index (omega (arith, same, lt)), (near index (omega (arith, same, lt)), tt)), omega (arith, le, few_blocks), low, omega arith)

  -- ---- the round

  joined_asks : asks_open p (joined_round p s later (requests_asked (map (asked_of p) (wanted_of p r)))) lack.y ≡ true
  joined_asks =
      let f = facts first.need lack.y lack.of lack.source within in
      round_asks.joins p range s (reach p range events may node r found) later (requests_asked (map (asked_of p) (wanted_of p r))) holding_nothing first.need
      (needs_are_read p (last_index s) holding_nothing (wanted_of p r) first.need first.asked f.0 f.3 f.1) lack.y lack.of f.2 lack.source
      (of_window p s lack.y (in_contained lack.y (in_window p s) lack.within)).1

  same_instance : (instance_id r == s.current.id) ≡ true
  same_instance = go r.instance inside
    where
      go : (o : Option ℕ) → (elim o as (λ _. Bool) [ Some current ↦ current == s.current.id | None ↦ false ]) ≡ true → (unwrap_or o 0 == s.current.id) ≡ true
      go None e = absurd (clash e)
      go (Some current) e = e

  asked_of_member : AskedOf p s (heard p s d.octets later) r
  asked_of_member = record {
    y = lack.y;
    within = lack.within;
    lacks = lack.lacks;
    asked = ap (λ (t : SenderState). asks_open p t lack.y) (joins p range events may node r found now d m gave is s later same_instance) ∙ joined_asks;
  }

pub nack_asks : NackAsks
nack_asks p range hold events may none node other r found member inside now later d m gave is =
    asked_of_member p range hold events may none node other r found member inside now later d m gave is
