-- What is kept along a run that passes on what the sender gives.
use Rattle.std.proofs.Common.{◌≡◌, ℕ, List, [], ◌∷◌, ◌++◌, Bool, true, false, Option, None, Some, refl, sym, ap, ◌∙◌, subst, inl, inr}
use Rattle.std.specs.Prelude.{map, find, ◌==◌, ◌&&◌, ◌||◌, option_and_then, ⊤}
use Rattle.std.specs.List.{AllByRecursion, list_any, list_all}
use Rattle.std.proofs.lemmas.Bool.Decides.{Decides-eqb}
use Rattle.norm_base.specs.Settings.{Settings, InRange}
use Rattle.norm_base.specs.declared.node.Origin.{Origin}
use Rattle.fec_plan.specs.declared.position.Position.{Position}
use Rattle.norm_ext.specs.Message.{Message, Info, Data, Flush, Eot, Squelch, RepairAdv, AckReq, Opaque, Nack, Ack, Report}
use Rattle.norm_ext.specs.Written.{Written}
use Rattle.norm_receive_rules.specs.Holding.{Holding}
use Rattle.norm_receive_rules.specs.ReceiverState.{ReceiverState}
use Rattle.norm_receive_rules.specs.ReceiverStep as receiver
use Rattle.norm_receive_rules.specs.Receiving.{received}
use Rattle.norm_receive_rules.specs.Taking.{took}
use Rattle.norm_receive_rules.specs.Ticking.{ticked as receiver_ticked}
use Rattle.norm_receive_rules.proofs.BesideLemmas.{taking}
use Rattle.norm_send_rules.specs.Commanding.{commanded}
use Rattle.norm_send_rules.specs.Hearing.{heard}
use Rattle.norm_send_rules.specs.Restarting.{first_id}
use Rattle.norm_send_rules.specs.SenderState.{SenderState}
use Rattle.norm_send_rules.specs.SenderStep as sender
use Rattle.norm_send_rules.specs.Telling.{told}
use Rattle.norm_send_rules.specs.Ticking.{ticked as sender_ticked}
use Rattle.norm_safety.specs.Events.{Event, Commanded, Delivered, Ticked, Offered, UpTaken, NewsAsked}
use Rattle.norm_safety.specs.History.{Happening}
use Rattle.norm_safety.specs.Jobs.{IsEvent}
use Rattle.norm_safety.specs.Lawful.{receiver_knows, sender_knows, are_near, comes_in_time, all_taken, LawfulDelivery, MayCome}
use Rattle.norm_safety.specs.World.{World, receiver_at, with_receiver, with_given, given_others, same_octets, is_of, offers}
use Rattle.norm_safety.specs.WorldStep.{world_step, moved, node_move, receiver_move}
use Rattle.norm_safety.proofs.EntryLemmas.{clash}
use Rattle.norm_safety.proofs.Feedback.{IsOther, SendsNothingOf, receiver_says_nothing}
use Rattle.norm_safety.proofs.FrontLemmas.{same_list}
use Rattle.norm_safety.proofs.OrderRun.{moved_node_is, found_holds, event_holds}
use Rattle.norm_safety.proofs.ReceiverMoves.{tick_same, received_moves}
use Rattle.norm_safety.proofs.SenderHolds.{steady_onward, orders_hold}
use Rattle.norm_safety.proofs.SenderKeeps.{ticked_keeps}
use Rattle.norm_safety.proofs.SizedOrders.{keeps_steady}
use Rattle.norm_safety.proofs.Spoken.{SaysTrue, SpeaksTrue}
use Rattle.norm_safety.proofs.TickTrue.{SentTrue, tick_true, true_later}
use Rattle.norm_safety.proofs.WorldHolds.{AtReceiver, AtNode, WorldHolds, all_filter, all_end, all_contains, all_later}
use Rattle.norm_safety.proofs.WorldLemmas.{world_laws}
use Rattle.norm_safety.proofs.WorldMoves.{at_node, put_in, found_put, found_other}
use Rattle.norm_laws.specs.HandedUp.{Passing, is_delivery_of, passing_after, has_heard, is_passed_on, is_sender_tick}
use Rattle.norm_laws.proofs.GivenTicks.{Gives, BringsSymbol, BringsInfo, tick_gives}
use Rattle.norm_laws.proofs.GoneSent.{GoneSent}
use Rattle.norm_laws.proofs.HeldRoom.{FitsNow}
use Rattle.norm_laws.proofs.HeldWords.{HasSymbol, HasInfo}
use Rattle.norm_laws.proofs.PassingHears.{Coming, heard_goes, heard_below, heard_clean, symbol_comes, info_comes}
use Rattle.norm_laws.proofs.PassingTicks.{HasAll, all_passed, Sits, Same, sits_still, sits_anew, has_all_later, past_dropped, tick_has, tick_spares}
use Rattle.norm_laws.proofs.PassingWords.{Awaited, Got, IsPast, IsBelow, Has, SparedBy, Goes, Stays, spared_message, has_still}
use Rattle.norm_laws.proofs.SentRests.{Goes as SenderGoes, Same as SameInstance, Anew, rests_itself, heard_rests, told_rests, command_goes}

-- ---- words

-- each datagram spares a receiver, if it is a squelch
abbrev pub AllSpare : Settings → ReceiverState → List (ℕ × Written) → Type 0
AllSpare p r said = AllByRecursion (λ (o : ℕ × Written). SparedBy p r o.1.indices o.1.message) said

-- what is kept of a receiver: each squelch that was said spares it
pub record Keeps (p : Settings) (s : SenderState) (x : Passing) (all waiting : List (ℕ × Written)) (node : ℕ) (r : ReceiverState) : Type 0 where
  pub has : Has p s x node r
  pub offered : AllSpare p r all
  pub given : AllSpare p r waiting

-- the same at a node, of its receiver where it has one
abbrev pub HasAt : Settings → SenderState → Passing → List (ℕ × Written) → List (ℕ × Written) → ℕ → Option ReceiverState → Type 0
HasAt p s x offered given node None = ⊤
HasAt p s x offered given node (Some r) = Keeps p s x offered given node r

-- some lawful run comes to a world
pub record Comes (p : Settings) (w : World) : Type 0 where
  pub past : List Happening
  pub accepted : List Origin
  pub holds : WorldHolds p past accepted w

-- What is kept of a world, by the sender's state after its last tick, with which the receivers stand as if it stayed: its window fits the
-- profile, what it gave last is true of it, and each receiver has what counted as sent then.
pub record Passed (p : Settings) (w : World) (x : Passing) : Type 0 where
  pub ticked : SenderState
  pub stands : Comes p (record w { sender = ticked })
  pub fits : FitsNow p ticked
  pub sits : Sits p ticked w.sender
  pub last : SentTrue p ticked x.last
  pub nodes : (node : ℕ) → (node == p.sender) ≡ false → HasAt p ticked x w.offered w.given node (receiver_at w node)

-- ---- receivers that stay

-- the same was given last, and the same is unheard
has_as : (p : Settings) (s : SenderState) (x y : Passing) (node : ℕ) (r : ReceiverState) → y.last ≡ x.last → has_heard y node ≡ has_heard x node → Has p s x node r → Has p s y node r
has_as p s x y node r last unheard h = record {
  symbols = λ at e. got (λ (g : Holding). HasSymbol g at) (BringsSymbol p s.current.id at) (h.symbols at e);
  infos = λ index e. got (λ (g : Holding). HasInfo g index) (BringsInfo p s.current.id index) (h.infos index e);
  past = h.past;
  lost = h.lost;
  apart = h.apart;
  far = h.far;
  below = h.below;
}
  where
    got : (P : Holding → Type 0) (Brings : Written → Type 0) → Got x node r s.current.id P Brings → Got y node r s.current.id P Brings
    got P Brings (inl has) = inl has
    got P Brings (inr awaited) = inr (record { datagram = awaited.datagram; last = last ∙ awaited.last; brings = awaited.brings; unheard = unheard ∙ awaited.unheard })

at_as : (p : Settings) (s : SenderState) (x y : Passing) (offered given : List (ℕ × Written)) (node : ℕ) (found : Option ReceiverState) → y.last ≡ x.last
    → has_heard y node ≡ has_heard x node → HasAt p s x offered given node found → HasAt p s y offered given node found
at_as p s x y offered given node None last heard h = tt
at_as p s x y offered given node (Some r) last heard h = record { has = has_as p s x y node r last heard h.has; offered = h.offered; given = h.given }

-- where a delivery counts or not
abbrev heard_by : Passing → ℕ → Bool → Passing
heard_by x node is = elim is [ true ↦ record x { heard = node ∷ x.heard } | false ↦ x ]

last_by : (x : Passing) (node : ℕ) (b : Bool) → (heard_by x node b).last ≡ x.last
last_by x node true = refl
last_by x node false = refl

others_hear : (x : Passing) (node other : ℕ) (b : Bool) → (node == other) ≡ false → has_heard (heard_by x node b) other ≡ has_heard x other
others_hear x node other false differ = refl
others_hear x node other true differ = go x.last
  where
    go : (last : Option Written) → (elim last as (λ _. Bool) [ Some datagram ↦ (node == other) || list_any (λ n. n == other) x.heard | None ↦ true ])
        ≡ (elim last as (λ _. Bool) [ Some datagram ↦ list_any (λ n. n == other) x.heard | None ↦ true ])
    go None = refl
    go (Some datagram) = ap (λ (c : Bool). c || list_any (λ n. n == other) x.heard) differ

differs : (a b : ℕ) → (a ≡ b → ⊥) → (a == b) ≡ false
differs a b h = go (a == b) refl
  where
    go : (t : Bool) → (a == b) ≡ t → t ≡ false
    go true e = absurd (h ((Decides-eqb a b).0 e))
    go false e = refl

-- ---- one receiver in place of another

put_nodes : (P : ℕ → Option ReceiverState → Type 0) (w : World) (node : ℕ) (r t : ReceiverState) → receiver_at w node ≡ Some r → t.node ≡ r.node → P node (Some t)
    → ((other : ℕ) → (node == other) ≡ false → P other (receiver_at w other)) → (other : ℕ) → P other (receiver_at (with_receiver t w) other)
put_nodes P w node r t found same own others other = go (node == other) refl
  where
    here : r.node ≡ node
    here = world_laws.found w node r found

    go : (b : Bool) → (node == other) ≡ b → P other (receiver_at (with_receiver t w) other)
    go true e =
        let is : node ≡ other = (Decides-eqb node other).0 e in
        let there : at_node w.receivers t.node ≡ Some r = ap (at_node w.receivers) (same ∙ here) ∙ found in
        let at : receiver_at (with_receiver t w) other ≡ Some t = ap (at_node (map (put_in t) w.receivers)) (sym (same ∙ here ∙ is)) ∙ found_put t r w.receivers there in
        let H : Option ReceiverState → Type 0 = λ o. P other o in
        let N : ℕ → Type 0 = λ n. P n (Some t) in
        subst H (sym at) (subst N is own)
    go false e =
        let not_t : t.node ≡ other → ⊥ = λ is. clash (sym e ∙ (Decides-eqb node other).1 (sym here ∙ sym same ∙ is)) in
        let at : receiver_at (with_receiver t w) other ≡ receiver_at w other = found_other t w.receivers other not_t in
        let H : Option ReceiverState → Type 0 = λ o. P other o in
        subst H (sym at) (others other e)

-- ---- events of the sender but its ticks

sender_passes : (p : Settings) (w : World) (x : Passing) (t : SenderState) (h : Passed p w x) → Sits p h.ticked t → Passed p (record w { sender = t }) x
sender_passes p w x t h sits = record { ticked = h.ticked; stands = h.stands; fits = h.fits; sits = sits; last = h.last; nodes = h.nodes }

command_sits : (p : Settings) (s u : SenderState) {t : SenderState} → first_id u ≡ p.instance → Sits p s u → SenderGoes u t → Sits p s t
command_sits p s u first sits (SameInstance same) = sits_still p s u _ same sits
command_sits p s u first sits (Anew id unused) = sits_anew p s u id first unused sits

-- another node heard something, or nobody did
heard_passes : (p : Settings) (w : World) (x : Passing) (node : ℕ) (b : Bool) → ((other : ℕ) → (other == p.sender) ≡ false → (node == other) ≡ true → receiver_at w other ≡ None)
    → Passed p w x → Passed p w (heard_by x node b)
heard_passes p w x node b nobody h = record {
  ticked = h.ticked;
  stands = h.stands;
  fits = h.fits;
  sits = h.sits;
  last = subst (SentTrue p h.ticked) (sym (last_by x node b)) h.last;
  nodes = λ other apart. at other apart (node == other) refl;
}
  where
    at : (other : ℕ) → (other == p.sender) ≡ false → (c : Bool) → (node == other) ≡ c → HasAt p h.ticked (heard_by x node b) w.offered w.given other (receiver_at w other)
    at other apart true e = let H : Option ReceiverState → Type 0 = λ o. HasAt p h.ticked (heard_by x node b) w.offered w.given other o in subst H (sym (nobody other apart e)) tt
    at other apart false e =
        at_as p h.ticked x (heard_by x node b) w.offered w.given other (receiver_at w other) (last_by x node b) (others_hear x node other b e) (h.nodes other apart)

-- ---- a receiver moves

-- what was said spares a receiver that moved
spared_later : (p : Settings) (r : ReceiverState) (event : receiver.ReceiverEvent) (said : List (ℕ × Written)) → Goes p r (receiver.receiver_step p r event).0
    → AllSpare p r said → AllSpare p (receiver.receiver_step p r event).0 said
spared_later p r event said goes all =
    all_later (λ (o : ℕ × Written). SparedBy p r o.1.indices o.1.message) (λ (o : ℕ × Written). SparedBy p (receiver.receiver_step p r event).0 o.1.indices o.1.message) said
    (λ o spared. spared_message p r event o.1.indices o.1.message goes spared) all

-- the world with a receiver that moved
put_passes : (p : Settings) (w : World) (x y : Passing) (node : ℕ) (r t : ReceiverState) (h : Passed p w x) → receiver_at w node ≡ Some r → t.node ≡ r.node
    → Comes p (with_receiver t (record w { sender = h.ticked })) → y.last ≡ x.last → ((other : ℕ) → (node == other) ≡ false → has_heard y other ≡ has_heard x other)
    → ((node == p.sender) ≡ false → HasAt p h.ticked y w.offered w.given node (Some t)) → Passed p (with_receiver t w) y
put_passes p w x y node r t h found same stands last heard own = record {
  ticked = h.ticked;
  stands = stands;
  fits = h.fits;
  sits = h.sits;
  last = subst (SentTrue p h.ticked) (sym last) h.last;
  nodes = λ other apart. put_nodes (λ n o. (n == p.sender) ≡ false → HasAt p h.ticked y w.offered w.given n o) w node r t found same own
      (λ other e apart. at_as p h.ticked x y w.offered w.given other (receiver_at w other) last (heard other e) (h.nodes other apart)) other apart;
}

-- the receiver at a node
at_found : (p : Settings) (w : World) (x : Passing) (node : ℕ) (r : ReceiverState) (h : Passed p w x) → receiver_at w node ≡ Some r → (node == p.sender) ≡ false
    → HasAt p h.ticked x w.offered w.given node (Some r)
at_found p w x node r h found apart = let H : Option ReceiverState → Type 0 = λ o. HasAt p h.ticked x w.offered w.given node o in subst H found (h.nodes node apart)

-- ---- a delivery

module _ (p : Settings) (range : InRange p) (w : World) (x : Passing) (node now draw : ℕ) (r : ReceiverState) (found : receiver_at w node ≡ Some r)
    (apart : (node == p.sender) ≡ false) (h : Passed p w x) where
  abbrev ThisComes : Written → Type 0
  ThisComes o = Coming p h.ticked h.stands.past node r o

  -- what is known of a datagram that comes
  coming : (o : Written) → SaysTrue p h.ticked o → are_near (receiver_knows r o.message) o.indices ≡ true → SparedBy p r o.indices o.message → ThisComes o
  coming o says near spared = record {
    sender = h.stands.holds.sender;
    ids = h.stands.holds.once.ids;
    low = h.stands.holds.once.low;
    fits = h.fits;
    here = (let A : Option ReceiverState → Type 0 = λ at. AtNode p h.ticked h.stands.past node at in subst A found (h.stands.holds.nodes node));
    says = says;
    near = near;
    spared = spared;
  }

  own_has : Has p h.ticked x node r
  own_has = (at_found p w x node r h found apart).has

  near_of : (o : Written) → comes_in_time p w node o ≡ true → are_near (receiver_knows r o.message) o.indices ≡ true
  near_of o e =
      let N : Bool → Type 0 = λ own. are_near (elim own [
        | true ↦ sender_knows w.sender o.message
        | false ↦ option_and_then (λ (a : ReceiverState). receiver_knows a o.message) (receiver_at w node)
      ]) o.indices ≡ true in
      let R : Option ReceiverState → Type 0 = λ at. are_near (option_and_then (λ (a : ReceiverState). receiver_knows a o.message) at) o.indices ≡ true in
      subst R found (subst N apart e)

  -- what was given last, where it was delivered now
  awaited_comes : (octets : List ℕ) (Brings : Written → Type 0) (awaited : Awaited x node Brings) → is_delivery_of p w node octets x.last ≡ true
      → ((m : Message) → Brings awaited.datagram → SparedBy p r awaited.datagram.indices awaited.datagram.message)
      → ThisComes awaited.datagram × (awaited.datagram.octets ≡ octets)
  awaited_comes octets Brings awaited e spared =
      let a : Written = awaited.datagram in
      let two = both_true (same_octets a.octets octets) (comes_in_time p w node a) (sym (ap (is_delivery_of p w node octets) awaited.last) ∙ e) in
      let says : SpeaksTrue p h.ticked a = subst (SentTrue p h.ticked) awaited.last h.last in
      (coming a says.says (near_of a two.1) (spared a.message awaited.brings), same_list a.octets octets two.0)
    where
      both_true : (a b : Bool) → (a && b) ≡ true → (a ≡ true) × (b ≡ true)
      both_true true b e = (refl, e)
      both_true false b e = absurd (clash e)

  symbol_after : (octets : List ℕ) (at : Position) (b : Bool) → is_delivery_of p w node octets x.last ≡ b → Awaited x node (BringsSymbol p h.ticked.current.id at)
      → Got (heard_by x node b) node (received p r octets now draw) h.ticked.current.id (λ (g : Holding). HasSymbol g at) (BringsSymbol p h.ticked.current.id at)
  symbol_after octets at false e awaited = inr awaited
  symbol_after octets at true e awaited =
      let a : Written = awaited.datagram in
      let comes = awaited_comes octets (BringsSymbol p h.ticked.current.id at) awaited e
      (λ m brings. (let S : Message → Type 0 = λ m. SparedBy p r a.indices m in subst S (sym brings.is) tt)) in
      let says : SpeaksTrue p h.ticked a = subst (SentTrue p h.ticked) awaited.last h.last in
      let G : List ℕ → Type 0 = λ bytes. ((received p r bytes now draw).instance ≡ Some h.ticked.current.id) × HasSymbol (received p r bytes now draw).holding at in
      inl (subst G comes.1 (symbol_comes p range h.ticked h.stands.past node r a now draw comes.0 says.read x own_has at awaited.brings))

  info_after : (octets : List ℕ) (index : ℕ) (b : Bool) → is_delivery_of p w node octets x.last ≡ b → Awaited x node (BringsInfo p h.ticked.current.id index)
      → Got (heard_by x node b) node (received p r octets now draw) h.ticked.current.id (λ (g : Holding). HasInfo g index) (BringsInfo p h.ticked.current.id index)
  info_after octets index false e awaited = inr awaited
  info_after octets index true e awaited =
      let a : Written = awaited.datagram in
      let comes = awaited_comes octets (BringsInfo p h.ticked.current.id index) awaited e
      (λ m brings. (let S : Message → Type 0 = λ m. SparedBy p r a.indices m in subst S (sym brings.is) tt)) in
      let says : SpeaksTrue p h.ticked a = subst (SentTrue p h.ticked) awaited.last h.last in
      let G : List ℕ → Type 0 = λ bytes. ((received p r bytes now draw).instance ≡ Some h.ticked.current.id) × HasInfo (received p r bytes now draw).holding index in
      inl (subst G comes.1 (info_comes p range h.ticked h.stands.past node r a now draw comes.0 says.read x own_has index awaited.brings))

  -- the receiver hears an offered datagram
  hears : (o : Written) → ThisComes o → Comes p (with_receiver (received p r o.octets now draw) (record w { sender = h.ticked }))
      → (received p r o.octets now draw).node ≡ r.node
      → Passed p (with_receiver (received p r o.octets now draw) w) (heard_by x node (is_delivery_of p w node o.octets x.last))
  hears o c stands same =
      put_passes p w x y node r t h found same stands (last_by x node b) (λ other e. others_hear x node other b e) (λ apart. record {
        has = has_still p r event h.ticked x y node goes below clean (λ at awaited. symbol_after o.octets at b refl awaited)
            (λ index awaited. info_after o.octets index b refl awaited) own_has;
        offered = spared_later p r event w.offered goes all.offered;
        given = spared_later p r event w.given goes all.given;
      })
    where
      b : Bool
      b = is_delivery_of p w node o.octets x.last

      y : Passing
      y = heard_by x node b

      t : ReceiverState
      t = received p r o.octets now draw

      event : receiver.ReceiverEvent
      event = receiver.Delivered o.octets now draw

      goes : Goes p r t
      goes = heard_goes p range h.ticked h.stands.past node r o now draw c

      below : IsBelow p t.instance h.ticked.current.id
      below = heard_below p range h.ticked h.stands.past node r o now draw c own_has.below

      clean : t.holding.lost ≡ []
      clean = heard_clean p range h.ticked h.stands.past node r o now draw c own_has.far.stuck own_has.lost

      all : Keeps p h.ticked x w.offered w.given node r
      all = at_found p w x node r h found apart

-- the run goes on to a world
comes_on : (p : Settings) → InRange p → (w : World) (e : Event) (c : Comes p w) → MayCome p w c.accepted e → IsEvent e → Comes p (world_step p w e).0
comes_on p range w e c may is = record { past = _; accepted = _; holds = event_holds p range c.past c.accepted w e may is c.holds }

delivery_passes : (p : Settings) → InRange p → (w : World) (x : Passing) (node : ℕ) (octets : List ℕ) (now draw : ℕ) → LawfulDelivery p w node octets → Passed p w x
    → Passed p (world_step p w (Delivered node octets now draw)).0 (heard_by x node (is_delivery_of p w node octets x.last))
delivery_passes p range w x node octets now draw may h = go (node == p.sender) (receiver_at w node) refl refl
  where
    W : World
    W = record w { sender = h.ticked }

    o : Written
    o = may.datagram

    b : Bool
    b = is_delivery_of p w node octets x.last

    -- the same delivery in the world where the sender stays
    may_stay : (node == p.sender) ≡ false → LawfulDelivery p W node o.octets
    may_stay apart = record {
      from = may.from;
      datagram = o;
      other = may.other;
      offered = may.offered;
      same = refl;
      near = (
          let N : SenderState → Bool → Type 0 = λ s own. are_near (elim own [
            | true ↦ sender_knows s o.message
            | false ↦ option_and_then (λ (a : ReceiverState). receiver_knows a o.message) (receiver_at w node)
          ]) o.indices ≡ true in
          subst (N h.ticked) (sym apart) (subst (N w.sender) apart may.near)
          );
    }

    own_step : (r : ReceiverState) → receiver_at w node ≡ Some r → (node == p.sender) ≡ false → Comes p (with_receiver (received p r o.octets now draw) W)
    own_step r found apart =
        let next = comes_on p range W (Delivered node o.octets now draw) h.stands (may_stay apart) tt in
        let M : Bool → Type 0 = λ own. Comes p (moved p W (node_move own (receiver_at W node) (sender.Delivered o.octets now) (receiver.Delivered o.octets now draw))).0 in
        let F : Option ReceiverState → Type 0 = λ at. Comes p (moved p W (receiver_move at (receiver.Delivered o.octets now draw))).0 in
        subst F found (subst M apart next)

    other_of : (node == p.sender) ≡ true → (other : ℕ) → (other == p.sender) ≡ false → (node == other) ≡ true → receiver_at w other ≡ None
    other_of is other apart e =
        absurd (clash (sym apart ∙ (Decides-eqb other p.sender).1 (sym ((Decides-eqb node other).0 e) ∙ (Decides-eqb node p.sender).0 is)))

    go : (own : Bool) (found : Option ReceiverState) → (node == p.sender) ≡ own → receiver_at w node ≡ found
        → Passed p (moved p w (node_move own found (sender.Delivered octets now) (receiver.Delivered octets now draw))).0 (heard_by x node b)
    go true found own at =
        let t : SenderState = heard p w.sender octets now in
        heard_passes p (record w { sender = t }) x node b (other_of own)
        (sender_passes p w x t h (sits_still p h.ticked w.sender t (heard_rests p w.sender octets now) h.sits))
    go false None own at = heard_passes p w x node b (λ other apart e. ap (at_node w.receivers) (sym ((Decides-eqb node other).0 e)) ∙ at) h
    go false (Some r) own at =
        let said = all_contains (λ (a : ℕ × Written). SaysTrue p h.ticked a.1) w.offered (may.from, o) h.stands.holds.offered may.offered in
        let spared = all_contains (λ (a : ℕ × Written). SparedBy p r a.1.indices a.1.message) w.offered (may.from, o) (at_found p w x node r h at own).offered may.offered in
        let c = coming p range w x node now draw r at own h o said (near_of p range w x node now draw r at own h o may.near) spared in
        let B : List ℕ → Type 0 = λ bytes. Passed p (with_receiver (received p r bytes now draw) w) (heard_by x node (is_delivery_of p w node bytes x.last)) in
        subst B may.same (hears p range w x node now draw r at own h o c (own_step r at own)
        (moved_node_is p h.ticked r (received p r o.octets now draw)
        (received_moves p range h.ticked r o o.octets now draw (orders_hold p h.ticked c.sender) c.says refl c.near)))

-- ---- offers and takes

offer_passes : (p : Settings) → InRange p → (w : World) (x : Passing) (node : ℕ) (octets : List ℕ) → MayCome p w [] (Offered node octets) → Passed p w x
    → Passed p (world_step p w (Offered node octets)).0 x
offer_passes p range w x node octets may h = go (find (is_of node octets) w.given) refl (comes_on p range W (Offered node octets) h.stands may tt)
  where
    W : World
    W = record w { sender = h.ticked }

    go : (found : Option (ℕ × Written)) → find (is_of node octets) w.given ≡ found → Comes p (offers found node W) → Passed p (offers found node w) x
    go None e stands = h
    go (Some o) e stands = record {
      ticked = h.ticked;
      stands = stands;
      fits = h.fits;
      sits = h.sits;
      last = h.last;
      nodes = λ other apart. at other (receiver_at w other) (h.nodes other apart);
    }
      where
        at : (other : ℕ) (found : Option ReceiverState) → HasAt p h.ticked x w.offered w.given other found
            → HasAt p h.ticked x (w.offered ++ o ∷ []) (given_others node w) other found
        at other None has = tt
        at other (Some r) k =
            let S : ℕ × Written → Type 0 = λ a. SparedBy p r a.1.indices a.1.message in
            record { has = k.has; offered = all_end S w.offered o k.offered (found_holds S (is_of node octets) w.given o k.given e); given = all_filter S _ w.given k.given }

take_passes : (p : Settings) → InRange p → (w : World) (x : Passing) (node : ℕ) → Passed p w x → Passed p (world_step p w (UpTaken node)).0 x
take_passes p range w x node h = go (receiver_at w node) refl (comes_on p range W (UpTaken node) h.stands tt tt)
  where
    W : World
    W = record w { sender = h.ticked }

    go : (found : Option ReceiverState) → receiver_at w node ≡ found → Comes p (moved p W (receiver_move found receiver.UpTaken)).0
        → Passed p (moved p w (receiver_move found receiver.UpTaken)).0 x
    go None e stands = h
    go (Some r) e stands = put_passes p w x x node r (took r).0 h e refl stands refl (λ other f. refl) (λ apart. (
        let k : Keeps p h.ticked x w.offered w.given node r = at_found p w x node r h e apart in
        record {
          has = has_still p r receiver.UpTaken h.ticked x x node (Stays refl) k.has.below ((taking r.holding).lost ∙ k.has.lost) (λ at awaited. inr awaited)
              (λ index awaited. inr awaited) k.has;
          offered = spared_later p r receiver.UpTaken w.offered (Stays refl) k.offered;
          given = spared_later p r receiver.UpTaken w.given (Stays refl) k.given;
        }
        ))

-- ---- ticks

-- what a receiver's tick gives is no squelch
other_spares : (p : Settings) (r : ReceiverState) (indices : List ℕ) (m : Message) → IsOther m → SparedBy p r indices m
other_spares p r indices (Info m) h = tt
other_spares p r indices (Data m) h = tt
other_spares p r indices (Flush m) h = tt
other_spares p r indices (Squelch m) h = absurd h
other_spares p r indices (Eot m) h = tt
other_spares p r indices (RepairAdv m) h = tt
other_spares p r indices (AckReq m) h = tt
other_spares p r indices (Opaque m) h = tt
other_spares p r indices (Nack m) h = tt
other_spares p r indices (Ack m) h = tt
other_spares p r indices (Report m) h = tt

-- what is kept at a node as a receiver gave something
given_more : (p : Settings) (s : SenderState) (x : Passing) (v : World) (node : ℕ) (sent : Option Written) → SendsNothingOf sent → (other : ℕ) (found : Option ReceiverState)
    → HasAt p s x v.offered v.given other found → HasAt p s x (with_given node sent v).offered (with_given node sent v).given other found
given_more p s x v node None nothing other None h = tt
given_more p s x v node (Some o) nothing other None h = tt
given_more p s x v node None nothing other (Some r) k =
    record { has = k.has; offered = k.offered; given = all_filter (λ (a : ℕ × Written). SparedBy p r a.1.indices a.1.message) _ v.given k.given }
given_more p s x v node (Some o) nothing other (Some r) k =
    let S : ℕ × Written → Type 0 = λ a. SparedBy p r a.1.indices a.1.message in
    record {
      has = k.has;
      offered = k.offered;
      given = all_end S (given_others node v) (node, o) (all_filter S _ v.given k.given) (other_spares p r o.indices o.message nothing.1);
    }

receiver_tick_passes : (p : Settings) → InRange p → (w : World) (x : Passing) (node now : ℕ) (r : ReceiverState) → receiver_at w node ≡ Some r → (node == p.sender) ≡ false
    → (h : Passed p w x) → Comes p (with_given r.node (receiver_ticked p r now).1 (with_receiver (receiver_ticked p r now).0 (record w { sender = h.ticked })))
    → Passed p (with_given r.node (receiver_ticked p r now).1 (with_receiver (receiver_ticked p r now).0 w)) x
receiver_tick_passes p range w x node now r found apart h stands = build (receiver_ticked p r now).1 (receiver_says_nothing p r now) stands
  where
    t : ReceiverState
    t = (receiver_ticked p r now).0

    event : receiver.ReceiverEvent
    event = receiver.Ticked now

    goes : Goes p r t
    goes = Stays (tick_same p r now).instance

    k : Keeps p h.ticked x w.offered w.given node r
    k = at_found p w x node r h found apart

    own : HasAt p h.ticked x w.offered w.given node (Some t)
    own =
        let B : Option ℕ → Type 0 = λ instance. IsBelow p instance h.ticked.current.id in
        record {
          has = has_still p r event h.ticked x x node goes (subst B (sym (tick_same p r now).instance) k.has.below)
              (ap (λ (g : Holding). g.lost) (tick_same p r now).holding ∙ k.has.lost) (λ at awaited. inr awaited) (λ index awaited. inr awaited) k.has;
          offered = spared_later p r event w.offered goes k.offered;
          given = spared_later p r event w.given goes k.given;
        }

    nodes : (other : ℕ) → (other == p.sender) ≡ false → HasAt p h.ticked x w.offered w.given other (receiver_at (with_receiver t w) other)
    nodes other = put_nodes (λ n o. (n == p.sender) ≡ false → HasAt p h.ticked x w.offered w.given n o) w node r t found (tick_same p r now).node (λ apart. own)
        (λ other e apart. h.nodes other apart) other

    build : (sent : Option Written) → SendsNothingOf sent → Comes p (with_given r.node sent (with_receiver t (record w { sender = h.ticked })))
        → Passed p (with_given r.node sent (with_receiver t w)) x
    build None nothing stands = record {
      ticked = h.ticked;
      stands = stands;
      fits = h.fits;
      sits = h.sits;
      last = h.last;
      nodes = λ other apart. given_more p h.ticked x (with_receiver t w) r.node None nothing other (receiver_at (with_receiver t w) other) (nodes other apart);
    }
    build (Some o) nothing stands = record {
      ticked = h.ticked;
      stands = stands;
      fits = h.fits;
      sits = h.sits;
      last = h.last;
      nodes = λ other apart. given_more p h.ticked x (with_receiver t w) r.node (Some o) nothing other (receiver_at (with_receiver t w) other) (nodes other apart);
    }

-- of a receiver that is found all that is tested of each
all_found : (test : ReceiverState → Bool) (rs : List ReceiverState) (node : ℕ) (r : ReceiverState) → list_all test rs ≡ true
    → find (λ (a : ReceiverState). a.node == node) rs ≡ Some r → test r ≡ true
all_found test rs node r e found = found_holds (λ (a : ReceiverState). test a ≡ true) (λ (a : ReceiverState). a.node == node) rs r (each rs e) found
  where
    both_true : (a b : Bool) → (a && b) ≡ true → (a ≡ true) × (b ≡ true)
    both_true true b e = (refl, e)
    both_true false b e = absurd (clash e)

    each : (rs : List ReceiverState) → list_all test rs ≡ true → AllByRecursion (λ (a : ReceiverState). test a ≡ true) rs
    each [] e = tt
    each (a ∷ rs) e = let two = both_true (test a) (list_all test rs) e in (two.0, each rs two.1)

-- a node to which all was passed on
pub passed_at : (w : World) (x : Passing) (node : ℕ) (r : ReceiverState) → is_passed_on w x ≡ true → receiver_at w node ≡ Some r
    → (has_heard x node ≡ true) × (all_taken (Some r) ≡ true)
passed_at w x node r e found =
    let two = both_true (has_heard x r.node) (all_taken (Some r)) (all_found (λ (a : ReceiverState). has_heard x a.node && all_taken (Some a)) w.receivers node r e found) in
    (ap (has_heard x) (sym (world_laws.found w node r found)) ∙ two.0, two.1)
  where
    both_true : (a b : Bool) → (a && b) ≡ true → (a ≡ true) × (b ≡ true)
    both_true true b e = (refl, e)
    both_true false b e = absurd (clash e)

sender_tick_passes : (p : Settings) → InRange p → (past : List Happening) (accepted : List Origin) (w : World) (x : Passing) (now : ℕ) → WorldHolds p past accepted w
    → GoneSent p w.sender.current.order w.sender.current.drop w.sender.sent w.sender.sent_infos → FitsNow p (sender_ticked p w.sender now).0
    → is_passed_on w x ≡ true → Passed p w x
    → Comes p (with_given p.sender (sender_ticked p w.sender now).1 (record w { sender = (sender_ticked p w.sender now).0 }))
    → Passed p (with_given p.sender (sender_ticked p w.sender now).1 (record w { sender = (sender_ticked p w.sender now).0 }))
    (record { last = (sender_ticked p w.sender now).1; heard = [] })
sender_tick_passes p range past accepted w x now holds gone fits on h stands =
    build (sender_ticked p w.sender now).1 (tick_gives p w.sender now) (tick_true p range w.sender now holds.sender holds.once.ids) stands
  where
    t : SenderState
    t = (sender_ticked p w.sender now).0

    had : (node : ℕ) (r : ReceiverState) → receiver_at w node ≡ Some r → Has p h.ticked x node r → HasAll w.sender r
    had node r found has = has_all_later p h.ticked w.sender r h.sits (all_passed p h.ticked x node r (passed_at w x node r on found).0 has)

    past_it : (node : ℕ) (r : ReceiverState) → receiver_at w node ≡ Some r → Has p h.ticked x node r → IsPast w.sender.current.id w.sender.current.drop r
    past_it node r found has =
        let here : AtReceiver p w.sender past node r = (let A : Option ReceiverState → Type 0 = λ at. AtNode p w.sender past node at in subst A found (holds.nodes node)) in
        past_dropped p range w.sender past node r holds.sender holds.once.ids gone here (had node r found has) has.far

    said : (sent : Option Written) → SentTrue p w.sender sent → SentTrue p t sent
    said None h = tt
    said (Some o) says =
        let onward = steady_onward p w.sender t (keeps_steady p w.sender t (ticked_keeps p w.sender now)) in
        record { says = true_later p range w.sender t o onward says.says; read = says.read; no_ack = says.no_ack; spoken = says.spoken }

    at : (sent : Option Written) → Gives p w.sender t sent → (node : ℕ) (found : Option ReceiverState) → receiver_at w node ≡ found
        → HasAt p h.ticked x w.offered w.given node found
        → let v : World = with_given p.sender sent (record w { sender = t }) in HasAt p t (record { last = sent; heard = [] }) v.offered v.given node found
    at None gives node None found has = tt
    at (Some o) gives node None found has = tt
    at None gives node (Some r) found k = record {
      has = tick_has p h.ticked w.sender t None x node r k.has h.sits (had node r found k.has) (past_it node r found k.has) gives;
      offered = k.offered;
      given = all_filter (λ (a : ℕ × Written). SparedBy p r a.1.indices a.1.message) _ w.given k.given;
    }
    at (Some o) gives node (Some r) found k =
        let S : ℕ × Written → Type 0 = λ a. SparedBy p r a.1.indices a.1.message in
        record {
          has = tick_has p h.ticked w.sender t (Some o) x node r k.has h.sits (had node r found k.has) (past_it node r found k.has) gives;
          offered = k.offered;
          given = all_end S (given_others p.sender w) (p.sender, o) (all_filter S _ w.given k.given) (tick_spares p w.sender t o r (past_it node r found k.has) gives);
        }

    build : (sent : Option Written) → Gives p w.sender t sent → SentTrue p w.sender sent → Comes p (with_given p.sender sent (record w { sender = t }))
        → Passed p (with_given p.sender sent (record w { sender = t })) (record { last = sent; heard = [] })
    build None gives says stands = record {
      ticked = t;
      stands = stands;
      fits = fits;
      sits = Same (rests_itself t);
      last = said None says;
      nodes = λ node apart. at None gives node (receiver_at w node) refl (h.nodes node apart);
    }
    build (Some o) gives says stands = record {
      ticked = t;
      stands = stands;
      fits = fits;
      sits = Same (rests_itself t);
      last = said (Some o) says;
      nodes = λ node apart. at (Some o) gives node (receiver_at w node) refl (h.nodes node apart);
    }

-- a tick of a node, by whose it is
abbrev tick_by : Passing → Option Written → Bool → Passing
tick_by x sent own = elim own [ true ↦ record { last = sent; heard = [] } | false ↦ x ]

tick_passes : (p : Settings) → InRange p → (past : List Happening) (accepted : List Origin) (w : World) (x : Passing) (node now : ℕ) → WorldHolds p past accepted w
    → GoneSent p w.sender.current.order w.sender.current.drop w.sender.sent w.sender.sent_infos → FitsNow p (sender_ticked p w.sender now).0
    → ((node == p.sender) ≡ true → is_passed_on w x ≡ true) → MayCome p w accepted (Ticked node now) → Comes p (world_step p w (Ticked node now)).0 → Passed p w x
    → Passed p (world_step p w (Ticked node now)).0 (passing_after p w x (Ticked node now) (world_step p w (Ticked node now)).1)
tick_passes p range past accepted w x node now holds gone fits on may comes h = go (node == p.sender) (receiver_at w node) refl refl comes
  where
    W : World
    W = record w { sender = h.ticked }

    own_step : (r : ReceiverState) → receiver_at w node ≡ Some r → (node == p.sender) ≡ false
        → Comes p (with_given r.node (receiver_ticked p r now).1 (with_receiver (receiver_ticked p r now).0 W))
    own_step r found apart =
        let next = comes_on p range W (Ticked node now) h.stands may tt in
        let M : Bool → Type 0 = λ own. Comes p (moved p W (node_move own (receiver_at W node) (sender.Ticked now) (receiver.Ticked now))).0 in
        let F : Option ReceiverState → Type 0 = λ at. Comes p (moved p W (receiver_move at (receiver.Ticked now))).0 in
        subst F found (subst M apart next)

    go : (own : Bool) (found : Option ReceiverState) → (node == p.sender) ≡ own → receiver_at w node ≡ found
        → Comes p (moved p w (node_move own found (sender.Ticked now) (receiver.Ticked now))).0
        → Passed p (moved p w (node_move own found (sender.Ticked now) (receiver.Ticked now))).0
        (passing_after p w x (Ticked node now) (moved p w (node_move own found (sender.Ticked now) (receiver.Ticked now))).1)
    go true found own at comes =
        let sent : Option Written = (sender_ticked p w.sender now).1 in
        let v : World = with_given p.sender sent (record w { sender = (sender_ticked p w.sender now).0 }) in
        let P : Bool → Type 0 = λ b. Passed p v (tick_by x sent b) in
        subst P (sym own) (sender_tick_passes p range past accepted w x now holds gone fits (on own) h comes)
    go false None own at comes = h
    go false (Some r) own at comes =
        let sent : Option Written = (receiver_ticked p r now).1 in
        let v : World = with_given r.node sent (with_receiver (receiver_ticked p r now).0 w) in
        let P : Bool → Type 0 = λ b. Passed p v (tick_by x sent b) in
        subst P (sym own) (receiver_tick_passes p range w x node now r at own h (own_step r at own))

-- ---- each event

pub event_passes : (p : Settings) → InRange p → (past : List Happening) (accepted : List Origin) (w : World) (x : Passing) (e : Event) → MayCome p w accepted e
    → WorldHolds p past accepted w → GoneSent p w.sender.current.order w.sender.current.drop w.sender.sent w.sender.sent_infos
    → ((now : ℕ) → FitsNow p (sender_ticked p w.sender now).0) → (is_sender_tick p e ≡ true → is_passed_on w x ≡ true) → Comes p (world_step p w e).0 → Passed p w x
    → Passed p (world_step p w e).0 (passing_after p w x e (world_step p w e).1)
event_passes p range past accepted w x (Commanded by job now) may holds gone fits on comes h =
    sender_passes p w x (commanded p w.sender by job).0 h (command_sits p h.ticked w.sender holds.sender.first h.sits (command_goes p w.sender by job))
event_passes p range past accepted w x (Delivered node octets now draw) may holds gone fits on comes h = delivery_passes p range w x node octets now draw may h
event_passes p range past accepted w x (Ticked node now) may holds gone fits on comes h =
    tick_passes p range past accepted w x node now holds gone (fits now) on may comes h
event_passes p range past accepted w x (Offered node octets) may holds gone fits on comes h = offer_passes p range w x node octets may h
event_passes p range past accepted w x (UpTaken node) may holds gone fits on comes h = take_passes p range w x node h
event_passes p range past accepted w x NewsAsked may holds gone fits on comes h =
    sender_passes p w x (told w.sender).0 h (sits_still p h.ticked w.sender (told w.sender).0 (told_rests w.sender) h.sits)
