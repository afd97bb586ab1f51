-- Ticks, and offers of what they gave.
use Rattle.std.proofs.Common.{◌≡◌, ℕ, ◌+◌, inl, List, [], ◌∷◌, map, cond, Option, None, Some, Bool, true, false, refl, sym, ap, ◌∙◌, subst, arith}
use Rattle.std.specs.Prelude.{◌==◌, ◌||◌, ◌&&◌, nat_lt, nat_le, find}
use Rattle.std.specs.List.{list_any}
use Rattle.std.specs.Option.{option_map}
use Rattle.std.proofs.lemmas.Bool.Decides.{Decides-ltb}
use Rattle.norm_base.proofs.MemberLemmas.{member_laws}
use Rattle.norm_base.specs.Datagrams.{datagram_of}
use Rattle.norm_base.specs.Members.{receivers_of, is_receiver}
use Rattle.norm_base.specs.Network.{Network, with_offer}
use Rattle.norm_base.specs.Settings.{Settings}
use Rattle.norm_base.specs.Told.{Pieces}
use Rattle.norm_base.specs.declared.fault.FabricFault.{FabricFault}
use Rattle.norm_base.specs.declared.fault.FabricFault.TheVariants as network_fault
use Rattle.norm_base.specs.declared.kinds.Sent.{Sent}
use Rattle.norm_base.specs.declared.kinds.Sent.TheVariants as sent
use Rattle.norm_ext.specs.Written.{Written}
use Rattle.norm_journal.specs.declared.event.Event.{Event}
use Rattle.norm_journal.specs.declared.event.Event.TheVariants as event
use Rattle.norm_journal.specs.Calls.{OffersDatagram}
use Rattle.norm_journal.specs.Follows.{NodeTicks, DatagramOffered, sent_of}
use Rattle.norm_journal.specs.InWorld.{world_after, at}
use Rattle.norm_journal.specs.Places.{Place, Sending, Offering, Taking, after_tick}
use Rattle.norm_journal.specs.WorldEvents.{world_events}
use Rattle.norm_journal.proofs.FollowLemmas.{judges_what_follows}
use Rattle.norm_journal.proofs.WorldLemmas.{moves_world}
use Rattle.norm_receive_rules.specs.ReceiverState.{ReceiverState}
use Rattle.norm_safety.proofs.WorldLemmas.{world_laws}
use Rattle.norm_safety.specs.Events.{Ticked, Offered}
use Rattle.norm_safety.specs.Lawful.{AllTaken}
use Rattle.norm_safety.specs.World.{World, receiver_at}
use Rattle.norm_safety.specs.WorldLaws.{nodes_of}
use Rattle.norm_safety.specs.WorldStep.{world_step}
use Rattle.norm_send_rules.specs.SenderState.{SenderState}
use Rattle.norm_send_rules.specs.Telling.{told}
use Rattle.norm_world.proofs.WorldLemmas.{an_offer}
use Rattle.norm_world.specs.WorldKept.{WorldKept, StandsFor}
use Rattle.norm_world.specs.WorldMoves.{IsEvent, IsSent}
use Rattle.norm_session.specs.Context.{Context, opening, judged_of}
use Rattle.norm_session.specs.Noting.{noted}
use Rattle.norm_session.specs.RunKept.{RunKept}
use Rattle.norm_session.specs.SoFar.{SoFar, IsTelling, At, after_sent}
use Rattle.norm_turns.specs.Causes.{session_fault}
use Rattle.norm_session.specs.Stopping.{Stopped}
use Rattle.norm_turns.specs.declared.fault.SessionFault.TheVariants as fault
use Rattle.norm_session.proofs.SoFarLemmas.{more, untold, offer_told, gained-nil, stops_for_memory}

-- ---- the sender's node has no receiver

no_receiver : (node : ℕ) (rs : List ReceiverState) → list_any (λ n. n == node) (map (λ (r : ReceiverState). r.node) rs) ≡ false
    → find (λ (r : ReceiverState). r.node == node) rs ≡ None
no_receiver node [] e = refl
no_receiver node (r ∷ rs) e = go (r.node == node) (no_receiver node rs) e
  where
    go : (b : Bool) → (list_any (λ n. n == node) (map (λ (x : ReceiverState). x.node) rs) ≡ false → find (λ (x : ReceiverState). x.node == node) rs ≡ None)
        → (b || list_any (λ n. n == node) (map (λ (x : ReceiverState). x.node) rs)) ≡ false
        → cond b (Some r) (find (λ (x : ReceiverState). x.node == node) rs) ≡ None
    go true rest e = absurd (cc)
    go false rest e = rest e

sender_is_none : (p : Settings) → is_receiver p p.sender ≡ false
sender_is_none p = go (nat_lt p.sender p.sender) refl
  where
    go : (b : Bool) → nat_lt p.sender p.sender ≡ b → (b && nat_le p.sender (p.sender + p.receivers)) ≡ false
    go true e = let lt = (Decides-ltb p.sender p.sender).0 e in absurd (omega (arith, lt))
    go false e = refl

-- the nodes after a run's journal are the profile's
run_nodes : (x : Context) (k : RunKept) (w : World) (place : Place) (network : Network) (written : Pieces) → SoFar x k w place network written
    → nodes_of w ≡ receivers_of x.script.profile x.script.profile.receivers
run_nodes x k w place network written s =
    let events = world_events (opening x) s.journal in
    ap nodes_of (sym (moves_world (opening x) (judged_of x k w place) s.journal s.leads.judged)) ∙ world_laws.nodes x.script.profile events

all_taken : (found : Option ReceiverState) → found ≡ None → AllTaken found
all_taken None e = tt
all_taken (Some r) e = absurd (cc)

sender_taken : (x : Context) (k : RunKept) (w : World) (place : Place) (network : Network) (written : Pieces) → SoFar x k w place network written
    → AllTaken (receiver_at w k.p.sender)
sender_taken x k w place network written s =
    let p = x.script.profile in
    let no : list_any (λ n. n == p.sender) (nodes_of w) ≡ false =
    ap (list_any (λ n. n == p.sender)) (run_nodes x k w place network written s) ∙ member_laws.receivers p p.sender ∙ sender_is_none p in
    let none : receiver_at w p.sender ≡ None = no_receiver p.sender w.receivers no in
    all_taken (receiver_at w k.p.sender) (ap (λ (q : Settings). receiver_at w q.sender) s.all.script ∙ none)

-- ---- the sender's tick

-- what a tick gave is what it wrote
record IsGiven (node : ℕ) (said : Sent) (out : List ℕ) (datagram : Option Written) (next : Place) : Type 0 where
  said_is : said ≡ sent_of datagram
  after : after_sent node said out next ≡ after_tick node datagram next

given : (node : ℕ) (said : Sent) (out : List ℕ) (datagram : Option Written) (next : Place)
    → datagram_of said out ≡ option_map (λ (w : Written). w.octets) datagram → IsGiven node said out datagram next
given node sent.Nothing out None next e = record { said_is = refl; after = refl }
given node sent.Datagram out None next e = absurd (cc)
given node sent.Nothing out (Some w) next e = absurd (cc)
given node sent.Datagram out (Some w) next e = record { said_is = refl; after = ap (λ o. Offering node o next) (same out w.octets e) }
  where
    same : (a b : List ℕ) → Some a ≡ Some b → a ≡ b
    same a b e = cc

-- the run after an event of the nodes
abbrev pub moved : RunKept → WorldKept → Option (List Event) → RunKept
moved k world journal = record k { world = world; journal = journal }

tick_accepted : (x : Context) (k : RunKept) (world : WorldKept) (journal : Option (List Event)) (said : Sent) (out : List ℕ) (network : Network) (written : Pieces)
    → journal ≡ noted k.journal (event.Tick k.p.sender said) → world.p ≡ k.world.p
    → IsEvent k.world world (Ticked k.world.p.sender k.now) (IsSent said out) → At x k Sending network written
    → IsTelling x (moved k world journal) (after_sent k.p.sender said out (Taking 0)) network written
tick_accepted x k world journal said out network written joined same ticks here =
    let s = here.so_far in
    let w = here.world in
    let node = k.p.sender in
    let j = judged_of x k w Sending in
    let e : Event = event.Tick node said in
    let new = moved k world journal in
    let next = after_sent node said out (Taking 0) in
    let step = world_step k.p w (Ticked node k.now) in
    let stepped : StandsFor world step.0 × IsSent said out step.1 =
    subst (λ (q : Settings). StandsFor world (world_step q w (Ticked q.sender k.now)).0 × IsSent said out (world_step q w (Ticked q.sender k.now)).1)
    s.all.world (ticks.steps w s.stands) in
    let gave = given node said out stepped.1.datagram (Taking 0) stepped.1.octets in
    let follows : NodeTicks j node said (judged_of x new step.0 next) = record {
      after = Taking 0;
      due = inl (record { place = refl; node_is = refl; after_is = refl });
      taken = sender_taken x k w Sending network written s;
      datagram = stepped.1.datagram;
      gives = stepped.1.answer_is;
      said_is = gave.said_is;
      then = ap (λ place. at place (world_after (Ticked node k.now) j)) gave.after;
    } in
    record {
      world = step.0;
      so_far = more x k new e w step.0 Sending next network network written written s
          (record {
            profile = refl;
            alone = refl;
            nodes = same;
            journal = joined;
            stands = stepped.0;
            accepted = (judges_what_follows j (judged_of x new step.0 next) e).1 (here.quiet, follows);
          })
          (untold network e refl refl) (sym (gained-nil written)) tt refl refl tt;
    }

-- by what the run is seen as, and by the node that ticked
pub sender_ticks : (x : Context) (k v : RunKept) (world : WorldKept) (journal : Option (List Event)) (node : ℕ) (said : Sent) (out : List ℕ) (network : Network) (written : Pieces)
    → k ≡ v → node ≡ k.p.sender → journal ≡ noted k.journal (event.Tick node said) → world.p ≡ k.world.p
    → IsEvent k.world world (Ticked k.world.p.sender k.now) (IsSent said out) → At x v Sending network written
    → IsTelling x (moved k world journal) (after_sent v.p.sender said out (Taking 0)) network written
sender_ticks x k v world journal node said out network written is own joined same ticks here =
    subst (λ (u : RunKept). At x u Sending network written → IsTelling x (moved k world journal) (after_sent u.p.sender said out (Taking 0)) network written) is
    (tick_accepted x k world journal said out network written (subst (λ n. journal ≡ noted k.journal (event.Tick n said)) own joined) same ticks) here

-- ---- an offer

-- what is to be told does not change where the sender does not
still_quiet : (v w : World) → v.sender ≡ w.sender → (told w.sender).1 ≡ None → (told v.sender).1 ≡ None
still_quiet v w same quiet = ap (λ (s : SenderState). (told s).1) same ∙ quiet

pub offers : (x : Context) (k : RunKept) (journal : Option (List Event)) (node : ℕ) (octets : List ℕ) (after : Place) (network : Network) (written : Pieces)
    → journal ≡ noted k.journal (event.Offer node octets) → At x k (Offering node octets after) network written
    → At x (moved k k.world journal) after (with_offer network node octets) written
offers x k journal node octets after network written joined here =
    let s = here.so_far in
    let w = here.world in
    let j = judged_of x k w (Offering node octets after) in
    let e : Event = event.Offer node octets in
    let new = moved k k.world journal in
    let step = world_step k.p w (Offered node octets) in
    let stands : StandsFor k.world step.0 =
    subst (λ (q : Settings). StandsFor k.world (world_step q w (Offered node octets)).0) s.all.world ((an_offer k.world node octets).steps w s.stands).0 in
    let follows : DatagramOffered j node octets (judged_of x new step.0 after) = record { after = after; place = refl; then = refl } in
    record {
      world = step.0;
      so_far = more x k new e w step.0 (Offering node octets after) after network (with_offer network node octets) written written s
          (record {
            profile = refl;
            alone = refl;
            nodes = refl;
            journal = joined;
            stands = stands;
            accepted = (judges_what_follows j (judged_of x new step.0 after) e).1 (here.quiet, follows);
          })
          (offer_told network e refl) (sym (gained-nil written)) tt refl refl tt;
      quiet = still_quiet step.0 w (world_laws.sender k.p w (Offered node octets) refl) here.quiet;
    }

-- where the offer failed, or found no memory, nothing was offered
pub offer_failed : (x : Context) (k : RunKept) (node : ℕ) (octets : List ℕ) (after : Place) (network : Network) (written : Pieces)
    → At x k (Offering node octets after) network written → Stopped x fault.Fabric network written
offer_failed x k node octets after network written here =
    let s = here.so_far in
    let j = judged_of x k here.world (Offering node octets after) in
    record {
      journal = s.journal;
      last = j;
      begun = s.leads.judged;
      told = s.leads.told;
      taken = s.leads.taken;
      moments = s.leads.moments;
      board = s.leads.board;
      octets = s.leads.octets;
      leaves = (
        s.leads.lines,
        record {
          call = OffersDatagram node octets;
          due = ap (λ found. elim found [ Some news ↦ None | None ↦ Some (OffersDatagram node octets) ]) here.quiet;
          of_kind = tt;
        },
      );
    }

-- a fault of the network's offer
pub offer_stops : (x : Context) (k : RunKept) (failed : FabricFault) (node : ℕ) (octets : List ℕ) (after : Place) (network : Network) (written : Pieces)
    → At x k (Offering node octets after) network written → Stopped x (session_fault failed) network written
offer_stops x k network_fault.Failed node octets after network written here = offer_failed x k node octets after network written here
offer_stops x k network_fault.Memory node octets after network written here =
    stops_for_memory x here.so_far.journal (judged_of x k here.world (Offering node octets after)) network written here.so_far.leads

-- the offer was made, and there was no memory to note it
pub offer_unnoted : (x : Context) (k : RunKept) (node : ℕ) (octets : List ℕ) (after : Place) (network : Network) (written : Pieces)
    → At x k (Offering node octets after) network written → Stopped x fault.Memory (with_offer network node octets) written
offer_unnoted x k node octets after network written here =
    let journal = noted k.journal (event.Offer node octets) in
    let there = offers x k journal node octets after network written refl here in
    stops_for_memory x there.so_far.journal (judged_of x (moved k k.world journal) there.world after) (with_offer network node octets) written there.so_far.leads

-- by what the run is seen as, and by what the network tells
pub offers_on : (x : Context) (k v : RunKept) (journal : Option (List Event)) (node : ℕ) (octets : List ℕ) (after : Place) (network now : Network) (written : Pieces)
    → k ≡ v → journal ≡ noted k.journal (event.Offer node octets) → now ≡ with_offer network node octets
    → At x v (Offering node octets after) network written → At x (moved k k.world journal) after now written
offers_on x k v journal node octets after network now written is joined told here =
    subst (λ (n : Network). At x (moved k k.world journal) after n written) (sym told)
    (offers x k journal node octets after network written joined (subst (λ (u : RunKept). At x u (Offering node octets after) network written) (sym is) here))

-- by the node as it was made
pub sent_by : (x : Context) (k : RunKept) (node other : ℕ) (said : Sent) (out : List ℕ) (next : Place) (network : Network) (written : Pieces)
    → node ≡ other → At x k (after_sent other said out next) network written → At x k (after_sent node said out next) network written
sent_by x k node other said out next network written same here =
    subst (λ n. At x k (after_sent n said out next) network written) (sym same) here

-- what a tick gave is to be offered
pub offering_one : (x : Context) (k : RunKept) (node : ℕ) (said : Sent) (out octets : List ℕ) (next : Place) (network : Network) (written : Pieces)
    → said ≡ sent.Datagram → octets ≡ out → At x k (after_sent node said out next) network written → At x k (Offering node octets next) network written
offering_one x k node said out octets next network written is same here =
    subst (λ o. At x k (Offering node o next) network written) (sym same)
    (subst (λ (t : Sent). At x k (after_sent node t out next) network written) is here)
