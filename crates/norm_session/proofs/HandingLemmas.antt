-- Hand-ups of a receiver, and its tick.
use Rattle.std.proofs.Common.{◌≡◌, ℕ, inr, List, [], ◌∷◌, Option, None, Some, true, false, refl, sym, ap, ◌∙◌, subst, arith}
use Rattle.std.specs.Prelude.{◌==◌}
use Rattle.std.specs.Option.{option_map}
use Rattle.norm_base.specs.Datagrams.{datagram_of}
use Rattle.norm_base.specs.Members.{is_receiver}
use Rattle.norm_base.specs.Network.{Network}
use Rattle.norm_base.specs.Settings.{Settings}
use Rattle.norm_base.specs.Told.{Pieces, gained}
use Rattle.norm_base.specs.declared.kinds.Sent.{Sent}
use Rattle.norm_base.specs.declared.kinds.Sent.TheVariants as sent
use Rattle.norm_ext.specs.Written.{Written}
use Rattle.norm_journal.specs.Accepting.{accepts}
use Rattle.norm_journal.specs.Follows.{HandedUp, NodeTicks, sent_of}
use Rattle.norm_journal.specs.InWorld.{world_after, at}
use Rattle.norm_journal.specs.Judged.{news_due}
use Rattle.norm_journal.specs.Lines.{up_line}
use Rattle.norm_journal.specs.Places.{Place, Handing, Offering, handing, after_tick}
use Rattle.norm_journal.specs.Totals.{with_up}
use Rattle.norm_journal.specs.declared.event.Event.{Event}
use Rattle.norm_journal.specs.declared.event.Event.TheVariants as event
use Rattle.norm_journal.proofs.FollowLemmas.{judges_what_follows}
use Rattle.norm_order.specs.declared.up.Up.{Up}
use Rattle.norm_receive_rules.specs.ReceiverState.{ReceiverState}
use Rattle.norm_receiver.specs.ReceiverKept.{ReceiverKept}
use Rattle.norm_safety.proofs.WorldLemmas.{world_laws}
use Rattle.norm_safety.specs.Events.{Ticked, UpTaken, Took}
use Rattle.norm_safety.specs.Hands.{instance_at}
use Rattle.norm_safety.specs.Lawful.{AllTaken}
use Rattle.norm_safety.specs.World.{World, receiver_at}
use Rattle.norm_safety.specs.WorldStep.{world_step}
use Rattle.norm_send_rules.specs.SenderState.{SenderState}
use Rattle.norm_send_rules.specs.Telling.{told}
use Rattle.norm_world.specs.WorldKept.{WorldKept, StandsFor, IsReceiver, node_at, place_of}
use Rattle.norm_world.specs.WorldMoves.{IsEvent, IsSent}
use Rattle.norm_world.proofs.ReceiverEvents.{behind_sender, no_sender}
use Rattle.norm_session.specs.Context.{Context, judged_of}
use Rattle.norm_session.specs.Handing.{HasTakenAll}
use Rattle.norm_session.specs.Noting.{noted}
use Rattle.norm_session.specs.RunKept.{RunKept}
use Rattle.norm_session.specs.SoFar.{At, after_sent}
use Rattle.norm_turns.specs.Printing.{IsUnwritten}
use Rattle.norm_session.specs.Stopping.{Stopped}
use Rattle.norm_turns.specs.declared.fault.SessionFault.{SessionFault}
use Rattle.norm_turns.specs.declared.fault.SessionFault.TheVariants as fault
use Rattle.norm_journal.specs.declared.totals.Totals.{Totals}
use Rattle.norm_session.proofs.SendingLemmas.{moved}
use Rattle.norm_session.proofs.SoFarLemmas.{more, untold, gained-nil, line_stops, stops_for_memory}

-- nothing is due where the sender is as it was
stays_quiet : (v w : World) → v.sender ≡ w.sender → (told w.sender).1 ≡ None → (told v.sender).1 ≡ None
stays_quiet v w same quiet = ap (λ (s : SenderState). (told s).1) same ∙ quiet

-- ---- a hand-up

-- the run after it
abbrev pub having_handed : RunKept → WorldKept → ℕ → ℕ → Up → RunKept
having_handed k world node instance up =
    record k { world = world; journal = noted k.journal (event.Up node instance up); totals = with_up up k.totals }

-- the receiver handed this up, in this instance
pub record IsHandedUp (k : RunKept) (world : WorldKept) (node instance : ℕ) (up : Up) : Type 0 where
  pub nodes : world.p ≡ k.world.p
  pub event : IsEvent k.world world (UpTaken node) (λ answer. answer ≡ Took (Some up))
  pub within : (w : World) → StandsFor k.world w → Some instance ≡ instance_at w node

up_accepted : (x : Context) (k : RunKept) (world : WorldKept) (w : World) (node instance : ℕ) (nodes : List ℕ) (up : Up) → k.world.p ≡ k.p
    → news_due (judged_of x k w (Handing node nodes)) ≡ None → StandsFor k.world w → IsHandedUp k world node instance up
    → accepts (judged_of x k w (Handing node nodes)) (event.Up node instance up)
    ≡ Some (judged_of x (having_handed k world node instance up) (world_step k.p w (UpTaken node)).0 (Handing node nodes))
up_accepted x k world w node instance nodes up same quiet stands is =
    let j = judged_of x k w (Handing node nodes) in
    let next = judged_of x (having_handed k world node instance up) (world_step k.p w (UpTaken node)).0 (Handing node nodes) in
    let gives : (world_step k.p w (UpTaken node)).1 ≡ Took (Some up) =
    subst (λ (q : Settings). (world_step q w (UpTaken node)).1 ≡ Took (Some up)) same (is.event.steps w stands).1 in
    let follows : HandedUp j node instance up next = record {
      nodes = nodes;
      place = refl;
      within = sym (is.within w stands);
      gives = gives;
      then = refl;
    } in
    (judges_what_follows j next (event.Up node instance up)).1 (quiet, follows)

pub hands : (x : Context) (k v : RunKept) (world : WorldKept) (node instance : ℕ) (nodes : List ℕ) (up : Up) (network : Network)
    (unwritten written : Pieces) → k ≡ v → IsHandedUp k world node instance up → written ≡ gained unwritten (up_line node instance up ∷ [])
    → At x v (Handing node nodes) network unwritten → At x (having_handed k world node instance up) (Handing node nodes) network written
hands x k v world node instance nodes up network unwritten written seen is out there =
    let here = subst (λ (u : RunKept). At x u (Handing node nodes) network unwritten) (sym seen) there in
    let s = here.so_far in
    let w = here.world in
    let e : Event = event.Up node instance up in
    let new = having_handed k world node instance up in
    let next = (world_step k.p w (UpTaken node)).0 in
    record {
      world = next;
      so_far = more x k new e w next (Handing node nodes) (Handing node nodes) network network unwritten written s
          (record {
            profile = refl;
            alone = refl;
            nodes = is.nodes;
            journal = refl;
            stands = subst (λ (q : Settings). StandsFor world (world_step q w (UpTaken node)).0) s.all.world (is.event.steps w s.stands).0;
            accepted = up_accepted x k world w node instance nodes up s.all.world here.quiet s.stands is;
          })
          (untold network e refl refl) out tt refl refl tt;
      quiet = stays_quiet next w (world_laws.sender k.p w (UpTaken node) refl) here.quiet;
    }

-- its line was not written
pub hand_stops : (x : Context) (failed : SessionFault) (k v : RunKept) (world : WorldKept) (node instance : ℕ) (nodes : List ℕ) (up : Up)
    (network : Network) (unwritten written : Pieces) → k ≡ v → IsHandedUp k world node instance up
    → IsUnwritten failed unwritten written (Some (up_line node instance up)) → At x v (Handing node nodes) network unwritten
    → Stopped x failed network written
hand_stops x failed k v world node instance nodes up network unwritten written seen is un there =
    let here = subst (λ (u : RunKept). At x u (Handing node nodes) network unwritten) (sym seen) there in
    let s = here.so_far in
    let w = here.world in
    line_stops x failed s.journal (event.Up node instance up) (judged_of x k w (Handing node nodes))
    (judged_of x (having_handed k world node instance up) (world_step k.p w (UpTaken node)).0 (Handing node nodes)) network unwritten written s.leads
    (up_accepted x k world w node instance nodes up s.all.world here.quiet s.stands is) refl refl refl refl tt tt un

-- ---- its tick

at_its_place : (p : Settings) (node : ℕ) → is_receiver p node ≡ true → node_at p (place_of p node) ≡ node
at_its_place p node e = let lt = behind_sender p node e in omega (arith, lt)

taken_at : (p : Settings) (k : ReceiverKept) (found : Option ReceiverState) → k.hold.ups ≡ [] → IsReceiver p k found → AllTaken found
taken_at p k None none is = tt
taken_at p k (Some r) none is = is.1.agrees.hold.ups ∙ none

-- all its hand-ups were taken
all_taken : (world : WorldKept) (w : World) (node : ℕ) → is_receiver world.p node ≡ true → HasTakenAll world node → StandsFor world w
    → AllTaken (receiver_at w node)
all_taken world w node e has stands =
    taken_at world.p has.receiver (receiver_at w node) has.taken
    (subst (λ n. IsReceiver world.p has.receiver (receiver_at w n)) (at_its_place world.p node e)
    (stands.receivers (place_of world.p node) has.receiver has.there))

-- what a tick gave is what it wrote
record IsGiven (node : ℕ) (said : Sent) (out : List ℕ) (datagram : Option Written) (next : Place) : Type 0 where
  said_is : said ≡ sent_of datagram
  after : after_sent node said out next ≡ after_tick node datagram next

given : (node : ℕ) (said : Sent) (out : List ℕ) (datagram : Option Written) (next : Place)
    → datagram_of said out ≡ option_map (λ (w : Written). w.octets) datagram → IsGiven node said out datagram next
given node sent.Nothing out None next e = record { said_is = refl; after = refl }
given node sent.Datagram out None next e = absurd (cc)
given node sent.Nothing out (Some w) next e = absurd (cc)
given node sent.Datagram out (Some w) next e = record { said_is = refl; after = ap (λ o. Offering node o next) (same out w.octets e) }
  where
    same : (a b : List ℕ) → Some a ≡ Some b → a ≡ b
    same a b e = cc

pub receiver_ticks : (x : Context) (k v : RunKept) (world : WorldKept) (journal : Option (List Event)) (node : ℕ) (nodes : List ℕ) (said : Sent) (out : List ℕ)
    (network : Network) (written : Pieces) → k ≡ v → is_receiver v.world.p node ≡ true → HasTakenAll v.world node
    → journal ≡ noted k.journal (event.Tick node said) → world.p ≡ k.world.p → IsEvent k.world world (Ticked node k.now) (IsSent said out)
    → At x v (Handing node nodes) network written → At x (moved k world journal) (after_sent node said out (handing nodes)) network written
receiver_ticks x k v world journal node nodes said out network written seen is_one taken joined same ticks there =
    let receiver : is_receiver k.world.p node ≡ true = subst (λ (u : RunKept). is_receiver u.world.p node ≡ true) (sym seen) is_one in
    let has = subst (λ (u : RunKept). HasTakenAll u.world node) (sym seen) taken in
    let here = subst (λ (u : RunKept). At x u (Handing node nodes) network written) (sym seen) there in
    let s = here.so_far in
    let w = here.world in
    let j = judged_of x k w (Handing node nodes) in
    let e : Event = event.Tick node said in
    let new = moved k world journal in
    let next = after_sent node said out (handing nodes) in
    let step = world_step k.p w (Ticked node k.now) in
    let stepped : StandsFor world step.0 × IsSent said out step.1 =
    subst (λ (q : Settings). StandsFor world (world_step q w (Ticked node k.now)).0 × IsSent said out (world_step q w (Ticked node k.now)).1)
    s.all.world (ticks.steps w s.stands) in
    let gave = given node said out stepped.1.datagram (handing nodes) stepped.1.octets in
    let own : (node == k.p.sender) ≡ false =
    no_sender k.p node (subst (λ (q : Settings). is_receiver q node ≡ true) s.all.world receiver) in
    let follows : NodeTicks j node said (judged_of x new step.0 next) = record {
      after = handing nodes;
      due = inr (record { nodes = nodes; place = refl; after_is = refl });
      taken = all_taken k.world w node receiver has s.stands;
      datagram = stepped.1.datagram;
      gives = stepped.1.answer_is;
      said_is = gave.said_is;
      then = ap (λ place. at place (world_after (Ticked node k.now) j)) gave.after;
    } in
    record {
      world = step.0;
      so_far = more x k new e w step.0 (Handing node nodes) next network network written written s
          (record {
            profile = refl;
            alone = refl;
            nodes = same;
            journal = joined;
            stands = stepped.0;
            accepted = (judges_what_follows j (judged_of x new step.0 next) e).1 (here.quiet, follows);
          })
          (untold network e refl refl) (sym (gained-nil written)) tt refl refl tt;
      quiet = stays_quiet step.0 w (world_laws.sender k.p w (Ticked node k.now) own) here.quiet;
    }

-- ---- as calls leave it

-- by what was counted and noted
pub hands_on : (x : Context) (k v : RunKept) (world : WorldKept) (journal : Option (List Event)) (totals : Totals) (node instance : ℕ) (nodes : List ℕ) (up : Up)
    (network : Network) (unwritten written : Pieces) → k ≡ v → IsHandedUp k world node instance up
    → journal ≡ noted k.journal (event.Up node instance up) → totals ≡ with_up up k.totals → written ≡ gained unwritten (up_line node instance up ∷ [])
    → At x v (Handing node nodes) network unwritten
    → At x (record k { world = world; journal = journal; totals = totals }) (Handing node nodes) network written
hands_on x k v world journal totals node instance nodes up network unwritten written seen is joined counts out here =
    subst (λ (t : Totals). At x (record k { world = world; journal = journal; totals = t }) (Handing node nodes) network written) (sym counts)
    (subst (λ (es : Option (List Event)). At x (record k { world = world; journal = es; totals = with_up up k.totals }) (Handing node nodes) network written) (sym joined)
    (hands x k v world node instance nodes up network unwritten written seen is out here))

-- want of memory stops a run where it is
pub stops_at : (x : Context) (k : RunKept) (place : Place) (network : Network) (written : Pieces) → At x k place network written
    → Stopped x fault.Memory network written
stops_at x k place network written here = stops_for_memory x here.so_far.journal (judged_of x k here.world place) network written here.so_far.leads
