-- Takes: what comes of a datagram that the network gave.
use Rattle.std.proofs.Common.{◌≡◌, ℕ, List, [], ◌∷◌, ◌++◌, Option, None, Some, Bool, true, false, refl, sym, ap, ◌∙◌, subst}
use Rattle.std.specs.Prelude.{◌==◌, ◌||◌, IfOk, IfErr, Result, Ok, Err}
use Rattle.std.specs.List.{list_any}
use Rattle.std.proofs.lemmas.Bool.Decides.{Decides-eqb}
use Rattle.norm_base.proofs.MemberLemmas.{member_laws}
use Rattle.norm_base.specs.Members.{is_node, is_receiver as is_receiver_of}
use Rattle.norm_base.specs.Network.{Network, with_answer, answer_of}
use Rattle.norm_base.specs.Settings.{Settings}
use Rattle.norm_base.specs.Told.{Pieces}
use Rattle.norm_base.specs.declared.fault.FabricFault.{FabricFault}
use Rattle.norm_base.specs.declared.fault.FabricFault.TheVariants as network_fault
use Rattle.rand_pcg.specs.Lcg.{Lcg}
use Rattle.norm_journal.specs.Accepting.{accepts}
use Rattle.norm_journal.specs.Calls.{TakesDatagram}
use Rattle.norm_journal.specs.Draws.{next_draw, draws_after}
use Rattle.norm_journal.specs.Follows.{DatagramTaken, NoneReady}
use Rattle.norm_journal.specs.InWorld.{at, world_after}
use Rattle.norm_journal.specs.Judged.{Judged, news_due}
use Rattle.norm_journal.specs.Places.{Place, Taking}
use Rattle.norm_journal.specs.Projections.{Answer, network_after}
use Rattle.norm_journal.specs.Takes.{delivered, after_take}
use Rattle.norm_journal.specs.declared.event.Event.{Event}
use Rattle.norm_journal.specs.declared.event.Event.TheVariants as event
use Rattle.norm_journal.proofs.FollowLemmas.{judges_what_follows}
use Rattle.norm_safety.specs.Events.{Delivered, Silent}
use Rattle.norm_safety.specs.World.{World}
use Rattle.norm_safety.specs.WorldStep.{world_step}
use Rattle.norm_world.specs.WorldKept.{WorldKept, StandsFor}
use Rattle.norm_world.specs.WorldMoves.{IsEvent}
use Rattle.norm_world.proofs.ReceiverEvents.{no_sender, is_sender}
use Rattle.norm_turns.specs.Causes.{session_fault}
use Rattle.norm_session.specs.Context.{Context, judged_of}
use Rattle.norm_session.specs.Noting.{noted}
use Rattle.norm_session.specs.RunKept.{RunKept, nodes_in}
use Rattle.norm_session.specs.SoFar.{MayAnswer, Leads, HasAll, IsTelling, At, HasTaken, hands_next, takes_next}
use Rattle.norm_session.specs.Stopping.{Stopped}
use Rattle.norm_session.specs.Taking.{IsDelivered, Delivers, GoesOn, StopsAfter}
use Rattle.norm_turns.specs.declared.fault.SessionFault.{SessionFault}
use Rattle.norm_turns.specs.declared.fault.SessionFault.TheVariants as fault
use Rattle.norm_session.proofs.SoFarLemmas.{more, leads_on, answer_told, gained-nil, stops_for_memory}

-- ---- a delivery

-- a node that is no receiver of the profile is none of the run's
none_of_them : (x : Context) (k : RunKept) (node : ℕ) → HasAll x k → is_receiver_of k.p node ≡ false → list_any (λ other. other == node) x.nodes ≡ false
none_of_them x k node all outside = ap (list_any (λ other. other == node)) all.receivers ∙ go k.alone
  where
    go : (alone : Bool) → list_any (λ other. other == node) (nodes_in alone k.p) ≡ false
    go true = refl
    go false = member_laws.receivers k.p node ∙ outside

-- where the sender is alone, no node is
none_alone : (x : Context) (k : RunKept) (node : ℕ) → HasAll x k → k.alone ≡ true → list_any (λ other. other == node) x.nodes ≡ false
none_alone x k node all alone = ap (list_any (λ other. other == node)) (all.receivers ∙ ap (λ b. nodes_in b k.p) alone)

-- and else each receiver of the profile is one
one_of_them : (x : Context) (k : RunKept) (node : ℕ) → HasAll x k → k.alone ≡ false → is_receiver_of k.p node ≡ true
    → list_any (λ other. other == node) x.nodes ≡ true
one_of_them x k node all present among =
    ap (list_any (λ other. other == node)) (all.receivers ∙ ap (λ b. nodes_in b k.p) present) ∙ member_laws.receivers k.p node ∙ among

-- what is delivered, by the two tests
abbrev by_node : Bool → Bool → Judged → Judged → Judged → Judged
by_node own other to_own to_other j = elim own [ true ↦ to_own | false ↦ elim other [ true ↦ to_other | false ↦ j ] ]

-- the judge's state after a delivery to the sender, and to a receiver
abbrev at_sender : ℕ → List ℕ → Judged → Judged
at_sender node octets j = world_after (Delivered node octets j.now 0) j

abbrev at_receiver : ℕ → List ℕ → Judged → Judged
at_receiver node octets j = record (world_after (Delivered node octets j.now (next_draw j.draws)) j) { draws = draws_after j.draws }

delivered_by : (x : Context) (k : RunKept) (w : World) (place : Place) (node : ℕ) (octets : List ℕ) (own other : Bool)
    → (node == k.p.sender) ≡ own → list_any (λ n. n == node) x.nodes ≡ other
    → delivered node octets (judged_of x k w place)
    ≡ by_node own other (at_sender node octets (judged_of x k w place)) (at_receiver node octets (judged_of x k w place)) (judged_of x k w place)
delivered_by x k w place node octets own other is_own is_other =
    let j = judged_of x k w place in
    ap (λ b. by_node b (list_any (λ n. n == node) x.nodes) (at_sender node octets j) (at_receiver node octets j) j) is_own
    ∙ ap (λ b. by_node own b (at_sender node octets j) (at_receiver node octets j) j) is_other

-- a delivery, by the state that it leads to
is_delivered : (x : Context) (k new : RunKept) (w : World) (place : Place) (node : ℕ) (octets : List ℕ) (next : Judged)
    → delivered node octets (judged_of x k w place) ≡ next → new.p ≡ k.p → new.alone ≡ k.alone → new.world.p ≡ k.world.p → new.journal ≡ k.journal
    → StandsFor new.world next.world → judged_of x new next.world place ≡ next → IsDelivered x k new w place node octets
is_delivered x k new w place node octets next is profile alone nodes journal stands state = record {
  profile = profile;
  alone = alone;
  nodes = nodes;
  journal = journal;
  stands = subst (λ (j : Judged). StandsFor new.world j.world) (sym is) stands;
  state = subst (λ (j : Judged). judged_of x new j.world place ≡ j) (sym is) state;
}

neither : (a b : Bool) → (a || b) ≡ false → (a ≡ false) × (b ≡ false)
neither true b e = absurd (cc)
neither false b e = (refl, e)

-- the run with another world and other draws
abbrev pub drawn : RunKept → WorldKept → Lcg → RunKept
drawn k world draws = record k { world = world; draws = draws }

pub to_nobody : (k : RunKept) (node : ℕ) (octets : List ℕ) → is_node k.world.p node ≡ false → Delivers k k node octets
to_nobody k node octets nobody x w place all stands =
    let no = neither (node == k.p.sender) (is_receiver_of k.p node) (ap (λ (q : Settings). is_node q node) (sym all.world) ∙ nobody) in
    is_delivered x k k w place node octets (judged_of x k w place) (delivered_by x k w place node octets false false no.0 (none_of_them x k node all no.1))
    refl refl refl refl stands refl

-- a datagram for a receiver that is elsewhere comes to nobody
pub to_absent : (k : RunKept) (node : ℕ) (octets : List ℕ) → is_receiver_of k.world.p node ≡ true → k.alone ≡ true → Delivers k k node octets
to_absent k node octets receiver alone x w place all stands =
    let yes : is_receiver_of k.p node ≡ true = ap (λ (q : Settings). is_receiver_of q node) (sym all.world) ∙ receiver in
    is_delivered x k k w place node octets (judged_of x k w place)
    (delivered_by x k w place node octets false false (no_sender k.p node yes) (none_alone x k node all alone)) refl refl refl refl stands refl

pub to_sender : (k : RunKept) (world : WorldKept) (node : ℕ) (octets : List ℕ) → is_node k.world.p node ≡ true → is_receiver_of k.world.p node ≡ false
    → world.p ≡ k.world.p → IsEvent k.world world (Delivered node octets k.now 0) (λ answer. answer ≡ Silent) → Delivers k (drawn k world k.draws) node octets
to_sender k world node octets member other same comes x w place all stands =
    let own : (node == k.p.sender) ≡ true =
    ap (λ (q : Settings). node == q.sender) (sym all.world) ∙ (Decides-eqb node k.world.p.sender).1 (is_sender k.world.p node member other) in
    let no : is_receiver_of k.p node ≡ false = ap (λ (q : Settings). is_receiver_of q node) (sym all.world) ∙ other in
    let j = judged_of x k w place in
    is_delivered x k (drawn k world k.draws) w place node octets (at_sender node octets j) (delivered_by x k w place node octets true false own (none_of_them x k node all no))
    refl refl same refl
    (subst (λ (q : Settings). StandsFor world (world_step q w (Delivered node octets k.now 0)).0) all.world (comes.steps w stands).0) refl

pub to_receiver : (k : RunKept) (world : WorldKept) (draws : Lcg) (draw node : ℕ) (octets : List ℕ) → is_receiver_of k.world.p node ≡ true
    → k.alone ≡ false → draw ≡ next_draw k.draws → draws ≡ draws_after k.draws → world.p ≡ k.world.p
    → IsEvent k.world world (Delivered node octets k.now draw) (λ answer. answer ≡ Silent) → Delivers k (drawn k world draws) node octets
to_receiver k world draws draw node octets receiver present word rest same comes x w place all stands =
    let yes : is_receiver_of k.p node ≡ true = ap (λ (q : Settings). is_receiver_of q node) (sym all.world) ∙ receiver in
    let j = judged_of x k w place in
    let stepped : StandsFor world (world_step k.p w (Delivered node octets k.now draw)).0 =
    subst (λ (q : Settings). StandsFor world (world_step q w (Delivered node octets k.now draw)).0) all.world (comes.steps w stands).0 in
    is_delivered x k (drawn k world draws) w place node octets (at_receiver node octets j)
    (delivered_by x k w place node octets false true (no_sender k.p node yes) (one_of_them x k node all present yes)) refl refl same refl
    (subst (λ d. StandsFor world (world_step k.p w (Delivered node octets k.now d)).0) word stepped)
    (ap (λ (d : Lcg). record (world_after (Delivered node octets k.now (next_draw k.draws)) j) { draws = d }) rest)

-- ---- a take

-- the run with another journal
abbrev pub keeping : RunKept → Option (List Event) → RunKept
keeping k journal = record k { journal = journal }

-- what the network may answer it may after the journal that leads there
may_after : (x : Context) (journal : List Event) (j : Judged) (network : Network) (written : Pieces) (answer : Answer) → Leads x journal j network written
    → MayAnswer network answer → MayAnswer (network_after x.network journal) answer
may_after x journal j network written answer s may = subst (λ (n : Network). MayAnswer n answer) s.told may

take_accepted : (x : Context) (k : RunKept) (w : World) (count : ℕ) (node : ℕ) (octets : List ℕ) → news_due (judged_of x k w (Taking count)) ≡ None
    → accepts (judged_of x k w (Taking count)) (event.Took node octets)
    ≡ Some (at (after_take count (judged_of x k w (Taking count))) (delivered node octets (judged_of x k w (Taking count))))
take_accepted x k w count node octets quiet =
    let j = judged_of x k w (Taking count) in
    let next = at (after_take count j) (delivered node octets j) in
    let follows : DatagramTaken j node octets next = record { count = count; place = refl; then = refl } in
    (judges_what_follows j next (event.Took node octets)).1 (quiet, follows)

pub takes : (x : Context) (k new : RunKept) (journal : Option (List Event)) (count node : ℕ) (octets : List ℕ) (before now : Network) (written : Pieces)
    → Delivers k new node octets → journal ≡ noted new.journal (event.Took node octets)
    → now ≡ with_answer before (Some (node, octets)) → MayAnswer before (Some (node, octets)) → At x k (Taking count) before written
    → IsTelling x (keeping new journal) (takes_next x count) now written
takes x k new journal count node octets before now written delivers joined told may here =
    let s = here.so_far in
    let w = here.world in
    let j = judged_of x k w (Taking count) in
    let e : Event = event.Took node octets in
    let did = delivers x w (Taking count) s.all s.stands in
    let accepted : accepts j e ≡ Some (judged_of x (keeping new journal) (delivered node octets j).world (takes_next x count)) =
    take_accepted x k w count node octets here.quiet ∙ ap (λ (j : Judged). Some (at (takes_next x count) j)) (sym did.state) in
    record {
      world = (delivered node octets j).world;
      so_far = more x k (keeping new journal) e w (delivered node octets j).world (Taking count) (takes_next x count) before now written written s
          (record {
            profile = did.profile;
            alone = did.alone;
            nodes = did.nodes;
            journal = joined ∙ ap (λ js. noted js e) did.journal;
            stands = did.stands;
            accepted = accepted;
          })
          (told ∙ answer_told before e refl) (sym (gained-nil written))
          (may_after x s.journal j before written (Some (node, octets)) s.leads may) refl refl tt;
    }

-- the datagram was taken, and there was no memory to deliver or to note it
pub take_unnoted : (x : Context) (k : RunKept) (count node : ℕ) (octets : List ℕ) (before now : Network) (written : Pieces)
    → now ≡ with_answer before (Some (node, octets)) → MayAnswer before (Some (node, octets)) → At x k (Taking count) before written
    → Stopped x fault.Memory now written
take_unnoted x k count node octets before now written told may here =
    let s = here.so_far in
    let j = judged_of x k here.world (Taking count) in
    let e : Event = event.Took node octets in
    let next = at (after_take count j) (delivered node octets j) in
    stops_for_memory x (s.journal ++ e ∷ []) next now written
    (leads_on x s.journal e j next before now written written s.leads (take_accepted x k here.world count node octets here.quiet)
    (told ∙ answer_told before e refl) (sym (gained-nil written))
    (may_after x s.journal j before written (Some (node, octets)) s.leads may) refl refl tt)

-- the network had none ready
pub finds_none : (x : Context) (k v : RunKept) (journal : Option (List Event)) (count : ℕ) (before now : Network) (written : Pieces) → k ≡ v
    → journal ≡ noted k.journal event.Empty → now ≡ with_answer before None → MayAnswer before None → At x v (Taking count) before written
    → At x (keeping k journal) (hands_next x) now written
finds_none x k v journal count before now written is joined told may there =
    let here = subst (λ (u : RunKept). At x u (Taking count) before written) (sym is) there in
    let s = here.so_far in
    let w = here.world in
    let j = judged_of x k w (Taking count) in
    let e : Event = event.Empty in
    let follows : NoneReady j (judged_of x (keeping k journal) w (hands_next x)) = record { count = count; place = refl; then = refl } in
    record {
      world = w;
      so_far = more x k (keeping k journal) e w w (Taking count) (hands_next x) before now written written s
          (record {
            profile = refl;
            alone = refl;
            nodes = refl;
            journal = joined;
            stands = s.stands;
            accepted = (judges_what_follows j (judged_of x (keeping k journal) w (hands_next x)) e).1 (here.quiet, follows);
          })
          (told ∙ answer_told before e refl) (sym (gained-nil written))
          (may_after x s.journal j before written None s.leads may) refl refl tt;
      quiet = here.quiet;
    }

-- that was answered, and there was no memory to note it
pub none_unnoted : (x : Context) (k : RunKept) (count : ℕ) (before now : Network) (written : Pieces) → now ≡ with_answer before None
    → MayAnswer before None → At x k (Taking count) before written → Stopped x fault.Memory now written
none_unnoted x k count before now written told may here =
    let journal = noted k.journal event.Empty in
    let there = finds_none x k k journal count before now written refl refl told may here in
    stops_for_memory x there.so_far.journal (judged_of x (keeping k journal) there.world (hands_next x)) now written there.so_far.leads

-- the take failed, or found no memory
pub take_stops : (x : Context) (k : RunKept) (failed : FabricFault) (count : ℕ) (network : Network) (written : Pieces)
    → At x k (Taking count) network written → Stopped x (session_fault failed) network written
take_stops x k network_fault.Failed count network written here =
    let s = here.so_far.leads in
    let j = judged_of x k here.world (Taking count) in
    record {
      journal = here.so_far.journal;
      last = j;
      begun = s.judged;
      told = s.told;
      taken = s.taken;
      moments = s.moments;
      board = s.board;
      octets = s.octets;
      leaves = (
        s.lines,
        record {
          call = TakesDatagram;
          due = ap (λ found. elim found [ Some news ↦ None | None ↦ Some TakesDatagram ]) here.quiet;
          of_kind = tt;
        },
      );
    }
take_stops x k network_fault.Memory count network written here =
    stops_for_memory x here.so_far.journal (judged_of x k here.world (Taking count)) network written here.so_far.leads

-- ---- what came of a take, by what the network answered

pub answered : (k new : RunKept) (answer : Answer) (before now : Network) (result : Result Bool SessionFault) → now ≡ with_answer before answer
    → MayAnswer before answer → IfOk result (λ took. GoesOn k new answer took)
    → IfOk result (λ took. (x : Context) (written : Pieces) (count : ℕ) → At x k (Taking count) before written → HasTaken took x new count now written)
answered k new answer before now (Err e) told may h = h
answered k new answer before now (Ok took) told may h = λ x written count here. h x before now written count told may here

pub stopped_after : (k : RunKept) (answer : Option (ℕ × List ℕ)) (before now : Network) (result : Result Bool SessionFault) → now ≡ with_answer before answer
    → MayAnswer before answer → IfErr result (λ fault. StopsAfter k answer fault)
    → IfErr result (λ fault. (x : Context) (written : Pieces) (count : ℕ) → At x k (Taking count) before written → Stopped x fault now written)
stopped_after k answer before now (Ok took) told may h = h
stopped_after k answer before now (Err fault) told may h = λ x written count here. h x before now written count told may here

-- the answer of a take, by what was found
abbrev pub gave : ℕ → List ℕ → Option (ℕ × List ℕ)
gave node octets = Some (node, octets)

pub answer_is : (found : Option ℕ) (node : ℕ) (into octets : List ℕ) → found ≡ Some node → octets ≡ into → answer_of found into ≡ gave node octets
answer_is found node into octets is same = ap (λ n. answer_of n into) is ∙ ap (gave node) (sym same)

pub turned_delivery : (k v new : RunKept) (node : ℕ) (octets : List ℕ) → k ≡ v → Delivers k new node octets → Delivers v new node octets
turned_delivery k v new node octets same h = subst (λ (u : RunKept). Delivers u new node octets) same h
