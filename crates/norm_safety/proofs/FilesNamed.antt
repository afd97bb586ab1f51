-- Each file of an order has a name: kept by each event, whatever the network does.
use Rattle.std.proofs.Common.{ℕ, zero, suc, cond, List, [], ◌∷◌, ◌++◌, Bool, true, false, Option, None, Some, Result, Ok, Err, refl, sym, ap, ◌∙◌, subst}
use Rattle.std.specs.Prelude.{◌==◌, find}
use Rattle.std.specs.List.{AllByRecursion}
use Rattle.norm_base.specs.Settings.{Settings}
use Rattle.norm_base.specs.declared.kinds.Kind.TheVariants as kind
use Rattle.norm_base.specs.declared.node.Origin.{Origin}
use Rattle.norm_ext.specs.Written.{Written}
use Rattle.norm_order.specs.Entries.{Part, Write, Cut, End, Object, Whole, Stream, Entry}
use Rattle.norm_order.specs.Segments.{unclosed}
use Rattle.norm_order.specs.Shapes.{last_source}
use Rattle.norm_receive_rules.specs.ReceiverState.{ReceiverState}
use Rattle.norm_receive_rules.specs.ReceiverStep as receiver
use Rattle.norm_receive_rules.specs.Ticking.{ticked as receiver_ticked}
use Rattle.norm_send_rules.specs.Commanding.{commanded, answered}
use Rattle.norm_send_rules.specs.Enqueuing.{object_fault, joined}
use Rattle.norm_send_rules.specs.Hearing.{heard}
use Rattle.norm_send_rules.specs.InWindow.{current_shapes}
use Rattle.norm_send_rules.specs.Marking.{is_no_quorum, cut_and_marked}
use Rattle.norm_send_rules.specs.Restarting.{instances, is_used, begun_anew}
use Rattle.norm_send_rules.specs.SenderState.{SenderState, Instance, begun}
use Rattle.norm_send_rules.specs.SenderStep as sender
use Rattle.norm_send_rules.specs.Streaming.{open_fault, parts_now, with_last, with_parts, write_fault, close_fault, grown, cut}
use Rattle.norm_send_rules.specs.Striking.{strike_fault, struck_off}
use Rattle.norm_send_rules.specs.Telling.{told}
use Rattle.norm_send_rules.specs.Ticking.{ticked as sender_ticked}
use Rattle.norm_send_rules.specs.declared.fault.EnqueueFault.{EnqueueFault}
use Rattle.norm_send_rules.specs.declared.fault.MarkFault.TheVariants.{Quorum}
use Rattle.norm_send_rules.specs.declared.fault.SendFault.{SendFault}
use Rattle.norm_send_rules.specs.declared.fault.SendFault.TheVariants.{Mark, Strike, IdUsed}
use Rattle.norm_send_rules.specs.declared.fault.StrikeFault.{StrikeFault}
use Rattle.norm_send_rules.specs.declared.job.Job.{Job}
use Rattle.norm_send_rules.specs.declared.job.Job.TheVariants as job
use Rattle.norm_send_rules.specs.declared.job.Receipt.{Receipt}
use Rattle.norm_send_rules.specs.declared.job.Receipt.TheVariants as receipt
use Rattle.norm_safety.specs.Events.{Event, Commanded, Delivered, Ticked, Offered, UpTaken, NewsAsked}
use Rattle.norm_safety.specs.FilesHaveNames.{HasName, FilesHaveNamesInRuns}
use Rattle.norm_safety.specs.History.{happens, last_world, history}
use Rattle.norm_safety.specs.World.{World, world_opening, receiver_at, with_receiver, with_given, is_of, offers}
use Rattle.norm_safety.specs.WorldStep.{world_step, moved, node_move, receiver_move}
use Rattle.norm_safety.proofs.CommandSteps.{same_instances, where_free}
use Rattle.norm_safety.proofs.SenderKeeps.{Keeps, heard_keeps, ticked_keeps, told_keeps, struck_keeps}
use Rattle.norm_safety.proofs.SizedOrders.{Steady, mark_steady}

-- the files of an order have names
abbrev AreNamed : List Entry → Type 0
AreNamed order = AllByRecursion (λ (x : Entry). HasName x.object) order

-- and so have those of each instance
abbrev AllNamed : List Instance → Type 0
AllNamed all = AllByRecursion (λ (i : Instance). AreNamed i.order) all

-- ---- what a command does to an order

named_more : (order : List Entry) (x : Entry) → AreNamed order → HasName x.object → AreNamed (order ++ x ∷ [])
named_more [] x all one = (one, tt)
named_more (y ∷ order) x all one = (all.0, named_more order x all.1 one)

named_last : (parts : List Part) (order : List Entry) → AreNamed order → AreNamed (with_last (Stream parts) order)
named_last parts [] all = tt
named_last parts (x ∷ []) all = (tt, tt)
named_last parts (x ∷ y ∷ order) all = (all.0, named_last parts (y ∷ order) all.1)

all_more : (all : List Instance) (i : Instance) → AllNamed all → AreNamed i.order → AllNamed (all ++ i ∷ [])
all_more [] i all one = (one, tt)
all_more (x ∷ more) i all one = (all.0, all_more more i all.1 one)

-- the last instance goes on
current_goes : (earlier : List Instance) (i j : Instance) → (AreNamed i.order → AreNamed j.order) → AllNamed (earlier ++ i ∷ [])
    → AllNamed (earlier ++ j ∷ [])
current_goes [] i j goes all = (goes all.0, tt)
current_goes (x ∷ earlier) i j goes all = (all.0, current_goes earlier i j goes all.1)

joined_named : (p : Settings) (by : Origin) (object : Object) (s : SenderState) → HasName object → AllNamed (instances s)
    → AllNamed (instances (joined p by object s))
joined_named p by object s has all =
    current_goes s.earlier s.current (joined p by object s).current
    (λ order. named_more s.current.order (record { by = by; object = object }) order has) all

grown_named : (p : Settings) (s : SenderState) (parts : List Part) → AllNamed (instances s) → AllNamed (instances (grown p s parts))
grown_named p s parts all =
    current_goes s.earlier s.current (grown p s parts).current (λ order. named_last parts s.current.order order) all

cut_named : (p : Settings) (s : SenderState) → AllNamed (instances s) → AllNamed (instances (cut p s))
cut_named p s all = go (unclosed p.e (parts_now s))
  where
    cut_where : ℕ → SenderState
    cut_where n = elim n [ zero ↦ s | suc k ↦ with_parts (parts_now s ++ Cut ∷ []) s ]

    go : (n : ℕ) → AllNamed (instances (cut_where n))
    go zero = all
    go (suc k) =
        current_goes s.earlier s.current (with_parts (parts_now s ++ Cut ∷ []) s).current
        (λ order. named_last (parts_now s ++ Cut ∷ []) s.current.order order) all

steady_named : (p : Settings) (s t : SenderState) → Steady p s t → AllNamed (instances s) → AllNamed (instances t)
steady_named p s t same all =
    subst AllNamed (sym (ap (λ (xs : List Instance). xs ++ t.current ∷ []) same.earlier ∙ ap (λ (x : Instance). s.earlier ++ x ∷ []) same.current)) all

keeps_named : (s t : SenderState) → Keeps s t → AllNamed (instances s) → AllNamed (instances t)
keeps_named s t same all = subst AllNamed (sym (same_instances s t same)) all

free_named : (found : Option EnqueueFault) (s after : SenderState) (receipt : Receipt) → AllNamed (instances s) → AllNamed (instances after)
    → AllNamed (instances (where_free found s after receipt).0)
free_named None s after receipt all new = new
free_named (Some fault) s after receipt all new = all

-- the state of a step
abbrev state_of : SenderState × Result Receipt SendFault → SenderState
state_of step = step.0

mark_named : (p : Settings) (s : SenderState) (by : Origin) (quorum : Option ℕ) → AllNamed (instances s)
    → AllNamed (instances (answered Mark (cut_and_marked p s by quorum)).0)
mark_named p s by quorum all =
    steady_named p (cut p s) (answered Mark (cut_and_marked p s by quorum)).0
    (mark_steady p by quorum (cut p s) (last_source (current_shapes p (cut p s))) refl) (cut_named p s all)

command_named : (p : Settings) (s : SenderState) (by : Origin) (job : Job) → AllNamed (instances s) → AllNamed (instances (commanded p s by job).0)
command_named p s by (job.Data info bytes) all =
    free_named (object_fault p s info bytes) s (joined p by (Whole kind.Data info bytes) s) _ all (joined_named p by (Whole kind.Data info bytes) s tt all)
command_named p s by (job.File name bytes) all =
    free_named (object_fault p s (Some name) bytes) s (joined p by (Whole kind.File (Some name) bytes) s) _ all
    (joined_named p by (Whole kind.File (Some name) bytes) s (name, refl) all)
command_named p s by job.Open all =
    free_named (open_fault p s) s (joined p by (Stream []) s) _ all (joined_named p by (Stream []) s tt all)
command_named p s by (job.Write bytes) all =
    let parts = parts_now s ++ Write by bytes ∷ [] in
    free_named (write_fault p s bytes parts) s (grown p s parts) _ all (grown_named p s parts all)
command_named p s by job.Close all =
    let parts = parts_now s ++ End ∷ [] in
    free_named (close_fault p s parts) s (grown p s parts) _ all (grown_named p s parts all)
command_named p s by (job.Mark None) all = mark_named p s by None all
command_named p s by (job.Mark (Some q)) all = go (is_no_quorum p q)
  where
    go : (no : Bool) → AllNamed (instances (state_of (answered Mark (elim no [ true ↦ (s, Err (Quorum q)) | false ↦ cut_and_marked p s by (Some q) ]))))
    go true = all
    go false = mark_named p s by (Some q) all
command_named p s by (job.Restart id) all = go (is_used s id)
  where
    go : (used : Bool) → AllNamed (instances (state_of (elim used [
      | true ↦ (s, Err (IdUsed id))
      | false ↦ (begun_anew id s, Ok (receipt.Restarted id))
    ])))
    go true = all
    go false = all_more (instances s) (begun id) all tt
command_named p s by (job.Strike node) all = go (strike_fault s node)
  where
    go : (found : Option StrikeFault) → AllNamed (instances (state_of (answered Strike (elim found [
      | Some fault ↦ (s, Err fault)
      | None ↦ (struck_off node s, Ok (receipt.Struck node))
    ]))))
    go (Some fault) = all
    go None = keeps_named s (struck_off node s) (struck_keeps node s) all

-- ---- one event, and a run

given_named : (node : ℕ) (datagram : Option Written) (w : World) → AllNamed (instances w.sender) → AllNamed (instances (with_given node datagram w).sender)
given_named node None w all = all
given_named node (Some datagram) w all = all

event_named : (p : Settings) (w : World) (e : Event) → AllNamed (instances w.sender) → AllNamed (instances (world_step p w e).0.sender)
event_named p w (Commanded by job now) all = command_named p w.sender by job all
event_named p w (Delivered node octets now draw) all = go (node == p.sender) (receiver_at w node)
  where
    go : (own : Bool) (found : Option ReceiverState)
        → AllNamed (instances (moved p w (node_move own found (sender.Delivered octets now) (receiver.Delivered octets now draw))).0.sender)
    go true found = keeps_named w.sender (heard p w.sender octets now) (heard_keeps p w.sender octets now) all
    go false None = all
    go false (Some r) = all
event_named p w (Ticked node now) all = go (node == p.sender) (receiver_at w node)
  where
    go : (own : Bool) (found : Option ReceiverState)
        → AllNamed (instances (moved p w (node_move own found (sender.Ticked now) (receiver.Ticked now))).0.sender)
    go true found =
        let step = sender_ticked p w.sender now in
        given_named p.sender step.1 (record w { sender = step.0 }) (keeps_named w.sender step.0 (ticked_keeps p w.sender now) all)
    go false None = all
    go false (Some r) = let step = receiver_ticked p r now in given_named r.node step.1 (with_receiver step.0 w) all
event_named p w (Offered node octets) all = go (find (is_of node octets) w.given)
  where
    go : (found : Option (ℕ × Written)) → AllNamed (instances (offers found node w).sender)
    go None = all
    go (Some o) = all
event_named p w (UpTaken node) all = go (receiver_at w node)
  where
    go : (found : Option ReceiverState) → AllNamed (instances (moved p w (receiver_move found receiver.UpTaken)).0.sender)
    go None = all
    go (Some r) = all
event_named p w NewsAsked all = keeps_named w.sender (told w.sender).0 (told_keeps w.sender) all

run_named : (p : Settings) (w : World) (events : List Event) → AllNamed (instances w.sender)
    → AllNamed (instances (last_world w (happens p w events)).sender)
unfolding happens last_world
run_named p w [] all = all
run_named p w (e ∷ events) all = run_named p (world_step p w e).0 events (event_named p w e all)

named_in : (all : List Instance) (id : ℕ) → AllNamed all
    → AreNamed (elim (find (λ (i : Instance). i.id == id) all) as (λ _. List Entry) [ Some i ↦ i.order | None ↦ [] ])
named_in [] id all = tt
named_in (x ∷ more) id all = go (x.id == id) (named_in more id all.1)
  where
    rest : Option Instance
    rest = find (λ (i : Instance). i.id == id) more

    go : (b : Bool) → AreNamed (elim rest as (λ _. List Entry) [ Some i ↦ i.order | None ↦ [] ])
        → AreNamed (elim (cond b (Some x) rest) as (λ _. List Entry) [ Some i ↦ i.order | None ↦ [] ])
    go true others = all.0
    go false others = others

pub files_have_names : FilesHaveNamesInRuns
files_have_names p events id =
    named_in (instances (history p events).now.sender) id (run_named p (world_opening p) events (tt, tt))
