-- Accepted objects enter the transport order once each: kept by each event of a lawful run, and so at its end.
use Rattle.std.proofs.Common.{◌≡◌, ℕ, length, List, [], ◌∷◌, Bool, true, false, Option, None, Some, Result, Ok, Err, refl, sym, ap, ◌∙◌, subst, arith}
use Rattle.std.specs.Prelude.{◌==◌, find, is_ok, nat_eq, IsTrue, Contains}
use Rattle.std.specs.List.{IsDistinct, AllByRecursion}
use Rattle.norm_base.specs.Settings.{Settings}
use Rattle.norm_base.specs.declared.node.Origin.{Origin}
use Rattle.norm_ext.specs.Written.{Written}
use Rattle.norm_send_rules.specs.SenderState.{SenderState, Instance, sender_opening}
use Rattle.norm_send_rules.specs.SenderStep as sender
use Rattle.norm_receive_rules.specs.ReceiverStep as receiver
use Rattle.norm_send_rules.specs.Restarting.{instances}
use Rattle.norm_send_rules.specs.Commanding.{commanded}
use Rattle.norm_send_rules.specs.Ticking.{ticked as sender_ticked}
use Rattle.norm_send_rules.specs.Telling.{told}
use Rattle.norm_send_rules.specs.declared.job.Job.{Job}
use Rattle.norm_send_rules.specs.declared.job.Receipt.{Receipt}
use Rattle.norm_send_rules.specs.declared.job.Receipt.TheVariants as receipt
use Rattle.norm_send_rules.specs.declared.fault.SendFault.{SendFault}
use Rattle.norm_receive_rules.specs.ReceiverState.{ReceiverState}
use Rattle.norm_receive_rules.specs.Taking.{took}
use Rattle.norm_receive_rules.specs.Ticking.{ticked as receiver_ticked}
use Rattle.norm_safety.specs.Events.{Event, Commanded, Delivered, Ticked, Offered, UpTaken, NewsAsked, Answer, Gave, Sent, Took, Told, Silent}
use Rattle.norm_safety.specs.World.{World, world_opening, receiver_at, with_receiver, with_given, is_of, offers}
use Rattle.norm_safety.specs.WorldStep.{world_step, moved, node_move, receiver_move}
use Rattle.norm_safety.specs.InTime.{MayComeLate, HonestFrom, Honest, accepted_from, accepted_in}
use Rattle.norm_safety.specs.Lawful.{same_origin, accepted_with, MayCome, LawfulFrom, Lawful}
use Rattle.norm_safety.specs.History.{Happening, happens, last_world, history}
use Rattle.norm_safety.specs.OnceEach.{OnceEach, has_its_place}
use Rattle.norm_safety.proofs.SenderKeeps.{Keeps, keeps_all, heard_keeps, ticked_keeps, told_keeps}
use Rattle.norm_safety.proofs.EntryLemmas.{AllKept}
use Rattle.norm_safety.proofs.CommandSteps.{keeps_origins, keeps_ids, same_instances, kept_all, command_goes}
use Rattle.norm_safety.proofs.OnceLemmas.{OnceSoFar, once_after, low_by, with_accepted}
use Rattle.norm_safety.proofs.PlaceLemmas.{has_place, stays_placed, command_placed}

-- what an event of a lawful run leaves: what holds of the sender so far, each entry at its place, and the answer's own
pub record Leaves (w : World) (accepted : List Origin) (e : Event) (step : World × Answer) : Type 0 where
  pub once : OnceSoFar step.0.sender (accepted_with accepted e step.1)
  pub kept : AllKept (instances w.sender) (instances step.0.sender)
  pub own : (later : SenderState) → AllKept (instances step.0.sender) (instances later)
      → IsTrue (has_its_place later (record { before = w; event = e; answer = step.1; after = step.0 }) e step.1)

-- the answer to a command has its place in later states as it does in the first
placed_later : (w : World) (later : SenderState) (h : Happening) (by : Origin) (job : Job) (now : ℕ) (r : Result Receipt SendFault)
    → h.before ≡ w → has_place w.sender.current.id later by job r ≡ true → IsTrue (has_its_place later h (Commanded by job now) (Gave r))
placed_later w later h by job now (Ok (receipt.Object index len)) e placed =
    ap (λ (v : World). has_place v.sender.current.id later by job (Ok (receipt.Object index len))) e ∙ placed
placed_later w later h by job now (Ok (receipt.Opened index)) e placed =
    ap (λ (v : World). has_place v.sender.current.id later by job (Ok (receipt.Opened index))) e ∙ placed
placed_later w later h by job now (Ok (receipt.Wrote index offset len)) e placed =
    ap (λ (v : World). has_place v.sender.current.id later by job (Ok (receipt.Wrote index offset len))) e ∙ placed
placed_later w later h by job now (Ok (receipt.Closed index)) e placed =
    ap (λ (v : World). has_place v.sender.current.id later by job (Ok (receipt.Closed index))) e ∙ placed
placed_later w later h by job now (Ok (receipt.Mark mark at)) e placed = refl
placed_later w later h by job now (Ok (receipt.Restarted instance)) e placed = refl
placed_later w later h by job now (Ok (receipt.Struck node)) e placed = refl
placed_later w later h by job now (Err fault) e placed = refl

-- the accepted commands after one more
accepted_is : (accepted : List Origin) (by : Origin) (job : Job) (now : ℕ) (r : Result Receipt SendFault)
    → accepted_with accepted (Commanded by job now) (Gave r) ≡ with_accepted accepted by (is_ok r)
accepted_is accepted by job now (Ok receipt) = refl
accepted_is accepted by job now (Err fault) = refl

command_leaves : (p : Settings) (w : World) (accepted : List Origin) (by : Origin) (job : Job) (now : ℕ) → (Contains accepted by → ⊥)
    → OnceSoFar w.sender accepted → Leaves w accepted (Commanded by job now) (world_step p w (Commanded by job now))
command_leaves p w accepted by job now free h =
    let step = commanded p w.sender by job in
    let goes = command_goes p w.sender by job in
    let after : World = record w { sender = step.0 } in
    let x : Happening = record { before = w; event = Commanded by job now; answer = Gave step.1; after = after } in
    let O : List Origin → Type 0 = λ all. OnceSoFar step.0 all in
    record {
      once = subst O (sym (accepted_is accepted by job now step.1))
          (once_after w.sender step.0 accepted by (is_ok step.1) free goes.origins goes.ids h);
      kept = goes.places;
      own = λ later kept. placed_later w later x by job now step.1 refl
          (stays_placed w.sender.current.id step.0 later by job step.1 kept (command_placed p w.sender by job h.ids));
    }

-- An event that leaves the orders, and is no command, leaves what holds so far.
quiet_leaves : (w after : World) (accepted : List Origin) (e : Event) (answer : Answer) → Keeps w.sender after.sender
    → accepted_with accepted e answer ≡ accepted → ((later : SenderState) (h : Happening) → has_its_place later h e answer ≡ true)
    → OnceSoFar w.sender accepted → Leaves w accepted e (after, answer)
quiet_leaves w after accepted e answer keeps same placed h =
    let D : List Origin → Type 0 = λ xs. IsDistinct same_origin xs in
    let I : List ℕ → Type 0 = λ xs. IsDistinct nat_eq xs in
    let K : List Origin → Type 0 = λ xs. AllByRecursion (λ x. Contains accepted x) xs in
    let A : List Instance → Type 0 = λ all. AllKept (instances w.sender) all in
    let O : List Origin → Type 0 = λ all. OnceSoFar after.sender all in
    let by = keeps_origins w.sender after.sender keeps in
    record {
      once = subst O (sym same) (record {
        differ = subst D (sym by) h.differ;
        ids = subst I (sym (keeps_ids w.sender after.sender keeps)) h.ids;
        low = low_by w.sender after.sender (keeps_ids w.sender after.sender keeps) h.low;
        known = subst K (sym by) h.known;
        few = (let same = ap length by in let le = h.few in omega (arith, same, le));
      });
      kept = subst A (sym (same_instances w.sender after.sender keeps)) (kept_all (instances w.sender));
      own = λ later kept. placed later (record { before = w; event = e; answer = answer; after = after });
    }

delivery_leaves : (p : Settings) (w : World) (accepted : List Origin) (node : ℕ) (datagram : List ℕ) (now draw : ℕ)
    → OnceSoFar w.sender accepted → Leaves w accepted (Delivered node datagram now draw) (world_step p w (Delivered node datagram now draw))
delivery_leaves p w accepted node datagram now draw h = go (node == p.sender) (receiver_at w node)
  where
    quiet : (after : World) → Keeps w.sender after.sender → Leaves w accepted (Delivered node datagram now draw) (after, Silent)
    quiet after keeps = quiet_leaves w after accepted (Delivered node datagram now draw) Silent keeps refl (λ later x. refl) h

    go : (own : Bool) (found : Option ReceiverState) → Leaves w accepted (Delivered node datagram now draw)
        (moved p w (node_move own found (sender.Delivered datagram now) (receiver.Delivered datagram now draw)))
    go true found = quiet _ (heard_keeps p w.sender datagram now)
    go false (Some r) = quiet _ (keeps_all w.sender)
    go false None = quiet _ (keeps_all w.sender)

given_keeps : (node : ℕ) (datagram : Option Written) (w : World) (old : SenderState) → Keeps old w.sender → Keeps old (with_given node datagram w).sender
given_keeps node None w old h = h
given_keeps node (Some datagram) w old h = h

tick_leaves : (p : Settings) (w : World) (accepted : List Origin) (node now : ℕ)
    → OnceSoFar w.sender accepted → Leaves w accepted (Ticked node now) (world_step p w (Ticked node now))
tick_leaves p w accepted node now h = go (node == p.sender) (receiver_at w node)
  where
    quiet : (after : World) (answer : Answer) → Keeps w.sender after.sender → Leaves w accepted (Ticked node now) (after, answer)
    quiet after answer keeps = quiet_leaves w after accepted (Ticked node now) answer keeps refl (λ later x. refl) h

    go : (own : Bool) (found : Option ReceiverState) → Leaves w accepted (Ticked node now)
        (moved p w (node_move own found (sender.Ticked now) (receiver.Ticked now)))
    go true found =
        let step = sender_ticked p w.sender now in
        quiet _ (Sent step.1) (given_keeps p.sender step.1 (record w { sender = step.0 }) w.sender (ticked_keeps p w.sender now))
    go false (Some r) =
        let step = receiver_ticked p r now in quiet _ (Sent step.1) (given_keeps r.node step.1 (with_receiver step.0 w) w.sender (keeps_all w.sender))
    go false None = quiet _ Silent (keeps_all w.sender)

taking_leaves : (p : Settings) (w : World) (accepted : List Origin) (node : ℕ)
    → OnceSoFar w.sender accepted → Leaves w accepted (UpTaken node) (world_step p w (UpTaken node))
taking_leaves p w accepted node h = go (receiver_at w node)
  where
    go : (found : Option ReceiverState) → Leaves w accepted (UpTaken node) (moved p w (receiver_move found receiver.UpTaken))
    go (Some r) = quiet_leaves w _ accepted (UpTaken node) (Took (took r).1) (keeps_all w.sender) refl (λ later x. refl) h
    go None = quiet_leaves w w accepted (UpTaken node) Silent (keeps_all w.sender) refl (λ later x. refl) h

-- an offer leaves the sender
offer_keeps : (found : Option (ℕ × Written)) (node : ℕ) (w : World) → Keeps w.sender (offers found node w).sender
offer_keeps None node w = keeps_all w.sender
offer_keeps (Some datagram) node w = keeps_all w.sender

-- each event that may come, a delivery however late
pub event_leaves : (p : Settings) (w : World) (accepted : List Origin) (e : Event) → MayComeLate p w accepted e
    → OnceSoFar w.sender accepted → Leaves w accepted e (world_step p w e)
event_leaves p w accepted (Commanded by job now) may h = command_leaves p w accepted by job now may h
event_leaves p w accepted (Delivered node datagram now draw) may h = delivery_leaves p w accepted node datagram now draw h
event_leaves p w accepted (Ticked node now) may h = tick_leaves p w accepted node now h
event_leaves p w accepted (Offered node datagram) may h =
    quiet_leaves w _ accepted (Offered node datagram) Silent (offer_keeps (find (is_of node datagram) w.given) node w) refl (λ later x. refl) h
event_leaves p w accepted (UpTaken node) may h = taking_leaves p w accepted node h
event_leaves p w accepted NewsAsked may h =
    quiet_leaves w _ accepted NewsAsked (Told (told w.sender).1) (told_keeps w.sender) refl (λ later x. refl) h

-- what honest events leave, from a world on
record Ends (p : Settings) (w : World) (accepted : List Origin) (events : List Event) : Type 0 where
  once : OnceSoFar (last_world w (happens p w events)).sender (accepted_from p w accepted events)
  kept : AllKept (instances w.sender) (instances (last_world w (happens p w events)).sender)
  places : AllByRecursion (λ x. IsTrue (has_its_place (last_world w (happens p w events)).sender x x.event x.answer)) (happens p w events)

run_ends : (p : Settings) (w : World) (accepted : List Origin) (events : List Event) → HonestFrom p w accepted events
    → OnceSoFar w.sender accepted → Ends p w accepted events
unfolding happens last_world
run_ends p w accepted [] honest h = record { once = h; kept = kept_all (instances w.sender); places = tt }
run_ends p w accepted (e ∷ events) honest h =
    let step = world_step p w e in
    let first = event_leaves p w accepted e honest.0 h in
    let rest = run_ends p step.0 (accepted_with accepted e step.1) events honest.1 first.once in
    record {
      once = rest.once;
      kept = λ id index test stays was. rest.kept id index test stays (first.kept id index test stays was);
      places = (first.own (last_world step.0 (happens p step.0 events)).sender rest.kept, rest.places);
    }

-- an event that may come, and in time where it is a delivery
late_too : (p : Settings) (w : World) (accepted : List Origin) (e : Event) → MayCome p w accepted e → MayComeLate p w accepted e
late_too p w accepted (Commanded by job now) may = may
late_too p w accepted (Delivered node datagram now draw) may =
    record { from = may.from; datagram = may.datagram; other = may.other; offered = may.offered; same = may.same }
late_too p w accepted (Ticked node now) may = may
late_too p w accepted (Offered node datagram) may = may
late_too p w accepted (UpTaken node) may = may
late_too p w accepted NewsAsked may = may

-- lawful runs are honest
lawful_too : (p : Settings) (w : World) (accepted : List Origin) (events : List Event) → LawfulFrom p w accepted events → HonestFrom p w accepted events
lawful_too p w accepted [] lawful = tt
lawful_too p w accepted (e ∷ events) lawful =
    let step = world_step p w e in (late_too p w accepted e lawful.0, lawful_too p step.0 (accepted_with accepted e step.1) events lawful.1)

opening_once : (p : Settings) → OnceSoFar (sender_opening p p.instance) []
unfolding IsDistinct
opening_once p = record { differ = tt; ids = (tt, tt); low = (omega arith, tt); known = tt; few = omega arith }

-- what holds of commands after an honest run
pub once_in : (p : Settings) (events : List Event) → Honest p events → OnceSoFar (history p events).now.sender (accepted_in p events)
once_in p events honest = (run_ends p (world_opening p) [] events honest (opening_once p)).once

pub once_each_run : (p : Settings) (events : List Event) → Honest p events → OnceEach (history p events)
once_each_run p events honest =
    let end = run_ends p (world_opening p) [] events honest (opening_once p) in
    record { origins = end.once.differ; ids = end.once.ids; places = end.places }

-- lawful runs are honest
pub lawful_honest : (p : Settings) (events : List Event) → Lawful p events → Honest p events
lawful_honest p events lawful = lawful_too p (world_opening p) [] events lawful
