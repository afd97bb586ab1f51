-- The two sessions go on: each is the run of its events, what was lawful later was so before, and orders grow.
use Rattle.std.proofs.Common.{◌≡◌, ℕ, List, [], ◌∷◌, ◌++◌, ◌+◌, length, Bool, true, false, Option, None, Some, Result, Ok, Err, refl, sym, ap, ◌∙◌, subst, ◌⊎◌, inl, inr}
use Rattle.std.specs.Prelude.{◌%◌, ◌==◌, ⊤, find, is_none, nat_le, unwrap_or}
use Rattle.std.proofs.Math.Nat.{zero-mod}
use Rattle.std.proofs.lemmas.List.{reverse-append}
use Rattle.norm_base.specs.Settings.{Settings, InRange}
use Rattle.norm_base.specs.declared.kinds.Kind.TheVariants as kind
use Rattle.norm_base.specs.declared.node.Origin.{Origin}
use Rattle.fec_plan.specs.declared.position.Position.{Position}
use Rattle.norm_ext.specs.Written.{Written}
use Rattle.norm_order.specs.Entries.{Part, Write, Cut, End, Object, Whole, Stream, Entry}
use Rattle.norm_order.specs.Segments.{since_cut, unclosed}
use Rattle.norm_order.specs.Shapes.{shapes_of, last_from, last_source}
use Rattle.norm_order.specs.declared.up.Up.{Up}
use Rattle.norm_order.specs.declared.up.Up.TheVariants as up
use Rattle.norm_receive_rules.specs.ReceiverState.{ReceiverState}
use Rattle.norm_receive_rules.specs.ReceiverStep as receiver
use Rattle.norm_receive_rules.specs.Ticking.{ticked as receiver_ticked}
use Rattle.norm_send_rules.specs.Commanding.{commanded, answered}
use Rattle.norm_send_rules.specs.Enqueuing.{open_parts, open_stream, object_fault, joined}
use Rattle.norm_send_rules.specs.Hearing.{heard}
use Rattle.norm_send_rules.specs.InWindow.{current_shapes}
use Rattle.norm_send_rules.specs.Marking.{is_no_quorum, cut_and_marked, most_open, watermark_at, with_watermark}
use Rattle.norm_send_rules.specs.Restarting.{instances}
use Rattle.norm_send_rules.specs.SenderState.{SenderState, Instance}
use Rattle.norm_send_rules.specs.SenderStep as sender
use Rattle.norm_send_rules.specs.Streaming.{open_fault, parts_now, with_last, with_parts, write_fault, close_fault, grown, cut}
use Rattle.norm_send_rules.specs.Striking.{strike_fault, struck_off}
use Rattle.norm_send_rules.specs.Telling.{told}
use Rattle.norm_send_rules.specs.Ticking.{ticked as sender_ticked}
use Rattle.norm_send_rules.specs.Watermarks.{open_watermarks}
use Rattle.norm_send_rules.specs.declared.fault.EnqueueFault.{EnqueueFault}
use Rattle.norm_send_rules.specs.declared.fault.MarkFault.TheVariants.{Quorum, TooMany}
use Rattle.norm_send_rules.specs.declared.fault.SendFault.{SendFault}
use Rattle.norm_send_rules.specs.declared.fault.SendFault.TheVariants.{Mark, Strike}
use Rattle.norm_send_rules.specs.declared.fault.StrikeFault.{StrikeFault}
use Rattle.norm_send_rules.specs.declared.job.Job.{Job}
use Rattle.norm_send_rules.specs.declared.job.Job.TheVariants as job
use Rattle.norm_send_rules.specs.declared.job.Receipt.{Receipt}
use Rattle.norm_send_rules.specs.declared.job.Receipt.TheVariants as receipt
use Rattle.norm_safety.specs.Events.{Event, Commanded, Delivered, Ticked, Offered, UpTaken, NewsAsked}
use Rattle.norm_safety.specs.History.{happens, last_world}
use Rattle.norm_safety.specs.Jobs.{AreEvents, IsEvent}
use Rattle.norm_safety.specs.OnceEach.{order_of}
use Rattle.norm_safety.specs.World.{World, world_opening, receiver_at, with_receiver, with_given, is_of, offers}
use Rattle.norm_safety.specs.WorldStep.{world_step, moved, node_move, receiver_move, run_from}
use Rattle.norm_safety.proofs.CommandSteps.{same_instances, where_free, first_none, marked_keeps, with_mark}
use Rattle.norm_safety.proofs.EntryLemmas.{ends, open_in, with_last_is}
use Rattle.norm_safety.proofs.GoesOn.{OrderLater, order_itself}
use Rattle.norm_safety.proofs.Onward.{GoOn, Onward, goes_on_itself, order_joined}
use Rattle.norm_safety.proofs.OrderRun.{run_of}
use Rattle.norm_safety.proofs.SenderHolds.{SenderHolds, command_steps, open_ends, ends_later, order_later}
use Rattle.norm_safety.proofs.SenderKeeps.{Keeps, heard_keeps, ticked_keeps, told_keeps, struck_keeps}
use Rattle.norm_relay.specs.Handing.{history_of, IsLawfulSide}
use Rattle.norm_relay.specs.Pumping.{job_of, mark_position}
use Rattle.norm_relay.specs.Sides.{Side, happens_in}
use Rattle.norm_relay.proofs.EndedOrders.{AreDone, MayEnd, AreEnded, front_done, CutsTo, cut_case, cut_unended}
use Rattle.norm_relay.proofs.FreshLemmas.{side_lawful}
use Rattle.norm_relay.proofs.HandLemmas.{IsRun, side_run}
use Rattle.norm_relay.proofs.StreamItems.{IsCutOrDone}

-- ---- a session

last_is_run : (p : Settings) (w : World) (events : List Event) → last_world w (happens p w events) ≡ run_from p w events
unfolding happens last_world
last_is_run p w [] = refl
last_is_run p w (e ∷ events) = last_is_run p (world_step p w e).0 events

-- the world of its history is its own
pub now_is : (s : Side) → IsRun s → (history_of s).now ≡ s.world
now_is s is = last_is_run s.p (world_opening s.p) s.events ∙ sym is

-- a session after more events: what was so before is so still, and what is lawful now was lawful then
pub record Goes (s t : Side) : Type 0 where
  pub profile : t.p ≡ s.p
  pub run : IsRun s → IsRun t
  pub lawful : IsLawfulSide t → IsLawfulSide s

pub goes_itself : (s : Side) → Goes s s
goes_itself s = record { profile = refl; run = λ r. r; lawful = λ l. l }

pub goes_with : (s : Side) (e : Event) → Goes s (happens_in s e).0
goes_with s e = record { profile = refl; run = side_run s e; lawful = side_lawful s e }

pub goes_both : (s t u : Side) → Goes s t → Goes t u → Goes s u
goes_both s t u f g = record { profile = g.profile ∙ f.profile; run = λ r. g.run (f.run r); lawful = λ l. f.lawful (g.lawful l) }

-- ---- instances go on

keeps_onward : (s t : SenderState) → Keeps s t → Onward s t
keeps_onward s t same = subst (λ (all : List Instance). GoOn (instances s) all) (sym (same_instances s t same)) (goes_on_itself (instances s))

given_onward : (s : SenderState) (node : ℕ) (datagram : Option Written) (w : World) → Onward s w.sender → Onward s (with_given node datagram w).sender
given_onward s node None w h = h
given_onward s node (Some datagram) w h = h

event_onward : (p : Settings) → InRange p → (w : World) (e : Event) → IsEvent e → SenderHolds p w.sender → Onward w.sender (world_step p w e).0.sender
event_onward p range w (Commanded by job now) is holds = (command_steps p range w.sender by job now is holds).onward
event_onward p range w (Delivered node octets now draw) is holds = go (node == p.sender) (receiver_at w node)
  where
    go : (own : Bool) (found : Option ReceiverState)
        → Onward w.sender (moved p w (node_move own found (sender.Delivered octets now) (receiver.Delivered octets now draw))).0.sender
    go true found = keeps_onward w.sender (heard p w.sender octets now) (heard_keeps p w.sender octets now)
    go false None = goes_on_itself (instances w.sender)
    go false (Some r) = goes_on_itself (instances w.sender)
event_onward p range w (Ticked node now) is holds = go (node == p.sender) (receiver_at w node)
  where
    go : (own : Bool) (found : Option ReceiverState)
        → Onward w.sender (moved p w (node_move own found (sender.Ticked now) (receiver.Ticked now))).0.sender
    go true found =
        let step = sender_ticked p w.sender now in
        given_onward w.sender p.sender step.1 (record w { sender = step.0 }) (keeps_onward w.sender step.0 (ticked_keeps p w.sender now))
    go false None = goes_on_itself (instances w.sender)
    go false (Some r) =
        let step = receiver_ticked p r now in given_onward w.sender r.node step.1 (with_receiver step.0 w) (goes_on_itself (instances w.sender))
event_onward p range w (Offered node octets) is holds = go (find (is_of node octets) w.given)
  where
    go : (found : Option (ℕ × Written)) → Onward w.sender (offers found node w).sender
    go None = goes_on_itself (instances w.sender)
    go (Some o) = goes_on_itself (instances w.sender)
event_onward p range w (UpTaken node) is holds = go (receiver_at w node)
  where
    go : (found : Option ReceiverState) → Onward w.sender (moved p w (receiver_move found receiver.UpTaken)).0.sender
    go None = goes_on_itself (instances w.sender)
    go (Some r) = goes_on_itself (instances w.sender)
event_onward p range w NewsAsked is holds = keeps_onward w.sender (told w.sender).0 (told_keeps w.sender)

last_event : (events : List Event) (e : Event) → AreEvents (events ++ e ∷ []) → IsEvent e
last_event [] e all = all.0
last_event (x ∷ events) e all = last_event events e all.1

-- what holds of the sender of a lawful session
pub sender_holds : (s : Side) → IsRun s → IsLawfulSide s → SenderHolds s.p s.world.sender
sender_holds s is l =
    subst (λ (w : World). SenderHolds s.p w.sender) (now_is s is) (run_of s.p l.range s.events l.lawful l.events).holds.sender

-- each order grows
pub side_later : (s : Side) (e : Event) (id : ℕ) → IsRun s → IsLawfulSide (happens_in s e).0
    → OrderLater (order_of s.world.sender id) (order_of (happens_in s e).0.world.sender id)
side_later s e id is l =
    (order_later s.world.sender (happens_in s e).0.world.sender
    (event_onward s.p l.range s.world e (last_event s.events e l.events) (sender_holds s is (side_lawful s e l))) id).order

-- ---- the current order below

-- a job that begins no instance
abbrev pub KeepsInstance : Job → Type 0
KeepsInstance (job.Restart id) = ⊥
KeepsInstance _ = ⊤

-- what a part's step leaves of the order
abbrev LaterBy : SenderState → SenderState × Result Receipt SendFault → Type 0
LaterBy s step = OrderLater s.current.order step.0.current.order

free_later : (found : Option EnqueueFault) (s after : SenderState) (receipt : Receipt) → (found ≡ None → OrderLater s.current.order after.current.order)
    → LaterBy s (where_free found s after receipt)
free_later None s after receipt h = h refl
free_later (Some fault) s after receipt h = order_itself s.current.order

joined_later : (p : Settings) (by : Origin) (object : Object) (s : SenderState) → OrderLater s.current.order (joined p by object s).current.order
joined_later p by object s = order_joined s.current.order (record { by = by; object = object } ∷ [])

grown_later : (p : Settings) (s : SenderState) (part : Part) → is_none (open_stream s) ≡ false
    → OrderLater s.current.order (grown p s (parts_now s ++ part ∷ [])).current.order
grown_later p s part there = ends_later s part (open_ends s there)

cut_later : (p : Settings) (s : SenderState) → OrderLater s.current.order (cut p s).current.order
cut_later p s = go (cut_case p s)
  where
    go : CutsTo p s (cut p s) → OrderLater s.current.order (cut p s).current.order
    go (inl (same, none)) = subst (λ (t : SenderState). OrderLater s.current.order t.current.order) (sym same) (order_itself s.current.order)
    go (inr (there, is)) =
        subst (λ (t : SenderState). OrderLater s.current.order t.current.order) (sym is) (ends_later s Cut (open_ends s there))

-- the watermark is of the last source symbol of an order that is cut
abbrev MadeOf : Settings → SenderState → SenderState × Result Receipt SendFault → Type 0
MadeOf p s step = (receipt : Receipt) (at : Position) → step.1 ≡ Ok receipt → mark_position receipt ≡ Some at
    → last_source (shapes_of p step.0.current.order) ≡ Some at

-- what a mark leaves
record MarkOf (p : Settings) (s : SenderState) (step : SenderState × Result Receipt SendFault) : Type 0 where
  order : step.0.current.order ≡ (cut p s).current.order
  made : MadeOf p s step

same_receipt : (a b : Receipt) (x y : Result Receipt SendFault) → x ≡ Ok a → y ≡ Ok b → x ≡ y → a ≡ b
same_receipt a b x y is has same = cc

mark_of : (p : Settings) (s : SenderState) (by : Origin) (quorum : Option ℕ) → MarkOf p s (answered Mark (cut_and_marked p s by quorum))
mark_of p s by quorum = at (last_source (current_shapes p (cut p s))) refl
  where
    refused : (fault : SendFault) (receipt : Receipt) → Err fault ≡ Ok receipt → ⊥
    refused fault receipt e = cc

    at : (found : Option Position) → last_source (current_shapes p (cut p s)) ≡ found → MarkOf p s (answered Mark (watermark_at (cut p s) by quorum found))
    at None e = record { order = refl; made = λ receipt q ok is. absurd (refused _ receipt ok) }
    at (Some a) e = go (nat_le most_open (length (open_watermarks (cut p s))))
      where
        go : (many : Bool) → MarkOf p s (answered Mark (elim many [
          | true ↦ (cut p s, Err (TooMany (length (open_watermarks (cut p s)))))
          | false ↦ (with_watermark (cut p s) by quorum a, Ok (receipt.Mark (length (cut p s).watermarks + 1) a))
        ]))
        go true = record { order = refl; made = λ receipt q ok is. absurd (refused _ receipt ok) }
        go false =
            let k : Keeps (with_mark by quorum a (cut p s)) (with_watermark (cut p s) by quorum a) = marked_keeps by (cut p s) quorum a in
            record {
              order = ap (λ (i : Instance). i.order) k.current;
              made = λ r q ok is. (
                  ap (λ (i : Instance). last_source (shapes_of p i.order)) k.current
                  ∙ e
                  ∙ ap mark_position (same_receipt (receipt.Mark (length (cut p s).watermarks + 1) a) r _ _ refl refl ok)
                  ∙ is
                  );
            }

mark_later : (p : Settings) (s : SenderState) (by : Origin) (quorum : Option ℕ) → LaterBy s (answered Mark (cut_and_marked p s by quorum))
mark_later p s by quorum = subst (λ (order : List Entry). OrderLater s.current.order order) (sym (mark_of p s by quorum).order) (cut_later p s)

-- the order grows by each job that begins no instance
pub command_later : (p : Settings) (s : SenderState) (by : Origin) (job : Job) → KeepsInstance job
    → OrderLater s.current.order (commanded p s by job).0.current.order
command_later p s by (job.Data info bytes) keeps =
    free_later (object_fault p s info bytes) s (joined p by (Whole kind.Data info bytes) s) _ (λ none. joined_later p by (Whole kind.Data info bytes) s)
command_later p s by (job.File name bytes) keeps =
    free_later (object_fault p s (Some name) bytes) s (joined p by (Whole kind.File (Some name) bytes) s) _
    (λ none. joined_later p by (Whole kind.File (Some name) bytes) s)
command_later p s by job.Open keeps = free_later (open_fault p s) s (joined p by (Stream []) s) _ (λ none. joined_later p by (Stream []) s)
command_later p s by (job.Write bytes) keeps =
    free_later (write_fault p s bytes (parts_now s ++ Write by bytes ∷ [])) s (grown p s (parts_now s ++ Write by bytes ∷ [])) _ (λ none. (
    let first = first_none _ _ _ none in
    let second = first_none _ _ _ first.1 in
    grown_later p s (Write by bytes) (first_none _ _ _ second.1).0
    ))
command_later p s by job.Close keeps =
    free_later (close_fault p s (parts_now s ++ End ∷ [])) s (grown p s (parts_now s ++ End ∷ [])) _ (λ none. grown_later p s End (first_none _ _ _ none).0)
command_later p s by (job.Mark None) keeps = mark_later p s by None
command_later p s by (job.Mark (Some q)) keeps = go (is_no_quorum p q)
  where
    go : (no : Bool) → LaterBy s (answered Mark (elim no [ true ↦ (s, Err (Quorum q)) | false ↦ cut_and_marked p s by (Some q) ]))
    go true = order_itself s.current.order
    go false = mark_later p s by (Some q)
command_later p s by (job.Restart id) keeps = absurd keeps
command_later p s by (job.Strike node) keeps = go (strike_fault s node)
  where
    go : (found : Option StrikeFault) → LaterBy s (answered Strike (elim found [
      | Some fault ↦ (s, Err fault)
      | None ↦ (struck_off node s, Ok (receipt.Struck node))
    ]))
    go (Some fault) = order_itself s.current.order
    go None =
        subst (λ (i : Instance). OrderLater s.current.order i.order) (sym (struck_keeps node s).current) (order_itself s.current.order)

-- an object, or a part of a stream
abbrev pub IsContent : Job → Type 0
IsContent (job.Mark quorum) = ⊥
IsContent (job.Restart id) = ⊥
IsContent (job.Strike node) = ⊥
IsContent _ = ⊤

-- a hand-up becomes no other job
pub job_content : (opened : Bool) (u : Up) (given : Job) → job_of opened u ≡ Some given → IsContent given
job_content opened u given is = go opened u is
  where
    on : (a : Job) → Some a ≡ Some given → IsContent a → IsContent given
    on a e h = subst (λ (j : Job). IsContent j) (inside a e) h
      where
        inside : (a : Job) → Some a ≡ Some given → a ≡ given
        inside a e = cc

    none : None ≡ Some given → ⊥
    none e = cc

    go : (o : Bool) (u : Up) → job_of o u ≡ Some given → IsContent given
    go o (up.Object index kind.Data info bytes) e = on (job.Data info bytes) e tt
    go o (up.Object index kind.File (Some name) bytes) e = on (job.File name bytes) e tt
    go o (up.Object index kind.File None bytes) e = on (job.Data None bytes) e tt
    go o (up.StreamOpen index) e = on job.Open e tt
    go o (up.StreamBytes index offset bytes) e = on (job.Write bytes) e tt
    go o (up.StreamEnd index) e = on job.Close e tt
    go true (up.Lost index) e = on job.Close e tt
    go false (up.Lost index) e = absurd (none e)

pub job_keeps : (opened : Bool) (u : Up) (given : Job) → job_of opened u ≡ Some given → KeepsInstance given
job_keeps opened u given is = go given (job_content opened u given is)
  where
    go : (j : Job) → IsContent j → KeepsInstance j
    go (job.Restart id) content = absurd content
    go (job.Data info bytes) content = tt
    go (job.File name bytes) content = tt
    go job.Open content = tt
    go (job.Write bytes) content = tt
    go job.Close content = tt
    go (job.Mark quorum) content = tt
    go (job.Strike node) content = tt

-- ---- a mark below

-- the last entry of an order is an object, ended or cut
pub record IsCutOrder (e : ℕ) (order : List Entry) : Type 0 where
  pub front : List Entry
  pub last : Entry
  pub is : order ≡ front ++ last ∷ []
  pub done : AreDone front
  pub end : IsCutOrDone e last.object

-- no octets stand after the last cut
none_since : (since : List ℕ) (parts : List Part) → since_cut since (parts ++ Cut ∷ []) ≡ []
unfolding since_cut
none_since since [] = refl
none_since since (Write by octets ∷ parts) = none_since (since ++ octets) parts
none_since since (Cut ∷ parts) = none_since [] parts
none_since since (End ∷ parts) = none_since [] parts

none_unclosed : (e : ℕ) (parts : List Part) → unclosed e (parts ++ Cut ∷ []) ≡ 0
none_unclosed e parts = ap (λ (xs : List ℕ). length xs % e) (none_since [] parts) ∙ zero-mod e

-- an open stream that has nothing to cut
uncut : (e : ℕ) (front : List Entry) (last : Entry) → MayEnd last.object → unclosed e (unwrap_or (open_in (front ++ last ∷ [])) []) ≡ 0 → IsCutOrDone e last.object
uncut e front last h none = go last.object h (sym (ap (λ (o : Option (List Part)). unclosed e (unwrap_or o [])) seen) ∙ none)
  where
    by : List Entry → Option (List Part)
    by entries = elim entries [ [] ↦ None | entry ∷ more ↦ open_parts entry.object ]

    seen : open_in (front ++ last ∷ []) ≡ open_parts last.object
    seen = ap by (reverse-append front (last ∷ []))

    go : (o : Object) → MayEnd o → unclosed e (unwrap_or (open_parts o) []) ≡ 0 → IsCutOrDone e o
    go (Whole kind info octets) h none = tt
    go (Stream parts) (inl ended) none = inl ended
    go (Stream parts) (inr unended) none =
        inr (unended, sym (ap (λ b. unclosed e (unwrap_or (elim b [ true ↦ None | false ↦ Some parts ]) [])) unended) ∙ none)

-- an order that is cut, and is not empty
cut_order_is : (p : Settings) (s : SenderState) → AreEnded s.current.order → ((cut p s).current.order ≡ [] → ⊥) → IsCutOrder p.e (cut p s).current.order
cut_order_is p s ended some = go (cut_case p s)
  where
    to : (t : SenderState) → (cut p s) ≡ t → IsCutOrder p.e t.current.order → IsCutOrder p.e (cut p s).current.order
    to t same h = subst (λ (u : SenderState). IsCutOrder p.e u.current.order) (sym same) h

    go : CutsTo p s (cut p s) → IsCutOrder p.e (cut p s).current.order
    go (inl (same, none)) = to s same (at (ends s.current.order))
      where
        at : (s.current.order ≡ []) ⊎ ((front : List Entry) × (last : Entry) × (s.current.order ≡ front ++ last ∷ [])) → IsCutOrder p.e s.current.order
        at (inl empty) = absurd (some (ap (λ (t : SenderState). t.current.order) same ∙ empty))
        at (inr (front, last, is)) =
            let two = front_done front last (subst (λ (es : List Entry). AreEnded es) is ended) in
            record {
              front = front;
              last = last;
              is = is;
              done = two.0;
              end = uncut p.e front last two.1 (sym (ap (λ (es : List Entry). unclosed p.e (unwrap_or (open_in es) [])) is) ∙ none);
            }
    go (inr (there, is)) =
        let end = open_ends s there in
        let x : Entry = record { by = end.own; object = Stream (parts_now s) } in
        to (with_parts (parts_now s ++ Cut ∷ []) s) is (record {
          front = end.front;
          last = record { by = end.own; object = Stream (parts_now s ++ Cut ∷ []) };
          is = ap (λ (es : List Entry). with_last (Stream (parts_now s ++ Cut ∷ [])) es) end.is ∙ with_last_is (Stream (parts_now s ++ Cut ∷ [])) end.front x;
          done = (front_done end.front x (subst (λ (es : List Entry). AreEnded es) end.is ended)).0;
          end = inr (cut_unended (parts_now s) end.unended, none_unclosed p.e (parts_now s));
        })

-- what a mark that was made leaves
pub record Marked (p : Settings) (order : List Entry) (at : Position) : Type 0 where
  pub last : last_source (shapes_of p order) ≡ Some at
  pub cut : IsCutOrder p.e order

pub marked_order : (p : Settings) (s : SenderState) (by : Origin) (receipt : Receipt) (at : Position) → AreEnded s.current.order
    → (commanded p s by (job.Mark None)).1 ≡ Ok receipt → mark_position receipt ≡ Some at
    → Marked p (commanded p s by (job.Mark None)).0.current.order at
unfolding last_from
marked_order p s by receipt at ended ok is =
    let m = mark_of p s by None in
    let last = m.made receipt at ok is in
    record {
      last = last;
      cut =
          subst (λ (es : List Entry). IsCutOrder p.e es) (sym m.order)
          (cut_order_is p s ended (λ none. none_last (sym (ap (λ (es : List Entry). last_source (shapes_of p es)) (m.order ∙ none)) ∙ last)));
    }
  where
    none_last : last_source (shapes_of p []) ≡ Some at → ⊥
    none_last e = cc
