-- In each run, the end of a stream is the last of its parts, and each entry of an order is finished, except the last.
use Rattle.std.proofs.Common.{◌≡◌, ℕ, zero, suc, cond, List, [], ◌∷◌, ◌++◌, Bool, true, false, Option, None, Some, Result, Ok, Err, refl, sym, ap, ◌∙◌, subst, ◌⊎◌, inl, inr, arith}
use Rattle.std.specs.Prelude.{◌==◌, ⊤, find, is_none, is_some, unwrap_or}
use Rattle.std.specs.List.{AllByRecursion}
use Rattle.std.proofs.lemmas.List.{reverse-append}
use Rattle.norm_base.specs.Settings.{Settings}
use Rattle.norm_base.specs.declared.kinds.Kind.TheVariants as kind
use Rattle.norm_base.specs.declared.node.Origin.{Origin}
use Rattle.norm_ext.specs.Written.{Written}
use Rattle.norm_order.specs.Entries.{Part, Write, Cut, End, Object, Whole, Stream, Entry}
use Rattle.norm_order.specs.Segments.{has_end, unclosed}
use Rattle.norm_order.specs.Shapes.{last_source}
use Rattle.norm_receive_rules.specs.ReceiverState.{ReceiverState}
use Rattle.norm_receive_rules.specs.ReceiverStep as receiver
use Rattle.norm_receive_rules.specs.Ticking.{ticked as receiver_ticked}
use Rattle.norm_send_rules.specs.Commanding.{commanded, answered}
use Rattle.norm_send_rules.specs.Enqueuing.{open_parts, open_stream, object_fault, joined}
use Rattle.norm_send_rules.specs.Hearing.{heard}
use Rattle.norm_send_rules.specs.InWindow.{current_shapes}
use Rattle.norm_send_rules.specs.Marking.{is_no_quorum, cut_and_marked}
use Rattle.norm_send_rules.specs.Restarting.{instances, is_used, begun_anew}
use Rattle.norm_send_rules.specs.SenderState.{SenderState, Instance, begun}
use Rattle.norm_send_rules.specs.SenderStep as sender
use Rattle.norm_send_rules.specs.Streaming.{open_fault, parts_now, with_last, with_parts, write_fault, close_fault, grown, cut}
use Rattle.norm_send_rules.specs.Striking.{strike_fault, struck_off}
use Rattle.norm_send_rules.specs.Telling.{told}
use Rattle.norm_send_rules.specs.Ticking.{ticked as sender_ticked}
use Rattle.norm_send_rules.specs.declared.fault.EnqueueFault.{EnqueueFault}
use Rattle.norm_send_rules.specs.declared.fault.MarkFault.TheVariants.{Quorum}
use Rattle.norm_send_rules.specs.declared.fault.SendFault.{SendFault}
use Rattle.norm_send_rules.specs.declared.fault.SendFault.TheVariants.{Mark, Strike, IdUsed}
use Rattle.norm_send_rules.specs.declared.fault.StrikeFault.{StrikeFault}
use Rattle.norm_send_rules.specs.declared.job.Job.{Job}
use Rattle.norm_send_rules.specs.declared.job.Job.TheVariants as job
use Rattle.norm_send_rules.specs.declared.job.Receipt.{Receipt}
use Rattle.norm_send_rules.specs.declared.job.Receipt.TheVariants as receipt
use Rattle.norm_safety.specs.Events.{Event, Commanded, Delivered, Ticked, Offered, UpTaken, NewsAsked}
use Rattle.norm_safety.specs.OnceEach.{order_of}
use Rattle.norm_safety.specs.World.{World, world_opening, receiver_at, with_receiver, with_given, is_of, offers}
use Rattle.norm_safety.specs.WorldStep.{world_step, moved, node_move, receiver_move, run_from}
use Rattle.norm_safety.proofs.CommandSteps.{same_instances, where_free, first_none, no_parts}
use Rattle.norm_safety.proofs.EntryLemmas.{clash, ends, open_in, with_last_is}
use Rattle.norm_safety.proofs.SenderHolds.{OpenEnds, open_ends}
use Rattle.norm_safety.proofs.SenderKeeps.{Keeps, heard_keeps, ticked_keeps, told_keeps, struck_keeps}
use Rattle.norm_safety.proofs.SizedOrders.{Steady, mark_steady}

-- ---- an order

-- a stream ended, and its end is the last of its parts
pub record HasEnded (parts : List Part) : Type 0 where
  pub front : List Part
  pub is : parts ≡ front ++ End ∷ []
  pub unended : has_end front ≡ false

-- data, a file, or a stream that ended
abbrev pub IsDone : Object → Type 0
IsDone (Whole kind info octets) = ⊤
IsDone (Stream parts) = HasEnded parts

-- or a stream that did not end
abbrev pub MayEnd : Object → Type 0
MayEnd (Whole kind info octets) = ⊤
MayEnd (Stream parts) = HasEnded parts ⊎ (has_end parts ≡ false)

abbrev pub AreDone : List Entry → Type 0
AreDone order = AllByRecursion (λ (x : Entry). IsDone x.object) order

-- each entry is done, except the last, which may be an open stream
abbrev pub AreEnded : List Entry → Type 0
AreEnded [] = ⊤
AreEnded (x ∷ []) = MayEnd x.object
AreEnded (x ∷ y ∷ order) = IsDone x.object × AreEnded (y ∷ order)

pub front_done : (front : List Entry) (x : Entry) → AreEnded (front ++ x ∷ []) → AreDone front × MayEnd x.object
front_done [] x h = (tt, h)
front_done (y ∷ []) x h = ((h.0, tt), h.1)
front_done (y ∷ z ∷ front) x h = let more = front_done (z ∷ front) x h.1 in ((h.0, more.0), more.1)

done_ended : (front : List Entry) (x : Entry) → AreDone front → MayEnd x.object → AreEnded (front ++ x ∷ [])
done_ended [] x done h = h
done_ended (y ∷ []) x done h = (done.0, h)
done_ended (y ∷ z ∷ front) x done h = (done.0, done_ended (z ∷ front) x done.1 h)

done_more : (front : List Entry) (x : Entry) → AreDone front → IsDone x.object → AreDone (front ++ x ∷ [])
done_more [] x done h = (h, tt)
done_more (y ∷ front) x done h = (done.0, done_more front x done.1 h)

-- what is not open is done
closed_done : (o : Object) → open_parts o ≡ None → MayEnd o → IsDone o
closed_done (Whole kind info octets) none h = tt
closed_done (Stream parts) none (inl ended) = ended
closed_done (Stream parts) none (inr unended) = absurd (some_none (ap by (sym unended) ∙ none))
  where
    by : Bool → Option (List Part)
    by b = elim b [ true ↦ None | false ↦ Some parts ]

    some_none : Some parts ≡ None → ⊥
    some_none e = cc

-- the open stream's parts, by the entries from the last one on
abbrev last_open : List Entry → Option (List Part)
last_open entries = elim entries [ [] ↦ None | entry ∷ more ↦ open_parts entry.object ]

-- one more entry joins, if no stream is open
joined_order : (order : List Entry) (x : Entry) → open_in order ≡ None → MayEnd x.object → AreEnded order → AreEnded (order ++ x ∷ [])
joined_order order x none h all = go (ends order)
  where
    go : (order ≡ []) ⊎ ((front : List Entry) × (last : Entry) × (order ≡ front ++ last ∷ [])) → AreEnded (order ++ x ∷ [])
    go (inl is) = subst (λ (es : List Entry). AreEnded (es ++ x ∷ [])) (sym is) h
    go (inr (front, last, is)) =
        let seen : open_in (front ++ last ∷ []) ≡ open_parts last.object = ap last_open (reverse-append front (last ∷ [])) in
        let two = front_done front last (subst (λ (es : List Entry). AreEnded es) is all) in
        let done : IsDone last.object = closed_done last.object (sym seen ∙ sym (ap open_in is) ∙ none) two.1 in
        subst (λ (es : List Entry). AreEnded (es ++ x ∷ [])) (sym is) (done_ended (front ++ last ∷ []) x (done_more front last two.0 done) h)

-- an open stream gets one more part
still_open : (parts : List Part) (part : Part) → has_end (part ∷ []) ≡ false → has_end parts ≡ false → has_end (parts ++ part ∷ []) ≡ false
unfolding has_end
still_open [] part one e = one
still_open (Write by octets ∷ parts) part one e = still_open parts part one e
still_open (Cut ∷ parts) part one e = still_open parts part one e
still_open (End ∷ parts) part one e = absurd (clash (sym e))

pub cut_unended : (parts : List Part) → has_end parts ≡ false → has_end (parts ++ Cut ∷ []) ≡ false
unfolding has_end
cut_unended parts unended = still_open parts Cut refl unended

more_ends : (parts : List Part) (part : Part) → has_end parts ≡ false → MayEnd (Stream (parts ++ part ∷ []))
unfolding has_end
more_ends parts End unended = inl (record { front = parts; is = refl; unended = unended })
more_ends parts (Write by octets) unended = inr (still_open parts (Write by octets) refl unended)
more_ends parts Cut unended = inr (cut_unended parts unended)

grown_order : (s : SenderState) (part : Part) → OpenEnds s → AreEnded s.current.order
    → AreEnded (with_last (Stream (parts_now s ++ part ∷ [])) s.current.order)
grown_order s part last all =
    let x : Entry = record { by = last.own; object = Stream (parts_now s) } in
    let y : Entry = record { by = last.own; object = Stream (parts_now s ++ part ∷ []) } in
    let two = front_done last.front x (subst (λ (es : List Entry). AreEnded es) last.is all) in
    subst (λ (es : List Entry). AreEnded (with_last (Stream (parts_now s ++ part ∷ [])) es)) (sym last.is)
    (subst (λ (es : List Entry). AreEnded es) (sym (with_last_is (Stream (parts_now s ++ part ∷ [])) last.front x))
    (done_ended last.front y two.0 (more_ends (parts_now s) part last.unended)))

-- ---- all instances

abbrev AllEnded : List Instance → Type 0
AllEnded all = AllByRecursion (λ (i : Instance). AreEnded i.order) all

all_more : (all : List Instance) (i : Instance) → AllEnded all → AreEnded i.order → AllEnded (all ++ i ∷ [])
all_more [] i all one = (one, tt)
all_more (x ∷ more) i all one = (all.0, all_more more i all.1 one)

-- the last instance goes on
current_goes : (earlier : List Instance) (i j : Instance) → (AreEnded i.order → AreEnded j.order) → AllEnded (earlier ++ i ∷ []) → AllEnded (earlier ++ j ∷ [])
current_goes [] i j goes all = (goes all.0, tt)
current_goes (x ∷ earlier) i j goes all = (all.0, current_goes earlier i j goes all.1)

joined_ended : (p : Settings) (by : Origin) (object : Object) (s : SenderState) → open_stream s ≡ None → MayEnd object → AllEnded (instances s)
    → AllEnded (instances (joined p by object s))
joined_ended p by object s none h all =
    current_goes s.earlier s.current (joined p by object s).current (λ order. joined_order s.current.order (record { by = by; object = object }) none h order) all

grown_ended : (p : Settings) (s : SenderState) (part : Part) → is_none (open_stream s) ≡ false → AllEnded (instances s)
    → AllEnded (instances (grown p s (parts_now s ++ part ∷ [])))
grown_ended p s part there all =
    current_goes s.earlier s.current (grown p s (parts_now s ++ part ∷ [])).current (λ order. grown_order s part (open_ends s there) order) all

steady_ended : (p : Settings) (s t : SenderState) → Steady p s t → AllEnded (instances s) → AllEnded (instances t)
steady_ended p s t same all =
    subst (λ (is : List Instance). AllEnded is) (sym (ap (λ (xs : List Instance). xs ++ t.current ∷ []) same.earlier ∙ ap (λ (x : Instance). s.earlier ++ x ∷ []) same.current)) all

keeps_ended : (s t : SenderState) → Keeps s t → AllEnded (instances s) → AllEnded (instances t)
keeps_ended s t same all = subst (λ (is : List Instance). AllEnded is) (sym (same_instances s t same)) all

none_of : {X : Type 0} (o : Option X) → is_some o ≡ false → o ≡ None
none_of None e = refl
none_of (Some x) e = absurd (clash (sym e))

free_ended : (found : Option EnqueueFault) (s after : SenderState) (receipt : Receipt) → AllEnded (instances s)
    → (found ≡ None → AllEnded (instances after)) → AllEnded (instances (where_free found s after receipt).0)
free_ended None s after receipt all new = new refl
free_ended (Some fault) s after receipt all new = all

object_ended : (p : Settings) (by : Origin) (info : Option (List ℕ)) (octets : List ℕ) (object : Object) (s : SenderState) → MayEnd object
    → object_fault p s info octets ≡ None → AllEnded (instances s) → AllEnded (instances (joined p by object s))
object_ended p by info octets object s h none all =
    let first = first_none _ _ _ none in
    let second = first_none _ _ _ first.1 in
    let third = first_none _ _ _ second.1 in
    joined_ended p by object s (none_of (open_stream s) (first_none _ _ _ third.1).0) h all

-- there is nothing to cut, or the open stream gets a cut
abbrev pub CutsTo : Settings → SenderState → SenderState → Type 0
CutsTo p s t =
    ((t ≡ s) × (unclosed p.e (parts_now s) ≡ 0)) ⊎ ((is_none (open_stream s) ≡ false) × (t ≡ with_parts (parts_now s ++ Cut ∷ []) s))

pub cut_case : (p : Settings) (s : SenderState) → CutsTo p s (cut p s)
cut_case p s = go (is_none (open_stream s)) refl (unclosed p.e (parts_now s)) refl
  where
    cut_if : ℕ → SenderState
    cut_if n = elim n [ zero ↦ s | suc k ↦ with_parts (parts_now s ++ Cut ∷ []) s ]

    nothing : (o : Option (List Part)) → is_none o ≡ true → unclosed p.e (unwrap_or o []) ≡ 0
    nothing None e = no_parts p.e
    nothing (Some parts) e = absurd (clash e)

    go : (none : Bool) → is_none (open_stream s) ≡ none → (n : ℕ) → unclosed p.e (parts_now s) ≡ n → CutsTo p s (cut_if n)
    go none is zero e = inl (refl, e)
    go false is (suc n) e = inr (is, refl)
    go true is (suc n) e = absurd (let none = nothing (open_stream s) is in omega (arith, none, e))

cut_ended : (p : Settings) (s : SenderState) → AllEnded (instances s) → AllEnded (instances (cut p s))
cut_ended p s all = go (cut_case p s)
  where
    go : CutsTo p s (cut p s) → AllEnded (instances (cut p s))
    go (inl (same, none)) = subst (λ (t : SenderState). AllEnded (instances t)) (sym same) all
    go (inr (there, is)) =
        subst (λ (t : SenderState). AllEnded (instances t)) (sym is)
        (current_goes s.earlier s.current (with_parts (parts_now s ++ Cut ∷ []) s).current (λ order. grown_order s Cut (open_ends s there) order) all)

-- the state of a step
abbrev state_of : SenderState × Result Receipt SendFault → SenderState
state_of step = step.0

mark_ended : (p : Settings) (s : SenderState) (by : Origin) (quorum : Option ℕ) → AllEnded (instances s)
    → AllEnded (instances (answered Mark (cut_and_marked p s by quorum)).0)
mark_ended p s by quorum all =
    steady_ended p (cut p s) (answered Mark (cut_and_marked p s by quorum)).0
    (mark_steady p by quorum (cut p s) (last_source (current_shapes p (cut p s))) refl) (cut_ended p s all)

none_ended : has_end [] ≡ false
unfolding has_end
none_ended = refl

command_ended : (p : Settings) (s : SenderState) (by : Origin) (job : Job) → AllEnded (instances s) → AllEnded (instances (commanded p s by job).0)
command_ended p s by (job.Data info bytes) all =
    free_ended (object_fault p s info bytes) s (joined p by (Whole kind.Data info bytes) s) _ all
    (λ none. object_ended p by info bytes (Whole kind.Data info bytes) s tt none all)
command_ended p s by (job.File name bytes) all =
    free_ended (object_fault p s (Some name) bytes) s (joined p by (Whole kind.File (Some name) bytes) s) _ all
    (λ none. object_ended p by (Some name) bytes (Whole kind.File (Some name) bytes) s tt none all)
command_ended p s by job.Open all =
    free_ended (open_fault p s) s (joined p by (Stream []) s) _ all (λ none. (
    let first = first_none _ _ _ none in
    joined_ended p by (Stream []) s (none_of (open_stream s) (first_none _ _ _ first.1).0) (inr none_ended) all
    ))
command_ended p s by (job.Write bytes) all =
    free_ended (write_fault p s bytes (parts_now s ++ Write by bytes ∷ [])) s (grown p s (parts_now s ++ Write by bytes ∷ [])) _ all (λ none. (
    let first = first_none _ _ _ none in
    let second = first_none _ _ _ first.1 in
    grown_ended p s (Write by bytes) (first_none _ _ _ second.1).0 all
    ))
command_ended p s by job.Close all =
    free_ended (close_fault p s (parts_now s ++ End ∷ [])) s (grown p s (parts_now s ++ End ∷ [])) _ all
    (λ none. grown_ended p s End (first_none _ _ _ none).0 all)
command_ended p s by (job.Mark None) all = mark_ended p s by None all
command_ended p s by (job.Mark (Some q)) all = go (is_no_quorum p q)
  where
    go : (no : Bool) → AllEnded (instances (state_of (answered Mark (elim no [ true ↦ (s, Err (Quorum q)) | false ↦ cut_and_marked p s by (Some q) ]))))
    go true = all
    go false = mark_ended p s by (Some q) all
command_ended p s by (job.Restart id) all = go (is_used s id)
  where
    go : (used : Bool) → AllEnded (instances (state_of (elim used [
      | true ↦ (s, Err (IdUsed id))
      | false ↦ (begun_anew id s, Ok (receipt.Restarted id))
    ])))
    go true = all
    go false = all_more (instances s) (begun id) all tt
command_ended p s by (job.Strike node) all = go (strike_fault s node)
  where
    go : (found : Option StrikeFault) → AllEnded (instances (state_of (answered Strike (elim found [
      | Some fault ↦ (s, Err fault)
      | None ↦ (struck_off node s, Ok (receipt.Struck node))
    ]))))
    go (Some fault) = all
    go None = keeps_ended s (struck_off node s) (struck_keeps node s) all

-- ---- a run

given_ended : (node : ℕ) (datagram : Option Written) (w : World) → AllEnded (instances w.sender) → AllEnded (instances (with_given node datagram w).sender)
given_ended node None w all = all
given_ended node (Some datagram) w all = all

event_ended : (p : Settings) (w : World) (e : Event) → AllEnded (instances w.sender) → AllEnded (instances (world_step p w e).0.sender)
event_ended p w (Commanded by job now) all = command_ended p w.sender by job all
event_ended p w (Delivered node octets now draw) all = go (node == p.sender) (receiver_at w node)
  where
    go : (own : Bool) (found : Option ReceiverState)
        → AllEnded (instances (moved p w (node_move own found (sender.Delivered octets now) (receiver.Delivered octets now draw))).0.sender)
    go true found = keeps_ended w.sender (heard p w.sender octets now) (heard_keeps p w.sender octets now) all
    go false None = all
    go false (Some r) = all
event_ended p w (Ticked node now) all = go (node == p.sender) (receiver_at w node)
  where
    go : (own : Bool) (found : Option ReceiverState)
        → AllEnded (instances (moved p w (node_move own found (sender.Ticked now) (receiver.Ticked now))).0.sender)
    go true found =
        let step = sender_ticked p w.sender now in
        given_ended p.sender step.1 (record w { sender = step.0 }) (keeps_ended w.sender step.0 (ticked_keeps p w.sender now) all)
    go false None = all
    go false (Some r) = let step = receiver_ticked p r now in given_ended r.node step.1 (with_receiver step.0 w) all
event_ended p w (Offered node octets) all = go (find (is_of node octets) w.given)
  where
    go : (found : Option (ℕ × Written)) → AllEnded (instances (offers found node w).sender)
    go None = all
    go (Some o) = all
event_ended p w (UpTaken node) all = go (receiver_at w node)
  where
    go : (found : Option ReceiverState) → AllEnded (instances (moved p w (receiver_move found receiver.UpTaken)).0.sender)
    go None = all
    go (Some r) = all
event_ended p w NewsAsked all = keeps_ended w.sender (told w.sender).0 (told_keeps w.sender) all

run_ended : (p : Settings) (w : World) (events : List Event) → AllEnded (instances w.sender) → AllEnded (instances (run_from p w events).sender)
run_ended p w [] all = all
run_ended p w (e ∷ events) all = run_ended p (world_step p w e).0 events (event_ended p w e all)

ended_in : (all : List Instance) (id : ℕ) → AllEnded all
    → AreEnded (elim (find (λ (i : Instance). i.id == id) all) as (λ _. List Entry) [ Some i ↦ i.order | None ↦ [] ])
ended_in [] id all = tt
ended_in (x ∷ more) id all = go (x.id == id) (ended_in more id all.1)
  where
    rest : Option Instance
    rest = find (λ (i : Instance). i.id == id) more

    go : (b : Bool) → AreEnded (elim rest as (λ _. List Entry) [ Some i ↦ i.order | None ↦ [] ])
        → AreEnded (elim (cond b (Some x) rest) as (λ _. List Entry) [ Some i ↦ i.order | None ↦ [] ])
    go true others = all.0
    go false others = others

last_ended : (earlier : List Instance) (current : Instance) → AllEnded (earlier ++ current ∷ []) → AreEnded current.order
last_ended [] current all = all.0
last_ended (x ∷ earlier) current all = last_ended earlier current all.1

-- after any events, the orders of all instances are so, and the current one
pub orders_ended : (p : Settings) (events : List Event) (id : ℕ) → AreEnded (order_of (run_from p (world_opening p) events).sender id)
orders_ended p events id = ended_in (instances (run_from p (world_opening p) events).sender) id (run_ended p (world_opening p) events (tt, tt))

pub current_ended : (p : Settings) (events : List Event) → AreEnded (run_from p (world_opening p) events).sender.current.order
current_ended p events =
    let s : SenderState = (run_from p (world_opening p) events).sender in
    last_ended s.earlier s.current (run_ended p (world_opening p) events (tt, tt))
