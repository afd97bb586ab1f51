-- Each request of an open round came by a NACK of the run, in the instance that the sender is still in.
use Rattle.std.proofs.Common.{◌≡◌, ℕ, zero, suc, ◌+◌, ◌*◌, ◌%◌, ◌<◌, List, [], ◌∷◌, ◌++◌, length, map, Bool, true, false, Option, None, Some, Result, Ok, Err, refl, sym, ap, ◌∙◌, subst, append_assoc, append-nil, ◌⊎◌, inl, inr}
use Rattle.std.specs.Prelude.{Contains, nat_le, nat_lt, ◌==◌}
use Rattle.std.specs.List.{AllByRecursion}
use Rattle.std.proofs.lemmas.List.Elements.{Contains-append_left, Contains-push}
use Rattle.norm_base.specs.Settings.{Settings, InRange}
use Rattle.norm_base.specs.declared.kinds.Kind.TheVariants as kind
use Rattle.norm_base.specs.declared.node.Origin.{Origin}
use Rattle.fec_plan.specs.declared.position.Position.{Position}
use Rattle.norm_ext.specs.Asking.{item_named}
use Rattle.norm_ext.specs.Message.{Message, NackMessage, Nack, Ack, AckContent, Mark, Unread}
use Rattle.norm_ext.specs.Reading.{decoded}
use Rattle.norm_ext.specs.Requests.{Request}
use Rattle.norm_ext.specs.declared.refusal.Refusal.{Refusal}
use Rattle.norm_order.specs.Moments.{moment_after}
use Rattle.norm_order.specs.Entries.{Write, Cut, End, Whole, Stream}
use Rattle.norm_order.specs.Segments.{unclosed}
use Rattle.norm_order.specs.Shapes.{is_source, last_source}
use Rattle.norm_order.specs.Sets.{with_member}
use Rattle.norm_send_rules.specs.SenderState.{SenderState, Asked, Round, Watermark, sender_opening}
use Rattle.norm_send_rules.specs.InWindow.{current_shapes, last_index}
use Rattle.norm_send_rules.specs.Watermarks.{keeps_oldest, counted_anew, end_where, settled, open_watermarks, pending, watermark_of}
use Rattle.norm_send_rules.specs.Enqueuing.{object_fault, joined}
use Rattle.norm_send_rules.specs.Streaming.{open_fault, with_parts, parts_now, write_fault, close_fault, grown, cut}
use Rattle.norm_send_rules.specs.Marking.{is_no_quorum, most_open, with_watermark, watermark_at, cut_and_marked}
use Rattle.norm_send_rules.specs.Restarting.{is_used, begun_anew}
use Rattle.norm_send_rules.specs.Striking.{strike_fault, without_node, struck_off}
use Rattle.norm_send_rules.specs.Commanding.{commanded}
use Rattle.norm_send_rules.specs.Asking.{as_it_came}
use Rattle.norm_send_rules.specs.Hearing.{asked_now, nack_counts, ack_counts, joined_round, listed_past, rises, credited, credited_by, message_heard, heard}
use Rattle.norm_send_rules.specs.Sending.{behind, noted}
use Rattle.norm_send_rules.specs.Flushing.{expired}
use Rattle.norm_send_rules.specs.Telling.{told, past_news, done_news, listing_of}
use Rattle.norm_send_rules.specs.Reached.{IsReached}
use Rattle.norm_send_rules.specs.SenderStep as events
use Rattle.norm_send_rules.specs.SenderStep.{SenderEvent, Delivered, sender_step}
use Rattle.norm_send_rules.specs.declared.job.Job.{Job}
use Rattle.norm_send_rules.specs.declared.job.Job.TheVariants as job
use Rattle.norm_send_rules.specs.declared.news.News.{News}
use Rattle.norm_send_rules.specs.declared.news.Outcome.TheVariants.{Expired}
use Rattle.norm_send_rules.specs.declared.want.Want.{Want}
use Rattle.norm_send_rules.specs.declared.want.Want.TheVariants.{Info, Symbol}
use Rattle.norm_send_rules.proofs.AskingLemmas.{all_implied}
use Rattle.norm_send_rules.proofs.ReachedLemmas.{reached_laws}
use Rattle.norm_send_rules.proofs.ShapeLemmas.{blocks_of}
use Rattle.norm_send_rules.proofs.TickLemmas.{TickKeeps, tick_keeps}
use Rattle.norm_safety.specs.AsItCame.{after, asked_yet, AsksBy, CameByNack, RoundsAskAsItCame}
use Rattle.norm_safety.proofs.ShapesThen.{Grew, grew_both}
use Rattle.norm_safety.proofs.AsItCame.{Stays, Moves, by_fault, by_test, step_moves, order_then}

-- ---- what an event does to the round

-- the same round, or none
abbrev pub KeepsRound : SenderState → SenderState → Type 0
KeepsRound s t = (t.round ≡ s.round) ⊎ (t.round ≡ None)

anew_round : (old new : SenderState) → (counted_anew old new).round ≡ new.round
anew_round old new = go (keeps_oldest old new)
  where
    of : SenderState → Option Round
    of s = s.round

    go : (b : Bool) → of (elim b [ true ↦ new | false ↦ record new { flushes = 0 } ]) ≡ new.round
    go true = refl
    go false = refl

-- as a round is
abbrev IsRound : Option Round → SenderState → Type 0
IsRound round t = t.round ≡ round

cut_round : (p : Settings) (s : SenderState) → IsRound s.round (cut p s)
cut_round p s = go (unclosed p.e (parts_now s))
  where
    go : (n : ℕ) → IsRound s.round (elim n [ zero ↦ s | suc k ↦ with_parts (parts_now s ++ Cut ∷ []) s ])
    go zero = refl
    go (suc n) = refl

watermark_round : (s : SenderState) (by : Origin) (quorum : Option ℕ) (found : Option Position) → IsRound s.round (watermark_at s by quorum found).0
watermark_round s by quorum None = refl
watermark_round s by quorum (Some at) =
    let w : Watermark = record { mark = length s.watermarks + 1; by = by; at = at; quorum = quorum; ended = None } in
    by_test (IsRound s.round) (nat_le most_open (length (open_watermarks s))) (s, _) (with_watermark s by quorum at, _) (λ e. refl)
    (λ e. anew_round s (settled (record s { watermarks = s.watermarks ++ w ∷ [] })))

mark_round : (p : Settings) (s : SenderState) (by : Origin) (quorum : Option ℕ) → IsRound s.round (cut_and_marked p s by quorum).0
mark_round p s by quorum = watermark_round (cut p s) by quorum (last_source (current_shapes p (cut p s))) ∙ cut_round p s

command_round : (p : Settings) (s : SenderState) (by : Origin) (job : Job) → KeepsRound s (commanded p s by job).0
command_round p s by (job.Data info bytes) =
    by_fault (KeepsRound s) (object_fault p s info bytes) s (joined p by (Whole kind.Data info bytes) s) Err (Ok _) (inl refl) (λ e. inl refl)
command_round p s by (job.File name bytes) =
    by_fault (KeepsRound s) (object_fault p s (Some name) bytes) s (joined p by (Whole kind.File (Some name) bytes) s) Err (Ok _) (inl refl) (λ e. inl refl)
command_round p s by job.Open = by_fault (KeepsRound s) (open_fault p s) s (joined p by (Stream []) s) Err (Ok _) (inl refl) (λ e. inl refl)
command_round p s by (job.Write bytes) =
    let parts = parts_now s ++ Write by bytes ∷ [] in
    by_fault (KeepsRound s) (write_fault p s bytes parts) s (grown p s parts) Err (Ok _) (inl refl) (λ e. inl refl)
command_round p s by job.Close =
    let parts = parts_now s ++ End ∷ [] in
    by_fault (KeepsRound s) (close_fault p s parts) s (grown p s parts) Err (Ok _) (inl refl) (λ e. inl refl)
command_round p s by (job.Mark None) = inl (mark_round p s by None)
command_round p s by (job.Mark (Some q)) =
    by_test (KeepsRound s) (is_no_quorum p q) (s, _) (cut_and_marked p s by (Some q)) (λ e. inl refl) (λ e. inl (mark_round p s by (Some q)))
command_round p s by (job.Restart instance) =
    by_test (KeepsRound s) (is_used s instance) (s, _) (begun_anew instance s, _) (λ e. inl refl) (λ e. inr refl)
command_round p s by (job.Strike node) =
    by_fault (KeepsRound s) (strike_fault s node) s (struck_off node s) Err (Ok _) (inl refl) (λ e. inl (anew_round s (settled (without_node node s))))

round_then : (s t u : SenderState) → KeepsRound s t → u.round ≡ t.round → KeepsRound s u
round_then s t u (inl e) is = inl (is ∙ e)
round_then s t u (inr e) is = inr (is ∙ e)

noted_round : (w : Want) (s : SenderState) → (noted w s).round ≡ s.round
noted_round (Info index) s = refl
noted_round (Symbol at) s = refl

ticks_round : (p : Settings) (old : SenderState) → TickKeeps p (KeepsRound old)
ticks_round p old = record {
  closes = λ s r h. inr refl;
  squelched = λ s h. round_then old s (record s { squelch_due = false }) h refl;
  repaired = λ s w wants e h. round_then old s (record s { wants = wants }) h refl;
  goes_on = λ s w e h. round_then old s (record s { next = behind w }) h refl;
  notes = λ s w h. round_then old s (noted w s) h (noted_round w s);
  flushes = λ s now h. round_then old s (record s { flushes = s.flushes + 1; last_flush = Some now }) h refl;
  expires = λ s w e h. round_then old s (expired w.mark s) h
      (anew_round s (end_where (λ v. v.mark == w.mark) (λ v. Expired (length (pending s v.at))) s));
  spends = λ s moment h. round_then old s (record s { next_send = moment; sequence = (s.sequence + 1) % 65536 }) h refl;
}

told_round : (s : SenderState) → (told s).0.round ≡ s.round
told_round s = go s.untold_nodes s.untold_marks
  where
    news : List ℕ → List ℕ → SenderState × Option News
    news nodes marks = elim nodes [
      | node ∷ others ↦ (record s { untold_nodes = others }, past_news node (listing_of s node))
      | [] ↦ elim marks [
        | mark ∷ others ↦ (record s { untold_marks = others }, done_news s mark (watermark_of s mark))
        | [] ↦ (s, None)
      ]
    ]

    go : (nodes marks : List ℕ) → (news nodes marks).0.round ≡ s.round
    go (node ∷ nodes) marks = refl
    go [] (mark ∷ marks) = refl
    go [] [] = refl

-- a NACK that counts adds its requests
pub record Adds (p : Settings) (s t : SenderState) (datagram : List ℕ) : Type 0 where
  pub nack : NackMessage
  pub spells : decoded datagram ≡ Ok (Nack nack)
  pub counts : nack_counts p s nack ≡ true
  pub asked : asked_yet t ≡ asked_yet s ++ map (asked_now p s) nack.requests

credited_round : (node : ℕ) (at : Position) (s : SenderState) → IsRound s.round (credited node at s)
credited_round node at s = go (rises node at s)
  where
    risen : SenderState
    risen = record s { listings = map (listed_past node at) s.listings; untold_nodes = with_member nat_lt node s.untold_nodes }

    go : (b : Bool) → IsRound s.round (elim b [ true ↦ counted_anew s (settled risen) | false ↦ s ])
    go true = anew_round s (settled risen)
    go false = refl

credited_by_round : (p : Settings) (node : ℕ) (at : Option Position) (s : SenderState) → IsRound s.round (credited_by p node at s)
credited_by_round p node None s = refl
credited_by_round p node (Some at) s = go (is_source (current_shapes p s) at)
  where
    go : (b : Bool) → IsRound s.round (elim b [ true ↦ credited node at s | false ↦ s ])
    go true = credited_round node at s
    go false = refl

pub joined_asks : (p : Settings) (s : SenderState) (now : ℕ) (requests : List Request)
    → asked_yet (joined_round p s now requests) ≡ asked_yet s ++ map (asked_now p s) requests
joined_asks p s now [] = sym (append-nil (asked_yet s))
joined_asks p s now (r ∷ requests) = ap (λ (xs : List Asked). xs ++ map (asked_now p s) (r ∷ requests)) (go s.round)
  where
    at : Option Round → Round
    at round = elim round [ Some x ↦ x | None ↦ record { closes = moment_after now ((p.k + 1) * p.grtt); asked = [] } ]

    of : Option Round → List Asked
    of round = elim round [ Some x ↦ x.asked | None ↦ [] ]

    go : (round : Option Round) → (at round).asked ≡ of round
    go None = refl
    go (Some x) = refl

-- of a datagram: the round stays, or a NACK adds its requests
abbrev Heard : Settings → SenderState → List ℕ → SenderState → Type 0
Heard p s datagram t = KeepsRound s t ⊎ Adds p s t datagram

message_round : (p : Settings) (s : SenderState) (now : ℕ) (datagram : List ℕ) (read : Result Message Refusal) → decoded datagram ≡ read
    → Heard p s datagram (message_heard p s now read)
message_round p s now datagram (Ok (Nack m)) e = go (nack_counts p s m) refl
  where
    go : (b : Bool) → nack_counts p s m ≡ b → Heard p s datagram (elim b [ true ↦ joined_round p s now m.requests | false ↦ s ])
    go true is = inr (record { nack = m; spells = e; counts = is; asked = joined_asks p s now m.requests })
    go false is = inl (inl refl)
message_round p s now datagram (Ok (Ack m)) e = inl (inl (go (ack_counts p s m) m.content))
  where
    go : (b : Bool) (content : AckContent) → IsRound s.round (elim b [
      | true ↦ elim content [ Mark item ↦ credited_by p m.source (item_named p (last_index s) item) s | Unread octets ↦ s ]
      | false ↦ s
    ])
    go true (Mark item) = credited_by_round p m.source (item_named p (last_index s) item) s
    go true (Unread octets) = refl
    go false content = refl
message_round p s now datagram _ e = inl (inl refl)

-- The round stays, or ends; or a NACK that is delivered adds its requests.
abbrev pub StepRound : Settings → SenderState → SenderEvent → SenderState → Type 0
StepRound p s event t = KeepsRound s t ⊎ ((datagram : List ℕ) × (moment : ℕ) × (event ≡ Delivered datagram moment) × Adds p s t datagram)

pub step_round : (p : Settings) (s : SenderState) (event : SenderEvent) → StepRound p s event (sender_step p s event).0
step_round p s (events.Commanded by job now) = inl (command_round p s by job)
step_round p s (Delivered datagram now) = go (message_round p s now datagram (decoded datagram) refl)
  where
    go : Heard p s datagram (heard p s datagram now) → StepRound p s (Delivered datagram now) (heard p s datagram now)
    go (inl keeps) = inl keeps
    go (inr adds) = inr (datagram, now, refl, adds)
step_round p s (events.Ticked now) = inl (tick_keeps p (KeepsRound s) (ticks_round p s) s now (inl refl))
step_round p s events.NewsAsked = inl (inl (told_round s))

-- ---- a run

-- a request that came in a state of the run whose order grew at most since
record Came (p : Settings) (opening : SenderState) (events : List SenderEvent) (t : SenderState) (a : Asked) : Type 0 where
  before : List SenderEvent
  datagram : List ℕ
  moment : ℕ
  since : List SenderEvent
  run : events ≡ before ++ Delivered datagram moment ∷ since
  request : Request
  asks : AsksBy p (after p opening before) datagram request
  kept : a ≡ asked_now p (after p opening before) request
  id : t.current.id ≡ (after p opening before).current.id
  grew : Grew (current_shapes p (after p opening before)) (current_shapes p t)

after_last : (p : Settings) (s : SenderState) (events : List SenderEvent) (event : SenderEvent)
    → after p s (events ++ event ∷ []) ≡ (sender_step p (after p s events) event).0
unfolding after
after_last p s [] event = refl
after_last p s (e ∷ events) event = after_last p (sender_step p s e).0 events event

-- as the sender goes on in its instance
came_on : (p : Settings) (opening : SenderState) (done : List SenderEvent) (event : SenderEvent) (s t : SenderState) (a : Asked) → Stays p s t
    → Came p opening done s a → Came p opening (done ++ event ∷ []) t a
came_on p opening done event s t a stays h = record {
  before = h.before;
  datagram = h.datagram;
  moment = h.moment;
  since = h.since ++ event ∷ [];
  run = ap (λ (xs : List SenderEvent). xs ++ event ∷ []) h.run ∙ append_assoc h.before (Delivered h.datagram h.moment ∷ h.since) (event ∷ []);
  request = h.request;
  asks = h.asks;
  kept = h.kept;
  id = stays.id ∙ h.id;
  grew = grew_both (current_shapes p (after p opening h.before)) (current_shapes p s) (current_shapes p t) h.grew stays.grew;
}

all_append : {X : Type 0} (P : X → Type 0) (xs ys : List X) → AllByRecursion P xs → AllByRecursion P ys → AllByRecursion P (xs ++ ys)
all_append P [] ys these those = those
all_append P (x ∷ xs) ys these those = (these.0, all_append P xs ys these.1 those)

-- what holds of each element holds of what each becomes
all_elements : {X Y : Type 0} (P : Y → Type 0) (f : X → Y) (front xs : List X) → ((x : X) → Contains (front ++ xs) x → P (f x)) → AllByRecursion P (map f xs)
all_elements P f front [] each = tt
all_elements {X} P f front (x ∷ xs) each =
    let along = append_assoc front (x ∷ []) xs in
    let C : List X → Type 0 = λ all. (y : X) → Contains all y → P (f y) in (
      subst C (sym along) each x (Contains-append_left (front ++ x ∷ []) xs x (Contains-push front x)),
      all_elements P f (front ++ x ∷ []) xs (subst C (sym along) each),
    )

-- each request of the open round
abbrev AllCame : Settings → SenderState → List SenderEvent → SenderState → Type 0
AllCame p opening events t = AllByRecursion (Came p opening events t) (asked_yet t)

step_came : (p : Settings) → 0 < p.e → (opening : SenderState) (done : List SenderEvent) (event : SenderEvent)
    → let s = after p opening done in let t = (sender_step p s event).0 in
    AllCame p opening done s → AllCame p opening (done ++ event ∷ []) t
step_came p e_pos opening done event h = go (step_moves p e_pos s event) (step_round p s event)
  where
    s : SenderState
    s = after p opening done

    t : SenderState
    t = (sender_step p s event).0

    P : Asked → Type 0
    P a = Came p opening (done ++ event ∷ []) t a

    A : List Asked → Type 0
    A asked = AllByRecursion (Came p opening (done ++ event ∷ []) t) asked

    of : Option Round → List Asked
    of round = elim round [ Some r ↦ r.asked | None ↦ [] ]

    old : Stays p s t → A (asked_yet s)
    old stays = all_implied (Came p opening done s) (Came p opening (done ++ event ∷ []) t) (asked_yet s) (λ a. came_on p opening done event s t a stays) h

    go : Moves p s t → StepRound p s event t → A (asked_yet t)
    go (inr (id, unused, is)) round = subst A (sym (ap asked_yet is)) tt
    go (inl stays) (inl (inl same)) = subst A (sym (ap of same)) (old stays)
    go (inl stays) (inl (inr none)) = subst A (sym (ap of none)) tt
    go (inl stays) (inr (datagram, moment, is, adds)) =
        subst A (sym adds.asked)
        (all_append (Came p opening (done ++ event ∷ []) t) (asked_yet s) (map (asked_now p s) adds.nack.requests) (old stays)
        (all_elements (Came p opening (done ++ event ∷ []) t) (asked_now p s) [] adds.nack.requests (λ r has. record {
          before = done;
          datagram = datagram;
          moment = moment;
          since = [];
          run = ap (λ (e : SenderEvent). done ++ e ∷ []) is;
          request = r;
          asks = record { nack = adds.nack; spells = adds.spells; counts = adds.counts; has = has };
          kept = refl;
          id = stays.id;
          grew = stays.grew;
        })))

run_came : (p : Settings) → 0 < p.e → (opening : SenderState) (done more : List SenderEvent) → AllCame p opening done (after p opening done)
    → AllCame p opening (done ++ more) (after p opening (done ++ more))
run_came p e_pos opening done [] h =
    let A : List SenderEvent → Type 0 = λ xs. AllCame p opening xs (after p opening xs) in subst A (sym (append-nil done)) h
run_came p e_pos opening done (event ∷ more) h =
    let A : List SenderEvent → Type 0 = λ xs. AllCame p opening xs (after p opening xs) in
    let B : SenderState → Type 0 = λ t. AllCame p opening (done ++ event ∷ []) t in
    subst A (append_assoc done (event ∷ []) more)
    (run_came p e_pos opening (done ++ event ∷ []) more
    (subst B (sym (after_last p opening done event)) (step_came p e_pos opening done event h)))

pub reached_after : (p : Settings) → InRange p → (s : SenderState) (events : List SenderEvent) → IsReached p s → IsReached p (after p s events)
unfolding after
reached_after p range s [] h = h
reached_after p range s (event ∷ events) h = reached_after p range (sender_step p s event).0 events (reached_laws.always p s event range h)

pub rounds_ask : RoundsAskAsItCame
unfolding after
rounds_ask p instance events range =
    all_implied (Came p opening events (after p opening events)) (CameByNack p opening events) (asked_yet (after p opening events)) tells
    (run_came p (blocks_of p range).e_pos opening [] events tt)
  where
    opening : SenderState
    opening = sender_opening p instance

    tells : (a : Asked) → Came p opening events (after p opening events) a → CameByNack p opening events a
    tells a h = record {
      before = h.before;
      datagram = h.datagram;
      moment = h.moment;
      since = h.since;
      run = h.run;
      request = h.request;
      asks = h.asks;
      kept = h.kept;
      instance = h.id;
      order =
          ap (λ (x : Asked). as_it_came x (current_shapes p (after p opening events))) h.kept
          ∙ order_then p range (after p opening h.before) h.request (current_shapes p (after p opening events))
          (reached_after p range opening h.before (reached_laws.at_first p instance range)) h.grew;
    }
