-- Commands of data, files and marks alone: each leaves a sender in its instance, and one that repairs nothing goes on to repair nothing. So does
-- what a sender hears that is no NACK, and what it tells.
use Rattle.std.proofs.Common.{◌≡◌, ℕ, ◌+◌, List, [], ◌∷◌, ◌++◌, length, Bool, true, false, Option, None, Some, Result, Ok, Err, refl, sym, ap, ◌∙◌, subst}
use Rattle.std.specs.Prelude.{map, filter, not, ◌||◌, nat_lt, nat_le, ⊤}
use Rattle.std.specs.List.{AllByRecursion, list_any}
use Rattle.std.proofs.lemmas.Option.{none-some, same_Some}
use Rattle.norm_base.specs.Settings.{Settings}
use Rattle.norm_base.specs.declared.kinds.Kind.{Kind}
use Rattle.norm_base.specs.declared.kinds.Kind.TheVariants as kind
use Rattle.norm_base.specs.declared.node.Origin.{Origin}
use Rattle.fec_plan.specs.declared.position.Position.{Position}
use Rattle.norm_ext.specs.Message.{Message, Info, Data, Flush, Eot, Squelch, RepairAdv, AckReq, Opaque, Nack, Ack, Report, AckContent, Mark as Marks, Unread}
use Rattle.norm_ext.specs.declared.head.Item.{Item}
use Rattle.norm_order.specs.Entries.{Object, Whole}
use Rattle.norm_order.specs.Sets.{with_member}
use Rattle.norm_order.specs.Shapes.{is_source, last_source}
use Rattle.norm_script.specs.declared.script.Verb.{Verb}
use Rattle.norm_script.specs.declared.script.Verb.TheVariants as verb
use Rattle.norm_send_rules.specs.SenderState.{SenderState, Watermark}
use Rattle.norm_send_rules.specs.InWindow.{current_shapes, stands_behind}
use Rattle.norm_send_rules.specs.Commanding.{commanded, answered}
use Rattle.norm_send_rules.specs.Enqueuing.{object_fault, joined, enqueued}
use Rattle.norm_send_rules.specs.Hearing.{ack_counts, listed_past, rises, credited, credited_by, message_heard}
use Rattle.norm_send_rules.specs.Marking.{is_no_quorum, most_open, with_watermark, watermark_at, cut_and_marked}
use Rattle.norm_send_rules.specs.Room.{size_of, window, has_to_go, drop_after}
use Rattle.norm_send_rules.specs.Streaming.{cut}
use Rattle.norm_send_rules.specs.Telling.{told, past_news, done_news, listing_of}
use Rattle.norm_send_rules.specs.Watermarks.{keeps_oldest, counted_anew, settled, open_watermarks, watermark_of}
use Rattle.norm_send_rules.specs.declared.fault.EnqueueFault.{EnqueueFault}
use Rattle.norm_send_rules.specs.declared.fault.MarkFault.TheVariants.{TooMany, Quorum}
use Rattle.norm_send_rules.specs.declared.fault.SendFault.{SendFault}
use Rattle.norm_send_rules.specs.declared.fault.SendFault.TheVariants.{Enqueue, Mark}
use Rattle.norm_send_rules.specs.declared.job.Job.{Job}
use Rattle.norm_send_rules.specs.declared.job.Job.TheVariants as job
use Rattle.norm_send_rules.specs.declared.job.Receipt.{Receipt}
use Rattle.norm_send_rules.specs.declared.job.Receipt.TheVariants as receipt
use Rattle.norm_send_rules.specs.declared.news.News.{News}
use Rattle.norm_send_rules.specs.declared.want.Want.{Want}
use Rattle.norm_safety.specs.Events.{Event as WorldEvent, Commanded}
use Rattle.norm_safety.specs.Jobs.{IsOfObjects as IsEventOfObjects}
use Rattle.norm_safety.proofs.EntryLemmas.{clash}
use Rattle.norm_journal.specs.declared.event.Event.{Event}
use Rattle.norm_journal.specs.Follows.{IsJobOf}
use Rattle.norm_journal.specs.Jobs.{Told as Files, job_of}
use Rattle.norm_journal.specs.Judged.{judged_opening}
use Rattle.norm_journal.specs.SessionRun.{Begun}
use Rattle.norm_journal.specs.WorldEvents.{world_events}
use Rattle.norm_journal.proofs.LineLemmas.{Makes, begun_events}
use Rattle.norm_script.specs.Commands.{Commands}
use Rattle.norm_laws.proofs.WholeOrders.{AreWhole, none_open, cut_nothing}
use Rattle.norm_recovery.specs.Steady.{is_plain, IsPlain}
use Rattle.norm_recovery.specs.SteadyNothing.{AsksNothing}

-- ---- commands

-- a command is of data, of a file, or a mark
abbrev pub IsPlainJob : Job → Type 0
IsPlainJob (job.Data info bytes) = ⊤
IsPlainJob (job.File name bytes) = ⊤
IsPlainJob (job.Mark quorum) = ⊤
IsPlainJob _ = ⊥

-- so is each command of a run
abbrev pub IsPlainEvent : WorldEvent → Type 0
IsPlainEvent (Commanded by job now) = IsPlainJob job
IsPlainEvent _ = ⊤

plain_told : (files : Files) (v : Verb) (given : Job) → is_plain v ≡ true → IsJobOf files v given → IsPlainJob given
plain_told files (verb.Data info octets) (job.Data other bytes) is its = tt
plain_told files (verb.File name) (job.File other octets) is its = tt
plain_told files verb.Open job.Open is its = absurd (clash is)
plain_told files (verb.Write octets) (job.Write bytes) is its = absurd (clash is)
plain_told files verb.Close job.Close is its = absurd (clash is)
plain_told files (verb.Mark quorum) (job.Mark other) is its = tt
plain_told files (verb.Restart instance) (job.Restart other) is its = absurd (clash is)
plain_told files (verb.Strike node) (job.Strike other) is its = absurd (clash is)
plain_told files _ _ is its = absurd its

plain_known : (v : Verb) (given : Job) → is_plain v ≡ true → job_of v ≡ Some given → IsPlainJob given
plain_known (verb.Data info octets) given is its = subst IsPlainJob (same_Some (job.Data info octets) given its) tt
plain_known (verb.File name) given is its = absurd (none-some given its)
plain_known verb.Open given is its = absurd (clash is)
plain_known (verb.Write octets) given is its = absurd (clash is)
plain_known verb.Close given is its = absurd (clash is)
plain_known (verb.Mark quorum) given is its = subst IsPlainJob (same_Some (job.Mark quorum) given its) tt
plain_known (verb.Restart instance) given is its = absurd (clash is)
plain_known (verb.Strike node) given is its = absurd (clash is)

abbrev Whatever : Event → Type 0
Whatever e = ⊤

makes_plain : Makes IsPlain Whatever IsPlainEvent
makes_plain = record {
  told = λ files line by given gave now is its has. plain_told files line.verb given is its;
  known = λ line by given now is its. plain_known line.verb given is its;
  length = λ by name len now. tt;
  delivered = λ node octets now draw. tt;
  ticked = λ node now. tt;
  offered = λ node octets. tt;
  taken = λ node. tt;
  news = tt;
}

each_is : (events : List Event) → AllByRecursion Whatever events
each_is [] = tt
each_is (e ∷ events) = (tt, each_is events)

-- A script of data, files and marks alone gives the nodes no other command.
pub events_plain : (script : Commands) (files : Files) (nodes : List ℕ) (events : List Event) → AllByRecursion IsPlain script.lines
    → Begun script files nodes events → AllByRecursion IsPlainEvent (world_events (judged_opening script files nodes) events)
events_plain script files nodes events lines begun = begun_events IsPlain Whatever IsPlainEvent makes_plain script files nodes events lines begun (each_is events)

-- such a command opens no stream
pub plain_opens_none : (e : WorldEvent) → IsPlainEvent e → IsEventOfObjects e
plain_opens_none (Commanded by (job.Data info bytes) now) is = tt
plain_opens_none (Commanded by (job.File name bytes) now) is = tt
plain_opens_none (Commanded by job.Open now) is = absurd is
plain_opens_none (Commanded by (job.Write bytes) now) is = tt
plain_opens_none (Commanded by job.Close now) is = tt
plain_opens_none (Commanded by (job.Mark quorum) now) is = tt
plain_opens_none (Commanded by (job.Restart instance) now) is = tt
plain_opens_none (Commanded by (job.Strike node) now) is = tt
plain_opens_none _ is = tt

-- ---- what repairs nothing goes on to

-- the same instance, and what repairs nothing repairs nothing then
pub record KeepsCalm (s t : SenderState) : Type 0 where
  pub id : t.current.id ≡ s.current.id
  pub asks : AsksNothing s → AsksNothing t

calm_itself : (s : SenderState) → KeepsCalm s s
calm_itself s = record { id = refl; asks = λ h. h }

calm_both : (s t u : SenderState) → KeepsCalm s t → KeepsCalm t u → KeepsCalm s u
calm_both s t u h g = record { id = g.id ∙ h.id; asks = λ k. g.asks (h.asks k) }

anew_calm : (before s t : SenderState) → KeepsCalm s t → KeepsCalm s (counted_anew before t)
anew_calm before s t h = go (keeps_oldest before t)
  where
    go : (b : Bool) → KeepsCalm s (elim b as (λ _. SenderState) [ true ↦ t | false ↦ record t { flushes = 0 } ])
    go true = h
    go false = record { id = h.id; asks = λ k. (let g = h.asks k in record { round = g.round; wants = g.wants; squelch = g.squelch }) }

settled_calm : (s t : SenderState) → KeepsCalm s t → KeepsCalm s (settled t)
settled_calm s t h = record { id = h.id; asks = λ k. (let g = h.asks k in record { round = g.round; wants = g.wants; squelch = g.squelch }) }

joined_calm : (p : Settings) (by : Origin) (object : Object) (s : SenderState) → KeepsCalm s (joined p by object s)
joined_calm p by object s =
    let room = drop_after s.current.drop (has_to_go p (size_of p object) (window s)) in
    record {
      id = refl;
      asks = λ h. record {
        round = h.round;
        wants = ap (λ (ws : List Want). filter (stands_behind room) ws) h.wants;
        squelch = ap (λ (b : Bool). b || list_any (λ w. not (stands_behind room w)) s.wants) h.squelch
            ∙ ap (λ (ws : List Want). list_any (λ w. not (stands_behind room w)) ws) h.wants;
      };
    }

-- the state of a step
abbrev state_of : SenderState × Result Receipt SendFault → SenderState
state_of step = step.0

enqueue_calm : (p : Settings) (s : SenderState) (by : Origin) (kind : Kind) (info : Option (List ℕ)) (octets : List ℕ)
    → KeepsCalm s (answered Enqueue (enqueued p s by kind info octets)).0
enqueue_calm p s by kind info octets = go (object_fault p s info octets)
  where
    go : (found : Option EnqueueFault) → KeepsCalm s (state_of (answered Enqueue (elim found [
      | Some fault ↦ (s, Err fault)
      | None ↦ (joined p by (Whole kind info octets) s, Ok (receipt.Object (length s.current.order) (length octets)))
    ])))
    go (Some fault) = calm_itself s
    go None = joined_calm p by (Whole kind info octets) s

mark_calm : (p : Settings) (s : SenderState) (by : Origin) (quorum : Option ℕ) → cut p s ≡ s → KeepsCalm s (answered Mark (cut_and_marked p s by quorum)).0
mark_calm p s by quorum cuts =
    let C : SenderState → Type 0 = λ u. KeepsCalm s (answered Mark (watermark_at u by quorum (last_source (current_shapes p u)))).0 in
    subst C (sym cuts) (go (last_source (current_shapes p s)))
  where
    room : (at : Position) (full : Bool) → KeepsCalm s (state_of (answered Mark (elim full [
      | true ↦ (s, Err (TooMany (length (open_watermarks s))))
      | false ↦ (with_watermark s by quorum at, Ok (receipt.Mark (length s.watermarks + 1) at))
    ])))
    room at true = calm_itself s
    room at false =
        let w : Watermark = record { mark = length s.watermarks + 1; by = by; at = at; quorum = quorum; ended = None } in
        let marked : SenderState = record s { watermarks = s.watermarks ++ w ∷ [] } in
        anew_calm s s (settled marked)
        (settled_calm s marked (record { id = refl; asks = λ h. record { round = h.round; wants = h.wants; squelch = h.squelch } }))

    go : (at : Option Position) → KeepsCalm s (answered Mark (watermark_at s by quorum at)).0
    go None = calm_itself s
    go (Some at) = room at (nat_le most_open (length (open_watermarks s)))

-- A command of data, of a file or a mark, to a sender without streams.
pub command_calm : (p : Settings) (s : SenderState) (by : Origin) (job : Job) → IsPlainJob job → AreWhole s.current.order → KeepsCalm s (commanded p s by job).0
command_calm p s by (job.Data info bytes) is whole = enqueue_calm p s by kind.Data info bytes
command_calm p s by (job.File name bytes) is whole = enqueue_calm p s by kind.File (Some name) bytes
command_calm p s by job.Open is whole = absurd is
command_calm p s by (job.Write bytes) is whole = absurd is
command_calm p s by job.Close is whole = absurd is
command_calm p s by (job.Mark None) is whole = mark_calm p s by None (cut_nothing p s (none_open s.current.order whole))
command_calm p s by (job.Mark (Some q)) is whole = go (is_no_quorum p q)
  where
    go : (no : Bool) → KeepsCalm s (state_of (answered Mark (elim no [ true ↦ (s, Err (Quorum q)) | false ↦ cut_and_marked p s by (Some q) ])))
    go true = calm_itself s
    go false = mark_calm p s by (Some q) (cut_nothing p s (none_open s.current.order whole))
command_calm p s by (job.Restart instance) is whole = absurd is
command_calm p s by (job.Strike node) is whole = absurd is

-- ---- what is heard and told

where_calm : (b : Bool) (s t : SenderState) → KeepsCalm s t → KeepsCalm s (elim b as (λ _. SenderState) [ true ↦ t | false ↦ s ])
where_calm true s t h = h
where_calm false s t h = calm_itself s

credited_calm : (node : ℕ) (at : Position) (s : SenderState) → KeepsCalm s (credited node at s)
credited_calm node at s =
    let listed : SenderState = record s { listings = map (listed_past node at) s.listings; untold_nodes = with_member nat_lt node s.untold_nodes } in
    where_calm (rises node at s) s (counted_anew s (settled listed))
    (anew_calm s s (settled listed) (settled_calm s listed (record { id = refl; asks = λ h. record { round = h.round; wants = h.wants; squelch = h.squelch } })))

credited_by_calm : (p : Settings) (node : ℕ) (at : Option Position) (s : SenderState) → KeepsCalm s (credited_by p node at s)
credited_by_calm p node None s = calm_itself s
credited_by_calm p node (Some at) s = where_calm (is_source (current_shapes p s) at) s _ (credited_calm node at s)

content_calm : (p : Settings) (node : ℕ) (at : Item → Option Position) (s : SenderState) (c : AckContent)
    → KeepsCalm s (elim c as (λ _. SenderState) [ Marks item ↦ credited_by p node (at item) s | Unread octets ↦ s ])
content_calm p node at s (Marks item) = credited_by_calm p node (at item) s
content_calm p node at s (Unread octets) = calm_itself s

-- what is read of a datagram is no NACK
abbrev pub ReadsNoNack : {E : Type 0} → Result Message E → Type 0
ReadsNoNack (Ok (Nack m)) = ⊥
ReadsNoNack _ = ⊤

pub message_calm : {E : Type 0} (p : Settings) (s : SenderState) (now : ℕ) (r : Result Message E) → ReadsNoNack r → KeepsCalm s (message_heard p s now r)
message_calm p s now (Ok (Nack m)) is = absurd is
message_calm p s now (Ok (Ack m)) is = where_calm (ack_counts p s m) s _ (content_calm p m.source _ s m.content)
message_calm p s now (Ok (Info m)) is = calm_itself s
message_calm p s now (Ok (Data m)) is = calm_itself s
message_calm p s now (Ok (Flush m)) is = calm_itself s
message_calm p s now (Ok (Eot m)) is = calm_itself s
message_calm p s now (Ok (Squelch m)) is = calm_itself s
message_calm p s now (Ok (RepairAdv m)) is = calm_itself s
message_calm p s now (Ok (AckReq m)) is = calm_itself s
message_calm p s now (Ok (Opaque m)) is = calm_itself s
message_calm p s now (Ok (Report m)) is = calm_itself s
message_calm p s now (Err e) is = calm_itself s

pub told_calm : (s : SenderState) → KeepsCalm s (told s).0
told_calm s = go s.untold_nodes s.untold_marks
  where
    after : SenderState × Option News → SenderState
    after step = step.0

    go : (nodes marks : List ℕ) → KeepsCalm s (after (elim nodes [
      | node ∷ nodes ↦ (record s { untold_nodes = nodes }, past_news node (listing_of s node))
      | [] ↦ elim marks [
        | mark ∷ marks ↦ (record s { untold_marks = marks }, done_news s mark (watermark_of s mark))
        | [] ↦ (s, None)
      ]
    ]))
    go (node ∷ nodes) marks = record { id = refl; asks = λ h. record { round = h.round; wants = h.wants; squelch = h.squelch } }
    go [] (mark ∷ marks) = record { id = refl; asks = λ h. record { round = h.round; wants = h.wants; squelch = h.squelch } }
    go [] [] = calm_itself s
