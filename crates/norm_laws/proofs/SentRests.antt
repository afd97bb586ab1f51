-- What is heard and told, and each command but a restart, leave what counts as sent.
use Rattle.std.proofs.Common.{◌≡◌, ℕ, zero, suc, ◌+◌, List, [], ◌∷◌, ◌++◌, length, Bool, true, false, Option, None, Some, Result, Ok, Err, refl, ap, ◌∙◌}
use Rattle.std.specs.Prelude.{map, nat_lt, nat_le}
use Rattle.norm_base.specs.Settings.{Settings}
use Rattle.norm_base.specs.declared.kinds.Kind.TheVariants as kind
use Rattle.norm_base.specs.declared.node.Origin.{Origin}
use Rattle.fec_plan.specs.declared.position.Position.{Position}
use Rattle.norm_ext.specs.Message.{Message, Info as InfoOf, Data, Flush, Eot, Squelch, RepairAdv, AckReq, Opaque, Nack, Ack, Report, AckContent, Mark as Marks, Unread}
use Rattle.norm_ext.specs.Reading.{decoded}
use Rattle.norm_ext.specs.Requests.{Request}
use Rattle.norm_ext.specs.declared.head.Item.{Item}
use Rattle.norm_order.specs.Entries.{Write, Cut, End, Whole, Stream}
use Rattle.norm_order.specs.Segments.{unclosed}
use Rattle.norm_order.specs.Sets.{with_member}
use Rattle.norm_order.specs.Shapes.{is_source, last_source}
use Rattle.norm_send_rules.specs.SenderState.{SenderState, Instance}
use Rattle.norm_send_rules.specs.InWindow.{current_shapes}
use Rattle.norm_send_rules.specs.Commanding.{commanded, answered}
use Rattle.norm_send_rules.specs.Enqueuing.{object_fault, joined}
use Rattle.norm_send_rules.specs.Hearing.{nack_counts, ack_counts, joined_round, listed_past, rises, credited, credited_by, message_heard, heard}
use Rattle.norm_send_rules.specs.Marking.{is_no_quorum, most_open, with_watermark, watermark_at, cut_and_marked}
use Rattle.norm_send_rules.specs.Restarting.{is_used, begun_anew}
use Rattle.norm_send_rules.specs.Streaming.{open_fault, parts_now, with_parts, write_fault, close_fault, grown, cut}
use Rattle.norm_send_rules.specs.Striking.{strike_fault, without_node, struck_off}
use Rattle.norm_send_rules.specs.Telling.{told, past_news, done_news, listing_of}
use Rattle.norm_send_rules.specs.Watermarks.{keeps_oldest, counted_anew, settled, open_watermarks, watermark_of}
use Rattle.norm_send_rules.specs.declared.fault.EnqueueFault.{EnqueueFault}
use Rattle.norm_send_rules.specs.declared.fault.MarkFault.TheVariants.{TooMany, Quorum}
use Rattle.norm_send_rules.specs.declared.fault.SendFault.{SendFault}
use Rattle.norm_send_rules.specs.declared.fault.SendFault.TheVariants.{Mark, Strike, IdUsed}
use Rattle.norm_send_rules.specs.declared.fault.StrikeFault.{StrikeFault}
use Rattle.norm_send_rules.specs.declared.job.Job.{Job}
use Rattle.norm_send_rules.specs.declared.job.Job.TheVariants as job
use Rattle.norm_send_rules.specs.declared.job.Receipt.{Receipt}
use Rattle.norm_send_rules.specs.declared.job.Receipt.TheVariants as receipt
use Rattle.norm_send_rules.specs.declared.news.News.{News}
use Rattle.norm_safety.proofs.CommandSteps.{where_free}

-- the same instance and next place, and the same counts as sent
pub record Leaves (s t : SenderState) : Type 0 where
  pub current : t.current ≡ s.current
  pub next : t.next ≡ s.next
  pub sent : t.sent ≡ s.sent
  pub infos : t.sent_infos ≡ s.sent_infos

-- the same instance, in which the same counts as sent
pub record Rests (s t : SenderState) : Type 0 where
  pub id : t.current.id ≡ s.current.id
  pub sent : t.sent ≡ s.sent
  pub infos : t.sent_infos ≡ s.sent_infos

leaves_itself : (s : SenderState) → Leaves s s
leaves_itself s = record { current = refl; next = refl; sent = refl; infos = refl }

where_leaves : (b : Bool) (s t : SenderState) → Leaves s t → Leaves s (elim b as (λ _. SenderState) [ true ↦ t | false ↦ s ])
where_leaves true s t h = h
where_leaves false s t h = leaves_itself s

pub anew_leaves : (before old new : SenderState) → Leaves old new → Leaves old (counted_anew before new)
anew_leaves before old new h = go (keeps_oldest before new)
  where
    go : (b : Bool) → Leaves old (elim b as (λ _. SenderState) [ true ↦ new | false ↦ record new { flushes = 0 } ])
    go true = h
    go false = record { current = h.current; next = h.next; sent = h.sent; infos = h.infos }

settled_leaves : (old new : SenderState) → Leaves old new → Leaves old (settled new)
settled_leaves old new h = record { current = h.current; next = h.next; sent = h.sent; infos = h.infos }

pub rests_itself : (s : SenderState) → Rests s s
rests_itself s = record { id = refl; sent = refl; infos = refl }

rests_of : (s t : SenderState) → Leaves s t → Rests s t
rests_of s t h = record { id = ap (λ (i : Instance). i.id) h.current; sent = h.sent; infos = h.infos }

rests_both : (s t u : SenderState) → Rests s t → Rests t u → Rests s u
rests_both s t u h g = record { id = g.id ∙ h.id; sent = g.sent ∙ h.sent; infos = g.infos ∙ h.infos }

-- ---- what is heard and told

joined_leaves : (p : Settings) (s : SenderState) (now : ℕ) (requests : List Request) → Leaves s (joined_round p s now requests)
joined_leaves p s now [] = leaves_itself s
joined_leaves p s now (r ∷ requests) = record { current = refl; next = refl; sent = refl; infos = refl }

credited_leaves : (node : ℕ) (at : Position) (s : SenderState) → Leaves s (credited node at s)
credited_leaves node at s =
    let listed : SenderState = record s { listings = map (listed_past node at) s.listings; untold_nodes = with_member nat_lt node s.untold_nodes } in
    where_leaves (rises node at s) s (counted_anew s (settled listed))
    (anew_leaves s s (settled listed) (settled_leaves s listed (record { current = refl; next = refl; sent = refl; infos = refl })))

credited_by_leaves : (p : Settings) (node : ℕ) (at : Option Position) (s : SenderState) → Leaves s (credited_by p node at s)
credited_by_leaves p node None s = leaves_itself s
credited_by_leaves p node (Some at) s = where_leaves (is_source (current_shapes p s) at) s _ (credited_leaves node at s)

content_leaves : (p : Settings) (node : ℕ) (at : Item → Option Position) (s : SenderState) (c : AckContent)
    → Leaves s (elim c as (λ _. SenderState) [ Marks item ↦ credited_by p node (at item) s | Unread octets ↦ s ])
content_leaves p node at s (Marks item) = credited_by_leaves p node (at item) s
content_leaves p node at s (Unread octets) = leaves_itself s

message_leaves : {E : Type 0} (p : Settings) (s : SenderState) (now : ℕ) (r : Result Message E) → Leaves s (message_heard p s now r)
message_leaves p s now (Ok (Nack m)) = where_leaves (nack_counts p s m) s _ (joined_leaves p s now m.requests)
message_leaves p s now (Ok (Ack m)) = where_leaves (ack_counts p s m) s _ (content_leaves p m.source _ s m.content)
message_leaves p s now (Ok (InfoOf m)) = leaves_itself s
message_leaves p s now (Ok (Data m)) = leaves_itself s
message_leaves p s now (Ok (Flush m)) = leaves_itself s
message_leaves p s now (Ok (Eot m)) = leaves_itself s
message_leaves p s now (Ok (Squelch m)) = leaves_itself s
message_leaves p s now (Ok (RepairAdv m)) = leaves_itself s
message_leaves p s now (Ok (AckReq m)) = leaves_itself s
message_leaves p s now (Ok (Opaque m)) = leaves_itself s
message_leaves p s now (Ok (Report m)) = leaves_itself s
message_leaves p s now (Err e) = leaves_itself s

pub heard_leaves : (p : Settings) (s : SenderState) (bytes : List ℕ) (now : ℕ) → Leaves s (heard p s bytes now)
heard_leaves p s bytes now = message_leaves p s now (decoded bytes)

pub told_leaves : (s : SenderState) → Leaves s (told s).0
told_leaves s = nodes s.untold_nodes
  where
    state_of : SenderState × Option News → SenderState
    state_of step = step.0

    marks : (ms : List ℕ) → Leaves s (state_of (elim ms [
      | mark ∷ more ↦ (record s { untold_marks = more }, done_news s mark (watermark_of s mark))
      | [] ↦ (s, None)
    ]))
    marks [] = leaves_itself s
    marks (mark ∷ more) = record { current = refl; next = refl; sent = refl; infos = refl }

    nodes : (ns : List ℕ) → Leaves s (state_of (elim ns [
      | node ∷ more ↦ (record s { untold_nodes = more }, past_news node (listing_of s node))
      | [] ↦ elim s.untold_marks [
        | mark ∷ more ↦ (record s { untold_marks = more }, done_news s mark (watermark_of s mark))
        | [] ↦ (s, None)
      ]
    ]))
    nodes (node ∷ more) = record { current = refl; next = refl; sent = refl; infos = refl }
    nodes [] = marks s.untold_marks

pub heard_rests : (p : Settings) (s : SenderState) (bytes : List ℕ) (now : ℕ) → Rests s (heard p s bytes now)
heard_rests p s bytes now = rests_of s (heard p s bytes now) (heard_leaves p s bytes now)

pub told_rests : (s : SenderState) → Rests s (told s).0
told_rests s = rests_of s (told s).0 (told_leaves s)

-- ---- a command

-- the same instance, in which the same counts as sent; or a new instance
pub data Goes (s : SenderState) : SenderState → Type 0 where
  Same : {t : SenderState} → Rests s t → Goes s t
  Anew : (id : ℕ) → is_used s id ≡ false → Goes s (begun_anew id s)

free_goes : (found : Option EnqueueFault) (s after : SenderState) (receipt : Receipt) → Rests s after → Goes s (where_free found s after receipt).0
free_goes None s after receipt h = Same h
free_goes (Some fault) s after receipt h = Same (rests_itself s)

cut_rests : (p : Settings) (s : SenderState) → Rests s (cut p s)
cut_rests p s = go (unclosed p.e (parts_now s))
  where
    go : (n : ℕ) → Rests s (elim n as (λ _. SenderState) [ zero ↦ s | suc k ↦ with_parts (parts_now s ++ Cut ∷ []) s ])
    go zero = rests_itself s
    go (suc n) = record { id = refl; sent = refl; infos = refl }

pub marked_leaves : (s : SenderState) (by : Origin) (quorum : Option ℕ) (found : Option Position) → Leaves s (answered Mark (watermark_at s by quorum found)).0
marked_leaves s by quorum found = at found
  where
    state_of : SenderState × Result Receipt SendFault → SenderState
    state_of step = step.0

    few : (at : Position) (many : Bool) → Leaves s (state_of (answered Mark (elim many [
      | true ↦ (s, Err (TooMany (length (open_watermarks s))))
      | false ↦ (with_watermark s by quorum at, Ok (receipt.Mark (length s.watermarks + 1) at))
    ])))
    few at true = leaves_itself s
    few at false =
        let asked : SenderState = record s {
          watermarks = s.watermarks ++ record { mark = length s.watermarks + 1; by = by; at = at; quorum = quorum; ended = None } ∷ [];
        } in
        anew_leaves s s (settled asked) (settled_leaves s asked (record { current = refl; next = refl; sent = refl; infos = refl }))

    at : (found : Option Position) → Leaves s (answered Mark (watermark_at s by quorum found)).0
    at None = leaves_itself s
    at (Some position) = few position (nat_le most_open (length (open_watermarks s)))

pub struck_leaves : (node : ℕ) (s : SenderState) → Leaves s (struck_off node s)
struck_leaves node s =
    anew_leaves s s (settled (without_node node s)) (settled_leaves s (without_node node s) (record { current = refl; next = refl; sent = refl; infos = refl }))

-- a cut, and a watermark behind it
cut_marked : (p : Settings) (s : SenderState) (by : Origin) (quorum : Option ℕ) → Rests s (answered Mark (cut_and_marked p s by quorum)).0
cut_marked p s by quorum =
    let at : Option Position = last_source (current_shapes p (cut p s)) in
    let after : SenderState = (answered Mark (watermark_at (cut p s) by quorum at)).0 in
    rests_both s (cut p s) after (cut_rests p s) (rests_of (cut p s) after (marked_leaves (cut p s) by quorum at))

pub command_goes : (p : Settings) (s : SenderState) (by : Origin) (job : Job) → Goes s (commanded p s by job).0
command_goes p s by (job.Data info bytes) =
    free_goes (object_fault p s info bytes) s (joined p by (Whole kind.Data info bytes) s) _ (record { id = refl; sent = refl; infos = refl })
command_goes p s by (job.File name bytes) =
    free_goes (object_fault p s (Some name) bytes) s (joined p by (Whole kind.File (Some name) bytes) s) _ (record { id = refl; sent = refl; infos = refl })
command_goes p s by job.Open = free_goes (open_fault p s) s (joined p by (Stream []) s) _ (record { id = refl; sent = refl; infos = refl })
command_goes p s by (job.Write bytes) =
    let parts = parts_now s ++ Write by bytes ∷ [] in free_goes (write_fault p s bytes parts) s (grown p s parts) _ (record { id = refl; sent = refl; infos = refl })
command_goes p s by job.Close =
    let parts = parts_now s ++ End ∷ [] in free_goes (close_fault p s parts) s (grown p s parts) _ (record { id = refl; sent = refl; infos = refl })
command_goes p s by (job.Mark None) = Same (cut_marked p s by None)
command_goes p s by (job.Mark (Some q)) = go (is_no_quorum p q)
  where
    state_of : SenderState × Result Receipt SendFault → SenderState
    state_of step = step.0

    go : (no : Bool) → Goes s (state_of (answered Mark (elim no [ true ↦ (s, Err (Quorum q)) | false ↦ cut_and_marked p s by (Some q) ])))
    go true = Same (rests_itself s)
    go false = Same (cut_marked p s by (Some q))
command_goes p s by (job.Restart id) = go (is_used s id) refl
  where
    state_of : SenderState × Result Receipt SendFault → SenderState
    state_of step = step.0

    go : (used : Bool) → is_used s id ≡ used → Goes s (state_of (elim used [ true ↦ (s, Err (IdUsed id)) | false ↦ (begun_anew id s, Ok (receipt.Restarted id)) ]))
    go true e = Same (rests_itself s)
    go false e = Anew id e
command_goes p s by (job.Strike node) = go (strike_fault s node)
  where
    state_of : SenderState × Result Receipt SendFault → SenderState
    state_of step = step.0

    go : (found : Option StrikeFault) → Goes s (state_of (answered Strike (elim found [
      | Some fault ↦ (s, Err fault)
      | None ↦ (struck_off node s, Ok (receipt.Struck node))
    ])))
    go (Some fault) = Same (rests_itself s)
    go None = Same (rests_of s (struck_off node s) (struck_leaves node s))
