-- The objects that a journal counts are the entries of its sender's orders.
use Rattle.std.proofs.Common.{◌≡◌, ℕ, zero, suc, ◌+◌, List, [], ◌∷◌, ◌++◌, length, Bool, true, false, Option, None, Some, Result, Ok, Err, refl, sym, ap, ◌∙◌, subst, arith}
use Rattle.std.specs.Prelude.{nat_le, ◌==◌, ⊤}
use Rattle.std.specs.Option.{option_to_list}
use Rattle.std.proofs.lemmas.List.{length-append}
use Rattle.std.proofs.lemmas.Option.{same_Some, option_and_then_some}
use Rattle.norm_base.specs.Settings.{Settings}
use Rattle.norm_base.specs.declared.kinds.Kind.TheVariants as kind
use Rattle.norm_base.specs.declared.node.Origin.{Origin}
use Rattle.fec_plan.specs.declared.position.Position.{Position}
use Rattle.norm_order.specs.Entries.{Part, Write, End, Cut, Object, Whole, Stream, Entry}
use Rattle.norm_order.specs.Segments.{unclosed}
use Rattle.norm_order.specs.Shapes.{last_source}
use Rattle.norm_order.specs.declared.up.Up.{Up}
use Rattle.norm_order.specs.declared.up.Up.TheVariants as up
use Rattle.norm_send_rules.specs.SenderState.{SenderState, Instance, begun}
use Rattle.norm_send_rules.specs.InWindow.{current_shapes}
use Rattle.norm_send_rules.specs.Commanding.{commanded, answered}
use Rattle.norm_send_rules.specs.Enqueuing.{object_fault, joined}
use Rattle.norm_send_rules.specs.Streaming.{open_fault, parts_now, with_last, with_parts, write_fault, close_fault, grown, cut}
use Rattle.norm_send_rules.specs.Marking.{is_no_quorum, most_open, with_watermark, watermark_at, cut_and_marked}
use Rattle.norm_send_rules.specs.Striking.{strike_fault, struck_off}
use Rattle.norm_send_rules.specs.Restarting.{instances, is_used, begun_anew}
use Rattle.norm_send_rules.specs.Hearing.{heard}
use Rattle.norm_send_rules.specs.Telling.{told}
use Rattle.norm_send_rules.specs.Ticking.{ticked}
use Rattle.norm_send_rules.specs.Watermarks.{open_watermarks}
use Rattle.norm_send_rules.specs.declared.fault.MarkFault.TheVariants.{Quorum, TooMany}
use Rattle.norm_send_rules.specs.declared.fault.SendFault.{SendFault}
use Rattle.norm_send_rules.specs.declared.fault.SendFault.TheVariants.{Enqueue, Mark, Strike, IdUsed}
use Rattle.norm_send_rules.specs.declared.job.Job.{Job}
use Rattle.norm_send_rules.specs.declared.job.Job.TheVariants as job
use Rattle.norm_send_rules.specs.declared.job.Receipt.{Receipt}
use Rattle.norm_send_rules.specs.declared.job.Receipt.TheVariants as receipt
use Rattle.norm_send_rules.specs.declared.news.News.{News}
use Rattle.norm_send_rules.specs.declared.news.News.TheVariants as news
use Rattle.norm_send_rules.specs.declared.news.Outcome.TheVariants as outcome
use Rattle.norm_send_rules.proofs.WantLemmas.{where_free}
use Rattle.norm_safety.specs.Events.{Event as WorldEvent, Commanded, Delivered, Ticked, Offered, UpTaken, NewsAsked, Gave}
use Rattle.norm_safety.specs.World.{World}
use Rattle.norm_safety.specs.WorldStep.{world_step, run_from}
use Rattle.norm_safety.proofs.CommandSteps.{marked_keeps}
use Rattle.norm_safety.proofs.SenderKeeps.{Keeps, heard_keeps, ticked_keeps, told_keeps, struck_keeps}
use Rattle.norm_journal.specs.declared.event.Event.{Event}
use Rattle.norm_journal.specs.declared.event.Event.TheVariants as event
use Rattle.norm_journal.specs.declared.totals.Totals.{Totals}
use Rattle.norm_journal.specs.Accepting.{accepts, judged_from}
use Rattle.norm_journal.specs.Draws.{next_draw}
use Rattle.norm_journal.specs.Jobs.{file_of_length}
use Rattle.norm_journal.specs.Judged.{Judged}
use Rattle.norm_journal.specs.Takes.{is_receiver}
use Rattle.norm_journal.specs.Totals.{with_gave, with_up, with_news}
use Rattle.norm_journal.specs.WorldEvents.{delivery, world_event}
use Rattle.norm_journal.proofs.FollowLemmas.{judges_what_follows}
use Rattle.norm_journal.proofs.WorldLemmas.{event_moves}
use Rattle.norm_laws.proofs.CountSender.{sender_after, sender_is}
use Rattle.norm_laws.proofs.CountSteps.{counted, follows_counts}
use Rattle.norm_laws.proofs.CountHandUps.{total, total_append, entries_of, entries}

-- ---- a command

-- the objects that a receipt counts
abbrev objects_in : Result Receipt SendFault → ℕ
objects_in (Ok (receipt.Object index len)) = 1
objects_in (Ok (receipt.Opened index)) = 1
objects_in _ = 0

-- a step adds the entries that its receipt counts
abbrev Counts : SenderState → SenderState × Result Receipt SendFault → Type 0
Counts s step = entries step.0 ≡ entries s + objects_in step.1

entries_are : (s : SenderState) → entries s ≡ total entries_of s.earlier + length s.current.order
entries_are s = let both = total_append entries_of s.earlier (s.current ∷ []) in omega (arith, both)

-- where the earlier instances stay, and the order is as long
as_long : (s t : SenderState) → t.earlier ≡ s.earlier → length t.current.order ≡ length s.current.order → entries t ≡ entries s
as_long s t earlier current =
    let old = entries_are s in
    let new = entries_are t in
    let before = ap (total entries_of) earlier in
    omega (arith, old, new, before, current)

kept_entries : (s t : SenderState) → Keeps s t → entries t ≡ entries s
kept_entries s t h = as_long s t h.earlier (ap (λ (i : Instance). length i.order) h.current)

joined_entries : (p : Settings) (by : Origin) (object : Object) (s : SenderState) → entries (joined p by object s) ≡ entries s + 1
joined_entries p by object s =
    let old = entries_are s in
    let new = entries_are (joined p by object s) in
    let more = length-append s.current.order (record { by = by; object = object } ∷ []) in
    omega (arith, old, new, more)

last_long : (object : Object) (order : List Entry) → length (with_last object order) ≡ length order
last_long object [] = refl
last_long object (entry ∷ []) = refl
last_long object (entry ∷ next ∷ order) = let more = last_long object (next ∷ order) in omega (arith, more)

grown_entries : (p : Settings) (s : SenderState) (parts : List Part) → entries (grown p s parts) ≡ entries s
grown_entries p s parts = as_long s (grown p s parts) refl (last_long (Stream parts) s.current.order)

cut_entries : (p : Settings) (s : SenderState) → entries (cut p s) ≡ entries s
cut_entries p s = go (unclosed p.e (parts_now s))
  where
    go : (k : ℕ) → entries (elim k as (λ _. SenderState) [ zero ↦ s | suc n ↦ with_parts (parts_now s ++ Cut ∷ []) s ]) ≡ entries s
    go zero = refl
    go (suc n) = as_long s (with_parts (parts_now s ++ Cut ∷ []) s) refl (last_long (Stream (parts_now s ++ Cut ∷ [])) s.current.order)

none_more : (n : ℕ) → n ≡ n + 0
none_more n = omega arith

-- a step that answers a receipt where there is no fault
free_counts : {F : Type 0} (word : F → SendFault) (found : Option F) (s after : SenderState) (gave : Receipt) → entries after ≡ entries s + objects_in (Ok gave)
    → Counts s (answered word (where_free found s after Err (Ok gave)))
free_counts word None s after gave h = h
free_counts word (Some fault) s after gave h = none_more (entries s)

mark_counts : (p : Settings) (s : SenderState) (by : Origin) (quorum : Option ℕ) → Counts s (answered Mark (cut_and_marked p s by quorum))
mark_counts p s by quorum = go (last_source (current_shapes p (cut p s)))
  where
    same : (t : SenderState) → entries t ≡ entries (cut p s) → entries t ≡ entries s + 0
    same t e = e ∙ cut_entries p s ∙ none_more (entries s)

    full : (b : Bool) (at : Position) → Counts s (answered Mark (elim b [
      | true ↦ (cut p s, Err (TooMany (length (open_watermarks (cut p s)))))
      | false ↦ (with_watermark (cut p s) by quorum at, Ok (receipt.Mark (length (cut p s).watermarks + 1) at))
    ]))
    full true at = same (cut p s) refl
    full false at =
        let kept = marked_keeps by (cut p s) quorum at in
        same (with_watermark (cut p s) by quorum at) (as_long (cut p s) (with_watermark (cut p s) by quorum at) kept.earlier (ap (λ (i : Instance). length i.order) kept.current))

    go : (found : Option Position) → Counts s (answered Mark (watermark_at (cut p s) by quorum found))
    go None = same (cut p s) refl
    go (Some at) = full (nat_le most_open (length (open_watermarks (cut p s)))) at

command_counts : (p : Settings) (s : SenderState) (by : Origin) (job : Job) → Counts s (commanded p s by job)
command_counts p s by (job.Data info bytes) =
    free_counts Enqueue (object_fault p s info bytes) s (joined p by (Whole kind.Data info bytes) s) _ (joined_entries p by (Whole kind.Data info bytes) s)
command_counts p s by (job.File name bytes) =
    free_counts Enqueue (object_fault p s (Some name) bytes) s (joined p by (Whole kind.File (Some name) bytes) s) _
    (joined_entries p by (Whole kind.File (Some name) bytes) s)
command_counts p s by job.Open = free_counts Enqueue (open_fault p s) s (joined p by (Stream []) s) _ (joined_entries p by (Stream []) s)
command_counts p s by (job.Write bytes) =
    let parts = parts_now s ++ Write by bytes ∷ [] in
    free_counts Enqueue (write_fault p s bytes parts) s (grown p s parts) _ (grown_entries p s parts ∙ none_more (entries s))
command_counts p s by job.Close =
    let parts = parts_now s ++ End ∷ [] in
    free_counts Enqueue (close_fault p s parts) s (grown p s parts) _ (grown_entries p s parts ∙ none_more (entries s))
command_counts p s by (job.Mark None) = mark_counts p s by None
command_counts p s by (job.Mark (Some q)) = go (is_no_quorum p q)
  where
    go : (b : Bool) → Counts s (answered Mark (elim b [ true ↦ (s, Err (Quorum q)) | false ↦ cut_and_marked p s by (Some q) ]))
    go true = none_more (entries s)
    go false = mark_counts p s by (Some q)
command_counts p s by (job.Restart id) = go (is_used s id)
  where
    go : (b : Bool) → Counts s (elim b [ true ↦ (s, Err (IdUsed id)) | false ↦ (begun_anew id s, Ok (receipt.Restarted id)) ])
    go true = none_more (entries s)
    go false = total_append entries_of (instances s) (begun id ∷ [])
command_counts p s by (job.Strike node) =
    free_counts Strike (strike_fault s node) s (struck_off node s) _ (kept_entries s (struck_off node s) (struck_keeps node s) ∙ none_more (entries s))

-- ---- other events of the world

-- the event is no command
abbrev IsNoCommand : Option WorldEvent → Type 0
IsNoCommand (Some (Commanded by job now)) = ⊥
IsNoCommand _ = ⊤

step_entries : (p : Settings) (w : World) (e : WorldEvent) → IsNoCommand (Some e) → entries (world_step p w e).0.sender ≡ entries w.sender
step_entries p w e none = ap entries (sender_is p w e) ∙ after e none
  where
    either : (b : Bool) (t : SenderState) → entries t ≡ entries w.sender → entries (elim b as (λ _. SenderState) [ true ↦ t | false ↦ w.sender ]) ≡ entries w.sender
    either true t e = e
    either false t e = refl

    after : (e : WorldEvent) → IsNoCommand (Some e) → entries (sender_after p w.sender e) ≡ entries w.sender
    after (Commanded by job now) none = absurd none
    after (Delivered node datagram now draw) none =
        either (node == p.sender) (heard p w.sender datagram now) (kept_entries w.sender (heard p w.sender datagram now) (heard_keeps p w.sender datagram now))
    after (Ticked node now) none =
        either (node == p.sender) (ticked p w.sender now).0 (kept_entries w.sender (ticked p w.sender now).0 (ticked_keeps p w.sender now))
    after (Offered node octets) none = refl
    after (UpTaken node) none = refl
    after NewsAsked none = kept_entries w.sender (told w.sender).0 (told_keeps w.sender)

events_entries : (p : Settings) (w : World) (o : Option WorldEvent) → IsNoCommand o → entries (run_from p w (option_to_list o)).sender ≡ entries w.sender
events_entries p w None none = refl
events_entries p w (Some e) none = step_entries p w e none

-- ---- a journal

-- the objects that were counted are the entries
abbrev pub AreCounted : Judged → Type 0
AreCounted j = entries j.world.sender ≡ j.totals.objects

gave_objects : (gave : Result Receipt SendFault) (t : Totals) → (with_gave gave t).objects ≡ t.objects + objects_in gave
gave_objects (Ok (receipt.Object index len)) t = refl
gave_objects (Ok (receipt.Opened index)) t = refl
gave_objects (Ok (receipt.Wrote index offset len)) t = none_more t.objects
gave_objects (Ok (receipt.Closed index)) t = none_more t.objects
gave_objects (Ok (receipt.Mark mark at)) t = none_more t.objects
gave_objects (Ok (receipt.Restarted instance)) t = none_more t.objects
gave_objects (Ok (receipt.Struck node)) t = none_more t.objects
gave_objects (Err fault) t = none_more t.objects

same_gave : (a b : Result Receipt SendFault) → Gave a ≡ Gave b → a ≡ b
same_gave a b e = cc

-- a command that gave this
given_counted : (p : Settings) (s : SenderState) (by : Origin) (job : Job) (gave : Result Receipt SendFault) (t : Totals) → Gave (commanded p s by job).1 ≡ Gave gave
    → entries s ≡ t.objects → entries (commanded p s by job).0 ≡ (with_gave gave t).objects
given_counted p s by job gave t gives h =
    let counts = command_counts p s by job in
    let same = ap objects_in (same_gave (commanded p s by job).1 gave gives) in
    let objects = gave_objects gave t in
    omega (arith, counts, same, objects, h)

quiet_counted : (j next : Judged) (e : Event) → accepts j e ≡ Some next → IsNoCommand (world_event j e) → ((t : Totals) → (counted e t).objects ≡ t.objects)
    → AreCounted j → AreCounted next
quiet_counted j next e is none same h =
    let moves = event_moves j e next is in
    let counts = follows_counts j next e ((judges_what_follows j next e).0 is) in
    ap (λ (w : World). entries w.sender) (sym moves.1) ∙ events_entries j.profile j.world (world_event j e) none ∙ h ∙ sym (same j.totals)
    ∙ ap (λ (t : Totals). t.objects) (sym counts)

up_objects : (up : Up) (t : Totals) → (with_up up t).objects ≡ t.objects
up_objects (up.Object index kind info octets) t = refl
up_objects (up.StreamEnd index) t = refl
up_objects (up.Lost index) t = refl
up_objects _ t = refl

news_objects : (n : News) (t : Totals) → (with_news n t).objects ≡ t.objects
news_objects (news.Done mark outcome.Satisfied) t = refl
news_objects (news.Done mark (outcome.Expired left)) t = refl
news_objects (news.Done mark outcome.Cut) t = refl
news_objects _ t = refl

no_command : (j : Judged) (to : ℕ) (octets : List ℕ) → IsNoCommand (delivery j to octets)
no_command j to octets = go (to == j.profile.sender) (is_receiver j to)
  where
    go : (own receives : Bool) → IsNoCommand (elim own [
      | true ↦ Some (Delivered to octets j.now 0)
      | false ↦ elim receives [ true ↦ Some (Delivered to octets j.now (next_draw j.draws)) | false ↦ None ]
    ])
    go true receives = tt
    go false true = tt
    go false false = tt

event_counted : (j next : Judged) (e : Event) → accepts j e ≡ Some next → AreCounted j → AreCounted next
event_counted j next (event.Job by told gave) is h =
    let f = ((judges_what_follows j next (event.Job by told gave)).0 is).1 in
    subst AreCounted (sym f.then) (given_counted j.profile j.world.sender by f.job gave j.totals f.gives h)
event_counted j next (event.Length by name len fault) is h =
    let f = ((judges_what_follows j next (event.Length by name len fault)).0 is).1 in
    subst AreCounted (sym f.then) (given_counted j.profile j.world.sender by (file_of_length name len) (Err fault) j.totals f.gives h)
event_counted j next event.Start is h = quiet_counted j next event.Start is tt (λ t. refl) h
event_counted j next (event.Turn turn now) is h = quiet_counted j next (event.Turn turn now) is tt (λ t. refl) h
event_counted j next (event.Pull by) is h = quiet_counted j next (event.Pull by) is tt (λ t. refl) h
event_counted j next (event.Tick node sent) is h = quiet_counted j next (event.Tick node sent) is tt (λ t. refl) h
event_counted j next (event.Offer from octets) is h = quiet_counted j next (event.Offer from octets) is tt (λ t. refl) h
event_counted j next (event.Took to octets) is h = quiet_counted j next (event.Took to octets) is (no_command j to octets) (λ t. refl) h
event_counted j next event.Empty is h = quiet_counted j next event.Empty is tt (λ t. refl) h
event_counted j next (event.Up node instance up) is h = quiet_counted j next (event.Up node instance up) is tt (up_objects up) h
event_counted j next (event.News change) is h = quiet_counted j next (event.News change) is tt (news_objects change) h
event_counted j next event.End is h = quiet_counted j next event.End is tt (λ t. refl) h

pub run_counted : (events : List Event) (j last : Judged) → judged_from j events ≡ Some last → AreCounted j → AreCounted last
unfolding judged_from
run_counted [] j last is h = subst AreCounted (same_Some j last is) h
run_counted (e ∷ events) j last is h =
    option_and_then_some (λ next. judged_from next events) (accepts j e) last is (λ next comes more. run_counted events next last more (event_counted j next e comes h))
