-- What a step of the sender makes of its listings: they stay, some go, one rises to what was acknowledged, or all begin anew.
use Rattle.std.proofs.Common.{◌≡◌, ℕ, zero, suc, ◌+◌, cond, List, [], ◌∷◌, ◌++◌, length, map, Bool, true, false, Option, None, Some, Result, Ok, Err, refl, sym, ap, ◌∙◌, subst, arith}
use Rattle.std.specs.Prelude.{filter, not, nat_lt, nat_le, nat_eq, ◌==◌, ◌&&◌}
use Rattle.std.specs.List.{AllByRecursion, IsDistinct}
use Rattle.std.proofs.lemmas.Bool.Decides.{Decides-eqb}
use Rattle.std.proofs.lemmas.Option.{slice_get_within}
use Rattle.norm_base.specs.Settings.{Settings}
use Rattle.norm_base.specs.declared.kinds.Kind.TheVariants as kind
use Rattle.norm_base.specs.declared.node.Origin.{Origin}
use Rattle.fec_plan.specs.declared.position.Position.{Position}
use Rattle.fec_plan.specs.Points.{position}
use Rattle.norm_ext.specs.Asking.{item_named}
use Rattle.norm_ext.specs.Message.{Message, Info, Data, Flush, Eot, Squelch, RepairAdv, AckReq, Opaque, Nack, Ack, Report, NackMessage, AckMessage, AckContent, Mark, Unread}
use Rattle.norm_ext.specs.Reading.{decoded}
use Rattle.norm_ext.specs.Requests.{Request}
use Rattle.norm_ext.specs.Written.{Written}
use Rattle.norm_ext.specs.declared.refusal.Refusal.{Refusal}
use Rattle.norm_order.specs.Entries.{Write, End, Cut, Whole, Stream, Entry}
use Rattle.norm_order.specs.Segments.{unclosed}
use Rattle.norm_order.specs.Sets.{with_member}
use Rattle.norm_order.specs.Shapes.{is_source, last_source, closed_in}
use Rattle.norm_order.specs.declared.up.Up.{Up}
use Rattle.norm_receive_rules.specs.Nack.{item_of}
use Rattle.norm_send_rules.specs.SenderState.{SenderState, Listing, Watermark, unlisted}
use Rattle.norm_send_rules.specs.InWindow.{last_index, current_shapes}
use Rattle.norm_send_rules.specs.Watermarks.{members, has_member, is_past, pending, open_watermarks, keeps_oldest, counted_anew, end_where, settled, watermark_of}
use Rattle.norm_send_rules.specs.Enqueuing.{object_fault, joined}
use Rattle.norm_send_rules.specs.Streaming.{open_fault, parts_now, with_parts, write_fault, close_fault, grown, cut}
use Rattle.norm_send_rules.specs.Marking.{is_no_quorum, most_open, with_watermark, watermark_at, cut_and_marked}
use Rattle.norm_send_rules.specs.Striking.{strike_fault, without_node, struck_off}
use Rattle.norm_send_rules.specs.Restarting.{is_used, begun_anew}
use Rattle.norm_send_rules.specs.Commanding.{commanded}
use Rattle.norm_send_rules.specs.Hearing.{listed_past, rises, credited_at, credited_by, joined_round, nack_counts, ack_counts, is_for, ack_heard, message_heard, heard}
use Rattle.norm_send_rules.specs.Sending.{noted}
use Rattle.norm_send_rules.specs.Flushing.{expired}
use Rattle.norm_send_rules.specs.Ticking.{ticked}
use Rattle.norm_send_rules.specs.Telling.{listing_of, past_news, done_news, told}
use Rattle.norm_send_rules.specs.declared.job.Job.{Job}
use Rattle.norm_send_rules.specs.declared.job.Job.TheVariants as job
use Rattle.norm_send_rules.specs.declared.news.News.{News}
use Rattle.norm_send_rules.specs.declared.news.Outcome.TheVariants.{Expired}
use Rattle.norm_send_rules.specs.declared.want.Want.{Want}
use Rattle.norm_send_rules.specs.declared.want.Want.TheVariants.{Info as WantedInfo, Symbol}
use Rattle.norm_send_rules.proofs.TickLemmas.{TickKeeps, tick_keeps}
use Rattle.norm_send_rules.proofs.WantLemmas.{where_free, either}
use Rattle.norm_safety.specs.Lawful.{sender_knows, are_near}
use Rattle.norm_safety.specs.OnceEach.{order_of, instance_ids}
use Rattle.norm_safety.proofs.Acknowledged.{AckIs, AckTrue, AckTold}
use Rattle.norm_safety.proofs.EntryLemmas.{clash}
use Rattle.norm_safety.proofs.ReceiverMoves.{near_named}
use Rattle.norm_safety.proofs.SenderHolds.{SenderHolds}
use Rattle.norm_safety.proofs.Spoken.{current_order, entry_with}
use Rattle.norm_safety.proofs.Stood.{Stood, Due}

-- A claim of each listing goes on: in the same instance; or a new one begins, where members are listed past nothing.
pub data ListsGo (P : Listing → Type 0) (s t : SenderState) : Type 0 where
  Goes : t.current.id ≡ s.current.id → (AllByRecursion P s.listings → AllByRecursion P t.listings) → ListsGo P s t
  Anew : AllByRecursion (λ (l : Listing). l.past ≡ None) t.listings → ListsGo P s t

goes_same : (P : Listing → Type 0) (s : SenderState) → ListsGo P s s
goes_same P s = Goes refl (λ all. all)

-- ---- commands

by_fault : {F A : Type 0} (P : Listing → Type 0) (found : Option F) (s after : SenderState) (refused : F → A) (given : A) → ListsGo P s after
    → ListsGo P s (where_free found s after refused given).0
by_fault P None s after refused given k = k
by_fault P (Some fault) s after refused given k = goes_same P s

by_test : {A : Type 0} (P : Listing → Type 0) (b : Bool) (s : SenderState) (t u : SenderState × A) → ListsGo P s t.0 → ListsGo P s u.0 → ListsGo P s (either b t u).0
by_test P true s t u h k = h
by_test P false s t u h k = k

counted_lists : (P : Listing → Type 0) (old s t : SenderState) → ListsGo P s t → ListsGo P s (counted_anew old t)
counted_lists P old s t h = go (keeps_oldest old t)
  where
    flushed_anew : ListsGo P s t → ListsGo P s (record t { flushes = 0 })
    flushed_anew (Goes same all) = Goes same all
    flushed_anew (Anew none) = Anew none

    go : (b : Bool) → ListsGo P s (elim b [ true ↦ t | false ↦ record t { flushes = 0 } ])
    go true = h
    go false = flushed_anew h

cut_fields : (p : Settings) (s : SenderState) → ((cut p s).listings ≡ s.listings) × ((cut p s).current.id ≡ s.current.id)
cut_fields p s = go (unclosed p.e (parts_now s))
  where
    cut_by : ℕ → SenderState
    cut_by n = elim n [ zero ↦ s | suc n ↦ with_parts (parts_now s ++ Cut ∷ []) s ]

    go : (n : ℕ) → ((cut_by n).listings ≡ s.listings) × ((cut_by n).current.id ≡ s.current.id)
    go zero = (refl, refl)
    go (suc n) = (refl, refl)

watermark_lists : (P : Listing → Type 0) (s : SenderState) (by : Origin) (quorum : Option ℕ) (found : Option Position) → ListsGo P s (watermark_at s by quorum found).0
watermark_lists P s by quorum None = goes_same P s
watermark_lists P s by quorum (Some at) =
    let w : Watermark = record { mark = length s.watermarks + 1; by = by; at = at; quorum = quorum; ended = None } in
    let more : SenderState = record s { watermarks = s.watermarks ++ w ∷ [] } in
    by_test P (nat_le most_open (length (open_watermarks s))) s (s, _) (with_watermark s by quorum at, _) (goes_same P s)
    (counted_lists P s s (settled more) (Goes refl (λ all. all)))

mark_lists : (p : Settings) (P : Listing → Type 0) (s : SenderState) (by : Origin) (quorum : Option ℕ) → ListsGo P s (cut_and_marked p s by quorum).0
mark_lists p P s by quorum = go (watermark_lists P (cut p s) by quorum (last_source (current_shapes p (cut p s))))
  where
    go : {t : SenderState} → ListsGo P (cut p s) t → ListsGo P s t
    go (Goes same all) =
        Goes (same ∙ (cut_fields p s).1) (let A : List Listing → Type 0 = λ ls. AllByRecursion P ls in λ h. all (subst A (sym (cut_fields p s).0) h))
    go (Anew none) = Anew none

-- some listings go
fewer : (P : Listing → Type 0) (test : Listing → Bool) (ls : List Listing) → AllByRecursion P ls → AllByRecursion P (filter test ls)
fewer P test [] all = tt
fewer P test (l ∷ ls) all = go (test l) (fewer P test ls all.1)
  where
    go : (b : Bool) → AllByRecursion P (filter test ls) → AllByRecursion P (cond b (l ∷ filter test ls) (filter test ls))
    go true more = (all.0, more)
    go false more = more

none_listed : (nodes : List ℕ) → AllByRecursion (λ (l : Listing). l.past ≡ None) (unlisted nodes)
none_listed [] = tt
none_listed (node ∷ nodes) = (refl, none_listed nodes)

pub command_lists : (p : Settings) (P : Listing → Type 0) (s : SenderState) (by : Origin) (job : Job) → ListsGo P s (commanded p s by job).0
command_lists p P s by (job.Data info bytes) =
    by_fault P (object_fault p s info bytes) s (joined p by (Whole kind.Data info bytes) s) Err (Ok _) (Goes refl (λ all. all))
command_lists p P s by (job.File name bytes) =
    by_fault P (object_fault p s (Some name) bytes) s (joined p by (Whole kind.File (Some name) bytes) s) Err (Ok _) (Goes refl (λ all. all))
command_lists p P s by job.Open = by_fault P (open_fault p s) s (joined p by (Stream []) s) Err (Ok _) (Goes refl (λ all. all))
command_lists p P s by (job.Write bytes) =
    let parts = parts_now s ++ Write by bytes ∷ [] in by_fault P (write_fault p s bytes parts) s (grown p s parts) Err (Ok _) (Goes refl (λ all. all))
command_lists p P s by job.Close =
    let parts = parts_now s ++ End ∷ [] in by_fault P (close_fault p s parts) s (grown p s parts) Err (Ok _) (Goes refl (λ all. all))
command_lists p P s by (job.Mark None) = mark_lists p P s by None
command_lists p P s by (job.Mark (Some q)) =
    by_test P (is_no_quorum p q) s (s, _) (cut_and_marked p s by (Some q)) (goes_same P s) (mark_lists p P s by (Some q))
command_lists p P s by (job.Restart id) =
    by_test P (is_used s id) s (s, _) (begun_anew id s, _) (goes_same P s) (Anew (none_listed (members s)))
command_lists p P s by (job.Strike node) =
    by_fault P (strike_fault s node) s (struck_off node s) Err (Ok _)
    (counted_lists P s s (settled (without_node node s)) (Goes refl (λ all. fewer P (λ (l : Listing). not (l.node == node)) s.listings all)))

-- ---- a tick, and news

-- along a tick the listings stay, and the instance
abbrev Stay : SenderState → SenderState → Type 0
Stay s t = (t.listings ≡ s.listings) × (t.current ≡ s.current)

noted_stay : (s t : SenderState) (w : Want) → Stay s t → Stay s (noted w t)
noted_stay s t (WantedInfo index) h = h
noted_stay s t (Symbol at) h = h

expired_stay : (s t : SenderState) (mark : ℕ) → Stay s t → Stay s (expired mark t)
expired_stay s t mark h = go (keeps_oldest t ended)
  where
    ended : SenderState
    ended = end_where (λ v. v.mark == mark) (λ v. Expired (length (pending t v.at))) t

    go : (b : Bool) → Stay s (elim b [ true ↦ ended | false ↦ record ended { flushes = 0 } ])
    go true = h
    go false = h

stay_along : (p : Settings) (s : SenderState) → TickKeeps p (Stay s)
stay_along p s = record {
  closes = λ t r h. h;
  squelched = λ t h. h;
  repaired = λ t w wants e h. h;
  goes_on = λ t w e h. h;
  notes = λ t w h. noted_stay s t w h;
  flushes = λ t now h. h;
  expires = λ t w e h. expired_stay s t w.mark h;
  spends = λ t moment h. h;
}

pub tick_stays : (p : Settings) (s : SenderState) (now : ℕ) → (ticked p s now).0.listings ≡ s.listings
tick_stays p s now = (tick_keeps p (Stay s) (stay_along p s) s now (refl, refl)).0

-- the state of a step that tells news
abbrev news_of : SenderState × Option News → SenderState
news_of step = step.0

pub told_stays : (s : SenderState) → (told s).0.listings ≡ s.listings
told_stays s = nodes s.untold_nodes
  where
    marks : (ms : List ℕ) (news : ℕ → Option News) → (news_of (elim ms [
      | mark ∷ more ↦ (record s { untold_marks = more }, news mark)
      | [] ↦ (s, None)
    ])).listings ≡ s.listings
    marks [] news = refl
    marks (mark ∷ more) news = refl

    nodes : (ns : List ℕ) → (news_of (elim ns [
      | node ∷ more ↦ (record s { untold_nodes = more }, past_news node (listing_of s node))
      | [] ↦ elim s.untold_marks [
        | mark ∷ more ↦ (record s { untold_marks = more }, done_news s mark (watermark_of s mark))
        | [] ↦ (s, None)
      ]
    ])).listings ≡ s.listings
    nodes (node ∷ more) = refl
    nodes [] = marks s.untold_marks (λ mark. done_news s mark (watermark_of s mark))

-- ---- what is heard

-- a claim of listings, by what was handed up
abbrev pub ListedDue : Settings → List Entry → (ℕ → List Up) → Listing → Type 0
ListedDue p order handed l = Due p order (handed l.node) l.past

risen_due : (p : Settings) (order : List Entry) (handed : ℕ → List Up) (node : ℕ) (at : Position) (ls : List Listing) → Stood p order (handed node) at
    → AllByRecursion (ListedDue p order handed) ls → AllByRecursion (ListedDue p order handed) (map (listed_past node at) ls)
risen_due p order handed node at [] stood all = tt
risen_due p order handed node at (l ∷ ls) stood all = (go (l.node == node) refl (is_past at l), risen_due p order handed node at ls stood all.1)
  where
    risen : Bool → Bool → Listing
    risen b c = elim (b && c) [ true ↦ l | false ↦ elim b [ true ↦ record l { past = Some at } | false ↦ l ] ]

    go : (b : Bool) → (l.node == node) ≡ b → (c : Bool) → ListedDue p order handed (risen b c)
    go true e true = all.0
    go true e false = (let S : ℕ → Type 0 = λ n. Stood p order (handed n) at in subst S (sym ((Decides-eqb l.node node).0 e)) stood)
    go false e c = all.0

credited_due : (p : Settings) (order : List Entry) (handed : ℕ → List Up) (node : ℕ) (at : Position) (s : SenderState) → Stood p order (handed node) at
    → AllByRecursion (ListedDue p order handed) s.listings → AllByRecursion (ListedDue p order handed) (credited_at p node at s).listings
credited_due p order handed node at s stood all = go (is_source (current_shapes p s) at) (rises node at s)
  where
    risen : SenderState
    risen = record s { listings = map (listed_past node at) s.listings; untold_nodes = with_member nat_lt node s.untold_nodes }

    later : Bool → SenderState
    later b = elim b [ true ↦ settled risen | false ↦ record (settled risen) { flushes = 0 } ]

    counted : (b : Bool) → AllByRecursion (ListedDue p order handed) (later b).listings
    counted true = risen_due p order handed node at s.listings stood all
    counted false = risen_due p order handed node at s.listings stood all

    left : Bool → Bool → SenderState
    left b c = elim b [ true ↦ elim c [ true ↦ counted_anew s (settled risen) | false ↦ s ] | false ↦ s ]

    go : (b c : Bool) → AllByRecursion (ListedDue p order handed) (left b c).listings
    go true true = counted (keeps_oldest s (settled risen))
    go true false = all
    go false c = all

joined_stays : (p : Settings) (s : SenderState) (now : ℕ) (requests : List Request) → (joined_round p s now requests).listings ≡ s.listings
joined_stays p s now [] = refl
joined_stays p s now (r ∷ requests) = refl

both : (a b : Bool) → (a && b) ≡ true → (a ≡ true) × (b ≡ true)
both true b e = (refl, e)
both false b e = absurd (clash e)

-- an acknowledgement that was said truly, and comes in time, lists its node truly
ack_due : (p : Settings) (s : SenderState) (handed : ℕ → ℕ → List Up) (indices : List ℕ) (m : AckMessage) → SenderHolds p s → IsDistinct nat_eq (instance_ids s)
    → AckIs p s handed indices m → are_near (sender_knows s (Ack m)) indices ≡ true
    → AllByRecursion (ListedDue p (order_of s s.current.id) (λ node. handed node s.current.id)) s.listings
    → AllByRecursion (ListedDue p (order_of s s.current.id) (λ node. handed node s.current.id)) (ack_heard p s m).listings
ack_due p s handed indices m holds differ told near all = go (ack_counts p s m) refl
  where
    P : Listing → Type 0
    P l = ListedDue p (order_of s s.current.id) (λ node. handed node s.current.id) l

    at : Position
    at = told.at

    known : Bool → Option ℕ
    known b = elim b [ true ↦ Some (last_index s) | false ↦ None ]

    by_content : AckContent → SenderState
    by_content content = elim content [ Mark item ↦ credited_by p m.source (item_named p (last_index s) item) s | Unread octets ↦ s ]

    place : Option ℕ → Option Position
    place found = elim found [ Some index ↦ Some (position index told.at.block told.at.symbol) | None ↦ None ]

    counts : ack_counts p s m ≡ true → AllByRecursion (ListedDue p (order_of s s.current.id) (λ node. handed node s.current.id)) (by_content m.content).listings
    counts e =
        let for = both (m.sender == p.sender) (m.instance == s.current.id) (both (has_member m.source s) (is_for p s m.sender m.instance) e).1 in
        let same : m.instance ≡ s.current.id = (Decides-eqb m.instance s.current.id).0 for.1 in
        let S : ℕ → Type 0 = λ id. Stood p (order_of s id) (handed m.source id) told.at in
        let stood = subst S same told.stood in
        let O : List Entry → Type 0 = λ order. Stood p order (handed m.source s.current.id) told.at in
        let current = subst O (current_order s differ) stood in
        let found = entry_with p s.current.order told.at.index (λ x. nat_lt told.at.symbol (closed_in x told.at.block)) current.0 in
        let within = slice_get_within s.current.order told.at.index found.0 found.1 in
        let close : are_near (Some (last_index s)) (told.at.index ∷ []) ≡ true =
        ap (λ (b : Bool). are_near (known b) (told.at.index ∷ [])) (sym for.1) ∙ ap (λ (xs : List ℕ). are_near (sender_knows s (Ack m)) xs) (sym told.alone) ∙ near in
        let names = near_named p (last_index s) (item_of p told.at).object told.at.index refl (omega (arith, within, holds.many)) close in
        let L : SenderState → Type 0 = λ t. AllByRecursion (ListedDue p (order_of s s.current.id) (λ node. handed node s.current.id)) t.listings in
        let step : by_content m.content ≡ credited_at p m.source told.at s =
        ap by_content told.content ∙ ap (λ (found : Option ℕ). credited_by p m.source (place found) s) names in
        subst L (sym step) (credited_due p (order_of s s.current.id) (λ node. handed node s.current.id) m.source told.at s stood all)

    left : Bool → SenderState
    left b = elim b [ true ↦ by_content m.content | false ↦ s ]

    go : (b : Bool) → ack_counts p s m ≡ b → AllByRecursion (ListedDue p (order_of s s.current.id) (λ node. handed node s.current.id)) (left b).listings
    go true e = counts e
    go false e = all

-- What is heard of a datagram whose acknowledgement is true lists nodes truly.
pub heard_due : (p : Settings) (s : SenderState) (handed : ℕ → ℕ → List Up) (o : Written) (bytes : List ℕ) (now : ℕ) → SenderHolds p s
    → IsDistinct nat_eq (instance_ids s) → AckTrue p s handed o → o.octets ≡ bytes → are_near (sender_knows s o.message) o.indices ≡ true
    → AllByRecursion (ListedDue p (order_of s s.current.id) (λ node. handed node s.current.id)) s.listings
    → AllByRecursion (ListedDue p (order_of s s.current.id) (λ node. handed node s.current.id)) (heard p s bytes now).listings
heard_due p s handed o bytes now holds differ true_of same near all =
    let L : List ℕ → Type 0 = λ octets. AllByRecursion (ListedDue p (order_of s s.current.id) (λ node. handed node s.current.id)) (heard p s octets now).listings in
    subst L same (go (decoded o.octets) (λ m e. e))
  where
    P : Listing → Type 0
    P l = ListedDue p (order_of s s.current.id) (λ node. handed node s.current.id) l

    nacked : NackMessage → Bool → SenderState
    nacked m b = elim b [ true ↦ joined_round p s now m.requests | false ↦ s ]

    nack : (m : NackMessage) (b : Bool) → AllByRecursion (ListedDue p (order_of s s.current.id) (λ node. handed node s.current.id)) (nacked m b).listings
    nack m true = (
        let A : List Listing → Type 0 = λ ls. AllByRecursion (ListedDue p (order_of s s.current.id) (λ node. handed node s.current.id)) ls in
        subst A (sym (joined_stays p s now m.requests)) all
        )
    nack m false = all

    ack : (m : AckMessage) → o.message ≡ Ack m → AllByRecursion (ListedDue p (order_of s s.current.id) (λ node. handed node s.current.id)) (ack_heard p s m).listings
    ack m is =
        let T : Message → Type 0 = λ x. AckTold p s handed o.indices x in
        ack_due p s handed o.indices m holds differ (subst T is true_of.told)
        (ap (λ (x : Message). are_near (sender_knows s x) o.indices) (sym is) ∙ near) all

    go : (read : Result Message Refusal) → ((m : AckMessage) → read ≡ Ok (Ack m) → decoded o.octets ≡ Ok (Ack m))
        → AllByRecursion (ListedDue p (order_of s s.current.id) (λ node. handed node s.current.id)) (message_heard p s now read).listings
    go (Ok (Nack m)) is = nack m (nack_counts p s m)
    go (Ok (Ack m)) is = ack m (true_of.read m (is m refl))
    go (Ok (Info m)) is = all
    go (Ok (Data m)) is = all
    go (Ok (Flush m)) is = all
    go (Ok (Eot m)) is = all
    go (Ok (Squelch m)) is = all
    go (Ok (RepairAdv m)) is = all
    go (Ok (AckReq m)) is = all
    go (Ok (Opaque m)) is = all
    go (Ok (Report m)) is = all
    go (Err refusal) is = all
