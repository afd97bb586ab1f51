-- What an event that is no command leaves of a sender: orders, drop points, members, struck nodes, and watermarks as they were made.
use Rattle.std.proofs.Common.{◌≡◌, ℕ, ◌+◌, ◌%◌, cond, List, [], ◌∷◌, length, map, Bool, true, false, Option, None, Some, Result, Ok, refl, sym, ap, ◌∙◌, subst}
use Rattle.std.specs.Prelude.{nat_lt, ◌==◌, ◌&&◌}
use Rattle.std.specs.List.{AllByRecursion}
use Rattle.norm_base.specs.Settings.{Settings}
use Rattle.fec_plan.specs.declared.position.Position.{Position}
use Rattle.norm_ext.specs.Asking.{item_named}
use Rattle.norm_ext.specs.Message.{Message, Nack, Ack, AckContent, Mark, Unread}
use Rattle.norm_ext.specs.Reading.{decoded}
use Rattle.norm_ext.specs.Requests.{Request}
use Rattle.norm_order.specs.Sets.{with_member}
use Rattle.norm_order.specs.Shapes.{is_source}
use Rattle.norm_send_rules.specs.Closing.{round_closed}
use Rattle.norm_send_rules.specs.Flushing.{expired}
use Rattle.norm_send_rules.specs.Hearing.{listed_past, rises, credited_at, credited_by, joined_round, nack_counts, ack_counts, message_heard, heard}
use Rattle.norm_send_rules.specs.InWindow.{last_index, current_shapes}
use Rattle.norm_send_rules.specs.SenderState.{SenderState, Listing, Watermark}
use Rattle.norm_send_rules.specs.Sending.{behind, noted}
use Rattle.norm_send_rules.specs.Telling.{listing_of, past_news, done_news, told}
use Rattle.norm_send_rules.specs.Ticking.{ticked}
use Rattle.norm_send_rules.specs.Watermarks.{is_open, is_past, is_met, keeps_oldest, counted_anew, ended_with, end_where, settled, pending, watermark_of}
use Rattle.norm_send_rules.specs.declared.news.News.{News}
use Rattle.norm_send_rules.specs.declared.news.Outcome.{Outcome}
use Rattle.norm_send_rules.specs.declared.news.Outcome.TheVariants.{Satisfied, Expired}
use Rattle.norm_send_rules.specs.declared.want.Want.{Want}
use Rattle.norm_send_rules.specs.declared.want.Want.TheVariants.{Info, Symbol}
use Rattle.norm_send_rules.proofs.TickLemmas.{tick_keeps}
use Rattle.norm_safety.specs.Events.{Event, Commanded, Delivered, Ticked, Offered, UpTaken, NewsAsked}
use Rattle.norm_safety.specs.World.{World}
use Rattle.norm_safety.specs.WorldStep.{world_step, run_from}
use Rattle.norm_laws.proofs.CountSender.{sender_after, sender_is}
use Rattle.norm_recovery.specs.TailKeeps.{as_made, Stays}
use Rattle.norm_recovery.specs.TailOf.{IsQuiet}

pub stays_itself : (s : SenderState) → Stays s s
stays_itself s = record { earlier = refl; current = refl; members = refl; struck = refl; marks = refl }

pub stays_on : (a b c : SenderState) → Stays a b → Stays b c → Stays a c
stays_on a b c h g = record {
  earlier = g.earlier ∙ h.earlier;
  current = g.current ∙ h.current;
  members = g.members ∙ h.members;
  struck = g.struck ∙ h.struck;
  marks = g.marks ∙ h.marks;
}

-- ---- watermarks end, and members are listed

ended_marks : (test : Watermark → Bool) (outcome : Watermark → Outcome) (ws : List Watermark)
    → map as_made (map (λ w. cond (is_open w && test w) (ended_with (outcome w) w) w) ws) ≡ map as_made ws
ended_marks test outcome [] = refl
ended_marks test outcome (w ∷ ws) = go (is_open w && test w) (ended_marks test outcome ws)
  where
    go : (b : Bool) {rest : List Watermark} → rest ≡ map as_made ws → (as_made (cond b (ended_with (outcome w) w) w) ∷ rest) ≡ (as_made w ∷ map as_made ws)
    go true e = ap (λ (rest : List Watermark). as_made w ∷ rest) e
    go false e = ap (λ (rest : List Watermark). as_made w ∷ rest) e

anew_stays : (s before t : SenderState) → Stays s t → Stays s (counted_anew before t)
anew_stays s before t h = go (keeps_oldest before t)
  where
    go : (b : Bool) → Stays s (elim b [ true ↦ t | false ↦ record t { flushes = 0 } ])
    go true = h
    go false = record { earlier = h.earlier; current = h.current; members = h.members; struck = h.struck; marks = h.marks }

ends_stay : (test : Watermark → Bool) (outcome : Watermark → Outcome) (s t : SenderState) → Stays s t → Stays s (end_where test outcome t)
ends_stay test outcome s t h = record {
  earlier = h.earlier;
  current = h.current;
  members = h.members;
  struck = h.struck;
  marks = ended_marks test outcome t.watermarks ∙ h.marks;
}

-- the node of a listing
abbrev node_of : Listing → ℕ
node_of l = l.node

listed_members : (node : ℕ) (at : Position) (ls : List Listing) → map node_of (map (listed_past node at) ls) ≡ map node_of ls
listed_members node at [] = refl
listed_members node at (l ∷ ls) = go (l.node == node && is_past at l) (l.node == node) (listed_members node at ls)
  where
    go : (b c : Bool) {rest : List ℕ} → rest ≡ map node_of ls
        → (node_of (elim b [ true ↦ l | false ↦ elim c [ true ↦ record l { past = Some at } | false ↦ l ] ]) ∷ rest) ≡ (l.node ∷ map node_of ls)
    go true c e = ap (λ (rest : List ℕ). l.node ∷ rest) e
    go false true e = ap (λ (rest : List ℕ). l.node ∷ rest) e
    go false false e = ap (λ (rest : List ℕ). l.node ∷ rest) e

-- ---- what is heard and told

credited_stays : (p : Settings) (node : ℕ) (at : Position) (s : SenderState) → Stays s (credited_at p node at s)
credited_stays p node at s = go (is_source (current_shapes p s) at) (rises node at s)
  where
    risen : SenderState
    risen = record s { listings = map (listed_past node at) s.listings; untold_nodes = with_member nat_lt node s.untold_nodes }

    go : (b c : Bool) → Stays s (elim b [ true ↦ elim c [ true ↦ counted_anew s (settled risen) | false ↦ s ] | false ↦ s ])
    go true true = anew_stays s s (settled risen) (ends_stay (is_met risen) (λ w. Satisfied) s risen
        (record { earlier = refl; current = refl; members = listed_members node at s.listings; struck = refl; marks = refl }))
    go true false = stays_itself s
    go false c = stays_itself s

joined_stays : (p : Settings) (now : ℕ) (s : SenderState) (requests : List Request) → Stays s (joined_round p s now requests)
joined_stays p now s [] = stays_itself s
joined_stays p now s (r ∷ requests) = record { earlier = refl; current = refl; members = refl; struck = refl; marks = refl }

heard_stays : {E : Type 0} (p : Settings) (s : SenderState) (now : ℕ) (read : Result Message E) → Stays s (message_heard p s now read)
heard_stays p s now (Ok (Nack m)) = go (nack_counts p s m)
  where
    go : (b : Bool) → Stays s (elim b [ true ↦ joined_round p s now m.requests | false ↦ s ])
    go true = joined_stays p now s m.requests
    go false = stays_itself s
heard_stays p s now (Ok (Ack m)) = go (ack_counts p s m) m.content
  where
    by : (at : Option Position) → Stays s (credited_by p m.source at s)
    by None = stays_itself s
    by (Some at) = credited_stays p m.source at s

    go : (b : Bool) (content : AckContent) → Stays s (elim b [
      | true ↦ elim content [ Mark item ↦ credited_by p m.source (item_named p (last_index s) item) s | Unread octets ↦ s ]
      | false ↦ s
    ])
    go true (Mark item) = by (item_named p (last_index s) item)
    go true (Unread octets) = stays_itself s
    go false content = stays_itself s
heard_stays p s now _ = stays_itself s

told_stays : (s : SenderState) → Stays s (told s).0
told_stays s = go s.untold_nodes s.untold_marks
  where
    by : List ℕ → List ℕ → SenderState × Option News
    by nodes marks = elim nodes [
      | node ∷ others ↦ (record s { untold_nodes = others }, past_news node (listing_of s node))
      | [] ↦ elim marks [
        | mark ∷ others ↦ (record s { untold_marks = others }, done_news s mark (watermark_of s mark))
        | [] ↦ (s, None)
      ]
    ]

    go : (nodes marks : List ℕ) → Stays s (by nodes marks).0
    go (node ∷ nodes) marks = record { earlier = refl; current = refl; members = refl; struck = refl; marks = refl }
    go [] (mark ∷ marks) = record { earlier = refl; current = refl; members = refl; struck = refl; marks = refl }
    go [] [] = stays_itself s

-- ---- a tick

-- the same state but for fields that are no matter
same_stays : (s t u : SenderState) → Stays t u → Stays s t → Stays s u
same_stays s t u g h = stays_on s t u h g

noted_stays : (w : Want) (s : SenderState) → Stays s (noted w s)
noted_stays (Info index) s = record { earlier = refl; current = refl; members = refl; struck = refl; marks = refl }
noted_stays (Symbol at) s = record { earlier = refl; current = refl; members = refl; struck = refl; marks = refl }

tick_stays : (p : Settings) (s : SenderState) (now : ℕ) → Stays s (ticked p s now).0
tick_stays p s now = tick_keeps p (Stays s) (record {
  closes = λ t r h. same_stays s t (round_closed p r t) (record { earlier = refl; current = refl; members = refl; struck = refl; marks = refl }) h;
  squelched = λ t h. same_stays s t (record t { squelch_due = false }) (record { earlier = refl; current = refl; members = refl; struck = refl; marks = refl }) h;
  repaired = λ t w wants e h. same_stays s t (record t { wants = wants }) (record { earlier = refl; current = refl; members = refl; struck = refl; marks = refl }) h;
  goes_on = λ t w e h. same_stays s t (record t { next = behind w }) (record { earlier = refl; current = refl; members = refl; struck = refl; marks = refl }) h;
  notes = λ t w h. same_stays s t (noted w t) (noted_stays w t) h;
  flushes = λ t now h. same_stays s t (record t { flushes = t.flushes + 1; last_flush = Some now })
      (record { earlier = refl; current = refl; members = refl; struck = refl; marks = refl }) h;
  expires = λ t w e h. same_stays s t (expired w.mark t)
      (anew_stays t t (end_where (λ v. v.mark == w.mark) (λ v. Expired (length (pending t v.at))) t)
      (ends_stay (λ v. v.mark == w.mark) (λ v. Expired (length (pending t v.at))) t t (stays_itself t))) h;
  spends = λ t moment h. same_stays s t (record t { next_send = moment; sequence = (t.sequence + 1) % 65536 })
      (record { earlier = refl; current = refl; members = refl; struck = refl; marks = refl }) h;
}) s now (stays_itself s)

-- ---- an event

pub event_stays : (p : Settings) (w : World) (e : Event) → IsQuiet e → Stays w.sender (world_step p w e).0.sender
event_stays p w e quiet = subst (Stays w.sender) (sym (sender_is p w e)) (after e quiet)
  where
    either : (b : Bool) (t : SenderState) → Stays w.sender t → Stays w.sender (elim b [ true ↦ t | false ↦ w.sender ])
    either true t h = h
    either false t h = stays_itself w.sender

    after : (e : Event) → IsQuiet e → Stays w.sender (sender_after p w.sender e)
    after (Commanded by job now) quiet = absurd quiet
    after (Delivered node datagram now draw) quiet = either (node == p.sender) (heard p w.sender datagram now) (heard_stays p w.sender now (decoded datagram))
    after (Ticked node now) quiet = either (node == p.sender) (ticked p w.sender now).0 (tick_stays p w.sender now)
    after (Offered node octets) quiet = stays_itself w.sender
    after (UpTaken node) quiet = stays_itself w.sender
    after NewsAsked quiet = told_stays w.sender

-- events that are no commands
pub quiet_run_stays : (p : Settings) (w : World) (events : List Event) → AllByRecursion IsQuiet events → Stays w.sender (run_from p w events).sender
quiet_run_stays p w [] quiet = stays_itself w.sender
quiet_run_stays p w (e ∷ events) quiet =
    let next : World = (world_step p w e).0 in
    stays_on w.sender next.sender (run_from p w (e ∷ events)).sender (event_stays p w e quiet.0) (quiet_run_stays p next events quiet.1)
