-- What a sender hears, sends and tells leaves its orders, and the commands of its watermarks.
use Rattle.std.proofs.Math.Nat.{mod-lt}
use Rattle.std.proofs.Common.{arith, ◌+◌, ◌%◌, ◌<◌, ◌≡◌, ℕ, cond, List, [], ◌∷◌, Bool, true, false, Option, None, Some, Result, Ok, Err, refl, ap, ◌∙◌, subst, sym}
use Rattle.std.specs.List.{AllByRecursion}
use Rattle.std.specs.Prelude.{map, filter, not, ◌==◌, ◌&&◌}
use Rattle.norm_base.specs.Settings.{Settings}
use Rattle.norm_base.specs.declared.node.Origin.{Origin}
use Rattle.fec_plan.specs.declared.position.Position.{Position}
use Rattle.norm_ext.specs.declared.head.Item.{Item}
use Rattle.norm_ext.specs.Message.{Message, Info, Data, Flush, Eot, Squelch, RepairAdv, AckReq, Opaque, Nack, Ack, Report, NackMessage, AckMessage, AckContent, Mark, Unread}
use Rattle.norm_ext.specs.Asking.{item_named}
use Rattle.norm_ext.specs.Reading.{decoded}
use Rattle.norm_ext.specs.Requests.{Request}
use Rattle.fec_plan.specs.Points.{position_before, same_position}
use Rattle.fec_plan.proofs.PositionLemmas.{positions_same, position_itself}
use Rattle.norm_order.specs.Sets.{is_member, with_member}
use Rattle.norm_order.proofs.SetLemmas.{self_in, others_in, positions}
use Rattle.norm_order.specs.Shapes.{is_source}
use Rattle.norm_send_rules.specs.SenderState.{Listing, SenderState, Watermark}
use Rattle.norm_send_rules.specs.InWindow.{last_index, current_shapes}
use Rattle.norm_send_rules.specs.Watermarks.{is_past, is_open, keeps_oldest, counted_anew, ended_with, end_where, settled, watermark_of}
use Rattle.norm_send_rules.specs.Hearing.{listed_past, nack_counts, ack_counts, joined_round, rises, credited, credited_at, credited_by, nack_heard, ack_heard, message_heard, heard}
use Rattle.norm_send_rules.specs.Striking.{without_node, struck_off}
use Rattle.norm_send_rules.specs.Closing.{round_closed}
use Rattle.norm_send_rules.specs.Sending.{behind, noted}
use Rattle.norm_send_rules.specs.Flushing.{expired}
use Rattle.norm_send_rules.specs.Ticking.{closed_where_due, ticked}
use Rattle.norm_send_rules.specs.Telling.{told, past_news, done_news, listing_of}
use Rattle.norm_safety.proofs.Members.{Strikes, all_stay, strikes_on, same_members, one_struck}
use Rattle.norm_send_rules.proofs.TickLemmas.{TickKeeps, closed_keep, tick_keeps}
use Rattle.norm_send_rules.specs.declared.news.Outcome.{Outcome}
use Rattle.norm_send_rules.specs.declared.news.News.{News}
use Rattle.norm_send_rules.specs.declared.want.Want.{Want}
use Rattle.norm_send_rules.specs.declared.want.Want.TheVariants.{Info as WantedInfo, Symbol}

clash : false ≡ true → ⊥
clash e = cc

-- the commands of watermarks
abbrev pub bys : List Watermark → List Origin
bys watermarks = map (λ (w : Watermark). w.by) watermarks

-- each open watermark is of a position that passes a test
abbrev pub AllOpen : (Position → Bool) → List Watermark → Type 0
AllOpen test watermarks = AllByRecursion (λ (w : Watermark). is_open w ≡ true → test w.at ≡ true) watermarks

-- the nodes that may be listed
abbrev pub nodes_in : List Listing → List ℕ
nodes_in listings = map (λ (l : Listing). l.node) listings

-- the nodes that may be listed have ids of 32 bits
abbrev pub FewNodes : List Listing → Type 0
FewNodes listings = AllByRecursion (λ id. id < 4294967296) (nodes_in listings)

-- A later state has the instances, orders and drop points of an earlier one; its members' ids have 32 bits where those had;
-- its watermarks are of the same commands, and open only where they were; its sequence number has 16 bits where that had; and its
-- members are those of the earlier one that were not struck since, and what was sent counts as sent.
pub record Keeps (old new : SenderState) : Type 0 where
  pub earlier : new.earlier ≡ old.earlier
  pub current : new.current ≡ old.current
  pub by : bys new.watermarks ≡ bys old.watermarks
  pub nodes : FewNodes old.listings → FewNodes new.listings
  pub sequence : old.sequence < 65536 → new.sequence < 65536
  pub asked : (test : Position → Bool) → AllOpen test old.watermarks → AllOpen test new.watermarks
  pub strikes : Strikes old.listings new.listings old.struck new.struck
  pub sent : (at : Position) → is_member position_before at old.sent ≡ true → is_member position_before at new.sent ≡ true

-- what is a member stays one
member_stays : (other at : Position) (sent : List Position) → is_member position_before other sent ≡ true → is_member position_before other (with_member position_before at sent) ≡ true
member_stays other at sent h = go (same_position other at) refl
  where
    differs : same_position other at ≡ false → other ≡ at → ⊥
    differs e same = clash (sym e ∙ ap (λ (x : Position). same_position x at) same ∙ position_itself at)

    go : (b : Bool) → same_position other at ≡ b → is_member position_before other (with_member position_before at sent) ≡ true
    go true e = ap (λ (x : Position). is_member position_before x (with_member position_before at sent)) (positions_same other at e) ∙ self_in position_before at sent positions
    go false e = others_in position_before other at sent positions (differs e) ∙ h

pub keeps_all : (s : SenderState) → Keeps s s
keeps_all s = record { earlier = refl; current = refl; by = refl; nodes = λ few. few; sequence = λ h. h; asked = λ test all. all; strikes = all_stay _ _; sent = λ at h. h }

pub keeps_on : (a b c : SenderState) → Keeps a b → Keeps b c → Keeps a c
keeps_on a b c h g = record { earlier = g.earlier ∙ h.earlier; current = g.current ∙ h.current; by = g.by ∙ h.by; nodes = λ few. g.nodes (h.nodes few); sequence = λ n. g.sequence (h.sequence n); asked = λ test all. g.asked test (h.asked test all); strikes = strikes_on a.listings b.listings c.listings a.struck b.struck c.struck h.strikes g.strikes; sent = λ at n. g.sent at (h.sent at n) }

-- the position of a watermark
abbrev pub mark_position : Watermark → Position
mark_position w = w.at

-- the node of a listing
abbrev listing_node : Listing → ℕ
listing_node l = l.node

-- the state of a step that tells news
abbrev news_of : SenderState × Option News → SenderState
news_of step = step.0

-- Ending watermarks does not change whose they are.
pub ended_by : (test : Watermark → Bool) (outcome : Watermark → Outcome) (watermarks : List Watermark)
    → bys (map (λ w. cond (is_open w && test w) (ended_with (outcome w) w) w) watermarks) ≡ bys watermarks
ended_by test outcome [] = refl
ended_by test outcome (w ∷ watermarks) = go (is_open w && test w) (ended_by test outcome watermarks)
  where
    go : (b : Bool) {rest : List Origin} → rest ≡ bys watermarks
        → ((cond b (ended_with (outcome w) w) w).by ∷ rest) ≡ (w.by ∷ bys watermarks)
    go true e = ap (λ (xs : List Origin). w.by ∷ xs) e
    go false e = ap (λ (xs : List Origin). w.by ∷ xs) e

-- A watermark that ends is open no more.
ended_open : (asks : Position → Bool) (test : Watermark → Bool) (outcome : Watermark → Outcome) (watermarks : List Watermark) → AllOpen asks watermarks
    → AllOpen asks (map (λ w. cond (is_open w && test w) (ended_with (outcome w) w) w) watermarks)
ended_open asks test outcome [] all = tt
ended_open asks test outcome (w ∷ watermarks) all = (go (is_open w && test w), ended_open asks test outcome watermarks all.1)
  where
    now : Bool → Watermark
    now b = cond b (ended_with (outcome w) w) w

    go : (b : Bool) → is_open (now b) ≡ true → asks (mark_position (now b)) ≡ true
    go true e = absurd (cc)
    go false e = all.0 e

pub ends_keeps : (test : Watermark → Bool) (outcome : Watermark → Outcome) (s : SenderState) → Keeps s (end_where test outcome s)
ends_keeps test outcome s = record {
  earlier = refl;
  current = refl;
  by = ended_by test outcome s.watermarks;
  nodes = λ few. few;
  sequence = λ h. h;
  asked = λ asks all. ended_open asks test outcome s.watermarks all;
  strikes = all_stay _ _;
  sent = λ at h. h;
}

anew : (b : Bool) (old new : SenderState) → Keeps old new → Keeps old (elim b [ true ↦ new | false ↦ record new { flushes = 0 } ])
anew true old new h = h
anew false old new h = record { earlier = h.earlier; current = h.current; by = h.by; nodes = h.nodes; sequence = h.sequence; asked = h.asked; strikes = h.strikes; sent = h.sent }

pub counted_keeps : (before old new : SenderState) → Keeps old new → Keeps old (counted_anew before new)
counted_keeps before old new h = anew (keeps_oldest before new) old new h

pub settled_keeps : (old new : SenderState) → Keeps old new → Keeps old (settled new)
settled_keeps old new h = keeps_on old new (settled new) h (ends_keeps _ _ new)

joined_keeps : (p : Settings) (s : SenderState) (now : ℕ) (requests : List Request) → Keeps s (joined_round p s now requests)
joined_keeps p s now [] = keeps_all s
joined_keeps p s now (r ∷ requests) = record { earlier = refl; current = refl; by = refl; nodes = λ few. few; sequence = λ h. h; asked = λ test all. all; strikes = all_stay _ _; sent = λ at h. h }

where_true : (b : Bool) (s new : SenderState) → Keeps s new → Keeps s (elim b [ true ↦ new | false ↦ s ])
where_true true s new h = h
where_true false s new h = keeps_all s

-- a listing that rises is its node's
listed_nodes : (node : ℕ) (at : Position) (listings : List Listing) → nodes_in (map (listed_past node at) listings) ≡ nodes_in listings
listed_nodes node at [] = refl
listed_nodes node at (l ∷ listings) = go (l.node == node && is_past at l) (l.node == node) (listed_nodes node at listings)
  where
    go : (b c : Bool) → nodes_in (map (listed_past node at) listings) ≡ nodes_in listings
        → (listing_node (elim b [ true ↦ l | false ↦ elim c [ true ↦ record l { past = Some at } | false ↦ l ] ]) ∷ nodes_in (map (listed_past node at) listings))
        ≡ l.node ∷ nodes_in listings
    go true c e = ap (λ (ns : List ℕ). l.node ∷ ns) e
    go false true e = ap (λ (ns : List ℕ). l.node ∷ ns) e
    go false false e = ap (λ (ns : List ℕ). l.node ∷ ns) e

credited_keeps : (node : ℕ) (at : Position) (s : SenderState) → Keeps s (credited node at s)
credited_keeps node at s = where_true (rises node at s) s _
    (counted_keeps s s _ (settled_keeps s _ (record {
      earlier = refl;
      current = refl;
      by = refl;
      nodes = (let N : List ℕ → Type 0 = λ ids. AllByRecursion (λ id. id < 4294967296) ids in subst N (sym (listed_nodes node at s.listings)));
      sequence = λ h. h;
      asked = λ test all. all;
      strikes = same_members s.listings (map (listed_past node at) s.listings) s.struck (listed_nodes node at s.listings);
      sent = λ other h. h;
    })))

credited_at_keeps : (p : Settings) (node : ℕ) (at : Position) (s : SenderState) → Keeps s (credited_at p node at s)
credited_at_keeps p node at s = where_true (is_source (current_shapes p s) at) s _ (credited_keeps node at s)

nack_keeps : (p : Settings) (s : SenderState) (now : ℕ) (m : NackMessage) → Keeps s (nack_heard p s now m)
nack_keeps p s now m = where_true (nack_counts p s m) s _ (joined_keeps p s now m.requests)

credited_by_keeps : (p : Settings) (node : ℕ) (at : Option Position) (s : SenderState) → Keeps s (credited_by p node at s)
credited_by_keeps p node None s = keeps_all s
credited_by_keeps p node (Some at) s = credited_at_keeps p node at s

content_keeps : (p : Settings) (node : ℕ) (at : Item → Option Position) (s : SenderState) (c : AckContent)
    → Keeps s (elim c [ Mark item ↦ credited_by p node (at item) s | Unread octets ↦ s ])
content_keeps p node at s (Mark item) = credited_by_keeps p node (at item) s
content_keeps p node at s (Unread octets) = keeps_all s

ack_keeps : (p : Settings) (s : SenderState) (m : AckMessage) → Keeps s (ack_heard p s m)
ack_keeps p s m = where_true (ack_counts p s m) s _
    (content_keeps p m.source (item_named p (last_index s)) s m.content)

message_keeps : {E : Type 0} (p : Settings) (s : SenderState) (now : ℕ) (r : Result Message E) → Keeps s (message_heard p s now r)
message_keeps p s now (Ok (Nack m)) = nack_keeps p s now m
message_keeps p s now (Ok (Ack m)) = ack_keeps p s m
message_keeps p s now (Ok (Info m)) = keeps_all s
message_keeps p s now (Ok (Data m)) = keeps_all s
message_keeps p s now (Ok (Flush m)) = keeps_all s
message_keeps p s now (Ok (Eot m)) = keeps_all s
message_keeps p s now (Ok (Squelch m)) = keeps_all s
message_keeps p s now (Ok (RepairAdv m)) = keeps_all s
message_keeps p s now (Ok (AckReq m)) = keeps_all s
message_keeps p s now (Ok (Opaque m)) = keeps_all s
message_keeps p s now (Ok (Report m)) = keeps_all s
message_keeps p s now (Err e) = keeps_all s

pub heard_keeps : (p : Settings) (s : SenderState) (bytes : List ℕ) (now : ℕ) → Keeps s (heard p s bytes now)
heard_keeps p s bytes now = message_keeps p s now (decoded bytes)

-- ---- a tick

noted_keeps : (w : Want) (s : SenderState) → Keeps s (noted w s)
noted_keeps (WantedInfo index) s = record { earlier = refl; current = refl; by = refl; nodes = λ few. few; sequence = λ h. h; asked = λ test all. all; strikes = all_stay _ _; sent = λ at h. h }
noted_keeps (Symbol at) s = record { earlier = refl; current = refl; by = refl; nodes = λ few. few; sequence = λ h. h; asked = λ test all. all; strikes = all_stay _ _; sent = λ other h. member_stays other at s.sent h }

pub expired_keeps : (mark : ℕ) (s : SenderState) → Keeps s (expired mark s)
expired_keeps mark s = counted_keeps s s _ (ends_keeps _ _ s)

-- What each small step of a tick keeps.
small_steps : (p : Settings) (old : SenderState) → TickKeeps p (Keeps old)
small_steps p old = record {
  closes = λ s r h. keeps_on old s (round_closed p r s) h (record { earlier = refl; current = refl; by = refl; nodes = λ few. few; sequence = λ n. n; asked = λ test all. all; strikes = all_stay _ _; sent = λ at h. h });
  squelched = λ s h. keeps_on old s (record s { squelch_due = false }) h (record { earlier = refl; current = refl; by = refl; nodes = λ few. few; sequence = λ n. n; asked = λ test all. all; strikes = all_stay _ _; sent = λ at h. h });
  repaired = λ s w wants e h. keeps_on old s (record s { wants = wants }) h (record { earlier = refl; current = refl; by = refl; nodes = λ few. few; sequence = λ n. n; asked = λ test all. all; strikes = all_stay _ _; sent = λ at h. h });
  goes_on = λ s w e h. keeps_on old s (record s { next = behind w }) h (record { earlier = refl; current = refl; by = refl; nodes = λ few. few; sequence = λ n. n; asked = λ test all. all; strikes = all_stay _ _; sent = λ at h. h });
  notes = λ s w h. keeps_on old s (noted w s) h (noted_keeps w s);
  flushes = λ s now h. keeps_on old s (record s { flushes = s.flushes + 1; last_flush = Some now }) h (record { earlier = refl; current = refl; by = refl; nodes = λ few. few; sequence = λ n. n; asked = λ test all. all; strikes = all_stay _ _; sent = λ at h. h });
  expires = λ s w e h. keeps_on old s (expired w.mark s) h (expired_keeps w.mark s);
  spends = λ s moment h. keeps_on old s (record s { next_send = moment; sequence = (s.sequence + 1) % 65536 }) h
      (record { earlier = refl; current = refl; by = refl; nodes = λ few. few; sequence = λ n. mod-lt (s.sequence + 1) (omega arith); asked = λ test all. all; strikes = all_stay _ _; sent = λ at h. h });
}

pub closed_keeps : (p : Settings) (now : ℕ) (s : SenderState) → Keeps s (closed_where_due p now s)
closed_keeps p now s = closed_keep p (Keeps s) (small_steps p s) now s (keeps_all s)

pub ticked_keeps : (p : Settings) (s : SenderState) (now : ℕ) → Keeps s (ticked p s now).0
ticked_keeps p s now = tick_keeps p (Keeps s) (small_steps p s) s now (keeps_all s)

pub told_keeps : (s : SenderState) → Keeps s (told s).0
told_keeps s = nodes s.untold_nodes
  where
    marks : (ms : List ℕ) (news : ℕ → Option News) → Keeps s (news_of (elim ms [
      | mark ∷ more ↦ (record s { untold_marks = more }, news mark)
      | [] ↦ (s, None)
    ]))
    marks [] news = keeps_all s
    marks (mark ∷ more) news = record { earlier = refl; current = refl; by = refl; nodes = λ few. few; sequence = λ h. h; asked = λ test all. all; strikes = all_stay _ _; sent = λ at h. h }

    nodes : (ns : List ℕ) → Keeps s (news_of (elim ns [
      | node ∷ more ↦ (record s { untold_nodes = more }, past_news node (listing_of s node))
      | [] ↦ elim s.untold_marks [
        | mark ∷ more ↦ (record s { untold_marks = more }, done_news s mark (watermark_of s mark))
        | [] ↦ (s, None)
      ]
    ]))
    nodes (node ∷ more) = record { earlier = refl; current = refl; by = refl; nodes = λ few. few; sequence = λ h. h; asked = λ test all. all; strikes = all_stay _ _; sent = λ at h. h }
    nodes [] = marks s.untold_marks (λ mark. done_news s mark (watermark_of s mark))

-- A strike leaves all but the listing of a node.
others_few : (node : ℕ) (listings : List Listing) → FewNodes listings → FewNodes (filter (λ (l : Listing). not (l.node == node)) listings)
others_few node [] few = tt
others_few node (l ∷ listings) few = go (not (l.node == node)) (others_few node listings few.1)
  where
    rest : List Listing
    rest = filter (λ (l : Listing). not (l.node == node)) listings

    go : (b : Bool) → FewNodes rest → FewNodes (cond b (l ∷ rest) rest)
    go true more = (few.0, more)
    go false more = more

pub struck_keeps : (node : ℕ) (s : SenderState) → Keeps s (struck_off node s)
struck_keeps node s = counted_keeps s s _ (settled_keeps s (without_node node s) (record {
  earlier = refl;
  current = refl;
  by = refl;
  nodes = others_few node s.listings;
  sequence = λ h. h;
  asked = λ test all. all;
  strikes = one_struck node s.listings s.struck;
  sent = λ at h. h;
}))
