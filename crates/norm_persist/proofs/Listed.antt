-- What a sender's step leaves of the listings that were told: but for a restart and for news, each that is told was told before, and is
-- the same.
use Rattle.std.proofs.Common.{◌≡◌, ℕ, zero, suc, ◌+◌, cond, List, [], ◌∷◌, ◌++◌, length, map, Bool, true, false, Option, None, Some, Result, Ok, Err, refl, sym, ap, subst, ◌∙◌}
use Rattle.std.specs.Prelude.{filter, find, not, nat_lt, nat_le, ◌==◌, ◌&&◌, ◌||◌, ◌%◌, ⊤}
use Rattle.std.specs.List.{list_any}
use Rattle.std.proofs.lemmas.Bool.{eqb-true}
use Rattle.std.proofs.lemmas.Bool.Decides.{Decides-eqb}
use Rattle.norm_base.specs.Settings.{Settings}
use Rattle.norm_base.specs.declared.kinds.Kind.TheVariants as kind
use Rattle.norm_base.specs.declared.node.Origin.{Origin}
use Rattle.fec_plan.specs.declared.position.Position.{Position}
use Rattle.norm_ext.specs.Asking.{item_named}
use Rattle.norm_ext.specs.Message.{Message, Nack, Ack, AckContent, Mark, Unread}
use Rattle.norm_ext.specs.Requests.{Request}
use Rattle.norm_order.specs.Entries.{Write, End, Cut, Whole, Stream}
use Rattle.norm_order.specs.Segments.{unclosed}
use Rattle.norm_order.specs.Sets.{with_member}
use Rattle.norm_order.specs.Shapes.{is_source, last_source}
use Rattle.norm_send_rules.specs.Commanding.{commanded}
use Rattle.norm_send_rules.specs.Enqueuing.{object_fault, joined}
use Rattle.norm_send_rules.specs.Flushing.{expired}
use Rattle.norm_send_rules.specs.Hearing.{listed_past, rises, credited, credited_by, joined_round, nack_counts, ack_counts, message_heard}
use Rattle.norm_send_rules.specs.InWindow.{last_index, current_shapes}
use Rattle.norm_send_rules.specs.Marking.{is_no_quorum, most_open, watermark_at, with_watermark, cut_and_marked}
use Rattle.norm_send_rules.specs.SenderState.{SenderState, Listing, Watermark}
use Rattle.norm_send_rules.specs.Sending.{behind, noted}
use Rattle.norm_send_rules.specs.Streaming.{open_fault, parts_now, with_parts, write_fault, close_fault, grown, cut}
use Rattle.norm_send_rules.specs.Striking.{strike_fault, without_node, struck_off}
use Rattle.norm_send_rules.specs.Telling.{listing_of}
use Rattle.norm_send_rules.specs.Ticking.{ticked}
use Rattle.norm_send_rules.specs.Watermarks.{has_member, is_past, keeps_oldest, counted_anew, settled, open_watermarks, end_where, pending}
use Rattle.norm_send_rules.specs.declared.news.Outcome.TheVariants.{Expired}
use Rattle.norm_send_rules.specs.declared.job.Job.{Job}
use Rattle.norm_send_rules.specs.declared.job.Job.TheVariants as job
use Rattle.norm_send_rules.specs.declared.want.Want.{Want}
use Rattle.norm_send_rules.specs.declared.want.Want.TheVariants.{Info, Symbol}
use Rattle.norm_send_rules.proofs.TickLemmas.{TickKeeps, tick_keeps}
use Rattle.norm_send_rules.proofs.WantLemmas.{where_free, either}
use Rattle.norm_safety.proofs.Members.{kept_with, there_with, one_struck}
use Rattle.norm_persist.proofs.Tests.{clash, any_found, any_finds, is_kept, keeps}

-- a node is one of these
abbrev pub is_one : ℕ → List ℕ → Bool
is_one node nodes = list_any (λ other. other == node) nodes

-- a member's listing is told
pub record IsTold (s : SenderState) (node : ℕ) : Type 0 where
  pub member : has_member node s ≡ true
  pub told : is_one node s.untold_nodes ≡ false

-- each listing that is told later was told before, and is the same
abbrev pub Says : SenderState → SenderState → Type 0
Says s t = (node : ℕ) → IsTold t node → IsTold s node × (listing_of t node ≡ listing_of s node)

pub itself : (s : SenderState) → Says s s
itself s node is = (is, refl)

pub says_on : (r s t : SenderState) → Says r s → Says s t → Says r t
says_on r s t h g node is = let late = g node is in let early = h node late.0 in (early.0, late.1 ∙ early.1)

-- the same listings, of which the same are to be told
pub record SameList (s t : SenderState) : Type 0 where
  pub listings : t.listings ≡ s.listings
  pub untold : t.untold_nodes ≡ s.untold_nodes

abbrev past_in : List Listing → ℕ → Option Position
past_in ls node = elim (find (λ (l : Listing). l.node == node) ls) as (λ _. Option Position) [ Some l ↦ l.past | None ↦ None ]

pub same_says : (s t : SenderState) → SameList s t → Says s t
same_says s t e node is =
    let M : List Listing → Type 0 = λ ls. list_any (λ (l : Listing). l.node == node) ls ≡ true in
    let U : List ℕ → Type 0 = λ ns. is_one node ns ≡ false in
    (record { member = subst M e.listings is.member; told = subst U e.untold is.told }, ap (λ ls. past_in ls node) e.listings)

-- ---- a listing rises

keeps_node : (node : ℕ) (at : Position) (l : Listing) → (listed_past node at l).node ≡ l.node
keeps_node node at l = go (l.node == node && is_past at l) (l.node == node)
  where
    go : (b c : Bool) → (elim b as (λ _. Listing) [ true ↦ l | false ↦ elim c as (λ _. Listing) [ true ↦ record l { past = Some at } | false ↦ l ] ]).node ≡ l.node
    go true c = refl
    go false true = refl
    go false false = refl

listed_as : (node : ℕ) (at : Position) (other : ℕ) (ls : List Listing)
    → list_any (λ (l : Listing). l.node == other) (map (listed_past node at) ls) ≡ list_any (λ (l : Listing). l.node == other) ls
listed_as node at other [] = refl
listed_as node at other (l ∷ ls) =
    ap (λ n. (n == other) || list_any (λ (l : Listing). l.node == other) (map (listed_past node at) ls)) (keeps_node node at l)
    ∙ ap (λ b. (l.node == other) || b) (listed_as node at other ls)

-- of another node the listing stays
stays_there : (node : ℕ) (at : Position) (l : Listing) → (l.node == node) ≡ false → listed_past node at l ≡ l
stays_there node at l e = go (l.node == node) (is_past at l) e
  where
    go : (c d : Bool) → c ≡ false → elim (c && d) as (λ _. Listing) [ true ↦ l | false ↦ elim c as (λ _. Listing) [ true ↦ record l { past = Some at } | false ↦ l ] ] ≡ l
    go false d f = refl
    go true d f = absurd (clash (sym f))

other_past : (node : ℕ) (at : Position) (other : ℕ) (ls : List Listing) → (other ≡ node → ⊥) → past_in (map (listed_past node at) ls) other ≡ past_in ls other
other_past node at other [] differ = refl
other_past node at other (l ∷ ls) differ = go (l.node == other) refl (other_past node at other ls differ)
  where
    past_of : Option Listing → Option Position
    past_of found = elim found as (λ _. Option Position) [ Some l ↦ l.past | None ↦ None ]

    rest : Option Listing
    rest = find (λ (x : Listing). x.node == other) (map (listed_past node at) ls)

    apart : (l.node == other) ≡ true → (l.node == node) ≡ false
    apart is = no (l.node == node) refl
      where
        no : (b : Bool) → (l.node == node) ≡ b → b ≡ false
        no false f = refl
        no true f = absurd (differ (sym (eqb-true l.node other is) ∙ eqb-true l.node node f))

    go : (b : Bool) → (l.node == other) ≡ b → past_of rest ≡ past_in ls other
        → past_of (cond ((listed_past node at l).node == other) (Some (listed_past node at l)) rest)
        ≡ past_of (cond (l.node == other) (Some l) (find (λ (x : Listing). x.node == other) ls))
    go true is more =
        ap (λ x. past_of (cond (x.node == other) (Some x) rest)) (stays_there node at l (apart is))
        ∙ ap (λ b. past_of (cond b (Some l) rest)) is
        ∙ sym (ap (λ b. past_of (cond b (Some l) (find (λ (x : Listing). x.node == other) ls))) is)
    go false is more =
        ap (λ n. past_of (cond (n == other) (Some (listed_past node at l)) rest)) (keeps_node node at l)
        ∙ ap (λ b. past_of (cond b (Some (listed_past node at l)) rest)) is
        ∙ more
        ∙ sym (ap (λ b. past_of (cond b (Some l) (find (λ (x : Listing). x.node == other) ls))) is)

is_or_not : (b : Bool) → (b ≡ true → ⊥) → b ≡ false
is_or_not false never = refl
is_or_not true never = absurd (never refl)

-- one more that is to be told
untold_more : (node other : ℕ) (nodes : List ℕ) → is_one other (with_member nat_lt node nodes) ≡ false → (is_one other nodes ≡ false) × (other ≡ node → ⊥)
untold_more node other nodes e = (
  is_or_not (is_one other nodes) (λ is. clash (sym e ∙ kept_with other node nodes is)),
  λ same. clash (sym e ∙ ap (λ n. is_one n (with_member nat_lt node nodes)) same ∙ there_with node nodes),
)

abbrev risen : ℕ → Position → SenderState → SenderState
risen node at s = record s { listings = map (listed_past node at) s.listings; untold_nodes = with_member nat_lt node s.untold_nodes }

risen_says : (node : ℕ) (at : Position) (s : SenderState) → Says s (risen node at s)
risen_says node at s other is =
    let before = untold_more node other s.untold_nodes is.told in
    (record { member = sym (listed_as node at other s.listings) ∙ is.member; told = before.0 }, other_past node at other s.listings before.1)

-- ---- a member is struck

not_it : (node other : ℕ) (ls : List Listing) → list_any (λ (l : Listing). l.node == other) (filter (λ (l : Listing). not (l.node == node)) ls) ≡ true → other ≡ node → ⊥
not_it node other ls e same =
    let found = any_found (λ (l : Listing). l.node == other) (filter (λ (l : Listing). not (l.node == node)) ls) e in
    let kept = is_kept (λ (l : Listing). not (l.node == node)) ls found.0 found.1 in
    clash (sym (ap not ((Decides-eqb found.0.node node).1 (eqb-true found.0.node other found.2 ∙ same))) ∙ kept.1)

past_left : (node other : ℕ) (ls : List Listing) → (other ≡ node → ⊥) → past_in (filter (λ (l : Listing). not (l.node == node)) ls) other ≡ past_in ls other
past_left node other [] differ = refl
past_left node other (l ∷ ls) differ = go (l.node == node) refl (l.node == other) refl (past_left node other ls differ)
  where
    left : List Listing
    left = filter (λ (l : Listing). not (l.node == node)) ls

    past_of : Option Listing → Option Position
    past_of found = elim found as (λ _. Option Position) [ Some l ↦ l.past | None ↦ None ]

    found_in : List Listing → Option Listing
    found_in ls = find (λ (x : Listing). x.node == other) ls

    go : (b : Bool) → (l.node == node) ≡ b → (c : Bool) → (l.node == other) ≡ c → past_in left other ≡ past_in ls other
        → past_of (found_in (cond (not b) (l ∷ left) left)) ≡ past_of (cond (l.node == other) (Some l) (found_in ls))
    go true is true own more = absurd (differ (sym (eqb-true l.node other own) ∙ eqb-true l.node node is))
    go true is false own more = more ∙ sym (ap (λ c. past_of (cond c (Some l) (found_in ls))) own)
    go false is true own more = ap (λ c. past_of (cond c (Some l) (found_in left))) own ∙ sym (ap (λ c. past_of (cond c (Some l) (found_in ls))) own)
    go false is false own more =
        ap (λ c. past_of (cond c (Some l) (found_in left))) own ∙ more ∙ sym (ap (λ c. past_of (cond c (Some l) (found_in ls))) own)

untold_left : (node other : ℕ) (nodes : List ℕ) → (other ≡ node → ⊥) → is_one other (filter (λ n. not (n == node)) nodes) ≡ false → is_one other nodes ≡ false
untold_left node other nodes differ e = is_or_not (is_one other nodes) (λ is.
    let found = any_found (λ n. n == other) nodes is in
    let own : found.0 ≡ other = eqb-true found.0 other found.2 in
    let kept : not (found.0 == node) ≡ true = ap not (is_or_not (found.0 == node) (λ f. differ (sym own ∙ eqb-true found.0 node f))) in
    clash (sym e ∙ any_finds (λ n. n == other) (filter (λ n. not (n == node)) nodes) found.0 (keeps (λ n. not (n == node)) nodes found.0 found.1 kept) found.2))

struck_says : (node : ℕ) (s : SenderState) → Says s (without_node node s)
struck_says node s other is =
    let differ = not_it node other s.listings is.member in
    let back = (one_struck node s.listings s.struck).back other is.member in
    (record { member = back; told = untold_left node other s.untold_nodes differ is.told }, past_left node other s.listings differ)

-- ---- each step

counted_same : (s t u : SenderState) → SameList s u → SameList s (counted_anew t u)
counted_same s t u e = go (keeps_oldest t u)
  where
    go : (b : Bool) → SameList s (elim b as (λ _. SenderState) [ true ↦ u | false ↦ record u { flushes = 0 } ])
    go true = e
    go false = record { listings = e.listings; untold = e.untold }

settled_says : (s t : SenderState) → Says s t → (old : SenderState) → Says s (counted_anew old (settled t))
settled_says s t h old = says_on s t (counted_anew old (settled t)) h (same_says t (counted_anew old (settled t)) (counted_same t old (settled t) (record { listings = refl; untold = refl })))

by_fault : (s : SenderState) {F A : Type 0} (found : Option F) (t after : SenderState) (refused : F → A) (given : A) → Says s t → Says s after
    → Says s (where_free found t after refused given).0
by_fault s None t after refused given h k = k
by_fault s (Some fault) t after refused given h k = h

by_test : (s : SenderState) {A : Type 0} (b : Bool) (t u : SenderState × A) → Says s t.0 → Says s u.0 → Says s (either b t u).0
by_test s true t u h k = h
by_test s false t u h k = k

same : (s t : SenderState) → t.listings ≡ s.listings → t.untold_nodes ≡ s.untold_nodes → Says s t
same s t l u = same_says s t (record { listings = l; untold = u })

cut_says : (p : Settings) (s : SenderState) → Says s (cut p s)
cut_says p s = go (unclosed p.e (parts_now s))
  where
    go : (n : ℕ) → Says s (elim n as (λ _. SenderState) [ zero ↦ s | suc n ↦ with_parts (parts_now s ++ Cut ∷ []) s ])
    go zero = itself s
    go (suc n) = same s (with_parts (parts_now s ++ Cut ∷ []) s) refl refl

watermark_says : (r s : SenderState) → Says r s → (by : Origin) (quorum : Option ℕ) (found : Option Position) → Says r (watermark_at s by quorum found).0
watermark_says r s h by quorum None = h
watermark_says r s h by quorum (Some at) =
    let w : Watermark = record { mark = length s.watermarks + 1; by = by; at = at; quorum = quorum; ended = None } in
    let more : SenderState = record s { watermarks = s.watermarks ++ w ∷ [] } in
    by_test r (nat_le most_open (length (open_watermarks s))) (s, _) (with_watermark s by quorum at, _) h
    (settled_says r more (says_on r s more h (same s more refl refl)) s)

mark_says : (p : Settings) (s : SenderState) (by : Origin) (quorum : Option ℕ) → Says s (cut_and_marked p s by quorum).0
mark_says p s by quorum = watermark_says s (cut p s) (cut_says p s) by quorum (last_source (current_shapes p (cut p s)))

-- a command that is no restart
abbrev pub NoRestart : Job → Type 0
NoRestart (job.Restart instance) = ⊥
NoRestart _ = ⊤

pub command_says : (p : Settings) (s : SenderState) (by : Origin) (given : Job) → NoRestart given → Says s (commanded p s by given).0
command_says p s by (job.Data info bytes) plain =
    by_fault s (object_fault p s info bytes) s (joined p by (Whole kind.Data info bytes) s) Err (Ok _) (itself s) (same s (joined p by (Whole kind.Data info bytes) s) refl refl)
command_says p s by (job.File name bytes) plain =
    by_fault s (object_fault p s (Some name) bytes) s (joined p by (Whole kind.File (Some name) bytes) s) Err (Ok _) (itself s)
    (same s (joined p by (Whole kind.File (Some name) bytes) s) refl refl)
command_says p s by job.Open plain = by_fault s (open_fault p s) s (joined p by (Stream []) s) Err (Ok _) (itself s) (same s (joined p by (Stream []) s) refl refl)
command_says p s by (job.Write bytes) plain =
    let parts = parts_now s ++ Write by bytes ∷ [] in
    by_fault s (write_fault p s bytes parts) s (grown p s parts) Err (Ok _) (itself s) (same s (grown p s parts) refl refl)
command_says p s by job.Close plain =
    let parts = parts_now s ++ End ∷ [] in
    by_fault s (close_fault p s parts) s (grown p s parts) Err (Ok _) (itself s) (same s (grown p s parts) refl refl)
command_says p s by (job.Mark None) plain = mark_says p s by None
command_says p s by (job.Mark (Some q)) plain = by_test s (is_no_quorum p q) (s, _) (cut_and_marked p s by (Some q)) (itself s) (mark_says p s by (Some q))
command_says p s by (job.Restart instance) plain = absurd plain
command_says p s by (job.Strike node) plain =
    by_fault s (strike_fault s node) s (struck_off node s) Err (Ok _) (itself s) (settled_says s (without_node node s) (struck_says node s) s)

noted_says : (r s : SenderState) (w : Want) → Says r s → Says r (noted w s)
noted_says r s (Info index) h = says_on r s (noted (Info index) s) h (same s (noted (Info index) s) refl refl)
noted_says r s (Symbol at) h = says_on r s (noted (Symbol at) s) h (same s (noted (Symbol at) s) refl refl)

ticks_say : (p : Settings) (r : SenderState) → TickKeeps p (Says r)
ticks_say p r = record {
  closes = λ s round h. says_on r s _ h (same s _ refl refl);
  squelched = λ s h. says_on r s (record s { squelch_due = false }) h (same s _ refl refl);
  repaired = λ s w wants e h. says_on r s (record s { wants = wants }) h (same s _ refl refl);
  goes_on = λ s w e h. says_on r s (record s { next = behind w }) h (same s _ refl refl);
  notes = λ s w h. noted_says r s w h;
  flushes = λ s now h. says_on r s (record s { flushes = s.flushes + 1; last_flush = Some now }) h (same s _ refl refl);
  expires = λ s w e h. says_on r s (expired w.mark s) h (same_says s (expired w.mark s) (counted_same s s (end_where (λ v. v.mark == w.mark) (λ v. Expired (length (pending s v.at))) s) (record { listings = refl; untold = refl })));
  spends = λ s moment h. says_on r s (record s { next_send = moment; sequence = (s.sequence + 1) % 65536 }) h (same s _ refl refl);
}

pub tick_says : (p : Settings) (s : SenderState) (now : ℕ) → Says s (ticked p s now).0
tick_says p s now = tick_keeps p (Says s) (ticks_say p s) s now (itself s)

where_says : (b : Bool) (s t : SenderState) → Says s t → Says s (elim b as (λ _. SenderState) [ true ↦ t | false ↦ s ])
where_says true s t h = h
where_says false s t h = itself s

round_says : (p : Settings) (s : SenderState) (now : ℕ) (requests : List Request) → Says s (joined_round p s now requests)
round_says p s now [] = itself s
round_says p s now (r ∷ requests) = same s _ refl refl

credited_says : (p : Settings) (node : ℕ) (at : Option Position) (s : SenderState) → Says s (credited_by p node at s)
credited_says p node None s = itself s
credited_says p node (Some at) s =
    where_says (is_source (current_shapes p s) at) s (credited node at s)
    (where_says (rises node at s) s (counted_anew s (settled (risen node at s))) (settled_says s (risen node at s) (risen_says node at s) s))

pub heard_says : {E : Type 0} (p : Settings) (s : SenderState) (now : ℕ) (read : Result Message E) → Says s (message_heard p s now read)
heard_says p s now (Ok (Nack m)) = where_says (nack_counts p s m) s (joined_round p s now m.requests) (round_says p s now m.requests)
heard_says p s now (Ok (Ack m)) = where_says (ack_counts p s m) s _ (go m.content)
  where
    go : (content : AckContent) → Says s (elim content as (λ _. SenderState) [
      | Mark item ↦ credited_by p m.source (item_named p (last_index s) item) s
      | Unread octets ↦ s
    ])
    go (Mark item) = credited_says p m.source (item_named p (last_index s) item) s
    go (Unread octets) = itself s
heard_says p s now _ = itself s
