-- A member that confirms a position is listed past it from then on.
use Rattle.std.proofs.Common.{◌≡◌, ℕ, List, [], ◌∷◌, length, map, Bool, true, false, Option, None, Some, Result, Ok, refl, sym, ap, ◌∙◌}
use Rattle.std.specs.Prelude.{◌==◌, ◌&&◌, ◌||◌, not, nat_lt}
use Rattle.std.specs.List.{list_any}
use Rattle.norm_base.specs.Settings.{Settings}
use Rattle.fec_plan.specs.Points.{position_before, reaches}
use Rattle.fec_plan.specs.declared.position.Position.{Position}
use Rattle.fec_plan.proofs.PositionLemmas.{behind, reached, behind_both, positions_are_ordered}
use Rattle.norm_ext.specs.Asking.{item_named}
use Rattle.norm_ext.specs.Message.{Message, Nack, Ack, AckMessage, AckContent, Mark, Unread}
use Rattle.norm_ext.specs.Reading.{decoded}
use Rattle.norm_ext.specs.Requests.{Request}
use Rattle.norm_order.specs.Sets.{with_member}
use Rattle.norm_order.specs.Shapes.{is_source}
use Rattle.norm_send_rules.specs.Hearing.{nack_counts, ack_counts, joined_round, listed_past, rises, credited, credited_by, message_heard, heard}
use Rattle.norm_send_rules.specs.InWindow.{last_index, current_shapes}
use Rattle.norm_send_rules.specs.SenderState.{SenderState, Listing}
use Rattle.norm_send_rules.specs.SenderStep.{SenderEvent, Commanded, Delivered, Ticked, NewsAsked, sender_step}
use Rattle.norm_send_rules.specs.Sending.{noted}
use Rattle.norm_send_rules.specs.Telling.{told, past_news, done_news, listing_of}
use Rattle.norm_send_rules.specs.Ticking.{ticked}
use Rattle.norm_send_rules.specs.Watermarks.{has_member, is_past, keeps_oldest, counted_anew, end_where, settled, pending, watermark_of}
use Rattle.norm_send_rules.specs.declared.news.News.{News}
use Rattle.norm_send_rules.specs.declared.news.Outcome.TheVariants.{Expired}
use Rattle.norm_send_rules.specs.declared.want.Want.{Want}
use Rattle.norm_send_rules.specs.declared.want.Want.TheVariants.{Info, Symbol}
use Rattle.norm_send_rules.proofs.TickLemmas.{tick_keeps}
use Rattle.norm_safety.specs.CreditsMembers.{is_listed_past, confirmed}
use Rattle.norm_laws.proofs.NewOrder.{clash}
use Rattle.norm_recovery.specs.FlushListed.{IsNoCommand, FlushListed}

-- ---- listings

-- a listing of the node past the position
abbrev is_of : ℕ → Position → Listing → Bool
is_of node at l = l.node == node && is_past at l

-- whether what is listed reaches a position
abbrev past_of : Option Position → Position → Bool
past_of past at = elim past [ Some own ↦ reaches own at | None ↦ false ]

reaches_on : (further due at : Position) → reaches further due ≡ true → reaches due at ≡ true → reaches further at ≡ true
reaches_on further due at e f = reached further at (behind_both further due at (behind further due e) (behind due at f))

-- what is past a position is past each that this one reaches
past_on : (due at : Position) (past : Option Position) → reaches due at ≡ true → past_of past due ≡ true → past_of past at ≡ true
past_on due at None e h = h
past_on due at (Some own) e h = reaches_on own due at h e

itself : (at : Position) → reaches at at ≡ true
itself at = go (position_before at at) refl
  where
    go : (b : Bool) → position_before at at ≡ b → not b ≡ true
    go false e = refl
    go true e = absurd (clash (sym (positions_are_ordered.one_way at at e) ∙ e))

-- a listing of the node is past what it confirms, and before
confirms : (node : ℕ) (due at : Position) (l : Listing) → reaches due at ≡ true → (l.node == node) ≡ true → is_of node at (listed_past node due l) ≡ true
confirms node due at l e own = go (l.node == node) (is_past due l) own refl
  where
    left : Bool → Bool → Listing
    left a b = elim (a && b) [ true ↦ l | false ↦ elim a [ true ↦ record l { past = Some due } | false ↦ l ] ]

    go : (a b : Bool) → a ≡ true → is_past due l ≡ b → is_of node at (left a b) ≡ true
    go false b is past = absurd (clash is)
    go true true is past = ap (λ (c : Bool). c && is_past at l) own ∙ past_on due at l.past e past
    go true false is past = ap (λ (c : Bool). c && reaches due at) own ∙ e

-- a listing that is past a position stays so, whoever confirms what
keeps_past : (other node : ℕ) (due at : Position) (l : Listing) → is_of node at l ≡ true → is_of node at (listed_past other due l) ≡ true
keeps_past other node due at l h = go (l.node == other) (is_past due l) refl (both (l.node == node) (is_past at l) h)
  where
    both : (a b : Bool) → (a && b) ≡ true → (a ≡ true) × (b ≡ true)
    both true b e = (refl, e)
    both false b e = absurd (clash e)

    left : Bool → Bool → Listing
    left a b = elim (a && b) [ true ↦ l | false ↦ elim a [ true ↦ record l { past = Some due } | false ↦ l ] ]

    further : (past : Option Position) → past_of past due ≡ false → past_of past at ≡ true → reaches due at ≡ true
    further None e f = absurd (clash f)
    further (Some own) e f = reaches_on due own at (over (position_before own due) refl e) f
      where
        over : (b : Bool) → position_before own due ≡ b → not b ≡ false → reaches due own ≡ true
        over true is e = ap not (positions_are_ordered.one_way own due is)
        over false is e = absurd (clash (sym e))

    go : (a b : Bool) → is_past due l ≡ b → ((l.node == node) ≡ true) × (is_past at l ≡ true) → is_of node at (left a b) ≡ true
    go true true past k = h
    go true false past k = ap (λ (c : Bool). c && reaches due at) k.0 ∙ further l.past past k.1
    go false b past k = h

-- ---- all listings

or_right : (a b : Bool) → b ≡ true → (a || b) ≡ true
or_right true b e = refl
or_right false b e = e

all_confirm : (node : ℕ) (due at : Position) (ls : List Listing) → reaches due at ≡ true → list_any (λ (l : Listing). l.node == node) ls ≡ true
    → list_any (is_of node at) (map (listed_past node due) ls) ≡ true
all_confirm node due at [] e h = h
all_confirm node due at (l ∷ ls) e h = go (l.node == node) refl h (all_confirm node due at ls e)
  where
    rest : Bool
    rest = list_any (is_of node at) (map (listed_past node due) ls)

    go : (b : Bool) → (l.node == node) ≡ b → (b || list_any (λ (x : Listing). x.node == node) ls) ≡ true
        → (list_any (λ (x : Listing). x.node == node) ls ≡ true → list_any (is_of node at) (map (listed_past node due) ls) ≡ true)
        → (is_of node at (listed_past node due l) || list_any (is_of node at) (map (listed_past node due) ls)) ≡ true
    go true own some more = ap (λ (c : Bool). c || rest) (confirms node due at l e own)
    go false own some more = or_right (is_of node at (listed_past node due l)) rest (more some)

-- where nobody has to rise
all_there : (node : ℕ) (due at : Position) (ls : List Listing) → reaches due at ≡ true → list_any (λ (l : Listing). l.node == node) ls ≡ true
    → list_any (λ (l : Listing). l.node == node && not (is_past due l)) ls ≡ false → list_any (is_of node at) ls ≡ true
all_there node due at [] e h none = h
all_there node due at (l ∷ ls) e h none = go (l.node == node) (is_past due l) refl refl h none (all_there node due at ls e)
  where
    rest : Bool
    rest = list_any (is_of node at) ls

    go : (a b : Bool) → (l.node == node) ≡ a → is_past due l ≡ b → (a || list_any (λ (x : Listing). x.node == node) ls) ≡ true
        → ((a && not b) || list_any (λ (x : Listing). x.node == node && not (is_past due x)) ls) ≡ false
        → (list_any (λ (x : Listing). x.node == node) ls ≡ true → list_any (λ (x : Listing). x.node == node && not (is_past due x)) ls ≡ false
        → list_any (is_of node at) ls ≡ true)
        → (is_of node at l || list_any (is_of node at) ls) ≡ true
    go true true own past some none more =
        ap (λ (c : Bool). (c && is_past at l) || rest) own ∙ ap (λ (c : Bool). c || rest) (past_on due at l.past e past)
    go true false own past some none more = absurd (clash (sym none))
    go false b own past some none more = or_right (is_of node at l) rest (more some none)

all_keep : (other node : ℕ) (due at : Position) (ls : List Listing) → list_any (is_of node at) ls ≡ true
    → list_any (is_of node at) (map (listed_past other due) ls) ≡ true
all_keep other node due at [] h = h
all_keep other node due at (l ∷ ls) h = go (is_of node at l) refl h (all_keep other node due at ls)
  where
    rest : Bool
    rest = list_any (is_of node at) (map (listed_past other due) ls)

    go : (b : Bool) → is_of node at l ≡ b → (b || list_any (is_of node at) ls) ≡ true
        → (list_any (is_of node at) ls ≡ true → list_any (is_of node at) (map (listed_past other due) ls) ≡ true)
        → (is_of node at (listed_past other due l) || list_any (is_of node at) (map (listed_past other due) ls)) ≡ true
    go true own some more = ap (λ (c : Bool). c || rest) (keeps_past other node due at l own)
    go false own some more = or_right (is_of node at (listed_past other due l)) rest (more some)

-- ---- a sender

anew_listed : (before s : SenderState) (node : ℕ) (at : Position) → is_listed_past s node at ≡ true → is_listed_past (counted_anew before s) node at ≡ true
anew_listed before s node at h = go (keeps_oldest before s)
  where
    go : (b : Bool) → is_listed_past (elim b as (λ _. SenderState) [ true ↦ s | false ↦ record s { flushes = 0 } ]) node at ≡ true
    go true = h
    go false = h

-- the state in which a node is listed past a position
risen : ℕ → Position → SenderState → SenderState
risen node at s = record s { listings = map (listed_past node at) s.listings; untold_nodes = with_member nat_lt node s.untold_nodes }

credit_lists : (node : ℕ) (due at : Position) (s : SenderState) → reaches due at ≡ true → has_member node s ≡ true → is_listed_past (credited node due s) node at ≡ true
unfolding risen
credit_lists node due at s e member = go (rises node due s) refl
  where
    go : (b : Bool) → rises node due s ≡ b
        → is_listed_past (elim b as (λ _. SenderState) [ true ↦ counted_anew s (settled (risen node due s)) | false ↦ s ]) node at ≡ true
    go true is = anew_listed s (settled (risen node due s)) node at (all_confirm node due at s.listings e member)
    go false is = all_there node due at s.listings e member is

credit_keeps : (other node : ℕ) (due at : Position) (s : SenderState) → is_listed_past s node at ≡ true → is_listed_past (credited other due s) node at ≡ true
unfolding risen
credit_keeps other node due at s h = go (rises other due s)
  where
    go : (b : Bool) → is_listed_past (elim b as (λ _. SenderState) [ true ↦ counted_anew s (settled (risen other due s)) | false ↦ s ]) node at ≡ true
    go true = anew_listed s (settled (risen other due s)) node at (all_keep other node due at s.listings h)
    go false = h

first_of_both : (a b : Bool) → (a && b) ≡ true → a ≡ true
first_of_both true b e = refl
first_of_both false b e = absurd (clash e)

lists : (p : Settings) (s : SenderState) (octets : List ℕ) (now : ℕ) (m : AckMessage) (due at : Position) → decoded octets ≡ Ok (Ack m)
    → ack_counts p s m ≡ true → confirmed p s m ≡ Some due → is_source (current_shapes p s) due ≡ true → reaches due at ≡ true
    → is_listed_past (heard p s octets now) m.source at ≡ true
lists p s octets now m due at read counts names source e =
    ap (λ said. is_listed_past (message_heard p s now said) m.source at) read
    ∙ ap (λ (b : Bool). is_listed_past (by_count b) m.source at) counts
    ∙ content m.content refl
  where
    by_content : AckContent → SenderState
    by_content c = elim c [ Mark item ↦ credited_by p m.source (item_named p (last_index s) item) s | Unread octets ↦ s ]

    by_count : Bool → SenderState
    by_count b = elim b [ true ↦ by_content m.content | false ↦ s ]

    named : AckContent → Option Position
    named c = elim c [ Mark item ↦ item_named p (last_index s) item | Unread octets ↦ None ]

    no_name : None ≡ Some due → ⊥
    no_name f = cc

    by_source : Bool → SenderState
    by_source b = elim b [ true ↦ credited m.source due s | false ↦ s ]

    content : (c : AckContent) → m.content ≡ c → is_listed_past (by_content m.content) m.source at ≡ true
    content (Unread more) is = absurd (no_name (sym (ap named is) ∙ names))
    content (Mark item) is =
        ap (λ (c : AckContent). is_listed_past (by_content c) m.source at) is
        ∙ ap (λ (o : Option Position). is_listed_past (credited_by p m.source o s) m.source at) (sym (ap named is) ∙ names)
        ∙ ap (λ (b : Bool). is_listed_past (by_source b) m.source at) source
        ∙ credit_lists m.source due at s e (first_of_both (has_member m.source s) _ counts)

-- ---- and stays listed

heard_stays : {E : Type 0} (p : Settings) (s : SenderState) (now node : ℕ) (at : Position) (read : Result Message E) → is_listed_past s node at ≡ true
    → is_listed_past (message_heard p s now read) node at ≡ true
heard_stays p s now node at (Ok (Nack m)) h = go (nack_counts p s m)
  where
    joined : (requests : List Request) → is_listed_past (joined_round p s now requests) node at ≡ true
    joined [] = h
    joined (r ∷ requests) = h

    go : (b : Bool) → is_listed_past (elim b as (λ _. SenderState) [ true ↦ joined_round p s now m.requests | false ↦ s ]) node at ≡ true
    go true = joined m.requests
    go false = h
heard_stays p s now node at (Ok (Ack m)) h = go (ack_counts p s m) m.content
  where
    by_source : (due : Position) (b : Bool) → is_listed_past (elim b as (λ _. SenderState) [ true ↦ credited m.source due s | false ↦ s ]) node at ≡ true
    by_source due true = credit_keeps m.source node due at s h
    by_source due false = h

    by_name : (o : Option Position) → is_listed_past (credited_by p m.source o s) node at ≡ true
    by_name None = h
    by_name (Some due) = by_source due (is_source (current_shapes p s) due)

    go : (b : Bool) (c : AckContent) → is_listed_past (elim b as (λ _. SenderState) [
      | true ↦ elim c [ Mark item ↦ credited_by p m.source (item_named p (last_index s) item) s | Unread octets ↦ s ]
      | false ↦ s
    ]) node at ≡ true
    go true (Mark item) = by_name (item_named p (last_index s) item)
    go true (Unread octets) = h
    go false c = h
heard_stays p s now node at _ h = h

told_stays : (s : SenderState) (node : ℕ) (at : Position) → is_listed_past s node at ≡ true → is_listed_past (told s).0 node at ≡ true
told_stays s node at h = go s.untold_nodes s.untold_marks
  where
    state_of : SenderState × Option News → SenderState
    state_of step = step.0

    go : (nodes marks : List ℕ) → is_listed_past (state_of (elim nodes [
      | other ∷ others ↦ (record s { untold_nodes = others }, past_news other (listing_of s other))
      | [] ↦ elim marks [
        | mark ∷ others ↦ (record s { untold_marks = others }, done_news s mark (watermark_of s mark))
        | [] ↦ (s, None)
      ]
    ])) node at ≡ true
    go (other ∷ nodes) marks = h
    go [] (mark ∷ marks) = h
    go [] [] = h

tick_stays : (p : Settings) (s : SenderState) (now node : ℕ) (at : Position) → is_listed_past s node at ≡ true → is_listed_past (ticked p s now).0 node at ≡ true
tick_stays p s now node at h = tick_keeps p (λ (t : SenderState). is_listed_past t node at ≡ true) (record {
  closes = λ t r k. k;
  squelched = λ t k. k;
  repaired = λ t w wants e k. k;
  goes_on = λ t w e k. k;
  notes = λ t w k. noted_stays t w k;
  flushes = λ t now k. k;
  expires = λ t w e k. anew_listed t (end_where (λ v. v.mark == w.mark) (λ v. Expired (length (pending t v.at))) t) node at k;
  spends = λ t moment k. k;
}) s now h
  where
    noted_stays : (t : SenderState) (w : Want) → is_listed_past t node at ≡ true → is_listed_past (noted w t) node at ≡ true
    noted_stays t (Info index) k = k
    noted_stays t (Symbol of) k = k

stays : (p : Settings) (s : SenderState) (event : SenderEvent) (node : ℕ) (at : Position) → IsNoCommand event → is_listed_past s node at ≡ true
    → is_listed_past (sender_step p s event).0 node at ≡ true
stays p s (Commanded by job now) node at none h = absurd none
stays p s (Delivered datagram now) node at none h = heard_stays p s now node at (decoded datagram) h
stays p s (Ticked now) node at none h = tick_stays p s now node at h
stays p s NewsAsked node at none h = told_stays s node at h

pub flush_listed : FlushListed
flush_listed = record { lists = lists; stays = stays }
