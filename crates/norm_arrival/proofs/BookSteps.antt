-- Who the members of a sender are, and what its watermarks ask for, along its steps; and that each watermark that ended was satisfied,
-- with all members listed past it, or expired, which is still to be told.
use Rattle.std.proofs.Common.{◌≡◌, ℕ, suc, ◌+◌, ◌<◌, ◌≤◌, cond, List, [], ◌∷◌, ◌++◌, length, map, Bool, true, false, Option, None, Some, Result, Ok, refl, sym, ap, ◌∙◌, subst, arith, ◌⊎◌, inl, inr}
use Rattle.std.specs.Prelude.{filter, find, not, nat_lt, nat_le, ◌==◌, ◌&&◌, ⊤}
use Rattle.std.specs.List.{AllByRecursion, list_all, range_with_len}
use Rattle.std.proofs.lemmas.Bool.Decides.{Decides-eqb, Decides-not, leb_tells}
use Rattle.std.proofs.lemmas.Option.{none-some, same_Some}
use Rattle.norm_base.specs.Settings.{Settings}
use Rattle.norm_base.specs.declared.node.Origin.{Origin}
use Rattle.fec_plan.specs.Points.{position_before, reaches}
use Rattle.fec_plan.specs.declared.position.Position.{Position}
use Rattle.fec_plan.proofs.PositionLemmas.{before_decides, not_both, behind, behind_both, reached}
use Rattle.norm_ext.specs.Asking.{item_named}
use Rattle.norm_ext.specs.Message.{Message, Nack, Ack, AckContent, Mark, Unread}
use Rattle.norm_ext.specs.Requests.{Request}
use Rattle.norm_order.specs.Sets.{with_member}
use Rattle.norm_order.specs.Shapes.{is_source}
use Rattle.norm_send_rules.specs.SenderState.{SenderState, Listing, Watermark}
use Rattle.norm_send_rules.specs.InWindow.{last_index, current_shapes}
use Rattle.norm_send_rules.specs.Watermarks.{is_past, is_open, is_met, needed, count_past, watermark_of, outcome_of, keeps_oldest, counted_anew, ended_with, end_where, told_later, settled, pending}
use Rattle.norm_send_rules.specs.Marking.{with_watermark}
use Rattle.norm_send_rules.specs.Hearing.{listed_past, rises, credited_at, credited_by, joined_round, nack_counts, ack_counts, message_heard}
use Rattle.norm_send_rules.specs.Reached.{marks_of}
use Rattle.norm_send_rules.specs.Sending.{noted}
use Rattle.norm_send_rules.specs.Flushing.{expired}
use Rattle.norm_send_rules.specs.Telling.{listing_of, past_news, done_news, told}
use Rattle.norm_send_rules.specs.Ticking.{ticked}
use Rattle.norm_send_rules.specs.declared.news.News.{News}
use Rattle.norm_send_rules.specs.declared.news.News.TheVariants.{Done}
use Rattle.norm_send_rules.specs.declared.news.Outcome.{Outcome}
use Rattle.norm_send_rules.specs.declared.news.Outcome.TheVariants.{Open, Satisfied, Expired, Cut}
use Rattle.norm_send_rules.specs.declared.want.Want.{Want}
use Rattle.norm_send_rules.specs.declared.want.Want.TheVariants.{Info, Symbol}
use Rattle.norm_send_rules.proofs.TickLemmas.{tick_keeps}
use Rattle.norm_safety.proofs.EntryLemmas.{clash}
use Rattle.norm_safety.proofs.Members.{struck_in, kept_with, there_with, of_or}
use Rattle.norm_safety.proofs.SenderKeeps.{nodes_in}
use Rattle.norm_journal.specs.Counts.{is_expired}
use Rattle.norm_journal.specs.declared.event.Event.TheVariants as event
use Rattle.norm_journal.proofs.NameLemmas.{both, both_true}

-- how a watermark may have ended, with these listings and these outcomes that are to be told
abbrev pub EndedWell : List Listing → List ℕ → ℕ → Position → Option Outcome → Type 0
EndedWell ls untold mark at None = ⊤
EndedWell ls untold mark at (Some Satisfied) = list_all (is_past at) ls ≡ true
EndedWell ls untold mark at (Some (Expired left)) = struck_in mark untold ≡ true
EndedWell ls untold mark at (Some (Open left)) = ⊥
EndedWell ls untold mark at (Some Cut) = ⊥

-- a watermark asks for every member, and ended so if it did
pub record IsWell (ls : List Listing) (untold : List ℕ) (w : Watermark) : Type 0 where
  pub every : w.quorum ≡ None
  pub ended : EndedWell ls untold w.mark w.at w.ended

-- what watermarks ask for
abbrev pub asked_in : List Watermark → List (Option Position)
asked_in ws = map (λ (w : Watermark). Some w.at) ws

-- these are the members, this is asked for, and each watermark is well
pub record Book (nodes : List ℕ) (asked : List (Option Position)) (s : SenderState) : Type 0 where
  pub members : nodes_in s.listings ≡ nodes
  pub asks : asked_in s.watermarks ≡ asked
  pub well : AllByRecursion (IsWell s.listings s.untold_marks) s.watermarks

-- ---- some watermarks end

ended_later : (ls : List Listing) (untold later : List ℕ) (mark : ℕ) (at : Position) (o : Option Outcome)
    → (struck_in mark untold ≡ true → struck_in mark later ≡ true) → EndedWell ls untold mark at o → EndedWell ls later mark at o
ended_later ls untold later mark at None more h = tt
ended_later ls untold later mark at (Some Satisfied) more h = h
ended_later ls untold later mark at (Some (Expired left)) more h = more h
ended_later ls untold later mark at (Some (Open left)) more h = h
ended_later ls untold later mark at (Some Cut) more h = h

-- each that ends by a test does so well
abbrev EndWell : List Listing → List ℕ → (Watermark → Bool) → (Watermark → Outcome) → List Watermark → Type 0
EndWell ls later test outcome ws = AllByRecursion (λ (w : Watermark). (is_open w && test w) ≡ true → EndedWell ls later w.mark w.at (Some (outcome w))) ws

-- the same watermarks, some of them ended
abbrev after : (Watermark → Bool) → (Watermark → Outcome) → List Watermark → List Watermark
after test outcome ws = map (λ w. cond (is_open w && test w) (ended_with (outcome w) w) w) ws

ended_well : (ls : List Listing) (untold later : List ℕ) (test : Watermark → Bool) (outcome : Watermark → Outcome)
    → ((mark : ℕ) → struck_in mark untold ≡ true → struck_in mark later ≡ true) → (ws : List Watermark) → AllByRecursion (IsWell ls untold) ws
    → EndWell ls later test outcome ws → AllByRecursion (IsWell ls later) (after test outcome ws)
ended_well ls untold later test outcome more [] well ends = tt
ended_well ls untold later test outcome more (w ∷ ws) well ends =
    (go (is_open w && test w) refl, ended_well ls untold later test outcome more ws well.1 ends.1)
  where
    go : (b : Bool) → (is_open w && test w) ≡ b → IsWell ls later (cond b (ended_with (outcome w) w) w)
    go true e = record { every = well.0.every; ended = ends.0 e }
    go false e = record { every = well.0.every; ended = ended_later ls untold later w.mark w.at w.ended (more w.mark) well.0.ended }

ended_asks : (test : Watermark → Bool) (outcome : Watermark → Outcome) (ws : List Watermark) → asked_in (after test outcome ws) ≡ asked_in ws
ended_asks test outcome [] = refl
ended_asks test outcome (w ∷ ws) = go (is_open w && test w) (ended_asks test outcome ws)
  where
    at_of : Watermark → Option Position
    at_of x = Some x.at

    go : (b : Bool) → asked_in (after test outcome ws) ≡ asked_in ws
        → (at_of (cond b (ended_with (outcome w) w) w) ∷ asked_in (after test outcome ws)) ≡ Some w.at ∷ asked_in ws
    go true e = ap (λ (xs : List (Option Position)). Some w.at ∷ xs) e
    go false e = ap (λ (xs : List (Option Position)). Some w.at ∷ xs) e

-- what is to be told stays so, and what ends is to be told
later_keeps : (ws : List Watermark) (xs : List ℕ) (mark : ℕ) → struck_in mark xs ≡ true → struck_in mark (told_later ws xs) ≡ true
later_keeps [] xs mark h = h
later_keeps (w ∷ ws) xs mark h = later_keeps ws (with_member nat_lt w.mark xs) mark (kept_with mark w.mark xs h)

abbrev HasAll : (Watermark → Bool) → List ℕ → List Watermark → Type 0
HasAll test later ws = AllByRecursion (λ (w : Watermark). test w ≡ true → struck_in w.mark later ≡ true) ws

later_has : (test : Watermark → Bool) (ws : List Watermark) (xs : List ℕ) → HasAll test (told_later (filter test ws) xs) ws
later_has test [] xs = tt
later_has test (w ∷ ws) xs = go (test w) refl (λ ys. later_has test ws ys)
  where
    go : (b : Bool) → test w ≡ b → ((ys : List ℕ) → HasAll test (told_later (filter test ws) ys) ws)
        → HasAll test (told_later (cond b (w ∷ filter test ws) (filter test ws)) xs) (w ∷ ws)
    go true e more = (λ is. later_keeps (filter test ws) (with_member nat_lt w.mark xs) w.mark (there_with w.mark xs), more (with_member nat_lt w.mark xs))
    go false e more = (λ is. absurd (clash (sym e ∙ is)), more xs)

-- what is to be told after some ended
abbrev told_then : (Watermark → Bool) → SenderState → List ℕ
told_then test s = told_later (filter (λ w. is_open w && test w) s.watermarks) s.untold_marks

ended_book : (nodes : List ℕ) (asked : List (Option Position)) (test : Watermark → Bool) (outcome : Watermark → Outcome) (s : SenderState)
    → EndWell s.listings (told_then test s) test outcome s.watermarks → Book nodes asked s → Book nodes asked (end_where test outcome s)
ended_book nodes asked test outcome s ends h = record {
  members = h.members;
  asks = ended_asks test outcome s.watermarks ∙ h.asks;
  well = ended_well s.listings s.untold_marks (told_then test s) test outcome
      (λ mark. later_keeps (filter (λ w. is_open w && test w) s.watermarks) s.untold_marks mark) s.watermarks h.well ends;
}

counted_book : (nodes : List ℕ) (asked : List (Option Position)) (old new : SenderState) → Book nodes asked new → Book nodes asked (counted_anew old new)
counted_book nodes asked old new h = go (keeps_oldest old new)
  where
    go : (b : Bool) → Book nodes asked (elim b [ true ↦ new | false ↦ record new { flushes = 0 } ])
    go true = h
    go false = record { members = h.members; asks = h.asks; well = h.well }

-- ---- satisfied is what all members are listed past

filter_few : {X : Type 0} (test : X → Bool) (xs : List X) → length (filter test xs) ≤ length xs
filter_few test [] = omega arith
filter_few test (x ∷ xs) = go (test x) (filter_few test xs)
  where
    go : (b : Bool) → length (filter test xs) ≤ length xs → length (cond b (x ∷ filter test xs) (filter test xs)) ≤ suc (length xs)
    go true le = omega (arith, le)
    go false le = omega (arith, le)

all_counted : {X : Type 0} (test : X → Bool) (xs : List X) → length xs ≤ length (filter test xs) → list_all test xs ≡ true
all_counted test [] le = refl
all_counted test (x ∷ xs) le = go (test x) le (all_counted test xs)
  where
    go : (b : Bool) → suc (length xs) ≤ length (cond b (x ∷ filter test xs) (filter test xs)) → (length xs ≤ length (filter test xs) → list_all test xs ≡ true)
        → (b && list_all test xs) ≡ true
    go true le more = more (omega (arith, le))
    go false le more = (let few = filter_few test xs in absurd (omega (arith, le, few)))

le_from : (a b : ℕ) → nat_le a b ≡ true → a ≤ b
le_from a b h = go (leb_tells a b)
  where
    go : ((nat_le a b ≡ true) × (a ≤ b)) ⊎ ((nat_le a b ≡ false) × (b < a)) → a ≤ b
    go (inl tells) = tells.1
    go (inr tells) = absurd (clash (sym tells.0 ∙ h))

met_all : (s : SenderState) (w : Watermark) → w.quorum ≡ None → is_met s w ≡ true → list_all (is_past w.at) s.listings ≡ true
met_all s w every met =
    let M : Option ℕ → Type 0 = λ q. nat_le (needed s q) (count_past s w.at) ≡ true in
    all_counted (is_past w.at) s.listings (le_from (length s.listings) (length (filter (is_past w.at) s.listings)) (subst M every met))

settled_ends : (s : SenderState) (untold later : List ℕ) (ws : List Watermark) → AllByRecursion (IsWell s.listings untold) ws
    → EndWell s.listings later (is_met s) (λ w. Satisfied) ws
settled_ends s untold later [] well = tt
settled_ends s untold later (w ∷ ws) well =
    (λ e. met_all s w well.0.every (both (is_open w) (is_met s w) e).1, settled_ends s untold later ws well.1)

settled_book : (nodes : List ℕ) (asked : List (Option Position)) (s : SenderState) → Book nodes asked s → Book nodes asked (settled s)
settled_book nodes asked s h =
    ended_book nodes asked (is_met s) (λ w. Satisfied) s (settled_ends s s.untold_marks (told_then (is_met s) s) s.watermarks h.well) h

-- ---- one more watermark

all_more : {X : Type 0} (P : X → Type 0) (xs : List X) (x : X) → AllByRecursion P xs → P x → AllByRecursion P (xs ++ x ∷ [])
all_more P [] x all h = (h, tt)
all_more P (y ∷ xs) x all h = (all.0, all_more P xs x all.1 h)

asked_more : (ws : List Watermark) (w : Watermark) → asked_in (ws ++ w ∷ []) ≡ asked_in ws ++ Some w.at ∷ []
asked_more [] w = refl
asked_more (v ∷ ws) w = ap (λ (xs : List (Option Position)). Some v.at ∷ xs) (asked_more ws w)

pub marked_book : (nodes : List ℕ) (asked : List (Option Position)) (s : SenderState) (by : Origin) (at : Position) → Book nodes asked s
    → Book nodes (asked ++ Some at ∷ []) (with_watermark s by None at)
marked_book nodes asked s by at h =
    let w : Watermark = record { mark = length s.watermarks + 1; by = by; at = at; quorum = None; ended = None } in
    let more : SenderState = record s { watermarks = s.watermarks ++ w ∷ [] } in
    counted_book nodes (asked ++ Some at ∷ []) s (settled more) (settled_book nodes (asked ++ Some at ∷ []) more (record {
      members = h.members;
      asks = asked_more s.watermarks w ∙ ap (λ (xs : List (Option Position)). xs ++ Some at ∷ []) h.asks;
      well = all_more (IsWell s.listings s.untold_marks) s.watermarks w h.well (record { every = refl; ended = tt });
    }))

-- ---- a tick

noted_book : (nodes : List ℕ) (asked : List (Option Position)) (s : SenderState) (w : Want) → Book nodes asked s → Book nodes asked (noted w s)
noted_book nodes asked s (Info index) h = record { members = h.members; asks = h.asks; well = h.well }
noted_book nodes asked s (Symbol at) h = record { members = h.members; asks = h.asks; well = h.well }

expired_book : (nodes : List ℕ) (asked : List (Option Position)) (s : SenderState) (mark : ℕ) → Book nodes asked s → Book nodes asked (expired mark s)
expired_book nodes asked s mark h =
    counted_book nodes asked s _ (ended_book nodes asked (λ v. v.mark == mark) (λ v. Expired (length (pending s v.at))) s
    (later_has (λ v. is_open v && v.mark == mark) s.watermarks s.untold_marks) h)

pub tick_book : (nodes : List ℕ) (asked : List (Option Position)) (p : Settings) (s : SenderState) (now : ℕ) → Book nodes asked s
    → Book nodes asked (ticked p s now).0
tick_book nodes asked p s now h = tick_keeps p (Book nodes asked) (record {
  closes = λ t r h. record { members = h.members; asks = h.asks; well = h.well };
  squelched = λ t h. record { members = h.members; asks = h.asks; well = h.well };
  repaired = λ t w wants e h. record { members = h.members; asks = h.asks; well = h.well };
  goes_on = λ t w e h. record { members = h.members; asks = h.asks; well = h.well };
  notes = λ t w h. noted_book nodes asked t w h;
  flushes = λ t now h. record { members = h.members; asks = h.asks; well = h.well };
  expires = λ t w e h. expired_book nodes asked t w.mark h;
  spends = λ t moment h. record { members = h.members; asks = h.asks; well = h.well };
}) s now h

-- ---- what is heard

-- what is not past a position is before it, and so the position is further
further_reaches : (past at : Position) → reaches past at ≡ false → reaches at past ≡ true
further_reaches past at e =
    (Decides-not _ (before_decides at past)).1 (not_both past at (inr ((before_decides past at).0 (back (position_before past at) e))))
  where
    back : (b : Bool) → not b ≡ false → b ≡ true
    back true f = refl
    back false f = absurd (clash (sym f))

past_risen : (node : ℕ) (at asked : Position) (l : Listing) → is_past asked l ≡ true → is_past asked (listed_past node at l) ≡ true
past_risen node at asked l h = go (l.node == node) (is_past at l) refl
  where
    further : (o : Option Position) → (elim o [ Some past ↦ reaches past asked | None ↦ false ]) ≡ true
        → (elim o [ Some past ↦ reaches past at | None ↦ false ]) ≡ false → reaches at asked ≡ true
    further None h f = absurd (clash h)
    further (Some past) h f = reached at asked (behind_both at past asked (behind at past (further_reaches past at f)) (behind past asked h))

    go : (b c : Bool) → is_past at l ≡ c
        → is_past asked (elim (b && c) [ true ↦ l | false ↦ elim b [ true ↦ record l { past = Some at } | false ↦ l ] ]) ≡ true
    go true true f = h
    go true false f = further l.past h f
    go false c f = h

all_risen : (node : ℕ) (at asked : Position) (ls : List Listing) → list_all (is_past asked) ls ≡ true
    → list_all (is_past asked) (map (listed_past node at) ls) ≡ true
all_risen node at asked [] h = refl
all_risen node at asked (l ∷ ls) h =
    let two = both (is_past asked l) (list_all (is_past asked) ls) h in
    both_true (is_past asked (listed_past node at l)) (list_all (is_past asked) (map (listed_past node at) ls)) (past_risen node at asked l two.0)
    (all_risen node at asked ls two.1)

risen_well : (node : ℕ) (at : Position) (ls : List Listing) (untold : List ℕ) (ws : List Watermark) → AllByRecursion (IsWell ls untold) ws
    → AllByRecursion (IsWell (map (listed_past node at) ls) untold) ws
risen_well node at ls untold [] well = tt
risen_well node at ls untold (w ∷ ws) well =
    (record { every = well.0.every; ended = go w.ended well.0.ended }, risen_well node at ls untold ws well.1)
  where
    go : (o : Option Outcome) → EndedWell ls untold w.mark w.at o → EndedWell (map (listed_past node at) ls) untold w.mark w.at o
    go None h = tt
    go (Some Satisfied) h = all_risen node at w.at ls h
    go (Some (Expired left)) h = h
    go (Some (Open left)) h = h
    go (Some Cut) h = h

risen_nodes : (node : ℕ) (at : Position) (ls : List Listing) → nodes_in (map (listed_past node at) ls) ≡ nodes_in ls
risen_nodes node at [] = refl
risen_nodes node at (l ∷ ls) = go (l.node == node && is_past at l) (l.node == node) (risen_nodes node at ls)
  where
    node_of : Listing → ℕ
    node_of x = x.node

    go : (b c : Bool) → nodes_in (map (listed_past node at) ls) ≡ nodes_in ls
        → (node_of (elim b [ true ↦ l | false ↦ elim c [ true ↦ record l { past = Some at } | false ↦ l ] ]) ∷ nodes_in (map (listed_past node at) ls))
        ≡ l.node ∷ nodes_in ls
    go true c e = ap (λ (ns : List ℕ). l.node ∷ ns) e
    go false true e = ap (λ (ns : List ℕ). l.node ∷ ns) e
    go false false e = ap (λ (ns : List ℕ). l.node ∷ ns) e

credited_book : (nodes : List ℕ) (asked : List (Option Position)) (p : Settings) (node : ℕ) (at : Position) (s : SenderState) → Book nodes asked s
    → Book nodes asked (credited_at p node at s)
credited_book nodes asked p node at s h = go (is_source (current_shapes p s) at) (rises node at s)
  where
    risen : SenderState
    risen = record s { listings = map (listed_past node at) s.listings; untold_nodes = with_member nat_lt node s.untold_nodes }

    risen_is : Book nodes asked risen
    risen_is = record {
      members = risen_nodes node at s.listings ∙ h.members;
      asks = h.asks;
      well = risen_well node at s.listings s.untold_marks s.watermarks h.well;
    }

    go : (b c : Bool) → Book nodes asked (elim b [ true ↦ elim c [ true ↦ counted_anew s (settled risen) | false ↦ s ] | false ↦ s ])
    go true true = counted_book nodes asked s (settled risen) (settled_book nodes asked risen risen_is)
    go true false = h
    go false c = h

pub heard_book : {E : Type 0} (nodes : List ℕ) (asked : List (Option Position)) (p : Settings) (s : SenderState) (now : ℕ) (read : Result Message E)
    → Book nodes asked s → Book nodes asked (message_heard p s now read)
heard_book nodes asked p s now (Ok (Nack m)) h = go (nack_counts p s m) m.requests
  where
    go : (b : Bool) (requests : List Request) → Book nodes asked (elim b [ true ↦ joined_round p s now requests | false ↦ s ])
    go true [] = h
    go true (r ∷ requests) = record { members = h.members; asks = h.asks; well = h.well }
    go false requests = h
heard_book nodes asked p s now (Ok (Ack m)) h = go (ack_counts p s m) m.content
  where
    by : (at : Option Position) → Book nodes asked (credited_by p m.source at s)
    by None = h
    by (Some at) = credited_book nodes asked p m.source at s h

    go : (b : Bool) (content : AckContent) → Book nodes asked (elim b [
      | true ↦ elim content [ Mark item ↦ credited_by p m.source (item_named p (last_index s) item) s | Unread octets ↦ s ]
      | false ↦ s
    ])
    go true (Mark item) = by (item_named p (last_index s) item)
    go true (Unread octets) = h
    go false content = h
heard_book nodes asked p s now _ h = h

-- ---- news

-- the watermark of a list with a number
abbrev in_list : List Watermark → ℕ → Option Watermark
in_list ws mark = find (λ (x : Watermark). x.mark == mark) ws

heads : {a b : ℕ} {xs ys : List ℕ} → (a ∷ xs) ≡ (b ∷ ys) → a ≡ b
heads e = cc

tails : {a b : ℕ} {xs ys : List ℕ} → (a ∷ xs) ≡ (b ∷ ys) → xs ≡ ys
tails e = cc

-- the numbers go on after the first
rest_numbered : (k : ℕ) (w : Watermark) (ws : List Watermark) → marks_of (w ∷ ws) ≡ range_with_len (suc k) (length (w ∷ ws))
    → marks_of ws ≡ range_with_len (suc (suc k)) (length ws)
rest_numbered k w ws e = tails e ∙ ap (λ (n : ℕ). range_with_len n (length ws)) (let h : suc k + 1 ≡ suc (suc k) = omega arith in h)

abbrev AllAbove : ℕ → List Watermark → Type 0
AllAbove k ws = AllByRecursion (λ (w : Watermark). k < w.mark) ws

numbered_above : (k : ℕ) (ws : List Watermark) → marks_of ws ≡ range_with_len (suc k) (length ws) → AllAbove k ws
numbered_above k [] e = tt
numbered_above k (w ∷ ws) e =
    let head : w.mark ≡ suc k = heads e in (omega (arith, head), further ws (numbered_above (suc k) ws (rest_numbered k w ws e)))
  where
    further : (vs : List Watermark) → AllAbove (suc k) vs → AllAbove k vs
    further [] all = tt
    further (v ∷ vs) all = (omega (arith, all.0), further vs all.1)

differs : (a b : ℕ) → a < b → (a == b) ≡ false
differs a b lt = go (a == b) refl
  where
    go : (t : Bool) → (a == b) ≡ t → (a == b) ≡ false
    go true is = (let same = (Decides-eqb a b).0 is in absurd (omega (arith, same, lt)))
    go false is = is

-- each watermark is found by its number
abbrev AllFound : List Watermark → List Watermark → Type 0
AllFound all ws = AllByRecursion (λ (w : Watermark). in_list all w.mark ≡ Some w) ws

found_all : (k : ℕ) (ws : List Watermark) → marks_of ws ≡ range_with_len (suc k) (length ws) → AllFound ws ws
found_all k [] e = tt
found_all k (w ∷ ws) e =
    let head : w.mark ≡ suc k = heads e in
    let more = rest_numbered k w ws e in (
      ap (λ (b : Bool). cond b (Some w) (in_list ws w.mark)) ((Decides-eqb w.mark w.mark).1 refl),
      later ws (numbered_above (suc k) ws more) (found_all (suc k) ws more) head,
    )
  where
    later : (vs : List Watermark) → AllAbove (suc k) vs → AllFound ws vs → w.mark ≡ suc k → AllFound (w ∷ ws) vs
    later [] above found head = tt
    later (v ∷ vs) above found head = (
      ap (λ (b : Bool). cond b (Some w) (in_list ws v.mark)) (differs w.mark v.mark (omega (arith, head, above.0))) ∙ found.0,
      later vs above.1 found.1 head,
    )

-- a watermark whose end is told did not expire, and any other is to be told still
told_well : (s : SenderState) (mark : ℕ) (marks : List ℕ) (news : News) → done_news s mark (watermark_of s mark) ≡ Some news
    → is_expired (event.News news) ≡ false → (ws : List Watermark) → AllFound s.watermarks ws → AllByRecursion (IsWell s.listings (mark ∷ marks)) ws
    → AllByRecursion (IsWell s.listings marks) ws
told_well s mark marks news is not_it [] found well = tt
told_well s mark marks news is not_it (w ∷ ws) found well =
    (record { every = well.0.every; ended = go w.ended refl well.0.ended }, told_well s mark marks news is not_it ws found.1 well.1)
  where
    outcome_by : Option Outcome → Outcome
    outcome_by ended = elim ended [ Some outcome ↦ outcome | None ↦ Open (length (pending s w.at)) ]

    by : (left : ℕ) → w.ended ≡ Some (Expired left) → (mark ≡ w.mark) → ⊥
    by left ended same =
        let F : ℕ → Type 0 = λ n. done_news s n (in_list s.watermarks n) ≡ Some news in
        let own : done_news s w.mark (in_list s.watermarks w.mark) ≡ Some news = subst F same is in
        let tells : Some (Done w.mark (outcome_of s w)) ≡ Some news = sym (ap (λ (o : Option Watermark). done_news s w.mark o) found.0) ∙ own in
        let expired : outcome_of s w ≡ Expired left = ap outcome_by ended in
        let E : News → Type 0 = λ n. is_expired (event.News n) ≡ true in
        let it : is_expired (event.News news) ≡ true =
        subst E (same_Some (Done w.mark (outcome_of s w)) news tells) (let O : Outcome → Type 0 = λ o. is_expired (event.News (Done w.mark o)) ≡ true in subst O (sym expired) refl) in
        clash (sym not_it ∙ it)

    go : (o : Option Outcome) → w.ended ≡ o → EndedWell s.listings (mark ∷ marks) w.mark w.at o → EndedWell s.listings marks w.mark w.at o
    go None e h = tt
    go (Some Satisfied) e h = h
    go (Some (Expired left)) e h = which (of_or (mark == w.mark) (struck_in w.mark marks) h)
      where
        which : ((mark == w.mark) ≡ true) ⊎ (struck_in w.mark marks ≡ true) → struck_in w.mark marks ≡ true
        which (inl same) = absurd (by left e ((Decides-eqb mark w.mark).0 same))
        which (inr there) = there
    go (Some (Open left)) e h = h
    go (Some Cut) e h = h

pub told_book : (nodes : List ℕ) (asked : List (Option Position)) (s : SenderState) (news : News)
    → marks_of s.watermarks ≡ range_with_len 1 (length s.watermarks) → (told s).1 ≡ Some news → is_expired (event.News news) ≡ false → Book nodes asked s
    → Book nodes asked (told s).0
told_book nodes asked s news numbered is not_it h = go s.untold_nodes s.untold_marks refl is
  where
    by : List ℕ → List ℕ → SenderState × Option News
    by listed marks = elim listed [
      | node ∷ others ↦ (record s { untold_nodes = others }, past_news node (listing_of s node))
      | [] ↦ elim marks [
        | mark ∷ others ↦ (record s { untold_marks = others }, done_news s mark (watermark_of s mark))
        | [] ↦ (s, None)
      ]
    ]

    go : (listed marks : List ℕ) → s.untold_marks ≡ marks → (by listed marks).1 ≡ Some news → Book nodes asked (by listed marks).0
    go (node ∷ listed) marks has e = record { members = h.members; asks = h.asks; well = h.well }
    go [] (mark ∷ marks) has e =
        let W : List ℕ → Type 0 = λ untold. AllByRecursion (IsWell s.listings untold) s.watermarks in
        record {
          members = h.members;
          asks = h.asks;
          well = told_well s mark marks news e not_it s.watermarks (found_all 0 s.watermarks numbered) (subst W has h.well);
        }
    go [] [] has e = absurd (none-some news e)
