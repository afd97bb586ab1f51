-- What each step of the sender keeps of its book: listings, watermarks, and what is to be told of them.
use Rattle.std.proofs.Common.{◌≡◌, ℕ, zero, suc, ◌+◌, ◌≤◌, cond, List, [], ◌∷◌, ◌++◌, length, map, Bool, true, false, Option, None, Some, Result, Ok, refl, sym, ap, ◌∙◌, subst, arith}
use Rattle.std.specs.Prelude.{filter, find, not, nat_lt, is_some, ◌==◌, ◌&&◌, ◌||◌}
use Rattle.std.specs.List.{AllByRecursion, range_with_len, list_any}
use Rattle.std.proofs.lemmas.Bool.Decides.{Decides-eqb}
use Rattle.std.proofs.lemmas.List.{map-append, length-append, length-map}
use Rattle.norm_base.specs.Settings.{Settings}
use Rattle.fec_plan.specs.declared.position.Position.{Position}
use Rattle.norm_ext.specs.Message.{Message, Nack, Ack, AckContent, Mark, Unread}
use Rattle.norm_ext.specs.Requests.{Request}
use Rattle.norm_ext.specs.Asking.{item_named}
use Rattle.norm_order.specs.Sets.{with_member}
use Rattle.norm_order.specs.Shapes.{is_source}
use Rattle.norm_send_rules.specs.SenderState.{SenderState, Listing, Watermark, unlisted, begun}
use Rattle.norm_send_rules.specs.InWindow.{last_index, current_shapes}
use Rattle.norm_send_rules.specs.Watermarks.{members, is_past, is_open, ended_with, told_later, end_where, settled, counted_anew, keeps_oldest, watermark_of}
use Rattle.norm_send_rules.specs.Striking.{without_node, struck_off}
use Rattle.norm_send_rules.specs.Restarting.{instances, begun_anew}
use Rattle.norm_send_rules.specs.Hearing.{listed_past, rises, credited, credited_by, joined_round, nack_counts, ack_counts, message_heard}
use Rattle.norm_send_rules.specs.Telling.{listing_of, past_news, done_news, told}
use Rattle.norm_send_rules.specs.Reached.{marks_of, BookHolds}
use Rattle.norm_send_rules.specs.declared.news.Outcome.{Outcome}
use Rattle.norm_send_rules.specs.declared.news.Outcome.TheVariants.{Cut}
use Rattle.norm_send_rules.specs.declared.news.News.{News}
use Rattle.norm_send_rules.specs.declared.want.Want.TheVariants.{Info}

clash : false ≡ true → ⊥
clash e = cc

-- what a node is listed past, by the listings alone
abbrev past_in : List Listing → ℕ → Option Position
past_in listings node = elim (find (λ (l : Listing). l.node == node) listings) [ Some l ↦ l.past | None ↦ None ]

-- it is listed past something
abbrev IsListed : List Listing → ℕ → Type 0
IsListed listings node = is_some (past_in listings node) ≡ true

-- there is a watermark with this number
abbrev HasMark : List Watermark → ℕ → Type 0
HasMark watermarks mark = is_some (find (λ (w : Watermark). w.mark == mark) watermarks) ≡ true

-- the parts of a state that its book is
pub record Book : Type 0 where
  pub listings : List Listing
  pub watermarks : List Watermark
  pub nodes : List ℕ
  pub marks : List ℕ

abbrev pub book_of : SenderState → Book
book_of s = record { listings = s.listings; watermarks = s.watermarks; nodes = s.untold_nodes; marks = s.untold_marks }

pub same_book : (s t : SenderState) → book_of t ≡ book_of s → BookHolds s → BookHolds t
same_book s t e h =
    let M : Book → Type 0 = λ b. length b.listings ≤ 16 in
    let N : Book → Type 0 = λ b. marks_of b.watermarks ≡ range_with_len 1 (length b.watermarks) in
    let R : Book → Type 0 = λ b. AllByRecursion (IsListed b.listings) b.nodes in
    let O : Book → Type 0 = λ b. AllByRecursion (HasMark b.watermarks) b.marks in
    record { members = subst M (sym e) h.members; numbered = subst N (sym e) h.numbered; rises = subst R (sym e) h.rises; outcomes = subst O (sym e) h.outcomes }

all_implied : (P Q : ℕ → Type 0) (xs : List ℕ) → ((x : ℕ) → P x → Q x) → AllByRecursion P xs → AllByRecursion Q xs
all_implied P Q [] each all = tt
all_implied P Q (x ∷ xs) each all = (each x all.0, all_implied P Q xs each all.1)

-- a set with one more member holds what the member holds
member_all : (P : ℕ → Type 0) (x : ℕ) (xs : List ℕ) → P x → AllByRecursion P xs → AllByRecursion P (with_member nat_lt x xs)
unfolding with_member
member_all P x [] h all = (h, tt)
member_all P x (y ∷ ys) h all = go (nat_lt x y) (nat_lt y x) (member_all P x ys h all.1)
  where
    go : (b c : Bool) → AllByRecursion P (with_member nat_lt x ys)
        → AllByRecursion P (elim b [ true ↦ x ∷ y ∷ ys | false ↦ elim c [ true ↦ y ∷ with_member nat_lt x ys | false ↦ y ∷ ys ] ])
    go true c more = (h, all)
    go false true more = (all.0, more)
    go false false more = all

-- ---- watermarks that end

-- the marks of watermarks of which some end
ended_marks : (test : Watermark → Bool) (outcome : Watermark → Outcome) (ws : List Watermark)
    → marks_of (map (λ w. cond (is_open w && test w) (ended_with (outcome w) w) w) ws) ≡ marks_of ws
ended_marks test outcome [] = refl
ended_marks test outcome (w ∷ ws) = go (is_open w && test w) (ended_marks test outcome ws)
  where
    go : (b : Bool) {rest : List ℕ} → rest ≡ marks_of ws → ((cond b (ended_with (outcome w) w) w).mark ∷ rest) ≡ (w.mark ∷ marks_of ws)
    go true e = ap (λ (xs : List ℕ). w.mark ∷ xs) e
    go false e = ap (λ (xs : List ℕ). w.mark ∷ xs) e

-- a number is one of these
abbrev IsAmong : List ℕ → ℕ → Type 0
IsAmong marks mark = list_any (λ m. m == mark) marks ≡ true

found_among : (mark : ℕ) (ws : List Watermark) → IsAmong (marks_of ws) mark → HasMark ws mark
found_among mark [] e = e
found_among mark (w ∷ ws) e = go (w.mark == mark) (found_among mark ws) e
  where
    go : (b : Bool) → (IsAmong (marks_of ws) mark → HasMark ws mark) → (b || list_any (λ m. m == mark) (marks_of ws)) ≡ true
        → is_some (cond b (Some w) (find (λ (v : Watermark). v.mark == mark) ws)) ≡ true
    go true more e = refl
    go false more e = more e

among_found : (mark : ℕ) (ws : List Watermark) → HasMark ws mark → IsAmong (marks_of ws) mark
among_found mark [] e = e
among_found mark (w ∷ ws) e = go (w.mark == mark) (among_found mark ws) e
  where
    go : (b : Bool) → (HasMark ws mark → IsAmong (marks_of ws) mark) → is_some (cond b (Some w) (find (λ (v : Watermark). v.mark == mark) ws)) ≡ true
        → (b || list_any (λ m. m == mark) (marks_of ws)) ≡ true
    go true more e = refl
    go false more e = more e

-- where the marks are the same, so are those that are found
found_still : (ws vs : List Watermark) → marks_of vs ≡ marks_of ws → (mark : ℕ) → HasMark ws mark → HasMark vs mark
found_still ws vs e mark h =
    let A : List ℕ → Type 0 = λ ms. IsAmong ms mark in
    found_among mark vs (subst A (sym e) (among_found mark ws h))

among_more : (mark m : ℕ) (marks : List ℕ) → IsAmong marks mark → IsAmong (m ∷ marks) mark
among_more mark m marks e = go (m == mark)
  where
    go : (b : Bool) → (b || list_any (λ m. m == mark) marks) ≡ true
    go true = refl
    go false = e

itself_among : (mark : ℕ) (marks : List ℕ) → IsAmong (mark ∷ marks) mark
itself_among mark marks = ap (λ (b : Bool). b || list_any (λ m. m == mark) marks) ((Decides-eqb mark mark).1 refl)

filtered_among : (test : Watermark → Bool) (ws : List Watermark) → AllByRecursion (λ (w : Watermark). IsAmong (marks_of ws) w.mark) (filter test ws)
filtered_among test [] = tt
filtered_among test (w ∷ ws) = go (test w) (further (filter test ws) (filtered_among test ws))
  where
    further : (vs : List Watermark) → AllByRecursion (λ (v : Watermark). IsAmong (marks_of ws) v.mark) vs
        → AllByRecursion (λ (v : Watermark). IsAmong (w.mark ∷ marks_of ws) v.mark) vs
    further [] all = tt
    further (v ∷ vs) all = (among_more v.mark w.mark (marks_of ws) all.0, further vs all.1)

    go : (b : Bool) → AllByRecursion (λ (v : Watermark). IsAmong (w.mark ∷ marks_of ws) v.mark) (filter test ws)
        → AllByRecursion (λ (v : Watermark). IsAmong (w.mark ∷ marks_of ws) v.mark) (cond b (w ∷ filter test ws) (filter test ws))
    go true more = (itself_among w.mark (marks_of ws), more)
    go false more = more

told_all : (P : ℕ → Type 0) (ended : List Watermark) (untold : List ℕ) → AllByRecursion (λ (w : Watermark). P w.mark) ended → AllByRecursion P untold
    → AllByRecursion P (told_later ended untold)
told_all P [] untold all more = more
told_all P (w ∷ ended) untold all more = told_all P ended (with_member nat_lt w.mark untold) all.1 (member_all P w.mark untold all.0 more)

pub ends_book : (test : Watermark → Bool) (outcome : Watermark → Outcome) (s : SenderState) → BookHolds s → BookHolds (end_where test outcome s)
ends_book test outcome s h =
    let now : List Watermark = (end_where test outcome s).watermarks in
    let same : marks_of now ≡ marks_of s.watermarks = ended_marks test outcome s.watermarks in
    let many : length now ≡ length s.watermarks = length-map s.watermarks (λ (w : Watermark). cond (is_open w && test w) (ended_with (outcome w) w) w) in
    record {
      members = h.members;
      numbered = same ∙ h.numbered ∙ ap (range_with_len 1) (sym many);
      rises = h.rises;
      outcomes = all_implied (HasMark s.watermarks) (HasMark now) _ (found_still s.watermarks now same)
          (told_all (HasMark s.watermarks) (filter (λ w. is_open w && test w) s.watermarks) s.untold_marks
          (ended_found (filter (λ w. is_open w && test w) s.watermarks) (filtered_among (λ w. is_open w && test w) s.watermarks)) h.outcomes);
    }
  where
    ended_found : (ended : List Watermark) → AllByRecursion (λ (w : Watermark). IsAmong (marks_of s.watermarks) w.mark) ended
        → AllByRecursion (λ (w : Watermark). HasMark s.watermarks w.mark) ended
    ended_found [] all = tt
    ended_found (w ∷ ended) all = (found_among w.mark s.watermarks all.0, ended_found ended all.1)

anew_book : (b : Bool) (s : SenderState) → BookHolds s → BookHolds (elim b [ true ↦ s | false ↦ record s { flushes = 0 } ])
anew_book true s h = h
anew_book false s h = same_book s (record s { flushes = 0 }) refl h

pub counted_book : (old s : SenderState) → BookHolds s → BookHolds (counted_anew old s)
counted_book old s h = anew_book (keeps_oldest old s) s h

pub settled_book : (s : SenderState) → BookHolds s → BookHolds (settled s)
settled_book s h = ends_book _ _ s h

-- ---- one more watermark

range_snoc : (first n : ℕ) → range_with_len first (suc n) ≡ range_with_len first n ++ (first + n) ∷ []
range_snoc first zero = ap (λ (k : ℕ). k ∷ []) (let h : first ≡ first + 0 = omega arith in h)
range_snoc first (suc n) = ap (λ (ns : List ℕ). first ∷ ns) (range_snoc (first + 1) n
    ∙ ap (λ (k : ℕ). range_with_len (first + 1) n ++ k ∷ []) (let h : first + 1 + n ≡ first + suc n = omega arith in h))

mark_found : (mark : ℕ) (ws more : List Watermark) → HasMark ws mark → HasMark (ws ++ more) mark
mark_found mark [] more e = absurd (clash e)
mark_found mark (w ∷ ws) more e = go (w.mark == mark) (mark_found mark ws more) e
  where
    go : (b : Bool) → (HasMark ws mark → HasMark (ws ++ more) mark) → is_some (cond b (Some w) (find (λ (v : Watermark). v.mark == mark) ws)) ≡ true
        → is_some (cond b (Some w) (find (λ (v : Watermark). v.mark == mark) (ws ++ more))) ≡ true
    go true next e = refl
    go false next e = next e

pub more_book : (s : SenderState) (w : Watermark) → w.mark ≡ length s.watermarks + 1 → BookHolds s → BookHolds (record s { watermarks = s.watermarks ++ w ∷ [] })
more_book s w e h = record {
  members = h.members;
  numbered = map-append (λ (v : Watermark). v.mark) s.watermarks (w ∷ [])
      ∙ ap (λ (ms : List ℕ). ms ++ w.mark ∷ []) h.numbered
      ∙ ap (λ (m : ℕ). range_with_len 1 (length s.watermarks) ++ m ∷ []) (e ∙ (let k : length s.watermarks + 1 ≡ 1 + length s.watermarks = omega arith in k))
      ∙ sym (range_snoc 1 (length s.watermarks))
      ∙ ap (range_with_len 1) (let all = length-append s.watermarks (w ∷ []) in let k : suc (length s.watermarks) ≡ length (s.watermarks ++ w ∷ []) = omega arith in k);
  rises = h.rises;
  outcomes = all_implied (HasMark s.watermarks) (HasMark (s.watermarks ++ w ∷ [])) s.untold_marks (λ mark found. mark_found mark s.watermarks (w ∷ []) found) h.outcomes;
}

-- ---- listings that rise

-- a listing that was past something is so when one rises
still_listed : (node : ℕ) (at : Position) (other : ℕ) (ls : List Listing) → IsListed ls other → IsListed (map (listed_past node at) ls) other
still_listed node at other [] e = e
still_listed node at other (l ∷ ls) e = go (l.node == node && is_past at l) (l.node == node) (l.node == other) refl (still_listed node at other ls) e
  where
    risen : Bool → Bool → Listing
    risen b c = elim b [ true ↦ l | false ↦ elim c [ true ↦ record l { past = Some at } | false ↦ l ] ]

    past_of : Option Listing → Option Position
    past_of found = elim found [ Some x ↦ x.past | None ↦ None ]

    go : (b c d : Bool) → (l.node == other) ≡ d → (IsListed ls other → IsListed (map (listed_past node at) ls) other)
        → is_some (past_of (cond d (Some l) (find (λ (x : Listing). x.node == other) ls))) ≡ true
        → is_some (past_of (cond ((risen b c).node == other) (Some (risen b c)) (find (λ (x : Listing). x.node == other) (map (listed_past node at) ls)))) ≡ true
    go true c true is more e = ap (λ (t : Bool). is_some (past_of (cond t (Some l) (find (λ (x : Listing). x.node == other) (map (listed_past node at) ls))))) is ∙ e
    go true c false is more e = ap (λ (t : Bool). is_some (past_of (cond t (Some l) (find (λ (x : Listing). x.node == other) (map (listed_past node at) ls))))) is ∙ more e
    go false true true is more e = ap (λ (t : Bool). is_some (past_of (cond t (Some (record l { past = Some at })) (find (λ (x : Listing). x.node == other) (map (listed_past node at) ls))))) is
    go false true false is more e = ap (λ (t : Bool). is_some (past_of (cond t (Some (record l { past = Some at })) (find (λ (x : Listing). x.node == other) (map (listed_past node at) ls))))) is ∙ more e
    go false false true is more e = ap (λ (t : Bool). is_some (past_of (cond t (Some l) (find (λ (x : Listing). x.node == other) (map (listed_past node at) ls))))) is ∙ e
    go false false false is more e = ap (λ (t : Bool). is_some (past_of (cond t (Some l) (find (λ (x : Listing). x.node == other) (map (listed_past node at) ls))))) is ∙ more e

-- the node that rises is listed past something
now_listed : (node : ℕ) (at : Position) (ls : List Listing) → list_any (λ (l : Listing). l.node == node && not (is_past at l)) ls ≡ true
    → IsListed (map (listed_past node at) ls) node
now_listed node at [] e = e
now_listed node at (l ∷ ls) e = go (l.node == node) refl (is_past at l) refl (now_listed node at ls) e
  where
    past_of : Option Listing → Option Position
    past_of found = elim found [ Some x ↦ x.past | None ↦ None ]

    rest : Option Listing
    rest = find (λ (x : Listing). x.node == node) (map (listed_past node at) ls)

    risen : Bool → Bool → Listing
    risen b c = elim b [ true ↦ l | false ↦ elim c [ true ↦ record l { past = Some at } | false ↦ l ] ]

    has_past : is_past at l ≡ true → is_some l.past ≡ true
    has_past is = by l.past is
      where
        by : (past : Option Position) → is_past at (record l { past = past }) ≡ true → is_some past ≡ true
        by None e = e
        by (Some x) e = refl

    found : (c d : Bool) → Option Position
    found c d = past_of (cond ((risen (c && d) c).node == node) (Some (risen (c && d) c)) rest)

    go : (c : Bool) → (l.node == node) ≡ c → (d : Bool) → is_past at l ≡ d
        → (list_any (λ (x : Listing). x.node == node && not (is_past at x)) ls ≡ true → IsListed (map (listed_past node at) ls) node)
        → ((c && not d) || list_any (λ (x : Listing). x.node == node && not (is_past at x)) ls) ≡ true
        → is_some (found c d) ≡ true
    go true is true past more e = ap (λ (t : Bool). is_some (past_of (cond t (Some l) rest))) is ∙ has_past past
    go true is false past more e = ap (λ (t : Bool). is_some (past_of (cond t (Some (record l { past = Some at })) rest))) is
    go false is d past more e = ap (λ (t : Bool). is_some (past_of (cond t (Some l) rest))) is ∙ more e

risen_book : (node : ℕ) (at : Position) (s : SenderState) → rises node at s ≡ true → BookHolds s
    → BookHolds (record s { listings = map (listed_past node at) s.listings; untold_nodes = with_member nat_lt node s.untold_nodes })
risen_book node at s e h = record {
  members = (let many = length-map s.listings (listed_past node at) in let few = h.members in omega arith);
  numbered = h.numbered;
  rises = member_all (IsListed (map (listed_past node at) s.listings)) node s.untold_nodes (now_listed node at s.listings e)
      (all_implied (IsListed s.listings) (IsListed (map (listed_past node at) s.listings)) s.untold_nodes
      (λ other listed. still_listed node at other s.listings listed) h.rises);
  outcomes = h.outcomes;
}

pub credited_book : (node : ℕ) (at : Position) (s : SenderState) → BookHolds s → BookHolds (credited node at s)
credited_book node at s h = go (rises node at s) refl
  where
    risen : SenderState
    risen = record s { listings = map (listed_past node at) s.listings; untold_nodes = with_member nat_lt node s.untold_nodes }

    go : (b : Bool) → rises node at s ≡ b → BookHolds (elim b [ true ↦ counted_anew s (settled risen) | false ↦ s ])
    go true e = counted_book s (settled risen) (settled_book risen (risen_book node at s e h))
    go false e = h

-- ---- a strike

fewer : (test : Listing → Bool) (ls : List Listing) → length (filter test ls) ≤ length ls
fewer test [] = omega arith
fewer test (l ∷ ls) = go (test l) (fewer test ls)
  where
    go : (b : Bool) → length (filter test ls) ≤ length ls → length (cond b (l ∷ filter test ls) (filter test ls)) ≤ suc (length ls)
    go true le = omega arith
    go false le = omega arith

-- what another node is listed past stays
others_past : (node other : ℕ) (ls : List Listing) → (other == node) ≡ false
    → past_in (filter (λ (l : Listing). not (l.node == node)) ls) other ≡ past_in ls other
others_past node other [] e = refl
others_past node other (l ∷ ls) e = go (l.node == node) refl (l.node == other) refl (others_past node other ls e)
  where
    kept : List Listing
    kept = filter (λ (l : Listing). not (l.node == node)) ls

    past_of : Option Listing → Option Position
    past_of found = elim found [ Some x ↦ x.past | None ↦ None ]

    go : (b : Bool) → (l.node == node) ≡ b → (c : Bool) → (l.node == other) ≡ c → past_in kept other ≡ past_in ls other
        → past_in (cond (not b) (l ∷ kept) kept) other ≡ past_of (cond c (Some l) (find (λ (x : Listing). x.node == other) ls))
    go true is true same more =
        let is_node : l.node ≡ node = (Decides-eqb l.node node).0 is in
        let is_other : l.node ≡ other = (Decides-eqb l.node other).0 same in
        absurd (clash (sym e ∙ (Decides-eqb other node).1 (sym is_other ∙ is_node)))
    go true is false same more = more
    go false is true same more = ap (λ (c : Bool). past_of (cond c (Some l) (find (λ (x : Listing). x.node == other) kept))) same
    go false is false same more = ap (λ (c : Bool). past_of (cond c (Some l) (find (λ (x : Listing). x.node == other) kept))) same ∙ more

untold_others : (node : ℕ) (ls : List Listing) (nodes : List ℕ) → AllByRecursion (IsListed ls) nodes
    → AllByRecursion (IsListed (filter (λ (l : Listing). not (l.node == node)) ls)) (filter (λ other. not (other == node)) nodes)
untold_others node ls [] all = tt
untold_others node ls (other ∷ nodes) all = go (other == node) refl (untold_others node ls nodes all.1)
  where
    kept : List Listing
    kept = filter (λ (l : Listing). not (l.node == node)) ls

    go : (b : Bool) → (other == node) ≡ b → AllByRecursion (IsListed kept) (filter (λ other. not (other == node)) nodes)
        → AllByRecursion (IsListed kept) (cond (not b) (other ∷ filter (λ other. not (other == node)) nodes) (filter (λ other. not (other == node)) nodes))
    go true e more = more
    go false e more = (ap is_some (others_past node other ls e) ∙ all.0, more)

pub struck_book : (node : ℕ) (s : SenderState) → BookHolds s → BookHolds (struck_off node s)
struck_book node s h = counted_book s (settled (without_node node s)) (settled_book (without_node node s) (record {
  members = (let le = fewer (λ (l : Listing). not (l.node == node)) s.listings in let few = h.members in omega arith);
  numbered = h.numbered;
  rises = untold_others node s.listings s.untold_nodes h.rises;
  outcomes = h.outcomes;
}))

-- ---- a restart

pub anew_holds_book : (id : ℕ) (s : SenderState) → BookHolds s → BookHolds (begun_anew id s)
anew_holds_book id s h =
    let many : length (unlisted (members s)) ≡ length s.listings =
    length-map (members s) (λ (node : ℕ). record { node = node; past = None }) ∙ length-map s.listings (λ (l : Listing). l.node) in
    let few = h.members in
    ends_book (λ w. true) (λ w. Cut) (record s {
      earlier = instances s;
      current = begun id;
      next = Info 0;
      wants = [];
      sent = [];
      sent_infos = [];
      round = None;
      squelch_due = false;
      listings = unlisted (members s);
      flushes = 0;
      last_flush = None;
      untold_nodes = [];
    }) (record { members = omega (arith, many, few); numbered = h.numbered; rises = tt; outcomes = h.outcomes })

-- ---- telling

-- the state that a step leaves
abbrev left_of : SenderState × Option News → SenderState
left_of step = step.0

-- what it tells
abbrev news_of : SenderState × Option News → Option News
news_of step = step.1

pub told_book : (s : SenderState) → BookHolds s → BookHolds (told s).0
told_book s h = go s.untold_nodes h.rises s.untold_marks h.outcomes
  where
    go : (nodes : List ℕ) → AllByRecursion (IsListed s.listings) nodes → (marks : List ℕ) → AllByRecursion (HasMark s.watermarks) marks
        → BookHolds (left_of (elim nodes [
          | node ∷ others ↦ (record s { untold_nodes = others }, past_news node (listing_of s node))
          | [] ↦ elim marks [
            | mark ∷ others ↦ (record s { untold_marks = others }, done_news s mark (watermark_of s mark))
            | [] ↦ (s, None)
          ]
        ]))
    go (node ∷ nodes) rises marks outcomes = record { members = h.members; numbered = h.numbered; rises = rises.1; outcomes = h.outcomes }
    go [] rises (mark ∷ marks) outcomes = record { members = h.members; numbered = h.numbered; rises = h.rises; outcomes = outcomes.1 }
    go [] rises [] outcomes = h

-- Where nothing is told, nothing changes.
pub nothing_told : (s : SenderState) → BookHolds s → (told s).1 ≡ None → (told s).0 ≡ s
nothing_told s h = go s.untold_nodes h.rises s.untold_marks h.outcomes
  where
    past_told : (node : ℕ) (past : Option Position) → is_some past ≡ true → past_news node past ≡ None → ⊥
    past_told node None is e = clash is
    past_told node (Some at) is e = cc

    mark_told : (mark : ℕ) (w : Option Watermark) → is_some w ≡ true → done_news s mark w ≡ None → ⊥
    mark_told mark None is e = clash is
    mark_told mark (Some w) is e = cc

    go : (nodes : List ℕ) → AllByRecursion (IsListed s.listings) nodes → (marks : List ℕ) → AllByRecursion (HasMark s.watermarks) marks
        → news_of (elim nodes [
          | node ∷ others ↦ (record s { untold_nodes = others }, past_news node (listing_of s node))
          | [] ↦ elim marks [
            | mark ∷ others ↦ (record s { untold_marks = others }, done_news s mark (watermark_of s mark))
            | [] ↦ (s, None)
          ]
        ]) ≡ None
        → left_of (elim nodes [
          | node ∷ others ↦ (record s { untold_nodes = others }, past_news node (listing_of s node))
          | [] ↦ elim marks [
            | mark ∷ others ↦ (record s { untold_marks = others }, done_news s mark (watermark_of s mark))
            | [] ↦ (s, None)
          ]
        ]) ≡ s
    go (node ∷ nodes) rises marks outcomes e = absurd (past_told node (listing_of s node) rises.0 e)
    go [] rises (mark ∷ marks) outcomes e = absurd (mark_told mark (watermark_of s mark) outcomes.0 e)
    go [] rises [] outcomes e = refl

-- ---- what is heard

round_book : (p : Settings) (s : SenderState) (now : ℕ) (requests : List Request) → book_of (joined_round p s now requests) ≡ book_of s
round_book p s now [] = refl
round_book p s now (r ∷ requests) = refl

where_book : (b : Bool) (s t : SenderState) → BookHolds s → BookHolds t → BookHolds (elim b [ true ↦ t | false ↦ s ])
where_book true s t h k = k
where_book false s t h k = h

credited_by_book : (p : Settings) (node : ℕ) (at : Option Position) (s : SenderState) → BookHolds s → BookHolds (credited_by p node at s)
credited_by_book p node None s h = h
credited_by_book p node (Some at) s h = where_book (is_source (current_shapes p s) at) s (credited node at s) h (credited_book node at s h)

pub heard_book : {E : Type 0} (p : Settings) (s : SenderState) (now : ℕ) (read : Result Message E) → BookHolds s → BookHolds (message_heard p s now read)
heard_book p s now (Ok (Nack m)) h =
    where_book (nack_counts p s m) s (joined_round p s now m.requests) h (same_book s (joined_round p s now m.requests) (round_book p s now m.requests) h)
heard_book p s now (Ok (Ack m)) h = where_book (ack_counts p s m) s _ h (go m.content)
  where
    go : (content : AckContent) → BookHolds (elim content [
      | Mark item ↦ credited_by p m.source (item_named p (last_index s) item) s
      | Unread octets ↦ s
    ])
    go (Mark item) = credited_by_book p m.source (item_named p (last_index s) item) s h
    go (Unread octets) = h
heard_book p s now _ h = h
