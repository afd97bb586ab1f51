-- What a book stands for after a step.
use Rattle.std.proofs.Common.{◌≡◌, ◌≢◌, ℕ, ◌+◌, ◌<◌, ◌≤◌, List, [], ◌∷◌, ◌++◌, length, map, Bool, true, false, refl, sym, ap, ◌∙◌, cond, arith, fold, subst}
use Rattle.std.specs.Prelude.{◌&&◌, ◌==◌, not, nat_lt, filter, find, is_none, Option, None, Some, Result, Ok, Err, option_map, option_and_then, if◌then◌else◌}
use Rattle.std.specs.List.{list_any}
use Rattle.std.proofs.lemmas.Bool.{le-leb, lt-leb, eq-eqb, ne_eqb}
use Rattle.std.proofs.lemmas.List.{length-map, map-append}
use Rattle.norm_order.specs.Sets.{with_member}
use Rattle.norm_send_rules.specs.SenderState.{SenderState, Watermark, Listing, begun, unlisted}
use Rattle.norm_base.specs.Settings.{Settings}
use Rattle.norm_base.specs.declared.node.Origin.{Origin}
use Rattle.fec_plan.specs.declared.position.Position.{Position}
use Rattle.norm_send_rules.specs.Flushing.{expired}
use Rattle.norm_send_rules.specs.Hearing.{listed_past, rises, credited}
use Rattle.norm_send_rules.specs.Marking.{with_watermark, watermark_at}
use Rattle.norm_send_rules.specs.Restarting.{instances, begun_anew}
use Rattle.norm_send_rules.specs.Telling.{listing_of, past_news, done_news, told}
use Rattle.norm_send_rules.specs.declared.news.News.{News}
use Rattle.norm_send_rules.specs.declared.news.News.TheVariants.{Done}
use Rattle.norm_send_rules.specs.declared.fault.MarkFault.{MarkFault}
use Rattle.norm_send_rules.specs.declared.fault.MarkFault.TheVariants.{TooMany}
use Rattle.norm_send_rules.specs.declared.job.Receipt.{Receipt}
use Rattle.norm_send_rules.specs.declared.job.Receipt.TheVariants.{Mark, Struck}
use Rattle.norm_send_rules.specs.Watermarks.{is_open, ended_with, end_where, told_later, keeps_oldest, counted_anew, settled, pending, is_past, open_watermarks, members, has_member, watermark_of}
use Rattle.norm_send_rules.specs.declared.news.Outcome.{Outcome}
use Rattle.norm_send_rules.specs.declared.want.Want.TheVariants.{Info}
use Rattle.norm_send_rules.specs.declared.news.Outcome.TheVariants.{Satisfied, Expired, Cut}
use Rattle.norm_send_rules.specs.Striking.{without_node, struck_off, strikes}
use Rattle.norm_send_rules.specs.declared.fault.StrikeFault.{StrikeFault}
use Rattle.norm_send_rules.specs.declared.fault.StrikeFault.TheVariants.{NotMember, LastMember}
use Rattle.norm_order.specs.First.{first_where}
use Rattle.mark_book.specs.BookState.{MarkState, Kept, BookState, mark_state, kept_state, untold_marks, WhatItReads, StandsFor, Stands}
use Rattle.mark_book.specs.BookMoves.{ended_where, settled_by, expired_by, cut_off, left_of, left_count, opened, told_first, outcome_by, is_met_by, past_in}
use Rattle.mark_book.specs.BookSound.{AreNumbered}
use Rattle.mark_book.specs.Answers.{numbered, quorum_refused, asked_for, strike_receipt}
use Rattle.mark_book.proofs.Marks.{more_of, marks_where, marks_after}
use Rattle.mark_book.proofs.Tellings.{told_keeps, first_goes, found_by_number}
use Rattle.mark_book.proofs.Lookups.{found_in_both, open_in_both, many_in_both, read_some, outcome_at, outcome_is}

through : {X Y : Type 0} (p : X → Y) (g : X → X) (f : Y → Y) → ((x : X) → p (g x) ≡ f (p x)) → (xs : List X) → map p (map g xs) ≡ map f (map p xs)
through p g f each [] = refl
through p g f each (x ∷ xs) = rw (each x, through p g f each xs)

-- a watermark, ended where it is open and passes a test
abbrev ended_state : (MarkState → Bool) → (MarkState → Outcome) → MarkState → MarkState
ended_state test outcome a = elim (is_none a.ended && test a) [ true ↦ record a { ended = Some (outcome a) } | false ↦ a ]

kept_ends : (test : MarkState → Bool) (outcome : MarkState → Outcome) (kept : Kept → Outcome) → ((k : Kept) → kept k ≡ outcome (kept_state k)) → (k : Kept)
    → kept_state (ended_where (λ k. test (kept_state k)) kept k) ≡ ended_state test outcome (kept_state k)
kept_ends test outcome kept same k = go (is_none k.ended && test (kept_state k))
  where
    go : (b : Bool) → kept_state (elim b as (λ _. Kept) [ true ↦ record k { ended = Some (kept k); untold = true } | false ↦ k ])
        ≡ elim b as (λ _. MarkState) [ true ↦ record (kept_state k) { ended = Some (outcome (kept_state k)) } | false ↦ kept_state k ]
    go true = ap (λ (o : Outcome). record (kept_state k) { ended = Some o }) (same k)
    go false = refl

watermark_ends : (test : MarkState → Bool) (outcome : MarkState → Outcome) (w : Watermark)
    → mark_state (if is_open w && test (mark_state w) then ended_with (outcome (mark_state w)) w else w) ≡ ended_state test outcome (mark_state w)
watermark_ends test outcome w = go (is_none w.ended && test (mark_state w))
  where
    go : (b : Bool) → mark_state (if b then ended_with (outcome (mark_state w)) w else w)
        ≡ elim b as (λ _. MarkState) [ true ↦ record (mark_state w) { ended = Some (outcome (mark_state w)) } | false ↦ mark_state w ]
    go true = refl
    go false = refl

told_by_marks : (ws : List Watermark) (u : List ℕ) → told_later ws u ≡ fold more_of u (map (λ (w : Watermark). w.mark) ws)
told_by_marks [] u = refl
told_by_marks (w ∷ ws) u = told_by_marks ws (with_member nat_lt w.mark u)

marks_through : {X : Type 0} (p : X → MarkState) (test : MarkState → Bool) (xs : List X)
    → map (λ x. (p x).mark) (filter (λ x. test (p x)) xs) ≡ map (λ (a : MarkState). a.mark) (filter test (map p xs))
marks_through p test [] = refl
marks_through p test (x ∷ xs) = go (test (p x)) (marks_through p test xs)
  where
    go : (b : Bool) → map (λ x. (p x).mark) (filter (λ x. test (p x)) xs) ≡ map (λ (a : MarkState). a.mark) (filter test (map p xs))
        → map (λ x. (p x).mark) (cond b (x ∷ filter (λ x. test (p x)) xs) (filter (λ x. test (p x)) xs))
        ≡ map (λ (a : MarkState). a.mark) (cond b (p x ∷ filter test (map p xs)) (filter test (map p xs)))
    go true rest = ap (λ u. (p x).mark ∷ u) rest
    go false rest = rest

-- where a book stands for a state, and watermarks end in both, it stands for the state after
pub stands_ended : (test : MarkState → Bool) (outcome : MarkState → Outcome) (kept : Kept → Outcome) → ((k : Kept) → kept k ≡ outcome (kept_state k))
    → (p : Settings) (b : BookState) (s : SenderState) → AreNumbered 1 b.watermarks → Stands p b s
    → Stands p (record b { watermarks = map (ended_where (λ k. test (kept_state k)) kept) b.watermarks })
    (end_where (λ w. test (mark_state w)) (λ w. outcome (mark_state w)) s)
stands_ended test outcome kept same p b s numbered stands = record {
  receivers = stands.receivers;
  listings = stands.listings;
  watermarks =
      through kept_state _ (ended_state test outcome) (kept_ends test outcome kept same) b.watermarks
      ∙ ap (map (ended_state test outcome)) stands.watermarks
      ∙ sym (through mark_state _ (ended_state test outcome) (watermark_ends test outcome) s.watermarks);
  nodes = stands.nodes;
  marks =
      marks_after (λ k. test (kept_state k)) kept 1 b.watermarks numbered
      ∙ ap (λ u. fold more_of u (marks_where (λ k. is_none k.ended && test (kept_state k)) b.watermarks)) stands.marks
      ∙ ap (fold more_of s.untold_marks) (
      marks_through kept_state (λ a. is_none a.ended && test a) b.watermarks
      ∙ ap (λ both. map (λ (a : MarkState). a.mark) (filter (λ a. is_none a.ended && test a) both)) stands.watermarks
      ∙ sym (marks_through mark_state (λ a. is_none a.ended && test a) s.watermarks))
      ∙ sym (told_by_marks (filter (λ w. is_open w && test (mark_state w)) s.watermarks) s.untold_marks);
}

-- the count of flushes is none of the book's
pub stands_counted : (p : Settings) (b : BookState) (old new : SenderState) → Stands p b new → Stands p b (counted_anew old new)
stands_counted p b old new stands = go (keeps_oldest old new)
  where
    go : (c : Bool) → Stands p b (elim c as (λ _. SenderState) [ true ↦ new | false ↦ record new { flushes = 0 } ])
    go true = stands
    go false = stands

-- the parts of a book decide what it stands for
pub stands_by : (p : Settings) (b c : BookState) (r : WhatItReads) → c.receivers ≡ b.receivers → c.listings ≡ b.listings → c.watermarks ≡ b.watermarks
    → c.untold_nodes ≡ b.untold_nodes → StandsFor p b r → StandsFor p c r
stands_by p b c r receivers listings watermarks nodes stands = record {
  receivers = receivers ∙ stands.receivers;
  listings = listings ∙ stands.listings;
  watermarks = ap (map kept_state) watermarks ∙ stands.watermarks;
  nodes = nodes ∙ stands.nodes;
  marks = ap untold_marks watermarks ∙ stands.marks;
}

-- satisfied in both
pub stands_settled : (p : Settings) (b : BookState) (s : SenderState) → AreNumbered 1 b.watermarks → Stands p b s
    → Stands p (record b { watermarks = map (settled_by b.listings) b.watermarks }) (settled s)
stands_settled p b s numbered stands =
    subst (λ (ls : List Listing). Stands p (record b { watermarks = map (settled_by ls) b.watermarks }) (settled s)) (sym stands.listings)
    (stands_ended (λ a. is_met_by s.listings a.quorum a.at) (λ a. Satisfied) (λ k. Satisfied) (λ k. refl) p b s numbered stands)

-- expired in both
pub stands_expired : (mark : ℕ) (p : Settings) (b : BookState) (s : SenderState) → AreNumbered 1 b.watermarks → Stands p b s
    → Stands p (record b { watermarks = map (expired_by b.listings mark) b.watermarks }) (expired mark s)
stands_expired mark p b s numbered stands =
    stands_counted p _ s _ (
    subst (λ (ls : List Listing). Stands p (record b { watermarks = map (expired_by ls mark) b.watermarks }) (end_where (λ w. w.mark == mark) (λ w. Expired (length (pending s w.at))) s)) (sym stands.listings)
    (stands_ended (λ a. a.mark == mark) (λ a. Expired (length (left_of s.listings a.at))) (λ k. Expired (left_count s.listings k.at))
    (λ k. ap Expired (sym (length-map (filter (λ l. not (is_past k.at l)) s.listings) (λ (l : Listing). l.node)))) p b s numbered stands))

-- cut in both
pub stands_cut : (p : Settings) (b : BookState) (s : SenderState) → AreNumbered 1 b.watermarks → Stands p b s
    → Stands p (record b { watermarks = map cut_off b.watermarks }) (end_where (λ w. true) (λ w. Cut) s)
stands_cut p b s numbered stands = stands_ended (λ a. true) (λ a. Cut) (λ k. Cut) (λ k. refl) p b s numbered stands

-- a state in which a member's listing rose
abbrev risen : ℕ → Position → SenderState → SenderState
risen node at s = record s {
  listings = map (listed_past node at) s.listings;
  untold_nodes = with_member nat_lt node s.untold_nodes;
}

-- a book in which a member's listing rose
abbrev pub risen_book : ℕ → Position → BookState → BookState
risen_book node at b = record {
  receivers = b.receivers;
  listings = map (listed_past node at) b.listings;
  watermarks = map (settled_by (map (listed_past node at) b.listings)) b.watermarks;
  untold_nodes = with_member nat_lt node b.untold_nodes;
}

-- an acknowledgement that is news, in both
pub stands_credited : (node : ℕ) (at : Position) (p : Settings) (b : BookState) (s : SenderState) → AreNumbered 1 b.watermarks
    → list_any (λ (l : Listing). l.node == node && not (is_past at l)) b.listings ≡ true → Stands p b s
    → Stands p (risen_book node at b) (credited node at s)
stands_credited node at p b s numbered news stands =
    go (rises node at s) (ap (list_any (λ (l : Listing). l.node == node && not (is_past at l))) (sym stands.listings) ∙ news)
  where
    go : (c : Bool) → c ≡ true → Stands p (risen_book node at b) (elim c as (λ _. SenderState) [ true ↦ counted_anew s (settled (risen node at s)) | false ↦ s ])
    go true e = stands_counted p _ s _ (stands_settled p (record b {
      listings = map (listed_past node at) b.listings;
      untold_nodes = with_member nat_lt node b.untold_nodes;
    }) (risen node at s) numbered (record {
      receivers = stands.receivers;
      listings = ap (map (listed_past node at)) stands.listings;
      watermarks = stands.watermarks;
      nodes = ap (with_member nat_lt node) stands.nodes;
      marks = stands.marks;
    }))
    go false e = absurd (cc)

-- an acknowledgement that is none, in both
pub stands_uncredited : (node : ℕ) (at : Position) (p : Settings) (b : BookState) (s : SenderState)
    → list_any (λ (l : Listing). l.node == node && not (is_past at l)) b.listings ≡ false → Stands p b s → Stands p b (credited node at s)
stands_uncredited node at p b s none stands =
    go (rises node at s) (ap (list_any (λ (l : Listing). l.node == node && not (is_past at l))) (sym stands.listings) ∙ none)
  where
    go : (c : Bool) → c ≡ false → Stands p b (elim c as (λ _. SenderState) [ true ↦ counted_anew s (settled (risen node at s)) | false ↦ s ])
    go true e = absurd (cc)
    go false e = stands

-- a book without a member
abbrev pub struck_book : ℕ → BookState → BookState
struck_book node b = record {
  receivers = b.receivers;
  listings = filter (λ (l : Listing). not (l.node == node)) b.listings;
  watermarks = map (settled_by (filter (λ (l : Listing). not (l.node == node)) b.listings)) b.watermarks;
  untold_nodes = filter (λ other. not (other == node)) b.untold_nodes;
}

-- a member is struck in both
pub stands_struck : (node : ℕ) (p : Settings) (b : BookState) (s : SenderState) → AreNumbered 1 b.watermarks → Stands p b s
    → Stands p (struck_book node b) (struck_off node s)
stands_struck node p b s numbered stands =
    stands_counted p _ s _ (stands_settled p (record b {
      listings = filter (λ (l : Listing). not (l.node == node)) b.listings;
      untold_nodes = filter (λ other. not (other == node)) b.untold_nodes;
    }) (without_node node s) numbered (record {
      receivers = stands.receivers;
      listings = ap (filter (λ (l : Listing). not (l.node == node))) stands.listings;
      watermarks = stands.watermarks;
      nodes = ap (filter (λ other. not (other == node))) stands.nodes;
      marks = stands.marks;
    }))

-- what a strike does, by whether the node is a member, and the only one
abbrev strike_by : ℕ → SenderState → Bool → Bool → SenderState × Result Receipt StrikeFault
strike_by node s member alone = elim (first_where ((not member, NotMember node) ∷ (alone, LastMember node) ∷ [])) [
  | Some fault ↦ (s, Err fault)
  | None ↦ (struck_off node s, Ok (Struck node))
]

-- a strike that is refused, of a node that is none
pub struck_stranger : (node : ℕ) (p : Settings) (b : BookState) (s : SenderState) → Stands p b s → list_any (λ (l : Listing). l.node == node) b.listings ≡ false
    → Stands p b (strikes s node).0 × (strike_receipt node (Err (NotMember node)) ≡ (strikes s node).1)
unfolding first_where
struck_stranger node p b s stands none =
    let e : has_member node s ≡ false = ap (list_any (λ (l : Listing). l.node == node)) (sym stands.listings) ∙ none in
    subst (λ (c : Bool). Stands p b (strike_by node s c (length s.listings == 1)).0 × (Err (NotMember node) ≡ (strike_by node s c (length s.listings == 1)).1)) (sym e)
    (stands, refl)

-- a strike that is refused, of the only member
pub struck_last : (node : ℕ) (p : Settings) (b : BookState) (s : SenderState) → Stands p b s → list_any (λ (l : Listing). l.node == node) b.listings ≡ true
    → length b.listings ≡ 1 → Stands p b (strikes s node).0 × (strike_receipt node (Err (LastMember node)) ≡ (strikes s node).1)
unfolding first_where
struck_last node p b s stands member alone =
    let e : has_member node s ≡ true = ap (list_any (λ (l : Listing). l.node == node)) (sym stands.listings) ∙ member in
    let f : (length s.listings == 1) ≡ true = eq-eqb (length s.listings) 1 (ap length (sym stands.listings) ∙ alone) in
    subst (λ (c : Bool). Stands p b (strike_by node s c (length s.listings == 1)).0 × (Err (LastMember node) ≡ (strike_by node s c (length s.listings == 1)).1)) (sym e)
    (subst (λ (c : Bool). Stands p b (strike_by node s true c).0 × (Err (LastMember node) ≡ (strike_by node s true c).1)) (sym f) (stands, refl))

-- a strike
pub struck_one : (node : ℕ) (p : Settings) (b new : BookState) (s : SenderState) → Stands p b s → list_any (λ (l : Listing). l.node == node) b.listings ≡ true
    → length b.listings ≢ 1 → Stands p new (struck_off node s)
    → Stands p new (strikes s node).0 × (strike_receipt node (Ok tt) ≡ (strikes s node).1)
unfolding first_where
struck_one node p b new s stands member many struck =
    let e : has_member node s ≡ true = ap (list_any (λ (l : Listing). l.node == node)) (sym stands.listings) ∙ member in
    let f : (length s.listings == 1) ≡ false = ne_eqb (length s.listings) 1 (λ is. many (ap length stands.listings ∙ is)) in
    subst (λ (c : Bool). Stands p new (strike_by node s c (length s.listings == 1)).0 × (Ok (Struck node) ≡ (strike_by node s c (length s.listings == 1)).1)) (sym e)
    (subst (λ (c : Bool). Stands p new (strike_by node s true c).0 × (Ok (Struck node) ≡ (strike_by node s true c).1)) (sym f) (struck, refl))

opened_untold : (ks : List Kept) (mark : ℕ) (at : Position) (quorum : Option ℕ) → untold_marks (ks ++ opened mark at quorum ∷ []) ≡ untold_marks ks
opened_untold [] mark at quorum = refl
opened_untold (k ∷ ks) mark at quorum = go k.untold (opened_untold ks mark at quorum)
  where
    go : (b : Bool) → untold_marks (ks ++ opened mark at quorum ∷ []) ≡ untold_marks ks
        → map (λ (k : Kept). k.mark) (cond b (k ∷ filter (λ k. k.untold) (ks ++ opened mark at quorum ∷ [])) (filter (λ k. k.untold) (ks ++ opened mark at quorum ∷ [])))
        ≡ map (λ (k : Kept). k.mark) (cond b (k ∷ filter (λ k. k.untold) ks) (filter (λ k. k.untold) ks))
    go true rest = ap (λ u. k.mark ∷ u) rest
    go false rest = rest

-- one more watermark, in both
pub stands_joined : (by : Origin) (at : Position) (quorum : Option ℕ) (p : Settings) (b : BookState) (s : SenderState)
    → AreNumbered 1 (b.watermarks ++ opened (length b.watermarks + 1) at quorum ∷ []) → Stands p b s
    → Stands p (record b { watermarks = map (settled_by b.listings) (b.watermarks ++ opened (length b.watermarks + 1) at quorum ∷ []) }) (with_watermark s by quorum at)
stands_joined by at quorum p b s numbered stands =
    stands_counted p _ s _ (stands_settled p (record b { watermarks = b.watermarks ++ opened (length b.watermarks + 1) at quorum ∷ [] }) more numbered
    (record {
      receivers = stands.receivers;
      listings = stands.listings;
      watermarks =
          map-append kept_state b.watermarks (opened (length b.watermarks + 1) at quorum ∷ [])
          ∙ ap (λ (xs : List MarkState). xs ++ kept_state (opened (length b.watermarks + 1) at quorum) ∷ []) stands.watermarks
          ∙ ap (λ n. map mark_state s.watermarks ++ kept_state (opened (n + 1) at quorum) ∷ []) (many_in_both p b s stands)
          ∙ sym (map-append mark_state s.watermarks (one ∷ []));
      nodes = stands.nodes;
      marks = opened_untold b.watermarks (length b.watermarks + 1) at quorum ∙ stands.marks;
    }))
  where
    one : Watermark
    one = record { mark = length s.watermarks + 1; by = by; at = at; quorum = quorum; ended = None }

    more : SenderState
    more = record s { watermarks = s.watermarks ++ record { mark = length s.watermarks + 1; by = by; at = at; quorum = quorum; ended = None } ∷ [] }

-- what a mark answers, by whether too many are open
abbrev answer : SenderState → Origin → Option ℕ → Position → Bool → SenderState × Result Receipt MarkFault
answer s by quorum at c = elim c [
  | true ↦ (s, Err (TooMany (length (open_watermarks s))))
  | false ↦ (with_watermark s by quorum at, Ok (Mark (length s.watermarks + 1) at))
]

-- a watermark that is refused, since too many are open
pub stands_refused : (by : Origin) (quorum : Option ℕ) (at : Position) (p : Settings) (b : BookState) (s : SenderState) (n : ℕ) → Stands p b s
    → n ≡ length (filter (λ (k : Kept). is_none k.ended) b.watermarks) → 16 ≤ n
    → Stands p b (watermark_at s by quorum (Some at)).0 × (Err (TooMany n) ≡ numbered (watermark_at s by quorum (Some at)).1)
stands_refused by quorum at p b s n stands is many =
    let same : n ≡ length (open_watermarks s) = is ∙ open_in_both p b s stands in
    subst (λ (c : Bool). Stands p b (answer s by quorum at c).0 × (Err (TooMany n) ≡ numbered (answer s by quorum at c).1)) (sym (le-leb 16 (length (open_watermarks s)) (omega (arith, same))))
    (stands, ap (λ (m : ℕ). Err (TooMany m)) same)

-- a watermark that is made
pub stands_made : (by : Origin) (quorum : Option ℕ) (at : Position) (p : Settings) (b new : BookState) (s : SenderState) (n : ℕ) (r : Result ℕ MarkFault) → Stands p b s
    → n ≡ length (filter (λ (k : Kept). is_none k.ended) b.watermarks) → n < 16
    → Stands p new (with_watermark s by quorum at) × (r ≡ Ok (length s.watermarks + 1))
    → Stands p new (watermark_at s by quorum (Some at)).0 × (r ≡ numbered (watermark_at s by quorum (Some at)).1)
stands_made by quorum at p b new s n r stands is few made =
    let same : n ≡ length (open_watermarks s) = is ∙ open_in_both p b s stands in
    subst (λ (c : Bool). Stands p new (answer s by quorum at c).0 × (r ≡ numbered (answer s by quorum at c).1)) (sym (lt-leb 16 (length (open_watermarks s)) (omega (arith, same))))
    made

-- what a request answers, by the fault of its quorum
abbrev asked_by : SenderState → Origin → Option ℕ → Option Position → Option MarkFault → SenderState × Result Receipt MarkFault
asked_by s by quorum at o = elim o [ Some fault ↦ (s, Err fault) | None ↦ watermark_at s by quorum at ]

-- a watermark whose quorum is refused
pub quorum_first : (by : Origin) (quorum : Option ℕ) (at : Option Position) (p : Settings) (b : BookState) (s : SenderState) (o : Option MarkFault) (fault : MarkFault) → Stands p b s
    → o ≡ quorum_refused p quorum → o ≡ Some fault
    → Stands p b (asked_for p s by quorum at).0 × (Err fault ≡ numbered (asked_for p s by quorum at).1)
quorum_first by quorum at p b s o fault stands e is =
    subst (λ (o : Option MarkFault). Stands p b (asked_by s by quorum at o).0 × (Err fault ≡ numbered (asked_by s by quorum at o).1)) (sym is ∙ e) (stands, refl)

-- a watermark whose quorum can be one
pub quorum_passes : (by : Origin) (quorum : Option ℕ) (at : Option Position) (p : Settings) (new : BookState) (s : SenderState) (o : Option MarkFault) (r : Result ℕ MarkFault)
    → o ≡ quorum_refused p quorum → o ≡ None → Stands p new (watermark_at s by quorum at).0 × (r ≡ numbered (watermark_at s by quorum at).1)
    → Stands p new (asked_for p s by quorum at).0 × (r ≡ numbered (asked_for p s by quorum at).1)
quorum_passes by quorum at p new s o r e is made =
    subst (λ (o : Option MarkFault). Stands p new (asked_by s by quorum at o).0 × (r ≡ numbered (asked_by s by quorum at o).1)) (sym is ∙ e) made

-- a new instance, before watermarks are cut
abbrev anew : ℕ → SenderState → SenderState
anew id s = record s {
  earlier = instances s;
  current = begun id;
  next = Info 0;
  wants = [];
  sent = [];
  sent_infos = [];
  round = None;
  squelch_due = false;
  listings = unlisted (members s);
  flushes = 0;
  last_flush = None;
  untold_nodes = [];
}

-- a restart, in both
pub stands_begun : (id : ℕ) (p : Settings) (b : BookState) (s : SenderState) → AreNumbered 1 b.watermarks → Stands p b s
    → Stands p (record {
      receivers = b.receivers;
      listings = unlisted (map (λ (l : Listing). l.node) b.listings);
      watermarks = map cut_off b.watermarks;
      untold_nodes = [];
    }) (begun_anew id s)
stands_begun id p b s numbered stands =
    stands_cut p (record b { listings = unlisted (map (λ (l : Listing). l.node) b.listings); untold_nodes = [] }) (anew id s) numbered (record {
      receivers = stands.receivers;
      listings = ap (λ (ls : List Listing). unlisted (map (λ (l : Listing). l.node) ls)) stands.listings;
      watermarks = stands.watermarks;
      nodes = refl;
      marks = stands.marks;
    })

-- what is told, by what is to be told
abbrev told_from : SenderState → List ℕ → List ℕ → SenderState × Option News
told_from s nodes marks = elim nodes [
  | node ∷ rest ↦ (record s { untold_nodes = rest }, past_news node (listing_of s node))
  | [] ↦ elim marks [
    | mark ∷ rest ↦ (record s { untold_marks = rest }, done_news s mark (watermark_of s mark))
    | [] ↦ (s, None)
  ]
]

past_is : (node : ℕ) (o : Option Listing) → past_news node (option_and_then (λ (l : Listing). l.past) o)
    ≡ past_news node (elim o as (λ _. Option Position) [ Some l ↦ l.past | None ↦ None ])
past_is node None = refl
past_is node (Some l) = refl

-- a listing is told in both
pub told_node : (node : ℕ) (rest : List ℕ) (p : Settings) (b : BookState) (s : SenderState) → b.untold_nodes ≡ node ∷ rest → Stands p b s
    → Stands p (record b { untold_nodes = rest }) (told s).0 × (past_news node (past_in b.listings node) ≡ (told s).1)
told_node node rest p b s is stands =
    let nodes : s.untold_nodes ≡ node ∷ rest = sym stands.nodes ∙ is in
    subst (λ (ns : List ℕ). Stands p (record b { untold_nodes = rest }) (told_from s ns s.untold_marks).0
    × (past_news node (past_in b.listings node) ≡ (told_from s ns s.untold_marks).1)) (sym nodes) (
      record { receivers = stands.receivers; listings = stands.listings; watermarks = stands.watermarks; nodes = refl; marks = stands.marks },
      ap (λ (ls : List Listing). past_news node (past_in ls node)) stands.listings
          ∙ past_is node (find (λ (l : Listing). l.node == node) s.listings),
    )

-- nothing is told in both
pub told_nothing : (p : Settings) (b : BookState) (s : SenderState) → b.untold_nodes ≡ [] → untold_marks b.watermarks ≡ [] → Stands p b s → told s ≡ (s, None)
told_nothing p b s none_nodes none_marks stands =
    subst (λ (ns : List ℕ). told_from s ns s.untold_marks ≡ (s, None)) (sym (sym stands.nodes ∙ none_nodes))
    (subst (λ (ms : List ℕ). told_from s [] ms ≡ (s, None)) (sym (sym stands.marks ∙ none_marks)) refl)

done_is : (s : SenderState) (mark : ℕ) (o : Option Watermark) → option_map (λ w. Done mark (outcome_at s.listings (mark_state w))) o ≡ done_news s mark o
done_is s mark None = refl
done_is s mark (Some w) = refl

-- an outcome is told in both
pub told_mark : (k : Kept) (p : Settings) (b : BookState) (s : SenderState) → AreNumbered 1 b.watermarks → b.untold_nodes ≡ [] → find (λ (k : Kept). k.untold) b.watermarks ≡ Some k → Stands p b s
    → Stands p (record b { watermarks = told_first b.watermarks }) (told s).0 × (Some (Done k.mark (outcome_by b.listings k)) ≡ (told s).1)
told_mark k p b s numbered none_nodes first stands =
    let marks : s.untold_marks ≡ k.mark ∷ untold_marks (told_first b.watermarks) = sym stands.marks ∙ first_goes b.watermarks k first in
    let news : Some (Done k.mark (outcome_by b.listings k)) ≡ done_news s k.mark (watermark_of s k.mark) =
    ap (λ (o : Outcome). Some (Done k.mark o)) (outcome_is b.listings k ∙ ap (λ ls. outcome_at ls (kept_state k)) stands.listings)
    ∙ read_some (λ a. Done k.mark (outcome_at s.listings a)) _ _ k (found_in_both (λ a. a.mark == k.mark) p b s stands)
    (found_by_number (λ (k : Kept). k.untold) 1 b.watermarks k numbered first)
    ∙ done_is s k.mark (watermark_of s k.mark) in
    subst (λ (ns : List ℕ). Stands p (record b { watermarks = told_first b.watermarks }) (told_from s ns s.untold_marks).0 × (Some (Done k.mark (outcome_by b.listings k)) ≡ (told_from s ns s.untold_marks).1))
    (sym (sym stands.nodes ∙ none_nodes))
    (subst (λ (ms : List ℕ). Stands p (record b { watermarks = told_first b.watermarks }) (told_from s [] ms).0 × (Some (Done k.mark (outcome_by b.listings k)) ≡ (told_from s [] ms).1))
    (sym marks)
    (record { receivers = stands.receivers; listings = stands.listings; watermarks = told_keeps b.watermarks ∙ stands.watermarks; nodes = stands.nodes; marks = refl }, news))
