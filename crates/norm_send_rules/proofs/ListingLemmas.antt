-- What a member is listed past never falls in an instance.
use Rattle.std.proofs.Common.{◌≡◌, ℕ, suc, ◌+◌, inl, inr, List, [], ◌∷◌, ◌++◌, length, map, cond, Bool, true, false, Option, None, Some, Result, Ok, Err, refl, sym, ap, subst, ◌∙◌, arith}
use Rattle.std.specs.Prelude.{zero, find, filter, not, nat_le, nat_lt, ◌==◌, ◌&&◌, ◌||◌}
use Rattle.std.specs.List.{list_any}
use Rattle.std.proofs.lemmas.Bool.Decides.{Decides-eqb, Decides-not}
use Rattle.std.proofs.lemmas.List.{length-append}
use Rattle.norm_base.specs.Settings.{Settings}
use Rattle.norm_base.specs.declared.kinds.Kind.TheVariants as kind
use Rattle.norm_base.specs.declared.node.Origin.{Origin}
use Rattle.fec_plan.specs.Points.{position_before, reaches}
use Rattle.fec_plan.specs.declared.position.Position.{Position}
use Rattle.fec_plan.proofs.PositionLemmas.{before_decides, not_both}
use Rattle.norm_ext.specs.Asking.{item_named}
use Rattle.norm_ext.specs.Message.{Message, Nack, Ack, AckContent, Mark, Unread}
use Rattle.norm_ext.specs.Reading.{decoded}
use Rattle.norm_ext.specs.Requests.{Request}
use Rattle.norm_order.specs.Entries.{Write, Cut, End, Whole, Stream}
use Rattle.norm_order.specs.Segments.{unclosed}
use Rattle.norm_order.specs.Shapes.{last_source, is_source}
use Rattle.norm_order.specs.Sets.{with_member}
use Rattle.norm_send_rules.specs.Commanding.{commanded}
use Rattle.norm_send_rules.specs.Enqueuing.{object_fault, joined}
use Rattle.norm_send_rules.specs.Hearing.{nack_counts, ack_counts, joined_round, listed_past, rises, credited, credited_by, message_heard}
use Rattle.norm_send_rules.specs.InWindow.{last_index, current_shapes}
use Rattle.norm_send_rules.specs.ListingLaws.{NoneFalls, ListingLaws}
use Rattle.norm_send_rules.specs.Marking.{is_no_quorum, most_open, watermark_at, with_watermark, cut_and_marked}
use Rattle.norm_send_rules.specs.Restarting.{is_used, begun_anew}
use Rattle.norm_send_rules.specs.SenderState.{SenderState, Instance, Listing, Watermark}
use Rattle.norm_send_rules.specs.SenderStep as events
use Rattle.norm_send_rules.specs.SenderStep.{SenderEvent, sender_step}
use Rattle.norm_send_rules.specs.Sending.{noted}
use Rattle.norm_send_rules.specs.Streaming.{open_fault, with_parts, parts_now, write_fault, close_fault, grown, cut}
use Rattle.norm_send_rules.specs.Striking.{strike_fault, without_node, struck_off}
use Rattle.norm_send_rules.specs.Telling.{told, past_news, done_news, listing_of}
use Rattle.norm_send_rules.specs.Watermarks.{is_past, keeps_oldest, counted_anew, settled, end_where, open_watermarks, pending, watermark_of}
use Rattle.norm_send_rules.specs.declared.job.Job.{Job}
use Rattle.norm_send_rules.specs.declared.job.Job.TheVariants as job
use Rattle.norm_send_rules.specs.declared.news.News.{News}
use Rattle.norm_send_rules.specs.declared.news.Outcome.TheVariants.{Expired}
use Rattle.norm_send_rules.specs.declared.want.Want.{Want}
use Rattle.norm_send_rules.specs.declared.want.Want.TheVariants.{Info, Symbol}
use Rattle.norm_send_rules.proofs.TickLemmas.{tick_keeps}
use Rattle.norm_send_rules.proofs.WantLemmas.{either}

clash : false ≡ true → ⊥
clash e = cc

same_position : (x y : Position) → Some x ≡ Some y → x ≡ y
same_position x y e = cc

none_listed : (x : Position) → None ≡ Some x → ⊥
none_listed x e = cc

reaches_itself : (at : Position) → reaches at at ≡ true
reaches_itself at = (Decides-not _ (before_decides at at)).1 (not_both at at (inl refl))

-- what is not past a position is before it, and so the position is further
further_reaches : (past at : Position) → reaches past at ≡ false → reaches at past ≡ true
further_reaches past at e =
    (Decides-not _ (before_decides at past)).1 (not_both past at (inr ((before_decides past at).0 (back (position_before past at) e))))
  where
    back : (b : Bool) → not b ≡ false → b ≡ true
    back true f = refl
    back false f = absurd (clash (sym f))

-- ---- the listings of a list

-- what a node is listed past
abbrev past_in : List Listing → ℕ → Option Position
past_in ls node = elim (find (λ (l : Listing). l.node == node) ls) [ Some l ↦ l.past | None ↦ None ]

abbrev has_in : List Listing → ℕ → Bool
has_in ls node = list_any (λ (l : Listing). l.node == node) ls

-- listings that go on from others
abbrev GoesOn : List Listing → List Listing → Type 0
GoesOn ls ms = (node : ℕ) (past : Position) → past_in ls node ≡ Some past → has_in ms node ≡ true
    → (now : Position) × (past_in ms node ≡ Some now) × (reaches now past ≡ true)

itself : (ls : List Listing) → GoesOn ls ls
itself ls node past e member = (past, e, reaches_itself past)

same_listings : (ls ms : List Listing) → ms ≡ ls → GoesOn ls ms
same_listings ls ms same = subst (λ (l : List Listing). GoesOn ls l) (sym same) (itself ls)

-- one rises
risen : (node : ℕ) (at : Position) (ls : List Listing) (other : ℕ) (past : Position) → past_in ls other ≡ Some past
    → (now : Position) × (past_in (map (listed_past node at) ls) other ≡ Some now) × (reaches now past ≡ true)
risen node at [] other past e = absurd (none_listed past e)
risen node at (l ∷ ls) other past e = go (l.node == other) refl e (risen node at ls other past)
  where
    rest : Option Listing
    rest = find (λ (x : Listing). x.node == other) (map (listed_past node at) ls)

    past_of : Option Listing → Option Position
    past_of found = elim found [ Some x ↦ x.past | None ↦ None ]

    one : Bool → Bool → Listing
    one b c = elim b as (λ _. Listing) [ true ↦ l | false ↦ elim c [ true ↦ record l { past = Some at } | false ↦ l ] ]

    same_node : (b c d : Bool) → past_of (cond ((one b c).node == other) (Some (one b c)) rest) ≡ past_of (cond (l.node == other) (Some (one b c)) rest)
    same_node true c d = refl
    same_node false true d = refl
    same_node false false d = refl

    here : l.past ≡ Some past → (c : Bool) → (l.node == node) ≡ c → (d : Bool) → is_past at l ≡ d
        → (now : Position) × ((one (c && d) c).past ≡ Some now) × (reaches now past ≡ true)
    here own false is d f = (past, own, reaches_itself past)
    here own true is true f = (past, own, reaches_itself past)
    here own true is false f = (
      at,
      refl,
      further_reaches past at (sym (ap (λ (o : Option Position). elim o [ Some x ↦ reaches x at | None ↦ false ]) own) ∙ f),
    )

    moved : past_of (cond ((listed_past node at l).node == other) (Some (listed_past node at l)) rest)
        ≡ past_of (cond (l.node == other) (Some (listed_past node at l)) rest)
    moved = same_node (l.node == node && is_past at l) (l.node == node) true

    go : (b : Bool) → (l.node == other) ≡ b → past_of (cond b (Some l) (find (λ (x : Listing). x.node == other) ls)) ≡ Some past
        → (past_in ls other ≡ Some past → (now : Position) × (past_in (map (listed_past node at) ls) other ≡ Some now) × (reaches now past ≡ true))
        → (now : Position) × (past_of (cond ((listed_past node at l).node == other) (Some (listed_past node at l)) rest) ≡ Some now) × (reaches now past ≡ true)
    go true is f more =
        let h = here f (l.node == node) refl (is_past at l) refl in
        (h.0, moved ∙ ap (λ b. past_of (cond b (Some (listed_past node at l)) rest)) is ∙ h.1, h.2)
    go false is f more =
        let h = more f in
        (h.0, moved ∙ ap (λ b. past_of (cond b (Some (listed_past node at l)) rest)) is ∙ h.1, h.2)

-- one goes
without : (gone : ℕ) (ls : List Listing) (other : ℕ) → has_in (filter (λ (l : Listing). not (l.node == gone)) ls) other ≡ true
    → past_in (filter (λ (l : Listing). not (l.node == gone)) ls) other ≡ past_in ls other
without gone ls other member = kept ls (differ ls member)
  where
    is_kept : Listing → Bool
    is_kept l = not (l.node == gone)

    past_of : Option Listing → Option Position
    past_of found = elim found [ Some x ↦ x.past | None ↦ None ]

    -- a member that is left is not the one that goes
    differ : (ls : List Listing) → has_in (filter (λ (l : Listing). not (l.node == gone)) ls) other ≡ true → other ≡ gone → ⊥
    differ [] e same = clash e
    differ (l ∷ ls) e same = by (l.node == gone) refl e (differ ls)
      where
        by : (b : Bool) → (l.node == gone) ≡ b → has_in (cond (not b) (l ∷ filter (λ (x : Listing). not (x.node == gone)) ls) (filter (λ (x : Listing). not (x.node == gone)) ls)) other ≡ true
            → (has_in (filter (λ (x : Listing). not (x.node == gone)) ls) other ≡ true → other ≡ gone → ⊥) → ⊥
        by true is e more = more e same
        by false is e more = this (l.node == other) refl e
          where
            this : (c : Bool) → (l.node == other) ≡ c → (c || has_in (filter (λ (x : Listing). not (x.node == gone)) ls) other) ≡ true → ⊥
            this true own e = clash (sym is ∙ (Decides-eqb l.node gone).1 ((Decides-eqb l.node other).0 own ∙ same))
            this false own e = more e same

    kept : (ls : List Listing) → (other ≡ gone → ⊥)
        → past_in (filter (λ (l : Listing). not (l.node == gone)) ls) other ≡ past_in ls other
    kept [] apart = refl
    kept (l ∷ ls) apart = by (l.node == gone) refl (l.node == other) refl (kept ls apart)
      where
        rest : List Listing
        rest = filter (λ (x : Listing). not (x.node == gone)) ls

        by : (b : Bool) → (l.node == gone) ≡ b → (c : Bool) → (l.node == other) ≡ c → past_in rest other ≡ past_in ls other
            → past_in (cond (not b) (l ∷ rest) rest) other ≡ past_of (cond (l.node == other) (Some l) (find (λ (x : Listing). x.node == other) ls))
        by true is true own e =
            absurd (apart (sym ((Decides-eqb l.node other).0 own) ∙ (Decides-eqb l.node gone).0 is))
        by true is false own e = e ∙ sym (ap (λ c. past_of (cond c (Some l) (find (λ (x : Listing). x.node == other) ls))) own)
        by false is c own e =
            ap (λ d. past_of (cond d (Some l) (find (λ (x : Listing). x.node == other) rest))) own
            ∙ two c e ∙ sym (ap (λ d. past_of (cond d (Some l) (find (λ (x : Listing). x.node == other) ls))) own)
          where
            two : (d : Bool) → past_in rest other ≡ past_in ls other
                → past_of (cond d (Some l) (find (λ (x : Listing). x.node == other) rest)) ≡ past_of (cond d (Some l) (find (λ (x : Listing). x.node == other) ls))
            two true f = refl
            two false f = f

one_gone : (gone : ℕ) (ls : List Listing) → GoesOn ls (filter (λ (l : Listing). not (l.node == gone)) ls)
one_gone gone ls other past e member = (past, without gone ls other member ∙ e, reaches_itself past)

-- ---- what leaves the listings

anew_listings : (s t : SenderState) → (counted_anew s t).listings ≡ t.listings
anew_listings s t = go (keeps_oldest s t)
  where
    go : (b : Bool) → (elim b as (λ _. SenderState) [ true ↦ t | false ↦ record t { flushes = 0 } ]).listings ≡ t.listings
    go true = refl
    go false = refl

abbrev Stays : SenderState → SenderState → Type 0
Stays s t = GoesOn s.listings t.listings

unless : {A B : Type 0} (fault : Option A) (s t : SenderState) (refuses : A → B) (gives : B) → Stays s t
    → Stays s (elim fault as (λ _. SenderState × B) [ Some f ↦ (s, refuses f) | None ↦ (t, gives) ]).0
unless (Some f) s t refuses gives h = itself s.listings
unless None s t refuses gives h = h

cut_same : (p : Settings) (s : SenderState) → (cut p s).listings ≡ s.listings
cut_same p s = go (unclosed p.e (parts_now s))
  where
    go : (n : ℕ) → (elim n as (λ _. SenderState) [ zero ↦ s | suc k ↦ with_parts (parts_now s ++ Cut ∷ []) s ]).listings ≡ s.listings
    go zero = refl
    go (suc n) = refl

either_same : {A : Type 0} (b : Bool) (s : SenderState) (t u : SenderState × A) → t.0.listings ≡ s.listings → u.0.listings ≡ s.listings
    → (either b t u).0.listings ≡ s.listings
either_same true s t u h k = h
either_same false s t u h k = k

watermark_same : (s : SenderState) (by : Origin) (quorum : Option ℕ) (found : Option Position) → (watermark_at s by quorum found).0.listings ≡ s.listings
watermark_same s by quorum None = refl
watermark_same s by quorum (Some at) =
    let w : Watermark = record { mark = length s.watermarks + 1; by = by; at = at; quorum = quorum; ended = None } in
    either_same (nat_le most_open (length (open_watermarks s))) s (s, _) (with_watermark s by quorum at, _) refl
    (anew_listings s (settled (record s { watermarks = s.watermarks ++ w ∷ [] })))

mark_same : (p : Settings) (s : SenderState) (by : Origin) (quorum : Option ℕ) → (cut_and_marked p s by quorum).0.listings ≡ s.listings
mark_same p s by quorum = watermark_same (cut p s) by quorum (last_source (current_shapes p (cut p s))) ∙ cut_same p s

pub longer : (xs : List Instance) (x : Instance) → xs ++ x ∷ [] ≡ xs → ⊥
longer xs x e = let n = ap (λ (l : List Instance). length l) e in let m = length-append xs (x ∷ []) in absurd (omega (arith, n, m))

restart_goes_on : (s : SenderState) (id : ℕ) (b : Bool) {A : Type 0} (refusal gives : A) → (either b (s, refusal) (begun_anew id s, gives)).0.earlier ≡ s.earlier
    → Stays s (either b (s, refusal) (begun_anew id s, gives)).0
restart_goes_on s id true refusal gives e = itself s.listings
restart_goes_on s id false refusal gives e = absurd (longer s.earlier s.current e)

commands_go_on : (p : Settings) (s : SenderState) (by : Origin) (job : Job) → (commanded p s by job).0.earlier ≡ s.earlier → Stays s (commanded p s by job).0
commands_go_on p s by (job.Data info bytes) e =
    unless (object_fault p s info bytes) s (joined p by (Whole kind.Data info bytes) s) Err (Ok _) (itself s.listings)
commands_go_on p s by (job.File name bytes) e =
    unless (object_fault p s (Some name) bytes) s (joined p by (Whole kind.File (Some name) bytes) s) Err (Ok _) (itself s.listings)
commands_go_on p s by job.Open e = unless (open_fault p s) s (joined p by (Stream []) s) Err (Ok _) (itself s.listings)
commands_go_on p s by (job.Write bytes) e =
    let parts = parts_now s ++ Write by bytes ∷ [] in unless (write_fault p s bytes parts) s (grown p s parts) Err (Ok _) (itself s.listings)
commands_go_on p s by job.Close e =
    let parts = parts_now s ++ End ∷ [] in unless (close_fault p s parts) s (grown p s parts) Err (Ok _) (itself s.listings)
commands_go_on p s by (job.Mark None) e = same_listings s.listings _ (mark_same p s by None)
commands_go_on p s by (job.Mark (Some q)) e =
    same_listings s.listings _ (either_same (is_no_quorum p q) s (s, _) (cut_and_marked p s by (Some q)) refl (mark_same p s by (Some q)))
commands_go_on p s by (job.Restart instance) e = restart_goes_on s instance (is_used s instance) _ _ e
commands_go_on p s by (job.Strike node) e =
    unless (strike_fault s node) s (struck_off node s) Err (Ok _)
    (subst (λ (l : List Listing). GoesOn s.listings l) (sym (anew_listings s (settled (without_node node s)))) (one_gone node s.listings))

-- ---- datagrams, ticks and news

heard_goes_on : {E : Type 0} (p : Settings) (s : SenderState) (now : ℕ) (read : Result Message E) → Stays s (message_heard p s now read)
heard_goes_on p s now (Ok (Nack m)) = go (nack_counts p s m) m.requests
  where
    go : (b : Bool) (requests : List Request) → Stays s (elim b as (λ _. SenderState) [ true ↦ joined_round p s now requests | false ↦ s ])
    go false requests = itself s.listings
    go true [] = itself s.listings
    go true (r ∷ requests) = itself s.listings
heard_goes_on p s now (Ok (Ack m)) = go (ack_counts p s m) m.content
  where
    up : (at : Position) → SenderState
    up at = record s { listings = map (listed_past m.source at) s.listings; untold_nodes = with_member nat_lt m.source s.untold_nodes }

    rising : (at : Position) (b : Bool) → Stays s (elim b as (λ _. SenderState) [ true ↦ counted_anew s (settled (up at)) | false ↦ s ])
    rising at true =
        subst (λ (l : List Listing). GoesOn s.listings l) (sym (anew_listings s (settled (up at))))
        (λ node past e member. risen m.source at s.listings node past e)
    rising at false = itself s.listings

    source : (at : Position) (b : Bool) → Stays s (elim b as (λ _. SenderState) [ true ↦ credited m.source at s | false ↦ s ])
    source at true = rising at (rises m.source at s)
    source at false = itself s.listings

    named : (o : Option Position) → Stays s (credited_by p m.source o s)
    named (Some at) = source at (is_source (current_shapes p s) at)
    named None = itself s.listings

    go : (b : Bool) (content : AckContent) → Stays s (elim b as (λ _. SenderState) [
      | true ↦ elim content [ Mark item ↦ credited_by p m.source (item_named p (last_index s) item) s | Unread octets ↦ s ]
      | false ↦ s
    ])
    go true (Mark item) = named (item_named p (last_index s) item)
    go true (Unread octets) = itself s.listings
    go false content = itself s.listings
heard_goes_on p s now _ = itself s.listings

noted_same : (w : Want) (s : SenderState) → (noted w s).listings ≡ s.listings
noted_same (Info index) s = refl
noted_same (Symbol at) s = refl

tick_same : (p : Settings) (s : SenderState) (now : ℕ) → (sender_step p s (events.Ticked now)).0.listings ≡ s.listings
tick_same p s now = tick_keeps p (λ t. t.listings ≡ s.listings) (record {
  closes = λ t r h. h;
  squelched = λ t h. h;
  repaired = λ t w wants e h. h;
  goes_on = λ t w e h. h;
  notes = λ t w h. noted_same w t ∙ h;
  flushes = λ t moment h. h;
  expires = λ t w e h. anew_listings t (end_where (λ v. v.mark == w.mark) (λ v. Expired (length (pending t v.at))) t) ∙ h;
  spends = λ t moment h. h;
}) s now refl

told_same : (s : SenderState) → (told s).0.listings ≡ s.listings
told_same s = go s.untold_nodes s.untold_marks
  where
    news : List ℕ → List ℕ → SenderState × Option News
    news nodes marks = elim nodes [
      | node ∷ others ↦ (record s { untold_nodes = others }, past_news node (listing_of s node))
      | [] ↦ elim marks [
        | mark ∷ others ↦ (record s { untold_marks = others }, done_news s mark (watermark_of s mark))
        | [] ↦ (s, None)
      ]
    ]

    go : (nodes marks : List ℕ) → (news nodes marks).0.listings ≡ s.listings
    go (node ∷ nodes) marks = refl
    go [] (mark ∷ marks) = refl
    go [] [] = refl

never_fall : (p : Settings) (s : SenderState) (event : SenderEvent) → (sender_step p s event).0.earlier ≡ s.earlier
    → NoneFalls s (sender_step p s event).0
never_fall p s (events.Commanded by job now) e = commands_go_on p s by job e
never_fall p s (events.Delivered datagram now) e = heard_goes_on p s now (decoded datagram)
never_fall p s (events.Ticked now) e = same_listings s.listings _ (tick_same p s now)
never_fall p s events.NewsAsked e = same_listings s.listings _ (told_same s)

pub listing_laws : ListingLaws
listing_laws = record { never_fall = never_fall }
