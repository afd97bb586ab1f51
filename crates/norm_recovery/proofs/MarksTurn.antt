-- Over a turn in which no watermark expires, the oldest one stays the oldest, or is satisfied.
use Rattle.std.proofs.Common.{◌≡◌, ℕ, suc, ◌+◌, ◌<◌, cond, List, [], ◌∷◌, length, map, Bool, true, false, Option, None, Some, Result, Ok, refl, sym, ap, ◌∙◌, subst, arith, ◌⊎◌, inl, inr}
use Rattle.std.specs.Prelude.{◌==◌, ◌&&◌, ⊤, find, nat_lt, nat_le}
use Rattle.std.specs.List.{range_with_len}
use Rattle.std.specs.Option.{option_map, option_map_or}
use Rattle.std.proofs.lemmas.Bool.Decides.{Decides-eqb}
use Rattle.norm_base.specs.Settings.{Settings, InRange}
use Rattle.fec_plan.specs.declared.position.Position.{Position}
use Rattle.norm_ext.specs.Asking.{item_named}
use Rattle.norm_ext.specs.Message.{Message, Nack, Ack, AckContent, Mark, Unread}
use Rattle.norm_ext.specs.Reading.{decoded}
use Rattle.norm_ext.specs.Requests.{Request}
use Rattle.norm_ext.specs.Written.{Written, writes}
use Rattle.norm_order.specs.Sets.{with_member}
use Rattle.norm_order.specs.Shapes.{is_source}
use Rattle.norm_send_rules.specs.Closing.{round_closed}
use Rattle.norm_send_rules.specs.Flushing.{most_flushes, flushes_for, flushes_no_more, flushed, flushes_in_turn, may_flush, flushes}
use Rattle.norm_send_rules.specs.Hearing.{rises, listed_past, credited_at, credited_by, nack_counts, ack_counts, joined_round, message_heard, heard}
use Rattle.norm_send_rules.specs.InWindow.{last_index, current_shapes}
use Rattle.norm_send_rules.specs.Messages.{squelch_message}
use Rattle.norm_send_rules.specs.Reached.{marks_of}
use Rattle.norm_send_rules.specs.SenderState.{SenderState, Round, Watermark}
use Rattle.norm_send_rules.specs.Sending.{behind, next_new, noted, sends, sends_new, repairs_next}
use Rattle.norm_send_rules.specs.Telling.{listing_of, past_news, done_news, told}
use Rattle.norm_send_rules.specs.Ticking.{closed_where_due, sends_further, sends_wanted, sends_first, sends_in_time, ticked}
use Rattle.norm_send_rules.specs.Watermarks.{is_met, is_open, oldest, keeps_oldest, counted_anew, ended_with, settled, watermark_of}
use Rattle.norm_send_rules.specs.declared.news.News.{News}
use Rattle.norm_send_rules.specs.declared.news.Outcome.TheVariants.{Satisfied}
use Rattle.norm_send_rules.specs.declared.want.Want.{Want}
use Rattle.norm_send_rules.specs.declared.want.Want.TheVariants.{Info, Symbol}
use Rattle.norm_send_rules.proofs.ReachedLemmas.{reached_laws}
use Rattle.norm_safety.specs.Events.{Event, Commanded, Delivered, Ticked, Offered, UpTaken, NewsAsked}
use Rattle.norm_safety.specs.Recovery.{IsOldest, is_satisfied_mark}
use Rattle.norm_safety.specs.SatisfiedExactly.{is_satisfied}
use Rattle.norm_safety.specs.Tail.{Course, course_from, comes, sender_ticks, tail_turn}
use Rattle.norm_safety.specs.World.{World, world_opening}
use Rattle.norm_safety.specs.WorldStep.{world_step, run}
use Rattle.norm_safety.proofs.EntryLemmas.{clash}
use Rattle.norm_laws.proofs.CountSender.{sender_after, sender_is}
use Rattle.norm_laws.proofs.LaterTailLemmas.{Quiet, if_own}
use Rattle.norm_recovery.proofs.NackAsks.{run_reached}
use Rattle.norm_recovery.proofs.RunsOutTail.{own_tick}
use Rattle.norm_recovery.proofs.RunsOutTurns.{IsAt, tells_keep, round_keeps}

-- ---- watermarks that stay, or are satisfied

-- a watermark is as it was; or it was open, and is satisfied
pub data One (w : Watermark) : Watermark → Type 0 where
  Same : One w w
  Meets : is_open w ≡ true → One w (ended_with Satisfied w)

abbrev pub Each : List Watermark → List Watermark → Type 0
Each [] [] = ⊤
Each [] (v ∷ vs) = ⊥
Each (w ∷ ws) [] = ⊥
Each (w ∷ ws) (v ∷ vs) = One w v × Each ws vs

pub each_same : (ws : List Watermark) → Each ws ws
each_same [] = tt
each_same (w ∷ ws) = (Same, each_same ws)

one_both : (a b c : Watermark) → One a b → One b c → One a c
one_both a _ c Same g = g
one_both a _ _ (Meets e) Same = Meets e
one_both a _ _ (Meets e) (Meets f) = absurd (clash f)

pub each_both : (xs ys zs : List Watermark) → Each xs ys → Each ys zs → Each xs zs
each_both [] [] zs h g = g
each_both [] (y ∷ ys) zs h g = absurd h
each_both (x ∷ xs) [] zs h g = absurd h
each_both (x ∷ xs) (y ∷ ys) [] h g = absurd g
each_both (x ∷ xs) (y ∷ ys) (z ∷ zs) h g = (one_both x y z h.0 g.0, each_both xs ys zs h.1 g.1)

each_settled : (test : Watermark → Bool) (ws : List Watermark) → Each ws (map (λ w. cond (is_open w && test w) (ended_with Satisfied w) w) ws)
each_settled test [] = tt
each_settled test (w ∷ ws) = (go (is_open w) (test w) refl, each_settled test ws)
  where
    go : (a b : Bool) → is_open w ≡ a → One w (cond (a && b) (ended_with Satisfied w) w)
    go true true e = Meets e
    go true false e = Same
    go false b e = Same

-- of states
abbrev Goes : SenderState → SenderState → Type 0
Goes s t = Each s.watermarks t.watermarks

goes_same : (s : SenderState) → Goes s s
goes_same s = each_same s.watermarks

anew_goes : (s before t : SenderState) → Goes s t → Goes s (counted_anew before t)
anew_goes s before t h = go (keeps_oldest before t)
  where
    go : (b : Bool) → Goes s (elim b [ true ↦ t | false ↦ record t { flushes = 0 } ])
    go true = h
    go false = h

credited_goes : (p : Settings) (node : ℕ) (at : Position) (s : SenderState) → Goes s (credited_at p node at s)
credited_goes p node at s = go (is_source (current_shapes p s) at) (rises node at s)
  where
    risen : SenderState
    risen = record s { listings = map (listed_past node at) s.listings; untold_nodes = with_member nat_lt node s.untold_nodes }

    go : (b c : Bool) → Goes s (elim b [ true ↦ elim c [ true ↦ counted_anew s (settled risen) | false ↦ s ] | false ↦ s ])
    go true true = anew_goes s s (settled risen) (each_settled (is_met risen) s.watermarks)
    go true false = goes_same s
    go false c = goes_same s

joined_goes : (p : Settings) (now : ℕ) (s : SenderState) (requests : List Request) → Goes s (joined_round p s now requests)
joined_goes p now s [] = goes_same s
joined_goes p now s (r ∷ requests) = goes_same s

heard_goes : {E : Type 0} (p : Settings) (s : SenderState) (now : ℕ) (read : Result Message E) → Goes s (message_heard p s now read)
heard_goes p s now (Ok (Nack m)) = go (nack_counts p s m)
  where
    go : (b : Bool) → Goes s (elim b [ true ↦ joined_round p s now m.requests | false ↦ s ])
    go true = joined_goes p now s m.requests
    go false = goes_same s
heard_goes p s now (Ok (Ack m)) = go (ack_counts p s m) m.content
  where
    by : (at : Option Position) → Goes s (credited_by p m.source at s)
    by None = goes_same s
    by (Some at) = credited_goes p m.source at s

    go : (b : Bool) (content : AckContent) → Goes s (elim b [
      | true ↦ elim content [ Mark item ↦ credited_by p m.source (item_named p (last_index s) item) s | Unread octets ↦ s ]
      | false ↦ s
    ])
    go true (Mark item) = by (item_named p (last_index s) item)
    go true (Unread octets) = goes_same s
    go false content = goes_same s
heard_goes p s now _ = goes_same s

told_goes : (s : SenderState) → Goes s (told s).0
told_goes s = go s.untold_nodes s.untold_marks
  where
    by : List ℕ → List ℕ → SenderState × Option News
    by nodes marks = elim nodes [
      | node ∷ others ↦ (record s { untold_nodes = others }, past_news node (listing_of s node))
      | [] ↦ elim marks [
        | mark ∷ others ↦ (record s { untold_marks = others }, done_news s mark (watermark_of s mark))
        | [] ↦ (s, None)
      ]
    ]

    go : (nodes marks : List ℕ) → Goes s (by nodes marks).0
    go (node ∷ nodes) marks = goes_same s
    go [] (mark ∷ marks) = goes_same s
    go [] [] = goes_same s

pub event_goes : (p : Settings) (w : World) (e : Event) → Quiet p e → Goes w.sender (world_step p w e).0.sender
event_goes p w e quiet = subst (Goes w.sender) (sym (sender_is p w e)) (after e quiet)
  where
    either : (b : Bool) (t : SenderState) → Goes w.sender t → Goes w.sender (elim b [ true ↦ t | false ↦ w.sender ])
    either true t h = h
    either false t h = goes_same w.sender

    after : (e : Event) → Quiet p e → Goes w.sender (sender_after p w.sender e)
    after (Commanded by job now) quiet = absurd quiet
    after (Delivered node datagram now draw) quiet = either (node == p.sender) (heard p w.sender datagram now) (heard_goes p w.sender now (decoded datagram))
    after (Ticked node now) quiet = subst (Goes w.sender) (sym (ap (λ (b : Bool). if_own b (ticked p w.sender now).0 w.sender) quiet)) (goes_same w.sender)
    after (Offered node octets) quiet = goes_same w.sender
    after (UpTaken node) quiet = goes_same w.sender
    after NewsAsked quiet = told_goes w.sender

-- ---- a tick that expires none

abbrev left_by : SenderState × Option Written → SenderState
left_by step = step.0

module _ (p : Settings) (now : ℕ) (s : SenderState) (not_many : may_flush p s now ≡ true → nat_lt s.flushes most_flushes ≡ true) where
  abbrev Kept : SenderState × Option Written → Type 0
  Kept step = step.0.watermarks ≡ s.watermarks

  noted_kept : (w : Want) (t : SenderState) → (noted w t).watermarks ≡ t.watermarks
  noted_kept (Info index) t = refl
  noted_kept (Symbol at) t = refl

  flush_kept : (flushes p now s).0.watermarks ≡ s.watermarks
  flush_kept = go (may_flush p s now) refl
    where
      counts : nat_lt s.flushes most_flushes ≡ true → (w : Watermark) (b : Bool) → nat_lt s.flushes most_flushes ≡ b
          → (left_by (elim b [ true ↦ flushes_for p now w s | false ↦ flushes_no_more p now w s ])).watermarks ≡ s.watermarks
      counts few w true e = refl
      counts few w false e = absurd (clash (sym e ∙ few))

      turn : nat_lt s.flushes most_flushes ≡ true → (o : Option Watermark)
          → (left_by (elim o [ Some w ↦ flushed p now w s | None ↦ (s, None) ])).watermarks ≡ s.watermarks
      turn few (Some w) = counts few w (nat_lt s.flushes most_flushes) refl
      turn few None = refl

      go : (b : Bool) → may_flush p s now ≡ b → (left_by (elim b [ true ↦ flushes_in_turn p now s | false ↦ (s, None) ])).watermarks ≡ s.watermarks
      go true e = turn (not_many e) (oldest s)
      go false e = refl

  sends_kept : (sends_in_time p now s).0.watermarks ≡ s.watermarks
  sends_kept = go (nat_lt now s.next_send)
    where
      further : (next : Option Want) → (left_by (elim next [ Some w ↦ sends_new p now w s | None ↦ flushes p now s ])).watermarks ≡ s.watermarks
      further (Some w) = noted_kept w (record s { next = behind w })
      further None = flush_kept

      wanted : (wants : List Want)
          → (left_by (elim wants [ [] ↦ sends_further p now s | w ∷ more ↦ repairs_next p now w more s ])).watermarks ≡ s.watermarks
      wanted [] = further (next_new p s)
      wanted (w ∷ more) = noted_kept w (record s { wants = more })

      first : (b : Bool) → (left_by (elim b [
        | true ↦ sends p now (writes (squelch_message p s s.current.drop) (s.current.drop.index ∷ [])) (record s { squelch_due = false })
        | false ↦ sends_wanted p now s
      ])).watermarks ≡ s.watermarks
      first true = refl
      first false = wanted s.wants

      go : (b : Bool) → (left_by (elim b [ true ↦ (s, None) | false ↦ sends_first p now s ])).watermarks ≡ s.watermarks
      go true = refl
      go false = first s.squelch_due

closed_kept : (p : Settings) (now : ℕ) (s : SenderState) → (closed_where_due p now s).watermarks ≡ s.watermarks
closed_kept p now s = go s.round
  where
    by : (r : Round) (b : Bool) → (elim b as (λ _. SenderState) [ true ↦ round_closed p r s | false ↦ s ]).watermarks ≡ s.watermarks
    by r true = refl
    by r false = refl

    go : (found : Option Round) → (elim found as (λ _. SenderState) [ Some r ↦ elim (nat_le r.closes now) [ true ↦ round_closed p r s | false ↦ s ] | None ↦ s ]).watermarks
        ≡ s.watermarks
    go None = refl
    go (Some r) = by r (nat_le r.closes now)

-- ---- the oldest one

some_is : {X : Type 0} (x y : X) → Some x ≡ Some y → x ≡ y
some_is x y e = cc

no_some : {X : Type 0} (x : X) → None ≡ Some x → ⊥
no_some x e = cc

same_heads : {a b : ℕ} {xs ys : List ℕ} → (a ∷ xs) ≡ (b ∷ ys) → a ≡ b
same_heads e = cc

same_rests : {a b : ℕ} {xs ys : List ℕ} → (a ∷ xs) ≡ (b ∷ ys) → xs ≡ ys
same_rests e = cc

abbrev met_in : List Watermark → ℕ → Bool
met_in ws mark = option_map_or is_satisfied (find (λ (x : Watermark). x.mark == mark) ws) false

-- by the numbers of a list that count up
first_goes : (k : ℕ) (ws vs : List Watermark) (w : Watermark) → marks_of ws ≡ range_with_len (suc k) (length ws) → Each ws vs → find is_open ws ≡ Some w
    → ((find is_open vs ≡ Some w) ⊎ (met_in vs w.mark ≡ true)) × (k < w.mark)
first_goes k [] vs w e each is = absurd (no_some w is)
first_goes k (x ∷ ws) [] w e each is = absurd each
first_goes k (x ∷ ws) (v ∷ vs) w e each is = go (is_open x) refl is each.0 (λ found. first_goes (suc k) ws vs w rest each.1 found)
  where
    head : x.mark ≡ suc k
    head = same_heads e

    rest : marks_of ws ≡ range_with_len (suc (suc k)) (length ws)
    rest = same_rests e ∙ ap (λ (n : ℕ). range_with_len n (length ws)) (let h : suc k + 1 ≡ suc (suc k) = omega arith in h)

    M : Option Watermark → Bool
    M o = option_map_or is_satisfied o false

    here : is_open x ≡ true → x ≡ w → (v : Watermark) → One x v → (find is_open (v ∷ vs) ≡ Some w) ⊎ (met_in (v ∷ vs) w.mark ≡ true)
    here opens same _ Same = inl (ap (λ (b : Bool). cond b (Some x) (find is_open vs)) opens ∙ ap (λ (y : Watermark). Some y) same)
    here opens same _ (Meets stands) =
        inr (ap (λ (b : Bool). M (cond b (Some (ended_with Satisfied x)) (find (λ (y : Watermark). y.mark == w.mark) vs)))
        ((Decides-eqb x.mark w.mark).1 (ap (λ (y : Watermark). y.mark) same)))

    later : is_open x ≡ false → (v : Watermark) → One x v → k < w.mark → suc k < w.mark
        → (find is_open vs ≡ Some w) ⊎ (met_in vs w.mark ≡ true) → (find is_open (v ∷ vs) ≡ Some w) ⊎ (met_in (v ∷ vs) w.mark ≡ true)
    later shut _ (Meets stands) lt less more = absurd (clash (sym shut ∙ stands))
    later shut _ Same lt less (inl found) = inl (ap (λ (b : Bool). cond b (Some x) (find is_open vs)) shut ∙ found)
    later shut _ Same lt less (inr met) =
        inr (ap (λ (b : Bool). M (cond b (Some x) (find (λ (y : Watermark). y.mark == w.mark) vs))) (apart (x.mark == w.mark) refl) ∙ met)
      where
        apart : (b : Bool) → (x.mark == w.mark) ≡ b → b ≡ false
        apart true f = absurd (let same = (Decides-eqb x.mark w.mark).0 f in let at = head in omega (arith, same, at, less))
        apart false f = refl

    go : (b : Bool) → is_open x ≡ b → cond b (Some x) (find is_open ws) ≡ Some w → One x v
        → (find is_open ws ≡ Some w → ((find is_open vs ≡ Some w) ⊎ (met_in vs w.mark ≡ true)) × (suc k < w.mark))
        → ((find is_open (v ∷ vs) ≡ Some w) ⊎ (met_in (v ∷ vs) w.mark ≡ true)) × (k < w.mark)
    go true f g one more =
        let same = some_is x w g in
        (here f same v one, (let own = ap (λ (y : Watermark). y.mark) same in let at = head in omega (arith, own, at)))
    go false f g one more =
        let found = more g in (later f v one (let lt = found.1 in omega (arith, lt)) found.1 found.0, (let lt = found.1 in omega (arith, lt)))

-- ---- the turn

module _ (p : Settings) (range : InRange p) (events : List Event) (draws : ℕ → ℕ) (now : ℕ)
    (not_many : may_flush p (closed_where_due p now (run p events).sender) now ≡ true
    → nat_lt (closed_where_due p now (run p events).sender).flushes most_flushes ≡ true) where
  abbrev s : SenderState
  s = (run p events).sender

  abbrev Kept_in : Course → Type 0
  Kept_in c = Goes (run p events).sender c.world.sender

  each : (e : Event) → Quiet p e → IsAt now e → (c : Course) → Kept_in c → Kept_in (comes p e c)
  each e quiet at c h = each_both s.watermarks c.world.sender.watermarks (world_step p c.world e).0.sender.watermarks h (event_goes p c.world e quiet)

  after_tick : Kept_in (comes p (Ticked p.sender now) (course_from (run p events)))
  after_tick =
      subst (λ (ws : List Watermark). Each s.watermarks ws)
      (sym (ap (λ (t : SenderState). t.watermarks) (own_tick p (run p events) now) ∙ sends_kept p now (closed_where_due p now s) not_many ∙ closed_kept p now s))
      (each_same s.watermarks)

  at_end : Kept_in (tail_turn p draws now (course_from (run p events)))
  at_end =
      round_keeps p draws now Kept_in each (λ c n h. h) (sender_ticks p now (course_from (run p events)))
      (tells_keep p draws now Kept_in each (λ c n h. h) (comes p (Ticked p.sender now) (course_from (run p events))) after_tick)

  pub oldest_goes : (w : Watermark) → oldest (run p events).sender ≡ Some w
      → (oldest (tail_turn p draws now (course_from (run p events))).world.sender ≡ Some w)
      ⊎ (is_satisfied_mark (tail_turn p draws now (course_from (run p events))).world w.mark ≡ true)
  oldest_goes w is =
      (first_goes 0 s.watermarks (tail_turn p draws now (course_from (run p events))).world.sender.watermarks w
      (run_reached p range (world_opening p) events (reached_laws.at_first p p.instance range)).book.numbered at_end is).0

  pub mark_goes : (mark : ℕ) → IsOldest (run p events).sender mark → IsOldest (tail_turn p draws now (course_from (run p events))).world.sender mark
      ⊎ (is_satisfied_mark (tail_turn p draws now (course_from (run p events))).world mark ≡ true)
  mark_goes mark is = go (oldest s) refl is
    where
      u : World
      u = (tail_turn p draws now (course_from (run p events))).world

      num : Option Watermark → Option ℕ
      num o = option_map (λ (w : Watermark). w.mark) o

      go : (o : Option Watermark) → oldest s ≡ o → num o ≡ Some mark → IsOldest u.sender mark ⊎ (is_satisfied_mark u mark ≡ true)
      go None e f = absurd (no_some mark f)
      go (Some w) e f = by (oldest_goes w e)
        where
          by : (oldest u.sender ≡ Some w) ⊎ (is_satisfied_mark u w.mark ≡ true) → IsOldest u.sender mark ⊎ (is_satisfied_mark u mark ≡ true)
          by (inl old) = inl (ap num old ∙ f)
          by (inr met) = inr (ap (is_satisfied_mark u) (sym (some_is w.mark mark f)) ∙ met)
