-- A tail that ended its watermark leaves a state from which the next tail may begin.
use Rattle.std.proofs.Common.{◌≡◌, ℕ, zero, suc, ◌+◌, ◌*◌, ◌<◌, ◌≤◌, cond, List, [], ◌∷◌, ◌++◌, length, map, Bool, true, false, Option, None, Some, Result, Ok, refl, sym, ap, ◌∙◌, subst, arith, ◌⊎◌, inl, inr}
use Rattle.std.specs.Prelude.{⊤, drop, find, filter, fold, nat_lt, nat_le, ◌==◌, ◌&&◌}
use Rattle.std.specs.Fn.{iterate}
use Rattle.std.specs.List.{AllByRecursion, range_with_len}
use Rattle.std.specs.Option.{option_map, option_map_or}
use Rattle.std.proofs.lemmas.Bool.Decides.{Decides-eqb}
use Rattle.norm_base.specs.Members.{receivers_of}
use Rattle.norm_base.specs.Settings.{Settings}
use Rattle.fec_plan.specs.declared.position.Position.{Position}
use Rattle.norm_ext.specs.Asking.{item_named}
use Rattle.norm_ext.specs.Message.{Message, Nack, Ack, AckContent, Mark, Unread}
use Rattle.norm_ext.specs.Reading.{decoded}
use Rattle.norm_ext.specs.Requests.{Request}
use Rattle.norm_ext.specs.Written.{Written, writes}
use Rattle.norm_order.specs.Sets.{with_member}
use Rattle.norm_order.specs.Shapes.{is_source, shapes_of}
use Rattle.norm_send_rules.specs.SenderState.{SenderState, Instance, Watermark, Round}
use Rattle.norm_send_rules.specs.InWindow.{last_index, stands_behind, current_shapes}
use Rattle.norm_send_rules.specs.Closing.{round_closed}
use Rattle.norm_send_rules.specs.Flushing.{most_flushes, may_flush, flushes_for, expired, flushes_oldest, flushes_no_more, flushed, flushes_in_turn, flushes}
use Rattle.norm_send_rules.specs.Hearing.{listed_past, rises, credited_at, credited_by, joined_round, nack_counts, ack_counts, message_heard, heard}
use Rattle.norm_send_rules.specs.Messages.{squelch_message}
use Rattle.norm_send_rules.specs.Reached.{marks_of, BookHolds}
use Rattle.norm_send_rules.specs.Repairable.{encoded_from, is_stream}
use Rattle.norm_send_rules.specs.SenderStep as sender
use Rattle.norm_send_rules.specs.Sending.{next_new, behind, noted, sends, repairs_next, sends_new}
use Rattle.norm_send_rules.specs.Telling.{listing_of, past_news, done_news, told}
use Rattle.norm_send_rules.specs.Ticking.{sends_further, sends_wanted, sends_first, sends_in_time, ticked}
use Rattle.norm_send_rules.specs.Watermarks.{is_open, is_met, oldest, keeps_oldest, counted_anew, ended_with, end_where, settled, pending, watermark_of, outcome_of}
use Rattle.norm_send_rules.specs.declared.news.News.{News}
use Rattle.norm_send_rules.specs.declared.news.Outcome.{Outcome}
use Rattle.norm_send_rules.specs.declared.news.Outcome.TheVariants.{Open, Satisfied, Expired}
use Rattle.norm_send_rules.specs.declared.want.Want.{Want}
use Rattle.norm_send_rules.specs.declared.want.Want.TheVariants.{Info, Symbol}
use Rattle.norm_send_rules.proofs.ReachedLemmas.{steps_book, reached_laws}
use Rattle.norm_send_rules.proofs.TickLemmas.{tick_keeps}
use Rattle.norm_safety.specs.Events.{Event, Commanded, Delivered, Ticked, Offered, UpTaken, NewsAsked}
use Rattle.norm_safety.specs.Recovery.{IsOldest}
use Rattle.norm_safety.specs.Tail.{Course, course_from, comes, untold, tells, untaken, takes, copy_comes, others_than, given_by, passes_on, sender_ticks, receiver_ticks, serves, goes_round, says_open, is_open_mark, cut_turn, Tail, turn_more, tail_until, tail_bound, tail_fault}
use Rattle.norm_safety.specs.World.{World, world_opening}
use Rattle.norm_safety.specs.WorldStep.{world_step, run_from, run}
use Rattle.norm_safety.proofs.SenderKeeps.{heard_keeps, ticked_keeps, told_keeps}
use Rattle.norm_safety.proofs.TailLemmas.{tail_laws}
use Rattle.norm_laws.specs.LaterTails.{Begun, after_tail, after_tails, EachEnds, LaterTailsAccepted}
use Rattle.norm_laws.proofs.CountSender.{sender_after, sender_is}

clash : false ≡ true → ⊥
clash e = cc

same_some : (x y : Watermark) → Some x ≡ Some y → x ≡ y
same_some x y e = cc

no_number : (n : ℕ) → None ≡ Some n → ⊥
no_number n e = cc

-- ---- the count of flushes

-- the oldest open watermark has this number
abbrev OnlyFor : ℕ → SenderState → Type 0
OnlyFor mark s = (w : Watermark) → oldest s ≡ Some w → w.mark ≡ mark

-- it has this number, or so many flushes at most are counted
abbrev FewBy : ℕ → ℕ → SenderState → Type 0
FewBy n mark s = (w : Watermark) → oldest s ≡ Some w → (w.mark ≡ mark) ⊎ (s.flushes ≤ n)

kept_mark : (new old : Option Watermark) → (elim new [ Some w ↦ elim old [ Some v ↦ v.mark == w.mark | None ↦ false ] | None ↦ true ]) ≡ true
    → (w : Watermark) → new ≡ Some w → (v : Watermark) × (old ≡ Some v) × (v.mark ≡ w.mark)
kept_mark None old e w is = absurd (cc)
kept_mark (Some x) None e w is = absurd (clash e)
kept_mark (Some x) (Some v) e w is =
    (v, refl, (Decides-eqb v.mark x.mark).0 e ∙ ap (λ (o : Option Watermark). elim o [ Some y ↦ y.mark | None ↦ 0 ]) is)

anew_few : (n mark : ℕ) (s t : SenderState) → t.flushes ≡ s.flushes → FewBy n mark s → FewBy n mark (counted_anew s t)
anew_few n mark s t same h = go (keeps_oldest s t) refl
  where
    go : (b : Bool) → keeps_oldest s t ≡ b → FewBy n mark (elim b [ true ↦ t | false ↦ record t { flushes = 0 } ])
    go true e w is = by (kept_mark (oldest t) (oldest s) e w is)
      where
        by : (v : Watermark) × (oldest s ≡ Some v) × (v.mark ≡ w.mark) → (w.mark ≡ mark) ⊎ (t.flushes ≤ n)
        by (v, was, marks) = few (h v was)
          where
            few : (v.mark ≡ mark) ⊎ (s.flushes ≤ n) → (w.mark ≡ mark) ⊎ (t.flushes ≤ n)
            few (inl own) = inl (sym marks ∙ own)
            few (inr le) = inr (omega (arith, le, same))
    go false e w is = inr (omega arith)

-- ---- a tick

abbrev left_by : SenderState × Option Written → SenderState
left_by step = step.0

noted_only : (mark : ℕ) (w : Want) (s : SenderState) → OnlyFor mark s → OnlyFor mark (noted w s)
noted_only mark (Info index) s h = h
noted_only mark (Symbol at) s h = h

only_few : (n mark : ℕ) (s : SenderState) → OnlyFor mark s → FewBy n mark s
only_few n mark s h w is = inl (h w is)

flush_few : (p : Settings) (now mark : ℕ) (s : SenderState) → OnlyFor mark s → FewBy 1 mark (flushes p now s).0
flush_few p now mark s h = go (may_flush p s now)
  where
    next : (w : Watermark) → FewBy 0 mark (expired w.mark s) → (found : Option Watermark)
        → FewBy 1 mark (left_by (elim found [ Some v ↦ flushes_for p now v (expired w.mark s) | None ↦ (expired w.mark s, None) ]))
    next w few (Some v) x is = one (few x is)
      where
        one : (x.mark ≡ mark) ⊎ ((expired w.mark s).flushes ≤ 0) → (x.mark ≡ mark) ⊎ ((expired w.mark s).flushes + 1 ≤ 1)
        one (inl own) = inl own
        one (inr le) = inr (omega (arith, le))
    next w few None x is = one (few x is)
      where
        one : (x.mark ≡ mark) ⊎ ((expired w.mark s).flushes ≤ 0) → (x.mark ≡ mark) ⊎ ((expired w.mark s).flushes ≤ 1)
        one (inl own) = inl own
        one (inr le) = inr (omega (arith, le))

    no_more : (w : Watermark) (round : Option Round)
        → FewBy 1 mark (left_by (elim round [ Some r ↦ (s, None) | None ↦ flushes_oldest p now (expired w.mark s) ]))
    no_more w (Some r) = only_few 1 mark s h
    no_more w None = next w
        (anew_few 0 mark s (end_where (λ v. v.mark == w.mark) (λ v. Expired (length (pending s v.at))) s) refl (only_few 0 mark s h)) (oldest (expired w.mark s))

    counts : (w : Watermark) (b : Bool)
        → FewBy 1 mark (left_by (elim b [ true ↦ flushes_for p now w s | false ↦ flushes_no_more p now w s ]))
    counts w true = only_few 1 mark (flushes_for p now w s).0 h
    counts w false = no_more w s.round

    turn : (o : Option Watermark) → FewBy 1 mark (left_by (elim o [ Some w ↦ flushed p now w s | None ↦ (s, None) ]))
    turn (Some w) = counts w (nat_lt s.flushes most_flushes)
    turn None = only_few 1 mark s h

    go : (b : Bool) → FewBy 1 mark (left_by (elim b [ true ↦ flushes_in_turn p now s | false ↦ (s, None) ]))
    go true = turn (oldest s)
    go false = only_few 1 mark s h

time_few : (p : Settings) (now mark : ℕ) (s : SenderState) → OnlyFor mark s → FewBy 1 mark (sends_in_time p now s).0
time_few p now mark s h = go (nat_lt now s.next_send)
  where
    further : (next : Option Want) → FewBy 1 mark (left_by (elim next [ Some w ↦ sends_new p now w s | None ↦ flushes p now s ]))
    further (Some w) = only_few 1 mark (sends_new p now w s).0 (noted_only mark w (record s { next = behind w }) h)
    further None = flush_few p now mark s h

    wanted : (wants : List Want) → FewBy 1 mark (left_by (elim wants [ [] ↦ sends_further p now s | w ∷ more ↦ repairs_next p now w more s ]))
    wanted [] = further (next_new p s)
    wanted (w ∷ more) = only_few 1 mark (repairs_next p now w more s).0 (noted_only mark w (record s { wants = more }) h)

    first : (b : Bool) → FewBy 1 mark (left_by (elim b [
      | true ↦ sends p now (writes (squelch_message p s s.current.drop) (s.current.drop.index ∷ [])) (record s { squelch_due = false })
      | false ↦ sends_wanted p now s
    ]))
    first true = only_few 1 mark s h
    first false = wanted s.wants

    go : (b : Bool) → FewBy 1 mark (left_by (elim b [ true ↦ (s, None) | false ↦ sends_first p now s ]))
    go true = only_few 1 mark s h
    go false = first s.squelch_due

tick_few : (p : Settings) (now mark : ℕ) (s : SenderState) → OnlyFor mark s → FewBy 1 mark (ticked p s now).0
tick_few p now mark s h = go s.round
  where
    due : (r : Round) (b : Bool) → FewBy 1 mark (sends_in_time p now (elim b [ true ↦ round_closed p r s | false ↦ s ])).0
    due r true = time_few p now mark (round_closed p r s) h
    due r false = time_few p now mark s h

    go : (round : Option Round) → FewBy 1 mark (sends_in_time p now (elim round [
      | Some r ↦ elim (nat_le r.closes now) [ true ↦ round_closed p r s | false ↦ s ]
      | None ↦ s
    ])).0
    go (Some r) = due r (nat_le r.closes now)
    go None = time_few p now mark s h

-- ---- which watermarks are open

-- what an outcome says, and none says that the watermark is open
abbrev says : Option Outcome → Bool
says None = true
says (Some o) = says_open o

-- it is not open if its number is below this one; and if it has this number, its outcome says whether it is open
abbrev Sound : ℕ → Watermark → Type 0
Sound mark w = (is_open w ≡ true → mark ≤ w.mark) × (w.mark ≡ mark → says w.ended ≡ is_open w)

abbrev AllSound : ℕ → List Watermark → Type 0
AllSound mark ws = AllByRecursion (Sound mark) ws

ended_sound : (mark : ℕ) (test : Watermark → Bool) (outcome : Watermark → Outcome) → ((w : Watermark) → says_open (outcome w) ≡ false) → (ws : List Watermark)
    → AllSound mark ws → AllSound mark (map (λ w. cond (is_open w && test w) (ended_with (outcome w) w) w) ws)
ended_sound mark test outcome closes [] all = tt
ended_sound mark test outcome closes (w ∷ ws) all = (go (is_open w && test w), ended_sound mark test outcome closes ws all.1)
  where
    go : (b : Bool) → Sound mark (cond b (ended_with (outcome w) w) w)
    go true = (λ e. absurd (clash e), λ e. closes w)
    go false = all.0

anew_sound : (mark : ℕ) (s t : SenderState) → AllSound mark t.watermarks → AllSound mark (counted_anew s t).watermarks
anew_sound mark s t h = go (keeps_oldest s t)
  where
    go : (b : Bool) → AllSound mark (elim b as (λ _. SenderState) [ true ↦ t | false ↦ record t { flushes = 0 } ]).watermarks
    go true = h
    go false = h

-- what is found passes, and is of the list
found_passes : (test : Watermark → Bool) (ws : List Watermark) (w : Watermark) → find test ws ≡ Some w → test w ≡ true
found_passes test [] w is = absurd (cc)
found_passes test (x ∷ ws) w is = go (test x) refl is (found_passes test ws w)
  where
    go : (b : Bool) → test x ≡ b → cond b (Some x) (find test ws) ≡ Some w → (find test ws ≡ Some w → test w ≡ true) → test w ≡ true
    go true e same more = ap test (sym (same_some x w same)) ∙ e
    go false e rest more = more rest

found_of : (P : Watermark → Type 0) (test : Watermark → Bool) (ws : List Watermark) (w : Watermark) → AllByRecursion P ws → find test ws ≡ Some w → P w
found_of P test [] w all is = absurd (cc)
found_of P test (x ∷ ws) w all is = go (test x) is (found_of P test ws w all.1)
  where
    go : (b : Bool) → cond b (Some x) (find test ws) ≡ Some w → (find test ws ≡ Some w → P w) → P w
    go true same more = subst P (same_some x w same) all.0
    go false rest more = more rest

-- each number is above
abbrev AllAbove : ℕ → List Watermark → Type 0
AllAbove k ws = AllByRecursion (λ (w : Watermark). k < w.mark) ws

-- each number is above those before
abbrev Rising : List Watermark → Type 0
Rising [] = ⊤
Rising (w ∷ ws) = AllAbove w.mark ws × Rising ws

same_heads : {a b : ℕ} {xs ys : List ℕ} → (a ∷ xs) ≡ (b ∷ ys) → a ≡ b
same_heads e = cc

same_rests : {a b : ℕ} {xs ys : List ℕ} → (a ∷ xs) ≡ (b ∷ ys) → xs ≡ ys
same_rests e = cc

rest_numbered : (k : ℕ) (w : Watermark) (ws : List Watermark) → marks_of (w ∷ ws) ≡ range_with_len (suc k) (length (w ∷ ws))
    → marks_of ws ≡ range_with_len (suc (suc k)) (length ws)
rest_numbered k w ws e = same_rests e ∙ ap (λ (n : ℕ). range_with_len n (length ws)) (let h : suc k + 1 ≡ suc (suc k) = omega arith in h)

above_all : (j k : ℕ) (ws : List Watermark) → j ≤ k → marks_of ws ≡ range_with_len (suc k) (length ws) → AllAbove j ws
above_all j k [] le e = tt
above_all j k (w ∷ ws) le e =
    let head : w.mark ≡ suc k = same_heads e in (omega (arith, head, le), above_all j (suc k) ws (omega (arith, le)) (rest_numbered k w ws e))

rising : (k : ℕ) (ws : List Watermark) → marks_of ws ≡ range_with_len (suc k) (length ws) → Rising ws
rising k [] e = tt
rising k (w ∷ ws) e =
    let head : w.mark ≡ suc k = same_heads e in
    (above_all w.mark (suc k) ws (omega (arith, head)) (rest_numbered k w ws e), rising (suc k) ws (rest_numbered k w ws e))

-- of rising numbers the watermark with the number of the oldest open one is that one
found_oldest : (ws : List Watermark) (w : Watermark) → Rising ws → find is_open ws ≡ Some w → find (λ (x : Watermark). x.mark == w.mark) ws ≡ Some w
found_oldest [] w rise is = absurd (cc)
found_oldest (x ∷ ws) w rise is = go (is_open x) is (found_oldest ws w rise.1)
  where
    Finds : Type 0
    Finds = find (λ (y : Watermark). y.mark == w.mark) ws ≡ Some w

    other : x.mark < w.mark → (b : Bool) → (x.mark == w.mark) ≡ b → b ≡ false
    other lt true e = (let same = (Decides-eqb x.mark w.mark).0 e in absurd (omega (arith, same, lt)))
    other lt false e = refl

    by : (b : Bool) → (x.mark == w.mark) ≡ b → cond b (Some x) (find (λ (y : Watermark). y.mark == w.mark) ws) ≡ Some w
        → cond (x.mark == w.mark) (Some x) (find (λ (y : Watermark). y.mark == w.mark) ws) ≡ Some w
    by b e h = ap (λ (c : Bool). cond c (Some x) (find (λ (y : Watermark). y.mark == w.mark) ws)) e ∙ h

    go : (b : Bool) → cond b (Some x) (find is_open ws) ≡ Some w → (find is_open ws ≡ Some w → Finds)
        → cond (x.mark == w.mark) (Some x) (find (λ (y : Watermark). y.mark == w.mark) ws) ≡ Some w
    go true same more = by true ((Decides-eqb x.mark w.mark).1 (ap (λ (y : Watermark). y.mark) (same_some x w same))) same
    go false rest more =
        by false (other (found_of (λ (y : Watermark). x.mark < y.mark) is_open ws w rise.0 rest) (x.mark == w.mark) refl) (more rest)

-- no number of an open one is below that of the oldest
oldest_first : (mark : ℕ) (ws : List Watermark) (w v : Watermark) → Rising ws → find is_open ws ≡ Some w → find (λ (x : Watermark). x.mark == mark) ws ≡ Some v
    → is_open v ≡ true → w.mark ≤ v.mark
oldest_first mark [] w v rise is named stands = absurd (cc)
oldest_first mark (x ∷ ws) w v rise is named stands = go (is_open x) refl (x.mark == mark) is named (oldest_first mark ws w v rise.1)
  where
    less : find (λ (y : Watermark). y.mark == mark) ws ≡ Some v → x.mark < v.mark
    less at = found_of (λ (y : Watermark). x.mark < y.mark) (λ (y : Watermark). y.mark == mark) ws v rise.0 at

    go : (b : Bool) → is_open x ≡ b → (c : Bool) → cond b (Some x) (find is_open ws) ≡ Some w
        → cond c (Some x) (find (λ (y : Watermark). y.mark == mark) ws) ≡ Some v
        → (find is_open ws ≡ Some w → find (λ (y : Watermark). y.mark == mark) ws ≡ Some v → is_open v ≡ true → w.mark ≤ v.mark) → w.mark ≤ v.mark
    go true e true same own more =
        let one = ap (λ (y : Watermark). y.mark) (same_some x w same) in let two = ap (λ (y : Watermark). y.mark) (same_some x v own) in omega (arith, one, two)
    go true e false same at more = let one = ap (λ (y : Watermark). y.mark) (same_some x w same) in let lt = less at in omega (arith, one, lt)
    go false e true rest own more = absurd (clash (sym e ∙ ap is_open (same_some x v own) ∙ stands))
    go false e false rest at more = more rest at stands

says_is : (w : Watermark) → is_open w ≡ true → says w.ended ≡ true
says_is w e = go w.ended e
  where
    go : (o : Option Outcome) → is_open (record w { ended = o }) ≡ true → says o ≡ true
    go None e = refl
    go (Some o) e = absurd (clash e)

-- as a tail of the oldest one begins
sound_first : (ws : List Watermark) (w : Watermark) → Rising ws → find is_open ws ≡ Some w → AllSound w.mark ws
sound_first [] w rise is = tt
sound_first (x ∷ ws) w rise is = go (is_open x) refl is (sound_first ws w rise.1)
  where
    behind : (vs : List Watermark) → w.mark ≡ x.mark → AllAbove x.mark vs → AllSound w.mark vs
    behind [] same above = tt
    behind (v ∷ vs) same above =
        let lt = above.0 in
        ((λ e. omega (arith, same, lt), λ e. absurd (omega (arith, same, lt, e))), behind vs same above.1)

    go : (b : Bool) → is_open x ≡ b → cond b (Some x) (find is_open ws) ≡ Some w → (find is_open ws ≡ Some w → AllSound w.mark ws)
        → Sound w.mark x × AllSound w.mark ws
    go true e same more =
        let own = ap (λ (y : Watermark). y.mark) (same_some x w same) in
        ((λ f. omega (arith, own), λ f. says_is x e ∙ sym e), behind ws (sym own) rise.0)
    go false e rest more =
        let lt = found_of (λ (y : Watermark). x.mark < y.mark) is_open ws w rise.0 rest in
        ((λ f. absurd (clash (sym e ∙ f)), λ f. absurd (omega (arith, lt, f))), more rest)

-- ---- what a sender hears and tells

-- both hold of a state
abbrev Holds : ℕ → SenderState → Type 0
Holds mark s = AllSound mark s.watermarks × FewBy 1 mark s

joined_holds : (p : Settings) (now mark : ℕ) (s : SenderState) (requests : List Request) → Holds mark s → Holds mark (joined_round p s now requests)
joined_holds p now mark s [] h = h
joined_holds p now mark s (r ∷ requests) h = h

credited_holds : (p : Settings) (mark node : ℕ) (at : Position) (s : SenderState) → Holds mark s → Holds mark (credited_at p node at s)
credited_holds p mark node at s h = go (is_source (current_shapes p s) at) (rises node at s)
  where
    risen : SenderState
    risen = record s { listings = map (listed_past node at) s.listings; untold_nodes = with_member nat_lt node s.untold_nodes }

    go : (b c : Bool) → Holds mark (elim b [ true ↦ elim c [ true ↦ counted_anew s (settled risen) | false ↦ s ] | false ↦ s ])
    go true true = (
      anew_sound mark s (settled risen) (ended_sound mark (is_met risen) (λ w. Satisfied) (λ w. refl) s.watermarks h.0),
      anew_few 1 mark s (settled risen) refl h.1,
    )
    go true false = h
    go false c = h

heard_holds : {E : Type 0} (p : Settings) (mark : ℕ) (s : SenderState) (now : ℕ) (read : Result Message E) → Holds mark s → Holds mark (message_heard p s now read)
heard_holds p mark s now (Ok (Nack m)) h = go (nack_counts p s m)
  where
    go : (b : Bool) → Holds mark (elim b [ true ↦ joined_round p s now m.requests | false ↦ s ])
    go true = joined_holds p now mark s m.requests h
    go false = h
heard_holds p mark s now (Ok (Ack m)) h = go (ack_counts p s m) m.content
  where
    by : (at : Option Position) → Holds mark (credited_by p m.source at s)
    by None = h
    by (Some at) = credited_holds p mark m.source at s h

    go : (b : Bool) (content : AckContent) → Holds mark (elim b [
      | true ↦ elim content [ Mark item ↦ credited_by p m.source (item_named p (last_index s) item) s | Unread octets ↦ s ]
      | false ↦ s
    ])
    go true (Mark item) = by (item_named p (last_index s) item)
    go true (Unread octets) = h
    go false content = h
heard_holds p mark s now _ h = h

told_holds : (mark : ℕ) (s : SenderState) → Holds mark s → Holds mark (told s).0
told_holds mark s h = go s.untold_nodes s.untold_marks
  where
    by : List ℕ → List ℕ → SenderState × Option News
    by nodes marks = elim nodes [
      | node ∷ others ↦ (record s { untold_nodes = others }, past_news node (listing_of s node))
      | [] ↦ elim marks [
        | mark ∷ others ↦ (record s { untold_marks = others }, done_news s mark (watermark_of s mark))
        | [] ↦ (s, None)
      ]
    ]

    go : (nodes marks : List ℕ) → Holds mark (by nodes marks).0
    go (node ∷ nodes) marks = h
    go [] (other ∷ marks) = h
    go [] [] = h

noted_sound : (mark : ℕ) (w : Want) (s : SenderState) → AllSound mark s.watermarks → AllSound mark (noted w s).watermarks
noted_sound mark (Info index) s h = h
noted_sound mark (Symbol at) s h = h

tick_sound : (p : Settings) (mark : ℕ) (s : SenderState) (now : ℕ) → AllSound mark s.watermarks → AllSound mark (ticked p s now).0.watermarks
tick_sound p mark s now h = tick_keeps p (λ (t : SenderState). AllSound mark t.watermarks) (record {
  closes = λ t r h. h;
  squelched = λ t h. h;
  repaired = λ t w wants e h. h;
  goes_on = λ t w e h. h;
  notes = λ t w h. noted_sound mark w t h;
  flushes = λ t now h. h;
  expires = λ t w e h. anew_sound mark t (end_where (λ v. v.mark == w.mark) (λ v. Expired (length (pending t v.at))) t)
      (ended_sound mark (λ v. v.mark == w.mark) (λ v. Expired (length (pending t v.at))) (λ v. refl) t.watermarks h);
  spends = λ t moment h. h;
}) s now h

-- ---- the watermark of a tail

abbrev says_found : Option Watermark → Bool
says_found None = false
says_found (Some v) = says v.ended

open_by : (s : SenderState) (found : Option Watermark) → option_map_or says_open (option_map (outcome_of s) found) false ≡ says_found found
open_by s None = refl
open_by s (Some v) = go v.ended
  where
    go : (o : Option Outcome) → says_open (elim o as (λ _. Outcome) [ Some outcome ↦ outcome | None ↦ Open (length (pending s v.at)) ]) ≡ says o
    go None = refl
    go (Some o) = refl

-- if it is open, it is the oldest one
only_for : (w : World) (mark : ℕ) → Rising w.sender.watermarks → AllSound mark w.sender.watermarks → is_open_mark w mark ≡ true → OnlyFor mark w.sender
only_for w mark rise sound opens v is = go (watermark_of w.sender mark) refl (sym (open_by w.sender (watermark_of w.sender mark)) ∙ opens)
  where
    above : mark ≤ v.mark
    above = (found_of (Sound mark) is_open w.sender.watermarks v sound is).0 (found_passes is_open w.sender.watermarks v is)

    go : (found : Option Watermark) → watermark_of w.sender mark ≡ found → says_found found ≡ true → v.mark ≡ mark
    go None e still = absurd (clash still)
    go (Some u) e still =
        let own : u.mark ≡ mark = (Decides-eqb u.mark mark).0 (found_passes (λ (x : Watermark). x.mark == mark) w.sender.watermarks u e) in
        let sure = (found_of (Sound mark) (λ (x : Watermark). x.mark == mark) w.sender.watermarks u sound e).1 own in
        let le = oldest_first mark w.sender.watermarks v u rise is e (sym sure ∙ still) in
        let ge = above in
        omega (arith, ge, le, own)

-- if it is not, the oldest one is another
other_left : (w : World) (mark : ℕ) → Rising w.sender.watermarks → is_open_mark w mark ≡ false → (v : Watermark) → oldest w.sender ≡ Some v → v.mark ≡ mark → ⊥
other_left w mark rise closed v is same =
    let found = subst (λ (n : ℕ). watermark_of w.sender n ≡ Some v) same (found_oldest w.sender.watermarks v rise is) in
    clash (sym closed ∙ open_by w.sender (watermark_of w.sender mark) ∙ ap says_found found ∙ says_is v (found_passes is_open w.sender.watermarks v is))

-- ---- since a tail began

-- What is so of the sender in each moment of a tail, since a state and for a watermark.
record Since (p : Settings) (s : SenderState) (mark : ℕ) (t : SenderState) : Type 0 where
  current : t.current ≡ s.current
  book : BookHolds t
  holds : Holds mark t

begins : (p : Settings) (s : SenderState) (mark : ℕ) → BookHolds s → IsOldest s mark → Since p s mark s
begins p s mark book is = go (oldest s) refl is
  where
    same_number : (a b : ℕ) → Some a ≡ Some b → a ≡ b
    same_number a b e = cc

    go : (found : Option Watermark) → oldest s ≡ found → option_map (λ (w : Watermark). w.mark) found ≡ Some mark → Since p s mark s
    go None e number = absurd (no_number mark number)
    go (Some u) e number =
        let own = same_number u.mark mark number in
        record {
          current = refl;
          book = book;
          holds = (
            subst (λ (n : ℕ). AllSound n s.watermarks) own (sound_first s.watermarks u (rising 0 s.watermarks book.numbered) e),
            λ w f. inl (ap (λ (x : Watermark). x.mark) (same_some w u (sym f ∙ e)) ∙ own),
          );
        }

heard_since : (p : Settings) (s : SenderState) (mark : ℕ) (t : SenderState) (bytes : List ℕ) (now : ℕ) → Since p s mark t → Since p s mark (heard p t bytes now)
heard_since p s mark t bytes now h = record {
  current = (heard_keeps p t bytes now).current ∙ h.current;
  book = steps_book p t (sender.Delivered bytes now) h.book;
  holds = heard_holds p mark t now (decoded bytes) h.holds;
}

told_since : (p : Settings) (s : SenderState) (mark : ℕ) (t : SenderState) → Since p s mark t → Since p s mark (told t).0
told_since p s mark t h = record {
  current = (told_keeps t).current ∙ h.current;
  book = steps_book p t sender.NewsAsked h.book;
  holds = told_holds mark t h.holds;
}

tick_since : (p : Settings) (s : SenderState) (mark : ℕ) (t : SenderState) (now : ℕ) → OnlyFor mark t → Since p s mark t → Since p s mark (ticked p t now).0
tick_since p s mark t now only h = record {
  current = (ticked_keeps p t now).current ∙ h.current;
  book = steps_book p t (sender.Ticked now) h.book;
  holds = (tick_sound p mark t now h.holds.0, tick_few p now mark t only);
}

-- ---- events

-- no command, and no tick of the sender
abbrev pub Quiet : Settings → Event → Type 0
Quiet p (Commanded by job now) = ⊥
Quiet p (Ticked node now) = (node == p.sender) ≡ false
Quiet p _ = ⊤

-- what comes to the sender, or leaves it
abbrev pub if_own : Bool → SenderState → SenderState → SenderState
if_own own after before = elim own [ true ↦ after | false ↦ before ]

quiet_since : (p : Settings) (s : SenderState) (mark : ℕ) (w : World) (e : Event) → Quiet p e → Since p s mark w.sender → Since p s mark (world_step p w e).0.sender
quiet_since p s mark w e quiet h = subst (Since p s mark) (sym (sender_is p w e)) (after e quiet)
  where
    either : (b : Bool) (t : SenderState) → Since p s mark t → Since p s mark (elim b [ true ↦ t | false ↦ w.sender ])
    either true t k = k
    either false t k = h

    after : (e : Event) → Quiet p e → Since p s mark (sender_after p w.sender e)
    after (Commanded by job now) quiet = absurd quiet
    after (Delivered node datagram now draw) quiet = either (node == p.sender) (heard p w.sender datagram now) (heard_since p s mark w.sender datagram now h)
    after (Ticked node now) quiet = subst (Since p s mark) (sym (ap (λ (b : Bool). if_own b (ticked p w.sender now).0 w.sender) quiet)) h
    after (Offered node octets) quiet = h
    after (UpTaken node) quiet = h
    after NewsAsked quiet = told_since p s mark w.sender h

own_tick_since : (p : Settings) (s : SenderState) (mark : ℕ) (w : World) (now : ℕ) → OnlyFor mark w.sender → Since p s mark w.sender
    → Since p s mark (world_step p w (Ticked p.sender now)).0.sender
own_tick_since p s mark w now only h =
    let own : (p.sender == p.sender) ≡ true = (Decides-eqb p.sender p.sender).1 refl in
    subst (Since p s mark) (sym (sender_is p w (Ticked p.sender now) ∙ ap (λ (b : Bool). if_own b (ticked p w.sender now).0 w.sender) own))
    (tick_since p s mark w.sender now only h)

-- no receiver is the sender
one_more : (P : ℕ → Type 0) (xs : List ℕ) (x : ℕ) → AllByRecursion P xs → P x → AllByRecursion P (xs ++ x ∷ [])
one_more P [] x all h = (h, tt)
one_more P (y ∷ xs) x all h = (all.0, one_more P xs x all.1 h)

pub not_sender : (p : Settings) (n : ℕ) → AllByRecursion (λ (node : ℕ). (node == p.sender) ≡ false) (receivers_of p n)
not_sender p zero = tt
not_sender p (suc n) =
    one_more (λ (node : ℕ). (node == p.sender) ≡ false) (receivers_of p n) (p.sender + 1 + n) (not_sender p n) (go ((p.sender + 1 + n) == p.sender) refl)
  where
    go : (b : Bool) → ((p.sender + 1 + n) == p.sender) ≡ b → b ≡ false
    go true e = (let same = (Decides-eqb (p.sender + 1 + n) p.sender).0 e in absurd (omega (arith, same)))
    go false e = refl

-- ---- a tail

abbrev Kept : Settings → SenderState → ℕ → Course → Type 0
Kept p s mark c = Since p s mark c.world.sender

-- Each part of a tail keeps it. The sender ticks only while the watermark is open.
module _ (p : Settings) (draws : ℕ → ℕ) (s : SenderState) (mark : ℕ) where
  comes_keep : (e : Event) → Quiet p e → (c : Course) → Kept p s mark c → Kept p s mark (comes p e c)
  comes_keep e quiet c h = quiet_since p s mark c.world e quiet h

  times_keep : (n : ℕ) (e : Event) → Quiet p e → (c : Course) → Kept p s mark c → Kept p s mark (iterate (comes p e) n c)
  times_keep zero e quiet c h = h
  times_keep (suc n) e quiet c h = times_keep n e quiet (comes p e c) (comes_keep e quiet c h)

  tells_keep : (c : Course) → Kept p s mark c → Kept p s mark (tells p c)
  tells_keep c h = times_keep (untold c.world.sender) NewsAsked tt c h

  copy_keeps : (now : ℕ) (octets : List ℕ) (c : Course) (node : ℕ) → Kept p s mark c → Kept p s mark (copy_comes p draws now octets c node)
  copy_keeps now octets c node h = go (node == p.sender)
    where
      go : (b : Bool) → Kept p s mark (elim b as (λ _. Course) [
        | true ↦ tells p (comes p (Delivered node octets now 0) c)
        | false ↦ comes p (Delivered node octets now (draws c.used)) (record c { used = c.used + 1 })
      ])
      go true = tells_keep (comes p (Delivered node octets now 0) c) (comes_keep (Delivered node octets now 0) tt c h)
      go false = comes_keep (Delivered node octets now (draws c.used)) tt (record c { used = c.used + 1 }) h

  copies_keep : (now : ℕ) (octets : List ℕ) (nodes : List ℕ) (c : Course) → Kept p s mark c → Kept p s mark (fold (copy_comes p draws now octets) c nodes)
  copies_keep now octets [] c h = h
  copies_keep now octets (node ∷ nodes) c h = copies_keep now octets nodes (copy_comes p draws now octets c node) (copy_keeps now octets c node h)

  passes_keep : (now : ℕ) (c : Course) (node : ℕ) → Kept p s mark c → Kept p s mark (passes_on p draws now c node)
  passes_keep now c node h = go (given_by c.world node)
    where
      go : (given : Option Written) → Kept p s mark (elim given as (λ _. Course) [
        | Some d ↦ fold (copy_comes p draws now d.octets) (comes p (Offered node d.octets) c) (others_than p node)
        | None ↦ c
      ])
      go None = h
      go (Some d) = copies_keep now d.octets (others_than p node) (comes p (Offered node d.octets) c) (comes_keep (Offered node d.octets) tt c h)

  serves_keep : (now : ℕ) (c : Course) (node : ℕ) → (node == p.sender) ≡ false → Kept p s mark c → Kept p s mark (serves p draws now c node)
  serves_keep now c node other h =
      passes_keep now (receiver_ticks p now c node) node
      (comes_keep (Ticked node now) other (takes p node c) (times_keep (untaken c.world node) (UpTaken node) tt c h))

  all_served : (now : ℕ) (nodes : List ℕ) → AllByRecursion (λ (node : ℕ). (node == p.sender) ≡ false) nodes → (c : Course) → Kept p s mark c
      → Kept p s mark (fold (serves p draws now) c nodes)
  all_served now [] others c h = h
  all_served now (node ∷ nodes) others c h = all_served now nodes others.1 (serves p draws now c node) (serves_keep now c node others.0 h)

  round_keeps : (now : ℕ) (c : Course) → Kept p s mark c → Kept p s mark (goes_round p draws now c)
  round_keeps now c h = all_served now (receivers_of p p.receivers) (not_sender p p.receivers) (passes_on p draws now c p.sender) (passes_keep now c p.sender h)

  own_ticks_keep : (now : ℕ) (c : Course) → OnlyFor mark c.world.sender → Kept p s mark c → Kept p s mark (sender_ticks p now c)
  own_ticks_keep now c only h = tells_keep (comes p (Ticked p.sender now) c) (own_tick_since p s mark c.world now only h)

  cut_keeps : (now : ℕ) (c : Course) → OnlyFor mark c.world.sender → Kept p s mark c → Kept p s mark (cut_turn p draws mark now c)
  cut_keeps now c only h = go (is_open_mark (sender_ticks p now c).world mark)
    where
      go : (b : Bool) → Kept p s mark (elim b as (λ _. Course) [ true ↦ goes_round p draws now (sender_ticks p now c) | false ↦ sender_ticks p now c ])
      go true = round_keeps now (sender_ticks p now c) (own_ticks_keep now c only h)
      go false = own_ticks_keep now c only h

  until_keeps : (n : ℕ) (t : Tail) → Kept p s mark t.course → Kept p s mark (tail_until n p draws mark t).course
  unfolding tail_until
  until_keeps zero t h = h
  until_keeps (suc n) t h = go (is_open_mark t.course.world mark) refl (until_keeps n (turn_more p draws mark t))
    where
      go : (b : Bool) → is_open_mark t.course.world mark ≡ b
          → (Kept p s mark (turn_more p draws mark t).course → Kept p s mark (tail_until n p draws mark (turn_more p draws mark t)).course)
          → Kept p s mark (elim b as (λ _. Tail) [ true ↦ tail_until n p draws mark (turn_more p draws mark t) | false ↦ t ]).course
      go true e more =
          let only = only_for t.course.world mark (rising 0 t.course.world.sender.watermarks h.book.numbered) h.holds.0 e in
          more (cut_keeps (t.last + p.step) t.course only h)
      go false e more = h

tail_since : (p : Settings) (w : World) (t : Begun) → BookHolds w.sender → IsOldest w.sender t.mark → Since p w.sender t.mark (after_tail p w t).sender
tail_since p w t book is =
    until_keeps p t.draws w.sender t.mark (tail_bound p w.sender) (record { turns = 0; last = t.last; course = course_from w })
    (begins p w.sender t.mark book is)

-- ---- what refuses no first tail refuses no later one

few_left : (p : Settings) (s : SenderState) (mark next : ℕ) (w : World) → Since p s mark w.sender → is_open_mark w mark ≡ false → IsOldest w.sender next
    → w.sender.flushes ≤ 1
few_left p s mark next w h closed is = go (oldest w.sender) refl is
  where
    by : (v : Watermark) → oldest w.sender ≡ Some v → (v.mark ≡ mark) ⊎ (w.sender.flushes ≤ 1) → w.sender.flushes ≤ 1
    by v e (inl own) = absurd (other_left w mark (rising 0 w.sender.watermarks h.book.numbered) closed v e own)
    by v e (inr le) = le

    go : (found : Option Watermark) → oldest w.sender ≡ found → option_map (λ (x : Watermark). x.mark) found ≡ Some next → w.sender.flushes ≤ 1
    go None e number = absurd (no_number next number)
    go (Some v) e number = by v e (h.holds.1 v e)

half : (c k : ℕ) → c + 2 * k ≤ 15 → k ≤ 7
half c k le = omega (arith, le)

one_more_flush : (c k : ℕ) → c ≤ 1 → k ≤ 7 → c + 2 * k ≤ 15
one_more_flush c k few le = omega (arith, few, le)

stays_accepted : (p : Settings) (s t : SenderState) (next : ℕ) → tail_fault p s ≡ None → t.current ≡ s.current → t.flushes ≤ 1 → IsOldest t next
    → tail_fault p t ≡ None
stays_accepted p s t next none same few is =
    let may = (tail_laws.accepted p s).0 none in
    (tail_laws.accepted p t).1 (record {
      mark = next;
      oldest = is;
      holds = may.holds;
      streams = ap (λ (i : Instance). length (filter is_stream (drop i.drop.index i.order))) same ∙ may.streams;
      paced = record {
        goes_on = may.paced.goes_on;
        often = may.paced.often;
        twice = subst (λ (i : Instance). 2 * (length (filter (stands_behind i.drop) (encoded_from 0 (shapes_of p i.order))) + 1) * (p.gap + p.step) ≤ p.grtt)
            (sym same) may.paced.twice;
        flushes = one_more_flush t.flushes p.k few (half s.flushes p.k may.paced.flushes);
      };
    })

has_oldest : (p : Settings) (w : World) (ts : List Begun) → EachEnds p w ts → (next : ℕ) → IsOldest (after_tails p w ts).sender next
    → (mark : ℕ) × IsOldest w.sender mark
has_oldest p w [] each next is = (next, is)
has_oldest p w (t ∷ ts) each next is = (t.mark, each.0.oldest)

all_accepted : (p : Settings) (w : World) → BookHolds w.sender → tail_fault p w.sender ≡ None → (ts : List Begun) → EachEnds p w ts → (next : ℕ)
    → IsOldest (after_tails p w ts).sender next → tail_fault p (after_tails p w ts).sender ≡ None
all_accepted p w book none [] each next is = none
all_accepted p w book none (t ∷ ts) each next is =
    let v : World = after_tail p w t in
    let h = tail_since p w t book each.0.oldest in
    let left = has_oldest p v ts each.1 next is in
    let few = few_left p w.sender t.mark left.0 v h each.0.ended left.1 in
    all_accepted p v h.book (stays_accepted p w.sender v.sender left.0 none h.current few left.1) ts each.1 next is

-- ---- in a run

event_book : (p : Settings) (w : World) (e : Event) → BookHolds w.sender → BookHolds (world_step p w e).0.sender
event_book p w e h = subst BookHolds (sym (sender_is p w e)) (after e)
  where
    either : (b : Bool) (t : SenderState) → BookHolds t → BookHolds (elim b [ true ↦ t | false ↦ w.sender ])
    either true t k = k
    either false t k = h

    after : (e : Event) → BookHolds (sender_after p w.sender e)
    after (Commanded by job now) = steps_book p w.sender (sender.Commanded by job now) h
    after (Delivered node datagram now draw) = either (node == p.sender) (heard p w.sender datagram now) (steps_book p w.sender (sender.Delivered datagram now) h)
    after (Ticked node now) = either (node == p.sender) (ticked p w.sender now).0 (steps_book p w.sender (sender.Ticked now) h)
    after (Offered node octets) = h
    after (UpTaken node) = h
    after NewsAsked = steps_book p w.sender sender.NewsAsked h

run_book : (p : Settings) (w : World) (events : List Event) → BookHolds w.sender → BookHolds (run_from p w events).sender
run_book p w [] h = h
run_book p w (e ∷ events) h = run_book p (world_step p w e).0 events (event_book p w e h)

pub later_tails : LaterTailsAccepted
later_tails p range events ts next none each is =
    all_accepted p (run p events) (run_book p (world_opening p) events (reached_laws.at_first p p.instance range).book) none ts each next is
