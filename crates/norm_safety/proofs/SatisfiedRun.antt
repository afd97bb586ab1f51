-- The fourth part of safety, along every run: a watermark is satisfied exactly where enough members were listed past it while it
-- had not ended, and its outcome stays.
use Rattle.std.proofs.Common.{◌≡◌, ℕ, zero, suc, ◌+◌, ◌<◌, ◌≤◌, cond, List, [], ◌∷◌, ◌++◌, length, Bool, true, false, Option, None, Some, refl, sym, ap, ◌∙◌, subst, append_assoc, append-nil, arith}
use Rattle.std.specs.Prelude.{find, ◌==◌, ◌&&◌, ◌||◌, IsTrue}
use Rattle.std.specs.List.{AllByRecursion, list_any, list_all, range_with_len}
use Rattle.std.proofs.lemmas.Bool.Decides.{Decides-eqb}
use Rattle.norm_base.specs.Settings.{Settings}
use Rattle.norm_send_rules.specs.SenderState.{SenderState, Watermark}
use Rattle.norm_send_rules.specs.SenderStep.{SenderEvent, sender_step}
use Rattle.norm_send_rules.specs.SenderStep as sender
use Rattle.norm_send_rules.specs.Watermarks.{is_open, is_met, watermark_of}
use Rattle.norm_send_rules.specs.Reached.{marks_of, BookHolds}
use Rattle.norm_send_rules.specs.declared.news.Outcome.{Outcome}
use Rattle.norm_send_rules.specs.declared.news.Outcome.TheVariants as outcome
use Rattle.norm_send_rules.proofs.ReachedLemmas.{steps_book, reached_laws}
use Rattle.norm_receive_rules.specs.ReceiverState.{ReceiverState}
use Rattle.norm_receive_rules.specs.ReceiverStep as receiver
use Rattle.norm_ext.specs.Written.{Written}
use Rattle.norm_safety.specs.Events.{Event, Commanded, Delivered, Ticked, Offered, UpTaken, NewsAsked}
use Rattle.norm_safety.specs.History.{Happening, happens, last_world}
use Rattle.norm_safety.specs.SatisfiedExactly.{had_not_ended, stood_past, was_past, is_satisfied, same_outcome, keeps_outcome, keeps_outcomes}
use Rattle.norm_safety.specs.Laws.{SatisfiedRun}
use Rattle.norm_send_rules.specs.Ticking.{ticked as sender_ticked}
use Rattle.norm_receive_rules.specs.Ticking.{ticked as receiver_ticked}
use Rattle.norm_safety.specs.World.{World, world_opening, receiver_at, with_receiver, with_given, offers, is_of}
use Rattle.norm_safety.specs.WorldStep.{receiver_move, node_move, moved, world_step}
use Rattle.norm_safety.proofs.MetLemmas.{Became, Made, Went, Steps, NoneMet, met_by, none_after, sender_steps, same_steps, open_unsatisfied}

clash : false ≡ true → ⊥
clash e = cc

-- ---- a watermark is found by its number

-- each number is above
abbrev AllAbove : ℕ → List Watermark → Type 0
AllAbove k ws = AllByRecursion (λ (w : Watermark). k < w.mark) ws

heads : {a b : ℕ} {xs ys : List ℕ} → (a ∷ xs) ≡ (b ∷ ys) → a ≡ b
heads e = cc

tails : {a b : ℕ} {xs ys : List ℕ} → (a ∷ xs) ≡ (b ∷ ys) → xs ≡ ys
tails e = cc

-- the numbers go on behind the first
rest_numbered : (k : ℕ) (w : Watermark) (ws : List Watermark) → marks_of (w ∷ ws) ≡ range_with_len (suc k) (length (w ∷ ws))
    → marks_of ws ≡ range_with_len (suc (suc k)) (length ws)
rest_numbered k w ws e = tails e ∙ ap (λ (n : ℕ). range_with_len n (length ws)) (let h : suc k + 1 ≡ suc (suc k) = omega arith in h)

numbered_above : (k : ℕ) (ws : List Watermark) → marks_of ws ≡ range_with_len (suc k) (length ws) → AllAbove k ws
numbered_above k [] e = tt
numbered_above k (w ∷ ws) e =
    let head : w.mark ≡ suc k = heads e in (omega (arith, head), further ws (numbered_above (suc k) ws (rest_numbered k w ws e)))
  where
    further : (vs : List Watermark) → AllAbove (suc k) vs → AllAbove k vs
    further [] all = tt
    further (v ∷ vs) all = (omega (arith, all.0), further vs all.1)

-- the watermark of a list with a number
abbrev in_list : List Watermark → ℕ → Option Watermark
in_list ws mark = find (λ (x : Watermark). x.mark == mark) ws

differs : (a b : ℕ) → a < b → (a == b) ≡ false
differs a b lt = go (a == b) refl
  where
    go : (t : Bool) → (a == b) ≡ t → (a == b) ≡ false
    go true is = (let same = (Decides-eqb a b).0 is in absurd (omega (arith, same, lt)))
    go false is = is

-- each is found
abbrev AllFound : List Watermark → List Watermark → Type 0
AllFound all ws = AllByRecursion (λ (w : Watermark). in_list all w.mark ≡ Some w) ws

found_all : (k : ℕ) (ws : List Watermark) → marks_of ws ≡ range_with_len (suc k) (length ws) → AllFound ws ws
found_all k [] e = tt
found_all k (w ∷ ws) e =
    let head : w.mark ≡ suc k = heads e in
    let more = rest_numbered k w ws e in (
      ap (λ (b : Bool). cond b (Some w) (in_list ws w.mark)) ((Decides-eqb w.mark w.mark).1 refl),
      behind ws (numbered_above (suc k) ws more) (found_all (suc k) ws more) head,
    )
  where
    behind : (vs : List Watermark) → AllAbove (suc k) vs → AllFound ws vs → w.mark ≡ suc k → AllFound (w ∷ ws) vs
    behind [] above found head = tt
    behind (v ∷ vs) above found head = (
      ap (λ (b : Bool). cond b (Some w) (in_list ws v.mark)) (differs w.mark v.mark (omega (arith, head, above.0))) ∙ found.0,
      behind vs above.1 found.1 head,
    )

none_found : (k : ℕ) (ws : List Watermark) (mark : ℕ) → marks_of ws ≡ range_with_len (suc k) (length ws) → k + length ws < mark → in_list ws mark ≡ None
none_found k [] mark e lt = refl
none_found k (w ∷ ws) mark e lt =
    let head : w.mark ≡ suc k = heads e in
    ap (λ (b : Bool). cond b (Some w) (in_list ws mark)) (differs w.mark mark (omega (arith, head, lt)))
    ∙ none_found (suc k) ws mark (rest_numbered k w ws e) (omega (arith, lt))

-- ---- one step

or_none : (b : Bool) → (b || false) ≡ b
or_none true = refl
or_none false = refl

-- whether a watermark was met by now
abbrev NowExact : SenderState → SenderState → (ℕ → Bool) → Watermark → Type 0
NowExact s t was w = is_satisfied w ≡ (was w.mark || (had_not_ended s w.mark && stood_past t w.mark))

exact_pair : (s t : SenderState) (was : ℕ → Bool) (v w : Watermark) → Became (met_by t.listings) v w → watermark_of s v.mark ≡ Some v → watermark_of t w.mark ≡ Some w
    → is_satisfied v ≡ was v.mark → NowExact s t was w
exact_pair s t was v w became in_old in_new exact = go (is_open v) refl
  where
    ended_of : Option Watermark → Bool
    ended_of found = elim found [ Some x ↦ is_open x | None ↦ true ]

    met_of : Option Watermark → Bool
    met_of found = elim found [ Some x ↦ is_met t x | None ↦ false ]

    opened : had_not_ended s w.mark ≡ is_open v
    opened = ap (λ (m : ℕ). had_not_ended s m) became.mark ∙ ap ended_of in_old

    met : stood_past t w.mark ≡ is_met t w
    met = ap met_of in_new

    before : was w.mark ≡ is_satisfied v
    before = ap was became.mark ∙ sym exact

    satisfied_by : Option Outcome → Bool
    satisfied_by ended = is_satisfied (record v { ended = ended })

    go : (b : Bool) → is_open v ≡ b → NowExact s t was w
    go true is =
        let told : (was w.mark || (had_not_ended s w.mark && stood_past t w.mark)) ≡ stood_past t w.mark =
        ap (λ (a : Bool). a || (had_not_ended s w.mark && stood_past t w.mark)) (before ∙ open_unsatisfied v is)
        ∙ ap (λ (a : Bool). a && stood_past t w.mark) (opened ∙ is) in
        became.settles is ∙ sym met ∙ sym told
    go false is =
        ap satisfied_by (became.ended is) ∙ sym before ∙ sym (or_none (was w.mark))
        ∙ sym (ap (λ (a : Bool). was w.mark || (a && stood_past t w.mark)) (opened ∙ is))

exact_made : (s t : SenderState) (was : ℕ → Bool) (w : Watermark) → Made (met_by t.listings) w → watermark_of s w.mark ≡ None → watermark_of t w.mark ≡ Some w
    → was w.mark ≡ false → NowExact s t was w
exact_made s t was w made in_old in_new not_yet =
    let told : (was w.mark || (had_not_ended s w.mark && stood_past t w.mark)) ≡ is_met t w =
    ap (λ (a : Bool). a || (had_not_ended s w.mark && stood_past t w.mark)) not_yet
    ∙ ap (λ (a : Bool). a && stood_past t w.mark) (ap ended_of in_old)
    ∙ ap met_of in_new in
    made.settles ∙ sym told
  where
    ended_of : Option Watermark → Bool
    ended_of found = elim found [ Some x ↦ is_open x | None ↦ true ]

    met_of : Option Watermark → Bool
    met_of found = elim found [ Some x ↦ is_met t x | None ↦ false ]

-- of all of them
exact_all : (s t : SenderState) (was : ℕ → Bool) → marks_of s.watermarks ≡ range_with_len 1 (length s.watermarks)
    → ((mark : ℕ) → length s.watermarks < mark → was mark ≡ false)
    → (k : ℕ) (vs ws : List Watermark) → k + length vs ≡ length s.watermarks → marks_of ws ≡ range_with_len (suc k) (length ws)
    → Went (met_by t.listings) vs ws → AllFound s.watermarks vs → AllFound t.watermarks ws
    → AllByRecursion (λ (v : Watermark). is_satisfied v ≡ was v.mark) vs → AllByRecursion (NowExact s t was) ws
exact_all s t was numbered later k [] [] many marks went old new exact = tt
exact_all s t was numbered later k [] (w ∷ ws) many marks went old new exact =
    let above : k < w.mark = (numbered_above k (w ∷ ws) marks).0 in
    let behind : length s.watermarks < w.mark = omega (arith, many, above) in (
      exact_made s t was w went.0 (none_found 0 s.watermarks w.mark numbered (omega (arith, behind))) new.0 (later w.mark behind),
      made_all (suc k) ws (omega (arith, many)) (rest_numbered k w ws marks) went.1 new.1,
    )
  where
    made_all : (j : ℕ) (xs : List Watermark) → length s.watermarks ≤ j → marks_of xs ≡ range_with_len (suc j) (length xs)
        → AllByRecursion (Made (met_by t.listings)) xs → AllFound t.watermarks xs → AllByRecursion (NowExact s t was) xs
    made_all j [] le marks made new = tt
    made_all j (x ∷ xs) le marks made new =
        let above : j < x.mark = (numbered_above j (x ∷ xs) marks).0 in
        let behind : length s.watermarks < x.mark = omega (arith, le, above) in (
          exact_made s t was x made.0 (none_found 0 s.watermarks x.mark numbered (omega (arith, behind))) new.0 (later x.mark behind),
          made_all (suc j) xs (omega (arith, le)) (rest_numbered j x xs marks) made.1 new.1,
        )
exact_all s t was numbered later k (v ∷ vs) [] many marks went old new exact = absurd went
exact_all s t was numbered later k (v ∷ vs) (w ∷ ws) many marks went old new exact = (
  exact_pair s t was v w went.0 old.0 new.0 exact.0,
  exact_all s t was numbered later (suc k) vs ws (omega (arith, many)) (rest_numbered k w ws marks) went.1 old.1 new.1 exact.1,
)

-- an outcome is itself
pub outcome_itself : (o : Outcome) → same_outcome o o ≡ true
outcome_itself (outcome.Open left) = (Decides-eqb left left).1 refl
outcome_itself outcome.Satisfied = refl
outcome_itself (outcome.Expired left) = (Decides-eqb left left).1 refl
outcome_itself outcome.Cut = refl

stays_pair : (t : SenderState) (test : Watermark → Bool) (v w : Watermark) → Became test v w → watermark_of t w.mark ≡ Some w → keeps_outcome t v ≡ true
stays_pair t test v w became in_new = go v.ended refl
  where
    is_none_of : Option Outcome → Bool
    is_none_of ended = is_open (record v { ended = ended })

    after : Option Watermark → Outcome → Bool
    after found o = elim found [ Some x ↦ elim x.ended [ Some q ↦ same_outcome o q | None ↦ false ] | None ↦ false ]

    ended_as : Option Outcome → Outcome → Bool
    ended_as ended o = elim ended [ Some q ↦ same_outcome o q | None ↦ false ]

    go : (ended : Option Outcome) → v.ended ≡ ended → elim ended [ Some o ↦ after (watermark_of t v.mark) o | None ↦ true ] ≡ true
    go None is = refl
    go (Some o) is =
        let same : w.ended ≡ Some o = became.ended (ap is_none_of is) ∙ is in
        ap (λ (found : Option Watermark). after found o) (ap (watermark_of t) (sym became.mark) ∙ in_new)
        ∙ ap (λ (ended : Option Outcome). ended_as ended o) same ∙ outcome_itself o

stays_all : (t : SenderState) (vs ws : List Watermark) → Went (met_by t.listings) vs ws → AllFound t.watermarks ws
    → list_all (keeps_outcome t) vs ≡ true
stays_all t [] ws went new = refl
stays_all t (v ∷ vs) [] went new = absurd went
stays_all t (v ∷ vs) (w ∷ ws) went new =
    ap (λ (b : Bool). b && list_all (keeps_outcome t) vs) (stays_pair t (met_by t.listings) v w went.0 new.0) ∙ stays_all t vs ws went.1 new.1

-- ---- along a run

-- what holds so far
record SoFar (happened : List Happening) (s : SenderState) : Type 0 where
  book : BookHolds s
  none : NoneMet s
  exactly : AllByRecursion (λ (w : Watermark). is_satisfied w ≡ was_past happened w.mark) s.watermarks
  later : (mark : ℕ) → length s.watermarks < mark → was_past happened mark ≡ false
  stays : AllByRecursion (λ (x : Happening). IsTrue (keeps_outcomes x)) happened

any_more : (test : Happening → Bool) (xs : List Happening) (x : Happening) → list_any test (xs ++ x ∷ []) ≡ (list_any test xs || test x)
any_more test [] x = or_none (test x)
any_more test (y ∷ xs) x = go (test y) (any_more test xs x)
  where
    go : (b : Bool) → list_any test (xs ++ x ∷ []) ≡ (list_any test xs || test x)
        → (b || list_any test (xs ++ x ∷ [])) ≡ ((b || list_any test xs) || test x)
    go true more = refl
    go false more = more

all_more : (P : Happening → Type 0) (xs : List Happening) (x : Happening) → AllByRecursion P xs → P x → AllByRecursion P (xs ++ x ∷ [])
all_more P [] x all h = (h, tt)
all_more P (y ∷ xs) x all h = (all.0, all_more P xs x all.1 h)

event_holds : (happened : List Happening) (h : Happening) → BookHolds h.after.sender → Steps h.before.sender h.after.sender → SoFar happened h.before.sender
    → SoFar (happened ++ h ∷ []) h.after.sender
event_holds happened h book went so =
    let s : SenderState = h.before.sender in
    let t : SenderState = h.after.sender in
    let old = found_all 0 s.watermarks so.book.numbered in
    let new = found_all 0 t.watermarks book.numbered in
    let now = exact_all s t (was_past happened) so.book.numbered so.later 0 s.watermarks t.watermarks (let z : 0 + length s.watermarks ≡ length s.watermarks = omega arith in z) book.numbered went old new so.exactly in
    record {
      book = book;
      none = none_after (met_by t.listings) s.watermarks t.watermarks went;
      exactly = told t.watermarks now;
      later = λ mark lt. told_by mark ∙ ap (λ (b : Bool). b || (had_not_ended s mark && stood_past t mark)) (so.later mark (grew s.watermarks t.watermarks went mark lt))
          ∙ ap (λ (b : Bool). had_not_ended s mark && b) (nothing mark (none_found 0 t.watermarks mark book.numbered (omega (arith, lt))))
          ∙ never (had_not_ended s mark);
      stays = all_more (λ (x : Happening). IsTrue (keeps_outcomes x)) happened h so.stays (stays_all t s.watermarks t.watermarks went new);
    }
  where
    told_by : (mark : ℕ) → was_past (happened ++ h ∷ []) mark ≡ (was_past happened mark || (had_not_ended h.before.sender mark && stood_past h.after.sender mark))
    told_by mark = any_more (λ (x : Happening). had_not_ended x.before.sender mark && stood_past x.after.sender mark) happened h

    told : (ws : List Watermark) → AllByRecursion (NowExact h.before.sender h.after.sender (was_past happened)) ws
        → AllByRecursion (λ (w : Watermark). is_satisfied w ≡ was_past (happened ++ h ∷ []) w.mark) ws
    told [] all = tt
    told (w ∷ ws) all = (all.0 ∙ sym (told_by w.mark), told ws all.1)

    grew : (vs ws : List Watermark) → Went (met_by h.after.sender.listings) vs ws → (mark : ℕ) → length ws < mark → length vs < mark
    grew [] ws went mark lt = omega (arith, lt)
    grew (v ∷ vs) [] went mark lt = absurd went
    grew (v ∷ vs) (w ∷ ws) went zero lt = absurd (omega (arith, lt))
    grew (v ∷ vs) (w ∷ ws) went (suc mark) lt = (let more = grew vs ws went.1 mark (omega (arith, lt)) in omega (arith, more))

    met_of : Option Watermark → Bool
    met_of found = elim found [ Some x ↦ is_met h.after.sender x | None ↦ false ]

    nothing : (mark : ℕ) → in_list h.after.sender.watermarks mark ≡ None → stood_past h.after.sender mark ≡ false
    nothing mark e = ap met_of e

    never : (b : Bool) → (b && false) ≡ false
    never true = refl
    never false = refl

-- what is so of the sender where it did not move, and after each of its steps, is so after each event
sender_after : (p : Settings) (P : SenderState → Type 0) (w : World) (e : Event) → P w.sender → ((event : SenderEvent) → P (sender_step p w.sender event).0)
    → P (world_step p w e).0.sender
sender_after p P w (Commanded by job now) same steps = steps (sender.Commanded by job now)
sender_after p P w (Delivered node datagram now draw) same steps = go (node == p.sender) (receiver_at w node)
  where
    go : (own : Bool) (found : Option ReceiverState) → P (moved p w (node_move own found (sender.Delivered datagram now) (receiver.Delivered datagram now draw))).0.sender
    go true found = steps (sender.Delivered datagram now)
    go false (Some r) = same
    go false None = same
sender_after p P w (Ticked node now) same steps = go (node == p.sender) (receiver_at w node)
  where
    given : (other : ℕ) (datagram : Option Written) (v : World) → P v.sender → P (with_given other datagram v).sender
    given other None v h = h
    given other (Some datagram) v h = h

    go : (own : Bool) (found : Option ReceiverState) → P (moved p w (node_move own found (sender.Ticked now) (receiver.Ticked now))).0.sender
    go true found =
        let step = sender_step p w.sender (sender.Ticked now) in
        given p.sender (sender_ticked p w.sender now).1 (record w { sender = step.0 }) (steps (sender.Ticked now))
    go false (Some r) = (let step = receiver_ticked p r now in given r.node step.1 (with_receiver step.0 w) same)
    go false None = same
sender_after p P w (Offered node octets) same steps = go (find (is_of node octets) w.given)
  where
    go : (found : Option (ℕ × Written)) → P (offers found node w).sender
    go None = same
    go (Some datagram) = same
sender_after p P w (UpTaken node) same steps = go (receiver_at w node)
  where
    go : (found : Option ReceiverState) → P (moved p w (receiver_move found receiver.UpTaken)).0.sender
    go (Some r) = same
    go None = same
sender_after p P w NewsAsked same steps = steps sender.NewsAsked

run_holds : (p : Settings) (past : List Happening) (w : World) (events : List Event) → SoFar past w.sender
    → SoFar (past ++ happens p w events) (last_world w (happens p w events)).sender
unfolding happens last_world
run_holds p past w [] so = (let S : List Happening → Type 0 = λ all. SoFar all w.sender in subst S (sym (append-nil past)) so)
run_holds p past w (e ∷ events) so =
    let step = world_step p w e in
    let h : Happening = record { before = w; event = e; answer = step.1; after = step.0 } in
    let book = sender_after p BookHolds w e so.book (λ event. steps_book p w.sender event so.book) in
    let went = sender_after p (Steps w.sender) w e (same_steps w.sender so.none) (λ event. sender_steps p w.sender event so.none) in
    let S : List Happening → Type 0 = λ all. SoFar all (last_world step.0 (happens p step.0 events)).sender in
    subst S (append_assoc past (h ∷ []) (happens p step.0 events)) (run_holds p (past ++ h ∷ []) step.0 events (event_holds past h book went so))

-- Of every run under a profile.
pub satisfied_run : SatisfiedRun
satisfied_run p range events =
    let so = run_holds p [] (world_opening p) events (record {
      book = (reached_laws.at_first p p.instance range).book;
      none = tt;
      exactly = tt;
      later = λ mark lt. refl;
      stays = tt;
    }) in
    record { exactly = so.exactly; stays = so.stays }
