-- What a sender sends once by itself was sent, so far as it went: kept by a tick, and what that says of an idle sender.
use Rattle.std.proofs.Common.{◌≡◌, ℕ, zero, suc, ◌+◌, ◌<◌, ◌≤◌, cond, List, [], ◌∷◌, ◌++◌, length, take, drop, Bool, true, false, Option, None, Some, refl, sym, ap, ◌∙◌, subst, arith, ◌⊎◌, inl, inr}
use Rattle.std.specs.Prelude.{find, slice_get, ◌==◌, ◌&&◌, not, nat_lt, nat_le}
use Rattle.std.specs.List.{AllByRecursion}
use Rattle.std.proofs.lemmas.Bool.{cases_lt}
use Rattle.std.proofs.lemmas.Bool.Decides.{Decides-eqb, Decides-ltb}
use Rattle.std.proofs.lemmas.List.{length-drop}
use Rattle.norm_base.specs.Settings.{Settings, InRange}
use Rattle.fec_plan.specs.Points.{Point, point_of, position, position_before, same_position}
use Rattle.fec_plan.specs.declared.position.Position.{Position}
use Rattle.fec_plan.proofs.PointLemmas.{not_before}
use Rattle.fec_plan.proofs.PositionLemmas.{positions_same, position_itself}
use Rattle.norm_ext.specs.Written.{Written, writes}
use Rattle.norm_order.specs.Entries.{Object, Stream, Entry}
use Rattle.norm_order.specs.Sets.{is_member, with_member}
use Rattle.norm_order.specs.Shapes.{Shape, shape_of, shapes_of, at_index, closed_in, closed_blocks, is_source, has_info}
use Rattle.norm_order.proofs.SetLemmas.{self_in, others_in, numbers, positions}
use Rattle.norm_send_rules.specs.SenderState.{SenderState, Instance, Watermark, Round}
use Rattle.norm_send_rules.specs.InWindow.{current_shapes, stands_behind}
use Rattle.norm_send_rules.specs.Closing.{round_closed}
use Rattle.norm_send_rules.specs.Flushing.{most_flushes, flushes_for, expired, flushes_oldest, flushes_no_more, flushed, flushes_in_turn, flushes, may_flush}
use Rattle.norm_send_rules.specs.Messages.{squelch_message}
use Rattle.norm_send_rules.specs.Sending.{new_of, new_from, next_new, behind, sends, noted, repairs_next, sends_new}
use Rattle.norm_send_rules.specs.Ticking.{closed_where_due, sends_further, sends_wanted, sends_first, ticked, is_idle}
use Rattle.norm_send_rules.specs.Wants.{want_before, want_index}
use Rattle.norm_send_rules.specs.declared.news.Outcome.TheVariants.{Expired}
use Rattle.norm_send_rules.specs.Watermarks.{end_where, pending, oldest}
use Rattle.norm_send_rules.specs.declared.want.Want.{Want}
use Rattle.norm_send_rules.specs.declared.want.Want.TheVariants.{Info, Symbol}
use Rattle.norm_laws.specs.SentOnce.{was_sent, sent_once_of, AllSent, SourcesSent}
use Rattle.norm_laws.proofs.StreamNew.{IsPlace, IsNew, new_of_all, all_parts, new_get, place_behind}
use Rattle.norm_laws.proofs.GoneSent.{GoneSent, gone_more, once_more, block_there}
use Rattle.norm_laws.proofs.SentRests.{anew_leaves}
use Rattle.norm_laws.proofs.NewOrder.{clash, all_implied, all_two, all_append, lower_first, none_between, IsAmong, new_among, new_rises, new_split, first_found, none_found, shapes_drop, shapes_many}
use Rattle.norm_laws.proofs.SentLemmas.{IsDone, quiet_of, same_quiet, where_quiet, still_sent, quiet_so_far, from_zero, SentSoFar, Quiet}

-- ---- a tick

-- what is a member stays one
position_stays : (other at : Position) (sent : List Position) → is_member position_before other sent ≡ true
    → is_member position_before other (with_member position_before at sent) ≡ true
position_stays other at sent h = go (same_position other at) refl
  where
    differs : same_position other at ≡ false → other ≡ at → ⊥
    differs e same = clash (sym e ∙ ap (λ (x : Position). same_position x at) same ∙ position_itself at)

    go : (b : Bool) → same_position other at ≡ b → is_member position_before other (with_member position_before at sent) ≡ true
    go true e = ap (λ (x : Position). is_member position_before x (with_member position_before at sent)) (positions_same other at e) ∙ self_in position_before at sent positions
    go false e = others_in position_before other at sent positions (differs e) ∙ h

index_stays : (other index : ℕ) (sent : List ℕ) → is_member nat_lt other sent ≡ true → is_member nat_lt other (with_member nat_lt index sent) ≡ true
index_stays other index sent h = go (other == index) refl
  where
    go : (b : Bool) → (other == index) ≡ b → is_member nat_lt other (with_member nat_lt index sent) ≡ true
    go true e =
        ap (λ (x : ℕ). is_member nat_lt x (with_member nat_lt index sent)) ((Decides-eqb other index).0 e) ∙ self_in nat_lt index sent numbers
    go false e = others_in nat_lt other index sent numbers (λ same. clash (sym e ∙ (Decides-eqb other index).1 same)) ∙ h

noted_quiet : (w : Want) (s : SenderState) → Quiet s (noted w s)
noted_quiet (Info index) s = record { current = refl; next = refl; sent = λ at h. h; infos = λ i h. index_stays i index s.sent_infos h }
noted_quiet (Symbol at) s = record { current = refl; next = refl; sent = λ other h. position_stays other at s.sent h; infos = λ i h. h }

noted_sent : (w : Want) (s : SenderState) → was_sent (noted w s) w ≡ true
noted_sent (Info index) s = self_in nat_lt index s.sent_infos numbers
noted_sent (Symbol at) s = self_in position_before at s.sent positions

sends_quiet : (p : Settings) (now : ℕ) (datagram : Written) (s t : SenderState) → Quiet s t → Quiet s (sends p now datagram t).0
sends_quiet p now datagram s t h = record { current = h.current; next = h.next; sent = h.sent; infos = h.infos }

closed_quiet : (p : Settings) (now : ℕ) (s : SenderState) → Quiet s (closed_where_due p now s)
closed_quiet p now s = go s.round
  where
    go : (round : Option Round) → Quiet s (elim round as (λ _. SenderState) [
      | Some r ↦ elim (nat_le r.closes now) [ true ↦ round_closed p r s | false ↦ s ]
      | None ↦ s
    ])
    go None = same_quiet s
    go (Some r) = where_quiet (nat_le r.closes now) s (round_closed p r s) (record { current = refl; next = refl; sent = λ at h. h; infos = λ i h. h })

-- the state of a step
abbrev state_of : SenderState × Option Written → SenderState
state_of step = step.0

one_flush : (p : Settings) (now : ℕ) (w : Watermark) (s t : SenderState) → Quiet s t → Quiet s (flushes_for p now w t).0
one_flush p now w s t h = record { current = h.current; next = h.next; sent = h.sent; infos = h.infos }

oldest_quiet : (p : Settings) (now : ℕ) (s t : SenderState) → Quiet s t → Quiet s (flushes_oldest p now t).0
oldest_quiet p now s t h = go (oldest t)
  where
    go : (found : Option Watermark) → Quiet s (state_of (elim found [ Some w ↦ flushes_for p now w t | None ↦ (t, None) ]))
    go None = h
    go (Some w) = one_flush p now w s t h

no_more_quiet : (p : Settings) (now : ℕ) (w : Watermark) (s : SenderState) → Quiet s (flushes_no_more p now w s).0
no_more_quiet p now w s = go s.round
  where
    go : (round : Option Round) → Quiet s (state_of (elim round [ Some r ↦ (s, None) | None ↦ flushes_oldest p now (expired w.mark s) ]))
    go (Some r) = same_quiet s
    go None = oldest_quiet p now s (expired w.mark s) (quiet_of s (expired w.mark s)
        (anew_leaves s s (end_where (λ (v : Watermark). v.mark == w.mark) (λ (v : Watermark). Expired (length (pending s v.at))) s)
        (record { current = refl; next = refl; sent = refl; infos = refl })))

flushed_quiet : (p : Settings) (now : ℕ) (w : Watermark) (s : SenderState) → Quiet s (flushed p now w s).0
flushed_quiet p now w s = go (nat_lt s.flushes most_flushes)
  where
    go : (b : Bool) → Quiet s (state_of (elim b [ true ↦ flushes_for p now w s | false ↦ flushes_no_more p now w s ]))
    go true = one_flush p now w s s (same_quiet s)
    go false = no_more_quiet p now w s

in_turn_quiet : (p : Settings) (now : ℕ) (s : SenderState) → Quiet s (flushes_in_turn p now s).0
in_turn_quiet p now s = go (oldest s)
  where
    go : (found : Option Watermark) → Quiet s (state_of (elim found [ Some w ↦ flushed p now w s | None ↦ (s, None) ]))
    go None = same_quiet s
    go (Some w) = flushed_quiet p now w s

flushes_quiet : (p : Settings) (now : ℕ) (s : SenderState) → Quiet s (flushes p now s).0
flushes_quiet p now s = go (may_flush p s now)
  where
    go : (b : Bool) → Quiet s (state_of (elim b [ true ↦ flushes_in_turn p now s | false ↦ (s, None) ]))
    go true = in_turn_quiet p now s
    go false = same_quiet s

-- what is new of the entries before the next place's, and of the others
abbrev front_of : Settings → SenderState → List Want
front_of p s = new_from p 0 (take (want_index s.next) (shapes_of p s.current.order))

abbrev back_of : Settings → SenderState → List Want
back_of p s = new_from p (want_index s.next) (shapes_of p (drop (want_index s.next) s.current.order))

in_two : (p : Settings) (s : SenderState) → sent_once_of p s ≡ front_of p s ++ back_of p s
in_two p s =
    new_split p 0 (want_index s.next) (shapes_of p s.current.order)
    ∙ ap (λ n. front_of p s ++ new_from p n (drop (want_index s.next) (shapes_of p s.current.order))) (from_zero (want_index s.next))
    ∙ ap (λ xs. front_of p s ++ new_from p (want_index s.next) xs) (sym (shapes_drop p (want_index s.next) s.current.order))

front_lower : (p : Settings) (s : SenderState) → AllByRecursion (λ w. want_before w s.next ≡ true) (front_of p s)
front_lower p s =
    all_implied (IsAmong 0 (length (take (want_index s.next) (shapes_of p s.current.order)))) (λ w. want_before w s.next ≡ true) (front_of p s)
    (λ w among. lower_first w s.next (let lt = among.1 in let few = take_few (want_index s.next) (shapes_of p s.current.order) in omega (arith, lt, few)))
    (new_among p 0 (take (want_index s.next) (shapes_of p s.current.order)))
  where
    take_few : (n : ℕ) (xs : List Shape) → length (take n xs) ≤ n
    take_few zero xs = omega arith
    take_few (suc n) [] = omega arith
    take_few (suc n) (x ∷ xs) = let rest = take_few n xs in omega (arith, rest)

found_holds : (P : Want → Type 0) (test : Want → Bool) (ws : List Want) (w : Want) → AllByRecursion P ws → find test ws ≡ Some w → P w
found_holds P test [] w all e = absurd (none_some w e)
  where
    none_some : (x : Want) → None ≡ Some x → ⊥
    none_some x e = cc
found_holds P test (x ∷ ws) w all e = go (test x) (λ e. found_holds P test ws w all.1 e) e
  where
    same : (x y : Want) → Some x ≡ Some y → x ≡ y
    same x y e = cc

    go : (b : Bool) → (find test ws ≡ Some w → P w) → cond b (Some x) (find test ws) ≡ Some w → P w
    go true more e = subst P (same x w e) all.0
    go false more e = more e

-- a new info or symbol is sent, and what comes behind it is next
new_so_far : (p : Settings) (now : ℕ) (s : SenderState) (w : Want) → next_new p s ≡ Some w → SentSoFar p s → SentSoFar p (sends_new p now w s).0
new_so_far p now s w found h = record {
  sent = subst (AllByRecursion (IsDone t)) (sym (same_order ∙ in_two p s))
      (all_append (IsDone t) (front_of p s) (back_of p s) before_all behind_all);
  next = inl (subst (λ (x : Want). want_index x < length t.current.order) (sym next_is)
      (subst (λ (i : Instance). want_index (behind w) < length i.order) (sym order_is) within));
  place = subst (λ (x : Want). IsPlace p (current_shapes p t) x) (sym next_is)
      (subst (λ (i : Instance). IsPlace p (shapes_of p i.order) (behind w)) (sym order_is) (place_behind p (current_shapes p s) w new));
  gone = subst (λ (i : Instance). GoneSent p i.order i.drop t.sent t.sent_infos) (sym order_is)
      (gone_more p s.current.order s.current.drop s.sent t.sent s.sent_infos t.sent_infos note.sent note.infos h.gone);
}
  where
    moved : SenderState
    moved = record s { next = behind w }

    t : SenderState
    t = (sends_new p now w s).0

    note : Quiet moved (noted w moved)
    note = noted_quiet w moved

    order_is : t.current ≡ s.current
    order_is = note.current

    same_order : sent_once_of p t ≡ sent_once_of p s
    same_order = ap (λ (i : Instance). new_from p 0 (shapes_of p i.order)) order_is

    next_is : t.next ≡ behind w
    next_is = note.next

    still : (x : Want) → was_sent s x ≡ true → was_sent t x ≡ true
    still = still_sent s t note.sent note.infos

    own : was_sent t w ≡ true
    own = noted_sent w moved

    test : Want → Bool
    test x = not (want_before x s.next) && stands_behind s.current.drop x

    new : IsNew p (current_shapes p s) w
    new = found_holds (IsNew p (current_shapes p s)) test (back_of p s) w
        (subst (λ (xs : List Shape). AllByRecursion (IsNew p (current_shapes p s)) (new_from p (want_index s.next) xs))
        (sym (shapes_drop p (want_index s.next) s.current.order)) (new_of_all p (want_index s.next) (current_shapes p s))) found

    parts : AllByRecursion (IsDone s) (front_of p s) × AllByRecursion (IsDone s) (back_of p s)
    parts = all_parts (IsDone s) (front_of p s) (back_of p s) (subst (AllByRecursion (IsDone s)) (in_two p s) h.sent)

    stood : (x : Want) → stands_behind t.current.drop x ≡ true → stands_behind s.current.drop x ≡ true
    stood x stands = ap (λ (i : Instance). stands_behind i.drop x) (sym order_is) ∙ stands

    earlier : (x : Want) → IsDone s x × (want_before x s.next ≡ true) → IsDone t x
    earlier x both before stands = still x (both.0 both.1 (stood x stands))

    before_all : AllByRecursion (IsDone t) (front_of p s)
    before_all = all_implied (λ x. IsDone s x × (want_before x s.next ≡ true)) (IsDone t) (front_of p s) earlier
        (all_two (IsDone s) (λ x. want_before x s.next ≡ true) (front_of p s) parts.0 (front_lower p s))

    first : AllByRecursion (λ x. test x ≡ true → (x ≡ w) ⊎ (want_before w x ≡ true)) (back_of p s)
    first = first_found test (back_of p s) w (new_rises p (want_index s.next) (shapes_of p (drop (want_index s.next) s.current.order))) found

    later : (x : Want) → IsDone s x × (test x ≡ true → (x ≡ w) ⊎ (want_before w x ≡ true)) → IsDone t x
    later x both before stands = go (want_before x s.next) refl
      where
        by : (x ≡ w) ⊎ (want_before w x ≡ true) → was_sent t x ≡ true
        by (inl same) = ap (was_sent t) same ∙ own
        by (inr after) = absurd (none_between w x after (ap (λ (y : Want). want_before x y) (sym next_is) ∙ before))

        go : (b : Bool) → want_before x s.next ≡ b → was_sent t x ≡ true
        go true e = still x (both.0 e (stood x stands))
        go false e = by (both.1 (ap (λ c. not c && stands_behind s.current.drop x) e ∙ stood x stands))

    behind_all : AllByRecursion (IsDone t) (back_of p s)
    behind_all = all_implied (λ x. IsDone s x × (test x ≡ true → (x ≡ w) ⊎ (want_before w x ≡ true))) (IsDone t) (back_of p s) later
        (all_two (IsDone s) (λ x. test x ≡ true → (x ≡ w) ⊎ (want_before w x ≡ true)) (back_of p s) parts.1 first)

    same_index : (x : Want) → want_index (behind x) ≡ want_index x
    same_index (Info index) = refl
    same_index (Symbol at) = refl

    within : want_index (behind w) < length s.current.order
    within =
        let rest = drop (want_index s.next) s.current.order in
        let among = found_holds (IsAmong (want_index s.next) (length (shapes_of p rest))) test (back_of p s) w (new_among p (want_index s.next) (shapes_of p rest)) found in
        let many = shapes_many p rest in
        let left = length-drop (want_index s.next) s.current.order in
        let le = among.0 in
        let lt = among.1 in
        let same = same_index w in
        omega (arith, many, left, le, lt, same)

pub tick_so_far : (p : Settings) (s : SenderState) (now : ℕ) → SentSoFar p s → SentSoFar p (ticked p s now).0
tick_so_far p s now so = go (closed_where_due p now s) (quiet_so_far p s (closed_where_due p now s) (closed_quiet p now s) so) (nat_lt now (closed_where_due p now s).next_send)
  where
    further : (c : SenderState) → SentSoFar p c → (found : Option Want) → next_new p c ≡ found
        → SentSoFar p (state_of (elim found [ Some w ↦ sends_new p now w c | None ↦ flushes p now c ]))
    further c h None e = quiet_so_far p c (flushes p now c).0 (flushes_quiet p now c) h
    further c h (Some w) e = new_so_far p now c w e h

    wanted : (c : SenderState) → SentSoFar p c → (wants : List Want)
        → SentSoFar p (state_of (elim wants [ [] ↦ sends_further p now c | w ∷ more ↦ repairs_next p now w more c ]))
    wanted c h [] = further c h (next_new p c) refl
    wanted c h (w ∷ more) =
        let rest : SenderState = record c { wants = more } in
        let note = noted_quiet w rest in
        quiet_so_far p c (repairs_next p now w more c).0 (record { current = note.current; next = note.next; sent = note.sent; infos = note.infos }) h

    first : (c : SenderState) → SentSoFar p c → (due : Bool) → SentSoFar p (state_of (elim due [
      | true ↦ sends p now (writes (squelch_message p c c.current.drop) (c.current.drop.index ∷ [])) (record c { squelch_due = false })
      | false ↦ sends_wanted p now c
    ]))
    first c h true = quiet_so_far p c _ (record { current = refl; next = refl; sent = λ at e. e; infos = λ i e. e }) h
    first c h false = wanted c h c.wants

    go : (c : SenderState) → SentSoFar p c → (early : Bool) → SentSoFar p (state_of (elim early [ true ↦ (c, None) | false ↦ sends_first p now c ]))
    go c h true = h
    go c h false = first c h c.squelch_due

-- ---- idle

pub idle_so_far : (p : Settings) (s : SenderState) → is_idle p s ≡ true → SentSoFar p s → AllSent p s
idle_so_far p s idle h = subst (AllByRecursion Sent) (sym (in_two p s)) (all_append Sent (front_of p s) (back_of p s) before_all behind_all)
  where
    Sent : Want → Type 0
    Sent w = stands_behind s.current.drop w ≡ true → was_sent s w ≡ true

    test : Want → Bool
    test x = not (want_before x s.next) && stands_behind s.current.drop x

    parts : AllByRecursion (IsDone s) (front_of p s) × AllByRecursion (IsDone s) (back_of p s)
    parts = all_parts (IsDone s) (front_of p s) (back_of p s) (subst (AllByRecursion (IsDone s)) (in_two p s) h.sent)

    before_all : AllByRecursion Sent (front_of p s)
    before_all = all_implied (λ x. IsDone s x × (want_before x s.next ≡ true)) Sent (front_of p s) (λ x both stands. both.0 both.1 stands)
        (all_two (IsDone s) (λ x. want_before x s.next ≡ true) (front_of p s) parts.0 (front_lower p s))

    nothing_new : next_new p s ≡ None
    nothing_new = due s.squelch_due idle
      where
        new : (found : Option Want) → (elim found [ Some w ↦ false | None ↦ elim s.round [ Some r ↦ false | None ↦ true ] ]) ≡ true → found ≡ None
        new None e = refl
        new (Some w) e = absurd (clash e)

        wanted : (wants : List Want) → (elim wants [
          | w ∷ more ↦ false
          | [] ↦ elim (next_new p s) [ Some w ↦ false | None ↦ elim s.round [ Some r ↦ false | None ↦ true ] ]
        ]) ≡ true → next_new p s ≡ None
        wanted [] e = new (next_new p s) e
        wanted (w ∷ more) e = absurd (clash e)

        due : (b : Bool) → (elim b [
          | true ↦ false
          | false ↦ elim s.wants [
            | w ∷ wants ↦ false
            | [] ↦ elim (next_new p s) [ Some w ↦ false | None ↦ elim s.round [ Some r ↦ false | None ↦ true ] ]
          ]
        ]) ≡ true → next_new p s ≡ None
        due true e = absurd (clash e)
        due false e = wanted s.wants e

    later : (x : Want) → IsDone s x × (test x ≡ false) → Sent x
    later x both stands = go (want_before x s.next) refl
      where
        go : (b : Bool) → want_before x s.next ≡ b → was_sent s x ≡ true
        go true e = both.0 e stands
        go false e = absurd (clash (sym both.1 ∙ ap (λ c. not c && stands_behind s.current.drop x) e ∙ stands))

    behind_all : AllByRecursion Sent (back_of p s)
    behind_all = all_implied (λ x. IsDone s x × (test x ≡ false)) Sent (back_of p s) later
        (all_two (IsDone s) (λ x. test x ≡ false) (back_of p s) parts.1 (none_found test (back_of p s) nothing_new))

-- what holds of all that is new of an order holds of what is new of one of its objects
new_at : (P : Want → Type 0) (p : Settings) (first k : ℕ) (shapes : List Shape) (s : Shape) → slice_get shapes k ≡ Some s
    → AllByRecursion P (new_from p first shapes) → AllByRecursion P (new_of p (first + k) s)
unfolding new_from
new_at P p first k [] s found all = absurd (none_some found)
  where
    none_some : None ≡ Some s → ⊥
    none_some e = cc
new_at P p first zero (x ∷ shapes) s found all =
    let A : Shape → Type 0 = λ y. AllByRecursion P (new_of p (first + 0) y) in
    let N : ℕ → Type 0 = λ n. AllByRecursion P (new_of p n x) in
    subst A (same found) (subst N (let z : first ≡ first + 0 = omega arith in z) (all_parts P (new_of p first x) (new_from p (first + 1) shapes) all).0)
  where
    same : Some x ≡ Some s → x ≡ s
    same e = cc
new_at P p first (suc k) (x ∷ shapes) s found all =
    let N : ℕ → Type 0 = λ n. AllByRecursion P (new_of p n s) in
    subst N (let z : first + 1 + k ≡ first + suc k = omega arith in z)
    (new_at P p (first + 1) k shapes s found (all_parts P (new_of p first x) (new_from p (first + 1) shapes) all).1)

-- a shape of an order is that of its entry
entry_of : (p : Settings) (order : List Entry) (i : ℕ) (test : Shape → Bool) → at_index (shapes_of p order) i false test ≡ true
    → (x : Entry) × (slice_get order i ≡ Some x) × (slice_get (shapes_of p order) i ≡ Some (shape_of p x.object)) × (test (shape_of p x.object) ≡ true)
entry_of p [] i test e = absurd (clash e)
entry_of p (x ∷ order) zero test e = (x, refl, refl, e)
entry_of p (x ∷ order) (suc i) test e = entry_of p order i test e

-- Where all was sent that was not dropped, each closed source symbol and each info was sent.
pub sources_sent : (p : Settings) → InRange p → (s : SenderState) → SentSoFar p s → AllSent p s → SourcesSent p s
sources_sent p range s so all = record { symbols = symbols; infos = infos }
  where
    Sent : Want → Type 0
    Sent w = stands_behind s.current.drop w ≡ true → was_sent s w ≡ true

    d : Point
    d = s.current.drop

    symbols : (at : Position) → is_source (current_shapes p s) at ≡ true → is_member position_before at s.sent ≡ true
    symbols at e = go (entry_of p s.current.order at.index (λ (x : Shape). nat_lt at.symbol (closed_in x at.block)) e)
      where
        go : (x : Entry) × (slice_get s.current.order at.index ≡ Some x) × (slice_get (current_shapes p s) at.index ≡ Some (shape_of p x.object))
            × (nat_lt at.symbol (closed_in (shape_of p x.object) at.block) ≡ true)
            → is_member position_before at s.sent ≡ true
        go (x, found, there, e) = by_drop (stands_behind d (Symbol at)) refl
          where
            lt : at.symbol < closed_in (shape_of p x.object) at.block
            lt = (Decides-ltb at.symbol (closed_in (shape_of p x.object) at.block)).0 e

            block : at.block < closed_blocks (shape_of p x.object)
            block = block_there p range x.object at.block (let less = lt in omega (arith, less))

            kept : Sent (Symbol at)
            kept =
                let once = once_more p range x.object at.block in
                let N : ℕ → Type 0 = λ n. AllByRecursion Sent (new_of p n (shape_of p x.object)) in
                let own = subst N (let z : 0 + at.index ≡ at.index = omega arith in z) (new_at Sent p 0 at.index (current_shapes p s) (shape_of p x.object) there all) in
                new_get Sent p at.index (shape_of p x.object) at.block at.symbol block (let less = lt in omega (arith, less, once)) own

            dropped : (d.index < at.index → ⊥) → (at.index < d.index) ⊎ ((at.index ≡ d.index) × (at.block < d.block)) → is_member position_before at s.sent ≡ true
            dropped never (inl before) = (so.gone.objects at.index x found before).symbols at.block at.symbol block lt
            dropped never (inr same) =
                let stream = so.gone.stream (let less = same.1 in omega (arith, less)) in
                let is : x ≡ stream.0 = same_entry (sym found ∙ ap (slice_get s.current.order) same.0 ∙ stream.2) in
                let closed : at.symbol < closed_in (shape_of p (Stream stream.1)) at.block =
                (let O : Object → Type 0 = λ o. at.symbol < closed_in (shape_of p o) at.block in subst O (ap (λ (y : Entry). y.object) is ∙ stream.3) lt) in
                let I : ℕ → Type 0 = λ i. is_member position_before (position i at.block at.symbol) s.sent ≡ true in
                subst I (sym same.0) (so.gone.blocks at.block at.symbol same.1 (omega (arith, closed)))
              where
                same_entry : {y z : Entry} → Some y ≡ Some z → y ≡ z
                same_entry e = cc

            by_drop : (b : Bool) → stands_behind d (Symbol at) ≡ b → is_member position_before at s.sent ≡ true
            by_drop true e = kept e
            by_drop false e = gone_by (cases_lt at.index d.index) (cases_lt at.block d.block)
              where
                before : (d.index < at.index) ⊎ ((d.index ≡ at.index) × (d.block ≤ at.block)) → ⊥
                before h = clash (sym e ∙ ap not (not_before (point_of at) d h))

                behind_it : d.index < at.index → ⊥
                behind_it less = before (inl less)

                gone_by : (at.index < d.index) ⊎ (d.index ≤ at.index) → (at.block < d.block) ⊎ (d.block ≤ at.block) → is_member position_before at s.sent ≡ true
                gone_by (inl less) among = dropped behind_it (inl less)
                gone_by (inr ge) (inl less) = dropped behind_it (inr (omega (arith, ge, behind_it), less))
                gone_by (inr ge) (inr le) = absurd (before (inr (omega (arith, ge, behind_it), le)))

    infos : (index : ℕ) → has_info (current_shapes p s) index ≡ true → is_member nat_lt index s.sent_infos ≡ true
    infos index e = go (entry_of p s.current.order index (λ (x : Shape). x.info) e)
      where
        go : (x : Entry) × (slice_get s.current.order index ≡ Some x) × (slice_get (current_shapes p s) index ≡ Some (shape_of p x.object))
            × ((shape_of p x.object).info ≡ true)
            → is_member nat_lt index s.sent_infos ≡ true
        go (x, found, there, is) = by_drop (nat_lt index d.index) refl
          where
            own : AllByRecursion Sent (new_of p (0 + index) (shape_of p x.object))
            own = new_at Sent p 0 index (current_shapes p s) (shape_of p x.object) there all

            first : (b : Bool) → b ≡ true → (ws : List Want) → AllByRecursion Sent (cond b (Info (0 + index) ∷ []) [] ++ ws) → Sent (Info (0 + index))
            first true is ws all = all.0
            first false is ws all = absurd (clash is)

            by_drop : (b : Bool) → nat_lt index d.index ≡ b → is_member nat_lt index s.sent_infos ≡ true
            by_drop true e = (so.gone.objects index x found ((Decides-ltb index d.index).0 e)).info is
            by_drop false e =
                let I : ℕ → Type 0 = λ i. Sent (Info i) in
                (subst I (let z : 0 + index ≡ index = omega arith in z) (first (shape_of p x.object).info is _ own)) (ap not e)
