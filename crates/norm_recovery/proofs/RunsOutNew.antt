-- What is new: if there is any, the first of it is next, and once that was sent there is less.
use Rattle.std.proofs.Common.{◌≡◌, ℕ, zero, suc, ◌+◌, ◌<◌, ◌≤◌, cond, List, [], ◌∷◌, ◌++◌, length, take, drop, Bool, true, false, None, Some, refl, sym, ap, ◌∙◌, subst, arith, inl, inr}
use Rattle.std.specs.Prelude.{filter, find, not, ◌&&◌}
use Rattle.std.specs.List.{AllByRecursion}
use Rattle.std.proofs.lemmas.Bool.{ltb-false, leb-false}
use Rattle.std.proofs.lemmas.List.Elements.{filter-append}
use Rattle.norm_base.specs.Settings.{Settings}
use Rattle.fec_plan.specs.Points.{position}
use Rattle.fec_plan.specs.declared.position.Position.{Position}
use Rattle.fec_plan.proofs.PositionLemmas.{Before, Behind, behind as behind_of}
use Rattle.norm_order.specs.Shapes.{Shape, shapes_of}
use Rattle.norm_send_rules.specs.InWindow.{stands_behind}
use Rattle.norm_send_rules.specs.SenderState.{SenderState}
use Rattle.norm_send_rules.specs.Sending.{new_from, next_new, behind}
use Rattle.norm_send_rules.specs.Wants.{want_before, want_index}
use Rattle.norm_send_rules.specs.declared.want.Want.{Want}
use Rattle.norm_send_rules.specs.declared.want.Want.TheVariants.{Info, Symbol}
use Rattle.norm_laws.proofs.NewOrder.{clash, all_implied, Earlier, earlier_decides, lower_first, IsAmong, new_among, new_split, none_found, shapes_drop}
use Rattle.norm_recovery.specs.RunsOut.{all_new}

-- the want is new
abbrev is_new : SenderState → Want → Bool
is_new s w = not (want_before w s.next) && stands_behind s.current.drop w

-- what is sent by itself of the objects before that of the next place, and of the others
abbrev front_of : Settings → SenderState → List Want
front_of p s = new_from p 0 (take (want_index s.next) (shapes_of p s.current.order))

abbrev back_of : Settings → SenderState → List Want
back_of p s = new_from p (want_index s.next) (shapes_of p (drop (want_index s.next) s.current.order))

in_two : (p : Settings) (s : SenderState) → new_from p 0 (shapes_of p s.current.order) ≡ front_of p s ++ back_of p s
in_two p s =
    new_split p 0 (want_index s.next) (shapes_of p s.current.order)
    ∙ ap (λ n. front_of p s ++ new_from p n (drop (want_index s.next) (shapes_of p s.current.order))) (from_zero (want_index s.next))
    ∙ ap (λ xs. front_of p s ++ new_from p (want_index s.next) xs) (sym (shapes_drop p (want_index s.next) s.current.order))
  where
    from_zero : (n : ℕ) → 0 + n ≡ n
    from_zero n = omega arith

-- none of the front is new
front_old : (p : Settings) (s : SenderState) → AllByRecursion (λ w. is_new s w ≡ false) (front_of p s)
front_old p s =
    all_implied (IsAmong 0 (length (take (want_index s.next) (shapes_of p s.current.order)))) (λ w. is_new s w ≡ false) (front_of p s)
    (λ w among. old w (lower_first w s.next (let lt = among.1 in let few = take_few (want_index s.next) (shapes_of p s.current.order) in omega (arith, lt, few))))
    (new_among p 0 (take (want_index s.next) (shapes_of p s.current.order)))
  where
    take_few : (n : ℕ) (xs : List Shape) → length (take n xs) ≤ n
    take_few zero xs = omega arith
    take_few (suc n) [] = omega arith
    take_few (suc n) (x ∷ xs) = let rest = take_few n xs in omega (arith, rest)

    old : (w : Want) → want_before w s.next ≡ true → is_new s w ≡ false
    old w e = ap (λ b. not b && stands_behind s.current.drop w) e

-- nothing passes a test
filter_none : (test : Want → Bool) (ws : List Want) → AllByRecursion (λ w. test w ≡ false) ws → filter test ws ≡ []
filter_none test [] all = refl
filter_none test (w ∷ ws) all = ap (λ b. cond b (w ∷ filter test ws) (filter test ws)) all.0 ∙ filter_none test ws all.1

-- so many pass, of which none is in the front
pub behind_front : (test : Want → Bool) (front back : List Want) → AllByRecursion (λ w. test w ≡ false) front
    → length (filter test (front ++ back)) ≡ length (filter test back)
behind_front test front back none =
    ap length (filter-append test front back) ∙ ap (λ ws. length (ws ++ filter test back)) (filter_none test front none)

pub none_new : (p : Settings) (s : SenderState) → next_new p s ≡ None → length (all_new p s) ≡ 0
none_new p s e =
    ap (λ ws. length (filter (is_new s) ws)) (in_two p s)
    ∙ behind_front (is_new s) (front_of p s) (back_of p s) (front_old p s)
    ∙ ap length (filter_none (is_new s) (back_of p s) (none_found (is_new s) (back_of p s) e))

-- ---- fewer pass a stricter test, if the first that passed no longer does

-- whatever passes after passes before
abbrev Stricter : (before after : Want → Bool) → Type 0
Stricter before after = (w : Want) → before w ≡ false → after w ≡ false

no_more : (before after : Want → Bool) (ws : List Want) → Stricter before after → length (filter after ws) ≤ length (filter before ws)
no_more before after [] only = omega arith
no_more before after (w ∷ ws) only = go (before w) (after w) refl refl (no_more before after ws only)
  where
    go : (b a : Bool) → before w ≡ b → after w ≡ a → length (filter after ws) ≤ length (filter before ws)
        → length (cond a (w ∷ filter after ws) (filter after ws)) ≤ length (cond b (w ∷ filter before ws) (filter before ws))
    go true true e f le = omega (arith, le)
    go true false e f le = omega (arith, le)
    go false false e f le = le
    go false true e f le = absurd (clash (sym (only w e) ∙ f))

fewer : (before after : Want → Bool) (ws : List Want) (w : Want) → Stricter before after → find before ws ≡ Some w → after w ≡ false
    → length (filter after ws) < length (filter before ws)
fewer before after [] w only e gone = absurd (none_some e)
  where
    none_some : None ≡ Some w → ⊥
    none_some e = cc
fewer before after (x ∷ ws) w only e gone = go (before x) (after x) refl refl e (no_more before after ws only) (λ e. fewer before after ws w only e gone)
  where
    same : Some x ≡ Some w → x ≡ w
    same e = cc

    go : (b a : Bool) → before x ≡ b → after x ≡ a → cond b (Some x) (find before ws) ≡ Some w → length (filter after ws) ≤ length (filter before ws)
        → (find before ws ≡ Some w → length (filter after ws) < length (filter before ws))
        → length (cond a (x ∷ filter after ws) (filter after ws)) < length (cond b (x ∷ filter before ws) (filter before ws))
    go true false is was e le more = omega (arith, le)
    go true true is was e le more = absurd (clash (sym gone ∙ ap after (sym (same e)) ∙ was))
    go false false is was e le more = more e
    go false true is was e le more = absurd (clash (sym (only x is) ∙ was))

-- ---- the next place goes on

-- the first want does not come before the second, as numbers
abbrev NotEarlier : Want → Want → Type 0
NotEarlier (Info i) (Info j) = j ≤ i
NotEarlier (Info i) (Symbol at) = at.index < i
NotEarlier (Symbol at) (Info j) = j ≤ at.index
NotEarlier (Symbol at) (Symbol other) = Behind at other

not_earlier : (a b : Want) → want_before a b ≡ false → NotEarlier a b
not_earlier (Info i) (Info j) e = ltb-false i j e
not_earlier (Info i) (Symbol at) e = leb-false i at.index e
not_earlier (Symbol at) (Info j) e = ltb-false at.index j e
not_earlier (Symbol at) (Symbol other) e = behind_of at other (ap not e)

goes_past : (x other at : Position) → Before x other → Behind at other → Before x (position at.index at.block (at.symbol + 1))
goes_past x other at (inl (inl lt)) g = inl (inl (omega (arith, lt, g)))
goes_past x other at (inl (inr (e, lt))) (inl less) = inl (inl (omega (arith, e, less)))
goes_past x other at (inl (inr (e, lt))) (inr (same, inl less)) = inl (inr (omega (arith, e, same), omega (arith, lt, less)))
goes_past x other at (inl (inr (e, lt))) (inr (same, inr (too, le))) = inl (inr (omega (arith, e, same), omega (arith, lt, too)))
goes_past x other at (inr ((e, f), lt)) (inl less) = inl (inl (omega (arith, e, less)))
goes_past x other at (inr ((e, f), lt)) (inr (same, inl less)) = inl (inr (omega (arith, e, same), omega (arith, f, less)))
goes_past x other at (inr ((e, f), lt)) (inr (same, inr (too, le))) = inr ((omega (arith, e, same), omega (arith, f, too)), omega (arith, lt, le))

-- what comes before a place comes before the place behind a want that does not come before the former
goes_behind : (x next w : Want) → want_before x next ≡ true → want_before w next ≡ false → want_before x (behind w) ≡ true
goes_behind x next w e f = (earlier_decides x (behind w)).1 (go x next w ((earlier_decides x next).0 e) (not_earlier w next f))
  where
    go : (x next w : Want) → Earlier x next → NotEarlier w next → Earlier x (behind w)
    go (Info i) (Info j) (Info k) h g = omega (arith, h, g)
    go (Info i) (Info j) (Symbol at) h g = omega (arith, h, g)
    go (Info i) (Symbol other) (Info k) h g = omega (arith, h, g)
    go (Info i) (Symbol other) (Symbol at) h g = omega (arith, h, g)
    go (Symbol x) (Info j) (Info k) h g = inl (inl (omega (arith, h, g)))
    go (Symbol x) (Info j) (Symbol at) h g = inl (inl (omega (arith, h, g)))
    go (Symbol x) (Symbol other) (Info k) h g = inl (inl (omega (arith, h, g)))
    go (Symbol x) (Symbol other) (Symbol at) h g = goes_past x other at h g

-- a want comes before the place behind it
before_behind : (w : Want) → want_before w (behind w) ≡ true
before_behind w = (earlier_decides w (behind w)).1 (go w)
  where
    go : (w : Want) → Earlier w (behind w)
    go (Info i) = omega arith
    go (Symbol at) = inr ((refl, refl), omega arith)

found_passes : (test : Want → Bool) (ws : List Want) (w : Want) → find test ws ≡ Some w → test w ≡ true
found_passes test [] w e = absurd (none_some e)
  where
    none_some : None ≡ Some w → ⊥
    none_some e = cc
found_passes test (x ∷ ws) w e = go (test x) refl e (found_passes test ws w)
  where
    same : Some x ≡ Some w → x ≡ w
    same e = cc

    go : (b : Bool) → test x ≡ b → cond b (Some x) (find test ws) ≡ Some w → (find test ws ≡ Some w → test w ≡ true) → test w ≡ true
    go true is e more = ap test (sym (same e)) ∙ is
    go false is e more = more e

pub fewer_new : (p : Settings) (s t : SenderState) (w : Want) → next_new p s ≡ Some w → t.current ≡ s.current → t.next ≡ behind w
    → length (all_new p t) < length (all_new p s)
fewer_new p s t w e current next =
    subst (λ (n : ℕ). n < length (all_new p s)) (sym same_count) counted
  where
    -- the test once the next place is that behind the want
    after : Want → Bool
    after x = not (want_before x (behind w)) && stands_behind s.current.drop x

    same_count : length (all_new p t) ≡ length (filter after (new_from p 0 (shapes_of p s.current.order)))
    same_count =
        ap (λ (next : Want). length (filter (λ x. not (want_before x next) && stands_behind t.current.drop x) (new_from p 0 (shapes_of p t.current.order)))) next
        ∙ ap (λ i. length (filter (λ x. not (want_before x (behind w)) && stands_behind i.drop x) (new_from p 0 (shapes_of p i.order)))) current

    not_before : want_before w s.next ≡ false
    not_before = go (want_before w s.next) (stands_behind s.current.drop w) (found_passes (is_new s) (back_of p s) w e)
      where
        go : (a b : Bool) → (not a && b) ≡ true → a ≡ false
        go false b h = refl
        go true b h = absurd (clash h)

    stricter : Stricter (is_new s) after
    stricter x h = go (want_before x s.next) refl
      where
        go : (b : Bool) → want_before x s.next ≡ b → after x ≡ false
        go true is = ap (λ b. not b && stands_behind s.current.drop x) (goes_behind x s.next w is not_before)
        go false is = dropped (want_before x (behind w)) (stands_behind s.current.drop x) (sym (ap (λ b. not b && stands_behind s.current.drop x) is) ∙ h)
          where
            dropped : (b c : Bool) → c ≡ false → (not b && c) ≡ false
            dropped true c e = refl
            dropped false c e = e

    gone : after w ≡ false
    gone = ap (λ b. not b && stands_behind s.current.drop w) (before_behind w)

    counted : length (filter after (new_from p 0 (shapes_of p s.current.order))) < length (all_new p s)
    counted =
        let less = fewer (is_new s) after (back_of p s) w stricter e gone in
        let was = ap (λ ws. length (filter (is_new s) ws)) (in_two p s) ∙ behind_front (is_new s) (front_of p s) (back_of p s) (front_old p s) in
        let is = ap (λ ws. length (filter after ws)) (in_two p s)
        ∙ behind_front after (front_of p s) (back_of p s) (all_implied (λ x. is_new s x ≡ false) (λ x. after x ≡ false) (front_of p s) stricter (front_old p s)) in
        omega (arith, less, was, is)
