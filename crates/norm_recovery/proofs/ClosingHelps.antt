-- If every member has everything that is wanted, the closing of a round that asks for what a member lacks helps.
use Rattle.std.proofs.Common.{◌≡◌, ℕ, suc, ◌+◌, ◌<◌, List, [], ◌∷◌, length, map, filter, cond, Bool, true, false, refl, sym, ap, ◌∙◌, subst, arith, ◌⊎◌, inl, inr, flat_map}
use Rattle.std.specs.Prelude.{Contains, ◌&&◌, ◌||◌, not, nat_lt}
use Rattle.std.specs.List.{AllByRecursion, range_with_len}
use Rattle.std.proofs.lemmas.Bool.Decides.{Decides-eqb, Decides-ltb}
use Rattle.norm_base.specs.Settings.{Settings, InRange}
use Rattle.fec_plan.specs.Points.{point_of, position, same_point}
use Rattle.fec_plan.specs.declared.position.Position.{Position}
use Rattle.fec_plan.proofs.PositionLemmas.{positions_same}
use Rattle.norm_ext.specs.Asking.{Count}
use Rattle.norm_order.specs.Sets.{is_member}
use Rattle.norm_order.specs.Shapes.{Shape, shapes_of, at_index, symbols_of, encoded_in, closed_blocks, is_encoded, has_info}
use Rattle.norm_send_rules.specs.Asking.{wants_of, counts_of}
use Rattle.norm_send_rules.specs.Closing.{counted, asked_in, wants_after}
use Rattle.norm_send_rules.specs.InWindow.{stands_behind, current_shapes}
use Rattle.norm_send_rules.specs.Laws.{is_of_order}
use Rattle.norm_send_rules.specs.Repairable.{encoded_of, encoded_from}
use Rattle.norm_send_rules.specs.SenderState.{SenderState, Asked, Round}
use Rattle.norm_send_rules.specs.Wants.{want_before, want_index}
use Rattle.norm_send_rules.specs.declared.want.Want.{Want}
use Rattle.norm_send_rules.specs.declared.want.Want.TheVariants.{Info, Symbol}
use Rattle.norm_send_rules.proofs.AskingLemmas.{asked_in_order}
use Rattle.norm_send_rules.proofs.ShapeLemmas.{blocks_of, shapes_parity}
use Rattle.norm_safety.specs.Events.{Event}
use Rattle.norm_safety.specs.Jobs.{AreEvents}
use Rattle.norm_safety.specs.Lawful.{Lawful}
use Rattle.norm_safety.specs.World.{World}
use Rattle.norm_safety.specs.WorldStep.{run}
use Rattle.norm_safety.proofs.EntryLemmas.{clash}
use Rattle.norm_safety.proofs.WorldHolds.{all_later}
use Rattle.norm_recovery.specs.Asking.{same_want, names, counts, asks, all_have, have_wanted, with_closed, Helps, ClosingsHelp}
use Rattle.norm_recovery.specs.Left.{all_will_have, in_window, left}
use Rattle.norm_recovery.proofs.ClosingFresh.{nobody_holds}
use Rattle.norm_recovery.proofs.ClosingHad.{or_true, Lack, lack_of, unwanted, will_lack}
use Rattle.norm_recovery.proofs.ClosingLists.{In, in_left, in_either, of_map, in_flat, of_flat, in_kept, of_kept, in_all, in_contained, of_any, of_not_all, of_all, of_range, fewer_pass, of_members, member_with, grows_with}
use Rattle.norm_recovery.proofs.ClosingRepairs.{IsIn, Sought, shape_there, in_round}
use Rattle.norm_recovery.proofs.LeftFalls.{is_left, was_left}
use Rattle.norm_recovery.proofs.RunsOutWindow.{is_of_object, encoded_get, parity_at}

-- ---- what the window has

-- an info or an encoded symbol of the object so many behind the first
abbrev IsFrom : ℕ → List Shape → Want → Type 0
IsFrom index shapes y = (behind : ℕ) × (want_index y ≡ index + behind) × (is_of_object shapes behind y ≡ true)

of_object : (index : ℕ) (s : Shape) (shapes : List Shape) (y : Want) → In y (encoded_of index s) → IsFrom index (s ∷ shapes) y
of_object index s shapes y h = go (in_either y infos symbols h)
  where
    infos : List Want
    infos = cond s.info (Info index ∷ []) []

    positions : List Position
    positions = flat_map (λ block. symbols_of index (encoded_in s block) block) (range_with_len 0 (closed_blocks s))

    symbols : List Want
    symbols = map Symbol positions

    F : Want → Type 0
    F = IsFrom index (s ∷ shapes)

    info : (b : Bool) → s.info ≡ b → In y (cond b (Info index ∷ []) []) → F y
    info true is (inl same) = subst F (sym same) (0, omega arith, is)
    info true is (inr none) = absurd none
    info false is none = absurd none

    go : In y infos ⊎ In y symbols → F y
    go (inl there) = info s.info refl there
    go (inr there) =
        let at = of_map Symbol y positions there in
        let row = of_flat (λ block. symbols_of index (encoded_in s block) block) at.0 (range_with_len 0 (closed_blocks s)) at.1 in
        let own = of_map (λ symbol. position index row.0 symbol) at.0 (range_with_len 0 (encoded_in s row.0)) row.2 in
        let lt = (of_range own.0 0 (encoded_in s row.0) own.1).1 in
        subst F (sym (at.2 ∙ ap Symbol own.2)) (0, omega arith, (Decides-ltb own.0 (encoded_in s row.0)).1 (omega (arith, lt)))

of_encoded : (index : ℕ) (shapes : List Shape) (y : Want) → In y (encoded_from index shapes) → IsFrom index shapes y
unfolding encoded_from
of_encoded index [] y h = absurd h
of_encoded index (s ∷ shapes) y h = go y (in_either y (encoded_of index s) (encoded_from (index + 1) shapes) h) (of_encoded (index + 1) shapes y)
  where
    further : (y : Want) → IsFrom (index + 1) shapes y → IsFrom index (s ∷ shapes) y
    further (Info i) (behind, same, is) = (suc behind, omega (arith, same), is)
    further (Symbol at) (behind, same, is) = (suc behind, omega (arith, same), is)

    go : (y : Want) → In y (encoded_of index s) ⊎ In y (encoded_from (index + 1) shapes) → (In y (encoded_from (index + 1) shapes) → IsFrom (index + 1) shapes y)
        → IsFrom index (s ∷ shapes) y
    go y (inl own) more = of_object index s shapes y own
    go y (inr there) more = further y (more there)

-- what the window has is of the order, and stands behind the drop point
pub of_window : (p : Settings) (s : SenderState) (y : Want) → In y (in_window p s)
    → (is_of_order (current_shapes p s) y ≡ true) × (stands_behind s.current.drop y ≡ true)
of_window p s y h =
    let kept = of_kept (stands_behind s.current.drop) y (encoded_from 0 (current_shapes p s)) h in
    (by y (of_encoded 0 (current_shapes p s) y kept.0), kept.1)
  where
    by : (y : Want) → IsFrom 0 (current_shapes p s) y → is_of_order (current_shapes p s) y ≡ true
    by (Info i) (behind, same, is) = ap (λ (n : ℕ). has_info (current_shapes p s) n) (let z : i ≡ behind = omega (arith, same) in z) ∙ is
    by (Symbol at) (behind, same, is) =
        ap (λ (n : ℕ). at_index (current_shapes p s) n false (λ x. nat_lt at.symbol (encoded_in x at.block))) (let z : at.index ≡ behind = omega (arith, same) in z) ∙ is

-- and whatever is and stands so it has
pub within : (p : Settings) (s : SenderState) → InRange p → (y : Want) → is_of_order (current_shapes p s) y ≡ true → stands_behind s.current.drop y ≡ true
    → In y (in_window p s)
within p s range y of behind =
    in_kept (stands_behind s.current.drop) y all behind
    (encoded_get (λ x. In x all) p range s.current.order 0 (want_index y) y (omega arith) (by y of) (each all))
  where
    all : List Want
    all = encoded_from 0 (current_shapes p s)

    by : (y : Want) → is_of_order (current_shapes p s) y ≡ true → is_of_object (shapes_of p s.current.order) (want_index y) y ≡ true
    by (Info i) e = e
    by (Symbol at) e = e

    each : (ws : List Want) → AllByRecursion (λ x. In x ws) ws
    each [] = tt
    each (x ∷ ws) = (inl refl, all_later (λ z. In z ws) (λ z. In z (x ∷ ws)) ws (λ z h. inr h) (each ws))

-- ---- a closing that wants what a member lacks

helped : (p : Settings) (round : Round) (w : World) (y : Want) → have_wanted p w ≡ true → Lack p w y → In y (in_window p w.sender)
    → In y (asked_in p w.sender round.asked) → Helps p round w
helped p round w y have l there asked =
    record { less = less; adds = adds; anew = ap (λ (b : Bool). elim b as (λ _. ℕ) [ true ↦ 0 | false ↦ w.sender.flushes ]) (is_lt adds) }
  where
    s : SenderState
    s = w.sender

    more : List Want
    more = filter (stands_behind s.current.drop) (asked_in p s round.asked)

    now : is_member want_before y (wants_after p s round.asked) ≡ true
    now = member_with y more s.wants (in_kept (stands_behind s.current.drop) y (asked_in p s round.asked) (of_window p s y there).1 asked)

    was : is_member want_before y s.wants ≡ false
    was = unwanted p w y have l

    adds : length s.wants < length (wants_after p s round.asked)
    adds = grows_with y more s.wants now was

    is_lt : {a b : ℕ} → a < b → nat_lt a b ≡ true
    is_lt {a} {b} lt = (Decides-ltb a b).1 lt

    both : (a b : Bool) → a ≡ false → b ≡ false → (not a && not b) ≡ true
    both true b e f = absurd (clash (sym e))
    both false true e f = absurd (clash (sym f))
    both false false e f = refl

    less : left p (with_closed p round w) < left p w
    less =
        fewer_pass (is_left p (with_closed p round w)) (is_left p w) y (in_window p s) (was_left p round w) there
        (ap (λ (b : Bool). not b && not (all_will_have p (with_closed p round w) y)) now)
        (both (is_member want_before y s.wants) (all_will_have p w y) was (will_lack p w y have l))

-- ---- a round that asks for what a member lacks

same_is : (y z : Want) → same_want y z ≡ true → y ≡ z
same_is (Info i) (Info j) e = ap Info ((Decides-eqb i j).0 e)
same_is (Info i) (Symbol at) e = absurd (clash e)
same_is (Symbol at) (Info j) e = absurd (clash e)
same_is (Symbol at) (Symbol other) e = ap Symbol (positions_same at other e)

by_name : (p : Settings) (round : Round) (w : World) (y : Want) (a : Asked) → have_wanted p w ≡ true → Lack p w y → In y (in_window p w.sender) → In a round.asked
    → names (current_shapes p w.sender) y a ≡ true → Helps p round w
by_name p round w y a have l there one e =
    let shapes : List Shape = current_shapes p w.sender in
    let found = of_any (same_want y) (wants_of shapes a) e in
    let I : Want → Type 0 = λ z. In z (wants_of shapes a) in
    helped p round w y have l there
    (in_left y (flat_map (wants_of shapes) round.asked)
    (flat_map (λ (c : Count). counted w.sender shapes (flat_map (counts_of shapes) round.asked) c.of) (flat_map (counts_of shapes) round.asked))
    (in_flat (wants_of shapes) a y round.asked one (subst I (sym (same_is y found.0 found.2)) found.1)))

by_count : (p : Settings) → InRange p → (events : List Event) → Lawful p events → AreEvents events → (round : Round) (y : Want) (a : Asked)
    → have_wanted p (run p events) ≡ true → Lack p (run p events) y → In y (in_window p (run p events).sender) → In a round.asked
    → counts (current_shapes p (run p events).sender) y a ≡ true → Helps p round (run p events)
by_count p range events lawful are round (Info index) a have l there one e = absurd (clash e)
by_count p range events lawful are round (Symbol at) a have l there one e =
    helped p round w (Symbol (position at.index at.block z.symbol)) have z.lacked
    (within p w.sender range (Symbol (position at.index at.block z.symbol)) z.encoded window.1) z.asked
  where
    w : World
    w = run p events

    shapes : List Shape
    shapes = current_shapes p w.sender

    window : (is_encoded shapes at ≡ true) × (stands_behind w.sender.current.drop (Symbol at) ≡ true)
    window = of_window p w.sender (Symbol at) there

    both : (x y : Bool) → (x && y) ≡ true → (x ≡ true) × (y ≡ true)
    both true y f = (refl, f)
    both false y f = absurd (clash f)

    found : (c : Count) × In c (counts_of shapes a) × ((same_point c.of (point_of at) && nat_lt 0 c.lacking) ≡ true)
    found = of_any (λ (c : Count). same_point c.of (point_of at) && nat_lt 0 c.lacking) (counts_of shapes a) e

    shape : (x : Shape) × IsIn shapes at x
    shape = shape_there shapes at window.0

    z : Sought p w at (asked_in p w.sender round.asked)
    z =
        let parts = both (same_point (found.0).of (point_of at)) (nat_lt 0 (found.0).lacking) found.2 in
        in_round p w at shape.0 (parity_at p (blocks_of p range) w.sender.current.order at.index shape.0 (shape.1).found) shape.1 l
        (nobody_holds p range events lawful are) round.asked a found.0 one found.1 parts.0 ((Decides-ltb 0 (found.0).lacking).0 parts.1)

helps : (p : Settings) → InRange p → (events : List Event) → Lawful p events → AreEvents events → have_wanted p (run p events) ≡ true → (round : Round)
    → (y : Want) → Contains (in_window p (run p events).sender) y → all_have p (run p events) y ≡ false → asks p (run p events).sender round y ≡ true
    → Helps p round (run p events)
helps p range events lawful are have round y contained lacks asked = go (or_true (names shapes y a) (counts shapes y a) one.2)
  where
    w : World
    w = run p events

    shapes : List Shape
    shapes = current_shapes p w.sender

    one : (a : Asked) × In a round.asked × ((names shapes y a || counts shapes y a) ≡ true)
    one = of_any (λ (a : Asked). names shapes y a || counts shapes y a) round.asked asked

    a : Asked
    a = one.0

    there : In y (in_window p w.sender)
    there = in_contained y (in_window p w.sender) contained

    l : Lack p w y
    l = lack_of p w y lacks

    go : (names shapes y a ≡ true) ⊎ (counts shapes y a ≡ true) → Helps p round (run p events)
    go (inl named) = by_name p round w y a have l there one.1 named
    go (inr counted) = by_count p range events lawful are round y a have l there one.1 counted

-- ---- a closing that leaves no less

keeps : (p : Settings) → InRange p → (w : World) → have_wanted p w ≡ true → (round : Round) → left p (with_closed p round w) ≡ left p w
    → have_wanted p (with_closed p round w) ≡ true
keeps p range w have round same = go (have_wanted p (with_closed p round w)) refl
  where
    s : SenderState
    s = w.sender

    more : List Want
    more = filter (stands_behind s.current.drop) (asked_in p s round.asked)

    by : (y : Want) → all_have p w y ≡ false → In y more ⊎ In y s.wants → ⊥
    by y lacks (inr old) = clash (sym lacks ∙ of_all (all_have p w) y s.wants have old)
    by y lacks (inl new) =
        let kept = of_kept (stands_behind s.current.drop) y (asked_in p s round.asked) new in
        let of = in_all (λ z. is_of_order (current_shapes p s) z ≡ true) y (asked_in p s round.asked)
        (asked_in_order p s round.asked (shapes_parity p (blocks_of p range) s.current.order)) kept.0 in
        let less = (helped p round w y have (lack_of p w y lacks) (within p s range y of kept.1) kept.0).less in
        absurd (omega (arith, less, same))

    go : (b : Bool) → have_wanted p (with_closed p round w) ≡ b → b ≡ true
    go true e = refl
    go false e =
        let found = of_not_all (all_have p (with_closed p round w)) (wants_after p s round.asked) e in
        absurd (by found.0 found.2 (of_members found.0 more s.wants found.1))

pub closings_help : ClosingsHelp
closings_help = record { helps = helps; keeps = keeps }
