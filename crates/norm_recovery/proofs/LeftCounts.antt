-- What is left counts at most what may need repair, if it is nothing every member has everything, and no closing raises it.
use Rattle.std.proofs.Common.{◌≡◌, zero, suc, ◌≤◌, cond, List, [], ◌∷◌, length, filter, Bool, true, false, not, refl, sym, ap, ◌∙◌, arith}
use Rattle.std.specs.Prelude.{Contains, ◌&&◌, ◌||◌}
use Rattle.std.specs.List.{list_all}
use Rattle.norm_base.specs.Settings.{Settings}
use Rattle.norm_order.specs.Sets.{is_member}
use Rattle.norm_receive_rules.specs.ReceiverState.{ReceiverState}
use Rattle.norm_send_rules.specs.Wants.{want_before}
use Rattle.norm_send_rules.specs.Watermarks.{has_member}
use Rattle.norm_send_rules.specs.declared.want.Want.{Want}
use Rattle.norm_safety.specs.World.{World}
use Rattle.norm_safety.proofs.EntryLemmas.{clash}
use Rattle.norm_recovery.specs.Left.{held_for, is_had, has, will_have, all_will_have, in_window, left, LeftTells}
use Rattle.norm_recovery.proofs.LeftFalls.{closing_lowers}
use Rattle.norm_recovery.proofs.LeftStays.{had_stays}

filter_few : {X : Type 0} (test : X → Bool) (xs : List X) → length (filter test xs) ≤ length xs
filter_few test [] = omega arith
filter_few {X} test (x ∷ xs) = go (test x) (filter_few test xs)
  where
    go : (b : Bool) → length (filter test xs) ≤ length xs → length (cond b (x ∷ filter test xs) (filter test xs)) ≤ length (x ∷ xs)
    go true le = omega (arith, le)
    go false le = omega (arith, le)

-- if a filter leaves nothing, nothing passes
none_passes : {X : Type 0} (test : X → Bool) (xs : List X) (x : X) → length (filter test xs) ≡ 0 → Contains xs x → test x ≡ false
none_passes test [] x none (k, lt, e) = absurd (omega (arith, lt))
none_passes {X} test (y ∷ xs) x none (zero, lt, e) = ap test (sym e) ∙ go (test y) none
  where
    go : (b : Bool) → length (cond b (y ∷ filter test xs) (filter test xs)) ≡ 0 → b ≡ false
    go true e = absurd (omega (arith, e))
    go false e = refl
none_passes {X} test (y ∷ xs) x none (suc k, lt, e) = none_passes test xs x (go (test y) none) (k, omega (arith, lt), e)
  where
    go : (b : Bool) → length (cond b (y ∷ filter test xs) (filter test xs)) ≡ 0 → length (filter test xs) ≡ 0
    go true e = absurd (omega (arith, e))
    go false e = e

-- each passes, so one of them does
each_passes : {X : Type 0} (test : X → Bool) (xs : List X) (x : X) → list_all test xs ≡ true → Contains xs x → test x ≡ true
each_passes test [] x all (k, lt, e) = absurd (omega (arith, lt))
each_passes test (y ∷ xs) x all (zero, lt, e) = ap test (sym e) ∙ go (test y) (list_all test xs) all
  where
    go : (a b : Bool) → (a && b) ≡ true → a ≡ true
    go true b e = refl
    go false b e = absurd (clash e)
each_passes test (y ∷ xs) x all (suc k, lt, e) = each_passes test xs x (go (test y) (list_all test xs) all) (k, omega (arith, lt), e)
  where
    go : (a b : Bool) → (a && b) ≡ true → b ≡ true
    go true b e = e
    go false b e = absurd (clash e)

not_member : (y : Want) → is_member want_before y [] ≡ false
unfolding is_member
not_member y = refl

has_all : (p : Settings) (w : World) → w.sender.wants ≡ [] → left p w ≡ 0 → (r : ReceiverState) → Contains w.receivers r → has_member r.node w.sender ≡ true
    → (y : Want) → Contains (in_window p w.sender) y → has p w.sender r y ≡ true
has_all p w nothing none r there member y within =
    let test = none_passes (λ (x : Want). not (is_member want_before x w.sender.wants) && not (all_will_have p w x)) (in_window p w.sender) y none within in
    let out : is_member want_before y w.sender.wants ≡ false = ap (is_member want_before y) nothing ∙ not_member y in
    let all : all_will_have p w y ≡ true = by (is_member want_before y w.sender.wants) (all_will_have p w y) out test in
    let own = each_passes (λ (x : ReceiverState). not (has_member x.node w.sender) || will_have p w.sender x y) w.receivers r all there in
    ap (λ (ws : List Want). is_had ws p w.sender (held_for w.sender r) y) (sym nothing) ∙ pick (has_member r.node w.sender) (will_have p w.sender r y) member own
  where
    by : (a b : Bool) → a ≡ false → (not a && not b) ≡ false → b ≡ true
    by true b out e = absurd (clash (sym out))
    by false true out e = refl
    by false false out e = absurd (clash (sym e))

    pick : (a b : Bool) → a ≡ true → (not a || b) ≡ true → b ≡ true
    pick true b is e = e
    pick false b is e = absurd (clash is)

pub left_tells : LeftTells
left_tells = record {
  most = λ p w. filter_few (λ (y : Want). not (is_member want_before y w.sender.wants) && not (all_will_have p w y)) (in_window p w.sender);
  none = has_all;
  stays = had_stays;
  closes = closing_lowers;
}
