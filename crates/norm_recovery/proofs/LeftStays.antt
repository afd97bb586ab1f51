-- What a receiver has of the window it goes on to have.
use Rattle.std.proofs.Common.{◌≡◌, ℕ, zero, suc, ◌<◌, ◌≤◌, cond, List, [], ◌∷◌, length, filter, Bool, true, false, Option, None, Some, refl, sym, ap, ◌∙◌, arith, ◌⊎◌, inl, inr}
use Rattle.std.specs.Prelude.{◌||◌, slice_get, nat_le, is_some}
use Rattle.std.proofs.lemmas.Bool.Decides.{leb_tells}
use Rattle.norm_base.specs.Settings.{Settings}
use Rattle.fec_plan.specs.Partition.{source_symbols}
use Rattle.fec_plan.specs.declared.position.Position.{Position}
use Rattle.fec_plan.proofs.PositionLemmas.{reached}
use Rattle.norm_order.specs.Sets.{is_member}
use Rattle.norm_order.specs.Shapes.{Shape, symbols_of, encoded_in}
use Rattle.norm_receive_rules.specs.Holding.{Holding, Plan, holding_nothing}
use Rattle.norm_receive_rules.specs.Leaving.{is_in}
use Rattle.norm_receive_rules.specs.Plans.{is_over, holds, info_of}
use Rattle.norm_receive_rules.specs.ReceiverState.{ReceiverState}
use Rattle.norm_receive_rules.specs.ReceiverStep.{ReceiverEvent, receiver_step}
use Rattle.norm_send_rules.specs.InWindow.{current_shapes}
use Rattle.norm_send_rules.specs.SenderState.{SenderState}
use Rattle.norm_send_rules.specs.Wants.{want_before}
use Rattle.norm_send_rules.specs.declared.want.Want.{Want}
use Rattle.norm_send_rules.specs.declared.want.Want.TheVariants.{Info, Symbol}
use Rattle.norm_safety.proofs.EntryLemmas.{clash}
use Rattle.norm_safety.proofs.ReceiverMoves.{in_instance_is}
use Rattle.norm_laws.proofs.HeldStays.{step_lasts}
use Rattle.norm_laws.proofs.HeldWords.{HoldsMore, over_more}
use Rattle.norm_recovery.specs.Left.{held_for, is_there, is_complete, is_had}

pub either : (a b c d : Bool) → (a ≡ true → c ≡ true) → (b ≡ true → d ≡ true) → (a || b) ≡ true → (c || d) ≡ true
either true b c d f g e = ap (λ (x : Bool). x || d) (f refl)
either false b true d f g e = refl
either false b false d f g e = g e

-- whatever passes one test passes another, so no fewer do
pub more_pass : {X : Type 0} (test other : X → Bool) (xs : List X) → ((x : X) → test x ≡ true → other x ≡ true) → length (filter test xs) ≤ length (filter other xs)
more_pass test other [] implies = omega arith
more_pass {X} test other (x ∷ xs) implies = go (test x) (other x) (implies x) (more_pass test other xs implies)
  where
    go : (a b : Bool) → (a ≡ true → b ≡ true) → length (filter test xs) ≤ length (filter other xs)
        → length (cond a (x ∷ filter test xs) (filter test xs)) ≤ length (cond b (x ∷ filter other xs) (filter other xs))
    go true true f le = omega (arith, le)
    go true false f le = absurd (clash (f refl))
    go false true f le = omega (arith, le)
    go false false f le = le

pub at_most : (k m n : ℕ) → m ≤ n → nat_le k m ≡ true → nat_le k n ≡ true
at_most k m n le e = go (leb_tells k m) (leb_tells k n)
  where
    go : ((nat_le k m ≡ true) × (k ≤ m)) ⊎ ((nat_le k m ≡ false) × (m < k)) → ((nat_le k n ≡ true) × (k ≤ n)) ⊎ ((nat_le k n ≡ false) × (n < k))
        → nat_le k n ≡ true
    go (inl few) (inl most) = most.0
    go (inl few) (inr more) = absurd (let a = few.1 in let b = more.1 in omega (arith, le, a, b))
    go (inr more) other = absurd (clash (sym more.0 ∙ e))

there_more : (wants : List Want) (g h : Holding) (at : Position) → HoldsMore g h → is_there wants g at ≡ true → is_there wants h at ≡ true
there_more wants g h at more e =
    either (holds g at) (is_member want_before (Symbol at) wants) (holds h at) (is_member want_before (Symbol at) wants) (more.held at) (λ e. e) e

complete_more : (wants : List Want) (g h : Holding) (index block : ℕ) (found : Option Shape) → HoldsMore g h → is_complete wants g index block found ≡ true
    → is_complete wants h index block found ≡ true
complete_more wants g h index block None more e = absurd (clash e)
complete_more wants g h index block (Some shape) more e =
    let all : List Position = symbols_of index (encoded_in shape block) block in
    at_most (source_symbols shape.cut block) (length (filter (is_there wants g) all)) (length (filter (is_there wants h) all))
    (more_pass (is_there wants g) (is_there wants h) all (λ at is. there_more wants g h at more is)) e

-- what is had is had of more
had_more : (wants : List Want) (p : Settings) (s : SenderState) (g h : Holding) (y : Want) → HoldsMore g h → is_had wants p s g y ≡ true
    → is_had wants p s h y ≡ true
had_more wants p s g h (Info index) more e =
    either (is_over g index || is_some (info_of g index)) (is_member want_before (Info index) wants)
    (is_over h index || is_some (info_of h index)) (is_member want_before (Info index) wants)
    (either (is_over g index) (is_some (info_of g index)) (is_over h index) (is_some (info_of h index)) (over_more g h index more) (more.infos index))
    (λ e. e) e
had_more wants p s g h (Symbol at) more e =
    let found : Option Shape = slice_get (current_shapes p s) at.index in
    either (is_over g at.index || is_there wants g at) (is_complete wants g at.index at.block found)
    (is_over h at.index || is_there wants h at) (is_complete wants h at.index at.block found)
    (either (is_over g at.index) (is_there wants g at) (is_over h at.index) (is_there wants h at) (over_more g h at.index more) (there_more wants g h at more))
    (complete_more wants g h at.index at.block found more) e

-- everything holds more than nothing
nothing_less : (h : Holding) → HoldsMore holding_nothing h
nothing_less h = record {
  point = reached h.point holding_nothing.point (at_first h.point.index h.point.block h.point.symbol);
  plans = λ index plan e. absurd (no_plan plan e);
  held = λ at e. absurd (clash e);
  few = λ index block. omega arith;
  infos = λ index e. absurd (clash e);
}
  where
    no_plan : (plan : Plan) → None ≡ Some plan → ⊥
    no_plan plan e = cc

    at_first : (i b n : ℕ) → (0 < i) ⊎ ((0 ≡ i) × ((0 < b) ⊎ ((0 ≡ b) × (0 ≤ n))))
    at_first (suc i) b n = inl (omega arith)
    at_first zero (suc b) n = inr (refl, inl (omega arith))
    at_first zero zero n = inr (refl, inr (refl, omega arith))

pub had_stays : (wants : List Want) (p : Settings) (s : SenderState) (r : ReceiverState) (event : ReceiverEvent) (y : Want)
    → (is_in r s.current.id ≡ true → is_in (receiver_step p r event).0 s.current.id ≡ true) → is_had wants p s (held_for s r) y ≡ true
    → is_had wants p s (held_for s (receiver_step p r event).0) y ≡ true
had_stays wants p s r event y inside = go (is_in r s.current.id) refl (is_in (receiver_step p r event).0 s.current.id) refl
  where
    t : ReceiverState
    t = (receiver_step p r event).0

    held_by : Bool → Holding → Holding
    held_by b h = elim b [ true ↦ h | false ↦ holding_nothing ]

    go : (a : Bool) → is_in r s.current.id ≡ a → (b : Bool) → is_in t s.current.id ≡ b → is_had wants p s (held_by a r.holding) y ≡ true
        → is_had wants p s (held_by b t.holding) y ≡ true
    go true is true at e =
        step_lasts (λ (h : Holding). is_had wants p s h y ≡ true) (λ g h more had. had_more wants p s g h y more had) s.current.id p r event
        (in_instance_is r s.current.id is) e (in_instance_is t s.current.id at)
    go true is false at e = absurd (clash (sym at ∙ inside is))
    go false is true at e = had_more wants p s holding_nothing t.holding y (nothing_less t.holding) e
    go false is false at e = e
