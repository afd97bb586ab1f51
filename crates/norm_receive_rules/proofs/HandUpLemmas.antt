-- Hand-ups go on from the hand-up point.
use Rattle.std.proofs.Common.{◌≡◌, ℕ, zero, suc, ◌+◌, ◌⊎◌, inl, inr, List, [], ◌∷◌, ◌++◌, length, Bool, true, false, cond, Option, None, Some, refl, sym, ap, subst, ◌∙◌, arith, append_assoc, append-nil}
use Rattle.std.specs.Prelude.{find, nat_lt, ◌==◌}
use Rattle.std.proofs.lemmas.Bool.Decides.{Decides-eqb, Decides-not}
use Rattle.norm_base.specs.Settings.{Settings}
use Rattle.fec_plan.specs.Partition.{source_symbols}
use Rattle.fec_plan.specs.Points.{position, position_before, reaches}
use Rattle.fec_plan.specs.declared.position.Position.{Position}
use Rattle.norm_order.specs.declared.up.Up.{Up}
use Rattle.norm_order.specs.declared.up.Up.TheVariants as up
use Rattle.fec_plan.proofs.PositionLemmas.{Before, before_decides, before_both, not_both}
use Rattle.norm_receive_rules.specs.Holding.{Holding, Plan}
use Rattle.norm_receive_rules.specs.Plans.{cut_of_plan, says_stream, plan_of, has_its_info}
use Rattle.norm_receive_rules.specs.HandingUp.{after_object, handed, is_whole, kind_of, told_info, object_octets, hands_object, segment_length, segment_up, after_segment, open_before, next_segment, hands_segment, hands_next, hands_one, hands_most, handed_up}
use Rattle.norm_receive_rules.specs.Laws.{HasMore, HandUpLaws}

-- a hand-up of these, up to there
abbrev Hands : Holding → Holding → Type 0
Hands s after = (HasMore s after) × (position_before s.point after.point ≡ true)

never : (after : Holding) → None ≡ Some after → ⊥
never after e = cc

same_state : (x y : Holding) → Some x ≡ Some y → x ≡ y
same_state x y e = cc

hands : (ups : List Up) (point : Position) (s after : Holding) → position_before s.point point ≡ true → Some (handed ups point s) ≡ Some after
    → Hands s after
hands ups point s after on e =
    let same = same_state (handed ups point s) after e in (
      (ups, ap (λ (state : Holding). state.ups) (sym same)),
      ap (λ (state : Holding). position_before s.point state.point) (sym same) ∙ on,
    )

pub to_next_object : (at : Position) (index : ℕ) → index ≡ at.index → position_before at (after_object index) ≡ true
to_next_object at index same = (before_decides at (after_object index)).1 (inl (inl (omega arith)))

when_whole : (whole : Bool) (ups : List Up) (point : Position) (s after : Holding) → position_before s.point point ≡ true
    → elim whole [ true ↦ Some (handed ups point s) | false ↦ None ] ≡ Some after → Hands s after
when_whole true ups point s after on e = hands ups point s after on e
when_whole false ups point s after on e = absurd (never after e)

-- the place behind a segment, by its length and by whether its block goes on
abbrev behind : ℕ → Bool → Position → Position
behind long goes_on at = elim long [
  | zero ↦ after_object at.index
  | suc n ↦ elim goes_on [ true ↦ position at.index at.block (at.symbol + 1) | false ↦ position at.index (at.block + 1) 0 ]
]

to_behind : (long : ℕ) (goes_on : Bool) (at : Position) → position_before at (behind long goes_on at) ≡ true
to_behind zero goes_on at = to_next_object at at.index refl
to_behind (suc n) true at = (before_decides at (position at.index at.block (at.symbol + 1))).1 (inr ((refl, refl), omega arith))
to_behind (suc n) false at = (before_decides at (position at.index (at.block + 1) 0)).1 (inl (inr (refl, omega arith)))

when_there : (p : Settings) (plan : Plan) (found : Option (List ℕ)) (s after : Holding)
    → elim found [ Some symbol ↦ Some (hands_segment p s plan symbol) | None ↦ None ] ≡ Some after → Hands s after
when_there p plan None s after e = absurd (never after e)
when_there p plan (Some symbol) s after e =
    hands (open_before s.point ++ segment_up p s.point.index symbol ∷ []) (after_segment p plan s.point symbol) s after
    (to_behind (segment_length p symbol) (nat_lt (s.point.symbol + 1) (source_symbols (cut_of_plan plan) s.point.block)) s.point) e

when_known : (p : Settings) (plan : Plan) (known : Bool) (s after : Holding)
    → elim known [ true ↦ elim (next_segment s plan) [ Some symbol ↦ Some (hands_segment p s plan symbol) | None ↦ None ] | false ↦ None ] ≡ Some after
    → Hands s after
when_known p plan true s after e = when_there p plan (next_segment s plan) s after e
when_known p plan false s after e = absurd (never after e)

-- what a plan hands up, by whether it says that it is a stream
when_planned : (p : Settings) (plan : Plan) (stream : Bool) (s after : Holding) → plan.index ≡ s.point.index
    → elim stream [ true ↦ hands_next p s plan | false ↦ hands_object s plan ] ≡ Some after → Hands s after
when_planned p plan true s after same e = when_known p plan (has_its_info s plan) s after e
when_planned p plan false s after same e =
    when_whole (is_whole s plan) (up.Object plan.index (kind_of plan.flags) (told_info s plan) (object_octets s plan) ∷ []) (after_object plan.index)
    s after (to_next_object s.point plan.index same) e

same_plan : (x y : Plan) → Some x ≡ Some y → x ≡ y
same_plan x y e = cc

no_plan : (plan : Plan) → None ≡ Some plan → ⊥
no_plan plan e = cc

pub index_of_found : (index : ℕ) (plans : List Plan) (plan : Plan) → find (λ (x : Plan). x.index == index) plans ≡ Some plan → plan.index ≡ index
index_of_found index [] plan e = absurd (no_plan plan e)
index_of_found index (x ∷ plans) plan e = go (x.index == index) refl e (λ found. index_of_found index plans plan found)
  where
    go : (b : Bool) → (x.index == index) ≡ b → cond b (Some x) (find (λ (y : Plan). y.index == index) plans) ≡ Some plan
        → (find (λ (y : Plan). y.index == index) plans ≡ Some plan → plan.index ≡ index) → plan.index ≡ index
    go true is found more = ap (λ (y : Plan). y.index) (sym (same_plan x plan found)) ∙ (Decides-eqb x.index index).0 is
    go false is found more = more found

when_found : (p : Settings) (found : Option Plan) (s after : Holding) → ((plan : Plan) → found ≡ Some plan → plan.index ≡ s.point.index)
    → elim found [ Some plan ↦ elim (says_stream plan.flags) [ true ↦ hands_next p s plan | false ↦ hands_object s plan ] | None ↦ None ] ≡ Some after
    → Hands s after
when_found p None s after index e = absurd (never after e)
when_found p (Some plan) s after index e = when_planned p plan (says_stream plan.flags) s after (index plan refl) e

one : (p : Settings) (s after : Holding) → hands_one p s ≡ Some after → Hands s after
one p s after e = when_found p (plan_of s s.point.index) s after (λ plan found. index_of_found s.point.index s.plans plan found) e

-- further hand-ups, and the point where it was or behind
abbrev pub GoesOn : Holding → Holding → Type 0
GoesOn s after = (HasMore s after) × ((s.point ≡ after.point) ⊎ Before s.point after.point)

pub behind_still : (a b c : Position) → Before a b → (b ≡ c) ⊎ Before b c → Before a c
behind_still a b c h (inl same) = subst (λ (d : Position). Before a d) same h
behind_still a b c h (inr k) = before_both a b c h k

then_more : (s middle after : Holding) → Hands s middle → GoesOn middle after → GoesOn s after
then_more s middle after first rest = (
  (first.0.0 ++ rest.0.0, rest.0.1 ∙ ap (λ ups. ups ++ rest.0.0) first.0.1 ∙ append_assoc s.ups first.0.0 rest.0.0),
  inr (behind_still s.point middle.point after.point ((before_decides s.point middle.point).0 first.1) rest.1),
)

pub most : (n : ℕ) (p : Settings) (s : Holding) → GoesOn s (hands_most n p s)
unfolding hands_most
most zero p s = (([], sym (append-nil s.ups)), inl refl)
most (suc n) p s = go (hands_one p s) refl (λ after. most n p after)
  where
    go : (found : Option Holding) → hands_one p s ≡ found → ((after : Holding) → GoesOn after (hands_most n p after))
        → GoesOn s (elim found [ Some after ↦ hands_most n p after | None ↦ s ])
    go (Some after) e more = then_more s after (hands_most n p after) (one p s after e) (more after)
    go None e more = (([], sym (append-nil s.ups)), inl refl)

pub not_back : (a b : Position) → (a ≡ b) ⊎ Before a b → reaches b a ≡ true
not_back a b h = (Decides-not _ (before_decides b a)).1 (not_both a b h)

pub hand_up_laws : HandUpLaws
hand_up_laws = record {
  each_joins = λ p s after e. (one p s after e).0;
  each_moves_on = λ p s after e. (one p s after e).1;
  all_join = λ p s. (most (length s.held) p s).0;
  never_back = λ p s. not_back s.point (handed_up p s).point (most (length s.held) p s).1;
}
