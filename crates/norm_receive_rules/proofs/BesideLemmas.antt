-- Hand-ups and a squelch change nothing beside what is held, and there no plan, symbol or info.
use Rattle.std.proofs.Common.{◌≡◌, ℕ, zero, suc, ◌+◌, ◌-◌, ◌<◌, ◌≤◌, arith, ◌⊎◌, inl, inr, List, [], ◌∷◌, ◌++◌, length, Bool, true, false, Option, None, Some, Result, Ok, refl, sym, ap, subst, ◌∙◌, append_assoc, append-nil}
use Rattle.std.specs.Prelude.{nat_lt, ◌==◌, ◌&&◌, unwrap_or, option_and_then}
use Rattle.std.specs.List.{AllByRecursion}
use Rattle.std.proofs.lemmas.Bool.{cases_lt}
use Rattle.std.proofs.lemmas.Bool.Decides.{Decides-ltb}
use Rattle.norm_base.specs.Settings.{Settings}
use Rattle.fec_plan.specs.Points.{Point, point}
use Rattle.fec_plan.specs.declared.position.Position.{Position}
use Rattle.fec_plan.proofs.PositionLemmas.{Before, before_decides}
use Rattle.norm_ext.specs.Message.{Message, Squelch, SquelchCommand}
use Rattle.norm_ext.specs.ObjectIds.{index_named}
use Rattle.norm_ext.specs.declared.refusal.Refusal.{Refusal}
use Rattle.norm_order.specs.declared.up.Up.{Up}
use Rattle.norm_order.specs.declared.up.Up.TheVariants as up
use Rattle.norm_receive_rules.specs.AllNeeds.{needs_nothing}
use Rattle.norm_receive_rules.specs.BackingOff.{may_back_off, backs_off, may_need}
use Rattle.norm_receive_rules.specs.HandingUp.{after_object, handed, is_whole, kind_of, told_info, object_octets, hands_object, segment_up, after_segment, open_before, next_segment, hands_segment, hands_next, hands_one, hands_most, handed_up}
use Rattle.norm_receive_rules.specs.Holding.{Holding, Plan}
use Rattle.norm_receive_rules.specs.Laws.{HoldsSame, LosesMore, IsTaking, IsHandingUp, IsLosing, IsAlikeBeside, BesideLaws}
use Rattle.norm_receive_rules.specs.Leaving.{is_in, goes_to, enters}
use Rattle.norm_receive_rules.specs.Losing.{loses_one, loses_before, is_cut_off, squelched}
use Rattle.norm_receive_rules.specs.Plans.{says_stream, plan_of, has_its_info}
use Rattle.norm_receive_rules.specs.ReceiverState.{ReceiverState}
use Rattle.norm_receive_rules.specs.Receiving.{squelch_received, learns, takes_in, message_received}
use Rattle.norm_receive_rules.specs.Taking.{up_taken}
use Rattle.norm_receive_rules.proofs.HandUpLemmas.{GoesOn, most, to_next_object, behind_still, not_back, hand_up_laws}

clash : false ≡ true → ⊥
clash e = cc

unchanged : (s : Holding) → HoldsSame s s
unchanged s = record { plans = refl; held = refl; infos = refl }

same_then : (s t u : Holding) → HoldsSame s t → HoldsSame t u → HoldsSame s u
same_then s t u h k = record { plans = k.plans ∙ h.plans; held = k.held ∙ h.held; infos = k.infos ∙ h.infos }

-- ---- handing up

-- handing up changes what waits to be taken and the point
pub record OnlyHands (s t : Holding) : Type 0 where
  pub holds : HoldsSame s t
  pub lost : t.lost ≡ s.lost

hands : (ups : List Up) (point : Position) (s : Holding) → OnlyHands s (handed ups point s)
hands ups point s = record { holds = record { plans = refl; held = refl; infos = refl }; lost = refl }

this_state : (x y : Holding) → Some x ≡ Some y → x ≡ y
this_state x y e = cc

none_is : (x : Holding) → None ≡ Some x → ⊥
none_is x e = cc

pub one_hands : (p : Settings) (s after : Holding) → hands_one p s ≡ Some after → OnlyHands s after
one_hands p s after e = go (plan_of s s.point.index) e
  where
    this : (ups : List Up) (point : Position) → Some (handed ups point s) ≡ Some after → OnlyHands s after
    this ups point f = let P : Holding → Type 0 = λ x. OnlyHands s x in subst P (this_state (handed ups point s) after f) (hands ups point s)

    whole : (plan : Plan) (b : Bool) → elim b as (λ _. Option Holding) [
      | true ↦ Some (handed (up.Object plan.index (kind_of plan.flags) (told_info s plan) (object_octets s plan) ∷ []) (after_object plan.index) s)
      | false ↦ None
    ] ≡ Some after → OnlyHands s after
    whole plan true f = this _ _ f
    whole plan false f = absurd (none_is after f)

    segment : (plan : Plan) (o : Option (List ℕ))
        → elim o as (λ _. Option Holding) [ Some symbol ↦ Some (hands_segment p s plan symbol) | None ↦ None ] ≡ Some after → OnlyHands s after
    segment plan (Some symbol) f =
        this (open_before s.point ++ segment_up p s.point.index symbol ∷ []) (after_segment p plan s.point symbol) f
    segment plan None f = absurd (none_is after f)

    stream : (plan : Plan) (b : Bool) → elim b as (λ _. Option Holding) [
      | true ↦ elim (next_segment s plan) [ Some symbol ↦ Some (hands_segment p s plan symbol) | None ↦ None ]
      | false ↦ None
    ] ≡ Some after → OnlyHands s after
    stream plan true f = segment plan (next_segment s plan) f
    stream plan false f = absurd (none_is after f)

    kinds : (plan : Plan) (b : Bool)
        → elim b as (λ _. Option Holding) [ true ↦ hands_next p s plan | false ↦ hands_object s plan ] ≡ Some after → OnlyHands s after
    kinds plan true f = stream plan (has_its_info s plan) f
    kinds plan false f = whole plan (is_whole s plan) f

    go : (o : Option Plan) → elim o as (λ _. Option Holding) [
      | Some plan ↦ elim (says_stream plan.flags) [ true ↦ hands_next p s plan | false ↦ hands_object s plan ]
      | None ↦ None
    ] ≡ Some after → OnlyHands s after
    go (Some plan) f = kinds plan (says_stream plan.flags) f
    go None f = absurd (none_is after f)

hands_then : (s t u : Holding) → OnlyHands s t → OnlyHands t u → OnlyHands s u
hands_then s t u h k = record { holds = same_then s t u h.holds k.holds; lost = k.lost ∙ h.lost }

most_hands : (n : ℕ) (p : Settings) (s : Holding) → OnlyHands s (hands_most n p s)
unfolding hands_most
most_hands zero p s = record { holds = unchanged s; lost = refl }
most_hands (suc n) p s = go (hands_one p s) refl (λ t. most_hands n p t)
  where
    go : (next : Option Holding) → hands_one p s ≡ next → ((t : Holding) → OnlyHands t (hands_most n p t))
        → OnlyHands s (elim next as (λ _. Holding) [ Some after ↦ hands_most n p after | None ↦ s ])
    go (Some after) e more = hands_then s after (hands_most n p after) (one_hands p s after e) (more after)
    go None e more = record { holds = unchanged s; lost = refl }

pub handing_up : (p : Settings) (s : Holding) → IsHandingUp s (handed_up p s)
handing_up p s = record {
  holds = (most_hands (length s.held) p s).holds;
  lost = (most_hands (length s.held) p s).lost;
  ups = hand_up_laws.all_join p s;
  point = hand_up_laws.never_back p s;
}

-- ---- losing

-- losing changes what was lost too
pub record OnlyLoses (s t : Holding) : Type 0 where
  pub holds : HoldsSame s t
  pub lost : LosesMore s t
  pub goes : GoesOn s t

pub index_on : (a b : Position) → (a ≡ b) ⊎ Before a b → a.index ≤ b.index
index_on a b (inl same) = let e = ap (λ (x : Position). x.index) same in omega arith
index_on a b (inr (inl (inl less))) = omega arith
index_on a b (inr (inl (inr (same, less)))) = omega arith
index_on a b (inr (inr ((same, also), less))) = omega arith

pub all_above : (a b : ℕ) → a ≤ b → (xs : List ℕ) → AllByRecursion (λ x. b ≤ x) xs → AllByRecursion (λ x. a ≤ x) xs
all_above a b le [] h = tt
all_above a b le (x ∷ xs) h = (let z = h.0 in omega arith, all_above a b le xs h.1)

pub all_of_both : (a : ℕ) (xs ys : List ℕ) → AllByRecursion (λ x. a ≤ x) xs → AllByRecursion (λ x. a ≤ x) ys → AllByRecursion (λ x. a ≤ x) (xs ++ ys)
all_of_both a [] ys h k = k
all_of_both a (x ∷ xs) ys h k = (h.0, all_of_both a xs ys h.1 k)

joined : {X : Type 0} (xs ys zs a b : List X) → ys ≡ xs ++ a → zs ≡ ys ++ b → zs ≡ xs ++ (a ++ b)
joined xs ys zs a b e f = f ∙ ap (λ l. l ++ b) e ∙ append_assoc xs a b

then_goes : (s t u : Holding) → GoesOn s t → GoesOn t u → GoesOn s u
then_goes s t u h k = (
  (h.0.0 ++ k.0.0, joined s.ups t.ups u.ups h.0.0 k.0.0 h.0.1 k.0.1),
  go h.1,
)
  where
    go : (s.point ≡ t.point) ⊎ Before s.point t.point → (s.point ≡ u.point) ⊎ Before s.point u.point
    go (inl same) = subst (λ (x : Position). (x ≡ u.point) ⊎ Before x u.point) (sym same) k.1
    go (inr before) = inr (behind_still s.point t.point u.point before k.1)

loses_then : (s t u : Holding) → OnlyLoses s t → OnlyLoses t u → OnlyLoses s u
loses_then s t u h k = record {
  holds = same_then s t u h.holds k.holds;
  lost = (
    h.lost.0 ++ k.lost.0,
    joined s.lost t.lost u.lost h.lost.0 k.lost.0 h.lost.1 k.lost.1,
    all_of_both s.point.index h.lost.0 k.lost.0 h.lost.2
        (all_above s.point.index t.point.index (index_on s.point t.point h.goes.1) k.lost.0 k.lost.2),
  );
  goes = then_goes s t u h.goes k.goes;
}

pub up_loses : (p : Settings) (s : Holding) → OnlyLoses s (handed_up p s)
up_loses p s = record {
  holds = (most_hands (length s.held) p s).holds;
  lost = ([], (most_hands (length s.held) p s).lost ∙ sym (append-nil s.lost), tt);
  goes = most (length s.held) p s;
}

one_loses : (s : Holding) → OnlyLoses s (loses_one s)
one_loses s = record {
  holds = record { plans = refl; held = refl; infos = refl };
  lost = (s.point.index ∷ [], refl, (omega arith, tt));
  goes = (
    (up.Lost s.point.index ∷ [], refl),
    inr ((before_decides s.point (after_object s.point.index)).0 (to_next_object s.point s.point.index refl)),
  );
}

before_loses : (n : ℕ) (p : Settings) (index : ℕ) (s : Holding) → OnlyLoses s (loses_before n p index s)
unfolding loses_before
before_loses zero p index s = up_loses p s
before_loses (suc n) p index s = go (nat_lt (handed_up p s).point.index index) (λ t. before_loses n p index t)
  where
    t : Holding
    t = handed_up p s

    go : (b : Bool) → ((u : Holding) → OnlyLoses u (loses_before n p index u))
        → OnlyLoses s (elim b as (λ _. Holding) [ true ↦ loses_before n p index (loses_one t) | false ↦ t ])
    go true more =
        loses_then s t (loses_before n p index (loses_one t)) (up_loses p s)
        (loses_then t (loses_one t) (loses_before n p index (loses_one t)) (one_loses t) (more (loses_one t)))
    go false more = up_loses p s

pub squelch_loses : (p : Settings) (first : Point) (s : Holding) → OnlyLoses s (squelched p first s)
squelch_loses p first s = go (t.point.index == first.index && is_cut_off t first)
  where
    t : Holding
    t = loses_before (first.index - s.point.index) p first.index s

    before : OnlyLoses s t
    before = before_loses (first.index - s.point.index) p first.index s

    go : (b : Bool) → OnlyLoses s (elim b as (λ _. Holding) [ true ↦ handed_up p (loses_one t) | false ↦ t ])
    go true =
        loses_then s t (handed_up p (loses_one t)) before
        (loses_then t (loses_one t) (handed_up p (loses_one t)) (one_loses t) (up_loses p (loses_one t)))
    go false = before

pub losing : (p : Settings) (first : Point) (s : Holding) → IsLosing s (squelched p first s)
losing p first s =
    let all : OnlyLoses s (squelched p first s) = squelch_loses p first s in record {
      holds = all.holds;
      lost = all.lost;
      ups = all.goes.0;
      point = not_back s.point (squelched p first s).point all.goes.1;
    }

-- nothing before the squelch's index is left
up_on : (p : Settings) (s : Holding) → s.point.index ≤ (handed_up p s).point.index
up_on p s = index_on s.point (handed_up p s).point (up_loses p s).goes.1

before_leaves : (n : ℕ) (p : Settings) (index : ℕ) (s : Holding) → index ≤ s.point.index + n → index ≤ (loses_before n p index s).point.index
unfolding loses_before
before_leaves zero p index s le = let on = up_on p s in omega arith
before_leaves (suc n) p index s le = go (nat_lt t.point.index index) refl (before_leaves n p index (loses_one t))
  where
    t : Holding
    t = handed_up p s

    go : (b : Bool) → nat_lt t.point.index index ≡ b → (index ≤ (loses_one t).point.index + n → index ≤ (loses_before n p index (loses_one t)).point.index)
        → index ≤ (elim b as (λ _. Holding) [ true ↦ loses_before n p index (loses_one t) | false ↦ t ]).point.index
    go true e more = more (let on = up_on p s in omega arith)
    go false e more = by (cases_lt t.point.index index)
      where
        by : (t.point.index < index) ⊎ (index ≤ t.point.index) → index ≤ t.point.index
        by (inl less) = absurd (clash (sym e ∙ (Decides-ltb t.point.index index).1 less))
        by (inr le) = le

leaving_none : (p : Settings) (first : Point) (s : Holding) → first.index ≤ (squelched p first s).point.index
leaving_none p first s = go (t.point.index == first.index && is_cut_off t first)
  where
    t : Holding
    t = loses_before (first.index - s.point.index) p first.index s

    before : first.index ≤ t.point.index
    before = before_leaves (first.index - s.point.index) p first.index s (omega arith)

    go : (b : Bool) → first.index ≤ (elim b as (λ _. Holding) [ true ↦ handed_up p (loses_one t) | false ↦ t ]).point.index
    go true = let on = up_on p (loses_one t) in omega (arith, before)
    go false = before

-- ---- taking

pub taking : (s : Holding) → IsTaking s (up_taken s).0
taking s = go s.ups
  where
    holding_of : Holding × Option Up → Holding
    holding_of step = step.0

    go : (ups : List Up) → IsTaking s (holding_of (elim ups [ up ∷ more ↦ (record s { ups = more }, Some up) | [] ↦ (s, None) ]))
    go [] = record { holds = unchanged s; point = refl; lost = refl }
    go (up ∷ more) = record { holds = record { plans = refl; held = refl; infos = refl }; point = refl; lost = refl }

-- ---- a squelch that comes

alike : (s : ReceiverState) → IsAlikeBeside s s
alike s = record { node = refl; instance = refl; sequence = refl; farthest = refl; flush = refl; holdoff = refl; due = refl }

may_need_alike : (p : Settings) (now draw : ℕ) (s t : ReceiverState) → IsAlikeBeside s t → IsAlikeBeside s (may_need p now draw t)
may_need_alike p now draw s t h = go (may_back_off now t.knows) (needs_nothing p t)
  where
    go : (b c : Bool) → IsAlikeBeside s (elim b as (λ _. ReceiverState) [
      | true ↦ elim c [ true ↦ t | false ↦ record t { knows = backs_off p now draw t.knows } ]
      | false ↦ t
    ])
    go true true = h
    go true false =
        record { node = h.node; instance = h.instance; sequence = h.sequence; farthest = h.farthest; flush = h.flush; holdoff = h.holdoff; due = h.due }
    go false c = h

squelch_alike : (p : Settings) (now draw : ℕ) (m : SquelchCommand) (s : ReceiverState) → is_in s m.head.instance ≡ true
    → IsAlikeBeside s (message_received {E = Refusal} p now draw (Ok (Squelch m)) s)
squelch_alike p now draw m s e = go (m.head.source == p.sender)
  where
    takes : Option ReceiverState → ReceiverState
    takes found = unwrap_or (option_and_then (takes_in p now draw m.object (squelch_received p m)) found) s

    named : (index : Option ℕ) → IsAlikeBeside s (unwrap_or (elim index as (λ _. Option ReceiverState) [
      | Some index ↦ Some (may_need p now draw (squelch_received p m index (record s { knows = learns index s.knows })))
      | None ↦ None
    ]) s)
    named (Some index) =
        may_need_alike p now draw s (squelch_received p m index (record s { knows = learns index s.knows }))
        (record { node = refl; instance = refl; sequence = refl; farthest = refl; flush = refl; holdoff = refl; due = refl })
    named None = alike s

    inside : (b c : Bool) → b ≡ true → IsAlikeBeside s (takes (elim b as (λ _. Option ReceiverState) [
      | true ↦ Some s
      | false ↦ elim c [ true ↦ Some (enters m.head.instance s) | false ↦ None ]
    ]))
    inside true c is = named (index_named p s.knows.known m.object)
    inside false c is = absurd (clash is)

    go : (own : Bool) → IsAlikeBeside s (elim own as (λ _. ReceiverState) [
      | true ↦ takes (elim (is_in s m.head.instance) as (λ _. Option ReceiverState) [
        | true ↦ Some s
        | false ↦ elim (goes_to s m.head.instance) [ true ↦ Some (enters m.head.instance s) | false ↦ None ]
      ])
      | false ↦ s
    ])
    go true = inside (is_in s m.head.instance) (goes_to s m.head.instance) e
    go false = alike s

pub beside_laws : BesideLaws
beside_laws = record {
  takes = taking;
  hands_up = handing_up;
  loses = losing;
  leaves_none = leaving_none;
  taken = λ s. refl;
  squelch = λ p m index s. refl;
  heard = λ p s bytes now draw m e inside.
      let P : Result Message Refusal → Type 0 = λ said. IsAlikeBeside s (message_received p now draw said s) in
      subst P (sym e) (squelch_alike p now draw m s inside);
}
