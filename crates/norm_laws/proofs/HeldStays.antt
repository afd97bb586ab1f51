-- What a receiver has in an instance it has after whatever happens to it in that instance; and its plans rise by index.
use Rattle.std.proofs.Common.{◌≡◌, ℕ, ◌<◌, ◌≤◌, ◌⊎◌, inl, inr, List, [], ◌∷◌, Bool, true, false, Option, None, Some, Result, Ok, Err, refl, sym, ap, ◌∙◌, subst, arith}
use Rattle.std.specs.Prelude.{map, max, not, ◌==◌, ◌&&◌, unwrap_or, option_and_then, ⊤}
use Rattle.std.specs.List.{AllByRecursion}
use Rattle.std.proofs.lemmas.Bool.Decides.{Decides-eqb, Decides-ltb}
use Rattle.norm_base.specs.Settings.{Settings}
use Rattle.fec_plan.specs.Points.{Point, point, point_of, point_before, position}
use Rattle.fec_plan.specs.declared.position.Position.{Position}
use Rattle.norm_ext.specs.Extensions.{Extension, fti_of}
use Rattle.norm_ext.specs.Message.{Message, Info, Data, Flush, Eot, Squelch, RepairAdv, AckReq, Opaque, Nack, Ack, Report}
use Rattle.norm_ext.specs.ObjectIds.{index_named}
use Rattle.norm_ext.specs.Reading.{decoded}
use Rattle.norm_ext.specs.declared.fti.Fti.{Fti}
use Rattle.norm_ext.specs.declared.refusal.Refusal.{Refusal}
use Rattle.norm_order.specs.Sets.{with_member}
use Rattle.norm_receive_rules.specs.BackingOff.{may_need}
use Rattle.norm_receive_rules.specs.Fitting.{fit_of, fitted, lets_put, plan_before}
use Rattle.norm_receive_rules.specs.HandingUp.{handed_up}
use Rattle.norm_receive_rules.specs.Holding.{Holding, Plan, new_plan}
use Rattle.norm_receive_rules.specs.Leaving.{is_in, goes_to, enters}
use Rattle.norm_receive_rules.specs.Losing.{squelched}
use Rattle.norm_receive_rules.specs.Overhearing.{overheard, adv_overheard}
use Rattle.norm_receive_rules.specs.Plans.{says_stream}
use Rattle.norm_receive_rules.specs.Putting.{put_of, put_symbol, with_symbol, put_info_of, put_info, with_info}
use Rattle.norm_receive_rules.specs.ReceiverState.{ReceiverState}
use Rattle.norm_receive_rules.specs.ReceiverStep.{ReceiverEvent, Delivered, Ticked, UpTaken, receiver_step}
use Rattle.norm_receive_rules.specs.Receiving.{object_held, info_received, data_received, flush_received, squelch_received, takes_in, in_instance, message_received}
use Rattle.norm_receive_rules.specs.Seeing.{plan_seen, sees_block}
use Rattle.norm_receive_rules.specs.Taking.{up_taken}
use Rattle.norm_receive_rules.specs.Ticking.{ticked}
use Rattle.norm_receive_rules.specs.declared.words.Fit.{Fit}
use Rattle.norm_receive_rules.specs.declared.words.Fit.TheVariants as fit
use Rattle.norm_receive_rules.specs.declared.words.Put.{Put}
use Rattle.norm_receive_rules.specs.declared.words.Put.TheVariants as put
use Rattle.norm_receive_rules.proofs.BesideLemmas.{handing_up, losing, taking}
use Rattle.norm_receive_rules.proofs.HoldingSteps.{HoldingIsKept, steps_keep}
use Rattle.norm_safety.proofs.ReceiverMoves.{knowing, need_same, tick_same}
use Rattle.fec_plan.proofs.PointLemmas.{not_before, behind_point}
use Rattle.fec_plan.proofs.PositionLemmas.{Behind, behind, reached}
use Rattle.norm_laws.proofs.HeldWords.{HasSymbol, HasInfo, InHas, HoldsMore, symbol_more, info_more, more_both, more_itself, same_more, fitted_more, seen_more, symbol_put_more, info_put_more}

clash : false ≡ true → ⊥
clash e = cc

-- ---- each change of what is held

pub up_more : (p : Settings) (s : Holding) → HoldsMore s (handed_up p s)
up_more p s = let up = handing_up p s in same_more s (handed_up p s) up.holds up.point

pub object_more : (p : Settings) (at : Position) (extensions : List Extension) (flags : ℕ) (brings : Holding → Holding) (s : Holding)
    → ((t : Holding) → HoldsMore t (brings t)) → HoldsMore s (object_held p at extensions flags brings s)
object_more p at extensions flags brings s more = go (fti_of extensions)
  where
    left : Fti → Bool → Holding
    left f b = (
        let s' = sees_block (point_of at) (fitted (fit_of p s at.index f flags) at.index f flags s) in
        elim b [ true ↦ handed_up p (brings s') | false ↦ s' ]
        )

    up : (t : Holding) → HoldsMore s t → HoldsMore s (handed_up p (brings t))
    up t h = more_both s (brings t) (handed_up p (brings t)) (more_both s t (brings t) h (more t)) (up_more p (brings t))

    seen : (f : Fti) → HoldsMore s (sees_block (point_of at) (fitted (fit_of p s at.index f flags) at.index f flags s))
    seen f = more_both s (fitted (fit_of p s at.index f flags) at.index f flags s) _ (fitted_more p (fit_of p s at.index f flags) at.index f flags s refl)
        (seen_more (point_of at) (fitted (fit_of p s at.index f flags) at.index f flags s))

    fits : (f : Fti) (b : Bool) → HoldsMore s (left f b)
    fits f true = up _ (seen f)
    fits f false = seen f

    go : (found : Option Fti) → HoldsMore s (elim found as (λ _. Holding) [
      | Some f ↦ (
          let word = fit_of p s at.index f flags in
          let s' = sees_block (point_of at) (fitted word at.index f flags s) in
          elim (lets_put word) [ true ↦ handed_up p (brings s') | false ↦ s' ]
          )
      | None ↦ handed_up p (brings (sees_block (point_of at) s))
    ])
    go None = up (sees_block (point_of at) s) (seen_more (point_of at) s)
    go (Some f) = fits f (lets_put (fit_of p s at.index f flags))

pub squelch_more : (p : Settings) (first : Point) (s : Holding) → HoldsMore s (squelched p first s)
squelch_more p first s = let lost = losing p first s in same_more s (squelched p first s) lost.holds lost.point

pub take_more : (s : Holding) → HoldsMore s (up_taken s).0
take_more s =
    let taken = taking s in
    same_more s (up_taken s).0 taken.holds (reached (up_taken s).0.point s.point (let B : Position → Type 0 = λ at. reaches_at at in subst B (sym taken.point) itself))
  where
    reaches_at : Position → Type 0
    reaches_at at = (s.point.index < at.index) ⊎ ((s.point.index ≡ at.index) × ((s.point.block < at.block) ⊎ ((s.point.block ≡ at.block) × (s.point.symbol ≤ at.symbol))))

    itself : reaches_at s.point
    itself = inr (refl, inr (refl, (let z : s.point.symbol ≤ s.point.symbol = omega arith in z)))

-- ---- each event, in the instance

-- what a state has, each has that holds no less
abbrev pub Lasts : (Holding → Type 0) → Type 0
Lasts P = (s t : Holding) → HoldsMore s t → P s → P t

same_has : (P : Holding → Type 0) (g h : Holding) → h ≡ g → P g → P h
same_has P g h e k = subst P (sym e) k

-- a message of the sender, whatever it brings
instance_lasts : (P : Holding → Type 0) → Lasts P → (c : ℕ) (p : Settings) (now draw source id object : ℕ) (brings : ℕ → ReceiverState → ReceiverState) (r : ReceiverState)
    → ((index : ℕ) (t : ReceiverState) → (brings index t).instance ≡ t.instance)
    → ((index : ℕ) (t : ReceiverState) → HoldsMore t.holding (brings index t).holding)
    → r.instance ≡ Some c → P r.holding → InHas P c (in_instance p now draw source id object brings r)
instance_lasts P lasts c p now draw source id object brings r same more inside has = go (source == p.sender) (is_in r id) refl (goes_to r id)
  where
    taken : (t : ReceiverState) → Option ℕ → ReceiverState
    taken t found = unwrap_or (elim found [ Some index ↦ Some (may_need p now draw (brings index (knowing index t))) | None ↦ None ]) r

    in_state : (t : ReceiverState) → InHas P c t → (found : Option ℕ) → InHas P c (taken t found)
    in_state t at None = λ is. has
    in_state t at (Some index) = λ is. (
        let b : ReceiverState = brings index (knowing index t) in
        let need = need_same p now draw b in
        let inner : t.instance ≡ Some c = sym (same index (knowing index t)) ∙ sym need.instance ∙ is in
        same_has P b.holding (may_need p now draw b).holding need.holding (lasts t.holding b.holding (more index (knowing index t)) (at inner))
        )

    -- the instance that the receiver is in is not entered
    same_id : (a b : ℕ) → Some a ≡ Some b → a ≡ b
    same_id a b e = cc

    not_entered : is_in r id ≡ false → id ≡ c → ⊥
    not_entered e is =
        let I : Option ℕ → Bool = λ o. elim o as (λ _. Bool) [ Some current ↦ current == id | None ↦ false ] in
        clash (sym e ∙ ap I inside ∙ (Decides-eqb c id).1 (sym is))

    go : (own inner : Bool) → is_in r id ≡ inner → (above : Bool) → InHas P c (elim own as (λ _. ReceiverState) [
      | true ↦ unwrap_or (option_and_then (takes_in p now draw object brings)
          (elim inner as (λ _. Option ReceiverState) [ true ↦ Some r | false ↦ elim above as (λ _. Option ReceiverState) [ true ↦ Some (enters id r) | false ↦ None ] ])) r
      | false ↦ r
    ])
    go false inner e above = λ is. has
    go true true e above = in_state r (λ is. has) (index_named p r.knows.known object)
    go true false e true = in_state (enters id r) (λ is. absurd (not_entered e (same_id id c is))) (index_named p (enters id r).knows.known object)
    go true false e false = λ is. has

where_has : (P : Holding → Type 0) (c : ℕ) (b : Bool) (r t : ReceiverState) → InHas P c r → InHas P c t → InHas P c (elim b as (λ _. ReceiverState) [ true ↦ t | false ↦ r ])
where_has P c true r t h k = k
where_has P c false r t h k = h

pub message_lasts : (P : Holding → Type 0) → Lasts P → (c : ℕ) (p : Settings) (r : ReceiverState) (now draw : ℕ) (said : Result Message Refusal)
    → r.instance ≡ Some c → P r.holding → InHas P c (message_received p now draw said r)
message_lasts P lasts c p r now draw (Ok (Info m)) inside has =
    instance_lasts P lasts c p now draw m.head.source m.head.instance m.head.object (info_received p m) r (λ index t. refl)
    (λ index t. object_more p (position index 0 0) m.extensions m.head.flags (put_info p index m.info) t.holding (λ s. info_put_more p index m.info s)) inside has
message_lasts P lasts c p r now draw (Ok (Data m)) inside has =
    instance_lasts P lasts c p now draw m.head.source m.head.instance m.head.object (data_received p m) r (λ index t. refl)
    (λ index t. object_more p (position index m.id.block m.id.symbol) m.extensions m.head.flags (put_symbol p (position index m.id.block m.id.symbol) m.payload) t.holding
    (λ s. symbol_put_more p (position index m.id.block m.id.symbol) m.payload s)) inside has
message_lasts P lasts c p r now draw (Ok (Flush m)) inside has =
    instance_lasts P lasts c p now draw m.head.source m.head.instance m.object (flush_received m) r (λ index t. refl) (λ index t. more_itself t.holding) inside has
message_lasts P lasts c p r now draw (Ok (Squelch m)) inside has =
    instance_lasts P lasts c p now draw m.head.source m.head.instance m.object (squelch_received p m) r (λ index t. refl)
    (λ index t. squelch_more p (point index m.id.block) t.holding) inside has
message_lasts P lasts c p r now draw (Ok (RepairAdv m)) inside has =
    let h : InHas P c r = λ is. has in
    where_has P c (m.head.source == p.sender) r (adv_overheard p m r) h (where_has P c (is_in r m.head.instance) r (overheard p m.requests r) h (λ is. has))
message_lasts P lasts c p r now draw (Ok (Nack m)) inside has =
    let h : InHas P c r = λ is. has in
    where_has P c (not (m.source == r.node) && m.sender == p.sender && is_in r m.instance) r (overheard p m.requests r) h (λ is. has)
message_lasts P lasts c p r now draw (Ok (Eot m)) inside has = λ is. has
message_lasts P lasts c p r now draw (Ok (AckReq m)) inside has = λ is. has
message_lasts P lasts c p r now draw (Ok (Opaque m)) inside has = λ is. has
message_lasts P lasts c p r now draw (Ok (Ack m)) inside has = λ is. has
message_lasts P lasts c p r now draw (Ok (Report m)) inside has = λ is. has
message_lasts P lasts c p r now draw (Err refusal) inside has = λ is. has

-- whatever happens to a receiver, it has that as long as it is in the instance
pub step_lasts : (P : Holding → Type 0) → Lasts P → (c : ℕ) (p : Settings) (r : ReceiverState) (event : ReceiverEvent) → r.instance ≡ Some c → P r.holding
    → InHas P c (receiver_step p r event).0
step_lasts P lasts c p r (Delivered datagram now draw) inside has = message_lasts P lasts c p r now draw (decoded datagram) inside has
step_lasts P lasts c p r (Ticked now) inside has = λ is. same_has P r.holding (ticked p r now).0.holding (tick_same p r now).holding has
step_lasts P lasts c p r UpTaken inside has = λ is. lasts r.holding (up_taken r.holding).0 (take_more r.holding) has

pub symbol_lasts : (at : Position) → Lasts (λ h. HasSymbol h at)
symbol_lasts at s t more h = symbol_more s t at more h

pub info_lasts : (index : ℕ) → Lasts (λ h. HasInfo h index)
info_lasts index s t more h = info_more s t index more h

pub symbol_stays : (p : Settings) (at : Position) (c : ℕ) (r : ReceiverState) (event : ReceiverEvent) → r.instance ≡ Some c → HasSymbol r.holding at
    → InHas (λ h. HasSymbol h at) c (receiver_step p r event).0
symbol_stays p at c r event inside has = step_lasts (λ h. HasSymbol h at) (symbol_lasts at) c p r event inside has

pub info_stays : (p : Settings) (index : ℕ) (c : ℕ) (r : ReceiverState) (event : ReceiverEvent) → r.instance ≡ Some c → HasInfo r.holding index
    → InHas (λ h. HasInfo h index) c (receiver_step p r event).0
info_stays p index c r event inside has = step_lasts (λ h. HasInfo h index) (info_lasts index) c p r event inside has

pub front_lasts : (d : Point) → Lasts (λ h. point_before (point_of h.point) d ≡ false)
front_lasts d s t more h = not_before (point_of t.point) d (go (behind_point (point_of s.point) d h) (behind t.point s.point more.point))
  where
    go : (d.index < s.point.index) ⊎ ((d.index ≡ s.point.index) × (d.block ≤ s.point.block)) → Behind t.point s.point
        → (d.index < t.point.index) ⊎ ((d.index ≡ t.point.index) × (d.block ≤ t.point.block))
    go (inl lt) (inl less) = inl (omega (arith, lt, less))
    go (inl lt) (inr (same, rest)) = inl (omega (arith, lt, same))
    go (inr (here, le)) (inl less) = inl (omega (arith, here, less))
    go (inr (here, le)) (inr (same, inl less)) = inr (here ∙ same, omega (arith, le, less))
    go (inr (here, le)) (inr (same, inr (block, rest))) = inr (here ∙ same, omega (arith, le, block))

pub front_stays : (p : Settings) (d : Point) (c : ℕ) (r : ReceiverState) (event : ReceiverEvent) → r.instance ≡ Some c → point_before (point_of r.holding.point) d ≡ false
    → InHas (λ h. point_before (point_of h.point) d ≡ false) c (receiver_step p r event).0
front_stays p d c r event inside front = step_lasts (λ h. point_before (point_of h.point) d ≡ false) (front_lasts d) c p r event inside front

-- ---- plans rise by index

-- each plan's index is below those of all that follow it
abbrev pub Apart : List Plan → Type 0
Apart [] = ⊤
Apart (x ∷ plans) = AllByRecursion (λ (y : Plan). x.index < y.index) plans × Apart plans

further : (x y : Plan) (plans : List Plan) → x.index < y.index → AllByRecursion (λ (z : Plan). y.index < z.index) plans
    → AllByRecursion (λ (z : Plan). x.index < z.index) plans
further x y [] lt all = tt
further x y (z ∷ plans) lt all = ((let less = all.0 in omega (arith, lt, less)), further x y plans lt all.1)

all_joined : (x new : Plan) (plans : List Plan) → x.index < new.index → AllByRecursion (λ (z : Plan). x.index < z.index) plans
    → AllByRecursion (λ (z : Plan). x.index < z.index) (with_member plan_before new plans)
unfolding with_member
all_joined x new [] lt all = (lt, tt)
all_joined x new (y ∷ plans) lt all = go (plan_before new y) (plan_before y new) (all_joined x new plans lt all.1)
  where
    go : (b c : Bool) → AllByRecursion (λ (z : Plan). x.index < z.index) (with_member plan_before new plans)
        → AllByRecursion (λ (z : Plan). x.index < z.index) (elim b as (λ _. List Plan) [
          | true ↦ new ∷ y ∷ plans
          | false ↦ elim c [ true ↦ y ∷ with_member plan_before new plans | false ↦ y ∷ plans ]
        ])
    go true c more = (lt, all)
    go false true more = (all.0, more)
    go false false more = all

pub apart_with : (new : Plan) (plans : List Plan) → Apart plans → Apart (with_member plan_before new plans)
unfolding with_member
apart_with new [] h = (tt, tt)
apart_with new (y ∷ plans) h = go (plan_before new y) (plan_before y new) refl refl (apart_with new plans h.1)
  where
    go : (b c : Bool) → plan_before new y ≡ b → plan_before y new ≡ c → Apart (with_member plan_before new plans) → Apart (elim b as (λ _. List Plan) [
      | true ↦ new ∷ y ∷ plans
      | false ↦ elim c [ true ↦ y ∷ with_member plan_before new plans | false ↦ y ∷ plans ]
    ])
    go true c e f more = let lt = (Decides-ltb new.index y.index).0 e in ((lt, further new y plans lt h.0), h)
    go false true e f more = (all_joined y new plans ((Decides-ltb y.index new.index).0 f) h.0, more)
    go false false e f more = h

fitted_apart : (word : Fit) (index : ℕ) (f : Fti) (flags : ℕ) (s : Holding) → Apart s.plans → Apart (fitted word index f flags s).plans
fitted_apart fit.Known index f flags s h = h
fitted_apart fit.Away index f flags s h = h
fitted_apart fit.Unfit index f flags s h = h
fitted_apart fit.Taken index f flags s h = apart_with (new_plan index f flags) s.plans h

-- a plan of which another block is seen has the same index
seen_index : (at : Point) (plan : Plan) → (plan_seen at plan).index ≡ plan.index
seen_index at plan = go (plan.index == at.index && says_stream plan.flags)
  where
    index_of : Plan → ℕ
    index_of x = x.index

    go : (b : Bool) → index_of (elim b as (λ _. Plan) [ true ↦ record plan { seen = max plan.seen at.block } | false ↦ plan ]) ≡ plan.index
    go true = refl
    go false = refl

seen_apart : (at : Point) (plans : List Plan) → Apart plans → Apart (map (plan_seen at) plans)
seen_apart at [] h = tt
seen_apart at (x ∷ plans) h = (each plans h.0, seen_apart at plans h.1)
  where
    each : (ys : List Plan) → AllByRecursion (λ (y : Plan). x.index < y.index) ys → AllByRecursion (λ (y : Plan). (plan_seen at x).index < y.index) (map (plan_seen at) ys)
    each [] all = tt
    each (y ∷ ys) all = ((let a = seen_index at x in let b = seen_index at y in let lt = all.0 in omega (arith, a, b, lt)), each ys all.1)

object_apart : (p : Settings) (at : Position) (extensions : List Extension) (flags : ℕ) (brings : Holding → Holding) (s : Holding)
    → ((t : Holding) → (brings t).plans ≡ t.plans) → Apart s.plans → Apart (object_held p at extensions flags brings s).plans
object_apart p at extensions flags brings s same h = go (fti_of extensions)
  where
    left : Fti → Bool → Holding
    left f b = (
        let s' = sees_block (point_of at) (fitted (fit_of p s at.index f flags) at.index f flags s) in
        elim b [ true ↦ handed_up p (brings s') | false ↦ s' ]
        )

    up : (t : Holding) → Apart t.plans → Apart (handed_up p (brings t)).plans
    up t k = subst Apart (sym ((handing_up p (brings t)).holds.plans ∙ same t)) k

    seen : (f : Fti) → Apart (sees_block (point_of at) (fitted (fit_of p s at.index f flags) at.index f flags s)).plans
    seen f = seen_apart (point_of at) (fitted (fit_of p s at.index f flags) at.index f flags s).plans (fitted_apart (fit_of p s at.index f flags) at.index f flags s h)

    fits : (f : Fti) (b : Bool) → Apart (left f b).plans
    fits f true = up _ (seen f)
    fits f false = seen f

    go : (found : Option Fti) → Apart (elim found as (λ _. Holding) [
      | Some f ↦ (
          let word = fit_of p s at.index f flags in
          let s' = sees_block (point_of at) (fitted word at.index f flags s) in
          elim (lets_put word) [ true ↦ handed_up p (brings s') | false ↦ s' ]
          )
      | None ↦ handed_up p (brings (sees_block (point_of at) s))
    ]).plans
    go None = up (sees_block (point_of at) s) (seen_apart (point_of at) s.plans h)
    go (Some f) = fits f (lets_put (fit_of p s at.index f flags))

put_plans : (p : Settings) (at : Position) (payload : List ℕ) (s : Holding) → (put_symbol p at payload s).plans ≡ s.plans
put_plans p at payload s = go (put_of p s at payload)
  where
    go : (word : Put) → (with_symbol word at payload s).plans ≡ s.plans
    go put.Had = refl
    go put.Away = refl
    go put.Unfit = refl
    go put.Kept = refl

info_plans : (p : Settings) (index : ℕ) (info : List ℕ) (s : Holding) → (put_info p index info s).plans ≡ s.plans
info_plans p index info s = go (put_info_of p s index info)
  where
    go : (word : Put) → (with_info word index info s).plans ≡ s.plans
    go put.Had = refl
    go put.Away = refl
    go put.Unfit = refl
    go put.Kept = refl

pub apart_kept : (p : Settings) → HoldingIsKept p (λ h. Apart h.plans)
apart_kept p = record {
  nothing = tt;
  symbol = λ at extensions flags payload s h. object_apart p at extensions flags (put_symbol p at payload) s (put_plans p at payload) h;
  info = λ at extensions flags index info s h. object_apart p at extensions flags (put_info p index info) s (info_plans p index info) h;
  squelch = λ first s h. subst Apart (sym (losing p first s).holds.plans) h;
  take = λ s h. subst Apart (sym (taking s).holds.plans) h;
}

pub apart_step : (p : Settings) (r : ReceiverState) (event : ReceiverEvent) → Apart r.holding.plans → Apart (receiver_step p r event).0.holding.plans
apart_step p r event h = steps_keep p (λ s. Apart s.plans) (apart_kept p) r event h
