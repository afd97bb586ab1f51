-- What a receiver lost in its instance it handed up as lost.
use Rattle.std.proofs.Common.{◌≡◌, ℕ, zero, suc, ◌-◌, List, [], ◌∷◌, ◌++◌, length, Bool, true, false, Option, None, Some, Result, Ok, Err, refl, sym, ap, ◌∙◌, subst, append_assoc}
use Rattle.std.specs.Prelude.{◌==◌, ◌&&◌, ◌||◌, not, nat_lt, unwrap_or, option_and_then}
use Rattle.std.specs.List.{list_any}
use Rattle.std.proofs.lemmas.List.{append-nil}
use Rattle.norm_base.specs.Settings.{Settings}
use Rattle.fec_plan.specs.Points.{Point, point, point_of, position}
use Rattle.fec_plan.specs.declared.position.Position.{Position}
use Rattle.norm_ext.specs.Extensions.{Extension, fti_of}
use Rattle.norm_ext.specs.Message.{Message, Info, Data, Flush, Eot, Squelch, RepairAdv, AckReq, Opaque, Nack, Ack, Report}
use Rattle.norm_ext.specs.ObjectIds.{index_named}
use Rattle.norm_ext.specs.declared.fti.Fti.{Fti}
use Rattle.norm_ext.specs.declared.refusal.Refusal.{Refusal}
use Rattle.norm_order.specs.declared.up.Up.{Up}
use Rattle.norm_order.specs.declared.up.Up.TheVariants as up
use Rattle.norm_receive_rules.specs.BackingOff.{may_need}
use Rattle.norm_receive_rules.specs.Fitting.{fit_of, fitted, lets_put}
use Rattle.norm_receive_rules.specs.HandingUp.{after_object, handed, is_whole, next_segment, hands_object, hands_segment, hands_next, hands_one, hands_most, handed_up}
use Rattle.norm_receive_rules.specs.Holding.{Holding, Plan}
use Rattle.norm_receive_rules.specs.Leaving.{is_in, goes_to, enters}
use Rattle.norm_receive_rules.specs.Losing.{loses_one, loses_before, is_cut_off, loses_at, squelched}
use Rattle.norm_receive_rules.specs.Overhearing.{overheard, adv_overheard}
use Rattle.norm_receive_rules.specs.Plans.{says_stream, plan_of, has_its_info}
use Rattle.norm_receive_rules.specs.Putting.{put_of, put_symbol, with_symbol, put_info_of, put_info, with_info}
use Rattle.norm_receive_rules.specs.ReceiverState.{ReceiverState}
use Rattle.norm_receive_rules.specs.Receiving.{object_held, info_received, data_received, flush_received, squelch_received, takes_in, in_instance, message_received}
use Rattle.norm_receive_rules.specs.Seeing.{sees_block}
use Rattle.norm_receive_rules.specs.declared.words.Fit.{Fit}
use Rattle.norm_receive_rules.specs.declared.words.Fit.TheVariants as fit
use Rattle.norm_receive_rules.specs.declared.words.Put.{Put}
use Rattle.norm_receive_rules.specs.declared.words.Put.TheVariants as put
use Rattle.norm_safety.specs.LosesNothing.{is_loss}
use Rattle.norm_safety.proofs.EntryLemmas.{clash}
use Rattle.norm_safety.proofs.HoldRun.{any_append}
use Rattle.norm_safety.proofs.ReceiverMoves.{need_same, knowing}
use Rattle.norm_laws.proofs.PassingHears.{IsOfInstance}

-- ---- what is handed up more

-- From what was held more was handed up; and if no loss is among that, the same was lost.
pub record HandsMore (s t : Holding) : Type 0 where
  pub more : List Up
  pub ups : t.ups ≡ s.ups ++ more
  pub lost : list_any is_loss more ≡ false → t.lost ≡ s.lost

pub neither : (a b : Bool) → (a || b) ≡ false → (a ≡ false) × (b ≡ false)
neither true b e = absurd (clash (sym e))
neither false b e = (refl, e)

-- of two lists without a loss each has none
pub without_loss : (xs ys : List Up) → list_any is_loss (xs ++ ys) ≡ false → (list_any is_loss xs ≡ false) × (list_any is_loss ys ≡ false)
without_loss xs ys e = neither (list_any is_loss xs) (list_any is_loss ys) (sym (any_append is_loss xs ys) ∙ e)

same_ups : (s t : Holding) → t.ups ≡ s.ups → t.lost ≡ s.lost → HandsMore s t
same_ups s t ups lost = record { more = []; ups = ups ∙ sym (append-nil s.ups); lost = λ none. lost }

-- the same is held
pub same_more : (s t : Holding) → t ≡ s → HandsMore s t
same_more s t e = same_ups s t (ap (λ (x : Holding). x.ups) e) (ap (λ (x : Holding). x.lost) e)

itself : (s : Holding) → HandsMore s s
itself s = same_ups s s refl refl

pub hands_on : (s t u : Holding) → HandsMore s t → HandsMore t u → HandsMore s u
hands_on s t u h g = record {
  more = h.more ++ g.more;
  ups = g.ups ∙ ap (λ (ups : List Up). ups ++ g.more) h.ups ∙ append_assoc s.ups h.more g.more;
  lost = λ none. (let two = without_loss h.more g.more none in g.lost two.1 ∙ h.lost two.0);
}

handed_more : (ups : List Up) (at : Position) (s : Holding) → HandsMore s (handed ups at s)
handed_more ups at s = record { more = ups; ups = refl; lost = λ none. refl }

one_more : (p : Settings) (s t : Holding) → hands_one p s ≡ Some t → HandsMore s t
one_more p s t e = go (plan_of s s.point.index) e
  where
    none_some : (x : Holding) → None ≡ Some x → ⊥
    none_some x e = cc

    same : (x y : Holding) → Some x ≡ Some y → x ≡ y
    same x y e = cc

    is_it : (ups : List Up) (at : Position) → Some (handed ups at s) ≡ Some t → HandsMore s t
    is_it ups at e = subst (HandsMore s) (same (handed ups at s) t e) (handed_more ups at s)

    segment : (plan : Plan) (found : Option (List ℕ)) → elim found [ Some symbol ↦ Some (hands_segment p s plan symbol) | None ↦ None ] ≡ Some t → HandsMore s t
    segment plan None e = absurd (none_some t e)
    segment plan (Some symbol) e = is_it _ _ e

    stream : (plan : Plan) (b : Bool)
        → elim b [ true ↦ elim (next_segment s plan) [ Some symbol ↦ Some (hands_segment p s plan symbol) | None ↦ None ] | false ↦ None ] ≡ Some t → HandsMore s t
    stream plan true e = segment plan (next_segment s plan) e
    stream plan false e = absurd (none_some t e)

    object : (plan : Plan) (ups : List Up) (b : Bool) → elim b [ true ↦ Some (handed ups (after_object plan.index) s) | false ↦ None ] ≡ Some t → HandsMore s t
    object plan ups true e = is_it ups (after_object plan.index) e
    object plan ups false e = absurd (none_some t e)

    planned : (plan : Plan) (b : Bool) → elim b [ true ↦ hands_next p s plan | false ↦ hands_object s plan ] ≡ Some t → HandsMore s t
    planned plan true e = stream plan (has_its_info s plan) e
    planned plan false e = object plan _ (is_whole s plan) e

    go : (found : Option Plan) → elim found [
      | Some plan ↦ elim (says_stream plan.flags) [ true ↦ hands_next p s plan | false ↦ hands_object s plan ]
      | None ↦ None
    ] ≡ Some t → HandsMore s t
    go None e = absurd (none_some t e)
    go (Some plan) e = planned plan (says_stream plan.flags) e

most_more : (n : ℕ) (p : Settings) (s : Holding) → HandsMore s (hands_most n p s)
unfolding hands_most
most_more zero p s = itself s
most_more (suc n) p s = go (hands_one p s) refl (most_more n p)
  where
    go : (found : Option Holding) → hands_one p s ≡ found → ((t : Holding) → HandsMore t (hands_most n p t))
        → HandsMore s (elim found as (λ _. Holding) [ Some after ↦ hands_most n p after | None ↦ s ])
    go None e more = itself s
    go (Some after) e more = hands_on s after (hands_most n p after) (one_more p s after e) (more after)

up_more : (p : Settings) (s : Holding) → HandsMore s (handed_up p s)
up_more p s = most_more (length s.held) p s

-- ---- what is lost

lost_more : (s : Holding) → HandsMore s (loses_one s)
lost_more s = record { more = up.Lost s.point.index ∷ []; ups = refl; lost = λ none. absurd (clash (sym none)) }

before_more : (n : ℕ) (p : Settings) (index : ℕ) (s : Holding) → HandsMore s (loses_before n p index s)
unfolding loses_before
before_more zero p index s = up_more p s
before_more (suc n) p index s =
    let u : Holding = handed_up p s in
    hands_on s u (loses_before (suc n) p index s) (up_more p s) (go (nat_lt u.point.index index) (before_more n p index))
  where
    go : (b : Bool) → ((t : Holding) → HandsMore t (loses_before n p index t)) → HandsMore (handed_up p s) (elim b as (λ _. Holding) [ true ↦ loses_before n p index (loses_one (handed_up p s)) | false ↦ handed_up p s ])
    go true more =
        let u : Holding = handed_up p s in hands_on u (loses_one u) (loses_before n p index (loses_one u)) (lost_more u) (more (loses_one u))
    go false more = itself (handed_up p s)

at_more : (p : Settings) (first : Point) (s : Holding) → HandsMore s (loses_at p first s)
at_more p first s = go (s.point.index == first.index && is_cut_off s first)
  where
    go : (b : Bool) → HandsMore s (elim b as (λ _. Holding) [ true ↦ handed_up p (loses_one s) | false ↦ s ])
    go true = hands_on s (loses_one s) (handed_up p (loses_one s)) (lost_more s) (up_more p (loses_one s))
    go false = itself s

squelched_more : (p : Settings) (first : Point) (s : Holding) → HandsMore s (squelched p first s)
squelched_more p first s =
    let t : Holding = loses_before (first.index - s.point.index) p first.index s in
    hands_on s t (loses_at p first t) (before_more (first.index - s.point.index) p first.index s) (at_more p first t)

-- ---- what is put

fitted_more : (word : Fit) (index : ℕ) (f : Fti) (flags : ℕ) (s : Holding) → HandsMore s (fitted word index f flags s)
fitted_more fit.Known index f flags s = itself s
fitted_more fit.Away index f flags s = itself s
fitted_more fit.Unfit index f flags s = itself s
fitted_more fit.Taken index f flags s = same_ups s (fitted fit.Taken index f flags s) refl refl

symbol_more : (p : Settings) (at : Position) (payload : List ℕ) (s : Holding) → HandsMore s (put_symbol p at payload s)
symbol_more p at payload s = go (put_of p s at payload)
  where
    go : (word : Put) → HandsMore s (with_symbol word at payload s)
    go put.Kept = same_ups s (with_symbol put.Kept at payload s) refl refl
    go put.Had = itself s
    go put.Away = itself s
    go put.Unfit = itself s

info_more : (p : Settings) (index : ℕ) (info : List ℕ) (s : Holding) → HandsMore s (put_info p index info s)
info_more p index info s = go (put_info_of p s index info)
  where
    go : (word : Put) → HandsMore s (with_info word index info s)
    go put.Kept = same_ups s (with_info put.Kept index info s) refl refl
    go put.Had = itself s
    go put.Away = itself s
    go put.Unfit = itself s

object_more : (p : Settings) (at : Position) (extensions : List Extension) (flags : ℕ) (brings : Holding → Holding) (s : Holding)
    → ((t : Holding) → HandsMore t (brings t)) → HandsMore s (object_held p at extensions flags brings s)
object_more p at extensions flags brings s more = go (fti_of extensions)
  where
    seen : (t : Holding) → HandsMore s t → HandsMore s (sees_block (point_of at) t)
    seen t h = hands_on s t (sees_block (point_of at) t) h (same_ups t (sees_block (point_of at) t) refl refl)

    up : (t : Holding) → HandsMore s t → HandsMore s (handed_up p (brings t))
    up t h = hands_on s (brings t) (handed_up p (brings t)) (hands_on s t (brings t) h (more t)) (up_more p (brings t))

    fits : (f : Fti) (b : Bool) → HandsMore s (elim b as (λ _. Holding) [
      | true ↦ handed_up p (brings (sees_block (point_of at) (fitted (fit_of p s at.index f flags) at.index f flags s)))
      | false ↦ sees_block (point_of at) (fitted (fit_of p s at.index f flags) at.index f flags s)
    ])
    fits f true =
        let t : Holding = fitted (fit_of p s at.index f flags) at.index f flags s in
        up (sees_block (point_of at) t) (seen t (fitted_more (fit_of p s at.index f flags) at.index f flags s))
    fits f false =
        let t : Holding = fitted (fit_of p s at.index f flags) at.index f flags s in
        seen t (fitted_more (fit_of p s at.index f flags) at.index f flags s)

    go : (found : Option Fti) → HandsMore s (elim found as (λ _. Holding) [
      | Some f ↦ (
          let word = fit_of p s at.index f flags in
          let s' = sees_block (point_of at) (fitted word at.index f flags s) in
          elim (lets_put word) [ true ↦ handed_up p (brings s') | false ↦ s' ]
          )
      | None ↦ handed_up p (brings (sees_block (point_of at) s))
    ])
    go None = up (sees_block (point_of at) s) (seen s (itself s))
    go (Some f) = fits f (lets_put (fit_of p s at.index f flags))

-- ---- a message

-- A receiver stays in its instance and hands up more; or it goes on to that of a message of the sender, with nothing held there before.
pub data HandsOn (r : ReceiverState) (said : Result Message Refusal) (t : ReceiverState) : Type 0 where
  More : t.instance ≡ r.instance → HandsMore r.holding t.holding → HandsOn r said t
  Anew : (id : ℕ) → t.instance ≡ Some id → IsOfInstance said id → (begun : Holding) → begun.lost ≡ [] → HandsMore begun t.holding → HandsOn r said t

stays : (r : ReceiverState) (said : Result Message Refusal) → HandsOn r said r
stays r said = More refl (itself r.holding)

instance_more : (p : Settings) (now draw source id object : ℕ) (brings : ℕ → ReceiverState → ReceiverState) (r : ReceiverState) (said : Result Message Refusal)
    → IsOfInstance said id → ((index : ℕ) (t : ReceiverState) → (brings index t).instance ≡ t.instance)
    → ((index : ℕ) (t : ReceiverState) → HandsMore t.holding (brings index (knowing index t)).holding)
    → HandsOn r said (in_instance p now draw source id object brings r)
instance_more p now draw source id object brings r said of same more = go (source == p.sender) (is_in r id) (goes_to r id)
  where
    taken : (t : ReceiverState) (index : ℕ) → HandsMore t.holding (may_need p now draw (brings index (knowing index t))).holding
    taken t index =
        let b : ReceiverState = brings index (knowing index t) in
        subst (HandsMore t.holding) (sym (need_same p now draw b).holding) (more index t)

    stands : (t : ReceiverState) (index : ℕ) → (may_need p now draw (brings index (knowing index t))).instance ≡ t.instance
    stands t index = (need_same p now draw (brings index (knowing index t))).instance ∙ same index (knowing index t)

    inside : (named : Option ℕ) → HandsOn r said
        (unwrap_or (elim named as (λ _. Option ReceiverState) [ Some index ↦ Some (may_need p now draw (brings index (knowing index r))) | None ↦ None ]) r)
    inside None = stays r said
    inside (Some index) = More (stands r index) (taken r index)

    outside : (named : Option ℕ) → HandsOn r said
        (unwrap_or (elim named as (λ _. Option ReceiverState) [ Some index ↦ Some (may_need p now draw (brings index (knowing index (enters id r)))) | None ↦ None ]) r)
    outside None = stays r said
    outside (Some index) = Anew id (stands (enters id r) index) of (enters id r).holding refl (taken (enters id r) index)

    go : (own inner above : Bool) → HandsOn r said (elim own as (λ _. ReceiverState) [
      | true ↦ unwrap_or (option_and_then (takes_in p now draw object brings)
          (elim inner [ true ↦ Some r | false ↦ elim above [ true ↦ Some (enters id r) | false ↦ None ] ])) r
      | false ↦ r
    ])
    go false inner above = stays r said
    go true true above = inside (index_named p r.knows.known object)
    go true false true = outside (index_named p (enters id r).knows.known object)
    go true false false = stays r said

where_stays : (b : Bool) (r t : ReceiverState) (said : Result Message Refusal) → HandsOn r said t
    → HandsOn r said (elim b as (λ _. ReceiverState) [ true ↦ t | false ↦ r ])
where_stays true r t said h = h
where_stays false r t said h = stays r said

pub message_more : (p : Settings) (r : ReceiverState) (now draw : ℕ) (said : Result Message Refusal) → HandsOn r said (message_received p now draw said r)
message_more p r now draw (Ok (Info m)) =
    instance_more p now draw m.head.source m.head.instance m.head.object (info_received p m) r (Ok (Info m)) refl (λ index t. refl)
    (λ index t. object_more p (position index 0 0) m.extensions m.head.flags (put_info p index m.info) t.holding (info_more p index m.info))
message_more p r now draw (Ok (Data m)) =
    instance_more p now draw m.head.source m.head.instance m.head.object (data_received p m) r (Ok (Data m)) refl (λ index t. refl)
    (λ index t. object_more p (position index m.id.block m.id.symbol) m.extensions m.head.flags (put_symbol p (position index m.id.block m.id.symbol) m.payload)
    t.holding (symbol_more p (position index m.id.block m.id.symbol) m.payload))
message_more p r now draw (Ok (Flush m)) =
    instance_more p now draw m.head.source m.head.instance m.object (flush_received m) r (Ok (Flush m)) refl (λ index t. refl) (λ index t. itself t.holding)
message_more p r now draw (Ok (Squelch m)) =
    instance_more p now draw m.head.source m.head.instance m.object (squelch_received p m) r (Ok (Squelch m)) refl (λ index t. refl)
    (λ index t. squelched_more p (point index m.id.block) t.holding)
message_more p r now draw (Ok (RepairAdv m)) =
    where_stays (m.head.source == p.sender) r (adv_overheard p m r) (Ok (RepairAdv m))
    (where_stays (is_in r m.head.instance) r (overheard p m.requests r) (Ok (RepairAdv m)) (More refl (itself r.holding)))
message_more p r now draw (Ok (Nack m)) =
    where_stays (not (m.source == r.node) && m.sender == p.sender && is_in r m.instance) r (overheard p m.requests r) (Ok (Nack m))
    (More refl (itself r.holding))
message_more p r now draw (Ok (Eot m)) = stays r (Ok (Eot m))
message_more p r now draw (Ok (AckReq m)) = stays r (Ok (AckReq m))
message_more p r now draw (Ok (Opaque m)) = stays r (Ok (Opaque m))
message_more p r now draw (Ok (Ack m)) = stays r (Ok (Ack m))
message_more p r now draw (Ok (Report m)) = stays r (Ok (Report m))
message_more p r now draw (Err refusal) = stays r (Err refusal)
