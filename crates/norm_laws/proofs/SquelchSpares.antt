-- A squelch up to the hand-up point loses nothing, and nothing but a squelch loses anything.
use Rattle.std.proofs.Common.{◌≡◌, ℕ, zero, suc, ◌-◌, ◌<◌, ◌≤◌, List, [], length, Bool, true, false, Option, None, Some, Result, Ok, Err, refl, ap, ◌∙◌, arith, ◌⊎◌, inl, inr}
use Rattle.std.specs.Prelude.{◌==◌, ◌&&◌, not, nat_lt, is_none, unwrap_or, option_and_then, ⊤}
use Rattle.std.proofs.lemmas.Bool.Decides.{Decides-eqb, Decides-ltb}
use Rattle.norm_base.specs.Settings.{Settings}
use Rattle.fec_plan.specs.Points.{Point, point, point_of, point_before, position}
use Rattle.fec_plan.specs.declared.position.Position.{Position}
use Rattle.fec_plan.proofs.PointLemmas.{behind_point}
use Rattle.norm_ext.specs.Extensions.{Extension, fti_of}
use Rattle.norm_ext.specs.Message.{Message, Info, Data, Flush, Eot, Squelch, RepairAdv, AckReq, Opaque, Nack, Ack, Report}
use Rattle.norm_ext.specs.ObjectIds.{index_named}
use Rattle.norm_ext.specs.Requests.{Request}
use Rattle.norm_ext.specs.declared.fti.Fti.{Fti}
use Rattle.norm_ext.specs.declared.refusal.Refusal.{Refusal}
use Rattle.norm_receive_rules.specs.BackingOff.{may_need}
use Rattle.norm_receive_rules.specs.Fitting.{fit_of, fitted, lets_put}
use Rattle.norm_receive_rules.specs.HandingUp.{hands_one, hands_most, handed_up}
use Rattle.norm_receive_rules.specs.Holding.{Holding, Plan}
use Rattle.norm_receive_rules.specs.Leaving.{is_in, goes_to, enters, entered}
use Rattle.norm_receive_rules.specs.Losing.{loses_one, loses_before, is_cut_off, loses_at, squelched}
use Rattle.norm_receive_rules.specs.Overhearing.{overheard, adv_overheard}
use Rattle.norm_receive_rules.specs.Plans.{says_stream, plan_of}
use Rattle.norm_receive_rules.specs.HandingUp.{next_segment}
use Rattle.norm_receive_rules.specs.Putting.{put_of, put_symbol, with_symbol, put_info_of, put_info, with_info}
use Rattle.norm_receive_rules.specs.ReceiverState.{ReceiverState}
use Rattle.norm_receive_rules.specs.Receiving.{object_held, info_received, data_received, flush_received, squelch_received, takes_in, in_instance, message_received}
use Rattle.norm_receive_rules.specs.Seeing.{sees_block}
use Rattle.norm_receive_rules.specs.declared.words.Fit.{Fit}
use Rattle.norm_receive_rules.specs.declared.words.Fit.TheVariants as fit
use Rattle.norm_receive_rules.specs.declared.words.Put.{Put}
use Rattle.norm_receive_rules.specs.declared.words.Put.TheVariants as put
use Rattle.norm_receive_rules.proofs.BesideLemmas.{handing_up}
use Rattle.norm_safety.proofs.ReceiverMoves.{need_same, knowing}

-- ---- a squelch up to the hand-up point

-- what a squelch finds in a receiver that it spares: nothing more can be handed up, the hand-up point is not before the squelch's, and lies
-- within an object only where its plan is known
pub record IsSpared (p : Settings) (first : Point) (s : Holding) : Type 0 where
  pub stuck : hands_one p s ≡ None
  pub front : point_before (point_of s.point) first ≡ false
  pub planned : plan_of s s.point.index ≡ None → s.point.block ≡ 0

stuck_most : (n : ℕ) (p : Settings) (s : Holding) → hands_one p s ≡ None → hands_most n p s ≡ s
unfolding hands_most
stuck_most zero p s e = refl
stuck_most (suc n) p s e = go (hands_one p s) e
  where
    some : (after : Holding) → Some after ≡ None → ⊥
    some after e = cc

    go : (found : Option Holding) → found ≡ None → elim found as (λ _. Holding) [ Some after ↦ hands_most n p after | None ↦ s ] ≡ s
    go None e = refl
    go (Some after) e = absurd (some after e)

-- where nothing more can be handed up nothing is
pub stays_stuck : (p : Settings) (s : Holding) → hands_one p s ≡ None → handed_up p s ≡ s
stays_stuck p s e = stuck_most (length s.held) p s e

not_cut : (p : Settings) (first : Point) (s : Holding) → IsSpared p first s → (s.point.index == first.index && is_cut_off s first) ≡ false
not_cut p first s spared = go (s.point.index == first.index) refl
  where
    -- of the same object the squelch's block is no further
    no_further : s.point.index ≡ first.index → first.block ≤ s.point.block
    no_further same = by (behind_point (point_of s.point) first spared.front)
      where
        by : (first.index < s.point.index) ⊎ ((first.index ≡ s.point.index) × (first.block ≤ s.point.block)) → first.block ≤ s.point.block
        by (inl lt) = absurd (omega (arith, lt, same))
        by (inr both) = both.1

    not_less : (a b : ℕ) → b ≤ a → nat_lt a b ≡ false
    not_less a b le = by (nat_lt a b) refl
      where
        by : (t : Bool) → nat_lt a b ≡ t → t ≡ false
        by true e = absurd (let lt = (Decides-ltb a b).0 e in omega (arith, lt, le))
        by false e = refl

    and_false : (a b c : Bool) → b ≡ false → (a && b && c) ≡ false
    and_false true b c e = ap (λ (x : Bool). x && c) e
    and_false false b c e = refl

    cut : s.point.index ≡ first.index → (found : Option Plan) → plan_of s s.point.index ≡ found → (elim found [
      | Some plan ↦ says_stream plan.flags && nat_lt s.point.block first.block && is_none (next_segment s plan)
      | None ↦ nat_lt 0 first.block
    ]) ≡ false
    cut same (Some plan) e =
        and_false (says_stream plan.flags) (nat_lt s.point.block first.block) (is_none (next_segment s plan)) (not_less s.point.block first.block (no_further same))
    cut same None e = not_less 0 first.block (let le = no_further same in let none = spared.planned e in omega (arith, le, none))

    go : (b : Bool) → (s.point.index == first.index) ≡ b → (b && is_cut_off s first) ≡ false
    go true e = cut ((Decides-eqb s.point.index first.index).0 e) (plan_of s s.point.index) refl
    go false e = refl

-- it changes nothing
pub squelch_spares : (p : Settings) (first : Point) (s : Holding) → IsSpared p first s → squelched p first s ≡ s
unfolding loses_before
squelch_spares p first s spared =
    ap (loses_at p first) (ap (λ (n : ℕ). loses_before n p first.index s) none ∙ stays_stuck p s spared.stuck)
    ∙ ap (λ (b : Bool). elim b as (λ _. Holding) [ true ↦ handed_up p (loses_one s) | false ↦ s ]) (not_cut p first s spared)
  where
    none : first.index - s.point.index ≡ 0
    none = by (behind_point (point_of s.point) first spared.front)
      where
        by : (first.index < s.point.index) ⊎ ((first.index ≡ s.point.index) × (first.block ≤ s.point.block)) → first.index - s.point.index ≡ 0
        by (inl lt) = omega (arith, lt)
        by (inr both) = (let same = both.0 in omega (arith, same))

-- ---- what else comes

-- the same was lost
abbrev LostSame : Holding → Holding → Type 0
LostSame s t = t.lost ≡ s.lost

fitted_lost : (word : Fit) (index : ℕ) (f : Fti) (flags : ℕ) (s : Holding) → LostSame s (fitted word index f flags s)
fitted_lost fit.Known index f flags s = refl
fitted_lost fit.Away index f flags s = refl
fitted_lost fit.Unfit index f flags s = refl
fitted_lost fit.Taken index f flags s = refl

symbol_lost : (p : Settings) (at : Position) (payload : List ℕ) (s : Holding) → LostSame s (put_symbol p at payload s)
symbol_lost p at payload s = go (put_of p s at payload)
  where
    go : (word : Put) → LostSame s (with_symbol word at payload s)
    go put.Kept = refl
    go put.Had = refl
    go put.Away = refl
    go put.Unfit = refl

info_lost : (p : Settings) (index : ℕ) (info : List ℕ) (s : Holding) → LostSame s (put_info p index info s)
info_lost p index info s = go (put_info_of p s index info)
  where
    go : (word : Put) → LostSame s (with_info word index info s)
    go put.Kept = refl
    go put.Had = refl
    go put.Away = refl
    go put.Unfit = refl

object_lost : (p : Settings) (at : Position) (extensions : List Extension) (flags : ℕ) (brings : Holding → Holding) (s : Holding)
    → ((t : Holding) → LostSame t (brings t)) → LostSame s (object_held p at extensions flags brings s)
object_lost p at extensions flags brings s same = go (fti_of extensions)
  where
    up : (t : Holding) → LostSame s t → LostSame s (handed_up p (brings t))
    up t e = (handing_up p (brings t)).lost ∙ same t ∙ e

    fits : (f : Fti) (b : Bool) → LostSame s (elim b as (λ _. Holding) [
      | true ↦ handed_up p (brings (sees_block (point_of at) (fitted (fit_of p s at.index f flags) at.index f flags s)))
      | false ↦ sees_block (point_of at) (fitted (fit_of p s at.index f flags) at.index f flags s)
    ])
    fits f true = up (sees_block (point_of at) (fitted (fit_of p s at.index f flags) at.index f flags s)) (fitted_lost (fit_of p s at.index f flags) at.index f flags s)
    fits f false = fitted_lost (fit_of p s at.index f flags) at.index f flags s

    go : (found : Option Fti) → LostSame s (elim found as (λ _. Holding) [
      | Some f ↦ (
          let word = fit_of p s at.index f flags in
          let s' = sees_block (point_of at) (fitted word at.index f flags s) in
          elim (lets_put word) [ true ↦ handed_up p (brings s') | false ↦ s' ]
          )
      | None ↦ handed_up p (brings (sees_block (point_of at) s))
    ])
    go None = up (sees_block (point_of at) s) refl
    go (Some f) = fits f (lets_put (fit_of p s at.index f flags))

-- ---- a message

-- where a squelch comes in time, it spares the receiver in the instance in which it is received
abbrev pub Spares : Settings → ReceiverState → Result Message Refusal → Type 0
Spares p r (Ok (Squelch m)) =
    (t : ReceiverState) (index : ℕ) → entered r m.head.instance ≡ Some t → index_named p t.knows.known m.object ≡ Some index → IsSpared p (point index m.id.block) t.holding
Spares p r said = ⊤

-- nothing was lost
abbrev Clean : ReceiverState → Type 0
Clean r = r.holding.lost ≡ []

instance_clean : (p : Settings) (now draw source id object : ℕ) (brings : ℕ → ReceiverState → ReceiverState) (r : ReceiverState)
    → ((t : ReceiverState) (index : ℕ) → entered r id ≡ Some t → index_named p t.knows.known object ≡ Some index → Clean t → Clean (brings index (knowing index t)))
    → Clean r → Clean (in_instance p now draw source id object brings r)
instance_clean p now draw source id object brings r keeps clean = go (source == p.sender)
  where
    left : Option ReceiverState → ReceiverState
    left found = unwrap_or (option_and_then (takes_in p now draw object brings) found) r

    in_state : (t : ReceiverState) → entered r id ≡ Some t → Clean t → (named : Option ℕ) → index_named p t.knows.known object ≡ named
        → Clean (unwrap_or (elim named as (λ _. Option ReceiverState) [ Some index ↦ Some (may_need p now draw (brings index (knowing index t))) | None ↦ None ]) r)
    in_state t e h None f = clean
    in_state t e h (Some index) f =
        let b : ReceiverState = brings index (knowing index t) in
        ap (λ (s : Holding). s.lost) (need_same p now draw b).holding ∙ keeps t index e f h

    by : (inside above : Bool) → is_in r id ≡ inside → goes_to r id ≡ above
        → Clean (left (elim inside [ true ↦ Some r | false ↦ elim above [ true ↦ Some (enters id r) | false ↦ None ] ]))
    by true above e f = in_state r (ap (found_by (goes_to r id)) e) clean (index_named p r.knows.known object) refl
      where
        found_by : Bool → Bool → Option ReceiverState
        found_by above inside = elim inside [ true ↦ Some r | false ↦ elim above [ true ↦ Some (enters id r) | false ↦ None ] ]
    by false true e f =
        in_state (enters id r) (ap (found_by (goes_to r id)) e ∙ ap (λ (b : Bool). found_by b false) f) refl (index_named p (enters id r).knows.known object) refl
      where
        found_by : Bool → Bool → Option ReceiverState
        found_by above inside = elim inside [ true ↦ Some r | false ↦ elim above [ true ↦ Some (enters id r) | false ↦ None ] ]
    by false false e f = clean

    go : (own : Bool) → Clean (elim own as (λ _. ReceiverState) [ true ↦ left (entered r id) | false ↦ r ])
    go true = by (is_in r id) (goes_to r id) refl refl
    go false = clean

overheard_clean : (p : Settings) (requests : List Request) (r : ReceiverState) → Clean r → Clean (overheard p requests r)
overheard_clean p requests r h = h

where_clean : (b : Bool) (r t : ReceiverState) → Clean r → Clean t → Clean (elim b as (λ _. ReceiverState) [ true ↦ t | false ↦ r ])
where_clean true r t h k = k
where_clean false r t h k = h

-- What comes loses nothing where a squelch spares the receiver.
pub message_clean : (p : Settings) (r : ReceiverState) (now draw : ℕ) (said : Result Message Refusal) → Spares p r said → r.holding.lost ≡ []
    → (message_received p now draw said r).holding.lost ≡ []
message_clean p r now draw (Ok (Info m)) spares h = instance_clean p now draw m.head.source m.head.instance m.head.object (info_received p m) r
    (λ t index e f k. object_lost p (position index 0 0) m.extensions m.head.flags (put_info p index m.info) t.holding (info_lost p index m.info) ∙ k) h
message_clean p r now draw (Ok (Data m)) spares h = instance_clean p now draw m.head.source m.head.instance m.head.object (data_received p m) r
    (λ t index e f k. object_lost p (position index m.id.block m.id.symbol) m.extensions m.head.flags (put_symbol p (position index m.id.block m.id.symbol) m.payload)
    t.holding (symbol_lost p (position index m.id.block m.id.symbol) m.payload) ∙ k) h
message_clean p r now draw (Ok (Flush m)) spares h =
    instance_clean p now draw m.head.source m.head.instance m.object (flush_received m) r (λ t index e f k. k) h
message_clean p r now draw (Ok (Squelch m)) spares h =
    instance_clean p now draw m.head.source m.head.instance m.object (squelch_received p m) r
    (λ t index e f k. ap (λ (s : Holding). s.lost) (squelch_spares p (point index m.id.block) t.holding (spares t index e f)) ∙ k) h
message_clean p r now draw (Ok (RepairAdv m)) spares h =
    where_clean (m.head.source == p.sender) r (adv_overheard p m r) h
    (where_clean (is_in r m.head.instance) r (overheard p m.requests r) h (overheard_clean p m.requests r h))
message_clean p r now draw (Ok (Nack m)) spares h =
    where_clean (not (m.source == r.node) && m.sender == p.sender && is_in r m.instance) r (overheard p m.requests r) h (overheard_clean p m.requests r h)
message_clean p r now draw (Ok (Eot m)) spares h = h
message_clean p r now draw (Ok (AckReq m)) spares h = h
message_clean p r now draw (Ok (Opaque m)) spares h = h
message_clean p r now draw (Ok (Ack m)) spares h = h
message_clean p r now draw (Ok (Report m)) spares h = h
message_clean p r now draw (Err refusal) spares h = h
