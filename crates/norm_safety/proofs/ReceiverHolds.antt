-- What a receiver does with a message that is true of an order keeps what it holds of it.
use Rattle.std.proofs.Common.{◌≡◌, ℕ, zero, suc, ◌-◌, ◌*◌, ◌/◌, ◌<◌, ◌≤◌, List, [], ◌∷◌, ◌++◌, length, Bool, true, false, Option, None, Some, refl, sym, ap, ◌∙◌, subst, append_assoc, arith, cond, ◌⊎◌, inl, inr}
use Rattle.std.specs.Prelude.{slice_get, map, max, ◌==◌, ◌&&◌, nat_lt, is_none, IsSomeAnd}
use Rattle.std.specs.List.{AllByRecursion}
use Rattle.std.proofs.lemmas.Bool.Decides.{Decides-ltb, Decides-eqb}
use Rattle.norm_base.specs.Settings.{Settings, InRange}
use Rattle.fec_plan.specs.Points.{Point, point, point_before, position, point_of}
use Rattle.fec_plan.proofs.PointLemmas.{behind_point}
use Rattle.fec_plan.specs.declared.position.Position.{Position}
use Rattle.norm_ext.specs.Extensions.{Extension}
use Rattle.norm_ext.specs.declared.fti.Fti.{Fti}
use Rattle.norm_ext.specs.Message.{InfoMessage, DataMessage, SquelchCommand}
use Rattle.norm_order.specs.Entries.{Entry}
use Rattle.norm_order.specs.Sets.{with_member}
use Rattle.norm_order.specs.Shapes.{shape_of, encoded_in}
use Rattle.norm_order.specs.Symbols.{symbol_octets}
use Rattle.norm_order.specs.declared.up.Up.{Up}
use Rattle.norm_order.specs.declared.up.Up.TheVariants as up
use Rattle.norm_send_rules.specs.Messages.{fti_of_object, object_flags}
use Rattle.norm_receive_rules.specs.Holding.{Holding, Plan, new_plan}
use Rattle.norm_receive_rules.specs.Plans.{plan_of, says_stream}
use Rattle.norm_receive_rules.specs.Fitting.{fit_of, fitted, lets_put, plan_before}
use Rattle.norm_receive_rules.specs.Putting.{put_of, put_symbol, with_symbol, held_before, put_info_of, put_info, with_info, info_before}
use Rattle.norm_receive_rules.specs.HandingUp.{after_object, next_segment, hands_one, hands_most, handed_up}
use Rattle.norm_receive_rules.specs.Losing.{loses_one, loses_before, is_cut_off, squelched}
use Rattle.norm_receive_rules.specs.Seeing.{plan_seen, sees_block}
use Rattle.norm_receive_rules.specs.Receiving.{object_held}
use Rattle.norm_receive_rules.specs.declared.words.Fit.{Fit}
use Rattle.norm_receive_rules.specs.declared.words.Fit.TheVariants as fit
use Rattle.norm_receive_rules.specs.declared.words.Put.{Put}
use Rattle.norm_receive_rules.specs.declared.words.Put.TheVariants as put
use Rattle.norm_safety.specs.SaysSymbols.{SaysObject, info_of_object}
use Rattle.norm_safety.proofs.EntryLemmas.{clash}
use Rattle.norm_safety.proofs.SizedOrders.{AreSized}
use Rattle.norm_safety.proofs.GoesOn.{DropWithin}
use Rattle.norm_safety.proofs.Through.{Handed}
use Rattle.norm_safety.proofs.HandedMoves.{loses_dropped, loses_blocks}
use Rattle.norm_safety.proofs.Stood.{Due, due_more}
use Rattle.norm_safety.proofs.Holding.{HoldsOf, plan_in, IsPlanOf, IsSymbolOf, IsInfoOf, all_with, rising_with, some_and, hands_holding}

most_holding : (p : Settings) → InRange p → (order : List Entry) (d : Point) (taken : List Up) (due : Option Position) (n : ℕ) (r : Holding) → AreSized p order
    → HoldsOf p order d taken due r → HoldsOf p order d taken due (hands_most n p r)
unfolding hands_most
most_holding p range order d taken due zero r sized h = h
most_holding p range order d taken due (suc n) r sized h =
    go (hands_one p r) refl (λ after e. most_holding p range order d taken due n after sized (hands_holding p range order d taken due r after sized h e))
  where
    go : (next : Option Holding) → hands_one p r ≡ next
        → ((after : Holding) → hands_one p r ≡ Some after → HoldsOf p order d taken due (hands_most n p after))
        → HoldsOf p order d taken due (elim next [ Some after ↦ hands_most n p after | None ↦ r ])
    go None e more = h
    go (Some after) e more = more after e

pub up_holding : (p : Settings) → InRange p → (order : List Entry) (d : Point) (taken : List Up) (due : Option Position) (r : Holding) → AreSized p order
    → HoldsOf p order d taken due r → HoldsOf p order d taken due (handed_up p r)
up_holding p range order d taken due r sized h = most_holding p range order d taken due _ r sized h

-- ---- what a message brings

some_plan : (x : Plan) → Some x ≡ None → ⊥
some_plan x e = cc

-- where a plan is not among more it is not among fewer
none_before : (x : Plan) (plans : List Plan) (index : ℕ) → plan_in (with_member plan_before x plans) index ≡ None → plan_in plans index ≡ None
unfolding with_member
none_before x [] index e = refl
none_before x (y ∷ plans) index e = go (plan_before x y) (plan_before y x) e (none_before x plans index)
  where
    behind : (b : Bool) → cond b (Some x) (plan_in (y ∷ plans) index) ≡ None → plan_in (y ∷ plans) index ≡ None
    behind true e = absurd (some_plan x e)
    behind false e = e

    after : (b : Bool) → cond b (Some y) (plan_in (with_member plan_before x plans) index) ≡ None
        → (plan_in (with_member plan_before x plans) index ≡ None → plan_in plans index ≡ None) → cond b (Some y) (plan_in plans index) ≡ None
    after true e more = absurd (some_plan y e)
    after false e more = more e

    go : (b c : Bool) → plan_in (elim b [
      | true ↦ x ∷ y ∷ plans
      | false ↦ elim c [ true ↦ y ∷ with_member plan_before x plans | false ↦ y ∷ plans ]
    ]) index ≡ None → (plan_in (with_member plan_before x plans) index ≡ None → plan_in plans index ≡ None) → plan_in (y ∷ plans) index ≡ None
    go true c e more = behind (x.index == index) e
    go false true e more = after (y.index == index) e more
    go false false e more = e

same_index : (at : Point) (plan : Plan) → (plan_seen at plan).index ≡ plan.index
same_index at plan = go (plan.index == at.index && says_stream plan.flags)
  where
    index_of : Plan → ℕ
    index_of x = x.index

    go : (b : Bool) → index_of (elim b [ true ↦ record plan { seen = max plan.seen at.block } | false ↦ plan ]) ≡ plan.index
    go true = refl
    go false = refl

none_seen : (at : Point) (plans : List Plan) (index : ℕ) → plan_in (map (plan_seen at) plans) index ≡ None → plan_in plans index ≡ None
none_seen at [] index e = refl
none_seen at (y ∷ plans) index e =
    go ((plan_seen at y).index == index) (y.index == index) (ap (λ (n : ℕ). n == index) (same_index at y)) e (none_seen at plans index)
  where
    go : (b c : Bool) → b ≡ c → cond b (Some (plan_seen at y)) (plan_in (map (plan_seen at) plans) index) ≡ None
        → (plan_in (map (plan_seen at) plans) index ≡ None → plan_in plans index ≡ None) → cond c (Some y) (plan_in plans index) ≡ None
    go true c is e more = absurd (some_plan (plan_seen at y) e)
    go false true is e more = absurd (clash is)
    go false false is e more = more e

fitted_holding : (p : Settings) (order : List Entry) (d : Point) (taken : List Up) (due : Option Position) (word : Fit) (index : ℕ) (f : Fti) (flags : ℕ) (r : Holding)
    → IsPlanOf p order (new_plan index f flags) → HoldsOf p order d taken due r → HoldsOf p order d taken due (fitted word index f flags r)
fitted_holding p order d taken due fit.Known index f flags r plan h = h
fitted_holding p order d taken due fit.Away index f flags r plan h = h
fitted_holding p order d taken due fit.Unfit index f flags r plan h = h
fitted_holding p order d taken due fit.Taken index f flags r plan h = record {
  plans = all_with (IsPlanOf p order) plan_before (new_plan index f flags) r.plans plan h.plans;
  symbols = h.symbols;
  rising = h.rising;
  infos = h.infos;
  planned = λ none. h.planned (none_before (new_plan index f flags) r.plans r.point.index none);
  gone = h.gone;
  confirms = h.confirms;
}

plan_seen_is : (p : Settings) (order : List Entry) (at : Point) (plan : Plan) → IsPlanOf p order plan → IsPlanOf p order (plan_seen at plan)
plan_seen_is p order at plan is = go (plan.index == at.index && says_stream plan.flags)
  where
    go : (b : Bool) → IsPlanOf p order (elim b [ true ↦ record plan { seen = max plan.seen at.block } | false ↦ plan ])
    go true = is
    go false = is

plans_seen : (p : Settings) (order : List Entry) (at : Point) (plans : List Plan) → AllByRecursion (IsPlanOf p order) plans
    → AllByRecursion (IsPlanOf p order) (map (plan_seen at) plans)
plans_seen p order at [] all = tt
plans_seen p order at (plan ∷ plans) all = (plan_seen_is p order at plan all.0, plans_seen p order at plans all.1)

seen_holding : (p : Settings) (order : List Entry) (d : Point) (taken : List Up) (due : Option Position) (at : Point) (r : Holding) → HoldsOf p order d taken due r
    → HoldsOf p order d taken due (sees_block at r)
seen_holding p order d taken due at r h = record {
  plans = plans_seen p order at r.plans h.plans;
  symbols = h.symbols;
  rising = h.rising;
  infos = h.infos;
  planned = λ none. h.planned (none_seen at r.plans r.point.index none);
  gone = h.gone;
  confirms = h.confirms;
}

symbol_holding : (p : Settings) (order : List Entry) (d : Point) (taken : List Up) (due : Option Position) (word : Put) (at : Position) (payload : List ℕ) (r : Holding)
    → IsSymbolOf p order (record { at = at; octets = payload }) → HoldsOf p order d taken due r → HoldsOf p order d taken due (with_symbol word at payload r)
symbol_holding p order d taken due put.Had at payload r is h = h
symbol_holding p order d taken due put.Away at payload r is h = h
symbol_holding p order d taken due put.Unfit at payload r is h = h
symbol_holding p order d taken due put.Kept at payload r is h = record {
  plans = h.plans;
  symbols = all_with (IsSymbolOf p order) held_before (record { at = at; octets = payload }) r.held is h.symbols;
  rising = rising_with (record { at = at; octets = payload }) r.held h.rising;
  infos = h.infos;
  planned = h.planned;
  gone = h.gone;
  confirms = h.confirms;
}

info_holding : (p : Settings) (order : List Entry) (d : Point) (taken : List Up) (due : Option Position) (word : Put) (index : ℕ) (info : List ℕ) (r : Holding)
    → IsInfoOf order (record { index = index; info = info }) → HoldsOf p order d taken due r → HoldsOf p order d taken due (with_info word index info r)
info_holding p order d taken due put.Had index info r is h = h
info_holding p order d taken due put.Away index info r is h = h
info_holding p order d taken due put.Unfit index info r is h = h
info_holding p order d taken due put.Kept index info r is h = record {
  plans = h.plans;
  symbols = h.symbols;
  rising = h.rising;
  infos = all_with (IsInfoOf order) info_before (record { index = index; info = info }) r.infos is h.infos;
  planned = h.planned;
  gone = h.gone;
  confirms = h.confirms;
}

-- a message of an object whose transmission information is that of an entry
object_holding : (p : Settings) → InRange p → (order : List Entry) (d : Point) (taken : List Up) (due : Option Position) (at : Position) (extensions : List Extension) (flags : ℕ) (x : Entry)
    (brings : Holding → Holding) (r : Holding) → AreSized p order → slice_get order at.index ≡ Some x → SaysObject p x.object extensions flags
    → ((s : Holding) → HoldsOf p order d taken due s → HoldsOf p order d taken due (brings s)) → HoldsOf p order d taken due r
    → HoldsOf p order d taken due (object_held p at extensions flags brings r)
object_holding p range order d taken due at extensions flags x brings r sized found says kept h =
    let R : Option Fti → Type 0 = λ o. HoldsOf p order d taken due (elim o [
      | Some f ↦ (
          let word = fit_of p r at.index f flags in
          let s' = sees_block (point_of at) (fitted word at.index f flags r) in
          elim (lets_put word) [ true ↦ handed_up p (brings s') | false ↦ s' ]
          )
      | None ↦ handed_up p (brings (sees_block (point_of at) r))
    ]) in
    subst R (sym says.0) (put (lets_put word) between)
  where
    f : Fti
    f = fti_of_object p x.object

    word : Fit
    word = fit_of p r at.index (fti_of_object p x.object) flags

    plan : IsPlanOf p order (new_plan at.index (fti_of_object p x.object) flags)
    plan =
        let S : Option Entry → Type 0 = λ o. IsSomeAnd o (λ (y : Entry). (fti_of_object p x.object ≡ fti_of_object p y.object) × (4 * (flags / 4) ≡ object_flags y.object)) in
        subst S (sym found) (refl, says.1)

    between : HoldsOf p order d taken due (sees_block (point_of at) (fitted (fit_of p r at.index (fti_of_object p x.object) flags) at.index (fti_of_object p x.object) flags r))
    between = seen_holding p order d taken due (point_of at) _ (fitted_holding p order d taken due (fit_of p r at.index (fti_of_object p x.object) flags) at.index _ flags r plan h)

    put : (b : Bool) → (HoldsOf p order d taken due (sees_block (point_of at) (fitted (fit_of p r at.index (fti_of_object p x.object) flags) at.index (fti_of_object p x.object) flags r)))
        → HoldsOf p order d taken due (elim b [
          | true ↦ handed_up p (brings (sees_block (point_of at) (fitted (fit_of p r at.index (fti_of_object p x.object) flags) at.index (fti_of_object p x.object) flags r)))
          | false ↦ sees_block (point_of at) (fitted (fit_of p r at.index (fti_of_object p x.object) flags) at.index (fti_of_object p x.object) flags r)
        ])
    put true s = up_holding p range order d taken due _ sized (kept _ s)
    put false s = s

pub data_holding : (p : Settings) → InRange p → (order : List Entry) (d : Point) (taken : List Up) (due : Option Position) (m : DataMessage) (index : ℕ) (r : Holding) → AreSized p order
    → IsSomeAnd (slice_get order index) (λ (x : Entry).
    (nat_lt m.id.symbol (encoded_in (shape_of p x.object) m.id.block) ≡ true)
    × (m.payload ≡ symbol_octets p x.object m.id.block m.id.symbol) × SaysObject p x.object m.extensions m.head.flags)
    → HoldsOf p order d taken due r → HoldsOf p order d taken due (object_held p (position index m.id.block m.id.symbol) m.extensions m.head.flags (put_symbol p (position index m.id.block m.id.symbol) m.payload) r)
data_holding p range order d taken due m index r sized says h =
    let at : Position = position index m.id.block m.id.symbol in
    let entry = some_and _ (slice_get order index) says in
    let S : Option Entry → Type 0 = λ o. IsSomeAnd o (λ (y : Entry).
    (nat_lt m.id.symbol (encoded_in (shape_of p y.object) m.id.block) ≡ true) × (m.payload ≡ symbol_octets p y.object m.id.block m.id.symbol)) in
    object_holding p range order d taken due at m.extensions m.head.flags entry.0 (put_symbol p at m.payload) r sized entry.1 entry.2.2
    (λ s held. symbol_holding p order d taken due (put_of p s at m.payload) at m.payload s (subst S (sym entry.1) (entry.2.0, entry.2.1)) held) h

pub info_is_holding : (p : Settings) → InRange p → (order : List Entry) (d : Point) (taken : List Up) (due : Option Position) (m : InfoMessage) (index : ℕ) (r : Holding) → AreSized p order
    → IsSomeAnd (slice_get order index) (λ (x : Entry).
    (info_of_object x.object ≡ Some m.info) × SaysObject p x.object m.extensions m.head.flags)
    → HoldsOf p order d taken due r → HoldsOf p order d taken due (object_held p (position index 0 0) m.extensions m.head.flags (put_info p index m.info) r)
info_is_holding p range order d taken due m index r sized says h =
    let entry = some_and _ (slice_get order index) says in
    let S : Option Entry → Type 0 = λ o. IsSomeAnd o (λ (y : Entry). info_of_object y.object ≡ Some m.info) in
    object_holding p range order d taken due (position index 0 0) m.extensions m.head.flags entry.0 (put_info p index m.info) r sized entry.1 entry.2.1
    (λ s held. info_holding p order d taken due (put_info_of p s index m.info) index m.info s (subst S (sym entry.1) entry.2.0) held) h

-- ---- a squelch

-- an entry below the length of an order
pub there : (order : List Entry) (n : ℕ) → n < length order → (x : Entry) × (slice_get order n ≡ Some x)
there [] n lt = absurd (omega arith)
there (x ∷ order) zero lt = (x, refl)
there (x ∷ order) (suc n) lt = there order n (omega arith)

-- the rest of the object at the hand-up point is lost
lost_holding : (p : Settings) (order : List Entry) (d : Point) (taken : List Up) (due : Option Position) (r : Holding)
    → Handed p order d (r.lost ++ r.point.index ∷ []) ((taken ++ r.ups) ++ up.Lost r.point.index ∷ []) (after_object r.point.index)
    → HoldsOf p order d taken due r → HoldsOf p order d taken due (loses_one r)
lost_holding p order d taken due r gone h =
    let n : ℕ = r.point.index in
    let H : List Up → Type 0 = λ us. Handed p order d (r.lost ++ n ∷ []) us (after_object n) in
    let D : List Up → Type 0 = λ us. Due p order us due in
    record {
      plans = h.plans;
      symbols = h.symbols;
      rising = h.rising;
      infos = h.infos;
      planned = λ none. (refl, refl);
      gone = subst H (append_assoc taken r.ups (up.Lost n ∷ [])) gone;
      confirms = subst D (append_assoc taken r.ups (up.Lost n ∷ [])) (due_more p order (taken ++ r.ups) (up.Lost n ∷ []) due h.confirms);
    }

-- an object before the drop point is lost
dropped_holding : (p : Settings) → InRange p → (order : List Entry) (d : Point) (taken : List Up) (due : Option Position) (r : Holding) → DropWithin p order d
    → r.point.index < d.index → HoldsOf p order d taken due r → HoldsOf p order d taken due (loses_one r)
dropped_holding p range order d taken due r within lt h =
    let most = within.within in
    let entry = there order r.point.index (omega (arith, lt, most)) in
    lost_holding p order d taken due r
    (loses_dropped p order d r.lost (taken ++ r.ups) r.point entry.0 (let some = range.b.0 in some) within entry.1 lt h.gone) h

before_holding : (p : Settings) → InRange p → (order : List Entry) (d : Point) (taken : List Up) (due : Option Position) (n index : ℕ) (r : Holding) → AreSized p order
    → DropWithin p order d → index ≤ d.index → HoldsOf p order d taken due r → HoldsOf p order d taken due (loses_before n p index r)
unfolding loses_before
before_holding p range order d taken due zero index r sized within le h = up_holding p range order d taken due r sized h
before_holding p range order d taken due (suc n) index r sized within le h =
    go (nat_lt (handed_up p r).point.index index) refl (λ s held. before_holding p range order d taken due n index s sized within le held)
  where
    go : (b : Bool) → nat_lt (handed_up p r).point.index index ≡ b
        → ((s : Holding) → HoldsOf p order d taken due s → HoldsOf p order d taken due (loses_before n p index s))
        → HoldsOf p order d taken due (elim b [ true ↦ loses_before n p index (loses_one (handed_up p r)) | false ↦ handed_up p r ])
    go true e more =
        let lt = (Decides-ltb (handed_up p r).point.index index).0 e in
        more (loses_one (handed_up p r))
        (dropped_holding p range order d taken due (handed_up p r) within (omega (arith, lt, le)) (up_holding p range order d taken due r sized h))
    go false e more = up_holding p range order d taken due r sized h

-- what is cut off lacks a block before the window
cut_behind : (p : Settings) (order : List Entry) (d : Point) (taken : List Up) (due : Option Position) (r : Holding) (first : Point)
    → HoldsOf p order d taken due r → is_cut_off r first ≡ true → r.point.block < first.block
cut_behind p order d taken due r first h e = go (plan_of r r.point.index) refl e
  where
    parted : (a b : Bool) → (a && b) ≡ true → (a ≡ true) × (b ≡ true)
    parted true b e = (refl, e)
    parted false b e = absurd (clash e)

    go : (found : Option Plan) → plan_of r r.point.index ≡ found → (elim found [
      | Some plan ↦ says_stream plan.flags && nat_lt r.point.block first.block && is_none (next_segment r plan)
      | None ↦ nat_lt 0 first.block
    ]) ≡ true → r.point.block < first.block
    go None none e =
        let lt = (Decides-ltb 0 first.block).0 e in
        let place = (h.planned none).0 in
        omega (arith, lt, place)
    go (Some plan) known e =
        let two = parted (says_stream plan.flags && nat_lt r.point.block first.block) (is_none (next_segment r plan)) e in
        (Decides-ltb r.point.block first.block).0 (parted (says_stream plan.flags) (nat_lt r.point.block first.block) two.0).1

-- the object at the hand-up point is lost, where the window begins within it
cut_holding : (p : Settings) → InRange p → (order : List Entry) (d : Point) (taken : List Up) (due : Option Position) (r : Holding) (first : Point) → DropWithin p order d
    → point_before d first ≡ false → r.point.index ≡ first.index → r.point.block < first.block → HoldsOf p order d taken due r
    → HoldsOf p order d taken due (loses_one r)
cut_holding p range order d taken due r first within behind same lt h = go (behind_point d first behind)
  where
    go : (first.index < d.index) ⊎ ((first.index ≡ d.index) × (first.block ≤ d.block)) → HoldsOf p order d taken due (loses_one r)
    go (inl less) = dropped_holding p range order d taken due r within (omega (arith, less, same)) h
    go (inr (at, le)) =
        let entry = within.blocks (omega (arith, lt, le)) in
        let index : r.point.index ≡ d.index = same ∙ at in
        lost_holding p order d taken due r
        (loses_blocks p order d r.lost (taken ++ r.ups) r.point entry.0 (let some = range.b.0 in some) within (ap (slice_get order) index ∙ entry.1) index (omega (arith, lt, le)) h.gone) h

pub squelch_holding : (p : Settings) → InRange p → (order : List Entry) (d : Point) (taken : List Up) (due : Option Position) (m : SquelchCommand) (index : ℕ) (r : Holding) → AreSized p order
    → DropWithin p order d → point_before d (point index m.id.block) ≡ false → HoldsOf p order d taken due r
    → HoldsOf p order d taken due (squelched p (point index m.id.block) r)
squelch_holding p range order d taken due m index r sized within behind h =
    let first : Point = point index m.id.block in
    let s : Holding = loses_before (first.index - r.point.index) p first.index r in
    go s (before_holding p range order d taken due (first.index - r.point.index) first.index r sized within (not_above (behind_point d first behind)) h)
    (s.point.index == first.index) refl (is_cut_off s first) refl
  where
    not_above : (index < d.index) ⊎ ((index ≡ d.index) × (m.id.block ≤ d.block)) → index ≤ d.index
    not_above (inl lt) = omega (arith, lt)
    not_above (inr same) = let e = same.0 in omega (arith, e)

    go : (s : Holding) → HoldsOf p order d taken due s → (a : Bool) → (s.point.index == index) ≡ a → (b : Bool) → is_cut_off s (point index m.id.block) ≡ b
        → HoldsOf p order d taken due (elim (a && b) [ true ↦ handed_up p (loses_one s) | false ↦ s ])
    go s held true same true off =
        up_holding p range order d taken due (loses_one s) sized
        (cut_holding p range order d taken due s (point index m.id.block) within behind ((Decides-eqb s.point.index index).0 same)
        (cut_behind p order d taken due s (point index m.id.block) held off) held)
    go s held true same false off = held
    go s held false same b off = held
