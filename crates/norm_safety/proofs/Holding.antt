-- What a receiver holds in an instance: plans, symbols and infos of the instance's order, and hand-ups that went exactly through it up to
-- the hand-up point.
use Rattle.std.proofs.Common.{◌≡◌, ℕ, zero, suc, ◌+◌, ◌*◌, ◌/◌, ◌%◌, ◌<◌, ◌≤◌, cond, List, [], ◌∷◌, ◌++◌, length, Bool, true, false, Option, None, Some, refl, sym, ap, ◌∙◌, subst, append_assoc, arith}
use Rattle.std.specs.Prelude.{find, slice_get, ◌==◌, ◌&&◌, nat_lt, is_some, IsSomeAnd, if◌then◌else◌}
use Rattle.std.specs.List.{AllByRecursion, list_all, range_with_len}
use Rattle.std.proofs.Math.Nat.{add-mul}
use Rattle.std.proofs.lemmas.Bool.{ltb-false}
use Rattle.std.proofs.lemmas.Bool.Decides.{Decides-eqb, Decides-ltb}
use Rattle.norm_base.specs.Settings.{Settings, InRange}
use Rattle.norm_base.specs.declared.kinds.Kind.{Kind}
use Rattle.norm_base.specs.declared.kinds.Kind.TheVariants as kind
use Rattle.fec_plan.specs.Partition.{blocks, source_symbols}
use Rattle.fec_plan.specs.Points.{Point, position}
use Rattle.fec_plan.specs.declared.position.Position.{Position}
use Rattle.norm_ext.specs.Asking.{has_flag}
use Rattle.norm_order.specs.Entries.{Part, Object, Whole, Stream, Entry}
use Rattle.norm_order.specs.Sets.{with_member}
use Rattle.fec_plan.proofs.PositionLemmas.{before_decides, before_both}
use Rattle.norm_order.specs.Shapes.{shape_of, encoded_in}
use Rattle.norm_order.specs.Symbols.{segment_octets, symbol_octets}
use Rattle.norm_order.specs.Upto.{segment_up, parts_of}
use Rattle.norm_order.specs.declared.up.Up.{Up}
use Rattle.norm_order.specs.declared.up.Up.TheVariants as up
use Rattle.norm_send_rules.specs.Messages.{fti_of_object, object_flags}
use Rattle.norm_receive_rules.specs.Holding.{Holding, Plan, Held, HeldInfo}
use Rattle.norm_receive_rules.specs.ReceiverState.{ReceiverState}
use Rattle.norm_receive_rules.specs.Plans.{cut_of_plan, says_stream, says_info, plan_of, is_done, has_its_info, info_of}
use Rattle.norm_receive_rules.specs.Putting.{held_before}
use Rattle.norm_receive_rules.specs.HandingUp.{after_object, open_before, handed, is_whole, object_octets, kind_of, told_info, segment_length, segment_up as told_up, next_segment, hands_segment, hands_object, hands_next, hands_one}
use Rattle.norm_safety.specs.SaysSymbols.{info_of_object}
use Rattle.norm_safety.proofs.EntryLemmas.{clash}
use Rattle.norm_safety.proofs.SizedOrders.{IsSized, AreSized}
use Rattle.norm_safety.proofs.Spoken.{sized_at}
use Rattle.norm_send_rules.proofs.CutNames.{CutRange, cut_range}
use Rattle.norm_safety.proofs.ObjectLemmas.{Rising, IsOfObject, object_again}
use Rattle.norm_safety.proofs.GoesOn.{IsFinished}
use Rattle.norm_safety.proofs.Passed.{StandsIn, StandsAt, begun}
use Rattle.norm_safety.proofs.Through.{Handed}
use Rattle.norm_safety.proofs.HandedMoves.{begun_first, handed_whole, handed_segment, handed_end}
use Rattle.norm_safety.proofs.StreamHeld.{OfOctets, ClosedAt, closed_there, StreamPlan, stream_plan_cut, BeginsAs, value_begins}
use Rattle.norm_safety.proofs.StreamUp.{length_again, up_again}
use Rattle.norm_safety.proofs.Stood.{Due, due_more}

-- ---- what is held

-- a plan is that of an entry
abbrev pub IsPlanOf : Settings → List Entry → Plan → Type 0
IsPlanOf p order plan = IsSomeAnd (slice_get order plan.index) (λ (x : Entry).
    (plan.fti ≡ fti_of_object p x.object) × (4 * (plan.flags / 4) ≡ object_flags x.object))

-- a symbol is an encoded one of an entry
abbrev pub IsSymbolOf : Settings → List Entry → Held → Type 0
IsSymbolOf p order h = IsSomeAnd (slice_get order h.at.index) (λ (x : Entry).
    (nat_lt h.at.symbol (encoded_in (shape_of p x.object) h.at.block) ≡ true) × (h.octets ≡ symbol_octets p x.object h.at.block h.at.symbol))

-- an info is that of an entry
abbrev pub IsInfoOf : List Entry → HeldInfo → Type 0
IsInfoOf order h = IsSomeAnd (slice_get order h.index) (λ (x : Entry). info_of_object x.object ≡ Some h.info)

-- a plan among others
abbrev pub plan_in : List Plan → ℕ → Option Plan
plan_in plans index = find (λ (plan : Plan). plan.index == index) plans

-- the hand-up point lies within an object only where its plan is known
abbrev pub IsPlanned : List Plan → Position → Type 0
IsPlanned plans point = plan_in plans point.index ≡ None → (point.block ≡ 0) × (point.symbol ≡ 0)

-- What a receiver holds of an order with a drop point, with what it handed up before and the acknowledgement that is due: it is of
-- the order; hand-ups passed all entries before the hand-up point and stand there, within an object whose plan is known; and everything
-- before what is due was handed up.
pub record HoldsOf (p : Settings) (order : List Entry) (d : Point) (taken : List Up) (due : Option Position) (r : Holding) : Type 0 where
  pub plans : AllByRecursion (IsPlanOf p order) r.plans
  pub symbols : AllByRecursion (IsSymbolOf p order) r.held
  pub rising : Rising r.held
  pub infos : AllByRecursion (IsInfoOf order) r.infos
  pub planned : IsPlanned r.plans r.point
  pub gone : Handed p order d r.lost (taken ++ r.ups) r.point
  pub confirms : Due p order (taken ++ r.ups) due

-- the same of a receiver
abbrev pub ReceiverHolds : Settings → List Entry → Point → List Up → ReceiverState → Type 0
ReceiverHolds p order d taken r = HoldsOf p order d taken r.knows.due r.holding

-- another acknowledgement may be due
pub asks_due : (p : Settings) (order : List Entry) (d : Point) (taken : List Up) (due after : Option Position) (r : Holding)
    → Due p order (taken ++ r.ups) after → HoldsOf p order d taken due r → HoldsOf p order d taken after r
asks_due p order d taken due after r confirms h = record {
  plans = h.plans;
  symbols = h.symbols;
  rising = h.rising;
  infos = h.infos;
  planned = h.planned;
  gone = h.gone;
  confirms = confirms;
}

-- more is handed up
pub handed_holding : (p : Settings) (order : List Entry) (d : Point) (taken : List Up) (due : Option Position) (r : Holding) (ups : List Up) (point : Position)
    → Handed p order d r.lost ((taken ++ r.ups) ++ ups) point → IsPlanned r.plans point → HoldsOf p order d taken due r
    → HoldsOf p order d taken due (handed ups point r)
handed_holding p order d taken due r ups point gone planned h =
    let H : List Up → Type 0 = λ us. Handed p order d r.lost us point in
    let D : List Up → Type 0 = λ us. Due p order us due in
    record {
      plans = h.plans;
      symbols = h.symbols;
      rising = h.rising;
      infos = h.infos;
      planned = planned;
      gone = subst H (append_assoc taken r.ups ups) gone;
      confirms = subst D (append_assoc taken r.ups ups) (due_more p order (taken ++ r.ups) ups due h.confirms);
    }

-- ---- members of sorted lists

pub all_with : {X : Type 0} (P : X → Type 0) (before : X → X → Bool) (x : X) (xs : List X) → P x → AllByRecursion P xs
    → AllByRecursion P (with_member before x xs)
unfolding with_member
all_with P before x [] h all = (h, tt)
all_with {X} P before x (y ∷ xs) h all = go (before x y) (before y x) (all_with P before x xs h all.1)
  where
    go : (b c : Bool) → AllByRecursion P (with_member before x xs) → AllByRecursion P (elim b [
      | true ↦ x ∷ y ∷ xs
      | false ↦ elim c [ true ↦ y ∷ with_member before x xs | false ↦ y ∷ xs ]
    ])
    go true c more = (h, all)
    go false true more = (all.0, more)
    go false false more = all

rising_more : (x y : Held) (held : List Held) → held_before x y ≡ true → AllByRecursion (λ other. held_before y other ≡ true) held
    → AllByRecursion (λ other. held_before x other ≡ true) held
rising_more x y [] h all = tt
rising_more x y (z ∷ held) h all = (
  (before_decides x.at z.at).1 (before_both x.at y.at z.at ((before_decides x.at y.at).0 h) ((before_decides y.at z.at).0 all.0)),
  rising_more x y held h all.1,
)

pub rising_with : (x : Held) (held : List Held) → Rising held → Rising (with_member held_before x held)
unfolding with_member
rising_with x [] h = (tt, tt)
rising_with x (y ∷ held) h = go (held_before x y) (held_before y x) refl refl (rising_with x held h.1)
  where
    go : (b c : Bool) → held_before x y ≡ b → held_before y x ≡ c → Rising (with_member held_before x held) → Rising (elim b [
      | true ↦ x ∷ y ∷ held
      | false ↦ elim c [ true ↦ y ∷ with_member held_before x held | false ↦ y ∷ held ]
    ])
    go true c e f more = ((e, rising_more x y held e h.0), h)
    go false true e f more = (all_with (λ other. held_before y other ≡ true) held_before x held f h.0, more)
    go false false e f more = h

-- ---- flags

-- the kind by whether a file is said
abbrev kind_by : Bool → Kind
kind_by b = if b then kind.File else kind.Data

-- the octets of an info that is found
abbrev info_found : Option HeldInfo → Option (List ℕ)
info_found found = elim found [ Some h ↦ Some h.info | None ↦ None ]

flag_is : (flags flag n : ℕ) → flags / flag % 2 ≡ n → has_flag flags flag ≡ (n == 1)
flag_is flags flag n e = ap (λ (m : ℕ). m == 1) e

-- what the flags of an object say
pub record FlagsSay (flags : ℕ) (kind : Kind) (info : Option (List ℕ)) : Type 0 where
  pub stream : says_stream flags ≡ false
  pub file : kind_of flags ≡ kind
  pub infos : says_info flags ≡ is_some info

pub flags_say : (flags : ℕ) (kind : Kind) (info : Option (List ℕ)) (octets : List ℕ) → 4 * (flags / 4) ≡ object_flags (Whole kind info octets)
    → FlagsSay flags kind info
flags_say flags kind.Data None octets e = record {
  stream = flag_is flags 32 0 (omega arith);
  file = ap kind_by (flag_is flags 16 0 (omega arith));
  infos = flag_is flags 4 0 (omega arith);
}
flags_say flags kind.Data (Some info) octets e = record {
  stream = flag_is flags 32 0 (omega arith);
  file = ap kind_by (flag_is flags 16 0 (omega arith));
  infos = flag_is flags 4 1 (omega arith);
}
flags_say flags kind.File None octets e = record {
  stream = flag_is flags 32 0 (omega arith);
  file = ap kind_by (flag_is flags 16 1 (omega arith));
  infos = flag_is flags 4 0 (omega arith);
}
flags_say flags kind.File (Some info) octets e = record {
  stream = flag_is flags 32 0 (omega arith);
  file = ap kind_by (flag_is flags 16 1 (omega arith));
  infos = flag_is flags 4 1 (omega arith);
}

-- the flags of a stream say so
pub stream_says : (flags : ℕ) (parts : List Part) → 4 * (flags / 4) ≡ object_flags (Stream parts) → says_stream flags ≡ true
stream_says flags parts e = flag_is flags 32 1 (omega arith)

-- ---- a hand-up

-- a plan that is found is one of the plans, of that index
pub found_plan : (P : Plan → Type 0) (plans : List Plan) (index : ℕ) (plan : Plan) → AllByRecursion P plans
    → find (λ (x : Plan). x.index == index) plans ≡ Some plan → P plan × (plan.index ≡ index)
found_plan P [] index plan all e = absurd (none_plan plan e)
  where
    none_plan : (x : Plan) → None ≡ Some x → ⊥
    none_plan x e = cc
found_plan P (x ∷ plans) index plan all e = go (x.index == index) refl (λ e. found_plan P plans index plan all.1 e) e
  where
    same_plan : (x y : Plan) → Some x ≡ Some y → x ≡ y
    same_plan x y e = cc

    go : (b : Bool) → (x.index == index) ≡ b → (find (λ (x : Plan). x.index == index) plans ≡ Some plan → P plan × (plan.index ≡ index))
        → cond b (Some x) (find (λ (x : Plan). x.index == index) plans) ≡ Some plan → P plan × (plan.index ≡ index)
    go true is more e =
        let Q : Plan → Type 0 = λ y. P y × (y.index ≡ index) in subst Q (same_plan x plan e) (all.0, (Decides-eqb x.index index).0 is)
    go false is more e = more e

-- an info that is found is that of the entry
found_info : (order : List Entry) (infos : List HeldInfo) (index : ℕ) (x : Entry) (info : List ℕ) → AllByRecursion (IsInfoOf order) infos
    → slice_get order index ≡ Some x → info_found (find (λ (h : HeldInfo). h.index == index) infos) ≡ Some info → info_of_object x.object ≡ Some info
found_info order [] index x info all is e = absurd (none_info info e)
  where
    none_info : (i : List ℕ) → None ≡ Some i → ⊥
    none_info i e = cc
found_info order (h ∷ infos) index x info all is e = go (h.index == index) refl (λ e. found_info order infos index x info all.1 is e) e
  where
    same_info : (a b : List ℕ) → Some a ≡ Some b → a ≡ b
    same_info a b e = cc

    told : (o : Option Entry) → o ≡ Some x → IsSomeAnd o (λ (y : Entry). info_of_object y.object ≡ Some h.info) → info_of_object x.object ≡ Some h.info
    told (Some y) e said = let I : Entry → Type 0 = λ z. info_of_object z.object ≡ Some h.info in subst I (same y x e) said
      where
        same : (a b : Entry) → Some a ≡ Some b → a ≡ b
        same a b e = cc
    told None e said = absurd said

    go : (b : Bool) → (h.index == index) ≡ b → (info_found (find (λ (h : HeldInfo). h.index == index) infos) ≡ Some info → info_of_object x.object ≡ Some info)
        → info_found (cond b (Some h) (find (λ (h : HeldInfo). h.index == index) infos)) ≡ Some info → info_of_object x.object ≡ Some info
    go true same more e =
        told (slice_get order h.index) (ap (slice_get order) ((Decides-eqb h.index index).0 same) ∙ is) all.0
        ∙ ap (λ (i : List ℕ). Some i) (same_info h.info info e)
    go false same more e = more e

-- what is there, by its place
pub some_and : (P : Entry → Type 0) (found : Option Entry) → IsSomeAnd found P → (x : Entry) × (found ≡ Some x) × P x
some_and P None h = absurd h
some_and P (Some x) h = (x, refl, h)

-- the symbols of one object among those that are held
of_object : (p : Settings) (order : List Entry) (held : List Held) (index : ℕ) (x : Entry) → slice_get order index ≡ Some x
    → AllByRecursion (IsSymbolOf p order) held → AllByRecursion (IsOfObject p x.object index) held
of_object p order [] index x is all = tt
of_object p order (h ∷ held) index x is all = (one, of_object p order held index x is all.1)
  where
    same : (a b : Entry) → Some a ≡ Some b → a ≡ b
    same a b e = cc

    one : IsOfObject p x.object index h
    one at =
        let found = some_and _ (slice_get order h.at.index) all.0 in
        let is_x : found.0 ≡ x = same found.0 x (sym found.1 ∙ ap (slice_get order) at ∙ is) in
        let S : Entry → Type 0 = λ y.
        (nat_lt h.at.symbol (encoded_in (shape_of p y.object) h.at.block) ≡ true) × (h.octets ≡ symbol_octets p y.object h.at.block h.at.symbol) in
        subst S is_x found.2

and_parts : (a b : Bool) → (a && b) ≡ true → (a ≡ true) × (b ≡ true)
and_parts true b e = (refl, e)
and_parts false b e = absurd (clash e)

-- an object that is whole is handed up as its part
whole_up : (p : Settings) → InRange p → (order : List Entry) (r : Holding) (plan : Plan) (x : Entry) (object : Object) → x.object ≡ object → IsSized p object
    → slice_get order plan.index ≡ Some x → plan.fti ≡ fti_of_object p object → 4 * (plan.flags / 4) ≡ object_flags object
    → says_stream plan.flags ≡ false → AllByRecursion (IsSymbolOf p order) r.held → AllByRecursion (IsInfoOf order) r.infos → Rising r.held → is_whole r plan ≡ true
    → (up.Object plan.index (kind_of plan.flags) (told_info r plan) (object_octets r plan) ∷ []) ≡ parts_of p plan.index object
whole_up p range order r plan x (Stream parts) is sized found fti flags plain symbols infos rising whole =
    absurd (clash (sym plain ∙ stream_says plan.flags parts flags))
whole_up p range order r plan x (Whole kind info octets) is sized found fti flags plain symbols infos rising whole =
    let object : Object = Whole kind info octets in
    let say = flags_say plan.flags kind info octets flags in
    let parts = and_parts (has_its_info r plan) (list_all (is_done r plan) (range_with_len 0 (blocks (cut_of_plan plan)))) whole in
    let H : Object → Type 0 = λ o. AllByRecursion (IsOfObject p o plan.index) r.held in
    let again = object_again p (cut_range p range) kind info octets sized.0 sized.1 sized.3 r plan (record {
      fti = fti;
      stream = say.stream;
      symbols = subst H is (of_object p order r.held plan.index x found symbols);
      rising = rising;
      done = parts.1;
    }) in
    ap (λ (k : Kind). up.Object plan.index k (told_info r plan) (object_octets r plan) ∷ []) say.file
    ∙ ap (λ (i : Option (List ℕ)). up.Object plan.index kind i (object_octets r plan) ∷ []) (told info refl say.infos parts.0)
    ∙ ap (λ (bytes : List ℕ). up.Object plan.index kind info bytes ∷ []) again
  where
    by_info : Bool → Option (List ℕ)
    by_info b = elim b [ true ↦ info_of r plan.index | false ↦ None ]

    has_info : Bool → Bool
    has_info b = elim b [ true ↦ is_some (info_of r plan.index) | false ↦ true ]

    found_some : (o : Option (List ℕ)) (i : List ℕ) → info_of r plan.index ≡ o → is_some o ≡ true → (info_of_object x.object ≡ Some i)
        → info_of r plan.index ≡ Some i
    found_some None i e has own = absurd (clash has)
    found_some (Some j) i e has own = e ∙ sym (found_info order r.infos plan.index x j infos found e) ∙ own

    told : (known : Option (List ℕ)) → info ≡ known → says_info plan.flags ≡ is_some known → has_its_info r plan ≡ true → told_info r plan ≡ known
    told None e says has = ap by_info says
    told (Some i) e says has =
        ap by_info says
        ∙ found_some (info_of r plan.index) i refl (sym (ap has_info says) ∙ has) (ap info_of_object is ∙ e)

-- What is known of the object at the hand-up point, of which there is a plan.
record AtPoint (p : Settings) (order : List Entry) (r : Holding) (plan : Plan) : Type 0 where
  entry : Entry
  found : slice_get order plan.index ≡ Some entry
  here : slice_get order r.point.index ≡ Some entry
  index : plan.index ≡ r.point.index
  sized : IsSized p entry.object
  fti : plan.fti ≡ fti_of_object p entry.object
  flags : 4 * (plan.flags / 4) ≡ object_flags entry.object

at_point : (p : Settings) (order : List Entry) (d : Point) (taken : List Up) (due : Option Position) (r : Holding) (plan : Plan) → AreSized p order
    → HoldsOf p order d taken due r → plan_of r r.point.index ≡ Some plan → AtPoint p order r plan
at_point p order d taken due r plan sized h is =
    let found = found_plan (IsPlanOf p order) r.plans r.point.index plan h.plans is in
    let entry = some_and _ (slice_get order plan.index) found.0 in
    record {
      entry = entry.0;
      found = entry.1;
      here = ap (slice_get order) (sym found.1) ∙ entry.1;
      index = found.1;
      sized = sized_at p order plan.index entry.0 sized entry.1;
      fti = entry.2.0;
      flags = entry.2.1;
    }

first_planned : (plans : List Plan) (index : ℕ) → IsPlanned plans (after_object index)
first_planned plans index e = (refl, refl)

known_planned : (plans : List Plan) (index block symbol : ℕ) (plan : Plan) → plan_in plans index ≡ Some plan → IsPlanned plans (position index block symbol)
known_planned plans index block symbol plan known e = absurd (differ (sym known ∙ e))
  where
    differ : Some plan ≡ None → ⊥
    differ e = cc

-- an object that is whole is handed up
object_holding : (p : Settings) → InRange p → (order : List Entry) (d : Point) (taken : List Up) (due : Option Position) (r : Holding) (plan : Plan)
    → HoldsOf p order d taken due r → AtPoint p order r plan → says_stream plan.flags ≡ false → is_whole r plan ≡ true
    → HoldsOf p order d taken due (handed (up.Object plan.index (kind_of plan.flags) (told_info r plan) (object_octets r plan) ∷ []) (after_object plan.index) r)
object_holding p range order d taken due r plan h at plain done =
    let x : Entry = at.entry in
    let one : List Up = up.Object plan.index (kind_of plan.flags) (told_info r plan) (object_octets r plan) ∷ [] in
    let up_is : one ≡ parts_of p plan.index x.object =
    whole_up p range order r plan x x.object refl at.sized at.found at.fti at.flags plain h.symbols h.infos h.rising done in
    let place = by_object x.object refl in
    let none : begun p r.point.index (r.point.block * p.b + r.point.symbol) (Some x) ≡ [] =
    ap (λ (b : ℕ). begun p r.point.index (b * p.b + r.point.symbol) (Some x)) place.1.0 ∙ ap (λ (s : ℕ). begun p r.point.index (0 * p.b + s) (Some x)) place.1.1
    ∙ begun_first p r.point.index (Some x) in
    let whole : begun p r.point.index (r.point.block * p.b + r.point.symbol) (Some x) ++ one ≡ parts_of p r.point.index x.object =
    ap (λ (us : List Up). us ++ one) none ∙ up_is ∙ ap (λ (i : ℕ). parts_of p i x.object) at.index in
    let H : ℕ → Type 0 = λ i. Handed p order d r.lost ((taken ++ r.ups) ++ one) (after_object i) in
    handed_holding p order d taken due r one (after_object plan.index)
    (subst H (sym at.index) (handed_whole p order d r.lost (taken ++ r.ups) one r.point x (let some = range.b.0 in some) at.here place.0 whole h.gone))
    (first_planned r.plans plan.index) h
  where
    stands : StandsIn p at.entry.object r.point.block r.point.symbol
    stands = let S : Option Entry → Type 0 = λ o. StandsAt p o r.point.block r.point.symbol in subst S at.here h.gone.stands

    by_object : (o : Object) → at.entry.object ≡ o → IsFinished at.entry.object × ((r.point.block ≡ 0) × (r.point.symbol ≡ 0))
    by_object (Whole kind info octets) is =
        let F : Object → Type 0 = λ o. IsFinished o in
        let S : Object → Type 0 = λ o. StandsIn p o r.point.block r.point.symbol in
        (subst F (sym is) tt, subst S is stands)
    by_object (Stream parts) is = absurd (clash (sym plain ∙ stream_says plan.flags parts (at.flags ∙ ap object_flags is)))

-- the next segment of a stream is handed up
segment_holding : (p : Settings) → InRange p → (order : List Entry) (d : Point) (taken : List Up) (due : Option Position) (r : Holding) (plan : Plan)
    (symbol : List ℕ) → HoldsOf p order d taken due r → AtPoint p order r plan → plan_of r r.point.index ≡ Some plan → says_stream plan.flags ≡ true
    → next_segment r plan ≡ Some symbol → HoldsOf p order d taken due (hands_segment p r plan symbol)
segment_holding p range order d taken due r plan symbol h at known stream value = by_object at.entry.object refl
  where
    n : ℕ
    n = r.point.block * p.b + r.point.symbol

    cut : CutRange p
    cut = cut_range p range

    stands : StandsIn p at.entry.object r.point.block r.point.symbol
    stands = let S : Option Entry → Type 0 = λ o. StandsAt p o r.point.block r.point.symbol in subst S at.here h.gone.stands

    by_object : (o : Object) → at.entry.object ≡ o → HoldsOf p order d taken due (hands_segment p r plan symbol)
    by_object (Whole kind info octets) is = absurd (clash (sym (flags_say plan.flags kind info octets (at.flags ∙ ap object_flags is)).stream ∙ stream))
    by_object (Stream parts) is =
        let Z : Object → Type 0 = λ o. IsSized p o in
        let S : Object → Type 0 = λ o. StandsIn p o r.point.block r.point.symbol in
        let O : Object → Type 0 = λ o. AllByRecursion (IsOfObject p o plan.index) r.held in
        let sized = subst Z is at.sized in
        let here : StandsIn p (Stream parts) r.point.block r.point.symbol = subst S is stands in
        let of : OfOctets parts = record { octets = sized.2; few = sized.1 } in
        let planned : StreamPlan p parts r plan = record {
          fti = at.fti ∙ ap (fti_of_object p) is;
          stream = stream;
          symbols = subst O is (of_object p order r.held plan.index at.entry at.found h.symbols);
          rising = h.rising;
        } in
        let begins = value_begins p cut parts of r plan r.point.block r.point.symbol symbol planned here.0 value in
        goes parts is here planned begins (closed_there p parts n of begins.closed)
      where
        goes : (parts : List Part) → at.entry.object ≡ Stream parts → StandsIn p (Stream parts) r.point.block r.point.symbol → StreamPlan p parts r plan
            → BeginsAs p parts n symbol → ClosedAt p parts n → HoldsOf p order d taken due (hands_segment p r plan symbol)
        goes parts is here planned begins c = by_length (segment_length p symbol) refl (length c.segment.octets) long
          where
            symbol_is : symbol ≡ segment_octets c.segment ++ begins.rest
            symbol_is = begins.is ∙ ap (λ (xs : List ℕ). xs ++ begins.rest) c.sent

            long : segment_length p symbol ≡ length c.segment.octets
            long = ap (segment_length p) symbol_is ∙ length_again p c.segment begins.rest cut.most_e c.short

            told : told_up p r.point.index symbol ≡ segment_up r.point.index c.segment
            told = ap (told_up p r.point.index) symbol_is ∙ up_again p r.point.index c.segment begins.rest cut.most_e c.short c.offset

            ups : List Up
            ups = open_before r.point ++ told_up p r.point.index symbol ∷ []

            next : List Up
            next = open_before r.point ++ segment_up r.point.index c.segment ∷ []

            same : next ≡ ups
            same = ap (λ (u : Up). open_before r.point ++ u ∷ []) (sym told)

            -- the place behind the segment, by its length
            behind : ℕ → Position
            behind m = elim m [
              | zero ↦ after_object r.point.index
              | suc k ↦ elim (nat_lt (r.point.symbol + 1) (source_symbols (cut_of_plan plan) r.point.block)) [
                | true ↦ position r.point.index r.point.block (r.point.symbol + 1)
                | false ↦ position r.point.index (r.point.block + 1) 0
              ]
            ]

            moved : (to : Position) → behind (segment_length p symbol) ≡ to → Handed p order d r.lost ((taken ++ r.ups) ++ next) to → IsPlanned r.plans to
                → HoldsOf p order d taken due (hands_segment p r plan symbol)
            moved to e gone plans =
                let G : List Up → Type 0 = λ us. Handed p order d r.lost ((taken ++ r.ups) ++ us) to in
                let K : Position → Type 0 = λ point. HoldsOf p order d taken due (handed ups point r) in
                subst K (sym e) (handed_holding p order d taken due r ups to (subst G same gone) plans h)

            some_b : 1 ≤ p.b
            some_b = cut.least_b

            some_e : 0 < p.e
            some_e = let least = cut.least_e in omega (arith, least)

            empty : (xs : List ℕ) → length xs ≡ 0 → xs ≡ []
            empty [] e = refl
            empty (x ∷ xs) e = absurd (omega (arith, e))

            by_room : (m : ℕ) → segment_length p symbol ≡ suc m → 0 < length c.segment.octets → (b : Bool)
                → nat_lt (r.point.symbol + 1) (source_symbols (cut_of_plan plan) r.point.block) ≡ b → HoldsOf p order d taken due (hands_segment p r plan symbol)
            by_room m is_long octets true room =
                let size : source_symbols (cut_of_plan plan) r.point.block ≡ p.b = ap (λ k. source_symbols k r.point.block) (stream_plan_cut p parts r plan planned) in
                let lt = (Decides-ltb (r.point.symbol + 1) (source_symbols (cut_of_plan plan) r.point.block)).0 room in
                moved (position r.point.index r.point.block (r.point.symbol + 1))
                (ap behind is_long ∙ ap (λ (b : Bool). elim b [
                  | true ↦ position r.point.index r.point.block (r.point.symbol + 1)
                  | false ↦ position r.point.index (r.point.block + 1) 0
                ]) room)
                (handed_segment p order d r.lost (taken ++ r.ups) r.point at.entry parts some_b at.here is c begins.closed octets r.point.block (r.point.symbol + 1)
                (omega (arith, size, lt)) (let z : r.point.block * p.b + (r.point.symbol + 1) ≡ suc (r.point.block * p.b + r.point.symbol) = omega arith in z) h.gone)
                (known_planned r.plans r.point.index r.point.block (r.point.symbol + 1) plan known)
            by_room m is_long octets false room =
                let size : source_symbols (cut_of_plan plan) r.point.block ≡ p.b = ap (λ k. source_symbols k r.point.block) (stream_plan_cut p parts r plan planned) in
                let le = ltb-false (r.point.symbol + 1) (source_symbols (cut_of_plan plan) r.point.block) room in
                let low = here.0 in
                let step : (r.point.block + 1) * p.b ≡ r.point.block * p.b + 1 * p.b = add-mul r.point.block 1 p.b in
                moved (position r.point.index (r.point.block + 1) 0)
                (ap behind is_long ∙ ap (λ (b : Bool). elim b [
                  | true ↦ position r.point.index r.point.block (r.point.symbol + 1)
                  | false ↦ position r.point.index (r.point.block + 1) 0
                ]) room)
                (handed_segment p order d r.lost (taken ++ r.ups) r.point at.entry parts some_b at.here is c begins.closed octets (r.point.block + 1) 0
                (omega (arith, some_b)) (omega (arith, step, size, le, low)) h.gone)
                (known_planned r.plans r.point.index (r.point.block + 1) 0 plan known)

            by_length : (m : ℕ) → segment_length p symbol ≡ m → (l : ℕ) → segment_length p symbol ≡ l → HoldsOf p order d taken due (hands_segment p r plan symbol)
            by_length zero e l f =
                let none : length c.segment.octets ≡ 0 = sym long ∙ e in
                moved (after_object r.point.index) (ap behind e)
                (handed_end p order d r.lost (taken ++ r.ups) r.point at.entry parts some_b some_e at.here is c begins.closed (empty c.segment.octets none) h.gone)
                (first_planned r.plans r.point.index)
            by_length (suc m) e l f =
                let some : length c.segment.octets ≡ suc m = sym long ∙ e in
                by_room m e (omega (arith, some)) (nat_lt (r.point.symbol + 1) (source_symbols (cut_of_plan plan) r.point.block)) refl

-- what is handed up next, with the order
pub hands_holding : (p : Settings) → InRange p → (order : List Entry) (d : Point) (taken : List Up) (due : Option Position) (r after : Holding) → AreSized p order
    → HoldsOf p order d taken due r → hands_one p r ≡ Some after → HoldsOf p order d taken due after
hands_holding p range order d taken due r after sized h e = go (plan_of r r.point.index) refl e
  where
    same_state : (a b : Holding) → Some a ≡ Some b → a ≡ b
    same_state a b e = cc

    none_state : (a : Holding) → None ≡ Some a → ⊥
    none_state a e = cc

    K : Holding → Type 0
    K s = HoldsOf p order d taken due s

    next : Plan → Holding
    next plan = handed (up.Object plan.index (kind_of plan.flags) (told_info r plan) (object_octets r plan) ∷ []) (after_object plan.index) r

    whole : (plan : Plan) → AtPoint p order r plan → says_stream plan.flags ≡ false → (b : Bool) → is_whole r plan ≡ b
        → (elim b [ true ↦ Some (next plan) | false ↦ None ]) ≡ Some after → HoldsOf p order d taken due after
    whole plan at plain true done e = subst K (same_state (next plan) after e) (object_holding p range order d taken due r plan h at plain done)
    whole plan at plain false done e = absurd (none_state after e)

    segment : (plan : Plan) → AtPoint p order r plan → plan_of r r.point.index ≡ Some plan → says_stream plan.flags ≡ true → (value : Option (List ℕ))
        → next_segment r plan ≡ value → (elim value [ Some symbol ↦ Some (hands_segment p r plan symbol) | None ↦ None ]) ≡ Some after
        → HoldsOf p order d taken due after
    segment plan at known stream (Some symbol) value e =
        subst K (same_state (hands_segment p r plan symbol) after e) (segment_holding p range order d taken due r plan symbol h at known stream value)
    segment plan at known stream None value e = absurd (none_state after e)

    informed : (plan : Plan) → AtPoint p order r plan → plan_of r r.point.index ≡ Some plan → says_stream plan.flags ≡ true → (b : Bool)
        → (elim b [ true ↦ elim (next_segment r plan) [ Some symbol ↦ Some (hands_segment p r plan symbol) | None ↦ None ] | false ↦ None ]) ≡ Some after
        → HoldsOf p order d taken due after
    informed plan at known stream true e = segment plan at known stream (next_segment r plan) refl e
    informed plan at known stream false e = absurd (none_state after e)

    by_kind : (plan : Plan) → AtPoint p order r plan → plan_of r r.point.index ≡ Some plan → (b : Bool) → says_stream plan.flags ≡ b
        → (elim b [ true ↦ hands_next p r plan | false ↦ hands_object r plan ]) ≡ Some after → HoldsOf p order d taken due after
    by_kind plan at known true stream e = informed plan at known stream (has_its_info r plan) e
    by_kind plan at known false plain e = whole plan at plain (is_whole r plan) refl e

    go : (found : Option Plan) → plan_of r r.point.index ≡ found → (elim found [
      | Some plan ↦ elim (says_stream plan.flags) [ true ↦ hands_next p r plan | false ↦ hands_object r plan ]
      | None ↦ None
    ]) ≡ Some after → HoldsOf p order d taken due after
    go None is e = absurd (none_state after e)
    go (Some plan) is e = by_kind plan (at_point p order d taken due r plan sized h is) is (says_stream plan.flags) refl e
