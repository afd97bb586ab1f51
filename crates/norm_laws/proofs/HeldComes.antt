-- A true DATA or INFO of the sender's window that a receiver hears it has then: the symbol or the info is behind the hand-up point, or held, or its
-- block is done.
use Rattle.std.proofs.Common.{◌≡◌, ℕ, ◌+◌, ◌*◌, ◌/◌, ◌<◌, ◌≤◌, cond, List, [], ◌∷◌, length, Bool, true, false, Option, None, Some, refl, sym, ap, ◌∙◌, subst, arith, ◌⊎◌, inl, inr}
use Rattle.std.specs.Prelude.{slice_get, filter, find, not, nat_lt, nat_le, is_some, ◌==◌, ◌&&◌, ◌||◌, IsSomeAnd}
use Rattle.std.specs.List.{list_any}
use Rattle.std.proofs.lemmas.Bool.Decides.{Decides-eqb, Decides-ltb}
use Rattle.norm_base.specs.Settings.{Settings, InRange}
use Rattle.fec_plan.specs.Points.{Point, point_of, position, position_before}
use Rattle.fec_plan.specs.declared.position.Position.{Position}
use Rattle.fec_plan.proofs.PointLemmas.{behind_point}
use Rattle.fec_plan.proofs.PositionLemmas.{before_decides}
use Rattle.norm_ext.specs.Extensions.{Extension}
use Rattle.norm_ext.specs.Message.{InfoMessage, DataMessage}
use Rattle.norm_ext.specs.declared.fti.Fti.{Fti}
use Rattle.norm_order.specs.Entries.{Object, Whole, Stream, Entry}
use Rattle.norm_order.specs.First.{first_where}
use Rattle.norm_order.specs.Sets.{with_member, Sides, Below, Same, Above}
use Rattle.norm_order.specs.Shapes.{shape_of, encoded_in}
use Rattle.norm_order.specs.Symbols.{symbol_octets}
use Rattle.norm_order.proofs.SetLemmas.{positions}
use Rattle.norm_receive_rules.specs.Fitting.{fit_of, fitted, lets_put}
use Rattle.norm_receive_rules.specs.HandingUp.{handed_up}
use Rattle.norm_receive_rules.specs.Holding.{Holding, Plan, Held, HeldInfo}
use Rattle.norm_receive_rules.specs.Plans.{says_info, plan_of, is_over, holds, is_done, info_of, first_block}
use Rattle.norm_receive_rules.specs.Putting.{is_far, is_misfit, put_by, put_of, put_info_by, put_info_of, held_before, info_before, with_symbol, with_info, put_symbol, put_info}
use Rattle.norm_receive_rules.specs.Receiving.{object_held}
use Rattle.norm_receive_rules.specs.Seeing.{sees_block}
use Rattle.norm_receive_rules.specs.declared.words.Fit.{Fit}
use Rattle.norm_receive_rules.specs.declared.words.Fit.TheVariants as fit
use Rattle.norm_receive_rules.specs.declared.words.Put.{Put}
use Rattle.norm_receive_rules.specs.declared.words.Put.TheVariants as put
use Rattle.norm_receive_rules.proofs.HandUpLemmas.{index_of_found}
use Rattle.norm_send_rules.specs.Messages.{fti_of_object, object_flags}
use Rattle.norm_send_rules.proofs.CutNames.{cut_range}
use Rattle.norm_safety.specs.SaysSymbols.{SaysObject, info_of_object}
use Rattle.norm_safety.proofs.Holding.{some_and, flags_say}
use Rattle.norm_safety.proofs.SizedOrders.{IsSized, AreSized}
use Rattle.norm_safety.proofs.Spoken.{sized_at}
use Rattle.norm_laws.proofs.HeldFits.{Ready, ready_index, Known, FitsIn, fits_in}
use Rattle.norm_laws.proofs.HeldLengths.{PlanIs, says_its, no_misfit, stream_block, not_le, not_lt, neither}
use Rattle.norm_laws.proofs.HeldRoom.{Fits, kept_from}
use Rattle.norm_laws.proofs.HeldStays.{up_more}
use Rattle.norm_laws.proofs.HeldWords.{HasSymbol, HasInfo, HoldsMore, symbol_more, info_more, seen_more, symbol_put_more, info_put_more}

clash : false ≡ true → ⊥
clash e = cc

-- ---- the plan and the hand-up point, as the message is put

fitted_point : (word : Fit) (index : ℕ) (f : Fti) (flags : ℕ) (h : Holding) → (fitted word index f flags h).point ≡ h.point
fitted_point fit.Known index f flags h = refl
fitted_point fit.Away index f flags h = refl
fitted_point fit.Unfit index f flags h = refl
fitted_point fit.Taken index f flags h = refl

seen_known : (p : Settings) (object : Object) (at : Point) (h : Holding) (index : ℕ) → Known p object h index → Known p object (sees_block at h) index
seen_known p object at h index known =
    let later = (seen_more at h).plans index known.plan known.found in
    let same = later.2 in
    let is = known.is in
    let F : ℕ → Type 0 = λ flags. 4 * (flags / 4) ≡ object_flags object in
    record { plan = later.0; found = later.1; is = record { fti = same.fti ∙ is.fti; flags = subst F (sym same.flags) is.flags } }

-- where an object is put: it is over, or its plan is known
abbrev Placed : Settings → Object → Holding → ℕ → Type 0
Placed p object t index = (is_over t index ≡ true) ⊎ Known p object t index

over_point : (g h : Holding) (index : ℕ) → g.point ≡ h.point → is_over h index ≡ true → is_over g index ≡ true
over_point g h index same e = ap (λ (at : Position). nat_lt index at.index) same ∙ e

-- what an object's message leads to, where what it brings does so
object_comes : (P : Holding → Type 0) → ((s t : Holding) → HoldsMore s t → P s → P t)
    → (p : Settings) → InRange p → (order : List Entry) (d : Point) (at : Position) (extensions : List Extension) (flags : ℕ) (x : Entry) (brings : Holding → Holding) (h : Holding)
    → Fits p order d → Ready p order d h → slice_get order at.index ≡ Some x → IsSized p x.object → SaysObject p x.object extensions flags
    → ((t : Holding) → t.point ≡ h.point → Placed p x.object t at.index → P (brings t)) → P (object_held p at extensions flags brings h)
object_comes P lasts p range order d at extensions flags x brings h fits ready found sized says put =
    let R : Option Fti → Type 0 = λ o. P (elim o as (λ _. Holding) [
      | Some f ↦ (
          let word = fit_of p h at.index f flags in
          let s' = sees_block (point_of at) (fitted word at.index f flags h) in
          elim (lets_put word) [ true ↦ handed_up p (brings s') | false ↦ s' ]
          )
      | None ↦ handed_up p (brings (sees_block (point_of at) h))
    ]) in
    let S : Bool → Type 0 = λ b. P (elim b as (λ _. Holding) [ true ↦ handed_up p (brings seen) | false ↦ seen ]) in
    subst R (sym says.0) (subst S (sym fit.lets) (lasts (brings seen) (handed_up p (brings seen)) (up_more p (brings seen)) (put seen same (placed fit.known))))
  where
    fit : FitsIn p x.object at.index flags h
    fit = fits_in p range order d h x at.index flags fits ready found sized says.1

    word : Fit
    word = fit_of p h at.index (fti_of_object p x.object) flags

    seen : Holding
    seen = sees_block (point_of at) (fitted word at.index (fti_of_object p x.object) flags h)

    same : seen.point ≡ h.point
    same = fitted_point word at.index (fti_of_object p x.object) flags h

    placed : (is_over h at.index ≡ true) ⊎ Known p x.object (fitted word at.index (fti_of_object p x.object) flags h) at.index → Placed p x.object seen at.index
    placed (inl over) = inl (over_point seen h at.index same over)
    placed (inr known) = inr (seen_known p x.object (point_of at) (fitted word at.index (fti_of_object p x.object) flags h) at.index known)

-- ---- a symbol

-- the word of a symbol by the three tests
abbrev put_word : Bool → Bool → Bool → Put
put_word a b c = elim (first_where ((a, put.Had) ∷ (b, put.Away) ∷ (c, put.Unfit) ∷ [])) [ Some word ↦ word | None ↦ put.Kept ]

is_kept : (a b c : Bool) → a ≡ false → b ≡ false → c ≡ false → put_word a b c ≡ put.Kept
unfolding first_where
is_kept true b c e f g = absurd (clash (sym e))
is_kept false true c e f g = absurd (clash (sym f))
is_kept false false true e f g = absurd (clash (sym g))
is_kept false false false e f g = refl

-- a member that joins is there, or one at its place is
joins : (at : Position) (payload : List ℕ) (held : List Held)
    → list_any (λ (x : Held). x.at.symbol == at.symbol)
    (filter (λ (x : Held). x.at.index == at.index && x.at.block == at.block) (with_member held_before (record { at = at; octets = payload }) held)) ≡ true
unfolding with_member
joins at payload held = go held
  where
    new : Held
    new = record { at = at; octets = payload }

    among : List Held → List Held
    among xs = filter (λ (x : Held). x.at.index == at.index && x.at.block == at.block) xs

    there : List Held → Bool
    there xs = list_any (λ (x : Held). x.at.symbol == at.symbol) xs

    same_self : (n : ℕ) → (n == n) ≡ true
    same_self n = (Decides-eqb n n).1 refl

    both : (a b : Bool) → a ≡ true → b ≡ true → (a && b) ≡ true
    both true b e f = f
    both false b e f = absurd (clash e)

    or_left : (a b : Bool) → a ≡ true → (a || b) ≡ true
    or_left true b e = refl
    or_left false b e = absurd (clash e)

    or_right : (a b : Bool) → b ≡ true → (a || b) ≡ true
    or_right true b e = refl
    or_right false b e = e

    -- one at that place, in front
    in_front : (x : Held) (xs : List Held) → x.at ≡ at → there (cond (x.at.index == at.index && x.at.block == at.block) (x ∷ among xs) (among xs)) ≡ true
    in_front x xs is =
        ap (λ (b : Bool). there (cond b (x ∷ among xs) (among xs)))
        (both (x.at.index == at.index) (x.at.block == at.block) ((Decides-eqb x.at.index at.index).1 (ap (λ (q : Position). q.index) is))
        ((Decides-eqb x.at.block at.block).1 (ap (λ (q : Position). q.block) is)))
        ∙ or_left (x.at.symbol == at.symbol) (there (among xs)) ((Decides-eqb x.at.symbol at.symbol).1 (ap (λ (q : Position). q.symbol) is))

    behind : (b : Bool) (y : Held) (xs : List Held) → there xs ≡ true → there (cond b (y ∷ xs) xs) ≡ true
    behind true y xs e = or_right (y.at.symbol == at.symbol) (there xs) e
    behind false y xs e = e

    go : (xs : List Held) → there (among (with_member held_before new xs)) ≡ true
    go [] = in_front new [] refl
    go (y ∷ xs) = by_side (held_before new y) (held_before y new) refl refl (positions.sides at y.at) (go xs)
      where
        by_side : (b c : Bool) → held_before new y ≡ b → held_before y new ≡ c → Sides position_before at y.at → there (among (with_member held_before new xs)) ≡ true
            → there (among (elim b as (λ _. List Held) [
              | true ↦ new ∷ y ∷ xs
              | false ↦ elim c [ true ↦ y ∷ with_member held_before new xs | false ↦ y ∷ xs ]
            ])) ≡ true
        by_side true c e f side more = in_front new (y ∷ xs) refl
        by_side false true e f side more = behind (y.at.index == at.index && y.at.block == at.block) y (among (with_member held_before new xs)) more
        by_side false false e f (Below lt gt) more = absurd (clash (sym e ∙ lt))
        by_side false false e f (Same lt gt same) more = in_front y xs (sym same)
        by_side false false e f (Above lt gt) more = absurd (clash (sym f ∙ gt))

-- an object that is over is behind the hand-up point
over_before : (t : Holding) (at : Position) → is_over t at.index ≡ true → position_before at t.point ≡ true
over_before t at over = (before_decides at t.point).1 (inl (inl ((Decides-ltb at.index t.point.index).0 over)))

-- a symbol of the window is not too far ahead
not_far : (p : Settings) → InRange p → (order : List Entry) (d : Point) (h t : Holding) (x : Entry) (plan : Plan) (at : Position) → Fits p order d → Ready p order d h
    → t.point ≡ h.point → slice_get order at.index ≡ Some x → PlanIs p x.object plan.fti plan.flags → plan.index ≡ at.index → is_over t at.index ≡ false
    → nat_lt at.symbol (encoded_in (shape_of p x.object) at.block) ≡ true → is_far p t plan at.block ≡ false
not_far p range order d h t x plan at fits ready same found is own over e = go x.object refl
  where
    far : Bool → Bool
    far b = b && nat_le (first_block t plan.index + p.blocks) at.block

    -- the first block that was not handed up is no earlier than the window's
    kept_first : kept_from d at.index ≤ first_block t plan.index
    kept_first =
        let K : ℕ → Type 0 = λ i. kept_from d at.index ≤ first_block t i in
        subst K (sym own) (by_place (nat_lt d.index at.index) refl (t.point.index == at.index) refl)
      where
        front : (d.index < h.point.index) ⊎ ((d.index ≡ h.point.index) × (d.block ≤ h.point.block))
        front = behind_point (point_of h.point) d ready.front

        not_past : t.point.index ≤ at.index
        not_past = (let no : at.index < t.point.index → ⊥ = λ lt. clash (sym over ∙ (Decides-ltb at.index t.point.index).1 lt) in omega (arith, no))

        index : t.point.index ≡ h.point.index
        index = ap (λ (q : Position). q.index) same

        block : t.point.block ≡ h.point.block
        block = ap (λ (q : Position). q.block) same

        at_front : (d.index < h.point.index) ⊎ ((d.index ≡ h.point.index) × (d.block ≤ h.point.block)) → at.index ≤ d.index → d.block ≤ t.point.block
        at_front (inl lt) le = absurd (omega (arith, lt, le, not_past, index))
        at_front (inr here) le = let least = here.1 in omega (arith, least, block)

        there : (d.index < h.point.index) ⊎ ((d.index ≡ h.point.index) × (d.block ≤ h.point.block)) → at.index ≤ d.index → t.point.index ≡ at.index
        there (inl lt) le = absurd (omega (arith, lt, le, not_past, index))
        there (inr here) le = let is = here.0 in omega (arith, is, le, not_past, index)

        by_place : (b : Bool) → nat_lt d.index at.index ≡ b → (c : Bool) → (t.point.index == at.index) ≡ c
            → elim b as (λ _. ℕ) [ true ↦ 0 | false ↦ d.block ] ≤ elim c as (λ _. ℕ) [ true ↦ t.point.block | false ↦ 0 ]
        by_place true f c g = omega arith
        by_place false f true g =
            let le : at.index ≤ d.index = (let no : d.index < at.index → ⊥ = λ lt. clash (sym f ∙ (Decides-ltb d.index at.index).1 lt) in omega (arith, no)) in
            at_front front le
        by_place false f false g =
            let le : at.index ≤ d.index = (let no : d.index < at.index → ⊥ = λ lt. clash (sym f ∙ (Decides-ltb d.index at.index).1 lt) in omega (arith, no)) in
            absurd (clash (sym g ∙ (Decides-eqb t.point.index at.index).1 (there front le)))

    go : (o : Object) → x.object ≡ o → is_far p t plan at.block ≡ false
    go (Whole kind info octets) kind_is =
        let W : Object → Type 0 = λ o. PlanIs p o plan.fti plan.flags in
        ap far (says_its (Whole kind info octets) plan.flags (subst W kind_is is).flags)
    go (Stream parts) kind_is =
        let W : Object → Type 0 = λ o. PlanIs p o plan.fti plan.flags in
        let E : Object → Type 0 = λ o. nat_lt at.symbol (encoded_in (shape_of p o) at.block) ≡ true in
        let front_le : d.index ≤ h.point.index = ready_index p order d h ready in
        let no : at.index < t.point.index → ⊥ = λ lt. clash (sym over ∙ (Decides-ltb at.index t.point.index).1 lt) in
        let index : t.point.index ≡ h.point.index = ap (λ (q : Position). q.index) same in
        let few = fits.blocks at.index x parts found kind_is (omega (arith, front_le, no, index)) in
        let lt = stream_block p (cut_range p range) parts at.block at.symbol (kept_from d at.index + p.blocks) (subst E kind_is e) few in
        ap far (says_its (Stream parts) plan.flags (subst W kind_is is).flags) ∙ not_le (first_block t plan.index + p.blocks) at.block (omega (arith, lt, kept_first))

symbol_put : (p : Settings) → InRange p → (order : List Entry) (d : Point) (h t : Holding) (x : Entry) (at : Position) (payload : List ℕ) → Fits p order d → Ready p order d h
    → t.point ≡ h.point → slice_get order at.index ≡ Some x → IsSized p x.object → nat_lt at.symbol (encoded_in (shape_of p x.object) at.block) ≡ true
    → payload ≡ symbol_octets p x.object at.block at.symbol → Placed p x.object t at.index → HasSymbol (put_symbol p at payload t) at
symbol_put p range order d h t x at payload fits ready same found sized e is (inl over) =
    symbol_more t (put_symbol p at payload t) at (symbol_put_more p at payload t) (inl (over_before t at over))
symbol_put p range order d h t x at payload fits ready same found sized e is (inr known) =
    go (is_over t at.index) refl (holds t at || is_done t known.plan at.block) refl
  where
    plan : Plan
    plan = known.plan

    more : HasSymbol t at → HasSymbol (put_symbol p at payload t) at
    more has = symbol_more t (put_symbol p at payload t) at (symbol_put_more p at payload t) has

    word_by : Bool → Option Plan → Put
    word_by b o = elim b [ true ↦ put.Had | false ↦ elim o [ Some plan ↦ put_by p t plan at payload | None ↦ put.Away ] ]

    go : (over : Bool) → is_over t at.index ≡ over → (had : Bool) → (holds t at || is_done t plan at.block) ≡ had → HasSymbol (put_symbol p at payload t) at
    go true f had g = more (inl (over_before t at f))
    go false f true g = more (inr (plan, known.found, g))
    go false f false g =
        let own : plan.index ≡ at.index = index_of_found at.index t.plans plan known.found in
        let M : List ℕ → Type 0 = λ octets. is_misfit p plan at octets ≡ false in
        let misfit : is_misfit p plan at payload ≡ false = subst M (sym is) (no_misfit p range x.object plan at sized known.is e) in
        let kept : put_of p t at payload ≡ put.Kept =
        ap (λ (b : Bool). word_by b (plan_of t at.index)) f ∙ ap (word_by false) known.found
        ∙ is_kept (holds t at || is_done t plan at.block) (is_far p t plan at.block) (is_misfit p plan at payload) g
        (not_far p range order d h t x plan at fits ready same found known.is own f e) misfit in
        let H : Put → Type 0 = λ word. HasSymbol (with_symbol word at payload t) at in
        subst H (sym kept) (inr (plan, known.found, ap (λ (b : Bool). b || is_done (with_symbol put.Kept at payload t) plan at.block) (joins at payload t.held)))

-- A true DATA: its symbol is behind the hand-up point then, or held, or its block is done.
pub data_held : (p : Settings) → InRange p → (order : List Entry) (d : Point) (m : DataMessage) (index : ℕ) (h : Holding) → AreSized p order → Fits p order d → Ready p order d h
    → IsSomeAnd (slice_get order index) (λ (x : Entry).
    (nat_lt m.id.symbol (encoded_in (shape_of p x.object) m.id.block) ≡ true)
    × (m.payload ≡ symbol_octets p x.object m.id.block m.id.symbol) × SaysObject p x.object m.extensions m.head.flags)
    → HasSymbol (object_held p (position index m.id.block m.id.symbol) m.extensions m.head.flags (put_symbol p (position index m.id.block m.id.symbol) m.payload) h)
    (position index m.id.block m.id.symbol)
data_held p range order d m index h sized fits ready says =
    let at : Position = position index m.id.block m.id.symbol in
    let entry = some_and _ (slice_get order index) says in
    let is_sized = sized_at p order index entry.0 sized entry.1 in
    object_comes (λ s. HasSymbol s at) (λ s t more has. symbol_more s t at more has) p range order d at m.extensions m.head.flags entry.0 (put_symbol p at m.payload) h fits ready
    entry.1 is_sized entry.2.2
    (λ t same placed. symbol_put p range order d h t entry.0 at m.payload fits ready same entry.1 is_sized entry.2.0 entry.2.1 placed)

-- ---- an info

-- the info of an object among infos
abbrev told_in : ℕ → List HeldInfo → Bool
told_in index infos = is_some (elim (find (λ (x : HeldInfo). x.index == index) infos) as (λ _. Option (List ℕ)) [ Some x ↦ Some x.info | None ↦ None ])

-- an info that joins is there, or one of its object is
info_joins : (index : ℕ) (info : List ℕ) (infos : List HeldInfo) → told_in index (with_member info_before (record { index = index; info = info }) infos) ≡ true
unfolding with_member
info_joins index info infos = go infos
  where
    new : HeldInfo
    new = record { index = index; info = info }

    told_by : Option HeldInfo → Bool
    told_by found = is_some (elim found as (λ _. Option (List ℕ)) [ Some x ↦ Some x.info | None ↦ None ])

    rest : List HeldInfo → Option HeldInfo
    rest xs = find (λ (x : HeldInfo). x.index == index) xs

    in_front : (x : HeldInfo) (xs : List HeldInfo) → x.index ≡ index → told_by (cond (x.index == index) (Some x) (rest xs)) ≡ true
    in_front x xs is = ap (λ (b : Bool). told_by (cond b (Some x) (rest xs))) ((Decides-eqb x.index index).1 is)

    behind : (b : Bool) (y : HeldInfo) (found : Option HeldInfo) → told_by found ≡ true → told_by (cond b (Some y) found) ≡ true
    behind true y found e = refl
    behind false y found e = e

    go : (xs : List HeldInfo) → told_in index (with_member info_before new xs) ≡ true
    go [] = in_front new [] refl
    go (y ∷ xs) = by_side (info_before new y) (info_before y new) refl refl (go xs)
      where
        by_side : (b c : Bool) → info_before new y ≡ b → info_before y new ≡ c → told_in index (with_member info_before new xs) ≡ true
            → told_in index (elim b as (λ _. List HeldInfo) [
              | true ↦ new ∷ y ∷ xs
              | false ↦ elim c [ true ↦ y ∷ with_member info_before new xs | false ↦ y ∷ xs ]
            ]) ≡ true
        by_side true c e f more = in_front new (y ∷ xs) refl
        by_side false true e f more = behind (y.index == index) y (rest (with_member info_before new xs)) more
        by_side false false e f more =
            let a : index < y.index → ⊥ = λ lt. clash (sym e ∙ (Decides-ltb index y.index).1 lt) in
            let b : y.index < index → ⊥ = λ lt. clash (sym f ∙ (Decides-ltb y.index index).1 lt) in
            in_front y xs (let z : y.index ≡ index = omega (arith, a, b) in z)

info_put : (p : Settings) (t : Holding) (object : Object) (index : ℕ) (info : List ℕ) → IsSized p object → info_of_object object ≡ Some info → Placed p object t index
    → HasInfo (put_info p index info t) index
info_put p t object index info sized is (inl over) = info_more t (put_info p index info t) index (info_put_more p index info t) (inl over)
info_put p t object index info sized is (inr known) = go (is_over t index) refl (is_some (info_of t plan.index)) refl
  where
    plan : Plan
    plan = known.plan

    own : plan.index ≡ index
    own = index_of_found index t.plans plan known.found

    more : HasInfo t index → HasInfo (put_info p index info t) index
    more has = info_more t (put_info p index info t) index (info_put_more p index info t) has

    word_by : Bool → Option Plan → Put
    word_by b o = elim b [ true ↦ put.Had | false ↦ elim o [ Some plan ↦ put_info_by p t plan info | None ↦ put.Away ] ]

    by_had : Bool → Put
    by_had b = elim b [ true ↦ put.Had | false ↦ elim (nat_lt p.e (length info) || not (says_info plan.flags)) [ true ↦ put.Unfit | false ↦ put.Kept ] ]

    by_unfit : Bool → Put
    by_unfit b = elim b [ true ↦ put.Unfit | false ↦ put.Kept ]

    same_info : (a b : List ℕ) → Some a ≡ Some b → a ≡ b
    same_info a b e = cc

    none_info : (a : List ℕ) → None ≡ Some a → ⊥
    none_info a e = cc

    -- an object that has an info says so, and it is no longer than a symbol
    fit : (o : Object) → IsSized p o → info_of_object o ≡ Some info → 4 * (plan.flags / 4) ≡ object_flags o → (says_info plan.flags ≡ true) × (length info ≤ p.e)
    fit (Stream parts) sized e says = absurd (none_info info e)
    fit (Whole kind None octets) sized e says = absurd (none_info info e)
    fit (Whole kind (Some own) octets) sized e says =
        let L : List ℕ → Type 0 = λ xs. length xs ≤ p.e in
        ((flags_say plan.flags kind (Some own) octets says).infos, subst L (same_info own info e) sized.2)

    go : (over : Bool) → is_over t index ≡ over → (had : Bool) → is_some (info_of t plan.index) ≡ had → HasInfo (put_info p index info t) index
    go true f had g = more (inl f)
    go false f true g = more (inr (ap (λ (i : ℕ). is_some (info_of t i)) (sym own) ∙ g))
    go false f false g =
        let fits = fit object sized is known.is.flags in
        let unfit : (nat_lt p.e (length info) || not (says_info plan.flags)) ≡ false =
        neither (nat_lt p.e (length info)) (not (says_info plan.flags)) (not_lt p.e (length info) fits.1) (ap not fits.0) in
        let kept : put_info_of p t index info ≡ put.Kept =
        ap (λ (b : Bool). word_by b (plan_of t index)) f ∙ ap (word_by false) known.found ∙ ap by_had g ∙ ap by_unfit unfit in
        let H : Put → Type 0 = λ word. HasInfo (with_info word index info t) index in
        subst H (sym kept) (inr (info_joins index info t.infos))

-- A true INFO: its object is over then, or the info is held.
pub info_held : (p : Settings) → InRange p → (order : List Entry) (d : Point) (m : InfoMessage) (index : ℕ) (h : Holding) → AreSized p order → Fits p order d → Ready p order d h
    → IsSomeAnd (slice_get order index) (λ (x : Entry). (info_of_object x.object ≡ Some m.info) × SaysObject p x.object m.extensions m.head.flags)
    → HasInfo (object_held p (position index 0 0) m.extensions m.head.flags (put_info p index m.info) h) index
info_held p range order d m index h sized fits ready says =
    let entry = some_and _ (slice_get order index) says in
    let is_sized = sized_at p order index entry.0 sized entry.1 in
    object_comes (λ s. HasInfo s index) (λ s t more has. info_more s t index more has) p range order d (position index 0 0) m.extensions m.head.flags entry.0 (put_info p index m.info) h
    fits ready entry.1 is_sized entry.2.1 (λ t same placed. info_put p t entry.0.object index m.info is_sized entry.2.0 placed)
