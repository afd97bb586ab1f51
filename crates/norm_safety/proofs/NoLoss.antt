-- Hand-ups that go through an order and begin with all that was dropped report no loss.
use Rattle.std.proofs.Common.{◌≡◌, ℕ, zero, suc, ◌+◌, ◌-◌, ◌*◌, ◌/◌, ◌<◌, ◌≤◌, List, [], ◌∷◌, ◌++◌, length, take, map, Bool, true, false, refl, sym, ap, ◌∙◌, append_assoc, arith, inl, inr}
use Rattle.std.specs.Prelude.{◌||◌}
use Rattle.std.specs.List.{list_any}
use Rattle.std.proofs.Math.Nat.{div-add-mod, mod-lt, mul-le-mul_right}
use Rattle.norm_base.specs.Settings.{Settings}
use Rattle.fec_plan.specs.Points.{Point}
use Rattle.norm_order.specs.Entries.{Object, Whole, Stream, Entry}
use Rattle.norm_order.specs.Segments.{Segment, segments}
use Rattle.norm_order.specs.Upto.{segment_up, parts_of}
use Rattle.norm_order.specs.declared.up.Up.{Up}
use Rattle.norm_order.specs.declared.up.Up.TheVariants as up
use Rattle.norm_safety.specs.Fronts.{IsFront}
use Rattle.norm_safety.specs.InOrder.{GoesThrough, Stops, Hands, Loses, Within, IsLess, IsHandedOf, whole_blocks}
use Rattle.norm_safety.specs.LosesNothing.{is_loss}
use Rattle.norm_safety.proofs.EntryLemmas.{clash}
use Rattle.norm_safety.proofs.DropsLemmas.{blocks_parts, drops}
use Rattle.norm_safety.proofs.Passed.{was_droppable, Droppable}

head_of : (a b : Up) (xs ys : List Up) → (a ∷ xs) ≡ (b ∷ ys) → a ≡ b
head_of a b xs ys e = cc

tail_of : (a b : Up) (xs ys : List Up) → (a ∷ xs) ≡ (b ∷ ys) → xs ≡ ys
tail_of a b xs ys e = cc

cancel : (xs ys zs : List Up) → xs ++ ys ≡ xs ++ zs → ys ≡ zs
cancel [] ys zs e = e
cancel (x ∷ xs) ys zs e = cancel xs ys zs (tail_of x x (xs ++ ys) (xs ++ zs) e)

any_append : (xs ys : List Up) → list_any is_loss (xs ++ ys) ≡ (list_any is_loss xs || list_any is_loss ys)
any_append [] ys = refl
any_append (x ∷ xs) ys = ap (λ (b : Bool). is_loss x || b) (any_append xs ys) ∙ sym (or_assoc (is_loss x) (list_any is_loss xs) (list_any is_loss ys))
  where
    or_assoc : (a b c : Bool) → ((a || b) || c) ≡ (a || (b || c))
    or_assoc true b c = refl
    or_assoc false b c = refl

neither : (a b : Bool) → (a || b) ≡ false → (a ≡ false) × (b ≡ false)
neither true b e = absurd (clash (sym e))
neither false b e = (refl, e)

both_false : (a b : Bool) → a ≡ false → b ≡ false → (a || b) ≡ false
both_false true b e f = e
both_false false b e f = f

-- no part of an object is a loss
segments_none : (index : ℕ) (all : List Segment) → list_any is_loss (map (segment_up index) all) ≡ false
segments_none index [] = refl
segments_none index (s ∷ all) = both_false _ (list_any is_loss (map (segment_up index) all)) (one s.octets) (segments_none index all)
  where
    one : (octets : List ℕ) → is_loss (elim octets [ [] ↦ up.StreamEnd index | octet ∷ more ↦ up.StreamBytes index s.offset (octet ∷ more) ]) ≡ false
    one [] = refl
    one (octet ∷ more) = refl

parts_none : (p : Settings) (index : ℕ) (o : Object) → list_any is_loss (parts_of p index o) ≡ false
parts_none p index (Whole kind info octets) = refl
parts_none p index (Stream parts) = segments_none index (segments p.e parts)

-- behind a front of parts that are no loss there stands the next one, and no loss
not_lost : (index : ℕ) (front rest more tail : List Up) (next : Up) → list_any is_loss (front ++ next ∷ more) ≡ false
    → front ++ up.Lost index ∷ rest ≡ (front ++ next ∷ more) ++ tail → ⊥
not_lost index front rest more tail next none e =
    let same = cancel front (up.Lost index ∷ rest) (next ∷ (more ++ tail)) (e ∙ append_assoc front (next ∷ more) tail) in
    let is : up.Lost index ≡ next = head_of (up.Lost index) next rest (more ++ tail) same in
    let behind = (neither _ _ (sym (any_append front (next ∷ more)) ∙ none)).1 in
    clash (sym (neither (is_loss next) (list_any is_loss more) behind).0 ∙ ap is_loss (sym is))

less_none : (front whole : List Up) → IsLess front whole → list_any is_loss whole ≡ false → list_any is_loss front ≡ false
less_none front whole (next, more, is) none = (neither _ _ (sym (any_append front (next ∷ more)) ∙ ap (list_any is_loss) (sym is) ∙ none)).0

-- a front of a list is less than more of it
take_behind : (front more : List Up) (next : Up) (n : ℕ) → length front < n → (rest : List Up) × (take n (front ++ next ∷ more) ≡ front ++ next ∷ rest)
take_behind front more next zero lt = absurd (omega arith)
take_behind [] more next (suc n) lt = (take n more, refl)
take_behind (x ∷ front) more next (suc n) lt =
    let rest = take_behind front more next n (omega arith) in (rest.0, ap (λ (xs : List Up). x ∷ xs) rest.1)

-- the number of parts, by the blocks that they make whole
few_parts : (b n block : ℕ) → 0 < b → (n - 1) / b < block → n < 1 + block * b
few_parts b n block some lt =
    let whole = div-add-mod (n - 1) b in
    let less = mod-lt (n - 1) some in
    let more : (suc ((n - 1) / b)) * b ≤ block * b = mul-le-mul_right b lt in
    let next : (suc ((n - 1) / b)) * b ≡ b + (n - 1) / b * b = omega arith in
    omega (arith, whole, less, more, next)

pub no_loss : (p : Settings) → 0 < p.b → (d : Point) (index : ℕ) (order : List Entry) (ups : List Up) → GoesThrough p d index order ups
    → ((k : ℕ) → index + k ≡ d.index → IsFront (drops p index k d.block order) ups) → list_any is_loss ups ≡ false
no_loss p some d index order [] Stops front = refl
no_loss p some d index (_ ∷ order) _ (Hands {rest = rest} x goes) front =
    any_append (parts_of p index x.object) rest
    ∙ both_false _ (list_any is_loss rest) (parts_none p index x.object) (no_loss p some d (suc index) order rest goes later)
  where
    later : (k : ℕ) → suc index + k ≡ d.index → IsFront (drops p (suc index) k d.block order) rest
    later k e =
        let all = front (suc k) (omega arith) in (
          all.0,
          cancel (parts_of p index x.object) rest (drops p (suc index) k d.block order ++ all.0)
              (all.1 ∙ append_assoc (parts_of p index x.object) (drops p (suc index) k d.block order) all.0),
        )
no_loss p some d index (_ ∷ order) _ (Loses {rest = rest} x part handed may goes) front = absurd (never (was_droppable p d index x.object (length part) may))
  where
    less : (o : Object) → x.object ≡ o → IsHandedOf p index o part → IsLess part (parts_of p index x.object)
    less (Whole kind info octets) is none =
        (up.Object index kind info octets, [], ap (parts_of p index) is ∙ ap (λ (ups : List Up). ups ++ up.Object index kind info octets ∷ []) (sym none))
    less (Stream parts) is (next, more, whole) = (next, more, ap (parts_of p index) is ∙ whole)

    shorter : IsLess part (parts_of p index x.object)
    shorter = less x.object refl handed

    clean : list_any is_loss (part ++ shorter.0 ∷ shorter.1) ≡ false
    clean = ap (list_any is_loss) (sym shorter.2) ∙ parts_none p index x.object

    behind : (tail : List Up) → part ++ up.Lost index ∷ rest ≡ parts_of p index x.object ++ tail → ⊥
    behind tail e = not_lost index part rest shorter.1 tail shorter.0 clean (e ∙ ap (λ (ups : List Up). ups ++ tail) shorter.2)

    within : (block : ℕ) → whole_blocks p (length part) < block → (tail : List Up) → part ++ up.Lost index ∷ rest ≡ blocks_parts p index block x.object ++ tail → ⊥
    within zero lt tail e = omega arith
    within (suc n) lt tail e =
        let count = few_parts p.b (length part) (suc n) some lt in
        let taken = take_behind part shorter.1 shorter.0 (1 + suc n * p.b) count in
        let is : take (1 + suc n * p.b) (parts_of p index x.object) ≡ part ++ shorter.0 ∷ taken.0 = ap (take (1 + suc n * p.b)) shorter.2 ∙ taken.1 in
        let none = front_none (1 + suc n * p.b) (parts_of p index x.object) (parts_none p index x.object) in
        not_lost index part rest taken.0 tail shorter.0 (ap (list_any is_loss) (sym is) ∙ none) (e ∙ ap (λ (ups : List Up). ups ++ tail) is)
      where
        front_none : (n : ℕ) (ups : List Up) → list_any is_loss ups ≡ false → list_any is_loss (take n ups) ≡ false
        front_none zero ups none = refl
        front_none (suc n) [] none = refl
        front_none (suc n) (x ∷ ups) none =
            let two = neither (is_loss x) (list_any is_loss ups) none in both_false (is_loss x) (list_any is_loss (take n ups)) two.0 (front_none n ups two.1)

    never : Droppable p d index x.object (length part) → ⊥
    never (inl lt) =
        let all = front (suc (d.index - suc index)) (omega arith) in
        behind (drops p (suc index) (d.index - suc index) d.block order ++ all.0)
        (all.1 ∙ append_assoc (parts_of p index x.object) (drops p (suc index) (d.index - suc index) d.block order) all.0)
    never (inr (same, stream, lt)) =
        let all = front 0 (omega arith) in within d.block lt all.0 all.1
no_loss p some d index (_ ∷ order) ups (Within x part stream handed) front = by_object x.object refl handed
  where
    by_object : (o : Object) → x.object ≡ o → IsHandedOf p index o ups → list_any is_loss ups ≡ false
    by_object (Whole kind info octets) is none = ap (list_any is_loss) none
    by_object (Stream parts) is less = less_none ups (parts_of p index (Stream parts)) less (parts_none p index (Stream parts))
