-- Ids and the indices that they name.
use Rattle.std.proofs.Common.{◌≡◌, ℕ, ◌+◌, ◌<◌, ◌≤◌, ◌%◌, Some, refl, sym, ◌∙◌, ap, arith}
use Rattle.norm_base.specs.Settings.{Settings}
use Rattle.norm_ext.specs.ObjectIds.{object_id, ids_from, index_round_below, index_named}
use Rattle.norm_ext.specs.Laws.{NamesNearest, NamedAgain, IsNear}

-- the index that is a round below
below_is : (n index : ℕ) → n ≡ index + 65536 → index ≤ 4294967294 → index_round_below n ≡ Some index
below_is n index e most = grind arith

-- and none is any other
below_was : (n index : ℕ) → index_round_below n ≡ Some index → (n ≡ index + 65536) × (index ≤ 4294967294)
below_was n index e = grind arith

-- of a number and one at most a round behind it, the second by the ids of both
steps_are : (first lowest n : ℕ) → lowest ≤ n → n < lowest + 65536 → lowest + ids_from ((first + lowest) % 65536) ((first + n) % 65536) ≡ n
steps_are first lowest n low high = omega arith

-- ids go round
id_round : (first index : ℕ) → (first + (index + 65536)) % 65536 ≡ (first + index) % 65536
id_round first index = omega arith

-- so many steps behind a number stands the id that they lead to
id_behind : (first lowest object : ℕ) → object < 65536 → (first + (lowest + ids_from ((first + lowest) % 65536) object)) % 65536 ≡ object
id_behind first lowest object h = omega arith

few_steps : (from object : ℕ) → ids_from from object < 65536
few_steps from object = omega arith

named_at : (p : Settings) (known object index : ℕ) → IsNear known index → object_id p index ≡ object → index_named p known object ≡ Some index
named_at p known object index near e =
    let lowest : ℕ = known + 32768 in
    let n : ℕ = index + 65536 in
    let low : lowest ≤ n = (let h = near.0 in omega (arith, h)) in
    let high : n < lowest + 65536 = (let h = near.1 in omega (arith, h)) in
    let steps = steps_are p.first lowest n low high in
    let same : (p.first + n) % 65536 ≡ object = id_round p.first index ∙ e in
    below_is (lowest + ids_from ((p.first + lowest) % 65536) object) index
    (ap (λ (o : ℕ). lowest + ids_from ((p.first + lowest) % 65536) o) (sym same) ∙ steps) near.2

named_was : (p : Settings) (known object index : ℕ) → object < 65536 → index_named p known object ≡ Some index → IsNear known index × (object_id p index ≡ object)
named_was p known object index h e =
    let lowest : ℕ = known + 32768 in
    let from : ℕ = (p.first + lowest) % 65536 in
    let is = below_was (lowest + ids_from from object) index e in
    let few = few_steps from object in
    let at = is.0 in (
      (omega (arith, at), omega (arith, at, few), is.1),
      sym (id_round p.first index) ∙ ap (λ (n : ℕ). (p.first + n) % 65536) (sym at) ∙ id_behind p.first lowest object h,
    )

pub names_nearest_law : NamesNearest
names_nearest_law p known object index h = (named_was p known object index h, λ (near, e). named_at p known object index near e)

pub named_again_law : NamedAgain
named_again_law p known index low high most =
    named_at p known (object_id p index) index (omega arith, high, most) refl
