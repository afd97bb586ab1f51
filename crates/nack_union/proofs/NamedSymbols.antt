-- The slot of a symbol, and the symbols that a request names.
use Rattle.std.proofs.Common.{◌≡◌, ℕ, suc, ◌+◌, ◌*◌, ◌/◌, ◌%◌, ◌<◌, ◌⊎◌, inl, inr, Bool, true, false, refl, ap, subst, ◌∙◌, arith}
use Rattle.std.specs.Prelude.{◌&&◌, ◌||◌, ◌==◌}
use Rattle.std.proofs.Math.Nat.{div-add-mod}
use Rattle.std.proofs.lemmas.Bool.{eq-eqb}
use Rattle.std.proofs.lemmas.Bool.Decides.{Decides-eqb, Decides-and}
use Rattle.fec_plan.specs.Points.{position}
use Rattle.fec_plan.specs.declared.position.Position.{Position}
use Rattle.norm_ext.specs.Asking.{Named, asked_symbols}
use Rattle.nack_union.specs.Slots.{symbol_slot}
use Rattle.nack_union.specs.Kept.{Marked, symbols_of_marked}
use Rattle.nack_union.specs.Adding.{names_symbol, asks_symbol, asks_slot}
use Rattle.nack_union.proofs.Lists.{In}
use Rattle.nack_union.proofs.Sources.{any_in, in_any}

pub clash : false ≡ true → ⊥
clash h = cc

pub both_of : (a b : Bool) → (a && b) ≡ true → (a ≡ true) × (b ≡ true)
both_of true b e = (refl, e)
both_of false b e = absurd (clash e)

pub of_both : (a b : Bool) → a ≡ true → b ≡ true → (a && b) ≡ true
of_both true b e f = f
of_both false b e f = absurd (clash e)

pub one_of : (a b : Bool) → (a || b) ≡ true → (a ≡ true) ⊎ (b ≡ true)
one_of true b e = inl refl
one_of false b e = inr e

pub of_left : (a b : Bool) → a ≡ true → (a || b) ≡ true
of_left true b e = refl
of_left false b e = absurd (clash e)

pub of_right : (a b : Bool) → b ≡ true → (a || b) ≡ true
of_right true b e = refl
of_right false b e = e

-- a symbol's slot asks for the symbol
pub slot_asks : (r : Named) (index block symbol : ℕ) (m : Marked) → symbol < 256
    → asks_slot r index m (symbol_slot block symbol) ≡ asks_symbol r (symbols_of_marked m) (position index block symbol)
slot_asks r index block symbol m lt = go (256 * block + symbol) refl
  where
    go : (n : ℕ) → n ≡ 256 * block + symbol → asks_slot r index m (n + 1) ≡ asks_symbol r (symbols_of_marked m) (position index block symbol)
    go n e =
        let high : n / 256 ≡ block = omega (arith, div-add-mod n 256) in
        let low : n % 256 ≡ symbol = omega (arith, div-add-mod n 256) in
        ap (asks_slot r index m) (let f : n + 1 ≡ suc n = omega arith in f)
        ∙ ap (λ b. asks_symbol r (symbols_of_marked m) (position index b (n % 256))) high
        ∙ ap (λ x. asks_symbol r (symbols_of_marked m) (position index block x)) low

-- a request that names a symbol has it among those that it asks for
pub named_in : (r : Named) (at : Position) → names_symbol r at ≡ true → In at (asked_symbols r)
named_in r at e =
    let found = any_in (λ (x : Position). x.index == at.index && x.block == at.block && x.symbol == at.symbol) (asked_symbols r) e in
    subst (λ (x : Position). In x (asked_symbols r)) (same found.0 found.2) found.1
  where
    same : (x : Position) → (x.index == at.index && x.block == at.block && x.symbol == at.symbol) ≡ true → x ≡ at
    same x f =
        let all = (Decides-and _ _ (Decides-and _ _ (Decides-eqb x.index at.index) (Decides-eqb x.block at.block)) (Decides-eqb x.symbol at.symbol)).0 f in
        ap (λ i. position i x.block x.symbol) all.0.0 ∙ ap (λ b. position at.index b x.symbol) all.0.1 ∙ ap (position at.index at.block) all.1

pub in_named : (r : Named) (at : Position) → In at (asked_symbols r) → names_symbol r at ≡ true
in_named r at here = in_any (λ (x : Position). x.index == at.index && x.block == at.block && x.symbol == at.symbol) (asked_symbols r) at here
    (of_both _ _ (of_both _ _ (eq-eqb at.index at.index refl) (eq-eqb at.block at.block refl)) (eq-eqb at.symbol at.symbol refl))
