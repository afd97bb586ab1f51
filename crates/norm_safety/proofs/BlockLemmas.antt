-- What is held of a block of an object of octets: encoded symbols of the block, none of them twice.
use Rattle.std.proofs.Common.{◌≡◌, ℕ, ◌<◌, ◌≤◌, Bool, true, false, refl, sym, ap, ◌∙◌, arith, List, [], ◌∷◌, map, length, get_or, take}
use Rattle.std.specs.Prelude.{min, nat_eq, ◌==◌, Option, Some, None, ⊤}
use Rattle.std.specs.List.{AllByRecursion, IsDistinct}
use Rattle.std.proofs.lemmas.Bool.{eqb-true, ne_eqb}
use Rattle.std.proofs.lemmas.List.{ext_get_or, get_or-take, length-take, take_all, length-map}
use Rattle.gf_field.specs.Element.{AreElements}
use Rattle.gf_field.specs.Power.{power}
use Rattle.gf_field.specs.Symbol.{octets_at, symbol_at, given, solved_symbol}
use Rattle.gf_field.proofs.Powers.{same_from_power}
use Rattle.gf_field.proofs.Symbols.{length-symbol_at}
use Rattle.norm_receive_rules.specs.Holding.{Held}
use Rattle.norm_receive_rules.specs.BlockValue.{ids_of, octets_of_held}
use Rattle.norm_safety.proofs.SolvedLemmas.{coded_at, own_octet, solved_octet}

-- an encoded symbol of the block that has these sources; a source symbol may be shorter than the coded size
pub record IsCoded (size : ℕ) (sources : List (List ℕ)) (h : Held) : Type 0 where
  pub below : h.at.symbol < 255
  pub octets : AreElements h.octets
  pub coded : (t : ℕ) → t < size → get_or h.octets t 0 ≡ coded_at size sources t h.at.symbol
  pub own : h.at.symbol < length sources → h.octets ≡ get_or sources h.at.symbol []

-- each number is below all that follow it
abbrev pub Climbing : List ℕ → Type 0
Climbing [] = ⊤
Climbing (x ∷ xs) = AllByRecursion (λ y. x < y) xs × Climbing xs

-- ---- ids that climb have different places

apart_from : (x : ℕ) (held : List Held) (size : ℕ) (sources : List (List ℕ)) → x < 255 → AllByRecursion (λ y. x < y) (ids_of held)
    → AllByRecursion (IsCoded size sources) held → AllByRecursion (λ y. nat_eq (power x) y ≡ false) (map power (ids_of held))
apart_from x [] size sources low up are = tt
apart_from x (h ∷ held) size sources low up are = (
  ne_eqb (power x) (power h.at.symbol) (λ same. let e = same_from_power x h.at.symbol low are.0.below same in absurd (omega (arith, e, up.0))),
  apart_from x held size sources low up.1 are.1,
)

pub distinct_places : (size : ℕ) (sources : List (List ℕ)) (held : List Held) → Climbing (ids_of held) → AllByRecursion (IsCoded size sources) held
    → IsDistinct nat_eq (map power (ids_of held))
unfolding IsDistinct
distinct_places size sources [] up are = tt
distinct_places size sources (h ∷ held) up are =
    (apart_from h.at.symbol held size sources are.0.below up.0 are.1, distinct_places size sources held up.1 are.1)

-- ---- the octets of what is held

held_octets : (size : ℕ) (sources : List (List ℕ)) (held : List Held) → AllByRecursion (IsCoded size sources) held → AllByRecursion AreElements (octets_of_held held)
held_octets size sources [] are = tt
held_octets size sources (h ∷ held) are = (are.0.octets, held_octets size sources held are.1)

coded_values : (size t : ℕ) (sources : List (List ℕ)) (held : List Held) → t < size → AllByRecursion (IsCoded size sources) held
    → map (coded_at size sources t) (ids_of held) ≡ octets_at t (octets_of_held held)
coded_values size t sources [] lt are = refl
coded_values size t sources (h ∷ held) lt are =
    ap (λ v. v ∷ map (coded_at size sources t) (ids_of held)) (sym (are.0.coded t lt))
    ∙ ap (λ vs. get_or h.octets t 0 ∷ vs) (coded_values size t sources held lt are.1)

given_own : (size j : ℕ) (sources : List (List ℕ)) (held : List Held) (s : List ℕ) → j < length sources → AllByRecursion (IsCoded size sources) held
    → given (ids_of held) (octets_of_held held) j ≡ Some s → s ≡ get_or sources j []
unfolding given
given_own size j sources [] s lt are e = absurd (cc e)
given_own size j sources (h ∷ held) s lt are e = go (h.at.symbol == j) refl e (given_own size j sources held s lt are.1)
  where
    go : (b : Bool) → (h.at.symbol == j) ≡ b
        → ◌≡◌ {A = Option (List ℕ)} (elim b [ true ↦ Some h.octets | false ↦ given (ids_of held) (octets_of_held held) j ]) (Some s)
        → (given (ids_of held) (octets_of_held held) j ≡ Some s → s ≡ get_or sources j []) → s ≡ get_or sources j []
    go true same is rest =
        let at = eqb-true h.at.symbol j same in
        let mine : h.octets ≡ get_or sources j [] = are.0.own (omega (arith, at, lt)) ∙ ap (λ i. get_or sources i []) at in
        let got : h.octets ≡ s = cc is in
        sym got ∙ mine
    go false same is rest = rest is

-- ---- a source symbol of a block is solved, but for zeros behind it

pub solved_front : (size j n : ℕ) (sources : List (List ℕ)) (held : List Held) → length sources ≤ 255 → AllByRecursion AreElements sources
    → j < length sources → length (get_or sources j []) ≡ min size n → length sources ≤ length held → Climbing (ids_of held)
    → AllByRecursion (IsCoded size sources) held
    → take n (solved_symbol size (ids_of held) (octets_of_held held) j) ≡ get_or sources j []
unfolding solved_symbol
solved_front size j n sources held most octets lt long enough up are = go (given (ids_of held) (octets_of_held held) j) refl
  where
    go : (o : Option (List ℕ)) → given (ids_of held) (octets_of_held held) j ≡ o
        → take n (elim o [ Some s ↦ s | None ↦ symbol_at size (map power (ids_of held)) (octets_of_held held) (power j) ]) ≡ get_or sources j []
    go (Some s) e =
        let is : s ≡ get_or sources j [] = given_own size j sources held s lt are e in
        ap (take n) is ∙ take_all n (get_or sources j []) (omega (arith, long))
    go None e =
        let computed : List ℕ = symbol_at size (map power (ids_of held)) (octets_of_held held) (power j) in
        let size-is : length computed ≡ size = length-symbol_at size (map power (ids_of held)) (octets_of_held held) (power j) in
        let cut : length (take n computed) ≡ min n (length computed) = length-take n computed in
        ext_get_or 0 (take n computed) (get_or sources j [])
        (omega (arith, cut, size-is, long))
        (λ t h.
        let below : t < min n size = omega (arith, cut, size-is, h) in
        let within : t < size = omega (arith, below) in
        get_or-take n computed t 0 (omega (arith, below))
        ∙ solved_octet size t j sources (ids_of held) (octets_of_held held) most octets within
        (distinct_places size sources held up are) (held_octets size sources held are)
        (let z : length (ids_of held) ≡ length held = length-map held (λ (h : Held). h.at.symbol) in omega (arith, z, enough))
        (coded_values size t sources held within are)
        ∙ own_octet size t j sources most octets within lt)
