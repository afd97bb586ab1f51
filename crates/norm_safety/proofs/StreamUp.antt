-- A source symbol that begins as a segment is handed up as it.
use Rattle.std.proofs.Common.{◌≡◌, ℕ, zero, suc, ◌<◌, ◌≤◌, List, [], ◌∷◌, ◌++◌, length, take, drop, refl, sym, ap, ◌∙◌, arith}
use Rattle.std.specs.Prelude.{min}
use Rattle.std.proofs.Math.Seq.{take-append_seam}
use Rattle.norm_base.specs.Settings.{Settings}
use Rattle.norm_ext.specs.Numbers.{number}
use Rattle.norm_order.specs.Segments.{Segment}
use Rattle.norm_order.specs.Symbols.{segment_octets}
use Rattle.norm_order.specs.Upto.{segment_up}
use Rattle.norm_order.specs.declared.up.Up.{Up}
use Rattle.norm_order.specs.declared.up.Up.TheVariants as up
use Rattle.norm_receive_rules.specs.HandingUp.{segment_length, segment_up as told_up}

number_again : (g : Segment) (rest : List ℕ) → length g.octets < 65536 → number 2 0 (segment_octets g ++ rest) ≡ length g.octets
number_again g rest lt = omega (arith, lt)

offset_again : (g : Segment) (rest : List ℕ) → g.offset < 4294967296 → number 4 4 (segment_octets g ++ rest) ≡ g.offset
offset_again g rest lt = omega (arith, lt)

octets_again : (g : Segment) (rest : List ℕ) → take (length g.octets) (drop 8 (segment_octets g ++ rest)) ≡ g.octets
octets_again g rest = take-append_seam g.octets rest

pub length_again : (p : Settings) (g : Segment) (rest : List ℕ) → p.e ≤ 1400 → length g.octets ≤ p.e → segment_length p (segment_octets g ++ rest) ≡ length g.octets
length_again p g rest most short =
    ap (λ (n : ℕ). min n p.e) (number_again g rest (omega (arith, most, short))) ∙ (let z : min (length g.octets) p.e ≡ length g.octets = omega (arith, short) in z)

pub up_again : (p : Settings) (index : ℕ) (g : Segment) (rest : List ℕ) → p.e ≤ 1400 → length g.octets ≤ p.e → g.offset < 4294967296
    → told_up p index (segment_octets g ++ rest) ≡ segment_up index g
up_again p index g rest most short low = go g.octets refl
  where
    symbol : List ℕ
    symbol = segment_octets g ++ rest

    by_length : ℕ → Up
    by_length n = elim n [
      | zero ↦ up.StreamEnd index
      | suc m ↦ up.StreamBytes index (number 4 4 symbol) (take (suc m) (drop 8 symbol))
    ]

    by_octets : List ℕ → Up
    by_octets octets = elim octets [ [] ↦ up.StreamEnd index | octet ∷ more ↦ up.StreamBytes index g.offset (octet ∷ more) ]

    go : (octets : List ℕ) → g.octets ≡ octets → by_length (segment_length p symbol) ≡ by_octets g.octets
    go [] e = ap by_length (length_again p g rest most short ∙ ap (λ (xs : List ℕ). length xs) e) ∙ ap by_octets (sym e)
    go (octet ∷ more) e =
        ap by_length (length_again p g rest most short ∙ ap (λ (xs : List ℕ). length xs) e)
        ∙ ap (λ (n : ℕ). up.StreamBytes index n (take (suc (length more)) (drop 8 symbol))) (offset_again g rest low)
        ∙ ap (λ (n : ℕ). up.StreamBytes index g.offset (take n (drop 8 symbol))) (sym (ap (λ (xs : List ℕ). length xs) e))
        ∙ ap (λ (xs : List ℕ). up.StreamBytes index g.offset xs) (octets_again g rest ∙ e)
        ∙ ap by_octets (sym e)
