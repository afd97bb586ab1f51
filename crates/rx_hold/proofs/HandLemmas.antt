-- A whole object holds a symbol at least; and where so many hand-ups lead.
use Rattle.std.proofs.Common.{◌≡◌, ℕ, zero, suc, ◌+◌, ◌-◌, ◌<◌, ◌≤◌, Bool, true, false, cond, refl, ap, ◌∙◌, arith, Option, Some, None, List, [], ◌∷◌, length}
use Rattle.std.specs.Prelude.{filter, ◌&&◌}
use Rattle.std.proofs.lemmas.Bool.{eqb-true}
use Rattle.std.specs.List.{list_all, range_with_len}
use Rattle.norm_base.specs.Settings.{Settings}
use Rattle.fec_plan.specs.Partition.{IsSound, Cut, cut_of, stream_cut, blocks, blocks_in, source_symbols, symbols_in}
use Rattle.fec_plan.proofs.CutLemmas.{some_blocks}
use Rattle.fec_plan.proofs.CoverLemmas.{few_blocks, small_some, between}
use Rattle.norm_receive_rules.specs.Holding.{Holding, Plan, Held}
use Rattle.norm_receive_rules.specs.Plans.{cut_of_plan, says_stream, is_done, lacking, held_of, has_its_info}
use Rattle.norm_receive_rules.specs.HandingUp.{is_whole, hands_one, hands_most, handed_up}
use Rattle.rx_object.specs.ObjectState.{ObjectState, alone}

-- ---- a whole object holds a symbol at least

sources_of : (plan : Plan) → says_stream plan.flags ≡ false → IsSound (cut_of_plan plan) → 1 ≤ source_symbols (cut_of_plan plan) 0
sources_of plan object sound =
    go (says_stream plan.flags) object sound
  where
    go : (b : Bool) → b ≡ false → IsSound (elim b as (λ _. Cut) [ true ↦ stream_cut plan.fti.e plan.fti.b plan.fti.max_n | false ↦ cut_of plan.fti.l plan.fti.e plan.fti.b plan.fti.max_n ])
        → 1 ≤ source_symbols (elim b as (λ _. Cut) [ true ↦ stream_cut plan.fti.e plan.fti.b plan.fti.max_n | false ↦ cut_of plan.fti.l plan.fti.e plan.fti.b plan.fti.max_n ]) 0
    go true e is = absurd (cc)
    go false e is =
        let t = symbols_in plan.fti.l plan.fti.e in
        let n = blocks_in t plan.fti.b in
        let some : 0 < t = is.some in
        let least = small_some t n (some_blocks t plan.fti.b some (let b = is.least_b in omega arith)) (few_blocks t plan.fti.b some (let b = is.least_b in omega arith)) in
        omega (arith, (between t n 0).0, least)

both : (a b : Bool) → (a && b) ≡ true → (a ≡ true) × (b ≡ true)
both true true e = (refl, refl)
both true false e = absurd (cc)
both false b e = absurd (cc)

some_block : (test : ℕ → Bool) (n : ℕ) → 0 < n → list_all test (range_with_len 0 n) ≡ true → test 0 ≡ true
some_block test zero some e = absurd (omega arith)
some_block test (suc n) some e = (both (test 0) (list_all test (range_with_len 1 n)) e).0

filter_fewer : (X : Type 0) (q : X → Bool) (xs : List X) → length (filter q xs) ≤ length xs
filter_fewer X q [] = omega arith
filter_fewer X q (x ∷ xs) = go (q x) (filter_fewer X q xs)
  where
    go : (b : Bool) → length (filter q xs) ≤ length xs → length (cond b (x ∷ filter q xs) (filter q xs)) ≤ suc (length xs)
    go true le = omega arith
    go false le = omega arith

blocks_of : (plan : Plan) → says_stream plan.flags ≡ false → IsSound (cut_of_plan plan) → 0 < blocks (cut_of_plan plan)
blocks_of plan object sound = go (says_stream plan.flags) object sound
  where
    go : (b : Bool) → b ≡ false → IsSound (elim b as (λ _. Cut) [ true ↦ stream_cut plan.fti.e plan.fti.b plan.fti.max_n | false ↦ cut_of plan.fti.l plan.fti.e plan.fti.b plan.fti.max_n ])
        → 0 < blocks (elim b as (λ _. Cut) [ true ↦ stream_cut plan.fti.e plan.fti.b plan.fti.max_n | false ↦ cut_of plan.fti.l plan.fti.e plan.fti.b plan.fti.max_n ])
    go true e is = absurd (cc)
    go false e is = some_blocks (symbols_in plan.fti.l plan.fti.e) plan.fti.b is.some (let b = is.least_b in omega arith)

pub holds_some : (o : ObjectState) → says_stream o.plan.flags ≡ false → IsSound (cut_of_plan o.plan) → is_whole (alone o) o.plan ≡ true → 1 ≤ length o.held
holds_some o object sound whole =
    let done : is_done (alone o) o.plan 0 ≡ true =
    some_block (is_done (alone o) o.plan) (blocks (cut_of_plan o.plan)) (blocks_of o.plan object sound)
    (both (has_its_info (alone o) o.plan) (list_all (is_done (alone o) o.plan) (range_with_len 0 (blocks (cut_of_plan o.plan)))) whole).1 in
    let none : lacking (alone o) o.plan 0 ≡ 0 = eqb-true (lacking (alone o) o.plan 0) 0 done in
    let some : 1 ≤ source_symbols (cut_of_plan o.plan) 0 = sources_of o.plan object sound in
    let few : length (held_of (alone o) o.plan.index 0) ≤ length o.held = filter_fewer Held _ o.held in
    omega arith

-- ---- all hand-ups

hands_none_more : (k : ℕ) (p : Settings) (s : Holding) → hands_one p s ≡ None → hands_most k p s ≡ s
unfolding hands_most
hands_none_more zero p s e = refl
hands_none_more (suc k) p s e = ap (λ (found : Option Holding). elim found as (λ _. Holding) [ Some after ↦ hands_most k p after | None ↦ s ]) e

-- n hand-ups lead from one state to the other
pub record Leads (p : Settings) (s : Holding) (n : ℕ) (after : Holding) : Type 0 where
  pub on : (k : ℕ) → hands_most (n + k) p s ≡ hands_most k p after

one_more : (k : ℕ) (p : Settings) (s after : Holding) → hands_one p s ≡ Some after → hands_most (suc k) p s ≡ hands_most k p after
unfolding hands_most
one_more k p s after e = ap (λ (found : Option Holding). elim found as (λ _. Holding) [ Some t ↦ hands_most k p t | None ↦ s ]) e

pub leads_on : (p : Settings) (s : Holding) (n : ℕ) (middle after : Holding) → Leads p s n middle → hands_one p middle ≡ Some after → Leads p s (n + 1) after
leads_on p s n middle after leads e = record {
  on = λ k.
      ap (λ j. hands_most j p s) (let j : n + 1 + k ≡ n + suc k = omega arith in j)
      ∙ leads.on (suc k) ∙ one_more k p middle after e;
}

pub leads_to_end : (p : Settings) (s : Holding) (n : ℕ) (after : Holding) → Leads p s n after → hands_one p after ≡ None → n ≤ length s.held → handed_up p s ≡ after
leads_to_end p s n after leads e le =
    ap (λ k. hands_most k p s) (let k : length s.held ≡ n + (length s.held - n) = omega arith in k)
    ∙ leads.on (length s.held - n) ∙ hands_none_more (length s.held - n) p after e
