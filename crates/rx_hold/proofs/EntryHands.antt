-- The hand-up at a stream where the hand-up point is, from the stream by itself.
use Rattle.std.proofs.Common.{◌≡◌, ℕ, ◌+◌, Bool, true, false, refl, sym, ap, ◌∙◌, subst, arith, Option, Some, None, List}
use Rattle.std.specs.Prelude.{option_map, is_some, ◌==◌}
use Rattle.norm_base.specs.Settings.{Settings}
use Rattle.fec_plan.specs.Partition.{coded_octets}
use Rattle.fec_plan.specs.Points.{position}
use Rattle.fec_plan.specs.declared.position.Position.{Position}
use Rattle.gf_field.specs.Symbol.{solved_symbol}
use Rattle.norm_order.specs.declared.up.Up.{Up}
use Rattle.norm_receive_rules.specs.BlockValue.{ids_of, octets_of_held, held_symbol, block_value}
use Rattle.norm_receive_rules.specs.HandingUp.{hands_object, hands_one, hands_segment, next_segment}
use Rattle.norm_receive_rules.specs.Holding.{Holding, Plan, Held}
use Rattle.norm_receive_rules.specs.Plans.{cut_of_plan, has_its_info, info_of, is_done, held_of, plan_of, says_info, says_stream}
use Rattle.rx_hold.specs.EntryState.{EntryState, alone_in}
use Rattle.rx_hold.specs.EntryHold.{AreAsFar, PlacedEntries, StandsFor, entry_at}
use Rattle.rx_hold.proofs.EntryLemmas.{AreAlikeAt, done_at}
use Rattle.rx_hold.proofs.EntryStands.{alike_at, info_at, placed_at, plan_found, view_with}
use Rattle.rx_hold.proofs.EntryWords.{first_at_place, is_ahead}

-- a source symbol, by what is held of its block
abbrev value_by : Plan → Bool → List Held → ℕ → Option (List ℕ)
value_by plan done held symbol = elim done as (λ _. Option (List ℕ)) [
  | true ↦ Some (solved_symbol (coded_octets (cut_of_plan plan)) (ids_of held) (octets_of_held held) symbol)
  | false ↦ elim (says_stream plan.flags) as (λ _. Option (List ℕ)) [ true ↦ held_symbol held symbol | false ↦ None ]
]

pub value_at : (s t : Holding) (plan : Plan) (block symbol : ℕ) → AreAlikeAt s t plan.index block → block_value s plan block symbol ≡ block_value t plan block symbol
value_at s t plan block symbol alike =
    ap (λ b. value_by plan b (held_of s plan.index block) symbol) (done_at s t plan block alike)
    ∙ ap (λ (held : List Held). value_by plan (is_done t plan block) held symbol) alike.held

abbrev told_by : Plan → Option (List ℕ) → Bool
told_by plan info = elim (says_info plan.flags) as (λ _. Bool) [ true ↦ is_some info | false ↦ true ]

-- the hand-up at an object with a plan
abbrev at_plan : Settings → Holding → Bool → Plan → Option Holding
at_plan p s stream plan = elim stream as (λ _. Option Holding) [
  | true ↦ elim (has_its_info s plan) as (λ _. Option Holding) [
    | true ↦ elim (next_segment s plan) as (λ _. Option Holding) [ Some symbol ↦ Some (hands_segment p s plan symbol) | None ↦ None ]
    | false ↦ None
  ]
  | false ↦ hands_object s plan
]

abbrev at_found : Settings → Holding → Option Plan → Option Holding
at_found p s found = elim found as (λ _. Option Holding) [ Some plan ↦ at_plan p s (says_stream plan.flags) plan | None ↦ None ]

-- the hand-up of a stream whose info is told or not, and whose next segment is this
abbrev pub segment_by : Settings → Holding → Plan → Bool → Option (List ℕ) → Option Holding
segment_by p s plan told value = elim told as (λ _. Option Holding) [
  | true ↦ elim value as (λ _. Option Holding) [ Some symbol ↦ Some (hands_segment p s plan symbol) | None ↦ None ]
  | false ↦ None
]

module _ (p : Settings) (from : Position) (ring : List (Option EntryState)) (ups : List Up) (lost : Bool) (s : Holding)
    (placed : PlacedEntries p from.index ring) (far : AreAsFar from.block ring) (stands : StandsFor (view_with p from ring ups lost) s) where
  -- a stream's next segment is handed up where the stream by itself has it, and its info where it has one
  pub hands_stream : (o : EntryState) → entry_at ring 0 ≡ Some o → says_stream o.plan.flags ≡ true → o.point ≡ from
      → hands_one p s ≡ segment_by p s o.plan (has_its_info (alone_in o) o.plan) (next_segment (alone_in o) o.plan)
  hands_stream o e stream here =
      ap (at_found p s) found
      ∙ ap (λ b. at_plan p s b o.plan) stream
      ∙ ap (λ b. segment_by p s o.plan b (next_segment s o.plan)) (ap (told_by o.plan) told)
      ∙ ap (segment_by p s o.plan (has_its_info (alone_in o) o.plan)) value
    where
      own : o.plan.index ≡ from.index
      own = (placed_at p from.index 0 ring o placed e).index ∙ (let n : from.index + 0 ≡ from.index = omega arith in n)

      at_index : s.point.index ≡ from.index
      at_index = ap (λ (point : Position). point.index) stands.point

      found : plan_of s s.point.index ≡ Some o.plan
      found =
          ap (plan_of s) at_index
          ∙ plan_found p from ring ups lost s placed stands from.index 0 (omega arith)
          ∙ ap (λ (x : Option EntryState). option_map (λ (y : EntryState). y.plan) x) e

      told : info_of s o.plan.index ≡ info_of (alone_in o) o.plan.index
      told = subst (λ n. info_of s n ≡ info_of (alone_in o) n) (sym own) (info_at p from ring ups lost s placed stands from.index 0 o (omega arith) e)

      alike : AreAlikeAt s (alone_in o) o.plan.index from.block
      alike =
          subst (λ n. AreAlikeAt s (alone_in o) n from.block) (sym own)
          (alike_at p from ring ups lost s placed stands from.index 0 from.block o (omega arith) e
          (is_ahead s from.index from.block (omega (arith, at_index)) (λ same. let b = ap (λ (point : Position). point.block) stands.point in omega (arith, b)))
          (first_at_place p from ring ups lost s placed far stands from.index 0 o (omega arith) e))

      value : next_segment s o.plan ≡ next_segment (alone_in o) o.plan
      value =
          ap (λ (point : Position). block_value s o.plan point.block point.symbol) stands.point
          ∙ value_at s (alone_in o) o.plan from.block from.symbol alike
          ∙ ap (λ (point : Position). block_value (alone_in o) o.plan point.block point.symbol) (sym here)
