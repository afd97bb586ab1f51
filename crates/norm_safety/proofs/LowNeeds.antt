-- What a receiver asks for has indices up to the greatest that it saw or heard flushed.
use Rattle.std.proofs.Common.{◌≡◌, ℕ, zero, suc, ◌+◌, ◌-◌, ◌<◌, ◌≤◌, List, [], ◌∷◌, Bool, true, false, Option, None, Some, refl, arith}
use Rattle.std.specs.Prelude.{map, filter, flat_map, ◌&&◌, not, nat_le, max, min, is_none, IfSome, ⊤}
use Rattle.std.specs.List.{AllByRecursion, range_with_len}
use Rattle.norm_base.specs.Settings.{Settings}
use Rattle.fec_plan.specs.Partition.{source_symbols}
use Rattle.fec_plan.specs.Points.{Point, position}
use Rattle.fec_plan.specs.declared.position.Position.{Position}
use Rattle.norm_ext.specs.Asked.{Asked, octets_behind}
use Rattle.norm_receive_rules.specs.AllNeeds.{planned_needs, needs_of, needs_from, last_known, needs_by, needs}
use Rattle.norm_receive_rules.specs.Holding.{Holding, Plan}
use Rattle.norm_receive_rules.specs.Lazy.{Lazy, Nil, Next, followed_by, lazily}
use Rattle.norm_receive_rules.specs.Nack.{asked_of, indices_of, fitting}
use Rattle.norm_receive_rules.specs.Needs.{Need, Object, ObjectInfo, Symbols, Source, Rest, is_covered, info_needs, counts_from, object_needs, unknown_needs}
use Rattle.norm_receive_rules.specs.Plans.{cut_of_plan, holds, is_done, first_block, lacking, says_stream, plan_of, has_its_info}
use Rattle.norm_receive_rules.specs.ReceiverState.{ReceiverState}
use Rattle.norm_receive_rules.specs.StreamNeeds.{last_block, flush_in, earlier_needs, missing_symbols, flush_symbols, end_of, end_symbols, last_symbols, is_behind, open_block, rest_needs, stream_end_needs, stream_needs}
use Rattle.norm_receive_rules.proofs.HandUpLemmas.{index_of_found}
use Rattle.norm_safety.proofs.SaidRun.{all_append}
use Rattle.norm_safety.proofs.WorldHolds.{all_filter}

-- these indices are at most so great
abbrev pub AreUpTo : ℕ → List ℕ → Type 0
AreUpTo n indices = AllByRecursion (λ i. i ≤ n) indices

-- so are those of a need
abbrev pub IsUpTo : ℕ → Need → Type 0
IsUpTo n need = AreUpTo n (indices_of need)

-- and those of each need
abbrev EachUpTo : ℕ → Lazy Need → Type 0
EachUpTo n Nil = ⊤
EachUpTo n (Next need rest) = IsUpTo n need × EachUpTo n (rest tt)

each_followed : (n : ℕ) (needs : Lazy Need) (more : ⊤ → Lazy Need) → EachUpTo n needs → EachUpTo n (more tt) → EachUpTo n (followed_by needs more)
unfolding followed_by
each_followed n Nil more h g = g
each_followed n (Next need rest) more h g = (h.0, each_followed n (rest tt) more h.1 g)

each_lazily : (n : ℕ) (needs : List Need) → AllByRecursion (IsUpTo n) needs → EachUpTo n (lazily needs)
unfolding lazily
each_lazily n [] all = tt
each_lazily n (need ∷ needs) all = (all.0, each_lazily n needs all.1)

-- ---- an object with a plan

each_count : (n : ℕ) (s : Holding) (plan : Plan) (count block : ℕ) → plan.index ≤ n → EachUpTo n (counts_from s plan count block)
unfolding counts_from
each_count n s plan zero block le = tt
each_count n s plan (suc count) block le = go (lacking s plan block) (each_count n s plan count (suc block) le)
  where
    go : (lack : ℕ) → EachUpTo n (counts_from s plan count (suc block)) → EachUpTo n (elim lack [
      | zero ↦ counts_from s plan count (suc block)
      | suc less ↦ Next (Symbols plan.index block (suc less)) (λ u. counts_from s plan count (suc block))
    ])
    go zero more = more
    go (suc less) more = ((le, tt), more)

-- positions of these indices
abbrev ArePlaced : ℕ → List Position → Type 0
ArePlaced n places = AllByRecursion (λ (at : Position). at.index ≤ n) places

each_place : (n index block : ℕ) (symbols : List ℕ) → index ≤ n → ArePlaced n (map (λ symbol. position index block symbol) symbols)
each_place n index block [] le = tt
each_place n index block (symbol ∷ symbols) le = (le, each_place n index block symbols le)

each_missing : (n : ℕ) (s : Holding) (plan : Plan) (block first behind : ℕ) → plan.index ≤ n → ArePlaced n (missing_symbols s plan block first behind)
each_missing n s plan block first behind le = go (is_done s plan block)
  where
    go : (b : Bool) → ArePlaced n (elim b [
      | true ↦ []
      | false ↦ filter (λ at. not (holds s at)) (map (λ symbol. position plan.index block symbol) (range_with_len first (behind - first)))
    ])
    go true = tt
    go false = all_filter (λ (at : Position). at.index ≤ n) (λ at. not (holds s at)) (map (λ symbol. position plan.index block symbol) (range_with_len first (behind - first)))
        (each_place n plan.index block (range_with_len first (behind - first)) le)

each_last : (n : ℕ) (covered : Bool) (flush : Option Position) (s : Holding) (plan : Plan) (end : Option Position) → plan.index ≤ n
    → ArePlaced n (last_symbols covered flush s plan end)
each_last n covered flush s plan end le =
    all_append (λ (at : Position). at.index ≤ n) (flush_symbols flush s plan) (end_symbols covered flush s plan end) (flushed (flush_in flush plan.index)) (ended covered end)
  where
    flushed : (within : Option Position) → ArePlaced n (elim within [
      | Some at ↦ missing_symbols s plan at.block 0 (min (at.symbol + 1) (source_symbols (cut_of_plan plan) at.block))
      | None ↦ []
    ])
    flushed (Some at) = each_missing n s plan at.block 0 _ le
    flushed None = tt

    ended : (b : Bool) (end : Option Position) → ArePlaced n (end_symbols b flush s plan end)
    ended true (Some at) = each_missing n s plan at.block _ at.symbol le
    ended true None = tt
    ended false end = tt

each_source : (n : ℕ) (places : List Position) → ArePlaced n places → AllByRecursion (IsUpTo n) (map Source places)
each_source n [] all = tt
each_source n (at ∷ places) all = ((all.0, tt), each_source n places all.1)

each_rest : (n : ℕ) (behind : Bool) (s : Holding) (plan : Plan) (end : Option Position) → plan.index ≤ n → AllByRecursion (IsUpTo n) (rest_needs behind s plan end)
each_rest n behind s plan end le = go (is_none end && behind && nat_le (open_block s plan) last_block)
  where
    go : (b : Bool) → AllByRecursion (IsUpTo n) (elim b [ true ↦ Rest plan.index (open_block s plan) ∷ [] | false ↦ [] ])
    go true = ((le, (le, tt)), tt)
    go false = tt

each_of_stream : (n : ℕ) (p : Settings) (farthest : Option Point) (flush : Option Position) (s : Holding) (plan : Plan) → plan.index ≤ n
    → EachUpTo n (stream_needs p farthest flush s plan)
each_of_stream n p farthest flush s plan le =
    each_followed n (earlier_needs flush s plan) (λ u. lazily (stream_end_needs p farthest flush s plan)) (each_count n s plan _ (first_block s plan.index) le)
    (each_lazily n (stream_end_needs p farthest flush s plan)
    (all_append (IsUpTo n) (map Source (last_symbols (is_covered farthest flush plan.index) flush s plan (end_of p s plan)))
    (rest_needs (is_behind farthest flush plan.index) s plan (end_of p s plan))
    (each_source n (last_symbols (is_covered farthest flush plan.index) flush s plan (end_of p s plan))
    (each_last n (is_covered farthest flush plan.index) flush s plan (end_of p s plan) le))
    (each_rest n (is_behind farthest flush plan.index) s plan (end_of p s plan) le)))

each_planned : (n : ℕ) (p : Settings) (farthest : Option Point) (flush : Option Position) (s : Holding) (plan : Plan) → plan.index ≤ n
    → EachUpTo n (planned_needs p farthest flush s plan)
each_planned n p farthest flush s plan le =
    each_followed n (lazily (info_needs s plan (is_covered farthest flush plan.index)))
    (λ u. elim (says_stream plan.flags) [ true ↦ stream_needs p farthest flush s plan | false ↦ object_needs farthest flush s plan ])
    (each_lazily n (info_needs s plan (is_covered farthest flush plan.index)) (infos (is_covered farthest flush plan.index && not (has_its_info s plan))))
    (kind (says_stream plan.flags))
  where
    infos : (b : Bool) → AllByRecursion (IsUpTo n) (elim b [ true ↦ ObjectInfo plan.index ∷ [] | false ↦ [] ])
    infos true = ((le, tt), tt)
    infos false = tt

    kind : (b : Bool) → EachUpTo n (elim b [ true ↦ stream_needs p farthest flush s plan | false ↦ object_needs farthest flush s plan ])
    kind true = each_of_stream n p farthest flush s plan le
    kind false = each_count n s plan _ 0 le

-- ---- all objects

each_of : (n : ℕ) (p : Settings) (farthest : Option Point) (flush : Option Position) (s : Holding) (index : ℕ) → index ≤ n
    → EachUpTo n (needs_of p farthest flush s index)
each_of n p farthest flush s index le = go (plan_of s index) refl
  where
    unknown : (b : Bool) → AllByRecursion (IsUpTo n) (elim b [ true ↦ Object index ∷ [] | false ↦ [] ])
    unknown true = ((le, tt), tt)
    unknown false = tt

    go : (found : Option Plan) → plan_of s index ≡ found → EachUpTo n (elim found [
      | Some plan ↦ planned_needs p farthest flush s plan
      | None ↦ lazily (unknown_needs index (is_covered farthest flush index))
    ])
    go (Some plan) e =
        let same = index_of_found index s.plans plan e in
        each_planned n p farthest flush s plan (omega (arith, same, le))
    go None e = each_lazily n (unknown_needs index (is_covered farthest flush index)) (unknown (is_covered farthest flush index))

each_from : (n count : ℕ) (p : Settings) (farthest : Option Point) (flush : Option Position) (s : Holding) (index : ℕ) → (0 < count → index + count ≤ n + 1)
    → EachUpTo n (needs_from count p farthest flush s index)
unfolding needs_from
each_from n zero p farthest flush s index le = tt
each_from n (suc count) p farthest flush s index le =
    let most : index + suc count ≤ n + 1 = le (omega arith) in
    each_followed n (needs_of p farthest flush s index) (λ u. needs_from count p farthest flush s (suc index))
    (each_of n p farthest flush s index (omega (arith, most)))
    (each_from n count p farthest flush s (suc index) (λ some. omega (arith, most)))

-- what is needed, where the farthest point and the flush have such indices
pub each_need : (n : ℕ) (p : Settings) (farthest : Option Point) (flush : Option Position) (s : Holding) → IfSome farthest (λ at. at.index ≤ n)
    → IfSome flush (λ at. at.index ≤ n) → EachUpTo n (needs_by p farthest flush s)
each_need n p farthest flush s far near =
    each_from n (last_known farthest flush - s.point.index) p farthest flush s s.point.index
    (λ some. few s.point.index (last_known farthest flush) (known farthest flush far near) some)
  where
    few : (at last : ℕ) → last ≤ n + 1 → 0 < last - at → at + (last - at) ≤ n + 1
    few at last most some = omega (arith, most, some)

    greatest : (a b : ℕ) → a ≤ n → b ≤ n → max a b + 1 ≤ n + 1
    greatest a b h g = omega (arith, h, g)

    known : (farthest : Option Point) (flush : Option Position) → IfSome farthest (λ at. at.index ≤ n) → IfSome flush (λ at. at.index ≤ n)
        → last_known farthest flush ≤ n + 1
    known None None h g = greatest 0 0 (omega arith) (omega arith)
    known (Some far) None h g = greatest far.index 0 h (omega arith)
    known None (Some at) h g = greatest 0 at.index (omega arith) g
    known (Some far) (Some at) h g = greatest far.index at.index h g

-- what of it a NACK asks for
each_fitting : (n : ℕ) (p : Settings) (needs : Lazy Need) (before : Option Asked) (room : ℕ) → EachUpTo n needs → AllByRecursion (IsUpTo n) (fitting p needs before room)
unfolding fitting
each_fitting n p Nil before room all = tt
each_fitting n p (Next need rest) before room all =
    go (nat_le (octets_behind before (asked_of p need)) room)
    (each_fitting n p (rest tt) (Some (asked_of p need)) (room - octets_behind before (asked_of p need)) all.1)
  where
    go : (b : Bool) → AllByRecursion (IsUpTo n) (fitting p (rest tt) (Some (asked_of p need)) (room - octets_behind before (asked_of p need)))
        → AllByRecursion (IsUpTo n) (elim b [
          | true ↦ need ∷ fitting p (rest tt) (Some (asked_of p need)) (room - octets_behind before (asked_of p need))
          | false ↦ []
        ])
    go true more = (all.0, more)
    go false more = tt

each_index : (n : ℕ) (wanted : List Need) → AllByRecursion (IsUpTo n) wanted → AreUpTo n (flat_map indices_of wanted)
each_index n [] all = tt
each_index n (need ∷ wanted) all = all_append (λ i. i ≤ n) (indices_of need) (flat_map indices_of wanted) all.0 (each_index n wanted all.1)

-- the indices that a NACK names
pub asked_up_to : (n : ℕ) (p : Settings) (s : ReceiverState) → IfSome s.knows.farthest (λ at. at.index ≤ n) → IfSome s.knows.flush (λ at. at.index ≤ n)
    → AreUpTo n (flat_map indices_of (fitting p (needs p s) None p.e))
asked_up_to n p s far near =
    each_index n (fitting p (needs p s) None p.e) (each_fitting n p (needs p s) None p.e (each_need n p s.knows.farthest s.knows.flush s.holding far near))
