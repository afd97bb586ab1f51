-- If nothing is missing up to a flush, the object at the hand-up point is whole, and would be handed up.
use Rattle.std.proofs.Common.{◌≡◌, ℕ, zero, suc, ◌+◌, ◌<◌, ◌≤◌, ◌⊎◌, inl, inr, List, [], ◌∷◌, Bool, true, false, Option, None, Some, refl, sym, ap, ◌∙◌, arith}
use Rattle.std.specs.Prelude.{◌==◌, ◌&&◌, ◌||◌, cond, find, nat_le, nat_lt, IfSome}
use Rattle.std.specs.List.{list_all, range_with_len}
use Rattle.std.proofs.lemmas.Bool.Decides.{Decides-eqb, leb_tells}
use Rattle.norm_base.specs.Settings.{Settings}
use Rattle.fec_plan.specs.Partition.{blocks}
use Rattle.fec_plan.specs.Points.{point, point_of, reached_by}
use Rattle.fec_plan.specs.declared.position.Position.{Position}
use Rattle.fec_plan.proofs.PointLemmas.{not_before}
use Rattle.fec_plan.proofs.PositionLemmas.{Behind, behind}
use Rattle.norm_order.specs.declared.up.Up.TheVariants as up
use Rattle.norm_receive_rules.specs.AllNeeds.{needs_nothing}
use Rattle.norm_receive_rules.specs.HandingUp.{is_whole, handed, after_object, kind_of, told_info, object_octets, hands_next, hands_object}
use Rattle.norm_receive_rules.specs.Holding.{Holding, Plan}
use Rattle.norm_receive_rules.specs.Laws.{needs_nothing_first}
use Rattle.norm_receive_rules.specs.Needs.{farthest_index, is_covered}
use Rattle.norm_receive_rules.specs.NothingMissing.{ObjectIsThere}
use Rattle.norm_receive_rules.specs.Plans.{plan_of, is_done, has_its_info, says_stream, cut_of_plan}
use Rattle.norm_receive_rules.specs.ReceiverState.{ReceiverState}
use Rattle.norm_receive_rules.proofs.FrontLemmas.{front_laws}
use Rattle.norm_receive_rules.proofs.NeedLemmas.{exactly}
use Rattle.norm_laws.proofs.NewOrder.{clash}
use Rattle.norm_recovery.specs.FlushNeeds.{StandsBefore, FlushNeeds}

both_true : (a b : Bool) → a ≡ true → b ≡ true → (a && b) ≡ true
both_true true b e f = f
both_true false b e f = absurd (clash e)

or_right : (a b : Bool) → b ≡ true → (a || b) ≡ true
or_right true b e = refl
or_right false b e = e

le_test : (a b : ℕ) → a ≤ b → nat_le a b ≡ true
le_test a b le = grind (arith, leb_tells a b)

all_range : (test : ℕ → Bool) (from count : ℕ) → ((n : ℕ) → from ≤ n → n < from + count → test n ≡ true) → list_all test (range_with_len from count) ≡ true
all_range test from zero each = refl
all_range test from (suc count) each =
    both_true (test from) (list_all test (range_with_len (from + 1) count)) (each from (omega arith) (omega arith))
    (all_range test (from + 1) count (λ n le lt. each n (omega (arith, le)) (omega (arith, lt))))

-- a plan that is found has the index
found_index : (plans : List Plan) (index : ℕ) (plan : Plan) → find (λ (x : Plan). x.index == index) plans ≡ Some plan → plan.index ≡ index
found_index [] index plan e = absurd (none_some e)
  where
    none_some : None ≡ Some plan → ⊥
    none_some e = cc
found_index (x ∷ plans) index plan e = go (x.index == index) refl e (found_index plans index plan)
  where
    same : Some x ≡ Some plan → x ≡ plan
    same e = cc

    go : (b : Bool) → (x.index == index) ≡ b → cond b (Some x) (find (λ (y : Plan). y.index == index) plans) ≡ Some plan
        → (find (λ (y : Plan). y.index == index) plans ≡ Some plan → plan.index ≡ index) → plan.index ≡ index
    go true is e more = ap (λ (y : Plan). y.index) (sym (same e)) ∙ (Decides-eqb x.index index).0 is
    go false is e more = more e

index_behind : (f at : Position) → Behind f at → at.index ≤ f.index
index_behind f at h = omega (arith, h)

-- every block of an object up to that of the position lies no further than a flush that reaches it
flushed_up : (f at : Position) (index block : ℕ) → Behind f at → index ≤ at.index → (index ≡ at.index → block ≤ at.block)
    → (index < f.index) ⊎ ((index ≡ f.index) × (block ≤ f.block))
flushed_up f at index block h le last = by (index == f.index) refl
  where
    by : (b : Bool) → (index == f.index) ≡ b → (index < f.index) ⊎ ((index ≡ f.index) × (block ≤ f.block))
    by true e =
        let same : index ≡ f.index = (Decides-eqb index f.index).0 e in
        inr (same, (let own : index ≡ at.index = omega (arith, same, le, h) in let within = last own in omega (arith, own, same, within, h)))
    by false e =
        let differ : index ≡ f.index → ⊥ = λ same. clash (sym e ∙ (Decides-eqb index f.index).1 same) in
        inl (omega (arith, differ, le, h))

-- So something is needed.
pub flush_missing : (p : Settings) (r : ReceiverState) (at : Position) → StandsBefore p r at → needs_nothing p r ≡ true → ⊥
flush_missing p r at h = known r.knows.flush refl h.flush
  where
    i : ℕ
    i = r.holding.point.index

    none_some : (x : Holding) → Some x ≡ None → ⊥
    none_some x e = cc

    hands_by : Option Plan → Option Holding
    hands_by o = elim o [ Some plan ↦ elim (says_stream plan.flags) [ true ↦ hands_next p r.holding plan | false ↦ hands_object r.holding plan ] | None ↦ None ]

    by_kind : Plan → Bool → Option Holding
    by_kind plan b = elim b [ true ↦ hands_next p r.holding plan | false ↦ hands_object r.holding plan ]

    whole : (f : Position) → r.knows.flush ≡ Some f → Behind f at → (o : Option Plan) → plan_of r.holding r.holding.point.index ≡ o
        → ObjectIsThere p r.knows.farthest r.knows.flush r.holding r.holding.point.index o → hands_by o ≡ None → IfSome o (λ (plan : Plan). says_stream plan.flags ≡ false)
        → IfSome o (λ (plan : Plan). plan.index ≡ at.index → blocks (cut_of_plan plan) ≤ at.block + 1) → ⊥
    whole f e further None found there stuck kind last = clash (sym there ∙ covered)
      where
        covered : is_covered r.knows.farthest r.knows.flush r.holding.point.index ≡ true
        covered = or_right (nat_lt r.holding.point.index (farthest_index r.knows.farthest)) _
            (ap (λ (o : Option Position). elim o as (λ _. Bool) [ Some x ↦ nat_le r.holding.point.index x.index | None ↦ false ]) e
            ∙ le_test r.holding.point.index f.index (let le = h.before in let on = index_behind f at further in omega (arith, le, on)))
    whole f e further (Some plan) found there stuck kind last =
        none_some _ (sym (ap (by_kind plan) kind ∙ ap by_whole done) ∙ stuck)
      where
        own : plan.index ≡ r.holding.point.index
        own = found_index r.holding.plans r.holding.point.index plan found

        covered : is_covered r.knows.farthest r.knows.flush plan.index ≡ true
        covered = or_right (nat_lt plan.index (farthest_index r.knows.farthest)) _
            (ap (λ (o : Option Position). elim o as (λ _. Bool) [ Some x ↦ nat_le plan.index x.index | None ↦ false ]) e
            ∙ le_test plan.index f.index (let le = h.before in let on = index_behind f at further in omega (arith, le, on, own)))

        by_whole : Bool → Option Holding
        by_whole b = elim b [
          | true ↦ Some (handed (up.Object plan.index (kind_of plan.flags) (told_info r.holding plan) (object_octets r.holding plan) ∷ []) (after_object plan.index) r.holding)
          | false ↦ None
        ]

        block_done : (block : ℕ) → 0 ≤ block → block < 0 + blocks (cut_of_plan plan) → is_done r.holding plan block ≡ true
        block_done block le lt =
            there.octets kind block (omega (arith, lt)) (inr (
              f,
              e,
              not_before (point_of f) (point plan.index block)
                  (flushed_up f at plan.index block further (let before = h.before in omega (arith, before, own))
                  (λ same. (let most = last same in omega (arith, lt, most)))),
            ))

        done : is_whole r.holding plan ≡ true
        done = both_true (has_its_info r.holding plan) (list_all (is_done r.holding plan) (range_with_len 0 (blocks (cut_of_plan plan)))) (there.info covered)
            (all_range (is_done r.holding plan) 0 (blocks (cut_of_plan plan)) block_done)

    known : (o : Option Position) → r.knows.flush ≡ o → reached_by o at ≡ true → needs_nothing p r ≡ true → ⊥
    known None e reach none = clash reach
    known (Some f) e reach none =
        let further = behind f at reach in
        let missing = (exactly p r).0 none in
        let flushed = ap (λ (o : Option Position). elim o as (λ _. ℕ) [ Some x ↦ x.index | None ↦ 0 ]) e in
        whole f e further (plan_of r.holding r.holding.point.index) refl
        (missing r.holding.point.index (omega arith) (let le = h.before in let on = index_behind f at further in omega (arith, le, on, flushed)))
        h.stuck h.no_stream h.last

pub flush_needs : FlushNeeds
flush_needs p r at h = go (needs_nothing_first p r) refl
  where
    go : (b : Bool) → needs_nothing_first p r ≡ b → b ≡ false
    go false e = refl
    go true e = absurd (flush_missing p r at h (front_laws.first p r h.stuck h.no_stream e))
