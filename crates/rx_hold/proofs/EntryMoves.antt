-- A hold of objects of either kind goes on to stand for the state as a segment within its block is handed up.
use Rattle.std.proofs.Common.{◌≡◌, ℕ, ◌+◌, ◌<◌, Bool, refl, sym, ap, ◌∙◌, arith, Option, Some, None, List, ◌++◌, length}
use Rattle.std.specs.Prelude.{filter, not, nat_lt, slice_set}
use Rattle.norm_base.specs.Settings.{Settings}
use Rattle.fec_plan.specs.Points.{Point, point_of, point_before, position}
use Rattle.fec_plan.specs.declared.position.Position.{Position}
use Rattle.norm_order.specs.declared.up.Up.{Up}
use Rattle.norm_receive_rules.specs.HandingUp.{handed}
use Rattle.norm_receive_rules.specs.Holding.{Holding, Plan, Held, HeldInfo}
use Rattle.norm_receive_rules.specs.Laws.{HasPassed}
use Rattle.rx_hold.specs.EntryState.{EntryState, infos_in}
use Rattle.rx_hold.specs.EntryHold.{PlacedEntries, StandsFor, entry_at, entries_there}
use Rattle.rx_hold.proofs.EntryRing.{part_of, same_parts}
use Rattle.rx_hold.proofs.EntryStands.{held_in, held_key, own_held, own_info, own_plan, plans_in, plans_joined, view_with}

module _ (p : Settings) (from : Position) (ring : List (Option EntryState)) (ups : List Up) (lost : Bool) (s : Holding)
    (placed : PlacedEntries p from.index ring) (stands : StandsFor (view_with p from ring ups lost) s) where
  -- the hand-up point moves on in its block, and of the object there nothing changes but that
  pub moved_within : (symbol : ℕ) (more : List Up) (o x : EntryState) → 0 < length ring → entry_at ring 0 ≡ Some o → plans_in x ≡ plans_in o → x.held ≡ o.held → infos_in x ≡ infos_in o
      → HasPassed p (handed more (position from.index from.block symbol) s)
      → StandsFor (view_with p (position from.index from.block symbol) (slice_set ring 0 (Some x)) (ups ++ more) lost) (handed more (position from.index from.block symbol) s)
  moved_within symbol more o x some e plan held infos passed = record {
    point = refl;
    plans =
        ap (λ n. filter (λ (y : Plan). not (nat_lt y.index n)) s.plans) (sym (ap (λ (point : Position). point.index) stands.point))
        ∙ stands.plans
        ∙ sym (plans_joined (entries_there ring))
        ∙ sym (same_parts Plan p plans_in (λ y. y.index) (own_plan p) ring 0 (Some x) some (plan ∙ sym (ap (λ (found : Option EntryState). part_of Plan plans_in found) e)))
        ∙ plans_joined (entries_there (slice_set ring 0 (Some x)));
    held =
        ap (λ (at : Point). filter (λ (y : Held). not (point_before (point_of y.at) at)) s.held) (sym (ap point_of stands.point))
        ∙ stands.held
        ∙ sym (same_parts Held p held_in held_key (own_held p) ring 0 (Some x) some (held ∙ sym (ap (λ (found : Option EntryState). part_of Held held_in found) e)));
    infos =
        ap (λ n. filter (λ (y : HeldInfo). not (nat_lt y.index n)) s.infos) (sym (ap (λ (point : Position). point.index) stands.point))
        ∙ stands.infos
        ∙ sym (same_parts HeldInfo p infos_in (λ y. y.index) (own_info p) ring 0 (Some x) some (infos ∙ sym (ap (λ (found : Option EntryState). part_of HeldInfo infos_in found) e)));
    ups = ap (λ (us : List Up). us ++ more) stands.ups;
    lost = stands.lost;
    passed = passed;
  }
