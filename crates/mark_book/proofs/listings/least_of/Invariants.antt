use Rattle.std.proofs.Common.{◌≡◌, drop}
use Rattle.std.specs.Prelude.{◌&&◌}
use Rattle.std.specs.List.{list_all}
use Rattle.fec_plan.specs.declared.position.Position.{Position}
use Rattle.fec_plan.specs.Points.{reaches, reached_by}
use Rattle.mark_book.proofs.listings.least_of.Given as goal

abbrev pub invariant-loop-past : goal.invariant-loop-past
invariant-loop-past l =
    (at : Position) → list_all (λ o. reached_by o at) l.listed ≡ (reaches l.least at && list_all (λ o. reached_by o at) (drop l.past-index l.listed))
