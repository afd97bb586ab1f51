-- The last closed source symbol of an order is one of its source symbols, and a source symbol stays one as more entries join.
use Rattle.std.proofs.Common.{◌≡◌, List, [], ◌∷◌, true, Some}
use Rattle.std.specs.List.{AllByRecursion}
use Rattle.norm_base.specs.Settings.{Settings}
use Rattle.fec_plan.specs.declared.position.Position.{Position}
use Rattle.norm_order.specs.Entries.{Object, Whole, Stream, Entry}
use Rattle.norm_order.specs.Shapes.{shapes_of, is_source, last_source}
pub use Rattle.norm_order.proofs.LaterLemmas.{source_still}
use Rattle.norm_send_rules.specs.Reached.{FitsProfile}
use Rattle.norm_send_rules.proofs.PlaceLemmas.{last_is_source as last_of_fitting}
use Rattle.norm_safety.proofs.SizedOrders.{IsSized, AreSized}
use Rattle.norm_send_rules.proofs.CutNames.{CutRange}

-- an object of its size fits the profile
pub sized_fits : (p : Settings) (object : Object) → IsSized p object → FitsProfile p object
sized_fits p (Whole kind info octets) h = (h.0, h.1, h.2)
sized_fits p (Stream parts) h = h.0

-- and so does each of an order
pub sized_fit : (p : Settings) (order : List Entry) → AreSized p order → AllByRecursion (λ (x : Entry). FitsProfile p x.object) order
sized_fit p [] all = tt
sized_fit p (x ∷ order) all = (sized_fits p x.object all.0, sized_fit p order all.1)

pub last_is_source : (p : Settings) → CutRange p → (order : List Entry) (at : Position) → AreSized p order → last_source (shapes_of p order) ≡ Some at
    → is_source (shapes_of p order) at ≡ true
last_is_source p range order at sized e = last_of_fitting p range order at (sized_fit p order sized) e
