-- A run is at one place.
use Rattle.std.proofs.Common.{◌≡◌, List, Option, None, Some, false, sym, ap, ◌∙◌}
use Rattle.norm_base.specs.Network.{Network}
use Rattle.norm_base.specs.Told.{Pieces}
use Rattle.norm_journal.specs.declared.event.Event.{Event}
use Rattle.norm_journal.specs.Accepting.{judged_from}
use Rattle.norm_journal.specs.Judged.{Judged}
use Rattle.norm_journal.specs.Places.{Place}
use Rattle.norm_session.specs.Context.{Context, with_posted, opening}
use Rattle.norm_session.specs.Laws.{IsAtOnePlace}
use Rattle.norm_session.specs.Noting.{kept_of}
use Rattle.norm_session.specs.RunKept.{RunKept}
use Rattle.norm_session.specs.SoFar.{At}
use Rattle.producer_gate.specs.Boards.{BoardState}

-- the place of a state, or this one
abbrev place_or : Place → Option Judged → Place
place_or place None = place
place_or place (Some j) = j.place

-- the place that a kept journal leads to, or this one
abbrev place_of : Context → Place → Option (List Event) → Place
place_of x place None = place
place_of x place (Some journal) = place_or place (judged_from (opening x) journal)

led_to : (x : Context) (posted : BoardState) (k : RunKept) (place other : Place) (network : Network) (written : Pieces) → k.alone ≡ false
    → At (with_posted x posted) k place network written → place_of x other k.journal ≡ place
led_to x posted k place other network written kept at =
    ap (place_of x other) (at.so_far.kept ∙ ap (λ alone. kept_of alone at.so_far.journal) kept)
    ∙ ap (place_or other) at.so_far.leads.judged

pub one_place : IsAtOnePlace
one_place x before now k place other network told written lines kept at then =
    sym (led_to x before k place place network written kept at) ∙ led_to x now k other place told lines kept then
