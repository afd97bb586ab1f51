-- What a state says of each window that stands for it.
use Rattle.std.specs.Prelude.{ℕ, ◌≡◌, ◌≤◌, List, Option, true, Some, slice_get}
use Rattle.norm_base.specs.Settings.{Settings}
use Rattle.fec_plan.specs.declared.position.Position.{Position}
use Rattle.norm_order.specs.Entries.{Entry}
use Rattle.norm_order.specs.Shapes.{is_encoded}
use Rattle.norm_send_rules.specs.SenderState.{SenderState}
use Rattle.norm_send_rules.specs.InWindow.{stands_behind, current_shapes}
use Rattle.norm_send_rules.specs.declared.want.Want.TheVariants.{Symbol}
use Rattle.tx_window.specs.WindowState.{WindowState, Stands, IsInWindow}
use Rattle.tx_window.specs.Asked.{AnswersAt, IsEncodedIn}

-- an encoded symbol of the order whose block was not dropped may be noted as sent
abbrev pub MayBeNoted : Type 0
MayBeNoted =
    (w : WindowState) (s : SenderState) (at : Position) → Stands w s → is_encoded (current_shapes w.p s) at ≡ true
    → stands_behind s.current.drop (Symbol at) ≡ true → IsEncodedIn w at

-- an entry of the order that was not dropped is in the window
abbrev pub IsThere : Type 0
IsThere =
    (w : WindowState) (s : SenderState) (index : ℕ) (entry : Entry) → Stands w s → slice_get s.current.order index ≡ Some entry
    → s.current.drop.index ≤ index → IsInWindow w index

-- for a symbol that is asked for, a state allows one answer with its octets
abbrev pub SymbolIsDecided : Type 0
SymbolIsDecided =
    (p : Settings) (s : SenderState) (at : Position) (old new other : List ℕ) (answer told : Option ℕ) → AnswersAt p s at old new answer
    → AnswersAt p s at old other told → (answer ≡ told) × (new ≡ other)
