-- A session over some board.
use Rattle.std.proofs.Common.{ℕ, Bool, true, false, List, [], Option, Result, Ok, Err, refl, inl}
use Rattle.std.specs.Prelude.{IfOk}
use Rattle.norm_base.specs.Network.{Network}
use Rattle.norm_base.specs.Told.{Pieces}
use Rattle.norm_journal.specs.Jobs.{Told}
use Rattle.norm_journal.specs.declared.event.Event.{Event}
use Rattle.norm_script.specs.Commands.{Commands}
use Rattle.norm_session.specs.Session as session
use Rattle.norm_session.specs.Turning as turning
use Rattle.norm_turns.specs.declared.fault.SessionFault.{SessionFault}
use Rattle.norm_turns.specs.declared.fault.SessionFault.TheVariants as fault
use Rattle.producer_gate.specs.Boards.{BoardState}
use Rattle.norm_program.specs.Boarded.{RunsScript, StopsScript, span}

-- what is so of these boards is so of some
pub ran_over_some : {T : Type 0} (P : T → BoardState → BoardState → Type 0) (result : Result T SessionFault) (b c : BoardState)
    → IfOk result (λ x. P x b c) → IfOk result (λ x. (unposted : BoardState) × (posted : BoardState) × P x unposted posted)
ran_over_some P (Ok x) b c h = (b, c, h)
ran_over_some P (Err e) b c h = h

-- a sender that ran alone over these boards, with some journal, ran over some
pub ran_alone_over_some : (script : Commands) (files : Told) (before after : Network) (unwritten written : Pieces) (unasked asked : Option (List ℕ))
    (result : Result Bool SessionFault) (b c : BoardState)
    → IfOk result (λ whole. (journal : List Event) × session.RunsSender script files journal whole (turning.span before after unwritten written unasked asked b c))
    → IfOk result (λ whole. (journal : List Event) × RunsScript true script files journal whole (span before after unwritten written unasked asked))
ran_alone_over_some script files before after unwritten written unasked asked (Ok whole) b c h = (h.0, (b, c, h.1))
ran_alone_over_some script files before after unwritten written unasked asked (Err e) b c h = h

-- any board
some_board : BoardState
some_board = record {
  id = record { words = 0; slots = 0; views_name = 0; atom = 0; block = 0; offset = 0; slot_names = [] };
  entries = [];
}

-- there was no memory for a board
pub no_board : (script : Commands) (files : Told) (network : Network) (written : Pieces) (asked : Option (List ℕ))
    → StopsScript false fault.Memory script files (span network network written written asked asked)
no_board script files network written asked =
    (some_board, some_board, inl (record { why = inl refl; network = refl; output = refl; clock = refl; board = refl }))

pub no_board_alone : (script : Commands) (files : Told) (network : Network) (written : Pieces) (asked : Option (List ℕ))
    → StopsScript true fault.Memory script files (span network network written written asked asked)
no_board_alone script files network written asked =
    (some_board, some_board, inl (record { why = inl refl; network = refl; output = refl; clock = refl; board = refl }))
