use Rattle.std.proofs.Common.{Option, IsSome, refl, sym, subst}
use Rattle.tx_window.specs.WindowState.{Filling}
use Rattle.driven_sender.proofs.driven.Driven.file_given_up.Goals as goal

pub leave_file-requires : goal.leave_file-requires
leave_file-requires c = subst (λ (f : Option Filling). IsSome f) (sym (c.file_piece.ensures.filling _ c.in-Ok.ensures.filling)) refl
