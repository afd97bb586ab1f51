use Rattle.std.proofs.Common.{◌≡◌, ◌+◌, ◌≤◌, length, Option, sym, subst, arith}
use Rattle.std.proofs.lemmas.List.{length-append}
use Rattle.std.specs.Prelude.{MatchOption}
use Rattle.tx_window.specs.WindowState.{Filling}
use Rattle.driven_sender.proofs.driven.Driven.file_in_two.Goals as goal

pub file_piece-requires-in-Ok : goal.file_piece-requires-in-Ok
file_piece-requires-in-Ok c =
    let back = c.split_at.result.1.now in
    subst (λ (o : Option Filling). MatchOption o ⊥ (λ f. length f.octets + length back ≤ f.len)) (sym (c.file_piece.ensures.filling _ c.in-Ok.ensures.filling)) (omega (arith))

pub end_file-requires : goal.end_file-requires
end_file-requires c =
    let front = c.split_at.result.0.now in
    let back = c.split_at.result.1.now in
    subst (λ (o : Option Filling). MatchOption o ⊥ (λ f. length f.octets ≡ f.len))
    (sym (c.file_piece-in-Ok.ensures.filling _ (c.file_piece.ensures.filling _ c.in-Ok.ensures.filling))) (length-append front back)
