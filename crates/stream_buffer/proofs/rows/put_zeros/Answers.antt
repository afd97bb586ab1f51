use Rattle.std.proofs.Common.{◌≡◌, ap, ◌∙◌, ℕ, List, take}
use Rattle.std.proofs.lemmas.List.{take-replicate}
use Rattle.stream_buffer.specs.RowsState.{over}
use Rattle.stream_buffer.proofs.RingLemmas.{zeros}
use Rattle.stream_buffer.proofs.rows.put_zeros.Goals as goal

pub returns : goal.returns
returns c =
    let piece : c.split_at.result.0.now ≡ zeros c.args.len =
    c.split_at.ensures.front ∙ ap (take c.args.len) c.as_slice.ensures ∙ take-replicate c.args.len 1408 0 c.requires.most in
    c.put.ensures ∙ ap (λ (xs : List ℕ). over c.args.start xs c.args.octets.now) piece
