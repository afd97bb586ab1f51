use Rattle.std.proofs.Common.{◌≡◌, ◌+◌, ◌-◌, ◌≤◌, ◌++◌, ◌∙◌, ap, sym, arith, ℕ, length, length-append}
use Rattle.stream_buffer.specs.RowsState.{RowsState}
use Rattle.stream_buffer.specs.StreamState.{StreamState}
use Rattle.stream_buffer.specs.StreamMoves.{with_octets}
use Rattle.stream_buffer.specs.StreamSound.{stream_view}
use Rattle.stream_buffer.proofs.MovesLemmas.{sealed, over_rows, sealed_is, filled_full, filled_part}
use Rattle.stream_buffer.proofs.stream.StreamBuf.fill.Goals as goal

pub returns-then-filled-from : goal.returns-then-filled-from
returns-then-filled-from c =
    let s : StreamState = stream_view c.self.inside in
    let piece = c.args.piece.now in
    let r : RowsState = record (c.self.inside.rows) { filling = s.filling ++ piece } in
    let offset : ℕ = c.self.inside.octets + length piece - c.from-then-filled-from.result in
    let e-is : c.from-then-filled-from.result ≡ s.cut.e = c.from-then-filled-from.ensures in
    let least : 64 ≤ s.cut.e = c.self.invariant.least_e in
    let whole : length (s.filling ++ piece) ≡ s.cut.e = ap (λ (v : RowsState). length v.filling) (sym c.fill.ensures) ∙ sym c.filled.ensures ∙ c.if-filled-from.true ∙ c.from.ensures in
    let both : length s.filling + length piece ≡ s.cut.e = sym (length-append s.filling piece) ∙ whole in
    ap (over_rows s (s.octets + length piece)) (c.seal.ensures ∙ ap (sealed offset) c.fill.ensures)
    ∙ sealed_is s r offset (s.octets + length piece) c.self.invariant.size
    ∙ filled_full s piece offset (omega (arith, least)) c.self.invariant.counted both (ap (λ n. s.octets + length piece - n) e-is)
    ∙ ap (with_octets piece) c.self.view_is

pub returns-else-filled-from : goal.returns-else-filled-from
returns-else-filled-from c =
    let s : StreamState = stream_view c.self.inside in
    let piece = c.args.piece.now in
    let fit : length s.filling + length piece ≤ s.cut.e =
    omega (arith, ap (λ (v : StreamState). length v.filling) c.self.view_is, ap (λ (v : StreamState). v.cut.e) c.self.view_is, c.requires.fits) in
    let not_whole : length s.filling + length piece ≡ s.cut.e → ⊥ =
    λ is. c.if-filled-from.false (c.filled.ensures ∙ ap (λ (v : RowsState). length v.filling) c.fill.ensures ∙ length-append s.filling piece ∙ is ∙ sym c.from.ensures) in
    ap (over_rows s (s.octets + length piece)) c.fill.ensures
    ∙ filled_part s piece (omega (arith, fit, not_whole))
    ∙ ap (with_octets piece) c.self.view_is
