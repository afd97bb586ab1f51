use Rattle.std.proofs.Common.{◌≡◌, ◌∙◌, ◌<◌, List, ℕ, [], sym, ap, take, length, arith, rules}
use Rattle.std.proofs.lemmas.Result.{err_from_is_err_and, IfErr-weaker}
use Rattle.norm_base.specs.Told.{before_taking}
use Rattle.norm_show.proofs.ShowLemmas.{piece-read, piece-left, all-left, less}
use Rattle.norm_show.proofs.stream.show.Goals as goal

-- a fault in the last line
pub returns-then-n-eq0-clause-left : goal.returns-then-n-eq0-clause-left
returns-then-n-eq0-clause-left g c =
    let left = g.S.Source.left in
    let pieces = g.K.Sink.pieces in
    let some : 0 < length c.pieces.buffer = search rules in
    let none : List ℕ = take c.in-Ok.n c.read.new.buf in
    let empty : none ≡ [] = ap (λ (n : ℕ). take n c.read.new.buf) c.if-n-eq0.true in
    IfErr-weaker c.finish.result _ _ (λ why leaves. less why (left c.args.input.now) (left c.read.new.self) (pieces c.args.output.now) (pieces c.finish.new.output)
    (all-left why (left c.args.input.now) (left c.pieces.input) (left c.read.new.self) c.pieces.reader none (pieces c.args.output.now) (pieces c.pieces.output) (pieces c.finish.new.output)
    c.pieces.invariant.so_far c.in-Ok.ensures.octets empty (c.in-Ok.ensures.end c.if-n-eq0.true some) leaves)) c.finish.ensures.left

-- one more piece was read and shown
pub pieces-preserved : goal.pieces-preserved
pieces-preserved g c =
    let left = g.S.Source.left in
    let pieces = g.K.Sink.pieces in
    let taken = c.in-Ok.ensures.octets ∙ ap (λ (t : List ℕ). before_taking t (left c.read.new.self)) (sym c.split_at.ensures.front) in
    record {
      so_far = piece-read (left c.args.input.now) (left c.pieces.input) (left c.read.new.self) c.pieces.reader c.show_piece.new.self c.split_at.result.0.now
          (pieces c.args.output.now) (pieces c.pieces.output) (pieces c.show_piece.new.output) c.pieces.invariant.so_far taken c.in_ok-show_piece.ensures.shown;
      number = omega (arith, c.in_ok-show_piece.ensures.number, c.in-Ok.ensures.given, c.split_at.ensures.front_len, c.pieces.invariant.number);
      reads = c.in-Ok.ensures.cause.exact ∙ c.pieces.invariant.reads;
      writes = c.in_ok-show_piece.ensures.cause ∙ c.pieces.invariant.writes;
    }

-- a fault within a piece
pub returns-in_err-show_piece-clause-left : goal.returns-in_err-show_piece-clause-left
returns-in_err-show_piece-clause-left g c =
    let left = g.S.Source.left in
    let pieces = g.K.Sink.pieces in
    let exit = err_from_is_err_and c.from_residual.result c.from_residual.ensures.1 in
    let why = c.in_err-show_piece.field-0.0 in
    let taken = c.in-Ok.ensures.octets ∙ ap (λ (t : List ℕ). before_taking t (left c.read.new.self)) (sym c.split_at.ensures.front) in
    rw (exit.1, exit.2) (less why (left c.args.input.now) (left c.read.new.self) (pieces c.args.output.now) (pieces c.show_piece.new.output)
    (piece-left why (left c.args.input.now) (left c.pieces.input) (left c.read.new.self) c.pieces.reader c.split_at.result.0.now
    (pieces c.args.output.now) (pieces c.pieces.output) (pieces c.show_piece.new.output) c.pieces.invariant.so_far taken c.in_err-show_piece.ensures.left))
