use Rattle.std.proofs.Common.{◌∙◌, ◌∷◌, [], sym, ap, refl, length, arith, length-append, append-nil}
use Rattle.std.proofs.lemmas.Result.{err_from_is_err_and, IfErr-weaker, on_ok_weaker}
use Rattle.norm_show.proofs.SplitLemmas.{split_parts}
use Rattle.norm_show.proofs.ShowLemmas.{shows-on, leaves-behind, leaves-cut}
use Rattle.norm_show.proofs.stream.Reader.show_piece.Goals as goal

pub add-requires : goal.add-requires
add-requires g c = (split_parts c.lines.rest.now c.in-Some.front.now c.in-Some.behind.now (sym c.in-Some.ensures)).none

pub end_line-requires : goal.end_line-requires
end_line-requires g c =
    let parts = split_parts c.lines.rest.now c.in-Some.front.now c.in-Some.behind.now (sym c.in-Some.ensures) in
    omega (arith, ap length parts.are, length-append c.in-Some.front.now (10 ∷ c.in-Some.behind.now), c.in_ok-add.ensures.number)

-- a line that is too long
pub returns-in_err-add-clause-left : goal.returns-in_err-add-clause-left
returns-in_err-add-clause-left g c =
    let pieces = g.K.Sink.pieces in
    let exit = err_from_is_err_and c.from_residual.result c.from_residual.ensures.1 in
    let parts = split_parts c.lines.rest.now c.in-Some.front.now c.in-Some.behind.now (sym c.in-Some.ensures) in
    let why = c.in_err-add.field-0.0 in
    rw (exit.1, exit.2) (leaves-behind why c.args.self.now c.args.piece.now c.lines.self c.lines.rest.now (pieces c.args.output.now) (pieces c.lines.output) (pieces c.lines.output)
    c.lines.invariant.shows (leaves-cut why c.lines.self c.lines.rest.now c.in-Some.front.now (10 ∷ c.in-Some.behind.now) (pieces c.lines.output) (pieces c.lines.output)
    parts.are (λ more. c.in_err-add.ensures.left (pieces c.lines.output) more)))

-- a line that was not shown
pub returns-in_err-end_line-clause-left : goal.returns-in_err-end_line-clause-left
returns-in_err-end_line-clause-left g c =
    let pieces = g.K.Sink.pieces in
    let exit = err_from_is_err_and c.from_residual-in_err-end_line.result c.from_residual-in_err-end_line.ensures.1 in
    let parts = split_parts c.lines.rest.now c.in-Some.front.now c.in-Some.behind.now (sym c.in-Some.ensures) in
    let why = c.in_err-end_line.field-0.0 in
    let shows = shows-on c.args.self.now c.args.piece.now c.lines.self c.lines.rest.now c.in-Some.front.now (10 ∷ c.in-Some.behind.now) c.add.new.self
    (pieces c.args.output.now) (pieces c.lines.output) (pieces c.lines.output) c.lines.invariant.shows parts.are (c.in_ok-add.ensures.shown (pieces c.lines.output)) in
    rw (exit.1, exit.2) (leaves-behind why c.args.self.now c.args.piece.now c.add.new.self (10 ∷ c.in-Some.behind.now) (pieces c.args.output.now) (pieces c.lines.output) (pieces c.end_line.new.output)
    shows (leaves-cut why c.add.new.self (10 ∷ c.in-Some.behind.now) (10 ∷ []) c.in-Some.behind.now (pieces c.lines.output) (pieces c.end_line.new.output)
    refl (λ more. c.in_err-end_line.ensures.left more)))

pub lines-smaller : goal.lines-smaller
lines-smaller g c =
    let parts = split_parts c.lines.rest.now c.in-Some.front.now c.in-Some.behind.now (sym c.in-Some.ensures) in
    omega (arith, ap length parts.are, length-append c.in-Some.front.now (10 ∷ c.in-Some.behind.now))

-- one more line was shown
pub lines-preserved : goal.lines-preserved
lines-preserved g c =
    let pieces = g.K.Sink.pieces in
    let parts = split_parts c.lines.rest.now c.in-Some.front.now c.in-Some.behind.now (sym c.in-Some.ensures) in
    let shows = shows-on c.args.self.now c.args.piece.now c.lines.self c.lines.rest.now c.in-Some.front.now (10 ∷ c.in-Some.behind.now) c.add.new.self
    (pieces c.args.output.now) (pieces c.lines.output) (pieces c.lines.output) c.lines.invariant.shows parts.are (c.in_ok-add.ensures.shown (pieces c.lines.output)) in
    record {
      shows = shows-on c.args.self.now c.args.piece.now c.add.new.self (10 ∷ c.in-Some.behind.now) (10 ∷ []) c.in-Some.behind.now c.end_line.new.self
          (pieces c.args.output.now) (pieces c.lines.output) (pieces c.end_line.new.output) shows refl c.in_ok-end_line.ensures.shown;
      number = omega (arith, ap length parts.are, length-append c.in-Some.front.now (10 ∷ c.in-Some.behind.now), c.in_ok-add.ensures.number, c.in_ok-end_line.ensures.number);
      count = c.in_ok-end_line.ensures.cause ∙ c.lines.invariant.count;
    }

-- the beginning of the next line was kept
pub returns-clause-shown : goal.returns-clause-shown
returns-clause-shown g c =
    let pieces = g.K.Sink.pieces in
    on_ok_weaker c.add-2.result (λ shows. shows-on c.args.self.now c.args.piece.now c.lines.self c.lines.rest.now c.lines.rest.now [] c.add-2.new.self
    (pieces c.args.output.now) (pieces c.lines.output) (pieces c.lines.output) c.lines.invariant.shows (sym (append-nil c.lines.rest.now)) (shows (pieces c.lines.output))) c.add-2.ensures.shown

pub returns-clause-left : goal.returns-clause-left
returns-clause-left g c =
    let pieces = g.K.Sink.pieces in
    IfErr-weaker c.add-2.result _ _ (λ why leaves. leaves-behind why c.args.self.now c.args.piece.now c.lines.self c.lines.rest.now
    (pieces c.args.output.now) (pieces c.lines.output) (pieces c.lines.output) c.lines.invariant.shows (λ more. leaves (pieces c.lines.output) more)) c.add-2.ensures.left
