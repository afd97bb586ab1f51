use Rattle.std.proofs.Common.{◌-◌, ◌≤◌, ap, sym, subst, ◌∙◌, arith, length}
use Rattle.std.specs.Prelude.{min}
use Rattle.std.proofs.lemmas.List.Sums.{prefix_len-le-length}
use Rattle.stream_buffer.specs.HeldState.{run_of}
use Rattle.stream_buffer.specs.MarksState.{MarksState}
use Rattle.stream_buffer.proofs.MarkLemmas.{run_follows}
use Rattle.stream_buffer.proofs.marks.Marks.follow.Goals as goal

pub move_on-requires-clause-gone : goal.move_on-requires-clause-gone
move_on-requires-clause-gone c =
    let sent : c.args.gone ≤ run_of c.self.inside.sent.items = subst (λ (m : MarksState). c.args.gone ≤ run_of m.sent) (sym c.self.view_is) c.requires.gone in
    omega (arith, sent, prefix_len-le-length (λ b. b) c.self.inside.sent.items)

pub invariant_of-self : goal.invariant_of-self
invariant_of-self c = record {
  run =
      let sent : c.args.gone ≤ run_of c.self.inside.sent.items = subst (λ (m : MarksState). c.args.gone ≤ run_of m.sent) (sym c.self.view_is) c.requires.gone in
      c.min-self-inside.ensures
      ∙ ap (λ n. min c.args.kept (n - c.args.gone)) c.self.invariant.run
      ∙ sym (run_follows c.self.inside.sent.items c.args.gone c.args.kept (c.args.kept - (length c.self.inside.sent.items - c.args.gone)) sent)
      ∙ ap run_of (sym c.move_on.ensures.items);
}
