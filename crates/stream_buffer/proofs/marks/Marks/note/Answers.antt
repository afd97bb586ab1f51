use Rattle.std.proofs.Common.{sym, ◌∙◌}
use Rattle.stream_buffer.proofs.MarkLemmas.{run_stays, run_reaches}
use Rattle.stream_buffer.proofs.marks.Marks.note.Goals as goal

pub run_from-self-inside-requires : goal.run_from-self-inside-requires
run_from-self-inside-requires c = run_reaches c.self.inside.sent.items c.args.place (c.if-place-self.true ∙ c.self.invariant.run)

pub invariant_of-self-else-place-self : goal.invariant_of-self-else-place-self
invariant_of-self-else-place-self c = record {
  run = c.self.invariant.run ∙ sym (run_stays c.self.inside.sent.items c.args.place (λ e. c.if-place-self.false (e ∙ sym c.self.invariant.run)));
}
