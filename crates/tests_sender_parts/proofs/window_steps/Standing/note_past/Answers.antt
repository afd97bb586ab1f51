use Rattle.std.proofs.Common.{sym, subst}
use Rattle.tx_window.specs.Standing.{IsStanding}
use Rattle.tx_window.proofs.LawLemmas.{stays_past}
use Rattle.tests_sender_parts.proofs.window_steps.Standing.note_past.Goals as goal

pub invariant_of-self : goal.invariant_of-self
invariant_of-self c = subst IsStanding (sym c.note_past.ensures.exact) (stays_past c.self.inside.window c.args.through c.self.invariant)
