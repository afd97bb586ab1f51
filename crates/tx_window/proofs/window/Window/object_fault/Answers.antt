use Rattle.std.proofs.Common.{ap, sym, ◌∙◌, arith, Some, None}
use Rattle.tx_window.specs.WindowState.{WindowState}
use Rattle.tx_window.specs.Taking.{size_fault}
use Rattle.tx_window.proofs.FaultLemmas.{object_by}
use Rattle.tx_window.proofs.window.Window.object_fault.Goals as goal

pub returns-in-Some-clause-exact : goal.returns-in-Some-clause-exact
returns-in-Some-clause-exact c = λ s name octets stands i-is n-is.
    sym (object_by c.args.self.now.p s name octets c.args.info c.args.len (Some c.in-Some.fault) i-is n-is
    (sym c.in-Some.is ∙ c.size_fault.ensures.exact ∙ ap (λ (v : WindowState). size_fault v.p c.args.info c.args.len) c.self.view_is))

pub overflow_cast-len : goal.overflow_cast-len
overflow_cast-len c = let free = c.size_fault.ensures.free c.in_default.is in grind (arith, free)

pub returns-clause-exact : goal.returns-clause-exact
returns-clause-exact c = λ s name octets stands i-is n-is.
    c.joining_fault.ensures.exact s stands
    ∙ sym (object_by c.args.self.now.p s name octets c.args.info c.args.len None i-is n-is
    (sym c.in_default.is ∙ c.size_fault.ensures.exact ∙ ap (λ (v : WindowState). size_fault v.p c.args.info c.args.len) c.self.view_is))
