use Rattle.norm_host.proofs.InstanceLemmas.{line_parts, digits_are_text}
use Rattle.norm_host.proofs.instances.number_in.Goals as goal

-- digits are text
pub returns-in-Err-clause-none : goal.returns-in-Err-clause-none
returns-in-Err-clause-none c = λ number fits is.
    c.in-Err.ensures.cases.0 (digits_are_text c.in_ok-end.digits.now number fits (line_parts c.args.line.now c.in_ok-end.digits.now c.in_ok-end.end.now number c.in_ok-end.ensures.cases.0 is).0)
