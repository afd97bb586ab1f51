use Rattle.std.proofs.Common.{inl, inr, refl}
use Rattle.norm_program.proofs.mirror.write_last.Goals as goal

pub returns-in-Ok : goal.returns-in-Ok
returns-in-Ok g c = inl (record { is = refl; output = c.in-Ok.ensures.ok; writes = c.in-Ok.ensures.cause.exact })

pub returns-in-Err : goal.returns-in-Err
returns-in-Err g c = inr (record { is = refl; output = c.in-Err.ensures.err; writes = c.in-Err.ensures.cause.exact })
