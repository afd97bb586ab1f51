use Rattle.norm_memory.proofs.ClockLemmas.{told_next}
use Rattle.norm_memory.proofs.mem_clock.MemClockClock.now.Goals as goal

pub returns-clause-told : goal.returns-clause-told
returns-clause-told c = rw (← c.self.view_is, c.next_moment-moment.ensures) (rw (← c.self.view_is) (told_next c.self.inside.moments.items c.self.inside.asked c.saturating_add-self-inside.result c.saturating_add-self-inside.ensures))
