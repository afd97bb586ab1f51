-- An event of the journal that is one of the world: the world answers it.
use Rattle.std.specs.Prelude.{true, false, Option, None, Some}
use Rattle.norm_safety.specs.Events.{Event as WorldEvent, Answer}
use Rattle.norm_safety.specs.WorldStep.{world_step}
use Rattle.norm_journal.specs.Judged.{Judged}
use Rattle.norm_journal.specs.Places.{Place}
use Rattle.norm_journal.specs.Same.{same_answer}

-- the judge's state with the world after this event
abbrev pub world_after : WorldEvent → Judged → Judged
world_after e j = record j { world = (world_step j.profile j.world e).0 }

-- the world's answer
abbrev pub answer_to : WorldEvent → Judged → Answer
answer_to e j = (world_step j.profile j.world e).1

-- another place
abbrev pub at : Place → Judged → Judged
at place j = record j { place = place }

-- the event comes in the world, and gives this answer
abbrev pub comes : WorldEvent → Answer → Judged → Option Judged
comes e answer j = elim (same_answer (answer_to e j) answer) [ true ↦ Some (world_after e j) | false ↦ None ]
