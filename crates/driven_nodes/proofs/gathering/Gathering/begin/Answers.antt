use Rattle.std.proofs.Common.{refl}
use Rattle.driven_nodes.proofs.HearerLemmas.{begun_heard}
use Rattle.driven_nodes.proofs.GatherLemmas.{begun_stands}
use Rattle.driven_nodes.proofs.gathering.Gathering.begin.Goals as goal

pub returns-clause-stands : goal.returns-clause-stands
returns-clause-stands c =
    begun_stands c.args.members.now _ c.in-Some.draws (begun_heard c.args.members.now c.in_ok-multi.multi c.in_ok-multi.ensures.begun c.in_ok-multi.ensures.sound)
    c.in-Some.ensures c.next_draw-draw.ensures.word c.next_draw-draw.ensures.rest refl c.new-3.ensures
