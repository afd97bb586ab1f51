-- Nothing comes too late in a session.
use Rattle.std.proofs.Common.{◌≤◌, arith}
use Rattle.norm_safety.proofs.InTime.{time_laws}
use Rattle.norm_journal.specs.Judged.{judged_opening}
use Rattle.norm_journal.specs.Laws.{BeginsLawfully}
use Rattle.norm_journal.specs.WorldEvents.{world_events}
use Rattle.norm_journal.proofs.LawfulLemmas.{begins_honestly}
use Rattle.norm_journal.proofs.OctetLemmas.{commands_are_events}
use Rattle.norm_journal.proofs.ScriptLemmas.{scripts_named}

pub begins_lawfully : BeginsLawfully
begins_lawfully script files nodes events is begun octets honest =
    let run = begins_honestly script files nodes events (scripts_named script is) begun honest in
    let happened = world_events (judged_opening script files nodes) events in
    let fewer = run.few in
    let most = is.few in
    time_laws.lawful script.profile is.range happened run.honest (commands_are_events script files nodes events is begun octets)
    (time_laws.few script.profile happened run.honest (omega (arith, fewer, most)))
