-- The commands of a script are told to the nodes as octets.
use Rattle.std.proofs.Common.{◌≡◌, ℕ, zero, suc, ◌<◌, List, [], ◌∷◌, None, Some, Result, subst, arith}
use Rattle.std.specs.Prelude.{replicate}
use Rattle.std.specs.List.{AllByRecursion}
use Rattle.std.proofs.lemmas.Option.{none-some, same_Some}
use Rattle.norm_base.specs.Octets.{AreOctets}
use Rattle.norm_base.specs.declared.node.Origin.{Origin}
use Rattle.norm_script.specs.Scripts.{CanOffer, CanSubmit}
use Rattle.norm_script.specs.declared.script.Line.{Line}
use Rattle.norm_script.specs.declared.script.Verb.{Verb}
use Rattle.norm_script.specs.declared.script.Verb.TheVariants as verb
use Rattle.norm_send_rules.specs.declared.fault.SendFault.{SendFault}
use Rattle.norm_send_rules.specs.declared.job.Job.{Job}
use Rattle.norm_send_rules.specs.declared.job.Job.TheVariants as job
use Rattle.norm_send_rules.specs.declared.job.Receipt.{Receipt}
use Rattle.norm_safety.specs.Jobs.{IsJob, IsEvent}
use Rattle.norm_journal.specs.declared.event.Event.TheVariants as event
use Rattle.norm_journal.specs.Follows.{IsJobOf}
use Rattle.norm_journal.specs.Jobs.{Told as Files, job_of}
use Rattle.norm_journal.specs.Laws.{HasOctets, CommandsAreEvents}
use Rattle.norm_journal.proofs.LineLemmas.{Makes, begun_events}

zeros_are_octets : (n : ℕ) → AreOctets (replicate n 0)
zeros_are_octets zero i = omega arith
zeros_are_octets (suc n) zero = omega arith
zeros_are_octets (suc n) (suc i) = zeros_are_octets n i

-- the job of a command of a script
command_job : (files : Files) (v : Verb) (by : Origin) (given : Job) (gave : Result Receipt SendFault) → CanOffer v → IsJobOf files v given
    → HasOctets (event.Job by (Some given) gave) → IsJob given
command_job files (verb.Data None octets) by (job.Data other bytes) gave is its has = subst AreOctets its.1 is
command_job files (verb.Data (Some info) octets) by (job.Data other bytes) gave is its has = subst AreOctets its.1 is.0
command_job files (verb.File name) by (job.File other octets) gave is its has = has
command_job files verb.Open by job.Open gave is its has = tt
command_job files (verb.Write octets) by (job.Write bytes) gave is its has = subst AreOctets its is
command_job files verb.Close by job.Close gave is its has = tt
command_job files (verb.Mark quorum) by (job.Mark other) gave is its has = tt
command_job files (verb.Restart instance) by (job.Restart other) gave is its has = omega (arith, is, its)
command_job files (verb.Strike node) by (job.Strike other) gave is its has = tt
command_job files _ by _ gave is its has = absurd its

known_job : (v : Verb) (given : Job) → CanOffer v → job_of v ≡ Some given → IsJob given
known_job (verb.Data None octets) given is its = subst IsJob (same_Some (job.Data None octets) given its) is
known_job (verb.Data (Some info) octets) given is its = subst IsJob (same_Some (job.Data (Some info) octets) given its) is.0
known_job (verb.File name) given is its = absurd (none-some given its)
known_job verb.Open given is its = subst IsJob (same_Some job.Open given its) tt
known_job (verb.Write octets) given is its = subst IsJob (same_Some (job.Write octets) given its) is
known_job verb.Close given is its = subst IsJob (same_Some job.Close given its) tt
known_job (verb.Mark quorum) given is its = subst IsJob (same_Some (job.Mark quorum) given its) tt
known_job (verb.Restart instance) given is its =
    let less : instance < 65536 = omega (arith, is) in subst IsJob (same_Some (job.Restart instance) given its) less
known_job (verb.Strike node) given is its = subst IsJob (same_Some (job.Strike node) given its) tt

-- a line of a script
abbrev IsOfScript : Line → Type 0
IsOfScript line = CanOffer line.verb

makes_events : Makes IsOfScript HasOctets IsEvent
makes_events = record {
  told = λ files line by given gave now is its has. command_job files line.verb by given gave is its has;
  known = λ line by given now is its. known_job line.verb given is its;
  length = λ by name len now. zeros_are_octets len;
  delivered = λ node octets now draw. tt;
  ticked = λ node now. tt;
  offered = λ node octets. tt;
  taken = λ node. tt;
  news = tt;
}

script_lines : (producers : ℕ) (lines : List Line) → AllByRecursion (CanSubmit producers) lines → AllByRecursion IsOfScript lines
script_lines producers [] all = tt
script_lines producers (line ∷ lines) all = (all.0.verb, script_lines producers lines all.1)

pub commands_are_events : CommandsAreEvents
commands_are_events script files nodes events is begun has =
    begun_events IsOfScript HasOctets IsEvent makes_events script files nodes events
    (script_lines script.profile.producers script.lines is.each) begun has
