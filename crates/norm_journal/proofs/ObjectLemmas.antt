-- A script without the verbs of streams gives the nodes a run of data and files alone.
use Rattle.std.proofs.Common.{◌≡◌, List, [], ◌∷◌, true, Some, subst}
use Rattle.std.specs.Prelude.{⊤}
use Rattle.std.specs.List.{AllByRecursion}
use Rattle.std.proofs.lemmas.Option.{none-some, same_Some}
use Rattle.norm_script.specs.declared.script.Verb.{Verb}
use Rattle.norm_script.specs.declared.script.Verb.TheVariants as verb
use Rattle.norm_send_rules.specs.declared.job.Job.{Job}
use Rattle.norm_send_rules.specs.declared.job.Job.TheVariants as job
use Rattle.norm_safety.specs.Jobs.{OpensNone, IsOfObjects as IsEventOfObjects}
use Rattle.norm_journal.specs.declared.event.Event.{Event}
use Rattle.norm_journal.specs.Follows.{IsJobOf}
use Rattle.norm_journal.specs.Jobs.{Told as Files, job_of, opens_no_stream, IsOfObjects}
use Rattle.norm_journal.specs.Laws.{CommandsAreOfObjects}
use Rattle.norm_journal.proofs.LineLemmas.{Makes, begun_events}

-- the job of a command that is of no stream
opens_none : (files : Files) (v : Verb) (given : Job) → opens_no_stream v ≡ true → IsJobOf files v given → OpensNone given
opens_none files (verb.Data info octets) (job.Data other bytes) is its = tt
opens_none files (verb.File name) (job.File other octets) is its = tt
opens_none files verb.Open job.Open is its = absurd (cc)
opens_none files (verb.Write octets) (job.Write bytes) is its = tt
opens_none files verb.Close job.Close is its = tt
opens_none files (verb.Mark quorum) (job.Mark other) is its = tt
opens_none files (verb.Restart instance) (job.Restart other) is its = tt
opens_none files (verb.Strike node) (job.Strike other) is its = tt
opens_none files _ _ is its = absurd its

known_none : (v : Verb) (given : Job) → opens_no_stream v ≡ true → job_of v ≡ Some given → OpensNone given
known_none (verb.Data info octets) given is its = subst OpensNone (same_Some (job.Data info octets) given its) tt
known_none (verb.File name) given is its = absurd (none-some given its)
known_none verb.Open given is its = absurd (cc)
known_none (verb.Write octets) given is its = absurd (cc)
known_none verb.Close given is its = absurd (cc)
known_none (verb.Mark quorum) given is its = subst OpensNone (same_Some (job.Mark quorum) given its) tt
known_none (verb.Restart instance) given is its = subst OpensNone (same_Some (job.Restart instance) given its) tt
known_none (verb.Strike node) given is its = subst OpensNone (same_Some (job.Strike node) given its) tt

abbrev Whatever : Event → Type 0
Whatever e = ⊤

makes_objects : Makes IsOfObjects Whatever IsEventOfObjects
makes_objects = record {
  told = λ files line by given gave now is its has. opens_none files line.verb given is its;
  known = λ line by given now is its. known_none line.verb given is its;
  length = λ by name len now. tt;
  delivered = λ node octets now draw. tt;
  ticked = λ node now. tt;
  offered = λ node octets. tt;
  taken = λ node. tt;
  news = tt;
}

each_is : (events : List Event) → AllByRecursion Whatever events
each_is [] = tt
each_is (e ∷ events) = (tt, each_is events)

pub commands_are_of_objects : CommandsAreOfObjects
commands_are_of_objects script files nodes events lines begun =
    begun_events IsOfObjects Whatever IsEventOfObjects makes_objects script files nodes events lines begun (each_is events)
