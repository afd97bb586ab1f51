-- Events come by the calls that are due.
use Rattle.std.proofs.Common.{◌≡◌, ℕ, Option, None, Some, Result, refl, sym, ap, ◌∙◌, inl, inr}
use Rattle.std.specs.Prelude.{◌==◌, ◌&&◌, ◌⊎◌, not}
use Rattle.std.proofs.lemmas.Option.{none-some}
use Rattle.norm_base.specs.declared.node.Origin.{Origin}
use Rattle.norm_script.specs.declared.script.Line.{Line}
use Rattle.norm_script.specs.declared.script.Verb.{Verb}
use Rattle.norm_script.specs.declared.script.Verb.TheVariants as verb
use Rattle.norm_send_rules.specs.declared.fault.SendFault.{SendFault}
use Rattle.norm_send_rules.specs.declared.job.Job.{Job}
use Rattle.norm_send_rules.specs.declared.job.Job.TheVariants as job
use Rattle.norm_send_rules.specs.declared.job.Receipt.{Receipt}
use Rattle.norm_send_rules.specs.declared.news.News.{News}
use Rattle.norm_journal.specs.declared.event.Event.{Event}
use Rattle.norm_journal.specs.declared.event.Event.TheVariants as event
use Rattle.norm_journal.specs.Calls.{Call, file_call, moment_call, call_at, call_due, call_of, CallsAreDue}
use Rattle.norm_journal.specs.Commands.{telling}
use Rattle.norm_journal.specs.Follows.{Follows, IsJobOf, OfferedAndTold, OfferedAgain, SendersTick, ReceiversTick, IsQuiet}
use Rattle.norm_journal.specs.Jobs.{Told as Files, job_of}
use Rattle.norm_journal.specs.Judged.{Judged}
use Rattle.norm_journal.specs.Places.{Place, Starting, Between, Pulling, Giving, Again, Sending, Offering, Taking, Handing}
use Rattle.norm_journal.proofs.FollowLemmas.{judges_what_follows}
use Rattle.norm_journal.proofs.OfferLemmas.{told_at, repeated_at}

abbrev call_or : Option News → Option Call → Option Call
call_or due call = elim due [ Some news ↦ None | None ↦ call ]

-- where no change is to be told, the place decides
quiet_call : (j : Judged) (place : Place) → IsQuiet j → j.place ≡ place → call_due j ≡ call_at place j
quiet_call j place quiet is = ap (λ n. call_or n (call_at j.place j)) quiet ∙ ap (λ p. call_at p j) is

telling_call : (j : Judged) (line : Line) → IsQuiet j → telling j.place ≡ Some line → call_due j ≡ file_call line.verb
telling_call j line quiet is = by_place (told_at j.place line is) where
  by_place : (j.place ≡ Giving line) ⊎ ((j.place ≡ Again line) × (job_of line.verb ≡ None)) → call_due j ≡ file_call line.verb
  by_place (inl giving) = quiet_call j (Giving line) quiet giving
  by_place (inr again) = quiet_call j (Again line) quiet again.0

-- a job that is told comes by the call of its command
job_call : (j : Judged) (by : Origin) (files : Files) (v : Verb) (job : Job) (gave : Result Receipt SendFault) → IsJobOf files v job
    → call_of j (event.Job by (Some job) gave) ≡ file_call v
job_call j by files (verb.Data info octets) (job.Data other bytes) gave is = refl
job_call j by files (verb.File name) (job.File other octets) gave is = ap (λ v. file_call v) (sym (ap verb.File is.0))
job_call j by files verb.Open job.Open gave is = refl
job_call j by files (verb.Write octets) (job.Write bytes) gave is = refl
job_call j by files verb.Close job.Close gave is = refl
job_call j by files (verb.Mark quorum) (job.Mark other) gave is = refl
job_call j by files (verb.Restart instance) (job.Restart other) gave is = refl
job_call j by files (verb.Strike node) (job.Strike other) gave is = refl
job_call j by files _ _ gave is = absurd is

-- a job that is not told again is not a file's
known_call : (v : Verb) (job : Job) → job_of v ≡ Some job → None ≡ file_call v
known_call (verb.File name) job is = absurd (none-some job is)
known_call (verb.Data info octets) job is = refl
known_call verb.Open job is = refl
known_call (verb.Write octets) job is = refl
known_call verb.Close job is = refl
known_call (verb.Mark quorum) job is = refl
known_call (verb.Restart instance) job is = refl
known_call (verb.Strike node) job is = refl

offer_call : (j : Judged) (by : Origin) (line : Line) (told : Option Job) (gave : Result Receipt SendFault) (other : Job) → IsQuiet j
    → OfferedAndTold j line told other gave ⊎ OfferedAgain j line told other → call_of j (event.Job by told gave) ≡ call_due j
offer_call j by line told gave other quiet (inl f) =
    ap (λ t. call_of j (event.Job by t gave)) f.told_is
    ∙ job_call j by j.files line.verb other gave f.its_job
    ∙ sym (telling_call j line quiet f.place)
offer_call j by line told gave other quiet (inr a) =
    let known = repeated_at j.place line other a.place in
    ap (λ t. call_of j (event.Job by t gave)) a.told_is
    ∙ known_call line.verb other known.1
    ∙ sym (quiet_call j (Again line) quiet known.0)

tick_call : (j : Judged) (node : ℕ) (after : Place) → IsQuiet j → SendersTick j node after ⊎ ReceiversTick j node after → None ≡ call_due j
tick_call j node after quiet (inl s) = sym (quiet_call j Sending quiet s.place)
tick_call j node after quiet (inr r) = sym (quiet_call j (Handing node r.nodes) quiet r.place)

due : (j next : Judged) (e : Event) → Follows j e next → call_of j e ≡ call_due j
due j next event.Start f = sym (quiet_call j Starting f.0 f.1.place)
due j next (event.Turn turn now) f =
    ap (λ b. moment_call (not b && j.profile.step == 0)) (sym f.1.more) ∙ sym (quiet_call j Between f.0 f.1.place)
due j next (event.Pull by) f = sym (quiet_call j Pulling f.0 f.1.place)
due j next (event.Job by told gave) f = offer_call j by f.1.line told gave f.1.job f.0 f.1.due
due j next (event.Length by name len fault) f = ap (λ v. file_call v) (sym f.1.its_name) ∙ sym (telling_call j f.1.line f.0 f.1.place)
due j next (event.Tick node said) f = tick_call j node f.1.after f.0 f.1.due
due j next (event.Offer from octets) f = sym (quiet_call j (Offering from octets f.1.after) f.0 f.1.place)
due j next (event.Took to octets) f = sym (quiet_call j (Taking f.1.count) f.0 f.1.place)
due j next event.Empty f = sym (quiet_call j (Taking f.1.count) f.0 f.1.place)
due j next (event.Up node instance up) f = sym (quiet_call j (Handing node f.1.nodes) f.0 f.1.place)
due j next (event.News news) f = sym (ap (λ n. call_or n (call_at j.place j)) f.due)
due j next event.End f = sym (quiet_call j Between f.0 f.1.place ∙ ap (λ b. moment_call (not b && j.profile.step == 0)) f.1.done)

pub calls_are_due : CallsAreDue
calls_are_due j next e comes = due j next e ((judges_what_follows j next e).0 comes)
