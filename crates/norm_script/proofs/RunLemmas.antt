-- What can be a script can be run.
use Rattle.std.proofs.Common.{ℕ, List, [], ◌∷◌, None, Some}
use Rattle.std.specs.List.{AllByRecursion}
use Rattle.norm_script.specs.Commands.{Commands}
use Rattle.norm_script.specs.Scripts.{IsVerb, IsLine, IsScript, CanOffer, CanSubmit, CanRun}
use Rattle.norm_script.specs.declared.script.Line.{Line}
use Rattle.norm_script.specs.declared.script.Verb.{Verb}
use Rattle.norm_script.specs.declared.script.Verb.TheVariants as verb

can_offer : (v : Verb) → IsVerb v → CanOffer v
can_offer (verb.Data None bytes) is = is.octets
can_offer (verb.Data (Some info) bytes) is = (is.object.octets, is.info_is.octets)
can_offer (verb.File name) is = tt
can_offer verb.Open is = tt
can_offer (verb.Write bytes) is = is.octets
can_offer verb.Close is = tt
can_offer (verb.Mark quorum) is = tt
can_offer (verb.Restart instance) is = is
can_offer (verb.Strike node) is = tt

can_submit : (producers : ℕ) (lines : List Line) → AllByRecursion (IsLine producers) lines → AllByRecursion (CanSubmit producers) lines
can_submit producers [] all = tt
can_submit producers (line ∷ lines) all = (
  record { first = all.0.first; last = all.0.last; verb = can_offer line.verb all.0.verb },
  can_submit producers lines all.1,
)

pub can_run : (script : Commands) → IsScript script → CanRun script
can_run script is = record {
  range = is.range;
  few = is.few;
  each = can_submit script.profile.producers script.lines is.each;
  numbered = is.numbered;
}

pub ruleset run_laws = (can_run)
