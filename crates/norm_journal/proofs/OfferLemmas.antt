-- Which line's command is offered at a place.
use Rattle.std.proofs.Common.{◌≡◌, Option, None, Some, ap, subst, refl, inl, inr}
use Rattle.std.specs.Prelude.{◌⊎◌}
use Rattle.std.specs.Option.{option_map}
use Rattle.std.proofs.lemmas.Option.{none-some, same_Some, some_pair_parts}
use Rattle.norm_script.specs.declared.script.Line.{Line}
use Rattle.norm_send_rules.specs.declared.job.Job.{Job}
use Rattle.norm_journal.specs.Commands.{telling, repeating}
use Rattle.norm_journal.specs.Jobs.{job_of}
use Rattle.norm_journal.specs.Places.{Place, Giving, Again}

told_again : (o : Option Job) (l line : Line) → ◌≡◌ {A = Option Line} (elim o [ Some job ↦ None | None ↦ Some l ]) (Some line) → (l ≡ line) × (o ≡ None)
told_again None l line e = (same_Some l line e, refl)
told_again (Some job) l line e = absurd (none-some line e)

-- a line whose command is told is offered for the first time, or again
pub told_at : (place : Place) (line : Line) → telling place ≡ Some line → (place ≡ Giving line) ⊎ ((place ≡ Again line) × (job_of line.verb ≡ None))
told_at (Giving l) line e = inl (ap Giving (same_Some l line e))
told_at (Again l) line e =
    let two = told_again (job_of l.verb) l line e in inr (ap Again two.0, subst (λ (x : Line). job_of x.verb ≡ None) two.0 two.1)
told_at place line e = absurd (none-some line e)

known_again : (o : Option Job) (l line : Line) (job : Job) → ◌≡◌ {A = Option (Line × Job)} (option_map (λ x. (l, x)) o) (Some (line, job))
    → (l ≡ line) × (o ≡ Some job)
known_again None l line job e = absurd (none-some _ e)
known_again (Some x) l line job e = let two = some_pair_parts l line x job e in (two.0, ap Some two.1)

-- a line whose command is not told again is one that waits
pub repeated_at : (place : Place) (line : Line) (job : Job) → repeating place ≡ Some (line, job) → (place ≡ Again line) × (job_of line.verb ≡ Some job)
repeated_at (Again l) line job e =
    let two = known_again (job_of l.verb) l line job e in (ap Again two.0, subst (λ (x : Line). job_of x.verb ≡ Some job) two.0 two.1)
repeated_at place line job e = absurd (none-some _ e)
