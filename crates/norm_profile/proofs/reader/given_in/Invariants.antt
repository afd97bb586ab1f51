use Rattle.std.proofs.Common.{◌≡◌}
use Rattle.norm_base.specs.Given.{nothing_given}
use Rattle.norm_profile.specs.Profiles.{given_in}
use Rattle.toml.specs.View.{members_view}
use Rattle.norm_profile.proofs.reader.given_in.Given as goal

-- what is left gives beside what was given the same as all members beside nothing
abbrev pub invariant-loop-name : goal.invariant-loop-name
invariant-loop-name l =
    (goal.iterator-loop-name).can_next l.name-iterator ×
    (goal.iterator-loop-name).is_finite l.name-iterator ×
    (given_in (members_view l.name-iterator) l.given ≡ given_in (members_view l.table.entries) nothing_given)
