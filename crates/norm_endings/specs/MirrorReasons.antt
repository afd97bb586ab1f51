-- What stands on standard error of a folder that was not mirrored. Where a text has the name of a file it is not named here.
use Rattle.std.specs.Prelude.{List, ℕ, ◌++◌, codes, Option, None, Some}
use Rattle.std.specs.Fmt.{decimal}
use Rattle.norm_mirror.specs.declared.outcome.Unsatisfied.{Unsatisfied}

-- which watermark expired, and how many receivers had not confirmed it
abbrev pub not_satisfied_reason : Option Unsatisfied → List ℕ
not_satisfied_reason (Some u) =
    codes "watermark " ++ (decimal u.mark ++ (codes " expired, and the number of receivers that had not confirmed it is "
    ++ (decimal u.left ++ codes ": its line `done` names them")))
not_satisfied_reason None = codes "a watermark expired"
