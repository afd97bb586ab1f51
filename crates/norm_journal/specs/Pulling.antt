-- Pulling commands: producers come in any order, and each producer's commands in theirs.
use Rattle.std.specs.Prelude.{ℕ, ◌==◌, List, [], ◌∷◌, true, false, Option, None, Some}
use Rattle.std.specs.Option.{option_map}
use Rattle.norm_base.specs.declared.node.Origin.{Origin}
use Rattle.norm_script.specs.declared.script.Line.{Line}

-- the name of a line's command
abbrev pub origin_of : Line → Origin
origin_of line = record { producer = line.producer; number = line.number }

-- A producer's first line among those that are left, and the lines that are left then.
unfoldable pub first_line : ℕ → List Line → Option (Line × List Line)
first_line producer [] = None
first_line producer (line ∷ lines) = elim (line.producer == producer) [
  | true ↦ Some (line, lines)
  | false ↦ option_map (λ (found : Line × List Line). (found.0, line ∷ found.1)) (first_line producer lines)
]

-- the line that a pull by this name gives, and the lines that are left then
abbrev pub pulled : Origin → List Line → Option (Line × List Line)
pulled by lines = elim (first_line by.producer lines) [
  | Some found ↦ elim (found.0.number == by.number) [ true ↦ Some found | false ↦ None ]
  | None ↦ None
]
