-- The script that a folder gives: its manifest as data, then each file in order of name, with a mark after each object.
use Rattle.std.specs.Prelude.{ℕ, ◌+◌, List, [], ◌∷◌, map, None}
use Rattle.norm_base.specs.Settings.{Settings}
use Rattle.norm_script.specs.Commands.{Commands}
use Rattle.norm_script.specs.declared.script.Line.{Line}
use Rattle.norm_script.specs.declared.script.Verb.{Verb}
use Rattle.norm_script.specs.declared.script.Verb.TheVariants as verb
use Rattle.norm_mirror.specs.Manifest.{manifest_text}
use Rattle.norm_mirror.specs.declared.entry.Entry.{Entry}

-- the objects of a folder: its manifest, and then its files
abbrev pub folder_objects : List Entry → List Verb
folder_objects entries = verb.Data None (manifest_text entries) ∷ map (λ (e : Entry). verb.File e.name) entries

-- the command of the one producer with this number
abbrev pub command : ℕ → Verb → Line
command number verb = record { producer = 1; number = number; verb = verb }

-- commands from this number on: each of these, and a mark after it
abbrev pub with_marks : ℕ → List Verb → List Line
with_marks number [] = []
with_marks number (object ∷ objects) =
    command number object ∷ command (number + 1) (verb.Mark None) ∷ with_marks (number + 2) objects

-- a folder's objects, each with a mark after it, under a profile
abbrev pub folder_script : Settings → List Entry → Commands
folder_script p entries = record { profile = p; lines = with_marks 1 (folder_objects entries) }
