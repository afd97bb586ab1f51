use Rattle.std.specs.Prelude.{ℕ, ◌+◌, ◌*◌, ◌/◌, ◌%◌, ◌==◌, Bool, true, false, List, [], ◌∷◌, ◌++◌, ◌<◌, length, take, slice_index_or, map, None}
use Rattle.std.specs.List.{range_with_len}
use Rattle.norm_base.specs.Told.{Pieces, gained, GainsFront}
use Rattle.norm_base.specs.Settings.{Settings, defaults}
use Rattle.norm_base.specs.declared.key.Key.{Key}
use Rattle.norm_base.specs.declared.key.Key.TheVariants as key
use Rattle.norm_base.specs.declared.kinds.FabricKind.TheVariants.{Chance}
use Rattle.norm_script.specs.Commands.{Commands}
use Rattle.norm_script.specs.Written.{written, setting_line, command_line}
use Rattle.norm_script.specs.declared.script.Line.{Line}
use Rattle.norm_script.specs.declared.script.Verb.{Verb}
use Rattle.norm_script.specs.declared.script.Verb.TheVariants as verb

-- A script to try a session with: three producers send 90 objects each to 16 receivers over a network that loses one
-- datagram in ten.

abbrev pub generated_settings : ℕ → List (Key × ℕ)
generated_settings n =
    (key.Instance, 7) ∷ (key.Receivers, 16) ∷ (key.Producers, 3) ∷ (key.E, 64) ∷ (key.B, 4) ∷ (key.Turns, 4000000)
    ∷ (key.Fabric, 1) ∷ (key.Chance, n) ∷ (key.Loss, 100) ∷ (key.Repeat, 50) ∷ (key.Late, 3) ∷ []

-- octet j of command i of producer p
abbrev pub generated_octets : ℕ → ℕ → ℕ → List ℕ
generated_octets n p i = map (λ j. (n + p + i + j) % 256) (range_with_len 0 (1 + (n + 37 * p + 101 * i) % 500))

-- each tenth command is a mark
abbrev pub generated_kind : Bool → List ℕ → Verb
generated_kind true octets = verb.Mark None
generated_kind false octets = verb.Data None octets

abbrev pub generated_verb : ℕ → ℕ → ℕ → Verb
generated_verb n p i = generated_kind (i % 10 == 9) (generated_octets n p i)

-- command k of all, from 0: a hundred of each producer
abbrev pub generated_command : ℕ → ℕ → Line
generated_command n k =
    record { producer = k / 100 + 1; number = k % 100 + 1; verb = generated_verb n (k / 100 + 1) (k % 100) }

unfoldable pub generated_lines : ℕ → List Line
generated_lines n = map (generated_command n) (range_with_len 0 300)

unfoldable pub generate_text : ℕ → List ℕ
generate_text n = written (generated_settings n) (generated_lines n)

-- its lines, each with its line feed
abbrev pub setting_piece : Key × ℕ → List ℕ
setting_piece s = setting_line s.0 s.1 ++ 10 ∷ []

abbrev pub command_piece : ℕ → ℕ → List ℕ
command_piece n k = command_line (k / 100 + 1) (generated_verb n (k / 100 + 1) (k % 100)) ++ 10 ∷ []

unfoldable pub generated_pieces : ℕ → List (List ℕ)
generated_pieces n = map setting_piece (generated_settings n) ++ map (command_piece n) (range_with_len 0 300)

-- what it says
abbrev pub generated_profile : ℕ → Settings
generated_profile n = record defaults {
  instance = 7;
  receivers = 16;
  producers = 3;
  e = 64;
  b = 4;
  max_n = 6;
  turns = 4000000;
  fabric = Chance;
  chance = n;
  loss = 100;
  repeat = 50;
  late = 3;
}

abbrev pub generated_script : ℕ → Commands
generated_script n = record { profile = generated_profile n; lines = generated_lines n }

-- some of these pieces were written, and a front of the next
abbrev pub StopsWithin : List (List ℕ) → Pieces → Pieces → Type 0
StopsWithin pieces old new =
    (k : ℕ) × (k < length pieces) × GainsFront (gained old (take k pieces)) new (slice_index_or pieces k [])
