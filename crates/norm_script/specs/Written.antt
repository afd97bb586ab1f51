use Rattle.std.specs.Prelude.{ℕ, ◌==◌, List, [], ◌∷◌, ◌++◌, codes, decimal, length, map, None, Some, if◌then◌else◌, slice_index_or}
use Rattle.norm_base.specs.Keys.{row_of, keys}
use Rattle.norm_base.specs.Settings.{Settings}
use Rattle.norm_base.specs.declared.key.Key.{Key}
use Rattle.norm_base.specs.declared.key.Key.TheVariants as key
use Rattle.norm_base.specs.declared.kinds.Mode.{Mode}
use Rattle.norm_base.specs.declared.kinds.Mode.TheVariants.{Hold, Drop}
use Rattle.norm_base.specs.declared.kinds.FabricKind.{FabricKind}
use Rattle.norm_base.specs.declared.kinds.FabricKind.TheVariants.{Direct, Chance, Udp}
use Rattle.hex.specs.Hex.{encode_lower}
use Rattle.norm_text.specs.Words.{with_words}
use Rattle.norm_script.specs.Commands.{Commands}
use Rattle.norm_script.specs.declared.script.Line.{Line}
use Rattle.norm_script.specs.declared.script.Verb.{Verb}
use Rattle.norm_script.specs.declared.script.Verb.TheVariants as verb

-- A script written out.

-- a key's value
abbrev pub value_words : Key → ℕ → List ℕ
value_words key value =
    if length (row_of key).words == 0 then decimal value else slice_index_or (row_of key).words value []

abbrev pub setting_line : Key → ℕ → List ℕ
setting_line key value = with_words (codes "set") ((row_of key).name ∷ value_words key value ∷ [])

-- a verb and its words
abbrev pub verb_line : Verb → List ℕ
verb_line (verb.Data None bytes) = with_words (codes "data") (encode_lower bytes ∷ [])
verb_line (verb.Data (Some info) bytes) = with_words (codes "data") (encode_lower bytes ∷ encode_lower info ∷ [])
verb_line (verb.File name) = with_words (codes "file") (name ∷ [])
verb_line verb.Open = codes "open"
verb_line (verb.Write bytes) = with_words (codes "write") (encode_lower bytes ∷ [])
verb_line verb.Close = codes "close"
verb_line (verb.Mark None) = codes "mark"
verb_line (verb.Mark (Some quorum)) = with_words (codes "mark") (decimal quorum ∷ [])
verb_line (verb.Restart instance) = with_words (codes "restart") (decimal instance ∷ [])
verb_line (verb.Strike node) = with_words (codes "strike") (decimal node ∷ [])

abbrev pub command_line : ℕ → Verb → List ℕ
command_line producer verb = with_words (decimal producer) (verb_line verb ∷ [])

-- lines, each with its line feed
abbrev pub ended : List (List ℕ) → List ℕ
ended [] = []
ended (line ∷ lines) = line ++ 10 ∷ ended lines

-- settings, and commands behind them
abbrev pub written : List (Key × ℕ) → List Line → List ℕ
written settings lines =
    ended (map (λ (s : Key × ℕ). setting_line s.0 s.1) settings ++ map (λ l. command_line l.producer l.verb) lines)

-- a key's value in a profile
abbrev pub mode_value : Mode → ℕ
mode_value Hold = 0
mode_value Drop = 1

abbrev pub fabric_value : FabricKind → ℕ
fabric_value Direct = 0
fabric_value Chance = 1
fabric_value Udp = 2

abbrev pub value_of_key : Settings → Key → ℕ
value_of_key s key.Instance = s.instance
value_of_key s key.First = s.first
value_of_key s key.Sender = s.sender
value_of_key s key.Receivers = s.receivers
value_of_key s key.Producers = s.producers
value_of_key s key.E = s.e
value_of_key s key.B = s.b
value_of_key s key.MaxN = s.max_n
value_of_key s key.Auto = s.auto
value_of_key s key.Window = s.window
value_of_key s key.Octets = s.octets
value_of_key s key.Blocks = s.blocks
value_of_key s key.Mode = mode_value s.mode
value_of_key s key.Gap = s.gap
value_of_key s key.Grtt = s.grtt
value_of_key s key.GrttCode = s.grtt_code
value_of_key s key.GsizeCode = s.gsize_code
value_of_key s key.K = s.k
value_of_key s key.Step = s.step
value_of_key s key.Turns = s.turns
value_of_key s key.Fabric = fabric_value s.fabric
value_of_key s key.Chance = s.chance
value_of_key s key.Loss = s.loss
value_of_key s key.Repeat = s.repeat
value_of_key s key.Late = s.late
value_of_key s key.Port = s.port

-- a script with each key set, in the order of the table
abbrev pub script_octets : Commands → List ℕ
script_octets c = written (map (λ key. (key, value_of_key c.profile key)) keys) c.lines
