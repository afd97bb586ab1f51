-- The source symbols that the symbols held of a block give (RFC 5510 section 8.3).
use Rattle.std.specs.Prelude.{ℕ, ◌==◌, List, map, find, true, false, Option, None, Some}
use Rattle.fec_plan.specs.Partition.{coded_octets}
use Rattle.gf_field.specs.Symbol.{solved_symbol}
use Rattle.norm_receive_rules.specs.Holding.{Holding, Plan, Held}
use Rattle.norm_receive_rules.specs.Plans.{cut_of_plan, says_stream, held_of, is_done}

-- the ids of held symbols
abbrev pub ids_of : List Held → List ℕ
ids_of held = map (λ (h : Held). h.at.symbol) held

-- the octets of held symbols
abbrev pub octets_of_held : List Held → List (List ℕ)
octets_of_held held = map (λ (h : Held). h.octets) held

-- a symbol that is held
abbrev pub held_symbol : List Held → ℕ → Option (List ℕ)
held_symbol held symbol = elim (find (λ (h : Held). h.at.symbol == symbol) held) [ Some h ↦ Some h.octets | None ↦ None ]

-- A source symbol of a block: where as many symbols are held as the block has source symbols, that of the one codeword
-- through them; else of a stream the symbol itself, where it is held.
abbrev pub block_value : Holding → Plan → ℕ → ℕ → Option (List ℕ)
block_value s plan block symbol =
    let held = held_of s plan.index block in
    elim (is_done s plan block) [
      | true ↦ Some (solved_symbol (coded_octets (cut_of_plan plan)) (ids_of held) (octets_of_held held) symbol)
      | false ↦ elim (says_stream plan.flags) [ true ↦ held_symbol held symbol | false ↦ None ]
    ]
