-- An object's octets as they lie in memory: whole symbols in a row, the last one padded with zeros.
use Rattle.std.specs.Prelude.{ℕ, ◌≡◌, ◌*◌, ◌++◌, List, length}
use Rattle.norm_base.specs.Settings.{Settings}
use Rattle.fec_plan.specs.Partition.{Cut, cut_of, symbols_in}
use Rattle.rs_block.specs.Code.{CodeState}
use Rattle.rs_block.specs.Codeword.{IsSymbol}
use Rattle.norm_order.specs.Symbols.{padded}

-- the octets, padded with zeros to whole symbols of e octets
abbrev pub whole_symbols : ℕ → List ℕ → List ℕ
whole_symbols e octets = padded (symbols_in (length octets) e * e) octets

-- the pieces are together the octets of an object, padded, and the cut is the object's under the profile
pub record HoldsObject (c : Cut) (pieces : List ℕ) (p : Settings) (octets : List ℕ) : Type 0 where
  pub cut : c ≡ cut_of (length octets) p.e p.b p.max_n
  pub padded : pieces ≡ whole_symbols p.e octets

-- what was appended is one symbol of e octets: symbol j of the codeword of the source symbols
pub record AppendsSymbol (code : CodeState) (e : ℕ) (sources : List ℕ) (j : ℕ) (old new : List ℕ) : Type 0 where
  pub symbol : List ℕ
  pub appended : new ≡ old ++ symbol
  pub size : length symbol ≡ e
  pub is : IsSymbol code.k code.n e sources j symbol
