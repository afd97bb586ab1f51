-- How a command names a symbol.
use Rattle.std.specs.Prelude.{ℕ, List, ◌∷◌, ◌++◌}
use Rattle.byteorder.specs.Endian.{big_bytes}
use Rattle.fec_plan.specs.Payload.{Name, name_octets}
use Rattle.norm_ext.specs.Numbers.{encoding_id}

-- the FEC Encoding ID, the object and the symbol
abbrev pub symbol_octets : ℕ → Name → List ℕ
symbol_octets object id = encoding_id ∷ big_bytes 2 object ++ name_octets id
