-- A source symbol's payload fits as the rules say.
use Rattle.std.proofs.Common.{◌≡◌, ℕ, ◌<◌, List, length, None, Bool, true, false, sym, ap, ◌∙◌}
use Rattle.std.specs.Prelude.{◌==◌, ◌&&◌, nat_lt}
use Rattle.std.proofs.lemmas.Bool.{lt-ltb}
use Rattle.norm_base.specs.Settings.{Settings}
use Rattle.fec_plan.specs.Partition.{Cut, blocks, source_symbols, encoding_symbols, coded_octets}
use Rattle.norm_receive_rules.specs.Putting.{is_segment}
use Rattle.rx_stream.specs.StreamMoves.{fits_cut}

abbrev fits_by : Bool → Bool → Bool → Bool → Bool → Bool
fits_by within encoded source segment parity = within && encoded && (elim source [ true ↦ segment | false ↦ parity ])

pub fits_source : (p : Settings) (c : Cut) (block symbol : ℕ) (payload : List ℕ) → block < blocks c → symbol < encoding_symbols c block → symbol < source_symbols c block
    → is_segment p payload ≡ fits_cut p c block symbol payload
fits_source p c block symbol payload lt below source =
    sym (ap (λ b. fits_by b (nat_lt symbol (encoding_symbols c block)) (nat_lt symbol (source_symbols c block)) (is_segment p payload) (length payload == coded_octets c)) (lt-ltb block (blocks c) lt)
    ∙ ap (λ b. fits_by true b (nat_lt symbol (source_symbols c block)) (is_segment p payload) (length payload == coded_octets c)) (lt-ltb symbol (encoding_symbols c block) below)
    ∙ ap (λ b. fits_by true true b (is_segment p payload) (length payload == coded_octets c)) (lt-ltb symbol (source_symbols c block) source))

-- a stream has all blocks that 24 bits name
pub stream_blocks : (c : Cut) → c.l ≡ None → blocks c ≡ 16777216
stream_blocks c none = ap (λ o. blocks (record { l = o; e = c.e; b = c.b; max_n = c.max_n })) none
