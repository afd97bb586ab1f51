-- Keeping symbols and infos (RFC 5740 section 5.2).
use Rattle.std.specs.Prelude.{ℕ, ◌+◌, ◌==◌, ◌&&◌, ◌||◌, not, List, [], ◌∷◌, length, Bool, true, false, nat_lt, nat_le, None, Some, is_some}
use Rattle.norm_base.specs.Settings.{Settings}
use Rattle.fec_plan.specs.Partition.{blocks, source_symbols, encoding_symbols, sent_octets, coded_octets}
use Rattle.fec_plan.specs.Points.{position_before}
use Rattle.fec_plan.specs.declared.position.Position.{Position}
use Rattle.norm_ext.specs.Segment.{segment_in}
use Rattle.norm_order.specs.First.{first_where}
use Rattle.norm_order.specs.Sets.{with_member}
use Rattle.norm_receive_rules.specs.Holding.{Holding, Plan, Held, HeldInfo}
use Rattle.norm_receive_rules.specs.Plans.{cut_of_plan, says_stream, says_info, plan_of, is_over, holds, is_done, info_of, first_block}
use Rattle.norm_receive_rules.specs.declared.words.Put.{Put}
use Rattle.norm_receive_rules.specs.declared.words.Put.TheVariants as put

-- a stream's source payload is one segment of at most e octets, and nothing behind it
abbrev pub is_segment : Settings → List ℕ → Bool
is_segment p payload = elim (segment_in payload) [
  | Some s ↦ nat_le s.size p.e && length payload == 8 + s.size
  | None ↦ false
]

-- a stream's payload has the right length
abbrev pub fits_stream : Settings → Plan → Position → List ℕ → Bool
fits_stream p plan at payload = elim (nat_lt at.symbol (source_symbols (cut_of_plan plan) at.block)) [
  | true ↦ is_segment p payload
  | false ↦ length payload == coded_octets (cut_of_plan plan)
]

-- a payload has its symbol's length
abbrev pub has_length : Settings → Plan → Position → List ℕ → Bool
has_length p plan at payload = elim (says_stream plan.flags) [
  | true ↦ fits_stream p plan at payload
  | false ↦ length payload == sent_octets (cut_of_plan plan) at.block at.symbol
]

-- the position is no encoded symbol of its object, or the payload has not its length
abbrev pub is_misfit : Settings → Plan → Position → List ℕ → Bool
is_misfit p plan at payload =
    nat_le (blocks (cut_of_plan plan)) at.block || nat_le (encoding_symbols (cut_of_plan plan) at.block) at.symbol
    || not (has_length p plan at payload)

-- a stream's block is too far ahead of the first one that was not handed up whole
abbrev pub is_far : Settings → Holding → Plan → ℕ → Bool
is_far p s plan block = says_stream plan.flags && nat_le (first_block s plan.index + p.blocks) block

-- of an object with a plan: the first word that applies to a symbol
abbrev pub put_by : Settings → Holding → Plan → Position → List ℕ → Put
put_by p s plan at payload = elim (first_where (
    (holds s at || is_done s plan at.block, put.Had)
    ∷ (is_far p s plan at.block, put.Away)
    ∷ (is_misfit p plan at payload, put.Unfit)
    ∷ []
    )) [ Some word ↦ word | None ↦ put.Kept ]

-- what becomes of a symbol
abbrev pub put_of : Settings → Holding → Position → List ℕ → Put
put_of p s at payload = elim (is_over s at.index) [
  | true ↦ put.Had
  | false ↦ elim (plan_of s at.index) [ Some plan ↦ put_by p s plan at payload | None ↦ put.Away ]
]

-- of an object with a plan: the first word that applies to an info
abbrev pub put_info_by : Settings → Holding → Plan → List ℕ → Put
put_info_by p s plan info = elim (is_some (info_of s plan.index)) [
  | true ↦ put.Had
  | false ↦ elim (nat_lt p.e (length info) || not (says_info plan.flags)) [ true ↦ put.Unfit | false ↦ put.Kept ]
]

-- what becomes of an info
abbrev pub put_info_of : Settings → Holding → ℕ → List ℕ → Put
put_info_of p s index info = elim (is_over s index) [
  | true ↦ put.Had
  | false ↦ elim (plan_of s index) [ Some plan ↦ put_info_by p s plan info | None ↦ put.Away ]
]

-- held symbols are ordered by position
abbrev pub held_before : Held → Held → Bool
held_before a b = position_before a.at b.at

-- held infos are ordered by index
abbrev pub info_before : HeldInfo → HeldInfo → Bool
info_before a b = nat_lt a.index b.index

-- after a symbol came: one that is kept joins what is held
abbrev pub with_symbol : Put → Position → List ℕ → Holding → Holding
with_symbol put.Kept at payload s = record s { held = with_member held_before (record { at = at; octets = payload }) s.held }
with_symbol _ at payload s = s

-- after an info came
abbrev pub with_info : Put → ℕ → List ℕ → Holding → Holding
with_info put.Kept index info s = record s { infos = with_member info_before (record { index = index; info = info }) s.infos }
with_info _ index info s = s

-- a symbol comes
abbrev pub put_symbol : Settings → Position → List ℕ → Holding → Holding
put_symbol p at payload s = with_symbol (put_of p s at payload) at payload s

-- an info comes
abbrev pub put_info : Settings → ℕ → List ℕ → Holding → Holding
put_info p index info s = with_info (put_info_of p s index info) index info s
