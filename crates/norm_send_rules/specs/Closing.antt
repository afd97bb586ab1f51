-- The closing of a repair round (RFC 5401 section 3.2.2, RFC 5740 section 5.4): what becomes a want.
use Rattle.std.specs.Prelude.{ℕ, ◌&&◌, ◌||◌, not, List, [], ◌++◌, length, map, filter, min, max, take, fold, slice_get, Bool, true, false, nat_lt, nat_le, None, Some, flat_map}
use Rattle.std.specs.List.{list_any}
use Rattle.norm_base.specs.Settings.{Settings}
use Rattle.fec_plan.specs.Partition.{source_symbols}
use Rattle.fec_plan.specs.declared.position.Position.{Position}
use Rattle.norm_ext.specs.Asking.{segment_flag, block_flag, object_flag, info_flag, has_flag, Span, Named, is_proper, Count}
use Rattle.norm_ext.specs.declared.kinds.Form.TheVariants as form
use Rattle.fec_plan.specs.Points.{Point, point, point_of, point_before, position_before, same_point}
use Rattle.norm_order.specs.Sets.{is_member, with_members}
use Rattle.norm_order.specs.Shapes.{Shape, symbols_of, closed_in, encoded_in}
use Rattle.norm_send_rules.specs.Wants.{want_before}
use Rattle.norm_send_rules.specs.SenderState.{SenderState, Asked, Round}
use Rattle.norm_send_rules.specs.InWindow.{stands_behind, current_shapes}
use Rattle.norm_send_rules.specs.Asking.{wants_of, counts_of}
use Rattle.norm_send_rules.specs.declared.want.Want.{Want}
use Rattle.norm_send_rules.specs.declared.want.Want.TheVariants.{Symbol}

-- the greatest count of a block: counts are not added up
abbrev pub greatest : List Count → Point → ℕ
greatest counts at = fold (λ most c. max most c.lacking) 0 (filter (λ c. same_point c.of at) counts)

-- the closed source symbols of a block, as wants
abbrev pub block_wants : Point → Shape → List Want
block_wants at s = map Symbol (symbols_of at.index (closed_in s at.block) at.block)

-- the parity symbols of a block that were never sent in this instance, the lowest first
abbrev pub fresh_parity : SenderState → Point → Shape → List Position
fresh_parity s at shape = filter
    (λ symbol. nat_le (source_symbols shape.cut at.block) symbol.symbol && not (is_member position_before symbol s.sent))
    (symbols_of at.index (encoded_in shape at.block) at.block)

-- So many symbols of a block: the lowest fresh parity symbols; where fewer are left, or the block has no parity yet,
-- all its closed source symbols.
abbrev pub repairs : SenderState → Point → Shape → ℕ → List Want
repairs s at shape count =
    let fresh = fresh_parity s at shape in
    elim (nat_le count (length fresh)) [ true ↦ map Symbol (take count fresh) | false ↦ block_wants at shape ]

-- the repairs of a counted block, where at most all its source symbols are lacking; a count of 0 asks for nothing
abbrev pub counted : SenderState → List Shape → List Count → Point → List Want
counted s shapes counts at = elim (slice_get shapes at.index) [
  | Some shape ↦ repairs s at shape (min (greatest counts at) (source_symbols shape.cut at.block))
  | None ↦ []
]

-- all that the requests of a round ask for
abbrev pub asked_in : Settings → SenderState → List Asked → List Want
asked_in p s asked =
    let shapes = current_shapes p s in
    let counts = flat_map (counts_of shapes) asked in
    flat_map (wants_of shapes) asked ++ flat_map (λ (c : Count). counted s shapes counts c.of) counts

-- a form and its flags give something: erasures give nothing for OBJECT and INFO
abbrev pub gives_something : Named → Bool
gives_something r =
    has_flag r.flags segment_flag || has_flag r.flags block_flag
    || elim r.form [
      | form.Items ↦ has_flag r.flags object_flag || has_flag r.flags info_flag
      | form.Ranges ↦ has_flag r.flags object_flag || has_flag r.flags info_flag
      | form.Erasures ↦ false
    ]

-- the items of a request, of ranges the first ends of those that are not empty
abbrev pub begins_at : Named → List Position
begins_at r = map (λ (s : Span). s.first) (elim r.form [
  | form.Items ↦ r.spans
  | form.Ranges ↦ filter is_proper r.spans
  | form.Erasures ↦ r.spans
])

-- where an item counts from: with OBJECT or INFO among the flags from the object's first block
abbrev pub counts_from : ℕ → Position → Point
counts_from flags at = elim (has_flag flags object_flag || has_flag flags info_flag) [
  | true ↦ point at.index 0
  | false ↦ point_of at
]

-- A request asks for what lies before the window, whatever stood there.
abbrev pub asks_early : Point → Named → Bool
asks_early drop r =
    gives_something r && list_any (λ at. point_before (counts_from r.flags at) drop) (begins_at r)

-- the wants of a round that are in the window, beside those that were there
abbrev pub wants_after : Settings → SenderState → List Asked → List Want
wants_after p s asked = with_members want_before (filter (stands_behind s.current.drop) (asked_in p s asked)) s.wants

-- The round closes. Where it added a want, the count of flushes begins anew; where it asked for what lies before the
-- window, a squelch is due.
abbrev pub round_closed : Settings → Round → SenderState → SenderState
round_closed p r s =
    let wants = wants_after p s r.asked in
    record s {
      round = None;
      wants = wants;
      flushes = elim (nat_lt (length s.wants) (length wants)) [ true ↦ 0 | false ↦ s.flushes ];
      squelch_due = s.squelch_due || list_any (λ (a : Asked). asks_early s.current.drop a.request) r.asked;
    }
