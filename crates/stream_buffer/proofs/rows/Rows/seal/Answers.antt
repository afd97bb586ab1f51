use Rattle.std.proofs.Common.{◌≡◌, ◌+◌, ◌-◌, ◌<◌, ◌++◌, ◌∙◌, refl, ap, sym, arith, ℕ, List, [], ◌∷◌, length, take, drop}
use Rattle.std.specs.Int.{to_be_bytes, w16, w32}
use Rattle.std.proofs.lemmas.List.{length-replicate}
use Rattle.norm_order.specs.Symbols.{padded}
use Rattle.stream_buffer.specs.RowsState.{RowsState, rows_view, over}
use Rattle.stream_buffer.proofs.RingLemmas.{length-over, kept_back, zeros}
use Rattle.stream_buffer.proofs.RowsLemmas.{many, filled_long, here_fits, after_seal}
use Rattle.stream_buffer.proofs.rows.Rows.seal.Goals as goal

free : (c : goal.After-self-3-1) → c.self.inside.closed < c.self.inside.first + c.self.inside.room
free c = omega (arith, ap (λ (v : RowsState). v.room) c.self.view_is, ap (λ (v : RowsState). length v.rows) c.self.view_is, many c.self.inside, c.self.invariant.from, c.requires.free)

abbrev place : ℕ → ℕ → List ℕ
place len offset = to_be_bytes w16 len ++ to_be_bytes w16 0 ++ to_be_bytes w32 offset

-- the ring's octets after its row was sealed
abbrev after : goal.After-self-3-1 → List ℕ
after c = take c.self.inside.ring.len (c.seal_row.new.ring ++ drop (length c.seal_row.new.ring) c.self.inside.ring.items)

-- its octets with the place alone
abbrev mid : goal.After-self-3-1 → List ℕ
mid c = over c.row_start-start.result (place c.self.inside.filled c.args.offset) c.self.inside.ring.items

written : (c : goal.After-self-3-1) → after c ≡ over (c.row_start-start.result + (8 + c.self.inside.filled)) (zeros (c.self.inside.size - (8 + c.self.inside.filled))) (mid c)
written c =
    let r = c.self.inside in
    let value = c.deref_mut.ensures.value in
    kept_back c.seal_row.new.ring r.ring.items r.ring.len (c.seal_row.auto.ring ∙ ap length value) (sym c.deref_mut.ensures.len ∙ ap length value)
    ∙ c.seal_row.ensures
    ∙ ap (λ (xs : List ℕ). over (c.row_start-start.result + (8 + r.filled)) (zeros (r.size - (8 + r.filled))) (over c.row_start-start.result c.place_of-place.result xs)) value
    ∙ ap (λ (xs : List ℕ). over (c.row_start-start.result + (8 + r.filled)) (zeros (r.size - (8 + r.filled))) (over c.row_start-start.result xs r.ring.items)) c.place_of-place.ensures

pub invariant_of-self : goal.invariant_of-self
invariant_of-self c =
    let r = c.self.inside in
    let at = c.row_start-start.ensures.at in
    let fits = c.self.invariant.fits in
    let long_mid : length (mid c) ≡ length r.ring.items =
    length-over c.row_start-start.result (place r.filled c.args.offset) r.ring.items (omega (arith, at, fits, here_fits r c.self.invariant)) in
    record {
      ring =
          ap length (written c)
          ∙ length-over (c.row_start-start.result + (8 + r.filled)) (zeros (r.size - (8 + r.filled))) (mid c)
          (omega (arith, at, fits, here_fits r c.self.invariant, long_mid, length-replicate {A = ℕ} (r.size - (8 + r.filled)) 0))
          ∙ long_mid
          ∙ c.self.invariant.ring;
      some = c.self.invariant.some;
      fits = omega (arith, fits);
      small = c.self.invariant.small;
      from = omega (arith, c.self.invariant.from);
      within = omega (arith, free c);
    }

pub returns : goal.returns
returns c =
    let r = c.self.inside in
    ap (λ rows. record (rows_view r) { rows = rows; filling = [] })
    (after_seal r (place r.filled c.args.offset) (mid c) (after c) c.row_start-start.result c.self.invariant c.row_start-start.ensures.at refl refl (written c) (free c)
    ∙ ap (λ n. (rows_view r).rows ++ padded r.size (place n c.args.offset ++ (rows_view r).filling) ∷ []) (sym (filled_long r c.self.invariant)))
    ∙ ap (λ (v : RowsState). record v { rows = v.rows ++ padded v.size (place (length v.filling) c.args.offset ++ v.filling) ∷ []; filling = [] }) c.self.view_is
