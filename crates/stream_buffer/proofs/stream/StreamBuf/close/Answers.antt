use Rattle.std.proofs.Common.{◌≡◌, ◌+◌, ◌*◌, ◌≤◌, ◌<◌, ◌∙◌, refl, ap, sym, arith, None, [], ◌∷◌, length}
use Rattle.std.specs.Prelude.{Ok, Err, min}
use Rattle.norm_order.specs.Entries.{End}
use Rattle.norm_send_rules.specs.declared.fault.StreamFault.TheVariants.{Closed}
use Rattle.stream_buffer.specs.StreamState.{StreamState, kept_from, closed_segments}
use Rattle.stream_buffer.specs.StreamMoves.{ended_here, room_fault, from_block, kept_for}
use Rattle.stream_buffer.specs.StreamSound.{stream_view}
use Rattle.stream_buffer.proofs.FaultLemmas.{refused, closed_first, room_first, no_room, made_room, made_free, first_fits, kept_fits, closes, length_ended, some_e, used_end}
use Rattle.stream_buffer.proofs.StandingLemmas.{used_ended}
use Rattle.fec_plan.specs.Partition.{Cut}
use Rattle.stream_buffer.proofs.stream.StreamBuf.close.Goals as goal

pub returns-then-self-clause-answer : goal.returns-then-self-clause-answer
returns-then-self-clause-answer c = λ p parts st.
    let s = c.args.self.now in
    refused p parts (End ∷ []) c.args.may_go tt s s (Err Closed) Closed
    (closed_first p parts (End ∷ []) s.first c.args.may_go (sym st.ended ∙ sym (ap (λ (v : StreamState). v.ended) c.self.view_is) ∙ c.if-self.true)) refl refl

made : (c : goal.After-end-arg-1) → (room_fault c.args.self.now (c.closed.result + c.min-filling.result + 1) c.args.may_go ≡ None)
    × (c.make_room.new.self ≡ from_block (kept_for c.args.self.now (c.closed.result + c.min-filling.result + 1)) c.args.self.now)
made c = made_room c.args.self.now c.make_room.new.self (c.closed.result + c.min-filling.result + 1) c.args.may_go c.make_room.result c.make_room.ensures c.in-Ok.is

free : (c : goal.After-end-arg-1)
    → (length c.make_room.new.self.rows + (min 1 (length c.args.self.now.filling) + 1) ≤ c.make_room.new.self.blocks * c.make_room.new.self.cut.b)
    × (closed_segments c.make_room.new.self + (min 1 (length c.args.self.now.filling) + 1) ≤ 16777216 * c.make_room.new.self.cut.b)
free c =
    made_free c.args.self.now c.make_room.new.self (c.closed.result + c.min-filling.result + 1) c.args.may_go (min 1 (length c.args.self.now.filling) + 1)
    (made c).0 (made c).1 c.requires.closed
    (omega (arith, used_end (stream_view c.self.inside) c.args.self.now c.closed.result c.filled.result c.min-filling.result c.self.inside.rows.first c.self.view_is c.closed.ensures c.self.invariant.first c.filled.ensures c.min-filling.ensures))
    (omega (arith, c.self.invariant.least_b, ap (λ (v : StreamState). v.cut.b) c.self.view_is))

filling_is : (c : goal.After-end-arg-1) → length c.make_room.new.self.filling ≡ length c.args.self.now.filling
filling_is c = ap (λ (v : StreamState). length v.filling) (made c).1

pub end-requires-clause-free : goal.end-requires-clause-free
end-requires-clause-free c = omega (arith, filling_is c, (free c).0)

pub end-requires-clause-named : goal.end-requires-clause-named
end-requires-clause-named c = omega (arith, filling_is c, (free c).1)

pub end-requires-clause-short : goal.end-requires-clause-short
end-requires-clause-short c = omega (
  arith,
  filling_is c,
  ap (λ (v : StreamState). v.cut.e) (made c).1,
  c.self.invariant.short,
  ap (λ (v : StreamState). length v.filling) c.self.view_is,
  ap (λ (v : StreamState). v.cut.e) c.self.view_is,
)

pub end-requires-clause-counted : goal.end-requires-clause-counted
end-requires-clause-counted c = omega (
  arith,
  filling_is c,
  ap (λ (v : StreamState). v.octets) (made c).1,
  c.self.invariant.counted,
  ap (λ (v : StreamState). length v.filling) c.self.view_is,
  ap (λ (v : StreamState). v.octets) c.self.view_is,
)

pub returns-in-Err-clause-answer : goal.returns-in-Err-clause-answer
returns-in-Err-clause-answer c = λ p parts st.
    let s = c.args.self.now in
    let used = c.closed.result + c.min-filling.result + 1 in
    let none = no_room s c.make_room.new.self used c.args.may_go c.make_room.result c.in-Err.fault c.make_room.ensures c.in-Err.is in
    let some : 0 < p.e = some_e p parts s st (omega (arith, c.self.invariant.least_e, ap (λ (v : StreamState). v.cut.e) c.self.view_is)) in
    let unended = sym st.ended ∙ sym (ap (λ (v : StreamState). v.ended) c.self.view_is) ∙ c.if-self.false in
    let short : length s.filling < p.e = omega (arith, c.self.invariant.short, ap (λ (v : StreamState). length v.filling) c.self.view_is, ap (λ (v : StreamState). v.cut.e) c.self.view_is, ap (λ (k : Cut). k.e) st.cut) in
    let many = used_end (stream_view c.self.inside) s c.closed.result c.filled.result c.min-filling.result c.self.inside.rows.first c.self.view_is c.closed.ensures c.self.invariant.first c.filled.ensures c.min-filling.ensures in
    refused p parts (End ∷ []) c.args.may_go tt s c.make_room.new.self (Err c.in-Err.fault) c.in-Err.fault
    (room_first p parts (End ∷ []) s used c.args.may_go st unended (omega (arith, length_ended parts, st.octets, ap (λ (v : StreamState). v.octets) c.self.view_is, c.self.invariant.octets))
    (used_ended p parts s st some unended short ∙ sym many)
    ∙ none.0) refl none.1

pub returns-in-Ok-clause-answer : goal.returns-in-Ok-clause-answer
returns-in-Ok-clause-answer c = λ p parts st.
    let s = c.args.self.now in
    let used = c.closed.result + c.min-filling.result + 1 in
    let made = made_room s c.make_room.new.self used c.args.may_go c.make_room.result c.make_room.ensures c.in-Ok.is in
    let some : 0 < p.e = some_e p parts s st (omega (arith, c.self.invariant.least_e, ap (λ (v : StreamState). v.cut.e) c.self.view_is)) in
    let unended = sym st.ended ∙ sym (ap (λ (v : StreamState). v.ended) c.self.view_is) ∙ c.if-self.false in
    let short : length s.filling < p.e = omega (arith, c.self.invariant.short, ap (λ (v : StreamState). length v.filling) c.self.view_is, ap (λ (v : StreamState). v.cut.e) c.self.view_is, ap (λ (k : Cut). k.e) st.cut) in
    let many = used_end (stream_view c.self.inside) s c.closed.result c.filled.result c.min-filling.result c.self.inside.rows.first c.self.view_is c.closed.ensures c.self.invariant.first c.filled.ensures c.min-filling.ensures in
    closes p parts s c.end.new.self used c.args.may_go (Ok tt) st some unended
    (omega (arith, length_ended parts, st.octets, ap (λ (v : StreamState). v.octets) c.self.view_is, c.self.invariant.octets))
    short many c.requires.closed made.0 (c.end.ensures ∙ ap ended_here made.1) refl

pub returns-in-Ok-clause-exact : goal.returns-in-Ok-clause-exact
returns-in-Ok-clause-exact c =
    let s = c.args.self.now in
    let made = made_room s c.make_room.new.self (c.closed.result + c.min-filling.result + 1) c.args.may_go c.make_room.result c.make_room.ensures c.in-Ok.is in
    let used = used_end (stream_view c.self.inside) s c.closed.result c.filled.result c.min-filling.result c.self.inside.rows.first c.self.view_is c.closed.ensures c.self.invariant.first c.filled.ensures c.min-filling.ensures in
    c.end.ensures ∙ ap ended_here (made.1 ∙ ap (λ n. from_block (kept_for s n) s) used)

pub returns-in-Ok-clause-kept : goal.returns-in-Ok-clause-kept
returns-in-Ok-clause-kept c =
    let s = c.args.self.now in
    let used = c.closed.result + c.min-filling.result + 1 in
    let made = made_room s c.make_room.new.self used c.args.may_go c.make_room.result c.make_room.ensures c.in-Ok.is in
    let first : kept_from c.end.new.self ≡ kept_for s used * s.cut.b = ap kept_from (c.end.ensures ∙ ap ended_here made.1) in
    omega (arith, first, kept_fits s used c.args.may_go made.0 c.requires.closed)

pub returns-in-Ok-clause-first : goal.returns-in-Ok-clause-first
returns-in-Ok-clause-first c =
    let s = c.args.self.now in
    let used = c.closed.result + c.min-filling.result + 1 in
    let made = made_room s c.make_room.new.self used c.args.may_go c.make_room.result c.make_room.ensures c.in-Ok.is in
    let first : c.end.new.self.first ≡ kept_for s used = ap (λ (v : StreamState). v.first) (c.end.ensures ∙ ap ended_here made.1) in
    omega (arith, first, first_fits s used c.args.may_go made.0)
