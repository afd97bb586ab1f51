use Rattle.std.proofs.Common.{◌≡◌, ◌+◌, ◌*◌, ◌≤◌, ◌∙◌, refl, ap, sym, arith, None, [], ◌∷◌, length}
use Rattle.std.specs.Prelude.{Ok, Err}
use Rattle.std.specs.Int.{div_ceil}
use Rattle.norm_order.specs.Entries.{Write}
use Rattle.norm_send_rules.specs.declared.fault.StreamFault.TheVariants.{Closed, Spent}
use Rattle.stream_buffer.specs.StreamState.{StreamState, kept_from, closed_segments}
use Rattle.stream_buffer.specs.StreamMoves.{with_octets, room_fault, from_block, kept_for}
use Rattle.stream_buffer.specs.StreamSound.{stream_view}
use Rattle.stream_buffer.proofs.FaultLemmas.{refused, closed_first, spent_first, room_first, no_room, made_room, made_free, first_fits, kept_fits, wrote, length_wrote, some_e, used_of}
use Rattle.stream_buffer.proofs.StandingLemmas.{used_written}
use Rattle.stream_buffer.proofs.stream.StreamBuf.write.Goals as goal

pub returns-then-self-clause-answer : goal.returns-then-self-clause-answer
returns-then-self-clause-answer c = λ p parts by st.
    let s = c.args.self.now in
    refused p parts (Write by c.args.bytes.now ∷ []) c.args.may_go s.octets s s (Err Closed) Closed
    (closed_first p parts (Write by c.args.bytes.now ∷ []) s.first c.args.may_go (sym st.ended ∙ sym (ap (λ (v : StreamState). v.ended) c.self.view_is) ∙ c.if-self.true)) refl refl

pub returns-then-bytes-from-clause-answer : goal.returns-then-bytes-from-clause-answer
returns-then-bytes-from-clause-answer c = λ p parts by st.
    let s = c.args.self.now in
    let octets = ap (λ (v : StreamState). v.octets) c.self.view_is ∙ st.octets in
    refused p parts (Write by c.args.bytes.now ∷ []) c.args.may_go s.octets s s (Err (Spent c.self.inside.octets)) (Spent (length (Rattle.norm_order.specs.Segments.written parts)))
    (spent_first p parts (Write by c.args.bytes.now ∷ []) s.first c.args.may_go (sym st.ended ∙ sym (ap (λ (v : StreamState). v.ended) c.self.view_is) ∙ c.if-self.false)
    (omega (arith, length_wrote parts by c.args.bytes.now, octets, c.from.ensures, c.if-bytes-from.true)))
    (ap (λ n. Err (Spent n)) octets) refl

used_is : (c : goal.After-pour-arg-1) → c.closed.result + c.div_ceil-segments.result
    ≡ closed_segments c.args.self.now + div_ceil (length c.args.self.now.filling + length c.args.bytes.now) c.args.self.now.cut.e
used_is c =
    used_of (stream_view c.self.inside) c.args.self.now (length c.args.bytes.now) c.closed.result c.filled.result c.div_ceil-segments.result c.from-2.result c.self.inside.rows.first
    c.self.view_is c.closed.ensures c.self.invariant.first c.filled.ensures c.from-2.ensures c.div_ceil-segments.ensures

made : (c : goal.After-pour-arg-1) → (room_fault c.args.self.now (c.closed.result + c.div_ceil-segments.result) c.args.may_go ≡ None)
    × (c.make_room.new.self ≡ from_block (kept_for c.args.self.now (c.closed.result + c.div_ceil-segments.result)) c.args.self.now)
made c = made_room c.args.self.now c.make_room.new.self (c.closed.result + c.div_ceil-segments.result) c.args.may_go c.make_room.result c.make_room.ensures c.in-Ok.is

more_is : (c : goal.After-pour-arg-1) → div_ceil (length c.make_room.new.self.filling + length c.args.bytes.now) c.make_room.new.self.cut.e
    ≡ div_ceil (length c.args.self.now.filling + length c.args.bytes.now) c.args.self.now.cut.e
more_is c = ap (λ (v : StreamState). div_ceil (length v.filling + length c.args.bytes.now) v.cut.e) (made c).1

free : (c : goal.After-pour-arg-1)
    → (length c.make_room.new.self.rows + div_ceil (length c.args.self.now.filling + length c.args.bytes.now) c.args.self.now.cut.e ≤ c.make_room.new.self.blocks * c.make_room.new.self.cut.b)
    × (closed_segments c.make_room.new.self + div_ceil (length c.args.self.now.filling + length c.args.bytes.now) c.args.self.now.cut.e ≤ 16777216 * c.make_room.new.self.cut.b)
free c =
    made_free c.args.self.now c.make_room.new.self (c.closed.result + c.div_ceil-segments.result) c.args.may_go
    (div_ceil (length c.args.self.now.filling + length c.args.bytes.now) c.args.self.now.cut.e) (made c).0 (made c).1 c.requires.closed (used_is c)
    (omega (arith, c.self.invariant.least_b, ap (λ (v : StreamState). v.cut.b) c.self.view_is))

pub pour-requires-clause-free : goal.pour-requires-clause-free
pour-requires-clause-free c = omega (arith, more_is c, (free c).0)

pub pour-requires-clause-named : goal.pour-requires-clause-named
pour-requires-clause-named c = omega (arith, more_is c, (free c).1)

pub returns-in-Err-clause-answer : goal.returns-in-Err-clause-answer
returns-in-Err-clause-answer c = λ p parts by st.
    let s = c.args.self.now in
    let used = c.closed.result + c.div_ceil-segments.result in
    let none = no_room s c.make_room.new.self used c.args.may_go c.make_room.result c.in-Err.fault c.make_room.ensures c.in-Err.is in
    refused p parts (Write by c.args.bytes.now ∷ []) c.args.may_go s.octets s c.make_room.new.self (Err c.in-Err.fault) c.in-Err.fault
    (room_first p parts (Write by c.args.bytes.now ∷ []) s used c.args.may_go st (sym st.ended ∙ sym (ap (λ (v : StreamState). v.ended) c.self.view_is) ∙ c.if-self.false)
    (omega (arith, length_wrote parts by c.args.bytes.now, st.octets, ap (λ (v : StreamState). v.octets) c.self.view_is, c.from.ensures, c.if-bytes-from.false))
    (used_written p parts by c.args.bytes.now s st (some_e p parts s st (omega (arith, c.self.invariant.least_e, ap (λ (v : StreamState). v.cut.e) c.self.view_is))) (sym st.ended ∙ sym (ap (λ (v : StreamState). v.ended) c.self.view_is) ∙ c.if-self.false) ∙ sym (used_of (stream_view c.self.inside) c.args.self.now (length c.args.bytes.now) c.closed.result c.filled.result c.div_ceil-segments.result c.from-2.result c.self.inside.rows.first c.self.view_is c.closed.ensures c.self.invariant.first c.filled.ensures c.from-2.ensures c.div_ceil-segments.ensures))
    ∙ none.0) refl none.1

pub returns-in-Ok-clause-answer : goal.returns-in-Ok-clause-answer
returns-in-Ok-clause-answer c = λ p parts by st.
    let s = c.args.self.now in
    let made = made_room s c.make_room.new.self (c.closed.result + c.div_ceil-segments.result) c.args.may_go c.make_room.result c.make_room.ensures c.in-Ok.is in
    wrote p parts by c.args.bytes.now s c.pour.new.self (c.closed.result + c.div_ceil-segments.result) c.args.may_go (Ok c.self.inside.octets) st
    (some_e p parts s st (omega (arith, c.self.invariant.least_e, ap (λ (v : StreamState). v.cut.e) c.self.view_is))) (sym st.ended ∙ sym (ap (λ (v : StreamState). v.ended) c.self.view_is) ∙ c.if-self.false)
    (omega (arith, length_wrote parts by c.args.bytes.now, st.octets, ap (λ (v : StreamState). v.octets) c.self.view_is, c.from.ensures, c.if-bytes-from.false))
    (used_of (stream_view c.self.inside) c.args.self.now (length c.args.bytes.now) c.closed.result c.filled.result c.div_ceil-segments.result c.from-2.result c.self.inside.rows.first c.self.view_is c.closed.ensures c.self.invariant.first c.filled.ensures c.from-2.ensures c.div_ceil-segments.ensures) c.requires.closed made.0 (c.pour.ensures ∙ ap (with_octets c.args.bytes.now) made.1) (ap Ok (ap (λ (v : StreamState). v.octets) c.self.view_is))

pub returns-in-Ok-clause-exact : goal.returns-in-Ok-clause-exact
returns-in-Ok-clause-exact c =
    let s = c.args.self.now in
    let made = made_room s c.make_room.new.self (c.closed.result + c.div_ceil-segments.result) c.args.may_go c.make_room.result c.make_room.ensures c.in-Ok.is in
    let used = used_of (stream_view c.self.inside) s (length c.args.bytes.now) c.closed.result c.filled.result c.div_ceil-segments.result c.from-2.result c.self.inside.rows.first c.self.view_is c.closed.ensures c.self.invariant.first c.filled.ensures c.from-2.ensures c.div_ceil-segments.ensures in
    c.pour.ensures ∙ ap (with_octets c.args.bytes.now) (made.1 ∙ ap (λ n. from_block (kept_for s n) s) used)

pub returns-in-Ok-clause-kept : goal.returns-in-Ok-clause-kept
returns-in-Ok-clause-kept c =
    let s = c.args.self.now in
    let used = c.closed.result + c.div_ceil-segments.result in
    let made = made_room s c.make_room.new.self used c.args.may_go c.make_room.result c.make_room.ensures c.in-Ok.is in
    let first : kept_from c.pour.new.self ≡ kept_for s used * s.cut.b = ap kept_from (c.pour.ensures ∙ ap (with_octets c.args.bytes.now) made.1) in
    omega (arith, first, kept_fits s used c.args.may_go made.0 c.requires.closed)

pub returns-in-Ok-clause-first : goal.returns-in-Ok-clause-first
returns-in-Ok-clause-first c =
    let s = c.args.self.now in
    let used = c.closed.result + c.div_ceil-segments.result in
    let made = made_room s c.make_room.new.self used c.args.may_go c.make_room.result c.make_room.ensures c.in-Ok.is in
    let first : c.pour.new.self.first ≡ kept_for s used = ap (λ (v : StreamState). v.first) (c.pour.ensures ∙ ap (with_octets c.args.bytes.now) made.1) in
    omega (arith, first, first_fits s used c.args.may_go made.0)
