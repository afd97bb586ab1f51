use Rattle.std.proofs.Common.{◌≡◌, ◌+◌, ◌-◌, ◌*◌, ◌≤◌, ◌++◌, ap, sym, subst, ◌∙◌, arith, false, [], ◌∷◌, length, take, drop}
use Rattle.std.specs.Prelude.{Ok, replicate}
use Rattle.std.specs.Int.{div_ceil}
use Rattle.norm_order.specs.Entries.{Write}
use Rattle.stream_buffer.specs.StreamState.{StreamState, StandsFor, Answers, kept_from, closed_segments}
use Rattle.stream_buffer.specs.StreamMoves.{kept_for}
use Rattle.stream_buffer.specs.HeldState.{HeldState, Knows, run_of}
use Rattle.stream_buffer.specs.HeldSound.{held_view}
use Rattle.stream_buffer.proofs.KnowsLemmas.{blocks_by, grows, gone_is, gone_set, went, all_below, goes_on}
use Rattle.stream_buffer.proofs.held.HeldStream.put.Goals as goal

pub follow-requires-clause-gone : goal.follow-requires-clause-gone
follow-requires-clause-gone c =
    gone_set c.self.inside.buffer c.write.new.self c.first_block.result c.first_block-first.result c.from.result c.args.may_go (run_of c.self.inside.marks.sent)
    c.first_block.ensures c.first_block-first.ensures (c.from.ensures ∙ c.self.invariant.b) c.in-Ok.ensures.first
    (subst (λ (v : HeldState). (c.args.may_go - v.buffer.first) * v.buffer.cut.b ≤ run_of v.sent) (sym c.self.view_is) c.requires.sent)

pub returns-in-Ok-clause-answer : goal.returns-in-Ok-clause-answer
returns-in-Ok-clause-answer c = λ p parts by st.
    subst (λ (v : HeldState). Answers p parts (Write by c.args.bytes.now ∷ []) c.args.may_go v.buffer.octets v.buffer c.write.new.self (Ok c.in-Ok.offset)) c.self.view_is
    (c.in-Ok.ensures.answer p parts by (subst (λ (v : HeldState). StandsFor p parts v.buffer) (sym c.self.view_is) st))

pub returns-in-Ok-clause-knows : goal.returns-in-Ok-clause-knows
returns-in-Ok-clause-knows c = λ p index parts by sent knows may.
    let s : StreamState = c.self.inside.buffer in
    let new : StreamState = c.write.new.self in
    let here : Knows p index parts sent (held_view c.self.inside) = subst (Knows p index parts sent) (sym c.self.view_is) knows in
    let first : new.first ≡ kept_for s (closed_segments s + div_ceil (length s.filling + length c.args.bytes.now) s.cut.e) = ap (λ (v : StreamState). v.first) c.in-Ok.ensures.exact in
    let low : s.first ≤ new.first = omega (arith, first) in
    let b-is : new.cut.b ≡ s.cut.b = ap (λ (v : StreamState). v.cut.b) c.in-Ok.ensures.exact in
    let from : kept_from new ≡ kept_for s (closed_segments s + div_ceil (length s.filling + length c.args.bytes.now) s.cut.e) * s.cut.b = ap (λ (v : StreamState). kept_from v) c.in-Ok.ensures.exact in
    let more = grows s new (kept_for s (closed_segments s + div_ceil (length s.filling + length c.args.bytes.now) s.cut.e)) _ (omega arith) from c.in-Ok.ensures.kept (ap (λ (v : StreamState). v.rows) c.in-Ok.ensures.exact) in
    let count = (c.first_block.result - c.first_block-first.result) * c.from.result in
    goes_on p index parts (parts ++ Write by c.args.bytes.now ∷ []) sent (held_view c.self.inside) (record { buffer = new; sent = c.follow.new.self.sent })
    (blocks_by p parts s here.buffer c.self.invariant.least_e (omega (arith, c.self.invariant.b, c.self.invariant.some)) (omega (arith, c.self.invariant.b, c.self.invariant.fits)))
    here (went p parts (Write by c.args.bytes.now ∷ []) c.args.may_go c.self.inside.buffer.octets c.in-Ok.offset s new (c.in-Ok.ensures.answer p parts by here.buffer)).stands
    (all_below p index sent s.first c.args.may_go new.first c.in-Ok.ensures.first here.gone may)
    more.0 c.in-Ok.ensures.kept more.1 count
    (gone_is s new c.first_block.result c.first_block-first.result c.from.result c.first_block.ensures c.first_block-first.ensures (c.from.ensures ∙ c.self.invariant.b) b-is low)
    (c.follow.ensures.sent
    ∙ ap (λ m. take m (drop count c.self.inside.marks.sent) ++ replicate (m - (length c.self.inside.marks.sent - count)) false) c.kept-kept.ensures.exact)
