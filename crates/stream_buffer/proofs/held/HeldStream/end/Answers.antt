use Rattle.std.proofs.Common.{◌≡◌, ◌+◌, ◌-◌, ◌*◌, ◌≤◌, ◌++◌, ap, sym, subst, ◌∙◌, arith, false, [], ◌∷◌, length, take, drop}
use Rattle.std.specs.Prelude.{Ok, replicate, min}
use Rattle.norm_order.specs.Entries.{End}
use Rattle.stream_buffer.specs.StreamState.{StreamState, StandsFor, Answers, kept_from, closed_segments}
use Rattle.stream_buffer.specs.StreamMoves.{kept_for}
use Rattle.stream_buffer.specs.HeldState.{HeldState, Knows, run_of}
use Rattle.stream_buffer.specs.HeldSound.{held_view}
use Rattle.stream_buffer.proofs.KnowsLemmas.{blocks_by, grows, gone_is, gone_set, went, all_below, goes_on}
use Rattle.stream_buffer.proofs.held.HeldStream.end.Goals as goal

pub follow-requires-clause-gone : goal.follow-requires-clause-gone
follow-requires-clause-gone c =
    gone_set c.self.inside.buffer c.close.new.self c.first_block.result c.first_block-first.result c.from.result c.args.may_go (run_of c.self.inside.marks.sent)
    c.first_block.ensures c.first_block-first.ensures (c.from.ensures ∙ c.self.invariant.b) c.in-Ok.ensures.first
    (subst (λ (v : HeldState). (c.args.may_go - v.buffer.first) * v.buffer.cut.b ≤ run_of v.sent) (sym c.self.view_is) c.requires.sent)

pub returns-in-Ok-clause-answer : goal.returns-in-Ok-clause-answer
returns-in-Ok-clause-answer c = λ p parts st.
    subst (λ (v : HeldState). Answers p parts (End ∷ []) c.args.may_go tt v.buffer c.close.new.self (Ok tt)) c.self.view_is
    (c.in-Ok.ensures.answer p parts (subst (λ (v : HeldState). StandsFor p parts v.buffer) (sym c.self.view_is) st))

pub returns-in-Ok-clause-knows : goal.returns-in-Ok-clause-knows
returns-in-Ok-clause-knows c = λ p index parts sent knows may.
    let s : StreamState = c.self.inside.buffer in
    let new : StreamState = c.close.new.self in
    let here : Knows p index parts sent (held_view c.self.inside) = subst (Knows p index parts sent) (sym c.self.view_is) knows in
    let first : new.first ≡ kept_for s (closed_segments s + min 1 (length s.filling) + 1) = ap (λ (v : StreamState). v.first) c.in-Ok.ensures.exact in
    let low : s.first ≤ new.first = omega (arith, first) in
    let b-is : new.cut.b ≡ s.cut.b = ap (λ (v : StreamState). v.cut.b) c.in-Ok.ensures.exact in
    let from : kept_from new ≡ kept_for s (closed_segments s + min 1 (length s.filling) + 1) * s.cut.b = ap (λ (v : StreamState). kept_from v) c.in-Ok.ensures.exact in
    let more = grows s new (kept_for s (closed_segments s + min 1 (length s.filling) + 1)) _ (omega arith) from c.in-Ok.ensures.kept (ap (λ (v : StreamState). v.rows) c.in-Ok.ensures.exact) in
    let count = (c.first_block.result - c.first_block-first.result) * c.from.result in
    goes_on p index parts (parts ++ End ∷ []) sent (held_view c.self.inside) (record { buffer = new; sent = c.follow.new.self.sent })
    (blocks_by p parts s here.buffer c.self.invariant.least_e (omega (arith, c.self.invariant.b, c.self.invariant.some)) (omega (arith, c.self.invariant.b, c.self.invariant.fits)))
    here (went p parts (End ∷ []) c.args.may_go tt tt s new (c.in-Ok.ensures.answer p parts here.buffer)).stands
    (all_below p index sent s.first c.args.may_go new.first c.in-Ok.ensures.first here.gone may)
    more.0 c.in-Ok.ensures.kept more.1 count
    (gone_is s new c.first_block.result c.first_block-first.result c.from.result c.first_block.ensures c.first_block-first.ensures (c.from.ensures ∙ c.self.invariant.b) b-is low)
    (c.follow.ensures.sent
    ∙ ap (λ m. take m (drop count c.self.inside.marks.sent) ++ replicate (m - (length c.self.inside.marks.sent - count)) false) c.kept-kept.ensures.exact)
