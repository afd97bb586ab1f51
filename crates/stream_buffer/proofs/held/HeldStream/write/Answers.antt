use Rattle.std.proofs.Common.{sym, subst, [], ◌∷◌, length}
use Rattle.norm_base.specs.Settings.{Settings}
use Rattle.norm_order.specs.Entries.{Write}
use Rattle.norm_order.specs.Segments.{written}
use Rattle.stream_buffer.specs.StreamState.{StandsFor, Answers}
use Rattle.stream_buffer.specs.HeldState.{HeldState}
use Rattle.stream_buffer.proofs.GrowingLemmas.{fault_is, answers_grow, on_ok, on_err}
use Rattle.stream_buffer.proofs.held.HeldStream.write.Goals as goal

pub returns-clause-answer : goal.returns-clause-answer
returns-clause-answer c = λ s parts by knows unended past.
    let p : Settings = c.args.profile.now in
    let h : HeldState = c.args.self.now in
    let buffer : StandsFor p parts c.self.inside.buffer = subst (λ (v : HeldState). StandsFor p parts v.buffer) (sym c.self.view_is) knows.buffer in
    answers_grow p s c.args.index parts (Write by c.args.bytes.now ∷ []) c.may_go-may_go.result c.args.before (length (written parts)) h c.put.new.self c.put.result
    (fault_is p s c.args.index parts (Write by c.args.bytes.now ∷ []) h.buffer.first c.may_go-may_go.result c.least_for-least.result c.args.before unended
    (λ free. c.least_for-least.ensures p parts by buffer unended free)
    (c.may_go-may_go.ensures.exact s parts knows past))
    (subst (λ n. Answers p parts (Write by c.args.bytes.now ∷ []) c.may_go-may_go.result n h.buffer c.put.new.self.buffer c.put.result) knows.buffer.octets (c.put.ensures.answer p parts by knows.buffer))
    (λ e. on_ok _ c.put.result _ c.put.ensures.knows e p c.args.index parts by s.sent knows (c.may_go-may_go.ensures.sent s parts knows past))
    (λ fault e. on_err _ c.put.result fault c.put.ensures.refused e)
