use Rattle.std.proofs.Common.{sym, subst, [], ◌∷◌}
use Rattle.norm_base.specs.Settings.{Settings}
use Rattle.norm_order.specs.Entries.{End}
use Rattle.stream_buffer.specs.StreamState.{StandsFor}
use Rattle.stream_buffer.specs.HeldState.{HeldState}
use Rattle.stream_buffer.proofs.GrowingLemmas.{fault_is, answers_grow, on_ok, on_err}
use Rattle.stream_buffer.proofs.held.HeldStream.close.Goals as goal

pub returns-clause-answer : goal.returns-clause-answer
returns-clause-answer c = λ s parts knows unended past.
    let p : Settings = c.args.profile.now in
    let h : HeldState = c.args.self.now in
    let buffer : StandsFor p parts c.self.inside.buffer = subst (λ (v : HeldState). StandsFor p parts v.buffer) (sym c.self.view_is) knows.buffer in
    answers_grow p s c.args.index parts (End ∷ []) c.may_go-may_go.result c.args.before tt h c.end.new.self c.end.result
    (fault_is p s c.args.index parts (End ∷ []) h.buffer.first c.may_go-may_go.result c.least_for_end-least.result c.args.before unended
    (λ free. c.least_for_end-least.ensures p parts buffer unended free)
    (c.may_go-may_go.ensures.exact s parts knows past))
    (c.end.ensures.answer p parts knows.buffer)
    (λ e. on_ok _ c.end.result _ c.end.ensures.knows e p c.args.index parts s.sent knows (c.may_go-may_go.ensures.sent s parts knows past))
    (λ fault e. on_err _ c.end.result fault c.end.ensures.refused e)
