use Rattle.std.proofs.Common.{ap, sym, ◌∙◌}
use Rattle.std.specs.Prelude.{◌==◌, ◌&&◌}
use Rattle.nack_union.specs.Kept.{Marked}
use Rattle.nack_union.proofs.Mores.{one_slot}
use Rattle.nack_union.proofs.marks.Marks.ask_info.Goals as goal

pub returns-then-self : goal.returns-then-self
returns-then-self c =
    one_slot _ 0 c.args.self.now c.ask.new.self c.ask.ensures
    (λ slot. ap (λ b. b && slot == 0) (sym (ap (λ (m : Marked). m.info) c.self.view_is) ∙ c.if-self.true))

pub ask-requires-clause-info : goal.ask-requires-clause-info
ask-requires-clause-info c = λ e. sym (ap (λ (m : Marked). m.info) c.self.view_is) ∙ c.if-self.true
