use Rattle.std.proofs.Common.{◌∙◌, None, sym}
use Rattle.norm_receiver.specs.Inside.{kept_of}
use Rattle.norm_receiver.proofs.TickingLemmas.{backed_off, back_off_ends}
use Rattle.norm_receiver.proofs.parts.Parts.end_back_off.Goals as goal

pub returns-clause-sent : goal.returns-clause-sent
returns-clause-sent c = λ s stands.
    back_off_ends (kept_of c.args.self.now) (kept_of c.ask_where_needed.new.self) c.ask_where_needed.new.out c.ask_where_needed.result c.args.now s stands
    (sym c.ends_back_off.ensures ∙ c.if-not-ends_back_off.false)
    (c.ask_where_needed.ensures.sent (record s { knows = record (s.knows) { backoff = None } })
    (backed_off (kept_of c.args.self.now) c.backed_off-self.result s stands c.backed_off-self.ensures))
