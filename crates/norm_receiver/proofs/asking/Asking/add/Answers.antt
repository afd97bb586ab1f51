use Rattle.std.proofs.Common.{refl}
use Rattle.norm_receiver.specs.Requesting.{need_of}
use Rattle.norm_receiver.proofs.WalkLemmas.{add_more, when_true}
use Rattle.norm_receiver.proofs.asking.Asking.add.Goals as goal

pub returns-clause-walked : goal.returns-clause-walked
returns-clause-walked c = λ test front w is at.
    add_more c.args.profile.now test c.args.self.now _ c.args.out.now c.ask.new.out front w (need_of c.args.need) c.args.heard c.if-self.false
    c.ask.ensures.limit c.are_both-self.ensures refl is (when_true _ _ c.ask.result (c.ask.ensures.added front w.asked at.asked) c.if-not-ask.false) at
