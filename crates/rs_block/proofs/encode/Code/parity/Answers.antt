use Rattle.std.proofs.Common.{subst}
use Rattle.std.proofs.lemmas.List.{append-nil}
use Rattle.rs_block.specs.Codeword.{HasSymbolAt}
use Rattle.rs_block.proofs.encode.Code.parity.Goals as goal

pub returns : goal.returns
returns c = λ t lt.
    subst (λ source. HasSymbolAt c.args.self.now.k c.args.self.now.n c.args.size source c.args.j c.parity_in_two.new.out t)
    (append-nil c.args.source.now) (c.parity_in_two.ensures t lt)
