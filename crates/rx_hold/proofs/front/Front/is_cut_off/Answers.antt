use Rattle.std.proofs.Common.{sym, ap, ◌∙◌}
use Rattle.std.specs.Prelude.{◌&&◌}
use Rattle.std.proofs.lemmas.Bool.{eq-eqb}
use Rattle.rx_hold.specs.EntryHold.{at_place}
use Rattle.rx_hold.specs.Handing.{cut_by_place}
use Rattle.rx_hold.proofs.LoseLemmas.{cut_off_is}
use Rattle.rx_hold.proofs.front.Front.is_cut_off.Goals as goal

pub returns-then-self-index-clause-exact : goal.returns-then-self-index-clause-exact
returns-then-self-index-clause-exact c = λ s stands.
    let f = c.args.self.now in
    c.is_first_cut_off-cut.ensures
    ∙ sym (ap (λ b. b && cut_by_place c.args.block (at_place f.ring.items 0)) (eq-eqb f.point c.args.index c.if-self-index.true))
    ∙ cut_off_is f s c.args.index c.args.block c.requires stands
