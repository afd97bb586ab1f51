use Rattle.std.proofs.Common.{sym, ◌∙◌}
use Rattle.fec_plan.specs.Points.{position}
use Rattle.rx_hold.specs.EntryState.{entry_of}
use Rattle.rx_hold.proofs.FirstLemmas.{not_earlier}
use Rattle.rx_hold.specs.FrontSound.{point_of_front}
use Rattle.rx_hold.proofs.ReadLemmas.{read_held, read_not_held, reached_block}
use Rattle.rx_hold.proofs.front.Front.holds.Goals as goal

pub holds-requires : goal.holds-requires
holds-requires c =
    reached_block c.args.self.now c.args.index c.requires.front (not_earlier (position c.args.index c.args.block 0) (point_of_front c.args.self.now) c.requires.reached)
    c.args.block (entry_of c.in-Some.entry.now) c.requires.reached (sym c.in-Some.ensures)

pub returns-in-Some : goal.returns-in-Some
returns-in-Some c = λ s stands.
    c.holds.ensures
    ∙ read_held c.args.self.now s c.args.index c.requires.front stands (not_earlier (position c.args.index c.args.block 0) (point_of_front c.args.self.now) c.requires.reached)
    c.args.block c.args.symbol (entry_of c.in-Some.entry.now) c.requires.reached (sym c.in-Some.ensures)

pub returns-in-None : goal.returns-in-None
returns-in-None c = λ s stands.
    read_not_held c.args.self.now s c.args.index c.requires.front stands (not_earlier (position c.args.index c.args.block 0) (point_of_front c.args.self.now) c.requires.reached)
    c.args.block c.args.symbol c.requires.reached (sym c.in-None.ensures)
