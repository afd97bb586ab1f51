use Rattle.std.proofs.Common.{◌<◌, sym, subst, ◌∙◌, Option}
use Rattle.std.specs.Prelude.{MatchOption, option_map, ⊤}
use Rattle.fec_plan.specs.Partition.{blocks}
use Rattle.fec_plan.specs.Points.{position}
use Rattle.norm_receive_rules.specs.Plans.{cut_of_plan}
use Rattle.rx_hold.specs.EntryState.{EntryState, entry_of}
use Rattle.rx_hold.proofs.FirstLemmas.{not_earlier, short_word}
use Rattle.rx_hold.specs.FrontSound.{point_of_front}
use Rattle.rx_hold.proofs.ReadLemmas.{looked_up, reached_block, read_missing, read_unseen}
use Rattle.rx_hold.proofs.front.Front.missing.Goals as goal

pub returns-in_default : goal.returns-in_default
returns-in_default c = λ s stands.
    read_unseen c.args.self.now s c.args.index c.requires.front stands (not_earlier (position c.args.index c.args.block 0) (point_of_front c.args.self.now) c.requires.reached)
    c.args.block (sym c.in_default.ensures)

pub lacking-wanted-requires-clause-reached : goal.lacking-wanted-requires-clause-reached
lacking-wanted-requires-clause-reached c =
    reached_block c.args.self.now c.args.index c.requires.front (not_earlier (position c.args.index c.args.block 0) (point_of_front c.args.self.now) c.requires.reached)
    c.args.block (entry_of c.in-Some.entry.now) c.requires.reached (sym c.in-Some.ensures)

pub lacking-wanted-requires-clause-block : goal.lacking-wanted-requires-clause-block
lacking-wanted-requires-clause-block c =
    subst (λ (found : Option EntryState). MatchOption (option_map (λ (o : EntryState). cut_of_plan o.plan) found) ⊤ (λ cut. c.args.block < blocks cut))
    (looked_up c.args.self.now c.args.index c.requires.front (not_earlier (position c.args.index c.args.block 0) (point_of_front c.args.self.now) c.requires.reached) ∙ sym c.in-Some.ensures)
    c.requires.block

pub returns-then-wanted-eq0 : goal.returns-then-wanted-eq0
returns-then-wanted-eq0 c = λ s stands.
    read_missing c.args.self.now s c.args.index c.requires.front stands (not_earlier (position c.args.index c.args.block 0) (point_of_front c.args.self.now) c.requires.reached)
    c.args.block 0 (entry_of c.in-Some.entry.now) c.requires.reached (sym c.in-Some.ensures) (sym c.if-wanted-eq0.true ∙ c.lacking-wanted.ensures)

pub returns : goal.returns
returns c = λ s stands.
    short_word c.lacking-wanted.result c.if-wanted-eq0.false
    ∙ read_missing c.args.self.now s c.args.index c.requires.front stands (not_earlier (position c.args.index c.args.block 0) (point_of_front c.args.self.now) c.requires.reached)
    c.args.block c.lacking-wanted.result (entry_of c.in-Some.entry.now) c.requires.reached (sym c.in-Some.ensures) c.lacking-wanted.ensures
