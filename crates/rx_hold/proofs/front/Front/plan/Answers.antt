use Rattle.std.proofs.Common.{ap, sym, ◌∙◌, Option, Some}
use Rattle.std.specs.Prelude.{option_map}
use Rattle.fec_plan.specs.Partition.{Cut}
use Rattle.norm_receive_rules.specs.Plans.{cut_of_plan}
use Rattle.rx_hold.specs.EntryState.{EntryState, entry_of}
use Rattle.rx_hold.proofs.ReadLemmas.{looked_up, read_cut, read_no_cut}
use Rattle.rx_hold.proofs.front.Front.plan.Goals as goal

pub returns-in-Some-clause-exact : goal.returns-in-Some-clause-exact
returns-in-Some-clause-exact c =
    ap (λ (cut : Cut). Some cut) c.plan.ensures
    ∙ ap (λ (found : Option EntryState). option_map (λ (o : EntryState). cut_of_plan o.plan) found) (c.in-Some.ensures ∙ sym (looked_up c.args.self.now c.args.index c.requires.front c.requires.reached))

pub returns-in-None-clause-exact : goal.returns-in-None-clause-exact
returns-in-None-clause-exact c =
    ap (λ (found : Option EntryState). option_map (λ (o : EntryState). cut_of_plan o.plan) found) (c.in-None.ensures ∙ sym (looked_up c.args.self.now c.args.index c.requires.front c.requires.reached))

pub returns-in-Some-clause-state : goal.returns-in-Some-clause-state
returns-in-Some-clause-state c = λ s stands.
    ap (λ (cut : Cut). Some cut) c.plan.ensures ∙ read_cut c.args.self.now s c.args.index c.requires.front stands c.requires.reached (entry_of c.in-Some.entry.now) (sym c.in-Some.ensures)

pub returns-in-None-clause-state : goal.returns-in-None-clause-state
returns-in-None-clause-state c = λ s stands. read_no_cut c.args.self.now s c.args.index c.requires.front stands c.requires.reached (sym c.in-None.ensures)
