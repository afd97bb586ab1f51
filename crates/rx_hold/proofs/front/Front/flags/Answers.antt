use Rattle.std.proofs.Common.{ap, sym, ◌∙◌, Option, Some, ℕ}
use Rattle.std.specs.Prelude.{option_map}
use Rattle.rx_hold.specs.EntryState.{EntryState, entry_of}
use Rattle.rx_hold.proofs.ReadLemmas.{looked_up, read_flags, read_no_flags}
use Rattle.rx_hold.proofs.front.Front.flags.Goals as goal

pub returns-in-Some-clause-exact : goal.returns-in-Some-clause-exact
returns-in-Some-clause-exact c =
    ap (λ (n : ℕ). Some n) c.flags.ensures
    ∙ ap (λ (found : Option EntryState). option_map (λ (o : EntryState). o.plan.flags) found) (c.in-Some.ensures ∙ sym (looked_up c.args.self.now c.args.index c.requires.front c.requires.reached))

pub returns-in-None-clause-exact : goal.returns-in-None-clause-exact
returns-in-None-clause-exact c =
    ap (λ (found : Option EntryState). option_map (λ (o : EntryState). o.plan.flags) found) (c.in-None.ensures ∙ sym (looked_up c.args.self.now c.args.index c.requires.front c.requires.reached))

pub returns-in-Some-clause-state : goal.returns-in-Some-clause-state
returns-in-Some-clause-state c = λ s stands.
    ap (λ (n : ℕ). Some n) c.flags.ensures ∙ read_flags c.args.self.now s c.args.index c.requires.front stands c.requires.reached (entry_of c.in-Some.entry.now) (sym c.in-Some.ensures)

pub returns-in-None-clause-state : goal.returns-in-None-clause-state
returns-in-None-clause-state c = λ s stands. read_no_flags c.args.self.now s c.args.index c.requires.front stands c.requires.reached (sym c.in-None.ensures)
