use Rattle.std.proofs.Common.{ℕ, Option, Result, sym, subst}
use Rattle.norm_send_rules.specs.declared.fault.SendFault.{SendFault}
use Rattle.norm_relay.specs.Pumping.{begins_anew}
use Rattle.norm_relay.proofs.AskLemmas.{Steps, Pumps, pump_refused, pump_done}
use Rattle.norm_relay.proofs.pumping.Lower.pump.Goals as goal

pub returns-in-Some-clause-pumps : goal.returns-in-Some-clause-pumps
returns-in-Some-clause-pumps c =
    pump_refused c.args.now c.args.waiting.now.items c.args.held.now c.begin_anew.new.held c.args.self.now c.begin_anew.new.self c.in-Some.fault
    (subst (λ (o : Option SendFault). Steps c.args.held.now c.args.self.now c.begin_anew.new.held c.begin_anew.new.self o (begins_anew c.args.now)) c.in-Some.is
    c.in_ok-fault.ensures.begins)

pub returns-clause-pumps : goal.returns-clause-pumps
returns-clause-pumps c =
    subst (λ (t : Result ℕ SendFault). Pumps c.args.now c.args.waiting.now.items c.args.held.now c.args.self.now c.enqueue.new.waiting.items
    c.ask.new.held c.ask.new.self t) (sym c.told_of.ensures)
    (pump_done c.args.now c.args.waiting.now.items c.enqueue.new.waiting.items c.args.held.now c.begin_anew.new.held c.ask.new.held
    c.args.self.now c.begin_anew.new.self c.enqueue.new.self c.ask.new.self c.in_ok-done.done c.in_ok-refused.refused
    (subst (λ (o : Option SendFault). Steps c.args.held.now c.args.self.now c.begin_anew.new.held c.begin_anew.new.self o (begins_anew c.args.now)) c.in_default.is
    c.in_ok-fault.ensures.begins)
    c.in_ok-done.ensures.enqueues c.in_ok-refused.ensures.asks)
