use Rattle.std.proofs.Common.{sym, subst, arith}
use Rattle.norm_base.specs.declared.kinds.Sent.TheVariants as said
use Rattle.norm_receive_rules.specs.ReceiverState.{ReceiverState}
use Rattle.norm_receive_rules.specs.Ticking.{ticked}
use Rattle.norm_receiver.specs.ReceiverSound.{StandsFor as ReceiverStands}
use Rattle.norm_relay.specs.Holding.{IsHeldTick}
use Rattle.norm_relay.specs.RelayKept.{RelayKept, StandsFor}
use Rattle.norm_relay.specs.RelayMoves.{IsCall, IsSent}
use Rattle.norm_relay.specs.RelayStep.{UpTicked}
use Rattle.norm_relay.specs.declared.ticking.Held.{Held}
use Rattle.norm_relay.proofs.CallLemmas.{kept, call_of, is_met_up, is_ticked_up, none_untaken}
use Rattle.norm_relay.proofs.SaysLemmas.{says_handed, no_octets}
use Rattle.norm_relay.proofs.UpperLemmas.{no_ups}
use Rattle.norm_relay.proofs.relay.Relay.tick_up.Goals as goal

pub returns-in-Some : goal.returns-in-Some
returns-in-Some c =
    let i = c.self.inside in
    let done : IsCall c.args.self.now (kept i.receiver i.lower i.waiting.items c.take_met.new.self) (UpTicked c.args.now) (IsSent said.Datagram c.write.new.out) =
    call_of _ c.args.self.now _ (UpTicked c.args.now) (IsSent said.Datagram c.write.new.out) c.self.view_is
    (is_met_up i.receiver i.lower i.waiting.items i.held c.take_met.new.self c.args.now c.in-Some.ack c.write.new.out c.take_met.result
    c.take_met.ensures.met c.in-Some.is c.in-Some.ensures.some c.write.ensures) in
    record { call = done; handed = says_handed c.args.self.now _ c.args.now said.Datagram c.write.new.out done }

pub returns-then-ups-gt0 : goal.returns-then-ups-gt0
returns-then-ups-gt0 c = record {
  call = λ x st.
      let i = c.self.inside in
      let none = none_untaken (kept i.receiver i.lower i.waiting.items i.held) x c.ups.result (subst (λ (v : RelayKept). StandsFor v x) (sym c.self.view_is) st)
      c.ups.ensures.stands in
      absurd (omega (arith, none, c.if-ups-gt0.true));
  handed = λ up node down events fits lawful stands octets m wrote read. absurd (no_octets octets wrote);
}

pub tick-requires : goal.tick-requires
tick-requires c = no_ups c.self.inside.receiver.hold.ups (omega (arith, c.ups.ensures.exact, c.if-ups-gt0.false))

pub returns : goal.returns
returns c =
    let i = c.self.inside in
    let done : IsCall c.args.self.now (kept c.tick.new.receiver i.lower i.waiting.items c.tick.new.held) (UpTicked c.args.now) (IsSent c.tick.result c.tick.new.out) =
    call_of _ c.args.self.now _ (UpTicked c.args.now) (IsSent c.tick.result c.tick.new.out) c.self.view_is
    (is_ticked_up i.receiver c.tick.new.receiver i.lower i.waiting.items i.held c.tick.new.held c.args.now c.tick.new.out c.tick.result c.take_met.result
    c.take_met.ensures.met c.in_default.is c.tick.ensures.profile
    (subst (λ (h : Held). (s : ReceiverState) → ReceiverStands i.receiver s
    → IsHeldTick c.tick.new.receiver h c.tick.new.held c.tick.new.out c.tick.result (ticked i.receiver.p s c.args.now))
    (c.take_met.ensures.none c.in_default.is) c.tick.ensures.ticks)) in
    record { call = done; handed = says_handed c.args.self.now _ c.args.now c.tick.result c.tick.new.out done }
