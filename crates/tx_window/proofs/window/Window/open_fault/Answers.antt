use Rattle.std.proofs.Common.{◌≡◌, ◌*◌, ◌≤◌, ap, sym, subst, ◌∙◌, arith, Some}
use Rattle.norm_base.specs.Settings.{Settings}
use Rattle.norm_send_rules.specs.Streaming.{open_fault}
use Rattle.norm_send_rules.specs.declared.fault.EnqueueFault.TheVariants.{TooBig}
use Rattle.tx_window.specs.WindowState.{WindowState}
use Rattle.tx_window.specs.Asked.{joining_fault}
use Rattle.tx_window.proofs.FaultLemmas.{open_big, open_then}
use Rattle.tx_window.proofs.window.Window.open_fault.Goals as goal

pub returns-then-len-most-clause-exact : goal.returns-then-len-most-clause-exact
returns-then-len-most-clause-exact c = λ s stands.
    let p : Settings = c.self.inside.profile in
    let len : c.buffer_len-len.result ≡ p.blocks * p.b * p.e = c.buffer_len-len.ensures.exact in
    let most : c.most_octets-most.result ≡ p.octets = c.most_octets-most.ensures in
    subst (λ (v : WindowState). Some (TooBig c.buffer_len-len.result) ≡ open_fault v.p s) c.self.view_is
    (ap (λ n. Some (TooBig n)) len ∙ sym (open_big p s (omega (arith, len, c.if-len-most.true, most))))

pub returns-clause-exact : goal.returns-clause-exact
returns-clause-exact c = λ s stands.
    let p : Settings = c.self.inside.profile in
    let len : c.buffer_len-len.result ≡ p.blocks * p.b * p.e = c.buffer_len-len.ensures.exact in
    let most : c.most_octets-most.result ≡ p.octets = c.most_octets-most.ensures in
    c.joining_fault.ensures.exact s stands
    ∙ ap (λ n. joining_fault c.args.self.now.p s n) len
    ∙ ap (λ (v : WindowState). joining_fault c.args.self.now.p s (v.p.blocks * v.p.b * v.p.e)) c.self.view_is
    ∙ sym (open_then c.args.self.now.p s (subst (λ (v : WindowState). v.p.blocks * v.p.b * v.p.e ≤ v.p.octets) c.self.view_is (let fit : p.blocks * p.b * p.e ≤ p.octets = omega (arith, len, c.if-len-most.false, most) in fit)))
