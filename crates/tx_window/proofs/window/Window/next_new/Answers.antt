use Rattle.std.proofs.Common.{◌≡◌, ◌<◌, ◌≤◌, ◌⊎◌, inl, inr, ap, sym, ◌∙◌, arith}
use Rattle.std.proofs.lemmas.Bool.{cases_lt}
use Rattle.norm_send_rules.specs.SenderState.{SenderState}
use Rattle.norm_send_rules.specs.Sending.{next_new}
use Rattle.norm_send_rules.specs.Laws.{next_at}
use Rattle.norm_send_rules.specs.Wants.{want_index}
use Rattle.norm_send_rules.specs.declared.want.Want.TheVariants.{Info}
use Rattle.tx_window.specs.WindowState.{WindowState, Stands}
use Rattle.tx_window.proofs.KeptLemmas.{dropped_is}
use Rattle.tx_window.proofs.SearchLemmas.{next_laws, same_next}
use Rattle.tx_window.proofs.window.Window.next_new.Goals as goal

pub returns-in-Symbol-clause-exact : goal.returns-in-Symbol-clause-exact
returns-in-Symbol-clause-exact c = λ s stands is. c.next_symbol.ensures.exact s stands (is ∙ c.in-Symbol.is)

pub returns-in-Info-clause-exact : goal.returns-in-Info-clause-exact
returns-in-Info-clause-exact c = λ s stands is. by s stands (is ∙ c.in-Info.is) (cases_lt c.in-Info.index c.self.inside.dropped)
  where
    by : (s : SenderState) → Stands c.args.self.now s → s.next ≡ Info c.in-Info.index → (c.in-Info.index < c.self.inside.dropped) ⊎ (c.self.inside.dropped ≤ c.in-Info.index)
        → c.first_new.result ≡ next_new c.args.self.now.p s
    by s stands is (inl before) =
        let v = c.args.self.now in
        let first = ap (λ (x : WindowState). x.dropped) c.self.view_is in
        let low = dropped_is v s stands in
        let at = ap want_index is in
        c.first_new.ensures.exact s stands
        ∙ ap (λ n. next_new v.p (next_at n s)) (let z : c.max.result ≡ s.current.drop.index = omega (arith, c.max.ensures, before, first, low) in z)
        ∙ sym (next_laws.dropped v.p s (omega (arith, at, before, first, low)))
    by s stands is (inr behind) =
        c.first_new.ensures.exact s stands
        ∙ ap (λ n. next_new c.args.self.now.p (next_at n s)) (let z : c.max.result ≡ c.in-Info.index = omega (arith, c.max.ensures, behind) in z)
        ∙ same_next c.args.self.now.p s c.in-Info.index is
