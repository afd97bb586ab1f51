use Rattle.std.proofs.Common.{◌∙◌, ap, sym, ℕ}
use Rattle.std.specs.Prelude.{if◌then◌else◌, ◌==◌}
use Rattle.fec_plan.specs.Partition.{Cut, first_fault}
use Rattle.norm_ext.specs.declared.fti.Fti.{Fti}
use Rattle.norm_receive_rules.specs.Plans.{cut_by}
use Rattle.norm_receive_rules.specs.declared.words.Fit.TheVariants as fit
use Rattle.norm_receive_rules.proofs.PassedLemmas.{taken_new}
use Rattle.rx_hold.specs.EntryState.{entry_of}
use Rattle.rx_hold.specs.Fits.{are_same}
use Rattle.rx_hold.proofs.FitLemmas.{cut_e, faulty, fit_away, fit_over, fit_taken, fit_there, fit_unfit, none_at, not_away, of_other, of_own, of_profile}
use Rattle.rx_hold.proofs.front.Front.plan_for.Goals as goal

pub returns-then-is_over-clause-word : goal.returns-then-is_over-clause-word
returns-then-is_over-clause-word c = λ s stands. fit_over c.args.self.now s c.args.index c.args.fti.now c.args.flags c.requires stands
    (c.is_over.ensures.over c.if-is_over.true)

pub returns-in-Some-clause-word : goal.returns-in-Some-clause-word
returns-in-Some-clause-word c = λ s stands.
    let o = entry_of c.in-Some.entry.now in
    c.known_word.ensures.word
    ∙ ap (λ (g : Fti). if are_same c.args.fti.now c.args.flags g c.flags.result then fit.Known else fit.Unfit) c.fti.ensures
    ∙ ap (λ (n : ℕ). if are_same c.args.fti.now c.args.flags o.plan.fti n then fit.Known else fit.Unfit) c.flags.ensures
    ∙ fit_there c.args.self.now s c.args.index c.args.fti.now c.args.flags c.requires stands
    (c.is_over.ensures.ahead c.if-is_over.false) o (sym c.in-Some.ensures)

pub returns-then-is_away-clause-word : goal.returns-then-is_away-clause-word
returns-then-is_away-clause-word c = λ s stands.
    fit_away c.args.self.now s c.args.index c.args.fti.now c.args.flags c.requires stands
    (c.is_over.ensures.ahead c.if-is_over.false) (sym c.in_default.ensures) (sym c.is_away.ensures ∙ c.if-is_away.true)

pub returns-in_default-plan_by-clause-word : goal.returns-in_default-plan_by-clause-word
returns-in_default-plan_by-clause-word c = λ s stands.
    fit_unfit c.args.self.now s c.args.index c.args.fti.now c.args.flags c.requires stands
    (c.is_over.ensures.ahead c.if-is_over.false) (sym c.in_default.ensures) (sym c.is_away.ensures ∙ c.if-is_away.false)
    (faulty (first_fault (cut_by c.args.fti.now c.args.flags)) c.in_default-plan_by.field-0 _ c.in_default-plan_by.ensures)

pub returns-then-not-is_of-clause-word : goal.returns-then-not-is_of-clause-word
returns-then-not-is_of-clause-word c = λ s stands.
    let f = c.args.self.now in
    let g = c.args.fti.now in
    fit_unfit f s c.args.index g c.args.flags c.requires stands
    (c.is_over.ensures.ahead c.if-is_over.false) (sym c.in_default.ensures) (sym c.is_away.ensures ∙ c.if-is_away.false)
    (of_other (first_fault (cut_by g c.args.flags)) c.e.result f.profile.e g.e (g.b == f.profile.b) (g.max_n == f.profile.max_n) c.is_of.result c.in-Ok.ensures.0
    (c.e.ensures.exact ∙ ap (λ (cut : Cut). cut.e) c.in-Ok.ensures.1 ∙ cut_e g c.args.flags) c.is_of.ensures c.if-not-is_of.true)

pub returns-clause-word : goal.returns-clause-word
returns-clause-word c = λ s stands.
    let f = c.args.self.now in
    let g = c.args.fti.now in
    fit_taken f s c.args.index g c.args.flags c.requires stands
    (c.is_over.ensures.ahead c.if-is_over.false) (sym c.in_default.ensures) (sym c.is_away.ensures ∙ c.if-is_away.false)
    (of_own (first_fault (cut_by g c.args.flags)) c.e.result f.profile.e g.e (g.b == f.profile.b) (g.max_n == f.profile.max_n) c.is_of.result c.in-Ok.ensures.0
    (c.e.ensures.exact ∙ ap (λ (cut : Cut). cut.e) c.in-Ok.ensures.1 ∙ cut_e g c.args.flags) c.is_of.ensures c.if-not-is_of.false)

pub returns-clause-may : goal.returns-clause-may
returns-clause-may c =
    let f = c.args.self.now in
    let g = c.args.fti.now in
    let apart = not_away _ c.args.index f.profile.octets _ (sym c.is_away.ensures ∙ c.if-is_away.false) in
    let own = of_profile c.e.result g.e f.profile.e g.b f.profile.b (g.max_n == f.profile.max_n) (c.e.ensures.exact ∙ ap (λ (cut : Cut). cut.e) c.in-Ok.ensures.1 ∙ cut_e g c.args.flags)
    (sym c.is_of.ensures ∙ c.if-not-is_of.false) in
    record {
      reached = (c.is_over.ensures.ahead c.if-is_over.false);
      near = apart.0;
      new = none_at f _ c.in_default.ensures;
      room = apart.1;
      e = own.0;
      b = own.1;
      sound = c.e.ensures.sound;
    }

pub returns-clause-fresh : goal.returns-clause-fresh
returns-clause-fresh c = λ s stands. taken_new c.args.self.now.profile s c.args.index c.args.fti.now c.args.flags (returns-clause-word c s stands)
