use Rattle.std.proofs.Common.{true, false, refl, sym, ap, ◌∙◌, length, ℕ}
use Rattle.std.specs.Prelude.{nat_lt, not, ◌||◌}
use Rattle.norm_receive_rules.specs.Plans.{says_info}
use Rattle.rx_hold.specs.EntryState.{entry_of}
use Rattle.rx_hold.proofs.InfoLemmas.{info_away, info_over, info_there, may_inform}
use Rattle.rx_hold.proofs.front.Front.info_word.Goals as goal

pub returns-then-is_over-clause-word : goal.returns-then-is_over-clause-word
returns-then-is_over-clause-word c = λ s stands. info_over c.args.self.now s c.args.index c.args.info.now c.requires stands
    (c.is_over.ensures.over c.if-is_over.true)

pub returns-in_default-clause-word : goal.returns-in_default-clause-word
returns-in_default-clause-word c = λ s stands. info_away c.args.self.now s c.args.index c.args.info.now c.requires stands
    (c.is_over.ensures.ahead c.if-is_over.false) (sym c.in_default.ensures)

pub returns-then-has_info-clause-word : goal.returns-then-has_info-clause-word
returns-then-has_info-clause-word c = λ s stands.
    info_there c.args.self.now s c.args.index c.args.info.now c.requires stands
    (c.is_over.ensures.ahead c.if-is_over.false) (entry_of c.in-Some.entry.now) true
    (nat_lt c.args.self.now.profile.e (length c.args.info.now) || not (says_info (entry_of c.in-Some.entry.now).plan.flags)) (sym c.in-Some.ensures)
    (sym c.has_info.ensures ∙ c.if-has_info.true) refl

pub returns-then-is_bad_info-clause-word : goal.returns-then-is_bad_info-clause-word
returns-then-is_bad_info-clause-word c = λ s stands.
    let o = entry_of c.in-Some.entry.now in
    info_there c.args.self.now s c.args.index c.args.info.now c.requires stands
    (c.is_over.ensures.ahead c.if-is_over.false) o false true (sym c.in-Some.ensures)
    (sym c.has_info.ensures ∙ c.if-has_info.false)
    (ap (λ (n : ℕ). nat_lt c.args.self.now.profile.e (length c.args.info.now) || not (says_info n)) (sym c.flags.ensures)
    ∙ sym c.is_bad_info.ensures ∙ c.if-is_bad_info.true)

pub returns-clause-word : goal.returns-clause-word
returns-clause-word c = λ s stands.
    let o = entry_of c.in-Some.entry.now in
    info_there c.args.self.now s c.args.index c.args.info.now c.requires stands
    (c.is_over.ensures.ahead c.if-is_over.false) o false false (sym c.in-Some.ensures)
    (sym c.has_info.ensures ∙ c.if-has_info.false)
    (ap (λ (n : ℕ). nat_lt c.args.self.now.profile.e (length c.args.info.now) || not (says_info n)) (sym c.flags.ensures)
    ∙ sym c.is_bad_info.ensures ∙ c.if-is_bad_info.false)

pub returns-clause-kept : goal.returns-clause-kept
returns-clause-kept c = λ yes.
    may_inform c.args.self.now c.args.index (entry_of c.in-Some.entry.now)
    (c.is_over.ensures.ahead c.if-is_over.false) (sym c.in-Some.ensures) (sym c.has_info.ensures ∙ c.if-has_info.false)
