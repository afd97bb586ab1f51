use Rattle.std.proofs.Common.{inl, inr, sym, ◌∙◌}
use Rattle.rx_stream.specs.StreamState.{alone}
use Rattle.rx_stream.proofs.StreamLemmas.{word_had, word_far, word_unfit, word_kept}
use Rattle.rx_stream.proofs.stream.Stream.word.Goals as goal

pub returns-then-holds-clause-word : goal.returns-then-holds-clause-word
returns-then-holds-clause-word c = λ p h. word_had p c.args.self.now.plan (alone c.args.self.now) c.args.block c.args.symbol c.args.payload.now (inl (sym c.holds.ensures ∙ c.if-holds.true))

pub returns-then-is_done-clause-word : goal.returns-then-is_done-clause-word
returns-then-is_done-clause-word c = λ p h. word_had p c.args.self.now.plan (alone c.args.self.now) c.args.block c.args.symbol c.args.payload.now (inr (sym c.is_done.ensures ∙ c.if-is_done.true))

pub returns-then-is_far-clause-word : goal.returns-then-is_far-clause-word
returns-then-is_far-clause-word c = λ p h. word_far p c.args.self.now.plan (alone c.args.self.now) c.args.block c.args.symbol c.args.payload.now (sym c.holds.ensures ∙ c.if-holds.false) (sym c.is_done.ensures ∙ c.if-is_done.false) (sym (c.is_far.ensures.exact p h) ∙ c.if-is_far.true)

pub returns-then-not-suits-clause-word : goal.returns-then-not-suits-clause-word
returns-then-not-suits-clause-word c = λ p h.
    word_unfit p c.args.self.now.plan (alone c.args.self.now) c.args.block c.args.symbol c.args.payload.now (sym c.holds.ensures ∙ c.if-holds.false) (sym c.is_done.ensures ∙ c.if-is_done.false) (sym (c.is_far.ensures.exact p h) ∙ c.if-is_far.false) (sym c.if-not-suits.true ∙ c.suits.ensures.exact p h)

pub returns-clause-word : goal.returns-clause-word
returns-clause-word c = λ p h.
    word_kept p c.args.self.now.plan (alone c.args.self.now) c.args.block c.args.symbol c.args.payload.now (sym c.holds.ensures ∙ c.if-holds.false) (sym c.is_done.ensures ∙ c.if-is_done.false) (sym (c.is_far.ensures.exact p h) ∙ c.if-is_far.false) (sym c.if-not-suits.false ∙ c.suits.ensures.exact p h)

pub returns-clause-kept : goal.returns-clause-kept
returns-clause-kept c = λ e. record {
  small = c.suits.ensures.small c.if-not-suits.false;
  named = c.suits.ensures.block c.if-not-suits.false;
  near = c.is_far.ensures.near c.if-is_far.false;
  new = sym c.holds.ensures ∙ c.if-holds.false;
  lacks = sym c.is_done.ensures ∙ c.if-is_done.false;
  sent = c.suits.ensures.sent c.if-not-suits.false;
}
