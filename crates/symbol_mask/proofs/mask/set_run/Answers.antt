use Rattle.std.proofs.Common.{◌<◌, get_or, length, set, refl, ap, sym, ◌∙◌, arith}
use Rattle.std.specs.Prelude.{◌||◌, bit_or}
use Rattle.std.proofs.Math.Nat.{div-add-mod}
use Rattle.std.proofs.lemmas.List.{get_or-set_other}
use Rattle.symbol_mask.specs.Words.{has_bit}
use Rattle.symbol_mask.proofs.Filled.{run_word, no_word, all_words}
use Rattle.symbol_mask.proofs.Puts.{or_false}
use Rattle.symbol_mask.proofs.mask.set_run.Goals as goal

pub words-init : goal.words-init
words-init c = record {
  bits = λ place. sym (or_false (has_bit c.args.words.now place) _ (no_word c.args.from c.args.to place));
  before = λ k below. refl;
  after = omega arith;
  most = let some = c.requires.some in let up = c.div_ceil-behind.ensures in omega (arith, some, up, div-add-mod c.args.from 64);
}

pub words-preserved : goal.words-preserved
words-preserved c = record {
  bits =
      let within : c.words.word < length c.words.words =
      let lt = c.words-test.true in let up = c.div_ceil-behind.ensures in let room = c.requires.room in let same = c.words.auto.words in omega (arith, lt, up, room, same) in
      run_word c.args.words.now c.words.words _ c.args.from c.args.to c.words.word c.saturating_sub-low.result c.min-high.result (get_or c.words.words c.words.word 0)
      within refl (ap (λ bits. set c.words.words c.words.word (bit_or (get_or c.words.words c.words.word 0) bits)) c.run_bits.ensures)
      c.saturating_sub-low.ensures c.min-high.ensures c.words.invariant.bits;
  before = λ k below.
      get_or-set_other c.words.words c.words.word k _ 0 (λ e. let after = c.words.invariant.after in omega (arith, below, after, e)) ∙ c.words.invariant.before k below;
  after = let after = c.words.invariant.after in omega (arith, after);
  most = let lt = c.words-test.true in omega (arith, lt);
}

pub returns-clause-bits : goal.returns-clause-bits
returns-clause-bits c = λ place.
    c.words.invariant.bits place
    ∙ ap (λ b. has_bit c.args.words.now place || b)
    (all_words c.args.from c.args.to c.words.word place (let up = c.div_ceil-behind.ensures in let done = c.words-test.false in omega (arith, up, done)))
