use Rattle.std.proofs.Common.{◌≡◌, ◌≤◌, ℕ, List, get_or, length, ap, sym, ◌∙◌, arith, nat_lt}
use Rattle.std.specs.Prelude.{◌||◌}
use Rattle.std.specs.Vec.{with_items}
use Rattle.std.proofs.lemmas.List.{with_items_is}
use Rattle.norm_order.specs.Sets.{is_member}
use Rattle.symbol_mask.specs.Places.{Places}
use Rattle.symbol_mask.specs.Words.{has_bit}
use Rattle.symbol_mask.specs.Words.{in_run}
use Rattle.symbol_mask.proofs.Filled.{run_members, run_rest, run_front, no_run}
use Rattle.symbol_mask.proofs.Puts.{or_false}
use Rattle.symbol_mask.proofs.mask.Mask.insert_run.Goals as goal

-- the words as they are written back
abbrev items : (c : goal.After-self-then-from-to-1) → List ℕ
items c = (with_items c.self.inside.words c.set_run.new.words).items

now : (c : goal.After-self-then-from-to-1) → items c ≡ c.set_run.new.words
now c = with_items_is c.self.inside.words c.set_run.new.words (c.set_run.auto.words ∙ c.deref_mut.ensures.len)

bits : (c : goal.After-self-then-from-to-1) → (place : ℕ) → has_bit (items c) place ≡ (has_bit c.self.inside.words.items place || in_run c.args.from c.args.to place)
bits c place =
    ap (λ (ws : List ℕ). has_bit ws place) (now c) ∙ c.set_run.ensures.bits place
    ∙ ap (λ (ws : List ℕ). has_bit ws place || in_run c.args.from c.args.to place) c.deref_mut.ensures.value

most : (c : goal.After-self-then-from-to-1) → c.args.to ≤ c.self.inside.size
most c = let size = ap (λ (p : Places). p.size) c.self.view_is in let most = c.requires in omega (arith, size, most)

same_length : (c : goal.After-self-then-from-to-1) → length (items c) ≡ length c.self.inside.words.items
same_length c = ap length (now c) ∙ c.set_run.auto.words ∙ ap length c.deref_mut.ensures.value

pub invariant_of-self : goal.invariant_of-self
invariant_of-self c =
    let same = same_length c in
    let low = c.min-self-inside.ensures in
    record {
      small = let small = c.self.invariant.small in omega (arith, small, same);
      within = let within = c.self.invariant.within in omega (arith, within, same, low);
      empty = run_front c.self.inside.words.items (items c) c.self.inside.lowest c.min-self-inside.result _ low
          (λ j lt. ap (λ (ws : List ℕ). get_or ws j 0) (now c) ∙ c.set_run.ensures.before j lt ∙ ap (λ (ws : List ℕ). get_or ws j 0) c.deref_mut.ensures.value)
          c.self.invariant.empty;
      room = let room = c.self.invariant.room in omega (arith, room, same);
      rest = run_rest c.self.inside.words.items (items c) c.self.inside.size c.args.from c.args.to (most c) (bits c) c.self.invariant.rest;
    }

pub returns-then-from-to-clause-members : goal.returns-then-from-to-clause-members
returns-then-from-to-clause-members c = λ place.
    run_members c.self.inside.words.items (items c) c.self.inside.size c.args.from c.args.to (most c) (bits c) place
    ∙ ap (λ (p : Places). is_member nat_lt place p.members || in_run c.args.from c.args.to place) c.self.view_is

pub returns-else-from-to-clause-members : goal.returns-else-from-to-clause-members
returns-else-from-to-clause-members c = λ place. sym (or_false _ _ (no_run c.args.from c.args.to place c.if-from-to.false))
