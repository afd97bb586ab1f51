use Rattle.std.proofs.Common.{ℕ, ◌*◌, ◌/◌, ◌%◌, ◌^◌, ◌<◌, ◌≤◌, set, ap, ◌∙◌, arith}
use Rattle.std.specs.Prelude.{bit_or, nat_lt}
use Rattle.std.proofs.lemmas.List.{get_or_read, length-set}
use Rattle.std.proofs.Math.Nat.{div-add-mod}
use Rattle.norm_order.specs.Sets.{with_member}
use Rattle.symbol_mask.specs.Places.{Places}
use Rattle.symbol_mask.proofs.Bits.{set_puts, set_rest, few_members, shorter_front, front_kept}
use Rattle.symbol_mask.proofs.mask.Mask.insert.Goals as goal

pub invariant_of-self : goal.invariant_of-self
invariant_of-self c =
    let size = ap (λ (p : Places). p.size) c.self.view_is in
    let room = c.self.invariant.room in
    let lt : c.args.place < c.self.inside.size = omega (arith, size) in
    let le : c.args.place / 64 ≤ c.self.inside.lowest = omega arith in
    let small = c.self.invariant.small in
    record {
      small = omega (arith, small, length-set {A = ℕ});
      within = omega (arith, lt, room, div-add-mod c.args.place 64, length-set {A = ℕ});
      empty = shorter_front c.self.inside.words.items c.self.inside.lowest (c.args.place / 64) _ c.self.invariant.empty le;
      room = omega (arith, room, length-set {A = ℕ});
      rest = set_rest c.self.inside.words.items _ c.self.inside.size c.args.place lt room
          (ap (λ w. set c.self.inside.words.items (c.args.place / 64) (bit_or w (1 * 2 ^ (c.args.place % 64) % 2 ^ 64)))
          (get_or_read c.self.inside.words.items (c.args.place / 64) c.index_mut.result.now (omega (arith, lt, room, div-add-mod c.args.place 64)) c.index_mut.ensures.value 0))
          c.self.invariant.rest;
    }

pub invariant_of-self-else-word-self : goal.invariant_of-self-else-word-self
invariant_of-self-else-word-self c =
    let size = ap (λ (p : Places). p.size) c.self.view_is in
    let room = c.self.invariant.room in
    let lt : c.args.place < c.self.inside.size = omega (arith, size) in
    let le : c.self.inside.lowest ≤ c.args.place / 64 = omega arith in
    let small = c.self.invariant.small in
    let within = c.self.invariant.within in
    record {
      small = omega (arith, small, length-set {A = ℕ});
      within = omega (arith, within, length-set {A = ℕ});
      empty = front_kept c.self.inside.words.items c.self.inside.lowest (c.args.place / 64) _ c.self.invariant.empty le;
      room = omega (arith, room, length-set {A = ℕ});
      rest = set_rest c.self.inside.words.items _ c.self.inside.size c.args.place lt room
          (ap (λ w. set c.self.inside.words.items (c.args.place / 64) (bit_or w (1 * 2 ^ (c.args.place % 64) % 2 ^ 64)))
          (get_or_read c.self.inside.words.items (c.args.place / 64) c.index_mut.result.now (omega (arith, lt, room, div-add-mod c.args.place 64)) c.index_mut.ensures.value 0))
          c.self.invariant.rest;
    }

pub returns-then-word-self-clause-members : goal.returns-then-word-self-clause-members
returns-then-word-self-clause-members c =
    let size = ap (λ (p : Places). p.size) c.self.view_is in
    let room = c.self.invariant.room in
    let lt : c.args.place < c.self.inside.size = omega (arith, size) in
    set_puts c.self.inside.words.items _ c.self.inside.size c.args.place lt room
    (ap (λ w. set c.self.inside.words.items (c.args.place / 64) (bit_or w (1 * 2 ^ (c.args.place % 64) % 2 ^ 64)))
    (get_or_read c.self.inside.words.items (c.args.place / 64) c.index_mut.result.now (omega (arith, lt, room, div-add-mod c.args.place 64)) c.index_mut.ensures.value 0))
    ∙ ap (λ (p : Places). with_member nat_lt c.args.place p.members) c.self.view_is

pub returns-else-word-self-clause-members : goal.returns-else-word-self-clause-members
returns-else-word-self-clause-members c =
    let size = ap (λ (p : Places). p.size) c.self.view_is in
    let room = c.self.invariant.room in
    let lt : c.args.place < c.self.inside.size = omega (arith, size) in
    set_puts c.self.inside.words.items _ c.self.inside.size c.args.place lt room
    (ap (λ w. set c.self.inside.words.items (c.args.place / 64) (bit_or w (1 * 2 ^ (c.args.place % 64) % 2 ^ 64)))
    (get_or_read c.self.inside.words.items (c.args.place / 64) c.index_mut.result.now (omega (arith, lt, room, div-add-mod c.args.place 64)) c.index_mut.ensures.value 0))
    ∙ ap (λ (p : Places). with_member nat_lt c.args.place p.members) c.self.view_is

pub returns-then-word-self-clause-few : goal.returns-then-word-self-clause-few
returns-then-word-self-clause-few c =
    let size = ap (λ (p : Places). p.size) c.self.view_is in
    let few = few_members (set c.self.inside.words.items (c.args.place / 64) (bit_or c.index_mut.result.now (1 * 2 ^ (c.args.place % 64) % 2 ^ 64))) c.self.inside.size in
    omega (arith, few, size)

pub returns-else-word-self-clause-few : goal.returns-else-word-self-clause-few
returns-else-word-self-clause-few c =
    let size = ap (λ (p : Places). p.size) c.self.view_is in
    let few = few_members (set c.self.inside.words.items (c.args.place / 64) (bit_or c.index_mut.result.now (1 * 2 ^ (c.args.place % 64) % 2 ^ 64))) c.self.inside.size in
    omega (arith, few, size)
