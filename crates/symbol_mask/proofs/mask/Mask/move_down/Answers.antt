use Rattle.std.proofs.Common.{◌≡◌, ◌+◌, ◌*◌, ℕ, List, get_or, length, ap, ◌∙◌, arith, nat_lt}
use Rattle.std.specs.Vec.{with_items}
use Rattle.std.proofs.lemmas.List.{with_items_is}
use Rattle.norm_order.specs.Sets.{is_member}
use Rattle.symbol_mask.specs.Places.{Places}
use Rattle.symbol_mask.proofs.Moved.{rest_moved, front_moved, members_moved}
use Rattle.symbol_mask.proofs.mask.Mask.move_down.Goals as goal

-- the words as they are written back
abbrev items : (c : goal.After-self-2-1) → List ℕ
items c = (with_items c.self.inside.words c.move_words.new.words).items

now : (c : goal.After-self-2-1) → items c ≡ c.move_words.new.words
now c = with_items_is c.self.inside.words c.move_words.new.words (c.move_words.auto.words ∙ c.deref_mut.ensures.len)

moved : (c : goal.After-self-2-1) → (k : ℕ) → get_or (items c) k 0 ≡ get_or c.self.inside.words.items (k + c.args.count) 0
moved c k =
    ap (λ (ws : List ℕ). get_or ws k 0) (now c) ∙ c.move_words.ensures k
    ∙ ap (λ (ws : List ℕ). get_or ws (k + c.args.count) 0) c.deref_mut.ensures.value

same_length : (c : goal.After-self-2-1) → length (items c) ≡ length c.self.inside.words.items
same_length c = ap length (now c) ∙ c.move_words.auto.words ∙ ap length c.deref_mut.ensures.value

pub invariant_of-self : goal.invariant_of-self
invariant_of-self c =
    let same = same_length c in
    let low = c.saturating_sub-self-inside.ensures in
    record {
      small = let small = c.self.invariant.small in omega (arith, small, same);
      within = let within = c.self.invariant.within in omega (arith, within, same, low);
      empty = front_moved c.self.inside.words.items (items c) c.args.count c.self.inside.lowest _ low (moved c) c.self.invariant.empty;
      room = let room = c.self.invariant.room in omega (arith, room, same);
      rest = rest_moved c.self.inside.words.items (items c) c.args.count c.self.inside.size (moved c) c.self.invariant.rest;
    }

pub returns-clause-members : goal.returns-clause-members
returns-clause-members c = λ place.
    members_moved c.self.inside.words.items (items c) c.args.count c.self.inside.size (moved c) c.self.invariant.rest place
    ∙ ap (λ (p : Places). is_member nat_lt (place + 64 * c.args.count) p.members) c.self.view_is
