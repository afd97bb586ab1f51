use Rattle.std.proofs.Common.{arith, ap, sym, ◌∙◌, List, ◌++◌, ◌∷◌, [], ◌+◌}
use Rattle.std.proofs.lemmas.List.FromFn.{map-range_with_len_more}
use Rattle.short_blocks.specs.declared.links.Link.{Link}
use Rattle.short_blocks.proofs.links.link_all.Goals as goal

pub linked-preserved : goal.linked-preserved
linked-preserved c = record {
  all = c.push_back_reserved.ensures.items
      ∙ ap (λ (links : List Link). links ++ record { done_from = c.linked.block; next = c.linked.block + 1 } ∷ []) c.linked.invariant.all
      ∙ sym (map-range_with_len_more (λ block. let l : Link = record { done_from = block; next = block + 1 } in l) 0 c.linked.block c.linked.block (omega arith));
  count = let len = c.push_back_reserved.ensures.len in let count = c.linked.invariant.count in omega (arith, len, count);
  room = let same = c.push_back_reserved.ensures.capacity in let room = c.linked.invariant.room in omega (arith, same, room);
}
