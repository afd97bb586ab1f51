use Rattle.std.proofs.Common.{◌≡◌, ◌<◌, ◌≤◌, ℕ, length, set, true, ap, sym, subst, ◌∙◌, arith, nat_lt}
use Rattle.std.specs.Prelude.{◌||◌, ◌&&◌, max}
use Rattle.std.proofs.lemmas.List.{get_or_read, length-set}
use Rattle.norm_order.specs.Sets.{is_member}
use Rattle.norm_order.specs.Shapes.{is_full}
use Rattle.nack_union.specs.Repairs.{shape_closed}
use Rattle.nack_union.specs.More.{is_source_slot}
use Rattle.nack_union.specs.Coverage.{Covered, is_in_blocks}
use Rattle.nack_union.proofs.Coverages.{blocks_more, runs_raised, sources_stay}
use Rattle.nack_union.proofs.coverage.Coverage.insert_blocks.Goals as goal

-- the block is one of those that have room
in_room : (first behind : ℕ) (v w : Covered) → v ≡ w → first < behind → behind ≤ w.room → first < v.room
in_room first behind v w same some most = let rooms = ap (λ (x : Covered). x.room) same in omega (arith, some, most, rooms)

pub invariant_of-self : goal.invariant_of-self
invariant_of-self c =
    let within : c.args.first < length c.self.inside.ends.items = in_room c.args.first c.args.behind _ _ c.self.view_is c.requires.some c.requires.within in
    let raised = c.max-end.ensures ∙ ap (λ n. max n c.args.behind) (get_or_read c.self.inside.ends.items c.args.first c.index.result.now within c.index.ensures 0) in
    let many = length-set c.self.inside.ends.items c.args.first c.max-end.result in
    record {
      most = let most = c.self.invariant.most in omega (arith, most, many);
      within = let fits = c.self.invariant.within in omega (arith, fits, many);
      size = let size = c.self.invariant.size in omega (arith, size, many);
      behind = λ block past. c.self.invariant.behind block (omega (arith, past, many));
      until = let until = c.self.invariant.until in omega (arith, until, many);
      whole = c.self.invariant.whole;
      runs = λ block lies.
          runs_raised (shape_closed c.self.inside.plan c.self.inside.closed) c.self.inside.ends.items c.args.first c.args.behind c.max-end.result block within raised
          c.self.invariant.runs (subst (λ (v : Covered). (block : ℕ) → block < c.args.behind → is_full v.shape block ≡ true) (sym c.self.view_is) c.requires.whole) lies;
      complete = λ e.
          sources_stay (shape_closed c.self.inside.plan c.self.inside.closed) _ _ (λ slot. is_source_slot (shape_closed c.self.inside.plan c.self.inside.closed) slot && is_in_blocks c.args.first c.args.behind slot)
          (blocks_more (shape_closed c.self.inside.plan c.self.inside.closed) c.self.inside.ends.items c.self.inside.alone.members _ c.args.first c.args.behind within
          (ap (λ n. set c.self.inside.ends.items c.args.first n) raised)) (c.self.invariant.complete e);
    }

pub returns-clause-members : goal.returns-clause-members
returns-clause-members c = λ slot.
    let within : c.args.first < length c.self.inside.ends.items = in_room c.args.first c.args.behind _ _ c.self.view_is c.requires.some c.requires.within in
    let raised = c.max-end.ensures ∙ ap (λ n. max n c.args.behind) (get_or_read c.self.inside.ends.items c.args.first c.index.result.now within c.index.ensures 0) in
    blocks_more (shape_closed c.self.inside.plan c.self.inside.closed) c.self.inside.ends.items c.self.inside.alone.members _ c.args.first c.args.behind within
    (ap (λ n. set c.self.inside.ends.items c.args.first n) raised)
    slot
    ∙ ap (λ (v : Covered). is_member nat_lt slot v.members || (is_source_slot v.shape slot && is_in_blocks c.args.first c.args.behind slot)) c.self.view_is
