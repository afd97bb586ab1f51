use Rattle.std.proofs.Common.{◌≡◌, ◌≤◌, ℕ, List, sym, ap, subst, ◌∙◌, length, arith}
use Rattle.std.specs.List.{AllByRecursion}
use Rattle.gf_field.specs.Element.{AreElements}
use Rattle.gf_field.specs.Symbol.{AreIds, AreSymbols}
use Rattle.gf_field.proofs.Places.{elements_of_octets}
use Rattle.norm_order.specs.Sets.{Rises}
use Rattle.rs_block.specs.Solver.{SolverState}
use Rattle.rx_stream.specs.BlockState.{BlockState}
use Rattle.rx_stream.specs.BlockSound.{BlockSound, block_of, settled}
use Rattle.rx_stream.specs.BlockMoves.{MayCome, with_came}
use Rattle.rx_stream.proofs.BlockLemmas.{kept_is, full_ids, full_rows, sound_after, came_after, back_again}
use Rattle.rx_stream.proofs.Masks.{mask_more}
use Rattle.rx_stream.proofs.block.Block.put.Goals as goal

pub settle-requires-clause-some : goal.settle-requires-clause-some
settle-requires-clause-some c = c.self.invariant.sound.some

pub settle-requires-clause-few : goal.settle-requires-clause-few
settle-requires-clause-few c =
    let h =
    kept_is c.self.inside.k c.self.inside.size c.args.id c.in_ok-keep.field-0 c.args.payload.now c.self.inside.ids.items c.keep.new.ids.items c.self.inside.rows.items c.keep.new.rows.items c.in_ok-row.row
    c.self.invariant.sound (subst (λ (b : BlockState). MayCome b c.args.id c.args.payload.now) (sym c.self.view_is) c.requires.comes)
    (elements_of_octets c.args.payload.now (λ i. let byte = c.type_inv.payload i in byte.fits))
    c.in_ok-keep.ensures.place c.in_ok-row.ensures c.in_ok-keep.ensures.ids c.in_ok-keep.ensures.rows in
    subst (λ xs. length xs ≤ c.self.inside.k) (sym c.deref.ensures.value) h.few

pub settle-requires-clause-rising : goal.settle-requires-clause-rising
settle-requires-clause-rising c =
    let h =
    kept_is c.self.inside.k c.self.inside.size c.args.id c.in_ok-keep.field-0 c.args.payload.now c.self.inside.ids.items c.keep.new.ids.items c.self.inside.rows.items c.keep.new.rows.items c.in_ok-row.row
    c.self.invariant.sound (subst (λ (b : BlockState). MayCome b c.args.id c.args.payload.now) (sym c.self.view_is) c.requires.comes)
    (elements_of_octets c.args.payload.now (λ i. let byte = c.type_inv.payload i in byte.fits))
    c.in_ok-keep.ensures.place c.in_ok-row.ensures c.in_ok-keep.ensures.ids c.in_ok-keep.ensures.rows in
    subst Rises (sym c.deref.ensures.value) h.rising

pub settle-requires-clause-ids : goal.settle-requires-clause-ids
settle-requires-clause-ids c =
    let h =
    kept_is c.self.inside.k c.self.inside.size c.args.id c.in_ok-keep.field-0 c.args.payload.now c.self.inside.ids.items c.keep.new.ids.items c.self.inside.rows.items c.keep.new.rows.items c.in_ok-row.row
    c.self.invariant.sound (subst (λ (b : BlockState). MayCome b c.args.id c.args.payload.now) (sym c.self.view_is) c.requires.comes)
    (elements_of_octets c.args.payload.now (λ i. let byte = c.type_inv.payload i in byte.fits))
    c.in_ok-keep.ensures.place c.in_ok-row.ensures c.in_ok-keep.ensures.ids c.in_ok-keep.ensures.rows in
    λ e. subst (AreIds c.self.inside.k 255) (sym c.deref.ensures.value)
    (full_ids c.self.inside.k c.self.inside.size c.args.id c.args.payload.now c.self.inside.ids.items c.keep.new.ids.items c.self.inside.rows.items c.keep.new.rows.items h (sym (ap length c.deref.ensures.value) ∙ e))

pub settle-requires-clause-rows : goal.settle-requires-clause-rows
settle-requires-clause-rows c =
    let h =
    kept_is c.self.inside.k c.self.inside.size c.args.id c.in_ok-keep.field-0 c.args.payload.now c.self.inside.ids.items c.keep.new.ids.items c.self.inside.rows.items c.keep.new.rows.items c.in_ok-row.row
    c.self.invariant.sound (subst (λ (b : BlockState). MayCome b c.args.id c.args.payload.now) (sym c.self.view_is) c.requires.comes)
    (elements_of_octets c.args.payload.now (λ i. let byte = c.type_inv.payload i in byte.fits))
    c.in_ok-keep.ensures.place c.in_ok-row.ensures c.in_ok-keep.ensures.ids c.in_ok-keep.ensures.rows in
    let size : c.args.solver.now.size ≡ c.self.inside.size = ap (λ (s : SolverState). s.size) c.requires.solver ∙ sym (ap (λ (b : BlockState). b.size) c.self.view_is) in
    λ e. subst (λ n. AreSymbols c.self.inside.k n c.deref_mut.result.now) (sym size)
    (subst (λ (xs : List (List ℕ)). AreSymbols c.self.inside.k c.self.inside.size xs) (sym c.deref_mut.ensures.value)
    (full_rows c.self.inside.k c.self.inside.size c.args.id c.args.payload.now c.self.inside.ids.items c.keep.new.ids.items c.self.inside.rows.items c.keep.new.rows.items h (sym (ap length c.deref.ensures.value) ∙ e)))

pub settle-requires-clause-elements : goal.settle-requires-clause-elements
settle-requires-clause-elements c =
    let h =
    kept_is c.self.inside.k c.self.inside.size c.args.id c.in_ok-keep.field-0 c.args.payload.now c.self.inside.ids.items c.keep.new.ids.items c.self.inside.rows.items c.keep.new.rows.items c.in_ok-row.row
    c.self.invariant.sound (subst (λ (b : BlockState). MayCome b c.args.id c.args.payload.now) (sym c.self.view_is) c.requires.comes)
    (elements_of_octets c.args.payload.now (λ i. let byte = c.type_inv.payload i in byte.fits))
    c.in_ok-keep.ensures.place c.in_ok-row.ensures c.in_ok-keep.ensures.ids c.in_ok-keep.ensures.rows in
    subst (λ (xs : List (List ℕ)). AllByRecursion AreElements xs) (sym c.deref_mut.ensures.value) h.octets

pub invariant_of-self-2 : goal.invariant_of-self-2
invariant_of-self-2 c =
    let h =
    kept_is c.self.inside.k c.self.inside.size c.args.id c.in_ok-keep.field-0 c.args.payload.now c.self.inside.ids.items c.keep.new.ids.items c.self.inside.rows.items c.keep.new.rows.items c.in_ok-row.row
    c.self.invariant.sound (subst (λ (b : BlockState). MayCome b c.args.id c.args.payload.now) (sym c.self.view_is) c.requires.comes)
    (elements_of_octets c.args.payload.now (λ i. let byte = c.type_inv.payload i in byte.fits))
    c.in_ok-keep.ensures.place c.in_ok-row.ensures c.in_ok-keep.ensures.ids c.in_ok-keep.ensures.rows in
    let size : c.args.solver.now.size ≡ c.self.inside.size = ap (λ (s : SolverState). s.size) c.requires.solver ∙ sym (ap (λ (b : BlockState). b.size) c.self.view_is) in
    let is : c.settle.new.rows ≡ settled c.self.inside.k c.self.inside.size c.keep.new.ids.items c.keep.new.rows.items =
    c.settle.ensures.rows
    ∙ ap (λ n. settled c.self.inside.k n c.deref.result.now c.deref_mut.result.now) size
    ∙ ap (λ xs. settled c.self.inside.k c.self.inside.size xs c.deref_mut.result.now) c.deref.ensures.value
    ∙ ap (λ (xs : List (List ℕ)). settled c.self.inside.k c.self.inside.size c.keep.new.ids.items xs) c.deref_mut.ensures.value in
    let long : length c.settle.new.rows ≡ c.keep.new.rows.len =
    omega (arith, c.settle.auto.rows, ap (λ (xs : List (List ℕ)). length xs) c.deref_mut.ensures.value, c.keep.new.rows.ok) in
    record {
      sound = subst (λ (xs : List (List ℕ)). BlockSound c.self.inside.k c.self.inside.size c.keep.new.ids.items xs) (sym (back_again c.keep.new.rows.len c.settle.new.rows c.keep.new.rows.items long))
          (sound_after c.self.inside.k c.self.inside.size c.args.id c.args.payload.now c.self.inside.ids.items c.keep.new.ids.items c.self.inside.rows.items c.keep.new.rows.items c.settle.new.rows
          c.self.invariant.sound h is c.settle.ensures.elements);
      mask = mask_more c.self.inside.mask c.keep.new.mask c.self.inside.ids.items c.keep.new.ids.items c.in_ok-keep.field-0 c.args.id c.self.invariant.mask
          c.in_ok-keep.ensures.mask c.in_ok-keep.ensures.ids;
    }

pub returns-clause-kept : goal.returns-clause-kept
returns-clause-kept c =
    let h =
    kept_is c.self.inside.k c.self.inside.size c.args.id c.in_ok-keep.field-0 c.args.payload.now c.self.inside.ids.items c.keep.new.ids.items c.self.inside.rows.items c.keep.new.rows.items c.in_ok-row.row
    c.self.invariant.sound (subst (λ (b : BlockState). MayCome b c.args.id c.args.payload.now) (sym c.self.view_is) c.requires.comes)
    (elements_of_octets c.args.payload.now (λ i. let byte = c.type_inv.payload i in byte.fits))
    c.in_ok-keep.ensures.place c.in_ok-row.ensures c.in_ok-keep.ensures.ids c.in_ok-keep.ensures.rows in
    let size : c.args.solver.now.size ≡ c.self.inside.size = ap (λ (s : SolverState). s.size) c.requires.solver ∙ sym (ap (λ (b : BlockState). b.size) c.self.view_is) in
    let is : c.settle.new.rows ≡ settled c.self.inside.k c.self.inside.size c.keep.new.ids.items c.keep.new.rows.items =
    c.settle.ensures.rows
    ∙ ap (λ n. settled c.self.inside.k n c.deref.result.now c.deref_mut.result.now) size
    ∙ ap (λ xs. settled c.self.inside.k c.self.inside.size xs c.deref_mut.result.now) c.deref.ensures.value
    ∙ ap (λ (xs : List (List ℕ)). settled c.self.inside.k c.self.inside.size c.keep.new.ids.items xs) c.deref_mut.ensures.value in
    let long : length c.settle.new.rows ≡ c.keep.new.rows.len =
    omega (arith, c.settle.auto.rows, ap (λ (xs : List (List ℕ)). length xs) c.deref_mut.ensures.value, c.keep.new.rows.ok) in
    ap (λ (xs : List (List ℕ)). block_of c.self.inside.k c.self.inside.size c.keep.new.ids.items xs) (back_again c.keep.new.rows.len c.settle.new.rows c.keep.new.rows.items long)
    ∙ came_after c.self.inside.k c.self.inside.size c.args.id c.args.payload.now c.self.inside.ids.items c.keep.new.ids.items c.self.inside.rows.items c.keep.new.rows.items c.settle.new.rows
    c.self.invariant.sound h is c.settle.ensures.elements
    ∙ ap (with_came c.args.id c.args.payload.now) c.self.view_is
