use Rattle.std.proofs.Common.{◌≡◌, ◌<◌, ◌++◌, ℕ, List, [], arith, drop, get_or, length, set, subst, sym, take, ap, ◌∙◌}
use Rattle.std.specs.Prelude.{nat_lt}
use Rattle.std.proofs.lemmas.List.{get_or_default, length-set}
use Rattle.fec_plan.specs.Partition.{blocks}
use Rattle.norm_order.specs.Sets.{with_member}
use Rattle.norm_order.specs.Symbols.{padded}
use Rattle.rx_object.specs.Places.{AreApart, IsMaskOf}
use Rattle.rx_object.specs.Rows.{block_ids}
use Rattle.rx_object.proofs.MaskLemmas.{masks_then}
use Rattle.rx_object.proofs.RowLemmas.{kept_back, symbols_back}
use Rattle.rx_object.proofs.rows.Rows.put.Goals as goal

pub returns-clause-apart : goal.returns-clause-apart
returns-clause-apart c =
    subst (λ xs. AreApart (block_ids c.args.self.now.plan xs c.args.block)) (sym (kept_back c.args.self.now.ids.len c.put_at.new.ids c.args.self.now.ids.items (c.put_at.auto.ids ∙ ap length c.deref_mut.ensures.value) c.args.self.now.ids.ok.0))
    c.put_at.ensures.apart

pub returns-clause-symbols : goal.returns-clause-symbols
returns-clause-symbols c =
    symbols_back c.args.self.now.plan c.args.self.now.ids.len c.args.self.now.octets.len c.args.block c.args.symbol (padded c.args.self.now.plan.e c.args.payload.now)
    c.put_at.new.ids c.args.self.now.ids.items c.deref_mut.result.now c.put_at.new.octets c.args.self.now.octets.items c.deref_mut-2.result.now
    c.put_at.auto.ids c.deref_mut.ensures.value c.args.self.now.ids.ok.0 c.put_at.auto.octets c.deref_mut-2.ensures.value c.args.self.now.octets.ok.0
    c.put_at.ensures.symbols

pub returns-clause-rows : goal.returns-clause-rows
returns-clause-rows c =
    let rows = c.requires.rows in
    let masks = c.args.self.now.masks.items in
    let there : c.args.block < length masks = omega (arith, rows.masks, c.requires.block) in
    let ids_long : length c.put_at.new.ids ≡ length c.args.self.now.ids.items = c.put_at.auto.ids ∙ ap length c.deref_mut.ensures.value in
    let octets_long : length c.put_at.new.octets ≡ length c.args.self.now.octets.items = c.put_at.auto.octets ∙ ap length c.deref_mut-2.ensures.value in
    let read = c.index_mut.ensures.value ∙ get_or_default masks c.args.block c.index_mut.result.now [] there in
    record {
      sound = rows.sound;
      object = rows.object;
      most = rows.most;
      octets = ap length (kept_back c.args.self.now.octets.len c.put_at.new.octets c.args.self.now.octets.items octets_long c.args.self.now.octets.ok.0) ∙ octets_long ∙ rows.octets;
      ids = ap length (kept_back c.args.self.now.ids.len c.put_at.new.ids c.args.self.now.ids.items ids_long c.args.self.now.ids.ok.0) ∙ ids_long ∙ rows.ids;
      masks = length-set masks c.args.block c.insert.new.self ∙ rows.masks;
      came =
          subst (λ (v : List ℕ). (b : ℕ) → b < blocks c.args.self.now.plan → IsMaskOf (get_or (set masks c.args.block v) b [])
          (block_ids c.args.self.now.plan (take c.args.self.now.ids.len (c.put_at.new.ids ++ drop (length c.put_at.new.ids) c.args.self.now.ids.items)) b))
          (sym (c.insert.ensures ∙ ap (λ (m : List ℕ). with_member nat_lt c.args.symbol m) read))
          (masks_then c.args.self.now.plan c.args.block c.args.symbol (padded c.args.self.now.plan.e c.args.payload.now) c.args.self.now.ids.items c.args.self.now.octets.items
          (take c.args.self.now.ids.len (c.put_at.new.ids ++ drop (length c.put_at.new.ids) c.args.self.now.ids.items))
          (take c.args.self.now.octets.len (c.put_at.new.octets ++ drop (length c.put_at.new.octets) c.args.self.now.octets.items))
          masks there c.requires.block
          (returns-clause-symbols c)
          rows.came);
    }
