use Rattle.std.proofs.Common.{◌≡◌, ◌+◌, false, subst, sym, ap, arith, set}
use Rattle.std.specs.Vec.{with_item}
use Rattle.norm_receive_rules.specs.Plans.{is_done}
use Rattle.gf_field.proofs.Places.{elements_of_octets}
use Rattle.rx_object.proofs.Cuts.{few_sources}
use Rattle.rx_object.specs.ObjectState.{ObjectState, alone}
use Rattle.rx_object.proofs.ObjectLemmas.{read_at, short_is}
use Rattle.rx_object.proofs.ThenLemmas.{news, free_are, object_then, shorts_then, view_then}
use Rattle.rx_object.proofs.object.Object.put.Goals as goal

pub put-requires-clause-new : goal.put-requires-clause-new
put-requires-clause-new c =
    let n = news c.self.inside c.args.self.now c.args.block c.args.symbol c.args.payload.now c.self.invariant c.self.view_is c.requires.id c.requires.new c.requires.lacks c.requires.fits in n.new

pub put-requires-clause-some : goal.put-requires-clause-some
put-requires-clause-some c =
    let n = news c.self.inside c.args.self.now c.args.block c.args.symbol c.args.payload.now c.self.invariant c.self.view_is c.requires.id c.requires.new c.requires.lacks c.requires.fits in
    let free = n.free in
    let same = free_are c.self.inside c.args.self.now c.args.block c.args.symbol c.args.payload.now c.lacking-lacking.result c.self.invariant c.self.view_is n c.lacking-lacking.ensures in
    omega (arith, free, same)

pub put-requires-clause-lacks : goal.put-requires-clause-lacks
put-requires-clause-lacks c =
    let n = news c.self.inside c.args.self.now c.args.block c.args.symbol c.args.payload.now c.self.invariant c.self.view_is c.requires.id c.requires.new c.requires.lacks c.requires.fits in
    free_are c.self.inside c.args.self.now c.args.block c.args.symbol c.args.payload.now c.lacking-lacking.result c.self.invariant c.self.view_is n c.lacking-lacking.ensures

pub put-requires-clause-apart : goal.put-requires-clause-apart
put-requires-clause-apart c =
    let n = news c.self.inside c.args.self.now c.args.block c.args.symbol c.args.payload.now c.self.invariant c.self.view_is c.requires.id c.requires.new c.requires.lacks c.requires.fits in
    let b = c.self.invariant.each c.args.block n.within in b.apart

pub overflow_add-index_mut : goal.overflow_add-index_mut
overflow_add-index_mut c =
    let n = news c.self.inside c.args.self.now c.args.block c.args.symbol c.args.payload.now c.self.invariant c.self.view_is c.requires.id c.requires.new c.requires.lacks c.requires.fits in
    let within = n.within in
    let less = n.less in
    let counted = c.self.invariant.counted in
    let read = read_at c.self.inside.counts.items c.args.block c.index_mut.result.now (omega (arith, within, counted)) c.index_mut.ensures.value in
    let few = few_sources c.self.inside.rows.plan c.args.block c.self.invariant.rows.sound c.self.invariant.rows.object in
    let most = c.self.invariant.rows.sound.most_b in
    record { fits = omega (arith, read, less, few, most) }

pub note-requires : goal.note-requires
note-requires c =
    let n = news c.self.inside c.args.self.now c.args.block c.args.symbol c.args.payload.now c.self.invariant c.self.view_is c.requires.id c.requires.new c.requires.lacks c.requires.fits in
    record {
      reached = let start = c.self.invariant.shorts.start in omega (arith, start);
      short = short_is c.self.inside c.args.block c.self.invariant n.within
          (subst (λ (o : ObjectState). is_done (alone o) o.plan c.args.block ≡ false) (sym c.self.view_is) c.requires.lacks);
    }

pub invariant_of-self : goal.invariant_of-self
invariant_of-self c =
    let n = news c.self.inside c.args.self.now c.args.block c.args.symbol c.args.payload.now c.self.invariant c.self.view_is c.requires.id c.requires.new c.requires.lacks c.requires.fits in
    let within = n.within in
    let counted = c.self.invariant.counted in
    let read = read_at c.self.inside.counts.items c.args.block c.index_mut.result.now (omega (arith, within, counted)) c.index_mut.ensures.value in
    object_then c.self.inside c.put.new.self _ c.note.new.shorts c.args.block c.args.symbol c.args.payload.now c.self.invariant n
    (elements_of_octets c.args.payload.now (λ i. let byte = c.type_inv.payload i in byte.fits))
    c.put.ensures.plan c.put.ensures.rows c.put.ensures.symbols c.put.ensures.others c.put.ensures.lacks c.put.ensures.apart
    (ap (λ m. set c.self.inside.counts.items c.args.block (m + 1)) read)
    (shorts_then c.self.inside c.args.block c.args.symbol c.args.payload.now _ c.lacking-lacking.result c.note.new.shorts c.self.invariant n
    (free_are c.self.inside c.args.self.now c.args.block c.args.symbol c.args.payload.now c.lacking-lacking.result c.self.invariant c.self.view_is n c.lacking-lacking.ensures)
    (ap (λ m. set c.self.inside.counts.items c.args.block (m + 1)) read) c.note.ensures.last c.note.ensures.more)

pub returns-clause-state : goal.returns-clause-state
returns-clause-state c =
    let n = news c.self.inside c.args.self.now c.args.block c.args.symbol c.args.payload.now c.self.invariant c.self.view_is c.requires.id c.requires.new c.requires.lacks c.requires.fits in
    view_then c.self.inside c.args.self.now c.put.new.self (with_item c.self.inside.counts c.args.block (c.index_mut.result.now + 1)) c.note.new.shorts c.args.block c.args.symbol c.args.payload.now c.self.invariant c.self.view_is n
    c.put.ensures.plan c.put.ensures.symbols
