use Rattle.std.proofs.Common.{◌≡◌, refl, ◌-◌, ◌<◌, arith, length}
use Rattle.tx_object.proofs.ListLemmas.{get_there}
use Rattle.tx_window.proofs.EntryFronts.{last_cut, one_stays, all_itself}
use Rattle.tx_window.proofs.entry.front.cut_last.Goals as goal

pub returns-clause-cut : goal.returns-clause-cut
returns-clause-cut c =
    let old = c.args.held.now.items in
    let e = c.index_mut.result.now in
    let place = c.len-last.result - 1 in
    let within : c.len-last.result - 1 < length old = grind (arith, c.is_empty.ensures, c.if-is_empty.false, c.len-last.ensures) in
    let same : c.len-last.result - 1 ≡ length old - 1 = omega (arith, c.len-last.ensures, c.args.held.now.ok.0) in
    last_cut old place e c.cut.new.self same (get_there old place e within c.index_mut.ensures.value) c.cut.ensures.object c.cut.ensures.first c.cut.ensures.stream

pub returns-clause-stays : goal.returns-clause-stays
returns-clause-stays c =
    let old = c.args.held.now.items in
    let e = c.index_mut.result.now in
    let place = c.len-last.result - 1 in
    let within : c.len-last.result - 1 < length old = grind (arith, c.is_empty.ensures, c.if-is_empty.false, c.len-last.ensures) in
    one_stays old place e c.cut.new.self (get_there old place e within c.index_mut.ensures.value) c.cut.ensures.stays

pub returns-then-is_empty-clause-stays : goal.returns-then-is_empty-clause-stays
returns-then-is_empty-clause-stays c = all_itself c.args.held.now.items c.args.held.now.items refl
