use Rattle.std.proofs.Common.{◌≡◌, refl, ◌-◌, ◌<◌, [], ◌∷◌, arith, length}
use Rattle.norm_order.specs.Entries.{Write}
use Rattle.norm_order.specs.Segments.{written}
use Rattle.tx_object.proofs.ListLemmas.{get_there}
use Rattle.tx_window.proofs.EntryFronts.{last_goes, one_stays, all_itself}
use Rattle.tx_window.proofs.entry.front.write_last.Goals as goal

pub returns-clause-goes : goal.returns-clause-goes
returns-clause-goes c = λ ring s entries by are past.
    let p = c.args.profile.now in
    let old = c.args.held.now.items in
    let e = c.index_mut.result.now in
    let place = c.len-last.result - 1 in
    let within : c.len-last.result - 1 < length old = grind (arith, c.is_empty.ensures, c.if-is_empty.false, c.len-last.ensures) in
    let same : c.len-last.result - 1 ≡ length old - 1 = omega (arith, c.len-last.ensures, c.args.held.now.ok.0) in
    let found = get_there old place e within c.index_mut.ensures.value in
    last_goes ring p c.args.first entries s (Write by c.args.bytes.now ∷ []) (λ parts. length (written parts)) old place e c.write.new.self c.may_all_go-before.result c.write.result
    same found (c.may_all_go-before.ensures ring s entries are past)
    (λ entry there. c.write.ensures.answer ring entry.object s by (are.each place entry e there found) past)

pub returns-clause-stays : goal.returns-clause-stays
returns-clause-stays c =
    let old = c.args.held.now.items in
    let e = c.index_mut.result.now in
    let place = c.len-last.result - 1 in
    let within : c.len-last.result - 1 < length old = grind (arith, c.is_empty.ensures, c.if-is_empty.false, c.len-last.ensures) in
    one_stays old place e c.write.new.self (get_there old place e within c.index_mut.ensures.value) c.write.ensures.stays

pub returns-then-is_empty-clause-stays : goal.returns-then-is_empty-clause-stays
returns-then-is_empty-clause-stays c = all_itself c.args.held.now.items c.args.held.now.items refl
