use Rattle.std.proofs.Common.{◌≡◌, sym, subst, length}
use Rattle.std.proofs.Common.{List, eq-eqb, true}
use Rattle.std.specs.Prelude.{◌==◌}
use Rattle.norm_ext.specs.Requests.{Request}
use Rattle.nack_union.specs.UnionState.{Stands as UnionStands}
use Rattle.norm_send_rules.specs.Hearing.{joined_round}
use Rattle.norm_sender.specs.declared.parts.Parts.{Parts}
use Rattle.norm_sender.specs.Inside.{kept_of}
use Rattle.norm_sender.specs.SenderKept.{Agrees}
use Rattle.norm_sender.proofs.HearingLemmas.{joined_stands}
use Rattle.norm_sender.proofs.parts.Parts.join_round.Goals as goal

pub returns-clause-stands : goal.returns-clause-stands
returns-clause-stands c s h =
    let k = kept_of c.args.self.now in
    let requests = c.args.requests.now in
    let added = c.add.ensures.stands s c.args.now h.union in
    subst (λ (q : Parts). Agrees (kept_of q) (joined_round k.p s c.args.now requests)) (sym c.open_round.ensures)
    (joined_stands k c.add.new.self requests c.args.now s h (λ e. let none : (length requests == 0) ≡ true = eq-eqb (length requests) 0 e in absurd (cc (c.is_empty.ensures, c.if-is_empty.false)))
    c.add.ensures.profile (subst (λ (q : List Request). UnionStands c.add.new.self (joined_round k.union.p s c.args.now q)) c.iter.ensures added))
