-- A piece joins the row.
use Rattle.std.proofs.Common.{◌∙◌, ap, ◌++◌, ◌∷◌, [], rules, length, refl}
use Rattle.norm_record.proofs.row.Row.keep.Goals as goal
use Rattle.norm_record.proofs.RowLemmas.{joins}

pub invariant_of-self-2 : goal.invariant_of-self-2
invariant_of-self-2 c = (joins c.self.inside.octets.items c.args.octets.now c.self.inside.pieces.items _ _ c.len.result (length c.args.octets.now) c.self.invariant
    c.in_ok-extend_from_slice.ensures.items (c.push_reserved.ensures.items ∙ ap (λ ps. ps ++ record { from = c.len.result; len = length c.args.octets.now } ∷ []) c.reserve.ensures.items) (search rules) refl).0

pub returns-clause-kept : goal.returns-clause-kept
returns-clause-kept c = (joins c.self.inside.octets.items c.args.octets.now c.self.inside.pieces.items _ _ c.len.result (length c.args.octets.now) c.self.invariant
    c.in_ok-extend_from_slice.ensures.items (c.push_reserved.ensures.items ∙ ap (λ ps. ps ++ record { from = c.len.result; len = length c.args.octets.now } ∷ []) c.reserve.ensures.items) (search rules) refl).1
    ∙ ap (λ ps. ps ++ c.args.octets.now ∷ []) c.self.view_is
