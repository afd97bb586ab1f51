use Rattle.std.proofs.Common.{◌+◌, ◌*◌, length, sym, ap, ◌∙◌, nat_lt}
use Rattle.std.proofs.lemmas.List.{length-map}
use Rattle.nack_union.specs.Kept.{Marked}
use Rattle.nack_union.proofs.marks.Marks.is_wanted.Goals as goal

pub returns : goal.returns
returns c =
    ap (nat_lt 0) (c.self.invariant.wanted ∙ sym (length-map c.self.inside.wants.members (λ slot. 256 * c.self.inside.first + slot)))
    ∙ ap (λ (m : Marked). nat_lt 0 (length m.wants)) c.self.view_is
