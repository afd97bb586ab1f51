-- Names that differ and are those of all hand-ups are as many as these have.
use Rattle.std.proofs.Common.{◌∙◌, ap, sym, subst, nat_eq}
use Rattle.std.specs.Set.{distinct_count}
use Rattle.std.specs.Cmp.{nat_eq_equiv}
use Rattle.std.proofs.lemmas.List.{length-map}
use Rattle.std.proofs.lemmas.Map.Made.{length-from_keys}
use Rattle.norm_record.specs.HandUps.{kept_name, kept_names}
use Rattle.norm_record.specs.Once.{UpsAgree, names_in}
use Rattle.norm_record.proofs.journal.Journal.hand_ups.Goals as goal

pub returns : goal.returns
returns c = λ agree.
    c.len.ensures
    ∙ sym (length-map c.self.inside.ups kept_name)
    ∙ length-from_keys nat_eq_equiv (kept_names c.self.inside.ups) _ (c.self.invariant.0.ups.once (subst UpsAgree (sym c.self.view_is) agree)) c.self.invariant.0.ups.named
    ∙ ap (λ events. distinct_count nat_eq (names_in events)) c.self.view_is
