-- The new hand-up is the last with its name.
use Rattle.std.proofs.Common.{◌∙◌, ap, sym, subst, ◌++◌, ◌∷◌, [], nat_eq, arith}
use Rattle.std.specs.HashMap.{get}
use Rattle.std.proofs.lemmas.Grind.{common_steps}
use Rattle.std.proofs.lemmas.List.{map-append, length-map}
use Rattle.norm_record.specs.HandUps.{kept_name, kept_names}
use Rattle.norm_record.specs.Latest.{FindsLastBy}
use Rattle.norm_record.proofs.ups.Ups.keep.Goals as goal
use Rattle.norm_record.proofs.LatestLemmas.{one_more_name}

pub invariant_of-self-2 : goal.invariant_of-self-2
invariant_of-self-2 c =
    subst (λ names. FindsLastBy names (get nat_eq c.insert-put.new.self))
    (sym (ap kept_names (c.push_reserved.ensures.items ∙ ap (λ kept. kept ++ c.args.hand_up ∷ []) c.reserve.ensures.items)
    ∙ map-append kept_name c.self.inside.kept.items (c.args.hand_up ∷ [])))
    (one_more_name (kept_names c.self.inside.kept.items) (kept_name c.args.hand_up) c.in-Ok.at (get nat_eq c.self.inside.latest)
    (get nat_eq c.insert-put.new.self) c.self.invariant
    (grind (arith, common_steps, length-map)) (grind (arith, common_steps)) (λ q ne. grind (arith, common_steps)))
