-- The new offer is the last with its name.
use Rattle.std.proofs.Common.{◌∙◌, ap, sym, subst, ◌∷◌, [], nat_eq, arith}
use Rattle.std.proofs.lemmas.Grind.{common_steps}
use Rattle.std.specs.Prelude.{map}
use Rattle.std.specs.HashMap.{get}
use Rattle.std.proofs.lemmas.List.{map-append, length-map}
use Rattle.norm_record.specs.Names.{name_of}
use Rattle.norm_record.specs.Latest.{FindsLastBy}
use Rattle.norm_record.proofs.offers.Offers.keep.Goals as goal
use Rattle.norm_record.proofs.LatestLemmas.{one_more_name}

pub invariant_of-self-2 : goal.invariant_of-self-2
invariant_of-self-2 c =
    subst (λ names. FindsLastBy names (get nat_eq c.insert-put.new.self))
    (sym (ap (map name_of) c.in_ok-keep.ensures.kept ∙ map-append name_of c.self.inside.row (c.args.octets.now ∷ [])))
    (one_more_name (map name_of c.self.inside.row) (name_of c.args.octets.now) c.in-Ok.at (get nat_eq c.self.inside.latest)
    (get nat_eq c.insert-put.new.self) c.self.invariant
    (grind (arith, common_steps, length-map)) (grind (arith, common_steps)) (λ q ne. grind (arith, common_steps)))
