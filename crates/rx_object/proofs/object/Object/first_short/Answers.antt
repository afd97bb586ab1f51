use Rattle.std.proofs.Common.{◌≡◌, subst}
use Rattle.std.specs.Prelude.{slice_get}
use Rattle.rx_object.specs.ObjectState.{ObjectState, short_blocks}
use Rattle.rx_object.proofs.ObjectLemmas.{object_short}
use Rattle.rx_object.proofs.object.Object.first_short.Goals as goal

pub returns : goal.returns
returns c =
    subst (λ (o : ObjectState). c.first.result ≡ slice_get (short_blocks o) 0) c.self.view_is
    (object_short c.self.inside c.first.result c.self.invariant c.first.ensures)
