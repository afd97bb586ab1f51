use Rattle.nack_union.specs.CollectionSound.{AreQuiet}
use Rattle.nack_union.proofs.collection.first_wanted.Given as goal

abbrev pub invariant-objects : goal.invariant-objects
invariant-objects l = AreQuiet l.place l.objects
