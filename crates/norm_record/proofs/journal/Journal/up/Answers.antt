-- What is kept at a place of the order is the hand-up of that place.
use Rattle.std.proofs.Common.{◌∙◌, ap, sym, subst, All, List}
use Rattle.std.specs.Prelude.{slice_get}
use Rattle.std.specs.Option.{option_map}
use Rattle.std.proofs.lemmas.Option.{slice_get-map}
use Rattle.norm_record.specs.declared.entry.Hand.{Hand}
use Rattle.norm_record.specs.HandedUp.{handed_up, IsAmong, hand_of}
use Rattle.norm_record.proofs.journal.Journal.up.Goals as goal

pub hand_at-requires : goal.hand_at-requires
hand_at-requires c =
    subst (λ (hands : List Hand). All (IsAmong c.self.inside.ups) hands) (sym c.deref.ensures.value) c.self.invariant.1.there

pub returns : goal.returns
returns c =
    c.hand_at.ensures ∙ ap (λ (hands : List Hand). option_map (hand_of c.self.inside.ups) (slice_get hands c.args.i)) c.deref.ensures.value
    ∙ sym (slice_get-map (hand_of c.self.inside.ups) c.self.inside.hands.items c.args.i)
    ∙ ap (λ hands. slice_get hands c.args.i) c.self.invariant.1.are ∙ ap (λ events. slice_get (handed_up events) c.args.i) c.self.view_is
