-- What an accepted event counts, and what it does in the world.
use Rattle.std.proofs.Common.{◌≡◌, Bool, true, false, refl, ap, ◌∙◌}
use Rattle.std.specs.Prelude.{◌==◌}
use Rattle.norm_journal.specs.declared.event.Event.{Event}
use Rattle.norm_journal.specs.declared.event.Event.TheVariants as event
use Rattle.norm_journal.specs.declared.totals.Totals.{Totals}
use Rattle.norm_journal.specs.Follows.{Follows}
use Rattle.norm_journal.specs.Judged.{Judged}
use Rattle.norm_journal.specs.Takes.{is_receiver}
use Rattle.norm_journal.specs.Totals.{with_gave, with_up, with_news}

-- the counts after an event
abbrev pub counted : Event → Totals → Totals
counted (event.Job by job gave) t = with_gave gave t
counted (event.Up node instance up) t = with_up up t
counted (event.News news) t = with_news news t
counted _ t = t

-- a delivery counts nothing
abbrev one_of : Bool → Bool → Judged → Judged → Judged → Judged
one_of sender receiver j a b = elim sender [ true ↦ a | false ↦ elim receiver [ true ↦ b | false ↦ j ] ]

delivered_counts : (sender receiver : Bool) (j a b : Judged) → a.totals ≡ j.totals → b.totals ≡ j.totals → (one_of sender receiver j a b).totals ≡ j.totals
delivered_counts true receiver j a b e f = e
delivered_counts false true j a b e f = f
delivered_counts false false j a b e f = refl

abbrev totals_of : Judged → Totals
totals_of j = j.totals

pub follows_counts : (j next : Judged) (e : Event) → Follows j e next → next.totals ≡ counted e j.totals
follows_counts j next event.Start f = ap totals_of f.1.then
follows_counts j next (event.Turn turn now) f = ap totals_of f.1.then
follows_counts j next (event.Pull by) f = ap totals_of f.1.then
follows_counts j next (event.Job by job gave) f = ap totals_of f.1.then
follows_counts j next (event.Length by name len fault) f = ap totals_of f.1.then
follows_counts j next (event.Tick node sent) f = ap totals_of f.1.then
follows_counts j next (event.Offer from octets) f = ap totals_of f.1.then
follows_counts j next (event.Took to octets) f =
    ap totals_of f.1.then ∙ delivered_counts (to == j.profile.sender) (is_receiver j to) j _ _ refl refl
follows_counts j next event.Empty f = ap totals_of f.1.then
follows_counts j next (event.Up node instance up) f = ap totals_of f.1.then
follows_counts j next (event.News news) f = ap totals_of f.then
follows_counts j next event.End f = ap totals_of f.1.then
