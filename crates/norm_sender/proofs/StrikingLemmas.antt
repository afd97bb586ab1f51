-- Striking a receiver, over what a sender keeps.
use Rattle.std.proofs.Common.{◌≡◌, ℕ, Option, Some, None, Result, Ok, Err, refl, subst}
use Rattle.norm_base.specs.Settings.{Settings}
use Rattle.norm_send_rules.specs.SenderState.{SenderState}
use Rattle.norm_send_rules.specs.Watermarks.{settled}
use Rattle.norm_send_rules.specs.Striking.{strike_fault, strikes, struck_off, without_node}
use Rattle.norm_send_rules.specs.declared.fault.StrikeFault.{StrikeFault}
use Rattle.norm_send_rules.specs.declared.job.Receipt.{Receipt}
use Rattle.norm_send_rules.specs.declared.job.Receipt.TheVariants.{Struck}
use Rattle.mark_book.specs.BookState.{BookState, Stands as BookStands}
use Rattle.norm_sender.specs.SenderKept.{SenderKept, Agrees}
use Rattle.norm_sender.proofs.FollowingLemmas.{unfollowed_book}

-- a strike by its fault
abbrev struck_where : ℕ → SenderState → Option StrikeFault → SenderState × Result Receipt StrikeFault
struck_where node s found = elim found [ Some fault ↦ (s, Err fault) | None ↦ (struck_off node s, Ok (Struck node)) ]

not_struck : (k : SenderKept) (book : BookState) (node : ℕ) (fault : StrikeFault) (s : SenderState) (found : Option StrikeFault) → Agrees k s
    → BookStands k.p book (struck_where node s found).0 → Err fault ≡ (struck_where node s found).1
    → Agrees (record k { book = book }) (struck_where node s found).0
not_struck k book node fault s (Some f) h listed e = record {
  window_profile = h.window_profile;
  filling = h.filling;
  union_profile = h.union_profile;
  window = h.window;
  union = h.union;
  book = listed;
  pace = h.pace;
}
not_struck k book node fault s None h listed e = absurd (cc)

pub refused_stands : (k : SenderKept) (book : BookState) (node : ℕ) (fault : StrikeFault) (s : SenderState) → Agrees k s
    → BookStands k.p book (strikes s node).0 → Err fault ≡ (strikes s node).1 → Agrees (record k { book = book }) (strikes s node).0
refused_stands k book node fault s h listed e = not_struck k book node fault s (strike_fault s node) h listed e

was_struck : (node : ℕ) (s : SenderState) (found : Option StrikeFault) → Ok (Struck node) ≡ (struck_where node s found).1
    → struck_where node s found ≡ (struck_off node s, Ok (Struck node))
was_struck node s (Some f) e = absurd (cc)
was_struck node s None e = refl

pub done_strikes : (node : ℕ) (s : SenderState) → Ok (Struck node) ≡ (strikes s node).1 → strikes s node ≡ (struck_off node s, Ok (Struck node))
done_strikes node s e = was_struck node s (strike_fault s node) e

pub struck_read : (p : Settings) (book : BookState) (node : ℕ) (s : SenderState) → strikes s node ≡ (struck_off node s, Ok (Struck node))
    → BookStands p book (strikes s node).0 → BookStands p book (settled (without_node node s))
struck_read p book node s e h =
    unfollowed_book p book s (settled (without_node node s))
    (subst (λ (step : SenderState × Result Receipt StrikeFault). BookStands p book step.0) e h)
