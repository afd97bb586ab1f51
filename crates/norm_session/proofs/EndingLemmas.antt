-- The summary of a run.
use Rattle.std.proofs.Common.{◌≡◌, List, [], ◌∷◌, Option, Some, None, true, refl, subst}
use Rattle.norm_base.specs.Network.{Network}
use Rattle.norm_base.specs.Told.{Pieces, gained}
use Rattle.norm_journal.specs.Follows.{SummaryMade}
use Rattle.norm_journal.specs.Accepting.{accepts}
use Rattle.norm_journal.specs.Judged.{is_done, news_due}
use Rattle.norm_journal.specs.Lines.{end_line}
use Rattle.norm_journal.specs.Places.{Between, Over}
use Rattle.norm_journal.specs.declared.event.Event.{Event}
use Rattle.norm_journal.specs.declared.event.Event.TheVariants as event
use Rattle.norm_journal.proofs.FollowLemmas.{judges_what_follows}
use Rattle.norm_session.specs.Context.{Context, judged_of}
use Rattle.norm_session.specs.Noting.{noted}
use Rattle.norm_session.specs.RunKept.{RunKept}
use Rattle.norm_session.specs.SoFar.{At}
use Rattle.norm_turns.specs.Printing.{IsUnwritten}
use Rattle.norm_session.specs.Stopping.{Stopped}
use Rattle.norm_turns.specs.declared.fault.SessionFault.{SessionFault}
use Rattle.norm_safety.specs.World.{World}
use Rattle.norm_session.proofs.SoFarLemmas.{more, untold, line_stops}
use Rattle.norm_session.proofs.TakingLemmas.{keeping}

end_accepted : (x : Context) (k : RunKept) (w : World) → news_due (judged_of x k w Between) ≡ None → is_done (judged_of x k w Between) ≡ true
    → accepts (judged_of x k w Between) event.End ≡ Some (judged_of x k w Over)
end_accepted x k w quiet done =
    let follows : SummaryMade (judged_of x k w Between) (judged_of x k w Over) = record { place = refl; done = done; then = refl } in
    (judges_what_follows (judged_of x k w Between) (judged_of x k w Over) event.End).1 (quiet, follows)

ended : (x : Context) (k : RunKept) (journal : Option (List Event)) (network : Network) (unwritten written : Pieces) (here : At x k Between network unwritten)
    → is_done (judged_of x k here.world Between) ≡ true → journal ≡ noted k.journal event.End → written ≡ gained unwritten (end_line k.totals ∷ [])
    → At x (keeping k journal) Over network written
ended x k journal network unwritten written here done joined out =
    let s = here.so_far in
    let w = here.world in
    let e : Event = event.End in
    let new = keeping k journal in
    record {
      world = w;
      so_far = more x k new e w w Between Over network network unwritten written s
          (record {
            profile = refl;
            alone = refl;
            nodes = refl;
            journal = joined;
            stands = s.stands;
            accepted = end_accepted x k w here.quiet done;
          })
          (untold network e refl refl) out tt refl refl tt;
      quiet = here.quiet;
    }

-- by what the run is seen as, and what was written of the line
pub ends : (x : Context) (k v : RunKept) (journal : Option (List Event)) (network : Network) (unwritten written : Pieces) → k ≡ v
    → journal ≡ noted k.journal event.End → written ≡ gained unwritten (end_line k.totals ∷ [])
    → (here : At x v Between network unwritten) → is_done (judged_of x v here.world Between) ≡ true → At x (keeping k journal) Over network written
ends x k v journal network unwritten written is joined out =
    subst (λ (u : RunKept). (here : At x u Between network unwritten) → is_done (judged_of x u here.world Between) ≡ true → At x (keeping k journal) Over network written) is
    (λ here done. ended x k journal network unwritten written here done joined out)

pub end_stops : (x : Context) (failed : SessionFault) (k v : RunKept) (network : Network) (unwritten written : Pieces) → k ≡ v
    → IsUnwritten failed unwritten written (Some (end_line k.totals)) → (here : At x v Between network unwritten)
    → is_done (judged_of x v here.world Between) ≡ true → Stopped x failed network written
end_stops x failed k v network unwritten written is un =
    subst (λ (u : RunKept). (here : At x u Between network unwritten) → is_done (judged_of x u here.world Between) ≡ true → Stopped x failed network written) is
    (λ here done.
    line_stops x failed here.so_far.journal event.End (judged_of x k here.world Between) (judged_of x (keeping k (noted k.journal event.End)) here.world Over) network
    unwritten written here.so_far.leads (end_accepted x k here.world here.quiet done) refl refl refl refl tt tt un)
