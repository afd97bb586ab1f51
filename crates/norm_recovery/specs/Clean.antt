-- What a member that backs off heard others ask for, the open round asks for (RFC 5740 sections 5.3 and 5.4).
use Rattle.std.specs.Prelude.{◌≡◌, ◌⊎◌, ◌&&◌, ◌||◌, ℕ, List, not, nat_lt, Bool, true, None, Some}
use Rattle.std.specs.List.{list_all}
use Rattle.norm_base.specs.Settings.{Settings, InRange}
use Rattle.fec_plan.specs.Points.{point_of}
use Rattle.norm_receive_rules.specs.Heard.{Heard}
use Rattle.norm_receive_rules.specs.HeardNeeds.{is_asked, asks_as_many, info_heard}
use Rattle.norm_receive_rules.specs.Leaving.{is_in}
use Rattle.norm_receive_rules.specs.ReceiverState.{ReceiverState}
use Rattle.norm_send_rules.specs.InWindow.{current_shapes}
use Rattle.norm_send_rules.specs.SenderState.{SenderState}
use Rattle.norm_send_rules.specs.Ticking.{closed_where_due}
use Rattle.norm_send_rules.specs.Watermarks.{has_member}
use Rattle.norm_send_rules.specs.declared.want.Want.{Want}
use Rattle.norm_send_rules.specs.declared.want.Want.TheVariants.{Info, Symbol}
use Rattle.norm_safety.specs.Events.{Event}
use Rattle.norm_safety.specs.Tail.{course_from, tail_turn}
use Rattle.norm_safety.specs.World.{World, receiver_at}
use Rattle.norm_safety.specs.WorldStep.{run}
use Rattle.norm_recovery.specs.Asking.{have_wanted}
use Rattle.norm_recovery.specs.Left.{has, in_window, left}
use Rattle.norm_recovery.specs.RoundAsks.{asks_open, is_info_or_source}
use Rattle.norm_recovery.specs.RunsOut.{ClosesNone}
use Rattle.norm_recovery.specs.TailLawful.{MayGoOn}

-- what was heard asks for an info or a symbol: it names it, or counts its block by more than 0
abbrev pub heard_asks : Heard → Want → Bool
heard_asks heard (Info index) = info_heard heard index
heard_asks heard (Symbol at) = is_asked heard.symbols at || asks_as_many heard.counts (point_of at) 1

-- an info or a closed source symbol that a receiver lacks, and that it heard asked for
abbrev pub hears_of : Settings → SenderState → ReceiverState → Want → Bool
hears_of p s r y = is_info_or_source (current_shapes p s) y && not (has p s r y) && heard_asks r.knows.heard y

-- A receiver is clean: it is in the current instance, and whatever of the window it lacks and heard asked for, the open round asks for.
abbrev pub is_clean : Settings → SenderState → ReceiverState → Bool
is_clean p s r = is_in r s.current.id && list_all (λ y. not (hears_of p s r y) || asks_open p s y) (in_window p s)

-- it does not back off, or its back-off ends before a moment, or it is clean
abbrev pub is_clean_from : ℕ → Settings → SenderState → ReceiverState → Bool
is_clean_from late p s r = elim r.knows.backoff [ Some ends ↦ nat_lt ends late || is_clean p s r | None ↦ true ]

-- A tick closes no round, or one in vain: every member has everything that is wanted, and no less is left.
abbrev pub ClosesInVain : Settings → ℕ → World → Type 0
ClosesInVain p now w =
    ClosesNone p now w.sender ⊎ ((have_wanted p w ≡ true) × (left p (record w { sender = closed_where_due p now w.sender }) ≡ left p w))

-- After a run that may go on comes a turn that closes no round, or one in vain, whatever the draws. If a member did not back off, or its back-off ends
-- before a moment, or it was clean, so it is after the turn.
abbrev pub CleanStays : Type 0
CleanStays = (p : Settings) → InRange p → (events : List Event) → MayGoOn p events → (draws : ℕ → ℕ) (now late : ℕ)
    → ClosesInVain p now (run p events) → (node : ℕ) → has_member node (run p events).sender ≡ true → (r t : ReceiverState)
    → receiver_at (run p events) node ≡ Some r → is_clean_from late p (run p events).sender r ≡ true
    → receiver_at (tail_turn p draws now (course_from (run p events))).world node ≡ Some t
    → is_clean_from late p (tail_turn p draws now (course_from (run p events))).world.sender t ≡ true
