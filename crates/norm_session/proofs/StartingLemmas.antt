-- The beginning of a run.
use Rattle.std.proofs.Common.{◌≡◌, ℕ, List, [], ◌∷◌, Bool, Option, None, refl, sym, ap, ◌∙◌, subst, inl, inr}
use Rattle.std.specs.Prelude.{◌⊎◌, Result, Ok, Err, OnOk, OnErr, IfOk, IfErr}
use Rattle.std.specs.Result.{result_and}
use Rattle.rand_pcg.specs.Lcg.{Lcg}
use Rattle.norm_base.specs.Network.{Network}
use Rattle.norm_base.specs.Settings.{Settings}
use Rattle.norm_base.specs.Told.{gained}
use Rattle.norm_base.specs.declared.fault.FabricFault.{FabricFault}
use Rattle.norm_base.specs.declared.fault.FabricFault.TheVariants as network_fault
use Rattle.norm_script.specs.Commands.{Commands}
use Rattle.norm_script.specs.declared.script.Line.{Line}
use Rattle.norm_safety.specs.World.{world_opening}
use Rattle.norm_journal.specs.Accepting.{judged_from}
use Rattle.norm_journal.specs.Draws.{first_draws}
use Rattle.norm_journal.specs.Follows.{NetworkStarts}
use Rattle.norm_journal.specs.Places.{Between}
use Rattle.norm_journal.specs.Printed.{lines_from}
use Rattle.norm_journal.specs.Projections.{network_after}
use Rattle.norm_journal.specs.Totals.{nothing_counted}
use Rattle.norm_journal.specs.declared.event.Event.{Event}
use Rattle.norm_journal.specs.declared.event.Event.TheVariants as event
use Rattle.norm_journal.specs.declared.totals.Totals.{Totals}
use Rattle.norm_journal.proofs.FollowLemmas.{judges_what_follows}
use Rattle.norm_world.specs.WorldKept.{WorldKept, StandsFor}
use Rattle.norm_turns.specs.Causes.{session_fault, NetworkCause}
use Rattle.norm_session.specs.Context.{Context, opening, judged_of}
use Rattle.norm_session.specs.Left.{lines_at}
use Rattle.norm_session.specs.Noting.{kept_of}
use Rattle.norm_session.specs.RunKept.{RunKept, nodes_in}
use Rattle.norm_session.specs.SoFar.{AreTakenFrom, Leads, At}
use Rattle.norm_session.specs.Starting.{IsBegun}
use Rattle.norm_turns.specs.declared.fault.SessionFault.{SessionFault}
use Rattle.norm_turns.specs.declared.fault.SessionFault.TheVariants as fault
use Rattle.norm_session.proofs.SoFarLemmas.{gained-nil, posting-nil, tells, untold, leads_on}

-- nothing happened yet
nothing_told : (n : Network) → n ≡ network_after n []
nothing_told n = ap (λ o. tells n o n.answers) (sym (gained-nil n.offered)) ∙ ap (λ a. tells n (gained n.offered []) a) (sym (gained-nil n.answers))

pub unbegun : (x : Context) (script : Commands) (alone : Bool) (network : Network) → IsBegun x script alone network → Leads x [] (opening x) network x.written
unfolding judged_from lines_from AreTakenFrom
unbegun x script alone network b = record {
  judged = refl;
  told = sym b.network ∙ nothing_told x.network;
  lines = sym (gained-nil x.written);
  taken = tt;
  moments = sym b.moments;
  board = b.board ∙ sym (posting-nil x.board);
  octets = tt;
}

-- a run as it begins
abbrev pub begun_with : Bool → Settings → WorldKept → Option (List Event) → Totals → Lcg → List ℕ → RunKept
begun_with alone p world journal totals draws left = record {
  p = p;
  alone = alone;
  world = world;
  journal = journal;
  totals = totals;
  draws = draws;
  turn = 0;
  now = 0;
  left = left;
  waiting = None;
}

begins : (x : Context) (script : Commands) (alone : Bool) (network : Network) (world : WorldKept) (left : List ℕ) → lines_at x.script.lines left ≡ x.script.lines → IsBegun x script alone network
    → world.p ≡ x.script.profile → StandsFor world (world_opening x.script.profile)
    → At x (begun_with alone x.script.profile world (kept_of alone (event.Start ∷ [])) nothing_counted (first_draws x.script.profile) left) Between network x.written
begins x script alone network world left all b same stands =
    let k = begun_with alone x.script.profile world (kept_of alone (event.Start ∷ [])) nothing_counted (first_draws x.script.profile) left in
    let w = world_opening x.script.profile in
    let follows : NetworkStarts (opening x) (judged_of x k w Between) = record { place = refl; then = ap (λ (ls : List Line). record (judged_of x k w Between) { left = ls }) all } in
    record {
      world = w;
      so_far = record {
        all = record {
          script = refl;
          world = same;
          alone = sym b.is_alone;
          receivers = subst (λ (s : Commands). x.nodes ≡ nodes_in alone s.profile) (sym b.script) b.nodes;
        };
        stands = stands;
        journal = event.Start ∷ [];
        kept = refl;
        leads = leads_on x [] event.Start (opening x) (judged_of x k w Between) network network x.written x.written (unbegun x script alone network b)
            ((judges_what_follows (opening x) (judged_of x k w Between) event.Start).1 (refl, follows)) (untold network event.Start refl refl)
            (sym (gained-nil x.written)) tt refl refl tt;
      };
      quiet = refl;
    }

-- by what it keeps
pub run_begins : (x : Context) (script : Commands) (alone : Bool) (network : Network) (p : Settings) (world : WorldKept) (journal : Option (List Event)) (totals : Totals) (draws : Lcg)
    (left : List ℕ) → lines_at script.lines left ≡ script.lines → p ≡ script.profile → world.p ≡ p → StandsFor world (world_opening p) → journal ≡ kept_of alone (event.Start ∷ [])
    → totals ≡ nothing_counted → draws ≡ first_draws p → IsBegun x script alone network → At x (begun_with alone p world journal totals draws left) Between network x.written
run_begins x script alone network p world journal totals draws left all p_is same stands journal_is totals_is draws_is b =
    let own : p ≡ x.script.profile = p_is ∙ ap (λ (s : Commands). s.profile) (sym b.script) in
    let here = begins x script alone network world left (subst (λ (s : Commands). lines_at s.lines left ≡ s.lines) (sym b.script) all) b (same ∙ own)
    (subst (λ (q : Settings). StandsFor world (world_opening q)) own stands) in
    subst (λ js. At x (begun_with alone p world js totals draws left) Between network x.written) (sym journal_is)
    (subst (λ (t : Totals). At x (begun_with alone p world (kept_of alone (event.Start ∷ [])) t draws left) Between network x.written) (sym totals_is)
    (subst (λ (d : Lcg). At x (begun_with alone p world (kept_of alone (event.Start ∷ [])) nothing_counted d left) Between network x.written) (sym draws_is)
    (subst (λ (q : Settings). At x (begun_with alone q world (kept_of alone (event.Start ∷ [])) nothing_counted (first_draws q) left) Between network x.written) (sym own) here)))

-- why the network was not started
pub start_fault : (failed : FabricFault) → (session_fault failed ≡ fault.Memory) ⊎ (session_fault failed ≡ fault.Fabric)
start_fault network_fault.Failed = inr refl
start_fault network_fault.Memory = inl refl

-- A run that was begun is answered where the network was started, and else why it was not: what is said of the start is said of the answer.
pub ok_and : {X : Type 0} (A : Type 0) (started : Result (Unit {0}) SessionFault) (x : X) (result : Result X SessionFault) → result ≡ result_and started (Ok x)
    → OnOk started A → OnOk result A
ok_and {X} A (Ok u) x result is h = subst (λ (r : Result X SessionFault). OnOk r A) (sym is) h
ok_and {X} A (Err e) x result is h = subst (λ (r : Result X SessionFault). OnOk r A) (sym is) h

pub err_and : {X : Type 0} (A : Type 0) (started : Result (Unit {0}) SessionFault) (x : X) (result : Result X SessionFault) → result ≡ result_and started (Ok x)
    → OnErr started A → OnErr result A
err_and {X} A (Ok u) x result is h = subst (λ (r : Result X SessionFault). OnErr r A) (sym is) h
err_and {X} A (Err e) x result is h = subst (λ (r : Result X SessionFault). OnErr r A) (sym is) h

pub run_and : {X : Type 0} (P : X → Type 0) (started : Result (Unit {0}) SessionFault) (x : X) (result : Result X SessionFault)
    → result ≡ result_and started (Ok x) → P x → IfOk result P
run_and {X} P (Ok u) x result is h = subst (λ (r : Result X SessionFault). IfOk r P) (sym is) h
run_and {X} P (Err e) x result is h = subst (λ (r : Result X SessionFault). IfOk r P) (sym is) tt

pub why_and : {X : Type 0} (P : SessionFault → Type 0) (started : Result (Unit {0}) SessionFault) (x : X) (result : Result X SessionFault)
    → result ≡ result_and started (Ok x) → IfErr started P → IfErr result P
why_and {X} P (Ok u) x result is h = subst (λ (r : Result X SessionFault). IfErr r P) (sym is) h
why_and {X} P (Err e) x result is h = subst (λ (r : Result X SessionFault). IfErr r P) (sym is) h

pub cause_and : {X : Type 0} (started : Result (Unit {0}) SessionFault) (x : X) (result : Result X SessionFault) (before now : ℕ)
    → result ≡ result_and started (Ok x) → NetworkCause started before now → NetworkCause result before now
cause_and {X} (Ok u) x result before now is h = subst (λ (r : Result X SessionFault). NetworkCause r before now) (sym is) h
cause_and {X} (Err e) x result before now is h = subst (λ (r : Result X SessionFault). NetworkCause r before now) (sym is) h
