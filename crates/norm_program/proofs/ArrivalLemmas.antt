-- What is so of a folder's session over an honest network.
use Rattle.std.proofs.Common.{◌≡◌, ◌∙◌, sym, ap, ℕ, List, [], Option, None, Some, Bool, true, false, cond, refl, append-nil}
use Rattle.std.specs.Prelude.{◌==◌, not, count_by, IfSome}
use Rattle.std.specs.Option.{option_map}
use Rattle.std.proofs.lemmas.Bool.Decides.{Decides-eqb}
use Rattle.std.proofs.lemmas.Option.{none-some}
use Rattle.norm_base.specs.Network.{Network}
use Rattle.norm_journal.specs.Counts.{is_expired}
use Rattle.norm_journal.specs.Jobs.{Told}
use Rattle.norm_journal.specs.declared.event.Event.{Event}
use Rattle.norm_safety.specs.Safe.{Safe}
use Rattle.norm_safety.proofs.EntryLemmas.{clash}
use Rattle.norm_record.specs.Counted.{is_refused}
use Rattle.norm_record.specs.HandedUp.{handed_up}
use Rattle.norm_script.specs.Commands.{Commands}
use Rattle.norm_session.specs.Session.{RunsSession, IsSafeThroughout, OverHonest, nodes_of, session_events}
use Rattle.norm_session.specs.Turning.{Span}
use Rattle.norm_mirror.specs.declared.outcome.Unaccepted.{Unaccepted}
use Rattle.norm_mirror.specs.declared.outcome.Unsatisfied.{Unsatisfied}
use Rattle.norm_mirror.specs.declared.outcome.Unlike.{Unlike as Difference}
use Rattle.norm_arrival.specs.FolderArrives.{IsClean}
use Rattle.norm_arrival.specs.HandedBy.{ups_of}
use Rattle.norm_folder.specs.Asking.{first_by, unaccepted_by, unsatisfied_by}
use Rattle.norm_folder.specs.Checks.{first_unlike}
use Rattle.norm_folder.specs.Copies.{ArePut, copies}
use Rattle.norm_folder.specs.Entries.{names_of}
use Rattle.norm_folder.specs.Laws.{IsSent}
use Rattle.norm_folder.specs.Mirrored.{Mirrored}
use Rattle.norm_folder.specs.Sending.{IsFolderScript}
use Rattle.norm_folder.proofs.MirroredLemmas.{changes_are_refused, copies_mirror, none_is_unlike}
use Rattle.norm_endings.specs.declared.status.Ending.{Ending}
use Rattle.norm_endings.specs.declared.status.Ending.TheVariants.{NotAccepted, NotSatisfied, Unlike}
use Rattle.norm_program.specs.MirrorEnds.{OverTold, RefusesChanged, has_some, unmirrored}

-- ---- over an honest network

-- what follows from what is promised is promised too
over_more : {P Q : Type 0} (n : Network) → (P → Q) → OverHonest n P → OverHonest n Q
over_more {P} {Q} n more h honest = go n.offered (h honest)
  where
    go : {X : Type 0} (o : Option X) → IfSome o (λ x. P) → IfSome o (λ x. Q)
    go None x = tt
    go (Some offered) x = more x

-- a journal that is safe throughout is safe
safe_of : (script : Commands) (files : Told) (journal : List Event) → IsSafeThroughout script files journal
    → Safe script.profile (session_events script files journal)
safe_of script files journal all = (all journal [] (sym (append-nil journal))).safe

-- a file that is another than its line says is refused
pub folder_changed : (files : Told) (text : List ℕ) (script : Commands) (journal : List Event) (whole : Bool) (o : Span)
    (read : IsFolderScript files text script) (r : RunsSession script files journal whole o)
    → OverHonest r.started ((node : ℕ) → RefusesChanged read.entries (ups_of node (handed_up journal)))
folder_changed files text script journal whole o read r =
    over_more r.started
    (λ all node. changes_are_refused files text script read journal r.run.last r.run.begun (safe_of script files journal all) node) r.safe

-- ---- nothing was refused and nothing expired

none_counted : (n : ℕ) → not (n == 0) ≡ false → n ≡ 0
none_counted n e = go (n == 0) refl e
  where
    go : (b : Bool) → (n == 0) ≡ b → not b ≡ false → n ≡ 0
    go true is f = (Decides-eqb n 0).0 is
    go false is f = absurd (clash (sym f))

by_counts : (journal : List Event) (nodes : List ℕ) (a b : Bool) → has_some is_refused journal ≡ a → has_some is_expired journal ≡ b
    → unmirrored journal nodes ≡ cond a (Some (NotAccepted (first_by unaccepted_by journal)))
    (cond b (Some (NotSatisfied (first_by unsatisfied_by journal))) (option_map Unlike (first_unlike (handed_up journal) nodes)))
by_counts journal nodes a b refused expired = rw (refused, expired) refl

-- the verdict on a session in which nothing was refused and nothing expired
record IsChecked (journal : List Event) (nodes : List ℕ) (said : Option Ending) : Type 0 where
  clean : IsClean journal
  is : option_map Unlike (first_unlike (handed_up journal) nodes) ≡ said

-- it is about the hand-ups alone
is_checked : (journal : List Event) (nodes : List ℕ) (said : Option Ending) → unmirrored journal nodes ≡ said
    → ((what : Option Unaccepted) → Some (NotAccepted what) ≡ said → ⊥) → ((which : Option Unsatisfied) → Some (NotSatisfied which) ≡ said → ⊥)
    → IsChecked journal nodes said
is_checked journal nodes said e accepted satisfied = go (has_some is_refused journal) refl (has_some is_expired journal) refl
  where
    go : (a : Bool) → has_some is_refused journal ≡ a → (b : Bool) → has_some is_expired journal ≡ b → IsChecked journal nodes said
    go true refused b expired = absurd (accepted (first_by unaccepted_by journal) (sym (by_counts journal nodes true b refused expired) ∙ e))
    go false refused true expired = absurd (satisfied (first_by unsatisfied_by journal) (sym (by_counts journal nodes false true refused expired) ∙ e))
    go false refused false expired = record {
      clean = record { refused = none_counted (count_by is_refused journal) refused; expired = none_counted (count_by is_expired journal) expired };
      is = sym (by_counts journal nodes false false refused expired) ∙ e;
    }

no_reason : (what : Option Unaccepted) (why : Difference) → Some (NotAccepted what) ≡ Some (Unlike why) → ⊥
no_reason what why e = cc

no_other : (which : Option Unsatisfied) (why : Difference) → Some (NotSatisfied which) ≡ Some (Unlike why) → ⊥
no_other which why e = cc

-- ---- the folder arrives

-- such a session is one that the laws of folders speak of
abbrev sent_of : (contents : List (List ℕ × List ℕ)) (text : List ℕ) (script : Commands) (journal : List Event) (o : Span)
    → IsFolderScript (Some contents) text script → RunsSession script (Some contents) journal true o → IsSafeThroughout script (Some contents) journal → IsClean journal
    → IsSent contents text script journal
sent_of contents text script journal o read r all clean =
    record { folder = read; run = r.run; safe = safe_of script (Some contents) journal all; clean = clean }

-- no receiver hands up something else
pub never_unlike : (files : Told) (text : List ℕ) (script : Commands) (journal : List Event) (o : Span) → IsFolderScript files text script
    → (r : RunsSession script files journal true o) → (why : Difference) → unmirrored journal (nodes_of script) ≡ Some (Unlike why)
    → OverTold files r.started (λ contents. ⊥)
never_unlike None text script journal o read r why e = tt
never_unlike (Some contents) text script journal o read r why e =
    let said = is_checked journal (nodes_of script) (Some (Unlike why)) e (λ what f. no_reason what why f) (λ which f. no_other which why f) in
    over_more r.started (λ all. none-some (Unlike why)
    (sym (ap (option_map Unlike) (none_is_unlike contents text script journal (sent_of contents text script journal o read r all said.clean))) ∙ said.is)) r.safe

-- the copies are those of the files
pub folder_mirrored : (files : Told) (text : List ℕ) (script : Commands) (journal : List Event) (o : Span) (read : IsFolderScript files text script)
    (r : RunsSession script files journal true o) → unmirrored journal (nodes_of script) ≡ None
    → (after : Told) → ArePut (copies (handed_up journal) (nodes_of script)) files after
    → OverTold files r.started (λ contents. Mirrored contents after (nodes_of script) (names_of read.folder.names))
folder_mirrored None text script journal o read r e after put = tt
folder_mirrored (Some contents) text script journal o read r e after put =
    let said = is_checked journal (nodes_of script) None e (λ what f. none-some (NotAccepted what) (sym f)) (λ which f. none-some (NotSatisfied which) (sym f)) in
    over_more r.started (λ all. copies_mirror contents text script journal (sent_of contents text script journal o read r all said.clean) after put) r.safe
