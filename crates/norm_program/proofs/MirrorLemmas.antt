-- How `mirror` ends, by what its parts leave.
use Rattle.std.proofs.Common.{◌≡◌, ◌∙◌, sym, ap, subst, ℕ, List, [], ◌∷◌, Option, None, Some, Result, Ok, Err, Bool, true, false, cond, refl, inl, inr, append-nil}
use Rattle.std.specs.Prelude.{IfSome, OnOk, OnErr, is_err, length}
use Rattle.std.specs.Option.{option_map}
use Rattle.norm_base.specs.Faults.{Counts}
use Rattle.norm_base.specs.Network.{Network}
use Rattle.norm_base.specs.Told.{Pieces, gained, GainsFront}
use Rattle.norm_journal.specs.Counts.{is_expired}
use Rattle.norm_journal.specs.Jobs.{Told}
use Rattle.norm_journal.specs.declared.event.Event.{Event}
use Rattle.norm_record.specs.Counted.{is_refused}
use Rattle.norm_record.specs.HandedUp.{handed_up}
use Rattle.norm_script.specs.Commands.{Commands}
use Rattle.norm_script.specs.Folder.{Folder}
use Rattle.norm_session.specs.Session.{nodes_of}
use Rattle.norm_turns.specs.Causes.{Counted, FilesCause, HasCause}
use Rattle.norm_turns.specs.declared.fault.SessionFault.{SessionFault}
use Rattle.norm_turns.specs.declared.fault.SessionFault.TheVariants as fault
use Rattle.norm_folder.specs.Asking.{first_by, unaccepted_by, unsatisfied_by}
use Rattle.norm_folder.specs.Checks.{first_unlike}
use Rattle.norm_folder.specs.Copies.{ArePut, LackedPut, StopsPuts, copies}
use Rattle.norm_folder.specs.Entries.{AreEntries, IsUnready, ReadyCause, ordered}
use Rattle.norm_mirror.specs.declared.outcome.Unlike.{Unlike as Difference}
use Rattle.norm_folder.specs.declared.entries.Unready.{Unready}
use Rattle.norm_folder.specs.declared.entries.Unready.TheVariants as unready
use Rattle.norm_program.specs.Asked.{Mirror}
use Rattle.norm_endings.specs.Endings.{IsAbsentEnding, IsStoppedEnding, IsLastEnding}
use Rattle.norm_endings.specs.Outside.{Called, Outside, outside, called_as}
use Rattle.norm_program.specs.Ends.{Prepared, EndsEarly, EndsScript}
use Rattle.norm_program.specs.declared.mirror.Sending.{Sending}
use Rattle.norm_program.specs.MirrorEnds.{EndsMirror, KeptFiles, NamesFolder, SentFolder, Unmirrored, has_some, mirrored_line, unmirrored, unmirrored_line}
use Rattle.norm_program.specs.Mirroring.{EndsCopies, EndsSending, EndsWhole, IsLastIn, IsLastOf, IsSending, IsUnreadyEnding, Named, left}
use Rattle.norm_endings.specs.declared.status.Ending.{Ending}
use Rattle.norm_endings.specs.declared.status.Ending.TheVariants.{Done, Memory, Refused, Read, Write, Fabric, Files, Absent, Spent, NotAccepted, NotSatisfied, Unlike}
use Rattle.norm_program.proofs.ArrivalLemmas.{folder_changed, folder_mirrored, never_unlike}
use Rattle.norm_program.proofs.EndingLemmas.{Ran, Stopped, counts, last_ends, stopped_ends}

-- In plain variables: the input (i, j), the output's pieces (u, v, w), the counts of failed reads (r, s) and writes (k, l, t), the network (n), the files
-- (f, g), the moments (m), and the counts of failed calls of the network (q) and of the files (x, y).

-- ---- a last line

pub last_of : {T E : Type 0} → (result : Result T E) (own : Ending) (line : List ℕ) (u w : Pieces) (k t : ℕ) (ending : Ending)
    → OnOk result (w ≡ gained u (line ∷ [])) → OnErr result (GainsFront u w line) → Counts k t (is_err result)
    → OnOk result (ending ≡ own) → OnErr result (ending ≡ Write) → IsLastOf own line ending u w k t
last_of (Ok x) own line u w k t ending ok err counts is lacks = inl (record { is = is; output = ok; writes = counts.exact })
last_of (Err e) own line u w k t ending ok err counts is lacks = inr (record { is = lacks; output = err; writes = counts.exact })

-- ---- before the folder is read

pub mirror_early : (ending : Ending) (i j : Option (List ℕ)) (u w : Pieces) (r s k t : ℕ) (c : Called) → EndsEarly (Mirror c.files) ending i j u w r s k t
    → EndsMirror ending (outside i u r k c) (outside j w s t c)
mirror_early (Refused refusal) i j u w r s k t c h = h c
mirror_early Read i j u w r s k t c h = h c
mirror_early Memory i j u w r s k t c h = inl (h c, refl)
mirror_early _ i j u w r s k t c h = absurd (h c)

-- ---- a folder that is not ready

names_folder : (folder : Folder) (i j : Option (List ℕ)) (u w : Pieces) (r s k t : ℕ) (n : Network) (f g : Told) (m : Option (List ℕ)) (q x y : ℕ) → Named folder i j
    → g ≡ f → NamesFolder folder (outside i u r k (called_as n f m q x)) (outside j w s t (called_as n g m q y))
names_folder folder i j u w r s k t n f g m q x y named same =
    record { text = named.text; input = named.input; read = named.read; network = refl; moments = refl; kept = same }

-- nothing was called or written, for want of memory
untouched : (ending : Ending) (i j : Option (List ℕ)) (u w : Pieces) (r s k t : ℕ) (n : Network) (f g : Told) (m : Option (List ℕ)) (q x y : ℕ) → s ≡ r → g ≡ f → y ≡ x
    → ending ≡ Memory → w ≡ u → t ≡ k → EndsMirror ending (outside i u r k (called_as n f m q x)) (outside j w s t (called_as n g m q y))
untouched ending i j u w r s k t n f g m q x y reads same count is output writes =
    let P : Ending → Type 0 = λ e. EndsMirror e (outside i u r k (called_as n f m q x)) (outside j w s t (called_as n g m q y)) in
    subst P (sym is) (inl (
      record {
        session = inl (record { called = ap (λ h. called_as n h m q y) same ∙ ap (λ z. called_as n f m q z) count; output = output });
        undisturbed = record { reads = reads; calls = refl; files = count };
        writes = writes;
      },
      same,
    ))

absent_unsent : (ending : Ending) (name : List ℕ) (folder : Folder) (i j : Option (List ℕ)) (u w : Pieces) (r s k t : ℕ) (n : Network) (f g : Told) (m : Option (List ℕ)) (q x y : ℕ)
    → Named folder i j → s ≡ r → g ≡ f → y ≡ x → IsUnready f (ordered folder) (unready.Unread (fault.Absent name)) → IsAbsentEnding ending name u w k t
    → EndsMirror ending (outside i u r k (called_as n f m q x)) (outside j w s t (called_as n g m q y))
absent_unsent (Absent said) name folder i j u w r s k t n f g m q x y named reads same count why h =
    let P : List ℕ → Type 0 = λ z. EndsMirror (Absent z) (outside i u r k (called_as n f m q x)) (outside j w s t (called_as n g m q y)) in
    subst P (sym h.0) (inr (record {
      folder = folder;
      names = names_folder folder i j u w r s k t n f g m q x y named same;
      first = why;
      output = h.1;
      undisturbed = record { reads = reads; calls = refl; files = count };
    }))
absent_unsent Memory name folder i j u w r s k t n f g m q x y named reads same count why h =
    untouched Memory i j u w r s k t n f g m q x y reads same count refl h.0 h.1
absent_unsent _ name folder i j u w r s k t n f g m q x y named reads same count why h = absurd h

pub mirror_unready : (why : Unready) (ending : Ending) (folder : Folder) (i j : Option (List ℕ)) (u w : Pieces) (r s k t : ℕ) (n : Network) (f g : Told) (m : Option (List ℕ)) (q x y : ℕ)
    → Named folder i j → s ≡ r → g ≡ f → IsUnready f (ordered folder) why → ReadyCause {T = ℕ} (Err why) x y → IsUnreadyEnding why ending u w k t
    → EndsMirror ending (outside i u r k (called_as n f m q x)) (outside j w s t (called_as n g m q y))
mirror_unready (unready.Unsendable name len) ending folder i j u w r s k t n f g m q x y named reads same why count (inl (inl h)) =
    let P : Ending → Type 0 = λ e. EndsMirror e (outside i u r k (called_as n f m q x)) (outside j w s t (called_as n g m q y)) in
    subst P (sym h.is) (record {
      folder = folder;
      names = names_folder folder i j u w r s k t n f g m q x y named same;
      first = why;
      output = h.output;
      undisturbed = record { reads = reads; calls = refl; files = count };
      writes = h.writes;
    })
mirror_unready (unready.Unsendable name len) ending folder i j u w r s k t n f g m q x y named reads same why count (inl (inr h)) =
    let P : Ending → Type 0 = λ e. EndsMirror e (outside i u r k (called_as n f m q x)) (outside j w s t (called_as n g m q y)) in
    subst P (sym h.is) (record {
      cause = h.writes;
      at = inr (inl (record {
        folder = folder;
        names = names_folder folder i j u w r s k t n f g m q x y named same;
        name = name;
        len = len;
        first = why;
        output = h.output;
      }));
      undisturbed = record { reads = reads; calls = refl; files = count };
    })
mirror_unready (unready.Unsendable name len) ending folder i j u w r s k t n f g m q x y named reads same why count (inr h) =
    untouched ending i j u w r s k t n f g m q x y reads same count h.is h.output h.writes
mirror_unready (unready.Unread fault.Memory) ending folder i j u w r s k t n f g m q x y named reads same why cause h =
    untouched ending i j u w r s k t n f g m q x y reads same (ap (λ (z : Counted). z.files) (cause 0 0)) h.0 h.1 h.2
mirror_unready (unready.Unread fault.Files) ending folder i j u w r s k t n f g m q x y named reads same why cause h =
    let P : Ending → Type 0 = λ e. EndsMirror e (outside i u r k (called_as n f m q x)) (outside j w s t (called_as n g m q y)) in
    subst P (sym h.0) (inr (inl (record {
      cause = ap (λ (z : Counted). z.files) (cause 0 0);
      folder = folder;
      names = names_folder folder i j u w r s k t n f g m q x y named same;
      output = h.1;
      reads = reads;
      calls = refl;
    })))
mirror_unready (unready.Unread (fault.Absent name)) ending folder i j u w r s k t n f g m q x y named reads same why cause h =
    absent_unsent ending name folder i j u w r s k t n f g m q x y named reads same (ap (λ (z : Counted). z.files) (cause 0 0)) why h
mirror_unready (unready.Unread fault.Write) ending folder i j u w r s k t n f g m q x y named reads same why cause h = absurd why
mirror_unready (unready.Unread fault.Fabric) ending folder i j u w r s k t n f g m q x y named reads same why cause h = absurd why

-- ---- a folder that is ready

-- a folder that the input named and that is sent so
pub mirror_sending : (folder : Folder) (sending : Sending) (ending : Ending) (i j : Option (List ℕ)) (u v : Pieces) (r s k t : ℕ) (n : Network) (f g : Told) (m : Option (List ℕ)) (q x y : ℕ)
    (a : Outside) → Named folder i j → v ≡ u → s ≡ r → t ≡ k → g ≡ f → y ≡ x → IsSending f folder sending
    → EndsSending sending ending (outside j v s t (called_as n g m q y)) a → EndsMirror ending (outside i u r k (called_as n f m q x)) a
mirror_sending folder sending ending i j u v r s k t n f g m q x y a named output reads writes same count is sends =
    let E : Told → Type 0 = λ z. AreEntries z (ordered folder) is.entries in
    let A : Pieces → Type 0 = λ z. EndsMirror ending (outside i z s t (called_as n g m q y)) a in
    let B : ℕ → Type 0 = λ z. EndsMirror ending (outside i u z t (called_as n g m q y)) a in
    let C : ℕ → Type 0 = λ z. EndsMirror ending (outside i u r z (called_as n g m q y)) a in
    let D : Told → Type 0 = λ z. EndsMirror ending (outside i u r k (called_as n z m q y)) a in
    let F : ℕ → Type 0 = λ z. EndsMirror ending (outside i u r k (called_as n f m q z)) a in
    subst F count (subst D same (subst C writes (subst B reads (subst A output (sends i (record {
      text = named.text;
      input = named.input;
      read = record { folder = folder; entries = is.entries; read = named.read; are = subst E (sym same) is.are; script_is = is.script };
    }) is.count)))))

-- ---- a session that was not whole

-- how a script ends, so a mirror does, if not all was done and the files are as they were
scripted : (ending : Ending) (b a : Outside) → (ending ≡ Done → ⊥) → KeptFiles b a → EndsScript (Mirror b.called.files) ending b a → EndsMirror ending b a
scripted Done b a undone kept h = absurd (undone refl)
scripted Spent b a undone kept h = (h, kept)
scripted (Refused refusal) b a undone kept h = h
scripted Read b a undone kept h = h
scripted Memory b a undone kept h = inl (h, kept)
scripted Write b a undone kept h = record { cause = h.cause; at = inl (h, kept); undisturbed = h.undisturbed }
scripted Fabric b a undone kept h = (h, kept)
scripted Files b a undone kept h = inl (h, kept)
scripted (Absent name) b a undone kept h = inl (h, kept)
scripted _ b a undone kept h = absurd h

absent_not_done : (name : List ℕ) (ending : Ending) (v w : Pieces) (l t : ℕ) → IsAbsentEnding ending name v w l t → ending ≡ Done → ⊥
absent_not_done name (Absent said) v w l t h is = cc
absent_not_done name Memory v w l t h is = cc
absent_not_done name _ v w l t h is = absurd h

stop_not_done : (stop : SessionFault) (ending : Ending) (v w : Pieces) (l t : ℕ) → IsStoppedEnding stop ending v w l t → ending ≡ Done → ⊥
stop_not_done fault.Memory ending v w l t h is = let e = h.0 in cc
stop_not_done fault.Write ending v w l t h is = let e = h.0 in cc
stop_not_done fault.Fabric ending v w l t h is = let e = h.0 in cc
stop_not_done fault.Files ending v w l t h is = let e = h.0 in cc
stop_not_done (fault.Absent name) ending v w l t h is = absent_not_done name ending v w l t h is

pub mirror_stopped : (stop : SessionFault) (ending : Ending) (script : Commands) (i j : Option (List ℕ)) (u v w : Pieces) (r s k l t : ℕ) (c d : Called)
    → Prepared (Mirror c.files) script i j → s ≡ r → d.files ≡ c.files → Stopped false stop script c d u v → HasCause {T = ℕ} (Err stop) (counts k c) (counts l d)
    → IsStoppedEnding stop ending v w l t → EndsMirror ending (outside i u r k c) (outside j w s t d)
mirror_stopped stop ending script i j u v w r s k l t c d p reads kept stops cause h =
    scripted ending (outside i u r k c) (outside j w s t d) (stop_not_done stop ending v w l t h) kept
    (stopped_ends ℕ stop ending (Mirror c.files) script i j u v w r s k l t c d p reads stops cause h)

last_not_done : (ending : Ending) (v w : Pieces) (l t : ℕ) → IsLastEnding ending false v w l t → ending ≡ Done → ⊥
last_not_done Done v w l t h is = let e = h.0 in cc
last_not_done Spent v w l t h is = cc
last_not_done Write v w l t h is = cc
last_not_done _ v w l t h is = absurd h

pub mirror_spent : (ending : Ending) (script : Commands) (journal : List Event) (whole : Bool) (i j : Option (List ℕ)) (u v w : Pieces) (r s k l t : ℕ) (c d : Called)
    → Prepared (Mirror c.files) script i j → s ≡ r → d.files ≡ c.files → Ran false script journal whole c d u v → whole ≡ false → counts l d ≡ counts k c
    → IsLastEnding ending false v w l t → EndsMirror ending (outside i u r k c) (outside j w s t d)
mirror_spent ending script journal whole i j u v w r s k l t c d p reads kept runs is cause h =
    let R : Bool → Type 0 = λ b. Ran false script journal b c d u v in
    scripted ending (outside i u r k c) (outside j w s t d) (last_not_done ending v w l t h) kept
    (last_ends ending (Mirror c.files) script journal false i j u v w r s k l t c d p reads tt (subst R is runs) cause h)

-- ---- a session that was whole

-- only these three stand in the way of a mirror
abbrev IsWhy : Ending → Type 0
IsWhy (NotAccepted what) = Unit {0}
IsWhy (NotSatisfied which) = Unit {0}
IsWhy (Unlike why) = Unit {0}
IsWhy _ = ⊥

unlike_is : (o : Option Difference) → IfSome (option_map Unlike o) IsWhy
unlike_is None = tt
unlike_is (Some why) = tt

unmirrored_is : (journal : List Event) (nodes : List ℕ) → IfSome (unmirrored journal nodes) IsWhy
unmirrored_is journal nodes = go (has_some is_refused journal) (has_some is_expired journal)
  where
    go : (a b : Bool) → IfSome (cond a (Some (NotAccepted (first_by unaccepted_by journal)))
        (cond b (Some (NotSatisfied (first_by unsatisfied_by journal))) (option_map Unlike (first_unlike (handed_up journal) nodes)))) IsWhy
    go true b = tt
    go false true = tt
    go false false = unlike_is (first_unlike (handed_up journal) nodes)

is_why : (journal : List Event) (nodes : List ℕ) (why : Ending) → unmirrored journal nodes ≡ Some why → IsWhy why
is_why journal nodes why is = subst (λ o. IfSome o IsWhy) is (unmirrored_is journal nodes)

why_ends : (why : Ending) (b a : Outside) → IsWhy why → Unmirrored why b a → EndsMirror why b a
why_ends (NotAccepted what) b a is h = h
why_ends (NotSatisfied which) b a is h = h
why_ends (Unlike why) b a is h =
    let ran = h.session.ran in record {
      found = h;
      never = never_unlike b.called.files ran.text ran.script ran.journal _ ran.read ran.session.2 why h.why;
    }
why_ends _ b a is h = absurd is

-- what is known of a folder that was sent whole
pub record Sent (script : Commands) (journal : List Event) (i j : Option (List ℕ)) (u v : Pieces) (r s k : ℕ) (c d : Called) : Type 0 where
  pub prepared : Prepared (Mirror c.files) script i j
  pub reads : s ≡ r
  pub runs : Ran false script journal true c d u v
  pub calls : d.network_faults ≡ c.network_faults

-- what was called of it at last
abbrev pub at_last : Called → Told → ℕ → Called
at_last d g y = called_as d.network g d.moments d.network_faults y

abbrev sent : (script : Commands) (journal : List Event) (i j : Option (List ℕ)) (u v w : Pieces) (r s k t : ℕ) (c d : Called) (g : Told) (y : ℕ)
    → Sent script journal i j u v r s k c d → SentFolder (outside i u r k c) (outside j w s t (at_last d g y)) v
sent script journal i j u v w r s k t c d g y h = record {
  ran = record { text = h.prepared.text; script = script; journal = journal; input = h.prepared.input; read = h.prepared.read; session = h.runs; turns = tt };
  changed = folder_changed c.files h.prepared.text script journal true _ h.prepared.read h.runs.2;
}

-- there was no memory for the rest
lacked : (ending : Ending) (script : Commands) (journal : List Event) (i j : Option (List ℕ)) (u v w : Pieces) (r s k t : ℕ) (c d : Called) (g : Told) (y : ℕ)
    → Sent script journal i j u v r s k c d → ending ≡ Memory → w ≡ v → t ≡ k → y ≡ c.file_faults
    → LackedPut (copies (handed_up journal) (nodes_of script)) c.files g → EndsMirror ending (outside i u r k c) (outside j w s t (at_last d g y))
lacked ending script journal i j u v w r s k t c d g y h is output writes count put =
    let P : Ending → Type 0 = λ e. EndsMirror e (outside i u r k c) (outside j w s t (at_last d g y)) in
    let Q : Pieces → Type 0 = λ z. EndsMirror Memory (outside i u r k c) (outside j z s t (at_last d g y)) in
    subst P (sym is) (subst Q (sym output) (inr (record {
      session = sent script journal i j u v v r s k t c d g y h;
      put = put;
      undisturbed = record { reads = h.reads; calls = h.calls; files = count };
      writes = writes;
    })))

-- nothing was put
none_put : (files : List (List ℕ × List ℕ)) (f g : Told) → g ≡ f → LackedPut files f g
none_put files f g same = record { front = []; rest = files; are = refl; put = same }

all_put : (files : List (List ℕ × List ℕ)) (f g : Told) → ArePut files f g → LackedPut files f g
all_put files f g put = record { front = files; rest = []; are = sym (append-nil files); put = put }

-- the last line of a folder that was not mirrored
why_last : (why ending : Ending) (script : Commands) (journal : List Event) (i j : Option (List ℕ)) (u v w : Pieces) (r s k t : ℕ) (c d : Called) (g : Told) (y : ℕ)
    → Sent script journal i j u v r s k c d → unmirrored journal (nodes_of script) ≡ Some why → g ≡ c.files → y ≡ c.file_faults
    → IsLastIn why (unmirrored_line why) ending v w k t → EndsMirror ending (outside i u r k c) (outside j w s t (at_last d g y))
why_last why ending script journal i j u v w r s k t c d g y h is same count (inl (inl l)) =
    let P : Ending → Type 0 = λ e. EndsMirror e (outside i u r k c) (outside j w s t (at_last d g y)) in
    subst P (sym l.is) (why_ends why (outside i u r k c) (outside j w s t (at_last d g y)) (is_why journal (nodes_of script) why is) (record {
      unsaid = v;
      session = sent script journal i j u v w r s k t c d g y h;
      why = is;
      kept = same;
      output = l.output;
      undisturbed = record { reads = h.reads; calls = h.calls; files = count };
      writes = l.writes;
    }))
why_last why ending script journal i j u v w r s k t c d g y h is same count (inl (inr l)) =
    let P : Ending → Type 0 = λ e. EndsMirror e (outside i u r k c) (outside j w s t (at_last d g y)) in
    subst P (sym l.is) (record {
      cause = l.writes;
      at = inr (inr (inr (record {
        unsaid = v;
        ending = why;
        session = sent script journal i j u v w r s k t c d g y h;
        why = is;
        kept = same;
        output = l.output;
      })));
      undisturbed = record { reads = h.reads; calls = h.calls; files = count };
    })
why_last why ending script journal i j u v w r s k t c d g y h is same count (inr l) =
    lacked ending script journal i j u v w r s k t c d g y h l.is l.output l.writes count (none_put (copies (handed_up journal) (nodes_of script)) c.files g same)

-- the last line of one that was
all_last : (ending : Ending) (script : Commands) (journal : List Event) (i j : Option (List ℕ)) (u v w : Pieces) (r s k t : ℕ) (c d : Called) (g : Told) (y : ℕ)
    (h : Sent script journal i j u v r s k c d) → unmirrored journal (nodes_of script) ≡ None → ArePut (copies (handed_up journal) (nodes_of script)) c.files g
    → y ≡ c.file_faults → IsLastIn Done (mirrored_line (length h.prepared.read.entries) script.profile.receivers) ending v w k t
    → EndsMirror ending (outside i u r k c) (outside j w s t (at_last d g y))
all_last ending script journal i j u v w r s k t c d g y h is put count (inl (inl l)) =
    let P : Ending → Type 0 = λ e. EndsMirror e (outside i u r k c) (outside j w s t (at_last d g y)) in
    subst P (sym l.is) (record {
      unsaid = v;
      session = sent script journal i j u v w r s k t c d g y h;
      all = is;
      put = put;
      mirrored = folder_mirrored c.files h.prepared.text script journal _ h.prepared.read h.runs.2 is g put;
      output = l.output;
      undisturbed = record { reads = h.reads; calls = h.calls; files = count };
      writes = l.writes;
    })
all_last ending script journal i j u v w r s k t c d g y h is put count (inl (inr l)) =
    let P : Ending → Type 0 = λ e. EndsMirror e (outside i u r k c) (outside j w s t (at_last d g y)) in
    subst P (sym l.is) (record {
      cause = l.writes;
      at = inr (inr (inl (record {
        unsaid = v;
        session = sent script journal i j u v w r s k t c d g y h;
        all = is;
        put = put;
        output = l.output;
      })));
      undisturbed = record { reads = h.reads; calls = h.calls; files = count };
    })
all_last ending script journal i j u v w r s k t c d g y h is put count (inr l) =
    lacked ending script journal i j u v w r s k t c d g y h l.is l.output l.writes count (all_put (copies (handed_up journal) (nodes_of script)) c.files g put)

-- a put that failed, or lacked memory
some_last : (why : SessionFault) (ending : Ending) (script : Commands) (journal : List Event) (i j : Option (List ℕ)) (u v w : Pieces) (r s k t : ℕ) (c d : Called) (g : Told) (y : ℕ)
    → Sent script journal i j u v r s k c d → unmirrored journal (nodes_of script) ≡ None → StopsPuts why (copies (handed_up journal) (nodes_of script)) c.files g
    → FilesCause {T = ℕ} (Err why) c.file_faults y → IsStoppedEnding why ending v w k t → EndsMirror ending (outside i u r k c) (outside j w s t (at_last d g y))
some_last fault.Write ending script journal i j u v w r s k t c d g y h is put cause l = absurd put
some_last fault.Fabric ending script journal i j u v w r s k t c d g y h is put cause l = absurd put
some_last (fault.Absent name) ending script journal i j u v w r s k t c d g y h is put cause l = absurd put
some_last fault.Memory ending script journal i j u v w r s k t c d g y h is put cause l =
    lacked ending script journal i j u v w r s k t c d g y h l.0 l.1 l.2 (ap (λ (z : Counted). z.files) (cause 0 0)) put
some_last fault.Files ending script journal i j u v w r s k t c d g y h is put cause l =
    let P : Ending → Type 0 = λ e. EndsMirror e (outside i u r k c) (outside j w s t (at_last d g y)) in
    subst P (sym l.0) (inr (inr (record {
      cause = ap (λ (z : Counted). z.files) (cause 0 0);
      unsaid = v;
      session = sent script journal i j u v w r s k t c d g y h;
      all = is;
      put = put;
      output = l.1;
      reads = h.reads;
      calls = h.calls;
    })))

mirror_whole : (ending : Ending) (script : Commands) (journal : List Event) (files : ℕ) (i j : Option (List ℕ)) (u v w : Pieces) (r s k t : ℕ) (c d : Called) (g : Told) (y : ℕ)
    (h : Sent script journal i j u v r s k c d) → files ≡ length h.prepared.read.entries
    → EndsWhole journal (nodes_of script) (mirrored_line files script.profile.receivers) ending (left v k c.files c.file_faults) (left w t g y)
    → EndsMirror ending (outside i u r k c) (outside j w s t (at_last d g y))
mirror_whole ending script journal files i j u v w r s k t c d g y h count (inl e) =
    why_last e.why ending script journal i j u v w r s k t c d g y h e.is e.kept.files e.kept.faults e.last
mirror_whole ending script journal files i j u v w r s k t c d g y h count (inr (inl e)) = go e.copies
  where
    go : EndsCopies (copies (handed_up journal) (nodes_of script)) (mirrored_line files script.profile.receivers) ending (left v k c.files c.file_faults) (left w t g y)
        → EndsMirror ending (outside i u r k c) (outside j w s t (at_last d g y))
    go (inl p) =
        all_last ending script journal i j u v w r s k t c d g y h e.is p.put p.faults
        (subst (λ n. IsLastIn Done (mirrored_line n script.profile.receivers) ending v w k t) count p.last)
    go (inr p) = some_last p.fault ending script journal i j u v w r s k t c d g y h e.is p.put p.cause p.last
mirror_whole ending script journal files i j u v w r s k t c d g y h count (inr (inr e)) =
    lacked ending script journal i j u v w r s k t c d g y h e.none.is e.none.output e.none.writes e.kept.faults
    (none_put (copies (handed_up journal) (nodes_of script)) c.files g e.kept.files)

-- a session that was whole, whose counts and files are as they were
pub mirror_ran : (ending : Ending) (script : Commands) (journal : List Event) (whole : Bool) (files : ℕ) (i j : Option (List ℕ)) (u v w : Pieces) (r s k l t : ℕ) (c d : Called)
    (g : Told) (y : ℕ) (p : Prepared (Mirror c.files) script i j) → s ≡ r → d.files ≡ c.files → Ran false script journal whole c d u v → whole ≡ true
    → counts l d ≡ counts k c → files ≡ length p.read.entries
    → EndsWhole journal (nodes_of script) (mirrored_line files script.profile.receivers) ending (left v l d.files d.file_faults) (left w t g y)
    → EndsMirror ending (outside i u r k c) (outside j w s t (at_last d g y))
mirror_ran ending script journal whole files i j u v w r s k l t c d g y p reads kept runs is cause count h =
    let R : Bool → Type 0 = λ b. Ran false script journal b c d u v in
    let line = mirrored_line files script.profile.receivers in
    let A : ℕ → Type 0 = λ z. EndsWhole journal (nodes_of script) line ending (left v z d.files d.file_faults) (left w t g y) in
    let B : Told → Type 0 = λ z. EndsWhole journal (nodes_of script) line ending (left v k z d.file_faults) (left w t g y) in
    let C : ℕ → Type 0 = λ z. EndsWhole journal (nodes_of script) line ending (left v k c.files z) (left w t g y) in
    mirror_whole ending script journal files i j u v w r s k t c d g y
    (record { prepared = p; reads = reads; runs = subst R is runs; calls = ap (λ (z : Counted). z.network) cause }) count
    (subst C (ap (λ (z : Counted). z.files) cause) (subst B kept (subst A (ap (λ (z : Counted). z.output) cause) h)))
