-- How a node ends: its profile, and its run.
use Rattle.std.proofs.Common.{◌≡◌, ◌∙◌, sym, ap, subst, ℕ, List, Option, Ok, Err, true, refl, inl, inr}
use Rattle.std.specs.Prelude.{⊤}
use Rattle.norm_base.specs.Faults.{counted as count_after}
use Rattle.norm_base.specs.Network.{Network}
use Rattle.norm_base.specs.Members.{is_receiver}
use Rattle.norm_base.specs.Settings.{Settings}
use Rattle.norm_base.specs.Told.{Pieces}
use Rattle.norm_journal.specs.Jobs.{Told}
use Rattle.norm_node.specs.Hub.{Around, StopsHub, RunsHub}
use Rattle.norm_node.specs.Runs.{StopsReceiver, RunsReceiver}
use Rattle.norm_node.specs.Shown as shown
use Rattle.norm_profile.specs.Loading.{IsOfFile, IsUnloaded, has_failed}
use Rattle.norm_profile.specs.declared.loading.LoadFault.{LoadFault}
use Rattle.norm_profile.specs.declared.loading.LoadFault.TheVariants as load
use Rattle.norm_turns.specs.Causes.{HasCause}
use Rattle.norm_turns.specs.declared.fault.SessionFault.{SessionFault}
use Rattle.norm_turns.specs.declared.fault.SessionFault.TheVariants as fault
use Rattle.norm_endings.specs.Outside.{Called, Outside, outside, called_as}
use Rattle.norm_endings.specs.Endings.{IsAbsentEnding, IsStoppedEnding, IsUnloadedEnding, IsLoading}
use Rattle.norm_endings.specs.declared.status.Ending.{Ending}
use Rattle.norm_endings.specs.declared.status.Ending.TheVariants.{Done, Memory, Profile, Absent}
use Rattle.norm_program.specs.NodeEnds.{EndsUnloaded, EndsUnder, EndsBroken, BrokenReceiver, BrokenHub, EndsReceiver, EndsHub, seen, heard}
use Rattle.norm_program.proofs.EndingLemmas.{counts}

-- In plain variables: the input (i) and the count of failed reads (r), the output's pieces before, when a run stopped and after (u, v, w) with the
-- counts of failed writes (k, l, t), and what only nodes call: the network (n), the files (f), the moments (m), and the counts of failed calls
-- of the network (q) and of the files (x, y).

-- ---- the profile

-- its file is not there
absent_profile : (ending : Ending) (path : List ℕ) (i : Option (List ℕ)) (u w : Pieces) (r k t : ℕ) (n : Network) (f : Told) (m : Option (List ℕ)) (q x y : ℕ)
    → IsUnloaded f path load.Absent → y ≡ x → IsAbsentEnding ending path u w k t
    → EndsUnloaded path ending (outside i u r k (called_as n f m q x)) (outside i w r t (called_as n f m q y))
absent_profile (Absent said) path i u w r k t n f m q x y cause count h = (
  h.0,
  record {
    cause = cause;
    output = h.1;
    unbegun = record { input = refl; reads = refl; files = refl };
    undisturbed = record { reads = refl; calls = refl; files = count };
  },
)
absent_profile Memory path i u w r k t n f m q x y cause count h = record {
  output = h.0;
  writes = h.1;
  unbegun = record { input = refl; reads = refl; files = refl };
  undisturbed = record { reads = refl; calls = refl; files = count };
}
absent_profile _ path i u w r k t n f m q x y cause count h = absurd h

-- by why there is none
unloaded_by : (failed : LoadFault) (ending : Ending) (path : List ℕ) (i : Option (List ℕ)) (u w : Pieces) (r k t : ℕ) (n : Network) (f : Told) (m : Option (List ℕ)) (q x y : ℕ)
    → IsUnloaded f path failed → y ≡ count_after x (has_failed {T = ℕ} (Err failed)) → IsUnloadedEnding failed ending path u w k t
    → EndsUnloaded path ending (outside i u r k (called_as n f m q x)) (outside i w r t (called_as n f m q y))
unloaded_by (load.Refused why) ending path i u w r k t n f m q x y cause count h =
    let P : Ending → Type 0 = λ e. EndsUnloaded path e (outside i u r k (called_as n f m q x)) (outside i w r t (called_as n f m q y)) in
    subst P (sym h.0) record {
      cause = cause;
      output = h.1;
      unbegun = record { input = refl; reads = refl; files = refl };
      undisturbed = record { reads = refl; calls = refl; files = count };
    }
unloaded_by load.Absent ending path i u w r k t n f m q x y cause count h =
    absent_profile ending path i u w r k t n f m q x y cause count h
unloaded_by load.Failed ending path i u w r k t n f m q x y cause count h =
    let P : Ending → Type 0 = λ e. EndsUnloaded path e (outside i u r k (called_as n f m q x)) (outside i w r t (called_as n f m q y)) in
    subst P (sym h.0) record {
      cause = count;
      output = h.1;
      unbegun = record { input = refl; reads = refl; files = refl };
    }
unloaded_by load.Memory ending path i u w r k t n f m q x y cause count h =
    let P : Ending → Type 0 = λ e. EndsUnloaded path e (outside i u r k (called_as n f m q x)) (outside i w r t (called_as n f m q y)) in
    subst P (sym h.0) record {
      output = h.1;
      writes = h.2;
      unbegun = record { input = refl; reads = refl; files = refl };
      undisturbed = record { reads = refl; calls = refl; files = count };
    }

-- a load that gave no profile ended the program
pub unloaded_ends : (ending : Ending) (path : List ℕ) (i : Option (List ℕ)) (u w : Pieces) (r k t : ℕ) (n : Network) (f g : Told) (m : Option (List ℕ)) (q x y : ℕ)
    → IsLoading path ending f u w k t x y → g ≡ f
    → EndsUnloaded path ending (outside i u r k (called_as n f m q x)) (outside i w r t (called_as n g m q y))
unloaded_ends ending path i u w r k t n f g m q x y h same =
    let P : Told → Type 0 = λ files. EndsUnloaded path ending (outside i u r k (called_as n f m q x)) (outside i w r t (called_as n files m q y)) in
    subst P (sym same) (unloaded_by h.failed ending path i u w r k t n f m q x y h.cause h.count h.said)

-- a node ended under the profile that was loaded
pub loaded_ends : (path : List ℕ) (Ends : Settings → Ending → Outside → Outside → Type 0) (ending : Ending) (p : Settings) (i : Option (List ℕ)) (u v : Pieces)
    (r k l : ℕ) (n : Network) (f g : Told) (m : Option (List ℕ)) (q x y : ℕ) (after : Outside) → v ≡ u → l ≡ k → g ≡ f → y ≡ x
    → IsOfFile f path (Ok p) → Ends p ending (outside i v r l (called_as n g m q y)) after
    → EndsUnder path Ends ending (outside i u r k (called_as n f m q x)) after
loaded_ends path Ends ending p i u v r k l n f g m q x y after pieces writes files faults file h =
    let A : Pieces → Type 0 = λ z. Ends p ending (outside i z r l (called_as n g m q y)) after in
    let B : ℕ → Type 0 = λ z. Ends p ending (outside i u r z (called_as n g m q y)) after in
    let C : Told → Type 0 = λ z. Ends p ending (outside i u r k (called_as n z m q y)) after in
    let D : ℕ → Type 0 = λ z. Ends p ending (outside i u r k (called_as n f m q z)) after in
    inr (p, file, subst D faults (subst C files (subst B writes (subst A pieces h))))

-- ---- a run that a fault broke off

-- no file was absent
abbrev pub IsPresent : SessionFault → Type 0
IsPresent (fault.Absent name) = ⊥
IsPresent _ = ⊤

pub broken_ends : (T : Type 0) (Stops : SessionFault → Outside → Type 0) (stop : SessionFault) (ending : Ending) (i : Option (List ℕ)) (u v w : Pieces)
    (r k l t : ℕ) (c d : Called) → IsPresent stop → ((z : ℕ) → Stops stop (outside i v r z d)) → HasCause {T = T} (Err stop) (counts k c) (counts l d)
    → IsStoppedEnding stop ending v w l t → EndsBroken Stops ending (outside i u r k c) (outside i w r t d)
broken_ends T Stops fault.Memory ending i u v w r k l t c d present stops cause h =
    let P : Ending → Type 0 = λ e. EndsBroken Stops e (outside i u r k c) (outside i w r t d) in
    let Q : Pieces → Type 0 = λ z. Stops fault.Memory (outside i z r t d) in
    subst P (sym h.0) (
      subst Q (sym h.1) (stops t),
      (record { reads = refl; calls = ap (λ n. n.network) cause; files = ap (λ n. n.files) cause }, h.2 ∙ ap (λ n. n.output) cause),
    )
broken_ends T Stops fault.Write ending i u v w r k l t c d present stops cause h =
    let P : Ending → Type 0 = λ e. EndsBroken Stops e (outside i u r k c) (outside i w r t d) in
    let Q : Pieces → Type 0 = λ z. Stops fault.Write (outside i z r t d) in
    subst P (sym h.0) record {
      cause = h.2 ∙ ap (λ n. n.output) cause;
      run = subst Q (sym h.1) (stops t);
      undisturbed = record { reads = refl; calls = ap (λ n. n.network) cause; files = ap (λ n. n.files) cause };
    }
broken_ends T Stops fault.Fabric ending i u v w r k l t c d present stops cause h =
    let writes : l ≡ k = ap (λ n. n.output) cause in
    let P : Ending → Type 0 = λ e. EndsBroken Stops e (outside i u r k c) (outside i w r t d) in
    subst P (sym h.0) record {
      cause = ap (λ n. n.network) cause;
      unsaid = v;
      run = stops t;
      output = rw writes at h.1;
      reads = refl;
      files = ap (λ n. n.files) cause;
    }
broken_ends T Stops fault.Files ending i u v w r k l t c d present stops cause h =
    let writes : l ≡ k = ap (λ n. n.output) cause in
    let P : Ending → Type 0 = λ e. EndsBroken Stops e (outside i u r k c) (outside i w r t d) in
    subst P (sym h.0) record {
      cause = ap (λ n. n.files) cause;
      unsaid = v;
      run = stops t;
      output = rw writes at h.1;
      reads = refl;
      calls = ap (λ n. n.network) cause;
    }
broken_ends T Stops (fault.Absent name) ending i u v w r k l t c d present stops cause h = absurd present

-- ---- a receiver

-- no receiver looks into a file
receiver_present : (stop : SessionFault) (p : Settings) (node : ℕ) (before after : shown.Outside) → StopsReceiver stop p node before after → IsPresent stop
receiver_present fault.Write p node before after h = tt
receiver_present fault.Fabric p node before after h = tt
receiver_present fault.Files p node before after h = tt
receiver_present fault.Memory p node before after h = tt
receiver_present (fault.Absent name) p node before after (inl none) = elim none.why [ inl e ↦ absurd (cc) | inr e ↦ absurd (cc) ]
receiver_present (fault.Absent name) p node before after (inr broken) = absurd broken.stopped.leaves

-- of a receiver that a fault broke off
receiver_broken : (ending : Ending) (node : ℕ) (p : Settings) (before after : Outside) → EndsBroken (BrokenReceiver p node before) ending before after
    → EndsReceiver node p ending before after
receiver_broken Done node p before after h = absurd h
receiver_broken (Profile why) node p before after h = absurd h
receiver_broken _ node p before after h = h

pub receiver_stopped : (T : Type 0) (stop : SessionFault) (ending : Ending) (node : ℕ) (p : Settings) (i : Option (List ℕ)) (u v w : Pieces)
    (r k l t : ℕ) (c d : Called) → is_receiver p node ≡ true → StopsReceiver stop p node (seen (outside i u r k c)) (seen (outside i v r l d))
    → HasCause {T = T} (Err stop) (counts k c) (counts l d) → IsStoppedEnding stop ending v w l t
    → EndsReceiver node p ending (outside i u r k c) (outside i w r t d)
receiver_stopped T stop ending node p i u v w r k l t c d is_one stops cause h =
    let before = outside i u r k c in
    receiver_broken ending node p before (outside i w r t d) (broken_ends T (BrokenReceiver p node before) stop ending i u v w r k l t c d
    (receiver_present stop p node (seen before) (seen (outside i v r l d)) stops) (λ z. record { is_one = is_one; run = stops; input = refl }) cause h)

pub received : (T : Type 0) (x : T) (node : ℕ) (p : Settings) (i : Option (List ℕ)) (u v : Pieces) (r k l : ℕ) (c d : Called) → is_receiver p node ≡ true
    → RunsReceiver p node (seen (outside i u r k c)) (seen (outside i v r l d)) → HasCause (Ok x) (counts k c) (counts l d)
    → EndsReceiver node p Done (outside i u r k c) (outside i v r l d)
received T x node p i u v r k l c d is_one runs cause = record {
  is_one = is_one;
  run = runs;
  input = refl;
  no_fault = (record { reads = refl; calls = ap (λ n. n.network) cause; files = ap (λ n. n.files) cause }, ap (λ n. n.output) cause);
}

-- ---- the hub

-- no hub looks into a file
hub_present : (stop : SessionFault) (p : Settings) (before after : Around) → StopsHub stop p before after → IsPresent stop
hub_present fault.Write p before after h = tt
hub_present fault.Fabric p before after h = tt
hub_present fault.Files p before after h = tt
hub_present fault.Memory p before after h = tt
hub_present (fault.Absent name) p before after (inl none) = elim none.why [ inl e ↦ absurd (cc) | inr e ↦ absurd (cc) ]
hub_present (fault.Absent name) p before after (inr broken) = absurd broken.stopped.leaves

-- of a hub that a fault broke off
hub_broken : (ending : Ending) (p : Settings) (before after : Outside) → EndsBroken (BrokenHub p before) ending before after → EndsHub p ending before after
hub_broken Done p before after h = absurd h
hub_broken _ p before after h = h

-- with files that nobody calls (f), and the counts of failed calls of the network (q, s) and of the files (x)
pub hub_stopped : (T : Type 0) (stop : SessionFault) (ending : Ending) (p : Settings) (i : Option (List ℕ)) (u w : Pieces) (r k t : ℕ) (n o : Network) (f : Told)
    (m z : Option (List ℕ)) (q s x : ℕ) → StopsHub stop p (heard (outside i u r k (called_as n f m q x))) (heard (outside i u r k (called_as o f z s x)))
    → HasCause {T = T} (Err stop) (counts k (called_as n f m q x)) (counts k (called_as o f z s x)) → IsStoppedEnding stop ending u w k t
    → EndsHub p ending (outside i u r k (called_as n f m q x)) (outside i w r t (called_as o f z s x))
hub_stopped T stop ending p i u w r k t n o f m z q s x stops cause h =
    let before = outside i u r k (called_as n f m q x) in
    let at = outside i u r k (called_as o f z s x) in
    hub_broken ending p before (outside i w r t (called_as o f z s x)) (broken_ends T (BrokenHub p before) stop ending i u u w r k k t (called_as n f m q x)
    (called_as o f z s x) (hub_present stop p (heard before) (heard at) stops)
    (λ y. record { run = stops; uncalled = record { input = refl; output = refl; files = refl } }) cause h)

pub passed : (T : Type 0) (y : T) (p : Settings) (i : Option (List ℕ)) (u : Pieces) (r k : ℕ) (n o : Network) (f : Told) (m z : Option (List ℕ)) (q s x : ℕ)
    → RunsHub p (heard (outside i u r k (called_as n f m q x))) (heard (outside i u r k (called_as o f z s x)))
    → HasCause (Ok y) (counts k (called_as n f m q x)) (counts k (called_as o f z s x))
    → EndsHub p Done (outside i u r k (called_as n f m q x)) (outside i u r k (called_as o f z s x))
passed T y p i u r k n o f m z q s x runs cause = record {
  run = runs;
  uncalled = record { input = refl; output = refl; files = refl };
  no_fault = (record { reads = refl; calls = ap (λ n. n.network) cause; files = refl }, refl);
}
