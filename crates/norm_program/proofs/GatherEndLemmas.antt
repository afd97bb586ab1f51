-- How a gathering ends the program.
use Rattle.std.proofs.Common.{◌≡◌, ◌∙◌, sym, ap, subst, refl, ℕ, ◌+◌, ◌<◌, ◌≤◌, List, [], ◌∷◌, ◌++◌, length, take, drop, get_or, Option, None, Some, Result, Ok, Err, inl, inr}
use Rattle.std.specs.Prelude.{IfErr}
use Rattle.std.proofs.lemmas.List.{append-nil, take_more, drop_more, take_all, take-append-drop}
use Rattle.norm_base.specs.Network.{Network}
use Rattle.norm_base.specs.Settings.{Settings}
use Rattle.norm_base.specs.Told.{Pieces, gained}
use Rattle.norm_journal.specs.Jobs.{Told}
use Rattle.norm_multi.specs.Beginning.{fault_of, IsFault}
use Rattle.norm_multi.specs.declared.multi.MultiFault.{MultiFault}
use Rattle.norm_multi.specs.declared.multi.MultiFault.TheVariants as multi
use Rattle.norm_profile.specs.Loading.{IsOfFile}
use Rattle.norm_profile.specs.declared.loading.LoadFault.TheVariants as load
use Rattle.norm_show.specs.declared.fault.NoDatagram.{NoDatagram}
use Rattle.norm_turns.specs.Causes.{Counted, HasCause, WriteCause, counted}
use Rattle.norm_turns.specs.declared.fault.SessionFault.{SessionFault}
use Rattle.norm_turns.specs.declared.fault.SessionFault.TheVariants as fault
use Rattle.driven_nodes.specs.Gathered.{Printed, gathered}
use Rattle.driven_nodes.specs.Writing.{TookLines, LeavesLines}
use Rattle.norm_endings.specs.Outside.{Called, Says, IsInput, outside, called_as, refused_line}
use Rattle.norm_endings.specs.Endings.{IsReadEnding, IsStoppedEnding, IsLoading, IsRefusing}
use Rattle.norm_endings.specs.declared.status.Ending.{Ending}
use Rattle.norm_endings.specs.declared.status.Ending.TheVariants.{Done, Memory, Line, Read, Write}
use Rattle.norm_endings.specs.declared.status.ProfileFault.TheVariants.{Members}
use Rattle.norm_program.specs.GatherEnds.{AreLoaded, EndsAmong, EndsGather}
use Rattle.norm_program.specs.Gathering.{IsLinesEnding, IsMembersEnding, IsLoadingPair}
use Rattle.norm_program.specs.ShowEnds.{IsLineEnding}
use Rattle.driven_nodes.proofs.WritingLemmas.{leaves_same, wants_memory}
use Rattle.norm_program.proofs.NodeLemmas.{unloaded_ends}

-- ---- the lines

pub lines_done : (printed : Printed) (u w : Pieces) (k l : ℕ) → TookLines printed u w None → l ≡ k → IsLinesEnding Done printed u w k l
lines_done printed u w k l took quiet = (sym took.stop_is, took.output, quiet)

pub lines_refused : (ending : Ending) (printed : Printed) (stop : ℕ × NoDatagram) (u v w : Pieces) (k l t : ℕ) → TookLines printed u v (Some stop) → l ≡ k
    → IsLineEnding ending stop.0 stop.1 v w l t → IsLinesEnding ending printed u w k t
lines_refused (Line m reason) printed stop u v w k l t took quiet h = (
  sym took.stop_is ∙ ap (λ (n : ℕ). Some (n, stop.1)) (sym h.0) ∙ ap (λ (why : NoDatagram). Some (m, why)) (sym h.1),
  subst (λ n. Says (gained u printed.lines) w k t (refused_line n)) (sym h.0)
      (subst (λ x. Says x w k t (refused_line stop.0)) took.output (subst (λ n. Says v w n t (refused_line stop.0)) quiet h.2)),
)
lines_refused Memory printed stop u v w k l t took quiet h = (
  leaves_same fault.Memory u w (printed.lines ++ []) printed.lines (append-nil printed.lines) (wants_memory u w printed.lines [] (h.0 ∙ took.output)),
  h.1 ∙ quiet,
)
lines_refused _ printed stop u v w k l t took quiet h = absurd h

pub lines_broken : {T : Type 0} (result : Result T SessionFault) (f : SessionFault) (ending : Ending) (printed : Printed) (u v w : Pieces) (k l t : ℕ)
    → result ≡ Err f → LeavesLines f u v printed.lines → WriteCause result k l → IsStoppedEnding f ending v w l t → IsLinesEnding ending printed u w k t
lines_broken result fault.Memory ending printed u v w k l t is leaves cause h =
    let why = subst (λ r. HasCause r (counted k 0 0) (counted l 0 0)) is (cause 0 0) in
    subst (λ e. IsLinesEnding e printed u w k t) (sym h.0)
    (subst (λ x. LeavesLines fault.Memory u x printed.lines) (sym h.1) leaves, h.2 ∙ ap (λ (c : Counted). c.output) why)
lines_broken result fault.Write ending printed u v w k l t is leaves cause h =
    let why = subst (λ r. HasCause r (counted k 0 0) (counted l 0 0)) is (cause 0 0) in
    subst (λ e. IsLinesEnding e printed u w k t) (sym h.0)
    (subst (λ x. LeavesLines fault.Write u x printed.lines) (sym h.1) leaves, h.2 ∙ ap (λ (c : Counted). c.output) why)
lines_broken result fault.Fabric ending printed u v w k l t is leaves cause h = absurd leaves
lines_broken result fault.Files ending printed u v w k l t is leaves cause h = absurd leaves
lines_broken result (fault.Absent name) ending printed u v w k l t is leaves cause h = absurd leaves

-- ---- under these profiles and nodes

-- In plain variables: the input before and after (i, j), the output's pieces (u, v, w), the counts of failed reads (r, s) and writes (k, l, t), and
-- what nobody calls (called).

pub among_memory : (list : List (Settings × ℕ)) (i j : Option (List ℕ)) (u w : Pieces) (r s k t : ℕ) (called : Called) → w ≡ u → s ≡ r → t ≡ k
    → EndsAmong list Memory (outside i u r k called) (outside j w s t called)
among_memory list i j u w r s k t called same reads writes = record {
  some = inl (record { called = refl; output = same });
  no_fault = (record { reads = reads; calls = refl; files = refl }, writes);
}

among_refused : (list : List (Settings × ℕ)) (why : MultiFault) (ending : Ending) (i : Option (List ℕ)) (u w : Pieces) (r k t : ℕ) (called : Called)
    → fault_of list ≡ Some why → IsRefusing ending (Members why) u w k t → EndsAmong list ending (outside i u r k called) (outside i w r t called)
among_refused list why ending i u w r k t called is h =
    subst (λ e. EndsAmong list e (outside i u r k called) (outside i w r t called)) (sym h.0) record {
      refusal = why;
      is = is;
      why_is = refl;
      output = h.1;
      unbegun = refl;
    }

pub members_end : (list : List (Settings × ℕ)) (why : MultiFault) (ending : Ending) (i : Option (List ℕ)) (u w : Pieces) (r k t : ℕ) (called : Called)
    → IsFault why list → IsMembersEnding why ending u w k t → EndsAmong list ending (outside i u r k called) (outside i w r t called)
members_end list multi.Memory ending i u w r k t called is h =
    subst (λ e. EndsAmong list e (outside i u r k called) (outside i w r t called)) (sym h.0) (among_memory list i i u w r r k t called h.1 refl h.2)
members_end list (multi.NotReceiver n) ending i u w r k t called is h = among_refused list (multi.NotReceiver n) ending i u w r k t called is h
members_end list (multi.SameId node) ending i u w r k t called is h = among_refused list (multi.SameId node) ending i u w r k t called is h

pub read_end : (ending : Ending) (list : List (Settings × ℕ)) (i j : Option (List ℕ)) (u w : Pieces) (r s k t : ℕ) (called : Called) → IsReadEnding ending r s u w k t
    → EndsAmong list ending (outside i u r k called) (outside j w s t called)
read_end Memory list i j u w r s k t called h = among_memory list i j u w r s k t called h.1 h.0 h.2
read_end Read list i j u w r s k t called h = record { cause = h.0; called = refl; output = h.1 }
read_end _ list i j u w r s k t called h = absurd h

lines_among : (ending : Ending) (list : List (Settings × ℕ)) (text : List ℕ) (i j : Option (List ℕ)) (u w : Pieces) (r s k t : ℕ) (called : Called)
    → IsInput text i j → s ≡ r → IsLinesEnding ending (gathered list text) u w k t → EndsAmong list ending (outside i u r k called) (outside j w s t called)
lines_among Done list text i j u w r s k t called input reads h = record {
  text = text;
  input = input;
  whole = h.0;
  output = h.1;
  called = refl;
  no_fault = (record { reads = reads; calls = refl; files = refl }, h.2);
}
lines_among (Line n why) list text i j u w r s k t called input reads h = record {
  text = text;
  input = input;
  stop = h.0;
  output = h.1;
  called = refl;
  undisturbed = record { reads = reads; calls = refl; files = refl };
}
lines_among Write list text i j u w r s k t called input reads h = record {
  cause = h.1;
  less = record { text = text; input = input; output = h.0; called = refl };
  undisturbed = record { reads = reads; calls = refl; files = refl };
}
lines_among Memory list text i j u w r s k t called input reads h = record {
  some = inr (record { text = text; input = input; output = h.0; called = refl });
  no_fault = (record { reads = reads; calls = refl; files = refl }, h.1);
}
lines_among _ list text i j u w r s k t called input reads h = absurd h

pub lines_end : (ending : Ending) (list : List (Settings × ℕ)) (text : List ℕ) (i j : Option (List ℕ)) (u v w : Pieces) (r s k l t : ℕ) (called : Called)
    → IsInput text i j → s ≡ r → v ≡ u → l ≡ k → IsLinesEnding ending (gathered list text) v w l t
    → EndsAmong list ending (outside i u r k called) (outside j w s t called)
lines_end ending list text i j u v w r s k l t called input reads same quiet h =
    lines_among ending list text i j u w r s k t called input reads
    (subst (λ n. IsLinesEnding ending (gathered list text) u w n t) quiet (subst (λ x. IsLinesEnding ending (gathered list text) x w l t) same h))

-- ---- the profiles

pub loaded_more : (files : Told) (front : List (List ℕ × ℕ)) (list : List (Settings × ℕ)) (pair : List ℕ × ℕ) (x : Settings × ℕ) → AreLoaded files front list
    → IsOfFile files pair.0 (Ok x.0) → x.1 ≡ pair.1 → AreLoaded files (front ++ pair ∷ []) (list ++ x ∷ [])
loaded_more files [] [] pair x loaded file node = (file, node, tt)
loaded_more files [] (y ∷ list) pair x loaded file node = absurd loaded
loaded_more files (q ∷ front) [] pair x loaded file node = absurd loaded
loaded_more files (q ∷ front) (y ∷ list) pair x loaded file node = (loaded.0, loaded.1, loaded_more files front list pair x loaded.2 file node)

-- memory was wanting for one of them
pub no_room : (path : List ℕ) (files : Told) (u w : Pieces) (k t x y : ℕ) → w ≡ u → t ≡ k → y ≡ x → IsLoading path Memory files u w k t x y
no_room path files u w k t x y same quiet count = record { failed = load.Memory; cause = tt; count = count; said = (refl, same, quiet) }

at_pair : (pairs : List (List ℕ × ℕ)) (i : ℕ) (pair : List ℕ × ℕ) → i < length pairs → pair ≡ get_or pairs i pair
    → pairs ≡ take i pairs ++ pair ∷ drop (i + 1) pairs
at_pair pairs i pair lt is =
    sym (take-append-drop i pairs) ∙ ap (λ ps. take i pairs ++ ps) (drop_more pairs i pair lt) ∙ ap (λ p. take i pairs ++ p ∷ drop (i + 1) pairs) (sym is)

-- one of them could not be loaded
pub pair_fails : (pairs : List (List ℕ × ℕ)) (list : List (Settings × ℕ)) (i : ℕ) (pair : List ℕ × ℕ) (path : List ℕ) (ending : Ending) (f g : Told) (u v w : Pieces)
    (k l t x y z : ℕ) → i < length pairs → pair ≡ get_or pairs i pair → AreLoaded f (take i pairs) list → g ≡ f → v ≡ u → l ≡ k → y ≡ x → path ≡ pair.0
    → IsLoading path ending g v w l t y z → IsLoadingPair pairs ending f u w k t x z
pair_fails pairs list i pair path ending f g u v w k l t x y z lt is loaded files pieces writes faults path_is h =
    let a = subst (λ n. IsLoading n ending g v w l t y z) path_is h in
    let b = subst (λ n. IsLoading pair.0 ending n v w l t y z) files a in
    let c = subst (λ n. IsLoading pair.0 ending f n w l t y z) pieces b in
    let d = subst (λ n. IsLoading pair.0 ending f u w n t y z) writes c in record {
      front = take i pairs;
      list = list;
      pair = pair;
      rest = drop (i + 1) pairs;
      all = at_pair pairs i pair lt is;
      loaded = loaded;
      loading = subst (λ n. IsLoading pair.0 ending f u w k t n z) faults d;
    }

-- there was no memory for one of them
pub pair_lacks : (pairs : List (List ℕ × ℕ)) (list : List (Settings × ℕ)) (i : ℕ) (pair : List ℕ × ℕ) (f : Told) (u v : Pieces) (k l x y : ℕ)
    → i < length pairs → pair ≡ get_or pairs i pair → AreLoaded f (take i pairs) list → v ≡ u → l ≡ k → y ≡ x → IsLoadingPair pairs Memory f u v k l x y
pair_lacks pairs list i pair f u v k l x y lt is loaded pieces writes faults = record {
  front = take i pairs;
  list = list;
  pair = pair;
  rest = drop (i + 1) pairs;
  all = at_pair pairs i pair lt is;
  loaded = loaded;
  loading = no_room pair.0 f u v k l x y pieces writes faults;
}

-- one more was loaded
pub pairs_more : (pairs : List (List ℕ × ℕ)) (list now : List (Settings × ℕ)) (i : ℕ) (pair : List ℕ × ℕ) (path : List ℕ) (p : Settings) (f g : Told) → i < length pairs
    → pair ≡ get_or pairs i pair → AreLoaded f (take i pairs) list → g ≡ f → path ≡ pair.0 → IsOfFile g path (Ok p) → now ≡ list ++ (p, pair.1) ∷ []
    → AreLoaded f (take (i + 1) pairs) now
pairs_more pairs list now i pair path p f g lt is loaded files path_is file put =
    let these : take (i + 1) pairs ≡ take i pairs ++ pair ∷ [] = take_more pairs i pair lt ∙ ap (λ x. take i pairs ++ x ∷ []) (sym is) in
    subst (λ ps. AreLoaded f ps now) (sym these)
    (subst (λ l. AreLoaded f (take i pairs ++ pair ∷ []) l) (sym put)
    (loaded_more f (take i pairs) list pair (p, pair.1) loaded (subst (λ n. IsOfFile f n (Ok p)) path_is (subst (λ n. IsOfFile n path (Ok p)) files file)) refl))

pub pairs_all : (pairs : List (List ℕ × ℕ)) (list : List (Settings × ℕ)) (i : ℕ) (f : Told) → length pairs ≤ i → AreLoaded f (take i pairs) list → AreLoaded f pairs list
pairs_all pairs list i f past loaded = subst (λ ps. AreLoaded f ps list) (take_all i pairs past) loaded

-- an ending that `?` hands on
pub at_ending : {T : Type 0} (P : Ending → Type 0) (r : Result T Ending) (y ending : Ending) → r ≡ Err y → y ≡ ending → P ending → IfErr r P
at_ending P r y ending is same h = subst (λ s. IfErr s P) (sym is) (subst P (sym same) h)

-- with the network (n), the files (f, g), the moments (m), and the counts of failed calls of the network (q) and of the files (x, y)
pub pair_ends : (pairs : List (List ℕ × ℕ)) (ending : Ending) (i : Option (List ℕ)) (u w : Pieces) (r k t : ℕ) (n : Network) (f g : Told) (m : Option (List ℕ)) (q x y : ℕ)
    → IsLoadingPair pairs ending f u w k t x y → g ≡ f
    → EndsGather pairs ending (outside i u r k (called_as n f m q x)) (outside i w r t (called_as n g m q y))
pair_ends pairs ending i u w r k t n f g m q x y h same = inl (record {
  front = h.front;
  list = h.list;
  pair = h.pair;
  rest = h.rest;
  all = h.all;
  loaded = h.loaded;
  unloaded = unloaded_ends ending h.pair.0 i u w r k t n f g m q x y h.loading same;
})

pub gather_ends : (pairs : List (List ℕ × ℕ)) (list : List (Settings × ℕ)) (ending : Ending) (i j : Option (List ℕ)) (u v w : Pieces) (r s k l t : ℕ)
    (n : Network) (f g : Told) (m : Option (List ℕ)) (q x y : ℕ) → v ≡ u → l ≡ k → g ≡ f → y ≡ x → AreLoaded f pairs list
    → ((called : Called) → EndsAmong list ending (outside i v r l called) (outside j w s t called))
    → EndsGather pairs ending (outside i u r k (called_as n f m q x)) (outside j w s t (called_as n g m q y))
gather_ends pairs list ending i j u v w r s k l t n f g m q x y pieces writes files faults loaded h =
    let ends = subst (λ z. EndsAmong list ending (outside i z r l (called_as n f m q x)) (outside j w s t (called_as n f m q x))) pieces (h (called_as n f m q x)) in
    let under = subst (λ z. EndsAmong list ending (outside i u r z (called_as n f m q x)) (outside j w s t (called_as n f m q x))) writes ends in
    let last = subst (λ z. EndsAmong list ending (outside i u r k (called_as n f m q x)) (outside j w s t (called_as n z m q x))) (sym files) under in
    inr (list, loaded, subst (λ z. EndsAmong list ending (outside i u r k (called_as n f m q x)) (outside j w s t (called_as n g m q z))) (sym faults) last)

-- of the pairs that the words give
pub loaded_here : (f : Told) (these pairs : List (List ℕ × ℕ)) (list : List (Settings × ℕ)) → these ≡ pairs → AreLoaded f these list → AreLoaded f pairs list
loaded_here f these pairs list same h = subst (λ ps. AreLoaded f ps list) same h

pub loading_here : (these pairs : List (List ℕ × ℕ)) (ending : Ending) (f : Told) (u w : Pieces) (k t x y : ℕ) → these ≡ pairs
    → IsLoadingPair these ending f u w k t x y → IsLoadingPair pairs ending f u w k t x y
loading_here these pairs ending f u w k t x y same h = subst (λ ps. IsLoadingPair ps ending f u w k t x y) same h
