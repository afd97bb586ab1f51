-- Copies that are put one after the other.
use Rattle.std.proofs.Common.{◌≡◌, ◌∙◌, ℕ, zero, suc, arith, ◌+◌, ◌<◌, ◌≤◌, List, [], ◌∷◌, ◌++◌, length, take, drop, get_or, true, false, refl, sym, ap, subst, append_assoc, append-nil, add-one}
use Rattle.std.specs.Prelude.{◌==◌, Some, IfSome, map, slice_index_or}
use Rattle.std.specs.List.{flat_map}
use Rattle.std.proofs.lemmas.Grind.{flat_map-append}
use Rattle.std.proofs.lemmas.List.{map-append, take-append-drop}
use Rattle.norm_base.specs.Contents.{content_of, ChangesOnly}
use Rattle.norm_base.specs.Members.{receivers_of}
use Rattle.norm_base.specs.Settings.{Settings}
use Rattle.norm_journal.specs.Jobs.{Told}
use Rattle.norm_order.specs.declared.up.Up.{Up}
use Rattle.norm_record.specs.Events.{no_hand_up}
use Rattle.norm_record.specs.HandedUp.{hand_of}
use Rattle.norm_record.specs.declared.entry.Hand.{Hand}
use Rattle.norm_record.specs.declared.ups.HandUp.{HandUp}
use Rattle.norm_turns.specs.declared.fault.SessionFault.{SessionFault}
use Rattle.norm_turns.specs.declared.fault.SessionFault.TheVariants as fault
use Rattle.norm_folder.specs.Copies.{ArePut, FailedPut, LackedPut, StopsPuts, copies, copies_by, copy_of}
use Rattle.norm_arrival.specs.HandedBy.{up_of, ups_of}
use Rattle.norm_folder.proofs.CheckLemmas.{handed, others_more, own_more, receivers_after}

abbrev File : Type 0
File = List ℕ × List ℕ

-- ---- one behind the other

pub put_on : (files more : List File) (a b c : Told) → ArePut files a b → ArePut more b c → ArePut (files ++ more) a c
put_on [] more a b c h k = subst (λ x. ArePut more x c) h k
put_on (file ∷ files) more a b c h k = (h.0, h.1, put_on files more h.0 b c h.2 k)

fails_behind : (files more : List File) (a b c : Told) → ArePut files a b → FailedPut more b c → FailedPut (files ++ more) a c
fails_behind files more a b c h k = record {
  front = files ++ k.front;
  file = k.file;
  rest = k.rest;
  are = ap (λ l. files ++ l) k.are ∙ sym (append_assoc files k.front (k.file ∷ k.rest));
  between = k.between;
  put = put_on files k.front a b k.between h k.put;
  others = k.others;
}

lacks_behind : (files more : List File) (a b c : Told) → ArePut files a b → LackedPut more b c → LackedPut (files ++ more) a c
lacks_behind files more a b c h k = record {
  front = files ++ k.front;
  rest = k.rest;
  are = ap (λ l. files ++ l) k.are ∙ sym (append_assoc files k.front k.rest);
  put = put_on files k.front a b c h k.put;
}

pub stops_behind : (why : SessionFault) (files more : List File) (a b c : Told) → ArePut files a b → StopsPuts why more b c → StopsPuts why (files ++ more) a c
stops_behind fault.Write files more a b c h k = k
stops_behind fault.Fabric files more a b c h k = k
stops_behind fault.Files files more a b c h k = fails_behind files more a b c h k
stops_behind fault.Memory files more a b c h k = lacks_behind files more a b c h k
stops_behind (fault.Absent name) files more a b c h k = k

-- what stops the first of them stops all
pub stops_before : (why : SessionFault) (files more : List File) (a c : Told) → StopsPuts why files a c → StopsPuts why (files ++ more) a c
stops_before fault.Write files more a c k = k
stops_before fault.Fabric files more a c k = k
stops_before fault.Files files more a c k = record {
  front = k.front;
  file = k.file;
  rest = k.rest ++ more;
  are = ap (λ l. l ++ more) k.are ∙ append_assoc k.front (k.file ∷ k.rest) more;
  between = k.between;
  put = k.put;
  others = k.others;
}
stops_before fault.Memory files more a c k = record {
  front = k.front;
  rest = k.rest ++ more;
  are = ap (λ l. l ++ more) k.are ∙ append_assoc k.front k.rest more;
  put = k.put;
}
stops_before (fault.Absent name) files more a c k = k

-- there was no memory for any
pub lacks_all : (files : List File) (a : Told) → StopsPuts fault.Memory files a a
lacks_all files a = record { front = []; rest = files; are = refl; put = refl }

-- one file
pub put_one : (file : File) (a b : Told) → IfSome b (λ files. content_of files file.0 ≡ Some file.1) → ChangesOnly a b file.0 → ArePut (file ∷ []) a b
put_one file a b content others = (b, record { content = content; others = others }, refl)

pub fails_one : (file : File) (a b : Told) → ChangesOnly a b file.0 → StopsPuts fault.Files (file ∷ []) a b
fails_one file a b others = record { front = []; file = file; rest = []; are = refl; between = a; put = refl; others = others }

-- ---- the hand-ups of a node

pub by_more : (node : ℕ) (ups : List Up) (hand_up : Up) → flat_map (copy_of node) (ups ++ hand_up ∷ []) ≡ flat_map (copy_of node) ups ++ copy_of node hand_up
by_more node ups hand_up =
    flat_map-append (copy_of node) ups (hand_up ∷ []) ∙ ap (λ l. flat_map (copy_of node) ups ++ l) (append-nil (copy_of node hand_up))

-- ---- the receivers

abbrev pub of_receivers : List (ℕ × Up) → Settings → ℕ → List File
of_receivers handed p i = copies handed (receivers_of p i)

pub receivers_more : (handed : List (ℕ × Up)) (p : Settings) (i : ℕ) → of_receivers handed p (i + 1) ≡ of_receivers handed p i ++ copies_by handed (p.sender + 1 + i)
receivers_more handed p i =
    ap (λ k. copies handed (receivers_of p k)) (add-one i)
    ∙ flat_map-append (copies_by handed) (receivers_of p i) ((p.sender + 1 + i) ∷ [])
    ∙ ap (λ l. of_receivers handed p i ++ l) (append-nil (copies_by handed (p.sender + 1 + i)))

-- the copies from one receiver on
pub receivers_rest : (handed : List (ℕ × Up)) (p : Settings) (i n : ℕ) → i ≤ n → (rest : List File) × (of_receivers handed p n ≡ of_receivers handed p i ++ rest)
receivers_rest handed p i n le =
    let h = receivers_after p i n le in
    (copies handed h.0, ap (copies handed) h.1 ∙ flat_map-append (copies_by handed) (receivers_of p i) h.0)

-- those of one more receiver
of_more : (handed : List (ℕ × Up)) (p : Settings) (i node : ℕ) → node ≡ p.sender + 1 + i
    → of_receivers handed p (i + 1) ≡ of_receivers handed p i ++ copies_by handed node
of_more handed p i node is = receivers_more handed p i ∙ ap (λ (n : ℕ). of_receivers handed p i ++ copies_by handed n) (sym is)

-- what one more receiver handed up was put
pub receiver_put : (handed : List (ℕ × Up)) (p : Settings) (i node : ℕ) (a b c : Told) → node ≡ p.sender + 1 + i
    → ArePut (of_receivers handed p i) a b → ArePut (copies_by handed node) b c → ArePut (of_receivers handed p (i + 1)) a c
receiver_put handed p i node a b c is put one =
    subst (λ (l : List File). ArePut l a c) (sym (of_more handed p i node is)) (put_on (of_receivers handed p i) (copies_by handed node) a b c put one)

-- the puts of one receiver stopped
pub receiver_stops : (why : SessionFault) (handed : List (ℕ × Up)) (p : Settings) (i n node : ℕ) (a b c : Told) → i < n → node ≡ p.sender + 1 + i
    → ArePut (of_receivers handed p i) a b → StopsPuts why (copies_by handed node) b c → StopsPuts why (of_receivers handed p n) a c
receiver_stops why handed p i n node a b c lt is put stop =
    let here = stops_behind why (of_receivers handed p i) (copies_by handed node) a b c put stop in
    let more = subst (λ (l : List File). StopsPuts why l a c) (sym (of_more handed p i node is)) here in
    let rest = receivers_rest handed p (i + 1) n (omega (arith, lt)) in
    subst (λ (l : List File). StopsPuts why l a c) (sym rest.1) (stops_before why (of_receivers handed p (i + 1)) rest.0 a c more)

-- ---- one hand-up after the other

copies_on : (node : ℕ) (ups : List HandUp) (hands : List Hand) (i : ℕ) (h : Hand) → i < length hands → h ≡ get_or hands i h → h.node == node ≡ true
    → copies_by (handed ups hands (i + 1)) node ≡ copies_by (handed ups hands i) node ++ copy_of node (hand_of ups h).1
copies_on node ups hands i h lt is own =
    ap (λ (l : List Up). flat_map (copy_of node) l) (own_more node ups hands i h lt is own) ∙ by_more node (ups_of node (handed ups hands i)) (hand_of ups h).1

-- one of this node was put
pub own_put : (node : ℕ) (ups : List HandUp) (hands : List Hand) (i : ℕ) (h : Hand) (a b c : Told) → i < length hands → h ≡ get_or hands i h → h.node == node ≡ true
    → ArePut (copies_by (handed ups hands i) node) a b → ArePut (copy_of node (hand_of ups h).1) b c → ArePut (copies_by (handed ups hands (i + 1)) node) a c
own_put node ups hands i h a b c lt is own put one =
    subst (λ (l : List File). ArePut l a c) (sym (copies_on node ups hands i h lt is own))
    (put_on (copies_by (handed ups hands i) node) (copy_of node (hand_of ups h).1) a b c put one)

-- one of another node
pub other_put : (node : ℕ) (ups : List HandUp) (hands : List Hand) (i : ℕ) (h : Hand) (a b : Told) → i < length hands → h ≡ get_or hands i h → h.node == node ≡ false
    → ArePut (copies_by (handed ups hands i) node) a b → ArePut (copies_by (handed ups hands (i + 1)) node) a b
other_put node ups hands i h a b lt is other put =
    subst (λ (l : List Up). ArePut (flat_map (copy_of node) l) a b) (sym (others_more node ups hands i h lt is other)) put

-- the copies of all, by those of the first so many
copies_rest : (node : ℕ) (ups : List HandUp) (hands : List Hand) (i : ℕ)
    → copies_by (map (hand_of ups) hands) node ≡ copies_by (handed ups hands i) node ++ copies_by (map (hand_of ups) (drop i hands)) node
copies_rest node ups hands i =
    ap (λ (l : List Hand). copies_by (map (hand_of ups) l) node) (sym (take-append-drop i hands))
    ∙ ap (λ (l : List (ℕ × Up)). copies_by l node) (map-append (hand_of ups) (take i hands) (drop i hands))
    ∙ ap (λ (l : List Up). flat_map (copy_of node) l) (flat_map-append (up_of node) (handed ups hands i) (map (hand_of ups) (drop i hands)))
    ∙ flat_map-append (copy_of node) (ups_of node (handed ups hands i)) (ups_of node (map (hand_of ups) (drop i hands)))

-- the put of one of this node stopped
pub own_stops : (why : SessionFault) (node : ℕ) (ups : List HandUp) (hands : List Hand) (i : ℕ) (h : Hand) (a b c : Told) → i < length hands → h ≡ get_or hands i h
    → h.node == node ≡ true → ArePut (copies_by (handed ups hands i) node) a b → StopsPuts why (copy_of node (hand_of ups h).1) b c
    → StopsPuts why (copies_by (map (hand_of ups) hands) node) a c
own_stops why node ups hands i h a b c lt is own put stop =
    let here = stops_behind why (copies_by (handed ups hands i) node) (copy_of node (hand_of ups h).1) a b c put stop in
    let more = subst (λ (l : List File). StopsPuts why l a c) (sym (copies_on node ups hands i h lt is own)) here in
    subst (λ (l : List File). StopsPuts why l a c) (sym (copies_rest node ups hands (i + 1)))
    (stops_before why (copies_by (handed ups hands (i + 1)) node) (copies_by (map (hand_of ups) (drop (i + 1) hands)) node) a c more)

-- a hand-up that is kept at a place, whatever stands for one that is not
any_default : (ups : List HandUp) (i : ℕ) (a b : HandUp) → i < length ups → slice_index_or ups i a ≡ slice_index_or ups i b
any_default [] i a b lt = absurd (omega (arith, lt))
any_default (u ∷ ups) zero a b lt = refl
any_default (u ∷ ups) (suc i) a b lt = any_default ups i a b (omega (arith, lt))

pub same_up : (ups : List HandUp) (h : Hand) (u : HandUp) → h.at < length ups → (hand_of ups h).1 ≡ (slice_index_or ups h.at u).up
same_up ups h u lt = ap (λ (x : HandUp). x.up) (any_default ups h.at no_hand_up u lt)
