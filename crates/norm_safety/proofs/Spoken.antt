-- What a sender says is read again of its octets, and is true of its orders.
use Rattle.std.proofs.Common.{◌≡◌, ℕ, zero, suc, ◌+◌, ◌*◌, ◌/◌, ◌<◌, ◌≤◌, List, [], ◌∷◌, ◌++◌, Bool, true, false, Option, None, Some, Ok, refl, sym, ap, ◌∙◌, subst, arith, inl, inr}
use Rattle.std.specs.Prelude.{◌⊎◌, slice_get, nat_lt, nat_eq, ⊤, IsTrue, IsSomeAnd}
use Rattle.std.specs.List.{AllByRecursion, IsDistinct}
use Rattle.byteorder.specs.Endian.{big_bytes}
use Rattle.norm_base.specs.Settings.{Settings, InRange}
use Rattle.norm_base.specs.declared.kinds.Kind.TheVariants as kind
use Rattle.fec_plan.specs.Points.{Point, point, point_before}
use Rattle.fec_plan.specs.declared.position.Position.{Position}
use Rattle.norm_ext.specs.Extensions.{IsExtension, fti_extension, fti_of}
use Rattle.norm_ext.specs.Message.{Message, Info, Data, Flush, Squelch, Ack, InfoMessage, DataMessage, FlushCommand, SquelchCommand}
use Rattle.norm_ext.specs.Numbers.{number}
use Rattle.norm_ext.specs.ObjectIds.{object_id}
use Rattle.norm_ext.specs.InstanceIds.{rise}
use Rattle.norm_ext.specs.Written.{Written, writes}
use Rattle.norm_ext.specs.Reading.{decoded}
use Rattle.norm_ext.specs.Spells.{IsMessage, IsObjectHead, IsCommandHead, AreExtensions}
use Rattle.norm_ext.specs.declared.fti.Fti.{Fti}
use Rattle.norm_ext.specs.declared.head.CmdHead.{CmdHead}
use Rattle.norm_ext.proofs.LawsHold.{read_again_law}
use Rattle.norm_order.specs.Entries.{Object, Whole, Stream, Entry}
use Rattle.norm_order.specs.Shapes.{Shape, shape_of, shapes_of, closed_in, encoded_in, at_index, is_source}
use Rattle.norm_order.specs.Symbols.{symbol_octets}
use Rattle.norm_order.proofs.UptoLemmas.{same_entry, nothing_there}
use Rattle.std.proofs.lemmas.Option.{slice_get_within}
use Rattle.norm_send_rules.specs.SenderState.{SenderState, Instance}
use Rattle.norm_send_rules.specs.InWindow.{current_shapes}
use Rattle.norm_send_rules.specs.Restarting.{instances}
use Rattle.norm_send_rules.specs.Messages.{told_length, fti_of_object, object_flags, object_head, command_head, data_message, squelch_message}
use Rattle.norm_send_rules.specs.Sending.{message_of}
use Rattle.norm_send_rules.specs.Wants.{want_index}
use Rattle.norm_send_rules.specs.Laws.{is_of_order}
use Rattle.norm_send_rules.specs.declared.want.Want.{Want}
use Rattle.norm_send_rules.specs.declared.want.Want.TheVariants.{Info as WantedInfo, Symbol}
use Rattle.norm_safety.specs.OnceEach.{order_of, instance_ids}
use Rattle.norm_safety.specs.Said.{About, about, entry_at}
use Rattle.norm_safety.specs.SaysPositions.{flushes_source}
use Rattle.norm_safety.specs.SaysSymbols.{SaysSymbol, SaysInfo, SaysObject, info_of_object}
use Rattle.norm_safety.proofs.Feedback.{SaysNothing}
use Rattle.norm_safety.proofs.EntryLemmas.{clash}
use Rattle.norm_safety.proofs.PlaceLemmas.{current_found}
use Rattle.norm_safety.proofs.SizedOrders.{IsSized, AreSized}
use Rattle.norm_safety.proofs.LastLemmas.{sized_fits}
use Rattle.norm_safety.proofs.GoesOn.{HasBlocks}
use Rattle.norm_safety.specs.InOrder.{is_stream_object}
use Rattle.fec_plan.proofs.PointLemmas.{not_before_itself}
use Rattle.norm_safety.proofs.Onward.{instance_in}
use Rattle.norm_safety.proofs.SenderHolds.{SenderHolds, current_sized, current_within}
use Rattle.norm_send_rules.proofs.CutNames.{AreNames}
use Rattle.norm_send_rules.proofs.PlaceLemmas.{object_names}
use Rattle.norm_send_rules.proofs.ShapeLemmas.{blocks_of, shape_parity, closed_is_encoded}
use Rattle.std.proofs.lemmas.Bool.Decides.{Decides-ltb}

-- ---- numbers

again_6 : (n : ℕ) (rest : List ℕ) → n < 281474976710656 → number 6 0 (big_bytes 6 n ++ rest) ≡ n
again_6 n rest h = omega arith

fti_again : (f : Fti) → f.l < 281474976710656 → f.e < 65536 → fti_of (fti_extension f ∷ []) ≡ Some f
fti_again f hl he =
    let l : number 6 0 (big_bytes 6 f.l ++ (big_bytes 2 f.e ++ f.b ∷ f.max_n ∷ [])) ≡ f.l = again_6 f.l (big_bytes 2 f.e ++ f.b ∷ f.max_n ∷ []) hl in
    let e : number 2 6 (big_bytes 6 f.l ++ (big_bytes 2 f.e ++ f.b ∷ f.max_n ∷ [])) ≡ f.e = omega arith in
    ap (λ (n : ℕ). Some (fti_with n (number 2 6 (big_bytes 6 f.l ++ (big_bytes 2 f.e ++ f.b ∷ f.max_n ∷ []))))) l
    ∙ ap (λ (n : ℕ). Some (fti_with f.l n)) e
  where
    fti_with : ℕ → ℕ → Fti
    fti_with l e = record { l = l; e = e; b = f.b; max_n = f.max_n }

fti_fits : (f : Fti) → IsExtension (fti_extension f)
fti_fits f = record { kind = omega arith; words = 3; whole = refl; most = omega arith }

extensions_fit : (words : ℕ) (f : Fti) → words ≤ 5 → AreExtensions words (fti_extension f ∷ [])
extensions_fit words f h = record { each = (fti_fits f, tt); most = omega arith }

-- an object's flags, and what is left of them without those of a repair
flags_fit : (object : Object) (repair : ℕ) → repair < 4
    → (object_flags object + repair < 256) × (4 * ((object_flags object + repair) / 4) ≡ object_flags object)
flags_fit (Whole kind.Data None octets) repair h = (omega arith, omega arith)
flags_fit (Whole kind.Data (Some info) octets) repair h = (omega arith, omega arith)
flags_fit (Whole kind.File None octets) repair h = (omega arith, omega arith)
flags_fit (Whole kind.File (Some info) octets) repair h = (omega arith, omega arith)
flags_fit (Stream parts) repair h = (omega arith, omega arith)

-- ---- heads

object_head_fits : (p : Settings) → InRange p → (s : SenderState) (index : ℕ) (object : Object) (repair : ℕ) → SenderHolds p s
    → object_flags object + repair < 256 → IsObjectHead (object_head p s index object repair)
object_head_fits p range s index object repair h flags = record {
  source = (omega (arith, range.sender.0), omega (arith, range.sender.1));
  sequence = h.sequence;
  instance = h.id;
  grtt = omega (arith, range.grtt_code.1);
  backoff = omega (arith, range.k.1);
  gsize = omega (arith, range.gsize_code.1);
  flags = flags;
  object = omega arith;
}

pub command_head_fits : (p : Settings) → InRange p → (s : SenderState) → s.sequence < 65536 → s.current.id < 65536 → IsCommandHead (command_head p s)
command_head_fits p range s sequence id = record {
  source = (omega (arith, range.sender.0), omega (arith, range.sender.1));
  sequence = sequence;
  instance = id;
  grtt = omega (arith, range.grtt_code.1);
  backoff = omega (arith, range.k.1);
  gsize = omega (arith, range.gsize_code.1);
}

-- ---- where a sender's current instance stands

-- the current order, by the id of its instance
pub current_order : (s : SenderState) → IsDistinct nat_eq (instance_ids s) → order_of s s.current.id ≡ s.current.order
current_order s differ = ap order_found (current_found s.earlier s.current s.current refl differ)
  where
    order_found : Option Instance → List Entry
    order_found found = elim found [ Some i ↦ i.order | None ↦ [] ]

-- the entry of the current order at an index
entry_told : (s : SenderState) (index : ℕ) (entry : Entry) → IsDistinct nat_eq (instance_ids s) → slice_get s.current.order index ≡ Some entry
    → entry_at s s.current.id index ≡ Some entry
entry_told s index entry differ e = ap (λ (order : List Entry). slice_get order index) (current_order s differ) ∙ e

says_some : (P : Entry → Type 0) (found : Option Entry) (entry : Entry) → found ≡ Some entry → P entry → IsSomeAnd found P
says_some P found entry e h = let S : Option Entry → Type 0 = λ o. IsSomeAnd o P in subst S (sym e) h

-- an object's length as it is told
told_fits : (p : Settings) → InRange p → (object : Object) → IsSized p object → told_length p object < 281474976710656
told_fits p range (Whole kind info octets) sized = omega (arith, sized.1, range.octets.1)
told_fits p range (Stream parts) sized = omega (arith, range.buffer)

-- an object of its size tells its transmission information
says_object : (p : Settings) → InRange p → (object : Object) (repair : ℕ) → IsSized p object → repair < 4
    → SaysObject p object (fti_extension (fti_of_object p object) ∷ []) (object_flags object + repair)
says_object p range object repair sized h =
    (fti_again (fti_of_object p object) (told_fits p range object sized) (omega (arith, range.e.1)), (flags_fit object repair h).1)

-- ---- what is said

-- an instance that the sender began lies less than half of all ids above the profile's
pub record IsBegun (p : Settings) (id : ℕ) : Type 0 where
  pub first : p.instance < 65536
  pub small : id < 65536
  pub few : rise p.instance id ≤ 32767

-- a message of an instance has the id of the one index that it was written for
pub record Speaks (p : Settings) (id object : ℕ) (indices : List ℕ) : Type 0 where
  pub index : ℕ
  pub alone : indices ≡ index ∷ []
  pub named : object ≡ object_id p index
  pub most : index ≤ 4294967294
  pub begun : IsBegun p id

pub current_begun : (p : Settings) → InRange p → (s : SenderState) → SenderHolds p s → IsBegun p s.current.id
current_begun p range s h = record { first = omega (arith, range.instance.1); small = h.id; few = h.few }

speaks_of : (p : Settings) → InRange p → (s : SenderState) (index : ℕ) → SenderHolds p s → index < 4294967295
    → Speaks p s.current.id (object_id p index) (index ∷ [])
speaks_of p range s index h most = record { index = index; alone = refl; named = refl; most = omega (arith, most); begun = current_begun p range s h }

-- a block is named only of a stream
abbrev pub IsOfStream : List Entry → ℕ → ℕ → Type 0
IsOfStream order index block = (block ≡ 0) ⊎ ((x : Entry) × (slice_get order index ≡ Some x) × (is_stream_object x.object ≡ true))

-- a squelch names a point that its instance's drop point is not before, and a block only of a stream
abbrev pub SquelchesDropped : SenderState → About SquelchCommand → Type 0
SquelchesDropped s x =
    (i : Instance) × (instance_in (instances s) x.message.head.instance ≡ Some i)
    × (point_before i.drop (point x.index x.message.id.block) ≡ false) × IsOfStream i.order x.index x.message.id.block

-- What a message with ids of these indices says of objects is true of a sender's orders; of anything else nothing is said here.
abbrev pub IsTrueOf : Settings → SenderState → List ℕ → Message → Type 0
IsTrueOf p s indices (Data m) = Speaks p m.head.instance m.head.object indices × SaysSymbol p s (about indices m)
IsTrueOf p s indices (Info m) = Speaks p m.head.instance m.head.object indices × SaysInfo p s (about indices m)
IsTrueOf p s indices (Squelch m) = Speaks p m.head.instance m.object indices × SquelchesDropped s (about indices m)
IsTrueOf p s indices (Flush m) = Speaks p m.head.instance m.object indices × IsTrue (flushes_source p s (about indices m))
IsTrueOf p s indices _ = ⊤

-- its octets are read as the message, or as nothing that says something of objects
abbrev pub Reads : Written → Type 0
Reads o = (decoded o.octets ≡ Ok o.message) ⊎ SaysNothing (decoded o.octets)

-- a datagram is read, and what it says is true
abbrev pub SaysTrue : Settings → SenderState → Written → Type 0
SaysTrue p s o = Reads o × IsTrueOf p s o.indices o.message

-- a message that is no acknowledgement
abbrev pub IsNoAck : Message → Type 0
IsNoAck (Ack m) = ⊥
IsNoAck _ = ⊤

-- a message that speaks of objects
abbrev pub IsSpoken : Message → Type 0
IsSpoken (Info m) = ⊤
IsSpoken (Data m) = ⊤
IsSpoken (Flush m) = ⊤
IsSpoken (Squelch m) = ⊤
IsSpoken _ = ⊥

-- The same of a datagram of the sender: it is read as its message, which speaks of objects, and is no acknowledgement.
pub record SpeaksTrue (p : Settings) (s : SenderState) (o : Written) : Type 0 where
  pub says : SaysTrue p s o
  pub read : decoded o.octets ≡ Ok o.message
  pub no_ack : IsNoAck o.message
  pub spoken : IsSpoken o.message

true_again : (p : Settings) (s : SenderState) (m : Message) (indices : List ℕ) → IsMessage m → IsNoAck m → IsSpoken m → IsTrueOf p s indices m
    → SpeaksTrue p s (writes m indices)
true_again p s m indices fits no_ack spoken h =
    record { says = (inl (read_again_law m fits), h); read = read_again_law m fits; no_ack = no_ack; spoken = spoken }

-- an entry of an order of objects of their sizes
pub sized_at : (p : Settings) (order : List Entry) (index : ℕ) (entry : Entry) → AreSized p order → slice_get order index ≡ Some entry → IsSized p entry.object
sized_at p [] index entry all e = absurd (nothing_there entry e)
sized_at p (x ∷ order) zero entry all e = let S : Entry → Type 0 = λ y. IsSized p y.object in subst S (same_entry x entry e) all.0
sized_at p (x ∷ order) (suc index) entry all e = sized_at p order index entry all.1 e

-- an encoded symbol of the current order is said truly
symbol_true : (p : Settings) → InRange p → (s : SenderState) (at : Position) (entry : Entry) (repair : ℕ)
    → SenderHolds p s → IsDistinct nat_eq (instance_ids s) → slice_get s.current.order at.index ≡ Some entry → IsSized p entry.object
    → nat_lt at.symbol (encoded_in (shape_of p entry.object) at.block) ≡ true → repair < 4
    → SpeaksTrue p s (writes (data_message p s at entry.object repair) (at.index ∷ []))
symbol_true p range s at entry repair h differ found sized encoded few =
    let object : Object = entry.object in
    let names = object_names p range object at.block at.symbol (sized_fits p object sized) encoded in
    let index : at.index < 4294967295 = (let lt = slice_get_within s.current.order at.index entry found in omega (arith, lt, h.many)) in
    let m : DataMessage = record {
      head = object_head p s at.index object repair;
      id = record { block = at.block; symbol = at.symbol };
      extensions = fti_extension (fti_of_object p object) ∷ [];
      payload = symbol_octets p object at.block at.symbol;
    } in
    let P : Entry → Type 0 = λ e.
    IsTrue (nat_lt at.symbol (encoded_in (shape_of p e.object) at.block))
    × (m.payload ≡ symbol_octets p e.object at.block at.symbol)
    × SaysObject p e.object m.extensions m.head.flags in
    true_again p s (Data m) (at.index ∷ [])
    (record {
      head = object_head_fits p range s at.index object repair h (flags_fit object repair few).0;
      id = names;
      extensions = extensions_fit 5 (fti_of_object p object) (omega arith);
    }) tt tt (
      speaks_of p range s at.index h index,
      says_some P (entry_at s s.current.id at.index) entry (entry_told s at.index entry differ found)
          (encoded, refl, says_object p range object repair sized few),
    )

info_true : (p : Settings) → InRange p → (s : SenderState) (index : ℕ) (entry : Entry) (object : Object) (repair : ℕ) → entry.object ≡ object
    → SenderHolds p s → IsDistinct nat_eq (instance_ids s) → slice_get s.current.order index ≡ Some entry → IsSized p object
    → (shape_of p object).info ≡ true → repair < 4
    → SpeaksTrue p s (writes (message_of p s (WantedInfo index) object repair) (index ∷ []))
info_true p range s index entry (Stream parts) repair is h differ found sized has few = absurd (clash has)
info_true p range s index entry (Whole kind None octets) repair is h differ found sized has few = absurd (clash has)
info_true p range s index entry (Whole kind (Some info) octets) repair is h differ found sized has few =
    let object : Object = Whole kind (Some info) octets in
    let place : index < 4294967295 = (let lt = slice_get_within s.current.order index entry found in omega (arith, lt, h.many)) in
    let m : InfoMessage = record {
      head = object_head p s index object repair;
      extensions = fti_extension (fti_of_object p object) ∷ [];
      info = info;
    } in
    let P : Entry → Type 0 = λ e. (info_of_object e.object ≡ Some info) × SaysObject p e.object m.extensions m.head.flags in
    let O : Object → Type 0 = λ o. (info_of_object o ≡ Some info) × SaysObject p o m.extensions m.head.flags in
    true_again p s (Info m) (index ∷ [])
    (record {
      head = object_head_fits p range s index object repair h (flags_fit object repair few).0;
      extensions = extensions_fit 4 (fti_of_object p object) (omega arith);
    }) tt tt (
      speaks_of p range s index h place,
      says_some P (entry_at s s.current.id index) entry (entry_told s index entry differ found)
          (subst O (sym is) (refl, says_object p range object repair sized few)),
    )

-- a test of an entry's shape, by its index
tested_at : (p : Settings) (order : List Entry) (i : ℕ) (test : Shape → Bool) (entry : Entry) → slice_get order i ≡ Some entry
    → at_index (shapes_of p order) i false test ≡ true → test (shape_of p entry.object) ≡ true
tested_at p [] i test entry found e = absurd (nothing_there entry found)
tested_at p (x ∷ order) zero test entry found e = sym (ap (λ (y : Entry). test (shape_of p y.object)) (same_entry x entry found)) ∙ e
tested_at p (x ∷ order) (suc i) test entry found e = tested_at p order i test entry found e

-- A symbol or info of the current order is said truly.
pub want_true : (p : Settings) → InRange p → (s : SenderState) (w : Want) (entry : Entry) (repair : ℕ) → SenderHolds p s
    → IsDistinct nat_eq (instance_ids s) → is_of_order (current_shapes p s) w ≡ true → slice_get s.current.order (want_index w) ≡ Some entry
    → repair < 4 → SpeaksTrue p s (writes (message_of p s w entry.object repair) (want_index w ∷ []))
want_true p range s (Symbol at) entry repair h differ of found few =
    let sized = sized_at p s.current.order at.index entry (current_sized p s h) found in
    symbol_true p range s at entry repair h differ found sized
    (tested_at p s.current.order at.index (λ x. nat_lt at.symbol (encoded_in x at.block)) entry found of) few
want_true p range s (WantedInfo index) entry repair h differ of found few =
    let sized = sized_at p s.current.order index entry (current_sized p s h) found in
    info_true p range s index entry entry.object repair refl h differ found sized
    (tested_at p s.current.order index (λ x. x.info) entry found of) few

-- the drop point is said truly
pub squelch_true : (p : Settings) → InRange p → (s : SenderState) → SenderHolds p s → IsDistinct nat_eq (instance_ids s)
    → SpeaksTrue p s (writes (squelch_message p s s.current.drop) (s.current.drop.index ∷ []))
squelch_true p range s h differ =
    let drop : Point = s.current.drop in
    let m : SquelchCommand = record {
      head = command_head p s;
      object = object_id p drop.index;
      id = record { block = drop.block; symbol = 0 };
      extensions = [];
      invalid = [];
    } in
    let block : drop.block < 16777216 = h.block in
    true_again p s (Squelch m) (drop.index ∷ [])
    (record {
      head = command_head_fits p range s h.sequence h.id;
      object = omega arith;
      id = (block, omega arith);
      extensions = record { each = tt; most = omega arith };
      invalid = tt;
    }) tt tt (
      speaks_of p range s drop.index h h.index,
      (s.current, current_found s.earlier s.current s.current refl differ, not_before_itself drop, of_stream drop.block refl),
    )
  where
    of_stream : (block : ℕ) → s.current.drop.block ≡ block → IsOfStream s.current.order s.current.drop.index s.current.drop.block
    of_stream zero is = inl is
    of_stream (suc n) is =
        let blocks = (current_within p s h).blocks (omega arith) in inr (blocks.0, blocks.1, is_stream blocks.0.object blocks.2)
      where
        is_stream : (object : Object) → HasBlocks p s.current.drop.block object → is_stream_object object ≡ true
        is_stream (Whole kind info octets) has = absurd has
        is_stream (Stream parts) has = refl

-- the entry of which a test of a shape is true
pub entry_with : (p : Settings) (order : List Entry) (i : ℕ) (test : Shape → Bool) → at_index (shapes_of p order) i false test ≡ true
    → (entry : Entry) × (slice_get order i ≡ Some entry) × (test (shape_of p entry.object) ≡ true)
entry_with p [] i test e = absurd (clash e)
entry_with p (x ∷ order) zero test e = (x, refl, e)
entry_with p (x ∷ order) (suc i) test e = entry_with p order i test e

-- a closed source symbol of an object of its size has a name
pub source_named : (p : Settings) → InRange p → (object : Object) (block symbol : ℕ) → IsSized p object
    → nat_lt symbol (closed_in (shape_of p object) block) ≡ true → AreNames block symbol
source_named p range object block symbol sized e =
    let encoded = closed_is_encoded (shape_of p object) block (shape_parity p (blocks_of p range) object) in
    let lt = (Decides-ltb symbol (closed_in (shape_of p object) block)).0 e in
    object_names p range object block symbol (sized_fits p object sized) ((Decides-ltb symbol (encoded_in (shape_of p object) block)).1 (omega arith))

-- A source symbol of the current order is flushed up to truly.
pub flush_true : (p : Settings) → InRange p → (s : SenderState) (head : CmdHead) (at : Position) (nodes : List ℕ) → SenderHolds p s
    → IsDistinct nat_eq (instance_ids s) → IsCommandHead head → head.instance ≡ s.current.id → is_source (current_shapes p s) at ≡ true
    → AllByRecursion (λ n. n < 4294967296) nodes
    → SpeaksTrue p s (writes (Flush (record {
      head = head;
      object = object_id p at.index;
      id = record { block = at.block; symbol = at.symbol };
      extensions = [];
      nodes = nodes;
    })) (at.index ∷ []))
flush_true p range s head at nodes h differ fits current source few =
    let m : FlushCommand = record {
      head = head;
      object = object_id p at.index;
      id = record { block = at.block; symbol = at.symbol };
      extensions = [];
      nodes = nodes;
    } in
    let found = entry_with p s.current.order at.index (λ x. nat_lt at.symbol (closed_in x at.block)) source in
    let index : at.index < 4294967295 = (let lt = slice_get_within s.current.order at.index found.0 found.1 in omega (arith, lt, h.many)) in
    let S : ℕ → Type 0 = λ id. Speaks p id (object_id p at.index) (at.index ∷ []) in
    let sized = sized_at p s.current.order at.index found.0 (current_sized p s h) found.1 in
    true_again p s (Flush m) (at.index ∷ [])
    (record {
      head = fits;
      object = omega arith;
      id = source_named p range found.0.object at.block at.symbol sized found.2;
      extensions = record { each = tt; most = omega arith };
      nodes = few;
    }) tt tt (
      subst S (sym current) (speaks_of p range s at.index h index),
      ap (λ (id : ℕ). is_source (shapes_of p (order_of s id)) at) current
          ∙ ap (λ (order : List Entry). is_source (shapes_of p order) at) (current_order s differ) ∙ source,
    )
