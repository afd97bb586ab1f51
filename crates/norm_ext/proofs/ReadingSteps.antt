-- What is looked at in octets of a layout, one step after the other; each reading goes by these steps.
use Rattle.std.proofs.Common.{◌≡◌, inl, inr, eq-eqb, ℕ, ◌*◌, ◌/◌, cond, eqb, ltb, ◌&&◌, ◌||◌, not, Bool, true, false, List, [], ◌∷◌, length, Option, Some, None, Result, Ok, Err, refl, sym, ap, ◌∙◌}
use Rattle.norm_ext.specs.Steps.{◌>>=◌, refused_if, some_or}
use Rattle.norm_ext.specs.Pieces.{checked_then}
use Rattle.norm_ext.specs.Numbers.{octet, number, type_of, type_number, sub_type_of}
use Rattle.norm_ext.specs.Requests.{requests_checked}
use Rattle.norm_ext.specs.Message.{Message}
use Rattle.norm_ext.specs.Reading.{words_of, type_in, content_of, least_words, version_checked, header_checked, encoding_checked, header_extensions_checked, member_checked, list_checked, source_of, info_read, data_read, flush_read, eot_read, squelch_read, repair_adv_read, ack_req_read, opaque_read, command_by, command_read, nack_read, ack_encoding_checked, ack_length_checked, ack_read, report_read, read_as, decoded}
use Rattle.norm_ext.specs.Layouts.{Content, Anything, Nothing, Numbers, Requests, OneItem, Layout, layout_as, command_layout}
use Rattle.norm_ext.specs.declared.kinds.MessageType.{MessageType}
use Rattle.norm_ext.specs.declared.kinds.MessageType.TheVariants as types
use Rattle.norm_ext.specs.declared.kinds.SubType.{SubType as CommandType}
use Rattle.norm_ext.specs.declared.kinds.SubType.TheVariants as commands
use Rattle.norm_ext.specs.declared.refusal.Refusal.{Refusal}
use Rattle.norm_ext.specs.declared.refusal.Refusal.TheVariants.{Short, Version, BadType, HeaderLength, PastEnd, SubType, ItemFec, BadList}
use Rattle.norm_ext.proofs.RequestLemmas.{chosen}
use Rattle.std.proofs.lemmas.Bool.{eqb-true}
use Rattle.norm_ext.specs.Numbers.{sub_type_number}
use Rattle.norm_ext.proofs.ReadIsSpelled.{sub_type_is}
use Rattle.norm_ext.proofs.TurnLemmas.{first_of}

-- ---- the steps

-- a step of those that have it
abbrev pub where_so : Bool → Result (Unit {0}) Refusal → Result (Unit {0}) Refusal
where_so true step = step
where_so false step = Ok tt

abbrev pub short_step : List ℕ → Result (Unit {0}) Refusal
short_step octets = refused_if (ltb (length octets) 8) (Short (length octets))

abbrev pub version_step : List ℕ → Result (Unit {0}) Refusal
version_step octets = refused_if (not (eqb (octet 0 octets / 16) 1)) (Version (octet 0 octets / 16))

abbrev pub type_step : Option MessageType → ℕ → Result (Unit {0}) Refusal
type_step (Some kind) t = Ok tt
type_step None t = Err (BadType t)

abbrev pub least_step : ℕ → List ℕ → Result (Unit {0}) Refusal
least_step least octets = refused_if (ltb (words_of octets) least) (HeaderLength (words_of octets) least)

abbrev pub past_step : List ℕ → Result (Unit {0}) Refusal
past_step octets = refused_if (ltb (length octets) (4 * words_of octets)) (PastEnd (words_of octets) (length octets))

abbrev pub named_step : Option CommandType → ℕ → Result (Unit {0}) Refusal
named_step (Some sub_type) s = Ok tt
named_step None s = Err (SubType s)

abbrev pub sub_type_step : Option MessageType → List ℕ → Result (Unit {0}) Refusal
sub_type_step (Some types.Command) octets = named_step (sub_type_of (octet 12 octets)) (octet 12 octets)
sub_type_step _ octets = Ok tt

abbrev pub encodings_step : Content → ℕ → List ℕ → Result (Unit {0}) Refusal
encodings_step Requests at content = requests_checked at content
encodings_step OneItem at content = refused_if (eqb (length content) 8 && not (eqb (octet 0 content) 5)) (ItemFec at (octet 0 content))
encodings_step _ at content = Ok tt

abbrev pub nodes_step : Bool → List ℕ → Result (Unit {0}) Refusal
nodes_step sender octets = checked_then (member_checked (source_of octets)) (where_so sender (member_checked (number 4 8 octets)))

abbrev pub list_step : Content → List ℕ → Result (Unit {0}) Refusal
list_step Nothing content = refused_if (not (eqb (length content) 0)) (BadList (length content))
list_step (Numbers width) content = list_checked width content
list_step OneItem content = refused_if (not (eqb (length content) 8)) (BadList (length content))
list_step _ content = Ok tt

-- what is looked at behind the header's length
abbrev pub later_with : Result (Unit {0}) Refusal → Layout → List ℕ → List (Result (Unit {0}) Refusal)
later_with named l octets =
    where_so l.encoded (encoding_checked (octet 13 octets))
    ∷ named
    ∷ where_so l.extended (header_extensions_checked (4 * l.least) octets)
    ∷ encodings_step l.content (4 * words_of octets) (content_of octets)
    ∷ nodes_step l.sender octets
    ∷ list_step l.content (content_of octets)
    ∷ []

abbrev pub later_steps : Option MessageType → Layout → List ℕ → List (Result (Unit {0}) Refusal)
later_steps kind l octets = later_with (sub_type_step kind octets) l octets

abbrev pub steps_by : Option MessageType → Layout → List ℕ → List (Result (Unit {0}) Refusal)
steps_by kind l octets =
    short_step octets ∷ version_step octets ∷ type_step kind (type_in octets) ∷ least_step l.least octets ∷ past_step octets ∷ later_steps kind l octets

unfoldable pub steps_of : List ℕ → List (Result (Unit {0}) Refusal)
steps_of octets = steps_by (type_of (type_in octets)) (layout_as (type_of (type_in octets)) octets) octets

-- ---- what comes of a reading

abbrev pub outcome : {A : Type 0} → Result A Refusal → Result (Unit {0}) Refusal
outcome (Ok x) = Ok tt
outcome (Err r) = Err r

pub refused_outcome : {A : Type 0} (x : Result A Refusal) (r : Refusal) → x ≡ Err r → outcome x ≡ Err r
refused_outcome (Ok x) r e = absurd cc
refused_outcome (Err q) r e = cc

pub outcome_refused : {A : Type 0} (x : Result A Refusal) (r : Refusal) → outcome x ≡ Err r → x ≡ Err r
outcome_refused (Ok x) r e = absurd cc
outcome_refused (Err q) r e = cc

-- a step and what comes after it
then_step : {B : Type 0} (step : Result (Unit {0}) Refusal) (next : Unit {0} → Result B Refusal) (rest : Result (Unit {0}) Refusal) → outcome (next tt) ≡ rest → outcome (step >>= next) ≡ checked_then step rest
then_step (Ok x) next rest e = e
then_step (Err r) next rest e = refl

bind_then : (step : Result (Unit {0}) Refusal) (next : Unit {0} → Result (Unit {0}) Refusal) (rest : Result (Unit {0}) Refusal) → next tt ≡ rest → (step >>= next) ≡ checked_then step rest
bind_then (Ok x) next rest e = e
bind_then (Err r) next rest e = refl

then_ok : (step : Result (Unit {0}) Refusal) → checked_then step (Ok tt) ≡ step
then_ok (Ok x) = refl
then_ok (Err r) = refl

then_then : (a b c : Result (Unit {0}) Refusal) → checked_then (checked_then a b) c ≡ checked_then a (checked_then b c)
then_then (Ok x) b c = refl
then_then (Err r) b c = refl

either_step : (b : Bool) (r : Refusal) (step : Result (Unit {0}) Refusal) → cond b (Err r) step ≡ checked_then (refused_if b r) step
either_step true r step = refl
either_step false r step = refl

version_is : (octets : List ℕ) → version_checked octets ≡ checked_then (short_step octets) (version_step octets)
version_is octets = either_step (ltb (length octets) 8) (Short (length octets)) (version_step octets)

-- the header of a message of this type, where the type is that
header_steps : (kind : MessageType) (octets : List ℕ)
    → header_checked kind octets
    ≡ checked_then (version_checked octets)
    (checked_then (refused_if (not (eqb (type_in octets) (type_number kind))) (BadType (type_in octets)))
    (checked_then (least_step (least_words kind octets) octets) (past_step octets)))
unfolding header_checked
header_steps kind octets =
    bind_then (version_checked octets) _ _
    (bind_then (refused_if (not (eqb (type_in octets) (type_number kind))) (BadType (type_in octets))) _ _
    (bind_then (least_step (least_words kind octets) octets) _ _ refl))

-- ---- what comes of each message's reading

info_outcome : (octets : List ℕ) → outcome (info_read octets) ≡ checked_then (header_checked types.Info octets) (first_of (later_steps (Some types.Info) (layout_as (Some types.Info) octets) octets))
unfolding info_read
info_outcome octets =
    then_step (header_checked types.Info octets) _ _
    (then_step (encoding_checked (octet 13 octets)) _ _
    (then_step (header_extensions_checked 16 octets) _ _
    (then_step (member_checked (source_of octets)) _ (Ok tt) refl ∙ sym (then_then (member_checked (source_of octets)) (Ok tt) (Ok tt)))))

data_outcome : (octets : List ℕ) → outcome (data_read octets) ≡ checked_then (header_checked types.Data octets) (first_of (later_steps (Some types.Data) (layout_as (Some types.Data) octets) octets))
unfolding data_read
data_outcome octets =
    then_step (header_checked types.Data octets) _ _
    (then_step (encoding_checked (octet 13 octets)) _ _
    (then_step (header_extensions_checked 20 octets) _ _
    (then_step (member_checked (source_of octets)) _ (Ok tt) refl ∙ sym (then_then (member_checked (source_of octets)) (Ok tt) (Ok tt)))))

report_outcome : (octets : List ℕ) → outcome (report_read octets) ≡ checked_then (header_checked types.Report octets) (first_of (later_steps (Some types.Report) (layout_as (Some types.Report) octets) octets))
unfolding report_read
report_outcome octets =
    then_step (header_checked types.Report octets) _ _
    (then_step (member_checked (source_of octets)) _ (Ok tt) refl ∙ sym (then_then (member_checked (source_of octets)) (Ok tt) (Ok tt)))

nack_outcome : (octets : List ℕ) → outcome (nack_read octets) ≡ checked_then (header_checked types.Nack octets) (first_of (later_steps (Some types.Nack) (layout_as (Some types.Nack) octets) octets))
unfolding nack_read
nack_outcome octets =
    then_step (header_checked types.Nack octets) _ _
    (then_step (header_extensions_checked 24 octets) _ _
    (then_step (requests_checked (4 * words_of octets) (content_of octets)) _ _
    (then_step (member_checked (source_of octets)) _ (checked_then (member_checked (number 4 8 octets)) (Ok tt)) (then_step (member_checked (number 4 8 octets)) _ (Ok tt) refl)
    ∙ sym (then_then (member_checked (source_of octets)) (member_checked (number 4 8 octets)) (Ok tt)))))

ack_encodings : (two : Bool) (at : ℕ) (content : List ℕ)
    → refused_if (two && eqb (length content) 8 && not (eqb (octet 0 content) 5)) (ItemFec at (octet 0 content)) ≡ encodings_step (cond two OneItem Anything) at content
ack_encodings true at content = refl
ack_encodings false at content = refl

ack_list : (two : Bool) (content : List ℕ) → refused_if (two && not (eqb (length content) 8)) (BadList (length content)) ≡ list_step (cond two OneItem Anything) content
ack_list true content = refl
ack_list false content = refl

ack_outcome : (octets : List ℕ) → outcome (ack_read octets) ≡ checked_then (header_checked types.Ack octets) (first_of (later_steps (Some types.Ack) (layout_as (Some types.Ack) octets) octets))
unfolding ack_read
ack_outcome octets =
    let two : Bool = eqb (octet 14 octets) 2 in
    let content : List ℕ = content_of octets in
    let source : Result (Unit {0}) Refusal = member_checked (source_of octets) in
    let sender : Result (Unit {0}) Refusal = member_checked (number 4 8 octets) in
    let list : Result (Unit {0}) Refusal = ack_length_checked (octet 14 octets) content in
    then_step (header_checked types.Ack octets) _ _
    (then_step (header_extensions_checked 24 octets) _ _
    (then_step (ack_encoding_checked (octet 14 octets) (4 * words_of octets) content) _ _
    (then_step source _ (checked_then sender (checked_then list (Ok tt))) (then_step sender _ (checked_then list (Ok tt)) (then_step list _ (Ok tt) refl))
    ∙ sym (then_then source sender (checked_then list (Ok tt)))
    ∙ ap (λ (x : Result (Unit {0}) Refusal). checked_then (checked_then source sender) (checked_then x (Ok tt))) (ack_list two content))
    ∙ ap (λ (x : Result (Unit {0}) Refusal). checked_then x (checked_then (checked_then source sender) (checked_then (list_step (cond two OneItem Anything) content) (Ok tt)))) (ack_encodings two (4 * words_of octets) content)))

-- ---- commands

abbrev command_tail : CommandType → List ℕ → Result (Unit {0}) Refusal
command_tail sub_type octets = first_of (later_with (Ok tt) (command_layout (Some sub_type)) octets)

flush_outcome : (octets : List ℕ) → outcome (flush_read octets) ≡ command_tail commands.Flush octets
unfolding flush_read
flush_outcome octets =
    let source : Result (Unit {0}) Refusal = member_checked (source_of octets) in
    let list : Result (Unit {0}) Refusal = list_checked 4 (content_of octets) in
    then_step (encoding_checked (octet 13 octets)) _ _
    (then_step (header_extensions_checked 20 octets) _ _
    (then_step source _ (checked_then list (Ok tt)) (then_step list _ (Ok tt) refl) ∙ sym (then_then source (Ok tt) (checked_then list (Ok tt)))))

squelch_outcome : (octets : List ℕ) → outcome (squelch_read octets) ≡ command_tail commands.Squelch octets
unfolding squelch_read
squelch_outcome octets =
    let source : Result (Unit {0}) Refusal = member_checked (source_of octets) in
    let list : Result (Unit {0}) Refusal = list_checked 2 (content_of octets) in
    then_step (encoding_checked (octet 13 octets)) _ _
    (then_step (header_extensions_checked 20 octets) _ _
    (then_step source _ (checked_then list (Ok tt)) (then_step list _ (Ok tt) refl) ∙ sym (then_then source (Ok tt) (checked_then list (Ok tt)))))

eot_outcome : (octets : List ℕ) → outcome (eot_read octets) ≡ command_tail commands.EndOfTransmission octets
unfolding eot_read
eot_outcome octets =
    let source : Result (Unit {0}) Refusal = member_checked (source_of octets) in
    let list : Result (Unit {0}) Refusal = list_step Nothing (content_of octets) in
    then_step (header_extensions_checked 16 octets) _ _
    (then_step source _ (checked_then list (Ok tt)) (then_step list _ (Ok tt) refl) ∙ sym (then_then source (Ok tt) (checked_then list (Ok tt))))

repair_adv_outcome : (octets : List ℕ) → outcome (repair_adv_read octets) ≡ command_tail commands.RepairAdvertisement octets
unfolding repair_adv_read
repair_adv_outcome octets =
    let source : Result (Unit {0}) Refusal = member_checked (source_of octets) in
    then_step (header_extensions_checked 16 octets) _ _
    (then_step (requests_checked (4 * words_of octets) (content_of octets)) _ _
    (then_step source _ (Ok tt) refl ∙ sym (then_then source (Ok tt) (Ok tt))))

ack_req_outcome : (octets : List ℕ) → outcome (ack_req_read octets) ≡ command_tail commands.AckRequest octets
unfolding ack_req_read
ack_req_outcome octets =
    let source : Result (Unit {0}) Refusal = member_checked (source_of octets) in
    let list : Result (Unit {0}) Refusal = list_checked 4 (content_of octets) in
    then_step (header_extensions_checked 16 octets) _ _
    (then_step source _ (checked_then list (Ok tt)) (then_step list _ (Ok tt) refl) ∙ sym (then_then source (Ok tt) (checked_then list (Ok tt))))

opaque_outcome : (octets : List ℕ) → outcome (opaque_read octets) ≡ command_tail commands.Application octets
unfolding opaque_read
opaque_outcome octets =
    let source : Result (Unit {0}) Refusal = member_checked (source_of octets) in
    then_step source _ (Ok tt) refl ∙ sym (then_then source (Ok tt) (Ok tt))

by_sub_type : (s : Option CommandType) (n : ℕ) (octets : List ℕ)
    → outcome (some_or s (SubType n) >>= (λ t. command_by t octets)) ≡ first_of (later_with (named_step s n) (command_layout s) octets)
by_sub_type (Some commands.Flush) n octets = flush_outcome octets
by_sub_type (Some commands.EndOfTransmission) n octets = eot_outcome octets
by_sub_type (Some commands.Squelch) n octets = squelch_outcome octets
by_sub_type (Some commands.CongestionControl) n octets = opaque_outcome octets
by_sub_type (Some commands.RepairAdvertisement) n octets = repair_adv_outcome octets
by_sub_type (Some commands.AckRequest) n octets = ack_req_outcome octets
by_sub_type (Some commands.Application) n octets = opaque_outcome octets
by_sub_type None n octets = refl

command_outcome : (octets : List ℕ) → outcome (command_read octets) ≡ checked_then (header_checked types.Command octets) (first_of (later_steps (Some types.Command) (layout_as (Some types.Command) octets) octets))
unfolding command_read
command_outcome octets = then_step (header_checked types.Command octets) _ _ (by_sub_type (sub_type_of (octet 12 octets)) (octet 12 octets) octets)

-- ---- the numbers of types

pub type_is : (n : ℕ) (kind : MessageType) → type_of n ≡ Some kind → type_number kind ≡ n
type_is n kind e =
    elim (chosen (eqb n 1) (Some types.Info) _ (Some kind) e) [
      | inl w ↦ (let f : types.Info ≡ kind = cc in ap type_number (sym f)) ∙ sym (eqb-true n 1 w.0)
      | inr v1 ↦ elim (chosen (eqb n 2) (Some types.Data) _ (Some kind) v1.1) [
        | inl w ↦ (let f : types.Data ≡ kind = cc in ap type_number (sym f)) ∙ sym (eqb-true n 2 w.0)
        | inr v2 ↦ elim (chosen (eqb n 3) (Some types.Command) _ (Some kind) v2.1) [
          | inl w ↦ (let f : types.Command ≡ kind = cc in ap type_number (sym f)) ∙ sym (eqb-true n 3 w.0)
          | inr v3 ↦ elim (chosen (eqb n 4) (Some types.Nack) _ (Some kind) v3.1) [
            | inl w ↦ (let f : types.Nack ≡ kind = cc in ap type_number (sym f)) ∙ sym (eqb-true n 4 w.0)
            | inr v4 ↦ elim (chosen (eqb n 5) (Some types.Ack) _ (Some kind) v4.1) [
              | inl w ↦ (let f : types.Ack ≡ kind = cc in ap type_number (sym f)) ∙ sym (eqb-true n 5 w.0)
              | inr v5 ↦ elim (chosen (eqb n 6) (Some types.Report) _ (Some kind) v5.1) [
                | inl w ↦ (let f : types.Report ≡ kind = cc in ap type_number (sym f)) ∙ sym (eqb-true n 6 w.0)
                | inr v6 ↦ absurd (let no : None ≡ Some kind = v6.1 in cc)
              ]
            ]
          ]
        ]
      ]
    ]

-- the least words of a command with this sub-type
least_named : (s : CommandType) → cond (eqb (sub_type_number s) 1 || eqb (sub_type_number s) 3) 5 4 ≡ (command_layout (Some s)).least
least_named commands.Flush = refl
least_named commands.EndOfTransmission = refl
least_named commands.Squelch = refl
least_named commands.CongestionControl = refl
least_named commands.RepairAdvertisement = refl
least_named commands.AckRequest = refl
least_named commands.Application = refl

least_by : (n : ℕ) (s : Option CommandType) → sub_type_of n ≡ s → cond (eqb n 1 || eqb n 3) 5 4 ≡ (command_layout s).least
least_by n (Some s) e = ap (λ (k : ℕ). cond (eqb k 1 || eqb k 3) 5 4) (sym (sub_type_is n s e)) ∙ least_named s
least_by n None e =
    elim (chosen (eqb n 1) (Some commands.Flush) _ None e) [
      | inl w ↦ absurd (let no : Some commands.Flush ≡ None = w.1 in cc)
      | inr v1 ↦ elim (chosen (eqb n 2) (Some commands.EndOfTransmission) _ None v1.1) [
        | inl w ↦ absurd (let no : Some commands.EndOfTransmission ≡ None = w.1 in cc)
        | inr v2 ↦ elim (chosen (eqb n 3) (Some commands.Squelch) _ None v2.1) [
          | inl w ↦ absurd (let no : Some commands.Squelch ≡ None = w.1 in cc)
          | inr v3 ↦ rw (v1.0, v3.0) refl
        ]
      ]
    ]

least_is : (kind : MessageType) (octets : List ℕ) → least_words kind octets ≡ (layout_as (Some kind) octets).least
least_is types.Info octets = refl
least_is types.Data octets = refl
least_is types.Command octets = least_by (octet 12 octets) (sub_type_of (octet 12 octets)) refl
least_is types.Nack octets = refl
least_is types.Ack octets = refl
least_is types.Report octets = refl

-- ---- any message

joined : (s v l p tail : Result (Unit {0}) Refusal)
    → checked_then (checked_then s v) (checked_then (checked_then (checked_then s v) (checked_then l p)) tail) ≡ checked_then s (checked_then v (checked_then l (checked_then p tail)))
joined (Err r) v l p tail = refl
joined (Ok x) (Err r) l p tail = refl
joined (Ok x) (Ok y) l p tail = then_then l p tail

with_header : (all s v t l p tail : Result (Unit {0}) Refusal) → all ≡ checked_then s v → t ≡ Ok tt
    → checked_then all (checked_then (checked_then all (checked_then t (checked_then l p))) tail) ≡ checked_then s (checked_then v (checked_then l (checked_then p tail)))
with_header all s v t l p tail is ok = rw (is, ok) (joined s v l p tail)

by_header : (kind : MessageType) (octets : List ℕ) (read : Result Message Refusal) → type_of (type_in octets) ≡ Some kind
    → outcome read ≡ checked_then (header_checked kind octets) (first_of (later_steps (Some kind) (layout_as (Some kind) octets) octets))
    → checked_then (version_checked octets) (outcome read) ≡ first_of (steps_by (Some kind) (layout_as (Some kind) octets) octets)
by_header kind octets read is e =
    let tail : Result (Unit {0}) Refusal = first_of (later_steps (Some kind) (layout_as (Some kind) octets) octets) in
    let test : eqb (type_in octets) (type_number kind) ≡ true = eq-eqb (type_in octets) (type_number kind) (sym (type_is (type_in octets) kind is)) in
    let ok : refused_if (not (eqb (type_in octets) (type_number kind))) (BadType (type_in octets)) ≡ Ok tt = ap (λ (b : Bool). refused_if (not b) (BadType (type_in octets))) test in
    ap (checked_then (version_checked octets)) (e ∙ ap (λ (x : Result (Unit {0}) Refusal). checked_then x tail) (header_steps kind octets))
    ∙ with_header (version_checked octets) (short_step octets) (version_step octets) (refused_if (not (eqb (type_in octets) (type_number kind))) (BadType (type_in octets)))
    (least_step (least_words kind octets) octets) (past_step octets) tail (version_is octets) ok
    ∙ ap (λ (n : ℕ). checked_then (short_step octets) (checked_then (version_step octets) (checked_then (least_step n octets) (checked_then (past_step octets) tail)))) (least_is kind octets)

by_kind : (k : Option MessageType) (octets : List ℕ) → type_of (type_in octets) ≡ k
    → checked_then (version_checked octets) (outcome (some_or k (BadType (type_in octets)) >>= (λ kind. read_as kind octets))) ≡ first_of (steps_by k (layout_as k octets) octets)
by_kind (Some types.Info) octets is = by_header types.Info octets (info_read octets) is (info_outcome octets)
by_kind (Some types.Data) octets is = by_header types.Data octets (data_read octets) is (data_outcome octets)
by_kind (Some types.Command) octets is = by_header types.Command octets (command_read octets) is (command_outcome octets)
by_kind (Some types.Nack) octets is = by_header types.Nack octets (nack_read octets) is (nack_outcome octets)
by_kind (Some types.Ack) octets is = by_header types.Ack octets (ack_read octets) is (ack_outcome octets)
by_kind (Some types.Report) octets is = by_header types.Report octets (report_read octets) is (report_outcome octets)
by_kind None octets is =
    ap (λ (x : Result (Unit {0}) Refusal). checked_then x (Err (BadType (type_in octets)))) (version_is octets)
    ∙ then_then (short_step octets) (version_step octets) (Err (BadType (type_in octets)))

pub decoded_outcome : (octets : List ℕ) → outcome (decoded octets) ≡ first_of (steps_of octets)
unfolding decoded steps_of
decoded_outcome octets = then_step (version_checked octets) _ _ refl ∙ by_kind (type_of (type_in octets)) octets refl
