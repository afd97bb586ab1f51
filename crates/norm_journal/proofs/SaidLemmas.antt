-- Lines read back.
use Rattle.std.proofs.Common.{◌≡◌, ℕ, ◌<◌, ◌*◌, ◌^◌, List, [], ◌∷◌, length, map, codes, Bool, true, false, Option, None, Some, Result, Ok, Err, refl, sym, ap, ◌∙◌, arith, decimal}
use Rattle.std.specs.Prelude.{All, IfSome, ⊤, is_some, option_and_then}
use Rattle.std.specs.Option.{option_map}
use Rattle.std.proofs.lemmas.Option.{none-some, same_Some}
use Rattle.std.proofs.lemmas.List.Elements.{All-head, All-tail}
use Rattle.norm_base.specs.Octets.{AreOctets}
use Rattle.hex.specs.Hex.{encode_lower, decode_of}
use Rattle.hex.proofs.HexLemmas.{decode_of-encode_lower}
use Rattle.fec_plan.specs.declared.position.Position.{Position}
use Rattle.norm_base.specs.declared.kinds.Kind.{Kind}
use Rattle.norm_base.specs.declared.kinds.Kind.TheVariants as kind
use Rattle.norm_base.specs.declared.node.Origin.{Origin}
use Rattle.norm_order.specs.declared.up.Up.{Up}
use Rattle.norm_order.specs.declared.up.Up.TheVariants as up
use Rattle.norm_script.specs.Words.{is_text, value_of}
use Rattle.norm_safety.proofs.FrontLemmas.{same_list}
use Rattle.norm_script.proofs.WordLemmas.{is_word, value-written, decimal-word, hex-word, hex-length}
use Rattle.norm_script.specs.declared.script.Verb.{Verb}
use Rattle.norm_send_rules.specs.declared.job.Receipt.{Receipt}
use Rattle.norm_send_rules.specs.declared.job.Receipt.TheVariants as receipt
use Rattle.norm_send_rules.specs.declared.fault.SendFault.{SendFault}
use Rattle.norm_send_rules.specs.declared.fault.SendFault.TheVariants as send
use Rattle.norm_send_rules.specs.declared.fault.EnqueueFault.TheVariants as enqueue
use Rattle.norm_send_rules.specs.declared.fault.StreamFault.TheVariants as stream
use Rattle.norm_send_rules.specs.declared.fault.MarkFault.TheVariants as mark
use Rattle.norm_send_rules.specs.declared.fault.StrikeFault.TheVariants as strike
use Rattle.norm_send_rules.specs.declared.news.News.{News}
use Rattle.norm_send_rules.specs.declared.news.News.TheVariants as news
use Rattle.norm_send_rules.specs.declared.news.Outcome.TheVariants as outcome
use Rattle.norm_journal.specs.declared.event.Event.{Event}
use Rattle.norm_journal.specs.declared.event.Event.TheVariants as event
use Rattle.norm_journal.specs.Judged.{Judged}
use Rattle.norm_journal.specs.Lines.{Reason, reason_of, number_words, gave_line, up_line, news_line, no_line}
use Rattle.norm_journal.specs.Printed.{instance_now, command_at, left_in, line_of}
use Rattle.norm_journal.specs.Said.{Said, Enqueued, Opened, Wrote, Closed, Marked, Restarted, Struck, Refused, HandedUp, Listed, Satisfied, Expired, Cut, Summary, gave_said, news_said, said_of, Is64, OriginInRange, PositionInRange, OctetsInRange, UpInRange, FaultInRange, InRange, LinesReadBack}
use Rattle.norm_text.specs.Words.{line, kind_word, info_word}
use Rattle.norm_journal.specs.Words.{position_words, node_words}
use Rattle.norm_journal.proofs.WordsLemmas.{AreWords, line-back}

clash : false ≡ true → ⊥
clash e = cc

-- what a numeral says
number : List ℕ → ℕ
number word = value_of word

number_back : (n : ℕ) → n < 2 ^ 64 → number (decimal n) ≡ n
unfolding number
number_back n h = value-written n h

-- what hexadecimal digits say
abbrev decoded : {E : Type 0} → Result (List ℕ) E → List ℕ
decoded result = elim result [ Ok xs ↦ xs | Err fault ↦ [] ]

octets : List ℕ → List ℕ
octets word = decoded (decode_of word)

octets_back : (xs : List ℕ) → AreOctets xs → octets (encode_lower xs) ≡ xs
unfolding octets
octets_back xs h = ap decoded (decode_of-encode_lower xs h)

-- an info, or a dash
info : List ℕ → Option (List ℕ)
info word = elim (is_text word (codes "-")) [ true ↦ None | false ↦ Some (octets word) ]

two_or_one : (n : ℕ) → 2 * n ≡ 1 → ⊥
two_or_one n e = omega (arith, e)

no_dash : (xs : List ℕ) (b : Bool) → is_text (encode_lower xs) (codes "-") ≡ b → b ≡ false
no_dash xs false is = refl
no_dash xs true is = absurd (two_or_one (length xs) (sym (hex-length xs) ∙ ap length (same_list (encode_lower xs) (codes "-") is)))

abbrev or_dash : Bool → List ℕ → Option (List ℕ)
or_dash b xs = elim b [ true ↦ None | false ↦ Some xs ]

info_back : (o : Option (List ℕ)) → IfSome o OctetsInRange → info (info_word o) ≡ o
unfolding info
info_back None h = refl
info_back (Some xs) h =
    ap (λ b. or_dash b (octets (encode_lower xs))) (no_dash xs (is_text (encode_lower xs) (codes "-")) refl) ∙ ap Some (octets_back xs h.each)

-- the kind of a word
kind_said : List ℕ → Kind
kind_said word = elim (is_text word (codes "file")) [ true ↦ kind.File | false ↦ kind.Data ]

kind_back : (k : Kind) → kind_said (kind_word k) ≡ k
unfolding kind_said
kind_back kind.Data = refl
kind_back kind.File = refl

origin : List ℕ → List ℕ → Origin
origin producer command = record { producer = number producer; number = number command }

origin_back : (by : Origin) → OriginInRange by → origin (decimal by.producer) (decimal by.number) ≡ by
unfolding origin
origin_back by h = rw (number_back by.producer h.producer, number_back by.number h.number) refl

position : List ℕ → List ℕ → List ℕ → Position
position index block symbol = record { index = number index; block = number block; symbol = number symbol }

position_back : (at : Position) → PositionInRange at → position (decimal at.index) (decimal at.block) (decimal at.symbol) ≡ at
unfolding position
position_back at h = rw (number_back at.index h.index, number_back at.block h.block, number_back at.symbol h.symbol) refl

-- the first word of what is said
abbrev first : Said → List ℕ
first (Enqueued by instance index what len) = codes "enq"
first (Opened by instance index) = codes "enq"
first (Wrote by instance index offset len) = codes "enq"
first (Closed by instance index) = codes "enq"
first (Marked by instance mark at quorum) = codes "mark"
first (Restarted by instance) = codes "restart"
first (Struck by node) = codes "strike"
first (Refused by fault) = codes "no"
first (HandedUp node instance up) = codes "up"
first (Listed node instance at) = codes "past"
first (Satisfied mark) = codes "done"
first (Expired mark left) = codes "done"
first (Cut mark) = codes "done"
first (Summary totals) = codes "end"

-- and the further ones
abbrev enq_words : Origin → ℕ → ℕ → List (List ℕ) → List (List ℕ)
enq_words by instance index words = decimal by.producer ∷ decimal by.number ∷ decimal instance ∷ decimal index ∷ words

abbrev up_words : ℕ → ℕ → ℕ → List (List ℕ) → List (List ℕ)
up_words node instance index words = decimal node ∷ decimal instance ∷ decimal index ∷ words

abbrev spell_up : ℕ → ℕ → Up → List (List ℕ)
spell_up node instance (up.Object index what its contents) =
    up_words node instance index (kind_word what ∷ decimal (length contents) ∷ info_word its ∷ encode_lower contents ∷ [])
spell_up node instance (up.StreamOpen index) = up_words node instance index (codes "open" ∷ [])
spell_up node instance (up.StreamBytes index offset contents) =
    up_words node instance index (codes "bytes" ∷ decimal offset ∷ decimal (length contents) ∷ encode_lower contents ∷ [])
spell_up node instance (up.StreamEnd index) = up_words node instance index (codes "end" ∷ [])
spell_up node instance (up.Lost index) = up_words node instance index (codes "lost" ∷ [])

abbrev why : Option Reason → List (List ℕ)
why None = []
why (Some reason) = reason.0 ∷ number_words reason.1

abbrev spell : Said → List (List ℕ)
spell (Enqueued by instance index what len) = enq_words by instance index (kind_word what ∷ decimal len ∷ [])
spell (Opened by instance index) = enq_words by instance index (codes "open" ∷ [])
spell (Wrote by instance index offset len) = enq_words by instance index (codes "write" ∷ decimal len ∷ decimal offset ∷ [])
spell (Closed by instance index) = enq_words by instance index (codes "close" ∷ [])
spell (Marked by instance mark at quorum) =
    decimal by.producer ∷ decimal by.number ∷ decimal instance ∷ decimal mark ∷ decimal at.index ∷ decimal at.block ∷ decimal at.symbol ∷ number_words quorum
spell (Restarted by instance) = decimal by.producer ∷ decimal by.number ∷ decimal instance ∷ []
spell (Struck by node) = decimal by.producer ∷ decimal by.number ∷ decimal node ∷ []
spell (Refused by fault) = decimal by.producer ∷ decimal by.number ∷ why (reason_of fault)
spell (HandedUp node instance up) = spell_up node instance up
spell (Listed node instance at) = decimal node ∷ decimal instance ∷ decimal at.index ∷ decimal at.block ∷ decimal at.symbol ∷ []
spell (Satisfied mark) = decimal mark ∷ codes "satisfied" ∷ []
spell (Expired mark left) = decimal mark ∷ codes "expired" ∷ node_words left
spell (Cut mark) = decimal mark ∷ codes "cut" ∷ []
spell (Summary t) =
    codes "objects" ∷ decimal t.objects ∷ codes "octets" ∷ decimal t.octets
    ∷ codes "handed" ∷ decimal t.handed ∷ codes "lost" ∷ decimal t.lost
    ∷ codes "satisfied" ∷ decimal t.satisfied ∷ codes "expired" ∷ decimal t.expired ∷ codes "cut" ∷ decimal t.cut ∷ []

-- what words say
enq_says : List (List ℕ) → Option Said
enq_says (p ∷ n ∷ instance ∷ index ∷ what ∷ []) = elim (is_text what (codes "open")) [
  | true ↦ Some (Opened (origin p n) (number instance) (number index))
  | false ↦ Some (Closed (origin p n) (number instance) (number index))
]
enq_says (p ∷ n ∷ instance ∷ index ∷ what ∷ len ∷ []) = Some (Enqueued (origin p n) (number instance) (number index) (kind_said what) (number len))
enq_says (p ∷ n ∷ instance ∷ index ∷ what ∷ len ∷ offset ∷ []) = Some (Wrote (origin p n) (number instance) (number index) (number offset) (number len))
enq_says _ = None

mark_says : List (List ℕ) → Option Said
mark_says (p ∷ n ∷ instance ∷ mark ∷ index ∷ block ∷ symbol ∷ []) =
    Some (Marked (origin p n) (number instance) (number mark) (position index block symbol) None)
mark_says (p ∷ n ∷ instance ∷ mark ∷ index ∷ block ∷ symbol ∷ quorum ∷ []) =
    Some (Marked (origin p n) (number instance) (number mark) (position index block symbol) (Some (number quorum)))
mark_says _ = None

restart_says : List (List ℕ) → Option Said
restart_says (p ∷ n ∷ instance ∷ []) = Some (Restarted (origin p n) (number instance))
restart_says _ = None

strike_says : List (List ℕ) → Option Said
strike_says (p ∷ n ∷ node ∷ []) = Some (Struck (origin p n) (number node))
strike_says _ = None

plain_fault : List ℕ → SendFault
plain_fault word = elim (is_text word (codes "empty")) [
  | true ↦ send.Enqueue enqueue.Empty
  | false ↦ elim (is_text word (codes "no-stream")) [
    | true ↦ send.Enqueue enqueue.NoStream
    | false ↦ elim (is_text word (codes "ids-spent")) [ true ↦ send.Enqueue enqueue.IdsSpent | false ↦ send.Mark mark.NothingEnqueued ]
  ]
]

other_fault : List ℕ → ℕ → SendFault
other_fault word n = elim (is_text word (codes "quorum")) [
  | true ↦ send.Mark (mark.Quorum n)
  | false ↦ elim (is_text word (codes "not-member")) [
    | true ↦ send.Strike (strike.NotMember n)
    | false ↦ elim (is_text word (codes "last-member")) [ true ↦ send.Strike (strike.LastMember n) | false ↦ send.IdUsed n ]
  ]
]

number_fault : List ℕ → ℕ → SendFault
number_fault word n = elim (is_text word (codes "too-big")) [
  | true ↦ send.Enqueue (enqueue.TooBig n)
  | false ↦ elim (is_text word (codes "info-too-big")) [
    | true ↦ send.Enqueue (enqueue.InfoTooBig n)
    | false ↦ elim (is_text word (codes "stream-open")) [
      | true ↦ send.Enqueue (enqueue.StreamOpen n)
      | false ↦ elim (is_text word (codes "spent")) [ true ↦ send.Enqueue (enqueue.Stream (stream.Spent n)) | false ↦ other_fault word n ]
    ]
  ]
]

no_says : List (List ℕ) → Option Said
no_says (p ∷ n ∷ word ∷ []) = Some (Refused (origin p n) (plain_fault word))
no_says (p ∷ n ∷ word ∷ value ∷ []) = Some (Refused (origin p n) (number_fault word (number value)))
no_says _ = None

up_of_word : List ℕ → ℕ → Up
up_of_word word index = elim (is_text word (codes "open")) [
  | true ↦ up.StreamOpen index
  | false ↦ elim (is_text word (codes "end")) [ true ↦ up.StreamEnd index | false ↦ up.Lost index ]
]

up_of_four : List ℕ → ℕ → List ℕ → List ℕ → List ℕ → Up
up_of_four word index a b c = elim (is_text word (codes "bytes")) [
  | true ↦ up.StreamBytes index (number a) (octets c)
  | false ↦ up.Object index (kind_said word) (info b) (octets c)
]

up_says : List (List ℕ) → Option Said
up_says (node ∷ instance ∷ index ∷ what ∷ []) = Some (HandedUp (number node) (number instance) (up_of_word what (number index)))
up_says (node ∷ instance ∷ index ∷ what ∷ a ∷ b ∷ c ∷ []) = Some (HandedUp (number node) (number instance) (up_of_four what (number index) a b c))
up_says _ = None

past_says : List (List ℕ) → Option Said
past_says (node ∷ instance ∷ index ∷ block ∷ symbol ∷ []) = Some (Listed (number node) (number instance) (position index block symbol))
past_says _ = None

done_says : List (List ℕ) → Option Said
done_says (mark ∷ what ∷ nodes) = elim (is_text what (codes "satisfied")) [
  | true ↦ Some (Satisfied (number mark))
  | false ↦ elim (is_text what (codes "cut")) [ true ↦ Some (Cut (number mark)) | false ↦ Some (Expired (number mark) (map number nodes)) ]
]
done_says _ = None

end_says : List (List ℕ) → Option Said
end_says (_ ∷ a ∷ _ ∷ b ∷ _ ∷ c ∷ _ ∷ d ∷ _ ∷ e ∷ _ ∷ f ∷ _ ∷ g ∷ []) = Some (Summary (record {
  objects = number a;
  octets = number b;
  handed = number c;
  lost = number d;
  satisfied = number e;
  expired = number f;
  cut = number g;
}))
end_says _ = None

abbrev one_of : List ℕ → List ℕ → Option Said → Option Said → Option Said
one_of word text a b = elim (is_text word text) [ true ↦ a | false ↦ b ]

says : List (List ℕ) → Option Said
says [] = None
says (w ∷ words) =
    one_of w (codes "enq") (enq_says words)
    (one_of w (codes "mark") (mark_says words)
    (one_of w (codes "restart") (restart_says words)
    (one_of w (codes "strike") (strike_says words)
    (one_of w (codes "no") (no_says words)
    (one_of w (codes "up") (up_says words)
    (one_of w (codes "past") (past_says words)
    (one_of w (codes "done") (done_says words)
    (one_of w (codes "end") (end_says words) None))))))))

-- each is a word
kind_is_word : (k : Kind) → is_word (kind_word k) ≡ true
kind_is_word kind.Data = refl
kind_is_word kind.File = refl

info_is_word : (o : Option (List ℕ)) → IfSome o OctetsInRange → is_word (info_word o) ≡ true
info_is_word None h = refl
info_is_word (Some xs) h = hex-word xs h.each

nodes_are_words : (left : List ℕ) → All Is64 left → AreWords (node_words left)
nodes_are_words [] h = tt
nodes_are_words (n ∷ left) h = (decimal-word n (All-head Is64 n left h), nodes_are_words left (All-tail Is64 n left h))

why_are_words : (fault : SendFault) → FaultInRange fault → AreWords (why (reason_of fault))
why_are_words (send.Enqueue enqueue.Empty) h = (refl, tt)
why_are_words (send.Enqueue (enqueue.TooBig len)) h = (refl, (decimal-word len h, tt))
why_are_words (send.Enqueue (enqueue.InfoTooBig len)) h = (refl, (decimal-word len h, tt))
why_are_words (send.Enqueue (enqueue.StreamOpen index)) h = (refl, (decimal-word index h, tt))
why_are_words (send.Enqueue enqueue.NoStream) h = (refl, tt)
why_are_words (send.Enqueue enqueue.IdsSpent) h = (refl, tt)
why_are_words (send.Enqueue (enqueue.Stream (stream.Spent n))) h = (refl, (decimal-word n h, tt))
why_are_words (send.Enqueue (enqueue.Stream stream.Closed)) h = tt
why_are_words (send.Enqueue (enqueue.Stream (stream.Full n))) h = tt
why_are_words (send.Enqueue (enqueue.WindowFull n)) h = tt
why_are_words (send.Enqueue enqueue.Memory) h = tt
why_are_words (send.Mark (mark.Quorum q)) h = (refl, (decimal-word q h, tt))
why_are_words (send.Mark mark.NothingEnqueued) h = (refl, tt)
why_are_words (send.Mark (mark.TooMany n)) h = tt
why_are_words (send.Mark mark.Memory) h = tt
why_are_words (send.Strike (strike.NotMember node)) h = (refl, (decimal-word node h, tt))
why_are_words (send.Strike (strike.LastMember node)) h = (refl, (decimal-word node h, tt))
why_are_words (send.IdUsed n) h = (refl, (decimal-word n h, tt))
why_are_words send.Memory h = tt

enq_are_words : (by : Origin) (instance index : ℕ) (words : List (List ℕ)) → OriginInRange by → Is64 instance → Is64 index → AreWords words
    → AreWords (enq_words by instance index words)
enq_are_words by instance index words o a b rest =
    (decimal-word by.producer o.producer, (decimal-word by.number o.number, (decimal-word instance a, (decimal-word index b, rest))))

at_are_words : (at : Position) → PositionInRange at → AreWords (position_words at)
at_are_words at h = (decimal-word at.index h.index, (decimal-word at.block h.block, (decimal-word at.symbol h.symbol, tt)))

number_are_words : (o : Option ℕ) → IfSome o Is64 → AreWords (number_words o)
number_are_words None h = tt
number_are_words (Some n) h = (decimal-word n h, tt)

mark_are_words : (at : Position) (quorum : Option ℕ) → PositionInRange at → IfSome quorum Is64
    → AreWords (decimal at.index ∷ decimal at.block ∷ decimal at.symbol ∷ number_words quorum)
mark_are_words at quorum h q = (decimal-word at.index h.index, (decimal-word at.block h.block, (decimal-word at.symbol h.symbol, number_are_words quorum q)))

up_are_words : (node instance : ℕ) (u : Up) → UpInRange u → Is64 node → Is64 instance → AreWords (spell_up node instance u)
up_are_words node instance (up.Object index what its contents) h a b = (decimal-word node a, (decimal-word instance b, (decimal-word index h.0, (kind_is_word what, (decimal-word (length contents) h.2.count, (info_is_word its h.1, (hex-word contents h.2.each, tt)))))))
up_are_words node instance (up.StreamOpen index) h a b = (decimal-word node a, (decimal-word instance b, (decimal-word index h, (refl, tt))))
up_are_words node instance (up.StreamBytes index offset contents) h a b = (decimal-word node a, (decimal-word instance b, (decimal-word index h.0, (refl, (decimal-word offset h.1, (decimal-word (length contents) h.2.count, (hex-word contents h.2.each, tt)))))))
up_are_words node instance (up.StreamEnd index) h a b = (decimal-word node a, (decimal-word instance b, (decimal-word index h, (refl, tt))))
up_are_words node instance (up.Lost index) h a b = (decimal-word node a, (decimal-word instance b, (decimal-word index h, (refl, tt))))

are_words : (s : Said) → InRange s → AreWords (first s ∷ spell s)
are_words (Enqueued by instance index what len) h =
    (refl, enq_are_words by instance index (kind_word what ∷ decimal len ∷ []) h.0 h.1 h.2 (kind_is_word what, (decimal-word len h.3, tt)))
are_words (Opened by instance index) h = (refl, enq_are_words by instance index (codes "open" ∷ []) h.0 h.1 h.2 (refl, tt))
are_words (Wrote by instance index offset len) h =
    (refl, enq_are_words by instance index (codes "write" ∷ decimal len ∷ decimal offset ∷ []) h.0 h.1 h.2 (refl, (decimal-word len h.4, (decimal-word offset h.3, tt))))
are_words (Closed by instance index) h = (refl, enq_are_words by instance index (codes "close" ∷ []) h.0 h.1 h.2 (refl, tt))
are_words (Marked by instance mark at quorum) h =
    (refl, enq_are_words by instance mark (decimal at.index ∷ decimal at.block ∷ decimal at.symbol ∷ number_words quorum) h.0 h.1 h.2 (mark_are_words at quorum h.3 h.4))
are_words (Restarted by instance) h =
    (refl, (decimal-word by.producer h.0.producer, (decimal-word by.number h.0.number, (decimal-word instance h.1, tt))))
are_words (Struck by node) h = (refl, (decimal-word by.producer h.0.producer, (decimal-word by.number h.0.number, (decimal-word node h.1, tt))))
are_words (Refused by fault) h = (refl, (decimal-word by.producer h.0.producer, (decimal-word by.number h.0.number, why_are_words fault h.1)))
are_words (HandedUp node instance u) h = (refl, up_are_words node instance u h.0 h.1 h.2)
are_words (Listed node instance at) h = (refl, (decimal-word node h.0, (decimal-word instance h.1, at_are_words at h.2)))
are_words (Satisfied mark) h = (refl, (decimal-word mark h, (refl, tt)))
are_words (Expired mark left) h = (refl, (decimal-word mark h.0, (refl, nodes_are_words left h.1)))
are_words (Cut mark) h = (refl, (decimal-word mark h, (refl, tt)))
are_words (Summary t) h = (refl, (refl, (decimal-word t.objects h.objects, (refl, (decimal-word t.octets h.octets, (refl, (decimal-word t.handed h.handed, (refl, (decimal-word t.lost h.lost, (refl, (decimal-word t.satisfied h.satisfied, (refl, (decimal-word t.expired h.expired, (refl, (decimal-word t.cut h.cut, tt)))))))))))))))

-- what the words say is what was said
nodes_back : (left : List ℕ) → All Is64 left → map number (node_words left) ≡ left
nodes_back [] h = refl
nodes_back (n ∷ left) h =
    ap (λ m. m ∷ map number (node_words left)) (number_back n (All-head Is64 n left h)) ∙ ap (λ more. n ∷ more) (nodes_back left (All-tail Is64 n left h))

-- a fault that has a line
abbrev IsToldOf : SendFault → Type 0
IsToldOf fault = (reason : Reason) × (reason_of fault ≡ Some reason)

no_back : (p n : List ℕ) (fault : SendFault) → FaultInRange fault → IsToldOf fault → no_says (p ∷ n ∷ why (reason_of fault)) ≡ Some (Refused (origin p n) fault)
unfolding no_says plain_fault number_fault other_fault
no_back p n (send.Enqueue enqueue.Empty) h told = refl
no_back p n (send.Enqueue (enqueue.TooBig len)) h told = rw (number_back len h) refl
no_back p n (send.Enqueue (enqueue.InfoTooBig len)) h told = rw (number_back len h) refl
no_back p n (send.Enqueue (enqueue.StreamOpen index)) h told = rw (number_back index h) refl
no_back p n (send.Enqueue enqueue.NoStream) h told = refl
no_back p n (send.Enqueue enqueue.IdsSpent) h told = refl
no_back p n (send.Enqueue (enqueue.Stream (stream.Spent k))) h told = rw (number_back k h) refl
no_back p n (send.Enqueue (enqueue.Stream stream.Closed)) h told = absurd (none-some _ told.1)
no_back p n (send.Enqueue (enqueue.Stream (stream.Full k))) h told = absurd (none-some _ told.1)
no_back p n (send.Enqueue (enqueue.WindowFull k)) h told = absurd (none-some _ told.1)
no_back p n (send.Enqueue enqueue.Memory) h told = absurd (none-some _ told.1)
no_back p n (send.Mark (mark.Quorum q)) h told = rw (number_back q h) refl
no_back p n (send.Mark mark.NothingEnqueued) h told = refl
no_back p n (send.Mark (mark.TooMany k)) h told = absurd (none-some _ told.1)
no_back p n (send.Mark mark.Memory) h told = absurd (none-some _ told.1)
no_back p n (send.Strike (strike.NotMember node)) h told = rw (number_back node h) refl
no_back p n (send.Strike (strike.LastMember node)) h told = rw (number_back node h) refl
no_back p n (send.IdUsed k) h told = rw (number_back k h) refl
no_back p n send.Memory h told = absurd (none-some _ told.1)

up_back : (node instance : ℕ) (u : Up) → UpInRange u → Is64 node → Is64 instance → up_says (spell_up node instance u) ≡ Some (HandedUp node instance u)
unfolding up_says up_of_word up_of_four
up_back node instance (up.Object index kind.Data its contents) h a b =
    rw (number_back node a, number_back instance b, number_back index h.0, kind_back kind.Data, info_back its h.1, octets_back contents h.2.each) refl
up_back node instance (up.Object index kind.File its contents) h a b =
    rw (number_back node a, number_back instance b, number_back index h.0, kind_back kind.File, info_back its h.1, octets_back contents h.2.each) refl
up_back node instance (up.StreamOpen index) h a b = rw (number_back node a, number_back instance b, number_back index h) refl
up_back node instance (up.StreamBytes index offset contents) h a b =
    rw (number_back node a, number_back instance b, number_back index h.0, number_back offset h.1, octets_back contents h.2.each) refl
up_back node instance (up.StreamEnd index) h a b = rw (number_back node a, number_back instance b, number_back index h) refl
up_back node instance (up.Lost index) h a b = rw (number_back node a, number_back instance b, number_back index h) refl

-- what is said is told by a line
abbrev IsTold : Said → Type 0
IsTold (Refused by fault) = IsToldOf fault
IsTold _ = ⊤

back : (s : Said) → InRange s → IsTold s → says (first s ∷ spell s) ≡ Some s
unfolding says enq_says mark_says restart_says strike_says past_says done_says end_says
back (Enqueued by instance index what len) h told =
    rw (origin_back by h.0, number_back instance h.1, number_back index h.2, kind_back what, number_back len h.3) refl
back (Opened by instance index) h told = rw (origin_back by h.0, number_back instance h.1, number_back index h.2) refl
back (Wrote by instance index offset len) h told =
    rw (origin_back by h.0, number_back instance h.1, number_back index h.2, number_back offset h.3, number_back len h.4) refl
back (Closed by instance index) h told = rw (origin_back by h.0, number_back instance h.1, number_back index h.2) refl
back (Marked by instance mark at None) h told =
    rw (origin_back by h.0, number_back instance h.1, number_back mark h.2, position_back at h.3) refl
back (Marked by instance mark at (Some quorum)) h told =
    rw (origin_back by h.0, number_back instance h.1, number_back mark h.2, position_back at h.3, number_back quorum h.4) refl
back (Restarted by instance) h told = rw (origin_back by h.0, number_back instance h.1) refl
back (Struck by node) h told = rw (origin_back by h.0, number_back node h.1) refl
back (Refused by fault) h told =
    no_back (decimal by.producer) (decimal by.number) fault h.1 told ∙ ap (λ o. Some (Refused o fault)) (origin_back by h.0)
back (HandedUp node instance u) h told = up_back node instance u h.0 h.1 h.2
back (Listed node instance at) h told = rw (number_back node h.0, number_back instance h.1, position_back at h.2) refl
back (Satisfied mark) h told = rw (number_back mark h) refl
back (Expired mark left) h told = rw (number_back mark h.0, nodes_back left h.1) refl
back (Cut mark) h told = rw (number_back mark h) refl
back (Summary t) h told =
    rw (
      number_back t.objects h.objects,
      number_back t.octets h.octets,
      number_back t.handed h.handed,
      number_back t.lost h.lost,
      number_back t.satisfied h.satisfied,
      number_back t.expired h.expired,
      number_back t.cut h.cut,
    ) refl

-- the line of what is said
abbrev line_said : Said → List ℕ
line_said s = line (first s) (spell s)

-- the line of an event is that of what is said of it
no_lines : (by : Origin) (fault : SendFault) (o : Option Reason) → reason_of fault ≡ o
    → option_map (no_line by) o ≡ option_map line_said (option_map (λ (reason : Reason). Refused by fault) o)
no_lines by fault None is = refl
no_lines by fault (Some reason) is = ap (λ r. Some (line (codes "no") (decimal by.producer ∷ decimal by.number ∷ why r))) (sym is)

gave_lines : (by : Origin) (instance : ℕ) (what : Verb) (gave : Result Receipt SendFault)
    → gave_line by instance what gave ≡ option_map line_said (gave_said by instance what gave)
gave_lines by instance what (Ok (receipt.Object index len)) = refl
gave_lines by instance what (Ok (receipt.Opened index)) = refl
gave_lines by instance what (Ok (receipt.Wrote index offset len)) = refl
gave_lines by instance what (Ok (receipt.Closed index)) = refl
gave_lines by instance what (Ok (receipt.Mark mark at)) = refl
gave_lines by instance what (Ok (receipt.Restarted next)) = refl
gave_lines by instance what (Ok (receipt.Struck node)) = refl
gave_lines by instance what (Err fault) = no_lines by fault (reason_of fault) refl

up_lines : (node instance : ℕ) (u : Up) → up_line node instance u ≡ line_said (HandedUp node instance u)
up_lines node instance (up.Object index what its contents) = refl
up_lines node instance (up.StreamOpen index) = refl
up_lines node instance (up.StreamBytes index offset contents) = refl
up_lines node instance (up.StreamEnd index) = refl
up_lines node instance (up.Lost index) = refl

news_lines : (instance : ℕ) (left : List ℕ) (n : News) → news_line instance left n ≡ option_map line_said (news_said instance left n)
news_lines instance left (news.Past node at) = refl
news_lines instance left (news.Done mark (outcome.Open many)) = refl
news_lines instance left (news.Done mark outcome.Satisfied) = refl
news_lines instance left (news.Done mark (outcome.Expired many)) = refl
news_lines instance left (news.Done mark outcome.Cut) = refl

offer_lines : (by : Origin) (instance : ℕ) (found : Option Verb) (gave : Result Receipt SendFault)
    → option_and_then (λ v. gave_line by instance v gave) found ≡ option_map line_said (option_and_then (λ v. gave_said by instance v gave) found)
offer_lines by instance None gave = refl
offer_lines by instance (Some v) gave = gave_lines by instance v gave

lines_said : (j : Judged) (e : Event) → line_of j e ≡ option_map line_said (said_of j e)
lines_said j (event.Job by job gave) = offer_lines by (instance_now j) (command_at j.place) gave
lines_said j (event.Length by name len fault) = no_lines by fault (reason_of fault) refl
lines_said j (event.Up node instance u) = ap Some (up_lines node instance u)
lines_said j (event.News n) = news_lines (instance_now j) (left_in j n) n
lines_said j event.End = refl
lines_said j event.Start = refl
lines_said j (event.Turn turn now) = refl
lines_said j (event.Pull by) = refl
lines_said j (event.Tick node sent) = refl
lines_said j (event.Offer from contents) = refl
lines_said j (event.Took to contents) = refl
lines_said j event.Empty = refl

-- what is said of an event is told by a line
refused_told : (by : Origin) (fault : SendFault) (o : Option Reason) → reason_of fault ≡ o
    → IfSome (option_map (λ (reason : Reason). Refused by fault) o) IsTold
refused_told by fault None is = tt
refused_told by fault (Some reason) is = (reason, is)

gave_told : (by : Origin) (instance : ℕ) (what : Verb) (gave : Result Receipt SendFault) → IfSome (gave_said by instance what gave) IsTold
gave_told by instance what (Ok (receipt.Object index len)) = tt
gave_told by instance what (Ok (receipt.Opened index)) = tt
gave_told by instance what (Ok (receipt.Wrote index offset len)) = tt
gave_told by instance what (Ok (receipt.Closed index)) = tt
gave_told by instance what (Ok (receipt.Mark mark at)) = tt
gave_told by instance what (Ok (receipt.Restarted next)) = tt
gave_told by instance what (Ok (receipt.Struck node)) = tt
gave_told by instance what (Err fault) = refused_told by fault (reason_of fault) refl

news_told : (instance : ℕ) (left : List ℕ) (n : News) → IfSome (news_said instance left n) IsTold
news_told instance left (news.Past node at) = tt
news_told instance left (news.Done mark (outcome.Open many)) = tt
news_told instance left (news.Done mark outcome.Satisfied) = tt
news_told instance left (news.Done mark (outcome.Expired many)) = tt
news_told instance left (news.Done mark outcome.Cut) = tt

offer_told : (by : Origin) (instance : ℕ) (found : Option Verb) (gave : Result Receipt SendFault)
    → IfSome (option_and_then (λ v. gave_said by instance v gave) found) IsTold
offer_told by instance None gave = tt
offer_told by instance (Some v) gave = gave_told by instance v gave

is_told : (j : Judged) (e : Event) → IfSome (said_of j e) IsTold
is_told j (event.Job by job gave) = offer_told by (instance_now j) (command_at j.place) gave
is_told j (event.Length by name len fault) = refused_told by fault (reason_of fault) refl
is_told j (event.Up node instance u) = tt
is_told j (event.News n) = news_told (instance_now j) (left_in j n) n
is_told j event.End = tt
is_told j event.Start = tt
is_told j (event.Turn turn now) = tt
is_told j (event.Pull by) = tt
is_told j (event.Tick node sent) = tt
is_told j (event.Offer from contents) = tt
is_told j (event.Took to contents) = tt
is_told j event.Empty = tt

one_line : (s t : Said) → InRange s → InRange t → IsTold s → IsTold t → line_said s ≡ line_said t → Some s ≡ Some t
one_line s t a b told also e =
    sym (back s a told) ∙ ap says (line-back (first s) (first t) (spell s) (spell t) (are_words s a) (are_words t b) e) ∙ back t b also

same_lines : (o p : Option Said) (text : List ℕ) → IfSome o InRange → IfSome p InRange → IfSome o IsTold → IfSome p IsTold
    → option_map line_said o ≡ Some text → option_map line_said p ≡ Some text → o ≡ p
same_lines None p text a b c d e f = absurd (none-some text e)
same_lines (Some s) None text a b c d e f = absurd (none-some text f)
same_lines (Some s) (Some t) text a b c d e f =
    one_line s t a b c d (same_Some (line_said s) text e ∙ sym (same_Some (line_said t) text f))

as_some : {X Y : Type 0} (f : X → Y) (o : Option X) → is_some (option_map f o) ≡ is_some o
as_some f None = refl
as_some f (Some x) = refl

pub lines_read_back : LinesReadBack
lines_read_back = record {
  printed = λ j e. ap is_some (lines_said j e) ∙ as_some line_said (said_of j e);
  same = λ j k e f text a b g h.
      same_lines (said_of j e) (said_of k f) text a b (is_told j e) (is_told k f) (sym (lines_said j e) ∙ g) (sym (lines_said k f) ∙ h);
}
