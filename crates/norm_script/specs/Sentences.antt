-- The sentence of each reason, as it is shown to people.
use Rattle.std.specs.Prelude.{ℕ, List, [], ◌++◌, codes, Option, Some, None}
use Rattle.std.specs.Fmt.{decimal}
use Rattle.norm_base.specs.Keys.{row_of}
use Rattle.norm_script.specs.declared.refusal.Refusal.{Refusal}
use Rattle.norm_script.specs.declared.refusal.Why.{Why}
use Rattle.norm_script.specs.declared.refusal.Why.TheVariants as why

-- of a reason that speaks of a key
abbrev pub sentence_by_key : Why → Option (List ℕ)
sentence_by_key (why.NoNumber key) = Some (codes "the value of " ++ ((row_of key).name ++ codes " is a number, in decimal digits without a sign or leading zeros"))
sentence_by_key (why.NoWord key) = Some (codes "the value is none of the words of " ++ (row_of key).name)
sentence_by_key (why.Below key value) = Some (decimal value ++ (codes " is below " ++ (decimal (row_of key).least ++ (codes ", the least " ++ (row_of key).name))))
sentence_by_key (why.Above key) = Some (codes "the value is above " ++ (decimal (row_of key).greatest ++ (codes ", the greatest " ++ (row_of key).name)))
sentence_by_key (why.Twice key line) = Some (codes "the key " ++ ((row_of key).name ++ (codes " was set on line " ++ decimal line)))
sentence_by_key _ = None

-- of a reason that speaks of numbers alone
abbrev pub sentence_by_numbers : Why → Option (List ℕ)
sentence_by_numbers (why.LongLine octets) = Some (codes "the line has " ++ (decimal octets ++ codes " octets, and a line has at most 16500"))
sentence_by_numbers (why.MaxBelowB max_n b) = Some (codes "max_n is " ++ (decimal max_n ++ (codes ", and has to be at least b, which is " ++ decimal b)))
sentence_by_numbers (why.Buffer blocks b e) = Some (codes "blocks * b * e is " ++ (decimal blocks ++ (codes " * " ++ (decimal b ++ (codes " * " ++ (decimal e ++ codes ", which is above 16777216"))))))
sentence_by_numbers (why.Producer producer producers) = Some (codes "the producer is " ++ (decimal producer ++ (codes ", and there are " ++ decimal producers)))
sentence_by_numbers (why.NameTwice line) = Some (codes "the name stands on line " ++ (decimal line ++ codes " too"))
sentence_by_numbers _ = None

-- of any other
abbrev pub plain_sentence : Why → List ℕ
plain_sentence why.ByteOrderMark = codes "it begins with a byte order mark: write UTF-8 without one"
plain_sentence why.Utf16 = codes "it has an octet 0, 254 or 255, as UTF-16 has: write ASCII or UTF-8"
plain_sentence why.CarriageReturn = codes "it ends with a carriage return: write lines that end with a line feed alone"
plain_sentence why.SpaceAtEnd = codes "it ends with a space"
plain_sentence why.TwoSpaces = codes "it has two spaces in a row: words have one between them"
plain_sentence why.ManyLines = codes "a script has at most 8192 lines"
plain_sentence why.NoForm = codes "it is neither `set KEY VALUE` nor `P VERB ..`, P a producer's number from 1 on"
plain_sentence why.NoKey = codes "it sets no key that there is"
plain_sentence why.AfterCommand = codes "no key is set here: keys are set before every command"
plain_sentence why.NoVerb = codes "a command is data, file, open, write, close, mark, restart or strike, each with its words"
plain_sentence why.NoContents = codes "contents are an even number of hexadecimal digits, 2 to 16384"
plain_sentence why.NoName = codes "a name is 1 to 64 letters, digits, `.`, `_` or `-`, and does not begin with `.`"
plain_sentence why.NoInstance = codes "an instance is a number from 0 to 65535"
plain_sentence why.NoQuorum = codes "a quorum is a number from 1 to 16"
plain_sentence why.NoNode = codes "a node is a number from 1 to 4294967294"
plain_sentence why.ManyCommands = codes "a script has at most 4096 commands"
plain_sentence why.OneProducer = codes "a folder has one producer, and producers is not set"
plain_sentence why.NoDrop = codes "nothing of a folder is dropped: its mode is hold"
plain_sentence why.NoFileName = codes "a file's name is 1 to 64 letters, digits, `.`, `_` or `-`, and begins neither with `.` nor with `n` and a digit"
plain_sentence why.AfterName = codes "no key is set here: keys are set before every name"
plain_sentence why.ManyNames = codes "a folder has at most 1024 files"
plain_sentence why.NoNames = codes "no file is named"
plain_sentence _ = []

abbrev pub sentence_of : Why → List ℕ
sentence_of reason =
    elim (sentence_by_key reason) [ Some s ↦ s | None ↦ elim (sentence_by_numbers reason) [ Some s ↦ s | None ↦ plain_sentence reason ] ]

-- a refused line, with its number
abbrev pub refusal_text : Refusal → List ℕ
refusal_text refusal = codes "line " ++ (decimal refusal.line ++ (codes ": " ++ sentence_of refusal.why))
