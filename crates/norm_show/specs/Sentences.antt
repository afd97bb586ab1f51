-- Why a line spells no datagram, as it is shown to people.
use Rattle.std.specs.Prelude.{ℕ, List, codes}
use Rattle.norm_script.specs.Sentences.{sentence_of}
use Rattle.norm_show.specs.declared.fault.NoDatagram.{NoDatagram}
use Rattle.norm_show.specs.declared.fault.NoDatagram.TheVariants.{Long, Spelt, Odd, NoDigit}

abbrev pub sentence_of_none : NoDatagram → List ℕ
sentence_of_none Long = codes "it has more than 3000 octets"
sentence_of_none (Spelt why) = sentence_of why
sentence_of_none Odd = codes "it has an odd number of hexadecimal digits"
sentence_of_none NoDigit = codes "it has an octet that is no hexadecimal digit"
